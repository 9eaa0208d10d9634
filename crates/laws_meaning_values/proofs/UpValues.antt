-- Programs without code: what the parts around a leaf do leaves a value to each slot that needs one.
use Rattle.std.proofs.Common.{◌≡◌, refl, sym, ap, ◌∙◌, subst, ℕ, ℤ, Bool, true, false, not, if◌then◌else◌, ◌&&◌, ◌||◌, ◌⊎◌, inl, inr, List, [], ◌∷◌, ◌++◌, append_assoc, Option, Some, None, eqb-true}
use Rattle.std.proofs.lemmas.Bool.{and_parts, and_from, or_cases, false≢true}
use Rattle.ceu_tree.specs.declared.kernel.Kernel.{Kernel}
use Rattle.ceu_tree.specs.declared.kernel.Loc.{Loc}
use Rattle.ceu_tree.specs.declared.kernel.KNode.{KNode}
use Rattle.ceu_tree.specs.declared.kernel.KBlock.{KBlock, out-KBlock}
use Rattle.ceu_tree.specs.declared.kernel.KStmt as kernel
use Rattle.ceu_tree.specs.declared.kernel.KStmt.{KStmt, out-KStmt}
use Rattle.ceu_tree.specs.declared.kernel.KStmt.TheOpen.{KStmt-F}
use Rattle.ceu_tree.specs.Residual.{Program, Act, AtHead, Residual, Branches, no_branch, branch, Instances}
use Rattle.ceu_tree.specs.Focus.{Frame, OfBlock, OfInstance, OfOpen, OfLoop, OfCall, OfPar, Here, In, join, fill, body_in}
use Rattle.ceu_tree.specs.World.{World, Holds, set, assign_if}
use Rattle.ceu_tree.specs.Leaf.{Layer, next_of, rest_of}
use Rattle.ceu_tree.specs.Around.{Outcome, Goes, Rests, Raises, Past, AtLoopHead, Leaves, Moved}
use Rattle.ceu_tree.specs.Legal.{before, is_set, is_finalizer}
use Rattle.ceu_tree.specs.Mentions.{is_loc, await_target, body_target, sets}
use Rattle.ceu_tree.specs.Numbering.{block_slots, block_nodes}
use Rattle.ceu_tree.specs.Proper.{Scope, find, pool_slots, pools_seen, is_proper}
use Rattle.laws_meaning_basics.specs.Shape.{Part, ABlock, AStatement, block_scope, opens_part, FrameFits, around_statement, around_end, around_instance, around_part, around_turn, around_call, around_branch}
use Rattle.laws_meaning_basics.proofs.Static.{BlockOk, names_of}
use Rattle.laws_meaning_values.specs.Ground.{has, Ground, Numbered}
use Rattle.laws_meaning_values.specs.Ready.{is_cell, declares}
use Rattle.laws_meaning_values.specs.Needed.{some_done, block_needs, turn_needs, needs, each_needs, frame_needs, focus_needs}
use Rattle.laws_meaning_values.proofs.Stores.{or_left, or_right, set_has}
use Rattle.laws_meaning_values.proofs.Names.{head_target, body_target_is, layer_sets, sets_is, target_sets}
use Rattle.laws_meaning_values.proofs.Positions.{before_at, set_more, declared_cell, Low, Beside}
use Rattle.laws_meaning_values.proofs.NeedsAt.{no_code, head_cell}
use Rattle.laws_meaning_values.proofs.FocusSpares.{decls_ground}
use denote.Hole.Carrier

-- what a statement that is gone past has set
abbrev pub SetNow : Scope → KNode → World → Type 0
SetNow sc s w = (y : ℕ) → is_cell (find y sc.seen) ≡ true → sets y s.stmt ≡ true → has Program y w ≡ true

abbrev pub OutcomeHas : Outcome → Part → World → Type 0
OutcomeHas Past (AStatement sc s) w = SetNow sc s w
OutcomeHas (Leaves node x) (AStatement sc s) w = (y : ℕ) → is_loc y (await_target s.stmt) ≡ true → ⊥
OutcomeHas (Leaves node x) (ABlock turn sc b) w = (y : ℕ) → is_cell (find y sc.seen) ≡ true → is_loc y (body_target b) ≡ true → has Program y w ≡ true
OutcomeHas x d w = Unit {0}

abbrev pub outcome_needs : Outcome → ℕ → Bool
outcome_needs (Goes g) y = focus_needs g y
outcome_needs (Rests r) y = needs r y
outcome_needs (Raises r) y = needs r y
outcome_needs x y = false

abbrev pub is_head_outcome : Outcome → Bool
is_head_outcome AtLoopHead = true
is_head_outcome x = false

pub record UpFine (d : Part) (g : Ground) (w : World) (m : Moved) : Type 0 where
  pub needed : (y : ℕ) → outcome_needs m.outcome y ≡ true → has Program y m.world ≡ true
  pub comes : OutcomeHas m.outcome d m.world
  pub spares : (y : ℕ) → Beside g y → has Program y w ≡ true → has Program y m.world ≡ true

abbrev pub is_at_head : Act → Bool
is_at_head AtHead = true
is_at_head a = false

-- ---- statements that set nothing, or that no await is

abbrev pub awaits : Layer → Option Loc
awaits (KStmt-F.AwaitIn k t) = t
awaits (KStmt-F.AwaitTime e u t) = t
awaits (KStmt-F.AwaitEvent e t) = t
awaits (KStmt-F.AwaitCode c es f t) = t
awaits layer = None

pub awaits_is : (st : KStmt) → await_target st ≡ awaits (out-KStmt st)
unfolding out-KStmt Carrier.out
awaits_is (kernel.AwaitIn k t) = refl
awaits_is st = refl

pub no_await : (s : KNode) (layer : Layer) (y : ℕ) → out-KStmt s.stmt ≡ layer → is_loc y (awaits layer) ≡ false → is_loc y (await_target s.stmt) ≡ true → ⊥
no_await s layer y e h k = false≢true (sym h ∙ sym (ap (is_loc y) (awaits_is s.stmt ∙ ap awaits e)) ∙ k)

pub opens_no_await : (layer : Layer) (b : KBlock) (y : ℕ) → opens_part layer b → is_loc y (awaits layer) ≡ false
opens_no_await (KStmt-F.Do t c) b y o = refl
opens_no_await (KStmt-F.If arms last) b y o = refl
opens_no_await layer b y o = elim o [ ]

pub finalizer_sets : (st : KStmt) (y : ℕ) → is_finalizer st ≡ true → sets y st ≡ true → ⊥
finalizer_sets (kernel.Finalize b) y h e = false≢true e
finalizer_sets st y h e = false≢true h

pub layer_set : (N : List (List ℕ)) (s : KNode) (layer : Layer) (y : ℕ) → out-KStmt s.stmt ≡ layer → sets y s.stmt ≡ true → layer_sets N y layer ≡ true
layer_set N s layer y e h = sym (sets_is N y s.stmt ∙ ap (layer_sets N y) e) ∙ h

pub assigned_has : (t : Option Loc) (v : ℤ) (y : ℕ) (w : World) → is_loc y t ≡ true → has Program y (assign_if Program t v w) ≡ true
assigned_has None v y w h = absurd (false≢true h)
assigned_has (Some l) v y w h = subst (λ z. has Program z (assign_if Program (Some l) v w) ≡ true) (eqb-true l.slot y h) (go l.outer)
  where
    go : (b : Bool) → has Program l.slot (set (if b then Program else Program) l.slot (Holds v) w) ≡ true
    go true = set_has Program l.slot (Holds v) w
    go false = set_has Program l.slot (Holds v) w

pub frame_later : (fr : Frame) (b : Bool) (y : ℕ) → frame_needs fr b y ≡ true → frame_needs fr false y ≡ true
frame_later (OfBlock b fin all rest) t y h = h
frame_later (OfInstance b fin front seat back r rest) t y h = h
frame_later (OfOpen s) t y h = h
frame_later (OfLoop s c) t y h = (and_parts (not t) (turn_needs (out-KStmt s.stmt) y) h).1
frame_later (OfCall s) t y h = h
frame_later (OfPar s front back) t y h = h

pub each_joined : (front back : Branches) (r : Residual) (y : ℕ) → each_needs (join front (branch r back)) y ≡ true → ((each_needs front y || each_needs back y) ≡ true) ⊎ (needs r y ≡ true)
unfolding each_needs
each_joined no_branch back r y h = go (or_cases (needs r y) (each_needs back y) h)
  where
    go : (needs r y ≡ true) ⊎ (each_needs back y ≡ true) → (each_needs back y ≡ true) ⊎ (needs r y ≡ true)
    go (inl e) = inr e
    go (inr e) = inl e
each_joined (branch q more) back r y h = go (or_cases (needs q y) (each_needs (join more (branch r back)) y) h) (each_joined more back r y)
  where
    Goal : Type 0
    Goal = (((needs q y || each_needs more y) || each_needs back y) ≡ true) ⊎ (needs r y ≡ true)

    rest : ((each_needs more y || each_needs back y) ≡ true) ⊎ (needs r y ≡ true) → Goal
    rest (inl e) = inl (side (or_cases (each_needs more y) (each_needs back y) e))
      where
        side : (each_needs more y ≡ true) ⊎ (each_needs back y ≡ true) → ((needs q y || each_needs more y) || each_needs back y) ≡ true
        side (inl u) = or_left (needs q y || each_needs more y) (each_needs back y) (or_right (needs q y) (each_needs more y) u)
        side (inr u) = or_right (needs q y || each_needs more y) (each_needs back y) u
    rest (inr e) = inr e

    go : (needs q y ≡ true) ⊎ (each_needs (join more (branch r back)) y ≡ true) → (each_needs (join more (branch r back)) y ≡ true → ((each_needs more y || each_needs back y) ≡ true) ⊎ (needs r y ≡ true)) → Goal
    go (inl e) ih = inl (or_left (needs q y || each_needs more y) (each_needs back y) (or_left (needs q y) (each_needs more y) e))
    go (inr e) ih = rest (ih e)

module _ (K : Kernel) (proper : is_proper K ≡ true) (plain : K.codes ≡ []) where
  pub fill_needs : {t : ℕ} {fr : Frame} {d e : Part} → FrameFits K t fr d e → (r : Residual) (y : ℕ) → needs (fill fr r) y ≡ true → (frame_needs fr false y ≡ true) ⊎ (needs r y ≡ true)
  unfolding needs
  fill_needs (around_statement {b = b} {rest = rest} done e f all) r y h = or_cases (block_needs b (before (out-KBlock b).list rest) y) (needs r y) h
  fill_needs (around_end {b = b} f all) r y h = or_cases (block_needs b (before (out-KBlock b).list []) y) (needs r y) h
  fill_needs (around_instance {seat = seat} done k e f q front back z c) r y h = absurd (no_code K proper plain seat.code k c)
  fill_needs (around_part b o) r y h = inr h
  fill_needs (around_turn {s = s} k b e c) r y h = or_cases (turn_needs (out-KStmt s.stmt) y) (needs r y) h
  fill_needs (around_call c es f t k e z) r y h = absurd (no_code K proper plain c k z)
  fill_needs (around_branch {before = front} {after = back} k slot bs b cs e p q) r y h = each_joined front back r y h

  pub plain_body : {t : ℕ} {fr : Frame} {d e : Part} → FrameFits K t fr d e → body_in fr Program ≡ Program
  plain_body (around_statement done e f all) = refl
  plain_body (around_end f all) = refl
  plain_body (around_instance {seat = seat} done k e f q front back z c) = absurd (no_code K proper plain seat.code k c)
  plain_body (around_part b o) = refl
  plain_body (around_turn k b e c) = refl
  plain_body (around_call c es f t k e z) = absurd (no_code K proper plain c k z)
  plain_body (around_branch k slot bs b cs e p q) = refl

  -- ---- the next statement of a block

  goes_needs : (sc : Scope) (b : KBlock) (done : List KNode) (s : KNode) (rest : List KNode) (g : Ground) (w : World) (y : ℕ) → (out-KBlock b).list ≡ done ++ s ∷ rest → Numbered (block_slots b) (block_nodes b) g → Low sc g → BlockOk K (names_of K) sc b
      → ((z : ℕ) → block_needs b done z ≡ true → has Program z w ≡ true) → SetNow (block_scope sc b) s w → block_needs b (done ++ s ∷ []) y ≡ true → has Program y w ≡ true
  goes_needs sc b done s rest g w y e on low ok old now h = go (or_cases (declares y (out-KBlock b).decls && is_set (done ++ s ∷ []) y) (is_loc y (body_target b) && some_done (done ++ s ∷ [])) h)
    where
      new : declares y (out-KBlock b).decls ≡ true → (is_set done y ≡ true) ⊎ (sets y s.stmt ≡ true) → has Program y w ≡ true
      new d (inl u) = old y (or_left (declares y (out-KBlock b).decls && is_set done y) (is_loc y (body_target b) && some_done done) (and_from (declares y (out-KBlock b).decls) (is_set done y) d u))
      new d (inr u) = now y (declared_cell y (pool_slots (out-KBlock b).decls ++ pools_seen sc.seen) (out-KBlock b).decls sc.seen g.low (decls_ground b g on).0 d) u

      head : (ds : List KNode) → done ≡ ds → is_loc y (body_target b) ≡ true → has Program y w ≡ true
      head [] q u = now y (head_cell K proper plain sc b y ok low.main u) (target_sets (names_of K) y s.stmt (subst (λ l. is_loc y (head_target (names_of K) l) ≡ true) (e ∙ ap (λ l. l ++ s ∷ rest) q) (sym (ap (is_loc y) (body_target_is (names_of K) b)) ∙ u)))
      head (d ∷ ds) q u = old y (or_right (declares y (out-KBlock b).decls && is_set done y) (is_loc y (body_target b) && some_done done) (and_from (is_loc y (body_target b)) (some_done done) u (ap some_done q)))

      go : ((declares y (out-KBlock b).decls && is_set (done ++ s ∷ []) y) ≡ true) ⊎ ((is_loc y (body_target b) && some_done (done ++ s ∷ [])) ≡ true) → has Program y w ≡ true
      go (inl u) = let a = and_parts (declares y (out-KBlock b).decls) (is_set (done ++ s ∷ []) y) u in new a.0 (set_more y done s a.1)
      go (inr u) = head done refl (and_parts (is_loc y (body_target b)) (some_done (done ++ s ∷ [])) u).0

  pub next_needs : (sc : Scope) (b : KBlock) (fin : List KNode) (all : Instances) (done : List KNode) (s : KNode) (rest : List KNode) (g : Ground) (w : World) (y : ℕ) → (out-KBlock b).list ≡ done ++ s ∷ rest → Numbered (block_slots b) (block_nodes b) g → Low sc g
      → BlockOk K (names_of K) sc b → ((z : ℕ) → block_needs b (before (out-KBlock b).list rest) z ≡ true → has Program z w ≡ true) → SetNow (block_scope sc b) s w
      → focus_needs (In (OfBlock b fin all (rest_of rest)) (Here (next_of rest))) y ≡ true → has Program y w ≡ true
  unfolding focus_needs
  next_needs sc b fin all done s [] g w y e on low ok old now h = go (or_cases (block_needs b (before (out-KBlock b).list []) y) false h)
    where
      go : (block_needs b (before (out-KBlock b).list []) y ≡ true) ⊎ (false ≡ true) → has Program y w ≡ true
      go (inl u) = old y u
      go (inr u) = absurd (false≢true u)
  next_needs sc b fin all done s (q ∷ qs) g w y e on low ok old now h = go (or_cases (block_needs b (before (out-KBlock b).list qs) y) false h)
    where
      at : before (out-KBlock b).list qs ≡ done ++ s ∷ []
      at = before_at b (done ++ s ∷ []) q qs (e ∙ sym (append_assoc done (s ∷ []) (q ∷ qs)))

      go : (block_needs b (before (out-KBlock b).list qs) y ≡ true) ⊎ (false ≡ true) → has Program y w ≡ true
      go (inl u) =
          goes_needs sc b done s (q ∷ qs) g w y e on low ok (λ z v. old z (subst (λ l. block_needs b l z ≡ true) (sym (before_at b done s (q ∷ qs) e)) v)) now (subst (λ l. block_needs b l y ≡ true) at u)
      go (inr u) = absurd (false≢true u)
