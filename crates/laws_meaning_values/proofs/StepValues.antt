-- Programs without code: in a step each slot that is read has a value, and each slot that needs a value after it has one.
use Rattle.std.proofs.Common.{◌≡◌, refl, sym, ap, ◌∙◌, subst, ℕ, ℤ, Bool, true, false, not, if◌then◌else◌, ◌==◌, ◌&&◌, ◌||◌, ◌⊎◌, inl, inr, List, [], ◌∷◌, Option, Some, None, eqb-true}
use Rattle.std.proofs.lemmas.Bool.{and_parts, and_from, or_cases, false≢true}
use Rattle.ceu_tree.specs.declared.kernel.Kernel.{Kernel}
use Rattle.ceu_tree.specs.declared.kernel.KLoop.{KLoop}
use Rattle.ceu_tree.specs.declared.kernel.KLoop.TheVariants as turns
use Rattle.ceu_tree.specs.declared.kernel.ParKind.{ParKind}
use Rattle.ceu_tree.specs.declared.kernel.KNode.{KNode}
use Rattle.ceu_tree.specs.declared.kernel.KBlock.{KBlock, out-KBlock}
use Rattle.ceu_tree.specs.declared.kernel.KStmt.{out-KStmt}
use Rattle.ceu_tree.specs.declared.kernel.KStmt.TheOpen.{KStmt-F}
use Rattle.ceu_tree.specs.Residual.{Program, Act, Begin, Start, Finish, AtEnd, AtHead, Again, Residual, Over, Run, Block, Open, Loop, Call, Par, Branches, no_branch, branch, Instances}
use Rattle.ceu_tree.specs.Legal.{before, is_set}
use Rattle.ceu_tree.specs.Mentions.{is_loc, body_target}
use Rattle.laws_meaning_basics.proofs.Static.{names_of}
use Rattle.laws_meaning_values.specs.Ground.{has}
use Rattle.laws_meaning_values.specs.Needed.{some_done, block_needs, turn_needs, needs, each_needs, at_first_head, frame_needs, focus_needs}
use Rattle.laws_meaning_values.proofs.Names.{layer_sets}
use Rattle.laws_meaning_values.proofs.NeedsAt.{no_code}
use Rattle.ceu_base.specs.declared.kinds.Pos.{Pos}
use Rattle.ceu_base.specs.declared.kinds.Fault.{Fault}
use Rattle.ceu_base.specs.declared.kinds.Mark.TheVariants as mark
use Rattle.std.specs.Prelude.{Result, Ok, Err}
use Rattle.ceu_tree.specs.declared.kernel.KArm.{KArm}
use Rattle.ceu_tree.specs.Residual.{WaitInput, WaitTime, WaitEvent, WaitForever, InAsync}
use Rattle.ceu_tree.specs.Focus.{Frame, OfBlock, OfInstance, OfOpen, OfLoop, OfCall, OfPar, Focus, Here, In, fill, plug, graft, leaf, has_body}
use Rattle.ceu_tree.specs.World.{World, marked, Cell, NotSet, Names, set, assign_if, look}
use Rattle.ceu_tree.specs.Expressions.{value_of, value_if, names_living}
use Rattle.ceu_tree.specs.Wake.{each_leaf, each_in_branches, each_in_body, woken, by_event}
use Rattle.ceu_tree.specs.Leaf as does
use Rattle.ceu_tree.specs.Leaf.{Layer, Exit, Does, Opens, Waits, Passes, Kills, Done, or_fails, code_at, target, target_of, chosen_part, branches_from, in_branches, loop_reached, called, spawning, killing, started, next_of, rest_of, acted}
use Rattle.ceu_tree.specs.Around.{Past, Leaves}
use Rattle.ceu_tree.specs.Step.{unseat_frame, unseat, killed_in, killed}
use Rattle.ceu_tree.specs.Proper.{Scope, is_proper}
use Rattle.laws_meaning_basics.specs.Shape.{Part, AStatement, pauses, AllFit, none_lives, one_lives, FrameFits, around_statement, around_end, around_instance, around_part, around_turn, around_call, around_branch, Around, nothing_around, one_around, ActFits, begins, heads, goes_again, starts, finishes, ends}
use Rattle.laws_meaning_basics.proofs.UpFits.{Sound, frame_sound, layer_of}
use Rattle.laws_meaning_values.specs.Ready.{declares, Ready}
use Rattle.laws_meaning_values.proofs.Stores.{or_left, or_right, set_keeps, set_has, assign_if_keeps}
use Rattle.laws_meaning_values.proofs.Positions.{before_at, before_first}
use Rattle.laws_meaning_values.proofs.Readies.{ready_list, ready_part, ready_turn, ready_branch}
use Rattle.laws_meaning_values.proofs.UpValues.{is_at_head, SetNow, OutcomeHas, awaits, no_await, layer_set, assigned_has, frame_later, fill_needs}

pub not_first : (f : Focus Act) → is_at_head (leaf f) ≡ false → at_first_head f ≡ false
not_first (Here AtHead) h = h
not_first (Here (Begin b)) h = refl
not_first (Here (Start s)) h = refl
not_first (Here (Finish s v)) h = refl
not_first (Here AtEnd) h = refl
not_first (Here Again) h = refl
not_first (In fr f) h = refl

either : (x a b : Bool) → (a ≡ true → b ≡ true) → (x || a) ≡ true → (x || b) ≡ true
either true a b f h = refl
either false a b f h = f h

both : (a c b d : Bool) → (a ≡ true → b ≡ true) → (c ≡ true → d ≡ true) → (a || c) ≡ true → (b || d) ≡ true
both true c b d f g h = or_left b d (f refl)
both false c b d f g h = or_right b d (g h)

module _ (K : Kernel) (proper : is_proper K ≡ true) (plain : K.codes ≡ []) where
  abbrev N : List (List ℕ)
  N = names_of K

  -- ---- a leaf may name what it names

  pub ready_down : {t : ℕ} (f : Focus Act) (d e : Part) (w : World) → Around K t Act f d e → Sound K proper d → Ready K Program w d → is_at_head (leaf f) ≡ false → ((y : ℕ) → focus_needs f y ≡ true → has Program y w ≡ true) → Ready K Program w e
  unfolding focus_needs
  ready_down (Here a) d e w nothing_around ok h l own = h
  ready_down (In fr f) d e w (one_around {e = c} a more) ok h l own =
      ready_down f c e w more (frame_sound K proper a ok) (go fr d c a ok h (λ y q. own y (or_left (frame_needs fr (at_first_head f) y) (focus_needs f y) q))) l (λ y q. own y (or_right (frame_needs fr (at_first_head f) y) (focus_needs f y) q))
    where
      go : {t : ℕ} (fr : Frame) (d c : Part) → FrameFits K t fr d c → Sound K proper d → Ready K Program w d → ((y : ℕ) → frame_needs fr (at_first_head f) y ≡ true → has Program y w ≡ true) → Ready K Program w c
      go (OfBlock b fin all rest) d c (around_statement {turn = turn} {sc = sc} {s = s} done e z i) ok h own =
          ready_list K Program w turn sc b done s rest ok e
          (λ y p q. own y (subst (λ l. block_needs b l y ≡ true) (sym (before_at b done s rest e)) (or_left (declares y (out-KBlock b).decls && is_set done y) (is_loc y (body_target b) && some_done done) (and_from (declares y (out-KBlock b).decls) (is_set done y) p q)))) h
      go fr d c (around_end z i) ok h own = tt
      go fr d c (around_instance {seat = seat} done k e z i front back p q) ok h own = absurd (no_code K proper plain seat.code k q)
      go (OfOpen s) d c (around_part {sc = sc} b o) ok h own = ready_part K Program w sc s b o h
      go (OfLoop s j) d c (around_turn {sc = sc} k b e o) ok h own =
          ready_turn K Program w sc s k b e (λ y q. own y (and_from (not (at_first_head f)) (turn_needs (out-KStmt s.stmt) y) (ap not (not_first f l)) (subst (λ l. turn_needs l y ≡ true) (sym e) q))) h
      go fr d c (around_call m es g t k e q) ok h own = absurd (no_code K proper plain m k q)
      go (OfPar s front back) d c (around_branch {sc = sc} k slot bs b cs e p q) ok h own = ready_branch K Program w sc s k slot bs b cs e h

  -- ---- what a leaf does by itself

  abbrev pub ActDone : Part → Does → World → Type 0
  ActDone d (Opens x) w = (y : ℕ) → focus_needs x y ≡ true → ⊥
  ActDone d (Waits r) w = (y : ℕ) → needs r y ≡ true → ⊥
  ActDone d Passes w = OutcomeHas Past d w
  ActDone d (does.Leaves node x) w = OutcomeHas (Leaves node x) d w
  ActDone d (Kills k) w = OutcomeHas Past d w
  ActDone d x w = Unit {0}

  module _ (w : World) where
    -- the world after it, and what it comes to
    pub record ActFine (d : Part) (m : Done) : Type 0 where
      pub done : ActDone d m.does m.world
      pub keeps : (y : ℕ) → has Program y w ≡ true → has Program y m.world ≡ true

    same_world : (d : Part) (x : Does) → ActDone d x w → ActFine d (does.done x w)
    same_world d x h = record { done = h; keeps = λ y e. e }

    or_fails_fine : {A : Type 0} (d : Part) (a : Result A (Fault × Pos)) (go : A → Done) → ((v : A) → ActFine d (go v)) → ActFine d (or_fails a w go)
    or_fails_fine d (Ok v) go h = h v
    or_fails_fine d (Err e) go h = record { done = tt; keeps = λ y q. q }

    nothing_set : (sc : Scope) (s : KNode) (layer : Layer) (u : World) → out-KStmt s.stmt ≡ layer → ((y : ℕ) → layer_sets N y layer ≡ false) → SetNow sc s u
    nothing_set sc s layer u e f = λ y c h. absurd (false≢true (sym (f y) ∙ layer_set N s layer y e h))

    parts_fine : (sc : Scope) (s : KNode) (arms : List KArm) (last : KBlock) (u : World) → ActFine (AStatement sc s) (or_fails (chosen_part arms last Program u) w (λ b. does.done (does.opened s b) w))
    unfolding focus_needs
    parts_fine sc s arms last u = or_fails_fine (AStatement sc s) (chosen_part arms last Program u) _ (λ b. same_world (AStatement sc s) (does.opened s b) (λ y h. false≢true h))

    loop_fine : (sc : Scope) (s : KNode) (k : KLoop) → ActFine (AStatement sc s) (loop_reached s k Program w)
    unfolding focus_needs
    loop_fine sc s turns.Free = same_world (AStatement sc s) _ (λ y h. false≢true h)
    loop_fine sc s (turns.Times slot m) = same_world (AStatement sc s) _ (λ y h. false≢true h)
    loop_fine sc s (turns.Range i next end open_a a b open_b) = or_fails_fine (AStatement sc s) (value_of a Program w) _ (λ u. or_fails_fine (AStatement sc s) (value_of b Program w) _ (λ v. same_world (AStatement sc s) _ (λ y h. false≢true h)))

    fresh_branches : (n : ℕ) (bs : List KBlock) (y : ℕ) → each_needs (branches_from n bs) y ≡ true → ⊥
    unfolding each_needs
    fresh_branches n [] y h = false≢true h
    fresh_branches n (b ∷ bs) y h = fresh_branches n bs y h

    branches_fine : (sc : Scope) (s : KNode) (n : ℕ) (k : ParKind) (slot : ℕ) (bs : List KBlock) → out-KStmt s.stmt ≡ KStmt-F.Par k slot bs → ActDone (AStatement sc s) (in_branches n s bs) w
    unfolding focus_needs each_needs
    branches_fine sc s n k slot [] e = nothing_set sc s (KStmt-F.Par k slot []) w e (λ y. refl)
    branches_fine sc s n k slot (b ∷ bs) e = λ y h. go y (or_cases (each_needs (branches_from n bs) y) false h)
      where
        go : (y : ℕ) → (each_needs (branches_from n bs) y ≡ true) ⊎ (false ≡ true) → ⊥
        go y (inl u) = fresh_branches n bs y u
        go y (inr u) = false≢true u

    killing_fine : (sc : Scope) (s : KNode) (o : Option Cell) (living : List ℕ) → SetNow sc s w → ActDone (AStatement sc s) (killing o living) w
    killing_fine sc s (Some (Names m)) living h = go (names_living (Some (Names m)) living)
      where
        go : (b : Bool) → ActDone (AStatement sc s) (if b then Kills m else Passes) w
        go true = h
        go false = h
    killing_fine sc s o living h = h

    leaving : (sc : Scope) (s : KNode) (layer : Layer) (node : ℕ) (x : Exit) → out-KStmt s.stmt ≡ layer → ((y : ℕ) → is_loc y (awaits layer) ≡ false) → ActDone (AStatement sc s) (does.Leaves node x) w
    leaving sc s layer node x e f = λ y h. no_await s layer y e (f y) h

    started_fine : (n : ℕ) (sc : Scope) (s : KNode) (layer : Layer) → out-KStmt s.stmt ≡ layer → Sound K proper (AStatement sc s) → ActFine (AStatement sc s) (started K n Program s layer w)
    unfolding needs focus_needs
    started_fine n sc s KStmt-F.Nothing e ok = same_world _ _ (nothing_set sc s _ w e (λ y. refl))
    started_fine n sc s (KStmt-F.Assign l x) e ok = or_fails_fine (AStatement sc s) (value_of x Program w) _
        (λ v. record { done = λ y c h. assigned_has (Some l) v y w (layer_set N s (KStmt-F.Assign l x) y e h); keeps = λ y q. assign_if_keeps Program y Program (Some l) v w q })
    started_fine n sc s (KStmt-F.Out k x) e ok = or_fails_fine (AStatement sc s) (value_if x Program w) _ (λ v. record { done = nothing_set sc s (KStmt-F.Out k x) (marked (mark.Output k v) w) e (λ y. refl); keeps = λ y q. q })
    started_fine n sc s (KStmt-F.Emit k x) e ok = or_fails_fine (AStatement sc s) (value_if x Program w) _ (λ v. same_world _ _ tt)
    started_fine n sc s (KStmt-F.AwaitIn k t) e ok = same_world _ _ (λ y h. false≢true h)
    started_fine n sc s (KStmt-F.AwaitTime x u t) e ok = or_fails_fine (AStatement sc s) (value_of x Program w) _ (λ v. same_world _ _ (λ y h. false≢true h))
    started_fine n sc s (KStmt-F.AwaitEvent k t) e ok = same_world _ _ (λ y h. false≢true h)
    started_fine n sc s KStmt-F.Forever e ok = same_world _ _ (λ y h. false≢true h)
    started_fine n sc s (KStmt-F.AwaitCode c es g t) e ok = let f = layer_of K proper sc s (KStmt-F.AwaitCode c es g t) e ok in absurd (no_code K proper plain c f.1 f.2)
    started_fine n sc s (KStmt-F.Spawn c es p a) e ok = let f = layer_of K proper sc s (KStmt-F.Spawn c es p a) e ok in absurd (no_code K proper plain c f.1 f.2)
    started_fine n sc s (KStmt-F.Kill c) e ok = same_world _ _ (killing_fine sc s (look Program c w.values) w.living (nothing_set sc s _ w e (λ y. refl)))
    started_fine n sc s (KStmt-F.Unset c) e ok = record {
      done = λ y q h. subst (λ z. has Program z (set Program c NotSet w) ≡ true) (eqb-true c y (layer_set N s (KStmt-F.Unset c) y e h)) (set_has Program c NotSet w);
      keeps = λ y q. set_keeps Program y Program c NotSet w q;
    }
    started_fine n sc s (KStmt-F.Async b) e ok = same_world _ _ (λ y h. false≢true h)
    started_fine n sc s (KStmt-F.Finalize b) e ok = same_world _ _ tt
    started_fine n sc s (KStmt-F.Do t b) e ok = same_world _ _ (λ y h. false≢true h)
    started_fine n sc s (KStmt-F.Escape m x) e ok = or_fails_fine (AStatement sc s) (value_if x Program w) _ (λ v. same_world _ _ (leaving sc s (KStmt-F.Escape m x) m (does.Escape v) e (λ y. refl)))
    started_fine n sc s (KStmt-F.Break m) e ok = same_world _ _ (leaving sc s (KStmt-F.Break m) m does.Break e (λ y. refl))
    started_fine n sc s (KStmt-F.Continue m) e ok = same_world _ _ (leaving sc s (KStmt-F.Continue m) m does.Continue e (λ y. refl))
    started_fine n sc s (KStmt-F.If arms last) e ok = parts_fine sc s arms last w
    started_fine n sc s (KStmt-F.Loop k b) e ok = loop_fine sc s k
    started_fine n sc s (KStmt-F.Par k slot bs) e ok = same_world _ _ (branches_fine sc s n k slot bs e)

    finished_set : (sc : Scope) (s : KNode) (v : ℤ) (layer : Layer) → out-KStmt s.stmt ≡ layer → pauses layer ≡ true → Sound K proper (AStatement sc s) → SetNow sc s (assign_if Program (target_of layer) v w)
    finished_set sc s v (KStmt-F.Emit k x) e p ok = nothing_set sc s (KStmt-F.Emit k x) (assign_if Program (target_of (KStmt-F.Emit k x)) v w) e (λ y. refl)
    finished_set sc s v (KStmt-F.AwaitIn k t) e p ok = λ y c h. assigned_has t v y w (layer_set N s (KStmt-F.AwaitIn k t) y e h)
    finished_set sc s v (KStmt-F.AwaitTime x u t) e p ok = λ y c h. assigned_has t v y w (layer_set N s (KStmt-F.AwaitTime x u t) y e h)
    finished_set sc s v (KStmt-F.AwaitEvent k t) e p ok = λ y c h. assigned_has t v y w (layer_set N s (KStmt-F.AwaitEvent k t) y e h)
    finished_set sc s v (KStmt-F.Async b) e p ok = nothing_set sc s (KStmt-F.Async b) (assign_if Program (target_of (KStmt-F.Async b)) v w) e (λ y. refl)
    finished_set sc s v (KStmt-F.Spawn c es q a) e p ok = let f = layer_of K proper sc s (KStmt-F.Spawn c es q a) e ok in absurd (no_code K proper plain c f.1 f.2)
    finished_set sc s v layer e p ok = absurd (false≢true p)

    block_first : (b : KBlock) (y : ℕ) → block_needs b [] y ≡ true → ⊥
    block_first b y h = go (or_cases (declares y (out-KBlock b).decls && false) (is_loc y (body_target b) && false) h)
      where
        go : ((declares y (out-KBlock b).decls && false) ≡ true) ⊎ ((is_loc y (body_target b) && false) ≡ true) → ⊥
        go (inl u) = false≢true (and_parts (declares y (out-KBlock b).decls) false u).1
        go (inr u) = false≢true (and_parts (is_loc y (body_target b)) false u).1

    pub acted_fine : (n : ℕ) (d : Part) (a : Act) → ActFits d a → Sound K proper d → ActFine d (acted K n Program a w)
    unfolding focus_needs
    acted_fine n d (Begin b) begins ok = same_world _ _ (λ y h. go y (or_cases (block_needs b (before (out-KBlock b).list (rest_of (out-KBlock b).list)) y) false h))
      where
        go : (y : ℕ) → (block_needs b (before (out-KBlock b).list (rest_of (out-KBlock b).list)) y ≡ true) ⊎ (false ≡ true) → ⊥
        go y (inl u) = block_first b y (subst (λ l. block_needs b l y ≡ true) (before_first (out-KBlock b).list) u)
        go y (inr u) = false≢true u
    acted_fine n d AtHead heads ok = same_world _ _ tt
    acted_fine n d Again goes_again ok = same_world _ _ tt
    acted_fine n d (Start s) (starts {sc = sc}) ok = started_fine n sc s (out-KStmt s.stmt) refl ok
    acted_fine n d (Finish s v) (finishes {sc = sc} p) ok = record { done = finished_set sc s v (out-KStmt s.stmt) refl p ok; keeps = λ y q. assign_if_keeps Program y Program (target s) v w q }
    acted_fine n d AtEnd ends ok = same_world _ _ tt

  -- ---- trees and turns

  pub plug_needs : {t : ℕ} (f : Focus Act) (d e : Part) (r : Residual) (y : ℕ) → Around K t Act f d e → is_at_head (leaf f) ≡ false → needs (plug f r) y ≡ true → (focus_needs f y ≡ true) ⊎ (needs r y ≡ true)
  unfolding focus_needs
  plug_needs (Here a) d e r y nothing_around l h = inr h
  plug_needs (In fr f) d e r y (one_around {e = c} a more) l h = go (fill_needs K proper plain a (plug f r) y h) (plug_needs f c e r y more l)
    where
      rest : (focus_needs f y ≡ true) ⊎ (needs r y ≡ true) → ((frame_needs fr (at_first_head f) y || focus_needs f y) ≡ true) ⊎ (needs r y ≡ true)
      rest (inl u) = inl (or_right (frame_needs fr (at_first_head f) y) (focus_needs f y) u)
      rest (inr u) = inr u

      go : (frame_needs fr false y ≡ true) ⊎ (needs (plug f r) y ≡ true) → (needs (plug f r) y ≡ true → (focus_needs f y ≡ true) ⊎ (needs r y ≡ true)) → ((frame_needs fr (at_first_head f) y || focus_needs f y) ≡ true) ⊎ (needs r y ≡ true)
      go (inl u) ih = inl (or_left (frame_needs fr (at_first_head f) y) (focus_needs f y) (subst (λ b. frame_needs fr b y ≡ true) (sym (not_first f l)) u))
      go (inr u) ih = rest (ih u)

  pub graft_needs : (f x : Focus Act) (y : ℕ) → is_at_head (leaf f) ≡ false → focus_needs (graft f x) y ≡ true → (focus_needs f y ≡ true) ⊎ (focus_needs x y ≡ true)
  unfolding focus_needs
  graft_needs (Here a) x y l h = inr h
  graft_needs (In fr f) x y l h = go (or_cases (frame_needs fr (at_first_head (graft f x)) y) (focus_needs (graft f x) y) h) (graft_needs f x y l)
    where
      rest : (focus_needs f y ≡ true) ⊎ (focus_needs x y ≡ true) → ((frame_needs fr (at_first_head f) y || focus_needs f y) ≡ true) ⊎ (focus_needs x y ≡ true)
      rest (inl u) = inl (or_right (frame_needs fr (at_first_head f) y) (focus_needs f y) u)
      rest (inr u) = inr u

      go : (frame_needs fr (at_first_head (graft f x)) y ≡ true) ⊎ (focus_needs (graft f x) y ≡ true) → (focus_needs (graft f x) y ≡ true → (focus_needs f y ≡ true) ⊎ (focus_needs x y ≡ true)) → ((frame_needs fr (at_first_head f) y || focus_needs f y) ≡ true) ⊎ (focus_needs x y ≡ true)
      go (inl u) ih = inl (or_left (frame_needs fr (at_first_head f) y) (focus_needs f y) (subst (λ b. frame_needs fr b y ≡ true) (sym (not_first f l)) (frame_later fr (at_first_head (graft f x)) y u)))
      go (inr u) ih = rest (ih u)

  module _ (g : Residual → Residual) (keeps : (r : Residual) (y : ℕ) → needs (g r) y ≡ true → needs r y ≡ true) where
    mutual
      unfolding needs each_leaf

      pub leaf_needs : (r : Residual) (y : ℕ) → needs (each_leaf g r) y ≡ true → needs r y ≡ true
      leaf_needs (Block b fin all r rest) y h = either (block_needs b (before (out-KBlock b).list rest) y) (needs (each_leaf g r) y) (needs r y) (leaf_needs r y) h
      leaf_needs (Open s r) y h = leaf_needs r y h
      leaf_needs (Loop s c r) y h = either (turn_needs (out-KStmt s.stmt) y) (needs (each_leaf g r) y) (needs r y) (leaf_needs r y) h
      leaf_needs (Call s r) y h = leaf_needs r y h
      leaf_needs (Par s bs) y h = leaf_each bs y h
      leaf_needs Over y h = h
      leaf_needs (Run n a) y h = keeps (Run n a) y h
      leaf_needs (WaitInput k s) y h = keeps (WaitInput k s) y h
      leaf_needs (WaitTime k s) y h = keeps (WaitTime k s) y h
      leaf_needs (WaitEvent k s) y h = keeps (WaitEvent k s) y h
      leaf_needs (WaitForever s) y h = keeps (WaitForever s) y h
      leaf_needs (InAsync s served r) y h = keeps (InAsync s served r) y h

      leaf_each : (bs : Branches) (y : ℕ) → each_needs (each_in_branches g bs) y ≡ true → each_needs bs y ≡ true
      leaf_each no_branch y h = h
      leaf_each (branch r more) y h = both (needs (each_leaf g r) y) (each_needs (each_in_branches g more) y) (needs r y) (each_needs more y) (leaf_needs r y) (leaf_each more y) h

  pub by_event_needs : (level event : ℕ) (v : ℤ) (r : Residual) (y : ℕ) → needs (by_event level event v r) y ≡ true → needs r y ≡ true
  unfolding needs
  by_event_needs level event v (WaitEvent k s) y h = go (k == event) h
    where
      go : (b : Bool) → needs (if b then Run level (Finish s v) else WaitEvent k s) y ≡ true → false ≡ true
      go true e = e
      go false e = e
  by_event_needs level event v r y h = h

  plain_flat : {A : Type 0} {t : ℕ} {f : Focus A} {d e : Part} → Around K t A f d e → has_body f ≡ false
  plain_flat nothing_around = refl
  plain_flat (one_around (around_statement done e z i) more) = plain_flat more
  plain_flat (one_around (around_end z i) more) = plain_flat more
  plain_flat (one_around (around_instance {seat = seat} done k e z i front back p q) more) = absurd (no_code K proper plain seat.code k q)
  plain_flat (one_around (around_part b o) more) = plain_flat more
  plain_flat (one_around (around_turn k b e o) more) = plain_flat more
  plain_flat (one_around (around_call m es g u k e q) more) = absurd (no_code K proper plain m k q)
  plain_flat (one_around (around_branch k slot bs b cs e p q) more) = plain_flat more

  pub woken_flat : {t : ℕ} (code : Option ℕ) (g : Residual → Residual) (f : Focus Act) (r : Residual) (d e : Part) → Around K t Act f d e → woken code g f r ≡ each_leaf g (plug f r)
  woken_flat None g f r d e a = refl
  woken_flat (Some code) g (Here a) r d e x = refl
  woken_flat (Some code) g (In fr f) r d e x = ap (λ b. if b then fill fr (each_in_body g f r) else each_leaf g (plug (In fr f) r)) (plain_flat x)

  pub unseated_first : (k : ℕ) (f : Focus Act) → at_first_head (unseat k f) ≡ at_first_head f
  unseated_first k (Here a) = refl
  unseated_first k (In fr f) = refl

  unseated_frame_needs : (k : ℕ) (fr : Frame) (b : Bool) (y : ℕ) → frame_needs (unseat_frame k fr) b y ≡ frame_needs fr b y
  unseated_frame_needs k (OfBlock b fin all rest) t y = refl
  unseated_frame_needs k (OfInstance b fin front seat back r rest) t y = refl
  unseated_frame_needs k (OfOpen s) t y = refl
  unseated_frame_needs k (OfLoop s c) t y = refl
  unseated_frame_needs k (OfCall s) t y = refl
  unseated_frame_needs k (OfPar s front back) t y = refl

  pub unseated_needs : (k : ℕ) (f : Focus Act) (y : ℕ) → focus_needs (unseat k f) y ≡ focus_needs f y
  unfolding focus_needs
  unseated_needs k (Here a) y = refl
  unseated_needs k (In fr f) y =
      ap (λ b. b || focus_needs (unseat k f) y) (unseated_frame_needs k fr (at_first_head (unseat k f)) y ∙ ap (λ b. frame_needs fr b y) (unseated_first k f)) ∙ ap (λ b. frame_needs fr (at_first_head f) y || b) (unseated_needs k f y)

  pub unseated_leaf : (k : ℕ) (f : Focus Act) → leaf (unseat k f) ≡ leaf f
  unseated_leaf k (Here a) = refl
  unseated_leaf k (In fr f) = unseated_leaf k f

  none_killed : {t : ℕ} {sc : Scope} {all : Instances} (k : ℕ) (w : World) → AllFit K t sc all → killed_in k all w ≡ w
  none_killed k w none_lives = refl
  none_killed k w (one_lives {seat = seat} c p e h more) = absurd (no_code K proper plain seat.code c e)

  pub killed_same : {t : ℕ} {f : Focus Act} {d e : Part} (k : ℕ) (w : World) → Around K t Act f d e → killed k f w ≡ w
  killed_same k w nothing_around = refl
  killed_same {f = In fr f} k w (one_around (around_statement done e z i) more) = ap (killed k f) (none_killed k w i) ∙ killed_same k w more
  killed_same {f = In fr f} k w (one_around (around_end z i) more) = ap (killed k f) (none_killed k w i) ∙ killed_same k w more
  killed_same k w (one_around (around_instance {seat = seat} done c e z i front back p q) more) = absurd (no_code K proper plain seat.code c q)
  killed_same k w (one_around (around_part b o) more) = killed_same k w more
  killed_same k w (one_around (around_turn c b e o) more) = killed_same k w more
  killed_same k w (one_around (around_call m es g u c e q) more) = absurd (no_code K proper plain m c q)
  killed_same k w (one_around (around_branch c slot bs b cs e p q) more) = killed_same k w more
