-- What the parts around a leaf do with what it comes to leaves a value to each slot that is needed.
use Rattle.std.proofs.Common.{◌≡◌, refl, sym, ap, ◌∙◌, subst, ◌≤◌, ◌<◌, ℕ, suc, ◌+◌, ℤ, pos, ◌+ℤ◌, int_lt, Bool, true, false, if◌then◌else◌, ◌==◌, ◌&&◌, ◌||◌, ◌⊎◌, inl, inr, List, [], ◌∷◌, ◌++◌, append_assoc, Option, Some, None, arith}
use Rattle.std.proofs.lemmas.Bool.{and_parts, and_from, or_cases, cases_lt, false≢true}
use Rattle.ceu_base.specs.declared.kinds.Fault.TheVariants.{LoopLimit}
use Rattle.ceu_base.specs.declared.kinds.Mark.TheVariants as mark
use Rattle.ceu_tree.specs.declared.kernel.Kernel.{Kernel}
use Rattle.ceu_tree.specs.declared.kernel.KLoop.{KLoop}
use Rattle.ceu_tree.specs.declared.kernel.KLoop.TheVariants as turns
use Rattle.ceu_tree.specs.declared.kernel.Loc.{Loc}
use Rattle.ceu_tree.specs.declared.kernel.ParKind.{ParKind}
use Rattle.ceu_tree.specs.declared.kernel.ParKind.TheVariants as par
use Rattle.ceu_tree.specs.declared.kernel.KNode.{KNode}
use Rattle.ceu_tree.specs.declared.kernel.KBlock.{KBlock, out-KBlock}
use Rattle.ceu_tree.specs.declared.kernel.KStmt.{out-KStmt}
use Rattle.ceu_tree.specs.declared.kernel.KStmt.TheOpen.{KStmt-F}
use Rattle.ceu_tree.specs.Residual.{Body, Awaited, Spawned, same_body, Act, Begin, Again, Counter, Free, Turns, Upward, Over, Loop, Par, Branches, branch, Instances}
use Rattle.ceu_tree.specs.Focus.{Frame, OfBlock, OfInstance, OfOpen, OfLoop, OfCall, OfPar, Focus, Here, In, join, plug, leaf, body_in, body_of}
use Rattle.ceu_tree.specs.World.{World, Holds, marked, set, assign_if, dead}
use Rattle.ceu_tree.specs.Abort.{aborted, closed, forget_loop, returned}
use Rattle.ceu_tree.specs.Leaf.{Layer, Exit, Escape, Break, Continue, target, target_of, next_of, rest_of}
use Rattle.ceu_tree.specs.Around.{Outcome, Goes, Rests, Raises, Fails, Past, Registers, AtBlockEnd, AtLoopHead, Ends, Leaves, Moved, moved, value_with, body_left, open_left, begins_turn, turn_of, next_turn, loop_exit, loop_left, all_over, kind_of, rejoined, through, up, taken, answered}
use Rattle.ceu_tree.specs.Legal.{before, is_set}
use Rattle.ceu_tree.specs.Mentions.{is_loc, await_target, body_target, sets}
use Rattle.ceu_tree.specs.Numbering.{block_slots, block_nodes}
use Rattle.ceu_tree.specs.Proper.{Scope, find, pool_slots, pools_seen, is_proper}
use Rattle.laws_meaning_basics.specs.Shape.{Part, ABlock, AStatement, block_scope, turn_scope, opens_part, counts, FrameFits, around_statement, around_end, around_instance, around_part, around_turn, around_call, around_branch, Around, nothing_around, one_around, Comes}
use Rattle.laws_meaning_basics.proofs.Static.{BlockOk, StmtOk, names_of}
use Rattle.laws_meaning_basics.proofs.UpFits.{Sound, frame_sound, up_fits}
use Rattle.laws_meaning_basics.proofs.StepFits.{Closed}
use Rattle.laws_meaning_values.specs.Ground.{has, Ground, Numbered, On}
use Rattle.laws_meaning_values.specs.Needed.{some_done, own_variable, turn_needs}
use Rattle.laws_meaning_values.specs.Ready.{is_cell, declares}
use Rattle.laws_meaning_values.proofs.FocusSpares.{decls_ground}
use Rattle.laws_meaning_values.proofs.Names.{head_target, body_target_is, target_sets}
use Rattle.laws_meaning_values.proofs.Positions.{before_at, set_more, declared_cell}
use Rattle.laws_meaning_values.proofs.Stores.{or_left, or_right, set_keeps, assign_if_keeps}
use Rattle.laws_meaning_values.proofs.UpValues.{is_head_outcome, no_await, opens_no_await, finalizer_sets, layer_set}
use Rattle.laws_meaning_counters.specs.Counters.{is_first, at_loop}
use Rattle.laws_meaning_counters.proofs.Grips.{point, own}
use Rattle.laws_meaning_assigned.specs.Needed.{own_target, block_asks, asked, act_needed, needed, needed_each, needed_all, turn_needed, frame_needed, focus_needed}
use Rattle.laws_meaning_assigned.proofs.Grips.{slots_grip, grip, grip_each, grip_all, frame_grip, focus_grip, over_branches}
use Rattle.laws_meaning_assigned.proofs.Trees.{joined_instances, over_needed, filled, frame_later}
use Rattle.laws_meaning_assigned.proofs.Places.{head_cell, head_ok, own_if, Known, KnownAt, point_is, frame_known}
use Rattle.laws_meaning_assigned.proofs.Settled.{asked_one, asked_yes, one_of, frame_unneeded, beside_unneeded, own_counts}
use Rattle.laws_meaning_assigned.proofs.Aborts.{body_spared, loop_spared, each_spared, closed_spared, focus_spared, dead_spared}
use Rattle.laws_meaning_assigned.proofs.Leaf.{set_now, OutcomeHas, SetNow, nothing_set, next_unneeded, assigned_set}

module _ (K : Kernel) (proper : is_proper K ≡ true) (b : Body) (x : ℕ) (n : ℕ) where
  abbrev N : List (List ℕ)
  N = names_of K

  abbrev pub outcome_needed : Body → Outcome → ℕ
  outcome_needed here (Goes g) = focus_needed K.codes b x is_first here g + act_needed K.codes b x (body_of g here) (leaf g)
  outcome_needed here (Rests r) = needed K.codes b x here r
  outcome_needed here (Raises r) = needed K.codes b x here r
  outcome_needed here y = 0

  -- a step of the part d that had so much hold of the slot
  pub record Moves (d : Part) (here : Body) (k : ℕ) (w : World) (m : Moved) : Type 0 where
    pub stocked : 1 ≤ outcome_needed here m.outcome → has b x m.world ≡ true
    pub comes : OutcomeHas K proper b x here m.outcome d m.world
    pub kept : k ≡ 0 → has b x w ≡ true → has b x m.world ≡ true

  none : {P : Type 0} → 1 ≤ 0 → P
  none h = absurd (omega (arith, h))

  past : (sc : Scope) (s : KNode) (here : Body) (k : ℕ) (w u : World) → SetNow K proper b x here sc s u → (k ≡ 0 → has b x w ≡ true → has b x u ≡ true) → Moves (AStatement sc s) here k w (moved Past u)
  past sc s here k w u now h = record { stocked = λ e. none e; comes = now; kept = h }

  ended : (turn : Bool) (sc : Scope) (c : KBlock) (here : Body) (k : ℕ) (v : ℤ) (w u : World) → (k ≡ 0 → has b x w ≡ true → has b x u ≡ true) → Moves (ABlock turn sc c) here k w (moved (Ends v) u)
  ended turn sc c here k v w u h = record { stocked = λ e. none e; comes = tt; kept = h }

  -- where something else has hold of the slot, what a part does leaves it its value
  carry : {t : ℕ} {fr : Frame} {d e : Part} → FrameFits K t fr d e → Sound K proper d → (first : Bool) (here : Body) (g : Ground) (o k : ℕ) (w u : World) → On d g → KnownAt K proper b x d g here o → o + frame_grip K.codes b x here fr + k ≤ 3
      → (k ≡ 0 → has b x w ≡ true → has b x u ≡ true) → (1 ≤ frame_needed K.codes b x first here fr → has b x w ≡ true) → 1 ≤ frame_needed K.codes b x first here fr → has b x u ≡ true
  carry {fr = fr} a ok first here g o k w u on kn l e h m = go (cases_lt 2 (o + frame_grip K.codes b x here fr))
    where
      go : (2 < o + frame_grip K.codes b x here fr) ⊎ (o + frame_grip K.codes b x here fr ≤ 2) → has b x u ≡ true
      go (inl q) = e (omega (arith, l, q)) (h m)
      go (inr q) = absurd (let z = frame_unneeded K proper b x a ok first here g o on kn q in omega (arith, z, m))

  strict : (here : Body) (fr : Frame) (f : Focus Act) (y : Outcome) (w : World) → is_head_outcome y ≡ false → (at_loop is_first f ≡ true → is_head_outcome y ≡ true) → (1 ≤ frame_needed K.codes b x (at_loop is_first f) here fr → has b x w ≡ true)
      → 1 ≤ frame_needed K.codes b x false here fr → has b x w ≡ true
  strict here fr f y w e k h = go (at_loop is_first f) refl h
    where
      go : (t : Bool) → at_loop is_first f ≡ t → (1 ≤ frame_needed K.codes b x t here fr → has b x w ≡ true) → 1 ≤ frame_needed K.codes b x false here fr → has b x w ≡ true
      go false q s = s
      go true q s = absurd (false≢true (sym e ∙ k q))

  -- ---- the next statement of a block

  goes_asked : (sc : Scope) (c : KBlock) (done : List KNode) (s : KNode) (rest : List KNode) (g : Ground) (here : Body) (w : World) → (out-KBlock c).list ≡ done ++ s ∷ rest → Numbered (block_slots c) (block_nodes c) g → BlockOk K (names_of K) sc c
      → (1 ≤ asked K.codes b x here (block_asks c done x) → has b x w ≡ true) → SetNow K proper b x here (block_scope sc c) s w → 1 ≤ asked K.codes b x here (block_asks c (done ++ s ∷ []) x) → has b x w ≡ true
  goes_asked sc c done s rest g here w e on ok old now h = go (asked_one K b x here (block_asks c (done ++ s ∷ []) x) h)
    where
      ds : Bool
      ds = declares x (out-KBlock c).decls

      before_it : same_body here b ≡ true → block_asks c done x ≡ true → has b x w ≡ true
      before_it q z = old (asked_yes K b x here (block_asks c done x) q z)

      new : same_body here b ≡ true → ds ≡ true → (is_set done x ≡ true) ⊎ (sets x s.stmt ≡ true) → has b x w ≡ true
      new q d (inl u) = before_it q (or_left (ds && is_set done x) (own_target x (body_target c) && some_done done) (and_from ds (is_set done x) d u))
      new q d (inr u) = now q (declared_cell x (pool_slots (out-KBlock c).decls ++ pools_seen sc.seen) (out-KBlock c).decls sc.seen g.low (decls_ground c g on).0 d) u

      head : same_body here b ≡ true → (l : List KNode) → done ≡ l → own_target x (body_target c) ≡ true → has b x w ≡ true
      head q [] z u =
          now q (head_cell K proper x sc c ok u) (target_sets N x s.stmt (subst (λ l. is_loc x (head_target N l) ≡ true) (e ∙ ap (λ l. l ++ s ∷ rest) z) (sym (ap (is_loc x) (body_target_is N c)) ∙ own_loc (body_target c) u)))
        where
          own_loc : (t : Option Loc) → own_target x t ≡ true → is_loc x t ≡ true
          own_loc None k = absurd (false≢true k)
          own_loc (Some l) k = (and_parts _ (l.slot == x) k).1
      head q (d ∷ l) z u = before_it q (or_right (ds && is_set done x) (own_target x (body_target c) && some_done done) (and_from (own_target x (body_target c)) (some_done done) u (ap some_done z)))

      go : (same_body here b ≡ true) × (block_asks c (done ++ s ∷ []) x ≡ true) → has b x w ≡ true
      go a = parts (or_cases (ds && is_set (done ++ s ∷ []) x) (own_target x (body_target c) && some_done (done ++ s ∷ [])) a.1)
        where
          parts : ((ds && is_set (done ++ s ∷ []) x) ≡ true) ⊎ ((own_target x (body_target c) && some_done (done ++ s ∷ [])) ≡ true) → has b x w ≡ true
          parts (inl u) = let p = and_parts ds (is_set (done ++ s ∷ []) x) u in new a.0 p.0 (set_more x done s p.1)
          parts (inr u) = head a.0 done refl (and_parts (own_target x (body_target c)) (some_done (done ++ s ∷ [])) u).0

  next_asked : (sc : Scope) (c : KBlock) (done : List KNode) (s : KNode) (rest : List KNode) (g : Ground) (here : Body) (w : World) → (out-KBlock c).list ≡ done ++ s ∷ rest → Numbered (block_slots c) (block_nodes c) g → BlockOk K (names_of K) sc c
      → (1 ≤ asked K.codes b x here (block_asks c (before (out-KBlock c).list rest) x) → has b x w ≡ true) → SetNow K proper b x here (block_scope sc c) s w → 1 ≤ asked K.codes b x here (block_asks c (before (out-KBlock c).list (rest_of rest)) x)
      → has b x w ≡ true
  next_asked sc c done s [] g here w e on ok old now h = old h
  next_asked sc c done s (q ∷ qs) g here w e on ok old now h =
      goes_asked sc c done s (q ∷ qs) g here w e on ok (λ v. old (subst (λ l. 1 ≤ asked K.codes b x here (block_asks c l x)) (sym (before_at c done s (q ∷ qs) e)) v)) now
      (subst (λ l. 1 ≤ asked K.codes b x here (block_asks c l x)) (before_at c (done ++ s ∷ []) q qs (e ∙ sym (append_assoc done (s ∷ []) (q ∷ qs)))) h)

  goes_on_moves : (turn : Bool) (sc : Scope) (c : KBlock) (fin fin2 : List KNode) (all : Instances) (done : List KNode) (s : KNode) (rest : List KNode) (g : Ground) (here : Body) (k : ℕ) (w u : World) → (out-KBlock c).list ≡ done ++ s ∷ rest
      → Numbered (block_slots c) (block_nodes c) g → BlockOk K (names_of K) sc c → (1 ≤ frame_needed K.codes b x false here (OfBlock c fin all rest) → has b x w ≡ true) → SetNow K proper b x here (block_scope sc c) s w → (has b x w ≡ true → has b x u ≡ true)
      → Moves (ABlock turn sc c) here k w (moved (Goes (In (OfBlock c fin2 all (rest_of rest)) (Here (next_of rest)))) u)
  unfolding focus_needed
  goes_on_moves turn sc c fin fin2 all done s rest g here k w u e on ok own now same = record { stocked = λ h. same (go h); comes = tt; kept = λ z h. same h }
    where
      asks : ℕ
      asks = asked K.codes b x here (block_asks c (before (out-KBlock c).list (rest_of rest)) x)

      part : (1 ≤ asks) ⊎ (1 ≤ needed_all K.codes b x all) → has b x w ≡ true
      part (inl h) = next_asked sc c done s rest g here w e on ok (λ v. own (omega (arith, v))) now h
      part (inr h) = own (omega (arith, h))

      go : 1 ≤ asks + needed_all K.codes b x all + 0 + act_needed K.codes b x here (next_of rest) → has b x w ≡ true
      go h = let z = next_unneeded K proper b x here rest in part (one_of K b x asks (needed_all K.codes b x all) (omega (arith, z, h)))

  -- ---- ends of parts

  opened_set : (sc : Scope) (s : KNode) (g : Ground) (here : Body) (o : ℕ) (layer : Layer) (c : KBlock) (v : ℤ) (w : World) → Known K proper b x sc g here o → StmtOk K (names_of K) sc s → out-KStmt s.stmt ≡ layer → opens_part layer c
      → SetNow K proper b x here sc s (assign_if here (target_of layer) v w)
  opened_set sc s g here o (KStmt-F.Do t d) c v w kn ok e q = assigned_set K proper b x here sc g o kn s (KStmt-F.Do t d) t v w e ok refl refl
  opened_set sc s g here o (KStmt-F.If arms last) c v w kn ok e q = nothing_set K proper b x here sc s (KStmt-F.If arms last) w e refl
  opened_set sc s g here o layer c v w kn ok e q = elim q [ ]

  -- ---- loops

  turn_goes : (sc : Scope) (s : KNode) (l : KLoop) (c : KBlock) (j : Counter) (a : Act) (here : Body) (k : ℕ) (w u : World) → out-KStmt s.stmt ≡ KStmt-F.Loop l c → is_first a ≡ false → act_needed K.codes b x here a ≡ 0
      → (same_body here b ≡ true → own_variable x l ≡ true → has b x u ≡ true) → (k ≡ 0 → has b x w ≡ true → has b x u ≡ true) → Moves (AStatement sc s) here k w (moved (Goes (In (OfLoop s j) (Here a))) u)
  unfolding focus_needed
  turn_goes sc s l c j a here k w u e f z own h = record { stocked = λ m. go (is_first a) f m; comes = tt; kept = h }
    where
      yes : (same_body here b ≡ true) × (turn_needs (out-KStmt s.stmt) x ≡ true) → has b x u ≡ true
      yes q = own q.0 (subst (λ y. turn_needs y x ≡ true) e q.1)

      go : (t : Bool) → t ≡ false → 1 ≤ turn_needed K.codes b x t here s + 0 + act_needed K.codes b x here a → has b x u ≡ true
      go false q m = yes (asked_one K b x here (turn_needs (out-KStmt s.stmt) x) (omega (arith, z, m)))
      go true q m = absurd (false≢true (sym q))

  turn_moves : (sc : Scope) (s : KNode) (l : KLoop) (c : KBlock) (j : Counter) (here : Body) (k : ℕ) (w : World) → out-KStmt s.stmt ≡ KStmt-F.Loop l c → counts l j ≡ true → (k ≡ 0 → own b x here (out-KStmt s.stmt) ≡ 0) → Moves (AStatement sc s) here k w (turn_of s l c j here w)
  turn_moves sc s turns.Free c j here k w e q z = turn_goes sc s turns.Free c j (Begin c) here k w w e refl refl (λ m h. absurd (false≢true h)) (λ m h. h)
  turn_moves sc s (turns.Times slot limit) c Free here k w e q z = absurd (false≢true q)
  turn_moves sc s (turns.Times slot limit) c (Upward v last) here k w e q z = absurd (false≢true q)
  turn_moves sc s (turns.Times slot limit) c (Turns m) here k w e q z = go (m == limit)
    where
      go : (t : Bool) → Moves (AStatement sc s) here k w (if t then moved (Fails (LoopLimit, s.pos) (Loop s (Turns m) Over)) w else begins_turn s (Turns (m + 1)) c w)
      go true = record { stocked = λ e. none e; comes = tt; kept = λ u h. h }
      go false = turn_goes sc s (turns.Times slot limit) c (Turns (m + 1)) (Begin c) here k w w e refl refl (λ m h. absurd (false≢true h)) (λ m h. h)
  turn_moves sc s (turns.Range i next end open_a y1 y2 open_b) c (Upward v last) here k w e q z = go (int_lt last v)
    where
      l : KLoop
      l = turns.Range i next end open_a y1 y2 open_b

      go : (t : Bool) → Moves (AStatement sc s) here k w (if t then moved Past (forget_loop here s.stmt w) else begins_turn s (Upward (v +ℤ pos 1) last) c (set here i (Holds v) w))
      go true = past sc s here k w (forget_loop here s.stmt w) (nothing_set K proper b x here sc s (KStmt-F.Loop l c) (forget_loop here s.stmt w) e refl) (λ u h. loop_spared K.codes b x here s w (z u) h)
      go false = turn_goes sc s l c (Upward (v +ℤ pos 1) last) (Begin c) here k w (set here i (Holds v) w) e refl refl (λ m h. set_now b x here i (Holds v) w m h) (λ m h. set_keeps b x here i (Holds v) w h)
  turn_moves sc s (turns.Range i next end open_a y1 y2 open_b) c Free here k w e q z = absurd (false≢true q)
  turn_moves sc s (turns.Range i next end open_a y1 y2 open_b) c (Turns m) here k w e q z = absurd (false≢true q)

  next_moves : (sc : Scope) (s : KNode) (l : KLoop) (c : KBlock) (layer : Layer) (j : Counter) (here : Body) (k : ℕ) (w : World) → out-KStmt s.stmt ≡ KStmt-F.Loop l c → KStmt-F.Loop l c ≡ layer → counts l j ≡ true
      → (k ≡ 0 → own b x here (out-KStmt s.stmt) ≡ 0) → Moves (AStatement sc s) here k w (next_turn s layer j here w)
  next_moves sc s l c layer j here k w e q t z = subst (λ y. Moves (AStatement sc s) here k w (next_turn s y j here w)) q (turn_moves sc s l c j here k w e t z)

  -- of a part around the focus f, in a world w: something outside has hold of the slot as far as `o`
  record Near (here : Body) (fr : Frame) (f : Focus Act) (o : ℕ) (w : World) : Type 0 where
    most : o + frame_grip K.codes b x here fr + focus_grip K.codes b x (body_in fr here) f ≤ 3
    inside : focus_grip K.codes b x (body_in fr here) f ≡ 0 → has b x w ≡ true → has b x (aborted (plug f Over) (body_in fr here) w) ≡ true

  -- what the body of a loop has come to is aborted, and the loop goes on or is left
  module _ (sc : Scope) (s : KNode) (l : KLoop) (c : KBlock) (j : Counter) (f : Focus Act) (here : Body) (g : Ground) (o : ℕ) (w : World) (e : out-KStmt s.stmt ≡ KStmt-F.Loop l c) (kn : Known K proper b x sc g here o) (i : Near here (OfLoop s j) f o w) where
    abbrev after : World
    after = aborted (plug f Over) here w

    abbrev left : World
    left = forget_loop here s.stmt after

    abbrev grips : ℕ
    grips = own b x here (out-KStmt s.stmt) + focus_grip K.codes b x here f

    spared : grips ≡ 0 → has b x w ≡ true → has b x left ≡ true
    spared u h = loop_spared K.codes b x here s after (omega (arith, u)) (i.inside (omega (arith, u)) h)

    -- the target of an await at the head of its body
    target_kept : (l : KLoop) → out-KStmt s.stmt ≡ KStmt-F.Loop l c → (same_body here b ≡ true → is_cell (find x (turn_scope K sc s.node l).seen) ≡ true → is_loc x (body_target c) ≡ true → has b x w ≡ true) → SetNow K proper b x here sc s left
    target_kept turns.Free q h = λ m cell z.
        spared (let a = kn.held m cell in let t = i.most in omega (arith, a, t)) (h m cell (layer_set N s (KStmt-F.Loop turns.Free c) x q z))
    target_kept (turns.Times slot m) q h = nothing_set K proper b x here sc s (KStmt-F.Loop (turns.Times slot m) c) left q refl
    target_kept (turns.Range u v t open_a y1 y2 open_b) q h = nothing_set K proper b x here sc s (KStmt-F.Loop (turns.Range u v t open_a y1 y2 open_b) c) left q refl

    own_kept : (1 ≤ frame_needed K.codes b x false here (OfLoop s j) → has b x w ≡ true) → same_body here b ≡ true → own_variable x l ≡ true → has b x after ≡ true
    own_kept mine m h =
        let q = subst (λ y. turn_needs y x ≡ true) (sym e) h in
        let p : own b x here (KStmt-F.Loop l c) ≡ 1 = ap (λ t. if t then 1 else 0) (and_from (same_body here b) _ m (own_counts x l h)) in
        let r = ap (own b x here) e in
        let t = i.most in
        let a = kn.room in
        let d = point_is K proper b x here m in
        i.inside (omega (arith, p, r, t, a, d)) (mine (asked_yes K b x here (turn_needs (out-KStmt s.stmt) x) m q))

    exit_moves : (z : Exit) → (1 ≤ frame_needed K.codes b x false here (OfLoop s j) → has b x w ≡ true) → (same_body here b ≡ true → is_cell (find x (turn_scope K sc s.node l).seen) ≡ true → is_loc x (body_target c) ≡ true → has b x w ≡ true)
        → Moves (AStatement sc s) here grips w (loop_exit s j z here after)
    exit_moves Continue own h = turn_goes sc s l c j Again here grips w after e refl refl (own_kept own) (λ u v. i.inside (omega (arith, u)) v)
    exit_moves Break own h = past sc s here grips w left (target_kept l e h) spared
    exit_moves (Escape v) own h = past sc s here grips w left (target_kept l e h) spared

    loop_left_moves : (t : Bool) (node : ℕ) (z : Exit) → (1 ≤ frame_needed K.codes b x false here (OfLoop s j) → has b x w ≡ true)
        → (same_body here b ≡ true → is_cell (find x (turn_scope K sc s.node l).seen) ≡ true → is_loc x (body_target c) ≡ true → has b x w ≡ true) → Moves (AStatement sc s) here grips w (loop_left t s j f here node z w)
    loop_left_moves true node z own h = exit_moves z own h
    loop_left_moves false node z own h = record { stocked = λ u. none u; comes = λ u. no_await s (KStmt-F.Loop l c) x e refl u; kept = λ u v. v }

  -- ---- one part

  body_left_moves : (t turn : Bool) (sc : Scope) (c : KBlock) (fin : List KNode) (all : Instances) (done : List KNode) (s : KNode) (rest : List KNode) (f : Focus Act) (g : Ground) (here : Body) (o k node : ℕ) (z : Exit) (w : World)
      → (out-KBlock c).list ≡ done ++ s ∷ rest → BlockOk K (names_of K) sc c → Known K proper b x sc g here o → (k ≡ 0 → has b x w ≡ true → has b x (closed c fin all here (aborted (plug f Over) here w)) ≡ true)
      → (1 ≤ asked K.codes b x here (block_asks c (before (out-KBlock c).list rest) x) → has b x w ≡ true) → (is_loc x (await_target s.stmt) ≡ true → ⊥) → Moves (ABlock turn sc c) here k w (body_left t c fin all f here node z w)
  body_left_moves true turn sc c fin all done s rest f g here o k node z w e ok kn h own never = ended turn sc c here k (value_with z) w (closed c fin all here (aborted (plug f Over) here w)) h
  body_left_moves false turn sc c fin all done s rest f g here o k node z w e ok kn h own never = record { stocked = λ u. none u; comes = λ m cell t. go done refl m cell t; kept = λ u v. v }
    where
      go : (l : List KNode) → done ≡ l → same_body here b ≡ true → is_cell (find x sc.seen) ≡ true → is_loc x (body_target c) ≡ true → has b x w ≡ true
      go [] q m cell t = absurd (never (subst (λ l. is_loc x (head_target N l) ≡ true) (e ∙ ap (λ l. l ++ s ∷ rest) q) (sym (ap (is_loc x) (body_target_is N c)) ∙ t)))
      go (d ∷ l) q m cell t =
          own (asked_yes K b x here (block_asks c (before (out-KBlock c).list rest) x) m
          (subst (λ l. block_asks c l x ≡ true) (sym (before_at c done s rest e))
          (or_right (declares x (out-KBlock c).decls && is_set done x) (own_target x (body_target c) && some_done done) (and_from (own_target x (body_target c)) (some_done done) (own_if K proper x (block_scope sc c) (body_target c) (head_ok K proper sc c ok) t (λ y. kn.apart y cell)) (ap some_done q)))))

  part_left_moves : (t : Bool) (sc : Scope) (s : KNode) (c : KBlock) (f : Focus Act) (g : Ground) (here : Body) (o k node : ℕ) (z : Exit) (w : World) → Known K proper b x sc g here o → StmtOk K (names_of K) sc s → opens_part (out-KStmt s.stmt) c
      → (k ≡ 0 → has b x w ≡ true → has b x (aborted (plug f Over) here w) ≡ true) → Moves (AStatement sc s) here k w (open_left t s f here node z w)
  part_left_moves true sc s c f g here o k node z w kn ok q h =
      past sc s here k w (assign_if here (target s) (value_with z) (aborted (plug f Over) here w)) (opened_set sc s g here o (out-KStmt s.stmt) c (value_with z) (aborted (plug f Over) here w) kn ok refl q)
      (λ u v. assign_if_keeps b x here (target s) (value_with z) (aborted (plug f Over) here w) (h u v))
  part_left_moves false sc s c f g here o k node z w kn ok q h = record { stocked = λ u. none u; comes = λ u. no_await s (out-KStmt s.stmt) x refl (opens_no_await (out-KStmt s.stmt) c x q) u; kept = λ u v. v }

  rejoined_moves : (sc : Scope) (s : KNode) (kind : ParKind) (slot : ℕ) (bs : List KBlock) (rs : Branches) (here : Body) (k : ℕ) (w : World) → out-KStmt s.stmt ≡ KStmt-F.Par kind slot bs → (1 ≤ needed_each K.codes b x here rs → has b x w ≡ true)
      → (k ≡ 0 → grip_each K.codes b x here rs ≡ 0) → Moves (AStatement sc s) here k w (rejoined kind s rs here w)
  unfolding needed aborted
  rejoined_moves sc s par.Never slot bs rs here k w e own h = record { stocked = own; comes = tt; kept = λ u v. v }
  rejoined_moves sc s par.Or slot bs rs here k w e own h =
      past sc s here k w (aborted (Par s rs) here w) (nothing_set K proper b x here sc s (KStmt-F.Par par.Or slot bs) (aborted (Par s rs) here w) e refl) (λ u v. each_spared K.codes b x rs here w (h u) v)
  rejoined_moves sc s par.And slot bs rs here k w e own h = go (all_over rs)
    where
      go : (t : Bool) → Moves (AStatement sc s) here k w (if t then moved Past w else moved (Rests (Par s rs)) w)
      go true = past sc s here k w w (nothing_set K proper b x here sc s (KStmt-F.Par par.And slot bs) w e refl) (λ u v. v)
      go false = record { stocked = own; comes = tt; kept = λ u v. v }

  -- no exit leads out of code
  no_exit : (node aim : ℕ) → ((node == aim) || false) ≡ true → (node == aim) ≡ false → ⊥
  no_exit node aim h e = false≢true (ap (λ t. t || false) (sym e) ∙ h)

  through_moves : (here : Body) (fr : Frame) (f : Focus Act) (y : Outcome) (w : World) (d c : Part) (g : Ground) (o : ℕ) → FrameFits K (suc n) fr d c → Sound K proper d → On d g → KnownAt K proper b x d g here o → Near here fr f o w
      → (1 ≤ frame_needed K.codes b x (at_loop is_first f) here fr → has b x w ≡ true) → (1 ≤ outcome_needed (body_in fr here) y → has b x w ≡ true) → OutcomeHas K proper b x (body_in fr here) y c w
      → (at_loop is_first f ≡ true → is_head_outcome y ≡ true) → Comes K n c y → Moves d here (frame_grip K.codes b x here fr + focus_grip K.codes b x (body_in fr here) f) w (through here fr f y w)
  unfolding focus_needed needed
  through_moves here fr f (Goes q) w d c g o a ok on kn i own h now hd k = record { stocked = λ m. go (one_of K b x (frame_needed K.codes b x (at_loop is_first q) here fr) _ (omega (arith, m))); comes = tt; kept = λ u v. v }
    where
      go : (1 ≤ frame_needed K.codes b x (at_loop is_first q) here fr) ⊎ (1 ≤ focus_needed K.codes b x is_first (body_in fr here) q + act_needed K.codes b x (body_of q (body_in fr here)) (leaf q)) → has b x w ≡ true
      go (inl m) = strict here fr f (Goes q) w refl hd own (let z = frame_later K.codes b x (at_loop is_first q) here fr in omega (arith, z, m))
      go (inr m) = h m
  through_moves here fr f (Rests r) w d c g o a ok on kn i own h now hd k = record { stocked = λ m. go (one_of K b x (frame_needed K.codes b x false here fr) (needed K.codes b x (body_in fr here) r) (let z = filled K.codes b x here fr r in omega (arith, z, m))); comes = tt; kept = λ u v. v }
    where
      go : (1 ≤ frame_needed K.codes b x false here fr) ⊎ (1 ≤ needed K.codes b x (body_in fr here) r) → has b x w ≡ true
      go (inl m) = strict here fr f (Rests r) w refl hd own m
      go (inr m) = h m
  through_moves here fr f (Raises r) w d c g o a ok on kn i own h now hd k = record { stocked = λ m. go (one_of K b x (frame_needed K.codes b x false here fr) (needed K.codes b x (body_in fr here) r) (let z = filled K.codes b x here fr r in omega (arith, z, m))); comes = tt; kept = λ u v. v }
    where
      go : (1 ≤ frame_needed K.codes b x false here fr) ⊎ (1 ≤ needed K.codes b x (body_in fr here) r) → has b x w ≡ true
      go (inl m) = strict here fr f (Raises r) w refl hd own m
      go (inr m) = h m
  through_moves here fr f (Fails z r) w d c g o a ok on kn i own h now hd k = record { stocked = λ m. none m; comes = tt; kept = λ u v. v }
  through_moves here (OfBlock m fin all rest) f Past w d c g o (around_statement {turn = turn} {sc = sc} {s = s} done q z fit) ok on kn i own h now hd k = goes_on_moves turn sc m fin fin all done s rest g here _ w w q on ok own now (λ v. v)
  through_moves here (OfBlock m fin all rest) f (Registers y) w d c g o (around_statement {turn = turn} {sc = sc} {s = s} done q z fit) ok on kn i own h now hd k =
      goes_on_moves turn sc m fin (y ∷ fin) all done s rest g here _ w (marked (mark.Registered y.pos) w) q on ok own (λ u cell t. absurd (finalizer_sets s.stmt x k.1 t)) (λ v. v)
  through_moves here (OfBlock m fin all rest) f (Leaves node y) w d c g o (around_statement {turn = turn} {sc = sc} {s = s} done q z fit) ok on kn i own h now hd k =
      body_left_moves (node == (out-KBlock m).node) turn sc m fin all done s rest f g here o _ node y w q ok kn (λ u v. closed_spared K.codes b x m fin all here (aborted (plug f Over) here w) (omega (arith, u)) (i.inside (omega (arith, u)) v)) (λ v. own (omega (arith, v))) now
  through_moves here (OfBlock m fin all rest) f AtBlockEnd w d c g o (around_end {turn = turn} {sc = sc} z fit) ok on kn i own h now hd k = ended turn sc m here _ (pos 0) w (closed m fin all here w) (λ u v. closed_spared K.codes b x m fin all here w (omega (arith, u)) v)
  through_moves here (OfOpen s) f (Ends v) w d c g o (around_part {sc = sc} m z) ok on kn i own h now hd k =
      past sc s here _ w (assign_if here (target s) v w) (opened_set sc s g here o (out-KStmt s.stmt) m v w kn ok refl z) (λ u y. assign_if_keeps b x here (target s) v w y)
  through_moves here (OfOpen s) f (Leaves node y) w d c g o (around_part {sc = sc} m z) ok on kn i own h now hd k = part_left_moves (node == s.node) sc s m f g here o _ node y w kn ok z (λ u v. i.inside (omega (arith, u)) v)
  through_moves here (OfLoop s j) f AtLoopHead w d c g o (around_turn {sc = sc} l m z t) ok on kn i own h now hd k = next_moves sc s l m (out-KStmt s.stmt) j here _ w z (sym z) t (λ u. omega (arith, u))
  through_moves here (OfLoop s j) f (Ends v) w d c g o (around_turn {sc = sc} l m z t) ok on kn i own h now hd k =
      turn_goes sc s l m j Again here _ w w z refl refl (λ q u. strict here (OfLoop s j) f (Ends v) w refl hd own (asked_yes K b x here (turn_needs (out-KStmt s.stmt) x) q (subst (λ y. turn_needs y x ≡ true) (sym z) u))) (λ u y. y)
  through_moves here (OfLoop s j) f (Leaves node y) w d c g o (around_turn {sc = sc} l m z t) ok on kn i own h now hd k = loop_left_moves sc s l m j f here g o w z kn i (node == s.node) node y (strict here (OfLoop s j) f (Leaves node y) w refl hd own) now
  through_moves here (OfCall s) f (Ends v) w d c g o (around_call {sc = sc} m es fr t k1 z y) ok on kn i own h now hd k =
      past sc s here _ w (assign_if here (target s) v (returned here s w)) (call_set (out-KStmt s.stmt) refl z)
      (λ u q. assign_if_keeps b x here (target s) v (returned here s w) (body_spared K.codes b x (Awaited here s.node) w (omega (arith, u)) q))
    where
      call_set : (layer : Layer) → out-KStmt s.stmt ≡ layer → out-KStmt s.stmt ≡ KStmt-F.AwaitCode m es fr t → SetNow K proper b x here sc s (assign_if here (target_of layer) v (returned here s w))
      call_set layer e q = subst (λ l. SetNow K proper b x here sc s (assign_if here (target_of l) v (returned here s w))) (sym q ∙ e) (assigned_set K proper b x here sc g o kn s (KStmt-F.AwaitCode m es fr t) t v (returned here s w) q ok refl refl)
  through_moves here (OfPar s front back) f (Ends v) w d c g o (around_branch {sc = sc} kind slot bs m cs z y1 y2) ok on kn i own h now hd k =
      subst (λ l. Moves (AStatement sc s) here (grip_each K.codes b x here front + grip_each K.codes b x here back + focus_grip K.codes b x here f) w (rejoined (kind_of l) s (join front (branch Over back)) here w)) (sym z)
      (rejoined_moves sc s kind slot (bs ++ m ∷ cs) (join front (branch Over back)) here _ w z (λ u. own (let a = over_needed K.codes b x here front back in omega (arith, a, u))) (λ u. (let a = over_branches K.codes b x here front back in omega (arith, a, u))))
  through_moves here (OfInstance m fin front seat back r rest) f (Ends v) w d c g o (around_instance {turn = turn} {sc = sc} {s = s} done k1 q z fit y1 y2 t e) ok on kn i own h now hd k =
      record { stocked = λ u. go (cases_lt 2 (o + slots_grip K.codes b x here (out-KBlock m).decls + (grip_all K.codes b x front + grip_all K.codes b x back) + grip K.codes b x here r)) (let a = joined_instances K.codes b x front back in omega (arith, a, u)); comes = tt; kept = λ u v. gone (omega (arith, u)) v }
    where
      rest_needed : ℕ
      rest_needed = asked K.codes b x here (block_asks m (before (out-KBlock m).list rest) x) + (needed_all K.codes b x front + needed_all K.codes b x back) + needed K.codes b x here r

      gone : point b x (Spawned seat.number) ≡ 0 → has b x w ≡ true → has b x (dead seat.number w) ≡ true
      gone u v = dead_spared K.codes b x seat.number w u v

      go : (2 < o + slots_grip K.codes b x here (out-KBlock m).decls + (grip_all K.codes b x front + grip_all K.codes b x back) + grip K.codes b x here r)
          ⊎ (o + slots_grip K.codes b x here (out-KBlock m).decls + (grip_all K.codes b x front + grip_all K.codes b x back) + grip K.codes b x here r ≤ 2) → 1 ≤ rest_needed → has b x (dead seat.number w) ≡ true
      go (inl l) u = gone (let a = i.most in omega (arith, a, l)) (own (omega (arith, u)))
      go (inr l) u = absurd (let a = beside_unneeded K proper b x m rest done q fit y1 y2 ok here g o on kn l in omega (arith, a, u))
  through_moves here (OfPar s front back) f (Leaves node y) w d c g o (around_branch kind slot bs m cs z y1 y2) ok on kn i own h now hd k = record { stocked = λ u. none u; comes = λ u. no_await s (KStmt-F.Par kind slot (bs ++ m ∷ cs)) x z refl u; kept = λ u v. v }
  through_moves here (OfCall s) f (Leaves node y) w d c g o (around_call m es fr t k1 z e) ok on kn i own h now hd k = absurd (no_exit node (out-KBlock k1.body).node k.0 k.1)
  through_moves here (OfInstance m fin front seat back r rest) f (Leaves node y) w d c g o (around_instance done k1 q z fit y1 y2 t e) ok on kn i own h now hd k = absurd (no_exit node (out-KBlock k1.body).node k.0 k.1)
  through_moves here fr f y w d c g o (around_statement done q z fit) ok on kn i own h now hd k = elim k [ ]
  through_moves here fr f y w d c g o (around_end z fit) ok on kn i own h now hd k = elim k [ ]
  through_moves here fr f y w d c g o (around_part m z) ok on kn i own h now hd k = elim k [ ]
  through_moves here fr f y w d c g o (around_turn l m q z) ok on kn i own h now hd k = elim k [ ]
  through_moves here fr f y w d c g o (around_call m es t u k1 q z) ok on kn i own h now hd k = elim k [ ]
  through_moves here fr f y w d c g o (around_branch kind slot bs m cs q y1 y2) ok on kn i own h now hd k = elim k [ ]
  through_moves here fr f y w d c g o (around_instance done k1 q z fit y1 y2 t e) ok on kn i own h now hd k = elim k [ ]

  -- ---- all of them

  head_first : (here : Body) (f : Focus Act) (y : Outcome) (w : World) → (is_first (leaf f) ≡ true → is_head_outcome y ≡ true) → at_loop is_first f ≡ true → is_head_outcome (up here f y w).outcome ≡ true
  unfolding up
  head_first here (Here a) y w h e = h e
  head_first here (In fr f) y w h e = absurd (false≢true e)

  pub up_moves : (here : Body) (f : Focus Act) (y : Outcome) (w : World) (d e : Part) (g : Ground) (o : ℕ) → Around K (suc n) Act f d e → Sound K proper d → On d g → KnownAt K proper b x d g here o → o + focus_grip K.codes b x here f ≤ 3
      → (1 ≤ focus_needed K.codes b x is_first here f → has b x w ≡ true) → (1 ≤ outcome_needed (body_of f here) y → has b x w ≡ true) → OutcomeHas K proper b x (body_of f here) y e w → (is_first (leaf f) ≡ true → is_head_outcome y ≡ true) → Comes K n e y
      → Moves d here (focus_grip K.codes b x here f) w (up here f y w)
  unfolding up focus_grip focus_needed
  up_moves here (Here a) y w d e g o nothing_around ok on kn l own h now hd k = record { stocked = h; comes = now; kept = λ u v. v }
  up_moves here (In fr f) y w d e g o (one_around {e = c} a more) ok on kn l own h now hd k =
      let sound = frame_sound K proper a ok in
      let z = frame_known K proper b x a here g o on kn in
      let inner = up_moves (body_in fr here) f y w c e z.ground (o + frame_grip K.codes b x here fr) more sound z.on z.known (omega (arith, l)) (λ u. own (omega (arith, u))) h now hd k in
      let m = up (body_in fr here) f y w in
      let outer = through_moves here fr f m.outcome m.world d c g o a ok on kn
      (record { most = omega (arith, l); inside = λ u v. focus_spared K.codes b x f (body_in fr here) m.world u v })
      (carry a ok (at_loop is_first f) here g o (focus_grip K.codes b x (body_in fr here) f) w m.world on kn (omega (arith, l)) inner.kept (λ u. own (omega (arith, u)))) inner.stocked inner.comes (head_first (body_in fr here) f y w hd)
      (up_fits K proper n (body_in fr here) f y w c e sound more k) in
      record { stocked = outer.stocked; comes = outer.comes; kept = λ u v. outer.kept u (inner.kept (omega (arith, u)) v) }

  taken_needed : (here : Body) (d : Part) (f : Focus Act) (y : Outcome) → Closed K proper d → Comes K n d y → 1 ≤ outcome_needed here (taken f y) → 1 ≤ outcome_needed here y
  taken_needed here (ABlock false sc c) f (Goes g) q k h = h
  taken_needed here (ABlock false sc c) f (Rests r) q k h = h
  taken_needed here (ABlock false sc c) f (Raises r) q k h = h
  taken_needed here (ABlock false sc c) f (Fails z r) q k h = h
  taken_needed here (ABlock false sc c) f (Ends v) q k h = h
  taken_needed here (ABlock false sc c) f (Leaves node z) q k h = absurd (q node k.0 k.1)
  taken_needed here (ABlock false sc c) f y q k h = elim k [ ]
  taken_needed here d f y q k h = elim q [ ]

  -- a step of a whole
  pub record Steps (here : Body) (k : ℕ) (w : World) (m : Moved) : Type 0 where
    pub stocked : 1 ≤ outcome_needed here m.outcome → has b x m.world ≡ true
    pub kept : k ≡ 0 → has b x w ≡ true → has b x m.world ≡ true

  pub answered_moves : (here : Body) (f : Focus Act) (y : Outcome) (w : World) (d e : Part) (g : Ground) (o : ℕ) → Closed K proper d → Around K (suc n) Act f d e → Sound K proper d → On d g → KnownAt K proper b x d g here o → o + focus_grip K.codes b x here f ≤ 3
      → (1 ≤ focus_needed K.codes b x is_first here f → has b x w ≡ true) → (1 ≤ outcome_needed (body_of f here) y → has b x w ≡ true) → OutcomeHas K proper b x (body_of f here) y e w → (is_first (leaf f) ≡ true → is_head_outcome y ≡ true) → Comes K n e y
      → Steps here (focus_grip K.codes b x here f) w (answered here f y w)
  answered_moves here f y w d e g o q a ok on kn l own h now hd k =
      let m = up_moves here f y w d e g o a ok on kn l own h now hd k in
      record { stocked = λ u. m.stocked (taken_needed here d f (up here f y w).outcome q (up_fits K proper n here f y w d e ok a k) u); kept = m.kept }
