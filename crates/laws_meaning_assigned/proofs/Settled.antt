-- Where less than all has hold of a slot, a part of a proper kernel needs it not.
use Rattle.std.proofs.Common.{◌≡◌, refl, ap, subst, ◌≤◌, ℕ, zero, suc, ◌+◌, Bool, true, false, if◌then◌else◌, ◌&&◌, ◌⊎◌, inl, inr, List, [], ◌∷◌, ◌++◌, Option, Some, None, arith}
use Rattle.std.proofs.lemmas.Bool.{and_parts, and_from, or_cases, false≢true}
use Rattle.ceu_tree.specs.declared.kernel.Kernel.{Kernel}
use Rattle.ceu_tree.specs.declared.kernel.KCode.{KCode}
use Rattle.ceu_tree.specs.declared.kernel.KLoop.{KLoop}
use Rattle.ceu_tree.specs.declared.kernel.KLoop.TheVariants as turns
use Rattle.ceu_tree.specs.declared.kernel.ParKind.{ParKind}
use Rattle.ceu_tree.specs.declared.kernel.KNode.{KNode}
use Rattle.ceu_tree.specs.declared.kernel.KBlock.{KBlock, out-KBlock}
use Rattle.ceu_tree.specs.declared.kernel.KStmt.{out-KStmt}
use Rattle.ceu_tree.specs.declared.kernel.KStmt.TheOpen.{KStmt-F}
use Rattle.ceu_tree.specs.Residual.{Body, Awaited, Spawned, same_body, Residual, Branches, Instances}
use Rattle.ceu_tree.specs.Focus.{Frame, OfLoop, OfPar, Focus, Here, In, body_in}
use Rattle.ceu_tree.specs.Leaf.{code_at}
use Rattle.ceu_tree.specs.Legal.{before, is_set, called_code}
use Rattle.ceu_tree.specs.Mentions.{is_slot, body_target}
use Rattle.ceu_tree.specs.Numbering.{block_slots, block_nodes}
use Rattle.ceu_tree.specs.Proper.{Scope, find, pool_slots, pools_seen, is_proper}
use Rattle.laws_meaning_basics.specs.Shape.{Part, AStatement, block_scope, Fits, to_begin, to_turn, in_list, to_finish, at_input, at_time, at_event, at_forever, at_async, in_part, in_turn, in_call, in_par, EachFits, no_more, an_ended, a_branch, AllFit, none_lives, one_lives, FrameFits, around_statement, around_end, around_instance, around_part, around_turn, around_call, around_branch, Around, nothing_around, one_around}
use Rattle.laws_meaning_basics.proofs.Static.{BlockOk, StmtOk, names_of, code_static, each_fine}
use Rattle.laws_meaning_basics.proofs.UpFits.{Sound, layer_of, list_sound, part_sound, frame_sound}
use Rattle.laws_meaning_values.specs.Ground.{Ground, Numbered, On}
use Rattle.laws_meaning_values.specs.Needed.{some_done, own_variable, turn_needs}
use Rattle.laws_meaning_values.specs.Ready.{is_cell, declares}
use Rattle.laws_meaning_values.proofs.Counts.{halves, blocks_slots_all, blocks_nodes_all}
use Rattle.laws_meaning_values.proofs.Grounds.{list_ground, inner_ground, part_ground, branch_ground}
use Rattle.laws_meaning_values.proofs.Readies.{find_cell}
use Rattle.laws_meaning_counters.specs.Counters.{counts_in, at_loop}
use Rattle.laws_meaning_counters.proofs.Grips.{point, own}
use Rattle.laws_meaning_assigned.specs.Needed.{own_target, block_asks, alias_of, asked, given_needed, past_needed, needed, needed_each, needed_all, turn_needed, frame_needed, focus_needed}
use Rattle.laws_meaning_assigned.proofs.Grips.{slots_grip, given_grip, grip, grip_each, grip_all, frame_grip, focus_grip}
use Rattle.laws_meaning_assigned.proofs.Places.{code_room, alias_cell, head_cell, Known, KnownAt, point_is, declared_held, known_inner, known_list, known_part, known_turn, known_async, known_code, given_is, frame_known}

pub own_counts : (x : ℕ) (l : KLoop) → own_variable x l ≡ true → counts_in x l ≡ true
own_counts x (turns.Range i next end open_a y z open_b) h = h
own_counts x turns.Free h = absurd (false≢true h)
own_counts x (turns.Times slot n) h = absurd (false≢true h)

module _ (K : Kernel) (b : Body) (x : ℕ) where
  pub asked_zero : (here : Body) (t : Bool) → (same_body here b ≡ true → t ≡ true → ⊥) → asked K.codes b x here t ≡ 0
  asked_zero here t h = go (same_body here b && t) refl
    where
      go : (u : Bool) → (same_body here b && t) ≡ u → ◌≡◌ {A = ℕ} (if u then 1 else 0) 0
      go false e = refl
      go true e = let a = and_parts (same_body here b) t e in absurd (h a.0 a.1)

  pub asked_one : (here : Body) (t : Bool) → 1 ≤ asked K.codes b x here t → (same_body here b ≡ true) × (t ≡ true)
  asked_one here t h = go (same_body here b && t) refl h
    where
      go : (u : Bool) → (same_body here b && t) ≡ u → 1 ≤ (if u then 1 else 0) → (same_body here b ≡ true) × (t ≡ true)
      go false e k = absurd (omega (arith, k))
      go true e k = and_parts (same_body here b) t e

  pub asked_yes : (here : Body) (t : Bool) → same_body here b ≡ true → t ≡ true → 1 ≤ asked K.codes b x here t
  asked_yes here t e h = let z : asked K.codes b x here t ≡ 1 = ap (λ u. if u then 1 else 0) (and_from (same_body here b) t e h) in omega (arith, z)

  pub one_of : (m n : ℕ) → 1 ≤ m + n → (1 ≤ m) ⊎ (1 ≤ n)
  one_of m n h = go m refl
    where
      go : (k : ℕ) → m ≡ k → (1 ≤ m) ⊎ (1 ≤ n)
      go zero e = inr (omega (arith, h, e))
      go (suc k) e = inl (omega (arith, e))

module _ (K : Kernel) (proper : is_proper K ≡ true) (b : Body) (x : ℕ) where
  block_unneeded : (sc : Scope) (c : KBlock) (done : List KNode) (g : Ground) (here : Body) (o : ℕ) → BlockOk K (names_of K) sc c → Known K proper b x sc g here o → o + slots_grip K.codes b x here (out-KBlock c).decls ≤ 2
      → asked K.codes b x here (block_asks c done x) ≡ 0
  block_unneeded sc c done g here o ok k l =
      asked_zero K b x here (block_asks c done x) (λ e t. go e (or_cases (declares x (out-KBlock c).decls && is_set done x) (own_target x (body_target c) && some_done done) t))
    where
      declared : same_body here b ≡ true → declares x (out-KBlock c).decls ≡ true → ⊥
      declared e d = let a = declared_held K proper b x here (out-KBlock c).decls o k.room e d in absurd (omega (arith, a, l))

      seen : same_body here b ≡ true → (declares x (out-KBlock c).decls ≡ true) ⊎ (is_cell (find x sc.seen) ≡ true) → ⊥
      seen e (inl d) = declared e d
      seen e (inr z) = let a = k.held e z in absurd (omega (arith, a, l))

      go : same_body here b ≡ true → ((declares x (out-KBlock c).decls && is_set done x) ≡ true) ⊎ ((own_target x (body_target c) && some_done done) ≡ true) → ⊥
      go e (inl u) = declared e (and_parts (declares x (out-KBlock c).decls) (is_set done x) u).0
      go e (inr u) =
          seen e (find_cell x (pool_slots (out-KBlock c).decls ++ pools_seen sc.seen) (out-KBlock c).decls sc.seen (head_cell K proper x sc c ok (and_parts (own_target x (body_target c)) (some_done done) u).0))

  turn_unneeded : (s : KNode) (l : KLoop) (c : KBlock) (here : Body) (o : ℕ) → out-KStmt s.stmt ≡ KStmt-F.Loop l c → point b x here ≤ o → o + own b x here (out-KStmt s.stmt) ≤ 2 → asked K.codes b x here (turn_needs (out-KStmt s.stmt) x) ≡ 0
  turn_unneeded s l c here o e r m = asked_zero K b x here (turn_needs (out-KStmt s.stmt) x) go
    where
      go : same_body here b ≡ true → turn_needs (out-KStmt s.stmt) x ≡ true → ⊥
      go q t =
          let p = point_is K proper b x here q in
          let u : own_variable x l ≡ true = subst (λ y. turn_needs y x ≡ true) e t in
          let d : own b x here (KStmt-F.Loop l c) ≡ 1 = ap (λ t. if t then 1 else 0) (and_from (same_body here b) (counts_in x l) q (own_counts x l u)) in
          let f = ap (own b x here) e in
          absurd (omega (arith, p, d, f, r, m))

  given_unneeded : (here : Body) (o : Option KCode) → point b x here + given_grip K.codes b x here o ≤ 2 → given_needed K.codes b x here o ≡ 0
  given_unneeded here None l = refl
  given_unneeded here (Some k) l = asked_zero K b x here (declares x k.params) (λ e d. (let a = declared_held K proper b x here k.params (point b x here) (omega arith) e d in absurd (omega (arith, a, l))))

  pub past_unneeded : (sc : Scope) (s : KNode) (g : Ground) (here : Body) (o : ℕ) → StmtOk K (names_of K) sc s → Known K proper b x sc g here o → o ≤ 2 → past_needed K.codes b x here s ≡ 0
  past_unneeded sc s g here o ok k l = asked_zero K b x here (is_slot x (alias_of (out-KStmt s.stmt))) (λ e t. (let a = k.held e (alias_cell K proper x sc s ok t) in absurd (omega (arith, a, l))))

  mutual
    unfolding grip needed

    pub unneeded : {t : ℕ} {d : Part} {r : Residual} → Fits K t d r → Sound K proper d → (here : Body) (g : Ground) (o : ℕ) → On d g → KnownAt K proper b x d g here o → o + grip K.codes b x here r ≤ 2 → needed K.codes b x here r ≡ 0
    unneeded (to_begin l) ok here g o on k m = refl
    unneeded (to_turn l p) ok here g o on k m = refl
    unneeded (in_list {sc = sc} {b = c} {rest = rest} {s = s} done e f fit more) ok here g o on k m =
        let i = list_ground c done s rest g e on in
        let ds = (out-KBlock c).decls in
        let u = block_unneeded sc c (before (out-KBlock c).list rest) g here o ok k (omega (arith, m)) in
        let v = all_unneeded fit (omega (arith, m)) in
        let w = unneeded more (list_sound K proper sc c done s rest ok e) here i.ground (o + slots_grip K.codes b x here ds) i.on (known_list K proper b x sc c s g here o (o + slots_grip K.codes b x here ds) i (omega arith) k) (omega (arith, m)) in
        omega (arith, u, v, w)
    unneeded (to_finish {sc = sc} {s = s} l p) ok here g o on k m = past_unneeded sc s g here o ok k (omega (arith, m))
    unneeded (at_input {sc = sc} {s = s} q e) ok here g o on k m = past_unneeded sc s g here o ok k (omega (arith, m))
    unneeded (at_time {sc = sc} {s = s} q u y e) ok here g o on k m = past_unneeded sc s g here o ok k (omega (arith, m))
    unneeded (at_event {sc = sc} {s = s} q e) ok here g o on k m = past_unneeded sc s g here o ok k (omega (arith, m))
    unneeded (at_forever e) ok here g o on k m = refl
    unneeded (at_async {sc = sc} {s = s} c e more) ok here g o on k m =
        let i = inner_ground s (KStmt-F.Async c) g e on in
        let u = past_unneeded sc s g here o ok k (omega (arith, m)) in
        let v = unneeded more (layer_of K proper sc s (KStmt-F.Async c) e ok).1 here i.ground o i.on (known_async K proper b x sc i.ground g here o i.inner k) m in
        omega (arith, u, v)
    unneeded (in_part {sc = sc} {s = s} c q more) ok here g o on k m =
        let i = part_ground s c g q on in
        unneeded more (part_sound K proper sc s.node (out-KStmt s.stmt) c (layer_of K proper sc s (out-KStmt s.stmt) refl ok) q) here i.ground o i.on (known_part K proper b x sc s.node (out-KStmt s.stmt) c i.ground g here o q i.inner k) m
    unneeded (in_turn {sc = sc} {s = s} l c e q more) ok here g o on k m =
        let i = inner_ground s (KStmt-F.Loop l c) g e on in
        let r = k.room in
        let u = turn_unneeded s l c here o e r (omega (arith, m)) in
        let p = o + own b x here (out-KStmt s.stmt) in
        let v = unneeded more (layer_of K proper sc s (KStmt-F.Loop l c) e ok) here i.ground p i.on (known_turn K proper b x sc s l c g here o p i e on (omega arith) k) (omega (arith, m)) in
        omega (arith, u, v)
    unneeded (in_call {s = s} c es f y k e q more) ok here g o on kn m =
        let i = code_room K c k proper q in
        let to = Awaited here s.node in
        let z = given_is K proper b x to s c es f y k e q in
        let u = given_unneeded to (called_code K.codes (out-KStmt s.stmt)) (omega (arith, m)) in
        let p = point b x to + slots_grip K.codes b x to k.params in
        let v = unneeded more (code_static K c k proper q) to i.ground p i.on (known_code K proper b x c k i to p (omega arith)) (omega (arith, m, z)) in
        omega (arith, u, v)
    unneeded (in_par {sc = sc} {s = s} kind slot bs e q more) ok here g o on k m =
        let i = inner_ground s (KStmt-F.Par kind slot bs) g e on in
        each_unneeded more (layer_of K proper sc s (KStmt-F.Par kind slot bs) e ok).1 here i.ground o i.on (known_inner K proper b x sc i.ground g here o i.inner k) m

    pub each_unneeded : {t : ℕ} {sc : Scope} {kind : ParKind} {bs : List KBlock} {rs : Branches} → EachFits K t sc kind bs rs → each_fine K (names_of K) sc bs → (here : Body) (g : Ground) (o : ℕ) → Numbered (blocks_slots_all bs) (blocks_nodes_all bs) g
        → Known K proper b x sc g here o → o + grip_each K.codes b x here rs ≤ 2 → needed_each K.codes b x here rs ≡ 0
    each_unneeded no_more ok here g o on k m = refl
    each_unneeded (an_ended {sc = sc} {b = c} {bs = bs} p rest) ok here g o on k m =
        let i = halves (block_slots c) (blocks_slots_all bs) (block_nodes c) (blocks_nodes_all bs) g on in
        let v = each_unneeded rest ok.1 here i.right o i.on_right (known_inner K proper b x sc i.right g here o i.inner_right k) (omega (arith, m)) in
        omega (arith, v)
    each_unneeded (a_branch {sc = sc} {b = c} {bs = bs} fit rest) ok here g o on k m =
        let i = halves (block_slots c) (blocks_slots_all bs) (block_nodes c) (blocks_nodes_all bs) g on in
        let u = unneeded fit ok.0 here i.left o i.on_left (known_inner K proper b x sc i.left g here o i.inner_left k) (omega (arith, m)) in
        let v = each_unneeded rest ok.1 here i.right o i.on_right (known_inner K proper b x sc i.right g here o i.inner_right k) (omega (arith, m)) in
        omega (arith, u, v)

    pub all_unneeded : {t : ℕ} {sc : Scope} {all : Instances} → AllFit K t sc all → grip_all K.codes b x all ≤ 2 → needed_all K.codes b x all ≡ 0
    all_unneeded none_lives m = refl
    all_unneeded (one_lives {seat = seat} k p e fit rest) m =
        let i = code_room K seat.code k proper e in
        let to = Spawned seat.number in
        let z = ap (given_grip K.codes b x to) e in
        let u = given_unneeded to (code_at seat.code K.codes) (omega (arith, m)) in
        let o = point b x to + slots_grip K.codes b x to k.params in
        let v = unneeded fit (code_static K seat.code k proper e) to i.ground o i.on (known_code K proper b x seat.code k i to o (omega arith)) (omega (arith, m, z)) in
        let w = all_unneeded rest (omega (arith, m)) in
        omega (arith, u, v, w)

  -- ---- the parts around a leaf

  each_parts : (sc : Scope) (bs : List KBlock) (c : KBlock) (cs : List KBlock) → each_fine K (names_of K) sc (bs ++ c ∷ cs) → each_fine K (names_of K) sc bs × each_fine K (names_of K) sc cs
  each_parts sc [] c cs h = (tt, h.1)
  each_parts sc (q ∷ bs) c cs h = let a = each_parts sc bs c cs h.1 in ((h.0, a.0), a.1)

  -- a block beside one of its instances
  pub beside_unneeded : {t : ℕ} {sc : Scope} {s : KNode} {r : Residual} {front back : Instances} (c : KBlock) (rest : List KNode) (done : List KNode) → (out-KBlock c).list ≡ done ++ s ∷ rest → Fits K t (AStatement (block_scope sc c) s) r
      → AllFit K t sc front → AllFit K t sc back → BlockOk K (names_of K) sc c → (here : Body) (g : Ground) (o : ℕ) → Numbered (block_slots c) (block_nodes c) g → Known K proper b x sc g here o
      → o + slots_grip K.codes b x here (out-KBlock c).decls + (grip_all K.codes b x front + grip_all K.codes b x back) + grip K.codes b x here r ≤ 2
      → asked K.codes b x here (block_asks c (before (out-KBlock c).list rest) x) + (needed_all K.codes b x front + needed_all K.codes b x back) + needed K.codes b x here r ≡ 0
  beside_unneeded {sc = sc} {s = s} {r = r} {front = front} {back = back} c rest done e fit f1 f2 ok here g o on k m =
      let i = list_ground c done s rest g e on in
      let ds = (out-KBlock c).decls in
      let u = block_unneeded sc c (before (out-KBlock c).list rest) g here o ok k (omega (arith, m)) in
      let v = all_unneeded f1 (omega (arith, m)) in
      let y = all_unneeded f2 (omega (arith, m)) in
      let w = unneeded fit (list_sound K proper sc c done s rest ok e) here i.ground (o + slots_grip K.codes b x here ds) i.on (known_list K proper b x sc c s g here o (o + slots_grip K.codes b x here ds) i (omega arith) k) (omega (arith, m)) in
      omega (arith, u, v, w, y)

  pub frame_unneeded : {t : ℕ} {fr : Frame} {d e : Part} → FrameFits K t fr d e → Sound K proper d → (first : Bool) (here : Body) (g : Ground) (o : ℕ) → On d g → KnownAt K proper b x d g here o → o + frame_grip K.codes b x here fr ≤ 2
      → frame_needed K.codes b x first here fr ≡ 0
  frame_unneeded (around_statement {sc = sc} {b = c} {rest = rest} done e f fit) ok first here g o on k m =
      let u = block_unneeded sc c (before (out-KBlock c).list rest) g here o ok k (omega (arith, m)) in
      let v = all_unneeded fit (omega (arith, m)) in
      omega (arith, u, v)
  frame_unneeded (around_end {sc = sc} {b = c} f fit) ok first here g o on k m =
      let u = block_unneeded sc c (before (out-KBlock c).list []) g here o ok k (omega (arith, m)) in
      let v = all_unneeded fit (omega (arith, m)) in
      omega (arith, u, v)
  frame_unneeded (around_instance {b = c} {rest = rest} {seat = seat} done k e f fit front back p q) ok first here g o on kn m =
      let u = beside_unneeded c rest done e fit front back ok here g o on kn (omega (arith, m)) in
      let v = given_unneeded (Spawned seat.number) (code_at seat.code K.codes) (omega (arith, m)) in
      omega (arith, u, v)
  frame_unneeded (around_part c q) ok first here g o on k m = refl
  frame_unneeded {fr = OfLoop s j} (around_turn l c e q) ok first here g o on k m = go first
    where
      go : (t : Bool) → turn_needed K.codes b x t here s ≡ 0
      go true = refl
      go false = turn_unneeded s l c here o e k.room m
  frame_unneeded (around_call {s = s} c es f t k e q) ok first here g o on kn m = given_unneeded (Awaited here s.node) (called_code K.codes (out-KStmt s.stmt)) (omega (arith, m))
  frame_unneeded {fr = OfPar s front back} (around_branch {sc = sc} kind slot bs c cs e y z) ok first here g o on k m =
      let fine = (layer_of K proper sc s (KStmt-F.Par kind slot (bs ++ c ∷ cs)) e ok).1 in
      let parts = each_parts sc bs c cs fine in
      let i = inner_ground s (KStmt-F.Par kind slot (bs ++ c ∷ cs)) g e on in
      let j = branch_ground bs c cs i.ground i.on in
      let n = known_inner K proper b x sc i.ground g here o i.inner k in
      let u = each_unneeded y parts.0 here j.before o j.on_before (known_inner K proper b x sc j.before i.ground here o j.inner_before n) (omega (arith, m)) in
      let v = each_unneeded z parts.1 here j.after o j.on_after (known_inner K proper b x sc j.after i.ground here o j.inner_after n) (omega (arith, m)) in
      omega (arith, u, v)

  pub focus_unneeded : {A : Type 0} {t : ℕ} (first : A → Bool) (f : Focus A) (d e : Part) → Around K t A f d e → Sound K proper d → (here : Body) (g : Ground) (o : ℕ) → On d g → KnownAt K proper b x d g here o
      → o + focus_grip K.codes b x here f ≤ 2 → focus_needed K.codes b x first here f ≡ 0
  unfolding focus_grip focus_needed
  focus_unneeded first (Here a) d e nothing_around ok here g o on k m = refl
  focus_unneeded first (In fr f) d e (one_around {e = c} a more) ok here g o on k m =
      let i = frame_known K proper b x a here g o on k in
      let u = frame_unneeded a ok (at_loop first f) here g o on k (omega (arith, m)) in
      let v = focus_unneeded first f c e more (frame_sound K proper a ok) (body_in fr here) i.ground (o + frame_grip K.codes b x here fr) i.on i.known (omega (arith, m)) in
      omega (arith, u, v)
