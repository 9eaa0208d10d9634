-- Where code is awaited or spawned, each of the program's variables that it names is set.
use Rattle.std.proofs.Common.{◌≡◌, refl, sym, ap, ◌∙◌, subst, ◌≤◌, ℕ, suc, ◌+◌, Bool, true, false, not, if◌then◌else◌, ◌==◌, ◌&&◌, ◌||◌, ◌⊎◌, inl, inr, List, [], ◌∷◌, ◌++◌, Option, Some, None, arith, eqb-true, eq-eqb}
use Rattle.std.specs.List.{list_all}
use Rattle.std.proofs.lemmas.Bool.{and_parts, and_from, or_cases, ltb-true, false≢true}
use Rattle.ceu_tree.specs.declared.kernel.Kernel.{Kernel}
use Rattle.ceu_tree.specs.declared.kernel.KDecl.{KDecl}
use Rattle.ceu_tree.specs.declared.kernel.KKind.{KKind}
use Rattle.ceu_tree.specs.declared.kernel.KKind.TheVariants as kind
use Rattle.ceu_tree.specs.declared.kernel.KLoop.{KLoop}
use Rattle.ceu_tree.specs.declared.kernel.KLoop.TheVariants as turns
use Rattle.ceu_tree.specs.declared.kernel.Loc.{Loc}
use Rattle.ceu_tree.specs.declared.kernel.KNode.{KNode}
use Rattle.ceu_tree.specs.declared.kernel.KBlock.{KBlock, KBlock', out-KBlock, Row_of-KNode, end_of-KNode, more_of-KNode}
use Rattle.ceu_tree.specs.declared.kernel.KStmt as kernel
use Rattle.ceu_tree.specs.declared.kernel.KStmt.{KStmt, out-KStmt}
use Rattle.ceu_tree.specs.declared.kernel.KStmt.TheOpen.{KStmt-F}
use Rattle.ceu_tree.specs.Residual.{Body, Program, Act, Begin, Start, Finish, AtEnd, AtHead, Again, Residual, Over}
use Rattle.ceu_tree.specs.Focus.{Frame, OfInstance, Focus, Here, In, plug, fill, leaf, body_in}
use Rattle.ceu_tree.specs.World.{World}
use Rattle.ceu_tree.specs.Leaf.{Layer}
use Rattle.ceu_tree.specs.Legal.{Seated, before, is_set, is_program_variable, program_done, outer_set, seats}
use Rattle.ceu_tree.specs.Mentions.{named_by, outer_names_from, count_of, is_loc, await_target, first_target, body_target, sets, is_set_decl, maybe_loc, loc_names, exp_names, exps_names, stmt_names, block_names, list_names}
use Rattle.ceu_tree.specs.Proper.{Scope, LoopAim, is_in_code, is_trail, is_above, with_decls, with_aim, is_pool_of, alias_takes, find, stmt_ok, block_ok, nodes_ok, is_proper}
use Rattle.laws_meaning_basics.specs.Shape.{Part, ABlock, AStatement, AnEnd, block_scope, program_part, part_scope, turn_scope, FrameFits, around_statement, around_end, around_instance, around_part, around_turn, around_call, around_branch, Around, nothing_around, one_around, ActFits, starts, TurnFits}
use Rattle.laws_meaning_basics.proofs.Static.{BlockOk, names_of}
use Rattle.laws_meaning_basics.proofs.UpFits.{Sound, frame_sound, list_sound}
use Rattle.laws_meaning_basics.proofs.RunFits.{root_sound}
use Rattle.laws_meaning_basics.proofs.StepFits.{around_sound}
use Rattle.laws_meaning_values.specs.Ground.{has}
use Rattle.laws_meaning_values.specs.Ready.{declares}
use Rattle.laws_meaning_values.proofs.Names.{count_append, set_at, set_first_all, declared_static}
use Rattle.laws_meaning_values.proofs.Positions.{before_at}
use Rattle.laws_meaning_values.proofs.Stores.{or_left, or_right}
use Rattle.laws_meaning_slots.proofs.Seats.{frame_seats, focus_seats, unplug_seats}
use Rattle.laws_meaning_slots.proofs.Agree.{listed}
use Rattle.laws_meaning_counters.specs.Counters.{is_first, at_loop}
use Rattle.laws_meaning_assigned.specs.Needed.{own_target, block_asks, asked, frame_needed, focus_needed, Stocked}
use Rattle.ceu_tree.specs.Run.{Turning}
use Rattle.laws_meaning_assigned.specs.Outer.{code_set, layer_code, act_code}
use Rattle.laws_meaning_assigned.proofs.Places.{left_of, right_of, TargetOk, stmt_taken, own_if}
use Rattle.laws_meaning_assigned.proofs.Namings.{in_block, in_opened, in_loop, in_branches, in_awaited, in_spawned, exp_less, exps_less, stmt_less, block_less, list_less, table, code_names, table_named}
use Rattle.laws_meaning_assigned.proofs.Settled.{asked_yes}
use Rattle.laws_meaning_values.specs.Needed.{some_done}
use denote.Hole.Carrier

implied : (p q : Bool) → (p ≡ true → q ≡ true) → (not p || q) ≡ true
implied true q h = h refl
implied false q h = refl

variable_declared : (x : ℕ) (ds : List KDecl) → is_program_variable x ds ≡ true → declares x ds ≡ true
variable_declared x [] h = absurd (false≢true h)
variable_declared x (d ∷ ds) h = go (or_cases ((d.slot == x) && elim d.kind [ kind.Var t ↦ true | _ ↦ false ]) (is_program_variable x ds) h) (variable_declared x ds)
  where
    is_var : (k : KKind) → (elim k [ kind.Var t ↦ true | _ ↦ false ]) ≡ true → is_set_decl k ≡ true
    is_var (kind.Var t) e = refl
    is_var (kind.Alias c) e = absurd (false≢true e)
    is_var (kind.Pool n c) e = absurd (false≢true e)

    go : (((d.slot == x) && elim d.kind [ kind.Var t ↦ true | _ ↦ false ]) ≡ true) ⊎ (is_program_variable x ds ≡ true) → (is_program_variable x ds ≡ true → declares x ds ≡ true) → declares x (d ∷ ds) ≡ true
    go (inl e) ih =
        let a = and_parts (d.slot == x) (elim d.kind [ kind.Var t ↦ true | _ ↦ false ]) e in
        or_left ((d.slot == x) && is_set_decl d.kind) (declares x ds) (and_from (d.slot == x) (is_set_decl d.kind) a.0 (is_var d.kind a.1))
    go (inr e) ih = or_right ((d.slot == x) && is_set_decl d.kind) (declares x ds) (ih e)

counted_holds : (f : ℕ → Bool) (x : ℕ) (ys : List ℕ) → list_all f ys ≡ true → 1 ≤ count_of x ys → f x ≡ true
counted_holds f x [] h l = absurd (omega (arith, l))
counted_holds f x (y ∷ ys) h l = go (y == x) refl l (counted_holds f x ys a.1)
  where
    a : (f y ≡ true) × (list_all f ys ≡ true)
    a = and_parts (f y) (list_all f ys) h

    go : (t : Bool) → (y == x) ≡ t → 1 ≤ (if t then suc (count_of x ys) else count_of x ys) → (1 ≤ count_of x ys → f x ≡ true) → f x ≡ true
    go true e k ih = subst (λ z. f z ≡ true) (eqb-true y x e) a.0
    go false e k ih = ih k

holds_counted : (f : ℕ → Bool) (ys : List ℕ) → ((x : ℕ) → 1 ≤ count_of x ys → f x ≡ true) → list_all f ys ≡ true
holds_counted f [] h = refl
holds_counted f (y ∷ ys) h = and_from (f y) (list_all f ys) (h y (own (y == y) refl)) (holds_counted f ys (λ x l. h x (more x (y == x) l)))
  where
    own : (t : Bool) → (y == y) ≡ t → 1 ≤ (if t then suc (count_of y ys) else count_of y ys)
    own true e = omega arith
    own false e = absurd (false≢true (sym e ∙ eq-eqb y y refl))

    more : (x : ℕ) (t : Bool) → 1 ≤ count_of x ys → 1 ≤ (if t then suc (count_of x ys) else count_of x ys)
    more x true l = omega arith
    more x false l = l

-- ---- the statement of the program's block that sets a variable names it once more than by `outer`

module _ (K : Kernel) (proper : is_proper K ≡ true) (x : ℕ) where
  abbrev N : List (List ℕ)
  N = names_of K

  fewer : (st : KStmt) → count_of x (stmt_names false N st) ≤ count_of x (stmt_names true N st)
  fewer st = stmt_less x false true N N (λ e. refl) (λ k. omega arith) st

  own_here : (sc : Scope) (t : Option Loc) → is_in_code sc.code ≡ false → TargetOk K proper sc t → is_loc x t ≡ true → own_target x t ≡ true
  own_here sc t nc h e = own_if K proper x sc t h e (λ q. absurd (false≢true (sym nc ∙ q)))

  loc_gap : (t : Option Loc) → own_target x t ≡ true → count_of x (maybe_loc false N t) + 1 ≤ count_of x (maybe_loc true N t)
  loc_gap None h = absurd (false≢true h)
  loc_gap (Some l) h = go l.outer (and_parts (not l.outer) (l.slot == x) h).0
    where
      one : count_of x (l.slot ∷ []) ≡ 1
      one = ap (λ t. if t then 1 else 0) (and_parts (not l.outer) (l.slot == x) h).1

      go : (t : Bool) → not t ≡ true → count_of x (if false || t then l.slot ∷ [] else []) + 1 ≤ count_of x (l.slot ∷ [])
      go false k = let o = one in omega (arith, o)
      go true k = absurd (false≢true k)

  await_gap : (sc : Scope) (n : ℕ) (st : KStmt) → stmt_ok K N sc n st ≡ true → is_in_code sc.code ≡ false → is_loc x (await_target st) ≡ true → count_of x (stmt_names false N st) + 1 ≤ count_of x (stmt_names true N st)
  unfolding stmt_names out-KStmt Carrier.out
  await_gap sc n (kernel.AwaitIn k t) h nc e = loc_gap t (own_here sc t nc (stmt_taken K proper sc n (kernel.AwaitIn k t) h) e)
  await_gap sc n (kernel.AwaitTime y u t) h nc e =
      let g = loc_gap t (own_here sc t nc (stmt_taken K proper sc n (kernel.AwaitTime y u t) h) e) in
      let l = exp_less x false true N N (λ e. refl) (λ k. omega arith) y in
      let p = count_append x (exp_names false N y) (maybe_loc false N t) in
      let q = count_append x (exp_names true N y) (maybe_loc true N t) in
      omega (arith, g, l, p, q)
  await_gap sc n (kernel.AwaitEvent k t) h nc e = loc_gap t (own_here sc t nc (stmt_taken K proper sc n (kernel.AwaitEvent k t) h) e)
  await_gap sc n (kernel.AwaitCode c es f t) h nc e =
      let g = loc_gap t (own_here sc t nc (stmt_taken K proper sc n (kernel.AwaitCode c es f t) h) e) in
      let l = exps_less x false true N N (λ e. refl) (λ k. omega arith) es in
      let p = count_append x (exps_names false N es) (maybe_loc false N t) in
      let q = count_append x (exps_names true N es) (maybe_loc true N t) in
      let r = count_append x (exps_names false N es ++ maybe_loc false N t) (named_by c N) in
      let s = count_append x (exps_names true N es ++ maybe_loc true N t) (named_by c N) in
      omega (arith, g, l, p, q, r, s)
  await_gap sc n st h nc e = absurd (false≢true e)

  row_gap : {m : _} (sc : Scope) (row : Row_of-KNode m) → nodes_ok K N sc row ≡ true → is_in_code sc.code ≡ false → is_loc x (first_target row) ≡ true → count_of x (list_names false N row) + 1 ≤ count_of x (list_names true N row)
  unfolding nodes_ok list_names
  row_gap sc end_of-KNode h nc e = absurd (false≢true e)
  row_gap sc (more_of-KNode n p s rest) h nc e =
      let g = await_gap sc n s (right_of _ (stmt_ok K N sc n s) (left_of _ (nodes_ok K N sc rest) h)) nc e in
      let l = list_less x false true N N (λ e. refl) (λ k. omega arith) rest in
      let q = count_append x (stmt_names false N s) (list_names false N rest) in
      let r = count_append x (stmt_names true N s) (list_names true N rest) in
      omega (arith, g, l, q, r)

  block_gap : (sc : Scope) (c : KBlock) → block_ok K N sc c ≡ true → is_in_code sc.code ≡ false → is_loc x (body_target c) ≡ true → count_of x (block_names false N c) + 1 ≤ count_of x (block_names true N c)
  unfolding block_ok block_names
  block_gap sc (KBlock' n ds y list) h nc e = row_gap (with_decls ds sc) list (right_of _ (nodes_ok K N (with_decls ds sc) list) h) nc e

  stmt_gap : (sc : Scope) (n : ℕ) (st : KStmt) → stmt_ok K N sc n st ≡ true → is_in_code sc.code ≡ false → sets x st ≡ true → count_of x (stmt_names false N st) + 1 ≤ count_of x (stmt_names true N st)
  unfolding stmt_ok stmt_names out-KStmt Carrier.out
  stmt_gap sc n (kernel.Assign l y) h nc e =
      let g = loc_gap (Some l) (own_here sc (Some l) nc (stmt_taken K proper sc n (kernel.Assign l y) h) e) in
      let m = exp_less x false true N N (λ e. refl) (λ k. omega arith) y in
      let p = count_append x (loc_names false N l) (exp_names false N y) in
      let q = count_append x (loc_names true N l) (exp_names true N y) in
      omega (arith, g, m, p, q)
  stmt_gap sc n (kernel.Do t c) h nc e =
      let g = loc_gap t (own_here sc t nc (stmt_taken K proper sc n (kernel.Do t c) h) e) in
      let m = block_less x false true N N (λ e. refl) (λ k. omega arith) c in
      let p = count_append x (maybe_loc false N t) (block_names false N c) in
      let q = count_append x (maybe_loc true N t) (block_names true N c) in
      omega (arith, g, m, p, q)
  stmt_gap sc n (kernel.Unset c) h nc e = let o : count_of x (c ∷ []) ≡ 1 = ap (λ t. if t then 1 else 0) e in omega (arith, o)
  stmt_gap sc n (kernel.Spawn c es q (Some a)) h nc e =
      let o : count_of x (a ∷ []) ≡ 1 = ap (λ t. if t then 1 else 0) e in
      let l = exps_less x false true N N (λ e. refl) (λ k. omega arith) es in
      let p = count_append x (exps_names false N es) [] in
      let u = count_append x (exps_names true N es) (a ∷ []) in
      let r = count_append x (exps_names false N es ++ []) (named_by c N) in
      let s = count_append x (exps_names true N es ++ a ∷ []) (named_by c N) in
      omega (arith, o, l, p, u, r, s)
  stmt_gap sc n (kernel.Spawn c es q None) h nc e = absurd (false≢true e)
  stmt_gap sc n (kernel.Loop turns.Free c) h nc e =
      block_gap (with_aim (LoopAim n) sc) c (right_of _ (block_ok K N (with_aim (LoopAim n) sc) c) h) nc e
  stmt_gap sc n (kernel.Loop (turns.Times slot m) c) h nc e = absurd (false≢true e)
  stmt_gap sc n (kernel.Loop (turns.Range i next end open_a y z open_b) c) h nc e = absurd (false≢true e)
  stmt_gap sc n st h nc e = await_gap sc n st h nc e

  -- a variable of the program that the statement where its block stands names by `outer` is set by those before it
  top_set : (c : KBlock) (sc : Scope) (done : List KNode) (s : KNode) (rest : List KNode) → BlockOk K N sc c → is_in_code sc.code ≡ false → (out-KBlock c).list ≡ done ++ s ∷ rest → declares x (out-KBlock c).decls ≡ true → 1 ≤ count_of x (stmt_names false N s.stmt)
      → is_set (before (out-KBlock c).list rest) x ≡ true
  top_set c sc done s rest ok nc e d m = subst (λ l. is_set l x ≡ true) (sym (before_at c done s rest e)) (go (set_at N x done s rest (subst (λ l. set_first_all N x l ≡ true) e (declared_static N K sc c x ok d))))
    where
      go : (is_set done x ≡ true) ⊎ ((count_of x (stmt_names true N s.stmt) ≡ 0) ⊎ ((sets x s.stmt ≡ true) × (count_of x (stmt_names true N s.stmt) ≡ 1))) → is_set done x ≡ true
      go (inl a) = a
      go (inr (inl a)) = absurd (let l = fewer s.stmt in omega (arith, a, l, m))
      go (inr (inr a)) = absurd (let g = stmt_gap (block_scope sc c) s.node s.stmt (list_sound K proper sc c done s rest ok e) nc a.0 in let z = a.1 in omega (arith, g, z, m))

  -- ---- down to a leaf

  stmt_above : (sc : Scope) (n : ℕ) (st : KStmt) (c : ℕ) → stmt_ok K N sc n st ≡ true → layer_code (out-KStmt st) ≡ Some c → is_above K c sc.code ≡ true
  unfolding stmt_ok out-KStmt Carrier.out
  stmt_above sc n (kernel.AwaitCode d es f t) c h e = subst (λ j. is_above K j sc.code ≡ true) (same d c e) (left_of (is_above K d sc.code) _ (right_of (is_trail sc.place) _ h))
    where
      same : (d c : ℕ) → Some d ≡ Some c → d ≡ c
      same d c e = ap (λ o. elim o [ None ↦ d | Some y ↦ y ]) e
  stmt_above sc n (kernel.Spawn d es p a) c h e =
      subst (λ j. is_above K j sc.code ≡ true) (ap (λ o. elim o [ None ↦ d | Some y ↦ y ]) e)
      (left_of (is_above K d sc.code) _ (right_of (is_trail sc.place) _ (left_of _ (is_pool_of d (find p sc.seen)) (left_of _ (elim a [ None ↦ true | Some y ↦ alias_takes d p (find y sc.seen) ]) h))))
  stmt_above sc n st c h e = absurd (cc)

  table_same : (code : Option ℕ) (c : ℕ) → is_above K c code ≡ true → named_by c (table K code) ≡ named_by c (outer_names_from [] K.codes)
  table_same None c h = refl
  table_same (Some d) c h = table_named K d c (ltb-true c d h)

  module _ (S : Type 0) (P : Seated → Type 0) (from : (y : Seated) → P y → 1 ≤ count_of x (named_by y.seat.code (outer_names_from [] K.codes)) → S) where
    abbrev OutAt : Part → Type 0
    OutAt (ABlock turn sc c) = 1 ≤ count_of x (block_names false (table K sc.code) c) → S
    OutAt (AStatement sc s) = 1 ≤ count_of x (stmt_names false (table K sc.code) s.stmt) → S
    OutAt AnEnd = Unit {0}

    part_code : (sc : Scope) (n : ℕ) (layer : Layer) → (part_scope K sc n layer).code ≡ sc.code
    part_code sc n (KStmt-F.Do t c) = refl
    part_code sc n layer = refl

    turn_code : (sc : Scope) (n : ℕ) (l : KLoop) → (turn_scope K sc n l).code ≡ sc.code
    turn_code sc n turns.Free = refl
    turn_code sc n (turns.Times slot m) = refl
    turn_code sc n (turns.Range i next end open_a y z open_b) = refl

    block_out : (sc : Scope) (code : Option ℕ) (s : KNode) (c : KBlock) → code ≡ sc.code → count_of x (block_names false (table K sc.code) c) ≤ count_of x (stmt_names false (table K sc.code) s.stmt) → OutAt (AStatement sc s) → 1 ≤ count_of x (block_names false (table K code) c) → S
    block_out sc code s c e l h m = h (let z = subst (λ o. 1 ≤ count_of x (block_names false (table K o) c)) e m in omega (arith, l, z))

    frame_out : {t : ℕ} (fr : Frame) (d e : Part) (here : Body) → FrameFits K t fr d e → Sound K proper d → frame_seats P fr here → OutAt d → OutAt e
    frame_out fr d e here (around_statement {sc = sc} {b = c} {rest = rest} {s = s} done q f all) ok p h = λ m. h (let a = in_block false (table K sc.code) x c done s rest q in omega (arith, a, m))
    frame_out fr d e here (around_end f all) ok p h = tt
    frame_out (OfInstance c fin front seat back r rest) d e here (around_instance done k q f fit y z t g) ok p h = λ m. from _ p.1 (let a = ap (count_of x) (code_names K seat.code k g) in omega (arith, a, m))
    frame_out fr d e here (around_part {sc = sc} {s = s} c o) ok p h = block_out sc (part_scope K sc s.node (out-KStmt s.stmt)).code s c (part_code sc s.node (out-KStmt s.stmt)) (in_opened false (table K sc.code) x s c o) h
    frame_out fr d e here (around_turn {sc = sc} {s = s} l c q z) ok p h = block_out sc (turn_scope K sc s.node l).code s c (turn_code sc s.node l) (in_loop false (table K sc.code) x s l c q) h
    frame_out fr d e here (around_call {sc = sc} {s = s} m es f t k q z) ok p h = λ l.
        h (let a = in_awaited false (table K sc.code) x s m es f t q in let u = ap (count_of x) (table_same sc.code m (stmt_above sc s.node s.stmt m ok (ap layer_code q))) in let v = ap (count_of x) (code_names K m k z) in omega (arith, a, u, v, l))
    frame_out fr d e here (around_branch {sc = sc} {s = s} kd slot bs c cs q y z) ok p h = λ m. h (let a = in_branches false (table K sc.code) x s kd slot bs c cs q in omega (arith, a, m))

    around_out : {t : ℕ} (f : Focus Act) (d e : Part) (here : Body) → Around K t Act f d e → Sound K proper d → focus_seats P f here → OutAt d → OutAt e
    unfolding focus_seats
    around_out (Here a) d e here nothing_around ok p h = h
    around_out (In fr f) d e here (one_around {e = c} a more) ok p h = around_out f c e (body_in fr here) more (frame_sound K proper a ok) p.1 (frame_out fr d c here a ok p.0 h)

  -- the part where a trail of the program stands names none but those that are set
  first_out : {t : ℕ} (fr : Frame) (r : Residual) (e : Part) (P : Seated → Type 0) (from : (y : Seated) → P y → 1 ≤ count_of x (named_by y.seat.code (outer_names_from [] K.codes)) → is_set (program_done K.body (fill fr r)) x ≡ true) → FrameFits K t fr (program_part K) e
      → declares x (out-KBlock K.body).decls ≡ true → frame_seats P fr Program → OutAt (is_set (program_done K.body (fill fr r)) x ≡ true) P from e
  first_out fr r e P from (around_statement {sc = sc} {rest = rest} {s = s} done q f all) v p = λ m. top_set K.body sc done s rest (root_sound K proper) refl q v m
  first_out fr r e P from (around_end f all) v p = tt
  first_out (OfInstance c fin front seat back q rest) r e P from (around_instance done k z f fit y u t g) v p = λ m. from _ p.1 (let a = ap (count_of x) (code_names K seat.code k g) in omega (arith, a, m))

  -- at the statement where a turn is
  abbrev LeafOut : Focus Act → Part → Type 0
  LeafOut f (AStatement sc s) = 1 ≤ count_of x (stmt_names false (table K sc.code) s.stmt) → is_set (program_done K.body (plug f Over)) x ≡ true
  LeafOut f e = Unit {0}

  leaf_out : (f : Focus Act) (P : Seated → Type 0) (from : _) (e : Part) → OutAt (is_set (program_done K.body (plug f Over)) x ≡ true) P from e → LeafOut f e
  leaf_out f P from (AStatement sc s) h = h
  leaf_out f P from (ABlock turn sc c) h = tt
  leaf_out f P from AnEnd h = tt

  pub outer_down : {t : ℕ} (f : Focus Act) (e : Part) → Around K t Act f (program_part K) e → is_program_variable x (out-KBlock K.body).decls ≡ true → list_all (outer_set K (plug f Over)) (seats (plug f Over) Program) ≡ true → LeafOut f e
  unfolding focus_seats
  outer_down (Here a) e nothing_around v h = tt
  outer_down (In fr f) e (one_around {e = c} a more) v h =
      let p = unplug_seats Set (In fr f) Over Program (listed (outer_set K (plug (In fr f) Over)) (plug (In fr f) Over) Program h) in
      leaf_out (In fr f) Set from e
      (around_out (is_set (program_done K.body (plug (In fr f) Over)) x ≡ true) Set from f c e (body_in fr Program) more (frame_sound K proper a (root_sound K proper)) p.0.1 (first_out fr (plug f Over) c Set from a (variable_declared x (out-KBlock K.body).decls v) p.0.0))
    where
      Set : Seated → Type 0
      Set y = outer_set K (plug (In fr f) Over) y ≡ true

      from : (y : Seated) → Set y → 1 ≤ count_of x (named_by y.seat.code (outer_names_from [] K.codes)) → is_set (program_done K.body (plug (In fr f) Over)) x ≡ true
      from y p l = chosen (is_program_variable x (out-KBlock K.body).decls) v (counted_holds (λ slot. not (is_program_variable slot (out-KBlock K.body).decls) || is_set (program_done K.body (plug (In fr f) Over)) slot) x (named_by y.seat.code (outer_names_from [] K.codes)) p l)
        where
          chosen : (t : Bool) → t ≡ true → (not t || is_set (program_done K.body (plug (In fr f) Over)) x) ≡ true → is_set (program_done K.body (plug (In fr f) Over)) x ≡ true
          chosen true e q = q
          chosen false e q = absurd (false≢true e)

-- ---- code that is awaited or spawned

module _ (K : Kernel) (proper : is_proper K ≡ true) where
  code_named : (x : ℕ) (T : List (List ℕ)) (s : KNode) (layer : Layer) (c : ℕ) → out-KStmt s.stmt ≡ layer → layer_code layer ≡ Some c → count_of x (named_by c T) ≤ count_of x (stmt_names false T s.stmt)
  code_named x T s (KStmt-F.AwaitCode d es f t) c e h = subst (λ j. count_of x (named_by j T) ≤ count_of x (stmt_names false T s.stmt)) (ap (λ o. elim o [ None ↦ d | Some y ↦ y ]) h) (in_awaited false T x s d es f t e)
  code_named x T s (KStmt-F.Spawn d es p a) c e h = subst (λ j. count_of x (named_by j T) ≤ count_of x (stmt_names false T s.stmt)) (ap (λ o. elim o [ None ↦ d | Some y ↦ y ]) h) (in_spawned false T x s d es p a e)
  code_named x T s layer c e h = absurd (cc)

  act_named : (f : Focus Act) (x c : ℕ) (e : Part) (a : Act) → ActFits e a → Sound K proper e → act_code a ≡ Some c → LeafOut K proper x f e → 1 ≤ count_of x (named_by c (outer_names_from [] K.codes)) → is_set (program_done K.body (plug f Over)) x ≡ true
  act_named f x c e (Start s) (starts {sc = sc}) ok h o m =
      o (let a = code_named x (table K sc.code) s (out-KStmt s.stmt) c refl h in let u = ap (count_of x) (table_same K proper x sc.code c (stmt_above K proper x sc s.node s.stmt c ok h)) in omega (arith, a, u, m))
  act_named f x c e (Begin b) i ok h o m = absurd (cc)
  act_named f x c e (Finish s v) i ok h o m = absurd (cc)
  act_named f x c e AtEnd i ok h o m = absurd (cc)
  act_named f x c e AtHead i ok h o m = absurd (cc)
  act_named f x c e Again i ok h o m = absurd (cc)

  pub turn_code_set : (n : ℕ) (f : Focus Act) (c : ℕ) → TurnFits K (suc n) (program_part K) f → list_all (outer_set K (plug f Over)) (seats (plug f Over) Program) ≡ true → act_code (leaf f) ≡ Some c → code_set K (program_done K.body (plug f Over)) c ≡ true
  turn_code_set n f c t h e =
      holds_counted (λ slot. not (is_program_variable slot (out-KBlock K.body).decls) || is_set (program_done K.body (plug f Over)) slot) (named_by c (outer_names_from [] K.codes))
      (λ x m. implied (is_program_variable x (out-KBlock K.body).decls) (is_set (program_done K.body (plug f Over)) x)
      (λ v. act_named f x c t.part (leaf f) t.acts (around_sound K proper t.around (root_sound K proper)) e (outer_down K proper x f t.part t.around v h) m))

  -- ---- what a statement names by `outer` has a value

  top_has : (f : Focus Act) (x : ℕ) (w : World) {t : ℕ} {e : Part} → Around K t Act f (program_part K) e → (1 ≤ focus_needed K.codes Program x is_first Program f → has Program x w ≡ true) → is_program_variable x (out-KBlock K.body).decls ≡ true
      → is_set (program_done K.body (plug f Over)) x ≡ true → has Program x w ≡ true
  unfolding focus_needed
  top_has (Here a) x w nothing_around own v h = absurd (false≢true h)
  top_has (In fr f) x w (one_around a more) own v h = go fr a own h
    where
      yes : (rest : List KNode) → is_set (before (out-KBlock K.body).list rest) x ≡ true → 1 ≤ asked K.codes Program x Program (block_asks K.body (before (out-KBlock K.body).list rest) x)
      yes rest m =
          asked_yes K Program x Program (block_asks K.body (before (out-KBlock K.body).list rest) x) refl
          (or_left (declares x (out-KBlock K.body).decls && is_set (before (out-KBlock K.body).list rest) x) (own_target x (body_target K.body) && some_done (before (out-KBlock K.body).list rest))
          (and_from (declares x (out-KBlock K.body).decls) (is_set (before (out-KBlock K.body).list rest) x) (variable_declared x (out-KBlock K.body).decls v) m))

      go : {t : ℕ} {c : Part} (fr : Frame) → FrameFits K t fr (program_part K) c → (1 ≤ frame_needed K.codes Program x (at_loop is_first f) Program fr + focus_needed K.codes Program x is_first (body_in fr Program) f → has Program x w ≡ true)
          → is_set (program_done K.body (fill fr (plug f Over))) x ≡ true → has Program x w ≡ true
      go fr (around_statement {rest = rest} done q z all) own m = own (let a = yes rest m in omega (arith, a))
      go fr (around_end z all) own m = own (let a = yes [] m in omega (arith, a))
      go fr (around_instance {rest = rest} done k q z fit y u p g) own m = own (let a = yes rest m in omega (arith, a))

  start_named : (f : Focus Act) (x : ℕ) (s : KNode) (e : Part) (a : Act) → ActFits e a → a ≡ Start s → LeafOut K proper x f e → 1 ≤ count_of x (stmt_names false [] s.stmt) → is_set (program_done K.body (plug f Over)) x ≡ true
  start_named f x s e (Start q) (starts {sc = sc}) h o m =
      let same : q ≡ s = ap (λ a. elim a [ Start y ↦ y | _ ↦ q ]) h in
      o (let a = stmt_less x false false [] (table K sc.code) (λ e. e) (λ k. omega arith) q.stmt in let z = ap (λ y. count_of x (stmt_names false [] y.stmt)) same in omega (arith, a, z, m))
  start_named f x s e (Begin b) i h o m = absurd (cc)
  start_named f x s e (Finish q v) i h o m = absurd (cc)
  start_named f x s e AtEnd i h o m = absurd (cc)
  start_named f x s e AtHead i h o m = absurd (cc)
  start_named f x s e Again i h o m = absurd (cc)

  pub outer_reads : (n : ℕ) (f : Focus Act) (w : World) (s : KNode) (x : ℕ) → TurnFits K (suc n) (program_part K) f → Stocked K (Turning n f w) → list_all (outer_set K (plug f Over)) (seats (plug f Over) Program) ≡ true → leaf f ≡ Start s
      → is_program_variable x (out-KBlock K.body).decls ≡ true → 1 ≤ count_of x (stmt_names false [] s.stmt) → has Program x w ≡ true
  outer_reads n f w s x t own h e v m =
      top_has f x w t.around (λ u. own Program x (omega (arith, u))) v (start_named f x s t.part (leaf f) t.acts e (outer_down K proper x f t.part t.around v h) m)
