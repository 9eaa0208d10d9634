-- An abortion leaves each value that lies outside the part that is aborted, and no other.
use Rattle.std.proofs.Common.{◌≡◌, refl, sym, ap, subst, ℕ, ◌+◌, ℤ, true, false, inl, List, [], ◌∷◌, ◌++◌, Option, Some, None, Ok, Err, arith}
use Rattle.ceu_base.specs.declared.kinds.Pos.{Pos}
use Rattle.ceu_base.specs.declared.kinds.Fault.{Fault}
use Rattle.ceu_base.specs.declared.kinds.Mark.TheVariants.{Output, Ran}
use Rattle.ceu_tree.specs.declared.kernel.Kernel.{Kernel}
use Rattle.ceu_tree.specs.declared.kernel.KCode.{KCode}
use Rattle.ceu_tree.specs.declared.kernel.Loc.{Loc}
use Rattle.ceu_tree.specs.declared.kernel.KLoop.{KLoop}
use Rattle.ceu_tree.specs.declared.kernel.ParKind.{ParKind}
use Rattle.ceu_tree.specs.declared.kernel.KNode.{KNode}
use Rattle.ceu_tree.specs.declared.kernel.KBlock.{KBlock, out-KBlock}
use Rattle.ceu_tree.specs.declared.kernel.KStmt.{KStmt, Assign, Out, out-KStmt}
use Rattle.ceu_tree.specs.declared.kernel.KStmt.TheOpen.{KStmt-F}
use Rattle.ceu_tree.specs.Residual.{Body, Program, Awaited, Spawned, Counter, Residual, Branches, Instances, no_instance, instance}
use Rattle.ceu_tree.specs.Focus.{OfBlock, OfOpen, OfLoop, OfCall, join_instances}
use Rattle.ceu_tree.specs.World.{Holds, Held, World, marked, assign, assign_if, place_of, forget_declared, dead}
use Rattle.ceu_tree.specs.Expressions.{Answer, value_of, value_if}
use Rattle.ceu_tree.specs.Abort.{or_fault, simple, unless_fault, all_simple, finalizer_list, runs_one, finalized, aborted, branches_aborted, instances_aborted}
use Rattle.ceu_tree.specs.Leaf.{code_at}
use Rattle.ceu_tree.specs.Legal.{finalizers_of, called_code}
use Rattle.ceu_tree.specs.Proper.{Scope, in_finalizer, reads, stmt_ok, is_proper}
use Rattle.laws_meaning_basics.specs.Shape.{Part, ABlock, AStatement, block_scope, part_scope, turn_scope, code_scope, code_part, opens_part, counts, Fits, to_begin, to_turn, in_list, to_finish, at_input, at_time, at_event, at_forever, at_async, in_part, in_turn, in_call, in_par, EachFits, no_more, an_ended, a_branch, AllFit, none_lives, one_lives, FrameFits, around_statement, around_part, around_turn, around_call}
use Rattle.laws_meaning_basics.proofs.Static.{nodes_fine, each_fine, block_static, names_of, code_static}
use Rattle.laws_meaning_basics.proofs.UpFits.{Sound, layer_of, list_sound, part_sound}
use Rattle.laws_meaning_slots.proofs.Slots.{decls_room, layer_room, code_room, room, each_room, all_room, frame_room}
use Rattle.laws_meaning_slots.proofs.Values.{Lie, lie_more, lie_put, lie_forget_declared, lie_forget_loop, lie_forget_body}
use Rattle.laws_meaning_slots.proofs.Covers.{Own, Outer, Covers, own_more, covers_more, program_seen, outer_inside, code_own, block_own, frame_covers, loc_own}
use Rattle.laws_meaning_slots.proofs.Writes.{target_takes, assign_reads, finalizer_fine, finalizers_fine, front_fine}

pub instances_joined : (xs ys : Instances) (w : World) → instances_aborted (join_instances xs ys) w ≡ instances_aborted xs (instances_aborted ys w)
unfolding instances_aborted
instances_joined no_instance ys w = refl
instances_joined (instance seat r more) ys w = ap (λ u. dead seat.number (aborted r (Spawned seat.number) u)) (instances_joined more ys w)

abbrev pub LieIn : (Held → ℕ) → World → Type 0
LieIn c w = Lie c w.values

-- a list of which nothing but what c counts is left
pub lie_rest : (c : Held → ℕ) (w : World) → Lie (λ h. 0 + c h) w.values → Lie c w.values
lie_rest c w l = lie_more (λ h. 0 + c h) c (λ h n. omega (arith, n)) w.values l

module _ (K : Kernel) (proper : is_proper K ≡ true) (g : ℕ) where
  -- ---- finalizers

  pub assign_lies : (sc : Scope) (l : Loc) (v : ℤ) (body : Body) (c : Held → ℕ) (w : World) → Own K g c sc.seen body → Outer K g c → reads K sc l ≡ true
      → Lie c w.values → Lie c (assign body l v w).values
  assign_lies sc l v body c w own outer r x = lie_put c (place_of l body) l.slot (Holds v) w.values (loc_own K g sc l v body c own outer r) x

  pub assign_if_lies : (sc : Scope) (t : Option Loc) (v : ℤ) (body : Body) (c : Held → ℕ) (w : World) → Own K g c sc.seen body → Outer K g c
      → target_takes K (names_of K) sc t → Lie c w.values → Lie c (assign_if body t v w).values
  assign_if_lies sc None v body c w own outer r x = x
  assign_if_lies sc (Some l) v body c w own outer r x = assign_lies sc l v body c w own outer r x

  module _ (body : Body) (c : Held → ℕ) (outer : Outer K g c) where
    simple_lies : (sc : Scope) (n : ℕ) (st : KStmt) (w : World) → Own K g c sc.seen body → stmt_ok K (names_of K) sc n st ≡ true → Lie c w.values
        → Lie c (simple st body w).values
    simple_lies sc n (Assign l e) w own h x = go (value_of e body w)
      where
        go : (a : Answer) → Lie c (or_fault a w (λ v. assign body l v w)).values
        go (Ok v) = assign_lies sc l v body c w own outer (assign_reads K (names_of K) sc n l e h) x
        go (Err z) = x
    simple_lies sc n (Out k e) w own h x = go (value_if e body w)
      where
        go : (a : Answer) → Lie c (or_fault a w (λ v. marked (Output k v) w)).values
        go (Ok v) = x
        go (Err z) = x
    simple_lies sc n st w own h x = x

    unless_lies : (f : World → World) (w : World) → Lie c (f w).values → Lie c w.values → Lie c (unless_fault f w).values
    unless_lies f w h k = go w.fault
      where
        go : (o : Option (Fault × Pos)) → LieIn c (elim o [ Some e ↦ w | None ↦ f w ])
        go None = h
        go (Some e) = k

    all_simple_lie : (sc : Scope) (ss : List KNode) (w : World) → Own K g c sc.seen body → nodes_fine K (names_of K) sc ss → Lie c w.values
        → Lie c (all_simple ss body w).values
    all_simple_lie sc [] w own h x = x
    all_simple_lie sc (s ∷ ss) w own h x = all_simple_lie sc ss (unless_fault (simple s.stmt body) w) own h.1 (unless_lies (simple s.stmt body) w (simple_lies sc s.node s.stmt w own h.0 x) x)

    finalized_lie : (sc : Scope) (fin : List KNode) (w : World) → Own K g c sc.seen body → nodes_fine K (names_of K) sc fin → Lie c w.values
        → Lie c (finalized fin body w).values
    finalized_lie sc [] w own h x = x
    finalized_lie sc (s ∷ ss) w own h x =
        finalized_lie sc ss (unless_fault (runs_one s body) w) own h.1
        (unless_lies (runs_one s body) w (all_simple_lie (in_finalizer K sc) (finalizer_list s.stmt) (marked (Ran s.pos) w) own (finalizer_fine K (names_of K) sc s.node s.stmt h.0) x) x)

  -- the finalizers of a block, and its declarations
  pub ends_lie : (sc : Scope) (b : KBlock) (fin : List KNode) (body : Body) (c : Held → ℕ) (w : World) → Own K g c sc.seen body
      → Outer K g (λ h. decls_room K.codes g h body (out-KBlock b).decls + c h) → nodes_fine K (names_of K) (block_scope sc b) fin
      → Lie (λ h. decls_room K.codes g h body (out-KBlock b).decls + c h) w.values → Lie c (forget_declared body (out-KBlock b).decls (finalized fin body w)).values
  ends_lie sc b fin body c w own outer h x =
      lie_forget_declared K.codes g body (out-KBlock b).decls c (finalized fin body w)
      (finalized_lie body (λ h. decls_room K.codes g h body (out-KBlock b).decls + c h) outer (block_scope sc b) fin w (block_own K g sc b body c own) h x)

  pub registered_fine : (sc : Scope) (b : KBlock) (fin done rest : List KNode) → Sound K proper (ABlock false sc b) → (out-KBlock b).list ≡ done ++ rest
      → fin ≡ finalizers_of [] done → nodes_fine K (names_of K) (block_scope sc b) fin
  registered_fine sc b fin done rest h e f =
      subst (nodes_fine K (names_of K) (block_scope sc b)) (sym f)
      (finalizers_fine K (names_of K) (block_scope sc b) [] done tt (front_fine K (names_of K) (block_scope sc b) done rest (subst (nodes_fine K (names_of K) (block_scope sc b)) e (block_static K (names_of K) sc b h))))

  part_around : (sc : Scope) (s : KNode) (b : KBlock) → opens_part (out-KStmt s.stmt) b
      → FrameFits K 0 (OfOpen s) (AStatement sc s) (ABlock false (part_scope K sc s.node (out-KStmt s.stmt)) b)
  part_around sc s b p = around_part b p

  turn_around : (sc : Scope) (s : KNode) (j : Counter) (k : KLoop) (b : KBlock) → out-KStmt s.stmt ≡ KStmt-F.Loop k b → counts k j ≡ true
      → FrameFits K 0 (OfLoop s j) (AStatement sc s) (ABlock true (turn_scope K sc s.node k) b)
  turn_around sc s j k b e q = around_turn k b e q

  call_around : (sc : Scope) (s : KNode) (i : ℕ) (es f t : _) (k : KCode) → out-KStmt s.stmt ≡ KStmt-F.AwaitCode i es f t → code_at i K.codes ≡ Some k
      → FrameFits K 0 (OfCall s) (AStatement sc s) (code_part K i k)
  call_around sc s i es f t k e q = around_call i es f t k e q

  mutual
    unfolding aborted room

    pub aborted_lie : {t : ℕ} {d : Part} {r : Residual} → Fits K t d r → Sound K proper d → (body : Body) (c : Held → ℕ) (w : World) → Covers K g c d body
        → Lie (λ h. room K.codes g h r body + c h) w.values → Lie c (aborted r body w).values
    aborted_lie (to_begin l) h body c w o x = lie_rest c w x
    aborted_lie (to_turn l p) h body c w o x = lie_rest c w x
    aborted_lie (in_list {turn = turn} {sc = sc} {b = b} {fin = fin} {rest = rest} {all = all} {r = r} {s = s} done e f fit more) h body c w o x =
        let inner : Held → ℕ = λ k. frame_room K.codes g k (OfBlock b fin all rest) body + c k in
        let w1 = aborted r body w in
        let x1 = aborted_lie more (list_sound K proper sc b done s rest h e) body inner w (frame_covers K g {fr = OfBlock b fin all rest} {d = ABlock turn sc b} {e = AStatement (block_scope sc b) s} (around_statement done e f fit) c body o)
        (lie_more (λ k. decls_room K.codes g k body (out-KBlock b).decls + (all_room K.codes g k all + room K.codes g k r body) + c k) (λ k. room K.codes g k r body + inner k) (λ k n. omega (arith, n)) w.values x) in
        let out = outer_inside K g b body c o.1 in
        let x2 = all_lie fit (λ k. decls_room K.codes g k body (out-KBlock b).decls + c k) w1 out (lie_more inner (λ k. all_room K.codes g k all + (decls_room K.codes g k body (out-KBlock b).decls + c k)) (λ k n. omega (arith, n)) w1.values x1) in
        ends_lie sc b fin body c (instances_aborted all w1) o.0 out (registered_fine sc b fin done (s ∷ rest) h e f) x2
    aborted_lie (to_finish l p) h body c w o x = lie_rest c w x
    aborted_lie (at_input p e) h body c w o x = lie_rest c w x
    aborted_lie (at_time p u y e) h body c w o x = lie_rest c w x
    aborted_lie (at_event p e) h body c w o x = lie_rest c w x
    aborted_lie (at_forever e) h body c w o x = lie_rest c w x
    aborted_lie (at_async {sc = sc} {s = s} b e more) h body c w o x = aborted_lie more (layer_of K proper sc s (KStmt-F.Async b) e h).1 body c w (o.0, inl o.1) x
    aborted_lie (in_part {sc = sc} {s = s} {r = r} b p more) h body c w o x =
        aborted_lie more (part_sound K proper sc s.node (out-KStmt s.stmt) b (layer_of K proper sc s (out-KStmt s.stmt) refl h) p) body c w
        (covers_more K g (λ k. 0 + c k) c (ABlock false (part_scope K sc s.node (out-KStmt s.stmt)) b) body (λ k n. omega (arith, n)) (frame_covers K g {fr = OfOpen s} {d = AStatement sc s} {e = ABlock false (part_scope K sc s.node (out-KStmt s.stmt)) b} (part_around sc s b p) c body o)) x
    aborted_lie (in_turn {sc = sc} {s = s} {c = j} {r = r} k b e q more) h body c w o x =
        lie_forget_loop K.codes g body s.stmt c (aborted r body w)
        (aborted_lie more (layer_of K proper sc s (KStmt-F.Loop k b) e h) body (λ z. layer_room K.codes g z body (out-KStmt s.stmt) + c z) w (frame_covers K g {fr = OfLoop s j} {d = AStatement sc s} {e = ABlock true (turn_scope K sc s.node k) b} (turn_around sc s j k b e q) c body o)
        (lie_more (λ j. layer_room K.codes g j body (out-KStmt s.stmt) + room K.codes g j r body + c j) (λ j. room K.codes g j r body + (layer_room K.codes g j body (out-KStmt s.stmt) + c j)) (λ j n. omega (arith, n)) w.values x))
    aborted_lie (in_call {sc = sc} {s = s} {r = r} i es f y k e q more) h body c w o x =
        let code : Held → ℕ = λ j. code_room K.codes g j (Awaited body s.node) (called_code K.codes (out-KStmt s.stmt)) in
        lie_forget_body K.codes g (Awaited body s.node) (called_code K.codes (out-KStmt s.stmt)) c (aborted r (Awaited body s.node) w)
        (aborted_lie more (code_static K i k proper q) (Awaited body s.node) (λ j. code j + c j) w (frame_covers K g {fr = OfCall s} {d = AStatement sc s} {e = code_part K i k} (call_around sc s i es f y k e q) c body o)
        (lie_more (λ j. code j + room K.codes g j r (Awaited body s.node) + c j) (λ j. room K.codes g j r (Awaited body s.node) + (code j + c j)) (λ j n. omega (arith, n)) w.values x))
    aborted_lie (in_par {sc = sc} {s = s} k slot bs e q more) h body c w o x = each_lie more (layer_of K proper sc s (KStmt-F.Par k slot bs) e h).1 body c w o.0 o.1 x

    pub each_lie : {t : ℕ} {sc : Scope} {k : ParKind} {bs : List KBlock} {rs : Branches} → EachFits K t sc k bs rs → each_fine K (names_of K) sc bs
        → (body : Body) (c : Held → ℕ) (w : World) → Own K g c sc.seen body → Outer K g c
        → Lie (λ h. each_room K.codes g h rs body + c h) w.values → Lie c (branches_aborted rs body w).values
    each_lie no_more h body c w o u x = lie_rest c w x
    each_lie (an_ended {more = more} m rest) h body c w o u x = each_lie rest h.1 body c w o u (lie_more (λ j. 0 + each_room K.codes g j more body + c j) (λ j. each_room K.codes g j more body + c j) (λ j n. omega (arith, n)) w.values x)
    each_lie {sc = sc} (a_branch {r = r} {more = more} fit rest) h body c w o u x =
        let d : Held → ℕ = λ j. room K.codes g j r body + c j in
        aborted_lie fit h.0 body c (branches_aborted more body w) (o, inl u)
        (each_lie rest h.1 body d w (own_more K g c d sc.seen body (λ j n. omega (arith, n)) o) (own_more K g c d (program_seen K g) Program (λ j n. omega (arith, n)) u)
        (lie_more (λ j. room K.codes g j r body + each_room K.codes g j more body + c j) (λ j. each_room K.codes g j more body + d j) (λ j n. omega (arith, n)) w.values x))

    pub all_lie : {t : ℕ} {sc : Scope} {all : Instances} → AllFit K t sc all → (c : Held → ℕ) (w : World) → Outer K g c
        → Lie (λ h. all_room K.codes g h all + c h) w.values → Lie c (instances_aborted all w).values
    all_lie none_lives c w u x = lie_rest c w x
    all_lie (one_lives {seat = seat} {r = r} {more = more} k p e fit rest) c w u x =
        let body = Spawned seat.number in
        let code : Held → ℕ = λ j. code_room K.codes g j body (code_at seat.code K.codes) in
        let d : Held → ℕ = λ j. room K.codes g j r body + (code j + c j) in
        let w1 = instances_aborted more w in
        let x1 = all_lie rest d w (own_more K g c d (program_seen K g) Program (λ j n. omega (arith, n)) u)
        (lie_more (λ j. code j + (room K.codes g j r body + all_room K.codes g j more) + c j) (λ j. all_room K.codes g j more + d j) (λ j n. omega (arith, n)) w.values x) in
        lie_forget_body K.codes g body (code_at seat.code K.codes) c (aborted r body w1)
        (aborted_lie fit (code_static K seat.code k proper e) body (λ j. code j + c j) w1
        (own_more K g code (λ j. code j + c j) (code_scope K seat.code k).seen body (λ j n. omega (arith, n)) (code_own K g seat.code k body e), inl (own_more K g c (λ j. code j + c j) (program_seen K g) Program (λ j n. omega (arith, n)) u)) x1)
