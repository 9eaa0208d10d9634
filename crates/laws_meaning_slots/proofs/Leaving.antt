-- An abortion of what is inside a part, or the end of a block, leaves each value that lies around it, and no other.
use Rattle.std.proofs.Common.{◌≡◌, sym, subst, ℕ, ◌+◌, Bool, true, false, Some, inl, List, [], ◌∷◌, ◌++◌, append-nil, arith}
use Rattle.ceu_tree.specs.declared.kernel.Kernel.{Kernel}
use Rattle.ceu_tree.specs.declared.kernel.KCode.{KCode}
use Rattle.ceu_tree.specs.declared.kernel.ParKind.{ParKind}
use Rattle.ceu_tree.specs.declared.kernel.KNode.{KNode}
use Rattle.ceu_tree.specs.declared.kernel.KBlock.{KBlock, out-KBlock}
use Rattle.ceu_tree.specs.declared.kernel.KStmt.{out-KStmt}
use Rattle.ceu_tree.specs.declared.kernel.KStmt.TheOpen.{KStmt-F}
use Rattle.ceu_tree.specs.Residual.{Body, Program, Awaited, Spawned, Act, Seat, Residual, Over, Branches, branch, Instances, instance}
use Rattle.ceu_tree.specs.Focus.{Frame, OfBlock, OfInstance, OfOpen, OfLoop, OfCall, OfPar, Focus, In, join, join_instances, fill, plug, body_in}
use Rattle.ceu_tree.specs.World.{Held, World, dead}
use Rattle.ceu_tree.specs.Abort.{aborted, branches_aborted, instances_aborted, closed}
use Rattle.ceu_tree.specs.Leaf.{code_at}
use Rattle.ceu_tree.specs.Legal.{called_code}
use Rattle.ceu_tree.specs.Proper.{Scope, is_proper}
use Rattle.laws_meaning_basics.specs.Shape.{Part, ABlock, AStatement, block_scope, part_scope, turn_scope, code_scope, code_part, AllFit, EachFits, FrameFits, around_statement, around_end, around_instance, around_part, around_turn, around_call, around_branch, Around, nothing_around, one_around}
use Rattle.laws_meaning_basics.proofs.Static.{nodes_fine, each_fine, names_of}
use Rattle.laws_meaning_basics.proofs.UpFits.{Sound, layer_of, list_sound, frame_sound}
use Rattle.laws_meaning_values.proofs.FocusSpares.{branches_joined}
use Rattle.laws_meaning_slots.proofs.Slots.{decls_room, layer_room, code_room, room, each_room, all_room, frame_room, focus_room}
use Rattle.laws_meaning_slots.proofs.Values.{lie_more, lie_forget_loop, lie_forget_body}
use Rattle.laws_meaning_slots.proofs.Covers.{Own, Outer, Covers, own_more, covers_more, program_seen, outer_inside, code_own, block_own, frame_covers}
use Rattle.laws_meaning_slots.proofs.Aborts.{instances_joined, lie_rest, LieIn, ends_lie, registered_fine, aborted_lie, each_lie, all_lie}

-- of an abortion of q in that body and place: what lies neither in it nor in c is left nowhere
abbrev pub Leaves : (K : Kernel) (g : ℕ) → (m : Held → ℕ) → Residual → Part → Body → Type 0
Leaves K g m q e body = (c : Held → ℕ) (u : World) → Covers K g c e body → LieIn (λ h. m h + c h) u → LieIn c (aborted q body u)

module _ (K : Kernel) (proper : is_proper K ≡ true) (g : ℕ) where
  pub closed_lie : {t : ℕ} {sc : Scope} {all : Instances} (turn : Bool) (b : KBlock) (fin : List KNode) (body : Body) (c : Held → ℕ) (w : World)
      → AllFit K t sc all → Covers K g c (ABlock turn sc b) body → nodes_fine K (names_of K) (block_scope sc b) fin
      → LieIn (λ h. all_room K.codes g h all + (decls_room K.codes g h body (out-KBlock b).decls + c h)) w → LieIn c (closed b fin all body w)
  closed_lie {sc = sc} {all = all} turn b fin body c w fit o f x =
      let out = outer_inside K g b body c o.1 in
      ends_lie K proper g sc b fin body c (instances_aborted all w) o.0 out f (all_lie K proper g fit (λ h. decls_room K.codes g h body (out-KBlock b).decls + c h) w out x)

  each_parts : (sc : Scope) (bs : List KBlock) (b : KBlock) (cs : List KBlock) → each_fine K (names_of K) sc (bs ++ b ∷ cs)
      → each_fine K (names_of K) sc bs × each_fine K (names_of K) sc cs
  each_parts sc [] b cs h = (tt, h.1)
  each_parts sc (x ∷ bs) b cs h = let a = each_parts sc bs b cs h.1 in ((h.0, a.0), a.1)

  -- the branches before and after one that is aborted between them
  pub branches_lie : {t : ℕ} {sc : Scope} {k : ParKind} {bs cs : List KBlock} {front back : Branches} (b : KBlock) (m : Held → ℕ) (q : Residual) (body : Body) (c : Held → ℕ) (w : World)
      → EachFits K t sc k bs front → EachFits K t sc k cs back
      → each_fine K (names_of K) sc (bs ++ b ∷ cs) → Own K g c sc.seen body → Outer K g c → Leaves K g m q (ABlock false sc b) body
      → LieIn (λ h. each_room K.codes g h front body + each_room K.codes g h back body + m h + c h) w → LieIn c (branches_aborted (join front (branch q back)) body w)
  unfolding aborted
  branches_lie {sc = sc} {bs = bs} {cs = cs} {front = front} {back = back} b m q body c w y z h o u ih x =
      let f = each_parts sc bs b cs h in
      let d : Held → ℕ = λ h. each_room K.codes g h front body + c h in
      let e : Held → ℕ = λ h. m h + d h in
      let w1 = branches_aborted back body w in
      let x1 = each_lie K proper g z f.1 body e w (own_more K g c e sc.seen body (λ h n. omega (arith, n)) o) (own_more K g c e (program_seen K g) Program (λ h n. omega (arith, n)) u)
      (lie_more (λ h. each_room K.codes g h front body + each_room K.codes g h back body + m h + c h) (λ h. each_room K.codes g h back body + e h) (λ h n. omega (arith, n)) w.values x) in
      let x2 = ih d w1 (own_more K g c d sc.seen body (λ h n. omega (arith, n)) o, inl (own_more K g c d (program_seen K g) Program (λ h n. omega (arith, n)) u)) x1 in
      subst (LieIn c) (sym (branches_joined front (branch q back) body w)) (each_lie K proper g y f.0 body c (aborted q body w1) o u x2)

  -- the instances before and after one that is aborted between them
  instances_lie : {t : ℕ} {sc : Scope} {front back : Instances} (seat : Seat) (k : KCode) (m : Held → ℕ) (q : Residual) (c : Held → ℕ) (w : World)
      → AllFit K t sc front → AllFit K t sc back → code_at seat.code K.codes ≡ Some k → Outer K g c
      → Leaves K g m q (code_part K seat.code k) (Spawned seat.number)
      → LieIn (λ h. all_room K.codes g h front + (code_room K.codes g h (Spawned seat.number) (code_at seat.code K.codes) + all_room K.codes g h back) + m h + c h) w → LieIn c (instances_aborted (join_instances front (instance seat q back)) w)
  unfolding aborted
  instances_lie {front = front} {back = back} seat k m q c w y z r u ih x =
      let body = Spawned seat.number in
      let code : Held → ℕ = λ h. code_room K.codes g h body (code_at seat.code K.codes) in
      let d : Held → ℕ = λ h. all_room K.codes g h front + c h in
      let e : Held → ℕ = λ h. code h + d h in
      let v : Held → ℕ = λ h. m h + e h in
      let w1 = instances_aborted back w in
      let x1 = all_lie K proper g z v w (own_more K g c v (program_seen K g) Program (λ h n. omega (arith, n)) u)
      (lie_more (λ h. all_room K.codes g h front + (code h + all_room K.codes g h back) + m h + c h) (λ h. all_room K.codes g h back + v h) (λ h n. omega (arith, n)) w.values x) in
      let x2 = ih e w1 (own_more K g code e (code_scope K seat.code k).seen body (λ h n. omega (arith, n)) (code_own K g seat.code k body r), inl (own_more K g c e (program_seen K g) Program (λ h n. omega (arith, n)) u)) x1 in
      let x3 = lie_forget_body K.codes g body (code_at seat.code K.codes) d (aborted q body w1) x2 in
      subst (LieIn c) (sym (instances_joined front (instance seat q back) w)) (all_lie K proper g y c (dead seat.number (aborted q body w1)) u x3)

  frame_leaves : {t : ℕ} {fr : Frame} {d e : Part} → FrameFits K t fr d e → Sound K proper d → (m : Held → ℕ) (q : Residual) (body : Body)
      → Leaves K g m q e (body_in fr body)
      → (c : Held → ℕ) (w : World) → Covers K g c d body → LieIn (λ h. frame_room K.codes g h fr body + m h + c h) w → LieIn c (aborted (fill fr q) body w)
  unfolding aborted
  frame_leaves {fr = OfBlock b fin all rest} (around_statement {turn = turn} {sc = sc} {s = s} done e f fit) h m q body ih c w o x =
      let i : Held → ℕ = λ h. frame_room K.codes g h (OfBlock b fin all rest) body + c h in
      let x1 = ih i w (frame_covers K g {fr = OfBlock b fin all rest} {d = ABlock turn sc b} {e = AStatement (block_scope sc b) s} (around_statement done e f fit) c body o)
      (lie_more (λ h. frame_room K.codes g h (OfBlock b fin all rest) body + m h + c h) (λ h. m h + i h) (λ h n. omega (arith, n)) w.values x) in
      closed_lie turn b fin body c (aborted q body w) fit o (registered_fine K proper g sc b fin done (s ∷ rest) h e f)
      (lie_more i (λ h. all_room K.codes g h all + (decls_room K.codes g h body (out-KBlock b).decls + c h)) (λ h n. omega (arith, n)) (aborted q body w).values x1)
  frame_leaves {fr = OfBlock b fin all rest} (around_end {turn = turn} {sc = sc} f fit) h m q body ih c w o x =
      let i : Held → ℕ = λ h. frame_room K.codes g h (OfBlock b fin all rest) body + c h in
      let x1 = ih i w tt (lie_more (λ h. frame_room K.codes g h (OfBlock b fin all rest) body + m h + c h) (λ h. m h + i h) (λ h n. omega (arith, n)) w.values x) in
      closed_lie turn b fin body c (aborted q body w) fit o (registered_fine K proper g sc b fin (out-KBlock b).list [] h (sym (append-nil (out-KBlock b).list)) f)
      (lie_more i (λ h. all_room K.codes g h all + (decls_room K.codes g h body (out-KBlock b).decls + c h)) (λ h n. omega (arith, n)) (aborted q body w).values x1)
  frame_leaves {fr = OfInstance b fin front seat back r rest} (around_instance {turn = turn} {sc = sc} {s = s} done k e f fit y z p code) h m q body ih c w o x =
      let out = outer_inside K g b body c o.1 in
      let d : Held → ℕ = λ h. decls_room K.codes g h body (out-KBlock b).decls + c h in
      let v : Held → ℕ = λ h. all_room K.codes g h front + (code_room K.codes g h (Spawned seat.number) (code_at seat.code K.codes) + all_room K.codes g h back) + m h + d h in
      let w1 = aborted r body w in
      let x1 = aborted_lie K proper g fit (list_sound K proper sc b done s rest h e) body v w
      (own_more K g d v (block_scope sc b).seen body (λ h n. omega (arith, n)) (block_own K g sc b body c o.0), own_more K g d v (program_seen K g) Program (λ h n. omega (arith, n)) out)
      (lie_more (λ h. frame_room K.codes g h (OfInstance b fin front seat back r rest) body + m h + c h) (λ h. room K.codes g h r body + v h) (λ h n. omega (arith, n)) w.values x) in
      ends_lie K proper g sc b fin body c (instances_aborted (join_instances front (instance seat q back)) w1) o.0 out (registered_fine K proper g sc b fin done (s ∷ rest) h e f)
      (instances_lie seat k m q d w1 y z code out ih x1)
  frame_leaves {fr = OfOpen s} (around_part {sc = sc} b p) h m q body ih c w o x =
      ih c w (covers_more K g (λ h. 0 + c h) c (ABlock false (part_scope K sc s.node (out-KStmt s.stmt)) b) body (λ h n. omega (arith, n)) (frame_covers K g {t = 0} {fr = OfOpen s} {d = AStatement sc s} {e = ABlock false (part_scope K sc s.node (out-KStmt s.stmt)) b} (around_part b p) c body o))
      (lie_more (λ h. 0 + m h + c h) (λ h. m h + c h) (λ h n. omega (arith, n)) w.values x)
  frame_leaves {fr = OfLoop s j} (around_turn {sc = sc} k b e p) h m q body ih c w o x =
      lie_forget_loop K.codes g body s.stmt c (aborted q body w)
      (ih (λ h. layer_room K.codes g h body (out-KStmt s.stmt) + c h) w (frame_covers K g {t = 0} {fr = OfLoop s j} {d = AStatement sc s} {e = ABlock true (turn_scope K sc s.node k) b} (around_turn k b e p) c body o)
      (lie_more (λ h. layer_room K.codes g h body (out-KStmt s.stmt) + m h + c h) (λ h. m h + (layer_room K.codes g h body (out-KStmt s.stmt) + c h)) (λ h n. omega (arith, n)) w.values x))
  frame_leaves {fr = OfCall s} (around_call {sc = sc} i es f y k e p) h m q body ih c w o x =
      let code : Held → ℕ = λ h. code_room K.codes g h (Awaited body s.node) (called_code K.codes (out-KStmt s.stmt)) in
      lie_forget_body K.codes g (Awaited body s.node) (called_code K.codes (out-KStmt s.stmt)) c (aborted q (Awaited body s.node) w)
      (ih (λ h. code h + c h) w (frame_covers K g {t = 0} {fr = OfCall s} {d = AStatement sc s} {e = code_part K i k} (around_call i es f y k e p) c body o)
      (lie_more (λ h. code h + m h + c h) (λ h. m h + (code h + c h)) (λ h n. omega (arith, n)) w.values x))
  frame_leaves {fr = OfPar s front back} (around_branch {sc = sc} k slot bs b cs e y z) h m q body ih c w o x =
      branches_lie b m q body c w y z (layer_of K proper sc s (KStmt-F.Par k slot (bs ++ b ∷ cs)) e h).1 o.0 o.1 ih x

  pub focus_leaves : {t : ℕ} {f : Focus Act} {d e : Part} → Around K t Act f d e → Sound K proper d → (body : Body)
      → Leaves K g (λ h. focus_room K.codes g h f body) (plug f Over) d body
  unfolding aborted focus_room
  focus_leaves nothing_around h body c w o x = lie_rest c w x
  focus_leaves {f = In fr f} (one_around a more) h body c w o x =
      frame_leaves a h (λ h. focus_room K.codes g h f (body_in fr body)) (plug f Over) body (focus_leaves more (frame_sound K proper a h) (body_in fr body)) c w o x
