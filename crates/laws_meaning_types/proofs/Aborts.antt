-- An abortion of the parts around a leaf keeps each value of its type.
use Rattle.std.proofs.Common.{◌≡◌, sym, ℕ, Bool, true, List, [], ◌∷◌, ◌++◌, append-nil}
use Rattle.ceu_tree.specs.declared.kernel.Kernel.{Kernel}
use Rattle.ceu_tree.specs.declared.kernel.ParKind.{ParKind}
use Rattle.ceu_tree.specs.declared.kernel.KNode.{KNode}
use Rattle.ceu_tree.specs.declared.kernel.KBlock.{KBlock, out-KBlock}
use Rattle.ceu_tree.specs.declared.kernel.KStmt.TheOpen.{KStmt-F}
use Rattle.ceu_tree.specs.Residual.{Body, Awaited, Spawned, Act, AtEnd, Residual, Over, Branches, branch, Instances, instance}
use Rattle.ceu_tree.specs.Focus.{Frame, Focus, Here, In, join, join_instances, fill, plug}
use Rattle.ceu_tree.specs.World.{World, forget_declared}
use Rattle.ceu_tree.specs.Abort.{finalized, aborted, branches_aborted, instances_aborted, closed}
use Rattle.ceu_tree.specs.Proper.{Scope, pools_seen, is_proper}
use Rattle.laws_meaning_basics.specs.Shape.{Part, ABlock, block_scope, EachFits, no_more, an_ended, a_branch, AllFit, none_lives, one_lives, FrameFits, around_statement, around_end, around_instance, around_part, around_turn, around_call, around_branch, Around, nothing_around, one_around}
use Rattle.laws_meaning_basics.proofs.Static.{each_fine, nodes_fine, names_of, code_static}
use Rattle.laws_meaning_basics.proofs.UpFits.{Sound, layer_of, list_sound, frame_sound}
use Rattle.laws_meaning_slots.specs.Declared.{block_rows, rows}
use Rattle.laws_meaning_slots.proofs.Aborts.{registered_fine}
use Rattle.laws_meaning_slots.proofs.Rows.{Incl, incl_left, incl_right, blocks_all_rows}
use Rattle.laws_meaning_slots.proofs.Known.{KnownSeen, Known, block_known, list_known, parts_known, code_known, around_known}
use Rattle.laws_meaning_slots.proofs.Typing.{AllTyped, dead_typed, forget_body_typed, forget_declared_typed, forget_loop_typed, finalized_typed, aborted_typed, each_typed, all_typed_kept}

module _ (K : Kernel) (proper : is_proper K ≡ true) where
  abbrev pub Gone : (World → World) → Type 0
  Gone f = (w : World) → AllTyped K proper w → AllTyped K proper (f w)

  pub over_gone : (body : Body) → Gone (aborted Over body)
  unfolding aborted
  over_gone body w x = x

  -- ---- blocks

  -- with the running part and the instances aborted, its finalizers run, and what it declares is forgotten
  block_gone : (turn : Bool) (sc : Scope) (b : KBlock) (fin : List KNode) (body : Body) → Known K proper (ABlock turn sc b)
      → nodes_fine K (names_of K) (block_scope sc b) fin → Gone (λ w. forget_declared body (out-KBlock b).decls (finalized fin body w))
  block_gone turn sc b fin body k f w x =
      forget_declared_typed K proper body (out-KBlock b).decls (finalized fin body w) (finalized_typed K proper body (block_scope sc b) (block_known K proper sc b k.0 k.1) fin w f x)

  pub closed_typed : {t : ℕ} {sc : Scope} {all : Instances} (turn : Bool) (b : KBlock) (fin : List KNode) (body : Body) → AllFit K t sc all
      → Known K proper (ABlock turn sc b) → nodes_fine K (names_of K) (block_scope sc b) fin → Gone (closed b fin all body)
  closed_typed {sc = sc} {all = all} turn b fin body fit k f w x = block_gone turn sc b fin body k f (instances_aborted all w) (all_typed_kept K proper fit w x)

  joined_gone : {t : ℕ} {sc : Scope} {front : Instances} (back : Instances) → AllFit K t sc front → Gone (instances_aborted back)
      → Gone (instances_aborted (join_instances front back))
  unfolding aborted
  joined_gone back none_lives h w x = h w x
  joined_gone back (one_lives {seat = seat} {r = r} {more = more} k p e fit rest) h w x =
      let w1 = instances_aborted (join_instances more back) w in
      dead_typed K proper seat.number (aborted r (Spawned seat.number) w1) (aborted_typed K proper fit (code_static K seat.code k proper e) (code_known K proper seat.code k e) (Spawned seat.number) w1 (joined_gone back rest h w x))

  -- ---- branches

  each_after : (sc : Scope) (bs : List KBlock) (b : KBlock) (cs : List KBlock) → each_fine K (names_of K) sc (bs ++ b ∷ cs)
      → each_fine K (names_of K) sc cs
  each_after sc [] b cs h = h.1
  each_after sc (x ∷ bs) b cs h = each_after sc bs b cs h.1

  rows_after : (ps : List ℕ) (bs : List KBlock) (b : KBlock) (cs : List KBlock) → Incl (blocks_all_rows ps (bs ++ b ∷ cs)) (rows K)
      → Incl (blocks_all_rows ps cs) (rows K)
  rows_after ps [] b cs h = incl_right (block_rows ps b) (blocks_all_rows ps cs) (rows K) h
  rows_after ps (x ∷ bs) b cs h = rows_after ps bs b cs (incl_right (block_rows ps x) (blocks_all_rows ps (bs ++ b ∷ cs)) (rows K) h)

  joined_branches : {t : ℕ} {sc : Scope} {k : ParKind} {bs : List KBlock} {front : Branches} (cs : List KBlock) (back : Branches)
      → EachFits K t sc k bs front
      → each_fine K (names_of K) sc (bs ++ cs) → Incl (blocks_all_rows (pools_seen sc.seen) (bs ++ cs)) (rows K) → KnownSeen K proper sc.seen
      → (body : Body)
      → Gone (branches_aborted back body) → Gone (branches_aborted (join front back) body)
  unfolding aborted
  joined_branches cs back no_more h i j body q w x = q w x
  joined_branches {sc = sc} cs back (an_ended {b = b} {bs = bs} m rest) h i j body q w x =
      joined_branches cs back rest h.1 (incl_right (block_rows (pools_seen sc.seen) b) (blocks_all_rows (pools_seen sc.seen) (bs ++ cs)) (rows K) i) j body q w x
  joined_branches {sc = sc} cs back (a_branch {b = b} {bs = bs} {more = more} fit rest) h i j body q w x =
      aborted_typed K proper fit h.0 (incl_left (block_rows (pools_seen sc.seen) b) (blocks_all_rows (pools_seen sc.seen) (bs ++ cs)) (rows K) i, j) body (branches_aborted (join more back) body w)
      (joined_branches cs back rest h.1 (incl_right (block_rows (pools_seen sc.seen) b) (blocks_all_rows (pools_seen sc.seen) (bs ++ cs)) (rows K) i) j body q w x)

  -- ---- a frame, and all that are around a leaf

  pub frame_gone : {t : ℕ} {fr : Frame} {d e : Part} → FrameFits K t fr d e → Sound K proper d → Known K proper d → (r : Residual)
      → ((body : Body) → Gone (aborted r body))
      → (body : Body) → Gone (aborted (fill fr r) body)
  unfolding aborted
  frame_gone (around_statement {turn = turn} {sc = sc} {b = b} {fin = fin} {rest = rest} {all = all} {s = s} done e f fit) h k r q body w x =
      block_gone turn sc b fin body k (registered_fine K proper 0 sc b fin done (s ∷ rest) h e f) (instances_aborted all (aborted r body w)) (all_typed_kept K proper fit (aborted r body w) (q body w x))
  frame_gone (around_end {turn = turn} {sc = sc} {b = b} {fin = fin} {all = all} f fit) h k r q body w x =
      block_gone turn sc b fin body k (registered_fine K proper 0 sc b fin (out-KBlock b).list [] h (sym (append-nil (out-KBlock b).list)) f) (instances_aborted all (aborted r body w)) (all_typed_kept K proper fit (aborted r body w) (q body w x))
  frame_gone (around_instance {turn = turn} {sc = sc} {b = b} {fin = fin} {rest = rest} {before = front} {after = back} {seat = seat} {r = own} {s = s} done c e f fit x1 x2 p g) h k r q body w x =
      let w1 = aborted own body w in
      block_gone turn sc b fin body k (registered_fine K proper 0 sc b fin done (s ∷ rest) h e f) (instances_aborted (join_instances front (instance seat r back)) w1)
      (joined_gone (instance seat r back) x1 (λ u y. dead_typed K proper seat.number (aborted r (Spawned seat.number) (instances_aborted back u)) (q (Spawned seat.number) (instances_aborted back u) (all_typed_kept K proper x2 u y))) w1
      (aborted_typed K proper fit (list_sound K proper sc b done s rest h e) (list_known K proper turn sc b done s rest e k) body w x))
  frame_gone (around_part b o) h k r q body w x = q body w x
  frame_gone (around_turn {s = s} j b e c) h k r q body w x = forget_loop_typed K proper body s.stmt (aborted r body w) (q body w x)
  frame_gone (around_call {s = s} c es f y j e g) h k r q body w x = forget_body_typed K proper (Awaited body s.node) (aborted r (Awaited body s.node) w) (q (Awaited body s.node) w x)
  frame_gone (around_branch {sc = sc} {s = s} {before = front} {after = back} j slot bs b cs e y z) h k r q body w x =
      let fine = (layer_of K proper sc s (KStmt-F.Par j slot (bs ++ b ∷ cs)) e h).1 in
      let known = parts_known K proper (pools_seen sc.seen) s (KStmt-F.Par j slot (bs ++ b ∷ cs)) e k.0 in
      joined_branches (b ∷ cs) (branch r back) y fine known k.1 body
      (λ u v. q body (branches_aborted back body u) (each_typed K proper z (each_after sc bs b cs fine) (rows_after (pools_seen sc.seen) bs b cs known) k.1 body u v)) w x

  pub frame_knows : {t : ℕ} {fr : Frame} {d e : Part} → FrameFits K t fr d e → Known K proper d → Known K proper e
  frame_knows {fr = fr} a h = around_known K proper {f = In fr (Here AtEnd)} (one_around a nothing_around) h

  pub focus_gone : {t : ℕ} {f : Focus Act} {d e : Part} → Around K t Act f d e → Sound K proper d → Known K proper d → (r : Residual)
      → ((body : Body) → Gone (aborted r body))
      → (body : Body) → Gone (aborted (plug f r) body)
  focus_gone nothing_around h k r q body w x = q body w x
  focus_gone {f = In fr f} (one_around a more) h k r q body w x = frame_gone a h k (plug f r) (focus_gone more (frame_sound K proper a h) (frame_knows a k) r q) body w x
