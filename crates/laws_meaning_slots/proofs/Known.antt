-- The declarations of a part, and what is seen from its place, are among those of the kernel.
use Rattle.std.proofs.Common.{◌≡◌, refl, sym, ap, ◌∙◌, subst, ℕ, Bool, true, false, if◌then◌else◌, ◌==◌, inl, inr, List, [], ◌∷◌, ◌++◌, Some, eqb-true}
use Rattle.ceu_tree.specs.declared.kernel.Kernel.{Kernel}
use Rattle.ceu_tree.specs.declared.kernel.KCode.{KCode}
use Rattle.ceu_tree.specs.declared.kernel.KDecl.{KDecl}
use Rattle.ceu_tree.specs.declared.kernel.KKind.{KKind}
use Rattle.ceu_tree.specs.declared.kernel.KKind.TheVariants as kind
use Rattle.ceu_tree.specs.declared.kernel.KLoop.{KLoop}
use Rattle.ceu_tree.specs.declared.kernel.KLoop.TheVariants as turns
use Rattle.ceu_tree.specs.declared.kernel.KNode.{KNode}
use Rattle.ceu_tree.specs.declared.kernel.KArm.{KArm, out-KArm}
use Rattle.ceu_tree.specs.declared.kernel.KBlock.{KBlock, out-KBlock}
use Rattle.ceu_tree.specs.declared.kernel.KStmt.{out-KStmt}
use Rattle.ceu_tree.specs.declared.kernel.KStmt.TheOpen.{KStmt-F}
use Rattle.ceu_tree.specs.Focus.{Frame, Focus}
use Rattle.ceu_tree.specs.Leaf.{Layer, code_at}
use Rattle.ceu_tree.specs.Proper.{SlotKind, IsLoopVariable, IsPool, Seen, Scope, find, pools_seen, pool_slots, slot_kind, declared_seen, is_proper}
use Rattle.laws_meaning_basics.specs.Shape.{Part, ABlock, AStatement, AnEnd, block_scope, part_scope, turn_scope, async_scope, code_part, program_part, among_arms, opens_part, FrameFits, around_statement, around_end, around_instance, around_part, around_turn, around_call, around_branch, Around, nothing_around, one_around}
use Rattle.laws_meaning_slots.specs.Declared.{Row, inner_pools, decl_rows, loop_rows, block_rows, stmt_rows, code_pools, codes_rows, rows, kind_at}
use Rattle.laws_meaning_slots.proofs.Rows.{Incl, incl_left, incl_right, among_right, among_left, list_all_rows, blocks_all_rows, arms_all_rows, parts_rows, block_rows_is, parts_in, code_rows_in, kind_of_row}

abbrev pub row : ℕ → SlotKind → Row
row slot k = record { slot = slot; kind = Some k }

pub seen_pools : (ps : List ℕ) (ds : List KDecl) (seen : List Seen) → pools_seen (declared_seen ps ds seen) ≡ pool_slots ds ++ pools_seen seen
seen_pools ps [] seen = refl
seen_pools ps (d ∷ ds) seen = go d.kind (seen_pools ps ds seen)
  where
    go : (k : KKind) → pools_seen (declared_seen ps ds seen) ≡ pool_slots ds ++ pools_seen seen
        → elim (slot_kind ps k) [ IsPool c ↦ d.slot ∷ pools_seen (declared_seen ps ds seen) | _ ↦ pools_seen (declared_seen ps ds seen) ] ≡ elim k [ kind.Pool n c ↦ d.slot ∷ pool_slots ds | _ ↦ pool_slots ds ] ++ pools_seen seen
    go (kind.Var t) e = e
    go (kind.Alias c) e = e
    go (kind.Pool n c) e = ap (λ l. d.slot ∷ l) e

module _ (K : Kernel) (proper : is_proper K ≡ true) where
  abbrev pub KnownSeen : List Seen → Type 0
  KnownSeen seen = (slot : ℕ) (k : SlotKind) → find slot seen ≡ Some k → kind_at slot (rows K) ≡ Some k

  abbrev pub Known : Part → Type 0
  Known (ABlock turn sc b) = Incl (block_rows (pools_seen sc.seen) b) (rows K) × KnownSeen sc.seen
  Known (AStatement sc s) = Incl (stmt_rows (pools_seen sc.seen) s.stmt) (rows K) × KnownSeen sc.seen
  Known AnEnd = Unit {0}

  declared_known : (ps : List ℕ) (ds : List KDecl) (seen : List Seen) → Incl (decl_rows ps ds) (rows K) → KnownSeen seen → KnownSeen (declared_seen ps ds seen)
  declared_known ps [] seen i h slot k e = h slot k e
  declared_known ps (d ∷ ds) seen i h slot k e = go (d.slot == slot) refl e (declared_known ps ds seen (λ r m. i r (inr m)) h slot k)
    where
      go : (b : Bool) → (d.slot == slot) ≡ b → (if b then Some (slot_kind ps d.kind) else find slot (declared_seen ps ds seen)) ≡ Some k
          → (find slot (declared_seen ps ds seen) ≡ Some k → kind_at slot (rows K) ≡ Some k) → kind_at slot (rows K) ≡ Some k
      go true q z ih = subst (λ j. kind_at j (rows K) ≡ Some k) (eqb-true d.slot slot q) (kind_of_row K proper (row d.slot (slot_kind ps d.kind)) (i (row d.slot (slot_kind ps d.kind)) (inl refl)) ∙ z)
      go false q z ih = ih z

  pub decls_known : (ps : List ℕ) (b : KBlock) → Incl (block_rows ps b) (rows K)
      → Incl (decl_rows (inner_pools ps (out-KBlock b).decls) (out-KBlock b).decls) (rows K)
  decls_known ps b h = incl_left (decl_rows (inner_pools ps (out-KBlock b).decls) (out-KBlock b).decls) (list_all_rows (inner_pools ps (out-KBlock b).decls) (out-KBlock b).list) (rows K) (subst (λ l. Incl l (rows K)) (block_rows_is ps b) h)

  node_known : (ps : List ℕ) (done : List KNode) (s : KNode) (rest : List KNode) → Incl (list_all_rows ps (done ++ s ∷ rest)) (rows K)
      → Incl (stmt_rows ps s.stmt) (rows K)
  node_known ps [] s rest h = incl_left (stmt_rows ps s.stmt) (list_all_rows ps rest) (rows K) h
  node_known ps (x ∷ done) s rest h = node_known ps done s rest (incl_right (stmt_rows ps x.stmt) (list_all_rows ps (done ++ s ∷ rest)) (rows K) h)

  pub block_known : (sc : Scope) (b : KBlock) → Incl (block_rows (pools_seen sc.seen) b) (rows K) → KnownSeen sc.seen → KnownSeen (block_scope sc b).seen
  block_known sc b i h = declared_known (inner_pools (pools_seen sc.seen) (out-KBlock b).decls) (out-KBlock b).decls sc.seen (decls_known (pools_seen sc.seen) b i) h

  pub list_known : (turn : Bool) (sc : Scope) (b : KBlock) (done : List KNode) (s : KNode) (rest : List KNode) → (out-KBlock b).list ≡ done ++ s ∷ rest
      → Known (ABlock turn sc b) → Known (AStatement (block_scope sc b) s)
  list_known turn sc b done s rest e h =
      let ds = (out-KBlock b).decls in
      let ps = inner_pools (pools_seen sc.seen) ds in (
        subst (λ l. Incl (stmt_rows l s.stmt) (rows K)) (sym (seen_pools ps ds sc.seen))
            (node_known ps done s rest (subst (λ l. Incl (list_all_rows ps l) (rows K)) e (incl_right (decl_rows ps ds) (list_all_rows ps (out-KBlock b).list) (rows K) (subst (λ l. Incl l (rows K)) (block_rows_is (pools_seen sc.seen) b) h.0)))),
        block_known sc b h.0 h.1,
      )

  pub parts_known : (ps : List ℕ) (s : KNode) (layer : Layer) → out-KStmt s.stmt ≡ layer → Incl (stmt_rows ps s.stmt) (rows K) → Incl (parts_rows ps layer) (rows K)
  parts_known ps s layer e h = subst (λ l. Incl (parts_rows ps l) (rows K)) e (λ r m. h r (parts_in ps s.stmt r m))

  arms_known : (ps : List ℕ) (arms : List KArm) (b : KBlock) → among_arms arms b → Incl (arms_all_rows ps arms) (rows K) → Incl (block_rows ps b) (rows K)
  arms_known ps [] b o h = elim o [ ]
  arms_known ps (a ∷ arms) b (inl e) h = subst (λ x. Incl (block_rows ps x) (rows K)) e (incl_left (block_rows ps (out-KArm a).body) (arms_all_rows ps arms) (rows K) h)
  arms_known ps (a ∷ arms) b (inr o) h = arms_known ps arms b o (incl_right (block_rows ps (out-KArm a).body) (arms_all_rows ps arms) (rows K) h)

  layer_known : (sc : Scope) (n : ℕ) (layer : Layer) (b : KBlock) → opens_part layer b → Incl (parts_rows (pools_seen sc.seen) layer) (rows K) → KnownSeen sc.seen
      → Known (ABlock false (part_scope K sc n layer) b)
  layer_known sc n (KStmt-F.Do t c) b o h k = (subst (λ x. Incl (block_rows (pools_seen sc.seen) x) (rows K)) o h, k)
  layer_known sc n (KStmt-F.If arms last) b (inl o) h k = (arms_known (pools_seen sc.seen) arms b o (incl_left (arms_all_rows (pools_seen sc.seen) arms) (block_rows (pools_seen sc.seen) last) (rows K) h), k)
  layer_known sc n (KStmt-F.If arms last) b (inr e) h k =
      (subst (λ x. Incl (block_rows (pools_seen sc.seen) x) (rows K)) e (incl_right (arms_all_rows (pools_seen sc.seen) arms) (block_rows (pools_seen sc.seen) last) (rows K) h), k)
  layer_known sc n layer b o h k = elim o [ ]

  pub part_known : (sc : Scope) (s : KNode) (b : KBlock) → opens_part (out-KStmt s.stmt) b → Known (AStatement sc s)
      → Known (ABlock false (part_scope K sc s.node (out-KStmt s.stmt)) b)
  part_known sc s b o h = layer_known sc s.node (out-KStmt s.stmt) b o (parts_known (pools_seen sc.seen) s (out-KStmt s.stmt) refl h.0) h.1

  turn_seen : (sc : Scope) (n : ℕ) (k : KLoop) (b : KBlock) → Incl (loop_rows k ++ block_rows (pools_seen sc.seen) b) (rows K) → KnownSeen sc.seen
      → Known (ABlock true (turn_scope K sc n k) b)
  turn_seen sc n turns.Free b i h = (i, h)
  turn_seen sc n (turns.Times slot m) b i h = (incl_right (loop_rows (turns.Times slot m)) (block_rows (pools_seen sc.seen) b) (rows K) i, h)
  turn_seen sc n (turns.Range j next end open_a x y open_b) b i h = (incl_right (loop_rows (turns.Range j next end open_a x y open_b)) (block_rows (pools_seen sc.seen) b) (rows K) i, seen)
    where
      seen : KnownSeen (record { slot = j; kind = IsLoopVariable } ∷ sc.seen)
      seen slot k e = go (j == slot) refl e
        where
          go : (t : Bool) → (j == slot) ≡ t → (if t then Some IsLoopVariable else find slot sc.seen) ≡ Some k → kind_at slot (rows K) ≡ Some k
          go true q z = subst (λ a. kind_at a (rows K) ≡ Some k) (eqb-true j slot q) (kind_of_row K proper (row j IsLoopVariable) (i (row j IsLoopVariable) (inl refl)) ∙ z)
          go false q z = h slot k z

  pub turn_known : (sc : Scope) (s : KNode) (k : KLoop) (b : KBlock) → out-KStmt s.stmt ≡ KStmt-F.Loop k b → Known (AStatement sc s)
      → Known (ABlock true (turn_scope K sc s.node k) b)
  turn_known sc s k b e h = turn_seen sc s.node k b (parts_known (pools_seen sc.seen) s (KStmt-F.Loop k b) e h.0) h.1

  pub async_known : (sc : Scope) (s : KNode) (b : KBlock) → out-KStmt s.stmt ≡ KStmt-F.Async b → Known (AStatement sc s) → Known (ABlock false (async_scope K sc) b)
  async_known sc s b e h = (parts_known (pools_seen sc.seen) s (KStmt-F.Async b) e h.0, h.1)

  code_rows_known : (c : ℕ) (k : KCode) → code_at c K.codes ≡ Some k
      → Incl (decl_rows (inner_pools [] k.params) k.params ++ block_rows (code_pools k) k.body) (rows K)
  code_rows_known c k e r m = among_right r (block_rows [] K.body) (codes_rows K.codes) (code_rows_in c K.codes k e r m)

  pub params_known : (c : ℕ) (k : KCode) → code_at c K.codes ≡ Some k → Incl (decl_rows (inner_pools [] k.params) k.params) (rows K)
  params_known c k e = incl_left (decl_rows (inner_pools [] k.params) k.params) (block_rows (code_pools k) k.body) (rows K) (code_rows_known c k e)

  none_seen : KnownSeen []
  none_seen slot k e = absurd (cc)

  pub code_known : (c : ℕ) (k : KCode) → code_at c K.codes ≡ Some k → Known (code_part K c k)
  code_known c k e =
      (incl_right (decl_rows (inner_pools [] k.params) k.params) (block_rows (code_pools k) k.body) (rows K) (code_rows_known c k e), declared_known (inner_pools [] k.params) k.params [] (params_known c k e) none_seen)

  pub program_known : Known (program_part K)
  program_known = (λ r m. among_left r (block_rows [] K.body) (codes_rows K.codes) m, none_seen)

  branch_known : (ps : List ℕ) (bs : List KBlock) (b : KBlock) (cs : List KBlock) → Incl (blocks_all_rows ps (bs ++ b ∷ cs)) (rows K)
      → Incl (block_rows ps b) (rows K)
  branch_known ps [] b cs h = incl_left (block_rows ps b) (blocks_all_rows ps cs) (rows K) h
  branch_known ps (x ∷ bs) b cs h = branch_known ps bs b cs (incl_right (block_rows ps x) (blocks_all_rows ps (bs ++ b ∷ cs)) (rows K) h)

  frame_known : {t : ℕ} {fr : Frame} {d e : Part} → FrameFits K t fr d e → Known d → Known e
  frame_known (around_statement {turn = turn} {sc = sc} {b = b} {rest = rest} {s = s} done e f fit) h = list_known turn sc b done s rest e h
  frame_known (around_end f fit) h = tt
  frame_known (around_instance {seat = seat} done k e f r x y p q) h = code_known seat.code k q
  frame_known (around_part {sc = sc} {s = s} b o) h = part_known sc s b o h
  frame_known (around_turn {sc = sc} {s = s} k b e q) h = turn_known sc s k b e h
  frame_known (around_call c es f t k e q) h = code_known c k q
  frame_known (around_branch {sc = sc} {s = s} k slot bs b cs e x y) h = (branch_known (pools_seen sc.seen) bs b cs (parts_known (pools_seen sc.seen) s (KStmt-F.Par k slot (bs ++ b ∷ cs)) e h.0), h.1)

  pub around_known : {A : Type 0} {t : ℕ} {f : Focus A} {d e : Part} → Around K t A f d e → Known d → Known e
  around_known nothing_around h = h
  around_known (one_around a more) h = around_known more (frame_known a h)
