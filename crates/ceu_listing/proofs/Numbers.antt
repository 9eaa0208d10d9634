-- In a proper kernel all rows are numbered within the slots and the codes.
use Rattle.std.proofs.Common.{◌≡◌, ℕ, suc, ◌+◌, ◌^◌, ◌<◌, ◌≤◌, arith, ◌==◌, IsTrue, List, [], ◌∷◌, ◌++◌, length}
use Rattle.std.proofs.lemmas.Bool.{eqb-true}
use Rattle.ceu_base.specs.declared.kinds.Pos.{Pos}
use Rattle.ceu_tree.specs.declared.kernel.Kernel.{Kernel}
use Rattle.ceu_tree.specs.declared.kernel.KCode.{KCode}
use Rattle.ceu_tree.specs.declared.kernel.KDecl.{KDecl}
use Rattle.ceu_tree.specs.declared.kernel.KLoop.{KLoop}
use Rattle.ceu_tree.specs.declared.kernel.KLoop.TheVariants as turns
use Rattle.ceu_tree.specs.declared.kernel.KBlock.{KBlock, KBlock', Row_of-KNode, end_of-KNode, more_of-KNode}
use Rattle.ceu_tree.specs.declared.kernel.KArm.{KArm, KArm'}
use Rattle.ceu_tree.specs.declared.kernel.KStmt.{KStmt, Row_of-KArm, end_of-KArm, more_of-KArm, Row_of-KBlock, end_of-KBlock, more_of-KBlock, AwaitIn, AwaitTime, AwaitEvent, AwaitCode, Emit, Spawn, Forever, Async, Finalize, Do, If', Loop, Par'}
use Rattle.ceu_tree.specs.Numbering.{decl_slots, loop_slots, par_slots, row_length, stmt_slots, block_slots, arm_slots, list_slots, arms_slots, blocks_slots, codes_slots, counts_from}
use Rattle.ceu_tree.specs.Proper.{Proper}
use Rattle.ceu_slots.specs.Layout.{slot_numbers}
use Rattle.ceu_slots.specs.Plans.{Planned, Lawful}
use Rattle.ceu_slots.proofs.Each.{Each, each_left, each_right, each_weaker, both_left, both_right}
use Rattle.ceu_slots.proofs.Kept.{parts_of}
use Rattle.ceu_listing.specs.Rows.{Row, decl_rows, turn_rows, byte_rows, stmt_rows, block_rows, arm_rows, nodes_rows, arms_rows, blocks_rows, code_rows, codes_rows, AreNumbered}

numbered_both : (m n : ℕ) (xs ys : List Row) → AreNumbered m n xs → AreNumbered m n ys → AreNumbered m n (xs ++ ys)
numbered_both m n [] ys h k = k
numbered_both m n (x ∷ xs) ys h k = (h.0, numbered_both m n xs ys h.1 k)

module _ (m n : ℕ) where
  abbrev Fits : ℕ → Type 0
  Fits s = (s < m) × (s < 2 ^ 32)

  decls_numbered : (ds : List KDecl) → Each Fits (decl_slots ds) → AreNumbered m n (decl_rows ds)
  decls_numbered [] h = tt
  decls_numbered (d ∷ ds) h = (h.0, decls_numbered ds h.1)

  turns_numbered : (p : Pos) (k : KLoop) → Each Fits (loop_slots k) → AreNumbered m n (turn_rows p k)
  turns_numbered p turns.Free h = tt
  turns_numbered p (turns.Times slot c) h = (h.0, tt)
  turns_numbered p (turns.Range i next end open_a a b open_b) h = (h.0, (h.1.0, (h.1.1.0, tt)))

  bytes_numbered : (p : Pos) (ss : List ℕ) → Each Fits ss → AreNumbered m n (byte_rows p ss)
  bytes_numbered p [] h = tt
  bytes_numbered p (s ∷ ss) h = (h.0, bytes_numbered p ss h.1)

  mutual
    unfolding stmt_rows stmt_slots

    stmt_numbered : (node : ℕ) (p : Pos) (s : KStmt) → Each Fits (stmt_slots s) → AreNumbered m n (stmt_rows node p s)
    stmt_numbered node p (AwaitIn k t) h = (tt, tt)
    stmt_numbered node p (AwaitTime e u t) h = (tt, tt)
    stmt_numbered node p (AwaitEvent e t) h = (tt, tt)
    stmt_numbered node p Forever h = (tt, tt)
    stmt_numbered node p (Emit e x) h = (tt, tt)
    stmt_numbered node p (Spawn c es pool a) h = (tt, tt)
    stmt_numbered node p (AwaitCode c es slot t) h = (h.0, tt)
    stmt_numbered node p (Async b) h = (tt, block_numbered b h)
    stmt_numbered node p (Finalize b) h = (tt, block_numbered b h)
    stmt_numbered node p (Do t b) h = block_numbered b h
    stmt_numbered node p (If' _ arms last) h = numbered_both m n (arms_rows arms) (block_rows last) (arms_numbered arms (each_left Fits (arms_slots arms) (block_slots last) h)) (block_numbered last (each_right Fits (arms_slots arms) (block_slots last) h))
    stmt_numbered node p (Loop k b) h = numbered_both m n (turn_rows p k) (block_rows b) (turns_numbered p k (each_left Fits (loop_slots k) (block_slots b) h)) (block_numbered b (each_right Fits (loop_slots k) (block_slots b) h))
    stmt_numbered node p (Par' k slot _ bs) h =
        let own = par_slots k slot (row_length bs) in
        numbered_both m n (byte_rows p own) (blocks_rows bs) (bytes_numbered p own (each_left Fits own (blocks_slots bs) h)) (blocks_numbered bs (each_right Fits own (blocks_slots bs) h))
    stmt_numbered node p _ h = tt

    block_numbered : (b : KBlock) → Each Fits (block_slots b) → AreNumbered m n (block_rows b)
    block_numbered (KBlock' k ds x list) h = numbered_both m n (decl_rows ds) (nodes_rows list) (decls_numbered ds (each_left Fits (decl_slots ds) (list_slots list) h)) (nodes_numbered list (each_right Fits (decl_slots ds) (list_slots list) h))

    arm_numbered : (a : KArm) → Each Fits (arm_slots a) → AreNumbered m n (arm_rows a)
    arm_numbered (KArm' c b) h = block_numbered b h

    nodes_numbered : {i : _} (r : Row_of-KNode i) → Each Fits (list_slots r) → AreNumbered m n (nodes_rows r)
    nodes_numbered end_of-KNode h = tt
    nodes_numbered (more_of-KNode k p s rest) h = numbered_both m n (stmt_rows k p s) (nodes_rows rest) (stmt_numbered k p s (each_left Fits (stmt_slots s) (list_slots rest) h)) (nodes_numbered rest (each_right Fits (stmt_slots s) (list_slots rest) h))

    arms_numbered : {i : _} (r : Row_of-KArm i) → Each Fits (arms_slots r) → AreNumbered m n (arms_rows r)
    arms_numbered end_of-KArm h = tt
    arms_numbered (more_of-KArm a rest) h = numbered_both m n (arm_rows a) (arms_rows rest) (arm_numbered a (each_left Fits (arm_slots a) (arms_slots rest) h)) (arms_numbered rest (each_right Fits (arm_slots a) (arms_slots rest) h))

    blocks_numbered : {i : _} (r : Row_of-KBlock i) → Each Fits (blocks_slots r) → AreNumbered m n (blocks_rows r)
    blocks_numbered end_of-KBlock h = tt
    blocks_numbered (more_of-KBlock b rest) h = numbered_both m n (block_rows b) (blocks_rows rest) (block_numbered b (each_left Fits (block_slots b) (blocks_slots rest) h)) (blocks_numbered rest (each_right Fits (block_slots b) (blocks_slots rest) h))

  codes_numbered : (k : ℕ) (cs : List KCode) → k + length cs ≤ n → n < 2 ^ 32 → Each Fits (codes_slots cs) → AreNumbered m n (codes_rows k cs)
  codes_numbered k [] few small h = tt
  codes_numbered k (c ∷ cs) few small h =
      let own = each_left Fits (decl_slots c.params ++ block_slots c.body) (codes_slots cs) h in
      numbered_both m n (code_rows k c) (codes_rows (k + 1) cs)
      ((omega arith, omega arith), numbered_both m n (decl_rows c.params) (block_rows c.body) (decls_numbered c.params (each_left Fits (decl_slots c.params) (block_slots c.body) own)) (block_numbered c.body (each_right Fits (decl_slots c.params) (block_slots c.body) own)))
      (codes_numbered (k + 1) cs (omega arith) small (each_right Fits (decl_slots c.params ++ block_slots c.body) (codes_slots cs) h))

-- a list that counts from k has numbers below k and its length
counted : (k : ℕ) (ss : List ℕ) → IsTrue (counts_from k ss) → Each (λ s. s < k + length ss) ss
counted k [] h = tt
counted k (s ∷ ss) h =
    let same : s ≡ k = eqb-true s k (both_left (s == k) _ h) in
    (omega (arith, same), each_weaker (λ t. t < k + 1 + length ss) (λ t. t < k + suc (length ss)) (λ (t : ℕ) (b : t < k + 1 + length ss). omega (arith, b)) ss (counted (k + 1) ss (both_right (s == k) _ h)))

pub kernel_numbered : (K : Kernel) (p : Planned) → Proper K → Lawful p K → AreNumbered p.slot_count p.code_count (block_rows K.body) × AreNumbered p.slot_count p.code_count (codes_rows 0 K.codes)
kernel_numbered K p ok law =
    let all = counted 0 (slot_numbers K) (parts_of K ok).numbered in
    let fits = each_weaker (λ s. s < 0 + length (slot_numbers K)) (λ s. (s < p.slot_count) × (s < 2 ^ 32)) (λ (s : ℕ) (b : s < 0 + length (slot_numbers K)). (omega (arith, b, law.slots_counted), omega (arith, b, law.slots_counted, law.few_slots))) (slot_numbers K) all in (
      block_numbered p.slot_count p.code_count K.body (each_left (λ s. (s < p.slot_count) × (s < 2 ^ 32)) (block_slots K.body) (codes_slots K.codes) fits),
      codes_numbered p.slot_count p.code_count 0 K.codes (omega (arith, law.codes_counted)) law.few_codes (each_right (λ s. (s < p.slot_count) × (s < 2 ^ 32)) (block_slots K.body) (codes_slots K.codes) fits),
    )
