-- The operands of all lines of a kernel are in range where what it names is there.
use Rattle.std.proofs.Common.{ℕ, zero, suc, ◌+◌, ◌*◌, ◌^◌, ◌<◌, ◌≤◌, List, [], ◌∷◌, ◌++◌, length, Bool, true, false, if◌then◌else◌, ◌==◌, Option, Some, None, arith}
use Rattle.std.specs.Prelude.{pos}
use Rattle.ceu_base.specs.declared.kinds.Pos.{Pos}
use Rattle.ceu_base.specs.declared.kinds.Ty.{Ty}
use Rattle.ceu_base.specs.declared.kinds.Ty.TheVariants as ty
use Rattle.ceu_tree.specs.declared.kernel.Kernel.{Kernel}
use Rattle.ceu_tree.specs.declared.kernel.KCode.{KCode}
use Rattle.ceu_tree.specs.declared.kernel.KDecl.{KDecl}
use Rattle.ceu_tree.specs.declared.kernel.KKind.{KKind}
use Rattle.ceu_tree.specs.declared.kernel.KKind.TheVariants as kind
use Rattle.ceu_tree.specs.declared.kernel.KExp.{KExp}
use Rattle.ceu_tree.specs.declared.kernel.KLoop.{KLoop}
use Rattle.ceu_tree.specs.declared.kernel.KLoop.TheVariants as turns
use Rattle.ceu_tree.specs.declared.kernel.KBlock.{KBlock, KBlock', Row_of-KNode, end_of-KNode, more_of-KNode}
use Rattle.ceu_tree.specs.declared.kernel.KArm.{KArm, KArm'}
use Rattle.ceu_tree.specs.declared.kernel.KStmt.{KStmt, Row_of-KArm, end_of-KArm, more_of-KArm, Row_of-KBlock, end_of-KBlock, more_of-KBlock, Assign, Out, Emit, AwaitTime, AwaitCode, Spawn, Async, Finalize, Do, Escape, If', Loop, Par'}
use Rattle.ceu_tree.specs.Needs.{nodes_finalizers}
use Rattle.ceu_code.specs.declared.instr.Instr.TheVariants as instr
use Rattle.ceu_asm.specs.declared.line.Line.{Line}
use Rattle.ceu_shape.specs.Plans.{Plan, own_label, end_label}
use Rattle.ceu_shape.specs.Pieces.{Draft, both, text}
use Rattle.ceu_shape.specs.Words.{mark, goto, plain}
use Rattle.ceu_shape.specs.Expressions.{exp_draft}
use Rattle.ceu_shape.specs.Searches.{node_of_block, kernel_pools, PoolRow, row_in, pool_row}
use Rattle.ceu_shape.specs.Shape.{expression_count, labels_of, node_draft, exp_part, exp_part_if, exp_parts, turn_parts, pool_gates, pools_gates, own_gates, pool_line, pool_lines, move_lines, block_begin, abort_own, block_end, with_parts, to_end, parts_draft, block_draft, arm_parts, nodes_draft, arms_parts, blocks_parts, zero_given, body_draft, program_draft, code_draft, codes_draft, kernel_draft}
use Rattle.laws_code_placed.specs.Fits.{node_count}
use Rattle.laws_code_placed.specs.There.{IsSome, ExpThere, ExpIfThere, ExpsThere, TurnsThere, OwnThere, SlotThere, PoolThere, DeclsThere, BlockOwn, PartsThere, BlockThere, ArmThere, NodesThere, ArmsThere, BlocksThere, CodesThere, KernelThere}
use Rattle.laws_code_placed.proofs.Ranged.{Ranged, ranged_append, Numbers, zero_value, Fine, fine_text, fine_nothing, fine_both, exp_fine, node_ranged}

pub row_small : (slot : ℕ) (rows : List PoolRow) → row_in slot rows ≤ length rows
row_small slot [] = omega arith
row_small slot (r ∷ rs) = go (r.slot == slot) (row_small slot rs)
  where
    go : (b : Bool) → row_in slot rs ≤ length rs → (if b then 0 else (row_in slot rs + 1)) ≤ suc (length rs)
    go true h = omega arith
    go false h = omega arith

module _ (P : Plan) (K : Kernel) (at : ℕ → ℕ) (number : Pos → ℕ) (few : Numbers P K at number) where
  abbrev In : List Line → Type 0
  In ls = Ranged at ls

  abbrev IsFine : Draft → Type 0
  IsFine d = Fine P K at number few d

  joint : (a b : Draft) → IsFine a → IsFine b → IsFine (both a b)
  joint a b f g = fine_both P K at number few a b f g

  lines_fine : (ls : List Line) → In ls → IsFine (text ls)
  lines_fine ls h = fine_text P K at number few ls h

  -- ---- expressions that are parts

  exp_part_fine : (begin : ℕ) (e : KExp) → ExpThere P K e → IsFine (exp_part P K begin e)
  exp_part_fine begin e h =
      joint (text (mark begin ∷ [])) (both (exp_draft P.offset e) (text (goto (begin + 1) ∷ []))) (lines_fine (mark begin ∷ []) (tt, tt))
      (joint (exp_draft P.offset e) (text (goto (begin + 1) ∷ [])) (exp_fine P K at number few e h) (lines_fine (goto (begin + 1) ∷ []) (few.labels (begin + 1), tt)))

  exp_if_fine : (begin : ℕ) (e : Option KExp) → ExpIfThere P K e → IsFine (exp_part_if P K begin e)
  exp_if_fine begin None h = fine_nothing P K at number few
  exp_if_fine begin (Some e) h = exp_part_fine begin e h

  exp_parts_fine : (begin : ℕ) (es : List KExp) → ExpsThere P K es → IsFine (exp_parts P K begin es)
  exp_parts_fine begin [] h = fine_nothing P K at number few
  exp_parts_fine begin (e ∷ es) h = joint (exp_part P K begin e) (exp_parts P K (begin + 2) es) (exp_part_fine begin e h.0) (exp_parts_fine (begin + 2) es h.1)

  turns_fine : (begin : ℕ) (k : KLoop) → TurnsThere P K k → IsFine (turn_parts P K begin k)
  turns_fine begin turns.Free h = fine_nothing P K at number few
  turns_fine begin (turns.Times slot n) h = fine_nothing P K at number few
  turns_fine begin (turns.Range i next end open_a a b open_b) h = joint (exp_part P K begin a) (exp_part P K (begin + 2) b) (exp_part_fine begin a h.0) (exp_part_fine (begin + 2) b h.1)

  -- ---- around a block's statements

  move_ranged : {n : _} (node gates : ℕ) (list : Row_of-KNode n) → P.first node + gates ≤ 65535 → In (move_lines P K node gates list)
  move_ranged node zero list h = tt
  move_ranged node (suc g) end_of-KNode h = tt
  move_ranged node (suc g) (more_of-KNode m p s rest) h = (omega arith, tt)

  abort_ranged : (node gates : ℕ) → P.first node + gates ≤ 65535 → In (abort_own P K node gates)
  abort_ranged node zero h = tt
  abort_ranged node (suc g) h = ((omega arith, omega arith), tt)

  pool_ranged : (first slot : ℕ) (k : KKind) (ls : List Line) → SlotThere P K slot → PoolThere P K k → first ≤ 65535 → In ls → In (pool_line P K first slot k ++ ls)
  pool_ranged first slot (kind.Var t) ls s h low more = more
  pool_ranged first slot (kind.Alias c) ls s h low more = more
  pool_ranged first slot (kind.Pool n c) ls s h low more =
      let size : n < 2 ^ 16 = omega (arith, h.0) in
      let row : pool_row K slot < 2 ^ 16 = omega (arith, row_small slot (kernel_pools K), few.pools) in
      let gate : first < 2 ^ 16 = omega arith in
      ((few.slots slot s, size, row, gate), more)

  pools_ranged : (first : ℕ) (ds : List KDecl) → DeclsThere P K ds → first + pools_gates P K ds ≤ 65535 → In (pool_lines P K first ds)
  pools_ranged first [] h low = tt
  pools_ranged first (d ∷ ds) h low =
      pool_ranged first d.slot d.kind (pool_lines P K (first + pool_gates P K d.kind) ds) h.0.0 h.0.1 (omega arith) (pools_ranged (first + pool_gates P K d.kind) ds h.1 (omega arith))

  around_fine : {n : _} (node : ℕ) (ds : List KDecl) (list : Row_of-KNode n) (d : Draft) → BlockOwn P K node ds (nodes_finalizers list) → IsFine d →
      IsFine (both (text (mark (own_label node) ∷ block_begin P K node ds list)) (both d (text (block_end P K node ds list))))
  around_fine node ds list d own h =
      let all : ℕ = own_gates P K (nodes_finalizers list) ds in
      let fits : P.first node + all ≤ 65535 = own.gates in
      joint (text (mark (own_label node) ∷ block_begin P K node ds list)) (both d (text (block_end P K node ds list)))
      (lines_fine (mark (own_label node) ∷ block_begin P K node ds list) (
        tt,
        ranged_append at (move_lines P K node all list) (pool_lines P K (P.first node + nodes_finalizers list) ds)
            (move_ranged node all list fits) (pools_ranged (P.first node + nodes_finalizers list) ds own.decls (omega (arith, fits))),
      ))
      (joint d (text (block_end P K node ds list)) h (lines_fine (block_end P K node ds list) (abort_ranged node all fits)))

  to_end_fine : (b : KBlock) (d : Draft) → IsFine d → IsFine (to_end P K b d)
  to_end_fine b d h = joint d (text (goto (end_label (node_of_block b)) ∷ [])) h (lines_fine (goto (end_label (node_of_block b)) ∷ []) (few.labels (end_label (node_of_block b)), tt))

  whole_fine : (n : ℕ) (p : Pos) (s : KStmt) (parts : ℕ → Draft) → n < node_count K → OwnThere P K s → PartsThere P K s → ((begin : ℕ) → IsFine (parts begin)) → IsFine (with_parts P K n p s parts)
  whole_fine n p s parts here own inside h = record { ranged = λ fresh. all fresh }
    where
      all : (fresh : ℕ) → In ((with_parts P K n p s parts fresh).lines number)
      all fresh =
          let first : ℕ = fresh + 2 * expression_count s in
          let node : Draft = node_draft P K n p s (labels_of fresh n s) in
          ranged_append at ((node first).lines number) _ (node_ranged P K at number few n p s (labels_of fresh n s) first here own inside)
          (ranged_append at ((parts fresh (node first).next).lines number) (mark (end_label n) ∷ []) ((h fresh).ranged (node first).next) (tt, tt))

  mutual
    unfolding parts_draft PartsThere

    parts_fine : (s : KStmt) → PartsThere P K s → (begin : ℕ) → IsFine (parts_draft P K s begin)
    parts_fine (Assign l e) h begin = exp_part_fine begin e h
    parts_fine (Out k e) h begin = exp_if_fine begin e h
    parts_fine (Emit k e) h begin = exp_if_fine begin e h
    parts_fine (AwaitTime e u t) h begin = exp_part_fine begin e h
    parts_fine (AwaitCode c es f t) h begin = exp_parts_fine begin es h
    parts_fine (Spawn c es p a) h begin = exp_parts_fine begin es h
    parts_fine (Escape m e) h begin = exp_if_fine begin e h
    parts_fine (Async b) h begin = to_end_fine b (block_draft P K b) (block_fine b h)
    parts_fine (Finalize b) h begin = to_end_fine b (block_draft P K b) (block_fine b h)
    parts_fine (Do t b) h begin = to_end_fine b (block_draft P K b) (block_fine b h)
    parts_fine (If' x arms last) h begin = joint (arms_parts P K arms begin) (to_end P K last (block_draft P K last)) (arms_fine arms h.0 begin) (to_end_fine last (block_draft P K last) (block_fine last h.1))
    parts_fine (Loop k b) h begin = joint (turn_parts P K begin k) (to_end P K b (block_draft P K b)) (turns_fine begin k h.0) (to_end_fine b (block_draft P K b) (block_fine b h.1))
    parts_fine (Par' k slot x bs) h begin = blocks_fine bs h
    parts_fine _ h begin = fine_nothing P K at number few

    block_fine : (b : KBlock) → BlockThere P K b → IsFine (block_draft P K b)
    block_fine (KBlock' n ds x list) h = around_fine n ds list (nodes_draft P K list) h.0 (nodes_fine list h.1)

    arm_fine : (a : KArm) → ArmThere P K a → (begin : ℕ) → IsFine (arm_parts P K a begin)
    arm_fine (KArm' c b) h begin = joint (exp_part P K begin c) (to_end P K b (block_draft P K b)) (exp_part_fine begin c h.0) (to_end_fine b (block_draft P K b) (block_fine b h.1))

    nodes_fine : {n : _} (rows : Row_of-KNode n) → NodesThere P K rows → IsFine (nodes_draft P K rows)
    nodes_fine end_of-KNode h = fine_nothing P K at number few
    nodes_fine (more_of-KNode n p s rest) h =
        joint (with_parts P K n p s (parts_draft P K s)) (nodes_draft P K rest) (whole_fine n p s (parts_draft P K s) h.0.0 h.0.1.0 h.0.1.1 (λ begin. parts_fine s h.0.1.1 begin)) (nodes_fine rest h.1)

    arms_fine : {n : _} (rows : Row_of-KArm n) → ArmsThere P K rows → (begin : ℕ) → IsFine (arms_parts P K rows begin)
    arms_fine end_of-KArm h begin = fine_nothing P K at number few
    arms_fine (more_of-KArm a rest) h begin = joint (arm_parts P K a begin) (arms_parts P K rest (begin + 2)) (arm_fine a h.0 begin) (arms_fine rest h.1 (begin + 2))

    blocks_fine : {n : _} (rows : Row_of-KBlock n) → BlocksThere P K rows → IsFine (blocks_parts P K rows)
    blocks_fine end_of-KBlock h = fine_nothing P K at number few
    blocks_fine (more_of-KBlock b rest) h = joint (to_end P K b (block_draft P K b)) (blocks_parts P K rest) (to_end_fine b (block_draft P K b) (block_fine b h.0)) (blocks_fine rest h.1)

  -- ---- bodies

  pushed : (t : Ty) (ls : List Line) → IsSome t → In ls → In (plain (instr.Push t (pos 0)) ∷ plain instr.SetValue ∷ ls)
  pushed t ls some h = ((some, zero_value t some), (tt, h))

  zero_ranged : (t : Ty) (ls : List Line) → In ls → In (zero_given P K t ++ ls)
  zero_ranged ty.None ls h = h
  zero_ranged ty.Bool ls h = pushed ty.Bool ls (λ e. cc) h
  zero_ranged ty.U8 ls h = pushed ty.U8 ls (λ e. cc) h
  zero_ranged ty.S8 ls h = pushed ty.S8 ls (λ e. cc) h
  zero_ranged ty.U16 ls h = pushed ty.U16 ls (λ e. cc) h
  zero_ranged ty.S16 ls h = pushed ty.S16 ls (λ e. cc) h
  zero_ranged ty.U32 ls h = pushed ty.U32 ls (λ e. cc) h
  zero_ranged ty.S32 ls h = pushed ty.S32 ls (λ e. cc) h
  zero_ranged ty.U64 ls h = pushed ty.U64 ls (λ e. cc) h
  zero_ranged ty.S64 ls h = pushed ty.S64 ls (λ e. cc) h

  body_fine : (b : KBlock) (t : Ty) (end : List Line) → BlockThere P K b → In end → IsFine (body_draft P K b (zero_given P K t) end)
  body_fine b t end h last =
      let e : List Line = mark (end_label (node_of_block b)) ∷ end in
      joint (block_draft P K b) (text (zero_given P K t ++ e)) (block_fine b h) (lines_fine (zero_given P K t ++ e) (zero_ranged t e (tt, last)))

  codes_fine : (cs : List KCode) → CodesThere P K cs → IsFine (codes_draft P K cs)
  codes_fine [] h = fine_nothing P K at number few
  codes_fine (c ∷ cs) h = joint (code_draft P K c) (codes_draft P K cs) (body_fine c.body c.result (plain instr.Return ∷ []) h.0 (tt, tt)) (codes_fine cs h.1)

  pub kernel_fine : KernelThere P K → IsFine (kernel_draft P K)
  kernel_fine h = joint (program_draft P K K.body) (codes_draft P K K.codes) (body_fine K.body ty.S32 (plain instr.End ∷ []) h.body (tt, tt)) (codes_fine K.codes h.codes)
