-- The lines of a kernel mark each label of its nodes once, and each label that they take.
use Rattle.std.proofs.Common.{◌≡◌, refl, ap, ◌∙◌, ℕ, zero, suc, ◌+◌, ◌*◌, List, [], ◌∷◌, ◌++◌, length, Option, Some, None, arith}
use Rattle.ceu_base.specs.declared.kinds.Pos.{Pos}
use Rattle.ceu_base.specs.declared.kinds.Ty.{Ty}
use Rattle.ceu_base.specs.declared.kinds.Ty.TheVariants as ty
use Rattle.ceu_tree.specs.declared.kernel.Kernel.{Kernel}
use Rattle.ceu_tree.specs.declared.kernel.KCode.{KCode}
use Rattle.ceu_tree.specs.declared.kernel.KDecl.{KDecl}
use Rattle.ceu_tree.specs.declared.kernel.KKind.{KKind}
use Rattle.ceu_tree.specs.declared.kernel.KKind.TheVariants as kind
use Rattle.ceu_tree.specs.declared.kernel.KExp.{KExp}
use Rattle.ceu_tree.specs.declared.kernel.KLoop.{KLoop}
use Rattle.ceu_tree.specs.declared.kernel.KLoop.TheVariants as turns
use Rattle.ceu_tree.specs.declared.kernel.KBlock.{KBlock, KBlock', Row_of-KNode, end_of-KNode, more_of-KNode}
use Rattle.ceu_tree.specs.declared.kernel.KArm.{KArm, KArm'}
use Rattle.ceu_tree.specs.declared.kernel.KStmt.{KStmt, Row_of-KArm, end_of-KArm, more_of-KArm, Row_of-KBlock, end_of-KBlock, more_of-KBlock, Assign, Out, Emit, AwaitTime, AwaitCode, Spawn, Async, Finalize, Do, Escape, If', Loop, Par'}
use Rattle.ceu_tree.specs.Needs.{nodes_finalizers}
use Rattle.ceu_tree.specs.Numbering.{stmt_nodes, block_nodes, arm_nodes, list_nodes, arms_nodes, blocks_nodes, codes_nodes}
use Rattle.ceu_code.specs.declared.instr.Instr.TheVariants as instr
use Rattle.ceu_asm.specs.declared.line.Line.{Line}
use Rattle.ceu_asm.specs.Lines.{marks}
use Rattle.ceu_shape.specs.Plans.{Plan, own_label, end_label}
use Rattle.ceu_shape.specs.Pieces.{Draft, both, nothing, text}
use Rattle.ceu_shape.specs.Words.{mark, goto, plain}
use Rattle.ceu_shape.specs.Searches.{node_of_block}
use Rattle.ceu_shape.specs.Expressions.{exp_draft}
use Rattle.ceu_shape.specs.Shape.{arm_block, arms_labels, branches_labels, block_labels, expression_labels, count_if, arm_count, expression_count, ends_count, part_labels, labels_of, node_draft, exp_part, exp_part_if, exp_parts, turn_parts, own_gates, pool_gates, pool_line, pool_lines, move_lines, block_begin, abort_own, block_end, with_parts, to_end, parts_draft, block_draft, arm_parts, nodes_draft, arms_parts, blocks_parts, zero_given, body_draft, program_draft, code_draft, codes_draft, kernel_draft}
use Rattle.laws_code_placed.proofs.Below.{one, below, below_more, ends_of, both_of, both_append}
use Rattle.laws_code_placed.proofs.Adding.{Adds, adds_text, adds_nothing, adds_both, adds_as}
use Rattle.laws_code_placed.proofs.MarkedExpressions.{exp_even}
use Rattle.laws_code_placed.proofs.MarkedStatements.{node_adds}

module _ (P : Plan) (K : Kernel) (label : ℕ) where
  -- ---- lines around a block's statements have no marks

  move_none : {n : _} (node gates : ℕ) (list : Row_of-KNode n) (ls : List Line) → marks label (move_lines P K node gates list ++ ls) ≡ marks label ls
  move_none node zero list ls = refl
  move_none node (suc g) end_of-KNode ls = refl
  move_none node (suc g) (more_of-KNode m p s rest) ls = omega arith

  pool_none : (first slot : ℕ) (k : KKind) (ls : List Line) → marks label (pool_line P K first slot k ++ ls) ≡ marks label ls
  pool_none first slot (kind.Var t) ls = refl
  pool_none first slot (kind.Alias c) ls = refl
  pool_none first slot (kind.Pool n c) ls = omega arith

  pools_none : (first : ℕ) (ds : List KDecl) → marks label (pool_lines P K first ds) ≡ 0
  pools_none first [] = refl
  pools_none first (d ∷ ds) = pool_none first d.slot d.kind (pool_lines P K (first + pool_gates P K d.kind) ds) ∙ pools_none (first + pool_gates P K d.kind) ds

  begin_none : {n : _} (node : ℕ) (ds : List KDecl) (list : Row_of-KNode n) → marks label (block_begin P K node ds list) ≡ 0
  begin_none node ds list =
      move_none node (own_gates P K (nodes_finalizers list) ds) list (pool_lines P K (P.first node + nodes_finalizers list) ds) ∙ pools_none (P.first node + nodes_finalizers list) ds

  abort_none : (node gates : ℕ) → marks label (abort_own P K node gates) ≡ 0
  abort_none node zero = refl
  abort_none node (suc g) = omega arith

  zero_none : (t : Ty) (ls : List Line) → marks label (zero_given P K t ++ ls) ≡ marks label ls
  zero_none ty.None ls = refl
  zero_none ty.Bool ls = omega arith
  zero_none ty.U8 ls = omega arith
  zero_none ty.S8 ls = omega arith
  zero_none ty.U16 ls = omega arith
  zero_none ty.S16 ls = omega arith
  zero_none ty.U32 ls = omega arith
  zero_none ty.S32 ls = omega arith
  zero_none ty.U64 ls = omega arith
  zero_none ty.S64 ls = omega arith

  module _ (number : Pos → ℕ) where
    -- ---- expressions that are parts: the second label is the statement's

    exp_part_adds : (begin : ℕ) (e : KExp) (fresh : ℕ) → Adds label number (exp_part P K begin e) fresh (one label (begin + 1) + below label begin) (below label (begin + 2))
    exp_part_adds begin e fresh =
        let x : List Line = mark begin ∷ [] in
        let y : List Line = goto (begin + 1) ∷ [] in
        let d : Draft = exp_draft P.offset e in
        let whole = adds_both label number (text x) (both d (text y)) fresh 0 (one label begin) 0 0 (adds_text label number x fresh 0 (one label begin) (omega arith))
        (adds_both label number d (text y) fresh 0 0 0 0 (exp_even label number P.offset e fresh) (adds_text label number y (d fresh).next 0 0 (omega arith))) in
        let first = below_more label begin (begin + 1) refl in
        let second = below_more label (begin + 1) (begin + 2) (omega arith) in
        adds_as label number (exp_part P K begin e) fresh 0 (one label begin + 0) (one label (begin + 1) + below label begin) (below label (begin + 2)) (omega (arith, first, second)) whole

    exp_parts_adds : (begin : ℕ) (es : List KExp) (fresh : ℕ) →
        Adds label number (exp_parts P K begin es) fresh (ends_of label (expression_labels (length es) begin) + below label begin) (0 + below label (begin + 2 * length es))
    exp_parts_adds begin [] fresh =
        let still : below label begin ≡ below label (begin + 0) = ap (below label) (omega arith) in
        adds_as label number nothing fresh 0 0 (0 + below label begin) (0 + below label (begin + 0)) (omega (arith, still)) (adds_nothing label number fresh)
    exp_parts_adds begin (e ∷ es) fresh =
        let a : Draft = exp_part P K begin e in
        let b : Draft = exp_parts P K (begin + 2) es in
        let whole = adds_both label number a b fresh (one label (begin + 1) + below label begin) (below label (begin + 2)) (ends_of label (expression_labels (length es) (begin + 2)) + below label (begin + 2)) (0 + below label (begin + 2 + 2 * length es))
        (exp_part_adds begin e fresh) (exp_parts_adds (begin + 2) es (a fresh).next) in
        let still : below label (begin + 2 + 2 * length es) ≡ below label (begin + 2 * suc (length es)) = ap (below label) (omega arith) in
        adds_as label number (both a b) fresh _ _ (ends_of label (expression_labels (suc (length es)) begin) + below label begin) (0 + below label (begin + 2 * suc (length es))) (omega (arith, still)) whole

    exp_if_adds : (begin : ℕ) (e : Option KExp) (fresh : ℕ) →
        Adds label number (exp_part_if P K begin e) fresh (ends_of label (expression_labels (count_if e) begin) + below label begin) (0 + below label (begin + 2 * count_if e))
    exp_if_adds begin None fresh = exp_parts_adds begin [] fresh
    exp_if_adds begin (Some e) fresh = adds_as label number (exp_part P K begin e) fresh _ _ (one label (begin + 1) + 0 + below label begin) (0 + below label (begin + 2)) (omega arith) (exp_part_adds begin e fresh)

    turns_adds : (begin : ℕ) (k : KLoop) (fresh : ℕ) →
        Adds label number (turn_parts P K begin k) fresh (ends_of label (expression_labels (ends_count k) begin) + below label begin) (0 + below label (begin + 2 * ends_count k))
    turns_adds begin turns.Free fresh = exp_parts_adds begin [] fresh
    turns_adds begin (turns.Times slot n) fresh = exp_parts_adds begin [] fresh
    turns_adds begin (turns.Range i next end open_a a b open_b) fresh =
        let x : Draft = exp_part P K begin a in
        let y : Draft = exp_part P K (begin + 2) b in
        let whole = adds_both label number x y fresh (one label (begin + 1) + below label begin) (below label (begin + 2)) (one label (begin + 2 + 1) + below label (begin + 2)) (below label (begin + 2 + 2))
        (exp_part_adds begin a fresh) (exp_part_adds (begin + 2) b (x fresh).next) in
        let still : below label (begin + 2 + 2) ≡ below label (begin + 4) = ap (below label) (omega arith) in
        adds_as label number (both x y) fresh _ _ (one label (begin + 1) + (one label (begin + 2 + 1) + 0) + below label begin) (0 + below label (begin + 4)) (omega (arith, still)) whole

    none_adds : (begin fresh : ℕ) → Adds label number nothing fresh (0 + below label begin) (0 + below label (begin + 0))
    none_adds begin fresh =
        let still : below label begin ≡ below label (begin + 0) = ap (below label) (omega arith) in
        adds_as label number nothing fresh 0 0 _ _ (omega (arith, still)) (adds_nothing label number fresh)

    -- a block that is a part: its own label and those inside
    to_end_adds : (b : KBlock) (d : Draft) (fresh p q : ℕ) → Adds label number d fresh p q → Adds label number (to_end P K b d) fresh p q
    to_end_adds b d fresh p q f =
        let g : List Line = goto (end_label (node_of_block b)) ∷ [] in
        adds_as label number (both d (text g)) fresh (p + 0) (q + 0) p q (omega arith) (adds_both label number d (text g) fresh p q 0 0 f (adds_text label number g (d fresh).next 0 0 (omega arith)))

    -- a statement with its parts
    whole_adds : (n : ℕ) (p : Pos) (s : KStmt) (parts : ℕ → Draft) (inside : ℕ) →
        ((begin fresh : ℕ) → Adds label number (parts begin) fresh (ends_of label (part_labels begin s) + below label begin) (inside + below label (begin + 2 * expression_count s))) →
        (fresh : ℕ) → Adds label number (with_parts P K n p s parts) fresh 0 (one label (own_label n) + (one label (end_label n) + inside))
    whole_adds n p s parts inside h fresh =
        let first : ℕ = fresh + 2 * expression_count s in
        let a : Draft = node_draft P K n p s (labels_of fresh n s) in
        let e : List Line = mark (end_label n) ∷ [] in
        let whole = adds_both label number a (both (parts fresh) (text e)) first 0 (one label (own_label n) + ends_of label (part_labels fresh s)) (ends_of label (part_labels fresh s) + below label fresh + 0)
        (inside + below label first + one label (end_label n)) (node_adds P K label number n p s fresh first)
        (adds_both label number (parts fresh) (text e) (a first).next (ends_of label (part_labels fresh s) + below label fresh) (inside + below label first) 0 (one label (end_label n)) (h fresh (a first).next)
        (adds_text label number e (parts fresh (a first).next).next 0 (one label (end_label n)) (omega arith))) in
        record { is = omega (arith, whole.is); grows = omega (arith, whole.grows) }

    -- a block, whose end is marked elsewhere
    around_adds : (n : ℕ) (first last : List Line) (d : Draft) (inside fresh : ℕ) → marks label first ≡ 0 → marks label last ≡ 0 → ((f : ℕ) → Adds label number d f 0 inside) →
        Adds label number (both (text (mark (own_label n) ∷ first)) (both d (text last))) fresh (one label (end_label n)) (one label (own_label n) + (one label (end_label n) + inside))
    around_adds n first last d inside fresh none ended h =
        let a : List Line = mark (own_label n) ∷ first in
        adds_as label number (both (text a) (both d (text last))) fresh (0 + (0 + 0)) (one label (own_label n) + (inside + 0)) _ _ (omega arith)
        (adds_both label number (text a) (both d (text last)) fresh 0 (one label (own_label n)) (0 + 0) (inside + 0) (adds_text label number a fresh 0 (one label (own_label n)) (omega (arith, none)))
        (adds_both label number d (text last) fresh 0 inside 0 0 (h fresh) (adds_text label number last (d fresh).next 0 0 (omega (arith, ended)))))

    -- two parts
    beside_adds : (a b : Draft) (fresh p q r s x y : ℕ) → p + r + y ≡ q + s + x → Adds label number a fresh p q → Adds label number b (a fresh).next r s → Adds label number (both a b) fresh x y
    beside_adds a b fresh p q r s x y e f g = adds_as label number (both a b) fresh (p + r) (q + s) x y (omega (arith, e)) (adds_both label number a b fresh p q r s f g)

    ends_append : {n : _} (begin : ℕ) (rows : Row_of-KArm n) (last : KBlock) → ends_of label (arms_labels begin rows ++ block_labels last) ≡ ends_of label (arms_labels begin rows) + one label (end_label (node_of_block last))
    ends_append begin end_of-KArm last = omega arith
    ends_append begin (more_of-KArm a rest) last = omega (arith, ends_append (begin + 2) rest last)

    loop_ends : (begin : ℕ) (k : KLoop) (b : KBlock) → ends_of label (expression_labels (ends_count k) begin ++ block_labels b) ≡ ends_of label (expression_labels (ends_count k) begin) + one label (end_label (node_of_block b))
    loop_ends begin turns.Free b = omega arith
    loop_ends begin (turns.Times slot n) b = omega arith
    loop_ends begin (turns.Range i next end open_a x y open_b) b = omega arith

    -- a statement whose one part is a block
    only_adds : (b : KBlock) (d : Draft) (inside begin fresh : ℕ) → Adds label number d fresh (one label (end_label (node_of_block b))) inside →
        Adds label number (to_end P K b d) fresh (ends_of label (block_labels b) + below label begin) (inside + below label (begin + 0))
    only_adds b d inside begin fresh h =
        let still : below label begin ≡ below label (begin + 0) = ap (below label) (omega arith) in
        adds_as label number (to_end P K b d) fresh _ _ _ _ (omega (arith, still)) (to_end_adds b d fresh _ _ h)

    mutual
      unfolding parts_draft stmt_nodes

      parts_adds : (s : KStmt) (begin fresh : ℕ) →
          Adds label number (parts_draft P K s begin) fresh (ends_of label (part_labels begin s) + below label begin) (both_of label (stmt_nodes s) + below label (begin + 2 * expression_count s))
      parts_adds (Assign l e) begin fresh = exp_if_adds begin (Some e) fresh
      parts_adds (Out k e) begin fresh = exp_if_adds begin e fresh
      parts_adds (Emit k e) begin fresh = exp_if_adds begin e fresh
      parts_adds (AwaitTime e u t) begin fresh = exp_if_adds begin (Some e) fresh
      parts_adds (AwaitCode c es frame t) begin fresh = exp_parts_adds begin es fresh
      parts_adds (Spawn c es pool alias) begin fresh = exp_parts_adds begin es fresh
      parts_adds (Escape m e) begin fresh = exp_if_adds begin e fresh
      parts_adds (Async b) begin fresh = only_adds b (block_draft P K b) (both_of label (block_nodes b)) begin fresh (block_adds b fresh)
      parts_adds (Finalize b) begin fresh = only_adds b (block_draft P K b) (both_of label (block_nodes b)) begin fresh (block_adds b fresh)
      parts_adds (Do t b) begin fresh = only_adds b (block_draft P K b) (both_of label (block_nodes b)) begin fresh (block_adds b fresh)
      parts_adds (If' x arms last) begin fresh =
          let a : Draft = arms_parts P K arms begin in
          let b : Draft = to_end P K last (block_draft P K last) in
          beside_adds a b fresh (ends_of label (arms_labels begin arms) + below label begin) (both_of label (arms_nodes arms) + below label (begin + 2 * arm_count arms)) (one label (end_label (node_of_block last))) (both_of label (block_nodes last))
          (ends_of label (arms_labels begin arms ++ block_labels last) + below label begin) (both_of label (arms_nodes arms ++ block_nodes last) + below label (begin + 2 * arm_count arms))
          (omega (arith, ends_append begin arms last, both_append label (arms_nodes arms) (block_nodes last)))
          (arms_adds arms begin fresh) (to_end_adds last (block_draft P K last) (a fresh).next _ _ (block_adds last (a fresh).next))
      parts_adds (Loop k b) begin fresh =
          let x : Draft = turn_parts P K begin k in
          let y : Draft = to_end P K b (block_draft P K b) in
          beside_adds x y fresh (ends_of label (expression_labels (ends_count k) begin) + below label begin) (0 + below label (begin + 2 * ends_count k)) (one label (end_label (node_of_block b))) (both_of label (block_nodes b))
          (ends_of label (expression_labels (ends_count k) begin ++ block_labels b) + below label begin) (both_of label (block_nodes b) + below label (begin + 2 * ends_count k))
          (omega (arith, loop_ends begin k b))
          (turns_adds begin k fresh) (to_end_adds b (block_draft P K b) (x fresh).next _ _ (block_adds b (x fresh).next))
      parts_adds (Par' k slot x bs) begin fresh =
          let still : below label begin ≡ below label (begin + 0) = ap (below label) (omega arith) in
          adds_as label number (blocks_parts P K bs) fresh (ends_of label (branches_labels bs)) (both_of label (blocks_nodes bs)) _ _ (omega (arith, still)) (blocks_adds bs fresh)
      parts_adds _ begin fresh = none_adds begin fresh

      block_adds : (b : KBlock) (fresh : ℕ) → Adds label number (block_draft P K b) fresh (one label (end_label (node_of_block b))) (both_of label (block_nodes b))
      block_adds (KBlock' n ds x list) fresh =
          around_adds n (block_begin P K n ds list) (block_end P K n ds list) (nodes_draft P K list) (both_of label (list_nodes list)) fresh (begin_none n ds list) (abort_none n (own_gates P K (nodes_finalizers list) ds)) (λ f. nodes_adds list f)

      nodes_adds : {n : _} (rows : Row_of-KNode n) (fresh : ℕ) → Adds label number (nodes_draft P K rows) fresh 0 (both_of label (list_nodes rows))
      nodes_adds end_of-KNode fresh = adds_nothing label number fresh
      nodes_adds (more_of-KNode n p s rest) fresh =
          let a : Draft = with_parts P K n p s (parts_draft P K s) in
          beside_adds a (nodes_draft P K rest) fresh 0 (one label (own_label n) + (one label (end_label n) + both_of label (stmt_nodes s))) 0 (both_of label (list_nodes rest))
          0 (both_of label (n ∷ (stmt_nodes s ++ list_nodes rest))) (omega (arith, both_append label (stmt_nodes s) (list_nodes rest)))
          (whole_adds n p s (parts_draft P K s) (both_of label (stmt_nodes s)) (λ begin f. parts_adds s begin f) fresh) (nodes_adds rest (a fresh).next)

      arm_adds : (a : KArm) (begin fresh : ℕ) →
          Adds label number (arm_parts P K a begin) fresh (one label (begin + 1) + one label (end_label (node_of_block (arm_block a))) + below label begin) (both_of label (arm_nodes a) + below label (begin + 2))
      arm_adds (KArm' c b) begin fresh =
          let x : Draft = exp_part P K begin c in
          beside_adds x (to_end P K b (block_draft P K b)) fresh (one label (begin + 1) + below label begin) (below label (begin + 2)) (one label (end_label (node_of_block b))) (both_of label (block_nodes b))
          _ _ (omega arith) (exp_part_adds begin c fresh) (to_end_adds b (block_draft P K b) (x fresh).next _ _ (block_adds b (x fresh).next))

      arms_adds : {n : _} (rows : Row_of-KArm n) (begin fresh : ℕ) →
          Adds label number (arms_parts P K rows begin) fresh (ends_of label (arms_labels begin rows) + below label begin) (both_of label (arms_nodes rows) + below label (begin + 2 * arm_count rows))
      arms_adds end_of-KArm begin fresh = none_adds begin fresh
      arms_adds (more_of-KArm a rest) begin fresh =
          let x : Draft = arm_parts P K a begin in
          let still : below label (begin + 2 + 2 * arm_count rest) ≡ below label (begin + 2 * suc (arm_count rest)) = ap (below label) (omega arith) in
          beside_adds x (arms_parts P K rest (begin + 2)) fresh (one label (begin + 1) + one label (end_label (node_of_block (arm_block a))) + below label begin) (both_of label (arm_nodes a) + below label (begin + 2))
          (ends_of label (arms_labels (begin + 2) rest) + below label (begin + 2)) (both_of label (arms_nodes rest) + below label (begin + 2 + 2 * arm_count rest))
          (ends_of label (arms_labels begin (more_of-KArm a rest)) + below label begin) (both_of label (arm_nodes a ++ arms_nodes rest) + below label (begin + 2 * suc (arm_count rest)))
          (omega (arith, still, both_append label (arm_nodes a) (arms_nodes rest)))
          (arm_adds a begin fresh) (arms_adds rest (begin + 2) (x fresh).next)

      blocks_adds : {n : _} (rows : Row_of-KBlock n) (fresh : ℕ) → Adds label number (blocks_parts P K rows) fresh (ends_of label (branches_labels rows)) (both_of label (blocks_nodes rows))
      blocks_adds end_of-KBlock fresh = adds_nothing label number fresh
      blocks_adds (more_of-KBlock b rest) fresh =
          let x : Draft = to_end P K b (block_draft P K b) in
          beside_adds x (blocks_parts P K rest) fresh (one label (end_label (node_of_block b))) (both_of label (block_nodes b)) (ends_of label (branches_labels rest)) (both_of label (blocks_nodes rest))
          _ _ (omega (arith, both_append label (block_nodes b) (blocks_nodes rest)))
          (to_end_adds b (block_draft P K b) fresh _ _ (block_adds b fresh)) (blocks_adds rest (x fresh).next)

    -- ---- bodies

    body_adds : (b : KBlock) (t : Ty) (end : List Line) → marks label end ≡ 0 → (fresh : ℕ) → Adds label number (body_draft P K b (zero_given P K t) end) fresh 0 (both_of label (block_nodes b))
    body_adds b t end none fresh =
        let e : List Line = mark (end_label (node_of_block b)) ∷ end in
        beside_adds (block_draft P K b) (text (zero_given P K t ++ e)) fresh (one label (end_label (node_of_block b))) (both_of label (block_nodes b)) 0 (one label (end_label (node_of_block b))) 0 (both_of label (block_nodes b)) (omega arith)
        (block_adds b fresh) (adds_text label number (zero_given P K t ++ e) (block_draft P K b fresh).next 0 (one label (end_label (node_of_block b))) (omega (arith, zero_none t e, none)))

    codes_adds : (cs : List KCode) (fresh : ℕ) → Adds label number (codes_draft P K cs) fresh 0 (both_of label (codes_nodes cs))
    codes_adds [] fresh = adds_nothing label number fresh
    codes_adds (c ∷ cs) fresh =
        let x : Draft = code_draft P K c in
        beside_adds x (codes_draft P K cs) fresh 0 (both_of label (block_nodes c.body)) 0 (both_of label (codes_nodes cs)) 0 _ (omega (arith, both_append label (block_nodes c.body) (codes_nodes cs)))
        (body_adds c.body c.result (plain instr.Return ∷ []) refl fresh) (codes_adds cs (x fresh).next)

    pub kernel_adds : (fresh : ℕ) → Adds label number (kernel_draft P K) fresh 0 (both_of label (block_nodes K.body ++ codes_nodes K.codes))
    kernel_adds fresh =
        let x : Draft = program_draft P K K.body in
        beside_adds x (codes_draft P K K.codes) fresh 0 (both_of label (block_nodes K.body)) 0 (both_of label (codes_nodes K.codes)) 0 _ (omega (arith, both_append label (block_nodes K.body) (codes_nodes K.codes)))
        (body_adds K.body ty.S32 (plain instr.End ∷ []) refl fresh) (codes_adds K.codes (x fresh).next)
