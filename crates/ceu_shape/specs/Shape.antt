-- The code of a kernel: the lines of a statement come before those of its parts, the body of the program before the codes.
use Rattle.std.specs.Prelude.{ℕ, suc, zero, ◌+◌, ◌*◌, ◌==◌, Bool, true, false, if◌then◌else◌, pos, List, [], ◌∷◌, ◌++◌, length, map, Option, Some, None}
use Rattle.ceu_base.specs.declared.kinds.Ty.{Ty}
use Rattle.ceu_base.specs.declared.kinds.Ty.TheVariants as ty
use Rattle.ceu_base.specs.declared.kinds.Pos.{Pos}
use Rattle.ceu_tree.specs.declared.kernel.Kernel.{Kernel}
use Rattle.ceu_tree.specs.declared.kernel.KCode.{KCode}
use Rattle.ceu_tree.specs.declared.kernel.KDecl.{KDecl}
use Rattle.ceu_tree.specs.declared.kernel.KKind.{KKind}
use Rattle.ceu_tree.specs.declared.kernel.KKind.TheVariants as kind
use Rattle.ceu_tree.specs.declared.kernel.KExp.{KExp}
use Rattle.ceu_tree.specs.declared.kernel.KLoop.{KLoop}
use Rattle.ceu_tree.specs.declared.kernel.KLoop.TheVariants as turns
use Rattle.ceu_tree.specs.declared.kernel.KBlock.{KBlock, KBlock', Row_of-KNode, end_of-KNode, more_of-KNode}
use Rattle.ceu_tree.specs.declared.kernel.KNode.{KNode}
use Rattle.ceu_tree.specs.declared.kernel.KArm.{KArm, KArm'}
use Rattle.ceu_tree.specs.declared.kernel.KStmt.{KStmt, Row_of-KArm, end_of-KArm, more_of-KArm, Row_of-KBlock, end_of-KBlock, more_of-KBlock, Nothing, Assign, Out, Emit, AwaitIn, AwaitTime, AwaitEvent, Forever, AwaitCode, Spawn, Kill, Unset, Async, Finalize, Do, Escape, Break, Continue, If', Loop, Par'}
use Rattle.ceu_tree.specs.Numbering.{block_nodes, codes_nodes}
use Rattle.ceu_tree.specs.Needs.{nodes_finalizers, gates}
use Rattle.ceu_tree.specs.Depth.{depth}
use Rattle.ceu_code.specs.declared.instr.Instr.TheVariants as instr
use Rattle.ceu_code.specs.declared.image.Image.{Image}
use Rattle.ceu_code.specs.declared.image.CodeRow.{CodeRow}
use Rattle.ceu_asm.specs.declared.line.Line.{Line}
use Rattle.ceu_asm.specs.declared.line.Labels.{Labels}
use Rattle.ceu_asm.specs.Lines.{assembled, offset_of}
use Rattle.ceu_shape.specs.Plans.{Plan, own_label, end_label}
use Rattle.ceu_shape.specs.Pieces.{Piece, Draft, Moment, Begins, Finishes, Turns, Stop, both, nothing, text, taking, with_places, numbered}
use Rattle.ceu_shape.specs.Words.{mark, plain, goto, move_to}
use Rattle.ceu_shape.specs.Expressions.{exp_draft}
use Rattle.ceu_shape.specs.Searches.{node_of_block, body_node, pool_row, kernel_pools, PoolRow}
use Rattle.ceu_shape.specs.Flow.{nothing_lines, assign_lines, output_draft, emit_draft, await_input_draft, await_event_draft, await_time_draft, forever_draft, do_lines, escape_draft, leave_lines, if_draft, looping_draft}
use Rattle.ceu_shape.specs.Par.{par_draft}
use Rattle.ceu_shape.specs.Pools.{call_draft, spawn_draft, kill_lines, unset_lines}
use Rattle.ceu_shape.specs.Async.{async_draft, finalizer_draft}

-- ---- the labels of a statement and of its parts

abbrev pub count_if : {A : Type 0} → Option A → ℕ
count_if None = 0
count_if (Some e) = 1

abbrev pub arm_count : {n : _} → Row_of-KArm n → ℕ
arm_count end_of-KArm = 0
arm_count (more_of-KArm a rest) = suc (arm_count rest)

-- the nodes of the branches of a par
abbrev pub branch_nodes : {n : _} → Row_of-KBlock n → List ℕ
branch_nodes end_of-KBlock = []
branch_nodes (more_of-KBlock b rest) = node_of_block b ∷ branch_nodes rest

abbrev pub ends_count : KLoop → ℕ
ends_count (turns.Range i next end open_a a b open_b) = 2
ends_count _ = 0

-- how many of its parts are expressions
abbrev pub expression_count : KStmt → ℕ
expression_count (Assign l e) = 1
expression_count (Out k e) = count_if e
expression_count (Emit k e) = count_if e
expression_count (AwaitTime e u t) = 1
expression_count (AwaitCode c es f t) = length es
expression_count (Spawn c es p a) = length es
expression_count (Escape n e) = count_if e
expression_count (If' _ arms last) = arm_count arms
expression_count (Loop k b) = ends_count k
expression_count _ = 0

-- two labels for each of so many expressions
abbrev pub expression_labels : (count fresh : ℕ) → List ℕ
expression_labels zero fresh = []
expression_labels (suc n) fresh = fresh ∷ (fresh + 1) ∷ expression_labels n (fresh + 2)

abbrev pub block_labels : KBlock → List ℕ
block_labels b = own_label (node_of_block b) ∷ end_label (node_of_block b) ∷ []

abbrev pub arm_block : KArm → KBlock
arm_block (KArm' c b) = b

abbrev pub arms_labels : {n : _} → (fresh : ℕ) → Row_of-KArm n → List ℕ
arms_labels fresh end_of-KArm = []
arms_labels fresh (more_of-KArm a rest) = fresh ∷ (fresh + 1) ∷ (block_labels (arm_block a) ++ arms_labels (fresh + 2) rest)

abbrev pub branches_labels : {n : _} → Row_of-KBlock n → List ℕ
branches_labels end_of-KBlock = []
branches_labels (more_of-KBlock b rest) = block_labels b ++ branches_labels rest

-- the begin and the end of each part, in textual order; those of the expressions are numbered from `fresh` on
abbrev pub part_labels : (fresh : ℕ) → KStmt → List ℕ
part_labels fresh (Async b) = block_labels b
part_labels fresh (Finalize b) = block_labels b
part_labels fresh (Do t b) = block_labels b
part_labels fresh (If' _ arms last) = arms_labels fresh arms ++ block_labels last
part_labels fresh (Loop k b) = expression_labels (ends_count k) fresh ++ block_labels b
part_labels fresh (Par' k slot _ bs) = branches_labels bs
part_labels fresh s = expression_labels (expression_count s) fresh

-- Where the statement goes: behind itself; an escape and a break behind what they leave, where the body of the program or of code is left to the lines
-- that end it; a continue to the end of the loop's body, whose number is the one behind the loop's.
abbrev pub next_label : (node : ℕ) → KStmt → ℕ
next_label n (Escape m e) = end_label m
next_label n (Break m) = end_label m
next_label n (Continue m) = end_label (m + 1)
next_label n s = end_label n

abbrev pub labels_of : (fresh node : ℕ) → KStmt → Labels
labels_of fresh n s = record { own = own_label n; next = next_label n s; parts = part_labels fresh s }

-- ---- the lines of a statement without its parts

module _ (P : Plan) (K : Kernel) where
  abbrev pub node_draft : (node : ℕ) → Pos → KStmt → Labels → Draft
  node_draft n p Nothing labels = text (nothing_lines labels)
  node_draft n p (Assign l e) labels = text (assign_lines P.offset l labels)
  node_draft n p (Out k e) labels = output_draft K k e labels
  node_draft n p (Emit k e) labels = emit_draft P K n k e labels
  node_draft n p (AwaitIn k t) labels = await_input_draft P K n k t labels
  node_draft n p (AwaitTime e u t) labels = await_time_draft P K n u t labels
  node_draft n p (AwaitEvent k t) labels = await_event_draft P K n k t labels
  node_draft n p Forever labels = forever_draft P K n labels
  node_draft n p (AwaitCode c es frame t) labels = call_draft P K n c frame (length es) t labels
  node_draft n p (Spawn c es pool alias) labels = spawn_draft P K n p c (length es) pool alias labels
  node_draft n p (Kill c) labels = text (kill_lines P c labels)
  node_draft n p (Unset c) labels = text (unset_lines P c labels)
  node_draft n p (Async b) labels = async_draft P n (node_of_block b) labels
  node_draft n p (Finalize b) labels = finalizer_draft P n p labels
  node_draft n p (Do t b) labels = text (do_lines P.offset t labels)
  node_draft n p (Escape m e) labels = escape_draft P K m e labels
  node_draft n p (Break m) labels = text (leave_lines P m labels)
  node_draft n p (Continue m) labels = text (leave_lines P m labels)
  node_draft n p (If' _ arms last) labels = if_draft (arm_count arms) labels
  node_draft n p (Loop kind b) labels = looping_draft P K n p kind labels
  node_draft n p (Par' kind slot _ bs) labels = par_draft P labels n kind slot (branch_nodes bs)

  -- ---- parts, and what stands around a block's statements

  -- an expression between its labels, of which the begin is this one
  abbrev pub exp_part : (begin : ℕ) → KExp → Draft
  exp_part begin e = both (text (mark begin ∷ [])) (both (exp_draft P.offset e) (text (goto (begin + 1) ∷ [])))

  abbrev pub exp_part_if : (begin : ℕ) → Option KExp → Draft
  exp_part_if begin None = nothing
  exp_part_if begin (Some e) = exp_part begin e

  abbrev pub exp_parts : (begin : ℕ) → List KExp → Draft
  exp_parts begin [] = nothing
  exp_parts begin (e ∷ es) = both (exp_part begin e) (exp_parts (begin + 2) es)

  abbrev pub turn_parts : (begin : ℕ) → KLoop → Draft
  turn_parts begin (turns.Range i next end open_a a b open_b) = both (exp_part begin a) (exp_part (begin + 2) b)
  turn_parts begin _ = nothing

  -- how many gates the pools have
  abbrev pub pool_gates : KKind → ℕ
  pool_gates (kind.Pool n c) = n * P.count (body_node K c)
  pool_gates _ = 0

  abbrev pub pools_gates : List KDecl → ℕ
  pools_gates [] = 0
  pools_gates (d ∷ ds) = pool_gates d.kind + pools_gates ds

  -- free places, from a gate on
  abbrev pub pool_line : (first slot : ℕ) → KKind → List Line
  pool_line first slot (kind.Pool n c) = plain (instr.MakePool (P.offset slot) n (pool_row K slot) first) ∷ []
  pool_line first slot _ = []

  abbrev pub pool_lines : (first : ℕ) → List KDecl → List Line
  pool_lines first [] = []
  pool_lines first (d ∷ ds) = pool_line first d.slot d.kind ++ pool_lines (first + pool_gates d.kind) ds

  -- so many gates before those of the statements
  abbrev pub own_gates : (finalizers : ℕ) → List KDecl → ℕ
  own_gates finalizers ds = finalizers + pools_gates ds

  -- A block that has such gates and some statement moves the trail behind them, so that it stands at none of them.
  abbrev pub move_lines : {n : _} → (node gates : ℕ) → Row_of-KNode n → List Line
  move_lines n zero list = []
  move_lines n (suc g) end_of-KNode = []
  move_lines n (suc g) (more_of-KNode m p s rest) = plain (instr.Move (P.first n + suc g)) ∷ []

  abbrev pub block_begin : {n : _} → (node : ℕ) → List KDecl → Row_of-KNode n → List Line
  block_begin n ds list = move_lines n (own_gates (nodes_finalizers list) ds) list ++ pool_lines (P.first n + nodes_finalizers list) ds

  -- at its end they are aborted
  abbrev pub abort_own : (node gates : ℕ) → List Line
  abort_own n zero = []
  abort_own n (suc g) = plain (instr.AbortGates (P.first n) (suc g)) ∷ []

  abbrev pub block_end : {n : _} → (node : ℕ) → List KDecl → Row_of-KNode n → List Line
  block_end n ds list = abort_own n (own_gates (nodes_finalizers list) ds)

  -- ---- statements with their parts

  -- The labels of the expressions come first, then those that the statement takes, then those of its parts.
  abbrev pub with_parts : (node : ℕ) → Pos → KStmt → (ℕ → Draft) → Draft
  with_parts n p s parts =
      taking (2 * expression_count s) (λ fresh. both (node_draft n p s (labels_of fresh n s)) (both (parts fresh) (text (mark (end_label n) ∷ []))))

  -- a block that is a part goes to its end
  abbrev pub to_end : KBlock → Draft → Draft
  to_end b block = both block (text (goto (end_label (node_of_block b)) ∷ []))

  unfoldable mutual
    -- the parts of a statement, whose expressions have the labels from `begin` on
    pub parts_draft : KStmt → (begin : ℕ) → Draft
    parts_draft (Assign l e) begin = exp_part begin e
    parts_draft (Out k e) begin = exp_part_if begin e
    parts_draft (Emit k e) begin = exp_part_if begin e
    parts_draft (AwaitTime e u t) begin = exp_part begin e
    parts_draft (AwaitCode c es frame t) begin = exp_parts begin es
    parts_draft (Spawn c es pool alias) begin = exp_parts begin es
    parts_draft (Async b) begin = to_end b (block_draft b)
    parts_draft (Finalize b) begin = to_end b (block_draft b)
    parts_draft (Do t b) begin = to_end b (block_draft b)
    parts_draft (Escape m e) begin = exp_part_if begin e
    parts_draft (If' _ arms last) begin = both (arms_parts arms begin) (to_end last (block_draft last))
    parts_draft (Loop kind b) begin = both (turn_parts begin kind) (to_end b (block_draft b))
    parts_draft (Par' kind slot _ bs) begin = blocks_parts bs
    parts_draft _ begin = nothing

    -- from the block's own label on, up to where it has ended
    pub block_draft : KBlock → Draft
    block_draft (KBlock' n ds _ list) = both (text (mark (own_label n) ∷ block_begin n ds list)) (both (nodes_draft list) (text (block_end n ds list)))

    pub arm_parts : KArm → (begin : ℕ) → Draft
    arm_parts (KArm' c b) begin = both (exp_part begin c) (to_end b (block_draft b))

    pub nodes_draft : {n : _} → Row_of-KNode n → Draft
    nodes_draft end_of-KNode = nothing
    nodes_draft (more_of-KNode n p s rest) = both (with_parts n p s (parts_draft s)) (nodes_draft rest)

    pub arms_parts : {n : _} → Row_of-KArm n → (begin : ℕ) → Draft
    arms_parts end_of-KArm begin = nothing
    arms_parts (more_of-KArm a rest) begin = both (arm_parts a begin) (arms_parts rest (begin + 2))

    pub blocks_parts : {n : _} → Row_of-KBlock n → Draft
    blocks_parts end_of-KBlock = nothing
    blocks_parts (more_of-KBlock b rest) = both (to_end b (block_draft b)) (blocks_parts rest)

  -- ---- bodies

  -- code that ends without an escape gives zero
  abbrev pub zero_given : Ty → List Line
  zero_given ty.None = []
  zero_given t = plain (instr.Push t (pos 0)) ∷ plain instr.SetValue ∷ []

  abbrev pub body_draft : KBlock → List Line → List Line → Draft
  body_draft b value end = both (block_draft b) (text (value ++ ((mark (end_label (node_of_block b)) ∷ []) ++ end)))

  abbrev pub program_draft : KBlock → Draft
  program_draft b = body_draft b (zero_given ty.S32) (plain instr.End ∷ [])

  abbrev pub code_draft : KCode → Draft
  code_draft c = body_draft c.body (zero_given c.result) (plain instr.Return ∷ [])

  abbrev pub codes_draft : List KCode → Draft
  codes_draft [] = nothing
  codes_draft (c ∷ cs) = both (code_draft c) (codes_draft cs)

  abbrev pub kernel_draft : Draft
  kernel_draft = both (program_draft K.body) (codes_draft K.codes)

-- ---- the whole

-- the labels of all nodes come first
abbrev pub first_fresh : Kernel → ℕ
first_fresh K = 2 * length (block_nodes K.body ++ codes_nodes K.codes)

unfoldable pub kernel_piece : Plan → Kernel → Piece
kernel_piece P K = kernel_draft P K (first_fresh K)

-- the positions in the order in which the lines name them first
unfoldable pub shape_positions : Plan → Kernel → List Pos
shape_positions P K = with_places (kernel_piece P K).noted []

unfoldable pub shape_lines : Plan → Kernel → List Line
shape_lines P K = (kernel_piece P K).lines (numbered (shape_positions P K))

-- ---- places in the code

abbrev pub same_moment : Moment → Moment → Bool
same_moment Begins Begins = true
same_moment Finishes Finishes = true
same_moment Turns Turns = true
same_moment _ _ = false

abbrev pub stop_in : Moment → (node : ℕ) → List Stop → Option Stop
stop_in m node [] = None
stop_in m node (s ∷ ss) = if s.node == node then (if same_moment s.moment m then Some s else stop_in m node ss) else stop_in m node ss

abbrev pub offset_at : List Line → (other : ℕ) → Option Stop → ℕ
offset_at lines other None = other
offset_at lines other (Some s) = offset_of s.label lines + s.behind

-- where a statement or a block begins: at its own label, the body of an async where it is served first
abbrev pub begin_offset : Plan → Kernel → (node : ℕ) → ℕ
begin_offset P K node = let lines = shape_lines P K in offset_at lines (offset_of (own_label node) lines) (stop_in Begins node (kernel_piece P K).stops)

-- where a statement that waits or pauses goes on, where code that is awaited comes back to, and where an ended branch of a par stands; else 65,535
abbrev pub finish_offset : Plan → Kernel → (node : ℕ) → ℕ
finish_offset P K node = offset_at (shape_lines P K) 65535 (stop_in Finishes node (kernel_piece P K).stops)

-- where a loop of an async begins its next turn; 65,535 for every other node
abbrev pub turn_offset : Plan → Kernel → (node : ℕ) → ℕ
turn_offset P K node = offset_at (shape_lines P K) 65535 (stop_in Turns node (kernel_piece P K).stops)

-- ---- the image

abbrev pub param_ty : KDecl → Ty
param_ty d = elim d.kind [ kind.Var t ↦ t | _ ↦ ty.None ]

abbrev pub code_row : Plan → List Line → (code : ℕ) → KCode → CodeRow
code_row P lines k c = record { entry = offset_of (own_label (node_of_block c.body)) lines; frame = P.frame k; gates = P.count (node_of_block c.body); params = map param_ty c.params }

abbrev pub code_rows : Plan → List Line → (code : ℕ) → List KCode → List CodeRow
code_rows P lines k [] = []
code_rows P lines k (c ∷ cs) = code_row P lines k c ∷ code_rows P lines (k + 1) cs

abbrev pub pool_code : PoolRow → ℕ
pool_code r = r.code

unfoldable pub shape : Plan → Kernel → (turns levels : ℕ) → Image
shape P K turns levels = record {
  turns = turns;
  levels = levels;
  depth = depth K;
  gates = gates K;
  slots = P.total;
  inputs = K.inputs;
  outputs = K.outputs;
  codes = code_rows P (shape_lines P K) 0 K.codes;
  pools = map pool_code (kernel_pools K);
  places = shape_positions P K;
  code = assembled (shape_lines P K);
}
