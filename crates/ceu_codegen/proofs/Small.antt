-- How many labels and positions the lines of a kernel take: at most as its weight.
use Rattle.std.proofs.Common.{ℕ, ◌+◌, ◌*◌, ◌≤◌, List, [], ◌∷◌, ◌++◌, length, arith, length-append, Option, Some, None}
use Rattle.ceu_base.specs.declared.kinds.Pos.{Pos}
use Rattle.ceu_tree.specs.declared.kernel.Kernel.{Kernel}
use Rattle.ceu_tree.specs.declared.kernel.KExp.{KExp}
use Rattle.ceu_tree.specs.declared.kernel.KExpNode.{KExpNode, Const, Read, Alive, One', Two', As'}
use Rattle.ceu_tree.specs.declared.kernel.KLoop.{KLoop}
use Rattle.ceu_tree.specs.declared.kernel.KLoop.TheVariants as turns
use Rattle.ceu_tree.specs.declared.kernel.ParKind.TheVariants as par
use Rattle.ceu_tree.specs.declared.kernel.KBlock.{KBlock, KBlock', Row_of-KNode, end_of-KNode, more_of-KNode}
use Rattle.ceu_tree.specs.declared.kernel.KNode.{KNode}
use Rattle.ceu_tree.specs.declared.kernel.KArm.{KArm, KArm'}
use Rattle.ceu_tree.specs.declared.kernel.KStmt.{KStmt, Row_of-KArm, end_of-KArm, more_of-KArm, Row_of-KBlock, end_of-KBlock, more_of-KBlock, Nothing, Assign, Out, Emit, AwaitIn, AwaitTime, AwaitEvent, Forever, AwaitCode, Spawn, Kill, Unset, Async, Finalize, Do, Escape, Break, Continue, If', Loop, Par'}
use Rattle.ceu_tree.specs.Greatest.{total}
use Rattle.ceu_tree.specs.Weight.{node_count, exp_count, exp_weight, stmt_weight, node_weight, block_weight, nodes_weight, arms_weight, blocks_weight}
use Rattle.ceu_asm.specs.declared.line.Line.{Line}
use Rattle.ceu_asm.specs.declared.line.Labels.{Labels}
use Rattle.ceu_shape.specs.Plans.{Plan, own_label, end_label}
use Rattle.ceu_shape.specs.Pieces.{Draft, both, nothing, text, taking}
use Rattle.ceu_shape.specs.Words.{mark, goto}
use Rattle.ceu_shape.specs.Expressions.{exp_draft}
use Rattle.ceu_shape.specs.Searches.{node_of_block}
use Rattle.ceu_shape.specs.Shape.{arm_count, expression_count, labels_of, node_draft, exp_part, exp_part_if, exp_parts, turn_parts, block_begin, block_end, with_parts, to_end, parts_draft, block_draft, arm_parts, nodes_draft, arms_parts, blocks_parts}
use Rattle.ceu_shape.proofs.Expressed.{IsSmall, exp_small}
use Rattle.ceu_low_flow.specs.Bounds.{arms_of}
use Rattle.ceu_codegen.specs.Lists.{one_draft, arm_list_draft, branch_draft}
use Rattle.ceu_codegen.specs.Rooms.{room_if, turns_room, arm_room, arms_room, parts_room}

-- ---- pieces

small_both_at : (a b : Draft) (m n fresh : ℕ) → IsSmall a m → IsSmall b n → ((b (a fresh).next).next ≤ fresh + 2 * (m + n)) × (length ((a fresh).noted ++ (b (a fresh).next).noted) ≤ m + n)
small_both_at a b m n fresh f g =
    let x = f.labels fresh in
    let y = g.labels (a fresh).next in
    let u = f.positions fresh in
    let v = g.positions (a fresh).next in
    (omega (arith, x, y), omega (arith, u, v, length-append (a fresh).noted (b (a fresh).next).noted))

small_both : (a b : Draft) (m n : ℕ) → IsSmall a m → IsSmall b n → IsSmall (both a b) (m + n)
small_both a b m n f g = record { labels = λ fresh. (small_both_at a b m n fresh f g).0; positions = λ fresh. (small_both_at a b m n fresh f g).1 }

pub small_more : (a : Draft) (m n : ℕ) → m ≤ n → IsSmall a m → IsSmall a n
small_more a m n h f = record { labels = λ fresh. (go fresh).0; positions = λ fresh. (go fresh).1 }
  where
    go : (fresh : ℕ) → ((a fresh).next ≤ fresh + 2 * n) × (length (a fresh).noted ≤ n)
    go fresh = (omega (arith, f.labels fresh), omega (arith, f.positions fresh))

small_text : (ls : List Line) → IsSmall (text ls) 0
small_text ls = record { labels = λ fresh. omega arith; positions = λ fresh. omega arith }

small_nothing : IsSmall nothing 0
small_nothing = record { labels = λ fresh. omega arith; positions = λ fresh. omega arith }

-- lines behind a piece
pub small_then : (a : Draft) (ls : List Line) (m : ℕ) → IsSmall a m → IsSmall (both a (text ls)) m
small_then a ls m f = small_more (both a (text ls)) (m + 0) m (omega arith) (small_both a (text ls) m 0 f (small_text ls))

-- lines before a piece
small_after : (ls : List Line) (a : Draft) (m : ℕ) → IsSmall a m → IsSmall (both (text ls) a) m
small_after ls a m f = small_more (both (text ls) a) (0 + m) m (omega arith) (small_both (text ls) a 0 m (small_text ls) f)

-- ---- one statement

module _ (P : Plan) (K : Kernel) where
  pub node_small : (n : ℕ) (p : Pos) (s : KStmt) (labels : Labels) → IsSmall (node_draft P K n p s labels) (1 + arms_of s)
  node_small n p Nothing labels = record { labels = λ fresh. omega arith; positions = λ fresh. omega arith }
  node_small n p (Assign l e) labels = record { labels = λ fresh. omega arith; positions = λ fresh. omega arith }
  node_small n p (Out k e) labels = record { labels = λ fresh. omega arith; positions = λ fresh. omega arith }
  node_small n p (Emit k e) labels = record { labels = λ fresh. omega arith; positions = λ fresh. omega arith }
  node_small n p (AwaitIn k t) labels = record { labels = λ fresh. omega arith; positions = λ fresh. omega arith }
  node_small n p (AwaitTime e u t) labels = record { labels = λ fresh. omega arith; positions = λ fresh. omega arith }
  node_small n p (AwaitEvent k t) labels = record { labels = λ fresh. omega arith; positions = λ fresh. omega arith }
  node_small n p Forever labels = record { labels = λ fresh. omega arith; positions = λ fresh. omega arith }
  node_small n p (AwaitCode c es frame t) labels = record { labels = λ fresh. omega arith; positions = λ fresh. omega arith }
  node_small n p (Spawn c es pool alias) labels = record { labels = λ fresh. omega arith; positions = λ fresh. omega arith }
  node_small n p (Kill c) labels = record { labels = λ fresh. omega arith; positions = λ fresh. omega arith }
  node_small n p (Unset c) labels = record { labels = λ fresh. omega arith; positions = λ fresh. omega arith }
  node_small n p (Async b) labels = record { labels = λ fresh. omega arith; positions = λ fresh. omega arith }
  node_small n p (Finalize b) labels = record { labels = λ fresh. omega arith; positions = λ fresh. omega arith }
  node_small n p (Do t b) labels = record { labels = λ fresh. omega arith; positions = λ fresh. omega arith }
  node_small n p (Escape m e) labels = record { labels = λ fresh. omega arith; positions = λ fresh. omega arith }
  node_small n p (Break m) labels = record { labels = λ fresh. omega arith; positions = λ fresh. omega arith }
  node_small n p (Continue m) labels = record { labels = λ fresh. omega arith; positions = λ fresh. omega arith }
  node_small n p (If' _ arms last) labels = record { labels = λ fresh. omega arith; positions = λ fresh. omega arith }
  node_small n p (Loop turns.Free b) labels = record { labels = λ fresh. omega arith; positions = λ fresh. omega arith }
  node_small n p (Loop (turns.Times slot limit) b) labels = record { labels = λ fresh. omega arith; positions = λ fresh. omega arith }
  node_small n p (Loop (turns.Range i next end open_a a b open_b) body) labels = record { labels = λ fresh. omega arith; positions = λ fresh. omega arith }
  node_small n p (Par' par.Never slot _ bs) labels = record { labels = λ fresh. omega arith; positions = λ fresh. omega arith }
  node_small n p (Par' par.Or slot _ bs) labels = record { labels = λ fresh. omega arith; positions = λ fresh. omega arith }
  node_small n p (Par' par.And slot _ bs) labels = record { labels = λ fresh. omega arith; positions = λ fresh. omega arith }

-- ---- expressions

exp_some : (e : KExpNode) → 1 ≤ node_count e
unfolding node_count
exp_some (Const v) = omega arith
exp_some (Read l) = omega arith
exp_some (Alive c) = omega arith
exp_some (One' op x a) = omega arith
exp_some (Two' op x a y b) = omega arith
exp_some (As' x a) = omega arith

module _ (P : Plan) (K : Kernel) where
  pub part_small : (begin : ℕ) (e : KExp) → IsSmall (exp_part P K begin e) (exp_count e)
  part_small begin e =
      small_after (mark begin ∷ []) (both (exp_draft P.offset e) (text (goto (begin + 1) ∷ []))) (exp_count e)
      (small_then (exp_draft P.offset e) (goto (begin + 1) ∷ []) (exp_count e) (exp_small P.offset e))

  part_if_small : (begin : ℕ) (e : Option KExp) → IsSmall (exp_part_if P K begin e) (room_if e)
  part_if_small begin None = small_nothing
  part_if_small begin (Some e) = part_small begin e

  all_small : (begin : ℕ) (es : List KExp) → IsSmall (exp_parts P K begin es) (total exp_count es)
  all_small begin [] = small_nothing
  all_small begin (e ∷ es) = small_both (exp_part P K begin e) (exp_parts P K (begin + 2) es) (exp_count e) (total exp_count es) (part_small begin e) (all_small (begin + 2) es)

  pub turns_small : (begin : ℕ) (kind : KLoop) → IsSmall (turn_parts P K begin kind) (turns_room kind)
  turns_small begin turns.Free = small_nothing
  turns_small begin (turns.Times slot limit) = small_nothing
  turns_small begin (turns.Range i next end open_a a b open_b) = small_both (exp_part P K begin a) (exp_part P K (begin + 2) b) (exp_count a) (exp_count b) (part_small begin a) (part_small (begin + 2) b)

-- ---- a statement with its parts

exps_need : (es : List KExp) → length es + total exp_count es ≤ total exp_weight es
exps_need [] = omega arith
exps_need (e ∷ es) = omega (arith, exp_some e.node, exps_need es)

arms_need : {n : _} (r : Row_of-KArm n) → 2 * arm_count r + arms_room r ≤ arms_weight r
unfolding stmt_weight
arms_need end_of-KArm = omega arith
arms_need (more_of-KArm (KArm' c b) rest) = omega (arith, exp_some c.node, arms_need rest)

-- what the statement takes itself, and its parts
pub stmt_needs : (s : KStmt) → expression_count s + (1 + arms_of s) + parts_room s ≤ 48 + stmt_weight s
unfolding stmt_weight parts_room
stmt_needs Nothing = omega arith
stmt_needs (Assign l e) = omega (arith, exp_some e.node)
stmt_needs (Out k None) = omega arith
stmt_needs (Out k (Some e)) = omega (arith, exp_some e.node)
stmt_needs (Emit k None) = omega arith
stmt_needs (Emit k (Some e)) = omega (arith, exp_some e.node)
stmt_needs (AwaitIn k t) = omega arith
stmt_needs (AwaitTime e u t) = omega (arith, exp_some e.node)
stmt_needs (AwaitEvent k t) = omega arith
stmt_needs Forever = omega arith
stmt_needs (AwaitCode c es frame t) = omega (arith, exps_need es)
stmt_needs (Spawn c es pool alias) = omega (arith, exps_need es)
stmt_needs (Kill c) = omega arith
stmt_needs (Unset c) = omega arith
stmt_needs (Async b) = omega arith
stmt_needs (Finalize b) = omega arith
stmt_needs (Do t b) = omega arith
stmt_needs (Escape m None) = omega arith
stmt_needs (Escape m (Some e)) = omega (arith, exp_some e.node)
stmt_needs (Break m) = omega arith
stmt_needs (Continue m) = omega arith
stmt_needs (If' _ arms last) = omega (arith, arms_need arms)
stmt_needs (Loop turns.Free b) = omega arith
stmt_needs (Loop (turns.Times slot limit) b) = omega arith
stmt_needs (Loop (turns.Range i next end open_a a b open_b) body) = omega arith
stmt_needs (Par' kind slot _ bs) = omega arith

small_taking : (count : ℕ) (f : ℕ → Draft) (m : ℕ) → ((fresh : ℕ) → IsSmall (f fresh) m) → IsSmall (taking (2 * count) f) (count + m)
small_taking count f m h = record { labels = λ fresh. (go fresh).0; positions = λ fresh. (go fresh).1 }
  where
    go : (fresh : ℕ) → ((f fresh (fresh + 2 * count)).next ≤ fresh + 2 * (count + m)) × (length (f fresh (fresh + 2 * count)).noted ≤ count + m)
    go fresh = (omega (arith, (h fresh).labels (fresh + 2 * count)), omega (arith, (h fresh).positions (fresh + 2 * count)))

module _ (P : Plan) (K : Kernel) where
  with_parts_small : (n : ℕ) (p : Pos) (s : KStmt) (parts : ℕ → Draft) → ((begin : ℕ) → IsSmall (parts begin) (parts_room s)) → IsSmall (with_parts P K n p s parts) (48 + stmt_weight s)
  with_parts_small n p s parts h =
      let own : ℕ → Draft = λ fresh. node_draft P K n p s (labels_of fresh n s) in
      let last : List Line = mark (end_label n) ∷ [] in
      let f : ℕ → Draft = λ fresh. both (own fresh) (both (parts fresh) (text last)) in
      small_more (taking (2 * expression_count s) f) (expression_count s + ((1 + arms_of s) + parts_room s)) (48 + stmt_weight s) (omega (arith, stmt_needs s))
      (small_taking (expression_count s) f ((1 + arms_of s) + parts_room s) (λ fresh.
      small_both (own fresh) (both (parts fresh) (text last)) (1 + arms_of s) (parts_room s) (node_small P K n p s (labels_of fresh n s))
      (small_then (parts fresh) last (parts_room s) (h fresh))))

  end_small : (b : KBlock) (d : Draft) (m : ℕ) → IsSmall d m → IsSmall (to_end P K b d) m
  end_small b d m h = small_then d (goto (end_label (node_of_block b)) ∷ []) m h

  mutual
    unfolding parts_draft stmt_weight parts_room

    pub parts_small : (s : KStmt) (begin : ℕ) → IsSmall (parts_draft P K s begin) (parts_room s)
    parts_small Nothing begin = small_nothing
    parts_small (Assign l e) begin = part_small P K begin e
    parts_small (Out k e) begin = part_if_small P K begin e
    parts_small (Emit k e) begin = part_if_small P K begin e
    parts_small (AwaitIn k t) begin = small_nothing
    parts_small (AwaitTime e u t) begin = part_small P K begin e
    parts_small (AwaitEvent k t) begin = small_nothing
    parts_small Forever begin = small_nothing
    parts_small (AwaitCode c es frame t) begin = all_small P K begin es
    parts_small (Spawn c es pool alias) begin = all_small P K begin es
    parts_small (Kill c) begin = small_nothing
    parts_small (Unset c) begin = small_nothing
    parts_small (Async b) begin = end_small b (block_draft P K b) (block_weight b) (block_small b)
    parts_small (Finalize b) begin = end_small b (block_draft P K b) (block_weight b) (block_small b)
    parts_small (Do t b) begin = end_small b (block_draft P K b) (block_weight b) (block_small b)
    parts_small (Escape m e) begin = part_if_small P K begin e
    parts_small (Break m) begin = small_nothing
    parts_small (Continue m) begin = small_nothing
    parts_small (If' _ arms last) begin =
        small_both (arms_parts P K arms begin) (to_end P K last (block_draft P K last)) (arms_room arms) (block_weight last) (arms_small arms begin) (end_small last (block_draft P K last) (block_weight last) (block_small last))
    parts_small (Loop kind b) begin =
        small_both (turn_parts P K begin kind) (to_end P K b (block_draft P K b)) (turns_room kind) (block_weight b) (turns_small P K begin kind) (end_small b (block_draft P K b) (block_weight b) (block_small b))
    parts_small (Par' kind slot _ bs) begin = blocks_small bs

    pub block_small : (b : KBlock) → IsSmall (block_draft P K b) (block_weight b)
    block_small (KBlock' n ds _ list) =
        small_more (block_draft P K (KBlock' n ds _ list)) (nodes_weight list) (48 * length ds + nodes_weight list) (omega arith)
        (small_after (mark (own_label n) ∷ block_begin P K n ds list) (both (nodes_draft P K list) (text (block_end P K n ds list))) (nodes_weight list)
        (small_then (nodes_draft P K list) (block_end P K n ds list) (nodes_weight list) (nodes_small list)))

    pub arm_small : (a : KArm) (begin : ℕ) → IsSmall (arm_parts P K a begin) (arm_room a)
    arm_small (KArm' c b) begin =
        small_both (exp_part P K begin c) (to_end P K b (block_draft P K b)) (exp_count c) (block_weight b) (part_small P K begin c) (end_small b (block_draft P K b) (block_weight b) (block_small b))

    pub nodes_small : {n : _} (r : Row_of-KNode n) → IsSmall (nodes_draft P K r) (nodes_weight r)
    nodes_small end_of-KNode = small_nothing
    nodes_small (more_of-KNode n p s rest) =
        small_both (with_parts P K n p s (parts_draft P K s)) (nodes_draft P K rest) (48 + stmt_weight s) (nodes_weight rest) (with_parts_small n p s (parts_draft P K s) (parts_small s)) (nodes_small rest)

    arms_small : {n : _} (r : Row_of-KArm n) (begin : ℕ) → IsSmall (arms_parts P K r begin) (arms_room r)
    arms_small end_of-KArm begin = small_nothing
    arms_small (more_of-KArm a rest) begin = small_both (arm_parts P K a begin) (arms_parts P K rest (begin + 2)) (arm_room a) (arms_room rest) (arm_small a begin) (arms_small rest (begin + 2))

    blocks_small : {n : _} (r : Row_of-KBlock n) → IsSmall (blocks_parts P K r) (blocks_weight r)
    blocks_small end_of-KBlock = small_nothing
    blocks_small (more_of-KBlock b rest) =
        small_more (both (to_end P K b (block_draft P K b)) (blocks_parts P K rest)) (block_weight b + blocks_weight rest) (48 + block_weight b + blocks_weight rest) (omega arith)
        (small_both (to_end P K b (block_draft P K b)) (blocks_parts P K rest) (block_weight b) (blocks_weight rest) (end_small b (block_draft P K b) (block_weight b) (block_small b)) (blocks_small rest))

  -- ---- by the lists that the code walks

  pub one_small : (x : KNode) → IsSmall (one_draft P K x) (node_weight x)
  unfolding one_draft
  one_small x = with_parts_small x.node x.pos x.stmt (parts_draft P K x.stmt) (parts_small x.stmt)

  pub branch_small : (b : KBlock) → IsSmall (branch_draft P K b) (block_weight b)
  branch_small b = end_small b (block_draft P K b) (block_weight b) (block_small b)

  pub arms_list_small : (begin : ℕ) (arms : List KArm) → IsSmall (arm_list_draft P K begin arms) (total arm_room arms)
  arms_list_small begin [] = small_nothing
  arms_list_small begin (a ∷ more) = small_both (arm_parts P K a begin) (arm_list_draft P K (begin + 2) more) (arm_room a) (total arm_room more) (arm_small a begin) (arms_list_small (begin + 2) more)
