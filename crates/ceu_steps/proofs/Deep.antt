-- The image has cells enough for each expression of a part that is reached.
use Rattle.std.proofs.Common.{◌≡◌, sym, ◌∙◌, subst, ◌<◌, ◌≤◌, inl, inr, ℕ, List, [], ◌∷◌, ◌++◌, arith}
use Rattle.ceu_tree.specs.declared.kernel.Kernel.{Kernel}
use Rattle.ceu_tree.specs.declared.kernel.KArm.{KArm', out-KArm}
use Rattle.ceu_tree.specs.declared.kernel.KNode.{KNode}
use Rattle.ceu_tree.specs.declared.kernel.KLoop.{KLoop}
use Rattle.ceu_tree.specs.declared.kernel.KBlock.{KBlock, KBlock', out-KBlock, Row_of-KNode, end_of-KNode, more_of-KNode, items-the_row-KNode, items_shown-the_row-KNode-2}
use Rattle.ceu_tree.specs.declared.kernel.KStmt.{KStmt, out-KStmt, Row_of-KArm, end_of-KArm, more_of-KArm, items-the_row-KArm, items_shown-the_row-KArm-0, Do, If', Loop}
use Rattle.ceu_tree.specs.Depth.{stmt_depth, block_depth, nodes_depth, arms_depth, depth}
use Rattle.ceu_tree.specs.Focus.{Frame}
use Rattle.laws_meaning_basics.specs.Shape.{Part, ABlock, AStatement, AnEnd, opens_part, among_arms}
use Rattle.ceu_steps.specs.Reached.{Reached, at_program, at_statement, at_end, in_part, in_turn}
use Rattle.ceu_steps.proofs.Together.{loop_is}
use denote.Hole.Carrier

abbrev each_below : (top : ℕ) → List KNode → Type 0
each_below top [] = Unit {0}
each_below top (s ∷ ss) = (stmt_depth s.stmt ≤ top) × each_below top ss

row_below : {n : _} (top : ℕ) (rows : Row_of-KNode n) → nodes_depth rows ≤ top → each_below top (items-the_row-KNode n rows)
unfolding nodes_depth
row_below top end_of-KNode h = tt
row_below top (more_of-KNode n p s rest) h = (omega (arith, h), row_below top rest (omega (arith, h)))

below_at : (top : ℕ) (done rest : List KNode) (s : KNode) → each_below top (done ++ s ∷ rest) → stmt_depth s.stmt ≤ top
below_at top [] rest s h = h.0
below_at top (q ∷ done) rest s h = below_at top done rest s h.1

statement_below : (top : ℕ) (b : KBlock) (done rest : List KNode) (s : KNode) → (out-KBlock b).list ≡ done ++ s ∷ rest → block_depth b ≤ top → stmt_depth s.stmt ≤ top
unfolding block_depth out-KBlock Carrier.out
statement_below top (KBlock' n ds k list) done rest s e h = below_at top done rest s (subst (each_below top) (sym (items_shown-the_row-KNode-2 k list) ∙ e) (row_below top list h))

arm_below : {n : _} (top : ℕ) (rows : Row_of-KArm n) (b : KBlock) → among_arms (items-the_row-KArm n rows) b → arms_depth rows ≤ top → block_depth b ≤ top
unfolding arms_depth out-KArm Carrier.out
arm_below top end_of-KArm b o h = elim o [ ]
arm_below top (more_of-KArm (KArm' c q) rest) b (inl e) h = subst (λ (z : KBlock). block_depth z ≤ top) e (omega (arith, h))
arm_below top (more_of-KArm (KArm' c q) rest) b (inr o) h = arm_below top rest b o (omega (arith, h))

part_below : (top : ℕ) (st : KStmt) (b : KBlock) → opens_part (out-KStmt st) b → stmt_depth st ≤ top → block_depth b ≤ top
unfolding stmt_depth out-KStmt Carrier.out
part_below top (Do t c) b o h = subst (λ (z : KBlock). block_depth z ≤ top) o h
part_below top (If' k arms last) b (inl o) h = arm_below top arms b (subst (λ l. among_arms l b) (items_shown-the_row-KArm-0 k arms) o) (omega (arith, h))
part_below top (If' k arms last) b (inr e) h = subst (λ (z : KBlock). block_depth z ≤ top) e (omega (arith, h))
part_below top st b o h = elim o [ ]

turn_below : (top : ℕ) (k : KLoop) (b : KBlock) → stmt_depth (Loop k b) ≤ top → block_depth b ≤ top
unfolding stmt_depth
turn_below top k b h = omega (arith, h)

abbrev pub Below : (top : ℕ) → Part → Type 0
Below top (ABlock turn sc b) = block_depth b ≤ top
Below top (AStatement sc s) = stmt_depth s.stmt ≤ top
Below top AnEnd = Unit {0}

program_below : (K : Kernel) → block_depth K.body ≤ depth K
unfolding depth
program_below K = omega arith

pub below_of : {K : Kernel} {outer : List Frame} {d : Part} → Reached K outer d → Below (depth K) d
below_of {K} at_program = program_below K
below_of {K} (at_statement {b = b} {s = s} {rest = rest} done x e pl) = statement_below (depth K) b done rest s e (below_of x)
below_of (at_end x pl) = tt
below_of {K} (in_part {s = s} b x o) = part_below (depth K) s.stmt b o (below_of x)
below_of {K} (in_turn {s = s} k b x e n) = turn_below (depth K) k b (subst (λ (st : KStmt). stmt_depth st ≤ depth K) (loop_is s.stmt k b e) (below_of x))

pub some_cell : (K : Kernel) → 0 < depth K
unfolding depth
some_cell K = omega arith
