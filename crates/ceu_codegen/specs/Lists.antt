-- The definitions of the code of a kernel over the lists that the code walks.
use Rattle.std.specs.Prelude.{ℕ, suc, zero, ◌+◌, List, [], ◌∷◌, ◌++◌, length}
use Rattle.ceu_tree.specs.declared.kernel.Kernel.{Kernel}
use Rattle.ceu_tree.specs.declared.kernel.KDecl.{KDecl}
use Rattle.ceu_tree.specs.declared.kernel.KNode.{KNode}
use Rattle.ceu_tree.specs.declared.kernel.KArm.{KArm}
use Rattle.ceu_tree.specs.declared.kernel.KBlock.{KBlock, out-KBlock}
use Rattle.ceu_tree.specs.Greatest.{total}
use Rattle.ceu_tree.specs.Needs.{node_finalizers}
use Rattle.ceu_code.specs.declared.instr.Instr.TheVariants as instr
use Rattle.ceu_asm.specs.declared.line.Line.{Line}
use Rattle.ceu_gates.specs.declared.plan.GatePlan.{GatePlan}
use Rattle.ceu_slots.specs.Plans.{Planned}
use Rattle.ceu_shape.specs.Plans.{Plan, own_label}
use Rattle.ceu_shape.specs.Pieces.{Draft, both, nothing}
use Rattle.ceu_shape.specs.Words.{mark, plain}
use Rattle.ceu_shape.specs.Searches.{node_of_block}
use Rattle.ceu_shape.specs.Shape.{block_labels, arm_block, with_parts, parts_draft, block_draft, arm_parts, to_end, own_gates, pool_lines, abort_own}
use Rattle.ceu_codegen.specs.Conditions.{OwnFits, NodeFits, PartsFit, ArmFits, BlockFits}

-- ---- labels

abbrev pub arm_list_labels : (fresh : ℕ) → List KArm → List ℕ
arm_list_labels fresh [] = []
arm_list_labels fresh (a ∷ more) = fresh ∷ (fresh + 1) ∷ (block_labels (arm_block a) ++ arm_list_labels (fresh + 2) more)

abbrev pub block_list_labels : List KBlock → List ℕ
block_list_labels [] = []
block_list_labels (b ∷ bs) = block_labels b ++ block_list_labels bs

-- the nodes of the bodies of the arms
abbrev pub nodes_of_arms : List KArm → List ℕ
nodes_of_arms [] = []
nodes_of_arms (a ∷ more) = node_of_block (arm_block a) ∷ nodes_of_arms more

-- ---- drafts

module _ (P : Plan) (K : Kernel) where
  unfoldable pub one_draft : KNode → Draft
  one_draft x = with_parts P K x.node x.pos x.stmt (parts_draft P K x.stmt)

  abbrev pub node_list_draft : List KNode → Draft
  node_list_draft [] = nothing
  node_list_draft (x ∷ xs) = both (one_draft x) (node_list_draft xs)

  abbrev pub arm_list_draft : (begin : ℕ) → List KArm → Draft
  arm_list_draft begin [] = nothing
  arm_list_draft begin (a ∷ more) = both (arm_parts P K a begin) (arm_list_draft (begin + 2) more)

  abbrev pub branch_draft : KBlock → Draft
  branch_draft b = to_end P K b (block_draft P K b)

  abbrev pub block_list_draft : List KBlock → Draft
  block_list_draft [] = nothing
  block_list_draft (b ∷ bs) = both (branch_draft b) (block_list_draft bs)

  abbrev pub move_list : (node gates : ℕ) → List KNode → List Line
  move_list n zero list = []
  move_list n (suc g) [] = []
  move_list n (suc g) (x ∷ xs) = plain (instr.Move (P.first n + suc g)) ∷ []

  -- what stands around a block's statements
  abbrev pub begin_list : (node : ℕ) → List KDecl → List KNode → List Line
  begin_list n ds list = (mark (own_label n) ∷ []) ++ (move_list n (own_gates P K (total node_finalizers list) ds) list ++ pool_lines P K (P.first n + total node_finalizers list) ds)

  abbrev pub end_list : (node : ℕ) → List KDecl → List KNode → List Line
  end_list n ds list = abort_own P K n (own_gates P K (total node_finalizers list) ds)

  -- of a block
  abbrev pub begin_of_block : KBlock → List Line
  begin_of_block b = begin_list (out-KBlock b).node (out-KBlock b).decls (out-KBlock b).list

  abbrev pub end_of_block : KBlock → List Line
  end_of_block b = end_list (out-KBlock b).node (out-KBlock b).decls (out-KBlock b).list

-- ---- conditions

module _ (p : Planned) (g : GatePlan) (K : Kernel) where
  -- a block without its statements
  abbrev pub BlockOwnFits : KBlock → Type 0
  BlockOwnFits b = OwnFits p g K (out-KBlock b).node (out-KBlock b).decls (total node_finalizers (out-KBlock b).list)

  abbrev pub NodeListFits : List KNode → Type 0
  NodeListFits [] = Unit {0}
  NodeListFits (x ∷ xs) = (NodeFits p.slot_count (length g.first) K x.node x.stmt × PartsFit p g K x.stmt) × NodeListFits xs

  abbrev pub ArmListFits : List KArm → Type 0
  ArmListFits [] = Unit {0}
  ArmListFits (a ∷ more) = ArmFits p g K a × ArmListFits more

  abbrev pub BlockListFits : List KBlock → Type 0
  BlockListFits [] = Unit {0}
  BlockListFits (b ∷ bs) = BlockFits p g K b × BlockListFits bs
