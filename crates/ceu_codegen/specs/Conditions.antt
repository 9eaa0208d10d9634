-- When the code of a kernel can be put together: what each statement, expression and declaration names is there.
use Rattle.std.specs.Prelude.{◌≡◌, ℕ, ◌+◌, ◌<◌, ◌≤◌, List, [], ◌∷◌, ◌++◌, length, map, Option, Some, None}
use Rattle.ceu_tree.specs.declared.kernel.Kernel.{Kernel}
use Rattle.ceu_tree.specs.declared.kernel.KCode.{KCode}
use Rattle.ceu_tree.specs.declared.kernel.KDecl.{KDecl}
use Rattle.ceu_tree.specs.declared.kernel.KKind.{KKind}
use Rattle.ceu_tree.specs.declared.kernel.KKind.TheVariants as kind
use Rattle.ceu_tree.specs.declared.kernel.KExp.{KExp}
use Rattle.ceu_tree.specs.declared.kernel.KLoop.{KLoop}
use Rattle.ceu_tree.specs.declared.kernel.KLoop.TheVariants as turns
use Rattle.ceu_tree.specs.declared.kernel.KBlock.{KBlock, KBlock', Row_of-KNode, end_of-KNode, more_of-KNode}
use Rattle.ceu_tree.specs.declared.kernel.KArm.{KArm, KArm'}
use Rattle.ceu_tree.specs.declared.kernel.KStmt.{KStmt, Row_of-KArm, end_of-KArm, more_of-KArm, Row_of-KBlock, end_of-KBlock, more_of-KBlock, Assign, Out, Emit, AwaitTime, AwaitCode, Spawn, Async, Finalize, Do, Escape, Break, Continue, If', Loop, Par'}
use Rattle.ceu_tree.specs.Numbering.{block_nodes, codes_nodes}
use Rattle.ceu_tree.specs.Needs.{nodes_finalizers}
use Rattle.ceu_tree.specs.Weight.{weight}
use Rattle.ceu_gates.specs.declared.plan.GatePlan.{GatePlan}
use Rattle.ceu_slots.specs.Plans.{Planned}
use Rattle.ceu_shape.specs.Plans.{Plan, plan_of}
use Rattle.ceu_shape.specs.Searches.{node_of_block, body_node, kernel_pools}
use Rattle.ceu_shape.specs.Shape.{arm_block, branch_nodes, own_gates}
use Rattle.ceu_low_expr.specs.Conditions.{NamesBelow}
use Rattle.ceu_low_flow.specs.Conditions as flow
use Rattle.ceu_low_pool.specs.Conditions as on_code
use Rattle.ceu_low_par.specs.Conditions as side
use Rattle.ceu_low_par.specs.Conditions.{AreNodes}
use Rattle.ceu_codegen.specs.declared.pools.Pool.{Pool}
use Rattle.ceu_codegen.specs.Pools.{as_pool}

-- the plan of slots and gates together
abbrev pub planned : Planned → GatePlan → Plan
planned p g = plan_of p.offset p.frame p.total g.first g.count

-- What holds all the way: the plans have few slots and nodes, the pools are the kernel's.
pub record Ready (p : Planned) (g : GatePlan) (K : Kernel) (rows : List Pool) : Type 0 where
  pub weight : weight K ≤ 65535
  pub few_slots : p.slot_count < 4294967296
  pub few_nodes : length g.first ≤ 65535
  pub all_nodes : length g.first ≡ length (block_nodes K.body ++ codes_nodes K.codes)
  pub counted : length g.count ≡ length g.first
  pub few_pools : length rows ≤ 65535
  pub pools : rows ≡ map as_pool (kernel_pools K)

-- ---- statements without their parts

abbrev pub arms_nodes : {n : _} → Row_of-KArm n → List ℕ
arms_nodes end_of-KArm = []
arms_nodes (more_of-KArm a rest) = node_of_block (arm_block a) ∷ arms_nodes rest

-- the nodes of the blocks of a statement
abbrev pub part_nodes : KStmt → List ℕ
part_nodes (Async b) = node_of_block b ∷ []
part_nodes (Finalize b) = node_of_block b ∷ []
part_nodes (Do t b) = node_of_block b ∷ []
part_nodes (If' _ arms last) = arms_nodes arms ++ (node_of_block last ∷ [])
part_nodes (Loop k b) = node_of_block b ∷ []
part_nodes (Par' k slot _ bs) = branch_nodes bs
part_nodes _ = []

-- what an exit leaves is below this node
abbrev pub LeavesBelow : (nodes : ℕ) → KStmt → Type 0
LeavesBelow nodes (Escape m e) = m < nodes
LeavesBelow nodes (Break m) = m < nodes
LeavesBelow nodes (Continue m) = m < nodes
LeavesBelow nodes _ = Unit {0}

-- what a statement names itself is there, with so many slots and nodes
pub record NodeFits (slots nodes : ℕ) (K : Kernel) (n : ℕ) (s : KStmt) : Type 0 where
  pub node : n < nodes
  pub parts : AreNodes nodes (part_nodes s)
  pub left : LeavesBelow nodes s
  pub flow : flow.StmtFits slots nodes K s
  pub on_code : on_code.StmtFits slots K s
  pub side : side.StmtFits slots nodes s

-- ---- expressions

abbrev pub NamesIf : (slots : ℕ) → Option KExp → Type 0
NamesIf slots None = Unit {0}
NamesIf slots (Some e) = NamesBelow slots e

abbrev pub AllName : (slots : ℕ) → List KExp → Type 0
AllName slots [] = Unit {0}
AllName slots (e ∷ es) = NamesBelow slots e × AllName slots es

abbrev pub TurnsName : (slots : ℕ) → KLoop → Type 0
TurnsName slots (turns.Range i next end open_a a b open_b) = NamesBelow slots a × NamesBelow slots b
TurnsName slots _ = Unit {0}

-- ---- declarations

abbrev pub PoolFits : (slots nodes : ℕ) → Kernel → (slot : ℕ) → KKind → Type 0
PoolFits slots nodes K slot (kind.Pool n c) = (slot < slots) × (n ≤ 65535) × (c < length K.codes) × (body_node K c < nodes)
PoolFits slots nodes K slot _ = Unit {0}

abbrev pub PoolsFit : (slots nodes : ℕ) → Kernel → List KDecl → Type 0
PoolsFit slots nodes K [] = Unit {0}
PoolsFit slots nodes K (d ∷ ds) = PoolFits slots nodes K d.slot d.kind × PoolsFit slots nodes K ds

-- a block without its statements, of which so many are finalizers
pub record OwnFits (p : Planned) (g : GatePlan) (K : Kernel) (n : ℕ) (ds : List KDecl) (finalizers : ℕ) : Type 0 where
  pub node : n < length g.first
  pub pools : PoolsFit p.slot_count (length g.first) K ds
  pub gates : (planned p g).first n + own_gates (planned p g) K finalizers ds ≤ 65535

-- ---- all that stands in a block

module _ (p : Planned) (g : GatePlan) (K : Kernel) where
  unfoldable mutual
    pub PartsFit : KStmt → Type 0
    PartsFit (Assign l e) = NamesBelow p.slot_count e
    PartsFit (Out k e) = NamesIf p.slot_count e
    PartsFit (Emit k e) = NamesIf p.slot_count e
    PartsFit (AwaitTime e u t) = NamesBelow p.slot_count e
    PartsFit (AwaitCode c es frame t) = AllName p.slot_count es
    PartsFit (Spawn c es pool alias) = AllName p.slot_count es
    PartsFit (Async b) = BlockFits b
    PartsFit (Finalize b) = BlockFits b
    PartsFit (Do t b) = BlockFits b
    PartsFit (Escape m e) = NamesIf p.slot_count e
    PartsFit (If' _ arms last) = ArmsFit arms × BlockFits last
    PartsFit (Loop kind b) = TurnsName p.slot_count kind × BlockFits b
    PartsFit (Par' kind slot _ bs) = BlocksFit bs
    PartsFit _ = Unit {0}

    pub BlockFits : KBlock → Type 0
    BlockFits (KBlock' n ds _ list) = OwnFits p g K n ds (nodes_finalizers list) × NodesFit list

    pub ArmFits : KArm → Type 0
    ArmFits (KArm' c b) = NamesBelow p.slot_count c × BlockFits b

    pub NodesFit : {n : _} → Row_of-KNode n → Type 0
    NodesFit end_of-KNode = Unit {0}
    NodesFit (more_of-KNode n q s rest) = (NodeFits p.slot_count (length g.first) K n s × PartsFit s) × NodesFit rest

    pub ArmsFit : {n : _} → Row_of-KArm n → Type 0
    ArmsFit end_of-KArm = Unit {0}
    ArmsFit (more_of-KArm a rest) = ArmFits a × ArmsFit rest

    pub BlocksFit : {n : _} → Row_of-KBlock n → Type 0
    BlocksFit end_of-KBlock = Unit {0}
    BlocksFit (more_of-KBlock b rest) = BlockFits b × BlocksFit rest

  abbrev pub CodesFit : List KCode → Type 0
  CodesFit [] = Unit {0}
  CodesFit (c ∷ cs) = BlockFits c.body × CodesFit cs

-- the whole
pub record KernelFits (p : Planned) (g : GatePlan) (K : Kernel) : Type 0 where
  pub body : BlockFits p g K K.body
  pub codes : CodesFit p g K K.codes
