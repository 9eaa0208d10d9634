-- The variables of its own body that a kernel names: each is visible there with its type, and one that is assigned is no loop variable.
use Rattle.std.specs.Prelude.{◌≡◌, ⊤, false, not, IsTrue, List, [], ◌∷◌, ◌++◌, Option, Some, None}
use Rattle.ceu_tree.specs.declared.kernel.Kernel.{Kernel}
use Rattle.ceu_tree.specs.declared.kernel.KCode.{KCode}
use Rattle.ceu_tree.specs.declared.kernel.KDecl.{KDecl}
use Rattle.ceu_tree.specs.declared.kernel.KLoop.{KLoop}
use Rattle.ceu_tree.specs.declared.kernel.KLoop.TheVariants as turns
use Rattle.ceu_tree.specs.declared.kernel.Loc.{Loc}
use Rattle.ceu_tree.specs.declared.kernel.KExp.{KExp}
use Rattle.ceu_tree.specs.declared.kernel.KExpNode.{KExpNode, Row_of-KExp, end_of-KExp, more_of-KExp, Const, Read, Alive, One', Two', As'}
use Rattle.ceu_tree.specs.declared.kernel.KBlock.{KBlock, KBlock', Row_of-KNode, end_of-KNode, more_of-KNode}
use Rattle.ceu_tree.specs.declared.kernel.KArm.{KArm, KArm'}
use Rattle.ceu_tree.specs.declared.kernel.KStmt.{KStmt, Row_of-KArm, end_of-KArm, more_of-KArm, Row_of-KBlock, end_of-KBlock, more_of-KBlock, Assign, Out, Emit, AwaitIn, AwaitTime, AwaitEvent, AwaitCode, Spawn, Async, Finalize, Do, Escape, If', Loop, Par'}
use Rattle.ceu_tree.specs.Proper.{Seen, IsLoopVariable, find, pools_seen, pool_slots, declared_seen, variable_ty, has_ty, is_loop_variable}
use Rattle.laws_kernel_shape.specs.Shaped.{AllOf}

-- with the declarations of a block
abbrev pub seen_with : List KDecl → List Seen → List Seen
seen_with ds seen = declared_seen (pool_slots ds ++ pools_seen seen) ds seen

abbrev pub seen_inside : KLoop → List Seen → List Seen
seen_inside (turns.Range i next end open_a a b open_b) seen = record { slot = i; kind = IsLoopVariable } ∷ seen
seen_inside _ seen = seen

-- a variable that is read
abbrev pub LocSeen : List Seen → Loc → Type 0
LocSeen seen l = l.outer ≡ false → IsTrue (has_ty (variable_ty (find l.slot seen)) l.ty)

-- a variable that is assigned
abbrev pub TargetSeen : List Seen → Loc → Type 0
TargetSeen seen l = LocSeen seen l × (l.outer ≡ false → IsTrue (not (is_loop_variable (find l.slot seen))))

abbrev pub MaybeTarget : List Seen → Option Loc → Type 0
MaybeTarget seen None = ⊤
MaybeTarget seen (Some l) = TargetSeen seen l

unfoldable mutual
  pub NodeSeen : List Seen → KExpNode → Type 0
  NodeSeen seen (Const v) = ⊤
  NodeSeen seen (Read l) = LocSeen seen l
  NodeSeen seen (Alive c) = ⊤
  NodeSeen seen (One' op _ a) = OperandSeen seen a
  NodeSeen seen (Two' op _ a _ b) = OperandSeen seen a × OperandSeen seen b
  NodeSeen seen (As' _ a) = OperandSeen seen a

  pub OperandSeen : {n : _} → List Seen → Row_of-KExp n → Type 0
  OperandSeen seen end_of-KExp = ⊤
  OperandSeen seen (more_of-KExp t p e rest) = NodeSeen seen e

abbrev pub ExpSeen : List Seen → KExp → Type 0
ExpSeen seen e = NodeSeen seen e.node

abbrev pub MaybeExp : List Seen → Option KExp → Type 0
MaybeExp seen None = ⊤
MaybeExp seen (Some e) = ExpSeen seen e

abbrev pub TurnsSeen : List Seen → KLoop → Type 0
TurnsSeen seen (turns.Range i next end open_a a b open_b) = ExpSeen seen a × ExpSeen seen b
TurnsSeen seen _ = ⊤

unfoldable mutual
  pub StmtSeen : List Seen → KStmt → Type 0
  StmtSeen seen (Assign l e) = TargetSeen seen l × ExpSeen seen e
  StmtSeen seen (Out k e) = MaybeExp seen e
  StmtSeen seen (Emit k e) = MaybeExp seen e
  StmtSeen seen (AwaitIn k t) = MaybeTarget seen t
  StmtSeen seen (AwaitTime e u t) = ExpSeen seen e × MaybeTarget seen t
  StmtSeen seen (AwaitEvent e t) = MaybeTarget seen t
  StmtSeen seen (AwaitCode c es frame t) = AllOf (ExpSeen seen) es × MaybeTarget seen t
  StmtSeen seen (Spawn c es pool alias) = AllOf (ExpSeen seen) es
  StmtSeen seen (Async b) = BlockSeen seen b
  StmtSeen seen (Finalize b) = BlockSeen seen b
  StmtSeen seen (Do t b) = MaybeTarget seen t × BlockSeen seen b
  StmtSeen seen (Escape m e) = MaybeExp seen e
  StmtSeen seen (If' _ arms last) = ArmsSeen seen arms × BlockSeen seen last
  StmtSeen seen (Loop k b) = TurnsSeen seen k × BlockSeen (seen_inside k seen) b
  StmtSeen seen (Par' k slot _ bs) = BlocksSeen seen bs
  StmtSeen seen _ = ⊤

  pub BlockSeen : List Seen → KBlock → Type 0
  BlockSeen seen (KBlock' n ds _ list) = NodesSeen (seen_with ds seen) list

  pub ArmSeen : List Seen → KArm → Type 0
  ArmSeen seen (KArm' c b) = ExpSeen seen c × BlockSeen seen b

  pub NodesSeen : {n : _} → List Seen → Row_of-KNode n → Type 0
  NodesSeen seen end_of-KNode = ⊤
  NodesSeen seen (more_of-KNode n p s rest) = StmtSeen seen s × NodesSeen seen rest

  pub ArmsSeen : {n : _} → List Seen → Row_of-KArm n → Type 0
  ArmsSeen seen end_of-KArm = ⊤
  ArmsSeen seen (more_of-KArm a rest) = ArmSeen seen a × ArmsSeen seen rest

  pub BlocksSeen : {n : _} → List Seen → Row_of-KBlock n → Type 0
  BlocksSeen seen end_of-KBlock = ⊤
  BlocksSeen seen (more_of-KBlock b rest) = BlockSeen seen b × BlocksSeen seen rest

-- in a code's body its parameters are visible
abbrev pub CodeSeen : KCode → Type 0
CodeSeen c = BlockSeen (seen_with c.params []) c.body

abbrev pub KernelSeen : Kernel → Type 0
KernelSeen K = BlockSeen [] K.body × AllOf CodeSeen K.codes
