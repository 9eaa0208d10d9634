-- Which code a kernel uses: in its awaits and spawns, and in its pools and aliases.
use Rattle.std.specs.Prelude.{⊤, ℕ, suc, ◌<◌, List, [], ◌∷◌, length}
use Rattle.ceu_tree.specs.declared.kernel.Kernel.{Kernel}
use Rattle.ceu_tree.specs.declared.kernel.KCode.{KCode}
use Rattle.ceu_tree.specs.declared.kernel.KDecl.{KDecl}
use Rattle.ceu_tree.specs.declared.kernel.KKind.{KKind}
use Rattle.ceu_tree.specs.declared.kernel.KKind.TheVariants as kind
use Rattle.ceu_tree.specs.declared.kernel.KBlock.{KBlock, KBlock', Row_of-KNode, end_of-KNode, more_of-KNode}
use Rattle.ceu_tree.specs.declared.kernel.KArm.{KArm, KArm'}
use Rattle.ceu_tree.specs.declared.kernel.KStmt.{KStmt, Row_of-KArm, end_of-KArm, more_of-KArm, Row_of-KBlock, end_of-KBlock, more_of-KBlock, AwaitCode, Spawn, Async, Finalize, Do, If', Loop, Par'}
use Rattle.laws_kernel_shape.specs.Shaped.{AllOf}

abbrev pub KindUses : ℕ → KKind → Type 0
KindUses bound (kind.Var t) = ⊤
KindUses bound (kind.Alias c) = c < bound
KindUses bound (kind.Pool n c) = c < bound

abbrev pub DeclUses : ℕ → KDecl → Type 0
DeclUses bound d = KindUses bound d.kind

-- only code with numbers below the bound is used
unfoldable mutual
  pub StmtUses : ℕ → KStmt → Type 0
  StmtUses bound (AwaitCode c es frame t) = c < bound
  StmtUses bound (Spawn c es pool alias) = c < bound
  StmtUses bound (Async b) = BlockUses bound b
  StmtUses bound (Finalize b) = BlockUses bound b
  StmtUses bound (Do t b) = BlockUses bound b
  StmtUses bound (If' _ arms last) = ArmsUse bound arms × BlockUses bound last
  StmtUses bound (Loop k b) = BlockUses bound b
  StmtUses bound (Par' k slot _ bs) = BlocksUse bound bs
  StmtUses bound _ = ⊤

  pub BlockUses : ℕ → KBlock → Type 0
  BlockUses bound (KBlock' n ds _ list) = AllOf (DeclUses bound) ds × NodesUse bound list

  pub ArmUses : ℕ → KArm → Type 0
  ArmUses bound (KArm' c b) = BlockUses bound b

  pub NodesUse : {n : _} → ℕ → Row_of-KNode n → Type 0
  NodesUse bound end_of-KNode = ⊤
  NodesUse bound (more_of-KNode n p s rest) = StmtUses bound s × NodesUse bound rest

  pub ArmsUse : {n : _} → ℕ → Row_of-KArm n → Type 0
  ArmsUse bound end_of-KArm = ⊤
  ArmsUse bound (more_of-KArm a rest) = ArmUses bound a × ArmsUse bound rest

  pub BlocksUse : {n : _} → ℕ → Row_of-KBlock n → Type 0
  BlocksUse bound end_of-KBlock = ⊤
  BlocksUse bound (more_of-KBlock b rest) = BlockUses bound b × BlocksUse bound rest

-- the codes from this number on use those above them alone
abbrev pub CodesUse : ℕ → List KCode → Type 0
CodesUse k [] = ⊤
CodesUse k (c ∷ cs) = BlockUses k c.body × CodesUse (suc k) cs

-- the program uses the kernel's codes, each code those with lower numbers
abbrev pub KernelUses : Kernel → Type 0
KernelUses K = BlockUses (length K.codes) K.body × CodesUse 0 K.codes
