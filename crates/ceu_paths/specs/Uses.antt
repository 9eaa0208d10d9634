-- The uses of code that a body holds, in pre-order, outside asyncs and finalizers: an await uses the code once, a pool once for each of
-- its places (this project's own).
use Rattle.std.specs.Prelude.{ℕ, List, [], ◌∷◌, ◌++◌}
use Rattle.ceu_tree.specs.declared.kernel.KDecl.{KDecl}
use Rattle.ceu_tree.specs.declared.kernel.KKind.{KKind}
use Rattle.ceu_tree.specs.declared.kernel.KKind.TheVariants as kind
use Rattle.ceu_tree.specs.declared.kernel.KNode.{KNode}
use Rattle.ceu_tree.specs.declared.kernel.KBlock.{KBlock, KBlock', Row_of-KNode, end_of-KNode, more_of-KNode}
use Rattle.ceu_tree.specs.declared.kernel.KArm.{KArm, KArm'}
use Rattle.ceu_tree.specs.declared.kernel.KStmt.{KStmt, Row_of-KArm, end_of-KArm, more_of-KArm, Row_of-KBlock, end_of-KBlock, more_of-KBlock, AwaitCode, Do, If', Loop, Par'}
use Rattle.ceu_paths.specs.Joined.{joined}
use Rattle.ceu_paths.specs.declared.uses.CodeUse.{CodeUse}

abbrev pub code_use : ℕ → ℕ → CodeUse
code_use c n = record { code = c; times = n }

abbrev pub kind_uses : KKind → List CodeUse
kind_uses (kind.Var t) = []
kind_uses (kind.Alias c) = []
kind_uses (kind.Pool n c) = code_use c n ∷ []

abbrev pub decl_uses : KDecl → List CodeUse
decl_uses d = kind_uses d.kind

unfoldable mutual
  pub uses : KStmt → List CodeUse
  uses (AwaitCode c es f t) = code_use c 1 ∷ []
  uses (Do t b) = block_uses b
  uses (If' _ arms last) = arms_uses arms ++ block_uses last
  uses (Par' k slot _ bs) = blocks_uses bs
  uses (Loop k b) = block_uses b
  uses _ = []

  pub block_uses : KBlock → List CodeUse
  block_uses (KBlock' n ds _ list) = joined decl_uses ds ++ nodes_uses list

  pub arm_uses : KArm → List CodeUse
  arm_uses (KArm' c b) = block_uses b

  pub nodes_uses : {n : _} → Row_of-KNode n → List CodeUse
  nodes_uses end_of-KNode = []
  nodes_uses (more_of-KNode n p s rest) = uses s ++ nodes_uses rest

  pub arms_uses : {n : _} → Row_of-KArm n → List CodeUse
  arms_uses end_of-KArm = []
  arms_uses (more_of-KArm a rest) = arm_uses a ++ arms_uses rest

  pub blocks_uses : {n : _} → Row_of-KBlock n → List CodeUse
  blocks_uses end_of-KBlock = []
  blocks_uses (more_of-KBlock b rest) = block_uses b ++ blocks_uses rest

abbrev pub node_uses : KNode → List CodeUse
node_uses n = uses n.stmt
