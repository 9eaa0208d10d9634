-- Programs of one trail (this project's own): no code, no par, no async, no finalizer, no event but inputs and outputs. Their trail waits for inputs,
-- for times and for ever.
use Rattle.std.specs.Prelude.{Bool, true, false, ◌&&◌, List, [], IsTrue}
use Rattle.std.specs.List.{list_all}
use Rattle.ceu_tree.specs.declared.kernel.Kernel.{Kernel}
use Rattle.ceu_tree.specs.declared.kernel.KCode.{KCode}
use Rattle.ceu_tree.specs.declared.kernel.KDecl.{KDecl}
use Rattle.ceu_tree.specs.declared.kernel.KKind.{KKind}
use Rattle.ceu_tree.specs.declared.kernel.KKind.TheVariants as kind
use Rattle.ceu_tree.specs.declared.kernel.KBlock.{KBlock, KBlock', Row_of-KNode, end_of-KNode, more_of-KNode}
use Rattle.ceu_tree.specs.declared.kernel.KArm.{KArm, KArm'}
use Rattle.ceu_tree.specs.declared.kernel.KStmt.{KStmt, Row_of-KArm, end_of-KArm, more_of-KArm, Nothing, Assign, Out, AwaitIn, AwaitTime, Forever, Do, Escape, Break, Continue, If', Loop}

abbrev pub is_variable : KKind → Bool
is_variable (kind.Var t) = true
is_variable k = false

abbrev pub is_variable_decl : KDecl → Bool
is_variable_decl d = is_variable d.kind

unfoldable mutual
  pub stmt_single : KStmt → Bool
  stmt_single Nothing = true
  stmt_single (Assign l e) = true
  stmt_single (Out k e) = true
  stmt_single (AwaitIn k t) = true
  stmt_single (AwaitTime e u t) = true
  stmt_single Forever = true
  stmt_single (Do t b) = block_single b
  stmt_single (Escape n e) = true
  stmt_single (Break n) = true
  stmt_single (Continue n) = true
  stmt_single (If' _ arms last) = arms_single arms && block_single last
  stmt_single (Loop k b) = block_single b
  stmt_single _ = false

  pub block_single : KBlock → Bool
  block_single (KBlock' n ds _ list) = list_all is_variable_decl ds && nodes_single list

  pub arm_single : KArm → Bool
  arm_single (KArm' c b) = block_single b

  pub nodes_single : {n : _} → Row_of-KNode n → Bool
  nodes_single end_of-KNode = true
  nodes_single (more_of-KNode n p s rest) = stmt_single s && nodes_single rest

  pub arms_single : {n : _} → Row_of-KArm n → Bool
  arms_single end_of-KArm = true
  arms_single (more_of-KArm a rest) = arm_single a && arms_single rest

abbrev pub has_no_code : List KCode → Bool
has_no_code [] = true
has_no_code codes = false

abbrev pub is_single : Kernel → Bool
is_single K = has_no_code K.codes && block_single K.body

-- the kernel of a program of one trail
abbrev pub Single : Kernel → Type 0
Single K = IsTrue (is_single K)
