-- Bodies that use only codes with numbers below one, outside asyncs and finalizers (this project's own).
use Rattle.std.specs.Prelude.{ℕ, ◌<◌, List, [], ◌∷◌}
use Rattle.ceu_tree.specs.declared.kernel.KDecl.{KDecl}
use Rattle.ceu_tree.specs.declared.kernel.KKind.{KKind}
use Rattle.ceu_tree.specs.declared.kernel.KKind.TheVariants as kind
use Rattle.ceu_tree.specs.declared.kernel.KBlock.{KBlock, KBlock', Row_of-KNode, end_of-KNode, more_of-KNode}
use Rattle.ceu_tree.specs.declared.kernel.KArm.{KArm, KArm'}
use Rattle.ceu_tree.specs.declared.kernel.KStmt.{KStmt, Row_of-KArm, end_of-KArm, more_of-KArm, Row_of-KBlock, end_of-KBlock, more_of-KBlock, AwaitCode, Spawn, Do, If', Loop, Par'}

-- a pool holds instances of a code
abbrev pub kind_below : ℕ → KKind → Type 0
kind_below k (kind.Var t) = Unit {0}
kind_below k (kind.Alias c) = Unit {0}
kind_below k (kind.Pool n c) = c < k

abbrev pub decls_below : ℕ → List KDecl → Type 0
decls_below k [] = Unit {0}
decls_below k (d ∷ ds) = kind_below k d.kind × decls_below k ds

unfoldable mutual
  pub stmt_below : ℕ → KStmt → Type 0
  stmt_below k (AwaitCode c es f t) = c < k
  stmt_below k (Spawn c es p a) = c < k
  stmt_below k (Do t b) = block_below k b
  stmt_below k (If' _ arms last) = arms_below k arms × block_below k last
  stmt_below k (Par' par slot _ bs) = blocks_below k bs
  stmt_below k (Loop turns b) = block_below k b
  stmt_below k _ = Unit {0}

  pub block_below : ℕ → KBlock → Type 0
  block_below k (KBlock' n ds _ list) = decls_below k ds × nodes_below k list

  pub arm_below : ℕ → KArm → Type 0
  arm_below k (KArm' c b) = block_below k b

  pub nodes_below : {n : _} → ℕ → Row_of-KNode n → Type 0
  nodes_below k end_of-KNode = Unit {0}
  nodes_below k (more_of-KNode n p s rest) = stmt_below k s × nodes_below k rest

  pub arms_below : {n : _} → ℕ → Row_of-KArm n → Type 0
  arms_below k end_of-KArm = Unit {0}
  arms_below k (more_of-KArm a rest) = arm_below k a × arms_below k rest

  pub blocks_below : {n : _} → ℕ → Row_of-KBlock n → Type 0
  blocks_below k end_of-KBlock = Unit {0}
  blocks_below k (more_of-KBlock b rest) = block_below k b × blocks_below k rest
