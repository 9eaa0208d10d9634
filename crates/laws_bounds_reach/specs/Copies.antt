-- How many open bodies of each code a tree has, and what the instances of a block weigh together (this project's own).
--
-- A body of code is open where a statement awaits the code, and where an instance of it lives. Inside an async none is.
use Rattle.std.specs.Prelude.{ℕ, ◌+◌, if◌then◌else◌, ◌==◌, List, [], ◌∷◌}
use Rattle.ceu_tree.specs.declared.kernel.KDecl.{KDecl}
use Rattle.ceu_tree.specs.declared.kernel.KKind.TheVariants as kind
use Rattle.ceu_tree.specs.declared.kernel.KStmt.{out-KStmt}
use Rattle.ceu_tree.specs.declared.kernel.KStmt.TheOpen.{KStmt-F}
use Rattle.ceu_tree.specs.Residual.{Residual, Block, Open, Loop, Call, Par, Branches, no_branch, branch, Instances, no_instance, instance}
use Rattle.ceu_tree.specs.Leaf.{Layer}
use Rattle.ceu_tree.specs.Costs.{Cost, nothing, plus, times}

-- ---- open bodies of the code k

abbrev pub one_of : (k c : ℕ) → ℕ
one_of k c = if c == k then 1 else 0

abbrev pub awaits : ℕ → Layer → ℕ
awaits k (KStmt-F.AwaitCode c es f t) = one_of k c
awaits k layer = 0

unfoldable mutual
  pub copies : ℕ → Residual → ℕ
  copies k (Block b fin all r rest) = copies_of_instances k all + copies k r
  copies k (Open s r) = copies k r
  copies k (Loop s c r) = copies k r
  copies k (Call s r) = awaits k (out-KStmt s.stmt) + copies k r
  copies k (Par s bs) = copies_of_branches k bs
  copies k r = 0

  pub copies_of_branches : ℕ → Branches → ℕ
  copies_of_branches k no_branch = 0
  copies_of_branches k (branch r more) = copies k r + copies_of_branches k more

  pub copies_of_instances : ℕ → Instances → ℕ
  copies_of_instances k no_instance = 0
  copies_of_instances k (instance seat r more) = one_of k seat.code + (copies k r + copies_of_instances k more)

-- ---- weights by code: of the instances of a block, and of its pools where each is full

abbrev pub weigh_instances : (ℕ → Cost) → Instances → Cost
weigh_instances weigh no_instance = nothing
weigh_instances weigh (instance seat r more) = plus (weigh seat.code) (weigh_instances weigh more)

abbrev pub weigh_pools : (ℕ → Cost) → List KDecl → Cost
weigh_pools weigh [] = nothing
weigh_pools weigh (d ∷ ds) = elim d.kind [ kind.Var t ↦ weigh_pools weigh ds | kind.Alias c ↦ weigh_pools weigh ds | kind.Pool n c ↦ plus (times n (weigh c)) (weigh_pools weigh ds) ]
