-- The order in which the finalizers of an aborted part run.
use Rattle.std.specs.Prelude.{◌≡◌, List, [], ◌∷◌, ◌++◌, None}
use Rattle.ceu_base.specs.declared.kinds.Pos.{Pos}
use Rattle.ceu_base.specs.declared.kinds.Mark.{Mark}
use Rattle.ceu_base.specs.declared.kinds.Mark.TheVariants.{Ran}
use Rattle.ceu_tree.specs.declared.kernel.KNode.{KNode}
use Rattle.ceu_tree.specs.Residual.{Body, Residual, InAsync, Block, Open, Loop, Call, Par, Branches, no_branch, branch, Instances, no_instance, instance}
use Rattle.ceu_tree.specs.World.{World}
use Rattle.ceu_tree.specs.Abort.{aborted}

-- the finalizers that have run, in order
abbrev pub runs : List Mark → List Pos
runs [] = []
runs (Ran p ∷ ms) = p ∷ runs ms
runs (_ ∷ ms) = runs ms

abbrev pub places : List KNode → List Pos
places [] = []
places (s ∷ ss) = s.pos ∷ places ss

-- Those that stand registered in a part, as they are to run: inner before outer, branches and instances from the last to the first, and in a block the
-- last registered first.
unfoldable mutual
  pub in_order : Residual → List Pos
  in_order (Block b fin all r rest) = in_order r ++ instances_in_order all ++ places fin
  in_order (Open s r) = in_order r
  in_order (Loop s c r) = in_order r
  in_order (Call s r) = in_order r
  in_order (Par s bs) = branches_in_order bs
  in_order (InAsync s served r) = in_order r
  in_order r = []

  pub branches_in_order : Branches → List Pos
  branches_in_order no_branch = []
  branches_in_order (branch r more) = branches_in_order more ++ in_order r

  pub instances_in_order : Instances → List Pos
  instances_in_order no_instance = []
  instances_in_order (instance seat r more) = instances_in_order more ++ in_order r

-- An abortion runs the finalizers of its part once each and in that order.
abbrev pub AbortsInOrder : Type 0
AbortsInOrder = (r : Residual) (body : Body) (w : World) → (aborted r body w).fault ≡ None → runs (aborted r body w).marks ≡ runs w.marks ++ in_order r

-- Where one of them faults, those that have run are the first of that order.
pub record Begun (w u : World) (order : List Pos) : Type 0 where
  pub first : List Pos
  pub left : List Pos
  pub order_is : order ≡ first ++ left
  pub runs_are : runs u.marks ≡ runs w.marks ++ first

abbrev pub AbortsBegun : Type 0
AbortsBegun = (r : Residual) (body : Body) (w : World) → Begun w (aborted r body w) (in_order r)
