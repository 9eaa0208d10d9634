-- Trails that go on with values of the types that their targets take (this project's own).
use Rattle.std.specs.Prelude.{◌≡◌, ℤ, Option, Some, None}
use Rattle.ceu_base.specs.declared.kinds.Ty.{Ty}
use Rattle.ceu_base.specs.declared.kinds.Ty.TheVariants as ty
use Rattle.ceu_base.specs.Values.{IsValue}
use Rattle.ceu_tree.specs.declared.kernel.Kernel.{Kernel}
use Rattle.ceu_tree.specs.declared.kernel.KEvent.{KEvent}
use Rattle.ceu_tree.specs.declared.kernel.Loc.{Loc}
use Rattle.ceu_tree.specs.declared.kernel.KNode.{KNode}
use Rattle.ceu_tree.specs.Residual.{Act, Finish, Residual, Run, WaitInput, WaitTime, WaitEvent, InAsync, Block, Open, Loop, Call, Par, Branches, no_branch, branch, Instances, no_instance, instance}
use Rattle.ceu_tree.specs.Focus.{Frame, OfBlock, OfInstance, OfOpen, OfLoop, OfCall, OfPar, Focus, Here, In}
use Rattle.ceu_tree.specs.Leaf.{target}
use Rattle.ceu_tree.specs.Proper.{port_ty, event_at}

-- a value that a target may be set to: any where there is none
abbrev pub takes_value : Option Loc → ℤ → Type 0
takes_value None v = Unit {0}
takes_value (Some l) v = IsValue l.ty v

-- a statement whose target takes each value of that type
abbrev pub takes_all : KNode → Ty → Type 0
takes_all s t = (v : ℤ) → IsValue t v → takes_value (target s) v

abbrev pub act_ready : Act → Type 0
act_ready (Finish s v) = takes_value (target s) v
act_ready a = Unit {0}

-- what goes on has such a value, and what waits takes what it may be woken with: a value of the input or of the event, or a delay
module _ (K : Kernel) where
  unfoldable mutual
    pub tree_ready : Residual → Type 0
    tree_ready (Run n a) = act_ready a
    tree_ready (WaitInput k s) = (t : Ty) × (port_ty K k K.inputs ≡ Some t) × takes_all s t
    tree_ready (WaitTime d s) = takes_all s ty.S32
    tree_ready (WaitEvent e s) = (x : KEvent) × (event_at K e K.events ≡ Some x) × takes_all s x.ty
    tree_ready (InAsync s served r) = tree_ready r
    tree_ready (Block b fin all r rest) = all_ready all × tree_ready r
    tree_ready (Open s r) = tree_ready r
    tree_ready (Loop s c r) = tree_ready r
    tree_ready (Call s r) = tree_ready r
    tree_ready (Par s bs) = each_ready bs
    tree_ready r = Unit {0}

    pub each_ready : Branches → Type 0
    each_ready no_branch = Unit {0}
    each_ready (branch r more) = tree_ready r × each_ready more

    pub all_ready : Instances → Type 0
    all_ready no_instance = Unit {0}
    all_ready (instance seat r more) = tree_ready r × all_ready more

  -- the parts around a leaf
  abbrev pub frame_ready : Frame → Type 0
  frame_ready (OfBlock b fin all rest) = all_ready all
  frame_ready (OfInstance b fin front seat back r rest) = all_ready front × all_ready back × tree_ready r
  frame_ready (OfOpen s) = Unit {0}
  frame_ready (OfLoop s c) = Unit {0}
  frame_ready (OfCall s) = Unit {0}
  frame_ready (OfPar s front back) = each_ready front × each_ready back

  unfoldable pub frames_ready : {A : Type 0} → Focus A → Type 0
  frames_ready (Here a) = Unit {0}
  frames_ready (In fr f) = frame_ready fr × frames_ready f
