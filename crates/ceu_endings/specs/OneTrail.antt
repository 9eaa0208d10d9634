-- Trees and turns of one trail (this project's own): under open blocks, do, if and loops there is one leaf, and no block has a registered finalizer or an
-- instance. Where a program waits, its leaf waits too.
use Rattle.std.specs.Prelude.{◌≡◌, ◌<◌, ℕ, suc, []}
use Rattle.ceu_tree.specs.Residual.{Act, Residual, Run, WaitInput, WaitTime, WaitForever, Block, Open, Loop, no_instance}
use Rattle.ceu_tree.specs.Focus.{Frame, OfBlock, OfOpen, OfLoop, Focus, Here, In}
use Rattle.ceu_tree.specs.Run.{Config, Turning, Between, Waiting, Ended, Faulted}

-- a leaf that can run has a level below `top`
unfoldable pub OneLeaf : (top : ℕ) → Residual → Type 0
OneLeaf top (Block b fin all r rest) = (fin ≡ []) × (all ≡ no_instance) × OneLeaf top r
OneLeaf top (Open s r) = OneLeaf top r
OneLeaf top (Loop s c r) = OneLeaf top r
OneLeaf top (Run n a) = n < top
OneLeaf top (WaitInput k s) = Unit {0}
OneLeaf top (WaitTime d s) = Unit {0}
OneLeaf top (WaitForever s) = Unit {0}
OneLeaf top r = ⊥

abbrev pub PlainFrame : Frame → Type 0
PlainFrame (OfBlock b fin all rest) = (fin ≡ []) × (all ≡ no_instance)
PlainFrame (OfOpen s) = Unit {0}
PlainFrame (OfLoop s c) = Unit {0}
PlainFrame fr = ⊥

unfoldable pub PlainFocus : Focus Act → Type 0
PlainFocus (Here a) = Unit {0}
PlainFocus (In fr f) = PlainFrame fr × PlainFocus f

abbrev pub OneTrail : Config → Type 0
OneTrail (Turning n f w) = PlainFocus f
OneTrail (Between n r w) = OneLeaf (suc n) r
OneTrail (Waiting r w) = OneLeaf 0 r
OneTrail (Ended v w) = Unit {0}
OneTrail (Faulted e w) = Unit {0}
