-- Trees with which a reaction begins, and blocks in which nothing was spawned (this project's own).
use Rattle.std.specs.Prelude.{◌≡◌, Bool, true, false, ◌||◌}
use Rattle.ceu_tree.specs.declared.kernel.KBlock.{KBlock}
use Rattle.ceu_tree.specs.declared.kernel.KStmt.{out-KStmt}
use Rattle.ceu_tree.specs.declared.kernel.KStmt.TheOpen.{KStmt-F}
use Rattle.ceu_tree.specs.Residual.{Act, Finish, Residual, Run, Block, Open, Loop, Call, Par, Branches, no_branch, branch, Instances, no_instance, instance}
use Rattle.ceu_tree.specs.Focus.{Frame, OfBlock, OfInstance, OfOpen, OfLoop, OfCall, OfPar, Focus, Here, In}
use Rattle.ceu_tree.specs.Leaf.{Layer}
use Rattle.ceu_tree.specs.Costs.{calm_block, paced_body}
use Rattle.ceu_tree.specs.Run.{Config, Turning, Between, Waiting, Ended, Faulted}
use Rattle.laws_bounds_steps.specs.Pays.{is_paced}

-- ---- each leaf waits, or has waited for an input or a time, or for the end of its async

abbrev pub is_outside : Layer → Bool
is_outside (KStmt-F.AwaitIn k t) = true
is_outside (KStmt-F.AwaitTime e u t) = true
is_outside (KStmt-F.Async b) = true
is_outside layer = false

abbrev pub has_waited : Act → Type 0
has_waited (Finish s v) = is_outside (out-KStmt s.stmt) ≡ true
has_waited a = ⊥

unfoldable mutual
  pub begins_reaction : Residual → Type 0
  begins_reaction (Run n a) = has_waited a
  begins_reaction (Block b fin all r rest) = all_begin all × begins_reaction r
  begins_reaction (Open s r) = begins_reaction r
  begins_reaction (Loop s c r) = begins_reaction r
  begins_reaction (Call s r) = begins_reaction r
  begins_reaction (Par s bs) = each_begins bs
  begins_reaction r = Unit {0}

  pub each_begins : Branches → Type 0
  each_begins no_branch = Unit {0}
  each_begins (branch r more) = begins_reaction r × each_begins more

  pub all_begin : Instances → Type 0
  all_begin no_instance = Unit {0}
  all_begin (instance seat r more) = begins_reaction r × all_begin more

-- ---- a block none of whose statements spawns has no instance

-- its statements are calm, or those behind an await that may pace a loop are
abbrev pub spawns_nothing : KBlock → Bool
spawns_nothing b = calm_block b || is_paced (paced_body b)

abbrev pub BlockBare : KBlock → Instances → Type 0
BlockBare b all = spawns_nothing b ≡ true → all ≡ no_instance

-- so it is in every block of a tree, outside asyncs
unfoldable mutual
  pub pools_bare : Residual → Type 0
  pools_bare (Block b fin all r rest) = BlockBare b all × all_bare all × pools_bare r
  pools_bare (Open s r) = pools_bare r
  pools_bare (Loop s c r) = pools_bare r
  pools_bare (Call s r) = pools_bare r
  pools_bare (Par s bs) = each_bare bs
  pools_bare r = Unit {0}

  pub each_bare : Branches → Type 0
  each_bare no_branch = Unit {0}
  each_bare (branch r more) = pools_bare r × each_bare more

  pub all_bare : Instances → Type 0
  all_bare no_instance = Unit {0}
  all_bare (instance seat r more) = pools_bare r × all_bare more

-- ---- in a turn that is on

abbrev pub frame_bare : Frame → Type 0
frame_bare (OfBlock b fin all rest) = BlockBare b all × all_bare all
frame_bare (OfInstance b fin front seat back r rest) = (spawns_nothing b ≡ false) × all_bare front × all_bare back × pools_bare r
frame_bare (OfOpen s) = Unit {0}
frame_bare (OfLoop s c) = Unit {0}
frame_bare (OfCall s) = Unit {0}
frame_bare (OfPar s front back) = each_bare front × each_bare back

unfoldable pub focus_bare : {A : Type 0} → Focus A → Type 0
focus_bare (Here a) = Unit {0}
focus_bare (In fr f) = frame_bare fr × focus_bare f

abbrev pub ConfigBare : Config → Type 0
ConfigBare (Turning n f w) = focus_bare f
ConfigBare (Between n r w) = pools_bare r
ConfigBare (Waiting r w) = pools_bare r
ConfigBare (Ended v w) = Unit {0}
ConfigBare (Faulted e w) = Unit {0}
