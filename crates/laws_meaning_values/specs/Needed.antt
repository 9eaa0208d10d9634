-- Programs without code: which slots of the program need a value in a configuration.
--
-- A block needs those of its declarations that the statements before the one where it stands set, and the target of an await at its head once that is
-- behind it; a loop over a range needs its variable in its turns.
use Rattle.std.specs.Prelude.{◌≡◌, ℕ, Bool, true, false, not, ◌==◌, ◌&&◌, ◌||◌, List, [], ◌∷◌}
use Rattle.ceu_tree.specs.declared.kernel.KLoop.{KLoop}
use Rattle.ceu_tree.specs.declared.kernel.KLoop.TheVariants as turns
use Rattle.ceu_tree.specs.declared.kernel.KNode.{KNode}
use Rattle.ceu_tree.specs.declared.kernel.KBlock.{KBlock, out-KBlock}
use Rattle.ceu_tree.specs.declared.kernel.KStmt.{out-KStmt}
use Rattle.ceu_tree.specs.declared.kernel.KStmt.TheOpen.{KStmt-F}
use Rattle.ceu_tree.specs.Residual.{Program, Act, AtHead, Residual, InAsync, Block, Open, Loop, Call, Par, Branches, no_branch, branch}
use Rattle.ceu_tree.specs.Focus.{Frame, OfBlock, OfLoop, OfPar, Focus, Here, In}
use Rattle.ceu_tree.specs.Leaf.{Layer}
use Rattle.ceu_tree.specs.Legal.{before, is_set}
use Rattle.ceu_tree.specs.Mentions.{is_loc, body_target}
use Rattle.ceu_tree.specs.Run.{Config, Turning, Between, Waiting, Ended, Faulted}
use Rattle.laws_meaning_values.specs.Ground.{has}
use Rattle.laws_meaning_values.specs.Ready.{declares}

abbrev pub some_done : List KNode → Bool
some_done [] = false
some_done (s ∷ ss) = true

abbrev pub block_needs : KBlock → (done : List KNode) → ℕ → Bool
block_needs b done x = (declares x (out-KBlock b).decls && is_set done x) || (is_loc x (body_target b) && some_done done)

-- a loop's own variable
abbrev pub own_variable : ℕ → KLoop → Bool
own_variable x (turns.Range i next end open_a a b open_b) = i == x
own_variable x k = false

abbrev pub turn_needs : Layer → ℕ → Bool
turn_needs (KStmt-F.Loop k b) x = own_variable x k
turn_needs layer x = false

unfoldable mutual
  pub needs : Residual → ℕ → Bool
  needs (Block b fin all r rest) x = block_needs b (before (out-KBlock b).list rest) x || needs r x
  needs (Open s r) x = needs r x
  needs (Loop s c r) x = turn_needs (out-KStmt s.stmt) x || needs r x
  needs (Call s r) x = needs r x
  needs (Par s bs) x = each_needs bs x
  needs (InAsync s served r) x = needs r x
  needs r x = false

  pub each_needs : Branches → ℕ → Bool
  each_needs no_branch x = false
  each_needs (branch r more) x = needs r x || each_needs more x

-- a trail at the head of its loop for the first time has no variable yet
abbrev pub at_first_head : Focus Act → Bool
at_first_head (Here AtHead) = true
at_first_head f = false

abbrev pub frame_needs : Frame → (first : Bool) → ℕ → Bool
frame_needs (OfBlock b fin all rest) first x = block_needs b (before (out-KBlock b).list rest) x
frame_needs (OfLoop s c) first x = not first && turn_needs (out-KStmt s.stmt) x
frame_needs (OfPar s front back) first x = each_needs front x || each_needs back x
frame_needs fr first x = false

unfoldable pub focus_needs : Focus Act → ℕ → Bool
focus_needs (Here a) x = false
focus_needs (In fr f) x = frame_needs fr (at_first_head f) x || focus_needs f x

-- each slot that needs a value has one
abbrev pub Valued : Config → Type 0
Valued (Turning n f w) = (slot : ℕ) → focus_needs f slot ≡ true → has Program slot w ≡ true
Valued (Between n r w) = (slot : ℕ) → needs r slot ≡ true → has Program slot w ≡ true
Valued (Waiting r w) = (slot : ℕ) → needs r slot ≡ true → has Program slot w ≡ true
Valued (Ended v w) = Unit {0}
Valued (Faulted e w) = Unit {0}
