-- Which slots of open bodies need a value in a configuration (this project's own).
--
-- A block needs those of its declarations that the statements before the one where it stands set, and the target of an await at its head once that is
-- behind it; a loop over a range needs its variable in its turns, awaited code and an instance need their parameters, and a spawn that is to be gone past
-- its alias. Told is how often a slot of an open body is needed.
use Rattle.std.specs.Prelude.{◌≡◌, ◌≤◌, ◌+◌, ℕ, Bool, true, false, not, if◌then◌else◌, ◌==◌, ◌&&◌, ◌||◌, List, Option, Some, None}
use Rattle.ceu_tree.specs.declared.kernel.Kernel.{Kernel}
use Rattle.ceu_tree.specs.declared.kernel.KCode.{KCode}
use Rattle.ceu_tree.specs.declared.kernel.Loc.{Loc}
use Rattle.ceu_tree.specs.declared.kernel.KNode.{KNode}
use Rattle.ceu_tree.specs.declared.kernel.KBlock.{KBlock, out-KBlock}
use Rattle.ceu_tree.specs.declared.kernel.KStmt.{out-KStmt}
use Rattle.ceu_tree.specs.declared.kernel.KStmt.TheOpen.{KStmt-F}
use Rattle.ceu_tree.specs.Residual.{Body, Program, Awaited, Spawned, same_body, Act, Finish, Residual, Run, WaitInput, WaitTime, WaitEvent, InAsync, Block, Open, Loop, Call, Par, Branches, no_branch, branch, Instances, no_instance, instance}
use Rattle.ceu_tree.specs.Focus.{Frame, OfBlock, OfInstance, OfOpen, OfLoop, OfCall, OfPar, Focus, Here, In, leaf, body_in, body_of}
use Rattle.ceu_tree.specs.Leaf.{Layer, code_at}
use Rattle.ceu_tree.specs.Legal.{before, is_set, called_code}
use Rattle.ceu_tree.specs.Mentions.{is_slot, body_target}
use Rattle.ceu_tree.specs.Run.{Config, Turning, Between, Waiting, Ended, Faulted}
use Rattle.laws_meaning_values.specs.Ground.{has}
use Rattle.laws_meaning_values.specs.Needed.{some_done, turn_needs}
use Rattle.laws_meaning_values.specs.Ready.{declares}
use Rattle.laws_meaning_counters.specs.Counters.{is_first, at_loop}

-- a target of the own body
abbrev pub own_target : ℕ → Option Loc → Bool
own_target slot None = false
own_target slot (Some l) = not l.outer && (l.slot == slot)

abbrev pub block_asks : KBlock → (done : List KNode) → ℕ → Bool
block_asks b done slot = (declares slot (out-KBlock b).decls && is_set done slot) || (own_target slot (body_target b) && some_done done)

abbrev pub alias_of : Layer → Option ℕ
alias_of (KStmt-F.Spawn c es pool alias) = alias
alias_of layer = None

module _ (codes : List KCode) (body : Body) (slot : ℕ) where
  -- 1 where the slot is asked for in that open body
  abbrev pub asked : (here : Body) → Bool → ℕ
  asked here t = if same_body here body && t then 1 else 0

  -- parameters
  abbrev pub given_needed : (here : Body) → Option KCode → ℕ
  given_needed here None = 0
  given_needed here (Some c) = asked here (declares slot c.params)

  -- a statement that is to be gone past
  abbrev pub past_needed : (here : Body) → KNode → ℕ
  past_needed here s = asked here (is_slot slot (alias_of (out-KStmt s.stmt)))

  abbrev pub act_needed : (here : Body) → Act → ℕ
  act_needed here (Finish s v) = past_needed here s
  act_needed here a = 0

  unfoldable mutual
    pub needed : (here : Body) → Residual → ℕ
    needed here (Block b fin all r rest) = asked here (block_asks b (before (out-KBlock b).list rest) slot) + needed_all all + needed here r
    needed here (Open s r) = needed here r
    needed here (Loop s c r) = asked here (turn_needs (out-KStmt s.stmt) slot) + needed here r
    needed here (Call s r) = given_needed (Awaited here s.node) (called_code codes (out-KStmt s.stmt)) + needed (Awaited here s.node) r
    needed here (Par s bs) = needed_each here bs
    needed here (InAsync s served r) = past_needed here s + needed here r
    needed here (Run n a) = act_needed here a
    needed here (WaitInput k s) = past_needed here s
    needed here (WaitTime d s) = past_needed here s
    needed here (WaitEvent e s) = past_needed here s
    needed here r = 0

    pub needed_each : (here : Body) → Branches → ℕ
    needed_each here no_branch = 0
    needed_each here (branch r more) = needed here r + needed_each here more

    pub needed_all : Instances → ℕ
    needed_all no_instance = 0
    needed_all (instance seat r more) = given_needed (Spawned seat.number) (code_at seat.code codes) + needed (Spawned seat.number) r + needed_all more

  -- `first` says that the trail is at the head of its loop for the first time, which has no variable yet
  abbrev pub turn_needed : (first : Bool) → (here : Body) → KNode → ℕ
  turn_needed true here s = 0
  turn_needed false here s = asked here (turn_needs (out-KStmt s.stmt) slot)

  abbrev pub frame_needed : (first : Bool) → (here : Body) → Frame → ℕ
  frame_needed first here (OfBlock b fin all rest) = asked here (block_asks b (before (out-KBlock b).list rest) slot) + needed_all all
  frame_needed first here (OfInstance b fin front seat back r rest) =
      asked here (block_asks b (before (out-KBlock b).list rest) slot) + (needed_all front + given_needed (Spawned seat.number) (code_at seat.code codes) + needed_all back) + needed here r
  frame_needed first here (OfOpen s) = 0
  frame_needed first here (OfLoop s c) = turn_needed first here s
  frame_needed first here (OfCall s) = given_needed (Awaited here s.node) (called_code codes (out-KStmt s.stmt))
  frame_needed first here (OfPar s front back) = needed_each here front + needed_each here back

  unfoldable pub focus_needed : {A : Type 0} → (first : A → Bool) → (here : Body) → Focus A → ℕ
  focus_needed first here (Here a) = 0
  focus_needed first here (In fr f) = frame_needed (at_loop first f) here fr + focus_needed first (body_in fr here) f

-- each slot of an open body that is needed has a value
abbrev pub Stocked : Kernel → Config → Type 0
Stocked K (Turning n f w) = (body : Body) (slot : ℕ) → 1 ≤ focus_needed K.codes body slot is_first Program f + act_needed K.codes body slot (body_of f Program) (leaf f) → has body slot w ≡ true
Stocked K (Between n r w) = (body : Body) (slot : ℕ) → 1 ≤ needed K.codes body slot Program r → has body slot w ≡ true
Stocked K (Waiting r w) = (body : Body) (slot : ℕ) → 1 ≤ needed K.codes body slot Program r → has body slot w ≡ true
Stocked K (Ended v w) = Unit {0}
Stocked K (Faulted e w) = Unit {0}
