-- What a configuration has still to pay in the reaction that goes on (this project's own): the potential of an amortized analysis, by the lines of the table
-- of costs. Each turn of a trail costs one, and so does each level.
--
-- A leaf that can run has a turn to begin, and costs what it enters. A leaf that waits for an event may be woken once, but one at the head of a loop that
-- the event paces costs nothing: the emission that wakes it pays for it. All that follows is counted where the part before it may end.
use Rattle.std.specs.Prelude.{ℕ, zero, suc, Bool, true, false, if◌then◌else◌, List, [], Some, None}
use Rattle.ceu_tree.specs.declared.kernel.KLoop.{KLoop}
use Rattle.ceu_tree.specs.declared.kernel.KBlock.{KBlock}
use Rattle.ceu_tree.specs.declared.kernel.KStmt.{out-KStmt}
use Rattle.ceu_tree.specs.declared.kernel.KStmt.TheOpen.{KStmt-F}
use Rattle.ceu_tree.specs.declared.kernel.Kernel.{Kernel}
use Rattle.ceu_tree.specs.Residual.{Act, Begin, Start, Counter, Residual, Over, Run, WaitInput, WaitTime, WaitEvent, WaitForever, InAsync, Block, Open, Loop, Call, Par, Branches, no_branch, branch, Instances, no_instance, instance}
use Rattle.ceu_tree.specs.Focus.{plug, leaf}
use Rattle.ceu_tree.specs.Leaf.{Layer}
use Rattle.ceu_tree.specs.Paths.{Way, has_end, constant_bound, quick_block, passes_from}
use Rattle.ceu_tree.specs.Costs.{Cost, cost, nothing, plus, times, paced, enter_node, enter_block, enter_list}
use Rattle.ceu_tree.specs.Run.{Config, Turning, Between, Waiting, Ended, Faulted}
use Rattle.ceu_bound.specs.Filled.{emitting, entering}
use Rattle.laws_bounds_steps.specs.Ways.{goes_on, to_begin, ways}

-- ---- the head of a loop that an event paces

abbrev pub is_await : Layer → Bool
is_await (KStmt-F.AwaitEvent e t) = true
is_await layer = false

-- a statement's leaf that awaits an event, or that comes to the await in the turn that is on
abbrev pub at_await : Residual → Bool
at_await (WaitEvent e s) = true
at_await (Run n (Start s)) = is_await (out-KStmt s.stmt)
at_await r = false

-- a turn that begins, or whose first statement is at its await
abbrev pub at_head : Residual → Bool
at_head (Run n a) = true
at_head (Block b fin all r rest) = at_await r
at_head r = false

-- a turn that is on
abbrev pub running : Residual → Cost
running (Run n a) = cost 1 0
running r = nothing

-- ---- loops

-- from a loop's head, by how many turns are left
abbrev pub times_of_turns : Bool → ℕ → ℕ
times_of_turns again zero = 0
times_of_turns true (suc n) = suc n
times_of_turns false (suc n) = 1

abbrev pub head_times : List Bool → ℕ → KLoop → KBlock → Counter → ℕ
head_times passing node k b c = elim (constant_bound k) [ None ↦ 1 | Some n ↦ times_of_turns (goes_on node (quick_block passing b)) (to_begin k c) ]

module _ (passing : List Bool) (events : List Cost) (entering : List Cost) where
  abbrev pub head_due : ℕ → KLoop → KBlock → Counter → Cost
  head_due node k b c = times (head_times passing node k b c) (enter_block passing events entering b)

  -- of an open loop: q are the ways of its turn, and the turn costs `inside`, or `waiting` where it is at the head of a loop that an event paces
  abbrev pub due_in_loop : ℕ → Layer → Counter → (head : Bool) → (waiting inside : Cost) → List Way → Cost
  due_in_loop node (KStmt-F.Loop k b) c head waiting inside q = elim (paced k b) [
    | Some e ↦ if head then waiting else inside
    | None ↦ plus inside (if goes_on node q then head_due node k b c else nothing)
  ]
  due_in_loop node layer c head waiting inside q = inside

  abbrev pub act_due : Act → Cost
  act_due (Begin b) = enter_block passing events entering b
  act_due (Start s) = enter_node passing events entering s
  act_due a = nothing

  -- ---- what is left. Asyncs run in no reaction.

  unfoldable mutual
    pub due : Residual → Cost
    due (Run n a) = plus (cost 1 0) (act_due a)
    due (WaitEvent e s) = cost 1 0
    due (Block b fin all r rest) = plus (due_of_instances all) (plus (due r) (if has_end (ways passing r) then enter_list passing events entering rest else nothing))
    due (Open s r) = due r
    due (Loop s c r) = due_in_loop s.node (out-KStmt s.stmt) c (at_head r) (due_at_head r) (due r) (ways passing r)
    due (Call s r) = due r
    due (Par s bs) = due_of_branches bs
    due Over = nothing
    due (WaitInput k s) = nothing
    due (WaitTime d s) = nothing
    due (WaitForever s) = nothing
    due (InAsync s served r) = nothing

    pub due_of_branches : Branches → Cost
    due_of_branches no_branch = nothing
    due_of_branches (branch r more) = plus (due r) (due_of_branches more)

    pub due_of_instances : Instances → Cost
    due_of_instances no_instance = nothing
    due_of_instances (instance seat r more) = plus (due r) (due_of_instances more)

    -- at the head of a loop that an event paces a turn costs nothing but the trail's own turn that is on
    pub due_at_head : Residual → Cost
    due_at_head (Run n a) = cost 1 0
    due_at_head (Block b fin all r rest) = plus (due_of_instances all) (running r)
    due_at_head r = nothing

-- by the tables of a program
abbrev pub due_in : Kernel → Residual → Cost
due_in K r = due (passes_from [] K.codes) (emitting K) (entering K) r

-- in a turn with the turn that is on
abbrev pub to_pay : Kernel → Config → Cost
to_pay K (Turning n f w) = due_in K (plug f (Run n (leaf f)))
to_pay K (Between n r w) = due_in K r
to_pay K (Waiting r w) = nothing
to_pay K (Ended v w) = nothing
to_pay K (Faulted e w) = nothing
