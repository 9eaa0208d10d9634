-- A step of a turn pays what it costs, and a turn that begins what it is counted with (this project's own).
use Rattle.std.specs.Prelude.{◌≡◌, ◌≤◌, ℕ, suc, ◌+◌, Bool, List, [], Some}
use Rattle.ceu_tree.specs.declared.kernel.Kernel.{Kernel}
use Rattle.ceu_tree.specs.declared.kernel.KNode.{KNode}
use Rattle.ceu_tree.specs.declared.kernel.KStmt.{out-KStmt}
use Rattle.ceu_tree.specs.declared.kernel.KStmt.TheOpen.{KStmt-F}
use Rattle.ceu_tree.specs.Residual.{Program, Act, Start, Residual, Over, Run}
use Rattle.ceu_tree.specs.Focus.{Frame, Focus, fill, plug, leaf, choose}
use Rattle.ceu_tree.specs.World.{World}
use Rattle.ceu_tree.specs.Wake.{runs_at}
use Rattle.ceu_tree.specs.Paths.{passes_from}
use Rattle.ceu_tree.specs.Costs.{Cost, bounds}
use Rattle.ceu_tree.specs.Proper.{Proper}
use Rattle.ceu_tree.specs.Around.{Outcome, up}
use Rattle.ceu_tree.specs.Step.{stepped}
use Rattle.ceu_tree.specs.Run.{Config, Turning, booted, steps}
use Rattle.laws_meaning_basics.specs.Shape.{Part, FrameFits, program_part, TurnFits}
use Rattle.laws_meaning_basics.specs.Shape as shape
use Rattle.laws_meaning_instances.specs.Instances.{pools_stand, InstancesStand}
use Rattle.ceu_endings.specs.Counted.{focus_counted}
use Rattle.laws_bounds_steps.specs.Due.{to_pay}
use Rattle.laws_bounds_steps.specs.Pays.{Within, Pays, Comes, focus_keeps}
use Rattle.laws_bounds_steps.specs.Kept.{act_kept, acts_inside, RulesKept, CodesPay}
use Rattle.laws_bounds_steps.specs.Heads.{EmissionsPay}
use Rattle.laws_bounds_steps.specs.Whole.{PaidBy, WakingCosts}
use Rattle.laws_bounds_steps.specs.Programs.{levels_opened, level_of}

-- what a part pays, the part around it pays
abbrev pub FramesPay : Type 0
FramesPay = (passing : List Bool) (events entering : List Cost) (K : Kernel) (top : ℕ) (fr : Frame) (d e : Part) (k : Cost) (after before : Residual)
    → FrameFits K top fr d e → Pays passing events entering e k after before → Pays passing events entering d k (fill fr after) (fill fr before)

-- A leaf that goes past its statement, comes to the end of its block or to the head of its loop, leaves a statement or registers a finalizer: the parts
-- around it, which end, go on, are left or begin another turn, then cost no more than before.
abbrev pub LeavingPays : Type 0
LeavingPays = (passing : List Bool) (events entering : List Cost) (K : Kernel) (n : ℕ) (f : Focus Act) (part : Part) (x : Outcome) (w : World)
    → Proper K → shape.Around K (suc n) Act f (program_part K) part → focus_counted f → focus_keeps passing f
    → shape.Comes K n part x → Comes passing events entering n part (Run n (leaf f)) x
    → Comes passing events entering n (program_part K) (plug f (Run n (leaf f))) (up Program f x w).outcome

-- So a step of a turn pays in the trail's own part, where it emits, spawns and kills nothing.
abbrev pub StepPays : Type 0
StepPays = (passing : List Bool) (events entering : List Cost) (K : Kernel) (n : ℕ) (f : Focus Act) (w : World)
    → Proper K → TurnFits K (suc n) (program_part K) f → focus_counted f → focus_keeps passing f → act_kept passing (leaf f) → acts_inside (leaf f)
    → CodesPay passing events entering K
    → Comes passing events entering n (program_part K) (plug f (Run n (leaf f))) (stepped K n Program f w).outcome

-- ---- in the whole tree

-- A kill frees a place, and what stood there has nothing left to pay.
abbrev pub KillsPay : Type 0
KillsPay = (passing : List Bool) (events entering : List Cost) (K : Kernel) (n : ℕ) (f : Focus Act) (w : World) (s : KNode) (c : ℕ)
    → Proper K → TurnFits K (suc n) (program_part K) f → focus_counted f → focus_keeps passing f → leaf f ≡ Start s → out-KStmt s.stmt ≡ KStmt-F.Kill c
    → PaidBy passing events entering n (plug f (Run n (leaf f))) (stepped K n Program f w).outcome

-- A spawn pays for its own turn and level, for the turn of the instance that it seats, and for what the instance's body enters.
abbrev pub SpawnsPay : Type 0
SpawnsPay = (passing : List Bool) (events entering : List Cost) (K : Kernel) (n : ℕ) (f : Focus Act) (w : World) (s : KNode) (c : ℕ) (es : _) (p : ℕ) (a : _)
    → Proper K → TurnFits K (suc n) (program_part K) f → focus_counted f → focus_keeps passing f → leaf f ≡ Start s → out-KStmt s.stmt ≡ KStmt-F.Spawn c es p a
    → pools_stand (plug f Over) → CodesPay passing events entering K
    → PaidBy passing events entering n (plug f (Run n (leaf f))) (stepped K n Program f w).outcome

-- An emission pays for its own turn and level, and for the loops that it reaches.
abbrev pub EmitsPay : Type 0
EmitsPay = (passing : List Bool) (events entering : List Cost) (K : Kernel) (n : ℕ) (f : Focus Act) (w : World) (s : KNode) (e : ℕ) (x : _)
    → Proper K → TurnFits K (suc n) (program_part K) f → leaf f ≡ Start s → out-KStmt s.stmt ≡ KStmt-F.Emit e x
    → pools_stand (plug f Over) → EmissionsPay passing events entering K → WakingCosts passing events entering K
    → PaidBy passing events entering n (plug f (Run n (leaf f))) (stepped K n Program f w).outcome

-- So each step of a turn pays.
abbrev pub AnyStepPays : Type 0
AnyStepPays = (passing : List Bool) (events entering : List Cost) (K : Kernel) (n : ℕ) (f : Focus Act) (w : World)
    → Proper K → TurnFits K (suc n) (program_part K) f → focus_counted f → InstancesStand (Turning n f w) → focus_keeps passing f → act_kept passing (leaf f)
    → CodesPay passing events entering K → EmissionsPay passing events entering K → WakingCosts passing events entering K
    → PaidBy passing events entering n (plug f (Run n (leaf f))) (stepped K n Program f w).outcome

-- The rules that a program keeps are kept by each loop around a trail whose turn is on, and by the statement that it starts.
abbrev pub RulesReach : Type 0
RulesReach = (K : Kernel) (n : ℕ) (f : Focus Act)
    → RulesKept K → TurnFits K (suc n) (program_part K) f → focus_keeps (passes_from [] K.codes) f × act_kept (passes_from [] K.codes) (leaf f)

-- ---- the start, the turns that begin, and levels

-- the first reaction begins within the bounds
abbrev pub BootWithin : Type 0
BootWithin = (K : Kernel) → Within (to_pay K (booted K)) (bounds K)

-- the leaf that is chosen is one of those that were counted, with its turn
abbrev pub ResumptionCounted : Type 0
ResumptionCounted = (K : Kernel) (n : ℕ) (r : Residual) (f : Focus Act) → choose Act (runs_at n) r ≡ Some f → plug f (Run n (leaf f)) ≡ r

-- A reaction's level lies no higher above that of its start than it has opened levels.
abbrev pub LevelBounded : Type 0
LevelBounded = (K : Kernel) (k : ℕ) (c : Config) → level_of (steps K k c) ≤ level_of c + levels_opened K k c
