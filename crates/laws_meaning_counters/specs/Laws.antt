-- The laws on the counters of open loops in the configurations of a proper kernel.
use Rattle.std.specs.Prelude.{◌≡◌, ℕ, ℤ, pos, ◌-ℤ◌, true, ◌||◌, List, Some}
use Rattle.ceu_base.specs.declared.kinds.Ty.TheVariants as ty
use Rattle.ceu_base.specs.Values.{is_value, least, same}
use Rattle.ceu_tree.specs.declared.command.Command.{Command}
use Rattle.ceu_tree.specs.declared.kernel.Kernel.{Kernel}
use Rattle.ceu_tree.specs.declared.kernel.KLoop.{KLoop}
use Rattle.ceu_tree.specs.declared.kernel.KLoop.TheVariants as turns
use Rattle.ceu_tree.specs.declared.kernel.KStmt.{out-KStmt}
use Rattle.ceu_tree.specs.declared.kernel.KStmt.TheOpen.{KStmt-F}
use Rattle.ceu_tree.specs.Residual.{Body, Program, Awaited, Spawned, Counter, Upward, Residual, InAsync, Block, Open, Loop, Call, Par, Branches, no_branch, branch, Instances, no_instance, instance}
use Rattle.ceu_tree.specs.World.{World, Holds, look}
use Rattle.ceu_tree.specs.Leaf.{Layer}
use Rattle.ceu_tree.specs.Proper.{Proper}
use Rattle.ceu_tree.specs.Legal.{Seated, counter_ok}
use Rattle.ceu_tree.specs.Run.{Config, Waiting, booted, next, steps, done, run}
use Rattle.laws_meaning_basics.specs.Shape.{ConfigFits}
use Rattle.laws_meaning_instances.specs.Instances.{InstancesStand}
use Rattle.laws_meaning_counters.specs.Counters.{CountersStand}
use Rattle.laws_meaning_counters.specs.Ints.{IntsStand, EndsInt}

abbrev pub BootCounters : Type 0
BootCounters = (K : Kernel) → CountersStand (booted K)

abbrev pub StepCounters : Type 0
StepCounters = (K : Kernel) (c : Config) → Proper K → ConfigFits K c → InstancesStand c → CountersStand c → CountersStand (next K c)

abbrev pub ReactionCounters : Type 0
ReactionCounters = (K : Kernel) (n : ℕ) (c : Config) → Proper K → ConfigFits K c → InstancesStand c → CountersStand c → CountersStand (steps K n c)

abbrev pub CommandCounters : Type 0
CommandCounters = (K : Kernel) (n : ℕ) (x : Command) (c : Config) → Proper K → ConfigFits K c → InstancesStand c → CountersStand c → CountersStand (done K n x c)

abbrev pub RunCounters : Type 0
RunCounters = (K : Kernel) (n : ℕ) (xs : List Command) → Proper K → CountersStand (run K n xs)

-- ---- in the words of legality

-- what holds of each open loop: of its open body, its kind and its counter
module _ (P : Body → KLoop → Counter → Type 0) where
  abbrev pub at_layer : Body → Layer → Counter → Type 0
  at_layer body (KStmt-F.Loop k b) c = P body k c
  at_layer body layer c = Unit {0}

  unfoldable mutual
    pub each_loop : Body → Residual → Type 0
    each_loop body (Block b fin all r rest) = all_each_loop all × each_loop body r
    each_loop body (Open s r) = each_loop body r
    each_loop body (Loop s c r) = at_layer body (out-KStmt s.stmt) c × each_loop body r
    each_loop body (Call s r) = each_loop (Awaited body s.node) r
    each_loop body (Par s bs) = branches_each_loop body bs
    each_loop body (InAsync s served r) = each_loop body r
    each_loop body r = Unit {0}

    pub branches_each_loop : Body → Branches → Type 0
    branches_each_loop body no_branch = Unit {0}
    branches_each_loop body (branch r more) = each_loop body r × branches_each_loop body more

    pub all_each_loop : Instances → Type 0
    all_each_loop no_instance = Unit {0}
    all_each_loop (instance seat r more) = each_loop (Spawned seat.number) r × all_each_loop more

-- the value of a loop's variable is an int, and the last one is such as an int or one before an int
abbrev pub counter_typed : World → Body → KLoop → Counter → Type 0
counter_typed w body (turns.Range i next end open_a a b open_b) (Upward n last) =
    ((v : ℤ) → look body i w.values ≡ Some (Holds v) → is_value ty.S32 v ≡ true) × ((is_value ty.S32 last || same last (least ty.S32 -ℤ pos 1)) ≡ true)
counter_typed w body k c = Unit {0}

abbrev pub counter_legal : Kernel → World → List Seated → Body → KLoop → Counter → Type 0
counter_legal K w found body k c = counter_ok K w found body k c ≡ true

-- Where a run of a proper kernel waits, each counter is as in a legal configuration, where the values of ranges have their type.
abbrev pub RunCountersLegal : Type 0
RunCountersLegal =
    (K : Kernel) (n : ℕ) (xs : List Command) (r : Residual) (w : World) (found : List Seated) → Proper K → run K n xs ≡ Waiting r w → each_loop (counter_typed w) Program r
    → each_loop (counter_legal K w found) Program r

-- ---- ranges that count within an int

abbrev pub BootInts : Type 0
BootInts = (K : Kernel) → IntsStand (booted K)

-- where the ends of a range that begins give ints
abbrev pub StepInts : Type 0
StepInts = (K : Kernel) (c : Config) → Proper K → ConfigFits K c → EndsInt c → IntsStand c → IntsStand (next K c)

abbrev pub ReactionInts : Type 0
ReactionInts = (K : Kernel) (n : ℕ) (c : Config) → Proper K → ConfigFits K c → ((j : ℕ) → EndsInt (steps K j c)) → IntsStand c → IntsStand (steps K n c)

-- what waits then has values of their type in its ranges
abbrev pub WaitingTyped : Type 0
WaitingTyped = (r : Residual) (w : World) → CountersStand (Waiting r w) → IntsStand (Waiting r w) → each_loop (counter_typed w) Program r
