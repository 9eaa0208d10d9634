-- The laws on well-typed stores.
use Rattle.std.proofs.Common.{◌≡◌, refl, subst, true, List, []}
use Rattle.ceu_tree.specs.declared.kernel.Kernel.{Kernel}
use Rattle.ceu_tree.specs.Residual.{Program, Residual}
use Rattle.ceu_tree.specs.World.{World}
use Rattle.ceu_tree.specs.Legal.{Seated, seats}
use Rattle.ceu_tree.specs.Proper.{is_proper}
use Rattle.ceu_tree.specs.Run.{Waiting}
use Rattle.laws_meaning_basics.specs.Shape.{ConfigFits}
use Rattle.laws_meaning_basics.proofs.RunFits.{run_fits}
use Rattle.laws_meaning_slots.proofs.Known.{program_known}
use Rattle.laws_meaning_slots.specs.Held.{ValuesLie}
use Rattle.laws_meaning_slots.specs.Names.{NamesHold}
use Rattle.laws_meaning_slots.proofs.Runs.{run_held, run_hold, kinds_are, names_are_legal}
use Rattle.laws_meaning_counters.specs.Counters.{CountersStand}
use Rattle.laws_meaning_counters.specs.Ints.{tree_int}
use Rattle.laws_meaning_counters.specs.Laws.{each_loop, counter_legal}
use Rattle.laws_meaning_counters.proofs.CountersRuns.{run_all, counters_are_legal}
use Rattle.laws_meaning_counters.proofs.IntRuns.{waiting_typed}
use Rattle.laws_meaning_types.specs.Ready.{tree_ready}
use Rattle.laws_meaning_types.specs.Laws.{BootTyped, StepTyped, ReactionTyped, CommandKeepsTyped, RunTyped, RunCellsLegal, RunLoopsLegal}
use Rattle.laws_meaning_types.specs.Stores.{StoresTyped}
use Rattle.laws_meaning_types.specs.Cells.{cells_legal}
use Rattle.laws_meaning_types.proofs.Reactions.{tested, next_typed, steps_typed}
use Rattle.laws_meaning_types.proofs.Cells.{tree_legal}
use Rattle.laws_meaning_types.proofs.Commands as commands

pub boot_types : BootTyped
unfolding tree_int tree_ready
boot_types K = record { values = refl; ranges = tt; trails = tt }

pub step_types : StepTyped
step_types K c p t h = next_typed K p c t h

pub reaction_types : ReactionTyped
reaction_types K n c p t h = steps_typed K p n c t h

pub command_types : CommandKeepsTyped
command_types K n x c p t q h = commands.done_typed K p n x c t q h

pub run_types : RunTyped
run_types K n xs p q = commands.run_typed K p n xs q (boot_types K)

-- ---- in the words of legality

-- of any configuration that waits, with what holds of those of runs
pub cells_are_legal : (K : Kernel) (r : Residual) (w : World) → is_proper K ≡ true → ConfigFits K (Waiting r w) → ValuesLie K (Waiting r w) → NamesHold K (Waiting r w) → StoresTyped K (Waiting r w) → cells_legal K w (seats r Program) r Program [] ≡ true
cells_are_legal K r w p t h m y = tree_legal K p w (seats r Program) (tested K p w y.values) t (program_known K p) Program [] (kinds_are K r w p t h) (names_are_legal K r w p t h m)

pub loops_are_legal : (K : Kernel) (r : Residual) (w : World) (found : List Seated) → ConfigFits K (Waiting r w) → CountersStand (Waiting r w) → StoresTyped K (Waiting r w) → each_loop (counter_legal K w found) Program r
loops_are_legal K r w found t h y = counters_are_legal K r w found t h (waiting_typed r w h y.ranges)

pub cells_are : RunCellsLegal
cells_are K n xs r w p q e = cells_are_legal K r w p (subst (ConfigFits K) e (run_fits K p n xs)) (subst (ValuesLie K) e (run_held K p n xs)) (subst (NamesHold K) e (run_hold K p n xs)) (subst (StoresTyped K) e (run_types K n xs p q))

pub loops_are : RunLoopsLegal
loops_are K n xs r w found p q e = loops_are_legal K r w found (subst (ConfigFits K) e (run_fits K p n xs)) (subst CountersStand e (run_all K p n xs)) (subst (StoresTyped K) e (run_types K n xs p q))
