-- The laws on the instances of code that live in the configurations of a proper kernel.
use Rattle.std.specs.Prelude.{◌≡◌, ℕ, ◌^◌, nat_lt, true, ◌&&◌, List}
use Rattle.std.specs.List.{list_all}
use Rattle.ceu_tree.specs.declared.command.Command.{Command}
use Rattle.ceu_tree.specs.declared.kernel.Kernel.{Kernel}
use Rattle.ceu_tree.specs.declared.kernel.KDecl.{KDecl}
use Rattle.ceu_tree.specs.Residual.{Program, Seat, Residual, Instances}
use Rattle.ceu_tree.specs.World.{World, is_among}
use Rattle.ceu_tree.specs.Proper.{Proper}
use Rattle.ceu_tree.specs.Legal as legal
use Rattle.ceu_tree.specs.Legal.{Seated, seats, numbers, all_differ, lies}
use Rattle.ceu_tree.specs.Run.{Config, Waiting, booted, next, steps, done, run}
use Rattle.laws_meaning_basics.specs.Shape.{ConfigFits}
use Rattle.laws_meaning_instances.specs.Instances.{has_place, goes_before, InstancesStand}

abbrev pub BootInstances : Type 0
BootInstances = (K : Kernel) → InstancesStand (booted K)

abbrev pub StepInstances : Type 0
StepInstances = (K : Kernel) (c : Config) → Proper K → ConfigFits K c → InstancesStand c → InstancesStand (next K c)

abbrev pub ReactionInstances : Type 0
ReactionInstances = (K : Kernel) (n : ℕ) (c : Config) → Proper K → ConfigFits K c → InstancesStand c → InstancesStand (steps K n c)

abbrev pub CommandInstances : Type 0
CommandInstances = (K : Kernel) (n : ℕ) (x : Command) (c : Config) → Proper K → ConfigFits K c → InstancesStand c → InstancesStand (done K n x c)

abbrev pub RunInstances : Type 0
RunInstances = (K : Kernel) (n : ℕ) (xs : List Command) → Proper K → InstancesStand (run K n xs)

-- ---- in the words of legality

abbrev pub numbers_legal : Residual → World → Type 0
numbers_legal r w =
    let ns = numbers (seats r Program) in
    (all_differ ns && list_all (lies 1 w.given) ns && list_all (λ n. is_among n w.living) ns && list_all (λ n. is_among n ns) w.living && all_differ w.living && nat_lt w.given (2 ^ 32)) ≡ true

-- where a run of a proper kernel waits, its numbers are as in a legal configuration
abbrev pub RunNumbersLegal : Type 0
RunNumbersLegal = (K : Kernel) (n : ℕ) (xs : List Command) (r : Residual) (w : World) → Proper K → run K n xs ≡ Waiting r w → numbers_legal r w

-- places and their order are those of legality
pub record PlacesSame (K : Kernel) (w : World) (found : List Seated) : Type 0 where
  pub places : (ds : List KDecl) (seat : Seat) → legal.has_place K w found ds seat ≡ has_place ds seat
  pub order : (seat : Seat) (all : Instances) → legal.goes_before K w found seat all ≡ goes_before seat all

abbrev pub LegalPlaces : Type 0
LegalPlaces = (K : Kernel) (w : World) (found : List Seated) → PlacesSame K w found
