-- The laws on the instances that live.
use Rattle.std.proofs.Common.{◌≡◌, refl, ap, subst, ℕ, ◌^◌, true, false, ◌==◌, ◌&&◌, ◌||◌, nat_lt, List, [], ◌∷◌, arith}
use Rattle.std.proofs.lemmas.Bool.{and_from, lt-ltb}
use Rattle.ceu_tree.specs.declared.command.Command.{Command}
use Rattle.ceu_tree.specs.declared.kernel.Kernel.{Kernel}
use Rattle.ceu_tree.specs.declared.kernel.KDecl.{KDecl}
use Rattle.ceu_tree.specs.declared.kernel.KKind.TheVariants as kind
use Rattle.ceu_tree.specs.Residual.{Seat, Residual, Instances, no_instance, instance}
use Rattle.ceu_tree.specs.World.{World}
use Rattle.ceu_tree.specs.Legal as legal
use Rattle.ceu_tree.specs.Legal.{Seated, seats, numbers, all_differ, lies}
use Rattle.ceu_tree.specs.Proper.{is_proper}
use Rattle.ceu_tree.specs.Run.{Config, next, steps, done, run}
use Rattle.laws_meaning_basics.specs.Shape.{ConfigFits}
use Rattle.laws_meaning_basics.proofs.RunFits.{next_fits, steps_fit, done_fits, run_fits}
use Rattle.laws_meaning_instances.specs.Instances.{NumbersStand, has_place, is_before, goes_before, pools_stand, InstancesStand}
use Rattle.laws_meaning_instances.specs.Laws.{BootInstances, numbers_legal, RunNumbersLegal, PlacesSame}
use Rattle.laws_meaning_instances.proofs.Reactions.{next_counts, steps_counts, instances_counted, instances_stand}
use Rattle.laws_meaning_instances.proofs.Commands.{done_counts, run_counts}

pub boot_stands : BootInstances
unfolding seats pools_stand
boot_stands K = record { numbers = record { differ = refl; given = refl; live = refl; seated = refl; once = refl; below = omega arith }; pools = tt }

module _ (K : Kernel) (proper : is_proper K ≡ true) where
  pub next_stands : (c : Config) → ConfigFits K c → InstancesStand c → InstancesStand (next K c)
  next_stands c t h = instances_stand K proper (next K c) (next_fits K proper c t) (next_counts K proper c t (instances_counted K proper c t h))

  pub steps_stand : (n : ℕ) (c : Config) → ConfigFits K c → InstancesStand c → InstancesStand (steps K n c)
  steps_stand n c t h = instances_stand K proper (steps K n c) (steps_fit K proper n c t) (steps_counts K proper n c t (instances_counted K proper c t h))

  pub done_stands : (n : ℕ) (x : Command) (c : Config) → ConfigFits K c → InstancesStand c → InstancesStand (done K n x c)
  done_stands n x c t h = instances_stand K proper (done K n x c) (done_fits K proper n x c t) (done_counts K proper n x c t (instances_counted K proper c t h))

  pub run_stands : (n : ℕ) (xs : List Command) → InstancesStand (run K n xs)
  run_stands n xs = instances_stand K proper (run K n xs) (run_fits K proper n xs) (run_counts K proper n xs)

pub numbers_are_legal : (r : Residual) (w : World) → NumbersStand r w → numbers_legal r w
numbers_are_legal r w h = and_from _ (nat_lt w.given (2 ^ 32)) (and_from _ _ (and_from _ _ (and_from _ _ (and_from _ _ h.differ h.given) h.live) h.seated) h.once) (lt-ltb w.given (2 ^ 32) h.below)

pub run_legal : RunNumbersLegal
run_legal K n xs r w p e = numbers_are_legal r w (subst InstancesStand e (run_stands K p n xs)).numbers

module _ (K : Kernel) (w : World) (found : List Seated) where
  place_same : (ds : List KDecl) (seat : Seat) → legal.has_place K w found ds seat ≡ has_place ds seat
  place_same [] seat = refl
  place_same (d ∷ ds) seat = ap (λ b. elim d.kind [ kind.Pool n c ↦ ((d.slot == seat.pool) && (c == seat.code) && nat_lt seat.place n) | _ ↦ false ] || b) (place_same ds seat)

  order_same : (seat : Seat) (all : Instances) → legal.goes_before K w found seat all ≡ goes_before seat all
  order_same seat no_instance = refl
  order_same seat (instance other r more) = ap (λ b. is_before seat other && b) (order_same seat more)

  pub places_same : PlacesSame K w found
  places_same = record { places = place_same; order = order_same }
