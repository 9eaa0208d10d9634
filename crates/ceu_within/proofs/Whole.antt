-- The laws on values, of whole programs of one trail.
use Rattle.std.proofs.Common.{◌≡◌, sym, subst, true}
use Rattle.ceu_tree.specs.declared.kernel.Kernel.{Kernel}
use Rattle.ceu_tree.specs.Residual.{Residual}
use Rattle.ceu_tree.specs.World.{World}
use Rattle.ceu_tree.specs.Wake.{each_leaf, by_input, later, by_time}
use Rattle.laws_meaning_basics.specs.Shape.{Fits, program_part}
use Rattle.ceu_single.specs.Single.{is_single}
use Rattle.ceu_endings.proofs.Shapes.{no_codes, one_leaf}
use Rattle.ceu_trail.specs.Within.{in_rest, ValuesWithin, rest_within, RestWithin}
use Rattle.ceu_within.specs.Laws.{BootWithin, StepWithin, ChosenWithin, InputWithin, TimeWithin}
use Rattle.ceu_within.proofs.Steps.{stepped_within}
use Rattle.ceu_within.proofs.Rests.{LeavesKept, chosen_in, leaves_kept, input_leaf, later_leaf, time_leaf}

pub boot_within : BootWithin
unfolding rest_within in_rest
boot_within K = record { values = record { within = λ body slot c e. absurd (cc) }; counters = tt }

pub step_within : StepWithin
step_within K f w proper single x h = let a = no_codes K single in stepped_within K proper a.0 a.1 f w x h

pub chosen_within : ChosenWithin
chosen_within K r w f proper single x h e =
    let a = no_codes K single in
    let c = chosen_in K 0 1 r f (one_leaf K a.0 x a.1) h.counters e in
    record { values = subst (λ l. ValuesWithin l w) (sym c.variables) h.values; counters = c.counters; brought = c.brought }

kept_within : (K : Kernel) (r : Residual) (w : World) (g : Residual → Residual) → is_single K ≡ true → Fits K 0 (program_part K) r → LeavesKept K g → RestWithin K r w → RestWithin K (each_leaf g r) w
kept_within K r w g single x k h =
    let a = no_codes K single in
    let c = leaves_kept K g k (program_part K) r x (one_leaf K a.0 x a.1) in
    record { values = subst (λ l. ValuesWithin l w) (sym c.variables) h.values; counters = c.kept h.counters }

pub input_within : InputWithin
input_within K r w k t v proper single x h e i = kept_within K r w (by_input k v) single x (input_leaf K k t v e i) h

pub time_within : TimeWithin
time_within K r w d delay proper single x h = (kept_within K r w (later d) single x (later_leaf K d) h, kept_within K r w (by_time delay) single x (time_leaf K delay) h)
