-- After an end or a fault nothing is done and nothing is printed. Nor is anything by idle turns of which one changes nothing.
use Rattle.std.proofs.Common.{◌≡◌, ℕ, zero, suc, ◌+◌, Bool, List, [], ◌∷◌, ◌++◌, length, drop, refl, ap, ◌∙◌}
use Rattle.ceu_base.specs.declared.kinds.Mark.{Mark}
use Rattle.ceu_base.specs.declared.kinds.Port.{Port}
use Rattle.ceu_tree.specs.declared.command.Command.{Command}
use Rattle.ceu_tree.specs.declared.command.Command.TheVariants.{Input, Advance, Idle}
use Rattle.ceu_tree.specs.declared.kernel.Kernel.{Kernel}
use Rattle.ceu_tree.specs.Run.{Config, Turning, Between, Waiting, Ended, Faulted, world_of, status_of, done, all_done, advance, idle_turn, idle_turns}
use Rattle.ceu_run.specs.Reactions.{status_after}
use Rattle.ceu_run.specs.declared.reactor.After.{After}
use Rattle.ceu_run.specs.declared.reactor.After.TheVariants as after
use Rattle.ceu_run.specs.Printing.{marks_text, new_text, turns_text, command_text, commands_text}

abbrev pub Settled : Config → Type 0
Settled (Waiting r w) = ⊥
Settled (Turning n f w) = Unit {0}
Settled (Between n r w) = Unit {0}
Settled (Ended v w) = Unit {0}
Settled (Faulted e w) = Unit {0}

pub not_waiting_settled : (c : Config) (a : After) → status_of c ≡ status_after a → (a ≡ after.Waiting → ⊥) → Settled c
not_waiting_settled (Waiting r w) after.Waiting is other = absurd (other refl)
not_waiting_settled (Waiting r w) (after.Ended v) is other = absurd (cc)
not_waiting_settled (Waiting r w) (after.Faulted fault place) is other = absurd (cc)
not_waiting_settled (Turning n f w) a is other = tt
not_waiting_settled (Between n r w) a is other = tt
not_waiting_settled (Ended v w) a is other = tt
not_waiting_settled (Faulted e w) a is other = tt

advance_stays : (K : Kernel) (n k d : ℕ) (c : Config) → Settled c → advance K n k d c ≡ c
unfolding advance
advance_stays K n zero d c here = refl
advance_stays K n (suc k) d (Ended v w) here = refl
advance_stays K n (suc k) d (Faulted e w) here = refl
advance_stays K n (suc k) d (Turning l f w) here = refl
advance_stays K n (suc k) d (Between l r w) here = refl
advance_stays K n (suc k) d (Waiting r w) here = absurd here

turn_stays : (K : Kernel) (n : ℕ) (c : Config) → Settled c → idle_turn K n c ≡ c
turn_stays K n (Ended v w) here = refl
turn_stays K n (Faulted e w) here = refl
turn_stays K n (Turning l f w) here = refl
turn_stays K n (Between l r w) here = refl
turn_stays K n (Waiting r w) here = absurd here

-- where one idle turn changes nothing, so it is with more
pub turns_rest : (K : Kernel) (n k : ℕ) (c : Config) → idle_turn K n c ≡ c → idle_turns K n k c ≡ c
turns_rest K n zero c same = refl
turns_rest K n (suc k) c same = ap (idle_turns K n k) same ∙ turns_rest K n k c same

pub turns_stay : (K : Kernel) (n k : ℕ) (c : Config) → Settled c → idle_turns K n k c ≡ c
turns_stay K n k c here = turns_rest K n k c (turn_stays K n c here)

pub done_stays : (K : Kernel) (n : ℕ) (x : Command) (c : Config) → Settled c → done K n x c ≡ c
unfolding done
done_stays K n (Input event v) (Ended u w) here = refl
done_stays K n (Input event v) (Faulted e w) here = refl
done_stays K n (Input event v) (Turning l f w) here = refl
done_stays K n (Input event v) (Between l r w) here = refl
done_stays K n (Input event v) (Waiting r w) here = absurd here
done_stays K n (Advance us) c here = advance_stays K n (us + 1) us c here
done_stays K n (Idle k) c here = turns_stay K n k c here

pub all_stays : (K : Kernel) (n : ℕ) (xs : List Command) (c : Config) → Settled c → all_done K n xs c ≡ c
unfolding all_done
all_stays K n [] c here = refl
all_stays K n (x ∷ xs) c here = ap (all_done K n xs) (done_stays K n x c here) ∙ all_stays K n xs c here

nothing_new : (xs : List Mark) → drop (length xs) xs ≡ []
nothing_new [] = refl
nothing_new (x ∷ xs) = nothing_new xs

module _ (all : Bool) (outputs : List Port) (K : Kernel) (n : ℕ) where
  no_text : (c d : Config) → d ≡ c → new_text all outputs (world_of c).marks d ≡ []
  no_text c d same = ap (λ (e : Config). new_text all outputs (world_of c).marks e) same ∙ ap (marks_text all outputs) (nothing_new (world_of c).marks)

  pub turns_print_no_more : (k : ℕ) (c : Config) → idle_turn K n c ≡ c → turns_text all outputs K n k c ≡ []
  turns_print_no_more zero c same = refl
  turns_print_no_more (suc k) c same = (λ i. no_text c (idle_turn K n c) same i ++ turns_text all outputs K n k (same i)) ∙ turns_print_no_more k c same

  pub turns_print_nothing : (k : ℕ) (c : Config) → Settled c → turns_text all outputs K n k c ≡ []
  turns_print_nothing k c here = turns_print_no_more k c (turn_stays K n c here)

  command_prints_nothing : (x : Command) (c : Config) → Settled c → command_text all outputs K n x c ≡ []
  command_prints_nothing (Idle k) c here = turns_print_nothing k c here
  command_prints_nothing (Input event v) c here = no_text c (done K n (Input event v) c) (done_stays K n (Input event v) c here)
  command_prints_nothing (Advance us) c here = no_text c (done K n (Advance us) c) (done_stays K n (Advance us) c here)

  pub commands_print_nothing : (xs : List Command) (c : Config) → Settled c → commands_text all outputs K n xs c ≡ []
  commands_print_nothing [] c here = refl
  commands_print_nothing (x ∷ xs) c here =
      (λ i. command_prints_nothing x c here i ++ commands_text all outputs K n xs (done_stays K n x c here i)) ∙ commands_print_nothing xs c here
