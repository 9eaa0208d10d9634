-- Idle turns, one after the other.
use Rattle.std.proofs.Common.{◌≡◌, ℕ, suc, ◌+◌, ◌-◌, ◌<◌, Bool, List, ◌++◌, Option, Result, Ok, Err, sym, ap, ◌∙◌, subst, arith}
use Rattle.ceu_base.specs.declared.kinds.Port.{Port}
use Rattle.ceu_io.specs.declared.outside.Failed.{Failed}
use Rattle.ceu_tree.specs.declared.kernel.Kernel.{Kernel}
use Rattle.ceu_tree.specs.Residual.{Residual}
use Rattle.ceu_tree.specs.World.{World}
use Rattle.ceu_tree.specs.Run.{Config, Turning, Between, Waiting, Ended, Faulted, Waits, status_of, world_of, idle_turn, idle_turns}
use Rattle.ceu_run.specs.Reactions.{IsWaiting, StillWaits}
use Rattle.ceu_run.specs.Printing.{Printed, Prints, CutShort, new_text, turns_text}
use Rattle.ceu_run.specs.declared.reactor.After.{After}
use Rattle.ceu_run.specs.declared.reactor.After.TheVariants as after
use Rattle.ceu_run.proofs.Going.{Going, going_starts, going_on, going_ends, going_fails, going_done}
use Rattle.ceu_run.proofs.Settled.{Settled, turns_rest, turns_stay, turns_print_no_more, turns_print_nothing}

-- a configuration that waits, again as such
pub still_here : (stands : Config → Type 0) (c : Config) → status_of c ≡ Waits → stands c → (r : Residual) × (w : World) × stands (Waiting r w)
still_here stands (Waiting r w) is here = (r, w, here)
still_here stands (Turning l f w) is here = absurd (cc)
still_here stands (Between l r w) is here = absurd (cc)
still_here stands (Ended v w) is here = absurd (cc)
still_here stands (Faulted e w) is here = absurd (cc)

pub waits_again : (S S' : Kernel → Config → Type 0) (inputs : List Port) (w : IsWaiting S inputs) (c : Config) → S' w.kernel c → status_of c ≡ Waits → IsWaiting S' inputs
waits_again S S' inputs w c here is = let h = still_here (S' w.kernel) c is here in record { kernel = w.kernel; tree = h.0; world = h.1; here = h.2; inputs_are = w.inputs_are }

one_less : (turns turn : ℕ) → turn < turns → turns - turn ≡ suc (turns - (turn + 1))
one_less turns turn less = omega arith

zero_less : (turns : ℕ) → turns ≡ turns - 0
zero_less turns = omega arith

module _ (S S' : Config → Type 0) (K : Kernel) (all : Bool) (outputs : List Port) (c : Config) (turns turn : ℕ) (x y z : Option (List ℕ)) where
  abbrev pub IsGoing : (Config → Type 0) → ℕ → Option (List ℕ) → Type 0
  IsGoing T left now = Going T (λ n. idle_turns K n turns c) (λ n d. idle_turns K n left d) (λ n. turns_text all outputs K n turns c) (λ n d. turns_text all outputs K n left d) x now

  pub idle_starts : S c → status_of c ≡ Waits → y ≡ x → IsGoing S (turns - 0) y
  idle_starts here waits same = subst (λ k. IsGoing S k y) (zero_less turns) (subst (λ (h : Option (List ℕ)). IsGoing S turns h) (sym same)
      (going_starts S (λ n d. idle_turns K n turns d) (λ n d. turns_text all outputs K n turns d) c x here waits))

  module _ (so_far : IsGoing S (turns - turn) y) (less : turn < turns) (all' : Bool) (outputs' : List Port) (all_same : all' ≡ all) (outputs_same : outputs' ≡ outputs) where
    rest_is : (n : ℕ) (d : Config) → idle_turns K n (turns - turn) d ≡ idle_turns K n (turns - (turn + 1)) (idle_turn K n d)
    rest_is n d = ap (λ k. idle_turns K n k d) (one_less turns turn less)

    more_is : (n : ℕ) (d : Config) → turns_text all outputs K n (turns - turn) d ≡ new_text all' outputs' (world_of d).marks (idle_turn K n d) ++ turns_text all outputs K n (turns - (turn + 1)) (idle_turn K n d)
    more_is n d = ap (λ k. turns_text all outputs K n k d) (one_less turns turn less)
        ∙ (λ i. new_text (sym all_same i) (sym outputs_same i) (world_of d).marks (idle_turn K n d) ++ turns_text all outputs K n (turns - (turn + 1)) (idle_turn K n d))

    pub idle_goes_on : Printed S' (λ n. idle_turn K n so_far.config) (λ n. new_text all' outputs' (world_of so_far.config).marks (idle_turn K n so_far.config)) y z after.Waiting → IsGoing S' (turns - (turn + 1)) z
    idle_goes_on p = going_on S S' (λ n. idle_turns K n turns c) (λ n d. idle_turns K n (turns - turn) d) (λ n d. idle_turns K n (turns - (turn + 1)) d) (λ n d. idle_turn K n d)
        (λ n. turns_text all outputs K n turns c) (λ n d. turns_text all outputs K n (turns - turn) d) (λ n d. turns_text all outputs K n (turns - (turn + 1)) d) (λ n d. new_text all' outputs' (world_of d).marks (idle_turn K n d)) x y z so_far rest_is more_is p

    pub idle_ends : (a : After) (p : Printed S' (λ n. idle_turn K n so_far.config) (λ n. new_text all' outputs' (world_of so_far.config).marks (idle_turn K n so_far.config)) y z a) → Settled p.config
        → Printed S' (λ n. idle_turns K n turns c) (λ n. turns_text all outputs K n turns c) x z a
    idle_ends a p settled = going_ends S S' (λ n. idle_turns K n turns c) (λ n d. idle_turns K n (turns - turn) d) (λ n d. idle_turns K n (turns - (turn + 1)) d) (λ n d. idle_turn K n d)
        (λ n. turns_text all outputs K n turns c) (λ n d. turns_text all outputs K n (turns - turn) d) (λ n d. turns_text all outputs K n (turns - (turn + 1)) d) (λ n d. new_text all' outputs' (world_of d).marks (idle_turn K n d)) x y z so_far rest_is more_is a p
        (λ n. turns_stay K n (turns - (turn + 1)) p.config settled) (λ n. turns_print_nothing all outputs K n (turns - (turn + 1)) p.config settled)

    pub idle_fails : CutShort (λ n. new_text all' outputs' (world_of so_far.config).marks (idle_turn K n so_far.config)) y z → CutShort (λ n. turns_text all outputs K n turns c) x z
    idle_fails cut = going_fails S S' (λ n. idle_turns K n turns c) (λ n d. idle_turns K n (turns - turn) d) (λ n d. idle_turns K n (turns - (turn + 1)) d) (λ n d. idle_turn K n d)
        (λ n. turns_text all outputs K n turns c) (λ n d. turns_text all outputs K n (turns - turn) d) (λ n d. turns_text all outputs K n (turns - (turn + 1)) d) (λ n d. new_text all' outputs' (world_of d).marks (idle_turn K n d)) x y z so_far rest_is more_is cut

  -- those that are left change nothing
  pub idle_rests : (left : ℕ) (so_far : IsGoing S left y) → ((n : ℕ) → idle_turn K n so_far.config ≡ so_far.config) → Printed S (λ n. idle_turns K n turns c) (λ n. turns_text all outputs K n turns c) x y after.Waiting
  idle_rests left so_far same = going_done S (λ n. idle_turns K n turns c) (λ n d. idle_turns K n left d) (λ n. turns_text all outputs K n turns c) (λ n d. turns_text all outputs K n left d) x y so_far
      (λ n. turns_rest K n left so_far.config (same n)) (λ n. turns_print_no_more all outputs K n left so_far.config (same n))

pub still_waits : (S S' : Kernel → Config → Type 0) (later : Kernel → ℕ → Config → Config) (text : Kernel → ℕ → Config → List ℕ) (x y : Option (List ℕ)) (r : Result After Failed)
    → ((K : Kernel) (c : Config) → S K c → Prints (S' K) (λ n. later K n c) (λ n. text K n c) x y r) → StillWaits S S' r
still_waits S S' later text x y (Ok after.Waiting) prints = λ inputs w. let p = prints w.kernel (Waiting w.tree w.world) w.here in waits_again S S' inputs w p.config p.here p.status
still_waits S S' later text x y (Ok (after.Ended v)) prints = tt
still_waits S S' later text x y (Ok (after.Faulted fault place)) prints = tt
still_waits S S' later text x y (Err e) prints = tt
