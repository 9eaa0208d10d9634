-- What a trail does in instructions, as steps of its turn.
use Rattle.std.proofs.Common.{◌≡◌, ap, ◌∙◌, ℕ, suc, ◌+◌, List, [], Option, Some, arith}
use Rattle.std.proofs.lemmas.List.{append-nil}
use Rattle.ceu_base.specs.declared.kinds.Mark.{Mark}
use Rattle.ceu_code.specs.declared.image.Image.{Image}
use Rattle.ceu_code.specs.declared.instr.Instr.{Instr}
use Rattle.ceu_isa.specs.declared.registers.Registers.{Registers}
use Rattle.ceu_isa.specs.Fetching.{fetched}
use Rattle.ceu_isa.specs.Effects.{Effect, Goes, Faults}
use Rattle.ceu_isa.specs.Rows.{effect}
use Rattle.ceu_isa.specs.Turns.{Machine, Trail, behind, trail_did, trail_does, tick, ticks}
use Rattle.laws_machine_code.specs.Does.{Does, stays, goes, steps_of}
use Rattle.laws_machine_code.specs.Laws.{InstructionsAreSteps}

abbrev machine : List ℕ → List Mark → Machine
machine bytes marks = record { bytes = bytes; marks = marks }

-- one instruction is one step
pub one_tick : (image : Image) (n : ℕ) (r : Registers) (m : Machine) (i : Instr) (e : Effect) → fetched image r.at ≡ Some i → effect image i (behind i r) m.bytes ≡ e
    → ticks image (suc n) (Trail r m) ≡ ticks image n (trail_did image e (behind i r) m)
unfolding tick ticks
one_tick image n r m i e f is = ap (λ (o : Option Instr). ticks image n (trail_does image o r m)) f ∙ ap (λ (x : Effect). ticks image n (trail_did image x (behind i r) m)) is

-- and behind them the turn goes on
pub does_ticks : (image : Image) (marks : List Mark) (n : ℕ) (r q : Registers) (bytes after : List ℕ) (does : Does image r bytes q after)
    → ticks image (steps_of does + n) (Trail r (machine bytes marks)) ≡ ticks image n (Trail q (machine after marks))
does_ticks image marks n r q bytes after stays = ap (λ (k : ℕ). ticks image k (Trail r (machine bytes marks))) (let e : 0 + n ≡ n = omega arith in e)
does_ticks image marks n r q bytes after (goes {s = s} {between = between} i f m e rest) =
    ap (λ (k : ℕ). ticks image k (Trail r (machine bytes marks))) (let h : steps_of rest + 1 + n ≡ suc (steps_of rest + n) = omega arith in h)
    ∙ one_tick image (steps_of rest + n) r (machine bytes marks) i (Goes s between []) f e
    ∙ ap (λ (x : List Mark). ticks image (steps_of rest + n) (Trail s (machine between x))) (append-nil marks)
    ∙ does_ticks image marks n s q between after rest

pub instructions_are_steps : InstructionsAreSteps
unfolding ticks
instructions_are_steps image r m = (
  λ q after does. ap (λ (k : ℕ). ticks image k (Trail r m)) (let e : steps_of does ≡ steps_of does + 0 = omega arith in e) ∙ does_ticks image m.marks 0 r q m.bytes after does,
  λ to fault place fails.
      does_ticks image m.marks 1 r fails.at m.bytes fails.there fails.does
      ∙ one_tick image 0 fails.at (machine fails.there m.marks) fails.last (Faults fault place) fails.last_is fails.faults,
)
