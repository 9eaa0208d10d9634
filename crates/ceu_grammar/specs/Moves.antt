-- What a step of the parser gives, beside the machine's step.
use Rattle.std.specs.Prelude.{◌≡◌, ℕ, List, ◌∷◌, Option, Some, None, Result, Ok, Err}
use Rattle.ceu_tree.specs.declared.source.Exp.{Exp}
use Rattle.ceu_tree.specs.declared.source.Node.{Node}
use Rattle.ceu_syntax.specs.declared.machine.Frame.{Frame}
use Rattle.ceu_syntax.specs.declared.machine.Mode.{Mode}
use Rattle.ceu_syntax.specs.Steps.{State, state, Gathered, Held, held, reduce}
use Rattle.ceu_grammar.specs.declared.expressions.Reduction.{Reduction}
use Rattle.ceu_grammar.specs.declared.expressions.Reduction.TheVariants.{Done, Kept}
use Rattle.ceu_grammar.specs.declared.stop.Stop.{Stop}
use Rattle.ceu_grammar.specs.declared.stop.Stop.TheVariants.{Memory, Wrong}

-- the next state of the machine, or none where it takes no such token; want of memory says nothing
abbrev pub Moves : Result Mode Stop → List Frame → Option State → Type 0
Moves (Ok mode) K next = next ≡ Some (state K mode)
Moves (Err Wrong) K next = next ≡ None
Moves (Err Memory) K next = Unit {0}

-- the same of an expression and what is open around it
abbrev pub Reduces : Result Exp Stop → List Frame → Held → Type 0
Reduces (Ok e) K h = h ≡ held e K
Reduces (Err Wrong) K h = ⊥
Reduces (Err Memory) K h = Unit {0}

-- the same of one open operator, or of what is no operator
abbrev pub Folds : Result Reduction Stop → ℕ → Exp → Frame → Type 0
Folds (Ok (Done x)) p e frame = (K : List Frame) → reduce p e (frame ∷ K) ≡ reduce p x K
Folds (Ok (Kept f x)) p e frame = (K : List Frame) → reduce p e (frame ∷ K) ≡ held x (f ∷ K)
Folds (Err Wrong) p e frame = ⊥
Folds (Err Memory) p e frame = Unit {0}

-- the same of the statements of a block
abbrev pub Gathers : Result (List Node) Stop → List Frame → Option Gathered → Type 0
Gathers (Ok ns) K next = next ≡ Some (record { nodes = ns; stack = K })
Gathers (Err Wrong) K next = next ≡ None
Gathers (Err Memory) K next = Unit {0}

-- the same of the statements of the program
abbrev pub Finishes : Result (List Node) Stop → Option (List Node) → Type 0
Finishes (Ok ns) o = o ≡ Some ns
Finishes (Err Wrong) o = o ≡ None
Finishes (Err Memory) o = Unit {0}
