-- The machine over a list of tokens.
use Rattle.std.specs.Prelude.{◌≡◌, ℕ, suc, ◌<◌, ◌⊎◌, List, [], ◌∷◌, ◌++◌, Option, Some, None, take, length}
use Rattle.ceu_tree.specs.declared.source.Node.{Node}
use Rattle.ceu_tree.specs.declared.source.Stmt as stmt
use Rattle.ceu_syntax.specs.declared.machine.Frame.{Frame}
use Rattle.ceu_syntax.specs.declared.machine.Frame.TheVariants as f
use Rattle.ceu_syntax.specs.declared.machine.Declaring.TheVariants as d
use Rattle.ceu_syntax.specs.declared.machine.Mode.{Mode}
use Rattle.ceu_syntax.specs.declared.machine.Mode.TheVariants as m
use Rattle.ceu_syntax.specs.declared.terminal.Terminal.{Terminal}
use Rattle.ceu_syntax.specs.Steps.{State, state, moved}
use Rattle.ceu_syntax.specs.Trees.{node}

abbrev pub step : Terminal → State → Option State
step t s = moved t.kind t.pos s.stack s.mode

abbrev pub then_run : (State → Option State) → Option State → Option State
then_run go None = None
then_run go (Some s) = go s

-- None at a token with which nothing goes on
unfoldable pub run : List Terminal → State → Option State
run [] s = Some s
run (t ∷ ts) s = then_run (run ts) (step t s)

abbrev pub begun : State
begun = state [] (m.In [])

-- A variable's value that ended with `end` may end its statement.
abbrev pub settle : Mode → List Frame → State
settle (m.Declaring (d.ItemEnd ty is)) (f.Begun ns at ∷ K) = state K (m.In (ns ++ node at (stmt.Vars ty is) ∷ []))
settle mode K = state K mode

abbrev pub settled : State → State
settled s = settle s.mode s.stack

abbrev pub whole : List Frame → Mode → Option (List Node)
whole [] (m.In ns) = Some ns
whole _ _ = None

-- the statements, where the program may end
abbrev pub finish : State → Option (List Node)
finish s = whole (settled s).stack (settled s).mode

-- The run ends at k: at a token, or behind the last one.
abbrev pub Ends : List Terminal → ℕ → Type 0
Ends tokens k = (s : State) × (run (take k tokens) begun ≡ Some s) × (((k < length tokens) × (run (take (suc k) tokens) begun ≡ None)) ⊎ ((k ≡ length tokens) × (finish s ≡ None)))

abbrev pub Accepts : List Terminal → List Node → Type 0
Accepts tokens ns = (s : State) × (run tokens begun ≡ Some s) × (finish s ≡ Some ns)
