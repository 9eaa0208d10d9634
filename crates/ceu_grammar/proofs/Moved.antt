-- How the answers of the parser's steps follow from each other.
use Rattle.std.proofs.Common.{◌≡◌, sym, ap, subst, ◌∙◌, List, [], ◌∷◌, Option, None, Result, Err}
use Rattle.ceu_tree.specs.declared.source.Node.{Node}
use Rattle.ceu_syntax.specs.declared.machine.Frame.{Frame}
use Rattle.ceu_syntax.specs.declared.machine.Mode.{Mode}
use Rattle.ceu_syntax.specs.Steps.{State, Gathered, Held}
use Rattle.ceu_grammar.specs.declared.stop.Stop.{Stop}
use Rattle.ceu_grammar.specs.declared.stop.Stop.TheVariants.{Memory, Wrong}
use Rattle.ceu_grammar.specs.Moves.{Moves, Gathers, Reduces, Finishes}

-- no token goes on; memory is wanting
pub refused : (r : Result Mode Stop) (K : List Frame) (next : Option State) → r ≡ Err Wrong → next ≡ None → Moves r K next
refused r K next e h = subst (λ s. Moves s K next) (sym e) h

pub exhausted : (r : Result Mode Stop) (K : List Frame) (next : Option State) → r ≡ Err Memory → Moves r K next
exhausted r K next e = subst (λ s. Moves s K next) (sym e) tt

-- the same next state, spelled in another way
pub moves_as : (r : Result Mode Stop) (K : List Frame) (a b : Option State) → a ≡ b → Moves r K a → Moves r K b
moves_as r K a b e h = subst (λ s. Moves r K s) e h

-- what is open is a frame on top of the rest
pub popped : (F : List Frame → Option State) (r : Result Mode Stop) (K before after : List Frame) (frame : Frame) → before ≡ frame ∷ after → Moves r K (F (frame ∷ after)) → Moves r K (F before)
popped F r K before after frame e h = subst (λ l. Moves r K (F l)) (sym e) h

pub nothing_open : (F : List Frame → Option State) (r : Result Mode Stop) (K before : List Frame) → before ≡ [] → Moves r K (F []) → Moves r K (F before)
nothing_open F r K before e h = subst (λ l. Moves r K (F l)) (sym e) h

pub ungathered : (stop : Stop) (K : List Frame) (next : Option Gathered) → stop ≡ Wrong → next ≡ None → Gathers (Err stop) K next
ungathered stop K next e h = subst (λ s. Gathers (Err s) K next) (sym e) h

pub gathered_on : (F : List Frame → Option Gathered) (r : Result (List Node) Stop) (K before after : List Frame) (frame : Frame) → before ≡ frame ∷ after → Gathers r K (F (frame ∷ after)) → Gathers r K (F before)
gathered_on F r K before after frame e h = subst (λ l. Gathers r K (F l)) (sym e) h

pub gathered_none : (F : List Frame → Option Gathered) (r : Result (List Node) Stop) (K before : List Frame) → before ≡ [] → Gathers r K (F []) → Gathers r K (F before)
gathered_none F r K before e h = subst (λ l. Gathers r K (F l)) (sym e) h

pub unreduced : (stop : Stop) (K : List Frame) (h : Held) → stop ≡ Memory → Reduces (Err stop) K h
unreduced stop K h e = subst (λ s. Reduces (Err s) K h) (sym e) tt

-- a reduction stops only for want of memory
pub reduce_stops : (stop : Stop) (K L : List Frame) (h : Held) (next : Option State) → Reduces (Err stop) K h → Moves (Err stop) L next
reduce_stops Wrong K L h next r = absurd r
reduce_stops Memory K L h next r = tt

pub gather_stops : (stop : Stop) (K L : List Frame) (g : Option Gathered) (F : Option Gathered → Option State) → F None ≡ None → Gathers (Err stop) K g → Moves (Err stop) L (F g)
gather_stops Wrong K L g F e h = ap F h ∙ e
gather_stops Memory K L g F e h = tt

pub unfinished : (stop : Stop) (o : Option (List Node)) → stop ≡ Wrong → o ≡ None → Finishes (Err stop) o
unfinished stop o e h = subst (λ s. Finishes (Err s) o) (sym e) h
