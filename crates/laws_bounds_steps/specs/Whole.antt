-- What a step of a turn pays in the whole tree (this project's own): an emission, a spawn and a kill reach beyond the trail's own part.
use Rattle.std.specs.Prelude.{◌≡◌, ℕ, suc, ◌+◌, ℤ, pos, Bool, List}
use Rattle.ceu_tree.specs.declared.kernel.Kernel.{Kernel}
use Rattle.ceu_tree.specs.declared.kernel.KNode.{KNode}
use Rattle.ceu_tree.specs.declared.kernel.KStmt.{out-KStmt}
use Rattle.ceu_tree.specs.declared.kernel.KStmt.TheOpen.{KStmt-F}
use Rattle.ceu_tree.specs.Residual.{Act, Start, Finish, Residual, Run}
use Rattle.ceu_tree.specs.Focus.{Focus, plug, leaf}
use Rattle.ceu_tree.specs.Wake.{by_event, woken}
use Rattle.ceu_tree.specs.Around.{Outcome, Goes, Rests, Raises}
use Rattle.ceu_tree.specs.Costs.{Cost, cost, plus}
use Rattle.ceu_tree.specs.Step.{event_code}
use Rattle.ceu_tree.specs.Proper.{Proper}
use Rattle.laws_meaning_basics.specs.Shape.{program_part, TurnFits}
use Rattle.laws_bounds_steps.specs.Due.{due}
use Rattle.laws_bounds_steps.specs.Pays.{Within}
use Rattle.laws_bounds_steps.specs.Heads.{heads_reached}

-- what a turn of that level has come to, where r was left with the turn in it: it goes on, is over and has paid its turn, or has opened a level too
abbrev pub PaidBy : (passing : List Bool) (events entering : List Cost) (level : ℕ) → Residual → Outcome → Type 0
PaidBy passing events entering n r (Goes g) = Within (due passing events entering (plug g (Run n (leaf g)))) (due passing events entering r)
PaidBy passing events entering n r (Rests q) = Within (plus (cost 1 0) (due passing events entering q)) (due passing events entering r)
PaidBy passing events entering n r (Raises q) = Within (plus (cost 1 1) (due passing events entering q)) (due passing events entering r)
PaidBy passing events entering n r x = Unit {0}

-- The trails that an emission wakes cost no more than before, but for the loops that the event paces, which it reaches.
abbrev pub WakingCosts : List Bool → List Cost → List Cost → Kernel → Type 0
WakingCosts passing events entering K = (n : ℕ) (f : Focus Act) (s : KNode) (e : ℕ) (x : _) (v : ℤ)
    → Proper K → TurnFits K (suc n) (program_part K) f → leaf f ≡ Start s → out-KStmt s.stmt ≡ KStmt-F.Emit e x
    → Within (due passing events entering (woken (event_code e K.events) (by_event (n + 1) e v) f (Run n (Finish s (pos 0)))))
    (plus (due passing events entering (plug f (Run n (Finish s (pos 0))))) (heads_reached passing events entering e (event_code e K.events) f (Run n (Finish s (pos 0)))))
