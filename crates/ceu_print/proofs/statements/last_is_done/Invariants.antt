use Rattle.std.proofs.Common.{◌≡◌, false, length}
use Rattle.ceu_print.specs.Statements.{last_is_done}
use Rattle.ceu_print.proofs.statements.last_is_done.Given as goal

abbrev pub invariant-loop-items : goal.invariant-loop-items
invariant-loop-items l = last_is_done l.done l.items ≡ last_is_done false l.initial.items

abbrev pub decreases-loop-items : goal.decreases-loop-items
decreases-loop-items l = length l.items
