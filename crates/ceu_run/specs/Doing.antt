-- Commands that a reactor has done.
use Rattle.std.specs.Prelude.{List, ◌++◌}
use Rattle.ceu_tree.specs.declared.command.Command.{Command}
use Rattle.ceu_run.specs.declared.answers.Played.{Played}
use Rattle.ceu_run.specs.declared.answers.Played.TheVariants.{Done, Fault, Script as BadScript, Read, Write}
use Rattle.ceu_run.specs.declared.follow.Stop.{Stop}
use Rattle.ceu_run.specs.declared.follow.Stop.TheVariants as stop
use Rattle.ceu_run.specs.declared.reactor.After.{After}
use Rattle.ceu_run.specs.declared.reactor.After.TheVariants as after

-- These commands are done. Where the program waits no longer, so is any command behind them, which changes nothing.
abbrev pub HasDone : (ran : List Command → Type 0) → List Command → After → Type 0
HasDone ran xs after.Waiting = ran xs
HasDone ran xs (after.Ended v) = (more : List Command) → ran (xs ++ more)
HasDone ran xs (after.Faulted fault place) = (more : List Command) → ran (xs ++ more)

-- P holds, where nothing outside stopped the lines of a script ..
abbrev pub WhereStopped : Stop → (P : Type 0) → Type 0
WhereStopped stop.Read P = Unit {0}
WhereStopped stop.Write P = Unit {0}
WhereStopped stop.End P = P
WhereStopped (stop.Bad number kind) P = P
WhereStopped (stop.Over after) P = P

-- .. or a run.
abbrev pub WherePlayed : Played → (P : Type 0) → Type 0
WherePlayed Read P = Unit {0}
WherePlayed Write P = Unit {0}
WherePlayed Done P = P
WherePlayed Fault P = P
WherePlayed BadScript P = P
