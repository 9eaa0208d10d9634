use Rattle.ceu_script.specs.Reader.{GoesOn}
use Rattle.ceu_script.proofs.tests.end_of.Given as goal

abbrev pub invariant-loop : goal.invariant-loop
invariant-loop l = GoesOn l.reader
