use Rattle.std.proofs.Common.{◌≡◌, ◌+◌, ◌-◌, ◌≤◌, ℕ, List, length}
use Rattle.ceu_io.specs.Told.{WhereTold}
use Rattle.ceu_script.specs.Places.{IsAt}
use Rattle.ceu_script.specs.Reader.{GoesOn, ahead, position, budget}
use Rattle.ceu_script.proofs.Skipping.{SkippedTo}
use Rattle.ceu_script.proofs.reader.ScriptReader.next_line.Given as goal

abbrev pub invariant-loop-text : goal.invariant-loop-text
invariant-loop-text g l = record {
  skipped : SkippedTo l.fn.self l.self (g.I.Source.left l.fn.src) (g.I.Source.left l.src);
  at : WhereTold (g.I.Source.left l.fn.src) (g.I.Source.left l.src) (λ old new. (bytes : List ℕ) → IsAt bytes l.fn.self (ahead l.fn.self old) → IsAt bytes l.self (ahead l.self new));
  moved : WhereTold (g.I.Source.left l.fn.src) (g.I.Source.left l.src) (λ old new. l.self.taken + length new ≡ l.fn.self.taken + length old);
  quiet : g.I.Source.faults l.src ≡ g.I.Source.faults l.fn.src;
  goes_on : GoesOn l.self;
  behind : position l.fn.self ≤ position l.self;
}

abbrev pub decreases-loop-text : goal.decreases-loop-text
decreases-loop-text g l = budget - position l.self
