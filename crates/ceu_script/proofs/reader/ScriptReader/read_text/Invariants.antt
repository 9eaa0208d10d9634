use Rattle.std.proofs.Common.{◌≡◌, ◌+◌, ◌-◌, ◌≤◌, length}
use Rattle.ceu_io.specs.Told.{WhereTold}
use Rattle.ceu_script.specs.Reader.{ahead, position}
use Rattle.ceu_script.proofs.Front.{Seen}
use Rattle.ceu_script.proofs.reader.ScriptReader.read_text.Given as goal

abbrev pub invariant-loop-byte : goal.invariant-loop-byte
invariant-loop-byte g l = record {
  seen : WhereTold (g.I.Source.left l.fn.src) (g.I.Source.left l.src) (λ old new. Seen l.text.items (ahead l.fn.self old) (ahead l.self new));
  moved : WhereTold (g.I.Source.left l.fn.src) (g.I.Source.left l.src) (λ old new. l.self.taken + length new ≡ l.fn.self.taken + length old);
  quiet : g.I.Source.faults l.src ≡ g.I.Source.faults l.fn.src;
  last : l.self.last ≡ l.fn.self.last;
  here : position l.self ≡ position l.fn.self + length l.text.items;
  size : length l.text.items ≤ 201;
}

abbrev pub decreases-loop-byte : goal.decreases-loop-byte
decreases-loop-byte g l = 202 - length l.text.items
