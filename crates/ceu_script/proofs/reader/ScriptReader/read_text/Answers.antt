use Rattle.std.proofs.Common.{sym, ◌∙◌, subst, arith}
use Rattle.std.proofs.lemmas.Bool.Decides.{nat_tests}
use Rattle.ceu_io.specs.Told.{WhereTold}
use Rattle.ceu_script.specs.Reader.{ahead}
use Rattle.ceu_script.specs.Bytewise.{PassesByte}
use Rattle.ceu_script.proofs.Front.{Seen, moved_then, push_seen, newline_stops, long_stops, last_stops, over_stops}
use Rattle.ceu_script.proofs.reader.ScriptReader.read_text.Goals as goal

pub returns-in-Byte-eq10-clause-told : goal.returns-in-Byte-eq10-clause-told
returns-in-Byte-eq10-clause-told g c = newline_stops _ _ _ _ _ _ _ _ c.loop-byte.invariant.seen c.in_ok-next_byte.ensures.told _ c.in-Byte-eq10.is c.in-Byte-eq10.field-0-test

pub returns-then-is_full-clause-told : goal.returns-then-is_full-clause-told
returns-then-is_full-clause-told g c = long_stops _ _ _ _ _ _ _ _ c.loop-byte.invariant.seen c.in_ok-next_byte.ensures.told _ c.in-Byte.is c.in-Byte.byte-test.1 (grind (arith, nat_tests, c.if-is_full.ensures.value))

pub loop-byte-preserved : goal.loop-byte-preserved
loop-byte-preserved g c = record {
  seen = subst (λ l. WhereTold (g.I.Source.left c.args.src.now) (g.I.Source.left c.next_byte.new.src) (λ old new. Seen l (ahead c.args.self.now old) (ahead c.next_byte.new.self new))) (sym c.push.ensures.items)
      (push_seen _ _ _ _ _ _ _ _ c.loop-byte.invariant.seen c.in_ok-next_byte.ensures.told _ c.in-Byte.is c.in-Byte.byte-test.1);
  moved = moved_then _ _ _ c.args.self.now.taken c.loop-byte.self.taken c.next_byte.new.self.taken c.loop-byte.invariant.moved c.next_byte.ensures.moved;
  quiet = c.in_ok-next_byte.ensures.cause ∙ c.loop-byte.invariant.quiet;
  last = c.next_byte.ensures.last ∙ c.loop-byte.invariant.last;
  here = omega (arith, subst (λ b. PassesByte b c.loop-byte.self c.next_byte.new.self) c.in-Byte.is c.in_ok-next_byte.ensures.here, c.loop-byte.invariant.here, c.push.ensures.len);
  size = grind (arith, nat_tests, c.if-is_full.ensures.value, c.push.ensures.len, c.loop-byte.invariant.size);
}

pub returns-in-Last-clause-told : goal.returns-in-Last-clause-told
returns-in-Last-clause-told g c = last_stops _ _ _ _ _ _ _ _ c.loop-byte.invariant.seen c.in_ok-next_byte.ensures.told c.in-Last.is

pub returns-in-Over-clause-told : goal.returns-in-Over-clause-told
returns-in-Over-clause-told g c = over_stops _ _ _ _ _ _ _ _ c.loop-byte.invariant.seen c.in_ok-next_byte.ensures.told c.in-Over.is c.loop-byte.invariant.size

pub returns-in_err-next_byte-clause-moved : goal.returns-in_err-next_byte-clause-moved
returns-in_err-next_byte-clause-moved g c = moved_then _ _ _ c.args.self.now.taken c.loop-byte.self.taken c.next_byte.new.self.taken c.loop-byte.invariant.moved c.next_byte.ensures.moved

pub returns-in-Byte-eq10-clause-moved : goal.returns-in-Byte-eq10-clause-moved
returns-in-Byte-eq10-clause-moved g c = moved_then _ _ _ c.args.self.now.taken c.loop-byte.self.taken c.next_byte.new.self.taken c.loop-byte.invariant.moved c.next_byte.ensures.moved

pub returns-then-is_full-clause-moved : goal.returns-then-is_full-clause-moved
returns-then-is_full-clause-moved g c = moved_then _ _ _ c.args.self.now.taken c.loop-byte.self.taken c.next_byte.new.self.taken c.loop-byte.invariant.moved c.next_byte.ensures.moved

pub returns-in-Last-clause-moved : goal.returns-in-Last-clause-moved
returns-in-Last-clause-moved g c = moved_then _ _ _ c.args.self.now.taken c.loop-byte.self.taken c.next_byte.new.self.taken c.loop-byte.invariant.moved c.next_byte.ensures.moved

pub returns-in-Over-clause-moved : goal.returns-in-Over-clause-moved
returns-in-Over-clause-moved g c = moved_then _ _ _ c.args.self.now.taken c.loop-byte.self.taken c.next_byte.new.self.taken c.loop-byte.invariant.moved c.next_byte.ensures.moved
