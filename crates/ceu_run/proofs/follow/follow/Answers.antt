use Rattle.std.proofs.Common.{ℕ, List, [], ◌∷◌, ◌++◌, Ok, Err, refl, ◌∙◌, subst}
use Rattle.ceu_io.specs.Told.{WhereTold}
use Rattle.ceu_script.specs.Lines.{script, Gives, GoesOnBehind}
use Rattle.ceu_script.specs.Places.{IsAt, Places}
use Rattle.ceu_script.specs.Reader.{ahead}
use Rattle.ceu_script.specs.declared.items.Item.{Item}
use Rattle.ceu_tree.specs.Run.{done}
use Rattle.ceu_run.specs.Printing.{Printed, command_text}
use Rattle.ceu_run.specs.declared.reactor.After.{After}
use Rattle.ceu_run.specs.Playing.{script_of}
use Rattle.ceu_run.proofs.Doing.{done_waits}
use Rattle.ceu_run.proofs.Following.{Reached}
use Rattle.ceu_run.proofs.ToldDone.{told_all, told_good, told_more, told_over}
use Rattle.ceu_run.proofs.Looping.{new_did, still_waiting, new_at, new_goes_on, new_moved, new_reached, moved_on, at_on, near_told, began_too, as_first, stops_end, stops_bad, stops_reading, goes_on, stops_over, stops_writing}
use Rattle.ceu_run.proofs.follow.follow.Goals as goal

pub lines-init : goal.lines-init
lines-init g c = record {
  going = λ K b here waits. new_reached (g.R.Reactor.stands c.args.reactor.now K) K b c.args.marks.now.all c.args.marks.now.outputs.now c.args.inputs.now c.new-reader.result c.new-reader.ensures (g.I.Source.left c.args.source.now) (g.O.Sink.held c.args.marks.now.out.now) here waits;
  did = λ K b start xs here waits is. new_did (λ ys. g.R.Reactor.ran start ys c.args.reactor.now) xs c.args.inputs.now c.new-reader.result c.new-reader.ensures (g.I.Source.left c.args.source.now) is;
  at = new_at c.new-reader.result c.new-reader.ensures (g.I.Source.left c.args.source.now);
  moved = new_moved c.new-reader.result c.new-reader.ensures (g.I.Source.left c.args.source.now);
  goes_on = new_goes_on c.new-reader.result c.new-reader.ensures;
  waits = c.requires.waits;
  same = (refl, refl, refl);
  source_quiet = refl;
  sink_quiet = refl;
}

pub returns-in-Err-clause-told : goal.returns-in-Err-clause-told
returns-in-Err-clause-told g c = λ K b here waits. stops_reading (g.R.Reactor.stands c.lines.reactor K) K b c.args.marks.now.all c.args.marks.now.outputs.now c.args.inputs.now c.lines.reader c.next.new.self (g.I.Source.left c.args.source.now) (g.I.Source.left c.lines.source) (g.I.Source.left c.next.new.src) (g.O.Sink.held c.args.marks.now.out.now) (g.O.Sink.held c.lines.marks.out.now) (c.lines.invariant.going K b here waits)
    (near_told c.lines.reader c.next.new.self (g.I.Source.left c.args.source.now) (g.I.Source.left c.lines.source) (g.I.Source.left c.next.new.src) c.lines.invariant.at c.lines.invariant.moved c.in-Err.ensures.places c.next.ensures.moved c.next.ensures.taken) c.in-Err.ensures.skipped

pub returns-in-End-clause-told : goal.returns-in-End-clause-told
returns-in-End-clause-told g c = λ K b here waits. stops_end (g.R.Reactor.stands c.lines.reactor K) K b c.args.marks.now.all c.args.marks.now.outputs.now c.args.inputs.now c.lines.reader c.next.new.self (g.I.Source.left c.args.source.now) (g.I.Source.left c.lines.source) (g.I.Source.left c.next.new.src) (g.O.Sink.held c.args.marks.now.out.now) (g.O.Sink.held c.lines.marks.out.now) (c.lines.invariant.going K b here waits)
    (near_told c.lines.reader c.next.new.self (g.I.Source.left c.args.source.now) (g.I.Source.left c.lines.source) (g.I.Source.left c.next.new.src) c.lines.invariant.at c.lines.invariant.moved (subst (λ (i : Item). WhereTold (g.I.Source.left c.lines.source) (g.I.Source.left c.next.new.src) (λ old new. (bytes : List ℕ) → IsAt bytes c.lines.reader (ahead c.lines.reader old) → Places (Ok i) bytes c.next.new.self (ahead c.next.new.self new))) c.in-End.is c.in-Ok.ensures.places) c.next.ensures.moved c.next.ensures.taken)
    (subst (λ (i : Item). WhereTold (g.I.Source.left c.lines.source) (g.I.Source.left c.next.new.src) (λ old new. Gives i c.lines.reader c.next.new.self (script c.args.inputs.now (ahead c.lines.reader old)) (script c.args.inputs.now (ahead c.next.new.self new)))) c.in-End.is c.in-Ok.ensures.told)

pub returns-in-End-clause-ran : goal.returns-in-End-clause-ran
returns-in-End-clause-ran g c = λ K b start xs here waits is. told_all (λ old. script c.args.inputs.now (script_of old)) (λ old. script c.args.inputs.now (ahead c.lines.reader old)) (λ new. script c.args.inputs.now (ahead c.next.new.self new)) (λ ys. g.R.Reactor.ran start ys c.lines.reactor) xs
    (g.I.Source.left c.args.source.now) (g.I.Source.left c.lines.source) (g.I.Source.left c.next.new.src) c.lines.reader.last.lines c.next.new.self.last.lines (c.lines.invariant.did K b start xs here waits is)
    (subst (λ (i : Item). WhereTold (g.I.Source.left c.lines.source) (g.I.Source.left c.next.new.src) (λ old new. Gives i c.lines.reader c.next.new.self (script c.args.inputs.now (ahead c.lines.reader old)) (script c.args.inputs.now (ahead c.next.new.self new)))) c.in-End.is c.in-Ok.ensures.told)

pub returns-in-Bad-clause-told : goal.returns-in-Bad-clause-told
returns-in-Bad-clause-told g c = λ K b here waits. stops_bad (g.R.Reactor.stands c.lines.reactor K) K b c.args.marks.now.all c.args.marks.now.outputs.now c.args.inputs.now c.lines.reader c.next.new.self (g.I.Source.left c.args.source.now) (g.I.Source.left c.lines.source) (g.I.Source.left c.next.new.src) (g.O.Sink.held c.args.marks.now.out.now) (g.O.Sink.held c.lines.marks.out.now) (c.lines.invariant.going K b here waits)
    (near_told c.lines.reader c.next.new.self (g.I.Source.left c.args.source.now) (g.I.Source.left c.lines.source) (g.I.Source.left c.next.new.src) c.lines.invariant.at c.lines.invariant.moved (subst (λ (i : Item). WhereTold (g.I.Source.left c.lines.source) (g.I.Source.left c.next.new.src) (λ old new. (bytes : List ℕ) → IsAt bytes c.lines.reader (ahead c.lines.reader old) → Places (Ok i) bytes c.next.new.self (ahead c.next.new.self new))) c.in-Bad.is c.in-Ok.ensures.places) c.next.ensures.moved c.next.ensures.taken)
    c.in-Bad.number c.in-Bad.kind (subst (λ (i : Item). GoesOnBehind i c.lines.reader c.next.new.self) c.in-Bad.is c.in-Ok.ensures.goes_on)
    (subst (λ (i : Item). WhereTold (g.I.Source.left c.lines.source) (g.I.Source.left c.next.new.src) (λ old new. Gives i c.lines.reader c.next.new.self (script c.args.inputs.now (ahead c.lines.reader old)) (script c.args.inputs.now (ahead c.next.new.self new)))) c.in-Bad.is c.in-Ok.ensures.told)

pub returns-in-Bad-clause-ran : goal.returns-in-Bad-clause-ran
returns-in-Bad-clause-ran g c = λ K b start xs here waits is. told_good (λ old. script c.args.inputs.now (script_of old)) (λ old. script c.args.inputs.now (ahead c.lines.reader old)) (λ new. script c.args.inputs.now (ahead c.next.new.self new)) (λ ys. g.R.Reactor.ran start ys c.lines.reactor) xs
    (g.I.Source.left c.args.source.now) (g.I.Source.left c.lines.source) (g.I.Source.left c.next.new.src) c.lines.reader.last.lines c.in-Bad.number (c.lines.invariant.did K b start xs here waits is)
    c.in-Bad.kind (subst (λ (i : Item). WhereTold (g.I.Source.left c.lines.source) (g.I.Source.left c.next.new.src) (λ old new. Gives i c.lines.reader c.next.new.self (script c.args.inputs.now (ahead c.lines.reader old)) (script c.args.inputs.now (ahead c.next.new.self new)))) c.in-Bad.is c.in-Ok.ensures.told)

pub returns-in-Err-command-clause-told : goal.returns-in-Err-command-clause-told
returns-in-Err-command-clause-told g c = λ K b here waits. stops_writing (g.R.Reactor.stands c.lines.reactor K) K b c.args.marks.now.all c.args.marks.now.outputs.now c.args.inputs.now c.lines.reader c.next.new.self (g.I.Source.left c.args.source.now) (g.I.Source.left c.lines.source) (g.I.Source.left c.next.new.src) (g.O.Sink.held c.args.marks.now.out.now) (g.O.Sink.held c.lines.marks.out.now) (c.lines.invariant.going K b here waits)
    (near_told c.lines.reader c.next.new.self (g.I.Source.left c.args.source.now) (g.I.Source.left c.lines.source) (g.I.Source.left c.next.new.src) c.lines.invariant.at c.lines.invariant.moved (began_too c.lines.reader c.next.new.self (g.I.Source.left c.lines.source) (g.I.Source.left c.next.new.src) (subst (λ (i : Item). WhereTold (g.I.Source.left c.lines.source) (g.I.Source.left c.next.new.src) (λ old new. (bytes : List ℕ) → IsAt bytes c.lines.reader (ahead c.lines.reader old) → Places (Ok i) bytes c.next.new.self (ahead c.next.new.self new))) c.in-Command.is c.in-Ok.ensures.places)) c.next.ensures.moved c.next.ensures.taken)
    c.in-Command.input (g.O.Sink.held c.command.new.marks.out.now) (subst (λ (i : Item). WhereTold (g.I.Source.left c.lines.source) (g.I.Source.left c.next.new.src) (λ old new. Gives i c.lines.reader c.next.new.self (script c.args.inputs.now (ahead c.lines.reader old)) (script c.args.inputs.now (ahead c.next.new.self new)))) c.in-Command.is c.in-Ok.ensures.told)
    (λ d stands still. (as_first (g.R.Reactor.stands c.command.new.reactor K) K c.args.marks.now.all c.lines.marks.all c.args.marks.now.outputs.now c.lines.marks.outputs.now c.in-Command.input d (g.O.Sink.held c.lines.marks.out.now) (g.O.Sink.held c.command.new.marks.out.now) (Err c.in-Err-command.field-0) c.lines.invariant.same.1 c.lines.invariant.same.0 (c.in-Err-command.ensures.printed K d stands still)))

pub lines-preserved : goal.lines-preserved
lines-preserved g c =
    let behind = subst (λ (i : Item). GoesOnBehind i c.lines.reader c.next.new.self) c.in-Command.is c.in-Ok.ensures.goes_on in
    record {
      going = λ K b here waits. goes_on (g.R.Reactor.stands c.lines.reactor K) K b c.args.marks.now.all c.args.marks.now.outputs.now c.args.inputs.now c.lines.reader c.next.new.self (g.I.Source.left c.args.source.now) (g.I.Source.left c.lines.source) (g.I.Source.left c.next.new.src) (g.O.Sink.held c.args.marks.now.out.now) (g.O.Sink.held c.lines.marks.out.now) (c.lines.invariant.going K b here waits)
          (near_told c.lines.reader c.next.new.self (g.I.Source.left c.args.source.now) (g.I.Source.left c.lines.source) (g.I.Source.left c.next.new.src) c.lines.invariant.at c.lines.invariant.moved (began_too c.lines.reader c.next.new.self (g.I.Source.left c.lines.source) (g.I.Source.left c.next.new.src) (subst (λ (i : Item). WhereTold (g.I.Source.left c.lines.source) (g.I.Source.left c.next.new.src) (λ old new. (bytes : List ℕ) → IsAt bytes c.lines.reader (ahead c.lines.reader old) → Places (Ok i) bytes c.next.new.self (ahead c.next.new.self new))) c.in-Command.is c.in-Ok.ensures.places)) c.next.ensures.moved c.next.ensures.taken)
          c.in-Command.input (g.O.Sink.held c.command.new.marks.out.now) (subst (λ (i : Item). WhereTold (g.I.Source.left c.lines.source) (g.I.Source.left c.next.new.src) (λ old new. Gives i c.lines.reader c.next.new.self (script c.args.inputs.now (ahead c.lines.reader old)) (script c.args.inputs.now (ahead c.next.new.self new)))) c.in-Command.is c.in-Ok.ensures.told) (g.R.Reactor.stands c.command.new.reactor K)
          (λ d stands still. subst (λ (a : After). Printed (g.R.Reactor.stands c.command.new.reactor K) (λ n. done K n c.in-Command.input d) (λ n. command_text c.args.marks.now.all c.args.marks.now.outputs.now K n c.in-Command.input d) (g.O.Sink.held c.lines.marks.out.now) (g.O.Sink.held c.command.new.marks.out.now) a) c.in-Waiting.is
          (as_first (g.R.Reactor.stands c.command.new.reactor K) K c.args.marks.now.all c.lines.marks.all c.args.marks.now.outputs.now c.lines.marks.outputs.now c.in-Command.input d (g.O.Sink.held c.lines.marks.out.now) (g.O.Sink.held c.command.new.marks.out.now) (Ok c.in-Ok-command.after) c.lines.invariant.same.1 c.lines.invariant.same.0 (c.in-Ok-command.ensures.printed K d stands still)));
      did = λ K b start xs here waits is. told_more (λ old. script c.args.inputs.now (script_of old)) (λ old. script c.args.inputs.now (ahead c.lines.reader old)) (λ new. script c.args.inputs.now (ahead c.next.new.self new)) (λ ys. g.R.Reactor.ran start ys c.lines.reactor) xs
          (g.I.Source.left c.args.source.now) (g.I.Source.left c.lines.source) (g.I.Source.left c.next.new.src) c.lines.reader.last.lines c.next.new.self.last.lines (c.lines.invariant.did K b start xs here waits is)
          (λ old now. Reached (g.R.Reactor.stands c.lines.reactor K) K b c.args.marks.now.all c.args.marks.now.outputs.now (script c.args.inputs.now (script_of old)) (script c.args.inputs.now (ahead c.lines.reader now)) c.lines.reader.last.lines (g.O.Sink.held c.args.marks.now.out.now) (g.O.Sink.held c.lines.marks.out.now))
          (g.R.Reactor.stands c.lines.reactor K) (λ old now so_far. (so_far.config, so_far.here, so_far.waits)) (c.lines.invariant.going K b here waits) c.in-Command.input (λ ys. g.R.Reactor.ran start ys c.command.new.reactor)
          (λ d ys stands still did. done_waits (λ zs. g.R.Reactor.ran start zs c.command.new.reactor) (ys ++ c.in-Command.input ∷ []) c.in-Ok-command.after c.in-Waiting.is (c.in-Ok-command.ensures.ran K d start ys stands still did))
          (subst (λ (i : Item). WhereTold (g.I.Source.left c.lines.source) (g.I.Source.left c.next.new.src) (λ old new. Gives i c.lines.reader c.next.new.self (script c.args.inputs.now (ahead c.lines.reader old)) (script c.args.inputs.now (ahead c.next.new.self new)))) c.in-Command.is c.in-Ok.ensures.told);
      at = at_on c.lines.reader c.next.new.self (g.I.Source.left c.args.source.now) (g.I.Source.left c.lines.source) (g.I.Source.left c.next.new.src) c.lines.invariant.at (subst (λ (i : Item). WhereTold (g.I.Source.left c.lines.source) (g.I.Source.left c.next.new.src) (λ old new. (bytes : List ℕ) → IsAt bytes c.lines.reader (ahead c.lines.reader old) → Places (Ok i) bytes c.next.new.self (ahead c.next.new.self new))) c.in-Command.is c.in-Ok.ensures.places);
      moved = moved_on c.lines.reader c.next.new.self (g.I.Source.left c.args.source.now) (g.I.Source.left c.lines.source) (g.I.Source.left c.next.new.src) c.lines.invariant.moved c.next.ensures.moved;
      goes_on = behind.0;
      waits = still_waiting (g.R.Reactor.stands c.lines.reactor) (g.R.Reactor.stands c.command.new.reactor) c.in-Ok-command.after c.args.inputs.now c.in-Waiting.is c.in-Ok-command.ensures.waits c.lines.invariant.waits;
      same = let k = c.command.ensures.kept in let s = c.lines.invariant.same in (k.0 ∙ s.0, k.1 ∙ s.1, k.2 ∙ s.2);
      source_quiet = c.in-Ok.ensures.cause ∙ c.lines.invariant.source_quiet;
      sink_quiet = c.in-Ok-command.ensures.cause ∙ c.lines.invariant.sink_quiet;
    }

pub returns-in_default-clause-told : goal.returns-in_default-clause-told
returns-in_default-clause-told g c = λ K b here waits. stops_over (g.R.Reactor.stands c.lines.reactor K) K b c.args.marks.now.all c.args.marks.now.outputs.now c.args.inputs.now c.lines.reader c.next.new.self (g.I.Source.left c.args.source.now) (g.I.Source.left c.lines.source) (g.I.Source.left c.next.new.src) (g.O.Sink.held c.args.marks.now.out.now) (g.O.Sink.held c.lines.marks.out.now) (c.lines.invariant.going K b here waits)
    (near_told c.lines.reader c.next.new.self (g.I.Source.left c.args.source.now) (g.I.Source.left c.lines.source) (g.I.Source.left c.next.new.src) c.lines.invariant.at c.lines.invariant.moved (began_too c.lines.reader c.next.new.self (g.I.Source.left c.lines.source) (g.I.Source.left c.next.new.src) (subst (λ (i : Item). WhereTold (g.I.Source.left c.lines.source) (g.I.Source.left c.next.new.src) (λ old new. (bytes : List ℕ) → IsAt bytes c.lines.reader (ahead c.lines.reader old) → Places (Ok i) bytes c.next.new.self (ahead c.next.new.self new))) c.in-Command.is c.in-Ok.ensures.places)) c.next.ensures.moved c.next.ensures.taken)
    c.in-Command.input (g.O.Sink.held c.command.new.marks.out.now) (subst (λ (i : Item). WhereTold (g.I.Source.left c.lines.source) (g.I.Source.left c.next.new.src) (λ old new. Gives i c.lines.reader c.next.new.self (script c.args.inputs.now (ahead c.lines.reader old)) (script c.args.inputs.now (ahead c.next.new.self new)))) c.in-Command.is c.in-Ok.ensures.told)
    c.in-Ok-command.after (g.R.Reactor.stands c.command.new.reactor K) c.in_default.not-Waiting
    (λ d stands still. (as_first (g.R.Reactor.stands c.command.new.reactor K) K c.args.marks.now.all c.lines.marks.all c.args.marks.now.outputs.now c.lines.marks.outputs.now c.in-Command.input d (g.O.Sink.held c.lines.marks.out.now) (g.O.Sink.held c.command.new.marks.out.now) (Ok c.in-Ok-command.after) c.lines.invariant.same.1 c.lines.invariant.same.0 (c.in-Ok-command.ensures.printed K d stands still)))

pub returns-in_default-clause-ran : goal.returns-in_default-clause-ran
returns-in_default-clause-ran g c = λ K b start xs here waits is. told_over (λ old. script c.args.inputs.now (script_of old)) (λ old. script c.args.inputs.now (ahead c.lines.reader old)) (λ new. script c.args.inputs.now (ahead c.next.new.self new)) (λ ys. g.R.Reactor.ran start ys c.lines.reactor) xs
    (g.I.Source.left c.args.source.now) (g.I.Source.left c.lines.source) (g.I.Source.left c.next.new.src) c.lines.reader.last.lines c.next.new.self.last.lines (c.lines.invariant.did K b start xs here waits is)
    (λ old now. Reached (g.R.Reactor.stands c.lines.reactor K) K b c.args.marks.now.all c.args.marks.now.outputs.now (script c.args.inputs.now (script_of old)) (script c.args.inputs.now (ahead c.lines.reader now)) c.lines.reader.last.lines (g.O.Sink.held c.args.marks.now.out.now) (g.O.Sink.held c.lines.marks.out.now))
    (g.R.Reactor.stands c.lines.reactor K) (λ old now so_far. (so_far.config, so_far.here, so_far.waits)) (c.lines.invariant.going K b here waits) c.in-Command.input (λ ys. g.R.Reactor.ran start ys c.command.new.reactor) c.in-Ok-command.after
    (λ d ys stands still did. c.in-Ok-command.ensures.ran K d start ys stands still did)
    (subst (λ (i : Item). WhereTold (g.I.Source.left c.lines.source) (g.I.Source.left c.next.new.src) (λ old new. Gives i c.lines.reader c.next.new.self (script c.args.inputs.now (ahead c.lines.reader old)) (script c.args.inputs.now (ahead c.next.new.self new)))) c.in-Command.is c.in-Ok.ensures.told)
    c.in_default.not-Waiting
