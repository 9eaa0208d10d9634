use Rattle.std.proofs.Common.{[], length, ◌∙◌, ap}
use Rattle.ceu_io.proofs.Telling.{where_told_map, where_told_same}
use Rattle.ceu_script.specs.Lines.{script}
use Rattle.ceu_run.specs.Printing.{commands_of, status_line}
use Rattle.ceu_run.specs.Reactions.{status_after}
use Rattle.ceu_run.specs.Playing.{script_of}
use Rattle.ceu_run.specs.Stops.{Near}
use Rattle.ceu_run.specs.declared.follow.Stop.TheVariants as stop
use Rattle.ceu_run.proofs.Doing.{done_over, done_waits, stop_played}
use Rattle.ceu_run.proofs.Finishing.{waits_after_boot, over_at_once, stop_plays, boot_breaks, over_causes, as_booted}
use Rattle.ceu_run.proofs.playing.play_marks.Goals as goal

pub returns-in-Err-clause-told : goal.returns-in-Err-clause-told
returns-in-Err-clause-told g c = λ K fresh. where_told_same (g.I.Source.left c.args.source.now) _
    (λ old. boot_breaks K (script c.args.inputs.now (script_of old)) old c.args.marks.now.all c.args.marks.now.outputs.now (g.O.Sink.held c.args.marks.now.out.now) (g.O.Sink.held c.boot.new.marks.out.now) (c.in-Err.ensures.printed K fresh))

pub returns-in-Err-clause-ran : goal.returns-in-Err-clause-ran
returns-in-Err-clause-ran g c = where_told_same (g.I.Source.left c.args.source.now) _ (λ old. tt)

pub follow-stop-requires-clause-waits : goal.follow-stop-requires-clause-waits
follow-stop-requires-clause-waits g c =
    let K = c.requires.fresh.0 in
    let p = c.in-Ok.ensures.printed K c.requires.fresh.1 in
    waits_after_boot (g.R.Reactor.stands c.boot.new.reactor) K c.args.inputs.now p.config c.requires.fresh.2 p.here (p.status ∙ ap status_after c.in-Waiting.is)

pub returns-in-Waiting-clause-told : goal.returns-in-Waiting-clause-told
returns-in-Waiting-clause-told g c = λ K fresh.
    let p = c.in-Ok.ensures.printed K fresh in
    where_told_map (g.I.Source.left c.args.source.now) (g.I.Source.left c.follow-stop.new.source) _ _ (λ old new stops. stop_plays (g.R.Reactor.stands c.boot.new.reactor K) K (script c.args.inputs.now (script_of old)) old (length new) c.args.marks.now.all c.args.marks.now.outputs.now (g.O.Sink.held c.args.marks.now.out.now) (g.O.Sink.held c.boot.new.marks.out.now) c.in-Ok.after p c.follow-stop.result c.finish.result (g.O.Sink.held c.follow-stop.new.marks.out.now) (g.O.Sink.held c.finish.new.marks.out.now) _ _
    (as_booted c.follow-stop.result K p.config c.args.marks.now.all c.boot.new.marks.all c.args.marks.now.outputs.now c.boot.new.marks.outputs.now (script c.args.inputs.now (script_of old)) (Near old (length new)) (g.O.Sink.held c.boot.new.marks.out.now) (g.O.Sink.held c.follow-stop.new.marks.out.now) c.boot.ensures.kept.1 c.boot.ensures.kept.0 stops) c.finish.ensures.finished)
    (c.follow-stop.ensures.told K p.config p.here (p.status ∙ ap status_after c.in-Waiting.is))

pub returns-in-Waiting-clause-ran : goal.returns-in-Waiting-clause-ran
returns-in-Waiting-clause-ran g c =
    let K = c.requires.fresh.0 in
    let p = c.in-Ok.ensures.printed K c.requires.fresh.1 in
    where_told_map (g.I.Source.left c.args.source.now) (g.I.Source.left c.follow-stop.new.source) _ _ (λ old new did. stop_played c.follow-stop.result c.finish.result (g.O.Sink.held c.follow-stop.new.marks.out.now) (g.O.Sink.held c.finish.new.marks.out.now) _ _
    (g.R.Reactor.ran c.args.reactor.now (commands_of (script c.args.inputs.now (script_of old))) c.follow-stop.new.reactor) c.finish.ensures.finished did)
    (c.follow-stop.ensures.ran K p.config c.args.reactor.now [] p.here (p.status ∙ ap status_after c.in-Waiting.is) (done_waits (λ xs. g.R.Reactor.ran c.args.reactor.now xs c.boot.new.reactor) [] c.in-Ok.after c.in-Waiting.is (c.in-Ok.ensures.ran)))

pub returns-in_default : goal.returns-in_default
returns-in_default g c = record {
  told = λ K fresh.
      let p = c.in-Ok.ensures.printed K fresh in
      where_told_same (g.I.Source.left c.args.source.now) _ (λ old. stop_plays (g.R.Reactor.stands c.boot.new.reactor K) K (script c.args.inputs.now (script_of old)) old (length old) c.args.marks.now.all c.args.marks.now.outputs.now (g.O.Sink.held c.args.marks.now.out.now) (g.O.Sink.held c.boot.new.marks.out.now) c.in-Ok.after p (stop.Over c.in-Ok.after) c.finish-in_default.result (g.O.Sink.held c.boot.new.marks.out.now) (g.O.Sink.held c.finish-in_default.new.marks.out.now) _ _
      (over_at_once K p.config c.args.marks.now.all c.args.marks.now.outputs.now (script c.args.inputs.now (script_of old)) old (g.O.Sink.held c.boot.new.marks.out.now) c.in-Ok.after p.status c.in_default.not-Waiting) c.finish-in_default.ensures.finished);
  ran = where_told_same (g.I.Source.left c.args.source.now) _ (λ old. stop_played (stop.Over c.in-Ok.after) c.finish-in_default.result (g.O.Sink.held c.boot.new.marks.out.now) (g.O.Sink.held c.finish-in_default.new.marks.out.now) _ _
      (g.R.Reactor.ran c.args.reactor.now (commands_of (script c.args.inputs.now (script_of old))) c.boot.new.reactor) c.finish-in_default.ensures.finished
      (done_over (λ xs. g.R.Reactor.ran c.args.reactor.now xs c.boot.new.reactor) (commands_of (script c.args.inputs.now (script_of old))) c.in-Ok.after c.in_default.not-Waiting (c.in-Ok.ensures.ran)));
  cause = over_causes c.in-Ok.after c.finish-in_default.result (status_line (status_after c.in-Ok.after)) (g.O.Sink.held c.boot.new.marks.out.now) (g.O.Sink.held c.finish-in_default.new.marks.out.now) _ _ _ _ c.in-Ok.ensures.cause c.finish-in_default.ensures.finished;
  name = c.finish-in_default.ensures.name ∙ c.boot.ensures.kept.2;
}
