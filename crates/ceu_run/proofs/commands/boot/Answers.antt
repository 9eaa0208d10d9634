use Rattle.std.proofs.Common.{[]}
use Rattle.ceu_tree.specs.Run as run
use Rattle.ceu_run.specs.Printing.{new_text}
use Rattle.ceu_run.proofs.Doing.{prints_done}
use Rattle.ceu_run.proofs.DriverNoting.{lines_printed, lines_kept}
use Rattle.ceu_run.proofs.commands.boot.Goals as goal

pub returns-clause-printed : goal.returns-clause-printed
returns-clause-printed g c = λ K is. lines_printed g.O.Sink.held (g.R.Reactor.stands c.boot.new.self K) (λ n. run.steps K n (run.booted K)) [] c.args.marks.now c.boot.new.out c.boot.result (c.boot.ensures.reaction K is)

pub returns-clause-kept : goal.returns-clause-kept
returns-clause-kept g c =
    let K = c.requires.0 in
    lines_kept g.O.Sink.held (g.R.Reactor.stands c.boot.new.self K) (λ n. run.steps K n (run.booted K)) [] c.args.marks.now c.boot.new.out c.boot.result (c.boot.ensures.reaction K c.requires.1)

pub returns-clause-ran : goal.returns-clause-ran
returns-clause-ran g c =
    let K = c.requires.0 in
    let is = c.requires.1 in
    prints_done (g.R.Reactor.stands c.boot.new.self K) (λ xs. g.R.Reactor.ran c.args.reactor.now xs c.boot.new.self) (λ b xs ys. g.met.R.Reactor.over K b c.args.reactor.now c.boot.new.self xs ys) (λ n. run.steps K n (run.booted K))
    (λ n. new_text c.args.marks.now.all c.args.marks.now.outputs.now [] (run.steps K n (run.booted K))) (g.O.Sink.held c.args.marks.now.out.now) (g.O.Sink.held c.boot.new.out.out.now) [] c.boot.result
    (lines_printed g.O.Sink.held (g.R.Reactor.stands c.boot.new.self K) (λ n. run.steps K n (run.booted K)) [] c.args.marks.now c.boot.new.out c.boot.result (c.boot.ensures.reaction K is)) c.boot.ensures.ran
