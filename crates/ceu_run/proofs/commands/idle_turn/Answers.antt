use Rattle.ceu_tree.specs.Run as run
use Rattle.ceu_tree.specs.Run.{Waiting, world_of}
use Rattle.ceu_run.proofs.DriverNoting.{lines_printed, lines_kept}
use Rattle.ceu_run.proofs.commands.idle_turn.Goals as goal

pub returns-clause-printed : goal.returns-clause-printed
returns-clause-printed g c = λ K b is. lines_printed g.O.Sink.held (g.R.Reactor.stands c.idle.new.self K) (λ n. run.idle_turn K n b) (world_of b).marks c.args.marks.now c.idle.new.out c.idle.result (c.idle.ensures.reaction K b is)

pub returns-clause-kept : goal.returns-clause-kept
returns-clause-kept g c =
    let w = c.requires.1 in
    let K = w.kernel in
    let b = Waiting w.tree w.world in
    lines_kept g.O.Sink.held (g.R.Reactor.stands c.idle.new.self K) (λ n. run.idle_turn K n b) w.world.marks c.args.marks.now c.idle.new.out c.idle.result (c.idle.ensures.reaction K b w.here)
