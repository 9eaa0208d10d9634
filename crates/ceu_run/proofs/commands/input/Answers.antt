use Rattle.std.proofs.Common.{◌≡◌, ℤ, subst}
use Rattle.std.proofs.lemmas.Int.{to_z-of_z}
use mir.Val.{to_z, of_z}
use mir.Syntax.{w128}
use Rattle.ceu_tree.specs.Run as run
use Rattle.ceu_tree.specs.Run.{Waiting, world_of}
use Rattle.ceu_run.specs.Printing.{Prints, new_text}
use Rattle.ceu_run.proofs.DriverNoting.{lines_printed, lines_kept}
use Rattle.ceu_run.proofs.commands.input.Goals as goal

pub returns-clause-printed : goal.returns-clause-printed
returns-clause-printed g c = λ K b is.
    let v = to_z w128 (of_z w128 c.args.value) in
    let same : v ≡ c.args.value = to_z-of_z w128 c.args.value c.ranges.value in
    subst (λ (u : ℤ). Prints (g.R.Reactor.stands c.input.new.self K) (λ n. run.input K n c.args.event u b) (λ n. new_text c.args.marks.now.all c.args.marks.now.outputs.now (world_of b).marks (run.input K n c.args.event u b)) (g.O.Sink.held c.args.marks.now.out.now) (g.O.Sink.held c.input.new.out.out.now) c.input.result) same
    (lines_printed g.O.Sink.held (g.R.Reactor.stands c.input.new.self K) (λ n. run.input K n c.args.event v b) (world_of b).marks c.args.marks.now c.input.new.out c.input.result (c.input.ensures.reaction K b is))

pub returns-clause-kept : goal.returns-clause-kept
returns-clause-kept g c =
    let w = c.requires.1 in
    lines_kept g.O.Sink.held (g.R.Reactor.stands c.input.new.self w.kernel) (λ n. run.input w.kernel n c.args.event (to_z w128 (of_z w128 c.args.value)) (Waiting w.tree w.world)) w.world.marks c.args.marks.now c.input.new.out c.input.result (c.input.ensures.reaction w.kernel (Waiting w.tree w.world) w.here)
