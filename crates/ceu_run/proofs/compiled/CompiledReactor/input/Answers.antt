use Rattle.std.proofs.Common.{ℤ, sym, subst, rules}
use Rattle.std.specs.Prelude.{slice_get}
use Rattle.std.proofs.lemmas.Int.{to_z-of_z}
use mir.Val.{to_z, of_z, SFits}
use mir.Syntax.{w128}
use Rattle.ceu_isa.specs.Safety.{IsInput}
use Rattle.ceu_run.proofs.CompiledCommands.{waits, takes, input_comes_as}
use Rattle.ceu_run.proofs.Ran.{input_ran, on_answered}
use Rattle.ceu_run.proofs.compiled.CompiledReactor.input.Goals as goal

pub input-came-requires-clause-right : goal.input-came-requires-clause-right
input-came-requires-clause-right g c =
    let fits : SFits w128 c.args.value = search rules in
    subst (λ (v : ℤ). IsInput (slice_get c.args.self.now.session.image.inputs c.args.event) v) (sym (to_z-of_z w128 c.args.value fits))
    (takes c.args.self.now.session c.requires.0 c.args.event c.args.value c.requires.1 c.requires.2)

pub returns-clause-reaction : goal.returns-clause-reaction
returns-clause-reaction g c =
    let fits : SFits w128 c.args.value = search rules in
    λ K b here. rw c.answered.ensures
    (input_comes_as g.W.MarkSink.notes g.W.MarkSink.stops c.args.self.now.session c.input-came.new.self c.args.out.now c.input-came.new.out c.input-came.result c.input-came.ensures.image c.input-came.ensures.state
    c.args.event c.args.value (to_z w128 (of_z w128 c.args.value)) (to_z-of_z w128 c.args.value fits) (c.input-came.ensures.outcome, c.input-came.ensures.noted, c.input-came.ensures.stopped)
    (takes c.args.self.now.session c.requires.0 c.args.event c.args.value c.requires.1 c.requires.2) (waits c.args.self.now.session c.requires.0 c.requires.1) K b here)

pub returns-clause-ran : goal.returns-clause-ran
returns-clause-ran g c =
    let fits : SFits w128 c.args.value = search rules in
    λ start xs ran. rw c.answered.ensures (on_answered c.input-came.result _
    (input_ran c.args.self.now.session c.input-came.new.self c.input-came.result c.input-came.ensures.image c.input-came.ensures.state
    c.args.event c.args.value (to_z w128 (of_z w128 c.args.value)) (to_z-of_z w128 c.args.value fits) (waits c.args.self.now.session c.requires.0 c.requires.1) c.input-came.ensures.outcome start.session xs ran))
