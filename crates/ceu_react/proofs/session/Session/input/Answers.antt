use Rattle.std.proofs.Common.{◌≡◌, ℤ, to_z, of_z, ap, sym, subst, ◌∙◌}
use Rattle.ceu_code.specs.declared.image.Image.{Image}
use Rattle.ceu_isa.specs.Commands.{input_done}
use Rattle.ceu_isa.specs.Reactions.{Waits}
use Rattle.ceu_isa.specs.Safety.{IsCommand}
use Rattle.ceu_machine.specs.States.{plain}
use Rattle.ceu_react.specs.declared.after.State.{State}
use Rattle.ceu_react.specs.declared.after.State.TheVariants.{Waiting}
use Rattle.std.specs.Int.{w128}
use Rattle.ceu_tree.specs.declared.command.Command.TheVariants.{Input}
use Rattle.ceu_machine.proofs.Rights.{same_value}
use Rattle.ceu_react.specs.Sessions.{Seen, Holds, GoesOn}
use Rattle.ceu_react.proofs.Keeping.{goes_kept, goes_input, holds_after, holds_waiting}
use Rattle.ceu_react.proofs.session.Session.input.Goals as goal

pub input-came-requires-clause-allowed : goal.input-came-requires-clause-allowed
input-came-requires-clause-allowed g c =
    let stands : c.self.inside.state ≡ Waiting = ap (λ (s : Seen). s.state) c.self.view_is ∙ c.requires.waits in
    let held = holds_waiting c.self.inside.image c.self.inside.memory c.self.inside.state stands c.self.invariant in
    let right = subst (λ (i : Image). IsCommand i (Input c.args.event c.args.value)) (sym (ap (λ (s : Seen). s.image) c.self.view_is)) c.requires.right in
    let goes = subst (λ (v : ℤ). GoesOn c.self.inside.image (input_done c.self.inside.image c.args.event v (Waits (plain c.self.inside.memory.bytes)))) (sym (same_value c.args.value c.ranges.value))
    (goes_input c.self.inside.image c.args.event c.args.value (Waits (plain c.self.inside.memory.bytes)) right held.1) in
    goes_kept c.self.inside.image (input_done c.self.inside.image c.args.event (to_z w128 (of_z w128 c.args.value)) (Waits (plain c.self.inside.memory.bytes))) goes

pub invariant_of-self : goal.invariant_of-self
invariant_of-self g c =
    let stands : c.self.inside.state ≡ Waiting = ap (λ (s : Seen). s.state) c.self.view_is ∙ c.requires.waits in
    let held = holds_waiting c.self.inside.image c.self.inside.memory c.self.inside.state stands c.self.invariant in
    let right = subst (λ (i : Image). IsCommand i (Input c.args.event c.args.value)) (sym (ap (λ (s : Seen). s.image) c.self.view_is)) c.requires.right in
    let goes = subst (λ (v : ℤ). GoesOn c.self.inside.image (input_done c.self.inside.image c.args.event v (Waits (plain c.self.inside.memory.bytes)))) (sym (same_value c.args.value c.ranges.value))
    (goes_input c.self.inside.image c.args.event c.args.value (Waits (plain c.self.inside.memory.bytes)) right held.1) in
    subst (λ (s : State). Holds c.self.inside.image c.input-came.new.mem s) (sym c.state_after-self-inside.ensures)
    (holds_after c.self.inside.image (input_done c.self.inside.image c.args.event (to_z w128 (of_z w128 c.args.value)) (Waits (plain c.self.inside.memory.bytes))) c.input-came.new.mem c.input-came.result goes c.input-came.ensures.outcome c.input-came.ensures.made)
