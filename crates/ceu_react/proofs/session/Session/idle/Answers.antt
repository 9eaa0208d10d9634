use Rattle.std.proofs.Common.{◌≡◌, ap, sym, subst, ◌∙◌}
use Rattle.ceu_isa.specs.Commands.{idle_turn}
use Rattle.ceu_isa.specs.Reactions.{Waits}
use Rattle.ceu_machine.specs.States.{plain}
use Rattle.ceu_react.specs.declared.after.State.{State}
use Rattle.ceu_react.specs.declared.after.State.TheVariants.{Waiting}
use Rattle.ceu_react.specs.Sessions.{Seen, Holds}
use Rattle.ceu_react.proofs.Keeping.{goes_kept, goes_idle, holds_after, holds_waiting}
use Rattle.ceu_react.proofs.session.Session.idle.Goals as goal

pub idle-came-requires-clause-allowed : goal.idle-came-requires-clause-allowed
idle-came-requires-clause-allowed g c =
    let stands : c.self.inside.state ≡ Waiting = ap (λ (s : Seen). s.state) c.self.view_is ∙ c.requires in
    let held = holds_waiting c.self.inside.image c.self.inside.memory c.self.inside.state stands c.self.invariant in
    goes_kept c.self.inside.image (idle_turn c.self.inside.image (Waits (plain c.self.inside.memory.bytes))) (goes_idle c.self.inside.image (Waits (plain c.self.inside.memory.bytes)) held.1)

pub invariant_of-self : goal.invariant_of-self
invariant_of-self g c =
    let stands : c.self.inside.state ≡ Waiting = ap (λ (s : Seen). s.state) c.self.view_is ∙ c.requires in
    let held = holds_waiting c.self.inside.image c.self.inside.memory c.self.inside.state stands c.self.invariant in
    subst (λ (s : State). Holds c.self.inside.image c.idle-came.new.mem s) (sym c.state_after-self-inside.ensures)
    (holds_after c.self.inside.image (idle_turn c.self.inside.image (Waits (plain c.self.inside.memory.bytes))) c.idle-came.new.mem c.idle-came.result (goes_idle c.self.inside.image (Waits (plain c.self.inside.memory.bytes)) held.1) c.idle-came.ensures.outcome c.idle-came.ensures.made)
