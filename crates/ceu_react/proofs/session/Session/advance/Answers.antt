use Rattle.std.proofs.Common.{◌≡◌, ◌+◌, ap, sym, subst, ◌∙◌}
use Rattle.ceu_isa.specs.Commands.{advanced}
use Rattle.ceu_isa.specs.Reactions.{Waits}
use Rattle.ceu_machine.specs.States.{plain}
use Rattle.ceu_react.specs.declared.after.State.{State}
use Rattle.ceu_react.specs.declared.after.State.TheVariants.{Waiting}
use Rattle.ceu_react.specs.Sessions.{Seen, Holds}
use Rattle.ceu_react.proofs.Keeping.{goes_kept, goes_advance, holds_after, holds_waiting}
use Rattle.ceu_react.proofs.session.Session.advance.Goals as goal

pub advance-came-requires-clause-allowed : goal.advance-came-requires-clause-allowed
advance-came-requires-clause-allowed g c =
    let stands : c.self.inside.state ≡ Waiting = ap (λ (s : Seen). s.state) c.self.view_is ∙ c.requires.waits in
    let held = holds_waiting c.self.inside.image c.self.inside.memory c.self.inside.state stands c.self.invariant in
    goes_kept c.self.inside.image (advanced c.self.inside.image (c.args.us + 1) c.args.us (Waits (plain c.self.inside.memory.bytes))) (goes_advance c.self.inside.image c.args.us (Waits (plain c.self.inside.memory.bytes)) c.requires.short held.1)

pub invariant_of-self : goal.invariant_of-self
invariant_of-self g c =
    let stands : c.self.inside.state ≡ Waiting = ap (λ (s : Seen). s.state) c.self.view_is ∙ c.requires.waits in
    let held = holds_waiting c.self.inside.image c.self.inside.memory c.self.inside.state stands c.self.invariant in
    subst (λ (s : State). Holds c.self.inside.image c.advance-came.new.mem s) (sym c.state_after-self-inside.ensures)
    (holds_after c.self.inside.image (advanced c.self.inside.image (c.args.us + 1) c.args.us (Waits (plain c.self.inside.memory.bytes))) c.advance-came.new.mem c.advance-came.result (goes_advance c.self.inside.image c.args.us (Waits (plain c.self.inside.memory.bytes)) c.requires.short held.1) c.advance-came.ensures.outcome c.advance-came.ensures.made)
