use Rattle.std.proofs.Common.{◌≡◌, ap, sym, subst, ◌∙◌}
use Rattle.ceu_isa.specs.Commands.{booted}
use Rattle.ceu_machine.specs.States.{plain}
use Rattle.ceu_react.specs.declared.after.State.{State}
use Rattle.ceu_react.specs.declared.after.State.TheVariants.{Fresh}
use Rattle.ceu_react.specs.Sessions.{Seen, Holds}
use Rattle.ceu_react.proofs.Keeping.{goes_kept, holds_after, holds_fresh}
use Rattle.ceu_react.proofs.session.Session.boot.Goals as goal

pub boot-came-requires-clause-allowed : goal.boot-came-requires-clause-allowed
boot-came-requires-clause-allowed g c =
    let stands : c.self.inside.state ≡ Fresh = ap (λ (s : Seen). s.state) c.self.view_is ∙ c.requires in
    let held = holds_fresh c.self.inside.image c.self.inside.memory c.self.inside.state stands c.self.invariant in
    goes_kept c.self.inside.image (booted c.self.inside.image (plain c.self.inside.memory.bytes)) (held.1)

pub invariant_of-self : goal.invariant_of-self
invariant_of-self g c =
    let stands : c.self.inside.state ≡ Fresh = ap (λ (s : Seen). s.state) c.self.view_is ∙ c.requires in
    let held = holds_fresh c.self.inside.image c.self.inside.memory c.self.inside.state stands c.self.invariant in
    subst (λ (s : State). Holds c.self.inside.image c.boot-came.new.mem s) (sym c.state_after-self-inside.ensures)
    (holds_after c.self.inside.image (booted c.self.inside.image (plain c.self.inside.memory.bytes)) c.boot-came.new.mem c.boot-came.result (held.1) c.boot-came.ensures.outcome c.boot-came.ensures.made)
