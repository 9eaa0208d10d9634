use Rattle.std.proofs.Common.{◌∙◌, ap}
use Rattle.ceu_isa.specs.Turns as turns
use Rattle.ceu_isa.specs.Fetching.{fetched}
use Rattle.ceu_machine.specs.States.{plain, marked, marks_of}
use Rattle.ceu_machine.proofs.Steps.{there_trail, trail_step_right, trail_step_is, trail_step_allowed}
use Rattle.ceu_machine.proofs.stepping.step_trail.Goals as goal

pub fetch-instr-requires : goal.fetch-instr-requires
fetch-instr-requires c = there_trail c.args.image.now (fetched c.args.image.now c.args.regs.at) c.args.regs (plain c.args.mem.now.bytes) c.requires.allowed

pub perform-done-requires-clause-right : goal.perform-done-requires-clause-right
perform-done-requires-clause-right c = trail_step_right c.args.image.now _ c.fetch-instr.result c.args.regs c.behind-behind.result c.args.mem.now.bytes c.fetch-instr.ensures.fetched c.behind-behind.ensures c.requires.allowed

pub after_trail-next-requires-clause-allowed : goal.after_trail-next-requires-clause-allowed
after_trail-next-requires-clause-allowed c = trail_step_allowed c.args.image.now _ c.fetch-instr.result c.args.regs c.behind-behind.result c.args.mem.now.bytes c.perform-done.result c.perform-done.new.regs c.perform-done.new.mem.bytes c.fetch-instr.ensures.fetched c.behind-behind.ensures c.perform-done.ensures.effect c.requires.allowed

pub returns-clause-state : goal.returns-clause-state
returns-clause-state c =
    trail_step_is c.args.image.now _ c.fetch-instr.result c.args.regs c.behind-behind.result c.args.mem.now.bytes c.perform-done.result c.perform-done.new.regs c.perform-done.new.mem.bytes c.fetch-instr.ensures.fetched c.behind-behind.ensures c.perform-done.ensures.effect
    ∙ ap (λ (s : turns.State). marked (marks_of c.perform-done.result) s) c.after_trail-next.ensures.state
