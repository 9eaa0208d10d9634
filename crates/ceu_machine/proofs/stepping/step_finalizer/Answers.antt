use Rattle.std.proofs.Common.{◌∙◌, ap}
use Rattle.ceu_isa.specs.Turns as turns
use Rattle.ceu_isa.specs.Fetching.{fetched}
use Rattle.ceu_machine.specs.States.{plain, marked, marks_of, sweep_of}
use Rattle.ceu_machine.proofs.Steps.{there_finalizer, finalizer_step_right, finalizer_step_is, finalizer_step_allowed}
use Rattle.ceu_machine.proofs.stepping.step_finalizer.Goals as goal

pub fetch-instr-requires : goal.fetch-instr-requires
fetch-instr-requires c = there_finalizer c.args.image.now (fetched c.args.image.now c.args.regs.at) (sweep_of c.args.sweep) c.args.regs (plain c.args.mem.now.bytes) c.requires.allowed

pub perform-done-requires-clause-right : goal.perform-done-requires-clause-right
perform-done-requires-clause-right c = finalizer_step_right c.args.image.now _ c.fetch-instr.result (sweep_of c.args.sweep) c.args.regs c.behind-behind.result c.args.mem.now.bytes c.fetch-instr.ensures.fetched c.behind-behind.ensures c.requires.allowed

pub after_finalizer-next-requires-clause-allowed : goal.after_finalizer-next-requires-clause-allowed
after_finalizer-next-requires-clause-allowed c = finalizer_step_allowed c.args.image.now _ c.fetch-instr.result (sweep_of c.args.sweep) c.args.regs c.behind-behind.result c.args.mem.now.bytes c.perform-done.result c.perform-done.new.regs c.perform-done.new.mem.bytes c.fetch-instr.ensures.fetched c.behind-behind.ensures c.perform-done.ensures.effect c.requires.allowed

pub returns-clause-state : goal.returns-clause-state
returns-clause-state c =
    finalizer_step_is c.args.image.now _ c.fetch-instr.result (sweep_of c.args.sweep) c.args.regs c.behind-behind.result c.args.mem.now.bytes c.perform-done.result c.perform-done.new.regs c.perform-done.new.mem.bytes c.fetch-instr.ensures.fetched c.behind-behind.ensures c.perform-done.ensures.effect c.requires.allowed
    ∙ ap (λ (s : turns.State). marked (marks_of c.perform-done.result) s) c.after_finalizer-next.ensures.state
