use Rattle.std.proofs.Common.{◌∙◌, sym}
use Rattle.ceu_isa.specs.Order.{Nowhere, Chosen}
use Rattle.ceu_machine.specs.States.{sweep_of, state_of}
use Rattle.ceu_machine.proofs.Steps.{sweep_clear, sweep_is, sweep_allowed, marked_nothing}
use Rattle.ceu_machine.proofs.stepping.step_sweep.Goals as goal

pub pick-requires-clause-decided : goal.pick-requires-clause-decided
pick-requires-clause-decided c = (sweep_clear c.args.image.now (sweep_of c.args.sweep) c.args.mem.now.bytes c.requires.allowed).1

pub visit-requires-clause-allowed : goal.visit-requires-clause-allowed
visit-requires-clause-allowed c = sweep_allowed c.args.image.now (sweep_of c.args.sweep) c.args.mem.now.bytes (Chosen c.in-Some.g) c.in-Some.ensures.chosen c.requires.allowed

pub finish_sweep-requires-clause-allowed : goal.finish_sweep-requires-clause-allowed
finish_sweep-requires-clause-allowed c = sweep_allowed c.args.image.now (sweep_of c.args.sweep) c.args.mem.now.bytes Nowhere c.in-None.ensures.chosen c.requires.allowed

pub returns-in-Some-clause-state : goal.returns-in-Some-clause-state
returns-in-Some-clause-state c = sweep_is c.args.image.now (sweep_of c.args.sweep) c.args.mem.now.bytes (Chosen c.in-Some.g) c.in-Some.ensures.chosen c.requires.allowed ∙ c.visit.ensures.state

pub returns-in-None-clause-state : goal.returns-in-None-clause-state
returns-in-None-clause-state c =
    sweep_is c.args.image.now (sweep_of c.args.sweep) c.args.mem.now.bytes Nowhere c.in-None.ensures.chosen c.requires.allowed ∙ c.finish_sweep.ensures.state
    ∙ sym (marked_nothing (state_of c.finish_sweep.result c.finish_sweep.new.mem.bytes))
