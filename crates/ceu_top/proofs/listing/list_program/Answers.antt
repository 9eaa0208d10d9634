use Rattle.ceu_top.proofs.Answering.{listing_shown}
use Rattle.ceu_top.proofs.Limits.{few_slots}
use Rattle.ceu_top.proofs.listing.list_program.Goals as goal

pub plan-requires-clause-few : goal.plan-requires-clause-few
plan-requires-clause-few g c = few_slots c.args.text.now c.args.program.now.kernel c.requires.program

pub returns : goal.returns
returns g c = listing_shown c.args.text.now c.args.program.now.kernel c.args.program.now.memory c.args.program.now.bounds _ c.in-Ok-gate_plan.gates c.show_listing.result _ _ _ _
    c.requires.program c.requires.sized c.requires.bounded c.in-Ok.ensures.places c.in-Ok-gate_plan.ensures.first c.in-Ok-gate_plan.ensures.count c.show_listing.ensures
