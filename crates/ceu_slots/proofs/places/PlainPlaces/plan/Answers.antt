use Rattle.std.proofs.Common.{true, arith}
use Rattle.ceu_slots.proofs.PlanLaws.{lawful, has_places}
use Rattle.ceu_slots.proofs.places.PlainPlaces.plan.Goals as goal

pub returns-clause-fits : goal.returns-clause-fits
returns-clause-fits c =
    lawful true c.in_ok-layout.layout c.args.kernel.now (omega arith) (omega arith)
    (record { proper = c.requires.proper; offset = c.in_ok-layout.ensures.offset; size = c.in_ok-layout.ensures.size; frame = c.in_ok-layout.ensures.frame; total = c.in_ok-layout.ensures.total })

pub returns-clause-places : goal.returns-clause-places
returns-clause-places c =
    has_places true c.in_ok-layout.layout c.args.kernel.now
    (record { proper = c.requires.proper; offset = c.in_ok-layout.ensures.offset; size = c.in_ok-layout.ensures.size; frame = c.in_ok-layout.ensures.frame; total = c.in_ok-layout.ensures.total })
