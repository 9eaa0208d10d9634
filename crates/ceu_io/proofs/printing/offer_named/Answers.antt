use Rattle.ceu_io.proofs.Written.{prints_three}
use Rattle.ceu_io.proofs.printing.offer_named.Goals as goal

pub returns-else-name-le64 : goal.returns-else-name-le64
returns-else-name-le64 g c =
    let first = rw c.as_slice-else-name-le64.ensures.value at c.offer-going.ensures in
    prints_three c.args.head.items c.args.name.now c.args.tail.now c.args.going c.offer-going.result c.offer-going-else-name-le64.result c.offer-else-name-le64.result
    (g.O.Sink.held c.args.out.now) (g.O.Sink.held c.offer-going.new.out) (g.O.Sink.held c.offer-going-else-name-le64.new.out) (g.O.Sink.held c.offer-else-name-le64.new.out)
    (g.O.Sink.faults c.args.out.now) (g.O.Sink.faults c.offer-going.new.out) (g.O.Sink.faults c.offer-going-else-name-le64.new.out) (g.O.Sink.faults c.offer-else-name-le64.new.out)
    first c.offer-going-else-name-le64.ensures c.offer-else-name-le64.ensures
