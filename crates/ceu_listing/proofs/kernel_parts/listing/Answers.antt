use Rattle.std.proofs.Common.{◌++◌, true, sym, subst}
use Rattle.ceu_io.specs.Bytes.{Appends, AppendsProperFront}
use Rattle.ceu_listing.specs.Rows as rows
use Rattle.ceu_listing.specs.Rows.{AreNumbered}
use Rattle.ceu_listing.specs.Lines.{text}
use Rattle.ceu_io.specs.Prints.{Prints}
use Rattle.ceu_listing.proofs.Numbers.{kernel_numbered}
use Rattle.ceu_io.proofs.Written.{prints_then}
use Rattle.ceu_listing.proofs.Texts.{text_append}
use Rattle.ceu_listing.proofs.kernel_parts.listing.Goals as goal

pub print_block-goes-requires : goal.print_block-goes-requires
print_block-goes-requires g c = (kernel_numbered c.args.kernel.now (g.P.Places.planned c.args.places.now) c.requires.proper (g.met.P.Places.lawful c.args.places.now c.args.kernel.now c.requires.fits)).0

pub print_codes-requires : goal.print_codes-requires
print_codes-requires g c =
    let p = g.P.Places.planned c.args.places.now in
    rw c.items.ensures ((kernel_numbered c.args.kernel.now p c.requires.proper (g.met.P.Places.lawful c.args.places.now c.args.kernel.now c.requires.fits)).1)

pub returns-then-print_codes-clause-whole : goal.returns-then-print_codes-clause-whole
returns-then-print_codes-clause-whole g c =
    let p = g.P.Places.planned c.args.places.now in
    let body = rows.block_rows c.args.kernel.now.body in
    let codes = rows.codes_rows 0 c.args.kernel.now.codes in
    let second = rw c.items.ensures at c.print_codes.ensures in
    let both = prints_then (text p c.args.gates.now body) (text p c.args.gates.now codes) true c.print_block-goes.result c.print_codes.result (g.O.Sink.held c.args.out.now) (g.O.Sink.held c.print_block-goes.new.out) (g.O.Sink.held c.print_codes.new.out)
    (g.O.Sink.faults c.args.out.now) (g.O.Sink.faults c.print_block-goes.new.out) (g.O.Sink.faults c.print_codes.new.out) c.print_block-goes.ensures second in
    let all = subst (λ r. Prints (text p c.args.gates.now body ++ text p c.args.gates.now codes) true r (g.O.Sink.held c.args.out.now) (g.O.Sink.held c.print_codes.new.out) (g.O.Sink.faults c.args.out.now) (g.O.Sink.faults c.print_codes.new.out)) c.if-print_codes.true both in
    subst (λ l. Appends l (g.O.Sink.held c.args.out.now) (g.O.Sink.held c.print_codes.new.out)) (sym (text_append p c.args.gates.now body codes)) all.0

pub returns-else-print_codes-clause-front : goal.returns-else-print_codes-clause-front
returns-else-print_codes-clause-front g c =
    let p = g.P.Places.planned c.args.places.now in
    let body = rows.block_rows c.args.kernel.now.body in
    let codes = rows.codes_rows 0 c.args.kernel.now.codes in
    let second = rw c.items.ensures at c.print_codes.ensures in
    let both = prints_then (text p c.args.gates.now body) (text p c.args.gates.now codes) true c.print_block-goes.result c.print_codes.result (g.O.Sink.held c.args.out.now) (g.O.Sink.held c.print_block-goes.new.out) (g.O.Sink.held c.print_codes.new.out)
    (g.O.Sink.faults c.args.out.now) (g.O.Sink.faults c.print_block-goes.new.out) (g.O.Sink.faults c.print_codes.new.out) c.print_block-goes.ensures second in
    let all = subst (λ r. Prints (text p c.args.gates.now body ++ text p c.args.gates.now codes) true r (g.O.Sink.held c.args.out.now) (g.O.Sink.held c.print_codes.new.out) (g.O.Sink.faults c.args.out.now) (g.O.Sink.faults c.print_codes.new.out)) c.if-print_codes.false both in
    subst (λ l. AppendsProperFront l (g.O.Sink.held c.args.out.now) (g.O.Sink.held c.print_codes.new.out)) (sym (text_append p c.args.gates.now body codes)) all.0
