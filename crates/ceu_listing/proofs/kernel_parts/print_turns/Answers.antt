use Rattle.std.proofs.Common.{◌∷◌, [], codes}
use Rattle.ceu_listing.specs.Rows.{SlotRow}
use Rattle.ceu_listing.specs.Lines.{text}
use Rattle.ceu_io.proofs.Written.{prints_three}
use Rattle.ceu_listing.proofs.Texts.{text_three}
use Rattle.ceu_listing.proofs.kernel_parts.print_turns.Goals as goal

pub returns-in-Range : goal.returns-in-Range
returns-in-Range g c =
    let p = g.P.Places.planned c.args.places.now in
    let a = SlotRow c.in-Range.variable (codes ".var") c.args.place in
    let b = SlotRow c.in-Range.next (codes ".next") c.args.place in
    let e = SlotRow c.in-Range.end (codes ".end") c.args.place in
    rw (c.in-Range.is, text_three p c.args.gates.now a b e)
    (prints_three (text p c.args.gates.now (a ∷ [])) (text p c.args.gates.now (b ∷ [])) (text p c.args.gates.now (e ∷ [])) c.args.going c.print_slot-first.result c.print_slot-second.result c.print_slot-in-Range.result
    (g.O.Sink.held c.args.out.now) (g.O.Sink.held c.print_slot-first.new.out) (g.O.Sink.held c.print_slot-second.new.out) (g.O.Sink.held c.print_slot-in-Range.new.out)
    (g.O.Sink.faults c.args.out.now) (g.O.Sink.faults c.print_slot-first.new.out) (g.O.Sink.faults c.print_slot-second.new.out) (g.O.Sink.faults c.print_slot-in-Range.new.out)
    c.print_slot-first.ensures c.print_slot-second.ensures c.print_slot-in-Range.ensures)
