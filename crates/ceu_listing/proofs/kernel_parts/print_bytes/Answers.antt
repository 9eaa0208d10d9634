use Rattle.std.proofs.Common.{◌+◌, ◌-◌, ◌<◌, ◌∙◌, ◌∷◌, [], ap, subst, codes, arith}
use Rattle.ceu_tree.specs.Numbering.{range_of}
use Rattle.ceu_listing.specs.Rows as rows
use Rattle.ceu_listing.specs.Rows.{AreNumbered, SlotRow}
use Rattle.ceu_listing.specs.Lines.{text}
use Rattle.ceu_io.proofs.Written.{printed_more}
use Rattle.ceu_listing.proofs.Texts.{text_append, bytes_step}
use Rattle.ceu_listing.proofs.kernel_parts.print_bytes.Goals as goal

pub loop-k-preserved : goal.loop-k-preserved
loop-k-preserved g c =
    let p = g.P.Places.planned c.args.places.now in
    let below : c.loop-k.k < c.args.count = omega arith in
    let next = bytes_step c.args.place c.args.slot c.loop-k.k c.args.count below in
    let own = SlotRow (c.args.slot + c.loop-k.k) (codes ".and") c.args.place ∷ [] in
    let rest = rows.byte_rows c.args.place (range_of (c.args.slot + (c.loop-k.k + 1)) (c.args.count - (c.loop-k.k + 1))) in
    record {
      printed = printed_more (text p c.args.gates.now (rows.byte_rows c.args.place (range_of c.args.slot c.args.count))) (text p c.args.gates.now (rows.byte_rows c.args.place (range_of (c.args.slot + c.loop-k.k) (c.args.count - c.loop-k.k)))) (text p c.args.gates.now own) (text p c.args.gates.now rest)
          c.args.going c.loop-k.goes c.print_slot-goes.result (g.O.Sink.held c.args.out.now) (g.O.Sink.held c.loop-k.out) (g.O.Sink.held c.print_slot-goes.new.out) (g.O.Sink.faults c.args.out.now) (g.O.Sink.faults c.loop-k.out) (g.O.Sink.faults c.print_slot-goes.new.out)
          c.loop-k.invariant.printed (ap (text p c.args.gates.now) next ∙ text_append p c.args.gates.now own rest) c.print_slot-goes.ensures;
      numbered = (subst (AreNumbered p.slot_count p.code_count) next c.loop-k.invariant.numbered).1;
    }
