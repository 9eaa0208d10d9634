use Rattle.std.proofs.Common.{◌+◌, ◌<◌, ◌∙◌, ◌∷◌, [], length, drop, ap, subst, arith}
use Rattle.ceu_listing.specs.Rows as rows
use Rattle.ceu_listing.specs.Rows.{AreNumbered, SlotRow}
use Rattle.ceu_listing.specs.Lines.{text}
use Rattle.ceu_io.proofs.Written.{printed_more, next_item}
use Rattle.ceu_listing.proofs.Texts.{text_append}
use Rattle.ceu_listing.proofs.kernel_parts.print_decls.Goals as goal

pub loop-decl-preserved : goal.loop-decl-preserved
loop-decl-preserved g c =
    let p = g.P.Places.planned c.args.places.now in
    let below : c.loop-decl.decl-index < length c.args.decls.now = omega arith in
    let d = c.decl-item.result in
    let next = next_item c.args.decls.now c.loop-decl.decl-index d c.decl-item.is below in
    let rest = drop (c.loop-decl.decl-index + 1) c.args.decls.now in
    let own = SlotRow d.slot d.name d.pos ∷ [] in
    let prints = rw (c.as_bytes-name.ensures.value, c.text.ensures) at c.print_slot-goes.ensures in
    record {
      printed = printed_more (text p c.args.gates.now (rows.decl_rows c.args.decls.now)) (text p c.args.gates.now (rows.decl_rows (drop c.loop-decl.decl-index c.args.decls.now))) (text p c.args.gates.now own) (text p c.args.gates.now (rows.decl_rows rest))
          c.args.going c.loop-decl.goes c.print_slot-goes.result (g.O.Sink.held c.args.out.now) (g.O.Sink.held c.loop-decl.out) (g.O.Sink.held c.print_slot-goes.new.out) (g.O.Sink.faults c.args.out.now) (g.O.Sink.faults c.loop-decl.out) (g.O.Sink.faults c.print_slot-goes.new.out)
          c.loop-decl.invariant.printed (ap (λ l. text p c.args.gates.now (rows.decl_rows l)) next ∙ text_append p c.args.gates.now own (rows.decl_rows rest)) prints;
      numbered = (subst (λ l. AreNumbered p.slot_count p.code_count (rows.decl_rows l)) next c.loop-decl.invariant.numbered).1;
    }
