use Rattle.std.proofs.Common.{◌+◌, ◌∙◌, drop, ap, subst}
use Rattle.ceu_listing.specs.Rows as rows
use Rattle.ceu_listing.specs.Rows.{AreNumbered}
use Rattle.ceu_listing.specs.Lines.{text}
use Rattle.ceu_io.proofs.Written.{printed_more, next_item}
use Rattle.ceu_listing.proofs.Texts.{text_append, numbered_left, numbered_right}
use Rattle.ceu_listing.proofs.kernel_parts.print_codes.Goals as goal

pub print_code-goes-requires : goal.print_code-goes-requires
print_code-goes-requires g c =
    let p = g.P.Places.planned c.args.places.now in
    let next = next_item c.args.codes.now c.loop-k.k c.index-codes-k.result c.index-codes-k.is c.loop-k-test.true in
    numbered_left p.slot_count p.code_count (rows.code_rows c.loop-k.k c.index-codes-k.result) (rows.codes_rows (c.loop-k.k + 1) (drop (c.loop-k.k + 1) c.args.codes.now))
    (subst (λ l. AreNumbered p.slot_count p.code_count (rows.codes_rows c.loop-k.k l)) next c.loop-k.invariant.numbered)

pub loop-k-preserved : goal.loop-k-preserved
loop-k-preserved g c =
    let p = g.P.Places.planned c.args.places.now in
    let next = next_item c.args.codes.now c.loop-k.k c.index-codes-k.result c.index-codes-k.is c.loop-k-test.true in
    let own = rows.code_rows c.loop-k.k c.index-codes-k.result in
    let rest = rows.codes_rows (c.loop-k.k + 1) (drop (c.loop-k.k + 1) c.args.codes.now) in
    record {
      printed = printed_more (text p c.args.gates.now (rows.codes_rows 0 c.args.codes.now)) (text p c.args.gates.now (rows.codes_rows c.loop-k.k (drop c.loop-k.k c.args.codes.now))) (text p c.args.gates.now own) (text p c.args.gates.now rest)
          c.args.going c.loop-k.goes c.print_code-goes.result (g.O.Sink.held c.args.out.now) (g.O.Sink.held c.loop-k.out) (g.O.Sink.held c.print_code-goes.new.out) (g.O.Sink.faults c.args.out.now) (g.O.Sink.faults c.loop-k.out) (g.O.Sink.faults c.print_code-goes.new.out)
          c.loop-k.invariant.printed (ap (λ l. text p c.args.gates.now (rows.codes_rows c.loop-k.k l)) next ∙ text_append p c.args.gates.now own rest) c.print_code-goes.ensures;
      numbered = numbered_right p.slot_count p.code_count own rest (subst (λ l. AreNumbered p.slot_count p.code_count (rows.codes_rows c.loop-k.k l)) next c.loop-k.invariant.numbered);
    }
