use Rattle.std.proofs.Common.{◌<◌, ◌≤◌, ◌∙◌, length, drop, ap, sym, subst, arith}
use Rattle.ceu_io.specs.Prints.{Prints}
use Rattle.ceu_io.proofs.Written.{Printed}
use Rattle.ceu_listing.specs.Shown.{instruction_lines}
use Rattle.ceu_listing.proofs.ShowLaws.{WholeFrom, next_of, instruction_printed, code_printed}
use Rattle.ceu_listing.proofs.image_parts.print_code.Goals as goal

pub instruction_line-at-requires-clause-starts : goal.instruction_line-at-requires-clause-starts
instruction_line-at-requires-clause-starts g c =
    let below : c.instructions.at < length c.args.image.now.code = omega (arith, ap length c.items.ensures) in
    (next_of c.args.image.now.code c.instructions.at c.instructions.invariant.whole below).starts

pub instructions-preserved : goal.instructions-preserved
instructions-preserved g c =
    let code = c.args.image.now.code in
    let at = c.instructions.at in
    let below : at < length code = omega (arith, ap length c.items.ensures) in
    let next = next_of code at c.instructions.invariant.whole below in
    let behind = sym c.instruction_line-at.ensures.next in
    let own = subst (λ l. Prints l c.instructions.goes c.offer-goes.result (g.O.Sink.held c.instructions.out) (g.O.Sink.held c.offer-goes.new.out) (g.O.Sink.faults c.instructions.out) (g.O.Sink.faults c.offer-goes.new.out)) (c.as_slice.ensures.value ∙ c.instruction_line-at.ensures.text) c.offer-goes.ensures in
    record {
      printed = subst (λ n. Printed (instruction_lines code 0 0 code) (instruction_lines code n 0 (drop n code)) c.args.going c.offer-goes.result (g.O.Sink.held c.args.out.now) (g.O.Sink.held c.offer-goes.new.out) (g.O.Sink.faults c.args.out.now) (g.O.Sink.faults c.offer-goes.new.out)) behind
          (instruction_printed code (instruction_lines code 0 0 code) at c.args.going c.instructions.goes c.offer-goes.result (g.O.Sink.held c.args.out.now) (g.O.Sink.held c.instructions.out) (g.O.Sink.held c.offer-goes.new.out) (g.O.Sink.faults c.args.out.now) (g.O.Sink.faults c.instructions.out) (g.O.Sink.faults c.offer-goes.new.out)
          c.instructions.invariant.printed below next own);
      whole = subst (λ n. WholeFrom code n) behind next.behind;
    }

pub returns : goal.returns
returns g c =
    let code = c.args.image.now.code in
    let end : length code ≤ c.instructions.at = omega (arith, ap length c.items.ensures) in
    code_printed code c.instructions.at c.args.going c.instructions.goes (g.O.Sink.held c.args.out.now) (g.O.Sink.held c.instructions.out) (g.O.Sink.faults c.args.out.now) (g.O.Sink.faults c.instructions.out) c.instructions.invariant.printed end
