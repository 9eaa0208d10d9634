use Rattle.std.proofs.Common.{true, subst}
use Rattle.ceu_io.specs.Prints.{Prints}
use Rattle.ceu_listing.specs.Shown.{show_text}
use Rattle.ceu_listing.proofs.image_parts.show.Goals as goal

pub returns-then-print_image-clause-whole : goal.returns-then-print_image-clause-whole
returns-then-print_image-clause-whole g c =
    let all = subst (λ r. Prints (show_text c.args.image.now) true r (g.O.Sink.held c.args.out.now) (g.O.Sink.held c.print_image.new.out) (g.O.Sink.faults c.args.out.now) (g.O.Sink.faults c.print_image.new.out)) c.if-print_image.true c.print_image.ensures in
    all.0

pub returns-else-print_image-clause-front : goal.returns-else-print_image-clause-front
returns-else-print_image-clause-front g c =
    let all = subst (λ r. Prints (show_text c.args.image.now) true r (g.O.Sink.held c.args.out.now) (g.O.Sink.held c.print_image.new.out) (g.O.Sink.faults c.args.out.now) (g.O.Sink.faults c.print_image.new.out)) c.if-print_image.false c.print_image.ensures in
    all.0
