use Rattle.std.proofs.Common.{true}
use Rattle.ceu_io.proofs.Written.{prints_three}
use Rattle.ceu_listing.specs.Shown.{head_text, rows_text, code_text}
use Rattle.ceu_listing.proofs.image_parts.print_image.Goals as goal

pub returns : goal.returns
returns g c =
    prints_three (head_text c.args.image.now) (rows_text c.args.image.now) (code_text c.args.image.now)
    true c.print_head-first.result c.print_rows-second.result c.print_code.result (g.O.Sink.held c.args.out.now) (g.O.Sink.held c.print_head-first.new.out) (g.O.Sink.held c.print_rows-second.new.out) (g.O.Sink.held c.print_code.new.out)
    (g.O.Sink.faults c.args.out.now) (g.O.Sink.faults c.print_head-first.new.out) (g.O.Sink.faults c.print_rows-second.new.out) (g.O.Sink.faults c.print_code.new.out)
    c.print_head-first.ensures c.print_rows-second.ensures c.print_code.ensures
