use Rattle.ceu_io.proofs.Written.{prints_three}
use Rattle.ceu_listing.specs.Shown.{lines_from, code_line, pool_line, place_line}
use Rattle.ceu_listing.proofs.image_parts.print_rows.Goals as goal

pub returns : goal.returns
returns g c =
    prints_three (lines_from code_line 0 c.args.image.now.codes) (lines_from pool_line 0 c.args.image.now.pools) (lines_from place_line 0 c.args.image.now.places)
    c.args.going c.print_codes-first.result c.print_pools-second.result c.print_places.result (g.O.Sink.held c.args.out.now) (g.O.Sink.held c.print_codes-first.new.out) (g.O.Sink.held c.print_pools-second.new.out) (g.O.Sink.held c.print_places.new.out)
    (g.O.Sink.faults c.args.out.now) (g.O.Sink.faults c.print_codes-first.new.out) (g.O.Sink.faults c.print_pools-second.new.out) (g.O.Sink.faults c.print_places.new.out)
    (rw c.items.ensures at c.print_codes-first.ensures) (rw c.items-2.ensures at c.print_pools-second.ensures) (rw c.items-3.ensures at c.print_places.ensures)
