use Rattle.std.proofs.Common.{◌++◌, sym, subst}
use Rattle.ceu_tree.specs.declared.kernel.KBlock.{out-KBlock}
use Rattle.ceu_listing.specs.Rows as rows
use Rattle.ceu_listing.specs.Rows.{CodeRow}
use Rattle.ceu_listing.specs.Lines.{line, text}
use Rattle.ceu_io.specs.Prints.{Prints}
use Rattle.ceu_io.proofs.Written.{prints_three}
use Rattle.ceu_listing.proofs.Texts.{text_append}
use Rattle.ceu_listing.proofs.kernel_parts.print_code.Goals as goal

pub returns : goal.returns
returns g c =
    let p = g.P.Places.planned c.args.places.now in
    let k = c.args.code.now in
    let head = CodeRow c.args.number k.name (out-KBlock k.body).node in
    let params = rows.decl_rows k.params in
    let body = rows.block_rows k.body in
    let first = rw (c.as_bytes-name.ensures.value, c.text.ensures) at c.code_line-first.ensures in
    let second = rw c.items.ensures at c.print_decls-second.ensures in
    subst (λ l. Prints (line p c.args.gates.now head ++ l) c.args.going c.print_block.result (g.O.Sink.held c.args.out.now) (g.O.Sink.held c.print_block.new.out) (g.O.Sink.faults c.args.out.now) (g.O.Sink.faults c.print_block.new.out))
    (sym (text_append p c.args.gates.now params body))
    (prints_three (line p c.args.gates.now head) (text p c.args.gates.now params) (text p c.args.gates.now body) c.args.going c.code_line-first.result c.print_decls-second.result c.print_block.result
    (g.O.Sink.held c.args.out.now) (g.O.Sink.held c.code_line-first.new.out) (g.O.Sink.held c.print_decls-second.new.out) (g.O.Sink.held c.print_block.new.out)
    (g.O.Sink.faults c.args.out.now) (g.O.Sink.faults c.code_line-first.new.out) (g.O.Sink.faults c.print_decls-second.new.out) (g.O.Sink.faults c.print_block.new.out)
    first second c.print_block.ensures)
