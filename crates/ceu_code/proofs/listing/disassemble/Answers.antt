use Rattle.std.proofs.Common.{◌≡◌, ◌≤◌, List, ℕ, Some, sym, ap, ◌∙◌, get_or, length, arith}
use Rattle.ceu_code.specs.declared.table.Row.{Row}
use Rattle.ceu_code.specs.Table.{row_of, operands, operands_width}
use Rattle.ceu_code.specs.Text.{operands_room}
use Rattle.ceu_code.proofs.Shown.{started, row_room, row_same}
use Rattle.ceu_code.proofs.listing.disassemble.Goals as goal

pub push_operands-requires-clause-inside : goal.push_operands-requires-clause-inside
push_operands-requires-clause-inside c =
    let s = started c.args.image.now.code c.args.at c.requires.starts in
    let code : c.items-code.result.now ≡ c.args.image.now.code = c.items-code.ensures in
    let here : row_of (get_or c.args.image.now.code c.args.at 0) ≡ Some c.in-Some.row = ap (λ (bs : List ℕ). row_of (get_or bs c.args.at 0)) (sym code) ∙ sym c.row_of.ensures ∙ c.in-Some.is in
    let wide : operands_width (operands s.row) ≡ operands_width (operands c.in-Some.row) = ap (λ (r : Row). operands_width (operands r)) (row_same s.row c.in-Some.row (sym s.known ∙ here)) in
    let long : length c.items-code.result.now ≡ length c.args.image.now.code = ap length code in
    let whole = s.whole in
    omega (arith, wide, long, whole)

pub push_operands-requires-clause-room : goal.push_operands-requires-clause-room
push_operands-requires-clause-room c =
    let room : operands_room (operands c.in-Some.row) ≤ 46 = row_room (get_or c.items-code.result.now c.args.at 0) c.in-Some.row (sym c.row_of.ensures ∙ c.in-Some.is) in
    let size = c.push_word.ensures.size in
    let name = c.opcode_name.ensures.short in
    let head = c.push_str.ensures.len in
    let digits = c.format.ensures.fits in
    let empty : length c.clear.new.self.bytes ≡ 0 = ap length c.clear.ensures in
    omega (arith, room, size, name, head, digits, empty)

pub overflow_add-result-in-Some : goal.overflow_add-result-in-Some
overflow_add-result-in-Some c =
    let s = started c.args.image.now.code c.args.at c.requires.starts in
    let code : c.items-code.result.now ≡ c.args.image.now.code = c.items-code.ensures in
    let here : row_of (get_or c.args.image.now.code c.args.at 0) ≡ Some c.in-Some.row = ap (λ (bs : List ℕ). row_of (get_or bs c.args.at 0)) (sym code) ∙ sym c.row_of.ensures ∙ c.in-Some.is in
    let wide : operands_width (operands s.row) ≡ operands_width (operands c.in-Some.row) = ap (λ (r : Row). operands_width (operands r)) (row_same s.row c.in-Some.row (sym s.known ∙ here)) in
    let whole = s.whole in
    omega (arith, wide, whole, c.operands_width.ensures.value, c.requires.small)
