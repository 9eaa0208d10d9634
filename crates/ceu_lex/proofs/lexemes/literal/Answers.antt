use Rattle.std.proofs.Common.{sym}
use Rattle.ceu_lex.proofs.Values.{digits_are_hex}
use Rattle.ceu_lex.proofs.lexemes.literal.Goals as goal

pub number_in-requires-clause-digits : goal.number_in-requires-clause-digits
number_in-requires-clause-digits c = digits_are_hex c.args.text.now (sym c.if-all_digits.ensures)
