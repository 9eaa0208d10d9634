use Rattle.ceu_compile.proofs.Parsing.{lex_refused}
use Rattle.ceu_compile.proofs.front.syntax_of.Goals as goal

pub returns-in-Err-clause-refused : goal.returns-in-Err-clause-refused
returns-in-Err-clause-refused c = lex_refused c.args.text.now c.in-Err.e c.lex_error.result c.in-Err.ensures.refused c.lex_error.ensures
