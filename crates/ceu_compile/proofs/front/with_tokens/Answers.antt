use Rattle.ceu_compile.proofs.Parsing.{parse_refused}
use Rattle.ceu_compile.proofs.front.with_tokens.Goals as goal

pub returns-in-Err-clause-refused : goal.returns-in-Err-clause-refused
returns-in-Err-clause-refused c = parse_refused c.args.text.now c.args.tokens c.in-Err.e c.parse_error.result c.requires.tokens c.in-Err.ensures.refused c.parse_error.ensures
