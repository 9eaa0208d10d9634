use Rattle.ceu_compile.proofs.Resolving.{names_refused}
use Rattle.ceu_compile.proofs.naming.resolved.Goals as goal

pub returns-in-Err-clause-refused : goal.returns-in-Err-clause-refused
returns-in-Err-clause-refused c = names_refused c.args.tree.now c.in-Err.e c.check_error.result c.in-Err.ensures.refused c.check_error.ensures
