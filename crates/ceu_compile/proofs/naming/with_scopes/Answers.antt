use Rattle.ceu_compile.proofs.Resolving.{types_refused}
use Rattle.ceu_compile.proofs.naming.with_scopes.Goals as goal

pub returns-in-Err-clause-refused : goal.returns-in-Err-clause-refused
returns-in-Err-clause-refused c = types_refused c.args.tree.now c.args.scopes c.in-Err.e c.check_error.result c.requires c.in-Err.ensures.refused c.check_error.ensures
