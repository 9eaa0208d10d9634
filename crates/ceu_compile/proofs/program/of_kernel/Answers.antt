use Rattle.std.proofs.Common.{sym, subst}
use Rattle.ceu_compile.specs.Programs.{IsTreeBroken}
use Rattle.ceu_compile.proofs.Broken.{unbounded}
use Rattle.ceu_compile.proofs.program.of_kernel.Goals as goal

pub returns-in-Err-clause-refused : goal.returns-in-Err-clause-refused
returns-in-Err-clause-refused c = subst (λ e. IsTreeBroken c.args.tree.now e) (sym c.check_error.ensures) (unbounded c.args.tree.now c.args.kernel c.in-Err.e c.requires c.in-Err.ensures.refused)
