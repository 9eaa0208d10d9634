-- The kernel of a text that breaks no rule is proper.
use Rattle.std.proofs.Common.{ℕ, List, Result, Ok, Err, sym, subst}
use Rattle.std.specs.Prelude.{IfOk}
use Rattle.ceu_lex.specs.declared.token.Token.{Token}
use Rattle.ceu_tree.specs.declared.source.Tree.{Tree}
use Rattle.ceu_tree.specs.Proper.{Proper}
use Rattle.laws_kernel_proper.proofs.Whole.{text_proper}
use Rattle.ceu_compile.specs.Programs.{IsSound}
use Rattle.ceu_compile.specs.Trees.{HasTree}
use Rattle.ceu_compile.specs.declared.errors.CompileError.{CompileError}
use Rattle.ceu_compile.specs.declared.program.Program.{Program}

pub proper_kernel : (text : List ℕ) (tokens : List Token) (tree : Tree) (r : Result Program CompileError) → HasTree text tokens tree → IfOk r (λ p. IsSound tree p.kernel) → IfOk r (λ p. Proper p.kernel)
proper_kernel text tokens tree (Ok p) has sound =
    let kernel = sound.0 in
    subst Proper (sym kernel.3) (text_proper text tokens tree kernel.0 kernel.1 has.0 has.1 kernel.2.0 kernel.2.1)
proper_kernel text tokens tree (Err e) has sound = tt
