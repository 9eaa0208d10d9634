-- Refusals of a program by the rules of its parts.
use Rattle.std.proofs.Common.{◌≡◌, ◌<◌, ◌^◌, arith, inl, inr, refl, ℕ, List, Result, Ok, Err, subst}
use Rattle.std.specs.Prelude.{IfOk, IfErr}
use Rattle.ceu_base.specs.declared.kinds.Rule.{Rule}
use Rattle.ceu_lex.specs.declared.token.Token.{Token}
use Rattle.std.specs.declared.alloc.AllocError.{AllocError}
use Rattle.ceu_tree.specs.declared.kernel.Kernel.{Kernel}
use Rattle.ceu_tree.specs.declared.source.Tree.{Tree}
use Rattle.ceu_base.specs.declared.kinds.CheckError.{CheckError}
use Rattle.ceu_base.specs.declared.kinds.CheckError.TheVariants as checking
use Rattle.ceu_bound.specs.PhaseB.{AreBounds, IsBoundRefusal}
use Rattle.ceu_bound.specs.declared.bounds.Bounds.{Bounds}
use Rattle.ceu_compile.specs.Errors.{of_check}
use Rattle.ceu_compile.specs.Programs.{BreaksTree, HasBounds, HasKernel, IsBroken, IsProgram, IsSound, IsTreeBroken, start}
use Rattle.ceu_compile.specs.Resolved.{IsUnresolved}
use Rattle.ceu_compile.specs.Sizes.{IsSize}
use Rattle.ceu_compile.specs.declared.sizes.Size.{Size}
use Rattle.ceu_compile.specs.declared.sizes.Size.TheVariants.{Over}
use Rattle.ceu_compile.specs.Trees.{HasTree, IsTreeRefusal}
use Rattle.ceu_compile.specs.declared.errors.CompileError.{CompileError}
use Rattle.ceu_compile.specs.declared.errors.CompileError.TheVariants as error
use Rattle.ceu_compile.specs.declared.program.Program.{Program}

pub unparsed : (text : List ℕ) (e : CompileError) → IsTreeRefusal text e → IsBroken text e
unparsed text (error.Refused r place) refused = inl refused
unparsed text error.Memory refused = tt

pub unsound : (text : List ℕ) (tokens : List Token) (tree : Tree) (e : CompileError) → HasTree text tokens tree → IsTreeBroken tree e → IsBroken text e
unsound text tokens tree (error.Refused r place) has broken = inr (tokens, tree, has, broken)
unsound text tokens tree error.Memory has broken = tt

pub unresolved : (tree : Tree) (e : CompileError) → IsUnresolved tree e → IsTreeBroken tree e
unresolved tree (error.Refused r place) refused = inl refused
unresolved tree error.Memory refused = tt

pub unbounded : (tree : Tree) (K : Kernel) (e : CheckError) → HasKernel tree K → IsBoundRefusal K e → IsTreeBroken tree (of_check e)
unbounded tree K (checking.Refused rule place) has refused = inr (K, has, inl refused)
unbounded tree K checking.Memory has refused = tt

pub kept : (K : Kernel) (b : Bounds) → AreBounds K b → b.turns < 2 ^ 32 → b.levels < 2 ^ 16 → HasBounds K
kept K b are turns opens = (are.keeps, omega (arith, are.turns), omega (arith, are.levels))

pub oversized : (tree : Tree) (K : Kernel) (sized : Result Size AllocError) (size : Size) (rule : Rule) → HasKernel tree K → HasBounds K → IfOk sized (λ size. IsSize size K)
    → sized ≡ Ok size → size ≡ Over rule → BreaksTree tree rule start
oversized tree K sized size rule has bounds is_size ok is =
    inr (K, has, inr (bounds, subst (λ s. IsSize s K) is (subst (λ r. IfOk r (λ size. IsSize size K)) ok is_size), refl))

pub whole : (text : List ℕ) (tokens : List Token) (tree : Tree) (r : Result Program CompileError) → HasTree text tokens tree → IfOk r (λ p. IsSound tree p.kernel) → IfOk r (λ p. IsProgram text p.kernel)
whole text tokens tree (Ok p) has sound = (tokens, tree, has, sound)
whole text tokens tree (Err e) has sound = tt

pub broken : (text : List ℕ) (tokens : List Token) (tree : Tree) (r : Result Program CompileError) → HasTree text tokens tree → IfErr r (λ e. IsTreeBroken tree e) → IfErr r (λ e. IsBroken text e)
broken text tokens tree (Ok p) has refused = tt
broken text tokens tree (Err e) has refused = unsound text tokens tree e has refused
