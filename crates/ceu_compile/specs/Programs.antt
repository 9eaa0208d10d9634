-- What a text stands for: a program, or the first rule that it breaks.
use Rattle.std.specs.Prelude.{◌≡◌, ◌≤◌, ◌⊎◌, ℕ, List, Some, None}
use Rattle.ceu_base.specs.declared.kinds.Pos.{Pos}
use Rattle.ceu_base.specs.declared.kinds.Rule.{Rule}
use Rattle.ceu_base.specs.declared.kinds.CheckError.TheVariants as checking
use Rattle.ceu_bound.specs.PhaseB.{IsBoundRefusal, KeepsLoopRules}
use Rattle.ceu_expand.specs.Expansion.{kernel_of}
use Rattle.ceu_lex.specs.declared.token.Token.{Token}
use Rattle.ceu_scopes.specs.declared.known.Scopes.{Scopes}
use Rattle.ceu_tree.specs.Costs.{bounds}
use Rattle.ceu_tree.specs.declared.kernel.Kernel.{Kernel}
use Rattle.ceu_tree.specs.declared.source.Tree.{Tree}
use Rattle.ceu_types.specs.declared.typing.Types.{Types}
use Rattle.ceu_compile.specs.Resolved.{IsResolved, BreaksNamesOrTypes}
use Rattle.ceu_compile.specs.Sizes.{too_large}
use Rattle.ceu_compile.specs.Trees.{HasTree, HasNoTree}
use Rattle.ceu_compile.specs.declared.errors.CompileError.{CompileError}
use Rattle.ceu_compile.specs.declared.errors.CompileError.TheVariants.{Refused, Memory}

-- The kernel of a tree that breaks no rule on names and types.
abbrev pub HasKernel : Tree → Kernel → Type 0
HasKernel tree K = (scopes : Scopes) × (types : Types) × IsResolved tree scopes types.exps × (K ≡ kernel_of scopes types tree)

-- the place of rules on sizes
abbrev pub start : Pos
start = record { line = 1; col = 1 }

-- A kernel keeps the rules on bounds: no loop breaks one, and the turns and the levels of its reactions are within their limits.
abbrev pub HasBounds : Kernel → Type 0
HasBounds K = KeepsLoopRules K × ((bounds K).turns ≤ 4294967295) × ((bounds K).opens ≤ 65535)

-- The first rule that a kernel breaks: on bounds, on sizes.
abbrev pub BreaksKernel : Kernel → Rule → Pos → Type 0
BreaksKernel K rule place = IsBoundRefusal K (checking.Refused rule place) ⊎ (HasBounds K × (too_large K ≡ Some rule) × (place ≡ start))

-- The first rule that a tree breaks: on names, on types, on bounds, on sizes.
abbrev pub BreaksTree : Tree → Rule → Pos → Type 0
BreaksTree tree rule place = BreaksNamesOrTypes tree rule place ⊎ ((K : Kernel) × HasKernel tree K × BreaksKernel K rule place)

-- The tree breaks no rule, and this is its kernel.
abbrev pub IsSound : Tree → Kernel → Type 0
IsSound tree K = HasKernel tree K × HasBounds K × (too_large K ≡ None)

-- The text breaks no rule, and this is the kernel of its tree.
abbrev pub IsProgram : List ℕ → Kernel → Type 0
IsProgram text K = (tokens : List Token) × (tree : Tree) × HasTree text tokens tree × IsSound tree K

-- The first rule that the text breaks.
abbrev pub Breaks : List ℕ → Rule → Pos → Type 0
Breaks text rule place = HasNoTree text rule place ⊎ ((tokens : List Token) × (tree : Tree) × HasTree text tokens tree × BreaksTree tree rule place)

-- Want of memory says nothing.
abbrev pub IsTreeBroken : Tree → CompileError → Type 0
IsTreeBroken tree (Refused rule place) = BreaksTree tree rule place
IsTreeBroken tree Memory = Unit {0}

abbrev pub IsBroken : List ℕ → CompileError → Type 0
IsBroken text (Refused rule place) = Breaks text rule place
IsBroken text Memory = Unit {0}
