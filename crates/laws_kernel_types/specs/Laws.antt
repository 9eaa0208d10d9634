-- A law of the types in the kernel of a program that breaks no rule on names and types.
use Rattle.std.specs.Prelude.{◌≡◌, Ok}
use Rattle.ceu_tree.specs.declared.source.Tree.{Tree}
use Rattle.ceu_scopes.specs.declared.known.Scopes.{Scopes}
use Rattle.ceu_scopes.specs.Names.{scopes_of}
use Rattle.ceu_types.specs.declared.typing.Types.{Types}
use Rattle.ceu_types.specs.Statements.{types_of}
use Rattle.ceu_expand.specs.Expansion.{kernel_of}
use Rattle.laws_kernel_types.specs.Times.{TreeTimed}
use Rattle.laws_kernel_types.specs.Typed.{KernelTyped}

-- values fit where they go; the types are those that the rules on types find
abbrev pub KernelsTyped : Type 0
KernelsTyped = (tree : Tree) (s : Scopes) (t : Types) → scopes_of tree ≡ Ok s → types_of s tree ≡ Ok t.exps → TreeTimed tree → KernelTyped (kernel_of s t tree)
