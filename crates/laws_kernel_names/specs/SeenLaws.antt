-- A law of the variables in the kernel of a program that breaks no rule on names.
use Rattle.std.specs.Prelude.{◌≡◌, Ok}
use Rattle.ceu_tree.specs.declared.source.Tree.{Tree}
use Rattle.ceu_scopes.specs.declared.known.Scopes.{Scopes}
use Rattle.ceu_scopes.specs.Names.{scopes_of}
use Rattle.ceu_types.specs.declared.typing.Types.{Types}
use Rattle.ceu_expand.specs.Expansion.{kernel_of}
use Rattle.laws_kernel_names.specs.Sees.{KernelSeen}

-- each variable of the own body that is named is visible there with its type, and no loop variable is assigned
abbrev pub KernelsSeen : Type 0
KernelsSeen = (tree : Tree) (s : Scopes) (t : Types) → scopes_of tree ≡ Ok s → KernelSeen (kernel_of s t tree)
