-- A law of what the kernel of a program that breaks no rule on names and types names.
use Rattle.std.specs.Prelude.{◌≡◌, List, Ok}
use Rattle.ceu_base.specs.declared.kinds.Ty.{Ty}
use Rattle.ceu_tree.specs.declared.source.Tree.{Tree}
use Rattle.ceu_scopes.specs.declared.known.Scopes.{Scopes}
use Rattle.ceu_scopes.specs.Names.{scopes_of}
use Rattle.ceu_types.specs.declared.typing.Types.{Types}
use Rattle.ceu_types.specs.Statements.{types_of}
use Rattle.ceu_expand.specs.Expansion.{kernel_of}
use Rattle.laws_kernel_uses.specs.Named.{KernelNamed}

-- variables of the outermost block that code names are there with their types, ports and events are there, pools and aliases are visible and fit
abbrev pub KernelsNamed : Type 0
KernelsNamed =
    (tree : Tree) (s : Scopes) (ts : List Ty) (t : Types) → scopes_of tree ≡ Ok s → types_of s tree ≡ Ok ts → KernelNamed (kernel_of s t tree)
