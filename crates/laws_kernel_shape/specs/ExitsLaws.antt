-- Laws of the exits in the kernel of a program that breaks no rule on names and types.
use Rattle.std.specs.Prelude.{◌≡◌, List, Ok}
use Rattle.ceu_base.specs.declared.kinds.Ty.{Ty}
use Rattle.ceu_tree.specs.declared.source.Tree.{Tree}
use Rattle.ceu_scopes.specs.declared.known.Scopes.{Scopes}
use Rattle.ceu_scopes.specs.Names.{scopes_of}
use Rattle.ceu_types.specs.declared.typing.Types.{Types}
use Rattle.ceu_types.specs.Statements.{types_of}
use Rattle.ceu_expand.specs.Expansion.{kernel_of}
use Rattle.laws_kernel_shape.specs.Exits.{KernelStands}

-- each exit has its target around it, and a value where the target takes one; asyncs and finalizers have only what they may have
abbrev pub KernelsExits : Type 0
KernelsExits =
    (tree : Tree) (s : Scopes) (ts : List Ty) (t : Types) → scopes_of tree ≡ Ok s → types_of s tree ≡ Ok ts → KernelStands (kernel_of s t tree)
