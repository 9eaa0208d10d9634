-- A law of the declarations in the kernel of a program that breaks no rule on names and types.
use Rattle.std.specs.Prelude.{◌≡◌, List, Ok}
use Rattle.ceu_base.specs.declared.kinds.Ty.{Ty}
use Rattle.ceu_tree.specs.declared.source.Tree.{Tree}
use Rattle.ceu_scopes.specs.declared.known.Scopes.{Scopes}
use Rattle.ceu_scopes.specs.Names.{scopes_of}
use Rattle.ceu_types.specs.declared.typing.Types.{Types}
use Rattle.ceu_types.specs.Statements.{types_of}
use Rattle.ceu_expand.specs.Expansion.{kernel_of}
use Rattle.laws_kernel_uses.specs.Settled.{KernelSettled}

-- each declaration of a variable or an alias is set in its block, and named otherwise only after that
abbrev pub KernelsSettled : Type 0
KernelsSettled = (tree : Tree) (s : Scopes) (ts : List Ty) (t : Types) → scopes_of tree ≡ Ok s → types_of s tree ≡ Ok ts → KernelSettled (kernel_of s t tree)
