-- Laws of the names in the kernel of a program that breaks no rule on names.
use Rattle.std.specs.Prelude.{◌≡◌, ◌++◌, Ok, IsTrue}
use Rattle.ceu_tree.specs.declared.source.Tree.{Tree}
use Rattle.ceu_tree.specs.Proper.{ports_ok}
use Rattle.ceu_scopes.specs.declared.known.Scopes.{Scopes}
use Rattle.ceu_scopes.specs.Names.{scopes_of}
use Rattle.ceu_types.specs.declared.typing.Types.{Types}
use Rattle.ceu_expand.specs.Expansion.{kernel_of}
use Rattle.laws_kernel_names.specs.Ports.{TreeNamed}
use Rattle.laws_kernel_names.specs.Above.{KernelUses}

-- inputs and outputs differ, and have names of external events
abbrev pub KernelsPorts : Type 0
KernelsPorts =
    (tree : Tree) (s : Scopes) (t : Types) → scopes_of tree ≡ Ok s → TreeNamed tree →
    let K = kernel_of s t tree in IsTrue (ports_ok (K.inputs ++ K.outputs))

-- the program uses its codes, each code those above it alone
abbrev pub KernelsAbove : Type 0
KernelsAbove = (tree : Tree) (s : Scopes) (t : Types) → scopes_of tree ≡ Ok s → KernelUses (kernel_of s t tree)
