-- Laws of the kernel of a program that breaks no rule on names.
use Rattle.std.specs.Prelude.{◌≡◌, ◌≤◌, ◌*◌, ◌++◌, length, Ok, IsTrue}
use Rattle.ceu_tree.specs.declared.source.Tree.{Tree}
use Rattle.ceu_tree.specs.Numbering.{is_numbered, block_nodes, codes_nodes}
use Rattle.ceu_scopes.specs.declared.known.Scopes.{Scopes}
use Rattle.ceu_scopes.specs.Names.{scopes_of}
use Rattle.ceu_types.specs.declared.typing.Types.{Types}
use Rattle.ceu_expand.specs.Expansion.{kernel_of}
use Rattle.laws_kernel_shape.specs.Sizes.{tree_size}
use Rattle.laws_kernel_shape.specs.Events.{EventsInCodes}
use Rattle.laws_kernel_shape.specs.Shaped.{TreePlaced, KernelShaped}

-- nodes and slots are counted from 0 in pre-order over the program's text and then each code, its parameters before its body
abbrev pub KernelsNumbered : Type 0
KernelsNumbered = (tree : Tree) (s : Scopes) (t : Types) → scopes_of tree ≡ Ok s → IsTrue (is_numbered (kernel_of s t tree))

-- positions, ranges and the branches of a par are taken over from the text
abbrev pub KernelsShaped : Type 0
KernelsShaped = (tree : Tree) (s : Scopes) (t : Types) → TreePlaced tree → KernelShaped (kernel_of s t tree)

-- an event of a code names one of the kernel's
abbrev pub KernelsEvents : Type 0
KernelsEvents = (tree : Tree) (s : Scopes) (t : Types) → scopes_of tree ≡ Ok s → EventsInCodes (kernel_of s t tree)

-- a kernel has at most seven nodes for each part of its tree
abbrev pub KernelsSmall : Type 0
KernelsSmall =
    (tree : Tree) (s : Scopes) (t : Types) → scopes_of tree ≡ Ok s →
    let K = kernel_of s t tree in length (block_nodes K.body ++ codes_nodes K.codes) ≤ 7 * tree_size tree
