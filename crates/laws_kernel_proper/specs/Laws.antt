-- Laws of the kernels that texts give: each is proper.
use Rattle.std.specs.Prelude.{◌≡◌, ℕ, ◌++◌, IsTrue, List, Ok}
use Rattle.ceu_lex.specs.declared.token.Token.{Token}
use Rattle.ceu_lex.specs.Texts.{Reads}
use Rattle.ceu_syntax.specs.Grammar.{Derives}
use Rattle.ceu_tree.specs.declared.source.Tree.{Tree}
use Rattle.ceu_tree.specs.declared.kernel.Kernel.{Kernel}
use Rattle.ceu_tree.specs.Numbering.{is_numbered}
use Rattle.ceu_tree.specs.Proper.{ports_ok, Proper}
use Rattle.ceu_scopes.specs.declared.known.Scopes.{Scopes}
use Rattle.ceu_scopes.specs.Names.{scopes_of}
use Rattle.ceu_types.specs.declared.typing.Types.{Types}
use Rattle.ceu_types.specs.Statements.{types_of}
use Rattle.ceu_expand.specs.Expansion.{kernel_of}
use Rattle.laws_kernel_shape.specs.Shaped.{TreePlaced, KernelShaped}
use Rattle.laws_kernel_shape.specs.Events.{EventsInCodes}
use Rattle.laws_kernel_names.specs.Ports.{TreeNamed}
use Rattle.laws_kernel_names.specs.Above.{KernelUses}
use Rattle.laws_kernel_shape.specs.Exits.{KernelStands}
use Rattle.laws_kernel_names.specs.Sees.{KernelSeen}
use Rattle.laws_kernel_uses.specs.Settled.{KernelSettled}
use Rattle.laws_kernel_types.specs.Times.{TreeTimed}
use Rattle.laws_kernel_types.specs.Typed.{KernelTyped}
use Rattle.laws_kernel_uses.specs.Named.{KernelNamed}

-- what the laws of kernels say one by one makes a kernel proper
abbrev pub KernelsFit : Type 0
KernelsFit =
    (K : Kernel) → IsTrue (is_numbered K) → IsTrue (ports_ok (K.inputs ++ K.outputs)) → EventsInCodes K → KernelShaped K → KernelUses K → KernelStands K →
    KernelSeen K → KernelTyped K → KernelNamed K → KernelSettled K → Proper K

-- the tree that the tokens of a text derive: its positions are those of tokens, inputs and outputs have names of external events, numbers and times
-- are in range, and a par has two branches at least
abbrev pub TreesDerived : Type 0
TreesDerived = (text : List ℕ) (tokens : List Token) (tree : Tree) → Reads text tokens → Derives text tokens tree → TreePlaced tree × TreeNamed tree × TreeTimed tree

-- the kernel of a tree that breaks no rule on names and types is proper
abbrev pub KernelsProper : Type 0
KernelsProper =
    (tree : Tree) (s : Scopes) (t : Types) → scopes_of tree ≡ Ok s → types_of s tree ≡ Ok t.exps → TreePlaced tree → TreeNamed tree → TreeTimed tree →
    Proper (kernel_of s t tree)

-- so is the kernel of a text that breaks no rule on tokens, grammar, names and types
abbrev pub TextsProper : Type 0
TextsProper =
    (text : List ℕ) (tokens : List Token) (tree : Tree) (s : Scopes) (t : Types) → Reads text tokens → Derives text tokens tree → scopes_of tree ≡ Ok s →
    types_of s tree ≡ Ok t.exps → Proper (kernel_of s t tree)
