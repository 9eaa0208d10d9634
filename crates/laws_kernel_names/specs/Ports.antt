-- Inputs and outputs of a text have names of external events.
use Rattle.std.specs.Prelude.{⊤, IsTrue}
use Rattle.ceu_tree.specs.declared.source.Ident.{Ident}
use Rattle.ceu_tree.specs.declared.source.Block.{Block, Block', Row_of-Node, end_of-Node, more_of-Node}
use Rattle.ceu_tree.specs.declared.source.Stmt as stmt
use Rattle.ceu_tree.specs.declared.source.Stmt.{Stmt}
use Rattle.ceu_tree.specs.declared.source.Tree.{Tree}
use Rattle.ceu_tree.specs.Proper.{is_external}
use Rattle.laws_kernel_shape.specs.Shaped.{AllOf}

-- a capital letter, then capital letters, digits and underscores, 64 bytes at most
abbrev pub IsExternal : Ident → Type 0
IsExternal x = IsTrue (is_external x.name)

abbrev pub PortsNamed : Stmt → Type 0
PortsNamed (stmt.Inputs t xs) = AllOf IsExternal xs
PortsNamed (stmt.Outputs t xs) = AllOf IsExternal xs
PortsNamed _ = ⊤

abbrev pub NodesNamed : {n : _} → Row_of-Node n → Type 0
NodesNamed end_of-Node = ⊤
NodesNamed (more_of-Node p st rest) = PortsNamed st × NodesNamed rest

abbrev pub BlockNamed : Block → Type 0
BlockNamed (Block' _ list) = NodesNamed list

-- the inputs and outputs of a program's outermost block have names of external events, as in each tree of a text
abbrev pub TreeNamed : Tree → Type 0
TreeNamed t = BlockNamed t.body
