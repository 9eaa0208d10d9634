-- The kernel of a program that breaks no rule on names and types is proper.
use Rattle.std.proofs.Common.{◌≡◌, ℕ, List, Ok}
use Rattle.ceu_lex.specs.declared.token.Token.{Token}
use Rattle.ceu_lex.specs.Texts.{Reads}
use Rattle.ceu_syntax.specs.Grammar.{Derives}
use Rattle.ceu_tree.specs.declared.source.Tree.{Tree}
use Rattle.ceu_tree.specs.Proper.{Proper}
use Rattle.ceu_scopes.specs.declared.known.Scopes.{Scopes}
use Rattle.ceu_scopes.specs.Names.{scopes_of}
use Rattle.ceu_types.specs.declared.typing.Types.{Types}
use Rattle.ceu_types.specs.Statements.{types_of}
use Rattle.ceu_expand.specs.Expansion.{kernel_of}
use Rattle.laws_kernel_shape.specs.Shaped.{TreePlaced}
use Rattle.laws_kernel_shape.proofs.Depths.{codes_outermost}
use Rattle.laws_kernel_shape.proofs.Whole.{numbered}
use Rattle.laws_kernel_shape.proofs.Shaping.{shaped}
use Rattle.laws_kernel_shape.proofs.EventLaws.{events}
use Rattle.laws_kernel_names.specs.Ports.{TreeNamed}
use Rattle.laws_kernel_names.proofs.InnerDepths.{tree_outer}
use Rattle.laws_kernel_names.proofs.PortLaws.{ports}
use Rattle.laws_kernel_names.proofs.UsingCodes.{above}
use Rattle.laws_kernel_shape.proofs.Bodies.{stands}
use Rattle.laws_kernel_names.proofs.Whole.{sees}
use Rattle.laws_kernel_uses.proofs.Waiting.{tree_ends}
use Rattle.laws_kernel_uses.proofs.SettledWhole.{settles}
use Rattle.laws_kernel_types.specs.Times.{TreeTimed}
use Rattle.laws_kernel_types.proofs.Bodies.{kernel_typed}
use Rattle.laws_kernel_uses.proofs.NamedWhole.{named}
use Rattle.laws_kernel_proper.proofs.Fitting.{fits}
use Rattle.laws_kernel_proper.proofs.Placing.{placed}

pub proper : (tree : Tree) (s : Scopes) (t : Types) → scopes_of tree ≡ Ok s → types_of s tree ≡ Ok t.exps → TreePlaced tree → TreeNamed tree → TreeTimed tree → Proper (kernel_of s t tree)
proper tree s t h k place name time =
    let outermost = codes_outermost tree s h in
    let outer = tree_outer tree s h in
    let stood = stands s t tree outermost t.exps k in
    fits (kernel_of s t tree) (numbered s t tree outermost) (ports s t tree outer s h name) (events s t tree outermost) (shaped s t tree place) (above s t tree outermost outer h) stood (sees s t tree outermost h) (kernel_typed s t tree outermost h k time) (named s t tree outermost h stood)
    (settles s t tree outermost (tree_ends s t tree t.exps k) h)

-- so is the kernel of a text
pub text_proper : (text : List ℕ) (tokens : List Token) (tree : Tree) (s : Scopes) (t : Types) → Reads text tokens → Derives text tokens tree → scopes_of tree ≡ Ok s → types_of s tree ≡ Ok t.exps → Proper (kernel_of s t tree)
text_proper text tokens tree s t reads derives h k = let p = placed text tokens tree reads derives in proper tree s t h k p.0 p.1 p.2
