-- A small program's printed text, and the kinds of its tokens, by computation.
use Rattle.std.proofs.Common.{◌≡◌, refl, [], ◌∷◌, Some, codes}
use Rattle.std.specs.Fmt.{digits}
use Rattle.ceu_base.specs.declared.kinds.Op1.TheVariants.{Neg}
use Rattle.ceu_base.specs.declared.kinds.Op2.TheVariants.{Add, Mul}
use Rattle.ceu_base.specs.declared.kinds.Ty.TheVariants as ty
use Rattle.ceu_tree.specs.declared.source.Exp.{Exp}
use Rattle.ceu_tree.specs.declared.source.ExpNode.TheBlock.{hidden-the_row-Exp-0}
use Rattle.ceu_tree.specs.declared.source.Block.{roll-Block, out-Block}
use Rattle.ceu_tree.specs.declared.source.Source as source
use Rattle.ceu_tree.specs.declared.source.Source.TheBlock.{hidden-the_row-Item-0, hidden-the_row-Node-3, shown-the_row-Node-3}
use Rattle.ceu_tree.specs.declared.source.Stmt as stmt
use Rattle.ceu_tree.specs.declared.source.Tree.{Tree}
use Rattle.ceu_syntax.specs.declared.terminal.Kind.TheVariants as k
use Rattle.ceu_syntax.specs.Trees.{ident, number, one, two, node, item, block, tree}
use Rattle.ceu_print.specs.Expressions.{node_text}
use Rattle.ceu_print.specs.Statements.{program_text, stmt_text, vars_head, loop_head, line_end, deeper, ends_in_end, row_is_done}
use Rattle.laws_text_printed.specs.Expressions.{node_kinds}
use Rattle.laws_text_printed.specs.Places.{nowhere}
use Rattle.laws_text_printed.specs.Statements.{kinds_of, stmt_kinds}
use denote.Hole.Carrier

-- - ( 1 + 2 ) * 3
abbrev value : Exp
value = two Mul nowhere (one Neg nowhere (two Add nowhere (number 1 nowhere) (number 2 nowhere))) (number 3 nowhere)

abbrev small : Tree
small = tree (node nowhere (stmt.Vars ty.S32 (item (ident (codes "x") nowhere) (Some (source.Value value)) ∷ [])) ∷ node nowhere (stmt.Loop (Some 2) (block (node nowhere stmt.Nothing ∷ []))) ∷ [])

small_kinds : kinds_of small ≡ k.Var ∷ k.Type ty.S32 ∷ k.Lower (codes "x") ∷ k.Assign ∷ k.Minus ∷ k.OpenParen ∷ k.Number 1 ∷ k.Plus ∷ k.Number 2 ∷ k.CloseParen ∷ k.Star ∷ k.Number 3 ∷ k.Semicolon
    ∷ k.Loop ∷ k.Slash ∷ k.Number 2 ∷ k.Do ∷ k.Nothing ∷ k.Semicolon ∷ k.End ∷ []
unfolding stmt_kinds node_kinds ends_in_end row_is_done hidden-the_row-Exp-0 hidden-the_row-Item-0 hidden-the_row-Node-3 roll-Block Carrier.hidden Carrier.roll
small_kinds = refl

small_text : program_text small ≡ codes "var int x = -(1 + 2) * 3;\nloop/2 do\n    nothing;\nend\n"
unfolding digits stmt_text node_text vars_head loop_head line_end deeper ends_in_end row_is_done hidden-the_row-Exp-0 hidden-the_row-Item-0 hidden-the_row-Node-3 roll-Block out-Block shown-the_row-Node-3 Carrier.hidden Carrier.roll Carrier.out Carrier.shown
small_text = refl
