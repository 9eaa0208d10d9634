-- Parts of a tree, by what they are made of.
use Rattle.std.specs.Prelude.{ℕ, Bool, true, false, List, Option}
use Rattle.ceu_base.specs.declared.kinds.Pos.{Pos}
use Rattle.ceu_base.specs.declared.kinds.Op1.{Op1}
use Rattle.ceu_base.specs.declared.kinds.Op2.{Op2}
use Rattle.ceu_base.specs.declared.kinds.Ty.{Ty}
use Rattle.ceu_tree.specs.declared.source.Ident.{Ident}
use Rattle.ceu_tree.specs.declared.source.Exp.{Exp}
use Rattle.ceu_tree.specs.declared.source.ExpNode as exp
use Rattle.ceu_tree.specs.declared.source.Call.{Call}
use Rattle.ceu_tree.specs.declared.source.Spawn.{Spawn}
use Rattle.ceu_tree.specs.declared.source.Label.{Label}
use Rattle.ceu_tree.specs.declared.source.Param.{Param}
use Rattle.ceu_tree.specs.declared.source.Block.{Block, roll-Block}
use Rattle.ceu_tree.specs.declared.source.Node.{Node}
use Rattle.ceu_tree.specs.declared.source.Do.{Do, Do'}
use Rattle.ceu_tree.specs.declared.source.Source.{Source}
use Rattle.ceu_tree.specs.declared.source.Item.{Item}
use Rattle.ceu_tree.specs.declared.source.Arm.{Arm, Arm'}
use Rattle.ceu_tree.specs.declared.source.Range.{Range, Range'}
use Rattle.ceu_tree.specs.declared.source.Stmt.{Stmt}
use Rattle.ceu_tree.specs.declared.source.Tree.{Tree}

abbrev pub ident : List ℕ → Pos → Ident
ident x at = record { pos = at; outer = false; name = x }

-- `outer.x`, whose place is that of the word `outer`
abbrev pub outer : List ℕ → Pos → Ident
outer x at = record { pos = at; outer = true; name = x }

abbrev pub number : ℕ → Pos → Exp
number n at = record { pos = at; node = exp.Number n }

abbrev pub truth : Bool → Pos → Exp
truth b at = record { pos = at; node = exp.Bool b }

abbrev pub variable : Ident → Exp
variable x = record { pos = x.pos; node = exp.Var x }

abbrev pub alive : Ident → Pos → Exp
alive x at = record { pos = at; node = exp.Alive x }

abbrev pub one : Op1 → Pos → Exp → Exp
one op at e = record { pos = at; node = exp.One op e }

abbrev pub two : Op2 → Pos → Exp → Exp → Exp
two op at a b = record { pos = at; node = exp.Two op a b }

abbrev pub cast : Pos → Exp → Ty → Exp
cast at e ty = record { pos = at; node = exp.As e ty }

abbrev pub call : Ident → List Exp → Call
call x es = record { code = x; args = es }

abbrev pub spawn : Pos → Call → Ident → Spawn
spawn at c pool = record { pos = at; call = c; pool = pool }

abbrev pub param : Ty → Ident → Param
param ty x = record { ty = ty; name = x }

abbrev pub block : List Node → Block
block ns = roll-Block (record { list = ns })

abbrev pub node : Pos → Stmt → Node
node at stmt = record { pos = at; stmt = stmt }

abbrev pub do_block : Label → List Node → Do
do_block label ns = Do' label (block ns)

abbrev pub item : Ident → Option Source → Item
item x value = record { name = x; value = value }

abbrev pub arm : Exp → List Node → Arm
arm e ns = Arm' e (block ns)

abbrev pub range : Ident → Bool → Exp → Exp → Bool → List Node → Range
range x open_a a b open_b ns = Range' x open_a a b open_b (block ns)

abbrev pub tree : List Node → Tree
tree ns = record { body = block ns }
