-- The walk of what stands in a list of a statement.
use Rattle.ceu_base.specs.declared.kinds.Ty.{Ty}
use Rattle.ceu_tree.specs.declared.source.Class.TheVariants.{Var}
use Rattle.ceu_tree.specs.declared.source.Block.{Block}
use Rattle.ceu_tree.specs.declared.source.Item.{Item, back-Item-value}
use Rattle.ceu_tree.specs.declared.source.Node.{Node}
use Rattle.ceu_scopes.specs.declared.scope.Border.TheVariants.{Plain}
use Rattle.ceu_scopes.specs.declared.walk.Walk.{Walk}
use Rattle.ceu_scopes.specs.Walk.{Step, ◌>>=◌, shown, fresh}
use Rattle.ceu_scopes.specs.Rules.{declared}
use Rattle.ceu_scopes.specs.Names.{stmt_walked, block_walked, value_walked, value_broken}

abbrev pub statement_walked : Node → Walk → Step
statement_walked n w = stmt_walked n.stmt w

abbrev pub branch_walked : Block → Walk → Step
branch_walked b w = block_walked b Plain w

abbrev pub item_walked : Ty → Item → Walk → Step
item_walked t i w =
    declared Var t (value_broken (back-Item-value i.value)) i.name w >>= value_walked (back-Item-value i.value)
    >>= shown i.name (fresh Var 0 w)
