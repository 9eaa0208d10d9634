-- What an expression gives is a value of its type, where the variables that it reads hold values of theirs.
use Rattle.std.specs.Prelude.{◌≡◌, ℕ, ℤ, Bool, true, Ok, Err}
use Rattle.ceu_base.specs.declared.kinds.Ty.{Ty}
use Rattle.ceu_base.specs.Values.{IsValue}
use Rattle.ceu_tree.specs.declared.kernel.Loc.{Loc}
use Rattle.ceu_tree.specs.declared.kernel.KExp.{KExp}
use Rattle.ceu_tree.specs.declared.kernel.KExpNode.{KExpNode, Row_of-KExp, end_of-KExp, more_of-KExp, Const, Read, Alive, One', Two', As'}
use Rattle.ceu_tree.specs.Residual.{Body}
use Rattle.ceu_tree.specs.World.{World, look, place_of}
use Rattle.ceu_tree.specs.Expressions.{Answer, number_in, value_of}
use Rattle.ceu_tree.specs.Typing.{typed}

module _ (body : Body) (w : World) where
  unfoldable mutual
    -- each variable that is read holds a value of its type
    pub NodeReads : KExpNode → Type 0
    NodeReads (Const v) = Unit {0}
    NodeReads (Read l) = IsValue l.ty (number_in (look (place_of l body) l.slot w.values))
    NodeReads (Alive c) = Unit {0}
    NodeReads (One' op _ a) = OperandReads a
    NodeReads (Two' op _ a _ b) = OperandReads a × OperandReads b
    NodeReads (As' _ a) = OperandReads a

    pub OperandReads : {n : _} → Row_of-KExp n → Type 0
    OperandReads end_of-KExp = Unit {0}
    OperandReads (more_of-KExp t p e rest) = NodeReads e

  abbrev pub Reads : KExp → Type 0
  Reads e = NodeReads e.node

abbrev pub IsResult : Ty → Answer → Type 0
IsResult t (Ok v) = IsValue t v
IsResult t (Err fault) = Unit {0}

abbrev pub ResultsAreValues : Type 0
ResultsAreValues = (reads : Loc → Bool) (asks : ℕ → Bool) (body : Body) (w : World) (e : KExp) → typed reads asks e ≡ true → Reads body w e → IsResult e.ty (value_of e body w)
