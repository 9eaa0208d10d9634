-- When the lines of an expression can be added: each slot that it names has a place, and the sheet has labels and numbers of positions left.
use Rattle.std.specs.Prelude.{ℕ, ◌+◌, ◌*◌, ◌^◌, ◌<◌, ◌≤◌, length}
use Rattle.ceu_tree.specs.declared.kernel.KExp.{KExp}
use Rattle.ceu_tree.specs.declared.kernel.KExpNode.{KExpNode, Row_of-KExp, end_of-KExp, more_of-KExp, Const, Read, Alive, One', Two', As'}
use Rattle.ceu_asm.specs.Pages.{Page}

-- all slots that an expression names are among the first so many
module _ (count : ℕ) where
  unfoldable mutual
    pub NodeNames : KExpNode → Type 0
    NodeNames (Const v) = Unit {0}
    NodeNames (Read l) = l.slot < count
    NodeNames (Alive c) = c < count
    NodeNames (One' op _ a) = OperandNames a
    NodeNames (Two' op _ a _ b) = OperandNames a × OperandNames b
    NodeNames (As' _ a) = OperandNames a

    pub OperandNames : {n : _} → Row_of-KExp n → Type 0
    OperandNames end_of-KExp = Unit {0}
    OperandNames (more_of-KExp t p e rest) = NodeNames e

  abbrev pub NamesBelow : KExp → Type 0
  NamesBelow e = NodeNames e.node

-- room for so many nodes of expressions
pub record HasRoom (page : Page) (nodes : ℕ) : Type 0 where
  pub labels : page.labels + 2 * nodes < 2 ^ 32
  pub places : length page.places + nodes ≤ 65535
