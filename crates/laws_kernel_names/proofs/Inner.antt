-- Code, inputs and outputs stand in the outermost block of a program alone.
use Rattle.std.specs.Prelude.{◌≡◌, ⊤, []}
use Rattle.ceu_tree.specs.declared.source.Source as source
use Rattle.ceu_tree.specs.declared.source.Source.{Source}
use Rattle.ceu_tree.specs.declared.source.Item.{Held-Item-value, Item-value-None', Item-value-Some'}
use Rattle.ceu_tree.specs.declared.source.Do.{Do, Do'}
use Rattle.ceu_tree.specs.declared.source.Block.{Block, Block', Row_of-Node, end_of-Node, more_of-Node}
use Rattle.ceu_tree.specs.declared.source.Arm.{Arm, Arm'}
use Rattle.ceu_tree.specs.declared.source.Range.{Range, Range'}
use Rattle.ceu_tree.specs.declared.source.Stmt as stmt
use Rattle.ceu_tree.specs.declared.source.Stmt.{Stmt, Vars', If', Par', Row_of-Item, end_of-Item, more_of-Item, Row_of-Arm, end_of-Arm, more_of-Arm, Row_of-Block, end_of-Block, more_of-Block, Held-Stmt-If-1, Stmt-If-1-None', Stmt-If-1-Some'}
use Rattle.ceu_tree.specs.declared.source.Tree.{Tree}

-- no code, input or output is declared in it
unfoldable mutual
  pub Inner : Stmt → Type 0
  Inner (Vars' t _ items) = InnerInItems items
  Inner (stmt.Code x ps t b) = ⊥
  Inner (stmt.Inputs t xs) = xs ≡ []
  Inner (stmt.Outputs t xs) = xs ≡ []
  Inner (stmt.Assign x v) = InnerInSource v
  Inner (stmt.Do d) = InnerInDo d
  Inner (stmt.Finalize b) = InnerInBlock b
  Inner (If' _ arms last) = InnerInArms arms × InnerInLast last
  Inner (stmt.Loop n b) = InnerInBlock b
  Inner (stmt.Range r) = InnerInRange r
  Inner (stmt.Every x t b) = InnerInBlock b
  Inner (stmt.Watching t b) = InnerInBlock b
  Inner (Par' k _ bs) = InnerInBlocks bs
  Inner (stmt.Async xs b) = InnerInBlock b
  Inner _ = ⊤

  pub InnerInSource : Source → Type 0
  InnerInSource (source.Done d) = InnerInDo d
  InnerInSource _ = ⊤

  pub InnerInValue : Held-Item-value → Type 0
  InnerInValue Item-value-None' = ⊤
  InnerInValue (Item-value-Some' v) = InnerInSource v

  pub InnerInDo : Do → Type 0
  InnerInDo (Do' l b) = InnerInBlock b

  pub InnerInBlock : Block → Type 0
  InnerInBlock (Block' _ list) = InnerInNodes list

  pub InnerInArm : Arm → Type 0
  InnerInArm (Arm' c b) = InnerInBlock b

  pub InnerInLast : Held-Stmt-If-1 → Type 0
  InnerInLast Stmt-If-1-None' = ⊤
  InnerInLast (Stmt-If-1-Some' b) = InnerInBlock b

  pub InnerInRange : Range → Type 0
  InnerInRange (Range' x _ a b _ body) = InnerInBlock body

  pub InnerInItems : {n : _} → Row_of-Item n → Type 0
  InnerInItems end_of-Item = ⊤
  InnerInItems (more_of-Item x v rest) = InnerInValue v × InnerInItems rest

  pub InnerInArms : {n : _} → Row_of-Arm n → Type 0
  InnerInArms end_of-Arm = ⊤
  InnerInArms (more_of-Arm arm rest) = InnerInArm arm × InnerInArms rest

  pub InnerInBlocks : {n : _} → Row_of-Block n → Type 0
  InnerInBlocks end_of-Block = ⊤
  InnerInBlocks (more_of-Block b rest) = InnerInBlock b × InnerInBlocks rest

  pub InnerInNodes : {n : _} → Row_of-Node n → Type 0
  InnerInNodes end_of-Node = ⊤
  InnerInNodes (more_of-Node p st rest) = Inner st × InnerInNodes rest

-- a statement of the outermost block may declare them, in code there are none
unfoldable pub Outer : Stmt → Type 0
Outer (stmt.Code x ps t b) = InnerInBlock b
Outer (stmt.Inputs t xs) = ⊤
Outer (stmt.Outputs t xs) = ⊤
Outer st = Inner st

unfoldable pub OuterNodes : {n : _} → Row_of-Node n → Type 0
OuterNodes end_of-Node = ⊤
OuterNodes (more_of-Node p st rest) = Outer st × OuterNodes rest

unfoldable pub OuterBlock : Block → Type 0
OuterBlock (Block' _ list) = OuterNodes list

abbrev pub TreeOuter : Tree → Type 0
TreeOuter t = OuterBlock t.body
