-- Code stands in the outermost block of a program alone.
use Rattle.std.specs.Prelude.{⊤}
use Rattle.ceu_tree.specs.declared.source.Source as source
use Rattle.ceu_tree.specs.declared.source.Source.{Source}
use Rattle.ceu_tree.specs.declared.source.Item.{Held-Item-value, Item-value-None', Item-value-Some'}
use Rattle.ceu_tree.specs.declared.source.Do.{Do, Do'}
use Rattle.ceu_tree.specs.declared.source.Block.{Block, Block', Row_of-Node, end_of-Node, more_of-Node}
use Rattle.ceu_tree.specs.declared.source.Arm.{Arm, Arm'}
use Rattle.ceu_tree.specs.declared.source.Range.{Range, Range'}
use Rattle.ceu_tree.specs.declared.source.Stmt as stmt
use Rattle.ceu_tree.specs.declared.source.Stmt.{Stmt, Vars', If', Par', Row_of-Item, end_of-Item, more_of-Item, Row_of-Arm, end_of-Arm, more_of-Arm, Row_of-Block, end_of-Block, more_of-Block, Held-Stmt-If-1, Stmt-If-1-None', Stmt-If-1-Some'}
use Rattle.ceu_tree.specs.declared.source.Tree.{Tree}

-- there is no code in it
unfoldable mutual
  pub NoCode : Stmt → Type 0
  NoCode (Vars' t _ items) = NoCodeInItems items
  NoCode (stmt.Code x ps t b) = ⊥
  NoCode (stmt.Assign x v) = NoCodeInSource v
  NoCode (stmt.Do d) = NoCodeInDo d
  NoCode (stmt.Finalize b) = NoCodeInBlock b
  NoCode (If' _ arms last) = NoCodeInArms arms × NoCodeInLast last
  NoCode (stmt.Loop n b) = NoCodeInBlock b
  NoCode (stmt.Range r) = NoCodeInRange r
  NoCode (stmt.Every x t b) = NoCodeInBlock b
  NoCode (stmt.Watching t b) = NoCodeInBlock b
  NoCode (Par' k _ bs) = NoCodeInBlocks bs
  NoCode (stmt.Async xs b) = NoCodeInBlock b
  NoCode _ = ⊤

  pub NoCodeInSource : Source → Type 0
  NoCodeInSource (source.Done d) = NoCodeInDo d
  NoCodeInSource _ = ⊤

  pub NoCodeInValue : Held-Item-value → Type 0
  NoCodeInValue Item-value-None' = ⊤
  NoCodeInValue (Item-value-Some' v) = NoCodeInSource v

  pub NoCodeInDo : Do → Type 0
  NoCodeInDo (Do' l b) = NoCodeInBlock b

  pub NoCodeInBlock : Block → Type 0
  NoCodeInBlock (Block' _ list) = NoCodeInNodes list

  pub NoCodeInArm : Arm → Type 0
  NoCodeInArm (Arm' c b) = NoCodeInBlock b

  pub NoCodeInLast : Held-Stmt-If-1 → Type 0
  NoCodeInLast Stmt-If-1-None' = ⊤
  NoCodeInLast (Stmt-If-1-Some' b) = NoCodeInBlock b

  pub NoCodeInRange : Range → Type 0
  NoCodeInRange (Range' x _ a b _ body) = NoCodeInBlock body

  pub NoCodeInItems : {n : _} → Row_of-Item n → Type 0
  NoCodeInItems end_of-Item = ⊤
  NoCodeInItems (more_of-Item x v rest) = NoCodeInValue v × NoCodeInItems rest

  pub NoCodeInArms : {n : _} → Row_of-Arm n → Type 0
  NoCodeInArms end_of-Arm = ⊤
  NoCodeInArms (more_of-Arm arm rest) = NoCodeInArm arm × NoCodeInArms rest

  pub NoCodeInBlocks : {n : _} → Row_of-Block n → Type 0
  NoCodeInBlocks end_of-Block = ⊤
  NoCodeInBlocks (more_of-Block b rest) = NoCodeInBlock b × NoCodeInBlocks rest

  pub NoCodeInNodes : {n : _} → Row_of-Node n → Type 0
  NoCodeInNodes end_of-Node = ⊤
  NoCodeInNodes (more_of-Node p st rest) = NoCode st × NoCodeInNodes rest

-- a statement of the outermost block may be code, in which there is none
unfoldable pub Outermost : Stmt → Type 0
Outermost (stmt.Code x ps t b) = NoCodeInBlock b
Outermost st = NoCode st

unfoldable pub OutermostNodes : {n : _} → Row_of-Node n → Type 0
OutermostNodes end_of-Node = ⊤
OutermostNodes (more_of-Node p st rest) = Outermost st × OutermostNodes rest

unfoldable pub OutermostBlock : Block → Type 0
OutermostBlock (Block' _ list) = OutermostNodes list

abbrev pub CodesOutermost : Tree → Type 0
CodesOutermost t = OutermostBlock t.body
