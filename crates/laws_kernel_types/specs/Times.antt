-- The time literals of a text are in the range of a time, as in each tree of a text.
use Rattle.std.specs.Prelude.{⊤, ◌<◌, ◌^◌}
use Rattle.ceu_tree.specs.declared.source.Target.{Target}
use Rattle.ceu_tree.specs.declared.source.Target.TheVariants as target
use Rattle.ceu_tree.specs.declared.source.Await.{Await}
use Rattle.ceu_tree.specs.declared.source.Await.TheVariants as await
use Rattle.ceu_tree.specs.declared.source.Source as source
use Rattle.ceu_tree.specs.declared.source.Source.{Source}
use Rattle.ceu_tree.specs.declared.source.Item.{Held-Item-value, Item-value-None', Item-value-Some'}
use Rattle.ceu_tree.specs.declared.source.Do.{Do, Do'}
use Rattle.ceu_tree.specs.declared.source.Block.{Block, Block', Row_of-Node, end_of-Node, more_of-Node}
use Rattle.ceu_tree.specs.declared.source.Arm.{Arm, Arm'}
use Rattle.ceu_tree.specs.declared.source.Range.{Range, Range'}
use Rattle.ceu_tree.specs.declared.source.Stmt as stmt
use Rattle.ceu_tree.specs.declared.source.Stmt.{Stmt, Vars', If', Par', Row_of-Item, end_of-Item, more_of-Item, Row_of-Arm, end_of-Arm, more_of-Arm, Row_of-Block, end_of-Block, more_of-Block, Held-Stmt-If-1, Stmt-If-1-None', Stmt-If-1-Some'}
use Rattle.ceu_tree.specs.declared.source.Tree.{Tree}

-- below 2^63 microseconds
abbrev pub TargetTimed : Target → Type 0
TargetTimed (target.Time us) = us < 2 ^ 63
TargetTimed _ = ⊤

abbrev pub AwaitTimed : Await → Type 0
AwaitTimed (await.On x c) = TargetTimed x
AwaitTimed _ = ⊤

unfoldable mutual
  pub Timed : Stmt → Type 0
  Timed (Vars' t _ items) = TimedItems items
  Timed (stmt.Code x ps t b) = TimedBlock b
  Timed (stmt.Assign x v) = TimedSource v
  Timed (stmt.Await w) = AwaitTimed w
  Timed (stmt.Do d) = TimedDo d
  Timed (stmt.Finalize b) = TimedBlock b
  Timed (If' _ arms last) = TimedArms arms × TimedLast last
  Timed (stmt.Loop n b) = TimedBlock b
  Timed (stmt.Range r) = TimedRange r
  Timed (stmt.Every x t b) = TargetTimed t × TimedBlock b
  Timed (stmt.Watching t b) = TargetTimed t × TimedBlock b
  Timed (Par' k _ bs) = TimedBlocks bs
  Timed (stmt.Async xs b) = TimedBlock b
  Timed _ = ⊤

  pub TimedSource : Source → Type 0
  TimedSource (source.Wait w) = AwaitTimed w
  TimedSource (source.Done d) = TimedDo d
  TimedSource _ = ⊤

  pub TimedValue : Held-Item-value → Type 0
  TimedValue Item-value-None' = ⊤
  TimedValue (Item-value-Some' v) = TimedSource v

  pub TimedDo : Do → Type 0
  TimedDo (Do' l b) = TimedBlock b

  pub TimedBlock : Block → Type 0
  TimedBlock (Block' _ list) = TimedNodes list

  pub TimedArm : Arm → Type 0
  TimedArm (Arm' c b) = TimedBlock b

  pub TimedLast : Held-Stmt-If-1 → Type 0
  TimedLast Stmt-If-1-None' = ⊤
  TimedLast (Stmt-If-1-Some' b) = TimedBlock b

  pub TimedRange : Range → Type 0
  TimedRange (Range' x _ a b _ body) = TimedBlock body

  pub TimedItems : {n : _} → Row_of-Item n → Type 0
  TimedItems end_of-Item = ⊤
  TimedItems (more_of-Item x v rest) = TimedValue v × TimedItems rest

  pub TimedArms : {n : _} → Row_of-Arm n → Type 0
  TimedArms end_of-Arm = ⊤
  TimedArms (more_of-Arm arm rest) = TimedArm arm × TimedArms rest

  pub TimedBlocks : {n : _} → Row_of-Block n → Type 0
  TimedBlocks end_of-Block = ⊤
  TimedBlocks (more_of-Block b rest) = TimedBlock b × TimedBlocks rest

  pub TimedNodes : {n : _} → Row_of-Node n → Type 0
  TimedNodes end_of-Node = ⊤
  TimedNodes (more_of-Node p st rest) = Timed st × TimedNodes rest

-- each time literal is in range
abbrev pub TreeTimed : Tree → Type 0
TreeTimed t = TimedBlock t.body
