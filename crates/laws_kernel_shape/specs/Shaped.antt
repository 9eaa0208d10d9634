-- What a kernel takes over from the text: positions, ranges of numbers, and at least two branches of a par.
use Rattle.std.specs.Prelude.{◌≡◌, ⊤, ℕ, ◌≤◌, ◌<◌, ◌^◌, List, [], ◌∷◌, Option, Some, None}
use Rattle.ceu_base.specs.declared.kinds.Pos.{Pos}
use Rattle.ceu_tree.specs.declared.source.Ident.{Ident}
use Rattle.ceu_tree.specs.declared.source.Param.{Param}
use Rattle.ceu_tree.specs.declared.source.Spawn.{Spawn}
use Rattle.ceu_tree.specs.declared.source.Source as source
use Rattle.ceu_tree.specs.declared.source.Source.{Source}
use Rattle.ceu_tree.specs.declared.source.Item.{Held-Item-value, Item-value-None', Item-value-Some'}
use Rattle.ceu_tree.specs.declared.source.Do.{Do, Do'}
use Rattle.ceu_tree.specs.declared.source.Block.{Block, Block', Row_of-Node, end_of-Node, more_of-Node}
use Rattle.ceu_tree.specs.declared.source.Arm.{Arm, Arm'}
use Rattle.ceu_tree.specs.declared.source.Range.{Range, Range'}
use Rattle.ceu_tree.specs.declared.source.Stmt as stmt
use Rattle.ceu_tree.specs.declared.source.Stmt.{Stmt, Vars', If', Par', Row_of-Item, end_of-Item, more_of-Item, Row_of-Arm, end_of-Arm, more_of-Arm, Row_of-Block, end_of-Block, more_of-Block, Held-Stmt-If-1, Stmt-If-1-None', Stmt-If-1-Some'}
use Rattle.ceu_tree.specs.declared.source.Tree.{Tree}
use Rattle.ceu_tree.specs.declared.kernel.Kernel.{Kernel}
use Rattle.ceu_tree.specs.declared.kernel.KCode.{KCode}
use Rattle.ceu_tree.specs.declared.kernel.KEvent.{KEvent}
use Rattle.ceu_tree.specs.declared.kernel.KDecl.{KDecl}
use Rattle.ceu_tree.specs.declared.kernel.KKind.{KKind}
use Rattle.ceu_tree.specs.declared.kernel.KKind.TheVariants as kind
use Rattle.ceu_tree.specs.declared.kernel.KLoop.{KLoop}
use Rattle.ceu_tree.specs.declared.kernel.KLoop.TheVariants as turns
use Rattle.ceu_tree.specs.declared.kernel.KBlock.{KBlock, KBlock', Row_of-KNode, end_of-KNode, more_of-KNode}
use Rattle.ceu_tree.specs.declared.kernel.KArm.{KArm, KArm'}
use Rattle.ceu_tree.specs.declared.kernel.KStmt as k
use Rattle.ceu_tree.specs.declared.kernel.KStmt.{KStmt, Row_of-KArm, end_of-KArm, more_of-KArm, Row_of-KBlock, end_of-KBlock, more_of-KBlock}
use Rattle.ceu_tree.specs.Numbering.{row_length}
use Rattle.ceu_tree.specs.declared.kernel.ParKind.{ParKind}
use Rattle.ceu_tree.specs.declared.kernel.ParKind.TheVariants as par
use Rattle.ceu_expand.specs.Expansion.{row_blocks}

abbrev pub AllOf : {A : Type 0} → (A → Type 0) → List A → Type 0
AllOf P [] = ⊤
AllOf P (x ∷ xs) = P x × AllOf P xs

-- lines and columns are counted from 1
abbrev pub IsPlace : Pos → Type 0
IsPlace p = (1 ≤ p.line) × (1 ≤ p.col)

abbrev pub InRange : ℕ → Type 0
InRange n = n < 2 ^ 32

-- ---- kernels

abbrev pub KindShaped : KKind → Type 0
KindShaped (kind.Pool n c) = InRange n
KindShaped _ = ⊤

abbrev pub DeclShaped : KDecl → Type 0
DeclShaped d = IsPlace d.pos × KindShaped d.kind

abbrev pub TurnsShaped : KLoop → Type 0
TurnsShaped (turns.Times slot n) = InRange n
TurnsShaped _ = ⊤

-- a par has two branches at least, and a slot only where it rejoins by all of them
abbrev pub ParShaped : ParKind → ℕ → ℕ → Type 0
ParShaped par.And slot n = 2 ≤ n
ParShaped _ slot n = (2 ≤ n) × (slot ≡ 0)

unfoldable mutual
  pub StmtShaped : KStmt → Type 0
  StmtShaped (k.Async b) = BlockShaped b
  StmtShaped (k.Finalize b) = BlockShaped b
  StmtShaped (k.Do t b) = BlockShaped b
  StmtShaped (k.If' _ arms last) = ArmsShaped arms × BlockShaped last
  StmtShaped (k.Loop turns b) = TurnsShaped turns × BlockShaped b
  StmtShaped (k.Par' kind slot _ bs) = ParShaped kind slot (row_length bs) × BlocksShaped bs
  StmtShaped _ = ⊤

  pub BlockShaped : KBlock → Type 0
  BlockShaped (KBlock' n ds _ list) = AllOf DeclShaped ds × NodesShaped list

  pub ArmShaped : KArm → Type 0
  ArmShaped (KArm' c b) = BlockShaped b

  pub NodesShaped : {n : _} → Row_of-KNode n → Type 0
  NodesShaped end_of-KNode = ⊤
  NodesShaped (more_of-KNode n p s rest) = (IsPlace p × StmtShaped s) × NodesShaped rest

  pub ArmsShaped : {n : _} → Row_of-KArm n → Type 0
  ArmsShaped end_of-KArm = ⊤
  ArmsShaped (more_of-KArm a rest) = ArmShaped a × ArmsShaped rest

  pub BlocksShaped : {n : _} → Row_of-KBlock n → Type 0
  BlocksShaped end_of-KBlock = ⊤
  BlocksShaped (more_of-KBlock b rest) = BlockShaped b × BlocksShaped rest

abbrev pub CodeShaped : KCode → Type 0
CodeShaped c = AllOf DeclShaped c.params × BlockShaped c.body

abbrev pub EventShaped : KEvent → Type 0
EventShaped e = IsPlace e.pos

abbrev pub KernelShaped : Kernel → Type 0
KernelShaped K = BlockShaped K.body × AllOf CodeShaped K.codes × AllOf EventShaped K.events

-- ---- texts

abbrev pub NamePlaced : Ident → Type 0
NamePlaced x = IsPlace x.pos

abbrev pub ParamPlaced : Param → Type 0
ParamPlaced x = IsPlace x.name.pos

abbrev pub StartPlaced : Option Spawn → Type 0
StartPlaced None = ⊤
StartPlaced (Some s) = IsPlace s.pos

abbrev pub LimitInRange : Option ℕ → Type 0
LimitInRange None = ⊤
LimitInRange (Some n) = InRange n

unfoldable mutual
  pub Placed : Stmt → Type 0
  Placed (Vars' t _ items) = ItemsPlaced items
  Placed (stmt.AliasDecl code x start) = NamePlaced x × StartPlaced start
  Placed (stmt.Events t xs) = AllOf NamePlaced xs
  Placed (stmt.Pool n code x) = NamePlaced x × InRange n
  Placed (stmt.Code x ps t b) = AllOf ParamPlaced ps × BlockPlaced b
  Placed (stmt.Assign x v) = SourcePlaced v
  Placed (stmt.Spawn s) = IsPlace s.pos
  Placed (stmt.Do d) = DoPlaced d
  Placed (stmt.Finalize b) = BlockPlaced b
  Placed (If' _ arms last) = ArmsPlaced arms × LastPlaced last
  Placed (stmt.Loop limit b) = LimitInRange limit × BlockPlaced b
  Placed (stmt.Range r) = RangePlaced r
  Placed (stmt.Every x t b) = BlockPlaced b
  Placed (stmt.Watching t b) = BlockPlaced b
  Placed (Par' kind _ bs) = (2 ≤ row_blocks bs) × BlocksPlaced bs
  Placed (stmt.Async xs b) = BlockPlaced b
  Placed _ = ⊤

  pub SourcePlaced : Source → Type 0
  SourcePlaced (source.Start s) = IsPlace s.pos
  SourcePlaced (source.Done d) = DoPlaced d
  SourcePlaced _ = ⊤

  pub ValuePlaced : Held-Item-value → Type 0
  ValuePlaced Item-value-None' = ⊤
  ValuePlaced (Item-value-Some' v) = SourcePlaced v

  pub DoPlaced : Do → Type 0
  DoPlaced (Do' l b) = BlockPlaced b

  pub BlockPlaced : Block → Type 0
  BlockPlaced (Block' _ list) = NodesPlaced list

  pub ArmPlaced : Arm → Type 0
  ArmPlaced (Arm' c b) = BlockPlaced b

  pub LastPlaced : Held-Stmt-If-1 → Type 0
  LastPlaced Stmt-If-1-None' = ⊤
  LastPlaced (Stmt-If-1-Some' b) = BlockPlaced b

  pub RangePlaced : Range → Type 0
  RangePlaced (Range' x _ a b _ body) = BlockPlaced body

  pub ItemsPlaced : {n : _} → Row_of-Item n → Type 0
  ItemsPlaced end_of-Item = ⊤
  ItemsPlaced (more_of-Item x v rest) = (NamePlaced x × ValuePlaced v) × ItemsPlaced rest

  pub ArmsPlaced : {n : _} → Row_of-Arm n → Type 0
  ArmsPlaced end_of-Arm = ⊤
  ArmsPlaced (more_of-Arm arm rest) = ArmPlaced arm × ArmsPlaced rest

  pub BlocksPlaced : {n : _} → Row_of-Block n → Type 0
  BlocksPlaced end_of-Block = ⊤
  BlocksPlaced (more_of-Block b rest) = BlockPlaced b × BlocksPlaced rest

  pub NodesPlaced : {n : _} → Row_of-Node n → Type 0
  NodesPlaced end_of-Node = ⊤
  NodesPlaced (more_of-Node p st rest) = (IsPlace p × Placed st) × NodesPlaced rest

-- statements, declared names and spawns have positions, numbers are in range, and a par has two branches at least, as in each tree of a text
abbrev pub TreePlaced : Tree → Type 0
TreePlaced t = BlockPlaced t.body
