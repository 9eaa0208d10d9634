-- What a listing shows of a kernel, in pre-order: the program's body and then each code, headed by its name; of a code its parameters first. In a
-- block come the declarations, at a statement its hidden slots, with names of their own, and its gate before its parts (this project's own).
use Rattle.std.specs.Prelude.{ℕ, ◌+◌, ◌^◌, ◌<◌, ⊤, List, [], ◌∷◌, ◌++◌, codes}
use Rattle.ceu_base.specs.declared.kinds.Pos.{Pos}
use Rattle.ceu_tree.specs.declared.kernel.Kernel.{Kernel}
use Rattle.ceu_tree.specs.declared.kernel.KCode.{KCode}
use Rattle.ceu_tree.specs.declared.kernel.KDecl.{KDecl}
use Rattle.ceu_tree.specs.declared.kernel.KLoop.{KLoop}
use Rattle.ceu_tree.specs.declared.kernel.KLoop.TheVariants as turns
use Rattle.ceu_tree.specs.declared.kernel.KBlock.{KBlock, KBlock', out-KBlock, Row_of-KNode, end_of-KNode, more_of-KNode}
use Rattle.ceu_tree.specs.declared.kernel.KNode.{KNode}
use Rattle.ceu_tree.specs.declared.kernel.KArm.{KArm, KArm'}
use Rattle.ceu_tree.specs.declared.kernel.KStmt.{KStmt, Row_of-KArm, end_of-KArm, more_of-KArm, Row_of-KBlock, end_of-KBlock, more_of-KBlock, AwaitIn, AwaitTime, AwaitEvent, AwaitCode, Emit, Spawn, Forever, Async, Finalize, Do, If', Loop, Par'}
use Rattle.ceu_tree.specs.Numbering.{par_slots, row_length}

pub data Row : Type 0 where
  SlotRow : (slot : ℕ) (name : List ℕ) (place : Pos) → Row
  GateRow : (node : ℕ) (place : Pos) → Row
  CodeRow : (code : ℕ) (name : List ℕ) (body : ℕ) → Row

abbrev pub decl_rows : List KDecl → List Row
decl_rows [] = []
decl_rows (d ∷ ds) = SlotRow d.slot d.name d.pos ∷ decl_rows ds

abbrev pub turn_rows : Pos → KLoop → List Row
turn_rows p turns.Free = []
turn_rows p (turns.Times slot n) = SlotRow slot (codes ".count") p ∷ []
turn_rows p (turns.Range i next end open_a a b open_b) = SlotRow i (codes ".var") p ∷ SlotRow next (codes ".next") p ∷ SlotRow end (codes ".end") p ∷ []

abbrev pub byte_rows : Pos → List ℕ → List Row
byte_rows p [] = []
byte_rows p (slot ∷ slots) = SlotRow slot (codes ".and") p ∷ byte_rows p slots

unfoldable mutual
  pub stmt_rows : (node : ℕ) → Pos → KStmt → List Row
  stmt_rows n p (AwaitIn k t) = GateRow n p ∷ []
  stmt_rows n p (AwaitTime e u t) = GateRow n p ∷ []
  stmt_rows n p (AwaitEvent e t) = GateRow n p ∷ []
  stmt_rows n p Forever = GateRow n p ∷ []
  stmt_rows n p (Emit e x) = GateRow n p ∷ []
  stmt_rows n p (Spawn c es pool a) = GateRow n p ∷ []
  stmt_rows n p (AwaitCode c es slot t) = SlotRow slot (codes ".frame") p ∷ []
  stmt_rows n p (Async b) = GateRow n p ∷ block_rows b
  stmt_rows n p (Finalize b) = GateRow n p ∷ block_rows b
  stmt_rows n p (Do t b) = block_rows b
  stmt_rows n p (If' _ arms last) = arms_rows arms ++ block_rows last
  stmt_rows n p (Loop k b) = turn_rows p k ++ block_rows b
  stmt_rows n p (Par' k slot _ bs) = byte_rows p (par_slots k slot (row_length bs)) ++ blocks_rows bs
  stmt_rows n p _ = []

  pub block_rows : KBlock → List Row
  block_rows (KBlock' n ds _ list) = decl_rows ds ++ nodes_rows list

  pub arm_rows : KArm → List Row
  arm_rows (KArm' c b) = block_rows b

  pub nodes_rows : {n : _} → Row_of-KNode n → List Row
  nodes_rows end_of-KNode = []
  nodes_rows (more_of-KNode n p s rest) = stmt_rows n p s ++ nodes_rows rest

  pub arms_rows : {n : _} → Row_of-KArm n → List Row
  arms_rows end_of-KArm = []
  arms_rows (more_of-KArm a rest) = arm_rows a ++ arms_rows rest

  pub blocks_rows : {n : _} → Row_of-KBlock n → List Row
  blocks_rows end_of-KBlock = []
  blocks_rows (more_of-KBlock b rest) = block_rows b ++ blocks_rows rest

abbrev pub node_rows : KNode → List Row
node_rows n = stmt_rows n.node n.pos n.stmt

-- the rows of each item, one after the other
abbrev pub list_rows : {X : Type 0} → (X → List Row) → List X → List Row
list_rows f [] = []
list_rows f (x ∷ xs) = f x ++ list_rows f xs

abbrev pub code_rows : (number : ℕ) → KCode → List Row
code_rows k c = CodeRow k c.name (out-KBlock c.body).node ∷ (decl_rows c.params ++ block_rows c.body)

abbrev pub codes_rows : (number : ℕ) → List KCode → List Row
codes_rows k [] = []
codes_rows k (c ∷ cs) = code_rows k c ++ codes_rows (k + 1) cs

abbrev pub kernel_rows : Kernel → List Row
kernel_rows K = block_rows K.body ++ codes_rows 0 K.codes

-- ---- rows of a plan with so many slots and codes

abbrev pub IsNumbered : (slots codes : ℕ) → Row → Type 0
IsNumbered slots codes (SlotRow slot name place) = (slot < slots) × (slot < 2 ^ 32)
IsNumbered slots codes (GateRow node place) = ⊤
IsNumbered slots codes (CodeRow code name body) = (code < codes) × (code < 2 ^ 32)

abbrev pub AreNumbered : (slots codes : ℕ) → List Row → Type 0
AreNumbered slots codes [] = ⊤
AreNumbered slots codes (r ∷ rs) = IsNumbered slots codes r × AreNumbered slots codes rs
