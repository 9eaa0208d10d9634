-- What each slot of a kernel is declared as, by its number: slots are numbered through the whole kernel, so that a number tells the declaration (this
-- project's own).
use Rattle.std.specs.Prelude.{ℕ, if◌then◌else◌, ◌==◌, List, [], ◌∷◌, ◌++◌, Option, Some, None}
use Rattle.ceu_tree.specs.declared.kernel.Kernel.{Kernel}
use Rattle.ceu_tree.specs.declared.kernel.KCode.{KCode}
use Rattle.ceu_tree.specs.declared.kernel.KDecl.{KDecl}
use Rattle.ceu_tree.specs.declared.kernel.KLoop.{KLoop}
use Rattle.ceu_tree.specs.declared.kernel.KLoop.TheVariants as turns
use Rattle.ceu_tree.specs.declared.kernel.KArm.{KArm, KArm'}
use Rattle.ceu_tree.specs.declared.kernel.KBlock.{KBlock, KBlock', Row_of-KNode, end_of-KNode, more_of-KNode}
use Rattle.ceu_tree.specs.declared.kernel.KStmt.{KStmt, Row_of-KArm, end_of-KArm, more_of-KArm, Row_of-KBlock, end_of-KBlock, more_of-KBlock, AwaitCode, Async, Finalize, Do, If', Loop, Par'}
use Rattle.ceu_tree.specs.Numbering.{par_slots, row_length}
use Rattle.ceu_tree.specs.Proper.{SlotKind, IsLoopVariable, pool_slots, pools_seen, slot_kind, declared_seen}

-- a slot, as it is seen where it has a declaration or is a loop's variable: an alias with the pools of its block and of those around
pub record Row : Type 0 where
  pub slot : ℕ
  pub kind : Option SlotKind

abbrev pub hidden : List ℕ → List Row
hidden [] = []
hidden (x ∷ xs) = record { slot = x; kind = None } ∷ hidden xs

abbrev pub decl_rows : (pools : List ℕ) → List KDecl → List Row
decl_rows pools [] = []
decl_rows pools (d ∷ ds) = record { slot = d.slot; kind = Some (slot_kind pools d.kind) } ∷ decl_rows pools ds

abbrev pub loop_rows : KLoop → List Row
loop_rows turns.Free = []
loop_rows (turns.Times slot n) = hidden (slot ∷ [])
loop_rows (turns.Range i next end open_a a b open_b) = record { slot = i; kind = Some IsLoopVariable } ∷ hidden (next ∷ end ∷ [])

abbrev pub inner_pools : List ℕ → List KDecl → List ℕ
inner_pools pools ds = pool_slots ds ++ pools

unfoldable mutual
  pub stmt_rows : List ℕ → KStmt → List Row
  stmt_rows ps (AwaitCode c es frame t) = hidden (frame ∷ [])
  stmt_rows ps (Async b) = block_rows ps b
  stmt_rows ps (Finalize b) = block_rows ps b
  stmt_rows ps (Do t b) = block_rows ps b
  stmt_rows ps (If' _ arms last) = arms_rows ps arms ++ block_rows ps last
  stmt_rows ps (Loop k b) = loop_rows k ++ block_rows ps b
  stmt_rows ps (Par' k slot _ bs) = hidden (par_slots k slot (row_length bs)) ++ blocks_rows ps bs
  stmt_rows ps _ = []

  pub block_rows : List ℕ → KBlock → List Row
  block_rows ps (KBlock' n ds _ list) = decl_rows (inner_pools ps ds) ds ++ list_rows (inner_pools ps ds) list

  pub arm_rows : List ℕ → KArm → List Row
  arm_rows ps (KArm' c b) = block_rows ps b

  pub list_rows : {n : _} → List ℕ → Row_of-KNode n → List Row
  list_rows ps end_of-KNode = []
  list_rows ps (more_of-KNode n p s rest) = stmt_rows ps s ++ list_rows ps rest

  pub arms_rows : {n : _} → List ℕ → Row_of-KArm n → List Row
  arms_rows ps end_of-KArm = []
  arms_rows ps (more_of-KArm a rest) = arm_rows ps a ++ arms_rows ps rest

  pub blocks_rows : {n : _} → List ℕ → Row_of-KBlock n → List Row
  blocks_rows ps end_of-KBlock = []
  blocks_rows ps (more_of-KBlock b rest) = block_rows ps b ++ blocks_rows ps rest

-- the pools that are seen in the body of code
abbrev pub code_pools : KCode → List ℕ
code_pools c = pools_seen (declared_seen (inner_pools [] c.params) c.params [])

abbrev pub codes_rows : List KCode → List Row
codes_rows [] = []
codes_rows (c ∷ cs) = decl_rows (inner_pools [] c.params) c.params ++ block_rows (code_pools c) c.body ++ codes_rows cs

abbrev pub rows : Kernel → List Row
rows K = block_rows [] K.body ++ codes_rows K.codes

-- the kind that a slot has
abbrev pub kind_at : ℕ → List Row → Option SlotKind
kind_at slot [] = None
kind_at slot (x ∷ xs) = if x.slot == slot then x.kind else kind_at slot xs
