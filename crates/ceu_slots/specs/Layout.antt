-- Where the slots of a program lie (this project's own). Places are offsets in a frame: the program's frame begins with its slots, a code's with
-- 8 bytes of link, and then its parameters.
--
-- In a block the declarations stand in textual order from its place on. In the overlapped layout all statements of its list start at the place
-- behind them, since one of them runs at a time, and so do all parts of an If. In the plain layout (`plain`) they stand one after the
-- other. The branches of a par stand side by side, behind the bytes of a par/and. A range has its variable, the next value and the end before its
-- body, a counted loop its count. A finalizer declares nothing.
use Rattle.std.specs.Prelude.{ℕ, zero, suc, ◌+◌, ◌*◌, ◌==◌, Bool, if◌then◌else◌, List, [], ◌∷◌, ◌++◌}
use Rattle.ceu_slots.specs.declared.layout.SlotPlace.{SlotPlace}
use Rattle.ceu_tree.specs.declared.kernel.Kernel.{Kernel}
use Rattle.ceu_tree.specs.declared.kernel.KCode.{KCode}
use Rattle.ceu_tree.specs.declared.kernel.KDecl.{KDecl}
use Rattle.ceu_tree.specs.declared.kernel.KLoop.{KLoop}
use Rattle.ceu_tree.specs.declared.kernel.KLoop.TheVariants as turns
use Rattle.ceu_tree.specs.declared.kernel.KBlock.{KBlock, KBlock', Row_of-KNode, end_of-KNode, more_of-KNode}
use Rattle.ceu_tree.specs.declared.kernel.KNode.{KNode}
use Rattle.ceu_tree.specs.declared.kernel.KArm.{KArm, KArm'}
use Rattle.ceu_tree.specs.declared.kernel.KStmt.{KStmt, Row_of-KArm, end_of-KArm, more_of-KArm, Row_of-KBlock, end_of-KBlock, more_of-KBlock, AwaitCode, Async, Do, If', Loop, Par'}
use Rattle.ceu_tree.specs.Needs.{entry, decl_size, decls_size, loop_size, branch_size, stmt_need, block_need, arm_need, arms_need, frame_of, frames_from, slots}
use Rattle.ceu_tree.specs.Numbering.{row_length, block_slots, codes_slots}

abbrev pub place : (slot offset size : ℕ) → SlotPlace
place slot offset size = record { slot = slot; offset = offset; size = size }

-- where the next statement of a list, or the next part of an If, starts
abbrev pub behind : Bool → (at size : ℕ) → ℕ
behind plain at size = if plain then at + size else at

abbrev pub decl_places : List ℕ → (at : ℕ) → List KDecl → List SlotPlace
decl_places frames at [] = []
decl_places frames at (d ∷ ds) = place d.slot at (decl_size frames d.kind) ∷ decl_places frames (at + decl_size frames d.kind) ds

abbrev pub turn_places : (at : ℕ) → KLoop → List SlotPlace
turn_places at turns.Free = []
turn_places at (turns.Times slot n) = place slot at 4 ∷ []
turn_places at (turns.Range i next end open_a a b open_b) = place i at 4 ∷ place next (at + 4) 8 ∷ place end (at + 12) 8 ∷ []

-- a byte for each of the slots from `slot` on
abbrev pub byte_places : (slot at count : ℕ) → List SlotPlace
byte_places slot at zero = []
byte_places slot at (suc n) = place slot at 1 ∷ byte_places (slot + 1) (at + 1) n

module _ (plain : Bool) (frames : List ℕ) where
  unfoldable mutual
    pub stmt_places : (at : ℕ) → KStmt → List SlotPlace
    stmt_places at (AwaitCode c es f t) = place f at (entry c frames) ∷ []
    stmt_places at (Async b) = block_places at b
    stmt_places at (Do t b) = block_places at b
    stmt_places at (If' _ arms last) = arms_places at arms ++ block_places (behind plain at (arms_need plain frames arms)) last
    stmt_places at (Loop k b) = turn_places at k ++ block_places (at + loop_size k) b
    stmt_places at (Par' k slot _ bs) = byte_places slot at (branch_size k * row_length bs) ++ blocks_places (at + branch_size k * row_length bs) bs
    stmt_places at _ = []

    pub block_places : (at : ℕ) → KBlock → List SlotPlace
    block_places at (KBlock' n ds _ list) = decl_places frames at ds ++ nodes_places (at + decls_size frames ds) list

    pub arm_places : (at : ℕ) → KArm → List SlotPlace
    arm_places at (KArm' c b) = block_places at b

    pub nodes_places : {n : _} → (at : ℕ) → Row_of-KNode n → List SlotPlace
    nodes_places at end_of-KNode = []
    nodes_places at (more_of-KNode n p s rest) = stmt_places at s ++ nodes_places (behind plain at (stmt_need plain frames s)) rest

    pub arms_places : {n : _} → (at : ℕ) → Row_of-KArm n → List SlotPlace
    arms_places at end_of-KArm = []
    arms_places at (more_of-KArm a rest) = arm_places at a ++ arms_places (behind plain at (arm_need plain frames a)) rest

    pub blocks_places : {n : _} → (at : ℕ) → Row_of-KBlock n → List SlotPlace
    blocks_places at end_of-KBlock = []
    blocks_places at (more_of-KBlock b rest) = block_places at b ++ blocks_places (at + block_need plain frames b) rest

  -- the same over lists
  abbrev pub list_places : (at : ℕ) → List KNode → List SlotPlace
  list_places at [] = []
  list_places at (n ∷ ns) = stmt_places at n.stmt ++ list_places (behind plain at (stmt_need plain frames n.stmt)) ns

  abbrev pub arm_list_places : (at : ℕ) → List KArm → List SlotPlace
  arm_list_places at [] = []
  arm_list_places at (a ∷ more) = arm_places at a ++ arm_list_places (behind plain at (arm_need plain frames a)) more

  abbrev pub block_list_places : (at : ℕ) → List KBlock → List SlotPlace
  block_list_places at [] = []
  block_list_places at (b ∷ bs) = block_places at b ++ block_list_places (at + block_need plain frames b) bs

  abbrev pub code_places : KCode → List SlotPlace
  code_places c = decl_places frames 8 c.params ++ block_places (8 + decls_size frames c.params) c.body

-- these codes, after the codes whose frames are known
abbrev pub codes_places : Bool → List ℕ → List KCode → List SlotPlace
codes_places plain frames [] = []
codes_places plain frames (c ∷ cs) = code_places plain frames c ++ codes_places plain (frames ++ frame_of plain frames c ∷ []) cs

-- every slot in the order of the numbers
unfoldable pub places : Bool → Kernel → List SlotPlace
places plain K = block_places plain (frames_from plain [] K.codes) 0 K.body ++ codes_places plain [] K.codes

-- what a list says of a slot
abbrev pub number_of : (SlotPlace → ℕ) → (slot : ℕ) → List SlotPlace → ℕ
number_of f slot [] = 0
number_of f slot (r ∷ rs) = if r.slot == slot then f r else number_of f slot rs

abbrev pub the_offset : SlotPlace → ℕ
the_offset r = r.offset

abbrev pub the_size : SlotPlace → ℕ
the_size r = r.size

unfoldable pub offset_of : Bool → Kernel → (slot : ℕ) → ℕ
offset_of plain K slot = number_of the_offset slot (places plain K)

unfoldable pub size_of : Bool → Kernel → (slot : ℕ) → ℕ
size_of plain K slot = number_of the_size slot (places plain K)

abbrev pub frame_of_code : Bool → Kernel → (code : ℕ) → ℕ
frame_of_code plain K code = entry code (frames_from plain [] K.codes)

abbrev pub total_of : Bool → Kernel → ℕ
total_of plain K = slots plain K

-- the slots of a kernel, by their numbers
abbrev pub slot_numbers : Kernel → List ℕ
slot_numbers K = block_slots K.body ++ codes_slots K.codes
