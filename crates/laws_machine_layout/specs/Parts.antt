-- What the memory says of the parts of a program that are open: registered finalizers, places of pools, links of awaited code, counters of loops,
-- branches of a par.
use Rattle.std.specs.Prelude.{◌≡◌, ℕ, ◌+◌, ◌*◌, ◌<◌, ◌≤◌, ℤ, Bool, true, false, ◌==◌, if◌then◌else◌, List, [], ◌∷◌, length, Option, Some, None, slice_get}
use Rattle.ceu_code.specs.Instructions.{cell}
use Rattle.ceu_mem.specs.declared.gate.Gate.{Gate}
use Rattle.ceu_isa.specs.Layout.{forever, finalizer}
use Rattle.ceu_tree.specs.declared.kernel.KDecl.{KDecl}
use Rattle.ceu_tree.specs.declared.kernel.KKind.{KKind}
use Rattle.ceu_tree.specs.declared.kernel.KKind.TheVariants as kind
use Rattle.ceu_tree.specs.declared.kernel.KLoop.{KLoop}
use Rattle.ceu_tree.specs.declared.kernel.KLoop.TheVariants as turns
use Rattle.ceu_tree.specs.declared.kernel.ParKind.{ParKind}
use Rattle.ceu_tree.specs.declared.kernel.ParKind.TheVariants as par
use Rattle.ceu_tree.specs.declared.kernel.KNode.{KNode}
use Rattle.ceu_tree.specs.declared.kernel.KBlock.{KBlock, out-KBlock}
use Rattle.ceu_tree.specs.declared.kernel.KStmt.{out-KStmt}
use Rattle.ceu_tree.specs.declared.kernel.KStmt.TheOpen.{KStmt-F}
use Rattle.ceu_tree.specs.Residual.{Counter, Turns, Upward, Seat, Residual, Over, Instances}
use Rattle.ceu_tree.specs.World.{is_among}
use Rattle.ceu_tree.specs.Leaf.{Layer}
use Rattle.ceu_tree.specs.Legal.{finalizers_of}
use Rattle.ceu_tree.specs.Step.{taken_in}
use Rattle.laws_machine_layout.specs.Tables.{Tables}
use Rattle.laws_machine_layout.specs.Views.{View, Free, Home, Keeps}

-- ---- finalizers

abbrev pub finalizer_block : Layer → ℕ
finalizer_block (KStmt-F.Finalize b) = (out-KBlock b).node
finalizer_block layer = 0

pub record FinalizerStands (t : Tables) (h : Home) (s : KNode) (gate : Gate) : Type 0 where
  pub keeps : Keeps h finalizer (t.begun (finalizer_block (out-KStmt s.stmt))) gate
  pub position_is : slice_get t.positions gate.key ≡ Some s.pos

-- registered finalizers with the last one first: the one that was registered first has the first gate
abbrev pub Registered : Tables → View → Home → List KNode → (low : ℕ) → Type 0
Registered t v h [] low = Unit {0}
Registered t v h (s ∷ more) low = FinalizerStands t h s (v.gate (low + length more)) × Registered t v h more low

-- how many finalizers the block registers at most
abbrev pub finalizers : KBlock → ℕ
finalizers b = length (finalizers_of [] (out-KBlock b).list)

-- ---- pools: their places stand side by side, in the slots and in the gates

abbrev pub decl_gates : Tables → KKind → ℕ
decl_gates t (kind.Pool n code) = n * t.gates code
decl_gates t k = 0

abbrev pub pools_gates : Tables → List KDecl → ℕ
pools_gates t [] = 0
pools_gates t (d ∷ ds) = decl_gates t d.kind + pools_gates t ds

-- the first gate of the pool that a slot holds; those of the declarations begin at `low`
abbrev pub pool_gate : Tables → (slot : ℕ) → List KDecl → (low : ℕ) → ℕ
pool_gate t slot [] low = low
pool_gate t slot (d ∷ ds) low = if d.slot == slot then low else pool_gate t slot ds (low + decl_gates t d.kind)

abbrev pub place_at : Tables → Home → (slot code place : ℕ) → ℕ
place_at t h slot code place = (h.frame + t.offset slot) + place * (9 + t.frame code)

-- the record of a place, free or not: its first gate and the row of its pool
pub record PlaceStands (t : Tables) (v : View) (slot at gate : ℕ) : Type 0 where
  pub first_gate : v.number 2 (at + 5) ≡ gate
  pub row : v.number 2 (at + 7) ≡ t.pool slot

pub record VacantPlace (t : Tables) (v : View) (slot code at gate : ℕ) : Type 0 where
  pub place : PlaceStands t v slot at gate
  pub vacant : v.number 1 at ≡ 0
  pub gates_free : Free v gate (gate + t.gates code)

-- the places of a block's pools that no instance has
abbrev pub VacantIn : Tables → View → Home → Instances → (gate : ℕ) → KDecl → KKind → Type 0
VacantIn t v h all gate d (kind.Pool n code) =
    (place : ℕ) → place < n → is_among place (taken_in d.slot all) ≡ false → VacantPlace t v d.slot code (place_at t h d.slot code place) (gate + place * t.gates code)
VacantIn t v h all gate d k = Unit {0}

abbrev pub Vacant : Tables → View → Home → Instances → (gate : ℕ) → List KDecl → Type 0
Vacant t v h all gate [] = Unit {0}
Vacant t v h all gate (d ∷ ds) = VacantIn t v h all gate d d.kind × Vacant t v h all (gate + decl_gates t d.kind) ds

-- The place of an instance: it is taken, has the spawn number, and its link says that it is an instance, and of which body.
pub record TakenPlace (t : Tables) (v : View) (h : Home) (seat : Seat) (at gate : ℕ) : Type 0 where
  pub place : PlaceStands t v seat.pool at gate
  pub taken : v.number 1 at ≡ 1
  pub number_is : v.number 4 (at + 1) ≡ seat.number
  pub is_instance : v.number 2 (at + 9) ≡ 65535
  pub spawner_frame : v.number 2 (at + 11) ≡ h.frame
  pub spawner_base : v.number 2 (at + 13) ≡ h.base

-- ---- awaited code: where its caller goes on, and the caller's frame and gates

abbrev pub frame_slot : Layer → ℕ
frame_slot (KStmt-F.AwaitCode code es slot t) = slot
frame_slot layer = 0

pub record Linked (t : Tables) (v : View) (h : Home) (s : KNode) (frame : ℕ) : Type 0 where
  pub goes_back : v.number 2 frame ≡ t.resumed s.node
  pub caller_frame : v.number 2 (frame + 2) ≡ h.frame
  pub caller_base : v.number 2 (frame + 4) ≡ h.base

-- ---- loops: how many turns have begun, or the next value and the last one

abbrev pub TurnsStand : Tables → View → Home → KLoop → Counter → Type 0
TurnsStand t v h (turns.Times slot n) (Turns k) = v.number 4 (h.frame + t.offset slot) ≡ k
TurnsStand t v h (turns.Range i next end open_a a b open_b) (Upward value last) =
    (v.number 8 (h.frame + t.offset next) ≡ cell value) × (v.number 8 (h.frame + t.offset end) ≡ cell last)
TurnsStand t v h k c = Unit {0}

abbrev pub CounterStands : Tables → View → Home → Layer → Counter → Type 0
CounterStands t v h (KStmt-F.Loop k b) c = TurnsStand t v h k c
CounterStands t v h layer c = Unit {0}

-- ---- branches

abbrev pub par_blocks : Layer → List KBlock
par_blocks (KStmt-F.Par k slot bs) = bs
par_blocks layer = []

abbrev pub par_slot : Layer → ℕ
par_slot (KStmt-F.Par k slot bs) = slot
par_slot layer = 0

-- in a par/and a byte says whether the branch has ended
abbrev pub BranchNoted : Tables → View → Home → ParKind → (slot ended : ℕ) → Type 0
BranchNoted t v h par.And slot ended = v.number 1 (h.frame + t.offset slot) ≡ ended
BranchNoted t v h k slot ended = Unit {0}

-- A branch that has ended: in a par its trail stays for ever, in a par/and it is gone. In a par/or there is none.
abbrev pub EndedBranch : Tables → View → Home → ParKind → (node slot low high : ℕ) → Type 0
EndedBranch t v h par.Never node slot low high = (low < high) × Keeps h forever (t.stays node) (v.gate low) × Free v (low + 1) high
EndedBranch t v h par.And node slot low high = BranchNoted t v h par.And slot 1 × Free v low high
EndedBranch t v h par.Or node slot low high = ⊥

-- one or the other, by whether the branch has ended
abbrev pub by_branch : Residual → (ended goes_on : Type 0) → Type 0
by_branch Over ended goes_on = ended
by_branch r ended goes_on = goes_on
