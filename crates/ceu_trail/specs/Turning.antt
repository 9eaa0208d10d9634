-- What stands in the memory and in the registers while the turn of a program of one trail is on.
use Rattle.std.specs.Prelude.{◌≡◌, ℕ, ◌<◌, Bool, true, false, List, [], None, Option, Some}
use Rattle.ceu_code.specs.declared.image.Image.{Image}
use Rattle.ceu_code.specs.Instructions.{cell}
use Rattle.ceu_mem.specs.Bytes.{number_at}
use Rattle.ceu_isa.specs.declared.registers.Registers.{Registers}
use Rattle.ceu_isa.specs.Layout.{state_of, top_of, given_of, reacting, slots_at, scratch_at}
use Rattle.ceu_isa.specs.Safety.{Fits}
use Rattle.ceu_tree.specs.declared.kernel.Kernel.{Kernel}
use Rattle.ceu_tree.specs.declared.kernel.Loc.{Loc}
use Rattle.ceu_tree.specs.declared.kernel.KNode.{KNode}
use Rattle.ceu_tree.specs.declared.kernel.KBlock.{KBlock}
use Rattle.ceu_tree.specs.declared.kernel.KStmt.{out-KStmt}
use Rattle.ceu_tree.specs.declared.kernel.KStmt.TheOpen.{KStmt-F}
use Rattle.ceu_tree.specs.Leaf.{Layer, target}
use Rattle.ceu_tree.specs.Residual.{Body, Program, Act, Begin, Start, Finish, AtEnd, AtHead, Again}
use Rattle.ceu_tree.specs.Focus.{Frame, OfBlock, OfLoop, Focus, Here, In}
use Rattle.ceu_tree.specs.World.{World}
use Rattle.ceu_shape.specs.Plans.{Plan, own_label, end_label}
use Rattle.ceu_shape.specs.Searches.{node_of_block}
use Rattle.laws_machine_layout.specs.Laws.{AreBytes}
use Rattle.laws_machine_layout.specs.Parts.{CounterStands}
use Rattle.laws_machine_layout.specs.Tables.{Tables}
use Rattle.laws_machine_layout.specs.Values.{ValuesStand}
use Rattle.laws_machine_layout.specs.Views.{View, view, Free, Home}
use Rattle.ceu_trail.specs.Built.{at_label, ListBuilt, IsHead}
use Rattle.ceu_trail.specs.Tables.{tables}

-- the program's frame, in which all lies
abbrev pub home : Image → Body → Home
home image body = record { frame = slots_at image; base = 0 }

-- ---- counters of open loops

abbrev pub FrameCounts : Tables → Image → View → Frame → Type 0
FrameCounts t image v (OfLoop s c) = CounterStands t v (home image Program) (out-KStmt s.stmt) c
FrameCounts t image v fr = Unit {0}

unfoldable pub Counted : {A : Type 0} → Tables → Image → View → Focus A → Type 0
Counted t image v (Here a) = Unit {0}
Counted t image v (In fr f) = FrameCounts t image v fr × Counted t image v f

module _ (image : Image) (P : Plan) (width : ℕ → ℕ) (K : Kernel) where
  -- ---- where the trail stands in the code

  -- the header's value is the one that a statement takes
  abbrev pub Brought : Option Loc → ℕ → List ℕ → Type 0
  Brought None value bytes = Unit {0}
  Brought (Some l) value bytes = number_at 8 bytes scratch_at ≡ value

  -- where a loop's body goes to behind its last line
  abbrev pub turn_end : Layer → ℕ
  turn_end (KStmt-F.Loop k b) = at_label image P K (end_label (node_of_block b))
  turn_end layer = 0

  -- by what the leaf does next; the frame is the one right around it
  abbrev pub EndsAt : (whole : Bool) → Frame → ℕ → Type 0
  EndsAt whole (OfBlock b fin all rest) at = ListBuilt image P K whole b [] at
  EndsAt whole fr at = ⊥

  abbrev pub HeadsAt : Frame → ℕ → Type 0
  HeadsAt (OfLoop s c) at = IsHead image P K s at
  HeadsAt fr at = ⊥

  abbrev pub GoesRoundAt : Frame → ℕ → Type 0
  GoesRoundAt (OfLoop s c) at = at ≡ turn_end (out-KStmt s.stmt)
  GoesRoundAt fr at = ⊥

  abbrev pub ActAt : (whole : Bool) → Frame → Act → (at : ℕ) → List ℕ → Type 0
  ActAt whole fr (Begin b) at bytes = at ≡ at_label image P K (own_label (node_of_block b))
  ActAt whole fr (Start s) at bytes = at ≡ at_label image P K (own_label s.node)
  ActAt whole fr (Finish s v) at bytes = (at ≡ (tables P width K).resumed s.node) × Brought (target s) (cell v) bytes
  ActAt whole fr AtEnd at bytes = EndsAt whole fr at
  ActAt whole fr AtHead at bytes = HeadsAt fr at
  ActAt whole fr Again at bytes = GoesRoundAt fr at

  -- the whole program begins at its body
  abbrev pub ProgramAt : Act → (at : ℕ) → Type 0
  ProgramAt (Begin b) at = at ≡ at_label image P K (own_label (node_of_block b))
  ProgramAt a at = ⊥

  unfoldable pub FocusAt : (whole : Bool) → Focus Act → (at : ℕ) → List ℕ → Type 0
  FocusAt whole (Here a) at bytes = ProgramAt a at
  FocusAt whole (In fr (Here a)) at bytes = ActAt whole fr a at bytes
  FocusAt whole (In fr (In inner f)) at bytes = FocusAt false (In inner f) at bytes

  -- ---- memory and registers

  -- while the trail runs all gates are free, and its own is the first one
  pub record MemoryHolds (w : World) (bytes : List ℕ) : Type 0 where
    pub fits : Fits image bytes
    pub are_bytes : AreBytes bytes
    pub state_is : state_of bytes ≡ reacting
    pub top_is : top_of bytes ≡ 0
    pub given_is : given_of bytes ≡ w.given
    pub free : Free (view image bytes) 0 image.gates
    pub values : ValuesStand (tables P width K) (home image) (view image bytes) w
    pub unfaulted : w.fault ≡ None

  pub record IsTrail (r : Registers) : Type 0 where
    pub own_is : r.own ≡ 0
    pub frame_is : r.frame ≡ slots_at image
    pub base_is : r.base ≡ 0
    pub depth_is : r.depth ≡ 0

  pub record TurnStands (f : Focus Act) (w : World) (r : Registers) (bytes : List ℕ) : Type 0 where
    pub memory : MemoryHolds w bytes
    pub trail : IsTrail r
    pub counted : Counted (tables P width K) image (view image bytes) f
    pub place : FocusAt true f r.at bytes
