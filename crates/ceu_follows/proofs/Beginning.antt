-- A trail that can run begins its turn: the machine chooses its gate, which is the first one, and its turn stands in the memory then.
use Rattle.std.proofs.Common.{◌≡◌, refl, ap, ◌∙◌, subst, ◌<◌, ◌≤◌, ◌⊎◌, inl, ℕ, zero, suc, ◌+◌, ◌%◌, ◌^◌, ℤ, Bool, true, false, ◌==◌, List, Option, Some, None, arith}
use Rattle.std.specs.Prelude.{if◌then◌else◌, ◌&&◌}
use Rattle.std.proofs.lemmas.Bool.{lt-ltb}
use Rattle.ceu_base.specs.declared.kinds.Ty.{Ty}
use Rattle.ceu_code.specs.declared.image.Image.{Image}
use Rattle.ceu_code.specs.Instructions.{cell}
use Rattle.ceu_mem.specs.declared.gate.Gate.{Gate}
use Rattle.ceu_mem.specs.Bytes.{number_at, with_number}
use Rattle.ceu_mem.specs.Memory.{IsGate}
use Rattle.ceu_mem.proofs.Views.{number_written, number_outside}
use Rattle.ceu_isa.specs.declared.registers.Registers.{Registers}
use Rattle.ceu_isa.specs.Layout.{slots_at, scratch_at, gate_of, gate_put, freed, free, can_run, on_input, on_time, on_event, forever, runs_at}
use Rattle.ceu_isa.specs.Order.{Nowhere, Chosen}
use Rattle.ceu_isa.specs.Reactions.{first_at}
use Rattle.ceu_isa.specs.Safety.{Fits}
use Rattle.ceu_isa.specs.Turns.{Machine, Stuck, rewritten, chosen}
use Rattle.ceu_tree.specs.declared.kernel.Kernel.{Kernel}
use Rattle.ceu_tree.specs.declared.kernel.Loc.{Loc}
use Rattle.ceu_tree.specs.declared.kernel.KBlock.{out-KBlock}
use Rattle.ceu_tree.specs.Leaf.{target}
use Rattle.ceu_tree.specs.Residual.{Body, Program, Act, Begin, Start, Finish, AtEnd, AtHead, Again, Residual, Over, Run, WaitInput, WaitTime, WaitEvent, WaitForever, InAsync, Block, Open, Loop, Call, Par}
use Rattle.ceu_tree.specs.Focus.{Frame, Focus, Here, In, leaf, choose}
use Rattle.ceu_tree.specs.Wake as waking
use Rattle.ceu_tree.specs.World.{World, Cell, Holds, NotSet, Names}
use Rattle.ceu_tree.specs.Run.{Between}
use Rattle.laws_meaning_basics.specs.Shape.{Part, ABlock, Around, nothing_around, one_around, ActFits, begins, heads, goes_again, starts, finishes, ends, TurnFits, program_part}
use Rattle.ceu_shape.specs.Plans.{Plan, own_label}
use Rattle.ceu_shape.specs.Searches.{node_of_block}
use Rattle.laws_machine_layout.specs.Tables.{Tables}
use Rattle.laws_machine_layout.specs.Views.{view, Home}
use Rattle.laws_machine_layout.specs.Leaves.{async_kind, if_taken, RunsGate, LeafGate}
use Rattle.laws_machine_layout.specs.Laws.{AreBytes}
use Rattle.laws_machine_layout.specs.Values.{CellStands, ValuesStand, BetweenStands}
use Rattle.ceu_endings.proofs.Shapes.{one_leaf, no_codes}
use Rattle.ceu_endings.specs.OneTrail.{OneLeaf}
use Rattle.ceu_trail.specs.Built.{at_label}
use Rattle.ceu_trail.specs.Compiled.{Compiled}
use Rattle.ceu_trail.specs.Parts.{PartSingle, PartStops}
use Rattle.ceu_trail.specs.Tables.{tables}
use Rattle.ceu_trail.specs.Within.{IsHeld, OneOf}
use Rattle.ceu_trail.specs.Turning.{home, Brought, ActAt, ProgramAt, FocusAt, MemoryHolds}
use Rattle.ceu_trail.proofs.Plain.{blocks_are_plain}
use Rattle.ceu_trail.proofs.Planned.{gates_are_first}
use Rattle.ceu_trail.proofs.Stops.{stops_are_there}
use Rattle.ceu_follows.specs.Kept.{Kept}
use Rattle.ceu_follows.specs.Turns.{StandsBetween, TurnBegun}
use Rattle.ceu_follows.proofs.Trees as trees
use Rattle.ceu_follows.proofs.Trees.{Light, tree_light, bottom, AtGate, at_gate, Stays, stays}
use Rattle.ceu_follows.proofs.Memory.{number_bytes, seen_is, all_free, free_there, SameSlots, slots_seen, slots_then, put_fits, put_bytes, put_header, put_slots, put_there, put_apart, gate_fine, header_fits, header_slots, header_gate}
use Rattle.ceu_follows.proofs.Choices.{first_is_none, first_is_zero}
use Rattle.ceu_follows.proofs.Numbers.{counted_stays}

-- ---- gates that can run

runs_now : (gate : Gate) → gate.kind ≡ can_run → gate.level ≡ 0 → runs_at 0 gate ≡ true
runs_now gate k l = ap (λ (i : ℕ). (i == can_run) && (gate.level == 0)) k ∙ ap (λ (i : ℕ). i == 0) l

runs_not : (gate : Gate) (kind : ℕ) → gate.kind ≡ kind → (kind == can_run) ≡ false → runs_at 0 gate ≡ false
runs_not gate kind k e = ap (λ (i : ℕ). (i == can_run) && (gate.level == 0)) k ∙ ap (λ (b : Bool). b && (gate.level == 0)) e

pub record Kind (h : Home) (gate : Gate) : Type 0 where
  kind_is : gate.kind ≡ can_run
  frame_is : gate.frame ≡ h.frame
  base_is : gate.base ≡ h.base

act_gate : (t : Tables) (h : Home) (a : Act) (gate : Gate) → RunsGate t h a gate → Kind h gate
act_gate t h (Begin b) gate x = record { kind_is = x.kind_is; frame_is = x.frame_is; base_is = x.base_is }
act_gate t h (Finish s v) gate x = record { kind_is = x.0.kind_is; frame_is = x.0.frame_is; base_is = x.0.base_is }
act_gate t h (Start s) gate x = absurd x
act_gate t h AtEnd gate x = absurd x
act_gate t h AtHead gate x = absurd x
act_gate t h Again gate x = absurd x

async_not : (b : Bool) → (async_kind b == can_run) ≡ false
async_not true = refl
async_not false = refl

stays_not : (t : Tables) (h : Home) (r : Residual) (gate : Gate) → Stays r → LeafGate t h r gate → runs_at 0 gate ≡ false
stays_not t h (Run n a) gate s x = absurd s
stays_not t h (WaitInput k s) gate z x = runs_not gate on_input x.0.kind_is refl
stays_not t h (WaitTime d s) gate z x = runs_not gate on_time x.0.kind_is refl
stays_not t h (WaitEvent e s) gate z x = runs_not gate on_event x.0.kind_is refl
stays_not t h (WaitForever s) gate z x = runs_not gate forever x.kind_is refl
stays_not t h (InAsync s b r) gate z x = runs_not gate (async_kind b) x.kind_is (async_not b)
stays_not t h Over gate z x = absurd x
stays_not t h (Block b fin all r rest) gate z x = absurd x
stays_not t h (Open s r) gate z x = absurd x
stays_not t h (Loop s c r) gate z x = absurd x
stays_not t h (Call s r) gate z x = absurd x
stays_not t h (Par s bs) gate z x = absurd x

-- ---- where a trail goes on

abbrev pub BlockPart : Part → Type 0
BlockPart (ABlock turn sc b) = Unit {0}
BlockPart d = ⊥

abbrev IsFinish : Act → Type 0
IsFinish (Finish s v) = Unit {0}
IsFinish a = ⊥

no_finish : (d : Part) (a : Act) → ActFits d a → BlockPart d → IsFinish a → ⊥
no_finish d (Begin c) begins p q = q
no_finish d AtHead heads p q = q
no_finish d Again goes_again p q = q
no_finish d (Start u) starts p q = p
no_finish d (Finish u v) (finishes e) p q = p
no_finish d AtEnd ends p q = p

abbrev IsHere : Focus Act → Type 0
IsHere (Here a) = Unit {0}
IsHere (In fr f) = ⊥

same_part : (K : Kernel) (f : Focus Act) (d e : Part) → Around K 1 Act f d e → IsHere f → d ≡ e
same_part K (Here a) d e nothing_around h = refl
same_part K (In fr f) d e (one_around x more) h = absurd h

module _ (image : Image) (P : Plan) (width : ℕ → ℕ) (K : Kernel) where
  abbrev BeginsThere : Act → Type 0
  BeginsThere (Begin b) = (tables P width K).begun (out-KBlock b).node ≡ at_label image P K (own_label (node_of_block b))
  BeginsThere a = Unit {0}

  begins_there : (d : Part) (a : Act) → ActFits d a → PartSingle d → PartStops image P width K d → BeginsThere a
  begins_there d (Begin c) begins h p = ap (tables P width K).begun (blocks_are_plain c h).node_is ∙ p
  begins_there d AtHead heads h p = tt
  begins_there d Again goes_again h p = tt
  begins_there d (Start u) starts h p = tt
  begins_there d (Finish u v) (finishes e) h p = tt
  begins_there d AtEnd ends h p = tt

  module _ (h : Home) (gate : Gate) (bytes : List ℕ) (value_is : number_at 8 bytes scratch_at ≡ gate.value) where
    brought : (l : Option Loc) (v : ℤ) → if_taken l v gate → Brought image P width K l (cell v) bytes
    brought None v x = tt
    brought (Some l) v x = value_is ∙ x

    act_at : (whole : Bool) (fr : Frame) (a : Act) → RunsGate (tables P width K) h a gate → BeginsThere a → ActAt image P width K whole fr a gate.code bytes
    act_at whole fr (Begin b) x e = x.code_is ∙ e
    act_at whole fr (Finish s v) x e = (x.0.code_is, brought (target s) v x.1)
    act_at whole fr (Start s) x e = absurd x
    act_at whole fr AtEnd x e = absurd x
    act_at whole fr AtHead x e = absurd x
    act_at whole fr Again x e = absurd x

    here_at : (a : Act) → RunsGate (tables P width K) h a gate → BeginsThere a → (IsFinish a → ⊥) → ProgramAt image P width K a gate.code
    here_at (Begin b) x e n = x.code_is ∙ e
    here_at (Finish s v) x e n = absurd (n tt)
    here_at (Start s) x e n = absurd x
    here_at AtEnd x e n = absurd x
    here_at AtHead x e n = absurd x
    here_at Again x e n = absurd x

    focus_at : (whole : Bool) (f : Focus Act) → RunsGate (tables P width K) h (leaf f) gate → BeginsThere (leaf f) → (IsHere f → IsFinish (leaf f) → ⊥) → FocusAt image P width K whole f gate.code bytes
    unfolding FocusAt
    focus_at whole (Here a) x e n = here_at a x e (n tt)
    focus_at whole (In fr (Here a)) x e n = act_at whole fr a x e
    focus_at whole (In fr (In inner f)) x e n = focus_at false (In inner f) x e (λ q. absurd q)

  -- ---- the memory then

  module _ (compiled : Compiled image P width K) (r : Residual) (w : World) (m : Machine) (kept : Kept K (Between 0 r w)) (stands : StandsBetween image P width K r w m) where
    between : BetweenStands image (tables P width K) 0 r w m.bytes
    between = stands.stands

    one : OneLeaf 1 r
    one = let a = no_codes K compiled.single in one_leaf K a.0 kept.fits a.1

    light : Light (tables P width K) r
    light = tree_light K (tables P width K) kept.fits (no_codes K compiled.single).1 one

    at : AtGate (tables P width K) between.home (view image m.bytes) r 0 image.gates
    at = at_gate (tables P width K) between.home (view image m.bytes) 1 r 0 image.gates one light between.memory.tree

    own : Gate
    own = gate_of image m.bytes 0

    own_is : LeafGate (tables P width K) (home image Program) (bottom r) (gate_of image m.bytes 0)
    own_is = subst (λ (h : Home). LeafGate (tables P width K) h (bottom r) (gate_of image m.bytes 0)) between.memory.program
        (subst (LeafGate (tables P width K) (between.home Program) (bottom r)) (seen_is image m.bytes 0 at.some_gate) at.gate_is)

    others_free : (g : ℕ) → 1 ≤ g → g < image.gates → (gate_of image m.bytes g).kind ≡ free
    others_free g x y = free_there image m.bytes 1 g at.others x y

    others_not : (g : ℕ) → 1 ≤ g → g < image.gates → runs_at 0 (gate_of image m.bytes g) ≡ false
    others_not g x y = runs_not (gate_of image m.bytes g) free (others_free g x y) refl

    pub none_begins : choose Act (waking.runs_at 0) r ≡ None → first_at image 0 m.bytes ≡ Nowhere
    none_begins e =
        let first : runs_at 0 (gate_of image m.bytes 0) ≡ false = stays_not (tables P width K) (home image Program) (bottom r) (gate_of image m.bytes 0) (stays r one e) own_is in
        first_is_none image m.bytes (runs_at 0) image.gates (each first)
      where
        each : runs_at 0 (gate_of image m.bytes 0) ≡ false → (g : ℕ) → g < image.gates → runs_at 0 (gate_of image m.bytes g) ≡ false
        each h zero lt = h
        each h (suc g) lt = others_not (suc g) (omega arith) lt

    module _ (f : Focus Act) (fits : TurnFits K 1 (program_part K) f) (e : choose Act (waking.runs_at 0) r ≡ Some f) where
      choice : trees.Chosen (tables P width K) image between.home (view image m.bytes) r f
      choice = trees.chosen (tables P width K) image between.home (view image m.bytes) between.memory.program r f 0 image.gates one e between.memory.tree

      own_runs : RunsGate (tables P width K) (home image Program) (leaf f) (gate_of image m.bytes 0) × ((gate_of image m.bytes 0).level ≡ 0)
      own_runs = subst (λ (q : Residual). LeafGate (tables P width K) (home image Program) q (gate_of image m.bytes 0)) choice.bottom_is own_is

      gate_kind : Kind (home image Program) (gate_of image m.bytes 0)
      gate_kind = act_gate (tables P width K) (home image Program) (leaf f) (gate_of image m.bytes 0) own_runs.0

      first_zero : first_at image 0 m.bytes ≡ Chosen 0
      first_zero = first_is_zero image m.bytes (runs_at 0) image.gates at.some_gate (runs_now (gate_of image m.bytes 0) gate_kind.kind_is own_runs.1) others_not

      -- the gate is free, and the header has its value
      abbrev freed_bytes : List ℕ
      freed_bytes = gate_put image (freed (gate_of image m.bytes 0)) 0 m.bytes

      abbrev new_bytes : List ℕ
      new_bytes = with_number 8 (gate_of image m.bytes 0).value freed_bytes 8

      freed_fits : Fits image freed_bytes
      freed_fits = put_fits image m.bytes stands.fits stands.are_bytes (freed (gate_of image m.bytes 0)) 0

      freed_small : AreBytes freed_bytes
      freed_small = put_bytes image m.bytes stands.fits stands.are_bytes (freed (gate_of image m.bytes 0)) 0

      fine : IsGate (gate_of image m.bytes 0)
      fine = gate_fine image m.bytes stands.fits stands.are_bytes 0

      freed_gate : IsGate (freed (gate_of image m.bytes 0))
      freed_gate = record { kind = omega arith; level = fine.level; code = fine.code; frame = fine.frame; base = fine.base; key = fine.key; value = fine.value }

      header : (size i : ℕ) → i + size ≤ 8 → number_at size new_bytes i ≡ number_at size m.bytes i
      header size i le =
          number_outside size 8 (gate_of image m.bytes 0).value freed_bytes 8 i (inl_of le) ∙ put_header image m.bytes stands.fits stands.are_bytes (freed (gate_of image m.bytes 0)) 0 size i (omega (arith, le))
        where
          inl_of : i + size ≤ 8 → (i + size ≤ 8) ⊎ (8 + 8 ≤ i)
          inl_of h = inl h

      slots_same : SameSlots image m.bytes new_bytes
      slots_same = slots_then image m.bytes freed_bytes new_bytes
          (put_slots image m.bytes stands.fits stands.are_bytes (freed (gate_of image m.bytes 0)) 0 at.some_gate)
          (header_slots image freed_bytes freed_fits freed_small 8 (gate_of image m.bytes 0).value 8 (omega arith))

      gates_free : (g : ℕ) → g < image.gates → (gate_of image new_bytes g).kind ≡ free
      gates_free zero lt =
          ap (λ (q : Gate). q.kind) (header_gate image freed_bytes freed_fits freed_small 8 (gate_of image m.bytes 0).value 8 0 (omega arith) ∙ put_there image m.bytes stands.fits stands.are_bytes (freed (gate_of image m.bytes 0)) 0 lt freed_gate)
      gates_free (suc g) lt =
          ap (λ (q : Gate). q.kind) (header_gate image freed_bytes freed_fits freed_small 8 (gate_of image m.bytes 0).value 8 (suc g) (omega arith) ∙ put_apart image m.bytes stands.fits stands.are_bytes (freed (gate_of image m.bytes 0)) 0 (suc g) (λ q. absurd (omega (arith, q))))
          ∙ others_free (suc g) (omega arith) lt

      cell_stands : (body : Body) (slot : ℕ) (c : Cell) (ty : Ty) → body ≡ Program → IsHeld ty c → CellStands between.home (view image m.bytes) w c (width slot) ((between.home body).frame + P.offset slot)
          → CellStands (home image) (view image new_bytes) w c (width slot) (slots_at image + P.offset slot)
      cell_stands body slot (Holds v) ty b h x =
          let frame : (between.home body).frame ≡ slots_at image = ap (λ (y : Body). (between.home y).frame) b ∙ ap (λ (y : Home). y.frame) between.memory.program in
          slots_seen image m.bytes new_bytes slots_same (width slot) (slots_at image + P.offset slot)
          ∙ subst (λ (i : ℕ). (view image m.bytes).number (width slot) (i + P.offset slot) ≡ cell v % 256 ^ width slot) frame x
      cell_stands body slot NotSet ty b h x = absurd h
      cell_stands body slot (Names n) ty b h x = absurd h

      values : ValuesStand (tables P width K) (home image) (view image new_bytes) w
      values = record { held = λ body slot c q. (let o : OneOf _ body slot c = kept.within.values.within body slot c q in cell_stands body slot c o.variable.ty o.program o.is_held (between.memory.values.held body slot c q)) }

      memory : MemoryHolds image P width K w new_bytes
      memory = record {
        fits = header_fits image freed_bytes freed_fits freed_small 8 (gate_of image m.bytes 0).value 8;
        are_bytes = number_bytes 8 (gate_of image m.bytes 0).value freed_bytes 8 freed_small;
        state_is = header 2 0 (omega arith) ∙ between.state_is;
        top_is = header 2 2 (omega arith) ∙ between.top_is;
        given_is = header 4 4 (omega arith) ∙ between.memory.given;
        free = all_free image new_bytes 0 image.gates (omega arith) (λ g x y. gates_free g y);
        values = values;
        unfaulted = kept.unfaulted;
      }

      registers : Registers
      registers = record { own = 0; at = (gate_of image m.bytes 0).code; frame = (gate_of image m.bytes 0).frame; base = (gate_of image m.bytes 0).base; depth = 0 }

      value_there : number_at 8 new_bytes scratch_at ≡ (gate_of image m.bytes 0).value
      value_there = number_written 8 (gate_of image m.bytes 0).value freed_bytes 8 fine.value (omega (arith, freed_fits.size))

      place : FocusAt image P width K true f (gate_of image m.bytes 0).code new_bytes
      place = focus_at (home image Program) (gate_of image m.bytes 0) new_bytes value_there true f own_runs.0
          (begins_there fits.part (leaf f) fits.acts (gates_are_first image P width K f fits.part compiled fits.around).1 (stops_are_there image P width K f fits.part compiled fits.around))
          (λ h q. no_finish fits.part (leaf f) fits.acts (subst BlockPart (same_part K f (program_part K) fits.part fits.around h) tt) q)

      pub turn_begins : TurnBegun image P width K f w m
      turn_begins = record {
        first_is = first_zero;
        registers = record { own = 0; at = (gate_of image m.bytes 0).code; frame = (gate_of image m.bytes 0).frame; base = (gate_of image m.bytes 0).base; depth = 0 };
        after = rewritten new_bytes m;
        begins = ap (λ (b : Bool). if b then chosen image 0 (gate_of image m.bytes 0) m else Stuck) (lt-ltb 0 image.gates at.some_gate);
        marks = refl;
        stands = record {
          memory = memory;
          trail = record { own_is = refl; frame_is = gate_kind.frame_is; base_is = gate_kind.base_is; depth_is = refl };
          counted = counted_stays (tables P width K) (view image m.bytes) (view image new_bytes) (slots_seen image m.bytes new_bytes slots_same) image f choice.counted;
          place = place;
        };
      }
