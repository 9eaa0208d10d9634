-- A value is stored in a variable: the memory holds what the reference semantics assigns, and all else stays.
use Rattle.std.proofs.Common.{◌≡◌, ◌≢◌, refl, sym, ap, ◌∙◌, subst, ◌<◌, ◌≤◌, ◌⊎◌, inl, inr, ⊎_elim, ℕ, ◌+◌, ◌*◌, ◌%◌, ◌^◌, ℤ, Bool, true, false, ◌==◌, List, [], ◌∷◌, length, Option, Some, None, Contains, arith, eqb-true, eq-eqb}
use Rattle.std.specs.Prelude.{nat_lt, if◌then◌else◌}
use Rattle.std.proofs.lemmas.Bool.{le-leb, and_from, false≢true}
use Rattle.std.proofs.lemmas.List.Elements.{Contains-append_left, Contains-append_right, Contains-append_cases}
use Rattle.ceu_base.specs.declared.kinds.Ty.{Ty}
use Rattle.ceu_base.specs.declared.kinds.Ty.TheVariants as ty
use Rattle.ceu_base.specs.Values.{IsValue}
use Rattle.ceu_code.specs.declared.image.Image.{Image}
use Rattle.ceu_code.specs.declared.instr.Instr.TheVariants as instr
use Rattle.ceu_code.specs.Instructions.{cell}
use Rattle.ceu_mem.specs.Bytes.{number_at, with_number}
use Rattle.ceu_mem.specs.Memory.{size, with_value}
use Rattle.ceu_mem.proofs.Views.{length-with_number, number_outside}
use Rattle.ceu_isa.specs.Layout.{free, gates_at, slots_at, end_of, in_slots, gate_of, cell_at}
use Rattle.ceu_isa.specs.Fetching.{fetched}
use Rattle.ceu_isa.specs.Effects.{Goes, provided, for_some}
use Rattle.ceu_isa.specs.Cells.{Popped}
use Rattle.ceu_isa.specs.Rows.{effect}
use Rattle.ceu_isa.specs.Turns.{Machine, Trail, rewritten}
use Rattle.ceu_tree.specs.declared.kernel.Kernel.{Kernel}
use Rattle.ceu_tree.specs.declared.kernel.KLoop.{KLoop}
use Rattle.ceu_tree.specs.declared.kernel.KLoop.TheVariants as turns
use Rattle.ceu_tree.specs.declared.kernel.KStmt.{out-KStmt}
use Rattle.ceu_tree.specs.declared.kernel.KStmt.TheOpen.{KStmt-F}
use Rattle.ceu_tree.specs.declared.kernel.Loc.{Loc}
use Rattle.ceu_tree.specs.Numbering.{loop_slots}
use Rattle.ceu_tree.specs.Leaf.{Layer}
use Rattle.ceu_tree.specs.Residual.{Body, Program, same_body, Counter, Free, Turns, Upward}
use Rattle.ceu_tree.specs.Focus.{Frame, OfLoop}
use Rattle.ceu_tree.specs.World.{World, Cell, Holds, NotSet, Names, Held, look, put, is_at, assign, place_of}
use Rattle.ceu_shape.specs.Plans.{Plan}
use Rattle.ceu_slots.specs.Law.{TurnsSized}
use Rattle.laws_meaning_values.proofs.Stores.{same_self}
use Rattle.laws_machine_code.proofs.Steps.{pops}
use Rattle.laws_machine_layout.specs.Views as views
use Rattle.laws_machine_layout.specs.Views.{View, view, slot_number, gate_seen, no_gate, Home}
use Rattle.laws_machine_layout.specs.Values.{CellStands, ValuesStand}
use Rattle.laws_machine_layout.specs.Parts.{TurnsStand, CounterStands}
use Rattle.ceu_trail.specs.Tables.{tables}
use Rattle.ceu_trail.specs.Turning.{home, FrameCounts, MemoryHolds}
use Rattle.ceu_trail.specs.Within.{OneOf, ValuesWithin}
use Rattle.ceu_within.proofs.Looks.{put_either}
use Rattle.ceu_steps.specs.Running.{Runs, trail_at}
use Rattle.ceu_steps.specs.Live.{slots_of, slots_in, vars_in, layer_slots, LayerSized, FrameSized, AllSized, Live, hidden_loop, hidden_layer, hidden_of, hidden_in}
use Rattle.ceu_steps.proofs.Bytes.{number_bytes}
use Rattle.ceu_steps.proofs.Frames.{AllCount}
use Rattle.ceu_steps.proofs.Lines.{line_runs}
use Rattle.ceu_steps.proofs.Numbers.{number_mod}

-- ---- the instruction

pub store_runs : {image : Image} {at : ℕ} {m : Machine} (t : Ty) (o : ℕ) (v : ℤ) → fetched image at ≡ Some (instr.Store t o) → t ≢ ty.None → IsValue t v → number_at 8 m.bytes (cell_at 0) ≡ cell v → 0 < image.depth → slots_at image + o + size t ≤ end_of image
    → Runs image 1 (Trail (trail_at image at 1) m) (Trail (trail_at image (at + 4) 0) (rewritten (with_value t v m.bytes (slots_at image + o)) m))
unfolding effect
store_runs {image = image} {at = at} {m = m} t o v f some is_value holds lt room =
    let lies : in_slots image (slots_at image + o) (size t) ≡ true = and_from _ _ (le-leb (slots_at image) (slots_at image + o) (omega arith)) (le-leb (slots_at image + o + size t) (end_of image) room) in
    line_runs (instr.Store t o) (trail_at image (at + 4) 0) (with_value t v m.bytes (slots_at image + o)) f
    (ap (λ (x : Option Popped). for_some x (λ a. provided (in_slots image (slots_at image + o) (size t)) (Goes a.registers (with_value t a.value m.bytes (slots_at image + o)) []))) (pops image t v 0 (trail_at image (at + 4) 1) m.bytes some is_value holds lt refl)
    ∙ ap (λ (b : Bool). provided b (Goes (trail_at image (at + 4) 0) (with_value t v m.bytes (slots_at image + o)) [])) lies)

-- ---- the world

pub put_same : (b : Body) (x : ℕ) (c : Cell) (vs : List Held) → look b x (put b x c vs) ≡ Some c
put_same b x c [] = ap (λ (u : Bool). if u then Some c else None) (and_from (x == x) (same_body b b) (eq-eqb x x refl) (same_self b))
put_same b x c (h ∷ hs) = go (is_at b x h) refl (put_same b x c hs)
  where
    go : (t : Bool) → is_at b x h ≡ t → look b x (put b x c hs) ≡ Some c → look b x (if t then record h { cell = c } ∷ hs else h ∷ put b x c hs) ≡ Some c
    go true z ih = ap (λ (u : Bool). if u then Some c else look b x hs) z
    go false z ih = ap (λ (u : Bool). if u then Some h.cell else look b x (put b x c hs)) z ∙ ih

some_is : (c d : Cell) → Some c ≡ Some d → c ≡ d
some_is c d e = ap (λ (o : Option Cell). elim o [ None ↦ c | Some x ↦ x ]) e

-- ---- the memory: k bytes are written in the slots

module _ (image : Image) (k n at : ℕ) (old : List ℕ) (low : slots_at image ≤ at) where
  abbrev written : List ℕ
  written = with_number k n old at

  pub number_apart : (j i : ℕ) → (i + j ≤ at) ⊎ (at + k ≤ i) → slot_number image written j i ≡ slot_number image old j i
  number_apart j i o = ap (λ (x : ℕ). if in_slots image i j then x else 0) (number_outside j k n old at i o)

  pub number_there : at + k ≤ end_of image → length old ≡ end_of image → slot_number image written k at ≡ n % 256 ^ k
  number_there room size =
      ap (λ (b : Bool). if b then number_at k written at else 0) (and_from _ _ (le-leb (slots_at image) at low) (le-leb (at + k) (end_of image) room)) ∙ number_mod k n old at (omega (arith, room, size))

  written_free : views.Free (view image old) 0 image.gates → views.Free (view image written) 0 image.gates
  unfolding gate_of
  written_free f = record { free_at = λ g x y. go g (nat_lt g image.gates) refl (f.free_at g x y) y }
    where
      go : (g : ℕ) (b : Bool) → nat_lt g image.gates ≡ b → (gate_seen image old g).kind ≡ free → g < image.gates → (gate_seen image written g).kind ≡ free
      go g true e h lt =
          let there : (if true then gate_of image old g else no_gate).kind ≡ free = sym (ap (λ (b : Bool). (if b then gate_of image old g else no_gate).kind) e) ∙ h in
          ap (λ (b : Bool). (if b then gate_of image written g else no_gate).kind) e ∙ number_outside 1 k n old at (gates_at image + 19 * g) (inl (omega (arith, low, lt))) ∙ there
      go g false e h lt = ap (λ (b : Bool). (if b then gate_of image written g else no_gate).kind) e

  -- all but the values
  pub written_holds : (P : Plan) (width : ℕ → ℕ) (K : Kernel) (w u : World) → u.given ≡ w.given → u.fault ≡ w.fault → MemoryHolds image P width K w old → ValuesStand (tables P width K) (home image) (view image written) u → MemoryHolds image P width K u written
  written_holds P width K w u given fault m values = record {
    fits = record { size = length-with_number k n old at ∙ m.fits.size; memory = m.fits.memory; code = m.fits.code };
    are_bytes = number_bytes k n old at m.are_bytes;
    state_is = number_outside 2 k n old at 0 (inl (omega (arith, low))) ∙ m.state_is;
    top_is = number_outside 2 k n old at 2 (inl (omega (arith, low))) ∙ m.top_is;
    given_is = number_outside 4 k n old at 4 (inl (omega (arith, low))) ∙ m.given_is ∙ sym given;
    free = written_free m.free;
    values = values;
    unfaulted = fault ∙ m.unfaulted;
  }

-- ---- counters whose slots are apart from the bytes that are written

module _ (image : Image) (P : Plan) (width : ℕ → ℕ) (K : Kernel) (k n at : ℕ) (old : List ℕ) (low : slots_at image ≤ at) where
  abbrev Apart : ℕ → Type 0
  Apart x = (slots_at image + P.offset x + width x ≤ at) ⊎ (at + k ≤ slots_at image + P.offset x)

  turns_apart : (l : KLoop) (c : Counter) → TurnsSized P.offset width P.frame l → ((x : ℕ) → Contains (hidden_loop l) x → Apart x) → TurnsStand (tables P width K) (view image old) (home image Program) l c
      → TurnsStand (tables P width K) (view image (with_number k n old at)) (home image Program) l c
  turns_apart (turns.Times slot m) (Turns j) s h e =
      number_apart image k n at old low 4 (slots_at image + P.offset slot) (⊎_elim (λ x. inl (omega (arith, s))) (λ x. inr x) (h slot (0, omega arith, refl))) ∙ e
  turns_apart (turns.Range i next end open_a a b open_b) (Upward value last) s h e = (
    number_apart image k n at old low 8 (slots_at image + P.offset next) (⊎_elim (λ x. inl (omega (arith, s.1))) (λ x. inr x) (h next (0, omega arith, refl))) ∙ e.0,
    number_apart image k n at old low 8 (slots_at image + P.offset end) (⊎_elim (λ x. inl (omega (arith, s.2))) (λ x. inr x) (h end (1, omega arith, refl))) ∙ e.1,
  )
  turns_apart (turns.Times slot m) Free s h e = tt
  turns_apart (turns.Times slot m) (Upward value last) s h e = tt
  turns_apart (turns.Range i next end open_a a b open_b) Free s h e = tt
  turns_apart (turns.Range i next end open_a a b open_b) (Turns j) s h e = tt
  turns_apart turns.Free c s h e = tt

  layer_apart : (l : Layer) (c : Counter) → LayerSized P.offset width P.frame P.total l → ((x : ℕ) → Contains (hidden_layer l) x → Apart x) → CounterStands (tables P width K) (view image old) (home image Program) l c
      → CounterStands (tables P width K) (view image (with_number k n old at)) (home image Program) l c
  layer_apart (KStmt-F.Loop j b) c s h e = turns_apart j c s h e
  layer_apart l c s h e = tt

  frame_apart : (fr : Frame) → FrameSized P.offset width P.frame P.total fr → ((x : ℕ) → Contains (hidden_of fr) x → Apart x) → FrameCounts (tables P width K) image (view image old) fr → FrameCounts (tables P width K) image (view image (with_number k n old at)) fr
  frame_apart (OfLoop s c) z h e = layer_apart (out-KStmt s.stmt) c z h e
  frame_apart fr z h e = tt

  pub counts_apart : (outer : List Frame) → AllSized P.offset width P.frame P.total outer → ((x : ℕ) → Contains (hidden_in outer) x → Apart x) → AllCount (tables P width K) image (view image old) outer
      → AllCount (tables P width K) image (view image (with_number k n old at)) outer
  counts_apart [] s h e = tt
  counts_apart (fr ∷ outer) s h e =
      (frame_apart fr s.0 (λ x c. h x (Contains-append_left (hidden_of fr) (hidden_in outer) x c)) e.0, counts_apart outer s.1 (λ x c. h x (Contains-append_right (hidden_of fr) (hidden_in outer) x c)) e.1)

-- ---- hidden slots are in use

hidden_loop_in : (k : KLoop) (x : ℕ) → Contains (hidden_loop k) x → Contains (loop_slots k) x
hidden_loop_in turns.Free x c = c
hidden_loop_in (turns.Times slot n) x c = c
hidden_loop_in (turns.Range i next end open_a a b open_b) x c = Contains-append_right (i ∷ []) (next ∷ end ∷ []) x c

hidden_layer_in : (l : Layer) (x : ℕ) → Contains (hidden_layer l) x → Contains (layer_slots l) x
hidden_layer_in (KStmt-F.Loop k b) x c = hidden_loop_in k x c
hidden_layer_in l x c = absurd (omega (arith, c.1))

hidden_frame_in : (fr : Frame) (x : ℕ) → Contains (hidden_of fr) x → Contains (slots_of fr) x
hidden_frame_in (OfLoop s c) x h = hidden_layer_in (out-KStmt s.stmt) x h
hidden_frame_in fr x h = absurd (omega (arith, h.1))

pub hidden_is_in : (outer : List Frame) (x : ℕ) → Contains (hidden_in outer) x → Contains (slots_in outer) x
hidden_is_in [] x c = c
hidden_is_in (fr ∷ outer) x c = elim (Contains-append_cases (hidden_of fr) (hidden_in outer) x c) [
  | inl a ↦ Contains-append_left (slots_of fr) (slots_in outer) x (hidden_frame_in fr x a)
  | inr a ↦ Contains-append_right (slots_of fr) (slots_in outer) x (hidden_is_in outer x a)
]

-- ---- a variable

place_program : (l : Loc) → place_of l Program ≡ Program
place_program l = go l.outer
  where
    go : (b : Bool) → (if b then Program else Program) ≡ Program
    go true = refl
    go false = refl

pub record Stored (image : Image) (P : Plan) (width : ℕ → ℕ) (K : Kernel) (outer : List Frame) (w : World) (new : List ℕ) : Type 0 where
  pub memory : MemoryHolds image P width K w new
  pub counts : AllCount (tables P width K) image (view image new) outer

module _ (image : Image) (P : Plan) (width : ℕ → ℕ) (K : Kernel) (slots_is : image.slots ≡ P.total) (outer : List Frame) (live : Live P.offset width P.frame P.total outer) (l : Loc) (v : ℤ) (w : World) (old : List ℕ)
    (there : Contains (vars_in outer) (record { slot = l.slot; ty = l.ty })) (held : ValuesWithin (vars_in outer) w) (holds : MemoryHolds image P width K w old) where
  abbrev place : ℕ
  place = slots_at image + P.offset l.slot

  abbrev new : List ℕ
  new = with_value l.ty v old place

  wide : width l.slot ≡ size l.ty
  wide = (live.variables (record { slot = l.slot; ty = l.ty }) there).0

  mine : Contains (slots_in outer) l.slot
  mine = (live.variables (record { slot = l.slot; ty = l.ty }) there).1

  pub room : slots_at image + P.offset l.slot + size l.ty ≤ end_of image
  room = let a = live.within l.slot mine in omega (arith, a, wide, slots_is)

  -- another slot in use
  elsewhere : (x : ℕ) → Contains (slots_in outer) x → x ≢ l.slot → (slots_at image + P.offset x + width x ≤ place) ⊎ (place + size l.ty ≤ slots_at image + P.offset x)
  elsewhere x c ne = ⊎_elim (λ a. inl (omega arith)) (λ a. inr (omega (arith, wide))) (live.apart x l.slot c mine ne)

  newly : (slot : ℕ) (c : Cell) → slot ≡ l.slot → Holds v ≡ c → CellStands (home image) (view image new) (assign Program l v w) c (width slot) (slots_at image + P.offset slot)
  newly slot c e f =
      subst (λ (x : ℕ). CellStands (home image) (view image new) (assign Program l v w) c (width x) (slots_at image + P.offset x)) (sym e)
      (subst (λ (d : Cell). CellStands (home image) (view image new) (assign Program l v w) d (width l.slot) (slots_at image + P.offset l.slot)) f
      (subst (λ (x : ℕ). slot_number image new x place ≡ cell v % 256 ^ x) (sym wide) (number_there image (size l.ty) (cell v) place old (omega arith) room holds.fits.size)))

  still : (slot : ℕ) (c : Cell) → slot ≢ l.slot → OneOf (vars_in outer) Program slot c → CellStands (home image) (view image old) w c (width slot) (slots_at image + P.offset slot)
      → CellStands (home image) (view image new) (assign Program l v w) c (width slot) (slots_at image + P.offset slot)
  still slot (Holds u) ne o e =
      let c = subst (λ (x : ℕ). Contains (slots_in outer) x) o.slot_is (live.variables o.variable o.there).1 in
      number_apart image (size l.ty) (cell v) place old (omega arith) (width slot) (slots_at image + P.offset slot) (elsewhere slot c ne) ∙ e
  still slot NotSet ne o e = absurd o.is_held
  still slot (Names x) ne o e = absurd o.is_held

  values : ValuesStand (tables P width K) (home image) (view image new) (assign Program l v w)
  values = record { held = λ body slot c e. go body slot c (subst (λ (b : Body). look body slot (put b l.slot (Holds v) w.values) ≡ Some c) (place_program l) e) (slot == l.slot) refl }
    where
      at_slot : (body : Body) (slot : ℕ) (c : Cell) → slot ≡ l.slot → body ≡ Program → look body slot (put Program l.slot (Holds v) w.values) ≡ Some c → Holds v ≡ c
      at_slot body slot c e f h =
          some_is (Holds v) c (sym (put_same Program l.slot (Holds v) w.values)
          ∙ subst (λ (b : Body). look b l.slot (put Program l.slot (Holds v) w.values) ≡ Some c) f (subst (λ (x : ℕ). look body x (put Program l.slot (Holds v) w.values) ≡ Some c) e h))

      go : (body : Body) (slot : ℕ) (c : Cell) → look body slot (put Program l.slot (Holds v) w.values) ≡ Some c → (b : Bool) → (slot == l.slot) ≡ b
          → CellStands (home image) (view image new) (assign Program l v w) c (width slot) (slots_at image + P.offset slot)
      go body slot c h true e = elim (put_either body slot Program l.slot (Holds v) c w.values h) [
        | inl z ↦ newly slot c z.1 z.2
        | inr z ↦ newly slot c (eqb-true slot l.slot e) (at_slot body slot c (eqb-true slot l.slot e) (held.within body slot c z).program h)
      ]
      go body slot c h false e = elim (put_either body slot Program l.slot (Holds v) c w.values h) [
        | inl z ↦ newly slot c z.1 z.2
        | inr z ↦ (
            let o = held.within body slot c z in
            still slot c (λ q. false≢true (sym e ∙ eq-eqb slot l.slot q)) (record { program = refl; variable = o.variable; there = o.there; slot_is = o.slot_is; is_held = o.is_held }) (holds.values.held body slot c z)
            )
      ]

  -- the hidden slots of these frames are not the variable's
  pub stored : (frames : List Frame) → AllSized P.offset width P.frame P.total frames → ((x : ℕ) → Contains (hidden_in frames) x → Contains (slots_in outer) x × (x ≢ l.slot)) → AllCount (tables P width K) image (view image old) frames
      → Stored image P width K frames (assign Program l v w) new
  stored frames sized apart counts = record {
    memory = written_holds image (size l.ty) (cell v) place old (omega arith) P width K w (assign Program l v w) refl refl holds values;
    counts = counts_apart image P width K (size l.ty) (cell v) place old (omega arith) frames sized (λ x c. (let a = apart x c in elsewhere x a.0 a.1)) counts;
  }
