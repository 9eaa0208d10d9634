-- Evaluation cells and the header's value are no part of what stands in the memory.
use Rattle.std.proofs.Common.{◌≡◌, refl, sym, ap, ◌∙◌, ◌≤◌, inl, inr, ⊎_elim, ℕ, ◌+◌, ◌*◌, Bool, true, false, List, arith}
use Rattle.std.specs.Prelude.{nat_lt, nat_le, if◌then◌else◌, ◌&&◌}
use Rattle.std.proofs.lemmas.Bool.{leb-true}
use Rattle.ceu_tree.specs.declared.kernel.Kernel.{Kernel}
use Rattle.ceu_tree.specs.declared.kernel.KLoop.{KLoop}
use Rattle.ceu_tree.specs.declared.kernel.KLoop.TheVariants as turns
use Rattle.ceu_tree.specs.declared.kernel.KStmt.{out-KStmt}
use Rattle.ceu_tree.specs.declared.kernel.KStmt.TheOpen.{KStmt-F}
use Rattle.ceu_tree.specs.Leaf.{Layer}
use Rattle.ceu_tree.specs.Residual.{Body, Program, Counter, Free, Turns, Upward}
use Rattle.ceu_tree.specs.Focus.{Frame, OfLoop, Focus, Here, In}
use Rattle.ceu_tree.specs.World.{World, Cell, Holds, NotSet, Names}
use Rattle.ceu_code.specs.declared.image.Image.{Image}
use Rattle.ceu_mem.specs.Bytes.{number_at}
use Rattle.ceu_isa.specs.Layout.{free, gates_at, slots_at, end_of, in_slots, gate_of, scratch_at, with_scratch}
use Rattle.ceu_isa.specs.Safety.{Fits}
use Rattle.ceu_mem.proofs.Views.{length-with_number, byte_outside}
use Rattle.ceu_shape.specs.Plans.{Plan}
use Rattle.laws_machine_code.specs.Does.{Kept}
use Rattle.laws_machine_code.proofs.Numbers.{number_agrees}
use Rattle.laws_machine_layout.specs.Tables.{Tables}
use Rattle.laws_machine_layout.specs.Views as views
use Rattle.laws_machine_layout.specs.Views.{View, view, slot_number, gate_seen, no_gate, Home}
use Rattle.laws_machine_layout.specs.Values.{CellStands, ValuesStand}
use Rattle.laws_machine_layout.specs.Parts.{TurnsStand, CounterStands}
use Rattle.laws_machine_layout.specs.Laws.{AreBytes}
use Rattle.ceu_trail.specs.Tables.{tables}
use Rattle.ceu_trail.specs.Turning.{home, FrameCounts, Counted, MemoryHolds}
use Rattle.ceu_steps.specs.Running.{Unseen}
use Rattle.ceu_steps.proofs.Bytes.{number_bytes}

-- ---- two memories that hold the same numbers in their slots

pub record SameNumbers (v u : View) : Type 0 where
  pub same : (size at : ℕ) → u.number size at ≡ v.number size at

pub cell_stays : (h : Body → Home) (w : World) (v u : View) (c : Cell) (width at : ℕ) → SameNumbers v u → CellStands h v w c width at → CellStands h u w c width at
cell_stays h w v u (Holds value) width at s e = s.same width at ∙ e
cell_stays h w v u NotSet width at s e = s.same 4 at ∙ e
cell_stays h w v u (Names n) width at s e =
    record {
      number_is = s.same 4 (at + 4) ∙ e.number_is;
      is_set = λ q. e.is_set (sym (s.same 4 at) ∙ q);
      lives = λ q. ap (λ (k : ℕ). k + 9) (s.same 4 at) ∙ e.lives q;
      is_gone = λ q. ⊎_elim (λ x. inl (s.same 1 (u.number 4 at) ∙ ap (λ (k : ℕ). v.number 1 k) (s.same 4 at) ∙ x))
          (λ x. inr (λ y. x (sym (s.same 4 (u.number 4 at + 1) ∙ ap (λ (k : ℕ). v.number 4 (k + 1)) (s.same 4 at)) ∙ y))) (e.is_gone q);
    }

pub values_stay : (t : Tables) (h : Body → Home) (w : World) (v u : View) → SameNumbers v u → ValuesStand t h v w → ValuesStand t h u w
values_stay t h w v u s e = record { held = λ body slot c l. cell_stays h w v u c (t.width slot) ((h body).frame + t.offset slot) s (e.held body slot c l) }

turns_stay : (t : Tables) (h : Home) (v u : View) (k : KLoop) (c : Counter) → SameNumbers v u → TurnsStand t v h k c → TurnsStand t u h k c
turns_stay t h v u (turns.Times slot n) (Turns j) s e = s.same 4 (h.frame + t.offset slot) ∙ e
turns_stay t h v u (turns.Range i next end open_a a b open_b) (Upward value last) s e = (s.same 8 (h.frame + t.offset next) ∙ e.0, s.same 8 (h.frame + t.offset end) ∙ e.1)
turns_stay t h v u (turns.Times slot n) Free s e = tt
turns_stay t h v u (turns.Times slot n) (Upward value last) s e = tt
turns_stay t h v u (turns.Range i next end open_a a b open_b) Free s e = tt
turns_stay t h v u (turns.Range i next end open_a a b open_b) (Turns j) s e = tt
turns_stay t h v u turns.Free c s e = tt

counter_stays : (t : Tables) (h : Home) (v u : View) (layer : Layer) (c : Counter) → SameNumbers v u → CounterStands t v h layer c → CounterStands t u h layer c
counter_stays t h v u (KStmt-F.Loop k b) c s e = turns_stay t h v u k c s e
counter_stays t h v u layer c s e = tt

pub frame_stays : (t : Tables) (image : Image) (v u : View) (fr : Frame) → SameNumbers v u → FrameCounts t image v fr → FrameCounts t image u fr
frame_stays t image v u (OfLoop n c) s e = counter_stays t (home image Program) v u (out-KStmt n.stmt) c s e
frame_stays t image v u fr s e = tt

pub counted_stays : {A : Type 0} (t : Tables) (image : Image) (v u : View) (f : Focus A) → SameNumbers v u → Counted t image v f → Counted t image u f
unfolding Counted
counted_stays t image v u (Here a) s e = tt
counted_stays t image v u (In fr f) s e = (frame_stays t image v u fr s e.0, counted_stays t image v u f s e.1)

-- ---- the bytes from the gates on are the same

pub unseen_numbers : (image : Image) (old new : List ℕ) → Unseen image old new → SameNumbers (view image old) (view image new)
unseen_numbers image old new u = record { same = λ size at. go size at (nat_le (slots_at image) at) refl }
  where
    go : (size at : ℕ) (b : Bool) → nat_le (slots_at image) at ≡ b → slot_number image new size at ≡ slot_number image old size at
    go size at true e =
        let low : slots_at image ≤ at = leb-true _ _ e in
        ap (λ (k : ℕ). if in_slots image at size then k else 0) (number_agrees size new old at (λ i x y. u.behind i (omega arith)))
    go size at false e = ap (λ (b : Bool). if b && nat_le (at + size) (end_of image) then number_at size new at else 0) e ∙ sym (ap (λ (b : Bool). if b && nat_le (at + size) (end_of image) then number_at size old at else 0) e)

unseen_free : (image : Image) (old new : List ℕ) (low high : ℕ) → Unseen image old new → views.Free (view image old) low high → views.Free (view image new) low high
unfolding gate_of
unseen_free image old new low high u f = record { free_at = λ g x y. go g (nat_lt g image.gates) refl (f.free_at g x y) }
  where
    go : (g : ℕ) (b : Bool) → nat_lt g image.gates ≡ b → (gate_seen image old g).kind ≡ free → (gate_seen image new g).kind ≡ free
    go g true e h =
        let there : (if true then gate_of image old g else no_gate).kind ≡ free = sym (ap (λ (b : Bool). (if b then gate_of image old g else no_gate).kind) e) ∙ h in
        ap (λ (b : Bool). (if b then gate_of image new g else no_gate).kind) e ∙ number_agrees 1 new old (gates_at image + 19 * g) (λ i x y. u.behind i (omega arith)) ∙ there
    go g false e h = ap (λ (b : Bool). (if b then gate_of image new g else no_gate).kind) e

pub fits_unseen : (image : Image) (old new : List ℕ) → Unseen image old new → Fits image old → Fits image new
fits_unseen image old new u f = record { size = u.size ∙ f.size; memory = f.memory; code = f.code }

pub holds_unseen : (image : Image) (P : Plan) (width : ℕ → ℕ) (K : Kernel) (w : World) (old new : List ℕ) → Unseen image old new → MemoryHolds image P width K w old → MemoryHolds image P width K w new
holds_unseen image P width K w old new u m = record {
  fits = fits_unseen image old new u m.fits;
  are_bytes = u.are_bytes;
  state_is = number_agrees 2 new old 0 (λ i x y. u.header i (omega arith)) ∙ m.state_is;
  top_is = number_agrees 2 new old 2 (λ i x y. u.header i (omega arith)) ∙ m.top_is;
  given_is = number_agrees 4 new old 4 (λ i x y. u.header i (omega arith)) ∙ m.given_is;
  free = unseen_free image old new 0 image.gates u m.free;
  values = values_stay (tables P width K) (home image) w (view image old) (view image new) (unseen_numbers image old new u) m.values;
  unfaulted = m.unfaulted;
}

pub unseen_itself : (image : Image) (bytes : List ℕ) → AreBytes bytes → Unseen image bytes bytes
unseen_itself image bytes b = record { size = refl; are_bytes = b; header = λ i x. refl; behind = λ i x. refl }

pub unseen_then : (image : Image) (a b c : List ℕ) → Unseen image a b → Unseen image b c → Unseen image a c
unseen_then image a b c x y = record { size = y.size ∙ x.size; are_bytes = y.are_bytes; header = λ i l. y.header i l ∙ x.header i l; behind = λ i l. y.behind i l ∙ x.behind i l }

pub kept_unseen : (image : Image) (n : ℕ) (old new : List ℕ) → Kept image n old new → AreBytes new → Unseen image old new
kept_unseen image n old new k b = record { size = k.size; are_bytes = b; header = λ i x. k.outside i (inl (omega arith)); behind = λ i x. k.outside i (inr x) }

-- the header's value
pub scratch_unseen : (image : Image) (value : ℕ) (bytes : List ℕ) → AreBytes bytes → Unseen image bytes (with_scratch value bytes)
scratch_unseen image value bytes b = record {
  size = length-with_number 8 value bytes scratch_at;
  are_bytes = number_bytes 8 value bytes scratch_at b;
  header = λ i x. byte_outside 8 value bytes scratch_at i (inl x);
  behind = λ i x. byte_outside 8 value bytes scratch_at i (inr (omega arith));
}
