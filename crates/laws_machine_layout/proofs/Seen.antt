-- What is seen of the memory after its gates were changed, and that what stands in it still does.
use Rattle.std.proofs.Common.{◌≡◌, refl, sym, ap, ◌∙◌, subst, ◌<◌, ◌≤◌, ◌⊎◌, inl, inr, ℕ, ◌+◌, ◌*◌, ℤ, List, length, Option, Some, Bool, true, false, ◌==◌, arith}
use Rattle.std.specs.Prelude.{slice_index, nat_lt, nat_le, if◌then◌else◌, ◌&&◌, ◌≢◌}
use Rattle.std.proofs.lemmas.Bool.{ltb-true, leb-true}
use Rattle.ceu_code.specs.declared.image.Image.{Image}
use Rattle.ceu_mem.specs.declared.gate.Gate.{Gate}
use Rattle.ceu_mem.specs.Bytes.{number_at}
use Rattle.ceu_mem.specs.Memory.{IsGate}
use Rattle.ceu_isa.specs.Layout.{gates_at, slots_at, end_of, in_slots, gate_of, each_gate, given_of}
use Rattle.ceu_isa.specs.Safety.{Fits}
use Rattle.ceu_tree.specs.Residual.{Body, Program, Spawned, Residual}
use Rattle.ceu_tree.specs.World.{Cell, Holds, NotSet, Names, World, look, is_among}
use Rattle.ceu_tree.specs.Wake.{each_leaf}
use Rattle.laws_machine_layout.specs.Tables.{Tables}
use Rattle.laws_machine_layout.specs.Views.{View, view, no_gate, gate_seen, slot_number, Home}
use Rattle.laws_machine_layout.specs.Changes.{changed, Belong}
use Rattle.laws_machine_layout.specs.Values.{AliasStands, CellStands, ValuesStand, MemoryStands}
use Rattle.laws_machine_layout.specs.Laws.{AreBytes}
use Rattle.laws_machine_layout.proofs.Each.{Follows, each_stands}
use Rattle.laws_machine_layout.proofs.Gates.{number_agrees, Changed, each_changed}

module _ (image : Image) (test : Gate → Bool) (f : Gate → Gate) (old new : List ℕ) (c : Changed image test f image.gates old new) where
  gate_follows : (none : changed test f no_gate ≡ no_gate) (g : ℕ) → gate_seen image new g ≡ changed test f (gate_seen image old g)
  gate_follows none g = go (nat_lt g image.gates) refl
    where
      go : (b : Bool) → nat_lt g image.gates ≡ b → (if b then gate_of image new g else no_gate) ≡ changed test f (if b then gate_of image old g else no_gate)
      go true e = c.done g (ltb-true _ _ e)
      go false e = sym none

  -- the slots lie behind the gates
  number_stays : (size at : ℕ) → slot_number image new size at ≡ slot_number image old size at
  number_stays size at = go (nat_le (slots_at image) at) refl
    where
      same : slots_at image ≤ at → number_at size new at ≡ number_at size old at
      same le = number_agrees size new old at (λ i a b. c.outside i (inr (omega arith)))

      inner : slots_at image ≤ at → (b : Bool) → (if b then number_at size new at else 0) ≡ (if b then number_at size old at else 0)
      inner le true = same le
      inner le false = refl

      go : (b : Bool) → nat_le (slots_at image) at ≡ b → (if b && nat_le (at + size) (end_of image) then number_at size new at else 0) ≡ (if b && nat_le (at + size) (end_of image) then number_at size old at else 0)
      go true e = inner (leb-true _ _ e) (nat_le (at + size) (end_of image))
      go false e = refl

  pub view_follows : (none : changed test f no_gate ≡ no_gate) → Follows (view image old) (view image new) (changed test f)
  view_follows none = record { gates = gate_follows none; numbers = number_stays }

  pub given_stays : given_of new ≡ given_of old
  given_stays = number_agrees 4 new old 4 (λ i a b. c.outside i (inl (omega arith)))

module _ (home : Body → Home) (v u : View) (w : World) (numbers : (size at : ℕ) → u.number size at ≡ v.number size at) where
  alias_follows : (number at : ℕ) → AliasStands home v w number at → AliasStands home u w number at
  alias_follows number at x = record {
    number_is = numbers 4 (at + 4) ∙ x.number_is;
    is_set = λ e. x.is_set (sym (numbers 4 at) ∙ e);
    lives = λ e. ap (λ n. n + 9) (numbers 4 at) ∙ x.lives e;
    is_gone = λ e. elim (x.is_gone e) [
      | inl z ↦ inl (numbers 1 (u.number 4 at) ∙ ap (λ n. v.number 1 n) (numbers 4 at) ∙ z)
      | inr z ↦ inr (λ q. z (sym (numbers 4 (u.number 4 at + 1) ∙ ap (λ n. v.number 4 (n + 1)) (numbers 4 at)) ∙ q))
    ];
  }

  cell_follows : (c : Cell) (width at : ℕ) → CellStands home v w c width at → CellStands home u w c width at
  cell_follows (Holds value) width at x = numbers width at ∙ x
  cell_follows NotSet width at x = numbers 4 at ∙ x
  cell_follows (Names number) width at x = alias_follows number at x

  pub values_follow : (t : Tables) → ValuesStand t home v w → ValuesStand t home u w
  values_follow t x = record { held = λ body slot c e. cell_follows c _ _ (x.held body slot c e) }

-- A change of all gates of the memory, and the change of the leaves that it stands for.
pub memory_follows : (image : Image) (t : Tables) (home : Body → Home) (r : Residual) (w : World) (bytes : List ℕ) (f : Residual → Residual) (test : Gate → Bool) (g : Gate → Gate)
    → ((gate : Gate) → IsGate gate → IsGate (g gate)) → Belong t f (changed test g) → changed test g no_gate ≡ no_gate
    → Fits image bytes → AreBytes bytes → MemoryStands image t home r w bytes → MemoryStands image t home (each_leaf f r) w (each_gate image test g image.gates bytes)
memory_follows image t home r w bytes f test g fit belong none fits small x =
    let c = each_changed image test g fit image.gates bytes small (omega (arith, fits.size)) in
    let follows = view_follows image test g bytes (each_gate image test g image.gates bytes) c none in
    record {
      program = x.program;
      tree = each_stands t home (view image bytes) (view image (each_gate image test g image.gates bytes)) f (changed test g) belong follows r Program 0 image.gates x.tree;
      values = values_follow home (view image bytes) (view image (each_gate image test g image.gates bytes)) w follows.numbers t x.values;
      given = given_stays image test g bytes (each_gate image test g image.gates bytes) c ∙ x.given;
    }
