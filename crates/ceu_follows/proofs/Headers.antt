-- A number that is written in the header, before the gates, leaves what stands in gates and slots as it was.
use Rattle.std.proofs.Common.{◌≡◌, sym, ap, ◌∙◌, subst, ◌≤◌, inr, ℕ, ◌+◌, List}
use Rattle.std.specs.Prelude.{nat_lt, if◌then◌else◌}
use Rattle.ceu_code.specs.declared.image.Image.{Image}
use Rattle.ceu_mem.specs.declared.gate.Gate.{Gate}
use Rattle.ceu_mem.specs.Bytes.{with_number}
use Rattle.ceu_mem.proofs.Views.{number_outside}
use Rattle.ceu_isa.specs.Safety.{Fits}
use Rattle.ceu_tree.specs.Residual.{Body, Program, Residual}
use Rattle.ceu_tree.specs.World.{World}
use Rattle.laws_machine_layout.specs.Tables.{Tables}
use Rattle.laws_machine_layout.specs.Laws.{AreBytes}
use Rattle.laws_machine_layout.specs.Views.{View, view, gate_seen, slot_number, no_gate, Home}
use Rattle.laws_machine_layout.specs.Stands.{Stands}
use Rattle.laws_machine_layout.specs.Values.{ValuesStand, MemoryStands}
use Rattle.ceu_follows.proofs.Memory.{slots_seen, header_slots, header_gate}

same_function : {A B : Type 0} {f g : A → B} → ((x : A) → f x ≡ g x) → f ≡ g
same_function h = λ i x. h x i

abbrev both : (ℕ → Gate) → (ℕ → ℕ → ℕ) → View
both g n = record { gate = g; number = n }

same_views : (a b : ℕ → Gate) (c d : ℕ → ℕ → ℕ) → ((i : ℕ) → a i ≡ b i) → ((i j : ℕ) → c i j ≡ d i j) → both a c ≡ both b d
same_views a b c d x y = ap (λ (f : ℕ → Gate). both f c) (same_function x) ∙ ap (λ (f : ℕ → ℕ → ℕ). both b f) (same_function (λ i. same_function (y i)))

module _ (image : Image) (bytes : List ℕ) (fits : Fits image bytes) (small : AreBytes bytes) (size n at : ℕ) (le : at + size ≤ 16) where
  gate_same : (g : ℕ) → gate_seen image (with_number size n bytes at) g ≡ gate_seen image bytes g
  gate_same g = ap (λ (q : Gate). if nat_lt g image.gates then q else no_gate) (header_gate image bytes fits small size n at g le)

  pub view_same : view image (with_number size n bytes at) ≡ view image bytes
  view_same = same_views (gate_seen image (with_number size n bytes at)) (gate_seen image bytes) (slot_number image (with_number size n bytes at)) (slot_number image bytes)
      gate_same (slots_seen image bytes (with_number size n bytes at) (header_slots image bytes fits small size n at le))

  pub memory_same : (t : Tables) (homes : Body → Home) (r : Residual) (w : World) → at + size ≤ 4 → MemoryStands image t homes r w bytes → MemoryStands image t homes r w (with_number size n bytes at)
  memory_same t homes r w low h = record {
    program = h.program;
    tree = subst (λ (v : View). Stands t homes v r Program 0 image.gates) (sym view_same) h.tree;
    values = subst (λ (v : View). ValuesStand t homes v w) (sym view_same) h.values;
    given = number_outside 4 size n bytes at 4 (inr low) ∙ h.given;
  }
