-- Instructions of a loop with a bound: a constant goes on a cell, and one more turn is counted.
use Rattle.std.proofs.Common.{◌≡◌, ◌≢◌, refl, ap, ◌∙◌, ◌<◌, ◌≤◌, inl, inr, ℕ, ◌+◌, ◌^◌, ℤ, Bool, true, false, ◌==◌, List, [], Option, Some, arith}
use Rattle.std.specs.Prelude.{slice_get, nat_lt, if◌then◌else◌}
use Rattle.std.proofs.lemmas.Bool.{le-leb, lt-ltb, ltb-true, ltb-false, and_from}
use Rattle.ceu_base.specs.declared.kinds.Fault.TheVariants.{LoopLimit}
use Rattle.ceu_base.specs.declared.kinds.Pos.{Pos}
use Rattle.ceu_code.specs.declared.image.Image.{Image}
use Rattle.ceu_code.specs.declared.instr.Instr.TheVariants as instr
use Rattle.ceu_code.specs.Instructions.{cell}
use Rattle.ceu_mem.specs.Bytes.{number_at, with_number}
use Rattle.ceu_mem.proofs.Views.{length-with_number, byte_outside, number_written}
use Rattle.ceu_isa.specs.Layout.{cell_at, slots_at, end_of, in_slots}
use Rattle.ceu_isa.specs.Fetching.{fetched}
use Rattle.ceu_isa.specs.Safety.{Fits}
use Rattle.ceu_isa.specs.Effects.{Effect, Goes, Faults, provided, for_some}
use Rattle.ceu_isa.specs.Rows.{effect}
use Rattle.ceu_isa.specs.Cells.{pushed}
use Rattle.ceu_isa.specs.Turns.{Machine, Trail, rewritten, failing}
use Rattle.laws_machine_code.proofs.Constants.{cell_small}
use Rattle.laws_machine_layout.specs.Laws.{AreBytes}
use Rattle.ceu_steps.specs.Running.{Runs, Unseen, trail_at}
use Rattle.ceu_steps.proofs.Bytes.{number_bytes}
use Rattle.ceu_steps.proofs.Ticks.{did}
use Rattle.ceu_steps.proofs.Lines.{line_runs}

pub one_more : (j limit : ℕ) → j ≤ limit → j ≢ limit → limit < 2 ^ 32 → j + 1 < 2 ^ 32
one_more j limit le ne lt = go (nat_lt j limit) refl
  where
    go : (t : Bool) → nat_lt j limit ≡ t → j + 1 < 2 ^ 32
    go true q = let z = ltb-true j limit q in omega (arith, z, lt)
    go false q = absurd (ne (let z = ltb-false j limit q in omega (arith, z, le)))

-- ---- a constant goes on the first cell

pub push_runs : {image : Image} {at : ℕ} {m : Machine} (t : _) (v : ℤ) → fetched image at ≡ Some (instr.Push t v) → 0 < image.depth
    → Runs image 1 (Trail (trail_at image at 0) m) (Trail (trail_at image (at + 10) 1) (rewritten (with_number 8 (cell v) m.bytes (cell_at 0)) m))
unfolding effect pushed
push_runs {image = image} {at = at} {m = m} t v f lt =
    line_runs (instr.Push t v) (trail_at image (at + 10) 1) (with_number 8 (cell v) m.bytes (cell_at 0)) f
    (ap (λ (b : Bool). provided b (Goes (trail_at image (at + 10) 1) (with_number 8 (cell v) m.bytes (cell_at 0)) [])) (lt-ltb 0 image.depth lt))

pub push_unseen : (image : Image) (v : ℤ) (bytes : List ℕ) → 0 < image.depth → AreBytes bytes → Unseen image bytes (with_number 8 (cell v) bytes (cell_at 0))
push_unseen image v bytes lt b = record {
  size = length-with_number 8 (cell v) bytes (cell_at 0);
  are_bytes = number_bytes 8 (cell v) bytes (cell_at 0) b;
  header = λ i x. byte_outside 8 (cell v) bytes (cell_at 0) i (inl (omega arith));
  behind = λ i x. byte_outside 8 (cell v) bytes (cell_at 0) i (inr (omega arith));
}

pub push_holds : (image : Image) (v : ℤ) (bytes : List ℕ) → 0 < image.depth → Fits image bytes → number_at 8 (with_number 8 (cell v) bytes (cell_at 0)) (cell_at 0) ≡ cell v
push_holds image v bytes lt fits = number_written 8 (cell v) bytes (cell_at 0) (cell_small v) (omega (arith, fits.size))

-- ---- one more turn

module _ (image : Image) (at : ℕ) (m : Machine) (o limit q j : ℕ) (p : Pos) (f : fetched image at ≡ Some (instr.Limit o limit q)) (place : slice_get image.places q ≡ Some p) (room : slots_at image + o + 4 ≤ end_of image) (holds : number_at 4 m.bytes (slots_at image + o) ≡ j) where
  lies : in_slots image (slots_at image + o) 4 ≡ true
  lies = and_from _ _ (le-leb (slots_at image) (slots_at image + o) (omega arith)) (le-leb (slots_at image + o + 4) (end_of image) room)

  abbrev taken : Effect
  taken = provided (nat_lt (j + 1) (2 ^ 32)) (Goes (trail_at image (at + 9) 0) (with_number 4 (j + 1) m.bytes (slots_at image + o)) [])

  limit_effect : effect image (instr.Limit o limit q) (trail_at image (at + 9) 0) m.bytes ≡ (if j == limit then Faults LoopLimit p else taken)
  unfolding effect
  limit_effect =
      ap (λ (x : Option Pos). for_some x (λ p. provided (in_slots image (slots_at image + o) 4)
      (if number_at 4 m.bytes (slots_at image + o) == limit then Faults LoopLimit p
      else provided (nat_lt (number_at 4 m.bytes (slots_at image + o) + 1) (2 ^ 32)) (Goes (trail_at image (at + 9) 0) (with_number 4 (number_at 4 m.bytes (slots_at image + o) + 1) m.bytes (slots_at image + o)) [])))) place
      ∙ ap (λ (b : Bool). provided b (if number_at 4 m.bytes (slots_at image + o) == limit then Faults LoopLimit p
      else provided (nat_lt (number_at 4 m.bytes (slots_at image + o) + 1) (2 ^ 32)) (Goes (trail_at image (at + 9) 0) (with_number 4 (number_at 4 m.bytes (slots_at image + o) + 1) m.bytes (slots_at image + o)) []))) lies
      ∙ ap (λ (x : ℕ). if x == limit then Faults LoopLimit p else provided (nat_lt (x + 1) (2 ^ 32)) (Goes (trail_at image (at + 9) 0) (with_number 4 (x + 1) m.bytes (slots_at image + o)) [])) holds

  pub limit_faults : (j == limit) ≡ true → Runs image 1 (Trail (trail_at image at 0) m) (failing image LoopLimit p (trail_at image (at + 9) 0) m)
  limit_faults e = did (instr.Limit o limit q) (Faults LoopLimit p) f (limit_effect ∙ ap (λ (b : Bool). if b then Faults LoopLimit p else taken) e)

  pub limit_goes : (j == limit) ≡ false → j + 1 < 2 ^ 32 → Runs image 1 (Trail (trail_at image at 0) m) (Trail (trail_at image (at + 9) 0) (rewritten (with_number 4 (j + 1) m.bytes (slots_at image + o)) m))
  limit_goes e lt =
      line_runs (instr.Limit o limit q) (trail_at image (at + 9) 0) (with_number 4 (j + 1) m.bytes (slots_at image + o)) f
      (limit_effect ∙ ap (λ (b : Bool). if b then Faults LoopLimit p else taken) e
      ∙ ap (λ (b : Bool). provided b (Goes (trail_at image (at + 9) 0) (with_number 4 (j + 1) m.bytes (slots_at image + o)) [])) (lt-ltb (j + 1) (2 ^ 32) lt))
