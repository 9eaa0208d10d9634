-- Lines that the trail does, one step each.
use Rattle.std.proofs.Common.{◌≡◌, refl, ap, ◌∙◌, subst, ◌≤◌, ℕ, ◌+◌, Bool, true, false, List, [], length, Option, Some, None}
use Rattle.std.specs.Prelude.{nat_le, if◌then◌else◌, option_and_then}
use Rattle.std.proofs.lemmas.Bool.{leb-true}
use Rattle.std.proofs.lemmas.List.{append-nil}
use Rattle.ceu_base.specs.declared.kinds.Mark.{Mark}
use Rattle.ceu_code.specs.declared.image.Image.{Image}
use Rattle.ceu_code.specs.declared.instr.Instr.{Instr}
use Rattle.ceu_code.specs.declared.instr.Instr.TheVariants as instr
use Rattle.ceu_code.specs.Instructions.{size}
use Rattle.ceu_isa.specs.declared.registers.Registers.{Registers}
use Rattle.ceu_isa.specs.Layout.{slots_at}
use Rattle.ceu_isa.specs.Fetching.{fetched, decoded, if_whole}
use Rattle.ceu_isa.specs.Effects.{Goes}
use Rattle.ceu_isa.specs.Rows.{effect}
use Rattle.ceu_isa.specs.Turns.{Machine, Trail, changed, rewritten}
use Rattle.ceu_tree.specs.declared.kernel.Kernel.{Kernel}
use Rattle.ceu_shape.specs.Plans.{Plan}
use Rattle.ceu_trail.specs.Turning.{IsTrail}
use Rattle.ceu_steps.specs.Running.{Runs, trail_at}
use Rattle.ceu_steps.proofs.Ticks.{did}

-- no marks are added
silent : (bytes : List ℕ) (m : Machine) → changed bytes [] m ≡ rewritten bytes m
silent bytes m = ap (λ (x : List Mark). let k : Machine = record { bytes = bytes; marks = x } in k) (append-nil m.marks)

pub line_runs : {image : Image} {at depth : ℕ} {m : Machine} (i : Instr) (q : Registers) (bytes : List ℕ) → fetched image at ≡ Some i → effect image i (trail_at image (at + size i) depth) m.bytes ≡ Goes q bytes []
    → Runs image 1 (Trail (trail_at image at depth) m) (Trail q (rewritten bytes m))
line_runs {image = image} {at = at} {depth = depth} {m = m} i q bytes f e = subst (λ (k : Machine). Runs image 1 (Trail (trail_at image at depth) m) (Trail q k)) (silent bytes m) (did i (Goes q bytes []) f e)

pub goto_runs : {image : Image} {at depth : ℕ} {m : Machine} (to : ℕ) → fetched image at ≡ Some (instr.Jump to) → Runs image 1 (Trail (trail_at image at depth) m) (Trail (trail_at image to depth) m)
unfolding effect
goto_runs {image = image} {at = at} {depth = depth} {m = m} to f = line_runs (instr.Jump to) (trail_at image to depth) m.bytes f refl

-- the registers are those of the only trail
pub is_trail_at : (image : Image) (P : Plan) (width : ℕ → ℕ) (K : Kernel) (r : Registers) → IsTrail image P width K r → r ≡ trail_at image r.at 0
is_trail_at image P width K r t =
    ap (λ (o : ℕ). let k : Registers = record { own = o; at = r.at; frame = r.frame; base = r.base; depth = r.depth } in k) t.own_is
    ∙ ap (λ (o : ℕ). let k : Registers = record { own = 0; at = r.at; frame = o; base = r.base; depth = r.depth } in k) t.frame_is
    ∙ ap (λ (o : ℕ). let k : Registers = record { own = 0; at = r.at; frame = slots_at image; base = o; depth = r.depth } in k) t.base_is
    ∙ ap (λ (o : ℕ). let k : Registers = record { own = 0; at = r.at; frame = slots_at image; base = 0; depth = o } in k) t.depth_is

pub trail_is : (image : Image) (P : Plan) (width : ℕ → ℕ) (K : Kernel) (at : ℕ) → IsTrail image P width K (trail_at image at 0)
trail_is image P width K at = record { own_is = refl; frame_is = refl; base_is = refl; depth_is = refl }

-- ---- an instruction lies in the code

one_of : (i j : Instr) → Some i ≡ Some j → i ≡ j
one_of i j e = ap (λ (o : Option Instr). elim o [ None ↦ i | Some k ↦ k ]) e

pub lies_in : (image : Image) (at : ℕ) (i : Instr) → fetched image at ≡ Some i → at + size i ≤ length image.code
unfolding fetched
lies_in image at i f = go (decoded image.code at) f
  where
    by : (j : Instr) (b : Bool) → nat_le (at + size j) (length image.code) ≡ b → (if b then Some j else None) ≡ Some i → at + size i ≤ length image.code
    by j true e h = subst (λ (k : Instr). at + size k ≤ length image.code) (one_of j i h) (leb-true _ _ e)
    by j false e h = absurd (subst (λ (o : Option Instr). elim o as (λ x. Type 0) [ None ↦ Unit {0} | Some x ↦ ⊥ ]) h tt)

    go : (o : Option Instr) → option_and_then (if_whole image.code at) o ≡ Some i → at + size i ≤ length image.code
    go None h = absurd (subst (λ (o : Option Instr). elim o as (λ x. Type 0) [ None ↦ Unit {0} | Some x ↦ ⊥ ]) h tt)
    go (Some j) h = by j (nat_le (at + size j) (length image.code)) refl h
