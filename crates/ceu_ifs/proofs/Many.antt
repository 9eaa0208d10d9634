-- Turns that go on or fault within many steps of the machine.
use Rattle.std.proofs.Common.{◌≡◌, sym, ◌∙◌, subst, ◌≤◌, ℕ, List, [], arith}
use Rattle.std.proofs.lemmas.List.{append-nil}
use Rattle.ceu_base.specs.declared.kinds.Fault.{Fault}
use Rattle.ceu_base.specs.declared.kinds.Pos.{Pos}
use Rattle.ceu_code.specs.declared.image.Image.{Image}
use Rattle.ceu_isa.specs.Turns.{Machine, State, Trail}
use Rattle.ceu_tree.specs.declared.kernel.Kernel.{Kernel}
use Rattle.ceu_tree.specs.Leaf as does
use Rattle.ceu_tree.specs.Leaf.{acted}
use Rattle.ceu_tree.specs.Residual.{Program, Act}
use Rattle.ceu_tree.specs.Focus.{Frame, Here, In}
use Rattle.ceu_tree.specs.Around.{Moved}
use Rattle.ceu_tree.specs.Step.{stepped}
use Rattle.ceu_tree.specs.World.{World}
use Rattle.laws_meaning_basics.specs.Shape.{Part}
use Rattle.ceu_shape.specs.Plans.{Plan}
use Rattle.ceu_trail.specs.Coming.{most_ticks, Reaches, SameMarks, ComesOn, Comes}
use Rattle.ceu_steps.specs.Running.{Runs, trail_at}
use Rattle.ceu_steps.specs.Ready.{Breaks}
use Rattle.ceu_steps.specs.Reached.{wrap, Reached}
use Rattle.ceu_steps.proofs.Comes.{StandsIn, turn_stands}
use Rattle.ceu_steps.proofs.Frames.{fails_is}

few_enough : (count n most : ℕ) → count ≤ n → n ≤ most → count ≤ most
few_enough count n most a b = omega (arith, a, b)

pub reaches_within : {image : Image} {n : ℕ} {a b : State} → n ≤ most_ticks → Runs image n a b → Reaches image a b
reaches_within {n = n} le x = record { count = x.count; few = few_enough x.count n most_ticks x.few le; comes = x.comes }

module _ (image : Image) (P : Plan) (width : ℕ → ℕ) (K : Kernel) where
  pub comes_on_within : (outer : List Frame) (fr : Frame) (a : Act) (w new : World) (m after : Machine) (start at n : ℕ) → n ≤ most_ticks → Runs image n (Trail (trail_at image start 0) m) (Trail (trail_at image at 0) after) → SameMarks w m new after
      → StandsIn image P width K outer fr a new at after.bytes → ComesOn image P width K w (trail_at image start 0) m (wrap outer (In fr (Here a))) new
  comes_on_within outer fr a w new m after start at n le runs marks s =
      record { registers = trail_at image at 0; after = after; reaches = reaches_within le runs; marks = marks; stands = turn_stands image P width K outer fr a new at after.bytes s }

  -- a fault of the act
  pub fault_within : {outer : List Frame} {d : Part} (a : Act) (w : World) (m : Machine) (at n : ℕ) (e : Fault × Pos) → n ≤ most_ticks → Reached K outer d → acted K 0 Program a w ≡ does.done (does.Fails e) w → Breaks image n (Trail (trail_at image at 0) m) m e
      → let v = stepped K 0 Program (wrap outer (Here a)) w in Comes image P width K w (trail_at image at 0) m v.outcome v.world
  fault_within a w m at n e le x d b =
      subst (λ (v : Moved). Comes image P width K w (trail_at image at 0) m v.outcome v.world) (sym (fails_is a w w e x d))
      (record { after = b.after; reaches = reaches_within le b.runs; marks = record { added = []; semantics = sym (append-nil w.marks); machine = b.marks ∙ sym (append-nil m.marks) } })
