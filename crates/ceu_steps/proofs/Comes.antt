-- A turn that stands in the memory, taken apart and put together.
use Rattle.std.proofs.Common.{◌≡◌, sym, ◌∙◌, ◌≤◌, ℕ, List, [], ◌∷◌, arith}
use Rattle.std.proofs.lemmas.List.{append-nil}
use Rattle.ceu_base.specs.declared.kinds.Fault.{Fault}
use Rattle.ceu_base.specs.declared.kinds.Pos.{Pos}
use Rattle.ceu_code.specs.declared.image.Image.{Image}
use Rattle.ceu_isa.specs.declared.registers.Registers.{Registers}
use Rattle.ceu_isa.specs.Turns.{Machine, State, Trail, rewritten}
use Rattle.ceu_tree.specs.declared.kernel.Kernel.{Kernel}
use Rattle.ceu_tree.specs.Residual.{Act}
use Rattle.ceu_tree.specs.Focus.{Frame, Here, In}
use Rattle.ceu_tree.specs.World.{World}
use Rattle.ceu_shape.specs.Plans.{Plan}
use Rattle.laws_machine_layout.specs.Views.{view}
use Rattle.ceu_trail.specs.Tables.{tables}
use Rattle.ceu_trail.specs.Turning.{ActAt, MemoryHolds, TurnStands}
use Rattle.ceu_trail.specs.Coming.{Reaches, SameMarks, ComesOn, ComesToFault}
use Rattle.ceu_steps.specs.Running.{Runs, trail_at}
use Rattle.ceu_steps.specs.Ready.{Breaks}
use Rattle.ceu_steps.specs.Reached.{wrap, is_whole}
use Rattle.ceu_steps.proofs.Frames.{AllCount, counted_out, counted_in, counted_here, act_out, act_in}
use Rattle.ceu_steps.proofs.Lines.{trail_is}

pub no_marks : (w : World) (m : Machine) (bytes : List ℕ) → SameMarks w m w (rewritten bytes m)
no_marks w m bytes = record { added = []; semantics = sym (append-nil w.marks); machine = sym (append-nil m.marks) }

pub reaches_by : {image : Image} {n : ℕ} {a b : State} → n ≤ 1000000 → Runs image n a b → Reaches image a b
reaches_by le x = record { count = x.count; few = omega (arith, le, x.few); comes = x.comes }

module _ (image : Image) (P : Plan) (width : ℕ → ℕ) (K : Kernel) where
  -- what is known where the leaf lies in a frame
  pub record StandsIn (outer : List Frame) (fr : Frame) (a : Act) (w : World) (at : ℕ) (bytes : List ℕ) : Type 0 where
    pub memory : MemoryHolds image P width K w bytes
    pub counts : AllCount (tables P width K) image (view image bytes) (fr ∷ outer)
    pub place : ActAt image P width K (is_whole outer) fr a at bytes

  pub stands_in : (outer : List Frame) (fr : Frame) (a : Act) (w : World) (r : Registers) (bytes : List ℕ) → TurnStands image P width K (wrap outer (In fr (Here a))) w r bytes → StandsIn outer fr a w r.at bytes
  stands_in outer fr a w r bytes s = record {
    memory = s.memory;
    counts = (counted_out (tables P width K) image (view image bytes) (fr ∷ outer) (Here a) s.counted).0;
    place = act_out image P width K outer fr a r.at bytes s.place;
  }

  pub turn_stands : (outer : List Frame) (fr : Frame) (a : Act) (w : World) (at : ℕ) (bytes : List ℕ) → StandsIn outer fr a w at bytes → TurnStands image P width K (wrap outer (In fr (Here a))) w (trail_at image at 0) bytes
  turn_stands outer fr a w at bytes s = record {
    memory = s.memory;
    trail = trail_is image P width K at;
    counted = counted_in (tables P width K) image (view image bytes) (fr ∷ outer) (Here a) s.counts (counted_here (tables P width K) image (view image bytes) a);
    place = act_in image P width K outer fr a at bytes s.place;
  }

  -- goes on there
  pub comes_on : (outer : List Frame) (fr : Frame) (a : Act) (w new : World) (m after : Machine) (start at n : ℕ) → n ≤ 1000000 → Runs image n (Trail (trail_at image start 0) m) (Trail (trail_at image at 0) after) → SameMarks w m new after
      → StandsIn outer fr a new at after.bytes → ComesOn image P width K w (trail_at image start 0) m (wrap outer (In fr (Here a))) new
  comes_on outer fr a w new m after start at n le runs marks s =
      record { registers = trail_at image at 0; after = after; reaches = reaches_by le runs; marks = marks; stands = turn_stands outer fr a new at after.bytes s }

  pub comes_to_fault : (w new : World) (m : Machine) (r : Registers) (e : Fault × Pos) (n : ℕ) → n ≤ 1000000 → new.marks ≡ w.marks → Breaks image n (Trail r m) m e → ComesToFault image P width K w r m e.0 e.1 new
  comes_to_fault w new m r e n le same b =
      record { after = b.after; reaches = reaches_by le b.runs; marks = record { added = []; semantics = same ∙ sym (append-nil w.marks); machine = b.marks ∙ sym (append-nil m.marks) } }
