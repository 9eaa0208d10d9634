-- What stands in the slots still does where all numbers in them are as they were.
use Rattle.std.proofs.Common.{◌≡◌, ◌∙◌, ℕ, ◌+◌}
use Rattle.ceu_code.specs.declared.image.Image.{Image}
use Rattle.ceu_tree.specs.declared.kernel.KLoop.{KLoop}
use Rattle.ceu_tree.specs.declared.kernel.KLoop.TheVariants as turns
use Rattle.ceu_tree.specs.declared.kernel.KStmt.{out-KStmt}
use Rattle.ceu_tree.specs.declared.kernel.KStmt.TheOpen.{KStmt-F}
use Rattle.ceu_tree.specs.Leaf.{Layer}
use Rattle.ceu_tree.specs.Residual.{Program, Counter, Free, Turns, Upward}
use Rattle.ceu_tree.specs.Focus.{Frame, OfLoop, Focus, Here, In}
use Rattle.laws_machine_layout.specs.Tables.{Tables}
use Rattle.laws_machine_layout.specs.Views.{View, Home}
use Rattle.laws_machine_layout.specs.Parts.{TurnsStand, CounterStands}
use Rattle.ceu_trail.specs.Turning.{home, FrameCounts, Counted}

module _ (t : Tables) (v u : View) (same : (size at : ℕ) → u.number size at ≡ v.number size at) where
  turns_stay : (h : Home) (k : KLoop) (c : Counter) → TurnsStand t v h k c → TurnsStand t u h k c
  turns_stay h (turns.Times slot n) (Turns j) e = same 4 (h.frame + t.offset slot) ∙ e
  turns_stay h (turns.Range i next end open_a a b open_b) (Upward value last) e = (same 8 (h.frame + t.offset next) ∙ e.0, same 8 (h.frame + t.offset end) ∙ e.1)
  turns_stay h (turns.Times slot n) Free e = tt
  turns_stay h (turns.Times slot n) (Upward value last) e = tt
  turns_stay h (turns.Range i next end open_a a b open_b) Free e = tt
  turns_stay h (turns.Range i next end open_a a b open_b) (Turns j) e = tt
  turns_stay h turns.Free c e = tt

  counter_stays : (h : Home) (layer : Layer) (c : Counter) → CounterStands t v h layer c → CounterStands t u h layer c
  counter_stays h (KStmt-F.Loop k b) c e = turns_stay h k c e
  counter_stays h layer c e = tt

  module _ (image : Image) where
    frame_stays : (fr : Frame) → FrameCounts t image v fr → FrameCounts t image u fr
    frame_stays (OfLoop n c) e = counter_stays (home image Program) (out-KStmt n.stmt) c e
    frame_stays fr e = tt

    pub counted_stays : {A : Type 0} (f : Focus A) → Counted t image v f → Counted t image u f
    unfolding Counted
    counted_stays (Here a) e = tt
    counted_stays (In fr f) e = (frame_stays fr e.0, counted_stays f e.1)
