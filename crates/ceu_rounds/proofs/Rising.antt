-- An exit inside the parts that hand it on: what is left there is gone, and nothing else changes.
use Rattle.std.proofs.Common.{◌≡◌, refl, ap, ◌∙◌, ℕ, Bool, false, ◌==◌, List, []}
use Rattle.ceu_tree.specs.declared.kernel.KLoop.TheVariants as turns
use Rattle.ceu_tree.specs.declared.kernel.KNode.{KNode}
use Rattle.ceu_tree.specs.declared.kernel.KBlock.{KBlock, out-KBlock}
use Rattle.ceu_tree.specs.declared.kernel.KStmt as kernel
use Rattle.ceu_tree.specs.declared.kernel.KStmt.{KStmt, out-KStmt}
use Rattle.ceu_tree.specs.Residual.{Program, Act, Counter, Over, no_instance}
use Rattle.ceu_tree.specs.Focus.{OfBlock, OfOpen, OfLoop, Focus, Here, In, plug}
use Rattle.ceu_tree.specs.Abort.{aborted, instances_aborted, forget_loop}
use Rattle.ceu_tree.specs.Leaf.{Exit}
use Rattle.ceu_tree.specs.Around.{Leaves, Moved, moved, through, up, body_left, open_left, loop_left}
use Rattle.ceu_tree.specs.World.{World}
use Rattle.ceu_endings.specs.OneTrail.{PlainFocus}
use Rattle.ceu_endings.proofs.Marks.{loop_marks}
use Rattle.ceu_steps.proofs.Worlds.{Fades, fades_itself, fades_then, forget_fades, closed_fades}
use Rattle.ceu_rounds.proofs.LoopEnds.{closed_marks}

pub loop_fades : (st : KStmt) (w : World) → Fades w (forget_loop Program st w)
loop_fades (kernel.Loop (turns.Range i next end open_a a b open_b) body) w = forget_fades Program i w
loop_fades (kernel.Loop turns.Free body) w = fades_itself w
loop_fades (kernel.Loop (turns.Times slot n) body) w = fades_itself w
loop_fades st w = fades_itself w

module _ (m : ℕ) (x : Exit) (w : World) where
  -- the exit is handed on by all parts of f
  pub record Rising (f : Focus Act) : Type 0 where
    pub rises : up Program f (Leaves m x) w ≡ moved (Leaves m x) w
    pub plain : PlainFocus f
    pub fades : Fades w (aborted (plug f Over) Program w)
    pub marks : (aborted (plug f Over) Program w).marks ≡ w.marks

  pub rising_here : (a : Act) → Rising (Here a)
  unfolding up PlainFocus aborted
  rising_here a = record { rises = refl; plain = tt; fades = fades_itself w; marks = refl }

  pub rising_block : (b : KBlock) (rest : List KNode) (f : Focus Act) → (m == (out-KBlock b).node) ≡ false → Rising f → Rising (In (OfBlock b [] no_instance rest) f)
  unfolding up PlainFocus aborted instances_aborted
  rising_block b rest f e r =
      let u : World = aborted (plug f Over) Program w in
      record {
        rises = ap (λ (k : Moved). through Program (OfBlock b [] no_instance rest) f k.outcome k.world) r.rises ∙ ap (λ (t : Bool). body_left t b [] no_instance f Program m x w) e;
        plain = ((refl, refl), r.plain);
        fades = fades_then w (aborted (plug f Over) Program w) _ r.fades (closed_fades b Program (aborted (plug f Over) Program w));
        marks = closed_marks b (aborted (plug f Over) Program w) ∙ r.marks;
      }

  pub rising_open : (s : KNode) (f : Focus Act) → (m == s.node) ≡ false → Rising f → Rising (In (OfOpen s) f)
  unfolding up PlainFocus aborted
  rising_open s f e r =
      record {
        rises = ap (λ (k : Moved). through Program (OfOpen s) f k.outcome k.world) r.rises ∙ ap (λ (t : Bool). open_left t s f Program m x w) e;
        plain = (tt, r.plain);
        fades = r.fades;
        marks = r.marks;
      }

  pub rising_loop : (s : KNode) (c : Counter) (f : Focus Act) → (m == s.node) ≡ false → Rising f → Rising (In (OfLoop s c) f)
  unfolding up PlainFocus aborted
  rising_loop s c f e r =
      record {
        rises = ap (λ (k : Moved). through Program (OfLoop s c) f k.outcome k.world) r.rises ∙ ap (λ (t : Bool). loop_left t s c f Program m x w) e;
        plain = (tt, r.plain);
        fades = fades_then w (aborted (plug f Over) Program w) _ r.fades (loop_fades s.stmt (aborted (plug f Over) Program w));
        marks = loop_marks Program s.stmt (aborted (plug f Over) Program w) ∙ r.marks;
      }
