-- A block begins: its own label is where its first statement stands, or its end.
use Rattle.std.proofs.Common.{◌≡◌, refl, sym, subst, ℕ, Bool, true, List, [], ◌∷◌, arith}
use Rattle.ceu_code.specs.declared.image.Image.{Image}
use Rattle.ceu_isa.specs.Turns.{Machine}
use Rattle.ceu_tree.specs.declared.kernel.Kernel.{Kernel}
use Rattle.ceu_tree.specs.declared.kernel.KBlock.{KBlock, out-KBlock}
use Rattle.ceu_tree.specs.Leaf.{next_of, rest_of}
use Rattle.ceu_tree.specs.Proper.{Scope}
use Rattle.ceu_tree.specs.Residual.{Program, Begin, no_instance}
use Rattle.ceu_tree.specs.Focus.{Frame, OfBlock, Here, In}
use Rattle.ceu_tree.specs.Around.{Moved}
use Rattle.ceu_tree.specs.Step.{stepped}
use Rattle.ceu_tree.specs.World.{World}
use Rattle.laws_meaning_basics.specs.Shape.{ABlock}
use Rattle.ceu_shape.specs.Plans.{Plan, own_label}
use Rattle.ceu_shape.specs.Searches.{node_of_block}
use Rattle.laws_machine_layout.specs.Views.{view}
use Rattle.ceu_trail.specs.Built.{at_label}
use Rattle.ceu_trail.specs.Compiled.{Compiled}
use Rattle.ceu_trail.specs.Tables.{tables}
use Rattle.ceu_trail.specs.Turning.{TurnStands, FocusAt, ActAt}
use Rattle.ceu_trail.specs.Coming.{Comes, ComesOn}
use Rattle.ceu_steps.specs.Running.{trail_at}
use Rattle.ceu_steps.specs.Premises.{BuiltLaws}
use Rattle.ceu_steps.specs.Reached.{wrap, is_whole, Reached}
use Rattle.ceu_steps.proofs.Ticks.{stay}
use Rattle.ceu_steps.proofs.Frames.{counted_out, opens_is, focus_out}
use Rattle.ceu_steps.proofs.Places.{opens_of, next_place}
use Rattle.ceu_steps.proofs.Comes.{comes_on, no_marks}

module _ (laws : BuiltLaws) (image : Image) (P : Plan) (width : ℕ → ℕ) (K : Kernel) (compiled : Compiled image P width K) where
  begin_place : (outer : List Frame) (b : KBlock) (at : ℕ) (bytes : List ℕ) → FocusAt image P width K true (wrap outer (Here (Begin b))) at bytes → at ≡ at_label image P K (own_label (node_of_block b))
  unfolding FocusAt
  begin_place [] b at bytes h = h
  begin_place (fr ∷ outer) b at bytes h = focus_out image P width K outer fr (Here (Begin b)) at bytes h

  begins_on : {turn : Bool} {sc : Scope} (outer : List Frame) (b : KBlock) (w : World) (at : ℕ) (m : Machine) → Reached K outer (ABlock turn sc b) → TurnStands image P width K (wrap outer (Here (Begin b))) w (trail_at image at 0) m.bytes
      → ComesOn image P width K w (trail_at image at 0) m (wrap outer (In (OfBlock b [] no_instance (rest_of (out-KBlock b).list)) (Here (next_of (out-KBlock b).list)))) w
  begins_on outer b w at m x s =
      let there : at ≡ at_label image P K (own_label (node_of_block b)) = begin_place outer b at m.bytes s.place in
      let opens = opens_of laws image P width K compiled x in
      comes_on image P width K outer (OfBlock b [] no_instance (rest_of (out-KBlock b).list)) (next_of (out-KBlock b).list) w w m m at at 0 (omega arith) stay (no_marks w m m.bytes)
      (record {
        memory = s.memory;
        counts = (tt, (counted_out (tables P width K) image (view image m.bytes) outer (Here (Begin b)) s.counted).0);
        place = subst (λ (k : ℕ). ActAt image P width K (is_whole outer) (OfBlock b [] no_instance (rest_of (out-KBlock b).list)) (next_of (out-KBlock b).list) k m.bytes) (sym there)
            (next_place laws image P width K compiled (is_whole outer) b [] (out-KBlock b).list (at_label image P K (own_label (node_of_block b))) m.bytes opens refl opens.list);
      })

  pub begin_comes : {turn : Bool} {sc : Scope} (outer : List Frame) (b : KBlock) (w : World) (at : ℕ) (m : Machine) → Reached K outer (ABlock turn sc b) → TurnStands image P width K (wrap outer (Here (Begin b))) w (trail_at image at 0) m.bytes
      → let v = stepped K 0 Program (wrap outer (Here (Begin b))) w in Comes image P width K w (trail_at image at 0) m v.outcome v.world
  begin_comes outer b w at m x s =
      subst (λ (v : Moved). Comes image P width K w (trail_at image at 0) m v.outcome v.world)
      (sym (opens_is (Begin b) w w (In (OfBlock b [] no_instance (rest_of (out-KBlock b).list)) (Here (next_of (out-KBlock b).list))) x refl)) (begins_on outer b w at m x s)
