-- A block of an if ends.
use Rattle.std.proofs.Common.{◌≡◌, refl, sym, ap, ◌∙◌, subst, ℕ, pos, List, [], ◌∷◌, Option, None, arith}
use Rattle.std.proofs.lemmas.List.{append-nil}
use Rattle.ceu_base.specs.declared.kinds.Pos.{Pos}
use Rattle.ceu_code.specs.declared.image.Image.{Image}
use Rattle.ceu_isa.specs.Turns.{Machine}
use Rattle.ceu_tree.specs.declared.kernel.Kernel.{Kernel}
use Rattle.ceu_tree.specs.declared.kernel.KNode.{KNode}
use Rattle.ceu_tree.specs.declared.kernel.KBlock.{KBlock}
use Rattle.ceu_tree.specs.declared.kernel.KStmt.{out-KStmt, Row_of-KArm, If'}
use Rattle.ceu_tree.specs.declared.kernel.Loc.{Loc}
use Rattle.ceu_tree.specs.Abort.{closed}
use Rattle.ceu_tree.specs.Leaf.{target, next_of, rest_of}
use Rattle.ceu_tree.specs.Proper.{Scope}
use Rattle.ceu_tree.specs.Residual.{Program, AtEnd, no_instance}
use Rattle.ceu_tree.specs.Focus.{Frame, OfBlock, OfOpen, Here, In}
use Rattle.ceu_tree.specs.Around.{Goes, Moved, moved}
use Rattle.ceu_tree.specs.Step.{stepped}
use Rattle.ceu_tree.specs.World.{World, assign_if}
use Rattle.laws_meaning_basics.specs.Shape.{AnEnd, opens_part}
use Rattle.ceu_shape.specs.Plans.{Plan, end_label}
use Rattle.ceu_shape.specs.Searches.{node_of_block}
use Rattle.ceu_trail.specs.Built.{at_label, ending}
use Rattle.ceu_trail.specs.Compiled.{Compiled}
use Rattle.ceu_trail.specs.Coming.{Comes}
use Rattle.ceu_steps.specs.Running.{trail_at}
use Rattle.ceu_steps.specs.Premises.{BuiltLaws}
use Rattle.ceu_steps.specs.Reached.{wrap, Reached}
use Rattle.ceu_steps.proofs.Comes.{StandsIn}
use Rattle.ceu_steps.proofs.Ends.{end_jumps, end_is, marks_closed}
use Rattle.ceu_steps.proofs.Lines.{goto_runs}
use Rattle.ceu_steps.proofs.Simple.{passed_on}
use Rattle.ceu_steps.proofs.Ticks.{onward}
use Rattle.ceu_steps.proofs.Turns.{Standing, among}
use Rattle.ceu_steps.proofs.Worlds.{holds_fades, closed_fades}
use Rattle.ceu_ifs.proofs.Arms.{if_leaves}
use denote.Hole.Carrier

target_if : (n : ℕ) (p : Pos) (y : List (Unit {0})) (arms : Row_of-KArm _) (last : KBlock) → target (record { node = n; pos = p; stmt = If' y arms last }) ≡ None
unfolding out-KStmt Carrier.out
target_if n p y arms last = refl

module _ (laws : BuiltLaws) (image : Image) (P : Plan) (width : ℕ → ℕ) (K : Kernel) (compiled : Compiled image P width K) where
  pub if_ends : {outer : List Frame} {turn : _} {sc : Scope} {b0 : KBlock} {done rest : List KNode} (n : ℕ) (p : Pos) (y : List (Unit {0})) (arms : Row_of-KArm _) (last b : KBlock) (w : World) (at : ℕ) (m : Machine)
      → let s : KNode = record { node = n; pos = p; stmt = If' y arms last } in
      opens_part (out-KStmt (If' y arms last)) b → Standing K outer turn sc b0 done rest s → ending P K b ≡ [] → Reached K (OfBlock b [] no_instance [] ∷ OfOpen s ∷ OfBlock b0 [] no_instance rest ∷ outer) AnEnd
      → StandsIn image P width K (OfOpen s ∷ OfBlock b0 [] no_instance rest ∷ outer) (OfBlock b [] no_instance []) AtEnd w at m.bytes
      → let v = stepped K 0 Program (wrap outer (In (OfBlock b0 [] no_instance rest) (In (OfOpen s) (In (OfBlock b [] no_instance []) (Here AtEnd))))) w in Comes image P width K w (trail_at image at 0) m v.outcome v.world
  if_ends {outer = outer} {b0 = b0} {done = done} {rest = rest} n p y arms last b w at m o spot none x stands =
      let s : KNode = record { node = n; pos = p; stmt = If' y arms last } in
      let built = (among laws image P width K compiled spot).built in
      let jump = goto_runs {m = m} (at_label image P K (end_label (node_of_block b))) (end_jumps laws image P width K compiled b at none stands.place) in
      subst (λ (v : Moved). Comes image P width K w (trail_at image at 0) m v.outcome v.world)
      (sym (end_is laws image P width K compiled s b b0 rest w spot.block x ∙ ap (λ (q : Option Loc). moved (Goes (wrap outer (In (OfBlock b0 [] no_instance (rest_of rest)) (Here (next_of rest))))) (assign_if Program q (pos 0) (closed b [] no_instance Program w))) (target_if n p y arms last)))
      (passed_on laws image P width K compiled outer b0 done rest s w (closed b [] no_instance Program w) m at spot.block spot.is
      (record {
        after = m;
        count = 2;
        few = omega arith;
        runs = onward jump (goto_runs (at_label image P K (end_label n)) (if_leaves image P K n p y arms last b o built));
        marks = record { added = []; semantics = marks_closed laws image P width K compiled b w ∙ sym (append-nil w.marks); machine = sym (append-nil m.marks) };
        memory = holds_fades image P width K w (closed b [] no_instance Program w) m.bytes (closed_fades b Program w) stands.memory;
        counts = stands.counts.1.1.1;
      }))
