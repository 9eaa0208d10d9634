-- A statement that does nothing goes to its next one.
use Rattle.std.proofs.Common.{◌≡◌, refl, sym, subst, ◌≤◌, ℕ, Bool, List, [], ◌∷◌, ◌++◌, arith}
use Rattle.ceu_base.specs.declared.kinds.Pos.{Pos}
use Rattle.ceu_code.specs.declared.image.Image.{Image}
use Rattle.ceu_isa.specs.Turns.{Machine, Trail}
use Rattle.ceu_tree.specs.declared.kernel.Kernel.{Kernel}
use Rattle.ceu_tree.specs.declared.kernel.KNode.{KNode}
use Rattle.ceu_tree.specs.declared.kernel.KBlock.{KBlock, out-KBlock}
use Rattle.ceu_tree.specs.declared.kernel.KStmt.{out-KStmt, Nothing}
use Rattle.ceu_tree.specs.Leaf as does
use Rattle.ceu_tree.specs.Leaf.{acted, next_of, rest_of}
use Rattle.ceu_tree.specs.Legal.{finalizers_of}
use Rattle.ceu_tree.specs.Proper.{Scope}
use Rattle.ceu_tree.specs.Residual.{Program, Act, Start, no_instance}
use Rattle.ceu_tree.specs.Focus.{Frame, OfBlock, Here, In}
use Rattle.ceu_tree.specs.Around.{Moved}
use Rattle.ceu_tree.specs.Step.{stepped}
use Rattle.ceu_tree.specs.World.{World}
use Rattle.laws_meaning_basics.specs.Shape.{ABlock}
use Rattle.ceu_shape.specs.Plans.{Plan, own_label, end_label}
use Rattle.ceu_shape.specs.Shape.{parts_draft}
use Rattle.laws_machine_layout.specs.Views.{view}
use Rattle.ceu_trail.specs.Built.{at_label, StatementBuilt}
use Rattle.ceu_trail.specs.Compiled.{Compiled}
use Rattle.ceu_trail.specs.Tables.{tables}
use Rattle.ceu_trail.specs.Turning.{MemoryHolds}
use Rattle.ceu_trail.specs.Coming.{Comes, ComesOn, SameMarks}
use Rattle.ceu_steps.specs.Running.{Runs, trail_at}
use Rattle.ceu_steps.specs.Premises.{BuiltLaws}
use Rattle.ceu_steps.specs.Reached.{wrap, Reached, at_statement}
use Rattle.ceu_steps.proofs.Frames.{AllCount, passes_is}
use Rattle.ceu_steps.proofs.Lines.{goto_runs}
use Rattle.ceu_steps.proofs.Places.{opens_of, behind_place}
use Rattle.ceu_steps.proofs.Comes.{StandsIn, comes_on, no_marks}
use denote.Hole.Carrier

module _ (laws : BuiltLaws) (image : Image) (P : Plan) (width : ℕ → ℕ) (K : Kernel) (compiled : Compiled image P width K) where
  -- the trail is behind a statement of a block
  pub record Passed (w new : World) (m : Machine) (s : KNode) (outer : List Frame) (start : ℕ) : Type 0 where
    pub after : Machine
    pub count : ℕ
    pub few : count ≤ 1000000
    pub runs : Runs image count (Trail (trail_at image start 0) m) (Trail (trail_at image (at_label image P K (end_label s.node)) 0) after)
    pub marks : SameMarks w m new after
    pub memory : MemoryHolds image P width K new after.bytes
    pub counts : AllCount (tables P width K) image (view image after.bytes) outer

  -- so the turn goes on at the next one
  pub passed_on : {turn : Bool} {sc : Scope} (outer : List Frame) (b : KBlock) (done rest : List KNode) (s : KNode) (w new : World) (m : Machine) (start : ℕ) → Reached K outer (ABlock turn sc b) → (out-KBlock b).list ≡ done ++ s ∷ rest
      → Passed w new m s outer start → ComesOn image P width K w (trail_at image start 0) m (wrap outer (In (OfBlock b [] no_instance (rest_of rest)) (Here (next_of rest)))) new
  passed_on outer b done rest s w new m start x e p =
      comes_on image P width K outer (OfBlock b [] no_instance (rest_of rest)) (next_of rest) w new m p.after start (at_label image P K (end_label s.node)) p.count p.few p.runs p.marks
      (record { memory = p.memory; counts = (tt, p.counts); place = behind_place laws image P width K compiled b done rest s p.after.bytes x e })

  -- where the act goes past its statement
  pub pass_comes : {turn : Bool} {sc : Scope} (outer : List Frame) (b : KBlock) (done rest : List KNode) (s : KNode) (a : Act) (w new : World) (m : Machine) (start : ℕ) → Reached K outer (ABlock turn sc b) → (out-KBlock b).list ≡ done ++ s ∷ rest → finalizers_of [] done ≡ []
      → acted K 0 Program a w ≡ does.done does.Passes new → Passed w new m s outer start
      → let v = stepped K 0 Program (wrap outer (In (OfBlock b [] no_instance rest) (Here a))) w in Comes image P width K w (trail_at image start 0) m v.outcome v.world
  pass_comes outer b done rest s a w new m start x e pl d p =
      subst (λ (v : Moved). Comes image P width K w (trail_at image start 0) m v.outcome v.world) (sym (passes_is b rest a w new x (at_statement done x e pl) d)) (passed_on outer b done rest s w new m start x e p)

  nothing_runs : (n : ℕ) (p : Pos) (m : Machine) → StatementBuilt image P K (record { node = n; pos = p; stmt = Nothing })
      → Runs image 1 (Trail (trail_at image (at_label image P K (own_label n)) 0) m) (Trail (trail_at image (at_label image P K (end_label n)) 0) m)
  unfolding parts_draft
  nothing_runs n p m built = goto_runs (at_label image P K (end_label n)) built.lines.1.0

  nothing_does : (n : ℕ) (p : Pos) (w : World) → acted K 0 Program (Start (record { node = n; pos = p; stmt = Nothing })) w ≡ does.done does.Passes w
  unfolding out-KStmt Carrier.out
  nothing_does n p w = refl

  pub nothing_comes : {turn : Bool} {sc : Scope} (outer : List Frame) (b : KBlock) (done rest : List KNode) (n : ℕ) (p : Pos) (w : World) (m : Machine) (start : ℕ) → let s : KNode = record { node = n; pos = p; stmt = Nothing } in
      Reached K outer (ABlock turn sc b) → (out-KBlock b).list ≡ done ++ s ∷ rest → finalizers_of [] done ≡ [] → StandsIn image P width K outer (OfBlock b [] no_instance rest) (Start s) w start m.bytes
      → let v = stepped K 0 Program (wrap outer (In (OfBlock b [] no_instance rest) (Here (Start s)))) w in Comes image P width K w (trail_at image start 0) m v.outcome v.world
  nothing_comes outer b done rest n p w m start x e pl stands =
      let s : KNode = record { node = n; pos = p; stmt = Nothing } in
      let among = (opens_of laws image P width K compiled x).statement done rest (record { node = n; pos = p; stmt = Nothing }) e in
      pass_comes outer b done rest (record { node = n; pos = p; stmt = Nothing }) (Start (record { node = n; pos = p; stmt = Nothing })) w w m start x e pl (nothing_does n p w)
      (record {
        after = m;
        count = 1;
        few = omega arith;
        runs = subst (λ (k : ℕ). Runs image 1 (Trail (trail_at image k 0) m) (Trail (trail_at image (at_label image P K (end_label n)) 0) m)) (sym stands.place) (nothing_runs n p m among.built);
        marks = no_marks w m m.bytes;
        memory = stands.memory;
        counts = stands.counts.1;
      })
