-- A break, and a continue: the trail aborts the loop's gates, all of which are free, and goes behind the loop, or to its head.
use Rattle.std.proofs.Common.{◌≡◌, refl, sym, ap, ◌∙◌, subst, ◌≤◌, inl, inr, ℕ, ◌+◌, Bool, true, ◌==◌, List, [], ◌∷◌, Some, None, arith, eqb-true, eq-eqb}
use Rattle.std.proofs.lemmas.Bool.{and_parts}
use Rattle.std.proofs.lemmas.List.{append-nil}
use Rattle.std.specs.List.{list_any}
use Rattle.ceu_base.specs.declared.kinds.Pos.{Pos}
use Rattle.ceu_code.specs.declared.image.Image.{Image}
use Rattle.ceu_code.specs.declared.instr.Instr.TheVariants as instr
use Rattle.ceu_isa.specs.Fetching.{fetched}
use Rattle.ceu_isa.specs.Turns.{Machine, Trail}
use Rattle.ceu_tree.specs.declared.kernel.Kernel.{Kernel}
use Rattle.ceu_tree.specs.declared.kernel.KLoop.{KLoop}
use Rattle.ceu_tree.specs.declared.kernel.KNode.{KNode}
use Rattle.ceu_tree.specs.declared.kernel.KBlock.{KBlock, KBlock', out-KBlock}
use Rattle.ceu_tree.specs.declared.kernel.KStmt as kernel
use Rattle.ceu_tree.specs.declared.kernel.KStmt.{KStmt, out-KStmt}
use Rattle.ceu_tree.specs.declared.kernel.KStmt.TheOpen.{KStmt-F}
use Rattle.ceu_tree.specs.Abort.{aborted, forget_loop}
use Rattle.ceu_tree.specs.Leaf as does
use Rattle.ceu_tree.specs.Leaf.{Exit, Escape, Break, Continue, acted, next_of, rest_of}
use Rattle.ceu_tree.specs.Numbering.{counts_from, stmt_nodes, stmt_slots}
use Rattle.ceu_tree.specs.Proper.{Scope, is_loop_aim, stmt_ok}
use Rattle.ceu_tree.specs.Residual.{Program, Act, Start, Again, Counter, Over, no_instance}
use Rattle.ceu_tree.specs.Focus.{Frame, OfBlock, OfLoop, Focus, Here, In, plug}
use Rattle.ceu_tree.specs.Around.{Goes, Past, Leaves, Moved, moved, through, up, taken, loop_left}
use Rattle.ceu_tree.specs.Step.{stepped}
use Rattle.ceu_tree.specs.World.{World}
use Rattle.laws_meaning_basics.specs.Shape.{Part, block_scope, counts}
use Rattle.laws_meaning_basics.proofs.Static.{names_of}
use Rattle.ceu_endings.proofs.Aims.{loop_leads}
use Rattle.ceu_endings.proofs.Marks.{loop_marks}
use Rattle.ceu_shape.specs.Plans.{Plan, own_label, end_label}
use Rattle.ceu_shape.specs.Searches.{node_of_block}
use Rattle.laws_machine_layout.specs.Views.{view}
use Rattle.ceu_trail.specs.Built.{at_label, StatementBuilt}
use Rattle.ceu_trail.specs.Compiled.{Compiled}
use Rattle.ceu_trail.specs.Coming.{Comes, ComesOn}
use Rattle.ceu_trail.specs.Tables.{tables}
use Rattle.ceu_trail.specs.Turning.{turn_end, GoesRoundAt, MemoryHolds}
use Rattle.laws_meaning_values.specs.Ground.{Ground, Numbered}
use Rattle.laws_meaning_values.proofs.Counts.{block_nodes_is, stmt_nodes_is, inner_nodes, nodes_all}
use Rattle.ceu_steps.specs.Running.{Runs, trail_at}
use Rattle.ceu_steps.specs.Premises.{BuiltLaws}
use Rattle.ceu_steps.specs.Reached.{wrap, Reached}
use Rattle.ceu_steps.proofs.Ticks.{onward}
use Rattle.ceu_steps.proofs.Frames.{AllCount, up_goes, past_goes, step_is}
use Rattle.ceu_steps.proofs.Lines.{goto_runs}
use Rattle.ceu_steps.proofs.Sweeps.{abort_goes_on}
use Rattle.ceu_steps.proofs.Expressions.{gates_free}
use Rattle.ceu_steps.proofs.Comes.{comes_on}
use Rattle.ceu_steps.proofs.Simple.{passed_on}
use Rattle.ceu_steps.proofs.Turns.{Standing, AtStart, single_of, reached, among, gates, scene, fine}
use Rattle.ceu_steps.proofs.Worlds.{holds_fades, fades_then}
use Rattle.ceu_rounds.proofs.Spots.{StepDone}
use Rattle.ceu_rounds.proofs.Rising.{Rising, rising_here, loop_fades}
use Rattle.ceu_rounds.proofs.Exits.{Arrives, at_loop, at_do, at_body, climb}
use denote.Hole.Carrier

-- ---- what the loop makes of it

loop_takes : (m : ℕ) (x : Exit) (w : World) (s : KNode) (c : Counter) (g : Focus Act) → m ≡ s.node → Rising m x w g → up Program (In (OfLoop s c) g) (Leaves m x) w ≡ loop_left true s c g Program m x w
unfolding up
loop_takes m x w s c g e r = ap (λ (k : Moved). through Program (OfLoop s c) g k.outcome k.world) r.rises ∙ ap (λ (t : Bool). loop_left t s c g Program m x w) (eq-eqb m s.node e)

module _ {K : Kernel} {frames : List Frame} {d : Part} (m : ℕ) (x : Exit) (w : World) (s0 : KNode) (at_leaf : Reached K frames d) (leaves : acted K 0 Program (Start s0) w ≡ does.done (does.Leaves m x) w) where
  -- behind the loop
  pub break_steps : {outer : List Frame} {e : Part} (b : KBlock) (rest : List KNode) (s : KNode) (c : Counter) (g : Focus Act) (v : World) → Reached K outer e → wrap frames (Here (Start s0)) ≡ wrap (OfLoop s c ∷ OfBlock b [] no_instance rest ∷ outer) g
      → up Program (In (OfLoop s c) g) (Leaves m x) w ≡ moved Past v → stepped K 0 Program (wrap frames (Here (Start s0))) w ≡ moved (Goes (wrap outer (In (OfBlock b [] no_instance (rest_of rest)) (Here (next_of rest))))) v
  break_steps {outer = outer} b rest s c g v around same e =
      step_is (Start s0) w (does.done (does.Leaves m x) w) at_leaf leaves
      ∙ ap (λ (f : Focus Act). let k = up Program f (Leaves m x) w in moved (taken f k.outcome) k.world) same
      ∙ ap (λ (k : Moved). moved (taken (wrap (OfLoop s c ∷ OfBlock b [] no_instance rest ∷ outer) g) k.outcome) k.world) (past_goes b rest (In (OfLoop s c) g) (Leaves m x) w v around e)

  -- the loop's next turn
  pub continue_steps : {outer : List Frame} {e : Part} (s : KNode) (c : Counter) (g h : Focus Act) (v : World) → Reached K outer e → wrap frames (Here (Start s0)) ≡ wrap (OfLoop s c ∷ outer) g
      → up Program (In (OfLoop s c) g) (Leaves m x) w ≡ moved (Goes h) v → stepped K 0 Program (wrap frames (Here (Start s0))) w ≡ moved (Goes (wrap outer h)) v
  continue_steps {outer = outer} s c g h v around same e =
      step_is (Start s0) w (does.done (does.Leaves m x) w) at_leaf leaves
      ∙ ap (λ (f : Focus Act). let k = up Program f (Leaves m x) w in moved (taken f k.outcome) k.world) same
      ∙ ap (λ (k : Moved). moved (taken (wrap (OfLoop s c ∷ outer) g) k.outcome) k.world) (up_goes (In (OfLoop s c) g) h (Leaves m x) w v around e)

-- the body of a loop has the next number
body_next : (s : KNode) (k : KLoop) (body : KBlock) (g : Ground) → out-KStmt s.stmt ≡ KStmt-F.Loop k body → Numbered (stmt_slots s.stmt) (s.node ∷ stmt_nodes s.stmt) g → (out-KBlock body).node ≡ s.node + 1
body_next s k body g e on =
    let a = and_parts (s.node == g.first) (counts_from (g.first + 1) (stmt_nodes s.stmt)) on.nodes_from in
    let nodes : stmt_nodes s.stmt ≡ (out-KBlock body).node ∷ nodes_all (out-KBlock body).list = stmt_nodes_is s.stmt ∙ ap inner_nodes e ∙ block_nodes_is body in
    let b = and_parts ((out-KBlock body).node == g.first + 1) (counts_from (g.first + 1 + 1) (nodes_all (out-KBlock body).list)) (subst (λ (l : List ℕ). counts_from (g.first + 1) l ≡ true) nodes a.1) in
    eqb-true (out-KBlock body).node (g.first + 1) b.0 ∙ ap (λ (z : ℕ). z + 1) (sym (eqb-true s.node g.first a.0))

node_is : (b : KBlock) → node_of_block b ≡ (out-KBlock b).node
unfolding out-KBlock Carrier.out
node_is (KBlock' n ds k list) = refl

module _ (laws : BuiltLaws) (image : Image) (P : Plan) (width : ℕ → ℕ) (K : Kernel) (compiled : Compiled image P width K) where
  module _ (outer : List Frame) (turn : Bool) (sc : Scope) (b : KBlock) (done rest : List KNode) (n : ℕ) (p : Pos) (w : World) (at : ℕ) (m : Machine) (left : ℕ) where
    abbrev frames : List Frame
    frames = OfBlock b [] no_instance rest ∷ outer

    abbrev broken : KNode
    broken = record { node = n; pos = p; stmt = kernel.Break left }

    abbrev continued : KNode
    continued = record { node = n; pos = p; stmt = kernel.Continue left }

    break_does : acted K 0 Program (Start broken) w ≡ does.done (does.Leaves left Break) w
    unfolding out-KStmt Carrier.out
    break_does = refl

    continue_does : acted K 0 Program (Start continued) w ≡ does.done (does.Leaves left Continue) w
    unfolding out-KStmt Carrier.out
    continue_does = refl

    break_ok : stmt_ok K (names_of K) (block_scope sc b) n (kernel.Break left) ≡ true → list_any (is_loop_aim K left) (block_scope sc b).aims ≡ true
    unfolding stmt_ok
    break_ok h = (and_parts _ (list_any (is_loop_aim K left) (block_scope sc b).aims) h).1

    continue_ok : stmt_ok K (names_of K) (block_scope sc b) n (kernel.Continue left) ≡ true → list_any (is_loop_aim K left) (block_scope sc b).aims ≡ true
    unfolding stmt_ok
    continue_ok h = (and_parts _ (list_any (is_loop_aim K left) (block_scope sc b).aims) h).1

    -- the lines
    pub record LeaveLines (to : ℕ) : Type 0 where
      pub aborts : fetched image (at_label image P K (own_label n)) ≡ Some (instr.AbortGates (P.first left) (P.count left))
      pub goes : fetched image (at_label image P K (own_label n) + 5) ≡ Some (instr.Jump (at_label image P K to))

    break_lines : StatementBuilt image P K broken → LeaveLines (end_label left)
    break_lines built = record { aborts = built.lines.1.0; goes = built.lines.1.1.0 }

    continue_lines : StatementBuilt image P K continued → LeaveLines (end_label (left + 1))
    continue_lines built = record { aborts = built.lines.1.0; goes = built.lines.1.1.0 }

    -- the abort finds no gate
    leave_runs : (to : ℕ) {o2 : List Frame} {t2 : Bool} {sc2 : Scope} {b2 : KBlock} {done2 rest2 : List KNode} {s : KNode} → LeaveLines to → Standing K o2 t2 sc2 b2 done2 rest2 s → left ≡ s.node → MemoryHolds image P width K w m.bytes
        → Runs image 3 (Trail (trail_at image (at_label image P K (own_label n)) 0) m) (Trail (trail_at image (at_label image P K to) 0) m)
    leave_runs to {s = s} lines spot e holds =
        let g = gates laws image P width K compiled spot in
        let first : P.first left ≡ 0 = ap P.first e ∙ g.first_is in
        let count : P.count left ≤ image.gates = subst (λ (k : ℕ). P.count k ≤ image.gates) (sym e) g.within in
        onward (abort_goes_on image (P.first left) (P.count left) (trail_at image (at_label image P K (own_label n)) 0) m lines.aborts refl (omega (arith, first, count)) (gates_free image P width K w m.bytes holds))
        (goto_runs (at_label image P K to) lines.goes)

    pub break_comes : AtStart image P width K outer turn sc b done rest broken w at m → StepDone image P width K frames (Start broken) w at m
    break_comes h =
        let x = reached laws image P width K compiled h.spot in
        let lines = break_lines (among laws image P width K compiled h.spot).built in
        let leads = loop_leads K left (block_scope sc b).aims Break (inl refl) (break_ok (fine laws image P width K compiled h.spot)) in
        subst (λ (k : ℕ). StepDone image P width K frames (Start broken) w k m) (sym h.stands.place)
        (arrived lines (climb K compiled.proper (single_of laws image P width K compiled) (tables P width K) image (view image m.bytes) left Break w (Here (Start broken)) x leads h.stands.counts (rising_here left Break w (Start broken))))
      where
        own : ℕ
        own = at_label image P K (own_label n)

        by : {o2 : List Frame} {t2 : Bool} {sc2 : Scope} {b2 : KBlock} {done2 rest2 : List KNode} {s : KNode} (c : Counter) (g : Focus Act) → LeaveLines (end_label left) → Standing K o2 t2 sc2 b2 done2 rest2 s → left ≡ s.node → Rising left Break w g
            → AllCount (tables P width K) image (view image m.bytes) (OfLoop s c ∷ OfBlock b2 [] no_instance rest2 ∷ o2) → wrap frames (Here (Start broken)) ≡ wrap (OfLoop s c ∷ OfBlock b2 [] no_instance rest2 ∷ o2) g
            → StepDone image P width K frames (Start broken) w (at_label image P K (own_label n)) m
        by {o2 = o2} {b2 = b2} {done2 = done2} {rest2 = rest2} {s = s} c g lines spot e r counts same =
            let u : World = aborted (plug g Over) Program w in
            let v : World = forget_loop Program s.stmt (aborted (plug g Over) Program w) in
            let on = passed_on laws image P width K compiled o2 b2 done2 rest2 s w v m (at_label image P K (own_label n)) spot.block spot.is
            (record {
              after = m;
              count = 3;
              few = omega arith;
              runs = subst (λ (k : ℕ). Runs image 3 (Trail (trail_at image (at_label image P K (own_label n)) 0) m) (Trail (trail_at image (at_label image P K (end_label k)) 0) m)) e (leave_runs (end_label left) lines spot e h.stands.memory);
              marks = record { added = []; semantics = loop_marks Program s.stmt (aborted (plug g Over) Program w) ∙ r.marks ∙ sym (append-nil w.marks); machine = sym (append-nil m.marks) };
              memory = holds_fades image P width K w v m.bytes (fades_then w (aborted (plug g Over) Program w) v r.fades (loop_fades s.stmt (aborted (plug g Over) Program w))) h.stands.memory;
              counts = counts.1.1;
            }) in
            subst (λ (k : Moved). Comes image P width K w (trail_at image (at_label image P K (own_label n)) 0) m k.outcome k.world)
            (sym (break_steps left Break w broken (reached laws image P width K compiled h.spot) break_does b2 rest2 s c g v spot.block same (loop_takes left Break w s c g e r))) on

        arrived : LeaveLines (end_label left) → Arrives K compiled.proper (single_of laws image P width K compiled) (tables P width K) image (view image m.bytes) left Break w frames (Here (Start broken)) → StepDone image P width K frames (Start broken) w (at_label image P K (own_label n)) m
        arrived lines (at_loop c k body g spot is q e a r counts same) = by c g lines spot e r counts same
        arrived lines (at_do None body g spot is e a r counts same) = absurd a
        arrived lines (at_do (Some l) body g spot is e a r counts same) = absurd a
        arrived lines (at_body o s g is pl e a r same) = absurd a

    pub continue_comes : AtStart image P width K outer turn sc b done rest continued w at m → StepDone image P width K frames (Start continued) w at m
    continue_comes h =
        let x = reached laws image P width K compiled h.spot in
        let lines = continue_lines (among laws image P width K compiled h.spot).built in
        let leads = loop_leads K left (block_scope sc b).aims Continue (inr refl) (continue_ok (fine laws image P width K compiled h.spot)) in
        subst (λ (k : ℕ). StepDone image P width K frames (Start continued) w k m) (sym h.stands.place)
        (arrived lines (climb K compiled.proper (single_of laws image P width K compiled) (tables P width K) image (view image m.bytes) left Continue w (Here (Start continued)) x leads h.stands.counts (rising_here left Continue w (Start continued))))
      where
        round_place : (s : KNode) (c : Counter) (k : KLoop) (body : KBlock) (to : ℕ) → out-KStmt s.stmt ≡ KStmt-F.Loop k body → to ≡ at_label image P K (end_label (node_of_block body)) → GoesRoundAt image P width K (OfLoop s c) to
        round_place s c k body to is e = e ∙ sym (ap (turn_end image P width K) is)

        by : {o2 : List Frame} {t2 : Bool} {sc2 : Scope} {b2 : KBlock} {done2 rest2 : List KNode} {s : KNode} (c : Counter) (k : KLoop) (body : KBlock) (g : Focus Act) → LeaveLines (end_label (left + 1)) → Standing K o2 t2 sc2 b2 done2 rest2 s → out-KStmt s.stmt ≡ KStmt-F.Loop k body → left ≡ s.node
            → Rising left Continue w g → AllCount (tables P width K) image (view image m.bytes) (OfLoop s c ∷ OfBlock b2 [] no_instance rest2 ∷ o2)
            → wrap frames (Here (Start continued)) ≡ wrap (OfLoop s c ∷ OfBlock b2 [] no_instance rest2 ∷ o2) g → StepDone image P width K frames (Start continued) w (at_label image P K (own_label n)) m
        by {o2 = o2} {b2 = b2} {rest2 = rest2} {s = s} c k body g lines spot is e r counts same =
            let v : World = aborted (plug g Over) Program w in
            let sn = scene laws image P width K compiled spot in
            let number : left + 1 ≡ node_of_block body = ap (λ (z : ℕ). z + 1) e ∙ sym (body_next s k body sn.ground is sn.on) ∙ sym (node_is body) in
            let to : ℕ = at_label image P K (end_label (left + 1)) in
            let on : ComesOn image P width K w (trail_at image (at_label image P K (own_label n)) 0) m (wrap (OfBlock b2 [] no_instance rest2 ∷ o2) (In (OfLoop s c) (Here Again))) (aborted (plug g Over) Program w) =
            comes_on image P width K (OfBlock b2 [] no_instance rest2 ∷ o2) (OfLoop s c) Again w (aborted (plug g Over) Program w) m m (at_label image P K (own_label n)) to 3 (omega arith) (leave_runs (end_label (left + 1)) lines spot e h.stands.memory)
            (record { added = []; semantics = r.marks ∙ sym (append-nil w.marks); machine = sym (append-nil m.marks) })
            (record {
              memory = holds_fades image P width K w (aborted (plug g Over) Program w) m.bytes r.fades h.stands.memory;
              counts = counts;
              place = round_place s c k body (at_label image P K (end_label (left + 1))) is (ap (λ (z : ℕ). at_label image P K (end_label z)) number);
            }) in
            subst (λ (z : Moved). Comes image P width K w (trail_at image (at_label image P K (own_label n)) 0) m z.outcome z.world)
            (sym (continue_steps left Continue w continued (reached laws image P width K compiled h.spot) continue_does s c g (In (OfLoop s c) (Here Again)) v (reached laws image P width K compiled spot) same (loop_takes left Continue w s c g e r))) on

        arrived : LeaveLines (end_label (left + 1)) → Arrives K compiled.proper (single_of laws image P width K compiled) (tables P width K) image (view image m.bytes) left Continue w frames (Here (Start continued)) → StepDone image P width K frames (Start continued) w (at_label image P K (own_label n)) m
        arrived lines (at_loop c k body g spot is q e a r counts same) = by c k body g lines spot is e r counts same
        arrived lines (at_do None body g spot is e a r counts same) = absurd a
        arrived lines (at_do (Some l) body g spot is e a r counts same) = absurd a
        arrived lines (at_body o s g is pl e a r same) = absurd a
