-- A trail that waits: its gate is set, and what is left of the program stands in the memory.
use Rattle.std.proofs.Common.{◌≡◌, refl, sym, ap, ◌∙◌, subst, ◌<◌, ◌≤◌, ◌⊎◌, inl, inr, ⊎_elim, ℕ, ◌+◌, ◌*◌, Bool, true, false, List, [], ◌∷◌, length, Some, arith}
use Rattle.std.proofs.lemmas.List.{append-nil}
use Rattle.std.specs.List.{list_all}
use Rattle.std.specs.Prelude.{slice_index, nat_lt, nat_le, if◌then◌else◌, ◌&&◌}
use Rattle.std.proofs.lemmas.Bool.{lt-ltb, leb-true, and_parts, false≢true}
use Rattle.ceu_code.specs.declared.image.Image.{Image}
use Rattle.ceu_code.specs.declared.instr.Instr.{Instr}
use Rattle.ceu_code.specs.declared.instr.Instr.TheVariants as instr
use Rattle.ceu_code.specs.Instructions.{size}
use Rattle.ceu_mem.specs.declared.gate.Gate.{Gate}
use Rattle.ceu_mem.specs.Bytes.{number_at}
use Rattle.ceu_mem.specs.Memory.{IsGate, gate_at}
use Rattle.ceu_mem.proofs.Gates.{get_put_same, put_length, byte_elsewhere}
use Rattle.ceu_isa.specs.declared.registers.Registers.{Registers}
use Rattle.ceu_isa.specs.Layout.{free, gates_at, slots_at, end_of, in_slots, gate_of, gate_put, gate_changed}
use Rattle.ceu_isa.specs.Fetching.{fetched}
use Rattle.ceu_isa.specs.Effects.{Goes, Pauses, provided}
use Rattle.ceu_isa.specs.Rows.{effect}
use Rattle.ceu_isa.specs.Turns as machine
use Rattle.ceu_isa.specs.Turns.{Machine, Trail, State, behind, changed, rewritten, trail_did}
use Rattle.ceu_tree.specs.declared.kernel.Kernel.{Kernel}
use Rattle.ceu_tree.specs.declared.kernel.KDecl.{KDecl}
use Rattle.ceu_tree.specs.declared.kernel.KKind.{KKind}
use Rattle.ceu_tree.specs.declared.kernel.KKind.TheVariants as kind
use Rattle.ceu_tree.specs.declared.kernel.KNode.{KNode}
use Rattle.ceu_tree.specs.declared.kernel.KBlock.{KBlock, out-KBlock}
use Rattle.ceu_tree.specs.declared.kernel.KStmt.{out-KStmt}
use Rattle.ceu_tree.specs.Legal.{finalizers_of}
use Rattle.ceu_tree.specs.Proper.{Scope}
use Rattle.ceu_tree.specs.Residual.{Program, Residual, Block, Open, Loop, no_instance}
use Rattle.ceu_tree.specs.Focus.{Frame, OfBlock, OfOpen, OfLoop}
use Rattle.ceu_tree.specs.World.{World}
use Rattle.laws_meaning_basics.specs.Shape.{Part, ABlock, AStatement, around_statement, around_part, around_turn, none_lives, block_scope, part_scope, turn_scope}
use Rattle.ceu_shape.specs.Plans.{Plan}
use Rattle.ceu_shape.specs.Searches.{node_of_block}
use Rattle.ceu_single.specs.Single.{is_variable, is_variable_decl}
use Rattle.laws_machine_code.proofs.Numbers.{number_agrees}
use Rattle.laws_machine_layout.specs.Laws.{AreBytes}
use Rattle.laws_machine_layout.specs.Parts.{finalizers, pools_gates, Vacant, VacantIn, decl_gates}
use Rattle.laws_machine_layout.specs.Stands.{Stands}
use Rattle.laws_machine_layout.specs.Tables.{Tables}
use Rattle.laws_machine_layout.specs.Views as views
use Rattle.laws_machine_layout.specs.Views.{View, view, slot_number, gate_seen, no_gate, Home}
use Rattle.ceu_trail.specs.Compiled.{Compiled}
use Rattle.ceu_trail.specs.Coming.{ComesToRest}
use Rattle.ceu_trail.specs.Parts.{part_gates}
use Rattle.ceu_trail.specs.Tables.{tables}
use Rattle.ceu_trail.specs.Turning.{home, MemoryHolds}
use Rattle.ceu_trail.proofs.Plain.{blocks_are_plain}
use Rattle.ceu_steps.specs.Running.{Runs, trail_at}
use Rattle.ceu_steps.specs.Premises.{BuiltLaws}
use Rattle.ceu_steps.specs.Reached.{filled, Reached, at_program, at_statement, at_end, in_part, in_turn}
use Rattle.ceu_steps.proofs.Bytes.{changed_bytes}
use Rattle.ceu_steps.proofs.Comes.{reaches_by}
use Rattle.ceu_steps.proofs.Frames.{AllCount}
use Rattle.ceu_steps.proofs.Lines.{line_runs}
use Rattle.ceu_steps.proofs.Places.{around_of, gates_of}
use Rattle.ceu_steps.proofs.Scenes.{block_plain}
use Rattle.ceu_steps.proofs.Ticks.{did}
use Rattle.ceu_steps.proofs.Turns.{single_of, counts_stay}
use Rattle.ceu_steps.proofs.Unseen.{SameNumbers, values_stay}

-- ---- what is left of the whole

no_place : (t : Tables) (v : View) (h : Home) (gate : ℕ) (ds : List KDecl) → list_all is_variable_decl ds ≡ true → Vacant t v h no_instance gate ds
no_place t v h gate [] e = tt
no_place t v h gate (d ∷ ds) e =
    let a = and_parts (is_variable_decl d) (list_all is_variable_decl ds) e in (one d.kind a.0, no_place t v h (gate + decl_gates t d.kind) ds a.1)
  where
    one : (j : KKind) → is_variable j ≡ true → VacantIn t v h no_instance gate d j
    one (kind.Var u) z = tt
    one (kind.Alias n) z = tt
    one (kind.Pool n c) z = absurd (false≢true z)

module _ (laws : BuiltLaws) (image : Image) (P : Plan) (width : ℕ → ℕ) (K : Kernel) (compiled : Compiled image P width K) where
  -- gates but the first one are free, and counters stand
  module _ (v : View) (others : views.Free v 1 image.gates) where
    abbrev Left : Residual → (low high : ℕ) → Type 0
    Left q low high = Stands (tables P width K) (home image) v q Program low high

    block_left : {outer : List Frame} {turn : Bool} {sc : Scope} (b : KBlock) (rest : List KNode) (q : Residual) (high : ℕ) → Reached K outer (ABlock turn sc b) → P.count (node_of_block b) ≤ high → high ≤ image.gates
        → Left q 0 (P.count (node_of_block b)) → Left (Block b [] no_instance q rest) 0 high
    unfolding Stands
    block_left {outer} {turn} {sc} b rest q high x le top inner =
        let g = (gates_of laws image P width K compiled x).2 in
        let single = single_of laws image P width K compiled outer (ABlock turn sc b) x in
        let plain = blocks_are_plain b single in
        let none : finalizers b ≡ 0 = ap (λ (l : List KNode). length l) (plain.no_finalizer (out-KBlock b).list [] (sym (append-nil (out-KBlock b).list))) in
        let pools = plain.no_pool (tables P width K) in
        let count : P.count (out-KBlock b).node ≡ P.count (node_of_block b) = ap P.count plain.node_is in
        let first : P.first (out-KBlock b).node ≡ 0 = ap P.first plain.node_is ∙ g.first_is in
        record {
          first_is = omega (arith, first);
          within = omega (arith, count, le);
          parts_within = omega (arith, none, pools, g.some, count);
          some_registered = omega arith;
          registered_stand = tt;
          others_free = record { free_at = λ i x y. absurd (omega (arith, none)) };
          vacant = no_place (tables P width K) v (home image Program) (0 + finalizers b) (out-KBlock b).decls (block_plain b single);
          seats = tt;
          inner = subst (λ (i : ℕ). Left q i (0 + P.count (out-KBlock b).node)) (let e : 0 ≡ 0 + finalizers b + pools_gates (tables P width K) (out-KBlock b).decls = omega (arith, none, pools) in e)
              (subst (λ (i : ℕ). Left q 0 i) (let e : P.count (node_of_block b) ≡ 0 + P.count (out-KBlock b).node = omega (arith, count) in e) inner);
          behind = record { free_at = λ i x y. others.free_at i (omega (arith, g.some, count)) (omega arith) };
        }

    pub left_stands : {outer : List Frame} {d : Part} → Reached K outer d → (q : Residual) → ((high : ℕ) → part_gates P d ≤ high → high ≤ image.gates → Left q 0 high) → AllCount (tables P width K) image v outer → Left (filled outer q) 0 image.gates
    unfolding Stands
    left_stands at_program q inner c = inner image.gates (gates_of laws image P width K compiled at_program).2.within (omega arith)
    left_stands (at_statement {outer = outer} {turn = turn} {sc = sc} {b = b} {s = s} {rest = rest} done x e pl) q inner c =
        let a = around_of x in
        let nest = laws.gates_nest image P width K a.0 (OfBlock b (finalizers_of [] done) no_instance rest) (ABlock turn sc b) (AStatement (block_scope sc b) s) compiled a.1 (around_statement done e refl none_lives) in
        let g = (gates_of laws image P width K compiled x).2 in
        left_stands x (Block b [] no_instance q rest) (λ high le top. block_left b rest q high x le top (inner (P.count (node_of_block b)) nest g.within)) c.1
    left_stands (at_end {outer = outer} {b = b} x pl) q inner c =
        let g = (gates_of laws image P width K compiled x).2 in
        left_stands x (Block b [] no_instance q []) (λ high le top. block_left b [] q high x le top (inner (P.count (node_of_block b)) (omega arith) g.within)) c.1
    left_stands (in_part {outer = outer} {sc = sc} {s = s} b x o) q inner c =
        let a = around_of x in
        let nest = laws.gates_nest image P width K a.0 (OfOpen s) (AStatement sc s) (ABlock false (part_scope K sc s.node (out-KStmt s.stmt)) b) compiled a.1 (around_part b o) in
        let g = (gates_of laws image P width K compiled x).2 in
        left_stands x (Open s q) (λ high le top. record { first_is = omega (arith, g.first_is); inner = inner high (omega (arith, nest, le)) top }) c.1
    left_stands (in_turn {outer = outer} {sc = sc} {s = s} {c = k} j b x e n) q inner c =
        let a = around_of x in
        let nest = laws.gates_nest image P width K a.0 (OfLoop s k) (AStatement sc s) (ABlock true (turn_scope K sc s.node j) b) compiled a.1 (around_turn j b e n) in
        let g = (gates_of laws image P width K compiled x).2 in
        left_stands x (Loop s k q) (λ high le top. record { first_is = omega (arith, g.first_is); counted = c.0; inner = inner high (omega (arith, nest, le)) top }) c.1

-- ---- the gate

pub record GateSet (image : Image) (gate : Gate) (old new : List ℕ) : Type 0 where
  pub size : length new ≡ length old
  pub are_bytes : AreBytes new
  pub outside : (i : ℕ) → (i < gates_at image) ⊎ (gates_at image + 19 ≤ i) → slice_index new i ≡ slice_index old i
  pub set : gate_of image new 0 ≡ gate

pub gate_set : (image : Image) (f : Gate → Gate) (old : List ℕ) → AreBytes old → IsGate (f (gate_of image old 0)) → 1 ≤ image.gates → length old ≡ end_of image → GateSet image (f (gate_of image old 0)) old (gate_changed image f 0 old)
unfolding gate_of gate_put
gate_set image f old bytes ok some size = record {
  size = put_length (f (gate_at (gates_at image) old 0)) old (gates_at image + 19 * 0);
  are_bytes = changed_bytes image f 0 old bytes;
  outside = λ i o. byte_elsewhere (f (gate_at (gates_at image) old 0)) old (gates_at image + 19 * 0) i (⊎_elim (λ x. inl (omega arith)) (λ x. inr (omega arith)) o);
  set = get_put_same (gates_at image) (f (gate_at (gates_at image) old 0)) old 0 ok (omega (arith, size, some));
}

module _ (image : Image) (gate : Gate) (old new : List ℕ) (some : 1 ≤ image.gates) (s : GateSet image gate old new) where
  pub set_numbers : SameNumbers (view image old) (view image new)
  set_numbers = record { same = λ k at. go k at (nat_le (slots_at image) at) refl }
    where
      go : (k at : ℕ) (b : Bool) → nat_le (slots_at image) at ≡ b → slot_number image new k at ≡ slot_number image old k at
      go k at true e =
          let low : slots_at image ≤ at = leb-true _ _ e in
          ap (λ (x : ℕ). if in_slots image at k then x else 0) (number_agrees k new old at (λ i x y. s.outside i (inr (omega (arith, some)))))
      go k at false e = ap (λ (b : Bool). if b && nat_le (at + k) (end_of image) then number_at k new at else 0) e ∙ sym (ap (λ (b : Bool). if b && nat_le (at + k) (end_of image) then number_at k old at else 0) e)

  pub set_seen : gate_seen image new 0 ≡ gate
  set_seen = ap (λ (b : Bool). if b then gate_of image new 0 else no_gate) (lt-ltb 0 image.gates (omega arith)) ∙ s.set

  pub set_others : views.Free (view image old) 0 image.gates → views.Free (view image new) 1 image.gates
  unfolding gate_of
  set_others f = record { free_at = λ g x y. go g (nat_lt g image.gates) refl x (f.free_at g (omega arith) y) }
    where
      go : (g : ℕ) (b : Bool) → nat_lt g image.gates ≡ b → 1 ≤ g → (gate_seen image old g).kind ≡ free → (gate_seen image new g).kind ≡ free
      go g true e le h =
          let there : (if true then gate_of image old g else no_gate).kind ≡ free = sym (ap (λ (b : Bool). (if b then gate_of image old g else no_gate).kind) e) ∙ h in
          ap (λ (b : Bool). (if b then gate_of image new g else no_gate).kind) e ∙ number_agrees 1 new old (gates_at image + 19 * g) (λ i x y. s.outside i (inr (omega arith))) ∙ there
      go g false e le h = ap (λ (b : Bool). (if b then gate_of image new g else no_gate).kind) e

-- ---- instructions

pub move_runs : {image : Image} {at : ℕ} {m : Machine} (g : ℕ) → fetched image at ≡ Some (instr.Move g) → g ≡ 0 → 1 ≤ image.gates → Runs image 1 (Trail (trail_at image at 0) m) (Trail (trail_at image (at + 3) 0) m)
unfolding effect
move_runs {image = image} {at = at} {m = m} g f e some =
    line_runs (instr.Move g) (trail_at image (at + 3) 0) m.bytes f
    (ap (λ (b : Bool). provided b (Goes (record (trail_at image (at + 3) 0) { own = 0 + g }) m.bytes [])) (lt-ltb (0 + g) image.gates (omega arith))
    ∙ ap (λ (k : ℕ). Goes (record (trail_at image (at + 3) 0) { own = k }) m.bytes []) (let z : 0 + g ≡ 0 = omega (arith, e) in z))

pub pause_runs : {image : Image} {r : Registers} {m : Machine} (i : Instr) (bytes : List ℕ) → fetched image r.at ≡ Some i → effect image i (behind i r) m.bytes ≡ Pauses bytes [] → Runs image 1 (Trail r m) (machine.Paused (rewritten bytes m))
pause_runs {image = image} {r = r} {m = m} i bytes f e =
    subst (λ (k : Machine). Runs image 1 (Trail r m) (machine.Paused k)) (ap (λ x. let k : Machine = record { bytes = bytes; marks = x } in k) (append-nil m.marks)) (did i (Pauses bytes []) f e)

-- ---- between two turns

module _ (laws : BuiltLaws) (image : Image) (P : Plan) (width : ℕ → ℕ) (K : Kernel) (compiled : Compiled image P width K) where
  pub comes_to_rest : {outer : List Frame} {d : Part} (q : Residual) (w : World) (m : Machine) (start n : ℕ) (old new : List ℕ) (gate : Gate) → Reached K outer d → n ≤ 1000000 → Runs image n (Trail (trail_at image start 0) m) (machine.Paused (rewritten new m))
      → MemoryHolds image P width K w old → AllCount (tables P width K) image (view image old) outer → GateSet image gate old new
      → ((high : ℕ) → part_gates P d ≤ high → high ≤ image.gates → views.Free (view image new) 1 image.gates → gate_seen image new 0 ≡ gate → Stands (tables P width K) (home image) (view image new) q Program 0 high)
      → ComesToRest image P width K w (trail_at image start 0) m (filled outer q) w
  comes_to_rest {outer} {d} q w m start n old new gate x le runs holds counts s leaf =
      let some = (gates_of laws image P width K compiled x).0 in
      let numbers = set_numbers image gate old new some s in
      let others = set_others image gate old new some s holds.free in
      record {
        after = rewritten new m;
        reaches = reaches_by le runs;
        marks = record { added = []; semantics = sym (append-nil w.marks); machine = sym (append-nil m.marks) };
        fits = record { size = s.size ∙ holds.fits.size; memory = holds.fits.memory; code = holds.fits.code };
        are_bytes = s.are_bytes;
        stands = record {
          home = home image;
          memory = record {
            program = refl;
            tree = left_stands laws image P width K compiled (view image new) others x q (λ high a b. leaf high a b others (set_seen image gate old new some s))
                (counts_stay (tables P width K) image (view image old) (view image new) outer numbers counts);
            values = values_stay (tables P width K) (home image) w (view image old) (view image new) numbers holds.values;
            given = number_agrees 4 new old 4 (λ i y z. s.outside i (inl (omega arith))) ∙ holds.given_is;
          };
          state_is = number_agrees 2 new old 0 (λ i y z. s.outside i (inl (omega arith))) ∙ holds.state_is;
          top_is = number_agrees 2 new old 2 (λ i y z. s.outside i (inl (omega arith))) ∙ holds.top_is;
        };
      }
