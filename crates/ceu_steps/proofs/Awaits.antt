-- A trail that waits for an input, or for ever.
use Rattle.std.proofs.Common.{◌≡◌, refl, sym, ap, ◌∙◌, subst, ◌<◌, ◌≤◌, ℕ, ◌+◌, Bool, true, List, [], ◌∷◌, length, Option, Some, arith}
use Rattle.std.proofs.lemmas.Bool.{lt-ltb, and_parts}
use Rattle.std.proofs.lemmas.Option.{slice_get_within}
use Rattle.ceu_base.specs.declared.kinds.Pos.{Pos}
use Rattle.ceu_base.specs.declared.kinds.Ty.{Ty}
use Rattle.ceu_code.specs.declared.image.Image.{Image}
use Rattle.ceu_code.specs.declared.instr.Instr.TheVariants as instr
use Rattle.ceu_mem.specs.declared.gate.Gate.{Gate}
use Rattle.ceu_mem.specs.Memory.{IsGate}
use Rattle.ceu_isa.specs.declared.registers.Registers.{Registers}
use Rattle.ceu_isa.specs.Layout.{on_input, forever, gates_at, gate_of, gate_changed}
use Rattle.ceu_isa.specs.Fetching.{fetched}
use Rattle.ceu_isa.specs.Effects.{Pauses, provided}
use Rattle.ceu_isa.specs.Rows.{effect}
use Rattle.ceu_isa.specs.Trails.{kept, kept_for}
use Rattle.ceu_isa.specs.Turns.{Machine}
use Rattle.ceu_tree.specs.declared.kernel.Kernel.{Kernel}
use Rattle.ceu_tree.specs.declared.kernel.KNode.{KNode}
use Rattle.ceu_tree.specs.declared.kernel.KBlock.{KBlock}
use Rattle.ceu_tree.specs.declared.kernel.KStmt.{out-KStmt, AwaitIn, Forever}
use Rattle.ceu_tree.specs.declared.kernel.KStmt.TheOpen.{KStmt-F}
use Rattle.ceu_tree.specs.declared.kernel.Loc.{Loc}
use Rattle.ceu_tree.specs.Leaf as does
use Rattle.ceu_tree.specs.Leaf.{acted}
use Rattle.ceu_tree.specs.Proper.{Scope, is_trail, port_ty, on_ty, takes_if, stmt_ok}
use Rattle.ceu_tree.specs.Residual.{Program, Start, WaitInput, WaitForever, no_instance}
use Rattle.ceu_tree.specs.Focus.{Frame, OfBlock, Here, In}
use Rattle.ceu_tree.specs.Around.{Moved, Rests}
use Rattle.ceu_tree.specs.Step.{stepped}
use Rattle.ceu_tree.specs.Weight.{weight}
use Rattle.ceu_tree.specs.World.{World}
use Rattle.laws_meaning_basics.specs.Shape.{block_scope}
use Rattle.laws_meaning_basics.proofs.Static.{names_of}
use Rattle.ceu_shape.specs.Plans.{Plan, own_label}
use Rattle.ceu_shape.specs.Shape.{parts_draft}
use Rattle.laws_machine_layout.specs.Laws.{AreBytes}
use Rattle.laws_machine_layout.specs.Stands.{Stands}
use Rattle.laws_machine_layout.specs.Views as views
use Rattle.laws_machine_layout.specs.Views.{View, view, gate_seen, Keeps}
use Rattle.laws_machine_layout.proofs.Gates.{is_gate}
use Rattle.ceu_trail.specs.Built.{at_label, StatementBuilt}
use Rattle.ceu_trail.specs.Compiled.{Compiled}
use Rattle.ceu_trail.specs.Coming.{Comes}
use Rattle.ceu_trail.specs.Parts.{GatesAt}
use Rattle.ceu_trail.specs.Tables.{tables}
use Rattle.ceu_trail.specs.Turning.{home}
use Rattle.ceu_steps.specs.Running.{trail_at}
use Rattle.ceu_steps.specs.Premises.{BuiltLaws}
use Rattle.ceu_steps.specs.Reached.{wrap, filled}
use Rattle.ceu_steps.proofs.Ticks.{onward}
use Rattle.ceu_steps.proofs.Frames.{waits_is}
use Rattle.ceu_steps.proofs.Lines.{lies_in}
use Rattle.ceu_steps.proofs.Outs.{port_at, port_of}
use Rattle.ceu_steps.proofs.Rests.{gate_set, move_runs, pause_runs, comes_to_rest}
use Rattle.ceu_steps.proofs.Turns.{AtStart, reached, among, gates, some_gate, stops, fine}
use denote.Hole.Carrier

pub old_gate : (image : Image) (bytes : List ℕ) (g : ℕ) → AreBytes bytes → IsGate (gate_of image bytes g)
unfolding gate_of
old_gate image bytes g h = is_gate (gates_at image) bytes g h

-- there are few inputs
pub few_inputs : (K : Kernel) → weight K ≤ 65535 → length K.inputs ≤ 65535
unfolding weight
few_inputs K h = omega (arith, h)

pub wait_input_effect : (image : Image) (k : ℕ) (r : Registers) (bytes : List ℕ) → r.own ≡ 0 → 1 ≤ image.gates → effect image (instr.WaitInput k) r bytes ≡ Pauses (gate_changed image (kept_for on_input k r) 0 bytes) []
unfolding effect
wait_input_effect image k r bytes e some =
    ap (λ (b : Bool). provided b (Pauses (gate_changed image (kept_for on_input k r) r.own bytes) [])) (lt-ltb r.own image.gates (omega (arith, e)))
    ∙ ap (λ (o : ℕ). Pauses (gate_changed image (kept_for on_input k r) o bytes) []) e

pub wait_forever_effect : (image : Image) (r : Registers) (bytes : List ℕ) → r.own ≡ 0 → 1 ≤ image.gates → effect image instr.WaitForever r bytes ≡ Pauses (gate_changed image (kept forever r) 0 bytes) []
unfolding effect
wait_forever_effect image r bytes e some =
    ap (λ (b : Bool). provided b (Pauses (gate_changed image (kept forever r) r.own bytes) [])) (lt-ltb r.own image.gates (omega (arith, e)))
    ∙ ap (λ (o : ℕ). Pauses (gate_changed image (kept forever r) o bytes) []) e

module _ (laws : BuiltLaws) (image : Image) (P : Plan) (width : ℕ → ℕ) (K : Kernel) (compiled : Compiled image P width K) where
  -- ---- inputs

  await_does : (n : ℕ) (p : Pos) (k : ℕ) (t : Option Loc) (w : World) → let s : KNode = record { node = n; pos = p; stmt = AwaitIn k t } in acted K 0 Program (Start s) w ≡ does.done (does.Waits (WaitInput k s)) w
  unfolding out-KStmt Carrier.out
  await_does n p k t w = refl

  await_ok : (sc : Scope) (n k : ℕ) (t : Option Loc) → stmt_ok K (names_of K) sc n (AwaitIn k t) ≡ true → (u : Ty) × (port_ty K k K.inputs ≡ Some u) × (takes_if K sc u t ≡ true)
  unfolding stmt_ok
  await_ok sc n k t h = port_of K (port_ty K k K.inputs) (λ u. takes_if K sc u t) (and_parts (is_trail sc.place) (on_ty K (port_ty K k K.inputs) (λ u. takes_if K sc u t)) h).1

  await_lines : (n : ℕ) (p : Pos) (k : ℕ) (t : Option Loc) → StatementBuilt image P K (record { node = n; pos = p; stmt = AwaitIn k t })
      → (fetched image (at_label image P K (own_label n)) ≡ Some (instr.Move (P.first n))) × (fetched image (at_label image P K (own_label n) + 3) ≡ Some (instr.WaitInput k))
  unfolding parts_draft
  await_lines n p k t built = (built.lines.1.0, built.lines.1.1.0)

  is_await : (k : ℕ) (t : Option Loc) → out-KStmt (AwaitIn k t) ≡ KStmt-F.AwaitIn k t
  unfolding out-KStmt Carrier.out
  is_await k t = refl

  await_leaf : (n : ℕ) (p : Pos) (k : ℕ) (t : Option Loc) (v : View) (gate : Gate) (high : ℕ) → let s : KNode = record { node = n; pos = p; stmt = AwaitIn k t } in
      GatesAt image P n → P.count n ≤ high → views.Free v 1 image.gates → high ≤ image.gates → v.gate 0 ≡ gate → Keeps (home image Program) on_input ((tables P width K).resumed n) gate → gate.key ≡ k
      → Stands (tables P width K) (home image) v (WaitInput k s) Program 0 high
  unfolding Stands
  await_leaf n p k t v gate high g le others top e keeps key = record {
    some_gate = omega (arith, g.some, le);
    first_is = omega (arith, g.first_is);
    gate_is = subst (λ (x : Gate). Keeps (home image Program) on_input ((tables P width K).resumed n) x × (x.key ≡ k)) (sym e) (keeps, key);
    others = record { free_at = λ i x y. others.free_at i x (omega arith) };
  }

  pub await_comes : {outer : List Frame} {turn : Bool} {sc : Scope} {b : KBlock} {done rest : List KNode} (n : ℕ) (p : Pos) (k : ℕ) (t : Option Loc) (w : World) (at : ℕ) (m : Machine)
      → AtStart image P width K outer turn sc b done rest (record { node = n; pos = p; stmt = AwaitIn k t }) w at m
      → let v = stepped K 0 Program (wrap outer (In (OfBlock b [] no_instance rest) (Here (Start (record { node = n; pos = p; stmt = AwaitIn k t }))))) w in Comes image P width K w (trail_at image at 0) m v.outcome v.world
  await_comes {outer = outer} {sc = sc} {b = b} {rest = rest} n p k t w at m h =
      let s : KNode = record { node = n; pos = p; stmt = AwaitIn k t } in
      let some = some_gate laws image P width K compiled h.spot in
      let g = gates laws image P width K compiled h.spot in
      let lines = await_lines n p k t (among laws image P width K compiled h.spot).built in
      let own : ℕ = at_label image P K (own_label n) in
      let ok = await_ok (block_scope sc b) n k t (fine laws image P width K compiled h.spot) in
      let port = port_at K k K.inputs ok.0 ok.1 in
      let below : k < length K.inputs = slice_get_within K.inputs k port.port port.there in
      let few : length K.inputs ≤ 65535 = few_inputs K compiled.light in
      let there : at_label image P K (own_label n) + 3 + 3 ≤ length image.code = lies_in image (at_label image P K (own_label n) + 3) (instr.WaitInput k) lines.1 in
      let code = compiled.short in
      let memory = compiled.memory in
      let r : Registers = trail_at image (at_label image P K (own_label n) + 3 + 3) 0 in
      let old = old_gate image m.bytes 0 h.stands.memory.are_bytes in
      let ok_gate : IsGate (kept_for on_input k (trail_at image (at_label image P K (own_label n) + 3 + 3) 0) (gate_of image m.bytes 0)) =
      record { kind = omega arith; level = old.level; code = omega (arith, there, code); frame = omega (arith, memory); base = omega arith; key = omega (arith, below, few); value = old.value } in
      let new : List ℕ = gate_changed image (kept_for on_input k (trail_at image (at_label image P K (own_label n) + 3 + 3) 0)) 0 m.bytes in
      let set = gate_set image (kept_for on_input k (trail_at image (at_label image P K (own_label n) + 3 + 3) 0)) m.bytes h.stands.memory.are_bytes ok_gate some h.stands.memory.fits.size in
      let wait = pause_runs {r = trail_at image (at_label image P K (own_label n) + 3) 0} {m = m} (instr.WaitInput k) (gate_changed image (kept_for on_input k (trail_at image (at_label image P K (own_label n) + 3 + 3) 0)) 0 m.bytes) lines.1
      (wait_input_effect image k (trail_at image (at_label image P K (own_label n) + 3 + 3) 0) m.bytes refl some) in
      let stop = (stops laws image P width K compiled h.spot).at_input k t (is_await k t) in
      subst (λ (v : Moved). Comes image P width K w (trail_at image at 0) m v.outcome v.world) (sym (waits_is (Start s) w w (WaitInput k s) (reached laws image P width K compiled h.spot) (await_does n p k t w)))
      (subst (λ (j : ℕ). Comes image P width K w (trail_at image j 0) m (Rests (filled (OfBlock b [] no_instance rest ∷ outer) (WaitInput k s))) w) (sym h.stands.place)
      (comes_to_rest laws image P width K compiled (WaitInput k s) w m (at_label image P K (own_label n)) 2 m.bytes new (kept_for on_input k (trail_at image (at_label image P K (own_label n) + 3 + 3) 0) (gate_of image m.bytes 0))
      (reached laws image P width K compiled h.spot) (omega arith) (onward (move_runs (P.first n) lines.0 g.first_is some) wait) h.stands.memory h.stands.counts set
      (λ high le top others seen. await_leaf n p k t (view image new) (kept_for on_input k (trail_at image (at_label image P K (own_label n) + 3 + 3) 0) (gate_of image m.bytes 0)) high g le others top seen
      (record { kind_is = refl; code_is = omega (arith, stop); frame_is = refl; base_is = refl }) refl)))

  -- ---- for ever

  forever_does : (n : ℕ) (p : Pos) (w : World) → let s : KNode = record { node = n; pos = p; stmt = Forever } in acted K 0 Program (Start s) w ≡ does.done (does.Waits (WaitForever s)) w
  unfolding out-KStmt Carrier.out
  forever_does n p w = refl

  forever_lines : (n : ℕ) (p : Pos) → StatementBuilt image P K (record { node = n; pos = p; stmt = Forever })
      → (fetched image (at_label image P K (own_label n)) ≡ Some (instr.Move (P.first n))) × (fetched image (at_label image P K (own_label n) + 3) ≡ Some instr.WaitForever)
  unfolding parts_draft
  forever_lines n p built = (built.lines.1.0, built.lines.1.1.0)

  is_forever : out-KStmt Forever ≡ KStmt-F.Forever
  unfolding out-KStmt Carrier.out
  is_forever = refl

  forever_leaf : (n : ℕ) (p : Pos) (v : View) (gate : Gate) (high : ℕ) → let s : KNode = record { node = n; pos = p; stmt = Forever } in
      GatesAt image P n → P.count n ≤ high → views.Free v 1 image.gates → high ≤ image.gates → v.gate 0 ≡ gate → Keeps (home image Program) forever ((tables P width K).resumed n) gate
      → Stands (tables P width K) (home image) v (WaitForever s) Program 0 high
  unfolding Stands
  forever_leaf n p v gate high g le others top e keeps = record {
    some_gate = omega (arith, g.some, le);
    first_is = omega (arith, g.first_is);
    gate_is = subst (λ (x : Gate). Keeps (home image Program) forever ((tables P width K).resumed n) x) (sym e) keeps;
    others = record { free_at = λ i x y. others.free_at i x (omega arith) };
  }

  pub forever_comes : {outer : List Frame} {turn : Bool} {sc : Scope} {b : KBlock} {done rest : List KNode} (n : ℕ) (p : Pos) (w : World) (at : ℕ) (m : Machine)
      → AtStart image P width K outer turn sc b done rest (record { node = n; pos = p; stmt = Forever }) w at m
      → let v = stepped K 0 Program (wrap outer (In (OfBlock b [] no_instance rest) (Here (Start (record { node = n; pos = p; stmt = Forever }))))) w in Comes image P width K w (trail_at image at 0) m v.outcome v.world
  forever_comes {outer = outer} {sc = sc} {b = b} {rest = rest} n p w at m h =
      let s : KNode = record { node = n; pos = p; stmt = Forever } in
      let some = some_gate laws image P width K compiled h.spot in
      let g = gates laws image P width K compiled h.spot in
      let lines = forever_lines n p (among laws image P width K compiled h.spot).built in
      let there : at_label image P K (own_label n) + 3 + 1 ≤ length image.code = lies_in image (at_label image P K (own_label n) + 3) instr.WaitForever lines.1 in
      let code = compiled.short in
      let memory = compiled.memory in
      let old = old_gate image m.bytes 0 h.stands.memory.are_bytes in
      let ok_gate : IsGate (kept forever (trail_at image (at_label image P K (own_label n) + 3 + 1) 0) (gate_of image m.bytes 0)) =
      record { kind = omega arith; level = old.level; code = omega (arith, there, code); frame = omega (arith, memory); base = omega arith; key = old.key; value = old.value } in
      let new : List ℕ = gate_changed image (kept forever (trail_at image (at_label image P K (own_label n) + 3 + 1) 0)) 0 m.bytes in
      let set = gate_set image (kept forever (trail_at image (at_label image P K (own_label n) + 3 + 1) 0)) m.bytes h.stands.memory.are_bytes ok_gate some h.stands.memory.fits.size in
      let wait = pause_runs {r = trail_at image (at_label image P K (own_label n) + 3) 0} {m = m} instr.WaitForever (gate_changed image (kept forever (trail_at image (at_label image P K (own_label n) + 3 + 1) 0)) 0 m.bytes) lines.1
      (wait_forever_effect image (trail_at image (at_label image P K (own_label n) + 3 + 1) 0) m.bytes refl some) in
      let stop = (stops laws image P width K compiled h.spot).at_forever is_forever in
      subst (λ (v : Moved). Comes image P width K w (trail_at image at 0) m v.outcome v.world) (sym (waits_is (Start s) w w (WaitForever s) (reached laws image P width K compiled h.spot) (forever_does n p w)))
      (subst (λ (j : ℕ). Comes image P width K w (trail_at image j 0) m (Rests (filled (OfBlock b [] no_instance rest ∷ outer) (WaitForever s))) w) (sym h.stands.place)
      (comes_to_rest laws image P width K compiled (WaitForever s) w m (at_label image P K (own_label n)) 2 m.bytes new (kept forever (trail_at image (at_label image P K (own_label n) + 3 + 1) 0) (gate_of image m.bytes 0))
      (reached laws image P width K compiled h.spot) (omega arith) (onward (move_runs (P.first n) lines.0 g.first_is some) wait) h.stands.memory h.stands.counts set
      (λ high le top others seen. forever_leaf n p (view image new) (kept forever (trail_at image (at_label image P K (own_label n) + 3 + 1) 0) (gate_of image m.bytes 0)) high g le others top seen
      (record { kind_is = refl; code_is = omega (arith, stop); frame_is = refl; base_is = refl }))))
