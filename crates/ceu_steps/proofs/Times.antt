-- A trail that waits for a time.
use Rattle.std.proofs.Common.{◌≡◌, refl, sym, ap, ◌∙◌, subst, ◌<◌, ◌≤◌, ℕ, ◌+◌, ◌^◌, ℤ, pos, negsuc, ◌*ℤ◌, Bool, true, ◌&&◌, List, [], ◌∷◌, length, Option, Some, None, Ok, Err, arith}
use Rattle.std.specs.Prelude.{not, ◌||◌, if◌then◌else◌}
use Rattle.std.proofs.lemmas.Bool.{lt-ltb, and_parts, false≢true}
use Rattle.ceu_base.specs.declared.kinds.Pos.{Pos}
use Rattle.ceu_base.specs.declared.kinds.Ty.{Ty}
use Rattle.ceu_base.specs.declared.kinds.Ty.TheVariants as ty
use Rattle.ceu_base.specs.Values.{IsValue}
use Rattle.ceu_code.specs.declared.image.Image.{Image}
use Rattle.ceu_code.specs.declared.instr.Instr.TheVariants as instr
use Rattle.ceu_code.specs.declared.instr.TimeUnit.{TimeUnit}
use Rattle.ceu_code.specs.Instructions.{cell, size}
use Rattle.ceu_mem.specs.declared.gate.Gate.{Gate}
use Rattle.ceu_mem.specs.Bytes.{number_at}
use Rattle.ceu_mem.specs.Memory.{IsGate}
use Rattle.ceu_isa.specs.Layout.{on_time, cell_at, gate_of, gate_changed}
use Rattle.ceu_isa.specs.Fetching.{fetched}
use Rattle.ceu_isa.specs.Effects.{Pauses, provided, for_some}
use Rattle.ceu_isa.specs.Cells.{Popped}
use Rattle.ceu_isa.specs.Rows.{effect}
use Rattle.ceu_isa.specs.Trails as trails
use Rattle.ceu_isa.specs.Trails.{kept_until, pause, unit_time}
use Rattle.ceu_isa.specs.Turns.{Machine, rewritten}
use Rattle.laws_machine_code.specs.Placed.{Placed}
use Rattle.laws_machine_code.specs.Seen.{NodePlaced}
use Rattle.laws_machine_code.proofs.Steps.{pops}
use Rattle.laws_meaning_values.specs.Results.{IsResult}
use Rattle.laws_meaning_values.proofs.Operators.{held_value}
use Rattle.laws_meaning_values.proofs.Results.{results_are_values}
use Rattle.ceu_tree.specs.declared.kernel.Kernel.{Kernel}
use Rattle.ceu_tree.specs.declared.kernel.KExp.{KExp}
use Rattle.ceu_tree.specs.declared.kernel.KNode.{KNode}
use Rattle.ceu_tree.specs.declared.kernel.KBlock.{KBlock}
use Rattle.ceu_tree.specs.declared.kernel.KStmt.{out-KStmt, AwaitTime}
use Rattle.ceu_tree.specs.declared.kernel.KStmt.TheOpen.{KStmt-F}
use Rattle.ceu_tree.specs.declared.kernel.Loc.{Loc}
use Rattle.ceu_tree.specs.declared.kernel.Unit.{Unit as KernelUnit}
use Rattle.ceu_tree.specs.declared.kernel.Unit.TheVariants as unit
use Rattle.ceu_tree.specs.Depth.{stmt_depth, exp_depth}
use Rattle.ceu_tree.specs.Expressions.{Answer, value_of}
use Rattle.ceu_tree.specs.Leaf as does
use Rattle.ceu_tree.specs.Leaf.{acted, or_fails, microseconds}
use Rattle.ceu_tree.specs.Proper.{Scope, is_trail, reads, asks, takes_if, time_ok, is_time_literal, stmt_ok}
use Rattle.ceu_tree.specs.Residual.{Program, Start, WaitTime, no_instance}
use Rattle.ceu_tree.specs.Focus.{Frame, OfBlock, Here, In}
use Rattle.ceu_tree.specs.Around.{Moved}
use Rattle.ceu_tree.specs.Step.{stepped}
use Rattle.ceu_tree.specs.Typing.{typed, is_amount, is_open, same_ty, holds_all}
use Rattle.ceu_tree.specs.World.{World}
use Rattle.laws_meaning_basics.specs.Shape.{block_scope}
use Rattle.laws_meaning_basics.proofs.Static.{names_of}
use Rattle.ceu_shape.specs.Flow.{time_unit}
use Rattle.ceu_shape.specs.Plans.{Plan, own_label, end_label}
use Rattle.ceu_shape.specs.Words.{mark}
use Rattle.ceu_shape.specs.Shape.{parts_draft, exp_part}
use Rattle.laws_meaning_values.specs.Ready.{layer_has, exp_has}
use Rattle.laws_machine_layout.specs.Stands.{Stands}
use Rattle.laws_machine_layout.specs.Views as views
use Rattle.laws_machine_layout.specs.Views.{View, view, Keeps}
use Rattle.ceu_trail.specs.Built.{at_label, number, StatementBuilt}
use Rattle.ceu_trail.specs.Compiled.{Compiled}
use Rattle.ceu_trail.specs.Coming.{Comes}
use Rattle.ceu_trail.specs.Parts.{GatesAt}
use Rattle.ceu_trail.specs.Tables.{tables}
use Rattle.ceu_trail.specs.Turning.{home}
use Rattle.ceu_within.proofs.Leaf.{exp_reads}
use Rattle.ceu_steps.specs.Running.{trail_at}
use Rattle.ceu_steps.specs.Ready.{Evaluated}
use Rattle.ceu_steps.specs.Premises.{BuiltLaws, LayerPlaced}
use Rattle.ceu_steps.specs.Reached.{wrap}
use Rattle.ceu_steps.specs.Live.{vars_in}
use Rattle.ceu_steps.proofs.Assigns.{front}
use Rattle.ceu_steps.proofs.Awaits.{old_gate}
use Rattle.ceu_steps.proofs.Expressions.{expression_runs}
use Rattle.ceu_steps.proofs.Frames.{waits_is}
use Rattle.ceu_steps.proofs.Lines.{lies_in}
use Rattle.ceu_steps.proofs.Rests.{gate_set, move_runs, pause_runs, comes_to_rest}
use Rattle.ceu_steps.proofs.Ticks.{onward}
use Rattle.ceu_steps.proofs.Turns.{AtStart, reached, among, gates, some_gate, stops, scene, fine, deep, cells, positions, is_ready, counts_stay, fault_comes}
use Rattle.ceu_steps.proofs.Unseen.{holds_unseen, unseen_numbers}
use denote.Hole.Carrier

-- ---- times

same_unit : (u : KernelUnit) → unit_time (time_unit u) ≡ microseconds u
same_unit unit.H = refl
same_unit unit.Min = refl
same_unit unit.S = refl
same_unit unit.Ms = refl
same_unit unit.Us = refl

same_clamp : (z : ℤ) → trails.clamped z ≡ does.clamped z
same_clamp (pos n) = omega arith
same_clamp (negsuc n) = refl

clamp_small : (z : ℤ) → trails.clamped z < 2 ^ 64
clamp_small (pos n) = omega arith
clamp_small (negsuc n) = omega arith

amount_fits : (t : Ty) → is_amount t ≡ true → holds_all ty.S64 t ≡ true
amount_fits ty.None h = absurd (false≢true h)
amount_fits ty.Bool h = absurd (false≢true h)
amount_fits ty.U8 h = refl
amount_fits ty.S8 h = refl
amount_fits ty.U16 h = refl
amount_fits ty.S16 h = refl
amount_fits ty.U32 h = refl
amount_fits ty.S32 h = refl
amount_fits ty.U64 h = absurd (false≢true h)
amount_fits ty.S64 h = refl

wait_time_effect : (image : Image) (u : TimeUnit) (v : ℤ) (at : ℕ) (bytes : List ℕ) → IsValue ty.S64 v → number_at 8 bytes (cell_at 0) ≡ cell v → 0 < image.depth → 1 ≤ image.gates
    → effect image (instr.WaitTime u) (trail_at image at 1) bytes ≡ Pauses (gate_changed image (kept_until (trails.clamped (v *ℤ pos (unit_time u))) (trail_at image at 0)) 0 bytes) []
unfolding effect
wait_time_effect image u v at bytes ok holds lt some =
    ap (λ (o : Option Popped). for_some o (λ a. pause image (kept_until (trails.clamped (a.value *ℤ pos (unit_time u))) a.registers) a.registers bytes)) (pops image ty.S64 v 0 (trail_at image at 1) bytes (λ e. absurd (cc)) ok holds lt refl)
    ∙ ap (λ (b : Bool). provided b (Pauses (gate_changed image (kept_until (trails.clamped (v *ℤ pos (unit_time u))) (trail_at image at 0)) 0 bytes) [])) (lt-ltb 0 image.gates (omega arith))

module _ (laws : BuiltLaws) (image : Image) (P : Plan) (width : ℕ → ℕ) (K : Kernel) (compiled : Compiled image P width K) where
  time_does : (n : ℕ) (p : Pos) (e : KExp) (u : KernelUnit) (t : Option Loc) (w : World) (a : Answer) → let s : KNode = record { node = n; pos = p; stmt = AwaitTime e u t } in
      value_of e Program w ≡ a → acted K 0 Program (Start s) w ≡ or_fails a w (λ v. does.done (does.Waits (WaitTime (does.clamped (v *ℤ pos (microseconds u))) s)) w)
  unfolding out-KStmt Carrier.out
  time_does n p e u t w a q = ap (λ (x : Answer). or_fails x w (λ v. does.done (does.Waits (WaitTime (does.clamped (v *ℤ pos (microseconds u))) (record { node = n; pos = p; stmt = AwaitTime e u t }))) w)) q

  pub record TimeLines (n : ℕ) (e : KExp) (u : KernelUnit) : Type 0 where
    pub fresh : ℕ
    pub moves : fetched image (at_label image P K (own_label n)) ≡ Some (instr.Move (P.first n))
    pub goes : fetched image (at_label image P K (own_label n) + 3) ≡ Some (instr.Jump (at_label image P K fresh))
    pub back : at_label image P K (fresh + 1) ≡ at_label image P K (own_label n) + 3 + 3
    pub waits : fetched image (at_label image P K (own_label n) + 3 + 3) ≡ Some (instr.WaitTime (time_unit u))
    pub begins : ℕ
    pub part : Placed image (at_label image P K) begins ((exp_part P K fresh e (fresh + 2)).lines (number image P K))

  time_lines : (n : ℕ) (p : Pos) (e : KExp) (u : KernelUnit) (t : Option Loc) → StatementBuilt image P K (record { node = n; pos = p; stmt = AwaitTime e u t }) → TimeLines n e u
  unfolding parts_draft
  time_lines n p e u None built = record {
    fresh = built.fresh;
    moves = built.lines.1.0;
    goes = built.lines.1.1.0;
    back = built.lines.1.1.1.0;
    waits = built.lines.1.1.1.1.0;
    begins = at_label image P K (own_label n) + 3 + 3 + 2 + 3;
    part = front image (at_label image P K) (at_label image P K (own_label n) + 3 + 3 + 2 + 3) ((exp_part P K built.fresh e (built.fresh + 2)).lines (number image P K)) (mark (end_label n) ∷ []) built.lines.1.1.1.1.1.1;
  }
  time_lines n p e u (Some l) built = record {
    fresh = built.fresh;
    moves = built.lines.1.0;
    goes = built.lines.1.1.0;
    back = built.lines.1.1.1.0;
    waits = built.lines.1.1.1.1.0;
    begins = at_label image P K (own_label n) + 3 + 3 + 2 + 2 + size (if l.outer then instr.StoreOuter l.ty (P.offset l.slot) else instr.Store l.ty (P.offset l.slot)) + 3;
    part = front image (at_label image P K) (at_label image P K (own_label n) + 3 + 3 + 2 + 2 + size (if l.outer then instr.StoreOuter l.ty (P.offset l.slot) else instr.Store l.ty (P.offset l.slot)) + 3)
        ((exp_part P K built.fresh e (built.fresh + 2)).lines (number image P K)) (mark (end_label n) ∷ []) built.lines.1.1.1.1.1.1.1.1;
  }

  time_typed : (sc : Scope) (n : ℕ) (e : KExp) (u : KernelUnit) (t : Option Loc) → stmt_ok K (names_of K) sc n (AwaitTime e u t) ≡ true → (typed (reads K sc) (asks K sc) e ≡ true) × (is_amount e.ty ≡ true)
  unfolding stmt_ok
  time_typed sc n e u t h =
      let a = (and_parts (is_trail sc.place) (time_ok K sc e u) (and_parts (is_trail sc.place && time_ok K sc e u) (takes_if K sc ty.S32 t) h).0).1 in
      let b = (and_parts (typed (reads K sc) (asks K sc) e && is_amount e.ty) (not (is_open e) || same_ty e.ty ty.S32 || is_time_literal K e u) a).0 in
      and_parts (typed (reads K sc) (asks K sc) e) (is_amount e.ty) b

  time_has : (e : KExp) (u : KernelUnit) (t : Option Loc) (w : World) → layer_has Program w (out-KStmt (AwaitTime e u t)) ≡ true → exp_has Program w e ≡ true
  unfolding out-KStmt Carrier.out
  time_has e u t w h = h

  time_deep : (e : KExp) (u : KernelUnit) (t : Option Loc) → stmt_depth (AwaitTime e u t) ≡ exp_depth e
  unfolding stmt_depth
  time_deep e u t = refl

  time_placed : (p : Pos) (e : KExp) (u : KernelUnit) (t : Option Loc) → LayerPlaced image (number image P K) p (out-KStmt (AwaitTime e u t)) → NodePlaced image (number image P K) e.node e.pos
  unfolding out-KStmt Carrier.out
  time_placed p e u t h = h

  is_time : (e : KExp) (u : KernelUnit) (t : Option Loc) → out-KStmt (AwaitTime e u t) ≡ KStmt-F.AwaitTime e u t
  unfolding out-KStmt Carrier.out
  is_time e u t = refl

  time_leaf : (s : KNode) (d : ℕ) (v : View) (gate : Gate) (high : ℕ) → GatesAt image P s.node → P.count s.node ≤ high → views.Free v 1 image.gates → high ≤ image.gates → v.gate 0 ≡ gate → Keeps (home image Program) on_time ((tables P width K).resumed s.node) gate
      → gate.value ≡ d → Stands (tables P width K) (home image) v (WaitTime d s) Program 0 high
  unfolding Stands
  time_leaf s d v gate high g le others top e keeps value = record {
    some_gate = omega (arith, g.some, le);
    first_is = omega (arith, g.first_is);
    gate_is = subst (λ (x : Gate). Keeps (home image Program) on_time ((tables P width K).resumed s.node) x × (x.value ≡ d)) (sym e) (keeps, value);
    others = record { free_at = λ i x y. others.free_at i x (omega arith) };
  }

  module _ {outer : List Frame} {turn : Bool} {sc : Scope} {b : KBlock} {done rest : List KNode} (n : ℕ) (p : Pos) (e : KExp) (u : KernelUnit) (t : Option Loc) (w : World) (at : ℕ) (m : Machine)
      (h : AtStart image P width K outer turn sc b done rest (record { node = n; pos = p; stmt = AwaitTime e u t }) w at m) where
    abbrev this : KNode
    this = record { node = n; pos = p; stmt = AwaitTime e u t }

    ok : (typed (reads K (block_scope sc b)) (asks K (block_scope sc b)) e ≡ true) × (is_amount e.ty ≡ true)
    ok = time_typed (block_scope sc b) n e u t (fine laws image P width K compiled h.spot)

    is_s64 : (v : ℤ) → value_of e Program w ≡ Ok v → IsValue ty.S64 v
    is_s64 v q =
        let s = scene laws image P width K compiled h.spot in
        held_value ty.S64 e.ty v (amount_fits e.ty ok.1)
        (subst (IsResult e.ty) q (results_are_values (reads K (block_scope sc b)) (asks K (block_scope sc b)) Program w e ok.0 (exp_reads K (block_scope sc b) (vars_in (OfBlock b [] no_instance rest ∷ outer)) s.scope s.once w h.held e ok.0)))

    evaluated : (x : TimeLines n e u) → Evaluated image m (at_label image P K (own_label n) + 3) (value_of e Program w)
    evaluated x =
        expression_runs image P width K w m e x.fresh (x.fresh + 2) (at_label image P K (own_label n) + 3) x.begins h.stands.memory (some_gate laws image P width K compiled h.spot)
        (is_ready laws image P width K compiled h.spot w m.bytes e h.held h.stands.memory ok.0 (time_has e u t w h.has) (let a = deep laws image P width K compiled h.spot in let q = time_deep e u t in omega arith)
        (time_placed p e u t (positions laws image P width K compiled h.spot)))
        x.goes x.back x.part

    pub time_comes : let v = stepped K 0 Program (wrap outer (In (OfBlock b [] no_instance rest) (Here (Start this)))) w in Comes image P width K w (trail_at image at 0) m v.outcome v.world
    time_comes =
        let x = time_lines n p e u t (among laws image P width K compiled h.spot).built in
        subst (λ (j : ℕ). let v = stepped K 0 Program (wrap outer (In (OfBlock b [] no_instance rest) (Here (Start this)))) w in Comes image P width K w (trail_at image j 0) m v.outcome v.world) (sym h.stands.place)
        (by_answer x (value_of e Program w) refl (evaluated x))
      where
        by_answer : (x : TimeLines n e u) (a : Answer) → value_of e Program w ≡ a → Evaluated image m (at_label image P K (own_label n) + 3) a
            → let v = stepped K 0 Program (wrap outer (In (OfBlock b [] no_instance rest) (Here (Start this)))) w in Comes image P width K w (trail_at image (at_label image P K (own_label n)) 0) m v.outcome v.world
        by_answer x (Ok v) q y =
            let some = some_gate laws image P width K compiled h.spot in
            let g = gates laws image P width K compiled h.spot in
            let there : at_label image P K (own_label n) + 3 + 3 + 2 ≤ length image.code = lies_in image (at_label image P K (own_label n) + 3 + 3) (instr.WaitTime (time_unit u)) x.waits in
            let code = compiled.short in
            let room = compiled.memory in
            let memory = holds_unseen image P width K w m.bytes y.after y.unseen h.stands.memory in
            let old = old_gate image y.after 0 memory.are_bytes in
            let time : ℕ = trails.clamped (v *ℤ pos (unit_time (time_unit u))) in
            let ok_gate : IsGate (kept_until (trails.clamped (v *ℤ pos (unit_time (time_unit u)))) (trail_at image (at_label image P K (own_label n) + 3 + 3 + 2) 0) (gate_of image y.after 0)) =
            record { kind = omega arith; level = old.level; code = omega (arith, there, code); frame = omega (arith, room); base = omega arith; key = old.key; value = clamp_small (v *ℤ pos (unit_time (time_unit u))) } in
            let new : List ℕ = gate_changed image (kept_until (trails.clamped (v *ℤ pos (unit_time (time_unit u)))) (trail_at image (at_label image P K (own_label n) + 3 + 3 + 2) 0)) 0 y.after in
            let set = gate_set image (kept_until (trails.clamped (v *ℤ pos (unit_time (time_unit u)))) (trail_at image (at_label image P K (own_label n) + 3 + 3 + 2) 0)) y.after memory.are_bytes ok_gate some memory.fits.size in
            let wait = pause_runs {r = trail_at image (at_label image P K (own_label n) + 3 + 3) 1} {m = rewritten y.after m} (instr.WaitTime (time_unit u))
            (gate_changed image (kept_until (trails.clamped (v *ℤ pos (unit_time (time_unit u)))) (trail_at image (at_label image P K (own_label n) + 3 + 3 + 2) 0)) 0 y.after) x.waits
            (wait_time_effect image (time_unit u) v (at_label image P K (own_label n) + 3 + 3 + 2) y.after (is_s64 v q) y.holds (cells laws image P width K compiled h.spot) some) in
            let stop = (stops laws image P width K compiled h.spot).at_time e u t (is_time e u t) in
            let same : trails.clamped (v *ℤ pos (unit_time (time_unit u))) ≡ does.clamped (v *ℤ pos (microseconds u)) = same_clamp (v *ℤ pos (unit_time (time_unit u))) ∙ ap (λ (k : ℕ). does.clamped (v *ℤ pos k)) (same_unit u) in
            subst (λ (z : Moved). Comes image P width K w (trail_at image (at_label image P K (own_label n)) 0) m z.outcome z.world)
            (sym (waits_is (Start this) w w (WaitTime (does.clamped (v *ℤ pos (microseconds u))) this) (reached laws image P width K compiled h.spot) (time_does n p e u t w (Ok v) q)))
            (comes_to_rest laws image P width K compiled (WaitTime (does.clamped (v *ℤ pos (microseconds u))) this) w m (at_label image P K (own_label n)) (1 + (65540 + 1)) y.after new
            (kept_until (trails.clamped (v *ℤ pos (unit_time (time_unit u)))) (trail_at image (at_label image P K (own_label n) + 3 + 3 + 2) 0) (gate_of image y.after 0))
            (reached laws image P width K compiled h.spot) (omega arith) (onward (move_runs (P.first n) x.moves g.first_is some) (onward y.runs wait)) memory
            (counts_stay (tables P width K) image (view image m.bytes) (view image y.after) (OfBlock b [] no_instance rest ∷ outer) (unseen_numbers image m.bytes y.after y.unseen) h.stands.counts) set
            (λ high le top others seen. time_leaf this (does.clamped (v *ℤ pos (microseconds u))) (view image new)
            (kept_until (trails.clamped (v *ℤ pos (unit_time (time_unit u)))) (trail_at image (at_label image P K (own_label n) + 3 + 3 + 2) 0) (gate_of image y.after 0)) high g le others top seen
            (record { kind_is = refl; code_is = omega (arith, stop); frame_is = refl; base_is = refl }) same))
        by_answer x (Err z) q y =
            let g = gates laws image P width K compiled h.spot in
            let some = some_gate laws image P width K compiled h.spot in
            fault_comes laws image P width K compiled (Start this) w m (at_label image P K (own_label n)) (1 + 65540) z (omega arith) (reached laws image P width K compiled h.spot) (time_does n p e u t w (Err z) q)
            (record { after = y.after; runs = onward (move_runs (P.first n) x.moves g.first_is some) y.runs; marks = y.marks })
