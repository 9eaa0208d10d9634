-- The part of an expression: the trail goes to it and comes back with its value, or the program has faulted.
use Rattle.std.proofs.Common.{◌≡◌, refl, sym, ap, ◌∙◌, subst, ◌<◌, ◌≤◌, ℕ, zero, suc, ◌+◌, ◌*◌, Bool, List, [], ◌∷◌, length, Some, Ok, Err, arith}
use Rattle.std.specs.Prelude.{if◌then◌else◌}
use Rattle.std.proofs.lemmas.Bool.{lt-ltb}
use Rattle.ceu_base.specs.declared.kinds.Fault.{Fault}
use Rattle.ceu_base.specs.declared.kinds.Pos.{Pos}
use Rattle.ceu_code.specs.declared.image.Image.{Image}
use Rattle.ceu_code.specs.declared.instr.Instr.TheVariants as instr
use Rattle.ceu_asm.specs.declared.line.Line.{Line}
use Rattle.ceu_asm.specs.Lines.{code_size}
use Rattle.ceu_isa.specs.declared.registers.Registers.{Registers}
use Rattle.ceu_isa.specs.Layout.{free, gates_at, gate_of}
use Rattle.ceu_isa.specs.Fetching.{fetched}
use Rattle.ceu_isa.specs.Turns.{Machine, State, Trail, rewritten, behind, failing}
use Rattle.laws_machine_code.specs.Placed.{Placed}
use Rattle.laws_machine_code.proofs.Lines.{parts_are_placed}
use Rattle.ceu_tree.specs.declared.kernel.Kernel.{Kernel}
use Rattle.ceu_tree.specs.declared.kernel.KExp.{KExp}
use Rattle.ceu_tree.specs.Expressions.{Answer, value_of}
use Rattle.ceu_tree.specs.Residual.{Program}
use Rattle.ceu_tree.specs.World.{World}
use Rattle.ceu_shape.specs.Plans.{Plan}
use Rattle.ceu_shape.specs.Words.{goto}
use Rattle.ceu_shape.specs.Expressions.{exp_draft}
use Rattle.ceu_shape.specs.Shape.{exp_part}
use Rattle.laws_machine_code.specs.Does.{steps_of, Gives}
use Rattle.laws_machine_code.proofs.Nodes.{expressions_evaluate}
use Rattle.laws_machine_code.proofs.Numbers.{number_agrees}
use Rattle.laws_machine_code.proofs.Ticks.{instructions_are_steps}
use Rattle.laws_machine_layout.specs.Views.{no_gate}
use Rattle.ceu_trail.specs.Built.{at_label, number}
use Rattle.ceu_trail.specs.Turning.{MemoryHolds}
use Rattle.ceu_steps.specs.Running.{Runs, trail_at}
use Rattle.ceu_steps.specs.Ready.{Ready, Breaks, Evaluated}
use Rattle.ceu_steps.proofs.Ticks.{onward, wider}
use Rattle.ceu_steps.proofs.Lines.{goto_runs, lies_in}
use Rattle.ceu_steps.proofs.Unseen.{kept_unseen}
use Rattle.ceu_steps.proofs.Evaluates.{Spares, does_spare}
use Rattle.ceu_steps.proofs.Sweeps.{fault_ends}

module _ (image : Image) (P : Plan) (width : ℕ → ℕ) (K : Kernel) where
  -- all gates are free
  pub gates_free : (w : World) (bytes : List ℕ) → MemoryHolds image P width K w bytes → (i : ℕ) → i < image.gates → (gate_of image bytes i).kind ≡ free
  gates_free w bytes m i lt = sym (ap (λ (b : Bool). (if b then gate_of image bytes i else no_gate).kind) (lt-ltb _ _ lt)) ∙ m.free.free_at i (omega arith) lt

  spared_free : (own : ℕ) (old new : List ℕ) (q : Registers) → Spares image own old q new → ((i : ℕ) → i < image.gates → (gate_of image old i).kind ≡ free) → (i : ℕ) → i < image.gates → (gate_of image new i).kind ≡ free
  unfolding gate_of
  spared_free own old new q s h i lt = number_agrees 1 new old (gates_at image + 19 * i) (λ j x y. s.gates j (omega arith) (omega arith)) ∙ h i lt

  -- a fault where the memory was spared
  pub breaks_at : {from : State} {n : ℕ} (m : Machine) (w : World) (k : Machine) (q : Registers) (f : Fault) (p : Pos) → MemoryHolds image P width K w m.bytes → 1 ≤ image.gates → Spares image 0 m.bytes q k.bytes → k.marks ≡ m.marks
      → Runs image n from (failing image f p q k) → Breaks image (n + 2) from m (f, p)
  breaks_at {from} {n} m w k q f p holds some spares same runs = go image.gates refl some
    where
      go : (g : ℕ) → image.gates ≡ g → 1 ≤ g → Breaks image (n + 2) from m (f, p)
      go zero e le = absurd (omega (arith, le))
      go (suc g) e le =
          let x = fault_ends image f p q k g e spares.own_is (spares.size ∙ holds.fits.size) (spared_free 0 m.bytes k.bytes q spares (gates_free w m.bytes holds)) in
          record { after = x.after; runs = onward runs x.runs; marks = x.marks ∙ same }

  module _ (w : World) (m : Machine) (holds : MemoryHolds image P width K w m.bytes) (some : 1 ≤ image.gates) (begin at pos end : ℕ) (goes : fetched image at ≡ Some (instr.Jump pos)) (back : at_label image P K (begin + 1) ≡ at + 3)
      (returns : fetched image end ≡ Some (instr.Jump (at_label image P K (begin + 1)))) where
    from_there : (a : Answer) → Gives image (trail_at image pos 0) m.bytes end a → Evaluated image m at a
    from_there (Ok v) g =
        let within : end + 3 ≤ length image.code = lies_in image end (instr.Jump (at_label image P K (begin + 1))) returns in
        let code : length image.code ≤ 65535 = holds.fits.code in
        let does : Runs image 65535 (Trail (trail_at image pos 0) m) (Trail (trail_at image end 1) (rewritten g.after m)) =
        record { count = steps_of g.does; few = omega (arith, within, code, g.few); comes = (instructions_are_steps image (trail_at image pos 0) m).0 (trail_at image end 1) g.after g.does } in
        let over : Runs image 1 (Trail (trail_at image end 1) (rewritten g.after m)) (Trail (trail_at image (at + 3) 1) (rewritten g.after m)) =
        goto_runs (at + 3) (subst (λ (k : ℕ). fetched image end ≡ Some (instr.Jump k)) back returns) in
        record {
          after = g.after;
          runs = wider (omega arith) (onward (goto_runs pos goes) (onward does over));
          unseen = kept_unseen image 0 m.bytes g.after g.kept (does_spare image g.does holds.are_bytes).are_bytes;
          holds = g.holds;
        }
    from_there (Err e) g =
        let within : end + 3 ≤ length image.code = lies_in image end (instr.Jump (at_label image P K (begin + 1))) returns in
        let code : length image.code ≤ 65535 = holds.fits.code in
        let q : Registers = behind g.last g.at in
        let there : Machine = rewritten g.there m in
        let runs : Runs image 65536 (Trail (trail_at image pos 0) m) (failing image e.0 e.1 (behind g.last g.at) (rewritten g.there m)) =
        record { count = steps_of g.does + 1; few = omega (arith, within, code, g.few); comes = (instructions_are_steps image (trail_at image pos 0) m).1 end e.0 e.1 g } in
        let s = does_spare image g.does holds.are_bytes in
        let x = breaks_at m w (rewritten g.there m) (behind g.last g.at) e.0 e.1 holds some (record { own_is = s.own_is; size = s.size; are_bytes = s.are_bytes; gates = s.gates }) refl (onward (goto_runs pos goes) runs) in
        record { after = x.after; runs = wider (omega arith) x.runs; marks = x.marks }

  -- `at` is where the line stands that goes to the part, and behind it the part's end
  pub expression_runs : (w : World) (m : Machine) (e : KExp) (begin fresh at pos : ℕ) → MemoryHolds image P width K w m.bytes → 1 ≤ image.gates → Ready image P K w m.bytes e
      → fetched image at ≡ Some (instr.Jump (at_label image P K begin)) → at_label image P K (begin + 1) ≡ at + 3 → Placed image (at_label image P K) pos ((exp_part P K begin e fresh).lines (number image P K))
      → Evaluated image m at (value_of e Program w)
  expression_runs w m e begin fresh at pos holds some ready goes back there =
      let ls : List Line = (exp_draft P.offset e fresh).lines (number image P K) in
      let parts = parts_are_placed image (at_label image P K) pos ((exp_draft P.offset e fresh).lines (number image P K)) (goto (begin + 1) ∷ []) there.1 in
      from_there w m holds some begin at pos (pos + code_size ((exp_draft P.offset e fresh).lines (number image P K))) (subst (λ (k : ℕ). fetched image at ≡ Some (instr.Jump k)) there.0 goes) back parts.1.0 (value_of e Program w)
      (expressions_evaluate image (at_label image P K) P.offset (number image P K) Program w ready.reads ready.asks e fresh (trail_at image pos 0) m.bytes ready.is_typed holds.fits ready.visible ready.placed parts.0 (omega (arith, ready.deep)))
