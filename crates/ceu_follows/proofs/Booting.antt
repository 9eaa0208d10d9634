-- Boot: what stands in the blank memory once the program's first gate can run.
use Rattle.std.proofs.Common.{◌≡◌, refl, sym, ap, ◌∙◌, subst, ◌<◌, ◌≤◌, ℕ, zero, suc, ◌+◌, ◌*◌, ◌^◌, Bool, true, List, [], ◌++◌, replicate, arith}
use Rattle.std.specs.Prelude.{slice_index, if◌then◌else◌}
use Rattle.std.proofs.lemmas.Bool.{lt-ltb}
use Rattle.std.proofs.lemmas.List.{length-replicate}
use Rattle.ceu_asm.specs.declared.line.Line.{Line}
use Rattle.ceu_code.specs.declared.image.Image.{Image}
use Rattle.ceu_mem.specs.declared.gate.Gate.{Gate}
use Rattle.ceu_mem.specs.Bytes.{number_at}
use Rattle.ceu_mem.specs.Memory.{IsGate}
use Rattle.ceu_mem.proofs.Views.{number_step, number_nothing}
use Rattle.laws_machine_code.specs.Placed.{Placed}
use Rattle.laws_machine_code.proofs.Lines.{parts_are_placed}
use Rattle.ceu_isa.specs.Layout.{end_of, gate_of, gate_put, free}
use Rattle.ceu_isa.specs.Reactions as machine
use Rattle.ceu_isa.specs.Commands as commands
use Rattle.ceu_isa.specs.Commands.{program_start, blank}
use Rattle.ceu_isa.specs.Safety.{Fits}
use Rattle.ceu_isa.specs.Turns.{Machine, rewritten}
use Rattle.ceu_tree.specs.declared.kernel.Kernel.{Kernel}
use Rattle.ceu_tree.specs.declared.kernel.KBlock.{out-KBlock}
use Rattle.ceu_tree.specs.Residual.{Program, Begin, Run}
use Rattle.ceu_tree.specs.Focus.{Here}
use Rattle.ceu_tree.specs.World.{empty_world}
use Rattle.ceu_tree.specs.Run.{booted, steps}
use Rattle.ceu_shape.specs.Plans.{Plan, own_label}
use Rattle.ceu_shape.specs.Searches.{node_of_block}
use Rattle.ceu_shape.specs.Shape.{shape_lines, block_draft, codes_draft, program_draft, first_fresh, kernel_piece}
use Rattle.laws_meaning_basics.specs.Shape.{nothing_around, program_part}
use Rattle.laws_meaning_basics.proofs.RunFits.{booted_fits}
use Rattle.laws_meaning_values.proofs.RunValues.{booted_valued}
use Rattle.laws_machine_layout.specs.Laws.{AreBytes}
use Rattle.laws_machine_layout.specs.Views.{view}
use Rattle.laws_machine_layout.specs.Leaves.{LeafGate}
use Rattle.laws_machine_layout.specs.Stands.{Stands}
use Rattle.laws_machine_layout.specs.Values.{ValuesStand}
use Rattle.ceu_endings.specs.Ends.{EndsTurns}
use Rattle.ceu_endings.proofs.CountedRuns as counters
use Rattle.ceu_endings.proofs.Shapes.{no_codes}
use Rattle.ceu_trail.specs.Built.{at_label, number, behind}
use Rattle.ceu_trail.specs.Compiled.{Compiled}
use Rattle.ceu_trail.specs.Laws.{StepsAreDone}
use Rattle.ceu_trail.specs.Parts.{GatesAt}
use Rattle.ceu_trail.specs.Tables.{tables}
use Rattle.ceu_trail.specs.Turning.{home}
use Rattle.ceu_trail.proofs.Codes.{block_begins}
use Rattle.ceu_trail.proofs.Plain.{blocks_are_plain}
use Rattle.ceu_trail.proofs.Planned.{gates_are_first}
use Rattle.ceu_trail.proofs.Stops.{stops_are_there}
use Rattle.ceu_within.proofs.Whole.{boot_within}
use Rattle.ceu_follows.specs.Kept.{Kept}
use Rattle.ceu_follows.specs.Reactions.{Follows}
use Rattle.ceu_follows.proofs.Memory.{seen_is, all_free, put_fits, put_bytes, put_header, put_there, put_apart}
use Rattle.ceu_follows.proofs.Ready.{reacts_follow}

-- ---- the blank memory

pub no_byte : (n i : ℕ) → slice_index (replicate n 0) i ≡ 0
no_byte zero i = refl
no_byte (suc n) zero = refl
no_byte (suc n) (suc i) = no_byte n i

pub no_number : (size n at : ℕ) → number_at size (replicate n 0) at ≡ 0
no_number zero n at = number_nothing (replicate n 0) at
no_number (suc size) n at = number_step size (replicate n 0) at ∙ ap (λ (i : ℕ). i + 256 * number_at size (replicate n 0) (at + 1)) (no_byte n at) ∙ ap (λ (i : ℕ). 0 + 256 * i) (no_number size n (at + 1))

no_bytes : (n : ℕ) → AreBytes (replicate n 0)
no_bytes n i = subst (λ (b : ℕ). b < 256) (sym (no_byte n i)) (omega arith)

no_kind : (image : Image) (n g : ℕ) → (gate_of image (replicate n 0) g).kind ≡ 0
unfolding gate_of
no_kind image n g = no_number 1 n _

-- ---- the body's code is the first

module _ (image : Image) (P : Plan) (width : ℕ → ℕ) (K : Kernel) (compiled : Compiled image P width K) (ends : EndsTurns K) where
  whole_lines : shape_lines P K ≡ ((block_draft P K K.body (first_fresh K)).lines (number image P K) ++ behind P K true K.body) ++ (codes_draft P K K.codes (program_draft P K K.body (first_fresh K)).next).lines (number image P K)
  unfolding shape_lines kernel_piece
  whole_lines = refl

  body_first : at_label image P K (own_label (node_of_block K.body)) ≡ 0
  body_first =
      let lines : List Line = (block_draft P K K.body (first_fresh K)).lines (number image P K) ++ behind P K true K.body in
      let codes : List Line = (codes_draft P K K.codes (program_draft P K K.body (first_fresh K)).next).lines (number image P K) in
      let first = (parts_are_placed image (at_label image P K) 0 lines codes (subst (Placed image (at_label image P K) 0) whole_lines compiled.placed)).0 in
      block_begins image P K K.body (first_fresh K) 0 (behind P K true K.body) first

  some_gates : 1 ≤ image.gates
  some_gates = (gates_are_first image P width K (Here (Begin K.body)) (program_part K) compiled nothing_around).0

  body_gates : GatesAt image P (node_of_block K.body)
  body_gates = (gates_are_first image P width K (Here (Begin K.body)) (program_part K) compiled nothing_around).2

  node_is : (out-KBlock K.body).node ≡ node_of_block K.body
  node_is = (blocks_are_plain K.body (no_codes K ends.single).1).node_is

  begun_is : (tables P width K).begun (out-KBlock K.body).node ≡ 0
  begun_is = ap (tables P width K).begun node_is ∙ stops_are_there image P width K (Here (Begin K.body)) (program_part K) compiled nothing_around ∙ body_first

  abbrev zeros : List ℕ
  zeros = replicate (end_of image) 0

  pub zeros_fit : Fits image (replicate (end_of image) 0)
  zeros_fit = record { size = length-replicate (end_of image) 0; memory = compiled.memory; code = compiled.short }

  abbrev started : Gate
  started = program_start image (gate_of image (replicate (end_of image) 0) 0)

  started_fine : IsGate (program_start image (gate_of image (replicate (end_of image) 0) 0))
  unfolding gate_of
  started_fine =
      let memory = compiled.memory in
      record {
        kind = omega arith;
        level = omega arith;
        code = omega arith;
        frame = omega (arith, memory);
        base = omega arith;
        key = subst (λ (i : ℕ). i < 2 ^ 16) (sym (no_number 2 (end_of image) _)) (omega arith);
        value = subst (λ (i : ℕ). i < 2 ^ 64) (sym (no_number 8 (end_of image) _)) (omega arith);
      }

  abbrev first_bytes : List ℕ
  first_bytes = gate_put image started 0 zeros

  first_gate : gate_of image first_bytes 0 ≡ started
  first_gate = put_there image zeros zeros_fit (no_bytes (end_of image)) started 0 some_gates started_fine

  others : (g : ℕ) → 1 ≤ g → g < image.gates → (gate_of image first_bytes g).kind ≡ free
  others g x y = ap (λ (q : Gate). q.kind) (put_apart image zeros zeros_fit (no_bytes (end_of image)) started 0 g (λ q. absurd (omega (arith, q, x)))) ∙ no_kind image (end_of image) g

  leaf_gate : LeafGate (tables P width K) (home image Program) (Run 0 (Begin K.body)) started
  leaf_gate = (record { kind_is = refl; code_is = sym begun_is; frame_is = refl; base_is = refl }, refl)

  tree : Stands (tables P width K) (home image) (view image first_bytes) (Run 0 (Begin K.body)) Program 0 image.gates
  unfolding Stands
  tree =
      let g = body_gates in
      let first : P.first (out-KBlock K.body).node ≡ 0 = ap P.first node_is ∙ g.first_is in
      record {
        some_gate = some_gates;
        first_is = omega (arith, first);
        gate_is = subst (LeafGate (tables P width K) (home image Program) (Run 0 (Begin K.body))) (sym (seen_is image first_bytes 0 some_gates ∙ first_gate)) leaf_gate;
        others = all_free image first_bytes 1 image.gates (omega arith) others;
      }

  header : (size at : ℕ) → at + size ≤ 16 → number_at size first_bytes at ≡ 0
  header size at le = put_header image zeros zeros_fit (no_bytes (end_of image)) started 0 size at le ∙ no_number size (end_of image) at

  values : ValuesStand (tables P width K) (home image) (view image first_bytes) empty_world
  values = record { held = λ body slot c e. absurd (cc) }

  boot_kept : Kept K (booted K)
  boot_kept = record {
    fits = booted_fits K ends.proper;
    valued = booted_valued K ends.proper (no_codes K ends.single).0;
    counted = counters.booted_kept K;
    within = boot_within K;
    unfaulted = refl;
  }

  pub boot_follows : StepsAreDone → Follows image P width K [] [] (λ n. steps K n (booted K)) (commands.booted image (blank image))
  boot_follows laws =
      let m : Machine = rewritten first_bytes (blank image) in
      let is : commands.booted image (blank image) ≡ machine.reacts image (rewritten first_bytes (blank image)) =
      ap (λ (b : Bool). if b then machine.reacts image (rewritten first_bytes (blank image)) else machine.Lost) (lt-ltb 0 image.gates some_gates) in
      subst (λ (c : machine.Config). Follows image P width K [] [] (λ n. steps K n (booted K)) c) (sym is)
      (reacts_follow image P width K compiled ends laws (home image) (Run 0 (Begin K.body)) empty_world (rewritten first_bytes (blank image)) boot_kept
      (put_fits image zeros zeros_fit (no_bytes (end_of image)) started 0) (put_bytes image zeros zeros_fit (no_bytes (end_of image)) started 0) (header 2 2 (omega arith))
      (record { program = refl; tree = tree; values = values; given = header 4 4 (omega arith) }))
