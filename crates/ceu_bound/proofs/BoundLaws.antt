-- The bounds from filled tables, and the refusal from the first broken rule.
use Rattle.std.proofs.Common.{◌≡◌, refl, sym, ap, subst, ◌∙◌, ◌+◌, max, []}
use Rattle.std.specs.Prelude.{Some, None}
use Rattle.ceu_base.specs.declared.kinds.Pos.{Pos}
use Rattle.ceu_tree.specs.declared.kernel.Kernel.{Kernel}
use Rattle.ceu_tree.specs.Paths.{passes_from}
use Rattle.ceu_tree.specs.Costs.{cost, plus, most, enter_block, stay_block, bounds}
use Rattle.ceu_paths.specs.Cap.{cap}
use Rattle.ceu_paths.proofs.CapLaws.{same_plus, same_max}
use Rattle.ceu_bound.specs.declared.tables.Tables.{Tables}
use Rattle.ceu_bound.specs.declared.verdict.Broken.{Broken}
use Rattle.ceu_bound.specs.Parts.{pick, turn, costs}
use Rattle.ceu_bound.specs.Measured as measured
use Rattle.ceu_bound.specs.Filled.{AreTables, emitting, entering, staying}
use Rattle.ceu_bound.specs.PhaseB.{all_loops, arrows, NotAfter, IsFirstBreak, KeepsLoopRules}
use Rattle.ceu_bound.specs.Verdict.{IsFirstOf}
use Rattle.ceu_bound.proofs.CostLaws.{pick_turn, pick_plus, pick_most}
use Rattle.ceu_bound.proofs.Agree.{block_same, stay_block_same}

pub bounds_same : (K : Kernel) (T : Tables) → AreTables K T → cap (max (turn T.part + measured.enter_block T K.body) (measured.stay_block T K.body)) ≡ cap (pick T.part (bounds K))
unfolding bounds measured.enter_block measured.stay_block
bounds_same K T t =
    let w = T.part in
    let P = T.passing.items in
    let E = emitting K in
    let N = entering K in
    let S = staying K in
    let x = enter_block P E N K.body in
    let y = stay_block P E N S K.body in
    let enters = block_same w P (costs T.events.items) E (costs T.entering.items) N t.emissions_cost t.codes_enter K.body in
    let stays = stay_block_same w P (costs T.events.items) E (costs T.entering.items) N t.emissions_cost t.codes_enter (costs T.staying.items) S t.codes_stay K.body in
    same_max (turn w + measured.enter_block T K.body) (turn w + pick w x) (measured.stay_block T K.body) (pick w y) (same_plus (turn w) (turn w) (measured.enter_block T K.body) (pick w x) refl enters) stays ∙
    ap cap (sym (pick_most w (plus (cost 1 0) x) y ∙ ap (λ k. max k (pick w y)) (pick_plus w (cost 1 0) x ∙ ap (λ k. k + pick w x) (pick_turn w)))) ∙
    ap (λ p. cap (pick w (most (plus (cost 1 0) (enter_block p E N K.body)) (stay_block p E N S K.body)))) t.passes

pub first_break : (K : Kernel) (b : Broken) → IsFirstOf (passes_from [] K.codes) (arrows K) (all_loops K) (Some b) → IsFirstBreak K b.rule b.pos
first_break K b first = record {
  breaks = record { loop = first.0.0; within = first.0.1; place = first.0.2; broken = first.0.3 };
  first = λ s q broken. let Q : Pos → Type 0 = λ p. NotAfter b.pos b.rule p s in subst Q broken.place (first.1 broken.loop broken.within s broken.broken);
}

pub none_broken : (K : Kernel) → IsFirstOf (passes_from [] K.codes) (arrows K) (all_loops K) None → KeepsLoopRules K
none_broken K first = λ r p broken. first broken.loop broken.within r broken.broken
