use Rattle.std.proofs.Common.{◌≡◌, ◌∙◌, refl, sym, ap, subst, arith, add-one, length, Some, Err}
use Rattle.ceu_grammar.specs.Answers.{Takes}
use Rattle.ceu_syntax.specs.Runs.{begun, step}
use Rattle.ceu_syntax.specs.Steps.{state}
use Rattle.ceu_syntax.specs.Terminals.{terminals}
use Rattle.ceu_syntax.proofs.Outcomes.{keeps_on}
use Rattle.ceu_grammar.proofs.Finalizes.{at_most, follows}
use Rattle.ceu_grammar.proofs.Loops.{goes_on, run_none}
use Rattle.ceu_grammar.proofs.Refusals.{ended_at, refused_at}
use Rattle.ceu_grammar.proofs.parser.all_taken.Goals as goal

pub loop-k-init : goal.loop-k-init
loop-k-init c = record { runs = rw c.requires.open (rw c.new.ensures (run_none begun)); counted = refl; few = omega arith; kept = λ j h. absurd (omega arith) }

pub returns-in-Err-taken : goal.returns-in-Err-taken
returns-in-Err-taken c =
    refused_at c.args.text.now c.args.tokens.now c.loop-k.k _ (state c.loop-k.stack c.loop-k.mode) c.goes_on_finalize-finalize.result (omega arith) c.loop-k.invariant.runs c.loop-k.invariant.kept
    (follows c.args.text.now c.args.tokens.now c.loop-k.k c.goes_on_finalize-finalize.result c.goes_on_finalize-finalize.ensures)
    c.in-Err-taken.refusal c.refused.result c.taken.new.stack c.taken.new.operators
    (subst (λ t. Takes (Err c.in-Err-taken.refusal) c.taken.new.stack c.taken.new.operators c.goes_on_finalize-finalize.result (step t (state c.loop-k.stack c.loop-k.mode))) c.in-Ok.ensures c.in-Err-taken.ensures) c.refused.ensures

pub loop-k-preserved : goal.loop-k-preserved
loop-k-preserved c =
    let runs = goes_on c.args.text.now c.args.tokens.now c.loop-k.k _ (state c.loop-k.stack c.loop-k.mode) (Some (state c.taken.new.stack c.in-Ok-taken.next)) (omega arith) c.loop-k.invariant.runs
    (ap (λ t. step t (state c.loop-k.stack c.loop-k.mode)) (sym c.in-Ok.ensures) ∙ c.in-Ok-taken.ensures.0) in
    record {
      runs = rw add-one runs;
      counted = c.in-Ok-taken.ensures.1;
      few = at_most c.taken.new.operators _ c.in-Ok-taken.ensures.1 c.in-Ok-taken.ensures.3;
      kept = keeps_on (terminals c.args.text.now c.args.tokens.now) c.loop-k.k (state c.taken.new.stack c.in-Ok-taken.next) c.goes_on_finalize-finalize.result c.loop-k.invariant.kept runs
          (follows c.args.text.now c.args.tokens.now c.loop-k.k c.goes_on_finalize-finalize.result c.goes_on_finalize-finalize.ensures) c.in-Ok-taken.ensures.2 c.in-Ok-taken.ensures.3;
    }

pub returns : goal.returns
returns c =
    let same : c.loop-k.k ≡ length c.args.tokens.now = omega arith in
    ended_at c.ended.result c.args.text.now c.args.tokens.now c.loop-k.k (state c.loop-k.stack c.loop-k.mode) same c.loop-k.invariant.runs c.loop-k.invariant.kept c.ended.ensures
