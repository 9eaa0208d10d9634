use Rattle.std.proofs.Common.{◌∙◌, refl}
use Rattle.std.proofs.lemmas.List.{take_rest}
use Rattle.ceu_top.proofs.Lining.{on_err, front_after, line_taken}
use Rattle.ceu_top.proofs.lines.write_lines.Goals as goal

pub returns-in_err-write_all-clause-front : goal.returns-in_err-write_all-clause-front
returns-in_err-write_all-clause-front g c =
    on_err c.from_residual.result _ (front_after c.args.text.now c.loop-rest.rest.now _ c.end_of_line-end.result _ _ _ c.loop-rest.invariant.taken
    refl c.in_err-write_all.ensures.front)

pub loop-rest-preserved : goal.loop-rest-preserved
loop-rest-preserved g c = record {
  taken = line_taken c.args.text.now c.loop-rest.rest.now _ _ c.end_of_line-end.result _ _ _ c.loop-rest.invariant.taken c.end_of_line-end.ensures.some c.end_of_line-end.ensures.within
      refl c.in_ok-write_all.ensures.whole (take_rest c.loop-rest.rest.now c.end_of_line-end.result);
  quiet = c.in_ok-write_all.ensures.cause ∙ c.loop-rest.invariant.quiet;
}
