use Rattle.std.proofs.Common.{ap, ◌∙◌, sym, arith}
use Rattle.std.proofs.lemmas.List.{take_rest}
use Rattle.ceu_script.proofs.Comments.{begins_comment, comment-next}
use Rattle.ceu_script.proofs.content.comment_at.Goals as goal

pub loop-at-preserved : goal.loop-at-preserved
loop-at-preserved c = record {
  same = comment-next _ _ c.loop-at-test.true (ap begins_comment (sym (take_rest c.args.text.now c.loop-at.at)) ∙ sym c.starts_with.ensures.value ∙ c.if-starts_with.false) c.loop-at.invariant.same;
  within = omega arith;
}
