use Rattle.std.proofs.Common.{[], arith}
use Rattle.std.proofs.lemmas.Grind.{common_steps}
use Rattle.ceu_tree.specs.Needs as spec
use Rattle.ceu_tree.proofs.TableLaws.{greatest_cut}
use Rattle.ceu_slots.proofs.FrameCuts.{block_cut}
use Rattle.ceu_slots.proofs.needs.need_of.Goals as goal

pub returns : goal.returns
unfolding spec.slots
returns c =
    let body = block_cut c.args.plain (spec.frames_from c.args.plain [] c.args.kernel.now.codes) c.args.kernel.now.body in
    let most = greatest_cut (spec.frames_from c.args.plain [] c.args.kernel.now.codes) in
    grind (arith, common_steps, body, most, c.items.ensures, c.in_ok-frames.ensures, c.deref.ensures.value, c.deref-2.ensures.value, c.block_need.ensures, c.greatest.ensures, c.max.ensures)
