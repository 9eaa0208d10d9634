use Rattle.std.proofs.Common.{◌<◌, ◌∷◌, [], length, take, ap, sym, add-one, arith}
use Rattle.std.proofs.lemmas.List.{map-append}
use Rattle.std.proofs.lemmas.Grind.{common_steps}
use Rattle.ceu_tree.specs.Cut.{cut}
use Rattle.ceu_tree.specs.Needs as spec
use Rattle.ceu_slots.proofs.FrameCuts.{frames_more, frame_cut}
use Rattle.ceu_slots.proofs.needs.frames_of.Goals as goal

pub loop-code-preserved : goal.loop-code-preserved
loop-code-preserved c =
    let below : c.loop-code.code-index < length c.args.codes.now = omega arith in
    let before = spec.frames_from c.args.plain [] (take c.loop-code.code-index c.args.codes.now) in
    let more = frames_more c.args.plain [] c.args.codes.now c.loop-code.code-index c.code-item.result below in
    let here = ap (spec.frame_of c.args.plain before) (sym c.code-item.is) in
    let same = frame_cut c.args.plain before c.code-item.result in
    let append = map-append cut before (spec.frame_of c.args.plain before c.code-item.result ∷ []) in
    rw add-one (grind (arith, common_steps, more, here, same, append, c.loop-code.invariant, c.deref.ensures.value, c.frame_of-frame.ensures, c.in_ok-push.ensures.items))
