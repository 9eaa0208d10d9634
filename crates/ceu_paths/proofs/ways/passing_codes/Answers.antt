use Rattle.std.proofs.Common.{◌<◌, [], length, take, ap, sym, add-one, arith}
use Rattle.ceu_tree.specs.Paths as spec
use Rattle.ceu_paths.proofs.WayLaws.{passes_more}
use Rattle.ceu_paths.proofs.ways.passing_codes.Goals as goal

pub loop-code-preserved : goal.loop-code-preserved
loop-code-preserved c =
    let below : c.loop-code.code-index < length c.args.codes.now = omega arith in
    let before = spec.passes_from [] (take c.loop-code.code-index c.args.codes.now) in
    let more = passes_more [] c.args.codes.now c.loop-code.code-index c.code-item.result below in
    let here = ap (spec.passes before) (sym c.code-item.is) in
    rw add-one (cc (more, here, c.loop-code.invariant, c.deref.ensures.value, c.in_ok-answer.ensures, c.in_ok-push.ensures.items))
