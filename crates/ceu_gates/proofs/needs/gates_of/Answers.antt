use Rattle.std.proofs.Common.{◌<◌, ◌∷◌, [], length, take, ap, sym, add-one, arith}
use Rattle.std.proofs.lemmas.List.{map-append}
use Rattle.std.proofs.lemmas.Grind.{common_steps}
use Rattle.ceu_tree.specs.Cut.{cut}
use Rattle.ceu_tree.specs.Needs as spec
use Rattle.ceu_tree.specs.declared.kernel.KCode.{KCode}
use Rattle.ceu_gates.proofs.GateCuts.{gates_more, block_cut}
use Rattle.ceu_gates.proofs.needs.gates_of.Goals as goal

pub loop-code-preserved : goal.loop-code-preserved
loop-code-preserved c =
    let below : c.loop-code.code-index < length c.args.codes.now = omega arith in
    let before = spec.gates_from [] (take c.loop-code.code-index c.args.codes.now) in
    let more = gates_more [] c.args.codes.now c.loop-code.code-index c.code-item.result below in
    let here = ap (λ (k : KCode). spec.block_gates before k.body) (sym c.code-item.is) in
    let same = block_cut before c.code-item.result.body in
    let append = map-append cut before (spec.block_gates before c.code-item.result.body ∷ []) in
    rw add-one (grind (arith, common_steps, more, here, same, append, c.loop-code.invariant, c.deref.ensures.value, c.block_gates-count.ensures, c.in_ok-push.ensures.items))
