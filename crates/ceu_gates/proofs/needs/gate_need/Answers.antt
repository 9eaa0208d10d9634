use Rattle.std.proofs.Common.{[], arith}
use Rattle.std.proofs.lemmas.Grind.{common_steps}
use Rattle.ceu_tree.specs.Needs as spec
use Rattle.ceu_tree.proofs.TableLaws.{greatest_cut}
use Rattle.ceu_gates.proofs.GateCuts.{block_cut}
use Rattle.ceu_gates.proofs.needs.gate_need.Goals as goal

pub returns : goal.returns
unfolding spec.gates
returns c =
    let body = block_cut (spec.gates_from [] c.args.kernel.now.codes) c.args.kernel.now.body in
    let most = greatest_cut (spec.gates_from [] c.args.kernel.now.codes) in
    grind (arith, common_steps, body, most, c.items.ensures, c.in_ok-gates.ensures, c.deref.ensures.value, c.deref-2.ensures.value, c.block_gates.ensures, c.greatest.ensures, c.max.ensures)
