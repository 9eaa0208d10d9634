use Rattle.std.proofs.Common.{ℕ, List, [], ◌∷◌, get_or, length, refl, arith}
use Rattle.ceu_tree.specs.declared.kernel.KBlock.{out-KBlock}
use Rattle.ceu_code.specs.declared.instr.Instr.TheVariants as instr
use Rattle.ceu_asm.specs.declared.line.Line.{Line}
use Rattle.ceu_shape.specs.Plans.{Plan}
use Rattle.ceu_shape.specs.Words.{end_of, mark, plain}
use Rattle.ceu_shape.specs.Par.{waiting_ends}
use Rattle.ceu_low_par.specs.Conditions.{planned}
use Rattle.ceu_low_par.proofs.Adding.{branch_step, branches_over, node_below}
use Rattle.ceu_low_par.proofs.branches.add_waiting_ends.Goals as goal

pub loop-k-preserved : goal.loop-k-preserved
loop-k-preserved g c =
    let plan : Plan = planned (g.P.Places.planned c.args.places.now) c.args.gates.now in
    let labels = c.args.labels.now in
    let piece : ℕ → List ℕ → List Line = waiting_ends plan labels in
    let n : ℕ = (out-KBlock (get_or c.args.branches.now c.loop-k.k c.index-branches-k.result)).node in
    let own : List Line = mark (end_of labels c.loop-k.k) ∷ plain (instr.Move (plan.first n)) ∷ plain instr.WaitForever ∷ [] in
    branch_step piece _ c.loop-k.sheet c.add_waiting_end.new.sheet c.loop-k.k own c.args.branches.now c.index-branches-k.result (omega arith) (λ ns. refl) c.loop-k.invariant c.in_ok-add_waiting_end.ensures

pub returns : goal.returns
returns g c =
    let plan : Plan = planned (g.P.Places.planned c.args.places.now) c.args.gates.now in
    let labels = c.args.labels.now in
    let piece : ℕ → List ℕ → List Line = waiting_ends plan labels in
    branches_over (piece c.loop-k.k) _ c.loop-k.sheet c.loop-k.k c.args.branches.now (omega arith) refl c.loop-k.invariant

pub add_waiting_end-requires-clause-node : goal.add_waiting_end-requires-clause-node
add_waiting_end-requires-clause-node g c = node_below (length c.args.gates.now.first) c.loop-k.k c.args.branches.now c.index-branches-k.result c.requires.nodes (omega arith)
