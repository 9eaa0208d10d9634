use Rattle.std.proofs.Common.{ℕ, List, [], ◌∷◌, ◌++◌, get_or, length, refl, ap, arith}
use Rattle.ceu_tree.specs.declared.kernel.KBlock.{out-KBlock}
use Rattle.ceu_code.specs.declared.instr.Instr.TheVariants as instr
use Rattle.ceu_asm.specs.declared.line.Line.{Line}
use Rattle.ceu_asm.specs.declared.line.Line.TheVariants as line
use Rattle.ceu_shape.specs.Plans.{Plan}
use Rattle.ceu_shape.specs.Words.{begin_of}
use Rattle.ceu_shape.specs.Par.{forks}
use Rattle.ceu_low_par.specs.Conditions.{planned}
use Rattle.ceu_low_par.proofs.Adding.{with_lines, branch_step, branches_over, node_below, rest_is}
use Rattle.ceu_low_par.proofs.branches.add_forks.Goals as goal

pub loop-k-preserved : goal.loop-k-preserved
loop-k-preserved g c =
    let plan : Plan = planned (g.P.Places.planned c.args.places.now) c.args.gates.now in
    let labels = c.args.labels.now in
    let piece : ℕ → List ℕ → List Line = forks plan labels in
    let n : ℕ = (out-KBlock (get_or c.args.branches.now c.loop-k.k c.index-branches-k.result)).node in
    let own : List Line = line.Jump (instr.Fork (plan.first n) 0) (begin_of labels c.loop-k.k) ∷ [] in
    branch_step piece _ c.loop-k.sheet c.add_fork.new.sheet c.loop-k.k own c.args.branches.now c.index-branches-k.result (omega arith) (λ ns. refl) c.loop-k.invariant c.in_ok-add_fork.ensures

pub returns : goal.returns
returns g c =
    let plan : Plan = planned (g.P.Places.planned c.args.places.now) c.args.gates.now in
    let labels = c.args.labels.now in
    let piece : ℕ → List ℕ → List Line = forks plan labels in
    branches_over (piece c.loop-k.k) _ c.loop-k.sheet c.loop-k.k c.args.branches.now (omega arith) refl c.loop-k.invariant

pub loop-k-init : goal.loop-k-init
loop-k-init g c =
    let plan : Plan = planned (g.P.Places.planned c.args.places.now) c.args.gates.now in
    let labels = c.args.labels.now in
    ap (λ (ns : List ℕ). with_lines c.args.sheet.now (c.args.sheet.now.lines ++ forks plan labels 1 ns)) (rest_is plan labels c.args.branches.now)

pub add_fork-requires-clause-node : goal.add_fork-requires-clause-node
add_fork-requires-clause-node g c = node_below (length c.args.gates.now.first) c.loop-k.k c.args.branches.now c.index-branches-k.result c.requires.nodes (omega arith)
