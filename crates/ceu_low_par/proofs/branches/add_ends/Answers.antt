use Rattle.std.proofs.Common.{ℕ, List, [], ◌∷◌, refl, arith}
use Rattle.ceu_asm.specs.declared.line.Line.{Line}
use Rattle.ceu_shape.specs.Plans.{Plan}
use Rattle.ceu_shape.specs.Words.{end_of, mark}
use Rattle.ceu_shape.specs.Par.{ends}
use Rattle.ceu_low_par.specs.Conditions.{planned}
use Rattle.ceu_low_par.proofs.Adding.{each_step, branches_over}
use Rattle.ceu_low_par.proofs.branches.add_ends.Goals as goal

pub loop-k-preserved : goal.loop-k-preserved
loop-k-preserved g c =
    let plan : Plan = planned (g.P.Places.planned c.args.places.now) c.args.gates.now in
    let labels = c.args.labels.now in
    let piece : ℕ → List ℕ → List Line = λ (k : ℕ) (ns : List ℕ). ends plan labels k ns in
    let own : List Line = mark (end_of labels c.loop-k.k) ∷ [] in
    each_step piece _ c.loop-k.sheet c.add.new.self c.loop-k.k own c.args.branches.now (omega arith) (λ n ns. refl) c.loop-k.invariant (simp c.end.ensures at c.in_ok-add.ensures.ok)

pub returns : goal.returns
returns g c =
    let plan : Plan = planned (g.P.Places.planned c.args.places.now) c.args.gates.now in
    let labels = c.args.labels.now in
    let piece : ℕ → List ℕ → List Line = λ (k : ℕ) (ns : List ℕ). ends plan labels k ns in
    branches_over (piece c.loop-k.k) _ c.loop-k.sheet c.loop-k.k c.args.branches.now (omega arith) refl c.loop-k.invariant
