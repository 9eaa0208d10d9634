use Rattle.std.proofs.Common.{◌≡◌, ℕ, ◌+◌, List, [], ◌∷◌, ◌++◌, refl, ap, arith}
use Rattle.std.specs.Prelude.{pos}
use Rattle.ceu_base.specs.declared.kinds.Ty.TheVariants as ty
use Rattle.ceu_code.specs.declared.instr.Instr.TheVariants as instr
use Rattle.ceu_asm.specs.declared.line.Line.{Line}
use Rattle.ceu_shape.specs.Plans.{Plan}
use Rattle.ceu_shape.specs.Words.{plain}
use Rattle.ceu_shape.specs.Par.{cleared}
use Rattle.ceu_low_par.specs.Conditions.{nodes_of, planned}
use Rattle.ceu_low_par.proofs.Adding.{with_lines, each_step, branches_over}
use Rattle.ceu_low_par.proofs.branches.add_cleared.Goals as goal

pub loop-k-preserved : goal.loop-k-preserved
loop-k-preserved g c =
    let plan : Plan = planned (g.P.Places.planned c.args.places.now) c.args.gates.now in
    let labels = c.args.labels.now in
    let piece : ℕ → List ℕ → List Line = λ (k : ℕ) (ns : List ℕ). cleared plan labels (c.args.slot + k) ns in
    let own : List Line = plain (instr.Push ty.Bool (pos 0)) ∷ plain (instr.Store ty.Bool (plan.offset (c.args.slot + c.loop-k.k))) ∷ [] in
    let step : c.args.slot + c.loop-k.k + 1 ≡ c.args.slot + (c.loop-k.k + 1) = omega arith in
    each_step piece _ c.loop-k.sheet c.add_clear.new.sheet c.loop-k.k own c.args.branches.now (omega arith) (λ n ns. ap (λ (j : ℕ). own ++ cleared plan labels j ns) step) c.loop-k.invariant c.in_ok-add_clear.ensures

pub returns : goal.returns
returns g c =
    let plan : Plan = planned (g.P.Places.planned c.args.places.now) c.args.gates.now in
    let labels = c.args.labels.now in
    let piece : ℕ → List ℕ → List Line = λ (k : ℕ) (ns : List ℕ). cleared plan labels (c.args.slot + k) ns in
    branches_over (piece c.loop-k.k) _ c.loop-k.sheet c.loop-k.k c.args.branches.now (omega arith) refl c.loop-k.invariant

pub loop-k-init : goal.loop-k-init
loop-k-init g c =
    let plan : Plan = planned (g.P.Places.planned c.args.places.now) c.args.gates.now in
    let labels = c.args.labels.now in
    let piece : ℕ → List ℕ → List Line = λ (k : ℕ) (ns : List ℕ). cleared plan labels (c.args.slot + k) ns in
    let start : c.args.slot ≡ c.args.slot + 0 = omega arith in
    ap (λ (j : ℕ). with_lines c.args.sheet.now (c.args.sheet.now.lines ++ cleared plan labels j (nodes_of c.args.branches.now))) start
