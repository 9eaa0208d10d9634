use Rattle.std.proofs.Common.{◌≡◌, ℕ, ◌+◌, List, [], ◌∷◌, ◌++◌, refl, ap, arith}
use Rattle.std.specs.Prelude.{pos}
use Rattle.ceu_base.specs.declared.kinds.Ty.TheVariants as ty
use Rattle.ceu_code.specs.declared.instr.Instr.TheVariants as instr
use Rattle.ceu_asm.specs.declared.line.Line.{Line}
use Rattle.ceu_shape.specs.Plans.{Plan}
use Rattle.ceu_shape.specs.Words.{end_of, goto, mark, plain}
use Rattle.ceu_shape.specs.Par.{set_ends}
use Rattle.ceu_low_par.specs.Conditions.{nodes_of, planned}
use Rattle.ceu_low_par.proofs.Adding.{with_lines, each_step, branches_over}
use Rattle.ceu_low_par.proofs.branches.add_set_ends.Goals as goal

pub loop-k-preserved : goal.loop-k-preserved
loop-k-preserved g c =
    let plan : Plan = planned (g.P.Places.planned c.args.places.now) c.args.gates.now in
    let labels = c.args.labels.now in
    let piece : ℕ → List ℕ → List Line = λ (k : ℕ) (ns : List ℕ). set_ends plan labels k (c.args.slot + k) c.args.join ns in
    let own : List Line = mark (end_of labels c.loop-k.k) ∷ plain (instr.Push ty.Bool (pos 1)) ∷ plain (instr.Store ty.Bool (plan.offset (c.args.slot + c.loop-k.k))) ∷ goto c.args.join ∷ [] in
    let step : c.args.slot + c.loop-k.k + 1 ≡ c.args.slot + (c.loop-k.k + 1) = omega arith in
    each_step piece _ c.loop-k.sheet c.add_set_end.new.sheet c.loop-k.k own c.args.branches.now (omega arith) (λ n ns. ap (λ (j : ℕ). own ++ set_ends plan labels (c.loop-k.k + 1) j c.args.join ns) step) c.loop-k.invariant c.in_ok-add_set_end.ensures

pub returns : goal.returns
returns g c =
    let plan : Plan = planned (g.P.Places.planned c.args.places.now) c.args.gates.now in
    let labels = c.args.labels.now in
    let piece : ℕ → List ℕ → List Line = λ (k : ℕ) (ns : List ℕ). set_ends plan labels k (c.args.slot + k) c.args.join ns in
    branches_over (piece c.loop-k.k) _ c.loop-k.sheet c.loop-k.k c.args.branches.now (omega arith) refl c.loop-k.invariant

pub loop-k-init : goal.loop-k-init
loop-k-init g c =
    let plan : Plan = planned (g.P.Places.planned c.args.places.now) c.args.gates.now in
    let labels = c.args.labels.now in
    let piece : ℕ → List ℕ → List Line = λ (k : ℕ) (ns : List ℕ). set_ends plan labels k (c.args.slot + k) c.args.join ns in
    let start : c.args.slot ≡ c.args.slot + 0 = omega arith in
    ap (λ (j : ℕ). with_lines c.args.sheet.now (c.args.sheet.now.lines ++ set_ends plan labels 0 j c.args.join (nodes_of c.args.branches.now))) start
