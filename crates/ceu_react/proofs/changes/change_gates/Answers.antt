use Rattle.std.proofs.Common.{◌∙◌, ap, sym, List, ℕ, arith}
use Rattle.ceu_isa.specs.Layout.{each_gate, one_gate}
use Rattle.ceu_machine.proofs.EachGate.{each_gate_none, each_gate_more}
use Rattle.ceu_react.specs.Changes.{affects, changed_by}
use Rattle.ceu_react.proofs.changes.change_gates.Goals as goal

pub loop-g-init : goal.loop-g-init
loop-g-init c = (sym (each_gate_none _ _ _ _), c.requires.made)

pub loop-g-preserved : goal.loop-g-preserved
loop-g-preserved c = (
  c.change_gate.ensures.bytes ∙ ap (λ (b : List ℕ). one_gate c.args.image.now (affects c.args.change) (changed_by c.args.change) c.loop-g.g b) c.loop-g.invariant.0
      ∙ each_gate_more c.args.image.now (affects c.args.change) (changed_by c.args.change) c.loop-g.g c.args.mem.now.bytes,
  c.change_gate.ensures.made,
)

pub returns-clause-bytes : goal.returns-clause-bytes
returns-clause-bytes c = c.loop-g.invariant.0 ∙ ap (λ (n : ℕ). each_gate c.args.image.now (affects c.args.change) (changed_by c.args.change) n c.args.mem.now.bytes) (omega arith)
