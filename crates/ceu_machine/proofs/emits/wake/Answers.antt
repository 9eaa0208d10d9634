use Rattle.std.proofs.Common.{◌∙◌, ap, sym, List, ℕ, arith}
use Rattle.ceu_isa.specs.Layout.{each_gate, one_gate}
use Rattle.ceu_isa.specs.Trails.{waits_for, woken_at, woken}
use Rattle.ceu_machine.proofs.EachGate.{each_gate_none, each_gate_more}
use Rattle.ceu_machine.proofs.emits.wake.Goals as goal

pub loop-g-init : goal.loop-g-init
loop-g-init c = (sym (each_gate_none _ _ _ _), c.requires.made)

pub loop-g-preserved : goal.loop-g-preserved
loop-g-preserved c = (
  c.wake_gate.ensures.bytes ∙ ap (λ (b : List ℕ). one_gate c.args.image.now (waits_for c.args.event c.args.frame) (woken_at c.args.level c.args.value) c.loop-g.g b) c.loop-g.invariant.0
      ∙ each_gate_more c.args.image.now (waits_for c.args.event c.args.frame) (woken_at c.args.level c.args.value) c.loop-g.g c.args.mem.now.bytes,
  c.wake_gate.ensures.made,
)

pub returns-clause-bytes : goal.returns-clause-bytes
unfolding woken
returns-clause-bytes c = c.loop-g.invariant.0 ∙ ap (λ (n : ℕ). each_gate c.args.image.now (waits_for c.args.event c.args.frame) (woken_at c.args.level c.args.value) n c.args.mem.now.bytes) (omega arith)
