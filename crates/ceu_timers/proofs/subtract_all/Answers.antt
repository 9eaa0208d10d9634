use Rattle.std.proofs.Common.{ℕ, ap, ◌∙◌, arith}
use Rattle.ceu_isa.specs.Commands.{is_timer, sooner}
use Rattle.ceu_isa.specs.Layout.{each_gate}
use Rattle.ceu_timers.proofs.Bytes.{each_none, step_with, step_without}
use Rattle.ceu_timers.proofs.Clock.{begins, passes_with, passes_without}
use Rattle.ceu_timers.proofs.subtract_all.Goals as goal
use Rattle.ceu_timers.proofs.subtract_all.Goals.{then-gate-eq-TIMER, else-gate-eq-TIMER}

pub loop-g-init : goal.loop-g-init
loop-g-init c = record { passed = begins c.args.mem.now c.args.image.now.gates c.args.d; bytes = each_none c.args.image.now c.args.d c.args.mem.now.bytes }

pub loop-g-preserved : goal.loop-g-preserved
loop-g-preserved c =
    let old = c.args.mem.now in
    let passed = c.loop-g.invariant.passed in
    let at = c.loop-g.invariant.passed.place ∙ c.requires.made.gates in
    elim c.if-gate-eq-TIMER.branch [
      | then-gate-eq-TIMER w ↦
          rw w.mem-is (record {
            passed = passes_with c.args.mem.now c.loop-g.mem c.args.image.now.gates c.loop-g.g c.args.d passed c.gate-gate.result c.gate-gate.ensures.value w.if-gate-eq-TIMER.true c.gate-gate.ensures.fits
                (omega (arith, c.loop-g.invariant.passed.size, c.loop-g.invariant.passed.place, c.requires.made.gates, c.requires.made.size)) w.set_gate.new.self w.set_gate.ensures.bytes w.set_gate.ensures.gates;
            bytes = step_with c.args.image.now c.loop-g.mem w.set_gate.new.self.bytes c.args.mem.now.bytes c.args.d c.loop-g.g c.gate-gate.result at c.loop-g.invariant.bytes c.gate-gate.ensures.value w.if-gate-eq-TIMER.true w.set_gate.ensures.bytes;
          })
      | else-gate-eq-TIMER w ↦
          rw w.mem-is (record {
            passed = passes_without c.args.mem.now c.loop-g.mem c.args.image.now.gates c.loop-g.g c.args.d passed c.gate-gate.result c.gate-gate.ensures.value w.if-gate-eq-TIMER.false;
            bytes = step_without c.args.image.now c.loop-g.mem c.args.mem.now.bytes c.args.d c.loop-g.g c.gate-gate.result at c.loop-g.invariant.bytes c.gate-gate.ensures.value w.if-gate-eq-TIMER.false;
          })
    ]

pub returns-clause-bytes : goal.returns-clause-bytes
returns-clause-bytes c = c.loop-g.invariant.bytes ∙ ap (λ (n : ℕ). each_gate c.args.image.now is_timer (sooner c.args.d) n c.args.mem.now.bytes) (omega arith)
