use Rattle.std.proofs.Common.{◌≡◌, ◌+◌, sym, ◌∙◌, subst, true, false, arith}
use Rattle.ceu_mem.specs.declared.gate.Gate.{Gate}
use Rattle.ceu_isa.specs.Layout.{gate_of, is_taken}
use Rattle.ceu_machine.proofs.Lists.{is_taken_yes, is_taken_no, some_taken_none, some_taken_here, some_taken_next}
use Rattle.ceu_machine.proofs.pools.some_taken.Goals as goal

pub returns-then-gate-ne0 : goal.returns-then-gate-ne0
returns-then-gate-ne0 c =
    let taken : is_taken (gate_of c.args.image.now c.args.mem.now.bytes (c.args.from + c.loop-i.i)) ≡ true = subst (λ (g : Gate). is_taken g ≡ true) c.gate.ensures.value (is_taken_yes c.gate.result c.if-gate-ne0.true) in
    sym (c.loop-i.invariant ∙ some_taken_here _ _ _ _ (omega arith) taken)

pub loop-i-preserved : goal.loop-i-preserved
loop-i-preserved c =
    let taken : is_taken (gate_of c.args.image.now c.args.mem.now.bytes (c.args.from + c.loop-i.i)) ≡ false = subst (λ (g : Gate). is_taken g ≡ false) c.gate.ensures.value (is_taken_no c.gate.result c.if-gate-ne0.false) in
    c.loop-i.invariant ∙ some_taken_next _ _ _ _ _ _ (omega arith) (omega arith) taken

pub returns : goal.returns
returns c = sym (c.loop-i.invariant ∙ some_taken_none _ _ _ _ (omega arith))
