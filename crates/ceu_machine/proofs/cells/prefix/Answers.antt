use Rattle.std.proofs.Common.{◌≡◌, sym, subst, rules, FitsSigned}
use Rattle.std.specs.Int.{w128}
use Rattle.ceu_isa.specs.Effects.{Effect}
use Rattle.ceu_isa.specs.Cells.{prefix_row, answered}
use Rattle.ceu_machine.specs.Holding.{GoesOrFaults, IsRight}
use Rattle.ceu_machine.proofs.Rights.{prefix_is}
use Rattle.ceu_machine.proofs.cells.prefix.Goals as goal

pub push_answer-requires-clause-right : goal.push_answer-requires-clause-right
push_answer-requires-clause-right c =
    let fits : FitsSigned w128 c.pop-a.result = search rules in
    let is : prefix_row c.args.image.now c.args.op c.args.ty c.args.position c.args.regs.now c.args.mem.now.bytes ≡ answered c.args.image.now c.place-pos.result c.apply1.result c.pop-a.new.regs c.args.mem.now.bytes = prefix_is c.args.image.now c.args.op c.args.ty c.args.position c.args.regs.now c.args.mem.now.bytes c.place-pos.result c.pop-a.result c.pop-a.new.regs c.apply1.result c.place-pos.ensures c.pop-a.ensures.popped fits c.apply1.ensures c.requires.right in
    subst IsRight is c.requires.right

pub returns-clause-effect : goal.returns-clause-effect
returns-clause-effect c =
    let fits : FitsSigned w128 c.pop-a.result = search rules in
    let is : prefix_row c.args.image.now c.args.op c.args.ty c.args.position c.args.regs.now c.args.mem.now.bytes ≡ answered c.args.image.now c.place-pos.result c.apply1.result c.pop-a.new.regs c.args.mem.now.bytes = prefix_is c.args.image.now c.args.op c.args.ty c.args.position c.args.regs.now c.args.mem.now.bytes c.place-pos.result c.pop-a.result c.pop-a.new.regs c.apply1.result c.place-pos.ensures c.pop-a.ensures.popped fits c.apply1.ensures c.requires.right in
    subst (λ (e : Effect). GoesOrFaults e c.push_answer.result c.push_answer.new.regs c.args.mem.now.bytes c.push_answer.new.mem.bytes) (sym is) c.push_answer.ensures.effect
