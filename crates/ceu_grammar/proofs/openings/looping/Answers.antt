use Rattle.std.proofs.Common.{refl}
use Rattle.ceu_grammar.proofs.Modes as mode
use Rattle.ceu_grammar.proofs.Moved.{refused}
use Rattle.ceu_grammar.proofs.openings.looping.Goals as goal

pub returns-in-Slash : goal.returns-in-Slash
returns-in-Slash c = rw c.in-Loop.is (rw c.in-Slash.is (refl))

pub returns-in-Do : goal.returns-in-Do
returns-in-Do c = rw c.in-Loop.is (rw c.in-Do.is (c.opened.ensures))

pub returns-in-Lower : goal.returns-in-Lower
returns-in-Lower c = rw c.in-Loop.is (rw c.in-Lower.is (rw c.ident.ensures refl))

pub returns-in_default : goal.returns-in_default
returns-in_default c = rw c.in-Loop.is (refused _ _ _ c.refuse.ensures (mode.looping_Loop c.args.kind c.args.pos c.args.stack.now c.in_default.not-Slash c.in_default.not-Do c.in_default.not-Lower))

pub returns-in-Number : goal.returns-in-Number
returns-in-Number c = rw c.in-Count.is (rw c.in-Number.is (rw c.saturated.ensures refl))

pub returns-in_default-kind : goal.returns-in_default-kind
returns-in_default-kind c = rw c.in-Count.is (refused _ _ _ c.refuse-in_default-kind.ensures (mode.looping_Count c.args.kind c.args.pos c.args.stack.now c.in_default-kind.not-Number))

pub returns-in-Do-kind : goal.returns-in-Do-kind
returns-in-Do-kind c = rw c.in-CountDo.is (rw c.in-Do-kind.is (c.opened-in-Do-kind.ensures))

pub returns-in_default-kind-2 : goal.returns-in_default-kind-2
returns-in_default-kind-2 c = rw c.in-CountDo.is (refused _ _ _ c.refuse-in_default-kind-2.ensures (mode.looping_CountDo c.in-CountDo.n c.args.kind c.args.pos c.args.stack.now c.in_default-kind-2.not-Do))

pub returns-in-In : goal.returns-in-In
returns-in-In c = rw c.in-RangeIn.is (rw c.in-In.is (refl))

pub returns-in_default-kind-3 : goal.returns-in_default-kind-3
returns-in_default-kind-3 c = rw c.in-RangeIn.is (refused _ _ _ c.refuse-in_default-kind-3.ensures (mode.looping_RangeIn c.in-RangeIn.x c.args.kind c.args.pos c.args.stack.now c.in_default-kind-3.not-In))

pub returns-in-OpenBracket : goal.returns-in-OpenBracket
returns-in-OpenBracket c = rw c.in-RangeOpen.is (rw c.in-OpenBracket.is (c.pushed.ensures))

pub returns-in-CloseBracket : goal.returns-in-CloseBracket
returns-in-CloseBracket c = rw c.in-RangeOpen.is (rw c.in-CloseBracket.is (c.pushed-in-CloseBracket.ensures))

pub returns-in_default-kind-4 : goal.returns-in_default-kind-4
returns-in_default-kind-4 c = rw c.in-RangeOpen.is (refused _ _ _ c.refuse-in_default-kind-4.ensures (mode.looping_RangeOpen c.in-RangeOpen.x c.args.kind c.args.pos c.args.stack.now c.in_default-kind-4.not-OpenBracket c.in_default-kind-4.not-CloseBracket))

pub returns-in-Do-kind-2 : goal.returns-in-Do-kind-2
returns-in-Do-kind-2 c = rw c.in-RangeDo.is (rw c.in-Do-kind-2.is (c.opened-in-Do-kind-2.ensures))

pub returns-in_default-kind-5 : goal.returns-in_default-kind-5
returns-in_default-kind-5 c = rw c.in-RangeDo.is (refused _ _ _ c.refuse-in_default-kind-5.ensures (mode.looping_RangeDo c.in-RangeDo.x c.in-RangeDo.open_a c.in-RangeDo.a c.in-RangeDo.b c.in-RangeDo.open_b c.args.kind c.args.pos c.args.stack.now c.in_default-kind-5.not-Do))

pub returns-in-Every : goal.returns-in-Every
returns-in-Every c = rw c.in-Every.is (c.of_every.ensures)

pub returns-in-In-kind : goal.returns-in-In-kind
returns-in-In-kind c = rw c.in-EveryIn.is (rw c.in-In-kind.is (c.pushed-in-In-kind.ensures))

pub returns-in-Do-kind-3 : goal.returns-in-Do-kind-3
returns-in-Do-kind-3 c = rw c.in-EveryIn.is (rw c.in-Do-kind-3.is (c.opened-in-Do-kind-3.ensures))

pub returns-in_default-kind-6 : goal.returns-in_default-kind-6
returns-in_default-kind-6 c = rw c.in-EveryIn.is (refused _ _ _ c.refuse-in_default-kind-6.ensures (mode.looping_EveryIn c.in-EveryIn.x c.args.kind c.args.pos c.args.stack.now c.in_default-kind-6.not-In c.in_default-kind-6.not-Do))

pub returns-in-Do-kind-4 : goal.returns-in-Do-kind-4
returns-in-Do-kind-4 c = rw c.in-EveryDo.is (rw c.in-Do-kind-4.is (c.opened-in-Do-kind-4.ensures))

pub returns-in_default-kind-7 : goal.returns-in_default-kind-7
returns-in_default-kind-7 c = rw c.in-EveryDo.is (refused _ _ _ c.refuse-in_default-kind-7.ensures (mode.looping_EveryDo c.in-EveryDo.x c.in-EveryDo.target c.args.kind c.args.pos c.args.stack.now c.in_default-kind-7.not-Do))
