use Rattle.std.proofs.Common.{refl}
use Rattle.ceu_grammar.proofs.Modes as mode
use Rattle.ceu_grammar.proofs.Moved.{refused, exhausted}
use Rattle.ceu_grammar.proofs.openings.opening.Goals as goal

pub returns-in-Do : goal.returns-in-Do
returns-in-Do c = rw c.in-Do.is (c.of_do.ensures)

pub returns-in-Under : goal.returns-in-Under
returns-in-Under c = rw c.in-DoLabel.is (rw c.in-Under.is (c.opened.ensures))

pub returns-in-Lower : goal.returns-in-Lower
returns-in-Lower c = rw c.in-DoLabel.is (rw c.in-Lower.is (rw c.ident.ensures at c.opened-in-Lower.ensures))

pub returns-in_default : goal.returns-in_default
returns-in_default c = rw c.in-DoLabel.is (refused _ _ _ c.refuse.ensures (mode.opening_DoLabel c.args.kind c.args.pos c.args.stack.now c.in_default.not-Under c.in_default.not-Lower))

pub returns-in-With : goal.returns-in-With
returns-in-With c = rw c.in-Finalize.is (rw c.in-With.is (c.opened-in-With.ensures))

pub returns-in_default-kind : goal.returns-in_default-kind
returns-in_default-kind c = rw c.in-Finalize.is (refused _ _ _ c.refuse-in_default-kind.ensures (mode.opening_Finalize c.args.kind c.args.pos c.args.stack.now c.in_default-kind.not-With))

pub returns-in-Slash : goal.returns-in-Slash
returns-in-Slash c = rw c.in-Else.is (rw c.in-Slash.is (refl))

pub returns-in-If : goal.returns-in-If
returns-in-If c = rw c.in-ElseIf.is (rw c.in-If.is (c.pushed.ensures))

pub returns-in_default-kind-3 : goal.returns-in_default-kind-3
returns-in_default-kind-3 c = rw c.in-ElseIf.is (refused _ _ _ c.refuse-in_default-kind-3.ensures (mode.opening_ElseIf c.in-ElseIf.arms c.args.kind c.args.pos c.args.stack.now c.in_default-kind-3.not-If))

pub returns-in-Do-kind : goal.returns-in-Do-kind
returns-in-Do-kind c = rw c.in-WatchingDo.is (rw c.in-Do-kind.is (c.opened-in-Do-kind.ensures))

pub returns-in_default-kind-4 : goal.returns-in_default-kind-4
returns-in_default-kind-4 c = rw c.in-WatchingDo.is (refused _ _ _ c.refuse-in_default-kind-4.ensures (mode.opening_WatchingDo c.in-WatchingDo.target c.args.kind c.args.pos c.args.stack.now c.in_default-kind-4.not-Do))

pub returns-in-Slash-kind : goal.returns-in-Slash-kind
returns-in-Slash-kind c = rw c.in-Par.is (rw c.in-Slash-kind.is (refl))

pub returns-in-Do-kind-2 : goal.returns-in-Do-kind-2
returns-in-Do-kind-2 c = rw c.in-Par.is (rw c.in-Do-kind-2.is (c.opened-in-Do-kind-2.ensures))

pub returns-in_default-kind-5 : goal.returns-in_default-kind-5
returns-in_default-kind-5 c = rw c.in-Par.is (refused _ _ _ c.refuse-in_default-kind-5.ensures (mode.opening_Par c.args.kind c.args.pos c.args.stack.now c.in_default-kind-5.not-Slash c.in_default-kind-5.not-Do))

pub returns-in-Or : goal.returns-in-Or
returns-in-Or c = rw c.in-ParWord.is (rw c.in-Or.is (refl))

pub returns-in-And : goal.returns-in-And
returns-in-And c = rw c.in-ParWord.is (rw c.in-And.is (refl))

pub returns-in_default-kind-6 : goal.returns-in_default-kind-6
returns-in_default-kind-6 c = rw c.in-ParWord.is (refused _ _ _ c.refuse-in_default-kind-6.ensures (mode.opening_ParWord c.args.kind c.args.pos c.args.stack.now c.in_default-kind-6.not-Or c.in_default-kind-6.not-And))

pub returns-in-Do-kind-3 : goal.returns-in-Do-kind-3
returns-in-Do-kind-3 c = rw c.in-ParDo.is (rw c.in-Do-kind-3.is (c.opened-in-Do-kind-3.ensures))

pub returns-in_default-kind-7 : goal.returns-in_default-kind-7
returns-in_default-kind-7 c = rw c.in-ParDo.is (refused _ _ _ c.refuse-in_default-kind-7.ensures (mode.opening_ParDo c.in-ParDo.par c.args.kind c.args.pos c.args.stack.now c.in_default-kind-7.not-Do))

pub returns-in-OpenParen : goal.returns-in-OpenParen
returns-in-OpenParen c = rw c.in-Async.is (rw c.in-OpenParen.is (refl))

pub returns-in-Do-kind-4 : goal.returns-in-Do-kind-4
returns-in-Do-kind-4 c = rw c.in-Async.is (rw c.in-Do-kind-4.is (rw c.new-in-Do-kind-4.ensures at c.opened-in-Do-kind-4.ensures))

pub returns-in_default-kind-8 : goal.returns-in_default-kind-8
returns-in_default-kind-8 c = rw c.in-Async.is (refused _ _ _ c.refuse-in_default-kind-8.ensures (mode.opening_Async c.args.kind c.args.pos c.args.stack.now c.in_default-kind-8.not-OpenParen c.in_default-kind-8.not-Do))

pub returns-in-CloseParen : goal.returns-in-CloseParen
returns-in-CloseParen c = rw c.in-AsyncOpen.is (rw c.in-CloseParen.is (rw c.new-in-CloseParen.ensures refl))

pub returns-in-Lower-kind : goal.returns-in-Lower-kind
returns-in-Lower-kind c = rw c.in-AsyncOpen.is (rw c.in-Lower-kind.is (c.shared.ensures c.args.stack.now))

pub returns-in_default-kind-9 : goal.returns-in_default-kind-9
returns-in_default-kind-9 c = rw c.in-AsyncOpen.is (refused _ _ _ c.refuse-in_default-kind-9.ensures (mode.opening_AsyncOpen c.args.kind c.args.pos c.args.stack.now c.in_default-kind-9.not-CloseParen c.in_default-kind-9.not-Lower))

pub returns-in-Do-kind-5 : goal.returns-in-Do-kind-5
returns-in-Do-kind-5 c = rw c.in-AsyncDo.is (rw c.in-Do-kind-5.is (c.opened-in-Do-kind-5.ensures))

pub returns-in_default-kind-10 : goal.returns-in_default-kind-10
returns-in_default-kind-10 c = rw c.in-AsyncDo.is (refused _ _ _ c.refuse-in_default-kind-10.ensures (mode.opening_AsyncDo c.in-AsyncDo.names c.args.kind c.args.pos c.args.stack.now c.in_default-kind-10.not-Do))

pub returns-in-Ok : goal.returns-in-Ok
returns-in-Ok c = rw c.in-Else.is (rw (mode.opening_Else c.in-Else.arms c.args.kind c.args.pos c.args.stack.now c.in_default-kind-2.not-Slash) ((rw (c.in-Ok.ensures.ok, c.new.ensures) at c.in_block.ensures)))

pub returns-in-Err : goal.returns-in-Err
returns-in-Err c = rw c.in-Else.is (exhausted _ _ _ c.exhaust.ensures)
