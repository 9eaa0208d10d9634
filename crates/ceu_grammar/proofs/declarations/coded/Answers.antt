use Rattle.std.proofs.Common.{refl}
use Rattle.ceu_grammar.proofs.Modes as mode
use Rattle.ceu_grammar.proofs.Moved.{refused}
use Rattle.ceu_grammar.proofs.declarations.coded.Goals as goal

pub returns-in-Slash-kind : goal.returns-in-Slash-kind
returns-in-Slash-kind c = rw c.in-Slash.is (rw c.in-Slash-kind.is (refl))

pub returns-in_default : goal.returns-in_default
returns-in_default c = rw c.in-Slash.is (refused _ _ _ c.refuse.ensures (mode.coded_Slash c.args.kind c.args.pos c.args.stack.now c.in_default.not-Slash))

pub returns-in-Await-kind : goal.returns-in-Await-kind
returns-in-Await-kind c = rw c.in-Await.is (rw c.in-Await-kind.is (refl))

pub returns-in_default-kind : goal.returns-in_default-kind
returns-in_default-kind c = rw c.in-Await.is (refused _ _ _ c.refuse-in_default-kind.ensures (mode.coded_Await c.args.kind c.args.pos c.args.stack.now c.in_default-kind.not-Await))

pub returns-in-Abs : goal.returns-in-Abs
returns-in-Abs c = rw c.in-Name.is (rw c.in-Abs.is (rw c.ident.ensures refl))

pub returns-in_default-kind-2 : goal.returns-in_default-kind-2
returns-in_default-kind-2 c = rw c.in-Name.is (refused _ _ _ c.refuse-in_default-kind-2.ensures (mode.coded_Name c.args.kind c.args.pos c.args.stack.now c.in_default-kind-2.not-Abs))

pub returns-in-OpenParen : goal.returns-in-OpenParen
returns-in-OpenParen c = rw c.in-Open.is (rw c.in-OpenParen.is (refl))

pub returns-in_default-kind-3 : goal.returns-in_default-kind-3
returns-in_default-kind-3 c = rw c.in-Open.is (refused _ _ _ c.refuse-in_default-kind-3.ensures (mode.coded_Open c.in-Open.code c.args.kind c.args.pos c.args.stack.now c.in_default-kind-3.not-OpenParen))

pub returns-in-Params : goal.returns-in-Params
returns-in-Params c = rw c.in-Params.is (c.params.ensures c.args.stack.now)

pub returns-in-CloseParen : goal.returns-in-CloseParen
returns-in-CloseParen c = rw c.in-NoParams.is (rw c.in-CloseParen.is (rw c.new.ensures refl))

pub returns-in_default-kind-4 : goal.returns-in_default-kind-4
returns-in_default-kind-4 c = rw c.in-NoParams.is (refused _ _ _ c.refuse-in_default-kind-4.ensures (mode.coded_NoParams c.in-NoParams.code c.args.kind c.args.pos c.args.stack.now c.in_default-kind-4.not-CloseParen))

pub returns-in-Var : goal.returns-in-Var
returns-in-Var c = rw c.in-Param.is (rw c.in-Var.is (refl))

pub returns-in_default-kind-5 : goal.returns-in_default-kind-5
returns-in_default-kind-5 c = rw c.in-Param.is (refused _ _ _ c.refuse-in_default-kind-5.ensures (mode.coded_Param c.in-Param.code c.in-Param.params c.args.kind c.args.pos c.args.stack.now c.in_default-kind-5.not-Var))

pub returns-in-Type : goal.returns-in-Type
returns-in-Type c = rw c.in-ParamType.is (rw c.in-Type.is (refl))

pub returns-in_default-kind-6 : goal.returns-in_default-kind-6
returns-in_default-kind-6 c = rw c.in-ParamType.is (refused _ _ _ c.refuse-in_default-kind-6.ensures (mode.coded_ParamType c.in-ParamType.code c.in-ParamType.params c.args.kind c.args.pos c.args.stack.now c.in_default-kind-6.not-Type))

pub returns-in-Lower : goal.returns-in-Lower
returns-in-Lower c = rw c.in-ParamName.is (rw c.in-Lower.is (rw c.ident-in-Lower.ensures at (c.param_on.ensures c.args.stack.now)))

pub returns-in_default-kind-7 : goal.returns-in_default-kind-7
returns-in_default-kind-7 c = rw c.in-ParamName.is (refused _ _ _ c.refuse-in_default-kind-7.ensures (mode.coded_ParamName c.in-ParamName.code c.in-ParamName.params c.in-ParamName.ty c.args.kind c.args.pos c.args.stack.now c.in_default-kind-7.not-Lower))

pub returns-in-Comma : goal.returns-in-Comma
returns-in-Comma c = rw c.in-ParamEnd.is (rw c.in-Comma.is (refl))

pub returns-in-CloseParen-kind : goal.returns-in-CloseParen-kind
returns-in-CloseParen-kind c = rw c.in-ParamEnd.is (rw c.in-CloseParen-kind.is (refl))

pub returns-in_default-kind-8 : goal.returns-in_default-kind-8
returns-in_default-kind-8 c = rw c.in-ParamEnd.is (refused _ _ _ c.refuse-in_default-kind-8.ensures (mode.coded_ParamEnd c.in-ParamEnd.code c.in-ParamEnd.params c.args.kind c.args.pos c.args.stack.now c.in_default-kind-8.not-Comma c.in_default-kind-8.not-CloseParen))

pub returns-in-Arrow-kind : goal.returns-in-Arrow-kind
returns-in-Arrow-kind c = rw c.in-Arrow.is (rw c.in-Arrow-kind.is (refl))

pub returns-in_default-kind-9 : goal.returns-in_default-kind-9
returns-in_default-kind-9 c = rw c.in-Arrow.is (refused _ _ _ c.refuse-in_default-kind-9.ensures (mode.coded_Arrow c.in-Arrow.code c.in-Arrow.params c.args.kind c.args.pos c.args.stack.now c.in_default-kind-9.not-Arrow))

pub returns-in-Type-kind : goal.returns-in-Type-kind
returns-in-Type-kind c = rw c.in-Result.is (rw c.in-Type-kind.is (refl))

pub returns-in_default-kind-10 : goal.returns-in_default-kind-10
returns-in_default-kind-10 c = rw c.in-Result.is (refused _ _ _ c.refuse-in_default-kind-10.ensures (mode.coded_Result c.in-Result.code c.in-Result.params c.args.kind c.args.pos c.args.stack.now c.in_default-kind-10.not-Type))

pub returns-in-Do-kind : goal.returns-in-Do-kind
returns-in-Do-kind c = rw c.in-Do.is (rw c.in-Do-kind.is (c.opened.ensures))

pub returns-in_default-kind-11 : goal.returns-in_default-kind-11
returns-in_default-kind-11 c = rw c.in-Do.is (refused _ _ _ c.refuse-in_default-kind-11.ensures (mode.coded_Do c.in-Do.code c.in-Do.params c.in-Do.ty c.args.kind c.args.pos c.args.stack.now c.in_default-kind-11.not-Do))
