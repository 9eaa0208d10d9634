use Rattle.std.proofs.Common.{refl}
use Rattle.ceu_grammar.proofs.Modes as mode
use Rattle.ceu_grammar.proofs.Moved.{refused}
use Rattle.ceu_grammar.proofs.declarations.declared.Goals as goal

pub returns-in-Type : goal.returns-in-Type
returns-in-Type c = rw c.in-Var.is (rw c.in-Type.is (rw c.new.ensures refl))

pub returns-in-Ampersand : goal.returns-in-Ampersand
returns-in-Ampersand c = rw c.in-Var.is (rw c.in-Ampersand.is (refl))

pub returns-in_default : goal.returns-in_default
returns-in_default c = rw c.in-Var.is (refused _ _ _ c.refuse.ensures (mode.declared_Var c.args.kind c.args.pos c.args.stack.now c.in_default.not-Type c.in_default.not-Ampersand))

pub returns-in-Question : goal.returns-in-Question
returns-in-Question c = rw c.in-AliasMark.is (rw c.in-Question.is (refl))

pub returns-in_default-kind : goal.returns-in_default-kind
returns-in_default-kind c = rw c.in-AliasMark.is (refused _ _ _ c.refuse-in_default-kind.ensures (mode.declared_AliasMark c.args.kind c.args.pos c.args.stack.now c.in_default-kind.not-Question))

pub returns-in-Abs : goal.returns-in-Abs
returns-in-Abs c = rw c.in-AliasCode.is (rw c.in-Abs.is (rw c.ident.ensures refl))

pub returns-in_default-kind-2 : goal.returns-in_default-kind-2
returns-in_default-kind-2 c = rw c.in-AliasCode.is (refused _ _ _ c.refuse-in_default-kind-2.ensures (mode.declared_AliasCode c.args.kind c.args.pos c.args.stack.now c.in_default-kind-2.not-Abs))

pub returns-in-Lower : goal.returns-in-Lower
returns-in-Lower c = rw c.in-AliasName.is (rw c.in-Lower.is (rw c.ident-in-Lower.ensures refl))

pub returns-in_default-kind-3 : goal.returns-in_default-kind-3
returns-in_default-kind-3 c = rw c.in-AliasName.is (refused _ _ _ c.refuse-in_default-kind-3.ensures (mode.declared_AliasName c.in-AliasName.code c.args.kind c.args.pos c.args.stack.now c.in_default-kind-3.not-Lower))

pub returns-in-Semicolon : goal.returns-in-Semicolon
returns-in-Semicolon c = rw c.in-AliasValue.is (rw c.in-Semicolon.is (c.closed.ensures))

pub returns-in-Assign : goal.returns-in-Assign
returns-in-Assign c = rw c.in-AliasValue.is (rw c.in-Assign.is (c.pushed.ensures))

pub returns-in_default-kind-4 : goal.returns-in_default-kind-4
returns-in_default-kind-4 c = rw c.in-AliasValue.is (refused _ _ _ c.refuse-in_default-kind-4.ensures (mode.declared_AliasValue c.in-AliasValue.code c.in-AliasValue.x c.args.kind c.args.pos c.args.stack.now c.in_default-kind-4.not-Semicolon c.in_default-kind-4.not-Assign))

pub returns-in-Spawn : goal.returns-in-Spawn
returns-in-Spawn c = rw c.in-AliasSpawn.is (rw c.in-Spawn.is (c.pushed-in-Spawn.ensures))

pub returns-in_default-kind-5 : goal.returns-in_default-kind-5
returns-in_default-kind-5 c = rw c.in-AliasSpawn.is (refused _ _ _ c.refuse-in_default-kind-5.ensures (mode.declared_AliasSpawn c.args.kind c.args.pos c.args.stack.now c.in_default-kind-5.not-Spawn))

pub returns-in-Lower-kind : goal.returns-in-Lower-kind
returns-in-Lower-kind c = rw c.in-Item.is (rw c.in-Lower-kind.is (rw c.ident-in-Lower-kind.ensures refl))

pub returns-in_default-kind-6 : goal.returns-in_default-kind-6
returns-in_default-kind-6 c = rw c.in-Item.is (refused _ _ _ c.refuse-in_default-kind-6.ensures (mode.declared_Item c.in-Item.ty c.in-Item.items c.args.kind c.args.pos c.args.stack.now c.in_default-kind-6.not-Lower))

pub returns-in-ItemValue : goal.returns-in-ItemValue
returns-in-ItemValue c = rw c.in-ItemValue.is (c.item_value.ensures)

pub returns-in-Comma : goal.returns-in-Comma
returns-in-Comma c = rw c.in-ItemEnd.is (rw c.in-Comma.is (refl))

pub returns-in_default-kind-7 : goal.returns-in_default-kind-7
returns-in_default-kind-7 c = rw c.in-ItemEnd.is (rw (mode.declared_ItemEnd c.in-ItemEnd.ty c.in-ItemEnd.items c.args.kind c.args.pos c.args.stack.now c.in_default-kind-7.not-Comma) ((c.item_end.ensures)))

pub returns-in-Type-kind : goal.returns-in-Type-kind
returns-in-Type-kind c = rw c.in-EventType.is (rw c.in-Type-kind.is (rw c.new-in-Type-kind.ensures refl))

pub returns-in_default-kind-8 : goal.returns-in_default-kind-8
returns-in_default-kind-8 c = rw c.in-EventType.is (refused _ _ _ c.refuse-in_default-kind-8.ensures (mode.declared_EventType c.args.kind c.args.pos c.args.stack.now c.in_default-kind-8.not-Type))

pub returns-in-Type-kind-2 : goal.returns-in-Type-kind-2
returns-in-Type-kind-2 c = rw c.in-InputType.is (rw c.in-Type-kind-2.is (rw c.new-in-Type-kind-2.ensures refl))

pub returns-in_default-kind-9 : goal.returns-in_default-kind-9
returns-in_default-kind-9 c = rw c.in-InputType.is (refused _ _ _ c.refuse-in_default-kind-9.ensures (mode.declared_InputType c.args.kind c.args.pos c.args.stack.now c.in_default-kind-9.not-Type))

pub returns-in-Type-kind-3 : goal.returns-in-Type-kind-3
returns-in-Type-kind-3 c = rw c.in-OutputType.is (rw c.in-Type-kind-3.is (rw c.new-in-Type-kind-3.ensures refl))

pub returns-in_default-kind-10 : goal.returns-in_default-kind-10
returns-in_default-kind-10 c = rw c.in-OutputType.is (refused _ _ _ c.refuse-in_default-kind-10.ensures (mode.declared_OutputType c.args.kind c.args.pos c.args.stack.now c.in_default-kind-10.not-Type))

pub returns-in-Name : goal.returns-in-Name
returns-in-Name c = rw c.in-Name.is (rw c.case_of.ensures at (c.of_name.ensures c.args.stack.now))

pub returns-in-NameEnd : goal.returns-in-NameEnd
returns-in-NameEnd c = rw c.in-NameEnd.is (c.name_end.ensures)

pub returns-in-OpenBracket : goal.returns-in-OpenBracket
returns-in-OpenBracket c = rw c.in-Pool.is (rw c.in-OpenBracket.is (refl))

pub returns-in_default-kind-11 : goal.returns-in_default-kind-11
returns-in_default-kind-11 c = rw c.in-Pool.is (refused _ _ _ c.refuse-in_default-kind-11.ensures (mode.declared_Pool c.args.kind c.args.pos c.args.stack.now c.in_default-kind-11.not-OpenBracket))

pub returns-in-Number : goal.returns-in-Number
returns-in-Number c = rw c.in-PoolCount.is (rw c.in-Number.is (rw c.saturated.ensures refl))

pub returns-in_default-kind-12 : goal.returns-in_default-kind-12
returns-in_default-kind-12 c = rw c.in-PoolCount.is (refused _ _ _ c.refuse-in_default-kind-12.ensures (mode.declared_PoolCount c.args.kind c.args.pos c.args.stack.now c.in_default-kind-12.not-Number))

pub returns-in-CloseBracket : goal.returns-in-CloseBracket
returns-in-CloseBracket c = rw c.in-PoolClose.is (rw c.in-CloseBracket.is (refl))

pub returns-in_default-kind-13 : goal.returns-in_default-kind-13
returns-in_default-kind-13 c = rw c.in-PoolClose.is (refused _ _ _ c.refuse-in_default-kind-13.ensures (mode.declared_PoolClose c.in-PoolClose.n c.args.kind c.args.pos c.args.stack.now c.in_default-kind-13.not-CloseBracket))

pub returns-in-Abs-kind : goal.returns-in-Abs-kind
returns-in-Abs-kind c = rw c.in-PoolCode.is (rw c.in-Abs-kind.is (rw c.ident-in-Abs-kind.ensures refl))

pub returns-in_default-kind-14 : goal.returns-in_default-kind-14
returns-in_default-kind-14 c = rw c.in-PoolCode.is (refused _ _ _ c.refuse-in_default-kind-14.ensures (mode.declared_PoolCode c.in-PoolCode.n c.args.kind c.args.pos c.args.stack.now c.in_default-kind-14.not-Abs))

pub returns-in-Lower-kind-2 : goal.returns-in-Lower-kind-2
returns-in-Lower-kind-2 c = rw c.in-PoolName.is (rw c.in-Lower-kind-2.is (rw c.ident-in-Lower-kind-2.ensures refl))

pub returns-in_default-kind-15 : goal.returns-in_default-kind-15
returns-in_default-kind-15 c = rw c.in-PoolName.is (refused _ _ _ c.refuse-in_default-kind-15.ensures (mode.declared_PoolName c.in-PoolName.n c.in-PoolName.code c.args.kind c.args.pos c.args.stack.now c.in_default-kind-15.not-Lower))
