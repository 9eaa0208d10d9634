use Rattle.std.proofs.Common.{refl}
use Rattle.ceu_grammar.proofs.Modes as mode
use Rattle.ceu_grammar.proofs.Moved.{refused}
use Rattle.ceu_grammar.proofs.actions.acted.Goals as goal

pub returns-in-Assign-kind : goal.returns-in-Assign-kind
returns-in-Assign-kind c = rw c.in-Assign.is (rw c.in-Assign-kind.is (c.pushed.ensures))

pub returns-in_default : goal.returns-in_default
returns-in_default c = rw c.in-Assign.is (refused _ _ _ c.refuse.ensures (mode.acted_Assign c.in-Assign.x c.args.kind c.args.pos c.args.stack.now c.in_default.not-Assign))

pub returns-in-Source : goal.returns-in-Source
returns-in-Source c = rw c.in-Source.is (c.of_source.ensures)

pub returns-in-Until : goal.returns-in-Until
returns-in-Until c = rw c.in-AwaitEnd.is (rw c.in-Until.is (c.pushed-in-Until.ensures))

pub returns-in-Semicolon : goal.returns-in-Semicolon
returns-in-Semicolon c = rw c.in-AwaitEnd.is (rw c.in-Semicolon.is (c.act_semicolon.ensures))

pub returns-in-Comma : goal.returns-in-Comma
returns-in-Comma c = rw c.in-AwaitEnd.is (rw c.in-Comma.is (c.act_comma.ensures))

pub returns-in_default-kind : goal.returns-in_default-kind
returns-in_default-kind c = rw c.in-AwaitEnd.is (refused _ _ _ c.refuse-in_default-kind.ensures (mode.acted_AwaitEnd c.in-AwaitEnd.target c.args.kind c.args.pos c.args.stack.now c.in_default-kind.not-Until c.in_default-kind.not-Semicolon c.in_default-kind.not-Comma))

pub returns-in-Semicolon-kind : goal.returns-in-Semicolon-kind
returns-in-Semicolon-kind c = rw c.in-ActEnd.is (rw c.in-Semicolon-kind.is (c.act_semicolon-in-Semicolon-kind.ensures))

pub returns-in-Comma-kind : goal.returns-in-Comma-kind
returns-in-Comma-kind c = rw c.in-ActEnd.is (rw c.in-Comma-kind.is (rw c.source_of.ensures at c.act_comma-in-Comma-kind.ensures))

pub returns-in_default-kind-2 : goal.returns-in_default-kind-2
returns-in_default-kind-2 c = rw c.in-ActEnd.is (refused _ _ _ c.refuse-in_default-kind-2.ensures (mode.acted_ActEnd c.in-ActEnd.act c.args.kind c.args.pos c.args.stack.now c.in_default-kind-2.not-Semicolon c.in_default-kind-2.not-Comma))

pub returns-in-Ext : goal.returns-in-Ext
returns-in-Ext c = rw c.in-Emit.is (rw c.in-Ext.is (rw c.ident.ensures refl))

pub returns-in-Lower : goal.returns-in-Lower
returns-in-Lower c = rw c.in-Emit.is (rw c.in-Lower.is (rw c.ident-in-Lower.ensures refl))

pub returns-in-Outer : goal.returns-in-Outer
returns-in-Outer c = rw c.in-Emit.is (rw c.in-Outer.is (refl))

pub returns-in_default-kind-3 : goal.returns-in_default-kind-3
returns-in_default-kind-3 c = rw c.in-Emit.is (refused _ _ _ c.refuse-in_default-kind-3.ensures (mode.acted_Emit c.args.kind c.args.pos c.args.stack.now c.in_default-kind-3.not-Ext c.in_default-kind-3.not-Lower c.in_default-kind-3.not-Outer))

pub returns-in-OpenParen : goal.returns-in-OpenParen
returns-in-OpenParen c = rw c.in-EmitOpen.is (rw c.in-OpenParen.is (refl))

pub returns-in-Semicolon-kind-2 : goal.returns-in-Semicolon-kind-2
returns-in-Semicolon-kind-2 c = rw c.in-EmitOpen.is (rw c.in-Semicolon-kind-2.is (c.closed.ensures))

pub returns-in_default-kind-4 : goal.returns-in_default-kind-4
returns-in_default-kind-4 c = rw c.in-EmitOpen.is (refused _ _ _ c.refuse-in_default-kind-4.ensures (mode.acted_EmitOpen c.in-EmitOpen.x c.args.kind c.args.pos c.args.stack.now c.in_default-kind-4.not-OpenParen c.in_default-kind-4.not-Semicolon))

pub returns-in-EmitValue : goal.returns-in-EmitValue
returns-in-EmitValue c = rw c.in-EmitValue.is (c.of_emit_value.ensures)

pub returns-in-Await : goal.returns-in-Await
returns-in-Await c = rw c.in-Await.is (c.of_await.ensures)

pub returns-in-OpenParen-kind : goal.returns-in-OpenParen-kind
returns-in-OpenParen-kind c = rw c.in-Call.is (rw c.in-OpenParen-kind.is (refl))

pub returns-in_default-kind-5 : goal.returns-in_default-kind-5
returns-in_default-kind-5 c = rw c.in-Call.is (refused _ _ _ c.refuse-in_default-kind-5.ensures (mode.acted_Call c.in-Call.code c.args.kind c.args.pos c.args.stack.now c.in_default-kind-5.not-OpenParen))

pub returns-in-Arguments : goal.returns-in-Arguments
returns-in-Arguments c = rw c.in-Arguments.is (c.of_arguments.ensures)

pub returns-in-Target : goal.returns-in-Target
returns-in-Target c = rw c.in-Target.is (c.of_target.ensures)

pub returns-in-Lower-kind : goal.returns-in-Lower-kind
returns-in-Lower-kind c = rw c.in-Unit.is (rw c.in-Lower-kind.is (c.of_unit.ensures))

pub returns-in_default-kind-6 : goal.returns-in_default-kind-6
returns-in_default-kind-6 c = rw c.in-Unit.is (refused _ _ _ c.refuse-in_default-kind-6.ensures (mode.acted_Unit c.in-Unit.e c.args.kind c.args.pos c.args.stack.now c.in_default-kind-6.not-Lower))

pub returns-in-Abs : goal.returns-in-Abs
returns-in-Abs c = rw c.in-Spawn.is (rw c.in-Abs.is (rw c.ident-in-Abs.ensures refl))

pub returns-in_default-kind-7 : goal.returns-in_default-kind-7
returns-in_default-kind-7 c = rw c.in-Spawn.is (refused _ _ _ c.refuse-in_default-kind-7.ensures (mode.acted_Spawn c.args.kind c.args.pos c.args.stack.now c.in_default-kind-7.not-Abs))

pub returns-in-In : goal.returns-in-In
returns-in-In c = rw c.in-SpawnIn.is (rw c.in-In.is (refl))

pub returns-in_default-kind-8 : goal.returns-in_default-kind-8
returns-in_default-kind-8 c = rw c.in-SpawnIn.is (refused _ _ _ c.refuse-in_default-kind-8.ensures (mode.acted_SpawnIn c.in-SpawnIn.begin c.in-SpawnIn.call c.args.kind c.args.pos c.args.stack.now c.in_default-kind-8.not-In))

pub returns-in-Lower-kind-2 : goal.returns-in-Lower-kind-2
returns-in-Lower-kind-2 c = rw c.in-SpawnPool.is (rw c.in-Lower-kind-2.is (rw c.ident-in-Lower-kind-2.ensures refl))

pub returns-in_default-kind-9 : goal.returns-in_default-kind-9
returns-in_default-kind-9 c = rw c.in-SpawnPool.is (refused _ _ _ c.refuse-in_default-kind-9.ensures (mode.acted_SpawnPool c.in-SpawnPool.begin c.in-SpawnPool.call c.args.kind c.args.pos c.args.stack.now c.in_default-kind-9.not-Lower))

pub returns-in-Lower-kind-3 : goal.returns-in-Lower-kind-3
returns-in-Lower-kind-3 c = rw c.in-Kill.is (rw c.in-Lower-kind-3.is (rw c.ident-in-Lower-kind-3.ensures refl))

pub returns-in_default-kind-10 : goal.returns-in_default-kind-10
returns-in_default-kind-10 c = rw c.in-Kill.is (refused _ _ _ c.refuse-in_default-kind-10.ensures (mode.acted_Kill c.args.kind c.args.pos c.args.stack.now c.in_default-kind-10.not-Lower))

pub returns-in-Escape : goal.returns-in-Escape
returns-in-Escape c = rw c.in-Escape.is (c.of_escape.ensures)

pub returns-in-Lower-kind-4 : goal.returns-in-Lower-kind-4
returns-in-Lower-kind-4 c = rw c.in-EscapeLabel.is (rw c.in-Lower-kind-4.is (rw c.ident-in-Lower-kind-4.ensures refl))

pub returns-in_default-kind-11 : goal.returns-in_default-kind-11
returns-in_default-kind-11 c = rw c.in-EscapeLabel.is (refused _ _ _ c.refuse-in_default-kind-11.ensures (mode.acted_EscapeLabel c.args.kind c.args.pos c.args.stack.now c.in_default-kind-11.not-Lower))

pub returns-in-EscapeValue : goal.returns-in-EscapeValue
returns-in-EscapeValue c = rw c.in-EscapeValue.is (c.of_escape_value.ensures)
