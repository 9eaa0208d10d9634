use Rattle.ceu_grammar.proofs.Modes as mode
use Rattle.ceu_grammar.proofs.Moved.{refused}
use Rattle.ceu_grammar.proofs.declarations.of_name.Goals as goal

pub returns-in-Lower-kind : goal.returns-in-Lower-kind
returns-in-Lower-kind c K = rw c.in-Lower.is (rw c.in-Lower-kind.is (rw c.ident.ensures at (c.listed_name.ensures K)))

pub returns-in_default : goal.returns-in_default
returns-in_default c K = rw c.in-Lower.is (refused _ K _ c.refuse.ensures (mode.of_lower_name c.args.kind c.args.pos c.args.listed c.args.names K c.in_default.not-Lower))

pub returns-in-Ext : goal.returns-in-Ext
returns-in-Ext c K = rw c.in-Upper.is (rw c.in-Ext.is (rw c.ident-in-Ext.ensures at (c.listed_name-in-Ext.ensures K)))

pub returns-in_default-kind : goal.returns-in_default-kind
returns-in_default-kind c K = rw c.in-Upper.is (refused _ K _ c.refuse-in_default-kind.ensures (mode.of_upper_name c.args.kind c.args.pos c.args.listed c.args.names K c.in_default-kind.not-Ext))
