use Rattle.std.proofs.Common.{refl}
use Rattle.ceu_grammar.proofs.ends.located.Goals as goal

pub returns-in-Operand : goal.returns-in-Operand
returns-in-Operand c = rw c.in-Operand.is (rw c.variable.ensures refl)

pub returns-in-Store : goal.returns-in-Store
returns-in-Store c = rw c.in-Store.is refl

pub returns-in-Emit : goal.returns-in-Emit
returns-in-Emit c = rw c.in-Emit.is refl

pub returns-in-Target : goal.returns-in-Target
returns-in-Target c = rw c.in-Target.is (c.aimed.ensures)

pub returns-in-Every : goal.returns-in-Every
returns-in-Every c = rw c.in-Every.is refl
