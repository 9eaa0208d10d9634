use Rattle.std.proofs.Common.{refl}
use Rattle.ceu_grammar.proofs.parser.ended.Goals as goal

pub returns-in-Ok : goal.returns-in-Ok
returns-in-Ok c = c.in-Ok.ensures

pub returns-in-Err-Wrong : goal.returns-in-Err-Wrong
returns-in-Err-Wrong c = let none = rw c.in-Err-Wrong.field-0-is at c.in-Err-Wrong.ensures in (refl, refl, none, c.end_of.ensures)
