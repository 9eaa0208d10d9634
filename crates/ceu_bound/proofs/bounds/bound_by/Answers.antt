use Rattle.std.proofs.Common.{inl}
use Rattle.ceu_bound.proofs.BoundLaws.{first_break}
use Rattle.ceu_bound.proofs.bounds.bound_by.Goals as goal

pub returns-in-Ok-Some-clause-refused : goal.returns-in-Ok-Some-clause-refused
returns-in-Ok-Some-clause-refused c = inl (first_break c.args.kernel.now c.in-Ok-Some.broken (rw c.in-Ok-Some.field-0-is at c.in-Ok-Some.ensures))
