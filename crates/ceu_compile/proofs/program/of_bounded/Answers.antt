use Rattle.std.proofs.Common.{arith}
use Rattle.ceu_compile.proofs.Broken.{kept, oversized}
use Rattle.ceu_compile.proofs.program.of_bounded.Goals as goal

pub returns-in-Ok-Memory-clause-sound : goal.returns-in-Ok-Memory-clause-sound
returns-in-Ok-Memory-clause-sound c =
    let size = rw c.in-Ok-Memory.field-0-is at c.in-Ok-Memory.ensures in
    (c.requires.kernel, kept c.args.kernel c.args.bounds c.requires.bounds (omega arith) (omega arith), size.1)

pub returns-in-Ok-Over-clause-refused : goal.returns-in-Ok-Over-clause-refused
returns-in-Ok-Over-clause-refused c =
    oversized c.args.tree.now c.args.kernel c.size_of.result c.in-Ok-Over.field-0 c.in-Ok-Over.rule c.requires.kernel (kept c.args.kernel c.args.bounds c.requires.bounds (omega arith) (omega arith)) c.size_of.ensures c.in-Ok-Over.is c.in-Ok-Over.field-0-is
