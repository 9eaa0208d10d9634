use Rattle.std.proofs.Common.{◌≡◌, take}
use Rattle.ceu_expand.specs.Draft.{output_declared}
use Rattle.ceu_expand.specs.Lists.{each}
use Rattle.ceu_expand.proofs.draft.Draft.outputs.Given as goal

abbrev pub invariant-loop-x : goal.invariant-loop-x
invariant-loop-x l = l.self ≡ each (output_declared l.ty) (take l.x-index l.names) l.initial.self
