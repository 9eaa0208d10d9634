use Rattle.std.proofs.Common.{◌≡◌, take}
use Rattle.ceu_expand.specs.Parts.{param_declared}
use Rattle.ceu_expand.specs.Lists.{each}
use Rattle.ceu_expand.proofs.draft.Draft.params.Given as goal

abbrev pub invariant-loop-param : goal.invariant-loop-param
invariant-loop-param l = l.self ≡ each (param_declared) (take l.param-index l.params) l.initial.self
