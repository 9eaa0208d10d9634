use Rattle.std.proofs.Common.{◌≡◌, take}
use Rattle.ceu_expand.specs.Parts.{name_passed}
use Rattle.ceu_expand.specs.Lists.{each}
use Rattle.ceu_expand.proofs.draft.Draft.listed.Given as goal

abbrev pub invariant-loop : goal.invariant-loop
invariant-loop l = l.self ≡ each (name_passed) (take l.index l.names) l.initial.self
