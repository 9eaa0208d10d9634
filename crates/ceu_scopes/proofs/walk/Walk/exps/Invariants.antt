use Rattle.std.proofs.Common.{◌≡◌, drop}
use Rattle.ceu_scopes.specs.Names.{exp_walked}
use Rattle.ceu_scopes.specs.Walk.{each}
use Rattle.ceu_scopes.proofs.walk.Walk.exps.Given as goal

abbrev pub invariant-loop-e : goal.invariant-loop-e
invariant-loop-e l = each exp_walked l.exps l.initial.self ≡ each exp_walked (drop l.e-index l.exps) l.self
