use Rattle.std.proofs.Common.{◌≡◌, take}
use Rattle.std.specs.List.{fold}
use Rattle.ceu_types.specs.Statements as spec
use Rattle.ceu_types.proofs.parts.params_found.Given as goal

abbrev pub invariant-loop-param : goal.invariant-loop-param
invariant-loop-param l = l.found ≡ fold spec.param_found l.initial.found (take l.param-index l.params)
