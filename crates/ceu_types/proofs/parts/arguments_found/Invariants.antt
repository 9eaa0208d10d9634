use Rattle.std.proofs.Common.{◌≡◌, take}
use Rattle.ceu_types.specs.Statements as spec
use Rattle.ceu_types.proofs.parts.arguments_found.Given as goal

abbrev pub invariant-loop-i : goal.invariant-loop-i
invariant-loop-i l = l.found ≡ spec.arguments_found l.scopes l.code 0 (take l.i l.args) l.initial.found
