use Rattle.std.proofs.Common.{◌≡◌, ◌-◌, ◌≤◌, length, take}
use Rattle.std.specs.List.{fold}
use Rattle.ceu_types.specs.Statements as spec
use Rattle.ceu_types.proofs.parts.uses_passed.Given as goal

abbrev pub invariant-loop-passed : goal.invariant-loop-passed
invariant-loop-passed l =
    record {
      within : l.passed ≤ length l.listed;
      found : l.found ≡ fold (spec.use_passed l.scopes) l.initial.found (take l.passed l.listed);
    }

abbrev pub decreases-loop-passed : goal.decreases-loop-passed
decreases-loop-passed l = length l.listed - l.passed
