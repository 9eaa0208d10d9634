use Rattle.std.proofs.Common.{◌≡◌, ◌+◌, ◌≤◌, drop}
use Rattle.ceu_types.specs.Uses.{leading_parameters}
use Rattle.ceu_types.proofs.uses.has_leading.Given as goal

abbrev pub invariant-loop-i : goal.invariant-loop-i
invariant-loop-i l =
    record {
      counted : leading_parameters l.decls ≡ l.i + leading_parameters (drop l.i l.decls);
      within : l.i ≤ l.count;
    }
