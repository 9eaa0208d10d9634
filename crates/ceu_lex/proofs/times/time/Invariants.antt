use Rattle.std.proofs.Common.{◌≡◌, ℕ, length, map, true}
use Rattle.std.specs.Prelude.{nat_lt}
use Rattle.std.specs.List.{list_all}
use Rattle.ceu_lex.specs.Lexemes.{after_groups, capped}
use Rattle.ceu_lex.proofs.times.time.Given as goal

abbrev pub invariant-loop-units : goal.invariant-loop-units
invariant-loop-units l = record {
  same : (exact : ℕ) × (l.total ≡ capped exact) × (after_groups (map (λ u. (u.0.now, u.1)) l.units) (record { total = exact; rest = l.rest }) ≡ after_groups (map (λ u. (u.0.now, u.1)) l.initial.units) (record { total = 0; rest = l.text }));
  some : list_all (λ u. nat_lt 0 u.1) l.units ≡ true;
}

abbrev pub decreases-loop-units : goal.decreases-loop-units
decreases-loop-units l = length l.units
