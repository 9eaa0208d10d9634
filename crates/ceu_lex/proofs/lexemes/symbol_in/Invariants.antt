use Rattle.std.proofs.Common.{◌≡◌, length, map, true}
use Rattle.std.specs.Prelude.{nat_lt}
use Rattle.std.specs.List.{list_all}
use Rattle.ceu_lex.specs.Lexemes.{symbol_in}
use Rattle.ceu_lex.proofs.lexemes.symbol_in.Given as goal

abbrev pub invariant-loop-table : goal.invariant-loop-table
invariant-loop-table l = record {
  same : symbol_in (map (λ e. (e.0.now, e.1)) l.table) l.bytes ≡ symbol_in (map (λ e. (e.0.now, e.1)) l.initial.table) l.bytes;
  some : list_all (λ e. nat_lt 0 (length e.0.now)) l.table ≡ true;
}

abbrev pub decreases-loop-table : goal.decreases-loop-table
decreases-loop-table l = length l.table
