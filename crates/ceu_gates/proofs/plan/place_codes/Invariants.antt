use Rattle.std.proofs.Common.{◌≡◌, ◌≤◌, ◌++◌, drop}
use Rattle.ceu_tree.specs.Needs.{gates_from}
use Rattle.ceu_gates.specs.Ranges.{reach, codes_ranges}
use Rattle.ceu_gates.proofs.plan.place_codes.Given as goal

abbrev pub invariant-loop-code : goal.invariant-loop-code
invariant-loop-code l = record {
  rows : l.initial.rows.items ++ codes_ranges l.initial.gates.items l.codes ≡ l.rows.items ++ codes_ranges l.gates.items (drop l.code-index l.codes);
  gates : gates_from l.initial.gates.items l.codes ≡ gates_from l.gates.items (drop l.code-index l.codes);
  fits : reach (codes_ranges l.gates.items (drop l.code-index l.codes)) ≤ 65535;
}
