use Rattle.std.proofs.Common.{◌≡◌, ◌++◌, length, take, drop}
use Rattle.std.specs.List.{flat_map, AllByRecursion}
use Rattle.ceu_asm.specs.Tables.{line_bytes, NamesWithin}
use Rattle.ceu_asm.proofs.assembly.put_lines.Given as goal

abbrev pub invariant-loop-line : goal.invariant-loop-line
invariant-loop-line l = record {
  within : AllByRecursion (NamesWithin (length l.table)) (drop l.line-index l.lines);
  value : l.out ≡ l.fn.out ++ flat_map (line_bytes l.table) (take l.line-index l.lines);
}
