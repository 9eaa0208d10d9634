use Rattle.std.proofs.Common.{◌≡◌, ◌+◌, drop}
use Rattle.ceu_asm.specs.Places.{number_of}
use Rattle.ceu_asm.proofs.sheet.find.Given as goal

abbrev pub invariant-loop-place : goal.invariant-loop-place
invariant-loop-place l = record {
  counted : l.before ≡ l.place-index;
  value : number_of l.pos l.list ≡ l.before + number_of l.pos (drop l.place-index l.list);
}
