use Rattle.std.proofs.Common.{◌≡◌, false, take}
use Rattle.std.specs.List.{list_any}
use Rattle.ceu_paths.specs.Ways.{way, ways, is_way}
use Rattle.ceu_paths.proofs.ways.has_exit.Given as goal

abbrev pub invariant-loop-other : goal.invariant-loop-other
invariant-loop-other l = list_any (is_way (way l.exit)) (ways (take l.other-index l.exits)) ≡ false
