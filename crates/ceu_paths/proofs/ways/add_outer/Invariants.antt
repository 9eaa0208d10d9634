use Rattle.std.proofs.Common.{◌≡◌, ◌++◌, take}
use Rattle.std.specs.List.{filter}
use Rattle.ceu_paths.specs.Ways.{ways, goes_out}
use Rattle.ceu_paths.proofs.ways.add_outer.Given as goal

abbrev pub invariant-loop-exit : goal.invariant-loop-exit
invariant-loop-exit l = ways l.exits.items ≡ ways l.initial.exits.items ++ filter (goes_out l.inside) (ways (take l.exit-index l.inner))
