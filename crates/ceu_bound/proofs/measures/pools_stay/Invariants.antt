use Rattle.std.proofs.Common.{◌≡◌, take}
use Rattle.ceu_paths.specs.Cap.{cap}
use Rattle.ceu_tree.specs.Greatest.{total}
use Rattle.ceu_bound.specs.Measured.{decl_stay}
use Rattle.ceu_bound.proofs.measures.pools_stay.Given as goal

abbrev pub invariant-loop-decl : goal.invariant-loop-decl
invariant-loop-decl l = l.sum ≡ cap (total (decl_stay l.tables) (take l.decl-index l.decls))
