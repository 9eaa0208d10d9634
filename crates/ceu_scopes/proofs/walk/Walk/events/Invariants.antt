use Rattle.std.proofs.Common.{◌≡◌, drop, None}
use Rattle.ceu_scopes.specs.Names.{ident_declared}
use Rattle.ceu_tree.specs.declared.source.Class.TheVariants.{Event}
use Rattle.ceu_scopes.specs.Walk.{each}
use Rattle.ceu_scopes.proofs.walk.Walk.events.Given as goal

abbrev pub invariant-loop-name : goal.invariant-loop-name
invariant-loop-name l = each (ident_declared Event l.ty None) l.names l.initial.self ≡ each (ident_declared Event l.ty None) (drop l.name-index l.names) l.self
