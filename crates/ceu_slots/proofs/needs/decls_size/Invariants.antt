use Rattle.std.proofs.Common.{◌≡◌, take}
use Rattle.ceu_tree.specs.Cut.{cut}
use Rattle.ceu_tree.specs.Needs as spec
use Rattle.ceu_slots.proofs.needs.decls_size.Given as goal

abbrev pub invariant-loop-decl : goal.invariant-loop-decl
invariant-loop-decl l = l.size ≡ cut (spec.decls_size l.frames (take l.decl-index l.decls))
