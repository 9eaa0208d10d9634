use Rattle.std.proofs.Common.{◌≡◌, ◌+◌, ◌++◌, drop}
use Rattle.ceu_tree.specs.Needs.{decls_size}
use Rattle.ceu_slots.specs.Layout.{decl_places}
use Rattle.ceu_slots.proofs.layout.place_decls.Given as goal

abbrev pub invariant-loop-decl : goal.invariant-loop-decl
invariant-loop-decl l = record {
  size : decls_size l.frames l.decls ≡ l.size + decls_size l.frames (drop l.decl-index l.decls);
  rows : l.initial.rows.items ++ decl_places l.frames l.at l.decls ≡ l.rows.items ++ decl_places l.frames (l.at + l.size) (drop l.decl-index l.decls);
}
