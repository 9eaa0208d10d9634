use Rattle.std.proofs.Common.{◌≡◌, ◌++◌, take}
use Rattle.ceu_paths.specs.Uses.{decl_uses}
use Rattle.ceu_paths.specs.Joined.{joined}
use Rattle.ceu_paths.proofs.uses.uses_in_decls.Given as goal

abbrev pub invariant-loop-decl : goal.invariant-loop-decl
invariant-loop-decl l = l.found.items ≡ l.initial.found.items ++ joined decl_uses (take l.decl-index l.decls)
