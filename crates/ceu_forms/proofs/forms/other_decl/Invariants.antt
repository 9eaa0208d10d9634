use Rattle.std.proofs.Common.{◌≡◌, drop}
use Rattle.ceu_forms.specs.Forms.{first_in, other_decl}
use Rattle.ceu_forms.proofs.forms.other_decl.Given as goal

abbrev pub invariant-loop-decl : goal.invariant-loop-decl
invariant-loop-decl l = first_in other_decl l.decls ≡ first_in other_decl (drop l.decl-index l.decls)
