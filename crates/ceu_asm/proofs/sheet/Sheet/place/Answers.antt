use Rattle.std.proofs.Common.{◌≡◌, List, ℕ, ap, ◌∙◌, arith}
use Rattle.std.specs.Prelude.{slice_get}
use Rattle.ceu_base.specs.declared.kinds.Pos.{Pos}
use Rattle.ceu_asm.specs.Pages.{Page}
use Rattle.ceu_asm.specs.Places.{with_place, number_of}
use Rattle.ceu_asm.proofs.Numbering.{place_absent, place_there, place_found}
use Rattle.ceu_asm.proofs.sheet.Sheet.place.Goals as goal
use Rattle.ceu_asm.proofs.sheet.Sheet.place.Goals.{then-number-items+in_ok-push, else-number-items}

pub returns-clause-ok : goal.returns-clause-ok
returns-clause-ok c =
    elim c.if-number-items.branch [
      | then-number-items+in_ok-push w ↦ grind (arith, place_absent)
      | else-number-items w ↦ grind (arith, place_there)
    ]

pub returns-clause-there : goal.returns-clause-there
returns-clause-there c =
    let before : List Pos = c.args.self.now.places in
    let held : c.if-number-items.self.places ≡ with_place c.args.pos before = ap (λ (p : Page). p.places) (returns-clause-ok c) in
    let number : c.find-number.result ≡ number_of c.args.pos before = c.find-number.ensures.value ∙ ap (number_of c.args.pos) (c.items.ensures ∙ ap (λ (p : Page). p.places) c.self.view_is) in
    ap (λ (ps : List Pos). slice_get ps c.find-number.result) held ∙ ap (λ (n : ℕ). slice_get (with_place c.args.pos before) n) number ∙ place_found c.args.pos before
