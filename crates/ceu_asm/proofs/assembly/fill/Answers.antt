use Rattle.std.proofs.Common.{◌≡◌, ◌+◌, ◌<◌, List, ℕ, length, drop, drop-cons, ap, ◌∙◌, sym, subst, arith, get_or, add-one, ◌∷◌}
use Rattle.std.specs.List.{AllByRecursion}
use Rattle.ceu_asm.specs.declared.line.Line.{Line}
use Rattle.ceu_asm.specs.declared.line.Line.TheVariants.{Mark}
use Rattle.ceu_asm.specs.Lines.{line_size, code_size}
use Rattle.ceu_asm.specs.Tables.{filled, noted, IsWithin}
use Rattle.ceu_asm.proofs.Filling.{length_noted}
use Rattle.ceu_asm.proofs.assembly.fill.Goals as goal

pub loop-line-preserved : goal.loop-line-preserved
loop-line-preserved c =
    let lines : List Line = c.args.lines.now in
    let i : ℕ = c.loop-line.line-index in
    let line : Line = get_or lines i (Mark 0) in
    let rest : List Line = drop (i + 1) lines in
    let inside : i < length lines = c.loop-line-test.true in
    let cut : drop i lines ≡ line ∷ rest = rw (add-one, drop-cons lines i (Mark 0)) in
    let room : c.loop-line.at + (line_size line + code_size rest) ≡ code_size lines = ap (λ (l : List Line). c.loop-line.at + code_size l) (sym cut) ∙ c.loop-line.invariant.room in
    let within : AllByRecursion (IsWithin (length c.loop-line.table)) (line ∷ rest) = subst (λ (l : List Line). AllByRecursion (IsWithin (length c.loop-line.table)) l) cut c.loop-line.invariant.within in
    let size : c.size_of_line-at.result ≡ line_size line = c.size_of_line-at.ensures.value in
    let table : c.note.new.table ≡ noted c.loop-line.table line c.loop-line.at = c.note.ensures in
    let long : length c.loop-line.table ≡ length c.note.new.table = sym (ap length table ∙ length_noted c.loop-line.table line c.loop-line.at) in
    record {
      room = omega arith;
      within = subst (λ (n : ℕ). AllByRecursion (IsWithin n) rest) long within.1;
      value =
          ap (λ (t : List ℕ). filled t (c.loop-line.at + c.size_of_line-at.result) rest) table
          ∙ ap (λ (n : ℕ). filled (noted c.loop-line.table line c.loop-line.at) (c.loop-line.at + n) rest) size
          ∙ ap (filled c.loop-line.table c.loop-line.at) (sym cut)
          ∙ c.loop-line.invariant.value;
    }
