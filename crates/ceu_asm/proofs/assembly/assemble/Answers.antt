use Rattle.std.proofs.Common.{◌≡◌, ℕ, List, ◌++◌, length, take, drop, rules, sym, ap, ◌∙◌, subst}
use Rattle.std.specs.List.{AllByRecursion, flat_map}
use Rattle.std.proofs.Math.Seq.{take-append_seam}
use Rattle.ceu_asm.specs.declared.line.Line.{Line}
use Rattle.ceu_asm.specs.Lines.{IsMarkedOnce, assembled}
use Rattle.ceu_asm.specs.Tables.{IsWithin, NamesWithin, table_size, filled, line_bytes}
use Rattle.ceu_asm.proofs.Filling.{all_within, names_within, length_filled, filled_gives}
use Rattle.ceu_asm.proofs.Following.{length-assembled}
use Rattle.ceu_asm.proofs.assembly.assemble.Goals as goal

pub fill-requires-clause-within : goal.fill-requires-clause-within
fill-requires-clause-within c =
    let long : table_size c.lines-lines.result.now ≡ length c.deref_mut.result.now = search rules in
    subst (λ (n : ℕ). AllByRecursion (IsWithin n) c.lines-lines.result.now) long (all_within c.lines-lines.result.now)

pub put_lines-requires : goal.put_lines-requires
put_lines-requires c =
    let lines : c.args.sheet.now.lines ≡ c.lines-lines.result.now = sym c.lines-lines.ensures in
    let marked : AllByRecursion (IsMarkedOnce c.lines-lines.result.now) c.lines-lines.result.now = subst (λ (l : List Line). AllByRecursion (IsMarkedOnce l) l) lines c.requires.marked in
    let long : table_size c.lines-lines.result.now ≡ length c.deref.result.now = search (rules, length_filled) in
    subst (λ (n : ℕ). AllByRecursion (NamesWithin n) c.lines-lines.result.now) long (names_within c.lines-lines.result.now c.lines-lines.result.now marked)

pub returns-clause-bytes : goal.returns-clause-bytes
returns-clause-bytes c =
    let lines : List Line = c.lines-lines.result.now in
    let own : lines ≡ c.args.sheet.now.lines = c.lines-lines.ensures in
    let kept : c.in_ok-table.table.len ≡ length c.fill.new.table = sym (ap length c.fill.ensures ∙ length_filled lines c.deref_mut.result.now 0 ∙ c.deref_mut.ensures.len) in
    let tail : List ℕ = drop (length c.fill.new.table) c.in_ok-table.table.items in
    let table : c.deref.result.now ≡ filled c.deref_mut.result.now 0 lines =
    c.deref.ensures.value ∙ ap (λ (n : ℕ). take n (c.fill.new.table ++ tail)) kept ∙ take-append_seam c.fill.new.table tail ∙ c.fill.ensures in
    let long : table_size lines ≡ length c.deref_mut.result.now = search rules in
    let marked : AllByRecursion (IsMarkedOnce lines) lines = subst (λ (l : List Line). AllByRecursion (IsMarkedOnce l) l) (sym own) c.requires.marked in
    let within : AllByRecursion (IsWithin (length c.deref_mut.result.now)) lines = subst (λ (n : ℕ). AllByRecursion (IsWithin n) lines) long (all_within lines) in
    c.in_ok-put_lines.ensures
    ∙ ap (λ (bs : List ℕ). bs ++ flat_map (line_bytes c.deref.result.now) lines) c.new-out.ensures
    ∙ ap (λ (t : List ℕ). flat_map (line_bytes t) lines) table
    ∙ filled_gives lines c.deref_mut.result.now marked within
    ∙ ap assembled own

pub returns-clause-size : goal.returns-clause-size
returns-clause-size c = ap length (returns-clause-bytes c) ∙ length-assembled c.args.sheet.now.lines
