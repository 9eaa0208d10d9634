-- The table of the labels' offsets.
use Rattle.std.proofs.Common.{◌≡◌, ℕ, ◌+◌, ◌<◌, ◌≤◌, Bool, true, false, List, [], ◌∷◌, ◌++◌, length, refl, sym, ap, ◌∙◌, subst, arith, if◌then◌else◌, max, get_or, set}
use Rattle.std.specs.List.{flat_map, AllByRecursion}
use Rattle.std.proofs.lemmas.Bool.{eqb-true, eq-eqb}
use Rattle.std.proofs.lemmas.List.{length-set, get_or-set_other}
use Rattle.std.proofs.lemmas.Grind.{get_or-set_at}
use Rattle.std.proofs.lemmas.List.Concat.{flat_map-cons}
use Rattle.std.specs.Prelude.{nat_eq}
use Rattle.ceu_code.specs.Instructions.{spelled, size, with_target}
use Rattle.ceu_asm.specs.declared.line.Line.{Line}
use Rattle.ceu_asm.specs.declared.line.Line.TheVariants.{Mark, Plain, Jump}
use Rattle.ceu_asm.specs.Lines.{marks, line_size, offset_of, resolved, assembled, IsMarkedOnce}
use Rattle.ceu_asm.specs.Tables.{IsWithin, NamesWithin, label_bound, table_size, noted, filled, line_bytes}

pub length_noted : (table : List ℕ) (line : Line) (at : ℕ) → length (noted table line at) ≡ length table
length_noted table (Mark l) at = length-set table l at
length_noted table (Plain i) at = refl
length_noted table (Jump i l) at = refl

pub length_filled : (lines : List Line) (table : List ℕ) (at : ℕ) → length (filled table at lines) ≡ length table
length_filled [] table at = refl
length_filled (line ∷ lines) table at = length_filled lines (noted table line at) (at + line_size line) ∙ length_noted table line at

-- marks lie below the table's size
within_line : (line : Line) (n : ℕ) → label_bound line ≤ n → IsWithin n line
within_line (Mark l) n h = omega arith
within_line (Plain i) n h = tt
within_line (Jump i l) n h = tt

within_more : (lines : List Line) (n : ℕ) → table_size lines ≤ n → AllByRecursion (IsWithin n) lines
within_more [] n h = tt
within_more (line ∷ lines) n h = (within_line line n (omega arith), within_more lines n (omega arith))

pub all_within : (lines : List Line) → AllByRecursion (IsWithin (table_size lines)) lines
all_within lines = within_more lines (table_size lines) (omega arith)

marked_below : (lines : List Line) (label : ℕ) → 0 < marks label lines → label < table_size lines
marked_below [] label h = absurd (omega arith)
marked_below (Mark l ∷ lines) label h = go (nat_eq l label) (eqb-true l label) (marked_below lines label) h
  where
    go : (b : Bool) → (b ≡ true → l ≡ label) → (0 < marks label lines → label < table_size lines) → 0 < (if b then 1 else 0) + marks label lines → label < max (l + 1) (table_size lines)
    go true f rest h = let e = f refl in omega arith
    go false f rest h = let r = rest (omega arith) in omega arith
marked_below (Plain i ∷ lines) label h = let r = marked_below lines label (omega arith) in omega arith
marked_below (Jump i l ∷ lines) label h = let r = marked_below lines label (omega arith) in omega arith

named_line : (lines : List Line) (line : Line) → IsMarkedOnce lines line → NamesWithin (table_size lines) line
named_line lines (Mark l) h = tt
named_line lines (Plain i) h = tt
named_line lines (Jump i l) h = marked_below lines l (omega arith)

pub names_within : (all lines : List Line) → AllByRecursion (IsMarkedOnce all) lines → AllByRecursion (NamesWithin (table_size all)) lines
names_within all [] h = tt
names_within all (line ∷ lines) h = (named_line all line h.0, names_within all lines h.1)

apart : false ≡ true → ⊥
apart e = cc

-- a label that isn't marked keeps its entry
filled_keeps : (lines : List Line) (table : List ℕ) (at label : ℕ) → marks label lines ≡ 0 → get_or (filled table at lines) label 0 ≡ get_or table label 0
filled_keeps [] table at label h = refl
filled_keeps (Mark l ∷ lines) table at label h = go (nat_eq l label) (eq-eqb l label) (filled_keeps lines (set table l at) (at + 0) label) h
  where
    go : (b : Bool) → (l ≡ label → b ≡ true) → (marks label lines ≡ 0 → get_or (filled (set table l at) (at + 0) lines) label 0 ≡ get_or (set table l at) label 0) → (if b then 1 else 0) + marks label lines ≡ 0 → get_or (filled (set table l at) (at + 0) lines) label 0 ≡ get_or table label 0
    go true f rest h = absurd (omega arith)
    go false f rest h = rest (omega arith) ∙ get_or-set_other table l label at 0 (λ e. let z = f (sym e) in absurd (apart z))
filled_keeps (Plain i ∷ lines) table at label h = filled_keeps lines table _ label (omega arith)
filled_keeps (Jump i l ∷ lines) table at label h = filled_keeps lines table _ label (omega arith)

-- a label that is marked once has its offset
pub filled_has : (lines : List Line) (table : List ℕ) (at label : ℕ) → marks label lines ≡ 1 → AllByRecursion (IsWithin (length table)) lines → get_or (filled table at lines) label 0 ≡ at + offset_of label lines
filled_has [] table at label h w = absurd (omega arith)
filled_has (Mark l ∷ lines) table at label h w =
    let w' : AllByRecursion (IsWithin (length (set table l at))) lines = subst (λ (n : ℕ). AllByRecursion (IsWithin n) lines) (sym (length-set table l at)) w.1 in
    go (nat_eq l label) (eqb-true l label) (λ e. filled_has lines (set table l at) (at + 0) label e w') (filled_keeps lines (set table l at) (at + 0) label) h
  where
    go : (b : Bool) → (b ≡ true → l ≡ label) → (marks label lines ≡ 1 → get_or (filled (set table l at) (at + 0) lines) label 0 ≡ at + 0 + offset_of label lines) → (marks label lines ≡ 0 → get_or (filled (set table l at) (at + 0) lines) label 0 ≡ get_or (set table l at) label 0) → (if b then 1 else 0) + marks label lines ≡ 1 → get_or (filled (set table l at) (at + 0) lines) label 0 ≡ at + (if b then 0 else (0 + offset_of label lines))
    go true f more none h = none (omega arith) ∙ get_or-set_at table l label at 0 (sym (f refl)) w.0 ∙ omega arith
    go false f more none h = more (omega arith) ∙ omega arith
filled_has (Plain i ∷ lines) table at label h w = filled_has lines table (at + size i) label (omega arith) w.1 ∙ omega arith
filled_has (Jump i l ∷ lines) table at label h w = filled_has lines table (at + size i) label (omega arith) w.1 ∙ omega arith

-- the lines' bytes by a table that has each label's place
pub bytes_same : (at : ℕ → ℕ) (table : List ℕ) (all lines : List Line) → ((l : ℕ) → marks l all ≡ 1 → get_or table l 0 ≡ at l) → AllByRecursion (IsMarkedOnce all) lines → flat_map (line_bytes table) lines ≡ flat_map spelled (resolved at lines)
bytes_same at table all [] e h = refl
bytes_same at table all (Mark l ∷ lines) e h = flat_map-cons (line_bytes table) (Mark l) lines ∙ bytes_same at table all lines e h.1
bytes_same at table all (Plain i ∷ lines) e h = flat_map-cons (line_bytes table) (Plain i) lines ∙ ap (λ (bs : List ℕ). spelled i ++ bs) (bytes_same at table all lines e h.1) ∙ sym (flat_map-cons spelled i (resolved at lines))
bytes_same at table all (Jump i l ∷ lines) e h =
    flat_map-cons (line_bytes table) (Jump i l) lines
    ∙ ap (λ (bs : List ℕ). spelled (with_target i (get_or table l 0)) ++ bs) (bytes_same at table all lines e h.1)
    ∙ ap (λ (n : ℕ). spelled (with_target i n) ++ flat_map spelled (resolved at lines)) (e l h.0)
    ∙ sym (flat_map-cons spelled (with_target i (at l)) (resolved at lines))

-- a table that is filled from the begin gives the assembled bytes
pub filled_gives : (lines : List Line) (table : List ℕ) → AllByRecursion (IsMarkedOnce lines) lines → AllByRecursion (IsWithin (length table)) lines → flat_map (line_bytes (filled table 0 lines)) lines ≡ assembled lines
filled_gives lines table h w = bytes_same (λ l. offset_of l lines) (filled table 0 lines) lines lines (λ l e. filled_has lines table 0 l e w ∙ omega arith) h
