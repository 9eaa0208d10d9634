-- Lines of text: names, numbers, and the room that they take.
use Rattle.std.proofs.Common.{◌≡◌, ℕ, zero, suc, ◌+◌, ◌-◌, ◌*◌, ◌^◌, ◌≤◌, ◌<◌, List, [], ◌∷◌, ◌++◌, length, drop, get_or, Option, Some, None, sym, ap, ◌∙◌, subst, arith, lit≤, length-append, length-drop}
use Rattle.std.specs.Prelude.{slice_get, unwrap_or, option_and_then}
use Rattle.std.specs.List.{AllByRecursion}
use Rattle.std.proofs.Math.Nat.{pow-succ', pow-le-pow_right}
use Rattle.std.proofs.lemmas.Option.{slice_get_past}
use Rattle.ceu_code.specs.declared.table.Row.{Row}
use Rattle.ceu_code.specs.Table.{operands, operands_width, row_of, table}
use Rattle.ceu_code.specs.Text.{name_at, number_at, operands_room, StartsInstruction}
use Rattle.ceu_code.proofs.Reading.{same_head}
use Rattle.ceu_code.proofs.Numbers.{cut_at}
use Rattle.ceu_code.proofs.Codes.{operands_long}

pub name_past : (names : List (List ℕ)) (n : ℕ) → length names ≤ n → [] ≡ name_at names n
name_past names n h = sym (ap (λ (o : Option (List ℕ)). unwrap_or o []) (slice_get_past names n h))

-- ---- numbers

pub number_none : (width : ℕ) (bytes : List ℕ) (at : ℕ) → width ≡ 0 → 0 ≡ number_at width bytes at
unfolding number_at
number_none width bytes at e = sym (ap (λ (k : ℕ). number_at k bytes at) e)

pub number_more : (width : ℕ) (bytes : List ℕ) (at : ℕ) → suc (width - 1) ≡ width → get_or bytes at 0 + 256 * number_at (width - 1) bytes (at + 1) ≡ number_at width bytes at
unfolding number_at
number_more width bytes at e = ap (λ (k : ℕ). number_at k bytes at) e

pub small_none : (width : ℕ) → width ≡ 0 → 0 < 256 ^ width
small_none width e = let p : 256 ^ width ≡ 1 = ap (λ (k : ℕ). 256 ^ k) e in omega arith

pub small_more : (width b rest : ℕ) → suc (width - 1) ≡ width → b < 256 → rest < 256 ^ (width - 1) → b + 256 * rest < 256 ^ width
small_more width b rest e p q = let power = ap (λ (k : ℕ). 256 ^ k) (sym e) ∙ pow-succ' 256 (width - 1) in omega arith

pub fits_width : (width : ℕ) → width ≤ 8 → 256 ^ width ≤ 256 ^ 8
fits_width width h = pow-le-pow_right (omega arith) h

-- ---- the room of a row

abbrev IsShort : Option Row → Type 0
IsShort (Some row) = operands_room (operands row) ≤ 46
IsShort None = Unit {0}

room_of : (rows : List (Option Row)) (n : ℕ) (row : Row) → AllByRecursion IsShort rows → option_and_then (λ r. r) (slice_get rows n) ≡ Some row → operands_room (operands row) ≤ 46
room_of [] n row p e = absurd (none_some e)
  where
    none_some : None ≡ Some row → ⊥
    none_some e = cc
room_of (o ∷ rows) zero row p e = subst IsShort e p.0
room_of (o ∷ rows) (suc n) row p e = room_of rows n row p.1 e

rows_short : AllByRecursion IsShort table
unfolding table
rows_short = (tt, (lit≤ tt, (lit≤ tt, (lit≤ tt, (lit≤ tt, (lit≤ tt, (lit≤ tt, (lit≤ tt, (lit≤ tt, (lit≤ tt, (lit≤ tt, (lit≤ tt, (lit≤ tt, (lit≤ tt, (lit≤ tt, (tt, (lit≤ tt, (lit≤ tt, (lit≤ tt, (lit≤ tt, (lit≤ tt, (lit≤ tt, (lit≤ tt, (lit≤ tt, (lit≤ tt, (lit≤ tt, (lit≤ tt, (lit≤ tt, (lit≤ tt, (lit≤ tt, (lit≤ tt, (lit≤ tt, (lit≤ tt, (lit≤ tt, (lit≤ tt, (lit≤ tt, (lit≤ tt, (lit≤ tt, (lit≤ tt, tt)))))))))))))))))))))))))))))))))))))))

pub row_room : (op : ℕ) (row : Row) → row_of op ≡ Some row → operands_room (operands row) ≤ 46
unfolding row_of
row_room op row e = room_of table op row rows_short e

-- ---- where an instruction starts

pub record Started (code : List ℕ) (at : ℕ) : Type 0 where
  pub row : Row
  pub known : row_of (get_or code at 0) ≡ Some row
  pub inside : at < length code
  pub whole : at + 1 + operands_width (operands row) ≤ length code

pub started : (code : List ℕ) (at : ℕ) → StartsInstruction code at → Started code at
started code at (word, rest, f, e) =
    let split : drop at code ≡ f.opcode ∷ (f.behind ++ rest) = e ∙ ap (λ (w : List ℕ). w ++ rest) f.spelled in
    let long : length code - at ≡ suc (length (f.behind ++ rest)) = sym (length-drop at code) ∙ ap length split in
    let sum = length-append f.behind rest in
    let wide = operands_long (operands f.row) f.behind f.whole in
    let inside : at < length code = omega arith in
    let op : get_or code at 0 ≡ f.opcode = same_head (get_or code at 0) f.opcode (drop (at + 1) code) (f.behind ++ rest) (sym (cut_at code at inside) ∙ split) in
    record { row = f.row; known = ap row_of op ∙ f.known; inside = inside; whole = omega arith }

pub row_same : (r s : Row) → Some r ≡ Some s → r ≡ s
row_same r s e = cc
