-- Lines of lists and of code, one more at a time.
use Rattle.std.proofs.Common.{◌≡◌, refl, sym, ap, ◌∙◌, ℕ, zero, suc, ◌+◌, ◌-◌, ◌<◌, ◌≤◌, arith, Bool, List, [], ◌∷◌, ◌++◌, length, drop, get_or, Option, Some, length-append, length-drop}
use Rattle.std.specs.List.{flat_map, AllByRecursion}
use Rattle.std.proofs.lemmas.List.{drop_all}
use Rattle.ceu_code.specs.Table.{operands, operands_width, row_of, IsInstruction, IsCode}
use Rattle.ceu_code.specs.Text.{StartsInstruction, instruction_size, operands_of}
use Rattle.ceu_code.specs.declared.image.CodeRow.{CodeRow}
use Rattle.ceu_code.specs.Spelling.{IsCodeRow, HasFewParams}
use Rattle.ceu_code.specs.declared.table.Row.{Row}
use Rattle.ceu_code.proofs.Codes.{operands_long}
use Rattle.ceu_code.proofs.Numbers.{cut_at}
use Rattle.ceu_code.proofs.Reading.{same_head}
use Rattle.ceu_io.specs.Prints.{Prints}
use Rattle.ceu_io.proofs.Written.{Printed, printed_more, printed_all, next_item}
use Rattle.ceu_listing.specs.Shown.{lines_from, instruction_line, instruction_lines}

-- ---- a line for each item

at_itself : {X : Type 0} (xs : List X) (i : ℕ) (d : X) → i < length xs → get_or xs i d ≡ get_or xs i (get_or xs i d)
at_itself [] i d h = absurd (omega arith)
at_itself (x ∷ xs) zero d h = refl
at_itself (x ∷ xs) (suc i) d h = at_itself xs i d (omega arith)

module _ {X : Type 0} (line : ℕ → X → List ℕ) (xs : List X) where
  lines_next : (i : ℕ) (x : X) → x ≡ get_or xs i x → i < length xs → lines_from line i (drop i xs) ≡ line i x ++ lines_from line (i + 1) (drop (i + 1) xs)
  lines_next i x is below = ap (lines_from line i) (next_item xs i x is below)

  pub item_printed : (i : ℕ) (x : X) (r s t : Bool) (u v w : Option (List ℕ)) (f g h : ℕ) → Printed (lines_from line 0 xs) (lines_from line i (drop i xs)) r s u v f g → x ≡ get_or xs i x → i < length xs → Prints (line i x) s t v w g h →
      Printed (lines_from line 0 xs) (lines_from line (i + 1) (drop (i + 1) xs)) r t u w f h
  item_printed i x r s t u v w f g h p is below q =
      printed_more (lines_from line 0 xs) (lines_from line i (drop i xs)) (line i x) (lines_from line (i + 1) (drop (i + 1) xs)) r s t u v w f g h p (lines_next i x is below) q

  pub copied_printed : (i : ℕ) (d : X) (r s t : Bool) (u v w : Option (List ℕ)) (f g h : ℕ) → Printed (lines_from line 0 xs) (lines_from line i (drop i xs)) r s u v f g → i < length xs → Prints (line i (get_or xs i d)) s t v w g h →
      Printed (lines_from line 0 xs) (lines_from line (i + 1) (drop (i + 1) xs)) r t u w f h
  copied_printed i d r s t u v w f g h p below q = item_printed i (get_or xs i d) r s t u v w f g h p (at_itself xs i d below) below q

  pub items_printed : (i : ℕ) (r s : Bool) (u v : Option (List ℕ)) (f g : ℕ) → Printed (lines_from line 0 xs) (lines_from line i (drop i xs)) r s u v f g → length xs ≤ i → Prints (lines_from line 0 xs) r s u v f g
  items_printed i r s u v f g p end = printed_all (lines_from line 0 xs) (lines_from line i (drop i xs)) r s u v f g p (ap (lines_from line i) (drop_all i xs end))

pub few_params : (rows : List CodeRow) → AllByRecursion IsCodeRow rows → AllByRecursion HasFewParams rows
few_params [] h = tt
few_params (r ∷ rows) h = (h.0.few, few_params rows h.1)

pub few_at : (rows : List CodeRow) (i : ℕ) (d : CodeRow) → AllByRecursion HasFewParams rows → i < length rows → HasFewParams (get_or rows i d)
few_at [] i d h below = absurd (omega arith)
few_at (r ∷ rows) zero d h below = h.0
few_at (r ∷ rows) (suc i) d h below = few_at rows i d h.1 (omega arith)

-- ---- code

-- whole instructions from the offset on
pub record WholeFrom (code : List ℕ) (at : ℕ) : Type 0 where
  pub instructions : List (List ℕ)
  pub each : AllByRecursion IsInstruction instructions
  pub left : drop at code ≡ flat_map (λ i. i) instructions
  pub within : at ≤ length code

pub whole_code : (code : List ℕ) → IsCode code → WholeFrom code 0
whole_code code h = record { instructions = h.instructions; each = h.whole; left = h.spelled; within = omega arith }

-- an instruction starts at the offset, and whole ones follow it
pub record Next (code : List ℕ) (at : ℕ) : Type 0 where
  pub starts : StartsInstruction code at
  pub long : 0 < instruction_size code at
  pub behind : WholeFrom code (at + instruction_size code at)

size_is : (code : List ℕ) (at : ℕ) (r : Row) → row_of (get_or code at 0) ≡ Some r → instruction_size code at ≡ 1 + operands_width (operands r)
size_is code at r e = ap (λ (o : Option Row). 1 + operands_width (operands_of o)) e

drop_word : (w rest : List ℕ) → drop (length w) (w ++ rest) ≡ rest
drop_word [] rest = refl
drop_word (x ∷ w) rest = drop_word w rest

drop_twice : (m n : ℕ) (xs : List ℕ) → drop n (drop m xs) ≡ drop (m + n) xs
drop_twice zero n xs = ap (λ k. drop k xs) (let e : n ≡ 0 + n = omega arith in e)
drop_twice (suc m) n [] = drop_all n [] (omega arith) ∙ sym (drop_all (suc m + n) [] (omega arith))
drop_twice (suc m) n (x ∷ xs) =
    let e : suc (m + n) ≡ suc m + n = omega arith in
    drop_twice m n xs ∙ ap (λ k. drop k (x ∷ xs)) e

pub next_of : (code : List ℕ) (at : ℕ) → WholeFrom code at → at < length code → Next code at
next_of code at h below = go h.instructions h.each h.left
  where
    go : (is : List (List ℕ)) → AllByRecursion IsInstruction is → drop at code ≡ flat_map (λ i. i) is → Next code at
    go [] all e = absurd (omega (arith, length-drop at code, ap length e))
    go (w ∷ ws) all e =
        let rest = flat_map (λ i. i) ws in
        let f = all.0 in
        let size = instruction_size code at in
        let split : drop at code ≡ f.opcode ∷ (f.behind ++ rest) = e ∙ ap (λ (v : List ℕ). v ++ rest) f.spelled in
        let op : get_or code at 0 ≡ f.opcode = same_head (get_or code at 0) f.opcode (drop (at + 1) code) (f.behind ++ rest) (sym (cut_at code at below) ∙ split) in
        let sized : size ≡ 1 + operands_width (operands f.row) = size_is code at f.row (ap row_of op ∙ f.known) in
        let wide = operands_long (operands f.row) f.behind f.whole in
        let whole : length w ≡ suc (length f.behind) = ap length f.spelled in
        let long : length w ≡ size = omega (arith, whole, wide, sized) in
        let ends : length code - at ≡ length w + length rest = sym (length-drop at code) ∙ ap length e ∙ length-append w rest in
        record {
          starts = (w, rest, f, e);
          long = omega (arith, sized);
          behind = record {
            instructions = ws;
            each = all.1;
            left = sym (drop_twice at size code) ∙ ap (drop size) e ∙ ap (λ n. drop n (w ++ rest)) (sym long) ∙ drop_word w rest;
            within = omega (arith, ends, long, below);
          };
        }

skip_lines : (code : List ℕ) (at k : ℕ) (bytes : List ℕ) → k ≤ length bytes → instruction_lines code at k bytes ≡ instruction_lines code (at + k) 0 (drop k bytes)
skip_lines code at zero bytes h = ap (λ n. instruction_lines code n 0 bytes) (let e : at ≡ at + 0 = omega arith in e)
skip_lines code at (suc k) [] h = absurd (omega arith)
skip_lines code at (suc k) (b ∷ bytes) h = skip_lines code (at + 1) k bytes (omega arith) ∙ ap (λ n. instruction_lines code n 0 (drop k bytes)) (let e : at + 1 + k ≡ at + suc k = omega arith in e)

lines_at : (code : List ℕ) (at size : ℕ) → at < length code → 0 < size → at + size ≤ length code → size ≡ instruction_size code at →
    instruction_lines code at 0 (drop at code) ≡ instruction_line code at ++ instruction_lines code (at + size) 0 (drop (at + size) code)
lines_at code at size below some within is =
    let place : at + 1 + (size - 1) ≡ at + size = omega arith in
    let skips : size - 1 ≤ length (drop (at + 1) code) = omega (arith, length-drop (at + 1) code) in
    ap (instruction_lines code at 0) (cut_at code at below) ∙ ap (λ n. instruction_line code at ++ instruction_lines code (at + 1) (n - 1) (drop (at + 1) code)) (sym is) ∙
    ap (λ l. instruction_line code at ++ l) (skip_lines code (at + 1) (size - 1) (drop (at + 1) code) skips ∙ ap (instruction_lines code (at + 1 + (size - 1)) 0) (drop_twice (at + 1) (size - 1) code) ∙ ap (λ n. instruction_lines code n 0 (drop n code)) place)

pub instruction_printed : (code whole : List ℕ) (at : ℕ) (r s t : Bool) (u v w : Option (List ℕ)) (f g h : ℕ) → Printed whole (instruction_lines code at 0 (drop at code)) r s u v f g → at < length code → Next code at →
    Prints (instruction_line code at) s t v w g h → Printed whole (instruction_lines code (at + instruction_size code at) 0 (drop (at + instruction_size code at) code)) r t u w f h
instruction_printed code whole at r s t u v w f g h p below n q =
    let next = at + instruction_size code at in
    printed_more whole (instruction_lines code at 0 (drop at code)) (instruction_line code at) (instruction_lines code next 0 (drop next code)) r s t u v w f g h p (lines_at code at (instruction_size code at) below n.long n.behind.within refl) q

pub code_printed : (code : List ℕ) (at : ℕ) (r s : Bool) (u v : Option (List ℕ)) (f g : ℕ) → Printed (instruction_lines code 0 0 code) (instruction_lines code at 0 (drop at code)) r s u v f g → length code ≤ at → Prints (instruction_lines code 0 0 code) r s u v f g
code_printed code at r s u v f g p end = printed_all (instruction_lines code 0 0 code) (instruction_lines code at 0 (drop at code)) r s u v f g p (ap (instruction_lines code at 0) (drop_all at code end))
