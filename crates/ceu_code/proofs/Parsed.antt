-- The rows of an image, part by part.
use Rattle.std.proofs.Common.{◌≡◌, ◌≢◌, ℕ, zero, suc, ◌≤◌, ◌<◌, ◌^◌, ◌%◌, List, [], ◌∷◌, ◌++◌, length, map, lit≤, refl, sym, ap, ◌∙◌, arith}
use Rattle.std.specs.List.{flat_map}
use Rattle.ceu_base.specs.declared.kinds.Pos.{Pos}
use Rattle.ceu_base.specs.declared.kinds.Ty.{Ty}
use Rattle.ceu_base.specs.declared.kinds.Ty.TheVariants as ty
use Rattle.ceu_code.specs.declared.image.CodeRow.{CodeRow}
use Rattle.ceu_code.specs.Table.{low_first, type_byte, type_at}
use Rattle.ceu_code.specs.Spelling.{half, word, position, IsPlace, code_row, IsCodeRow}
use Rattle.ceu_code.specs.declared.decoding.DecodeError.{DecodeError}
use Rattle.ceu_code.specs.Reading.{Reads, Words, Unique, Refused, Spelled, Items, IsBetween}
use Rattle.ceu_code.proofs.Reading.{Pair, pair_first, pair_second, read_pair, some_pair, unique_pair, refused_as, reads_as, unique_as}
use Rattle.ceu_code.proofs.Numbers.{unique_between}
use Rattle.ceu_code.proofs.Rows.{some_items, unique_items}
use Rattle.ceu_code.proofs.Writing.{types_put}

-- a number of one byte is that byte
pub byte_word : (n : ℕ) → n ≤ 255 → low_first 1 n ≡ n ∷ []
unfolding low_first
byte_word n small = let m : n % 256 ≡ n = grind arith in ap (λ (b : ℕ). b ∷ []) m

pub some_between : (k least greatest : ℕ) → least ≤ greatest → (w : List ℕ) × Words (IsBetween k least greatest) w
some_between k least greatest le = (low_first k least, (least, ((omega arith, le), refl)))

-- ---- positions

abbrev W : ℕ → List ℕ → Type 0
W = IsBetween 4 1 4294967295

abbrev Place : Pos → List ℕ → Type 0
Place = Spelled IsPlace position

abbrev TwoWords : ℕ × ℕ → List ℕ → Type 0
TwoWords = Pair W (λ _. W)

abbrev place_of : ℕ × ℕ → Pos
place_of p = record { line = p.0; col = p.1 }

abbrev words_of : Pos → ℕ × ℕ
words_of p = (p.line, p.col)

place_to : (p : ℕ × ℕ) (w : List ℕ) → TwoWords p w → Place (place_of p) w
place_to p w t = (
  record { line = (t.is_first.0.0, let h : p.0 ≤ 4294967295 = t.is_first.0.1 in omega arith); col = (t.is_second.0.0, let h : p.1 ≤ 4294967295 = t.is_second.0.1 in omega arith) },
  t.joined ∙ ap (λ (l : List ℕ). l ++ t.second) t.is_first.1 ∙ ap (λ (l : List ℕ). word p.0 ++ l) t.is_second.1,
)

place_from : (p : Pos) (w : List ℕ) → Place p w → TwoWords (words_of p) w
place_from p w (v, e) = record {
  first = word p.line;
  second = word p.col;
  is_first = ((v.line.0, let h : p.line < 2 ^ 32 = v.line.1 in omega arith), refl);
  is_second = ((v.col.0, let h : p.col < 2 ^ 32 = v.col.1 in omega arith), refl);
  joined = e;
}

unique_word : Unique W
unique_word = unique_between 4 1 4294967295 (omega arith)

pub place_line : (bytes : List ℕ) (at : ℕ) (e : DecodeError) → Refused (Words W) bytes at e → Refused (Words Place) bytes at e
place_line bytes at e r = refused_as TwoWords Place place_of words_of bytes at e place_to place_from (pair_first W (λ _. W) bytes at e (λ _. some_between 4 1 4294967295 (omega arith)) r)

pub place_col : (bytes : List ℕ) (at mid l : ℕ) (e : DecodeError) → Reads W bytes at l mid → Refused (Words W) bytes mid e → Refused (Words Place) bytes at e
place_col bytes at mid l e read r = refused_as TwoWords Place place_of words_of bytes at e place_to place_from (pair_second W (λ _. W) bytes at mid l e unique_word read r)

pub unique_place : Unique Place
unique_place = unique_as Place TwoWords words_of place_of (λ p. refl) place_from (unique_pair W (λ _. W) unique_word (λ _. unique_word))

-- ---- the types of parameters

abbrev pub IsTyped : Ty → Type 0
IsTyped t = t ≢ ty.None

abbrev pub ty_bytes : Ty → List ℕ
ty_bytes t = type_byte t ∷ []

abbrev B : ℕ → List ℕ → Type 0
B = IsBetween 1 1 9

pub type_byte-at : (n : ℕ) → n ≤ 9 → type_byte (type_at n) ≡ n
type_byte-at zero h = refl
type_byte-at (suc zero) h = refl
type_byte-at (suc (suc zero)) h = refl
type_byte-at (suc (suc (suc zero))) h = refl
type_byte-at (suc (suc (suc (suc zero)))) h = refl
type_byte-at (suc (suc (suc (suc (suc zero))))) h = refl
type_byte-at (suc (suc (suc (suc (suc (suc zero)))))) h = refl
type_byte-at (suc (suc (suc (suc (suc (suc (suc zero))))))) h = refl
type_byte-at (suc (suc (suc (suc (suc (suc (suc (suc zero)))))))) h = refl
type_byte-at (suc (suc (suc (suc (suc (suc (suc (suc (suc n))))))))) h = let z : n ≡ 0 = omega arith in omega arith

pub type_at-byte : (t : Ty) → type_at (type_byte t) ≡ t
type_at-byte ty.None = refl
type_at-byte ty.Bool = refl
type_at-byte ty.U8 = refl
type_at-byte ty.S8 = refl
type_at-byte ty.U16 = refl
type_at-byte ty.S16 = refl
type_at-byte ty.U32 = refl
type_at-byte ty.S32 = refl
type_at-byte ty.U64 = refl
type_at-byte ty.S64 = refl

typed_byte : (t : Ty) → t ≢ ty.None → (1 ≤ type_byte t) × (type_byte t ≤ 9)
typed_byte ty.None p = absurd (p refl)
typed_byte ty.Bool p = (lit≤ tt, lit≤ tt)
typed_byte ty.U8 p = (lit≤ tt, lit≤ tt)
typed_byte ty.S8 p = (lit≤ tt, lit≤ tt)
typed_byte ty.U16 p = (lit≤ tt, lit≤ tt)
typed_byte ty.S16 p = (lit≤ tt, lit≤ tt)
typed_byte ty.U32 p = (lit≤ tt, lit≤ tt)
typed_byte ty.S32 p = (lit≤ tt, lit≤ tt)
typed_byte ty.U64 p = (lit≤ tt, lit≤ tt)
typed_byte ty.S64 p = (lit≤ tt, lit≤ tt)

pub type_to : (n : ℕ) (w : List ℕ) → B n w → Spelled IsTyped ty_bytes (type_at n) w
type_to n w (i, e) =
    let low : 1 ≤ n = i.0 in
    let high : n ≤ 9 = i.1 in
    let back = type_byte-at n high in
    ((λ none. let z : n ≡ 0 = sym back ∙ ap type_byte none in absurd (omega arith)), e ∙ byte_word n (omega arith) ∙ ap (λ (b : ℕ). b ∷ []) (sym back))

type_from : (t : Ty) (w : List ℕ) → Spelled IsTyped ty_bytes t w → B (type_byte t) w
type_from t w (p, e) = let i = typed_byte t p in (i, e ∙ sym (byte_word (type_byte t) (let h : type_byte t ≤ 9 = i.1 in omega arith)))

pub type_refused : (bytes : List ℕ) (at : ℕ) (e : DecodeError) → Refused (Words B) bytes at e → Refused (Words (Spelled IsTyped ty_bytes)) bytes at e
type_refused bytes at e r = refused_as B (Spelled IsTyped ty_bytes) type_at type_byte bytes at e type_to type_from r

pub unique_type : Unique (Spelled IsTyped ty_bytes)
unique_type = unique_as (Spelled IsTyped ty_bytes) B type_byte type_at type_at-byte type_from (unique_between 1 1 9 (omega arith))

-- ---- code rows

abbrev H : ℕ → List ℕ → Type 0
H = IsBetween 2 0 65535

abbrev C : ℕ → List ℕ → Type 0
C = IsBetween 1 0 255

abbrev T : ℕ → List Ty → List ℕ → Type 0
T = Items IsTyped ty_bytes

abbrev Row3 : ℕ × List Ty → List ℕ → Type 0
Row3 = Pair C T

abbrev Row2 : ℕ × (ℕ × List Ty) → List ℕ → Type 0
Row2 = Pair H (λ _. Row3)

abbrev Row1 : ℕ × (ℕ × (ℕ × List Ty)) → List ℕ → Type 0
Row1 = Pair H (λ _. Row2)

abbrev Row0 : ℕ × (ℕ × (ℕ × (ℕ × List Ty))) → List ℕ → Type 0
Row0 = Pair H (λ _. Row1)

abbrev Row : CodeRow → List ℕ → Type 0
Row = Spelled IsCodeRow code_row

abbrev row_of : ℕ × (ℕ × (ℕ × (ℕ × List Ty))) → CodeRow
row_of p = record { entry = p.0; frame = p.1.0; gates = p.1.1.0; params = p.1.1.1.1 }

abbrev parts_of : CodeRow → ℕ × (ℕ × (ℕ × (ℕ × List Ty)))
parts_of r = (r.entry, (r.frame, (r.gates, (length r.params, r.params))))

below_half : (n : ℕ) → n ≤ 65535 → n < 2 ^ 16
below_half n h = omega arith

params_word : (p : ℕ × List Ty) (w : List ℕ) → Row3 p w → (length p.1 ≤ 255) × (w ≡ length p.1 ∷ map type_byte p.1)
params_word p w t =
    let l : length p.1 ≡ p.0 = t.is_second.0 in
    let small : length p.1 ≤ 255 = let h : p.0 ≤ 255 = t.is_first.0.1 in omega arith in
    (small, t.joined ∙ ap (λ (a : List ℕ). a ++ t.second) (t.is_first.1 ∙ ap (low_first 1) (sym l) ∙ byte_word (length p.1) small) ∙ ap (λ (a : List ℕ). length p.1 ∷ a) (t.is_second.2 ∙ types_put p.1))

row_to : (p : ℕ × (ℕ × (ℕ × (ℕ × List Ty)))) (w : List ℕ) → Row0 p w → Row (row_of p) w
row_to p w t =
    let t1 = t.is_second in
    let t2 = t1.is_second in
    let t3 = t2.is_second in
    let params = params_word p.1.1.1 t2.second t3 in (
      record {
        entry = below_half p.0 t.is_first.0.1;
        frame = below_half p.1.0 t1.is_first.0.1;
        gates = below_half p.1.1.0 t2.is_first.0.1;
        few = let h = params.0 in omega arith;
        typed = t3.is_second.1;
      },
      t.joined
          ∙ ap (λ (a : List ℕ). a ++ t.second) t.is_first.1
          ∙ ap (λ (a : List ℕ). half p.0 ++ a) (t1.joined ∙ ap (λ (a : List ℕ). a ++ t1.second) t1.is_first.1)
          ∙ ap (λ (a : List ℕ). half p.0 ++ (half p.1.0 ++ a)) (t2.joined ∙ ap (λ (a : List ℕ). a ++ t2.second) t2.is_first.1)
          ∙ ap (λ (a : List ℕ). half p.0 ++ (half p.1.0 ++ (half p.1.1.0 ++ a))) params.1,
    )

within_half : (n : ℕ) → n < 2 ^ 16 → (0 ≤ n) × (n ≤ 65535)
within_half n h = (omega arith, omega arith)

row_from : (r : CodeRow) (w : List ℕ) → Row r w → Row0 (parts_of r) w
row_from r w (v, e) =
    let last : Row3 (length r.params, r.params) (length r.params ∷ map type_byte r.params) = record {
      first = low_first 1 (length r.params);
      second = flat_map ty_bytes r.params;
      is_first = ((omega arith, let h = v.few in omega arith), refl);
      is_second = (refl, v.typed, refl);
      joined = ap (λ (a : List ℕ). length r.params ∷ a) (sym (types_put r.params)) ∙ ap (λ (a : List ℕ). a ++ flat_map ty_bytes r.params) (sym (byte_word (length r.params) (let h = v.few in omega arith)));
    } in
    let gates : Row2 (r.gates, (length r.params, r.params)) (half r.gates ++ (length r.params ∷ map type_byte r.params)) = record { first = half r.gates; second = length r.params ∷ map type_byte r.params; is_first = (within_half r.gates v.gates, refl); is_second = last; joined = refl } in
    let frame : Row1 (r.frame, (r.gates, (length r.params, r.params))) (half r.frame ++ (half r.gates ++ (length r.params ∷ map type_byte r.params))) = record { first = half r.frame; second = half r.gates ++ (length r.params ∷ map type_byte r.params); is_first = (within_half r.frame v.frame, refl); is_second = gates; joined = refl } in
    record { first = half r.entry; second = half r.frame ++ (half r.gates ++ (length r.params ∷ map type_byte r.params)); is_first = (within_half r.entry v.entry, refl); is_second = frame; joined = e }

unique_half : Unique H
unique_half = unique_between 2 0 65535 (omega arith)

unique_row3 : Unique Row3
unique_row3 = unique_pair C T (unique_between 1 0 255 (omega arith)) (unique_items IsTyped ty_bytes unique_type)

pub unique_row : Unique Row
unique_row = unique_as Row Row0 parts_of row_of (λ r. refl) row_from (unique_pair H (λ _. Row1) unique_half (λ _. unique_pair H (λ _. Row2) unique_half (λ _. unique_pair H (λ _. Row3) unique_half (λ _. unique_row3))))

some_half : (w : List ℕ) × Words H w
some_half = some_between 2 0 65535 (omega arith)

some_types : (n : ℕ) → (w : List ℕ) × Words (T n) w
some_types n = some_items IsTyped ty_bytes ty.Bool (λ e. no_bool e) n
  where
    no_bool : ty.Bool ≡ ty.None → ⊥
    no_bool e = cc

some_row3 : (w : List ℕ) × Words Row3 w
some_row3 = some_pair C T 0 (low_first 1 0) ((omega arith, omega arith), refl) (some_types 0)

some_row2 : (w : List ℕ) × Words Row2 w
some_row2 = some_pair H (λ _. Row3) some_half.1.0 some_half.0 some_half.1.1 some_row3

some_row1 : (w : List ℕ) × Words Row1 w
some_row1 = some_pair H (λ _. Row2) some_half.1.0 some_half.0 some_half.1.1 some_row2

pub row_refused : (bytes : List ℕ) (at : ℕ) (e : DecodeError) → Refused (Words Row0) bytes at e → Refused (Words Row) bytes at e
row_refused bytes at e r = refused_as Row0 Row row_of parts_of bytes at e row_to row_from r

module _ (bytes : List ℕ) (e : DecodeError) where
  pub refused_entry : (at : ℕ) → Refused (Words H) bytes at e → Refused (Words Row0) bytes at e
  refused_entry at r = pair_first H (λ _. Row1) bytes at e (λ _. some_row1) r

  pub refused_frame : (at at1 entry : ℕ) → Reads H bytes at entry at1 → Refused (Words H) bytes at1 e → Refused (Words Row0) bytes at e
  refused_frame at at1 entry read r = pair_second H (λ _. Row1) bytes at at1 entry e unique_half read (pair_first H (λ _. Row2) bytes at1 e (λ _. some_row2) r)

  pub refused_gates : (at at1 at2 entry frame : ℕ) → Reads H bytes at entry at1 → Reads H bytes at1 frame at2 → Refused (Words H) bytes at2 e → Refused (Words Row0) bytes at e
  refused_gates at at1 at2 entry frame r1 r2 r = pair_second H (λ _. Row1) bytes at at1 entry e unique_half r1 (pair_second H (λ _. Row2) bytes at1 at2 frame e unique_half r2 (pair_first H (λ _. Row3) bytes at2 e (λ _. some_row3) r))

  pub refused_count : (at at1 at2 at3 entry frame gates : ℕ) → Reads H bytes at entry at1 → Reads H bytes at1 frame at2 → Reads H bytes at2 gates at3 → Refused (Words C) bytes at3 e → Refused (Words Row0) bytes at e
  refused_count at at1 at2 at3 entry frame gates r1 r2 r3 r = pair_second H (λ _. Row1) bytes at at1 entry e unique_half r1 (pair_second H (λ _. Row2) bytes at1 at2 frame e unique_half r2 (pair_second H (λ _. Row3) bytes at2 at3 gates e unique_half r3 (pair_first C T bytes at3 e some_types r)))

  pub refused_params : (at at1 at2 at3 at4 entry frame gates count : ℕ) → Reads H bytes at entry at1 → Reads H bytes at1 frame at2 → Reads H bytes at2 gates at3 → Reads C bytes at3 count at4 → Refused (Words (T count)) bytes at4 e → Refused (Words Row0) bytes at e
  refused_params at at1 at2 at3 at4 entry frame gates count r1 r2 r3 r4 r = pair_second H (λ _. Row1) bytes at at1 entry e unique_half r1 (pair_second H (λ _. Row2) bytes at1 at2 frame e unique_half r2 (pair_second H (λ _. Row3) bytes at2 at3 gates e unique_half r3 (pair_second C T bytes at3 at4 count e (unique_between 1 0 255 (omega arith)) r4 r)))

pub row_read : (bytes : List ℕ) (at at1 at2 at3 at4 next entry frame gates count : ℕ) (params : List Ty) → Reads H bytes at entry at1 → Reads H bytes at1 frame at2 → Reads H bytes at2 gates at3 → Reads C bytes at3 count at4 → Reads (T count) bytes at4 params next → Reads Row bytes at (record { entry = entry; frame = frame; gates = gates; params = params }) next
row_read bytes at at1 at2 at3 at4 next entry frame gates count params r1 r2 r3 r4 r5 =
    reads_as Row0 Row bytes at next (entry, (frame, (gates, (count, params)))) (record { entry = entry; frame = frame; gates = gates; params = params }) (row_to (entry, (frame, (gates, (count, params)))))
    (read_pair H (λ _. Row1) bytes at at1 next entry (frame, (gates, (count, params))) r1 (read_pair H (λ _. Row2) bytes at1 at2 next frame (gates, (count, params)) r2 (read_pair H (λ _. Row3) bytes at2 at3 next gates (count, params) r3 (read_pair C T bytes at3 at4 next count params r4 r5))))
