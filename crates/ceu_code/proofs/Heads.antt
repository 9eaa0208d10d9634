-- The head of an image: three letters and a version.
use Rattle.std.proofs.Common.{◌≡◌, ℕ, ◌≤◌, List, [], ◌∷◌, ◌++◌, refl, sym, ap, ◌∙◌, arith, lit<, lit≤}
use Rattle.ceu_code.specs.declared.decoding.DecodeError.{DecodeError}
use Rattle.ceu_code.specs.Table.{low_first}
use Rattle.ceu_code.specs.Reading.{Reads, Words, Unique, Refused, IsBetween}
use Rattle.ceu_code.proofs.Reading.{Pair, pair_if, pair_second, read_pair, some_pair, unique_pair, refused_as, reads_as, unique_as}
use Rattle.ceu_code.proofs.Numbers.{unique_between}
use Rattle.ceu_code.proofs.Parsed.{byte_word, some_between}
use Rattle.ceu_code.specs.Decoding.{IsHead}

abbrev pub head_form0 : ℕ → List ℕ → Type 0
head_form0 = IsBetween 1 67 67

abbrev pub head_form1 : (c : ℕ) → ℕ → List ℕ → Type 0
head_form1 c = IsBetween 1 69 69

abbrev pub head_form2 : (c : ℕ) (e1 : ℕ) → ℕ → List ℕ → Type 0
head_form2 c e1 = IsBetween 1 85 85

abbrev pub head_form3 : (c : ℕ) (e1 : ℕ) (u1 : ℕ) → ℕ → List ℕ → Type 0
head_form3 c e1 u1 = IsBetween 1 1 2

abbrev pub head3 : (c : ℕ) (e1 : ℕ) (u1 : ℕ) → ℕ → List ℕ → Type 0
head3 c e1 u1 = head_form3 c e1 u1

abbrev pub head2 : (c : ℕ) (e1 : ℕ) → ℕ × ℕ → List ℕ → Type 0
head2 c e1 = Pair (head_form2 c e1) (λ u1. head3 c e1 u1)

abbrev pub head1 : (c : ℕ) → ℕ × (ℕ × ℕ) → List ℕ → Type 0
head1 c = Pair (head_form1 c) (λ e1. head2 c e1)

abbrev pub head0 : ℕ × (ℕ × (ℕ × ℕ)) → List ℕ → Type 0
head0 = Pair (head_form0) (λ c. head1 c)

pub head_unique3 : (c : ℕ) (e1 : ℕ) (u1 : ℕ) → Unique (head3 c e1 u1)
head_unique3 c e1 u1 = unique_between 1 1 2 (lit< tt)

pub head_unique2 : (c : ℕ) (e1 : ℕ) → Unique (head2 c e1)
head_unique2 c e1 = unique_pair (head_form2 c e1) (λ u1. head3 c e1 u1) (unique_between 1 85 85 (lit< tt)) (λ u1. head_unique3 c e1 u1)

pub head_unique1 : (c : ℕ) → Unique (head1 c)
head_unique1 c = unique_pair (head_form1 c) (λ e1. head2 c e1) (unique_between 1 69 69 (lit< tt)) (λ e1. head_unique2 c e1)

pub head_unique0 : Unique (head0)
head_unique0 = unique_pair (head_form0) (λ c. head1 c) (unique_between 1 67 67 (lit< tt)) (λ c. head_unique1 c)

head_some3 : (c : ℕ) (w_c : List ℕ) (f_c : head_form0 c w_c) (e1 : ℕ) (w_e1 : List ℕ) (f_e1 : head_form1 c e1 w_e1) (u1 : ℕ) (w_u1 : List ℕ) (f_u1 : head_form2 c e1 u1 w_u1) → (w : List ℕ) × Words (head3 c e1 u1) w
head_some3 c w_c f_c e1 w_e1 f_e1 u1 w_u1 f_u1 = some_between 1 1 2 (lit≤ tt)

head_some2 : (c : ℕ) (w_c : List ℕ) (f_c : head_form0 c w_c) (e1 : ℕ) (w_e1 : List ℕ) (f_e1 : head_form1 c e1 w_e1) → (w : List ℕ) × Words (head2 c e1) w
head_some2 c w_c f_c e1 w_e1 f_e1 = let s : (w : List ℕ) × Words (head_form2 c e1) w = some_between 1 85 85 (lit≤ tt) in some_pair (head_form2 c e1) (λ u1. head3 c e1 u1) s.1.0 s.0 s.1.1 (head_some3 c w_c f_c e1 w_e1 f_e1 s.1.0 s.0 s.1.1)

head_some1 : (c : ℕ) (w_c : List ℕ) (f_c : head_form0 c w_c) → (w : List ℕ) × Words (head1 c) w
head_some1 c w_c f_c = let s : (w : List ℕ) × Words (head_form1 c) w = some_between 1 69 69 (lit≤ tt) in some_pair (head_form1 c) (λ e1. head2 c e1) s.1.0 s.0 s.1.1 (head_some2 c w_c f_c s.1.0 s.0 s.1.1)

pub head_refused0 : (bytes : List ℕ) (at : ℕ) (e : DecodeError) → Refused (Words (head_form0)) bytes at e → Refused (Words (head0)) bytes at e
head_refused0 bytes at e r = (pair_if (head_form0) (λ c. head1 c) bytes at e (λ c w f. head_some1 c w f) r)

pub head_refused1 : (bytes : List ℕ) (at at1 : ℕ) (c : ℕ) (e : DecodeError) → Reads (head_form0) bytes at c at1 → Refused (Words (head_form1 c)) bytes at1 e → Refused (Words (head0)) bytes at e
head_refused1 bytes at at1 c e r0 r = (pair_second (head_form0) (λ c. head1 c) bytes at at1 c e (unique_between 1 67 67 (lit< tt)) r0 (pair_if (head_form1 c) (λ e1. head2 c e1) bytes at1 e (λ e1 w f. head_some2 c r0.word r0.form e1 w f) r))

pub head_refused2 : (bytes : List ℕ) (at at1 at2 : ℕ) (c : ℕ) (e1 : ℕ) (e : DecodeError) → Reads (head_form0) bytes at c at1 → Reads (head_form1 c) bytes at1 e1 at2 → Refused (Words (head_form2 c e1)) bytes at2 e → Refused (Words (head0)) bytes at e
head_refused2 bytes at at1 at2 c e1 e r0 r1 r = (pair_second (head_form0) (λ c. head1 c) bytes at at1 c e (unique_between 1 67 67 (lit< tt)) r0 (pair_second (head_form1 c) (λ e1. head2 c e1) bytes at1 at2 e1 e (unique_between 1 69 69 (lit< tt)) r1 (pair_if (head_form2 c e1) (λ u1. head3 c e1 u1) bytes at2 e (λ u1 w f. head_some3 c r0.word r0.form e1 r1.word r1.form u1 w f) r)))

pub head_refused3 : (bytes : List ℕ) (at at1 at2 at3 : ℕ) (c : ℕ) (e1 : ℕ) (u1 : ℕ) (e : DecodeError) → Reads (head_form0) bytes at c at1 → Reads (head_form1 c) bytes at1 e1 at2 → Reads (head_form2 c e1) bytes at2 u1 at3 → Refused (Words (head_form3 c e1 u1)) bytes at3 e → Refused (Words (head0)) bytes at e
head_refused3 bytes at at1 at2 at3 c e1 u1 e r0 r1 r2 r = (pair_second (head_form0) (λ c. head1 c) bytes at at1 c e (unique_between 1 67 67 (lit< tt)) r0 (pair_second (head_form1 c) (λ e1. head2 c e1) bytes at1 at2 e1 e (unique_between 1 69 69 (lit< tt)) r1 (pair_second (head_form2 c e1) (λ u1. head3 c e1 u1) bytes at2 at3 u1 e (unique_between 1 85 85 (lit< tt)) r2 r)))

pub head_read : (bytes : List ℕ) (at at1 at2 at3 next : ℕ) (c : ℕ) (e1 : ℕ) (u1 : ℕ) (v : ℕ) → Reads (head_form0) bytes at c at1 → Reads (head_form1 c) bytes at1 e1 at2 → Reads (head_form2 c e1) bytes at2 u1 at3 → Reads (head_form3 c e1 u1) bytes at3 v next → Reads (head0) bytes at (c, (e1, (u1, v))) next
head_read bytes at at1 at2 at3 next c e1 u1 v r0 r1 r2 r3 = (read_pair (head_form0) (λ c. head1 c) bytes at at1 next c (e1, (u1, v)) r0 (read_pair (head_form1 c) (λ e1. head2 c e1) bytes at1 at2 next e1 (u1, v) r1 (read_pair (head_form2 c e1) (λ u1. head3 c e1 u1) bytes at2 at3 next u1 v r2 r3)))

abbrev Tuple : Type 0
Tuple = ℕ × (ℕ × (ℕ × ℕ))

letter : (n m : ℕ) (w : List ℕ) → m ≤ 255 → IsBetween 1 m m n w → w ≡ m ∷ []
letter n m w small f =
    let low : m ≤ n = f.0.0 in
    let high : n ≤ m = f.0.1 in
    let same : n ≡ m = omega arith in
    f.1 ∙ ap (low_first 1) same ∙ byte_word m small

head_to : (p : Tuple) (w : List ℕ) → head0 p w → IsHead p.1.1.1 w
head_to p w t =
    let t1 = t.is_second in
    let t2 = t1.is_second in
    let last : t2.second ≡ p.1.1.1 ∷ [] = t2.is_second.1 ∙ byte_word p.1.1.1 (let h : p.1.1.1 ≤ 2 = t2.is_second.0.1 in omega arith) in (
      t2.is_second.0,
      t.joined ∙ ap (λ (a : List ℕ). a ++ t.second) (letter p.0 67 t.first (lit≤ tt) t.is_first)
          ∙ ap (λ (a : List ℕ). 67 ∷ a) (t1.joined ∙ ap (λ (a : List ℕ). a ++ t1.second) (letter p.1.0 69 t1.first (lit≤ tt) t1.is_first))
          ∙ ap (λ (a : List ℕ). 67 ∷ 69 ∷ a) (t2.joined ∙ ap (λ (a : List ℕ). a ++ t2.second) (letter p.1.1.0 85 t2.first (lit≤ tt) t2.is_first))
          ∙ ap (λ (a : List ℕ). 67 ∷ 69 ∷ 85 ∷ a) last,
    )

one_letter : (m : ℕ) → m ≤ 255 → IsBetween 1 m m m (m ∷ [])
one_letter m small = ((omega arith, omega arith), sym (byte_word m small))

head_from : (v : ℕ) (w : List ℕ) → IsHead v w → head0 (67, (69, (85, v))) w
head_from v w (i, e) =
    let high : v ≤ 2 = i.1 in
    let t2 : head2 67 69 (85, v) (85 ∷ v ∷ []) = record { first = 85 ∷ []; second = v ∷ []; is_first = one_letter 85 (lit≤ tt); is_second = (i, sym (byte_word v (omega arith))); joined = refl } in
    let t1 : head1 67 (69, (85, v)) (69 ∷ 85 ∷ v ∷ []) = record { first = 69 ∷ []; second = 85 ∷ v ∷ []; is_first = one_letter 69 (lit≤ tt); is_second = t2; joined = refl } in
    record { first = 67 ∷ []; second = 69 ∷ 85 ∷ v ∷ []; is_first = one_letter 67 (lit≤ tt); is_second = t1; joined = e }

abbrev version_at : Tuple → ℕ
version_at p = p.1.1.1

abbrev tuple : ℕ → Tuple
tuple v = (67, (69, (85, v)))

pub unique_head : Unique IsHead
unique_head = unique_as IsHead head0 tuple version_at (λ v. refl) head_from head_unique0

pub head_refused : (bytes : List ℕ) (e : DecodeError) → Refused (Words head0) bytes 0 e → Refused (Words IsHead) bytes 0 e
head_refused bytes e r = refused_as head0 IsHead version_at tuple bytes 0 e head_to head_from r

pub head_as : (bytes : List ℕ) (next : ℕ) (p : Tuple) → Reads head0 bytes 0 p next → Reads IsHead bytes 0 p.1.1.1 next
head_as bytes next p r = reads_as head0 IsHead bytes 0 next p p.1.1.1 (head_to p) r

pub some_head : (w : List ℕ) × Words IsHead w
some_head = (67 ∷ 69 ∷ 85 ∷ 1 ∷ [], (1, ((lit≤ tt, lit≤ tt), refl)))
