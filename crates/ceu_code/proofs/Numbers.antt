-- Numbers byte by byte, within spans.
use Rattle.std.proofs.Common.{add-one, drop-cons, get_or, ◌≡◌, ℕ, zero, suc, ◌+◌, ◌-◌, ◌*◌, ◌/◌, ◌%◌, ◌^◌, ◌≤◌, ◌<◌, List, [], ◌∷◌, ◌++◌, length, drop, refl, sym, ap, ◌∙◌, subst, arith, inl, inr, ◌⊎◌}
use Rattle.std.proofs.Math.Seq.{drop-length}
use Rattle.std.proofs.Math.Nat.{div-add-mod, pow-succ'}
use Rattle.std.proofs.lemmas.Nat.{div-mul-add}
use Rattle.ceu_code.specs.declared.span.Span.{Span}
use Rattle.ceu_code.specs.Table.{low_first, InSpan, InEither}
use Rattle.ceu_code.specs.declared.decoding.DecodeError.{DecodeError}
use Rattle.ceu_code.specs.Reading.{Reads, Words, Stops, Refused, Unique, IsIn, IsBetween, narrowed, HasNumbers}
use Rattle.ceu_code.proofs.Reading.{same_head, same_tail, stop_here, stop_byte, stop_same, refused_more}

split_256 : (n : ℕ) → 256 * (n / 256) + n % 256 ≡ n
split_256 n = div-add-mod n 256

mod_256 : (n : ℕ) → n % 256 < 256
mod_256 n = grind arith

pub narrowed_to : (span : Span) (b m : ℕ) → InSpan (narrowed span b) m → InSpan span (b + 256 * m)
narrowed_to span b m h = grind (arith, h, split_256, mod_256)

pub narrowed_from : (span : Span) (b m : ℕ) → InSpan span (b + 256 * m) → InSpan (narrowed span b) m
narrowed_from span b m h = grind (arith, h, split_256, mod_256)

le_refl : (n : ℕ) → n ≤ n
le_refl n = omega arith

pub some_number : (k : ℕ) (low high : Span) → HasNumbers low ⊎ HasNumbers high → (w : List ℕ) × Words (IsIn k low high) w
some_number k low high (inl h) = (low_first k low.from, (low.from, (inl (le_refl low.from, h), refl)))
some_number k low high (inr h) = (low_first k high.from, (high.from, (inr (le_refl high.from, h), refl)))

either_to : (low high : Span) (b m : ℕ) → InEither (narrowed low b) (narrowed high b) m → InEither low high (b + 256 * m)
either_to low high b m (inl h) = inl (narrowed_to low b m h)
either_to low high b m (inr h) = inr (narrowed_to high b m h)

either_from : (low high : Span) (b m : ℕ) → InEither low high (b + 256 * m) → InEither (narrowed low b) (narrowed high b) m
either_from low high b m (inl h) = inl (narrowed_from low b m h)
either_from low high b m (inr h) = inr (narrowed_from high b m h)

pub low_first_byte : (k b m : ℕ) → b < 256 → low_first (suc k) (b + 256 * m) ≡ b ∷ low_first k m
unfolding low_first
low_first_byte k b m small =
    let quotient : (b + 256 * m) / 256 ≡ m = ap (λ (n : ℕ). n / 256) (let e : b + 256 * m ≡ m * 256 + b = omega arith in e) ∙ div-mul-add m 256 b small in
    let rest : (b + 256 * m) % 256 ≡ b = let e = split_256 (b + 256 * m) in omega arith in
    ap (λ (n : ℕ). n ∷ low_first k ((b + 256 * m) / 256)) rest ∙ ap (λ (n : ℕ). b ∷ low_first k n) quotient

-- a number's word behind its lowest byte
pub word_to : (k b : ℕ) (low high : Span) → b < 256 → (w : List ℕ) → Words (IsIn k (narrowed low b) (narrowed high b)) w → Words (IsIn (suc k) low high) (b ∷ w)
word_to k b low high small w (m, (i, e)) = (b + 256 * m, (either_to low high b m i, ap (λ (l : List ℕ). b ∷ l) e ∙ sym (low_first_byte k b m small)))

pub word_from : (k b : ℕ) (low high : Span) → (w : List ℕ) → Words (IsIn (suc k) low high) (b ∷ w) → Words (IsIn k (narrowed low b) (narrowed high b)) w
unfolding low_first
word_from k b low high w (n, (i, e)) =
    let lowest : n % 256 ≡ b = sym (same_head b (n % 256) w (low_first k (n / 256)) e) in
    let whole : n ≡ b + 256 * (n / 256) = let s = split_256 n in omega arith in
    (n / 256, (either_from low high b (n / 256) (subst (λ (x : ℕ). InEither low high x) whole i), same_tail b (n % 256) w (low_first k (n / 256)) e))

pub no_empty_word : (k : ℕ) (low high : Span) → Words (IsIn (suc k) low high) [] → ⊥
unfolding low_first
no_empty_word k low high (n, (i, e)) = let z : 0 ≡ suc (length (low_first k (n / 256))) = ap length e in absurd (omega arith)

no_numbers : (low high : Span) (n : ℕ) → (HasNumbers low → ⊥) → (HasNumbers high → ⊥) → InEither low high n → ⊥
no_numbers low high n p q (inl h) = p (omega arith)
no_numbers low high n p q (inr h) = q (omega arith)

pub number_ends : (k : ℕ) (low high : Span) (bytes : List ℕ) (at : ℕ) → at ≡ length bytes → HasNumbers low ⊎ HasNumbers high → Stops (Words (IsIn (suc k) low high)) bytes at at
number_ends k low high bytes at end some =
    let word = some_number (suc k) low high some in
    let none : drop at bytes ≡ [] = ap (λ (n : ℕ). drop n bytes) end ∙ drop-length bytes in
    stop_here (Words (IsIn (suc k) low high)) bytes at (omega arith) word.0 word.1 (no_empty_word k low high) (λ b rest more e l. let z : 0 ≡ suc (length rest) = ap length (sym none ∙ e) in absurd (omega arith))

pub number_refuses : (k : ℕ) (low high : Span) (bytes : List ℕ) (at b : ℕ) → at < length bytes → drop at bytes ≡ b ∷ drop (at + 1) bytes → HasNumbers low ⊎ HasNumbers high → (HasNumbers (narrowed low b) → ⊥) → (HasNumbers (narrowed high b) → ⊥) → Stops (Words (IsIn (suc k) low high)) bytes at at
number_refuses k low high bytes at b inside cut some p q =
    let word = some_number (suc k) low high some in
    stop_here (Words (IsIn (suc k) low high)) bytes at (omega arith) word.0 word.1 (no_empty_word k low high) (λ c rest more e l.
    let same : c ≡ b = same_head c b rest (drop (at + 1) bytes) (sym e ∙ cut) in
    let m = word_from k b low high more (subst (λ (n : ℕ). Words (IsIn (suc k) low high) (n ∷ more)) same l) in
    no_numbers (narrowed low b) (narrowed high b) m.0 p q m.1.0)

pub number_goes_on : (k : ℕ) (low high : Span) (bytes : List ℕ) (at b stop : ℕ) → b < 256 → drop at bytes ≡ b ∷ drop (at + 1) bytes → Stops (Words (IsIn k (narrowed low b) (narrowed high b))) bytes (at + 1) stop → Stops (Words (IsIn (suc k) low high)) bytes at stop
number_goes_on k low high bytes at b stop small cut s = stop_byte (Words (IsIn (suc k) low high)) (Words (IsIn k (narrowed low b) (narrowed high b))) bytes at stop b cut (word_to k b low high small) (word_from k b low high) (no_empty_word k low high) s

pub number_read : (k : ℕ) (low high : Span) (bytes : List ℕ) (at b m next : ℕ) → b < 256 → drop at bytes ≡ b ∷ drop (at + 1) bytes → Reads (IsIn k (narrowed low b) (narrowed high b)) bytes (at + 1) m next → Reads (IsIn (suc k) low high) bytes at (b + 256 * m) next
number_read k low high bytes at b m next small cut r = record {
  word = b ∷ r.word;
  form = (either_to low high b m r.form.0, ap (λ (l : List ℕ). b ∷ l) r.form.1 ∙ sym (low_first_byte k b m small));
  split = cut ∙ ap (λ (w : List ℕ). b ∷ w) r.split;
  ahead = let e = r.ahead in omega arith;
  within = r.within;
}

zero_in : (low high : Span) → low.to < 1 → high.to < 1 → HasNumbers low ⊎ HasNumbers high → InEither low high 0
zero_in low high p q (inl h) = inl (let k : low.from ≤ low.to = h in (omega arith, omega arith))
zero_in low high p q (inr h) = inr (let k : high.from ≤ high.to = h in (omega arith, omega arith))

pub nothing_read : (low high : Span) (bytes : List ℕ) (at : ℕ) → at ≤ length bytes → low.to < 1 → high.to < 1 → HasNumbers low ⊎ HasNumbers high → Reads (IsIn 0 low high) bytes at 0 at
unfolding low_first
nothing_read low high bytes at inside p q some = record {
  word = [];
  form = (zero_in low high p q some, refl);
  split = refl;
  ahead = omega arith;
  within = inside;
}

-- ---- a number has one word, and no word begins another's

pub low_first_same : (k n m : ℕ) (x y : List ℕ) → n < 256 ^ k → m < 256 ^ k → low_first k n ++ x ≡ low_first k m ++ y → n ≡ m
unfolding low_first
low_first_same zero n m x y p q e = omega arith
low_first_same (suc k) n m x y p q e =
    let lowest : n % 256 ≡ m % 256 = same_head (n % 256) (m % 256) (low_first k (n / 256) ++ x) (low_first k (m / 256) ++ y) e in
    let split_n = split_256 n in
    let split_m = split_256 m in
    let power : 256 ^ suc k ≡ 256 * 256 ^ k = pow-succ' 256 k in
    let higher = low_first_same k (n / 256) (m / 256) x y (omega arith) (omega arith) (same_tail (n % 256) (m % 256) (low_first k (n / 256) ++ x) (low_first k (m / 256) ++ y) e) in
    omega arith

pub unique_between : (k least greatest : ℕ) → greatest < 256 ^ k → Unique (IsBetween k least greatest)
unique_between k least greatest small n m a b x y (i, p) (j, q) e =
    let same : n ≡ m = low_first_same k n m x y (let h = i.1 in omega arith) (let h = j.1 in omega arith) (ap (λ (w : List ℕ). w ++ x) (sym p) ∙ e ∙ ap (λ (w : List ℕ). w ++ y) q) in
    (same, p ∙ ap (low_first k) same ∙ sym q)

-- the same of a width k and of the spans that are left
module _ (width : ℕ) (low high : Span) (bytes : List ℕ) (at b : ℕ) (low_rest high_rest : Span) (k_is : suc (width - 1) ≡ width) (cut : drop at bytes ≡ b ∷ drop (at + 1) bytes) (small : b < 256) (low_is : low_rest ≡ narrowed low b) (high_is : high_rest ≡ narrowed high b) where
  pub refuses_here : at < length bytes → HasNumbers low ⊎ HasNumbers high → ((HasNumbers low_rest ⊎ HasNumbers high_rest) → ⊥) → Stops (Words (IsIn width low high)) bytes at at
  refuses_here inside some none =
      subst (λ (k : ℕ). Stops (Words (IsIn k low high)) bytes at at) k_is
      (number_refuses (width - 1) low high bytes at b inside cut some (λ h. none (inl (subst HasNumbers (sym low_is) h))) (λ h. none (inr (subst HasNumbers (sym high_is) h))))

  pub refuses_behind : (stop : ℕ) → Stops (Words (IsIn (width - 1) low_rest high_rest)) bytes (at + 1) stop → Stops (Words (IsIn width low high)) bytes at stop
  refuses_behind stop s =
      subst (λ (k : ℕ). Stops (Words (IsIn k low high)) bytes at stop) k_is
      (number_goes_on (width - 1) low high bytes at b stop small cut
      (subst (λ (x : Span). Stops (Words (IsIn (width - 1) (narrowed low b) x)) bytes (at + 1) stop) high_is (subst (λ (x : Span). Stops (Words (IsIn (width - 1) x high_rest)) bytes (at + 1) stop) low_is s)))

  pub reads_here : (m next : ℕ) → Reads (IsIn (width - 1) low_rest high_rest) bytes (at + 1) m next → Reads (IsIn width low high) bytes at (b + 256 * m) next
  reads_here m next r =
      subst (λ (k : ℕ). Reads (IsIn k low high) bytes at (b + 256 * m) next) k_is
      (number_read (width - 1) low high bytes at b m next small cut
      (subst (λ (x : Span). Reads (IsIn (width - 1) (narrowed low b) x) bytes (at + 1) m next) high_is (subst (λ (x : Span). Reads (IsIn (width - 1) x high_rest) bytes (at + 1) m next) low_is r)))

  pub bound_left : low.to < 256 ^ width → 256 * low_rest.to ≤ low.to → low_rest.to < 256 ^ (width - 1)
  bound_left fits less = let power = ap (λ (k : ℕ). 256 ^ k) (sym k_is) ∙ pow-succ' 256 (width - 1) in omega arith

  pub bound_right : high.to < 256 ^ width → 256 * high_rest.to ≤ high.to → high_rest.to < 256 ^ (width - 1)
  bound_right fits less = let power = ap (λ (k : ℕ). 256 ^ k) (sym k_is) ∙ pow-succ' 256 (width - 1) in omega arith

-- nothing is read of a number without bytes
pub reads_nothing : (width : ℕ) (low high : Span) (bytes : List ℕ) (at : ℕ) → width ≡ 0 → at ≤ length bytes → low.to < 256 ^ width → high.to < 256 ^ width → HasNumbers low ⊎ HasNumbers high → Reads (IsIn width low high) bytes at 0 at
reads_nothing width low high bytes at none inside p q some =
    let one : 256 ^ width ≡ 1 = ap (λ (k : ℕ). 256 ^ k) none in
    subst (λ (k : ℕ). Reads (IsIn k low high) bytes at 0 at) (sym none) (nothing_read low high bytes at inside (omega arith) (omega arith) some)

-- the first byte and what is behind it
pub cut_at : (bytes : List ℕ) (at : ℕ) → at < length bytes → drop at bytes ≡ get_or bytes at 0 ∷ drop (at + 1) bytes
cut_at bytes at inside = rw (add-one, drop-cons bytes at 0)

-- a number of one span
pub one_span_to : (k least greatest : ℕ) (empty : Span) → empty.to < empty.from → (n : ℕ) (w : List ℕ) → IsIn k (record { from = least; to = greatest }) empty n w → IsBetween k least greatest n w
one_span_to k least greatest empty none n w (inl h, e) = (h, e)
one_span_to k least greatest empty none n w (inr h, e) = let l : empty.from ≤ n = h.0 in let r : n ≤ empty.to = h.1 in absurd (omega arith)

pub one_span_from : (k least greatest : ℕ) (empty : Span) (n : ℕ) (w : List ℕ) → IsBetween k least greatest n w → IsIn k (record { from = least; to = greatest }) empty n w
one_span_from k least greatest empty n w h = (inl h.0, h.1)

pub one_span_read : (k least greatest : ℕ) (empty : Span) → empty.to < empty.from → (bytes : List ℕ) (at n next : ℕ) → Reads (IsIn k (record { from = least; to = greatest }) empty) bytes at n next → Reads (IsBetween k least greatest) bytes at n next
one_span_read k least greatest empty none bytes at n next r = record { word = r.word; form = one_span_to k least greatest empty none n r.word r.form; split = r.split; ahead = r.ahead; within = r.within }

pub one_span_refused : (k least greatest : ℕ) (empty : Span) → empty.to < empty.from → (bytes : List ℕ) (at : ℕ) (e : DecodeError) → Refused (Words (IsIn k (record { from = least; to = greatest }) empty)) bytes at e → Refused (Words (IsBetween k least greatest)) bytes at e
one_span_refused k least greatest empty none bytes at e =
    refused_more (Words (IsBetween k least greatest)) (Words (IsIn k (record { from = least; to = greatest }) empty)) bytes at at e
    (λ stop s. stop_same (Words (IsIn k (record { from = least; to = greatest }) empty)) (Words (IsBetween k least greatest)) bytes at stop
    (λ w h. (h.0, one_span_to k least greatest empty none h.0 w h.1))
    (λ w h. (h.0, one_span_from k least greatest empty h.0 w h.1)) s)
