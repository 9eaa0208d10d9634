-- Rows of an image: each is read in one way.
use Rattle.std.proofs.Common.{◌≡◌, ℕ, zero, suc, ◌+◌, ◌-◌, ◌≤◌, ◌<◌, ◌^◌, List, [], ◌∷◌, ◌++◌, length, refl, sym, ap, ◌∙◌, subst, arith, append_assoc, length-append}
use Rattle.std.specs.List.{AllByRecursion, flat_map}
use Rattle.std.proofs.lemmas.List.{append-nil, append_cancel_left}
use Rattle.std.proofs.lemmas.List.Concat.{flat_map-cons}
use Rattle.std.proofs.lemmas.Grind.{flat_map-append}
use Rattle.ceu_code.specs.Spelling.{half}
use Rattle.ceu_code.specs.declared.decoding.DecodeError.{DecodeError}
use Rattle.ceu_code.specs.Reading.{Reads, Words, Stops, Then, Unique, Refused, Spelled, Items, Counted, IsBetween}
use Rattle.ceu_code.proofs.Reading.{stop_first, stop_second, stop_same, refused_more, read_both, Pair, pair_first, pair_second, unique_pair, refused_as, unique_as}
use Rattle.ceu_code.proofs.Numbers.{unique_between}

-- ---- two bytes

pub half_to : (n : ℕ) (w : List ℕ) → IsBetween 2 0 65535 n w → Spelled (λ (n : ℕ). n < 2 ^ 16) half n w
half_to n w (i, e) = (let h : n ≤ 65535 = i.1 in omega arith, e)

pub half_from : (n : ℕ) (w : List ℕ) → Spelled (λ (n : ℕ). n < 2 ^ 16) half n w → IsBetween 2 0 65535 n w
half_from n w (i, e) = ((omega arith, omega arith), e)

pub unique_half : Unique (Spelled (λ (n : ℕ). n < 2 ^ 16) half)
unique_half n m a b x y p q e = unique_between 2 0 65535 (omega arith) n m a b x y (half_from n a p) (half_from m b q) e

-- ---- items one after the other

module _ {V : Type 0} (Valid : V → Type 0) (spell : V → List ℕ) where
  abbrev F : V → List ℕ → Type 0
  F = Spelled Valid spell

  abbrev Many : ℕ → List V → List ℕ → Type 0
  Many = Items Valid spell

  pub same_items : Unique F → (vs us : List V) (x y : List ℕ) → length vs ≡ length us → AllByRecursion Valid vs → AllByRecursion Valid us → flat_map spell vs ++ x ≡ flat_map spell us ++ y → vs ≡ us
  same_items one [] [] x y l p q e = refl
  same_items one [] (u ∷ us) x y l p q e = absurd (omega arith)
  same_items one (v ∷ vs) [] x y l p q e = absurd (omega arith)
  same_items one (v ∷ vs) (u ∷ us) x y l p q e =
      let left : flat_map spell (v ∷ vs) ++ x ≡ spell v ++ (flat_map spell vs ++ x) = ap (λ (w : List ℕ). w ++ x) (flat_map-cons spell v vs) ∙ append_assoc (spell v) (flat_map spell vs) x in
      let right : flat_map spell (u ∷ us) ++ y ≡ spell u ++ (flat_map spell us ++ y) = ap (λ (w : List ℕ). w ++ y) (flat_map-cons spell u us) ∙ append_assoc (spell u) (flat_map spell us) y in
      let both : spell v ++ (flat_map spell vs ++ x) ≡ spell u ++ (flat_map spell us ++ y) = sym left ∙ e ∙ right in
      let same = one v u (spell v) (spell u) (flat_map spell vs ++ x) (flat_map spell us ++ y) (p.0, refl) (q.0, refl) both in
      let tail : flat_map spell vs ++ x ≡ flat_map spell us ++ y = append_cancel_left (spell u) (flat_map spell vs ++ x) (flat_map spell us ++ y) (ap (λ (w : List ℕ). w ++ (flat_map spell vs ++ x)) (sym same.1) ∙ both) in
      ap (λ (z : V). z ∷ vs) same.0 ∙ ap (λ (zs : List V). u ∷ zs) (same_items one vs us x y (omega arith) p.1 q.1 tail)

  pub unique_items : Unique F → (n : ℕ) → Unique (Many n)
  unique_items one n vs us a b x y (l, p, c) (m, q, d) e =
      let same = same_items one vs us x y (l ∙ sym m) p q (ap (λ (w : List ℕ). w ++ x) (sym c) ∙ e ∙ ap (λ (w : List ℕ). w ++ y) d) in
      (same, c ∙ ap (flat_map spell) same ∙ sym d)

  all_append : (vs us : List V) → AllByRecursion Valid vs → AllByRecursion Valid us → AllByRecursion Valid (vs ++ us)
  all_append [] us p q = q
  all_append (v ∷ vs) us p q = (p.0, all_append vs us p.1 q)

  abbrev copies : V → ℕ → List V
  copies v zero = []
  copies v (suc n) = v ∷ copies v n

  copies_length : (v : V) (n : ℕ) → length (copies v n) ≡ n
  copies_length v zero = refl
  copies_length v (suc n) = ap suc (copies_length v n)

  copies_valid : (v : V) → Valid v → (n : ℕ) → AllByRecursion Valid (copies v n)
  copies_valid v p zero = tt
  copies_valid v p (suc n) = (p, copies_valid v p n)

  pub some_items : (v : V) → Valid v → (n : ℕ) → (w : List ℕ) × Words (Many n) w
  some_items v p n = (flat_map spell (copies v n), (copies v n, (copies_length v n, copies_valid v p n, refl)))

  -- one item more
  one_to : (n : ℕ) (w : List ℕ) → Then F (λ _. Words (Many n)) w → Words (Many (suc n)) w
  one_to n w t = (t.value ∷ t.is_second.0, (ap suc t.is_second.1.0, (t.is_first.0, t.is_second.1.1), t.joined ∙ ap (λ (l : List ℕ). l ++ t.second) t.is_first.1 ∙ ap (λ (l : List ℕ). spell t.value ++ l) t.is_second.1.2 ∙ sym (flat_map-cons spell t.value t.is_second.0)))

  one_from : (n : ℕ) (w : List ℕ) → Words (Many (suc n)) w → Then F (λ _. Words (Many n)) w
  one_from n w ([], (l, p, e)) = absurd (omega arith)
  one_from n w (v ∷ vs, (l, p, e)) = record { value = v; first = spell v; second = flat_map spell vs; is_first = (p.0, refl); is_second = (vs, (let k : suc (length vs) ≡ suc n = l in omega arith, p.1, refl)); joined = e ∙ flat_map-cons spell v vs }

  -- so many items and so many behind them
  more_to : (i m : ℕ) (w : List ℕ) → Then (Many i) (λ _. Words (Many m)) w → Words (Many (i + m)) w
  more_to i m w t =
      (t.value ++ t.is_second.0, (length-append t.value t.is_second.0 ∙ (let a = t.is_first.0 in let b = t.is_second.1.0 in omega arith), all_append t.value t.is_second.0 t.is_first.1 t.is_second.1.1, t.joined ∙ ap (λ (l : List ℕ). l ++ t.second) t.is_first.2 ∙ ap (λ (l : List ℕ). flat_map spell t.value ++ l) t.is_second.1.2 ∙ sym (flat_map-append spell t.value t.is_second.0)))

  more_from : (i m : ℕ) (w : List ℕ) → Words (Many (i + m)) w → Then (Many i) (λ _. Words (Many m)) w
  more_from zero m w (vs, (l, p, e)) = record { value = []; first = []; second = w; is_first = (refl, tt, refl); is_second = (vs, (l ∙ omega arith, p, e)); joined = refl }
  more_from (suc i) m w ([], (l, p, e)) = absurd (omega arith)
  more_from (suc i) m w (v ∷ vs, (l, p, e)) =
      let t = more_from i m (flat_map spell vs) (vs, (let k : suc (length vs) ≡ suc i + m = l in omega arith, p.1, refl)) in
      record {
        value = v ∷ t.value;
        first = spell v ++ t.first;
        second = t.second;
        is_first = (ap suc t.is_first.0, (p.0, t.is_first.1), ap (λ (l : List ℕ). spell v ++ l) t.is_first.2 ∙ sym (flat_map-cons spell v t.value));
        is_second = t.is_second;
        joined = e ∙ flat_map-cons spell v vs ∙ ap (λ (l : List ℕ). spell v ++ l) t.joined ∙ sym (append_assoc (spell v) t.first t.second);
      }

  -- where an item stops behind some that were read, they all do
  pub items_stop : Unique F → (bytes : List ℕ) (at mid k n i : ℕ) (vs : List V) → i < n → Reads (Many i) bytes at vs mid → Stops (Words F) bytes mid k → Stops (Words (Many n)) bytes at k
  items_stop one bytes at mid k n i vs less r s =
      let m : ℕ = n - (i + 1) in
      let some = s.begins.1 in
      let one_more = stop_same (Then F (λ _. Words (Many m))) (Words (Many (suc m))) bytes mid k (one_to m) (one_from m) (stop_first F (λ _. Words (Many m)) bytes mid k (λ v w f. some_items v f.0 m) s) in
      let all = stop_same (Then (Many i) (λ _. Words (Many (suc m)))) (Words (Many (i + suc m))) bytes at k (more_to i (suc m)) (more_from i (suc m)) (stop_second (Many i) (λ _. Words (Many (suc m))) bytes at mid k vs (unique_items one i) r one_more) in
      let total : i + suc m ≡ n = omega arith in
      subst (λ (t : ℕ). Stops (Words (Many t)) bytes at k) total all

  pub no_items_read : (bytes : List ℕ) (at : ℕ) → at ≤ length bytes → Reads (Many 0) bytes at [] at
  no_items_read bytes at inside = record { word = []; form = (refl, tt, refl); split = refl; ahead = omega arith; within = inside }

  pub item_read : (bytes : List ℕ) (at mid next i : ℕ) (vs : List V) (v : V) → Reads (Many i) bytes at vs mid → Reads F bytes mid v next → Reads (Many (i + 1)) bytes at (vs ++ v ∷ []) next
  item_read bytes at mid next i vs v r s =
      read_both (Many i) F (Many (i + 1)) bytes at mid next vs v (vs ++ v ∷ [])
      (λ a b f g. (length-append vs (v ∷ []) ∙ (let l = f.0 in omega arith), all_append vs (v ∷ []) f.1 (g.0, tt), ap (λ (l : List ℕ). l ++ b) f.2 ∙ ap (λ (l : List ℕ). flat_map spell vs ++ l) (g.1 ∙ sym (append-nil (spell v))) ∙ sym (flat_map-append spell vs (v ∷ []))))
      r s

  -- ---- a count and so many items

  abbrev CountAnd : ℕ → ℕ × List V → List ℕ → Type 0
  CountAnd least = Pair (IsBetween 2 least 65535) Many

  pub count_to : (least : ℕ) (p : ℕ × List V) (w : List ℕ) → CountAnd least p w → Counted Valid spell least p.1 w
  count_to least p w t =
      let l : length p.1 ≡ p.0 = t.is_second.0 in
      ((subst (λ (n : ℕ). least ≤ n) (sym l) t.is_first.0.0, subst (λ (n : ℕ). n ≤ 65535) (sym l) t.is_first.0.1), (t.is_second.1, t.joined ∙ ap (λ (a : List ℕ). a ++ t.second) (t.is_first.1 ∙ ap half (sym l)) ∙ ap (λ (a : List ℕ). half (length p.1) ++ a) t.is_second.2))

  pub count_from : (least : ℕ) (vs : List V) (w : List ℕ) → Counted Valid spell least vs w → CountAnd least (length vs, vs) w
  count_from least vs w (i, (p, e)) = record { first = half (length vs); second = flat_map spell vs; is_first = (i, refl); is_second = (refl, p, refl); joined = e }

  pub unique_counted : Unique F → (least : ℕ) → Unique (Counted Valid spell least)
  unique_counted one least = unique_as (Counted Valid spell least) (CountAnd least) (λ vs. (length vs, vs)) (λ p. p.1) (λ vs. refl) (count_from least) (unique_pair (IsBetween 2 least 65535) Many (unique_between 2 least 65535 (omega arith)) (unique_items one))

  pub count_refused : (least : ℕ) (bytes : List ℕ) (at : ℕ) (e : DecodeError) → (v : V) × Valid v → Refused (Words (IsBetween 2 least 65535)) bytes at e → Refused (Words (Counted Valid spell least)) bytes at e
  count_refused least bytes at e some r = refused_as (CountAnd least) (Counted Valid spell least) (λ p. p.1) (λ vs. (length vs, vs)) bytes at e (count_to least) (count_from least) (pair_first (IsBetween 2 least 65535) Many bytes at e (λ n. some_items some.0 some.1 n) r)

  pub items_refused : (least : ℕ) (bytes : List ℕ) (at mid n : ℕ) (e : DecodeError) → Reads (IsBetween 2 least 65535) bytes at n mid → Refused (Words (Many n)) bytes mid e → Refused (Words (Counted Valid spell least)) bytes at e
  items_refused least bytes at mid n e read r = refused_as (CountAnd least) (Counted Valid spell least) (λ p. p.1) (λ vs. (length vs, vs)) bytes at e (count_to least) (count_from least) (pair_second (IsBetween 2 least 65535) Many bytes at mid n e (unique_between 2 least 65535 (omega arith)) read r)

  pub item_refused : Unique F → (bytes : List ℕ) (at mid n i : ℕ) (vs : List V) (e : DecodeError) → i < n → Reads (Many i) bytes at vs mid → Refused (Words F) bytes mid e → Refused (Words (Many n)) bytes at e
  item_refused one bytes at mid n i vs e less read r = refused_more (Words (Many n)) (Words F) bytes at mid e (λ k s. items_stop one bytes at mid k n i vs less read s) r
