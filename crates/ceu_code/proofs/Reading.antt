-- Readers one after the other.
use Rattle.std.proofs.Common.{◌≡◌, ℕ, ◌+◌, ◌≤◌, List, [], ◌∷◌, ◌++◌, length, drop, get_or, refl, sym, ap, ◌∙◌, subst, arith, append_assoc, length-append, inl, inr, ◌⊎◌}
use Rattle.std.proofs.lemmas.List.{append-nil, append_cancel_left}
use Rattle.ceu_code.specs.declared.decoding.DecodeError.{DecodeError}
use Rattle.ceu_code.specs.declared.decoding.DecodeError.TheVariants.{Bad, Memory}
use Rattle.ceu_code.specs.Reading.{Reads, Words, Stops, Then, Unique, Refused}

pub same_tail : (a b : ℕ) (xs ys : List ℕ) → a ∷ xs ≡ b ∷ ys → xs ≡ ys
same_tail a b xs ys e = ap (drop 1) e

pub same_head : (a b : ℕ) (xs ys : List ℕ) → a ∷ xs ≡ b ∷ ys → a ≡ b
same_head a b xs ys e = ap (λ (l : List ℕ). get_or l 0 0) e

-- one of two beginnings of the same bytes is the longer
pub append_split : (xs ys us vs : List ℕ) → xs ++ ys ≡ us ++ vs → ((c : List ℕ) × (us ≡ xs ++ c) × (ys ≡ c ++ vs)) ⊎ ((c : List ℕ) × (xs ≡ us ++ c) × (vs ≡ c ++ ys))
append_split [] ys us vs e = inl (us, refl, e)
append_split (x ∷ xs) ys [] vs e = inr (x ∷ xs, refl, sym e)
append_split (x ∷ xs) ys (u ∷ us) vs e = go (append_split xs ys us vs (same_tail x u (xs ++ ys) (us ++ vs) e))
  where
    go : ((c : List ℕ) × (us ≡ xs ++ c) × (ys ≡ c ++ vs)) ⊎ ((c : List ℕ) × (xs ≡ us ++ c) × (vs ≡ c ++ ys)) → ((c : List ℕ) × (u ∷ us ≡ x ∷ (xs ++ c)) × (ys ≡ c ++ vs)) ⊎ ((c : List ℕ) × (x ∷ xs ≡ u ∷ (us ++ c)) × (vs ≡ c ++ ys))
    go (inl (c, p, q)) = inl (c, ap (λ (n : ℕ). n ∷ us) (sym (same_head x u (xs ++ ys) (us ++ vs) e)) ∙ ap (λ (l : List ℕ). x ∷ l) p, q)
    go (inr (c, p, q)) = inr (c, ap (λ (n : ℕ). n ∷ xs) (same_head x u (xs ++ ys) (us ++ vs) e) ∙ ap (λ (l : List ℕ). u ∷ l) p, q)

module _ {V : Type 0} (F : V → List ℕ → Type 0) (L : V → List ℕ → Type 0) (bytes : List ℕ) where
  -- where the first part stops, both do
  pub stop_first : (at k : ℕ) → ((v : V) (word : List ℕ) → F v word → (w : List ℕ) × L v w) → Stops (Words F) bytes at k → Stops (Then F L) bytes at k
  stop_first at k goes_on s = record {
    front = s.front;
    split = s.split;
    ahead = s.ahead;
    within = s.within;
    begins =
        let v = s.begins.1.0 in
        let first = s.front ++ s.begins.0 in
        let last = goes_on v first s.begins.1.1 in
        (s.begins.0 ++ last.0, record { value = v; first = first; second = last.0; is_first = s.begins.1.1; is_second = last.1; joined = sym (append_assoc s.front s.begins.0 last.0) });
    never = λ word rest t e. s.never t.first (t.second ++ rest) (t.value, t.is_first) (e ∙ ap (λ (w : List ℕ). w ++ rest) t.joined ∙ append_assoc t.first t.second rest);
    longest = λ b rest more e t. beyond b rest more e t (append_split s.front (b ∷ more) t.first t.second t.joined);
  }
    where
      inner : (b : ℕ) (rest more : List ℕ) → drop k bytes ≡ b ∷ rest → (t : Then F L (s.front ++ b ∷ more)) (c : List ℕ) → t.first ≡ s.front ++ c → b ∷ more ≡ c ++ t.second → ⊥
      inner b rest more e t [] p q = s.never t.first (drop k bytes) (t.value, t.is_first) (s.split ∙ ap (λ (w : List ℕ). w ++ drop k bytes) (sym (p ∙ append-nil s.front)))
      inner b rest more e t (d ∷ c) p q = s.longest b rest c e (t.value, subst (F t.value) (p ∙ ap (λ (n : ℕ). s.front ++ n ∷ c) (sym (same_head b d more (c ++ t.second) q))) t.is_first)

      beyond : (b : ℕ) (rest more : List ℕ) → drop k bytes ≡ b ∷ rest → (t : Then F L (s.front ++ b ∷ more)) → ((c : List ℕ) × (t.first ≡ s.front ++ c) × (b ∷ more ≡ c ++ t.second)) ⊎ ((c : List ℕ) × (s.front ≡ t.first ++ c) × (t.second ≡ c ++ b ∷ more)) → ⊥
      beyond b rest more e t (inl (c, p, q)) = inner b rest more e t c p q
      beyond b rest more e t (inr (c, p, q)) = s.never t.first (c ++ drop k bytes) (t.value, t.is_first) (s.split ∙ ap (λ (w : List ℕ). w ++ drop k bytes) p ∙ append_assoc t.first c (drop k bytes))

  -- where the first part is read and the second stops, both stop
  pub stop_second : (at mid k : ℕ) (v : V) → Unique F → Reads F bytes at v mid → Stops (L v) bytes mid k → Stops (Then F L) bytes at k
  stop_second at mid k v one r s = record {
    front = r.word ++ s.front;
    split = r.split ∙ ap (λ (w : List ℕ). r.word ++ w) s.split ∙ sym (append_assoc r.word s.front (drop k bytes));
    ahead = let e = length-append r.word s.front in let a = r.ahead in let b = s.ahead in omega arith;
    within = s.within;
    begins = (s.begins.0, record { value = v; first = r.word; second = s.front ++ s.begins.0; is_first = r.form; is_second = s.begins.1; joined = append_assoc r.word s.front s.begins.0 });
    never = λ word rest t e.
        let both : r.word ++ drop mid bytes ≡ t.first ++ (t.second ++ rest) = sym r.split ∙ e ∙ ap (λ (w : List ℕ). w ++ rest) t.joined ∙ append_assoc t.first t.second rest in
        let same = one v t.value r.word t.first (drop mid bytes) (t.second ++ rest) r.form t.is_first both in
        s.never t.second rest (subst (λ (u : V). L u t.second) (sym same.0) t.is_second) (append_cancel_left r.word (drop mid bytes) (t.second ++ rest) (both ∙ ap (λ (w : List ℕ). w ++ (t.second ++ rest)) (sym same.1)));
    longest = λ b rest more e t.
        let both : r.word ++ (s.front ++ b ∷ more) ≡ t.first ++ t.second = sym (append_assoc r.word s.front (b ∷ more)) ∙ t.joined in
        let same = one v t.value r.word t.first (s.front ++ b ∷ more) t.second r.form t.is_first both in
        let tail : t.second ≡ s.front ++ b ∷ more = sym (append_cancel_left r.word (s.front ++ b ∷ more) t.second (both ∙ ap (λ (w : List ℕ). w ++ t.second) (sym same.1))) in
        s.longest b rest more e (subst (L v) tail (subst (λ (u : V). L u t.second) (sym same.0) t.is_second));
  }

-- the same words stop at the same place
pub stop_same : (L M : List ℕ → Type 0) (bytes : List ℕ) (at k : ℕ) → ((w : List ℕ) → L w → M w) → ((w : List ℕ) → M w → L w) → Stops L bytes at k → Stops M bytes at k
stop_same L M bytes at k to from s = record {
  front = s.front;
  split = s.split;
  ahead = s.ahead;
  within = s.within;
  begins = (s.begins.0, to (s.front ++ s.begins.0) s.begins.1);
  never = λ word rest m e. s.never word rest (from word m) e;
  longest = λ b rest more e m. s.longest b rest more e (from (s.front ++ b ∷ more) m);
}

-- where no byte goes on, reading stops at once
pub stop_here : (L : List ℕ → Type 0) (bytes : List ℕ) (at : ℕ) → at ≤ length bytes → (w : List ℕ) → L w → (L [] → ⊥) → ((b : ℕ) (rest more : List ℕ) → drop at bytes ≡ b ∷ rest → L (b ∷ more) → ⊥) → Stops L bytes at at
stop_here L bytes at within w l some none = record {
  front = [];
  split = refl;
  ahead = omega arith;
  within = within;
  begins = (w, l);
  never = never;
  longest = none;
}
  where
    never : (word rest : List ℕ) → L word → drop at bytes ≡ word ++ rest → ⊥
    never [] rest l e = some l
    never (b ∷ word) rest l e = none b (word ++ rest) word e l

-- behind a byte, reading stops where what may follow stops
pub stop_byte : (L M : List ℕ → Type 0) (bytes : List ℕ) (at k b : ℕ) → drop at bytes ≡ b ∷ drop (at + 1) bytes → ((w : List ℕ) → M w → L (b ∷ w)) → ((w : List ℕ) → L (b ∷ w) → M w) → (L [] → ⊥) → Stops M bytes (at + 1) k → Stops L bytes at k
stop_byte L M bytes at k b cut to from some s = record {
  front = b ∷ s.front;
  split = cut ∙ ap (λ (w : List ℕ). b ∷ w) s.split;
  ahead = let e = s.ahead in omega arith;
  within = s.within;
  begins = (s.begins.0, to (s.front ++ s.begins.0) s.begins.1);
  never = never;
  longest = λ c rest more e l. s.longest c rest more e (from (s.front ++ c ∷ more) l);
}
  where
    never : (word rest : List ℕ) → L word → drop at bytes ≡ word ++ rest → ⊥
    never [] rest l e = some l
    never (c ∷ word) rest l e =
        let both : b ∷ drop (at + 1) bytes ≡ c ∷ (word ++ rest) = sym cut ∙ e in
        s.never word rest (from word (subst (λ (n : ℕ). L (n ∷ word)) (sym (same_head b c (drop (at + 1) bytes) (word ++ rest) both)) l)) (same_tail b c (drop (at + 1) bytes) (word ++ rest) both)

-- two words one after the other
pub read_both : {V U W : Type 0} (F : V → List ℕ → Type 0) (G : U → List ℕ → Type 0) (H : W → List ℕ → Type 0) (bytes : List ℕ) (at mid next : ℕ) (v : V) (u : U) (w : W) → ((a b : List ℕ) → F v a → G u b → H w (a ++ b)) → Reads F bytes at v mid → Reads G bytes mid u next → Reads H bytes at w next
read_both F G H bytes at mid next v u w join r s = record {
  word = r.word ++ s.word;
  form = join r.word s.word r.form s.form;
  split = r.split ∙ ap (λ (l : List ℕ). r.word ++ l) s.split ∙ sym (append_assoc r.word s.word (drop next bytes));
  ahead = let e = length-append r.word s.word in let a = r.ahead in let b = s.ahead in omega arith;
  within = s.within;
}

-- a refusal of a part is one of the whole
pub refused_more : (L M : List ℕ → Type 0) (bytes : List ℕ) (at behind : ℕ) (e : DecodeError) → ((k : ℕ) → Stops M bytes behind k → Stops L bytes at k) → Refused M bytes behind e → Refused L bytes at e
refused_more L M bytes at behind (Bad k) f r = f k r
refused_more L M bytes at behind Memory f r = tt

module _ {V : Type 0} (F : V → List ℕ → Type 0) (L : V → List ℕ → Type 0) (bytes : List ℕ) (at : ℕ) (e : DecodeError) where
  pub then_first : ((v : V) (word : List ℕ) → F v word → (w : List ℕ) × L v w) → Refused (Words F) bytes at e → Refused (Then F L) bytes at e
  then_first goes_on r = refused_more (Then F L) (Words F) bytes at at e (λ k s. stop_first F L bytes at k goes_on s) r

  pub then_second : (mid : ℕ) (v : V) → Unique F → Reads F bytes at v mid → Refused (L v) bytes mid e → Refused (Then F L) bytes at e
  then_second mid v one read r = refused_more (Then F L) (L v) bytes at mid e (λ k s. stop_second F L bytes at mid k v one read s) r

-- of two beginnings that are read in one way, what follows is the same
pub peel : {V : Type 0} (F : V → List ℕ → Type 0) → Unique F → (v u : V) (a b r s x y : List ℕ) → F v a → F u b → (a ++ r) ++ x ≡ (b ++ s) ++ y → (v ≡ u) × (r ++ x ≡ s ++ y)
peel F one v u a b r s x y f g e =
    let both : a ++ (r ++ x) ≡ b ++ (s ++ y) = sym (append_assoc a r x) ∙ e ∙ append_assoc b s y in
    let same = one v u a b (r ++ x) (s ++ y) f g both in
    (same.0, append_cancel_left b (r ++ x) (s ++ y) (ap (λ (w : List ℕ). w ++ (r ++ x)) (sym same.1) ∙ both))

-- ---- two forms, one behind the other

pub record Pair {V U : Type 0} (F : V → List ℕ → Type 0) (G : V → U → List ℕ → Type 0) (p : V × U) (w : List ℕ) : Type 0 where
  pub first : List ℕ
  pub second : List ℕ
  pub is_first : F p.0 first
  pub is_second : G p.0 p.1 second
  pub joined : w ≡ first ++ second

module _ {V U : Type 0} (F : V → List ℕ → Type 0) (G : V → U → List ℕ → Type 0) where
  pair_to : (w : List ℕ) → Then F (λ v. Words (G v)) w → Words (Pair F G) w
  pair_to w t = ((t.value, t.is_second.0), record { first = t.first; second = t.second; is_first = t.is_first; is_second = t.is_second.1; joined = t.joined })

  pair_from : (w : List ℕ) → Words (Pair F G) w → Then F (λ v. Words (G v)) w
  pair_from w (p, q) = record { value = p.0; first = q.first; second = q.second; is_first = q.is_first; is_second = (p.1, q.is_second); joined = q.joined }

  pub pair_first : (bytes : List ℕ) (at : ℕ) (e : DecodeError) → ((v : V) → (w : List ℕ) × Words (G v) w) → Refused (Words F) bytes at e → Refused (Words (Pair F G)) bytes at e
  pair_first bytes at e goes_on r =
      refused_more (Words (Pair F G)) (Then F (λ v. Words (G v))) bytes at at e (λ k s. stop_same (Then F (λ v. Words (G v))) (Words (Pair F G)) bytes at k pair_to pair_from s) (then_first F (λ v. Words (G v)) bytes at e (λ v w f. goes_on v) r)

  -- where only some values of the first part go on
  pub pair_if : (bytes : List ℕ) (at : ℕ) (e : DecodeError) → ((v : V) (w : List ℕ) → F v w → (x : List ℕ) × Words (G v) x) → Refused (Words F) bytes at e → Refused (Words (Pair F G)) bytes at e
  pair_if bytes at e goes_on r =
      refused_more (Words (Pair F G)) (Then F (λ v. Words (G v))) bytes at at e (λ k s. stop_same (Then F (λ v. Words (G v))) (Words (Pair F G)) bytes at k pair_to pair_from s) (then_first F (λ v. Words (G v)) bytes at e goes_on r)

  pub pair_second : (bytes : List ℕ) (at mid : ℕ) (v : V) (e : DecodeError) → Unique F → Reads F bytes at v mid → Refused (Words (G v)) bytes mid e → Refused (Words (Pair F G)) bytes at e
  pair_second bytes at mid v e one read r =
      refused_more (Words (Pair F G)) (Then F (λ v. Words (G v))) bytes at at e (λ k s. stop_same (Then F (λ v. Words (G v))) (Words (Pair F G)) bytes at k pair_to pair_from s) (then_second F (λ v. Words (G v)) bytes at e mid v one read r)

  pub read_pair : (bytes : List ℕ) (at mid next : ℕ) (v : V) (u : U) → Reads F bytes at v mid → Reads (G v) bytes mid u next → Reads (Pair F G) bytes at (v, u) next
  read_pair bytes at mid next v u r s = read_both F (G v) (Pair F G) bytes at mid next v u (v, u) (λ a b f g. record { first = a; second = b; is_first = f; is_second = g; joined = refl }) r s

  pub some_pair : (v : V) (w : List ℕ) → F v w → (x : List ℕ) × Words (G v) x → (y : List ℕ) × Words (Pair F G) y
  some_pair v w f x = (w ++ x.0, ((v, x.1.0), record { first = w; second = x.0; is_first = f; is_second = x.1.1; joined = refl }))

  pub unique_pair : Unique F → ((v : V) → Unique (G v)) → Unique (Pair F G)
  unique_pair one two p q a b x y c d e =
      let both : (c.first ++ c.second) ++ x ≡ (d.first ++ d.second) ++ y = ap (λ (w : List ℕ). w ++ x) (sym c.joined) ∙ e ∙ ap (λ (w : List ℕ). w ++ y) d.joined in
      let fore = one p.0 q.0 c.first d.first (c.second ++ x) (d.second ++ y) c.is_first d.is_first (sym (append_assoc c.first c.second x) ∙ both ∙ append_assoc d.first d.second y) in
      let tail = (peel F one p.0 q.0 c.first d.first c.second d.second x y c.is_first d.is_first both).1 in
      let back = two q.0 p.1 q.1 c.second d.second x y (subst (λ (v : V). G v p.1 c.second) fore.0 c.is_second) d.is_second tail in
      (ap (λ (v : V). (v, p.1)) fore.0 ∙ ap (λ (u : U). (q.0, u)) back.0, c.joined ∙ ap (λ (w : List ℕ). w ++ c.second) fore.1 ∙ ap (λ (w : List ℕ). d.first ++ w) back.1 ∙ sym d.joined)

-- ---- the same words and values under another name

pub reads_as : {V U : Type 0} (F : V → List ℕ → Type 0) (G : U → List ℕ → Type 0) (bytes : List ℕ) (at next : ℕ) (v : V) (u : U) → ((w : List ℕ) → F v w → G u w) → Reads F bytes at v next → Reads G bytes at u next
reads_as F G bytes at next v u to r = record { word = r.word; form = to r.word r.form; split = r.split; ahead = r.ahead; within = r.within }

pub refused_as : {V U : Type 0} (F : V → List ℕ → Type 0) (G : U → List ℕ → Type 0) (f : V → U) (g : U → V) (bytes : List ℕ) (at : ℕ) (e : DecodeError) → ((v : V) (w : List ℕ) → F v w → G (f v) w) → ((u : U) (w : List ℕ) → G u w → F (g u) w) → Refused (Words F) bytes at e → Refused (Words G) bytes at e
refused_as F G f g bytes at e to from r =
    refused_more (Words G) (Words F) bytes at at e (λ k s. stop_same (Words F) (Words G) bytes at k (λ w h. (f h.0, to h.0 w h.1)) (λ w h. (g h.0, from h.0 w h.1)) s) r

pub unique_as : {V U : Type 0} (F : V → List ℕ → Type 0) (G : U → List ℕ → Type 0) (f : V → U) (g : U → V) → ((v : V) → g (f v) ≡ v) → ((v : V) (w : List ℕ) → F v w → G (f v) w) → Unique G → Unique F
unique_as F G f g back to one v u a b x y c d e =
    let same = one (f v) (f u) a b x y (to v a c) (to u b d) e in
    (sym (back v) ∙ ap g same.0 ∙ back u, same.1)
