-- Texts that are written one after the other.
use Rattle.std.proofs.Common.{◌≡◌, refl, sym, ap, subst, ◌∙◌, ℕ, zero, suc, ◌+◌, ◌<◌, ◌≤◌, ◌⊎◌, inl, inr, Bool, true, false, arith, List, [], ◌∷◌, ◌++◌, length, take, drop, get_or, Option, length-append, append_assoc, add-one}
use Rattle.std.proofs.lemmas.List.{take-append-le, append-nil, drop_all}
use Rattle.std.proofs.Math.Seq.{take-append-add, drop-cons}
use Rattle.ceu_io.specs.Bytes.{Appends, AppendsProperFront}
use Rattle.ceu_io.specs.Counts.{Rose}
use Rattle.ceu_io.proofs.Offers.{appends_nothing, appends_then}
use Rattle.ceu_io.specs.Prints.{Prints}

front_first : (a b : List ℕ) (x y : Option (List ℕ)) → AppendsProperFront a x y → AppendsProperFront (a ++ b) x y
front_first a b x y (n, less, appends) =
    let le : n ≤ length a = omega arith in
    let e : take n (a ++ b) ≡ take n a = take-append-le n a b le in
    (n, omega (arith, length-append a b), subst (λ l. Appends l x y) (sym e) appends)

front_second : (a b : List ℕ) (x y z : Option (List ℕ)) → Appends a x y → AppendsProperFront b y z → AppendsProperFront (a ++ b) x z
front_second a b x y z first (n, less, appends) =
    let e : take (length a + n) (a ++ b) ≡ a ++ take n b = take-append-add a b n in
    (length a + n, omega (arith, length-append a b), subst (λ l. Appends l x z) (sym e) (appends_then a (take n b) x y z first appends))

pub prints_nothing : (going : Bool) (x : Option (List ℕ)) (f : ℕ) → Prints [] going going x x f f
prints_nothing true x f = (appends_nothing x, refl)
prints_nothing false x f = (refl, refl, refl)

pub prints_then : (a b : List ℕ) (r s t : Bool) (x y z : Option (List ℕ)) (f g h : ℕ) → Prints a r s x y f g → Prints b s t y z g h → Prints (a ++ b) r t x z f h
prints_then a b false s t x y z f g h p q =
    let q' : Prints b false t y z g h = subst (λ k. Prints b k t y z g h) p.0 q in
    (q'.0, q'.1 ∙ p.1, q'.2 ∙ p.2)
prints_then a b true false t x y z f g h p q =
    let t' : t ≡ false = q.0 in
    subst (λ k. Prints (a ++ b) true k x z f h) (sym t')
    (subst (λ k. AppendsProperFront (a ++ b) x k) (sym q.1) (front_first a b x y p.0), subst (λ k. f ≤ k) (sym q.2) p.1, subst (λ k. Rose f k) (sym q.2) p.2)
prints_then a b true true true x y z f g h p q = (appends_then a b x y z p.0 q.0, q.1 ∙ p.1)
prints_then a b true true false x y z f g h p q =
    (front_second a b x y z p.0 q.0, subst (λ k. k ≤ h) p.1 q.1, subst (λ k. Rose k h) p.1 q.2)

-- Of the whole text all but the rest is done.
pub record Printed (whole rest : List ℕ) (going goes : Bool) (x y : Option (List ℕ)) (f g : ℕ) : Type 0 where
  pub done : List ℕ
  pub prints : Prints done going goes x y f g
  pub whole_is : whole ≡ done ++ rest

pub printed_none : (whole : List ℕ) (going : Bool) (x : Option (List ℕ)) (f : ℕ) → Printed whole whole going going x x f f
printed_none whole going x f = record { done = []; prints = prints_nothing going x f; whole_is = refl }

pub printed_more : (whole here own rest : List ℕ) (r s t : Bool) (x y z : Option (List ℕ)) (f g h : ℕ) → Printed whole here r s x y f g → here ≡ own ++ rest → Prints own s t y z g h → Printed whole rest r t x z f h
printed_more whole here own rest r s t x y z f g h p split q = record {
  done = p.done ++ own;
  prints = prints_then p.done own r s t x y z f g h p.prints q;
  whole_is = p.whole_is ∙ ap (λ l. p.done ++ l) split ∙ sym (append_assoc p.done own rest);
}

pub printed_all : (whole rest : List ℕ) (r s : Bool) (x y : Option (List ℕ)) (f g : ℕ) → Printed whole rest r s x y f g → rest ≡ [] → Prints whole r s x y f g
printed_all whole rest r s x y f g p none =
    let same : whole ≡ p.done = p.whole_is ∙ ap (λ l. p.done ++ l) none ∙ append-nil p.done in
    subst (λ l. Prints l r s x y f g) (sym same) p.prints

pub next_item : {A : Type 0} (xs : List A) (i : ℕ) (x : A) → x ≡ get_or xs i x → i < length xs → drop i xs ≡ x ∷ drop (i + 1) xs
next_item xs i x is below = drop-cons xs i x below ∙ ap (λ y. y ∷ drop (suc i) xs) (sym is) ∙ ap (λ n. x ∷ drop n xs) (sym (add-one i))

-- a text in three parts
pub prints_three : (a b c : List ℕ) (r s t u : Bool) (w x y z : Option (List ℕ)) (e f g h : ℕ) → Prints a r s w x e f → Prints b s t x y f g → Prints c t u y z g h → Prints (a ++ (b ++ c)) r u w z e h
prints_three a b c r s t u w x y z e f g h p q o = prints_then a (b ++ c) r s u w x z e f h p (prints_then b c s t u x y z f g h q o)

pub ruleset prints = (prints_nothing, prints_then, append_assoc, append-nil)
