-- Each position that is put into a list stands there at its number, also when others are put behind it.
use Rattle.std.proofs.Common.{◌≡◌, refl, sym, ap, ◌∙◌, subst, ℕ, ◌+◌, Bool, true, false, ◌&&◌, List, [], ◌∷◌, Some, if◌then◌else◌, add-one}
use Rattle.std.specs.Prelude.{slice_get, nat_eq}
use Rattle.std.specs.List.{AllByRecursion}
use Rattle.std.proofs.lemmas.Bool.{eqb-true, eq-eqb, and_parts}
use Rattle.ceu_base.specs.declared.kinds.Pos.{Pos}
use Rattle.ceu_asm.specs.Places.{same_place, number_of, with_place}
use Rattle.ceu_shape.specs.Pieces.{with_places, numbered}

abbrev pub Listed : List Pos → Pos → Type 0
Listed ps p = slice_get ps (number_of p ps) ≡ Some p

same_itself : (p : Pos) → same_place p p ≡ true
same_itself p = go (nat_eq p.line p.line) (nat_eq p.col p.col) (eq-eqb p.line p.line refl) (eq-eqb p.col p.col refl)
  where
    go : (a b : Bool) → a ≡ true → b ≡ true → (a && b) ≡ true
    go true true e f = refl
    go true false e f = f
    go false b e f = e

same_is : (q p : Pos) → same_place q p ≡ true → q ≡ p
same_is q p h =
    let x = and_parts (nat_eq q.line p.line) (nat_eq q.col p.col) h in
    let line : q.line ≡ p.line = eqb-true q.line p.line x.0 in
    let col : q.col ≡ p.col = eqb-true q.col p.col x.1 in
    ap (λ (n : ℕ). at n q.col) line ∙ ap (λ (n : ℕ). at p.line n) col
  where
    at : (line col : ℕ) → Pos
    at line col = record { line = line; col = col }

-- the element behind the first
behind_first : (q : Pos) (ps : List Pos) (n : ℕ) → slice_get (q ∷ ps) (n + 1) ≡ slice_get ps n
behind_first q ps n = ap (slice_get (q ∷ ps)) (add-one n)

listed_here : (p : Pos) (ps : List Pos) → Listed (with_place p ps) p
listed_here p [] = go (same_place p p) (same_itself p)
  where
    go : (b : Bool) → b ≡ true → slice_get (p ∷ []) (if b then 0 else (0 + 1)) ≡ Some p
    go true e = refl
    go false e = cc
listed_here p (q ∷ qs) = go (same_place q p) (same_is q p) (listed_here p qs)
  where
    go : (b : Bool) → (b ≡ true → q ≡ p) → Listed (with_place p qs) p → slice_get (q ∷ (if b then qs else with_place p qs)) (if b then 0 else (number_of p (if b then qs else with_place p qs) + 1)) ≡ Some p
    go true e h = ap Some (e refl)
    go false e h = behind_first q (with_place p qs) (number_of p (with_place p qs)) ∙ h

listed_more : (p q : Pos) (ps : List Pos) → Listed ps p → Listed (with_place q ps) p
listed_more p q [] h = cc
listed_more p q (r ∷ rs) h = go (same_place r p) (same_place r q) h (listed_more p q rs)
  where
    go : (a b : Bool) → slice_get (r ∷ rs) (if a then 0 else (number_of p rs + 1)) ≡ Some p → (Listed rs p → Listed (with_place q rs) p) →
        slice_get (r ∷ (if b then rs else with_place q rs)) (if a then 0 else (number_of p (if b then rs else with_place q rs) + 1)) ≡ Some p
    go true true h more = h
    go true false h more = h
    go false true h more = h
    go false false h more = behind_first r (with_place q rs) (number_of p (with_place q rs)) ∙ more (sym (behind_first r rs (number_of p rs)) ∙ h)

pub listed_kept : (p : Pos) (later ps : List Pos) → Listed ps p → Listed (with_places later ps) p
listed_kept p [] ps h = h
listed_kept p (q ∷ later) ps h = listed_kept p later (with_place q ps) (listed_more p q ps h)

pub all_listed : (noted ps : List Pos) → AllByRecursion (λ (p : Pos). slice_get (with_places noted ps) (numbered (with_places noted ps) p) ≡ Some p) noted
all_listed noted ps = go noted ps (with_places noted ps) refl
  where
    go : (more now all : List Pos) → with_places more now ≡ all → AllByRecursion (λ (p : Pos). slice_get all (numbered all p) ≡ Some p) more
    go [] now all e = tt
    go (p ∷ more) now all e = (subst (λ (l : List Pos). Listed l p) e (listed_kept p more (with_place p now) (listed_here p now)), go more (with_place p now) all e)
