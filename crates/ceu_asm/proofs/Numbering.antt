-- A list in which each position has a number.
use Rattle.std.proofs.Common.{◌≡◌, ℕ, suc, ◌+◌, ◌<◌, ◌≤◌, Bool, true, false, ◌&&◌, List, [], ◌∷◌, ◌++◌, length, Some, refl, ap, ◌∙◌, arith, if◌then◌else◌, add-one}
use Rattle.std.specs.Prelude.{slice_get, nat_eq}
use Rattle.std.proofs.lemmas.Bool.{eqb-true}
use Rattle.ceu_base.specs.declared.kinds.Pos.{Pos}
use Rattle.ceu_asm.specs.Places.{same_place, number_of, with_place}

same_is : (q p : Pos) → same_place q p ≡ true → q ≡ p
same_is q p e = go (nat_eq q.line p.line) (nat_eq q.col p.col) (eqb-true q.line p.line) (eqb-true q.col p.col) e
  where
    go : (a b : Bool) → (a ≡ true → q.line ≡ p.line) → (b ≡ true → q.col ≡ p.col) → (a && b) ≡ true → q ≡ p
    go true true f g e = ap (λ (n : ℕ). record { line = n; col = q.col }) (f refl) ∙ ap (λ (n : ℕ). record { line = p.line; col = n }) (g refl)
    go true false f g e = cc
    go false b f g e = cc

pub place_absent : (p : Pos) (ps : List Pos) → length ps ≤ number_of p ps → with_place p ps ≡ ps ++ p ∷ []
place_absent p [] h = refl
place_absent p (q ∷ qs) h = go (same_place q p) h (place_absent p qs)
  where
    go : (b : Bool) → suc (length qs) ≤ (if b then 0 else (number_of p qs + 1)) → (length qs ≤ number_of p qs → with_place p qs ≡ qs ++ p ∷ []) → q ∷ (if b then qs else with_place p qs) ≡ q ∷ (qs ++ p ∷ [])
    go true h rest = absurd (omega arith)
    go false h rest = ap (λ (r : List Pos). q ∷ r) (rest (omega arith))

pub place_there : (p : Pos) (ps : List Pos) → number_of p ps < length ps → with_place p ps ≡ ps
place_there p [] h = absurd (omega arith)
place_there p (q ∷ qs) h = go (same_place q p) h (place_there p qs)
  where
    go : (b : Bool) → (if b then 0 else (number_of p qs + 1)) < suc (length qs) → (number_of p qs < length qs → with_place p qs ≡ qs) → q ∷ (if b then qs else with_place p qs) ≡ q ∷ qs
    go true h rest = refl
    go false h rest = ap (λ (r : List Pos). q ∷ r) (rest (omega arith))

pub place_found : (p : Pos) (ps : List Pos) → slice_get (with_place p ps) (number_of p ps) ≡ Some p
place_found p [] = refl
place_found p (q ∷ qs) = go (same_place q p) (same_is q p) (place_found p qs)
  where
    go : (b : Bool) → (b ≡ true → q ≡ p) → slice_get (with_place p qs) (number_of p qs) ≡ Some p → slice_get (q ∷ (if b then qs else with_place p qs)) (if b then 0 else (number_of p qs + 1)) ≡ Some p
    go true f rest = ap Some (f refl)
    go false f rest = rw add-one rest
