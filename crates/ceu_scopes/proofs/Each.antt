-- A step for each item of a list, as a loop does it.
use Rattle.std.proofs.Common.{◌≡◌, refl, sym, ap, subst, ◌∙◌, Result, Ok, ℕ, zero, suc, ◌+◌, ◌<◌, ◌≤◌, List, [], ◌∷◌, length, drop, get_or, arith, add-one}
use Rattle.ceu_base.specs.declared.kinds.CheckError.{CheckError}
use Rattle.ceu_scopes.specs.Answers.{IsRefusal}
use Rattle.ceu_scopes.specs.Walk.{Broken, ◌>>=◌, each}
use Rattle.ceu_scopes.proofs.Laws.{ok_then, refusal_then}

module _ {A S : Type 0} (f : A → S → Result S Broken) where
  pub each_next : (xs : List A) (i : ℕ) (d : A) (w : S) → i < length xs → each f (drop i xs) w ≡ (f (get_or xs i d) w >>= each f (drop (suc i) xs))
  unfolding each
  each_next [] i d w h = absurd (omega arith)
  each_next (x ∷ xs) zero d w h = refl
  each_next (x ∷ xs) (suc i) d w h = each_next xs i d w (omega arith)

  pub each_none : (xs : List A) (i : ℕ) (w : S) → length xs ≤ i → each f (drop i xs) w ≡ Ok w
  unfolding each
  each_none [] zero w h = refl
  each_none [] (suc i) w h = refl
  each_none (x ∷ xs) zero w h = absurd (omega arith)
  each_none (x ∷ xs) (suc i) w h = each_none xs i w (omega arith)

  -- before the item at i, the walk of the whole list from `first` is that of the rest from `now`
  module _ (xs : List A) (i : ℕ) (first now : S) (rest : each f xs first ≡ each f (drop i xs) now) where
    here : (x : A) → x ≡ get_or xs i x → i < length xs → each f xs first ≡ (f x now >>= each f (drop (suc i) xs))
    here x is below = rest ∙ each_next xs i x now below ∙ ap (λ y. f y now >>= each f (drop (suc i) xs)) (sym is)

    pub each_goes_on : (x : A) (then : S) → x ≡ get_or xs i x → i < length xs → f x now ≡ Ok then → each f xs first ≡ each f (drop (i + 1) xs) then
    each_goes_on x then is below step =
        here x is below ∙ ap (λ s. s >>= each f (drop (suc i) xs)) step ∙ ok_then then (each f (drop (suc i) xs)) ∙ ap (λ n. each f (drop n xs) then) (sym (add-one i))

    pub each_refused : (x : A) (e : CheckError) → x ≡ get_or xs i x → i < length xs → IsRefusal e (f x now) → IsRefusal e (each f xs first)
    each_refused x e is below refused = subst (IsRefusal e) (sym (here x is below)) (refusal_then e (f x now) (each f (drop (suc i) xs)) refused)

    pub each_ended : length xs ≤ i → each f xs first ≡ Ok now
    each_ended none = rest ∙ each_none xs i now none
