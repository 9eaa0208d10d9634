-- What is written for one more item of a list.
use Rattle.std.proofs.Common.{◌≡◌, refl, ap, ℕ, zero, suc, ◌<◌, length, take, get_or, arith, List, [], ◌∷◌, ◌++◌}
use Rattle.ceu_expand.specs.declared.draft.Draft.{Draft}
use Rattle.ceu_expand.specs.Lists.{each, gathered}

module _ {A : Type 0} (pass : A → Draft → Draft) where
  pub each_none : (d : Draft) → each pass [] d ≡ d
  unfolding each
  each_none d = refl

  pub each_more : (xs : List A) (d : Draft) (i : ℕ) (x : A) → i < length xs →
      each pass (take (suc i) xs) d ≡ pass (get_or xs i x) (each pass (take i xs) d)
  unfolding each
  each_more [] d i x h = absurd (omega arith)
  each_more (y ∷ ys) d zero x h = refl
  each_more (y ∷ ys) d (suc i) x h = each_more ys (pass y d) i x (omega arith)

module _ {A B : Type 0} (make : A → Draft → B) (pass : A → Draft → Draft) where
  pub gathered_none : (d : Draft) → gathered make pass [] d ≡ []
  unfolding gathered
  gathered_none d = refl

  pub gathered_more : (xs : List A) (d : Draft) (i : ℕ) (x : A) → i < length xs →
      gathered make pass (take (suc i) xs) d ≡ gathered make pass (take i xs) d ++ make (get_or xs i x) (each pass (take i xs) d) ∷ []
  unfolding each gathered
  gathered_more [] d i x h = absurd (omega arith)
  gathered_more (y ∷ ys) d zero x h = refl
  gathered_more (y ∷ ys) d (suc i) x h = ap (λ r. make y d ∷ r) (gathered_more ys (pass y d) i x (omega arith))

pub ruleset lists = (each_none, each_more, gathered_none, gathered_more)
