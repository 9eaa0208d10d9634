-- Tables of codes that are filled row by row: each row stays as it was made, by the rows before it.
use Rattle.std.proofs.Common.{◌≡◌, refl, sym, ap, subst, ◌∙◌, ℕ, zero, suc, ◌+◌, ◌<◌, Bool, false, List, [], ◌∷◌, ◌++◌, length, get_or, arith, length-append}
use Rattle.std.specs.Prelude.{Some}
use Rattle.std.proofs.lemmas.List.{get_or_append_left}
use Rattle.std.proofs.Math.Seq.{get_or-append_seam}
use Rattle.ceu_tree.specs.declared.kernel.KCode.{KCode}
use Rattle.ceu_tree.specs.Leaf.{code_at}
use Rattle.ceu_tree.specs.Paths.{flag, passes, passes_from}
use Rattle.ceu_tree.specs.Costs.{Cost, nothing, cost_at, enter_block, stay_block, enters_from, stays_from}

-- the row of a code is made by those before it, which are as in the whole table
pub record Made {X : Type 0} (row : List X → KCode → X) (none : X) (whole : List X) (c : ℕ) (k : KCode) : Type 0 where
  pub before : List X
  pub same : (j : ℕ) → j < c → get_or before j none ≡ get_or whole j none
  pub here : get_or whole c none ≡ row before k

module _ {X : Type 0} (row : List X → KCode → X) (none : X) where
  abbrev filled : List X → List KCode → List X
  filled xs [] = xs
  filled xs (c ∷ cs) = filled (xs ++ row xs c ∷ []) cs

  longer : (xs : List X) (x : X) → length (xs ++ x ∷ []) ≡ suc (length xs)
  longer xs x = omega (arith, length-append xs (x ∷ []))

  stays : (xs : List X) (cs : List KCode) (j : ℕ) → j < length xs → get_or (filled xs cs) j none ≡ get_or xs j none
  stays xs [] j h = refl
  stays xs (c ∷ cs) j h =
      let more = longer xs (row xs c) in
      stays (xs ++ row xs c ∷ []) cs j (omega arith) ∙ get_or_append_left xs (row xs c ∷ []) none j h

  made_at : (xs : List X) (cs : List KCode) (c i : ℕ) (k : KCode) → length xs + c ≡ i → code_at c cs ≡ Some k → Made row none (filled xs cs) i k
  made_at xs [] c i k q e = absurd (cc)
  made_at xs (x ∷ cs) zero i k q e =
      let more = longer xs (row xs x) in
      let at : length xs ≡ i = omega arith in
      let is : x ≡ k = cc in
      record {
        before = xs;
        same = λ j h. sym (stays xs (x ∷ cs) j (omega arith));
        here = subst (λ m. get_or (filled xs (x ∷ cs)) m none ≡ row xs k) at (stays (xs ++ row xs x ∷ []) cs (length xs) (omega arith) ∙ get_or-append_seam xs (row xs x) [] none ∙ ap (row xs) is);
      }
  made_at xs (x ∷ cs) (suc c) i k q e = let more = longer xs (row xs x) in made_at (xs ++ row xs x ∷ []) cs c i k (omega arith) e

-- ---- the three tables

pub flag_is : (c : ℕ) (xs : List Bool) → flag c xs ≡ get_or xs c false
flag_is c [] = refl
flag_is zero (x ∷ xs) = refl
flag_is (suc c) (x ∷ xs) = flag_is c xs

pub cost_is : (c : ℕ) (xs : List Cost) → cost_at c xs ≡ get_or xs c nothing
cost_is c [] = refl
cost_is zero (x ∷ xs) = refl
cost_is (suc c) (x ∷ xs) = cost_is c xs

passes_filled : (ps : List Bool) (cs : List KCode) → filled passes false ps cs ≡ passes_from ps cs
passes_filled ps [] = refl
passes_filled ps (c ∷ cs) = passes_filled (ps ++ passes ps c ∷ []) cs

module _ (P : List Bool) (E : List Cost) where
  abbrev pub entered : List Cost → KCode → Cost
  entered N c = enter_block P E N c.body

  enters_filled : (N : List Cost) (cs : List KCode) → filled entered nothing N cs ≡ enters_from P E N cs
  enters_filled N [] = refl
  enters_filled N (c ∷ cs) = enters_filled (N ++ entered N c ∷ []) cs

  module _ (N : List Cost) where
    abbrev pub stood : List Cost → KCode → Cost
    stood S c = stay_block P E N S c.body

    stays_filled : (S : List Cost) (cs : List KCode) → filled stood nothing S cs ≡ stays_from P E N S cs
    stays_filled S [] = refl
    stays_filled S (c ∷ cs) = stays_filled (S ++ stood S c ∷ []) cs

pub passes_made : (cs : List KCode) (c : ℕ) (k : KCode) → code_at c cs ≡ Some k → Made passes false (passes_from [] cs) c k
passes_made cs c k e = subst (λ xs. Made passes false xs c k) (passes_filled [] cs) (made_at passes false [] cs c c k (omega arith) e)

pub enters_made : (P : List Bool) (E : List Cost) (cs : List KCode) (c : ℕ) (k : KCode) → code_at c cs ≡ Some k → Made (entered P E) nothing (enters_from P E [] cs) c k
enters_made P E cs c k e = subst (λ xs. Made (entered P E) nothing xs c k) (enters_filled P E [] cs) (made_at (entered P E) nothing [] cs c c k (omega arith) e)

pub stays_made : (P : List Bool) (E N : List Cost) (cs : List KCode) (c : ℕ) (k : KCode) → code_at c cs ≡ Some k → Made (stood P E N) nothing (stays_from P E N [] cs) c k
stays_made P E N cs c k e = subst (λ xs. Made (stood P E N) nothing xs c k) (stays_filled P E N [] cs) (made_at (stood P E N) nothing [] cs c c k (omega arith) e)
