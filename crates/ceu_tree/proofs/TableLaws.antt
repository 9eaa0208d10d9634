-- Tables by code number, and lists with one more item.
use Rattle.std.proofs.Common.{◌≡◌, refl, ap, ◌∙◌, ℕ, zero, suc, ◌+◌, ◌≤◌, ◌<◌, max, List, [], ◌∷◌, map, length, take, get_or, slice_index, arith}
use Rattle.ceu_tree.specs.Cut.{cut}
use Rattle.ceu_tree.specs.Greatest.{total}
use Rattle.ceu_tree.specs.Needs.{entry, greatest_of}
use Rattle.ceu_tree.proofs.CutLaws.{cut_max}

pub entry_within : (table : List ℕ) (code : ℕ) → code < length table → entry code table ≡ slice_index table code
entry_within [] code h = absurd (omega arith)
entry_within (x ∷ xs) zero h = refl
entry_within (x ∷ xs) (suc k) h = entry_within xs k (omega arith)

pub entry_beyond : (table : List ℕ) (code : ℕ) → length table ≤ code → entry code table ≡ 0
entry_beyond [] code h = refl
entry_beyond (x ∷ xs) zero h = absurd (omega arith)
entry_beyond (x ∷ xs) (suc k) h = entry_beyond xs k (omega arith)

pub ruleset entries = (entry_within, entry_beyond)

pub entry_cut : (k : ℕ) (table : List ℕ) → entry k (map cut table) ≡ cut (entry k table)
entry_cut k [] = refl
entry_cut zero (x ∷ xs) = refl
entry_cut (suc k) (x ∷ xs) = entry_cut k xs

pub greatest_of_more : (xs : List ℕ) (i : ℕ) (d : ℕ) → i < length xs → greatest_of (take (suc i) xs) ≡ max (greatest_of (take i xs)) (get_or xs i d)
greatest_of_more [] i d h = absurd (omega arith)
greatest_of_more (x ∷ xs) zero d h = grind arith
greatest_of_more (x ∷ xs) (suc i) d h = let ih : greatest_of (take (suc i) xs) ≡ max (greatest_of (take i xs)) (get_or xs i d) = greatest_of_more xs i d (omega arith) in grind (arith, ih)

pub greatest_cut : (xs : List ℕ) → greatest_of (map cut xs) ≡ cut (greatest_of xs)
greatest_cut [] = refl
greatest_cut (x ∷ xs) = ap (max (cut x)) (greatest_cut xs) ∙ cut_max x (greatest_of xs)

pub total_more : {X : Type 0} (f : X → ℕ) (xs : List X) (i : ℕ) (d : X) → i < length xs → total f (take (suc i) xs) ≡ total f (take i xs) + f (get_or xs i d)
total_more f [] i d h = absurd (omega arith)
total_more f (x ∷ xs) zero d h = omega arith
total_more f (x ∷ xs) (suc i) d h = let ih : total f (take (suc i) xs) ≡ total f (take i xs) + f (get_or xs i d) = total_more f xs i d (omega arith) in omega arith
