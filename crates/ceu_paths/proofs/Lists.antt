-- Lists of lists with one more item.
use Rattle.std.proofs.Common.{◌≡◌, sym, ap, ◌∙◌, ℕ, zero, suc, ◌<◌, List, [], ◌∷◌, ◌++◌, length, take, get_or, append_assoc, arith}
use Rattle.std.proofs.lemmas.List.{append-nil, map-append}
use Rattle.ceu_paths.specs.Joined.{joined}

pub joined_more : {X Y : Type 0} (f : X → List Y) (xs : List X) (i : ℕ) (d : X) → i < length xs → joined f (take (suc i) xs) ≡ joined f (take i xs) ++ f (get_or xs i d)
joined_more f [] i d h = absurd (omega arith)
joined_more f (x ∷ xs) zero d h = append-nil (f x)
joined_more f (x ∷ xs) (suc i) d h = ap (λ k. f x ++ k) (joined_more f xs i d (omega arith)) ∙ sym (append_assoc (f x) (joined f (take i xs)) (f (get_or xs i d)))

pub ruleset lists = (append-nil, map-append, append_assoc)
