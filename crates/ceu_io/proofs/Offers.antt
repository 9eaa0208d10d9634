-- What a sink has taken so far of the bytes that are offered to it in pieces.
use Rattle.std.proofs.Common.{◌≡◌, ℕ, zero, suc, zero-add, ◌∷◌, ◌+◌, ◌≤◌, List, [], ◌++◌, length, take, drop, Option, refl, sym, ap, ◌∙◌, subst, arith, append_assoc, length-drop}
use Rattle.std.proofs.lemmas.List.{drop-drop, append-nil}
use Rattle.ceu_io.specs.Bytes.{Appends, IsPiece}
use Rattle.ceu_io.proofs.Telling.{where_told_same, where_told_then}

pub record Taken (bytes rest : List ℕ) (before now : Option (List ℕ)) : Type 0 where
  pub count : ℕ
  pub within : count ≤ length bytes
  pub rest_is : rest ≡ drop count bytes
  pub appended : Appends (take count bytes) before now

suc_add : (m n : ℕ) → suc m + n ≡ suc (m + n)
suc_add m n = omega arith

take_nil : (n : ℕ) → (let none : List ℕ = [] in take n none ≡ none)
take_nil zero = refl
take_nil (suc n) = refl

pub take-add : (m n : ℕ) (xs : List ℕ) → take (m + n) xs ≡ take m xs ++ take n (drop m xs)
take-add zero n xs = ap (λ k. take k xs) (zero-add n)
take-add (suc m) n [] = ap (λ k. take k []) (suc_add m n) ∙ sym (take_nil n)
take-add (suc m) n (x ∷ xs) = ap (λ k. take k (x ∷ xs)) (suc_add m n) ∙ ap (λ (l : List ℕ). x ∷ l) (take-add m n xs)

pub appends_nothing : (held : Option (List ℕ)) → Appends [] held held
appends_nothing held = where_told_same held (λ old new. new ≡ old ++ []) (λ bytes. sym (append-nil bytes))

pub appends_then : (a b : List ℕ) (x y z : Option (List ℕ)) → Appends a x y → Appends b y z → Appends (a ++ b) x z
appends_then a b x y z first then = where_told_then x y z (λ old new. new ≡ old ++ a) (λ old new. new ≡ old ++ b) (λ old new. new ≡ old ++ (a ++ b))
    (λ old mid new front back. back ∙ ap (λ l. l ++ b) front ∙ append_assoc old a b) first then

pub none_taken : (bytes : List ℕ) (held : Option (List ℕ)) → Taken bytes bytes held held
none_taken bytes held = record { count = 0; within = omega arith; rest_is = refl; appended = appends_nothing held }

pub taken_more : (bytes rest after : List ℕ) (n : ℕ) (x y z : Option (List ℕ)) → Taken bytes rest x y → IsPiece n (length rest) → Appends (take n rest) y z → after ≡ drop n rest → Taken bytes after x z
taken_more bytes rest after n x y z so_far piece appends after_is = record {
  count = so_far.count + n;
  within = omega (arith, piece.at_most, so_far.within, ap length so_far.rest_is, length-drop so_far.count bytes);
  rest_is = after_is ∙ ap (λ (l : List ℕ). drop n l) so_far.rest_is ∙ drop-drop n so_far.count bytes;
  appended = subst (λ (l : List ℕ). Appends l x z) (ap (λ (l : List ℕ). take so_far.count bytes ++ take n l) so_far.rest_is ∙ sym (take-add so_far.count n bytes)) (appends_then _ _ x y z so_far.appended appends);
}
