-- A text that is written line by line.
use Rattle.std.proofs.Common.{◌≡◌, ◌∙◌, sym, ap, subst, ℕ, ◌+◌, ◌<◌, ◌≤◌, List, ◌++◌, length, take, drop, Option, Result, Ok, Err, arith, length-drop}
use Rattle.std.specs.Prelude.{OnErr}
use Rattle.std.proofs.lemmas.List.{take-take, length-take}
use Rattle.ceu_io.specs.Bytes.{Appends, AppendsProperFront}
use Rattle.ceu_io.proofs.Offers.{Taken, take-add, appends_then, taken_more}

pub on_err : {T E : Type 0} (r : Result T E) (P : Type 0) → P → OnErr r P
on_err (Ok x) P p = tt
on_err (Err e) P p = p

-- a proper front of a piece is one of the whole
front_of_piece : (n size : ℕ) (rest : List ℕ) → n < length (take size rest) → take n (take size rest) ≡ take n rest
front_of_piece n size rest h = let below : n ≤ size = omega (arith, length-take size rest) in take-take n size rest below

-- The sink failed on a piece of what was left: a proper prefix of all was written.
pub front_after : (bytes rest piece : List ℕ) (size : ℕ) (x y z : Option (List ℕ)) → Taken bytes rest x y → piece ≡ take size rest → AppendsProperFront piece y z → AppendsProperFront bytes x z
front_after bytes rest piece size x y z so_far piece_is front =
    let n : ℕ = front.0 in
    let short : n < length (take size rest) = subst (λ (l : List ℕ). n < length l) piece_is front.1 in
    let appends : Appends (take n rest) y z = subst (λ (l : List ℕ). Appends l y z) (ap (λ (l : List ℕ). take n l) piece_is ∙ front_of_piece n size rest short) front.2 in (
      so_far.count + n,
      omega (arith, so_far.within, length-take size rest, ap length so_far.rest_is, length-drop so_far.count bytes),
      subst (λ (l : List ℕ). Appends l x z) (ap (λ (l : List ℕ). take so_far.count bytes ++ take n l) so_far.rest_is ∙ sym (take-add so_far.count n bytes))
          (appends_then (take so_far.count bytes) (take n rest) x y z so_far.appended appends),
    )

-- A line was written.
pub line_taken : (bytes rest piece after : List ℕ) (n : ℕ) (x y z : Option (List ℕ)) → Taken bytes rest x y → 0 < n → n ≤ length rest → piece ≡ take n rest → Appends piece y z → after ≡ drop n rest
    → Taken bytes after x z
line_taken bytes rest piece after n x y z so_far some within piece_is appends after_is =
    taken_more bytes rest after n x y z so_far (record { at_most = within; at_least = λ offered. some }) (subst (λ (l : List ℕ). Appends l y z) piece_is appends) after_is
