-- Proper fronts of texts that are written one behind the other.
use Rattle.std.proofs.Common.{ℕ, ◌+◌, ◌<◌, ◌≤◌, List, ◌++◌, length, take, Option, sym, subst, arith, length-append}
use Rattle.std.proofs.Math.Seq.{take-append-add}
use Rattle.std.proofs.lemmas.List.{take-append-le}
use Rattle.ceu_io.specs.Bytes.{Appends, AppendsProperFront}
use Rattle.ceu_io.proofs.Offers.{appends_then}

-- a text, and a proper front of the next
pub front_behind : (a b : List ℕ) (x y z : Option (List ℕ)) → Appends a x y → AppendsProperFront b y z → AppendsProperFront (a ++ b) x z
front_behind a b x y z first front = (
  length a + front.0,
  omega (arith, front.1, length-append a b),
  subst (λ (l : List ℕ). Appends l x z) (sym (take-append-add a b front.0)) (appends_then a (take front.0 b) x y z first front.2),
)

-- a proper front of what more follows
pub front_of_more : (a b : List ℕ) (x y : Option (List ℕ)) → AppendsProperFront a x y → AppendsProperFront (a ++ b) x y
front_of_more a b x y front = (
  front.0,
  omega (arith, front.1, length-append a b),
  subst (λ (l : List ℕ). Appends l x y) (sym (take-append-le front.0 a b (omega (arith, front.1)))) front.2,
)

-- the same, with the place behind the text
pub front_past : (a b : List ℕ) (x y z : Option (List ℕ)) → Appends a x y → AppendsProperFront b y z → (n : ℕ) × (n < length (a ++ b)) × Appends (take n (a ++ b)) x z × (length a ≤ n)
front_past a b x y z first front = (
  length a + front.0,
  omega (arith, front.1, length-append a b),
  subst (λ (l : List ℕ). Appends l x z) (sym (take-append-add a b front.0)) (appends_then a (take front.0 b) x y z first front.2),
  omega arith,
)
