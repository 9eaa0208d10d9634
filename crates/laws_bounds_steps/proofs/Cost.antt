-- Costs of which one is at most the other.
use Rattle.std.proofs.Common.{◌≡◌, refl, subst, ◌≤◌, ℕ, zero, suc, ◌*◌, Bool, true, false, if◌then◌else◌, arith}
use Rattle.std.proofs.lemmas.Bool.{false≢true}
use Rattle.ceu_tree.specs.Costs.{Cost, nothing, plus, times}
use Rattle.laws_bounds_steps.specs.Pays.{Within}
use Rattle.laws_bounds_steps.specs.Due.{times_of_turns}

pub same : (a : Cost) → Within a a
same a = record { turns = omega arith; opens = omega arith }

pub is : (a b : Cost) → a ≡ b → Within a b
is a b e = subst (Within a) e (same a)

pub chain : (a b c : Cost) → Within a b → Within b c → Within a c
chain a b c h k = let h0 = h.turns in let h1 = h.opens in let k0 = k.turns in let k1 = k.opens in record { turns = omega (arith, h0, k0); opens = omega (arith, h1, k1) }

pub both : (a b c d : Cost) → Within a c → Within b d → Within (plus a b) (plus c d)
both a b c d h k = let h0 = h.turns in let h1 = h.opens in let k0 = k.turns in let k1 = k.opens in record { turns = omega (arith, h0, k0); opens = omega (arith, h1, k1) }

-- what is paid may be paid in a sum's first or second part
pub pays_first : (k a b c d : Cost) → Within (plus k a) c → Within b d → Within (plus k (plus a b)) (plus c d)
pays_first k a b c d h g = let h0 = h.turns in let h1 = h.opens in let g0 = g.turns in let g1 = g.opens in record { turns = omega (arith, h0, g0); opens = omega (arith, h1, g1) }

pub pays_second : (k a b c d : Cost) → Within a c → Within (plus k b) d → Within (plus k (plus a b)) (plus c d)
pays_second k a b c d h g = let h0 = h.turns in let h1 = h.opens in let g0 = g.turns in let g1 = g.opens in record { turns = omega (arith, h0, g0); opens = omega (arith, h1, g1) }

-- where nothing is paid
pub unpaid : (a b : Cost) → Within a b → Within (plus nothing a) b
unpaid a b h = let h0 = h.turns in let h1 = h.opens in record { turns = omega (arith, h0); opens = omega (arith, h1) }

pub second : (a b c : Cost) → Within a c → Within a (plus b c)
second a b c h = let h0 = h.turns in let h1 = h.opens in record { turns = omega (arith, h0); opens = omega (arith, h1) }

pub first : (a b c : Cost) → Within a b → Within a (plus b c)
first a b c h = let h0 = h.turns in let h1 = h.opens in record { turns = omega (arith, h0); opens = omega (arith, h1) }

pub least : (a : Cost) → Within nothing a
least a = record { turns = omega arith; opens = omega arith }

pub if_more : (x y : Bool) (a : Cost) → (x ≡ true → y ≡ true) → Within (if x then a else nothing) (if y then a else nothing)
if_more true true a g = same a
if_more true false a g = absurd (false≢true (g refl))
if_more false y a g = least _

-- ---- so many times

mul_more : (n m t : ℕ) → n ≤ m → n * t ≤ m * t
mul_more zero m t h = omega arith
mul_more (suc n) zero t h = absurd (omega (arith, h))
mul_more (suc n) (suc m) t h = let i = mul_more n m t (omega (arith, h)) in omega (arith, i)

pub more_times : (n m : ℕ) (a : Cost) → n ≤ m → Within (times n a) (times m a)
more_times n m a h = record { turns = mul_more n m a.turns h; opens = mul_more n m a.opens h }

-- the first of so many
pub one_more : (n : ℕ) (a : Cost) → Within (plus a (times n a)) (times (suc n) a)
one_more n a = record { turns = omega arith; opens = omega arith }

pub once : (a : Cost) → Within (plus a nothing) (times 1 a)
once a = record { turns = omega arith; opens = omega arith }

pub fewer_turns : (g : Bool) (n m : ℕ) → n ≤ m → times_of_turns g n ≤ (if g then m else 1)
fewer_turns true zero m h = h
fewer_turns true (suc n) m h = h
fewer_turns false zero m h = omega arith
fewer_turns false (suc n) m h = omega arith
