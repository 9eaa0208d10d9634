-- From the last code down: a body's open bodies of a code are at most those that the table of instances has.
use Rattle.std.proofs.Common.{◌≡◌, refl, ap, ◌∙◌, ◌≤◌, ℕ, zero, suc, ◌+◌, ◌*◌, true, List, [], ◌∷◌, Some, None, arith}
use Rattle.ceu_tree.specs.declared.kernel.Kernel.{Kernel}
use Rattle.ceu_tree.specs.declared.kernel.KCode.{KCode}
use Rattle.ceu_tree.specs.declared.kernel.KBlock.{KBlock}
use Rattle.ceu_tree.specs.Residual.{Residual}
use Rattle.ceu_tree.specs.Costs.{block_uses, held_by, instances_from}
use Rattle.ceu_tree.specs.Leaf.{code_at}
use Rattle.ceu_tree.specs.Needs.{entry}
use Rattle.ceu_tree.specs.Proper.{Scope, is_proper}
use Rattle.laws_meaning_basics.specs.Shape.{ABlock, Fits, program_part}
use Rattle.laws_meaning_instances.specs.Instances.{pools_stand}
use Rattle.laws_bounds_reach.specs.Copies.{copies}
use Rattle.laws_bounds_reach.proofs.Sums.{over, more_times}
use Rattle.laws_bounds_reach.proofs.Copied.{used_by, fits_copies}
use Rattle.laws_bounds_reach.proofs.Used.{code_uses_above, code_uses_there, program_uses_there}

held_nothing : (k : ℕ) (cs : List KCode) → held_by k cs [] ≡ 0
held_nothing k [] = refl
held_nothing k (c ∷ cs) = refl

pub first_at : (f : ℕ → ℕ) (i : ℕ) → f (i + 0) ≡ f i
first_at f i = ap f (let e : i + 0 ≡ i = omega arith in e)

pub next_at : (f : ℕ → ℕ) (i j : ℕ) → f (i + 1 + j) ≡ f (i + suc j)
next_at f i j = ap f (let e : i + 1 + j ≡ i + suc j = omega arith in e)

module _ (f : ℕ → ℕ) (k : ℕ) where
  abbrev uses_of : KCode → ℕ
  uses_of c = block_uses k c.body

  over_held : (cs : List KCode) (i : ℕ) (ns : List ℕ) → ((j : ℕ) → f (i + j) ≤ entry j ns) → over uses_of cs i f ≤ held_by k cs ns
  over_held [] i ns h = omega arith
  over_held (c ∷ cs) i [] h =
      let a = over_held cs (i + 1) [] (λ j. let x = h (suc j) in let y = next_at f i j in omega (arith, x, y)) in
      let b = held_nothing k cs in
      let z = h 0 in
      let y = first_at f i in
      let t = more_times (f i) 0 (uses_of c) (omega (arith, z, y)) in omega (arith, a, b, t)
  over_held (c ∷ cs) i (n ∷ ns) h =
      let a = over_held cs (i + 1) ns (λ j. let x = h (suc j) in let y = next_at f i j in omega (arith, x, y)) in
      let z = h 0 in
      let y = first_at f i in
      let t = more_times (f i) n (uses_of c) (omega (arith, z, y)) in omega (arith, a, t)

held_zero : (k : ℕ) (cs : List KCode) (ns : List ℕ) → ((j : ℕ) → entry j ns ≡ 0) → held_by k cs ns ≡ 0
held_zero k [] ns h = refl
held_zero k (c ∷ cs) [] h = refl
held_zero k (c ∷ cs) (n ∷ ns) h =
    let a = held_zero k cs ns (λ j. h (suc j)) in
    let b = ap (λ m. block_uses k c.body * m) (h 0) in omega (arith, a, b)

-- a body that uses codes above c alone has no other
pub none_from : (main : KBlock) (c : ℕ) → ((k : ℕ) → c ≤ k → block_uses k main ≡ 0) → (i : ℕ) (cs : List KCode) (j : ℕ) → c ≤ i + j → entry j (instances_from main i cs) ≡ 0
none_from main c h i [] j l = refl
none_from main c h i (y ∷ cs) zero l =
    let a = h i (omega (arith, l)) in
    let b = held_zero i cs (instances_from main (i + 1) cs) (λ j. none_from main c h (i + 1) cs j (omega (arith, l))) in omega (arith, a, b)
none_from main c h i (y ∷ cs) (suc j) l = none_from main c h (i + 1) cs j (omega (arith, l))

module _ (K : Kernel) (proper : is_proper K ≡ true) (main : KBlock) (there : (k : ℕ) → code_at k K.codes ≡ None → block_uses k main ≡ 0) where
  module _ (f : ℕ → ℕ) (bound : (k : ℕ) → f k ≤ block_uses k main + used_by K k f) where
    -- cs are the codes from number i on, and these alone use codes from there on
    abbrev From : ℕ → List KCode → Type 0
    From i cs = (j : ℕ) → code_at (i + j) K.codes ≡ code_at j cs

    abbrev Later : ℕ → List KCode → Type 0
    Later i cs = (k : ℕ) → i ≤ suc k → used_by K k f ≤ over (uses_of f k) cs i f

    from_next : (i : ℕ) (c : KCode) (cs : List KCode) → From i (c ∷ cs) → From (i + 1) cs
    from_next i c cs h j = ap (λ n. code_at n K.codes) (let e : i + 1 + j ≡ i + suc j = omega arith in e) ∙ h (suc j)

    later_next : (i : ℕ) (c : KCode) (cs : List KCode) → From i (c ∷ cs) → Later i (c ∷ cs) → Later (i + 1) cs
    later_next i c cs at h k l =
        let x = h k (omega (arith, l)) in
        let e = code_uses_above K i k c proper (ap (λ n. code_at n K.codes) (let e : i ≡ i + 0 = omega arith in e) ∙ at 0) (omega (arith, l)) in
        let y = ap (λ n. f i * n) e in omega (arith, x, y)

    bounded_from : (i : ℕ) (cs : List KCode) → From i cs → Later i cs → (j : ℕ) → f (i + j) ≤ entry j (instances_from main i cs)
    bounded_from i [] at h j =
        let a = bound (i + j) in
        let b = there (i + j) (at j) in
        let c = h (i + j) (omega arith) in omega (arith, a, b, c)
    bounded_from i (c ∷ cs) at h zero =
        let n = later_next i c cs at h in
        let a = bound i in
        let b = n i (omega arith) in
        let d = over_held f i cs (i + 1) (instances_from main (i + 1) cs) (bounded_from (i + 1) cs (from_next i c cs at) n) in
        let e = first_at f i in omega (arith, a, b, d, e)
    bounded_from i (c ∷ cs) at h (suc j) =
        let a = bounded_from (i + 1) cs (from_next i c cs at) (later_next i c cs at h) j in
        let e = next_at f i j in omega (arith, a, e)

    bounded : (k : ℕ) → f k ≤ entry k (instances_from main 0 K.codes)
    bounded k =
        let a = bounded_from 0 K.codes (λ j. ap (λ n. code_at n K.codes) (let e : 0 + j ≡ j = omega arith in e)) (λ j l. omega arith) k in
        let e = ap f (let e : 0 + k ≡ k = omega arith in e) in omega (arith, a, e)

  pub body_copies : {t : ℕ} {turn : _} {sc : Scope} {r : Residual} → Fits K t (ABlock turn sc main) r → pools_stand r → (k : ℕ) → copies k r ≤ entry k (instances_from main 0 K.codes)
  body_copies {r = r} fit h k = bounded (λ j. copies j r) (λ j. fits_copies K j fit h) k

pub program_copies : (K : Kernel) (top : ℕ) (r : Residual) (k : ℕ) → is_proper K ≡ true → Fits K top (program_part K) r → pools_stand r → copies k r ≤ entry k (instances_from K.body 0 K.codes)
program_copies K top r k p fit h = body_copies K p K.body (λ j n. program_uses_there K j p n) fit h k

-- in the body of code c only codes above it are open
pub code_copies : (K : Kernel) (top : ℕ) (sc : Scope) (turn : _) (r : Residual) (c k : ℕ) (x : KCode) → is_proper K ≡ true → code_at c K.codes ≡ Some x → Fits K top (ABlock turn sc x.body) r → pools_stand r → c ≤ k → copies k r ≡ 0
code_copies K top sc turn r c k x p e fit h l =
    let a = body_copies K p x.body (λ j n. code_uses_there K c j x p e n) fit h k in
    let b = none_from x.body c (λ j m. code_uses_above K c j x p e m) 0 K.codes k (omega (arith, l)) in omega (arith, a, b)
