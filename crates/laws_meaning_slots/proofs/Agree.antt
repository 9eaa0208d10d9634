-- Aliases that name instances of a tree: of the alias's code, in a pool that it may have, and of its body.
use Rattle.std.proofs.Common.{◌≡◌, refl, sym, ap, ◌≤◌, ℕ, ◌+◌, Bool, true, false, ◌==◌, nat_le, List, [], ◌∷◌, ◌++◌, arith, eqb-true}
use Rattle.std.proofs.lemmas.Bool.{and_parts, and_from, leb-true, false≢true}
use Rattle.std.specs.List.{list_all}
use Rattle.ceu_tree.specs.declared.kernel.Kernel.{Kernel}
use Rattle.ceu_tree.specs.Residual.{Body, Awaited, Spawned, Residual, Over, Run, WaitInput, WaitTime, WaitEvent, WaitForever, InAsync, Block, Open, Loop, Call, Par, Branches, no_branch, branch, Instances, no_instance, instance}
use Rattle.ceu_tree.specs.World.{Cell, Holds, NotSet, Names, Held}
use Rattle.ceu_tree.specs.Legal.{lies, Seated, seats, branch_seats, instance_seats, numbers}
use Rattle.laws_meaning_slots.specs.Names.{names, low, one, agrees}
use Rattle.laws_meaning_slots.proofs.Values.{held, Lie, lie_more}
use Rattle.laws_meaning_slots.proofs.Slots.{once}
use Rattle.laws_meaning_slots.proofs.Kept.{is_name}
use Rattle.laws_meaning_slots.proofs.Seats.{each_seat, branches_seats, all_seats}

pub names_number : (c : Cell) (g n : ℕ) → low g c ≡ true → g + 1 ≤ n → names c n ≡ false
names_number (Names k) g n e l = go (n == k) refl
  where
    go : (b : Bool) → (n == k) ≡ b → b ≡ false
    go false q = refl
    go true q = absurd (let z = eqb-true n k q in let y = leb-true k g e in omega (arith, z, y, l))
names_number (Holds v) g n e l = refl
names_number NotSet g n e l = refl

module _ (K : Kernel) where
  all_plain : (b : Body) (s : ℕ) (c : Cell) (found : List Seated) → is_name c ≡ false → list_all (one K (held b s c)) found ≡ true
  all_plain b s (Holds v) [] e = refl
  all_plain b s NotSet [] e = refl
  all_plain b s (Holds v) (x ∷ xs) e = all_plain b s (Holds v) xs e
  all_plain b s NotSet (x ∷ xs) e = all_plain b s NotSet xs e
  all_plain b s (Names k) found e = absurd (false≢true (sym e))

  pub plain_agrees : (g : ℕ) (found : List Seated) (b : Body) (s : ℕ) (c : Cell) → is_name c ≡ false → 1 ≤ once (agrees K g found (held b s c))
  plain_agrees g found b s c e = let a = ap once (and_from (low g c) (list_all (one K (held b s c)) found) (lower c e) (all_plain b s c found e)) in omega (arith, a)
    where
      lower : (c : Cell) → is_name c ≡ false → low g c ≡ true
      lower (Holds v) e = refl
      lower NotSet e = refl
      lower (Names k) e = absurd (false≢true (sym e))

-- ---- a list of seats, and the seats of a tree

module _ (q : Seated → Bool) where
  abbrev Passes : Seated → Type 0
  Passes x = q x ≡ true

  all_parts : (xs ys : List Seated) → list_all q (xs ++ ys) ≡ true → (list_all q xs ≡ true) × (list_all q ys ≡ true)
  all_parts [] ys e = (refl, e)
  all_parts (x ∷ xs) ys e = let a = and_parts (q x) (list_all q (xs ++ ys)) e in let b = all_parts xs ys a.1 in (and_from (q x) (list_all q xs) a.0 b.0, b.1)

  all_join : (xs ys : List Seated) → list_all q xs ≡ true → list_all q ys ≡ true → list_all q (xs ++ ys) ≡ true
  all_join [] ys e f = f
  all_join (x ∷ xs) ys e f = let a = and_parts (q x) (list_all q xs) e in and_from (q x) (list_all q (xs ++ ys)) a.0 (all_join xs ys a.1 f)

  mutual
    unfolding seats each_seat

    pub listed : (r : Residual) (body : Body) → list_all q (seats r body) ≡ true → each_seat Passes r body
    listed (Block b fin all r rest) body e = let a = all_parts (instance_seats all body) (seats r body) e in (all_listed all body a.0, listed r body a.1)
    listed (Open s r) body e = listed r body e
    listed (Loop s c r) body e = listed r body e
    listed (Call s r) body e = listed r (Awaited body s.node) e
    listed (Par s bs) body e = branches_listed bs body e
    listed Over body e = tt
    listed (Run k a) body e = tt
    listed (WaitInput k s) body e = tt
    listed (WaitTime d s) body e = tt
    listed (WaitEvent k s) body e = tt
    listed (WaitForever s) body e = tt
    listed (InAsync s served r) body e = tt

    branches_listed : (bs : Branches) (body : Body) → list_all q (branch_seats bs body) ≡ true → branches_seats Passes bs body
    branches_listed no_branch body e = tt
    branches_listed (branch r more) body e = let a = all_parts (seats r body) (branch_seats more body) e in (listed r body a.0, branches_listed more body a.1)

    all_listed : (all : Instances) (body : Body) → list_all q (instance_seats all body) ≡ true → all_seats Passes all body
    all_listed no_instance body e = tt
    all_listed (instance seat r more) body e =
        let a = and_parts (q (record { seat = seat; body = body })) (list_all q (seats r (Spawned seat.number) ++ instance_seats more body)) e in
        let b = all_parts (seats r (Spawned seat.number)) (instance_seats more body) a.1 in (a.0, listed r (Spawned seat.number) b.0, all_listed more body b.1)

  mutual
    unfolding seats each_seat

    pub seated_list : (r : Residual) (body : Body) → each_seat Passes r body → list_all q (seats r body) ≡ true
    seated_list (Block b fin all r rest) body e = all_join (instance_seats all body) (seats r body) (all_seated all body e.0) (seated_list r body e.1)
    seated_list (Open s r) body e = seated_list r body e
    seated_list (Loop s c r) body e = seated_list r body e
    seated_list (Call s r) body e = seated_list r (Awaited body s.node) e
    seated_list (Par s bs) body e = branches_seated bs body e
    seated_list Over body e = refl
    seated_list (Run k a) body e = refl
    seated_list (WaitInput k s) body e = refl
    seated_list (WaitTime d s) body e = refl
    seated_list (WaitEvent k s) body e = refl
    seated_list (WaitForever s) body e = refl
    seated_list (InAsync s served r) body e = refl

    branches_seated : (bs : Branches) (body : Body) → branches_seats Passes bs body → list_all q (branch_seats bs body) ≡ true
    branches_seated no_branch body e = refl
    branches_seated (branch r more) body e = all_join (seats r body) (branch_seats more body) (seated_list r body e.0) (branches_seated more body e.1)

    all_seated : (all : Instances) (body : Body) → all_seats Passes all body → list_all q (instance_seats all body) ≡ true
    all_seated no_instance body e = refl
    all_seated (instance seat r more) body e =
        and_from (q (record { seat = seat; body = body })) (list_all q (seats r (Spawned seat.number) ++ instance_seats more body)) e.0 (all_join (seats r (Spawned seat.number)) (instance_seats more body) (seated_list r (Spawned seat.number) e.1) (all_seated more body e.2))

-- the numbers of a list of seats
pub numbers_low : (g : ℕ) (xs : List Seated) → list_all (lies 1 g) (numbers xs) ≡ true → list_all (λ x. nat_le x.seat.number g) xs ≡ true
numbers_low g [] e = refl
numbers_low g (x ∷ xs) e =
    let a = and_parts (lies 1 g x.seat.number) (list_all (lies 1 g) (numbers xs)) e in
    and_from (nat_le x.seat.number g) (list_all (λ x. nat_le x.seat.number g) xs) (and_parts (nat_le 1 x.seat.number) (nat_le x.seat.number g) a.0).1 (numbers_low g xs a.1)

-- a test of values that passes where another does
pub tests_more : (p q : Held → Bool) → ((h : Held) → p h ≡ true → q h ≡ true) → (hs : List Held) → Lie (λ h. once (p h)) hs → Lie (λ h. once (q h)) hs
tests_more p q f hs l = lie_more (λ h. once (p h)) (λ h. once (q h)) (λ h n. go h (p h) refl n) hs l
  where
    go : (h : Held) (b : Bool) → p h ≡ b → 1 ≤ once b → 1 ≤ once (q h)
    go h true e n = let a = ap once (f h e) in omega (arith, a)
    go h false e n = absurd (omega (arith, n))
