-- A reaction is one round after the other. Where it does nothing that isn't allowed within a number of turns, more turns change nothing.
use Rattle.std.proofs.Common.{◌≡◌, ℕ, zero, suc, ◌<◌, refl, sym, ap, ◌∙◌, subst, arith}
use Rattle.ceu_code.specs.declared.image.Image.{Image}
use Rattle.ceu_isa.specs.Layout.{with_state, waiting}
use Rattle.ceu_isa.specs.Turns as turns
use Rattle.ceu_isa.specs.Turns.{Machine, State, rewritten}
use Rattle.ceu_isa.specs.Reactions.{Config, Lost, Waits, HasEnded, HasFaulted, Next, Nothing, AllClosed, Resumes, next, resumed, reaction, value_of_end}
use Rattle.ceu_react.specs.Marking.{IsKept}
use Rattle.ceu_react.specs.Rounds.{Round, Over, Goes, after_turn, round_of, round, IsRightRound}

-- what follows a round, with at most so many more of them
abbrev pub rest : Image → Round → ℕ → Config
rest image (Over c) n = c
rest image (Goes m) zero = Lost
rest image (Goes m) (suc n) = reaction image n m

of_turn : (image : Image) (n : ℕ) (s : State) → (elim s as (λ _. Config) [
  | turns.Paused j ↦ reaction image n j
  | turns.Ended j ↦ HasEnded (value_of_end j) j
  | turns.Faulted f p j ↦ HasFaulted f p j
  | turns.Stuck ↦ Lost
  | turns.Trail r j ↦ Lost
  | turns.Sweeping s j ↦ Lost
  | turns.Finalizer s r j ↦ Lost
]) ≡ rest image (after_turn s) (suc n)
of_turn image n turns.Stuck = refl
of_turn image n (turns.Trail r m) = refl
of_turn image n (turns.Sweeping s m) = refl
of_turn image n (turns.Finalizer s r m) = refl
of_turn image n (turns.Paused m) = refl
of_turn image n (turns.Ended m) = refl
of_turn image n (turns.Faulted f p m) = refl

of_next : (image : Image) (n : ℕ) (x : Next) → (elim x as (λ _. Config) [
  | Nothing ↦ Lost
  | AllClosed k ↦ Waits (rewritten (with_state waiting k.bytes) k)
  | Resumes g level k ↦ elim (resumed image g level k) as (λ _. Config) [
    | turns.Paused j ↦ reaction image n j
    | turns.Ended j ↦ HasEnded (value_of_end j) j
    | turns.Faulted f p j ↦ HasFaulted f p j
    | turns.Stuck ↦ Lost
    | turns.Trail r j ↦ Lost
    | turns.Sweeping s j ↦ Lost
    | turns.Finalizer s r j ↦ Lost
  ]
]) ≡ rest image (round_of image x) (suc n)
of_next image n Nothing = refl
of_next image n (AllClosed m) = refl
of_next image n (Resumes g level m) = of_turn image n (resumed image g level m)

pub one_more : (image : Image) (n : ℕ) (m : Machine) → reaction image (suc n) m ≡ rest image (round image m) (suc n)
unfolding reaction round
one_more image n m = of_next image n (next image m)

none_left : (image : Image) (x : Next) → IsKept (elim x as (λ _. Config) [ Nothing ↦ Lost | AllClosed k ↦ Waits (rewritten (with_state waiting k.bytes) k) | Resumes g level k ↦ Lost ]) → (elim x as (λ _. Config) [ Nothing ↦ Lost | AllClosed k ↦ Waits (rewritten (with_state waiting k.bytes) k) | Resumes g level k ↦ Lost ]) ≡ rest image (round_of image x) 0
none_left image Nothing k = absurd k
none_left image (AllClosed m) k = refl
none_left image (Resumes g level m) k = absurd k

pub by_rounds : (image : Image) (n : ℕ) (m : Machine) → IsKept (reaction image n m) → reaction image n m ≡ rest image (round image m) n
unfolding reaction round
by_rounds image zero m k = none_left image (next image m) k
by_rounds image (suc n) m k = of_next image n (next image m)

-- ---- with more turns

at_zero : (image : Image) (x : Round) → IsKept (rest image x 0) → rest image x 1 ≡ rest image x 0
at_zero image (Over c) k = refl
at_zero image (Goes m) k = absurd k

at_more : (image : Image) (n : ℕ) → ((m : Machine) → IsKept (reaction image n m) → reaction image (suc n) m ≡ reaction image n m) → (x : Round) → IsKept (rest image x (suc n)) → rest image x (suc (suc n)) ≡ rest image x (suc n)
at_more image n before (Over c) k = refl
at_more image n before (Goes m) k = before m k

pub more : (image : Image) (n : ℕ) (m : Machine) → IsKept (reaction image n m) → reaction image (suc n) m ≡ reaction image n m
more image zero m k =
    let e = by_rounds image 0 m k in
    one_more image 0 m ∙ at_zero image (round image m) (subst IsKept e k) ∙ sym e
more image (suc n) m k =
    let e = one_more image n m in
    one_more image (suc n) m ∙ at_more image n (λ j h. more image n j h) (round image m) (subst IsKept e k) ∙ sym e

-- a round that goes on, with the same number of turns
pub stays : (image : Image) (n : ℕ) (m j : Machine) → round image m ≡ Goes j → IsKept (reaction image n m) → reaction image n m ≡ reaction image n j
stays image zero m j e k = let h : reaction image 0 m ≡ Lost = by_rounds image 0 m k ∙ ap (λ (x : Round). rest image x 0) e in absurd (subst IsKept h k)
stays image (suc n) m j e k =
    let h : reaction image (suc n) m ≡ reaction image n j = one_more image n m ∙ ap (λ (x : Round). rest image x (suc n)) e in
    h ∙ sym (more image n j (subst IsKept h k))

pub over : (image : Image) (n : ℕ) (m : Machine) (c : Config) → round image m ≡ Over c → IsKept (reaction image n m) → reaction image n m ≡ c
over image n m c e k = by_rounds image n m k ∙ ap (λ (x : Round). rest image x n) e

right : (image : Image) (n : ℕ) (x : Round) → IsKept (rest image x n) → IsRightRound x
right image n (Over Lost) k = k
right image n (Over (Waits m)) k = tt
right image n (Over (HasEnded v m)) k = tt
right image n (Over (HasFaulted f p m)) k = tt
right image n (Goes m) k = tt

pub right_round : (image : Image) (n : ℕ) (m : Machine) → IsKept (reaction image n m) → IsRightRound (round image m)
right_round image n m k = right image n (round image m) (subst IsKept (by_rounds image n m k) k)

-- ---- how many rounds are left, of at most n

pub left : Image → ℕ → Machine → ℕ
left image zero m = 0
left image (suc n) m = elim (round image m) as (λ _. ℕ) [ Over c ↦ 0 | Goes j ↦ suc (left image n j) ]

pub left_zero : (image : Image) (m : Machine) → left image 0 m ≡ 0
unfolding left
left_zero image m = refl

pub left_over : (image : Image) (n : ℕ) (m : Machine) (c : Config) → round image m ≡ Over c → left image (suc n) m ≡ 0
unfolding left
left_over image n m c e = ap (λ (x : Round). elim x as (λ _. ℕ) [ Over c ↦ 0 | Goes j ↦ suc (left image n j) ]) e

pub left_on : (image : Image) (n : ℕ) (m j : Machine) → round image m ≡ Goes j → left image (suc n) m ≡ suc (left image n j)
unfolding left
left_on image n m j e = ap (λ (x : Round). elim x as (λ _. ℕ) [ Over c ↦ 0 | Goes j ↦ suc (left image n j) ]) e

left_more : (image : Image) (n : ℕ) (m : Machine) → IsKept (reaction image n m) → left image (suc n) m ≡ left image n m
left_more image zero m k = by (round image m) refl
  where
    by : (x : Round) → round image m ≡ x → left image 1 m ≡ left image 0 m
    by (Over c) e = left_over image 0 m c e ∙ sym (left_zero image m)
    by (Goes j) e = absurd (subst IsKept (by_rounds image 0 m k ∙ ap (λ (x : Round). rest image x 0) e) k)
left_more image (suc n) m k = by (λ j h. left_more image n j h) (round image m) refl
  where
    by : ((j : Machine) → IsKept (reaction image n j) → left image (suc n) j ≡ left image n j) → (x : Round) → round image m ≡ x → left image (suc (suc n)) m ≡ left image (suc n) m
    by before (Over c) e = left_over image (suc n) m c e ∙ sym (left_over image n m c e)
    by before (Goes j) e = left_on image (suc n) m j e ∙ ap suc (before j (subst IsKept (one_more image n m ∙ ap (λ (x : Round). rest image x (suc n)) e) k)) ∙ sym (left_on image n m j e)

pub left_less : (image : Image) (n : ℕ) (m j : Machine) → round image m ≡ Goes j → IsKept (reaction image n m) → left image n j < left image n m
left_less image zero m j e k = absurd (subst IsKept (by_rounds image 0 m k ∙ ap (λ (x : Round). rest image x 0) e) k)
left_less image (suc n) m j e k =
    let kj = subst IsKept (one_more image n m ∙ ap (λ (x : Round). rest image x (suc n)) e) k in
    let a = left_more image n j kj in
    let b = left_on image n m j e in
    omega arith
