-- The script that a reader has before it, over its next byte.
use Rattle.std.proofs.Common.{◌≡◌, ℕ, zero, suc, ◌+◌, ◌≤◌, ◌<◌, true, false, List, [], ◌∷◌, ◌++◌, length, take, Option, refl, sym, ap, ◌∙◌, subst, arith}
use Rattle.std.specs.Prelude.{nat_le}
use Rattle.std.proofs.lemmas.Bool.Decides.{nat_tests}
use Rattle.ceu_io.specs.Told.{WhereTold}
use Rattle.ceu_io.proofs.Telling.{where_told_map, where_told_same}
use Rattle.ceu_script.specs.Reader.{Reader, ahead, room, budget, position}
use Rattle.ceu_script.specs.Bytewise.{AnswersByte, Refills, HasPiece}
use Rattle.ceu_script.specs.declared.lines.Piece.{Piece}
use Rattle.ceu_script.specs.declared.lines.NextByte.TheVariants.{Byte, Last, Over}
use Rattle.ceu_script.specs.declared.lines.Piece.TheVariants.{More, NoMore, Spent}

one_taken : (k m b : ℕ) (xs ys : List ℕ) → xs ≡ b ∷ ys → k ≡ suc m → (take k xs ≡ b ∷ take m ys) × (nat_le m (length ys) ≡ nat_le k (length xs))
one_taken k m b xs ys front size = (
  (λ i. take (size i) (front i)),
  (grind (arith, nat_tests, ap length front)),
)

pub byte_ahead : (r t : Reader) (b : ℕ) (old new : List ℕ) → r.pending ++ old ≡ b ∷ (t.pending ++ new) → room r ≡ suc (room t) → AnswersByte (Byte b) (ahead r old) (ahead t new)
unfolding ahead
byte_ahead r t b old new front size = one_taken _ _ b _ _ front size

pub held_ahead : (r t : Reader) (b : ℕ) (left : List ℕ) → r.pending ≡ b ∷ t.pending → t.taken ≡ r.taken → r.taken ≤ budget → AnswersByte (Byte b) (ahead r left) (ahead t left)
held_ahead r t b left front taken within = byte_ahead r t b left left (ap (λ (l : List ℕ). l ++ left) front) (omega (arith, ap length front))

pub more_ahead : (p : Piece) (r s t : Reader) (b : ℕ) (x y : Option (List ℕ)) → p ≡ More → r.pending ≡ [] → s.taken ≡ r.taken + length s.pending → s.taken ≤ budget → s.pending ≡ b ∷ t.pending → t.taken ≡ s.taken
    → WhereTold x y (λ old new. Refills p r old s new) → WhereTold x y (λ old new. AnswersByte (Byte b) (ahead r old) (ahead t new))
more_ahead p r s t b x y piece empty taken within front same told = where_told_map x y _ _ (λ old new is. byte_ahead r t b old new
    (ap (λ (l : List ℕ). l ++ old) empty ∙ is ∙ ap (λ (l : List ℕ). l ++ new) front) (omega (arith, ap length front, ap length empty)))
    (subst (λ q. WhereTold x y (λ old new. Refills q r old s new)) piece told)

no_room_used : (k n : ℕ) → 0 < k → n ≡ 0 → nat_le k n ≡ false
no_room_used k n some none = grind (arith, nat_tests)

taken_of_none : (k : ℕ) (xs : List ℕ) → xs ≡ [] → take k xs ≡ []
taken_of_none zero xs none = refl
taken_of_none (suc k) xs none = ap (λ (l : List ℕ). take (suc k) l) none

-- nothing is left of a script that the budget doesn't cut
ended : (q : Reader) (left : List ℕ) → q.pending ++ left ≡ [] → 0 < room q → ahead q left ≡ record { cut = false; bytes = [] }
unfolding ahead
ended q left none some = let c = no_room_used (room q) (length (q.pending ++ left)) some (ap length none) in let b = taken_of_none (room q) _ none in λ i. record { cut = c i; bytes = b i }

zero_le : (k n : ℕ) → k ≡ 0 → nat_le k n ≡ true
zero_le k n none = grind (arith, nat_tests)

-- the budget is used up
spent : (q : Reader) (left : List ℕ) → room q ≡ 0 → ahead q left ≡ record { cut = true; bytes = [] }
unfolding ahead
spent q left none = let c = zero_le (room q) (length (q.pending ++ left)) none in λ i. record { cut = c i; bytes = take (none i) (q.pending ++ left) }

pub no_more_ahead : (p : Piece) (r s : Reader) (x y : Option (List ℕ)) → p ≡ NoMore → r.pending ≡ [] → HasPiece p s → s.taken ≡ r.taken + length s.pending
    → WhereTold x y (λ old new. Refills p r old s new) → WhereTold x y (λ old new. AnswersByte Last (ahead r old) (ahead s new))
no_more_ahead p r s x y is empty has taken told =
    let none : s.pending ≡ [] = subst (λ q. HasPiece q s) is has in
    where_told_map x y _ _ (λ old new refills.
    let e = ended r old (ap (λ (l : List ℕ). l ++ old) empty ∙ refills.0) (omega (arith, ap length empty)) in
    let f = ended s new (ap (λ (l : List ℕ). l ++ new) none ∙ refills.1) (omega (arith, ap length none)) in
    (e, f ∙ sym e)) (subst (λ q. WhereTold x y (λ old new. Refills q r old s new)) is told)

pub spent_ahead : (p : Piece) (r s : Reader) (x y : Option (List ℕ)) → p ≡ Spent → r.pending ≡ [] → HasPiece p s → s.taken ≡ r.taken + length s.pending
    → WhereTold x y (λ old new. Refills p r old s new) → WhereTold x y (λ old new. AnswersByte Over (ahead r old) (ahead s new))
spent_ahead p r s x y is empty has taken told =
    let none : s.pending ≡ [] = subst (λ q. HasPiece q s) is has in
    where_told_map x y _ _ (λ old new refills.
    let e = spent r old (omega (arith, ap length empty, refills.1)) in
    let f = spent s new (omega (arith, ap length none, refills.1)) in
    (e, f ∙ sym e)) (subst (λ q. WhereTold x y (λ old new. Refills q r old s new)) is told)

-- the same, where the reader and the source of a branch go by other names behind it
pub more_ahead_from : (p : Piece) (r s t s' : Reader) (b : ℕ) (x y y' : Option (List ℕ)) → s ≡ s' → y ≡ y' → p ≡ More → r.pending ≡ [] → s'.taken ≡ r.taken + length s'.pending → s'.taken ≤ budget → s.pending ≡ b ∷ t.pending → t.taken ≡ s.taken
    → WhereTold x y' (λ old new. Refills p r old s' new) → WhereTold x y (λ old new. AnswersByte (Byte b) (ahead r old) (ahead t new))
more_ahead_from p r s t s' b x y y' same_self same_left piece empty taken within front same told =
    subst (λ (l : Option (List ℕ)). WhereTold x l (λ old new. AnswersByte (Byte b) (ahead r old) (ahead t new))) (sym same_left)
    (more_ahead p r s' t b x y' piece empty taken within (ap (λ (q : Reader). q.pending) (sym same_self) ∙ front) (same ∙ ap (λ (q : Reader). q.taken) same_self) told)

pub held_ahead_from : (r s t : Reader) (b : ℕ) (x y : Option (List ℕ)) → s ≡ r → y ≡ x → s.pending ≡ b ∷ t.pending → t.taken ≡ s.taken → s.taken ≤ budget → WhereTold x y (λ old new. AnswersByte (Byte b) (ahead r old) (ahead t new))
held_ahead_from r s t b x y same_self same_left front taken within =
    subst (λ (l : Option (List ℕ)). WhereTold x l (λ old new. AnswersByte (Byte b) (ahead r old) (ahead t new))) (sym same_left)
    (where_told_same x _ (λ left. held_ahead r t b left (ap (λ (q : Reader). q.pending) (sym same_self) ∙ front) (taken ∙ ap (λ (q : Reader). q.taken) same_self) (subst (λ (q : Reader). q.taken ≤ budget) same_self within)))

-- how far a byte moves the reader
pub record MovesByte (r t : Reader) : Type 0 where
  pub taken : (t.taken ≤ position r + 1024) × (t.taken ≤ budget)
  pub here : position t ≡ position r + 1

pub after_piece : (r s t s' : Reader) (b : ℕ) → s ≡ s' → r.pending ≡ [] → s'.taken ≡ r.taken + length s'.pending → length s'.pending ≤ 1024 → s'.taken ≤ budget → s.pending ≡ b ∷ t.pending → t.taken ≡ s.taken → MovesByte r t
after_piece r s t s' b same empty taken within less front kept =
    let e : s.taken ≡ s'.taken = ap (λ (q : Reader). q.taken) same in
    let f : length s.pending ≡ length s'.pending = ap (λ (q : Reader). length q.pending) same in
    let h : length s.pending ≡ suc (length t.pending) = ap length front in
    let k : length r.pending ≡ 0 = ap length empty in
    record { taken = (omega arith, omega arith); here = omega arith }

pub after_held : (r s t : Reader) (b : ℕ) → s ≡ r → s.pending ≡ b ∷ t.pending → t.taken ≡ s.taken → length s.pending ≤ 1024 → s.taken ≤ budget → length s.pending ≤ s.taken → MovesByte r t
after_held r s t b same front kept within less much =
    let e : s.taken ≡ r.taken = ap (λ (q : Reader). q.taken) same in
    let f : length s.pending ≡ length r.pending = ap (λ (q : Reader). length q.pending) same in
    let h : length s.pending ≡ suc (length t.pending) = ap length front in
    record { taken = (omega arith, omega arith); here = omega arith }
