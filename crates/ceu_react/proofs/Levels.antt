-- Levels that close, and the first gate of the level that stays.
use Rattle.std.proofs.Common.{◌≡◌, ℕ, zero, suc, ◌+◌, List, [], ◌∷◌, ◌++◌, Some, None, refl, sym, ap, ◌∙◌, subst, add-one, append_assoc, arith}
use Rattle.std.proofs.lemmas.List.{append-nil}
use Rattle.ceu_base.specs.declared.kinds.Mark.{Mark}
use Rattle.ceu_base.specs.declared.kinds.Mark.TheVariants.{Pop}
use Rattle.ceu_code.specs.declared.image.Image.{Image}
use Rattle.ceu_mem.specs.Memory.{Space}
use Rattle.ceu_isa.specs.Layout.{with_top}
use Rattle.ceu_isa.specs.Order.{Choice, Nowhere, Unclear, Chosen}
use Rattle.ceu_isa.specs.Turns.{Machine, changed}
use Rattle.ceu_isa.specs.Reactions.{Next, Nothing, AllClosed, Resumes, first_at, next_turn, next}
use Rattle.ceu_machine.specs.Holding.{IsMachine}
use Rattle.ceu_machine.specs.Noting.{Noted}
use Rattle.ceu_machine.specs.Ordering.{IsDecided}
use Rattle.ceu_machine.specs.States.{plain}
use Rattle.ceu_react.specs.Coming.{NextIs}
use Rattle.ceu_react.specs.Rounds.{IsClear, marks_of_next}
use Rattle.ceu_react.proofs.Marks.{marked_next, next_marked}

abbrev of_level : Image → (level : ℕ) → Next → Machine → Choice → Next
of_level image level closed m Nowhere = closed
of_level image level closed m Unclear = Nothing
of_level image level closed m (Chosen g) = Resumes g level m

abbrev pub when_closed : Image → ℕ → Machine → Next
when_closed image zero m = AllClosed m
when_closed image (suc n) m = next_turn image n (changed (with_top n m.bytes) (Pop (suc n) ∷ []) m)

by_choice : (image : Image) (level : ℕ) (m : Machine) → next_turn image level m ≡ of_level image level (when_closed image level m) m (first_at image level m.bytes)
unfolding next_turn
by_choice image zero m = by (first_at image 0 m.bytes)
  where
    by : (x : Choice) → (elim x as (λ _. Next) [ Nowhere ↦ AllClosed m | Unclear ↦ Nothing | Chosen g ↦ Resumes g 0 m ]) ≡ of_level image 0 (AllClosed m) m x
    by Nowhere = refl
    by Unclear = refl
    by (Chosen g) = refl
by_choice image (suc n) m = by (next_turn image n (changed (with_top n m.bytes) (Pop (suc n) ∷ []) m)) (first_at image (suc n) m.bytes)
  where
    by : (k : Next) (x : Choice) → (elim x as (λ _. Next) [ Nowhere ↦ k | Unclear ↦ Nothing | Chosen g ↦ Resumes g (suc n) m ]) ≡ of_level image (suc n) k m x
    by k Nowhere = refl
    by k Unclear = refl
    by k (Chosen g) = refl

pub next_found : (image : Image) (level : ℕ) (m : Machine) (g : ℕ) → first_at image level m.bytes ≡ Chosen g → next_turn image level m ≡ Resumes g level m
next_found image level m g e = by_choice image level m ∙ ap (of_level image level (when_closed image level m) m) e

pub next_none : (image : Image) (level : ℕ) (m : Machine) → level ≡ 0 → first_at image level m.bytes ≡ Nowhere → next_turn image level m ≡ AllClosed m
next_none image level m z e = by_choice image level m ∙ ap (of_level image level (when_closed image level m) m) e ∙ ap (λ (l : ℕ). when_closed image l m) z

pub next_closed : (image : Image) (level n : ℕ) (m : Machine) → level ≡ n + 1 → first_at image level m.bytes ≡ Nowhere → next_turn image level m ≡ next_turn image n (changed (with_top n m.bytes) (Pop (n + 1) ∷ []) m)
next_closed image level n m l e =
    let s : level ≡ suc n = omega arith in
    by_choice image level m ∙ ap (of_level image level (when_closed image level m) m) e ∙ ap (λ (k : ℕ). when_closed image k m) s
    ∙ ap (λ (k : ℕ). next_turn image n (changed (with_top n m.bytes) (Pop k ∷ []) m)) (sym (add-one n))

decided : (image : Image) (level : ℕ) (closed : Next) (m : Machine) (x : Choice) → IsClear (of_level image level closed m x) → IsDecided x
decided image level closed m Nowhere h = tt
decided image level closed m Unclear h = h
decided image level closed m (Chosen g) h = tt

pub next_decided : (image : Image) (level : ℕ) (m : Machine) → IsClear (next_turn image level m) → IsDecided (first_at image level m.bytes)
next_decided image level m h = decided image level (when_closed image level m) m (first_at image level m.bytes) (subst IsClear (by_choice image level m) h)

-- ---- marks

pub unmarked_clear : (ms : List Mark) (x : Next) → IsClear (marked_next ms x) → IsClear x
unmarked_clear ms Nothing h = h
unmarked_clear ms (AllClosed m) h = tt
unmarked_clear ms (Resumes g l m) h = tt

marked_twice : (ms ns : List Mark) (x : Next) → marked_next ms (marked_next ns x) ≡ marked_next (ms ++ ns) x
marked_twice ms ns Nothing = refl
marked_twice ms ns (AllClosed m) = ap (λ (l : List Mark). AllClosed (record { bytes = m.bytes; marks = l })) (sym (append_assoc ms ns m.marks))
marked_twice ms ns (Resumes g level m) = ap (λ (l : List Mark). Resumes g level (record { bytes = m.bytes; marks = l })) (sym (append_assoc ms ns m.marks))

pub marks_marked : (ms : List Mark) (x : Next) → IsClear x → marks_of_next (marked_next ms x) ≡ ms ++ marks_of_next x
marks_marked ms Nothing h = absurd h
marks_marked ms (AllClosed m) h = refl
marks_marked ms (Resumes g level m) h = refl

-- ---- the levels that have closed so far

pub record SoFar {S : Type 0} (notes : S → Mark → S → Type 0) (faults : S → ℕ) (image : Image) (begin : List ℕ) (old : S) (level : ℕ) (mem : Space) (out : S) : Type 0 where
  pub marks : List Mark
  pub noted : Noted notes marks old out
  pub rest : next image (plain begin) ≡ marked_next marks (next_turn image level (plain mem.bytes))
  pub made : IsMachine image mem
  pub count : faults out ≡ faults old

pub clear_on : (image : Image) (ms : List Mark) (level : ℕ) (bytes : List ℕ) (t : Next) → t ≡ marked_next ms (next_turn image level (plain bytes)) → IsClear t → IsClear (next_turn image level (plain bytes))
clear_on image ms level bytes t e h = unmarked_clear ms (next_turn image level (plain bytes)) (subst IsClear e h)

-- one level closes
pub rest_on : (image : Image) (ms : List Mark) (level n : ℕ) (bytes bytes' : List ℕ) (t : Next) → t ≡ marked_next ms (next_turn image level (plain bytes)) → level ≡ n + 1 → first_at image level bytes ≡ Nowhere → bytes' ≡ with_top n bytes → t ≡ marked_next (ms ++ Pop (n + 1) ∷ []) (next_turn image n (plain bytes'))
rest_on image ms level n bytes bytes' t e l f b =
    e ∙ ap (marked_next ms) (next_closed image level n (plain bytes) l f ∙ ap (λ (x : List ℕ). next_turn image n (record { bytes = x; marks = Pop (n + 1) ∷ [] })) (sym b) ∙ next_marked image n (Pop (n + 1) ∷ []) (plain bytes'))
    ∙ marked_twice ms (Pop (n + 1) ∷ []) (next_turn image n (plain bytes'))

-- a gate was found
pub found_is : (image : Image) (ms : List Mark) (level g : ℕ) (bytes : List ℕ) (t : Next) → t ≡ marked_next ms (next_turn image level (plain bytes)) → first_at image level bytes ≡ Chosen g → t ≡ Resumes g level (record { bytes = bytes; marks = ms ++ [] })
found_is image ms level g bytes t e f = e ∙ ap (marked_next ms) (next_found image level (plain bytes) g f)

pub found_next : (image : Image) (ms : List Mark) (level g : ℕ) (bytes : List ℕ) (t : Next) → t ≡ marked_next ms (next_turn image level (plain bytes)) → first_at image level bytes ≡ Chosen g → NextIs t (Some (record { gate = g; level = level })) bytes
found_next image ms level g bytes t e f = subst (λ x. NextIs x (Some (record { gate = g; level = level })) bytes) (sym (found_is image ms level g bytes t e f)) (refl, refl, refl)

pub found_marks : (image : Image) (ms : List Mark) (level g : ℕ) (bytes : List ℕ) (t : Next) → t ≡ marked_next ms (next_turn image level (plain bytes)) → first_at image level bytes ≡ Chosen g → marks_of_next t ≡ ms
found_marks image ms level g bytes t e f = ap marks_of_next (found_is image ms level g bytes t e f) ∙ append-nil ms

-- none was found at level 0
none_is : (image : Image) (ms : List Mark) (level : ℕ) (bytes : List ℕ) (t : Next) → t ≡ marked_next ms (next_turn image level (plain bytes)) → level ≡ 0 → first_at image level bytes ≡ Nowhere → t ≡ AllClosed (record { bytes = bytes; marks = ms ++ [] })
none_is image ms level bytes t e z f = e ∙ ap (marked_next ms) (next_none image level (plain bytes) z f)

pub none_next : (image : Image) (ms : List Mark) (level : ℕ) (bytes : List ℕ) (t : Next) → t ≡ marked_next ms (next_turn image level (plain bytes)) → level ≡ 0 → first_at image level bytes ≡ Nowhere → NextIs t None bytes
none_next image ms level bytes t e z f = subst (λ x. NextIs x None bytes) (sym (none_is image ms level bytes t e z f)) refl

pub none_marks : (image : Image) (ms : List Mark) (level : ℕ) (bytes : List ℕ) (t : Next) → t ≡ marked_next ms (next_turn image level (plain bytes)) → level ≡ 0 → first_at image level bytes ≡ Nowhere → marks_of_next t ≡ ms
none_marks image ms level bytes t e z f = ap marks_of_next (none_is image ms level bytes t e z f) ∙ append-nil ms
