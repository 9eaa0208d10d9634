-- Where a comment begins, found from the front on.
use Rattle.std.proofs.Common.{◌≡◌, ℕ, suc, ◌+◌, ◌≤◌, ◌<◌, Bool, true, false, cond, List, [], ◌∷◌, length, drop, refl, ap, ◌∙◌, arith, length-drop}
use Rattle.std.specs.Prelude.{nat_eq}
use Rattle.std.specs.List.{starts_with}
use Rattle.std.proofs.lemmas.List.{drop-drop}
use Rattle.ceu_script.specs.Content.{comment_at}

abbrev pub begins_comment : List ℕ → Bool
begins_comment text = starts_with nat_eq text (47 ∷ 47 ∷ [])

pub comment-here : (text : List ℕ) → begins_comment text ≡ true → comment_at text ≡ 0
comment-here [] is = refl
comment-here (b ∷ rest) is = ap (λ (c : Bool). cond c 0 (suc (comment_at rest))) is

pub comment-none : (text : List ℕ) → length text ≡ 0 → comment_at text ≡ 0
comment-none [] none = refl
comment-none (b ∷ rest) none = absurd (omega arith)

pub comment-later : (text : List ℕ) → 0 < length text → begins_comment text ≡ false → comment_at text ≡ comment_at (drop 1 text) + 1
comment-later [] some is = absurd (omega arith)
comment-later (b ∷ rest) some is = ap (λ (c : Bool). cond c 0 (suc (comment_at rest))) is ∙ (omega arith)

pub comment-next : (text : List ℕ) (at : ℕ) → at < length text → begins_comment (drop at text) ≡ false → at + comment_at (drop at text) ≡ comment_at text → at + 1 + comment_at (drop (at + 1) text) ≡ comment_at text
comment-next text at here is same =
    let later : comment_at (drop at text) ≡ comment_at (drop 1 (drop at text)) + 1 = comment-later (drop at text) (omega (arith, length-drop at text)) is in
    let behind : comment_at (drop 1 (drop at text)) ≡ comment_at (drop (at + 1) text) = ap comment_at (drop-drop 1 at text) in
    omega arith

pub comment_at-le : (text : List ℕ) → comment_at text ≤ length text
comment_at-le [] = omega arith
comment_at-le (b ∷ rest) = elim (begins_comment (b ∷ rest)) as (λ c. cond c 0 (suc (comment_at rest)) ≤ length (b ∷ rest)) [ true ↦ omega arith | false ↦ omega (arith, comment_at-le rest) ]
