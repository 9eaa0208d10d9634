-- How many levels a push and a pop leave open.
use Rattle.std.proofs.Common.{◌≡◌, refl, sym, ap, subst, ◌∙◌, ℕ, ◌+◌, ◌-◌, ◌<◌, ◌≤◌, List, [], ◌∷◌, ◌++◌, Bool, true, false, Some, None, if◌then◌else◌, get_or, length, reverse, arith}
use Rattle.std.proofs.lemmas.List.{get_or-reverse, reverse-append, length-reverse}
use Rattle.std.proofs.lemmas.Option.{get_or_from_slice_get, slice_get_within, slice_get-get_or}
use Rattle.std.specs.List.{slice_get}
use Rattle.ceu_syntax.specs.declared.machine.Frame.{Frame}
use Rattle.ceu_syntax.specs.declared.machine.Frame.TheVariants as f
use Rattle.ceu_syntax.specs.Levels as limit
use Rattle.ceu_syntax.specs.Levels.{is_begun, is_at_statement}
use Rattle.ceu_grammar.specs.Levels.{opens_level, level_count}

pub no_levels : level_count [] ≡ 0
unfolding level_count
no_levels = refl

pub level_count-push : (frame : Frame) (items : List Frame) → level_count (reverse (items ++ frame ∷ [])) ≡ (if opens_level frame then 1 else 0) + level_count (reverse items)
unfolding level_count
level_count-push frame items = ap (λ l. level_count l) (reverse-append items (frame ∷ []))

pub level_count-le : (K : List Frame) → level_count K ≤ length K
unfolding level_count
level_count-le [] = omega arith
level_count-le (frame ∷ K) = go (opens_level frame) (level_count-le K)
  where
    go : (b : Bool) → level_count K ≤ length K → (if b then 1 else 0) + level_count K ≤ length (frame ∷ K)
    go true h = omega arith
    go false h = omega arith

pub level_count-within : (items : List Frame) → level_count (reverse items) ≤ length items
level_count-within items = let h : level_count (reverse items) ≤ length (reverse items) = level_count-le (reverse items) in omega (arith, h, length-reverse items)

pub pushed : (frame : Frame) (items next : List Frame) (levels : ℕ) → levels ≡ level_count (reverse items) → opens_level frame ≡ true → next ≡ items ++ frame ∷ [] → levels + 1 ≡ level_count (reverse next)
pushed frame items next levels h marked e = go (opens_level frame) marked (level_count-push frame items)
  where
    go : (b : Bool) → b ≡ true → level_count (reverse (items ++ frame ∷ [])) ≡ (if b then 1 else 0) + level_count (reverse items) → levels + 1 ≡ level_count (reverse next)
    go true y c = let n : level_count (reverse next) ≡ level_count (reverse (items ++ frame ∷ [])) = ap (λ l. level_count (reverse l)) e in omega arith
    go false y c = absurd (cc)

pub pushed_beside : (frame : Frame) (items next : List Frame) (levels : ℕ) → levels ≡ level_count (reverse items) → opens_level frame ≡ false → next ≡ items ++ frame ∷ [] → levels ≡ level_count (reverse next)
pushed_beside frame items next levels h unmarked e = go (opens_level frame) unmarked (level_count-push frame items)
  where
    go : (b : Bool) → b ≡ false → level_count (reverse (items ++ frame ∷ [])) ≡ (if b then 1 else 0) + level_count (reverse items) → levels ≡ level_count (reverse next)
    go false y c = let n : level_count (reverse next) ≡ level_count (reverse (items ++ frame ∷ [])) = ap (λ l. level_count (reverse l)) e in omega arith
    go true y c = absurd (cc)

pub popped_some : (frame : Frame) (items next : List Frame) (levels : ℕ) → levels ≡ level_count (reverse items) → opens_level frame ≡ true → items ≡ next ++ frame ∷ [] → 1 ≤ levels
popped_some frame items next levels h marked e = let n : level_count (reverse next) + 1 ≡ level_count (reverse items) = pushed frame next items (level_count (reverse next)) refl marked e in omega arith

pub popped : (frame : Frame) (items next : List Frame) (levels : ℕ) → levels ≡ level_count (reverse items) → opens_level frame ≡ true → items ≡ next ++ frame ∷ [] → levels - 1 ≡ level_count (reverse next)
popped frame items next levels h marked e = let n : level_count (reverse next) + 1 ≡ level_count (reverse items) = pushed frame next items (level_count (reverse next)) refl marked e in omega arith

pub popped_beside : (frame : Frame) (items next : List Frame) (levels : ℕ) → levels ≡ level_count (reverse items) → opens_level frame ≡ false → items ≡ next ++ frame ∷ [] → levels ≡ level_count (reverse next)
popped_beside frame items next levels h unmarked e = h ∙ sym (pushed_beside frame next items (level_count (reverse next)) refl unmarked e)

-- ---- what stands on top

first_begun : (K : List Frame) (d : Frame) → 0 < length K → is_at_statement K ≡ is_begun (get_or K 0 d)
first_begun [] d h = absurd (omega arith)
first_begun (frame ∷ K) d h = refl

pub top_begun : (items seen : List Frame) (frame : Frame) → seen ≡ items → Some frame ≡ slice_get seen (length seen - 1) → is_at_statement (reverse items) ≡ is_begun frame
top_begun items seen frame same read = go (subst (λ l. Some frame ≡ slice_get l (length l - 1)) same read)
  where
    go : Some frame ≡ slice_get items (length items - 1) → is_at_statement (reverse items) ≡ is_begun frame
    go h =
        let inside : length items - 1 < length items = slice_get_within items (length items - 1) frame (sym h) in
        let last : get_or items (length items - 1) frame ≡ frame = get_or_from_slice_get items (length items - 1) frame frame (sym h) in
        let nonempty : 0 < length (reverse items) = omega (arith, length-reverse items) in
        let first : length items - 1 - 0 ≡ length items - 1 = omega arith in
        first_begun (reverse items) frame nonempty ∙ ap (λ x. is_begun x) (get_or-reverse items 0 frame (omega arith) ∙ ap (λ i. get_or items i frame) first ∙ last)

pub none_begun : (items seen : List Frame) → seen ≡ items → None ≡ slice_get seen (length seen - 1) → is_at_statement (reverse items) ≡ false
none_begun items seen same read = go items (subst (λ l. None ≡ slice_get l (length l - 1)) same read)
  where
    go : (l : List Frame) → None ≡ slice_get l (length l - 1) → is_at_statement (reverse l) ≡ false
    go [] h = refl
    go (frame ∷ l) h = let e : slice_get (frame ∷ l) (length (frame ∷ l) - 1) ≡ Some (get_or (frame ∷ l) (length (frame ∷ l) - 1) frame) = slice_get-get_or (frame ∷ l) (length (frame ∷ l) - 1) frame (omega arith) in absurd (cc)

-- ---- the levels of the limit on nesting

opens_level-limit : (frame : Frame) → opens_level frame ≡ limit.opens_level frame
opens_level-limit (f.Paren at) = refl
opens_level-limit (f.Body b) = refl
opens_level-limit _ = refl

pub level_count-limit : (K : List Frame) → level_count K ≡ limit.level_count K
unfolding level_count limit.level_count
level_count-limit [] = refl
level_count-limit (frame ∷ K) = ap (λ b. (if b then 1 else 0) + level_count K) (opens_level-limit frame) ∙ ap (λ n. (if limit.opens_level frame then 1 else 0) + n) (level_count-limit K)
