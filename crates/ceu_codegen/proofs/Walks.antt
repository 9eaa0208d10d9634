-- Walks over lists that add to a sheet: what is added so far, and the rest, are the whole.
use Rattle.std.proofs.Common.{◌≡◌, refl, sym, ap, subst, ◌∙◌, ℕ, zero, suc, ◌+◌, ◌*◌, ◌<◌, ◌≤◌, List, [], ◌∷◌, ◌++◌, length, drop, get_or, arith, add-one, append_assoc, Result, Ok, Err, OnOk}
use Rattle.std.proofs.Math.Seq.{drop-cons}
use Rattle.ceu_tree.specs.Greatest.{total}
use Rattle.ceu_base.specs.declared.kinds.Pos.{Pos}
use Rattle.ceu_asm.specs.declared.line.Line.{Line}
use Rattle.ceu_asm.specs.Pages.{Page}
use Rattle.ceu_shape.specs.Pieces.{Draft, Added, both, nothing}
use Rattle.ceu_shape.proofs.Adding.{added_nothing, added_both, placed_length}
use Rattle.ceu_shape.proofs.Expressed.{IsSmall}
use Rattle.ceu_low_expr.specs.Conditions.{HasRoom}

pub on_ok : {T E A B : Type 0} → (r : Result T E) → (A → B) → OnOk r A → OnOk r B
on_ok (Ok v) f h = f h
on_ok (Err e) f h = h

-- ---- the item at a place of a list, and the rest

pub item : {A : Type 0} (xs : List A) (i : ℕ) (x : A) → x ≡ get_or xs i x → i < length xs → drop i xs ≡ x ∷ drop (i + 1) xs
item xs i x e below = drop-cons xs i x below ∙ ap (λ y. y ∷ drop (suc i) xs) (sym e) ∙ ap (λ (n : ℕ). x ∷ drop n xs) (sym (add-one i))

pub over : {A : Type 0} (xs : List A) (i : ℕ) → length xs ≤ i → drop i xs ≡ []
over [] zero h = refl
over [] (suc i) h = refl
over (x ∷ xs) zero h = absurd (omega arith)
over (x ∷ xs) (suc i) h = over xs i (omega arith)

-- what the item and the rest take
pub total_item : {A : Type 0} (f : A → ℕ) (xs : List A) (i : ℕ) (x : A) → x ≡ get_or xs i x → i < length xs → total f (drop i xs) ≡ f x + total f (drop (i + 1) xs)
total_item f xs i x e below = ap (total f) (item xs i x e below)

-- ---- pieces

pub drafted : (old new : Page) (d e : Draft) → e ≡ d → Added old new d → Added old new e
drafted old new d e is h = subst (λ (f : Draft). Added old new f) (sym is) h

pub walked : {A : Type 0} (here later : List A → Draft) (one whole : Draft) (xs : List A) (i : ℕ) (x : A) (old mid next : Page) → x ≡ get_or xs i x → i < length xs →
    here (x ∷ drop (i + 1) xs) ≡ both one (later (drop (i + 1) xs)) → ((new : Page) → Added mid new (here (drop i xs)) → Added old new whole) → Added mid next one →
    (new : Page) → Added next new (later (drop (i + 1) xs)) → Added old new whole
walked here later one whole xs i x old mid next is below e before added new behind =
    before new (drafted mid new (both one (later (drop (i + 1) xs))) (here (drop i xs)) (ap here (item xs i x is below) ∙ e)
    (added_both mid next new one (later (drop (i + 1) xs)) added behind))

pub arrived : {A : Type 0} (here : List A → Draft) (whole : Draft) (xs : List A) (i : ℕ) (old mid : Page) → length xs ≤ i → here [] ≡ nothing →
    ((new : Page) → Added mid new (here (drop i xs)) → Added old new whole) → Added old mid whole
arrived here whole xs i old mid end e before = before mid (drafted mid mid nothing (here (drop i xs)) (ap here (over xs i end) ∙ e) (added_nothing mid))

-- ---- lines

abbrev pub with_lines : Page → List Line → Page
with_lines page ls = record page { lines = ls }

pub lines_walked : (all mid next : Page) (own rest : List Line) → all ≡ with_lines mid (mid.lines ++ (own ++ rest)) → next ≡ with_lines mid (mid.lines ++ own) → all ≡ with_lines next (next.lines ++ rest)
lines_walked all mid next own rest h e =
    h ∙ ap (with_lines mid) (sym (append_assoc mid.lines own rest)) ∙ ap (λ (p : Page). with_lines p (p.lines ++ rest)) (sym e)

pub lined_both : (old mid new : Page) (a b : List Line) → mid ≡ with_lines old (old.lines ++ a) → new ≡ with_lines mid (mid.lines ++ b) → new ≡ with_lines old (old.lines ++ (a ++ b))
lined_both old mid new a b f g = g ∙ ap (λ (p : Page). with_lines p (p.lines ++ b)) f ∙ ap (with_lines old) (append_assoc old.lines a b)

-- ---- room

pub room_less : (page : Page) (m n : ℕ) → m ≤ n → HasRoom page n → HasRoom page m
room_less page m n h r = record { labels = omega (arith, r.labels); places = omega (arith, r.places) }

-- behind a piece
pub room_after : (old new : Page) (d : Draft) (m n all : ℕ) → m + n ≤ all → IsSmall d m → Added old new d → HasRoom old all → HasRoom new n
room_after old new d m n all le small a r =
    let next = small.labels old.labels in
    let some = small.positions old.labels in
    let grown = ap (length {A = Pos}) a.places in
    let places = placed_length (d old.labels).noted old.places in
    record { labels = omega (arith, a.labels, next, r.labels, le); places = omega (arith, grown, places, some, r.places, le) }

-- behind lines
pub room_lined : (old new : Page) (ls : List Line) (n : ℕ) → new ≡ with_lines old (old.lines ++ ls) → HasRoom old n → HasRoom new n
room_lined old new ls n e r = subst (λ (p : Page). HasRoom p n) (sym e) (record { labels = r.labels; places = r.places })

-- behind so many labels, two for each of so many expressions
pub room_taken : (old new : Page) (count m n : ℕ) → count + n ≤ m → new ≡ record old { labels = old.labels + 2 * count } → HasRoom old m → HasRoom new n
room_taken old new count m n le e r = subst (λ (p : Page). HasRoom p n) (sym e) (record { labels = omega (arith, r.labels, le); places = omega (arith, r.places, le) })
