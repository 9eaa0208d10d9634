-- How pieces are added to a sheet one after the other.
use Rattle.std.proofs.Common.{◌≡◌, ℕ, suc, ◌+◌, ◌<◌, ◌≤◌, Bool, true, false, ◌&&◌, List, [], ◌∷◌, ◌++◌, length, refl, sym, ap, subst, ◌∙◌, arith, append_assoc, if◌then◌else◌}
use Rattle.std.specs.Prelude.{nat_eq}
use Rattle.std.proofs.lemmas.Bool.{eq-eqb}
use Rattle.std.proofs.lemmas.List.{append-nil}
use Rattle.ceu_base.specs.declared.kinds.Pos.{Pos}
use Rattle.ceu_asm.specs.declared.line.Line.{Line}
use Rattle.ceu_asm.specs.Pages.{Page}
use Rattle.ceu_asm.specs.Places.{same_place, number_of, with_place}
use Rattle.ceu_shape.specs.Pieces.{Piece, Draft, Stop, with_places, numbered, both, nothing, text, stopping, placed, placed_stopping, taking, Added}

-- ---- numbers of positions stay

same_itself : (p : Pos) → same_place p p ≡ true
same_itself p = go (nat_eq p.line p.line) (nat_eq p.col p.col) (eq-eqb p.line p.line refl) (eq-eqb p.col p.col refl)
  where
    go : (a b : Bool) → a ≡ true → b ≡ true → (a && b) ≡ true
    go true true e f = refl
    go true false e f = f
    go false b e f = e

-- the position is in the list
abbrev Holds : Pos → List Pos → Type 0
Holds p ps = number_of p ps < length ps

placed_itself : (p : Pos) (ps : List Pos) → (number_of p (with_place p ps) ≡ number_of p ps) × Holds p (with_place p ps)
placed_itself p [] = rw (same_itself p) (refl, omega arith)
placed_itself p (q ∷ qs) = go (same_place q p) (placed_itself p qs)
  where
    go : (b : Bool) → (number_of p (with_place p qs) ≡ number_of p qs) × Holds p (with_place p qs) →
        ((if b then 0 else (number_of p (if b then qs else with_place p qs) + 1)) ≡ (if b then 0 else (number_of p qs + 1)))
        × ((if b then 0 else (number_of p (if b then qs else with_place p qs) + 1)) < suc (length (if b then qs else with_place p qs)))
    go true h = (refl, omega arith)
    go false h = (omega arith, omega arith)

placed_other : (p q : Pos) (ps : List Pos) → Holds p ps → (number_of p (with_place q ps) ≡ number_of p ps) × Holds p (with_place q ps)
placed_other p q [] h = absurd (omega arith)
placed_other p q (r ∷ rs) h = go (same_place r p) (same_place r q) h (placed_other p q rs)
  where
    go : (a b : Bool) → (if a then 0 else (number_of p rs + 1)) < suc (length rs) → (Holds p rs → (number_of p (with_place q rs) ≡ number_of p rs) × Holds p (with_place q rs)) →
        ((if a then 0 else (number_of p (if b then rs else with_place q rs) + 1)) ≡ (if a then 0 else (number_of p rs + 1)))
        × ((if a then 0 else (number_of p (if b then rs else with_place q rs) + 1)) < suc (length (if b then rs else with_place q rs)))
    go true true h rest = (refl, omega arith)
    go true false h rest = (refl, omega arith)
    go false true h rest = (refl, omega arith)
    go false false h rest = let r = rest (omega arith) in (omega (arith, r.0), omega (arith, r.1))

placed_more : (p : Pos) (later ps : List Pos) → Holds p ps → number_of p (with_places later ps) ≡ number_of p ps
placed_more p [] ps h = refl
placed_more p (q ∷ qs) ps h = let s = placed_other p q ps h in placed_more p qs (with_place q ps) s.1 ∙ s.0

pub number_kept : (p : Pos) (later ps : List Pos) → number_of p (with_places later (with_place p ps)) ≡ number_of p ps
number_kept p later ps = let s = placed_itself p ps in placed_more p later (with_place p ps) s.1 ∙ s.0

pub with_places_append : (a b ps : List Pos) → with_places (a ++ b) ps ≡ with_places b (with_places a ps)
with_places_append [] b ps = refl
with_places_append (p ∷ a) b ps = with_places_append a b (with_place p ps)

-- ---- pieces

pub added_text : (old new : Page) (ls : List Line) → new ≡ record old { lines = old.lines ++ ls } → Added old new (text ls)
added_text old new ls e = subst (λ (n : Page). Added old n (text ls)) (sym e) (record { labels = refl; places = refl; lines = λ later. refl })

pub added_stopping : (old new : Page) (stops : List Stop) (ls : List Line) → new ≡ record old { lines = old.lines ++ ls } → Added old new (stopping stops ls)
added_stopping old new stops ls e = subst (λ (n : Page). Added old n (stopping stops ls)) (sym e) (record { labels = refl; places = refl; lines = λ later. refl })

pub added_nothing : (old : Page) → Added old old nothing
added_nothing old = record { labels = refl; places = refl; lines = λ later. sym (append-nil old.lines) }

pub added_both : (old mid new : Page) (a b : Draft) → Added old mid a → Added mid new b → Added old new (both a b)
added_both old mid new a b f g =
    let h : Added mid new b = g in
    let next : mid.labels ≡ (a old.labels).next = f.labels in
    let labels : new.labels ≡ (b (a old.labels).next).next = subst (λ (n : ℕ). new.labels ≡ (b n).next) next g.labels in
    let placing : new.places ≡ with_places (b (a old.labels).next).noted mid.places = subst (λ (n : ℕ). new.places ≡ with_places (b n).noted mid.places) next g.places in
    let places : new.places ≡ with_places ((a old.labels).noted ++ (b (a old.labels).next).noted) old.places =
    placing ∙ ap (with_places (b (a old.labels).next).noted) f.places ∙ sym (with_places_append (a old.labels).noted (b (a old.labels).next).noted old.places) in
    record {
      labels = labels;
      places = places;
      lines = λ later.
          let now = with_places later new.places in
          let more : with_places ((b (a old.labels).next).noted ++ later) mid.places ≡ now =
          with_places_append (b (a old.labels).next).noted later mid.places ∙ ap (with_places later) (sym placing) in
          let first : mid.lines ≡ old.lines ++ (a old.labels).lines (numbered now) =
          subst (λ (ps : List Pos). mid.lines ≡ old.lines ++ (a old.labels).lines (numbered ps)) more (f.lines ((b (a old.labels).next).noted ++ later)) in
          let second : new.lines ≡ mid.lines ++ (b (a old.labels).next).lines (numbered now) =
          subst (λ (n : ℕ). new.lines ≡ mid.lines ++ (b n).lines (numbered now)) next (g.lines later) in
          second ∙ ap (λ (ls : List Line). ls ++ (b (a old.labels).next).lines (numbered now)) first
          ∙ append_assoc old.lines ((a old.labels).lines (numbered now)) ((b (a old.labels).next).lines (numbered now));
    }

pub added_placed : (old mid new : Page) (p : Pos) (f : ℕ → List Line) (n : ℕ) → n ≡ number_of p old.places → mid ≡ record old { places = with_place p old.places } →
    new ≡ record mid { lines = mid.lines ++ f n } → Added old new (placed p f)
added_placed old mid new p f n number there e =
    let whole : new ≡ record { lines = old.lines ++ f (number_of p old.places); labels = old.labels; places = with_place p old.places } =
    e ∙ ap (λ (k : ℕ). record mid { lines = mid.lines ++ f k }) number ∙ ap (λ (m : Page). record m { lines = m.lines ++ f (number_of p old.places) }) there in
    subst (λ (m : Page). Added old m (placed p f)) (sym whole) (record {
      labels = refl;
      places = refl;
      lines = λ later. ap (λ (k : ℕ). old.lines ++ f k) (sym (number_kept p later old.places));
    })

-- places in the code change nothing
pub added_placed_stopping : (old new : Page) (stops : List Stop) (p : Pos) (f : ℕ → List Line) → Added old new (placed p f) → Added old new (placed_stopping stops p f)
added_placed_stopping old new stops p f h = record { labels = h.labels; places = h.places; lines = h.lines }

pub added_taking : (old mid new : Page) (count : ℕ) (f : ℕ → Draft) → mid ≡ record old { labels = old.labels + count } → Added mid new (f old.labels) → Added old new (taking count f)
added_taking old mid new count f e h =
    let g : Added (record old { labels = old.labels + count }) new (f old.labels) = subst (λ (m : Page). Added m new (f old.labels)) e h in
    record { labels = g.labels; places = g.places; lines = g.lines }

placed_one : (p : Pos) (ps : List Pos) → length (with_place p ps) ≤ suc (length ps)
placed_one p [] = omega arith
placed_one p (q ∷ qs) = go (same_place q p) (placed_one p qs)
  where
    go : (b : Bool) → length (with_place p qs) ≤ suc (length qs) → suc (length (if b then qs else with_place p qs)) ≤ suc (suc (length qs))
    go true h = omega arith
    go false h = omega arith

pub placed_length : (ps places : List Pos) → length (with_places ps places) ≤ length places + length ps
placed_length [] places = omega arith
placed_length (p ∷ ps) places = omega (arith, placed_one p places, placed_length ps (with_place p places))
