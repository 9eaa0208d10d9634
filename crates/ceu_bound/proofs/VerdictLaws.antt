-- The verdict on a loop by its bound, its event and its exits, and the first of several verdicts.
use Rattle.std.proofs.Common.{◌≡◌, refl, sym, ap, subst, ◌∙◌, ℕ, zero, suc, ◌+◌, ◌<◌, ◌≤◌, Bool, true, false, if◌then◌else◌, ◌==◌, inl, inr, List, [], ◌∷◌, ◌++◌, map, length, take, get_or, add-one, arith}
use Rattle.std.specs.Prelude.{Option, Some, None, option_map, nat_le, nat_lt}
use Rattle.std.specs.List.{Contains}
use Rattle.std.proofs.lemmas.List.Elements.{Contains-push, Contains-push_cases, Contains-append_left}
use Rattle.ceu_base.specs.declared.kinds.Pos.{Pos}
use Rattle.ceu_base.specs.declared.kinds.Rule.{Rule}
use Rattle.ceu_base.specs.declared.kinds.Rule.TheVariants.{B1, B2, B3}
use Rattle.ceu_tree.specs.declared.kernel.KLoop.{KLoop}
use Rattle.ceu_tree.specs.declared.kernel.KBlock.{KBlock}
use Rattle.ceu_tree.specs.Paths.{constant_bound}
use Rattle.ceu_tree.specs.Costs.{paced, paced_body}
use Rattle.ceu_paths.specs.Cap.{cap}
use Rattle.ceu_paths.specs.Loops.{TrailLoop}
use Rattle.ceu_paths.specs.Emits.{block_emits}
use Rattle.ceu_paths.specs.Found.{seen}
use Rattle.ceu_paths.specs.declared.loops.FoundLoop.{FoundLoop}
use Rattle.ceu_bound.specs.declared.graph.Arrow.{Arrow}
use Rattle.ceu_bound.specs.declared.verdict.Broken.{Broken}
use Rattle.ceu_bound.specs.Graph.{Path}
use Rattle.ceu_bound.specs.PhaseB.{LoopBreaks, NotAfter, rank, goes_round}
use Rattle.ceu_bound.specs.Verdict.{broken_at, IsVerdict, BreaksAmong, IsFirstOf, is_not_after, is_behind, earlier}

-- ---- one loop

pub bound_of : (p : Option ℕ) (t : ℕ) → Some t ≡ option_map cap p → (n : ℕ) × (p ≡ Some n) × (t ≡ cap n)
bound_of None t h = absurd (cc)
bound_of (Some n) t h = (n, refl, cc)

pub unbound_of : (p : Option ℕ) → None ≡ option_map cap p → p ≡ None
unbound_of None h = refl
unbound_of (Some n) h = absurd (cc)

bounded_paces : (p q : Option ℕ) (n : ℕ) → p ≡ Some n → (if (elim p as (λ _. Bool) [ None ↦ true | Some m ↦ false ]) then q else None) ≡ None
bounded_paces None q n h = absurd (cc)
bounded_paces (Some m) q n h = refl

-- a loop with a constant bound isn't paced
pub bounded_unpaced : (k : KLoop) (b : KBlock) (n : ℕ) → constant_bound k ≡ Some n → paced k b ≡ None
bounded_unpaced k b n h = bounded_paces (constant_bound k) (paced_body b) n h

module _ (P : List Bool) (A : List Arrow) (l : TrailLoop) where
  pub long_verdict : (n : ℕ) → constant_bound l.kind ≡ Some n → 65536 < n → IsVerdict P A l (Some B3)
  long_verdict n h over = ((n, h, over), only)
    where
      only : (s : Rule) → LoopBreaks P A l s → s ≡ B3
      only B1 broken = absurd (let no : None ≡ Some n = sym broken.0 ∙ h in cc)
      only B2 broken = absurd (let no : None ≡ Some broken.0 = sym (bounded_unpaced l.kind l.body n h) ∙ broken.1 in cc)
      only B3 broken = refl
      only _ broken = absurd broken

  pub short_verdict : (n : ℕ) → constant_bound l.kind ≡ Some n → n ≤ 65536 → IsVerdict P A l None
  short_verdict n h within = none
    where
      none : (s : Rule) → LoopBreaks P A l s → ⊥
      none B1 broken = let no : None ≡ Some n = sym broken.0 ∙ h in cc
      none B2 broken = let no : None ≡ Some broken.0 = sym (bounded_unpaced l.kind l.body n h) ∙ broken.1 in cc
      none B3 broken = let same : Some n ≡ Some broken.0 = sym h ∙ broken.1 in let equal : n ≡ broken.0 = cc in omega (arith, equal, broken.2)
      none _ broken = broken

  pub cyclic_verdict : (e : ℕ) → constant_bound l.kind ≡ None → paced l.kind l.body ≡ Some e → ((f : ℕ) × Contains (block_emits l.body) f × Path A f e) → IsVerdict P A l (Some B2)
  cyclic_verdict e h paces way = ((e, paces, way.0, way.1, way.2), only)
    where
      only : (s : Rule) → LoopBreaks P A l s → s ≡ B2
      only B1 broken = absurd (let no : None ≡ Some e = sym broken.1 ∙ paces in cc)
      only B2 broken = refl
      only B3 broken = absurd (let no : None ≡ Some broken.0 = sym h ∙ broken.1 in cc)
      only _ broken = absurd broken

  pub paced_verdict : (e : ℕ) → constant_bound l.kind ≡ None → paced l.kind l.body ≡ Some e → ((f : ℕ) → Contains (block_emits l.body) f → Path A f e → ⊥) → IsVerdict P A l None
  paced_verdict e h paces away = none
    where
      none : (s : Rule) → LoopBreaks P A l s → ⊥
      none B1 broken = let no : None ≡ Some e = sym broken.1 ∙ paces in cc
      none B2 broken = let same : Some e ≡ Some broken.0 = sym paces ∙ broken.1 in let equal : broken.0 ≡ e = cc in let Q : ℕ → Type 0 = λ n. Path A broken.2 n in away broken.2 broken.3 (subst Q equal broken.4)
      none B3 broken = let no : None ≡ Some broken.0 = sym h ∙ broken.1 in cc
      none _ broken = broken

  pub round_verdict : constant_bound l.kind ≡ None → paced l.kind l.body ≡ None → goes_round P l ≡ true → IsVerdict P A l (Some B1)
  round_verdict h unpaced again = ((h, unpaced, again), only)
    where
      only : (s : Rule) → LoopBreaks P A l s → s ≡ B1
      only B1 broken = refl
      only B2 broken = absurd (let no : None ≡ Some broken.0 = sym unpaced ∙ broken.1 in cc)
      only B3 broken = absurd (let no : None ≡ Some broken.0 = sym h ∙ broken.1 in cc)
      only _ broken = absurd broken

  pub stopping_verdict : constant_bound l.kind ≡ None → paced l.kind l.body ≡ None → goes_round P l ≡ false → IsVerdict P A l None
  stopping_verdict h unpaced never = none
    where
      none : (s : Rule) → LoopBreaks P A l s → ⊥
      none B1 broken = let no : false ≡ true = sym never ∙ broken.2 in cc
      none B2 broken = let no : None ≡ Some broken.0 = sym unpaced ∙ broken.1 in cc
      none B3 broken = let no : None ≡ Some broken.0 = sym h ∙ broken.1 in cc
      none _ broken = broken

-- ---- the first

no_number : (x y : ℕ) → (x == y) ≡ false → x ≡ y → ⊥
no_number x y h e = absurd (grind (arith, h, e))

number : (x y : ℕ) → (x == y) ≡ true → x ≡ y
number x y h = grind (arith, h)

by_number : (a b : Broken) (t : Bool) → nat_le (rank a.rule) (rank b.rule) ≡ t → a.pos.line ≡ b.pos.line → a.pos.col ≡ b.pos.col → (t ≡ true → NotAfter a.pos a.rule b.pos b.rule) × (t ≡ false → NotAfter b.pos b.rule a.pos a.rule)
by_number a b t h line col = (
  λ yes. let le : rank a.rule ≤ rank b.rule = grind (arith, h, yes) in record { line = omega (arith, line); col = λ e. omega (arith, col); number = λ e f. le },
  λ no. let lt : rank b.rule < rank a.rule = grind (arith, h, no) in record { line = omega (arith, line); col = λ e. omega (arith, col); number = λ e f. omega (arith, lt) },
)

by_col : (a b : Broken) (t : Bool) → nat_lt a.pos.col b.pos.col ≡ t → a.pos.line ≡ b.pos.line → (a.pos.col ≡ b.pos.col → ⊥) → (t ≡ true → NotAfter a.pos a.rule b.pos b.rule) × (t ≡ false → NotAfter b.pos b.rule a.pos a.rule)
by_col a b t h line other = (
  λ yes. let lt : a.pos.col < b.pos.col = grind (arith, h, yes) in record { line = omega (arith, line); col = λ e. omega (arith, lt); number = λ e f. absurd (other f) },
  λ no. let le : b.pos.col ≤ a.pos.col = grind (arith, h, no) in record { line = omega (arith, line); col = λ e. le; number = λ e f. absurd (other (sym f)) },
)

by_line : (a b : Broken) (t : Bool) → nat_lt a.pos.line b.pos.line ≡ t → (a.pos.line ≡ b.pos.line → ⊥) → (t ≡ true → NotAfter a.pos a.rule b.pos b.rule) × (t ≡ false → NotAfter b.pos b.rule a.pos a.rule)
by_line a b t h other = (
  λ yes. let lt : a.pos.line < b.pos.line = grind (arith, h, yes) in record { line = omega (arith, lt); col = λ e. absurd (other e); number = λ e f. absurd (other e) },
  λ no. let le : b.pos.line ≤ a.pos.line = grind (arith, h, no) in record { line = le; col = λ e. absurd (other (sym e)); number = λ e f. absurd (other (sym e)) },
)

abbrev Ordered : Broken → Broken → Bool → Type 0
Ordered a b t = (t ≡ true → NotAfter a.pos a.rule b.pos b.rule) × (t ≡ false → NotAfter b.pos b.rule a.pos a.rule)

by_cols : (a b : Broken) (t : Bool) → (a.pos.col == b.pos.col) ≡ t → a.pos.line ≡ b.pos.line → Ordered a b (if t then nat_le (rank a.rule) (rank b.rule) else nat_lt a.pos.col b.pos.col)
by_cols a b true h line = by_number a b (nat_le (rank a.rule) (rank b.rule)) refl line (number a.pos.col b.pos.col h)
by_cols a b false h line = by_col a b (nat_lt a.pos.col b.pos.col) refl line (no_number a.pos.col b.pos.col h)

by_lines : (a b : Broken) (t : Bool) → (a.pos.line == b.pos.line) ≡ t →
    Ordered a b (if t then (if a.pos.col == b.pos.col then nat_le (rank a.rule) (rank b.rule) else nat_lt a.pos.col b.pos.col) else nat_lt a.pos.line b.pos.line)
by_lines a b true h = by_cols a b (a.pos.col == b.pos.col) refl (number a.pos.line b.pos.line h)
by_lines a b false h = by_line a b (nat_lt a.pos.line b.pos.line) refl (no_number a.pos.line b.pos.line h)

ordered : (a b : Broken) → Ordered a b (is_not_after a b)
ordered a b = by_lines a b (a.pos.line == b.pos.line) refl

itself : (p : Pos) (r : Rule) → NotAfter p r p r
itself p r = record { line = omega arith; col = λ e. omega arith; number = λ e f. omega arith }

pub after_trans : (p q u : Pos) (r s v : Rule) → NotAfter p r q s → NotAfter q s u v → NotAfter p r u v
after_trans p q u r s v x y = record {
  line = omega (arith, x.line, y.line);
  col = λ e.
      let a : p.line ≡ q.line = omega (arith, x.line, y.line, e) in
      let b : q.line ≡ u.line = omega (arith, x.line, y.line, e) in
      omega (arith, x.col a, y.col b);
  number = λ e f.
      let a : p.line ≡ q.line = omega (arith, x.line, y.line, e) in
      let b : q.line ≡ u.line = omega (arith, x.line, y.line, e) in
      let c : p.col ≡ q.col = omega (arith, x.col a, y.col b, f) in
      let d : q.col ≡ u.col = omega (arith, x.col a, y.col b, f) in
      omega (arith, x.number a c, y.number b d);
}

behind_at : (b : Broken) (p : Pos) (s : Rule) (t : Bool) → (b.pos.line == p.line) ≡ t → (if t then nat_lt b.pos.col p.col else nat_lt b.pos.line p.line) ≡ true → NotAfter b.pos b.rule p s
behind_at b p s true e h =
    let lt : b.pos.col < p.col = grind (arith, h) in
    let line = number b.pos.line p.line e in
    record { line = omega (arith, line); col = λ e. omega (arith, lt); number = λ e f. absurd (omega (arith, lt, f)) }
behind_at b p s false e h =
    let lt : b.pos.line < p.line = grind (arith, h) in
    record { line = omega (arith, lt); col = λ e. absurd (omega (arith, lt, e)); number = λ e f. absurd (omega (arith, lt, e)) }

behind : (b : Broken) (p : Pos) (s : Rule) → is_behind (Some b) p ≡ true → NotAfter b.pos b.rule p s
behind b p s h = behind_at b p s (b.pos.line == p.line) refl h

module _ (P : List Bool) (A : List Arrow) (ls : List TrailLoop) (l : TrailLoop) where
  moved : (m : TrailLoop) (s : Rule) → l ≡ m → LoopBreaks P A m s → LoopBreaks P A l s
  moved m s e broken = let Q : TrailLoop → Type 0 = λ k. LoopBreaks P A k s in subst Q (sym e) broken

  own : (m : TrailLoop) (r s : Rule) → l ≡ m → s ≡ r → NotAfter l.pos r m.pos s
  own m r s e same =
      let Q : TrailLoop → Type 0 = λ k. NotAfter l.pos r k.pos s in
      let R : Rule → Type 0 = λ q. NotAfter l.pos r l.pos q in
      subst Q e (subst R (sym same) (itself l.pos r))

  kept : (b : Broken) → BreaksAmong P A ls b → BreaksAmong P A (ls ++ l ∷ []) b
  kept b found = (found.0, Contains-append_left ls (l ∷ []) found.0 found.1, found.2, found.3)

  chosen : (b : Broken) (r : Rule) (t : Bool) → Ordered b (broken_at l.pos r) t → IsFirstOf P A ls (Some b) → IsVerdict P A l (Some r) → IsFirstOf P A (ls ++ l ∷ []) (if t then Some b else Some (broken_at l.pos r))
  chosen b r true order first verdict = (
    kept b first.0,
    λ m c s broken. elim (Contains-push_cases ls l m c) as (λ _. NotAfter b.pos b.rule m.pos s) [
      | inl within ↦ first.1 m within s broken
      | inr e ↦ after_trans b.pos l.pos m.pos b.rule r s (order.0 refl) (own m r s e (verdict.1 s (moved m s e broken)))
    ],
  )
  chosen b r false order first verdict = (
    (l, Contains-push ls l, refl, verdict.0),
    λ m c s broken. elim (Contains-push_cases ls l m c) as (λ _. NotAfter l.pos r m.pos s) [
      | inl within ↦ after_trans l.pos b.pos m.pos r b.rule s (order.1 refl) (first.1 m within s broken)
      | inr e ↦ own m r s e (verdict.1 s (moved m s e broken))
    ],
  )

  pub first_more : (f : Option Broken) (v : Option Rule) → IsFirstOf P A ls f → IsVerdict P A l v → IsFirstOf P A (ls ++ l ∷ []) (earlier f l.pos v)
  first_more None None first verdict = λ m c s broken. elim (Contains-push_cases ls l m c) as (λ _. ⊥) [ inl within ↦ first m within s broken | inr e ↦ verdict s (moved m s e broken) ]
  first_more (Some b) None first verdict = (
    kept b first.0,
    λ m c s broken. elim (Contains-push_cases ls l m c) as (λ _. NotAfter b.pos b.rule m.pos s) [ inl within ↦ first.1 m within s broken | inr e ↦ absurd (verdict s (moved m s e broken)) ],
  )
  first_more None (Some r) first verdict = (
    (l, Contains-push ls l, refl, verdict.0),
    λ m c s broken. elim (Contains-push_cases ls l m c) as (λ _. NotAfter l.pos r m.pos s) [ inl within ↦ absurd (first m within s broken) | inr e ↦ own m r s e (verdict.1 s (moved m s e broken)) ],
  )
  first_more (Some b) (Some r) first verdict = chosen b r (is_not_after b (broken_at l.pos r)) (ordered b (broken_at l.pos r)) first verdict

  -- a loop behind the first break changes nothing
  pub first_kept : (f : Option Broken) → is_behind f l.pos ≡ true → IsFirstOf P A ls f → IsFirstOf P A (ls ++ l ∷ []) f
  first_kept None h first = absurd (cc)
  first_kept (Some b) h first = (
    kept b first.0,
    λ m c s broken. elim (Contains-push_cases ls l m c) as (λ _. NotAfter b.pos b.rule m.pos s) [
      | inl within ↦ first.1 m within s broken
      | inr e ↦ (let Q : TrailLoop → Type 0 = λ k. NotAfter b.pos b.rule k.pos s in subst Q e (behind b l.pos s h))
    ],
  )

pub first_none : (P : List Bool) (A : List Arrow) → IsFirstOf P A [] None
first_none P A = λ l c r broken. omega (arith, c.1)

pub seen_take : (ls : List FoundLoop) (i : ℕ) (d : FoundLoop) → i < length ls → map seen (take (i + 1) ls) ≡ map seen (take i ls) ++ seen (get_or ls i d) ∷ []
seen_take [] i d h = absurd (omega arith)
seen_take (x ∷ xs) zero d h = refl
seen_take (x ∷ xs) (suc i) d h = rw add-one (ap (λ k. seen x ∷ k) (rw add-one at (seen_take xs i d (omega arith))))
