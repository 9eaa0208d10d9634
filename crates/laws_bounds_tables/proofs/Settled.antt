-- In a kernel that keeps the rules on loops no way along the arrows meets an event twice, so after as many rounds as there are events the table of
-- emissions is settled.
use Rattle.std.proofs.Common.{◌≡◌, refl, sym, ap, subst, ◌∙◌, ℕ, zero, suc, ◌+◌, ◌<◌, ◌≤◌, Bool, true, false, ◌||◌, ◌==◌, ◌⊎◌, inl, inr, List, [], ◌∷◌, map, length, Option, Some, None, arith, eqb-true, eq-eqb}
use Rattle.std.specs.List.{Contains}
use Rattle.std.proofs.lemmas.Bool.{false≢true}
use Rattle.std.proofs.lemmas.List.Elements.{Contains-append_left, Contains-append_right, Contains-append_cases}
use Rattle.ceu_base.specs.declared.kinds.Rule.TheVariants.{B2}
use Rattle.ceu_tree.specs.declared.kernel.Kernel.{Kernel}
use Rattle.ceu_tree.specs.declared.kernel.KEvent.{KEvent}
use Rattle.ceu_tree.specs.Step.{event_code}
use Rattle.ceu_tree.specs.Paths.{passes_from}
use Rattle.ceu_tree.specs.Costs.{cost, nothing, plus, cost_at, paced, woken_block, woken_codes, instances_from, enters_from, emissions}
use Rattle.ceu_paths.specs.Emits.{block_emits}
use Rattle.ceu_paths.specs.Joined.{joined}
use Rattle.ceu_paths.specs.Loops.{TrailLoop}
use Rattle.ceu_bound.specs.declared.graph.Arrow.{Arrow}
use Rattle.ceu_bound.specs.Graph.{arrow, Path, stays, goes, is_member}
use Rattle.ceu_bound.specs.PhaseB.{arrows_from, loop_arrows, all_loops, arrows, KeepsLoopRules}
use Rattle.ceu_bound.specs.Filled.{emitting, entering}
use Rattle.ceu_bound.specs.Waking.{owner}
use Rattle.ceu_bound.proofs.Woken.{emission_at, emission_beyond}
use Rattle.ceu_bound.proofs.InstanceLaws.{split}
use Rattle.laws_bounds_tables.proofs.Woken.{AgreeAfter, emission_wakes}

-- ---- a round that changes nothing where an event leads changes nothing there in the next

module _ (K : Kernel) where
  stage_beyond : (i e : ℕ) → length K.events ≤ e → cost_at e (emissions K i) ≡ nothing
  unfolding emissions
  stage_beyond zero e h = refl
  stage_beyond (suc i) e h = emission_beyond K (passes_from [] K.codes) (emissions K i) (enters_from (passes_from [] K.codes) (emissions K i) [] K.codes) (instances_from K.body 0 K.codes) 0 K.events e h

  stage_at : (i e : ℕ) → e < length K.events →
      cost_at e (emissions K (suc i)) ≡ plus (cost 1 1) (plus (woken_block (passes_from [] K.codes) (emissions K i) (enters_from (passes_from [] K.codes) (emissions K i) [] K.codes) e K.body)
      (woken_codes (passes_from [] K.codes) (emissions K i) (enters_from (passes_from [] K.codes) (emissions K i) [] K.codes) e (owner e K.events) 0 K.codes (instances_from K.body 0 K.codes)))
  unfolding emissions
  stage_at i e h =
      let P = passes_from [] K.codes in
      let E = emissions K i in
      let N = enters_from P E [] K.codes in
      let I = instances_from K.body 0 K.codes in
      emission_at K P E N I 0 K.events e h ∙ ap (λ m. plus (cost 1 1) (plus (woken_block P E N m K.body) (woken_codes P E N m (owner e K.events) 0 K.codes I))) (let same : 0 + e ≡ e = omega arith in same)

  stage_kept : (i e : ℕ) → e < length K.events → AgreeAfter (emissions K i) (emissions K (suc i)) e (all_loops K) → cost_at e (emissions K (suc i)) ≡ cost_at e (emissions K (suc (suc i)))
  stage_kept i e h a =
      let P = passes_from [] K.codes in
      stage_at i e h ∙
      emission_wakes P (emissions K i) (emissions K (suc i)) (enters_from P (emissions K i) [] K.codes) (enters_from P (emissions K (suc i)) [] K.codes) e K (owner e K.events) (instances_from K.body 0 K.codes) a ∙
      sym (stage_at (suc i) e h)

-- ---- arrows

mapped : (e f : ℕ) (fs : List ℕ) → Contains fs f → Contains (map (arrow e) fs) (arrow e f)
mapped e f [] c = absurd (omega (arith, c.1))
mapped e f (x ∷ xs) (zero, below, at) = (zero, omega arith, ap (arrow e) at)
mapped e f (x ∷ xs) (suc k, below, at) = let c = mapped e f xs (k, omega arith, at) in (suc c.0, omega (arith, c.1), c.2)

of_mapped : (e v f : ℕ) (fs : List ℕ) → Contains (map (arrow e) fs) (arrow v f) → (e ≡ v) × Contains fs f
of_mapped e v f [] c = absurd (omega (arith, c.1))
of_mapped e v f (x ∷ xs) (zero, below, at) = (ap (λ (a : Arrow). a.source) at, (zero, omega arith, ap (λ (a : Arrow). a.target) at))
of_mapped e v f (x ∷ xs) (suc k, below, at) = let c = of_mapped e v f xs (k, omega arith, at) in (c.0, (suc c.1.0, omega (arith, c.1.1), c.1.2))

joined_contains : {X Y : Type 0} (f : X → List Y) (xs : List X) (x : X) (y : Y) → Contains xs x → Contains (f x) y → Contains (joined f xs) y
joined_contains f [] x y c d = absurd (omega (arith, c.1))
joined_contains {Y = Y} f (z ∷ xs) x y (zero, below, at) d = Contains-append_left (f z) (joined f xs) y (subst (λ w. Contains (f w) y) (sym at) d)
joined_contains f (z ∷ xs) x y (suc k, below, at) d = Contains-append_right (f z) (joined f xs) y (joined_contains f xs x y (k, omega arith, at) d)

of_joined : {X Y : Type 0} (f : X → List Y) (xs : List X) (y : Y) → Contains (joined f xs) y → (x : X) × Contains xs x × Contains (f x) y
of_joined f [] y c = absurd (omega (arith, c.1))
of_joined {X = X} f (x ∷ xs) y c = elim (Contains-append_cases (f x) (joined f xs) y c) as (λ _. (z : X) × Contains (x ∷ xs) z × Contains (f z) y) [
  | inl here ↦ (x, (0, omega arith, refl), here)
  | inr later ↦ (let d = of_joined f xs y later in (d.0, (suc d.1.0, omega (arith, d.1.1), d.1.2), d.2))
]

module _ (K : Kernel) where
  arrow_there : (l : TrailLoop) (e f : ℕ) → Contains (all_loops K) l → paced l.kind l.body ≡ Some e → Contains (block_emits l.body) f → Contains (arrows K) (arrow e f)
  arrow_there l e f c h d =
      joined_contains loop_arrows (all_loops K) l (arrow e f) c (subst (λ o. Contains (arrows_from o (block_emits l.body)) (arrow e f)) (sym h) (mapped e f (block_emits l.body) d))

  arrow_loop : (e f : ℕ) → Contains (arrows K) (arrow e f) → (l : TrailLoop) × Contains (all_loops K) l × (paced l.kind l.body ≡ Some e) × Contains (block_emits l.body) f
  arrow_loop e f c =
      let d = of_joined loop_arrows (all_loops K) (arrow e f) c in
      let x = paces (paced d.0.kind d.0.body) (block_emits d.0.body) d.2 in
      (d.0, d.1, x.0, x.1)
    where
      paces : (o : Option ℕ) (fs : List ℕ) → Contains (arrows_from o fs) (arrow e f) → (o ≡ Some e) × Contains fs f
      paces None fs h = absurd (omega (arith, h.1))
      paces (Some g) fs h = let z = of_mapped g e f fs h in (ap Some z.0, z.1)

  -- a way of one arrow at least
  record Leads (e g : ℕ) : Type 0 where
    over : ℕ
    first : Contains (arrows K) (arrow e over)
    rest : Path (arrows K) over g

  longer : (e f g : ℕ) → Path (arrows K) e f → Contains (arrows K) (arrow f g) → Path (arrows K) e g
  longer _ _ g (stays e) c = goes e g g c (stays g)
  longer _ _ g (goes e d f a p) c = goes e d g a (longer d f g p c)

  no_way_back : KeepsLoopRules K → (e : ℕ) → Leads e e → ⊥
  no_way_back keeps e way =
      let x = arrow_loop e way.over way.first in
      keeps B2 x.0.pos (record { loop = x.0; within = x.1; place = refl; broken = (e, x.2, way.over, x.3, way.rest) })

-- ---- how many events aren't met yet

abbrev left : Bool → ℕ
left true = 0
left false = 1

unfoldable unmet : List ℕ → ℕ → ℕ
unmet R zero = 0
unmet R (suc n) = left (is_member n R) + unmet R n

all_unmet : (n : ℕ) → unmet [] n ≡ n
unfolding unmet
all_unmet zero = refl
all_unmet (suc n) = omega (arith, all_unmet n)

left_less : (m n : Bool) → left (m || n) ≤ left n
left_less true n = omega arith
left_less false n = omega arith

met_less : (e : ℕ) (R : List ℕ) (n : ℕ) → unmet (e ∷ R) n ≤ unmet R n
unfolding unmet
met_less e R zero = omega arith
met_less e R (suc n) = omega (arith, left_less (e == n) (is_member n R), met_less e R n)

met_falls : (e : ℕ) (R : List ℕ) (n : ℕ) → e < n → is_member e R ≡ false → unmet (e ∷ R) n < unmet R n
unfolding unmet
met_falls e R zero h out = absurd (omega arith)
met_falls e R (suc n) h out = go (e == n) refl (λ below. met_falls e R n below out)
  where
    go : (b : Bool) → (e == n) ≡ b → (e < n → unmet (e ∷ R) n < unmet R n) → left ((e == n) || is_member n R) + unmet (e ∷ R) n < left (is_member n R) + unmet R n
    go true q more =
        let same : e ≡ n = eqb-true e n q in
        let met : ((e == n) || is_member n R) ≡ true = ap (λ b. b || is_member n R) q in
        let not_yet : is_member n R ≡ false = subst (λ m. is_member m R ≡ false) same out in
        omega (arith, ap left met, ap left not_yet, met_less e R n)
    go false q more =
        let other : (e ≡ n → ⊥) = λ same. false≢true (sym q ∙ eq-eqb e n same) in
        let below : e < n = omega (arith, other) in
        omega (arith, left_less (e == n) (is_member n R), more below)

either_true : (m n : Bool) → (m || n) ≡ true → (m ≡ true) ⊎ (n ≡ true)
either_true true n h = inl refl
either_true false n h = inr h

-- ---- the table

module _ (K : Kernel) (keeps : KeepsLoopRules K) where
  -- each of these events leads to that one
  abbrev AllLead : List ℕ → ℕ → Type 0
  AllLead R e = (v : ℕ) → is_member v R ≡ true → Leads K v e

  fresh : (e : ℕ) (R : List ℕ) → AllLead R e → is_member e R ≡ false
  fresh e R ways = go (is_member e R) refl
    where
      go : (b : Bool) → is_member e R ≡ b → is_member e R ≡ false
      go true q = absurd (no_way_back K keeps e (ways e q))
      go false q = q

  further : (e f : ℕ) (R : List ℕ) → AllLead R e → Contains (arrows K) (arrow e f) → AllLead (e ∷ R) f
  further e f R ways c v m = elim (either_true (e == v) (is_member v R) m) as (λ _. Leads K v f) [
    | inl q ↦ subst (λ u. Leads K u f) (eqb-true e v q) (record { over = f; first = c; rest = stays f })
    | inr q ↦ (let way = ways v q in record { over = way.over; first = way.first; rest = longer K way.over e f way.rest c })
  ]

  settled : (i e : ℕ) (R : List ℕ) → unmet R (length K.events) ≤ i → AllLead R e → cost_at e (emissions K i) ≡ cost_at e (emissions K (suc i))
  settled zero e R few ways = elim (split e (length K.events)) as (λ _. cost_at e (emissions K zero) ≡ cost_at e (emissions K (suc zero))) [
    | inl known ↦ absurd (let falls = met_falls e R (length K.events) known (fresh e R ways) in omega arith)
    | inr beyond ↦ stage_beyond K zero e beyond ∙ sym (stage_beyond K (suc zero) e beyond)
  ]
  settled (suc i) e R few ways = elim (split e (length K.events)) as (λ _. cost_at e (emissions K (suc i)) ≡ cost_at e (emissions K (suc (suc i)))) [
    | inl known ↦ (let falls = met_falls e R (length K.events) known (fresh e R ways) in stage_kept K i e known (λ l c paces f d. settled i f (e ∷ R) (omega arith) (further e f R ways (arrow_there K l e f c paces d))))
    | inr beyond ↦ stage_beyond K (suc i) e beyond ∙ sym (stage_beyond K (suc (suc i)) e beyond)
  ]

same_owner : (e : ℕ) (es : List KEvent) → owner e es ≡ event_code e es
same_owner e [] = refl
same_owner zero (x ∷ xs) = refl
same_owner (suc e) (x ∷ xs) = same_owner e xs

pub still : (K : Kernel) → KeepsLoopRules K → (e : ℕ) → cost_at e (emitting K) ≡ cost_at e (emissions K (suc (length K.events)))
still K keeps e = settled K keeps (length K.events) e [] (let all = all_unmet (length K.events) in omega arith) (λ v m. absurd (false≢true m))

pub emissions_settle : (K : Kernel) (e : ℕ) → KeepsLoopRules K → e < length K.events →
    cost_at e (emitting K) ≡ plus (cost 1 1) (plus (woken_block (passes_from [] K.codes) (emitting K) (entering K) e K.body)
    (woken_codes (passes_from [] K.codes) (emitting K) (entering K) e (event_code e K.events) 0 K.codes (instances_from K.body 0 K.codes)))
emissions_settle K e keeps h =
    still K keeps e ∙ stage_at K (length K.events) e h ∙
    ap (λ own. plus (cost 1 1) (plus (woken_block (passes_from [] K.codes) (emitting K) (entering K) e K.body) (woken_codes (passes_from [] K.codes) (emitting K) (entering K) e own 0 K.codes (instances_from K.body 0 K.codes))))
    (same_owner e K.events)
