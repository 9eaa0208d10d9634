-- The wakings of loops, and lists of them with one more.
use Rattle.std.proofs.Common.{◌≡◌, refl, sym, ap, ◌∙◌, ℕ, zero, suc, ◌+◌, ◌-◌, ◌*◌, ◌<◌, ◌≤◌, Bool, true, false, if◌then◌else◌, ◌==◌, List, [], ◌∷◌, ◌++◌, map, length, take, drop, get_or, add-one, arith}
use Rattle.std.specs.Prelude.{Some, None, replicate}
use Rattle.ceu_tree.specs.declared.kernel.KEvent.{KEvent}
use Rattle.ceu_tree.specs.declared.kernel.KCode.{KCode}
use Rattle.ceu_tree.specs.declared.kernel.KBlock.{out-KBlock}
use Rattle.ceu_tree.specs.Greatest.{total}
use Rattle.ceu_tree.specs.Costs.{paced, is_event}
use Rattle.ceu_paths.specs.declared.loops.FoundLoop.{FoundLoop}
use Rattle.ceu_paths.specs.Cap.{cap}
use Rattle.ceu_paths.specs.Loops.{TrailLoop}
use Rattle.ceu_paths.specs.Found.{seen}
use Rattle.ceu_bound.specs.declared.emissions.Wake.{Wake}
use Rattle.ceu_bound.specs.declared.tables.Tables.{Tables}
use Rattle.ceu_bound.specs.Parts.{turn}
use Rattle.ceu_bound.specs.Measured.{enter_list}
use Rattle.ceu_bound.specs.Waking.{owner, copies, loop_cost, wake_cost, body_cost, codes_cost}
use Rattle.ceu_bound.proofs.GraphLaws.{same_number}
use Rattle.ceu_bound.proofs.Woken.{total_append}
use Rattle.ceu_bound.proofs.CodeTables.{take_end}

pub owner_within : (es : List KEvent) (e : ℕ) (d : KEvent) → e < length es → owner e es ≡ (get_or es e d).code
owner_within [] e d h = absurd (omega arith)
owner_within (x ∷ xs) zero d h = refl
owner_within (x ∷ xs) (suc e) d h = owner_within xs e d (omega arith)

pub owner_beyond : (es : List KEvent) (e : ℕ) → length es ≤ e → owner e es ≡ None
owner_beyond [] e h = refl
owner_beyond (x ∷ xs) zero h = absurd (omega arith)
owner_beyond (x ∷ xs) (suc e) h = owner_beyond xs e (omega arith)

pub ruleset owners = (owner_within, owner_beyond)

-- ---- what is behind the first

pub none_left : {X : Type 0} (xs : List X) → length xs ≡ 0 → xs ≡ drop 1 xs
none_left [] h = refl
none_left (x ∷ xs) h = absurd (omega arith)

pub rest_whole : {X : Type 0} (xs : List X) → take (length xs - 1) (drop 1 xs) ≡ drop 1 xs
rest_whole {X} [] = take_end (length {A = X} [] - 1) [] (omega arith)
rest_whole (x ∷ xs) = take_end (length (x ∷ xs) - 1) xs (omega arith)

pub ruleset rests = (none_left, rest_whole)

-- ---- one loop

pub not_woken : (T : Tables) (e : ℕ) (l : TrailLoop) (c t : ℕ) → None ≡ paced l.kind l.body → t ≡ t + c * loop_cost T e l
not_woken T e l c t h =
    let none : loop_cost T e l ≡ 0 = ap (λ p. if is_event e p then turn T.part + enter_list T (drop 1 (out-KBlock l.body).list) else 0) (sym h) in
    omega (arith, ap (λ k. c * k) none)

flipped : (x y : ℕ) → (x == y) ≡ (y == x)
flipped x y = grind arith

pub woken_once : (T : Tables) (e : ℕ) (l : TrailLoop) (w : Wake) (es : List KEvent) (k n : ℕ) → Some w.event ≡ paced l.kind l.body → w.copies ≡ copies es k n w.event → w.rest.now ≡ drop 1 (out-KBlock l.body).list →
    wake_cost T e w ≡ copies es k n e * loop_cost T e l
woken_once T e l w es k n paces many rest =
    let X = turn T.part + enter_list T (drop 1 (out-KBlock l.body).list) in
    let loop : loop_cost T e l ≡ (if w.event == e then X else 0) = ap (λ p. if is_event e p then X else 0) (sym paces) ∙ ap (λ b. if b then X else 0) (flipped e w.event) in
    let go : (b : Bool) → (w.event == e) ≡ b → (if b then w.copies * (turn T.part + enter_list T w.rest.now) else 0) ≡ copies es k n e * (if b then X else 0) =
    λ b. elim b as (λ v. (w.event == e) ≡ v → (if v then w.copies * (turn T.part + enter_list T w.rest.now) else 0) ≡ copies es k n e * (if v then X else 0)) [
      | true ↦ λ q. ap (λ m. m * (turn T.part + enter_list T w.rest.now)) (many ∙ ap (copies es k n) (same_number w.event e q)) ∙ ap (λ r. copies es k n e * (turn T.part + enter_list T r)) rest
      | false ↦ λ q. omega arith
    ] in
    go (w.event == e) refl ∙ ap (λ m. copies es k n e * m) (sym loop)

pub woken_push : (T : Tables) (e : ℕ) (old new : List Wake) (w : Wake) (x : ℕ) → new ≡ old ++ w ∷ [] → wake_cost T e w ≡ x → total (wake_cost T e) new ≡ total (wake_cost T e) old + x
woken_push T e old new w x pushed cost = ap (total (wake_cost T e)) pushed ∙ total_append (wake_cost T e) old (w ∷ []) ∙ omega (arith, cost)

-- ---- more loops

pub seen_more : (f : TrailLoop → ℕ) (ls : List FoundLoop) (i : ℕ) (d : FoundLoop) → i < length ls → total f (map seen (take (i + 1) ls)) ≡ total f (map seen (take i ls)) + f (seen (get_or ls i d))
seen_more f [] i d h = absurd (omega arith)
seen_more f (x ∷ xs) zero d h = omega arith
seen_more f (x ∷ xs) (suc i) d h = rw add-one (omega (arith, rw add-one at (seen_more f xs i d (omega arith))))

pub codes_more : (T : Tables) (e : ℕ) (es : List KEvent) (k : ℕ) (cs : List KCode) (ns : List ℕ) (i : ℕ) (d : KCode) → i < length cs → length ns ≡ length cs →
    codes_cost T e es k (take (suc i) cs) ns ≡ codes_cost T e es k (take i cs) ns + copies es (k + i) (get_or ns i 0) e * body_cost T e (get_or cs i d).body
codes_more T e es k [] ns i d h same = absurd (omega arith)
codes_more T e es k (c ∷ cs) [] i d h same = absurd (omega arith)
codes_more T e es k (c ∷ cs) (n ∷ ns) zero d h same = omega (arith, ap (λ m. copies es m n e * body_cost T e c.body) (let z : k + 0 ≡ k = omega arith in z))
codes_more T e es k (c ∷ cs) (n ∷ ns) (suc i) d h same =
    let ih = codes_more T e es (k + 1) cs ns i d (omega arith) (omega arith) in
    let place : k + 1 + i ≡ k + suc i = omega arith in
    omega (arith, ih, ap (λ m. copies es m (get_or ns i 0) e * body_cost T e (get_or cs i d).body) place)

pub ones : (n e d : ℕ) → e < n → get_or (replicate n 1) e d ≡ 1
ones zero e d h = absurd (omega arith)
ones (suc n) zero d h = refl
ones (suc n) (suc e) d h = ones n e d (omega arith)

pub round_step : (t : Bool) (o r cost x y : ℕ) → r ≡ (if t then cap (o + cost) else o) → o ≡ cap (1 + x) → cost ≡ cap y → r ≡ cap (1 + (x + (if t then y else 0)))
round_step true o r cost x y made old here = omega (arith, made, old, here)
round_step false o r cost x y made old here = omega (arith, made, old)
