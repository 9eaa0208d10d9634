-- Groups of wakings: what each holds once one of them is put in place, and once one is added.
use Rattle.std.proofs.Common.{◌≡◌, refl, sym, ap, ◌∙◌, ℕ, zero, suc, ◌+◌, ◌*◌, ◌<◌, ◌≤◌, Bool, true, false, if◌then◌else◌, ◌==◌, List, [], ◌∷◌, ◌++◌, length, get_or, arith}
use Rattle.std.proofs.Math.ListN.{set}
use Rattle.ceu_tree.specs.Greatest.{total}
use Rattle.ceu_paths.specs.Cap.{cap}
use Rattle.ceu_bound.specs.declared.emissions.Wake.{Wake}
use Rattle.ceu_bound.specs.declared.settling.Group.{Group}
use Rattle.ceu_bound.specs.declared.tables.Tables.{Tables}
use Rattle.ceu_bound.specs.Waking.{wake_cost, group_cost}
use Rattle.ceu_bound.specs.Parts.{turn}
use Rattle.ceu_bound.specs.Measured.{enter_list}
use Rattle.ceu_bound.proofs.GraphLaws.{same_number}
use Rattle.ceu_bound.proofs.WakeLaws.{woken_push}

pub group_push : (T : Tables) (e k : ℕ) (gs : List Group) (g : Group) → g.wakes.items ≡ [] → ((j : ℕ) → group_cost T e j gs ≡ 0) → group_cost T e k (gs ++ g ∷ []) ≡ 0
group_push T e zero [] g h none = ap (total (wake_cost T e)) h
group_push T e (suc k) [] g h none = refl
group_push T e zero (x ∷ gs) g h none = none zero
group_push T e (suc k) (x ∷ gs) g h none = group_push T e k gs g h (λ j. none (suc j))

pub group_at : (T : Tables) (e k : ℕ) (gs : List Group) (d : Group) → k < length gs → group_cost T e k gs ≡ total (wake_cost T e) (get_or gs k d).wakes.items
group_at T e k [] d h = absurd (omega arith)
group_at T e zero (x ∷ gs) d h = refl
group_at T e (suc k) (x ∷ gs) d h = group_at T e k gs d (omega arith)

group_set_same : (T : Tables) (e at : ℕ) (gs : List Group) (g : Group) → at < length gs → group_cost T e at (set gs at g) ≡ total (wake_cost T e) g.wakes.items
group_set_same T e at [] g h = absurd (omega arith)
group_set_same T e zero (x ∷ gs) g h = refl
group_set_same T e (suc at) (x ∷ gs) g h = group_set_same T e at gs g (omega arith)

group_set_other : (T : Tables) (e k at : ℕ) (gs : List Group) (g : Group) → (at ≡ k → ⊥) → group_cost T e k (set gs at g) ≡ group_cost T e k gs
group_set_other T e k at [] g h = refl
group_set_other T e zero zero (x ∷ gs) g h = absurd (h refl)
group_set_other T e zero (suc at) (x ∷ gs) g h = refl
group_set_other T e (suc k) zero (x ∷ gs) g h = refl
group_set_other T e (suc k) (suc at) (x ∷ gs) g h = group_set_other T e k at gs g (λ same. h (ap (λ n. suc n) same))

other_number : (x y : ℕ) → (x == y) ≡ false → x ≡ y → ⊥
other_number x y h e = absurd (grind (arith, h, e))

-- one waking more in the group of its event
pub group_more : (T : Tables) (e : ℕ) (gs : List Group) (g d : Group) (w : Wake) → w.event < length gs → g.wakes.items ≡ (get_or gs w.event d).wakes.items ++ w ∷ [] → group_cost T e e (set gs w.event g) ≡ group_cost T e e gs + wake_cost T e w
group_more T e gs g d w h pushed = go (w.event == e) refl
  where
    go : (b : Bool) → (w.event == e) ≡ b → group_cost T e e (set gs w.event g) ≡ group_cost T e e gs + wake_cost T e w
    go true q =
        let same = same_number w.event e q in
        ap (λ k. group_cost T e k (set gs w.event g)) (sym same) ∙ group_set_same T e w.event gs g h ∙ woken_push T e (get_or gs w.event d).wakes.items g.wakes.items w (wake_cost T e w) pushed refl ∙
        ap (λ n. n + wake_cost T e w) (sym (group_at T e w.event gs d h) ∙ ap (λ k. group_cost T e k gs) same)
    go false q =
        let none : wake_cost T e w ≡ 0 = ap (λ b. if b then w.copies * (turn T.part + enter_list T w.rest.now) else 0) q in
        group_set_other T e e w.event gs g (other_number w.event e q) ∙ omega (arith, none)

-- a waking of an event that has no group
pub group_none : (T : Tables) (e : ℕ) (gs : List Group) (w : Wake) → length gs ≤ w.event → e < length gs → group_cost T e e gs ≡ group_cost T e e gs + wake_cost T e w
group_none T e gs w h below = go (w.event == e) refl
  where
    go : (b : Bool) → (w.event == e) ≡ b → group_cost T e e gs ≡ group_cost T e e gs + wake_cost T e w
    go true q = absurd (omega (arith, same_number w.event e q, h, below))
    go false q =
        let none : wake_cost T e w ≡ 0 = ap (λ b. if b then w.copies * (turn T.part + enter_list T w.rest.now) else 0) q in
        omega (arith, none)

-- the place of an event in the table
pub filled_one : (T : Tables) (e at cost old new : ℕ) (gs : List Group) (g : Group) → at < length gs → g ≡ get_or gs at g → cost ≡ cap (1 + total (wake_cost T at) g.wakes.items) → new ≡ (if at == e then cost else old) →
    new ≡ (if at == e then cap (1 + group_cost T e e gs) else old)
filled_one T e at cost old new gs g h is made put = put ∙ go (at == e) refl
  where
    go : (b : Bool) → (at == e) ≡ b → (if b then cost else old) ≡ (if b then cap (1 + group_cost T e e gs) else old)
    go true q =
        made ∙ ap (λ (x : Group). cap (1 + total (wake_cost T at) x.wakes.items)) is ∙ ap (λ n. cap (1 + n)) (sym (group_at T at at gs g h)) ∙ ap (λ k. cap (1 + group_cost T k k gs)) (same_number at e q)
    go false q = refl
