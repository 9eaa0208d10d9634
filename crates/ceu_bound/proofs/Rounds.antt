-- Rounds along the emissions: after a round the table holds what one more arrow reaches, and a round that changes nothing is the last.
use Rattle.std.proofs.Common.{◌≡◌, refl, sym, ap, subst, ◌∙◌, ℕ, zero, suc, ◌+◌, ◌<◌, ◌≤◌, inl, inr, List, [], map, length, ◌-◌, Bool, true, false, if◌then◌else◌, ◌==◌, ◌∷◌, get_or, arith}
use Rattle.ceu_tree.specs.declared.kernel.Kernel.{Kernel}
use Rattle.ceu_tree.specs.Paths.{passes_from}
use Rattle.ceu_tree.specs.Costs.{Cost, cost, plus, cost_at, woken_block, woken_codes, enters_from, instances_from, emissions_from, emissions}
use Rattle.ceu_tree.specs.Needs.{entry}
use Rattle.ceu_tree.proofs.TableLaws.{entry_within, entry_beyond}
use Rattle.ceu_paths.specs.Cap.{cap}
use Rattle.ceu_paths.proofs.CapLaws.{same_plus, cap_idem}
use Rattle.ceu_bound.specs.declared.tables.Part.{Part}
use Rattle.ceu_bound.specs.declared.tables.Tables.{Tables}
use Rattle.ceu_bound.specs.Parts.{pick, costs, Same, SameTables, AtMost, TablesAtMost}
use Rattle.ceu_bound.specs.Waking as spec
use Rattle.ceu_bound.proofs.CostLaws.{pick_none, pick_both, pick_plus, pick_at}
use Rattle.ceu_bound.proofs.Woken.{body_same, codes_same, emission_at, emission_beyond}
use Rattle.ceu_bound.proofs.InstanceLaws.{split}
use Rattle.ceu_bound.proofs.Rising.{next_stage, row_rises, risen, nothing_least, stage_more, stages_rise}

entry_any : (k : ℕ) (ns : List ℕ) → entry k ns ≡ get_or ns k 0
entry_any k [] = refl
entry_any zero (x ∷ xs) = refl
entry_any (suc k) (x ∷ xs) = entry_any k xs

none_there : (k : ℕ) (ns : List ℕ) → length ns ≤ k → get_or ns k 0 ≡ 0
none_there k [] h = refl
none_there zero (x ∷ xs) h = absurd (omega arith)
none_there (suc k) (x ∷ xs) h = none_there k xs (omega arith)

pub none_at_most : (w : Part) (ns : List ℕ) (B : List Cost) → ((e : ℕ) → get_or ns e 0 ≡ 0) → TablesAtMost w (costs ns) B
none_at_most w ns B h k = omega (arith, pick_at w k ns ∙ entry_any k ns ∙ h k)

module _ (K : Kernel) (T : Tables) (passing : T.passing.items ≡ passes_from [] K.codes) where
  -- what an emission costs by the tables
  abbrev made_cost : ℕ → ℕ
  made_cost k = cap (1 + spec.woken_cost T K (map cap (instances_from K.body 0 K.codes)) k)

  row : List Cost → ℕ → Cost
  row E k = cost_at k (emissions_from K T.passing.items E (enters_from T.passing.items E [] K.codes) (instances_from K.body 0 K.codes) 0 K.events)

  within : (E : List Cost) (ns : List ℕ) (k : ℕ) → SameTables T.part (costs T.events.items) E → k < length ns → k < length K.events → get_or ns k 0 ≡ made_cost k → Same T.part (cost_at k (costs ns)) (row E k)
  unfolding row
  within E ns k before inside known made =
      let w = T.part in
      let P = T.passing.items in
      let N = enters_from P E [] K.codes in
      let I = instances_from K.body 0 K.codes in
      let W = woken_block P E N k K.body in
      let C = woken_codes P E N k (spec.owner k K.events) 0 K.codes I in
      let zero_on : 0 + k ≡ k = omega arith in
      let at = emission_at K P E N I 0 K.events k known ∙ ap (λ m. plus (cost 1 1) (plus (woken_block P E N m K.body) (woken_codes P E N m (spec.owner k K.events) 0 K.codes I))) zero_on in
      ap cap (pick_at w k ns ∙ entry_within ns k inside ∙ made) ∙
      cap_idem (1 + spec.woken_cost T K (map cap I) k) ∙
      same_plus 1 1 (spec.body_cost T k K.body + spec.codes_cost T k K.events 0 K.codes (map cap I)) (pick w W + pick w C) refl
      (same_plus (spec.body_cost T k K.body) (pick w W) (spec.codes_cost T k K.events 0 K.codes (map cap I)) (pick w C) (body_same T E N before k K.body) (codes_same T E N before k K.events 0 K.codes I)) ∙
      ap cap (ap (λ m. 1 + m) (sym (pick_plus w W C)) ∙ ap (λ m. m + pick w (plus W C)) (sym (pick_both w 1)) ∙ sym (pick_plus w (cost 1 1) (plus W C))) ∙
      ap (λ c. cap (pick w c)) (sym at)

  beyond : (E : List Cost) (ns : List ℕ) (k : ℕ) → length ns ≤ k → length K.events ≤ k → Same T.part (cost_at k (costs ns)) (row E k)
  unfolding row
  beyond E ns k outside unknown =
      ap cap (pick_at T.part k ns ∙ entry_beyond ns k outside ∙ sym (pick_none T.part)) ∙
      ap (λ c. cap (pick T.part c)) (sym (emission_beyond K T.passing.items E (enters_from T.passing.items E [] K.codes) (instances_from K.body 0 K.codes) 0 K.events k unknown))

  pub stage_same : (E : List Cost) (ns : List ℕ) → SameTables T.part (costs T.events.items) E → length ns ≡ length K.events →
      ((e : ℕ) → e < length K.events → get_or ns e 0 ≡ made_cost e) → SameTables T.part (costs ns) (next_stage K E)
  unfolding next_stage row
  stage_same E ns before same each k =
      let here : Same T.part (cost_at k (costs ns)) (row E k) =
      elim (split k (length K.events)) as (λ _. Same T.part (cost_at k (costs ns)) (row E k)) [
        | inl known ↦ within E ns k before (omega (arith, known, same)) known (each k known)
        | inr unknown ↦ beyond E ns k (omega (arith, unknown, same)) unknown
      ] in
      here ∙ ap (λ p. cap (pick T.part (cost_at k (emissions_from K p E (enters_from p E [] K.codes) (instances_from K.body 0 K.codes) 0 K.events)))) passing

  pub round_same : (i : ℕ) (ns : List ℕ) → SameTables T.part (costs T.events.items) (emissions K i) → length ns ≡ length K.events →
      ((e : ℕ) → e < length K.events → get_or ns e 0 ≡ made_cost e) → SameTables T.part (costs ns) (emissions K (suc i))
  unfolding emissions next_stage
  round_same i ns before same each = stage_same (emissions K i) ns before same each

  pub settled : (i d : ℕ) → length T.events.items ≡ length K.events → ((e : ℕ) → e < length K.events → get_or T.events.items e 0 ≡ made_cost e) →
      SameTables T.part (costs T.events.items) (emissions K i) → SameTables T.part (costs T.events.items) (emissions K (d + i))
  settled i zero same each before =
      let P : ℕ → Type 0 = λ m. SameTables T.part (costs T.events.items) (emissions K m) in
      let e : i ≡ 0 + i = omega arith in
      subst P e before
  settled i (suc d) same each before =
      let P : ℕ → Type 0 = λ m. SameTables T.part (costs T.events.items) (emissions K m) in
      let e : suc (d + i) ≡ suc d + i = omega arith in
      subst P e (round_same (d + i) T.events.items (settled i d same each before) same each)

  -- one event more, by a table that holds at most what some arrows reach
  pub filled_more : (i at : ℕ) (ns : List ℕ) → length T.events.items ≡ length K.events → length ns ≡ length K.events → TablesAtMost T.part (costs T.events.items) (emissions K i) →
      ((e : ℕ) → e < length K.events → get_or ns e 0 ≡ (if at == e then made_cost e else get_or T.events.items e 0)) → TablesAtMost T.part (costs ns) (emissions K (suc i))
  unfolding emissions next_stage row
  filled_more i at ns same new before each k =
      let E = costs T.events.items in
      let old : AtMost T.part (cost_at k E) (cost_at k (emissions K (suc i))) = risen T.part (cost_at k E) (cost_at k (emissions K i)) (cost_at k (emissions K (suc i))) (before k) (stage_more T.part K i k) in
      let fresh : AtMost T.part (cost_at k (next_stage K E)) (cost_at k (emissions K (suc i))) = row_rises T.part K E (emissions K i) before k in
      let moved = ap (λ p. cap (pick T.part (cost_at k (emissions_from K p E (enters_from p E [] K.codes) (instances_from K.body 0 K.codes) 0 K.events)))) passing in
      let kept : get_or ns k 0 ≡ get_or T.events.items k 0 → AtMost T.part (cost_at k (costs ns)) (cost_at k (emissions K (suc i))) =
      λ h. omega (arith, old, pick_at T.part k ns ∙ entry_any k ns ∙ h ∙ sym (pick_at T.part k T.events.items ∙ entry_any k T.events.items)) in
      let cases : (b : Bool) → k < length K.events → (at == k) ≡ b → get_or ns k 0 ≡ (if b then made_cost k else get_or T.events.items k 0) → AtMost T.part (cost_at k (costs ns)) (cost_at k (emissions K (suc i))) =
      λ b known. elim b as (λ v. (at == k) ≡ v → get_or ns k 0 ≡ (if v then made_cost k else get_or T.events.items k 0) → AtMost T.part (cost_at k (costs ns)) (cost_at k (emissions K (suc i)))) [
        | true ↦ λ q h. omega (arith, fresh, within E ns k (λ j. refl) (omega (arith, known, new)) known h ∙ moved)
        | false ↦ λ q h. kept h
      ] in
      elim (split k (length K.events)) as (λ _. AtMost T.part (cost_at k (costs ns)) (cost_at k (emissions K (suc i)))) [
        | inl known ↦ cases (at == k) known refl (each k known)
        | inr unknown ↦ kept (none_there k ns (omega (arith, unknown, new)) ∙ sym (none_there k T.events.items (omega (arith, unknown, same))))
      ]

  -- a table that a round doesn't change holds at least what any arrows reach
  least : (j : ℕ) → SameTables T.part (costs T.events.items) (next_stage K (costs T.events.items)) → TablesAtMost T.part (emissions K j) (costs T.events.items)
  unfolding emissions next_stage
  least zero still k = nothing_least T.part (cost_at k (costs T.events.items))
  least (suc j) still k =
      let E = costs T.events.items in
      let rise : AtMost T.part (cost_at k (emissions K (suc j))) (cost_at k (next_stage K E)) = row_rises T.part K (emissions K j) E (least j still) k in
      omega (arith, rise, still k)

  pub ordered_settled : (i : ℕ) → i ≤ length K.events → length T.events.items ≡ length K.events → TablesAtMost T.part (costs T.events.items) (emissions K i) →
      ((e : ℕ) → e < length K.events → get_or T.events.items e 0 ≡ made_cost e) → SameTables T.part (costs T.events.items) (emissions K (length K.events))
  ordered_settled i within_all same before each k =
      let E = costs T.events.items in
      let still = stage_same E T.events.items (λ j. refl) same each in
      let P : ℕ → Type 0 = λ m. AtMost T.part (cost_at k (emissions K i)) (cost_at k (emissions K m)) in
      let rest : length K.events - i + i ≡ length K.events = omega (arith, within_all) in
      let upper = risen T.part (cost_at k E) (cost_at k (emissions K i)) (cost_at k (emissions K (length K.events))) (before k) (subst P rest (stages_rise T.part K i (length K.events - i) k)) in
      omega (arith, upper, least (length K.events) still k)

pub none_settled : (K : Kernel) (T : Tables) → T.events.items ≡ [] → SameTables T.part (costs T.events.items) (emissions K 0)
unfolding emissions
none_settled K T h k = ap (λ ns. cap (pick T.part (cost_at k (costs ns)))) h
