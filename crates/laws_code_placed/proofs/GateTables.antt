-- In a plan that fits a kernel the gates of each node are those of its range, and the tables of the codes' gates are right.
use Rattle.std.proofs.Common.{◌≡◌, refl, sym, ap, ◌∙◌, subst, ℕ, zero, suc, ◌+◌, ◌<◌, ◌≤◌, Bool, true, false, ◌==◌, List, [], ◌∷◌, ◌++◌, length, map, get_or, Option, Some, length-append, arith}
use Rattle.std.specs.List.{AllByRecursion}
use Rattle.std.proofs.lemmas.Bool.{eqb-true, eqb-false, and_parts}
use Rattle.std.proofs.lemmas.List.{map-append, length-map}
use Rattle.ceu_tree.specs.declared.kernel.Kernel.{Kernel}
use Rattle.ceu_tree.specs.declared.kernel.KCode.{KCode}
use Rattle.ceu_tree.specs.declared.kernel.KBlock.{KBlock, KBlock'}
use Rattle.ceu_tree.specs.Leaf.{code_at}
use Rattle.ceu_tree.specs.Needs.{entry, block_gates, gates_from}
use Rattle.ceu_tree.specs.Numbering.{block_nodes, codes_nodes, counts_from}
use Rattle.ceu_tree.specs.Proper.{Proper}
use Rattle.ceu_gates.specs.declared.ranges.GateRange.{GateRange}
use Rattle.ceu_gates.specs.Ranges.{reach, block_ranges, codes_ranges, ranges, the_first, the_count, first_gate, gate_count}
use Rattle.ceu_gates.proofs.Numbered.{block_numbers, firsts_listed, counts_listed}
use Rattle.ceu_gates.proofs.Within.{ranges_within}
use Rattle.ceu_shape.specs.Plans.{Plan}
use Rattle.ceu_shape.specs.Searches.{node_of_block, node_of_body, body_node}
use Rattle.laws_code_placed.specs.Fits.{PlanFits, node_count}
use Rattle.laws_code_placed.proofs.Slots.{all_split, counted_hold, counted_below, numbered_both}

abbrev numbers : List GateRange → List ℕ
numbers rs = map (λ (r : GateRange). r.node) rs

codes_numbers : (table : List ℕ) (cs : List KCode) → numbers (codes_ranges table cs) ≡ codes_nodes cs
codes_numbers table [] = refl
codes_numbers table (c ∷ cs) =
    let later = table ++ block_gates table c.body ∷ [] in
    map-append (λ (r : GateRange). r.node) (block_ranges table 0 c.body) (codes_ranges later cs) ∙ ap (λ l. l ++ numbers (codes_ranges later cs)) (block_numbers table 0 c.body) ∙ ap (λ l. block_nodes c.body ++ l) (codes_numbers later cs)

all_numbers : (K : Kernel) → numbers (ranges K) ≡ block_nodes K.body ++ codes_nodes K.codes
unfolding ranges
all_numbers K =
    let table = gates_from [] K.codes in
    map-append (λ (r : GateRange). r.node) (block_ranges table 0 K.body) (codes_ranges [] K.codes) ∙ ap (λ l. l ++ numbers (codes_ranges [] K.codes)) (block_numbers table 0 K.body) ∙ ap (λ l. block_nodes K.body ++ l) (codes_numbers [] K.codes)

reached : (rs : List GateRange) (m : ℕ) → reach rs ≤ m → AllByRecursion (λ (r : GateRange). r.first + r.count ≤ m) rs
reached [] m h = tt
reached (r ∷ rs) m h = (omega arith, reached rs m (omega arith))

-- what a list by node says of each range
said : (f : GateRange → ℕ) (value : ℕ → ℕ) (k : ℕ) (rs : List GateRange) → counts_from k (numbers rs) ≡ true → ((i : ℕ) → i < length rs → get_or (map f rs) i 0 ≡ value (k + i)) → AllByRecursion (λ (r : GateRange). value r.node ≡ f r) rs
said f value k [] c h = tt
said f value k (r ∷ rs) c h =
    let parts = and_parts (r.node == k) (counts_from (k + 1) (numbers rs)) c in
    let same : r.node ≡ k + 0 = omega (arith, eqb-true r.node k parts.0) in
    (ap value same ∙ sym (h 0 (omega arith)), said f value (k + 1) rs parts.1 (λ (i : ℕ) (low : i < length rs). h (suc i) (omega arith) ∙ ap value (let e : k + suc i ≡ k + 1 + i = omega arith in e)))

module _ (P : Plan) (K : Kernel) (fits : PlanFits P K) where
  -- a range that the plan has, and that ends below 2^16
  pub record Kept (r : GateRange) : Type 0 where
    pub first : P.first r.node ≡ r.first
    pub count : P.count r.node ≡ r.count
    pub ends : r.first + r.count ≤ 65535

  abbrev pub AllKept : List GateRange → Type 0
  AllKept rs = AllByRecursion Kept rs

  gathered : (rs : List GateRange) → AllByRecursion (λ (n : ℕ). n < node_count K) (numbers rs) → AllByRecursion (λ (r : GateRange). first_gate K r.node ≡ r.first) rs → AllByRecursion (λ (r : GateRange). gate_count K r.node ≡ r.count) rs →
      AllByRecursion (λ (r : GateRange). r.first + r.count ≤ 3000) rs → AllKept rs
  gathered [] n f c e = tt
  gathered (r ∷ rs) n f c e =
      (record { first = fits.firsts r.node n.0 ∙ f.0; count = fits.counts r.node n.0 ∙ c.0; ends = omega (arith, e.0) }, gathered rs n.1 f.1 c.1 e.1)

  pub ranges_kept : Proper K → AllKept (ranges K)
  ranges_kept ok =
      let rs : List GateRange = ranges K in
      let nodes : List ℕ = block_nodes K.body ++ codes_nodes K.codes in
      let counted : counts_from 0 (numbers rs) ≡ true = ap (counts_from 0) (all_numbers K) ∙ (numbered_both K ok).0 in
      let below : AllByRecursion (λ (n : ℕ). n < node_count K) (numbers rs) = subst (λ (l : List ℕ). AllByRecursion (λ (n : ℕ). n < node_count K) l) (sym (all_numbers K)) (counted_below 0 (node_count K) nodes (numbered_both K ok).0 (omega arith)) in
      let firsts = firsts_listed K ok (map the_first rs) refl in
      let counts = counts_listed K ok (map the_count rs) refl in
      gathered rs below
      (said the_first (first_gate K) 0 rs counted (λ (i : ℕ) (low : i < length rs). firsts.each i (omega (arith, length-map rs the_first, low)) ∙ ap (first_gate K) (let e : i ≡ 0 + i = omega arith in e)))
      (said the_count (gate_count K) 0 rs counted (λ (i : ℕ) (low : i < length rs). counts.each i (omega (arith, length-map rs the_count, low)) ∙ ap (gate_count K) (let e : i ≡ 0 + i = omega arith in e)))
      (reached rs 3000 (omega (arith, ranges_within K ok, fits.few_gates)))

  pub body_kept : Proper K → AllKept (block_ranges (gates_from [] K.codes) 0 K.body)
  unfolding ranges
  body_kept ok = (all_split Kept (block_ranges (gates_from [] K.codes) 0 K.body) (codes_ranges [] K.codes) (ranges_kept ok)).0

  pub codes_kept : Proper K → AllKept (codes_ranges [] K.codes)
  unfolding ranges
  codes_kept ok = (all_split Kept (block_ranges (gates_from [] K.codes) 0 K.body) (codes_ranges [] K.codes) (ranges_kept ok)).1

  -- ---- the tables of the gates of the codes' bodies

  -- the table has the gates of the first codes
  pub record Tabled (table : List ℕ) (k : ℕ) : Type 0 where
    pub long : length table ≡ k
    pub each : (c : ℕ) → c < k → entry c table ≡ P.count (body_node K c)

  entry_before : (c : ℕ) (xs : List ℕ) (x : ℕ) → c < length xs → entry c (xs ++ x ∷ []) ≡ entry c xs
  entry_before c [] x h = absurd (omega arith)
  entry_before zero (y ∷ xs) x h = refl
  entry_before (suc c) (y ∷ xs) x h = entry_before c xs x (omega arith)

  entry_last : (xs : List ℕ) (x : ℕ) → entry (length xs) (xs ++ x ∷ []) ≡ x
  entry_last [] x = refl
  entry_last (y ∷ xs) x = entry_last xs x

  pub head_kept : (table : List ℕ) (g : ℕ) (b : KBlock) → AllKept (block_ranges table g b) → P.count (node_of_block b) ≡ block_gates table b
  unfolding block_ranges
  head_kept table g (KBlock' n ds x list) h = h.0.count

  -- these codes are the kernel's from the k-th on
  abbrev pub From : ℕ → List KCode → Type 0
  From k cs = (j : ℕ) → code_at j cs ≡ code_at (k + j) K.codes

  pub from_next : (k : ℕ) (c : KCode) (cs : List KCode) → From k (c ∷ cs) → From (k + 1) cs
  from_next k c cs h j = h (suc j) ∙ ap (λ (n : ℕ). code_at n K.codes) (let e : k + suc j ≡ k + 1 + j = omega arith in e)

  pub tabled_next : (table : List ℕ) (k : ℕ) (c : KCode) (cs : List KCode) → From k (c ∷ cs) → Tabled table k → AllKept (block_ranges table 0 c.body) → Tabled (table ++ block_gates table c.body ∷ []) (k + 1)
  tabled_next table k c cs h t kept = record { long = omega (arith, length-append table (block_gates table c.body ∷ []), t.long); each = λ (j : ℕ) (low : j < k + 1). go j low (j == k) refl }
    where
      here : code_at k K.codes ≡ Some c
      here = ap (λ (n : ℕ). code_at n K.codes) (let e : k ≡ k + 0 = omega arith in e) ∙ sym (h 0)

      last : entry k (table ++ block_gates table c.body ∷ []) ≡ P.count (body_node K k)
      last =
          ap (λ (n : ℕ). entry n (table ++ block_gates table c.body ∷ [])) (sym t.long) ∙ entry_last table (block_gates table c.body) ∙ sym (head_kept table 0 c.body kept) ∙
          sym (ap (λ (o : Option KCode). P.count (node_of_body o)) here)

      go : (j : ℕ) → j < k + 1 → (b : Bool) → (j == k) ≡ b → entry j (table ++ block_gates table c.body ∷ []) ≡ P.count (body_node K j)
      go j low true e = let same : k ≡ j = sym (eqb-true j k e) in subst (λ (n : ℕ). entry n (table ++ block_gates table c.body ∷ []) ≡ P.count (body_node K n)) same last
      go j low false e = let less : j < k = omega (arith, eqb-false j k e, low) in entry_before j table (block_gates table c.body) (omega (arith, t.long)) ∙ t.each j less

  tabled_all : (table : List ℕ) (k : ℕ) (cs : List KCode) → From k cs → Tabled table k → AllKept (codes_ranges table cs) → Tabled (gates_from table cs) (k + length cs)
  tabled_all table k [] h t kept = subst (λ (n : ℕ). Tabled table n) (let e : k ≡ k + 0 = omega arith in e) t
  tabled_all table k (c ∷ cs) h t kept =
      let later : List ℕ = table ++ block_gates table c.body ∷ [] in
      let parts = all_split Kept (block_ranges table 0 c.body) (codes_ranges later cs) kept in
      subst (λ (n : ℕ). Tabled (gates_from later cs) n) (let e : k + 1 + length cs ≡ k + suc (length cs) = omega arith in e)
      (tabled_all later (k + 1) cs (from_next k c cs h) (tabled_next table k c cs h t parts.0) parts.1)

  pub none_tabled : Tabled [] 0
  none_tabled = record { long = refl; each = λ (c : ℕ) (low : c < 0). absurd (omega arith) }

  pub from_start : From 0 K.codes
  from_start j = ap (λ (n : ℕ). code_at n K.codes) (let e : j ≡ 0 + j = omega arith in e)

  pub body_tabled : Proper K → Tabled (gates_from [] K.codes) (length K.codes)
  body_tabled ok = subst (λ (n : ℕ). Tabled (gates_from [] K.codes) n) (let e : 0 + length K.codes ≡ length K.codes = omega arith in e) (tabled_all [] 0 K.codes from_start none_tabled (codes_kept ok))

  -- ---- of each node

  kept_numbers : (rs : List GateRange) → AllKept rs → AllByRecursion (λ (n : ℕ). (P.first n ≤ 65535) × (P.count n ≤ 65535)) (numbers rs)
  kept_numbers [] h = tt
  kept_numbers (r ∷ rs) h = let first = h.0.first in let count = h.0.count in let ends = h.0.ends in ((omega (arith, first, ends), omega (arith, count, ends)), kept_numbers rs h.1)

  pub gates_small : Proper K → (node : ℕ) → node < node_count K → (P.first node ≤ 65535) × (P.count node ≤ 65535)
  gates_small ok node low =
      let Few : ℕ → Type 0 = λ (n : ℕ). (P.first n ≤ 65535) × (P.count n ≤ 65535) in
      let nodes : List ℕ = block_nodes K.body ++ codes_nodes K.codes in
      counted_hold Few 0 nodes (numbered_both K ok).0 (subst (λ (l : List ℕ). AllByRecursion Few l) (all_numbers K) (kept_numbers (ranges K) (ranges_kept ok))) node (omega arith) (omega arith)
