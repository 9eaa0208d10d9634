-- In a proper kernel with plans of its slots and gates all is there that its code names.
use Rattle.std.proofs.Common.{◌≡◌, refl, sym, ap, subst, ◌∙◌, ℕ, zero, suc, ◌+◌, ◌<◌, ◌≤◌, max, Bool, true, false, ◌&&◌, ◌==◌, if◌then◌else◌, inl, inr, IsTrue, nat_le, List, [], ◌∷◌, ◌++◌, length, map, Some, None, arith}
use Rattle.std.specs.Prelude.{nat_lt}
use Rattle.std.specs.List.{list_all}
use Rattle.std.proofs.lemmas.Bool.{and_parts, eqb-true, eq-eqb, ne_eqb, ltb-true, ltb-false}
use Rattle.std.proofs.lemmas.List.{map-append, length-map}
use Rattle.ceu_base.specs.declared.kinds.Ty.TheVariants as ty
use Rattle.ceu_tree.specs.declared.kernel.Kernel.{Kernel}
use Rattle.ceu_tree.specs.declared.kernel.KCode.{KCode}
use Rattle.ceu_tree.specs.declared.kernel.KBlock.{KBlock, KBlock', out-KBlock}
use Rattle.ceu_tree.specs.Leaf.{code_at}
use Rattle.ceu_tree.specs.Mentions.{outer_names_from}
use Rattle.ceu_tree.specs.Needs.{entry, block_gates, stmt_gates, gates_from, gates}
use Rattle.ceu_tree.specs.Numbering.{decl_slots, block_slots, codes_slots, stmt_slots, block_nodes, codes_nodes, list_slots, counts_from, is_numbered}
use Rattle.ceu_tree.specs.Proper.{declared_seen, pool_slots, with_decls, body_scope, is_parameter, block_ok, codes_ok, is_proper, Proper}
use Rattle.ceu_gates.specs.declared.plan.GatePlan.{GatePlan}
use Rattle.ceu_gates.specs.declared.ranges.GateRange.{GateRange}
use Rattle.ceu_gates.specs.Ranges.{range, reach, stmt_ranges, block_ranges, codes_ranges, ranges, number_of, the_first, the_count, first_gate, gate_count, IsByNode}
use Rattle.ceu_gates.proofs.Numbered.{block_numbers}
use Rattle.ceu_gates.proofs.Within.{ranges_within}
use Rattle.ceu_slots.specs.Plans.{Planned, Lawful}
use Rattle.ceu_shape.specs.Searches.{node_of_block, node_of_body, body_node, pool_size, escape_target, kernel_pools, block_target, codes_target}
use Rattle.ceu_low_flow.specs.Conditions.{TargetFits}
use Rattle.ceu_low_par.specs.Conditions.{AreNodes}
use Rattle.ceu_codegen.specs.Conditions.{planned, OwnFits, CodesFit, KernelFits}
use Rattle.ceu_codegen.proofs.Each.{Among, among_left, among_right, BlockEach, CodesEach, Known, Held, block_each, are_append, one_most}
use Rattle.ceu_codegen.proofs.Scopes.{SeenBelow, declared_below}
use Rattle.ceu_codegen.proofs.Searched.{RowsFit, or_fits, block_finds, kernel_rows, size_small}
use Rattle.ceu_codegen.proofs.Fits.{block_fits}
use denote.Hole.Carrier

-- ---- numbers that count up are below their count

are_counted : (k : ℕ) (xs : List ℕ) (n : ℕ) → IsTrue (counts_from k xs) → k + length xs ≤ n → AreNodes n xs
are_counted k [] n h low = tt
are_counted k (x ∷ xs) n h low =
    let e = and_parts (x == k) (counts_from (k + 1) xs) h in
    (omega (arith, eqb-true x k e.0), are_counted (k + 1) xs n e.1 (omega arith))

-- ---- the range of a node

abbrev numbers : List GateRange → List ℕ
numbers rs = map (λ (r : GateRange). r.node) rs

codes_numbers : (table : List ℕ) (cs : List KCode) → numbers (codes_ranges table cs) ≡ codes_nodes cs
codes_numbers table [] = refl
codes_numbers table (c ∷ cs) =
    let later = table ++ block_gates table c.body ∷ [] in
    map-append (λ (r : GateRange). r.node) (block_ranges table 0 c.body) (codes_ranges later cs)
    ∙ ap (λ (l : List ℕ). l ++ numbers (codes_ranges later cs)) (block_numbers table 0 c.body) ∙ ap (λ (l : List ℕ). block_nodes c.body ++ l) (codes_numbers later cs)

all_numbers : (K : Kernel) → numbers (ranges K) ≡ block_nodes K.body ++ codes_nodes K.codes
unfolding ranges
all_numbers K =
    let table = gates_from [] K.codes in
    map-append (λ (r : GateRange). r.node) (block_ranges table 0 K.body) (codes_ranges [] K.codes)
    ∙ ap (λ (l : List ℕ). l ++ numbers (codes_ranges [] K.codes)) (block_numbers table 0 K.body) ∙ ap (λ (l : List ℕ). block_nodes K.body ++ l) (codes_numbers [] K.codes)

pub pick : {X : Type 0} (t : Bool) (a b : X) → t ≡ true → (if t then a else b) ≡ a
pick true a b e = refl
pick false a b e = cc

skip : {X : Type 0} (t : Bool) (a b : X) → t ≡ false → (if t then a else b) ≡ b
skip true a b e = cc
skip false a b e = refl

pub record Numbered (f : GateRange → ℕ) (k : ℕ) (rs : List GateRange) (r : GateRange) : Type 0 where
  pub number : number_of f r.node rs ≡ f r
  pub from : k ≤ r.node
  pub below : r.node < k + length rs

numbered : (f : GateRange → ℕ) (k : ℕ) (rs : List GateRange) (r : GateRange) → IsTrue (counts_from k (numbers rs)) → Among rs r → Numbered f k rs r
numbered f k [] r ok h = absurd h
numbered f k (x ∷ xs) r ok (inl e) =
    let same : x.node ≡ r.node = ap (λ (q : GateRange). q.node) e in
    let own : x.node ≡ k = eqb-true x.node k (and_parts (x.node == k) (counts_from (k + 1) (numbers xs)) ok).0 in
    record {
      number = pick (x.node == r.node) (f x) (number_of f r.node xs) (eq-eqb x.node r.node same) ∙ ap f e;
      from = omega (arith, same, own);
      below = omega (arith, same, own);
    }
numbered f k (x ∷ xs) r ok (inr h) =
    let parts = and_parts (x.node == k) (counts_from (k + 1) (numbers xs)) ok in
    let own : x.node ≡ k = eqb-true x.node k parts.0 in
    let rest = numbered f (k + 1) xs r parts.1 h in
    record {
      number = skip (x.node == r.node) (f x) (number_of f r.node xs) (ne_eqb x.node r.node (λ q. omega (arith, own, q, rest.from))) ∙ rest.number;
      from = omega (arith, rest.from);
      below = omega (arith, rest.below);
    }

reached : (rs : List GateRange) (r : GateRange) → Among rs r → r.first + r.count ≤ reach rs
reached [] r h = absurd h
reached (x ∷ xs) r (inl e) = let same : x.first + x.count ≡ r.first + r.count = ap (λ (q : GateRange). q.first + q.count) e in more (x.first + x.count) (r.first + r.count) (reach xs) same
  where
    more : (a b m : ℕ) → a ≡ b → b ≤ max a m
    more a b m e = grind arith
reached (x ∷ xs) r (inr h) = more (x.first + x.count) (r.first + r.count) (reach xs) (reached xs r h)
  where
    more : (a b m : ℕ) → b ≤ m → b ≤ max a m
    more a b m e = grind arith

-- ---- tables of gates

entry_kept : (c x : ℕ) (xs : List ℕ) → c < length xs → entry c (xs ++ x ∷ []) ≡ entry c xs
entry_kept c x [] h = absurd (omega arith)
entry_kept zero x (y ∷ ys) h = refl
entry_kept (suc c) x (y ∷ ys) h = entry_kept c x ys (omega arith)

entry_last : (x : ℕ) (xs : List ℕ) → entry (length xs) (xs ++ x ∷ []) ≡ x
entry_last x [] = refl
entry_last x (y ∷ ys) = entry_last x ys

longer : (x : ℕ) (xs : List ℕ) → length (xs ++ x ∷ []) ≡ length xs + 1
longer x [] = refl
longer x (y ∷ ys) = omega (arith, longer x ys)

some_gates : (table : List ℕ) (b : KBlock) → 1 ≤ block_gates table b
unfolding stmt_gates
some_gates table (KBlock' n ds x list) = one_most _ _ refl

own_range : (table : List ℕ) (first : ℕ) (b : KBlock) → Among (block_ranges table first b) (range (node_of_block b) first (block_gates table b))
unfolding stmt_ranges
own_range table first (KBlock' n ds x list) = inl refl

code_next : (k : ℕ) (c : KCode) (all cs : List KCode) → ((j : ℕ) → code_at (k + j) all ≡ code_at j (c ∷ cs)) → (j : ℕ) → code_at (k + 1 + j) all ≡ code_at j cs
code_next k c all cs at j = let same : k + 1 + j ≡ k + suc j = omega arith in ap (λ (n : ℕ). code_at n all) same ∙ at (suc j)

-- ---- all blocks have their gates

module _ (K : Kernel) (names : List (List ℕ)) (p : Planned) (g : GatePlan) where
  abbrev HeldIn : Type 0
  HeldIn = (r : GateRange) → Among (ranges K) r → Held K names p g [] None (ranges K) r

  abbrev KnownBelow : (k : ℕ) → List ℕ → Type 0
  KnownBelow k table = (c : ℕ) → c < k → Known K names p g table None (ranges K) c

  known_more : (k x : ℕ) (table : List ℕ) → length table ≡ k → KnownBelow k table → Known K names p g (table ++ x ∷ []) None (ranges K) k → KnownBelow (k + 1) (table ++ x ∷ [])
  known_more k x table long known last c below = go (nat_lt c k) refl
    where
      go : (b : Bool) → nat_lt c k ≡ b → Known K names p g (table ++ x ∷ []) None (ranges K) c
      go true e =
          let low : c < k = ltb-true c k e in
          let h = known c low in
          let kept = entry_kept c x table (omega (arith, long)) in
          record { counted = kept ∙ h.counted; some = omega (arith, kept, h.some); node = h.node }
      go false e = let same : c ≡ k = omega (arith, ltb-false c k e) in subst (λ (n : ℕ). Known K names p g (table ++ x ∷ []) None (ranges K) n) (sym same) last

  codes_each : (k : ℕ) (table : List ℕ) (cs : List KCode) → length table ≡ k → ((j : ℕ) → code_at (k + j) K.codes ≡ code_at j cs) → HeldIn → KnownBelow k table → IsTrue (codes_ok K names k cs) →
      AreNodes p.slot_count (codes_slots cs) → ((r : GateRange) → Among (codes_ranges table cs) r → Among (ranges K) r) → CodesEach (OwnFits p g K) cs × KnownBelow (k + length cs) (gates_from table cs)
  codes_each k table [] long at held known ok ss inside = (tt, λ c below. known c (omega arith))
  codes_each k table (c ∷ cs) long at held known ok ss inside =
      let parts = and_parts (list_all (is_parameter K names) c.params && nat_le (length c.params) 255 && block_ok K names (with_decls c.params (body_scope K names (Some k) c.body c.result)) c.body) (codes_ok K names (k + 1) cs) ok in
      let body = (and_parts (list_all (is_parameter K names) c.params && nat_le (length c.params) 255) (block_ok K names (with_decls c.params (body_scope K names (Some k) c.body c.result)) c.body) parts.0).1 in
      let l = are_append p.slot_count (decl_slots c.params ++ block_slots c.body) (codes_slots cs) ss in
      let m = are_append p.slot_count (decl_slots c.params) (block_slots c.body) l.0 in
      let each = block_each K names p g table (Some k) (ranges K)
      (λ d above there. let h = known d (ltb-true d k above) in record { counted = h.counted; some = h.some; node = h.node })
      (λ r h. let q = held r h in record { first = q.first; count = q.count; low = q.low; node = q.node })
      (with_decls c.params (body_scope K names (Some k) c.body c.result)) 0 c.body refl body m.1
      (λ r h. inside r (among_left (block_ranges table 0 c.body) (codes_ranges (table ++ block_gates table c.body ∷ []) cs) r h)) in
      let own = held (range (node_of_block c.body) 0 (block_gates table c.body))
      (inside _ (among_left (block_ranges table 0 c.body) (codes_ranges (table ++ block_gates table c.body ∷ []) cs) _ (own_range table 0 c.body))) in
      let here : body_node K k ≡ node_of_block c.body = ap (λ (n : ℕ). body_node K n) (k_plus k) ∙ ap node_of_body (at 0) in
      let last : entry k (table ++ block_gates table c.body ∷ []) ≡ block_gates table c.body = ap (λ (n : ℕ). entry n (table ++ block_gates table c.body ∷ [])) (sym long) ∙ entry_last (block_gates table c.body) table in
      let next = known_more k (block_gates table c.body) table long known
      (record { counted = last ∙ sym own.count ∙ ap (λ (n : ℕ). (planned p g).count n) (sym here); some = omega (arith, last, some_gates table c.body); node = omega (arith, here, own.node) }) in
      let rest = codes_each (k + 1) (table ++ block_gates table c.body ∷ []) cs (longer (block_gates table c.body) table ∙ ap (λ (n : ℕ). n + 1) long) (code_next k c K.codes cs at) held next parts.1 l.1
      (λ r h. inside r (among_right (block_ranges table 0 c.body) (codes_ranges (table ++ block_gates table c.body ∷ []) cs) r h)) in
      ((each, rest.0), λ d below. rest.1 d (omega arith))
    where
      k_plus : (n : ℕ) → n ≡ n + 0
      k_plus n = omega arith

-- ---- the whole

in_codes : (K : Kernel) (r : GateRange) → Among (codes_ranges [] K.codes) r → Among (ranges K) r
unfolding ranges
in_codes K r h = among_right (block_ranges (gates_from [] K.codes) 0 K.body) (codes_ranges [] K.codes) r h

in_body : (K : Kernel) (r : GateRange) → Among (block_ranges (gates_from [] K.codes) 0 K.body) r → Among (ranges K) r
unfolding ranges
in_body K r h = among_left (block_ranges (gates_from [] K.codes) 0 K.body) (codes_ranges [] K.codes) r h

outer_slots : (slots : ℕ) (b : KBlock) → AreNodes slots (block_slots b) → AreNodes slots (decl_slots (out-KBlock b).decls)
unfolding stmt_slots out-KBlock Carrier.out
outer_slots slots (KBlock' n ds x list) h = (are_append slots (decl_slots ds) (list_slots list) h).0

module _ (K : Kernel) (p : Planned) (g : GatePlan) (ok : Proper K) (law : Lawful p K) (firsts : IsByNode K (first_gate K) g.first) (counts : IsByNode K (gate_count K) g.count) (few : gates K ≤ 3000) where
  abbrev names : List (List ℕ)
  names = outer_names_from [] K.codes

  -- the tests of a proper kernel
  pub record Tests : Type 0 where
    pub nodes : IsTrue (counts_from 0 (block_nodes K.body ++ codes_nodes K.codes))
    pub slots : IsTrue (counts_from 0 (block_slots K.body ++ codes_slots K.codes))
    pub body : IsTrue (block_ok K names (body_scope K names None K.body ty.S32) K.body)
    pub codes : IsTrue (codes_ok K names 0 K.codes)

  tests : Tests
  unfolding is_proper is_numbered
  tests =
      let a = and_parts _ (codes_ok K names 0 K.codes) ok in
      let b = and_parts _ (block_ok K names (body_scope K names None K.body ty.S32) K.body) a.0 in
      let c = and_parts _ _ b.0 in
      let d = and_parts _ _ c.0 in
      let e = and_parts (counts_from 0 (block_nodes K.body ++ codes_nodes K.codes)) (counts_from 0 (block_slots K.body ++ codes_slots K.codes)) d.0 in
      record { nodes = e.0; slots = e.1; body = b.1; codes = a.1 }

  held : HeldIn K names p g
  unfolding first_gate gate_count
  held r h =
      let order : IsTrue (counts_from 0 (numbers (ranges K))) = ap (counts_from 0) (all_numbers K) ∙ tests.nodes in
      let first = numbered the_first 0 (ranges K) r order h in
      let count = numbered the_count 0 (ranges K) r order h in
      let long : length (ranges K) ≡ length (block_nodes K.body ++ codes_nodes K.codes) = sym (length-map (ranges K) (λ (q : GateRange). q.node)) ∙ ap (length {A = ℕ}) (all_numbers K) in
      let below : r.node < length g.first = omega (arith, first.below, long, firsts.one_each) in
      let low : r.node < length g.count = omega (arith, first.below, long, counts.one_each) in
      let over = reached (ranges K) r h in
      record {
        first = firsts.each r.node below ∙ first.number;
        count = counts.each r.node low ∙ count.number;
        low = omega (arith, over, ranges_within K ok, few);
        node = below;
      }

  all_slots : AreNodes p.slot_count (block_slots K.body ++ codes_slots K.codes)
  all_slots = are_counted 0 (block_slots K.body ++ codes_slots K.codes) p.slot_count tests.slots (omega (arith, law.slots_counted))

  pub all_nodes : AreNodes (length g.first) (block_nodes K.body ++ codes_nodes K.codes)
  all_nodes = are_counted 0 (block_nodes K.body ++ codes_nodes K.codes) (length g.first) tests.nodes (omega (arith, firsts.one_each))

  codes_have : CodesEach (OwnFits p g K) K.codes × KnownBelow K names p g (0 + length K.codes) (gates_from [] K.codes)
  codes_have =
      codes_each K names p g 0 [] K.codes refl (λ j. ap (λ (n : ℕ). code_at n K.codes) (plus j)) held (λ c below. absurd (omega arith)) tests.codes
      (are_append p.slot_count (block_slots K.body) (codes_slots K.codes) all_slots).1 (in_codes K)
    where
      plus : (j : ℕ) → 0 + j ≡ j
      plus j = omega arith

  body_has : BlockEach (OwnFits p g K) K.body
  body_has =
      block_each K names p g (gates_from [] K.codes) None (ranges K)
      (λ c above there. let h = codes_have.1 c (omega arith) in record { counted = h.counted; some = h.some; node = h.node })
      (λ r h. let q = held r h in record { first = q.first; count = q.count; low = q.low; node = q.node })
      (body_scope K names None K.body ty.S32) 0 K.body refl tests.body (are_append p.slot_count (block_slots K.body) (codes_slots K.codes) all_slots).0 (in_body K)

  pub rows_fit : RowsFit K (kernel_pools K)
  rows_fit = kernel_rows K p g body_has codes_have.0

  -- the declarations of the outermost block
  outer_seen : SeenBelow p.slot_count (declared_seen [] (out-KBlock K.body).decls [])
  outer_seen = declared_below p.slot_count [] (out-KBlock K.body).decls [] (outer_slots p.slot_count K.body (are_append p.slot_count (block_slots K.body) (codes_slots K.codes) all_slots).0) tt

  code_seen : (k : ℕ) (c : KCode) → AreNodes p.slot_count (decl_slots c.params) → SeenBelow p.slot_count (with_decls c.params (body_scope K names (Some k) c.body c.result)).seen
  code_seen k c low = declared_below p.slot_count (pool_slots c.params ++ []) c.params [] low tt

  codes_find : (m k : ℕ) (cs : List KCode) → IsTrue (codes_ok K names k cs) → AreNodes p.slot_count (codes_slots cs) → TargetFits p.slot_count (codes_target m cs)
  codes_find m k [] good ss = tt
  codes_find m k (c ∷ cs) good ss =
      let sc = with_decls c.params (body_scope K names (Some k) c.body c.result) in
      let parts = and_parts (list_all (is_parameter K names) c.params && nat_le (length c.params) 255 && block_ok K names sc c.body) (codes_ok K names (k + 1) cs) good in
      let body = (and_parts (list_all (is_parameter K names) c.params && nat_le (length c.params) 255) (block_ok K names sc c.body) parts.0).1 in
      let l = are_append p.slot_count (decl_slots c.params ++ block_slots c.body) (codes_slots cs) ss in
      let n = are_append p.slot_count (decl_slots c.params) (block_slots c.body) l.0 in
      or_fits p.slot_count (block_target m c.body) (codes_target m cs) (block_finds K names p.slot_count outer_seen m sc c.body (code_seen k c n.0) body n.1) (codes_find m (k + 1) cs parts.1 l.1)

  targets_fit : (m : ℕ) → TargetFits p.slot_count (escape_target K m)
  unfolding escape_target
  targets_fit m =
      let l = are_append p.slot_count (block_slots K.body) (codes_slots K.codes) all_slots in
      or_fits p.slot_count (block_target m K.body) (codes_target m K.codes) (block_finds K names p.slot_count outer_seen m (body_scope K names None K.body ty.S32) K.body tt tests.body l.0) (codes_find m 0 K.codes tests.codes l.1)

  sizes_small : (slot : ℕ) → pool_size K slot ≤ 65535
  sizes_small slot = size_small K slot (kernel_pools K) rows_fit

  body_node_low : (b : KBlock) → AreNodes (length g.first) (block_nodes b) → (out-KBlock b).node < length g.first
  unfolding block_nodes out-KBlock Carrier.out
  body_node_low (KBlock' n ds x list) h = h.0

  codes_fit : (k : ℕ) (cs : List KCode) → IsTrue (codes_ok K names k cs) → AreNodes (length g.first) (codes_nodes cs) → AreNodes p.slot_count (codes_slots cs) → CodesEach (OwnFits p g K) cs → CodesFit p g K cs
  codes_fit k [] good ns ss own = tt
  codes_fit k (c ∷ cs) good ns ss own =
      let sc = with_decls c.params (body_scope K names (Some k) c.body c.result) in
      let parts = and_parts (list_all (is_parameter K names) c.params && nat_le (length c.params) 255 && block_ok K names sc c.body) (codes_ok K names (k + 1) cs) good in
      let body = (and_parts (list_all (is_parameter K names) c.params && nat_le (length c.params) 255) (block_ok K names sc c.body) parts.0).1 in
      let l = are_append p.slot_count (decl_slots c.params ++ block_slots c.body) (codes_slots cs) ss in
      let n = are_append p.slot_count (decl_slots c.params) (block_slots c.body) l.0 in
      let m = are_append (length g.first) (block_nodes c.body) (codes_nodes cs) ns in
      (block_fits K names p g outer_seen targets_fit sizes_small sc c.body (record { seen = code_seen k c n.0; aims = (body_node_low c.body m.0, tt) }) body m.0 n.1 own.0, codes_fit (k + 1) cs parts.1 m.1 l.1 own.1)

  pub kernel_fits : KernelFits p g K
  kernel_fits =
      let l = are_append p.slot_count (block_slots K.body) (codes_slots K.codes) all_slots in
      let m = are_append (length g.first) (block_nodes K.body) (codes_nodes K.codes) all_nodes in
      record {
        body = block_fits K names p g outer_seen targets_fit sizes_small (body_scope K names None K.body ty.S32) K.body (record { seen = tt; aims = (body_node_low K.body m.0, tt) }) tests.body m.0 l.0 body_has;
        codes = codes_fit 0 K.codes tests.codes m.1 l.1 codes_have.0;
      }
