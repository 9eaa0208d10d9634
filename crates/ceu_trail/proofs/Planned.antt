-- What a plan of gates says of the parts of a program of one trail.
use Rattle.std.proofs.Common.{◌≡◌, ◌≢◌, refl, sym, ap, ◌∙◌, subst, ◌<◌, ◌≤◌, ℕ, ◌+◌, Bool, true, false, ◌==◌, if◌then◌else◌, List, [], ◌∷◌, ◌++◌, length, map, eqb-true, arith}
use Rattle.std.proofs.lemmas.List.{append-nil, length-map, length-append}
use Rattle.std.proofs.lemmas.Bool.{eq-eqb, ne_eqb}
use Rattle.ceu_code.specs.declared.image.Image.{Image}
use Rattle.ceu_tree.specs.declared.kernel.Kernel.{Kernel}
use Rattle.ceu_tree.specs.declared.kernel.KCode.{KCode}
use Rattle.ceu_tree.specs.declared.kernel.KNode.{KNode}
use Rattle.ceu_tree.specs.declared.kernel.KBlock.{KBlock, out-KBlock}
use Rattle.ceu_tree.specs.Needs.{stmt_gates, block_gates, gates_from, gates}
use Rattle.ceu_tree.specs.Numbering.{block_nodes, codes_nodes, counts_from, is_numbered}
use Rattle.ceu_tree.specs.Proper.{Proper, is_proper}
use Rattle.ceu_tree.specs.Focus.{Frame, Focus, Here, In}
use Rattle.ceu_gates.specs.declared.ranges.GateRange.{GateRange}
use Rattle.ceu_gates.specs.Ranges.{range, node_ranges, stmt_ranges, block_ranges, codes_ranges, ranges, number_of, the_first, the_count, first_gate, gate_count, nodes}
use Rattle.ceu_gates.proofs.Numbered.{block_numbers}
use Rattle.laws_meaning_basics.specs.Shape.{Part, ABlock, AStatement, AnEnd, FrameFits, Around, nothing_around, one_around, program_part}
use Rattle.ceu_shape.specs.Plans.{Plan}
use Rattle.ceu_shape.specs.Searches.{node_of_block}
use Rattle.ceu_shape.specs.Shape.{shape}
use Rattle.ceu_single.specs.Single.{block_single, Single}
use Rattle.ceu_trail.specs.Compiled.{GatesPlanned}
use Rattle.ceu_trail.specs.Parts.{PartSingle, GatesAt, PartGates, part_gates}
use Rattle.ceu_trail.specs.PartLaws.{GatesAreFirst, GatesNest}
use Rattle.ceu_trail.proofs.Cuts.{Cut, cut_all, cut_then, cut_left}
use Rattle.ceu_trail.proofs.Singles.{last_holds, first_holds, no_code, body_single}
use Rattle.ceu_trail.proofs.Codes.{frame_single}
use Rattle.ceu_trail.proofs.Gates.{part_ranges, each_range, frame_ranges, needed, frame_needs, block_some, stmt_some, block_ranges_are}

-- ---- the row of a node among rows that are numbered

abbrev numbers : List GateRange → List ℕ
numbers rs = map (λ (r : GateRange). r.node) rs

picked : {A : Type 0} (b : Bool) (x y : A) → b ≡ true → (if b then x else y) ≡ x
picked true x y e = refl
picked false x y e = cc

passed : {A : Type 0} (b : Bool) (x y : A) → b ≡ false → (if b then x else y) ≡ y
passed true x y e = cc
passed false x y e = refl

row_number : (k : ℕ) (before : List GateRange) (r : GateRange) (after : List GateRange) → counts_from k (numbers (before ++ r ∷ after)) ≡ true → r.node ≡ k + length before
row_number k [] r after h = let e = eqb-true r.node k (first_holds (r.node == k) (counts_from (k + 1) (numbers after)) h) in omega (arith, e)
row_number k (x ∷ before) r after h =
    let e = row_number (k + 1) before r after (last_holds (x.node == k) (counts_from (k + 1) (numbers (before ++ r ∷ after))) h) in omega (arith, e)

row_found : (f : GateRange → ℕ) (k : ℕ) (before : List GateRange) (r : GateRange) (after : List GateRange) → counts_from k (numbers (before ++ r ∷ after)) ≡ true → number_of f r.node (before ++ r ∷ after) ≡ f r
row_found f k [] r after h = picked (r.node == r.node) (f r) (number_of f r.node after) (eq-eqb r.node r.node refl)
row_found f k (x ∷ before) r after h =
    let later = last_holds (x.node == k) (counts_from (k + 1) (numbers (before ++ r ∷ after))) h in
    let here = eqb-true x.node k (first_holds (x.node == k) (counts_from (k + 1) (numbers (before ++ r ∷ after))) h) in
    let there = row_number (k + 1) before r after later in
    let other : x.node ≢ r.node = λ q. omega (arith, here, there, q) in
    passed (x.node == r.node) (f x) (number_of f r.node (before ++ r ∷ after)) (ne_eqb x.node r.node other) ∙ row_found f (k + 1) before r after later

-- ---- the rows of a program

module _ (K : Kernel) where
  table : List ℕ
  table = gates_from [] K.codes

  rows_numbered : (cs : List KCode) (b : KBlock) (G : List ℕ) → cs ≡ [] → numbers (block_ranges G 0 b ++ codes_ranges [] cs) ≡ block_nodes b ++ codes_nodes cs
  rows_numbered [] b G e = ap numbers (append-nil (block_ranges G 0 b)) ∙ block_numbers G 0 b ∙ sym (append-nil (block_nodes b))
  rows_numbered (c ∷ cs) b G e = absurd (cc)

  numbers_are : Single K → numbers (ranges K) ≡ nodes K
  unfolding ranges
  numbers_are s = rows_numbered K.codes K.body (gates_from [] K.codes) (no_code K s)

  pub in_order : Proper K → counts_from 0 (nodes K) ≡ true
  unfolding is_proper is_numbered
  in_order ok = first_holds _ _ (first_holds _ _ (first_holds _ _ (first_holds _ _ (first_holds _ _ ok))))

  whole_ranges : Cut (ranges K) (block_ranges (gates_from [] K.codes) 0 K.body)
  unfolding ranges
  whole_ranges = cut_left (block_ranges (gates_from [] K.codes) 0 K.body) (codes_ranges [] K.codes) (block_ranges (gates_from [] K.codes) 0 K.body) (cut_all (block_ranges (gates_from [] K.codes) 0 K.body))

  record Row (n c : ℕ) : Type 0 where
    pub inside : n < length (nodes K)
    pub first : first_gate K n ≡ 0
    pub count : gate_count K n ≡ c

  row_of : (n c : ℕ) (more : List GateRange) → Proper K → Single K → Cut (ranges K) (range n 0 c ∷ more) → Row n c
  unfolding first_gate gate_count
  row_of n c more ok single cut =
      let names : numbers (cut.before ++ range n 0 c ∷ (more ++ cut.after)) ≡ nodes K = ap numbers (sym cut.is) ∙ numbers_are single in
      let counted : counts_from 0 (numbers (cut.before ++ range n 0 c ∷ (more ++ cut.after))) ≡ true = ap (counts_from 0) names ∙ in_order ok in
      let long : length (nodes K) ≡ length (cut.before ++ range n 0 c ∷ (more ++ cut.after)) = sym (ap length names) ∙ length-map (cut.before ++ range n 0 c ∷ (more ++ cut.after)) (λ (r : GateRange). r.node) in
      let parts : length (cut.before ++ range n 0 c ∷ (more ++ cut.after)) ≡ length cut.before + length (range n 0 c ∷ (more ++ cut.after)) = length-append cut.before (range n 0 c ∷ (more ++ cut.after)) in
      let at = row_number 0 cut.before (range n 0 c) (more ++ cut.after) counted in
      record {
        inside = omega (arith, long, parts, at);
        first = ap (number_of the_first n) cut.is ∙ row_found the_first 0 cut.before (range n 0 c) (more ++ cut.after) counted;
        count = ap (number_of the_count n) cut.is ∙ row_found the_count 0 cut.before (range n 0 c) (more ++ cut.after) counted;
      }

-- ---- the parts of a program

pub record Known (image : Image) (P : Plan) (K : Kernel) (d : Part) : Type 0 where
  pub single : PartSingle d
  pub rows : Cut (ranges K) (part_ranges (gates_from [] K.codes) d)
  pub fits : needed (gates_from [] K.codes) d ≤ gates K

module _ (image : Image) (P : Plan) (K : Kernel) where
  program_known : Single K → Known image P K (program_part K)
  unfolding gates
  program_known s = record { single = body_single K s; rows = whole_ranges K; fits = omega arith }

  one_further : (fr : Frame) (d e : Part) → Single K → FrameFits K 1 fr d e → Known image P K d → Known image P K e
  one_further fr d e s fits x =
      let n = frame_needs (gates_from [] K.codes) K 1 fr d e s fits x.single in
      record {
        single = frame_single K 1 fr d e s fits x.single;
        rows = cut_then (ranges K) (part_ranges (gates_from [] K.codes) d) (part_ranges (gates_from [] K.codes) e) x.rows (frame_ranges (gates_from [] K.codes) K 1 fr d e s fits x.single);
        fits = omega (arith, n, x.fits);
      }

  known_further : {A : Type 0} (f : Focus A) (d e : Part) → Single K → Around K 1 A f d e → Known image P K d → Known image P K e
  known_further (Here a) d e s nothing_around x = x
  known_further (In fr f) d e s (one_around {e = g} fits inner) x = known_further f g e s inner (one_further fr d g s fits x)

  pub known : {A : Type 0} (f : Focus A) (d : Part) → Single K → Around K 1 A f (program_part K) d → Known image P K d
  known f d s around = known_further f (program_part K) d s around (program_known s)

  block_row : (b : KBlock) → Proper K → Single K → block_single b ≡ true → Cut (ranges K) (block_ranges (gates_from [] K.codes) 0 b) → Row K (node_of_block b) (block_gates (gates_from [] K.codes) b)
  block_row b ok s h cut =
      row_of K (node_of_block b) (block_gates (gates_from [] K.codes) b) (each_range (gates_from [] K.codes) (out-KBlock b).list) ok s
      (subst (Cut (ranges K)) (block_ranges_are (gates_from [] K.codes) b h) cut)

  statement_row : (s : KNode) → Proper K → Single K → Cut (ranges K) (node_ranges (gates_from [] K.codes) 0 s) → Row K s.node (stmt_gates (gates_from [] K.codes) s.stmt)
  statement_row s ok single cut = row_of K s.node (stmt_gates (gates_from [] K.codes) s.stmt) (stmt_ranges (gates_from [] K.codes) 0 s.stmt) ok single cut

  gates_at : (n c : ℕ) → GatesPlanned P K → image.gates ≡ gates K → Row K n c → 1 ≤ c → c ≤ gates K → GatesAt image P n
  gates_at n c plan same row some fits = record {
    first_is = plan.first n row.inside ∙ row.first;
    some = let e = plan.count n row.inside in omega (arith, e, row.count, some);
    within = let e = plan.count n row.inside in omega (arith, e, row.count, same, fits);
  }

  part_gates_at : (d : Part) → Proper K → Single K → GatesPlanned P K → image.gates ≡ gates K → Known image P K d → PartGates image P d
  part_gates_at (ABlock turn sc b) ok s plan same x =
      gates_at (node_of_block b) (block_gates (gates_from [] K.codes) b) plan same (block_row b ok s x.single x.rows) (block_some (gates_from [] K.codes) b) x.fits
  part_gates_at (AStatement sc s) ok single plan same x =
      gates_at s.node (stmt_gates (gates_from [] K.codes) s.stmt) plan same (statement_row s ok single x.rows) (stmt_some (gates_from [] K.codes) s.stmt x.single) x.fits
  part_gates_at AnEnd ok s plan same x = tt

  -- how many they are
  part_count : (d : Part) → Proper K → Single K → GatesPlanned P K → Known image P K d → part_gates P d ≡ needed (gates_from [] K.codes) d
  part_count (ABlock turn sc b) ok s plan x = let row = block_row b ok s x.single x.rows in plan.count (node_of_block b) row.inside ∙ row.count
  part_count (AStatement sc s) ok single plan x = let row = statement_row s ok single x.rows in plan.count s.node row.inside ∙ row.count
  part_count AnEnd ok s plan x = refl

  image_gates : (turns levels : ℕ) → image ≡ shape P K turns levels → image.gates ≡ gates K
  unfolding shape
  image_gates turns levels e = ap (λ (i : Image). i.gates) e

  gates_some : 1 ≤ gates K
  unfolding gates
  gates_some = let b = block_some (gates_from [] K.codes) K.body in omega (arith, b)

pub gates_are_first : GatesAreFirst
gates_are_first image P width K f d c around =
    let same = image_gates image P K c.shaped.0 c.shaped.1 c.shaped.3 in
    let some = gates_some image P K in
    let x = known image P K f d c.single around in
    (omega (arith, same, some), x.single, part_gates_at image P K d c.proper c.single c.gates same x)

pub gates_nest : GatesNest
gates_nest image P width K f fr d e c around fits =
    let x = known image P K f d c.single around in
    let y = one_further image P K fr d e c.single fits x in
    let n = frame_needs (gates_from [] K.codes) K 1 fr d e c.single fits x.single in
    let a = part_count image P K d c.proper c.single c.gates x in
    let b = part_count image P K e c.proper c.single c.gates y in
    omega (arith, n, a, b)
