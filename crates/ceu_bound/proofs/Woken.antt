-- What an emission costs, by the loops that it wakes.
use Rattle.std.proofs.Common.{◌≡◌, refl, sym, ap, ◌∙◌, ℕ, zero, suc, ◌+◌, ◌*◌, ◌<◌, ◌≤◌, Bool, true, false, not, ◌&&◌, if◌then◌else◌, ◌==◌, List, [], ◌∷◌, ◌++◌, map, length, drop, add_assoc, arith}
use Rattle.std.specs.Prelude.{Option, Some, None}
use Rattle.std.specs.List.{list_all}
use Rattle.ceu_base.specs.declared.kinds.Pos.{Pos}
use Rattle.ceu_tree.specs.declared.kernel.Kernel.{Kernel}
use Rattle.ceu_tree.specs.declared.kernel.KCode.{KCode}
use Rattle.ceu_tree.specs.declared.kernel.KEvent.{KEvent}
use Rattle.ceu_tree.specs.declared.kernel.KLoop.{KLoop}
use Rattle.ceu_tree.specs.declared.kernel.KNode.{KNode}
use Rattle.ceu_tree.specs.declared.kernel.KBlock.{KBlock, KBlock', out-KBlock, Row_of-KNode, end_of-KNode, more_of-KNode}
use Rattle.ceu_tree.specs.declared.kernel.KArm.{KArm, KArm'}
use Rattle.ceu_tree.specs.declared.kernel.KStmt.{KStmt, Row_of-KArm, end_of-KArm, more_of-KArm, Row_of-KBlock, end_of-KBlock, more_of-KBlock, AwaitCode, Spawn, Do, If', Loop, Par'}
use Rattle.ceu_tree.specs.Greatest.{total}
use Rattle.ceu_tree.specs.Paths.{has_end, quick, quick_node}
use Rattle.ceu_tree.specs.Costs.{Cost, cost, nothing, plus, times, most, cost_at, no_bound, is_calm, calm_block, calm_arm, calm_nodes, calm_arms, calm_node, awaited_event, paced_nodes, paced_body, paced, loop_enter, enter, enter_block, enter_arm, enter_nodes, enter_arms, enter_node, enter_list, body_cost, is_event, is_owner, loop_woken, woken, woken_block, woken_arm, woken_nodes, woken_arms, woken_blocks, woken_codes, emissions_from}
use Rattle.ceu_tree.proofs.CalmLaws.{paced_of_body}
use Rattle.ceu_tree.proofs.WokenLaws.{body_cost_of}
use Rattle.ceu_paths.specs.Cap.{cap}
use Rattle.ceu_paths.proofs.CapLaws.{same_plus, same_times, cap_times}
use Rattle.ceu_paths.specs.Loops.{TrailLoop, trail_loop, loops, block_loops, arm_loops, nodes_loops, arms_loops, blocks_loops}
use Rattle.ceu_bound.specs.declared.tables.Part.{Part}
use Rattle.ceu_bound.specs.declared.tables.Tables.{Tables}
use Rattle.ceu_bound.specs.Parts.{pick, turn, costs, Same, SameTables}
use Rattle.ceu_bound.specs.Measured as measured
use Rattle.ceu_bound.specs.Waking as spec
use Rattle.ceu_bound.proofs.CostLaws.{pick_none, pick_turn, pick_plus, pick_times}
use Rattle.ceu_bound.proofs.Agree.{alike_plus, alike_if, enter_same}

-- ---- a calm statement costs the same whatever the codes cost

both_true : (m n : Bool) → (m && n) ≡ true → (m ≡ true) × (n ≡ true)
both_true true n h = (refl, h)
both_true false n h = absurd (cc)

module _ (P : List Bool) (E N M : List Cost) where
  mutual
    unfolding enter is_calm

    calm_free : (n : ℕ) (s : KStmt) → is_calm s ≡ true → enter P E N n s ≡ enter P E M n s
    calm_free n (AwaitCode c es f t) h = absurd (cc)
    calm_free n (Spawn c es p a) h = absurd (cc)
    calm_free n (Par' k slot _ bs) h = absurd (cc)
    calm_free n (Do t b) h = block_free b h
    calm_free n (If' _ arms last) h =
        let parts = both_true (calm_arms arms) (calm_block last) h in
        ap (λ k. most k (enter_block P E N last)) (arms_free arms parts.0) ∙ ap (λ k. most (enter_arms P E M arms) k) (block_free last parts.1)
    calm_free n (Loop k b) h = ap (loop_enter P n k b) (block_free b (both_true (not (no_bound k)) (calm_block b) h).1)
    calm_free n _ h = refl

    block_free : (b : KBlock) → calm_block b ≡ true → enter_block P E N b ≡ enter_block P E M b
    block_free (KBlock' n ds _ list) h = nodes_free list h

    arm_free : (a : KArm) → calm_arm a ≡ true → enter_arm P E N a ≡ enter_arm P E M a
    arm_free (KArm' c b) h = block_free b h

    nodes_free : {n : _} (r : Row_of-KNode n) → calm_nodes r ≡ true → enter_nodes P E N r ≡ enter_nodes P E M r
    nodes_free end_of-KNode h = refl
    nodes_free (more_of-KNode n p s rest) h =
        let parts = both_true (is_calm s) (calm_nodes rest) h in
        ap (λ k. if has_end (quick P n s) then plus k (enter_nodes P E N rest) else k) (calm_free n s parts.0) ∙
        ap (λ k. if has_end (quick P n s) then plus (enter P E M n s) k else enter P E M n s) (nodes_free rest parts.1)

    arms_free : {n : _} (r : Row_of-KArm n) → calm_arms r ≡ true → enter_arms P E N r ≡ enter_arms P E M r
    arms_free end_of-KArm h = refl
    arms_free (more_of-KArm a rest) h =
        let parts = both_true (calm_arm a) (calm_arms rest) h in
        ap (λ k. most k (enter_arms P E N rest)) (arm_free a parts.0) ∙ ap (λ k. most (enter_arm P E M a) k) (arms_free rest parts.1)

  list_free : (ss : List KNode) → list_all calm_node ss ≡ true → enter_list P E N ss ≡ enter_list P E M ss
  list_free [] h = refl
  list_free (s ∷ ss) h =
      let parts = both_true (calm_node s) (list_all calm_node ss) h in
      ap (λ k. if has_end (quick_node P s) then plus k (enter_list P E N ss) else k) (calm_free s.node s.stmt parts.0) ∙
      ap (λ k. if has_end (quick_node P s) then plus (enter_node P E M s) k else enter_node P E M s) (list_free ss parts.1)

if_some : (t : Bool) (x : Option ℕ) (e : ℕ) → (if t then x else None) ≡ Some e → (t ≡ true) × (x ≡ Some e)
if_some true x e h = (refl, h)
if_some false x e h = absurd (cc)

calm_rest : (ss : List KNode) (e : ℕ) → paced_nodes ss ≡ Some e → list_all calm_node (drop 1 ss) ≡ true
calm_rest [] e h = absurd (cc)
calm_rest (s ∷ ss) e h = (if_some (list_all calm_node ss) (awaited_event s.stmt) e h).0

rest_free : (P : List Bool) (E N M : List Cost) (k : KLoop) (b : KBlock) (e : ℕ) → paced k b ≡ Some e → enter_list P E N (drop 1 (out-KBlock b).list) ≡ enter_list P E M (drop 1 (out-KBlock b).list)
rest_free P E N M k b e h = list_free P E N M (drop 1 (out-KBlock b).list) (calm_rest (out-KBlock b).list e (sym (paced_of_body b) ∙ (if_some (no_bound k) (paced_body b) e h).1))

list_same : (w : Part) (P : List Bool) (E F N M : List Cost) → SameTables w E F → SameTables w N M → (ss : List KNode) → Same w (enter_list P E N ss) (enter_list P F M ss)
list_same w P E F N M events entering [] = refl
list_same w P E F N M events entering (s ∷ ss) =
    alike_if w (has_end (quick_node P s)) (plus (enter_node P E N s) (enter_list P E N ss)) (plus (enter_node P F M s) (enter_list P F M ss)) (enter_node P E N s) (enter_node P F M s)
    (alike_plus w (enter_node P E N s) (enter_node P F M s) (enter_list P E N ss) (enter_list P F M ss) (enter_same w P E F N M events entering s.node s.stmt) (list_same w P E F N M events entering ss))
    (enter_same w P E F N M events entering s.node s.stmt)

-- ---- the loops of a body

pub total_append : {X : Type 0} (f : X → ℕ) (xs ys : List X) → total f (xs ++ ys) ≡ total f xs + total f ys
total_append f [] ys = omega arith
total_append f (x ∷ xs) ys = ap (λ k. f x + k) (total_append f xs ys) ∙ sym (add_assoc (f x) (total f xs) (total f ys))

pub total_same : {X : Type 0} (f g : X → ℕ) → ((x : X) → cap (f x) ≡ cap (g x)) → (xs : List X) → cap (total f xs) ≡ cap (total g xs)
total_same f g e [] = refl
total_same f g e (x ∷ xs) = same_plus (f x) (g x) (total f xs) (total g xs) (e x) (total_same f g e xs)

module _ (w : Part) (P : List Bool) (E N : List Cost) (e : ℕ) where
  abbrev loop_part : TrailLoop → ℕ
  loop_part l = pick w (loop_woken P E N e l.kind l.body)

  mutual
    unfolding woken loops

    stmt_total : (n : ℕ) (p : Pos) (s : KStmt) → pick w (woken P E N e s) ≡ total loop_part (loops n p s)
    stmt_total n p (Do t b) = block_total b
    stmt_total n p (If' _ arms last) =
        pick_plus w (woken_arms P E N e arms) (woken_block P E N e last) ∙
        ap (λ k. k + pick w (woken_block P E N e last)) (arms_total arms) ∙ ap (λ k. total loop_part (arms_loops arms) + k) (block_total last) ∙
        sym (total_append loop_part (arms_loops arms) (block_loops last))
    stmt_total n p (Par' k slot _ bs) = blocks_total bs
    stmt_total n p (Loop k b) = pick_plus w (loop_woken P E N e k b) (woken_block P E N e b) ∙ ap (λ m. loop_part (trail_loop n p k b) + m) (block_total b)
    stmt_total n p _ = pick_none w

    pub block_total : (b : KBlock) → pick w (woken_block P E N e b) ≡ total loop_part (block_loops b)
    block_total (KBlock' n ds _ list) = nodes_total list

    arm_total : (a : KArm) → pick w (woken_arm P E N e a) ≡ total loop_part (arm_loops a)
    arm_total (KArm' c b) = block_total b

    nodes_total : {n : _} (r : Row_of-KNode n) → pick w (woken_nodes P E N e r) ≡ total loop_part (nodes_loops r)
    nodes_total end_of-KNode = pick_none w
    nodes_total (more_of-KNode n p s rest) =
        pick_plus w (woken P E N e s) (woken_nodes P E N e rest) ∙
        ap (λ k. k + pick w (woken_nodes P E N e rest)) (stmt_total n p s) ∙ ap (λ k. total loop_part (loops n p s) + k) (nodes_total rest) ∙
        sym (total_append loop_part (loops n p s) (nodes_loops rest))

    arms_total : {n : _} (r : Row_of-KArm n) → pick w (woken_arms P E N e r) ≡ total loop_part (arms_loops r)
    arms_total end_of-KArm = pick_none w
    arms_total (more_of-KArm a rest) =
        pick_plus w (woken_arm P E N e a) (woken_arms P E N e rest) ∙
        ap (λ k. k + pick w (woken_arms P E N e rest)) (arm_total a) ∙ ap (λ k. total loop_part (arm_loops a) + k) (arms_total rest) ∙
        sym (total_append loop_part (arm_loops a) (arms_loops rest))

    blocks_total : {n : _} (r : Row_of-KBlock n) → pick w (woken_blocks P E N e r) ≡ total loop_part (blocks_loops r)
    blocks_total end_of-KBlock = pick_none w
    blocks_total (more_of-KBlock b rest) =
        pick_plus w (woken_block P E N e b) (woken_blocks P E N e rest) ∙
        ap (λ k. k + pick w (woken_blocks P E N e rest)) (block_total b) ∙ ap (λ k. total loop_part (block_loops b) + k) (blocks_total rest) ∙
        sym (total_append loop_part (block_loops b) (blocks_loops rest))

-- ---- by the tables of the code

same_if : (t : Bool) (a b c d : ℕ) → (t ≡ true → cap a ≡ cap b) → cap c ≡ cap d → cap (if t then a else c) ≡ cap (if t then b else d)
same_if true a b c d h k = h refl
same_if false a b c d h k = k

pick_if : (w : Part) (t : Bool) (a b : Cost) → pick w (if t then a else b) ≡ (if t then pick w a else pick w b)
pick_if w true a b = refl
pick_if w false a b = refl

module _ (T : Tables) (E N : List Cost) (events : SameTables T.part (costs T.events.items) E) (e : ℕ) where
  rest_same : (k : KLoop) (b : KBlock) (f : ℕ) → paced k b ≡ Some f → cap (measured.enter_list T (drop 1 (out-KBlock b).list)) ≡ cap (pick T.part (body_cost T.passing.items E N b))
  unfolding measured.enter_list
  rest_same k b f h =
      list_same T.part T.passing.items (costs T.events.items) E (costs T.entering.items) (costs T.entering.items) events (λ k. refl) (drop 1 (out-KBlock b).list) ∙
      ap (λ c. cap (pick T.part c)) (rest_free T.passing.items E (costs T.entering.items) N k b f h ∙ sym (body_cost_of T.passing.items E N b))

  one_loop : (k : KLoop) (b : KBlock) (p : Option ℕ) → paced k b ≡ p →
      cap (if is_event e p then turn T.part + measured.enter_list T (drop 1 (out-KBlock b).list) else 0) ≡ cap (pick T.part (if is_event e p then plus (cost 1 0) (body_cost T.passing.items E N b) else nothing))
  one_loop k b None h = ap cap (sym (pick_none T.part))
  one_loop k b (Some f) h =
      same_if (e == f) (turn T.part + measured.enter_list T (drop 1 (out-KBlock b).list)) (pick T.part (plus (cost 1 0) (body_cost T.passing.items E N b))) 0 (pick T.part nothing)
      (λ yes. same_plus (turn T.part) (turn T.part) (measured.enter_list T (drop 1 (out-KBlock b).list)) (pick T.part (body_cost T.passing.items E N b)) refl (rest_same k b f h) ∙
      ap cap (sym (pick_plus T.part (cost 1 0) (body_cost T.passing.items E N b) ∙ ap (λ m. m + pick T.part (body_cost T.passing.items E N b)) (pick_turn T.part))))
      (ap cap (sym (pick_none T.part))) ∙
      ap cap (sym (pick_if T.part (e == f) (plus (cost 1 0) (body_cost T.passing.items E N b)) nothing))

  pub body_same : (b : KBlock) → cap (spec.body_cost T e b) ≡ cap (pick T.part (woken_block T.passing.items E N e b))
  body_same b =
      total_same (spec.loop_cost T e) (loop_part T.part T.passing.items E N e) (λ l. one_loop l.kind l.body (paced l.kind l.body) refl) (block_loops b) ∙
      ap cap (sym (block_total T.part T.passing.items E N e b))

  same_copies : (t : Bool) (n x y : ℕ) → cap x ≡ cap y → cap ((if t then 1 else cap n) * x) ≡ cap ((if t then 1 else n) * y)
  same_copies true n x y h = same_times 1 x y h
  same_copies false n x y h =
      ap cap (omega arith) ∙ cap_times x n ∙ ap cap (omega arith) ∙ same_times n x y h

  pub codes_same : (es : List KEvent) (k : ℕ) (cs : List KCode) (ns : List ℕ) → cap (spec.codes_cost T e es k cs (map cap ns)) ≡ cap (pick T.part (woken_codes T.passing.items E N e (spec.owner e es) k cs ns))
  codes_same es k [] ns = ap cap (sym (pick_none T.part))
  codes_same es k (c ∷ cs) [] = ap cap (sym (pick_none T.part))
  codes_same es k (c ∷ cs) (n ∷ ns) =
      let times_one = times (if is_owner k (spec.owner e es) then 1 else n) (woken_block T.passing.items E N e c.body) in
      same_plus (spec.copies es k (cap n) e * spec.body_cost T e c.body) (pick T.part times_one) (spec.codes_cost T e es (k + 1) cs (map cap ns)) (pick T.part (woken_codes T.passing.items E N e (spec.owner e es) (k + 1) cs ns))
      (same_copies (is_owner k (spec.owner e es)) n (spec.body_cost T e c.body) (pick T.part (woken_block T.passing.items E N e c.body)) (body_same c.body) ∙
      ap cap (sym (pick_times T.part (if is_owner k (spec.owner e es) then 1 else n) (woken_block T.passing.items E N e c.body))))
      (codes_same es (k + 1) cs ns) ∙
      ap cap (sym (pick_plus T.part times_one (woken_codes T.passing.items E N e (spec.owner e es) (k + 1) cs ns)))

-- ---- the table of the events

pub emission_at : (K : Kernel) (P : List Bool) (E N : List Cost) (I : List ℕ) (j : ℕ) (xs : List KEvent) (k : ℕ) → k < length xs →
    cost_at k (emissions_from K P E N I j xs) ≡ plus (cost 1 1) (plus (woken_block P E N (j + k) K.body) (woken_codes P E N (j + k) (spec.owner k xs) 0 K.codes I))
emission_at K P E N I j [] k below = absurd (omega arith)
emission_at K P E N I j (x ∷ xs) zero below = ap (λ m. plus (cost 1 1) (plus (woken_block P E N m K.body) (woken_codes P E N m x.code 0 K.codes I))) (omega arith)
emission_at K P E N I j (x ∷ xs) (suc k) below =
    emission_at K P E N I (j + 1) xs k (omega arith) ∙
    ap (λ m. plus (cost 1 1) (plus (woken_block P E N m K.body) (woken_codes P E N m (spec.owner k xs) 0 K.codes I))) (omega arith)

pub emission_beyond : (K : Kernel) (P : List Bool) (E N : List Cost) (I : List ℕ) (j : ℕ) (xs : List KEvent) (k : ℕ) → length xs ≤ k → cost_at k (emissions_from K P E N I j xs) ≡ nothing
emission_beyond K P E N I j [] k above = refl
emission_beyond K P E N I j (x ∷ xs) zero above = absurd (omega arith)
emission_beyond K P E N I j (x ∷ xs) (suc k) above = emission_beyond K P E N I (j + 1) xs k (omega arith)
