-- Costs by tables that hold at most as much are at most as much, up to the cap.
use Rattle.std.proofs.Common.{◌≡◌, refl, sym, ap, subst, ◌∙◌, ℕ, zero, suc, ◌+◌, ◌*◌, ◌≤◌, max, inl, inr, Bool, true, false, if◌then◌else◌, List, [], ◌∷◌, ◌++◌, length, length-append, arith}
use Rattle.std.specs.Prelude.{Option, Some, None}
use Rattle.ceu_tree.specs.declared.kernel.Kernel.{Kernel}
use Rattle.ceu_tree.specs.declared.kernel.KCode.{KCode}
use Rattle.ceu_tree.specs.declared.kernel.KLoop.{KLoop}
use Rattle.ceu_tree.specs.declared.kernel.KBlock.{KBlock, KBlock', Row_of-KNode, end_of-KNode, more_of-KNode}
use Rattle.ceu_tree.specs.declared.kernel.KArm.{KArm, KArm'}
use Rattle.ceu_tree.specs.declared.kernel.KStmt.{KStmt, Row_of-KArm, end_of-KArm, more_of-KArm, Row_of-KBlock, end_of-KBlock, more_of-KBlock, AwaitEvent, Emit, AwaitCode, Spawn, Do, If', Loop, Par'}
use Rattle.ceu_tree.specs.Paths.{has_end, quick, passes_from}
use Rattle.ceu_tree.specs.Costs.{Cost, cost, nothing, plus, times, most, cost_at, paced, loop_times, without_one, enter, enter_block, enter_arm, enter_nodes, enter_arms, enter_blocks, rest_cost, body_cost, is_event, is_owner, loop_woken, woken, woken_block, woken_arm, woken_nodes, woken_arms, woken_blocks, woken_codes, enters_from, instances_from, emissions_from, emissions}
use Rattle.ceu_paths.specs.Cap.{cap}
use Rattle.ceu_bound.specs.declared.tables.Part.{Part}
use Rattle.ceu_bound.specs.declared.tables.Part.TheVariants as part
use Rattle.ceu_bound.specs.Parts.{pick, AtMost, TablesAtMost}
use Rattle.ceu_bound.specs.Waking as spec
use Rattle.ceu_bound.proofs.CostLaws.{pick_plus, pick_most, pick_times}
use Rattle.ceu_bound.proofs.Agree.{first_free}
use Rattle.ceu_bound.proofs.Woken.{emission_at, emission_beyond}
use Rattle.ceu_bound.proofs.InstanceLaws.{split}

-- ---- numbers

sums_rise : (a b c d : ℕ) → cap a ≤ cap b → cap c ≤ cap d → cap (a + c) ≤ cap (b + d)
sums_rise a b c d e f = grind (arith, e, f)

greatest_rise : (a b c d : ℕ) → cap a ≤ cap b → cap c ≤ cap d → cap (max a c) ≤ cap (max b d)
greatest_rise a b c d e f = grind (arith, e, f)

products_rise : (n a b : ℕ) → cap a ≤ cap b → cap (n * a) ≤ cap (n * b)
products_rise zero a b h = omega arith
products_rise (suc n) a b h =
    let x : suc n * a ≡ n * a + a = omega arith in
    let y : suc n * b ≡ n * b + b = omega arith in
    let z : cap (n * a + a) ≤ cap (n * b + b) = sums_rise (n * a) (n * b) a b (products_rise n a b h) h in
    rw (x, y) z

-- ---- costs

pub itself : (w : Part) (a : Cost) → AtMost w a a
itself w a = omega arith

pub risen : (w : Part) (a b c : Cost) → AtMost w a b → AtMost w b c → AtMost w a c
risen w a b c e f = omega (arith, e, f)

rise_plus : (w : Part) (a b c d : Cost) → AtMost w a b → AtMost w c d → AtMost w (plus a c) (plus b d)
rise_plus w a b c d e f = rw (pick_plus w a c, pick_plus w b d) (sums_rise (pick w a) (pick w b) (pick w c) (pick w d) e f)

rise_most : (w : Part) (a b c d : Cost) → AtMost w a b → AtMost w c d → AtMost w (most a c) (most b d)
rise_most w a b c d e f = rw (pick_most w a c, pick_most w b d) (greatest_rise (pick w a) (pick w b) (pick w c) (pick w d) e f)

rise_times : (w : Part) (n : ℕ) (a b : Cost) → AtMost w a b → AtMost w (times n a) (times n b)
rise_times w n a b e = rw (pick_times w n a, pick_times w n b) (products_rise n (pick w a) (pick w b) e)

rise_if : (w : Part) (t : Bool) (a b c d : Cost) → AtMost w a b → AtMost w c d → AtMost w (if t then a else c) (if t then b else d)
rise_if w true a b c d e f = e
rise_if w false a b c d e f = f

rise_enter : (w : Part) (p : Option ℕ) (n : ℕ) (a b : Cost) → AtMost w a b → AtMost w (elim p as (λ _. Cost) [ Some e ↦ nothing | None ↦ times n a ]) (elim p as (λ _. Cost) [ Some e ↦ nothing | None ↦ times n b ])
rise_enter w (Some e) n a b h = itself w nothing
rise_enter w None n a b h = rise_times w n a b h

rise_first : (w : Part) (a b c d : Cost) → AtMost w a b → AtMost w c d → AtMost w (without_one (plus (plus (cost 1 0) a) c)) (without_one (plus (plus (cost 1 0) b) d))
rise_first w a b c d e f = rw (first_free w a c, first_free w b d) (sums_rise (pick w a) (pick w b) (pick w c) (pick w d) e f)

-- ---- what a statement enters, and what an event wakes

module _ (w : Part) (P : List Bool) (E F N M : List Cost) (events : TablesAtMost w E F) (entering : TablesAtMost w N M) where
  mutual
    unfolding enter

    enter_rises : (n : ℕ) (s : KStmt) → AtMost w (enter P E N n s) (enter P F M n s)
    enter_rises n (AwaitEvent e t) = itself w (cost 1 0)
    enter_rises n (Emit e x) = events e
    enter_rises n (AwaitCode c es f t) = entering c
    enter_rises n (Spawn c es p a) = rise_plus w (cost 2 1) (cost 2 1) (cost_at c N) (cost_at c M) (itself w (cost 2 1)) (entering c)
    enter_rises n (Do t b) = block_rises b
    enter_rises n (If' _ arms last) = rise_most w (enter_arms P E N arms) (enter_arms P F M arms) (enter_block P E N last) (enter_block P F M last) (arms_rise arms) (block_rises last)
    enter_rises n (Par' k slot _ bs) = par_rises bs
    enter_rises n (Loop k b) = rise_enter w (paced k b) (loop_times P n k b) (enter_block P E N b) (enter_block P F M b) (block_rises b)
    enter_rises n _ = itself w nothing

    pub block_rises : (b : KBlock) → AtMost w (enter_block P E N b) (enter_block P F M b)
    block_rises (KBlock' n ds _ list) = nodes_rise list

    arm_rises : (a : KArm) → AtMost w (enter_arm P E N a) (enter_arm P F M a)
    arm_rises (KArm' c b) = block_rises b

    nodes_rise : {n : _} (r : Row_of-KNode n) → AtMost w (enter_nodes P E N r) (enter_nodes P F M r)
    nodes_rise end_of-KNode = itself w nothing
    nodes_rise (more_of-KNode n p s rest) = rise_if w (has_end (quick P n s)) (plus (enter P E N n s) (enter_nodes P E N rest)) (plus (enter P F M n s) (enter_nodes P F M rest)) (enter P E N n s) (enter P F M n s)
        (rise_plus w (enter P E N n s) (enter P F M n s) (enter_nodes P E N rest) (enter_nodes P F M rest) (enter_rises n s) (nodes_rise rest)) (enter_rises n s)

    arms_rise : {n : _} (r : Row_of-KArm n) → AtMost w (enter_arms P E N r) (enter_arms P F M r)
    arms_rise end_of-KArm = itself w nothing
    arms_rise (more_of-KArm a rest) = rise_most w (enter_arm P E N a) (enter_arm P F M a) (enter_arms P E N rest) (enter_arms P F M rest) (arm_rises a) (arms_rise rest)

    branches_rise : {n : _} (r : Row_of-KBlock n) → AtMost w (enter_blocks P E N r) (enter_blocks P F M r)
    branches_rise end_of-KBlock = itself w nothing
    branches_rise (more_of-KBlock b rest) = rise_plus w (plus (cost 1 0) (enter_block P E N b)) (plus (cost 1 0) (enter_block P F M b)) (enter_blocks P E N rest) (enter_blocks P F M rest)
        (rise_plus w (cost 1 0) (cost 1 0) (enter_block P E N b) (enter_block P F M b) (itself w (cost 1 0)) (block_rises b)) (branches_rise rest)

    par_rises : {n : _} (r : Row_of-KBlock n) → AtMost w (without_one (enter_blocks P E N r)) (without_one (enter_blocks P F M r))
    par_rises end_of-KBlock = itself w (without_one nothing)
    par_rises (more_of-KBlock b rest) = rise_first w (enter_block P E N b) (enter_block P F M b) (enter_blocks P E N rest) (enter_blocks P F M rest) (block_rises b) (branches_rise rest)

  rest_rises : {n : _} (r : Row_of-KNode n) → AtMost w (rest_cost P E N r) (rest_cost P F M r)
  rest_rises end_of-KNode = itself w nothing
  rest_rises (more_of-KNode n p s rest) = nodes_rise rest

  body_rises : (b : KBlock) → AtMost w (body_cost P E N b) (body_cost P F M b)
  body_rises (KBlock' n ds _ list) = rest_rises list

  module _ (e : ℕ) where
    loop_rises : (k : KLoop) (b : KBlock) → AtMost w (loop_woken P E N e k b) (loop_woken P F M e k b)
    loop_rises k b = rise_if w (is_event e (paced k b)) (plus (cost 1 0) (body_cost P E N b)) (plus (cost 1 0) (body_cost P F M b)) nothing nothing
        (rise_plus w (cost 1 0) (cost 1 0) (body_cost P E N b) (body_cost P F M b) (itself w (cost 1 0)) (body_rises b)) (itself w nothing)

    mutual
      unfolding woken

      woken_rises : (s : KStmt) → AtMost w (woken P E N e s) (woken P F M e s)
      woken_rises (Do t b) = woken_block_rises b
      woken_rises (If' _ arms last) = rise_plus w (woken_arms P E N e arms) (woken_arms P F M e arms) (woken_block P E N e last) (woken_block P F M e last) (woken_arms_rise arms) (woken_block_rises last)
      woken_rises (Par' k slot _ bs) = woken_blocks_rise bs
      woken_rises (Loop k b) = rise_plus w (loop_woken P E N e k b) (loop_woken P F M e k b) (woken_block P E N e b) (woken_block P F M e b) (loop_rises k b) (woken_block_rises b)
      woken_rises _ = itself w nothing

      pub woken_block_rises : (b : KBlock) → AtMost w (woken_block P E N e b) (woken_block P F M e b)
      woken_block_rises (KBlock' n ds _ list) = woken_nodes_rise list

      woken_arm_rises : (a : KArm) → AtMost w (woken_arm P E N e a) (woken_arm P F M e a)
      woken_arm_rises (KArm' c b) = woken_block_rises b

      woken_nodes_rise : {n : _} (r : Row_of-KNode n) → AtMost w (woken_nodes P E N e r) (woken_nodes P F M e r)
      woken_nodes_rise end_of-KNode = itself w nothing
      woken_nodes_rise (more_of-KNode n p s rest) = rise_plus w (woken P E N e s) (woken P F M e s) (woken_nodes P E N e rest) (woken_nodes P F M e rest) (woken_rises s) (woken_nodes_rise rest)

      woken_arms_rise : {n : _} (r : Row_of-KArm n) → AtMost w (woken_arms P E N e r) (woken_arms P F M e r)
      woken_arms_rise end_of-KArm = itself w nothing
      woken_arms_rise (more_of-KArm a rest) = rise_plus w (woken_arm P E N e a) (woken_arm P F M e a) (woken_arms P E N e rest) (woken_arms P F M e rest) (woken_arm_rises a) (woken_arms_rise rest)

      woken_blocks_rise : {n : _} (r : Row_of-KBlock n) → AtMost w (woken_blocks P E N e r) (woken_blocks P F M e r)
      woken_blocks_rise end_of-KBlock = itself w nothing
      woken_blocks_rise (more_of-KBlock b rest) = rise_plus w (woken_block P E N e b) (woken_block P F M e b) (woken_blocks P E N e rest) (woken_blocks P F M e rest) (woken_block_rises b) (woken_blocks_rise rest)

    codes_rise : (own : Option ℕ) (k : ℕ) (cs : List KCode) (ns : List ℕ) → AtMost w (woken_codes P E N e own k cs ns) (woken_codes P F M e own k cs ns)
    codes_rise own k [] ns = itself w nothing
    codes_rise own k (c ∷ cs) [] = itself w nothing
    codes_rise own k (c ∷ cs) (n ∷ ns) =
        let m = if is_owner k own then 1 else n in
        rise_plus w (times m (woken_block P E N e c.body)) (times m (woken_block P F M e c.body)) (woken_codes P E N e own (k + 1) cs ns) (woken_codes P F M e own (k + 1) cs ns)
        (rise_times w m (woken_block P E N e c.body) (woken_block P F M e c.body) (woken_block_rises c.body)) (codes_rise own (k + 1) cs ns)

    pub emission_rises : (K : Kernel) (own : Option ℕ) (I : List ℕ) →
        AtMost w (plus (cost 1 1) (plus (woken_block P E N e K.body) (woken_codes P E N e own 0 K.codes I))) (plus (cost 1 1) (plus (woken_block P F M e K.body) (woken_codes P F M e own 0 K.codes I)))
    emission_rises K own I =
        rise_plus w (cost 1 1) (cost 1 1) (plus (woken_block P E N e K.body) (woken_codes P E N e own 0 K.codes I)) (plus (woken_block P F M e K.body) (woken_codes P F M e own 0 K.codes I)) (itself w (cost 1 1))
        (rise_plus w (woken_block P E N e K.body) (woken_block P F M e K.body) (woken_codes P E N e own 0 K.codes I) (woken_codes P F M e own 0 K.codes I) (woken_block_rises K.body) (codes_rise own 0 K.codes I))

-- ---- tables

push_rises : (w : Part) (A B : List Cost) (a b : Cost) → length A ≡ length B → TablesAtMost w A B → AtMost w a b → TablesAtMost w (A ++ a ∷ []) (B ++ b ∷ [])
push_rises w [] [] a b same h more zero = more
push_rises w [] [] a b same h more (suc k) = itself w nothing
push_rises w [] (y ∷ B) a b same h more k = absurd (omega arith)
push_rises w (x ∷ A) [] a b same h more k = absurd (omega arith)
push_rises w (x ∷ A) (y ∷ B) a b same h more zero = h zero
push_rises w (x ∷ A) (y ∷ B) a b same h more (suc k) = push_rises w A B a b (omega arith) (λ j. h (suc j)) more k

pub enters_rise : (w : Part) (P : List Bool) (E F N M : List Cost) → TablesAtMost w E F → length N ≡ length M → TablesAtMost w N M → (cs : List KCode) → TablesAtMost w (enters_from P E N cs) (enters_from P F M cs)
enters_rise w P E F N M events same entering [] = entering
enters_rise w P E F N M events same entering (c ∷ cs) =
    let x = enter_block P E N c.body in
    let y = enter_block P F M c.body in
    enters_rise w P E F (N ++ x ∷ []) (M ++ y ∷ []) events (length-append N (x ∷ []) ∙ ap (λ n. n + 1) same ∙ sym (length-append M (y ∷ []))) (push_rises w N M x y same entering (block_rises w P E F N M events entering c.body)) cs

-- what the emissions cost where those inside them cost `E`
unfoldable pub next_stage : Kernel → List Cost → List Cost
next_stage K E = let P = passes_from [] K.codes in emissions_from K P E (enters_from P E [] K.codes) (instances_from K.body 0 K.codes) 0 K.events

pub row_rises : (w : Part) (K : Kernel) (E F : List Cost) → TablesAtMost w E F → TablesAtMost w (next_stage K E) (next_stage K F)
unfolding next_stage
row_rises w K E F events k =
    let P = passes_from [] K.codes in
    let N = enters_from P E [] K.codes in
    let M = enters_from P F [] K.codes in
    let I = instances_from K.body 0 K.codes in
    let entering = enters_rise w P E F [] [] events refl (λ j. itself w nothing) K.codes in
    let R : Cost → Cost → Type 0 = λ a b. AtMost w a b in
    elim (split k (length K.events)) as (λ _. AtMost w (cost_at k (emissions_from K P E N I 0 K.events)) (cost_at k (emissions_from K P F M I 0 K.events))) [
      | inl known ↦ rw (emission_at K P E N I 0 K.events k known, emission_at K P F M I 0 K.events k known) (emission_rises w P E F N M events entering (0 + k) K (spec.owner k K.events) I)
      | inr unknown ↦ rw (emission_beyond K P E N I 0 K.events k unknown, emission_beyond K P F M I 0 K.events k unknown) (itself w nothing)
    ]

pub nothing_least : (w : Part) (c : Cost) → AtMost w nothing c
nothing_least part.Turns c = omega arith
nothing_least part.Levels c = omega arith

pub stage_more : (w : Part) (K : Kernel) (i : ℕ) → TablesAtMost w (emissions K i) (emissions K (suc i))
unfolding emissions next_stage
stage_more w K zero k = nothing_least w (cost_at k (emissions K (suc zero)))
stage_more w K (suc i) k = row_rises w K (emissions K i) (emissions K (suc i)) (stage_more w K i) k

pub stages_rise : (w : Part) (K : Kernel) (i d : ℕ) → TablesAtMost w (emissions K i) (emissions K (d + i))
stages_rise w K i zero k =
    let P : ℕ → Type 0 = λ m. AtMost w (cost_at k (emissions K i)) (cost_at k (emissions K m)) in
    let e : i ≡ 0 + i = omega arith in
    subst P e (itself w (cost_at k (emissions K i)))
stages_rise w K i (suc d) k =
    let P : ℕ → Type 0 = λ m. AtMost w (cost_at k (emissions K i)) (cost_at k (emissions K m)) in
    let e : suc (d + i) ≡ suc d + i = omega arith in
    subst P e (risen w (cost_at k (emissions K i)) (cost_at k (emissions K (d + i))) (cost_at k (emissions K (suc (d + i)))) (stages_rise w K i d k) (stage_more w K (d + i) k))
