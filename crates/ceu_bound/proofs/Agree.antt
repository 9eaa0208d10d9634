-- Costs by tables that agree up to the cap agree up to the cap.
use Rattle.std.proofs.Common.{◌≡◌, refl, sym, ap, ◌∙◌, ℕ, ◌+◌, Bool, true, false, if◌then◌else◌, List, [], ◌∷◌, arith}
use Rattle.std.specs.Prelude.{Option, Some, None}
use Rattle.ceu_tree.specs.declared.kernel.KDecl.{KDecl}
use Rattle.ceu_tree.specs.declared.kernel.KKind.{KKind}
use Rattle.ceu_tree.specs.declared.kernel.KKind.TheVariants as kind
use Rattle.ceu_tree.specs.declared.kernel.KBlock.{KBlock, KBlock', Row_of-KNode, end_of-KNode, more_of-KNode}
use Rattle.ceu_tree.specs.declared.kernel.KArm.{KArm, KArm'}
use Rattle.ceu_tree.specs.declared.kernel.KStmt.{KStmt, Row_of-KArm, end_of-KArm, more_of-KArm, Row_of-KBlock, end_of-KBlock, more_of-KBlock, Emit, AwaitCode, Spawn, Do, If', Loop, Par'}
use Rattle.ceu_tree.specs.Paths.{has_end, quick}
use Rattle.ceu_tree.specs.Costs.{Cost, cost, nothing, plus, times, most, cost_at, paced, loop_times, without_one, stands_waiting, enter, enter_block, enter_arm, enter_nodes, enter_arms, enter_blocks, stay, stay_block, stay_arm, stay_nodes, stay_arms, stay_blocks, pools_stay}
use Rattle.ceu_paths.specs.Cap.{cap}
use Rattle.ceu_paths.proofs.CapLaws.{same_plus, same_max, same_times}
use Rattle.ceu_bound.specs.declared.tables.Part.{Part}
use Rattle.ceu_bound.specs.declared.tables.Part.TheVariants as part
use Rattle.ceu_bound.specs.Parts.{pick, Same, SameTables}
use Rattle.ceu_bound.proofs.CostLaws.{pick_plus, pick_most, pick_times}

pub alike_plus : (w : Part) (a b c d : Cost) → Same w a b → Same w c d → Same w (plus a c) (plus b d)
alike_plus w a b c d e f = ap cap (pick_plus w a c) ∙ same_plus (pick w a) (pick w b) (pick w c) (pick w d) e f ∙ ap cap (sym (pick_plus w b d))

pub alike_most : (w : Part) (a b c d : Cost) → Same w a b → Same w c d → Same w (most a c) (most b d)
alike_most w a b c d e f = ap cap (pick_most w a c) ∙ same_max (pick w a) (pick w b) (pick w c) (pick w d) e f ∙ ap cap (sym (pick_most w b d))

pub alike_times : (w : Part) (n : ℕ) (a b : Cost) → Same w a b → Same w (times n a) (times n b)
alike_times w n a b e = ap cap (pick_times w n a) ∙ same_times n (pick w a) (pick w b) e ∙ ap cap (sym (pick_times w n b))

pub alike_if : (w : Part) (t : Bool) (a b c d : Cost) → Same w a b → Same w c d → Same w (if t then a else c) (if t then b else d)
alike_if w true a b c d e f = e
alike_if w false a b c d e f = f

alike_enter : (w : Part) (p : Option ℕ) (n : ℕ) (a b : Cost) → Same w a b → Same w (elim p as (λ _. Cost) [ Some e ↦ nothing | None ↦ times n a ]) (elim p as (λ _. Cost) [ Some e ↦ nothing | None ↦ times n b ])
alike_enter w (Some e) n a b h = refl
alike_enter w None n a b h = alike_times w n a b h

alike_stay : (w : Part) (p : Option ℕ) (n : ℕ) (a b c d : Cost) → Same w a b → Same w c d → Same w (elim p as (λ _. Cost) [ Some e ↦ nothing | None ↦ plus a (times n c) ]) (elim p as (λ _. Cost) [ Some e ↦ nothing | None ↦ plus b (times n d) ])
alike_stay w (Some e) n a b c d h k = refl
alike_stay w None n a b c d h k = alike_plus w a b (times n c) (times n d) h (alike_times w n c d k)

-- the first branch takes no turn of its own
pub first_free : (w : Part) (x y : Cost) → pick w (without_one (plus (plus (cost 1 0) x) y)) ≡ pick w x + pick w y
first_free part.Turns x y = omega arith
first_free part.Levels x y = omega arith

alike_first : (w : Part) (a b c d : Cost) → Same w a b → Same w c d → Same w (without_one (plus (plus (cost 1 0) a) c)) (without_one (plus (plus (cost 1 0) b) d))
alike_first w a b c d e f = ap cap (first_free w a c) ∙ same_plus (pick w a) (pick w b) (pick w c) (pick w d) e f ∙ ap cap (sym (first_free w b d))

module _ (w : Part) (P : List Bool) (E F N M : List Cost) (events : SameTables w E F) (entering : SameTables w N M) where
  mutual
    unfolding enter

    pub enter_same : (n : ℕ) (s : KStmt) → Same w (enter P E N n s) (enter P F M n s)
    enter_same n (Emit e x) = events e
    enter_same n (AwaitCode c es f t) = entering c
    enter_same n (Spawn c es p a) = alike_plus w (cost 2 1) (cost 2 1) (cost_at c N) (cost_at c M) refl (entering c)
    enter_same n (Do t b) = block_same b
    enter_same n (If' _ arms last) = alike_most w (enter_arms P E N arms) (enter_arms P F M arms) (enter_block P E N last) (enter_block P F M last) (arms_same arms) (block_same last)
    enter_same n (Par' k slot _ bs) = par_same bs
    enter_same n (Loop k b) = alike_enter w (paced k b) (loop_times P n k b) (enter_block P E N b) (enter_block P F M b) (block_same b)
    enter_same n _ = refl

    pub block_same : (b : KBlock) → Same w (enter_block P E N b) (enter_block P F M b)
    block_same (KBlock' n ds _ list) = nodes_same list

    arm_same : (a : KArm) → Same w (enter_arm P E N a) (enter_arm P F M a)
    arm_same (KArm' c b) = block_same b

    nodes_same : {n : _} (r : Row_of-KNode n) → Same w (enter_nodes P E N r) (enter_nodes P F M r)
    nodes_same end_of-KNode = refl
    nodes_same (more_of-KNode n p s rest) = alike_if w (has_end (quick P n s)) (plus (enter P E N n s) (enter_nodes P E N rest)) (plus (enter P F M n s) (enter_nodes P F M rest)) (enter P E N n s) (enter P F M n s)
        (alike_plus w (enter P E N n s) (enter P F M n s) (enter_nodes P E N rest) (enter_nodes P F M rest) (enter_same n s) (nodes_same rest)) (enter_same n s)

    arms_same : {n : _} (r : Row_of-KArm n) → Same w (enter_arms P E N r) (enter_arms P F M r)
    arms_same end_of-KArm = refl
    arms_same (more_of-KArm a rest) = alike_most w (enter_arm P E N a) (enter_arm P F M a) (enter_arms P E N rest) (enter_arms P F M rest) (arm_same a) (arms_same rest)

    branches_same : {n : _} (r : Row_of-KBlock n) → Same w (enter_blocks P E N r) (enter_blocks P F M r)
    branches_same end_of-KBlock = refl
    branches_same (more_of-KBlock b rest) = alike_plus w (plus (cost 1 0) (enter_block P E N b)) (plus (cost 1 0) (enter_block P F M b)) (enter_blocks P E N rest) (enter_blocks P F M rest)
        (alike_plus w (cost 1 0) (cost 1 0) (enter_block P E N b) (enter_block P F M b) refl (block_same b)) (branches_same rest)

    par_same : {n : _} (r : Row_of-KBlock n) → Same w (without_one (enter_blocks P E N r)) (without_one (enter_blocks P F M r))
    par_same end_of-KBlock = refl
    par_same (more_of-KBlock b rest) = alike_first w (enter_block P E N b) (enter_block P F M b) (enter_blocks P E N rest) (enter_blocks P F M rest) (block_same b) (branches_same rest)

  module _ (S R : List Cost) (staying : SameTables w S R) where
    one_pool_same : (kd : KKind) (a b : Cost) → Same w a b → Same w (elim kd as (λ _. Cost) [ kind.Var t ↦ a | kind.Alias c ↦ a | kind.Pool n c ↦ plus (times n (cost_at c S)) a ]) (elim kd as (λ _. Cost) [ kind.Var t ↦ b | kind.Alias c ↦ b | kind.Pool n c ↦ plus (times n (cost_at c R)) b ])
    one_pool_same (kind.Var t) a b h = h
    one_pool_same (kind.Alias c) a b h = h
    one_pool_same (kind.Pool n c) a b h = alike_plus w (times n (cost_at c S)) (times n (cost_at c R)) a b (alike_times w n (cost_at c S) (cost_at c R) (staying c)) h

    pools_same : (ds : List KDecl) → Same w (pools_stay P E N S ds) (pools_stay P F M R ds)
    pools_same [] = refl
    pools_same (d ∷ ds) = one_pool_same d.kind (pools_stay P E N S ds) (pools_stay P F M R ds) (pools_same ds)

    mutual
      unfolding stay

      pub stay_same : (n : ℕ) (s : KStmt) → Same w (stay P E N S n s) (stay P F M R n s)
      stay_same n (AwaitCode c es f t) = staying c
      stay_same n (Do t b) = stay_block_same b
      stay_same n (If' _ arms last) = alike_most w (stay_arms P E N S arms) (stay_arms P F M R arms) (stay_block P E N S last) (stay_block P F M R last) (stay_arms_same arms) (stay_block_same last)
      stay_same n (Par' k slot _ bs) = stay_blocks_same bs
      stay_same n (Loop k b) = alike_stay w (paced k b) (loop_times P n k b) (stay_block P E N S b) (stay_block P F M R b) (enter_block P E N b) (enter_block P F M b) (stay_block_same b) (block_same b)
      stay_same n _ = refl

      pub stay_block_same : (b : KBlock) → Same w (stay_block P E N S b) (stay_block P F M R b)
      stay_block_same (KBlock' n ds _ list) = alike_plus w (pools_stay P E N S ds) (pools_stay P F M R ds) (stay_nodes P E N S list) (stay_nodes P F M R list) (pools_same ds) (stay_nodes_same list)

      stay_arm_same : (a : KArm) → Same w (stay_arm P E N S a) (stay_arm P F M R a)
      stay_arm_same (KArm' c b) = stay_block_same b

      stay_nodes_same : {n : _} (r : Row_of-KNode n) → Same w (stay_nodes P E N S r) (stay_nodes P F M R r)
      stay_nodes_same end_of-KNode = refl
      stay_nodes_same (more_of-KNode n p s rest) = alike_if w (stands_waiting s) (most (plus (stay P E N S n s) (enter_nodes P E N rest)) (stay_nodes P E N S rest)) (most (plus (stay P F M R n s) (enter_nodes P F M rest)) (stay_nodes P F M R rest)) (stay_nodes P E N S rest) (stay_nodes P F M R rest)
          (alike_most w (plus (stay P E N S n s) (enter_nodes P E N rest)) (plus (stay P F M R n s) (enter_nodes P F M rest)) (stay_nodes P E N S rest) (stay_nodes P F M R rest)
          (alike_plus w (stay P E N S n s) (stay P F M R n s) (enter_nodes P E N rest) (enter_nodes P F M rest) (stay_same n s) (nodes_same rest)) (stay_nodes_same rest))
          (stay_nodes_same rest)

      stay_arms_same : {n : _} (r : Row_of-KArm n) → Same w (stay_arms P E N S r) (stay_arms P F M R r)
      stay_arms_same end_of-KArm = refl
      stay_arms_same (more_of-KArm a rest) = alike_most w (stay_arm P E N S a) (stay_arm P F M R a) (stay_arms P E N S rest) (stay_arms P F M R rest) (stay_arm_same a) (stay_arms_same rest)

      stay_blocks_same : {n : _} (r : Row_of-KBlock n) → Same w (stay_blocks P E N S r) (stay_blocks P F M R r)
      stay_blocks_same end_of-KBlock = refl
      stay_blocks_same (more_of-KBlock b rest) = alike_plus w (stay_block P E N S b) (stay_block P F M R b) (stay_blocks P E N S rest) (stay_blocks P F M R rest) (stay_block_same b) (stay_blocks_same rest)
