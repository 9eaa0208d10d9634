-- What a calm statement enters hangs on what the events that it emits cost, and on nothing else that a table says.
use Rattle.std.proofs.Common.{◌≡◌, refl, ap, ◌∙◌, ℕ, Bool, true, false, not, if◌then◌else◌, List, ◌++◌, Option, Some, None, arith}
use Rattle.std.specs.List.{Contains}
use Rattle.std.proofs.lemmas.Bool.{and_parts, false≢true}
use Rattle.std.proofs.lemmas.List.Elements.{Contains-append_left, Contains-append_right}
use Rattle.ceu_tree.specs.declared.kernel.KLoop.{KLoop}
use Rattle.ceu_tree.specs.declared.kernel.KBlock.{KBlock, KBlock', Row_of-KNode, end_of-KNode, more_of-KNode}
use Rattle.ceu_tree.specs.declared.kernel.KArm.{KArm, KArm'}
use Rattle.ceu_tree.specs.declared.kernel.KStmt.{KStmt, Row_of-KArm, end_of-KArm, more_of-KArm, Emit, AwaitCode, Spawn, Do, If', Loop, Par'}
use Rattle.ceu_tree.specs.Paths.{has_end, quick}
use Rattle.ceu_tree.specs.Costs.{Cost, plus, most, cost_at, no_bound, is_calm, calm_block, calm_arm, calm_nodes, calm_arms, awaited_event, paced_list, paced_body, paced, loop_enter, enter, enter_block, enter_arm, enter_nodes, enter_arms, rest_cost, body_cost}
use Rattle.ceu_paths.specs.Emits.{emits, block_emits, arm_emits, nodes_emits, arms_emits}

-- two tables say the same of each of these events
abbrev pub Agree : List Cost → List Cost → List ℕ → Type 0
Agree E F es = (e : ℕ) → Contains es e → cost_at e E ≡ cost_at e F

pub agree_left : (E F : List Cost) (es fs : List ℕ) → Agree E F (es ++ fs) → Agree E F es
agree_left E F es fs a e c = a e (Contains-append_left es fs e c)

pub agree_right : (E F : List Cost) (es fs : List ℕ) → Agree E F (es ++ fs) → Agree E F fs
agree_right E F es fs a e c = a e (Contains-append_right es fs e c)

module _ (P : List Bool) (E F N M : List Cost) where
  mutual
    unfolding enter is_calm emits

    stmt_calm : (n : ℕ) (s : KStmt) → is_calm s ≡ true → Agree E F (emits s) → enter P E N n s ≡ enter P F M n s
    stmt_calm n (Emit e x) h a = a e (0, omega arith, refl)
    stmt_calm n (AwaitCode c es f t) h a = absurd (false≢true h)
    stmt_calm n (Spawn c es p x) h a = absurd (false≢true h)
    stmt_calm n (Par' par slot _ bs) h a = absurd (false≢true h)
    stmt_calm n (Do t b) h a = block_calm b h a
    stmt_calm n (If' _ arms last) h a =
        let parts = and_parts (calm_arms arms) (calm_block last) h in
        ap (λ x. most x (enter_block P E N last)) (arms_calm arms parts.0 (agree_left E F (arms_emits arms) (block_emits last) a)) ∙
        ap (most (enter_arms P F M arms)) (block_calm last parts.1 (agree_right E F (arms_emits arms) (block_emits last) a))
    stmt_calm n (Loop turns b) h a = ap (loop_enter P n turns b) (block_calm b (and_parts (not (no_bound turns)) (calm_block b) h).1 a)
    stmt_calm n _ h a = refl

    block_calm : (b : KBlock) → calm_block b ≡ true → Agree E F (block_emits b) → enter_block P E N b ≡ enter_block P F M b
    block_calm (KBlock' n ds _ list) h a = nodes_calm list h a

    arm_calm : (x : KArm) → calm_arm x ≡ true → Agree E F (arm_emits x) → enter_arm P E N x ≡ enter_arm P F M x
    arm_calm (KArm' c b) h a = block_calm b h a

    pub nodes_calm : {n : _} (r : Row_of-KNode n) → calm_nodes r ≡ true → Agree E F (nodes_emits r) → enter_nodes P E N r ≡ enter_nodes P F M r
    nodes_calm end_of-KNode h a = refl
    nodes_calm (more_of-KNode n p s rest) h a =
        let parts = and_parts (is_calm s) (calm_nodes rest) h in
        ap (λ x. if has_end (quick P n s) then plus x (enter_nodes P E N rest) else x) (stmt_calm n s parts.0 (agree_left E F (emits s) (nodes_emits rest) a)) ∙
        ap (λ x. if has_end (quick P n s) then plus (enter P F M n s) x else enter P F M n s) (nodes_calm rest parts.1 (agree_right E F (emits s) (nodes_emits rest) a))

    arms_calm : {n : _} (r : Row_of-KArm n) → calm_arms r ≡ true → Agree E F (arms_emits r) → enter_arms P E N r ≡ enter_arms P F M r
    arms_calm end_of-KArm h a = refl
    arms_calm (more_of-KArm x rest) h a =
        let parts = and_parts (calm_arm x) (calm_arms rest) h in
        ap (λ y. most y (enter_arms P E N rest)) (arm_calm x parts.0 (agree_left E F (arm_emits x) (arms_emits rest) a)) ∙
        ap (most (enter_arm P F M x)) (arms_calm rest parts.1 (agree_right E F (arm_emits x) (arms_emits rest) a))

  -- ---- the rest of a paced loop's body is calm

  if_some : (t : Bool) (x : Option ℕ) (e : ℕ) → (if t then x else None) ≡ Some e → (t ≡ true) × (x ≡ Some e)
  if_some true x e h = (refl, h)
  if_some false x e h = absurd (cc)

  rest_calm : {n : _} (r : Row_of-KNode n) (e : ℕ) → paced_list r ≡ Some e → Agree E F (nodes_emits r) → rest_cost P E N r ≡ rest_cost P F M r
  unfolding emits
  rest_calm end_of-KNode e h a = refl
  rest_calm (more_of-KNode n p s rest) e h a = nodes_calm rest (if_some (calm_nodes rest) (awaited_event s) e h).0 (agree_right E F (emits s) (nodes_emits rest) a)

  body_calm : (b : KBlock) (e : ℕ) → paced_body b ≡ Some e → Agree E F (block_emits b) → body_cost P E N b ≡ body_cost P F M b
  unfolding emits
  body_calm (KBlock' n ds _ list) e h a = rest_calm list e h a

  pub paced_calm : (turns : KLoop) (b : KBlock) (e : ℕ) → paced turns b ≡ Some e → Agree E F (block_emits b) → body_cost P E N b ≡ body_cost P F M b
  paced_calm turns b e h a = body_calm b e (if_some (no_bound turns) (paced_body b) e h).1 a
