-- In a proper kernel of one trail that breaks no rule on loops, each statement is fine: exits lead to aims around them, whose nodes come before.
use Rattle.std.proofs.Common.{◌≡◌, refl, sym, ap, subst, ◌≤◌, ℕ, ◌+◌, Bool, true, false, nat_lt, if◌then◌else◌, ◌==◌, ◌&&◌, inl, inr, Contains, List, [], ◌∷◌, ◌++◌, length, Option, Some, None, arith, eqb-true, ltb-true, ltb-false}
use Rattle.std.proofs.lemmas.Bool.{and_parts, and_from, false≢true}
use Rattle.std.proofs.lemmas.List.Elements.{Contains-append_left, Contains-append_right}
use Rattle.ceu_base.specs.declared.kinds.Pos.{Pos}
use Rattle.ceu_base.specs.declared.kinds.Rule.TheVariants.{B1, B3}
use Rattle.ceu_tree.specs.declared.kernel.Kernel.{Kernel}
use Rattle.ceu_tree.specs.declared.kernel.KLoop.{KLoop}
use Rattle.ceu_tree.specs.declared.kernel.KArm.{KArm, KArm'}
use Rattle.ceu_tree.specs.declared.kernel.KBlock.{KBlock, KBlock', out-KBlock, Row_of-KNode, end_of-KNode, more_of-KNode}
use Rattle.ceu_tree.specs.declared.kernel.KStmt.{KStmt, Row_of-KArm, end_of-KArm, more_of-KArm, Nothing, Assign, Out, AwaitIn, AwaitTime, AwaitEvent, Forever, Do, Escape, Break, Continue, If', Loop}
use Rattle.ceu_tree.specs.Leaf as leaf
use Rattle.ceu_tree.specs.Numbering.{counts_from, stmt_nodes, block_nodes, arm_nodes, list_nodes, arms_nodes}
use Rattle.ceu_tree.specs.Paths.{constant_bound, quick_block, passes_from}
use Rattle.ceu_tree.specs.Costs.{awaited_event, calm_nodes, no_bound, paced_list, paced_body, paced}
use Rattle.ceu_tree.specs.Proper.{Scope, LoopAim, with_decls, with_aim, with_turns, do_aim, outside_finalizers, escape_ok, stmt_ok, block_ok, arm_ok, nodes_ok, arms_ok}
use Rattle.ceu_paths.specs.Loops.{TrailLoop, trail_loop, loops, block_loops, arm_loops, nodes_loops, arms_loops}
use Rattle.ceu_bound.specs.PhaseB.{all_loops, goes_round, KeepsLoopRules}
use Rattle.ceu_single.specs.Single.{stmt_single, block_single, arm_single, nodes_single, arms_single}
use Rattle.ceu_endings.proofs.Among.{rounds}
use Rattle.ceu_endings.proofs.Aims.{Below, below_more, do_node, escape_leads, loop_leads, turns_aims}
use Rattle.ceu_endings.proofs.Fine.{bound_fine, stmt_fine, block_fine, arm_fine, nodes_fine, arms_fine}
use denote.Hole.Carrier

-- ---- numbers that count on

pub counts_parts : (k : ℕ) (xs ys : List ℕ) → counts_from k (xs ++ ys) ≡ true → (counts_from k xs ≡ true) × (counts_from (k + length xs) ys ≡ true)
counts_parts k [] ys h = (refl, subst (λ j. counts_from j ys ≡ true) (omega arith) h)
counts_parts k (x ∷ xs) ys h =
    let a = and_parts (x == k) (counts_from (k + 1) (xs ++ ys)) h in
    let b = counts_parts (k + 1) xs ys a.1 in
    (and_from (x == k) (counts_from (k + 1) xs) a.0 b.0, subst (λ j. counts_from j ys ≡ true) (omega arith) b.1)

-- a block's own node comes first
pub block_counts : (b : KBlock) (k : ℕ) → counts_from k (block_nodes b) ≡ true → (out-KBlock b).node ≡ k
unfolding block_nodes out-KBlock Carrier.out
block_counts (KBlock' n ds x list) k h = eqb-true n k (and_parts (n == k) (counts_from (k + 1) (list_nodes list)) h).0

-- ---- loops of one trail aren't paced by an event

unpaced_stmt : (st : KStmt) → stmt_single st ≡ true → awaited_event st ≡ None
unfolding stmt_single
unpaced_stmt (AwaitEvent e t) h = absurd (false≢true h)
unpaced_stmt st h = refl

unpaced_list : {n : _} (rows : Row_of-KNode n) → nodes_single rows ≡ true → paced_list rows ≡ None
unfolding nodes_single
unpaced_list end_of-KNode h = refl
unpaced_list (more_of-KNode n p s rest) h = go (calm_nodes rest)
  where
    go : (b : Bool) → (if b then awaited_event s else None) ≡ None
    go true = unpaced_stmt s (and_parts (stmt_single s) (nodes_single rest) h).0
    go false = refl

unpaced_body : (b : KBlock) → block_single b ≡ true → paced_body b ≡ None
unfolding block_single
unpaced_body (KBlock' n ds x list) h = unpaced_list list (and_parts _ (nodes_single list) h).1

unpaced : (k : KLoop) (b : KBlock) → block_single b ≡ true → paced k b ≡ None
unpaced k b h = go (no_bound k)
  where
    go : (c : Bool) → (if c then paced_body b else None) ≡ None
    go true = unpaced_body b h
    go false = refl

module _ (K : Kernel) (no_code : K.codes ≡ []) (keeps : KeepsLoopRules K) where
  nothing_passes : passes_from [] K.codes ≡ []
  nothing_passes = ap (passes_from []) no_code

  -- a loop keeps the rules on its bound
  loop_keeps : (l : TrailLoop) → Contains (all_loops K) l → block_single l.body ≡ true → bound_fine (constant_bound l.kind) l.node (quick_block [] l.body)
  loop_keeps l c h = go (constant_bound l.kind) refl
    where
      first : (b : Bool) → rounds l.node (quick_block [] l.body) ≡ b → constant_bound l.kind ≡ None → rounds l.node (quick_block [] l.body) ≡ false
      first false e o = e
      first true e o = absurd (keeps B1 l.pos (record {
        loop = l;
        within = c;
        place = refl;
        broken = (o, unpaced l.kind l.body h, subst (λ ps. goes_round ps l ≡ true) (sym nothing_passes) e);
      }))

      third : (n : ℕ) (b : Bool) → nat_lt 65536 n ≡ b → constant_bound l.kind ≡ Some n → n ≤ 65536
      third n false e o = ltb-false 65536 n e
      third n true e o = absurd (keeps B3 l.pos (record { loop = l; within = c; place = refl; broken = (n, o, ltb-true 65536 n e) }))

      go : (o : Option ℕ) → constant_bound l.kind ≡ o → bound_fine o l.node (quick_block [] l.body)
      go None e = first (rounds l.node (quick_block [] l.body)) refl e
      go (Some n) e = third n (nat_lt 65536 n) refl e

  abbrev Inside : List TrailLoop → Type 0
  Inside ls = (l : TrailLoop) → Contains ls l → Contains (all_loops K) l

  inside_left : (xs ys : List TrailLoop) → Inside (xs ++ ys) → Inside xs
  inside_left xs ys h l c = h l (Contains-append_left xs ys l c)

  inside_right : (xs ys : List TrailLoop) → Inside (xs ++ ys) → Inside ys
  inside_right xs ys h l c = h l (Contains-append_right xs ys l c)

  inside_more : (x : TrailLoop) (ys : List TrailLoop) → Inside (x ∷ ys) → Inside ys
  inside_more x ys h = inside_right (x ∷ []) ys h

  module _ (names : List (List ℕ)) where
    mutual
      unfolding stmt_fine stmt_ok stmt_single stmt_nodes loops

      stmt_is : (sc : Scope) (n : ℕ) (p : Pos) (st : KStmt) → stmt_ok K names sc n st ≡ true → counts_from (n + 1) (stmt_nodes st) ≡ true → stmt_single st ≡ true → Inside (loops n p st) → Below sc.aims n → stmt_fine K sc.aims n st
      stmt_is sc n p Nothing ok c one i below = tt
      stmt_is sc n p (Assign l e) ok c one i below = tt
      stmt_is sc n p (Out k e) ok c one i below = tt
      stmt_is sc n p (AwaitIn k t) ok c one i below = tt
      stmt_is sc n p (AwaitTime e u t) ok c one i below = tt
      stmt_is sc n p Forever ok c one i below = tt
      stmt_is sc n p (Do t b) ok c one i below =
          let aim = do_node K n t in
          let at = block_counts b (n + 1) c in
          let inner : Below (do_aim K n t ∷ sc.aims) (n + 1) = (omega (arith, aim), below_more sc.aims n (n + 1) (omega arith) below) in (
            below,
            below_more (do_aim K n t ∷ sc.aims) (n + 1) (out-KBlock b).node (omega (arith, at)) inner,
            block_is (with_aim (do_aim K n t) sc) b (n + 1) (and_parts _ (block_ok K names (with_aim (do_aim K n t) sc) b) ok).1 c one i (below_more (do_aim K n t ∷ sc.aims) (n + 1) (n + 1 + 1) (omega arith) inner),
          )
      stmt_is sc n p (Escape m e) ok c one i below = λ v. escape_leads K sc m e sc.aims v (and_parts (outside_finalizers sc.place) (escape_ok K sc m e sc.aims) ok).1
      stmt_is sc n p (Break m) ok c one i below = loop_leads K m sc.aims leaf.Break (inl refl) (and_parts (outside_finalizers sc.place) _ ok).1
      stmt_is sc n p (Continue m) ok c one i below = loop_leads K m sc.aims leaf.Continue (inr refl) (and_parts (outside_finalizers sc.place) _ ok).1
      stmt_is sc n p (If' x arms last) ok c one i below =
          let a = and_parts (outside_finalizers sc.place && arms_ok K names sc arms) (block_ok K names sc last) ok in
          let b = and_parts (outside_finalizers sc.place) (arms_ok K names sc arms) a.0 in
          let y = and_parts (arms_single arms) (block_single last) one in
          let z = counts_parts (n + 1) (arms_nodes arms) (block_nodes last) c in
          let at = block_counts last (n + 1 + length (arms_nodes arms)) z.1 in (
            below,
            arms_is sc n arms (n + 1) b.1 z.0 y.0 (inside_left (arms_loops arms) (block_loops last) i) (below_more sc.aims n (n + 1) (omega arith) below),
            below_more sc.aims n (out-KBlock last).node (omega (arith, at)) below,
            block_is sc last (n + 1 + length (arms_nodes arms)) a.1 z.1 y.1 (inside_right (arms_loops arms) (block_loops last) i) (below_more sc.aims n (n + 1 + length (arms_nodes arms) + 1) (omega arith) below),
          )
      stmt_is sc n p (Loop k b) ok c one i below =
          let at = block_counts b (n + 1) c in
          let inner : Below (LoopAim n ∷ sc.aims) (n + 1) = (omega arith, below_more sc.aims n (n + 1) (omega arith) below) in (
            below,
            loop_keeps (trail_loop n p k b) (i (trail_loop n p k b) (0, omega arith, refl)) one,
            below_more (LoopAim n ∷ sc.aims) (n + 1) (out-KBlock b).node (omega (arith, at)) inner,
            subst (λ y. block_fine K (LoopAim n ∷ y) b) (turns_aims K k sc)
                (block_is (with_aim (LoopAim n) (with_turns K k sc)) b (n + 1) (and_parts _ (block_ok K names (with_aim (LoopAim n) (with_turns K k sc)) b) ok).1 c one (inside_more (trail_loop n p k b) (block_loops b) i)
                (subst (λ y. Below (LoopAim n ∷ y) (n + 1 + 1)) (sym (turns_aims K k sc)) (below_more (LoopAim n ∷ sc.aims) (n + 1) (n + 1 + 1) (omega arith) inner))),
          )
      stmt_is sc n p st ok c one i below = absurd (false≢true one)

      pub block_is : (sc : Scope) (b : KBlock) (k : ℕ) → block_ok K names sc b ≡ true → counts_from k (block_nodes b) ≡ true → block_single b ≡ true → Inside (block_loops b) → Below sc.aims (k + 1) → block_fine K sc.aims b
      block_is sc (KBlock' n ds x list) k ok c one i below =
          nodes_is (with_decls ds sc) list (k + 1) (and_parts _ (nodes_ok K names (with_decls ds sc) list) ok).1 (and_parts (n == k) (counts_from (k + 1) (list_nodes list)) c).1 (and_parts _ (nodes_single list) one).1 i below

      arm_is : (sc : Scope) (n : ℕ) (a : KArm) (k : ℕ) → arm_ok K names sc a ≡ true → counts_from k (arm_nodes a) ≡ true → arm_single a ≡ true → Inside (arm_loops a) → Below sc.aims k → arm_fine K sc.aims n a
      arm_is sc n (KArm' c b) k ok m one i below =
          let at = block_counts b k m in
          (below_more sc.aims k (out-KBlock b).node (omega (arith, at)) below, block_is sc b k (and_parts _ (block_ok K names sc b) ok).1 m one i (below_more sc.aims k (k + 1) (omega arith) below))

      nodes_is : {m : _} (sc : Scope) (rows : Row_of-KNode m) (k : ℕ) → nodes_ok K names sc rows ≡ true → counts_from k (list_nodes rows) ≡ true → nodes_single rows ≡ true → Inside (nodes_loops rows) → Below sc.aims k → nodes_fine K sc.aims rows
      nodes_is sc end_of-KNode k ok c one i below = tt
      nodes_is sc (more_of-KNode n p s rest) k ok c one i below =
          let a = and_parts _ (nodes_ok K names sc rest) ok in
          let b = and_parts (n == k) (counts_from (k + 1) (stmt_nodes s ++ list_nodes rest)) c in
          let e = eqb-true n k b.0 in
          let z = counts_parts (k + 1) (stmt_nodes s) (list_nodes rest) b.1 in
          let y = and_parts (stmt_single s) (nodes_single rest) one in (
            stmt_is sc n p s (and_parts _ (stmt_ok K names sc n s) a.0).1 (subst (λ j. counts_from (j + 1) (stmt_nodes s) ≡ true) (sym e) z.0) y.0 (inside_left (loops n p s) (nodes_loops rest) i) (below_more sc.aims k n (omega (arith, e)) below),
            nodes_is sc rest (k + 1 + length (stmt_nodes s)) a.1 z.1 y.1 (inside_right (loops n p s) (nodes_loops rest) i) (below_more sc.aims k (k + 1 + length (stmt_nodes s)) (omega arith) below),
          )

      arms_is : {m : _} (sc : Scope) (n : ℕ) (rows : Row_of-KArm m) (k : ℕ) → arms_ok K names sc rows ≡ true → counts_from k (arms_nodes rows) ≡ true → arms_single rows ≡ true → Inside (arms_loops rows) → Below sc.aims k → arms_fine K sc.aims n rows
      arms_is sc n end_of-KArm k ok c one i below = tt
      arms_is sc n (more_of-KArm a rest) k ok c one i below =
          let x = and_parts (arm_ok K names sc a) (arms_ok K names sc rest) ok in
          let z = counts_parts k (arm_nodes a) (arms_nodes rest) c in
          let y = and_parts (arm_single a) (arms_single rest) one in (
            arm_is sc n a k x.0 z.0 y.0 (inside_left (arm_loops a) (arms_loops rest) i) below,
            arms_is sc n rest (k + length (arm_nodes a)) x.1 z.1 y.1 (inside_right (arm_loops a) (arms_loops rest) i) (below_more sc.aims k (k + length (arm_nodes a)) (omega arith) below),
          )
