-- A tree that costs at most so much more than another with the same trails on its path, and goes on the same ways.
use Rattle.std.proofs.Common.{◌≡◌, refl, ◌∙◌, ℕ, Bool, true, false, if◌then◌else◌, List, Option, Some, None, arith}
use Rattle.ceu_tree.specs.declared.kernel.KNode.{KNode}
use Rattle.ceu_tree.specs.declared.kernel.KBlock.{KBlock}
use Rattle.ceu_tree.specs.declared.kernel.KStmt.{out-KStmt}
use Rattle.ceu_tree.specs.declared.kernel.KStmt.TheOpen.{KStmt-F}
use Rattle.ceu_tree.specs.Residual.{Counter, Seat, Residual, Block, Branches, no_branch, branch, Instances, no_instance, instance}
use Rattle.ceu_tree.specs.Focus.{Frame, OfBlock, OfInstance, OfOpen, OfLoop, OfCall, OfPar, join, join_instances, fill}
use Rattle.ceu_tree.specs.Leaf.{Layer}
use Rattle.ceu_tree.specs.Around.{is_over}
use Rattle.ceu_tree.specs.Paths.{Way}
use Rattle.ceu_tree.specs.Costs.{Cost, nothing, plus, paced}
use Rattle.laws_bounds_steps.specs.Ways.{goes_on, ways, ways_of_branches, each_may_end}
use Rattle.laws_bounds_steps.specs.Due.{at_await, at_head, running, head_due, due_in_loop, due, due_of_branches, due_of_instances, due_at_head}
use Rattle.laws_bounds_steps.specs.Pays.{Within}
use Rattle.laws_bounds_steps.proofs.Cost.{same}

-- a sum of which a part is at most so much more
pub more_first : (k a b c d : Cost) → Within a (plus k c) → Within b d → Within (plus a b) (plus k (plus c d))
more_first k a b c d h g = let h0 = h.turns in let h1 = h.opens in let g0 = g.turns in let g1 = g.opens in record { turns = omega (arith, h0, g0); opens = omega (arith, h1, g1) }

pub more_second : (k a b c d : Cost) → Within a c → Within b (plus k d) → Within (plus a b) (plus k (plus c d))
more_second k a b c d h g = let h0 = h.turns in let h1 = h.opens in let g0 = g.turns in let g1 = g.opens in record { turns = omega (arith, h0, g0); opens = omega (arith, h1, g1) }

pub no_less : (k a : Cost) → Within a (plus k a)
no_less k a = record { turns = omega arith; opens = omega arith }

none_then : (k a b c : Cost) → Within a (plus nothing b) → Within b (plus k c) → Within a (plus k c)
none_then k a b c h g = let h0 = h.turns in let h1 = h.opens in let g0 = g.turns in let g1 = g.opens in record { turns = omega (arith, h0, g0); opens = omega (arith, h1, g1) }

module _ (P : List Bool) (E N : List Cost) where
  pub record AtMost (k : Cost) (q r : Residual) : Type 0 where
    pub whole : Within (due P E N q) (plus k (due P E N r))
    pub ways_same : ways P q ≡ ways P r
    pub over_same : is_over q ≡ is_over r
    pub head_same : at_head q ≡ at_head r
    pub head : Within (due_at_head P E N q) (plus k (due_at_head P E N r))
    pub await_same : at_await q ≡ at_await r
    pub turn_same : running q ≡ running r

  pub itself : (k : Cost) (r : Residual) → AtMost k r r
  itself k r = record { whole = no_less k _; ways_same = refl; over_same = refl; head_same = refl; head = no_less k _; await_same = refl; turn_same = refl }

  -- ---- in the part around it

  branch_more : (k : Cost) (front back : Branches) (q r : Residual) → Within (due P E N q) (plus k (due P E N r)) → Within (due_of_branches P E N (join front (branch q back))) (plus k (due_of_branches P E N (join front (branch r back))))
  unfolding due
  branch_more k no_branch back q r h = more_first k _ _ _ _ h (same _)
  branch_more k (branch x more) back q r h = more_second k _ _ _ _ (same _) (branch_more k more back q r h)

  branch_ways : (front back : Branches) (q r : Residual) → ways P q ≡ ways P r → ways_of_branches P (join front (branch q back)) ≡ ways_of_branches P (join front (branch r back))
  unfolding ways
  branch_ways no_branch back q r e = rw e
  branch_ways (branch x more) back q r e = rw (branch_ways more back q r e)

  branch_ends : (front back : Branches) (q r : Residual) → is_over q ≡ is_over r → ways P q ≡ ways P r → each_may_end P (join front (branch q back)) ≡ each_may_end P (join front (branch r back))
  unfolding ways
  branch_ends no_branch back q r o e = rw (o, e)
  branch_ends (branch x more) back q r o e = rw (branch_ends more back q r o e)

  instance_more : (k : Cost) (front back : Instances) (seat : Seat) (q r : Residual) → Within (due P E N q) (plus k (due P E N r))
      → Within (due_of_instances P E N (join_instances front (instance seat q back))) (plus k (due_of_instances P E N (join_instances front (instance seat r back))))
  unfolding due
  instance_more k no_instance back seat q r h = more_first k _ _ _ _ h (same _)
  instance_more k (instance s x more) back seat q r h = more_second k _ _ _ _ (same _) (instance_more k more back seat q r h)

  loop_more : (k : Cost) (node : ℕ) (layer : Layer) (c : Counter) (h : Bool) (v w i j : Cost) (p : List Way) → Within i (plus k j) → Within v (plus k w)
      → Within (due_in_loop P E N node layer c h v i p) (plus k (due_in_loop P E N node layer c h w j p))
  loop_more k node (KStmt-F.Loop kind b) c h v w i j p x y = go (paced kind b) h
    where
      go : (o : Option ℕ) (h : Bool) → Within (elim o [ Some e ↦ if h then v else i | None ↦ plus i (if goes_on node p then head_due P E N node kind b c else nothing) ])
          (plus k (elim o [ Some e ↦ if h then w else j | None ↦ plus j (if goes_on node p then head_due P E N node kind b c else nothing) ]))
      go (Some e) true = y
      go (Some e) false = x
      go None h = more_first k _ _ _ _ x (same _)
  loop_more k node layer c h v w i j p x y = x

  pub fill_more : (k : Cost) (fr : Frame) (q r : Residual) → AtMost k q r → AtMost k (fill fr q) (fill fr r)
  unfolding due ways
  fill_more k (OfBlock b fin all rest) q r h = record {
    whole = rw h.ways_same (more_second k _ _ _ _ (same _) (more_first k _ _ _ _ h.whole (same _)));
    ways_same = rw h.ways_same;
    over_same = refl;
    head_same = h.await_same;
    head = rw h.turn_same (no_less k _);
    await_same = refl;
    turn_same = refl;
  }
  fill_more k (OfInstance b fin front seat back x rest) q r h = record {
    whole = more_first k _ _ _ _ (instance_more k front back seat q r h.whole) (same _);
    ways_same = refl;
    over_same = refl;
    head_same = refl;
    head = more_first k _ _ _ _ (instance_more k front back seat q r h.whole) (same _);
    await_same = refl;
    turn_same = refl;
  }
  fill_more k (OfOpen s) q r h = record { whole = h.whole; ways_same = rw h.ways_same; over_same = refl; head_same = refl; head = no_less k _; await_same = refl; turn_same = refl }
  fill_more k (OfLoop s c) q r h = record {
    whole = rw (h.ways_same, h.head_same) (loop_more k s.node (out-KStmt s.stmt) c (at_head r) _ _ _ _ (ways P r) h.whole h.head);
    ways_same = rw h.ways_same;
    over_same = refl;
    head_same = refl;
    head = no_less k _;
    await_same = refl;
    turn_same = refl;
  }
  fill_more k (OfCall s) q r h = record { whole = h.whole; ways_same = h.ways_same; over_same = refl; head_same = refl; head = no_less k _; await_same = refl; turn_same = refl }
  fill_more k (OfPar s front back) q r h = record {
    whole = branch_more k front back q r h.whole;
    ways_same = rw (branch_ways front back q r h.ways_same, branch_ends front back q r h.over_same h.ways_same);
    over_same = refl;
    head_same = refl;
    head = no_less k _;
    await_same = refl;
    turn_same = refl;
  }

  -- what stands beside the path
  pub block_more : (k : Cost) (b : KBlock) (fin rest : List KNode) (more all : Instances) (r : Residual) → Within (due_of_instances P E N more) (plus k (due_of_instances P E N all)) → AtMost k (Block b fin more r rest) (Block b fin all r rest)
  unfolding due ways
  block_more k b fin rest more all r h = record {
    whole = more_first k _ _ _ _ h (same _);
    ways_same = refl;
    over_same = refl;
    head_same = refl;
    head = more_first k _ _ _ _ h (same _);
    await_same = refl;
    turn_same = refl;
  }

  -- one after the other
  pub then_more : (k : Cost) (p q r : Residual) → AtMost nothing p q → AtMost k q r → AtMost k p r
  then_more k p q r h g = record {
    whole = none_then k _ _ _ h.whole g.whole;
    ways_same = h.ways_same ∙ g.ways_same;
    over_same = h.over_same ∙ g.over_same;
    head_same = h.head_same ∙ g.head_same;
    head = none_then k _ _ _ h.head g.head;
    await_same = h.await_same ∙ g.await_same;
    turn_same = h.turn_same ∙ g.turn_same;
  }
