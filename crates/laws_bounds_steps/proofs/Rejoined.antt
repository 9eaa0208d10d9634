-- What the parts around a trail make of what it comes to pays as much.
use Rattle.std.proofs.Common.{◌≡◌, refl, sym, ap, subst, ℕ, ◌+◌, pos, ◌+ℤ◌, int_lt, Bool, true, false, if◌then◌else◌, ◌==◌, ◌||◌, List, Option, Some, None, inl, inr, arith, eq-eqb, eqb-true}
use Rattle.std.proofs.lemmas.Bool.{false≢true, eqb-false}
use Rattle.ceu_tree.specs.declared.kernel.KLoop.{KLoop}
use Rattle.ceu_tree.specs.declared.kernel.KLoop.TheVariants as turns
use Rattle.ceu_tree.specs.declared.kernel.ParKind.{ParKind}
use Rattle.ceu_tree.specs.declared.kernel.ParKind.TheVariants as par
use Rattle.ceu_tree.specs.declared.kernel.KNode.{KNode}
use Rattle.ceu_tree.specs.declared.kernel.KBlock.{KBlock}
use Rattle.ceu_tree.specs.declared.kernel.KStmt.{out-KStmt}
use Rattle.ceu_tree.specs.declared.kernel.KStmt.TheOpen.{KStmt-F}
use Rattle.ceu_tree.specs.Residual.{Body, Act, Counter, Free, Turns, Upward, Seat, Residual, Over, Block, Loop, Par, Branches, no_branch, branch, Instances, no_instance, instance}
use Rattle.ceu_tree.specs.Focus.{Focus, join, join_instances}
use Rattle.ceu_tree.specs.World.{World}
use Rattle.ceu_tree.specs.Leaf.{Exit, Escape, Break, Continue}
use Rattle.ceu_tree.specs.Around.{Rests, Past, Moved, moved, loop_left, turn_of, is_over, all_over, kind_of, rejoined}
use Rattle.ceu_tree.specs.Paths.{Way, ToEnd, ToEscape, ToBreak, ToContinue, is_end, is_continue, has_end, without_end, end_if, constant_bound, is_range, loop_ways, par_ways, quick_block}
use Rattle.ceu_tree.specs.Costs.{Cost, cost, plus}
use Rattle.laws_meaning_basics.specs.Shape.{Part, counts}
use Rattle.ceu_endings.specs.Counted.{turns_counted}
use Rattle.ceu_endings.proofs.Turns.{turn_taken, turns_over}
use Rattle.laws_bounds_steps.specs.Ways.{outward, goes_on, stops, to_begin, ways_of_turns, ways_of_loop, ways, ways_of_branches, each_may_end}
use Rattle.laws_bounds_steps.specs.Due.{due, due_of_branches, due_of_instances}
use Rattle.laws_bounds_steps.specs.Pays.{Within, IsOf, Fewer, way_of, Pays, Leaving, Comes, LoopKeeps}
use Rattle.laws_bounds_steps.proofs.WayLists.{among_left, among_right, any_among, any_sub, and_sub, or_sub, end_here, ends, sub_par, loop_other}
use Rattle.laws_bounds_steps.proofs.Cost.{same, both, first, second, pays_first, pays_second}
use Rattle.laws_bounds_steps.proofs.LoopSteps.{range_end}
use Rattle.laws_bounds_steps.proofs.Steps.{again_pays, begin_pays, loop_ends, in_head}
use Rattle.laws_bounds_steps.proofs.Frames.{branch_pays, branch_fewer, branch_ended}

module _ (P : List Bool) (E N : List Cost) (n : ℕ) where
  -- ---- pars

  ended_branch : (r : Residual) → IsOf (ways P r) ToEnd → (is_over Over || has_end (ways P Over)) ≡ true → (is_over r || has_end (ways P r)) ≡ true
  ended_branch r i h = go (is_over r) (ends (ways P r) i)
    where
      go : (x : Bool) → has_end (ways P r) ≡ true → (x || has_end (ways P r)) ≡ true
      go true e = refl
      go false e = e

  none_fewer : (r : Residual) → Fewer (ways P Over) (ways P r)
  unfolding ways
  none_fewer r w i = absurd i

  over_costs : (r : Residual) → Within (cost 1 0) (due P E N r) → Within (plus (cost 1 0) (due P E N Over)) (due P E N r)
  unfolding due
  over_costs r h = let h0 = h.turns in let h1 = h.opens in record { turns = omega (arith, h0); opens = omega (arith, h1) }

  -- a branch is over, and the par waits for the others
  par_rests : (d : Part) (s : KNode) (front back : Branches) (r : Residual) → Leaving P E N r ToEnd → Pays P E N d (cost 1 0) (Par s (join front (branch Over back))) (Par s (join front (branch r back)))
  unfolding due ways
  par_rests d s front back r l =
      let f = sub_par (kind_of (out-KStmt s.stmt)) _ _ _ _ (branch_fewer P E N front back Over r (none_fewer r)) (branch_ended P E N front back Over r (ended_branch r l.way)) in record {
        costs = branch_pays P E N (cost 1 0) front back Over r (over_costs r l.pays);
        fewer = f;
        ended = any_sub is_end _ _ f;
        head = λ p a. absurd (false≢true a);
        await = λ a. absurd (false≢true a);
      }

  branch_costs : (front back : Branches) (r : Residual) → Within (cost 1 0) (due P E N r) → Within (cost 1 0) (due_of_branches P E N (join front (branch r back)))
  unfolding due
  branch_costs no_branch back r h = first _ _ _ h
  branch_costs (branch x more) back r h = second _ _ _ (branch_costs more back r h)

  pub branch_way : (front back : Branches) (r : Residual) (w : Way) → IsOf (ways P r) w → IsOf (ways_of_branches P (join front (branch r back))) w
  unfolding ways
  branch_way no_branch back r w h = among_left w (ways P r) _ h
  branch_way (branch x more) back r w h = among_right w (ways P x) _ (branch_way more back r w h)

  pub par_ends : (s : KNode) (front back : Branches) (r : Residual) (v w : Way) → Leaving P E N r v → IsOf (par_ways (kind_of (out-KStmt s.stmt)) (ways_of_branches P (join front (branch r back))) (each_may_end P (join front (branch r back)))) w → Leaving P E N (Par s (join front (branch r back))) w
  unfolding due ways
  par_ends s front back r v w l i = record { way = i; pays = branch_costs front back r l.pays; past_await = refl; past_head = λ a. absurd (false≢true a) }

  all_ended : (bs : Branches) → all_over bs ≡ true → each_may_end P bs ≡ true
  unfolding ways
  all_ended no_branch h = refl
  all_ended (branch r more) h = and_sub (is_over r) (all_over more) (is_over r || has_end (ways P r)) _ (λ e. ap (λ b. b || has_end (ways P r)) e) (all_ended more) h

  pub rejoined_pays : (d : Part) (s : KNode) (front back : Branches) (r : Residual) (body : Body) (w : World) (k : ParKind) → kind_of (out-KStmt s.stmt) ≡ k → Leaving P E N r ToEnd
      → Comes P E N n d (Par s (join front (branch r back))) (rejoined k s (join front (branch Over back)) body w).outcome
  rejoined_pays d s front back r body w par.Never e l = par_rests d s front back r l
  rejoined_pays d s front back r body w par.Or e l =
      par_ends s front back r ToEnd ToEnd l (subst (λ k. IsOf (par_ways k (ways_of_branches P (join front (branch r back))) (each_may_end P (join front (branch r back)))) ToEnd) (sym e) (branch_way front back r ToEnd l.way))
  rejoined_pays d s front back r body w par.And e l = go (all_over (join front (branch Over back))) refl
    where
      go : (x : Bool) → all_over (join front (branch Over back)) ≡ x → Comes P E N n d (Par s (join front (branch r back))) (if x then moved Past w else moved (Rests (Par s (join front (branch Over back)))) w).outcome
      go true q = par_ends s front back r ToEnd ToEnd l (subst (λ k. IsOf (par_ways k (ways_of_branches P (join front (branch r back))) (each_may_end P (join front (branch r back)))) ToEnd) (sym e)
          (among_right ToEnd (without_end (ways_of_branches P (join front (branch r back)))) _
          (end_here _ (branch_ended P E N front back Over r (ended_branch r l.way) (all_ended (join front (branch Over back)) q)))))
      go false q = par_rests d s front back r l

  -- ---- an instance that has ended

  unseated_costs : (front back : Instances) (seat : Seat) (r : Residual) → Within (cost 1 0) (due P E N r) → Within (plus (cost 1 0) (due_of_instances P E N (join_instances front back))) (due_of_instances P E N (join_instances front (instance seat r back)))
  unfolding due
  unseated_costs no_instance back seat r h = both _ _ _ _ h (same _)
  unseated_costs (instance t x more) back seat r h = pays_second (cost 1 0) _ _ _ _ (same _) (unseated_costs more back seat r h)

  pub instance_ends : (d : Part) (b : KBlock) (fin : List KNode) (front back : Instances) (seat : Seat) (q r : Residual) (rest : List KNode) (v : Way) → Leaving P E N r v
      → Pays P E N d (cost 1 0) (Block b fin (join_instances front back) q rest) (Block b fin (join_instances front (instance seat r back)) q rest)
  unfolding due ways
  instance_ends d b fin front back seat q r rest v l = record {
    costs = pays_first (cost 1 0) _ _ _ _ (unseated_costs front back seat r l.pays) (same _);
    fewer = λ w i. i;
    ended = λ i. i;
    head = λ p a. (a, pays_first (cost 1 0) _ _ _ _ (unseated_costs front back seat r l.pays) (same _));
    await = λ a. absurd (false≢true a);
  }

  -- ---- exits from loops, and their next turns

  pub goes_end : (node : ℕ) (q : List Way) → IsOf q ToEnd → goes_on node q ≡ true
  goes_end node q h = or_sub true false (has_end q) _ (λ e. ends q h) (λ e. absurd (false≢true e)) refl

  goes_continue : (node m : ℕ) (q : List Way) → (m == node) ≡ true → IsOf q (ToContinue m) → goes_on node q ≡ true
  goes_continue node m q e h = or_sub false true (has_end q) _ (λ e. absurd (false≢true e)) (λ z. any_among (is_continue node) (ToContinue m) q (eq-eqb node m (sym (eqb-true m node e))) h) refl

  stop_way : (s : KNode) (k : KLoop) (b : KBlock) (c : Counter) (q : List Way) → stops s.node q ≡ true → IsOf (ways_of_loop P s.node (KStmt-F.Loop k b) c q) ToEnd
  stop_way s k b c q h = among_right ToEnd (outward s.node q) _ (among_left ToEnd (end_if (stops s.node q)) _ (end_here _ h))

  pub loop_left_pays : (t : Bool) (d : Part) (s : KNode) (k : KLoop) (b : KBlock) (c : Counter) (f : Focus Act) (body : Body) (node : ℕ) (x : Exit) (w : World) (r : Residual) → out-KStmt s.stmt ≡ KStmt-F.Loop k b
      → (node == s.node) ≡ t → Leaving P E N r (way_of node x) → Comes P E N n d (Loop s c r) (loop_left t s c f body node x w).outcome
  loop_left_pays true d s k b c f body node Continue w r e q l = again_pays P E N n d s k b c r _ e l (goes_continue s.node node (ways P r) q l.way)
  loop_left_pays true d s k b c f body node Break w r e q l =
      loop_ends P E N n s k b c r _ ToEnd e l (stop_way s k b c (ways P r) (any_among _ (ToBreak node) (ways P r) (eq-eqb s.node node (sym (eqb-true node s.node q))) l.way))
  loop_left_pays true d s k b c f body node (Escape v) w r e q l =
      loop_ends P E N n s k b c r _ ToEnd e l (stop_way s k b c (ways P r) (any_among _ (ToEscape node) (ways P r) (ap (λ b. b || false) (eq-eqb s.node node (sym (eqb-true node s.node q)))) l.way))
  loop_left_pays false d s k b c f body node x w r e q l = loop_ends P E N n s k b c r _ (way_of node x) e l (loop_other P node s.node x k b c (ways P r) q l.way)

  -- a range that is over
  range_way : (s : KNode) (k : KLoop) (b : KBlock) (c : Counter) (q : List Way) → is_range k ≡ true → to_begin k c ≡ 0 → goes_on s.node q ≡ true → IsOf (ways_of_loop P s.node (KStmt-F.Loop k b) c q) ToEnd
  range_way s k b c q r z g = in_head P E N n s k b c q g ToEnd (go (constant_bound k) refl)
    where
      go : (o : Option ℕ) → constant_bound k ≡ o → IsOf (elim o [ None ↦ loop_ways s.node k (quick_block P b) | Some m ↦ ways_of_turns P s.node k b (to_begin k c) ]) ToEnd
      go None e = range_end s.node k (quick_block P b) e r
      go (Some m) e = subst (λ j. IsOf (ways_of_turns P s.node k b j) ToEnd) (sym z) (end_here (is_range k) r)

  either : (d : Part) (r : Residual) (t : Bool) (x y : Moved) → (t ≡ true → Comes P E N n d r x.outcome) → (t ≡ false → Comes P E N n d r y.outcome) → Comes P E N n d r (if t then x else y).outcome
  either d r true x y h k = h refl
  either d r false x y h k = k refl

  pub turn_of_pays : (d : Part) (s : KNode) (k : KLoop) (b : KBlock) (c : Counter) (body : Body) (w : World) (r : Residual) → out-KStmt s.stmt ≡ KStmt-F.Loop k b → LoopKeeps P s.node k b → counts k c ≡ true → turns_counted k c
      → Leaving P E N r ToEnd → Comes P E N n d (Loop s c r) (turn_of s k b c body w).outcome
  turn_of_pays d s turns.Free b Free body w r e keeps h m l = begin_pays P E N n d s turns.Free b Free Free r ToEnd e keeps (inl refl) l (goes_end s.node (ways P r) l.way)
  turn_of_pays d s (turns.Times slot limit) b (Turns j) body w r e keeps h m l = either d _ (j == limit) _ _ (λ q. tt)
      (λ q. begin_pays P E N n d s (turns.Times slot limit) b (Turns j) (Turns (j + 1)) r ToEnd e keeps (inr (let z = eqb-false j limit q in omega (arith, m, z))) l (goes_end s.node (ways P r) l.way))
  turn_of_pays d s (turns.Range i next end open_a x y open_b) b (Upward at last) body w r e keeps h m l = either d _ (int_lt last at) _ _
      (λ q. loop_ends P E N n s (turns.Range i next end open_a x y open_b) b (Upward at last) r ToEnd ToEnd e l (range_way s (turns.Range i next end open_a x y open_b) b (Upward at last) (ways P r) refl (turns_over at last q) (goes_end s.node (ways P r) l.way)))
      (λ q. begin_pays P E N n d s (turns.Range i next end open_a x y open_b) b (Upward at last) (Upward (at +ℤ pos 1) last) r ToEnd e keeps (inr (sym (turn_taken at last q))) l (goes_end s.node (ways P r) l.way))
  turn_of_pays d s turns.Free b (Turns j) body w r e keeps h m l = absurd (false≢true h)
  turn_of_pays d s turns.Free b (Upward at last) body w r e keeps h m l = absurd (false≢true h)
  turn_of_pays d s (turns.Times slot limit) b Free body w r e keeps h m l = absurd (false≢true h)
  turn_of_pays d s (turns.Times slot limit) b (Upward at last) body w r e keeps h m l = absurd (false≢true h)
  turn_of_pays d s (turns.Range i next end open_a x y open_b) b Free body w r e keeps h m l = absurd (false≢true h)
  turn_of_pays d s (turns.Range i next end open_a x y open_b) b (Turns j) body w r e keeps h m l = absurd (false≢true h)
