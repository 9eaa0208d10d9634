-- What a statement costs where it stood waiting, whether it waits, and whether it is calm, one level of it open.
use Rattle.std.proofs.Common.{◌≡◌, refl, sym, ap, ◌∙◌, Bool, true, false, not, ◌||◌, ◌&&◌, ℕ, List}
use Rattle.std.specs.List.{list_any, list_all}
use Rattle.ceu_tree.specs.declared.kernel.KStmt.{KStmt, out-KStmt, Row_of-KArm, end_of-KArm, more_of-KArm, items-the_row-KArm, items_shown-the_row-KArm-0, Row_of-KBlock, end_of-KBlock, more_of-KBlock, items-the_row-KBlock, items_shown-the_row-KBlock-1, If', Par'}
use Rattle.ceu_tree.specs.declared.kernel.KStmt.TheOpen.{KStmt-F}
use Rattle.ceu_tree.specs.Leaf.{Layer}
use Rattle.ceu_tree.specs.Costs.{Cost, cost, nothing, plus, most, sum_of, most_of, cost_at, no_bound, is_calm, calm_block, calm_arm, calm_arms, loop_stay, enter_block, stay, stay_block, stay_arm, stay_arms, stay_blocks, stands_waiting, waiting_block, waiting_arm, waiting_arms, waiting_blocks}
use denote.Hole.Carrier

module _ (P : List Bool) (E N S : List Cost) where
  abbrev pub stay_layer : ℕ → Layer → Cost
  stay_layer node (KStmt-F.AwaitIn k t) = cost 1 0
  stay_layer node (KStmt-F.AwaitTime e u t) = cost 1 0
  stay_layer node (KStmt-F.AwaitEvent e t) = cost 1 0
  stay_layer node (KStmt-F.Async b) = cost 1 0
  stay_layer node (KStmt-F.AwaitCode c es f t) = cost_at c S
  stay_layer node (KStmt-F.Do t b) = stay_block P E N S b
  stay_layer node (KStmt-F.If arms last) = most (most_of (stay_arm P E N S) arms) (stay_block P E N S last)
  stay_layer node (KStmt-F.Par k slot bs) = sum_of (stay_block P E N S) bs
  stay_layer node (KStmt-F.Loop k b) = loop_stay P node k b (stay_block P E N S b) (enter_block P E N b)
  stay_layer node layer = nothing

  cost_arms : {n : _} (r : Row_of-KArm n) → stay_arms P E N S r ≡ most_of (stay_arm P E N S) (items-the_row-KArm n r)
  unfolding stay
  cost_arms end_of-KArm = refl
  cost_arms (more_of-KArm b rest) = ap (λ k. most (stay_arm P E N S b) k) (cost_arms rest)

  cost_blocks : {n : _} (r : Row_of-KBlock n) → stay_blocks P E N S r ≡ sum_of (stay_block P E N S) (items-the_row-KBlock n r)
  unfolding stay
  cost_blocks end_of-KBlock = refl
  cost_blocks (more_of-KBlock b rest) = ap (λ k. plus (stay_block P E N S b) k) (cost_blocks rest)

  pub stay_is : (node : ℕ) (st : KStmt) → stay P E N S node st ≡ stay_layer node (out-KStmt st)
  unfolding stay out-KStmt Carrier.out
  stay_is node (If' x arms last) = ap (λ k. most k (stay_block P E N S last)) (cost_arms arms ∙ ap (most_of (stay_arm P E N S)) (sym (items_shown-the_row-KArm-0 x arms)))
  stay_is node (Par' kind slot x bs) = cost_blocks bs ∙ ap (sum_of (stay_block P E N S)) (sym (items_shown-the_row-KBlock-1 x bs))
  stay_is node st = refl

-- ---- waits

abbrev pub waits_layer : Layer → Bool
waits_layer (KStmt-F.AwaitIn k t) = true
waits_layer (KStmt-F.AwaitTime e u t) = true
waits_layer (KStmt-F.AwaitEvent e t) = true
waits_layer KStmt-F.Forever = true
waits_layer (KStmt-F.AwaitCode c es f t) = true
waits_layer (KStmt-F.Async b) = true
waits_layer (KStmt-F.Do t b) = waiting_block b
waits_layer (KStmt-F.If arms last) = list_any waiting_arm arms || waiting_block last
waits_layer (KStmt-F.Par k slot bs) = list_any waiting_block bs
waits_layer (KStmt-F.Loop k b) = waiting_block b
waits_layer layer = false

wait_arms : {n : _} (r : Row_of-KArm n) → waiting_arms r ≡ list_any waiting_arm (items-the_row-KArm n r)
unfolding stands_waiting
wait_arms end_of-KArm = refl
wait_arms (more_of-KArm b rest) = ap (λ k. waiting_arm b || k) (wait_arms rest)

wait_blocks : {n : _} (r : Row_of-KBlock n) → waiting_blocks r ≡ list_any waiting_block (items-the_row-KBlock n r)
unfolding stands_waiting
wait_blocks end_of-KBlock = refl
wait_blocks (more_of-KBlock b rest) = ap (λ k. waiting_block b || k) (wait_blocks rest)

pub waits_is : (st : KStmt) → stands_waiting st ≡ waits_layer (out-KStmt st)
unfolding stands_waiting out-KStmt Carrier.out
waits_is (If' x arms last) = ap (λ k. k || waiting_block last) (wait_arms arms ∙ ap (list_any waiting_arm) (sym (items_shown-the_row-KArm-0 x arms)))
waits_is (Par' kind slot x bs) = wait_blocks bs ∙ ap (list_any waiting_block) (sym (items_shown-the_row-KBlock-1 x bs))
waits_is st = refl

-- ---- calm statements

abbrev pub calm_layer : Layer → Bool
calm_layer (KStmt-F.AwaitIn k t) = false
calm_layer (KStmt-F.AwaitTime e u t) = false
calm_layer (KStmt-F.AwaitEvent e t) = false
calm_layer KStmt-F.Forever = false
calm_layer (KStmt-F.AwaitCode c es f t) = false
calm_layer (KStmt-F.Async b) = false
calm_layer (KStmt-F.Par k slot bs) = false
calm_layer (KStmt-F.Spawn c es p a) = false
calm_layer (KStmt-F.Do t b) = calm_block b
calm_layer (KStmt-F.If arms last) = list_all calm_arm arms && calm_block last
calm_layer (KStmt-F.Loop k b) = not (no_bound k) && calm_block b
calm_layer layer = true

calm_row : {n : _} (r : Row_of-KArm n) → calm_arms r ≡ list_all calm_arm (items-the_row-KArm n r)
unfolding is_calm
calm_row end_of-KArm = refl
calm_row (more_of-KArm b rest) = ap (λ k. calm_arm b && k) (calm_row rest)

pub calm_is : (st : KStmt) → is_calm st ≡ calm_layer (out-KStmt st)
unfolding is_calm out-KStmt Carrier.out
calm_is (If' x arms last) = ap (λ k. k && calm_block last) (calm_row arms ∙ ap (list_all calm_arm) (sym (items_shown-the_row-KArm-0 x arms)))
calm_is (Par' kind slot x bs) = refl
calm_is st = refl
