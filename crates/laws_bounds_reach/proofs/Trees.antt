-- A tree whose leaves an event wakes costs more by at most what the event's paced loops in it cost.
use Rattle.std.proofs.Common.{◌≡◌, refl, sym, ◌∙◌, subst, ℕ, ℤ, Bool, true, false, if◌then◌else◌, ◌==◌, List, ◌∷◌, ◌++◌, Option, Some, None, arith, eq-eqb, eqb-true}
use Rattle.ceu_tree.specs.declared.kernel.Kernel.{Kernel}
use Rattle.ceu_tree.specs.declared.kernel.KLoop.{KLoop}
use Rattle.ceu_tree.specs.declared.kernel.KNode.{KNode}
use Rattle.ceu_tree.specs.declared.kernel.ParKind.{ParKind}
use Rattle.ceu_tree.specs.declared.kernel.KBlock.{KBlock, out-KBlock}
use Rattle.ceu_tree.specs.declared.kernel.KStmt.TheOpen.{KStmt-F}
use Rattle.ceu_tree.specs.Residual.{Finish, Counter, Residual, Run, WaitEvent, Branches, Instances}
use Rattle.ceu_tree.specs.Wake.{each_leaf, each_in_branches, each_in_instances, by_event}
use Rattle.ceu_tree.specs.Leaf.{Layer}
use Rattle.ceu_tree.specs.Paths.{Way, has_end}
use Rattle.ceu_tree.specs.Costs.{Cost, cost, nothing, plus, paced, paced_body, enter_list, body_cost, is_event}
use Rattle.ceu_tree.specs.Proper.{Scope}
use Rattle.laws_meaning_basics.specs.Shape.{Part, ABlock, AStatement, Fits, to_begin, to_turn, in_list, to_finish, at_input, at_time, at_event, at_forever, at_async, in_part, in_turn, in_call, in_par, EachFits, no_more, an_ended, a_branch, AllFit, none_lives, one_lives}
use Rattle.laws_bounds_steps.specs.Ways.{goes_on, ways}
use Rattle.laws_bounds_steps.specs.Due.{at_await, at_head, running, head_due, due_in_loop, due, due_of_branches, due_of_instances, due_at_head}
use Rattle.laws_bounds_steps.specs.Pays.{Within}
use Rattle.laws_bounds_steps.specs.Heads.{layer_heads, heads, heads_of_branches, heads_of_instances}
use Rattle.laws_bounds_steps.proofs.Cost.{same, first}
use Rattle.laws_bounds_reach.proofs.Paced.{paced_by_body, paced_await}
use Rattle.laws_bounds_reach.proofs.Awake.{leaves_ways}

-- ---- sums

-- two parts, each of which costs more by something
pub with_both : (a b h c d g : Cost) → Within a (plus b h) → Within c (plus d g) → Within (plus a c) (plus (plus b d) (plus h g))
with_both a b h c d g x y = let x0 = x.turns in let x1 = x.opens in let y0 = y.turns in let y1 = y.opens in record { turns = omega (arith, x0, y0); opens = omega (arith, x1, y1) }

-- one of two parts that costs more, and what follows, which doesn't
pub with_rest : (a b h t : Cost) → Within a (plus b h) → Within (plus a t) (plus (plus b t) h)
with_rest a b h t x = let x0 = x.turns in let x1 = x.opens in record { turns = omega (arith, x0); opens = omega (arith, x1) }

-- what else may cost more
pub more_else : (a b x h : Cost) → Within a (plus b h) → Within a (plus b (plus x h))
more_else a b x h y = let y0 = y.turns in let y1 = y.opens in record { turns = omega (arith, y0); opens = omega (arith, y1) }

pub spared : (a : Cost) → Within a (plus a nothing)
spared a = first a a nothing (same a)

-- a turn and what follows it, for what was at the head
woken_turn : (i j h t x : Cost) → Within i (plus j h) → t ≡ x → Within (plus i (plus (cost 1 0) t)) (plus (plus j nothing) (plus (plus (cost 1 0) x) (plus h nothing)))
woken_turn i j h t x y e = subst (λ z. Within (plus i (plus (cost 1 0) t)) (plus (plus j nothing) (plus (plus (cost 1 0) z) (plus h nothing)))) e (go t)
  where
    go : (t : Cost) → Within (plus i (plus (cost 1 0) t)) (plus (plus j nothing) (plus (plus (cost 1 0) t) (plus h nothing)))
    go t = let y0 = y.turns in let y1 = y.opens in record { turns = omega (arith, y0); opens = omega (arith, y1) }

stays_there : (i j h x : Cost) → Within i (plus j h) → Within (plus i nothing) (plus (plus j nothing) (plus x (plus h nothing)))
stays_there i j h x y = let y0 = y.turns in let y1 = y.opens in record { turns = omega (arith, y0); opens = omega (arith, y1) }

-- ---- an open loop, and its next turns

module _ (P : List Bool) (E N : List Cost) where
  abbrev pub loop_due : ℕ → Layer → Counter → Residual → Cost
  loop_due node layer c r = due_in_loop P E N node layer c (at_head r) (due_at_head P E N r) (due P E N r) (ways P r)

  abbrev pub next_turns : ℕ → KLoop → KBlock → Counter → List Way → Cost
  next_turns node k b c w = if goes_on node w then head_due P E N node k b c else nothing

module _ (P : List Bool) (E N : List Cost) (level e : ℕ) (v : ℤ) where
  abbrev pub awake : Residual → Residual
  awake r = each_leaf (by_event level e v) r

  abbrev pub awake_all : Instances → Instances
  awake_all all = each_in_instances (by_event level e v) all

  -- ---- a leaf that waits for an event, and a block

  event_costs : (k : ℕ) (s : KNode) → Within (due P E N (awake (WaitEvent k s))) (plus (due P E N (WaitEvent k s)) (heads P E N e (WaitEvent k s)))
  unfolding due heads each_leaf
  event_costs k s = go (k == e)
    where
      go : (b : Bool) → Within (due P E N (if b then Run level (Finish s v) else WaitEvent k s)) (plus (cost 1 0) nothing)
      go true = spared (cost 1 0)
      go false = spared (cost 1 0)

  abbrev after : Residual → List KNode → Cost
  after r rest = if has_end (ways P r) then enter_list P E N rest else nothing

  block_costs : (i j h : Cost) (r : Residual) (rest : List KNode) → Within i (plus j h) → Within (due P E N (awake r)) (plus (due P E N r) (heads P E N e r))
      → Within (plus i (plus (due P E N (awake r)) (after (awake r) rest))) (plus (plus j (plus (due P E N r) (after r rest))) (plus h (heads P E N e r)))
  block_costs i j h r rest x y =
      with_both i j h _ (plus (due P E N r) (after r rest)) (heads P E N e r) x
      (subst (λ w. Within (plus (due P E N (awake r)) (if has_end w then enter_list P E N rest else nothing)) (plus (plus (due P E N r) (after r rest)) (heads P E N e r))) (sym (leaves_ways level e v P r))
      (with_rest (due P E N (awake r)) (due P E N r) (heads P E N e r) (after r rest) y))

  -- ---- the body of a loop that an event paces

  abbrev one_turn : ℕ → KBlock → Cost
  one_turn x b = if e == x then plus (cost 1 0) (body_cost P E N b) else nothing

  -- what is left of the body, where its instances cost i and have cost j, and its running part is r, with these statements behind it
  abbrev body_due : Cost → Residual → List KNode → Cost
  body_due i r rest = if at_await r then plus i (running r) else plus i (plus (due P E N r) (after r rest))

  list_costs : {K : Kernel} {top : ℕ} {sc : Scope} {s : KNode} {r : Residual} (b : KBlock) (done rest : List KNode) (x : ℕ) (i j h : Cost)
      → paced_body b ≡ Some x → (out-KBlock b).list ≡ done ++ s ∷ rest → Fits K top (AStatement sc s) r → Within i (plus j h)
      → Within (due P E N (awake r)) (plus (due P E N r) (heads P E N e r))
      → Within (body_due i (awake r) rest) (plus (body_due j r rest) (plus (one_turn x b) (plus h (heads P E N e r))))
  unfolding due heads each_leaf ways
  list_costs {s = s} b done rest x i j h p z (at_event {k = k} t q) y w = go (k == e) refl
    where
      first_of : (x ≡ k) × (enter_list P E N rest ≡ body_cost P E N b)
      first_of = paced_await P E N b done rest s x k t p z q

      go : (c : Bool) → (k == e) ≡ c → Within (body_due i (if c then Run level (Finish s v) else WaitEvent k s) rest) (plus (plus j nothing) (plus (one_turn x b) (plus h nothing)))
      go true g = subst (λ c. Within (plus i (plus (cost 1 0) (enter_list P E N rest))) (plus (plus j nothing) (plus (if c then plus (cost 1 0) (body_cost P E N b) else nothing) (plus h nothing))))
          (sym (eq-eqb e x (sym (first_of.0 ∙ eqb-true k e g)))) (woken_turn i j h _ _ y first_of.1)
      go false g = stays_there i j h (one_turn x b) y
  list_costs {r = r} b done rest x i j h p z (to_finish l q) y w = more_else _ _ (one_turn x b) _ (block_costs i j h r rest y w)
  list_costs {r = r} b done rest x i j h p z (at_input t q) y w = more_else _ _ (one_turn x b) _ (block_costs i j h r rest y w)
  list_costs {r = r} b done rest x i j h p z (at_time m u t q) y w = more_else _ _ (one_turn x b) _ (block_costs i j h r rest y w)
  list_costs {r = r} b done rest x i j h p z (at_forever q) y w = more_else _ _ (one_turn x b) _ (block_costs i j h r rest y w)
  list_costs {r = r} b done rest x i j h p z (at_async c q f) y w = more_else _ _ (one_turn x b) _ (block_costs i j h r rest y w)
  list_costs {r = r} b done rest x i j h p z (in_part c q f) y w = more_else _ _ (one_turn x b) _ (block_costs i j h r rest y w)
  list_costs {r = r} b done rest x i j h p z (in_turn k c q o f) y w = more_else _ _ (one_turn x b) _ (block_costs i j h r rest y w)
  list_costs {r = r} b done rest x i j h p z (in_call c es m t k q o f) y w = more_else _ _ (one_turn x b) _ (block_costs i j h r rest y w)
  list_costs {r = r} b done rest x i j h p z (in_par k slot bs q o f) y w = more_else _ _ (one_turn x b) _ (block_costs i j h r rest y w)

  abbrev turn_due : Residual → Cost
  turn_due r = if at_head r then due_at_head P E N r else due P E N r

  -- ---- loops

  loop_costs : (node : ℕ) (kind : KLoop) (b : KBlock) (c : Counter) (r : Residual) → Within (due P E N (awake r)) (plus (due P E N r) (heads P E N e r))
      → ((x : ℕ) → paced kind b ≡ Some x → Within (turn_due (awake r)) (plus (turn_due r) (plus (one_turn x b) (heads P E N e r))))
      → Within (loop_due P E N node (KStmt-F.Loop kind b) c (awake r)) (plus (loop_due P E N node (KStmt-F.Loop kind b) c r) (plus (layer_heads P E N e (KStmt-F.Loop kind b)) (heads P E N e r)))
  loop_costs node kind b c r x y = go (paced kind b) refl
    where
      go : (o : Option ℕ) → paced kind b ≡ o
          → Within (elim o [ Some k ↦ turn_due (awake r) | None ↦ plus (due P E N (awake r)) (next_turns P E N node kind b c (ways P (awake r))) ])
          (plus (elim o [ Some k ↦ turn_due r | None ↦ plus (due P E N r) (next_turns P E N node kind b c (ways P r)) ])
          (plus (if is_event e o then plus (cost 1 0) (body_cost P E N b) else nothing) (heads P E N e r)))
      go (Some k) z = y k z
      go None z =
          more_else _ _ nothing _
          (subst (λ w. Within (plus (due P E N (awake r)) (next_turns P E N node kind b c w)) (plus (plus (due P E N r) (next_turns P E N node kind b c (ways P r))) (heads P E N e r))) (sym (leaves_ways level e v P r))
          (with_rest (due P E N (awake r)) (due P E N r) (heads P E N e r) _ x))

  -- ---- a tree

  module _ (K : Kernel) where
    mutual
      unfolding due heads each_leaf

      pub tree_costs : {top : ℕ} {d : Part} {r : Residual} → Fits K top d r → Within (due P E N (awake r)) (plus (due P E N r) (heads P E N e r))
      tree_costs (to_begin l) = spared _
      tree_costs (to_turn l p) = spared _
      tree_costs (in_list {rest = rest} {all = all} {r = r} done z f a h) = block_costs _ (due_of_instances P E N all) (heads_of_instances P E N e all) r rest (all_cost a) (tree_costs h)
      tree_costs (to_finish l p) = spared _
      tree_costs (at_input t q) = spared _
      tree_costs (at_time x u t q) = spared _
      tree_costs (at_event {k = k} {s = s} t q) = event_costs k s
      tree_costs (at_forever q) = spared _
      tree_costs (at_async b q h) = spared _
      tree_costs (in_part b q h) = tree_costs h
      tree_costs (in_turn {s = s} {c = c} {r = r} kind b q o h) =
          subst (λ y. Within (loop_due P E N s.node y c (awake r)) (plus (loop_due P E N s.node y c r) (plus (layer_heads P E N e y) (heads P E N e r)))) (sym q)
          (loop_costs s.node kind b c r (tree_costs h) (λ x p. turn_costs kind x p h))
      tree_costs (in_call c es f t k q o h) = tree_costs h
      tree_costs (in_par k slot bs q o h) = each_cost h

      turn_costs : {top : ℕ} {sc : Scope} {b : KBlock} {r : Residual} (kind : KLoop) (x : ℕ) → paced kind b ≡ Some x → Fits K top (ABlock true sc b) r
          → Within (turn_due (awake r)) (plus (turn_due r) (plus (one_turn x b) (heads P E N e r)))
      turn_costs {b = b} kind x p (to_begin l) = more_else _ _ (one_turn x b) _ (spared _)
      turn_costs {b = b} kind x p (to_turn l q) = more_else _ _ (one_turn x b) _ (spared _)
      turn_costs {b = b} kind x p (in_list {rest = rest} {all = all} {r = r} done z f a h) =
          list_costs b done rest x _ (due_of_instances P E N all) (heads_of_instances P E N e all) (paced_by_body kind b x p) z h (all_cost a) (tree_costs h)

      each_cost : {top : ℕ} {sc : Scope} {k : ParKind} {bs : List KBlock} {rs : Branches} → EachFits K top sc k bs rs
          → Within (due_of_branches P E N (each_in_branches (by_event level e v) rs)) (plus (due_of_branches P E N rs) (heads_of_branches P E N e rs))
      each_cost no_more = spared nothing
      each_cost (an_ended m h) = with_both nothing nothing nothing _ _ _ (spared nothing) (each_cost h)
      each_cost (a_branch h more) = with_both _ _ _ _ _ _ (tree_costs h) (each_cost more)

      all_cost : {top : ℕ} {sc : Scope} {all : Instances} → AllFit K top sc all → Within (due_of_instances P E N (awake_all all)) (plus (due_of_instances P E N all) (heads_of_instances P E N e all))
      all_cost none_lives = spared nothing
      all_cost (one_lives k p q h more) = with_both _ _ _ _ _ _ (tree_costs h) (all_cost more)
