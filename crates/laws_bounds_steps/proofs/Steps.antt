-- What the parts around a leaf make of what it comes to pays as much.
use Rattle.std.proofs.Common.{◌≡◌, refl, sym, ap, ◌∙◌, subst, ℕ, Bool, true, false, if◌then◌else◌, ◌==◌, not, List, [], ◌∷◌, ◌++◌, Option, Some, None, arith}
use Rattle.std.proofs.lemmas.Bool.{false≢true}
use Rattle.ceu_tree.specs.declared.kernel.KLoop.{KLoop}
use Rattle.ceu_tree.specs.declared.kernel.KNode.{KNode}
use Rattle.ceu_tree.specs.declared.kernel.KBlock.{KBlock, out-KBlock}
use Rattle.ceu_tree.specs.declared.kernel.KStmt.{out-KStmt}
use Rattle.ceu_tree.specs.declared.kernel.KStmt.TheOpen.{KStmt-F}
use Rattle.ceu_tree.specs.Residual.{Body, Act, Begin, Again, Counter, Residual, Run, Block, Open, Loop, Call, Instances}
use Rattle.ceu_tree.specs.Focus.{Focus}
use Rattle.ceu_tree.specs.World.{World}
use Rattle.ceu_tree.specs.Leaf.{Exit, next_of, rest_of}
use Rattle.ceu_tree.specs.Around.{body_left, open_left}
use Rattle.ceu_tree.specs.Paths.{Way, ToEnd, is_end, has_end, without_end, end_if, seq_ways, quick_node, quick_list}
use Rattle.ceu_tree.specs.Costs.{Cost, cost, nothing, plus, paced, enter_node, enter_block, enter_list}
use Rattle.laws_meaning_basics.specs.Shape.{Part, ABlock}
use Rattle.laws_bounds_steps.specs.Ways.{outward, out_of, goes_on, stops, head_ways, ways_of_loop, act_ways, ways}
use Rattle.laws_bounds_steps.specs.Due.{at_head, head_due, due_in_loop, act_due, due, due_at_head}
use Rattle.laws_bounds_steps.specs.Pays.{Within, IsOf, Fewer, way_of, Pays, Leaving, Comes, LoopKeeps}
use Rattle.laws_bounds_steps.proofs.WayLists.{among_left, among_right, any_sub, filter_in, ends, sub_out, not_end, out_own, out_other}
use Rattle.laws_bounds_steps.proofs.Cost.{same, chain, both, first, second, unpaid}
use Rattle.laws_bounds_steps.proofs.LoopSteps.{TurnTaken, turn_costs, begun_fewer}

-- ---- lists of statements

abbrev pub front : List Bool → List Cost → List Cost → List KNode → Cost
front P E N rest = plus (plus (cost 1 0) (act_due P E N (next_of rest))) (if has_end (act_ways P (next_of rest)) then enter_list P E N (rest_of rest) else nothing)

pub list_due : (P : List Bool) (E N : List Cost) (rest : List KNode) → Within (front P E N rest) (plus (cost 1 0) (enter_list P E N rest))
list_due P E N [] = record { turns = omega arith; opens = omega arith }
list_due P E N (s ∷ ss) = go (has_end (quick_node P s))
  where
    go : (x : Bool) → Within (plus (plus (cost 1 0) (enter_node P E N s)) (if x then enter_list P E N ss else nothing)) (plus (cost 1 0) (if x then plus (enter_node P E N s) (enter_list P E N ss) else enter_node P E N s))
    go true = record { turns = omega arith; opens = omega arith }
    go false = record { turns = omega arith; opens = omega arith }

pub list_fewer : (P : List Bool) (rest : List KNode) → Fewer (seq_ways (act_ways P (next_of rest)) (quick_list P (rest_of rest))) (quick_list P rest)
list_fewer P [] w i = i
list_fewer P (s ∷ ss) w i = i

pub seq_then : (a rest : List Way) → IsOf a ToEnd → Fewer rest (seq_ways a rest)
seq_then a rest e w h = go (has_end a) (ends a e)
  where
    go : (b : Bool) → b ≡ true → IsOf (if b then without_end a ++ rest else a) w
    go true q = among_right w (without_end a) rest h
    go false q = absurd (false≢true q)

pub seq_exit : (n : ℕ) (x : Exit) (a rest : List Way) → IsOf a (way_of n x) → IsOf (seq_ways a rest) (way_of n x)
seq_exit n x a rest h = go (has_end a)
  where
    go : (b : Bool) → IsOf (if b then without_end a ++ rest else a) (way_of n x)
    go true = among_left (way_of n x) (without_end a) rest (filter_in (λ w. not (is_end w)) (way_of n x) a (ap not (not_end n x)) h)
    go false = h

module _ (P : List Bool) (E N : List Cost) (n : ℕ) where
  then_costs : (x : Bool) (a b c : Cost) → x ≡ true → Within a (plus b c) → Within a (plus b (if x then c else nothing))
  then_costs true a b c e h = h
  then_costs false a b c e h = absurd (false≢true e)

  -- ---- blocks

  pub next_pays : (d : Part) (b : KBlock) (old new rest : List KNode) (all : Instances) (r : Residual) → Leaving P E N r ToEnd → Pays P E N d nothing (Block b new all (Run n (next_of rest)) (rest_of rest)) (Block b old all r rest)
  unfolding due ways
  next_pays d b old new rest all r l =
      let f = sub_out (out-KBlock b).node _ _ (λ w i. seq_then (ways P r) (quick_list P rest) l.way w (list_fewer P rest w i)) in record {
        costs = unpaid _ _ (both _ _ _ _ (same _) (then_costs (has_end (ways P r)) _ (due P E N r) (enter_list P E N rest) (ends (ways P r) l.way)
            (chain _ _ _ (list_due P E N rest) (both _ _ _ _ l.pays (same _)))));
        fewer = f;
        ended = any_sub is_end _ _ f;
        head = λ p a. absurd (false≢true (sym l.past_await ∙ a));
        await = λ a. absurd (false≢true a);
      }

  pub block_ends : (b : KBlock) (fin rest : List KNode) (all : Instances) (r : Residual) (v w : Way) → Leaving P E N r v → IsOf (out_of (out-KBlock b).node (seq_ways (ways P r) (quick_list P rest))) w → Leaving P E N (Block b fin all r rest) w
  unfolding due ways
  block_ends b fin rest all r v w l i = record {
    way = i;
    pays = second _ _ _ (first _ _ _ l.pays);
    past_await = refl;
    past_head = λ a. absurd (false≢true (sym l.past_await ∙ a));
  }

  pub block_left : (t : Bool) (turn : Bool) (sc : _) (b : KBlock) (fin rest : List KNode) (all : Instances) (f : Focus Act) (body : Body) (node : ℕ) (x : Exit) (w : World) (r : Residual)
      → (node == (out-KBlock b).node) ≡ t → Leaving P E N r (way_of node x) → Comes P E N n (ABlock turn sc b) (Block b fin all r rest) (body_left t b fin all f body node x w).outcome
  block_left true turn sc b fin rest all f body node x w r e l = block_ends b fin rest all r _ ToEnd l (out_own node (out-KBlock b).node x _ e (seq_exit node x (ways P r) (quick_list P rest) l.way))
  block_left false turn sc b fin rest all f body node x w r e l = block_ends b fin rest all r _ (way_of node x) l (out_other node (out-KBlock b).node x _ e (seq_exit node x (ways P r) (quick_list P rest) l.way))

  -- ---- do, if and awaited code

  pub open_ends : (s : KNode) (r : Residual) (v w : Way) → Leaving P E N r v → IsOf (out_of s.node (ways P r)) w → Leaving P E N (Open s r) w
  unfolding due ways
  open_ends s r v w l i = record { way = i; pays = l.pays; past_await = refl; past_head = λ a. absurd (false≢true a) }

  pub open_left_pays : (t : Bool) (d : Part) (s : KNode) (f : Focus Act) (body : Body) (node : ℕ) (x : Exit) (w : World) (r : Residual)
      → (node == s.node) ≡ t → Leaving P E N r (way_of node x) → Comes P E N n d (Open s r) (open_left t s f body node x w).outcome
  open_left_pays true d s f body node x w r e l = open_ends s r _ ToEnd l (out_own node s.node x _ e l.way)
  open_left_pays false d s f body node x w r e l = open_ends s r _ (way_of node x) l (out_other node s.node x _ e l.way)

  pub call_ends : (s : KNode) (r : Residual) (w : Way) → Leaving P E N r w → Leaving P E N (Call s r) w
  unfolding due ways
  call_ends s r w l = record { way = l.way; pays = l.pays; past_await = refl; past_head = λ a. absurd (false≢true a) }

  -- ---- loops

  or_else : (x : Bool) (a b : Cost) (q : Cost) → (x ≡ true → Within q a) → Within q b → Within q (if x then a else b)
  or_else true a b q h k = h refl
  or_else false a b q h k = k

  -- a loop whose turn is at its start costs what it did where a turn of it was over
  loop_costs : (s : KNode) (k : KLoop) (b : KBlock) (c j : Counter) (q r : Residual) (v : Way) → at_head q ≡ true → due_at_head P E N q ≡ cost 1 0 → Leaving P E N r v → goes_on s.node (ways P r) ≡ true
      → (paced k b ≡ None → Within (plus (due P E N q) (if goes_on s.node (ways P q) then head_due P E N s.node k b j else nothing)) (plus (cost 1 0) (head_due P E N s.node k b c)))
      → Within (plus nothing (due_in_loop P E N s.node (KStmt-F.Loop k b) j (at_head q) (due_at_head P E N q) (due P E N q) (ways P q)))
      (due_in_loop P E N s.node (KStmt-F.Loop k b) c (at_head r) (due_at_head P E N r) (due P E N r) (ways P r))
  loop_costs s k b c j q r v at is l g h = go (paced k b) refl
    where
      one : (x : Bool) → x ≡ true → Within (plus nothing (if x then due_at_head P E N q else due P E N q)) (cost 1 0)
      one true e = subst (λ a. Within (plus nothing a) (cost 1 0)) (sym is) (unpaid _ _ (same _))
      one false e = absurd (false≢true e)

      go : (o : Option ℕ) → paced k b ≡ o → Within
          (plus nothing (elim o [ Some e ↦ if at_head q then due_at_head P E N q else due P E N q | None ↦ plus (due P E N q) (if goes_on s.node (ways P q) then head_due P E N s.node k b j else nothing) ]))
          (elim o [ Some e ↦ if at_head r then due_at_head P E N r else due P E N r | None ↦ plus (due P E N r) (if goes_on s.node (ways P r) then head_due P E N s.node k b c else nothing) ])
      go (Some e) z = chain _ _ _ (one (at_head q) at) (or_else (at_head r) _ _ _ l.past_head l.pays)
      go None z = subst (λ x. Within (plus nothing (plus (due P E N q) (if goes_on s.node (ways P q) then head_due P E N s.node k b j else nothing))) (plus (due P E N r) (if x then head_due P E N s.node k b c else nothing))) (sym g)
          (unpaid _ _ (chain _ _ _ (h z) (both _ _ _ _ l.pays (same _))))

  pub in_head : (s : KNode) (k : KLoop) (b : KBlock) (c : Counter) (q : List Way) → goes_on s.node q ≡ true → Fewer (head_ways P s.node k b c) (ways_of_loop P s.node (KStmt-F.Loop k b) c q)
  in_head s k b c q g w i = among_right w (outward s.node q) _ (among_right w (end_if (stops s.node q)) _ (go (goes_on s.node q) g))
    where
      go : (x : Bool) → x ≡ true → IsOf (if x then head_ways P s.node k b c else []) w
      go true e = i
      go false e = absurd (false≢true e)

  turn_pays : (d : Part) (s : KNode) (k : KLoop) (b : KBlock) (c j : Counter) (q r : Residual) (v : Way) → out-KStmt s.stmt ≡ KStmt-F.Loop k b
      → at_head q ≡ true → due_at_head P E N q ≡ cost 1 0 → Leaving P E N r v → goes_on s.node (ways P r) ≡ true
      → (paced k b ≡ None → Within (plus (due P E N q) (if goes_on s.node (ways P q) then head_due P E N s.node k b j else nothing)) (plus (cost 1 0) (head_due P E N s.node k b c)))
      → Fewer (ways_of_loop P s.node (KStmt-F.Loop k b) j (ways P q)) (head_ways P s.node k b c)
      → Pays P E N d nothing (Loop s j q) (Loop s c r)
  unfolding due ways
  turn_pays d s k b c j q r v e at is l g h f =
      let m : Fewer (ways_of_loop P s.node (out-KStmt s.stmt) j (ways P q)) (ways_of_loop P s.node (out-KStmt s.stmt) c (ways P r)) =
      subst (λ y. Fewer (ways_of_loop P s.node y j (ways P q)) (ways_of_loop P s.node y c (ways P r))) (sym e) (λ w i. in_head s k b c (ways P r) g w (f w i)) in record {
        costs = subst (λ y. Within (plus nothing (due_in_loop P E N s.node y j (at_head q) (due_at_head P E N q) (due P E N q) (ways P q)))
            (due_in_loop P E N s.node y c (at_head r) (due_at_head P E N r) (due P E N r) (ways P r))) (sym e) (loop_costs s k b c j q r v at is l g h);
        fewer = m;
        ended = any_sub is_end _ _ m;
        head = λ p a. absurd (false≢true a);
        await = λ a. absurd (false≢true a);
      }

  -- back to the loop's head
  pub again_pays : (d : Part) (s : KNode) (k : KLoop) (b : KBlock) (c : Counter) (r : Residual) (v : Way) → out-KStmt s.stmt ≡ KStmt-F.Loop k b → Leaving P E N r v → goes_on s.node (ways P r) ≡ true
      → Pays P E N d nothing (Loop s c (Run n Again)) (Loop s c r)
  unfolding due ways
  again_pays d s k b c r v e l g = turn_pays d s k b c c (Run n Again) r v e refl refl l g (λ z. same _) (λ w i. i)

  -- the next turn
  pub begin_pays : (d : Part) (s : KNode) (k : KLoop) (b : KBlock) (c j : Counter) (r : Residual) (v : Way) → out-KStmt s.stmt ≡ KStmt-F.Loop k b → LoopKeeps P s.node k b → TurnTaken k c j → Leaving P E N r v → goes_on s.node (ways P r) ≡ true
      → Pays P E N d nothing (Loop s j (Run n (Begin b))) (Loop s c r)
  unfolding due ways
  begin_pays d s k b c j r v e keeps t l g = turn_pays d s k b c j (Run n (Begin b)) r v e refl refl l g
      (λ z. chain _ _ _ (later (enter_block P E N b) _) (both _ _ _ _ (same (cost 1 0)) (turn_costs P s.node k b keeps E N c j z t)))
      (begun_fewer P s.node k b keeps c j t)
    where
      later : (a x : Cost) → Within (plus (plus (cost 1 0) a) x) (plus (cost 1 0) (plus a x))
      later a x = record { turns = omega arith; opens = omega arith }

  -- the loop is left
  pub loop_ends : (s : KNode) (k : KLoop) (b : KBlock) (c : Counter) (r : Residual) (v w : Way) → out-KStmt s.stmt ≡ KStmt-F.Loop k b → Leaving P E N r v → IsOf (ways_of_loop P s.node (KStmt-F.Loop k b) c (ways P r)) w → Leaving P E N (Loop s c r) w
  unfolding due ways
  loop_ends s k b c r v w e l i = record {
    way = subst (λ y. IsOf (ways_of_loop P s.node y c (ways P r)) w) (sym e) i;
    pays = subst (λ y. Within (cost 1 0) (due_in_loop P E N s.node y c (at_head r) (due_at_head P E N r) (due P E N r) (ways P r))) (sym e) (go (paced k b));
    past_await = refl;
    past_head = λ a. absurd (false≢true a);
  }
    where
      go : (o : Option ℕ) → Within (cost 1 0) (elim o [ Some e ↦ if at_head r then due_at_head P E N r else due P E N r | None ↦ plus (due P E N r) (if goes_on s.node (ways P r) then head_due P E N s.node k b c else nothing) ])
      go (Some e) = or_else (at_head r) _ _ _ l.past_head l.pays
      go None = first _ _ _ l.pays
