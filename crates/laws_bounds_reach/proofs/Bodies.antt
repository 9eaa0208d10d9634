-- An emission wakes the whole tree around its leaf, or in the leaf's own open body alone.
use Rattle.std.proofs.Common.{◌≡◌, refl, sym, ap, ◌∙◌, subst, ℕ, suc, ℤ, Bool, true, false, if◌then◌else◌, ◌||◌, List, Option, Some, None, arith}
use Rattle.std.proofs.lemmas.Bool.{false≢true}
use Rattle.ceu_tree.specs.declared.kernel.Kernel.{Kernel}
use Rattle.ceu_tree.specs.declared.kernel.KNode.{KNode}
use Rattle.ceu_tree.specs.declared.kernel.KStmt.{out-KStmt}
use Rattle.ceu_tree.specs.declared.kernel.KStmt.TheOpen.{KStmt-F}
use Rattle.ceu_tree.specs.Residual.{Act, Start, Finish, Counter, Seat, Residual, Run, Branches, no_branch, branch, Instances, no_instance, instance}
use Rattle.ceu_tree.specs.Focus.{Frame, OfBlock, OfInstance, OfOpen, OfLoop, OfCall, OfPar, Focus, Here, In, join, join_instances, fill, plug, begins_body, has_body}
use Rattle.ceu_tree.specs.Wake.{each_leaf, each_in_body, by_event, woken}
use Rattle.ceu_tree.specs.Leaf.{Layer}
use Rattle.ceu_tree.specs.Paths.{Way, has_end}
use Rattle.ceu_tree.specs.Costs.{Cost, nothing, plus, paced, enter_list}
use Rattle.laws_meaning_basics.specs.Shape.{Part, AStatement, pauses, Fits, to_finish, Around, one_around, ActFits, starts}
use Rattle.laws_meaning_basics.proofs.Fits.{plug_fits}
use Rattle.laws_bounds_steps.specs.Ways.{ways}
use Rattle.laws_bounds_steps.specs.Due.{at_await, at_head, due, due_of_branches, due_of_instances, due_at_head}
use Rattle.laws_bounds_steps.specs.Pays.{Within}
use Rattle.laws_bounds_steps.specs.Heads.{heads, heads_in_body, heads_reached}
use Rattle.laws_bounds_steps.proofs.Cost.{chain}
use Rattle.laws_bounds_steps.proofs.Frames.{head_less}
use Rattle.laws_bounds_reach.proofs.Awake.{woken_ways}
use Rattle.laws_bounds_reach.proofs.Trees.{with_rest, loop_due, next_turns, tree_costs}

-- a part behind others that costs more
second_more : (a b h c : Cost) → Within a (plus b h) → Within (plus c a) (plus (plus c b) h)
second_more a b h c x = let x0 = x.turns in let x1 = x.opens in record { turns = omega (arith, x0); opens = omega (arith, x1) }

module _ (P : List Bool) (E N : List Cost) (h : Cost) where
  abbrev More : Cost → Cost → Type 0
  More a b = Within a (plus b h)

  -- q is what r has become, and costs more by at most h
  record Costs (q r : Residual) : Type 0 where
    pub costs : More (due P E N q) (due P E N r)
    pub ways_same : ways P q ≡ ways P r

  -- r is no leaf, and costs no more than that at the head of a loop too
  record Inside (q r : Residual) : Type 0 where
    pub costs : More (due P E N q) (due P E N r)
    pub head : at_head r ≡ true → (at_head q ≡ true) × More (due_at_head P E N q) (due_at_head P E N r)
    pub await : at_await r ≡ false

  -- ---- in a frame

  branch_costs : (front back : Branches) (q r : Residual) → More (due P E N q) (due P E N r) → More (due_of_branches P E N (join front (branch q back))) (due_of_branches P E N (join front (branch r back)))
  unfolding due
  branch_costs no_branch back q r x = with_rest _ _ h _ x
  branch_costs (branch y more) back q r x = second_more _ _ h _ (branch_costs more back q r x)

  instance_costs : (front back : Instances) (seat : Seat) (q r : Residual) → More (due P E N q) (due P E N r)
      → More (due_of_instances P E N (join_instances front (instance seat q back))) (due_of_instances P E N (join_instances front (instance seat r back)))
  unfolding due
  instance_costs no_instance back seat q r x = with_rest _ _ h _ x
  instance_costs (instance s y more) back seat q r x = second_more _ _ h _ (instance_costs more back seat q r x)

  -- with what follows it
  block_costs : (rest : List KNode) (q r : Residual) → Costs q r
      → More (plus (due P E N q) (if has_end (ways P q) then enter_list P E N rest else nothing)) (plus (due P E N r) (if has_end (ways P r) then enter_list P E N rest else nothing))
  block_costs rest q r x =
      let after = λ (w : List Way). if has_end w then enter_list P E N rest else nothing in
      subst (λ w. More (plus (due P E N q) (after w)) (plus (due P E N r) (after (ways P r)))) (sym x.ways_same) (with_rest (due P E N q) (due P E N r) h (after (ways P r)) x.costs)

  layer_costs : (node : ℕ) (layer : Layer) (c : Counter) (q r : Residual) → Costs q r → (at_head r ≡ true → (at_head q ≡ true) × More (due_at_head P E N q) (due_at_head P E N r))
      → More (loop_due P E N node layer c q) (loop_due P E N node layer c r)
  layer_costs node (KStmt-F.Loop k b) c q r x head = go (paced k b)
    where
      at : (t u : Bool) → (u ≡ true → (t ≡ true) × More (due_at_head P E N q) (due_at_head P E N r)) → More (if t then due_at_head P E N q else due P E N q) (if u then due_at_head P E N r else due P E N r)
      at t true i = let y = i refl in subst (λ z. More (if z then due_at_head P E N q else due P E N q) (due_at_head P E N r)) (sym y.0) y.1
      at true false i = chain _ _ _ (head_less P E N q) x.costs
      at false false i = x.costs

      go : (o : Option ℕ) → More (elim o [ Some e ↦ if at_head q then due_at_head P E N q else due P E N q | None ↦ plus (due P E N q) (next_turns P E N node k b c (ways P q)) ])
          (elim o [ Some e ↦ if at_head r then due_at_head P E N r else due P E N r | None ↦ plus (due P E N r) (next_turns P E N node k b c (ways P r)) ])
      go (Some e) = at (at_head q) (at_head r) head
      go None =
          subst (λ w. More (plus (due P E N q) (next_turns P E N node k b c w)) (plus (due P E N r) (next_turns P E N node k b c (ways P r)))) (sym x.ways_same)
          (with_rest (due P E N q) (due P E N r) h (next_turns P E N node k b c (ways P r)) x.costs)
  layer_costs node layer c q r x head = x.costs

  -- one that begins an open body, and one around a part that has one
  begins_inside : (fr : Frame) (q r : Residual) → begins_body fr ≡ true → Costs q r → Inside (fill fr q) (fill fr r)
  unfolding due
  begins_inside (OfCall s) q r b x = record { costs = x.costs; head = λ i. absurd (false≢true i); await = refl }
  begins_inside (OfInstance b fin front seat back running rest) q r t x =
      let y = instance_costs front back seat q r x.costs in
      record { costs = with_rest _ _ h _ y; head = λ i. (i, with_rest _ _ h _ y); await = refl }
  begins_inside (OfBlock b fin all rest) q r t x = absurd (false≢true t)
  begins_inside (OfOpen s) q r t x = absurd (false≢true t)
  begins_inside (OfLoop s c) q r t x = absurd (false≢true t)
  begins_inside (OfPar s front back) q r t x = absurd (false≢true t)

  fill_inside : (fr : Frame) (q r : Residual) → ways P q ≡ ways P r → Inside q r → Inside (fill fr q) (fill fr r)
  unfolding due
  fill_inside (OfBlock b fin all rest) q r w x =
      record { costs = second_more _ _ h _ (block_costs rest q r (record { costs = x.costs; ways_same = w })); head = λ i. absurd (false≢true (sym x.await ∙ i)); await = refl }
  fill_inside (OfInstance b fin front seat back running rest) q r w x = begins_inside (OfInstance b fin front seat back running rest) q r refl (record { costs = x.costs; ways_same = w })
  fill_inside (OfOpen s) q r w x = record { costs = x.costs; head = λ i. absurd (false≢true i); await = refl }
  fill_inside (OfLoop s c) q r w x =
      record { costs = layer_costs s.node (out-KStmt s.stmt) c q r (record { costs = x.costs; ways_same = w }) x.head; head = λ i. absurd (false≢true i); await = refl }
  fill_inside (OfCall s) q r w x = record { costs = x.costs; head = λ i. absurd (false≢true i); await = refl }
  fill_inside (OfPar s front back) q r w x = record { costs = branch_costs front back q r x.costs; head = λ i. absurd (false≢true i); await = refl }

-- ---- the parts around a leaf

module _ (P : List Bool) (E N : List Cost) (level e : ℕ) (v : ℤ) where
  abbrev wakes : Residual → Residual
  wakes = by_event level e v

  -- where no open body begins around the leaf, the whole is its own
  flat : {A : Type 0} (f : Focus A) (r : Residual) → has_body f ≡ false → each_in_body wakes f r ≡ each_leaf wakes (plug f r)
  flat (Here a) r h = refl
  flat (In fr f) r h = ap (λ b. if b then fill fr (each_in_body wakes f r) else each_leaf wakes (plug (In fr f) r)) h

  flat_heads : {A : Type 0} (f : Focus A) (r : Residual) → has_body f ≡ false → heads_in_body P E N e f r ≡ heads P E N e (plug f r)
  flat_heads (Here a) r h = refl
  flat_heads (In fr f) r h = ap (λ b. if b then heads_in_body P E N e f r else heads P E N e (plug (In fr f) r)) h

  module _ {A : Type 0} (K : Kernel) (top : ℕ) where
    flat_costs : (f : Focus A) (r : Residual) (d part : Part) → has_body f ≡ false → Around K top A f d part → Fits K top part r
        → Within (due P E N (each_in_body wakes f r)) (plus (due P E N (plug f r)) (heads_in_body P E N e f r))
    flat_costs f r d part b a h =
        subst (λ q. Within (due P E N q) (plus (due P E N (plug f r)) (heads_in_body P E N e f r))) (sym (flat f r b))
        (subst (λ c. Within (due P E N (each_leaf wakes (plug f r))) (plus (due P E N (plug f r)) c)) (sym (flat_heads f r b)) (tree_costs P E N level e v K (plug_fits K a h)))

    inside : (f : Focus A) (r : Residual) (d part : Part) → has_body f ≡ true → Around K top A f d part → Fits K top part r
        → Inside P E N (heads_in_body P E N e f r) (each_in_body wakes f r) (plug f r)
    inside (Here a) r d part b x h = absurd (false≢true b)
    inside (In fr f) r d part b (one_around {e = c} x more) h =
        subst (λ t. Inside P E N (if t then heads_in_body P E N e f r else heads P E N e (plug (In fr f) r)) (if t then fill fr (each_in_body wakes f r) else each_leaf wakes (plug (In fr f) r)) (fill fr (plug f r)))
        (sym b) (go (has_body f) refl (λ i. inside f r c part i more h))
      where
        begun : (s t : Bool) → (s || t) ≡ true → t ≡ false → s ≡ true
        begun true t i j = refl
        begun false t i j = absurd (false≢true (sym j ∙ i))

        go : (t : Bool) → has_body f ≡ t → (has_body f ≡ true → Inside P E N (heads_in_body P E N e f r) (each_in_body wakes f r) (plug f r))
            → Inside P E N (heads_in_body P E N e f r) (fill fr (each_in_body wakes f r)) (fill fr (plug f r))
        go true i k = fill_inside P E N (heads_in_body P E N e f r) fr _ _ (woken_ways level e v P (Some 0) f r) (k i)
        go false i k = begins_inside P E N (heads_in_body P E N e f r) fr _ _ (begun (begins_body fr) (has_body f) b i)
            (record { costs = flat_costs f r c part i more h; ways_same = woken_ways level e v P (Some 0) f r })

    pub woken_costs : (f : Focus A) (r : Residual) (d part : Part) (code : Option ℕ) → Around K top A f d part → Fits K top part r
        → Within (due P E N (woken code wakes f r)) (plus (due P E N (plug f r)) (heads_reached P E N e code f r))
    woken_costs f r d part None a h = tree_costs P E N level e v K (plug_fits K a h)
    woken_costs f r d part (Some code) a h = go (has_body f) refl
      where
        go : (t : Bool) → has_body f ≡ t → Within (due P E N (each_in_body wakes f r)) (plus (due P E N (plug f r)) (heads_in_body P E N e f r))
        go true b = (inside f r d part b a h).costs
        go false b = flat_costs f r d part b a h

-- ---- a leaf that emits, and then goes on to finish the emission

pub emitted_fits : (K : Kernel) (n : ℕ) (part : Part) (a : Act) (s : KNode) (v : ℤ) → ActFits part a → a ≡ Start s → pauses (out-KStmt s.stmt) ≡ true → Fits K (suc n) part (Run n (Finish s v))
emitted_fits K n part (Start y) s v (starts {sc = sc}) h p = subst (λ z. Fits K (suc n) (AStatement sc z) (Run n (Finish s v))) (sym (start_is y s h)) (to_finish (omega arith) p)
  where
    start_is : (x y : KNode) → Start x ≡ Start y → x ≡ y
    start_is x y h = cc
emitted_fits K n part a s v x h p = absurd (cc)
