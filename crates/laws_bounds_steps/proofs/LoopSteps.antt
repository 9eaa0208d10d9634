-- A loop's turn that is over, and the next one, pay as much as the loop did.
use Rattle.std.proofs.Common.{◌≡◌, refl, sym, ap, ◌∙◌, subst, ℕ, zero, suc, Bool, true, false, if◌then◌else◌, ◌||◌, not, List, [], ◌++◌, Option, Some, None, ◌⊎◌, inl, inr}
use Rattle.std.proofs.lemmas.Bool.{false≢true}
use Rattle.std.specs.List.{list_any}
use Rattle.ceu_tree.specs.declared.kernel.KLoop.{KLoop}
use Rattle.ceu_tree.specs.declared.kernel.KBlock.{KBlock, out-KBlock}
use Rattle.ceu_tree.specs.declared.kernel.KStmt.TheOpen.{KStmt-F}
use Rattle.ceu_tree.specs.Residual.{Counter}
use Rattle.ceu_tree.specs.Paths.{Way, ToEnd, is_end, is_escape, is_break, is_continue, has_end, end_if, constant_bound, is_range, runs_out, outer_ways, loop_ways, quick_block}
use Rattle.ceu_tree.specs.Costs.{Cost, nothing, plus, times, paced, enter_block}
use Rattle.laws_bounds_steps.specs.Ways.{leads_to, outward, out_of, goes_on, stops, to_begin, ways_of_turns, head_ways, ways_of_loop}
use Rattle.laws_bounds_steps.specs.Due.{times_of_turns, head_due}
use Rattle.laws_bounds_steps.specs.Pays.{Within, IsOf, Fewer, LoopKeeps}
use Rattle.laws_bounds_steps.proofs.WayLists.{among_case, among_left, among_right, any_among, any_some, any_sub, filter_in, filter_out, or_case, or_sub, end_here, end_out, end_among, sub_filter}
use Rattle.laws_bounds_steps.proofs.Cost.{same, chain, both, least, one_more, once}

-- ---- a body to which no exit leads

-- what is out of it was in it
pub clear_fewer : (n : ℕ) (q : List Way) → list_any (leads_to n) q ≡ false → Fewer (out_of n q) q
clear_fewer n q c w h = go (among_case w (outward n q) _ h)
  where
    at_end : (b : Bool) → list_any (leads_to n) q ≡ b → b ≡ false → (has_end q || b) ≡ true → IsOf q ToEnd
    at_end true e f i = absurd (false≢true (sym f))
    at_end false e f i = end_among q (fst (or_case (has_end q) false i))
      where
        fst : (has_end q ≡ true) ⊎ (false ≡ true) → has_end q ≡ true
        fst (inl x) = x
        fst (inr x) = absurd (false≢true x)

    go : IsOf (outward n q) w ⊎ IsOf (end_if (has_end q || list_any (leads_to n) q)) w → IsOf q w
    go (inl i) = (filter_out _ w q i).1
    go (inr i) = let e = end_out w _ i in subst (λ v. IsOf q v) e.1 (at_end (list_any (leads_to n) q) refl c e.0)

-- ---- loops

stops_break : (node : ℕ) (q : List Way) → list_any (is_escape node) q ≡ false → stops node q ≡ true → list_any (is_break node) q ≡ true
stops_break node q c h = let i = any_some (λ w. is_escape node w || is_break node w) q h in any_among (is_break node) i.0 q (go i.0 i.1 (or_case (is_escape node i.0) (is_break node i.0) i.2)) i.1
  where
    go : (w : Way) → IsOf q w → (is_escape node w ≡ true) ⊎ (is_break node w ≡ true) → is_break node w ≡ true
    go w i (inl e) = absurd (false≢true (sym c ∙ any_among (is_escape node) w q e i))
    go w i (inr e) = e

or_left : (a b : Bool) → a ≡ true → (a || b) ≡ true
or_left true b e = refl
or_left false b e = absurd (false≢true e)

or_right : (a b : Bool) → b ≡ true → (a || b) ≡ true
or_right true b e = refl
or_right false b e = e

pub loop_end : (node : ℕ) (k : KLoop) (q : List Way) → (list_any (is_break node) q || runs_out node (is_range k) (constant_bound k) q) ≡ true → IsOf (loop_ways node k q) ToEnd
loop_end node k q h = among_right ToEnd (outer_ways node q) _ (end_here _ h)

-- a loop with a bound that goes on may run out
round_end : (node : ℕ) (k : KLoop) (n : ℕ) (q : List Way) → constant_bound k ≡ Some n → goes_on node q ≡ true → IsOf (loop_ways node k q) ToEnd
round_end node k n q e h = loop_end node k q (or_right (list_any (is_break node) q) _ (go (constant_bound k) (is_range k) e))
  where
    go : (c : Option ℕ) (b : Bool) → c ≡ Some n → runs_out node b c q ≡ true
    go None b z = absurd (cc)
    go (Some zero) true z = refl
    go (Some zero) false z = h
    go (Some (suc m)) b z = h

-- a range without constant ends may be empty
pub range_end : (node : ℕ) (k : KLoop) (q : List Way) → constant_bound k ≡ None → is_range k ≡ true → IsOf (loop_ways node k q) ToEnd
range_end node k q e h = loop_end node k q (or_right (list_any (is_break node) q) _ (go (constant_bound k) (is_range k) e h))
  where
    go : (c : Option ℕ) (b : Bool) → c ≡ None → b ≡ true → runs_out node b c q ≡ true
    go None true z y = refl
    go None false z y = absurd (false≢true y)
    go (Some n) b z y = absurd (cc)

outward_outer : (node : ℕ) (q : List Way) → Fewer (outward node q) (outer_ways node q)
outward_outer node q w h =
    let i = filter_out (λ w. not (is_end w || leads_to node w)) w q h in
    filter_in (λ w. not (is_end w || is_break node w || is_continue node w)) w q (go w i.0) i.1
  where
    four : (a b c d : Bool) → not (a || (b || c || d)) ≡ true → not (a || c || d) ≡ true
    four true b c d h = h
    four false true c d h = absurd (false≢true h)
    four false false c d h = h

    go : (w : Way) → not (is_end w || leads_to node w) ≡ true → not (is_end w || is_break node w || is_continue node w) ≡ true
    go w e = four (is_end w) (is_escape node w) (is_break node w) (is_continue node w) e

-- how many turns are left falls by one where a turn begins
abbrev pub TurnTaken : KLoop → Counter → Counter → Type 0
TurnTaken k c d = (constant_bound k ≡ None) ⊎ (to_begin k c ≡ suc (to_begin k d))

module _ (P : List Bool) (node : ℕ) (k : KLoop) (b : KBlock) (keeps : LoopKeeps P node k b) where
  goes_clear : goes_on node (out_of (out-KBlock b).node (quick_block P b)) ≡ true → goes_on node (quick_block P b) ≡ true
  goes_clear = let f = clear_fewer (out-KBlock b).node (quick_block P b) keeps.clear in or_sub (has_end (out_of (out-KBlock b).node (quick_block P b))) _ (has_end (quick_block P b)) _ (any_sub is_end _ _ f) (any_sub (is_continue node) _ _ f)

  -- the ways from a loop's head are those of the loop where a turn may begin
  head_is : (c d : Counter) → TurnTaken k c d → head_ways P node k b c ≡ loop_ways node k (quick_block P b)
  head_is c d h = go (constant_bound k) refl h
    where
      go : (o : Option ℕ) → constant_bound k ≡ o → TurnTaken k c d → elim o [ None ↦ loop_ways node k (quick_block P b) | Some n ↦ ways_of_turns P node k b (to_begin k c) ] ≡ loop_ways node k (quick_block P b)
      go None e x = refl
      go (Some n) e (inl x) = absurd (cc)
      go (Some n) e (inr x) = ap (ways_of_turns P node k b) x

  next_fewer : (d : Counter) → goes_on node (quick_block P b) ≡ true → Fewer (head_ways P node k b d) (loop_ways node k (quick_block P b))
  next_fewer d g = go (constant_bound k) refl
    where
      turns : (n j : ℕ) → constant_bound k ≡ Some n → Fewer (ways_of_turns P node k b j) (loop_ways node k (quick_block P b))
      turns n zero e w i = let x = end_out w (is_range k) i in subst (λ v. IsOf (loop_ways node k (quick_block P b)) v) x.1 (round_end node k n (quick_block P b) e g)
      turns n (suc j) e w i = i

      go : (o : Option ℕ) → constant_bound k ≡ o → Fewer (elim o [ None ↦ loop_ways node k (quick_block P b) | Some n ↦ ways_of_turns P node k b (to_begin k d) ]) (loop_ways node k (quick_block P b))
      go None e w i = i
      go (Some n) e w i = turns n (to_begin k d) e w i

  -- a turn that begins may be left on the ways that its loop's head has
  pub begun_fewer : (c d : Counter) → TurnTaken k c d → Fewer (ways_of_loop P node (KStmt-F.Loop k b) d (out_of (out-KBlock b).node (quick_block P b))) (head_ways P node k b c)
  begun_fewer c d t w h = subst (λ q. IsOf q w) (sym (head_is c d t)) (go (among_case w (outward node q) _ h))
    where
      q : List Way
      q = out_of (out-KBlock b).node (quick_block P b)

      f : Fewer q (quick_block P b)
      f = clear_fewer (out-KBlock b).node (quick_block P b) keeps.clear

      after : (x : Bool) → goes_on node q ≡ x → IsOf (if x then head_ways P node k b d else []) w → IsOf (loop_ways node k (quick_block P b)) w
      after true e i = next_fewer d (goes_clear e) w i
      after false e i = absurd i

      stopping : (stops node q ≡ true) × (ToEnd ≡ w) → IsOf (loop_ways node k (quick_block P b)) w
      stopping i = subst (λ v. IsOf (loop_ways node k (quick_block P b)) v) i.1
          (loop_end node k (quick_block P b) (or_left (list_any (is_break node) (quick_block P b)) _ (stops_break node (quick_block P b) keeps.breaks (any_sub _ q (quick_block P b) f i.0))))

      inner : IsOf (end_if (stops node q)) w ⊎ IsOf (if goes_on node q then head_ways P node k b d else []) w → IsOf (loop_ways node k (quick_block P b)) w
      inner (inl i) = stopping (end_out w (stops node q) i)
      inner (inr i) = after (goes_on node q) refl i

      go : IsOf (outward node q) w ⊎ IsOf (end_if (stops node q) ++ (if goes_on node q then head_ways P node k b d else [])) w → IsOf (loop_ways node k (quick_block P b)) w
      go (inl i) = among_left w (outer_ways node (quick_block P b)) _ (outward_outer node (quick_block P b) w (sub_filter _ q (quick_block P b) f w i))
      go (inr i) = inner (among_case w (end_if (stops node q)) _ i)

  -- ---- costs

  module _ (E N : List Cost) where
    turn_times : (g x : Bool) (j : ℕ) (a : Cost) → (x ≡ true → g ≡ true) → Within (plus a (if x then times (times_of_turns g j) a else nothing)) (times (times_of_turns g (suc j)) a)
    turn_times true true zero a h = one_more 0 a
    turn_times true true (suc j) a h = one_more (suc j) a
    turn_times true false j a h = chain _ _ _ (both _ _ _ _ (same a) (least _)) (one_more j a)
    turn_times false true j a h = absurd (false≢true (h refl))
    turn_times false false j a h = once a

    pub turn_costs : (c d : Counter) → paced k b ≡ None → TurnTaken k c d
        → Within (plus (enter_block P E N b) (if goes_on node (out_of (out-KBlock b).node (quick_block P b)) then head_due P E N node k b d else nothing)) (head_due P E N node k b c)
    turn_costs c d p t = go (constant_bound k) refl t
      where
        body : Cost
        body = enter_block P E N b

        free : (x : Bool) → (x ≡ true → goes_on node (quick_block P b) ≡ true) → goes_on node (quick_block P b) ≡ false → Within (plus body (if x then times 1 body else nothing)) (times 1 body)
        free true h e = absurd (false≢true (sym e ∙ h refl))
        free false h e = once body

        go : (o : Option ℕ) → constant_bound k ≡ o → TurnTaken k c d → Within
            (plus body (if goes_on node (out_of (out-KBlock b).node (quick_block P b)) then times (elim o [ None ↦ 1 | Some n ↦ times_of_turns (goes_on node (quick_block P b)) (to_begin k d) ]) body else nothing))
            (times (elim o [ None ↦ 1 | Some n ↦ times_of_turns (goes_on node (quick_block P b)) (to_begin k c) ]) body)
        go None e x = free _ goes_clear (keeps.stands e p)
        go (Some n) e (inl x) = absurd (cc)
        go (Some n) e (inr x) = subst (λ j. Within
            (plus body (if goes_on node (out_of (out-KBlock b).node (quick_block P b)) then times (times_of_turns (goes_on node (quick_block P b)) (to_begin k d)) body else nothing))
            (times (times_of_turns (goes_on node (quick_block P b)) j) body)) (sym x) (turn_times (goes_on node (quick_block P b)) _ (to_begin k d) body goes_clear)
