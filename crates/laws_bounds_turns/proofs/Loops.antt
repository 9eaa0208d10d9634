-- The turns of a loop that a turn of a trail begins: it comes to the loop's end, or leaves it, after some number of them.
use Rattle.std.proofs.Common.{◌≡◌, refl, sym, ap, ◌∙◌, subst, ℕ, zero, suc, ◌+◌, ℤ, pos, ◌+ℤ◌, ◌-ℤ◌, int_lt, Bool, true, false, if◌then◌else◌, ◌==◌, ◌&&◌, ◌||◌, not, List, Option, Some, None, Result, Ok, Err, arith, eqb-true}
use Rattle.std.proofs.lemmas.Bool.{ne_eqb, eqb-false, false≢true}
use Rattle.std.specs.List.{list_any}
use Rattle.ceu_base.specs.declared.kinds.Pos.{Pos}
use Rattle.ceu_base.specs.declared.kinds.Fault.{Fault}
use Rattle.ceu_base.specs.Values.{of_test}
use Rattle.ceu_tree.specs.declared.kernel.Kernel.{Kernel}
use Rattle.ceu_tree.specs.declared.kernel.KLoop.{KLoop}
use Rattle.ceu_tree.specs.declared.kernel.KLoop.TheVariants as turns
use Rattle.ceu_tree.specs.declared.kernel.KNode.{KNode}
use Rattle.ceu_tree.specs.declared.kernel.KBlock.{KBlock}
use Rattle.ceu_tree.specs.declared.kernel.KStmt.{out-KStmt}
use Rattle.ceu_tree.specs.declared.kernel.KStmt.TheOpen.{KStmt-F}
use Rattle.ceu_tree.specs.Residual.{Body, Act, Begin, Start, AtHead, Again, Counter, Free, Turns, Upward}
use Rattle.ceu_tree.specs.Focus.{OfLoop, Focus, Here, In}
use Rattle.ceu_tree.specs.World.{World}
use Rattle.ceu_tree.specs.Expressions.{value_of}
use Rattle.ceu_tree.specs.Leaf.{Exit, Escape, Break, Continue, Done, or_fails, loop_reached}
use Rattle.ceu_tree.specs.Around.{Outcome, Goes, AtLoopHead, Ends, Leaves, Moved, turn_of, next_turn, loop_left, through, up}
use Rattle.ceu_tree.specs.Paths.{Way, ToEnd, ToEscape, ToBreak, ToContinue, is_end, is_escape, is_break, is_continue, has_end, constant_bound, is_range, runs_out, outer_ways, loop_ways}
use Rattle.ceu_endings.specs.Counted.{turns_left}
use Rattle.ceu_endings.proofs.Turns.{exactly, turn_taken, turns_over, turns_begin_with}
use Rattle.laws_bounds_steps.specs.Ways.{goes_on}
use Rattle.laws_bounds_steps.specs.Pays.{IsOf, Fewer, way_of}
use Rattle.laws_bounds_steps.proofs.WayLists.{among_left, any_among, filter_in, goes_sub, ends}
use Rattle.laws_bounds_steps.proofs.LoopSteps.{loop_end}
use Rattle.laws_bounds_turns.proofs.Halting.{LeftAt, Halts, Comes, does_local, halts_of, halts_under}
use Rattle.laws_bounds_turns.proofs.Parts.{allowed, allow, allow_as, allowed_is}

abbrev pub is_next : Exit → Bool
is_next Continue = true
is_next x = false

is_loud : (quiet : Bool) → (quiet && true) ≡ false → quiet ≡ false
is_loud true e = e
is_loud false e = refl

flipped : (n m : ℕ) → (n == m) ≡ true → (m == n) ≡ true
flipped n m e = subst (λ k. (k == n) ≡ true) (eqb-true n m e) (same n)
  where
    same : (n : ℕ) → (n == n) ≡ true
    same n = grind arith

or_left : (a b : Bool) → a ≡ true → (a || b) ≡ true
or_left true b e = refl
or_left false b e = absurd (false≢true e)

or_right : (a b : Bool) → b ≡ true → (a || b) ≡ true
or_right true b e = refl
or_right false b e = e

-- ---- the ways of a loop

end_goes : (node : ℕ) (q : List Way) → IsOf q ToEnd → goes_on node q ≡ true
end_goes node q i = or_left (has_end q) _ (ends q i)

next_goes : (node m : ℕ) (q : List Way) → (m == node) ≡ true → IsOf q (ToContinue m) → goes_on node q ≡ true
next_goes node m q e i = or_right (has_end q) _ (any_among (is_continue node) (ToContinue m) q (flipped m node e) i)

break_ends : (node m : ℕ) (k : KLoop) (q : List Way) → (m == node) ≡ true → IsOf q (ToBreak m) → IsOf (loop_ways node k q) ToEnd
break_ends node m k q e i = loop_end node k q (or_left (list_any (is_break node) q) _ (any_among (is_break node) (ToBreak m) q (flipped m node e) i))

exit_leaves : (node m : ℕ) (k : KLoop) (x : Exit) (q : List Way) → (m == node) ≡ false → IsOf q (way_of m x) → IsOf (loop_ways node k q) (way_of m x)
exit_leaves node m k x q e i = among_left (way_of m x) (outer_ways node q) _ (filter_in (λ w. not (is_end w || is_break node w || is_continue node w)) (way_of m x) q (go x) i)
  where
    other : (node == m) ≡ false
    other = ne_eqb node m (λ z. eqb-false m node e (sym z))

    go : (x : Exit) → not (is_end (way_of m x) || is_break node (way_of m x) || is_continue node (way_of m x)) ≡ true
    go (Escape v) = refl
    go Break = ap (λ t. not (t || false)) other
    go Continue = ap not other

-- a range may run out where a turn of it is over
round_ends : (node : ℕ) (k : KLoop) (q : List Way) → is_range k ≡ true → goes_on node q ≡ true → IsOf (loop_ways node k q) ToEnd
round_ends node k q r g = loop_end node k q (or_right (list_any (is_break node) q) _ (go (constant_bound k) (is_range k) r))
  where
    go : (o : Option ℕ) (t : Bool) → t ≡ true → runs_out node t o q ≡ true
    go None t e = e
    go (Some zero) true e = refl
    go (Some zero) false e = absurd (false≢true e)
    go (Some (suc m)) t e = g

-- and where it has no turn
empty_ends : (node : ℕ) (k : KLoop) (q : List Way) (left : ℕ) → is_range k ≡ true → exactly (constant_bound k) left → left ≡ 0 → IsOf (loop_ways node k q) ToEnd
empty_ends node k q left r x z = loop_end node k q (or_right (list_any (is_break node) q) _ (go (constant_bound k) (is_range k) r x))
  where
    go : (o : Option ℕ) (t : Bool) → t ≡ true → exactly o left → runs_out node t o q ≡ true
    go None t e x = e
    go (Some zero) true e x = refl
    go (Some zero) false e x = absurd (false≢true e)
    go (Some (suc m)) t e x = absurd (omega (arith, x, z))

-- ---- turns of a loop, whose body is left by q

module _ (K : Kernel) (n : ℕ) (quiet : Bool) (R : Option Way → Type 0) where
  either : (b : Bool) (x y : Moved) → (b ≡ true → Comes K n quiet R x.outcome) → (b ≡ false → Comes K n quiet R y.outcome) → Comes K n quiet R (if b then x else y).outcome
  either true x y h k = h refl
  either false x y h k = k refl

  module _ (s : KNode) (k : KLoop) (b : KBlock) (is : out-KStmt s.stmt ≡ KStmt-F.Loop k b) where
    abbrev pub HeadComes : Counter → Type 0
    HeadComes c = (body : Body) (u : World) → Comes K n quiet R (turn_of s k b c body u).outcome

    pub head_halts : (c : Counter) → HeadComes c → Halts K n quiet R (In (OfLoop s c) (Here AtHead))
    unfolding up
    head_halts c h = halts_of K n quiet R (In (OfLoop s c) (Here AtHead)) (λ a e w u. subst (λ l. Comes K n quiet R (next_turn s l c e u).outcome) (sym is) (h e u))

    pub again_halts : (c : Counter) → HeadComes c → Halts K n quiet R (In (OfLoop s c) (Here Again))
    unfolding up
    again_halts c h = halts_of K n quiet R (In (OfLoop s c) (Here Again)) (λ a e w u. subst (λ l. Comes K n quiet R (next_turn s l c e u).outcome) (sym is) (h e u))

    -- what the loop makes of the ways of its body, and whether its turns go on
    pub record LoopTakes (q : List Way) : Type 0 where
      pub inside : Halts K n quiet (allowed quiet q) (Here (Begin b))
      pub breaks : (node : ℕ) (x : Exit) → (node == s.node) ≡ true → is_next x ≡ false → allowed quiet q (Some (way_of node x)) → R (Some ToEnd)
      pub leaves : (node : ℕ) (x : Exit) → (node == s.node) ≡ false → allowed quiet q (Some (way_of node x)) → R (Some (way_of node x))

    module _ (q : List Way) (t : LoopTakes q) where
      module _ (c : Counter) (next : quiet ≡ false → goes_on s.node q ≡ true → Halts K n quiet R (In (OfLoop s c) (Here Again))) where
        own : (x : Exit) (node : ℕ) (f : Focus Act) (body : Body) (u : World) → (node == s.node) ≡ true → allowed quiet q (Some (way_of node x)) → Comes K n quiet R (loop_left true s c f body node x u).outcome
        own Continue node f body u e l = λ z. next (is_loud quiet z) (next_goes s.node node q e (allowed_is quiet q (ToContinue node) (is_loud quiet z) l))
        own Break node f body u e l = t.breaks node Break e refl l
        own (Escape v) node f body u e l = t.breaks node (Escape v) e refl l

        left : (o : Bool) (x : Exit) (node : ℕ) (f : Focus Act) (body : Body) (u : World) → (node == s.node) ≡ o → allowed quiet q (Some (way_of node x)) → Comes K n quiet R (loop_left o s c f body node x u).outcome
        left true x node f body u e l = own x node f body u e l
        left false x node f body u e l = t.leaves node x e l

        takes : (body : Body) (f : Focus Act) (x : Outcome) (u : World) → LeftAt (allowed quiet q) x → Comes K n quiet R (through body (OfLoop s c) f x u).outcome
        takes body f (Goes g) u l = absurd l
        takes body f AtLoopHead u l = absurd l
        takes body f (Ends v) u l = λ z. next (is_loud quiet z) (end_goes s.node q (allowed_is quiet q ToEnd (is_loud quiet z) l))
        takes body f (Leaves node x) u l = left (node == s.node) x node f body u refl l
        takes body f x u l = tt

        pub turn_halts : Halts K n quiet R (In (OfLoop s c) (Here (Begin b)))
        turn_halts = halts_under K n quiet (allowed quiet q) R (OfLoop s c) (Here (Begin b)) (λ k. refl) takes t.inside

  module _ (s : KNode) (b : KBlock) (q : List Way) where
    pub free_turn : (is : out-KStmt s.stmt ≡ KStmt-F.Loop turns.Free b) → LoopTakes s turns.Free b is q → (quiet ≡ false → goes_on s.node q ≡ false) → (c : Counter) → HeadComes s turns.Free b is c
    free_turn is t stands c body u = λ e. turn_halts s turns.Free b is q t c (λ z g. absurd (false≢true (sym (stands z) ∙ g)))

    pub times_turn : (slot limit : ℕ) (is : out-KStmt s.stmt ≡ KStmt-F.Loop (turns.Times slot limit) b) → LoopTakes s (turns.Times slot limit) b is q → (m j : ℕ) → j + m ≡ limit → HeadComes s (turns.Times slot limit) b is (Turns j)
    times_turn slot limit is t zero j e body u = either (j == limit) _ _ (λ h. tt) (λ h. absurd (eqb-false j limit h (omega (arith, e))))
    times_turn slot limit is t (suc m) j e body u = either (j == limit) _ _ (λ h. tt)
        (λ h z. turn_halts s (turns.Times slot limit) b is q t (Turns (j + 1)) (λ y g. again_halts s (turns.Times slot limit) b is (Turns (j + 1)) (times_turn slot limit is t m (j + 1) (omega (arith, e)))))

    module _ (i next end : ℕ) (open_a : Bool) (x y : _) (open_b : Bool) (is : out-KStmt s.stmt ≡ KStmt-F.Loop (turns.Range i next end open_a x y open_b) b)
        (t : LoopTakes s (turns.Range i next end open_a x y open_b) b is q) (around : quiet ≡ false → goes_on s.node q ≡ true → R (Some ToEnd)) where
      pub range_turn : (m : ℕ) (at last : ℤ) → turns_left at last ≡ m → (m ≡ 0 → R (Some ToEnd)) → HeadComes s (turns.Range i next end open_a x y open_b) b is (Upward at last)
      range_turn zero at last e h body u = either (int_lt last at) _ _ (λ z. h refl) (λ z. (let g = turn_taken at last z in absurd (omega (arith, e, g))))
      range_turn (suc m) at last e h body u = either (int_lt last at) _ _ (λ z. (let g = turns_over at last z in absurd (omega (arith, e, g))))
          (λ z o. turn_halts s (turns.Range i next end open_a x y open_b) b is q t (Upward (at +ℤ pos 1) last)
          (λ v g. again_halts s (turns.Range i next end open_a x y open_b) b is (Upward (at +ℤ pos 1) last)
          (range_turn m (at +ℤ pos 1) last (let j = turn_taken at last z in omega (arith, e, j)) (λ p. around v g))))

-- ---- from the loop's start

pub or_comes : {A : Type 0} (K : Kernel) (n : ℕ) (quiet : Bool) (R : Option Way → Type 0) (c : Body) (f : Focus Act) (a : Result A (Fault × Pos)) (w u : World) (go : A → Done)
    → ((x : A) → a ≡ Ok x → Comes K n quiet R (does_local c f (go x).does u).outcome) → Comes K n quiet R (does_local c f (or_fails a w go).does u).outcome
or_comes K n quiet R c f (Ok x) w u go h = h x refl
or_comes K n quiet R c f (Err e) w u go h = tt

module _ (K : Kernel) (n : ℕ) (quiet : Bool) (s : KNode) (k : KLoop) (b : KBlock) (is : out-KStmt s.stmt ≡ KStmt-F.Loop k b) (p q : List Way) (fewer : Fewer q p)
    (inside : Halts K n quiet (allowed quiet q) (Here (Begin b))) (calm : quiet ≡ false → list_any (is_escape s.node) p ≡ false) where
  abbrev Out : Option Way → Type 0
  Out = allowed quiet (loop_ways s.node k p)

  pub loop_takes : LoopTakes K n quiet (allowed quiet (loop_ways s.node k p)) s k b is q
  loop_takes = record {
    inside = inside;
    breaks = λ node x e z. broken node x e z;
    leaves = λ node x e. allow_as quiet q (loop_ways s.node k p) (way_of node x) (way_of node x) (λ z i. exit_leaves s.node node k x p e (fewer (way_of node x) i));
  }
    where
      broken : (node : ℕ) (x : Exit) → (node == s.node) ≡ true → is_next x ≡ false → allowed quiet q (Some (way_of node x)) → Out (Some ToEnd)
      broken node Continue e z = λ a. absurd (false≢true (sym z))
      broken node Break e z = allow_as quiet q (loop_ways s.node k p) (ToBreak node) ToEnd (λ y i. break_ends s.node node k p e (fewer (ToBreak node) i))
      broken node (Escape v) e z = allow_as quiet q (loop_ways s.node k p) (ToEscape node) ToEnd
          (λ y i. absurd (false≢true (sym (calm y) ∙ any_among (is_escape s.node) (ToEscape node) p (flipped node s.node e) (fewer (ToEscape node) i))))

module _ (K : Kernel) (n : ℕ) (quiet : Bool) (s : KNode) (b : KBlock) (p q : List Way) (fewer : Fewer q p)
    (inside : Halts K n quiet (allowed quiet q) (Here (Begin b))) (calm : quiet ≡ false → list_any (is_escape s.node) p ≡ false) where
  pub loop_starts : (k : KLoop) (is : out-KStmt s.stmt ≡ KStmt-F.Loop k b) → (k ≡ turns.Free → quiet ≡ false → goes_on s.node q ≡ false) → (a c : Body) (w u : World)
      → Comes K n quiet (allowed quiet (loop_ways s.node k p)) (does_local c (Here (Start s)) (loop_reached s k a w).does u).outcome
  loop_starts turns.Free is stands a c w u = λ e. head_halts K n quiet _ s turns.Free b is Free
      (free_turn K n quiet _ s b q is (loop_takes K n quiet s turns.Free b is p q fewer inside calm) (stands refl) Free)
  loop_starts (turns.Times slot limit) is stands a c w u = λ e. head_halts K n quiet _ s (turns.Times slot limit) b is (Turns 0)
      (times_turn K n quiet _ s b q slot limit is (loop_takes K n quiet s (turns.Times slot limit) b is p q fewer inside calm) limit 0 (omega arith))
  loop_starts (turns.Range i next end open_a x y open_b) is stands a c w u =
      let k = turns.Range i next end open_a x y open_b in
      let R = allowed quiet (loop_ways s.node k p) in
      or_comes K n quiet R c (Here (Start s)) (value_of x a w) w u _ (λ v e. or_comes K n quiet R c (Here (Start s)) (value_of y a w) w u _ (λ z g o.
      head_halts K n quiet R s k b is (Upward (v +ℤ of_test open_a) (z -ℤ of_test open_b))
      (range_turn K n quiet R s b q i next end open_a x y open_b is (loop_takes K n quiet s k b is p q fewer inside calm)
      (λ l m. allow quiet (loop_ways s.node k p) ToEnd (λ j. round_ends s.node k p refl (goes_sub s.node q p fewer m)))
      _ (v +ℤ of_test open_a) (z -ℤ of_test open_b) refl
      (λ m. allow quiet (loop_ways s.node k p) ToEnd (λ j. empty_ends s.node k p _ refl (turns_begin_with x y open_a open_b v z a w e g) m)))))
