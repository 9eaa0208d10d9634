-- The turns of a loop: what they come to from the loop's head, and in how many steps.
use Rattle.std.proofs.Common.{◌≡◌, refl, sym, ◌∙◌, subst, ◌≤◌, ℕ, zero, suc, ◌+◌, ◌-◌, ◌*◌, ℤ, pos, ◌+ℤ◌, int_lt, Bool, true, false, if◌then◌else◌, ◌==◌, List, ◌∷◌, Option, Some, None, arith, eqb-true}
use Rattle.std.proofs.Math.Nat.{mul-le-mul_right}
use Rattle.std.proofs.lemmas.Bool.{eqb-false, false≢true}
use Rattle.ceu_tree.specs.declared.kernel.Kernel.{Kernel}
use Rattle.ceu_tree.specs.declared.kernel.KExp.{KExp}
use Rattle.ceu_tree.specs.declared.kernel.KLoop.{KLoop}
use Rattle.ceu_tree.specs.declared.kernel.KLoop.TheVariants as turns
use Rattle.ceu_tree.specs.declared.kernel.KNode.{KNode}
use Rattle.ceu_tree.specs.declared.kernel.KBlock.{KBlock}
use Rattle.ceu_tree.specs.declared.kernel.KStmt.{out-KStmt}
use Rattle.ceu_tree.specs.declared.kernel.KStmt.TheOpen.{KStmt-F}
use Rattle.ceu_tree.specs.Residual.{Body, Act, Begin, AtHead, Again, Counter, Free, Turns, Upward}
use Rattle.ceu_tree.specs.Focus.{OfLoop, Focus, Here, In}
use Rattle.ceu_tree.specs.World.{World, Holds, set}
use Rattle.ceu_tree.specs.Leaf.{Exit, Escape, Break, Continue}
use Rattle.ceu_tree.specs.Around.{Outcome, Goes, Rests, Raises, Fails, Past, Registers, AtBlockEnd, AtLoopHead, Ends, Leaves, Moved, turn_of, next_turn, loop_left, up}
use Rattle.ceu_tree.specs.Paths.{Way, ToBreak, constant_bound}
use Rattle.ceu_tree.specs.Proper.{Aim, LoopAim}
use Rattle.laws_meaning_basics.specs.Shape.{counts}
use Rattle.ceu_endings.specs.Counted.{turns_left}
use Rattle.ceu_endings.proofs.Turns.{turn_taken, turns_over}
use Rattle.ceu_endings.proofs.Local.{Settles, local, Halts, halts_weaker, halts_first, settles_more, Answers, halts_in}
use Rattle.ceu_endings.proofs.Among.{Among, exit_way, rounds, round_end, round_continue}
use Rattle.ceu_endings.proofs.Aims.{Leads}
use Rattle.ceu_endings.proofs.Fine.{bound_fine, turns_at_most}
use Rattle.ceu_endings.proofs.Opened.{BlockEnds}

either : (go : Focus Act → World → Type 0) (Q : Outcome → Type 0) (b : Bool) (x y : Moved) → (b ≡ true → Settles go Q x) → (b ≡ false → Settles go Q y) → Settles go Q (if b then x else y)
either go Q true x y h k = h refl
either go Q false x y h k = k refl

module _ (K : Kernel) (level : ℕ) (s : KNode) (k : KLoop) (b : KBlock) (is : out-KStmt s.stmt ≡ KStmt-F.Loop k b) (q : List Way) (aims : List Aim) (size : ℕ)
    (inside : (body : Body) (w : World) → Halts K level (BlockEnds q (LoopAim s.node ∷ aims)) body size (Here (Begin b)) w) (Q : Outcome → Type 0) (body : Body) where
  -- what the loop has to come to
  pub record LoopTakes : Type 0 where
    pub rests : (r : _) → Q (Rests r)
    pub fails : (e r : _) → Q (Fails e r)
    pub leaves : (n : ℕ) (x : Exit) → (n ≡ s.node → ⊥) → Among (exit_way n x) q → Leads (LoopAim s.node ∷ aims) n x → Q (Leaves n x)
    pub breaks : (n : ℕ) → n ≡ s.node → Among (ToBreak n) q → Q Past
    pub escapes : (n : ℕ) (v : ℤ) → n ≡ s.node → Leads (LoopAim s.node ∷ aims) n (Escape v) → Q Past

  -- at the head
  pub head_halts : (m : ℕ) (c : Counter) (w : World) → Settles (Halts K level Q body m) Q (turn_of s k b c body w) → Halts K level Q body (suc m) (In (OfLoop s c) (Here AtHead)) w
  unfolding local up
  head_halts m c w h =
      halts_first K level Q body m (suc m) (In (OfLoop s c) (Here AtHead)) w (omega arith) (subst (λ l. Settles (Halts K level Q body m) Q (next_turn s l c body w)) (sym is) h)

  pub again_halts : (m : ℕ) (c : Counter) (w : World) → Settles (Halts K level Q body m) Q (turn_of s k b c body w) → Halts K level Q body (suc m) (In (OfLoop s c) (Here Again)) w
  unfolding local up
  again_halts m c w h =
      halts_first K level Q body m (suc m) (In (OfLoop s c) (Here Again)) w (omega arith) (subst (λ l. Settles (Halts K level Q body m) Q (next_turn s l c body w)) (sym is) h)

  module _ (takes : LoopTakes) where
    -- a turn, after which the loop may be at its head again
    pub turn_halts : (m : ℕ) (c : Counter) (w : World) → ((u : World) → rounds s.node q ≡ true → Halts K level Q body m (In (OfLoop s c) (Here Again)) u)
        → Halts K level Q body (size + m) (In (OfLoop s c) (Here (Begin b))) w
    turn_halts m c w h = halts_in K level (BlockEnds q (LoopAim s.node ∷ aims)) Q body size m (OfLoop s c) (Here (Begin b)) w answer (inside body w)
      where
        left : (n : ℕ) (x : Exit) (f : Focus Act) (u : World) → Among (exit_way n x) q → Leads (LoopAim s.node ∷ aims) n x → (t : Bool) → (n == s.node) ≡ t
            → Settles (Halts K level Q body m) Q (loop_left t s c f body n x u)
        left n Continue f u p l true e = h _ (round_continue s.node n q (sym (eqb-true n s.node e)) p)
        left n Break f u p l true e = takes.breaks n (eqb-true n s.node e) p
        left n (Escape v) f u p l true e = takes.escapes n v (eqb-true n s.node e) l
        left n x f u p l false e = takes.leaves n x (eqb-false n s.node e) p l

        answer : Answers K level (BlockEnds q (LoopAim s.node ∷ aims)) Q body m (OfLoop s c)
        answer (Goes g) f u p = absurd p
        answer (Rests r) f u p = takes.rests _
        answer (Raises r) f u p = absurd p
        answer (Fails e r) f u p = takes.fails e _
        answer Past f u p = absurd p
        answer (Registers y) f u p = absurd p
        answer AtBlockEnd f u p = absurd p
        answer AtLoopHead f u p = absurd p
        answer (Ends v) f u p = h u (round_end s.node q p)
        answer (Leaves n x) f u p = left n x f u p.0 p.1 (n == s.node) refl

    -- ---- without a constant bound, where the body doesn't go round

    pub once : (c : Counter) (w : World) → rounds s.node q ≡ false → Halts K level Q body size (In (OfLoop s c) (Here (Begin b))) w
    once c w stays = halts_weaker K level Q Q body (size + 0) size (In (OfLoop s c) (Here (Begin b))) w (omega arith) (λ x p. p) (turn_halts 0 c w (λ u y. absurd (false≢true (sym stays ∙ y))))
    -- ---- with a bound: n turns are left

module _ (K : Kernel) (level : ℕ) (s : KNode) (slot limit : ℕ) (b : KBlock) (is : out-KStmt s.stmt ≡ KStmt-F.Loop (turns.Times slot limit) b) (q : List Way) (aims : List Aim) (size : ℕ)
    (inside : (body : Body) (w : World) → Halts K level (BlockEnds q (LoopAim s.node ∷ aims)) body size (Here (Begin b)) w) (Q : Outcome → Type 0) (body : Body)
    (takes : LoopTakes K level s (turns.Times slot limit) b is q aims size inside Q body) where
  pub times_turn : (n j : ℕ) (w : World) → j + n ≡ limit → Settles (Halts K level Q body (n * suc size)) Q (turn_of s (turns.Times slot limit) b (Turns j) body w)
  times_turn zero j w e = either (Halts K level Q body (0 * suc size)) Q (j == limit) _ _ (λ h. takes.fails _ _) (λ h. absurd (eqb-false j limit h (omega (arith, e))))
  times_turn (suc n) j w e = either (Halts K level Q body (suc n * suc size)) Q (j == limit) _ _ (λ h. (let z = eqb-true j limit h in absurd (omega (arith, e, z))))
      (λ h. halts_weaker K level Q Q body (size + suc (n * suc size)) (suc n * suc size) _ w (omega arith) (λ z p. p)
      (turn_halts K level s (turns.Times slot limit) b is q aims size inside Q body takes (suc (n * suc size)) (Turns (j + 1)) w
      (λ u z. again_halts K level s (turns.Times slot limit) b is q aims size inside Q body (n * suc size) (Turns (j + 1)) u (times_turn n (j + 1) u (omega (arith, e))))))

module _ (K : Kernel) (level : ℕ) (s : KNode) (i next end : ℕ) (open_a : Bool) (x y : _) (open_b : Bool) (b : KBlock) (is : out-KStmt s.stmt ≡ KStmt-F.Loop (turns.Range i next end open_a x y open_b) b)
    (q : List Way) (aims : List Aim) (size : ℕ) (inside : (body : Body) (w : World) → Halts K level (BlockEnds q (LoopAim s.node ∷ aims)) body size (Here (Begin b)) w) (Q : Outcome → Type 0) (body : Body)
    (takes : LoopTakes K level s (turns.Range i next end open_a x y open_b) b is q aims size inside Q body) (around : rounds s.node q ≡ true → Q Past) where
  pub range_turn : (n : ℕ) (at last : ℤ) (w : World) → turns_left at last ≡ n → (n ≡ 0 → Q Past) → Settles (Halts K level Q body (n * suc size)) Q (turn_of s (turns.Range i next end open_a x y open_b) b (Upward at last) body w)
  range_turn zero at last w e h = either (Halts K level Q body (0 * suc size)) Q (int_lt last at) _ _ (λ z. h refl) (λ z. (let g = turn_taken at last z in absurd (omega (arith, e, g))))
  range_turn (suc n) at last w e h = either (Halts K level Q body (suc n * suc size)) Q (int_lt last at) _ _ (λ z. (let g = turns_over at last z in absurd (omega (arith, e, g))))
      (λ z. halts_weaker K level Q Q body (size + suc (n * suc size)) (suc n * suc size) _ (set body i (Holds at) w) (omega arith) (λ o p. p)
      (turn_halts K level s (turns.Range i next end open_a x y open_b) b is q aims size inside Q body takes (suc (n * suc size)) (Upward (at +ℤ pos 1) last) (set body i (Holds at) w)
      (λ u r. again_halts K level s (turns.Range i next end open_a x y open_b) b is q aims size inside Q body (n * suc size) (Upward (at +ℤ pos 1) last) u
      (range_turn n (at +ℤ pos 1) last u (let g = turn_taken at last z in omega (arith, e, g)) (λ o. around r)))))

-- ---- from the head, where the counter lies within the bound

-- whether the loop may be gone past at its head is said by `past`
abbrev pub RangeReady : Option ℕ → (past : Type 0) → (at last : ℤ) → Type 0
RangeReady None past at last = past
RangeReady (Some n) past at last = (turns_left at last ≤ n) × (turns_left at last ≡ 0 → past)

abbrev pub Ready : (past : Type 0) → KLoop → Counter → Type 0
Ready past (turns.Times slot limit) (Turns j) = j ≤ limit
Ready past (turns.Range i next end open_a x y open_b) (Upward at last) = RangeReady (constant_bound (turns.Range i next end open_a x y open_b)) past at last
Ready past k c = Unit {0}

module _ (K : Kernel) (level : ℕ) (s : KNode) (b : KBlock) (q : List Way) (aims : List Aim) (size : ℕ)
    (inside : (body : Body) (w : World) → Halts K level (BlockEnds q (LoopAim s.node ∷ aims)) body size (Here (Begin b)) w) (Q : Outcome → Type 0) (body : Body) where
  abbrev pub TurnSettles : ℕ → KLoop → Counter → World → Type 0
  TurnSettles n k c w = Settles (Halts K level Q body (n * suc size)) Q (turn_of s k b c body w)

  more_turns : (n m : ℕ) (k : KLoop) (c : Counter) (w : World) → n ≤ m → TurnSettles n k c w → TurnSettles m k c w
  more_turns n m k c w l h = settles_more K level Q body (n * suc size) (m * suc size) (turn_of s k b c body w) (mul-le-mul_right (suc size) l) h

  range_settles : (i next end : ℕ) (open_a : Bool) (x y : KExp) (open_b : Bool) (at last : ℤ) (w : World) (is : out-KStmt s.stmt ≡ KStmt-F.Loop (turns.Range i next end open_a x y open_b) b)
      → LoopTakes K level s (turns.Range i next end open_a x y open_b) b is q aims size inside Q body → (o : Option ℕ) → RangeReady o (Q Past) at last → bound_fine o s.node q
      → ((n : ℕ) → o ≡ Some n → rounds s.node q ≡ true → Q Past) → TurnSettles (turns_at_most o) (turns.Range i next end open_a x y open_b) (Upward at last) w
  range_settles i next end open_a x y open_b at last w is takes None r f around = either (Halts K level Q body (1 * suc size)) Q (int_lt last at) _ _ (λ z. r)
      (λ z. halts_weaker K level Q Q body size (1 * suc size) _ (set body i (Holds at) w) (omega arith) (λ o p. p) (once K level s (turns.Range i next end open_a x y open_b) b is q aims size inside Q body takes (Upward (at +ℤ pos 1) last) (set body i (Holds at) w) f))
  range_settles i next end open_a x y open_b at last w is takes (Some n) r f around =
      more_turns (turns_left at last) n (turns.Range i next end open_a x y open_b) (Upward at last) w r.0
      (range_turn K level s i next end open_a x y open_b b is q aims size inside Q body takes (around n refl) (turns_left at last) at last w refl r.1)

  pub loop_settles : (k : KLoop) (c : Counter) (w : World) (is : out-KStmt s.stmt ≡ KStmt-F.Loop k b) → LoopTakes K level s k b is q aims size inside Q body → counts k c ≡ true
      → Ready (Q Past) k c → bound_fine (constant_bound k) s.node q → ((n : ℕ) → constant_bound k ≡ Some n → rounds s.node q ≡ true → Q Past) → TurnSettles (turns_at_most (constant_bound k)) k c w
  loop_settles turns.Free Free w is takes h r f around = halts_weaker K level Q Q body size (1 * suc size) _ w (omega arith) (λ o p. p) (once K level s turns.Free b is q aims size inside Q body takes Free w f)
  loop_settles turns.Free (Turns j) w is takes h r f around = absurd (false≢true h)
  loop_settles turns.Free (Upward at last) w is takes h r f around = absurd (false≢true h)
  loop_settles (turns.Times slot limit) Free w is takes h r f around = absurd (false≢true h)
  loop_settles (turns.Times slot limit) (Turns j) w is takes h r f around =
      more_turns (limit - j) limit (turns.Times slot limit) (Turns j) w (omega arith) (times_turn K level s slot limit b is q aims size inside Q body takes (limit - j) j w (omega (arith, r)))
  loop_settles (turns.Times slot limit) (Upward at last) w is takes h r f around = absurd (false≢true h)
  loop_settles (turns.Range i next end open_a x y open_b) Free w is takes h r f around = absurd (false≢true h)
  loop_settles (turns.Range i next end open_a x y open_b) (Turns j) w is takes h r f around = absurd (false≢true h)
  loop_settles (turns.Range i next end open_a x y open_b) (Upward at last) w is takes h r f around =
      range_settles i next end open_a x y open_b at last w is takes (constant_bound (turns.Range i next end open_a x y open_b)) r f around
