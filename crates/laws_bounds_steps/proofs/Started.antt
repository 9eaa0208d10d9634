-- A leaf whose turn it is pays as its act does.
use Rattle.std.proofs.Common.{◌≡◌, refl, sym, ap, ◌∙◌, subst, ◌≤◌, ℕ, zero, suc, ◌-◌, ℤ, pos, ◌+ℤ◌, ◌-ℤ◌, Bool, true, false, if◌then◌else◌, ◌||◌, not, List, [], ◌∷◌, Option, Some, None, Result, Ok, Err, ◌⊎◌, inl, inr, arith}
use Rattle.std.proofs.lemmas.Bool.{false≢true}
use Rattle.std.specs.List.{list_any, list_all}
use Rattle.ceu_base.specs.declared.kinds.Pos.{Pos}
use Rattle.ceu_base.specs.declared.kinds.Fault.{Fault}
use Rattle.ceu_base.specs.Values.{of_test, same as same_value}
use Rattle.ceu_tree.specs.declared.kernel.Kernel.{Kernel}
use Rattle.ceu_tree.specs.declared.kernel.KCode.{KCode}
use Rattle.ceu_tree.specs.declared.kernel.KExp.{KExp}
use Rattle.ceu_tree.specs.declared.kernel.KLoop.{KLoop}
use Rattle.ceu_tree.specs.declared.kernel.KLoop.TheVariants as turns
use Rattle.ceu_tree.specs.declared.kernel.Loc.{Loc}
use Rattle.ceu_tree.specs.declared.kernel.ParKind.{ParKind}
use Rattle.ceu_tree.specs.declared.kernel.KArm.{KArm, out-KArm}
use Rattle.ceu_tree.specs.declared.kernel.KNode.{KNode}
use Rattle.ceu_tree.specs.declared.kernel.KBlock.{KBlock, out-KBlock}
use Rattle.ceu_tree.specs.declared.kernel.KStmt.{KStmt, out-KStmt, AwaitEvent}
use Rattle.ceu_tree.specs.declared.kernel.KStmt.TheOpen.{KStmt-F}
use Rattle.ceu_tree.proofs.EnterLaws.{enter_of_block, enter_of_arm}
use Rattle.ceu_tree.proofs.PathLaws.{quick_of_block}
use Rattle.ceu_tree.proofs.CalmLaws.{paced_of_body}
use Rattle.ceu_tree.specs.Proper.{Scope}
use Rattle.ceu_tree.specs.Residual.{Body, Act, Begin, Start, Finish, AtEnd, AtHead, Again, Counter, Free, Turns, Upward, Residual, Run, WaitInput, WaitTime, WaitEvent, WaitForever, InAsync, Block, Open, Loop, Call, Par, no_instance}
use Rattle.ceu_tree.specs.Focus.{plug, leaf}
use Rattle.ceu_tree.specs.World.{World, Cell, Names, look}
use Rattle.ceu_tree.specs.Expressions.{names_living, value_of, value_if, values_of}
use Rattle.ceu_tree.specs.Leaf.{Layer, Escape, Break, Continue, Does, Opens, Waits, Passes, Leaves, Emits, Spawns, Kills, Fails, Done, or_fails, code_at, chosen_part, branches_from, in_branches, opened, loop_reached, called, spawning, killing, started, next_of, rest_of, acted}
use Rattle.ceu_tree.specs.Around.{is_over, kind_of}
use Rattle.ceu_tree.specs.Paths.{Way, ToEnd, is_end, is_escape, is_break, is_continue, has_end, end_if, constant_bound, is_range, runs_out, loop_ways, do_ways, par_ways, gathered, all_blocks_end, quick_arm, quick_block}
use Rattle.ceu_tree.specs.Costs.{Cost, cost, nothing, plus, times, most, most_of, sum_of, without_one, loop_times, paced, paced_nodes, awaited_event, calm_node, enter_block, enter_arm, enter_branch}
use Rattle.laws_meaning_basics.specs.Shape.{Part, ABlock, AStatement, among_arms, ActFits, begins, heads, goes_again, starts, finishes, ends}
use Rattle.ceu_endings.proofs.Turns.{exactly, turns_begin_with}
use Rattle.laws_bounds_steps.specs.Ways.{leads_to, outward, out_of, goes_on, to_begin, ways_of_turns, head_ways, ways_of_loop, act_ways, ways, ways_of_branches, each_may_end}
use Rattle.laws_bounds_steps.specs.Due.{is_await, at_await, running, times_of_turns, head_times, head_due, due_in_loop, act_due, due, due_of_branches}
use Rattle.laws_bounds_steps.specs.Pays.{Within, IsOf, Fewer, way_of, is_paced, Pays, Leaving}
use Rattle.laws_bounds_steps.specs.Starts.{PartKeeps, arms_keep, branches_keep, par_keeps}
use Rattle.laws_bounds_steps.specs.Kept.{starts_kept, act_kept, CodesPay}
use Rattle.laws_bounds_steps.proofs.WayLists.{among_case, among_left, among_right, any_among, any_some, any_sub, and_sub, or_case, or_sub, filter_in, filter_out, end_out, sub_append, sub_end, sub_out, sub_par}
use Rattle.laws_bounds_steps.proofs.Cost.{same, is, chain, both, first, least, unpaid, more_times, fewer_turns}
use Rattle.laws_bounds_steps.proofs.LoopSteps.{clear_fewer, loop_end}
use Rattle.laws_bounds_steps.proofs.Steps.{list_due, list_fewer}
use Rattle.laws_bounds_steps.proofs.Opened.{quick_layer, quick_is, quick_arm_is, enter_layer, enter_is}
use denote.Hole.Carrier

awaits : (st : KStmt) (x : ℕ) → awaited_event st ≡ Some x → is_await (out-KStmt st) ≡ true
unfolding out-KStmt Carrier.out
awaits (AwaitEvent e t) x h = refl
awaits st x h = absurd (cc)

-- ---- from the blocks of do, if and par

sub_do : (node : ℕ) (a b : List Way) → Fewer a b → list_any (λ w. is_break node w || is_continue node w) b ≡ false → Fewer (out_of node a) (do_ways node b)
sub_do node a b f c w h = go (among_case w (outward node a) _ h)
  where
    three : (x y z u : Bool) → not (x || (y || z || u)) ≡ true → not (x || y) ≡ true
    three true y z u h = h
    three false true z u h = absurd (false≢true h)
    three false false z u h = refl

    inside : Way → Bool
    inside v = is_escape node v

    escape : (v : Way) → IsOf b v → leads_to node v ≡ true → is_escape node v ≡ true
    escape v i e = pick (or_case (is_escape node v || is_break node v) (is_continue node v) e)
      where
        other : (is_break node v || is_continue node v) ≡ true → is_escape node v ≡ true
        other x = absurd (false≢true (sym c ∙ any_among (λ w. is_break node w || is_continue node w) v b x i))

        inner : (is_escape node v ≡ true) ⊎ (is_break node v ≡ true) → is_escape node v ≡ true
        inner (inl x) = x
        inner (inr x) = other (ap (λ y. y || is_continue node v) x)

        last : (y : Bool) → is_continue node v ≡ true → (y || is_continue node v) ≡ true
        last true x = refl
        last false x = x

        pick : ((is_escape node v || is_break node v) ≡ true) ⊎ (is_continue node v ≡ true) → is_escape node v ≡ true
        pick (inl x) = inner (or_case (is_escape node v) (is_break node v) x)
        pick (inr x) = other (last (is_break node v) x)

    left : list_any (leads_to node) a ≡ true → list_any (is_escape node) b ≡ true
    left e = let i = any_some (leads_to node) a e in any_among (is_escape node) i.0 b (escape i.0 (f i.0 i.1) i.2) (f i.0 i.1)

    go : IsOf (outward node a) w ⊎ IsOf (end_if (has_end a || list_any (leads_to node) a)) w → IsOf (do_ways node b) w
    go (inl i) =
        let z = filter_out (λ w. not (is_end w || leads_to node w)) w a i in
        among_left w _ _ (filter_in (λ w. not (is_end w || is_escape node w)) w b (three (is_end w) (is_escape node w) (is_break node w) (is_continue node w) z.0) (f w z.1))
    go (inr i) = among_right w _ _ (sub_end (has_end a || list_any (leads_to node) a) (has_end b || list_any (is_escape node) b) (or_sub (has_end a) _ (has_end b) _ (any_sub is_end a b f) left) w i)

most_first : (a b : Cost) → Within a (most a b)
most_first a b = record { turns = omega arith; opens = omega arith }

most_second : (a b c : Cost) → Within a c → Within a (most b c)
most_second a b c h = let h0 = h.turns in let h1 = h.opens in record { turns = omega (arith, h0); opens = omega (arith, h1) }

most_more : (a b c : Cost) → Within a b → Within a (most b c)
most_more a b c h = let h0 = h.turns in let h1 = h.opens in record { turns = omega (arith, h0); opens = omega (arith, h1) }

-- a par's branches: one of the turns is on
without_turn : (a : Cost) → 1 ≤ a.turns → Within a (plus (cost 1 0) (without_one a))
without_turn a h = record { turns = omega (arith, h); opens = omega arith }

-- a leaf that starts a statement
pub record StartsAt (n : ℕ) (r : Residual) (s : KNode) (layer : Layer) : Type 0 where
  pub was : r ≡ Run n (Start s)
  pub is : out-KStmt s.stmt ≡ layer

module _ (P : List Bool) (E N : List Cost) (n : ℕ) where
  arm_costs : (arms : List KArm) (b : KBlock) → among_arms arms b → Within (enter_block P E N b) (most_of (enter_arm P E N) arms)
  arm_costs [] b o = absurd o
  arm_costs (a ∷ arms) b (inl e) = subst (λ c. Within (enter_block P E N c) (most (enter_arm P E N a) (most_of (enter_arm P E N) arms))) e (most_more _ _ _ (is _ _ (sym (enter_of_arm P E N a))))
  arm_costs (a ∷ arms) b (inr o) = most_second _ _ _ (arm_costs arms b o)

  arm_fewer : (arms : List KArm) (b : KBlock) → among_arms arms b → Fewer (quick_block P b) (gathered (quick_arm P) arms)
  arm_fewer [] b o w i = absurd o
  arm_fewer (a ∷ arms) b (inl e) w i = among_left w (quick_arm P a) _ (subst (λ q. IsOf q w) (sym (quick_arm_is P a)) (subst (λ c. IsOf (quick_block P c) w) (sym e) i))
  arm_fewer (a ∷ arms) b (inr o) w i = among_right w (quick_arm P a) _ (arm_fewer arms b o w i)

  arm_keeps : (node : ℕ) (arms : List KArm) (b : KBlock) → arms_keep P node arms → among_arms arms b → PartKeeps P node b
  arm_keeps node [] b h o = absurd o
  arm_keeps node (a ∷ arms) b h (inl e) = subst (PartKeeps P node) e h.0
  arm_keeps node (a ∷ arms) b h (inr o) = arm_keeps node arms b h.1 o

  -- the branches of a par that begins
  fresh_costs : (bs : List KBlock) → due_of_branches P E N (branches_from n bs) ≡ sum_of (enter_branch P E N) bs
  unfolding due
  fresh_costs [] = refl
  fresh_costs (b ∷ bs) = ap (plus (plus (cost 1 0) (enter_block P E N b))) (fresh_costs bs)

  fresh_fewer : (bs : List KBlock) → branches_keep P bs → Fewer (ways_of_branches P (branches_from n bs)) (gathered (quick_block P) bs)
  unfolding ways
  fresh_fewer [] h w i = i
  fresh_fewer (b ∷ bs) h w i = sub_append _ (quick_block P b) _ _ (clear_fewer (out-KBlock b).node (quick_block P b) h.0) (fresh_fewer bs h.1) w i

  fresh_ended : (bs : List KBlock) → branches_keep P bs → each_may_end P (branches_from n bs) ≡ true → all_blocks_end P bs ≡ true
  unfolding ways
  fresh_ended [] h e = refl
  fresh_ended (b ∷ bs) h e = and_sub _ _ (has_end (quick_block P b)) _ (any_sub is_end _ (quick_block P b) (clear_fewer (out-KBlock b).node (quick_block P b) h.0)) (fresh_ended bs h.1) e

  -- ---- what a leaf does, where it was left as r

  abbrev pub DoesPay : Part → Residual → Does → Type 0
  DoesPay d r (Opens x) = Pays P E N d nothing (plug x (Run n (leaf x))) r
  DoesPay d r (Waits q) = Pays P E N d (cost 1 0) q r
  DoesPay d r (Leaves node x) = Leaving P E N r (way_of node x)
  DoesPay d r (Emits s e v) = (x : Option KExp) × StartsAt n r s (KStmt-F.Emit e x)
  DoesPay d r (Spawns s c code pool alias vs) = (es : List KExp) × StartsAt n r s (KStmt-F.Spawn code es pool alias) × Leaving P E N r ToEnd
  DoesPay d r (Kills k) = (s : KNode) × (c : ℕ) × StartsAt n r s (KStmt-F.Kill c) × Leaving P E N r ToEnd
  DoesPay d r (Fails e) = Unit {0}
  DoesPay d r x = Leaving P E N r ToEnd

  or_pays : {A : Type 0} (d : Part) (r : Residual) (a : Result A (Fault × Pos)) (w : World) (go : A → Done) → ((x : A) → a ≡ Ok x → DoesPay d r (go x).does) → DoesPay d r (or_fails a w go).does
  or_pays d r (Ok x) w go h = h x refl
  or_pays d r (Err e) w go h = tt

  run_leaves : (a : Act) (w : Way) → IsOf (act_ways P a) w → at_await (Run n a) ≡ false → Leaving P E N (Run n a) w
  unfolding due ways
  run_leaves a w i q = record { way = i; pays = first _ _ _ (same _); past_await = q; past_head = λ h. same _ }

  module _ (sc : Scope) (s : KNode) (layer : Layer) (e : out-KStmt s.stmt ≡ layer) where
    ways_are : act_ways P (Start s) ≡ quick_layer P s.node layer
    ways_are = quick_is P s.node s.stmt ∙ ap (quick_layer P s.node) e

    costs_are : act_due P E N (Start s) ≡ enter_layer P E N s.node layer
    costs_are = enter_is P E N s.node s.stmt ∙ ap (enter_layer P E N s.node) e

    leaves_as : (w : Way) → IsOf (quick_layer P s.node layer) w → is_await layer ≡ false → Leaving P E N (Run n (Start s)) w
    leaves_as w i q = run_leaves (Start s) w (subst (λ p. IsOf p w) (sym ways_are) i) (ap is_await e ∙ q)

    opens_as : (q : Residual) → is_over q ≡ false → Within (due P E N q) (plus (cost 1 0) (enter_layer P E N s.node layer)) → Fewer (ways P q) (quick_layer P s.node layer) → is_await layer ≡ false
        → Pays P E N (AStatement sc s) nothing q (Run n (Start s))
    unfolding due ways
    opens_as q o c f a =
        let g : Fewer (ways P q) (act_ways P (Start s)) = λ w i. subst (λ p. IsOf p w) (sym ways_are) (f w i) in record {
          costs = unpaid _ _ (subst (λ x. Within (due P E N q) (plus (cost 1 0) x)) (sym costs_are) c);
          fewer = g;
          ended = λ x. any_sub is_end (ways P q) _ g (ap (λ b. b || has_end (ways P q)) (sym o) ∙ x);
          head = λ p h. absurd (false≢true p);
          await = λ h. absurd (false≢true (sym (ap is_await e ∙ a) ∙ h));
        }

    waits_as : (q : Residual) → is_over q ≡ false → Within (plus (cost 1 0) (due P E N q)) (plus (cost 1 0) (enter_layer P E N s.node layer)) → Fewer (ways P q) (quick_layer P s.node layer)
        → (is_await layer ≡ true → (at_await q ≡ true) × Within (plus (cost 1 0) (running q)) (cost 1 0)) → Pays P E N (AStatement sc s) (cost 1 0) q (Run n (Start s))
    unfolding due ways
    waits_as q o c f a =
        let g : Fewer (ways P q) (act_ways P (Start s)) = λ w i. subst (λ p. IsOf p w) (sym ways_are) (f w i) in record {
          costs = subst (λ x. Within (plus (cost 1 0) (due P E N q)) (plus (cost 1 0) x)) (sym costs_are) c;
          fewer = g;
          ended = λ x. any_sub is_end (ways P q) _ g (ap (λ b. b || has_end (ways P q)) (sym o) ∙ x);
          head = λ p h. absurd (false≢true p);
          await = λ h. a (sym (ap is_await e) ∙ h);
        }

    outside_as : (q : Residual) → is_over q ≡ false → due P E N q ≡ nothing → ways P q ≡ [] → is_await layer ≡ false → Pays P E N (AStatement sc s) (cost 1 0) q (Run n (Start s))
    outside_as q o c f a = waits_as q o (subst (λ x. Within (plus (cost 1 0) x) (plus (cost 1 0) (enter_layer P E N s.node layer))) (sym c) (both _ _ _ _ (same (cost 1 0)) (least _)))
        (λ w i. absurd (subst (λ p. IsOf p w) f i)) (λ x. absurd (false≢true (sym a ∙ x)))

    -- a block that a do or an if opens
    part_opens : (b : KBlock) → Within (enter_block P E N b) (enter_layer P E N s.node layer) → Fewer (out_of s.node (out_of (out-KBlock b).node (quick_block P b))) (quick_layer P s.node layer) → is_await layer ≡ false
        → DoesPay (AStatement sc s) (Run n (Start s)) (opened s b)
    unfolding due ways
    part_opens b c f a = opens_as (Open s (Run n (Begin b))) refl (both _ _ _ _ (same (cost 1 0)) c) f a

    -- ---- loops

    abbrev Fresh : KLoop → Counter → Type 0
    Fresh k c = (m : ℕ) → constant_bound k ≡ Some m → to_begin k c ≡ m

    fresh_ways : (k : KLoop) (b : KBlock) (c : Counter) → Fresh k c → Fewer (head_ways P s.node k b c) (loop_ways s.node k (quick_block P b))
    fresh_ways k b c z = go (constant_bound k) refl
      where
        none : (o : Option ℕ) (r : Bool) → o ≡ Some 0 → r ≡ true → runs_out s.node r o (quick_block P b) ≡ true
        none None r e h = absurd (cc)
        none (Some zero) true e h = refl
        none (Some zero) false e h = absurd (false≢true h)
        none (Some (suc m)) r e h = absurd (cc)

        or_right : (x y : Bool) → y ≡ true → (x || y) ≡ true
        or_right true y h = refl
        or_right false y h = h

        turns : (m j : ℕ) → constant_bound k ≡ Some m → j ≡ m → Fewer (ways_of_turns P s.node k b j) (loop_ways s.node k (quick_block P b))
        turns m zero q h w i =
            let x = end_out w (is_range k) i in
            subst (λ v. IsOf (loop_ways s.node k (quick_block P b)) v) x.1 (loop_end s.node k (quick_block P b) (or_right (list_any (is_break s.node) (quick_block P b)) _ (none (constant_bound k) (is_range k) (q ∙ ap Some (sym h)) x.0)))
        turns m (suc j) q h w i = i

        go : (o : Option ℕ) → constant_bound k ≡ o → Fewer (elim o [ None ↦ loop_ways s.node k (quick_block P b) | Some m ↦ ways_of_turns P s.node k b (to_begin k c) ]) (loop_ways s.node k (quick_block P b))
        go None q w i = i
        go (Some m) q w i = turns m (to_begin k c) q (z m q) w i

    fresh_times : (k : KLoop) (b : KBlock) (c : Counter) → Fresh k c → head_times P s.node k b c ≤ loop_times P s.node k b
    fresh_times k b c z = go (constant_bound k) refl
      where
        go : (o : Option ℕ) → constant_bound k ≡ o → elim o [ None ↦ 1 | Some m ↦ times_of_turns (goes_on s.node (quick_block P b)) (to_begin k c) ] ≤ elim o [ None ↦ 1 | Some m ↦ (if goes_on s.node (quick_block P b) then m else 1) ]
        go None q = omega arith
        go (Some m) q = fewer_turns (goes_on s.node (quick_block P b)) (to_begin k c) m (let y = z m q in omega (arith, y))

    loop_opens : (k : KLoop) (b : KBlock) (c : Counter) → layer ≡ KStmt-F.Loop k b → Fresh k c → Pays P E N (AStatement sc s) nothing (Loop s c (Run n AtHead)) (Run n (Start s))
    unfolding due ways
    loop_opens k b c q z = opens_as (Loop s c (Run n AtHead)) refl
        (subst (λ y. Within (due_in_loop P E N s.node y c true (cost 1 0) (plus (cost 1 0) nothing) (ToEnd ∷ [])) (plus (cost 1 0) (enter_layer P E N s.node layer))) (sym (e ∙ q))
        (subst (λ y. Within (due_in_loop P E N s.node (KStmt-F.Loop k b) c true (cost 1 0) (plus (cost 1 0) nothing) (ToEnd ∷ [])) (plus (cost 1 0) (enter_layer P E N s.node y))) (sym q) (costs (paced k b))))
        (subst (λ y. Fewer (ways_of_loop P s.node y c (ToEnd ∷ [])) (quick_layer P s.node layer)) (sym (e ∙ q))
        (subst (λ y. Fewer (ways_of_loop P s.node (KStmt-F.Loop k b) c (ToEnd ∷ [])) (quick_layer P s.node y)) (sym q) (fresh_ways k b c z)))
        (ap is_await q)
      where
        costs : (o : Option ℕ) → Within (elim o [ Some x ↦ cost 1 0 | None ↦ plus (plus (cost 1 0) nothing) (head_due P E N s.node k b c) ])
            (plus (cost 1 0) (elim o [ Some x ↦ nothing | None ↦ times (loop_times P s.node k b) (enter_block P E N b) ]))
        costs (Some x) = first (cost 1 0) (cost 1 0) nothing (same (cost 1 0))
        costs None = both (plus (cost 1 0) nothing) (head_due P E N s.node k b c) (cost 1 0) (times (loop_times P s.node k b) (enter_block P E N b)) (same (cost 1 0))
            (more_times (head_times P s.node k b c) (loop_times P s.node k b) (enter_block P E N b) (fresh_times k b c z))

  -- ---- statement by statement

  -- what is known of code that is awaited
  abbrev pub CallPays : Kernel → Layer → Type 0
  CallPays K (KStmt-F.AwaitCode c es f t) = (k : KCode) × (code_at c K.codes ≡ Some k) × CodesPay P E N K
  CallPays K layer = Unit {0}

  abbrev pub ActCalls : Kernel → Act → Type 0
  ActCalls K (Start s) = CallPays K (out-KStmt s.stmt)
  ActCalls K a = Unit {0}

  chosen_pays : (d : Part) (r : Residual) (arms : List KArm) (last : KBlock) (body : Body) (w : World) (go : KBlock → Done)
      → ((b : KBlock) → among_arms arms b ⊎ (last ≡ b) → DoesPay d r (go b).does) → DoesPay d r (or_fails (chosen_part arms last body w) w go).does
  chosen_pays d r [] last body w go h = h last (inr refl)
  chosen_pays d r (a ∷ arms) last body w go h = case (value_of (out-KArm a).cond body w) (chosen_pays d r arms last body w go (λ b x. h b (further b x)))
    where
      further : (b : KBlock) → among_arms arms b ⊎ (last ≡ b) → among_arms (a ∷ arms) b ⊎ (last ≡ b)
      further b (inl x) = inl (inr x)
      further b (inr e) = inr e

      either : (b : Bool) → DoesPay d r (or_fails (chosen_part arms last body w) w go).does → DoesPay d r (or_fails (if b then chosen_part arms last body w else Ok (out-KArm a).body) w go).does
      either true x = x
      either false x = h (out-KArm a).body (inl (inl refl))

      case : (o : Result ℤ (Fault × Pos)) → DoesPay d r (or_fails (chosen_part arms last body w) w go).does
          → DoesPay d r (or_fails (elim o [ Ok v ↦ if same_value v (pos 0) then chosen_part arms last body w else Ok (out-KArm a).body | Err e ↦ Err e ]) w go).does
      case (Ok v) x = either (same_value v (pos 0)) x
      case (Err e) x = tt

  module _ (sc : Scope) (s : KNode) (body : Body) (w : World) where
    loop_pays : (k : KLoop) (b : KBlock) → out-KStmt s.stmt ≡ KStmt-F.Loop k b → DoesPay (AStatement sc s) (Run n (Start s)) (loop_reached s k body w).does
    loop_pays turns.Free b e = loop_opens sc s (KStmt-F.Loop turns.Free b) e turns.Free b Free refl (λ m q. absurd (cc))
    loop_pays (turns.Times slot limit) b e = loop_opens sc s (KStmt-F.Loop (turns.Times slot limit) b) e (turns.Times slot limit) b (Turns 0) refl (λ m q. some_is limit m q)
      where
        some_is : (x m : ℕ) → Some x ≡ Some m → x - 0 ≡ m
        some_is x m q = ap (λ o. elim o [ None ↦ x - 0 | Some y ↦ y - 0 ]) q ∙ omega arith
    loop_pays (turns.Range i next end open_a x y open_b) b e =
        or_pays (AStatement sc s) (Run n (Start s)) (value_of x body w) w _ (λ u p. or_pays (AStatement sc s) (Run n (Start s)) (value_of y body w) w _ (λ v q.
        loop_opens sc s (KStmt-F.Loop (turns.Range i next end open_a x y open_b) b) e (turns.Range i next end open_a x y open_b) b (Upward (u +ℤ of_test open_a) (v -ℤ of_test open_b)) refl
        (λ m z. exact (constant_bound (turns.Range i next end open_a x y open_b)) _ m z (turns_begin_with x y open_a open_b u v body w p q))))
      where
        exact : (o : Option ℕ) (j m : ℕ) → o ≡ Some m → exactly o j → j ≡ m
        exact None j m z h = absurd (cc)
        exact (Some t) j m z h = h ∙ ap (λ o. elim o [ None ↦ t | Some y ↦ y ]) z

    par_pays : (k : ParKind) (slot : ℕ) (bs : List KBlock) → out-KStmt s.stmt ≡ KStmt-F.Par k slot bs → par_keeps P bs → DoesPay (AStatement sc s) (Run n (Start s)) (in_branches n s bs)
    unfolding due ways
    par_pays k slot [] e h = absurd h
    par_pays k slot (b ∷ bs) e h = opens_as sc s (KStmt-F.Par k slot (b ∷ bs)) e (Par s (branches_from n (b ∷ bs))) refl
        (subst (λ x. Within x (plus (cost 1 0) (without_one (sum_of (enter_branch P E N) (b ∷ bs))))) (sym (fresh_costs (b ∷ bs))) (without_turn (sum_of (enter_branch P E N) (b ∷ bs)) (omega arith)))
        (subst (λ y. Fewer (par_ways (kind_of y) (ways_of_branches P (branches_from n (b ∷ bs))) (each_may_end P (branches_from n (b ∷ bs)))) (par_ways k (gathered (quick_block P) (b ∷ bs)) (all_blocks_end P (b ∷ bs)))) (sym e)
        (sub_par k _ _ _ _ (fresh_fewer (b ∷ bs) h) (fresh_ended (b ∷ bs) h)))
        refl

    if_pays : (arms : List KArm) (last : KBlock) → out-KStmt s.stmt ≡ KStmt-F.If arms last → arms_keep P s.node arms → PartKeeps P s.node last
        → (b : KBlock) → among_arms arms b ⊎ (last ≡ b) → DoesPay (AStatement sc s) (Run n (Start s)) (opened s b)
    if_pays arms last e h k b (inl o) =
        let z = arm_keeps s.node arms b h o in
        part_opens sc s (KStmt-F.If arms last) e b (most_more _ _ _ (arm_costs arms b o))
        (λ v i. among_left v (gathered (quick_arm P) arms) _ (arm_fewer arms b o v (clear_fewer s.node (quick_block P b) z.1 v (sub_out s.node _ _ (clear_fewer (out-KBlock b).node (quick_block P b) z.0) v i)))) refl
    if_pays arms last e h k b (inr o) =
        let z = subst (PartKeeps P s.node) o k in
        part_opens sc s (KStmt-F.If arms last) e b (most_second _ _ _ (is _ _ (ap (enter_block P E N) (sym o))))
        (λ v i. among_right v (gathered (quick_arm P) arms) _ (subst (λ c. IsOf (quick_block P c) v) (sym o)
        (clear_fewer s.node (quick_block P b) z.1 v (sub_out s.node _ _ (clear_fewer (out-KBlock b).node (quick_block P b) z.0) v i)))) refl

    call_pays : (K : Kernel) (c : ℕ) (es : List KExp) (f : ℕ) (t : Option Loc) → out-KStmt s.stmt ≡ KStmt-F.AwaitCode c es f t → CallPays K (KStmt-F.AwaitCode c es f t) → (o : Option KCode) → code_at c K.codes ≡ o → (vs : List ℤ)
        → DoesPay (AStatement sc s) (Run n (Start s)) (called s o vs body w).does
    unfolding due ways
    call_pays K c es f t e h None q vs = let there = h.1 in absurd (cc)
    call_pays K c es f t e h (Some k) q vs =
        opens_as sc s _ e (Call s (Run n (Begin k.body))) refl (both _ _ _ _ (same (cost 1 0)) (is _ _ (sym (h.2.enters c k q)))) (h.2.leaves c k q) refl

    spawn_pays : (c : ℕ) (es : List KExp) (p : ℕ) (a : Option ℕ) (o : Option KCode) (vs : List ℤ) → out-KStmt s.stmt ≡ KStmt-F.Spawn c es p a → DoesPay (AStatement sc s) (Run n (Start s)) (spawning s o c p a vs w).does
    spawn_pays c es p a None vs e = leaves_as sc s _ e ToEnd (inl refl) refl
    spawn_pays c es p a (Some k) vs e = (es, record { was = refl; is = e }, leaves_as sc s _ e ToEnd (inl refl) refl)

    kill_pays : (c : ℕ) (o : Option Cell) (living : List ℕ) → out-KStmt s.stmt ≡ KStmt-F.Kill c → DoesPay (AStatement sc s) (Run n (Start s)) (killing o living)
    kill_pays c (Some (Names m)) living e = go (names_living (Some (Names m)) living)
      where
        go : (b : Bool) → DoesPay (AStatement sc s) (Run n (Start s)) (if b then Kills m else Passes)
        go true = (s, c, record { was = refl; is = e }, leaves_as sc s _ e ToEnd (inl refl) refl)
        go false = leaves_as sc s _ e ToEnd (inl refl) refl
    kill_pays c o living e = leaves_as sc s _ e ToEnd (inl refl) refl

    started_pays : (K : Kernel) (layer : Layer) → out-KStmt s.stmt ≡ layer → starts_kept P s.node layer → CallPays K layer → DoesPay (AStatement sc s) (Run n (Start s)) (started K n body s layer w).does
    unfolding due ways
    started_pays K (KStmt-F.Emit k x) e h c = or_pays (AStatement sc s) _ (value_if x body w) w _ (λ v z. (x, record { was = refl; is = e }))
    started_pays K (KStmt-F.Spawn i es p a) e h c = or_pays (AStatement sc s) _ (values_of es body w) w _ (λ vs z. spawn_pays i es p a (code_at i K.codes) vs e)
    started_pays K (KStmt-F.Kill i) e h c = kill_pays i (look body i w.values) w.living e
    started_pays K (KStmt-F.AwaitCode i es f t) e h c = or_pays (AStatement sc s) _ (values_of es body w) w _ (λ vs z. call_pays K i es f t e c (code_at i K.codes) refl vs)
    started_pays K KStmt-F.Nothing e h c = leaves_as sc s _ e ToEnd (inl refl) refl
    started_pays K (KStmt-F.Assign l x) e h c = or_pays (AStatement sc s) _ (value_of x body w) w _ (λ v z. leaves_as sc s _ e ToEnd (inl refl) refl)
    started_pays K (KStmt-F.Out k x) e h c = or_pays (AStatement sc s) _ (value_if x body w) w _ (λ v z. leaves_as sc s _ e ToEnd (inl refl) refl)
    started_pays K (KStmt-F.AwaitIn k t) e h c = outside_as sc s _ e (WaitInput k s) refl refl refl refl
    started_pays K (KStmt-F.AwaitTime x u t) e h c = or_pays (AStatement sc s) _ (value_of x body w) w _ (λ v z. outside_as sc s _ e (WaitTime _ s) refl refl refl refl)
    started_pays K (KStmt-F.AwaitEvent k t) e h c = waits_as sc s _ e (WaitEvent k s) refl (same _) (λ v i. i) (λ a. (refl, same _))
    started_pays K KStmt-F.Forever e h c = outside_as sc s _ e (WaitForever s) refl refl refl refl
    started_pays K (KStmt-F.Unset i) e h c = leaves_as sc s _ e ToEnd (inl refl) refl
    started_pays K (KStmt-F.Async b) e h c = outside_as sc s _ e (InAsync s false (Run 0 (Begin b))) refl refl refl refl
    started_pays K (KStmt-F.Finalize b) e h c = leaves_as sc s _ e ToEnd (inl refl) refl
    started_pays K (KStmt-F.Do t b) e h c = part_opens sc s _ e b (same _) (sub_do s.node _ (quick_block P b) (clear_fewer (out-KBlock b).node (quick_block P b) h.0) h.1) refl
    started_pays K (KStmt-F.Escape m x) e h c = or_pays (AStatement sc s) _ (value_if x body w) w _ (λ v z. leaves_as sc s _ e (way_of m (Escape v)) (inl refl) refl)
    started_pays K (KStmt-F.Break m) e h c = leaves_as sc s _ e (way_of m Break) (inl refl) refl
    started_pays K (KStmt-F.Continue m) e h c = leaves_as sc s _ e (way_of m Continue) (inl refl) refl
    started_pays K (KStmt-F.If arms last) e h c = chosen_pays (AStatement sc s) (Run n (Start s)) arms last body w _ (if_pays arms last e h.0 h.1)
    started_pays K (KStmt-F.Loop k b) e h c = loop_pays k b e
    started_pays K (KStmt-F.Par k slot bs) e h c = par_pays k slot bs e h

  -- ---- a block that begins

  await_first : (list : List KNode) → is_paced (paced_nodes list) ≡ true → at_await (Run n (next_of list)) ≡ true
  await_first [] h = absurd (false≢true h)
  await_first (s ∷ ss) h = go (list_all calm_node ss) h
    where
      stmt : (o : Option ℕ) → awaited_event s.stmt ≡ o → is_paced o ≡ true → is_await (out-KStmt s.stmt) ≡ true
      stmt None q i = absurd (false≢true i)
      stmt (Some x) q i = awaits s.stmt x q

      go : (b : Bool) → is_paced (if b then awaited_event s.stmt else None) ≡ true → is_await (out-KStmt s.stmt) ≡ true
      go true i = stmt (awaited_event s.stmt) refl i
      go false i = absurd (false≢true i)

  begun_pays : (turn : Bool) (sc : Scope) (b : KBlock) → Pays P E N (ABlock turn sc b) nothing (Block b [] no_instance (Run n (next_of (out-KBlock b).list)) (rest_of (out-KBlock b).list)) (Run n (Begin b))
  unfolding due ways
  begun_pays turn sc b =
      let list = (out-KBlock b).list in
      let f = sub_out (out-KBlock b).node _ _ (λ w i. subst (λ q. IsOf q w) (sym (quick_of_block P b)) (list_fewer P list w i)) in record {
        costs = unpaid _ _ (chain _ _ _ (unpaid _ _ (list_due P E N list)) (is _ _ (ap (plus (cost 1 0)) (sym (enter_of_block P E N b)))));
        fewer = f;
        ended = any_sub is_end _ _ f;
        head = λ p h. (await_first list (sym (ap is_paced (paced_of_body b)) ∙ p), unpaid _ _ (same (cost 1 0)));
        await = λ h. absurd (false≢true h);
      }

  pub acted_pays : (K : Kernel) (d : Part) (a : Act) (body : Body) (w : World) → ActFits d a → act_kept P a → ActCalls K a → DoesPay d (Run n a) (acted K n body a w).does
  acted_pays K d (Begin b) body w (begins {turn = turn} {sc = sc}) h c = begun_pays turn sc b
  acted_pays K d (Start s) body w (starts {sc = sc}) h c = started_pays sc s body w K (out-KStmt s.stmt) refl h c
  acted_pays K d (Finish s v) body w (finishes p) h c = run_leaves (Finish s v) ToEnd (inl refl) refl
  acted_pays K d AtEnd body w ends h c = run_leaves AtEnd ToEnd (inl refl) refl
  acted_pays K d AtHead body w heads h c = run_leaves AtHead ToEnd (inl refl) refl
  acted_pays K d Again body w goes_again h c = run_leaves Again ToEnd (inl refl) refl
