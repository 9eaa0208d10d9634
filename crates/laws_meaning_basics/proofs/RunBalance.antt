-- Every run keeps the balance of registrations, runs and standing finalizers.
use Rattle.std.proofs.Common.{◌≡◌, refl, sym, ap, ◌∙◌, ℕ, zero, suc, ◌+◌, ◌-◌, ℤ, pos, Bool, true, false, if◌then◌else◌, ◌==◌, nat_le, List, [], ◌∷◌, Option, Some, None, arith}
use Rattle.ceu_base.specs.declared.kinds.Pos.{Pos}
use Rattle.ceu_base.specs.declared.kinds.Fault.{Fault}
use Rattle.ceu_base.specs.declared.kinds.Mark.TheVariants as mark
use Rattle.ceu_tree.specs.declared.command.Command.{Command}
use Rattle.ceu_tree.specs.declared.command.Command.TheVariants.{Input, Advance, Idle}
use Rattle.ceu_tree.specs.declared.kernel.Kernel.{Kernel}
use Rattle.ceu_tree.specs.Residual.{Body, Program, Act, Finish, Again, Residual, Over, Run, WaitInput, WaitTime, WaitEvent, WaitForever, InAsync, Block, Open, Loop, Call, Par}
use Rattle.ceu_tree.specs.Focus.{Focus, plug, leaf, body_of, choose}
use Rattle.ceu_tree.specs.World.{World, empty_world}
use Rattle.ceu_tree.specs.Wake.{each_leaf, leaves, runs_at, by_input, later, by_time, least_time, Unserved, unserved, new_round}
use Rattle.ceu_tree.specs.Around.{Outcome, Goes, Rests, Raises, Fails, Past, Registers, AtBlockEnd, AtLoopHead, Ends, Leaves}
use Rattle.ceu_tree.specs.Step.{stepped}
use Rattle.ceu_tree.specs.Run.{Config, Turning, Between, Waiting, Ended, Faulted, world_of, faulted, config_of, unless_failed, level_closed, chosen_at, next, steps, reacts, input, advance, is_again, Served, Unfinished, Turned, Done, Failed, serve, serve_first, after_serving, served, idle_turn, idle_turns, done, all_done, booted, run}
use Rattle.laws_meaning_basics.specs.Finalizers.{standing, standing_focus, standing_config, FinalizersAtMost, FinalizersBalance}
use Rattle.laws_meaning_basics.proofs.Balance.{Kept, kept_same, kept_mark, kept_then, kept_equal, aborted_kept}
use Rattle.laws_meaning_basics.proofs.FocusBalance.{plug_stands, Found, FoundIn, choose_found}
use Rattle.laws_meaning_basics.proofs.UpBalance.{left_whole}
use Rattle.laws_meaning_basics.proofs.StepBalance.{each_stands, stepped_balanced}

module _ (p : Pos) where
  -- from a world, with so many finalizers that stand, to a configuration
  abbrev pub Comes : World → ℕ → Config → Type 0
  Comes w m c = Kept p w m (world_of c) (standing_config p c)

  abbrev pub Balances : Config → Config → Type 0
  Balances c d = Comes (world_of c) (standing_config p c) d

  pub balances : (c : Config) → Balances c c
  balances c = kept_same p (world_of c) (world_of c) (standing_config p c) refl refl

  pub balances_then : (c d e : Config) → Balances c d → Balances d e → Balances c e
  balances_then c d e a b = kept_then p (world_of c) (world_of d) (world_of e) _ _ _ a b

  faulted_comes : (w : World) (e : Fault × Pos) (r : Residual) → Comes w (standing p r) (faulted e r w)
  faulted_comes w e r = kept_equal p w _ (standing p r + 0) 0 _ 0 (omega arith) refl (aborted_kept r p Program w 0)

  -- what a step leaves, as a configuration
  config_comes : (n : ℕ) (x : Outcome) (w : World) → Comes w (left_whole p x) (config_of n x w)
  unfolding standing
  config_comes n (Goes g) w = kept_same p w w _ refl refl
  config_comes n (Rests r) w = kept_same p w w _ refl refl
  config_comes n (Raises r) w = kept_same p w w _ refl refl
  config_comes n (Fails e r) w = faulted_comes w e r
  config_comes n (Ends v) w = kept_same p w w _ refl refl
  config_comes n Past w = kept_same p w w _ refl refl
  config_comes n (Registers s) w = kept_same p w w _ refl refl
  config_comes n AtBlockEnd w = kept_same p w w _ refl refl
  config_comes n AtLoopHead w = kept_same p w w _ refl refl
  config_comes n (Leaves node x) w = kept_same p w w _ refl refl

  failed_comes : (w u : World) (m : ℕ) (n : ℕ) (x : Outcome) → Kept p w m u (left_whole p x) → Comes w m (unless_failed u (config_of n x u))
  failed_comes w u m n x a = go u.fault refl
    where
      go : (o : Option (Fault × Pos)) → u.fault ≡ o → Comes w m (elim o [ Some e ↦ Faulted e u | None ↦ config_of n x u ])
      go None e = kept_then p w u _ _ _ _ a (config_comes n x u)
      go (Some y) e = record { counts = λ h. absurd (cc); fine = λ h. absurd (cc); at_most = (let b = a.at_most in omega (arith, b)) }

  -- a leaf that can run has no finalizers
  picked_stands : (n : ℕ) (r : Residual) (a : Act) → runs_at n r ≡ Some a → standing p r ≡ 0
  unfolding standing
  picked_stands n (Run m b) a e = refl
  picked_stands n Over a e = absurd (cc)
  picked_stands n (WaitInput k s) a e = absurd (cc)
  picked_stands n (WaitTime k s) a e = absurd (cc)
  picked_stands n (WaitEvent k s) a e = absurd (cc)
  picked_stands n (WaitForever s) a e = absurd (cc)
  picked_stands n (InAsync s b r) a e = absurd (cc)
  picked_stands n (Block b fin all r rest) a e = absurd (cc)
  picked_stands n (Open s r) a e = absurd (cc)
  picked_stands n (Loop s c r) a e = absurd (cc)
  picked_stands n (Call s r) a e = absurd (cc)
  picked_stands n (Par s bs) a e = absurd (cc)

  focus_stands : (n : ℕ) (r : Residual) (f : Focus Act) → Found Act (runs_at n) r f → standing_focus p f ≡ standing p r
  focus_stands n r f h =
      let a = plug_stands p f h.was in let b = picked_stands n h.was (leaf f) h.picked in let c = ap (standing p) h.plugs in omega (arith, a, b, c)

  closed_comes : (n : ℕ) (r : Residual) (w : World) → Comes w (standing p r) (level_closed n r w)
  closed_comes zero r w = kept_same p w w _ refl refl
  closed_comes (suc n) r w = kept_mark p (mark.Pop (suc n)) w _ _ refl

  chosen_comes : (n : ℕ) (r : Residual) (w : World) (o : Option (Focus Act)) → FoundIn Act (runs_at n) r o → Comes w (standing p r) (chosen_at n o r w)
  chosen_comes n r w None h = closed_comes n r w
  chosen_comes n r w (Some f) h = kept_mark p (mark.Resume n) w (standing p r) (standing_focus p f) (let a = focus_stands n r f h in omega (arith, a))

  module _ (K : Kernel) where
    pub next_balances : (c : Config) → Balances c (next K c)
    unfolding next
    next_balances (Turning n f w) = failed_comes w _ _ n (stepped K n Program f w).outcome (stepped_balanced p K n Program f w)
    next_balances (Between n r w) = chosen_comes n r w _ (choose_found Act (runs_at n) r)
    next_balances (Waiting r w) = balances (Waiting r w)
    next_balances (Ended v w) = balances (Ended v w)
    next_balances (Faulted e w) = balances (Faulted e w)

    pub steps_balance : (k : ℕ) (c : Config) → Balances c (steps K k c)
    unfolding steps
    steps_balance zero c = balances c
    steps_balance (suc k) (Turning n f w) = balances_then (Turning n f w) (next K (Turning n f w)) _ (next_balances (Turning n f w)) (steps_balance k (next K (Turning n f w)))
    steps_balance (suc k) (Between n r w) = balances_then (Between n r w) (next K (Between n r w)) _ (next_balances (Between n r w)) (steps_balance k (next K (Between n r w)))
    steps_balance (suc k) (Waiting r w) = balances (Waiting r w)
    steps_balance (suc k) (Ended v w) = balances (Ended v w)
    steps_balance (suc k) (Faulted e w) = balances (Faulted e w)

    -- a reaction of a tree in which as much stands
    reacts_comes : (k m : ℕ) (r : Residual) (w : World) → standing p r ≡ m → Comes w m (reacts K k r w)
    reacts_comes k m r w e = kept_then p w w _ _ (standing p r) _ (kept_equal p w w m m m _ refl (sym e) (kept_same p w w m refl refl)) (steps_balance k (Between 0 r w))

    if_stands : (b : Bool) (x y : Residual) (n : ℕ) → standing p x ≡ n → standing p y ≡ n → standing p (if b then x else y) ≡ n
    if_stands true x y n h k = h
    if_stands false x y n h k = k

    by_input_keeps : (event : ℕ) (v : ℤ) (r : Residual) → standing p (by_input event v r) ≡ standing p r
    unfolding standing
    by_input_keeps event v (WaitInput k s) = if_stands (k == event) _ _ 0 refl refl
    by_input_keeps event v r = refl

    by_time_keeps : (d : ℕ) (r : Residual) → standing p (by_time d r) ≡ standing p r
    unfolding standing
    by_time_keeps d (WaitTime left s) = if_stands (left == 0) _ _ 0 refl refl
    by_time_keeps d r = refl

    later_keeps : (d : ℕ) (r : Residual) → standing p (later d r) ≡ standing p r
    unfolding standing
    later_keeps d (WaitTime left s) = refl
    later_keeps d r = refl

    new_round_keeps : (r : Residual) → standing p (new_round r) ≡ standing p r
    unfolding standing
    new_round_keeps (InAsync s b r) = refl
    new_round_keeps r = refl

    input_balances : (k event : ℕ) (v : ℤ) (c : Config) → Balances c (input K k event v c)
    input_balances k event v (Waiting r w) = reacts_comes k _ _ w (each_stands p (by_input event v) (by_input_keeps event v) r)
    input_balances k event v (Turning n f w) = balances (Turning n f w)
    input_balances k event v (Between n r w) = balances (Between n r w)
    input_balances k event v (Ended x w) = balances (Ended x w)
    input_balances k event v (Faulted e w) = balances (Faulted e w)

    advance_balances : (k j d : ℕ) (c : Config) → Balances c (advance K k j d c)
    unfolding advance
    advance_balances k zero d c = balances c
    advance_balances k (suc j) d (Waiting r w) = go (least_time (leaves r)) (λ m. advance_balances k j (d - m) (timed m))
      where
        timed : ℕ → Config
        timed m = reacts K k (each_leaf (by_time (d - m)) (each_leaf (later m) r)) w

        go : (o : Option ℕ) → ((m : ℕ) → Balances (timed m) (advance K k j (d - m) (timed m))) → Balances (Waiting r w) (elim o [
          | None ↦ Waiting r w
          | Some m ↦ elim (nat_le m d) [
            | true ↦ advance K k j (d - m) (timed m)
            | false ↦ Waiting (each_leaf (later d) r) w
          ]
        ])
        go None ih = balances (Waiting r w)
        go (Some m) ih = inner (nat_le m d)
          where
            inner : (b : Bool) → Balances (Waiting r w) (elim b [ true ↦ advance K k j (d - m) (timed m) | false ↦ Waiting (each_leaf (later d) r) w ])
            inner true =
                kept_then p w (world_of (timed m)) _ _ (standing_config p (timed m)) _
                (reacts_comes k _ _ w (each_stands p (by_time (d - m)) (by_time_keeps (d - m)) (each_leaf (later m) r) ∙ each_stands p (later m) (later_keeps m) r)) (ih m)
            inner false = kept_equal p w w _ _ _ _ refl (sym (each_stands p (later d) (later_keeps d) r)) (kept_same p w w (standing p r) refl refl)
    advance_balances k (suc j) d (Turning n f w) = balances (Turning n f w)
    advance_balances k (suc j) d (Between n r w) = balances (Between n r w)
    advance_balances k (suc j) d (Ended x w) = balances (Ended x w)
    advance_balances k (suc j) d (Faulted e w) = balances (Faulted e w)

    -- ---- asyncs

    -- from a world, with what stands in an async, to what serving it gives
    abbrev pub Serves : World → ℕ → Served → Type 0
    Serves w m Unfinished = Unit {0}
    Serves w m (Turned r u) = Kept p w m u (standing p r)
    Serves w m (Done u) = Kept p w m u 0
    Serves w m (Failed e r u) = Kept p w m u (standing p r)

    serves_after : (w u : World) (m n : ℕ) (x : Served) → Kept p w m u n → Serves u n x → Serves w m x
    serves_after w u m n Unfinished a b = tt
    serves_after w u m n (Turned r v) a b = kept_then p w u v m n _ a b
    serves_after w u m n (Done v) a b = kept_then p w u v m n _ a b
    serves_after w u m n (Failed e r v) a b = kept_then p w u v m n _ a b

    serve_balances : (k : ℕ) (root : Body) (f : Focus Act) (w : World) → Serves w (standing_focus p f) (serve K k root f w)
    unfolding serve standing
    serve_balances zero root f w = tt
    serve_balances (suc k) root f w = go (stepped K 0 root f w).outcome (stepped_balanced p K 0 root f w) (λ g. serve_balances k root g u)
      where
        u : World
        u = (stepped K 0 root f w).world

        go : (x : Outcome) → Kept p w (standing_focus p f) u (left_whole p x) → ((g : Focus Act) → Serves u (standing_focus p g) (serve K k root g u)) → Serves w (standing_focus p f) (elim x [
          | Goes g ↦ elim (is_again (leaf g)) [ true ↦ Turned (plug g (Run 0 Again)) u | false ↦ serve K k root g u ]
          | Fails e r ↦ Failed e r u
          | Rests r ↦ Turned r u
          | Raises r ↦ Turned r u
          | _ ↦ Done u
        ])
        go (Goes g) h ih = inner (is_again (leaf g))
          where
            inner : (b : Bool) → Serves w (standing_focus p f) (elim b [ true ↦ Turned (plug g (Run 0 Again)) u | false ↦ serve K k root g u ])
            inner true = kept_equal p w u _ _ _ _ refl (let a = plug_stands p g (Run 0 Again) in omega (arith, a)) h
            inner false = serves_after w u _ _ (serve K k root g u) h (ih g)
        go (Fails e r) h ih = h
        go (Rests r) h ih = h
        go (Raises r) h ih = h
        go (Ends v) h ih = h
        go Past h ih = h
        go (Registers s) h ih = h
        go AtBlockEnd h ih = h
        go AtLoopHead h ih = h
        go (Leaves node x) h ih = h

    serve_first_balances : (k : ℕ) (root : Body) (o : Option (Focus Act)) (r : Residual) (w : World) → FoundIn Act (runs_at 0) r o → Serves w (standing p r) (serve_first K k root o r w)
    serve_first_balances k root None r w h = kept_same p w w _ refl refl
    serve_first_balances k root (Some f) r w h =
        serves_after w w _ (standing_focus p f) (serve K k root f w) (kept_equal p w w _ _ _ _ refl (sym (focus_stands 0 r f h)) (kept_same p w w (standing p r) refl refl)) (serve_balances k root f w)

    unserved_stands : (r : Residual) (x : Unserved) → unserved r ≡ Some x → standing p r ≡ standing p x.inner
    unfolding standing
    unserved_stands (InAsync s false r) x e = inner e
      where
        inner : Some (record { stmt = s; inner = r }) ≡ Some x → standing p r ≡ standing p x.inner
        inner h = ap (λ o. elim o [ None ↦ 0 | Some y ↦ standing p y.inner ]) h
    unserved_stands (InAsync s true r) x e = absurd (cc)
    unserved_stands (Run m b) x e = absurd (cc)
    unserved_stands Over x e = absurd (cc)
    unserved_stands (WaitInput k s) x e = absurd (cc)
    unserved_stands (WaitTime k s) x e = absurd (cc)
    unserved_stands (WaitEvent k s) x e = absurd (cc)
    unserved_stands (WaitForever s) x e = absurd (cc)
    unserved_stands (Block b fin all r rest) x e = absurd (cc)
    unserved_stands (Open s r) x e = absurd (cc)
    unserved_stands (Loop s c r) x e = absurd (cc)
    unserved_stands (Call s r) x e = absurd (cc)
    unserved_stands (Par s bs) x e = absurd (cc)

    beside : (g : Focus Unserved) (w u : World) (m n k : ℕ) → m + standing_focus p g ≡ k → Kept p w m u n → Kept p w k u (standing_focus p g + n)
    beside g w u m n k e h = kept_equal p w u (m + standing_focus p g) (n + standing_focus p g) k _ e (omega arith) (record { counts = λ z. omega (arith, h.counts z); fine = h.fine; at_most = (let b = h.at_most in omega (arith, b)) })

    after_balances : (k : ℕ) (g : Focus Unserved) (x : Served) (r : Residual) (w : World) → Found Unserved unserved r g → Serves w (standing p (leaf g).inner) x → Comes w (standing p r) (after_serving K k g x r w)
    unfolding standing
    after_balances k g x r w h = go x
      where
        whole : standing p (leaf g).inner + standing_focus p g ≡ standing p r
        whole = let a = plug_stands p g h.was in let b = unserved_stands h.was (leaf g) h.picked in let c = ap (standing p) h.plugs in omega (arith, a, b, c)

        go : (x : Served) → Serves w (standing p (leaf g).inner) x → Comes w (standing p r) (after_serving K k g x r w)
        go Unfinished a = kept_same p w w _ refl refl
        go (Turned q u) a = kept_equal p w u _ _ _ _ refl (sym (plug_stands p g (InAsync (leaf g).stmt true q))) (beside g w u _ _ _ whole a)
        go (Done u) a =
            kept_then p w u _ _ (standing_focus p g + 0) _ (beside g w u _ _ _ whole a)
            (reacts_comes k _ _ u (plug_stands p g (Run 0 (Finish (leaf g).stmt (pos 0)))))
        go (Failed e q u) a =
            kept_then p w u _ _ (standing p (plug g (InAsync (leaf g).stmt true q))) _ (kept_equal p w u _ _ _ _ refl (sym (plug_stands p g (InAsync (leaf g).stmt true q))) (beside g w u _ _ _ whole a))
            (faulted_comes u e (plug g (InAsync (leaf g).stmt true q)))

    served_balances : (k : ℕ) (o : Option (Focus Unserved)) (r : Residual) (w : World) → FoundIn Unserved unserved r o → Comes w (standing p r) (served K k o r w)
    served_balances k None r w h = kept_same p w w _ refl refl
    served_balances k (Some g) r w h =
        after_balances k g _ r w h (serve_first_balances k (body_of g Program) (choose Act (runs_at 0) (leaf g).inner) (leaf g).inner w (choose_found Act (runs_at 0) (leaf g).inner))

    idle_turn_balances : (k : ℕ) (c : Config) → Balances c (idle_turn K k c)
    idle_turn_balances k (Waiting r w) = go (choose Unserved unserved r) (choose_found Unserved unserved r)
      where
        again : Residual
        again = each_leaf new_round r

        go : (o : Option (Focus Unserved)) → FoundIn Unserved unserved r o → Balances (Waiting r w) (elim o [ Some g ↦ served K k (Some g) r w | None ↦ served K k (choose Unserved unserved again) again w ])
        go (Some g) h = served_balances k (Some g) r w h
        go None h =
            kept_then p w w _ _ (standing p again) _ (kept_equal p w w _ _ _ _ refl (sym (each_stands p new_round new_round_keeps r)) (kept_same p w w (standing p r) refl refl))
            (served_balances k (choose Unserved unserved again) again w (choose_found Unserved unserved again))
    idle_turn_balances k (Turning n f w) = balances (Turning n f w)
    idle_turn_balances k (Between n r w) = balances (Between n r w)
    idle_turn_balances k (Ended x w) = balances (Ended x w)
    idle_turn_balances k (Faulted e w) = balances (Faulted e w)

    idle_turns_balance : (k j : ℕ) (c : Config) → Balances c (idle_turns K k j c)
    idle_turns_balance k zero c = balances c
    idle_turns_balance k (suc j) c = balances_then c (idle_turn K k c) _ (idle_turn_balances k c) (idle_turns_balance k j (idle_turn K k c))

    done_balances : (k : ℕ) (x : Command) (c : Config) → Balances c (done K k x c)
    unfolding done
    done_balances k (Input event v) c = input_balances k event v c
    done_balances k (Advance us) c = advance_balances k (us + 1) us c
    done_balances k (Idle j) c = idle_turns_balance k j c

    all_balance : (k : ℕ) (xs : List Command) (c : Config) → Balances c (all_done K k xs c)
    unfolding all_done
    all_balance k [] c = balances c
    all_balance k (x ∷ xs) c = balances_then c (done K k x c) _ (done_balances k x c) (all_balance k xs (done K k x c))

    run_comes : (k : ℕ) (xs : List Command) → Comes empty_world 0 (run K k xs)
    unfolding run standing
    run_comes k xs = kept_then p empty_world (world_of (steps K k (booted K))) _ 0 _ _ (steps_balance k (booted K)) (all_balance k xs (steps K k (booted K)))

pub finalizers_balance : FinalizersBalance
finalizers_balance K n xs p h = let a = (run_comes p K n xs).counts h in omega (arith, a)

pub finalizers_at_most : FinalizersAtMost
finalizers_at_most K n xs p = let a = (run_comes p K n xs).at_most in omega (arith, a)
