-- A larger bound changes nothing once a run is over.
use Rattle.std.proofs.Common.{◌≡◌, refl, sym, ap, ◌∙◌, ℕ, zero, suc, ◌+◌, ◌-◌, ◌≤◌, ℤ, Bool, true, false, nat_le, List, [], ◌∷◌, Option, Some, None, arith}
use Rattle.ceu_tree.specs.declared.command.Command.{Command}
use Rattle.ceu_tree.specs.declared.command.Command.TheVariants.{Input, Advance, Idle}
use Rattle.ceu_tree.specs.declared.kernel.Kernel.{Kernel}
use Rattle.ceu_tree.specs.Residual.{Body, Program, Act, Again, Residual, Run}
use Rattle.ceu_tree.specs.Focus.{Focus, plug, leaf, body_of, choose}
use Rattle.ceu_tree.specs.World.{World}
use Rattle.ceu_tree.specs.Wake.{each_leaf, leaves, runs_at, later, by_time, least_time, Unserved, unserved, new_round}
use Rattle.ceu_tree.specs.Around.{Outcome, Goes, Rests, Raises, Fails, Past, Registers, AtBlockEnd, AtLoopHead, Ends, Leaves}
use Rattle.ceu_tree.specs.Step.{stepped}
use Rattle.ceu_tree.specs.Run.{Config, Turning, Between, Waiting, Ended, Faulted, is_reacting, next, steps, reacts, input, advance, is_again, Served, Unfinished, Turned, Done, Failed, serve, serve_first, after_serving, served, idle_turn, idle_turns, done, all_done, booted, run, world_of, status_of}
use Rattle.laws_meaning_basics.specs.Steps.{ReactionsStand, RunsStand, OneOutcome}

-- an async's turn that is cut off
abbrev is_cut : Served → Bool
is_cut Unfinished = true
is_cut _ = false

over_stays : (K : Kernel) (k : ℕ) (c : Config) → is_reacting c ≡ false → steps K k c ≡ c
unfolding steps
over_stays K zero c e = refl
over_stays K (suc k) (Waiting r w) e = refl
over_stays K (suc k) (Ended v w) e = refl
over_stays K (suc k) (Faulted x w) e = refl
over_stays K (suc k) (Turning n f w) e = absurd (cc)
over_stays K (suc k) (Between n r w) e = absurd (cc)

pub steps_stand : ReactionsStand
unfolding steps
steps_stand K zero k c h e = over_stays K k c e
steps_stand K (suc n) zero c h e = absurd (omega (arith, h))
steps_stand K (suc n) (suc k) (Turning l f w) h e = steps_stand K n k (next K (Turning l f w)) (omega (arith, h)) e
steps_stand K (suc n) (suc k) (Between l r w) h e = steps_stand K n k (next K (Between l r w)) (omega (arith, h)) e
steps_stand K (suc n) (suc k) (Waiting r w) h e = refl
steps_stand K (suc n) (suc k) (Ended v w) h e = refl
steps_stand K (suc n) (suc k) (Faulted x w) h e = refl

module _ (K : Kernel) where
  -- ---- a reaction that is cut off stays as it is

  advance_stays : (n j d : ℕ) (c : Config) → is_reacting c ≡ true → advance K n j d c ≡ c
  unfolding advance
  advance_stays n zero d c e = refl
  advance_stays n (suc j) d (Turning l f w) e = refl
  advance_stays n (suc j) d (Between l r w) e = refl
  advance_stays n (suc j) d (Waiting r w) e = absurd (cc)
  advance_stays n (suc j) d (Ended v w) e = refl
  advance_stays n (suc j) d (Faulted x w) e = refl

  idle_stays : (n : ℕ) (c : Config) → is_reacting c ≡ true → idle_turn K n c ≡ c
  idle_stays n (Turning l f w) e = refl
  idle_stays n (Between l r w) e = refl
  idle_stays n (Waiting r w) e = absurd (cc)
  idle_stays n (Ended v w) e = refl
  idle_stays n (Faulted x w) e = refl

  idles_stay : (n j : ℕ) (c : Config) → is_reacting c ≡ true → idle_turns K n j c ≡ c
  idles_stay n zero c e = refl
  idles_stay n (suc j) c e = ap (idle_turns K n j) (idle_stays n c e) ∙ idles_stay n j c e

  done_stays : (n : ℕ) (x : Command) (c : Config) → is_reacting c ≡ true → done K n x c ≡ c
  unfolding done
  done_stays n (Input event v) (Turning l f w) e = refl
  done_stays n (Input event v) (Between l r w) e = refl
  done_stays n (Input event v) (Waiting r w) e = absurd (cc)
  done_stays n (Input event v) (Ended y w) e = refl
  done_stays n (Input event v) (Faulted y w) e = refl
  done_stays n (Advance us) c e = advance_stays n (us + 1) us c e
  done_stays n (Idle j) c e = idles_stay n j c e

  all_stay : (n : ℕ) (xs : List Command) (c : Config) → is_reacting c ≡ true → all_done K n xs c ≡ c
  unfolding all_done
  all_stay n [] c e = refl
  all_stay n (x ∷ xs) c e = ap (all_done K n xs) (done_stays n x c e) ∙ all_stay n xs c e

  -- what goes on from a configuration that isn't cut off goes on in the same way from its like
  module _ (n k : ℕ) (h : n ≤ k) where
    -- from a reaction with each of the bounds to what follows it
    linked : (c d : Config) (f g : Config → Config) → (is_reacting c ≡ false → d ≡ c) → ((x : Config) → is_reacting x ≡ true → f x ≡ x) → ((x : Config) → is_reacting (f x) ≡ false → g x ≡ f x)
        → is_reacting (f c) ≡ false → g d ≡ f c
    linked c d f g same stays goes e = go (is_reacting c) refl
      where
        go : (b : Bool) → is_reacting c ≡ b → g d ≡ f c
        go true r = let a = stays c r in let b = ap is_reacting a in absurd (cc)
        go false r = ap g (same r) ∙ goes c e

    reacts_stand : (r : Residual) (w : World) → is_reacting (reacts K n r w) ≡ false → reacts K k r w ≡ reacts K n r w
    reacts_stand r w e = steps_stand K n k (Between 0 r w) h e

    input_stands : (event : ℕ) (v : ℤ) (c : Config) → is_reacting (input K n event v c) ≡ false → input K k event v c ≡ input K n event v c
    input_stands event v (Waiting r w) e = reacts_stand _ w e
    input_stands event v (Turning l f w) e = refl
    input_stands event v (Between l r w) e = refl
    input_stands event v (Ended x w) e = refl
    input_stands event v (Faulted x w) e = refl

    advance_stands : (j d : ℕ) (c : Config) → is_reacting (advance K n j d c) ≡ false → advance K k j d c ≡ advance K n j d c
    unfolding advance
    advance_stands zero d c e = refl
    advance_stands (suc j) d (Waiting r w) e = go (least_time (leaves r)) (λ m c. advance_stands j (d - m) c) e
      where
        timed : ℕ → ℕ → Config
        timed b m = reacts K b (each_leaf (by_time (d - m)) (each_leaf (later m) r)) w

        go : (o : Option ℕ) → ((m : ℕ) (c : Config) → is_reacting (advance K n j (d - m) c) ≡ false → advance K k j (d - m) c ≡ advance K n j (d - m) c)
            → is_reacting (elim o [ None ↦ Waiting r w | Some m ↦ elim (nat_le m d) [ true ↦ advance K n j (d - m) (timed n m) | false ↦ Waiting (each_leaf (later d) r) w ] ]) ≡ false
            → ◌≡◌ {A = Config} (elim o [ None ↦ Waiting r w | Some m ↦ elim (nat_le m d) [ true ↦ advance K k j (d - m) (timed k m) | false ↦ Waiting (each_leaf (later d) r) w ] ])
            (elim o [ None ↦ Waiting r w | Some m ↦ elim (nat_le m d) [ true ↦ advance K n j (d - m) (timed n m) | false ↦ Waiting (each_leaf (later d) r) w ] ])
        go None ih e = refl
        go (Some m) ih e = inner (nat_le m d) e
          where
            inner : (b : Bool) → is_reacting (elim b [ true ↦ advance K n j (d - m) (timed n m) | false ↦ Waiting (each_leaf (later d) r) w ]) ≡ false
                → ◌≡◌ {A = Config} (elim b [ true ↦ advance K k j (d - m) (timed k m) | false ↦ Waiting (each_leaf (later d) r) w ])
                (elim b [ true ↦ advance K n j (d - m) (timed n m) | false ↦ Waiting (each_leaf (later d) r) w ])
            inner true e = linked (timed n m) (timed k m) (advance K n j (d - m)) (advance K k j (d - m)) (reacts_stand _ w) (advance_stays n j (d - m)) (ih m) e
            inner false e = refl
    advance_stands (suc j) d (Turning l f w) e = refl
    advance_stands (suc j) d (Between l r w) e = refl
    advance_stands (suc j) d (Ended x w) e = refl
    advance_stands (suc j) d (Faulted x w) e = refl

    serve_stands : (n k : ℕ) (root : Body) (f : Focus Act) (w : World) → n ≤ k → is_cut (serve K n root f w) ≡ false → serve K k root f w ≡ serve K n root f w
    unfolding serve
    serve_stands zero k root f w h e = absurd (cc)
    serve_stands (suc n) zero root f w h e = absurd (omega (arith, h))
    serve_stands (suc n) (suc k) root f w h e = go (stepped K 0 root f w).outcome (λ g. serve_stands n k root g u (omega (arith, h))) e
      where
        u : World
        u = (stepped K 0 root f w).world

        found : ℕ → Outcome → Served
        found b x = elim x [
          | Goes g ↦ elim (is_again (leaf g)) [ true ↦ Turned (plug g (Run 0 Again)) u | false ↦ serve K b root g u ]
          | Fails e r ↦ Failed e r u
          | Rests r ↦ Turned r u
          | Raises r ↦ Turned r u
          | _ ↦ Done u
        ]

        go : (x : Outcome) → ((g : Focus Act) → is_cut (serve K n root g u) ≡ false → serve K k root g u ≡ serve K n root g u) → is_cut (found n x) ≡ false → found k x ≡ found n x
        go (Goes g) ih e = inner (is_again (leaf g)) e
          where
            inner : (b : Bool) → is_cut (elim b [ true ↦ Turned (plug g (Run 0 Again)) u | false ↦ serve K n root g u ]) ≡ false
                → ◌≡◌ {A = Served} (elim b [ true ↦ Turned (plug g (Run 0 Again)) u | false ↦ serve K k root g u ]) (elim b [ true ↦ Turned (plug g (Run 0 Again)) u | false ↦ serve K n root g u ])
            inner true e = refl
            inner false e = ih g e
        go (Fails x r) ih e = refl
        go (Rests r) ih e = refl
        go (Raises r) ih e = refl
        go (Ends v) ih e = refl
        go Past ih e = refl
        go (Registers s) ih e = refl
        go AtBlockEnd ih e = refl
        go AtLoopHead ih e = refl
        go (Leaves node x) ih e = refl

    first_stands : (root : Body) (o : Option (Focus Act)) (r : Residual) (w : World) → is_cut (serve_first K n root o r w) ≡ false → serve_first K k root o r w ≡ serve_first K n root o r w
    first_stands root None r w e = refl
    first_stands root (Some f) r w e = serve_stands n k root f w h e

    after_stands : (g : Focus Unserved) (x y : Served) (r : Residual) (w : World) → (is_cut x ≡ false → y ≡ x) → is_reacting (after_serving K n g x r w) ≡ false
        → after_serving K k g y r w ≡ after_serving K n g x r w
    after_stands g Unfinished y r w same e = absurd (cc)
    after_stands g (Turned q u) y r w same e = ap (λ z. after_serving K k g z r w) (same refl)
    after_stands g (Failed x q u) y r w same e = ap (λ z. after_serving K k g z r w) (same refl)
    after_stands g (Done u) y r w same e = ap (λ z. after_serving K k g z r w) (same refl) ∙ reacts_stand _ u e

    served_stands : (o : Option (Focus Unserved)) (r : Residual) (w : World) → is_reacting (served K n o r w) ≡ false → served K k o r w ≡ served K n o r w
    served_stands None r w e = refl
    served_stands (Some g) r w e =
        after_stands g _ _ r w (first_stands (body_of g Program) (choose Act (runs_at 0) (leaf g).inner) (leaf g).inner w) e

    idle_stands : (c : Config) → is_reacting (idle_turn K n c) ≡ false → idle_turn K k c ≡ idle_turn K n c
    idle_stands (Waiting r w) e = go (choose Unserved unserved r) e
      where
        again : Residual
        again = each_leaf new_round r

        go : (o : Option (Focus Unserved)) → is_reacting (elim o [ Some g ↦ served K n (Some g) r w | None ↦ served K n (choose Unserved unserved again) again w ]) ≡ false
            → ◌≡◌ {A = Config} (elim o [ Some g ↦ served K k (Some g) r w | None ↦ served K k (choose Unserved unserved again) again w ])
            (elim o [ Some g ↦ served K n (Some g) r w | None ↦ served K n (choose Unserved unserved again) again w ])
        go (Some g) e = served_stands (Some g) r w e
        go None e = served_stands (choose Unserved unserved again) again w e
    idle_stands (Turning l f w) e = refl
    idle_stands (Between l r w) e = refl
    idle_stands (Ended x w) e = refl
    idle_stands (Faulted x w) e = refl

    idles_stand : (j : ℕ) (c : Config) → is_reacting (idle_turns K n j c) ≡ false → idle_turns K k j c ≡ idle_turns K n j c
    idles_stand zero c e = refl
    idles_stand (suc j) c e = linked (idle_turn K n c) (idle_turn K k c) (idle_turns K n j) (idle_turns K k j) (idle_stands c) (idles_stay n j) (idles_stand j) e

    done_stands : (x : Command) (c : Config) → is_reacting (done K n x c) ≡ false → done K k x c ≡ done K n x c
    unfolding done
    done_stands (Input event v) c e = input_stands event v c e
    done_stands (Advance us) c e = advance_stands (us + 1) us c e
    done_stands (Idle j) c e = idles_stand j c e

    all_stand : (xs : List Command) (c : Config) → is_reacting (all_done K n xs c) ≡ false → all_done K k xs c ≡ all_done K n xs c
    unfolding all_done
    all_stand [] c e = refl
    all_stand (x ∷ xs) c e = linked (done K n x c) (done K k x c) (all_done K n xs) (all_done K k xs) (done_stands x c) (all_stay n xs) (all_stand xs) e

pub runs_stand : RunsStand
unfolding run
runs_stand K n k xs h e =
    linked K n k h (steps K n (booted K)) (steps K k (booted K)) (all_done K n xs) (all_done K k xs) (steps_stand K n k (booted K) h) (all_stay K n xs) (all_stand K n k h xs) e

-- two runs of one list of commands that are over are one
one_config : (K : Kernel) (xs : List Command) (n k : ℕ) → is_reacting (run K n xs) ≡ false → is_reacting (run K k xs) ≡ false → run K n xs ≡ run K k xs
one_config K xs n k a b = sym (runs_stand K n (n + k) xs (omega arith) a) ∙ runs_stand K k (n + k) xs (omega arith) b

pub one_outcome : OneOutcome
one_outcome K xs ms ns s t a b =
    let e = one_config K xs a.bound b.bound a.over b.over in
    record { 0 = sym a.marks_are ∙ ap (λ c. (world_of c).marks) e ∙ b.marks_are; 1 = sym a.status_is ∙ ap status_of e ∙ b.status_is }
