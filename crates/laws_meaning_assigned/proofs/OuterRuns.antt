-- Reactions, commands and runs keep the program's variables that the code of each instance names set.
use Rattle.std.proofs.Common.{◌≡◌, refl, sym, ap, ◌∙◌, subst, ℕ, zero, suc, ◌+◌, ◌-◌, ℤ, pos, min, nat_le, Bool, true, false, if◌then◌else◌, ◌==◌, List, [], ◌∷◌, Option, Some, None, arith}
use Rattle.std.specs.List.{list_all}
use Rattle.std.proofs.lemmas.Bool.{false≢true}
use Rattle.ceu_base.specs.declared.kinds.Pos.{Pos}
use Rattle.ceu_base.specs.declared.kinds.Fault.{Fault}
use Rattle.ceu_tree.specs.declared.command.Command.{Command}
use Rattle.ceu_tree.specs.declared.command.Command.TheVariants.{Input, Advance, Idle}
use Rattle.ceu_tree.specs.declared.kernel.Kernel.{Kernel}
use Rattle.ceu_tree.specs.declared.kernel.KBlock.{KBlock}
use Rattle.ceu_tree.specs.declared.kernel.KStmt.{out-KStmt}
use Rattle.ceu_tree.specs.declared.kernel.KStmt.TheOpen.{KStmt-F}
use Rattle.ceu_tree.specs.Residual.{Body, Program, Act, Finish, Residual, Over, Run, WaitInput, WaitTime, InAsync}
use Rattle.ceu_tree.specs.Focus.{Focus, Here, In, plug, leaf, body_of, choose}
use Rattle.ceu_tree.specs.World.{World}
use Rattle.ceu_tree.specs.Wake.{each_leaf, leaves, runs_at, by_input, later, by_time, least_time, Unserved, unserved, new_round}
use Rattle.ceu_tree.specs.Around.{Outcome, Goes, Rests, Raises, Fails, Past, Registers, AtBlockEnd, AtLoopHead, Ends, Leaves}
use Rattle.ceu_tree.specs.Step.{stepped}
use Rattle.ceu_tree.specs.Legal.{Seated, is_set, program_done, outer_set, seats}
use Rattle.ceu_tree.specs.Proper.{Scope, is_proper}
use Rattle.ceu_tree.specs.Run.{Config, Turning, Between, Waiting, Ended, Faulted, config_of, unless_failed, chosen_at, next, steps, booted, reacts, input, advance, Served, Unfinished, Turned, Done, Failed, serve_first, after_serving, served, idle_turn, idle_turns, done, all_done, run}
use Rattle.laws_meaning_basics.proofs.FocusBalance.{FoundIn, choose_found}
use Rattle.laws_meaning_basics.specs.Shape.{Part, AStatement, program_part, pauses, Fits, to_finish, around_statement, around_end, around_instance, Around, nothing_around, one_around, ConfigFits}
use Rattle.laws_meaning_basics.proofs.Fits.{around_raised, plug_fits}
use Rattle.laws_meaning_basics.proofs.Leaves.{leaves_fit, by_input_fits, by_time_fits, later_fits, round_fits}
use Rattle.laws_meaning_basics.proofs.Choice.{ChoiceFits, choice_fits}
use Rattle.laws_meaning_basics.proofs.RunFits.{next_fits, steps_fit, booted_fits, async_leaf, idle_turn_fits, done_fits}
use Rattle.laws_meaning_slots.proofs.Seats.{Calm, each_seat, plug_seats, unplug_seats, leaves_seats}
use Rattle.laws_meaning_assigned.specs.Outer.{OuterSet, OuterStands}
use Rattle.laws_meaning_assigned.proofs.OuterSteps.{moves_to, same_top, leaves_top, OutOuter, stepped_outer}

-- ---- leaves that become others

module _ (P : Seated → Type 0) where
  either : (t : Bool) (p q : Residual) (body : Body) → each_seat P p body → each_seat P q body → each_seat P (if t then p else q) body
  either true p q body h k = h
  either false p q body h k = k

  input_calm : (event : ℕ) (v : ℤ) → Calm P (by_input event v)
  unfolding each_seat
  input_calm event v (WaitInput k s) body h = either (k == event) (Run 0 (Finish s v)) (WaitInput k s) body tt tt
  input_calm event v r body h = h

  time_calm : (d : ℕ) → Calm P (by_time d)
  unfolding each_seat
  time_calm d (WaitTime left s) body h = either (left == 0) (Run 0 (Finish s (pos (min d 2147483647)))) (WaitTime left s) body tt tt
  time_calm d r body h = h

  later_calm : (d : ℕ) → Calm P (later d)
  unfolding each_seat
  later_calm d (WaitTime left s) body h = tt
  later_calm d r body h = h

  round_calm : Calm P new_round
  unfolding each_seat
  round_calm (InAsync s b r) body h = tt
  round_calm r body h = h

module _ (K : Kernel) where
  abbrev Still : (Residual → Residual) → Type 0
  Still c = (y : Residual) (x : ℕ) → is_set (program_done K.body y) x ≡ true → is_set (program_done K.body (c y)) x ≡ true

  input_still : (event : ℕ) (v : ℤ) → Still (by_input event v)
  input_still event v (WaitInput k s) x h = absurd (false≢true h)
  input_still event v y x h = h

  time_still : (d : ℕ) → Still (by_time d)
  time_still d (WaitTime left s) x h = absurd (false≢true h)
  time_still d y x h = h

  later_still : (d : ℕ) → Still (later d)
  later_still d (WaitTime left s) x h = absurd (false≢true h)
  later_still d y x h = h

  round_still : Still new_round
  round_still (InAsync s b r) x h = absurd (false≢true h)
  round_still y x h = h

  leaves_outer : (c : Residual → Residual) (r : Residual) → ((P : Seated → Type 0) → Calm P c) → Still c → OuterSet K r → OuterSet K (each_leaf c r)
  leaves_outer c r calm still h = moves_to K r (each_leaf c r) (leaves_top K c r still) (λ u. leaves_seats (λ y. outer_set K (each_leaf c r) y ≡ true) c (calm (λ y. outer_set K (each_leaf c r) y ≡ true)) r Program u) h

  -- of a focus around a leaf, which has set nothing
  top_back : {A : Type 0} {t : ℕ} (f : Focus A) (e : Part) (q : Residual) → Around K t A f (program_part K) e → program_done K.body q ≡ [] → (x : ℕ) → is_set (program_done K.body (plug f q)) x ≡ true → is_set (program_done K.body (plug f Over)) x ≡ true
  top_back (Here a) e q nothing_around z x h = absurd (false≢true (sym (ap (λ l. is_set l x) z) ∙ h))
  top_back (In fr f) e q (one_around (around_statement done y i all) more) z x h = h
  top_back (In fr f) e q (one_around (around_end y all) more) z x h = h
  top_back (In fr f) e q (one_around (around_instance done k y i fit u v p g) more) z x h = h

  runs_done : (n : ℕ) (r : Residual) (a : Act) → runs_at n r ≡ Some a → program_done K.body r ≡ []
  runs_done n (Run m c) a e = refl
  runs_done n r a e = absurd (cc)

  async_done : (r : Residual) (y : Unserved) → unserved r ≡ Some y → program_done K.body r ≡ []
  async_done (InAsync s false r) y e = refl
  async_done r y e = absurd (cc)

module _ (K : Kernel) (proper : is_proper K ≡ true) where
  -- ---- a step of a reaction

  config_outer : (n : ℕ) (y : Outcome) (w : World) → OutOuter K proper n y → OuterStands K (config_of n y w)
  unfolding seats
  config_outer n (Goes g) w h = h
  config_outer n (Rests r) w h = h
  config_outer n (Raises r) w h = h
  config_outer n (Fails e r) w h = tt
  config_outer n (Ends v) w h = tt
  config_outer n Past w h = refl
  config_outer n (Registers s) w h = refl
  config_outer n AtBlockEnd w h = refl
  config_outer n AtLoopHead w h = refl
  config_outer n (Leaves node z) w h = refl

  unless_outer : (w : World) (c : Config) → OuterStands K c → OuterStands K (unless_failed w c)
  unless_outer w c h = go w.fault
    where
      go : (o : Option (Fault × Pos)) → OuterStands K (elim o [ Some e ↦ Faulted e w | None ↦ c ])
      go None = h
      go (Some e) = tt

  chosen_outer : (n : ℕ) (r : Residual) (w : World) (o : Option (Focus Act)) → ChoiceFits K (suc n) Act (runs_at n) (program_part K) o → FoundIn Act (runs_at n) r o → OuterSet K r → OuterStands K (chosen_at n o r w)
  unfolding each_seat
  chosen_outer zero r w None c x h = h
  chosen_outer (suc n) r w None c x h = h
  chosen_outer n r w (Some f) c x h =
      let P : Seated → Type 0 = λ y. outer_set K (plug f Over) y ≡ true in
      moves_to K r (plug f Over) (λ y m. top_back K f c.part x.was c.around (runs_done K n x.was (leaf f) x.picked) y (subst (λ q. is_set (program_done K.body q) y ≡ true) (sym x.plugs) m))
      (λ u. plug_seats P f Over Program (unplug_seats P f x.was Program (subst (λ q. each_seat P q Program) (sym x.plugs) u)).0 tt) h

  pub next_outer : (c : Config) → ConfigFits K c → OuterStands K c → OuterStands K (next K c)
  unfolding next
  next_outer (Turning n f w) t h = let m = stepped K n Program f w in unless_outer m.world (config_of n m.outcome m.world) (config_outer n m.outcome m.world (stepped_outer K proper n f t h w))
  next_outer (Between n r w) t h = chosen_outer n r w (choose Act (runs_at n) r) (choice_fits K (suc n) Act (runs_at n) t) (choose_found Act (runs_at n) r) h
  next_outer (Waiting r w) t h = h
  next_outer (Ended v w) t h = h
  next_outer (Faulted e w) t h = h

  pub steps_outer : (m : ℕ) (c : Config) → ConfigFits K c → OuterStands K c → OuterStands K (steps K m c)
  unfolding steps
  steps_outer zero c t h = h
  steps_outer (suc m) (Turning n f w) t h = steps_outer m (next K (Turning n f w)) (next_fits K proper (Turning n f w) t) (next_outer (Turning n f w) t h)
  steps_outer (suc m) (Between n r w) t h = steps_outer m (next K (Between n r w)) (next_fits K proper (Between n r w) t) (next_outer (Between n r w) t h)
  steps_outer (suc m) (Waiting r w) t h = h
  steps_outer (suc m) (Ended v w) t h = h
  steps_outer (suc m) (Faulted e w) t h = h

  -- ---- commands

  input_outer : (m event : ℕ) (v : ℤ) (c : Config) → ConfigFits K c → OuterStands K c → OuterStands K (input K m event v c)
  input_outer m event v (Waiting r w) t h =
      steps_outer m (Between 0 (each_leaf (by_input event v) r) w) (leaves_fit K 0 1 (by_input event v) (by_input_fits K event v) t) (leaves_outer K (by_input event v) r (λ P. input_calm P event v) (input_still K event v) h)
  input_outer m event v (Turning n f w) t h = h
  input_outer m event v (Between n r w) t h = h
  input_outer m event v (Ended y w) t h = h
  input_outer m event v (Faulted e w) t h = h

  advance_outer : (k j d : ℕ) (c : Config) → ConfigFits K c → OuterStands K c → OuterStands K (advance K k j d c)
  unfolding advance
  advance_outer k zero d c t h = h
  advance_outer k (suc j) d (Waiting r w) t h = go (least_time (leaves r)) (λ m. advance_outer k j (d - m) (timed m) (timed_fits m) (timed_outer m))
    where
      timed : ℕ → Config
      timed m = reacts K k (each_leaf (by_time (d - m)) (each_leaf (later m) r)) w

      fits : (m : ℕ) → Fits K 1 (program_part K) (each_leaf (by_time (d - m)) (each_leaf (later m) r))
      fits m = leaves_fit K 0 1 (by_time (d - m)) (by_time_fits K (d - m)) (leaves_fit K 0 0 (later m) (later_fits K m) t)

      timed_fits : (m : ℕ) → ConfigFits K (timed m)
      timed_fits m = steps_fit K proper k (Between 0 (each_leaf (by_time (d - m)) (each_leaf (later m) r)) w) (fits m)

      timed_outer : (m : ℕ) → OuterStands K (timed m)
      timed_outer m =
          steps_outer k (Between 0 (each_leaf (by_time (d - m)) (each_leaf (later m) r)) w) (fits m)
          (leaves_outer K (by_time (d - m)) (each_leaf (later m) r) (λ P. time_calm P (d - m)) (time_still K (d - m)) (leaves_outer K (later m) r (λ P. later_calm P m) (later_still K m) h))

      go : (o : Option ℕ) → ((m : ℕ) → OuterStands K (advance K k j (d - m) (timed m))) → OuterStands K (elim o [
        | None ↦ Waiting r w
        | Some m ↦ elim (nat_le m d) [
          | true ↦ advance K k j (d - m) (timed m)
          | false ↦ Waiting (each_leaf (later d) r) w
        ]
      ])
      go None ih = h
      go (Some m) ih = inner (nat_le m d)
        where
          inner : (b : Bool) → OuterStands K (elim b [ true ↦ advance K k j (d - m) (timed m) | false ↦ Waiting (each_leaf (later d) r) w ])
          inner true = ih m
          inner false = leaves_outer K (later d) r (λ P. later_calm P d) (later_still K d) h
  advance_outer k (suc j) d (Turning n f w) t h = h
  advance_outer k (suc j) d (Between n r w) t h = h
  advance_outer k (suc j) d (Ended y w) t h = h
  advance_outer k (suc j) d (Faulted e w) t h = h

  -- an async has no instances, and another leaf in its place has none either
  replaced : (g : Focus Unserved) (e : Part) (r was q : Residual) → Around K 0 Unserved g (program_part K) e → plug g was ≡ r → program_done K.body was ≡ [] → ((P : Seated → Type 0) (body : Body) → each_seat P q body) → OuterSet K r → OuterSet K (plug g q)
  replaced g e r was q a z y inside h =
      let P : Seated → Type 0 = λ s. outer_set K (plug g q) s ≡ true in
      moves_to K r (plug g q) (λ x m. same_top K g e Over q a x (top_back K g e was a y x (subst (λ v. is_set (program_done K.body v) x ≡ true) (sym z) m)))
      (λ u. plug_seats P g q Program (unplug_seats P g was Program (subst (λ v. each_seat P v Program) (sym z) u)).0 (inside P (body_of g Program))) h

  after_outer : (k : ℕ) (g : Focus Unserved) (y : Served) (r was : Residual) (w : World) (sc : Scope) (c : KBlock) → Around K 0 Unserved g (program_part K) (AStatement sc (leaf g).stmt) → out-KStmt (leaf g).stmt.stmt ≡ KStmt-F.Async c → plug g was ≡ r
      → program_done K.body was ≡ [] → OuterSet K r → OuterStands K (after_serving K k g y r w)
  unfolding each_seat
  after_outer k g Unfinished r was w sc c a e z d h = h
  after_outer k g (Turned q u) r was w sc c a e z d h = replaced g (AStatement sc (leaf g).stmt) r was (InAsync (leaf g).stmt true q) a z d (λ P body. tt) h
  after_outer k g (Done u) r was w sc c a e z d h =
      steps_outer k (Between 0 (plug g (Run 0 (Finish (leaf g).stmt (pos 0)))) u) (plug_fits K (around_raised K {t = 0} {u = 1} (omega arith) a) (to_finish (omega arith) (ap pauses e)))
      (replaced g (AStatement sc (leaf g).stmt) r was (Run 0 (Finish (leaf g).stmt (pos 0))) a z d (λ P body. tt) h)
  after_outer k g (Failed y q u) r was w sc c a e z d h = tt

  served_outer : (k : ℕ) (o : Option (Focus Unserved)) (r : Residual) (w : World) → ChoiceFits K 0 Unserved unserved (program_part K) o → FoundIn Unserved unserved r o → OuterSet K r → OuterStands K (served K k o r w)
  served_outer k None r w t f h = h
  served_outer k (Some g) r w t f h =
      let l = async_leaf K proper t.part t.was (leaf g) t.fits t.picked in
      after_outer k g (serve_first K k (body_of g Program) (choose Act (runs_at 0) (leaf g).inner) (leaf g).inner w) r f.was w l.scope l.block (subst (Around K 0 Unserved g (program_part K)) l.is t.around) l.layer f.plugs (async_done K f.was (leaf g) f.picked) h

  idle_turn_outer : (k : ℕ) (c : Config) → ConfigFits K c → OuterStands K c → OuterStands K (idle_turn K k c)
  idle_turn_outer k (Waiting r w) t h = go (choose Unserved unserved r) (choice_fits K 0 Unserved unserved t) (choose_found Unserved unserved r)
    where
      again : Residual
      again = each_leaf new_round r

      go : (o : Option (Focus Unserved)) → ChoiceFits K 0 Unserved unserved (program_part K) o → FoundIn Unserved unserved r o → OuterStands K (elim o [ Some g ↦ served K k (Some g) r w | None ↦ served K k (choose Unserved unserved again) again w ])
      go (Some g) c f = served_outer k (Some g) r w c f h
      go None c f = served_outer k (choose Unserved unserved again) again w (choice_fits K 0 Unserved unserved (leaves_fit K 0 0 new_round (round_fits K) t)) (choose_found Unserved unserved again) (leaves_outer K new_round r round_calm (round_still K) h)
  idle_turn_outer k (Turning n f w) t h = h
  idle_turn_outer k (Between n r w) t h = h
  idle_turn_outer k (Ended y w) t h = h
  idle_turn_outer k (Faulted e w) t h = h

  idle_turns_outer : (k j : ℕ) (c : Config) → ConfigFits K c → OuterStands K c → OuterStands K (idle_turns K k j c)
  idle_turns_outer k zero c t h = h
  idle_turns_outer k (suc j) c t h = idle_turns_outer k j (idle_turn K k c) (idle_turn_fits K proper k c t) (idle_turn_outer k c t h)

  pub done_outer : (k : ℕ) (y : Command) (c : Config) → ConfigFits K c → OuterStands K c → OuterStands K (done K k y c)
  unfolding done
  done_outer k (Input event v) c t h = input_outer k event v c t h
  done_outer k (Advance us) c t h = advance_outer k (us + 1) us c t h
  done_outer k (Idle j) c t h = idle_turns_outer k j c t h

  all_outer : (k : ℕ) (ys : List Command) (c : Config) → ConfigFits K c → OuterStands K c → OuterStands K (all_done K k ys c)
  unfolding all_done
  all_outer k [] c t h = h
  all_outer k (y ∷ ys) c t h = all_outer k ys (done K k y c) (done_fits K proper k y c t) (done_outer k y c t h)

  pub booted_outer : OuterStands K (booted K)
  unfolding seats
  booted_outer = refl

  pub run_outer : (k : ℕ) (ys : List Command) → OuterStands K (run K k ys)
  unfolding run
  run_outer k ys = all_outer k ys (steps K k (booted K)) (steps_fit K proper k (booted K) (booted_fits K proper)) (steps_outer k (booted K) (booted_fits K proper) booted_outer)

  pub run_outer_legal : (k : ℕ) (ys : List Command) (r : Residual) (w : World) → run K k ys ≡ Waiting r w → list_all (outer_set K r) (seats r Program) ≡ true
  run_outer_legal k ys r w e = subst (OuterStands K) e (run_outer k ys)
