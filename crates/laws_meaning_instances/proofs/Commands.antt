-- Commands and runs of a proper kernel keep the instances that live and their places.
use Rattle.std.proofs.Common.{◌≡◌, refl, sym, ap, subst, ℕ, zero, suc, ◌+◌, ◌-◌, ℤ, pos, nat_le, Bool, true, false, if◌then◌else◌, ◌==◌, List, [], ◌∷◌, Option, Some, None, arith}
use Rattle.std.proofs.lemmas.Bool.{false≢true}
use Rattle.ceu_tree.specs.declared.command.Command.{Command}
use Rattle.ceu_tree.specs.declared.command.Command.TheVariants.{Input, Advance, Idle}
use Rattle.ceu_tree.specs.declared.kernel.Kernel.{Kernel}
use Rattle.ceu_tree.specs.declared.kernel.KBlock.{KBlock}
use Rattle.ceu_tree.specs.declared.kernel.KStmt.{out-KStmt}
use Rattle.ceu_tree.specs.declared.kernel.KStmt.TheOpen.{KStmt-F}
use Rattle.ceu_tree.specs.Residual.{Body, Program, Act, Finish, Again, Residual, Run, WaitInput, WaitTime, InAsync}
use Rattle.ceu_tree.specs.Focus.{Focus, plug, leaf, body_of, choose}
use Rattle.ceu_tree.specs.World.{World}
use Rattle.ceu_tree.specs.Wake.{each_leaf, leaves, runs_at, by_input, later, by_time, least_time, Unserved, unserved, new_round}
use Rattle.ceu_tree.specs.Leaf as does
use Rattle.ceu_tree.specs.Leaf.{Does, acted}
use Rattle.ceu_tree.specs.Around.{Outcome, Goes, Rests, Raises, Fails, Past, Registers, AtBlockEnd, AtLoopHead, Ends, Leaves}
use Rattle.ceu_tree.specs.Step.{stepped}
use Rattle.ceu_tree.specs.Proper.{Scope, is_proper}
use Rattle.ceu_tree.specs.Run.{Config, Turning, Between, Waiting, Ended, Faulted, steps, booted, reacts, input, advance, is_again, Served, Unfinished, Turned, Done, Failed, serve, serve_first, after_serving, served, idle_turn, idle_turns, done, all_done, run}
use Rattle.laws_meaning_basics.proofs.FocusBalance.{FoundIn, choose_found}
use Rattle.laws_meaning_basics.specs.Shape.{Part, ABlock, AStatement, program_part, async_scope, pauses, Fits, to_finish, Around, TurnFits, in_trail, Comes, ConfigFits}
use Rattle.laws_meaning_basics.proofs.Fits.{around_raised, plug_fits}
use Rattle.laws_meaning_basics.proofs.Leaves.{leaves_fit, by_input_fits, by_time_fits, later_fits, round_fits}
use Rattle.laws_meaning_basics.proofs.Choice.{ChoiceFits, choice_fits}
use Rattle.laws_meaning_basics.proofs.UpFits.{Sound, layer_of}
use Rattle.laws_meaning_basics.proofs.StepFits.{Closed, around_sound, around_trail, stepped_fits}
use Rattle.laws_meaning_basics.proofs.RunFits.{root_sound, turn_of_chosen, steps_fit, booted_fits, async_leaf, idle_turn_fits, done_fits}
use Rattle.laws_meaning_instances.specs.Instances.{pools_stand}
use Rattle.laws_meaning_instances.proofs.Living.{lives}
use Rattle.laws_meaning_instances.proofs.Trees.{live_focus, focus_stands, plug_lives, plugged, Calm, each_lives, leaves_stand}
use Rattle.laws_meaning_instances.proofs.Up.{left_whole}
use Rattle.laws_meaning_instances.proofs.Places.{OutcomeStands}
use Rattle.laws_meaning_instances.proofs.Rooms.{Room, acted_room}
use Rattle.laws_meaning_instances.proofs.Steps.{SpawnFine, stepped_moves, stepped_stands}
use Rattle.laws_meaning_instances.proofs.Lists.{Counts}
use Rattle.laws_meaning_instances.proofs.Reactions.{ConfigCounts, counts_same, counts_moved, focus_low, chosen_lives, found_stands, steps_counts, booted_counts}

-- ---- changes of leaves

either_lives : (n : ℕ) (b : Bool) (x y : Residual) → lives n x ≡ 0 → lives n y ≡ 0 → lives n (if b then x else y) ≡ 0
either_lives n true x y h k = h
either_lives n false x y h k = k

either_stands : (b : Bool) (x y : Residual) → pools_stand x → pools_stand y → pools_stand (if b then x else y)
either_stands true x y h k = h
either_stands false x y h k = k

pub by_input_calm : (event : ℕ) (v : ℤ) → Calm (by_input event v)
unfolding lives pools_stand
by_input_calm event v = record { counts = count; stands = stand }
  where
    count : (n : ℕ) (r : Residual) → lives n (by_input event v r) ≡ lives n r
    count n (WaitInput k s) = either_lives n (k == event) _ _ refl refl
    count n r = refl

    stand : (r : Residual) → pools_stand r → pools_stand (by_input event v r)
    stand (WaitInput k s) h = either_stands (k == event) _ _ tt tt
    stand r h = h

pub by_time_calm : (d : ℕ) → Calm (by_time d)
unfolding lives pools_stand
by_time_calm d = record { counts = count; stands = stand }
  where
    count : (n : ℕ) (r : Residual) → lives n (by_time d r) ≡ lives n r
    count n (WaitTime left s) = either_lives n (left == 0) _ _ refl refl
    count n r = refl

    stand : (r : Residual) → pools_stand r → pools_stand (by_time d r)
    stand (WaitTime left s) h = either_stands (left == 0) _ _ tt tt
    stand r h = h

pub later_calm : (d : ℕ) → Calm (later d)
unfolding lives pools_stand
later_calm d = record { counts = count; stands = stand }
  where
    count : (n : ℕ) (r : Residual) → lives n (later d r) ≡ lives n r
    count n (WaitTime left s) = refl
    count n r = refl

    stand : (r : Residual) → pools_stand r → pools_stand (later d r)
    stand (WaitTime left s) h = tt
    stand r h = h

pub round_calm : Calm new_round
unfolding lives pools_stand
round_calm = record { counts = count; stands = stand }
  where
    count : (n : ℕ) (r : Residual) → lives n (new_round r) ≡ lives n r
    count n (InAsync s b r) = refl
    count n r = refl

    stand : (r : Residual) → pools_stand r → pools_stand (new_round r)
    stand (InAsync s b r) h = h
    stand r h = h

abbrev pub TreeCounts : Residual → World → Type 0
TreeCounts r w = Counts (λ p. lives p r) w × pools_stand r

pub leaves_counts : (g : Residual → Residual) (calm : Calm g) (r : Residual) (w : World) → TreeCounts r w → TreeCounts (each_leaf g r) w
leaves_counts g calm r w h = (counts_same (λ p. lives p r) (λ p. lives p (each_leaf g r)) w w (record { living = refl; given = refl }) (λ p. sym (each_lives g calm p r)) h.0, leaves_stand g calm r h.1)

module _ (K : Kernel) (proper : is_proper K ≡ true) where
  reacts_counts : (k : ℕ) (r : Residual) (w : World) → Fits K 1 (program_part K) r → TreeCounts r w → ConfigCounts (reacts K k r w)
  reacts_counts k r w t h = steps_counts K proper k (Between 0 r w) t h

  input_counts : (k event : ℕ) (v : ℤ) (c : Config) → ConfigFits K c → ConfigCounts c → ConfigCounts (input K k event v c)
  input_counts k event v (Waiting r w) t h = reacts_counts k (each_leaf (by_input event v) r) w (leaves_fit K 0 1 (by_input event v) (by_input_fits K event v) t) (leaves_counts (by_input event v) (by_input_calm event v) r w h)
  input_counts k event v (Turning n f w) t h = h
  input_counts k event v (Between n r w) t h = h
  input_counts k event v (Ended x w) t h = h
  input_counts k event v (Faulted e w) t h = h

  advance_counts : (k j d : ℕ) (c : Config) → ConfigFits K c → ConfigCounts c → ConfigCounts (advance K k j d c)
  unfolding advance
  advance_counts k zero d c t h = h
  advance_counts k (suc j) d (Waiting r w) t h = go (least_time (leaves r)) (λ m. advance_counts k j (d - m) (timed m) (timed_fits m) (timed_counts m))
    where
      timed : ℕ → Config
      timed m = reacts K k (each_leaf (by_time (d - m)) (each_leaf (later m) r)) w

      fits : (m : ℕ) → Fits K 1 (program_part K) (each_leaf (by_time (d - m)) (each_leaf (later m) r))
      fits m = leaves_fit K 0 1 (by_time (d - m)) (by_time_fits K (d - m)) (leaves_fit K 0 0 (later m) (later_fits K m) t)

      timed_fits : (m : ℕ) → ConfigFits K (timed m)
      timed_fits m = steps_fit K proper k (Between 0 (each_leaf (by_time (d - m)) (each_leaf (later m) r)) w) (fits m)

      timed_counts : (m : ℕ) → ConfigCounts (timed m)
      timed_counts m = reacts_counts k _ w (fits m) (leaves_counts (by_time (d - m)) (by_time_calm (d - m)) (each_leaf (later m) r) w (leaves_counts (later m) (later_calm m) r w h))

      go : (o : Option ℕ) → ((m : ℕ) → ConfigCounts (advance K k j (d - m) (timed m))) → ConfigCounts (elim o [
        | None ↦ Waiting r w
        | Some m ↦ elim (nat_le m d) [
          | true ↦ advance K k j (d - m) (timed m)
          | false ↦ Waiting (each_leaf (later d) r) w
        ]
      ])
      go None ih = h
      go (Some m) ih = inner (nat_le m d)
        where
          inner : (b : Bool) → ConfigCounts (elim b [ true ↦ advance K k j (d - m) (timed m) | false ↦ Waiting (each_leaf (later d) r) w ])
          inner true = ih m
          inner false = leaves_counts (later d) (later_calm d) r w h
  advance_counts k (suc j) d (Turning n f w) t h = h
  advance_counts k (suc j) d (Between n r w) t h = h
  advance_counts k (suc j) d (Ended x w) t h = h
  advance_counts k (suc j) d (Faulted e w) t h = h

  -- ---- asyncs, in which nothing is spawned

  pub record AsyncPart (d : Part) : Type 0 where
    pub closed : Closed K proper d
    pub sound : Sound K proper d
    pub apart : in_trail d → ⊥

  pub apart_fine : {t : ℕ} {f : Focus Act} {d e : Part} (x : Does) → AsyncPart d → Around K t Act f d e → Room K proper e x → SpawnFine f x
  apart_fine (does.Spawns s c code pool alias vs) p a r = absurd (p.apart (around_trail K proper a p.sound r.0))
  apart_fine (does.Opens x) p a r = tt
  apart_fine (does.Waits x) p a r = tt
  apart_fine does.Passes p a r = tt
  apart_fine (does.Leaves node x) p a r = tt
  apart_fine (does.Registers s) p a r = tt
  apart_fine does.Ends p a r = tt
  apart_fine does.Heads p a r = tt
  apart_fine (does.Emits s event v) p a r = tt
  apart_fine (does.Kills k) p a r = tt
  apart_fine (does.Fails e) p a r = tt

  -- with so many instances outside
  abbrev pub ServedCounts : (ℕ → ℕ) → Served → Type 0
  ServedCounts c (Turned r w) = Counts (λ p. lives p r + c p) w × pools_stand r
  ServedCounts c (Done w) = Counts (λ p. 0 + c p) w
  ServedCounts c x = Unit {0}

  serve_counts : (c : ℕ → ℕ) (k : ℕ) (root : Body) (f : Focus Act) (w : World) (d : Part) → AsyncPart d → TurnFits K 1 d f → Counts (λ p. live_focus p f + c p) w → focus_stands f → ServedCounts c (serve K k root f w)
  unfolding serve lives pools_stand
  serve_counts c zero root f w d a t h st = tt
  serve_counts c (suc k) root f w d a t h st =
      go (stepped K 0 root f w).outcome (stepped_fits K proper 0 root f w d a.closed a.sound t) (counts_moved (λ p. live_focus p f) (λ p. left_whole p (stepped K 0 root f w).outcome) c w u (stepped_moves K 0 root f w fine) h)
      (stepped_stands K 0 root f w fine (focus_low f c w h) st) (λ g y b s. serve_counts c k root g u d a y b s)
    where
      u : World
      u = (stepped K 0 root f w).world

      fine : SpawnFine f (acted K 0 (body_of f root) (leaf f) w).does
      fine = apart_fine (acted K 0 (body_of f root) (leaf f) w).does a t.around (acted_room K proper 0 (body_of f root) t.part (leaf f) w (around_sound K proper t.around a.sound) t.acts)

      go : (x : Outcome) → Comes K 0 d x → Counts (λ p. left_whole p x + c p) u → OutcomeStands x → ((g : Focus Act) → TurnFits K 1 d g → Counts (λ p. live_focus p g + c p) u → focus_stands g → ServedCounts c (serve K k root g u))
          → ServedCounts c (elim x [
            | Goes g ↦ elim (is_again (leaf g)) [ true ↦ Turned (plug g (Run 0 Again)) u | false ↦ serve K k root g u ]
            | Fails e r ↦ Failed e r u
            | Rests r ↦ Turned r u
            | Raises r ↦ Turned r u
            | _ ↦ Done u
          ])
      go (Goes g) y b s ih = inner (is_again (leaf g))
        where
          inner : (b : Bool) → ServedCounts c (elim b [ true ↦ Turned (plug g (Run 0 Again)) u | false ↦ serve K k root g u ])
          inner true =
              (counts_same (λ p. live_focus p g + c p) (λ p. lives p (plug g (Run 0 Again)) + c p) u u (record { living = refl; given = refl }) (λ p. (let e = plug_lives p g (Run 0 Again) in omega (arith, e))) b, plugged g (Run 0 Again) s tt)
          inner false = ih g y b s
      go (Fails e r) y b s ih = tt
      go (Rests r) y b s ih = (b, s)
      go (Raises r) y b s ih = (b, s)
      go (Ends v) y b s ih = b
      go Past y b s ih = b
      go (Registers q) y b s ih = b
      go AtBlockEnd y b s ih = b
      go AtLoopHead y b s ih = b
      go (Leaves node x) y b s ih = b

  pub first_counts : (c : ℕ → ℕ) (k : ℕ) (root : Body) (o : Option (Focus Act)) (r : Residual) (w : World) (d : Part) → AsyncPart d → ChoiceFits K 1 Act (runs_at 0) d o → FoundIn Act (runs_at 0) r o
      → Counts (λ p. lives p r + c p) w → pools_stand r → ServedCounts c (serve_first K k root o r w)
  first_counts c k root None r w d a t x h st = (h, st)
  first_counts c k root (Some f) r w d a t x h st =
      serve_counts c k root f w d a (turn_of_chosen K proper 0 d f t)
      (counts_same (λ p. lives p r + c p) (λ p. live_focus p f + c p) w w (record { living = refl; given = refl }) (λ p. (let e = chosen_lives p 0 r f x in omega (arith, e))) h) (found_stands (runs_at 0) r f x st).0

  pub unserved_lives : (p : ℕ) (r : Residual) (x : Unserved) → unserved r ≡ Some x → lives p r ≡ lives p x.inner
  unfolding lives
  unserved_lives p (InAsync s false r) x e = inner e
    where
      inner : Some (record { stmt = s; inner = r }) ≡ Some x → lives p r ≡ lives p x.inner
      inner h = ap (λ o. elim o [ None ↦ 0 | Some y ↦ lives p y.inner ]) h
  unserved_lives p r x e = absurd (cc)

  pub unserved_stands : (r : Residual) (x : Unserved) → unserved r ≡ Some x → pools_stand r → pools_stand x.inner
  unfolding pools_stand
  unserved_stands (InAsync s false r) x e h = subst pools_stand (ap (λ o. elim o [ None ↦ r | Some y ↦ y.inner ]) e) h
  unserved_stands r x e h = absurd (cc)

  pub after_counts : (k : ℕ) (g : Focus Unserved) (x : Served) (r : Residual) (w : World) (sc : Scope) (b : KBlock) → Around K 0 Unserved g (program_part K) (AStatement sc (leaf g).stmt) → out-KStmt (leaf g).stmt.stmt ≡ KStmt-F.Async b
      → focus_stands g → TreeCounts r w → ServedCounts (λ p. live_focus p g) x → ConfigCounts (after_serving K k g x r w)
  unfolding lives pools_stand
  after_counts k g Unfinished r w sc b a e st h s = h
  after_counts k g (Turned q u) r w sc b a e st h s = (
    counts_same (λ p. lives p q + live_focus p g) (λ p. lives p (plug g (InAsync (leaf g).stmt true q))) u u (record { living = refl; given = refl }) (λ p. (let z = plug_lives p g (InAsync (leaf g).stmt true q) in omega (arith, z))) s.0,
    plugged g (InAsync (leaf g).stmt true q) st s.1,
  )
  after_counts k g (Done u) r w sc b a e st h s =
      reacts_counts k (plug g (Run 0 (Finish (leaf g).stmt (pos 0)))) u (plug_fits K (around_raised K (omega arith) a) (to_finish (omega arith) (ap pauses e)))
      (counts_same (λ p. 0 + live_focus p g) (λ p. lives p (plug g (Run 0 (Finish (leaf g).stmt (pos 0))))) u u (record { living = refl; given = refl }) (λ p. (let z = plug_lives p g (Run 0 (Finish (leaf g).stmt (pos 0))) in omega (arith, z))) s, plugged g _ st tt)
  after_counts k g (Failed z q u) r w sc b a e st h s = tt

  served_counts : (k : ℕ) (o : Option (Focus Unserved)) (r : Residual) (w : World) → ChoiceFits K 0 Unserved unserved (program_part K) o → FoundIn Unserved unserved r o → TreeCounts r w → ConfigCounts (served K k o r w)
  served_counts k None r w t x h = h
  served_counts k (Some g) r w t x h =
      let l = async_leaf K proper t.part t.was (leaf g) t.fits t.picked in
      let a : Around K 0 Unserved g (program_part K) (AStatement l.scope (leaf g).stmt) = subst (Around K 0 Unserved g (program_part K)) l.is t.around in
      let p : AsyncPart (ABlock false (async_scope K l.scope) l.block) = record {
        closed = λ node u v. false≢true u;
        sound = (layer_of K proper l.scope (leaf g).stmt (KStmt-F.Async l.block) l.layer (around_sound K proper a (root_sound K proper))).1;
        apart = λ u. false≢true u;
      } in
      let f = found_stands unserved r g x h.1 in
      after_counts k g _ r w l.scope l.block a l.layer f.0 h
      (first_counts (λ q. live_focus q g) k (body_of g Program) (choose Act (runs_at 0) (leaf g).inner) (leaf g).inner w _ p (choice_fits K 1 Act (runs_at 0) l.fits) (choose_found Act (runs_at 0) (leaf g).inner)
      (counts_same (λ q. lives q r) (λ q. lives q (leaf g).inner + live_focus q g) w w (record { living = refl; given = refl })
      (λ q. (let u = plug_lives q g x.was in let v = unserved_lives q x.was (leaf g) x.picked in let z = ap (lives q) x.plugs in omega (arith, u, v, z))) h.0)
      (unserved_stands x.was (leaf g) x.picked f.1))

  pub idle_turn_counts : (k : ℕ) (c : Config) → ConfigFits K c → ConfigCounts c → ConfigCounts (idle_turn K k c)
  idle_turn_counts k (Waiting r w) t h = go (choose Unserved unserved r) (choice_fits K 0 Unserved unserved t) (choose_found Unserved unserved r)
    where
      again : Residual
      again = each_leaf new_round r

      go : (o : Option (Focus Unserved)) → ChoiceFits K 0 Unserved unserved (program_part K) o → FoundIn Unserved unserved r o
          → ConfigCounts (elim o [ Some g ↦ served K k (Some g) r w | None ↦ served K k (choose Unserved unserved again) again w ])
      go (Some g) c x = served_counts k (Some g) r w c x h
      go None c x =
          served_counts k (choose Unserved unserved again) again w (choice_fits K 0 Unserved unserved (leaves_fit K 0 0 new_round (round_fits K) t)) (choose_found Unserved unserved again) (leaves_counts new_round round_calm r w h)
  idle_turn_counts k (Turning n f w) t h = h
  idle_turn_counts k (Between n r w) t h = h
  idle_turn_counts k (Ended x w) t h = h
  idle_turn_counts k (Faulted e w) t h = h

  idle_turns_count : (k j : ℕ) (c : Config) → ConfigFits K c → ConfigCounts c → ConfigCounts (idle_turns K k j c)
  idle_turns_count k zero c t h = h
  idle_turns_count k (suc j) c t h = idle_turns_count k j (idle_turn K k c) (idle_turn_fits K proper k c t) (idle_turn_counts k c t h)

  pub done_counts : (k : ℕ) (x : Command) (c : Config) → ConfigFits K c → ConfigCounts c → ConfigCounts (done K k x c)
  unfolding done
  done_counts k (Input event v) c t h = input_counts k event v c t h
  done_counts k (Advance us) c t h = advance_counts k (us + 1) us c t h
  done_counts k (Idle j) c t h = idle_turns_count k j c t h

  all_count : (k : ℕ) (xs : List Command) (c : Config) → ConfigFits K c → ConfigCounts c → ConfigCounts (all_done K k xs c)
  unfolding all_done
  all_count k [] c t h = h
  all_count k (x ∷ xs) c t h = all_count k xs (done K k x c) (done_fits K proper k x c t) (done_counts k x c t h)

  pub run_counts : (k : ℕ) (xs : List Command) → ConfigCounts (run K k xs)
  unfolding run
  run_counts k xs = all_count k xs (steps K k (booted K)) (steps_fit K proper k (booted K) (booted_fits K proper)) (steps_counts K proper k (booted K) (booted_fits K proper) (booted_counts K proper))
