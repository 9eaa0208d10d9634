-- Reactions, commands and runs of a proper kernel keep configurations that fit it.
use Rattle.std.proofs.Common.{◌≡◌, refl, ap, subst, ℕ, zero, suc, ◌+◌, ◌-◌, ℤ, nat_le, Bool, true, false, if◌then◌else◌, ◌==◌, List, [], ◌∷◌, Option, Some, None, arith}
use Rattle.std.proofs.lemmas.Bool.{false≢true}
use Rattle.ceu_base.specs.declared.kinds.Pos.{Pos}
use Rattle.ceu_base.specs.declared.kinds.Fault.{Fault}
use Rattle.ceu_base.specs.declared.kinds.Ty.TheVariants as ty
use Rattle.ceu_tree.specs.declared.command.Command.{Command}
use Rattle.ceu_tree.specs.declared.command.Command.TheVariants.{Input, Advance, Idle}
use Rattle.ceu_tree.specs.declared.kernel.Kernel.{Kernel}
use Rattle.ceu_tree.specs.declared.kernel.KNode.{KNode}
use Rattle.ceu_tree.specs.declared.kernel.KBlock.{KBlock, out-KBlock}
use Rattle.ceu_tree.specs.declared.kernel.KStmt.{out-KStmt}
use Rattle.ceu_tree.specs.declared.kernel.KStmt.TheOpen.{KStmt-F}
use Rattle.ceu_tree.specs.Residual.{Body, Program, Act, Again, Residual, Run, InAsync}
use Rattle.ceu_tree.specs.Focus.{Focus, plug, leaf, body_of, choose}
use Rattle.ceu_tree.specs.World.{World}
use Rattle.ceu_tree.specs.Wake.{each_leaf, leaves, runs_at, by_input, later, by_time, least_time, Unserved, unserved, new_round}
use Rattle.ceu_tree.specs.Around.{Outcome, Goes, Rests, Raises, Fails, Ends, Leaves}
use Rattle.ceu_tree.specs.Step.{stepped}
use Rattle.ceu_tree.specs.Proper.{Scope, is_trail, is_proper, BodyAim}
use Rattle.ceu_tree.specs.Run.{Config, Turning, Between, Waiting, Ended, Faulted, config_of, unless_failed, chosen_at, next, steps, booted, reacts, input, advance, is_again, Served, Unfinished, Turned, Done, Failed, serve, serve_first, after_serving, served, idle_turn, idle_turns, done, all_done, run}
use Rattle.laws_meaning_basics.specs.Shape.{Part, ABlock, AStatement, program_part, async_scope, pauses, Fits, to_begin, to_turn, to_finish, at_async, Around, begins, goes_again, finishes, ActFits, TurnFits, in_trail, Comes, ConfigFits}
use Rattle.laws_meaning_basics.specs.Laws.{is_whole}
use Rattle.laws_meaning_basics.proofs.Static.{program_static}
use Rattle.laws_meaning_basics.proofs.Fits.{raised, around_raised, plug_fits}
use Rattle.laws_meaning_basics.proofs.Leaves.{leaves_fit, by_input_fits, by_time_fits, later_fits, round_fits}
use Rattle.laws_meaning_basics.proofs.Choice.{ChosenFits, ChoiceFits, choice_fits, lowered}
use Rattle.laws_meaning_basics.proofs.UpFits.{Sound, layer_of, inside_body}
use Rattle.laws_meaning_basics.proofs.StepFits.{Closed, around_sound, around_trail, stepped_fits}

acts : (K : Kernel) (t : ℕ) (d : Part) (m : ℕ) (b : Act) → Fits K t d (Run m b) → ActFits d b
acts K t d m b (to_begin l) = begins
acts K t d m b (to_turn l p) = goes_again
acts K t d m b (to_finish l p) = finishes p

-- the leaf that can run may have the turn
runs_act : (K : Kernel) (t n : ℕ) (d : Part) (r : Residual) (a : Act) → Fits K t d r → runs_at n r ≡ Some a → ActFits d a
runs_act K t n d (Run m b) a h e = go (m == n) e
  where
    go : (c : Bool) → (if c then Some b else None) ≡ Some a → ActFits d a
    go true q = subst (ActFits d) (ap (λ o. elim o [ None ↦ b | Some x ↦ x ]) q) (acts K t d m b h)
    go false q = absurd (cc)
runs_act K t n d r a h e = absurd (cc)

module _ (K : Kernel) (proper : is_proper K ≡ true) where
  pub root_sound : Sound K proper (program_part K)
  root_sound = program_static K proper

  pub root_closed : Closed K proper (program_part K)
  root_closed node h e = inside_body K proper 0 node (out-KBlock K.body).node (BodyAim (out-KBlock K.body).node ty.S32) refl h e

  pub turn_of_chosen : (n : ℕ) (d : Part) (f : Focus Act) → ChosenFits K (suc n) Act (runs_at n) d f → TurnFits K (suc n) d f
  turn_of_chosen n d f c = record { part = c.part; around = c.around; acts = runs_act K (suc n) n c.part c.was (leaf f) c.fits c.picked }

  config_fits : (n : ℕ) (x : Outcome) (w : World) → Comes K n (program_part K) x → ConfigFits K (config_of n x w)
  config_fits n (Goes g) w h = h
  config_fits n (Rests r) w h = h.1
  config_fits n (Raises r) w h = raised K (omega arith) h.1
  config_fits n (Fails e r) w h = tt
  config_fits n (Ends v) w h = tt
  config_fits n (Leaves node x) w h = absurd (root_closed node h.0 h.1)
  config_fits n x w h = elim h [ ]

  unless_fits : (w : World) (c : Config) → ConfigFits K c → ConfigFits K (unless_failed w c)
  unless_fits w c h = go w.fault
    where
      go : (o : Option (Fault × Pos)) → ConfigFits K (elim o [ Some e ↦ Faulted e w | None ↦ c ])
      go None = h
      go (Some e) = tt

  chosen_fits : (n : ℕ) (r : Residual) (w : World) → Fits K (suc n) (program_part K) r → ConfigFits K (chosen_at n (choose Act (runs_at n) r) r w)
  chosen_fits n r w h = go n h (choose Act (runs_at n) r) refl (choice_fits K (suc n) Act (runs_at n) h)
    where
      go : (m : ℕ) → Fits K (suc m) (program_part K) r → (o : Option (Focus Act)) → choose Act (runs_at m) r ≡ o → ChoiceFits K (suc m) Act (runs_at m) (program_part K) o → ConfigFits K (chosen_at m o r w)
      go m h (Some f) e c = turn_of_chosen m (program_part K) f c
      go zero h None e c = lowered K zero h e
      go (suc m) h None e c = lowered K (suc m) h e

  pub next_fits : (c : Config) → ConfigFits K c → ConfigFits K (next K c)
  unfolding next
  next_fits (Turning n f w) h =
      let m = stepped K n Program f w in unless_fits m.world (config_of n m.outcome m.world) (config_fits n m.outcome m.world (stepped_fits K proper n Program f w (program_part K) root_closed root_sound h))
  next_fits (Between n r w) h = chosen_fits n r w h
  next_fits (Waiting r w) h = h
  next_fits (Ended v w) h = h
  next_fits (Faulted e w) h = h

  comes_whole : (n : ℕ) (x : Outcome) → Comes K n (program_part K) x → is_whole x ≡ true
  comes_whole n (Goes g) h = refl
  comes_whole n (Rests r) h = refl
  comes_whole n (Raises r) h = refl
  comes_whole n (Fails e r) h = refl
  comes_whole n (Ends v) h = refl
  comes_whole n (Leaves node x) h = absurd (root_closed node h.0 h.1)
  comes_whole n x h = elim h [ ]

  pub step_whole : (n : ℕ) (f : Focus Act) (w : World) → TurnFits K (suc n) (program_part K) f → is_whole (stepped K n Program f w).outcome ≡ true
  step_whole n f w h = comes_whole n (stepped K n Program f w).outcome (stepped_fits K proper n Program f w (program_part K) root_closed root_sound h)

  pub steps_fit : (k : ℕ) (c : Config) → ConfigFits K c → ConfigFits K (steps K k c)
  unfolding steps
  steps_fit zero c h = h
  steps_fit (suc k) (Turning n f w) h = steps_fit k (next K (Turning n f w)) (next_fits (Turning n f w) h)
  steps_fit (suc k) (Between n r w) h = steps_fit k (next K (Between n r w)) (next_fits (Between n r w) h)
  steps_fit (suc k) (Waiting r w) h = h
  steps_fit (suc k) (Ended v w) h = h
  steps_fit (suc k) (Faulted e w) h = h

  pub booted_fits : ConfigFits K (booted K)
  booted_fits = to_begin (omega arith)

  -- ---- commands

  reacts_fit : (k : ℕ) (r : Residual) (w : World) → Fits K 1 (program_part K) r → ConfigFits K (reacts K k r w)
  reacts_fit k r w h = steps_fit k (Between 0 r w) h

  input_fits : (k event : ℕ) (v : ℤ) (c : Config) → ConfigFits K c → ConfigFits K (input K k event v c)
  input_fits k event v (Waiting r w) h = reacts_fit k _ w (leaves_fit K 0 1 (by_input event v) (by_input_fits K event v) h)
  input_fits k event v (Turning n f w) h = h
  input_fits k event v (Between n r w) h = h
  input_fits k event v (Ended x w) h = h
  input_fits k event v (Faulted e w) h = h

  advance_fits : (k j d : ℕ) (c : Config) → ConfigFits K c → ConfigFits K (advance K k j d c)
  unfolding advance
  advance_fits k zero d c h = h
  advance_fits k (suc j) d (Waiting r w) h = go (least_time (leaves r)) (λ m. advance_fits k j (d - m) (timed m) (timed_fits m))
    where
      timed : ℕ → Config
      timed m = reacts K k (each_leaf (by_time (d - m)) (each_leaf (later m) r)) w

      timed_fits : (m : ℕ) → ConfigFits K (timed m)
      timed_fits m = reacts_fit k _ w (leaves_fit K 0 1 (by_time (d - m)) (by_time_fits K (d - m)) (leaves_fit K 0 0 (later m) (later_fits K m) h))

      go : (o : Option ℕ) → ((m : ℕ) → ConfigFits K (advance K k j (d - m) (timed m))) → ConfigFits K (elim o [
        | None ↦ Waiting r w
        | Some m ↦ elim (nat_le m d) [
          | true ↦ advance K k j (d - m) (timed m)
          | false ↦ Waiting (each_leaf (later d) r) w
        ]
      ])
      go None ih = h
      go (Some m) ih = inner (nat_le m d)
        where
          inner : (b : Bool) → ConfigFits K (elim b [ true ↦ advance K k j (d - m) (timed m) | false ↦ Waiting (each_leaf (later d) r) w ])
          inner true = ih m
          inner false = leaves_fit K 0 0 (later d) (later_fits K d) h
  advance_fits k (suc j) d (Turning n f w) h = h
  advance_fits k (suc j) d (Between n r w) h = h
  advance_fits k (suc j) d (Ended x w) h = h
  advance_fits k (suc j) d (Faulted e w) h = h

  -- ---- asyncs

  -- the place of an async's trail
  record AsyncPart (d : Part) : Type 0 where
    closed : Closed K proper d
    sound : Sound K proper d
    apart : in_trail d → ⊥

  abbrev ServedFits : Part → Served → Type 0
  ServedFits d (Turned r w) = Fits K 1 d r
  ServedFits d x = Unit {0}

  -- at a loop's head after a turn
  again_fits : (d e : Part) (f : Focus Act) (a : Act) → Around K 1 Act f d e → Sound K proper d → (in_trail d → ⊥) → ActFits e a → is_again a ≡ true → Fits K 1 d (plug f (Run 0 Again))
  again_fits d e f Again x h p (goes_again {sc = sc} {b = b}) q = plug_fits K x (to_turn (omega arith) (away (is_trail sc.place) refl))
    where
      away : (t : Bool) → is_trail sc.place ≡ t → is_trail sc.place ≡ false
      away false z = z
      away true z = absurd (p (around_trail K proper x h z))
  again_fits d e f a x h p y q = absurd (false≢true q)

  serve_fits : (k : ℕ) (root : Body) (f : Focus Act) (w : World) (d : Part) → AsyncPart d → TurnFits K 1 d f → ServedFits d (serve K k root f w)
  unfolding serve
  serve_fits zero root f w d p h = tt
  serve_fits (suc k) root f w d p h = go (stepped K 0 root f w).outcome (stepped_fits K proper 0 root f w d p.closed p.sound h) (λ g x. serve_fits k root g u d p x)
    where
      u : World
      u = (stepped K 0 root f w).world

      go : (x : Outcome) → Comes K 0 d x → ((g : Focus Act) → TurnFits K 1 d g → ServedFits d (serve K k root g u)) → ServedFits d (elim x [
        | Goes g ↦ elim (is_again (leaf g)) [ true ↦ Turned (plug g (Run 0 Again)) u | false ↦ serve K k root g u ]
        | Fails e r ↦ Failed e r u
        | Rests r ↦ Turned r u
        | Raises r ↦ Turned r u
        | _ ↦ Done u
      ])
      go (Goes g) x ih = inner (is_again (leaf g)) refl
        where
          inner : (b : Bool) → is_again (leaf g) ≡ b → ServedFits d (elim b [ true ↦ Turned (plug g (Run 0 Again)) u | false ↦ serve K k root g u ])
          inner true q = again_fits d x.part g (leaf g) x.around p.sound p.apart x.acts q
          inner false q = ih g x
      go (Rests r) x ih = absurd (p.apart x.0)
      go (Raises r) x ih = absurd (p.apart x.0)
      go y x ih = tt

  serve_first_fits : (k : ℕ) (root : Body) (o : Option (Focus Act)) (r : Residual) (w : World) (d : Part) → AsyncPart d → Fits K 1 d r → ChoiceFits K 1 Act (runs_at 0) d o → ServedFits d (serve_first K k root o r w)
  serve_first_fits k root None r w d p h c = h
  serve_first_fits k root (Some f) r w d p h c = serve_fits k root f w d p (turn_of_chosen 0 d f c)

  -- the leaf that an idle turn serves
  pub record AsyncLeaf (d : Part) (x : Unserved) : Type 0 where
    pub scope : Scope
    pub block : KBlock
    pub is : d ≡ AStatement scope x.stmt
    pub layer : out-KStmt x.stmt.stmt ≡ KStmt-F.Async block
    pub fits : Fits K 1 (ABlock false (async_scope K scope) block) x.inner

  pub async_leaf : (d : Part) (r : Residual) (x : Unserved) → Fits K 0 d r → unserved r ≡ Some x → AsyncLeaf d x
  async_leaf d (InAsync s false r) x (at_async {sc = sc} b e h) q =
      subst (AsyncLeaf (AStatement sc s)) (ap (λ o. elim o [ None ↦ record { stmt = s; inner = r } | Some y ↦ y ]) q) (record { scope = sc; block = b; is = refl; layer = e; fits = h })
  async_leaf d r x h q = absurd (cc)

  async_sound : (sc : Scope) (s : KNode) (b : KBlock) → out-KStmt s.stmt ≡ KStmt-F.Async b → Sound K proper (AStatement sc s) → AsyncPart (ABlock false (async_scope K sc) b)
  async_sound sc s b e h = record { closed = λ node x y. false≢true x; sound = (layer_of K proper sc s (KStmt-F.Async b) e h).1; apart = λ x. false≢true x }

  after_fits : (k : ℕ) (g : Focus Unserved) (x : Served) (q : Residual) (u : World) (sc : Scope) (b : KBlock) → Fits K 0 (program_part K) q → Around K 0 Unserved g (program_part K) (AStatement sc (leaf g).stmt)
      → out-KStmt (leaf g).stmt.stmt ≡ KStmt-F.Async b → ServedFits (ABlock false (async_scope K sc) b) x → ConfigFits K (after_serving K k g x q u)
  after_fits k g Unfinished q u sc b h a e x = raised K (omega arith) h
  after_fits k g (Turned r w) q u sc b h a e x = plug_fits K a (at_async b e x)
  after_fits k g (Done w) q u sc b h a e x = reacts_fit k _ w (plug_fits K (around_raised K (omega arith) a) (to_finish (omega arith) (ap pauses e)))
  after_fits k g (Failed z r w) q u sc b h a e x = tt

  served_fits : (k : ℕ) (o : Option (Focus Unserved)) (r : Residual) (w : World) → Fits K 0 (program_part K) r → ChoiceFits K 0 Unserved unserved (program_part K) o → ConfigFits K (served K k o r w)
  served_fits k None r w h c = h
  served_fits k (Some g) r w h c =
      let l = async_leaf c.part c.was (leaf g) c.fits c.picked in
      let a : Around K 0 Unserved g (program_part K) (AStatement l.scope (leaf g).stmt) = subst (Around K 0 Unserved g (program_part K)) l.is c.around in
      let p = async_sound l.scope (leaf g).stmt l.block l.layer (around_sound K proper a root_sound) in
      after_fits k g _ r w l.scope l.block h a l.layer (serve_first_fits k (body_of g Program) _ (leaf g).inner w _ p l.fits (choice_fits K 1 Act (runs_at 0) l.fits))

  pub idle_turn_fits : (k : ℕ) (c : Config) → ConfigFits K c → ConfigFits K (idle_turn K k c)
  idle_turn_fits k (Waiting r w) h = go (choose Unserved unserved r) (choice_fits K 0 Unserved unserved h)
    where
      again : Residual
      again = each_leaf new_round r

      new : Fits K 0 (program_part K) again
      new = leaves_fit K 0 0 new_round (round_fits K) h

      go : (o : Option (Focus Unserved)) → ChoiceFits K 0 Unserved unserved (program_part K) o → ConfigFits K (elim o [ Some g ↦ served K k (Some g) r w | None ↦ served K k (choose Unserved unserved again) again w ])
      go (Some g) c = served_fits k (Some g) r w h c
      go None c = served_fits k (choose Unserved unserved again) again w new (choice_fits K 0 Unserved unserved new)
  idle_turn_fits k (Turning n f w) h = h
  idle_turn_fits k (Between n r w) h = h
  idle_turn_fits k (Ended x w) h = h
  idle_turn_fits k (Faulted e w) h = h

  idle_turns_fit : (k j : ℕ) (c : Config) → ConfigFits K c → ConfigFits K (idle_turns K k j c)
  idle_turns_fit k zero c h = h
  idle_turns_fit k (suc j) c h = idle_turns_fit k j (idle_turn K k c) (idle_turn_fits k c h)

  pub done_fits : (k : ℕ) (x : Command) (c : Config) → ConfigFits K c → ConfigFits K (done K k x c)
  unfolding done
  done_fits k (Input event v) c h = input_fits k event v c h
  done_fits k (Advance us) c h = advance_fits k (us + 1) us c h
  done_fits k (Idle j) c h = idle_turns_fit k j c h

  all_fit : (k : ℕ) (xs : List Command) (c : Config) → ConfigFits K c → ConfigFits K (all_done K k xs c)
  unfolding all_done
  all_fit k [] c h = h
  all_fit k (x ∷ xs) c h = all_fit k xs (done K k x c) (done_fits k x c h)

  pub run_fits : (k : ℕ) (xs : List Command) → ConfigFits K (run K k xs)
  unfolding run
  run_fits k xs = all_fit k xs (steps K k (booted K)) (steps_fit k (booted K) booted_fits)
