-- Each step of a reaction of a proper kernel keeps the instances that live and their places.
use Rattle.std.proofs.Common.{◌≡◌, refl, sym, ap, ◌∙◌, subst, ◌<◌, ℕ, zero, suc, ◌+◌, true, inr, Option, Some, None, arith}
use Rattle.ceu_base.specs.declared.kinds.Pos.{Pos}
use Rattle.ceu_base.specs.declared.kinds.Fault.{Fault}
use Rattle.ceu_base.specs.declared.kinds.Mark.TheVariants as mark
use Rattle.ceu_tree.specs.declared.kernel.Kernel.{Kernel}
use Rattle.ceu_tree.specs.Residual.{Program, Act, Residual, Over, Run, WaitInput, WaitTime, WaitEvent, WaitForever, InAsync, Block, Open, Loop, Call, Par}
use Rattle.ceu_tree.specs.Focus.{Focus, plug, leaf, body_of, choose}
use Rattle.ceu_tree.specs.World.{World, marked}
use Rattle.ceu_tree.specs.Wake.{runs_at}
use Rattle.ceu_tree.specs.Leaf as does
use Rattle.ceu_tree.specs.Leaf.{Does, acted}
use Rattle.ceu_tree.specs.Around.{Outcome, Goes, Rests, Raises, Fails, Past, Registers, AtBlockEnd, AtLoopHead, Ends, Leaves, Moved}
use Rattle.ceu_tree.specs.Step.{stepped}
use Rattle.ceu_tree.specs.Proper.{is_proper}
use Rattle.ceu_tree.specs.Run.{Config, Turning, Between, Waiting, Ended, Faulted, config_of, unless_failed, level_closed, chosen_at, next, steps, booted}
use Rattle.laws_meaning_basics.proofs.FocusBalance.{Found, FoundIn, choose_found}
use Rattle.laws_meaning_basics.specs.Shape.{Part, Around, TurnFits, ConfigFits, program_part}
use Rattle.laws_meaning_basics.proofs.StepFits.{around_sound}
use Rattle.laws_meaning_basics.proofs.RunFits.{root_sound, next_fits}
use Rattle.laws_meaning_instances.specs.Instances.{pools_stand, InstancesStand}
use Rattle.laws_meaning_instances.proofs.Living.{often, lives, Quiet, kept_same}
use Rattle.laws_meaning_instances.proofs.Trees.{live_focus, focus_stands, plug_lives, plugged, unplugged}
use Rattle.laws_meaning_instances.proofs.Up.{left_whole}
use Rattle.laws_meaning_instances.proofs.Places.{OutcomeStands}
use Rattle.laws_meaning_instances.proofs.Paths.{pool_path}
use Rattle.laws_meaning_instances.proofs.Rooms.{Room, acted_room}
use Rattle.laws_meaning_instances.proofs.Steps.{Moves, moves_kept, SpawnFine, stepped_moves, stepped_stands}
use Rattle.laws_meaning_instances.proofs.Lists.{Counts, numbers_stand, numbers_count}
use Rattle.laws_meaning_instances.proofs.Evens.{fits_same, turn_same}

-- ---- a configuration, by counting

abbrev pub ConfigCounts : Config → Type 0
ConfigCounts (Turning n f w) = Counts (λ p. live_focus p f) w × focus_stands f
ConfigCounts (Between n r w) = Counts (λ p. lives p r) w × pools_stand r
ConfigCounts (Waiting r w) = Counts (λ p. lives p r) w × pools_stand r
ConfigCounts (Ended v w) = Unit {0}
ConfigCounts (Faulted e w) = Unit {0}

pub counts_same : (m k : ℕ → ℕ) (w u : World) → Quiet w u → ((p : ℕ) → m p ≡ k p) → Counts m w → Counts k u
counts_same m k w u q e h p = (ap (often p) q.living ∙ (h p).0 ∙ e p, (moves_kept p w u 0 0 (kept_same p w u 0 q)).fine (h p).1)

-- a step of a part, with other instances beside it
pub counts_moved : (m k c : ℕ → ℕ) (w u : World) → ((p : ℕ) → Moves p w (m p) u (k p)) → Counts (λ p. m p + c p) w → Counts (λ p. k p + c p) u
counts_moved m k c w u v h p = ((v p).counts (c p) (h p).0, (v p).fine (h p).1)

pub focus_low : (f : Focus Act) (c : ℕ → ℕ) (w : World) → Counts (λ p. live_focus p f + c p) w → (m : ℕ) → w.given < m → live_focus m f ≡ 0
focus_low f c w h m l = let a = (h m).0 in let b = (h m).1.none (inr l) in omega (arith, a, b)

-- ---- a leaf that is chosen

picked_lives : (p n : ℕ) (r : Residual) (a : Act) → runs_at n r ≡ Some a → lives p r ≡ 0
unfolding lives
picked_lives p n (Run m b) a e = refl
picked_lives p n Over a e = absurd (cc)
picked_lives p n (WaitInput k s) a e = absurd (cc)
picked_lives p n (WaitTime k s) a e = absurd (cc)
picked_lives p n (WaitEvent k s) a e = absurd (cc)
picked_lives p n (WaitForever s) a e = absurd (cc)
picked_lives p n (InAsync s b r) a e = absurd (cc)
picked_lives p n (Block b fin all r rest) a e = absurd (cc)
picked_lives p n (Open s r) a e = absurd (cc)
picked_lives p n (Loop s c r) a e = absurd (cc)
picked_lives p n (Call s r) a e = absurd (cc)
picked_lives p n (Par s bs) a e = absurd (cc)

pub chosen_lives : (p n : ℕ) (r : Residual) (f : Focus Act) → Found Act (runs_at n) r f → lives p r ≡ live_focus p f
chosen_lives p n r f h = let a = plug_lives p f h.was in let b = picked_lives p n h.was (leaf f) h.picked in let c = ap (lives p) h.plugs in omega (arith, a, b, c)

pub found_stands : {A : Type 0} (pick : Residual → Option A) (r : Residual) (f : Focus A) → (x : Found A pick r f) → pools_stand r → focus_stands f × pools_stand x.was
found_stands pick r f x h = unplugged f x.was (subst pools_stand (sym x.plugs) h)

-- ---- a step

config_counts : (n : ℕ) (x : Outcome) (w : World) → Counts (λ p. left_whole p x) w → OutcomeStands x → ConfigCounts (config_of n x w)
unfolding lives pools_stand
config_counts n (Goes g) w h k = (h, k)
config_counts n (Rests r) w h k = (h, k)
config_counts n (Raises r) w h k = (h, k)
config_counts n (Fails e r) w h k = tt
config_counts n (Ends v) w h k = tt
config_counts n Past w h k = (h, tt)
config_counts n (Registers s) w h k = (h, tt)
config_counts n AtBlockEnd w h k = (h, tt)
config_counts n AtLoopHead w h k = (h, tt)
config_counts n (Leaves node x) w h k = (h, tt)

unless_counts : (w : World) (c : Config) → ConfigCounts c → ConfigCounts (unless_failed w c)
unless_counts w c h = go w.fault
  where
    go : (o : Option (Fault × Pos)) → ConfigCounts (elim o [ Some e ↦ Faulted e w | None ↦ c ])
    go None = h
    go (Some e) = tt

closed_counts : (n : ℕ) (r : Residual) (w : World) → Counts (λ p. lives p r) w → pools_stand r → ConfigCounts (level_closed n r w)
closed_counts zero r w h k = (h, k)
closed_counts (suc n) r w h k = (counts_same (λ p. lives p r) (λ p. lives p r) w (marked (mark.Pop (suc n)) w) (record { living = refl; given = refl }) (λ p. refl) h, k)

chosen_counts : (n : ℕ) (r : Residual) (w : World) (o : Option (Focus Act)) → FoundIn Act (runs_at n) r o → Counts (λ p. lives p r) w → pools_stand r → ConfigCounts (chosen_at n o r w)
chosen_counts n r w None x h k = closed_counts n r w h k
chosen_counts n r w (Some f) x h k =
    (counts_same (λ p. lives p r) (λ p. live_focus p f) w (marked (mark.Resume n) w) (record { living = refl; given = refl }) (λ p. chosen_lives p n r f x) h, (found_stands (runs_at n) r f x k).0)

module _ (K : Kernel) (proper : is_proper K ≡ true) where
  pub room_fine : {t : ℕ} {f : Focus Act} {e : Part} (x : Does) → Around K t Act f (program_part K) e → focus_stands f → Room K proper e x → SpawnFine f x
  room_fine (does.Spawns s c code pool alias vs) a st r = pool_path K pool proper code a (root_sound K proper) st r.1
  room_fine (does.Opens x) a st r = tt
  room_fine (does.Waits x) a st r = tt
  room_fine does.Passes a st r = tt
  room_fine (does.Leaves node x) a st r = tt
  room_fine (does.Registers s) a st r = tt
  room_fine does.Ends a st r = tt
  room_fine does.Heads a st r = tt
  room_fine (does.Emits s event v) a st r = tt
  room_fine (does.Kills k) a st r = tt
  room_fine (does.Fails e) a st r = tt

  -- the whole of a turn
  turn_counts : (n : ℕ) (f : Focus Act) (w : World) → TurnFits K (suc n) (program_part K) f → Counts (λ p. live_focus p f) w → focus_stands f → Counts (λ p. left_whole p (stepped K n Program f w).outcome) (stepped K n Program f w).world × OutcomeStands (stepped K n Program f w).outcome
  turn_counts n f w t h st = (
    (λ p. (let a = counts_moved (λ p. live_focus p f) (λ p. left_whole p m.outcome) (λ p. 0) w m.world (stepped_moves K n Program f w fine) beside p in (let e = a.0 in omega (arith, e), a.1))),
    stepped_stands K n Program f w fine (focus_low f (λ p. 0) w beside) st,
  )
    where
      m : Moved
      m = stepped K n Program f w

      fine : SpawnFine f (acted K n (body_of f Program) (leaf f) w).does
      fine = room_fine (acted K n (body_of f Program) (leaf f) w).does t.around st (acted_room K proper n (body_of f Program) t.part (leaf f) w (around_sound K proper t.around (root_sound K proper)) t.acts)

      beside : Counts (λ p. live_focus p f + 0) w
      beside p = (let e = (h p).0 in omega (arith, e), (h p).1)

  pub next_counts : (c : Config) → ConfigFits K c → ConfigCounts c → ConfigCounts (next K c)
  unfolding next
  next_counts (Turning n f w) t h =
      let a = turn_counts n f w t h.0 h.1 in
      unless_counts (stepped K n Program f w).world (config_of n (stepped K n Program f w).outcome (stepped K n Program f w).world) (config_counts n (stepped K n Program f w).outcome (stepped K n Program f w).world a.0 a.1)
  next_counts (Between n r w) t h = chosen_counts n r w (choose Act (runs_at n) r) (choose_found Act (runs_at n) r) h.0 h.1
  next_counts (Waiting r w) t h = h
  next_counts (Ended v w) t h = h
  next_counts (Faulted e w) t h = h

  pub steps_counts : (k : ℕ) (c : Config) → ConfigFits K c → ConfigCounts c → ConfigCounts (steps K k c)
  unfolding steps
  steps_counts zero c t h = h
  steps_counts (suc k) (Turning n f w) t h = steps_counts k (next K (Turning n f w)) (next_fits K proper (Turning n f w) t) (next_counts (Turning n f w) t h)
  steps_counts (suc k) (Between n r w) t h = steps_counts k (next K (Between n r w)) (next_fits K proper (Between n r w) t) (next_counts (Between n r w) t h)
  steps_counts (suc k) (Waiting r w) t h = h
  steps_counts (suc k) (Ended v w) t h = h
  steps_counts (suc k) (Faulted e w) t h = h

  -- ---- what is counted, and what is said of the list of numbers

  over_lives : (p : ℕ) (f : Focus Act) → lives p (plug f Over) ≡ live_focus p f
  unfolding lives
  over_lives p f = let a = plug_lives p f Over in omega (arith, a)

  pub instances_counted : (c : Config) → ConfigFits K c → InstancesStand c → ConfigCounts c
  instances_counted (Turning n f w) t h =
      (counts_same (λ p. lives p (plug f Over)) (λ p. live_focus p f) w w (record { living = refl; given = refl }) (λ p. over_lives p f) (numbers_count (plug f Over) w (λ p. turn_same K proper p t.around (root_sound K proper) Program) h.numbers), (unplugged f Over h.pools).0)
  instances_counted (Between n r w) t h = (numbers_count r w (λ p. fits_same K proper p t (root_sound K proper) Program) h.numbers, h.pools)
  instances_counted (Waiting r w) t h = (numbers_count r w (λ p. fits_same K proper p t (root_sound K proper) Program) h.numbers, h.pools)
  instances_counted (Ended v w) t h = tt
  instances_counted (Faulted e w) t h = tt

  pub instances_stand : (c : Config) → ConfigFits K c → ConfigCounts c → InstancesStand c
  unfolding pools_stand
  instances_stand (Turning n f w) t h = record {
    numbers = numbers_stand (plug f Over) w (λ p. turn_same K proper p t.around (root_sound K proper) Program) (counts_same (λ p. live_focus p f) (λ p. lives p (plug f Over)) w w (record { living = refl; given = refl }) (λ p. sym (over_lives p f)) h.0);
    pools = plugged f Over h.1 tt;
  }
  instances_stand (Between n r w) t h = record { numbers = numbers_stand r w (λ p. fits_same K proper p t (root_sound K proper) Program) h.0; pools = h.1 }
  instances_stand (Waiting r w) t h = record { numbers = numbers_stand r w (λ p. fits_same K proper p t (root_sound K proper) Program) h.0; pools = h.1 }
  instances_stand (Ended v w) t h = tt
  instances_stand (Faulted e w) t h = tt

  pub booted_counts : ConfigCounts (booted K)
  unfolding lives pools_stand
  booted_counts = (λ p. (refl, record { one = omega arith; none = λ z. refl; below = omega arith }), tt)
