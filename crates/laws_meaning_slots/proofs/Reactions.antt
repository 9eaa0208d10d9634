-- Each step of a reaction of a proper kernel keeps each value in an open slot of its kind.
use Rattle.std.proofs.Common.{◌≡◌, refl, ap, ◌≤◌, ℕ, zero, suc, ◌+◌, true, inr, Option, Some, None, arith}
use Rattle.ceu_base.specs.declared.kinds.Pos.{Pos}
use Rattle.ceu_base.specs.declared.kinds.Fault.{Fault}
use Rattle.ceu_tree.specs.declared.kernel.Kernel.{Kernel}
use Rattle.ceu_tree.specs.Residual.{Body, Program, Act, Residual, Over, Run, WaitInput, WaitTime, WaitEvent, WaitForever, InAsync, Block, Open, Loop, Call, Par}
use Rattle.ceu_tree.specs.Focus.{Focus, plug, leaf, body_of, choose}
use Rattle.ceu_tree.specs.World.{Held, World}
use Rattle.ceu_tree.specs.Wake.{runs_at}
use Rattle.ceu_tree.specs.Leaf.{acted}
use Rattle.ceu_tree.specs.Around.{Outcome, Goes, Rests, Raises, Fails, Past, Registers, AtBlockEnd, AtLoopHead, Ends, Leaves}
use Rattle.ceu_tree.specs.Step.{stepped}
use Rattle.ceu_tree.specs.Proper.{is_proper}
use Rattle.ceu_tree.specs.Run.{Config, Turning, Between, Waiting, Ended, Faulted, config_of, unless_failed, chosen_at, next, steps}
use Rattle.laws_meaning_basics.proofs.FocusBalance.{Found, FoundIn, choose_found}
use Rattle.laws_meaning_basics.specs.Shape.{Part, TurnFits, ConfigFits, program_part}
use Rattle.laws_meaning_basics.proofs.UpFits.{Sound}
use Rattle.laws_meaning_basics.proofs.StepFits.{around_sound}
use Rattle.laws_meaning_basics.proofs.RunFits.{root_sound, next_fits}
use Rattle.laws_meaning_instances.proofs.Rooms.{acted_room}
use Rattle.laws_meaning_instances.proofs.Steps.{SpawnFine}
use Rattle.laws_meaning_instances.proofs.Reactions.{ConfigCounts, room_fine, next_counts}
use Rattle.laws_meaning_slots.proofs.Slots.{room, focus_room, plug_room}
use Rattle.laws_meaning_slots.proofs.Values.{lie_more}
use Rattle.laws_meaning_slots.proofs.Covers.{Covers}
use Rattle.laws_meaning_slots.proofs.Aborts.{LieIn}
use Rattle.laws_meaning_slots.proofs.Steps.{left_whole, stepped_lie}
use Rattle.laws_meaning_slots.proofs.Given.{room_more, stepped_given}

module _ (K : Kernel) where
  abbrev pub TreeLies : Residual → World → Type 0
  TreeLies r w = LieIn (λ h. room K.codes w.given h r Program) w

  abbrev pub FocusLies : Focus Act → World → Type 0
  FocusLies f w = LieIn (λ h. focus_room K.codes w.given h f Program) w

  abbrev pub ConfigLies : Config → Type 0
  ConfigLies (Turning n f w) = FocusLies f w
  ConfigLies (Between n r w) = TreeLies r w
  ConfigLies (Waiting r w) = TreeLies r w
  ConfigLies (Ended v w) = Unit {0}
  ConfigLies (Faulted e w) = Unit {0}

  -- at more numbers that were given
  pub focus_more : {A : Type 0} (g j : ℕ) (f : Focus A) (body : Body) (h : Held) → g ≤ j → focus_room K.codes g h f body ≤ focus_room K.codes j h f body
  unfolding room
  focus_more g j f body h l = let a = plug_room K.codes g h f Over body in let b = plug_room K.codes j h f Over body in let d = room_more K.codes g j l h (plug f Over) body in omega (arith, a, b, d)

  -- ---- a leaf that is chosen

  pub picked_room : (g : ℕ) (h : Held) (n : ℕ) (r : Residual) (a : Act) (body : Body) → runs_at n r ≡ Some a → room K.codes g h r body ≡ 0
  unfolding room
  picked_room g h n (Run m b) a body e = refl
  picked_room g h n Over a body e = absurd (cc)
  picked_room g h n (WaitInput k s) a body e = absurd (cc)
  picked_room g h n (WaitTime k s) a body e = absurd (cc)
  picked_room g h n (WaitEvent k s) a body e = absurd (cc)
  picked_room g h n (WaitForever s) a body e = absurd (cc)
  picked_room g h n (InAsync s b r) a body e = absurd (cc)
  picked_room g h n (Block b fin all r rest) a body e = absurd (cc)
  picked_room g h n (Open s r) a body e = absurd (cc)
  picked_room g h n (Loop s c r) a body e = absurd (cc)
  picked_room g h n (Call s r) a body e = absurd (cc)
  picked_room g h n (Par s bs) a body e = absurd (cc)

  pub chosen_room : (g : ℕ) (h : Held) (n : ℕ) (r : Residual) (f : Focus Act) (body : Body) → Found Act (runs_at n) r f
      → room K.codes g h r body ≡ focus_room K.codes g h f body
  chosen_room g h n r f body x =
      let a = plug_room K.codes g h f x.was body in let b = picked_room g h n x.was (leaf f) (body_of f body) x.picked in let d = ap (λ q. room K.codes g h q body) x.plugs in omega (arith, a, b, d)

  -- ---- a step

  unless_lies : (w : World) (c : Config) → ConfigLies c → ConfigLies (unless_failed w c)
  unless_lies w c h = go w.fault
    where
      go : (o : Option (Fault × Pos)) → ConfigLies (elim o [ Some e ↦ Faulted e w | None ↦ c ])
      go None = h
      go (Some e) = tt

  chosen_lies : (n : ℕ) (r : Residual) (w : World) (o : Option (Focus Act)) → FoundIn Act (runs_at n) r o → TreeLies r w → ConfigLies (chosen_at n o r w)
  chosen_lies zero r w None x h = h
  chosen_lies (suc n) r w None x h = h
  chosen_lies n r w (Some f) x h =
      lie_more (λ k. room K.codes w.given k r Program) (λ k. focus_room K.codes w.given k f Program) (λ k l. (let a = chosen_room w.given k n r f Program x in omega (arith, a, l))) w.values h

  module _ (proper : is_proper K ≡ true) where
    pub root_covers : (g : ℕ) → Covers K g (λ h. 0) (program_part K) Program
    root_covers g = (λ slot k cell e i. absurd (cc), inr (refl, refl))

    config_lies : (n : ℕ) (x : Outcome) (w : World) → LieIn (λ h. left_whole K proper w.given h Program x) w → ConfigLies (config_of n x w)
    unfolding room
    config_lies n (Goes g) w h = h
    config_lies n (Rests r) w h = h
    config_lies n (Raises r) w h = h
    config_lies n (Fails e r) w h = tt
    config_lies n (Ends v) w h = tt
    config_lies n Past w h = h
    config_lies n (Registers s) w h = h
    config_lies n AtBlockEnd w h = h
    config_lies n AtLoopHead w h = h
    config_lies n (Leaves node x) w h = h

    -- beside what lies in c, which more numbers keep
    pub turn_lies : {t : ℕ} {d : Part} (n : ℕ) (root : Body) (f : Focus Act) (c : ℕ → Held → ℕ) (w : World) → ((g j : ℕ) (h : Held) → g ≤ j → c g h ≤ c j h)
        → TurnFits K t d f → Sound K proper d
        → Covers K (stepped K n root f w).world.given (c (stepped K n root f w).world.given) d root → SpawnFine f (acted K n (body_of f root) (leaf f) w).does → LieIn (λ h. focus_room K.codes w.given h f root + c w.given h) w
        → LieIn (λ h. left_whole K proper (stepped K n root f w).world.given h root (stepped K n root f w).outcome + c (stepped K n root f w).world.given h) (stepped K n root f w).world
    turn_lies n root f c w up t s o fine x =
        let g = (stepped K n root f w).world.given in
        let l = stepped_given K n root f w in
        stepped_lie K proper g n root f (c g) w t s o fine (omega arith)
        (lie_more (λ h. focus_room K.codes w.given h f root + c w.given h) (λ h. focus_room K.codes g h f root + c g h) (λ h m. (let a = focus_more w.given g f root h l in let b = up w.given g h l in omega (arith, a, b, m))) w.values x)

    pub next_lies : (c : Config) → ConfigFits K c → ConfigCounts c → ConfigLies c → ConfigLies (next K c)
    unfolding next
    next_lies (Turning n f w) t z h =
        let m = stepped K n Program f w in
        let fine = room_fine K proper (acted K n (body_of f Program) (leaf f) w).does t.around z.1 (acted_room K proper n (body_of f Program) t.part (leaf f) w (around_sound K proper t.around (root_sound K proper)) t.acts) in
        let a = turn_lies n Program f (λ g k. 0) w (λ g j k l. omega arith) t (root_sound K proper) (root_covers m.world.given) fine (lie_more (λ k. focus_room K.codes w.given k f Program) (λ k. focus_room K.codes w.given k f Program + 0) (λ k l. omega (arith, l)) w.values h) in
        unless_lies m.world (config_of n m.outcome m.world)
        (config_lies n m.outcome m.world (lie_more (λ k. left_whole K proper m.world.given k Program m.outcome + 0) (λ k. left_whole K proper m.world.given k Program m.outcome) (λ k l. omega (arith, l)) m.world.values a))
    next_lies (Between n r w) t z h = chosen_lies n r w (choose Act (runs_at n) r) (choose_found Act (runs_at n) r) h
    next_lies (Waiting r w) t z h = h
    next_lies (Ended v w) t z h = h
    next_lies (Faulted e w) t z h = h

    pub steps_lie : (k : ℕ) (c : Config) → ConfigFits K c → ConfigCounts c → ConfigLies c → ConfigLies (steps K k c)
    unfolding steps
    steps_lie zero c t z h = h
    steps_lie (suc k) (Turning n f w) t z h = steps_lie k (next K (Turning n f w)) (next_fits K proper (Turning n f w) t) (next_counts K proper (Turning n f w) t z) (next_lies (Turning n f w) t z h)
    steps_lie (suc k) (Between n r w) t z h = steps_lie k (next K (Between n r w)) (next_fits K proper (Between n r w) t) (next_counts K proper (Between n r w) t z) (next_lies (Between n r w) t z h)
    steps_lie (suc k) (Waiting r w) t z h = h
    steps_lie (suc k) (Ended v w) t z h = h
    steps_lie (suc k) (Faulted e w) t z h = h
