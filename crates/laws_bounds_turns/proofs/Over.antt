-- A turn that is over in the end by itself is over in the whole program, and in an async.
use Rattle.std.proofs.Common.{◌≡◌, refl, ℕ, suc, ◌&&◌, ◌==◌, if◌then◌else◌, Bool, true, false, Option, Some, None}
use Rattle.ceu_base.specs.declared.kinds.Pos.{Pos}
use Rattle.ceu_base.specs.declared.kinds.Fault.{Fault}
use Rattle.ceu_base.specs.declared.kinds.Mark.TheVariants as mark
use Rattle.ceu_tree.specs.declared.kernel.Kernel.{Kernel}
use Rattle.ceu_tree.specs.Residual.{Body, Program, Act, Again, Run}
use Rattle.ceu_tree.specs.Focus.{Focus, plug, leaf, body_of}
use Rattle.ceu_tree.specs.World.{World, NotSet, marked, set_alias}
use Rattle.ceu_tree.specs.Leaf as does
use Rattle.ceu_tree.specs.Leaf.{Does, acted}
use Rattle.ceu_tree.specs.Around.{Outcome, Goes, Rests, Raises, Fails, Past, Registers, AtBlockEnd, AtLoopHead, Ends, Leaves, Moved, taken, answered}
use Rattle.ceu_tree.specs.Step.{unseat, killed, does_in, stepped, free_place, spawned_at}
use Rattle.ceu_tree.specs.Run.{Config, Turning, Faulted, config_of, unless_failed, next, steps, is_again, Served, Turned, Done, Failed, serve}
use Rattle.ceu_endings.specs.Laws.{is_turning}
use Rattle.laws_bounds_turns.specs.TurnsLaws.{is_finished}
use Rattle.laws_bounds_turns.proofs.Halting.{does_local, Halts, halts}
use Rattle.laws_bounds_turns.proofs.Parts.{any}

-- ---- where a step goes on, the part by itself does

taken_goes : (f : Focus Act) (x : Outcome) (g : Focus Act) → taken f x ≡ Goes g → x ≡ Goes g
taken_goes f (Goes h) g e = e
taken_goes f (Rests r) g e = absurd (cc)
taken_goes f (Raises r) g e = absurd (cc)
taken_goes f (Fails z r) g e = absurd (cc)
taken_goes f (Ends v) g e = absurd (cc)
taken_goes f (Leaves node x) g e = absurd (cc)
taken_goes f Past g e = absurd (cc)
taken_goes f (Registers s) g e = absurd (cc)
taken_goes f AtBlockEnd g e = absurd (cc)
taken_goes f AtLoopHead g e = absurd (cc)

neither : (g : Focus Act) (t : Bool) (x y : Moved) → (if t then x else y).outcome ≡ Goes g → (x.outcome ≡ Goes g → ⊥) → (y.outcome ≡ Goes g → ⊥) → ⊥
neither g true x y e h k = h e
neither g false x y e h k = k e

module _ (K : Kernel) (n : ℕ) (root : Body) (f : Focus Act) where
  abbrev Local : Does → Focus Act → Type 0
  Local d g = (u : World) × ((does_local root f d u).outcome ≡ Goes g)

  goes_local : (body : Body) (d : Does) (w : World) (g : Focus Act) → (does_in K n root body f d w).outcome ≡ Goes g → Local d g
  goes_local body (does.Opens x) w g e = (w, e)
  goes_local body (does.Waits r) w g e = absurd (cc)
  goes_local body does.Passes w g e = (w, taken_goes f _ g e)
  goes_local body (does.Leaves node x) w g e = (w, taken_goes f _ g e)
  goes_local body (does.Registers s) w g e = (w, taken_goes f _ g e)
  goes_local body does.Ends w g e = (w, taken_goes f _ g e)
  goes_local body does.Heads w g e = (w, taken_goes f _ g e)
  goes_local body (does.Emits s k v) w g e = absurd (cc)
  goes_local body (does.Spawns s c code pool alias vs) w g e = go (free_place pool f) e
    where
      go : (o : Option ℕ)
          → (let m : Moved = elim o [ None ↦ answered root f Past (marked mark.Full (set_alias body alias NotSet w)) | Some place ↦ spawned_at n body f s c code pool place alias vs w ] in m.outcome ≡ Goes g) → Local (does.Spawns s c code pool alias vs) g
      go None e = (marked mark.Full (set_alias body alias NotSet w), taken_goes f _ g e)
      go (Some place) e = absurd (neither g (w.given == 4294967295) _ _ e (λ z. absurd (cc)) (λ z. absurd (cc)))
  goes_local body (does.Kills k) w g e = (killed k f w, taken_goes (unseat k f) _ g e)
  goes_local body (does.Fails z) w g e = absurd (cc)

  pub stepped_goes : (w : World) (g : Focus Act) → (stepped K n root f w).outcome ≡ Goes g → Local (acted K n (body_of f root) (leaf f) w).does g
  unfolding stepped
  stepped_goes w g e = let d = acted K n (body_of f root) (leaf f) w in goes_local (body_of f root) d.does d.world g e

-- ---- a turn of the whole program

abbrev TurnOver : Kernel → Config → Type 0
TurnOver K c = (count : ℕ) × (is_turning (steps K count c) ≡ false)

over_now : (K : Kernel) (c : Config) → is_turning c ≡ false → TurnOver K c
unfolding steps
over_now K c h = (0, h)

over_next : (K : Kernel) (n : ℕ) (f : Focus Act) (w : World) → TurnOver K (next K (Turning n f w)) → TurnOver K (Turning n f w)
unfolding steps
over_next K n f w h = (suc h.0, h.1)

unless_over : (K : Kernel) (u : World) (c : Config) → TurnOver K c → TurnOver K (unless_failed u c)
unless_over K u c h = go u.fault
  where
    go : (o : Option (Fault × Pos)) → TurnOver K (elim o [ Some e ↦ Faulted e u | None ↦ c ])
    go None = h
    go (Some e) = over_now K (Faulted e u) refl

comes_over : (K : Kernel) (n : ℕ) (x : Outcome) (u : World) → ((g : Focus Act) → x ≡ Goes g → TurnOver K (Turning n g u)) → TurnOver K (config_of n x u)
comes_over K n (Goes g) u h = h g refl
comes_over K n (Rests r) u h = over_now K _ refl
comes_over K n (Raises r) u h = over_now K _ refl
comes_over K n (Fails e r) u h = over_now K _ refl
comes_over K n (Ends v) u h = over_now K _ refl
comes_over K n x u h = over_now K _ refl

pub turn_over : (K : Kernel) (n : ℕ) (f : Focus Act) (w : World) → Halts K n false any f → TurnOver K (Turning n f w)
unfolding next
turn_over K n f w (halts go left) =
    let m = stepped K n Program f w in
    over_next K n f w (unless_over K m.world (config_of n m.outcome m.world)
    (comes_over K n m.outcome m.world (λ g e. (let x = stepped_goes K n Program f w g e in turn_over K n g m.world (go (body_of f Program) Program w x.0 g x.1 refl)))))

-- ---- a turn of an async

abbrev ServeOver : Kernel → Body → Focus Act → World → Type 0
ServeOver K root f w = (count : ℕ) × (is_finished (serve K count root f w) ≡ true)

module _ (K : Kernel) (root : Body) where
  abbrev after : ℕ → Outcome → World → Served
  after c x u = elim x [
    | Goes g ↦ elim (is_again (leaf g)) [ true ↦ Turned (plug g (Run 0 Again)) u | false ↦ serve K c root g u ]
    | Fails e r ↦ Failed e r u
    | Rests r ↦ Turned r u
    | Raises r ↦ Turned r u
    | _ ↦ Done u
  ]

  abbrev AfterOver : Outcome → World → Type 0
  AfterOver x u = (c : ℕ) × (is_finished (after c x u) ≡ true)

  goes_over : (g : Focus Act) (u : World) → ((true && is_again (leaf g)) ≡ false → ServeOver K root g u) → AfterOver (Goes g) u
  goes_over g u h = go (is_again (leaf g)) refl
    where
      go : (t : Bool) → is_again (leaf g) ≡ t → (c : ℕ) × (is_finished (let s : Served = elim t [ true ↦ Turned (plug g (Run 0 Again)) u | false ↦ serve K c root g u ] in s) ≡ true)
      go true q = (0, refl)
      go false q = h q

  after_over : (x : Outcome) (u : World) → ((g : Focus Act) → x ≡ Goes g → (true && is_again (leaf g)) ≡ false → ServeOver K root g u) → AfterOver x u
  after_over (Goes g) u h = goes_over g u (h g refl)
  after_over (Fails e r) u h = (0, refl)
  after_over (Rests r) u h = (0, refl)
  after_over (Raises r) u h = (0, refl)
  after_over x u h = (0, refl)

  pub serve_over : (f : Focus Act) (w : World) → Halts K 0 true any f → ServeOver K root f w
  unfolding serve
  serve_over f w (halts go left) =
      let m = stepped K 0 root f w in
      let r = after_over m.outcome m.world (λ g e q. (let x = stepped_goes K 0 root f w g e in serve_over g m.world (go (body_of f root) root w x.0 g x.1 q))) in
      (suc r.0, r.1)
