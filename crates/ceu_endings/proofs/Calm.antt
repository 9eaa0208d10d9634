-- Where a turn of one trail rests, no leaf can run at level 0, and no turn opens a level.
use Rattle.std.proofs.Common.{◌≡◌, refl, sym, ap, subst, ℕ, zero, suc, int_lt, Bool, true, false, if◌then◌else◌, ◌==◌, List, Option, Some, None}
use Rattle.ceu_base.specs.declared.kinds.Pos.{Pos}
use Rattle.ceu_base.specs.declared.kinds.Fault.{Fault}
use Rattle.ceu_tree.specs.declared.kernel.Kernel.{Kernel}
use Rattle.ceu_tree.specs.declared.kernel.KLoop.{KLoop}
use Rattle.ceu_tree.specs.declared.kernel.KLoop.TheVariants as turns
use Rattle.ceu_tree.specs.declared.kernel.KNode.{KNode}
use Rattle.ceu_tree.specs.declared.kernel.KBlock.{KBlock, out-KBlock}
use Rattle.ceu_tree.specs.declared.kernel.KStmt.{out-KStmt}
use Rattle.ceu_tree.specs.declared.kernel.KStmt.TheOpen.{KStmt-F}
use Rattle.ceu_tree.specs.Residual.{Body, Program, Act, Counter, Turns, Upward, Residual, Over, Instances, no_instance, Block}
use Rattle.ceu_tree.specs.Focus.{Frame, OfBlock, OfOpen, OfLoop, Focus, Here, In, fill, plug, leaf, body_of, under, choose}
use Rattle.ceu_tree.specs.World.{World}
use Rattle.ceu_tree.specs.Wake.{runs_at}
use Rattle.ceu_tree.specs.Leaf as does
use Rattle.ceu_tree.specs.Leaf.{Layer, Exit, Escape, Break, Continue, Does, acted}
use Rattle.ceu_tree.specs.Around.{Outcome, Goes, Rests, Raises, Fails, Past, Registers, AtBlockEnd, AtLoopHead, Ends, Leaves, Moved, body_left, open_left, loop_left, turn_of, next_turn, through, up, taken}
use Rattle.ceu_tree.specs.Step.{stepped}
use Rattle.ceu_tree.specs.Proper.{is_proper}
use Rattle.ceu_tree.specs.Run.{Config, Turning, Between, Waiting, Ended, Faulted, config_of, unless_failed, chosen_at, next, steps}
use Rattle.laws_meaning_basics.specs.Shape.{ConfigFits}
use Rattle.laws_meaning_basics.proofs.RunFits.{next_fits}
use Rattle.ceu_single.specs.Single.{is_single}
use Rattle.ceu_endings.specs.OneTrail.{PlainFrame, PlainFocus}
use Rattle.ceu_endings.specs.Laws.{is_turning, Settled}
use Rattle.ceu_endings.proofs.Local.{does_local, local}
use Rattle.ceu_endings.proofs.Shapes.{plain_focus, no_codes}
use Rattle.ceu_endings.proofs.Plain.{PlainDoes, acted_plain}
use Rattle.ceu_endings.proofs.Over.{turn_steps}

abbrev pub Quiet : Residual → Type 0
Quiet r = choose Act (runs_at 0) r ≡ None

abbrev pub Calm : Outcome → Type 0
Calm (Rests r) = Quiet r
Calm (Raises r) = ⊥
Calm x = Unit {0}

over_quiet : Quiet Over
unfolding choose
over_quiet = refl

fill_quiet : (fr : Frame) (r : Residual) → PlainFrame fr → Quiet r → Quiet (fill fr r)
unfolding choose
fill_quiet (OfBlock b fin all rest) r h q = subst (λ i. Quiet (Block b fin i r rest)) (sym h.1) (ap (λ o. under (OfBlock b fin no_instance rest) o) q)
fill_quiet (OfOpen s) r h q = ap (under (OfOpen s)) q
fill_quiet (OfLoop s c) r h q = ap (under (OfLoop s c)) q
fill_quiet fr r h q = absurd h

pub plug_quiet : (f : Focus Act) (r : Residual) → PlainFocus f → Quiet r → Quiet (plug f r)
unfolding PlainFocus
plug_quiet (Here a) r h q = q
plug_quiet (In fr f) r h q = fill_quiet fr (plug f r) h.0 (plug_quiet f r h.1 q)

-- ---- the parts around a leaf

body_left_calm : (t : Bool) (b : KBlock) (fin : List KNode) (all : Instances) (f : Focus Act) (body : Body) (n : ℕ) (x : Exit) (w : World) → Calm (body_left t b fin all f body n x w).outcome
body_left_calm true b fin all f body n x w = tt
body_left_calm false b fin all f body n x w = tt

open_left_calm : (t : Bool) (s : KNode) (f : Focus Act) (body : Body) (n : ℕ) (x : Exit) (w : World) → Calm (open_left t s f body n x w).outcome
open_left_calm true s f body n x w = tt
open_left_calm false s f body n x w = tt

loop_left_calm : (t : Bool) (s : KNode) (c : Counter) (f : Focus Act) (body : Body) (n : ℕ) (x : Exit) (w : World) → Calm (loop_left t s c f body n x w).outcome
loop_left_calm true s c f body n Continue w = tt
loop_left_calm true s c f body n Break w = tt
loop_left_calm true s c f body n (Escape v) w = tt
loop_left_calm false s c f body n x w = tt

either_calm : (b : Bool) (x y : Moved) → Calm x.outcome → Calm y.outcome → Calm (if b then x else y).outcome
either_calm true x y h k = h
either_calm false x y h k = k

turn_calm : (s : KNode) (k : KLoop) (b : KBlock) (c : Counter) (body : Body) (w : World) → Calm (turn_of s k b c body w).outcome
turn_calm s (turns.Times slot limit) b (Turns j) body w = either_calm (j == limit) _ _ tt tt
turn_calm s (turns.Range i at end open_a x y open_b) b (Upward next last) body w = either_calm (int_lt last next) _ _ tt tt
turn_calm s k b c body w = tt

next_calm : (s : KNode) (layer : Layer) (c : Counter) (body : Body) (w : World) → Calm (next_turn s layer c body w).outcome
next_calm s (KStmt-F.Loop k b) c body w = turn_calm s k b c body w
next_calm s layer c body w = tt

through_calm : (body : Body) (fr : Frame) (f : Focus Act) (x : Outcome) (w : World) → PlainFrame fr → Calm x → Calm (through body fr f x w).outcome
through_calm body fr f (Goes g) w h k = tt
through_calm body fr f (Rests r) w h k = fill_quiet fr r h k
through_calm body fr f (Raises r) w h k = absurd k
through_calm body fr f (Fails e r) w h k = tt
through_calm body (OfBlock b fin all rest) f Past w h k = tt
through_calm body (OfBlock b fin all rest) f (Registers s) w h k = tt
through_calm body (OfBlock b fin all rest) f AtBlockEnd w h k = tt
through_calm body (OfBlock b fin all rest) f (Leaves node x) w h k = body_left_calm (node == (out-KBlock b).node) b fin all f body node x w
through_calm body (OfOpen s) f (Ends v) w h k = tt
through_calm body (OfOpen s) f (Leaves node x) w h k = open_left_calm (node == s.node) s f body node x w
through_calm body (OfLoop s c) f AtLoopHead w h k = next_calm s (out-KStmt s.stmt) c body w
through_calm body (OfLoop s c) f (Ends v) w h k = tt
through_calm body (OfLoop s c) f (Leaves node x) w h k = loop_left_calm (node == s.node) s c f body node x w
through_calm body (OfBlock b fin all rest) f x w h k = fill_quiet (OfBlock b fin all rest) Over h over_quiet
through_calm body (OfOpen s) f x w h k = fill_quiet (OfOpen s) Over h over_quiet
through_calm body (OfLoop s c) f x w h k = fill_quiet (OfLoop s c) Over h over_quiet
through_calm body fr f x w h k = absurd h

up_calm : (body : Body) (f : Focus Act) (x : Outcome) (w : World) → PlainFocus f → Calm x → Calm (up body f x w).outcome
unfolding up PlainFocus
up_calm body (Here a) x w h k = k
up_calm body (In (OfBlock b fin all rest) f) x w h k = through_calm body (OfBlock b fin all rest) f (up body f x w).outcome (up body f x w).world h.0 (up_calm body f x w h.1 k)
up_calm body (In (OfOpen s) f) x w h k = through_calm body (OfOpen s) f (up body f x w).outcome (up body f x w).world h.0 (up_calm body f x w h.1 k)
up_calm body (In (OfLoop s c) f) x w h k = through_calm body (OfLoop s c) f (up body f x w).outcome (up body f x w).world h.0 (up_calm body f x w h.1 k)
up_calm body (In fr f) x w h k = absurd h.0

does_calm : (body : Body) (f : Focus Act) (x : Does) (w : World) → PlainFocus f → PlainDoes x → Calm (does_local body f x w).outcome
does_calm body f (does.Opens y) w h k = tt
does_calm body f (does.Waits r) w h k = plug_quiet f r h k
does_calm body f does.Passes w h k = up_calm body f Past w h tt
does_calm body f (does.Leaves node y) w h k = up_calm body f (Leaves node y) w h tt
does_calm body f (does.Registers s) w h k = absurd k
does_calm body f does.Ends w h k = up_calm body f AtBlockEnd w h tt
does_calm body f does.Heads w h k = up_calm body f AtLoopHead w h tt
does_calm body f (does.Emits s e v) w h k = absurd k
does_calm body f (does.Spawns s c code pool alias vs) w h k = absurd k
does_calm body f (does.Kills j) w h k = absurd k
does_calm body f (does.Fails e) w h k = tt

taken_calm : (f : Focus Act) (x : Outcome) → PlainFocus f → Calm x → Calm (taken f x)
taken_calm f (Goes g) h k = tt
taken_calm f (Rests r) h k = k
taken_calm f (Raises r) h k = absurd k
taken_calm f (Fails e r) h k = tt
taken_calm f (Ends v) h k = tt
taken_calm f (Leaves node x) h k = plug_quiet f Over h over_quiet
taken_calm f x h k = over_quiet

-- ---- configurations

-- the turn is at level 0, and after it no leaf can run
abbrev pub Good : Config → Type 0
Good (Turning n f w) = n ≡ 0
Good (Between n r w) = (n ≡ 0) × Quiet r
Good c = Unit {0}

module _ (K : Kernel) (proper : is_proper K ≡ true) (single : is_single K ≡ true) where
  step_calm : (n : ℕ) (f : Focus Act) (w : World) → ConfigFits K (Turning n f w) → Calm (stepped K n Program f w).outcome
  unfolding local
  step_calm n f w h =
      let a = no_codes K single in
      let p = plain_focus K a.0 h.around a.1 in
      let d = acted K n (body_of f Program) (leaf f) w in
      subst (λ m. Calm m.outcome) (sym (turn_steps K proper single n f w h))
      (taken_calm f (does_local Program f d.does d.world).outcome p.0 (does_calm Program f d.does d.world p.0 (acted_plain K n (body_of f Program) h.part (leaf f) w h.acts p.1)))

  config_good : (n : ℕ) (x : Outcome) (w : World) → n ≡ 0 → Calm x → Good (config_of n x w)
  config_good n (Goes g) w e k = e
  config_good n (Rests r) w e k = (e, k)
  config_good n (Raises r) w e k = absurd k
  config_good n (Fails z r) w e k = tt
  config_good n (Ends v) w e k = tt
  config_good n x w e k = (e, over_quiet)

  unless_good : (w : World) (c : Config) → Good c → Good (unless_failed w c)
  unless_good w c h = go w.fault
    where
      go : (o : Option (Fault × Pos)) → Good (elim o [ Some e ↦ Faulted e w | None ↦ c ])
      go None = h
      go (Some e) = tt

  pub next_good : (c : Config) → ConfigFits K c → Good c → Good (next K c)
  unfolding next
  next_good (Turning n f w) h e = let m = stepped K n Program f w in unless_good m.world (config_of n m.outcome m.world) (config_good n m.outcome m.world e (step_calm n f w h))
  next_good (Between zero r w) h k = subst (λ o. Good (chosen_at 0 o r w)) (sym k.1) tt
  next_good (Between (suc n) r w) h k = absurd (let z = k.0 in cc)
  next_good (Waiting r w) h k = tt
  next_good (Ended v w) h k = tt
  next_good (Faulted e w) h k = tt

  pub steps_good : (k : ℕ) (c : Config) → ConfigFits K c → Good c → Good (steps K k c)
  unfolding steps
  steps_good zero c h g = g
  steps_good (suc k) (Turning n f w) h g = steps_good k (next K (Turning n f w)) (next_fits K proper (Turning n f w) h) (next_good (Turning n f w) h g)
  steps_good (suc k) (Between n r w) h g = steps_good k (next K (Between n r w)) (next_fits K proper (Between n r w) h) (next_good (Between n r w) h g)
  steps_good (suc k) (Waiting r w) h g = tt
  steps_good (suc k) (Ended v w) h g = tt
  steps_good (suc k) (Faulted e w) h g = tt

good_settled : (c : Config) → Good c → is_turning c ≡ false → Settled c
good_settled (Turning n f w) g h = absurd (cc)
good_settled (Between n r w) g h = g
good_settled (Waiting r w) g h = tt
good_settled (Ended v w) g h = tt
good_settled (Faulted e w) g h = tt

pub turn_settles : (K : Kernel) (k : ℕ) (f : Focus Act) (w : World) → is_proper K ≡ true → is_single K ≡ true → ConfigFits K (Turning 0 f w) → is_turning (steps K k (Turning 0 f w)) ≡ false → Settled (steps K k (Turning 0 f w))
turn_settles K k f w proper single h e = good_settled (steps K k (Turning 0 f w)) (steps_good K proper single k (Turning 0 f w) h refl) e
