-- A session that runs a compiled program of one trail: an idle turn changes neither how it stands nor what it has run.
use Rattle.std.proofs.Common.{◌≡◌, refl, sym, ap, ◌∙◌, subst, ℕ, List, [], ◌∷◌, ◌++◌, Some}
use Rattle.ceu_code.specs.declared.image.Image.{Image}
use Rattle.ceu_endings.proofs.Shapes.{one_leaf, no_codes}
use Rattle.ceu_follows.specs.Reactions.{StandsWaiting, Agrees}
use Rattle.ceu_isa.specs.Commands as commands
use Rattle.ceu_isa.specs.Commands.{bytes_of, all_done, run}
use Rattle.ceu_isa.specs.Reactions as machine
use Rattle.ceu_machine.specs.States.{plain}
use Rattle.ceu_react.specs.Sessions.{Seen}
use Rattle.ceu_react.specs.declared.after.State.{State}
use Rattle.ceu_react.specs.declared.after.State.TheVariants as state
use Rattle.ceu_shape.specs.Plans.{Plan}
use Rattle.ceu_trail.specs.Tables.{tables}
use Rattle.ceu_tree.specs.declared.command.Command.{Command}
use Rattle.ceu_tree.specs.declared.command.Command.TheVariants.{Idle}
use Rattle.ceu_tree.specs.declared.kernel.Kernel.{Kernel}
use Rattle.ceu_tree.specs.Residual.{Residual}
use Rattle.ceu_tree.specs.World.{World}
use Rattle.ceu_tree.specs.Run.{Config, Turning, Between, Waiting, Ended, Faulted, Waits, HasEnded, HasFaulted, Reacting, idle_turn}
use Rattle.ceu_run.specs.Ran.{state_of, RanTo}
use Rattle.ceu_run.specs.RanLaws.{run_append, one_done, as_run, over_ran}
use Rattle.ceu_run.specs.Standing.{Stands, config_of}
use Rattle.ceu_run.proofs.CompiledCommands.{waits_so}
use Rattle.ceu_run.proofs.Resting.{NoAsyncs, no_asyncs, tree_rests, machine_rests}

-- what stands in the memory of a session whose program waits
waiting_stands : (image : Image) (P : Plan) (width : ℕ → ℕ) (K : Kernel) (r : Residual) (w : World) (s : State) (bytes : List ℕ) → Agrees image P width K (Waiting r w) (config_of s bytes) → StandsWaiting image P width K r w (plain bytes)
waiting_stands image P width K r w s bytes h =
    subst (λ (q : State). Agrees image P width K (Waiting r w) (config_of q bytes)) (waits_so image P width K r w s bytes h) h

module _ (s : Seen) (K : Kernel) where
  trail_rests : (n : ℕ) (r : Residual) (w : World) → Stands s K (Waiting r w) → idle_turn K n (Waiting r w) ≡ Waiting r w
  trail_rests n r w h =
      let stands = waiting_stands s.image h.compiled.plan h.compiled.width K r w s.state s.bytes h.agrees in
      let a = no_codes K h.compiled.ends.single in
      tree_rests K n r w (one_leaf K a.0 stands.kept.fits a.1)

  pub config_rests : (c : Config) (n : ℕ) → Stands s K c → idle_turn K n c ≡ c
  config_rests (Waiting r w) n h = trail_rests n r w h
  config_rests (Turning l f w) n h = refl
  config_rests (Between l r w) n h = refl
  config_rests (Ended v w) n h = refl
  config_rests (Faulted e w) n h = refl

-- ---- what it has run

-- the machine, as it stands behind some commands
run_rests : (image : Image) (c : machine.Config) (bytes : List ℕ) → state_of c ≡ Some state.Waiting → bytes ≡ bytes_of c → NoAsyncs image bytes → commands.idle_turn image c ≡ c
run_rests image (machine.Waits m) bytes is same none = machine_rests image m (subst (NoAsyncs image) same none)
run_rests image machine.Lost bytes is same none = absurd (cc)
run_rests image (machine.HasEnded v m) bytes is same none = absurd (cc)
run_rests image (machine.HasFaulted f p m) bytes is same none = absurd (cc)

one_turn : (image : Image) (c : machine.Config) → commands.done image (Idle 1) c ≡ commands.idle_turn image c
unfolding commands.done commands.idle_turns
one_turn image c = refl

turn_run : (image : Image) (xs : List Command) → run image (xs ++ Idle 1 ∷ []) ≡ commands.idle_turn image (run image xs)
turn_run image xs = run_append image xs (Idle 1 ∷ []) ∙ one_done image (Idle 1) (run image xs) ∙ one_turn image (run image xs)

reacts_on : Reacting ≡ Waits → ⊥
reacts_on h = cc

has_ended : (v : _) → HasEnded v ≡ Waits → ⊥
has_ended v h = cc

has_faulted : (e : _) → HasFaulted e ≡ Waits → ⊥
has_faulted e h = cc

module _ (start s : Seen) (xs : List Command) (K : Kernel) where
  waiting_ran : (r : Residual) (w : World) → Stands s K (Waiting r w) → RanTo start s xs → RanTo start s (xs ++ Idle 1 ∷ [])
  waiting_ran r w h ran =
      let stands = waiting_stands s.image h.compiled.plan h.compiled.width K r w s.state s.bytes h.agrees in
      let none : NoAsyncs s.image s.bytes = no_asyncs K h.compiled.ends.single s.image (tables h.compiled.plan h.compiled.width K) stands.stands.home r w s.bytes stands.kept.fits stands.stands.memory in
      let waits : state_of (run s.image xs) ≡ Some state.Waiting = ran.has_run.state_is ∙ ap Some (waits_so s.image h.compiled.plan h.compiled.width K r w s.state s.bytes h.agrees) in
      record {
        image_is = ran.image_is;
        has_run = as_run s xs (xs ++ Idle 1 ∷ []) (sym (turn_run s.image xs ∙ run_rests s.image (run s.image xs) s.bytes waits ran.has_run.bytes_are none)) ran.has_run;
      }

  pub turn_ran : (c : Config) → Stands s K c → RanTo start s xs → RanTo start s (xs ++ Idle 1 ∷ [])
  turn_ran (Waiting r w) h ran = waiting_ran r w h ran
  turn_ran (Turning l f w) h ran = over_ran K (Turning l f w) start s xs (Idle 1 ∷ []) h reacts_on ran
  turn_ran (Between l r w) h ran = over_ran K (Between l r w) start s xs (Idle 1 ∷ []) h reacts_on ran
  turn_ran (Ended v w) h ran = over_ran K (Ended v w) start s xs (Idle 1 ∷ []) h (has_ended v) ran
  turn_ran (Faulted e w) h ran = over_ran K (Faulted e w) start s xs (Idle 1 ∷ []) h (has_faulted e) ran
