-- The commands of a session that runs a compiled program.
use Rattle.std.proofs.Common.{◌≡◌, refl, sym, ap, ◌∙◌, subst, ℕ, zero, suc, ◌<◌, ◌+◌, ◌^◌, ℤ, List, [], ◌∷◌, length, Result, IfOk, OnOk, OnErr, IsTrue, arith}
use Rattle.std.specs.Prelude.{slice_get}
use Rattle.ceu_base.specs.Values.{is_value}
use Rattle.ceu_base.specs.declared.kinds.Mark.{Mark}
use Rattle.ceu_base.specs.declared.kinds.Port.{Port}
use Rattle.ceu_code.specs.declared.image.Image.{Image}
use Rattle.ceu_run.specs.Reactions.{Reaction, IsWaiting}
use Rattle.ceu_follows.specs.Reactions.{Agrees, Follows}
use Rattle.ceu_follows.proofs.Booting.{boot_follows}
use Rattle.ceu_follows.proofs.Commands.{command_follows}
use Rattle.ceu_follows.proofs.Runs.{image_is_sound}
use Rattle.ceu_io.specs.declared.outside.Failed.{Failed}
use Rattle.ceu_isa.specs.Commands.{booted, input_done, advanced, idle_turn, marks_of}
use Rattle.ceu_isa.specs.Commands as commands
use Rattle.ceu_isa.specs.Reactions as machine
use Rattle.ceu_isa.specs.Safety.{IsCommand, IsInput, IsSound}
use Rattle.ceu_machine.specs.Noting.{Noted, Stopped}
use Rattle.ceu_machine.specs.States.{plain}
use Rattle.ceu_react.specs.Coming.{Came}
use Rattle.ceu_react.specs.Sessions.{Seen, state_after}
use Rattle.ceu_react.specs.declared.after.After.{After}
use Rattle.ceu_react.specs.declared.after.State.{State}
use Rattle.ceu_react.specs.declared.after.State.TheVariants as state
use Rattle.ceu_script.specs.Commands as script
use Rattle.ceu_script.specs.Shapes.{type_at}
use Rattle.ceu_shape.specs.Plans.{Plan}
use Rattle.ceu_shape.specs.Shape.{shape}
use Rattle.ceu_simulates.proofs.Steps.{steps_are_done}
use Rattle.ceu_trail.specs.Compiled.{Compiled}
use Rattle.ceu_tree.specs.declared.command.Command.{Command}
use Rattle.ceu_tree.specs.declared.command.Command.TheVariants.{Input, Advance, Idle}
use Rattle.ceu_tree.specs.declared.kernel.Kernel.{Kernel}
use Rattle.ceu_tree.specs.Residual.{Residual}
use Rattle.ceu_tree.specs.World.{World}
use Rattle.ceu_tree.specs.Run as run
use Rattle.ceu_tree.specs.Run.{Config, Waiting, world_of, steps}
use Rattle.ceu_run.specs.Standing.{IsCompiled, IsFresh, StandsAt, Stands, answered, config_of}
use Rattle.ceu_run.proofs.Agreeing.{reaction}

-- ---- what a command asks

pub waits_so : (image : Image) (P : Plan) (width : ℕ → ℕ) (K : Kernel) (r : Residual) (w : World) (s : State) (bytes : List ℕ) → Agrees image P width K (Waiting r w) (config_of s bytes) → s ≡ state.Waiting
waits_so image P width K r w state.Waiting bytes h = refl
waits_so image P width K r w (state.Ended v) bytes h = absurd h
waits_so image P width K r w (state.Faulted f p) bytes h = absurd h
waits_so image P width K r w state.Fresh bytes h = absurd h
waits_so image P width K r w state.Broken bytes h = absurd h

-- a session that stands for a program that waits, waits
pub waits : (s : Seen) (inputs : List Port) → IsWaiting (Stands s) inputs → s.state ≡ state.Waiting
waits s inputs h = waits_so s.image h.here.compiled.plan h.here.compiled.width h.kernel h.tree h.world s.state s.bytes h.here.agrees

input_fits : (inputs : List Port) (k : ℕ) (v : ℤ) → k < length inputs → IsTrue (is_value (type_at inputs k) v) → IsInput (slice_get inputs k) v
input_fits [] k v less is = absurd (omega arith)
input_fits (port ∷ inputs) zero v less is = is
input_fits (port ∷ inputs) (suc k) v less is = input_fits inputs k v (omega arith) is

inputs_shaped : (P : Plan) (K : Kernel) (turns levels : ℕ) → (shape P K turns levels).inputs ≡ K.inputs
unfolding shape
inputs_shaped P K turns levels = refl

inputs_are : (image : Image) (P : Plan) (width : ℕ → ℕ) (K : Kernel) → Compiled image P width K → image.inputs ≡ K.inputs
inputs_are image P width K c = ap (λ (i : Image). i.inputs) c.shaped.3 ∙ inputs_shaped P K c.shaped.0 c.shaped.1

pub takes : (s : Seen) (inputs : List Port) (event : ℕ) (v : ℤ) → IsWaiting (Stands s) inputs → script.IsCommand inputs (Input event v) → IsCommand s.image (Input event v)
takes s inputs event v h is =
    let same : s.image.inputs ≡ inputs = inputs_are s.image h.here.compiled.plan h.here.compiled.width h.kernel h.here.compiled.compiled ∙ h.inputs_are in
    subst (λ (ports : List Port). IsInput (slice_get ports event) v) (sym same) (input_fits inputs event v is.0 is.1)

-- ---- what it comes to

-- a compiled image does nothing that isn't allowed
pub compiled_is_sound : (image : Image) (K : Kernel) → IsCompiled image K → IsSound image
compiled_is_sound image K c = image_is_sound image c.plan c.width K c.compiled c.ends steps_are_done

module _ (image : Image) (P : Plan) (width : ℕ → ℕ) (K : Kernel) (before : List Mark) where
  follows_input : (event : ℕ) (v : ℤ) (c : Config) (d : machine.Config) → Follows image P width K before [] (λ n. run.done K n (Input event v) c) (commands.done image (Input event v) d)
      → Follows image P width K before [] (λ n. run.input K n event v c) (input_done image event v d)
  unfolding run.done commands.done
  follows_input event v c d f = f

  follows_advance : (us : ℕ) (c : Config) (d : machine.Config) → Follows image P width K before [] (λ n. run.done K n (Advance us) c) (commands.done image (Advance us) d)
      → Follows image P width K before [] (λ n. run.done K n (Advance us) c) (advanced image (us + 1) us d)
  unfolding commands.done
  follows_advance us c d f = f

  follows_idle : (c : Config) (d : machine.Config) → Follows image P width K before [] (λ n. run.done K n (Idle 1) c) (commands.done image (Idle 1) d)
      → Follows image P width K before [] (λ n. run.idle_turn K n c) (idle_turn image d)
  unfolding run.done commands.done commands.idle_turns
  follows_idle c d f = f

-- the session after a command
kept : (old new : Seen) (K : Kernel) (r : Result After Failed) → new.image ≡ old.image → new.state ≡ state_after r → (c : IsCompiled old.image K)
    → (b : Config) → Agrees old.image c.plan c.width K b (config_of (state_after r) new.bytes) → Stands new K b
kept old new K r same state_is c b agrees =
    subst (λ (i : Image). StandsAt i new.state new.bytes K b) (sym same)
    (subst (λ (s : State). StandsAt old.image s new.bytes K b) (sym state_is) (record { compiled = c; agrees = agrees }))

module _ {W : Type 0} (notes stops : W → Mark → W → Type 0) (old new : Seen) (out now : W) (r : Result After Failed) (same : new.image ≡ old.image) (state_is : new.state ≡ state_after r) where
  -- what the machine comes to is what was answered and noted
  abbrev pub Answers : machine.Config → Type 0
  Answers d = IfOk r (λ a. Came d a new.bytes) × OnOk r (Noted notes (marks_of d) out now) × OnErr r (Stopped notes stops (marks_of d) out now)

  comes : (K : Kernel) (later : ℕ → Config) (before : List Mark) (d : machine.Config) (c : IsCompiled old.image K)
      → Follows old.image c.plan c.width K before [] later d → Answers d → Reaction notes stops (Stands new K) later before out now (answered r)
  comes K later before d c f a = reaction old.image c.plan c.width K notes stops (Stands new K) later before out now d new.bytes r f a.0 a.1 a.2 (kept old new K r same state_is c)

  pub boot_comes : Answers (booted old.image (plain old.bytes)) → (K : Kernel) → IsFresh old K
      → Reaction notes stops (Stands new K) (λ n. steps K n (run.booted K)) [] out now (answered r)
  boot_comes a K fresh = comes K (λ n. steps K n (run.booted K)) [] (booted old.image (plain old.bytes)) fresh.compiled
      (subst (λ (bs : List ℕ). Follows old.image fresh.compiled.plan fresh.compiled.width K [] [] (λ n. steps K n (run.booted K)) (booted old.image (plain bs))) (sym fresh.blank)
      (boot_follows old.image fresh.compiled.plan fresh.compiled.width K fresh.compiled.compiled fresh.compiled.ends steps_are_done)) a

  -- a command from where the session waits
  follows : (x : Command) → IsCommand old.image x → old.state ≡ state.Waiting → (K : Kernel) (b : Config) → (h : Stands old K b)
      → Follows old.image h.compiled.plan h.compiled.width K (world_of b).marks [] (λ n. run.done K n x b) (commands.done old.image x (machine.Waits (plain old.bytes)))
  follows x is waiting K b h = command_follows old.image h.compiled.plan h.compiled.width K h.compiled.compiled h.compiled.ends steps_are_done x b (machine.Waits (plain old.bytes)) is
      (subst (λ (s : State). Agrees old.image h.compiled.plan h.compiled.width K b (config_of s old.bytes)) waiting h.agrees)

  input_comes : (event : ℕ) (v : ℤ) → Answers (input_done old.image event v (machine.Waits (plain old.bytes))) → IsCommand old.image (Input event v) → old.state ≡ state.Waiting
      → (K : Kernel) (b : Config) → Stands old K b → Reaction notes stops (Stands new K) (λ n. run.input K n event v b) (world_of b).marks out now (answered r)
  input_comes event v a is waiting K b h = comes K (λ n. run.input K n event v b) (world_of b).marks (input_done old.image event v (machine.Waits (plain old.bytes))) h.compiled
      (follows_input old.image h.compiled.plan h.compiled.width K (world_of b).marks event v b (machine.Waits (plain old.bytes)) (follows (Input event v) is waiting K b h)) a

  -- the same with the value as the machine's code has it
  pub input_comes_as : (event : ℕ) (v u : ℤ) → u ≡ v → Answers (input_done old.image event u (machine.Waits (plain old.bytes))) → IsCommand old.image (Input event v) → old.state ≡ state.Waiting
      → (K : Kernel) (b : Config) → Stands old K b → Reaction notes stops (Stands new K) (λ n. run.input K n event v b) (world_of b).marks out now (answered r)
  input_comes_as event v u e a = input_comes event v (subst (λ (x : ℤ). Answers (input_done old.image event x (machine.Waits (plain old.bytes)))) e a)

  pub advance_comes : (us : ℕ) → Answers (advanced old.image (us + 1) us (machine.Waits (plain old.bytes))) → us < 2 ^ 63 → old.state ≡ state.Waiting
      → (K : Kernel) (b : Config) → Stands old K b → Reaction notes stops (Stands new K) (λ n. run.done K n (Advance us) b) (world_of b).marks out now (answered r)
  advance_comes us a is waiting K b h = comes K (λ n. run.done K n (Advance us) b) (world_of b).marks (advanced old.image (us + 1) us (machine.Waits (plain old.bytes))) h.compiled
      (follows_advance old.image h.compiled.plan h.compiled.width K (world_of b).marks us b (machine.Waits (plain old.bytes)) (follows (Advance us) is waiting K b h)) a

  pub idle_comes : Answers (idle_turn old.image (machine.Waits (plain old.bytes))) → old.state ≡ state.Waiting
      → (K : Kernel) (b : Config) → Stands old K b → Reaction notes stops (Stands new K) (λ n. run.idle_turn K n b) (world_of b).marks out now (answered r)
  idle_comes a waiting K b h = comes K (λ n. run.idle_turn K n b) (world_of b).marks (idle_turn old.image (machine.Waits (plain old.bytes))) h.compiled
      (follows_idle old.image h.compiled.plan h.compiled.width K (world_of b).marks b (machine.Waits (plain old.bytes)) (follows (Idle 1) (omega arith, omega arith) waiting K b h)) a
