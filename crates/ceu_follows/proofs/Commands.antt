-- Each command of the machine comes to what that of the reference semantics comes to, from configurations that agree.
use Rattle.std.proofs.Common.{◌≡◌, refl, sym, ap, ◌∙◌, subst, ℕ, zero, suc, ◌+◌, ◌-◌, min, ℤ, nat_le, Bool, true, false, Option, Some, None, arith}
use Rattle.std.specs.Prelude.{slice_get}
use Rattle.ceu_code.specs.declared.image.Image.{Image}
use Rattle.ceu_code.specs.Instructions.{cell}
use Rattle.ceu_isa.specs.Order.{Choice, Nowhere, Unclear, Chosen}
use Rattle.ceu_isa.specs.Reactions as machine
use Rattle.ceu_isa.specs.Commands as commands
use Rattle.ceu_isa.specs.Commands.{waits_for_input, woken_with, is_timer, sooner, is_due, is_served, served_again, input_given, time_passed, timers_woken, round_begun, advanced, idle_turn, idle_turns, first_unserved, serve, marks_of}
use Rattle.ceu_isa.specs.Safety.{IsInput, IsCommand}
use Rattle.ceu_isa.specs.Turns.{Machine}
use Rattle.ceu_tree.specs.declared.command.Command.{Command}
use Rattle.ceu_tree.specs.declared.command.Command.TheVariants.{Input, Advance, Idle}
use Rattle.ceu_tree.specs.declared.kernel.Kernel.{Kernel}
use Rattle.ceu_tree.specs.Residual.{Residual}
use Rattle.ceu_tree.specs.Focus.{Focus, choose}
use Rattle.ceu_tree.specs.World.{World}
use Rattle.ceu_tree.specs.Wake.{each_leaf, leaves, by_input, later, by_time, least_time, Unserved, unserved, new_round}
use Rattle.ceu_tree.specs.Run as run
use Rattle.ceu_tree.specs.Run.{Config, Turning, Between, Waiting, Ended, Faulted, world_of, steps, done, advance, input, served}
use Rattle.ceu_shape.specs.Plans.{Plan}
use Rattle.ceu_shape.specs.Shape.{shape}
use Rattle.laws_machine_layout.specs.Values.{MemoryStands}
use Rattle.laws_machine_layout.proofs.Occurrences.{input_stands, time_stands, due_stands, round_stands}
use Rattle.ceu_endings.specs.Ends.{EndsTurns}
use Rattle.ceu_endings.specs.OneTrail.{OneLeaf}
use Rattle.ceu_endings.proofs.Shapes.{one_leaf, no_codes}
use Rattle.ceu_trail.specs.Compiled.{Compiled}
use Rattle.ceu_trail.specs.Laws.{StepsAreDone}
use Rattle.ceu_trail.specs.Tables.{tables}
use Rattle.ceu_follows.specs.Reactions.{StandsWaiting, Agrees, Follows}
use Rattle.ceu_follows.proofs.Sweeps.{Unmoved, each_unmoved}
use Rattle.ceu_follows.proofs.Waits.{least_same, none_unserved, no_unserved, same_round}
use Rattle.ceu_follows.proofs.Together.{stays, as_well, follows_then}
use Rattle.ceu_follows.proofs.Ready.{advance_none, advance_due, advance_waits, input_kept, due_kept, later_kept, reacts_follow}

-- ---- advances of the machine

advanced_none : (image : Image) (j d : ℕ) (m : Machine) → commands.least_time image m.bytes ≡ None → advanced image (suc j) d (machine.Waits m) ≡ machine.Waits m
unfolding advanced
advanced_none image j d m e = rw (e, advanced) refl

advanced_due : (image : Image) (j d t : ℕ) (m : Machine) → commands.least_time image m.bytes ≡ Some t → nat_le t d ≡ true
    → advanced image (suc j) d (machine.Waits m) ≡ advanced image j (d - t) (machine.reacts image (timers_woken image (d - t) (time_passed image t m)))
unfolding advanced
advanced_due image j d t m e h = rw (e, advanced) (rw (h, advanced) refl)

advanced_waits : (image : Image) (j d t : ℕ) (m : Machine) → commands.least_time image m.bytes ≡ Some t → nat_le t d ≡ false → advanced image (suc j) d (machine.Waits m) ≡ machine.Waits (time_passed image d m)
unfolding advanced
advanced_waits image j d t m e h = rw (e, advanced) (rw (h, advanced) refl)

-- ---- idle turns

idle_is : (K : Kernel) (n : ℕ) (r : Residual) (w : World) → OneLeaf 0 r → run.idle_turn K n (Waiting r w) ≡ Waiting r w
idle_is K n r w h =
    let none : choose Unserved unserved r ≡ None = no_unserved 0 r h in
    let first : run.idle_turn K n (Waiting r w) ≡ served K n (choose Unserved unserved (each_leaf new_round r)) (each_leaf new_round r) w = by_none none in
    first ∙ ap (λ (q : Residual). served K n (choose Unserved unserved q) q w) (same_round 0 r h) ∙ ap (λ (o : Option (Focus Unserved)). served K n o r w) none
  where
    by_none : choose Unserved unserved r ≡ None → run.idle_turn K n (Waiting r w) ≡ served K n (choose Unserved unserved (each_leaf new_round r)) (each_leaf new_round r) w
    by_none e = ap (λ (o : Option (Focus Unserved)). elim o as (λ _. Config) [
      | Some g ↦ served K n (Some g) r w
      | None ↦ served K n (choose Unserved unserved (each_leaf new_round r)) (each_leaf new_round r) w
    ]) e

idles_nowhere : (image : Image) (m : Machine) → first_unserved image m.bytes ≡ Nowhere → first_unserved image (round_begun image m).bytes ≡ Nowhere → idle_turn image (machine.Waits m) ≡ machine.Waits (round_begun image m)
idles_nowhere image m e h = ap (λ (c : Choice). elim c as (λ _. machine.Config) [
  | Nowhere ↦ serve image (first_unserved image (round_begun image m).bytes) (round_begun image m)
  | Unclear ↦ machine.Lost
  | Chosen g ↦ serve image (Chosen g) m
]) e ∙ ap (λ (c : Choice). serve image c (round_begun image m)) h

module _ (image : Image) (P : Plan) (width : ℕ → ℕ) (K : Kernel) (compiled : Compiled image P width K) (ends : EndsTurns K) (laws : StepsAreDone) where
  inputs_are : image.inputs ≡ K.inputs
  unfolding shape
  inputs_are = ap (λ (i : Image). i.inputs) compiled.shaped.3

  -- ---- an input

  input_given_follows : (k : ℕ) (v : ℤ) (r : Residual) (w : World) (m : Machine) → StandsWaiting image P width K r w m → IsInput (slice_get image.inputs k) v
      → Follows image P width K w.marks m.marks (λ n. steps K n (Between 0 (each_leaf (by_input k v) r) w)) (machine.reacts image (input_given image k v m))
  input_given_follows k v r w m h i =
      let u : Unmoved image m.bytes (input_given image k v m).bytes = each_unmoved image (waits_for_input k) (woken_with (cell v)) image.gates m.bytes h.fits h.are_bytes in
      reacts_follow image P width K compiled ends laws h.stands.home (each_leaf (by_input k v) r) w (input_given image k v m)
      (input_kept K ends k v image.inputs r w h.kept i inputs_are) u.fits u.are_bytes (u.header 2 2 (omega arith) ∙ h.top_is)
      (input_stands image (tables P width K) h.stands.home r w m k v (h.fits, h.are_bytes, h.stands.memory))

  input_follows : (k : ℕ) (v : ℤ) (c : Config) (d : machine.Config) → IsInput (slice_get image.inputs k) v → Agrees image P width K c d
      → Follows image P width K (world_of c).marks (marks_of d) (λ n. input K n k v c) (commands.input_done image k v d)
  input_follows k v (Waiting r w) (machine.Waits m) i a = input_given_follows k v r w m a i
  input_follows k v (Ended x w) (machine.HasEnded u m) i a = stays image P width K (Ended x w) (machine.HasEnded u m) a
  input_follows k v (Faulted e w) (machine.HasFaulted f p m) i a = stays image P width K (Faulted e w) (machine.HasFaulted f p m) a
  input_follows k v c d i a = absurd a

  -- ---- the clock

  -- what comes then, with a delay
  abbrev FollowsOn : ℕ → Type 0
  FollowsOn j = (e : ℕ) (c : Config) (d : machine.Config) → Agrees image P width K c d → Follows image P width K (world_of c).marks (marks_of d) (λ n. advance K n j e c) (advanced image j e d)

  due_follows : (j d t : ℕ) (r : Residual) (w : World) (m : Machine) → StandsWaiting image P width K r w m → FollowsOn j → least_time (leaves r) ≡ Some t → nat_le t d ≡ true
      → Follows image P width K w.marks m.marks (λ n. advance K n (suc j) d (Waiting r w)) (advanced image (suc j) d (machine.Waits m))
  due_follows j d t r w m h on e le =
      let same : commands.least_time image m.bytes ≡ Some t = least_same K ends.single image (tables P width K) h.stands.home r w m.bytes h.kept.fits h.stands.memory ∙ e in
      let past : Machine = time_passed image t m in
      let woken : Machine = timers_woken image (d - t) (time_passed image t m) in
      let u : Unmoved image m.bytes (time_passed image t m).bytes = each_unmoved image is_timer (sooner t) image.gates m.bytes h.fits h.are_bytes in
      let x : Unmoved image (time_passed image t m).bytes (timers_woken image (d - t) (time_passed image t m)).bytes =
      each_unmoved image is_due (woken_with (min (d - t) 2147483647)) image.gates (time_passed image t m).bytes u.fits u.are_bytes in
      let q : Residual = each_leaf (by_time (d - t)) (each_leaf (later t) r) in
      let first : Follows image P width K w.marks m.marks (λ n. steps K n (Between 0 (each_leaf (by_time (d - t)) (each_leaf (later t) r)) w)) (machine.reacts image (timers_woken image (d - t) (time_passed image t m))) =
      reacts_follow image P width K compiled ends laws h.stands.home (each_leaf (by_time (d - t)) (each_leaf (later t) r)) w (timers_woken image (d - t) (time_passed image t m))
      (due_kept K ends d t r w h.kept e le) x.fits x.are_bytes (x.header 2 2 (omega arith) ∙ u.header 2 2 (omega arith) ∙ h.top_is)
      (due_stands image (tables P width K) h.stands.home (each_leaf (later t) r) w (time_passed image t m) (d - t)
      (u.fits, u.are_bytes, time_stands image (tables P width K) h.stands.home r w m t (h.fits, h.are_bytes, h.stands.memory))) in
      subst (λ (c : machine.Config). Follows image P width K w.marks m.marks (λ n. advance K n (suc j) d (Waiting r w)) c) (sym (advanced_due image j d t m same le))
      (follows_then image P width K w.marks m.marks (λ n. steps K n (Between 0 q w)) (λ n. advance K n (suc j) d (Waiting r w)) (λ n c. advance K n j (d - t) c) (machine.reacts image woken)
      (advanced image j (d - t) (machine.reacts image woken)) first (λ n. advance_due K n j d t r w e le) (on (d - t) first.config (machine.reacts image woken) first.agrees))

  waits_follow : (j d t : ℕ) (r : Residual) (w : World) (m : Machine) → StandsWaiting image P width K r w m → least_time (leaves r) ≡ Some t → nat_le t d ≡ false
      → Follows image P width K w.marks m.marks (λ n. advance K n (suc j) d (Waiting r w)) (advanced image (suc j) d (machine.Waits m))
  waits_follow j d t r w m h e le =
      let same : commands.least_time image m.bytes ≡ Some t = least_same K ends.single image (tables P width K) h.stands.home r w m.bytes h.kept.fits h.stands.memory ∙ e in
      let u : Unmoved image m.bytes (time_passed image d m).bytes = each_unmoved image is_timer (sooner d) image.gates m.bytes h.fits h.are_bytes in
      let a : StandsWaiting image P width K (each_leaf (later d) r) w (time_passed image d m) = record {
        kept = later_kept K ends d t r w h.kept e le;
        fits = u.fits;
        are_bytes = u.are_bytes;
        top_is = u.header 2 2 (omega arith) ∙ h.top_is;
        stands = record {
          home = h.stands.home;
          memory = time_stands image (tables P width K) h.stands.home r w m d (h.fits, h.are_bytes, h.stands.memory);
          state_is = u.header 2 0 (omega arith) ∙ h.stands.state_is;
        };
      } in
      subst (λ (c : machine.Config). Follows image P width K w.marks m.marks (λ n. advance K n (suc j) d (Waiting r w)) c) (sym (advanced_waits image j d t m same le))
      (as_well image P width K w.marks m.marks (λ n. Waiting (each_leaf (later d) r) w) (λ n. advance K n (suc j) d (Waiting r w)) (machine.Waits (time_passed image d m)) (λ n. advance_waits K n j d t r w e le)
      (stays image P width K (Waiting (each_leaf (later d) r) w) (machine.Waits (time_passed image d m)) a))

  by_least : (j d : ℕ) (r : Residual) (w : World) (m : Machine) → StandsWaiting image P width K r w m → FollowsOn j → (o : Option ℕ) → least_time (leaves r) ≡ o
      → Follows image P width K w.marks m.marks (λ n. advance K n (suc j) d (Waiting r w)) (advanced image (suc j) d (machine.Waits m))
  by_least j d r w m h on None e =
      let same : commands.least_time image m.bytes ≡ None = least_same K ends.single image (tables P width K) h.stands.home r w m.bytes h.kept.fits h.stands.memory ∙ e in
      subst (λ (c : machine.Config). Follows image P width K w.marks m.marks (λ n. advance K n (suc j) d (Waiting r w)) c) (sym (advanced_none image j d m same))
      (as_well image P width K w.marks m.marks (λ n. Waiting r w) (λ n. advance K n (suc j) d (Waiting r w)) (machine.Waits m) (λ n. advance_none K n j d r w e) (stays image P width K (Waiting r w) (machine.Waits m) h))
  by_least j d r w m h on (Some t) e = go (nat_le t d) refl
    where
      go : (b : Bool) → nat_le t d ≡ b → Follows image P width K w.marks m.marks (λ n. advance K n (suc j) d (Waiting r w)) (advanced image (suc j) d (machine.Waits m))
      go true le = due_follows j d t r w m h on e le
      go false le = waits_follow j d t r w m h e le

  advance_follows : (j e : ℕ) (c : Config) (d : machine.Config) → Agrees image P width K c d → Follows image P width K (world_of c).marks (marks_of d) (λ n. advance K n j e c) (advanced image j e d)
  unfolding advance advanced
  advance_follows zero e c d a = stays image P width K c d a
  advance_follows (suc j) e (Waiting r w) (machine.Waits m) a = by_least j e r w m a (λ x c d b. advance_follows j x c d b) (least_time (leaves r)) refl
  advance_follows (suc j) e (Ended x w) (machine.HasEnded u m) a = stays image P width K (Ended x w) (machine.HasEnded u m) a
  advance_follows (suc j) e (Faulted z w) (machine.HasFaulted f p m) a = stays image P width K (Faulted z w) (machine.HasFaulted f p m) a
  advance_follows (suc j) e c d a = absurd a

  -- ---- idle turns

  idle_one : (c : Config) (d : machine.Config) → Agrees image P width K c d → Follows image P width K (world_of c).marks (marks_of d) (λ n. run.idle_turn K n c) (idle_turn image d)
  idle_one (Waiting r w) (machine.Waits m) h =
      let one : OneLeaf 0 r = (let a = no_codes K ends.single in one_leaf K a.0 h.kept.fits a.1) in
      let u : Unmoved image m.bytes (round_begun image m).bytes = each_unmoved image is_served served_again image.gates m.bytes h.fits h.are_bytes in
      let memory : MemoryStands image (tables P width K) h.stands.home r w (round_begun image m).bytes =
      subst (λ (q : Residual). MemoryStands image (tables P width K) h.stands.home q w (round_begun image m).bytes) (same_round 0 r one)
      (round_stands image (tables P width K) h.stands.home r w m (h.fits, h.are_bytes, h.stands.memory)) in
      let a : StandsWaiting image P width K r w (round_begun image m) = record {
        kept = h.kept;
        fits = u.fits;
        are_bytes = u.are_bytes;
        top_is = u.header 2 2 (omega arith) ∙ h.top_is;
        stands = record { home = h.stands.home; memory = memory; state_is = u.header 2 0 (omega arith) ∙ h.stands.state_is };
      } in
      let is : idle_turn image (machine.Waits m) ≡ machine.Waits (round_begun image m) =
      idles_nowhere image m (none_unserved K ends.single image (tables P width K) h.stands.home r w m.bytes h.kept.fits h.stands.memory)
      (none_unserved K ends.single image (tables P width K) h.stands.home r w (round_begun image m).bytes h.kept.fits memory) in
      subst (λ (c : machine.Config). Follows image P width K w.marks m.marks (λ n. run.idle_turn K n (Waiting r w)) c) (sym is)
      (as_well image P width K w.marks m.marks (λ n. Waiting r w) (λ n. run.idle_turn K n (Waiting r w)) (machine.Waits (round_begun image m)) (λ n. idle_is K n r w one)
      (stays image P width K (Waiting r w) (machine.Waits (round_begun image m)) a))
  idle_one (Ended x w) (machine.HasEnded u m) a = stays image P width K (Ended x w) (machine.HasEnded u m) a
  idle_one (Faulted e w) (machine.HasFaulted f p m) a = stays image P width K (Faulted e w) (machine.HasFaulted f p m) a
  idle_one c d a = absurd a

  idle_follows : (k : ℕ) (c : Config) (d : machine.Config) → Agrees image P width K c d → Follows image P width K (world_of c).marks (marks_of d) (λ n. run.idle_turns K n k c) (idle_turns image k d)
  unfolding idle_turns
  idle_follows zero c d a = stays image P width K c d a
  idle_follows (suc k) c d a =
      let x : Follows image P width K (world_of c).marks (marks_of d) (λ n. run.idle_turn K n c) (idle_turn image d) = idle_one c d a in
      follows_then image P width K (world_of c).marks (marks_of d) (λ n. run.idle_turn K n c) (λ n. run.idle_turns K n (suc k) c) (λ n e. run.idle_turns K n k e) (idle_turn image d) (idle_turns image k (idle_turn image d)) x
      (λ n. refl) (idle_follows k x.config (idle_turn image d) x.agrees)

  -- ---- commands

  pub command_follows : (x : Command) (c : Config) (d : machine.Config) → IsCommand image x → Agrees image P width K c d
      → Follows image P width K (world_of c).marks (marks_of d) (λ n. done K n x c) (commands.done image x d)
  unfolding done commands.done
  command_follows (Input k v) c d i a = input_follows k v c d i a
  command_follows (Advance us) c d i a = advance_follows (us + 1) us c d a
  command_follows (Idle k) c d i a = idle_follows k c d a
