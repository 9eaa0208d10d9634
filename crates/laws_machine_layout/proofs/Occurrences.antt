-- Inputs, the clock and rounds of asyncs: each change of leaves belongs to the machine's change of gates.
use Rattle.std.proofs.Common.{◌≡◌, refl, sym, ap, ◌∙◌, subst, ◌<◌, ◌≤◌, ℕ, ◌+◌, ◌-◌, ◌^◌, ℤ, pos, min, List, Option, Some, None, Bool, true, false, ◌==◌, arith}
use Rattle.std.specs.Prelude.{if◌then◌else◌, ◌&&◌}
use Rattle.ceu_code.specs.declared.image.Image.{Image}
use Rattle.ceu_code.specs.Instructions.{cell}
use Rattle.ceu_mem.specs.declared.gate.Gate.{Gate}
use Rattle.ceu_mem.specs.Memory.{IsGate}
use Rattle.ceu_isa.specs.Layout.{free, can_run, on_input, on_time, on_event, forever, unserved, served, finalizer}
use Rattle.ceu_isa.specs.Commands.{waits_for_input, woken_with, is_timer, sooner, is_due, is_served, served_again, input_given, time_passed, timers_woken, round_begun}
use Rattle.ceu_isa.specs.Safety.{Fits}
use Rattle.ceu_isa.specs.Turns.{Machine}
use Rattle.ceu_tree.specs.declared.kernel.Loc.{Loc}
use Rattle.ceu_tree.specs.declared.kernel.KNode.{KNode}
use Rattle.ceu_tree.specs.Residual.{Body, Act, Begin, Start, Finish, AtEnd, AtHead, Again, Residual, Over, Run, WaitInput, WaitTime, WaitEvent, WaitForever, InAsync, Block, Open, Loop, Call, Par}
use Rattle.ceu_tree.specs.World.{World}
use Rattle.ceu_tree.specs.Leaf.{target}
use Rattle.ceu_tree.specs.Wake.{each_leaf, by_input, later, by_time, new_round}
use Rattle.laws_machine_layout.specs.Tables.{Tables}
use Rattle.laws_machine_layout.specs.Views.{View, Home, Keeps, no_gate}
use Rattle.laws_machine_layout.specs.Leaves.{if_taken, RunsGate, LeafGate, leaf_node, async_kind}
use Rattle.laws_machine_layout.specs.Changes.{changed, ParkedLeaf, Belong}
use Rattle.laws_machine_layout.specs.Laws.{AreBytes, InputStands, TimeStands, DueStands, RoundStands}
use Rattle.laws_machine_layout.proofs.Gates.{cell_small}
use Rattle.laws_machine_layout.proofs.Seen.{memory_follows}

-- ---- gates that pass a test, and those that don't

abbrev if_passed : (Gate → Gate) → Gate → Bool → Gate
if_passed f gate b = if b then f gate else gate

stays : (test : Gate → Bool) (f : Gate → Gate) (gate : Gate) → test gate ≡ false → changed test f gate ≡ gate
stays test f gate e = ap (if_passed f gate) e

passes : (test : Gate → Bool) (f : Gate → Gate) (gate : Gate) → test gate ≡ true → changed test f gate ≡ f gate
passes test f gate e = ap (if_passed f gate) e

-- the kind of a gate tells that it is of no other
is_kind : (gate : Gate) (k n : ℕ) → gate.kind ≡ k → (gate.kind == n) ≡ (k == n)
is_kind gate k n e = ap (λ m. m == n) e

taken : (o : Option Loc) (value : ℤ) (gate : Gate) → gate.value ≡ cell value → if_taken o value gate
taken None value gate e = tt
taken (Some l) value gate e = e

runs_kind : (t : Tables) (h : Home) (a : Act) (gate : Gate) → RunsGate t h a gate → gate.kind ≡ can_run
runs_kind t h (Begin b) gate x = x.kind_is
runs_kind t h (Finish s value) gate x = x.0.kind_is
runs_kind t h (Start s) gate x = absurd x
runs_kind t h AtEnd gate x = absurd x
runs_kind t h AtHead gate x = absurd x
runs_kind t h Again gate x = absurd x

async_is : (test : ℕ → Bool) → test unserved ≡ false → test served ≡ false → (b : Bool) → test (async_kind b) ≡ false
async_is test e d true = d
async_is test e d false = e

module _ (t : Tables) where
  -- ---- inputs

  module _ (k : ℕ) (value : ℤ) where
    abbrev input_gate : Gate → Gate
    input_gate = changed (waits_for_input k) (woken_with (cell value))

    other_kind : (gate : Gate) (m : ℕ) → gate.kind ≡ m → (m == on_input) ≡ false → input_gate gate ≡ gate
    other_kind gate m e d = stays (waits_for_input k) (woken_with (cell value)) gate (ap (λ b. b && (gate.key == k)) (is_kind gate m on_input e ∙ d))

    input_follows : (h : Home) (r : Residual) (gate : Gate) → LeafGate t h r gate → LeafGate t h (by_input k value r) (input_gate gate)
    input_follows h (WaitInput m s) gate x = go (m == k) refl
      where
        test : (b : Bool) → (m == k) ≡ b → waits_for_input k gate ≡ b
        test b e = ap (λ c. c && (gate.key == k)) (is_kind gate on_input on_input x.0.kind_is) ∙ ap (λ n. n == k) x.1 ∙ e

        go : (b : Bool) → (m == k) ≡ b → LeafGate t h (if b then Run 0 (Finish s value) else WaitInput m s) (input_gate gate)
        go true e = subst (LeafGate t h (Run 0 (Finish s value))) (sym (passes (waits_for_input k) (woken_with (cell value)) gate (test true e)))
            ((record { kind_is = refl; code_is = x.0.code_is; frame_is = x.0.frame_is; base_is = x.0.base_is }, taken (target s) value _ refl), refl)
        go false e = subst (LeafGate t h (WaitInput m s)) (sym (stays (waits_for_input k) (woken_with (cell value)) gate (test false e))) x
    input_follows h (Run n a) gate x = subst (LeafGate t h (Run n a)) (sym (other_kind gate can_run (runs_kind t h a gate x.0) refl)) x
    input_follows h (WaitTime left s) gate x = subst (LeafGate t h (WaitTime left s)) (sym (other_kind gate on_time x.0.kind_is refl)) x
    input_follows h (WaitEvent e s) gate x = subst (LeafGate t h (WaitEvent e s)) (sym (other_kind gate on_event x.0.kind_is refl)) x
    input_follows h (WaitForever s) gate x = subst (LeafGate t h (WaitForever s)) (sym (other_kind gate forever x.kind_is refl)) x
    input_follows h (InAsync s b r) gate x = subst (LeafGate t h (InAsync s b r)) (sym (other_kind gate (async_kind b) x.kind_is (async_is (λ n. n == on_input) refl refl b))) x
    input_follows h Over gate x = absurd x
    input_follows h (Block b fin all r rest) gate x = absurd x
    input_follows h (Open s r) gate x = absurd x
    input_follows h (Loop s c r) gate x = absurd x
    input_follows h (Call s r) gate x = absurd x
    input_follows h (Par s bs) gate x = absurd x

    input_node : (r : Residual) → leaf_node (by_input k value r) ≡ leaf_node r
    input_node (WaitInput m s) = go (m == k)
      where
        go : (b : Bool) → leaf_node (if b then Run 0 (Finish s value) else WaitInput m s) ≡ s.node
        go true = refl
        go false = refl
    input_node r = refl

    input_parked : (home : Body → Home) (v : View) (r : Residual) (body : Body) → ParkedLeaf t home v r body → ParkedLeaf t home v (by_input k value r) body
    input_parked home v (WaitInput m s) body x = go (m == k)
      where
        go : (b : Bool) → ParkedLeaf t home v (if b then Run 0 (Finish s value) else WaitInput m s) body
        go true = tt
        go false = tt
    input_parked home v r body x = x

    input_belongs : Belong t (by_input k value) (changed (waits_for_input k) (woken_with (cell value)))
    input_belongs = record {
      free_stays = λ gate e. other_kind gate free e refl;
      finalizer_stays = λ gate e. other_kind gate finalizer e refl;
      forever_stays = λ gate e. other_kind gate forever e refl;
      node_stays = λ h r gate x. input_node r;
      gate_follows = input_follows;
      parked_follows = input_parked;
    }

  -- ---- the clock

  module _ (d : ℕ) where
    abbrev time_gate : Gate → Gate
    time_gate = changed is_timer (sooner d)

    untimed : (gate : Gate) (m : ℕ) → gate.kind ≡ m → (m == on_time) ≡ false → time_gate gate ≡ gate
    untimed gate m e q = stays is_timer (sooner d) gate (is_kind gate m on_time e ∙ q)

    time_follows : (h : Home) (r : Residual) (gate : Gate) → LeafGate t h r gate → LeafGate t h (later d r) (time_gate gate)
    time_follows h (WaitTime left s) gate x =
        subst (LeafGate t h (WaitTime (left - d) s)) (sym (passes is_timer (sooner d) gate (is_kind gate on_time on_time x.0.kind_is)))
        (record { kind_is = x.0.kind_is; code_is = x.0.code_is; frame_is = x.0.frame_is; base_is = x.0.base_is }, ap (λ n. n - d) x.1)
    time_follows h (Run n a) gate x = subst (LeafGate t h (Run n a)) (sym (untimed gate can_run (runs_kind t h a gate x.0) refl)) x
    time_follows h (WaitInput k s) gate x = subst (LeafGate t h (WaitInput k s)) (sym (untimed gate on_input x.0.kind_is refl)) x
    time_follows h (WaitEvent e s) gate x = subst (LeafGate t h (WaitEvent e s)) (sym (untimed gate on_event x.0.kind_is refl)) x
    time_follows h (WaitForever s) gate x = subst (LeafGate t h (WaitForever s)) (sym (untimed gate forever x.kind_is refl)) x
    time_follows h (InAsync s b r) gate x = subst (LeafGate t h (InAsync s b r)) (sym (untimed gate (async_kind b) x.kind_is (async_is (λ n. n == on_time) refl refl b))) x
    time_follows h Over gate x = absurd x
    time_follows h (Block b fin all r rest) gate x = absurd x
    time_follows h (Open s r) gate x = absurd x
    time_follows h (Loop s c r) gate x = absurd x
    time_follows h (Call s r) gate x = absurd x
    time_follows h (Par s bs) gate x = absurd x

    time_node : (r : Residual) → leaf_node (later d r) ≡ leaf_node r
    time_node (WaitTime left s) = refl
    time_node r = refl

    time_parked : (home : Body → Home) (v : View) (r : Residual) (body : Body) → ParkedLeaf t home v r body → ParkedLeaf t home v (later d r) body
    time_parked home v (WaitTime left s) body x = tt
    time_parked home v r body x = x

    time_belongs : Belong t (later d) (changed is_timer (sooner d))
    time_belongs = record {
      free_stays = λ gate e. untimed gate free e refl;
      finalizer_stays = λ gate e. untimed gate finalizer e refl;
      forever_stays = λ gate e. untimed gate forever e refl;
      node_stays = λ h r gate x. time_node r;
      gate_follows = time_follows;
      parked_follows = time_parked;
    }

  module _ (delay : ℕ) where
    abbrev due_gate : Gate → Gate
    due_gate = changed is_due (woken_with (min delay 2147483647))

    not_due : (gate : Gate) (m : ℕ) → gate.kind ≡ m → (m == on_time) ≡ false → due_gate gate ≡ gate
    not_due gate m e q = stays is_due (woken_with (min delay 2147483647)) gate (ap (λ b. b && (gate.value == 0)) (is_kind gate m on_time e ∙ q))

    -- a delay is held as it is
    delay_cell : cell (pos (min delay 2147483647)) ≡ min delay 2147483647
    delay_cell = omega arith

    due_follows : (h : Home) (r : Residual) (gate : Gate) → LeafGate t h r gate → LeafGate t h (by_time delay r) (due_gate gate)
    due_follows h (WaitTime left s) gate x = go (left == 0) refl
      where
        test : (b : Bool) → (left == 0) ≡ b → is_due gate ≡ b
        test b e = ap (λ c. c && (gate.value == 0)) (is_kind gate on_time on_time x.0.kind_is) ∙ ap (λ n. n == 0) x.1 ∙ e

        go : (b : Bool) → (left == 0) ≡ b → LeafGate t h (if b then Run 0 (Finish s (pos (min delay 2147483647))) else WaitTime left s) (due_gate gate)
        go true e = subst (LeafGate t h (Run 0 (Finish s (pos (min delay 2147483647))))) (sym (passes is_due (woken_with (min delay 2147483647)) gate (test true e)))
            ((record { kind_is = refl; code_is = x.0.code_is; frame_is = x.0.frame_is; base_is = x.0.base_is }, taken (target s) (pos (min delay 2147483647)) _ (sym delay_cell)), refl)
        go false e = subst (LeafGate t h (WaitTime left s)) (sym (stays is_due (woken_with (min delay 2147483647)) gate (test false e))) x
    due_follows h (Run n a) gate x = subst (LeafGate t h (Run n a)) (sym (not_due gate can_run (runs_kind t h a gate x.0) refl)) x
    due_follows h (WaitInput k s) gate x = subst (LeafGate t h (WaitInput k s)) (sym (not_due gate on_input x.0.kind_is refl)) x
    due_follows h (WaitEvent e s) gate x = subst (LeafGate t h (WaitEvent e s)) (sym (not_due gate on_event x.0.kind_is refl)) x
    due_follows h (WaitForever s) gate x = subst (LeafGate t h (WaitForever s)) (sym (not_due gate forever x.kind_is refl)) x
    due_follows h (InAsync s b r) gate x = subst (LeafGate t h (InAsync s b r)) (sym (not_due gate (async_kind b) x.kind_is (async_is (λ n. n == on_time) refl refl b))) x
    due_follows h Over gate x = absurd x
    due_follows h (Block b fin all r rest) gate x = absurd x
    due_follows h (Open s r) gate x = absurd x
    due_follows h (Loop s c r) gate x = absurd x
    due_follows h (Call s r) gate x = absurd x
    due_follows h (Par s bs) gate x = absurd x

    due_node : (r : Residual) → leaf_node (by_time delay r) ≡ leaf_node r
    due_node (WaitTime left s) = go (left == 0)
      where
        go : (b : Bool) → leaf_node (if b then Run 0 (Finish s (pos (min delay 2147483647))) else WaitTime left s) ≡ s.node
        go true = refl
        go false = refl
    due_node r = refl

    due_parked : (home : Body → Home) (v : View) (r : Residual) (body : Body) → ParkedLeaf t home v r body → ParkedLeaf t home v (by_time delay r) body
    due_parked home v (WaitTime left s) body x = go (left == 0)
      where
        go : (b : Bool) → ParkedLeaf t home v (if b then Run 0 (Finish s (pos (min delay 2147483647))) else WaitTime left s) body
        go true = tt
        go false = tt
    due_parked home v r body x = x

    due_belongs : Belong t (by_time delay) (changed is_due (woken_with (min delay 2147483647)))
    due_belongs = record {
      free_stays = λ gate e. not_due gate free e refl;
      finalizer_stays = λ gate e. not_due gate finalizer e refl;
      forever_stays = λ gate e. not_due gate forever e refl;
      node_stays = λ h r gate x. due_node r;
      gate_follows = due_follows;
      parked_follows = due_parked;
    }

  -- ---- rounds of asyncs

  abbrev round_gate : Gate → Gate
  round_gate = changed is_served served_again

  not_served : (gate : Gate) (m : ℕ) → gate.kind ≡ m → (m == served) ≡ false → round_gate gate ≡ gate
  not_served gate m e q = stays is_served served_again gate (is_kind gate m served e ∙ q)

  round_follows : (h : Home) (r : Residual) (gate : Gate) → LeafGate t h r gate → LeafGate t h (new_round r) (round_gate gate)
  round_follows h (InAsync s true r) gate x =
      subst (LeafGate t h (InAsync s false r)) (sym (passes is_served served_again gate (is_kind gate served served x.kind_is)))
      (record { kind_is = refl; code_is = x.code_is; frame_is = x.frame_is; base_is = x.base_is })
  round_follows h (InAsync s false r) gate x = subst (LeafGate t h (InAsync s false r)) (sym (not_served gate unserved x.kind_is refl)) x
  round_follows h (Run n a) gate x = subst (LeafGate t h (Run n a)) (sym (not_served gate can_run (runs_kind t h a gate x.0) refl)) x
  round_follows h (WaitInput k s) gate x = subst (LeafGate t h (WaitInput k s)) (sym (not_served gate on_input x.0.kind_is refl)) x
  round_follows h (WaitTime left s) gate x = subst (LeafGate t h (WaitTime left s)) (sym (not_served gate on_time x.0.kind_is refl)) x
  round_follows h (WaitEvent e s) gate x = subst (LeafGate t h (WaitEvent e s)) (sym (not_served gate on_event x.0.kind_is refl)) x
  round_follows h (WaitForever s) gate x = subst (LeafGate t h (WaitForever s)) (sym (not_served gate forever x.kind_is refl)) x
  round_follows h Over gate x = absurd x
  round_follows h (Block b fin all r rest) gate x = absurd x
  round_follows h (Open s r) gate x = absurd x
  round_follows h (Loop s c r) gate x = absurd x
  round_follows h (Call s r) gate x = absurd x
  round_follows h (Par s bs) gate x = absurd x

  round_node : (r : Residual) → leaf_node (new_round r) ≡ leaf_node r
  round_node (InAsync s b r) = refl
  round_node r = refl

  round_parked : (home : Body → Home) (v : View) (r : Residual) (body : Body) → ParkedLeaf t home v r body → ParkedLeaf t home v (new_round r) body
  round_parked home v (InAsync s b r) body x = x
  round_parked home v r body x = x

  round_belongs : Belong t new_round (changed is_served served_again)
  round_belongs = record {
    free_stays = λ gate e. not_served gate free e refl;
    finalizer_stays = λ gate e. not_served gate finalizer e refl;
    forever_stays = λ gate e. not_served gate forever e refl;
    node_stays = λ h r gate x. round_node r;
    gate_follows = round_follows;
    parked_follows = round_parked;
  }

pub input_stands : (image : Image) (t : Tables) (home : Body → Home) (r : Residual) (w : World) (m : Machine) → InputStands image t home r w m
input_stands image t home r w m k value x =
    memory_follows image t home r w m.bytes (by_input k value) (waits_for_input k) (woken_with (cell value))
    (λ gate g. record { kind = omega arith; level = omega arith; code = g.code; frame = g.frame; base = g.base; key = g.key; value = cell_small value })
    (input_belongs t k value) refl x.0 x.1 x.2

pub time_stands : (image : Image) (t : Tables) (home : Body → Home) (r : Residual) (w : World) (m : Machine) → TimeStands image t home r w m
time_stands image t home r w m d x =
    memory_follows image t home r w m.bytes (later d) is_timer (sooner d)
    (λ gate g. record { kind = g.kind; level = g.level; code = g.code; frame = g.frame; base = g.base; key = g.key; value = omega (arith, g.value) })
    (time_belongs t d) refl x.0 x.1 x.2

pub due_stands : (image : Image) (t : Tables) (home : Body → Home) (r : Residual) (w : World) (m : Machine) → DueStands image t home r w m
due_stands image t home r w m delay x =
    memory_follows image t home r w m.bytes (by_time delay) is_due (woken_with (min delay 2147483647))
    (λ gate g. record { kind = omega arith; level = omega arith; code = g.code; frame = g.frame; base = g.base; key = g.key; value = omega arith })
    (due_belongs t delay) refl x.0 x.1 x.2

pub round_stands : (image : Image) (t : Tables) (home : Body → Home) (r : Residual) (w : World) (m : Machine) → RoundStands image t home r w m
round_stands image t home r w m x =
    memory_follows image t home r w m.bytes new_round is_served served_again
    (λ gate g. record { kind = omega arith; level = g.level; code = g.code; frame = g.frame; base = g.base; key = g.key; value = g.value })
    (round_belongs t) refl x.0 x.1 x.2
