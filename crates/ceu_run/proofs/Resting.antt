-- An idle turn of a program of one trail that waits changes nothing, in the reference semantics and on the machine: no leaf is an async.
use Rattle.std.proofs.Common.{◌≡◌, refl, ap, ◌∙◌, subst, ◌<◌, ℕ, zero, suc, Bool, true, false, ◌==◌, List, Option, Some, None, arith}
use Rattle.ceu_code.specs.declared.image.Image.{Image}
use Rattle.ceu_mem.specs.declared.gate.Gate.{Gate}
use Rattle.ceu_isa.specs.Commands.{is_served, served_again, round_begun, first_unserved, serve, idle_turn}
use Rattle.ceu_isa.specs.Layout.{gate_of, if_changed, one_gate, each_gate, free, can_run, on_input, on_time, on_event, forever, served}
use Rattle.ceu_isa.specs.Order.{Choice, Nowhere, Unclear, Chosen}
use Rattle.ceu_isa.specs.Reactions as machine
use Rattle.ceu_isa.specs.Turns.{Machine}
use Rattle.ceu_tree.specs.declared.kernel.Kernel.{Kernel}
use Rattle.ceu_tree.specs.Residual.{Body, Program, Act, Begin, Start, Finish, AtEnd, AtHead, Again, Residual, Over, Run, WaitInput, WaitTime, WaitEvent, WaitForever, InAsync, Block, Open, Loop, Call, Par}
use Rattle.ceu_tree.specs.Focus.{Focus, choose}
use Rattle.ceu_tree.specs.Run as run
use Rattle.ceu_tree.specs.Run.{Config, Waiting}
use Rattle.ceu_tree.specs.Wake.{each_leaf, Unserved, unserved, new_round}
use Rattle.ceu_tree.specs.World.{World}
use Rattle.laws_meaning_basics.specs.Shape.{Fits, program_part}
use Rattle.ceu_single.specs.Single.{is_single}
use Rattle.laws_machine_layout.specs.Tables.{Tables}
use Rattle.laws_machine_layout.specs.Views.{view, Home}
use Rattle.laws_machine_layout.specs.Leaves.{RunsGate, LeafGate}
use Rattle.laws_machine_layout.specs.Values.{MemoryStands}
use Rattle.ceu_endings.specs.OneTrail.{OneLeaf}
use Rattle.ceu_endings.proofs.Shapes.{one_leaf, no_codes}
use Rattle.ceu_follows.proofs.Memory.{seen_is, free_there}
use Rattle.ceu_follows.proofs.Trees.{tree_light, bottom, AtGate, at_gate}
use Rattle.ceu_follows.proofs.Waits.{none_unserved, no_unserved, same_round}

-- ---- the reference semantics

pub tree_rests : (K : Kernel) (n : ℕ) (r : Residual) (w : World) → OneLeaf 0 r → run.idle_turn K n (Waiting r w) ≡ Waiting r w
tree_rests K n r w one =
    let none : choose Unserved unserved r ≡ None = no_unserved 0 r one in
    nothing_chosen none ∙ ap (λ (q : Residual). run.served K n (choose Unserved unserved q) q w) (same_round 0 r one) ∙ ap (λ (o : Option (Focus Unserved)). run.served K n o r w) none
  where
    nothing_chosen : choose Unserved unserved r ≡ None → run.idle_turn K n (Waiting r w) ≡ run.served K n (choose Unserved unserved (each_leaf new_round r)) (each_leaf new_round r) w
    nothing_chosen e = ap (λ (o : Option (Focus Unserved)). elim o as (λ _. Config) [
      | Some g ↦ run.served K n (Some g) r w
      | None ↦ run.served K n (choose Unserved unserved (each_leaf new_round r)) (each_leaf new_round r) w
    ]) e

-- ---- the machine

-- where no gate is an async's
pub record NoAsyncs (image : Image) (bytes : List ℕ) : Type 0 where
  pub none_unserved : first_unserved image bytes ≡ Nowhere
  pub none_served : (g : ℕ) → g < image.gates → is_served (gate_of image bytes g) ≡ false

none_changed : (image : Image) (test : Gate → Bool) (f : Gate → Gate) (bytes : List ℕ) (n : ℕ) → ((g : ℕ) → g < n → test (gate_of image bytes g) ≡ false) → each_gate image test f n bytes ≡ bytes
unfolding each_gate
none_changed image test f bytes zero h = refl
none_changed image test f bytes (suc n) h =
    let before : each_gate image test f n bytes ≡ bytes = none_changed image test f bytes n (λ g less. h g (omega arith)) in
    ap (λ (l : List ℕ). one_gate image test f n l) before ∙ ap (λ (b : Bool). if_changed image f b n bytes) (h n (omega arith))

pub machine_rests : (image : Image) (m : Machine) → NoAsyncs image m.bytes → idle_turn image (machine.Waits m) ≡ machine.Waits m
machine_rests image m h =
    let same : round_begun image m ≡ m = ap (λ (bytes : List ℕ). record m { bytes = bytes }) (none_changed image is_served served_again m.bytes image.gates h.none_served) in
    nowhere h.none_unserved ∙ ap (λ (q : Machine). serve image (first_unserved image q.bytes) q) same ∙ ap (λ (c : Choice). serve image c m) h.none_unserved
  where
    nowhere : first_unserved image m.bytes ≡ Nowhere → idle_turn image (machine.Waits m) ≡ serve image (first_unserved image (round_begun image m).bytes) (round_begun image m)
    nowhere e = ap (λ (c : Choice). elim c as (λ _. machine.Config) [
      | Nowhere ↦ serve image (first_unserved image (round_begun image m).bytes) (round_begun image m)
      | Unclear ↦ machine.Lost
      | Chosen g ↦ serve image (Chosen g) m
    ]) e

-- ---- the gates of a program of one trail

abbrev NoAsync : Residual → Type 0
NoAsync (InAsync s b r) = ⊥
NoAsync r = Unit {0}

no_async : (top : ℕ) (r : Residual) → OneLeaf top r → NoAsync (bottom r)
unfolding OneLeaf bottom
no_async top (Block b fin all r rest) h = no_async top r h.2
no_async top (Open s r) h = no_async top r h
no_async top (Loop s c r) h = no_async top r h
no_async top (Run n a) h = tt
no_async top (WaitInput k s) h = tt
no_async top (WaitTime d s) h = tt
no_async top (WaitForever s) h = tt
no_async top r h = absurd h

not_of_kind : (gate : Gate) (kind : ℕ) → gate.kind ≡ kind → (kind == served) ≡ false → is_served gate ≡ false
not_of_kind gate kind is other = ap (λ (k : ℕ). k == served) is ∙ other

act_kind : (t : Tables) (h : Home) (a : Act) (gate : Gate) → RunsGate t h a gate → gate.kind ≡ can_run
act_kind t h (Begin b) gate x = x.kind_is
act_kind t h (Finish s v) gate x = x.0.kind_is
act_kind t h (Start s) gate x = absurd x
act_kind t h AtEnd gate x = absurd x
act_kind t h AtHead gate x = absurd x
act_kind t h Again gate x = absurd x

leaf_not_served : (t : Tables) (h : Home) (r : Residual) (gate : Gate) → NoAsync r → LeafGate t h r gate → is_served gate ≡ false
leaf_not_served t h (Run n a) gate none x = not_of_kind gate can_run (act_kind t h a gate x.0) refl
leaf_not_served t h (WaitInput k s) gate none x = not_of_kind gate on_input x.0.kind_is refl
leaf_not_served t h (WaitTime d s) gate none x = not_of_kind gate on_time x.0.kind_is refl
leaf_not_served t h (WaitEvent e s) gate none x = not_of_kind gate on_event x.0.kind_is refl
leaf_not_served t h (WaitForever s) gate none x = not_of_kind gate forever x.kind_is refl
leaf_not_served t h (InAsync s b r) gate none x = absurd none
leaf_not_served t h Over gate none x = absurd x
leaf_not_served t h (Block b fin all r rest) gate none x = absurd x
leaf_not_served t h (Open s r) gate none x = absurd x
leaf_not_served t h (Loop s c r) gate none x = absurd x
leaf_not_served t h (Call s r) gate none x = absurd x
leaf_not_served t h (Par s bs) gate none x = absurd x

module _ (K : Kernel) (single : is_single K ≡ true) (image : Image) (t : Tables) (homes : Body → Home) (r : Residual) (w : World) (bytes : List ℕ)
    (fits : Fits K 0 (program_part K) r) (stands : MemoryStands image t homes r w bytes) where
  one : OneLeaf 0 r
  one = let a = no_codes K single in one_leaf K a.0 fits a.1

  at : AtGate t homes (view image bytes) r 0 image.gates
  at = at_gate t homes (view image bytes) 0 r 0 image.gates one (tree_light K t fits (no_codes K single).1 one) stands.tree

  first_not_served : is_served (gate_of image bytes 0) ≡ false
  first_not_served = leaf_not_served t (homes Program) (bottom r) (gate_of image bytes 0) (no_async 0 r one) (subst (LeafGate t (homes Program) (bottom r)) (seen_is image bytes 0 at.some_gate) at.gate_is)

  pub no_asyncs : NoAsyncs image bytes
  no_asyncs = record { none_unserved = none_unserved K single image t homes r w bytes fits stands; none_served = each }
    where
      each : (g : ℕ) → g < image.gates → is_served (gate_of image bytes g) ≡ false
      each zero less = first_not_served
      each (suc g) less = not_of_kind (gate_of image bytes (suc g)) free (free_there image bytes 1 (suc g) at.others (omega arith) less) refl
