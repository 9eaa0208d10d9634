-- What the machine finds in the gates of a program that waits: the time that is left, if its leaf waits for a time, and no async.
use Rattle.std.proofs.Common.{◌≡◌, refl, sym, ap, ◌∙◌, subst, ◌<◌, ◌≤◌, ℕ, zero, suc, true, false, ◌==◌, List, [], ◌∷◌, ◌++◌, Option, Some, None, arith}
use Rattle.ceu_code.specs.declared.image.Image.{Image}
use Rattle.ceu_mem.specs.declared.gate.Gate.{Gate}
use Rattle.ceu_isa.specs.Layout.{gate_of, free, can_run, on_input, on_time, on_event, forever, unserved, is_unserved}
use Rattle.ceu_isa.specs.Order.{Nowhere}
use Rattle.ceu_isa.specs.Commands as machine
use Rattle.ceu_isa.specs.Commands.{is_timer, least_of, first_unserved}
use Rattle.ceu_tree.specs.declared.kernel.Kernel.{Kernel}
use Rattle.ceu_tree.specs.Residual.{Body, Program, Act, Begin, Start, Finish, AtEnd, AtHead, Again, Residual, Over, Run, WaitInput, WaitTime, WaitEvent, WaitForever, InAsync, Block, Open, Loop, Call, Par, Instances, no_instance}
use Rattle.ceu_tree.specs.Focus.{Focus, OfBlock, OfOpen, OfLoop, under, choose, choose_instance}
use Rattle.ceu_tree.specs.Wake as waking
use Rattle.ceu_tree.specs.Wake.{leaves, leaves_of_instances, least_time, each_leaf, Unserved, new_round}
use Rattle.ceu_tree.specs.World.{World}
use Rattle.laws_meaning_basics.specs.Shape.{Fits, program_part}
use Rattle.ceu_single.specs.Single.{is_single}
use Rattle.laws_machine_layout.specs.Tables.{Tables}
use Rattle.laws_machine_layout.specs.Views.{view, Home}
use Rattle.laws_machine_layout.specs.Leaves.{RunsGate, LeafGate}
use Rattle.laws_machine_layout.specs.Values.{MemoryStands}
use Rattle.ceu_endings.specs.OneTrail.{OneLeaf}
use Rattle.ceu_endings.proofs.Shapes.{one_leaf, no_codes}
use Rattle.ceu_follows.proofs.Trees.{tree_light, bottom, AtGate, at_gate}
use Rattle.ceu_follows.proofs.Memory.{seen_is, free_there}
use Rattle.ceu_follows.proofs.Choices.{none_from, one_from, first_is_none}

-- ---- the leaf

pub leaves_are : (top : ℕ) (r : Residual) → OneLeaf top r → leaves r ≡ bottom r ∷ []
unfolding OneLeaf leaves bottom
leaves_are top (Block b fin all r rest) h = ap (λ (i : Instances). leaves_of_instances i ++ leaves r) h.1 ∙ leaves_are top r h.2
leaves_are top (Open s r) h = leaves_are top r h
leaves_are top (Loop s c r) h = leaves_are top r h
leaves_are top (Run n a) h = refl
leaves_are top (WaitInput k s) h = refl
leaves_are top (WaitTime d s) h = refl
leaves_are top (WaitForever s) h = refl
leaves_are top r h = absurd h

-- no async
pub same_round : (top : ℕ) (r : Residual) → OneLeaf top r → each_leaf new_round r ≡ r
unfolding OneLeaf each_leaf
same_round top (Block b fin all r rest) h =
    let none : each_leaf new_round (Block b fin no_instance r rest) ≡ Block b fin no_instance r rest = ap (λ (q : Residual). Block b fin no_instance q rest) (same_round top r h.2) in
    subst (λ (i : Instances). each_leaf new_round (Block b fin i r rest) ≡ Block b fin i r rest) (sym h.1) none
same_round top (Open s r) h = ap (λ (q : Residual). Open s q) (same_round top r h)
same_round top (Loop s c r) h = ap (λ (q : Residual). Loop s c q) (same_round top r h)
same_round top (Run n a) h = refl
same_round top (WaitInput k s) h = refl
same_round top (WaitTime d s) h = refl
same_round top (WaitForever s) h = refl
same_round top r h = absurd h

pub no_unserved : (top : ℕ) (r : Residual) → OneLeaf top r → choose Unserved waking.unserved r ≡ None
unfolding OneLeaf choose choose_instance
no_unserved top (Block b fin all r rest) h =
    let none : choose Unserved waking.unserved (Block b fin no_instance r rest) ≡ None = ap (λ (o : Option (Focus Unserved)). under (OfBlock b fin no_instance rest) o) (no_unserved top r h.2) in
    subst (λ (i : Instances). choose Unserved waking.unserved (Block b fin i r rest) ≡ None) (sym h.1) none
no_unserved top (Open s r) h = ap (under (OfOpen s)) (no_unserved top r h)
no_unserved top (Loop s c r) h = ap (under (OfLoop s c)) (no_unserved top r h)
no_unserved top (Run n a) h = refl
no_unserved top (WaitInput k s) h = refl
no_unserved top (WaitTime d s) h = refl
no_unserved top (WaitForever s) h = refl
no_unserved top r h = absurd h

abbrev NoAsync : Residual → Type 0
NoAsync (InAsync s b r) = ⊥
NoAsync r = Unit {0}

no_async : (top : ℕ) (r : Residual) → OneLeaf top r → NoAsync (bottom r)
unfolding OneLeaf bottom
no_async top (Block b fin all r rest) h = no_async top r h.2
no_async top (Open s r) h = no_async top r h
no_async top (Loop s c r) h = no_async top r h
no_async top (Run n a) h = tt
no_async top (WaitInput k s) h = tt
no_async top (WaitTime d s) h = tt
no_async top (WaitForever s) h = tt
no_async top r h = absurd h

-- ---- its gate

kind_not : (gate : Gate) (kind other : ℕ) → gate.kind ≡ kind → (kind == other) ≡ false → (gate.kind == other) ≡ false
kind_not gate kind other k e = ap (λ (i : ℕ). i == other) k ∙ e

act_kind : (t : Tables) (h : Home) (a : Act) (gate : Gate) → RunsGate t h a gate → gate.kind ≡ can_run
act_kind t h (Begin b) gate x = x.kind_is
act_kind t h (Finish s v) gate x = x.0.kind_is
act_kind t h (Start s) gate x = absurd x
act_kind t h AtEnd gate x = absurd x
act_kind t h AtHead gate x = absurd x
act_kind t h Again gate x = absurd x

not_unserved : (t : Tables) (h : Home) (r : Residual) (gate : Gate) → NoAsync r → LeafGate t h r gate → is_unserved gate ≡ false
not_unserved t h (Run n a) gate s x = kind_not gate can_run unserved (act_kind t h a gate x.0) refl
not_unserved t h (WaitInput k s) gate z x = kind_not gate on_input unserved x.0.kind_is refl
not_unserved t h (WaitTime d s) gate z x = kind_not gate on_time unserved x.0.kind_is refl
not_unserved t h (WaitEvent e s) gate z x = kind_not gate on_event unserved x.0.kind_is refl
not_unserved t h (WaitForever s) gate z x = kind_not gate forever unserved x.kind_is refl
not_unserved t h (InAsync s b r) gate z x = absurd z
not_unserved t h Over gate z x = absurd x
not_unserved t h (Block b fin all r rest) gate z x = absurd x
not_unserved t h (Open s r) gate z x = absurd x
not_unserved t h (Loop s c r) gate z x = absurd x
not_unserved t h (Call s r) gate z x = absurd x
not_unserved t h (Par s bs) gate z x = absurd x

-- the first gate is no timer
untimed : (image : Image) (bytes : List ℕ) → (test_is : is_timer (gate_of image bytes 0) ≡ false) → ((g : ℕ) → 1 ≤ g → g < image.gates → is_timer (gate_of image bytes g) ≡ false) → machine.least_time image bytes ≡ None
untimed image bytes e h = ap (λ (l : List ℕ). least_of image bytes l) (none_from image bytes is_timer 0 image.gates (λ g x y. each g (omega (arith, y))))
  where
    each : (g : ℕ) → g < image.gates → is_timer (gate_of image bytes g) ≡ false
    each zero lt = e
    each (suc g) lt = h (suc g) (omega arith) lt

timed : (image : Image) (bytes : List ℕ) → 0 < image.gates → is_timer (gate_of image bytes 0) ≡ true → ((g : ℕ) → 1 ≤ g → g < image.gates → is_timer (gate_of image bytes g) ≡ false)
    → machine.least_time image bytes ≡ Some (gate_of image bytes 0).value
timed image bytes lt e h = ap (λ (l : List ℕ). least_of image bytes l) (one_from image bytes is_timer image.gates lt e h)

module _ (t : Tables) (h : Home) (image : Image) (bytes : List ℕ) (some : 0 < image.gates) (others : (g : ℕ) → 1 ≤ g → g < image.gates → is_timer (gate_of image bytes g) ≡ false) where
  least_is : (q : Residual) → NoAsync q → LeafGate t h q (gate_of image bytes 0) → machine.least_time image bytes ≡ least_time (q ∷ [])
  least_is (Run n a) z x = untimed image bytes (kind_not (gate_of image bytes 0) can_run on_time (act_kind t h a (gate_of image bytes 0) x.0) refl) others
  least_is (WaitInput k s) z x = untimed image bytes (kind_not (gate_of image bytes 0) on_input on_time x.0.kind_is refl) others
  least_is (WaitTime d s) z x = timed image bytes some (ap (λ (i : ℕ). i == on_time) x.0.kind_is) others ∙ ap (λ (i : ℕ). Some i) x.1
  least_is (WaitEvent e s) z x = untimed image bytes (kind_not (gate_of image bytes 0) on_event on_time x.0.kind_is refl) others
  least_is (WaitForever s) z x = untimed image bytes (kind_not (gate_of image bytes 0) forever on_time x.kind_is refl) others
  least_is (InAsync s b r) z x = absurd z
  least_is Over z x = absurd x
  least_is (Block b fin all r rest) z x = absurd x
  least_is (Open s r) z x = absurd x
  least_is (Loop s c r) z x = absurd x
  least_is (Call s r) z x = absurd x
  least_is (Par s bs) z x = absurd x

-- ---- a program that waits

module _ (K : Kernel) (single : is_single K ≡ true) (image : Image) (t : Tables) (homes : Body → Home) (r : Residual) (w : World) (bytes : List ℕ)
    (fits : Fits K 0 (program_part K) r) (stands : MemoryStands image t homes r w bytes) where
  one : OneLeaf 0 r
  one = let a = no_codes K single in one_leaf K a.0 fits a.1

  at : AtGate t homes (view image bytes) r 0 image.gates
  at = at_gate t homes (view image bytes) 0 r 0 image.gates one (tree_light K t fits (no_codes K single).1 one) stands.tree

  own_is : LeafGate t (homes Program) (bottom r) (gate_of image bytes 0)
  own_is = subst (LeafGate t (homes Program) (bottom r)) (seen_is image bytes 0 at.some_gate) at.gate_is

  others_free : (g : ℕ) → 1 ≤ g → g < image.gates → (gate_of image bytes g).kind ≡ free
  others_free g x y = free_there image bytes 1 g at.others x y

  pub least_same : machine.least_time image bytes ≡ least_time (leaves r)
  least_same =
      least_is t (homes Program) image bytes at.some_gate (λ g x y. kind_not (gate_of image bytes g) free on_time (others_free g x y) refl) (bottom r) (no_async 0 r one) own_is
      ∙ ap (λ (l : List Residual). least_time l) (sym (leaves_are 0 r one))

  pub none_unserved : first_unserved image bytes ≡ Nowhere
  none_unserved = first_is_none image bytes is_unserved image.gates (λ g lt. each g lt)
    where
      each : (g : ℕ) → g < image.gates → is_unserved (gate_of image bytes g) ≡ false
      each zero lt = not_unserved t (homes Program) (bottom r) (gate_of image bytes 0) (no_async 0 r one) own_is
      each (suc g) lt = kind_not (gate_of image bytes (suc g)) free unserved (others_free (suc g) (omega arith) lt) refl
