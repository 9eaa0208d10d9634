-- The gate that the machine chooses in a memory in which a configuration stands.
use Rattle.std.proofs.Common.{◌≡◌, ◌≢◌, refl, sym, ap, ◌∙◌, subst, ◌<◌, inl, inr, ℕ, Bool, true, false, ◌==◌, List, [], ◌∷◌, Option, Some, None, arith, eqb-true, eq-eqb}
use Rattle.std.specs.Prelude.{nat_lt, not, ◌&&◌, ◌||◌, if◌then◌else◌}
use Rattle.std.proofs.lemmas.Bool.{false≢true, lt-ltb, ne_eqb, and_from}
use Rattle.std.proofs.lemmas.Bool.Decides.{nat_tests}
use Rattle.ceu_code.specs.declared.image.Image.{Image}
use Rattle.ceu_mem.specs.declared.gate.Gate.{Gate}
use Rattle.ceu_isa.specs.Layout.{slots_at, gate_of, gates_from, can_run, is_unserved}
use Rattle.ceu_isa.specs.Layout as layout
use Rattle.ceu_isa.specs.Order.{chain, goes_before, before, earlier, Chosen, first_of}
use Rattle.ceu_tree.specs.Residual.{Body, Program, Act, Begin, Start, Finish, AtEnd, AtHead, Again, Residual, Run, WaitInput, WaitTime, WaitEvent, WaitForever, InAsync}
use Rattle.ceu_tree.specs.World.{World, is_among}
use Rattle.ceu_tree.specs.Focus.{Focus, leaf, choose}
use Rattle.ceu_tree.specs.Wake.{runs_at, Unserved, unserved}
use Rattle.ceu_tree.specs.Around.{is_over}
use Rattle.ceu_tree.specs.Legal.{Seated, seats, numbers, all_differ}
use Rattle.laws_meaning_basics.proofs.FocusBalance.{Found, FoundIn, choose_found}
use Rattle.laws_machine_layout.specs.Tables.{Tables}
use Rattle.laws_machine_layout.specs.Views.{view, gate_seen, no_gate, Home}
use Rattle.laws_machine_layout.specs.Leaves.{LeafGate}
use Rattle.laws_machine_layout.specs.Stands.{Stands}
use Rattle.laws_machine_layout.proofs.Unplug.{unplug_stands}
use Rattle.laws_machine_order.specs.Laid.{BeforeAll, InOrder}
use Rattle.laws_machine_order.specs.Laws.{OlderBefore, TrailsStand, FirstGate, ChoiceStands, FirstStands, FirstServedStands, async_of}
use Rattle.laws_machine_order.proofs.Chains.{chain_of_root}
use Rattle.laws_machine_order.proofs.Older.{frames, Older, not_both}
use Rattle.laws_machine_order.proofs.Choice.{none_from, first_from}
use Rattle.laws_machine_order.proofs.Trails.{Picks}
use Rattle.laws_machine_order.proofs.Within.{Trail}
use Rattle.laws_machine_order.proofs.Firsts.{First, FirstOf}
use Rattle.laws_machine_order.proofs.Chosen.{tree_first}

-- ---- instances whose numbers differ

module _ (t : Tables) (home : Body → Home) (bytes : List ℕ) where
  apart_from : (x : Seated) (xs : List Seated) → is_among x.seat.number (numbers xs) ≡ false → BeforeAll (OlderBefore t home) x xs → BeforeAll (Older t home bytes) x xs
  apart_from x [] e o = tt
  apart_from x (y ∷ ys) e o = go (x.seat.number == y.seat.number) refl e (λ q. apart_from x ys q o.1)
    where
      go : (b : Bool) → (x.seat.number == y.seat.number) ≡ b → (b || is_among x.seat.number (numbers ys)) ≡ false
          → (is_among x.seat.number (numbers ys) ≡ false → BeforeAll (Older t home bytes) x ys) → BeforeAll (Older t home bytes) x (y ∷ ys)
      go true q k ih = absurd (cc)
      go false q k ih = (record { differ = λ s. false≢true (sym q ∙ eq-eqb x.seat.number y.seat.number s); older = o.0 }, ih k)

  all_apart : (xs : List Seated) → all_differ (numbers xs) ≡ true → InOrder (OlderBefore t home) xs → InOrder (Older t home bytes) xs
  all_apart [] e o = tt
  all_apart (x ∷ xs) e o = go (is_among x.seat.number (numbers xs)) refl e (λ q. all_apart xs q o.1)
    where
      go : (b : Bool) → is_among x.seat.number (numbers xs) ≡ b → (not b && all_differ (numbers xs)) ≡ true → (all_differ (numbers xs) ≡ true → InOrder (Older t home bytes) xs) → InOrder (Older t home bytes) (x ∷ xs)
      go true q k ih = absurd (cc)
      go false q k ih = (apart_from x xs q o.0, ih k)

-- ---- gates

seen_is : (image : Image) (bytes : List ℕ) (g : ℕ) → g < image.gates → gate_seen image bytes g ≡ gate_of image bytes g
seen_is image bytes g lt = ap (λ (b : Bool). if b then gate_of image bytes g else no_gate) (lt-ltb g image.gates lt)

other_way : (g h : ℕ) → h ≢ g → nat_lt h g ≡ not (nat_lt g h)
other_way g h ne = grind (arith, nat_tests)

module _ (image : Image) (bytes : List ℕ) where
  before_is : (g h : ℕ) (a b : List ℕ) → chain image bytes (gate_of image bytes g).frame ≡ Some a → chain image bytes (gate_of image bytes h).frame ≡ Some b → before image bytes g h ≡ earlier bytes a b (nat_lt g h)
  unfolding before
  before_is g h a b p q = ap (λ (o : Option (List ℕ)). goes_before bytes o (chain image bytes (gate_of image bytes h).frame) (nat_lt g h)) p ∙ ap (λ (o : Option (List ℕ)). goes_before bytes (Some a) o (nat_lt g h)) q

  goes_first : (g h : ℕ) (a b : List ℕ) → chain image bytes (gate_of image bytes g).frame ≡ Some a → chain image bytes (gate_of image bytes h).frame ≡ Some b → h ≢ g → earlier bytes a b (nat_lt g h) ≡ true
      → (before image bytes g h ≡ true) × (before image bytes h g ≡ false)
  goes_first g h a b p q ne e = (before_is g h a b p q ∙ e, before_is h g b a q p ∙ ap (earlier bytes b a) (other_way g h ne) ∙ not_both bytes a b (nat_lt g h) e)

module _ (A : Type 0) (image : Image) (t : Tables) (home : Body → Home) (r : Residual) (w : World) (bytes : List ℕ) (pick : Residual → Option A) (test : Gate → Bool) (picks : Picks A pick test t) (leaf_of : A → Residual)
    (goes_on : (q : Residual) (a : A) → pick q ≡ Some a → (q ≡ leaf_of a) × (is_over q ≡ false)) (x : TrailsStand image t home r w bytes) where
  root : chain image bytes (home Program).frame ≡ Some []
  root = ap (λ (h : Home). chain image bytes h.frame) x.memory.program ∙ chain_of_root image bytes

  passes_at : (g : ℕ) → g < image.gates → (b : Bool) → test (gate_of image bytes g) ≡ b → test (gate_seen image bytes g) ≡ b
  passes_at g lt b e = ap test (seen_is image bytes g lt) ∙ e

  chain_at : (g : ℕ) (all : List Seated) → g < image.gates → (y : Trail image bytes t home Program g all) → chain image bytes (gate_of image bytes g).frame ≡ Some (frames t home bytes y.around)
  chain_at g all lt y = ap (λ (gate : Gate). chain image bytes gate.frame) (sym (seen_is image bytes g lt)) ∙ y.chained [] root

  gate_chosen : (f : Focus A) → Found A pick r f → First image bytes t home A pick test picks f Program 0 image.gates (seats r Program) → FirstGate A image t home bytes f (leaf_of (leaf f)) (first_of image bytes (gates_from image bytes test 0 image.gates))
  gate_chosen f y z =
      let on = goes_on y.was (leaf f) y.picked in
      let u = unplug_stands t home (view image bytes) f Program 0 image.gates y.was on.1 (subst (λ (q : Residual). Stands t home (view image bytes) q Program 0 image.gates) (sym y.plugs) x.memory.tree) in
      let same : u.0.low ≡ z.gate = z.at u.0 u.1 in
      let lt : z.gate < image.gates = z.to in
      record {
        gate = u.0.low;
        body = u.0.body;
        high = u.0.high;
        is_chosen =
            first_from image bytes test image.gates z.gate lt (sym (ap test (seen_is image bytes z.gate lt)) ∙ z.passes) (λ h l e ne. elim (z.others h (omega arith) l (passes_at h l true e)) [
              | inl q ↦ absurd (ne q)
              | inr q ↦ goes_first image bytes z.gate h _ _ (chain_at z.gate (seats r Program) lt z.trail) (chain_at h (seats r Program) l q.0) ne q.1
            ]) ∙ ap Chosen (sym same);
        frames_stand = u.1;
        leaf_stands = subst (λ (q : Residual). Stands t home (view image bytes) q u.0.body u.0.low u.0.high) on.0 u.2;
      }

  pub choice_stands : ChoiceStands A image t home bytes leaf_of (choose A pick r) (first_of image bytes (gates_from image bytes test 0 image.gates))
  choice_stands =
      go (choose A pick r) (choose_found A pick r)
      (tree_first image bytes t home A pick test picks r Program 0 image.gates x.memory.tree x.laid x.instances.pools (all_apart t home bytes (seats r Program) x.instances.numbers.differ x.older))
    where
      go : (o : Option (Focus A)) → FoundIn A pick r o → FirstOf image bytes t home A pick test picks o Program 0 image.gates (seats r Program) → ChoiceStands A image t home bytes leaf_of o (first_of image bytes (gates_from image bytes test 0 image.gates))
      go None y z = ap (first_of image bytes) (none_from image bytes test 0 image.gates (λ g a b. no_pass g (omega (arith, b)) (z g a (omega (arith, b))) (test (gate_of image bytes g)) refl))
        where
          no_pass : (g : ℕ) → g < image.gates → (test (gate_seen image bytes g) ≡ true → ⊥) → (b : Bool) → test (gate_of image bytes g) ≡ b → test (gate_of image bytes g) ≡ false
          no_pass g lt never false e = e
          no_pass g lt never true e = absurd (never (passes_at g lt true e))
      go (Some f) y z = gate_chosen f y z

-- ---- trails that can run at a level

run_kind : (t : Tables) (h : Home) (n : ℕ) (a : Act) (gate : Gate) → LeafGate t h (Run n a) gate → gate.kind ≡ can_run
run_kind t h n (Begin b) gate x = x.0.kind_is
run_kind t h n (Finish s value) gate x = x.0.0.kind_is
run_kind t h n (Start s) gate x = absurd x.0
run_kind t h n AtEnd gate x = absurd x.0
run_kind t h n AtHead gate x = absurd x.0
run_kind t h n Again gate x = absurd x.0

other_kind : (n k : ℕ) (gate : Gate) → k ≢ can_run → gate.kind ≡ k → layout.runs_at n gate ≡ false
other_kind n k gate ne e = ap (λ (j : ℕ). (j == can_run) && (gate.level == n)) e ∙ ap (λ (b : Bool). b && (gate.level == n)) (ne_eqb k can_run ne)

run_picked : (n : ℕ) (t : Tables) (h : Home) (r : Residual) (gate : Gate) (a : Act) → LeafGate t h r gate → runs_at n r ≡ Some a → layout.runs_at n gate ≡ true
run_picked n t h (Run m q) gate a x e = go (m == n) refl e
  where
    go : (b : Bool) → (m == n) ≡ b → (if b then Some q else None) ≡ Some a → layout.runs_at n gate ≡ true
    go true s k = and_from (gate.kind == can_run) (gate.level == n) (eq-eqb gate.kind can_run (run_kind t h m q gate x)) (ap (λ (l : ℕ). l == n) x.1 ∙ s)
    go false s k = absurd (cc)
run_picked n t h r gate a x e = absurd (let z : None ≡ Some a = e in cc)

run_passed : (n : ℕ) (t : Tables) (h : Home) (r : Residual) (gate : Gate) → LeafGate t h r gate → runs_at n r ≡ None → layout.runs_at n gate ≡ false
run_passed n t h (Run m q) gate x e = go (m == n) refl e
  where
    go : (b : Bool) → (m == n) ≡ b → (if b then Some q else None) ≡ None → layout.runs_at n gate ≡ false
    go true s k = absurd (let z : Some q ≡ None = k in cc)
    go false s k = ap (λ (j : ℕ). (j == can_run) && (gate.level == n)) (run_kind t h m q gate x) ∙ ap (λ (l : ℕ). l == n) x.1 ∙ s
run_passed n t h (WaitInput k s) gate x e = other_kind n _ gate (λ q. absurd (omega (arith, q))) x.0.kind_is
run_passed n t h (WaitTime left s) gate x e = other_kind n _ gate (λ q. absurd (omega (arith, q))) x.0.kind_is
run_passed n t h (WaitEvent k s) gate x e = other_kind n _ gate (λ q. absurd (omega (arith, q))) x.0.kind_is
run_passed n t h (WaitForever s) gate x e = other_kind n _ gate (λ q. absurd (omega (arith, q))) x.kind_is
run_passed n t h (InAsync s true r) gate x e = other_kind n _ gate (λ q. absurd (omega (arith, q))) x.kind_is
run_passed n t h (InAsync s false r) gate x e = other_kind n _ gate (λ q. absurd (omega (arith, q))) x.kind_is
run_passed n t h r gate x e = absurd x

run_picks : (n : ℕ) (t : Tables) → Picks Act (runs_at n) (layout.runs_at n) t
run_picks n t = record {
  free_passed = λ gate e. other_kind n _ gate (λ q. absurd (omega (arith, q))) e;
  finalizer_passed = λ gate e. other_kind n _ gate (λ q. absurd (omega (arith, q))) e;
  forever_passed = λ gate e. other_kind n _ gate (λ q. absurd (omega (arith, q))) e;
  leaf_picked = λ h r gate a x e. run_picked n t h r gate a x e;
  leaf_passed = λ h r gate x e. run_passed n t h r gate x e;
}

run_on : (n : ℕ) (q : Residual) (a : Act) → runs_at n q ≡ Some a → (q ≡ Run n a) × (is_over q ≡ false)
run_on n (Run m b) a e = go (m == n) refl e
  where
    go : (s : Bool) → (m == n) ≡ s → (if s then Some b else None) ≡ Some a → (Run m b ≡ Run n a) × (false ≡ false)
    go true p k = let same = eqb-true m n p in let z : Some b ≡ Some a = k in (cc, refl)
    go false p k = absurd (let z : None ≡ Some a = k in cc)
run_on n q a e = absurd (let z : None ≡ Some a = e in cc)

pub first_stands : FirstStands
first_stands image t home r w bytes n x = choice_stands Act image t home r w bytes (runs_at n) (layout.runs_at n) (run_picks n t) (Run n) (run_on n) x

-- ---- asyncs that weren't served

kind_is_not : (k : ℕ) (gate : Gate) → k ≢ layout.unserved → gate.kind ≡ k → is_unserved gate ≡ false
kind_is_not k gate ne e = ap (λ (j : ℕ). j == layout.unserved) e ∙ ne_eqb k layout.unserved ne

async_picked : (t : Tables) (h : Home) (r : Residual) (gate : Gate) (u : Unserved) → LeafGate t h r gate → unserved r ≡ Some u → is_unserved gate ≡ true
async_picked t h (InAsync s false r) gate u x e = eq-eqb gate.kind layout.unserved x.kind_is
async_picked t h r gate u x e = absurd (let z : None ≡ Some u = e in cc)

async_passed : (t : Tables) (h : Home) (r : Residual) (gate : Gate) → LeafGate t h r gate → unserved r ≡ None → is_unserved gate ≡ false
async_passed t h (InAsync s false r) gate x e = absurd (let z : Some (record { stmt = s; inner = r }) ≡ None = e in cc)
async_passed t h (InAsync s true r) gate x e = kind_is_not _ gate (λ q. absurd (omega (arith, q))) x.kind_is
async_passed t h (Run n a) gate x e = kind_is_not _ gate (λ q. absurd (omega (arith, q))) (run_kind t h n a gate x)
async_passed t h (WaitInput k s) gate x e = kind_is_not _ gate (λ q. absurd (omega (arith, q))) x.0.kind_is
async_passed t h (WaitTime left s) gate x e = kind_is_not _ gate (λ q. absurd (omega (arith, q))) x.0.kind_is
async_passed t h (WaitEvent k s) gate x e = kind_is_not _ gate (λ q. absurd (omega (arith, q))) x.0.kind_is
async_passed t h (WaitForever s) gate x e = kind_is_not _ gate (λ q. absurd (omega (arith, q))) x.kind_is
async_passed t h r gate x e = absurd x

async_picks : (t : Tables) → Picks Unserved unserved is_unserved t
async_picks t = record {
  free_passed = λ gate e. kind_is_not _ gate (λ q. absurd (omega (arith, q))) e;
  finalizer_passed = λ gate e. kind_is_not _ gate (λ q. absurd (omega (arith, q))) e;
  forever_passed = λ gate e. kind_is_not _ gate (λ q. absurd (omega (arith, q))) e;
  leaf_picked = λ h r gate a x e. async_picked t h r gate a x e;
  leaf_passed = λ h r gate x e. async_passed t h r gate x e;
}

async_on : (q : Residual) (u : Unserved) → unserved q ≡ Some u → (q ≡ async_of u) × (is_over q ≡ false)
async_on (InAsync s false r) u e = let z : Some (record { stmt = s; inner = r }) ≡ Some u = e in (ap async_of (cc), refl)
async_on q u e = absurd (let z : None ≡ Some u = e in cc)

pub first_served_stands : FirstServedStands
first_served_stands image t home r w bytes x = choice_stands Unserved image t home r w bytes unserved is_unserved (async_picks t) async_of async_on x
