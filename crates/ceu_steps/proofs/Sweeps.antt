-- Aborts where no gate is taken, and a fault, whose abort finds the gate of the trail itself.
use Rattle.std.proofs.Common.{◌≡◌, ◌≢◌, refl, sym, ap, ◌∙◌, subst, ◌<◌, ◌≤◌, inl, inr, ℕ, zero, suc, ◌+◌, ◌*◌, Bool, true, false, List, [], ◌∷◌, length, Some, arith}
use Rattle.std.specs.Prelude.{slice_get, not, ◌==◌, if◌then◌else◌}
use Rattle.std.proofs.lemmas.Bool.{lt-ltb, le-leb}
use Rattle.ceu_base.specs.declared.kinds.Fault.{Fault}
use Rattle.ceu_base.specs.declared.kinds.Pos.{Pos}
use Rattle.ceu_code.specs.declared.image.Image.{Image}
use Rattle.ceu_code.specs.declared.instr.Instr.TheVariants as instr
use Rattle.ceu_mem.specs.declared.gate.Gate.{Gate}
use Rattle.ceu_mem.specs.Memory.{gate_at, with_gate}
use Rattle.ceu_mem.proofs.Views.{length-with_number, number_outside, number_written}
use Rattle.ceu_mem.proofs.Gates.{get_put_other, put_length}
use Rattle.ceu_isa.specs.declared.registers.Registers.{Registers}
use Rattle.ceu_isa.specs.Fetching.{fetched}
use Rattle.ceu_isa.specs.Layout.{free, forever, finalizer, faulted, freed, is_taken, with_state, gates_at, end_of, gate_of, gate_put, gate_changed, gates_from}
use Rattle.ceu_isa.specs.Effects.{GoesOn, Fails, Aborts, provided}
use Rattle.ceu_isa.specs.Trails.{kept, gate_here}
use Rattle.ceu_isa.specs.Order.{Choice, Nowhere, Unclear, Chosen, found, is_last, last_of}
use Rattle.ceu_isa.specs.Rows.{effect}
use Rattle.ceu_isa.specs.Turns.{Machine, Sweep, State, Stuck, Trail, Sweeping, Faulted, tick, behind, rewritten, failing, swept, swept_on, visited, run_finalizer, next_of}
use Rattle.ceu_steps.specs.Running.{Runs}
use Rattle.ceu_steps.proofs.Ticks.{onward, one, did}

-- ---- gates that are taken

taken_of : (image : Image) (bytes : List ℕ) (g : ℕ) → (gate_of image bytes g).kind ≡ free → is_taken (gate_of image bytes g) ≡ false
taken_of image bytes g e = ap (λ (k : ℕ). not (k == free)) e

none_taken : (image : Image) (bytes : List ℕ) (from n : ℕ) → ((g : ℕ) → from ≤ g → g < from + n → (gate_of image bytes g).kind ≡ free) → gates_from image bytes is_taken from n ≡ []
unfolding gates_from
none_taken image bytes from zero h = refl
none_taken image bytes from (suc n) h =
    ap (λ (b : Bool). elim b [ true ↦ from ∷ gates_from image bytes is_taken (suc from) n | false ↦ gates_from image bytes is_taken (suc from) n ]) (taken_of image bytes from (h from (omega arith) (omega arith)))
    ∙ none_taken image bytes (suc from) n (λ g x y. h g (omega arith) (omega arith))

one_taken : (image : Image) (bytes : List ℕ) (from n : ℕ) → is_taken (gate_of image bytes from) ≡ true → ((g : ℕ) → suc from ≤ g → g < suc from + n → (gate_of image bytes g).kind ≡ free) → gates_from image bytes is_taken from (suc n) ≡ from ∷ []
unfolding gates_from
one_taken image bytes from n e h =
    ap (λ (b : Bool). elim b [ true ↦ from ∷ gates_from image bytes is_taken (suc from) n | false ↦ gates_from image bytes is_taken (suc from) n ]) e
    ∙ ap (λ (xs : List ℕ). from ∷ xs) (none_taken image bytes (suc from) n h)

nothing_left : (image : Image) (s : Sweep) (m : Machine) → s.from + s.count ≤ image.gates → ((g : ℕ) → s.from ≤ g → g < s.from + s.count → (gate_of image m.bytes g).kind ≡ free) → next_of image s m ≡ Nowhere
nothing_left image s m le h =
    ap (λ (b : Bool). if b then last_of image m.bytes (gates_from image m.bytes is_taken s.from s.count) else Unclear) (le-leb _ _ le)
    ∙ ap (last_of image m.bytes) (none_taken image m.bytes s.from s.count h)

-- an abort that finds no gate is over
pub sweep_ends : (image : Image) (s : Sweep) (m : Machine) → s.from + s.count ≤ image.gates → ((g : ℕ) → s.from ≤ g → g < s.from + s.count → (gate_of image m.bytes g).kind ≡ free)
    → Runs image 1 (Sweeping s m) (swept image s.after s.trail m)
unfolding tick
sweep_ends image s m le h = one refl (ap (λ (c : Choice). swept_on image c s m) (nothing_left image s m le h))

-- ---- the instruction

abort_effect : (image : Image) (g n : ℕ) (r : Registers) (bytes : List ℕ) → r.base ≡ 0 → g + n ≤ image.gates → effect image (instr.AbortGates g n) r bytes ≡ Aborts g n GoesOn
unfolding effect
abort_effect image g n r bytes base le =
    let there : gate_here r g ≡ g = omega (arith, base) in
    ap (λ (b : Bool). provided b (Aborts (gate_here r g) n GoesOn)) (le-leb (gate_here r g + n) image.gates (omega (arith, base)))
    ∙ ap (λ (k : ℕ). Aborts k n GoesOn) there

pub abort_goes_on : (image : Image) (g n : ℕ) (r : Registers) (m : Machine) → fetched image r.at ≡ Some (instr.AbortGates g n) → r.base ≡ 0 → g + n ≤ image.gates
    → ((i : ℕ) → i < image.gates → (gate_of image m.bytes i).kind ≡ free) → Runs image 2 (Trail r m) (Trail (behind (instr.AbortGates g n) r) m)
abort_goes_on image g n r m f base le h =
    onward (did (instr.AbortGates g n) (Aborts g n GoesOn) f (abort_effect image g n (behind (instr.AbortGates g n) r) m.bytes base le))
    (sweep_ends image (record { from = g; count = n; after = GoesOn; trail = behind (instr.AbortGates g n) r }) m le (λ i x y. h i (omega arith)))

-- ---- a fault outside finalizers

kind_put : (b : ℕ) (x : Gate) (bs : List ℕ) (i : ℕ) → x.kind < 256 → b + 19 * i + 19 ≤ length bs → (gate_at b (with_gate b x bs i) i).kind ≡ x.kind
kind_put b x bs i lt le =
    let at : ℕ = b + 19 * i in
    number_outside 1 8 x.value _ (b + 19 * i + 11) (b + 19 * i) (inl (omega arith))
    ∙ number_outside 1 2 x.key _ (b + 19 * i + 9) (b + 19 * i) (inl (omega arith))
    ∙ number_outside 1 2 x.base _ (b + 19 * i + 7) (b + 19 * i) (inl (omega arith))
    ∙ number_outside 1 2 x.frame _ (b + 19 * i + 5) (b + 19 * i) (inl (omega arith))
    ∙ number_outside 1 2 x.code _ (b + 19 * i + 3) (b + 19 * i) (inl (omega arith))
    ∙ number_outside 1 2 x.level _ (b + 19 * i + 1) (b + 19 * i) (inl (omega arith))
    ∙ number_written 1 x.kind bs (b + 19 * i) (omega arith) (omega arith)

kind_changed : (image : Image) (f : Gate → Gate) (g : ℕ) (bytes : List ℕ) → (f (gate_of image bytes g)).kind < 256 → gates_at image + 19 * g + 19 ≤ length bytes
    → (gate_of image (gate_changed image f g bytes) g).kind ≡ (f (gate_of image bytes g)).kind
unfolding gate_of gate_put
kind_changed image f g bytes lt le = kind_put (gates_at image) (f (gate_of image bytes g)) bytes g lt le

kind_elsewhere : (image : Image) (f : Gate → Gate) (g h : ℕ) (bytes : List ℕ) → h ≢ g → (gate_of image (gate_changed image f g bytes) h).kind ≡ (gate_of image bytes h).kind
unfolding gate_of gate_put
kind_elsewhere image f g h bytes ne = ap (λ (x : Gate). x.kind) (get_put_other (gates_at image) (f (gate_of image bytes g)) bytes g h ne)

length_changed : (image : Image) (f : Gate → Gate) (g : ℕ) (bytes : List ℕ) → length (gate_changed image f g bytes) ≡ length bytes
unfolding gate_put
length_changed image f g bytes = put_length (f (gate_of image bytes g)) bytes (gates_at image + 19 * g)

kind_state : (image : Image) (state g : ℕ) (bytes : List ℕ) → (gate_of image (with_state state bytes) g).kind ≡ (gate_of image bytes g).kind
unfolding gate_of
kind_state image state g bytes = number_outside 1 2 state bytes 0 (gates_at image + 19 * g) (inr (omega arith))

pub record FaultEnds (image : Image) (f : Fault) (p : Pos) (r : Registers) (m : Machine) : Type 0 where
  pub after : Machine
  pub runs : Runs image 2 (failing image f p r m) (Faulted f p after)
  pub marks : after.marks ≡ m.marks

only_one : (image : Image) (bytes : List ℕ) → is_last image bytes (0 ∷ []) 0 ≡ true
only_one image bytes = refl

last_one : (image : Image) (bytes : List ℕ) → last_of image bytes (0 ∷ []) ≡ Chosen 0
unfolding found
last_one image bytes = ap (λ (b : Bool). elim b [ true ↦ Chosen 0 | false ↦ found (is_last image bytes (0 ∷ [])) [] ]) (only_one image bytes)

module _ (image : Image) (f : Fault) (p : Pos) (r : Registers) (m : Machine) (n : ℕ) (gates_is : image.gates ≡ suc n) (own_is : r.own ≡ 0) (size : length m.bytes ≡ end_of image)
    (all_free : (i : ℕ) → i < image.gates → (gate_of image m.bytes i).kind ≡ free) where
  abbrev sweep : Sweep
  sweep = record { from = 0; count = image.gates; after = Fails f p; trail = record r { depth = 0 } }

  abbrev waiting_bytes : List ℕ
  waiting_bytes = gate_changed image (kept forever r) 0 (with_state faulted m.bytes)

  abbrev waiting : Machine
  waiting = rewritten waiting_bytes m

  abbrev over : Machine
  over = rewritten (gate_changed image freed 0 waiting_bytes) waiting

  room : gates_at image + 19 * 0 + 19 ≤ length m.bytes
  room = omega (arith, size, gates_is)

  own_kind : (gate_of image waiting_bytes 0).kind ≡ forever
  own_kind = kind_changed image (kept forever r) 0 (with_state faulted m.bytes) (omega arith) (omega (arith, room, length-with_number 2 faulted m.bytes 0))

  others : (g : ℕ) → 1 ≤ g → g < image.gates → (gate_of image waiting_bytes g).kind ≡ free
  others g x y = kind_elsewhere image (kept forever r) 0 g (with_state faulted m.bytes) (λ q. absurd (omega (arith, q))) ∙ kind_state image faulted g m.bytes ∙ all_free g y

  starts : failing image f p r m ≡ Sweeping sweep waiting
  starts =
      ap (λ (b : Bool). if b then Sweeping sweep (rewritten (gate_changed image (kept forever r) r.own (with_state faulted m.bytes)) m) else Stuck) (lt-ltb r.own image.gates (omega (arith, own_is, gates_is)))
      ∙ ap (λ (k : ℕ). Sweeping sweep (rewritten (gate_changed image (kept forever r) k (with_state faulted m.bytes)) m)) own_is

  finds : next_of image sweep waiting ≡ Chosen 0
  finds =
      ap (λ (b : Bool). if b then last_of image waiting_bytes (gates_from image waiting_bytes is_taken 0 image.gates) else Unclear) (le-leb (0 + image.gates) image.gates (omega arith))
      ∙ ap (λ (k : ℕ). last_of image waiting_bytes (gates_from image waiting_bytes is_taken 0 k)) gates_is
      ∙ ap (last_of image waiting_bytes) (one_taken image waiting_bytes 0 n (ap (λ (k : ℕ). not (k == free)) own_kind) (λ g x y. others g x (omega (arith, gates_is))))
      ∙ last_one image waiting_bytes

  frees : visited image 0 (gate_of image waiting_bytes 0) sweep waiting ≡ Sweeping sweep over
  frees = ap (λ (k : ℕ). if k == finalizer then run_finalizer 0 (gate_of image waiting_bytes 0) (slice_get image.places (gate_of image waiting_bytes 0).key) sweep (gate_changed image freed 0 waiting_bytes) waiting else Sweeping sweep over) own_kind

  first : Runs image 1 (Sweeping sweep waiting) (Sweeping sweep over)
  unfolding tick
  first = one refl (ap (λ (c : Choice). swept_on image c sweep waiting) finds ∙ frees)

  free_now : (g : ℕ) → 0 ≤ g → g < 0 + image.gates → (gate_of image (gate_changed image freed 0 waiting_bytes) g).kind ≡ free
  free_now zero x y = kind_changed image freed 0 waiting_bytes (omega arith) (omega (arith, room, length-with_number 2 faulted m.bytes 0, length_changed image (kept forever r) 0 (with_state faulted m.bytes)))
  free_now (suc g) x y = kind_elsewhere image freed 0 (suc g) waiting_bytes (λ q. absurd (omega (arith, q))) ∙ others (suc g) (omega arith) (omega arith)

  ends : Runs image 1 (Sweeping sweep over) (Faulted f p over)
  ends = sweep_ends image sweep over (omega arith) free_now

  pub fault_ends : FaultEnds image f p r m
  fault_ends = record { after = over; runs = subst (λ (s : State). Runs image 2 s (Faulted f p over)) (sym starts) (onward first ends); marks = refl }
