-- A hidden slot of a loop is written: the variables and the other counters stay.
use Rattle.std.proofs.Common.{◌≡◌, ◌≢◌, refl, sym, ◌∙◌, subst, ◌≤◌, ◌⊎◌, inl, inr, ⊎_elim, ℕ, ◌+◌, ◌%◌, ◌^◌, List, Contains, arith}
use Rattle.ceu_code.specs.declared.image.Image.{Image}
use Rattle.ceu_mem.specs.Bytes.{with_number}
use Rattle.ceu_isa.specs.Layout.{slots_at, end_of}
use Rattle.ceu_tree.specs.declared.kernel.Kernel.{Kernel}
use Rattle.ceu_tree.specs.Residual.{Body}
use Rattle.ceu_tree.specs.Focus.{Frame}
use Rattle.ceu_tree.specs.World.{World, Cell, Holds, NotSet, Names}
use Rattle.ceu_shape.specs.Plans.{Plan}
use Rattle.laws_machine_layout.specs.Views.{view, slot_number}
use Rattle.laws_machine_layout.specs.Values.{CellStands}
use Rattle.ceu_trail.specs.Tables.{tables}
use Rattle.ceu_trail.specs.Turning.{home, MemoryHolds}
use Rattle.ceu_trail.specs.Within.{Variable, OneOf, ValuesWithin}
use Rattle.ceu_steps.specs.Live.{slots_in, vars_in, hidden_in, AllSized, Live}
use Rattle.ceu_steps.proofs.Frames.{AllCount}
use Rattle.ceu_steps.proofs.Store.{number_apart, number_there, written_holds, counts_apart}

module _ (image : Image) (P : Plan) (width : ℕ → ℕ) (K : Kernel) (slots_is : image.slots ≡ P.total) (frames : List Frame) (live : Live P.offset width P.frame P.total frames) (x k n : ℕ) (old : List ℕ)
    (mine : Contains (slots_in frames) x) (wide : width x ≡ k) (w : World) (held : ValuesWithin (vars_in frames) w) (apart : (v : Variable) → Contains (vars_in frames) v → x ≢ v.slot) (holds : MemoryHolds image P width K w old) where
  abbrev place : ℕ
  place = slots_at image + P.offset x

  abbrev new : List ℕ
  new = with_number k n old place

  pub hidden_room : slots_at image + P.offset x + k ≤ end_of image
  hidden_room = let a = live.within x mine in omega (arith, a, wide, slots_is)

  -- another slot in use
  elsewhere : (y : ℕ) → Contains (slots_in frames) y → y ≢ x → (slots_at image + P.offset y + width y ≤ place) ⊎ (place + k ≤ slots_at image + P.offset y)
  elsewhere y c ne = ⊎_elim (λ a. inl (omega arith)) (λ a. inr (omega (arith, wide))) (live.apart y x c mine ne)

  pub hidden_number : slot_number image new k place ≡ n % 256 ^ k
  hidden_number = number_there image k n place old (omega arith) hidden_room holds.fits.size

  pub hidden_other : (y : ℕ) → Contains (slots_in frames) y → y ≢ x → slot_number image new (width y) (slots_at image + P.offset y) ≡ slot_number image old (width y) (slots_at image + P.offset y)
  hidden_other y c ne = number_apart image k n place old (omega arith) (width y) (slots_at image + P.offset y) (elsewhere y c ne)

  still : (body : Body) (slot : ℕ) (c : Cell) → OneOf (vars_in frames) body slot c → CellStands (home image) (view image old) w c (width slot) (slots_at image + P.offset slot) → CellStands (home image) (view image new) w c (width slot) (slots_at image + P.offset slot)
  still body slot (Holds v) o e =
      hidden_other slot (subst (λ (y : ℕ). Contains (slots_in frames) y) o.slot_is (live.variables o.variable o.there).1) (λ q. apart o.variable o.there (sym q ∙ sym o.slot_is)) ∙ e
  still body slot NotSet o e = absurd o.is_held
  still body slot (Names z) o e = absurd o.is_held

  pub hidden_memory : MemoryHolds image P width K w new
  hidden_memory = written_holds image k n place old (omega arith) P width K w w refl refl holds (record { held = λ body slot c e. still body slot c (held.within body slot c e) (holds.values.held body slot c e) })

  pub hidden_counts_stay : (outer : List Frame) → AllSized P.offset width P.frame P.total outer → ((y : ℕ) → Contains (hidden_in outer) y → Contains (slots_in frames) y × (y ≢ x)) → AllCount (tables P width K) image (view image old) outer
      → AllCount (tables P width K) image (view image new) outer
  hidden_counts_stay outer sized other counts = counts_apart image P width K k n place old (omega arith) outer sized (λ y c. (let a = other y c in elsewhere y a.0 a.1)) counts
