-- Instructions that a finalizer may do as well leave the header, the gates and the trail's own gate as they were, and bytes in the memory.
use Rattle.std.proofs.Common.{◌≡◌, refl, ◌∙◌, subst, ◌<◌, ◌≤◌, inl, inr, ℕ, ◌+◌, ◌-◌, ℤ, pos, Bool, true, false, List, [], ◌∷◌, length, Option, Some, None, Result, Ok, Err, arith}
use Rattle.std.specs.Prelude.{slice_get, slice_index, nat_lt, nat_le, if◌then◌else◌, ◌&&◌}
use Rattle.std.proofs.lemmas.Bool.{false≢true, and_parts, ltb-true, leb-true}
use Rattle.ceu_base.specs.declared.kinds.Ty.{Ty}
use Rattle.ceu_base.specs.declared.kinds.Ty.TheVariants as ty
use Rattle.ceu_base.specs.declared.kinds.Fault.{Fault}
use Rattle.ceu_base.specs.declared.kinds.Pos.{Pos}
use Rattle.ceu_base.specs.declared.kinds.Mark.TheVariants.{Output}
use Rattle.ceu_base.specs.Values.{is_value, same, wrapped, applied1, applied2, takes1, takes2, right_type, of_test}
use Rattle.ceu_code.specs.declared.image.Image.{Image}
use Rattle.ceu_code.specs.declared.instr.Instr.{Instr}
use Rattle.ceu_code.specs.declared.instr.Instr.TheVariants as instr
use Rattle.ceu_code.specs.Instructions.{cell}
use Rattle.ceu_mem.specs.Bytes.{number_at, with_number}
use Rattle.ceu_mem.specs.Memory.{size, value_at, with_value}
use Rattle.ceu_isa.specs.declared.registers.Registers.{Registers}
use Rattle.ceu_mem.proofs.Views.{length-with_number, byte_outside}
use Rattle.ceu_isa.specs.Layout.{cell_at, scratch_at, with_scratch, in_slots, gates_at, slots_at, end_of}
use Rattle.ceu_isa.specs.Effects.{Effect, Goes, provided, for_some}
use Rattle.ceu_isa.specs.Cells.{Popped, popped, popped_unless_none, pushed, answered, prefixed, combined, converted, has_values, has_top, top_value, below}
use Rattle.ceu_isa.specs.Fetching.{cell_type}
use Rattle.ceu_isa.specs.Slots.{here, outer, load_at, store_at}
use Rattle.ceu_isa.specs.Pools.{Life, Unclear, Over, Lives, life_of, told}
use Rattle.ceu_isa.specs.Rows.{effect, in_finalizers}
use Rattle.ceu_isa.specs.Turns.{behind}
use Rattle.laws_machine_code.specs.Does.{Does, stays, goes}
use Rattle.laws_machine_layout.specs.Laws.{AreBytes}
use Rattle.ceu_steps.proofs.Bytes.{number_bytes}

-- the gates, the length and the own gate are as they were
pub record Spares (image : Image) (own : ℕ) (old : List ℕ) (q : Registers) (new : List ℕ) : Type 0 where
  pub own_is : q.own ≡ own
  pub size : length new ≡ length old
  pub are_bytes : AreBytes new
  pub gates : (i : ℕ) → gates_at image ≤ i → i < slots_at image → slice_index new i ≡ slice_index old i

abbrev Fine : Image → (own : ℕ) → (old : List ℕ) → Effect → Type 0
Fine image own old (Goes q bytes marks) = Spares image own old q bytes
Fine image own old e = Unit {0}

module _ (image : Image) (own : ℕ) (old : List ℕ) (h : AreBytes old) where
  provided_fine : (b : Bool) (e : Effect) → (b ≡ true → Fine image own old e) → Fine image own old (provided b e)
  provided_fine true e f = f refl
  provided_fine false e f = tt

  some_fine : {X : Type 0} (o : Option X) (f : X → Effect) → ((x : X) → Fine image own old (f x)) → Fine image own old (for_some o f)
  some_fine None f g = tt
  some_fine (Some x) f g = g x

  popped_fine : (t : Ty) (r : Registers) (bytes : List ℕ) (f : Popped → Effect) → ((a : Popped) → a.registers.own ≡ r.own → Fine image own old (f a)) → Fine image own old (for_some (popped image t r bytes) f)
  unfolding popped
  popped_fine t r bytes f g = go (has_top image r && is_value t (top_value t r bytes))
    where
      go : (b : Bool) → Fine image own old (for_some (if b then Some (record { value = top_value t r bytes; registers = below r }) else None) f)
      go true = g (record { value = top_value t r bytes; registers = below r }) refl
      go false = tt

  popped_if_fine : (t : Ty) (r : Registers) (bytes : List ℕ) (f : Popped → Effect) → ((a : Popped) → a.registers.own ≡ r.own → Fine image own old (f a)) → Fine image own old (for_some (popped_unless_none image t r bytes) f)
  popped_if_fine ty.None r bytes f g = g (record { value = pos 0; registers = r }) refl
  popped_if_fine t r bytes f g = popped_fine t r bytes f g

  same_fine : (q : Registers) → q.own ≡ own → Spares image own old q old
  same_fine q e = record { own_is = e; size = refl; are_bytes = h; gates = λ i x y. refl }

  -- a number in the cells, or in the slots
  cell_fine : (q : Registers) (n : ℕ) (at : ℕ) → q.own ≡ own → at + 8 ≤ gates_at image → Spares image own old q (with_number 8 n old at)
  cell_fine q n at e le = record { own_is = e; size = length-with_number 8 n old at; are_bytes = number_bytes 8 n old at h; gates = λ i x y. byte_outside 8 n old at i (inr (omega arith)) }

  slot_fine : (q : Registers) (k n : ℕ) (at : ℕ) → q.own ≡ own → slots_at image ≤ at → Spares image own old q (with_number k n old at)
  slot_fine q k n at e le = record { own_is = e; size = length-with_number k n old at; are_bytes = number_bytes k n old at h; gates = λ i x y. byte_outside k n old at i (inl (omega arith)) }

  pushed_fine : (v : ℤ) (r : Registers) → r.own ≡ own → Fine image own old (pushed image v r old)
  unfolding pushed
  pushed_fine v r e =
      provided_fine (nat_lt r.depth image.depth) (Goes (record r { depth = r.depth + 1 }) (with_number 8 (cell v) old (cell_at r.depth)) [])
      (λ b. let lt : r.depth < image.depth = ltb-true _ _ b in cell_fine (record r { depth = r.depth + 1 }) (cell v) (cell_at r.depth) e (omega arith))

  answered_fine : (p : Pos) (x : Result ℤ Fault) (r : Registers) → r.own ≡ own → Fine image own old (answered image p x r old)
  answered_fine p (Ok v) r e = pushed_fine v r e
  answered_fine p (Err f) r e = tt

  load_fine : (t : Ty) (at : ℕ) (r : Registers) → r.own ≡ own → Fine image own old (load_at image t at r old)
  load_fine t at r e = provided_fine (in_slots image at (size t) && is_value t (value_at t old at)) (pushed image (value_at t old at) r old) (λ b. pushed_fine (value_at t old at) r e)

  store_fine : (t : Ty) (at : ℕ) (r : Registers) → r.own ≡ own → Fine image own old (store_at image t at r old)
  store_fine t at r e =
      popped_fine t r old (λ a. provided (in_slots image at (size t)) (Goes a.registers (with_value t a.value old at) []))
      (λ a o. provided_fine (in_slots image at (size t)) (Goes a.registers (with_value t a.value old at) [])
      (λ b. slot_fine a.registers (size t) (cell a.value) at (o ∙ e) (leb-true _ _ (and_parts (nat_le (slots_at image) at) (nat_le (at + size t) (end_of image)) b).0)))

  told_fine : (l : Life) (r : Registers) → r.own ≡ own → Fine image own old (told image l r old)
  told_fine Unclear r e = tt
  told_fine Over r e = pushed_fine (of_test false) r e
  told_fine (Lives a b c) r e = pushed_fine (of_test true) r e

  jumped_fine : (b : Bool) (to : ℕ) (q : Registers) → q.own ≡ own → Spares image own old (if b then record q { at = to } else q) old
  jumped_fine true to q e = same_fine (record q { at = to }) e
  jumped_fine false to q e = same_fine q e

  allowed_fine : (i : Instr) (r : Registers) → in_finalizers i ≡ true → r.own ≡ own → Fine image own old (effect image i r old)
  unfolding effect
  allowed_fine (instr.Push t v) r f e = pushed_fine v r e
  allowed_fine (instr.Load t slot) r f e = load_fine t (here r slot) r e
  allowed_fine (instr.LoadOuter t slot) r f e = load_fine t (outer image slot) r e
  allowed_fine (instr.Store t slot) r f e = store_fine t (here r slot) r e
  allowed_fine (instr.StoreOuter t slot) r f e = store_fine t (outer image slot) r e
  allowed_fine (instr.Prefix o t position) r f e =
      some_fine (slice_get image.places position) (λ p. for_some (popped image t r old) (λ a. prefixed image o t p a old))
      (λ p. popped_fine t r old (λ a. prefixed image o t p a old)
      (λ a w. provided_fine (takes1 o t) (answered image p (applied1 o t a.value) a.registers old) (λ b. answered_fine p (applied1 o t a.value) a.registers (w ∙ e))))
  allowed_fine (instr.Binary o t position) r f e =
      some_fine (slice_get image.places position) (λ p. for_some (popped image (right_type o t) r old) (λ b. for_some (popped image t b.registers old) (λ a. combined image o t p a b old)))
      (λ p. popped_fine (right_type o t) r old (λ b. for_some (popped image t b.registers old) (λ a. combined image o t p a b old))
      (λ b v. popped_fine t b.registers old (λ a. combined image o t p a b old)
      (λ a w. provided_fine (takes2 o t) (answered image p (applied2 o t a.value b.value) a.registers old) (λ k. answered_fine p (applied2 o t a.value b.value) a.registers (w ∙ v ∙ e)))))
  allowed_fine (instr.Convert t u) r f e =
      provided_fine (has_values u) (converted image t u r old) (λ b. popped_fine t r old (λ a. pushed image (wrapped u a.value) a.registers old) (λ a w. pushed_fine (wrapped u a.value) a.registers (w ∙ e)))
  allowed_fine (instr.Jump to) r f e = same_fine (record r { at = to }) e
  allowed_fine (instr.JumpIfFalse to) r f e =
      popped_fine ty.Bool r old (λ a. Goes (if same a.value (pos 0) then record a.registers { at = to } else a.registers) old []) (λ a w. jumped_fine (same a.value (pos 0)) to a.registers (w ∙ e))
  allowed_fine (instr.Value t) r f e = provided_fine (is_value t (value_at (cell_type t) old scratch_at)) (pushed image (value_at (cell_type t) old scratch_at) r old) (λ b. pushed_fine (value_at (cell_type t) old scratch_at) r e)
  allowed_fine instr.SetValue r f e =
      provided_fine (has_top image r) (Goes (below r) (with_scratch (number_at 8 old (cell_at (r.depth - 1))) old) []) (λ b. cell_fine (below r) (number_at 8 old (cell_at (r.depth - 1))) scratch_at e (omega arith))
  allowed_fine (instr.Output k t) r f e =
      some_fine (slice_get image.outputs k) (λ port. for_some (popped_unless_none image t r old) (λ a. provided (is_value port.ty a.value) (Goes a.registers old (Output k a.value ∷ []))))
      (λ port. popped_if_fine t r old (λ a. provided (is_value port.ty a.value) (Goes a.registers old (Output k a.value ∷ [])))
      (λ a w. provided_fine (is_value port.ty a.value) (Goes a.registers old (Output k a.value ∷ [])) (λ b. same_fine a.registers (w ∙ e))))
  allowed_fine instr.EndFinalizer r f e = tt
  allowed_fine (instr.Alive slot) r f e = told_fine (life_of image old (here r slot)) r e
  allowed_fine i r f e = absurd (false≢true f)

spares_then : (image : Image) (own : ℕ) (a b : List ℕ) (p q : Registers) (c : List ℕ) → Spares image own a p b → Spares image p.own b q c → Spares image own a q c
spares_then image own a b p q c x y = record { own_is = y.own_is ∙ x.own_is; size = y.size ∙ x.size; are_bytes = y.are_bytes; gates = λ i l u. y.gates i l u ∙ x.gates i l u }

pub does_spare : (image : Image) {r q : Registers} {bytes after : List ℕ} → Does image r bytes q after → AreBytes bytes → Spares image r.own bytes q after
does_spare image {r = r} {bytes = bytes} stays h = same_fine image r.own bytes h r refl
does_spare image {r = r} {q = q} {bytes = bytes} {after = after} (goes {s = s} {between = between} i f m e rest) h =
    let one : Spares image r.own bytes s between = subst (Fine image r.own bytes) e (allowed_fine image r.own bytes h i (behind i r) m refl) in
    spares_then image r.own bytes between s q after one (does_spare image rest one.are_bytes)
