-- Recursions of the definitions, a step at a time: the gates of a range, places one after the other, and arguments.
use Rattle.std.proofs.Common.{◌≡◌, ℕ, zero, suc, ◌+◌, ◌-◌, ◌*◌, ◌<◌, ◌≤◌, Bool, true, false, List, [], ◌∷◌, length, get_or, drop, take, Option, Some, None, refl, ap, sym, ◌∙◌, subst, arith, eqb, ◌&&◌, if◌then◌else◌}
use Rattle.std.specs.Prelude.{IsSome, option_and_then}
use Rattle.std.proofs.lemmas.Bool.{false≢true, eq-eqb}
use Rattle.std.proofs.lemmas.List.{take_rest}
use Rattle.std.proofs.lemmas.Bool.Decides.{nat_tests}
use Rattle.ceu_base.specs.declared.kinds.Ty.{Ty}
use Rattle.ceu_base.specs.declared.kinds.Ty.TheVariants as ty
use Rattle.ceu_code.specs.declared.image.Image.{Image}
use Rattle.ceu_code.specs.declared.image.CodeRow.{CodeRow}
use Rattle.ceu_mem.specs.declared.gate.Gate.{Gate}
use Rattle.ceu_mem.specs.Bytes.{number_at}
use Rattle.ceu_mem.specs.Memory.{size, with_value}
use Rattle.ceu_isa.specs.declared.registers.Registers.{Registers}
use Rattle.ceu_isa.specs.Layout.{gate_of, is_taken, in_slots, end_of}
use Rattle.ceu_isa.specs.Cells.{Popped, popped}
use Rattle.ceu_isa.specs.Effects.{Effect, provided}
use Rattle.ceu_machine.specs.Holding.{IsRight}
use Rattle.ceu_machine.proofs.Rights.{provided_true}
use Rattle.ceu_isa.specs.Pools.{some_taken, Filled, filled, filled_by, vacancies, vacant, place_size, free_place}

-- ---- gates that are taken

pub is_taken_yes : (g : Gate) → (g.kind ≡ 0 → ⊥) → is_taken g ≡ true
is_taken_yes g h = grind (arith, nat_tests)

pub is_taken_no : (g : Gate) → g.kind ≡ 0 → is_taken g ≡ false
is_taken_no g h = grind (arith, nat_tests)

pub some_taken_none : (image : Image) (bytes : List ℕ) (f n : ℕ) → n ≡ 0 → some_taken image bytes f n ≡ false
unfolding some_taken
some_taken_none image bytes f n e = subst (λ k. some_taken image bytes f k ≡ false) (sym e) refl

pub some_taken_here : (image : Image) (bytes : List ℕ) (f n : ℕ) → 0 < n → is_taken (gate_of image bytes f) ≡ true → some_taken image bytes f n ≡ true
unfolding some_taken
some_taken_here image bytes f zero lt e = absurd (omega arith)
some_taken_here image bytes f (suc n) lt e = subst (λ b. (elim b as (λ _. Bool) [ true ↦ true | false ↦ some_taken image bytes (suc f) n ]) ≡ true) (sym e) refl

pub some_taken_next : (image : Image) (bytes : List ℕ) (f n g k : ℕ) → g ≡ f + 1 → n ≡ k + 1 → is_taken (gate_of image bytes f) ≡ false → some_taken image bytes f n ≡ some_taken image bytes g k
unfolding some_taken
some_taken_next image bytes f zero g k a b e = absurd (omega arith)
some_taken_next image bytes f (suc n) g k a b e =
    let m : n ≡ k = omega arith in
    let s : suc f ≡ g = omega arith in
    let h : some_taken image bytes (suc f) n ≡ some_taken image bytes g k = ap (λ (x : ℕ). some_taken image bytes x n) s ∙ ap (λ (x : ℕ). some_taken image bytes g x) m in
    subst (λ b. (elim b as (λ _. Bool) [ true ↦ true | false ↦ some_taken image bytes (suc f) n ]) ≡ some_taken image bytes g k) (sym e) h

-- ---- options

pub first_there : {X Y : Type 0} (f : X → Option Y) (o : Option X) → IsSome (option_and_then f o) → IsSome o
first_there f None h = h
first_there f (Some x) h = refl

pub second_there : {X Y : Type 0} (f : X → Option Y) (o : Option X) (x : X) → o ≡ Some x → IsSome (option_and_then f o) → IsSome (f x)
second_there f o x e h = subst (λ p. IsSome (option_and_then f p)) e h

pub second_is : {X Y : Type 0} (f : X → Option Y) (o : Option X) (x : X) (y : Option Y) → o ≡ Some x → f x ≡ y → option_and_then f o ≡ y
second_is f o x y e g = ap (λ p. option_and_then f p) e ∙ g

-- ---- arguments

pub filled_none : (image : Image) (ps : List Ty) (at : ℕ) (r : Registers) (bytes : List ℕ) → length ps ≡ 0 → filled image ps at r bytes ≡ Some (record { registers = r; bytes = bytes })
unfolding filled
filled_none image [] at r bytes e = refl
filled_none image (t ∷ ts) at r bytes e = absurd (omega arith)

-- the first of some parameters, and the others
abbrev pub first_type : List Ty → Ty
first_type ps = get_or ps 0 ty.None

abbrev pub later_types : List Ty → List Ty
later_types ps = take (length ps - 1) (drop 1 ps)

pub filled_step : (image : Image) (ps : List Ty) (at next : ℕ) (r : Registers) (bytes : List ℕ) → 0 < length ps → next ≡ at + size (first_type ps) → filled image ps at r bytes ≡ option_and_then (filled_by image (first_type ps) at) (filled image (later_types ps) next r bytes)
unfolding filled
filled_step image [] at next r bytes lt e = absurd (omega arith)
filled_step image (t ∷ ts) at next r bytes lt e =
    ap (λ (us : List Ty). option_and_then (filled_by image t at) (filled image us (at + size t) r bytes)) (sym (take_rest (t ∷ ts) 1))
    ∙ ap (λ (n : ℕ). option_and_then (filled_by image t at) (filled image (later_types (t ∷ ts)) n r bytes)) (sym e)

near_if : (b c : Bool) (f : Filled) → IsSome (if b && c then Some f else None) → c ≡ true
near_if true true f h = refl
near_if true false f h = absurd (false≢true h)
near_if false c f h = absurd (false≢true h)

near_by : (image : Image) (t : Ty) (at : ℕ) (f : Filled) (o : Option Popped) → IsSome {T = Filled} (option_and_then (λ (a : Popped). if in_slots image at (size t) then Some (record { registers = a.registers; bytes = with_value t a.value f.bytes at }) else None) o) → at + size t ≤ end_of image
near_by image t at f None h = absurd (false≢true h)
near_by image t at f (Some a) h =
    let within : in_slots image at (size t) ≡ true = near_if true (in_slots image at (size t)) (record { registers = a.registers; bytes = with_value t a.value f.bytes at }) h in
    grind (arith, nat_tests)

pub filled_near : (image : Image) (t : Ty) (at : ℕ) (f : Filled) → IsSome (filled_by image t at f) → at + size t ≤ end_of image
filled_near image t at f h = near_by image t at f (popped image t f.registers f.bytes) h

there_near : (image : Image) (t : Ty) (at : ℕ) (o : Option Filled) → IsSome (option_and_then (filled_by image t at) o) → at + size t ≤ end_of image
there_near image t at None h = absurd (false≢true h)
there_near image t at (Some f) h = filled_near image t at f h

pub params_near : (image : Image) (ps : List Ty) (at : ℕ) (r : Registers) (bytes : List ℕ) → 0 < length ps → IsSome (filled image ps at r bytes) → at + size (first_type ps) ≤ end_of image
params_near image ps at r bytes lt h =
    there_near image (first_type ps) at (filled image (later_types ps) (at + size (first_type ps)) r bytes) (subst IsSome (filled_step image ps at (at + size (first_type ps)) r bytes lt refl) h)

-- ---- places

pub place_none : (space at n : ℕ) (bytes : List ℕ) → n ≡ 0 → free_place n space at bytes ≡ None
unfolding free_place
place_none space at n bytes e = subst (λ k. free_place k space at bytes ≡ None) (sym e) refl

pub place_here : (n space at : ℕ) (bytes : List ℕ) → 0 < n → number_at 1 bytes at ≡ 0 → free_place n space at bytes ≡ Some at
unfolding free_place
place_here zero space at bytes lt e = absurd (omega arith)
place_here (suc n) space at bytes lt e = subst (λ b. (elim b as (λ _. Option ℕ) [ true ↦ Some at | false ↦ free_place n space (at + space) bytes ]) ≡ Some at) (sym (eq-eqb _ _ e)) refl

pub place_next : (n k space at : ℕ) (bytes : List ℕ) → n ≡ k + 1 → (number_at 1 bytes at ≡ 0 → ⊥) → free_place n space at bytes ≡ free_place k space (at + space) bytes
unfolding free_place
place_next zero k space at bytes e ne = absurd (omega arith)
place_next (suc n) k space at bytes e ne =
    let m : n ≡ k = omega arith in
    let b : eqb (number_at 1 bytes at) 0 ≡ false = grind (arith, nat_tests) in
    subst (λ b. (elim b as (λ _. Option ℕ) [ true ↦ Some at | false ↦ free_place n space (at + space) bytes ]) ≡ free_place k space (at + space) bytes) (sym b) (ap (λ (x : ℕ). free_place x space (at + space) bytes) m)

pub vacancies_none : (n pool : ℕ) (row : CodeRow) (gate at : ℕ) (bytes : List ℕ) → n ≡ 0 → vacancies n pool row gate at bytes ≡ bytes
unfolding vacancies
vacancies_none n pool row gate at bytes e = subst (λ k. vacancies k pool row gate at bytes ≡ bytes) (sym e) refl

pub vacancies_next : (n k pool : ℕ) (row : CodeRow) (gate at : ℕ) (bytes : List ℕ) → n ≡ k + 1 → vacancies n pool row gate at bytes ≡ vacancies k pool row (gate + row.gates) (at + place_size row) (vacant pool gate at bytes)
unfolding vacancies
vacancies_next zero k pool row gate at bytes e = absurd (omega arith)
vacancies_next (suc n) k pool row gate at bytes e =
    let m : n ≡ k = omega arith in
    ap (λ (x : ℕ). vacancies x pool row (gate + row.gates) (at + place_size row) (vacant pool gate at bytes)) m

-- one more of n things of a size
pub one_more : (n k s : ℕ) → n ≡ k + 1 → n * s ≡ k * s + s
one_more n k s e =
    let x : n * s ≡ k * s + s = ap (λ (j : ℕ). j * s) e ∙ omega arith in
    x

-- ---- tests of an effect

pub room : (image : Image) (at size : ℕ) (e : Effect) → IsRight (provided (in_slots image at size) e) → at + size ≤ end_of image
room image at size e h = let within = provided_true (in_slots image at size) e h in grind (arith, nat_tests)
