-- What an effect that is allowed says of its tests.
use Rattle.std.proofs.Common.{◌≡◌, ℕ, Bool, true, false, List, Option, Some, refl, sym, ap, ◌∙◌, subst, FitsSigned, to_z, of_z, ℤ, Result, arith}
use Rattle.std.specs.Int.{w128}
use Rattle.std.specs.Prelude.{slice_get}
use Rattle.std.proofs.lemmas.Int.{to_z-of_z, ints}
use Rattle.ceu_base.specs.declared.kinds.Ty.{Ty}
use Rattle.ceu_base.specs.declared.kinds.Op1.{Op1}
use Rattle.ceu_base.specs.declared.kinds.Op2.{Op2}
use Rattle.ceu_base.specs.declared.kinds.Pos.{Pos}
use Rattle.ceu_base.specs.declared.kinds.Fault.{Fault}
use Rattle.ceu_base.specs.declared.kinds.Ty.TheVariants as ty
use Rattle.ceu_base.specs.Values.{IsValue, IsAnyValue, applied1, applied2, takes1, takes2}
use Rattle.ceu_code.specs.declared.image.Image.{Image}
use Rattle.ceu_isa.specs.declared.registers.Registers.{Registers}
use Rattle.ceu_isa.specs.Effects.{Effect, for_some, provided}
use Rattle.ceu_isa.specs.Cells.{Popped, popped, answered, prefixed, prefix_row}
use Rattle.ceu_machine.specs.Holding.{IsRight}
use Rattle.ceu_machine.specs.Rows.{left_row}

pub for_some_is : {X : Type 0} (o : Option X) (x : X) (f : X → Effect) → o ≡ Some x → for_some o f ≡ f x
for_some_is o x f e = ap (λ p. for_some p f) e

pub provided_is : (b : Bool) (e : Effect) → IsRight (provided b e) → provided b e ≡ e
provided_is true e h = refl
provided_is false e h = absurd h

pub provided_true : (b : Bool) (e : Effect) → IsRight (provided b e) → b ≡ true
provided_true true e h = refl
provided_true false e h = absurd h

-- a value that goes through 128 bits
pub same_value : (v : ℤ) → FitsSigned w128 v → to_z w128 (of_z w128 v) ≡ v
same_value v h = to_z-of_z w128 v h

-- a value of a type is a value of some type
pub any_value : (t : Ty) (v : ℤ) → IsValue t v → IsAnyValue v
any_value ty.None v h = grind (arith, ints)
any_value ty.Bool v h = grind (arith, ints)
any_value ty.U8 v h = grind (arith, ints)
any_value ty.S8 v h = grind (arith, ints)
any_value ty.U16 v h = grind (arith, ints)
any_value ty.S16 v h = grind (arith, ints)
any_value ty.U32 v h = grind (arith, ints)
any_value ty.S32 v h = grind (arith, ints)
any_value ty.U64 v h = grind (arith, ints)
any_value ty.S64 v h = grind (arith, ints)

-- ---- operators

pub prefix_is : (image : Image) (o : Op1) (t : Ty) (position : ℕ) (r : Registers) (bytes : List ℕ) (p : Pos) (v : ℤ) (q : Registers) (answer : Result ℤ Fault) → slice_get image.places position ≡ Some p → popped image t r bytes ≡ Some (record { value = v; registers = q }) → FitsSigned w128 v → answer ≡ applied1 o t (to_z w128 (of_z w128 v)) → IsRight (prefix_row image o t position r bytes) → prefix_row image o t position r bytes ≡ answered image p answer q bytes
prefix_is image o t position r bytes p v q answer s e fits a h =
    let first = for_some_is (slice_get image.places position) p (λ (p : Pos). for_some (popped image t r bytes) (λ (a : Popped). prefixed image o t p a bytes)) s in
    let second = for_some_is (popped image t r bytes) (record { value = v; registers = q }) (λ (a : Popped). prefixed image o t p a bytes) e in
    let right : IsRight (provided (takes1 o t) (answered image p (applied1 o t v) q bytes)) = subst IsRight (first ∙ second) h in
    let same : applied1 o t v ≡ answer = sym (a ∙ ap (λ (x : ℤ). applied1 o t x) (same_value v fits)) in
    first ∙ second ∙ provided_is (takes1 o t) (answered image p (applied1 o t v) q bytes) right ∙ ap (λ (x : Result ℤ Fault). answered image p x q bytes) same

pub left_is : (image : Image) (o : Op2) (t : Ty) (p : Pos) (w : ℤ) (r : Registers) (bytes : List ℕ) (v : ℤ) (q : Registers) (answer : Result ℤ Fault) → popped image t r bytes ≡ Some (record { value = v; registers = q }) → FitsSigned w128 v → FitsSigned w128 w → answer ≡ applied2 o t (to_z w128 (of_z w128 v)) (to_z w128 (of_z w128 w)) → IsRight (left_row image o t p w r bytes) → left_row image o t p w r bytes ≡ answered image p answer q bytes
left_is image o t p w r bytes v q answer e fits fits' a h =
    let first = for_some_is (popped image t r bytes) (record { value = v; registers = q }) (λ (a : Popped). provided (takes2 o t) (answered image p (applied2 o t a.value w) a.registers bytes)) e in
    let right : IsRight (provided (takes2 o t) (answered image p (applied2 o t v w) q bytes)) = subst IsRight first h in
    let same : applied2 o t v w ≡ answer = sym (a ∙ ap (λ (x : ℤ). applied2 o t x (to_z w128 (of_z w128 w))) (same_value v fits) ∙ ap (λ (x : ℤ). applied2 o t v x) (same_value w fits')) in
    first ∙ provided_is (takes2 o t) (answered image p (applied2 o t v w) q bytes) right ∙ ap (λ (x : Result ℤ Fault). answered image p x q bytes) same
