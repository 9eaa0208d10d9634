-- The units of a time by their names.
use Rattle.std.proofs.Common.{◌≡◌, refl, ap, ◌∙◌, ℕ, List, Option, Some, None, if◌then◌else◌, Bool, true, false}
use Rattle.std.specs.Str.{bytes_eq}
use Rattle.std.proofs.lemmas.Slice.Eq.{bytes_eq-Decides}
use Rattle.ceu_tree.specs.declared.kernel.Unit.{Unit as TimeUnit}
use Rattle.ceu_tree.specs.declared.kernel.Unit.TheVariants as unit
use Rattle.ceu_syntax.specs.Terminals.{unit_name}
use Rattle.ceu_syntax.specs.Steps.{unit_of}

same_unit : {u v : TimeUnit} → Some u ≡ Some v → u ≡ v
same_unit h = cc

tried : (x : List ℕ) (v : TimeUnit) (rest : Option TimeUnit) (u : TimeUnit) (b : Bool) → bytes_eq x (unit_name v) ≡ b → (if b then Some v else rest) ≡ Some u → (rest ≡ Some u → x ≡ unit_name u) → x ≡ unit_name u
tried x v rest u true e h g = (bytes_eq-Decides x (unit_name v)).0 e ∙ ap unit_name (same_unit h)
tried x v rest u false e h g = g h

none_of : {A : Type 0} {u : TimeUnit} → None ≡ Some u → A
none_of h = absurd (cc)

pub unit_is : (x : List ℕ) (u : TimeUnit) → unit_of x ≡ Some u → x ≡ unit_name u
unit_is x u h =
    tried x unit.H _ u (bytes_eq x (unit_name unit.H)) refl h (λ h. tried x unit.Min _ u (bytes_eq x (unit_name unit.Min)) refl h (λ h. tried x unit.S _ u (bytes_eq x (unit_name unit.S)) refl h
    (λ h. tried x unit.Ms _ u (bytes_eq x (unit_name unit.Ms)) refl h (λ h. tried x unit.Us _ u (bytes_eq x (unit_name unit.Us)) refl h (λ h. none_of h)))))

pub unit_named : (u : TimeUnit) → unit_of (unit_name u) ≡ Some u
unit_named unit.H = refl
unit_named unit.Min = refl
unit_named unit.S = refl
unit_named unit.Ms = refl
unit_named unit.Us = refl
