-- Writing a number byte by byte.
use Rattle.std.proofs.Common.{◌≡◌, ℕ, suc, ◌+◌, ◌-◌, ◌/◌, ◌%◌, ◌≤◌, ◌<◌, List, [], ◌∷◌, ◌++◌, map, refl, sym, ap, ◌∙◌, append_assoc, arith}
use Rattle.std.proofs.lemmas.List.{append-nil}
use Rattle.std.specs.List.{flat_map}
use Rattle.std.proofs.lemmas.List.Concat.{flat_map-cons}
use Rattle.ceu_base.specs.declared.kinds.Ty.{Ty}
use Rattle.ceu_code.specs.Table.{low_first, type_byte}

pub digit_put : (out : List ℕ) (width i rest : ℕ) → i < width → (out ++ ((rest % 256) ∷ [])) ++ low_first (width - (i + 1)) (rest / 256) ≡ out ++ low_first (width - i) rest
unfolding low_first
digit_put out width i rest lt =
    let k : suc (width - (i + 1)) ≡ width - i = omega arith in
    append_assoc out ((rest % 256) ∷ []) (low_first (width - (i + 1)) (rest / 256)) ∙ ap (λ (n : ℕ). out ++ low_first n rest) k

pub digits_put : (out : List ℕ) (width i rest : ℕ) (total : List ℕ) → width ≤ i → out ++ low_first (width - i) rest ≡ total → out ≡ total
unfolding low_first
digits_put out width i rest total le e =
    let z : 0 ≡ width - i = omega arith in
    sym (append-nil out) ∙ ap (λ (n : ℕ). out ++ low_first n rest) z ∙ e

-- the types of parameters one by one
pub types_put : (types : List Ty) → flat_map (λ (t : Ty). type_byte t ∷ []) types ≡ map type_byte types
types_put [] = refl
types_put (t ∷ types) = flat_map-cons (λ (u : Ty). type_byte u ∷ []) t types ∙ ap (λ (bs : List ℕ). type_byte t ∷ bs) (types_put types)
