-- Parameters at the head of a list of declarations.
use Rattle.std.proofs.Common.{◌≡◌, ap, ◌∙◌, if◌then◌else◌, ℕ, zero, suc, ◌<◌, ◌+◌, length, drop, get_or, arith, List, [], ◌∷◌, true, false}
use Rattle.ceu_tree.specs.declared.source.Decl.{Decl}
use Rattle.ceu_types.specs.Uses.{is_parameter, leading_parameters}

pub leading_here : (ds : List Decl) (i : ℕ) (d : Decl) → i < length ds → is_parameter (get_or ds i d).class ≡ true →
    leading_parameters (drop i ds) ≡ suc (leading_parameters (drop (suc i) ds))
leading_here [] i d h p = absurd (omega arith)
leading_here (x ∷ ds) zero d h p =
    let e : 1 + leading_parameters ds ≡ suc (leading_parameters ds) = omega arith in
    ap (λ b. if b then 1 + leading_parameters ds else 0) p ∙ e
leading_here (x ∷ ds) (suc i) d h p = leading_here ds i d (omega arith) p

pub leading_none : (ds : List Decl) (i : ℕ) (d : Decl) → i < length ds → is_parameter (get_or ds i d).class ≡ false →
    leading_parameters (drop i ds) ≡ 0
leading_none [] i d h p = absurd (omega arith)
leading_none (x ∷ ds) zero d h p = ap (λ b. if b then 1 + leading_parameters ds else 0) p
leading_none (x ∷ ds) (suc i) d h p = leading_none ds i d (omega arith) p

pub ruleset parameters = (leading_here, leading_none)
