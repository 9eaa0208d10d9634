-- The arguments of a call, one after the other.
use Rattle.std.proofs.Common.{◌≡◌, refl, ap, ◌∙◌, ℕ, zero, suc, ◌+◌, ◌<◌, length, take, get_or, arith, List, [], ◌∷◌}
use Rattle.ceu_tree.specs.declared.source.Exp.{Exp}
use Rattle.ceu_tree.specs.declared.source.Ident.{Ident}
use Rattle.ceu_scopes.specs.declared.known.Scopes.{Scopes}
use Rattle.ceu_types.specs.declared.found.Found.{Found}
use Rattle.ceu_types.specs.Uses.{parameter_type}
use Rattle.ceu_types.specs.Expressions.{given}
use Rattle.ceu_types.specs.Notes.{passed}
use Rattle.ceu_types.specs.Statements.{arguments_found, uses_passed}

arguments_more : (s : Scopes) (c n : ℕ) (es : List Exp) (f : Found) (i : ℕ) (d : Exp) → i < length es →
    arguments_found s c n (take (suc i) es) f ≡ given s (get_or es i d) (parameter_type s c (n + i)) (arguments_found s c n (take i es) f)
arguments_more s c n [] f i d h = absurd (omega arith)
arguments_more s c n (e ∷ es) f zero d h =
    let k : n ≡ n + 0 = omega arith in ap (λ j. given s e (parameter_type s c j) f) k
arguments_more s c n (e ∷ es) f (suc i) d h =
    let k : n + 1 + i ≡ n + suc i = omega arith in
    let g : Found = given s e (parameter_type s c n) f in
    arguments_more s c (n + 1) es g i d (omega arith)
    ∙ ap (λ j. given s (get_or es i d) (parameter_type s c j) (arguments_found s c (n + 1) (take i es) g)) k

pub arguments_next : (s : Scopes) (c : ℕ) (es : List Exp) (f : Found) (i : ℕ) (d : Exp) → i < length es →
    arguments_found s c 0 (take (suc i) es) f ≡ given s (get_or es i d) (parameter_type s c i) (arguments_found s c 0 (take i es) f)
arguments_next s c es f i d h =
    let k : 0 + i ≡ i = omega arith in
    arguments_more s c 0 es f i d h
    ∙ ap (λ j. given s (get_or es i d) (parameter_type s c j) (arguments_found s c 0 (take i es) f)) k

-- one name more of the list of an async
pub passed_next : (s : Scopes) (f : Found) (xs : List Ident) (i : ℕ) → i < length xs →
    uses_passed s (take (suc i) xs) f ≡ passed s (uses_passed s (take i xs) f)
passed_next s f [] i h = absurd (omega arith)
passed_next s f (x ∷ xs) zero h = refl
passed_next s f (x ∷ xs) (suc i) h = passed_next s (passed s f) xs i (omega arith)
