-- Labels, from the outermost to the innermost.
use Rattle.std.proofs.Common.{◌≡◌, refl, sym, ap, ◌∙◌, ℕ, zero, suc, ◌<◌, length, take, get_or, arith, Option, Some, None, List, [], ◌∷◌, ◌++◌}
use Rattle.std.specs.Option.{option_or}
use Rattle.ceu_base.specs.declared.kinds.Ty.{Ty}
use Rattle.ceu_types.specs.declared.found.LabelTarget.{LabelTarget}
use Rattle.ceu_types.specs.Around.{all_but_last, takes_if_named, label_takes}

pub last_dropped : (ls : List LabelTarget) (l : LabelTarget) → all_but_last (ls ++ l ∷ []) ≡ ls
last_dropped [] l = refl
last_dropped (m ∷ []) l = refl
last_dropped (m ∷ n ∷ ls) l = ap (λ r. m ∷ r) (last_dropped (n ∷ ls) l)

or_assoc : (a b c : Option Ty) → option_or (option_or a b) c ≡ option_or a (option_or b c)
or_assoc None b c = refl
or_assoc (Some t) b c = refl

or_none : (a : Option Ty) → option_or a None ≡ a
or_none None = refl
or_none (Some t) = refl

pub takes_none : (x : List ℕ) → label_takes [] x ≡ None
unfolding label_takes
takes_none x = refl

pub takes_more : (ls : List LabelTarget) (x : List ℕ) (i : ℕ) (d : LabelTarget) → i < length ls →
    label_takes (take (suc i) ls) x ≡ option_or (takes_if_named (get_or ls i d) x) (label_takes (take i ls) x)
unfolding label_takes
takes_more [] x i d h = absurd (omega arith)
takes_more (l ∷ ls) x zero d h = sym (or_none (takes_if_named l x))
takes_more (l ∷ ls) x (suc i) d h =
    ap (λ t. option_or t (takes_if_named l x)) (takes_more ls x i d (omega arith))
    ∙ or_assoc (takes_if_named (get_or ls i d) x) (label_takes (take i ls) x) (takes_if_named l x)

pub ruleset labels = (last_dropped, takes_none, takes_more)
