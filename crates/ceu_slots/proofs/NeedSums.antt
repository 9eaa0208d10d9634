-- Needs of a list with one more item, and needs of cut numbers.
use Rattle.std.proofs.Common.{◌≡◌, ap, ◌∙◌, ℕ, zero, suc, ◌+◌, ◌<◌, List, [], ◌∷◌, length, take, get_or, Bool, true, false, arith}
use Rattle.ceu_tree.specs.declared.kernel.KDecl.{KDecl}
use Rattle.ceu_tree.specs.Cut.{cut}
use Rattle.ceu_tree.specs.Needs.{apart, joined, decls_size, decl_size}
use Rattle.ceu_tree.proofs.TableLaws.{total_more}

pub decls_more : (frames : List ℕ) (ds : List KDecl) (i : ℕ) (d : KDecl) → i < length ds → decls_size frames (take (suc i) ds) ≡ decls_size frames (take i ds) + decl_size frames (get_or ds i d).kind
decls_more frames [] i d h = absurd (omega arith)
decls_more frames (x ∷ xs) zero d h = omega arith
decls_more frames (x ∷ xs) (suc i) d h = let ih : decls_size frames (take (suc i) xs) ≡ decls_size frames (take i xs) + decl_size frames (get_or xs i d).kind = decls_more frames xs i d (omega arith) in omega arith

apart_assoc : (plain : Bool) (a b c : ℕ) → apart plain a (apart plain b c) ≡ apart plain (apart plain a b) c
apart_assoc true a b c = omega arith
apart_assoc false a b c = grind arith

apart_none : (plain : Bool) (a : ℕ) → apart plain a 0 ≡ apart plain 0 a
apart_none true a = omega arith
apart_none false a = grind arith

pub joined_more : {X : Type 0} (plain : Bool) (f : X → ℕ) (xs : List X) (i : ℕ) (d : X) → i < length xs → joined plain f (take (suc i) xs) ≡ apart plain (joined plain f (take i xs)) (f (get_or xs i d))
joined_more plain f [] i d h = absurd (omega arith)
joined_more plain f (x ∷ xs) zero d h = apart_none plain (f x)
joined_more plain f (x ∷ xs) (suc i) d h = ap (apart plain (f x)) (joined_more plain f xs i d (omega arith)) ∙ apart_assoc plain (f x) (joined plain f (take i xs)) (f (get_or xs i d))

pub cut_apart : (plain : Bool) (a b : ℕ) → cut (apart plain (cut a) (cut b)) ≡ cut (apart plain a b)
cut_apart true a b = grind arith
cut_apart false a b = grind arith

pub ruleset sums = (total_more, decls_more, joined_more, cut_apart)
