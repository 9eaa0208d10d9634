-- Texts that are written one behind the other.
use Rattle.std.proofs.Common.{◌≡◌, ℕ, ◌++◌, ◌-◌, ◌≤◌, ◌<◌, List, [], ◌∷◌, map, length, get_or, take, drop, ap, ◌∙◌, append_assoc, arith}
use Rattle.std.proofs.lemmas.List.{take_rest}
use Rattle.ceu_print.specs.Lists.{each_after, all}
use Rattle.ceu_print.proofs.StatementSizes.{total_size, size_first}
use Rattle.std.specs.Prelude.{Result}
use Rattle.std.specs.Result.{OnOk}
use Rattle.std.proofs.lemmas.Result.{on_ok_weaker}

pub one_more : (a b c x y : List ℕ) → b ≡ a ++ x → c ≡ b ++ y → c ≡ a ++ (x ++ y)
one_more a b c x y p q = q ∙ ap (λ (l : List ℕ). l ++ y) p ∙ append_assoc a x y

-- after a text, the last one of a whole
pub last_one : {E : Type 0} (r : Result (Unit {0}) E) (a b c x y whole : List ℕ) → b ≡ a ++ x → x ++ y ≡ whole → OnOk r (c ≡ b ++ y) → OnOk r (c ≡ a ++ whole)
last_one r a b c x y whole p q h = on_ok_weaker r (λ e. one_more a b c x y p e ∙ ap (λ (l : List ℕ). a ++ l) q) h

-- ---- texts that are written in a loop

pub each_step : {X : Type 0} (s : List ℕ) (f : X → List ℕ) (xs : List X) (x : X) (out mid new whole : List ℕ) → 1 ≤ length xs → x ≡ get_or xs 0 x → mid ≡ out ++ s → new ≡ mid ++ f x
    → out ++ each_after s (map f xs) ≡ whole → new ++ each_after s (map f (take (length xs - 1) (drop 1 xs))) ≡ whole
each_step s f [] x out mid new whole some is p q same = absurd (omega arith)
each_step s f (y ∷ xs) x out mid new whole some is p q same =
    let rest = each_after s (map f xs) in
    ap (λ (l : List _). new ++ each_after s (map f l)) (take_rest (y ∷ xs) 1)
    ∙ ap (λ (l : List ℕ). l ++ rest) (one_more out mid new s (f x) p q ∙ ap (λ z. out ++ (s ++ f z)) is)
    ∙ append_assoc out (s ++ f y) rest
    ∙ same

pub lines_step : {X : Type 0} (f : X → List ℕ) (xs : List X) (x : X) (out new whole : List ℕ) → 1 ≤ length xs → x ≡ get_or xs 0 x → new ≡ out ++ f x
    → out ++ all (map f xs) ≡ whole → new ++ all (map f (take (length xs - 1) (drop 1 xs))) ≡ whole
lines_step f [] x out new whole some is q same = absurd (omega arith)
lines_step f (y ∷ xs) x out new whole some is q same =
    let rest = all (map f xs) in
    ap (λ (l : List _). new ++ all (map f l)) (take_rest (y ∷ xs) 1)
    ∙ ap (λ (l : List ℕ). l ++ rest) (q ∙ ap (λ z. out ++ f z) is)
    ∙ append_assoc out (f y) rest
    ∙ same

pub fewer_left : {X : Type 0} (f : X → ℕ) (xs : List X) (x : X) (n : ℕ) → 1 ≤ length xs → total_size f xs ≤ n → total_size f (take (length xs - 1) (drop 1 xs)) < n
fewer_left f xs x n some fewer = omega (arith, size_first f xs x some)
