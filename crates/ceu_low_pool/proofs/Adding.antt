-- Lines that are added one after the other, and the arguments of code.
use Rattle.std.proofs.Common.{◌≡◌, refl, sym, ap, ◌∙◌, ℕ, zero, suc, ◌+◌, ◌-◌, ◌<◌, ◌≤◌, List, [], ◌∷◌, ◌++◌, length, get_or, arith, append_assoc, Result, Ok, Err, OnOk, Some}
use Rattle.std.proofs.lemmas.List.{append-nil}
use Rattle.ceu_tree.specs.declared.kernel.Kernel.{Kernel}
use Rattle.ceu_tree.specs.declared.kernel.KCode.{KCode}
use Rattle.ceu_tree.specs.Greatest.{total}
use Rattle.ceu_tree.specs.Leaf.{code_at}
use Rattle.ceu_tree.specs.Weight.{weight, code_weight}
use Rattle.ceu_asm.specs.declared.line.Line.{Line}
use Rattle.ceu_asm.specs.declared.line.Labels.{Labels}
use Rattle.ceu_asm.specs.Pages.{Page}
use Rattle.ceu_shape.specs.Words.{part}
use Rattle.ceu_shape.specs.Pools.{argument_lines}

pub on_ok : {T E A B : Type 0} → (r : Result T E) → (A → B) → OnOk r A → OnOk r B
on_ok (Ok v) f h = f h
on_ok (Err e) f h = h

abbrev pub with_lines : Page → List Line → Page
with_lines page ls = record page { lines = ls }

pub then_lines : (old mid new : Page) (a b : List Line) → mid ≡ with_lines old (old.lines ++ a) → new ≡ with_lines mid (mid.lines ++ b) → new ≡ with_lines old (old.lines ++ (a ++ b))
then_lines old mid new a b e f =
    f ∙ ap (λ (p : Page). with_lines p (p.lines ++ b)) e ∙ ap (with_lines old) (append_assoc old.lines a b)

-- ---- codes by number

pub code_there : (k : ℕ) (cs : List KCode) (d : KCode) → k < length cs → code_at k cs ≡ Some (get_or cs k d)
code_there k [] d h = absurd (omega arith)
code_there zero (c ∷ cs) d h = refl
code_there (suc k) (c ∷ cs) d h = code_there k cs d (omega arith)

codes_weighed : (cs : List KCode) → length cs ≤ total code_weight cs
codes_weighed [] = omega arith
codes_weighed (c ∷ cs) = omega (arith, codes_weighed cs)

-- a program of small weight has few codes
pub few_codes : (K : Kernel) → weight K ≤ 65535 → length K.codes ≤ 65535
unfolding weight
few_codes K h = omega (arith, codes_weighed K.codes)

-- ---- arguments

pub arguments_step : (labels : Labels) (all sheet next : Page) (k count : ℕ) → k < count → all ≡ with_lines sheet (sheet.lines ++ argument_lines labels k (count - k)) →
    next ≡ with_lines sheet (sheet.lines ++ part labels k) → all ≡ with_lines next (next.lines ++ argument_lines labels (k + 1) (count - (k + 1)))
arguments_step labels all sheet next k count below h e =
    let left = count - (k + 1) in
    let own : List Line = part labels k in
    let one : count - k ≡ suc left = omega arith in
    h ∙ ap (λ (n : ℕ). with_lines sheet (sheet.lines ++ argument_lines labels k n)) one
    ∙ ap (with_lines sheet) (sym (append_assoc sheet.lines own (argument_lines labels (k + 1) left)))
    ∙ ap (λ (p : Page). with_lines p (p.lines ++ argument_lines labels (k + 1) left)) (sym e)

-- no argument is left
pub arguments_over : (labels : Labels) (all sheet : Page) (k count : ℕ) → count ≤ k → all ≡ with_lines sheet (sheet.lines ++ argument_lines labels k (count - k)) → sheet ≡ all
arguments_over labels all sheet k count over h =
    let none : count - k ≡ 0 = omega arith in
    sym (h ∙ ap (λ (n : ℕ). with_lines sheet (sheet.lines ++ argument_lines labels k n)) none ∙ ap (with_lines sheet) (append-nil sheet.lines))
