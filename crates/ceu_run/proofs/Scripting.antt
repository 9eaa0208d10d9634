-- Lines of a script that were read, one after the other.
use Rattle.std.proofs.Common.{◌≡◌, ℕ, zero, suc, ◌+◌, Bool, List, [], ◌∷◌, ◌++◌, length, refl, sym, ap, ◌∙◌, arith, append_assoc, replicate, add-zero}
use Rattle.ceu_base.specs.declared.kinds.Port.{Port}
use Rattle.ceu_script.specs.Lines.{Line, skipped, content, bad}
use Rattle.ceu_tree.specs.declared.command.Command.{Command}
use Rattle.ceu_tree.specs.declared.kernel.Kernel.{Kernel}
use Rattle.ceu_tree.specs.Run.{Config, done, all_done}
use Rattle.ceu_run.specs.Printing.{commands_of, bad_of, IsGood, command_text, commands_text}

abbrev pub Lines : Type 0
Lines = List (Line Command)

pub commands-append : (a b : Lines) → commands_of (a ++ b) ≡ commands_of a ++ commands_of b
commands-append [] b = refl
commands-append (skipped ∷ a) b = commands-append a b
commands-append (content x ∷ a) b = ap (λ (l : List Command). x ∷ l) (commands-append a b)
commands-append (bad kind ∷ a) b = commands-append a b

pub skips_command_nothing : (k : ℕ) (b : Lines) → commands_of (replicate k skipped ++ b) ≡ commands_of b
skips_command_nothing zero b = refl
skips_command_nothing (suc k) b = skips_command_nothing k b

pub only_skips : (k : ℕ) → commands_of (replicate k skipped) ≡ []
only_skips zero = refl
only_skips (suc k) = only_skips k

pub skips_good : (k : ℕ) → IsGood (replicate k skipped)
skips_good zero = tt
skips_good (suc k) = skips_good k

pub good-append : (a b : Lines) → IsGood a → IsGood b → IsGood (a ++ b)
good-append [] b first then = then
good-append (skipped ∷ a) b first then = good-append a b first then
good-append (content x ∷ a) b first then = good-append a b first then
good-append (bad kind ∷ a) b first then = absurd first

pub length-skips : (k : ℕ) → (let l : Lines = replicate k skipped in length l ≡ k)
length-skips zero = refl
length-skips (suc k) = ap suc (length-skips k)

shift : (a b : ℕ) → a + 1 + b ≡ a + suc b
shift a b = omega arith

pub bad-append : (number : ℕ) (a b : Lines) → IsGood a → bad_of number (a ++ b) ≡ bad_of (number + length a) b
bad-append number [] b good = ap (λ k. bad_of k b) (sym (add-zero number))
bad-append number (skipped ∷ a) b good = bad-append (number + 1) a b good ∙ ap (λ k. bad_of k b) (shift number (length a))
bad-append number (content x ∷ a) b good = bad-append (number + 1) a b good ∙ ap (λ k. bad_of k b) (shift number (length a))
bad-append number (bad kind ∷ a) b good = absurd good

pub all_done-append : (K : Kernel) (n : ℕ) (xs ys : List Command) (c : Config) → all_done K n (xs ++ ys) c ≡ all_done K n ys (all_done K n xs c)
unfolding all_done
all_done-append K n [] ys c = refl
all_done-append K n (x ∷ xs) ys c = all_done-append K n xs ys (done K n x c)

pub one_done : (K : Kernel) (n : ℕ) (x : Command) (c : Config) → all_done K n (x ∷ []) c ≡ done K n x c
unfolding all_done
one_done K n x c = refl

pub none_done : (K : Kernel) (n : ℕ) (c : Config) → all_done K n [] c ≡ c
unfolding all_done
none_done K n c = refl

pub commands_text-append : (all : Bool) (outputs : List Port) (K : Kernel) (n : ℕ) (xs ys : List Command) (c : Config)
    → commands_text all outputs K n (xs ++ ys) c ≡ commands_text all outputs K n xs c ++ commands_text all outputs K n ys (all_done K n xs c)
unfolding all_done
commands_text-append all outputs K n [] ys c = refl
commands_text-append all outputs K n (x ∷ xs) ys c =
    ap (λ (l : List ℕ). command_text all outputs K n x c ++ l) (commands_text-append all outputs K n xs ys (done K n x c))
    ∙ sym (append_assoc (command_text all outputs K n x c) (commands_text all outputs K n xs (done K n x c)) (commands_text all outputs K n ys (all_done K n xs (done K n x c))))
