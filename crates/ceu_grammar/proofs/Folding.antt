-- One open operator, and the expression under it.
use Rattle.std.proofs.Common.{◌≡◌, refl, sym, ℕ, ◌<◌, ◌≤◌, List, ◌∷◌, Bool, true, false, if◌then◌else◌, nat_lt, Result, Err, arith, subst}
use Rattle.std.proofs.lemmas.Bool.Decides.{nat_tests}
use Rattle.ceu_base.specs.declared.kinds.Op2.{Op2}
use Rattle.ceu_base.specs.declared.kinds.Pos.{Pos}
use Rattle.ceu_tree.specs.declared.source.Exp.{Exp}
use Rattle.ceu_syntax.specs.Steps.{Held, held, reduce}
use Rattle.ceu_syntax.specs.Terminals.{level}
use Rattle.ceu_syntax.specs.Trees.{two}
use Rattle.ceu_syntax.specs.declared.machine.Frame.{Frame}
use Rattle.ceu_syntax.specs.declared.machine.Frame.TheVariants as f
use Rattle.ceu_grammar.specs.Moves.{Folds, Reduces}
use Rattle.ceu_grammar.specs.declared.stop.Stop.{Stop}
use Rattle.ceu_grammar.specs.declared.stop.Stop.TheVariants.{Memory, Wrong}

less : (a b : ℕ) → nat_lt a b ≡ false → a < b → ⊥
less a b h l = grind (arith, nat_tests, h, l)

more : (a b : ℕ) → nat_lt a b ≡ true → b ≤ a → ⊥
more a b h l = grind (arith, nat_tests, h, l)

pub kept : (p : ℕ) (e : Exp) (op : Op2) (at : Pos) (a : Exp) (K : List Frame) (n : ℕ) → n ≡ level op → n < p → reduce p e (f.Binary op at a ∷ K) ≡ held e (f.Binary op at a ∷ K)
kept p e op at a K n same l = go (nat_lt (level op) p) refl
  where
    go : (b : Bool) → nat_lt (level op) p ≡ b → (if b then held e (f.Binary op at a ∷ K) else reduce p (two op at a e) K) ≡ held e (f.Binary op at a ∷ K)
    go true h = refl
    go false h = absurd (less (level op) p h (subst (λ m. m < p) same l))

pub ended : (p : ℕ) (e : Exp) (op : Op2) (at : Pos) (a : Exp) (K : List Frame) (n : ℕ) → n ≡ level op → p ≤ n → reduce p e (f.Binary op at a ∷ K) ≡ reduce p (two op at a e) K
ended p e op at a K n same l = go (nat_lt (level op) p) refl
  where
    go : (b : Bool) → nat_lt (level op) p ≡ b → (if b then held e (f.Binary op at a ∷ K) else reduce p (two op at a e) K) ≡ reduce p (two op at a e) K
    go true h = absurd (more (level op) p h (subst (λ m. p ≤ m) same l))
    go false h = refl

pub wanting : (stop : Stop) (p : ℕ) (e : Exp) (frame : Frame) → stop ≡ Memory → Folds (Err stop) p e frame
wanting stop p e frame h = subst (λ s. Folds (Err s) p e frame) (sym h) tt

pub stops : (stop : Stop) (p : ℕ) (e : Exp) (frame : Frame) (K : List Frame) (h : Held) → Folds (Err stop) p e frame → Reduces (Err stop) K h
stops Wrong p e frame K h r = absurd r
stops Memory p e frame K h r = tt

pub reduces_as : (r : Result Exp Stop) (K : List Frame) (a b : Held) → a ≡ b → Reduces r K a → Reduces r K b
reduces_as r K a b e h = subst (λ s. Reduces r K s) e h
