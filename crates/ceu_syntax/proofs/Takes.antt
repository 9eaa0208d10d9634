-- An expression that derives is taken, and gives its tree.
use Rattle.std.proofs.Common.{◌≡◌, refl, ap, ◌∙◌, ℕ, suc, ◌≤◌, List, ◌∷◌, Some, if◌then◌else◌, arith, Bool, true, false}
use Rattle.std.proofs.Common.{nat_lt}
use Rattle.std.proofs.lemmas.Bool.{lt-ltb, le-ltb}
use Rattle.ceu_base.specs.declared.kinds.Pos.{Pos}
use Rattle.ceu_base.specs.declared.kinds.Op1.{Op1}
use Rattle.ceu_base.specs.declared.kinds.Op2.{Op2}
use Rattle.ceu_base.specs.declared.kinds.Op2.TheVariants as op2
use Rattle.ceu_tree.specs.declared.source.Ident.{Ident}
use Rattle.ceu_tree.specs.declared.source.Exp.{Exp}
use Rattle.ceu_syntax.specs.declared.terminal.Kind.{Kind}
use Rattle.ceu_syntax.specs.declared.terminal.Kind.TheVariants as k
use Rattle.ceu_syntax.specs.declared.terminal.Terminal.{Terminal}
use Rattle.ceu_syntax.specs.declared.machine.Frame.{Frame}
use Rattle.ceu_syntax.specs.declared.machine.Frame.TheVariants as f
use Rattle.ceu_syntax.specs.declared.machine.Mode.{Mode}
use Rattle.ceu_syntax.specs.declared.machine.Mode.TheVariants as m
use Rattle.ceu_syntax.specs.Terminals.{token, binary_of, level}
use Rattle.ceu_syntax.specs.Trees.{ident, outer, number, truth, variable, alive, one, two, cast}
use Rattle.ceu_syntax.specs.Expressions.{Location, is_here, is_outer, Expression, is_number, is_truth, is_variable, is_alive, is_paren, is_prefix, is_binary, is_cast}
use Rattle.ceu_syntax.specs.Steps.{held, State, state, reduce, moved, starts_with, follows_with, follows, pushed, ends, of_named}
use Rattle.ceu_syntax.specs.Runs.{run, step, then_run}

-- ---- levels

pub low : (op : Op2) → level op ≤ 9
low op2.Or = omega arith
low op2.And = omega arith
low op2.Eq = omega arith
low op2.Ne = omega arith
low op2.Lt = omega arith
low op2.Gt = omega arith
low op2.Le = omega arith
low op2.Ge = omega arith
low op2.BitOr = omega arith
low op2.BitXor = omega arith
low op2.BitAnd = omega arith
low op2.Shl = omega arith
low op2.Shr = omega arith
low op2.Add = omega arith
low op2.Sub = omega arith
low op2.Mul = omega arith
low op2.Div = omega arith
low op2.Rem = omega arith

pub not_zero : (op : Op2) → 1 ≤ level op
not_zero op2.Or = omega arith
not_zero op2.And = omega arith
not_zero op2.Eq = omega arith
not_zero op2.Ne = omega arith
not_zero op2.Lt = omega arith
not_zero op2.Gt = omega arith
not_zero op2.Le = omega arith
not_zero op2.Ge = omega arith
not_zero op2.BitOr = omega arith
not_zero op2.BitXor = omega arith
not_zero op2.BitAnd = omega arith
not_zero op2.Shl = omega arith
not_zero op2.Shr = omega arith
not_zero op2.Add = omega arith
not_zero op2.Sub = omega arith
not_zero op2.Mul = omega arith
not_zero op2.Div = omega arith
not_zero op2.Rem = omega arith

none_low : {A : Type 0} (op : Op2) → level op ≡ 0 → A
none_low op h = let z : 1 ≤ level op = not_zero op in absurd (omega arith)

-- nothing that is open has level l or above
abbrev pub Rests : ℕ → List Frame → Type 0
Rests l K = (x : Exp) → reduce l x K ≡ held x K

-- an operand of level p may stand behind K
abbrev pub Fits : ℕ → List Frame → Type 0
Fits p K = (l : ℕ) → p ≤ l → l ≤ 9 → Rests l K

-- what has been read since K, once its operators of level p and above are done, is e
abbrev pub Holds : ℕ → Mode → List Frame → Exp → List Frame → Type 0
Holds p (m.After x) L e K = (q : ℕ) → q ≤ p → reduce q x L ≡ reduce q e K
Holds p (m.Named x at) L e K = (q : ℕ) → q ≤ p → reduce q (variable (ident x at)) L ≡ reduce q e K
Holds p (m.Typed x) L e K = (p ≡ 0) × (x ≡ e) × (L ≡ K)
Holds p _ L e K = ⊥

named_binary : (kind : Kind) (op : Op2) (at : Pos) (x : List ℕ) (before : Pos) (L : List Frame) → binary_of kind ≡ Some op → of_named kind at x before L ≡ Some (pushed op at (reduce (level op) (variable (ident x before)) L))
named_binary k.Question op at x before L h = absurd (cc)
named_binary kind op at x before L h = ap (λ o. follows_with o kind at (variable (ident x before)) L) h

hold_binary : (mode : Mode) (L : List Frame) (e : Exp) (K : List Frame) (kind : Kind) (op : Op2) (at : Pos) → Holds (level op) mode L e K → binary_of kind ≡ Some op → Rests (level op) K
    → moved kind at L mode ≡ Some (state (f.Binary op at e ∷ K) m.Start)
hold_binary (m.After x) L e K kind op at h b r = ap (λ o. follows_with o kind at x L) b ∙ ap (λ g. Some (pushed op at g)) (h (level op) (omega arith) ∙ r e)
hold_binary (m.Named x before) L e K kind op at h b r = named_binary kind op at x before L b ∙ ap (λ g. Some (pushed op at g)) (h (level op) (omega arith) ∙ r e)
hold_binary (m.Typed x) L e K kind op at h b r = none_low op h.0
hold_binary _ L e K kind op at h b r = absurd h

-- a token that goes on no expression but by `as`
pub record Ender (kind : Kind) : Type 0 where
  pub after : (at : Pos) (x : Exp) (L : List Frame) → follows kind at x L ≡ ends kind at (reduce 0 x L)
  pub named : (at : Pos) (x : List ℕ) (before : Pos) (L : List Frame) → of_named kind at x before L ≡ ends kind at (reduce 0 (variable (ident x before)) L)

pub hold_ends : (mode : Mode) (L : List Frame) (e : Exp) (K : List Frame) (kind : Kind) (at : Pos) → Holds 0 mode L e K → Ender kind → Rests 0 K
    → moved kind at L mode ≡ ends kind at (held e K)
hold_ends (m.After x) L e K kind at h b r = b.after at x L ∙ ap (ends kind at) (h 0 (omega arith) ∙ r e)
hold_ends (m.Named x before) L e K kind at h b r = b.named at x before L ∙ ap (ends kind at) (h 0 (omega arith) ∙ r e)
hold_ends (m.Typed x) L e K kind at h b r = ap (λ y. ends kind at (held y L)) h.1 ∙ ap (λ M. ends kind at (held e M)) h.2
hold_ends _ L e K kind at h b r = absurd h

pub close_ends : Ender k.CloseParen
close_ends = record { after = λ at x L. refl; named = λ at x before L. refl }

pub semicolon_ends : Ender k.Semicolon
semicolon_ends = record { after = λ at x L. refl; named = λ at x before L. refl }

pub comma_ends : Ender k.Comma
comma_ends = record { after = λ at x L. refl; named = λ at x before L. refl }

pub arrow_ends : Ender k.Arrow
arrow_ends = record { after = λ at x L. refl; named = λ at x before L. refl }

pub left_ends : Ender k.OpenBracket
left_ends = record { after = λ at x L. refl; named = λ at x before L. refl }

pub right_ends : Ender k.CloseBracket
right_ends = record { after = λ at x L. refl; named = λ at x before L. refl }

pub then_ends : Ender k.Then
then_ends = record { after = λ at x L. refl; named = λ at x before L. refl }

pub as_ends : Ender k.As
as_ends = record { after = λ at x L. refl; named = λ at x before L. refl }

-- one step of a run
pub run_step : (t : Terminal) (ts : List Terminal) (s s' : State) → step t s ≡ Some s' → run (t ∷ ts) s ≡ run ts s'
unfolding run
run_step t ts s s' h = ap (then_run (run ts)) h

-- the tokens up to the rest have been taken, and e has been read behind K
pub record Taken (p : ℕ) (tokens : List Terminal) (e : Exp) (rest : List Terminal) (K : List Frame) : Type 0 where
  pub stack : List Frame
  pub mode : Mode
  pub runs : run tokens (state K m.Start) ≡ run rest (state stack mode)
  pub holds : Holds p mode stack e K

fits_paren : (at : Pos) (K : List Frame) → Fits 0 (f.Paren at ∷ K)
fits_paren at K l h g x = refl

fits_prefix : (op : Op1) (at : Pos) (K : List Frame) → Fits 10 (f.Prefix op at ∷ K)
fits_prefix op at K l h g x = absurd (omega arith)

either : (b : Bool) {A : Type 0} (x y : A) → b ≡ true → (if b then x else y) ≡ x
either true x y h = refl
either false x y h = absurd (cc)

other : (b : Bool) {A : Type 0} (x y : A) → b ≡ false → (if b then x else y) ≡ y
other true x y h = absurd (cc)
other false x y h = refl

fits_binary : (op : Op2) (at : Pos) (a : Exp) (K : List Frame) → Fits (suc (level op)) (f.Binary op at a ∷ K)
fits_binary op at a K l h g x = either (nat_lt (level op) l) (held x (f.Binary op at a ∷ K)) (reduce l (two op at a x) K) (lt-ltb (level op) l (omega arith))

pub binary_done : (op : Op2) (at : Pos) (a x : Exp) (K : List Frame) (q : ℕ) → q ≤ level op → reduce q x (f.Binary op at a ∷ K) ≡ reduce q (two op at a x) K
binary_done op at a x K q h = other (nat_lt (level op) q) (held x (f.Binary op at a ∷ K)) (reduce q (two op at a x) K) (le-ltb (level op) q h)

held_binary : (p : ℕ) (op : Op2) (at : Pos) (a b : Exp) (K : List Frame) (mode : Mode) (L : List Frame) → p ≤ level op → Holds (suc (level op)) mode L b (f.Binary op at a ∷ K) → Holds p mode L (two op at a b) K
held_binary p op at a b K (m.After x) L h g = λ q c. g q (omega arith) ∙ binary_done op at a b K q (omega arith)
held_binary p op at a b K (m.Named x before) L h g = λ q c. g q (omega arith) ∙ binary_done op at a b K q (omega arith)
held_binary p op at a b K (m.Typed x) L h g = let z : suc (level op) ≡ 0 = g.0 in absurd (omega arith)
held_binary p op at a b K _ L h g = absurd g

held_prefix : (p : ℕ) (op : Op1) (at : Pos) (e : Exp) (K : List Frame) (mode : Mode) (L : List Frame) → p ≤ 10 → Holds 10 mode L e (f.Prefix op at ∷ K) → Holds p mode L (one op at e) K
held_prefix p op at e K (m.After x) L h g = λ q c. g q (omega arith)
held_prefix p op at e K (m.Named x before) L h g = λ q c. g q (omega arith)
held_prefix p op at e K (m.Typed x) L h g = let z : 10 ≡ 0 = g.0 in absurd (omega arith)
held_prefix p op at e K _ L h g = absurd g

taken_location : {p : ℕ} {tokens : List Terminal} {x : Ident} {rest : List Terminal} → Location tokens x rest → (K : List Frame) → Taken p tokens (variable x) rest K
unfolding run
taken_location (is_here x at rest) K = record { stack = K; mode = m.Named x at; runs = refl; holds = λ q c. refl }
taken_location (is_outer x at dot name rest) K = record { stack = K; mode = m.After (variable (outer x at)); runs = refl; holds = λ q c. refl }

pub taken : {p : ℕ} {tokens : List Terminal} {e : Exp} {rest : List Terminal} → Expression p tokens e rest → (K : List Frame) → Fits p K → Taken p tokens e rest K
unfolding run
taken (is_number n at rest) K fits = record { stack = K; mode = m.After (number n at); runs = refl; holds = λ q c. refl }
taken (is_truth b at rest) K fits = record { stack = K; mode = m.After (truth b at); runs = refl; holds = λ q c. refl }
taken (is_variable l) K fits = taken_location l K
taken (is_alive x at mark rest) K fits = record { stack = K; mode = m.After (alive (ident x at) mark); runs = refl; holds = λ q c. refl }
taken (is_paren {p} {tokens} {e} {rest} at close d) K fits =
    let i = taken d (f.Paren at ∷ K) (fits_paren at K)
    in record { stack = K; mode = m.After e; runs = i.runs ∙ run_step (token k.CloseParen close) rest (state i.stack i.mode) (state K (m.After e)) (hold_ends i.mode i.stack e (f.Paren at ∷ K) k.CloseParen close i.holds close_ends (λ x. refl)); holds = λ q c. refl }
taken (is_prefix {p} {tokens} {e} {rest} kind op at c o d) K fits =
    let i = taken d (f.Prefix op at ∷ K) (fits_prefix op at K)
    in record { stack = i.stack; mode = i.mode; runs = run_step (token kind at) tokens (state K m.Start) (state (f.Prefix op at ∷ K) m.Start) (ap (λ u. starts_with u kind at K) o) ∙ i.runs; holds = held_prefix p op at e K i.mode i.stack c i.holds }
taken (is_binary {p} {tokens} {a} {b} {right} {rest} kind op at c o d g) K fits =
    let i = taken d K (λ l u v. fits l (omega arith) v) in
    let j = taken g (f.Binary op at a ∷ K) (fits_binary op at a K)
    in record { stack = j.stack; mode = j.mode; runs = i.runs ∙ run_step (token kind at) right (state i.stack i.mode) (state (f.Binary op at a ∷ K) m.Start) (hold_binary i.mode i.stack a K kind op at i.holds o (fits (level op) c (low op))) ∙ j.runs; holds = held_binary p op at a b K j.mode j.stack c j.holds }
taken (is_cast {tokens} {e} {rest} ty at last d) K fits =
    let i = taken d K fits
    in record {
      stack = K;
      mode = m.Typed (cast at e ty);
      runs = i.runs
          ∙ run_step (token k.As at) (token (k.Type ty) last ∷ rest) (state i.stack i.mode) (state K (m.Cast at e)) (hold_ends i.mode i.stack e K k.As at i.holds as_ends (fits 0 (omega arith) (omega arith)));
      holds = (refl, refl, refl);
    }
