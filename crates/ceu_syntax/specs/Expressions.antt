-- Locations, expressions, calls and targets. In each relation the tokens begin with the tree, and the rest follows it.
use Rattle.std.specs.Prelude.{◌≡◌, ℕ, suc, ◌≤◌, Bool, List, [], ◌∷◌, Some, None}
use Rattle.ceu_base.specs.declared.kinds.Pos.{Pos}
use Rattle.ceu_base.specs.declared.kinds.Op1.{Op1}
use Rattle.ceu_base.specs.declared.kinds.Op2.{Op2}
use Rattle.ceu_base.specs.declared.kinds.Ty.{Ty}
use Rattle.ceu_tree.specs.declared.kernel.Unit.{Unit as TimeUnit}
use Rattle.ceu_tree.specs.declared.source.Ident.{Ident}
use Rattle.ceu_tree.specs.declared.source.Exp.{Exp}
use Rattle.ceu_tree.specs.declared.source.Call.{Call}
use Rattle.ceu_tree.specs.declared.source.Spawn.{Spawn}
use Rattle.ceu_tree.specs.declared.source.Target.{Target}
use Rattle.ceu_tree.specs.declared.source.Target.TheVariants as target
use Rattle.ceu_tree.specs.declared.source.Await.{Await}
use Rattle.ceu_tree.specs.declared.source.Await.TheVariants as wait
use Rattle.ceu_syntax.specs.declared.terminal.Kind.{Kind}
use Rattle.ceu_syntax.specs.declared.terminal.Kind.TheVariants as k
use Rattle.ceu_syntax.specs.declared.terminal.Terminal.{Terminal}
use Rattle.ceu_syntax.specs.Terminals.{token, lower, ext, abs, digits, binary_of, prefix_of, level, unit_name}
use Rattle.ceu_syntax.specs.Trees.{ident, outer, number, truth, variable, alive, one, two, cast, call, spawn}

-- x, outer.x
pub data Location : List Terminal → Ident → List Terminal → Type 0 where
  is_here : (x : List ℕ) (at : Pos) (rest : List Terminal) → Location (lower x at ∷ rest) (ident x at) rest
  is_outer : (x : List ℕ) (at dot name : Pos) (rest : List Terminal) → Location (token k.Outer at ∷ token k.Dot dot ∷ lower x name ∷ rest) (outer x at) rest

-- `Expression p tokens e rest`: an expression of level p or above. A binary operator asks its own level on its left and the next one on
-- its right, so operators of one level group to the left.
pub data Expression : ℕ → List Terminal → Exp → List Terminal → Type 0 where
  is_number : {p : ℕ} (n : ℕ) (at : Pos) (rest : List Terminal) → Expression p (digits n at ∷ rest) (number n at) rest
  is_truth : {p : ℕ} (b : Bool) (at : Pos) (rest : List Terminal) → Expression p (token (k.Truth b) at ∷ rest) (truth b at) rest
  is_variable : {p : ℕ} {tokens : List Terminal} {x : Ident} {rest : List Terminal} → Location tokens x rest → Expression p tokens (variable x) rest
  -- x ?
  is_alive : {p : ℕ} (x : List ℕ) (at mark : Pos) (rest : List Terminal) → Expression p (lower x at ∷ token k.Question mark ∷ rest) (alive (ident x at) mark) rest
  -- ( exp )
  is_paren : {p : ℕ} {tokens : List Terminal} {e : Exp} {rest : List Terminal} (at close : Pos) →
      Expression 0 tokens e (token k.CloseParen close ∷ rest) → Expression p (token k.OpenParen at ∷ tokens) e rest
  is_prefix : {p : ℕ} {tokens : List Terminal} {e : Exp} {rest : List Terminal} (kind : Kind) (op : Op1) (at : Pos) → p ≤ 10 → prefix_of kind ≡ Some op →
      Expression 10 tokens e rest → Expression p (token kind at ∷ tokens) (one op at e) rest
  is_binary : {p : ℕ} {tokens : List Terminal} {a b : Exp} {right rest : List Terminal} (kind : Kind) (op : Op2) (at : Pos) → p ≤ level op → binary_of kind ≡ Some op →
      Expression (level op) tokens a (token kind at ∷ right) → Expression (suc (level op)) right b rest → Expression p tokens (two op at a b) rest
  -- exp as type
  is_cast : {tokens : List Terminal} {e : Exp} {rest : List Terminal} (ty : Ty) (at last : Pos) →
      Expression 0 tokens e (token k.As at ∷ token (k.Type ty) last ∷ rest) → Expression 0 tokens (cast at e ty) rest

-- exp { , exp } )
pub data Arguments : List Terminal → List Exp → List Terminal → Type 0 where
  last_argument : {tokens : List Terminal} {e : Exp} {rest : List Terminal} (close : Pos) → Expression 0 tokens e (token k.CloseParen close ∷ rest) → Arguments tokens (e ∷ []) rest
  one_argument : {tokens : List Terminal} {e : Exp} {mid : List Terminal} {es : List Exp} {rest : List Terminal} (comma : Pos) →
      Expression 0 tokens e (token k.Comma comma ∷ mid) → Arguments mid es rest → Arguments tokens (e ∷ es) rest

-- Abs ( [ exp { , exp } ] )
pub data Calls : List Terminal → Call → List Terminal → Type 0 where
  calls_empty : (x : List ℕ) (at paren close : Pos) (rest : List Terminal) → Calls (abs x at ∷ token k.OpenParen paren ∷ token k.CloseParen close ∷ rest) (call (ident x at) []) rest
  calls_with : {tokens : List Terminal} {es : List Exp} {rest : List Terminal} (x : List ℕ) (at paren : Pos) →
      Arguments tokens es rest → Calls (abs x at ∷ token k.OpenParen paren ∷ tokens) (call (ident x at) es) rest

-- spawn call in Lower
pub data Spawns : List Terminal → Spawn → List Terminal → Type 0 where
  spawns : {tokens : List Terminal} {c : Call} {rest : List Terminal} (x : List ℕ) (at into name : Pos) →
      Calls tokens c (token k.In into ∷ lower x name ∷ rest) → Spawns (token k.Spawn at ∷ tokens) (spawn at c (ident x name)) rest

-- Ext, loc, Time, ( exp ) unit
pub data Targets : List Terminal → Target → List Terminal → Type 0 where
  is_input : (x : List ℕ) (at : Pos) (rest : List Terminal) → Targets (ext x at ∷ rest) (target.Ext (ident x at)) rest
  is_event : {tokens : List Terminal} {x : Ident} {rest : List Terminal} → Location tokens x rest → Targets tokens (target.Event x) rest
  is_time : (n : ℕ) (at : Pos) (rest : List Terminal) → Targets (token (k.Time n) at ∷ rest) (target.Time n) rest
  is_time_expression : {tokens : List Terminal} {e : Exp} {rest : List Terminal} (unit : TimeUnit) (paren close name : Pos) →
      Expression 0 tokens e (token k.CloseParen close ∷ lower (unit_name unit) name ∷ rest) → Targets (token k.OpenParen paren ∷ tokens) (target.TimeExp e unit) rest

-- What follows the word `await`: FOREVER, call, target [ until exp ]
pub data Awaits : List Terminal → Await → List Terminal → Type 0 where
  is_forever : (at : Pos) (rest : List Terminal) → Awaits (token k.Forever at ∷ rest) wait.Forever rest
  is_code : {tokens : List Terminal} {c : Call} {rest : List Terminal} → Calls tokens c rest → Awaits tokens (wait.Code c) rest
  is_target : {tokens : List Terminal} {t : Target} {rest : List Terminal} → Targets tokens t rest → Awaits tokens (wait.On t None) rest
  is_until : {tokens mid : List Terminal} {t : Target} {e : Exp} {rest : List Terminal} (until : Pos) →
      Targets tokens t (token k.Until until ∷ mid) → Expression 0 mid e rest → Awaits tokens (wait.On t (Some e)) rest
