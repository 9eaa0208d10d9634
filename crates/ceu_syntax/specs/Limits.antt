-- The limits on nesting and on operators, and the first rule of grammar that a list of tokens breaks (this project's own).
-- At most 64 levels are open at a time: a level is a block, or a parenthesis inside an expression. An outermost expression has at most 256
-- operators, `as` and `?` among them.
use Rattle.std.specs.Prelude.{◌≡◌, ℕ, suc, ◌+◌, ◌<◌, Bool, true, false, ◌&&◌, List, [], ◌∷◌, Option, Some, None, if◌then◌else◌, length, take, drop}
use Rattle.ceu_base.specs.declared.kinds.Rule.{Rule}
use Rattle.ceu_base.specs.declared.kinds.Rule.TheVariants.{G1, G2, G3}
use Rattle.ceu_tree.specs.declared.source.Exp.{Exp}
use Rattle.ceu_tree.specs.declared.source.ExpNode as exp
use Rattle.ceu_tree.specs.declared.source.ExpNode.{ExpNode, Row_of-Exp, end_of-Exp, more_of-Exp, One', Two', As'}
use Rattle.ceu_syntax.specs.declared.machine.Acting.TheVariants as a
use Rattle.ceu_syntax.specs.declared.machine.Frame.{Frame}
use Rattle.ceu_syntax.specs.declared.machine.Frame.TheVariants as f
use Rattle.ceu_syntax.specs.declared.machine.Mode.{Mode}
use Rattle.ceu_syntax.specs.declared.machine.Mode.TheVariants as m
use Rattle.ceu_syntax.specs.declared.machine.Opening.TheVariants as o
use Rattle.ceu_syntax.specs.declared.machine.Owner.TheVariants as owner
use Rattle.ceu_syntax.specs.declared.terminal.Kind.{Kind}
use Rattle.ceu_syntax.specs.declared.terminal.Kind.TheVariants as k
use Rattle.ceu_syntax.specs.declared.terminal.Terminal.{Terminal}
use Rattle.ceu_syntax.specs.Grammar.{FirstWrong}
use Rattle.ceu_syntax.specs.Levels.{is_at_statement, level_count}
use Rattle.ceu_syntax.specs.Runs.{run, begun}
use Rattle.ceu_syntax.specs.Steps.{State}

-- ---- levels

abbrev pub is_finalize : Kind → Bool
is_finalize k.Finalize = true
is_finalize _ = false

-- The next token is the word `finalize`.
abbrev pub goes_on_finalize : List Terminal → Bool
goes_on_finalize [] = false
goes_on_finalize (t ∷ rest) = is_finalize t.kind

-- The word `do` opens the level of its block, with a label too. In the statement `do finalize with` it is the `with` that does. Behind an
-- `else` none is counted: its block stands in the place of the one before it.
abbrev pub opened_by_do : Mode → Bool → Bool → ℕ
opened_by_do (m.Opening o.Do) at_statement finalize = if at_statement && finalize then 0 else 1
opened_by_do (m.Opening o.DoLabel) at_statement finalize = 1
opened_by_do _ at_statement finalize = 0

-- the levels that are open behind some tokens, by whether the word `finalize` follows them
abbrev pub levels : State → Bool → ℕ
levels s finalize = level_count s.stack + opened_by_do s.mode (is_at_statement s.stack) finalize

-- ---- operators

-- the operators of an expression
unfoldable mutual
  pub node_operators : ExpNode → ℕ
  node_operators (exp.Number n) = 0
  node_operators (exp.Bool b) = 0
  node_operators (exp.Var x) = 0
  node_operators (exp.Alive x) = 1
  node_operators (One' op _ a) = operand_operators a + 1
  node_operators (Two' op _ a _ b) = operand_operators a + operand_operators b + 1
  node_operators (As' _ a t) = operand_operators a + 1

  pub operand_operators : {n : _} → Row_of-Exp n → ℕ
  operand_operators end_of-Exp = 0
  operand_operators (more_of-Exp p e rest) = node_operators e

unfoldable pub operators : Exp → ℕ
operators e = node_operators e.node

-- the operators of the expression that is open, up to the operand that stands last: each binary one with its left operand, and the prefixes
unfoldable pub open_operators : List Frame → ℕ
open_operators [] = 0
open_operators (f.Binary op at a ∷ K) = open_operators K + operators a + 1
open_operators (f.Prefix op at ∷ K) = open_operators K + 1
open_operators (f.Paren at ∷ K) = open_operators K
open_operators (_ ∷ K) = 0

-- The operators of the operand that stands last, where an expression is open or may begin. The word `as` counts before its type.
abbrev pub last_operators : Mode → Option ℕ
last_operators m.Start = Some 0
last_operators (m.Named x at) = Some 0
last_operators (m.After e) = Some (operators e)
last_operators (m.Cast at e) = Some (operators e + 1)
last_operators (m.Typed e) = Some (operators e)
last_operators (m.Outer owner.Operand at) = Some 0
last_operators (m.OuterName owner.Operand at) = Some 0
last_operators (m.Acting a.Source) = Some 0
last_operators _ = None

abbrev pub with_open : Option ℕ → List Frame → ℕ
with_open None K = 0
with_open (Some n) K = open_operators K + n

-- the operators so far of the outermost expression that is open
abbrev pub operator_count : State → ℕ
operator_count s = with_open (last_operators s.mode) s.stack

-- ---- the first broken rule

-- a level too many
abbrev pub IsDeep : State → Bool → Type 0
IsDeep s finalize = 64 < levels s finalize

-- an operator too many
abbrev pub IsLong : State → Type 0
IsLong s = 256 < operator_count s

-- behind token k
abbrev pub Behind : List Terminal → ℕ → (State → Type 0) → Type 0
Behind tokens k P = (k < length tokens) × (s : State) × (run (take (suc k) tokens) begun ≡ Some s) × P s

-- Some program begins with the tokens up to k, and behind this one more than 64 levels are open.
abbrev pub OpensTooDeep : List Terminal → ℕ → Type 0
OpensTooDeep tokens k = Behind tokens k (λ s. IsDeep s (goes_on_finalize (drop (suc k) tokens)))

-- Some program begins with the tokens up to k, and their outermost expression has more than 256 operators so far.
abbrev pub IsOperatorTooMany : List Terminal → ℕ → Type 0
IsOperatorTooMany tokens k = Behind tokens k IsLong

-- No limit is broken before token k.
abbrev pub KeepsLimits : List Terminal → ℕ → Type 0
KeepsLimits tokens k = (j : ℕ) → j < k → (OpensTooDeep tokens j → ⊥) × (IsOperatorTooMany tokens j → ⊥)

-- Rule `rule` is the first that the tokens break, and breaks at token k, the end counting as a last one. Of two rules that break at one token
-- the one with the lower number counts.
abbrev pub FirstBroken : List Terminal → Rule → ℕ → Type 0
FirstBroken tokens G1 k = FirstWrong tokens k × KeepsLimits tokens k
FirstBroken tokens G2 k = OpensTooDeep tokens k × KeepsLimits tokens k
FirstBroken tokens G3 k = IsOperatorTooMany tokens k × (OpensTooDeep tokens k → ⊥) × KeepsLimits tokens k
FirstBroken tokens _ k = ⊥

abbrev pub WithinLimits : List Terminal → Type 0
WithinLimits tokens = KeepsLimits tokens (length tokens)
