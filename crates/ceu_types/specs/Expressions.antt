-- The types of expressions, and the rules that they break.
use Rattle.std.specs.Prelude.{ℕ, pos, neg_ℤ, Bool, true, false, not, ◌&&◌, ◌||◌, if◌then◌else◌, Option, Some, None, is_some, is_none, option_map, option_and_then, unwrap_or}
use Rattle.ceu_base.specs.declared.kinds.Ty.{Ty}
use Rattle.ceu_base.specs.declared.kinds.Ty.TheVariants as ty
use Rattle.ceu_base.specs.declared.kinds.Pos.{Pos}
use Rattle.ceu_base.specs.declared.kinds.Rule.TheVariants.{T1, T2, T3, T7}
use Rattle.ceu_base.specs.declared.kinds.Op1.{Op1}
use Rattle.ceu_base.specs.declared.kinds.Op1.TheVariants.{Neg}
use Rattle.ceu_base.specs.declared.kinds.Op2.{Op2}
use Rattle.ceu_base.specs.Values.{is_value, is_shift, is_bool}
use Rattle.ceu_tree.specs.declared.source.Exp.{Exp}
use Rattle.ceu_tree.specs.declared.source.ExpNode.{ExpNode, Row_of-Exp, end_of-Exp, more_of-Exp, Number, Var, Alive, One', Two', As'}
use Rattle.ceu_tree.specs.declared.source.ExpNode as exp
use Rattle.ceu_scopes.specs.declared.known.Scopes.{Scopes}
use Rattle.ceu_types.specs.declared.found.Found.{Found}
use Rattle.ceu_types.specs.declared.operands.Operand.{Operand}
use Rattle.ceu_types.specs.Typing.{holds, is_amount, is_none_type, open_type, wanted_or_int, is_arithmetic1, is_arithmetic2, result1, result2}
use Rattle.ceu_types.specs.Notes.{asks, typed, past, passed}
use Rattle.ceu_types.specs.Uses.{use_type}

-- ---- an expression by itself: whether it is open, and its type where no type is wanted, or none where a part's types don't meet

abbrev pub closed : Ty → Operand
closed t = record { is_open = false; ty = Some t }

abbrev pub int_literal : Operand
int_literal = record { is_open = true; ty = Some ty.S32 }

unfoldable pub prefixed : Op1 → Operand → Operand
prefixed op x = record { is_open = is_arithmetic1 op && x.is_open; ty = option_and_then (result1 op) x.ty }

-- an open operand takes the other operand's type, a shift's left one never does
abbrev pub beside : Op2 → Operand → Operand → Option Ty
beside op x y =
    if x.is_open && (not y.is_open && not (is_shift op))
    then option_map (λ t. open_type (wanted_or_int y.ty)) x.ty
    else x.ty

abbrev pub met : Op2 → Option Ty → Option Ty → Option Ty
met op None u = None
met op (Some t) None = None
met op (Some t) (Some u) = result2 op t u

-- a shift is open where its left operand is
abbrev pub is_joined_open : Op2 → Operand → Operand → Bool
is_joined_open op x y = if is_shift op then x.is_open else (is_arithmetic2 op && (x.is_open && y.is_open))

unfoldable pub joined : Op2 → Operand → Operand → Operand
joined op x y =
    record {
      is_open = is_joined_open op x y;
      ty = met op (beside op x y) (beside op y x);
    }

unfoldable pub converted : Ty → Operand → Operand
converted t x = record { is_open = false; ty = if is_none_type t then None else option_map (λ u. t) x.ty }

unfoldable mutual
  -- the place in the list of uses behind the expression's
  pub node_past : Scopes → ExpNode → ℕ → ℕ
  node_past s (Number n) k = k
  node_past s (exp.Bool b) k = k
  node_past s (Var x) k = past s k
  node_past s (Alive x) k = past s k
  node_past s (One' op _ a) k = row_past s a k
  node_past s (Two' op _ a _ b) k = row_past s b (row_past s a k)
  node_past s (As' _ a t) k = row_past s a k

  pub row_past : {n : _} → Scopes → Row_of-Exp n → ℕ → ℕ
  row_past s end_of-Exp k = k
  row_past s (more_of-Exp p e rest) k = node_past s e k

unfoldable mutual
  pub node_operand : Scopes → ExpNode → ℕ → Operand
  node_operand s (Number n) k = int_literal
  node_operand s (exp.Bool b) k = closed ty.Bool
  node_operand s (Var x) k = closed (use_type s k)
  node_operand s (Alive x) k = closed ty.Bool
  node_operand s (One' op _ a) k = prefixed op (row_operand s a k)
  node_operand s (Two' op _ a _ b) k = joined op (row_operand s a k) (row_operand s b (row_past s a k))
  node_operand s (As' _ a t) k = converted t (row_operand s a k)

  pub row_operand : {n : _} → Scopes → Row_of-Exp n → ℕ → Operand
  row_operand s end_of-Exp k = int_literal
  row_operand s (more_of-Exp p e rest) k = node_operand s e k

abbrev pub exp_past : Scopes → Exp → ℕ → ℕ
exp_past s e k = node_past s e.node k

abbrev pub operand_of : Scopes → Exp → ℕ → Operand
operand_of s e k = node_operand s e.node k

-- ---- an expression at its place, where a type is wanted of open expressions

unfoldable pub type_in : Operand → Ty → Option Ty
type_in x w = if x.is_open then option_map (λ t. open_type w) x.ty else x.ty

-- the type of the expression whose first use stands at this place of the list of uses, where a type is wanted
abbrev pub type_of : Scopes → Exp → ℕ → Ty → Option Ty
type_of s e k w = type_in (operand_of s e k) w

abbrev pub or_none : Option Ty → Ty
or_none t = unwrap_or t ty.None

-- what is wanted of operands
abbrev pub prefix_wanted : Op1 → Ty → Ty
prefix_wanted op w = if is_arithmetic1 op then w else ty.S32

-- beside an open operand what is wanted of the whole, where that is open too, beside another the other's type
abbrev pub beside_wanted : Op2 → Ty → Operand → Ty
beside_wanted op w other = if other.is_open then (if is_arithmetic2 op then w else ty.S32) else wanted_or_int other.ty

unfoldable pub left_wanted : Op2 → Ty → Operand → Ty
left_wanted op w right = if is_shift op then w else beside_wanted op w right

unfoldable pub right_wanted : Op2 → Ty → Operand → Ty
right_wanted op w left = if is_shift op then ty.S32 else beside_wanted op w left

-- the operands' types meet; nothing is said where one has none
unfoldable pub meets1 : Op1 → Operand → Bool
meets1 op x = is_none x.ty || is_some (prefixed op x).ty

unfoldable pub meets2 : Op2 → Operand → Operand → Bool
meets2 op x y = is_none x.ty || (is_none y.ty || is_some (joined op x y).ty)

-- a prefix `-` belongs to a literal behind it
abbrev pub negated : Op1 → ExpNode → Option ℕ
negated Neg (Number n) = Some n
negated _ _ = None

abbrev pub row_negated : {n : _} → Op1 → Row_of-Exp n → Option ℕ
row_negated op end_of-Exp = None
row_negated op (more_of-Exp p e rest) = negated op e

unfoldable pub fits : Ty → ℕ → Bool
fits t n = is_value t (pos n)

unfoldable pub negated_fits : Ty → ℕ → Bool
negated_fits t n = is_value t (neg_ℤ (pos n))

unfoldable pub literal_found : Pos → Bool → Ty → Found → Found
literal_found p fits t f = typed t (asks fits T7 p f)

abbrev pub literal_or : Option ℕ → (ℕ → Found) → Found → Found
literal_or (Some n) literal other = literal n
literal_or None literal other = other

unfoldable mutual
  pub node_found : Scopes → ExpNode → Pos → Ty → Found → Found
  node_found s (Number n) p w f = literal_found p (fits (open_type w) n) (open_type w) f
  node_found s (exp.Bool b) p w f = typed ty.Bool f
  node_found s (Var x) p w f = typed (use_type s f.names) (passed s f)
  node_found s (Alive x) p w f = typed ty.Bool (passed s f)
  node_found s (One' op _ a) p w f =
      literal_or (row_negated op a)
      (λ n. typed (open_type w) (literal_found p (negated_fits (open_type w) n) (open_type w) f))
      (row_found s a (prefix_wanted op w)
      (typed (or_none (type_in (prefixed op (row_operand s a f.names)) w)) (asks (meets1 op (row_operand s a f.names)) T1 p f)))
  node_found s (Two' op _ a _ b) p w f =
      row_found s b (right_wanted op w (row_operand s a f.names))
      (row_found s a (left_wanted op w (row_operand s b (row_past s a f.names)))
      (typed (or_none (type_in (joined op (row_operand s a f.names) (row_operand s b (row_past s a f.names))) w))
      (asks (meets2 op (row_operand s a f.names) (row_operand s b (row_past s a f.names))) T1 p f)))
  node_found s (As' _ a t) p w f = row_found s a ty.S32 (typed t (asks (not (is_none_type t)) T1 p f))

  pub row_found : {n : _} → Scopes → Row_of-Exp n → Ty → Found → Found
  row_found s end_of-Exp w f = f
  row_found s (more_of-Exp p e rest) w f = node_found s e p w f

abbrev pub exp_found : Scopes → Exp → Ty → Found → Found
exp_found s e w f = node_found s e.node e.pos w f

-- ---- expressions of statements

-- nothing is said of an expression without type
abbrev pub is_held : Ty → Option Ty → Bool
is_held target None = true
is_held target (Some t) = holds target t

abbrev pub is_truth : Option Ty → Bool
is_truth None = true
is_truth (Some t) = is_bool t

abbrev pub is_time : Option Ty → Bool
is_time None = true
is_time (Some t) = is_amount t

-- an expression that is given to a target of this type
unfoldable pub given : Scopes → Exp → Ty → Found → Found
given s e t f = exp_found s e t (asks (is_held t (type_of s e f.names t)) T2 e.pos f)

unfoldable pub condition : Scopes → Exp → Found → Found
condition s e f = exp_found s e ty.Bool (asks (is_truth (type_of s e f.names ty.Bool)) T3 e.pos f)

unfoldable pub time : Scopes → Exp → Found → Found
time s e f = exp_found s e ty.S32 (asks (is_time (type_of s e f.names ty.S32)) T1 e.pos f)
