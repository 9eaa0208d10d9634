-- Definitions on expressions, by the forms that the code meets.
use Rattle.std.proofs.Common.{◌≡◌, refl, ap, ℕ, Bool, not, Some, None}
use Rattle.ceu_base.specs.declared.kinds.Ty.{Ty}
use Rattle.ceu_base.specs.declared.kinds.Ty.TheVariants as ty
use Rattle.ceu_base.specs.declared.kinds.Pos.{Pos}
use Rattle.ceu_base.specs.declared.kinds.Rule.TheVariants.{T1}
use Rattle.ceu_base.specs.declared.kinds.Op1.{Op1}
use Rattle.ceu_base.specs.declared.kinds.Op2.{Op2}
use Rattle.ceu_tree.specs.declared.source.Exp.{Exp}
use Rattle.ceu_tree.specs.declared.source.ExpNode.{ExpNode}
use Rattle.ceu_tree.specs.declared.source.ExpNode as exp
use Rattle.ceu_tree.specs.declared.source.ExpNode.TheBlock.{hidden-the_row-Exp-0}
use Rattle.ceu_scopes.specs.declared.known.Scopes.{Scopes}
use Rattle.ceu_types.specs.declared.found.Found.{Found}
use Rattle.ceu_types.specs.Typing.{open_type, is_none_type}
use Rattle.ceu_types.specs.Notes.{asks, typed, past, passed}
use Rattle.ceu_types.specs.Uses.{use_type}
use Rattle.ceu_types.specs.Expressions.{node_past, node_operand, exp_past, operand_of, closed, int_literal, prefixed, joined, converted, type_in, or_none, prefix_wanted, left_wanted, right_wanted, meets1, meets2, negated, fits, negated_fits, literal_found, literal_or, node_found, exp_found}
use denote.Hole.Carrier

-- ---- the place behind

pub past_number : (s : Scopes) (n k : ℕ) → node_past s (exp.Number n) k ≡ k
unfolding node_past
past_number s n k = refl

pub past_bool : (s : Scopes) (b : Bool) (k : ℕ) → node_past s (exp.Bool b) k ≡ k
unfolding node_past
past_bool s b k = refl

pub past_var : (s : Scopes) (x : _) (k : ℕ) → node_past s (exp.Var x) k ≡ past s k
unfolding node_past
past_var s x k = refl

pub past_alive : (s : Scopes) (x : _) (k : ℕ) → node_past s (exp.Alive x) k ≡ past s k
unfolding node_past
past_alive s x k = refl

pub past_one : (s : Scopes) (op : Op1) (a : Exp) (k : ℕ) → node_past s (exp.One op a) k ≡ exp_past s a k
unfolding node_past hidden-the_row-Exp-0 Carrier.hidden
past_one s op a k = refl

pub past_two : (s : Scopes) (op : Op2) (a b : Exp) (k : ℕ) → node_past s (exp.Two op a b) k ≡ exp_past s b (exp_past s a k)
unfolding node_past hidden-the_row-Exp-0 Carrier.hidden
past_two s op a b k = refl

pub past_as : (s : Scopes) (a : Exp) (t : Ty) (k : ℕ) → node_past s (exp.As a t) k ≡ exp_past s a k
unfolding node_past hidden-the_row-Exp-0 Carrier.hidden
past_as s a t k = refl

-- ---- the expression by itself

pub operand_number : (s : Scopes) (n k : ℕ) → node_operand s (exp.Number n) k ≡ int_literal
unfolding node_operand
operand_number s n k = refl

pub operand_bool : (s : Scopes) (b : Bool) (k : ℕ) → node_operand s (exp.Bool b) k ≡ closed ty.Bool
unfolding node_operand
operand_bool s b k = refl

pub operand_var : (s : Scopes) (x : _) (k : ℕ) → node_operand s (exp.Var x) k ≡ closed (use_type s k)
unfolding node_operand
operand_var s x k = refl

pub operand_alive : (s : Scopes) (x : _) (k : ℕ) → node_operand s (exp.Alive x) k ≡ closed ty.Bool
unfolding node_operand
operand_alive s x k = refl

pub operand_one : (s : Scopes) (op : Op1) (a : Exp) (k : ℕ) → node_operand s (exp.One op a) k ≡ prefixed op (operand_of s a k)
unfolding node_operand hidden-the_row-Exp-0 Carrier.hidden
operand_one s op a k = refl

pub operand_two : (s : Scopes) (op : Op2) (a b : Exp) (k : ℕ) → node_operand s (exp.Two op a b) k ≡ joined op (operand_of s a k) (operand_of s b (exp_past s a k))
unfolding node_operand node_past hidden-the_row-Exp-0 Carrier.hidden
operand_two s op a b k = refl

pub operand_as : (s : Scopes) (a : Exp) (t : Ty) (k : ℕ) → node_operand s (exp.As a t) k ≡ converted t (operand_of s a k)
unfolding node_operand hidden-the_row-Exp-0 Carrier.hidden
operand_as s a t k = refl

pub ruleset operands = (past_number, past_bool, past_var, past_alive, past_one, past_two, past_as, operand_number, operand_bool, operand_var, operand_alive, operand_one, operand_two, operand_as)

-- ---- the expression at its place

pub found_number : (s : Scopes) (n : ℕ) (p : Pos) (w : Ty) (f : Found) → node_found s (exp.Number n) p w f ≡ literal_found p (fits (open_type w) n) (open_type w) f
unfolding node_found
found_number s n p w f = refl

pub found_bool : (s : Scopes) (b : Bool) (p : Pos) (w : Ty) (f : Found) → node_found s (exp.Bool b) p w f ≡ typed ty.Bool f
unfolding node_found
found_bool s b p w f = refl

pub found_var : (s : Scopes) (x : _) (p : Pos) (w : Ty) (f : Found) → node_found s (exp.Var x) p w f ≡ typed (use_type s f.names) (passed s f)
unfolding node_found
found_var s x p w f = refl

pub found_alive : (s : Scopes) (x : _) (p : Pos) (w : Ty) (f : Found) → node_found s (exp.Alive x) p w f ≡ typed ty.Bool (passed s f)
unfolding node_found
found_alive s x p w f = refl

abbrev pub prefix_found : Scopes → Op1 → Exp → Pos → Ty → Found → Found
prefix_found s op a p w f =
    exp_found s a (prefix_wanted op w)
    (typed (or_none (type_in (prefixed op (operand_of s a f.names)) w)) (asks (meets1 op (operand_of s a f.names)) T1 p f))

abbrev pub minus_found : Pos → Ty → ℕ → Found → Found
minus_found p w n f = typed (open_type w) (literal_found p (negated_fits (open_type w) n) (open_type w) f)

pub found_one : (s : Scopes) (op : Op1) (a : Exp) (p : Pos) (w : Ty) (f : Found) →
    negated op a.node ≡ None → node_found s (exp.One op a) p w f ≡ prefix_found s op a p w f
unfolding node_found node_operand hidden-the_row-Exp-0 Carrier.hidden
found_one s op a p w f h = ap (λ n. literal_or n (λ n. minus_found p w n f) (prefix_found s op a p w f)) h

pub found_minus : (s : Scopes) (op : Op1) (a : Exp) (p : Pos) (w : Ty) (f : Found) (n : ℕ) →
    negated op a.node ≡ Some n → node_found s (exp.One op a) p w f ≡ minus_found p w n f
unfolding node_found node_operand hidden-the_row-Exp-0 Carrier.hidden
found_minus s op a p w f n h = ap (λ n. literal_or n (λ n. minus_found p w n f) (prefix_found s op a p w f)) h

pub found_two : (s : Scopes) (op : Op2) (a b : Exp) (p : Pos) (w : Ty) (f : Found) →
    node_found s (exp.Two op a b) p w f
    ≡ exp_found s b (right_wanted op w (operand_of s a f.names))
    (exp_found s a (left_wanted op w (operand_of s b (exp_past s a f.names)))
    (typed (or_none (type_in (joined op (operand_of s a f.names) (operand_of s b (exp_past s a f.names))) w))
    (asks (meets2 op (operand_of s a f.names) (operand_of s b (exp_past s a f.names))) T1 p f)))
unfolding node_found node_operand node_past hidden-the_row-Exp-0 Carrier.hidden
found_two s op a b p w f = refl

pub found_as : (s : Scopes) (a : Exp) (t : Ty) (p : Pos) (w : Ty) (f : Found) →
    node_found s (exp.As a t) p w f ≡ exp_found s a ty.S32 (typed t (asks (not (is_none_type t)) T1 p f))
unfolding node_found hidden-the_row-Exp-0 Carrier.hidden
found_as s a t p w f = refl

pub ruleset founds = (found_number, found_bool, found_var, found_alive, found_one, found_minus, found_two, found_as)
