-- A typed expression has a type other than none, and so have its operands and its operators; what it names is there.
use Rattle.std.proofs.Common.{◌≡◌, refl, sym, ap, ◌∙◌, ℕ, Bool, true, false, not, ◌&&◌, if◌then◌else◌, List, [], ◌∷◌, Option, Some, None, arith}
use Rattle.std.proofs.lemmas.Bool.{eqb-true, and_parts, false≢true}
use Rattle.ceu_base.specs.Values.{is_numeric, is_bool, is_value}
use Rattle.ceu_base.specs.declared.kinds.Ty.{Ty}
use Rattle.ceu_base.specs.declared.kinds.Ty.TheVariants as ty
use Rattle.ceu_base.specs.declared.kinds.Op1.{Op1}
use Rattle.ceu_base.specs.declared.kinds.Op1.TheVariants as op1
use Rattle.ceu_base.specs.declared.kinds.Op2.{Op2}
use Rattle.ceu_base.specs.declared.kinds.Op2.TheVariants as op2
use Rattle.ceu_tree.specs.declared.kernel.Kernel.{Kernel}
use Rattle.ceu_tree.specs.declared.kernel.Loc.{Loc}
use Rattle.ceu_tree.specs.declared.kernel.KExp.{KExp}
use Rattle.ceu_tree.specs.declared.kernel.KExpNode.{KExpNode, Row_of-KExp, end_of-KExp, more_of-KExp, Const, Read, Alive, One', Two', As'}
use Rattle.ceu_tree.specs.Typing.{ty_number, same_ty, holds_all, common, first_that_holds, is_amount, operand_ty, operand_open, fits1, fits2, meets, some_ty, joined_ty, node_typed, operand_typed, typed, given, given_if}
use Rattle.ceu_shape.specs.Plans.{Plan}
use Rattle.ceu_shape.specs.Expressions.{operator_ty, common_or}
use Rattle.laws_code_placed.specs.There.{IsSome, SlotThere, LocThere, NodeThere, OperandThere, ExpThere, ExpIfThere}

-- ---- types other than none

pub none_not : (f : Ty → Bool) (t : Ty) → f ty.None ≡ false → f t ≡ true → IsSome t
none_not f t h k e = false≢true (sym h ∙ ap f (sym e) ∙ k)

pub not_none : (t : Ty) → not (same_ty t ty.None) ≡ true → IsSome t
not_none t h = none_not (λ u. not (same_ty u ty.None)) t refl h

zero_none : (t : Ty) → ty_number t ≡ 0 → t ≡ ty.None
zero_none ty.None e = refl
zero_none ty.Bool e = absurd (omega arith)
zero_none ty.U8 e = absurd (omega arith)
zero_none ty.S8 e = absurd (omega arith)
zero_none ty.U16 e = absurd (omega arith)
zero_none ty.S16 e = absurd (omega arith)
zero_none ty.U32 e = absurd (omega arith)
zero_none ty.S32 e = absurd (omega arith)
zero_none ty.U64 e = absurd (omega arith)
zero_none ty.S64 e = absurd (omega arith)

pub same_some : (u t : Ty) → same_ty u t ≡ true → IsSome u → IsSome t
same_some u t h some e =
    let numbers : ty_number u ≡ ty_number t = eqb-true (ty_number u) (ty_number t) h in
    some (zero_none u (numbers ∙ ap ty_number e))

pub same_other : (u t : Ty) → same_ty u t ≡ true → IsSome t → IsSome u
same_other u t h some e =
    let numbers : ty_number u ≡ ty_number t = eqb-true (ty_number u) (ty_number t) h in
    some (zero_none t (sym numbers ∙ ap ty_number e))

pub numeric_some : (t : Ty) → is_numeric t ≡ true → IsSome t
numeric_some t h = none_not is_numeric t refl h

pub bool_some : (t : Ty) → is_bool t ≡ true → IsSome t
bool_some t h = none_not is_bool t refl h

-- ---- the common type of two

abbrev IfSome : Option Ty → Type 0
IfSome None = Unit {0}
IfSome (Some t) = IsSome t

first_some : (a b : Ty) (t : Ty) (rest : List Ty) → IsSome t → IfSome (first_that_holds a b rest) → IfSome (first_that_holds a b (t ∷ rest))
first_some a b t rest some h = go (holds_all t a && holds_all t b)
  where
    go : (c : Bool) → IfSome (if c then Some t else first_that_holds a b rest)
    go true = some
    go false = h

common_some : (a b : Ty) → IsSome a → IsSome b → IfSome (common a b)
common_some a b f g = go (holds_all a b) (holds_all b a)
  where
    wide : IfSome (first_that_holds a b (ty.S8 ∷ ty.S16 ∷ ty.S32 ∷ ty.S64 ∷ []))
    wide =
        first_some a b ty.S8 (ty.S16 ∷ ty.S32 ∷ ty.S64 ∷ []) (λ e. cc) (first_some a b ty.S16 (ty.S32 ∷ ty.S64 ∷ []) (λ e. cc) (first_some a b ty.S32 (ty.S64 ∷ []) (λ e. cc) (first_some a b ty.S64 [] (λ e. cc) tt)))

    go : (x y : Bool) → IfSome (if x then Some a else (if y then Some b else first_that_holds a b (ty.S8 ∷ ty.S16 ∷ ty.S32 ∷ ty.S64 ∷ [])))
    go true y = f
    go false true = g
    go false false = wide

or_some : (o : Option Ty) (t : Ty) → IfSome o → IsSome t → IsSome (common_or o t)
or_some None t h some = some
or_some (Some u) t h some = h

joined_some : (o : Option Ty) (t : Ty) → IfSome o → some_ty o t ≡ true → IsSome t
joined_some None t h k = absurd (false≢true k)
joined_some (Some u) t h k = same_some u t k h

-- ---- operators

one_some : (op : Op1) (t a : Ty) → IsSome a → fits1 op t a ≡ true → IsSome t
one_some op1.Not t a some h = bool_some t (and_parts (is_bool a) (is_bool t) h).1
one_some op1.Neg t a some h = same_other t a (and_parts (is_numeric a) (same_ty t a) h).1 some
one_some op1.Compl t a some h = same_other t a (and_parts (is_numeric a) (same_ty t a) h).1 some

-- the result's type and the operator's
abbrev BothSome : Op2 → Ty → Ty → Ty → Type 0
BothSome op t a b = IsSome t × IsSome (operator_ty op t a b)

tested : (t a b : Ty) → IsSome a → IsSome b → is_bool t ≡ true → IsSome t × IsSome (common_or (common a b) t)
tested t a b f g h = let s = bool_some t h in (s, or_some (common a b) t (common_some a b f g) s)

joined : (x y : Bool) (t a b : Ty) → IsSome a → IsSome b → joined_ty x y t a b ≡ true → IsSome t × IsSome t
joined x y t a b f g h = let s = joined_some (common a b) t (common_some a b f g) (and_parts (meets x y a b) (some_ty (common a b) t) h).1 in (s, s)

two_some : (op : Op2) (x y : Bool) (t a b : Ty) → IsSome a → IsSome b → fits2 op x y t a b ≡ true → BothSome op t a b
two_some op2.Or x y t a b f g h = tested t a b f g (and_parts (is_bool t) (is_bool a) (and_parts (is_bool t && is_bool a) (is_bool b) h).0).0
two_some op2.And x y t a b f g h = tested t a b f g (and_parts (is_bool t) (is_bool a) (and_parts (is_bool t && is_bool a) (is_bool b) h).0).0
two_some op2.Eq x y t a b f g h = tested t a b f g (and_parts (is_bool t) _ h).0
two_some op2.Ne x y t a b f g h = tested t a b f g (and_parts (is_bool t) _ h).0
two_some op2.Lt x y t a b f g h = tested t a b f g (and_parts (is_bool t) _ h).0
two_some op2.Gt x y t a b f g h = tested t a b f g (and_parts (is_bool t) _ h).0
two_some op2.Le x y t a b f g h = tested t a b f g (and_parts (is_bool t) _ h).0
two_some op2.Ge x y t a b f g h = tested t a b f g (and_parts (is_bool t) _ h).0
two_some op2.Shl x y t a b f g h = let s = same_other t a (and_parts (is_numeric a) (same_ty t a) (and_parts (is_numeric a && same_ty t a) (is_amount b) (and_parts (is_numeric a && same_ty t a && is_amount b) _ h).0).0).1 f in (s, s)
two_some op2.Shr x y t a b f g h = let s = same_other t a (and_parts (is_numeric a) (same_ty t a) (and_parts (is_numeric a && same_ty t a) (is_amount b) (and_parts (is_numeric a && same_ty t a && is_amount b) _ h).0).0).1 f in (s, s)
two_some op2.BitOr x y t a b f g h = joined x y t a b f g h
two_some op2.BitXor x y t a b f g h = joined x y t a b f g h
two_some op2.BitAnd x y t a b f g h = joined x y t a b f g h
two_some op2.Add x y t a b f g h = joined x y t a b f g h
two_some op2.Sub x y t a b f g h = joined x y t a b f g h
two_some op2.Mul x y t a b f g h = joined x y t a b f g h
two_some op2.Div x y t a b f g h = joined x y t a b f g h
two_some op2.Rem x y t a b f g h = joined x y t a b f g h

-- ---- expressions

module _ (P : Plan) (K : Kernel) (reads : Loc → Bool) (asks : ℕ → Bool) (reads_there : (l : Loc) → reads l ≡ true → LocThere P K l) (asks_there : (c : ℕ) → asks c ≡ true → SlotThere P K c) where
  mutual
    unfolding node_typed NodeThere

    node_there : (e : KExpNode) (t : Ty) → node_typed reads asks e t ≡ true → NodeThere P K e t × IsSome t
    node_there (Const v) t h =
        let x = and_parts (not (same_ty t ty.None)) (is_value t v) h in
        let s = not_none t x.0 in
        ((s, x.1), s)
    node_there (Read l) t h =
        let x = and_parts (same_ty l.ty t) (reads l) h in
        let there = reads_there l x.1 in
        (there, same_some l.ty t x.0 there.1)
    node_there (Alive c) t h = let x = and_parts (is_bool t) (asks c) h in (asks_there c x.1, bool_some t x.0)
    node_there (One' op _ a) t h =
        let x = and_parts (operand_typed reads asks a) (fits1 op t (operand_ty a)) h in
        let inner = operand_there a x.0 in
        let s = one_some op t (operand_ty a) inner.1 x.1 in
        ((s, inner.0), s)
    node_there (Two' op _ a _ b) t h =
        let x = and_parts (operand_typed reads asks a && operand_typed reads asks b) (fits2 op (operand_open a) (operand_open b) t (operand_ty a) (operand_ty b)) h in
        let y = and_parts (operand_typed reads asks a) (operand_typed reads asks b) x.0 in
        let left = operand_there a y.0 in
        let right = operand_there b y.1 in
        let s = two_some op (operand_open a) (operand_open b) t (operand_ty a) (operand_ty b) left.1 right.1 x.1 in
        ((s.1, (left.0, right.0)), s.0)
    node_there (As' _ a) t h =
        let x = and_parts (operand_typed reads asks a && not (same_ty t ty.None)) _ h in
        let y = and_parts (operand_typed reads asks a) (not (same_ty t ty.None)) x.0 in
        let inner = operand_there a y.0 in
        let s = not_none t y.1 in
        (((inner.1, s), inner.0), s)

    operand_there : {n : _} (r : Row_of-KExp n) → operand_typed reads asks r ≡ true → OperandThere P K r × IsSome (operand_ty r)
    operand_there end_of-KExp h = absurd (false≢true h)
    operand_there (more_of-KExp t p e rest) h = node_there e t h

  pub exp_there : (e : KExp) → typed reads asks e ≡ true → ExpThere P K e × IsSome e.ty
  exp_there e h = node_there e.node e.ty h

  pub given_there : (t : Ty) (e : KExp) → given reads asks t e ≡ true → ExpThere P K e × IsSome e.ty
  given_there t e h = exp_there e (and_parts (typed reads asks e) (holds_all t e.ty) (and_parts (typed reads asks e && holds_all t e.ty) _ h).0).0

  pub given_if_there : (t : Ty) (e : Option KExp) → given_if reads asks t e ≡ true → ExpIfThere P K e
  given_if_there t None h = tt
  given_if_there t (Some e) h = (given_there t e (and_parts (not (same_ty t ty.None)) (given reads asks t e) h).1).0
