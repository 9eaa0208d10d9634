-- Operators whose operands' types meet take those types, with what open operands are given.
use Rattle.std.proofs.Common.{◌≡◌, refl, sym, ap, ◌∙◌, subst, Option, Some, None, Bool, true, false}
use Rattle.std.specs.Prelude.{◌&&◌, ◌||◌, not, if◌then◌else◌, is_none, is_some, option_map}
use Rattle.ceu_base.specs.declared.kinds.Ty.{Ty}
use Rattle.ceu_base.specs.declared.kinds.Ty.TheVariants as ty
use Rattle.ceu_base.specs.declared.kinds.Op1.{Op1}
use Rattle.ceu_base.specs.declared.kinds.Op1.TheVariants as op1
use Rattle.ceu_base.specs.declared.kinds.Op2.{Op2}
use Rattle.ceu_base.specs.declared.kinds.Op2.TheVariants as op2
use Rattle.ceu_base.specs.Values.{is_numeric, is_shift}
use Rattle.ceu_types.specs.declared.operands.Operand.{Operand}
use Rattle.ceu_types.specs.Typing as types
use Rattle.ceu_types.specs.Typing.{open_type, wanted_or_int, result1, result2, is_arithmetic1, is_arithmetic2}
use Rattle.ceu_types.specs.Expressions.{prefixed, joined, met, type_in, or_none, prefix_wanted, left_wanted, right_wanted, meets1, meets2}
use Rattle.ceu_tree.specs.Typing as kernel
use Rattle.ceu_tree.specs.Typing.{same_ty, keeps_open, opens_both, is_test, fits1, fits2}
use Rattle.laws_kernel_types.proofs.Meeting.{implied, and_left, and_right, both_hold, checked, same_self, open_numeric, amounts, closed_fits, left_fits, right_fits, open_result, open_operand, open_fits, open_int}

abbrev pub operand : Bool → Ty → Operand
operand o u = record { is_open = o; ty = Some u }

-- the type of an operand where this one is wanted
abbrev pub placed_ty : Operand → Ty → Ty
placed_ty x w = or_none (type_in x w)

abbrev at_place : Bool → Ty → Ty → Ty
at_place o w u = if o then open_type w else u

placed_is : (o : Bool) (w u : Ty) (x : Operand) → x.is_open ≡ o → x.ty ≡ Some u → placed_ty x w ≡ at_place o w u
unfolding type_in
placed_is o w u x opens has = ap (λ b. or_none (if b then option_map (λ t. open_type w) x.ty else x.ty)) opens ∙ ap (λ r. or_none (if o then option_map (λ t. open_type w) r else r)) has ∙ by_open o
  where
    by_open : (o : Bool) → or_none (if o then option_map (λ t. open_type w) (Some u) else Some u) ≡ at_place o w u
    by_open true = refl
    by_open false = refl

some_of : (o : Option Ty) → is_some o ≡ true → (u : Ty) × (o ≡ Some u)
some_of None h = absurd (cc)
some_of (Some u) h = (u, refl)

-- ---- a prefix

pub record OneFits (op : Op1) (w : Ty) (x : Operand) : Type 0 where
  pub by_itself : Ty
  pub has : (prefixed op x).ty ≡ Some by_itself
  pub int : (prefixed op x).is_open ≡ true → by_itself ≡ ty.S32
  pub opens : (keeps_open op && x.is_open) ≡ (prefixed op x).is_open
  pub fits : fits1 op (placed_ty (prefixed op x) w) (placed_ty x (prefix_wanted op w)) ≡ true

numeric_twice : (u : Ty) → is_numeric u ≡ true → (is_numeric u && same_ty u u) ≡ true
numeric_twice u h = both_hold (is_numeric u) (same_ty u u) h (same_self u)

takes_some : (b : Bool) (u r : Ty) → (if b then Some u else None) ≡ Some r → (b ≡ true) × (u ≡ r)
takes_some true u r h = (refl, cc)
takes_some false u r h = absurd (cc)

one_closed : (op : Op1) (w u : Ty) → is_some (prefixed op (operand false u)).ty ≡ true → OneFits op w (operand false u)
unfolding prefixed result1 type_in
one_closed op1.Not w ty.Bool h = record { by_itself = ty.Bool; has = refl; int = λ e. absurd (cc); opens = refl; fits = refl }
one_closed op1.Not w ty.None h = absurd (cc)
one_closed op1.Not w u h = absurd (cc)
one_closed op1.Neg w u h =
    let r = some_of (if is_numeric u then Some u else None) h in
    let k = takes_some (is_numeric u) u r.0 r.1 in
    record {
      by_itself = u;
      has = ap (λ b. if b then Some u else None) k.0;
      int = λ e. absurd (cc);
      opens = refl;
      fits = subst (λ b. fits1 op1.Neg (or_none (if b then Some u else None)) u ≡ true) (sym k.0) (numeric_twice u k.0);
    }
one_closed op1.Compl w u h =
    let r = some_of (if is_numeric u then Some u else None) h in
    let k = takes_some (is_numeric u) u r.0 r.1 in
    record {
      by_itself = u;
      has = ap (λ b. if b then Some u else None) k.0;
      int = λ e. absurd (cc);
      opens = refl;
      fits = subst (λ b. fits1 op1.Compl (or_none (if b then Some u else None)) u ≡ true) (sym k.0) (numeric_twice u k.0);
    }

one_open : (op : Op1) (w : Ty) → is_some (prefixed op (operand true ty.S32)).ty ≡ true → OneFits op w (operand true ty.S32)
unfolding prefixed result1 type_in
one_open op1.Not w h = absurd (cc)
one_open op1.Neg w h = record { by_itself = ty.S32; has = refl; int = λ e. refl; opens = refl; fits = numeric_twice (open_type w) (open_numeric w) }
one_open op1.Compl w h = record { by_itself = ty.S32; has = refl; int = λ e. refl; opens = refl; fits = numeric_twice (open_type w) (open_numeric w) }

one_at : (op : Op1) (w : Ty) (o : Bool) (u : Ty) → (o ≡ true → u ≡ ty.S32) → is_some (prefixed op (operand o u)).ty ≡ true → OneFits op w (operand o u)
one_at op w false u int h = one_closed op w u h
one_at op w true u int h = subst (λ v. is_some (prefixed op (operand true v)).ty ≡ true → OneFits op w (operand true v)) (sym (int refl)) (one_open op w) h

operand_is : (x : Operand) (u : Ty) → x.ty ≡ Some u → x ≡ operand x.is_open u
operand_is x u h = ap (λ (o : Option Ty). let y : Operand = record { is_open = x.is_open; ty = o } in y) h

pub one_fits : (op : Op1) (w : Ty) (x : Operand) (u : Ty) → x.ty ≡ Some u → (x.is_open ≡ true → u ≡ ty.S32) → meets1 op x ≡ true → OneFits op w x
unfolding meets1
one_fits op w x u has int h =
    let same = operand_is x u has in
    let some : (is_none (Some u) || is_some (prefixed op (operand x.is_open u)).ty) ≡ true = subst (λ (y : Operand). (is_none y.ty || is_some (prefixed op y).ty) ≡ true) same h in
    subst (OneFits op w) (sym same) (one_at op w x.is_open u int some)

-- ---- an operator between two

pub record TwoFits (op : Op2) (w : Ty) (x y : Operand) : Type 0 where
  pub by_itself : Ty
  pub has : (joined op x y).ty ≡ Some by_itself
  pub int : (joined op x y).is_open ≡ true → by_itself ≡ ty.S32
  pub opens : opens_both op x.is_open y.is_open ≡ (joined op x y).is_open
  pub fits : fits2 op x.is_open y.is_open (placed_ty (joined op x y) w) (placed_ty x (left_wanted op w y)) (placed_ty y (right_wanted op w x)) ≡ true

-- the same by whether it is a shift
abbrev open_by : Bool → Op2 → Bool → Bool → Bool
open_by shift op xo yo = if shift then xo else (is_arithmetic2 op && (xo && yo))

abbrev beside_by : Bool → (xo yo : Bool) → Ty → Ty → Option Ty
beside_by shift xo yo u v = if xo && (not yo && not shift) then Some (open_type v) else Some u

abbrev wanted_by : Bool → Op2 → Ty → Ty → Bool → Ty → Ty
wanted_by shift op w if_shift yo v = if shift then if_shift else (if yo then (if is_arithmetic2 op then w else ty.S32) else v)

record TwoAt (shift : Bool) (op : Op2) (w : Ty) (xo : Bool) (u : Ty) (yo : Bool) (v : Ty) : Type 0 where
  by_itself : Ty
  has : met op (beside_by shift xo yo u v) (beside_by shift yo xo v u) ≡ Some by_itself
  int : open_by shift op xo yo ≡ true → by_itself ≡ ty.S32
  opens : (if is_test op then false else (if shift then xo else xo && yo)) ≡ open_by shift op xo yo
  fits : fits2 op xo yo (at_place (open_by shift op xo yo) w by_itself) (at_place xo (wanted_by shift op w w yo v) u) (at_place yo (wanted_by shift op w ty.S32 xo u) v) ≡ true

tests : (op : Op2) → is_test op ≡ not (is_arithmetic2 op)
tests op2.Or = refl
tests _ = refl

opened_by : (op : Op2) (b c : Bool) → is_test op ≡ not b → (if is_test op then false else c) ≡ (b && c)
opened_by op true c h = ap (λ t. if t then false else c) h
opened_by op false c h = ap (λ t. if t then false else c) h

and_false : (b : Bool) → (b && false) ≡ false
and_false true = refl
and_false false = refl

and_true : (b : Bool) → (b && true) ≡ b
and_true true = refl
and_true false = refl

int_is : (u : Ty) → same_ty u ty.S32 ≡ true → u ≡ ty.S32
int_is ty.S32 h = refl
int_is _ h = absurd (cc)

never : (b : Bool) → b ≡ false → b ≡ true → ⊥
never b h k = let e : false ≡ true = sym h ∙ k in absurd (cc)

-- neither is open
two_closed : (op : Op2) (w u v : Ty) → is_shift op ≡ false → is_some (result2 op u v) ≡ true → TwoAt false op w false u false v
two_closed op w u v h some =
    let r = some_of (result2 op u v) some in
    let a = is_arithmetic2 op in
    record {
      by_itself = r.0;
      has = r.1;
      int = λ e. absurd (never (a && false) (and_false a) e);
      opens = opened_by op a false (tests op);
      fits = subst (λ o. fits2 op false false (at_place o w r.0) u v ≡ true) (sym (and_false a)) (checked (result2 op u v) (λ q. fits2 op false false q u v) r.0 (closed_fits op h u v) r.1);
    }

-- the left one is, or the right one
two_left : (op : Op2) (w u v : Ty) → is_shift op ≡ false → is_some (result2 op (open_type v) v) ≡ true → TwoAt false op w true u false v
two_left op w u v h some =
    let r = some_of (result2 op (open_type v) v) some in
    let a = is_arithmetic2 op in
    record {
      by_itself = r.0;
      has = r.1;
      int = λ e. absurd (never (a && false) (and_false a) e);
      opens = opened_by op a false (tests op);
      fits = subst (λ o. fits2 op true false (at_place o w r.0) (open_type v) v ≡ true) (sym (and_false a)) (checked (result2 op (open_type v) v) (λ q. fits2 op true false q (open_type v) v) r.0 (left_fits op h v) r.1);
    }

two_right : (op : Op2) (w u v : Ty) → is_shift op ≡ false → is_some (result2 op u (open_type u)) ≡ true → TwoAt false op w false u true v
two_right op w u v h some =
    let r = some_of (result2 op u (open_type u)) some in
    let a = is_arithmetic2 op in
    record {
      by_itself = r.0;
      has = r.1;
      int = λ e. absurd (never (a && false) (and_false a) e);
      opens = opened_by op a false (tests op);
      fits = subst (λ o. fits2 op false true (at_place o w r.0) u (open_type u) ≡ true) (sym (and_false a)) (checked (result2 op u (open_type u)) (λ q. fits2 op false true q u (open_type u)) r.0 (right_fits op h u) r.1);
    }

-- both are
open_of : (a : Bool) (o : Option Ty) (r : Ty) → o ≡ Some r → (a && true) ≡ true → (if a then o else None) ≡ Some r
open_of true o r h e = h
open_of false o r h e = absurd (cc)

two_open : (op : Op2) (w : Ty) → is_shift op ≡ false → is_some (result2 op ty.S32 ty.S32) ≡ true → TwoAt false op w true ty.S32 true ty.S32
two_open op w h some =
    let o = result2 op ty.S32 ty.S32 in
    let r = some_of o some in
    let a = is_arithmetic2 op in
    record {
      by_itself = r.0;
      has = r.1;
      int = λ e. int_is r.0 (checked (if a then o else None) (λ q. same_ty q ty.S32) r.0 (open_int op) (open_of a o r.0 r.1 e));
      opens = opened_by op a true (tests op);
      fits =
          subst (λ b. fits2 op true true (at_place b w r.0) (open_operand op w) (open_operand op w) ≡ true) (sym (and_true a))
          (checked o (λ q. fits2 op true true (open_result op w q) (open_operand op w) (open_operand op w)) r.0 (open_fits op h w) r.1);
    }

-- a shift
shift_test : (w u v : Ty) (xo yo : Bool) → is_numeric u ≡ true → types.is_amount v ≡ true →
    (is_numeric (at_place xo w u) && same_ty (at_place xo w u) (at_place xo w u) && kernel.is_amount (at_place yo ty.S32 v) && (not yo || same_ty (at_place yo ty.S32 v) ty.S32)) ≡ true
unfolding open_type
shift_test w u v xo yo h k =
    let l = numeric_twice (at_place xo w u) (left xo) in
    by_right (is_numeric (at_place xo w u)) (same_ty (at_place xo w u) (at_place xo w u)) yo l
  where
    left : (o : Bool) → is_numeric (at_place o w u) ≡ true
    left true = open_numeric w
    left false = h

    last : (b : Bool) → b ≡ true → (b && true) ≡ true
    last true e = refl
    last false e = absurd (cc)

    amount : (o : Bool) → kernel.is_amount (at_place o ty.S32 v) ≡ true
    amount true = refl
    amount false = implied (types.is_amount v) (kernel.is_amount v) (amounts v) k

    int : (o : Bool) → (not o || same_ty (at_place o ty.S32 v) ty.S32) ≡ true
    int true = refl
    int false = refl

    by_right : (a b : Bool) (o : Bool) → (a && b) ≡ true → (a && b && kernel.is_amount (at_place o ty.S32 v) && (not o || same_ty (at_place o ty.S32 v) ty.S32)) ≡ true
    by_right true true o e = both_hold (kernel.is_amount (at_place o ty.S32 v)) (not o || same_ty (at_place o ty.S32 v) ty.S32) (amount o) (int o)
    by_right true false o e = absurd (cc)
    by_right false b o e = absurd (cc)

shift_beside : (xo yo : Bool) (u v : Ty) → beside_by true xo yo u v ≡ Some u
shift_beside true true u v = refl
shift_beside true false u v = refl
shift_beside false yo u v = refl

shift_same : (op : Op2) (xo yo : Bool) (u v : Ty) → met op (beside_by true xo yo u v) (beside_by true yo xo v u) ≡ result2 op u v
shift_same op xo yo u v = ap (λ a. met op a (beside_by true yo xo v u)) (shift_beside xo yo u v) ∙ ap (λ b. met op (Some u) b) (shift_beside yo xo v u)

shift_met : (op : Op2) (w u v : Ty) (xo yo : Bool) → is_shift op ≡ true → (xo ≡ true → u ≡ ty.S32) → is_some (result2 op u v) ≡ true → TwoAt true op w xo u yo v
unfolding result2
shift_met op2.Shl w u v xo yo h int some =
    let r = some_of (if is_numeric u && types.is_amount v then Some u else None) some in
    let k = (takes_some (is_numeric u && types.is_amount v) u r.0 r.1).0 in
    record {
      by_itself = u;
      has = shift_same op2.Shl xo yo u v ∙ ap (λ b. if b then Some u else None) k;
      int = int;
      opens = refl;
      fits = shift_test w u v xo yo (and_left (is_numeric u) (types.is_amount v) k) (and_right (is_numeric u) (types.is_amount v) k);
    }
shift_met op2.Shr w u v xo yo h int some =
    let r = some_of (if is_numeric u && types.is_amount v then Some u else None) some in
    let k = (takes_some (is_numeric u && types.is_amount v) u r.0 r.1).0 in
    record {
      by_itself = u;
      has = shift_same op2.Shr xo yo u v ∙ ap (λ b. if b then Some u else None) k;
      int = int;
      opens = refl;
      fits = shift_test w u v xo yo (and_left (is_numeric u) (types.is_amount v) k) (and_right (is_numeric u) (types.is_amount v) k);
    }
shift_met _ w u v xo yo h int some = absurd (cc)

shift_fits : (op : Op2) (w u v : Ty) (xo yo : Bool) → is_shift op ≡ true → (xo ≡ true → u ≡ ty.S32) → is_some (met op (beside_by true xo yo u v) (beside_by true yo xo v u)) ≡ true → TwoAt true op w xo u yo v
shift_fits op w u v xo yo h int some = shift_met op w u v xo yo h int (sym (ap is_some (shift_same op xo yo u v)) ∙ some)

two_at : (shift : Bool) (op : Op2) (w u v : Ty) (xo yo : Bool) → is_shift op ≡ shift → (xo ≡ true → u ≡ ty.S32) → (yo ≡ true → v ≡ ty.S32) →
    is_some (met op (beside_by shift xo yo u v) (beside_by shift yo xo v u)) ≡ true → TwoAt shift op w xo u yo v
two_at true op w u v xo yo h xi yi some = shift_fits op w u v xo yo h xi some
two_at false op w u v false false h xi yi some = two_closed op w u v h some
two_at false op w u v true false h xi yi some = two_left op w u v h some
two_at false op w u v false true h xi yi some = two_right op w u v h some
two_at false op w u v true true h xi yi some =
    subst (λ a. is_some (met op (Some a) (Some v)) ≡ true → TwoAt false op w true a true v) (sym (xi refl))
    (subst (λ b. is_some (met op (Some ty.S32) (Some b)) ≡ true → TwoAt false op w true ty.S32 true b) (sym (yi refl)) (two_open op w h)) some

two_made : (op : Op2) (w u v : Ty) (xo yo : Bool) → TwoAt (is_shift op) op w xo u yo v → TwoFits op w (operand xo u) (operand yo v)
unfolding joined left_wanted right_wanted
two_made op w u v xo yo t =
    record {
      by_itself = t.by_itself;
      has = t.has;
      int = t.int;
      opens = t.opens;
      fits =
          subst (λ r. fits2 op xo yo r (placed_ty (operand xo u) (left_wanted op w (operand yo v))) (placed_ty (operand yo v) (right_wanted op w (operand xo u))) ≡ true)
          (sym (placed_is (open_by (is_shift op) op xo yo) w t.by_itself (joined op (operand xo u) (operand yo v)) refl t.has))
          (subst (λ l. fits2 op xo yo (at_place (open_by (is_shift op) op xo yo) w t.by_itself) l (placed_ty (operand yo v) (right_wanted op w (operand xo u))) ≡ true)
          (sym (placed_is xo (left_wanted op w (operand yo v)) u (operand xo u) refl refl))
          (subst (λ r. fits2 op xo yo (at_place (open_by (is_shift op) op xo yo) w t.by_itself) (at_place xo (left_wanted op w (operand yo v)) u) r ≡ true)
          (sym (placed_is yo (right_wanted op w (operand xo u)) v (operand yo v) refl refl)) t.fits));
    }

pub two_fits : (op : Op2) (w : Ty) (x y : Operand) (u v : Ty) → x.ty ≡ Some u → y.ty ≡ Some v → (x.is_open ≡ true → u ≡ ty.S32) → (y.is_open ≡ true → v ≡ ty.S32) → meets2 op x y ≡ true → TwoFits op w x y
unfolding meets2 joined
two_fits op w x y u v hx hy xi yi h =
    let xs = operand_is x u hx in
    let ys = operand_is y v hy in
    let a = operand x.is_open u in
    let b = operand y.is_open v in
    let some : meets2 op a b ≡ true = subst (λ (z : Operand). meets2 op a z ≡ true) ys (subst (λ (z : Operand). meets2 op z y ≡ true) xs h) in
    subst (λ z. TwoFits op w z y) (sym xs) (subst (λ z. TwoFits op w a z) (sym ys) (two_made op w u v x.is_open y.is_open (two_at (is_shift op) op w u v x.is_open y.is_open refl xi yi some)))
