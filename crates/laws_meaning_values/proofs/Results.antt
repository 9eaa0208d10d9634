-- What an expression gives is a value of its type.
use Rattle.std.proofs.Common.{◌≡◌, refl, sym, ap, ◌∙◌, subst, ℕ, ℤ, Bool, true, false, Option, Some, None, Result, Ok, Err}
use Rattle.std.specs.Prelude.{◌&&◌, ◌||◌, not, if◌then◌else◌}
use Rattle.ceu_base.specs.declared.kinds.Ty.{Ty}
use Rattle.ceu_base.specs.declared.kinds.Ty.TheVariants as ty
use Rattle.ceu_base.specs.declared.kinds.Pos.{Pos}
use Rattle.ceu_base.specs.declared.kinds.Fault.{Fault}
use Rattle.ceu_base.specs.declared.kinds.Op1.{Op1}
use Rattle.ceu_base.specs.declared.kinds.Op2.{Op2}
use Rattle.ceu_base.specs.declared.kinds.Op2.TheVariants.{Or, And}
use Rattle.ceu_base.specs.Values.{is_value, IsValue, is_bool, of_test, same, wrapped, applied1, applied2}
use Rattle.ceu_tree.specs.declared.kernel.Loc.{Loc}
use Rattle.ceu_tree.specs.declared.kernel.KExp.{KExp}
use Rattle.ceu_tree.specs.declared.kernel.KExpNode.{KExpNode, Row_of-KExp, end_of-KExp, more_of-KExp, Const, Read, Alive, One', Two', As'}
use Rattle.ceu_tree.specs.Residual.{Body}
use Rattle.ceu_tree.specs.World.{World, look, place_of}
use Rattle.ceu_tree.specs.Expressions.{Answer, number_in, names_living, at, decides, and_then, node_value, operand_value, value_of}
use Rattle.ceu_tree.specs.Typing.{same_ty, operand_ty, operand_open, fits1, fits2, node_typed, operand_typed}
use Rattle.laws_meaning_values.specs.Results.{NodeReads, OperandReads, IsResult, ResultsAreValues}
use Rattle.laws_meaning_values.proofs.Ranges.{wrapped_value, test_value}
use Rattle.laws_meaning_values.proofs.Operators.{IsOutcome, and_left, and_right, bool_is, same_is, result1, result2}

placed : (t : Ty) (p : Pos) (r : Result ℤ Fault) → IsOutcome t r → IsResult t (at p r)
placed t p (Ok v) h = h
placed t p (Err f) h = tt

then_result : (t u : Ty) (a : Answer) (f : ℤ → Answer) → IsResult u a → ((v : ℤ) → IsValue u v → IsResult t (f v)) → IsResult t (and_then a f)
then_result t u (Ok v) f h g = g v h
then_result t u (Err e) f h g = tt

-- only `and` and `or` are decided by their left operand, which is a truth value as the result is
decided : (op : Op2) (v : ℤ) (p q : Bool) (t a b : Ty) → decides op v ≡ true → fits2 op p q t a b ≡ true → IsValue a v → IsValue t v
decided Or v p q t a b e h x =
    let left = and_left (is_bool t && is_bool a) (is_bool b) h in
    subst (λ (u : Ty). IsValue u v) (bool_is a (and_right (is_bool t) (is_bool a) left) ∙ sym (bool_is t (and_left (is_bool t) (is_bool a) left))) x
decided And v p q t a b e h x =
    let left = and_left (is_bool t && is_bool a) (is_bool b) h in
    subst (λ (u : Ty). IsValue u v) (bool_is a (and_right (is_bool t) (is_bool a) left) ∙ sym (bool_is t (and_left (is_bool t) (is_bool a) left))) x
decided op v p q t a b e h x = absurd (cc)

wrapped_result : (t : Ty) (v : ℤ) → IsValue t (wrapped t v)
wrapped_result ty.Bool v = test_value (not (same v _))
wrapped_result t v = wrapped_value t v

module _ (reads : Loc → Bool) (asks : ℕ → Bool) (body : Body) (w : World) where
  -- behind the left operand of a binary operator
  two_result : (op : Op2) (pos : Pos) (p q : Bool) (t a b : Ty) (x : ℤ) (right : Answer) → fits2 op p q t a b ≡ true → IsValue a x → IsResult b right
      → (d : Bool) → decides op x ≡ d → IsResult t (if d then Ok x else and_then right (λ y. at pos (applied2 op t x y)))
  two_result op pos p q t a b x right fits v h true e = decided op x p q t a b e fits v
  two_result op pos p q t a b x right fits v h false e = then_result t b right (λ y. at pos (applied2 op t x y)) h (λ y z. placed t pos (applied2 op t x y) (result2 op p q t a b x y fits v z))

  mutual
    unfolding node_value node_typed NodeReads

    pub node_result : (e : KExpNode) (t : Ty) (p : Pos) → node_typed reads asks e t ≡ true → NodeReads body w e → IsResult t (node_value e t p body w)
    node_result (Const v) t p h r = and_right (not (same_ty t ty.None)) (is_value t v) h
    node_result (Read l) t p h r = subst (λ (u : Ty). IsValue u (number_in (look (place_of l body) l.slot w.values))) (same_is l.ty t (and_left (same_ty l.ty t) (reads l) h)) r
    node_result (Alive c) t p h r =
        subst (λ (u : Ty). IsValue u (of_test (names_living (look body c w.values) w.living))) (sym (bool_is t (and_left (is_bool t) (asks c) h))) (test_value (names_living (look body c w.values) w.living))
    node_result (One' op _ a) t p h r =
        then_result t (operand_ty a) (operand_value a body w) (λ x. at p (applied1 op t x))
        (operand_result a (and_left (operand_typed reads asks a) (fits1 op t (operand_ty a)) h) r)
        (λ x v. placed t p (applied1 op t x) (result1 op t (operand_ty a) x (and_right (operand_typed reads asks a) (fits1 op t (operand_ty a)) h) v))
    node_result (Two' op _ a _ b) t p h r =
        let parts = and_left (operand_typed reads asks a && operand_typed reads asks b) (fits2 op (operand_open a) (operand_open b) t (operand_ty a) (operand_ty b)) h in
        let fits = and_right (operand_typed reads asks a && operand_typed reads asks b) (fits2 op (operand_open a) (operand_open b) t (operand_ty a) (operand_ty b)) h in
        let right = operand_result b (and_right (operand_typed reads asks a) (operand_typed reads asks b) parts) r.1 in
        then_result t (operand_ty a) (operand_value a body w) (λ x. if decides op x then Ok x else and_then (operand_value b body w) (λ y. at p (applied2 op t x y)))
        (operand_result a (and_left (operand_typed reads asks a) (operand_typed reads asks b) parts) r.0)
        (λ x v. two_result op p (operand_open a) (operand_open b) t (operand_ty a) (operand_ty b) x (operand_value b body w) fits v right (decides op x) refl)
    node_result (As' _ a) t p h r =
        then_result t (operand_ty a) (operand_value a body w) (λ x. Ok (wrapped t x))
        (operand_result a (and_left (operand_typed reads asks a) (not (same_ty t ty.None)) (and_left (operand_typed reads asks a && not (same_ty t ty.None)) (not (operand_open a) || same_ty (operand_ty a) ty.S32) h)) r)
        (λ x v. wrapped_result t x)

    pub operand_result : {n : _} (a : Row_of-KExp n) → operand_typed reads asks a ≡ true → OperandReads body w a → IsResult (operand_ty a) (operand_value a body w)
    operand_result end_of-KExp h r = absurd (cc)
    operand_result (more_of-KExp t p e rest) h r = node_result e t p h r

pub results_are_values : ResultsAreValues
unfolding value_of
results_are_values reads asks body w e h r = node_result reads asks body w e.node e.ty e.pos h r
