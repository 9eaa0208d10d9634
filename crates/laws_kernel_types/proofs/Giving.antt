-- Values that are given, conditions and delays fit where they go.
use Rattle.std.proofs.Common.{◌≡◌, refl, sym, ap, ◌∙◌, subst, ℕ, ◌<◌, ◌^◌, Option, Some, Bool, true, false}
use Rattle.std.specs.Prelude.{◌||◌, not, if◌then◌else◌, pos, nat_lt, option_map}
use Rattle.std.proofs.lemmas.Bool.Decides.{Decides-ltb}
use Rattle.ceu_base.specs.declared.kinds.Ty.{Ty}
use Rattle.ceu_base.specs.declared.kinds.Ty.TheVariants as ty
use Rattle.ceu_base.specs.declared.kinds.Pos.{Pos}
use Rattle.ceu_base.specs.declared.kinds.Rule.{Rule}
use Rattle.ceu_base.specs.declared.kinds.Rule.TheVariants.{T1, T2, T3}
use Rattle.ceu_base.specs.Values.{is_bool}
use Rattle.ceu_tree.specs.declared.source.Exp.{Exp}
use Rattle.ceu_tree.specs.declared.kernel.Unit.{Unit as TimeUnit}
use Rattle.ceu_tree.specs.declared.kernel.Unit.TheVariants.{Us}
use Rattle.ceu_tree.specs.Typing as kernel
use Rattle.ceu_tree.specs.Typing.{same_ty, holds_all, node_open, node_typed}
use Rattle.ceu_tree.specs.Proper.{Where}
use Rattle.ceu_scopes.specs.declared.known.Scopes.{Scopes}
use Rattle.ceu_types.specs.declared.typing.Types.{Types}
use Rattle.ceu_types.specs.declared.found.Found.{Found}
use Rattle.ceu_types.specs.declared.operands.Operand.{Operand}
use Rattle.ceu_types.specs.Typing as types
use Rattle.ceu_types.specs.Typing.{open_type, holds}
use Rattle.ceu_types.specs.Notes.{asks}
use Rattle.ceu_types.specs.Expressions.{type_in, or_none, node_operand, node_found, operand_of, is_held, is_truth, is_time, given, condition, time}
use Rattle.ceu_expand.specs.declared.draft.Draft.{Draft}
use Rattle.ceu_expand.specs.Expressions.{type_at, next_type, constant, exp_written, node_written}
use Rattle.laws_kernel_shape.proofs.Fine.{fine_asks}
use Rattle.laws_kernel_types.specs.Typed.{ExpGiven, TimeGiven, is_literal}
use Rattle.laws_kernel_types.proofs.Meeting.{implied, same_self, held, amounts}
use Rattle.laws_kernel_types.proofs.Operands.{placed_ty}
use Rattle.laws_kernel_types.proofs.Noting.{asks_step}
use Rattle.laws_kernel_types.proofs.Passing.{node_step}
use Rattle.laws_kernel_types.proofs.Expressing.{Fit, At, node_fit, names_asks, three_hold}

-- the type in its place
abbrev by_open : Ty → Bool → Option Ty → Option Ty
by_open w o r = if o then option_map (λ t. open_type w) r else r

type_some : (x : Operand) (w u : Ty) → x.ty ≡ Some u → type_in x w ≡ Some (placed_ty x w)
unfolding type_in
type_some x w u has = ap (λ r. by_open w x.is_open r) has ∙ some x.is_open ∙ sym (ap (λ r. Some (or_none (by_open w x.is_open r))) has)
  where
    some : (o : Bool) → by_open w o (Some u) ≡ Some (or_none (by_open w o (Some u)))
    some true = refl
    some false = refl

-- an open expression has the type that is wanted
open_wanted : (x : Operand) (w u v : Ty) (o : Bool) → x.is_open ≡ o → u ≡ placed_ty x w → x.ty ≡ Some v → (not o || same_ty u (open_type w)) ≡ true
unfolding type_in
open_wanted x w u v false e is has = refl
open_wanted x w u v true e is has =
    let same : u ≡ open_type w = is ∙ ap (λ o. or_none (if o then option_map (λ t. open_type w) x.ty else x.ty)) e ∙ ap (λ r. or_none (option_map (λ t. open_type w) r)) has in
    ap (λ z. same_ty z (open_type w)) same ∙ same_self (open_type w)

bool_held : (u : Ty) → is_bool u ≡ true → holds_all ty.Bool u ≡ true
bool_held ty.Bool h = refl
bool_held _ h = absurd (cc)

module _ (s : Scopes) (t : Types) (place : Where) where
  -- an expression behind a test of its type
  record Asked (e : Exp) (w : Ty) (b : Bool) (f : Found) (d : Draft) : Type 0 where
    test : b ≡ true
    fit : Fit (operand_of s e f.names) w (node_written s t e.node d) (type_at t d.exps)

  asked : (e : Exp) (w : Ty) (b : Bool) (r : Rule) (f : Found) (d : Draft) → At s t place f d (node_found s e.node e.pos w (asks b r e.pos f)) → Asked e w b f d
  asked e w b r f d h =
      let f1 = asks b r e.pos f in
      let start = asks_step s t b r e.pos f d in
      let inner = node_step s t e.node e.pos w f1 d in
      let at : At s t place f1 d (node_found s e.node e.pos w f1) = record { fine = h.fine; more = h.more; level = start.under.level h.level; count = start.counts h.count } in
      record {
        test = (fine_asks place b r e.pos f (inner.under.back place h.fine)).0;
        fit = subst (λ n. Fit (node_operand s e.node n) w (node_written s t e.node d) (type_at t d.exps)) (names_asks s t b r e.pos f) (node_fit s t place e.node e.pos w f1 d at);
      }

  pub given_ok : (e : Exp) (w : Ty) (f : Found) (d : Draft) → At s t place f d (given s e w f) → ExpGiven w (exp_written s t e d)
  unfolding given next_type open_type
  given_ok e w f d h reads asks leaves =
      let x = operand_of s e f.names in
      let a = asked e w (is_held w (type_in x w)) T2 f d h in
      let k = a.fit in
      let u = type_at t d.exps in
      let n = node_written s t e.node d in
      let holds_it : holds w (placed_ty x w) ≡ true = subst (λ o. is_held w o ≡ true) (type_some x w k.by_itself k.has) a.test in
      three_hold (node_typed reads asks n u) (holds_all w u) (not (node_open n u) || same_ty u (open_type w)) (k.fits reads asks leaves)
      (ap (holds_all w) k.is ∙ implied (holds w (placed_ty x w)) (holds_all w (placed_ty x w)) (held w (placed_ty x w)) holds_it)
      (ap (λ o. not o || same_ty u (open_type w)) k.opens ∙ open_wanted x w u k.by_itself x.is_open refl k.is k.has)

  pub condition_ok : (e : Exp) (f : Found) (d : Draft) → At s t place f d (condition s e f) → ExpGiven ty.Bool (exp_written s t e d)
  unfolding condition next_type open_type
  condition_ok e f d h reads asks leaves =
      let x = operand_of s e f.names in
      let a = asked e ty.Bool (is_truth (type_in x ty.Bool)) T3 f d h in
      let k = a.fit in
      let u = type_at t d.exps in
      let n = node_written s t e.node d in
      let is_truth_it : is_bool (placed_ty x ty.Bool) ≡ true = subst (λ o. is_truth o ≡ true) (type_some x ty.Bool k.by_itself k.has) a.test in
      three_hold (node_typed reads asks n u) (holds_all ty.Bool u) (not (node_open n u) || same_ty u ty.S32) (k.fits reads asks leaves)
      (bool_held u (ap is_bool k.is ∙ is_truth_it))
      (ap (λ o. not o || same_ty u ty.S32) k.opens ∙ open_wanted x ty.Bool u k.by_itself x.is_open refl k.is k.has)

  or_more : (a b c : Bool) → (a || b) ≡ true → (a || b || c) ≡ true
  or_more true b c h = refl
  or_more false true c h = refl
  or_more false false c h = absurd (cc)

  pub time_ok : (e : Exp) (unit : TimeUnit) (f : Found) (d : Draft) → At s t place f d (time s e f) → TimeGiven (exp_written s t e d) unit
  unfolding time next_type open_type
  time_ok e unit f d h reads asks leaves =
      let x = operand_of s e f.names in
      let a = asked e ty.S32 (is_time (type_in x ty.S32)) T1 f d h in
      let k = a.fit in
      let u = type_at t d.exps in
      let n = node_written s t e.node d in
      let amount : types.is_amount (placed_ty x ty.S32) ≡ true = subst (λ o. is_time o ≡ true) (type_some x ty.S32 k.by_itself k.has) a.test in
      three_hold (node_typed reads asks n u) (kernel.is_amount u) (not (node_open n u) || same_ty u ty.S32 || is_literal (exp_written s t e d) unit) (k.fits reads asks leaves)
      (ap kernel.is_amount k.is ∙ implied (types.is_amount (placed_ty x ty.S32)) (kernel.is_amount (placed_ty x ty.S32)) (amounts (placed_ty x ty.S32)) amount)
      (or_more (not (node_open n u)) (same_ty u ty.S32) (is_literal (exp_written s t e d) unit) (ap (λ o. not o || same_ty u ty.S32) k.opens ∙ open_wanted x ty.S32 u k.by_itself x.is_open refl k.is k.has))

-- a time literal
pub literal_ok : (p : Pos) (us : ℕ) → us < 2 ^ 63 → TimeGiven (constant ty.S64 p (pos us)) Us
unfolding node_typed node_open
literal_ok p us h reads asks leaves = three_hold (nat_lt us (2 ^ 63)) true true ((Decides-ltb us (2 ^ 63)).1 h) refl refl
