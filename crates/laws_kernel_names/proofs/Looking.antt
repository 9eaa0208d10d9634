-- Expressions and single statements name what is visible.
use Rattle.std.proofs.Common.{◌≡◌, refl, sym, ap, ◌∙◌, subst, ℕ, arith, List, [], ◌∷◌, Option, Some, None, Result, Ok, true, false}
use Rattle.std.specs.Prelude.{⊤, not, if◌then◌else◌, slice_get, unwrap_or, ok_or}
use Rattle.std.proofs.lemmas.Bool.Decides.{Decides-eqb}
use Rattle.ceu_base.specs.declared.kinds.Ty.{Ty}
use Rattle.ceu_base.specs.declared.kinds.Ty.TheVariants as ty
use Rattle.ceu_tree.specs.declared.source.Class.{Class}
use Rattle.ceu_tree.specs.declared.source.Class.TheVariants as class
use Rattle.ceu_tree.specs.declared.source.Ident.{Ident}
use Rattle.ceu_tree.specs.declared.source.Exp.{Exp}
use Rattle.ceu_tree.specs.declared.kernel.KDecl.{KDecl}
use Rattle.ceu_scopes.specs.declared.known.Known.{Known}
use Rattle.ceu_scopes.specs.declared.known.Role.TheVariants as role
use Rattle.ceu_scopes.specs.declared.known.Scopes.{Scopes}
use Rattle.ceu_scopes.specs.declared.walk.Walk.{Walk}
use Rattle.ceu_scopes.specs.Walk.{Broken, ◌>>=◌, opened, closed, shown, fresh, is_global, seen, seen_outer, is_own, decl_of}
use Rattle.ceu_scopes.specs.Walk as walk
use Rattle.ceu_scopes.specs.Rules.{named, takes}
use Rattle.ceu_scopes.specs.Names.{exp_walked, exps_walked, if_exp_walked, node_walked, operand_walked}
use Rattle.ceu_types.specs.declared.typing.Types.{Types}
use Rattle.ceu_expand.specs.declared.draft.Draft.{Draft}
use Rattle.ceu_expand.specs.Draft.{own}
use Rattle.ceu_expand.specs.Lists.{each, gathered}
use Rattle.ceu_expand.specs.Uses as uses
use Rattle.ceu_expand.specs.Uses.{names_output, use_number, variable, if_variable, if_used, number_at}
use Rattle.ceu_expand.specs.Expressions.{exp_passed, if_exp_passed, exp_written, if_exp_written, constant, negated_or, row_negated, node_passed, row_passed, node_written, operand_written}
use Rattle.laws_kernel_shape.specs.Shaped.{AllOf}
use Rattle.laws_kernel_shape.proofs.Steps.{Always, always_ok, always_then}
use denote.Hole.Carrier
use Rattle.ceu_base.specs.declared.kinds.Op1.{Op1}
use Rattle.ceu_base.specs.declared.kinds.Op2.{Op2}
use Rattle.ceu_tree.specs.declared.source.ExpNode as exp
use Rattle.ceu_tree.specs.declared.source.ExpNode.{ExpNode, Row_of-Exp, end_of-Exp, more_of-Exp, One', Two', As'}
use Rattle.ceu_tree.specs.declared.kernel.KExp.{KExp}
use Rattle.ceu_tree.specs.declared.kernel.KExpNode as knode
use Rattle.ceu_tree.specs.declared.kernel.KExpNode.{KExpNode}
use Rattle.ceu_tree.specs.declared.kernel.KExpNode.TheBlock.{hidden-the_row-KExp-0}
use Rattle.ceu_tree.specs.Typing.{same_ty, ty_number}
use Rattle.ceu_tree.specs.Proper.{Seen, find, variable_ty, has_ty, is_loop_variable}
use Rattle.ceu_scopes.specs.declared.known.Role.{Role}
use Rattle.ceu_scopes.specs.declared.scope.Scope.{Scope}
use Rattle.ceu_base.specs.declared.kinds.Rule.TheVariants.{N1, N4, N5}
use Rattle.ceu_expand.specs.Expressions as expressions
use Rattle.laws_kernel_names.proofs.Stepping.{ok_some}
use Rattle.laws_kernel_names.specs.Sees.{LocSeen, TargetSeen, NodeSeen, ExpSeen, MaybeExp}
use Rattle.laws_kernel_names.proofs.Views.{MeansOf, Means, decl_ty, shown_in}
use Rattle.laws_kernel_names.proofs.Seeing.{Fits, Begun, Both, Step, step_then, Goes, calm_step, Found, named_found, used_goes}

pub same_type : (t : Ty) → same_ty t t ≡ true
same_type t = (Decides-eqb (ty_number t) (ty_number t)).1 refl

-- an expression of one or two parts
module _ (view : List Seen) where
  one_seen : (op : Op1) (a : KExp) → ExpSeen view a → NodeSeen view (knode.One op a)
  unfolding NodeSeen hidden-the_row-KExp-0 Carrier.hidden
  one_seen op a h = h

  two_seen : (op : Op2) (a b : KExp) → ExpSeen view a → ExpSeen view b → NodeSeen view (knode.Two op a b)
  unfolding NodeSeen hidden-the_row-KExp-0 Carrier.hidden
  two_seen op a b h k = (h, k)

  as_seen : (a : KExp) → ExpSeen view a → NodeSeen view (knode.As a)
  unfolding NodeSeen hidden-the_row-KExp-0 Carrier.hidden
  as_seen a h = h

  negated_seen : (r : Option ℕ) (literal : ℕ → KExpNode) (other : KExpNode) → ((n : ℕ) → NodeSeen view (literal n)) → NodeSeen view other → NodeSeen view (negated_or r literal other)
  negated_seen None literal other h k = k
  negated_seen (Some n) literal other h k = h n

-- ---- a variable that is found

not_global : (c : Class) → takes role.Read c ≡ true → is_global c ≡ false
not_global class.Var h = refl
not_global class.Param h = refl
not_global class.LoopVar h = refl
not_global class.Event h = refl
not_global class.Alias h = refl
not_global class.Pool h = refl
not_global class.Input h = absurd (cc)
not_global class.Output h = absurd (cc)
not_global class.Code h = absurd (cc)

written_read : (c : Class) → takes role.Written c ≡ true → takes role.Read c ≡ true
written_read class.Var h = refl
written_read class.Param h = refl
written_read class.LoopVar h = absurd (cc)
written_read class.Event h = absurd (cc)
written_read class.Alias h = absurd (cc)
written_read class.Pool h = absurd (cc)
written_read class.Input h = absurd (cc)
written_read class.Output h = absurd (cc)
written_read class.Code h = absurd (cc)

module _ (s : Scopes) (view : List Seen) (slot : ℕ) (numbers : List ℕ) (k : Known) where
  -- where its slot lies, and what is found there
  record Variable : Type 0 where
    number : ℕ
    is : slice_get numbers k.number ≡ Some number
    typed : has_ty (variable_ty (find number view)) (decl_ty s k.number) ≡ true
    no_loop : takes role.Written k.class ≡ true → not (is_loop_variable (find number view)) ≡ true

  variable_of : (c : Class) → k.class ≡ c → MeansOf s view slot numbers k c → takes role.Read c ≡ true → Variable
  variable_of class.Var same h e =
      record {
        number = h.number;
        is = h.is;
        typed = ap (λ x. has_ty (variable_ty x) (decl_ty s k.number)) h.there ∙ same_type (decl_ty s k.number);
        no_loop = λ w. ap (λ x. not (is_loop_variable x)) h.there;
      }
  variable_of class.Param same h e =
      record {
        number = h.number;
        is = h.is;
        typed = ap (λ x. has_ty (variable_ty x) (decl_ty s k.number)) h.there ∙ same_type (decl_ty s k.number);
        no_loop = λ w. ap (λ x. not (is_loop_variable x)) h.there;
      }
  variable_of class.LoopVar same h e =
      record {
        number = h.0.number;
        is = h.0.is;
        typed = ap (λ x. has_ty (variable_ty x) (decl_ty s k.number)) h.0.there ∙ ap (λ u. same_ty ty.S32 u) h.1;
        no_loop = λ w. let loop : takes role.Written class.LoopVar ≡ true = subst (λ c. takes role.Written c ≡ true) same w in absurd (cc);
      }
  variable_of class.Event same h e = absurd (cc)
  variable_of class.Alias same h e = absurd (cc)
  variable_of class.Pool same h e = absurd (cc)
  variable_of class.Input same h e = absurd (cc)
  variable_of class.Output same h e = absurd (cc)
  variable_of class.Code same h e = absurd (cc)

own_decl : (scopes : List Scope) (x : Ident) (k : Known) → decl_of scopes x ≡ Ok k → x.outer ≡ false → seen scopes x.name ≡ Some k
own_decl scopes x k e outer =
    let own : ok_or (seen scopes x.name) (if is_own scopes x.name then N5 else N1) ≡ Ok k =
    ap (λ b. if b then ok_or (seen_outer scopes x.name) N4 else ok_or (seen scopes x.name) (if is_own scopes x.name then N5 else N1)) (sym outer) ∙ e in
    ok_some (seen scopes x.name) (if is_own scopes x.name then N5 else N1) k own

module _ (s : Scopes) (t : Types) (view : List Seen) (ds : List KDecl) (base : ℕ) where
  -- a part of the walk, by which this is so
  pub record Made (w : Walk) (d : Draft) (v : Walk) (e : Draft) (U : Type 0) : Type 0 where
    pub step : Step s view ds base w d v e
    pub so : Fits s v → Begun ds e → Both s view base w d → U

  abbrev pub Gives : Walk → Draft → Result Walk Broken → Draft → Type 0 → Type 0
  Gives w d x e U = Always (λ v. Made w d v e U) x

  pub made_map : (U V : Type 0) (w : Walk) (d e : Draft) (x : Result Walk Broken) → (U → V) → Gives w d x e U → Gives w d x e V
  made_map U V w d e x f h v k = let m = h v k in record { step = m.step; so = λ a b c. f (m.so a b c) }

  pub made_then : (U V : Type 0) (w : Walk) (d e c : Draft) (x : Result Walk Broken) (f : Walk → Result Walk Broken) → Gives w d x e U → ((v : Walk) → Gives v e (f v) c V) → Gives w d (x >>= f) c (U × V)
  made_then U V w d e c x f a b =
      always_then (λ v. Made w d v e U) (λ v. Made w d v c (U × V)) x f a
      (λ v m u k.
      let n = b v u k in
      record { step = step_then s view ds base m.step n.step; so = λ fits begun both. (m.so (n.step.fits fits) (n.step.begun begun) both, n.so fits begun (m.step.both (n.step.fits fits) (n.step.begun begun) both)) })

  pub goes_made : (w : Walk) (d e : Draft) (x : Result Walk Broken) → Goes s view ds base w d x e → Gives w d x e ⊤
  goes_made w d e x h v k = record { step = h v k; so = λ a b c. tt }

  pub still : (w : Walk) (d : Draft) → Step s view ds base w d w d
  still w d = calm_step s view ds base w d d refl refl (omega arith) refl

  pub still_made : (U : Type 0) (w : Walk) (d e : Draft) → Step s view ds base w d w e → U → Gives w d (Ok w) e U
  still_made U w d e step u = always_ok (λ v. Made w d v e U) w (record { step = step; so = λ a b c. u })

  pub draft_made : (U : Type 0) (w : Walk) (d c e : Draft) (x : Result Walk Broken) → Step s view ds base w d w c → Gives w c x e U → Gives w d x e U
  draft_made U w d c e x step h v k =
      let m = h v k in
      record { step = step_then s view ds base step m.step; so = λ fits begun both. m.so fits begun (step.both (m.step.fits fits) (m.step.begun begun) both) }

  typed_step : (w : Walk) (d : Draft) → Step s view ds base w d w (expressions.typed d)
  unfolding expressions.typed
  typed_step w d = calm_step s view ds base w d _ refl refl (omega arith) refl

  -- ---- variables

  find_variable : (r : Role) (x : Ident) (w v : Walk) (d : Draft) (k : Known) → Found s view ds base r x w d k v → takes role.Read k.class ≡ true → x.outer ≡ false → Both s view base w d → Variable s view base d.numbers k
  find_variable r x w v d k f reads own both =
      variable_of s view base d.numbers k k.class refl (shown_in (λ k. Means s view base d.numbers k) w.scopes x.name k both.means (own_decl w.scopes x k f.decl own) (not_global k.class reads)) reads

  number_is : (numbers : List ℕ) (k n : ℕ) (o : Option ℕ) → o ≡ Some k → slice_get numbers k ≡ Some n → number_at numbers o ≡ n
  number_is numbers k n None e g = absurd (cc)
  number_is numbers k n (Some j) e g = let same : j ≡ k = cc in ap (λ i. unwrap_or (slice_get numbers i) 0) same ∙ ap (λ o. unwrap_or o 0) g

  slot_is : (x : Ident) (d : Draft) (k n : ℕ) → slice_get s.uses d.uses ≡ Some k → slice_get d.numbers k ≡ Some n → (variable s x d).slot ≡ n
  unfolding variable use_number
  slot_is x d k n e g = number_is d.numbers k n (slice_get s.uses d.uses) e g

  ty_is : (x : Ident) (d : Draft) (k : ℕ) → slice_get s.uses d.uses ≡ Some k → (variable s x d).ty ≡ decl_ty s k
  unfolding variable
  ty_is x d k e = ap (λ o. uses.type_of_decl (uses.decl_at s.decls o)) e

  outer_is : (x : Ident) (d : Draft) → (variable s x d).outer ≡ x.outer
  unfolding variable
  outer_is x d = refl

  -- a variable that is read
  read_made : (x : Ident) (w : Walk) (d : Draft) → Gives w d (named role.Read x w) (uses.used d) (LocSeen view (variable s x d))
  read_made x w d v e =
      let found = named_found s view ds base role.Read x w d v e in
      let k = found.0 in
      let f = found.1 in
      record {
        step = f.step;
        so = λ fits begun both outer.
            let h = find_variable role.Read x w v d k f f.takes_it (sym (outer_is x d) ∙ outer) both in
            let listed = f.listed both.uses fits in
            ap (λ n. has_ty (variable_ty (find n view)) (variable s x d).ty) (slot_is x d k.number h.number listed h.is) ∙ ap (λ u. has_ty (variable_ty (find h.number view)) u) (ty_is x d k.number listed) ∙ h.typed;
      }

  -- one that is assigned
  pub written_made : (x : Ident) (w : Walk) (d : Draft) → Gives w d (named role.Written x w) (uses.used d) (TargetSeen view (variable s x d))
  written_made x w d v e =
      let found = named_found s view ds base role.Written x w d v e in
      let k = found.0 in
      let f = found.1 in
      record {
        step = f.step;
        so = λ fits begun both.
            let listed = f.listed both.uses fits in (
              λ outer.
                  let h = find_variable role.Written x w v d k f (written_read k.class f.takes_it) (sym (outer_is x d) ∙ outer) both in
                  ap (λ n. has_ty (variable_ty (find n view)) (variable s x d).ty) (slot_is x d k.number h.number listed h.is) ∙ ap (λ u. has_ty (variable_ty (find h.number view)) u) (ty_is x d k.number listed) ∙ h.typed,
              λ outer.
                  let h = find_variable role.Written x w v d k f (written_read k.class f.takes_it) (sym (outer_is x d) ∙ outer) both in
                  ap (λ n. not (is_loop_variable (find n view))) (slot_is x d k.number h.number listed h.is) ∙ h.no_loop f.takes_it,
            );
      }

  -- ---- expressions

  mutual
    unfolding node_walked node_passed node_written NodeSeen

    node_made : (e : ExpNode) (w : Walk) (d : Draft) → Gives w d (node_walked e w) (node_passed e d) (NodeSeen view (node_written s t e d))
    node_made (exp.Number n) w d = still_made ⊤ w d (expressions.typed d) (typed_step w d) tt
    node_made (exp.Bool b) w d = still_made ⊤ w d (expressions.typed d) (typed_step w d) tt
    node_made (exp.Var x) w d = draft_made (LocSeen view (variable s x (expressions.typed d))) w d (expressions.typed d) (uses.used (expressions.typed d)) (named role.Read x w) (typed_step w d) (read_made x w (expressions.typed d))
    node_made (exp.Alive x) w d =
        draft_made ⊤ w d (expressions.typed d) (uses.used (expressions.typed d)) (named role.Asked x w) (typed_step w d)
        (goes_made w (expressions.typed d) (uses.used (expressions.typed d)) (named role.Asked x w) (used_goes s view ds base role.Asked x w (expressions.typed d)))
    node_made (One' op _ a) w d =
        let d' = expressions.typed d in
        draft_made (NodeSeen view (node_written s t (One' op _ a) d)) w d d' (row_passed a d') (operand_walked a w) (typed_step w d)
        (made_map (ExpSeen view (operand_written s t a d')) (NodeSeen view (node_written s t (One' op _ a) d)) w d' (row_passed a d') (operand_walked a w)
        (λ u. negated_seen view (row_negated op a) _ (knode.One op (operand_written s t a d')) (λ n. tt) (one_seen view op (operand_written s t a d') u)) (row_made a w d'))
    node_made (Two' op _ a _ b) w d =
        let d' = expressions.typed d in
        let d'' = row_passed a d' in
        let x = operand_written s t a d' in
        let y = operand_written s t b d'' in
        draft_made (NodeSeen view (knode.Two op x y)) w d d' (row_passed b d'') (operand_walked a w >>= operand_walked b) (typed_step w d)
        (made_map (ExpSeen view x × ExpSeen view y) (NodeSeen view (knode.Two op x y)) w d' (row_passed b d'') (operand_walked a w >>= operand_walked b) (λ u. two_seen view op x y u.0 u.1)
        (made_then (ExpSeen view x) (ExpSeen view y) w d' d'' (row_passed b d'') (operand_walked a w) (operand_walked b) (row_made a w d') (λ v. row_made b v d'')))
    node_made (As' _ a u) w d =
        let d' = expressions.typed d in
        draft_made (NodeSeen view (knode.As (operand_written s t a d'))) w d d' (row_passed a d') (operand_walked a w) (typed_step w d)
        (made_map (ExpSeen view (operand_written s t a d')) (NodeSeen view (knode.As (operand_written s t a d'))) w d' (row_passed a d') (operand_walked a w) (λ u. as_seen view (operand_written s t a d') u) (row_made a w d'))

    row_made : {n : _} (r : Row_of-Exp n) (w : Walk) (d : Draft) → Gives w d (operand_walked r w) (row_passed r d) (ExpSeen view (operand_written s t r d))
    row_made end_of-Exp w d = still_made ⊤ w d d (still w d) tt
    row_made (more_of-Exp p e rest) w d = node_made e w d

  pub exp_made : (e : Exp) (w : Walk) (d : Draft) → Gives w d (exp_walked e w) (exp_passed e d) (ExpSeen view (exp_written s t e d))
  exp_made e w d = node_made e.node w d

  pub exps_made : (es : List Exp) (w : Walk) (d : Draft) → Gives w d (exps_walked es w) (each exp_passed es d) (AllOf (ExpSeen view) (gathered (exp_written s t) exp_passed es d))
  unfolding each walk.each gathered
  exps_made [] w d = still_made ⊤ w d d (still w d) tt
  exps_made (e ∷ es) w d =
      made_then (ExpSeen view (exp_written s t e d)) (AllOf (ExpSeen view) (gathered (exp_written s t) exp_passed es (exp_passed e d))) w d (exp_passed e d) (each exp_passed es (exp_passed e d)) (exp_walked e w) (exps_walked es) (exp_made e w d)
      (λ v. exps_made es v (exp_passed e d))

  pub if_exp_made : (e : Option Exp) (w : Walk) (d : Draft) → Gives w d (if_exp_walked e w) (if_exp_passed e d) (MaybeExp view (if_exp_written s t e d))
  if_exp_made None w d = still_made ⊤ w d d (still w d) tt
  if_exp_made (Some e) w d = exp_made e w d
