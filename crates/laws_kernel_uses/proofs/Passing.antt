-- Expressions name no slot but those that are shown.
use Rattle.std.proofs.Common.{◌≡◌, ◌≢◌, refl, sym, ap, ◌∙◌, subst, ℕ, ◌≤◌, ◌<◌, arith, List, [], ◌∷◌, ◌++◌, Option, Some, None, Result, Ok, Bool, true}
use Rattle.std.specs.Prelude.{⊤}
use Rattle.ceu_base.specs.declared.kinds.Op1.{Op1}
use Rattle.ceu_base.specs.declared.kinds.Op2.{Op2}
use Rattle.ceu_tree.specs.declared.source.Ident.{Ident}
use Rattle.ceu_tree.specs.declared.source.Exp.{Exp}
use Rattle.ceu_tree.specs.declared.source.ExpNode as exp
use Rattle.ceu_tree.specs.declared.source.ExpNode.{ExpNode, Row_of-Exp, end_of-Exp, more_of-Exp, One', Two', As'}
use Rattle.ceu_tree.specs.declared.kernel.KExp.{KExp}
use Rattle.ceu_tree.specs.declared.kernel.KExpNode as knode
use Rattle.ceu_tree.specs.declared.kernel.KExpNode.{KExpNode}
use Rattle.ceu_tree.specs.declared.kernel.KExpNode.TheBlock.{hidden-the_row-KExp-0}
use Rattle.ceu_tree.specs.Mentions.{loc_names, own_names, node_names, exp_names, maybe_exp, exps_names, count_of}
use Rattle.ceu_scopes.specs.declared.known.Role.{Role}
use Rattle.ceu_scopes.specs.declared.known.Role.TheVariants as role
use Rattle.ceu_scopes.specs.declared.known.Scopes.{Scopes}
use Rattle.ceu_scopes.specs.declared.walk.Walk.{Walk}
use Rattle.ceu_scopes.specs.Walk.{Broken, ◌>>=◌}
use Rattle.ceu_scopes.specs.Walk as walk
use Rattle.ceu_scopes.specs.Rules.{named}
use Rattle.ceu_scopes.specs.Names.{exp_walked, exps_walked, if_exp_walked, node_walked, operand_walked}
use Rattle.ceu_types.specs.declared.typing.Types.{Types}
use Rattle.ceu_expand.specs.declared.draft.Draft.{Draft}
use Rattle.ceu_expand.specs.Lists.{each, gathered}
use Rattle.ceu_expand.specs.Uses as uses
use Rattle.ceu_expand.specs.Uses.{use_number, variable}
use Rattle.ceu_expand.specs.Expressions as expressions
use Rattle.ceu_expand.specs.Expressions.{exp_passed, if_exp_passed, exp_written, if_exp_written, negated_or, row_negated, node_passed, row_passed, node_written, operand_written}
use Rattle.laws_kernel_shape.proofs.Steps.{Always, always_ok, always_then}
use Rattle.laws_kernel_names.proofs.Stepping.{Fits}
use Rattle.laws_kernel_uses.proofs.Absent.{count_both, loc_other, own_other}
use Rattle.laws_kernel_uses.proofs.Knowing.{names_slot, Knows, Outside, Step, step_then, Goes, calm_step, named_found, slot_other, still}
use denote.Hole.Carrier

pub out_left : (a b c n : ℕ) → b ≤ c → Outside a c n → Outside a b n
out_left a b c n le o = λ lo hi. o lo (omega (arith, le, hi))

pub out_right : (a b c n : ℕ) → a ≤ b → Outside a c n → Outside b c n
out_right a b c n le o = λ lo hi. o (omega (arith, le, lo)) hi

abbrev pub no_names : Bool → List ℕ
no_names own = []

module _ (T : List (List ℕ)) (own : Bool) where
  one_names : (op : Op1) (a : KExp) → node_names own T (knode.One op a) ≡ exp_names own T a
  unfolding node_names hidden-the_row-KExp-0 Carrier.hidden
  one_names op a = refl

  two_names : (op : Op2) (a b : KExp) → node_names own T (knode.Two op a b) ≡ exp_names own T a ++ exp_names own T b
  unfolding node_names hidden-the_row-KExp-0 Carrier.hidden
  two_names op a b = refl

  as_names : (a : KExp) → node_names own T (knode.As a) ≡ exp_names own T a
  unfolding node_names hidden-the_row-KExp-0 Carrier.hidden
  as_names a = refl

  negated_absent : (n : ℕ) (r : Option ℕ) (literal : ℕ → KExpNode) (other : KExpNode) → ((m : ℕ) → node_names own T (literal m) ≡ []) → count_of n (node_names own T other) ≡ 0 → count_of n (node_names own T (negated_or r literal other)) ≡ 0
  negated_absent n None literal other h k = k
  negated_absent n (Some m) literal other h k = ap (count_of n) (h m)

module _ (T : List (List ℕ)) (s : Scopes) where
  -- each slot below the top that isn't taken yet is named by nothing that is shown
  abbrev pub Clear : ℕ → Walk → Draft → Type 0
  Clear top w d = (n : ℕ) → d.slot ≤ n → n < top → Knows T n w d

  pub clear_step : {w v : Walk} {d e : Draft} → Step T s w d v e → (top : ℕ) → Clear top w d → Clear top v e
  clear_step {d = d} {e = e} h top c = λ n le lt. let up : d.slot ≤ e.slot = h.slots in h.knows n (λ lo hi. omega (arith, le, hi)) (c n (omega (arith, up, le)) lt)

  -- a part that has these names, and by which this is so
  pub record Made (w : Walk) (d : Draft) (v : Walk) (e : Draft) (xs : Bool → List ℕ) (S : Type 0) : Type 0 where
    pub step : Step T s w d v e
    pub so : Fits s v → (n : ℕ) → Outside d.slot e.slot n → Knows T n w d → (own : Bool) → count_of n (xs own) ≡ 0
    pub whole : Fits s v → (top : ℕ) → e.slot ≤ top → Clear top w d → S

  abbrev pub Gives : Walk → Draft → Result Walk Broken → Draft → (Bool → List ℕ) → Type 0 → Type 0
  Gives w d x e xs S = Always (λ v. Made w d v e xs S) x

  pub made_join : (xs ys : Bool → List ℕ) (S V : Type 0) (w v u : Walk) (d e c : Draft) → Made w d v e xs S → Made v e u c ys V → Made w d u c (λ own. xs own ++ ys own) (S × V)
  made_join xs ys S V w v u d e c m n =
      let a : d.slot ≤ e.slot = m.step.slots in
      let b : e.slot ≤ c.slot = n.step.slots in
      record {
        step = step_then T s m.step n.step;
        so = λ fits i o k own. count_both i (xs own) (ys own) (m.so (n.step.fits fits) i (out_left d.slot e.slot c.slot i b o) k own) (n.so fits i (out_right d.slot e.slot c.slot i a o) (m.step.knows i (out_left d.slot e.slot c.slot i b o) k) own);
        whole = λ fits top up clear. (m.whole (n.step.fits fits) top (omega (arith, b, up)) clear, n.whole fits top up (clear_step m.step top clear));
      }

  pub made_then : (xs ys : Bool → List ℕ) (S V : Type 0) (w : Walk) (d e c : Draft) (x : Result Walk Broken) (f : Walk → Result Walk Broken) → Gives w d x e xs S → ((v : Walk) → Gives v e (f v) c ys V) → Gives w d (x >>= f) c (λ own. xs own ++ ys own) (S × V)
  made_then xs ys S V w d e c x f a b = always_then (λ v. Made w d v e xs S) (λ u. Made w d u c (λ own. xs own ++ ys own) (S × V)) x f a (λ v m u k. made_join xs ys S V w v u d e c m (b v u k))

  pub made_map : (xs ys : Bool → List ℕ) (S V : Type 0) (w : Walk) (d e : Draft) (x : Result Walk Broken) → ((n : ℕ) (own : Bool) → count_of n (xs own) ≡ 0 → count_of n (ys own) ≡ 0) → (S → V) → Gives w d x e xs S → Gives w d x e ys V
  made_map xs ys S V w d e x f g h v k = let m = h v k in record { step = m.step; so = λ fits n o i own. f n own (m.so fits n o i own); whole = λ fits top up c. g (m.whole fits top up c) }

  -- a step before a part, or behind it
  pub step_made : (xs : Bool → List ℕ) (S : Type 0) {w v u : Walk} {d e c : Draft} → Step T s w d v e → Made v e u c xs S → Made w d u c xs S
  step_made xs S {d = d} {e = e} {c = c} a m =
      let x : d.slot ≤ e.slot = a.slots in
      let y : e.slot ≤ c.slot = m.step.slots in
      record {
        step = step_then T s a m.step;
        so = λ fits n o k own. m.so fits n (out_right d.slot e.slot c.slot n x o) (a.knows n (out_left d.slot e.slot c.slot n y o) k) own;
        whole = λ fits top up clear. m.whole fits top up (clear_step a top clear);
      }

  pub made_step : (xs : Bool → List ℕ) (S : Type 0) {w v u : Walk} {d e c : Draft} → Made w d v e xs S → Step T s v e u c → Made w d u c xs S
  made_step xs S {d = d} {e = e} {c = c} m b =
      let y : e.slot ≤ c.slot = b.slots in
      record { step = step_then T s m.step b; so = λ fits n o k own. m.so (b.fits fits) n (out_left d.slot e.slot c.slot n y o) k own; whole = λ fits top up clear. m.whole (b.fits fits) top (omega (arith, y, up)) clear }

  pub goes_made : (w : Walk) (d e : Draft) (x : Result Walk Broken) → Goes T s w d x e → Gives w d x e no_names ⊤
  goes_made w d e x h v k = record { step = h v k; so = λ fits n o i own. refl; whole = λ fits top up c. tt }

  pub calm_made : (w : Walk) (d e : Draft) → Step T s w d w e → Gives w d (Ok w) e no_names ⊤
  calm_made w d e step = always_ok (λ v. Made w d v e no_names ⊤) w (record { step = step; so = λ fits n o i own. refl; whole = λ fits top up c. tt })

  pub draft_made : (xs : Bool → List ℕ) (S : Type 0) (w : Walk) (d c e : Draft) (x : Result Walk Broken) → Step T s w d w c → Gives w c x e xs S → Gives w d x e xs S
  draft_made xs S w d c e x step h v k = step_made xs S step (h v k)

  module _ (t : Types) where
    typed_step : (w : Walk) (d : Draft) → Step T s w d w (expressions.typed d)
    unfolding expressions.typed
    typed_step w d = calm_step T s w d _ refl refl (omega arith)

    -- ---- names

    variable_slot : (x : Ident) (d : Draft) → (variable s x d).slot ≡ use_number s d
    unfolding variable
    variable_slot x d = refl

    pub variable_other : (x : Ident) (d : Draft) (n : ℕ) → use_number s d ≢ n → (variable s x d).slot ≢ n
    variable_other x d n h = subst (λ i. i ≢ n) (sym (variable_slot x d)) h

    pub variable_made : (r : Role) (x : Ident) (w : Walk) (d : Draft) → names_slot r ≡ true → Gives w d (named r x w) (uses.used d) (λ own. loc_names own T (variable s x d)) ⊤
    variable_made r x w d role v e =
        let f = named_found T s r x w d v e in
        record { step = f.1.step; so = λ fits n o k own. loc_other T n own (variable s x d) (variable_other x d n (slot_other T s r w v d f.0 role f.1 fits n k)); whole = λ fits top up c. tt }

    pub alias_made : (r : Role) (x : Ident) (w : Walk) (d : Draft) → names_slot r ≡ true → Gives w d (named r x w) (uses.used d) (λ own. own_names own T (use_number s d)) ⊤
    alias_made r x w d role v e =
        let f = named_found T s r x w d v e in
        record { step = f.1.step; so = λ fits n o k own. own_other T n own (use_number s d) (slot_other T s r w v d f.0 role f.1 fits n k); whole = λ fits top up c. tt }

    pub used_goes : (r : Role) (x : Ident) (w : Walk) (d : Draft) → Goes T s w d (named r x w) (uses.used d)
    used_goes r x w d v e = (named_found T s r x w d v e).1.step

    -- ---- expressions

    mutual
      unfolding node_walked node_passed node_written node_names

      node_made : (e : ExpNode) (w : Walk) (d : Draft) → Gives w d (node_walked e w) (node_passed e d) (λ own. node_names own T (node_written s t e d)) ⊤
      node_made (exp.Number n) w d = calm_made w d (expressions.typed d) (typed_step w d)
      node_made (exp.Bool b) w d = calm_made w d (expressions.typed d) (typed_step w d)
      node_made (exp.Var x) w d =
          let d' = expressions.typed d in
          draft_made (λ own. loc_names own T (variable s x d')) ⊤ w d d' (uses.used d') (named role.Read x w) (typed_step w d) (variable_made role.Read x w d' refl)
      node_made (exp.Alive x) w d =
          let d' = expressions.typed d in
          draft_made (λ own. own_names own T (use_number s d')) ⊤ w d d' (uses.used d') (named role.Asked x w) (typed_step w d) (alias_made role.Asked x w d' refl)
      node_made (One' op _ a) w d =
          let d' = expressions.typed d in
          let x = operand_written s t a d' in
          let made : Bool → List ℕ = λ own. node_names own T (node_written s t (One' op _ a) d) in
          draft_made made ⊤ w d d' (row_passed a d') (operand_walked a w) (typed_step w d)
          (made_map (λ own. exp_names own T x) made ⊤ ⊤ w d' (row_passed a d') (operand_walked a w) (λ n own u. negated_absent T own n (row_negated op a) _ (knode.One op x) (λ m. refl) (ap (count_of n) (one_names T own op x) ∙ u)) (λ u. u) (row_made a w d'))
      node_made (Two' op _ a _ b) w d =
          let d' = expressions.typed d in
          let d'' = row_passed a d' in
          let x = operand_written s t a d' in
          let y = operand_written s t b d'' in
          let made : Bool → List ℕ = λ own. node_names own T (knode.Two op x y) in
          draft_made made ⊤ w d d' (row_passed b d'') (operand_walked a w >>= operand_walked b) (typed_step w d)
          (made_map (λ own. exp_names own T x ++ exp_names own T y) made (⊤ × ⊤) ⊤ w d' (row_passed b d'') (operand_walked a w >>= operand_walked b) (λ n own u. ap (count_of n) (two_names T own op x y) ∙ u) (λ u. tt)
          (made_then (λ own. exp_names own T x) (λ own. exp_names own T y) ⊤ ⊤ w d' d'' (row_passed b d'') (operand_walked a w) (operand_walked b) (row_made a w d') (λ v. row_made b v d'')))
      node_made (As' _ a u) w d =
          let d' = expressions.typed d in
          let x = operand_written s t a d' in
          let made : Bool → List ℕ = λ own. node_names own T (knode.As x) in
          draft_made made ⊤ w d d' (row_passed a d') (operand_walked a w) (typed_step w d)
          (made_map (λ own. exp_names own T x) made ⊤ ⊤ w d' (row_passed a d') (operand_walked a w) (λ n own u. ap (count_of n) (as_names T own x) ∙ u) (λ u. u) (row_made a w d'))

      row_made : {n : _} (r : Row_of-Exp n) (w : Walk) (d : Draft) → Gives w d (operand_walked r w) (row_passed r d) (λ own. exp_names own T (operand_written s t r d)) ⊤
      row_made end_of-Exp w d = calm_made w d d (still T s w d)
      row_made (more_of-Exp p e rest) w d = node_made e w d

    pub exp_made : (e : Exp) (w : Walk) (d : Draft) → Gives w d (exp_walked e w) (exp_passed e d) (λ own. exp_names own T (exp_written s t e d)) ⊤
    exp_made e w d = node_made e.node w d

    pub exps_made : (es : List Exp) (w : Walk) (d : Draft) → Gives w d (exps_walked es w) (each exp_passed es d) (λ own. exps_names own T (gathered (exp_written s t) exp_passed es d)) ⊤
    unfolding each walk.each gathered
    exps_made [] w d = calm_made w d d (still T s w d)
    exps_made (e ∷ es) w d =
        made_map (λ own. exp_names own T (exp_written s t e d) ++ exps_names own T (gathered (exp_written s t) exp_passed es (exp_passed e d))) (λ own. exps_names own T (gathered (exp_written s t) exp_passed (e ∷ es) d)) (⊤ × ⊤) ⊤ w d (each exp_passed es (exp_passed e d)) (exp_walked e w >>= exps_walked es) (λ n own u. u) (λ u. tt)
        (made_then (λ own. exp_names own T (exp_written s t e d)) (λ own. exps_names own T (gathered (exp_written s t) exp_passed es (exp_passed e d))) ⊤ ⊤ w d (exp_passed e d) (each exp_passed es (exp_passed e d)) (exp_walked e w) (exps_walked es) (exp_made e w d) (λ v. exps_made es v (exp_passed e d)))

    pub if_exp_made : (e : Option Exp) (w : Walk) (d : Draft) → Gives w d (if_exp_walked e w) (if_exp_passed e d) (λ own. maybe_exp own T (if_exp_written s t e d)) ⊤
    if_exp_made None w d = calm_made w d d (still T s w d)
    if_exp_made (Some e) w d = exp_made e w d
