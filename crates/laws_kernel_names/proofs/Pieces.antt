-- Parts of statements: the walk through names beside the draft.
use Rattle.std.proofs.Common.{◌≡◌, refl, ap, ◌∙◌, ℕ, ◌<◌, List, [], ◌∷◌, ◌++◌, Option, Some, None, Result, Ok, true, false}
use Rattle.ceu_base.specs.declared.kinds.Ty.{Ty}
use Rattle.ceu_base.specs.declared.kinds.Rule.{Rule}
use Rattle.ceu_tree.specs.declared.source.Class.{Class}
use Rattle.ceu_tree.specs.declared.source.Ident.{Ident}
use Rattle.ceu_tree.specs.declared.source.Label.{Label}
use Rattle.ceu_tree.specs.declared.source.Label.TheVariants as label
use Rattle.ceu_tree.specs.declared.source.Target.{Target}
use Rattle.ceu_tree.specs.declared.source.Target.TheVariants as target
use Rattle.ceu_tree.specs.declared.source.Exp.{Exp}
use Rattle.ceu_tree.specs.declared.source.ExpNode as exp
use Rattle.ceu_tree.specs.declared.source.ExpNode.{ExpNode, Row_of-Exp, end_of-Exp, more_of-Exp, One', Two', As'}
use Rattle.ceu_tree.specs.declared.source.Source as source
use Rattle.ceu_tree.specs.declared.source.Source.{Source}
use Rattle.ceu_scopes.specs.declared.known.Known.{Known}
use Rattle.ceu_scopes.specs.declared.known.Role.TheVariants as role
use Rattle.ceu_scopes.specs.declared.known.Scopes.{Scopes}
use Rattle.ceu_scopes.specs.declared.walk.Walk.{Walk}
use Rattle.ceu_scopes.specs.Shown.{added, rest_of}
use Rattle.ceu_scopes.specs.Walk.{Broken, ◌>>=◌, shown, fresh}
use Rattle.ceu_scopes.specs.Walk as walk
use Rattle.ceu_scopes.specs.Rules.{is_code, takes, used, named, and_on, declared, label_broken}
use Rattle.ceu_scopes.specs.Names.{node_walked, operand_walked, exp_walked, exps_walked, if_exp_walked, target_walked, ident_declared, labelled, unlabelled, escape_walked, name_listed, target_assigned, every_walked}
use Rattle.ceu_expand.specs.declared.draft.Draft.{Draft}
use Rattle.ceu_expand.specs.Lists.{each}
use Rattle.ceu_expand.specs.Uses as uses
use Rattle.ceu_expand.specs.Uses.{use_number, if_used}
use Rattle.ceu_expand.specs.Expressions as written
use Rattle.ceu_expand.specs.Expressions.{exp_passed, if_exp_passed, node_passed, row_passed}
use Rattle.ceu_expand.specs.Parts.{target_passed, name_passed}
use Rattle.laws_kernel_shape.proofs.Steps.{Always, always_ok, always_checked, always_then}
use Rattle.laws_kernel_names.proofs.Stepping.{Both, Fits, Step, step_then, Goes, goes_then, Use, used_use, used_goes, alias_goes, declared_goes, shown_goes, labels_step, draft_step}

module _ (s : Scopes) (limit : ℕ) where
  -- the walk stands still
  pub still_goes : (w : Walk) (d e : Draft) → e.uses ≡ d.uses → e.numbers ≡ d.numbers → Goes s limit w d (Ok w) e
  still_goes w d e u n = always_ok (λ v. Step s limit w d v e) w (draft_step s limit w d e u n)

  -- the draft goes on first
  pub draft_goes : (w : Walk) (d c e : Draft) (x : Result Walk Broken) → c.uses ≡ d.uses → c.numbers ≡ d.numbers → Goes s limit w c x e → Goes s limit w d x e
  draft_goes w d c e x u n h v k = step_then s limit (draft_step s limit w d c u n) (h v k)

  typed_uses : (d : Draft) → ((written.typed d).uses ≡ d.uses) × ((written.typed d).numbers ≡ d.numbers)
  unfolding written.typed
  typed_uses d = (refl, refl)

  -- ---- expressions

  typed_goes : (w : Walk) (d e : Draft) (x : Result Walk Broken) → Goes s limit w (written.typed d) x e → Goes s limit w d x e
  typed_goes w d e x h = let k = typed_uses d in draft_goes w d (written.typed d) e x k.0 k.1 h

  mutual
    unfolding node_walked node_passed

    node_goes : (e : ExpNode) (w : Walk) (d : Draft) → Goes s limit w d (node_walked e w) (node_passed e d)
    node_goes (exp.Number n) w d = let k = typed_uses d in still_goes w d (written.typed d) k.0 k.1
    node_goes (exp.Bool b) w d = let k = typed_uses d in still_goes w d (written.typed d) k.0 k.1
    node_goes (exp.Var x) w d = typed_goes w d (uses.used (written.typed d)) (named role.Read x w) (used_goes s limit role.Read x w (written.typed d))
    node_goes (exp.Alive x) w d = typed_goes w d (uses.used (written.typed d)) (named role.Asked x w) (used_goes s limit role.Asked x w (written.typed d))
    node_goes (One' op _ a) w d = typed_goes w d (row_passed a (written.typed d)) (operand_walked a w) (row_goes a w (written.typed d))
    node_goes (Two' op _ a _ b) w d =
        let c = row_passed a (written.typed d) in
        typed_goes w d (row_passed b c) (operand_walked a w >>= operand_walked b)
        (goes_then s limit w (written.typed d) c (row_passed b c) (operand_walked a w) (operand_walked b) (row_goes a w (written.typed d)) (λ v. row_goes b v c))
    node_goes (As' _ a t) w d = typed_goes w d (row_passed a (written.typed d)) (operand_walked a w) (row_goes a w (written.typed d))

    row_goes : {n : _} (r : Row_of-Exp n) (w : Walk) (d : Draft) → Goes s limit w d (operand_walked r w) (row_passed r d)
    row_goes end_of-Exp w d = still_goes w d d refl refl
    row_goes (more_of-Exp p e rest) w d = node_goes e w d

  pub exp_goes : (e : Exp) (w : Walk) (d : Draft) → Goes s limit w d (exp_walked e w) (exp_passed e d)
  exp_goes e w d = node_goes e.node w d

  pub exps_go : (es : List Exp) (w : Walk) (d : Draft) → Goes s limit w d (exps_walked es w) (each exp_passed es d)
  unfolding each walk.each
  exps_go [] w d = still_goes w d d refl refl
  exps_go (e ∷ es) w d = goes_then s limit w d (exp_passed e d) (each exp_passed es (exp_passed e d)) (exp_walked e w) (exps_walked es) (exp_goes e w d) (λ v. exps_go es v (exp_passed e d))

  pub if_exp_goes : (e : Option Exp) (w : Walk) (d : Draft) → Goes s limit w d (if_exp_walked e w) (if_exp_passed e d)
  if_exp_goes None w d = still_goes w d d refl refl
  if_exp_goes (Some e) w d = exp_goes e w d

  pub target_goes : (x : Target) (w : Walk) (d : Draft) → Goes s limit w d (target_walked x w) (target_passed x d)
  unfolding target_passed
  target_goes (target.Ext x) w d = used_goes s limit role.Input x w d
  target_goes (target.Event x) w d = used_goes s limit role.Event x w d
  target_goes (target.Time us) w d = still_goes w d d refl refl
  target_goes (target.TimeExp e u) w d = exp_goes e w d

  pub assigned_goes : (v : Source) (x : Ident) (w : Walk) (d : Draft) → Goes s limit w d (target_assigned v x w) (uses.used d)
  assigned_goes (source.Start sp) x w d = alias_goes s limit sp x w d
  assigned_goes (source.Value e) x w d = used_goes s limit role.Written x w d
  assigned_goes (source.Wait a) x w d = used_goes s limit role.Written x w d
  assigned_goes (source.Done b) x w d = used_goes s limit role.Written x w d

  pub every_goes : (x : Option Ident) (t : Target) (w : Walk) (d : Draft) → Goes s limit w d (every_walked x t w) (target_passed t (if_used x d))
  every_goes None t w d = target_goes t w d
  every_goes (Some x) t w d = goes_then s limit w d (uses.used d) (target_passed t (uses.used d)) (named role.Written x w) (target_walked t) (used_goes s limit role.Written x w d) (λ v. target_goes t v (uses.used d))

  pub escape_goes : (l : Option Ident) (w : Walk) (d : Draft) → Goes s limit w d (escape_walked l w) d
  escape_goes None w d = still_goes w d d refl refl
  escape_goes (Some l) w d = always_checked (λ v. Step s limit w d v d) (label_broken w.labels l) l.pos w (draft_step s limit w d d refl refl)

  -- ---- labels

  pub labelled_step : (l : Label) (w : Walk) (d : Draft) → Step s limit w d (labelled l w) d
  labelled_step label.Plain w d = draft_step s limit w d d refl refl
  labelled_step label.Under w d = draft_step s limit w d d refl refl
  labelled_step (label.Named l) w d = labels_step s limit (l.name ∷ w.labels) w d

  pub unlabelled_goes : (l : Label) (w : Walk) (d : Draft) → Goes s limit w d (unlabelled l w) d
  unlabelled_goes label.Plain w d = still_goes w d d refl refl
  unlabelled_goes label.Under w d = still_goes w d d refl refl
  unlabelled_goes (label.Named l) w d = always_ok (λ v. Step s limit w d v d) (record w { labels = rest_of w.labels }) (labels_step s limit (rest_of w.labels) w d)

  -- ---- the list of an async

  listed_goes : (x : Ident) (p : List ℕ × Walk) (d : Draft) → Always (λ (q : List ℕ × Walk). Step s limit p.1 d q.1 (uses.used d)) (name_listed x p)
  listed_goes x p d =
      always_then (λ q. Use s limit p.1 d q × (takes role.Listed q.0.class ≡ true)) (λ (q : List ℕ × Walk). Step s limit p.1 d q.1 (uses.used d)) (used role.Listed x p.1) _ (used_use s limit role.Listed x p.1 d)
      (λ q k. always_ok (λ (q : List ℕ × Walk). Step s limit p.1 d q.1 (uses.used d)) (added p.0 q.0.number, q.1) k.0.step)

  pub list_goes : (xs : List Ident) (p : List ℕ × Walk) (d : Draft) → Always (λ (q : List ℕ × Walk). Step s limit p.1 d q.1 (each name_passed xs d)) (walk.each name_listed xs p)
  unfolding each walk.each
  list_goes [] p d = always_ok (λ (q : List ℕ × Walk). Step s limit p.1 d q.1 d) p (draft_step s limit p.1 d d refl refl)
  list_goes (x ∷ xs) p d =
      always_then (λ (q : List ℕ × Walk). Step s limit p.1 d q.1 (uses.used d)) (λ (q : List ℕ × Walk). Step s limit p.1 d q.1 (each name_passed xs (uses.used d))) (name_listed x p) (walk.each name_listed xs) (listed_goes x p d)
      (λ q k r e. step_then s limit k (list_goes xs q (uses.used d) r e))

  -- ---- names that are shown as they are declared

  fresh_class : (c : Class) (n : ℕ) (w : Walk) → (fresh c n w).class ≡ c
  unfolding fresh
  fresh_class c n w = refl

  pub fresh_other : (c : Class) (n : ℕ) (w : Walk) → is_code c ≡ false → is_code (fresh c n w).class ≡ false
  fresh_other c n w h = ap is_code (fresh_class c n w) ∙ h

  pub ident_goes : (c : Class) (t : Ty) (r : Option Rule) (x : Ident) (n : ℕ) (w : Walk) (d e : Draft) → is_code c ≡ false → e.uses ≡ d.uses → e.numbers ≡ d.numbers ++ n ∷ [] → Goes s limit w d (ident_declared c t r x w) e
  ident_goes c t r x n w d e other u m =
      goes_then s limit w d e e (declared c t r x w) (shown x (fresh c 0 w)) (declared_goes s limit c t r x n w d e u m) (λ v. shown_goes s limit x (fresh c 0 w) v e (fresh_other c 0 w other))

  -- ---- code that is used

  pub record CodeUse (w : Walk) (d : Draft) (v : Walk) (e : Draft) : Type 0 where
    pub step : Step s limit w d v e
    pub below : Both s limit w d → Fits s v → use_number s d < limit

  pub code_used : (x : Ident) (w : Walk) (d : Draft) → Always (λ (p : Known × Walk). CodeUse w d p.1 (uses.used d)) (used role.Code x w)
  code_used x w d p e = let k = used_use s limit role.Code x w d p e in record { step = k.0.step; below = k.0.code k.1 }

  pub code_named : (x : Ident) (w : Walk) (d : Draft) → Always (λ v. CodeUse w d v (uses.used d)) (named role.Code x w)
  unfolding named
  code_named x w d =
      always_then (λ (p : Known × Walk). CodeUse w d p.1 (uses.used d)) (λ v. CodeUse w d v (uses.used d)) (used role.Code x w) and_on (code_used x w d)
      (λ p h. always_ok (λ v. CodeUse w d v (uses.used d)) p.1 h)
