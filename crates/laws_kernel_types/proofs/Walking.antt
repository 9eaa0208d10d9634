-- Expressions, targets, labels and lists of names: the walk through a program's names beside the draft.
use Rattle.std.proofs.Common.{◌≡◌, refl, ap, subst, ℕ, List, [], ◌∷◌, Option, Some, None, Result, Ok}
use Rattle.ceu_base.specs.declared.kinds.Pos.{Pos}
use Rattle.ceu_tree.specs.declared.source.Ident.{Ident}
use Rattle.ceu_tree.specs.declared.source.Label.{Label}
use Rattle.ceu_tree.specs.declared.source.Label.TheVariants as label
use Rattle.ceu_tree.specs.declared.source.Exp.{Exp}
use Rattle.ceu_tree.specs.declared.source.ExpNode as exp
use Rattle.ceu_tree.specs.declared.source.ExpNode.{ExpNode, Row_of-Exp, end_of-Exp, more_of-Exp, One', Two', As'}
use Rattle.ceu_tree.specs.declared.source.Target.{Target}
use Rattle.ceu_tree.specs.declared.source.Target.TheVariants as target
use Rattle.ceu_tree.specs.declared.kernel.Kernel.{Kernel}
use Rattle.ceu_tree.specs.declared.kernel.KStmt.{KStmt}
use Rattle.ceu_scopes.specs.declared.known.Role.TheVariants as role
use Rattle.ceu_scopes.specs.declared.known.Scopes.{Scopes}
use Rattle.ceu_scopes.specs.declared.walk.Walk.{Walk}
use Rattle.ceu_scopes.specs.Shown.{added, rest_of}
use Rattle.ceu_scopes.specs.Walk as walk
use Rattle.ceu_scopes.specs.Walk.{Broken, ◌>>=◌}
use Rattle.ceu_scopes.specs.Rules.{used, label_broken}
use Rattle.ceu_scopes.specs.Names.{node_walked, operand_walked, exp_walked, exps_walked, if_exp_walked, target_walked, escape_walked, labelled, unlabelled, name_listed}
use Rattle.ceu_expand.specs.declared.draft.Draft.{Draft}
use Rattle.ceu_expand.specs.Draft as draft
use Rattle.ceu_expand.specs.Draft.{begun, hidden, placed, outside, opened, closed, around_block}
use Rattle.ceu_expand.specs.Lists.{each}
use Rattle.ceu_expand.specs.Uses as uses
use Rattle.ceu_expand.specs.Expressions as written
use Rattle.ceu_expand.specs.Expressions.{node_passed, row_passed, exp_passed, if_exp_passed}
use Rattle.ceu_expand.specs.Parts.{target_passed, name_passed}
use Rattle.laws_kernel_types.proofs.Naming.{then_ok, checked_ok, ok_is, Calm, same_tables, Goes, goes_then, calm_goes, named_goes, labels_goes, used_ok, used_goes}

-- ---- steps of the draft alone

pub calm_same : (d : Draft) → Calm d d
calm_same d = record { uses = refl; numbers = refl; tables = same_tables d d refl refl refl refl }

pub calm_begun : (d : Draft) → Calm d (begun d)
unfolding begun
calm_begun d = record { uses = refl; numbers = refl; tables = same_tables d (begun d) refl refl refl refl }

pub calm_hidden : (n : ℕ) (d : Draft) → Calm d (hidden n d)
unfolding hidden
calm_hidden n d = record { uses = refl; numbers = refl; tables = same_tables d (hidden n d) refl refl refl refl }

pub calm_placed : (n : ℕ) (p : Pos) (st : KStmt) (d : Draft) → Calm d (placed n p st d)
unfolding placed
calm_placed n p st d = record { uses = refl; numbers = refl; tables = same_tables d (placed n p st d) refl refl refl refl }

pub calm_opened : (n : ℕ) (d : Draft) → Calm d (opened n d)
unfolding opened
calm_opened n d = record { uses = refl; numbers = refl; tables = same_tables d (opened n d) refl refl refl refl }

pub calm_around : (n : ℕ) (f : Draft → Draft) (d : Draft) → Calm (f (opened n d)) (around_block n f d)
unfolding closed
calm_around n f d = record { uses = refl; numbers = refl; tables = same_tables (f (opened n d)) (around_block n f d) refl refl refl refl }

pub calm_labelled : (l : Label) (n : ℕ) (d : Draft) → Calm d (draft.labelled l n d)
unfolding draft.labelled
calm_labelled label.Plain n d = calm_same d
calm_labelled label.Under n d = calm_same d
calm_labelled (label.Named x) n d = record { uses = refl; numbers = refl; tables = same_tables d (draft.labelled (label.Named x) n d) refl refl refl refl }

pub calm_unlabelled : (l : Label) (d : Draft) → Calm d (draft.unlabelled l d)
unfolding draft.unlabelled
calm_unlabelled label.Plain d = calm_same d
calm_unlabelled label.Under d = calm_same d
calm_unlabelled (label.Named x) d = record { uses = refl; numbers = refl; tables = same_tables d (draft.unlabelled (label.Named x) d) refl refl refl refl }

calm_typed : (d : Draft) → Calm d (written.typed d)
unfolding written.typed
calm_typed d = record { uses = refl; numbers = refl; tables = same_tables d (written.typed d) refl refl refl refl }

module _ (s : Scopes) (numbers : List ℕ) (K : Kernel) (code : Option ℕ) where
  abbrev pub Moves : Walk → Draft → Walk → Draft → Type 0
  Moves w d v e = Goes s numbers K code w d v e

  pub still : (w v : Walk) (d e : Draft) → Calm d e → (x : Result Walk Broken) → x ≡ Ok w → x ≡ Ok v → Moves w d v e
  still w v d e c x i k = subst (λ v. Moves w d v e) (ok_is w v x i k) (calm_goes s numbers K code w d e c)

  pub calm_first : (w v : Walk) (d c e : Draft) → Calm d c → Moves w c v e → Moves w d v e
  calm_first w v d c e h k = goes_then s numbers K code (calm_goes s numbers K code w d c h) k

  pub calm_last : (w v : Walk) (d c e : Draft) → Calm c e → Moves w d v c → Moves w d v e
  calm_last w v d c e h k = goes_then s numbers K code k (calm_goes s numbers K code v c e h)

  -- a block of the draft
  pub around_goes : (n : ℕ) (f : Draft → Draft) (w v : Walk) (d : Draft) → Moves w (opened n d) v (f (opened n d)) → Moves w d v (around_block n f d)
  around_goes n f w v d h = calm_first w v d (opened n d) (around_block n f d) (calm_opened n d) (calm_last w v (opened n d) (f (opened n d)) (around_block n f d) (calm_around n f d) h)

  -- ---- expressions

  mutual
    unfolding node_walked node_passed

    node_goes : (e : ExpNode) (w v : Walk) (d : Draft) → node_walked e w ≡ Ok v → Moves w d v (node_passed e d)
    node_goes (exp.Number n) w v d h = still w v d (written.typed d) (calm_typed d) (Ok w) refl h
    node_goes (exp.Bool b) w v d h = still w v d (written.typed d) (calm_typed d) (Ok w) refl h
    node_goes (exp.Var x) w v d h = calm_first w v d (written.typed d) _ (calm_typed d) (named_goes s numbers K code role.Read x w v (written.typed d) h)
    node_goes (exp.Alive x) w v d h = calm_first w v d (written.typed d) _ (calm_typed d) (named_goes s numbers K code role.Asked x w v (written.typed d) h)
    node_goes (One' op _ a) w v d h = calm_first w v d (written.typed d) _ (calm_typed d) (row_goes a w v (written.typed d) h)
    node_goes (Two' op _ a _ b) w v d h =
        let k = then_ok (operand_walked a w) (operand_walked b) v h in
        calm_first w v d (written.typed d) _ (calm_typed d) (goes_then s numbers K code (row_goes a w k.0 (written.typed d) k.1) (row_goes b k.0 v (row_passed a (written.typed d)) k.2))
    node_goes (As' _ a t) w v d h = calm_first w v d (written.typed d) _ (calm_typed d) (row_goes a w v (written.typed d) h)

    row_goes : {n : _} (r : Row_of-Exp n) (w v : Walk) (d : Draft) → operand_walked r w ≡ Ok v → Moves w d v (row_passed r d)
    row_goes end_of-Exp w v d h = still w v d d (calm_same d) (Ok w) refl h
    row_goes (more_of-Exp p e rest) w v d h = node_goes e w v d h

  pub exp_goes : (e : Exp) (w v : Walk) (d : Draft) → exp_walked e w ≡ Ok v → Moves w d v (exp_passed e d)
  exp_goes e w v d h = node_goes e.node w v d h

  pub exps_go : (es : List Exp) (w v : Walk) (d : Draft) → exps_walked es w ≡ Ok v → Moves w d v (each exp_passed es d)
  unfolding each walk.each
  exps_go [] w v d h = still w v d d (calm_same d) (Ok w) refl h
  exps_go (e ∷ es) w v d h =
      let k = then_ok (exp_walked e w) (exps_walked es) v h in
      goes_then s numbers K code (exp_goes e w k.0 d k.1) (exps_go es k.0 v (exp_passed e d) k.2)

  pub if_exp_goes : (e : Option Exp) (w v : Walk) (d : Draft) → if_exp_walked e w ≡ Ok v → Moves w d v (if_exp_passed e d)
  if_exp_goes None w v d h = still w v d d (calm_same d) (Ok w) refl h
  if_exp_goes (Some e) w v d h = exp_goes e w v d h

  pub target_goes : (x : Target) (w v : Walk) (d : Draft) → target_walked x w ≡ Ok v → Moves w d v (target_passed x d)
  unfolding target_passed
  target_goes (target.Ext x) w v d h = named_goes s numbers K code role.Input x w v d h
  target_goes (target.Event x) w v d h = named_goes s numbers K code role.Event x w v d h
  target_goes (target.Time us) w v d h = still w v d d (calm_same d) (Ok w) refl h
  target_goes (target.TimeExp e u) w v d h = exp_goes e w v d h

  pub escape_goes : (l : Option Ident) (w v : Walk) (d : Draft) → escape_walked l w ≡ Ok v → Moves w d v d
  escape_goes None w v d h = still w v d d (calm_same d) (Ok w) refl h
  escape_goes (Some l) w v d h = subst (λ v. Moves w d v d) (checked_ok (label_broken w.labels l) l.pos w v h) (calm_goes s numbers K code w d d (calm_same d))

  -- ---- labels

  pub labelled_goes : (l : Label) (w : Walk) (d : Draft) → Moves w d (labelled l w) d
  labelled_goes label.Plain w d = calm_goes s numbers K code w d d (calm_same d)
  labelled_goes label.Under w d = calm_goes s numbers K code w d d (calm_same d)
  labelled_goes (label.Named l) w d = labels_goes s numbers K code (l.name ∷ w.labels) w d

  pub unlabelled_goes : (l : Label) (w v : Walk) (d : Draft) → unlabelled l w ≡ Ok v → Moves w d v d
  unlabelled_goes label.Plain w v d h = still w v d d (calm_same d) (Ok w) refl h
  unlabelled_goes label.Under w v d h = still w v d d (calm_same d) (Ok w) refl h
  unlabelled_goes (label.Named l) w v d h =
      let u : Walk = record w { labels = rest_of w.labels } in
      subst (λ v. Moves w d v d) (ok_is u v (Ok u) refl h) (labels_goes s numbers K code (rest_of w.labels) w d)

  -- ---- the list of an async

  pub list_goes : (xs : List Ident) (p q : List ℕ × Walk) (d : Draft) → walk.each name_listed xs p ≡ Ok q → Moves p.1 d q.1 (each name_passed xs d)
  unfolding each walk.each
  list_goes [] p q d h = still p.1 q.1 d d (calm_same d) (Ok p.1) refl (ap (λ (r : List ℕ × Walk). let y : Result Walk Broken = Ok r.1 in y) (ok_is p q (Ok p) refl h))
  list_goes (x ∷ xs) p q d h =
      let k = then_ok (name_listed x p) (walk.each name_listed xs) q h in
      let m = then_ok (used role.Listed x p.1) _ k.0 k.1 in
      let u = used_ok s numbers K code role.Listed x p.1 m.0 m.1 in
      let is : (added p.0 m.0.0.number, m.0.1) ≡ k.0 = ok_is (added p.0 m.0.0.number, m.0.1) k.0 (Ok (added p.0 m.0.0.number, m.0.1)) refl m.2 in
      let one : Moves p.1 d k.0.1 (uses.used d) = subst (λ v. Moves p.1 d v (uses.used d)) (ap (λ (r : List ℕ × Walk). r.1) is) (used_goes s numbers K code role.Listed x p.1 m.0.1 d u.0) in
      goes_then s numbers K code one (list_goes xs k.0 q (uses.used d) k.2)
