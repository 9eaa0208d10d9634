-- Events that belong to codes below a number, and what keeps them so.
use Rattle.std.proofs.Common.{ℕ, List, [], ◌∷◌, Option, Some, None}
use Rattle.ceu_base.specs.declared.kinds.Ty.{Ty}
use Rattle.ceu_base.specs.declared.kinds.Pos.{Pos}
use Rattle.ceu_tree.specs.declared.source.Ident.{Ident}
use Rattle.ceu_tree.specs.declared.source.Label.{Label}
use Rattle.ceu_tree.specs.declared.source.Label.TheVariants as label
use Rattle.ceu_tree.specs.declared.source.Exp.{Exp}
use Rattle.ceu_tree.specs.declared.source.ExpNode as exp
use Rattle.ceu_tree.specs.declared.source.ExpNode.{ExpNode, Row_of-Exp, end_of-Exp, more_of-Exp, One', Two', As'}
use Rattle.ceu_tree.specs.declared.source.Target.{Target}
use Rattle.ceu_tree.specs.declared.source.Target.TheVariants as target
use Rattle.ceu_tree.specs.declared.kernel.KKind.{KKind}
use Rattle.ceu_tree.specs.declared.kernel.KStmt.{KStmt}
use Rattle.ceu_expand.specs.declared.draft.Draft.{Draft}
use Rattle.ceu_expand.specs.Draft.{begun, hidden, placed, opened, closed, around_block, standing, declared, event_declared, input_declared, output_declared, labelled, unlabelled}
use Rattle.ceu_expand.specs.Lists.{each}
use Rattle.ceu_expand.specs.Uses.{used, if_used}
use Rattle.ceu_expand.specs.Expressions.{typed, node_passed, row_passed, exp_passed, if_exp_passed}
use Rattle.ceu_expand.specs.Parts.{target_passed}
use Rattle.laws_kernel_shape.specs.Shaped.{AllOf}
use Rattle.laws_kernel_shape.specs.Events.{CodeBelow, EventBelow}
use Rattle.laws_kernel_shape.proofs.Good.{all_append}

module _ (m : ℕ) where
  abbrev pub Below : Draft → Type 0
  Below d = AllOf (EventBelow m) d.events

  pub below_used : (d : Draft) → Below d → Below (used d)
  unfolding used
  below_used d h = h

  pub below_begun : (d : Draft) → Below d → Below (begun d)
  unfolding begun
  below_begun d h = h

  pub below_hidden : (n : ℕ) (d : Draft) → Below d → Below (hidden n d)
  unfolding hidden
  below_hidden n d h = h

  pub below_standing : (n : ℕ) (d : Draft) → Below d → Below (standing n d)
  unfolding standing
  below_standing n d h = h

  pub below_typed : (d : Draft) → Below d → Below (typed d)
  unfolding typed
  below_typed d h = h

  pub below_declared : (k : KKind) (x : Ident) (d : Draft) → Below d → Below (declared k x d)
  unfolding declared
  below_declared k x d h = h

  pub below_input : (t : Ty) (x : Ident) (d : Draft) → Below d → Below (input_declared t x d)
  unfolding input_declared
  below_input t x d h = h

  pub below_output : (t : Ty) (x : Ident) (d : Draft) → Below d → Below (output_declared t x d)
  unfolding output_declared
  below_output t x d h = h

  pub below_placed : (n : ℕ) (p : Pos) (st : KStmt) (d : Draft) → Below d → Below (placed n p st d)
  unfolding placed
  below_placed n p st d h = h

  pub below_opened : (n : ℕ) (d : Draft) → Below d → Below (opened n d)
  unfolding opened
  below_opened n d h = h

  pub below_closed : (n : ℕ) (f : Draft → Draft) (d : Draft) → Below (f (opened n d)) → Below (around_block n f d)
  unfolding closed
  below_closed n f d h = h

  pub below_event : (code : Option ℕ) (t : Ty) (x : Ident) (d : Draft) → CodeBelow m code → Below d → Below (event_declared code t x d)
  unfolding event_declared
  below_event code t x d p h = all_append (EventBelow m) d.events _ h p

  pub below_if_used : (x : Option Ident) (d : Draft) → Below d → Below (if_used x d)
  below_if_used None d h = h
  below_if_used (Some x) d h = below_used d h

  pub below_labelled : (l : Label) (n : ℕ) (d : Draft) → Below d → Below (labelled l n d)
  unfolding labelled
  below_labelled label.Plain n d h = h
  below_labelled label.Under n d h = h
  below_labelled (label.Named x) n d h = h

  pub below_unlabelled : (l : Label) (d : Draft) → Below d → Below (unlabelled l d)
  unfolding unlabelled
  below_unlabelled label.Plain d h = h
  below_unlabelled label.Under d h = h
  below_unlabelled (label.Named x) d h = h

  mutual
    unfolding node_passed

    below_node : (e : ExpNode) (d : Draft) → Below d → Below (node_passed e d)
    below_node (exp.Number n) d h = below_typed d h
    below_node (exp.Bool b) d h = below_typed d h
    below_node (exp.Var x) d h = below_used (typed d) (below_typed d h)
    below_node (exp.Alive x) d h = below_used (typed d) (below_typed d h)
    below_node (One' op _ a) d h = below_row a (typed d) (below_typed d h)
    below_node (Two' op _ a _ b) d h = below_row b (row_passed a (typed d)) (below_row a (typed d) (below_typed d h))
    below_node (As' _ a t) d h = below_row a (typed d) (below_typed d h)

    below_row : {n : _} (r : Row_of-Exp n) (d : Draft) → Below d → Below (row_passed r d)
    below_row end_of-Exp d h = h
    below_row (more_of-Exp p e rest) d h = below_node e d h

  pub below_exp : (e : Exp) (d : Draft) → Below d → Below (exp_passed e d)
  below_exp e d h = below_node e.node d h

  pub below_if_exp : (e : Option Exp) (d : Draft) → Below d → Below (if_exp_passed e d)
  below_if_exp None d h = h
  below_if_exp (Some e) d h = below_exp e d h

  pub below_each : {A : Type 0} (pass : A → Draft → Draft) → ((x : A) (d : Draft) → Below d → Below (pass x d)) → (xs : List A) (d : Draft) → Below d → Below (each pass xs d)
  unfolding each
  below_each pass h [] d g = g
  below_each pass h (x ∷ xs) d g = below_each pass h xs (pass x d) (h x d g)

  pub below_target : (x : Target) (d : Draft) → Below d → Below (target_passed x d)
  unfolding target_passed
  below_target (target.Ext x) d h = below_used d h
  below_target (target.Event x) d h = below_used d h
  below_target (target.Time us) d h = h
  below_target (target.TimeExp e u) d h = below_exp e d h
