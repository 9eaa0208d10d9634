-- What a part without statements leaves as it is.
use Rattle.std.proofs.Common.{◌≡◌, refl, ◌∙◌, ℕ, List, [], ◌∷◌, Option, Some, None}
use Rattle.ceu_tree.specs.declared.source.Ident.{Ident}
use Rattle.ceu_tree.specs.declared.source.Label.{Label}
use Rattle.ceu_tree.specs.declared.source.Label.TheVariants as label
use Rattle.ceu_tree.specs.declared.source.Exp.{Exp}
use Rattle.ceu_tree.specs.declared.source.ExpNode as exp
use Rattle.ceu_tree.specs.declared.source.ExpNode.{ExpNode, Row_of-Exp, end_of-Exp, more_of-Exp, One', Two', As'}
use Rattle.ceu_tree.specs.declared.source.Target.{Target}
use Rattle.ceu_tree.specs.declared.source.Target.TheVariants as target
use Rattle.ceu_expand.specs.declared.draft.Draft.{Draft}
use Rattle.ceu_expand.specs.Draft.{labelled, unlabelled, standing}
use Rattle.ceu_expand.specs.Lists.{each}
use Rattle.ceu_expand.specs.Uses.{used, if_used}
use Rattle.ceu_expand.specs.Expressions.{typed, node_passed, row_passed, exp_passed, if_exp_passed}
use Rattle.ceu_expand.specs.Parts.{target_passed}

-- a draft but for how much of the text is read, and for what declarations stand for
abbrev pub frame : Draft → Draft
frame d = record d { uses = 0; exps = 0; numbers = []; labels = []; inputs = []; outputs = []; events = [] }

pub frame_used : (d : Draft) → frame (used d) ≡ frame d
unfolding used
frame_used d = refl

pub frame_if_used : (x : Option Ident) (d : Draft) → frame (if_used x d) ≡ frame d
frame_if_used None d = refl
frame_if_used (Some x) d = frame_used d

pub frame_standing : (n : ℕ) (d : Draft) → frame (standing n d) ≡ frame d
unfolding standing
frame_standing n d = refl

pub frame_labelled : (l : Label) (n : ℕ) (d : Draft) → frame (labelled l n d) ≡ frame d
unfolding labelled
frame_labelled label.Plain n d = refl
frame_labelled label.Under n d = refl
frame_labelled (label.Named x) n d = refl

pub frame_unlabelled : (l : Label) (d : Draft) → frame (unlabelled l d) ≡ frame d
unfolding unlabelled
frame_unlabelled label.Plain d = refl
frame_unlabelled label.Under d = refl
frame_unlabelled (label.Named x) d = refl

mutual
  unfolding node_passed used typed

  frame_node : (e : ExpNode) (d : Draft) → frame (node_passed e d) ≡ frame d
  frame_node (exp.Number n) d = refl
  frame_node (exp.Bool b) d = refl
  frame_node (exp.Var x) d = refl
  frame_node (exp.Alive x) d = refl
  frame_node (One' op _ a) d = frame_row a (typed d)
  frame_node (Two' op _ a _ b) d = frame_row b (row_passed a (typed d)) ∙ frame_row a (typed d)
  frame_node (As' _ a t) d = frame_row a (typed d)

  frame_row : {n : _} (r : Row_of-Exp n) (d : Draft) → frame (row_passed r d) ≡ frame d
  frame_row end_of-Exp d = refl
  frame_row (more_of-Exp p e rest) d = frame_node e d

pub frame_exp : (e : Exp) (d : Draft) → frame (exp_passed e d) ≡ frame d
frame_exp e d = frame_node e.node d

pub frame_if_exp : (e : Option Exp) (d : Draft) → frame (if_exp_passed e d) ≡ frame d
frame_if_exp None d = refl
frame_if_exp (Some e) d = frame_exp e d

pub frame_each : {A : Type 0} (pass : A → Draft → Draft) → ((x : A) (d : Draft) → frame (pass x d) ≡ frame d) → (xs : List A) (d : Draft) → frame (each pass xs d) ≡ frame d
unfolding each
frame_each pass h [] d = refl
frame_each pass h (x ∷ xs) d = frame_each pass h xs (pass x d) ∙ h x d

pub frame_target : (x : Target) (d : Draft) → frame (target_passed x d) ≡ frame d
unfolding target_passed
frame_target (target.Ext x) d = frame_used d
frame_target (target.Event x) d = frame_used d
frame_target (target.Time us) d = refl
frame_target (target.TimeExp e u) d = frame_exp e d
