-- A draft whose parts so far are well shaped, and what keeps it so.
use Rattle.std.proofs.Common.{◌≡◌, refl, sym, ap, ◌∙◌, subst, ℕ, suc, length, List, [], ◌∷◌, ◌++◌, Option, Some, None}
use Rattle.ceu_base.specs.declared.kinds.Ty.{Ty}
use Rattle.ceu_base.specs.declared.kinds.Pos.{Pos}
use Rattle.ceu_tree.specs.declared.source.Ident.{Ident}
use Rattle.ceu_tree.specs.declared.source.Label.{Label}
use Rattle.ceu_tree.specs.declared.source.Label.TheVariants as label
use Rattle.ceu_tree.specs.declared.source.Exp.{Exp}
use Rattle.ceu_tree.specs.declared.source.ExpNode as exp
use Rattle.ceu_tree.specs.declared.source.ExpNode.{ExpNode, Row_of-Exp, end_of-Exp, more_of-Exp, One', Two', As'}
use Rattle.ceu_tree.specs.declared.source.Target.{Target}
use Rattle.ceu_tree.specs.declared.source.Target.TheVariants as target
use Rattle.ceu_tree.specs.declared.kernel.KNode.{KNode}
use Rattle.ceu_tree.specs.declared.kernel.KDecl.{KDecl}
use Rattle.ceu_tree.specs.declared.kernel.KKind.{KKind}
use Rattle.ceu_tree.specs.declared.kernel.KArm.{KArm}
use Rattle.ceu_tree.specs.declared.kernel.ParKind.{ParKind}
use Rattle.ceu_tree.specs.declared.kernel.KBlock.{KBlock, roll-KBlock, Row_of-KNode, end_of-KNode, more_of-KNode, items-the_row-KNode, items_hidden-the_row-KNode-2}
use Rattle.ceu_tree.specs.declared.kernel.KStmt as kernel
use Rattle.ceu_tree.specs.declared.kernel.KStmt.{KStmt, Row_of-KArm, end_of-KArm, more_of-KArm, items-the_row-KArm, items_hidden-the_row-KArm-0, items_hidden-the_row-KBlock-1, Row_of-KBlock, end_of-KBlock, more_of-KBlock, items-the_row-KBlock}
use Rattle.ceu_tree.specs.declared.kernel.KStmt.TheBlock.{hidden-the_row-KArm-0, hidden-the_row-KBlock-1, hidden-the_row-KNode-2}
use Rattle.ceu_tree.specs.Numbering.{row_length}
use Rattle.ceu_expand.specs.declared.draft.Draft.{Draft}
use Rattle.ceu_expand.specs.Draft.{begun, hidden, placed, outside, opened, written, closed, block_of, around_block, standing, declared, event_declared, input_declared, output_declared, labelled, unlabelled}
use Rattle.ceu_expand.specs.Lists.{each}
use Rattle.ceu_expand.specs.Uses.{used, if_used}
use Rattle.ceu_expand.specs.Expressions.{typed, node_passed, row_passed, exp_passed, if_exp_passed}
use Rattle.ceu_expand.specs.Parts.{nothing_in, target_passed}
use Rattle.laws_kernel_shape.specs.Shaped.{AllOf, IsPlace, KindShaped, DeclShaped, ParShaped, StmtShaped, BlockShaped, ArmShaped, NodesShaped, ArmsShaped, BlocksShaped, CodeShaped, EventShaped, NamePlaced}
use denote.Hole.Carrier

abbrev pub NodeShaped : KNode → Type 0
NodeShaped x = IsPlace x.pos × StmtShaped x.stmt

pub record Good (d : Draft) : Type 0 where
  pub decls : AllOf DeclShaped d.parts.decls
  pub list : AllOf NodeShaped d.parts.list
  pub codes : AllOf CodeShaped d.codes
  pub events : AllOf EventShaped d.events

pub all_append : {A : Type 0} (P : A → Type 0) (xs : List A) (x : A) → AllOf P xs → P x → AllOf P (xs ++ x ∷ [])
all_append P [] x h p = (p, tt)
all_append P (y ∷ ys) x h p = (h.0, all_append P ys x h.1 p)

-- ---- lists of a kernel

nodes_row : {n : _} (r : Row_of-KNode n) → AllOf NodeShaped (items-the_row-KNode n r) → NodesShaped r
unfolding StmtShaped
nodes_row end_of-KNode h = tt
nodes_row (more_of-KNode n p s rest) h = (h.0, nodes_row rest h.1)

arms_row : {n : _} (r : Row_of-KArm n) → AllOf ArmShaped (items-the_row-KArm n r) → ArmsShaped r
unfolding StmtShaped
arms_row end_of-KArm h = tt
arms_row (more_of-KArm a rest) h = (h.0, arms_row rest h.1)

blocks_row : {n : _} (r : Row_of-KBlock n) → AllOf BlockShaped (items-the_row-KBlock n r) → BlocksShaped r
unfolding StmtShaped
blocks_row end_of-KBlock h = tt
blocks_row (more_of-KBlock b rest) h = (h.0, blocks_row rest h.1)

blocks_length : {n : _} (r : Row_of-KBlock n) → row_length r ≡ length (items-the_row-KBlock n r)
blocks_length end_of-KBlock = refl
blocks_length (more_of-KBlock b rest) = ap suc (blocks_length rest)

rolled_shaped : (n : ℕ) (ds : List KDecl) (list : List KNode) → AllOf DeclShaped ds → AllOf NodeShaped list → BlockShaped (roll-KBlock (record { node = n; decls = ds; list = list }))
unfolding StmtShaped roll-KBlock Carrier.roll
rolled_shaped n ds list h k = (h, nodes_row (hidden-the_row-KNode-2 list) (subst (AllOf NodeShaped) (sym (items_hidden-the_row-KNode-2 list)) k))

pub if_shaped : (arms : List KArm) (last : KBlock) → AllOf ArmShaped arms → BlockShaped last → StmtShaped (kernel.If arms last)
unfolding StmtShaped
if_shaped arms last h k = (arms_row (hidden-the_row-KArm-0 arms) (subst (AllOf ArmShaped) (sym (items_hidden-the_row-KArm-0 arms)) h), k)

pub par_shaped : (kind : ParKind) (slot : ℕ) (bs : List KBlock) → ParShaped kind slot (length bs) → AllOf BlockShaped bs → StmtShaped (kernel.Par kind slot bs)
unfolding StmtShaped
par_shaped kind slot bs ok h =
    let count = blocks_length (hidden-the_row-KBlock-1 bs) ∙ ap length (items_hidden-the_row-KBlock-1 bs) in
    (subst (λ n. ParShaped kind slot n) (sym count) ok, blocks_row (hidden-the_row-KBlock-1 bs) (subst (AllOf BlockShaped) (sym (items_hidden-the_row-KBlock-1 bs)) h))

-- ---- steps

pub good_used : (d : Draft) → Good d → Good (used d)
unfolding used
good_used d h = record { decls = h.decls; list = h.list; codes = h.codes; events = h.events }

pub good_if_used : (x : Option Ident) (d : Draft) → Good d → Good (if_used x d)
good_if_used None d h = h
good_if_used (Some x) d h = good_used d h

pub good_begun : (d : Draft) → Good d → Good (begun d)
unfolding begun
good_begun d h = record { decls = h.decls; list = h.list; codes = h.codes; events = h.events }

pub good_hidden : (n : ℕ) (d : Draft) → Good d → Good (hidden n d)
unfolding hidden
good_hidden n d h = record { decls = h.decls; list = h.list; codes = h.codes; events = h.events }

pub good_standing : (n : ℕ) (d : Draft) → Good d → Good (standing n d)
unfolding standing
good_standing n d h = record { decls = h.decls; list = h.list; codes = h.codes; events = h.events }

pub good_labelled : (l : Label) (n : ℕ) (d : Draft) → Good d → Good (labelled l n d)
unfolding labelled
good_labelled label.Plain n d h = h
good_labelled label.Under n d h = h
good_labelled (label.Named x) n d h = record { decls = h.decls; list = h.list; codes = h.codes; events = h.events }

pub good_unlabelled : (l : Label) (d : Draft) → Good d → Good (unlabelled l d)
unfolding unlabelled
good_unlabelled label.Plain d h = h
good_unlabelled label.Under d h = h
good_unlabelled (label.Named x) d h = record { decls = h.decls; list = h.list; codes = h.codes; events = h.events }

good_typed : (d : Draft) → Good d → Good (typed d)
unfolding typed
good_typed d h = record { decls = h.decls; list = h.list; codes = h.codes; events = h.events }

mutual
  unfolding node_passed

  good_node : (e : ExpNode) (d : Draft) → Good d → Good (node_passed e d)
  good_node (exp.Number n) d h = good_typed d h
  good_node (exp.Bool b) d h = good_typed d h
  good_node (exp.Var x) d h = good_used (typed d) (good_typed d h)
  good_node (exp.Alive x) d h = good_used (typed d) (good_typed d h)
  good_node (One' op _ a) d h = good_row a (typed d) (good_typed d h)
  good_node (Two' op _ a _ b) d h = good_row b (row_passed a (typed d)) (good_row a (typed d) (good_typed d h))
  good_node (As' _ a t) d h = good_row a (typed d) (good_typed d h)

  good_row : {n : _} (r : Row_of-Exp n) (d : Draft) → Good d → Good (row_passed r d)
  good_row end_of-Exp d h = h
  good_row (more_of-Exp p e rest) d h = good_node e d h

pub good_exp : (e : Exp) (d : Draft) → Good d → Good (exp_passed e d)
good_exp e d h = good_node e.node d h

pub good_if_exp : (e : Option Exp) (d : Draft) → Good d → Good (if_exp_passed e d)
good_if_exp None d h = h
good_if_exp (Some e) d h = good_exp e d h

pub good_each : {A : Type 0} (P : A → Type 0) (pass : A → Draft → Draft) → ((x : A) (d : Draft) → P x → Good d → Good (pass x d)) → (xs : List A) (d : Draft) → AllOf P xs → Good d → Good (each pass xs d)
unfolding each
good_each P pass h [] d p g = g
good_each P pass h (x ∷ xs) d p g = good_each P pass h xs (pass x d) p.1 (h x d p.0 g)

pub good_exps : (es : List Exp) (d : Draft) → Good d → Good (each exp_passed es d)
unfolding each
good_exps [] d h = h
good_exps (e ∷ es) d h = good_exps es (exp_passed e d) (good_exp e d h)

pub good_target : (x : Target) (d : Draft) → Good d → Good (target_passed x d)
unfolding target_passed
good_target (target.Ext x) d h = good_used d h
good_target (target.Event x) d h = good_used d h
good_target (target.Time us) d h = h
good_target (target.TimeExp e u) d h = good_exp e d h

pub good_declared : (k : KKind) (x : Ident) (d : Draft) → IsPlace x.pos → KindShaped k → Good d → Good (declared k x d)
unfolding declared
good_declared k x d p q h =
    record { decls = all_append DeclShaped d.parts.decls _ h.decls (p, q); list = h.list; codes = h.codes; events = h.events }

pub good_event : (code : Option ℕ) (t : Ty) (x : Ident) (d : Draft) → NamePlaced x → Good d → Good (event_declared code t x d)
unfolding event_declared
good_event code t x d p h = record { decls = h.decls; list = h.list; codes = h.codes; events = all_append EventShaped d.events _ h.events p }

pub good_inputs : (t : Ty) (xs : List Ident) (d : Draft) → Good d → Good (each (input_declared t) xs d)
unfolding each input_declared
good_inputs t [] d h = h
good_inputs t (x ∷ xs) d h = good_inputs t xs (input_declared t x d) (record { decls = h.decls; list = h.list; codes = h.codes; events = h.events })

pub good_outputs : (t : Ty) (xs : List Ident) (d : Draft) → Good d → Good (each (output_declared t) xs d)
unfolding each output_declared
good_outputs t [] d h = h
good_outputs t (x ∷ xs) d h = good_outputs t xs (output_declared t x d) (record { decls = h.decls; list = h.list; codes = h.codes; events = h.events })

pub good_placed : (n : ℕ) (p : Pos) (st : KStmt) (d : Draft) → IsPlace p → StmtShaped st → Good d → Good (placed n p st d)
unfolding placed
good_placed n p st d h k g = record { decls = g.decls; list = all_append NodeShaped d.parts.list _ g.list (h, k); codes = g.codes; events = g.events }

-- ---- blocks

pub good_opened : (n : ℕ) (d : Draft) → Good d → Good (opened n d)
unfolding opened
good_opened n d h = record { decls = tt; list = tt; codes = h.codes; events = h.events }

pub good_written : (n : ℕ) (f : Draft → Draft) (d : Draft) → Good (f (opened n d)) → BlockShaped (block_of n f d)
unfolding outside written
good_written n f d h = rolled_shaped d.node (f (opened n d)).parts.decls (f (opened n d)).parts.list h.decls h.list

pub good_closed : (n : ℕ) (f : Draft → Draft) (d : Draft) → Good d → Good (f (opened n d)) → Good (around_block n f d)
unfolding outside closed
good_closed n f d h k = record { decls = h.decls; list = h.list; codes = k.codes; events = k.events }

pub good_empty : (d : Draft) → Good d → BlockShaped (block_of 0 nothing_in d)
good_empty d h = good_written 0 nothing_in d (good_opened 0 d h)

pub good_empty_closed : (d : Draft) → Good d → Good (around_block 0 nothing_in d)
good_empty_closed d h = good_closed 0 nothing_in d h (good_opened 0 d h)
