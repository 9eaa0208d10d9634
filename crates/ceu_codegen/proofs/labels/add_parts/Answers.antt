use Rattle.std.proofs.Common.{◌≡◌, sym, ap, subst, ◌∙◌, ℕ, List, [], ◌∷◌, ◌++◌, length, arith, append_assoc}
use Rattle.ceu_tree.specs.declared.kernel.KArm.{KArm}
use Rattle.ceu_tree.specs.declared.kernel.KBlock.{KBlock}
use Rattle.ceu_tree.specs.declared.kernel.KStmt.{KStmt}
use Rattle.ceu_tree.specs.declared.kernel.KStmt.TheBlock.{hidden-the_row-KArm-0}
use Rattle.ceu_shape.specs.Searches.{node_of_block}
use Rattle.ceu_shape.specs.Shape.{block_labels, expression_count, part_labels}
use Rattle.ceu_low_flow.proofs.Adding.{arms_counted}
use Rattle.ceu_low_par.specs.Conditions.{AreNodes, nodes_of}
use Rattle.ceu_low_par.proofs.Adding.{nodes_hidden}
use Rattle.ceu_codegen.specs.Conditions.{arms_nodes, part_nodes}
use Rattle.ceu_codegen.specs.Lists.{arm_list_labels, block_list_labels, nodes_of_arms}
use Rattle.ceu_codegen.proofs.Walks.{on_ok}
use Rattle.ceu_codegen.proofs.Levels.{arms_labelled, branches_labelled, arms_nodes_are}
use Rattle.ceu_codegen.proofs.Each.{are_append}
use Rattle.ceu_codegen.proofs.labels.add_parts.Goals as goal

if_nodes : (arms : List KArm) (last : KBlock) → AreNodes 65536 (arms_nodes (hidden-the_row-KArm-0 arms) ++ (node_of_block last ∷ [])) → AreNodes 65536 (nodes_of_arms arms) × AreNodes 65536 (nodes_of (last ∷ []))
if_nodes arms last h =
    let x = are_append 65536 (arms_nodes (hidden-the_row-KArm-0 arms)) (node_of_block last ∷ []) h in
    (subst (λ (ns : List ℕ). AreNodes 65536 ns) (arms_nodes_are arms) x.0, x.1)

pub add_arms-requires-clause-nodes : goal.add_arms-requires-clause-nodes
add_arms-requires-clause-nodes c =
    let h = if_nodes c.in-If.arms c.in-If.last (subst (λ (s : KStmt). AreNodes 65536 (part_nodes s)) c.in-If.is c.requires.nodes) in
    subst (λ (arms : List KArm). AreNodes 65536 (nodes_of_arms arms)) (sym c.items.ensures) h.0

pub add_arms-requires-clause-labels : goal.add_arms-requires-clause-labels
add_arms-requires-clause-labels c =
    let same = ap (length {A = KArm}) c.items.ensures in
    let counted = ap expression_count c.in-If.is ∙ arms_counted c.in-If.arms in
    omega (arith, same, counted, c.requires.labels)

pub add_block-requires-in-If : goal.add_block-requires-in-If
add_block-requires-in-If c = (if_nodes c.in-If.arms c.in-If.last (subst (λ (s : KStmt). AreNodes 65536 (part_nodes s)) c.in-If.is c.requires.nodes)).1

pub add_branches-requires : goal.add_branches-requires
add_branches-requires c =
    let h = subst (λ (s : KStmt). AreNodes 65536 (part_nodes s)) c.in-Par.is c.requires.nodes in
    subst (λ (ns : List ℕ). AreNodes 65536 ns) (nodes_hidden c.in-Par.branches ∙ ap nodes_of (sym c.items-in-Par.ensures)) h

pub returns-in_ok-add_arms-in-If : goal.returns-in_ok-add_arms-in-If
returns-in_ok-add_arms-in-If c =
    let fresh = c.args.fresh in
    let old = c.args.parts.now in
    let arms = c.in-If.arms in
    let last = block_labels c.in-If.last in
    let is : part_labels fresh c.args.stmt.now ≡ arm_list_labels fresh arms ++ last =
    ap (part_labels fresh) c.in-If.is ∙ ap (λ (ls : List ℕ). ls ++ last) (arms_labelled arms fresh) in
    on_ok c.add_block-in-If.result (λ e. e ∙ ap (λ (ls : List ℕ). ls ++ last) (c.in_ok-add_arms-in-If.ensures ∙ ap (λ (xs : List KArm). old ++ arm_list_labels fresh xs) c.items.ensures)
    ∙ append_assoc old (arm_list_labels fresh arms) last ∙ ap (λ (ls : List ℕ). old ++ ls) (sym is)) c.add_block-in-If.ensures

pub returns-in-Par : goal.returns-in-Par
returns-in-Par c =
    let fresh = c.args.fresh in
    let old = c.args.parts.now in
    let is : part_labels fresh c.args.stmt.now ≡ block_list_labels c.in-Par.branches = ap (part_labels fresh) c.in-Par.is ∙ branches_labelled c.in-Par.branches in
    on_ok c.add_branches.result (λ e. e ∙ ap (λ (bs : List KBlock). old ++ block_list_labels bs) c.items-in-Par.ensures ∙ ap (λ (ls : List ℕ). old ++ ls) (sym is)) c.add_branches.ensures
