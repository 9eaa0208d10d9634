-- One level of the drafts, the conditions and the room of a statement's parts, as the code builds it, and blocks by the lists that the code sees.
use Rattle.std.proofs.Common.{◌≡◌, refl, sym, ap, subst, ◌∙◌, ℕ, suc, zero, ◌+◌, List, ◌∷◌, ◌++◌}
use Rattle.ceu_tree.specs.declared.kernel.Kernel.{Kernel}
use Rattle.ceu_tree.specs.declared.kernel.KDecl.{KDecl}
use Rattle.ceu_tree.specs.declared.kernel.KNode.{KNode}
use Rattle.ceu_tree.specs.declared.kernel.KArm.{KArm, KArm', out-KArm}
use Rattle.ceu_tree.specs.declared.kernel.KBlock.{KBlock, KBlock', out-KBlock, Row_of-KNode, end_of-KNode, more_of-KNode, items-the_row-KNode, items_shown-the_row-KNode-2}
use Rattle.ceu_tree.specs.declared.kernel.KStmt as k
use Rattle.ceu_tree.specs.declared.kernel.KStmt.{KStmt, Row_of-KArm, end_of-KArm, more_of-KArm, items-the_row-KArm, items_hidden-the_row-KArm-0, items_hidden-the_row-KBlock-1, Row_of-KBlock, end_of-KBlock, more_of-KBlock, items-the_row-KBlock}
use Rattle.ceu_tree.specs.declared.kernel.KStmt.TheBlock.{hidden-the_row-KArm-0, hidden-the_row-KBlock-1}
use Rattle.ceu_tree.specs.Greatest.{total}
use Rattle.ceu_tree.specs.Needs.{finalizers, node_finalizers, nodes_finalizers}
use Rattle.ceu_tree.specs.Weight.{stmt_weight, block_weight, blocks_weight, branch_weight, exp_count}
use Rattle.ceu_asm.specs.declared.line.Line.{Line}
use Rattle.ceu_gates.specs.declared.plan.GatePlan.{GatePlan}
use Rattle.ceu_slots.specs.Plans.{Planned}
use Rattle.ceu_shape.specs.Plans.{Plan, own_label}
use Rattle.ceu_shape.specs.Pieces.{Draft, both, text}
use Rattle.ceu_shape.specs.Words.{mark}
use Rattle.ceu_shape.specs.Searches.{node_of_block}
use Rattle.ceu_shape.specs.Shape.{arm_block, arms_labels, branches_labels, block_labels, move_lines, block_begin, block_end, with_parts, parts_draft, block_draft, arm_parts, nodes_draft, arms_parts, blocks_parts, to_end, exp_part, own_gates, pool_lines, abort_own}
use Rattle.ceu_low_expr.specs.Conditions.{NamesBelow}
use Rattle.ceu_codegen.specs.Conditions.{OwnFits, PartsFit, BlockFits, ArmFits, NodesFit, ArmsFit, BlocksFit, arms_nodes}
use Rattle.ceu_codegen.specs.Rooms.{arm_room, arms_room, parts_room}
use Rattle.ceu_codegen.specs.Lists.{arm_list_labels, block_list_labels, nodes_of_arms, one_draft, node_list_draft, arm_list_draft, block_list_draft, move_list, begin_list, end_list, NodeListFits, ArmListFits, BlockListFits}
use denote.Hole.Carrier

-- ---- blocks

pub node_is : (b : KBlock) → node_of_block b ≡ (out-KBlock b).node
unfolding out-KBlock Carrier.out
node_is (KBlock' n ds x list) = refl

pub arm_block_is : (a : KArm) → arm_block a ≡ (out-KArm a).body
unfolding out-KArm Carrier.out
arm_block_is (KArm' c b) = refl

finalizers_row : {n : _} (r : Row_of-KNode n) → nodes_finalizers r ≡ total node_finalizers (items-the_row-KNode n r)
unfolding nodes_finalizers
finalizers_row end_of-KNode = refl
finalizers_row (more_of-KNode n p s rest) = ap (λ k. finalizers s + k) (finalizers_row rest)

module _ (P : Plan) (K : Kernel) where
  nodes_row : {n : _} (r : Row_of-KNode n) → nodes_draft P K r ≡ node_list_draft P K (items-the_row-KNode n r)
  unfolding parts_draft one_draft
  nodes_row end_of-KNode = refl
  nodes_row (more_of-KNode n p s rest) = ap (λ (d : Draft). both (with_parts P K n p s (parts_draft P K s)) d) (nodes_row rest)

  arms_row : {n : _} (r : Row_of-KArm n) (begin : ℕ) → arms_parts P K r begin ≡ arm_list_draft P K begin (items-the_row-KArm n r)
  unfolding parts_draft
  arms_row end_of-KArm begin = refl
  arms_row (more_of-KArm a rest) begin = ap (λ (d : Draft). both (arm_parts P K a begin) d) (arms_row rest (begin + 2))

  blocks_row : {n : _} (r : Row_of-KBlock n) → blocks_parts P K r ≡ block_list_draft P K (items-the_row-KBlock n r)
  unfolding parts_draft
  blocks_row end_of-KBlock = refl
  blocks_row (more_of-KBlock b rest) = ap (λ (d : Draft). both (to_end P K b (block_draft P K b)) d) (blocks_row rest)

  move_row : {m : _} (n gates : ℕ) (r : Row_of-KNode m) → move_lines P K n gates r ≡ move_list P K n gates (items-the_row-KNode m r)
  move_row n zero r = refl
  move_row n (suc g) end_of-KNode = refl
  move_row n (suc g) (more_of-KNode m p s rest) = refl

  begin_row : {m : _} (n : ℕ) (ds : List KDecl) (r : Row_of-KNode m) → mark (own_label n) ∷ block_begin P K n ds r ≡ begin_list P K n ds (items-the_row-KNode m r)
  begin_row {m} n ds r =
      ap (λ (f : ℕ). mark (own_label n) ∷ (move_lines P K n (own_gates P K f ds) r ++ pool_lines P K (P.first n + f) ds)) (finalizers_row r)
      ∙ ap (λ (ls : List Line). mark (own_label n) ∷ (ls ++ pool_lines P K (P.first n + total node_finalizers (items-the_row-KNode m r)) ds)) (move_row n (own_gates P K (total node_finalizers (items-the_row-KNode m r)) ds) r)

  -- a block by its fields
  abbrev pub by_lists : (node : ℕ) → List KDecl → List KNode → Draft
  by_lists n ds list = both (text (begin_list P K n ds list)) (both (node_list_draft P K list) (text (end_list P K n ds list)))

  block_row : {m : _} (n : ℕ) (ds : List KDecl) (r : Row_of-KNode m) →
      both (text (mark (own_label n) ∷ block_begin P K n ds r)) (both (nodes_draft P K r) (text (block_end P K n ds r))) ≡ by_lists n ds (items-the_row-KNode m r)
  block_row {m} n ds r =
      ap (λ (ls : List Line). both (text ls) (both (nodes_draft P K r) (text (block_end P K n ds r)))) (begin_row n ds r)
      ∙ ap (λ (d : Draft). both (text (begin_list P K n ds (items-the_row-KNode m r))) (both d (text (block_end P K n ds r)))) (nodes_row r)
      ∙ ap (λ (f : ℕ). both (text (begin_list P K n ds (items-the_row-KNode m r))) (both (node_list_draft P K (items-the_row-KNode m r)) (text (abort_own P K n (own_gates P K f ds))))) (finalizers_row r)

  pub block_is : (b : KBlock) → block_draft P K b ≡ by_lists (out-KBlock b).node (out-KBlock b).decls (out-KBlock b).list
  unfolding parts_draft out-KBlock Carrier.out
  block_is (KBlock' n ds x list) = block_row n ds list ∙ ap (by_lists n ds) (sym (items_shown-the_row-KNode-2 x list))

  pub arm_is : (a : KArm) (begin : ℕ) → arm_parts P K a begin ≡ both (exp_part P K begin (out-KArm a).cond) (to_end P K (out-KArm a).body (block_draft P K (out-KArm a).body))
  unfolding parts_draft out-KArm Carrier.out
  arm_is (KArm' c b) begin = refl

  pub if_is : (arms : List KArm) (last : KBlock) (begin : ℕ) → parts_draft P K (k.If arms last) begin ≡ both (arm_list_draft P K begin arms) (to_end P K last (block_draft P K last))
  unfolding parts_draft
  if_is arms last begin =
      ap (λ (d : Draft). both d (to_end P K last (block_draft P K last)))
      (arms_row (hidden-the_row-KArm-0 arms) begin ∙ ap (arm_list_draft P K begin) (items_hidden-the_row-KArm-0 arms))

  pub par_is : (kind : _) (slot : ℕ) (bs : List KBlock) (begin : ℕ) → parts_draft P K (k.Par kind slot bs) begin ≡ block_list_draft P K bs
  unfolding parts_draft
  par_is kind slot bs begin = blocks_row (hidden-the_row-KBlock-1 bs) ∙ ap (block_list_draft P K) (items_hidden-the_row-KBlock-1 bs)

-- ---- conditions

module _ (p : Planned) (g : GatePlan) (K : Kernel) where
  nodes_fit_row : {n : _} (r : Row_of-KNode n) → NodesFit p g K r → NodeListFits p g K (items-the_row-KNode n r)
  unfolding PartsFit
  nodes_fit_row end_of-KNode h = h
  nodes_fit_row (more_of-KNode n q s rest) h = (h.0, nodes_fit_row rest h.1)

  arms_fit_row : {n : _} (r : Row_of-KArm n) → ArmsFit p g K r → ArmListFits p g K (items-the_row-KArm n r)
  unfolding PartsFit
  arms_fit_row end_of-KArm h = h
  arms_fit_row (more_of-KArm a rest) h = (h.0, arms_fit_row rest h.1)

  blocks_fit_row : {n : _} (r : Row_of-KBlock n) → BlocksFit p g K r → BlockListFits p g K (items-the_row-KBlock n r)
  unfolding PartsFit
  blocks_fit_row end_of-KBlock h = h
  blocks_fit_row (more_of-KBlock b rest) h = (h.0, blocks_fit_row rest h.1)

  pub block_own_fits : (b : KBlock) → BlockFits p g K b → OwnFits p g K (out-KBlock b).node (out-KBlock b).decls (total node_finalizers (out-KBlock b).list)
  unfolding PartsFit out-KBlock Carrier.out
  block_own_fits (KBlock' n ds x list) h =
      subst (λ (f : ℕ). OwnFits p g K n ds f) (finalizers_row list ∙ ap (total node_finalizers) (sym (items_shown-the_row-KNode-2 x list))) h.0

  pub block_nodes_fit : (b : KBlock) → BlockFits p g K b → NodeListFits p g K (out-KBlock b).list
  unfolding PartsFit out-KBlock Carrier.out
  block_nodes_fit (KBlock' n ds x list) h = subst (λ (xs : List KNode). NodeListFits p g K xs) (sym (items_shown-the_row-KNode-2 x list)) (nodes_fit_row list h.1)

  pub arm_cond_fits : (a : KArm) → ArmFits p g K a → NamesBelow p.slot_count (out-KArm a).cond
  unfolding PartsFit out-KArm Carrier.out
  arm_cond_fits (KArm' c b) h = h.0

  pub arm_body_fits : (a : KArm) → ArmFits p g K a → BlockFits p g K (out-KArm a).body
  unfolding PartsFit out-KArm Carrier.out
  arm_body_fits (KArm' c b) h = h.1

  pub if_arms_fit : (arms : List KArm) (last : KBlock) → PartsFit p g K (k.If arms last) → ArmListFits p g K arms
  unfolding PartsFit
  if_arms_fit arms last h = subst (λ (xs : List KArm). ArmListFits p g K xs) (items_hidden-the_row-KArm-0 arms) (arms_fit_row (hidden-the_row-KArm-0 arms) h.0)

  pub if_last_fits : (arms : List KArm) (last : KBlock) → PartsFit p g K (k.If arms last) → BlockFits p g K last
  unfolding PartsFit
  if_last_fits arms last h = h.1

  pub par_fits : (kind : _) (slot : ℕ) (bs : List KBlock) → PartsFit p g K (k.Par kind slot bs) → BlockListFits p g K bs
  unfolding PartsFit
  par_fits kind slot bs h = subst (λ (xs : List KBlock). BlockListFits p g K xs) (items_hidden-the_row-KBlock-1 bs) (blocks_fit_row (hidden-the_row-KBlock-1 bs) h)

-- ---- room

arms_room_row : {n : _} (r : Row_of-KArm n) → arms_room r ≡ total arm_room (items-the_row-KArm n r)
arms_room_row end_of-KArm = refl
arms_room_row (more_of-KArm a rest) = ap (λ k. arm_room a + k) (arms_room_row rest)

pub room_of_if : (arms : List KArm) (last : KBlock) → parts_room (k.If arms last) ≡ total arm_room arms + block_weight last
unfolding parts_room
room_of_if arms last = ap (λ n. n + block_weight last) (arms_room_row (hidden-the_row-KArm-0 arms) ∙ ap (total arm_room) (items_hidden-the_row-KArm-0 arms))

blocks_weight_row : {n : _} (r : Row_of-KBlock n) → blocks_weight r ≡ total branch_weight (items-the_row-KBlock n r)
unfolding stmt_weight
blocks_weight_row end_of-KBlock = refl
blocks_weight_row (more_of-KBlock b rest) = ap (λ n. 48 + block_weight b + n) (blocks_weight_row rest)

pub room_of_par : (kind : _) (slot : ℕ) (bs : List KBlock) → parts_room (k.Par kind slot bs) ≡ total branch_weight bs
unfolding parts_room
room_of_par kind slot bs = blocks_weight_row (hidden-the_row-KBlock-1 bs) ∙ ap (total branch_weight) (items_hidden-the_row-KBlock-1 bs)

pub room_of_arm : (a : KArm) → arm_room a ≡ exp_count (out-KArm a).cond + block_weight (out-KArm a).body
unfolding out-KArm Carrier.out
room_of_arm (KArm' c b) = refl

-- ---- labels

arms_labels_row : {n : _} (r : Row_of-KArm n) (fresh : ℕ) → arms_labels fresh r ≡ arm_list_labels fresh (items-the_row-KArm n r)
arms_labels_row end_of-KArm fresh = refl
arms_labels_row (more_of-KArm a rest) fresh = ap (λ (ls : List ℕ). fresh ∷ (fresh + 1) ∷ (block_labels (arm_block a) ++ ls)) (arms_labels_row rest (fresh + 2))

pub arms_labelled : (arms : List KArm) (fresh : ℕ) → arms_labels fresh (hidden-the_row-KArm-0 arms) ≡ arm_list_labels fresh arms
arms_labelled arms fresh = arms_labels_row (hidden-the_row-KArm-0 arms) fresh ∙ ap (arm_list_labels fresh) (items_hidden-the_row-KArm-0 arms)

branches_labels_row : {n : _} (r : Row_of-KBlock n) → branches_labels r ≡ block_list_labels (items-the_row-KBlock n r)
branches_labels_row end_of-KBlock = refl
branches_labels_row (more_of-KBlock b rest) = ap (λ (ls : List ℕ). block_labels b ++ ls) (branches_labels_row rest)

pub branches_labelled : (bs : List KBlock) → branches_labels (hidden-the_row-KBlock-1 bs) ≡ block_list_labels bs
branches_labelled bs = branches_labels_row (hidden-the_row-KBlock-1 bs) ∙ ap block_list_labels (items_hidden-the_row-KBlock-1 bs)

arms_nodes_row : {n : _} (r : Row_of-KArm n) → arms_nodes r ≡ nodes_of_arms (items-the_row-KArm n r)
arms_nodes_row end_of-KArm = refl
arms_nodes_row (more_of-KArm a rest) = ap (λ (ns : List ℕ). node_of_block (arm_block a) ∷ ns) (arms_nodes_row rest)

pub arms_nodes_are : (arms : List KArm) → arms_nodes (hidden-the_row-KArm-0 arms) ≡ nodes_of_arms arms
arms_nodes_are arms = arms_nodes_row (hidden-the_row-KArm-0 arms) ∙ ap nodes_of_arms (items_hidden-the_row-KArm-0 arms)
