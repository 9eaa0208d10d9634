-- The nodes and slots of a kernel's parts, by the lists that they are built of.
use Rattle.std.proofs.Common.{◌≡◌, refl, ap, ◌∙◌, ℕ, suc, length, List, [], ◌∷◌, ◌++◌}
use Rattle.ceu_tree.specs.declared.kernel.KNode.{KNode}
use Rattle.ceu_tree.specs.declared.kernel.KArm.{KArm}
use Rattle.ceu_tree.specs.declared.kernel.KBlock.{KBlock, roll-KBlock, Row_of-KNode, end_of-KNode, more_of-KNode, items-the_row-KNode, items_hidden-the_row-KNode-2}
use Rattle.ceu_tree.specs.declared.kernel.KStmt as kernel
use Rattle.ceu_tree.specs.declared.kernel.KStmt.{KStmt, Row_of-KArm, end_of-KArm, more_of-KArm, items-the_row-KArm, items_hidden-the_row-KArm-0, items_hidden-the_row-KBlock-1, Row_of-KBlock, end_of-KBlock, more_of-KBlock, items-the_row-KBlock}
use Rattle.ceu_tree.specs.declared.kernel.KStmt.TheBlock.{hidden-the_row-KArm-0, hidden-the_row-KBlock-1, hidden-the_row-KNode-2}
use Rattle.ceu_tree.specs.declared.kernel.KDecl.{KDecl}
use Rattle.ceu_tree.specs.declared.kernel.ParKind.{ParKind}
use Rattle.ceu_tree.specs.Numbering.{stmt_nodes, block_nodes, arm_nodes, list_nodes, arms_nodes, blocks_nodes, decl_slots, par_slots, row_length, stmt_slots, block_slots, arm_slots, list_slots, arms_slots, blocks_slots}
use denote.Hole.Carrier

abbrev pub nodes_of : List KNode → List ℕ
nodes_of [] = []
nodes_of (x ∷ xs) = x.node ∷ (stmt_nodes x.stmt ++ nodes_of xs)

abbrev pub slots_of : List KNode → List ℕ
slots_of [] = []
slots_of (x ∷ xs) = stmt_slots x.stmt ++ slots_of xs

abbrev pub arms_nodes_of : List KArm → List ℕ
arms_nodes_of [] = []
arms_nodes_of (a ∷ as') = arm_nodes a ++ arms_nodes_of as'

abbrev pub arms_slots_of : List KArm → List ℕ
arms_slots_of [] = []
arms_slots_of (a ∷ as') = arm_slots a ++ arms_slots_of as'

abbrev pub blocks_nodes_of : List KBlock → List ℕ
blocks_nodes_of [] = []
blocks_nodes_of (b ∷ bs) = block_nodes b ++ blocks_nodes_of bs

abbrev pub blocks_slots_of : List KBlock → List ℕ
blocks_slots_of [] = []
blocks_slots_of (b ∷ bs) = block_slots b ++ blocks_slots_of bs

nodes_row : {n : _} (r : Row_of-KNode n) → list_nodes r ≡ nodes_of (items-the_row-KNode n r)
unfolding list_nodes
nodes_row end_of-KNode = refl
nodes_row (more_of-KNode n p s rest) = ap (λ k. n ∷ (stmt_nodes s ++ k)) (nodes_row rest)

slots_row : {n : _} (r : Row_of-KNode n) → list_slots r ≡ slots_of (items-the_row-KNode n r)
unfolding list_slots
slots_row end_of-KNode = refl
slots_row (more_of-KNode n p s rest) = ap (λ k. stmt_slots s ++ k) (slots_row rest)

arms_nodes_row : {n : _} (r : Row_of-KArm n) → arms_nodes r ≡ arms_nodes_of (items-the_row-KArm n r)
unfolding arms_nodes
arms_nodes_row end_of-KArm = refl
arms_nodes_row (more_of-KArm a rest) = ap (λ k. arm_nodes a ++ k) (arms_nodes_row rest)

arms_slots_row : {n : _} (r : Row_of-KArm n) → arms_slots r ≡ arms_slots_of (items-the_row-KArm n r)
unfolding arms_slots
arms_slots_row end_of-KArm = refl
arms_slots_row (more_of-KArm a rest) = ap (λ k. arm_slots a ++ k) (arms_slots_row rest)

blocks_nodes_row : {n : _} (r : Row_of-KBlock n) → blocks_nodes r ≡ blocks_nodes_of (items-the_row-KBlock n r)
unfolding blocks_nodes
blocks_nodes_row end_of-KBlock = refl
blocks_nodes_row (more_of-KBlock b rest) = ap (λ k. block_nodes b ++ k) (blocks_nodes_row rest)

blocks_slots_row : {n : _} (r : Row_of-KBlock n) → blocks_slots r ≡ blocks_slots_of (items-the_row-KBlock n r)
unfolding blocks_slots
blocks_slots_row end_of-KBlock = refl
blocks_slots_row (more_of-KBlock b rest) = ap (λ k. block_slots b ++ k) (blocks_slots_row rest)

blocks_length : {n : _} (r : Row_of-KBlock n) → row_length r ≡ length (items-the_row-KBlock n r)
blocks_length end_of-KBlock = refl
blocks_length (more_of-KBlock b rest) = ap suc (blocks_length rest)

pub rolled_nodes : (n : ℕ) (ds : List KDecl) (list : List KNode) → block_nodes (roll-KBlock (record { node = n; decls = ds; list = list })) ≡ n ∷ nodes_of list
unfolding block_nodes roll-KBlock Carrier.roll
rolled_nodes n ds list = ap (λ k. n ∷ k) (nodes_row (hidden-the_row-KNode-2 list) ∙ ap nodes_of (items_hidden-the_row-KNode-2 list))

pub rolled_slots : (n : ℕ) (ds : List KDecl) (list : List KNode) →
    block_slots (roll-KBlock (record { node = n; decls = ds; list = list })) ≡ decl_slots ds ++ slots_of list
unfolding block_slots roll-KBlock Carrier.roll
rolled_slots n ds list = ap (λ k. decl_slots ds ++ k) (slots_row (hidden-the_row-KNode-2 list) ∙ ap slots_of (items_hidden-the_row-KNode-2 list))

pub if_nodes : (arms : List KArm) (last : KBlock) → stmt_nodes (kernel.If arms last) ≡ arms_nodes_of arms ++ block_nodes last
unfolding stmt_nodes
if_nodes arms last = ap (λ k. k ++ block_nodes last) (arms_nodes_row (hidden-the_row-KArm-0 arms) ∙ ap arms_nodes_of (items_hidden-the_row-KArm-0 arms))

pub if_slots : (arms : List KArm) (last : KBlock) → stmt_slots (kernel.If arms last) ≡ arms_slots_of arms ++ block_slots last
unfolding stmt_slots
if_slots arms last = ap (λ k. k ++ block_slots last) (arms_slots_row (hidden-the_row-KArm-0 arms) ∙ ap arms_slots_of (items_hidden-the_row-KArm-0 arms))

pub par_nodes : (kind : ParKind) (slot : ℕ) (bs : List KBlock) → stmt_nodes (kernel.Par kind slot bs) ≡ blocks_nodes_of bs
unfolding stmt_nodes
par_nodes kind slot bs = blocks_nodes_row (hidden-the_row-KBlock-1 bs) ∙ ap blocks_nodes_of (items_hidden-the_row-KBlock-1 bs)

pub par_stmt_slots : (kind : ParKind) (slot : ℕ) (bs : List KBlock) → stmt_slots (kernel.Par kind slot bs) ≡ par_slots kind slot (length bs) ++ blocks_slots_of bs
unfolding stmt_slots
par_stmt_slots kind slot bs =
    ap (λ n. par_slots kind slot n ++ blocks_slots (hidden-the_row-KBlock-1 bs)) (blocks_length (hidden-the_row-KBlock-1 bs) ∙ ap length (items_hidden-the_row-KBlock-1 bs))
    ∙ ap (λ k. par_slots kind slot (length bs) ++ k) (blocks_slots_row (hidden-the_row-KBlock-1 bs) ∙ ap blocks_slots_of (items_hidden-the_row-KBlock-1 bs))
