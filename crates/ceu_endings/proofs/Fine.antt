-- What the rules on numbers, exits and loops say of each statement of a program of one trail, and how many steps a statement costs at most from its start.
use Rattle.std.proofs.Common.{◌≡◌, refl, sym, ap, ◌∙◌, ◌≤◌, ℕ, suc, ◌+◌, ◌*◌, ℤ, false, List, [], ◌∷◌, Option, Some, None}
use Rattle.ceu_tree.specs.declared.kernel.Kernel.{Kernel}
use Rattle.ceu_tree.specs.declared.kernel.KNode.{KNode}
use Rattle.ceu_tree.specs.declared.kernel.KArm.{KArm, KArm', out-KArm}
use Rattle.ceu_tree.specs.declared.kernel.KBlock.{KBlock, KBlock', out-KBlock, Row_of-KNode, end_of-KNode, more_of-KNode, items-the_row-KNode, items_shown-the_row-KNode-2}
use Rattle.ceu_tree.specs.declared.kernel.KStmt.{KStmt, Row_of-KArm, end_of-KArm, more_of-KArm, Nothing, Assign, Out, AwaitIn, AwaitTime, Forever, Do, Escape, Break, Continue, If', Loop}
use Rattle.ceu_tree.specs.Leaf as leaf
use Rattle.ceu_tree.specs.Paths.{Way, constant_bound, quick_block}
use Rattle.ceu_tree.specs.Proper.{Aim, LoopAim, do_aim}
use Rattle.ceu_endings.proofs.Among.{rounds}
use Rattle.ceu_endings.proofs.Aims.{Leads, Below}
use denote.Hole.Carrier

-- ---- the rules

-- a loop without a constant bound doesn't go round at once, and a constant bound is at most 65,536
abbrev pub bound_fine : Option ℕ → ℕ → List Way → Type 0
bound_fine None node q = rounds node q ≡ false
bound_fine (Some n) node q = n ≤ 65536

module _ (K : Kernel) where
  unfoldable mutual
    pub stmt_fine : List Aim → ℕ → KStmt → Type 0
    stmt_fine aims n Nothing = Unit {0}
    stmt_fine aims n (Assign l e) = Unit {0}
    stmt_fine aims n (Out k e) = Unit {0}
    stmt_fine aims n (AwaitIn k t) = Unit {0}
    stmt_fine aims n (AwaitTime e u t) = Unit {0}
    stmt_fine aims n Forever = Unit {0}
    stmt_fine aims n (Do t b) = Below aims n × Below (do_aim K n t ∷ aims) (out-KBlock b).node × block_fine (do_aim K n t ∷ aims) b
    stmt_fine aims n (Escape m e) = (v : ℤ) → Leads aims m (leaf.Escape v)
    stmt_fine aims n (Break m) = Leads aims m leaf.Break
    stmt_fine aims n (Continue m) = Leads aims m leaf.Continue
    stmt_fine aims n (If' _ arms last) = Below aims n × arms_fine aims n arms × Below aims (out-KBlock last).node × block_fine aims last
    stmt_fine aims n (Loop k b) = Below aims n × bound_fine (constant_bound k) n (quick_block [] b) × Below (LoopAim n ∷ aims) (out-KBlock b).node × block_fine (LoopAim n ∷ aims) b
    stmt_fine aims n st = ⊥

    pub block_fine : List Aim → KBlock → Type 0
    block_fine aims (KBlock' n ds _ list) = nodes_fine aims list

    pub arm_fine : List Aim → ℕ → KArm → Type 0
    arm_fine aims n (KArm' c b) = Below aims (out-KBlock b).node × block_fine aims b

    pub nodes_fine : {n : _} → List Aim → Row_of-KNode n → Type 0
    nodes_fine aims end_of-KNode = Unit {0}
    nodes_fine aims (more_of-KNode n p s rest) = stmt_fine aims n s × nodes_fine aims rest

    pub arms_fine : {n : _} → List Aim → ℕ → Row_of-KArm n → Type 0
    arms_fine aims n end_of-KArm = Unit {0}
    arms_fine aims n (more_of-KArm a rest) = arm_fine aims n a × arms_fine aims n rest

-- ---- costs

abbrev pub turns_at_most : Option ℕ → ℕ
turns_at_most None = 1
turns_at_most (Some n) = n

unfoldable mutual
  pub stmt_cost : KStmt → ℕ
  stmt_cost (Do t b) = suc (block_cost b)
  stmt_cost (If' _ arms last) = suc (arms_cost arms + block_cost last)
  stmt_cost (Loop k b) = suc (turns_at_most (constant_bound k)) * suc (block_cost b)
  stmt_cost st = 1

  pub block_cost : KBlock → ℕ
  block_cost (KBlock' n ds _ list) = suc (nodes_cost list)

  pub arm_cost : KArm → ℕ
  arm_cost (KArm' c b) = block_cost b

  pub nodes_cost : {n : _} → Row_of-KNode n → ℕ
  nodes_cost end_of-KNode = 1
  nodes_cost (more_of-KNode n p s rest) = stmt_cost s + nodes_cost rest

  pub arms_cost : {n : _} → Row_of-KArm n → ℕ
  arms_cost end_of-KArm = 0
  arms_cost (more_of-KArm a rest) = arm_cost a + arms_cost rest

abbrev pub list_cost : List KNode → ℕ
list_cost [] = 1
list_cost (s ∷ ss) = stmt_cost s.stmt + list_cost ss

nodes_cost_is : {n : _} (rows : Row_of-KNode n) → nodes_cost rows ≡ list_cost (items-the_row-KNode n rows)
unfolding nodes_cost
nodes_cost_is end_of-KNode = refl
nodes_cost_is (more_of-KNode n p s rest) = ap (λ k. stmt_cost s + k) (nodes_cost_is rest)

pub block_cost_is : (b : KBlock) → block_cost b ≡ suc (list_cost (out-KBlock b).list)
unfolding block_cost out-KBlock Carrier.out
block_cost_is (KBlock' n ds x list) = ap suc (nodes_cost_is list ∙ sym (ap list_cost (items_shown-the_row-KNode-2 x list)))

pub arm_cost_is : (a : KArm) → arm_cost a ≡ block_cost (out-KArm a).body
unfolding arm_cost out-KArm Carrier.out
arm_cost_is (KArm' c b) = refl
