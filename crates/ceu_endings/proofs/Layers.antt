-- The rules on a statement and its cost, one level of it open.
use Rattle.std.proofs.Common.{◌≡◌, refl, sym, ap, ◌∙◌, subst, ◌≤◌, ℕ, suc, ◌+◌, ◌*◌, inl, inr, List, [], ◌∷◌, ◌++◌, arith}
use Rattle.ceu_tree.specs.declared.kernel.Kernel.{Kernel}
use Rattle.ceu_tree.specs.declared.kernel.KNode.{KNode}
use Rattle.ceu_tree.specs.declared.kernel.KArm.{KArm, KArm', out-KArm}
use Rattle.ceu_tree.specs.declared.kernel.KBlock.{KBlock, KBlock', out-KBlock, Row_of-KNode, end_of-KNode, more_of-KNode, items-the_row-KNode, items_shown-the_row-KNode-2}
use Rattle.ceu_tree.specs.declared.kernel.KStmt.{KStmt, out-KStmt, Row_of-KArm, end_of-KArm, more_of-KArm, items-the_row-KArm, items_shown-the_row-KArm-0, Nothing, Assign, Out, AwaitIn, AwaitTime, Forever, Do, Escape, Break, Continue, If', Loop}
use Rattle.ceu_tree.specs.declared.kernel.KStmt.TheOpen.{KStmt-F}
use Rattle.ceu_tree.specs.Leaf.{Layer}
use Rattle.ceu_tree.specs.Paths.{constant_bound, quick_block}
use Rattle.ceu_tree.specs.Proper.{Scope, Aim, LoopAim, do_aim}
use Rattle.laws_meaning_basics.specs.Shape.{part_scope, opens_part, among_arms}
use Rattle.ceu_endings.proofs.Aims.{Below}
use Rattle.ceu_endings.proofs.Fine.{bound_fine, stmt_fine, block_fine, arm_fine, nodes_fine, arms_fine, turns_at_most, stmt_cost, block_cost, arms_cost, arm_cost_is}
use denote.Hole.Carrier

-- ---- costs

abbrev pub total_cost : List KArm → ℕ
total_cost [] = 0
total_cost (a ∷ arms) = block_cost (out-KArm a).body + total_cost arms

abbrev pub layer_cost : Layer → ℕ
layer_cost (KStmt-F.Do t b) = suc (block_cost b)
layer_cost (KStmt-F.If arms last) = suc (total_cost arms + block_cost last)
layer_cost (KStmt-F.Loop k b) = suc (turns_at_most (constant_bound k)) * suc (block_cost b)
layer_cost layer = 1

arms_row : {n : _} (rows : Row_of-KArm n) → arms_cost rows ≡ total_cost (items-the_row-KArm n rows)
unfolding arms_cost
arms_row end_of-KArm = refl
arms_row (more_of-KArm a rest) = ap (λ k. k + arms_cost rest) (arm_cost_is a) ∙ ap (λ k. block_cost (out-KArm a).body + k) (arms_row rest)

pub cost_layer : (st : KStmt) → stmt_cost st ≡ layer_cost (out-KStmt st)
unfolding stmt_cost out-KStmt Carrier.out
cost_layer (If' x arms last) = ap (λ k. suc (k + block_cost last)) (arms_row arms ∙ ap total_cost (sym (items_shown-the_row-KArm-0 x arms)))
cost_layer (Do t b) = refl
cost_layer (Loop k b) = refl
cost_layer st = refl

pub cost_positive : (st : KStmt) → 1 ≤ stmt_cost st
unfolding stmt_cost
cost_positive (If' x arms last) = omega arith
cost_positive (Do t b) = omega arith
cost_positive (Loop k b) = omega arith
cost_positive st = omega arith

-- ---- rules

module _ (K : Kernel) where
  abbrev pub ArmsFine : List Aim → List KArm → Type 0
  ArmsFine aims [] = Unit {0}
  ArmsFine aims (a ∷ arms) = block_fine K aims (out-KArm a).body × ArmsFine aims arms

  abbrev pub LayerFine : List Aim → ℕ → Layer → Type 0
  LayerFine aims n KStmt-F.Nothing = Unit {0}
  LayerFine aims n (KStmt-F.Assign l e) = Unit {0}
  LayerFine aims n (KStmt-F.Out k e) = Unit {0}
  LayerFine aims n (KStmt-F.AwaitIn k t) = Unit {0}
  LayerFine aims n (KStmt-F.AwaitTime e u t) = Unit {0}
  LayerFine aims n KStmt-F.Forever = Unit {0}
  LayerFine aims n (KStmt-F.Escape m e) = Unit {0}
  LayerFine aims n (KStmt-F.Break m) = Unit {0}
  LayerFine aims n (KStmt-F.Continue m) = Unit {0}
  LayerFine aims n (KStmt-F.Do t b) = block_fine K (do_aim K n t ∷ aims) b
  LayerFine aims n (KStmt-F.If arms last) = ArmsFine aims arms × block_fine K aims last
  LayerFine aims n (KStmt-F.Loop k b) = bound_fine (constant_bound k) n (quick_block [] b) × Below (LoopAim n ∷ aims) (out-KBlock b).node × block_fine K (LoopAim n ∷ aims) b
  LayerFine aims n layer = ⊥

  arm_body : (aims : List Aim) (n : ℕ) (a : KArm) → arm_fine K aims n a → block_fine K aims (out-KArm a).body
  unfolding arm_fine out-KArm Carrier.out
  arm_body aims n (KArm' c b) h = h.1

  arms_bodies : {m : _} (aims : List Aim) (n : ℕ) (rows : Row_of-KArm m) → arms_fine K aims n rows → ArmsFine aims (items-the_row-KArm m rows)
  unfolding arms_fine
  arms_bodies aims n end_of-KArm h = tt
  arms_bodies aims n (more_of-KArm a rest) h = (arm_body aims n a h.0, arms_bodies aims n rest h.1)

  pub fine_layer : (aims : List Aim) (n : ℕ) (st : KStmt) → stmt_fine K aims n st → LayerFine aims n (out-KStmt st)
  unfolding stmt_fine out-KStmt Carrier.out
  fine_layer aims n (Do t b) h = h.2
  fine_layer aims n (If' x arms last) h = (subst (ArmsFine aims) (sym (items_shown-the_row-KArm-0 x arms)) (arms_bodies aims n arms h.1), h.3)
  fine_layer aims n (Loop k b) h = (h.1, h.2, h.3)
  fine_layer aims n Nothing h = tt
  fine_layer aims n (Assign l e) h = tt
  fine_layer aims n (Out k e) h = tt
  fine_layer aims n (AwaitIn k t) h = tt
  fine_layer aims n (AwaitTime e u t) h = tt
  fine_layer aims n Forever h = tt
  fine_layer aims n (Escape m e) h = tt
  fine_layer aims n (Break m) h = tt
  fine_layer aims n (Continue m) h = tt
  fine_layer aims n st h = absurd h

  -- the statements of a block's list
  abbrev pub ListFine : List Aim → List KNode → Type 0
  ListFine aims [] = Unit {0}
  ListFine aims (s ∷ ss) = stmt_fine K aims s.node s.stmt × ListFine aims ss

  nodes_row : {n : _} (aims : List Aim) (rows : Row_of-KNode n) → nodes_fine K aims rows → ListFine aims (items-the_row-KNode n rows)
  unfolding nodes_fine
  nodes_row aims end_of-KNode h = tt
  nodes_row aims (more_of-KNode n p s rest) h = (h.0, nodes_row aims rest h.1)

  pub fine_list : (aims : List Aim) (b : KBlock) → block_fine K aims b → ListFine aims (out-KBlock b).list
  unfolding block_fine out-KBlock Carrier.out
  fine_list aims (KBlock' n ds x list) h = subst (ListFine aims) (sym (items_shown-the_row-KNode-2 x list)) (nodes_row aims list h)

  pub fine_at : (aims : List Aim) (before : List KNode) (s : KNode) (rest : List KNode) → ListFine aims (before ++ s ∷ rest) → stmt_fine K aims s.node s.stmt
  fine_at aims [] s rest h = h.0
  fine_at aims (x ∷ before) s rest h = fine_at aims before s rest h.1

  -- ---- the parts of do and if

  arm_among : (aims : List Aim) (arms : List KArm) (b : KBlock) → ArmsFine aims arms → among_arms arms b → block_fine K aims b × (block_cost b ≤ total_cost arms)
  arm_among aims [] b h o = absurd o
  arm_among aims (a ∷ arms) b h (inl e) = (subst (block_fine K aims) e h.0, omega (arith, ap block_cost e))
  arm_among aims (a ∷ arms) b h (inr o) = let i = arm_among aims arms b h.1 o in (i.0, omega (arith, i.1))

  pub part_fine : (sc : Scope) (n : ℕ) (layer : Layer) (b : KBlock) → LayerFine sc.aims n layer → opens_part layer b → block_fine K (part_scope K sc n layer).aims b × (suc (block_cost b) ≤ layer_cost layer)
  part_fine sc n (KStmt-F.Do t c) b h e = (subst (block_fine K (do_aim K n t ∷ sc.aims)) e h, omega (arith, ap block_cost e))
  part_fine sc n (KStmt-F.If arms last) b h (inl o) = let i = arm_among sc.aims arms b h.0 o in (i.0, omega (arith, i.1))
  part_fine sc n (KStmt-F.If arms last) b h (inr e) = (subst (block_fine K sc.aims) e h.1, omega (arith, ap block_cost e))
  part_fine sc n layer b h o = absurd o
