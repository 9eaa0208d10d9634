-- In a program that keeps the rules each statement that a trail comes to, and each loop around it, keeps them.
use Rattle.std.proofs.Common.{sym, subst, ℕ, Bool, List, [], ◌∷◌, ◌++◌, inl, inr}
use Rattle.ceu_tree.specs.declared.kernel.Kernel.{Kernel}
use Rattle.ceu_tree.specs.declared.kernel.KArm.{KArm, KArm', out-KArm}
use Rattle.ceu_tree.specs.declared.kernel.KNode.{KNode}
use Rattle.ceu_tree.specs.declared.kernel.KBlock.{KBlock, KBlock', out-KBlock, Row_of-KNode, end_of-KNode, more_of-KNode, items-the_row-KNode, items_shown-the_row-KNode-2}
use Rattle.ceu_tree.specs.declared.kernel.KStmt.{KStmt, out-KStmt, Row_of-KArm, end_of-KArm, more_of-KArm, items-the_row-KArm, items_shown-the_row-KArm-0, Row_of-KBlock, end_of-KBlock, more_of-KBlock, items-the_row-KBlock, items_shown-the_row-KBlock-1, Do, If', Loop, Par'}
use Rattle.ceu_tree.specs.declared.kernel.KStmt.TheOpen.{KStmt-F}
use Rattle.ceu_tree.specs.Residual.{Act}
use Rattle.ceu_tree.specs.Focus.{Frame, Focus, Here, In, leaf}
use Rattle.ceu_tree.specs.Leaf.{Layer}
use Rattle.ceu_tree.specs.Paths.{passes_from}
use Rattle.laws_meaning_basics.specs.Shape.{Part, ABlock, AStatement, AnEnd, opens_part, among_arms, FrameFits, around_statement, around_end, around_instance, around_part, around_turn, around_call, around_branch, Around, nothing_around, one_around, ActFits, begins, heads, goes_again, starts, finishes, ends, program_part, TurnFits}
use Rattle.laws_bounds_steps.specs.Pays.{layer_keeps, frame_keeps, focus_keeps}
use Rattle.laws_bounds_steps.specs.Kept.{starts_kept, act_kept, inside_kept, block_kept, arm_kept, nodes_kept, arms_kept, blocks_kept, RulesKept}
use denote.Hole.Carrier

module _ (P : List Bool) where
  abbrev pub StmtKeeps : KNode → Type 0
  StmtKeeps s = starts_kept P s.node (out-KStmt s.stmt) × inside_kept P s.stmt

  abbrev ListKeeps : List KNode → Type 0
  ListKeeps [] = Unit {0}
  ListKeeps (s ∷ ss) = StmtKeeps s × ListKeeps ss

  abbrev ArmsKeep : List KArm → Type 0
  ArmsKeep [] = Unit {0}
  ArmsKeep (a ∷ arms) = block_kept P (out-KArm a).body × ArmsKeep arms

  abbrev BlocksKeep : List KBlock → Type 0
  BlocksKeep [] = Unit {0}
  BlocksKeep (b ∷ bs) = block_kept P b × BlocksKeep bs

  abbrev LayerInside : Layer → Type 0
  LayerInside (KStmt-F.Do t b) = block_kept P b
  LayerInside (KStmt-F.If arms last) = ArmsKeep arms × block_kept P last
  LayerInside (KStmt-F.Loop k b) = block_kept P b
  LayerInside (KStmt-F.Par k slot bs) = BlocksKeep bs
  LayerInside layer = Unit {0}

  nodes_row : {n : _} (rows : Row_of-KNode n) → nodes_kept P rows → ListKeeps (items-the_row-KNode n rows)
  unfolding inside_kept
  nodes_row end_of-KNode h = tt
  nodes_row (more_of-KNode n p s rest) h = (h.0, nodes_row rest h.1)

  list_keeps : (b : KBlock) → block_kept P b → ListKeeps (out-KBlock b).list
  unfolding inside_kept out-KBlock Carrier.out
  list_keeps (KBlock' n ds x list) h = subst ListKeeps (sym (items_shown-the_row-KNode-2 x list)) (nodes_row list h)

  arm_keeps : (a : KArm) → arm_kept P a → block_kept P (out-KArm a).body
  unfolding inside_kept out-KArm Carrier.out
  arm_keeps (KArm' c b) h = h

  arms_row : {n : _} (rows : Row_of-KArm n) → arms_kept P rows → ArmsKeep (items-the_row-KArm n rows)
  unfolding inside_kept
  arms_row end_of-KArm h = tt
  arms_row (more_of-KArm a rest) h = (arm_keeps a h.0, arms_row rest h.1)

  blocks_row : {n : _} (rows : Row_of-KBlock n) → blocks_kept P rows → BlocksKeep (items-the_row-KBlock n rows)
  unfolding inside_kept
  blocks_row end_of-KBlock h = tt
  blocks_row (more_of-KBlock b rest) h = (h.0, blocks_row rest h.1)

  layer_inside : (st : KStmt) → inside_kept P st → LayerInside (out-KStmt st)
  unfolding inside_kept out-KStmt Carrier.out
  layer_inside (Do t b) h = h
  layer_inside (If' x arms last) h = (subst ArmsKeep (sym (items_shown-the_row-KArm-0 x arms)) (arms_row arms h.0), h.1)
  layer_inside (Loop k b) h = h
  layer_inside (Par' k slot x bs) h = subst BlocksKeep (sym (items_shown-the_row-KBlock-1 x bs)) (blocks_row bs h)
  layer_inside st h = tt

  stmt_at : (before : List KNode) (s : KNode) (rest : List KNode) → ListKeeps (before ++ s ∷ rest) → StmtKeeps s
  stmt_at [] s rest h = h.0
  stmt_at (x ∷ before) s rest h = stmt_at before s rest h.1

  block_at : (before : List KBlock) (b : KBlock) (rest : List KBlock) → BlocksKeep (before ++ b ∷ rest) → block_kept P b
  block_at [] b rest h = h.0
  block_at (x ∷ before) b rest h = block_at before b rest h.1

  arm_at : (arms : List KArm) (b : KBlock) → ArmsKeep arms → among_arms arms b → block_kept P b
  arm_at [] b h o = absurd o
  arm_at (a ∷ arms) b h (inl e) = subst (block_kept P) e h.0
  arm_at (a ∷ arms) b h (inr o) = arm_at arms b h.1 o

  part_at : (layer : Layer) (b : KBlock) → LayerInside layer → opens_part layer b → block_kept P b
  part_at (KStmt-F.Do t c) b h e = subst (block_kept P) e h
  part_at (KStmt-F.If arms last) b h (inl o) = arm_at arms b h.0 o
  part_at (KStmt-F.If arms last) b h (inr e) = subst (block_kept P) e h.1
  part_at layer b h o = absurd o

  loop_at : (node : ℕ) (layer : Layer) → starts_kept P node layer → layer_keeps P node layer
  loop_at node (KStmt-F.Loop k b) h = h
  loop_at node layer h = tt

  abbrev pub PlaceKeeps : Part → Type 0
  PlaceKeeps (ABlock turn sc b) = block_kept P b
  PlaceKeeps (AStatement sc s) = StmtKeeps s
  PlaceKeeps AnEnd = Unit {0}

  act_at : {d : Part} {a : Act} → ActFits d a → PlaceKeeps d → act_kept P a
  act_at begins h = tt
  act_at heads h = tt
  act_at goes_again h = tt
  act_at starts h = h.0
  act_at (finishes p) h = tt
  act_at ends h = tt

module _ (K : Kernel) (h : RulesKept K) where
  frame_at : {t : ℕ} {fr : Frame} {d e : Part} → FrameFits K t fr d e → PlaceKeeps (passes_from [] K.codes) d → frame_keeps (passes_from [] K.codes) fr × PlaceKeeps (passes_from [] K.codes) e
  frame_at (around_statement {b = b} {rest = rest} {s = s} done q z i) k = (tt, stmt_at _ done s rest (subst (ListKeeps _) q (list_keeps _ b k)))
  frame_at (around_end z i) k = (tt, tt)
  frame_at (around_instance {seat = seat} done c q z i x y p o) k = (tt, h.codes seat.code c o)
  frame_at (around_part {s = s} b o) k = (tt, part_at _ (out-KStmt s.stmt) b (layer_inside _ s.stmt k.1) o)
  frame_at (around_turn {s = s} c b q o) k = (loop_at _ s.node (out-KStmt s.stmt) k.0, subst (LayerInside (passes_from [] K.codes)) q (layer_inside _ s.stmt k.1))
  frame_at (around_call {s = s} m es g t c q o) k = (tt, h.codes m c o)
  frame_at (around_branch {s = s} c slot bs b cs q x y) k = (tt, block_at _ bs b cs (subst (LayerInside (passes_from [] K.codes)) q (layer_inside _ s.stmt k.1)))

  pub focus_at : {t : ℕ} (f : Focus Act) {d e : Part} → Around K t Act f d e → PlaceKeeps (passes_from [] K.codes) d → focus_keeps (passes_from [] K.codes) f × PlaceKeeps (passes_from [] K.codes) e
  unfolding focus_keeps
  focus_at (Here a) nothing_around k = (tt, k)
  focus_at (In fr f) (one_around x more) k = let y = frame_at x k in let z = focus_at f more y.1 in ((y.0, z.0), z.1)

  pub leaf_at : {t : ℕ} (f : Focus Act) {d e : Part} → Around K t Act f d e → ActFits e (leaf f) → PlaceKeeps (passes_from [] K.codes) d → act_kept (passes_from [] K.codes) (leaf f)
  leaf_at f a b k = act_at _ b (focus_at f a k).1

  -- wherever a trail of the program has its turn
  pub turn_keeps : {t : ℕ} (f : Focus Act) → TurnFits K t (program_part K) f → focus_keeps (passes_from [] K.codes) f × act_kept (passes_from [] K.codes) (leaf f)
  turn_keeps f t = ((focus_at f t.around h.body).0, leaf_at f t.around t.acts h.body)
