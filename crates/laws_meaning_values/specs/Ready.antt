-- Which slots a part may name: each variable and alias that is seen from its place has a value, or the part does not name it before it sets it.
use Rattle.std.specs.Prelude.{◌≡◌, ◌⊎◌, ℕ, Bool, true, false, ◌==◌, ◌&&◌, ◌||◌, List, [], ◌∷◌, Option, Some, None}
use Rattle.ceu_tree.specs.declared.kernel.Kernel.{Kernel}
use Rattle.ceu_tree.specs.declared.kernel.KDecl.{KDecl}
use Rattle.ceu_tree.specs.declared.kernel.KLoop.{KLoop}
use Rattle.ceu_tree.specs.declared.kernel.KLoop.TheVariants as turns
use Rattle.ceu_tree.specs.declared.kernel.KExp.{KExp}
use Rattle.ceu_tree.specs.declared.kernel.KExpNode as exp
use Rattle.ceu_tree.specs.declared.kernel.KExpNode.{KExpNode, Row_of-KExp, end_of-KExp, more_of-KExp, One', Two', As'}
use Rattle.ceu_tree.specs.declared.kernel.KNode.{KNode}
use Rattle.ceu_tree.specs.declared.kernel.KArm.{KArm, out-KArm}
use Rattle.ceu_tree.specs.declared.kernel.KBlock.{KBlock}
use Rattle.ceu_tree.specs.declared.kernel.KStmt.{out-KStmt}
use Rattle.ceu_tree.specs.declared.kernel.KStmt.TheOpen.{KStmt-F}
use Rattle.ceu_tree.specs.Residual.{Body, Act, Start}
use Rattle.ceu_tree.specs.World.{World}
use Rattle.ceu_tree.specs.Leaf.{Layer}
use Rattle.ceu_tree.specs.Mentions.{count_of, stmt_names, block_names, sets, is_loc, body_target, is_set_decl, outer_names_from}
use Rattle.ceu_tree.specs.Proper.{SlotKind, IsVariable, IsLoopVariable, IsPool, IsAlias, find}
use Rattle.laws_meaning_basics.specs.Shape.{Part, ABlock, AStatement, AnEnd}
use Rattle.laws_meaning_values.specs.Ground.{has}

-- ---- the slots that an expression reads, of the own body: each has a value

module _ (body : Body) (w : World) where
  unfoldable mutual
    pub node_has : KExpNode → Bool
    node_has (exp.Const v) = true
    node_has (exp.Read l) = l.outer || has body l.slot w
    node_has (exp.Alive c) = has body c w
    node_has (One' op _ a) = operand_has a
    node_has (Two' op _ a _ b) = operand_has a && operand_has b
    node_has (As' _ a) = operand_has a

    pub operand_has : {n : _} → Row_of-KExp n → Bool
    operand_has end_of-KExp = true
    operand_has (more_of-KExp t p e rest) = node_has e

  abbrev pub exp_has : KExp → Bool
  exp_has e = node_has e.node

  abbrev pub exps_have : List KExp → Bool
  exps_have [] = true
  exps_have (e ∷ es) = exp_has e && exps_have es

  abbrev pub maybe_has : Option KExp → Bool
  maybe_has None = true
  maybe_has (Some e) = exp_has e

  abbrev pub conditions_have : List KArm → Bool
  conditions_have [] = true
  conditions_have (a ∷ arms) = exp_has (out-KArm a).cond && conditions_have arms

  abbrev pub turns_have : KLoop → Bool
  turns_have (turns.Range i next end open_a a b open_b) = exp_has a && exp_has b
  turns_have k = true

  -- all that the start of a statement evaluates or asks for
  abbrev pub layer_has : Layer → Bool
  layer_has (KStmt-F.Assign l e) = exp_has e
  layer_has (KStmt-F.Out k e) = maybe_has e
  layer_has (KStmt-F.Emit k e) = maybe_has e
  layer_has (KStmt-F.AwaitTime e u t) = exp_has e
  layer_has (KStmt-F.AwaitCode c es f t) = exps_have es
  layer_has (KStmt-F.Spawn c es p a) = exps_have es
  layer_has (KStmt-F.Kill c) = has body c w
  layer_has (KStmt-F.Escape n e) = maybe_has e
  layer_has (KStmt-F.If arms last) = conditions_have arms
  layer_has (KStmt-F.Loop k b) = turns_have k
  layer_has layer = true

  abbrev pub act_has : Act → Bool
  act_has (Start s) = layer_has (out-KStmt s.stmt)
  act_has a = true

-- ---- what is seen from a place

abbrev pub is_cell : Option SlotKind → Bool
is_cell None = false
is_cell (Some (IsVariable t)) = true
is_cell (Some IsLoopVariable) = true
is_cell (Some (IsAlias c pools)) = true
is_cell (Some (IsPool c)) = false

abbrev pub declares : ℕ → List KDecl → Bool
declares slot [] = false
declares slot (d ∷ ds) = ((d.slot == slot) && is_set_decl d.kind) || declares slot ds

-- how often a statement and a block name a slot
abbrev pub stmt_named : Kernel → ℕ → KNode → ℕ
stmt_named K slot s = count_of slot (stmt_names true (outer_names_from [] K.codes) s.stmt)

abbrev pub block_named : Kernel → ℕ → KBlock → ℕ
block_named K slot b = count_of slot (block_names true (outer_names_from [] K.codes) b)

-- A statement that sets a slot names it once, as its target. The body of a loop sets a slot that the await at its head has as its target.
abbrev pub Ready : Kernel → Body → World → Part → Type 0
Ready K body w (AStatement sc s) = (slot : ℕ) → is_cell (find slot sc.seen) ≡ true → (has body slot w ≡ true) ⊎ ((stmt_named K slot s ≡ 0) ⊎ ((sets slot s.stmt ≡ true) × (stmt_named K slot s ≡ 1)))
Ready K body w (ABlock turn sc b) =
    (slot : ℕ) → is_cell (find slot sc.seen) ≡ true → (has body slot w ≡ true) ⊎ ((block_named K slot b ≡ 0) ⊎ ((turn ≡ true) × (is_loc slot (body_target b) ≡ true) × (block_named K slot b ≡ 1)))
Ready K body w AnEnd = Unit {0}
