-- The laws on where the code of a program of one trail stands, which gates its parts have, and which positions its image has.
use Rattle.std.specs.Prelude.{◌≡◌, ℕ, List, [], ◌∷◌, Option, Some, None, slice_get}
use Rattle.ceu_base.specs.declared.kinds.Pos.{Pos}
use Rattle.ceu_code.specs.declared.image.Image.{Image}
use Rattle.ceu_tree.specs.declared.kernel.Kernel.{Kernel}
use Rattle.ceu_tree.specs.declared.kernel.KArm.{KArm, out-KArm}
use Rattle.ceu_tree.specs.declared.kernel.KExp.{KExp}
use Rattle.ceu_tree.specs.declared.kernel.KLoop.{KLoop}
use Rattle.ceu_tree.specs.declared.kernel.KLoop.TheVariants as turns
use Rattle.ceu_tree.specs.declared.kernel.KNode.{KNode}
use Rattle.ceu_tree.specs.declared.kernel.KStmt.{out-KStmt}
use Rattle.ceu_tree.specs.declared.kernel.KStmt.TheOpen.{KStmt-F}
use Rattle.ceu_tree.specs.Leaf.{Layer}
use Rattle.ceu_tree.specs.Focus.{Frame}
use Rattle.ceu_tree.specs.Proper.{Scope}
use Rattle.laws_meaning_basics.specs.Shape.{AStatement}
use Rattle.ceu_shape.specs.Plans.{Plan}
use Rattle.laws_machine_code.specs.Seen.{NodePlaced}
use Rattle.ceu_trail.specs.Built.{number}
use Rattle.ceu_trail.specs.Compiled.{Compiled}
use Rattle.ceu_trail.specs.PartLaws.{ProgramIsBuilt, FramesAreBuilt, BlocksOpen, ListsBegin, GatesAreFirst, GatesNest, StopsAreThere}
use Rattle.ceu_steps.specs.Reached.{Reached}

-- ---- the positions that the lines of a statement name

module _ (image : Image) (numbers : Pos → ℕ) where
  abbrev pub ExpPlaced : KExp → Type 0
  ExpPlaced e = NodePlaced image numbers e.node e.pos

  abbrev pub MaybePlaced : Option KExp → Type 0
  MaybePlaced None = Unit {0}
  MaybePlaced (Some e) = ExpPlaced e

  abbrev pub ArmsPlaced : List KArm → Type 0
  ArmsPlaced [] = Unit {0}
  ArmsPlaced (a ∷ arms) = ExpPlaced (out-KArm a).cond × ArmsPlaced arms

  abbrev pub TurnsPlaced : Pos → KLoop → Type 0
  TurnsPlaced p turns.Free = Unit {0}
  TurnsPlaced p (turns.Times slot n) = slice_get image.places (numbers p) ≡ Some p
  TurnsPlaced p (turns.Range i next end open_a a b open_b) = ExpPlaced a × ExpPlaced b

  abbrev pub LayerPlaced : Pos → Layer → Type 0
  LayerPlaced p (KStmt-F.Assign l e) = ExpPlaced e
  LayerPlaced p (KStmt-F.Out k e) = MaybePlaced e
  LayerPlaced p (KStmt-F.AwaitTime e u t) = ExpPlaced e
  LayerPlaced p (KStmt-F.Escape n e) = MaybePlaced e
  LayerPlaced p (KStmt-F.If arms last) = ArmsPlaced arms
  LayerPlaced p (KStmt-F.Loop k b) = TurnsPlaced p k
  LayerPlaced p layer = Unit {0}

-- The image has each position that a statement names.
abbrev pub PositionsArePlaced : Type 0
PositionsArePlaced =
    (image : Image) (P : Plan) (width : ℕ → ℕ) (K : Kernel) (outer : List Frame) (sc : Scope) (s : KNode)
    → Compiled image P width K → Reached K outer (AStatement sc s) → LayerPlaced image (number image P K) s.pos (out-KStmt s.stmt)

pub record BuiltLaws : Type 0 where
  pub program_is_built : ProgramIsBuilt
  pub frames_are_built : FramesAreBuilt
  pub blocks_open : BlocksOpen
  pub lists_begin : ListsBegin
  pub gates_are_first : GatesAreFirst
  pub gates_nest : GatesNest
  pub stops_are_there : StopsAreThere
  pub positions_are_placed : PositionsArePlaced
