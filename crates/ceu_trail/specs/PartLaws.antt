-- Laws on the parts of a program of one trail: where their code stands, which gates they have, and where their trail
-- goes on.
use Rattle.std.specs.Prelude.{◌≡◌, ℕ, ◌≤◌, Bool, true, false, List, ◌∷◌}
use Rattle.ceu_code.specs.declared.image.Image.{Image}
use Rattle.ceu_tree.specs.declared.kernel.Kernel.{Kernel}
use Rattle.ceu_tree.specs.declared.kernel.KNode.{KNode}
use Rattle.ceu_tree.specs.declared.kernel.KBlock.{KBlock}
use Rattle.ceu_tree.specs.Residual.{Act}
use Rattle.ceu_tree.specs.Focus.{Frame, Focus}
use Rattle.laws_meaning_basics.specs.Shape.{Part, FrameFits, Around, program_part}
use Rattle.ceu_shape.specs.Plans.{Plan, own_label}
use Rattle.ceu_single.specs.Single.{stmt_single, block_single, Single}
use Rattle.ceu_trail.specs.Built.{at_label, BlockBuilt, ListBuilt, PartBuilt}
use Rattle.ceu_trail.specs.Compiled.{Compiled}
use Rattle.ceu_trail.specs.Parts.{PartSingle, BlockOpens, PartGates, part_gates, PartStops}

-- The program's body has its code.
abbrev pub ProgramIsBuilt : Type 0
ProgramIsBuilt =
    (image : Image) (P : Plan) (width : ℕ → ℕ) (K : Kernel) → Compiled image P width K → PartSingle (program_part K) × PartBuilt image P K true (program_part K)

-- Where the part around a frame has its code, so has the part inside it.
abbrev pub FramesAreBuilt : Type 0
FramesAreBuilt =
    (image : Image) (P : Plan) (K : Kernel) (top : ℕ) (whole : Bool) (fr : Frame) (d e : Part)
    → Single K → FrameFits K top fr d e → PartSingle d → PartBuilt image P K whole d → PartSingle e × PartBuilt image P K false e

-- A block begins with its statements, and each has its code with those behind it.
abbrev pub BlocksOpen : Type 0
BlocksOpen = (image : Image) (P : Plan) (K : Kernel) (whole : Bool) (b : KBlock) → block_single b ≡ true → BlockBuilt image P K whole b → BlockOpens image P K whole b

-- Statements begin at the own label of the first one.
abbrev pub ListsBegin : Type 0
ListsBegin =
    (image : Image) (P : Plan) (K : Kernel) (whole : Bool) (b : KBlock) (s : KNode) (rest : List KNode) (at : ℕ)
    → stmt_single s.stmt ≡ true → ListBuilt image P K whole b (s ∷ rest) at → at ≡ at_label image P K (own_label s.node)

-- Each part has gates from the first one on.
abbrev pub GatesAreFirst : Type 0
GatesAreFirst =
    (image : Image) (P : Plan) (width : ℕ → ℕ) (K : Kernel) (f : Focus Act) (d : Part)
    → Compiled image P width K → Around K 1 Act f (program_part K) d → (1 ≤ image.gates) × PartSingle d × PartGates image P d

-- A part has no more of them than the part around it.
abbrev pub GatesNest : Type 0
GatesNest =
    (image : Image) (P : Plan) (width : ℕ → ℕ) (K : Kernel) (f : Focus Act) (fr : Frame) (d e : Part)
    → Compiled image P width K → Around K 1 Act f (program_part K) d → FrameFits K 1 fr d e → part_gates P e ≤ part_gates P d

-- Each statement that waits goes on behind the instruction with which it waits, and each block begins at its own label.
abbrev pub StopsAreThere : Type 0
StopsAreThere =
    (image : Image) (P : Plan) (width : ℕ → ℕ) (K : Kernel) (f : Focus Act) (d : Part)
    → Compiled image P width K → Around K 1 Act f (program_part K) d → PartStops image P width K d
