-- The parts of a program of one trail: each is one of such a program, a block begins with its statements and has nothing at its end, the gates of
-- each begin at the first one, and one that waits goes on behind the instruction with which it waits.
use Rattle.std.specs.Prelude.{◌≡◌, ℕ, ◌+◌, ◌≤◌, Bool, true, List, [], ◌∷◌, ◌++◌, Option}
use Rattle.ceu_code.specs.declared.image.Image.{Image}
use Rattle.ceu_tree.specs.declared.kernel.Kernel.{Kernel}
use Rattle.ceu_tree.specs.declared.kernel.KExp.{KExp}
use Rattle.ceu_tree.specs.declared.kernel.KNode.{KNode}
use Rattle.ceu_tree.specs.declared.kernel.KBlock.{KBlock, out-KBlock}
use Rattle.ceu_tree.specs.declared.kernel.KStmt.{out-KStmt}
use Rattle.ceu_tree.specs.declared.kernel.KStmt.TheOpen.{KStmt-F}
use Rattle.ceu_tree.specs.declared.kernel.Loc.{Loc}
use Rattle.ceu_tree.specs.declared.kernel.Unit.{Unit as TimeUnit}
use Rattle.laws_meaning_basics.specs.Shape.{Part, ABlock, AStatement, AnEnd}
use Rattle.ceu_shape.specs.Plans.{Plan, own_label, end_label}
use Rattle.ceu_shape.specs.Searches.{node_of_block}
use Rattle.ceu_single.specs.Single.{stmt_single, block_single}
use Rattle.ceu_trail.specs.Built.{at_label, ending, StatementBuilt, ListBuilt}
use Rattle.ceu_trail.specs.Tables.{tables}

abbrev pub PartSingle : Part → Type 0
PartSingle (ABlock turn sc b) = block_single b ≡ true
PartSingle (AStatement sc s) = stmt_single s.stmt ≡ true
PartSingle AnEnd = Unit {0}

-- ---- statements of a block

-- a statement of a block, and what stands behind it
pub record AmongBuilt (image : Image) (P : Plan) (K : Kernel) (whole : Bool) (b : KBlock) (s : KNode) (rest : List KNode) : Type 0 where
  pub single : stmt_single s.stmt ≡ true
  pub built : StatementBuilt image P K s
  pub follows : ListBuilt image P K whole b rest (at_label image P K (end_label s.node))

pub record BlockOpens (image : Image) (P : Plan) (K : Kernel) (whole : Bool) (b : KBlock) : Type 0 where
  pub list : ListBuilt image P K whole b (out-KBlock b).list (at_label image P K (own_label (node_of_block b)))
  pub statement : (done rest : List KNode) (s : KNode) → (out-KBlock b).list ≡ done ++ s ∷ rest → AmongBuilt image P K whole b s rest
  pub nothing_at_end : ending P K b ≡ []

-- ---- gates

-- they begin at the frame's first one, and the image has them all
pub record GatesAt (image : Image) (P : Plan) (node : ℕ) : Type 0 where
  pub first_is : P.first node ≡ 0
  pub some : 1 ≤ P.count node
  pub within : P.count node ≤ image.gates

abbrev pub PartGates : Image → Plan → Part → Type 0
PartGates image P (ABlock turn sc b) = GatesAt image P (node_of_block b)
PartGates image P (AStatement sc s) = GatesAt image P s.node
PartGates image P AnEnd = Unit {0}

-- how many a part has
abbrev pub part_gates : Plan → Part → ℕ
part_gates P (ABlock turn sc b) = P.count (node_of_block b)
part_gates P (AStatement sc s) = P.count s.node
part_gates P AnEnd = 0

-- ---- where the trail goes on

module _ (image : Image) (P : Plan) (width : ℕ → ℕ) (K : Kernel) where
  -- behind the instruction with which a statement waits
  pub record StopsAt (s : KNode) : Type 0 where
    pub at_input : (k : ℕ) (t : Option Loc) → out-KStmt s.stmt ≡ KStmt-F.AwaitIn k t → (tables P width K).resumed s.node ≡ at_label image P K (own_label s.node) + 6
    pub at_time : (e : KExp) (u : TimeUnit) (t : Option Loc) → out-KStmt s.stmt ≡ KStmt-F.AwaitTime e u t → (tables P width K).resumed s.node ≡ at_label image P K (own_label s.node) + 8
    pub behind_time : (e : KExp) (u : TimeUnit) (t : Option Loc) → out-KStmt s.stmt ≡ KStmt-F.AwaitTime e u t → (built : StatementBuilt image P K s) → (tables P width K).resumed s.node ≡ at_label image P K (built.fresh + 1) + 2
    pub at_forever : out-KStmt s.stmt ≡ KStmt-F.Forever → (tables P width K).resumed s.node ≡ at_label image P K (own_label s.node) + 4

  abbrev pub PartStops : Part → Type 0
  PartStops (ABlock turn sc b) = (tables P width K).begun (node_of_block b) ≡ at_label image P K (own_label (node_of_block b))
  PartStops (AStatement sc s) = StopsAt s
  PartStops AnEnd = Unit {0}
