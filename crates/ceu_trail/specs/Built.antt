-- Where the code of each part of a program of one trail stands: a statement's lines at its own label, a block's at its own, and behind each statement
-- of a block the lines of those that follow it and of the block's end.
use Rattle.std.specs.Prelude.{◌≡◌, ℕ, ◌+◌, ◌*◌, Bool, true, false, List, [], ◌∷◌, ◌++◌}
use Rattle.ceu_base.specs.declared.kinds.Pos.{Pos}
use Rattle.ceu_base.specs.declared.kinds.Ty.TheVariants as ty
use Rattle.ceu_code.specs.declared.image.Image.{Image}
use Rattle.ceu_code.specs.declared.instr.Instr.TheVariants as instr
use Rattle.ceu_asm.specs.declared.line.Line.{Line}
use Rattle.ceu_asm.specs.Lines.{offset_of}
use Rattle.laws_machine_code.specs.Placed.{Placed}
use Rattle.ceu_tree.specs.declared.kernel.Kernel.{Kernel}
use Rattle.ceu_tree.specs.declared.kernel.KNode.{KNode}
use Rattle.ceu_tree.specs.declared.kernel.KBlock.{KBlock, KBlock', Row_of-KNode, end_of-KNode, more_of-KNode}
use Rattle.laws_meaning_basics.specs.Shape.{Part, ABlock, AStatement, AnEnd}
use Rattle.ceu_shape.specs.Plans.{Plan, own_label, end_label}
use Rattle.ceu_shape.specs.Pieces.{Draft, numbered, both, nothing}
use Rattle.ceu_shape.specs.Words.{mark, plain, goto}
use Rattle.ceu_shape.specs.Searches.{node_of_block}
use Rattle.ceu_shape.specs.Shape.{with_parts, parts_draft, block_draft, block_end, zero_given, shape_lines, shape_positions, expression_count}

-- the lines behind a block: the program's end, or of any other block a jump to its end label
abbrev pub behind : Plan → Kernel → (whole : Bool) → KBlock → List Line
behind P K true b = zero_given P K ty.S32 ++ ((mark (end_label (node_of_block b)) ∷ []) ++ (plain instr.End ∷ []))
behind P K false b = goto (end_label (node_of_block b)) ∷ []

-- the lines at the end of a block, those of its finalizers and pools
abbrev pub ending : Plan → Kernel → KBlock → List Line
ending P K (KBlock' n ds _ list) = block_end P K n ds list

module _ (image : Image) (P : Plan) (K : Kernel) where
  -- the offset of a label, and the number of a position
  abbrev pub at_label : ℕ → ℕ
  at_label l = offset_of l (shape_lines P K)

  abbrev pub number : Pos → ℕ
  number = numbered (shape_positions P K)

  -- a piece stands in the code from an offset on, and these lines behind it
  abbrev pub Stands : (at : ℕ) → Draft → (fresh : ℕ) → List Line → Type 0
  Stands at draft fresh more = Placed image at_label at ((draft fresh).lines number ++ more)

  abbrev pub node_whole : KNode → Draft
  node_whole s = with_parts P K s.node s.pos s.stmt (parts_draft P K s.stmt)

  abbrev pub list_draft : List KNode → Draft
  list_draft [] = nothing
  list_draft (s ∷ ss) = both (node_whole s) (list_draft ss)

  -- a statement with its parts, from its own label on
  pub record StatementBuilt (s : KNode) : Type 0 where
    pub fresh : ℕ
    pub lines : Stands (at_label (own_label s.node)) (node_whole s) fresh []

  pub record BlockBuilt (whole : Bool) (b : KBlock) : Type 0 where
    pub fresh : ℕ
    pub lines : Stands (at_label (own_label (node_of_block b))) (block_draft P K b) fresh (behind P K whole b)

  -- these statements of a block, from an offset on, and its end
  pub record ListBuilt (whole : Bool) (b : KBlock) (list : List KNode) (at : ℕ) : Type 0 where
    pub fresh : ℕ
    pub lines : Stands at (list_draft list) fresh (ending P K b ++ behind P K whole b)

  -- a part of the program; `whole` says that it is the program's body
  abbrev pub PartBuilt : (whole : Bool) → Part → Type 0
  PartBuilt whole (ABlock turn sc b) = BlockBuilt whole b
  PartBuilt whole (AStatement sc s) = StatementBuilt s
  PartBuilt whole AnEnd = Unit {0}

  -- the offset of a loop's head, a label that its lines take behind those of its expressions
  pub record IsHead (s : KNode) (at : ℕ) : Type 0 where
    pub built : StatementBuilt s
    pub there : at ≡ at_label (built.fresh + 2 * expression_count s.stmt)
