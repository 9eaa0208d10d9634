-- The slots that are in use at a part of a program of one trail: those of the open blocks and loops around it.
use Rattle.std.specs.Prelude.{◌≡◌, ◌≢◌, ℕ, ◌+◌, ◌≤◌, List, [], ◌∷◌, ◌++◌}
use Rattle.std.specs.List.{Contains}
use Rattle.ceu_tree.specs.declared.kernel.KLoop.{KLoop}
use Rattle.ceu_tree.specs.declared.kernel.KLoop.TheVariants as turns
use Rattle.ceu_tree.specs.declared.kernel.KBlock.{out-KBlock}
use Rattle.ceu_tree.specs.declared.kernel.KStmt.{out-KStmt}
use Rattle.ceu_tree.specs.declared.kernel.KStmt.TheOpen.{KStmt-F}
use Rattle.ceu_tree.specs.Leaf.{Layer}
use Rattle.ceu_tree.specs.Numbering.{decl_slots, loop_slots, stmt_slots, block_slots}
use Rattle.ceu_tree.specs.Focus.{Frame, OfBlock, OfLoop}
use Rattle.laws_meaning_basics.specs.Shape.{Part, ABlock, AStatement, AnEnd}
use Rattle.ceu_slots.specs.Law.{StmtTogether, BlockTogether, StmtSized, BlockSized, TurnsSized, Disjoint}
use Rattle.ceu_mem.specs.Memory.{size}
use Rattle.ceu_trail.specs.Within.{Variable, in_frame}

abbrev pub layer_slots : Layer → List ℕ
layer_slots (KStmt-F.Loop k b) = loop_slots k
layer_slots layer = []

abbrev pub slots_of : Frame → List ℕ
slots_of (OfBlock b fin all rest) = decl_slots (out-KBlock b).decls
slots_of (OfLoop s c) = layer_slots (out-KStmt s.stmt)
slots_of fr = []

abbrev pub slots_in : List Frame → List ℕ
slots_in [] = []
slots_in (fr ∷ outer) = slots_of fr ++ slots_in outer

abbrev pub vars_in : List Frame → List Variable
vars_in [] = []
vars_in (fr ∷ outer) = vars_in outer ++ in_frame fr

-- ---- those inside the part

abbrev pub part_slots : Part → List ℕ
part_slots (ABlock turn sc b) = block_slots b
part_slots (AStatement sc s) = stmt_slots s.stmt
part_slots AnEnd = []

abbrev pub PartTogether : (a b : ℕ) → Part → Type 0
PartTogether a b (ABlock turn sc x) = BlockTogether a b x
PartTogether a b (AStatement sc s) = StmtTogether a b s.stmt
PartTogether a b AnEnd = ⊥

module _ (offset width frame : ℕ → ℕ) (total : ℕ) where
  abbrev pub PartSized : Part → Type 0
  PartSized (ABlock turn sc x) = BlockSized offset width frame x
  PartSized (AStatement sc s) = StmtSized offset width frame s.stmt
  PartSized AnEnd = Unit {0}

  abbrev pub LayerSized : Layer → Type 0
  LayerSized (KStmt-F.Loop k b) = TurnsSized offset width frame k
  LayerSized layer = Unit {0}

  abbrev pub FrameSized : Frame → Type 0
  FrameSized (OfLoop s c) = LayerSized (out-KStmt s.stmt)
  FrameSized fr = Unit {0}

  abbrev pub AllSized : List Frame → Type 0
  AllSized [] = Unit {0}
  AllSized (fr ∷ outer) = FrameSized fr × AllSized outer

  -- the slots in use lie within the frame, are pairwise disjoint, and have their sizes
  pub record Live (outer : List Frame) : Type 0 where
    pub within : (x : ℕ) → Contains (slots_in outer) x → offset x + width x ≤ total
    pub apart : (x y : ℕ) → Contains (slots_in outer) x → Contains (slots_in outer) y → x ≢ y → Disjoint offset width frame x y
    pub sized : AllSized outer
    pub variables : (v : Variable) → Contains (vars_in outer) v → (width v.slot ≡ size v.ty) × Contains (slots_in outer) v.slot

-- ---- hidden slots of loops: the turns that have begun, or the next value and the last one

abbrev pub hidden_loop : KLoop → List ℕ
hidden_loop turns.Free = []
hidden_loop (turns.Times slot n) = slot ∷ []
hidden_loop (turns.Range i next end open_a a b open_b) = next ∷ end ∷ []

abbrev pub hidden_layer : Layer → List ℕ
hidden_layer (KStmt-F.Loop k b) = hidden_loop k
hidden_layer layer = []

abbrev pub hidden_of : Frame → List ℕ
hidden_of (OfLoop s c) = hidden_layer (out-KStmt s.stmt)
hidden_of fr = []

abbrev pub hidden_in : List Frame → List ℕ
hidden_in [] = []
hidden_in (fr ∷ outer) = hidden_of fr ++ hidden_in outer
