-- Blocks of a kernel in which each variable and alias is set by a statement of the block's own list, and named otherwise only after it.
use Rattle.std.specs.Prelude.{⊤, ℕ, IsTrue, List, []}
use Rattle.ceu_tree.specs.declared.kernel.Kernel.{Kernel}
use Rattle.ceu_tree.specs.declared.kernel.KCode.{KCode}
use Rattle.ceu_tree.specs.declared.kernel.KBlock.{KBlock, KBlock', Row_of-KNode, end_of-KNode, more_of-KNode}
use Rattle.ceu_tree.specs.declared.kernel.KArm.{KArm, KArm'}
use Rattle.ceu_tree.specs.declared.kernel.KStmt.{KStmt, Row_of-KArm, end_of-KArm, more_of-KArm, Row_of-KBlock, end_of-KBlock, more_of-KBlock, Async, Finalize, Do, If', Loop, Par'}
use Rattle.ceu_tree.specs.Mentions.{outer_names_from, all_set}
use Rattle.laws_kernel_shape.specs.Shaped.{AllOf}

-- `names` has what each code names by `outer`
module _ (names : List (List ℕ)) where
  unfoldable mutual
    pub StmtSettled : KStmt → Type 0
    StmtSettled (Async b) = BlockSettled b
    StmtSettled (Finalize b) = BlockSettled b
    StmtSettled (Do t b) = BlockSettled b
    StmtSettled (If' _ arms last) = ArmsSettled arms × BlockSettled last
    StmtSettled (Loop k b) = BlockSettled b
    StmtSettled (Par' k slot _ bs) = BlocksSettled bs
    StmtSettled _ = ⊤

    pub BlockSettled : KBlock → Type 0
    BlockSettled (KBlock' n ds _ list) = IsTrue (all_set names ds list) × NodesSettled list

    pub ArmSettled : KArm → Type 0
    ArmSettled (KArm' c b) = BlockSettled b

    pub NodesSettled : {n : _} → Row_of-KNode n → Type 0
    NodesSettled end_of-KNode = ⊤
    NodesSettled (more_of-KNode n p s rest) = StmtSettled s × NodesSettled rest

    pub ArmsSettled : {n : _} → Row_of-KArm n → Type 0
    ArmsSettled end_of-KArm = ⊤
    ArmsSettled (more_of-KArm a rest) = ArmSettled a × ArmsSettled rest

    pub BlocksSettled : {n : _} → Row_of-KBlock n → Type 0
    BlocksSettled end_of-KBlock = ⊤
    BlocksSettled (more_of-KBlock b rest) = BlockSettled b × BlocksSettled rest

  abbrev pub CodeSettled : KCode → Type 0
  CodeSettled c = BlockSettled c.body

-- the program's body and the body of each code
abbrev pub KernelSettled : Kernel → Type 0
KernelSettled K = let names = outer_names_from [] K.codes in BlockSettled names K.body × AllOf (CodeSettled names) K.codes
