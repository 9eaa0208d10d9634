-- Programs whose loops and exits keep their rules, and whose tables of codes say what their bodies cost (this project's own).
use Rattle.std.specs.Prelude.{◌≡◌, ℕ, Bool, List, [], Some}
use Rattle.ceu_tree.specs.declared.kernel.Kernel.{Kernel}
use Rattle.ceu_tree.specs.declared.kernel.KCode.{KCode}
use Rattle.ceu_tree.specs.declared.kernel.KArm.{KArm, KArm'}
use Rattle.ceu_tree.specs.declared.kernel.KBlock.{KBlock, KBlock', out-KBlock, Row_of-KNode, end_of-KNode, more_of-KNode}
use Rattle.ceu_tree.specs.declared.kernel.KStmt.{KStmt, out-KStmt, Row_of-KArm, end_of-KArm, more_of-KArm, Row_of-KBlock, end_of-KBlock, more_of-KBlock, Do, If', Loop, Par'}
use Rattle.ceu_tree.specs.declared.kernel.KStmt.TheOpen.{KStmt-F}
use Rattle.ceu_tree.specs.Residual.{Act, Start}
use Rattle.ceu_tree.specs.Leaf.{Layer, code_at}
use Rattle.ceu_tree.specs.Paths.{end_if, flag, quick_block, passes_from}
use Rattle.ceu_tree.specs.Costs.{Cost, cost_at, enter_block, stay_block}
use Rattle.ceu_tree.specs.Proper.{Proper}
use Rattle.laws_bounds_steps.specs.Ways.{out_of}
use Rattle.laws_bounds_steps.specs.Pays.{Fewer, LoopKeeps}
use Rattle.laws_bounds_steps.specs.Starts.{DoKeeps, PartKeeps, arms_keep, par_keeps}

-- what the rules on exits say of a statement's blocks, and those on loops of a loop
abbrev pub starts_kept : List Bool → ℕ → Layer → Type 0
starts_kept passing node (KStmt-F.Do t b) = DoKeeps passing node b
starts_kept passing node (KStmt-F.If arms last) = arms_keep passing node arms × PartKeeps passing node last
starts_kept passing node (KStmt-F.Loop k b) = LoopKeeps passing node k b
starts_kept passing node (KStmt-F.Par k slot bs) = par_keeps passing bs
starts_kept passing node layer = Unit {0}

abbrev pub act_kept : List Bool → Act → Type 0
act_kept passing (Start s) = starts_kept passing s.node (out-KStmt s.stmt)
act_kept passing a = Unit {0}

-- an emission, a spawn and a kill reach beyond the trail's own part
abbrev pub stays_inside : Layer → Type 0
stays_inside (KStmt-F.Emit e x) = ⊥
stays_inside (KStmt-F.Spawn c es p a) = ⊥
stays_inside (KStmt-F.Kill c) = ⊥
stays_inside layer = Unit {0}

abbrev pub acts_inside : Act → Type 0
acts_inside (Start s) = stays_inside (out-KStmt s.stmt)
acts_inside a = Unit {0}

-- every statement of a part, outside asyncs and finalizers
module _ (passing : List Bool) where
  unfoldable mutual
    pub inside_kept : KStmt → Type 0
    inside_kept (Do t b) = block_kept b
    inside_kept (If' _ arms last) = arms_kept arms × block_kept last
    inside_kept (Loop k b) = block_kept b
    inside_kept (Par' k slot _ bs) = blocks_kept bs
    inside_kept _ = Unit {0}

    pub block_kept : KBlock → Type 0
    block_kept (KBlock' n ds _ list) = nodes_kept list

    pub arm_kept : KArm → Type 0
    arm_kept (KArm' c b) = block_kept b

    pub nodes_kept : {n : _} → Row_of-KNode n → Type 0
    nodes_kept end_of-KNode = Unit {0}
    nodes_kept (more_of-KNode n p s rest) = (starts_kept passing n (out-KStmt s) × inside_kept s) × nodes_kept rest

    pub arms_kept : {n : _} → Row_of-KArm n → Type 0
    arms_kept end_of-KArm = Unit {0}
    arms_kept (more_of-KArm a rest) = arm_kept a × arms_kept rest

    pub blocks_kept : {n : _} → Row_of-KBlock n → Type 0
    blocks_kept end_of-KBlock = Unit {0}
    blocks_kept (more_of-KBlock b rest) = block_kept b × blocks_kept rest

-- the program's body, and each code's
pub record RulesKept (K : Kernel) : Type 0 where
  pub proper : Proper K
  pub body : block_kept (passes_from [] K.codes) K.body
  pub codes : (c : ℕ) (k : KCode) → code_at c K.codes ≡ Some k → block_kept (passes_from [] K.codes) k.body

-- Awaited code costs what its body enters, and is left by its end where its body may end or be escaped from.
pub record CodesPay (passing : List Bool) (events entering : List Cost) (K : Kernel) : Type 0 where
  pub enters : (c : ℕ) (k : KCode) → code_at c K.codes ≡ Some k → cost_at c entering ≡ enter_block passing events entering k.body
  pub leaves : (c : ℕ) (k : KCode) → code_at c K.codes ≡ Some k → Fewer (out_of (out-KBlock k.body).node (quick_block passing k.body)) (end_if (flag c passing))

-- Where code stands waiting it costs what its body does.
pub record CodesStay (passing : List Bool) (events entering staying : List Cost) (K : Kernel) : Type 0 where
  pub stays : (c : ℕ) (k : KCode) → code_at c K.codes ≡ Some k → cost_at c staying ≡ stay_block passing events entering staying k.body
