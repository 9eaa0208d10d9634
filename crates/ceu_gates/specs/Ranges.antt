-- The gates of each statement and each block of a program, by node number (this project's own). Numbers are relative to the first gate of the frame.
--
-- A block has the gates of its finalizers first, in textual order, then those of its pools, in textual order with the places of each pool one after
-- the other. Behind them all its other statements start at one gate, since one of them stands at a time. The branches of a par stand side by
-- side; every other part starts where its statement does. A code's body starts at 0.
use Rattle.std.specs.Prelude.{◌≡◌, ℕ, ◌+◌, ◌*◌, ◌<◌, ◌==◌, if◌then◌else◌, List, [], ◌∷◌, ◌++◌, length, slice_index}
use Rattle.ceu_gates.specs.declared.ranges.GateRange.{GateRange}
use Rattle.ceu_tree.specs.declared.kernel.Kernel.{Kernel}
use Rattle.ceu_tree.specs.declared.kernel.KCode.{KCode}
use Rattle.ceu_tree.specs.declared.kernel.KDecl.{KDecl}
use Rattle.ceu_tree.specs.declared.kernel.KBlock.{KBlock, KBlock', Row_of-KNode, end_of-KNode, more_of-KNode}
use Rattle.ceu_tree.specs.declared.kernel.KNode.{KNode}
use Rattle.ceu_tree.specs.declared.kernel.KArm.{KArm, KArm'}
use Rattle.ceu_tree.specs.declared.kernel.KStmt.{KStmt, Row_of-KArm, end_of-KArm, more_of-KArm, Row_of-KBlock, end_of-KBlock, more_of-KBlock, Async, Do, If', Loop, Par', Finalize}
use Rattle.ceu_tree.specs.Greatest.{greatest}
use Rattle.ceu_tree.specs.Numbering.{block_nodes, codes_nodes}
use Rattle.ceu_tree.specs.Needs.{entry, finalizers, nodes_finalizers, pool_gates, pools_gates, stmt_gates, block_gates, gates_from}

abbrev pub range : (node first count : ℕ) → GateRange
range node first count = record { node = node; first = first; count = count }

-- where a statement of a block starts: a finalizer at a gate of its own
abbrev pub starts : (finalizer first : ℕ) → KStmt → ℕ
starts finalizer first (Finalize b) = finalizer
starts finalizer first _ = first

module _ (gates : List ℕ) where
  unfoldable mutual
    -- the nodes inside a statement that starts at the gate `first`
    pub stmt_ranges : (first : ℕ) → KStmt → List GateRange
    stmt_ranges first (Async b) = block_ranges first b
    stmt_ranges first (Finalize b) = block_ranges first b
    stmt_ranges first (Do t b) = block_ranges first b
    stmt_ranges first (If' _ arms last) = arms_ranges first arms ++ block_ranges first last
    stmt_ranges first (Loop k b) = block_ranges first b
    stmt_ranges first (Par' k slot _ bs) = blocks_ranges first bs
    stmt_ranges first _ = []

    pub block_ranges : (first : ℕ) → KBlock → List GateRange
    block_ranges first (KBlock' n ds x list) =
        range n first (block_gates gates (KBlock' n ds x list)) ∷ nodes_ranges first (first + (nodes_finalizers list + pools_gates gates ds)) list

    pub arm_ranges : (first : ℕ) → KArm → List GateRange
    arm_ranges first (KArm' c b) = block_ranges first b

    -- the next finalizer has the gate `finalizer`, every other statement starts at `first`
    pub nodes_ranges : {n : _} → (finalizer first : ℕ) → Row_of-KNode n → List GateRange
    nodes_ranges finalizer first end_of-KNode = []
    nodes_ranges finalizer first (more_of-KNode n p s rest) =
        range n (starts finalizer first s) (stmt_gates gates s) ∷ (stmt_ranges (starts finalizer first s) s ++ nodes_ranges (finalizer + finalizers s) first rest)

    pub arms_ranges : {n : _} → (first : ℕ) → Row_of-KArm n → List GateRange
    arms_ranges first end_of-KArm = []
    arms_ranges first (more_of-KArm a rest) = arm_ranges first a ++ arms_ranges first rest

    pub blocks_ranges : {n : _} → (first : ℕ) → Row_of-KBlock n → List GateRange
    blocks_ranges first end_of-KBlock = []
    blocks_ranges first (more_of-KBlock b rest) = block_ranges first b ++ blocks_ranges (first + block_gates gates b) rest

  abbrev pub node_ranges : (first : ℕ) → KNode → List GateRange
  node_ranges first n = range n.node first (stmt_gates gates n.stmt) ∷ stmt_ranges first n.stmt

  -- the same over lists
  abbrev pub list_ranges : (finalizer first : ℕ) → List KNode → List GateRange
  list_ranges finalizer first [] = []
  list_ranges finalizer first (n ∷ ns) = node_ranges (starts finalizer first n.stmt) n ++ list_ranges (finalizer + finalizers n.stmt) first ns

  abbrev pub arm_list_ranges : (first : ℕ) → List KArm → List GateRange
  arm_list_ranges first [] = []
  arm_list_ranges first (a ∷ more) = arm_ranges first a ++ arm_list_ranges first more

  abbrev pub block_list_ranges : (first : ℕ) → List KBlock → List GateRange
  block_list_ranges first [] = []
  block_list_ranges first (b ∷ bs) = block_ranges first b ++ block_list_ranges (first + block_gates gates b) bs

-- the bodies of these codes, after the codes whose gates are known
abbrev pub codes_ranges : List ℕ → List KCode → List GateRange
codes_ranges gates [] = []
codes_ranges gates (c ∷ cs) = block_ranges gates 0 c.body ++ codes_ranges (gates ++ block_gates gates c.body ∷ []) cs

-- every node in the order of the numbers
unfoldable pub ranges : Kernel → List GateRange
ranges K = block_ranges (gates_from [] K.codes) 0 K.body ++ codes_ranges [] K.codes

-- what a list says of a node
abbrev pub number_of : (GateRange → ℕ) → (node : ℕ) → List GateRange → ℕ
number_of f node [] = 0
number_of f node (r ∷ rs) = if r.node == node then f r else number_of f node rs

abbrev pub the_first : GateRange → ℕ
the_first r = r.first

abbrev pub the_count : GateRange → ℕ
the_count r = r.count

-- the first gate of a node, and how many it has
unfoldable pub first_gate : Kernel → (node : ℕ) → ℕ
first_gate K node = number_of the_first node (ranges K)

unfoldable pub gate_count : Kernel → (node : ℕ) → ℕ
gate_count K node = number_of the_count node (ranges K)

-- behind the last gate that one of them has
abbrev pub reach : List GateRange → ℕ
reach rs = greatest (λ r. r.first + r.count) rs

-- ---- the places of pools

-- the gate at which the pools of a block start
abbrev pub pools_first : (first : ℕ) → {n : _} → Row_of-KNode n → ℕ
pools_first first list = first + nodes_finalizers list

-- the first gate of a pool among these, of which the first starts at `first`
abbrev pub pool_first : List ℕ → (first slot : ℕ) → List KDecl → ℕ
pool_first gates first slot [] = first
pool_first gates first slot (d ∷ ds) = if d.slot == slot then first else pool_first gates (first + pool_gates gates d.kind) slot ds

-- the first gate of a place of a pool of code: the places stand one after the other
abbrev pub instance_first : List ℕ → (first code place : ℕ) → ℕ
instance_first gates first code place = first + place * entry code gates

-- ---- the plan as two lists by node number

abbrev pub nodes : Kernel → List ℕ
nodes K = block_nodes K.body ++ codes_nodes K.codes

-- a list that has this number at each node of the kernel, and nothing else
pub record IsByNode (K : Kernel) (number : ℕ → ℕ) (xs : List ℕ) : Type 0 where
  pub one_each : length xs ≡ length (nodes K)
  pub each : (node : ℕ) → node < length xs → slice_index xs node ≡ number node
