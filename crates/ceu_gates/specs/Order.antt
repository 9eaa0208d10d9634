-- Laws of the ranges of gates: parts lie within what holds them, branches side by side, and in a block come its finalizers, its pools and then its
-- statements (this project's own).
use Rattle.std.specs.Prelude.{◌≡◌, ℕ, zero, suc, ◌+◌, ◌*◌, ◌≤◌, IsTrue, All, List, [], ◌∷◌, ◌++◌}
use Rattle.ceu_gates.specs.declared.ranges.GateRange.{GateRange}
use Rattle.ceu_tree.specs.declared.kernel.Kernel.{Kernel}
use Rattle.ceu_tree.specs.declared.kernel.KDecl.{KDecl}
use Rattle.ceu_tree.specs.declared.kernel.KKind.{KKind}
use Rattle.ceu_tree.specs.declared.kernel.KKind.TheVariants as kind
use Rattle.ceu_tree.specs.declared.kernel.KBlock.{KBlock, Row_of-KNode, end_of-KNode, more_of-KNode}
use Rattle.ceu_tree.specs.declared.kernel.KStmt.{KStmt, Finalize}
use Rattle.ceu_tree.specs.Needs.{entry, finalizers, nodes_finalizers, pools_gates, stmt_gates, block_gates}
use Rattle.ceu_tree.specs.Proper.{Scope, stmt_ok, block_ok}
use Rattle.ceu_gates.specs.Ranges.{range, stmt_ranges, block_ranges, block_list_ranges}

abbrev pub LiesIn : (first count : ℕ) → GateRange → Type 0
LiesIn first count r = (first ≤ r.first) × (r.first + r.count ≤ first + count)

abbrev pub Before : GateRange → GateRange → Type 0
Before r q = r.first + r.count ≤ q.first

-- each range begins where the one before it ends, the first at `from`, and the last one ends at `to`
abbrev pub Consecutive : (from to : ℕ) → List GateRange → Type 0
Consecutive from to [] = from ≡ to
Consecutive from to (r ∷ rs) = (r.first ≡ from) × Consecutive (from + r.count) to rs

-- All that stands in a block, or in a statement, lies within its range, wherever it stands in a proper kernel.
abbrev pub PartsNest : Type 0
PartsNest = (K : Kernel) (names : List (List ℕ)) (gates : List ℕ) (sc : Scope) (first : ℕ) →
    ((b : KBlock) → IsTrue (block_ok K names sc b) → All (LiesIn first (block_gates gates b)) (block_ranges gates first b)) ×
    ((n : ℕ) (s : KStmt) → IsTrue (stmt_ok K names sc n s) → All (LiesIn first (stmt_gates gates s)) (stmt_ranges gates first s))

-- All ranges of a branch come before all ranges of the branches behind it.
abbrev pub BranchesInOrder : Type 0
BranchesInOrder = (K : Kernel) (names : List (List ℕ)) (gates : List ℕ) (sc : Scope) (first : ℕ) (b : KBlock) (more : List KBlock) → IsTrue (block_ok K names sc b) →
    All (λ r. All (Before r) (block_list_ranges gates (first + block_gates gates b) more)) (block_ranges gates first b)

abbrev pub finalizer_range : (node first : ℕ) → KStmt → List GateRange
finalizer_range node first (Finalize b) = range node first 1 ∷ []
finalizer_range node first _ = []

-- the gates of the finalizers of a block
abbrev pub finalizer_ranges : {n : _} → (first : ℕ) → Row_of-KNode n → List GateRange
finalizer_ranges first end_of-KNode = []
finalizer_ranges first (more_of-KNode n p s rest) = finalizer_range n first s ++ finalizer_ranges (first + finalizers s) rest

-- the places of a pool, numbered from `place` on, of a code with so many gates
abbrev pub place_ranges : (count first place : ℕ) → ℕ → List GateRange
place_ranges count first place zero = []
place_ranges count first place (suc n) = range place first count ∷ place_ranges count (first + count) (place + 1) n

abbrev pub pool_ranges : List ℕ → (first : ℕ) → KKind → List GateRange
pool_ranges gates first (kind.Var t) = []
pool_ranges gates first (kind.Alias c) = []
pool_ranges gates first (kind.Pool n c) = place_ranges (entry c gates) first 0 n

-- the places of the pools of a block
abbrev pub pools_ranges : List ℕ → (first : ℕ) → List KDecl → List GateRange
pools_ranges gates first [] = []
pools_ranges gates first (d ∷ ds) = pool_ranges gates first d.kind ++ pools_ranges gates (first + pools_gates gates (d ∷ [])) ds

abbrev pub other_range : List ℕ → (node first : ℕ) → KStmt → List GateRange
other_range gates node first (Finalize b) = []
other_range gates node first s = range node first (stmt_gates gates s) ∷ stmt_ranges gates first s

-- the other statements of a block, with all that stands in them
abbrev pub other_ranges : {n : _} → List ℕ → (first : ℕ) → Row_of-KNode n → List GateRange
other_ranges gates first end_of-KNode = []
other_ranges gates first (more_of-KNode n p s rest) = other_range gates n first s ++ other_ranges gates first rest

-- In a block at `first` come its finalizers, then the places of its pools, then all other statements.
abbrev pub BlockInOrder : Type 0
BlockInOrder = (gates : List ℕ) (first : ℕ) (ds : List KDecl) (n : _) (list : Row_of-KNode n) →
    Consecutive first (first + nodes_finalizers list) (finalizer_ranges first list) ×
    Consecutive (first + nodes_finalizers list) (first + nodes_finalizers list + pools_gates gates ds) (pools_ranges gates (first + nodes_finalizers list) ds) ×
    All (λ r. first + nodes_finalizers list + pools_gates gates ds ≤ r.first) (other_ranges gates (first + nodes_finalizers list + pools_gates gates ds) list)
