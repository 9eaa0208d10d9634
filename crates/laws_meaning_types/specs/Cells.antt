-- What open declarations hold, in the words of legal configurations: each cell of a variable, an alias or a parameter is as a legal one has it. Which of
-- them hold something is not said here (this project's own).
use Rattle.std.specs.Prelude.{ℕ, Bool, true, ◌&&◌, List, [], ◌∷◌, ◌++◌, Option, Some, None}
use Rattle.ceu_tree.specs.declared.kernel.Kernel.{Kernel}
use Rattle.ceu_tree.specs.declared.kernel.KCode.{KCode}
use Rattle.ceu_tree.specs.declared.kernel.KDecl.{KDecl}
use Rattle.ceu_tree.specs.declared.kernel.KKind.{KKind}
use Rattle.ceu_tree.specs.declared.kernel.KBlock.{out-KBlock}
use Rattle.ceu_tree.specs.declared.kernel.KStmt.{out-KStmt}
use Rattle.ceu_tree.specs.Residual.{Body, Awaited, Spawned, Residual, InAsync, Block, Open, Loop, Call, Par, Branches, no_branch, branch, Instances, no_instance, instance}
use Rattle.ceu_tree.specs.World.{Cell, World, look}
use Rattle.ceu_tree.specs.Leaf.{code_at}
use Rattle.ceu_tree.specs.Legal.{Seated, called_code, cell_ok}
use Rattle.ceu_tree.specs.Proper.{pool_slots}

module _ (K : Kernel) (w : World) (found : List Seated) where
  abbrev pub cell_legal : Body → List ℕ → KKind → Option Cell → Bool
  cell_legal body pools k None = true
  cell_legal body pools k (Some c) = cell_ok K w found body pools k c

  abbrev pub decls_legal : Body → List ℕ → List KDecl → Bool
  decls_legal body pools [] = true
  decls_legal body pools (d ∷ ds) = cell_legal body pools d.kind (look body d.slot w.values) && decls_legal body pools ds

  -- parameters
  abbrev pub given_legal : Body → Option KCode → Bool
  given_legal body None = true
  given_legal body (Some c) = decls_legal body [] c.params

  -- with the pools of the blocks around
  unfoldable mutual
    pub cells_legal : Residual → Body → List ℕ → Bool
    cells_legal (Block b fin all r rest) body pools =
        let inner = pool_slots (out-KBlock b).decls ++ pools in decls_legal body inner (out-KBlock b).decls && (instances_legal all && cells_legal r body inner)
    cells_legal (Open s r) body pools = cells_legal r body pools
    cells_legal (Loop s c r) body pools = cells_legal r body pools
    cells_legal (Call s r) body pools = given_legal (Awaited body s.node) (called_code K.codes (out-KStmt s.stmt)) && cells_legal r (Awaited body s.node) []
    cells_legal (Par s bs) body pools = branches_legal bs body pools
    cells_legal (InAsync s served r) body pools = cells_legal r body pools
    cells_legal r body pools = true

    pub branches_legal : Branches → Body → List ℕ → Bool
    branches_legal no_branch body pools = true
    branches_legal (branch r more) body pools = cells_legal r body pools && branches_legal more body pools

    pub instances_legal : Instances → Bool
    instances_legal no_instance = true
    instances_legal (instance seat r more) = given_legal (Spawned seat.number) (code_at seat.code K.codes) && (cells_legal r (Spawned seat.number) [] && instances_legal more)
