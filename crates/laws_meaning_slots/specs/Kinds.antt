-- Each slot of an open part holds nothing, or a cell of its kind (this project's own).
use Rattle.std.specs.Prelude.{ℕ, Bool, true, ◌&&◌, List, [], ◌∷◌, Option, Some, None}
use Rattle.ceu_base.specs.declared.kinds.Ty.TheVariants as ty
use Rattle.ceu_tree.specs.declared.kernel.KCode.{KCode}
use Rattle.ceu_tree.specs.declared.kernel.KDecl.{KDecl}
use Rattle.ceu_tree.specs.declared.kernel.KKind.{KKind}
use Rattle.ceu_tree.specs.declared.kernel.KKind.TheVariants as kind
use Rattle.ceu_tree.specs.declared.kernel.KLoop.{KLoop}
use Rattle.ceu_tree.specs.declared.kernel.KLoop.TheVariants as turns
use Rattle.ceu_tree.specs.declared.kernel.KBlock.{out-KBlock}
use Rattle.ceu_tree.specs.declared.kernel.KStmt.{out-KStmt}
use Rattle.ceu_tree.specs.declared.kernel.KStmt.TheOpen.{KStmt-F}
use Rattle.ceu_tree.specs.Residual.{Body, Awaited, Spawned, Residual, InAsync, Block, Open, Loop, Call, Par, Branches, no_branch, branch, Instances, no_instance, instance}
use Rattle.ceu_tree.specs.World.{Cell, World, look}
use Rattle.ceu_tree.specs.Leaf.{Layer, code_at}
use Rattle.ceu_tree.specs.Legal.{called_code}
use Rattle.laws_meaning_slots.specs.Held.{is_of_kind}

module _ (codes : List KCode) (w : World) where
  abbrev pub cell_fits : KKind → Option Cell → Bool
  cell_fits k None = true
  cell_fits k (Some c) = is_of_kind w.given k c

  abbrev pub slot_fits : Body → ℕ → KKind → Bool
  slot_fits body slot k = cell_fits k (look body slot w.values)

  abbrev pub fits_declared : Body → List KDecl → Bool
  fits_declared body [] = true
  fits_declared body (d ∷ ds) = slot_fits body d.slot d.kind && fits_declared body ds

  abbrev pub fits_counted : Body → KLoop → Bool
  fits_counted body (turns.Range i next end open_a a b open_b) = slot_fits body i (kind.Var ty.S32)
  fits_counted body k = true

  abbrev pub fits_turning : Body → Layer → Bool
  fits_turning body (KStmt-F.Loop k b) = fits_counted body k
  fits_turning body layer = true

  abbrev pub fits_given : Body → Option KCode → Bool
  fits_given body None = true
  fits_given body (Some c) = fits_declared body c.params

  unfoldable mutual
    pub kinds_fit : Residual → Body → Bool
    kinds_fit (Block b fin all r rest) body = fits_declared body (out-KBlock b).decls && (kinds_fit_instances all && kinds_fit r body)
    kinds_fit (Open s r) body = kinds_fit r body
    kinds_fit (Loop s c r) body = fits_turning body (out-KStmt s.stmt) && kinds_fit r body
    kinds_fit (Call s r) body = fits_given (Awaited body s.node) (called_code codes (out-KStmt s.stmt)) && kinds_fit r (Awaited body s.node)
    kinds_fit (Par s bs) body = kinds_fit_branches bs body
    kinds_fit (InAsync s served r) body = kinds_fit r body
    kinds_fit r body = true

    pub kinds_fit_branches : Branches → Body → Bool
    kinds_fit_branches no_branch body = true
    kinds_fit_branches (branch r more) body = kinds_fit r body && kinds_fit_branches more body

    pub kinds_fit_instances : Instances → Bool
    kinds_fit_instances no_instance = true
    kinds_fit_instances (instance seat r more) = fits_given (Spawned seat.number) (code_at seat.code codes) && (kinds_fit r (Spawned seat.number) && kinds_fit_instances more)
