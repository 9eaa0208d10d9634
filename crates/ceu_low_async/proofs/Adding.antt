-- The lines of an async, added to a sheet, are those of its definition.
use Rattle.std.proofs.Common.{◌≡◌, ℕ, ◌++◌, Result, Ok, Err, OnOk}
use Rattle.ceu_base.specs.declared.kinds.Pos.{Pos}
use Rattle.ceu_tree.specs.declared.kernel.Kernel.{Kernel}
use Rattle.ceu_tree.specs.declared.kernel.KStmt.{KStmt, Async}
use Rattle.ceu_asm.specs.declared.line.Labels.{Labels}
use Rattle.ceu_asm.specs.Pages.{Page}
use Rattle.ceu_shape.specs.Plans.{Plan}
use Rattle.ceu_shape.specs.Pieces.{Added}
use Rattle.ceu_shape.specs.Shape.{node_draft}
use Rattle.ceu_shape.specs.Async.{async_lines}
use Rattle.ceu_shape.proofs.Adding.{added_stopping}
use Rattle.ceu_low_async.specs.Conditions.{IsAsync}

pub on_ok : {T E A B : Type 0} → (r : Result T E) → (A → B) → OnOk r A → OnOk r B
on_ok (Ok v) f h = f h
on_ok (Err e) f h = h

pub async_added : (P : Plan) (K : Kernel) (n : ℕ) (p : Pos) (s : KStmt) (labels : Labels) (old new : Page) → IsAsync s → new ≡ record old { lines = old.lines ++ async_lines P n labels } →
    Added old new (node_draft P K n p s labels)
async_added P K n p (Async b) labels old new h e = added_stopping old new _ (async_lines P n labels) e
async_added P K n p _ labels old new h e = absurd h
