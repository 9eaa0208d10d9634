-- The lines of an async, and of a finalizer.
use Rattle.std.specs.Prelude.{ℕ, List, [], ◌∷◌}
use Rattle.ceu_base.specs.declared.kinds.Pos.{Pos}
use Rattle.ceu_code.specs.declared.instr.Instr.TheVariants as instr
use Rattle.ceu_asm.specs.declared.line.Line.{Line}
use Rattle.ceu_asm.specs.declared.line.Line.TheVariants as line
use Rattle.ceu_asm.specs.declared.line.Labels.{Labels}
use Rattle.ceu_shape.specs.Plans.{Plan}
use Rattle.ceu_shape.specs.Pieces.{Draft, stop, Begins, Finishes, stopping, placed}
use Rattle.ceu_shape.specs.Words.{mark, plain, goto, begin_of, end_of, move_to}

module _ (P : Plan) where
  abbrev pub async_lines : (node : ℕ) → Labels → List Line
  async_lines n labels = mark labels.own ∷ move_to P n ∷ plain instr.StartAsync ∷ goto (begin_of labels 0) ∷ mark (end_of labels 0) ∷ plain instr.EndAsync ∷ goto labels.next ∷ []

  -- the body begins where the async is served first, behind the instruction that makes it an async
  abbrev pub async_draft : (node body : ℕ) → Labels → Draft
  async_draft n body labels = stopping (stop Begins body labels.own 4 ∷ stop Finishes n (end_of labels 0) 1 ∷ []) (async_lines n labels)

  -- the body is what an abort runs
  abbrev pub finalizer_lines : (node position : ℕ) → Labels → List Line
  finalizer_lines n position labels =
      mark labels.own ∷ line.Jump (instr.Register (P.first n) 0 position) (begin_of labels 0) ∷ goto labels.next ∷ mark (end_of labels 0) ∷ plain instr.EndFinalizer ∷ []

  abbrev pub finalizer_draft : (node : ℕ) → Pos → Labels → Draft
  finalizer_draft n p labels = placed p (λ position. finalizer_lines n position labels)
