-- The lines of statements on code: awaited code, spawns and kills. Arguments are pushed in their order.
use Rattle.std.specs.Prelude.{ℕ, suc, zero, ◌+◌, ◌-◌, pos, List, [], ◌∷◌, ◌++◌, length, Option, Some, None}
use Rattle.ceu_base.specs.declared.kinds.Ty.{Ty}
use Rattle.ceu_base.specs.declared.kinds.Ty.TheVariants as ty
use Rattle.ceu_base.specs.declared.kinds.Pos.{Pos}
use Rattle.ceu_tree.specs.declared.kernel.Kernel.{Kernel}
use Rattle.ceu_tree.specs.declared.kernel.Loc.{Loc}
use Rattle.ceu_code.specs.declared.instr.Instr.TheVariants as instr
use Rattle.ceu_asm.specs.declared.line.Line.{Line}
use Rattle.ceu_asm.specs.declared.line.Labels.{Labels}
use Rattle.ceu_shape.specs.Plans.{Plan}
use Rattle.ceu_shape.specs.Pieces.{Draft, Stop, stop, Finishes, text, stopping, placed_stopping}
use Rattle.ceu_shape.specs.Words.{mark, plain, goto, end_of, part, move_to}
use Rattle.ceu_shape.specs.Flow.{keep}
use Rattle.ceu_shape.specs.Searches.{result_ty, pool_size}

-- so many arguments from the part `k` on
abbrev pub argument_lines : Labels → (k count : ℕ) → List Line
argument_lines labels k zero = []
argument_lines labels k (suc count) = part labels k ++ argument_lines labels (k + 1) count

-- so many bytes behind the last argument, or behind the begin of a statement without arguments
abbrev pub stop_behind : (node count : ℕ) → Labels → (behind_begin behind_end : ℕ) → Stop
stop_behind n zero labels a b = stop Finishes n labels.own a
stop_behind n (suc count) labels a b = stop Finishes n (end_of labels count) b

module _ (P : Plan) where
  abbrev pub call_lines : (node code frame arguments : ℕ) → Ty → Option Loc → Labels → List Line
  call_lines n code frame arguments t target labels =
      (mark labels.own ∷ argument_lines labels 0 arguments) ++ ((plain (instr.Call code (P.offset frame) (P.first n)) ∷ keep P.offset t target) ++ (goto labels.next ∷ []))

  abbrev pub call_draft : Kernel → (node code frame arguments : ℕ) → Option Loc → Labels → Draft
  call_draft K n code frame arguments target labels =
      stopping (stop_behind n arguments labels 7 7 ∷ []) (call_lines n code frame arguments (result_ty K code) target labels)

  -- the alias, or that there is none
  abbrev pub alias_offset : Option ℕ → ℕ
  alias_offset None = 65535
  alias_offset (Some slot) = P.offset slot

  abbrev pub spawn_lines : (node code arguments pool size : ℕ) → (alias : Option ℕ) → (position : ℕ) → Labels → List Line
  spawn_lines n code arguments pool size alias position labels =
      (mark labels.own ∷ move_to P n ∷ argument_lines labels 0 arguments) ++ (plain (instr.Spawn code (P.offset pool) size (alias_offset alias) position) ∷ goto labels.next ∷ [])

  abbrev pub spawn_draft : Kernel → (node : ℕ) → Pos → (code arguments pool : ℕ) → (alias : Option ℕ) → Labels → Draft
  spawn_draft K n p code arguments pool alias labels =
      placed_stopping (stop_behind n arguments labels 14 11 ∷ []) p (λ position. spawn_lines n code arguments pool (pool_size K pool) alias position labels)

  abbrev pub kill_lines : (alias : ℕ) → Labels → List Line
  kill_lines alias labels = mark labels.own ∷ plain (instr.Kill (P.offset alias)) ∷ goto labels.next ∷ []

  -- an alias that isn't set is 0
  abbrev pub unset_lines : (alias : ℕ) → Labels → List Line
  unset_lines alias labels = mark labels.own ∷ plain (instr.Push ty.U64 (pos 0)) ∷ plain (instr.Store ty.U64 (P.offset alias)) ∷ goto labels.next ∷ []
