-- The lines of `par`, `par/or` and `par/and`. The trail goes on as the first branch; the others can run at its level.
use Rattle.std.specs.Prelude.{ℕ, ◌+◌, pos, List, [], ◌∷◌, ◌++◌, length}
use Rattle.ceu_base.specs.declared.kinds.Ty.TheVariants as ty
use Rattle.ceu_tree.specs.declared.kernel.ParKind.{ParKind}
use Rattle.ceu_tree.specs.declared.kernel.ParKind.TheVariants as par
use Rattle.ceu_code.specs.declared.instr.Instr.TheVariants as instr
use Rattle.ceu_asm.specs.declared.line.Line.{Line}
use Rattle.ceu_asm.specs.declared.line.Line.TheVariants as line
use Rattle.ceu_asm.specs.declared.line.Labels.{Labels}
use Rattle.ceu_shape.specs.Plans.{Plan}
use Rattle.ceu_shape.specs.Pieces.{Draft, Stop, stop, Finishes, text, stopping, taking}
use Rattle.ceu_shape.specs.Words.{mark, plain, goto, goto_if_false, begin_of, end_of, move_to, abort}

-- `branches` are the nodes of the branches from the part `k` on
module _ (P : Plan) (labels : Labels) where
  abbrev pub forks : (k : ℕ) → (branches : List ℕ) → List Line
  forks k [] = []
  forks k (b ∷ bs) = line.Jump (instr.Fork (P.first b) 0) (begin_of labels k) ∷ forks (k + 1) bs

  abbrev pub rest : List ℕ → List ℕ
  rest [] = []
  rest (b ∷ bs) = bs

  -- to the gate of the first branch
  abbrev pub move_to_first : List ℕ → List Line
  move_to_first [] = []
  move_to_first (b ∷ bs) = move_to P b ∷ []

  -- the other branches come behind the first
  abbrev pub forked : List ℕ → List Line
  forked branches = forks 1 (rest branches) ++ (goto (begin_of labels 0) ∷ [])

  -- ---- par: an ended branch waits for ever, at its first gate

  abbrev pub waiting_ends : (k : ℕ) → List ℕ → List Line
  waiting_ends k [] = []
  waiting_ends k (b ∷ bs) = (mark (end_of labels k) ∷ move_to P b ∷ plain instr.WaitForever ∷ []) ++ waiting_ends (k + 1) bs

  abbrev pub waiting_stops : (k : ℕ) → List ℕ → List Stop
  waiting_stops k [] = []
  waiting_stops k (b ∷ bs) = stop Finishes b (end_of labels k) 4 ∷ waiting_stops (k + 1) bs

  abbrev pub never_lines : List ℕ → List Line
  never_lines branches = (mark labels.own ∷ move_to_first branches) ++ (forked branches ++ waiting_ends 0 branches)

  -- ---- par/or: a branch that ends aborts the others

  abbrev pub ends : (k : ℕ) → List ℕ → List Line
  ends k [] = []
  ends k (b ∷ bs) = mark (end_of labels k) ∷ ends (k + 1) bs

  abbrev pub or_lines : (node : ℕ) → List ℕ → List Line
  or_lines n branches = (mark labels.own ∷ move_to_first branches) ++ (forked branches ++ (ends 0 branches ++ (abort P n ∷ goto labels.next ∷ [])))

  -- ---- par/and: each branch has a byte that says that it has ended; the last one to end goes on

  abbrev pub cleared : (slot : ℕ) → List ℕ → List Line
  cleared slot [] = []
  cleared slot (b ∷ bs) = plain (instr.Push ty.Bool (pos 0)) ∷ plain (instr.Store ty.Bool (P.offset slot)) ∷ cleared (slot + 1) bs

  abbrev pub set_ends : (k slot join : ℕ) → List ℕ → List Line
  set_ends k slot join [] = []
  set_ends k slot join (b ∷ bs) =
      (mark (end_of labels k) ∷ plain (instr.Push ty.Bool (pos 1)) ∷ plain (instr.Store ty.Bool (P.offset slot)) ∷ goto join ∷ []) ++ set_ends (k + 1) (slot + 1) join bs

  abbrev pub tests : (slot halt : ℕ) → List ℕ → List Line
  tests slot halt [] = []
  tests slot halt (b ∷ bs) = plain (instr.Load ty.Bool (P.offset slot)) ∷ goto_if_false halt ∷ tests (slot + 1) halt bs

  abbrev pub and_lines : (slot : ℕ) → List ℕ → (join : ℕ) → List Line
  and_lines slot branches join =
      (mark labels.own ∷ move_to_first branches) ++ (cleared slot branches ++ (forked branches ++ (set_ends 0 slot join branches ++
      ((mark join ∷ tests slot (join + 1) branches) ++ (goto labels.next ∷ mark (join + 1) ∷ plain instr.Halt ∷ [])))))

  abbrev pub par_draft : (node : ℕ) → ParKind → (slot : ℕ) → (branches : List ℕ) → Draft
  par_draft n par.Never slot branches = stopping (waiting_stops 0 branches) (never_lines branches)
  par_draft n par.Or slot branches = text (or_lines n branches)
  par_draft n par.And slot branches = taking 2 (λ join. text (and_lines slot branches join))
