-- Reactions: turn after turn, the first gate that can run at the top level, and levels that close.
use Rattle.std.specs.Prelude.{ℤ, ℕ, suc, zero, List, [], ◌∷◌}
use Rattle.ceu_base.specs.declared.kinds.Ty.TheVariants as ty
use Rattle.ceu_base.specs.declared.kinds.Fault.{Fault}
use Rattle.ceu_base.specs.declared.kinds.Pos.{Pos}
use Rattle.ceu_base.specs.declared.kinds.Mark.TheVariants.{Resume, Pop}
use Rattle.ceu_code.specs.declared.image.Image.{Image}
use Rattle.ceu_mem.specs.Memory.{value_at}
use Rattle.ceu_isa.specs.Layout.{with_state, waiting, reacting, top_of, with_top, scratch_at, runs_at, gates_from}
use Rattle.ceu_isa.specs.Order.{Choice, Nowhere, Unclear, Chosen, first_of}
use Rattle.ceu_isa.specs.Turns.{Machine, changed, rewritten, State, Stuck, Trail, Sweeping, Finalizer, Paused, Ended, Faulted, turned}

-- a machine between two commands
pub data Config : Type 0 where
  Lost : Config  -- something was done that isn't allowed
  Waits : Machine → Config
  HasEnded : (value : ℤ) → Machine → Config
  HasFaulted : Fault → Pos → Machine → Config

-- ---- the next turn

pub data Next : Type 0 where
  Nothing : Next  -- it isn't clear which gate comes first
  AllClosed : Machine → Next  -- no gate can run at level 0
  Resumes : (gate level : ℕ) → Machine → Next

abbrev pub first_at : Image → (level : ℕ) → List ℕ → Choice
first_at image level bytes = first_of image bytes (gates_from image bytes (runs_at level) 0 image.gates)

-- where none can run at the top level, it closes
unfoldable pub next_turn : Image → (level : ℕ) → Machine → Next
next_turn image zero m = elim (first_at image 0 m.bytes) [
  | Nowhere ↦ AllClosed m
  | Unclear ↦ Nothing
  | Chosen g ↦ Resumes g 0 m
]
next_turn image (suc n) m = elim (first_at image (suc n) m.bytes) [
  | Nowhere ↦ next_turn image n (changed (with_top n m.bytes) (Pop (suc n) ∷ []) m)
  | Unclear ↦ Nothing
  | Chosen g ↦ Resumes g (suc n) m
]

abbrev pub next : Image → Machine → Next
next image m = next_turn image (top_of m.bytes) m

-- ---- a reaction

abbrev pub resumed : Image → (gate level : ℕ) → Machine → State
resumed image g level m = turned image g (changed m.bytes (Resume level ∷ []) m)

abbrev pub value_of_end : Machine → ℤ
value_of_end m = value_at ty.S64 m.bytes scratch_at

-- with at most so many turns
unfoldable pub reaction : Image → (turns : ℕ) → Machine → Config
reaction image zero m = elim (next image m) [
  | Nothing ↦ Lost
  | AllClosed k ↦ Waits (rewritten (with_state waiting k.bytes) k)
  | Resumes g level k ↦ Lost
]
reaction image (suc n) m = elim (next image m) [
  | Nothing ↦ Lost
  | AllClosed k ↦ Waits (rewritten (with_state waiting k.bytes) k)
  | Resumes g level k ↦ elim (resumed image g level k) [
    | Paused j ↦ reaction image n j
    | Ended j ↦ HasEnded (value_of_end j) j
    | Faulted f p j ↦ HasFaulted f p j
    | Stuck ↦ Lost
    | Trail r j ↦ Lost
    | Sweeping s j ↦ Lost
    | Finalizer s r j ↦ Lost
  ]
]

-- a reaction begins
abbrev pub reacts : Image → Machine → Config
reacts image m = reaction image image.turns (rewritten (with_state reacting m.bytes) m)
