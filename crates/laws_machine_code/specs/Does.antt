-- What a trail does by instructions that a finalizer may do as well and that leave no mark, as those of expressions.
use Rattle.std.specs.Prelude.{◌≡◌, ◌⊎◌, ℕ, ◌+◌, ◌<◌, ◌≤◌, ℤ, true, List, [], length, slice_index, Some, Ok, Err}
use Rattle.ceu_base.specs.declared.kinds.Fault.{Fault}
use Rattle.ceu_base.specs.declared.kinds.Pos.{Pos}
use Rattle.ceu_code.specs.declared.image.Image.{Image}
use Rattle.ceu_code.specs.declared.instr.Instr.{Instr}
use Rattle.ceu_code.specs.Instructions.{cell}
use Rattle.ceu_mem.specs.Bytes.{number_at}
use Rattle.ceu_isa.specs.declared.registers.Registers.{Registers}
use Rattle.ceu_isa.specs.Layout.{cell_at, gates_at}
use Rattle.ceu_isa.specs.Fetching.{fetched}
use Rattle.ceu_isa.specs.Effects.{Goes, Faults}
use Rattle.ceu_isa.specs.Rows.{effect, in_finalizers}
use Rattle.ceu_isa.specs.Turns.{behind}
use Rattle.ceu_tree.specs.Expressions.{Answer}

pub data Does (image : Image) : (r : Registers) (bytes : List ℕ) (q : Registers) (after : List ℕ) → Type 0 where
  stays : {r : Registers} {bytes : List ℕ} → Does image r bytes r bytes
  goes : {r q s : Registers} {bytes between after : List ℕ} (i : Instr) → fetched image r.at ≡ Some i → in_finalizers i ≡ true → effect image i (behind i r) bytes ≡ Goes s between [] → Does image s between q after
      → Does image r bytes q after

-- how many instructions
abbrev pub steps_of : {image : Image} {r q : Registers} {bytes after : List ℕ} → Does image r bytes q after → ℕ
steps_of stays = 0
steps_of (goes i f m e rest) = steps_of rest + 1

-- Such instructions, and then one that faults. It stands before an offset, and the trail goes forward in the code.
pub record Fails (image : Image) (r : Registers) (bytes : List ℕ) (to : ℕ) (fault : Fault) (place : Pos) : Type 0 where
  pub at : Registers
  pub there : List ℕ
  pub does : Does image r bytes at there
  pub few : steps_of does + r.at < to
  pub last : Instr
  pub last_is : fetched image at.at ≡ Some last
  pub last_may : in_finalizers last ≡ true
  pub faults : effect image last (behind last at) there ≡ Faults fault place

-- only evaluation cells from one on have changed
pub record Kept (image : Image) (cell : ℕ) (old new : List ℕ) : Type 0 where
  pub size : length new ≡ length old
  pub outside : (i : ℕ) → (i < cell_at cell) ⊎ (gates_at image ≤ i) → slice_index new i ≡ slice_index old i

-- Goes on at an offset with a value in the next cell, and goes forward in the code.
pub record Pushes (image : Image) (r : Registers) (bytes : List ℕ) (to : ℕ) (value : ℤ) : Type 0 where
  pub after : List ℕ
  pub does : Does image r bytes (record r { at = to; depth = r.depth + 1 }) after
  pub few : steps_of does + r.at ≤ to
  pub kept : Kept image r.depth bytes after
  pub holds : number_at 8 after (cell_at r.depth) ≡ cell value

-- pushes a value, or faults at a position
abbrev pub Gives : (image : Image) (r : Registers) (bytes : List ℕ) (to : ℕ) → Answer → Type 0
Gives image r bytes to (Ok value) = Pushes image r bytes to value
Gives image r bytes to (Err fault) = Fails image r bytes to fault.0 fault.1
