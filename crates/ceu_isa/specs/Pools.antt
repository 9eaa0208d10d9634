-- Awaited code, pools and instances. A frame begins with a link of 8 bytes: where its caller goes on (65,535 for an instance), and the frame and
-- the gate base of its caller or spawner. A place of a pool has 9 bytes before its frame: whether it is taken, its spawn number, its first gate,
-- and the number of its pool.
use Rattle.std.specs.Prelude.{ℕ, suc, zero, ◌+◌, ◌-◌, ◌*◌, nat_lt, nat_le, ◌==◌, Bool, true, false, ◌&&◌, ◌||◌, if◌then◌else◌, List, [], ◌∷◌, length, Option, Some, None, option_and_then, slice_get}
use Rattle.ceu_base.specs.declared.kinds.Ty.{Ty}
use Rattle.ceu_base.specs.declared.kinds.Pos.{Pos}
use Rattle.ceu_base.specs.declared.kinds.Fault.TheVariants.{SpawnCount}
use Rattle.ceu_base.specs.declared.kinds.Mark.TheVariants.{Push, Spawned, Full}
use Rattle.ceu_base.specs.Values.{of_test}
use Rattle.ceu_code.specs.declared.image.Image.{Image}
use Rattle.ceu_code.specs.declared.image.CodeRow.{CodeRow}
use Rattle.ceu_mem.specs.declared.gate.Gate.{Gate}
use Rattle.ceu_mem.specs.Bytes.{number_at, with_number}
use Rattle.ceu_mem.specs.Memory.{size, with_value}
use Rattle.ceu_isa.specs.declared.registers.Registers.{Registers}
use Rattle.ceu_isa.specs.Layout.{in_slots, gate_of, gate_changed, can_run, is_taken, given_of, with_given, top_of}
use Rattle.ceu_isa.specs.Effects.{Effect, Wrong, Goes, Pauses, Faults, Aborts, Frees, provided, for_some}
use Rattle.ceu_isa.specs.Cells.{popped, pushed}
use Rattle.ceu_isa.specs.Slots.{here}
use Rattle.ceu_isa.specs.Trails.{opened, can_open, gate_here}

-- ---- links

abbrev pub return_of : List ℕ → (frame : ℕ) → ℕ
return_of bytes frame = number_at 2 bytes frame

abbrev pub outer_frame : List ℕ → (frame : ℕ) → ℕ
outer_frame bytes frame = number_at 2 bytes (frame + 2)

abbrev pub outer_base : List ℕ → (frame : ℕ) → ℕ
outer_base bytes frame = number_at 2 bytes (frame + 4)

unfoldable pub linked : (back frame base : ℕ) → (at : ℕ) → List ℕ → List ℕ
linked back frame base at bytes = with_number 2 0 (with_number 2 base (with_number 2 frame (with_number 2 back bytes at) (at + 2)) (at + 4)) (at + 6)

-- ---- arguments, which are popped from the last to the first

pub record Filled : Type 0 where
  pub registers : Registers
  pub bytes : List ℕ

abbrev pub filled_by : Image → Ty → (at : ℕ) → Filled → Option Filled
filled_by image t at f =
    option_and_then (λ a. if in_slots image at (size t) then Some (record { registers = a.registers; bytes = with_value t a.value f.bytes at }) else None)
    (popped image t f.registers f.bytes)

-- parameters of these types, one after the other from a place on, with the arguments in them
unfoldable pub filled : Image → List Ty → (at : ℕ) → Registers → List ℕ → Option Filled
filled image [] at r bytes = Some (record { registers = r; bytes = bytes })
filled image (t ∷ ts) at r bytes = option_and_then (filled_by image t at) (filled image ts (at + size t) r bytes)

-- ---- awaited code

abbrev pub enter : Image → CodeRow → (frame base : ℕ) → Registers → Filled → Effect
enter image row frame base r f =
    Goes (record f.registers { at = row.entry; frame = frame; base = base }) (linked r.at r.frame r.base frame f.bytes) []

abbrev pub call_row : Image → (code slot g : ℕ) → Registers → List ℕ → Effect
call_row image code slot g r bytes =
    for_some (slice_get image.codes code) (λ row. for_some (filled image row.params (here r slot + 8) r bytes)
    (λ f. provided (in_slots image (here r slot) 8 && nat_lt (gate_here r g) image.gates) (enter image row (here r slot) (gate_here r g) r f)))

-- to the caller, or the end of an instance, whose place becomes free
abbrev pub return_row : Image → Registers → List ℕ → Effect
return_row image r bytes =
    provided (in_slots image r.frame 8)
    (if return_of bytes r.frame == 65535 then provided (in_slots image (r.frame - 9) 9 && nat_le 9 r.frame) (Pauses (with_number 1 0 bytes (r.frame - 9)) [])
    else Goes (record r { at = return_of bytes r.frame; frame = outer_frame bytes r.frame; base = outer_base bytes r.frame }) bytes [])

-- ---- pools

abbrev pub code_of_pool : Image → (pool : ℕ) → Option CodeRow
code_of_pool image pool = option_and_then (λ code. slice_get image.codes code) (slice_get image.pools pool)

-- the bytes of a place
abbrev pub place_size : CodeRow → ℕ
place_size row = 9 + row.frame

-- a free place; its number stays
unfoldable pub vacant : (pool gate : ℕ) → (at : ℕ) → List ℕ → List ℕ
vacant pool gate at bytes = with_number 2 pool (with_number 2 gate (with_number 1 0 bytes at) (at + 5)) (at + 7)

-- n places one after the other, each with the gates behind those of the place before
unfoldable pub vacancies : (n pool : ℕ) → CodeRow → (gate at : ℕ) → List ℕ → List ℕ
vacancies zero pool row gate at bytes = bytes
vacancies (suc n) pool row gate at bytes = vacancies n pool row (gate + row.gates) (at + place_size row) (vacant pool gate at bytes)

abbrev pub pool_row : Image → (slot n pool g : ℕ) → Registers → List ℕ → Effect
pool_row image slot n pool g r bytes =
    for_some (code_of_pool image pool)
    (λ row. provided (in_slots image (here r slot) (n * place_size row) && nat_le (gate_here r g + n * row.gates) image.gates)
    (Goes r (vacancies n pool row (gate_here r g) (here r slot) bytes) []))

-- ---- aliases: the address of a place and a spawn number, both 0 where not set

abbrev pub no_alias : ℕ
no_alias = 65535

abbrev pub has_alias : Image → Registers → (alias : ℕ) → Bool
has_alias image r alias = (alias == no_alias) || in_slots image (here r alias) 8

unfoldable pub alias_set : Registers → (alias place number : ℕ) → List ℕ → List ℕ
alias_set r alias place number bytes =
    if alias == no_alias then bytes else with_number 4 number (with_number 4 place bytes (here r alias)) (here r alias + 4)

-- ---- spawning

-- the lowest free one of n places
unfoldable pub free_place : (n place_size at : ℕ) → List ℕ → Option ℕ
free_place zero space at bytes = None
free_place (suc n) space at bytes = elim (number_at 1 bytes at == 0) [ true ↦ Some at | false ↦ free_place n space (at + space) bytes ]

-- a place is taken, and its instance can run
unfoldable pub seated : (number : ℕ) → Registers → (place : ℕ) → List ℕ → List ℕ
seated number r place bytes = linked 65535 r.frame r.base (place + 9) (with_number 4 number (with_number 1 1 bytes place) (place + 1))

abbrev pub begun_at : (entry level place first : ℕ) → Gate → Gate
begun_at entry level place first gate = record gate { kind = can_run; level = level; code = entry; frame = place + 9; base = first }

unfoldable pub instance_begun : Image → (entry level number alias place first : ℕ) → Registers → List ℕ → List ℕ
instance_begun image entry level number alias place first r bytes =
    gate_changed image (begun_at entry level place first) first (alias_set r alias place number (seated number r place (with_given number bytes)))

-- the instance is the only trail of the next level
abbrev pub spawn_in : Image → CodeRow → (alias place first : ℕ) → Registers → List ℕ → Effect
spawn_in image row alias place first r bytes =
    for_some (filled image row.params (place + 17) r bytes)
    (λ f. provided (((in_slots image place 17 && nat_lt first image.gates) && can_open image r bytes) && has_alias image r alias)
    (Pauses (opened image (top_of bytes) r (instance_begun image row.entry (top_of bytes + 1) (given_of bytes + 1) alias place first r f.bytes))
    (Spawned (given_of bytes + 1) ∷ Push (top_of bytes + 1) ∷ [])))

-- no place is free: the arguments are dropped
abbrev pub spawn_nowhere : Image → CodeRow → (alias : ℕ) → Registers → List ℕ → Effect
spawn_nowhere image row alias r bytes =
    provided ((nat_le (length row.params) r.depth && nat_le r.depth image.depth) && has_alias image r alias)
    (Goes (record r { depth = r.depth - length row.params }) (alias_set r alias 0 0 bytes) (Full ∷ []))

unfoldable pub spawn_at : Image → CodeRow → Option ℕ → (alias : ℕ) → Pos → Registers → List ℕ → Effect
spawn_at image row None alias p r bytes = spawn_nowhere image row alias r bytes
spawn_at image row (Some place) alias p r bytes =
    if given_of bytes == 4294967295 then Faults SpawnCount p else spawn_in image row alias place (number_at 2 bytes (place + 5)) r bytes

-- into one of n places from an address on
abbrev pub spawn_among : Image → CodeRow → (n at alias : ℕ) → Pos → Registers → List ℕ → Effect
spawn_among image row n at alias p r bytes =
    provided (in_slots image at (n * place_size row)) (spawn_at image row (free_place n (place_size row) at bytes) alias p r bytes)

abbrev pub spawn_row : Image → (code slot n alias position : ℕ) → Registers → List ℕ → Effect
spawn_row image code slot n alias position r bytes =
    for_some (slice_get image.codes code) (λ row. for_some (slice_get image.places position) (λ p. spawn_among image row n (here r slot) alias p r bytes))

-- ---- does an instance live, and killing it

-- some of the n gates from one on isn't free
unfoldable pub some_taken : Image → List ℕ → (from n : ℕ) → Bool
some_taken image bytes from zero = false
some_taken image bytes from (suc n) = elim (is_taken (gate_of image bytes from)) [ true ↦ true | false ↦ some_taken image bytes (suc from) n ]

pub data Life : Type 0 where
  Unclear : Life  -- the alias leads to no place of the slots, to no pool, or to no gates
  Over : Life
  Lives : (place from count : ℕ) → Life  -- in this place, with so many gates from one on

abbrev pub life_of_gates : Image → List ℕ → (place from count : ℕ) → Life
life_of_gates image bytes place from count =
    if nat_le (from + count) image.gates then (if some_taken image bytes from count then Lives place from count else Over) else Unclear

abbrev pub life_in : Image → List ℕ → (place : ℕ) → Option CodeRow → Life
life_in image bytes place None = Unclear
life_in image bytes place (Some row) = life_of_gates image bytes place (number_at 2 bytes (place + 5)) row.gates

-- a place lives with a number where it is taken, has this number, and not all of its gates are free
abbrev pub life_at : Image → List ℕ → (place number : ℕ) → Life
life_at image bytes place number =
    if in_slots image place 9
    then (if (number_at 1 bytes place == 1) && (number_at 4 bytes (place + 1) == number) then life_in image bytes place (code_of_pool image (number_at 2 bytes (place + 7))) else Over)
    else Unclear

unfoldable pub life_of : Image → List ℕ → (alias : ℕ) → Life
life_of image bytes alias =
    if in_slots image alias 8
    then (if number_at 4 bytes alias == 0 then Over else life_at image bytes (number_at 4 bytes alias) (number_at 4 bytes (alias + 4)))
    else Unclear

abbrev pub killed : Life → Registers → List ℕ → Effect
killed Unclear r bytes = Wrong
killed Over r bytes = Goes r bytes []
killed (Lives place from count) r bytes = Aborts from count (Frees place)

abbrev pub kill_row : Image → (slot : ℕ) → Registers → List ℕ → Effect
kill_row image slot r bytes = killed (life_of image bytes (here r slot)) r bytes

abbrev pub told : Image → Life → Registers → List ℕ → Effect
told image Unclear r bytes = Wrong
told image Over r bytes = pushed image (of_test false) r bytes
told image (Lives place from count) r bytes = pushed image (of_test true) r bytes

abbrev pub alive_row : Image → (slot : ℕ) → Registers → List ℕ → Effect
alive_row image slot r bytes = told image (life_of image bytes (here r slot)) r bytes
