-- Steps of the machine that are counted.
use Rattle.std.specs.Prelude.{◌≡◌, ℕ, ◌≤◌, ◌<◌, List, length, slice_index}
use Rattle.ceu_code.specs.declared.image.Image.{Image}
use Rattle.ceu_isa.specs.declared.registers.Registers.{Registers}
use Rattle.ceu_isa.specs.Layout.{gates_at, slots_at}
use Rattle.ceu_isa.specs.Turns.{State, ticks}
use Rattle.laws_machine_layout.specs.Laws.{AreBytes}

-- from one state to another in at most n steps
pub record Runs (image : Image) (n : ℕ) (from to : State) : Type 0 where
  pub count : ℕ
  pub few : count ≤ n
  pub comes : ticks image count from ≡ to

-- only evaluation cells and the header's value have changed
pub record Unseen (image : Image) (old new : List ℕ) : Type 0 where
  pub size : length new ≡ length old
  pub are_bytes : AreBytes new
  pub header : (i : ℕ) → i < 8 → slice_index new i ≡ slice_index old i
  pub behind : (i : ℕ) → gates_at image ≤ i → slice_index new i ≡ slice_index old i

-- the registers of the only trail
abbrev pub trail_at : Image → (at depth : ℕ) → Registers
trail_at image at depth = record { own = 0; at = at; frame = slots_at image; base = 0; depth = depth }
