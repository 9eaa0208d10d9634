-- The laws: what an occurrence makes of the leaves, the machine makes of the gates; and a tree stands just where the frames around one of its parts and
-- that part do.
use Rattle.std.specs.Prelude.{◌≡◌, ℕ, ◌<◌, ℤ, false, List, slice_index}
use Rattle.ceu_code.specs.declared.image.Image.{Image}
use Rattle.ceu_isa.specs.Commands.{input_given, time_passed, timers_woken, round_begun}
use Rattle.ceu_isa.specs.Safety.{Fits}
use Rattle.ceu_isa.specs.Turns.{Machine}
use Rattle.ceu_tree.specs.Residual.{Body, Act, Residual}
use Rattle.ceu_tree.specs.World.{World}
use Rattle.ceu_tree.specs.Focus.{Focus, plug}
use Rattle.ceu_tree.specs.Wake.{each_leaf, by_input, later, by_time, new_round}
use Rattle.ceu_tree.specs.Around.{is_over}
use Rattle.laws_machine_layout.specs.Tables.{Tables}
use Rattle.laws_machine_layout.specs.Views.{View, Home}
use Rattle.laws_machine_layout.specs.Stands.{Stands}
use Rattle.laws_machine_layout.specs.Frames.{Spot, FocusStands}
use Rattle.laws_machine_layout.specs.Values.{MemoryStands}

-- each one is a byte
abbrev pub AreBytes : List ℕ → Type 0
AreBytes bytes = (i : ℕ) → slice_index bytes i < 256

module _ (image : Image) (t : Tables) (home : Body → Home) (r : Residual) (w : World) (m : Machine) where
  -- the memory of the image, and what stands in it
  abbrev Stood : Type 0
  Stood = Fits image m.bytes × AreBytes m.bytes × MemoryStands image t home r w m.bytes

  abbrev pub InputStands : Type 0
  InputStands = (k : ℕ) (value : ℤ) → Stood → MemoryStands image t home (each_leaf (by_input k value) r) w (input_given image k value m).bytes

  abbrev pub TimeStands : Type 0
  TimeStands = (d : ℕ) → Stood → MemoryStands image t home (each_leaf (later d) r) w (time_passed image d m).bytes

  abbrev pub DueStands : Type 0
  DueStands = (delay : ℕ) → Stood → MemoryStands image t home (each_leaf (by_time delay) r) w (timers_woken image delay m).bytes

  abbrev pub RoundStands : Type 0
  RoundStands = Stood → MemoryStands image t home (each_leaf new_round r) w (round_begun image m).bytes

-- ---- parts in focus

module _ (t : Tables) (home : Body → Home) (v : View) (f : Focus Act) (body : Body) (low high : ℕ) (q : Residual) where
  abbrev pub PlugStands : Type 0
  PlugStands = (d : Spot) → FocusStands t home v f body low high d → Stands t home v q d.body d.low d.high → Stands t home v (plug f q) body low high

  -- of a part that hasn't ended
  abbrev pub UnplugStands : Type 0
  UnplugStands = is_over q ≡ false → Stands t home v (plug f q) body low high → (d : Spot) × FocusStands t home v f body low high d × Stands t home v q d.body d.low d.high
