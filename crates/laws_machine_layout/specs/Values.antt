-- How the values of the open bodies stand in the machine's slots, and a whole configuration in its memory.
use Rattle.std.specs.Prelude.{◌≡◌, ◌≢◌, ℕ, ◌+◌, ◌^◌, ◌%◌, ◌⊎◌, true, false, List, [], ◌∷◌, Some}
use Rattle.ceu_code.specs.Instructions.{cell}
use Rattle.ceu_code.specs.declared.image.Image.{Image}
use Rattle.ceu_isa.specs.Layout.{state_of, top_of, given_of, waiting, reacting, slots_at}
use Rattle.ceu_tree.specs.Residual.{Body, Program, Spawned, Residual}
use Rattle.ceu_tree.specs.World.{Cell, Holds, NotSet, Names, World, look, is_among}
use Rattle.laws_machine_layout.specs.Tables.{Tables}
use Rattle.laws_machine_layout.specs.Views.{View, view, Home}
use Rattle.laws_machine_layout.specs.Stands.{Stands}

-- An alias names an instance by the address of its place and its number. Where the instance lives no longer, the place is free or another's.
pub record AliasStands (home : Body → Home) (v : View) (w : World) (number at : ℕ) : Type 0 where
  pub number_is : v.number 4 (at + 4) ≡ number
  pub is_set : v.number 4 at ≢ 0
  pub lives : is_among number w.living ≡ true → v.number 4 at + 9 ≡ (home (Spawned number)).frame
  pub is_gone : is_among number w.living ≡ false → (v.number 1 (v.number 4 at) ≡ 0) ⊎ (v.number 4 (v.number 4 at + 1) ≢ number)

abbrev pub CellStands : (home : Body → Home) → View → World → Cell → (width at : ℕ) → Type 0
CellStands home v w (Holds value) width at = v.number width at ≡ cell value % 256 ^ width
CellStands home v w NotSet width at = v.number 4 at ≡ 0
CellStands home v w (Names number) width at = AliasStands home v w number at

-- every slot that has a value holds it, at its place in the frame of its body
pub record ValuesStand (t : Tables) (home : Body → Home) (v : View) (w : World) : Type 0 where
  pub held : (body : Body) (slot : ℕ) (c : Cell) → look body slot w.values ≡ Some c → CellStands home v w c (t.width slot) ((home body).frame + t.offset slot)

-- Between two turns, at a level, and between two commands.
pub record MemoryStands (image : Image) (t : Tables) (home : Body → Home) (r : Residual) (w : World) (bytes : List ℕ) : Type 0 where
  pub program : home Program ≡ record { frame = slots_at image; base = 0 }
  pub tree : Stands t home (view image bytes) r Program 0 image.gates
  pub values : ValuesStand t home (view image bytes) w
  pub given : given_of bytes ≡ w.given

pub record WaitingStands (image : Image) (t : Tables) (r : Residual) (w : World) (bytes : List ℕ) : Type 0 where
  pub home : Body → Home
  pub memory : MemoryStands image t home r w bytes
  pub state_is : state_of bytes ≡ waiting

pub record BetweenStands (image : Image) (t : Tables) (level : ℕ) (r : Residual) (w : World) (bytes : List ℕ) : Type 0 where
  pub home : Body → Home
  pub memory : MemoryStands image t home r w bytes
  pub state_is : state_of bytes ≡ reacting
  pub top_is : top_of bytes ≡ level
