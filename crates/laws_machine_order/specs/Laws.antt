-- The laws: of the gates at which trails can run, the machine resumes that of the leaf which the reference semantics resumes; and so it serves asyncs.
use Rattle.std.specs.Prelude.{◌≡◌, ℕ, ◌<◌, false, List, Option, Some, None}
use Rattle.ceu_code.specs.declared.image.Image.{Image}
use Rattle.ceu_isa.specs.Order.{Choice, Nowhere, Chosen}
use Rattle.ceu_isa.specs.Reactions.{first_at}
use Rattle.ceu_isa.specs.Commands.{first_unserved}
use Rattle.ceu_tree.specs.declared.kernel.KCode.{KCode}
use Rattle.ceu_tree.specs.Residual.{Body, Program, Act, Residual, Run, InAsync}
use Rattle.ceu_tree.specs.World.{World}
use Rattle.ceu_tree.specs.Focus.{Focus, leaf, choose}
use Rattle.ceu_tree.specs.Wake.{runs_at, Unserved, unserved}
use Rattle.ceu_tree.specs.Legal.{Seated, seats, open_slots}
use Rattle.laws_meaning_instances.specs.Instances.{TreeStands, pools_stand}
use Rattle.laws_machine_layout.specs.Tables.{Tables}
use Rattle.laws_machine_layout.specs.Views.{view, Home}
use Rattle.laws_machine_layout.specs.Stands.{Stands}
use Rattle.laws_machine_layout.specs.Frames.{spot, FocusStands}
use Rattle.laws_machine_layout.specs.Values.{MemoryStands}
use Rattle.laws_machine_order.specs.Laid.{Laid, InOrder}
use Rattle.laws_machine_order.specs.Told.{Owners, TablesTell, Owned, OlderInBody, EachOnce}

-- Of two instances that the machine takes for those of one pool, by its row and the spawner's frame, the one before is older.
abbrev pub OlderBefore : Tables → (Body → Home) → Seated → Seated → Type 0
OlderBefore t home x y = t.pool x.seat.pool ≡ t.pool y.seat.pool → (home x.body).frame ≡ (home y.body).frame → x.seat.number < y.seat.number

-- a tree stands in the memory, with its instances as in every run, and where the plan lets it
pub record TrailsStand (image : Image) (t : Tables) (home : Body → Home) (r : Residual) (w : World) (bytes : List ℕ) : Type 0 where
  pub memory : MemoryStands image t home r w bytes
  pub instances : TreeStands r w
  pub laid : Laid image t home r Program
  pub older : InOrder (OlderBefore t home) (seats r Program)

-- The gate that the machine chooses is that of the leaf in focus: the frames around it stand, and the leaf stands there.
pub record FirstGate (A : Type 0) (image : Image) (t : Tables) (home : Body → Home) (bytes : List ℕ) (f : Focus A) (was : Residual) (choice : Choice) : Type 0 where
  pub gate : ℕ
  pub body : Body
  pub high : ℕ
  pub is_chosen : choice ≡ Chosen gate
  pub frames_stand : FocusStands t home (view image bytes) f Program 0 image.gates (spot body gate high)
  pub leaf_stands : Stands t home (view image bytes) was body gate high

-- where none is chosen, the machine finds no gate
abbrev pub ChoiceStands : (A : Type 0) → Image → Tables → (Body → Home) → List ℕ → (A → Residual) → Option (Focus A) → Choice → Type 0
ChoiceStands A image t home bytes leaf_of None choice = choice ≡ Nowhere
ChoiceStands A image t home bytes leaf_of (Some f) choice = FirstGate A image t home bytes f (leaf_of (leaf f)) choice

-- the next turn at a level
abbrev pub FirstStands : Type 0
FirstStands = (image : Image) (t : Tables) (home : Body → Home) (r : Residual) (w : World) (bytes : List ℕ) (n : ℕ)
    → TrailsStand image t home r w bytes → ChoiceStands Act image t home bytes (Run n) (choose Act (runs_at n) r) (first_at image n bytes)

abbrev pub async_of : Unserved → Residual
async_of u = InAsync u.stmt false u.inner

-- the async that an idle turn serves
abbrev pub FirstServedStands : Type 0
FirstServedStands = (image : Image) (t : Tables) (home : Body → Home) (r : Residual) (w : World) (bytes : List ℕ)
    → TrailsStand image t home r w bytes → ChoiceStands Unserved image t home bytes async_of (choose Unserved unserved r) (first_unserved image bytes)

-- ---- instances of one pool

-- a tree stands in the memory, and its pools and awaits of code stand in the codes that own them
pub record PoolsTold (image : Image) (t : Tables) (o : Owners) (home : Body → Home) (r : Residual) (w : World) (bytes : List ℕ) : Type 0 where
  pub memory : MemoryStands image t home r w bytes
  pub laid : Laid image t home r Program
  pub owned : Owned o r None
  pub tables : TablesTell t o

-- Where in each pool of an open body the older instance stands before, it is so of what the machine takes for one pool.
abbrev pub OlderStand : Type 0
OlderStand = (image : Image) (t : Tables) (o : Owners) (home : Body → Home) (r : Residual) (w : World) (bytes : List ℕ)
    → PoolsTold image t o home r w bytes → InOrder OlderInBody (seats r Program) → InOrder (OlderBefore t home) (seats r Program)

-- Where the instances of a tree stand in their pools and no slot of an open body is open twice, the older instance of each pool stands before. The names of
-- the slots are those that legality gives: `codes` are the kernel's.
abbrev pub OlderInBodies : Type 0
OlderInBodies = (codes : List KCode) (r : Residual) → pools_stand r → EachOnce (open_slots codes r Program) → InOrder OlderInBody (seats r Program)

-- so trails stand there in order
abbrev pub TrailsTold : Type 0
TrailsTold = (image : Image) (t : Tables) (o : Owners) (home : Body → Home) (codes : List KCode) (r : Residual) (w : World) (bytes : List ℕ)
    → PoolsTold image t o home r w bytes → TreeStands r w → EachOnce (open_slots codes r Program) → TrailsStand image t home r w bytes
