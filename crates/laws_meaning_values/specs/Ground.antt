-- What belongs to a part: the slots and nodes that its kernel's part has, the bodies of code that it awaits, and its instances.
use Rattle.std.specs.Prelude.{◌≡◌, ◌<◌, ◌≤◌, ◌⊎◌, ℕ, ◌+◌, Bool, true, false, ◌==◌, ◌&&◌, ◌||◌, List, [], ◌∷◌, ◌++◌, length, is_some}
use Rattle.ceu_tree.specs.Residual.{Body, Program, Awaited, Spawned, same_body, Residual, InAsync, Block, Open, Loop, Call, Par, Branches, no_branch, branch, Instances, no_instance, instance}
use Rattle.ceu_tree.specs.World.{World, look, is_among}
use Rattle.ceu_tree.specs.Numbering.{counts_from, stmt_nodes, block_nodes, stmt_slots, block_slots}
use Rattle.laws_meaning_basics.specs.Shape.{Part, ABlock, AStatement, AnEnd}

-- whether a slot of an open body has a value
abbrev pub has : Body → ℕ → World → Bool
has body slot w = is_some (look body slot w.values)

-- whether b is the body of code that the statement `node` of the open body a awaits, or lies further in
abbrev pub under : (a : Body) → (node : ℕ) → (b : Body) → Bool
under a node Program = false
under a node (Spawned m) = false
under a node (Awaited c k) = ((node == k) && same_body a c) || under a node c

-- whether b is the body of that instance, or of code that it awaits
abbrev pub rooted : (number : ℕ) → (b : Body) → Bool
rooted m Program = false
rooted m (Spawned k) = m == k
rooted m (Awaited c k) = rooted m c

-- the numbers of a part's instances, those inside them too
unfoldable mutual
  pub numbers_of : Residual → List ℕ
  numbers_of (Block b fin all r rest) = numbers_in all ++ numbers_of r
  numbers_of (Open s r) = numbers_of r
  numbers_of (Loop s c r) = numbers_of r
  numbers_of (Call s r) = numbers_of r
  numbers_of (Par s bs) = numbers_among bs
  numbers_of (InAsync s served r) = numbers_of r
  numbers_of r = []

  pub numbers_among : Branches → List ℕ
  numbers_among no_branch = []
  numbers_among (branch r more) = numbers_of r ++ numbers_among more

  pub numbers_in : Instances → List ℕ
  numbers_in no_instance = []
  numbers_in (instance seat r more) = seat.number ∷ (numbers_of r ++ numbers_in more)

-- slots from `low` to before `high`, and nodes likewise
pub record Ground : Type 0 where
  pub low : ℕ
  pub high : ℕ
  pub first : ℕ
  pub last : ℕ

-- slots and nodes are counted on through a part
pub record Numbered (slots nodes : List ℕ) (g : Ground) : Type 0 where
  pub slots_from : counts_from g.low slots ≡ true
  pub slots_to : g.high ≡ g.low + length slots
  pub nodes_from : counts_from g.first nodes ≡ true
  pub nodes_to : g.last ≡ g.first + length nodes

abbrev pub On : Part → Ground → Type 0
On (ABlock turn sc b) g = Numbered (block_slots b) (block_nodes b) g
On (AStatement sc s) g = Numbered (stmt_slots s.stmt) (s.node ∷ stmt_nodes s.stmt) g
On AnEnd g = Unit {0}

-- a slot of an open body that does not belong to a part of the body `here` with that ground and those instances
pub record Outside (here : Body) (g : Ground) (numbers : List ℕ) (body : Body) (slot : ℕ) : Type 0 where
  pub own : same_body here body ≡ true → (slot < g.low) ⊎ (g.high ≤ slot)
  pub calls : (n : ℕ) → g.first ≤ n → n < g.last → under here n body ≡ false
  pub instances : (m : ℕ) → is_among m numbers ≡ true → rooted m body ≡ false
