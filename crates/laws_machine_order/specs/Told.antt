-- What tells the instances of one pool from all others: the code that each pool and each await of code stands in, the row of a pool, and the offset to
-- which awaited code goes back (this project's own).
use Rattle.std.specs.Prelude.{◌≡◌, ◌≢◌, ℕ, ◌<◌, Bool, true, List, [], ◌∷◌, Option, Some}
use Rattle.ceu_tree.specs.declared.kernel.KStmt.{out-KStmt}
use Rattle.ceu_tree.specs.declared.kernel.KStmt.TheOpen.{KStmt-F}
use Rattle.ceu_tree.specs.Residual.{Residual, Block, Open, Loop, Call, Par, Branches, no_branch, branch, Instances, no_instance, instance}
use Rattle.ceu_tree.specs.Leaf.{Layer}
use Rattle.ceu_tree.specs.Legal.{Seated, OpenSlot}
use Rattle.laws_machine_layout.specs.Tables.{Tables}

-- The slots that are pools and the nodes that await code, and of each the code that it stands in; None for the program's body.
pub record Owners : Type 0 where
  pub is_pool : (slot : ℕ) → Bool
  pub is_await : (node : ℕ) → Bool
  pub slot_code : (slot : ℕ) → Option ℕ
  pub node_code : (node : ℕ) → Option ℕ

-- no two pools have one row, and no two awaits of code go on at one offset
pub record TablesTell (t : Tables) (o : Owners) : Type 0 where
  pub rows : (a b : ℕ) → o.is_pool a ≡ true → o.is_pool b ≡ true → t.pool a ≡ t.pool b → a ≡ b
  pub awaits : (a b : ℕ) → o.is_await a ≡ true → o.is_await b ≡ true → t.resumed a ≡ t.resumed b → a ≡ b

abbrev pub called_code : Layer → ℕ
called_code (KStmt-F.AwaitCode code es slot t) = code
called_code layer = 0

module _ (o : Owners) where
  pub record AwaitOwned (code : Option ℕ) (node : ℕ) (Inner : Type 0) : Type 0 where
    pub is_await : o.is_await node ≡ true
    pub stands_in : o.node_code node ≡ code
    pub inner : Inner

  pub record SeatOwned (code : Option ℕ) (slot : ℕ) (Inner : Type 0) : Type 0 where
    pub is_pool : o.is_pool slot ≡ true
    pub stands_in : o.slot_code slot ≡ code
    pub inner : Inner

  -- a part of that code
  unfoldable mutual
    pub Owned : Residual → (code : Option ℕ) → Type 0
    Owned (Block b fin all r rest) code = SeatsOwned all code × Owned r code
    Owned (Open s r) code = Owned r code
    Owned (Loop s c r) code = Owned r code
    Owned (Call s r) code = AwaitOwned code s.node (Owned r (Some (called_code (out-KStmt s.stmt))))
    Owned (Par s bs) code = BranchesOwned bs code
    Owned r code = Unit {0}

    pub SeatsOwned : Instances → (code : Option ℕ) → Type 0
    SeatsOwned no_instance code = Unit {0}
    SeatsOwned (instance seat r more) code = SeatOwned code seat.pool (Owned r (Some seat.code)) × SeatsOwned more code

    pub BranchesOwned : Branches → (code : Option ℕ) → Type 0
    BranchesOwned no_branch code = Unit {0}
    BranchesOwned (branch r more) code = Owned r code × BranchesOwned more code

-- Of two instances of one pool of one open body the one before is older.
abbrev pub OlderInBody : Seated → Seated → Type 0
OlderInBody x y = x.body ≡ y.body → x.seat.pool ≡ y.seat.pool → x.seat.number < y.seat.number

-- ---- slots that are open

abbrev pub Elsewhere : OpenSlot → List OpenSlot → Type 0
Elsewhere x [] = Unit {0}
Elsewhere x (y ∷ ys) = (x ≢ y) × Elsewhere x ys

-- each slot of an open body is open once
abbrev pub EachOnce : List OpenSlot → Type 0
EachOnce [] = Unit {0}
EachOnce (x ∷ xs) = Elsewhere x xs × EachOnce xs
