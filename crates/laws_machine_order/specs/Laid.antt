-- What a program's plan and its code give for the order of its trails, beside the memory (this project's own).
use Rattle.std.specs.Prelude.{◌≡◌, ◌≢◌, ℕ, suc, ◌≤◌, true, List, [], ◌∷◌}
use Rattle.ceu_code.specs.declared.image.Image.{Image}
use Rattle.ceu_isa.specs.Layout.{in_slots}
use Rattle.ceu_tree.specs.declared.kernel.KDecl.{KDecl}
use Rattle.ceu_tree.specs.declared.kernel.KNode.{KNode}
use Rattle.ceu_tree.specs.declared.kernel.KBlock.{out-KBlock}
use Rattle.ceu_tree.specs.Residual.{Body, Awaited, Spawned, Residual, Block, Open, Loop, Call, Par, Branches, no_branch, branch, Instances, no_instance, instance}
use Rattle.ceu_tree.specs.Legal.{Seated}
use Rattle.laws_machine_layout.specs.Tables.{Tables}
use Rattle.laws_machine_layout.specs.Views.{Home}

-- a block declares its slots in ascending order
abbrev pub Ascend : (from : ℕ) → List KDecl → Type 0
Ascend from [] = Unit {0}
Ascend from (d ∷ ds) = (from ≤ d.slot) × Ascend (suc d.slot) ds

module _ (image : Image) (t : Tables) (home : Body → Home) where
  -- the frame of an open body lies in the slots with its link of 8 bytes, and awaited code goes back to an offset that isn't an instance's mark
  pub record CallLaid (s : KNode) (body : Body) (Inner : Type 0) : Type 0 where
    pub has_link : in_slots image (home (Awaited body s.node)).frame 8 ≡ true
    pub goes_back : t.resumed s.node ≢ 65535
    pub inner : Inner

  pub record SeatLaid (number : ℕ) (Inner : Type 0) : Type 0 where
    pub has_link : in_slots image (home (Spawned number)).frame 8 ≡ true
    pub inner : Inner

  pub record BlockLaid (decls : List KDecl) (Seats : Type 0) (Inner : Type 0) : Type 0 where
    pub ascend : Ascend 0 decls
    pub seats : Seats
    pub inner : Inner

  unfoldable mutual
    pub Laid : Residual → Body → Type 0
    Laid (Block b fin all r rest) body = BlockLaid (out-KBlock b).decls (SeatsLaid all) (Laid r body)
    Laid (Open s r) body = Laid r body
    Laid (Loop s c r) body = Laid r body
    Laid (Call s r) body = CallLaid s body (Laid r (Awaited body s.node))
    Laid (Par s bs) body = BranchesLaid bs body
    Laid r body = Unit {0}

    pub SeatsLaid : Instances → Type 0
    SeatsLaid no_instance = Unit {0}
    SeatsLaid (instance seat r more) = SeatLaid seat.number (Laid r (Spawned seat.number)) × SeatsLaid more

    pub BranchesLaid : Branches → Body → Type 0
    BranchesLaid no_branch body = Unit {0}
    BranchesLaid (branch r more) body = Laid r body × BranchesLaid more body

-- ---- instances in lexical order

module _ (R : Seated → Seated → Type 0) where
  abbrev pub BeforeAll : Seated → List Seated → Type 0
  BeforeAll x [] = Unit {0}
  BeforeAll x (y ∷ ys) = R x y × BeforeAll x ys

  -- each one to each one behind it
  abbrev pub InOrder : List Seated → Type 0
  InOrder [] = Unit {0}
  InOrder (x ∷ xs) = BeforeAll x xs × InOrder xs
