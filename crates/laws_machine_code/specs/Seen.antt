-- What an expression finds in the memory and in the image: the variables and aliases that it names, and the positions of its operators.
use Rattle.std.specs.Prelude.{◌≡◌, ◌≢◌, ℕ, ◌+◌, Bool, true, false, if◌then◌else◌, List, Some, slice_get}
use Rattle.ceu_base.specs.declared.kinds.Ty.TheVariants as ty
use Rattle.ceu_base.specs.declared.kinds.Pos.{Pos}
use Rattle.ceu_base.specs.declared.kinds.Op2.{Op2}
use Rattle.ceu_base.specs.declared.kinds.Op2.TheVariants.{Or, And}
use Rattle.ceu_base.specs.Values.{IsValue}
use Rattle.ceu_code.specs.declared.image.Image.{Image}
use Rattle.ceu_mem.specs.Memory.{size, value_at}
use Rattle.ceu_isa.specs.Layout.{slots_at, in_slots}
use Rattle.ceu_isa.specs.Pools.{Life, Unclear, Over, Lives, life_of}
use Rattle.ceu_tree.specs.declared.kernel.Loc.{Loc}
use Rattle.ceu_tree.specs.declared.kernel.KExpNode.{KExpNode, Row_of-KExp, end_of-KExp, more_of-KExp, Const, Read, Alive, One', Two', As'}
use Rattle.ceu_tree.specs.Residual.{Body}
use Rattle.ceu_tree.specs.World.{World, look, place_of}
use Rattle.ceu_tree.specs.Expressions.{number_in, names_living}
use Rattle.laws_machine_code.specs.Does.{Kept}

-- whether an instance lives, as the machine sees it
abbrev pub SaysAlive : Life → Bool → Type 0
SaysAlive Unclear alive = ⊥
SaysAlive Over alive = alive ≡ false
SaysAlive (Lives place from count) alive = alive ≡ true

-- `offset` is the place of a slot in its frame, `frame` the address of the body's frame
module _ (image : Image) (offset : ℕ → ℕ) (frame : ℕ) (body : Body) (w : World) where
  abbrev pub address : Loc → ℕ
  address l = (if l.outer then slots_at image else frame) + offset l.slot

  -- the variable lies in the slots, and its bytes hold its value, which is one of its type
  pub record VariableSeen (bytes : List ℕ) (l : Loc) : Type 0 where
    pub some_type : l.ty ≢ ty.None
    pub lies : in_slots image (address l) (size l.ty) ≡ true
    pub seen : value_at l.ty bytes (address l) ≡ number_in (look (place_of l body) l.slot w.values)
    pub is_value : IsValue l.ty (number_in (look (place_of l body) l.slot w.values))

  unfoldable mutual
    pub NodeSeen : List ℕ → KExpNode → Type 0
    NodeSeen bytes (Const v) = Unit {0}
    NodeSeen bytes (Read l) = VariableSeen bytes l
    NodeSeen bytes (Alive c) = SaysAlive (life_of image bytes (frame + offset c)) (names_living (look body c w.values) w.living)
    NodeSeen bytes (One' op _ a) = OperandSeen bytes a
    NodeSeen bytes (Two' op _ a _ b) = OperandSeen bytes a × OperandSeen bytes b
    NodeSeen bytes (As' _ a) = OperandSeen bytes a

    pub OperandSeen : List ℕ → {n : _} → Row_of-KExp n → Type 0
    OperandSeen bytes end_of-KExp = Unit {0}
    OperandSeen bytes (more_of-KExp t p e rest) = NodeSeen bytes e

  -- Evaluation cells are no part of what is seen, so it stays while an expression is evaluated.
  abbrev pub Visible : List ℕ → KExpNode → Type 0
  Visible bytes e = (later : List ℕ) → Kept image 0 bytes later → NodeSeen later e

-- `number` gives the numbers of positions
module _ (image : Image) (number : Pos → ℕ) where
  -- `and` and `or` are jumps, which name no position
  abbrev pub OperatorPlaced : Op2 → Pos → Type 0
  OperatorPlaced And p = Unit {0}
  OperatorPlaced Or p = Unit {0}
  OperatorPlaced op p = slice_get image.places (number p) ≡ Some p

  unfoldable mutual
    -- the image has the position of each other operator under its number
    pub NodePlaced : KExpNode → Pos → Type 0
    NodePlaced (Const v) p = Unit {0}
    NodePlaced (Read l) p = Unit {0}
    NodePlaced (Alive c) p = Unit {0}
    NodePlaced (One' op _ a) p = OperandPlaced a × (slice_get image.places (number p) ≡ Some p)
    NodePlaced (Two' op _ a _ b) p = OperandPlaced a × OperandPlaced b × OperatorPlaced op p
    NodePlaced (As' _ a) p = OperandPlaced a

    pub OperandPlaced : {n : _} → Row_of-KExp n → Type 0
    OperandPlaced end_of-KExp = Unit {0}
    OperandPlaced (more_of-KExp t p e rest) = NodePlaced e p
