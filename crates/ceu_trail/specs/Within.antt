-- What holds of values in a program of one trail: each that is held is that of a variable of a block that is open, or of a loop over a range, and is one
-- of its type; a loop over a range counts within its variable's type; an input and a time bring a value of theirs.
use Rattle.std.specs.Prelude.{◌≡◌, ℕ, suc, ℤ, pos, ◌+ℤ◌, ◌-ℤ◌, int_le, true, List, [], ◌∷◌, ◌++◌, Some}
use Rattle.std.specs.List.{Contains}
use Rattle.ceu_base.specs.declared.kinds.Ty.{Ty}
use Rattle.ceu_base.specs.declared.kinds.Ty.TheVariants as ty
use Rattle.ceu_base.specs.Values.{IsValue, least, above}
use Rattle.ceu_tree.specs.declared.kernel.Kernel.{Kernel}
use Rattle.ceu_tree.specs.declared.kernel.KNode.{KNode}
use Rattle.ceu_tree.specs.declared.kernel.KDecl.{KDecl}
use Rattle.ceu_tree.specs.declared.kernel.KKind.{KKind}
use Rattle.ceu_tree.specs.declared.kernel.KKind.TheVariants as kind
use Rattle.ceu_tree.specs.declared.kernel.KLoop.{KLoop}
use Rattle.ceu_tree.specs.declared.kernel.KLoop.TheVariants as turns
use Rattle.ceu_tree.specs.declared.kernel.KBlock.{out-KBlock}
use Rattle.ceu_tree.specs.declared.kernel.KStmt.{out-KStmt}
use Rattle.ceu_tree.specs.declared.kernel.KStmt.TheOpen.{KStmt-F}
use Rattle.ceu_tree.specs.Leaf.{Layer}
use Rattle.ceu_tree.specs.Proper.{port_ty}
use Rattle.ceu_tree.specs.Residual.{Body, Program, Act, Finish, Counter, Upward, Residual, Run, Block, Open, Loop}
use Rattle.ceu_tree.specs.Focus.{Frame, OfBlock, OfLoop, Focus, Here, In, leaf}
use Rattle.ceu_tree.specs.World.{Cell, Holds, World, look}

pub record Variable : Type 0 where
  pub slot : ℕ
  pub ty : Ty

abbrev pub declared : KDecl → KKind → List Variable
declared d (kind.Var t) = record { slot = d.slot; ty = t } ∷ []
declared d k = []

abbrev pub all_declared : List KDecl → List Variable
all_declared [] = []
all_declared (d ∷ ds) = declared d d.kind ++ all_declared ds

-- a loop over a range has its variable
abbrev pub turned : KLoop → List Variable
turned (turns.Range i next end open_a a b open_b) = record { slot = i; ty = ty.S32 } ∷ []
turned k = []

abbrev pub looped : Layer → List Variable
looped (KStmt-F.Loop k b) = turned k
looped layer = []

-- the variables of the parts around a leaf, and of an open part
abbrev pub in_frame : Frame → List Variable
in_frame (OfBlock b fin all rest) = all_declared (out-KBlock b).decls
in_frame (OfLoop s c) = looped (out-KStmt s.stmt)
in_frame fr = []

abbrev pub in_focus : {A : Type 0} → Focus A → List Variable
in_focus (Here a) = []
in_focus (In fr f) = in_frame fr ++ in_focus f

unfoldable pub in_rest : Residual → List Variable
in_rest (Block b fin all r rest) = all_declared (out-KBlock b).decls ++ in_rest r
in_rest (Open s r) = in_rest r
in_rest (Loop s c r) = looped (out-KStmt s.stmt) ++ in_rest r
in_rest r = []

abbrev pub IsHeld : Ty → Cell → Type 0
IsHeld t (Holds v) = IsValue t v
IsHeld t c = ⊥

-- one of these variables, with a value of its type
pub record OneOf (vs : List Variable) (body : Body) (slot : ℕ) (c : Cell) : Type 0 where
  pub program : body ≡ Program
  pub variable : Variable
  pub there : Contains vs variable
  pub slot_is : variable.slot ≡ slot
  pub is_held : IsHeld variable.ty c

pub record ValuesWithin (vs : List Variable) (w : World) : Type 0 where
  pub within : (body : Body) (slot : ℕ) (c : Cell) → look body slot w.values ≡ Some c → OneOf vs body slot c

-- ---- counters of loops over a range: the next value, and the last one

pub record CountsWithin (next last : ℤ) : Type 0 where
  pub from : int_le (least ty.S32) next ≡ true
  pub to : int_le next (above ty.S32) ≡ true
  pub last_from : int_le (least ty.S32 -ℤ pos 1) last ≡ true
  pub last_to : int_le (last +ℤ pos 1) (above ty.S32) ≡ true

abbrev pub counter_within : Counter → Type 0
counter_within (Upward next last) = CountsWithin next last
counter_within c = Unit {0}

abbrev pub frame_within : Frame → Type 0
frame_within (OfLoop s c) = counter_within c
frame_within fr = Unit {0}

unfoldable pub focus_within : {A : Type 0} → Focus A → Type 0
focus_within (Here a) = Unit {0}
focus_within (In fr f) = frame_within fr × focus_within f

-- ---- the value that a statement which waited goes on with

abbrev pub brings : Kernel → Layer → ℤ → Type 0
brings K (KStmt-F.AwaitIn k t) v = (u : Ty) → port_ty K k K.inputs ≡ Some u → IsValue u v
brings K (KStmt-F.AwaitTime e u t) v = IsValue ty.S32 v
brings K layer v = Unit {0}

abbrev pub act_brings : Kernel → Act → Type 0
act_brings K (Finish s v) = brings K (out-KStmt s.stmt) v
act_brings K a = Unit {0}

-- ---- the whole

pub record TurnWithin (K : Kernel) (f : Focus Act) (w : World) : Type 0 where
  pub values : ValuesWithin (in_focus f) w
  pub counters : focus_within f
  pub brought : act_brings K (leaf f)

unfoldable pub rest_within : Kernel → Residual → Type 0
rest_within K (Block b fin all r rest) = rest_within K r
rest_within K (Open s r) = rest_within K r
rest_within K (Loop s c r) = counter_within c × rest_within K r
rest_within K (Run n a) = act_brings K a
rest_within K r = Unit {0}

pub record RestWithin (K : Kernel) (r : Residual) (w : World) : Type 0 where
  pub values : ValuesWithin (in_rest r) w
  pub counters : rest_within K r
