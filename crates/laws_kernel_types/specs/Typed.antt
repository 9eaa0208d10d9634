-- The types in a kernel: what is given to a variable, an event, an output, an exit or a parameter fits there.
use Rattle.std.specs.Prelude.{⊤, ℕ, ◌+◌, nat_le, Bool, true, false, not, ◌&&◌, ◌||◌, if◌then◌else◌, IsTrue, List, [], ◌∷◌, length, Option, Some, None}
use Rattle.ceu_base.specs.declared.kinds.Ty.{Ty}
use Rattle.ceu_base.specs.declared.kinds.Ty.TheVariants as ty
use Rattle.ceu_tree.specs.declared.kernel.Kernel.{Kernel}
use Rattle.ceu_tree.specs.declared.kernel.KCode.{KCode}
use Rattle.ceu_tree.specs.declared.kernel.KEvent.{KEvent}
use Rattle.ceu_tree.specs.declared.kernel.KDecl.{KDecl}
use Rattle.ceu_tree.specs.declared.kernel.KKind.{KKind}
use Rattle.ceu_tree.specs.declared.kernel.KKind.TheVariants as kind
use Rattle.ceu_tree.specs.declared.kernel.KLoop.{KLoop}
use Rattle.ceu_tree.specs.declared.kernel.KLoop.TheVariants as turns
use Rattle.ceu_tree.specs.declared.kernel.Loc.{Loc}
use Rattle.ceu_tree.specs.declared.kernel.Unit.{Unit as TimeUnit}
use Rattle.ceu_tree.specs.declared.kernel.Unit.TheVariants.{Us}
use Rattle.ceu_tree.specs.declared.kernel.KExp.{KExp}
use Rattle.ceu_tree.specs.declared.kernel.KExpNode.{KExpNode, Row_of-KExp, end_of-KExp, more_of-KExp, Const, Read, Alive, One', Two', As'}
use Rattle.ceu_tree.specs.declared.kernel.KBlock.{KBlock, KBlock', out-KBlock, Row_of-KNode, end_of-KNode, more_of-KNode}
use Rattle.ceu_tree.specs.declared.kernel.KArm.{KArm, KArm'}
use Rattle.ceu_tree.specs.declared.kernel.KStmt.{KStmt, Row_of-KArm, end_of-KArm, more_of-KArm, Row_of-KBlock, end_of-KBlock, more_of-KBlock, Assign, Out, Emit, AwaitIn, AwaitTime, AwaitEvent, AwaitCode, Spawn, Async, Finalize, Do, Escape, If', Loop, Par'}
use Rattle.ceu_tree.specs.Typing.{same_ty, holds_all, is_amount, is_open, typed, given}
use Rattle.ceu_tree.specs.Leaf.{code_at}
use Rattle.ceu_tree.specs.Proper.{Aim, BodyAim, LoopAim, port_ty, event_at, is_code}
use Rattle.laws_kernel_shape.specs.Shaped.{AllOf}
use Rattle.laws_kernel_shape.specs.Exits.{taken_at, aim_of}

-- ---- expressions

-- the variables and aliases of an expression may be named
module _ (reads : Loc → Bool) (asks : ℕ → Bool) where
  unfoldable mutual
    pub LeavesOk : KExpNode → Type 0
    LeavesOk (Const v) = ⊤
    LeavesOk (Read l) = IsTrue (reads l)
    LeavesOk (Alive c) = IsTrue (asks c)
    LeavesOk (One' op _ a) = OperandOk a
    LeavesOk (Two' op _ a _ b) = OperandOk a × OperandOk b
    LeavesOk (As' _ a) = OperandOk a

    pub OperandOk : {n : _} → Row_of-KExp n → Type 0
    OperandOk end_of-KExp = ⊤
    OperandOk (more_of-KExp t p e rest) = LeavesOk e

-- an expression that is given to a target of this type
abbrev pub ExpGiven : Ty → KExp → Type 0
ExpGiven t e = (reads : Loc → Bool) (asks : ℕ → Bool) → LeavesOk reads asks e.node → IsTrue (given reads asks t e)

-- a value, exactly where there is one to be given
abbrev pub MaybeGiven : Ty → Option KExp → Type 0
MaybeGiven t None = IsTrue (same_ty t ty.None)
MaybeGiven t (Some e) = IsTrue (not (same_ty t ty.None)) × ExpGiven t e

-- a constant in microseconds
abbrev pub is_literal : KExp → TimeUnit → Bool
is_literal e u = same_ty e.ty ty.S64 && is_open e && elim u [ Us ↦ true | _ ↦ false ]

-- a delay
abbrev pub TimeGiven : KExp → TimeUnit → Type 0
TimeGiven e u =
    (reads : Loc → Bool) (asks : ℕ → Bool) → LeavesOk reads asks e.node →
    IsTrue (typed reads asks e && is_amount e.ty && (not (is_open e) || same_ty e.ty ty.S32 || is_literal e u))

-- the arguments of code with these parameters
abbrev pub ArgGiven : KKind → KExp → Type 0
ArgGiven (kind.Var t) e = ExpGiven t e
ArgGiven _ e = ⊥

abbrev pub ArgsGiven : List KDecl → List KExp → Type 0
ArgsGiven [] [] = ⊤
ArgsGiven (d ∷ ds) (e ∷ es) = ArgGiven d.kind e × ArgsGiven ds es
ArgsGiven _ _ = ⊥

-- ---- targets

-- a variable that is assigned has a type
abbrev pub LocTyped : Loc → Type 0
LocTyped l = IsTrue (not (same_ty l.ty ty.None))

abbrev pub MaybeTyped : Option Loc → Type 0
MaybeTyped None = ⊤
MaybeTyped (Some l) = LocTyped l

-- a variable takes a value of this type, if one is there
abbrev pub MaybeTakes : Ty → Option Loc → Type 0
MaybeTakes t None = ⊤
MaybeTakes t (Some l) = IsTrue (not (same_ty t ty.None)) × IsTrue (holds_all l.ty t)

-- ---- ports, events, code and exits

abbrev pub OnTy : Option Ty → (Ty → Type 0) → Type 0
OnTy None P = ⊥
OnTy (Some t) P = P t

abbrev pub OnCode : Option KCode → (KCode → Type 0) → Type 0
OnCode None P = ⊥
OnCode (Some c) P = P c

-- an event of code is named in that code alone
abbrev pub event_ty : Option ℕ → Option KEvent → Option Ty
event_ty code None = None
event_ty code (Some e) = elim e.code [ None ↦ Some e.ty | Some c ↦ (if is_code c code then Some e.ty else None) ]

abbrev pub TurnsTyped : KLoop → Type 0
TurnsTyped (turns.Range i next end open_a a b open_b) = ExpGiven ty.S32 a × ExpGiven ty.S32 b
TurnsTyped _ = ⊤

abbrev pub KindTyped : KKind → Type 0
KindTyped (kind.Var t) = IsTrue (not (same_ty t ty.None))
KindTyped _ = ⊤

abbrev pub DeclTyped : KDecl → Type 0
DeclTyped d = KindTyped d.kind

-- ---- statements of a body, the program's or a code's

module _ (K : Kernel) (code : Option ℕ) where
  abbrev pub InputTy : ℕ → (Ty → Type 0) → Type 0
  InputTy k P = OnTy (port_ty K k K.inputs) P

  abbrev pub OutputTy : ℕ → (Ty → Type 0) → Type 0
  OutputTy k P = OnTy (port_ty K k K.outputs) P

  abbrev pub EventTy : ℕ → (Ty → Type 0) → Type 0
  EventTy k P = OnTy (event_ty code (event_at K k K.events)) P

  -- a statement of this node, with these targets around it
  unfoldable mutual
    pub StmtTyped : List Aim → ℕ → KStmt → Type 0
    StmtTyped aims n (Assign l e) = LocTyped l × ExpGiven l.ty e
    StmtTyped aims n (Out k e) = OutputTy k (λ t. MaybeGiven t e)
    StmtTyped aims n (Emit k e) = EventTy k (λ t. MaybeGiven t e)
    StmtTyped aims n (AwaitIn k t) = InputTy k (λ u. MaybeTakes u t)
    StmtTyped aims n (AwaitTime e u t) = TimeGiven e u × MaybeTakes ty.S32 t
    StmtTyped aims n (AwaitEvent k t) = EventTy k (λ u. MaybeTakes u t)
    StmtTyped aims n (AwaitCode c es frame t) = OnCode (code_at c K.codes) (λ k. ArgsGiven k.params es × MaybeTakes k.result t)
    StmtTyped aims n (Spawn c es pool alias) = OnCode (code_at c K.codes) (λ k. ArgsGiven k.params es)
    StmtTyped aims n (Async b) = BlockTyped [] b
    StmtTyped aims n (Finalize b) = BlockTyped [] b
    StmtTyped aims n (Do t b) = MaybeTyped t × BlockTyped (aim_of n t ∷ aims) b
    StmtTyped aims n (Escape m e) = OnTy (taken_at m aims) (λ t. MaybeGiven t e)
    StmtTyped aims n (If' _ arms last) = ArmsTyped aims arms × BlockTyped aims last
    StmtTyped aims n (Loop k b) = TurnsTyped k × BlockTyped (LoopAim n ∷ aims) b
    StmtTyped aims n (Par' k slot _ bs) = BlocksTyped aims bs
    StmtTyped aims n _ = ⊤

    pub BlockTyped : List Aim → KBlock → Type 0
    BlockTyped aims (KBlock' n ds _ list) = AllOf DeclTyped ds × NodesTyped aims list

    pub ArmTyped : List Aim → KArm → Type 0
    ArmTyped aims (KArm' c b) = ExpGiven ty.Bool c × BlockTyped aims b

    pub NodesTyped : {n : _} → List Aim → Row_of-KNode n → Type 0
    NodesTyped aims end_of-KNode = ⊤
    NodesTyped aims (more_of-KNode n p s rest) = StmtTyped aims n s × NodesTyped aims rest

    pub ArmsTyped : {n : _} → List Aim → Row_of-KArm n → Type 0
    ArmsTyped aims end_of-KArm = ⊤
    ArmsTyped aims (more_of-KArm a rest) = ArmTyped aims a × ArmsTyped aims rest

    pub BlocksTyped : {n : _} → List Aim → Row_of-KBlock n → Type 0
    BlocksTyped aims end_of-KBlock = ⊤
    BlocksTyped aims (more_of-KBlock b rest) = BlockTyped aims b × BlocksTyped aims rest

-- the body of the program or of code, whose value has this type
abbrev pub BodyTyped : Kernel → Option ℕ → Ty → KBlock → Type 0
BodyTyped K code t b = BlockTyped K code (BodyAim (out-KBlock b).node t ∷ []) b

-- a parameter is a variable with a type
abbrev pub IsTyped : KKind → Type 0
IsTyped (kind.Var t) = IsTrue (not (same_ty t ty.None))
IsTyped _ = ⊥

abbrev pub ParamTyped : KDecl → Type 0
ParamTyped d = IsTyped d.kind

abbrev pub CodeTyped : Kernel → ℕ → KCode → Type 0
CodeTyped K k c = AllOf ParamTyped c.params × IsTrue (nat_le (length c.params) 255) × BodyTyped K (Some k) c.result c.body

-- the codes from this number on
abbrev pub CodesTyped : Kernel → ℕ → List KCode → Type 0
CodesTyped K k [] = ⊤
CodesTyped K k (c ∷ cs) = CodeTyped K k c × CodesTyped K (k + 1) cs

abbrev pub KernelTyped : Kernel → Type 0
KernelTyped K = BodyTyped K None ty.S32 K.body × CodesTyped K 0 K.codes
