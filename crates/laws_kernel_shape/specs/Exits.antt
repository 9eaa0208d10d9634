-- What the exits of a kernel have around them, and what its finalizers and asyncs may have.
use Rattle.std.specs.Prelude.{⊤, ℕ, Bool, false, not, ◌==◌, if◌then◌else◌, IsTrue, List, [], ◌∷◌, Option, Some, None}
use Rattle.std.specs.List.{list_any}
use Rattle.ceu_base.specs.declared.kinds.Ty.{Ty}
use Rattle.ceu_base.specs.declared.kinds.Ty.TheVariants as ty
use Rattle.ceu_tree.specs.declared.kernel.Kernel.{Kernel}
use Rattle.ceu_tree.specs.declared.kernel.KCode.{KCode}
use Rattle.ceu_tree.specs.declared.kernel.KDecl.{KDecl}
use Rattle.ceu_tree.specs.declared.kernel.KKind.TheVariants as kind
use Rattle.ceu_tree.specs.declared.kernel.Loc.{Loc}
use Rattle.ceu_tree.specs.declared.kernel.KExp.{KExp}
use Rattle.ceu_tree.specs.declared.kernel.KBlock.{KBlock, KBlock', out-KBlock, Row_of-KNode, end_of-KNode, more_of-KNode}
use Rattle.ceu_tree.specs.declared.kernel.KArm.{KArm, KArm'}
use Rattle.ceu_tree.specs.declared.kernel.KStmt.{KStmt, Row_of-KArm, end_of-KArm, more_of-KArm, Row_of-KBlock, end_of-KBlock, more_of-KBlock, Nothing, Assign, Out, Emit, AwaitIn, AwaitTime, AwaitEvent, Forever, AwaitCode, Spawn, Kill, Unset, Async, Finalize, Do, Escape, Break, Continue, If', Loop, Par'}
use Rattle.ceu_tree.specs.Typing.{same_ty}
use Rattle.ceu_tree.specs.Proper.{Aim, DoAim, BodyAim, LoopAim, Where, InTrail, InsideAsync, InFinalizer, is_trail, outside_asyncs, outside_finalizers}
use Rattle.laws_kernel_shape.specs.Shaped.{AllOf}

-- ---- targets

-- the type of the value that an escape to this node has, where there is a `do` or a body with that node around
abbrev pub taken_at : ℕ → List Aim → Option Ty
taken_at n [] = None
taken_at n (DoAim m None ∷ aims) = if m == n then Some ty.None else taken_at n aims
taken_at n (DoAim m (Some t) ∷ aims) = if m == n then Some t else taken_at n aims
taken_at n (BodyAim m t ∷ aims) = if m == n then Some t else taken_at n aims
taken_at n (LoopAim m ∷ aims) = taken_at n aims

-- a value, exactly where there is one to be given
abbrev pub is_given : Option KExp → Ty → Bool
is_given None t = same_ty t ty.None
is_given (Some e) t = not (same_ty t ty.None)

abbrev pub is_left : Option KExp → Option Ty → Bool
is_left e None = false
is_left e (Some t) = is_given e t

abbrev pub is_loop : ℕ → Aim → Bool
is_loop n (LoopAim m) = n == m
is_loop n _ = false

abbrev pub aim_of : ℕ → Option Loc → Aim
aim_of n None = DoAim n None
aim_of n (Some l) = DoAim n (Some l.ty)

-- ---- kernels

-- a finalizer declares nothing, an async no pools and no aliases
abbrev pub DeclStands : Where → KDecl → Type 0
DeclStands place d = elim d.kind [
  | kind.Var t ↦ IsTrue (outside_finalizers place)
  | kind.Alias c ↦ IsTrue (is_trail place)
  | kind.Pool n c ↦ IsTrue (is_trail place)
]

-- a statement of this node, with these targets around it
unfoldable mutual
  pub StmtStands : Where → List Aim → ℕ → KStmt → Type 0
  StmtStands place aims n Nothing = ⊤
  StmtStands place aims n (Assign l e) = ⊤
  StmtStands place aims n (Out k e) = IsTrue (outside_asyncs place)
  StmtStands place aims n (Emit k e) = IsTrue (is_trail place)
  StmtStands place aims n (AwaitIn k t) = IsTrue (is_trail place)
  StmtStands place aims n (AwaitTime e u t) = IsTrue (is_trail place)
  StmtStands place aims n (AwaitEvent e t) = IsTrue (is_trail place)
  StmtStands place aims n Forever = IsTrue (is_trail place)
  StmtStands place aims n (AwaitCode c es frame t) = IsTrue (is_trail place)
  StmtStands place aims n (Spawn c es pool alias) = IsTrue (is_trail place)
  StmtStands place aims n (Kill c) = IsTrue (is_trail place)
  StmtStands place aims n (Unset c) = IsTrue (is_trail place)
  StmtStands place aims n (Async b) = IsTrue (is_trail place) × BlockStands InsideAsync [] b
  StmtStands place aims n (Finalize b) = IsTrue (is_trail place) × BlockStands InFinalizer [] b
  StmtStands place aims n (Do t b) = IsTrue (outside_finalizers place) × BlockStands place (aim_of n t ∷ aims) b
  StmtStands place aims n (Escape m e) = IsTrue (outside_finalizers place) × IsTrue (is_left e (taken_at m aims))
  StmtStands place aims n (Break m) = IsTrue (outside_finalizers place) × IsTrue (list_any (is_loop m) aims)
  StmtStands place aims n (Continue m) = IsTrue (outside_finalizers place) × IsTrue (list_any (is_loop m) aims)
  StmtStands place aims n (If' _ arms last) = IsTrue (outside_finalizers place) × ArmsStand place aims arms × BlockStands place aims last
  StmtStands place aims n (Loop k b) = IsTrue (outside_finalizers place) × BlockStands place (LoopAim n ∷ aims) b
  StmtStands place aims n (Par' k slot _ bs) = IsTrue (is_trail place) × BlocksStand place aims bs

  pub BlockStands : Where → List Aim → KBlock → Type 0
  BlockStands place aims (KBlock' n ds _ list) = AllOf (DeclStands place) ds × NodesStand place aims list

  pub ArmStands : Where → List Aim → KArm → Type 0
  ArmStands place aims (KArm' c b) = BlockStands place aims b

  pub NodesStand : {n : _} → Where → List Aim → Row_of-KNode n → Type 0
  NodesStand place aims end_of-KNode = ⊤
  NodesStand place aims (more_of-KNode n p s rest) = StmtStands place aims n s × NodesStand place aims rest

  pub ArmsStand : {n : _} → Where → List Aim → Row_of-KArm n → Type 0
  ArmsStand place aims end_of-KArm = ⊤
  ArmsStand place aims (more_of-KArm a rest) = ArmStands place aims a × ArmsStand place aims rest

  pub BlocksStand : {n : _} → Where → List Aim → Row_of-KBlock n → Type 0
  BlocksStand place aims end_of-KBlock = ⊤
  BlocksStand place aims (more_of-KBlock b rest) = BlockStands place aims b × BlocksStand place aims rest

-- the body of the program or of code, whose value has this type
abbrev pub BodyStands : Ty → KBlock → Type 0
BodyStands t b = BlockStands InTrail (BodyAim (out-KBlock b).node t ∷ []) b

abbrev pub CodeStands : KCode → Type 0
CodeStands c = BodyStands c.result c.body

abbrev pub KernelStands : Kernel → Type 0
KernelStands K = BodyStands ty.S32 K.body × AllOf CodeStands K.codes
