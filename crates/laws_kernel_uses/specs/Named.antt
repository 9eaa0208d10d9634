-- What a kernel names besides the variables of the own body: variables of the outermost block, ports and events, pools and aliases. Each is there,
-- and may be named there.
--
-- The scopes are those by which kernels are proper, but that the targets of exits are left as they are.
use Rattle.std.specs.Prelude.{◌≡◌, ⊤, ℕ, ◌+◌, true, not, is_some, IsTrue, List, [], ◌∷◌, Option, Some, None}
use Rattle.ceu_tree.specs.declared.kernel.Kernel.{Kernel}
use Rattle.ceu_tree.specs.declared.kernel.KCode.{KCode}
use Rattle.ceu_tree.specs.declared.kernel.KLoop.{KLoop}
use Rattle.ceu_tree.specs.declared.kernel.KLoop.TheVariants as turns
use Rattle.ceu_tree.specs.declared.kernel.Loc.{Loc}
use Rattle.ceu_tree.specs.declared.kernel.KExp.{KExp}
use Rattle.ceu_tree.specs.declared.kernel.KExpNode.{KExpNode, Row_of-KExp, end_of-KExp, more_of-KExp, Const, Read, Alive, One', Two', As'}
use Rattle.ceu_tree.specs.declared.kernel.KBlock.{KBlock, KBlock', Row_of-KNode, end_of-KNode, more_of-KNode}
use Rattle.ceu_tree.specs.declared.kernel.KArm.{KArm, KArm'}
use Rattle.ceu_tree.specs.declared.kernel.KStmt.{KStmt, Row_of-KArm, end_of-KArm, more_of-KArm, Row_of-KBlock, end_of-KBlock, more_of-KBlock, Assign, Out, Emit, AwaitIn, AwaitTime, AwaitEvent, AwaitCode, Spawn, Kill, Unset, Async, Finalize, Do, Escape, If', Loop, Par'}
use Rattle.ceu_tree.specs.Proper.{Scope, InTrail, find, with_decls, with_turns, in_async, in_finalizer, is_loop_variable, is_alias, is_pool_of, alias_takes, looked_up, reads, asks, port_ty, event_at, event_seen}
use Rattle.laws_kernel_shape.specs.Shaped.{AllOf}

-- in the body of the program, or of a code
abbrev pub top_scope : Option ℕ → Scope
top_scope code = record { code = code; seen = []; aims = []; place = InTrail }

module _ (K : Kernel) where
  -- a variable of the outermost block that is read: the place stands in code, and the block has it with this type
  abbrev pub LocNamed : Scope → Loc → Type 0
  LocNamed sc l = l.outer ≡ true → IsTrue (reads K sc l)

  -- one that is assigned
  abbrev pub TargetNamed : Scope → Loc → Type 0
  TargetNamed sc l = LocNamed sc l × (l.outer ≡ true → IsTrue (not (is_loop_variable (looked_up K sc l))))

  abbrev pub MaybeTarget : Scope → Option Loc → Type 0
  MaybeTarget sc None = ⊤
  MaybeTarget sc (Some l) = TargetNamed sc l

  unfoldable mutual
    pub NodeNamed : Scope → KExpNode → Type 0
    NodeNamed sc (Const v) = ⊤
    NodeNamed sc (Read l) = LocNamed sc l
    NodeNamed sc (Alive c) = IsTrue (asks K sc c)
    NodeNamed sc (One' op _ a) = OperandNamed sc a
    NodeNamed sc (Two' op _ a _ b) = OperandNamed sc a × OperandNamed sc b
    NodeNamed sc (As' _ a) = OperandNamed sc a

    pub OperandNamed : {n : _} → Scope → Row_of-KExp n → Type 0
    OperandNamed sc end_of-KExp = ⊤
    OperandNamed sc (more_of-KExp t p e rest) = NodeNamed sc e

  abbrev pub ExpNamed : Scope → KExp → Type 0
  ExpNamed sc e = NodeNamed sc e.node

  abbrev pub MaybeExp : Scope → Option KExp → Type 0
  MaybeExp sc None = ⊤
  MaybeExp sc (Some e) = ExpNamed sc e

  abbrev pub TurnsNamed : Scope → KLoop → Type 0
  TurnsNamed sc (turns.Range i next end open_a a b open_b) = ExpNamed sc a × ExpNamed sc b
  TurnsNamed sc _ = ⊤

  -- an event that is there, one of a code only in that code
  abbrev pub EventNamed : Scope → ℕ → Type 0
  EventNamed sc k = IsTrue (is_some (event_seen K sc (event_at K k K.events)))

  -- an alias that a spawn of this code into this pool sets
  abbrev pub MaybeAlias : Scope → (code pool : ℕ) → Option ℕ → Type 0
  MaybeAlias sc code pool None = ⊤
  MaybeAlias sc code pool (Some a) = IsTrue (alias_takes code pool (find a sc.seen))

  unfoldable mutual
    pub StmtNamed : Scope → KStmt → Type 0
    StmtNamed sc (Assign l e) = TargetNamed sc l × ExpNamed sc e
    StmtNamed sc (Out k e) = IsTrue (is_some (port_ty K k K.outputs)) × MaybeExp sc e
    StmtNamed sc (Emit k e) = EventNamed sc k × MaybeExp sc e
    StmtNamed sc (AwaitIn k t) = IsTrue (is_some (port_ty K k K.inputs)) × MaybeTarget sc t
    StmtNamed sc (AwaitTime e u t) = ExpNamed sc e × MaybeTarget sc t
    StmtNamed sc (AwaitEvent e t) = EventNamed sc e × MaybeTarget sc t
    StmtNamed sc (AwaitCode c es frame t) = AllOf (ExpNamed sc) es × MaybeTarget sc t
    StmtNamed sc (Spawn c es pool alias) = AllOf (ExpNamed sc) es × IsTrue (is_pool_of c (find pool sc.seen)) × MaybeAlias sc c pool alias
    StmtNamed sc (Kill c) = IsTrue (is_alias (find c sc.seen))
    StmtNamed sc (Unset c) = IsTrue (is_alias (find c sc.seen))
    StmtNamed sc (Async b) = BlockNamed (in_async K sc) b
    StmtNamed sc (Finalize b) = BlockNamed (in_finalizer K sc) b
    StmtNamed sc (Do t b) = MaybeTarget sc t × BlockNamed sc b
    StmtNamed sc (Escape m e) = MaybeExp sc e
    StmtNamed sc (If' _ arms last) = ArmsNamed sc arms × BlockNamed sc last
    StmtNamed sc (Loop k b) = TurnsNamed sc k × BlockNamed (with_turns K k sc) b
    StmtNamed sc (Par' k slot _ bs) = BlocksNamed sc bs
    StmtNamed sc _ = ⊤

    pub BlockNamed : Scope → KBlock → Type 0
    BlockNamed sc (KBlock' n ds _ list) = NodesNamed (with_decls ds sc) list

    pub ArmNamed : Scope → KArm → Type 0
    ArmNamed sc (KArm' c b) = ExpNamed sc c × BlockNamed sc b

    pub NodesNamed : {n : _} → Scope → Row_of-KNode n → Type 0
    NodesNamed sc end_of-KNode = ⊤
    NodesNamed sc (more_of-KNode n p s rest) = StmtNamed sc s × NodesNamed sc rest

    pub ArmsNamed : {n : _} → Scope → Row_of-KArm n → Type 0
    ArmsNamed sc end_of-KArm = ⊤
    ArmsNamed sc (more_of-KArm a rest) = ArmNamed sc a × ArmsNamed sc rest

    pub BlocksNamed : {n : _} → Scope → Row_of-KBlock n → Type 0
    BlocksNamed sc end_of-KBlock = ⊤
    BlocksNamed sc (more_of-KBlock b rest) = BlockNamed sc b × BlocksNamed sc rest

  abbrev pub CodeNamed : ℕ → KCode → Type 0
  CodeNamed k c = BlockNamed (with_decls c.params (top_scope (Some k))) c.body

  abbrev pub CodesNamed : ℕ → List KCode → Type 0
  CodesNamed k [] = ⊤
  CodesNamed k (c ∷ cs) = CodeNamed k c × CodesNamed (k + 1) cs

  abbrev pub KernelNamed : Type 0
  KernelNamed = BlockNamed (top_scope None) K.body × CodesNamed 0 K.codes
