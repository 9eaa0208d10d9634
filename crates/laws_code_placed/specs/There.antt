-- What the parts of a kernel name is there: slots, nodes, ports, events, codes and pools by their numbers, and values of types.
use Rattle.std.specs.Prelude.{◌≢◌, ℕ, ◌+◌, ◌^◌, ◌<◌, ◌≤◌, List, [], ◌∷◌, length, Option, Some, None}
use Rattle.ceu_base.specs.Values.{IsValue}
use Rattle.ceu_base.specs.declared.kinds.Ty.{Ty}
use Rattle.ceu_base.specs.declared.kinds.Ty.TheVariants as ty
use Rattle.ceu_tree.specs.declared.kernel.Kernel.{Kernel}
use Rattle.ceu_tree.specs.declared.kernel.KCode.{KCode}
use Rattle.ceu_tree.specs.declared.kernel.KDecl.{KDecl}
use Rattle.ceu_tree.specs.declared.kernel.KKind.{KKind}
use Rattle.ceu_tree.specs.declared.kernel.KKind.TheVariants as kind
use Rattle.ceu_tree.specs.declared.kernel.KExp.{KExp}
use Rattle.ceu_tree.specs.declared.kernel.KExpNode.{KExpNode, Row_of-KExp, end_of-KExp, more_of-KExp, Const, Read, Alive, One', Two', As'}
use Rattle.ceu_tree.specs.declared.kernel.KLoop.{KLoop}
use Rattle.ceu_tree.specs.declared.kernel.KLoop.TheVariants as turns
use Rattle.ceu_tree.specs.declared.kernel.Loc.{Loc}
use Rattle.ceu_tree.specs.declared.kernel.ParKind.{ParKind}
use Rattle.ceu_tree.specs.declared.kernel.ParKind.TheVariants as par
use Rattle.ceu_tree.specs.declared.kernel.KBlock.{KBlock, KBlock', Row_of-KNode, end_of-KNode, more_of-KNode}
use Rattle.ceu_tree.specs.declared.kernel.KArm.{KArm, KArm'}
use Rattle.ceu_tree.specs.declared.kernel.KStmt.{KStmt, Row_of-KArm, end_of-KArm, more_of-KArm, Row_of-KBlock, end_of-KBlock, more_of-KBlock, Assign, Out, Emit, AwaitIn, AwaitTime, AwaitEvent, AwaitCode, Spawn, Kill, Unset, Async, Finalize, Do, Escape, Break, Continue, If', Loop, Par'}
use Rattle.ceu_tree.specs.Needs.{nodes_finalizers}
use Rattle.ceu_tree.specs.Numbering.{row_length}
use Rattle.ceu_tree.specs.Typing.{operand_ty}
use Rattle.ceu_shape.specs.Plans.{Plan}
use Rattle.ceu_shape.specs.Expressions.{operator_ty}
use Rattle.ceu_shape.specs.Searches.{input_ty, event_ty, result_ty, escape_target, pool_size, body_node}
use Rattle.ceu_shape.specs.Shape.{own_gates}
use Rattle.laws_code_placed.specs.Fits.{slot_count, node_count}

abbrev pub IsSome : Ty → Type 0
IsSome t = t ≢ ty.None

module _ (P : Plan) (K : Kernel) where
  -- ---- variables, of a type

  abbrev pub SlotThere : ℕ → Type 0
  SlotThere slot = slot < slot_count K

  abbrev pub LocThere : Loc → Type 0
  LocThere l = SlotThere l.slot × IsSome l.ty

  abbrev pub TargetThere : Option Loc → Type 0
  TargetThere None = Unit {0}
  TargetThere (Some l) = LocThere l

  -- a target that takes a value of a type
  abbrev pub KeptThere : Ty → Option Loc → Type 0
  KeptThere t None = Unit {0}
  KeptThere t (Some l) = IsSome t × LocThere l

  abbrev pub AliasThere : Option ℕ → Type 0
  AliasThere None = Unit {0}
  AliasThere (Some slot) = SlotThere slot

  -- ---- expressions

  unfoldable mutual
    pub NodeThere : KExpNode → Ty → Type 0
    NodeThere (Const v) t = IsSome t × IsValue t v
    NodeThere (Read l) t = LocThere l
    NodeThere (Alive c) t = SlotThere c
    NodeThere (One' op _ a) t = IsSome t × OperandThere a
    NodeThere (Two' op _ a _ b) t = IsSome (operator_ty op t (operand_ty a) (operand_ty b)) × (OperandThere a × OperandThere b)
    NodeThere (As' _ a) t = (IsSome (operand_ty a) × IsSome t) × OperandThere a

    pub OperandThere : {n : _} → Row_of-KExp n → Type 0
    OperandThere end_of-KExp = Unit {0}
    OperandThere (more_of-KExp t p e rest) = NodeThere e t

  abbrev pub ExpThere : KExp → Type 0
  ExpThere e = NodeThere e.node e.ty

  abbrev pub ExpIfThere : Option KExp → Type 0
  ExpIfThere None = Unit {0}
  ExpIfThere (Some e) = ExpThere e

  abbrev pub ExpsThere : List KExp → Type 0
  ExpsThere [] = Unit {0}
  ExpsThere (e ∷ es) = ExpThere e × ExpsThere es

  abbrev pub TurnsThere : KLoop → Type 0
  TurnsThere (turns.Range i next end open_a a b open_b) = ExpThere a × ExpThere b
  TurnsThere _ = Unit {0}

  -- ---- statements without their parts

  -- what an escape gives goes to the target of what it leaves
  abbrev pub EscapeThere : Option KExp → Option Loc → Type 0
  EscapeThere None target = Unit {0}
  EscapeThere (Some e) target = KeptThere e.ty target

  abbrev pub LoopThere : KLoop → Type 0
  LoopThere turns.Free = Unit {0}
  LoopThere (turns.Times slot n) = SlotThere slot × (n < 2 ^ 32)
  LoopThere (turns.Range i next end open_a a b open_b) = SlotThere i × (SlotThere next × SlotThere end)

  -- a slot for each branch of par/and
  abbrev pub BranchesThere : ParKind → (slot branches : ℕ) → Type 0
  BranchesThere par.And slot branches = slot + branches ≤ slot_count K
  BranchesThere _ slot branches = Unit {0}

  abbrev pub OwnThere : KStmt → Type 0
  OwnThere (Assign l e) = LocThere l
  OwnThere (Out k e) = k < length K.outputs
  OwnThere (Emit k e) = k < length K.events
  OwnThere (AwaitIn k t) = (k < length K.inputs) × KeptThere (input_ty K k) t
  OwnThere (AwaitTime e u t) = TargetThere t
  OwnThere (AwaitEvent k t) = (k < length K.events) × KeptThere (event_ty K k) t
  OwnThere (AwaitCode c es frame t) = (c < length K.codes) × (SlotThere frame × KeptThere (result_ty K c) t)
  OwnThere (Spawn c es pool alias) = (c < length K.codes) × (SlotThere pool × ((pool_size K pool ≤ 65535) × AliasThere alias))
  OwnThere (Kill c) = SlotThere c
  OwnThere (Unset c) = SlotThere c
  OwnThere (Do t b) = TargetThere t
  OwnThere (Escape m e) = (m < node_count K) × (TargetThere (escape_target K m) × EscapeThere e (escape_target K m))
  OwnThere (Break m) = m < node_count K
  OwnThere (Continue m) = m < node_count K
  OwnThere (Loop k b) = LoopThere k
  OwnThere (Par' k slot _ bs) = (2 ≤ row_length bs) × BranchesThere k slot (row_length bs)
  OwnThere _ = Unit {0}

  -- ---- declarations

  abbrev pub PoolThere : KKind → Type 0
  PoolThere (kind.Pool n c) = (n ≤ 65535) × ((c < length K.codes) × (body_node K c < node_count K))
  PoolThere _ = Unit {0}

  abbrev pub DeclsThere : List KDecl → Type 0
  DeclsThere [] = Unit {0}
  DeclsThere (d ∷ ds) = (SlotThere d.slot × PoolThere d.kind) × DeclsThere ds

  -- a block without its statements: its own gates, those of its finalizers and pools, have 16 bits
  pub record BlockOwn (node : ℕ) (ds : List KDecl) (finalizers : ℕ) : Type 0 where
    pub here : node < node_count K
    pub decls : DeclsThere ds
    pub gates : P.first node + own_gates P K finalizers ds ≤ 65535

  -- ---- with their parts

  unfoldable mutual
    pub PartsThere : KStmt → Type 0
    PartsThere (Assign l e) = ExpThere e
    PartsThere (Out k e) = ExpIfThere e
    PartsThere (Emit k e) = ExpIfThere e
    PartsThere (AwaitTime e u t) = ExpThere e
    PartsThere (AwaitCode c es frame t) = ExpsThere es
    PartsThere (Spawn c es pool alias) = ExpsThere es
    PartsThere (Async b) = BlockThere b
    PartsThere (Finalize b) = BlockThere b
    PartsThere (Do t b) = BlockThere b
    PartsThere (Escape m e) = ExpIfThere e
    PartsThere (If' _ arms last) = ArmsThere arms × BlockThere last
    PartsThere (Loop kind b) = TurnsThere kind × BlockThere b
    PartsThere (Par' kind slot _ bs) = BlocksThere bs
    PartsThere _ = Unit {0}

    pub BlockThere : KBlock → Type 0
    BlockThere (KBlock' n ds _ list) = BlockOwn n ds (nodes_finalizers list) × NodesThere list

    pub ArmThere : KArm → Type 0
    ArmThere (KArm' c b) = ExpThere c × BlockThere b

    pub NodesThere : {n : _} → Row_of-KNode n → Type 0
    NodesThere end_of-KNode = Unit {0}
    NodesThere (more_of-KNode n q s rest) = ((n < node_count K) × (OwnThere s × PartsThere s)) × NodesThere rest

    pub ArmsThere : {n : _} → Row_of-KArm n → Type 0
    ArmsThere end_of-KArm = Unit {0}
    ArmsThere (more_of-KArm a rest) = ArmThere a × ArmsThere rest

    pub BlocksThere : {n : _} → Row_of-KBlock n → Type 0
    BlocksThere end_of-KBlock = Unit {0}
    BlocksThere (more_of-KBlock b rest) = BlockThere b × BlocksThere rest

  abbrev pub CodesThere : List KCode → Type 0
  CodesThere [] = Unit {0}
  CodesThere (c ∷ cs) = BlockThere c.body × CodesThere cs

  -- the whole, where numbers have 16 bits
  pub record KernelThere : Type 0 where
    pub body : BlockThere K.body
    pub codes : CodesThere K.codes
    pub slots : (slot : ℕ) → SlotThere slot → P.offset slot ≤ 65535
    pub firsts : (node : ℕ) → node < node_count K → P.first node ≤ 65535
    pub counts : (node : ℕ) → node < node_count K → P.count node ≤ 65535
