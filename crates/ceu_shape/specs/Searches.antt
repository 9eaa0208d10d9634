-- What a statement's lines need of the kernel around it.
use Rattle.std.specs.Prelude.{ℕ, suc, zero, ◌+◌, Bool, true, false, ◌||◌, ◌&&◌, ◌==◌, if◌then◌else◌, List, [], ◌∷◌, ◌++◌, Option, Some, None}
use Rattle.ceu_base.specs.declared.kinds.Ty.{Ty}
use Rattle.ceu_base.specs.declared.kinds.Ty.TheVariants as ty
use Rattle.ceu_base.specs.declared.kinds.Port.{Port}
use Rattle.ceu_tree.specs.declared.kernel.Kernel.{Kernel}
use Rattle.ceu_tree.specs.declared.kernel.KCode.{KCode}
use Rattle.ceu_tree.specs.declared.kernel.KEvent.{KEvent}
use Rattle.ceu_tree.specs.declared.kernel.KDecl.{KDecl}
use Rattle.ceu_tree.specs.declared.kernel.KKind.{KKind}
use Rattle.ceu_tree.specs.declared.kernel.KKind.TheVariants as kind
use Rattle.ceu_tree.specs.declared.kernel.Loc.{Loc}
use Rattle.ceu_tree.specs.declared.kernel.KBlock.{KBlock, KBlock', Row_of-KNode, end_of-KNode, more_of-KNode}
use Rattle.ceu_tree.specs.declared.kernel.KArm.{KArm, KArm'}
use Rattle.ceu_tree.specs.declared.kernel.KStmt.{KStmt, Row_of-KArm, end_of-KArm, more_of-KArm, Row_of-KBlock, end_of-KBlock, more_of-KBlock, Async, Finalize, Do, If', Loop, Par'}
use Rattle.ceu_tree.specs.Proper.{port_ty, event_at}
use Rattle.ceu_tree.specs.Leaf.{code_at}

-- ---- ports, events and codes

abbrev pub ty_or_none : Option Ty → Ty
ty_or_none None = ty.None
ty_or_none (Some t) = t

abbrev pub input_ty : Kernel → (input : ℕ) → Ty
input_ty K k = ty_or_none (port_ty K k K.inputs)

abbrev pub output_ty : Kernel → (output : ℕ) → Ty
output_ty K k = ty_or_none (port_ty K k K.outputs)

abbrev pub ty_of_event : Option KEvent → Ty
ty_of_event None = ty.None
ty_of_event (Some e) = e.ty

abbrev pub event_ty : Kernel → (event : ℕ) → Ty
event_ty K k = ty_of_event (event_at K k K.events)

abbrev pub in_code : Option KEvent → Bool
in_code None = false
in_code (Some e) = elim e.code [ None ↦ false | Some c ↦ true ]

-- an event of a code, which wakes in its own frame alone, has bit 15 set
abbrev pub event_number : Kernel → (event : ℕ) → ℕ
event_number K k = if in_code (event_at K k K.events) then k + 32768 else k

abbrev pub ty_of_result : Option KCode → Ty
ty_of_result None = ty.None
ty_of_result (Some c) = c.result

abbrev pub result_ty : Kernel → (code : ℕ) → Ty
result_ty K k = ty_of_result (code_at k K.codes)

abbrev pub node_of_block : KBlock → ℕ
node_of_block (KBlock' n ds _ list) = n

abbrev pub node_of_body : Option KCode → ℕ
node_of_body None = 0
node_of_body (Some c) = node_of_block c.body

-- the node of the body of a code
abbrev pub body_node : Kernel → (code : ℕ) → ℕ
body_node K k = node_of_body (code_at k K.codes)

-- ---- where the value of an escape goes: to the target of the `do` that it leaves

abbrev pub or_else : {A : Type 0} → Option A → Option A → Option A
or_else (Some a) other = Some a
or_else None other = other

module _ (node : ℕ) where
  abbrev pub target_if : (number : ℕ) → Option Loc → Option Loc
  target_if n t = if n == node then t else None

  unfoldable mutual
    pub stmt_target : (number : ℕ) → KStmt → Option Loc
    stmt_target n (Do t b) = or_else (target_if n t) (block_target b)
    stmt_target n (Async b) = block_target b
    stmt_target n (Finalize b) = block_target b
    stmt_target n (If' _ arms last) = or_else (arms_target arms) (block_target last)
    stmt_target n (Loop k b) = block_target b
    stmt_target n (Par' k slot _ bs) = blocks_target bs
    stmt_target n _ = None

    pub block_target : KBlock → Option Loc
    block_target (KBlock' n ds _ list) = nodes_target list

    pub arm_target : KArm → Option Loc
    arm_target (KArm' c b) = block_target b

    pub nodes_target : {n : _} → Row_of-KNode n → Option Loc
    nodes_target end_of-KNode = None
    nodes_target (more_of-KNode n p s rest) = or_else (stmt_target n s) (nodes_target rest)

    pub arms_target : {n : _} → Row_of-KArm n → Option Loc
    arms_target end_of-KArm = None
    arms_target (more_of-KArm a rest) = or_else (arm_target a) (arms_target rest)

    pub blocks_target : {n : _} → Row_of-KBlock n → Option Loc
    blocks_target end_of-KBlock = None
    blocks_target (more_of-KBlock b rest) = or_else (block_target b) (blocks_target rest)

  abbrev pub codes_target : List KCode → Option Loc
  codes_target [] = None
  codes_target (c ∷ cs) = or_else (block_target c.body) (codes_target cs)

unfoldable pub escape_target : Kernel → (node : ℕ) → Option Loc
escape_target K node = or_else (block_target node K.body) (codes_target node K.codes)

-- ---- whether a statement stands in an async

-- `inside` says whether the place that is searched stands in one
module _ (node : ℕ) where
  unfoldable mutual
    pub stmt_async : (inside : Bool) → KStmt → Bool
    stmt_async inside (Async b) = block_async true b
    stmt_async inside (Finalize b) = block_async inside b
    stmt_async inside (Do t b) = block_async inside b
    stmt_async inside (If' _ arms last) = arms_async inside arms || block_async inside last
    stmt_async inside (Loop k b) = block_async inside b
    stmt_async inside (Par' k slot _ bs) = blocks_async inside bs
    stmt_async inside _ = false

    pub block_async : (inside : Bool) → KBlock → Bool
    block_async inside (KBlock' n ds _ list) = nodes_async inside list

    pub arm_async : (inside : Bool) → KArm → Bool
    arm_async inside (KArm' c b) = block_async inside b

    pub nodes_async : {n : _} → (inside : Bool) → Row_of-KNode n → Bool
    nodes_async inside end_of-KNode = false
    nodes_async inside (more_of-KNode n p s rest) = ((inside && (n == node)) || stmt_async inside s) || nodes_async inside rest

    pub arms_async : {n : _} → (inside : Bool) → Row_of-KArm n → Bool
    arms_async inside end_of-KArm = false
    arms_async inside (more_of-KArm a rest) = arm_async inside a || arms_async inside rest

    pub blocks_async : {n : _} → (inside : Bool) → Row_of-KBlock n → Bool
    blocks_async inside end_of-KBlock = false
    blocks_async inside (more_of-KBlock b rest) = block_async inside b || blocks_async inside rest

  abbrev pub codes_async : List KCode → Bool
  codes_async [] = false
  codes_async (c ∷ cs) = block_async false c.body || codes_async cs

unfoldable pub stands_in_async : Kernel → (node : ℕ) → Bool
stands_in_async K node = block_async node false K.body || codes_async node K.codes

-- ---- pools, in the order of their slots

pub record PoolRow : Type 0 where
  pub slot : ℕ
  pub size : ℕ
  pub code : ℕ

abbrev pub pool_of : (slot : ℕ) → KKind → List PoolRow
pool_of slot (kind.Pool n c) = record { slot = slot; size = n; code = c } ∷ []
pool_of slot _ = []

abbrev pub decls_pools : List KDecl → List PoolRow
decls_pools [] = []
decls_pools (d ∷ ds) = pool_of d.slot d.kind ++ decls_pools ds

unfoldable mutual
  pub stmt_pools : KStmt → List PoolRow
  stmt_pools (Async b) = block_pools b
  stmt_pools (Finalize b) = block_pools b
  stmt_pools (Do t b) = block_pools b
  stmt_pools (If' _ arms last) = arms_pools arms ++ block_pools last
  stmt_pools (Loop k b) = block_pools b
  stmt_pools (Par' k slot _ bs) = blocks_pools bs
  stmt_pools _ = []

  pub block_pools : KBlock → List PoolRow
  block_pools (KBlock' n ds _ list) = decls_pools ds ++ nodes_pools list

  pub arm_pools : KArm → List PoolRow
  arm_pools (KArm' c b) = block_pools b

  pub nodes_pools : {n : _} → Row_of-KNode n → List PoolRow
  nodes_pools end_of-KNode = []
  nodes_pools (more_of-KNode n p s rest) = stmt_pools s ++ nodes_pools rest

  pub arms_pools : {n : _} → Row_of-KArm n → List PoolRow
  arms_pools end_of-KArm = []
  arms_pools (more_of-KArm a rest) = arm_pools a ++ arms_pools rest

  pub blocks_pools : {n : _} → Row_of-KBlock n → List PoolRow
  blocks_pools end_of-KBlock = []
  blocks_pools (more_of-KBlock b rest) = block_pools b ++ blocks_pools rest

abbrev pub codes_pools : List KCode → List PoolRow
codes_pools [] = []
codes_pools (c ∷ cs) = block_pools c.body ++ codes_pools cs

unfoldable pub kernel_pools : Kernel → List PoolRow
kernel_pools K = block_pools K.body ++ codes_pools K.codes

-- the row of the pool at a slot, and how many places it has
abbrev pub row_in : (slot : ℕ) → List PoolRow → ℕ
row_in slot [] = 0
row_in slot (r ∷ rs) = if r.slot == slot then 0 else (row_in slot rs + 1)

abbrev pub size_in : (slot : ℕ) → List PoolRow → ℕ
size_in slot [] = 0
size_in slot (r ∷ rs) = if r.slot == slot then r.size else size_in slot rs

abbrev pub pool_row : Kernel → (slot : ℕ) → ℕ
pool_row K slot = row_in slot (kernel_pools K)

abbrev pub pool_size : Kernel → (slot : ℕ) → ℕ
pool_size K slot = size_in slot (kernel_pools K)
