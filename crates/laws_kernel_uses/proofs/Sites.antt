-- What a kernel names, place by place, where an async may ask for an alias that it declares itself.
use Rattle.std.proofs.Common.{◌≡◌, ℕ, List, [], ◌∷◌, ◌++◌, Option, Some, None, Bool, true, false}
use Rattle.std.specs.Prelude.{⊤, is_some, IsTrue}
use Rattle.ceu_tree.specs.declared.kernel.Kernel.{Kernel}
use Rattle.ceu_tree.specs.declared.kernel.KDecl.{KDecl}
use Rattle.ceu_tree.specs.declared.kernel.KKind.{KKind}
use Rattle.ceu_tree.specs.declared.kernel.KKind.TheVariants as kind
use Rattle.ceu_tree.specs.declared.kernel.KLoop.{KLoop}
use Rattle.ceu_tree.specs.declared.kernel.KLoop.TheVariants as turns
use Rattle.ceu_tree.specs.declared.kernel.KExp.{KExp}
use Rattle.ceu_tree.specs.declared.kernel.KExpNode.{KExpNode, Row_of-KExp, end_of-KExp, more_of-KExp, Const, Read, Alive, One', Two', As'}
use Rattle.ceu_tree.specs.declared.kernel.KBlock.{KBlock, KBlock', Row_of-KNode, end_of-KNode, more_of-KNode}
use Rattle.ceu_tree.specs.declared.kernel.KArm.{KArm, KArm'}
use Rattle.ceu_tree.specs.declared.kernel.KStmt.{KStmt, Row_of-KArm, end_of-KArm, more_of-KArm, Row_of-KBlock, end_of-KBlock, more_of-KBlock, Assign, Out, Emit, AwaitIn, AwaitTime, AwaitEvent, AwaitCode, Spawn, Kill, Unset, Async, Finalize, Do, Escape, If', Loop, Par'}
use Rattle.ceu_tree.specs.Proper.{Scope, Seen, IsLoopVariable, Where, InsideAsync, InFinalizer, find, declared_seen, pool_slots, pools_seen, is_alias, is_pool_of, port_ty}
use Rattle.laws_kernel_shape.specs.Shaped.{AllOf}
use Rattle.laws_kernel_uses.specs.Named.{LocNamed, TargetNamed, MaybeTarget, EventNamed, MaybeAlias}

-- what is around a place
pub record Site : Type 0 where
  pub code : Option ℕ
  pub place : Where
  pub seen : List Seen
  pub since : List KDecl  -- what is declared since the innermost async began

abbrev pub scope_of : Site → Scope
scope_of v = record { code = v.code; seen = v.seen; aims = []; place = v.place }

abbrev pub site_with : List KDecl → Site → Site
site_with ds v = record v { seen = declared_seen (pool_slots ds ++ pools_seen v.seen) ds v.seen; since = ds ++ v.since }

abbrev pub site_in : Where → List KDecl → Site → Site
site_in place since v = record v { place = place; since = since }

abbrev pub site_seen : List Seen → Site → Site
site_seen seen v = record v { seen = seen }

abbrev pub seen_in : KLoop → List Seen → List Seen
seen_in (turns.Range i next end open_a a b open_b) seen = record { slot = i; kind = IsLoopVariable } ∷ seen
seen_in _ seen = seen

abbrev pub is_alias_kind : KKind → Bool
is_alias_kind (kind.Alias c) = true
is_alias_kind _ = false

abbrev pub NoAlias : List KDecl → Type 0
NoAlias ds = AllOf (λ d. is_alias_kind d.kind ≡ false) ds

module _ (K : Kernel) where
  unfoldable mutual
    pub NodeHeld : Site → KExpNode → Type 0
    NodeHeld v (Const n) = ⊤
    NodeHeld v (Read l) = LocNamed K (scope_of v) l
    NodeHeld v (Alive c) = IsTrue (is_alias (find c v.seen)) × (v.place ≡ InsideAsync → NoAlias v.since → ⊥)
    NodeHeld v (One' op _ a) = OperandHeld v a
    NodeHeld v (Two' op _ a _ b) = OperandHeld v a × OperandHeld v b
    NodeHeld v (As' _ a) = OperandHeld v a

    pub OperandHeld : {n : _} → Site → Row_of-KExp n → Type 0
    OperandHeld v end_of-KExp = ⊤
    OperandHeld v (more_of-KExp t p e rest) = NodeHeld v e

  abbrev pub ExpHeld : Site → KExp → Type 0
  ExpHeld v e = NodeHeld v e.node

  abbrev pub MaybeHeld : Site → Option KExp → Type 0
  MaybeHeld v None = ⊤
  MaybeHeld v (Some e) = ExpHeld v e

  abbrev pub TurnsHeld : Site → KLoop → Type 0
  TurnsHeld v (turns.Range i next end open_a a b open_b) = ExpHeld v a × ExpHeld v b
  TurnsHeld v _ = ⊤

  unfoldable mutual
    pub StmtHeld : Site → KStmt → Type 0
    StmtHeld v (Assign l e) = TargetNamed K (scope_of v) l × ExpHeld v e
    StmtHeld v (Out k e) = IsTrue (is_some (port_ty K k K.outputs)) × MaybeHeld v e
    StmtHeld v (Emit k e) = EventNamed K (scope_of v) k × MaybeHeld v e
    StmtHeld v (AwaitIn k t) = IsTrue (is_some (port_ty K k K.inputs)) × MaybeTarget K (scope_of v) t
    StmtHeld v (AwaitTime e u t) = ExpHeld v e × MaybeTarget K (scope_of v) t
    StmtHeld v (AwaitEvent e t) = EventNamed K (scope_of v) e × MaybeTarget K (scope_of v) t
    StmtHeld v (AwaitCode c es frame t) = AllOf (ExpHeld v) es × MaybeTarget K (scope_of v) t
    StmtHeld v (Spawn c es pool alias) = AllOf (ExpHeld v) es × IsTrue (is_pool_of c (find pool v.seen)) × MaybeAlias K (scope_of v) c pool alias
    StmtHeld v (Kill c) = IsTrue (is_alias (find c v.seen))
    StmtHeld v (Unset c) = IsTrue (is_alias (find c v.seen))
    StmtHeld v (Async b) = BlockHeld (site_in InsideAsync [] v) b
    StmtHeld v (Finalize b) = BlockHeld (site_in InFinalizer v.since v) b
    StmtHeld v (Do t b) = MaybeTarget K (scope_of v) t × BlockHeld v b
    StmtHeld v (Escape m e) = MaybeHeld v e
    StmtHeld v (If' _ arms last) = ArmsHeld v arms × BlockHeld v last
    StmtHeld v (Loop k b) = TurnsHeld v k × BlockHeld (site_seen (seen_in k v.seen) v) b
    StmtHeld v (Par' k slot _ bs) = BlocksHeld v bs
    StmtHeld v _ = ⊤

    pub BlockHeld : Site → KBlock → Type 0
    BlockHeld v (KBlock' n ds _ list) = NodesHeld (site_with ds v) list

    pub ArmHeld : Site → KArm → Type 0
    ArmHeld v (KArm' c b) = ExpHeld v c × BlockHeld v b

    pub NodesHeld : {n : _} → Site → Row_of-KNode n → Type 0
    NodesHeld v end_of-KNode = ⊤
    NodesHeld v (more_of-KNode n p s rest) = StmtHeld v s × NodesHeld v rest

    pub ArmsHeld : {n : _} → Site → Row_of-KArm n → Type 0
    ArmsHeld v end_of-KArm = ⊤
    ArmsHeld v (more_of-KArm a rest) = ArmHeld v a × ArmsHeld v rest

    pub BlocksHeld : {n : _} → Site → Row_of-KBlock n → Type 0
    BlocksHeld v end_of-KBlock = ⊤
    BlocksHeld v (more_of-KBlock b rest) = BlockHeld v b × BlocksHeld v rest
