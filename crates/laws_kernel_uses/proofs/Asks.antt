-- No async of a kernel declares an alias, so none asks for one.
use Rattle.std.proofs.Common.{◌≡◌, refl, ℕ, ◌+◌, List, [], ◌∷◌, ◌++◌, Option, Some, None, Bool, true, false}
use Rattle.std.specs.Prelude.{⊤, IsTrue, ◌&&◌}
use Rattle.ceu_base.specs.declared.kinds.Pos.{Pos}
use Rattle.ceu_base.specs.declared.kinds.Ty.TheVariants as ty
use Rattle.ceu_tree.specs.declared.kernel.Kernel.{Kernel}
use Rattle.ceu_tree.specs.declared.kernel.KCode.{KCode}
use Rattle.ceu_tree.specs.declared.kernel.KDecl.{KDecl}
use Rattle.ceu_tree.specs.declared.kernel.KKind.{KKind}
use Rattle.ceu_tree.specs.declared.kernel.KKind.TheVariants as kind
use Rattle.ceu_tree.specs.declared.kernel.KLoop.TheVariants as turns
use Rattle.ceu_tree.specs.declared.kernel.KExp.{KExp}
use Rattle.ceu_tree.specs.declared.kernel.KExpNode.{KExpNode, Row_of-KExp, end_of-KExp, more_of-KExp, Const, Read, Alive, One', Two', As'}
use Rattle.ceu_tree.specs.declared.kernel.KBlock.{KBlock, KBlock', out-KBlock, Row_of-KNode, end_of-KNode, more_of-KNode}
use Rattle.ceu_tree.specs.declared.kernel.KArm.{KArm, KArm'}
use Rattle.ceu_tree.specs.declared.kernel.KStmt.{KStmt, Row_of-KArm, end_of-KArm, more_of-KArm, Row_of-KBlock, end_of-KBlock, more_of-KBlock, Nothing, Assign, Out, Emit, AwaitIn, AwaitTime, AwaitEvent, Forever, AwaitCode, Spawn, Kill, Unset, Async, Finalize, Do, Escape, Break, Continue, If', Loop, Par'}
use Rattle.ceu_tree.specs.Proper.{Scope, IsLoopVariable, Aim, BodyAim, LoopAim, Where, InTrail, InsideAsync, InFinalizer, with_decls, outside_asyncs}
use Rattle.laws_kernel_shape.specs.Shaped.{AllOf}
use Rattle.laws_kernel_shape.specs.Exits.{aim_of, DeclStands, StmtStands, BlockStands, ArmStands, NodesStand, ArmsStand, BlocksStand, CodeStands, KernelStands}
use Rattle.laws_kernel_uses.specs.Named.{NodeNamed, OperandNamed, ExpNamed, MaybeExp, StmtNamed, BlockNamed, ArmNamed, NodesNamed, ArmsNamed, BlocksNamed, top_scope, CodesNamed, KernelNamed}
use Rattle.laws_kernel_uses.proofs.Sites.{Site, NoAlias, is_alias_kind, NodeHeld, OperandHeld, ExpHeld, MaybeHeld, StmtHeld, BlockHeld, ArmHeld, NodesHeld, ArmsHeld, BlocksHeld}

abbrev pub site : Scope → List KDecl → Site
site sc since = record { code = sc.code; place = sc.place; seen = sc.seen; since = since }

-- in an async nothing that was declared since is an alias
abbrev Quiet : Where → List KDecl → Type 0
Quiet place since = place ≡ InsideAsync → NoAlias since

outside : (place : Where) → (place ≡ InsideAsync → ⊥) → IsTrue (outside_asyncs place)
outside InTrail h = refl
outside InFinalizer h = refl
outside InsideAsync h = absurd (h refl)

and_true : (a b : Bool) → a ≡ true → b ≡ true → (a && b) ≡ true
and_true true b h k = k
and_true false b h k = absurd (cc)

other_kind : (slot : ℕ) (k : KKind) (name : List ℕ) (pos : Pos) → DeclStands InsideAsync (record { slot = slot; kind = k; name = name; pos = pos }) → is_alias_kind k ≡ false
other_kind slot (kind.Var t) name pos h = refl
other_kind slot (kind.Pool n c) name pos h = refl
other_kind slot (kind.Alias c) name pos h = absurd (cc)

no_alias : (ds : List KDecl) (since : List KDecl) → AllOf (DeclStands InsideAsync) ds → NoAlias since → NoAlias (ds ++ since)
no_alias [] since h k = k
no_alias (d ∷ ds) since h k = (other_kind d.slot d.kind d.name d.pos h.0, no_alias ds since h.1 k)

quiet_with : (place : Where) (ds since : List KDecl) → AllOf (DeclStands place) ds → Quiet place since → Quiet place (ds ++ since)
quiet_with InTrail ds since h q e = absurd (cc)
quiet_with InFinalizer ds since h q e = absurd (cc)
quiet_with InsideAsync ds since h q e = no_alias ds since h (q refl)

quiet_finalizer : (since : List KDecl) → Quiet InFinalizer since
quiet_finalizer since e = absurd (cc)

quiet_trail : (since : List KDecl) → Quiet InTrail since
quiet_trail since e = absurd (cc)

module _ (K : Kernel) where
  mutual
    unfolding NodeNamed NodeHeld

    node_named : (sc : Scope) (since : List KDecl) → Quiet sc.place since → (e : KExpNode) → NodeHeld K (site sc since) e → NodeNamed K sc e
    node_named sc since q (Const n) h = tt
    node_named sc since q (Read l) h = h
    node_named sc since q (Alive c) h = and_true _ _ (outside sc.place (λ e. h.1 e (q e))) h.0
    node_named sc since q (One' op _ a) h = operand_named sc since q a h
    node_named sc since q (Two' op _ a _ b) h = (operand_named sc since q a h.0, operand_named sc since q b h.1)
    node_named sc since q (As' _ a) h = operand_named sc since q a h

    operand_named : {n : _} (sc : Scope) (since : List KDecl) → Quiet sc.place since → (r : Row_of-KExp n) → OperandHeld K (site sc since) r → OperandNamed K sc r
    operand_named sc since q end_of-KExp h = tt
    operand_named sc since q (more_of-KExp t p e rest) h = node_named sc since q e h

  maybe_named : (sc : Scope) (since : List KDecl) → Quiet sc.place since → (e : Option KExp) → MaybeHeld K (site sc since) e → MaybeExp K sc e
  maybe_named sc since q None h = tt
  maybe_named sc since q (Some e) h = node_named sc since q e.node h

  all_named : (sc : Scope) (since : List KDecl) → Quiet sc.place since → (es : List KExp) → AllOf (ExpHeld K (site sc since)) es → AllOf (ExpNamed K sc) es
  all_named sc since q [] h = tt
  all_named sc since q (e ∷ es) h = (node_named sc since q e.node h.0, all_named sc since q es h.1)

  mutual
    unfolding StmtNamed StmtHeld StmtStands

    stmt_named : (sc : Scope) (since : List KDecl) (aims : List Aim) (n : ℕ) → Quiet sc.place since → (x : KStmt) → StmtStands sc.place aims n x → StmtHeld K (site sc since) x → StmtNamed K sc x
    stmt_named sc since aims n q Nothing k h = tt
    stmt_named sc since aims n q (Assign l e) k h = (h.0, node_named sc since q e.node h.1)
    stmt_named sc since aims n q (Out m e) k h = (h.0, maybe_named sc since q e h.1)
    stmt_named sc since aims n q (Emit m e) k h = (h.0, maybe_named sc since q e h.1)
    stmt_named sc since aims n q (AwaitIn m t) k h = h
    stmt_named sc since aims n q (AwaitTime e u t) k h = (node_named sc since q e.node h.0, h.1)
    stmt_named sc since aims n q (AwaitEvent e t) k h = h
    stmt_named sc since aims n q Forever k h = tt
    stmt_named sc since aims n q (AwaitCode c es frame t) k h = (all_named sc since q es h.0, h.1)
    stmt_named sc since aims n q (Spawn c es pool alias) k h = (all_named sc since q es h.0, h.1, h.2)
    stmt_named sc since aims n q (Kill c) k h = h
    stmt_named sc since aims n q (Unset c) k h = h
    stmt_named sc since aims n q (Async b) k h = block_named (record sc { aims = []; place = InsideAsync }) [] [] (λ e. tt) b k.1 h
    stmt_named sc since aims n q (Finalize b) k h = block_named (record sc { aims = []; place = InFinalizer }) since [] (quiet_finalizer since) b k.1 h
    stmt_named sc since aims n q (Do t b) k h = (h.0, block_named sc since (aim_of n t ∷ aims) q b k.1 h.1)
    stmt_named sc since aims n q (Escape m e) k h = maybe_named sc since q e h
    stmt_named sc since aims n q (Break m) k h = tt
    stmt_named sc since aims n q (Continue m) k h = tt
    stmt_named sc since aims n q (If' _ arms last) k h = (arms_named sc since aims q arms k.1 h.0, block_named sc since aims q last k.2 h.1)
    stmt_named sc since aims n q (Loop turns.Free b) k h = (tt, block_named sc since (LoopAim n ∷ aims) q b k.1 h.1)
    stmt_named sc since aims n q (Loop (turns.Times slot m) b) k h = (tt, block_named sc since (LoopAim n ∷ aims) q b k.1 h.1)
    stmt_named sc since aims n q (Loop (turns.Range i next end open_a a z open_b) b) k h =
        ((node_named sc since q a.node h.0.0, node_named sc since q z.node h.0.1), block_named (record sc { seen = record { slot = i; kind = IsLoopVariable } ∷ sc.seen }) since (LoopAim n ∷ aims) q b k.1 h.1)
    stmt_named sc since aims n q (Par' m slot _ bs) k h = blocks_named sc since aims q bs k.1 h

    block_named : (sc : Scope) (since : List KDecl) (aims : List Aim) → Quiet sc.place since → (b : KBlock) → BlockStands sc.place aims b → BlockHeld K (site sc since) b → BlockNamed K sc b
    block_named sc since aims q (KBlock' n ds _ list) k h = nodes_named (with_decls ds sc) (ds ++ since) aims (quiet_with sc.place ds since k.0 q) list k.1 h

    arm_named : (sc : Scope) (since : List KDecl) (aims : List Aim) → Quiet sc.place since → (a : KArm) → ArmStands sc.place aims a → ArmHeld K (site sc since) a → ArmNamed K sc a
    arm_named sc since aims q (KArm' c b) k h = (node_named sc since q c.node h.0, block_named sc since aims q b k h.1)

    nodes_named : {n : _} (sc : Scope) (since : List KDecl) (aims : List Aim) → Quiet sc.place since → (r : Row_of-KNode n) → NodesStand sc.place aims r → NodesHeld K (site sc since) r → NodesNamed K sc r
    nodes_named sc since aims q end_of-KNode k h = tt
    nodes_named sc since aims q (more_of-KNode n p s rest) k h = (stmt_named sc since aims n q s k.0 h.0, nodes_named sc since aims q rest k.1 h.1)

    arms_named : {n : _} (sc : Scope) (since : List KDecl) (aims : List Aim) → Quiet sc.place since → (r : Row_of-KArm n) → ArmsStand sc.place aims r → ArmsHeld K (site sc since) r → ArmsNamed K sc r
    arms_named sc since aims q end_of-KArm k h = tt
    arms_named sc since aims q (more_of-KArm a rest) k h = (arm_named sc since aims q a k.0 h.0, arms_named sc since aims q rest k.1 h.1)

    blocks_named : {n : _} (sc : Scope) (since : List KDecl) (aims : List Aim) → Quiet sc.place since → (r : Row_of-KBlock n) → BlocksStand sc.place aims r → BlocksHeld K (site sc since) r → BlocksNamed K sc r
    blocks_named sc since aims q end_of-KBlock k h = tt
    blocks_named sc since aims q (more_of-KBlock b rest) k h = (block_named sc since aims q b k.0 h.0, blocks_named sc since aims q rest k.1 h.1)

  -- ---- bodies

  abbrev pub code_site : ℕ → KCode → Site
  code_site k c = site (with_decls c.params (top_scope (Some k))) []

  abbrev pub CodesHeld : ℕ → List KCode → Type 0
  CodesHeld k [] = ⊤
  CodesHeld k (c ∷ cs) = BlockHeld K (code_site k c) c.body × CodesHeld (k + 1) cs

  codes_named : (k : ℕ) (cs : List KCode) → AllOf CodeStands cs → CodesHeld k cs → CodesNamed K k cs
  codes_named k [] h g = tt
  codes_named k (c ∷ cs) h g =
      (block_named (with_decls c.params (top_scope (Some k))) [] (BodyAim (out-KBlock c.body).node c.result ∷ []) (quiet_trail []) c.body h.0 g.0, codes_named (k + 1) cs h.1 g.1)

  pub kernel_named : KernelStands K → BlockHeld K (site (top_scope None) []) K.body → CodesHeld 0 K.codes → KernelNamed K
  kernel_named h body codes = (block_named (top_scope None) [] (BodyAim (out-KBlock K.body).node ty.S32 ∷ []) (quiet_trail []) K.body h.0 body, codes_named 0 K.codes h.1 codes)
