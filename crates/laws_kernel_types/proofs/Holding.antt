-- What stands in a draft is typed.
use Rattle.std.proofs.Common.{◌≡◌, sym, ap, subst, ℕ, List, Option}
use Rattle.ceu_base.specs.declared.kinds.Pos.{Pos}
use Rattle.ceu_tree.specs.declared.source.Ident.{Ident}
use Rattle.ceu_tree.specs.declared.kernel.Kernel.{Kernel}
use Rattle.ceu_tree.specs.declared.kernel.KNode.{KNode}
use Rattle.ceu_tree.specs.declared.kernel.KDecl.{KDecl}
use Rattle.ceu_tree.specs.declared.kernel.KKind.{KKind}
use Rattle.ceu_tree.specs.declared.kernel.KArm.{KArm}
use Rattle.ceu_tree.specs.declared.kernel.ParKind.{ParKind}
use Rattle.ceu_tree.specs.declared.kernel.KBlock.{KBlock, roll-KBlock, Row_of-KNode, end_of-KNode, more_of-KNode, items-the_row-KNode, items_hidden-the_row-KNode-2}
use Rattle.ceu_tree.specs.declared.kernel.KStmt as kernel
use Rattle.ceu_tree.specs.declared.kernel.KStmt.{KStmt, Row_of-KArm, end_of-KArm, more_of-KArm, items-the_row-KArm, items_hidden-the_row-KArm-0, items_hidden-the_row-KBlock-1, Row_of-KBlock, end_of-KBlock, more_of-KBlock, items-the_row-KBlock}
use Rattle.ceu_tree.specs.declared.kernel.KStmt.TheBlock.{hidden-the_row-KArm-0, hidden-the_row-KBlock-1, hidden-the_row-KNode-2}
use Rattle.ceu_tree.specs.Proper.{Aim}
use Rattle.ceu_expand.specs.declared.draft.Draft.{Draft}
use Rattle.ceu_expand.specs.Draft.{placed, declared, outside, opened, written, block_of}
use Rattle.laws_kernel_shape.specs.Shaped.{AllOf}
use Rattle.laws_kernel_shape.proofs.Good.{all_append}
use Rattle.laws_kernel_types.specs.Typed.{DeclTyped, StmtTyped, BlockTyped, ArmTyped, NodesTyped, ArmsTyped, BlocksTyped}
use denote.Hole.Carrier

abbrev pub NodeTyped : Kernel → Option ℕ → List Aim → KNode → Type 0
NodeTyped K code aims x = StmtTyped K code aims x.node x.stmt

pub record Holds (K : Kernel) (code : Option ℕ) (aims : List Aim) (d : Draft) : Type 0 where
  pub decls : AllOf DeclTyped d.parts.decls
  pub list : AllOf (NodeTyped K code aims) d.parts.list

module _ (K : Kernel) (code : Option ℕ) (aims : List Aim) where
  -- ---- lists of a kernel

  nodes_row : {n : _} (r : Row_of-KNode n) → AllOf (NodeTyped K code aims) (items-the_row-KNode n r) → NodesTyped K code aims r
  unfolding StmtTyped
  nodes_row end_of-KNode h = tt
  nodes_row (more_of-KNode n p s rest) h = (h.0, nodes_row rest h.1)

  arms_row : {n : _} (r : Row_of-KArm n) → AllOf (ArmTyped K code aims) (items-the_row-KArm n r) → ArmsTyped K code aims r
  unfolding StmtTyped
  arms_row end_of-KArm h = tt
  arms_row (more_of-KArm a rest) h = (h.0, arms_row rest h.1)

  blocks_row : {n : _} (r : Row_of-KBlock n) → AllOf (BlockTyped K code aims) (items-the_row-KBlock n r) → BlocksTyped K code aims r
  unfolding StmtTyped
  blocks_row end_of-KBlock h = tt
  blocks_row (more_of-KBlock b rest) h = (h.0, blocks_row rest h.1)

  pub rolled_typed : (n : ℕ) (ds : List KDecl) (list : List KNode) → AllOf DeclTyped ds → AllOf (NodeTyped K code aims) list → BlockTyped K code aims (roll-KBlock (record { node = n; decls = ds; list = list }))
  unfolding StmtTyped roll-KBlock Carrier.roll
  rolled_typed n ds list h k = (h, nodes_row (hidden-the_row-KNode-2 list) (subst (AllOf (NodeTyped K code aims)) (sym (items_hidden-the_row-KNode-2 list)) k))

  pub if_typed : (n : ℕ) (arms : List KArm) (last : KBlock) → AllOf (ArmTyped K code aims) arms → BlockTyped K code aims last → StmtTyped K code aims n (kernel.If arms last)
  unfolding StmtTyped
  if_typed n arms last h k = (arms_row (hidden-the_row-KArm-0 arms) (subst (AllOf (ArmTyped K code aims)) (sym (items_hidden-the_row-KArm-0 arms)) h), k)

  pub par_typed : (n : ℕ) (kind : ParKind) (slot : ℕ) (bs : List KBlock) → AllOf (BlockTyped K code aims) bs → StmtTyped K code aims n (kernel.Par kind slot bs)
  unfolding StmtTyped
  par_typed n kind slot bs h = blocks_row (hidden-the_row-KBlock-1 bs) (subst (AllOf (BlockTyped K code aims)) (sym (items_hidden-the_row-KBlock-1 bs)) h)

  -- ---- drafts

  pub holds_as : (d e : Draft) → e.parts ≡ d.parts → Holds K code aims d → Holds K code aims e
  holds_as d e same h =
      record {
        decls = subst (λ ps. AllOf DeclTyped ps) (sym (ap (λ p. p.decls) same)) h.decls;
        list = subst (λ ps. AllOf (NodeTyped K code aims) ps) (sym (ap (λ p. p.list) same)) h.list;
      }

  pub holds_placed : (n : ℕ) (p : Pos) (st : KStmt) (d e : Draft) → e.parts ≡ d.parts → StmtTyped K code aims n st → Holds K code aims d → Holds K code aims (placed n p st e)
  unfolding placed
  holds_placed n p st d e same k h =
      let g : Holds K code aims e = holds_as d e same h in
      record { decls = g.decls; list = all_append (NodeTyped K code aims) e.parts.list _ g.list k }

  pub holds_declared : (k : KKind) (x : Ident) (d : Draft) → DeclTyped (record { slot = d.parts.slot; kind = k; name = x.name; pos = x.pos }) → Holds K code aims d → Holds K code aims (declared k x d)
  unfolding declared
  holds_declared k x d o h = record { decls = all_append (DeclTyped) d.parts.decls _ h.decls o; list = h.list }

  pub holds_opened : (n : ℕ) (d : Draft) → Holds K code aims (opened n d)
  unfolding opened
  holds_opened n d = record { decls = tt; list = tt }

  pub holds_block : (n : ℕ) (f : Draft → Draft) (d : Draft) → Holds K code aims (f (opened n d)) → BlockTyped K code aims (block_of n f d)
  unfolding outside written
  holds_block n f d h = rolled_typed d.node (f (opened n d)).parts.decls (f (opened n d)).parts.list h.decls h.list
