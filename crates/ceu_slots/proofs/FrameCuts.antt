-- The frames of codes by cut frames: what a table of cut numbers gives, cut, is what the exact one gives, cut.
use Rattle.std.proofs.Common.{◌≡◌, refl, ap, ◌∙◌, ℕ, zero, suc, ◌+◌, ◌<◌, List, [], ◌∷◌, ◌++◌, map, length, take, get_or, Bool, true, false, arith}
use Rattle.ceu_tree.specs.declared.kernel.KCode.{KCode}
use Rattle.ceu_tree.specs.declared.kernel.KDecl.{KDecl}
use Rattle.ceu_tree.specs.declared.kernel.KKind.{KKind}
use Rattle.ceu_tree.specs.declared.kernel.KKind.TheVariants as kind
use Rattle.ceu_tree.specs.declared.kernel.KBlock.{KBlock, KBlock', Row_of-KNode, end_of-KNode, more_of-KNode}
use Rattle.ceu_tree.specs.declared.kernel.KArm.{KArm, KArm'}
use Rattle.ceu_tree.specs.declared.kernel.KStmt.{KStmt, Row_of-KArm, end_of-KArm, more_of-KArm, Row_of-KBlock, end_of-KBlock, more_of-KBlock, AwaitCode, Async, Do, If', Loop, Par'}
use Rattle.ceu_tree.specs.Cut.{cut}
use Rattle.ceu_tree.specs.Needs.{entry, decl_size, decls_size, apart, loop_size, branch_size, stmt_need, block_need, arm_need, nodes_need, arms_need, blocks_need, frame_of, frames_from}
use Rattle.ceu_tree.proofs.CutLaws.{same_plus, same_times, cut_idem}
use Rattle.ceu_tree.proofs.TableLaws.{entry_cut}

same_apart : (plain : Bool) (a b c d : ℕ) → cut a ≡ cut b → cut c ≡ cut d → cut (apart plain a c) ≡ cut (apart plain b d)
same_apart true a b c d e f = same_plus a b c d e f
same_apart false a b c d e f = grind (arith, e, f)

decl_cut : (F : List ℕ) (k : KKind) → cut (decl_size (map cut F) k) ≡ cut (decl_size F k)
decl_cut F (kind.Var t) = refl
decl_cut F (kind.Alias c) = refl
decl_cut F (kind.Pool n c) = same_times n (9 + entry c (map cut F)) (9 + entry c F) (same_plus 9 9 (entry c (map cut F)) (entry c F) refl (ap cut (entry_cut c F) ∙ cut_idem (entry c F)))

decls_cut : (F : List ℕ) (ds : List KDecl) → cut (decls_size (map cut F) ds) ≡ cut (decls_size F ds)
decls_cut F [] = refl
decls_cut F (d ∷ ds) = same_plus (decl_size (map cut F) d.kind) (decl_size F d.kind) (decls_size (map cut F) ds) (decls_size F ds) (decl_cut F d.kind) (decls_cut F ds)

module _ (plain : Bool) (F : List ℕ) where
  mutual
    unfolding stmt_need

    stmt_cut : (s : KStmt) → cut (stmt_need plain (map cut F) s) ≡ cut (stmt_need plain F s)
    stmt_cut (AwaitCode c es f t) = ap cut (entry_cut c F) ∙ cut_idem (entry c F)
    stmt_cut (Async b) = block_cut b
    stmt_cut (Do t b) = block_cut b
    stmt_cut (If' _ arms last) = same_apart plain (arms_need plain (map cut F) arms) (arms_need plain F arms) (block_need plain (map cut F) last) (block_need plain F last) (arms_cut arms) (block_cut last)
    stmt_cut (Loop k b) = same_plus (loop_size k) (loop_size k) (block_need plain (map cut F) b) (block_need plain F b) refl (block_cut b)
    stmt_cut (Par' k slot _ bs) = blocks_cut (branch_size k) bs
    stmt_cut _ = refl

    pub block_cut : (b : KBlock) → cut (block_need plain (map cut F) b) ≡ cut (block_need plain F b)
    block_cut (KBlock' n ds _ list) = same_plus (decls_size (map cut F) ds) (decls_size F ds) (nodes_need plain (map cut F) list) (nodes_need plain F list) (decls_cut F ds) (nodes_cut list)

    arm_cut : (a : KArm) → cut (arm_need plain (map cut F) a) ≡ cut (arm_need plain F a)
    arm_cut (KArm' c b) = block_cut b

    nodes_cut : {n : _} (r : Row_of-KNode n) → cut (nodes_need plain (map cut F) r) ≡ cut (nodes_need plain F r)
    nodes_cut end_of-KNode = refl
    nodes_cut (more_of-KNode n p s rest) = same_apart plain (stmt_need plain (map cut F) s) (stmt_need plain F s) (nodes_need plain (map cut F) rest) (nodes_need plain F rest) (stmt_cut s) (nodes_cut rest)

    arms_cut : {n : _} (r : Row_of-KArm n) → cut (arms_need plain (map cut F) r) ≡ cut (arms_need plain F r)
    arms_cut end_of-KArm = refl
    arms_cut (more_of-KArm a rest) = same_apart plain (arm_need plain (map cut F) a) (arm_need plain F a) (arms_need plain (map cut F) rest) (arms_need plain F rest) (arm_cut a) (arms_cut rest)

    blocks_cut : (each : ℕ) {n : _} (r : Row_of-KBlock n) → cut (blocks_need plain (map cut F) each r) ≡ cut (blocks_need plain F each r)
    blocks_cut each end_of-KBlock = refl
    blocks_cut each (more_of-KBlock b rest) = same_plus (each + block_need plain (map cut F) b) (each + block_need plain F b) (blocks_need plain (map cut F) each rest) (blocks_need plain F each rest)
        (same_plus each each (block_need plain (map cut F) b) (block_need plain F b) refl (block_cut b)) (blocks_cut each rest)

  pub frame_cut : (c : KCode) → cut (frame_of plain (map cut F) c) ≡ cut (frame_of plain F c)
  frame_cut c = same_plus (8 + decls_size (map cut F) c.params) (8 + decls_size F c.params) (block_need plain (map cut F) c.body) (block_need plain F c.body)
      (same_plus 8 8 (decls_size (map cut F) c.params) (decls_size F c.params) refl (decls_cut F c.params)) (block_cut c.body)

-- the frames with one more code
pub frames_more : (plain : Bool) (F : List ℕ) (cs : List KCode) (i : ℕ) (d : KCode) → i < length cs →
    frames_from plain F (take (suc i) cs) ≡ frames_from plain F (take i cs) ++ frame_of plain (frames_from plain F (take i cs)) (get_or cs i d) ∷ []
frames_more plain F [] i d h = absurd (omega arith)
frames_more plain F (c ∷ cs) zero d h = refl
frames_more plain F (c ∷ cs) (suc i) d h = frames_more plain (F ++ frame_of plain F c ∷ []) cs i d (omega arith)
