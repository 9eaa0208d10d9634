-- The gates of codes by cut numbers: what a table of cut numbers gives, cut, is what the exact one gives, cut.
use Rattle.std.proofs.Common.{◌≡◌, refl, ap, ◌∙◌, ℕ, zero, suc, ◌+◌, ◌<◌, List, [], ◌∷◌, ◌++◌, map, length, take, get_or, arith}
use Rattle.ceu_tree.specs.declared.kernel.KCode.{KCode}
use Rattle.ceu_tree.specs.declared.kernel.KDecl.{KDecl}
use Rattle.ceu_tree.specs.declared.kernel.KKind.{KKind}
use Rattle.ceu_tree.specs.declared.kernel.KKind.TheVariants as kind
use Rattle.ceu_tree.specs.declared.kernel.KBlock.{KBlock, KBlock', Row_of-KNode, end_of-KNode, more_of-KNode}
use Rattle.ceu_tree.specs.declared.kernel.KArm.{KArm, KArm'}
use Rattle.ceu_tree.specs.declared.kernel.KStmt.{KStmt, Row_of-KArm, end_of-KArm, more_of-KArm, Row_of-KBlock, end_of-KBlock, more_of-KBlock, AwaitCode, Do, If', Loop, Par'}
use Rattle.ceu_tree.specs.Cut.{cut}
use Rattle.ceu_tree.specs.Needs.{entry, pool_gates, pools_gates, stmt_gates, block_gates, arm_gates, nodes_gates, arms_gates, blocks_gates, nodes_finalizers, gates_from}
use Rattle.ceu_tree.proofs.CutLaws.{same_plus, same_max, same_times, cut_idem}
use Rattle.ceu_tree.proofs.TableLaws.{entry_cut}

pool_cut : (G : List ℕ) (k : KKind) → cut (pool_gates (map cut G) k) ≡ cut (pool_gates G k)
pool_cut G (kind.Var t) = refl
pool_cut G (kind.Alias c) = refl
pool_cut G (kind.Pool n c) = same_times n (entry c (map cut G)) (entry c G) (ap cut (entry_cut c G) ∙ cut_idem (entry c G))

pools_cut : (G : List ℕ) (ds : List KDecl) → cut (pools_gates (map cut G) ds) ≡ cut (pools_gates G ds)
pools_cut G [] = refl
pools_cut G (d ∷ ds) = same_plus (pool_gates (map cut G) d.kind) (pool_gates G d.kind) (pools_gates (map cut G) ds) (pools_gates G ds) (pool_cut G d.kind) (pools_cut G ds)

module _ (G : List ℕ) where
  mutual
    unfolding stmt_gates

    stmt_cut : (s : KStmt) → cut (stmt_gates (map cut G) s) ≡ cut (stmt_gates G s)
    stmt_cut (AwaitCode c es f t) = ap cut (entry_cut c G) ∙ cut_idem (entry c G)
    stmt_cut (Do t b) = block_cut b
    stmt_cut (If' _ arms last) = same_max (arms_gates (map cut G) arms) (arms_gates G arms) (block_gates (map cut G) last) (block_gates G last) (arms_cut arms) (block_cut last)
    stmt_cut (Loop k b) = block_cut b
    stmt_cut (Par' k slot _ bs) = blocks_cut bs
    stmt_cut _ = refl

    pub block_cut : (b : KBlock) → cut (block_gates (map cut G) b) ≡ cut (block_gates G b)
    block_cut (KBlock' n ds _ list) = same_max 1 1 (nodes_finalizers list + pools_gates (map cut G) ds + nodes_gates (map cut G) list) (nodes_finalizers list + pools_gates G ds + nodes_gates G list) refl
        (same_plus (nodes_finalizers list + pools_gates (map cut G) ds) (nodes_finalizers list + pools_gates G ds) (nodes_gates (map cut G) list) (nodes_gates G list)
        (same_plus (nodes_finalizers list) (nodes_finalizers list) (pools_gates (map cut G) ds) (pools_gates G ds) refl (pools_cut G ds)) (nodes_cut list))

    arm_cut : (a : KArm) → cut (arm_gates (map cut G) a) ≡ cut (arm_gates G a)
    arm_cut (KArm' c b) = block_cut b

    nodes_cut : {n : _} (r : Row_of-KNode n) → cut (nodes_gates (map cut G) r) ≡ cut (nodes_gates G r)
    nodes_cut end_of-KNode = refl
    nodes_cut (more_of-KNode n p s rest) = same_max (stmt_gates (map cut G) s) (stmt_gates G s) (nodes_gates (map cut G) rest) (nodes_gates G rest) (stmt_cut s) (nodes_cut rest)

    arms_cut : {n : _} (r : Row_of-KArm n) → cut (arms_gates (map cut G) r) ≡ cut (arms_gates G r)
    arms_cut end_of-KArm = refl
    arms_cut (more_of-KArm a rest) = same_max (arm_gates (map cut G) a) (arm_gates G a) (arms_gates (map cut G) rest) (arms_gates G rest) (arm_cut a) (arms_cut rest)

    blocks_cut : {n : _} (r : Row_of-KBlock n) → cut (blocks_gates (map cut G) r) ≡ cut (blocks_gates G r)
    blocks_cut end_of-KBlock = refl
    blocks_cut (more_of-KBlock b rest) = same_plus (block_gates (map cut G) b) (block_gates G b) (blocks_gates (map cut G) rest) (blocks_gates G rest) (block_cut b) (blocks_cut rest)

-- the gates with one more code
pub gates_more : (G : List ℕ) (cs : List KCode) (i : ℕ) (d : KCode) → i < length cs →
    gates_from G (take (suc i) cs) ≡ gates_from G (take i cs) ++ block_gates (gates_from G (take i cs)) (get_or cs i d).body ∷ []
gates_more G [] i d h = absurd (omega arith)
gates_more G (c ∷ cs) zero d h = refl
gates_more G (c ∷ cs) (suc i) d h = gates_more (G ++ block_gates G c.body ∷ []) cs i d (omega arith)
