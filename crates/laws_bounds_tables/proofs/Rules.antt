-- In a proper kernel whose loops break no rule every statement keeps the rules on loops and exits.
use Rattle.std.proofs.Common.{◌≡◌, sym, subst, ◌≤◌, ℕ, ◌+◌, Bool, true, false, ◌==◌, ◌&&◌, Contains, List, [], ◌∷◌, ◌++◌, length, None, refl, arith, eqb-true}
use Rattle.std.proofs.lemmas.Bool.{and_parts, false≢true}
use Rattle.std.proofs.lemmas.List.Elements.{Contains-append_left, Contains-append_right}
use Rattle.std.specs.List.{list_any}
use Rattle.ceu_base.specs.declared.kinds.Pos.{Pos}
use Rattle.ceu_tree.specs.declared.kernel.Kernel.{Kernel}
use Rattle.ceu_tree.specs.declared.kernel.ParKind.{ParKind}
use Rattle.ceu_tree.specs.declared.kernel.ParKind.TheVariants as par
use Rattle.ceu_tree.specs.declared.kernel.KLoop.{KLoop}
use Rattle.ceu_tree.specs.declared.kernel.KArm.{KArm, KArm', out-KArm}
use Rattle.ceu_tree.specs.declared.kernel.KBlock.{KBlock, KBlock', out-KBlock, Row_of-KNode, end_of-KNode, more_of-KNode}
use Rattle.ceu_tree.specs.declared.kernel.KStmt.{KStmt, out-KStmt, Row_of-KArm, end_of-KArm, more_of-KArm, items-the_row-KArm, items_shown-the_row-KArm-0, Row_of-KBlock, end_of-KBlock, more_of-KBlock, items-the_row-KBlock, items_shown-the_row-KBlock-1, Do, If', Loop, Par'}
use Rattle.ceu_tree.specs.Numbering.{counts_from, row_length, stmt_nodes, block_nodes, arm_nodes, list_nodes, arms_nodes, blocks_nodes}
use Rattle.ceu_tree.specs.Paths.{constant_bound, quick_block}
use Rattle.ceu_tree.specs.Costs.{paced}
use Rattle.ceu_tree.specs.Proper.{Scope, LoopAim, with_decls, with_aim, with_turns, do_aim, outside_finalizers, is_trail, par_ok, stmt_ok, block_ok, arm_ok, nodes_ok, arms_ok, blocks_ok}
use Rattle.ceu_paths.specs.Loops.{TrailLoop, trail_loop, loops, block_loops, arm_loops, nodes_loops, arms_loops, blocks_loops}
use Rattle.ceu_bound.specs.PhaseB.{goes_round}
use Rattle.ceu_endings.proofs.Aims.{Below, below_more, do_node, turns_aims}
use Rattle.ceu_endings.proofs.Rules.{counts_parts, block_counts}
use Rattle.laws_bounds_steps.specs.Ways.{leads_to}
use Rattle.laws_bounds_steps.specs.Pays.{LoopKeeps}
use Rattle.laws_bounds_steps.specs.Starts.{BlockClear, PartKeeps, arms_keep, branches_keep, par_keeps}
use Rattle.laws_bounds_steps.specs.Kept.{starts_kept, inside_kept, block_kept, arm_kept, nodes_kept, arms_kept, blocks_kept}
use Rattle.laws_bounds_tables.specs.Exits.{AllLead}
use Rattle.laws_bounds_tables.proofs.Exits.{block_leads}
use Rattle.laws_bounds_tables.proofs.Aims.{none_lead_to, none_escape, none_turn}
use denote.Hole.Carrier

-- a loop without a constant bound that no event paces doesn't go on at once
abbrev pub Stands : List Bool → TrailLoop → Type 0
Stands P l = constant_bound l.kind ≡ None → paced l.kind l.body ≡ None → goes_round P l ≡ false

abbrev pub AllStand : List Bool → List TrailLoop → Type 0
AllStand P ls = (l : TrailLoop) → Contains ls l → Stands P l

pub stand_left : (P : List Bool) (xs ys : List TrailLoop) → AllStand P (xs ++ ys) → AllStand P xs
stand_left P xs ys h l c = h l (Contains-append_left xs ys l c)

pub stand_right : (P : List Bool) (xs ys : List TrailLoop) → AllStand P (xs ++ ys) → AllStand P ys
stand_right P xs ys h l c = h l (Contains-append_right xs ys l c)

module _ (P : List Bool) (K : Kernel) (names : List (List ℕ)) where
  -- ---- one statement

  block_clear : (sc : Scope) (b : KBlock) (m : ℕ) → block_ok K names sc b ≡ true → Below sc.aims m → list_any (leads_to m) (quick_block P b) ≡ false
  block_clear sc b m ok below = none_lead_to m sc.aims (quick_block P b) below (block_leads P K names sc b ok)

  -- a block that is numbered from k on
  first_clear : (sc : Scope) (b : KBlock) (k : ℕ) → block_ok K names sc b ≡ true → counts_from k (block_nodes b) ≡ true → Below sc.aims k → BlockClear P b
  first_clear sc b k ok c below = let at = block_counts b k c in block_clear sc b (out-KBlock b).node ok (below_more sc.aims k (out-KBlock b).node (omega (arith, at)) below)

  arm_keeps : (sc : Scope) (n : ℕ) (a : KArm) (k : ℕ) → n ≤ k → arm_ok K names sc a ≡ true → counts_from k (arm_nodes a) ≡ true → Below sc.aims n → PartKeeps P n (out-KArm a).body
  unfolding arm_nodes arm_ok out-KArm Carrier.out
  arm_keeps sc n (KArm' e b) k l ok c below =
      let a = and_parts _ (block_ok K names sc b) ok in
      (first_clear sc b k a.1 c (below_more sc.aims n k l below), block_clear sc b n a.1 below)

  arms_row : {m : _} (sc : Scope) (n : ℕ) (rows : Row_of-KArm m) (k : ℕ) → n ≤ k → arms_ok K names sc rows ≡ true → counts_from k (arms_nodes rows) ≡ true → Below sc.aims n → arms_keep P n (items-the_row-KArm m rows)
  unfolding arms_ok arms_nodes
  arms_row sc n end_of-KArm k l ok c below = tt
  arms_row sc n (more_of-KArm a rest) k l ok c below =
      let x = and_parts (arm_ok K names sc a) (arms_ok K names sc rest) ok in
      let z = counts_parts k (arm_nodes a) (arms_nodes rest) c in
      (arm_keeps sc n a k l x.0 z.0 below, arms_row sc n rest (k + length (arm_nodes a)) (omega arith) x.1 z.1 below)

  branches_row : {m : _} (sc : Scope) (rows : Row_of-KBlock m) (k : ℕ) → blocks_ok K names sc rows ≡ true → counts_from k (blocks_nodes rows) ≡ true → Below sc.aims k → branches_keep P (items-the_row-KBlock m rows)
  unfolding blocks_ok blocks_nodes
  branches_row sc end_of-KBlock k ok c below = tt
  branches_row sc (more_of-KBlock b rest) k ok c below =
      let x = and_parts (block_ok K names sc b) (blocks_ok K names sc rest) ok in
      let z = counts_parts k (block_nodes b) (blocks_nodes rest) c in
      (first_clear sc b k x.0 z.0 below, branches_row sc rest (k + length (block_nodes b)) x.1 z.1 (below_more sc.aims k (k + length (block_nodes b)) (omega arith) below))

  some_branch : {m : _} (kind : ParKind) (slot : ℕ) (rows : Row_of-KBlock m) → par_ok K kind slot (row_length rows) ≡ true → branches_keep P (items-the_row-KBlock m rows) → par_keeps P (items-the_row-KBlock m rows)
  some_branch par.And slot end_of-KBlock ok h = absurd (false≢true ok)
  some_branch par.Or slot end_of-KBlock ok h = absurd (false≢true ok)
  some_branch par.Never slot end_of-KBlock ok h = absurd (false≢true ok)
  some_branch kind slot (more_of-KBlock b rest) ok h = h

  loop_keeps : (sc : Scope) (n : ℕ) (p : Pos) (k : KLoop) (b : KBlock) → block_ok K names (with_aim (LoopAim n) (with_turns K k sc)) b ≡ true → counts_from (n + 1) (block_nodes b) ≡ true → Below sc.aims n → Stands P (trail_loop n p k b) → LoopKeeps P n k b
  loop_keeps sc n p k b ok c below stands =
      let all : AllLead (LoopAim n ∷ sc.aims) (quick_block P b) = subst (λ y. AllLead (LoopAim n ∷ y) (quick_block P b)) (turns_aims K k sc) (block_leads P K names (with_aim (LoopAim n) (with_turns K k sc)) b ok) in
      let at = block_counts b (n + 1) c in
      record {
        stands = stands;
        breaks = none_escape n sc.aims (quick_block P b) below all;
        clear = none_lead_to (out-KBlock b).node (LoopAim n ∷ sc.aims) (quick_block P b) (omega (arith, at), below_more sc.aims n (out-KBlock b).node (omega (arith, at)) below) all;
      }

  starts_are : (sc : Scope) (n : ℕ) (p : Pos) (st : KStmt) → stmt_ok K names sc n st ≡ true → counts_from (n + 1) (stmt_nodes st) ≡ true → AllStand P (loops n p st) → Below sc.aims n → starts_kept P n (out-KStmt st)
  unfolding stmt_ok stmt_nodes loops out-KStmt Carrier.out
  starts_are sc n p (Do t b) ok c stand below =
      let good = (and_parts _ (block_ok K names (with_aim (do_aim K n t) sc) b) ok).1 in
      let aim = do_node K n t in (
        first_clear (with_aim (do_aim K n t) sc) b (n + 1) good c (omega (arith, aim), below_more sc.aims n (n + 1) (omega arith) below),
        none_turn K n t sc.aims (quick_block P b) below (block_leads P K names (with_aim (do_aim K n t) sc) b good),
      )
  starts_are sc n p (If' x arms last) ok c stand below =
      let a = and_parts (outside_finalizers sc.place && arms_ok K names sc arms) (block_ok K names sc last) ok in
      let b = and_parts (outside_finalizers sc.place) (arms_ok K names sc arms) a.0 in
      let z = counts_parts (n + 1) (arms_nodes arms) (block_nodes last) c in (
        subst (arms_keep P n) (sym (items_shown-the_row-KArm-0 x arms)) (arms_row sc n arms (n + 1) (omega arith) b.1 z.0 below),
        (first_clear sc last (n + 1 + length (arms_nodes arms)) a.1 z.1 (below_more sc.aims n (n + 1 + length (arms_nodes arms)) (omega arith) below), block_clear sc last n a.1 below),
      )
  starts_are sc n p (Loop k b) ok c stand below =
      loop_keeps sc n p k b (and_parts _ (block_ok K names (with_aim (LoopAim n) (with_turns K k sc)) b) ok).1 c below (stand (trail_loop n p k b) (0, omega arith, refl))
  starts_are sc n p (Par' k slot x bs) ok c stand below =
      let a = and_parts (is_trail sc.place && par_ok K k slot (row_length bs)) (blocks_ok K names sc bs) ok in
      let b = and_parts (is_trail sc.place) (par_ok K k slot (row_length bs)) a.0 in
      subst (par_keeps P) (sym (items_shown-the_row-KBlock-1 x bs)) (some_branch k slot bs b.1 (branches_row sc bs (n + 1) a.1 c (below_more sc.aims n (n + 1) (omega arith) below)))
  starts_are sc n p st ok c stand below = tt

  -- ---- every statement of a part

  mutual
    unfolding inside_kept stmt_ok stmt_nodes loops

    stmt_is : (sc : Scope) (n : ℕ) (p : Pos) (st : KStmt) → stmt_ok K names sc n st ≡ true → counts_from (n + 1) (stmt_nodes st) ≡ true → AllStand P (loops n p st) → Below sc.aims n → inside_kept P st
    stmt_is sc n p (Do t b) ok c stand below =
        let aim = do_node K n t in
        block_is (with_aim (do_aim K n t) sc) b (n + 1) (and_parts _ (block_ok K names (with_aim (do_aim K n t) sc) b) ok).1 c stand (omega (arith, aim), below_more sc.aims n (n + 1 + 1) (omega arith) below)
    stmt_is sc n p (If' x arms last) ok c stand below =
        let a = and_parts (outside_finalizers sc.place && arms_ok K names sc arms) (block_ok K names sc last) ok in
        let b = and_parts (outside_finalizers sc.place) (arms_ok K names sc arms) a.0 in
        let z = counts_parts (n + 1) (arms_nodes arms) (block_nodes last) c in (
          arms_are sc arms (n + 1) b.1 z.0 (stand_left P (arms_loops arms) (block_loops last) stand) (below_more sc.aims n (n + 1) (omega arith) below),
          block_is sc last (n + 1 + length (arms_nodes arms)) a.1 z.1 (stand_right P (arms_loops arms) (block_loops last) stand) (below_more sc.aims n (n + 1 + length (arms_nodes arms) + 1) (omega arith) below),
        )
    stmt_is sc n p (Loop k b) ok c stand below =
        block_is (with_aim (LoopAim n) (with_turns K k sc)) b (n + 1) (and_parts _ (block_ok K names (with_aim (LoopAim n) (with_turns K k sc)) b) ok).1 c (stand_right P (trail_loop n p k b ∷ []) (block_loops b) stand)
        (subst (λ y. Below (LoopAim n ∷ y) (n + 1 + 1)) (sym (turns_aims K k sc)) (omega arith, below_more sc.aims n (n + 1 + 1) (omega arith) below))
    stmt_is sc n p (Par' k slot x bs) ok c stand below = blocks_are sc bs (n + 1) (and_parts _ (blocks_ok K names sc bs) ok).1 c stand (below_more sc.aims n (n + 1) (omega arith) below)
    stmt_is sc n p st ok c stand below = tt

    pub block_is : (sc : Scope) (b : KBlock) (k : ℕ) → block_ok K names sc b ≡ true → counts_from k (block_nodes b) ≡ true → AllStand P (block_loops b) → Below sc.aims (k + 1) → block_kept P b
    block_is sc (KBlock' n ds x list) k ok c stand below =
        nodes_are (with_decls ds sc) list (k + 1) (and_parts _ (nodes_ok K names (with_decls ds sc) list) ok).1 (and_parts (n == k) (counts_from (k + 1) (list_nodes list)) c).1 stand below

    arm_is : (sc : Scope) (a : KArm) (k : ℕ) → arm_ok K names sc a ≡ true → counts_from k (arm_nodes a) ≡ true → AllStand P (arm_loops a) → Below sc.aims k → arm_kept P a
    arm_is sc (KArm' e b) k ok c stand below = block_is sc b k (and_parts _ (block_ok K names sc b) ok).1 c stand (below_more sc.aims k (k + 1) (omega arith) below)

    nodes_are : {m : _} (sc : Scope) (rows : Row_of-KNode m) (k : ℕ) → nodes_ok K names sc rows ≡ true → counts_from k (list_nodes rows) ≡ true → AllStand P (nodes_loops rows) → Below sc.aims k → nodes_kept P rows
    nodes_are sc end_of-KNode k ok c stand below = tt
    nodes_are sc (more_of-KNode n p s rest) k ok c stand below =
        let a = and_parts _ (nodes_ok K names sc rest) ok in
        let b = and_parts (n == k) (counts_from (k + 1) (stmt_nodes s ++ list_nodes rest)) c in
        let e = eqb-true n k b.0 in
        let z = counts_parts (k + 1) (stmt_nodes s) (list_nodes rest) b.1 in
        let good = (and_parts _ (stmt_ok K names sc n s) a.0).1 in
        let on = subst (λ j. counts_from (j + 1) (stmt_nodes s) ≡ true) (sym e) z.0 in
        let stands = stand_left P (loops n p s) (nodes_loops rest) stand in
        let under = below_more sc.aims k n (omega (arith, e)) below in (
          (starts_are sc n p s good on stands under, stmt_is sc n p s good on stands under),
          nodes_are sc rest (k + 1 + length (stmt_nodes s)) a.1 z.1 (stand_right P (loops n p s) (nodes_loops rest) stand) (below_more sc.aims k (k + 1 + length (stmt_nodes s)) (omega arith) below),
        )

    arms_are : {m : _} (sc : Scope) (rows : Row_of-KArm m) (k : ℕ) → arms_ok K names sc rows ≡ true → counts_from k (arms_nodes rows) ≡ true → AllStand P (arms_loops rows) → Below sc.aims k → arms_kept P rows
    arms_are sc end_of-KArm k ok c stand below = tt
    arms_are sc (more_of-KArm a rest) k ok c stand below =
        let x = and_parts (arm_ok K names sc a) (arms_ok K names sc rest) ok in
        let z = counts_parts k (arm_nodes a) (arms_nodes rest) c in (
          arm_is sc a k x.0 z.0 (stand_left P (arm_loops a) (arms_loops rest) stand) below,
          arms_are sc rest (k + length (arm_nodes a)) x.1 z.1 (stand_right P (arm_loops a) (arms_loops rest) stand) (below_more sc.aims k (k + length (arm_nodes a)) (omega arith) below),
        )

    blocks_are : {m : _} (sc : Scope) (rows : Row_of-KBlock m) (k : ℕ) → blocks_ok K names sc rows ≡ true → counts_from k (blocks_nodes rows) ≡ true → AllStand P (blocks_loops rows) → Below sc.aims k → blocks_kept P rows
    blocks_are sc end_of-KBlock k ok c stand below = tt
    blocks_are sc (more_of-KBlock b rest) k ok c stand below =
        let x = and_parts (block_ok K names sc b) (blocks_ok K names sc rest) ok in
        let z = counts_parts k (block_nodes b) (blocks_nodes rest) c in (
          block_is sc b k x.0 z.0 (stand_left P (block_loops b) (blocks_loops rest) stand) (below_more sc.aims k (k + 1) (omega arith) below),
          blocks_are sc rest (k + length (block_nodes b)) x.1 z.1 (stand_right P (block_loops b) (blocks_loops rest) stand) (below_more sc.aims k (k + length (block_nodes b)) (omega arith) below),
        )
