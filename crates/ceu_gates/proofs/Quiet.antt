-- In an async and in a finalizer of a proper kernel nothing waits, so all of it has one gate; and each range lies within that of its block.
use Rattle.std.proofs.Common.{◌≡◌, refl, ◌∙◌, ℕ, ◌+◌, ◌≤◌, max, false, ◌&&◌, IsTrue, List, [], ◌∷◌, nat_le, arith, lit≤}
use Rattle.std.specs.List.{list_all}
use Rattle.ceu_tree.specs.declared.kernel.Kernel.{Kernel}
use Rattle.ceu_tree.specs.declared.kernel.KDecl.{KDecl}
use Rattle.ceu_tree.specs.declared.kernel.KKind.{KKind}
use Rattle.ceu_tree.specs.declared.kernel.KKind.TheVariants as kind
use Rattle.ceu_tree.specs.declared.kernel.KLoop.{KLoop}
use Rattle.ceu_tree.specs.declared.kernel.KLoop.TheVariants as turns
use Rattle.ceu_tree.specs.declared.kernel.KBlock.{KBlock, KBlock', Row_of-KNode, end_of-KNode, more_of-KNode}
use Rattle.ceu_tree.specs.declared.kernel.KArm.{KArm, KArm'}
use Rattle.ceu_tree.specs.declared.kernel.KStmt.{KStmt, Row_of-KArm, end_of-KArm, more_of-KArm, AwaitCode, Finalize, Do, If', Loop, Par'}
use Rattle.ceu_tree.specs.Needs.{finalizers, nodes_finalizers, pool_gates, pools_gates, stmt_gates, block_gates, nodes_gates, arm_gates, arms_gates}
use Rattle.ceu_tree.specs.Proper.{Scope, is_trail, outside_finalizers, with_decls, with_turns, with_aim, do_aim, LoopAim, decl_ok, loop_ok, par_ok, gives, stmt_ok, block_ok, arm_ok, nodes_ok, arms_ok}
use Rattle.ceu_base.specs.declared.kinds.Ty.TheVariants as ty
use Rattle.ceu_tree.specs.Mentions.{all_set}
use Rattle.ceu_tree.specs.Numbering.{row_length}
use Rattle.ceu_gates.proofs.Tests.{both_left, both_right, contrary}

one_gate : (f p m : ℕ) → f ≡ 0 → p ≡ 0 → m ≤ 1 → max 1 (f + p + m) ≡ 1
one_gate f p m a b c = grind arith

two_most : (a b : ℕ) → a ≤ 1 → b ≤ 1 → max a b ≤ 1
two_most a b h k = grind arith

turns_place : (K : Kernel) (k : KLoop) (sc : Scope) → is_trail (with_turns K k sc).place ≡ is_trail sc.place
turns_place K turns.Free sc = refl
turns_place K (turns.Times slot n) sc = refl
turns_place K (turns.Range i next end open_a a b open_b) sc = refl

module _ (K : Kernel) (names : List (List ℕ)) (table : List ℕ) where
  decl_quiet : (sc : Scope) (d : KDecl) (k : KKind) → is_trail sc.place ≡ false → IsTrue (decl_ok K sc (record d { kind = k })) → pool_gates table k ≡ 0
  decl_quiet sc d (kind.Var t) e ok = refl
  decl_quiet sc d (kind.Alias c) e ok = refl
  decl_quiet sc d (kind.Pool n c) e ok = absurd (contrary (is_trail sc.place) e
      (both_left (is_trail sc.place) _ (both_left (is_trail sc.place && _) _ (both_left (is_trail sc.place && _ && _) _ (both_left (is_trail sc.place && _ && _ && _) _ ok)))))

  decls_quiet : (sc : Scope) (ds : List KDecl) → is_trail sc.place ≡ false → IsTrue (list_all (decl_ok K sc) ds) → pools_gates table ds ≡ 0
  decls_quiet sc [] e ok = refl
  decls_quiet sc (d ∷ ds) e ok =
      let here : pool_gates table d.kind ≡ 0 = decl_quiet sc d d.kind e (both_left (decl_ok K sc d) _ ok) in
      let rest : pools_gates table ds ≡ 0 = decls_quiet sc ds e (both_right (decl_ok K sc d) _ ok) in
      omega (arith, here, rest)

  mutual
    unfolding stmt_ok stmt_gates nodes_finalizers

    quiet_stmt : (sc : Scope) (n : ℕ) (s : KStmt) → is_trail sc.place ≡ false → IsTrue (stmt_ok K names sc n s) → (stmt_gates table s ≤ 1) × (finalizers s ≡ 0)
    quiet_stmt sc n (AwaitCode c es f t) e ok = absurd (contrary (is_trail sc.place) e (both_left (is_trail sc.place) _ ok))
    quiet_stmt sc n (Finalize b) e ok = absurd (contrary (is_trail sc.place) e (both_left (is_trail sc.place) _ ok))
    quiet_stmt sc n (Do t b) e ok =
        let one : block_gates table b ≡ 1 = quiet_block (with_aim (do_aim K n t) sc) b e (both_right (outside_finalizers sc.place && _) _ ok) in
        (omega (arith, one), refl)
    quiet_stmt sc n (If' _ arms last) e ok =
        let parts : IsTrue (outside_finalizers sc.place && arms_ok K names sc arms) = both_left (outside_finalizers sc.place && arms_ok K names sc arms) _ ok in
        let some : arms_gates table arms ≤ 1 = quiet_arms sc arms e (both_right (outside_finalizers sc.place) _ parts) in
        let one : block_gates table last ≡ 1 = quiet_block sc last e (both_right (outside_finalizers sc.place && arms_ok K names sc arms) _ ok) in
        (two_most (arms_gates table arms) (block_gates table last) some (omega (arith, one)), refl)
    quiet_stmt sc n (Loop k b) e ok =
        let one : block_gates table b ≡ 1 = quiet_block (with_aim (LoopAim n) (with_turns K k sc)) b (turns_place K k sc ∙ e) (both_right (outside_finalizers sc.place && loop_ok K sc k) _ ok) in
        (omega (arith, one), refl)
    quiet_stmt sc n (Par' k slot _ bs) e ok = absurd (contrary (is_trail sc.place) e
        (both_left (is_trail sc.place) _ (both_left (is_trail sc.place && par_ok K k slot (row_length bs)) _ ok)))
    quiet_stmt sc n _ e ok = (lit≤ tt, refl)

    pub quiet_block : (sc : Scope) (b : KBlock) → is_trail sc.place ≡ false → IsTrue (block_ok K names sc b) → block_gates table b ≡ 1
    quiet_block sc (KBlock' n ds x list) e ok =
        let inner = quiet_nodes (with_decls ds sc) list e (both_right (list_all (decl_ok K sc) ds && all_set names ds list) _ ok) in
        let none = decls_quiet sc ds e (both_left (list_all (decl_ok K sc) ds) _ (both_left (list_all (decl_ok K sc) ds && all_set names ds list) _ ok)) in
        one_gate (nodes_finalizers list) (pools_gates table ds) (nodes_gates table list) inner.1 none inner.0

    quiet_nodes : {n : _} (sc : Scope) (r : Row_of-KNode n) → is_trail sc.place ≡ false → IsTrue (nodes_ok K names sc r) → (nodes_gates table r ≤ 1) × (nodes_finalizers r ≡ 0)
    quiet_nodes sc end_of-KNode e ok = (lit≤ tt, refl)
    quiet_nodes sc (more_of-KNode n p s rest) e ok =
        let here = quiet_stmt sc n s e (both_right (nat_le 1 p.line && nat_le 1 p.col) _ (both_left (nat_le 1 p.line && nat_le 1 p.col && stmt_ok K names sc n s) _ ok)) in
        let more = quiet_nodes sc rest e (both_right (nat_le 1 p.line && nat_le 1 p.col && stmt_ok K names sc n s) _ ok) in
        (two_most (stmt_gates table s) (nodes_gates table rest) here.0 more.0, omega (arith, here.1, more.1))

    quiet_arm : (sc : Scope) (a : KArm) → is_trail sc.place ≡ false → IsTrue (arm_ok K names sc a) → arm_gates table a ≤ 1
    quiet_arm sc (KArm' c b) e ok = let one : block_gates table b ≡ 1 = quiet_block sc b e (both_right (gives K sc ty.Bool c) _ ok) in omega (arith, one)

    quiet_arms : {n : _} (sc : Scope) (r : Row_of-KArm n) → is_trail sc.place ≡ false → IsTrue (arms_ok K names sc r) → arms_gates table r ≤ 1
    quiet_arms sc end_of-KArm e ok = lit≤ tt
    quiet_arms sc (more_of-KArm a rest) e ok =
        two_most (arm_gates table a) (arms_gates table rest) (quiet_arm sc a e (both_left (arm_ok K names sc a) _ ok)) (quiet_arms sc rest e (both_right (arm_ok K names sc a) _ ok))
