-- The body of a code of a proper kernel uses only codes above it.
use Rattle.std.proofs.Common.{◌≡◌, refl, ◌∙◌, subst, ◌<◌, ℕ, Bool, true, nat_lt, not, ◌&&◌, List, [], ◌∷◌, ◌^◌, Some, None, ltb-true}
use Rattle.std.specs.List.{list_all}
use Rattle.std.proofs.lemmas.Bool.{and_parts}
use Rattle.ceu_base.specs.declared.kinds.Ty.TheVariants as ty
use Rattle.ceu_tree.specs.declared.kernel.Kernel.{Kernel}
use Rattle.ceu_tree.specs.declared.kernel.KCode.{KCode}
use Rattle.ceu_tree.specs.declared.kernel.KDecl.{KDecl}
use Rattle.ceu_tree.specs.declared.kernel.KKind.{KKind}
use Rattle.ceu_tree.specs.declared.kernel.KKind.TheVariants as kind
use Rattle.ceu_tree.specs.declared.kernel.KLoop.{KLoop}
use Rattle.ceu_tree.specs.declared.kernel.KLoop.TheVariants as turns
use Rattle.ceu_tree.specs.declared.kernel.KBlock.{KBlock, KBlock', Row_of-KNode, end_of-KNode, more_of-KNode}
use Rattle.ceu_tree.specs.declared.kernel.KArm.{KArm, KArm'}
use Rattle.ceu_tree.specs.declared.kernel.KStmt.{KStmt, Row_of-KArm, end_of-KArm, more_of-KArm, Row_of-KBlock, end_of-KBlock, more_of-KBlock, AwaitCode, Spawn, Do, If', Loop, Par'}
use Rattle.ceu_tree.specs.Leaf.{code_at}
use Rattle.ceu_tree.specs.Typing.{same_ty}
use Rattle.ceu_tree.specs.Proper.{Scope, LoopAim, with_decls, with_aim, with_turns, do_aim, gives_all, takes_if, on_code, is_above, alias_takes, find, is_trail, outside_finalizers, decl_ok, stmt_ok, block_ok, arm_ok, nodes_ok, arms_ok, blocks_ok, is_proper}
use Rattle.laws_meaning_basics.specs.Shape.{code_scope}
use Rattle.laws_meaning_basics.proofs.Static.{names_of, code_static}
use Rattle.laws_bounds_tables.specs.Below.{kind_below, decls_below, stmt_below, block_below, arm_below, nodes_below, arms_below, blocks_below}

last_holds : (x y : Bool) → (x && y) ≡ true → y ≡ true
last_holds x y h = (and_parts x y h).1

first_holds : (x y : Bool) → (x && y) ≡ true → x ≡ true
first_holds x y h = (and_parts x y h).0

module _ (K : Kernel) (k : ℕ) where
  is_below : (sc : Scope) (c : ℕ) (f : KCode → Bool) → sc.code ≡ Some k → on_code K sc c f ≡ true → c < k
  is_below sc c f at h = ltb-true c k (subst (λ o. is_above K c o ≡ true) at (first_holds (is_above K c sc.code) _ h))

  kind_is : (sc : Scope) (kd : KKind) → sc.code ≡ Some k → (elim kd as (λ _. Bool) [
    | kind.Var t ↦ not (same_ty t ty.None) && outside_finalizers sc.place
    | kind.Alias c ↦ is_trail sc.place && on_code K sc c (λ j. true)
    | kind.Pool n c ↦ is_trail sc.place && nat_lt n (2 ^ 32) && on_code K sc c (λ j. true)
  ]) ≡ true → kind_below k kd
  kind_is sc (kind.Var t) at h = tt
  kind_is sc (kind.Alias c) at h = tt
  kind_is sc (kind.Pool n c) at h = is_below sc c (λ j. true) at (last_holds (is_trail sc.place && nat_lt n (2 ^ 32)) (on_code K sc c (λ j. true)) h)

  decls_are : (sc : Scope) (ds : List KDecl) → sc.code ≡ Some k → list_all (decl_ok K sc) ds ≡ true → decls_below k ds
  decls_are sc [] at h = tt
  decls_are sc (d ∷ ds) at h =
      let a = and_parts (decl_ok K sc d) (list_all (decl_ok K sc) ds) h in
      (kind_is sc d.kind at (first_holds _ _ (first_holds _ _ a.0)), decls_are sc ds at a.1)

  same_code : (turns : KLoop) (sc : Scope) → (with_turns K turns sc).code ≡ sc.code
  same_code turns.Free sc = refl
  same_code (turns.Times slot limit) sc = refl
  same_code (turns.Range i next end open_a x y open_b) sc = refl

  module _ (names : List (List ℕ)) where
    mutual
      unfolding stmt_ok stmt_below

      stmt_is : (sc : Scope) (n : ℕ) (s : KStmt) → sc.code ≡ Some k → stmt_ok K names sc n s ≡ true → stmt_below k s
      stmt_is sc n (AwaitCode c es f t) at h = is_below sc c (λ j. gives_all K sc j.params es && takes_if K sc j.result t) at (last_holds (is_trail sc.place) _ h)
      stmt_is sc n (Spawn c es p a) at h =
          let x = first_holds (is_trail sc.place && on_code K sc c (λ j. gives_all K sc j.params es)) _ (first_holds _ (elim a [ None ↦ true | Some a ↦ alias_takes c p (find a sc.seen) ]) h) in
          is_below sc c (λ j. gives_all K sc j.params es) at (last_holds (is_trail sc.place) _ x)
      stmt_is sc n (Do t b) at h = block_is (with_aim (do_aim K n t) sc) b at (last_holds _ (block_ok K names (with_aim (do_aim K n t) sc) b) h)
      stmt_is sc n (If' x arms last) at h =
          (arms_are sc arms at (last_holds (outside_finalizers sc.place) (arms_ok K names sc arms) (first_holds _ (block_ok K names sc last) h)), block_is sc last at (last_holds _ (block_ok K names sc last) h))
      stmt_is sc n (Par' kd slot x bs) at h = blocks_are sc bs at (last_holds _ (blocks_ok K names sc bs) h)
      stmt_is sc n (Loop kd b) at h =
          block_is (with_aim (LoopAim n) (with_turns K kd sc)) b (same_code kd sc ∙ at) (last_holds _ (block_ok K names (with_aim (LoopAim n) (with_turns K kd sc)) b) h)
      stmt_is sc n _ at h = tt

      pub block_is : (sc : Scope) (b : KBlock) → sc.code ≡ Some k → block_ok K names sc b ≡ true → block_below k b
      block_is sc (KBlock' n ds x list) at h =
          let a = and_parts _ (nodes_ok K names (with_decls ds sc) list) h in
          (decls_are sc ds at (first_holds (list_all (decl_ok K sc) ds) _ a.0), nodes_are (with_decls ds sc) list at a.1)

      arm_is : (sc : Scope) (a : KArm) → sc.code ≡ Some k → arm_ok K names sc a ≡ true → arm_below k a
      arm_is sc (KArm' c b) at h = block_is sc b at (last_holds _ (block_ok K names sc b) h)

      nodes_are : {n : _} (sc : Scope) (rows : Row_of-KNode n) → sc.code ≡ Some k → nodes_ok K names sc rows ≡ true → nodes_below k rows
      nodes_are sc end_of-KNode at h = tt
      nodes_are sc (more_of-KNode n p s rest) at h =
          let a = and_parts _ (nodes_ok K names sc rest) h in
          (stmt_is sc n s at (last_holds _ (stmt_ok K names sc n s) a.0), nodes_are sc rest at a.1)

      arms_are : {n : _} (sc : Scope) (rows : Row_of-KArm n) → sc.code ≡ Some k → arms_ok K names sc rows ≡ true → arms_below k rows
      arms_are sc end_of-KArm at h = tt
      arms_are sc (more_of-KArm a rest) at h = let x = and_parts (arm_ok K names sc a) (arms_ok K names sc rest) h in (arm_is sc a at x.0, arms_are sc rest at x.1)

      blocks_are : {n : _} (sc : Scope) (rows : Row_of-KBlock n) → sc.code ≡ Some k → blocks_ok K names sc rows ≡ true → blocks_below k rows
      blocks_are sc end_of-KBlock at h = tt
      blocks_are sc (more_of-KBlock b rest) at h = let x = and_parts (block_ok K names sc b) (blocks_ok K names sc rest) h in (block_is sc b at x.0, blocks_are sc rest at x.1)

pub body_below : (K : Kernel) (c : ℕ) (k : KCode) → is_proper K ≡ true → code_at c K.codes ≡ Some k → block_below c k.body
body_below K c k proper e = block_is K c (names_of K) (code_scope K c k) k.body refl (code_static K c k proper e)
