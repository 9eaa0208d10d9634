-- In a proper kernel a body uses codes above it alone.
use Rattle.std.proofs.Common.{◌≡◌, refl, sym, ap, ◌∙◌, subst, ◌≤◌, ℕ, ◌+◌, Bool, true, false, if◌then◌else◌, ◌==◌, ◌&&◌, ◌^◌, not, nat_lt, nat_le, List, [], ◌∷◌, Option, Some, None, arith, eqb-true}
use Rattle.std.proofs.lemmas.Bool.{and_parts, false≢true, ltb-true}
use Rattle.std.specs.List.{list_all}
use Rattle.ceu_base.specs.declared.kinds.Ty.TheVariants as ty
use Rattle.ceu_tree.specs.declared.kernel.Kernel.{Kernel}
use Rattle.ceu_tree.specs.declared.kernel.KCode.{KCode}
use Rattle.ceu_tree.specs.declared.kernel.KDecl.{KDecl}
use Rattle.ceu_tree.specs.declared.kernel.KKind.{KKind}
use Rattle.ceu_tree.specs.declared.kernel.KKind.TheVariants as kind
use Rattle.ceu_tree.specs.declared.kernel.KLoop.{KLoop}
use Rattle.ceu_tree.specs.declared.kernel.KLoop.TheVariants as turns
use Rattle.ceu_tree.specs.declared.kernel.KArm.{KArm, KArm'}
use Rattle.ceu_tree.specs.declared.kernel.KBlock.{KBlock, KBlock', Row_of-KNode, end_of-KNode, more_of-KNode}
use Rattle.ceu_tree.specs.declared.kernel.KStmt.{KStmt, Row_of-KArm, end_of-KArm, more_of-KArm, Row_of-KBlock, end_of-KBlock, more_of-KBlock, AwaitCode, Do, If', Loop, Par'}
use Rattle.ceu_tree.specs.Costs.{pool_uses, uses, block_uses, arm_uses, nodes_uses, arms_uses, blocks_uses}
use Rattle.ceu_tree.specs.Leaf.{code_at}
use Rattle.ceu_tree.specs.Mentions.{all_set}
use Rattle.ceu_tree.specs.Typing.{same_ty}
use Rattle.ceu_tree.specs.Proper.{outside_finalizers, Scope, LoopAim, with_decls, with_aim, with_turns, do_aim, is_trail, is_above, on_code, gives_all, takes_if, decl_ok, stmt_ok, block_ok, arm_ok, nodes_ok, arms_ok, blocks_ok, is_proper}
use Rattle.laws_meaning_basics.specs.Shape.{code_scope}
use Rattle.laws_meaning_basics.proofs.Static.{names_of, code_static, program_static}

first_holds : (x y : Bool) → (x && y) ≡ true → x ≡ true
first_holds x y h = (and_parts x y h).0

last_holds : (x y : Bool) → (x && y) ≡ true → y ≡ true
last_holds x y h = (and_parts x y h).1

pub turn_code : (K : Kernel) (k : KLoop) (sc : Scope) → (with_turns K k sc).code ≡ sc.code
turn_code K turns.Free sc = refl
turn_code K (turns.Times slot n) sc = refl
turn_code K (turns.Range i next end open_a a b open_b) sc = refl

module _ (K : Kernel) (names : List (List ℕ)) (k : ℕ) where
  -- code that may not be used there
  abbrev pub Unused : Option ℕ → Type 0
  Unused code = is_above K k code ≡ true → (x : KCode) → code_at k K.codes ≡ Some x → ⊥

  code_unused : (sc : Scope) (c : ℕ) (f : KCode → Bool) → Unused sc.code → on_code K sc c f ≡ true → (c == k) ≡ false
  code_unused sc c f u h = go (c == k) refl
    where
      there : (o : Option KCode) → code_at c K.codes ≡ o → (elim o as (λ _. Bool) [ None ↦ false | Some x ↦ f x ]) ≡ true → c ≡ k → ⊥
      there None e x q = false≢true x
      there (Some y) e x q = u (subst (λ j. is_above K j sc.code ≡ true) q (first_holds (is_above K c sc.code) _ h)) y (ap (λ j. code_at j K.codes) (sym q) ∙ e)

      go : (b : Bool) → (c == k) ≡ b → b ≡ false
      go true e = absurd (there (code_at c K.codes) refl (last_holds (is_above K c sc.code) _ h) (eqb-true c k e))
      go false e = refl

  -- a declaration's rules, by its kind
  abbrev kind_ok : Scope → KKind → Bool
  kind_ok sc j = elim j [
    | kind.Var t ↦ not (same_ty t ty.None) && outside_finalizers sc.place
    | kind.Alias c ↦ is_trail sc.place && on_code K sc c (λ x. true)
    | kind.Pool n c ↦ is_trail sc.place && nat_lt n (2 ^ 32) && on_code K sc c (λ x. true)
  ]

  kind_unused : (sc : Scope) (j : KKind) (rest : ℕ) → Unused sc.code → rest ≡ 0 → kind_ok sc j ≡ true
      → (elim j as (λ _. ℕ) [ kind.Var t ↦ rest | kind.Alias c ↦ rest | kind.Pool n c ↦ (if c == k then n + rest else rest) ]) ≡ 0
  kind_unused sc (kind.Var t) rest u e h = e
  kind_unused sc (kind.Alias c) rest u e h = e
  kind_unused sc (kind.Pool n c) rest u e h = ap (λ b. if b then n + rest else rest) (code_unused sc c (λ x. true) u (last_holds (is_trail sc.place && nat_lt n (2 ^ 32)) (on_code K sc c (λ x. true)) h)) ∙ e

  pools_unused : (sc : Scope) (ds : List KDecl) → Unused sc.code → list_all (decl_ok K sc) ds ≡ true → pool_uses k ds ≡ 0
  pools_unused sc [] u h = refl
  pools_unused sc (d ∷ ds) u h = kind_unused sc d.kind (pool_uses k ds) u (pools_unused sc ds u (last_holds (decl_ok K sc d) _ h)) (first_holds _ (nat_le 1 d.pos.line) (first_holds _ (nat_le 1 d.pos.col) (first_holds (decl_ok K sc d) (list_all (decl_ok K sc) ds) h)))

  mutual
    unfolding stmt_ok uses

    stmt_unused : (sc : Scope) (n : ℕ) (st : KStmt) → Unused sc.code → stmt_ok K names sc n st ≡ true → uses k st ≡ 0
    stmt_unused sc n (AwaitCode c es f t) u h = ap (λ b. if b then 1 else 0) (code_unused sc c (λ x. gives_all K sc x.params es && takes_if K sc x.result t) u (last_holds (is_trail sc.place) _ h))
    stmt_unused sc n (Do t b) u h = block_unused (with_aim (do_aim K n t) sc) b u (last_holds _ (block_ok K names (with_aim (do_aim K n t) sc) b) h)
    stmt_unused sc n (If' x arms last) u h =
        let a = arms_unused sc arms u (last_holds _ (arms_ok K names sc arms) (first_holds _ (block_ok K names sc last) h)) in
        let b = block_unused sc last u (last_holds _ (block_ok K names sc last) h) in omega (arith, a, b)
    stmt_unused sc n (Loop j b) u h =
        block_unused (with_aim (LoopAim n) (with_turns K j sc)) b (subst Unused (sym (turn_code K j sc)) u) (last_holds _ (block_ok K names (with_aim (LoopAim n) (with_turns K j sc)) b) h)
    stmt_unused sc n (Par' j slot x bs) u h = blocks_unused sc bs u (last_holds _ (blocks_ok K names sc bs) h)
    stmt_unused sc n st u h = refl

    pub block_unused : (sc : Scope) (b : KBlock) → Unused sc.code → block_ok K names sc b ≡ true → block_uses k b ≡ 0
    block_unused sc (KBlock' n ds x list) u h =
        let a = nodes_unused (with_decls ds sc) list u (last_holds _ (nodes_ok K names (with_decls ds sc) list) h) in
        let b = pools_unused sc ds u (first_holds (list_all (decl_ok K sc) ds) (all_set names ds list) (first_holds _ (nodes_ok K names (with_decls ds sc) list) h)) in omega (arith, a, b)

    arm_unused : (sc : Scope) (a : KArm) → Unused sc.code → arm_ok K names sc a ≡ true → arm_uses k a ≡ 0
    arm_unused sc (KArm' c b) u h = block_unused sc b u (last_holds _ (block_ok K names sc b) h)

    nodes_unused : {n : _} (sc : Scope) (rows : Row_of-KNode n) → Unused sc.code → nodes_ok K names sc rows ≡ true → nodes_uses k rows ≡ 0
    nodes_unused sc end_of-KNode u h = refl
    nodes_unused sc (more_of-KNode n p s rest) u h =
        let a = stmt_unused sc n s u (last_holds _ (stmt_ok K names sc n s) (first_holds _ (nodes_ok K names sc rest) h)) in
        let b = nodes_unused sc rest u (last_holds _ (nodes_ok K names sc rest) h) in omega (arith, a, b)

    arms_unused : {n : _} (sc : Scope) (rows : Row_of-KArm n) → Unused sc.code → arms_ok K names sc rows ≡ true → arms_uses k rows ≡ 0
    arms_unused sc end_of-KArm u h = refl
    arms_unused sc (more_of-KArm a rest) u h =
        let x = arm_unused sc a u (first_holds (arm_ok K names sc a) (arms_ok K names sc rest) h) in
        let y = arms_unused sc rest u (last_holds (arm_ok K names sc a) (arms_ok K names sc rest) h) in omega (arith, x, y)

    blocks_unused : {n : _} (sc : Scope) (rows : Row_of-KBlock n) → Unused sc.code → blocks_ok K names sc rows ≡ true → blocks_uses k rows ≡ 0
    blocks_unused sc end_of-KBlock u h = refl
    blocks_unused sc (more_of-KBlock b rest) u h =
        let x = block_unused sc b u (first_holds (block_ok K names sc b) (blocks_ok K names sc rest) h) in
        let y = blocks_unused sc rest u (last_holds (block_ok K names sc b) (blocks_ok K names sc rest) h) in omega (arith, x, y)

-- code doesn't use itself nor code below it, and a body uses codes that are there
pub code_uses_above : (K : Kernel) (c k : ℕ) (x : KCode) → is_proper K ≡ true → code_at c K.codes ≡ Some x → c ≤ k → block_uses k x.body ≡ 0
code_uses_above K c k x p e l = block_unused K (names_of K) k (code_scope K c x) x.body (λ a y q. let z = ltb-true k c a in omega (arith, z, l)) (code_static K c x p e)

pub code_uses_there : (K : Kernel) (c k : ℕ) (x : KCode) → is_proper K ≡ true → code_at c K.codes ≡ Some x → code_at k K.codes ≡ None → block_uses k x.body ≡ 0
code_uses_there K c k x p e n = block_unused K (names_of K) k (code_scope K c x) x.body (λ a y q. absurd (cc)) (code_static K c x p e)

pub program_uses_there : (K : Kernel) (k : ℕ) → is_proper K ≡ true → code_at k K.codes ≡ None → block_uses k K.body ≡ 0
program_uses_there K k p n = block_unused K (names_of K) k _ K.body (λ a y q. absurd (cc)) (program_static K p)
