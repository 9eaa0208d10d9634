-- What a proper kernel's parts name.
use Rattle.std.proofs.Common.{◌≡◌, refl, sym, ap, ◌∙◌, subst, ◌≤◌, ℕ, suc, ◌+◌, Bool, true, false, if◌then◌else◌, ◌==◌, ◌&&◌, ◌||◌, ◌⊎◌, inl, inr, List, [], ◌∷◌, ◌++◌, Option, Some, None, arith, eqb-true}
use Rattle.std.proofs.lemmas.Bool.{and_parts, or_cases, false≢true}
use Rattle.ceu_tree.specs.declared.kernel.Kernel.{Kernel}
use Rattle.ceu_tree.specs.declared.kernel.KDecl.{KDecl}
use Rattle.ceu_tree.specs.declared.kernel.KLoop.TheVariants as turns
use Rattle.ceu_tree.specs.declared.kernel.Loc.{Loc}
use Rattle.ceu_tree.specs.declared.kernel.KNode.{KNode}
use Rattle.ceu_tree.specs.declared.kernel.KArm.{KArm, KArm', out-KArm}
use Rattle.ceu_tree.specs.declared.kernel.KBlock.{KBlock, KBlock', out-KBlock, Row_of-KNode, end_of-KNode, more_of-KNode, items-the_row-KNode, items_shown-the_row-KNode-2}
use Rattle.ceu_tree.specs.declared.kernel.KStmt as kernel
use Rattle.ceu_tree.specs.declared.kernel.KStmt.{KStmt, out-KStmt, Row_of-KArm, end_of-KArm, more_of-KArm, items-the_row-KArm, items_shown-the_row-KArm-0, items_shown-the_row-KBlock-1, Row_of-KBlock, end_of-KBlock, more_of-KBlock, items-the_row-KBlock, If', Par'}
use Rattle.ceu_tree.specs.declared.kernel.KStmt.TheOpen.{KStmt-F}
use Rattle.std.specs.List.{list_all}
use Rattle.ceu_tree.specs.Leaf.{Layer}
use Rattle.ceu_tree.specs.Legal.{is_set}
use Rattle.ceu_tree.specs.Proper.{Scope, with_decls, block_ok, nodes_ok, decl_ok}
use Rattle.laws_meaning_values.specs.Ready.{declares}
use Rattle.ceu_tree.specs.Mentions.{named_by, loc_names, own_names, maybe_loc, maybe_own, exp_names, maybe_exp, exps_names, turns_names, stmt_names, block_names, arm_names, list_names, arms_names, blocks_names, count_of, is_loc, is_slot, await_target, first_target, body_target, sets, set_first, is_set_decl, all_set}
use denote.Hole.Carrier

pub count_append : (x : ℕ) (ys zs : List ℕ) → count_of x (ys ++ zs) ≡ count_of x ys + count_of x zs
count_append x [] zs = omega arith
count_append x (y ∷ ys) zs = go (y == x) (count_append x ys zs)
  where
    go : (b : Bool) → count_of x (ys ++ zs) ≡ count_of x ys + count_of x zs → (if b then suc (count_of x (ys ++ zs)) else count_of x (ys ++ zs)) ≡ (if b then suc (count_of x ys) else count_of x ys) + count_of x zs
    go true e = omega (arith, e)
    go false e = e

module _ (N : List (List ℕ)) where
  abbrev pub list_names_all : List KNode → List ℕ
  list_names_all [] = []
  list_names_all (s ∷ ss) = stmt_names true N s.stmt ++ list_names_all ss

  abbrev pub blocks_names_all : List KBlock → List ℕ
  blocks_names_all [] = []
  blocks_names_all (b ∷ bs) = block_names true N b ++ blocks_names_all bs

  abbrev pub arms_names_all : List KArm → List ℕ
  arms_names_all [] = []
  arms_names_all (a ∷ arms) = exp_names true N (out-KArm a).cond ++ block_names true N (out-KArm a).body ++ arms_names_all arms

  abbrev pub layer_names : Layer → List ℕ
  layer_names (KStmt-F.Assign l e) = loc_names true N l ++ exp_names true N e
  layer_names (KStmt-F.Out k e) = maybe_exp true N e
  layer_names (KStmt-F.Emit k e) = maybe_exp true N e
  layer_names (KStmt-F.AwaitIn k t) = maybe_loc true N t
  layer_names (KStmt-F.AwaitTime e u t) = exp_names true N e ++ maybe_loc true N t
  layer_names (KStmt-F.AwaitEvent e t) = maybe_loc true N t
  layer_names (KStmt-F.AwaitCode c es f t) = exps_names true N es ++ maybe_loc true N t ++ named_by c N
  layer_names (KStmt-F.Spawn c es p a) = exps_names true N es ++ maybe_own true N a ++ named_by c N
  layer_names (KStmt-F.Kill c) = own_names true N c
  layer_names (KStmt-F.Unset c) = own_names true N c
  layer_names (KStmt-F.Async b) = block_names true N b
  layer_names (KStmt-F.Finalize b) = block_names true N b
  layer_names (KStmt-F.Do t b) = maybe_loc true N t ++ block_names true N b
  layer_names (KStmt-F.Escape n e) = maybe_exp true N e
  layer_names (KStmt-F.If arms last) = arms_names_all arms ++ block_names true N last
  layer_names (KStmt-F.Loop k b) = turns_names true N k ++ block_names true N b
  layer_names (KStmt-F.Par k slot bs) = blocks_names_all bs
  layer_names layer = []

  list_row : {n : _} (rows : Row_of-KNode n) → list_names true N rows ≡ list_names_all (items-the_row-KNode n rows)
  unfolding list_names
  list_row end_of-KNode = refl
  list_row (more_of-KNode n p s rest) = ap (λ x. stmt_names true N s ++ x) (list_row rest)

  blocks_row : {n : _} (rows : Row_of-KBlock n) → blocks_names true N rows ≡ blocks_names_all (items-the_row-KBlock n rows)
  unfolding blocks_names
  blocks_row end_of-KBlock = refl
  blocks_row (more_of-KBlock b rest) = ap (λ x. block_names true N b ++ x) (blocks_row rest)

  arm_is : (a : KArm) → arm_names true N a ≡ exp_names true N (out-KArm a).cond ++ block_names true N (out-KArm a).body
  unfolding arm_names out-KArm Carrier.out
  arm_is (KArm' c b) = refl

  arms_row : {n : _} (rows : Row_of-KArm n) → arms_names true N rows ≡ arms_names_all (items-the_row-KArm n rows)
  unfolding arms_names
  arms_row end_of-KArm = refl
  arms_row (more_of-KArm a rest) = ap (λ x. x ++ arms_names true N rest) (arm_is a) ∙ ap (λ x. exp_names true N (out-KArm a).cond ++ block_names true N (out-KArm a).body ++ x) (arms_row rest)

  pub block_names_is : (b : KBlock) → block_names true N b ≡ list_names_all (out-KBlock b).list
  unfolding block_names out-KBlock Carrier.out
  block_names_is (KBlock' n ds x list) = list_row list ∙ ap list_names_all (sym (items_shown-the_row-KNode-2 x list))

  pub stmt_names_is : (st : KStmt) → stmt_names true N st ≡ layer_names (out-KStmt st)
  unfolding stmt_names out-KStmt Carrier.out
  stmt_names_is (If' x arms last) = ap (λ y. y ++ block_names true N last) (arms_row arms ∙ ap arms_names_all (sym (items_shown-the_row-KArm-0 x arms)))
  stmt_names_is (Par' k slot x bs) = blocks_row bs ∙ ap blocks_names_all (sym (items_shown-the_row-KBlock-1 x bs))
  stmt_names_is (kernel.Loop k b) = refl
  stmt_names_is st = refl

  -- ---- a declaration is set before it is named

  abbrev pub set_first_all : ℕ → List KNode → Bool
  set_first_all slot [] = false
  set_first_all slot (s ∷ ss) = if sets slot s.stmt then count_of slot (stmt_names true N s.stmt) == 1 else (count_of slot (stmt_names true N s.stmt) == 0) && set_first_all slot ss

  set_row : {n : _} (slot : ℕ) (rows : Row_of-KNode n) → set_first N slot rows ≡ set_first_all slot (items-the_row-KNode n rows)
  set_row slot end_of-KNode = refl
  set_row slot (more_of-KNode n p s rest) = ap (λ b. if sets slot s then count_of slot (stmt_names true N s) == 1 else (count_of slot (stmt_names true N s) == 0) && b) (set_row slot rest)

  pub set_at : (x : ℕ) (done : List KNode) (s : KNode) (rest : List KNode) → set_first_all x (done ++ s ∷ rest) ≡ true
      → (is_set done x ≡ true) ⊎ ((count_of x (stmt_names true N s.stmt) ≡ 0) ⊎ ((sets x s.stmt ≡ true) × (count_of x (stmt_names true N s.stmt) ≡ 1)))
  set_at x [] s rest h = go (sets x s.stmt) refl h
    where
      n : ℕ
      n = count_of x (stmt_names true N s.stmt)

      go : (b : Bool) → sets x s.stmt ≡ b → (if b then n == 1 else (n == 0) && set_first_all x rest) ≡ true → (is_set [] x ≡ true) ⊎ ((n ≡ 0) ⊎ ((sets x s.stmt ≡ true) × (n ≡ 1)))
      go true e k = inr (inr (e, eqb-true n 1 k))
      go false e k = inr (inl (eqb-true n 0 (and_parts (n == 0) (set_first_all x rest) k).0))
  set_at x (q ∷ done) s rest h = go (sets x q.stmt) h (set_at x done s rest)
    where
      n : ℕ
      n = count_of x (stmt_names true N q.stmt)

      Claim : Bool → Type 0
      Claim b = (b ≡ true) ⊎ ((count_of x (stmt_names true N s.stmt) ≡ 0) ⊎ ((sets x s.stmt ≡ true) × (count_of x (stmt_names true N s.stmt) ≡ 1)))

      further : Claim (is_set done x) → Claim (is_set done x)
      further c = c

      go : (b : Bool) → (if b then n == 1 else (n == 0) && set_first_all x (done ++ s ∷ rest)) ≡ true → (set_first_all x (done ++ s ∷ rest) ≡ true → Claim (is_set done x)) → Claim (b || is_set done x)
      go true k ih = inl refl
      go false k ih = ih (and_parts (n == 0) (set_first_all x (done ++ s ∷ rest)) k).1

  all_set_at : {n : _} (x : ℕ) (ds : List KDecl) (rows : Row_of-KNode n) → all_set N ds rows ≡ true → declares x ds ≡ true → set_first N x rows ≡ true
  all_set_at x [] rows h e = absurd (false≢true e)
  all_set_at x (d ∷ ds) rows h e = go (or_cases ((d.slot == x) && is_set_decl d.kind) (declares x ds) e) (and_parts (if is_set_decl d.kind then set_first N d.slot rows else true) (all_set N ds rows) h) (all_set_at x ds rows)
    where
      go : (((d.slot == x) && is_set_decl d.kind) ≡ true) ⊎ (declares x ds ≡ true) → ((if is_set_decl d.kind then set_first N d.slot rows else true) ≡ true) × (all_set N ds rows ≡ true) → (all_set N ds rows ≡ true → declares x ds ≡ true → set_first N x rows ≡ true) → set_first N x rows ≡ true
      go (inl a) k ih =
          let c = and_parts (d.slot == x) (is_set_decl d.kind) a in
          subst (λ y. set_first N y rows ≡ true) (eqb-true d.slot x c.0) (subst (λ b. (if b then set_first N d.slot rows else true) ≡ true) c.1 k.0)
      go (inr a) k ih = ih k.1 a

  pub declared_static : (K : Kernel) (sc : Scope) (b : KBlock) (x : ℕ) → block_ok K N sc b ≡ true → declares x (out-KBlock b).decls ≡ true → set_first_all x (out-KBlock b).list ≡ true
  unfolding block_ok out-KBlock Carrier.out
  declared_static K sc (KBlock' n ds y list) x h e =
      let a = (and_parts _ (nodes_ok K N (with_decls ds sc) list) h).0 in
      subst (λ l. set_first_all x l ≡ true) (sym (items_shown-the_row-KNode-2 y list)) (sym (set_row x list) ∙ all_set_at x ds list (and_parts (list_all (decl_ok K sc) ds) (all_set N ds list) a).1 e)

  -- ---- the target at the head of a list

  abbrev pub head_target : List KNode → Option Loc
  head_target [] = None
  head_target (s ∷ ss) = await_target s.stmt

  first_row : {n : _} (rows : Row_of-KNode n) → first_target rows ≡ head_target (items-the_row-KNode n rows)
  first_row end_of-KNode = refl
  first_row (more_of-KNode n p s rest) = refl

  pub body_target_is : (b : KBlock) → body_target b ≡ head_target (out-KBlock b).list
  unfolding out-KBlock Carrier.out
  body_target_is (KBlock' n ds x list) = first_row list ∙ ap head_target (sym (items_shown-the_row-KNode-2 x list))

  -- ---- what a statement sets

  abbrev pub layer_sets : ℕ → Layer → Bool
  layer_sets x (KStmt-F.Assign l e) = l.slot == x
  layer_sets x (KStmt-F.Do t b) = is_loc x t
  layer_sets x (KStmt-F.Unset c) = c == x
  layer_sets x (KStmt-F.Spawn c es p a) = is_slot x a
  layer_sets x (KStmt-F.Loop turns.Free b) = is_loc x (body_target b)
  layer_sets x (KStmt-F.AwaitIn k t) = is_loc x t
  layer_sets x (KStmt-F.AwaitTime e u t) = is_loc x t
  layer_sets x (KStmt-F.AwaitEvent e t) = is_loc x t
  layer_sets x (KStmt-F.AwaitCode c es f t) = is_loc x t
  layer_sets x layer = false

  pub sets_is : (x : ℕ) (st : KStmt) → sets x st ≡ layer_sets x (out-KStmt st)
  unfolding out-KStmt Carrier.out
  sets_is x (kernel.Loop turns.Free b) = refl
  sets_is x (kernel.Loop (turns.Times slot n) b) = refl
  sets_is x (kernel.Loop (turns.Range i next end open_a a c open_b) b) = refl
  sets_is x (kernel.Assign l e) = refl
  sets_is x st = refl

  pub target_sets : (x : ℕ) (st : KStmt) → is_loc x (await_target st) ≡ true → sets x st ≡ true
  target_sets x (kernel.Assign l e) h = absurd (false≢true h)
  target_sets x (kernel.Do t b) h = absurd (false≢true h)
  target_sets x (kernel.Unset c) h = absurd (false≢true h)
  target_sets x (kernel.Spawn c es p a) h = absurd (false≢true h)
  target_sets x (kernel.Loop k b) h = absurd (false≢true h)
  target_sets x st h = h

  pub loc_named : (x : ℕ) (t : Option Loc) → is_loc x t ≡ true → 1 ≤ count_of x (maybe_loc true N t)
  loc_named x None h = absurd (false≢true h)
  loc_named x (Some l) h = subst (λ b. 1 ≤ (if b then 1 else 0)) (sym h) (omega arith)

  pub target_named : (x : ℕ) (st : KStmt) → is_loc x (await_target st) ≡ true → 1 ≤ count_of x (stmt_names true N st)
  unfolding stmt_names
  target_named x (kernel.AwaitIn k t) h = loc_named x t h
  target_named x (kernel.AwaitTime e u t) h = let a = loc_named x t h in omega (arith, a, count_append x (exp_names true N e) (maybe_loc true N t))
  target_named x (kernel.AwaitEvent e t) h = loc_named x t h
  target_named x (kernel.AwaitCode c es f t) h =
      let a = loc_named x t h in omega (arith, a, count_append x (exps_names true N es) (maybe_loc true N t), count_append x (exps_names true N es ++ maybe_loc true N t) (named_by c N))
  target_named x st h = absurd (false≢true h)
