-- A block's list in which a slot is set before it is named otherwise.
use Rattle.std.proofs.Common.{◌≡◌, refl, sym, ap, ◌∙◌, subst, ℕ, ◌+◌, arith, List, [], ◌∷◌, ◌++◌, Option, Some, None, Bool, true, false}
use Rattle.std.specs.Prelude.{◌==◌, ◌&&◌, if◌then◌else◌}
use Rattle.std.proofs.lemmas.Bool.Decides.{Decides-eqb}
use Rattle.ceu_tree.specs.declared.kernel.KNode.{KNode}
use Rattle.ceu_tree.specs.declared.kernel.KDecl.{KDecl}
use Rattle.ceu_tree.specs.declared.kernel.KArm.{KArm}
use Rattle.ceu_tree.specs.declared.kernel.KLoop.TheVariants as turns
use Rattle.ceu_tree.specs.declared.kernel.Loc.{Loc}
use Rattle.ceu_tree.specs.declared.kernel.ParKind.{ParKind}
use Rattle.ceu_tree.specs.declared.kernel.KBlock.{KBlock, KBlock', roll-KBlock, Row_of-KNode, end_of-KNode, more_of-KNode, items-the_row-KNode, items_hidden-the_row-KNode-2}
use Rattle.ceu_tree.specs.declared.kernel.KStmt as kernel
use Rattle.ceu_tree.specs.declared.kernel.KStmt.{KStmt, Row_of-KArm, end_of-KArm, more_of-KArm, items-the_row-KArm, items_hidden-the_row-KArm-0, items_hidden-the_row-KBlock-1, Row_of-KBlock, end_of-KBlock, more_of-KBlock, items-the_row-KBlock, Assign, AwaitIn, AwaitTime, AwaitEvent, AwaitCode, Spawn, Unset, Do, Loop}
use Rattle.ceu_tree.specs.declared.kernel.KStmt.TheBlock.{hidden-the_row-KArm-0, hidden-the_row-KBlock-1, hidden-the_row-KNode-2}
use Rattle.ceu_tree.specs.Mentions.{named_by, loc_names, maybe_loc, maybe_own, exp_names, exps_names, stmt_names, block_names, arm_names, list_names, arms_names, blocks_names, count_of, is_loc, is_slot, await_target, first_target, body_target, sets, set_first, is_set_decl, all_set}
use Rattle.laws_kernel_shape.specs.Shaped.{AllOf}
use Rattle.laws_kernel_uses.specs.Settled.{StmtSettled, BlockSettled, ArmSettled, NodesSettled, ArmsSettled, BlocksSettled}
use Rattle.laws_kernel_uses.proofs.Absent.{eq_is, count_append, count_both, count_left, count_right, count_once}
use denote.Hole.Carrier

module _ (codes : List (List ℕ)) where
  -- ---- a statement that sets a slot names it

  module _ (n : ℕ) where
    one_named : (m : ℕ) → (m == n) ≡ true → count_of n (m ∷ []) ≡ 0 → ⊥
    one_named m h k = let e : m ≡ n = eq_is m n h in let o : count_of n (m ∷ []) ≡ 1 = subst (λ i. count_of n (i ∷ []) ≡ 1) (sym e) (count_once n) in omega (arith, o, k)

    maybe_named : (t : Option Loc) → is_loc n t ≡ true → count_of n (maybe_loc true codes t) ≡ 0 → ⊥
    maybe_named None h k = absurd (cc)
    maybe_named (Some l) h k = one_named l.slot h k

    alias_named : (t : Option ℕ) → is_slot n t ≡ true → count_of n (maybe_own true codes t) ≡ 0 → ⊥
    alias_named None h k = absurd (cc)
    alias_named (Some m) h k = one_named m h k

    await_named : (st : KStmt) → is_loc n (await_target st) ≡ true → count_of n (stmt_names true codes st) ≡ 0 → ⊥
    unfolding stmt_names
    await_named (AwaitIn k t) h e = maybe_named t h e
    await_named (AwaitTime x u t) h e = maybe_named t h (count_right n (exp_names true codes x) (maybe_loc true codes t) e)
    await_named (AwaitEvent k t) h e = maybe_named t h e
    await_named (AwaitCode c es frame t) h e =
        maybe_named t h (count_right n (exps_names true codes es) (maybe_loc true codes t) (count_left n (exps_names true codes es ++ maybe_loc true codes t) (named_by c codes) e))
    await_named st h e = absurd (cc)

    list_named : {k : _} (r : Row_of-KNode k) → is_loc n (first_target r) ≡ true → count_of n (list_names true codes r) ≡ 0 → ⊥
    unfolding stmt_names
    list_named end_of-KNode h e = absurd (cc)
    list_named (more_of-KNode i p s rest) h e = await_named s h (count_left n (stmt_names true codes s) (list_names true codes rest) e)

    block_named : (b : KBlock) → is_loc n (body_target b) ≡ true → count_of n (block_names true codes b) ≡ 0 → ⊥
    unfolding stmt_names
    block_named (KBlock' m ds _ list) h e = list_named list h e

    sets_named : (st : KStmt) → sets n st ≡ true → count_of n (stmt_names true codes st) ≡ 0 → ⊥
    unfolding stmt_names
    sets_named (Assign l x) h e = one_named l.slot h (count_left n (loc_names true codes l) (exp_names true codes x) e)
    sets_named (Do t b) h e = maybe_named t h (count_left n (maybe_loc true codes t) (block_names true codes b) e)
    sets_named (Unset c) h e = one_named c h e
    sets_named (Spawn c es pool alias) h e =
        alias_named alias h (count_right n (exps_names true codes es) (maybe_own true codes alias) (count_left n (exps_names true codes es ++ maybe_own true codes alias) (named_by c codes) e))
    sets_named (Loop turns.Free b) h e = block_named b h e
    sets_named st h e = await_named st h e

    not_set : (st : KStmt) → count_of n (stmt_names true codes st) ≡ 0 → sets n st ≡ false
    not_set st e = by_test (sets n st) refl
      where
        by_test : (b : Bool) → sets n st ≡ b → sets n st ≡ false
        by_test false h = h
        by_test true h = absurd (sets_named st h e)

  -- ---- lists of a block

  abbrev pub first_set : ℕ → List KNode → Bool
  first_set n [] = false
  first_set n (x ∷ xs) = if sets n x.stmt then count_of n (stmt_names true codes x.stmt) == 1 else (count_of n (stmt_names true codes x.stmt) == 0) && first_set n xs

  first_row : {k : _} (n : ℕ) (r : Row_of-KNode k) → set_first codes n r ≡ first_set n (items-the_row-KNode k r)
  first_row n end_of-KNode = refl
  first_row n (more_of-KNode m p s rest) = ap (λ b. if sets n s then count_of n (stmt_names true codes s) == 1 else (count_of n (stmt_names true codes s) == 0) && b) (first_row n rest)

  if_later : (a b c r r' : Bool) → (r ≡ true → r' ≡ true) → (if a then b else c && r) ≡ true → (if a then b else c && r') ≡ true
  if_later true b c r r' f h = h
  if_later false b true r r' f h = f h
  if_later false b false r r' f h = h

  pub first_more : (n : ℕ) (xs ys : List KNode) → first_set n xs ≡ true → first_set n (xs ++ ys) ≡ true
  first_more n [] ys h = absurd (cc)
  first_more n (x ∷ xs) ys h = if_later (sets n x.stmt) _ _ (first_set n xs) (first_set n (xs ++ ys)) (first_more n xs ys) h

  abbrev pub Absent : Bool → ℕ → KNode → Type 0
  Absent own n x = count_of n (stmt_names own codes x.stmt) ≡ 0

  pub first_here : (n : ℕ) (xs : List KNode) (one : KNode) → AllOf (Absent true n) xs → sets n one.stmt ≡ true → count_of n (stmt_names true codes one.stmt) ≡ 1 → first_set n (xs ++ one ∷ []) ≡ true
  first_here n [] one h set once =
      ap (λ b. if b then count_of n (stmt_names true codes one.stmt) == 1 else (count_of n (stmt_names true codes one.stmt) == 0) && false) set ∙ (Decides-eqb (count_of n (stmt_names true codes one.stmt)) 1).1 once
  first_here n (x ∷ xs) one h set once =
      ap (λ b. if b then count_of n (stmt_names true codes x.stmt) == 1 else (count_of n (stmt_names true codes x.stmt) == 0) && first_set n (xs ++ one ∷ [])) (not_set n x.stmt h.0) ∙
      ap (λ b. b && first_set n (xs ++ one ∷ [])) ((Decides-eqb (count_of n (stmt_names true codes x.stmt)) 0).1 h.0) ∙ first_here n xs one h.1 set once

  -- ---- a list's declarations

  abbrev pub SetIn : List KNode → KDecl → Type 0
  SetIn list d = is_set_decl d.kind ≡ true → first_set d.slot list ≡ true

  if_set : (a b : Bool) → (a ≡ true → b ≡ true) → (if a then b else true) ≡ true
  if_set true b h = h refl
  if_set false b h = refl

  and_all : (a b : Bool) → a ≡ true → b ≡ true → (a && b) ≡ true
  and_all true b h k = k
  and_all false b h k = h

  all_row : {k : _} (ds : List KDecl) (r : Row_of-KNode k) → AllOf (SetIn (items-the_row-KNode k r)) ds → all_set codes ds r ≡ true
  all_row [] r h = refl
  all_row {k = k} (d ∷ ds) r h =
      and_all (if is_set_decl d.kind then set_first codes d.slot r else true) (all_set codes ds r) (if_set (is_set_decl d.kind) (set_first codes d.slot r) (λ e. first_row d.slot r ∙ h.0 e)) (all_row ds r h.1)

  pub set_more : (list more : List KNode) (ds : List KDecl) → AllOf (SetIn list) ds → AllOf (SetIn (list ++ more)) ds
  set_more list more [] h = tt
  set_more list more (d ∷ ds) h = (λ e. first_more d.slot list more (h.0 e), set_more list more ds h.1)

  -- ---- kernels

  abbrev pub NodeSettled : KNode → Type 0
  NodeSettled x = StmtSettled codes x.stmt

  nodes_row : {n : _} (r : Row_of-KNode n) → AllOf NodeSettled (items-the_row-KNode n r) → NodesSettled codes r
  unfolding StmtSettled
  nodes_row end_of-KNode h = tt
  nodes_row (more_of-KNode n p s rest) h = (h.0, nodes_row rest h.1)

  arms_row : {n : _} (r : Row_of-KArm n) → AllOf (ArmSettled codes) (items-the_row-KArm n r) → ArmsSettled codes r
  unfolding StmtSettled
  arms_row end_of-KArm h = tt
  arms_row (more_of-KArm a rest) h = (h.0, arms_row rest h.1)

  blocks_row : {n : _} (r : Row_of-KBlock n) → AllOf (BlockSettled codes) (items-the_row-KBlock n r) → BlocksSettled codes r
  unfolding StmtSettled
  blocks_row end_of-KBlock h = tt
  blocks_row (more_of-KBlock b rest) h = (h.0, blocks_row rest h.1)

  pub if_settled : (arms : List KArm) (last : KBlock) → AllOf (ArmSettled codes) arms → BlockSettled codes last → StmtSettled codes (kernel.If arms last)
  unfolding StmtSettled
  if_settled arms last h k = (arms_row (hidden-the_row-KArm-0 arms) (subst (AllOf (ArmSettled codes)) (sym (items_hidden-the_row-KArm-0 arms)) h), k)

  pub par_settled : (kind : ParKind) (slot : ℕ) (bs : List KBlock) → AllOf (BlockSettled codes) bs → StmtSettled codes (kernel.Par kind slot bs)
  unfolding StmtSettled
  par_settled kind slot bs h = blocks_row (hidden-the_row-KBlock-1 bs) (subst (AllOf (BlockSettled codes)) (sym (items_hidden-the_row-KBlock-1 bs)) h)

  pub rolled_settled : (n : ℕ) (ds : List KDecl) (list : List KNode) → AllOf (SetIn list) ds → AllOf NodeSettled list → BlockSettled codes (roll-KBlock (record { node = n; decls = ds; list = list }))
  unfolding StmtSettled roll-KBlock Carrier.roll
  rolled_settled n ds list h k =
      let same = sym (items_hidden-the_row-KNode-2 list) in (
        all_row ds (hidden-the_row-KNode-2 list) (subst (λ xs. AllOf (SetIn xs) ds) same h),
        nodes_row (hidden-the_row-KNode-2 list) (subst (AllOf NodeSettled) same k),
      )

  -- ---- names

  module _ (own : Bool) (n : ℕ) where
    abbrev pub ArmAbsent : KArm → Type 0
    ArmAbsent a = count_of n (arm_names own codes a) ≡ 0

    abbrev pub BlockAbsent : KBlock → Type 0
    BlockAbsent b = count_of n (block_names own codes b) ≡ 0

    list_absent : {k : _} (r : Row_of-KNode k) → AllOf (Absent own n) (items-the_row-KNode k r) → count_of n (list_names own codes r) ≡ 0
    unfolding stmt_names
    list_absent end_of-KNode h = refl
    list_absent (more_of-KNode m p s rest) h = count_both n (stmt_names own codes s) (list_names own codes rest) h.0 (list_absent rest h.1)

    arms_absent : {k : _} (r : Row_of-KArm k) → AllOf ArmAbsent (items-the_row-KArm k r) → count_of n (arms_names own codes r) ≡ 0
    unfolding stmt_names
    arms_absent end_of-KArm h = refl
    arms_absent (more_of-KArm a rest) h = count_both n (arm_names own codes a) (arms_names own codes rest) h.0 (arms_absent rest h.1)

    blocks_absent : {k : _} (r : Row_of-KBlock k) → AllOf BlockAbsent (items-the_row-KBlock k r) → count_of n (blocks_names own codes r) ≡ 0
    unfolding stmt_names
    blocks_absent end_of-KBlock h = refl
    blocks_absent (more_of-KBlock b rest) h = count_both n (block_names own codes b) (blocks_names own codes rest) h.0 (blocks_absent rest h.1)

    pub if_absent : (arms : List KArm) (last : KBlock) → AllOf ArmAbsent arms → BlockAbsent last → count_of n (stmt_names own codes (kernel.If arms last)) ≡ 0
    unfolding stmt_names
    if_absent arms last h k =
        count_both n (arms_names own codes (hidden-the_row-KArm-0 arms)) (block_names own codes last) (arms_absent (hidden-the_row-KArm-0 arms) (subst (AllOf ArmAbsent) (sym (items_hidden-the_row-KArm-0 arms)) h)) k

    pub par_absent : (kind : ParKind) (slot : ℕ) (bs : List KBlock) → AllOf BlockAbsent bs → count_of n (stmt_names own codes (kernel.Par kind slot bs)) ≡ 0
    unfolding stmt_names
    par_absent kind slot bs h = blocks_absent (hidden-the_row-KBlock-1 bs) (subst (AllOf BlockAbsent) (sym (items_hidden-the_row-KBlock-1 bs)) h)

    pub rolled_absent : (m : ℕ) (ds : List KDecl) (list : List KNode) → AllOf (Absent own n) list → BlockAbsent (roll-KBlock (record { node = m; decls = ds; list = list }))
    unfolding stmt_names roll-KBlock Carrier.roll
    rolled_absent m ds list h = list_absent (hidden-the_row-KNode-2 list) (subst (AllOf (Absent own n)) (sym (items_hidden-the_row-KNode-2 list)) h)

    -- the names of a list in order, and the target of its first statement
    abbrev pub count_list : List KNode → ℕ
    count_list [] = 0
    count_list (x ∷ xs) = count_of n (stmt_names own codes x.stmt) + count_list xs

    count_row : {k : _} (r : Row_of-KNode k) → count_of n (list_names own codes r) ≡ count_list (items-the_row-KNode k r)
    unfolding stmt_names
    count_row end_of-KNode = refl
    count_row (more_of-KNode m p s rest) = count_append n (stmt_names own codes s) (list_names own codes rest) ∙ ap (λ k. count_of n (stmt_names own codes s) + k) (count_row rest)

    pub rolled_count : (m : ℕ) (ds : List KDecl) (list : List KNode) → count_of n (block_names own codes (roll-KBlock (record { node = m; decls = ds; list = list }))) ≡ count_list list
    unfolding stmt_names roll-KBlock Carrier.roll
    rolled_count m ds list = count_row (hidden-the_row-KNode-2 list) ∙ ap count_list (items_hidden-the_row-KNode-2 list)

abbrev pub first_aim : List KNode → Option Loc
first_aim [] = None
first_aim (x ∷ xs) = await_target x.stmt

aim_row : {k : _} (r : Row_of-KNode k) → first_target r ≡ first_aim (items-the_row-KNode k r)
aim_row end_of-KNode = refl
aim_row (more_of-KNode m p s rest) = refl

pub rolled_aim : (m : ℕ) (ds : List KDecl) (list : List KNode) → body_target (roll-KBlock (record { node = m; decls = ds; list = list })) ≡ first_aim list
unfolding roll-KBlock Carrier.roll
rolled_aim m ds list = aim_row (hidden-the_row-KNode-2 list) ∙ ap first_aim (items_hidden-the_row-KNode-2 list)
