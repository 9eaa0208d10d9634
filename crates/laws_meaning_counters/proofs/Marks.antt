-- The slots of declarations and those in which loops count differ in a numbered kernel.
use Rattle.std.proofs.Common.{◌≡◌, refl, sym, ap, ◌∙◌, subst, ◌<◌, ◌≤◌, ℕ, zero, suc, ◌+◌, Bool, true, false, if◌then◌else◌, ◌==◌, ◌⊎◌, inl, inr, List, [], ◌∷◌, ◌++◌, length, Some, None, arith, eqb-true}
use Rattle.std.proofs.lemmas.Bool.{and_parts, cases_lt}
use Rattle.ceu_base.specs.declared.kinds.Ty.TheVariants as ty
use Rattle.ceu_tree.specs.declared.kernel.Kernel.{Kernel}
use Rattle.ceu_tree.specs.declared.kernel.KCode.{KCode}
use Rattle.ceu_tree.specs.declared.kernel.KLoop.{KLoop}
use Rattle.ceu_tree.specs.declared.kernel.KLoop.TheVariants as turns
use Rattle.ceu_tree.specs.declared.kernel.KNode.{KNode}
use Rattle.ceu_tree.specs.declared.kernel.KArm.{KArm, KArm', out-KArm}
use Rattle.ceu_tree.specs.declared.kernel.KBlock.{KBlock, KBlock', out-KBlock, Row_of-KNode, end_of-KNode, more_of-KNode, items-the_row-KNode, items_shown-the_row-KNode-2}
use Rattle.ceu_tree.specs.declared.kernel.KStmt.{KStmt, out-KStmt, Row_of-KArm, end_of-KArm, more_of-KArm, items-the_row-KArm, items_shown-the_row-KArm-0, items_shown-the_row-KBlock-1, Row_of-KBlock, end_of-KBlock, more_of-KBlock, items-the_row-KBlock, Async, Finalize, Do, If', Loop, Par'}
use Rattle.ceu_tree.specs.declared.kernel.KStmt.TheOpen.{KStmt-F}
use Rattle.ceu_tree.specs.Leaf.{Layer, code_at}
use Rattle.ceu_tree.specs.Mentions.{outer_names_from}
use Rattle.ceu_tree.specs.Proper.{is_proper, codes_ok, block_ok, body_scope, events_ok, ports_ok}
use Rattle.ceu_tree.specs.Numbering.{counts_from, decl_slots, loop_slots, par_slots, row_length, stmt_slots, block_slots, arm_slots, list_slots, arms_slots, blocks_slots, block_nodes, codes_nodes, codes_slots, is_numbered}
use Rattle.laws_meaning_basics.specs.Shape.{among_arms, opens_part}
use Rattle.laws_meaning_instances.proofs.Living.{often, once_true, once_false}
use Rattle.laws_meaning_instances.proofs.Lists.{often_append}
use denote.Hole.Carrier

-- the slot in which a loop counts
abbrev pub turn_slots : KLoop → List ℕ
turn_slots turns.Free = []
turn_slots (turns.Times slot n) = slot ∷ []
turn_slots (turns.Range i next end open_a a b open_b) = i ∷ []

-- ---- how often a slot is one of a declaration, or else one in which a loop counts

module _ (decls : Bool) (x : ℕ) where
  unfoldable mutual
    pub stmt_marks : KStmt → ℕ
    stmt_marks (Async b) = block_marks b
    stmt_marks (Finalize b) = block_marks b
    stmt_marks (Do t b) = block_marks b
    stmt_marks (If' _ arms last) = arms_marks arms + block_marks last
    stmt_marks (Loop k b) = (if decls then 0 else often x (turn_slots k)) + block_marks b
    stmt_marks (Par' k slot _ bs) = blocks_marks bs
    stmt_marks _ = 0

    pub block_marks : KBlock → ℕ
    block_marks (KBlock' n ds _ list) = (if decls then often x (decl_slots ds) else 0) + list_marks list

    pub arm_marks : KArm → ℕ
    arm_marks (KArm' c b) = block_marks b

    pub list_marks : {n : _} → Row_of-KNode n → ℕ
    list_marks end_of-KNode = 0
    list_marks (more_of-KNode n p s rest) = stmt_marks s + list_marks rest

    pub arms_marks : {n : _} → Row_of-KArm n → ℕ
    arms_marks end_of-KArm = 0
    arms_marks (more_of-KArm a rest) = arm_marks a + arms_marks rest

    pub blocks_marks : {n : _} → Row_of-KBlock n → ℕ
    blocks_marks end_of-KBlock = 0
    blocks_marks (more_of-KBlock b rest) = block_marks b + blocks_marks rest

  abbrev pub codes_marks : List KCode → ℕ
  codes_marks [] = 0
  codes_marks (c ∷ cs) = (if decls then often x (decl_slots c.params) else 0) + block_marks c.body + codes_marks cs

  abbrev pub kernel_marks : Kernel → ℕ
  kernel_marks K = block_marks K.body + codes_marks K.codes

  -- ---- one level

  abbrev pub nodes_marks : List KNode → ℕ
  nodes_marks [] = 0
  nodes_marks (s ∷ ss) = stmt_marks s.stmt + nodes_marks ss

  abbrev pub blocks_marks_all : List KBlock → ℕ
  blocks_marks_all [] = 0
  blocks_marks_all (b ∷ bs) = block_marks b + blocks_marks_all bs

  abbrev pub arms_marks_all : List KArm → ℕ
  arms_marks_all [] = 0
  arms_marks_all (a ∷ arms) = block_marks (out-KArm a).body + arms_marks_all arms

  abbrev pub layer_marks : Layer → ℕ
  layer_marks (KStmt-F.Async b) = block_marks b
  layer_marks (KStmt-F.Finalize b) = block_marks b
  layer_marks (KStmt-F.Do t b) = block_marks b
  layer_marks (KStmt-F.If arms last) = arms_marks_all arms + block_marks last
  layer_marks (KStmt-F.Loop k b) = (if decls then 0 else often x (turn_slots k)) + block_marks b
  layer_marks (KStmt-F.Par k slot bs) = blocks_marks_all bs
  layer_marks layer = 0

  list_marks_row : {n : _} (rows : Row_of-KNode n) → list_marks rows ≡ nodes_marks (items-the_row-KNode n rows)
  unfolding list_marks
  list_marks_row end_of-KNode = refl
  list_marks_row (more_of-KNode n p s rest) = ap (λ m. stmt_marks s + m) (list_marks_row rest)

  blocks_marks_row : {n : _} (rows : Row_of-KBlock n) → blocks_marks rows ≡ blocks_marks_all (items-the_row-KBlock n rows)
  unfolding blocks_marks
  blocks_marks_row end_of-KBlock = refl
  blocks_marks_row (more_of-KBlock b rest) = ap (λ m. block_marks b + m) (blocks_marks_row rest)

  arm_marks_is : (a : KArm) → arm_marks a ≡ block_marks (out-KArm a).body
  unfolding arm_marks out-KArm Carrier.out
  arm_marks_is (KArm' c b) = refl

  arms_marks_row : {n : _} (rows : Row_of-KArm n) → arms_marks rows ≡ arms_marks_all (items-the_row-KArm n rows)
  unfolding arms_marks
  arms_marks_row end_of-KArm = refl
  arms_marks_row (more_of-KArm a rest) = ap (λ m. m + arms_marks rest) (arm_marks_is a) ∙ ap (λ m. block_marks (out-KArm a).body + m) (arms_marks_row rest)

  pub block_marks_is : (b : KBlock) → block_marks b ≡ (if decls then often x (decl_slots (out-KBlock b).decls) else 0) + nodes_marks (out-KBlock b).list
  unfolding block_marks out-KBlock Carrier.out
  block_marks_is (KBlock' n ds y list) = ap (λ m. (if decls then often x (decl_slots ds) else 0) + m) (list_marks_row list ∙ ap nodes_marks (sym (items_shown-the_row-KNode-2 y list)))

  pub stmt_marks_is : (st : KStmt) → stmt_marks st ≡ layer_marks (out-KStmt st)
  unfolding stmt_marks out-KStmt Carrier.out
  stmt_marks_is (If' y arms last) = ap (λ m. m + block_marks last) (arms_marks_row arms ∙ ap arms_marks_all (sym (items_shown-the_row-KArm-0 y arms)))
  stmt_marks_is (Par' k slot y bs) = blocks_marks_row bs ∙ ap blocks_marks_all (sym (items_shown-the_row-KBlock-1 y bs))
  stmt_marks_is st = refl

  -- ---- where a part has none, its parts have none

  nodes_at : (done : List KNode) (s : KNode) (rest : List KNode) → nodes_marks (done ++ s ∷ rest) ≡ 0 → stmt_marks s.stmt ≡ 0
  nodes_at [] s rest h = omega (arith, h)
  nodes_at (q ∷ done) s rest h = nodes_at done s rest (omega (arith, h))

  pub nodes_none : (b : KBlock) → block_marks b ≡ 0 → nodes_marks (out-KBlock b).list ≡ 0
  nodes_none b h = let e = block_marks_is b in omega (arith, h, e)

  pub list_none : (b : KBlock) (done : List KNode) (s : KNode) (rest : List KNode) → (out-KBlock b).list ≡ done ++ s ∷ rest → block_marks b ≡ 0 → stmt_marks s.stmt ≡ 0
  list_none b done s rest e h = nodes_at done s rest (sym (ap nodes_marks e) ∙ nodes_none b h)

  pub layer_none : (s : KNode) (layer : Layer) → out-KStmt s.stmt ≡ layer → stmt_marks s.stmt ≡ 0 → layer_marks layer ≡ 0
  layer_none s layer e h = sym (stmt_marks_is s.stmt ∙ ap layer_marks e) ∙ h

  arms_at : (arms : List KArm) (b : KBlock) → among_arms arms b → arms_marks_all arms ≡ 0 → block_marks b ≡ 0
  arms_at [] b o h = elim o [ ]
  arms_at (a ∷ arms) b (inl e) h = ap block_marks (sym e) ∙ omega (arith, h)
  arms_at (a ∷ arms) b (inr o) h = arms_at arms b o (omega (arith, h))

  pub part_none : (layer : Layer) (b : KBlock) → opens_part layer b → layer_marks layer ≡ 0 → block_marks b ≡ 0
  part_none (KStmt-F.Do t c) b o h = ap block_marks (sym o) ∙ h
  part_none (KStmt-F.If arms last) b (inl o) h = arms_at arms b o (omega (arith, h))
  part_none (KStmt-F.If arms last) b (inr e) h = ap block_marks (sym e) ∙ omega (arith, h)
  part_none layer b o h = elim o [ ]

  pub each_none : (bs : List KBlock) (b : KBlock) (cs : List KBlock) → blocks_marks_all (bs ++ b ∷ cs) ≡ 0 → (blocks_marks_all bs ≡ 0) × (block_marks b ≡ 0) × (blocks_marks_all cs ≡ 0)
  each_none [] b cs h = (refl, omega (arith, h), omega (arith, h))
  each_none (q ∷ bs) b cs h = let a = each_none bs b cs (omega (arith, h)) in (let z = a.0 in omega (arith, h, z), a.1, a.2)

  pub code_none : (c : ℕ) (cs : List KCode) (k : KCode) → code_at c cs ≡ Some k → codes_marks cs ≡ 0 → ((if decls then often x (decl_slots k.params) else 0) ≡ 0) × (block_marks k.body ≡ 0)
  code_none c [] k e h = absurd (cc)
  code_none zero (q ∷ cs) k e h =
      let same : q ≡ k = ap (λ o. elim o [ None ↦ q | Some y ↦ y ]) e in
      subst (λ y. ((if decls then often x (decl_slots y.params) else 0) ≡ 0) × (block_marks y.body ≡ 0)) same (omega (arith, h), omega (arith, h))
  code_none (suc c) (q ∷ cs) k e h = code_none c cs k e (omega (arith, h))

-- ---- each slot is one of the kernel's slots, which differ

module _ (x : ℕ) where
  loop_marks_slots : (k : KLoop) → often x (turn_slots k) ≤ often x (loop_slots k)
  loop_marks_slots turns.Free = omega arith
  loop_marks_slots (turns.Times slot n) = omega arith
  loop_marks_slots (turns.Range i next end open_a a b open_b) = omega arith

  mutual
    unfolding stmt_marks stmt_slots

    stmt_marks_slots : (st : KStmt) → stmt_marks true x st + stmt_marks false x st ≤ often x (stmt_slots st)
    stmt_marks_slots (Async b) = block_marks_slots b
    stmt_marks_slots (Finalize b) = block_marks_slots b
    stmt_marks_slots (Do t b) = block_marks_slots b
    stmt_marks_slots (If' y arms last) = let a = arms_marks_slots arms in let c = block_marks_slots last in let e = often_append x (arms_slots arms) (block_slots last) in omega (arith, a, c, e)
    stmt_marks_slots (Loop k b) = let a = loop_marks_slots k in let c = block_marks_slots b in let e = often_append x (loop_slots k) (block_slots b) in omega (arith, a, c, e)
    stmt_marks_slots (Par' k slot y bs) = let c = blocks_marks_slots bs in let e = often_append x (par_slots k slot (row_length bs)) (blocks_slots bs) in omega (arith, c, e)
    stmt_marks_slots st = omega arith

    block_marks_slots : (b : KBlock) → block_marks true x b + block_marks false x b ≤ often x (block_slots b)
    block_marks_slots (KBlock' n ds y list) = let c = list_marks_slots list in let e = often_append x (decl_slots ds) (list_slots list) in omega (arith, c, e)

    arm_marks_slots : (a : KArm) → arm_marks true x a + arm_marks false x a ≤ often x (arm_slots a)
    arm_marks_slots (KArm' c b) = block_marks_slots b

    list_marks_slots : {n : _} (rows : Row_of-KNode n) → list_marks true x rows + list_marks false x rows ≤ often x (list_slots rows)
    list_marks_slots end_of-KNode = omega arith
    list_marks_slots (more_of-KNode n p s rest) = let a = stmt_marks_slots s in let c = list_marks_slots rest in let e = often_append x (stmt_slots s) (list_slots rest) in omega (arith, a, c, e)

    arms_marks_slots : {n : _} (rows : Row_of-KArm n) → arms_marks true x rows + arms_marks false x rows ≤ often x (arms_slots rows)
    arms_marks_slots end_of-KArm = omega arith
    arms_marks_slots (more_of-KArm a rest) = let d = arm_marks_slots a in let c = arms_marks_slots rest in let e = often_append x (arm_slots a) (arms_slots rest) in omega (arith, d, c, e)

    blocks_marks_slots : {n : _} (rows : Row_of-KBlock n) → blocks_marks true x rows + blocks_marks false x rows ≤ often x (blocks_slots rows)
    blocks_marks_slots end_of-KBlock = omega arith
    blocks_marks_slots (more_of-KBlock b rest) = let d = block_marks_slots b in let c = blocks_marks_slots rest in let e = often_append x (block_slots b) (blocks_slots rest) in omega (arith, d, c, e)

  codes_marks_slots : (cs : List KCode) → codes_marks true x cs + codes_marks false x cs ≤ often x (codes_slots cs)
  codes_marks_slots [] = omega arith
  codes_marks_slots (c ∷ cs) =
      let a = block_marks_slots c.body in
      let d = codes_marks_slots cs in
      let e = often_append x (decl_slots c.params ++ block_slots c.body) (codes_slots cs) in
      let f = often_append x (decl_slots c.params) (block_slots c.body) in
      omega (arith, a, d, e, f)

  -- a list that counts on has each number once
  counted_once : (k : ℕ) (xs : List ℕ) → counts_from k xs ≡ true → (often x xs ≤ 1) × (x < k → often x xs ≡ 0)
  counted_once k [] h = (omega arith, λ l. refl)
  counted_once k (y ∷ xs) h = go (x == y) refl (counted_once (k + 1) xs (and_parts (y == k) (counts_from (k + 1) xs) h).1)
    where
      is : y ≡ k
      is = eqb-true y k (and_parts (y == k) (counts_from (k + 1) xs) h).0

      go : (t : Bool) → (x == y) ≡ t → (often x xs ≤ 1) × (x < k + 1 → often x xs ≡ 0) → (often x (y ∷ xs) ≤ 1) × (x < k → often x (y ∷ xs) ≡ 0)
      go true e ih = let i = eqb-true x y e in let z = is in let n = ih.1 (omega (arith, i, z)) in let o = once_true x y e in (omega (arith, o, n), λ l. absurd (omega (arith, i, z, l)))
      go false e ih = let o = once_false x y e in let m = ih.0 in (omega (arith, o, m), λ l. (let n = ih.1 (omega (arith, l)) in omega (arith, o, n)))

  slots_counted : (K : Kernel) → is_proper K ≡ true → counts_from 0 (block_slots K.body ++ codes_slots K.codes) ≡ true
  unfolding is_proper is_numbered
  slots_counted K h =
      let names = outer_names_from [] K.codes in
      let a = (and_parts _ (codes_ok K names 0 K.codes) h).0 in
      let b = (and_parts _ (block_ok K names (body_scope K names None K.body ty.S32) K.body) a).0 in
      let c = (and_parts _ (events_ok (length K.codes) K.events) b).0 in
      let d = (and_parts (is_numbered K) (ports_ok (K.inputs ++ K.outputs)) c).0 in
      (and_parts (counts_from 0 (block_nodes K.body ++ codes_nodes K.codes)) (counts_from 0 (block_slots K.body ++ codes_slots K.codes)) d).1

  -- in a proper kernel no declaration has the slot, or no loop counts in it
  pub one_kind : (K : Kernel) → is_proper K ≡ true → (kernel_marks true x K ≡ 0) ⊎ (kernel_marks false x K ≡ 0)
  one_kind K h = go (cases_lt 0 (kernel_marks true x K))
    where
      go : (0 < kernel_marks true x K) ⊎ (kernel_marks true x K ≤ 0) → (kernel_marks true x K ≡ 0) ⊎ (kernel_marks false x K ≡ 0)
      go (inr l) = inl (omega (arith, l))
      go (inl l) =
          let a = block_marks_slots K.body in
          let c = codes_marks_slots K.codes in
          let e = often_append x (block_slots K.body) (codes_slots K.codes) in
          let o = (counted_once 0 (block_slots K.body ++ codes_slots K.codes) (slots_counted K h)).0 in
          inr (omega (arith, a, c, e, o, l))
