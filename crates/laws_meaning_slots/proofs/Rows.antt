-- The kind of each slot of a kernel, by its number: slots are numbered through the whole kernel, so that a number tells the declaration.
use Rattle.std.proofs.Common.{◌≡◌, refl, sym, ap, ◌∙◌, subst, ◌≤◌, ℕ, zero, suc, ◌+◌, Bool, true, false, if◌then◌else◌, ◌==◌, ◌⊎◌, inl, inr, List, [], ◌∷◌, ◌++◌, length, Some, None, arith, eqb-true, eq-eqb}
use Rattle.std.proofs.lemmas.Bool.{and_parts}
use Rattle.ceu_base.specs.declared.kinds.Ty.TheVariants as ty
use Rattle.ceu_tree.specs.declared.kernel.Kernel.{Kernel}
use Rattle.ceu_tree.specs.declared.kernel.KCode.{KCode}
use Rattle.ceu_tree.specs.declared.kernel.KDecl.{KDecl}
use Rattle.ceu_tree.specs.declared.kernel.KLoop.{KLoop}
use Rattle.ceu_tree.specs.declared.kernel.KLoop.TheVariants as turns
use Rattle.ceu_tree.specs.declared.kernel.KNode.{KNode}
use Rattle.ceu_tree.specs.declared.kernel.KArm.{KArm, KArm', out-KArm}
use Rattle.ceu_tree.specs.declared.kernel.KBlock.{KBlock, KBlock', out-KBlock, Row_of-KNode, end_of-KNode, more_of-KNode, items-the_row-KNode, items_shown-the_row-KNode-2}
use Rattle.ceu_tree.specs.declared.kernel.KStmt.{KStmt, out-KStmt, items-the_row-KArm, items_shown-the_row-KArm-0, items_shown-the_row-KBlock-1, items-the_row-KBlock, Row_of-KArm, end_of-KArm, more_of-KArm, Row_of-KBlock, end_of-KBlock, more_of-KBlock, AwaitCode, Async, Finalize, Do, If', Loop, Par'}
use Rattle.ceu_tree.specs.Numbering.{counts_from, decl_slots, loop_slots, par_slots, row_length, stmt_slots, block_slots, arm_slots, list_slots, arms_slots, blocks_slots, codes_slots, block_nodes, codes_nodes, is_numbered}
use Rattle.ceu_tree.specs.declared.kernel.KStmt.TheOpen.{KStmt-F}
use Rattle.ceu_tree.specs.Leaf.{Layer, code_at}
use Rattle.ceu_tree.specs.Mentions.{outer_names_from}
use Rattle.ceu_tree.specs.Proper.{body_scope, block_ok, codes_ok, events_ok, ports_ok, is_proper}
use Rattle.laws_meaning_slots.specs.Declared.{Row, hidden, inner_pools, decl_rows, loop_rows, stmt_rows, block_rows, arm_rows, list_rows, arms_rows, blocks_rows, code_pools, codes_rows, rows, kind_at}
use denote.Hole.Carrier

-- ---- their slots are those of the kernel

abbrev pub slots_of : List Row → List ℕ
slots_of [] = []
slots_of (x ∷ xs) = x.slot ∷ slots_of xs

slots_append : (xs ys : List Row) → slots_of (xs ++ ys) ≡ slots_of xs ++ slots_of ys
slots_append [] ys = refl
slots_append (x ∷ xs) ys = ap (λ l. x.slot ∷ l) (slots_append xs ys)

slots_both : (xs ys : List Row) (ms ns : List ℕ) → slots_of xs ≡ ms → slots_of ys ≡ ns → slots_of (xs ++ ys) ≡ ms ++ ns
slots_both xs ys ms ns e f = slots_append xs ys ∙ ap (λ l. l ++ slots_of ys) e ∙ ap (λ l. ms ++ l) f

hidden_same : (xs : List ℕ) → slots_of (hidden xs) ≡ xs
hidden_same [] = refl
hidden_same (x ∷ xs) = ap (λ l. x ∷ l) (hidden_same xs)

decls_same : (ps : List ℕ) (ds : List KDecl) → slots_of (decl_rows ps ds) ≡ decl_slots ds
decls_same ps [] = refl
decls_same ps (d ∷ ds) = ap (λ l. d.slot ∷ l) (decls_same ps ds)

loop_same : (k : KLoop) → slots_of (loop_rows k) ≡ loop_slots k
loop_same turns.Free = refl
loop_same (turns.Times slot n) = refl
loop_same (turns.Range i next end open_a a b open_b) = refl

mutual
  unfolding stmt_rows stmt_slots

  stmt_same : (ps : List ℕ) (st : KStmt) → slots_of (stmt_rows ps st) ≡ stmt_slots st
  stmt_same ps (AwaitCode c es frame t) = refl
  stmt_same ps (Async b) = block_same ps b
  stmt_same ps (Finalize b) = block_same ps b
  stmt_same ps (Do t b) = block_same ps b
  stmt_same ps (If' x arms last) = slots_both (arms_rows ps arms) (block_rows ps last) (arms_slots arms) (block_slots last) (arms_same ps arms) (block_same ps last)
  stmt_same ps (Loop k b) = slots_both (loop_rows k) (block_rows ps b) (loop_slots k) (block_slots b) (loop_same k) (block_same ps b)
  stmt_same ps (Par' k slot x bs) =
      slots_both (hidden (par_slots k slot (row_length bs))) (blocks_rows ps bs) (par_slots k slot (row_length bs)) (blocks_slots bs) (hidden_same (par_slots k slot (row_length bs))) (blocks_same ps bs)
  stmt_same ps st = refl

  block_same : (ps : List ℕ) (b : KBlock) → slots_of (block_rows ps b) ≡ block_slots b
  block_same ps (KBlock' n ds x list) =
      slots_both (decl_rows (inner_pools ps ds) ds) (list_rows (inner_pools ps ds) list) (decl_slots ds) (list_slots list) (decls_same (inner_pools ps ds) ds) (list_same (inner_pools ps ds) list)

  arm_same : (ps : List ℕ) (a : KArm) → slots_of (arm_rows ps a) ≡ arm_slots a
  arm_same ps (KArm' c b) = block_same ps b

  list_same : {n : _} (ps : List ℕ) (list : Row_of-KNode n) → slots_of (list_rows ps list) ≡ list_slots list
  list_same ps end_of-KNode = refl
  list_same ps (more_of-KNode n p s rest) = slots_both (stmt_rows ps s) (list_rows ps rest) (stmt_slots s) (list_slots rest) (stmt_same ps s) (list_same ps rest)

  arms_same : {n : _} (ps : List ℕ) (arms : Row_of-KArm n) → slots_of (arms_rows ps arms) ≡ arms_slots arms
  arms_same ps end_of-KArm = refl
  arms_same ps (more_of-KArm a rest) = slots_both (arm_rows ps a) (arms_rows ps rest) (arm_slots a) (arms_slots rest) (arm_same ps a) (arms_same ps rest)

  blocks_same : {n : _} (ps : List ℕ) (bs : Row_of-KBlock n) → slots_of (blocks_rows ps bs) ≡ blocks_slots bs
  blocks_same ps end_of-KBlock = refl
  blocks_same ps (more_of-KBlock b rest) = slots_both (block_rows ps b) (blocks_rows ps rest) (block_slots b) (blocks_slots rest) (block_same ps b) (blocks_same ps rest)

codes_same : (cs : List KCode) → slots_of (codes_rows cs) ≡ codes_slots cs
codes_same [] = refl
codes_same (c ∷ cs) =
    let ps = inner_pools [] c.params in
    slots_both (decl_rows ps c.params ++ block_rows (code_pools c) c.body) (codes_rows cs) (decl_slots c.params ++ block_slots c.body) (codes_slots cs)
    (slots_both (decl_rows ps c.params) (block_rows (code_pools c) c.body) (decl_slots c.params) (block_slots c.body) (decls_same ps c.params) (block_same (code_pools c) c.body)) (codes_same cs)

pub rows_slots : (K : Kernel) → slots_of (rows K) ≡ block_slots K.body ++ codes_slots K.codes
rows_slots K = slots_both (block_rows [] K.body) (codes_rows K.codes) (block_slots K.body) (codes_slots K.codes) (block_same [] K.body) (codes_same K.codes)

-- ---- the row of a slot

abbrev pub Among : Row → List Row → Type 0
Among x [] = ⊥
Among x (y ∷ ys) = (y ≡ x) ⊎ Among x ys

pub among_left : (x : Row) (xs ys : List Row) → Among x xs → Among x (xs ++ ys)
among_left x [] ys h = absurd h
among_left x (y ∷ xs) ys (inl e) = inl e
among_left x (y ∷ xs) ys (inr h) = inr (among_left x xs ys h)

pub among_right : (x : Row) (xs ys : List Row) → Among x ys → Among x (xs ++ ys)
among_right x [] ys h = h
among_right x (y ∷ xs) ys h = inr (among_right x xs ys h)

high : (x : Row) (n : ℕ) (xs : List Row) → counts_from n (slots_of xs) ≡ true → Among x xs → n ≤ x.slot
high x n [] c h = absurd h
high x n (y ∷ ys) c (inl e) = let a = and_parts (y.slot == n) (counts_from (n + 1) (slots_of ys)) c in let z = eqb-true y.slot n a.0 in let q = ap (λ r. r.slot) e in omega (arith, z, q)
high x n (y ∷ ys) c (inr h) = let a = and_parts (y.slot == n) (counts_from (n + 1) (slots_of ys)) c in let z = high x (n + 1) ys a.1 h in omega (arith, z)

pub row_found : (x : Row) (n : ℕ) (xs : List Row) → counts_from n (slots_of xs) ≡ true → Among x xs → kind_at x.slot xs ≡ x.kind
row_found x n [] c h = absurd h
row_found x n (y ∷ ys) c (inl e) = subst (λ r. kind_at r.slot (y ∷ ys) ≡ r.kind) e (ap (λ b. if b then y.kind else kind_at y.slot ys) (eq-eqb y.slot y.slot refl))
row_found x n (y ∷ ys) c (inr h) = go (y.slot == x.slot) refl (row_found x (n + 1) ys a.1 h)
  where
    a : ((y.slot == n) ≡ true) × (counts_from (n + 1) (slots_of ys) ≡ true)
    a = and_parts (y.slot == n) (counts_from (n + 1) (slots_of ys)) c

    go : (b : Bool) → (y.slot == x.slot) ≡ b → kind_at x.slot ys ≡ x.kind → (if b then y.kind else kind_at x.slot ys) ≡ x.kind
    go true e ih = absurd (let z = eqb-true y.slot x.slot e in let q = eqb-true y.slot n a.0 in let l = high x (n + 1) ys a.1 h in omega (arith, z, q, l))
    go false e ih = ih

-- ---- the rows of a part are among those of the kernel

abbrev pub Incl : List Row → List Row → Type 0
Incl xs ys = (x : Row) → Among x xs → Among x ys

pub incl_left : (xs ys zs : List Row) → Incl (xs ++ ys) zs → Incl xs zs
incl_left xs ys zs h x m = h x (among_left x xs ys m)

pub incl_right : (xs ys zs : List Row) → Incl (xs ++ ys) zs → Incl ys zs
incl_right xs ys zs h x m = h x (among_right x xs ys m)

abbrev pub list_all_rows : List ℕ → List KNode → List Row
list_all_rows ps [] = []
list_all_rows ps (s ∷ ss) = stmt_rows ps s.stmt ++ list_all_rows ps ss

abbrev pub blocks_all_rows : List ℕ → List KBlock → List Row
blocks_all_rows ps [] = []
blocks_all_rows ps (b ∷ bs) = block_rows ps b ++ blocks_all_rows ps bs

abbrev pub arms_all_rows : List ℕ → List KArm → List Row
arms_all_rows ps [] = []
arms_all_rows ps (a ∷ arms) = block_rows ps (out-KArm a).body ++ arms_all_rows ps arms

abbrev pub parts_rows : List ℕ → Layer → List Row
parts_rows ps (KStmt-F.Async b) = block_rows ps b
parts_rows ps (KStmt-F.Do t b) = block_rows ps b
parts_rows ps (KStmt-F.If arms last) = arms_all_rows ps arms ++ block_rows ps last
parts_rows ps (KStmt-F.Loop k b) = loop_rows k ++ block_rows ps b
parts_rows ps (KStmt-F.Par k slot bs) = blocks_all_rows ps bs
parts_rows ps layer = []

list_is : {n : _} (ps : List ℕ) (list : Row_of-KNode n) → list_rows ps list ≡ list_all_rows ps (items-the_row-KNode n list)
unfolding stmt_rows
list_is ps end_of-KNode = refl
list_is ps (more_of-KNode n p s rest) = ap (λ l. stmt_rows ps s ++ l) (list_is ps rest)

blocks_is : {n : _} (ps : List ℕ) (bs : Row_of-KBlock n) → blocks_rows ps bs ≡ blocks_all_rows ps (items-the_row-KBlock n bs)
unfolding stmt_rows
blocks_is ps end_of-KBlock = refl
blocks_is ps (more_of-KBlock b rest) = ap (λ l. block_rows ps b ++ l) (blocks_is ps rest)

arm_is : (ps : List ℕ) (a : KArm) → arm_rows ps a ≡ block_rows ps (out-KArm a).body
unfolding stmt_rows out-KArm Carrier.out
arm_is ps (KArm' c b) = refl

arms_is : {n : _} (ps : List ℕ) (arms : Row_of-KArm n) → arms_rows ps arms ≡ arms_all_rows ps (items-the_row-KArm n arms)
unfolding stmt_rows
arms_is ps end_of-KArm = refl
arms_is ps (more_of-KArm a rest) = ap (λ l. l ++ arms_rows ps rest) (arm_is ps a) ∙ ap (λ l. block_rows ps (out-KArm a).body ++ l) (arms_is ps rest)

pub block_rows_is : (ps : List ℕ) (b : KBlock)
    → block_rows ps b ≡ decl_rows (inner_pools ps (out-KBlock b).decls) (out-KBlock b).decls ++ list_all_rows (inner_pools ps (out-KBlock b).decls) (out-KBlock b).list
unfolding stmt_rows out-KBlock Carrier.out
block_rows_is ps (KBlock' n ds x list) = ap (λ l. decl_rows (inner_pools ps ds) ds ++ l) (list_is (inner_pools ps ds) list ∙ ap (list_all_rows (inner_pools ps ds)) (sym (items_shown-the_row-KNode-2 x list)))

pub parts_in : (ps : List ℕ) (st : KStmt) → Incl (parts_rows ps (out-KStmt st)) (stmt_rows ps st)
unfolding stmt_rows out-KStmt Carrier.out
parts_in ps (Async b) r m = m
parts_in ps (Do t b) r m = m
parts_in ps (If' x arms last) r m = subst (λ l. Among r (l ++ block_rows ps last)) (ap (arms_all_rows ps) (items_shown-the_row-KArm-0 x arms) ∙ sym (arms_is ps arms)) m
parts_in ps (Loop k b) r m = m
parts_in ps (Par' k slot x bs) r m =
    among_right r (hidden (par_slots k slot (row_length bs))) (blocks_rows ps bs) (subst (Among r) (ap (blocks_all_rows ps) (items_shown-the_row-KBlock-1 x bs) ∙ sym (blocks_is ps bs)) m)
parts_in ps st r m = absurd m

pub code_rows_in : (c : ℕ) (cs : List KCode) (k : KCode) → code_at c cs ≡ Some k
    → Incl (decl_rows (inner_pools [] k.params) k.params ++ block_rows (code_pools k) k.body) (codes_rows cs)
code_rows_in c [] k e = absurd (cc)
code_rows_in zero (x ∷ cs) k e =
    let same : x ≡ k = ap (λ o. elim o [ None ↦ x | Some y ↦ y ]) e in
    subst (λ y. Incl (decl_rows (inner_pools [] y.params) y.params ++ block_rows (code_pools y) y.body) (codes_rows (x ∷ cs))) same
    (λ r m. among_left r (decl_rows (inner_pools [] x.params) x.params ++ block_rows (code_pools x) x.body) (codes_rows cs) m)
code_rows_in (suc c) (x ∷ cs) k e = λ r m. among_right r (decl_rows (inner_pools [] x.params) x.params ++ block_rows (code_pools x) x.body) (codes_rows cs) (code_rows_in c cs k e r m)

-- ---- of a proper kernel

slots_count : (K : Kernel) → is_proper K ≡ true → counts_from 0 (block_slots K.body ++ codes_slots K.codes) ≡ true
unfolding is_proper is_numbered
slots_count K h =
    let names = outer_names_from [] K.codes in
    let a = (and_parts _ (codes_ok K names 0 K.codes) h).0 in
    let b = (and_parts _ (block_ok K names (body_scope K names None K.body ty.S32) K.body) a).0 in
    let c = (and_parts _ (events_ok (length K.codes) K.events) b).0 in
    let d = (and_parts (is_numbered K) (ports_ok (K.inputs ++ K.outputs)) c).0 in
    (and_parts (counts_from 0 (block_nodes K.body ++ codes_nodes K.codes)) (counts_from 0 (block_slots K.body ++ codes_slots K.codes)) d).1

pub kind_of_row : (K : Kernel) → is_proper K ≡ true → (x : Row) → Among x (rows K) → kind_at x.slot (rows K) ≡ x.kind
kind_of_row K h x m = row_found x 0 (rows K) (subst (λ l. counts_from 0 l ≡ true) (sym (rows_slots K)) (slots_count K h)) m
