-- Slots of a part and those of the parts inside it.
use Rattle.std.proofs.Common.{◌≡◌, refl, sym, ap, ◌∙◌, subst, ◌⊎◌, inl, inr, ℕ, List, [], ◌∷◌, ◌++◌, Contains}
use Rattle.std.proofs.lemmas.List.Elements.{Contains-append_left, Contains-append_right}
use Rattle.ceu_tree.specs.declared.kernel.KLoop.{KLoop}
use Rattle.ceu_tree.specs.declared.kernel.KNode.{KNode}
use Rattle.ceu_tree.specs.declared.kernel.KArm.{KArm', out-KArm}
use Rattle.ceu_tree.specs.declared.kernel.KBlock.{KBlock, KBlock', out-KBlock, Row_of-KNode, end_of-KNode, more_of-KNode, items-the_row-KNode, items_shown-the_row-KNode-2}
use Rattle.ceu_tree.specs.declared.kernel.KStmt.{KStmt, out-KStmt, Row_of-KArm, end_of-KArm, more_of-KArm, items-the_row-KArm, items_shown-the_row-KArm-0, Do, If', Loop}
use Rattle.ceu_tree.specs.declared.kernel.KStmt.TheOpen.{KStmt-F}
use Rattle.ceu_tree.specs.Numbering.{decl_slots, loop_slots, stmt_slots, block_slots, arms_slots}
use Rattle.laws_meaning_basics.specs.Shape.{opens_part, among_arms}
use Rattle.ceu_slots.specs.Law.{StmtTogether, BlockTogether, NodesTogether, ArmsTogether, DeclsSized, StmtSized, BlockSized, NodesSized, ArmsSized, TurnsSized}
use Rattle.laws_meaning_values.proofs.Counts.{slots_all, block_slots_is}
use denote.Hole.Carrier

-- ---- statements of a block

statement_slots : (done rest : List KNode) (s : KNode) (y : ℕ) → Contains (stmt_slots s.stmt) y → Contains (slots_all (done ++ s ∷ rest)) y
statement_slots [] rest s y c = Contains-append_left (stmt_slots s.stmt) (slots_all rest) y c
statement_slots (q ∷ done) rest s y c = Contains-append_right (stmt_slots q.stmt) (slots_all (done ++ s ∷ rest)) y (statement_slots done rest s y c)

pub in_list_slots : (b : KBlock) (done rest : List KNode) (s : KNode) (y : ℕ) → (out-KBlock b).list ≡ done ++ s ∷ rest → Contains (stmt_slots s.stmt) y → Contains (slots_all (out-KBlock b).list) y
in_list_slots b done rest s y e c = subst (λ (l : List KNode). Contains (slots_all l) y) (sym e) (statement_slots done rest s y c)

pub in_block_slots : (b : KBlock) (done rest : List KNode) (s : KNode) (y : ℕ) → (out-KBlock b).list ≡ done ++ s ∷ rest → Contains (stmt_slots s.stmt) y → Contains (block_slots b) y
in_block_slots b done rest s y e c =
    subst (λ (l : List ℕ). Contains l y) (sym (block_slots_is b)) (Contains-append_right (decl_slots (out-KBlock b).decls) (slots_all (out-KBlock b).list) y (in_list_slots b done rest s y e c))

pub declared_in_block : (b : KBlock) (y : ℕ) → Contains (decl_slots (out-KBlock b).decls) y → Contains (block_slots b) y
declared_in_block b y c = subst (λ (l : List ℕ). Contains l y) (sym (block_slots_is b)) (Contains-append_left (decl_slots (out-KBlock b).decls) (slots_all (out-KBlock b).list) y c)

abbrev some_together : (x y : ℕ) → List KNode → Type 0
some_together x y [] = ⊥
some_together x y (s ∷ ss) = StmtTogether x y s.stmt ⊎ some_together x y ss

row_together : {n : _} (x y : ℕ) (rows : Row_of-KNode n) → some_together x y (items-the_row-KNode n rows) → NodesTogether x y rows
unfolding NodesTogether
row_together x y end_of-KNode h = h
row_together x y (more_of-KNode n p s rest) (inl h) = inl h
row_together x y (more_of-KNode n p s rest) (inr h) = inr (row_together x y rest h)

some_at : (x y : ℕ) (done rest : List KNode) (s : KNode) → StmtTogether x y s.stmt → some_together x y (done ++ s ∷ rest)
some_at x y [] rest s h = inl h
some_at x y (q ∷ done) rest s h = inr (some_at x y done rest s h)

pub statement_together : (x y : ℕ) (b : KBlock) (done rest : List KNode) (s : KNode) → (out-KBlock b).list ≡ done ++ s ∷ rest → StmtTogether x y s.stmt → BlockTogether x y b
unfolding BlockTogether out-KBlock Carrier.out
statement_together x y (KBlock' n ds k list) done rest s e h = inr (row_together x y list (subst (some_together x y) (sym e ∙ items_shown-the_row-KNode-2 k list) (some_at x y done rest s h)))

-- a declaration, and a slot of the block
pub declared_together : (x y : ℕ) (b : KBlock) → Contains (decl_slots (out-KBlock b).decls) x → Contains (block_slots b) y → BlockTogether x y b
unfolding BlockTogether block_slots out-KBlock Carrier.out
declared_together x y (KBlock' n ds k list) c d = inl (inl (c, d))

module _ (offset width frame : ℕ → ℕ) where
  abbrev each_sized : List KNode → Type 0
  each_sized [] = Unit {0}
  each_sized (s ∷ ss) = StmtSized offset width frame s.stmt × each_sized ss

  row_sized : {n : _} (rows : Row_of-KNode n) → NodesSized offset width frame rows → each_sized (items-the_row-KNode n rows)
  unfolding NodesSized
  row_sized end_of-KNode h = tt
  row_sized (more_of-KNode n p s rest) h = (h.0, row_sized rest h.1)

  sized_at : (done rest : List KNode) (s : KNode) → each_sized (done ++ s ∷ rest) → StmtSized offset width frame s.stmt
  sized_at [] rest s h = h.0
  sized_at (q ∷ done) rest s h = sized_at done rest s h.1

  pub statement_sized : (b : KBlock) (done rest : List KNode) (s : KNode) → (out-KBlock b).list ≡ done ++ s ∷ rest → BlockSized offset width frame b → StmtSized offset width frame s.stmt
  unfolding BlockSized out-KBlock Carrier.out
  statement_sized (KBlock' n ds k list) done rest s e h = sized_at done rest s (subst each_sized (sym (items_shown-the_row-KNode-2 k list) ∙ e) (row_sized list h.1))

  pub declared_sized : (b : KBlock) → BlockSized offset width frame b → DeclsSized offset width frame (out-KBlock b).decls
  unfolding BlockSized out-KBlock Carrier.out
  declared_sized (KBlock' n ds k list) h = h.0

-- ---- parts of a statement

module _ (x y : ℕ) where
  arm_at : {n : _} (rows : Row_of-KArm n) (b : KBlock) → among_arms (items-the_row-KArm n rows) b → BlockTogether x y b → ArmsTogether x y rows
  unfolding ArmsTogether out-KArm Carrier.out
  arm_at end_of-KArm b o h = elim o [ ]
  arm_at (more_of-KArm (KArm' c q) rest) b (inl e) h = inl (subst (BlockTogether x y) (sym e) h)
  arm_at (more_of-KArm (KArm' c q) rest) b (inr o) h = inr (arm_at rest b o h)

  pub part_together : (st : KStmt) (b : KBlock) → opens_part (out-KStmt st) b → BlockTogether x y b → StmtTogether x y st
  unfolding StmtTogether out-KStmt Carrier.out
  part_together (Do t c) b o h = subst (BlockTogether x y) (sym o) h
  part_together (If' k arms last) b (inl o) h = inl (arm_at arms b (subst (λ l. among_arms l b) (items_shown-the_row-KArm-0 k arms) o) h)
  part_together (If' k arms last) b (inr e) h = inr (subst (BlockTogether x y) (sym e) h)
  part_together st b o h = elim o [ ]

arm_has : {n : _} (rows : Row_of-KArm n) (b : KBlock) (y : ℕ) → among_arms (items-the_row-KArm n rows) b → Contains (block_slots b) y → Contains (arms_slots rows) y
unfolding arms_slots out-KArm Carrier.out
arm_has end_of-KArm b y o c = elim o [ ]
arm_has (more_of-KArm (KArm' k q) rest) b y (inl e) c = Contains-append_left (block_slots q) (arms_slots rest) y (subst (λ (z : KBlock). Contains (block_slots z) y) (sym e) c)
arm_has (more_of-KArm (KArm' k q) rest) b y (inr o) c = Contains-append_right (block_slots q) (arms_slots rest) y (arm_has rest b y o c)

pub part_has : (st : KStmt) (b : KBlock) (y : ℕ) → opens_part (out-KStmt st) b → Contains (block_slots b) y → Contains (stmt_slots st) y
unfolding stmt_slots out-KStmt Carrier.out
part_has (Do t q) b y o c = subst (λ (z : KBlock). Contains (block_slots z) y) (sym o) c
part_has (If' k arms last) b y (inl o) c = Contains-append_left (arms_slots arms) (block_slots last) y (arm_has arms b y (subst (λ l. among_arms l b) (items_shown-the_row-KArm-0 k arms) o) c)
part_has (If' k arms last) b y (inr e) c = Contains-append_right (arms_slots arms) (block_slots last) y (subst (λ (z : KBlock). Contains (block_slots z) y) (sym e) c)
part_has st b y o c = elim o [ ]

module _ (offset width frame : ℕ → ℕ) where
  arm_sized : {n : _} (rows : Row_of-KArm n) (b : KBlock) → among_arms (items-the_row-KArm n rows) b → ArmsSized offset width frame rows → BlockSized offset width frame b
  unfolding ArmsSized out-KArm Carrier.out
  arm_sized end_of-KArm b o h = elim o [ ]
  arm_sized (more_of-KArm (KArm' c q) rest) b (inl e) h = subst (BlockSized offset width frame) e h.0
  arm_sized (more_of-KArm (KArm' c q) rest) b (inr o) h = arm_sized rest b o h.1

  pub part_sized : (st : KStmt) (b : KBlock) → opens_part (out-KStmt st) b → StmtSized offset width frame st → BlockSized offset width frame b
  unfolding StmtSized out-KStmt Carrier.out
  part_sized (Do t c) b o h = subst (BlockSized offset width frame) o h
  part_sized (If' k arms last) b (inl o) h = arm_sized arms b (subst (λ l. among_arms l b) (items_shown-the_row-KArm-0 k arms) o) h.0
  part_sized (If' k arms last) b (inr e) h = subst (BlockSized offset width frame) e h.1
  part_sized st b o h = elim o [ ]

-- ---- loops

is_loop : (st : KStmt) (k : KLoop) (b : KBlock) → out-KStmt st ≡ KStmt-F.Loop k b → st ≡ Loop k b
unfolding out-KStmt Carrier.out
is_loop (Loop j c) k b e =
    ap (λ l. elim l as (λ _. KStmt) [ KStmt-F.Loop i d ↦ Loop i d | _ ↦ Loop j c ]) e
is_loop st k b e = absurd (cc)

pub loop_is : (st : KStmt) (k : KLoop) (b : KBlock) → out-KStmt st ≡ KStmt-F.Loop k b → st ≡ Loop k b
loop_is st k b e = is_loop st k b e

pub turn_together : (x y : ℕ) (k : KLoop) (b : KBlock) → BlockTogether x y b → StmtTogether x y (Loop k b)
unfolding StmtTogether
turn_together x y k b h = inr h

pub hidden_together : (x y : ℕ) (k : KLoop) (b : KBlock) → Contains (loop_slots k) x → Contains (loop_slots k ++ block_slots b) y → StmtTogether x y (Loop k b)
unfolding StmtTogether
hidden_together x y k b c d = inl (inl (c, d))

pub turn_slots : (k : KLoop) (b : KBlock) → stmt_slots (Loop k b) ≡ loop_slots k ++ block_slots b
unfolding stmt_slots
turn_slots k b = refl

pub turn_sized : (offset width frame : ℕ → ℕ) (k : KLoop) (b : KBlock) → StmtSized offset width frame (Loop k b) → TurnsSized offset width frame k × BlockSized offset width frame b
unfolding StmtSized
turn_sized offset width frame k b h = (h.0, h.1)
