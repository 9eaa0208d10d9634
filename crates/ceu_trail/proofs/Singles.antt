-- Parts of a program of one trail are of such a program, without finalizers and pools.
use Rattle.std.proofs.Common.{◌≡◌, refl, sym, ap, ◌∙◌, subst, inl, inr, ℕ, ◌+◌, Bool, true, List, [], ◌∷◌, ◌++◌, Some, arith}
use Rattle.std.specs.Prelude.{◌&&◌}
use Rattle.std.proofs.lemmas.Bool.{and_parts, false≢true}
use Rattle.std.specs.List.{list_all}
use Rattle.ceu_tree.specs.declared.kernel.Kernel.{Kernel}
use Rattle.ceu_tree.specs.declared.kernel.KCode.{KCode}
use Rattle.ceu_tree.specs.declared.kernel.KDecl.{KDecl}
use Rattle.ceu_tree.specs.declared.kernel.KKind.{KKind}
use Rattle.ceu_tree.specs.declared.kernel.KKind.TheVariants as kind
use Rattle.ceu_tree.specs.declared.kernel.KNode.{KNode}
use Rattle.ceu_tree.specs.declared.kernel.KArm.{KArm', out-KArm}
use Rattle.ceu_tree.specs.declared.kernel.KBlock.{KBlock, KBlock', out-KBlock, Row_of-KNode, end_of-KNode, more_of-KNode, items-the_row-KNode, items_shown-the_row-KNode-2}
use Rattle.ceu_tree.specs.declared.kernel.KStmt.{KStmt, out-KStmt, Row_of-KArm, end_of-KArm, more_of-KArm, items-the_row-KArm, items_shown-the_row-KArm-0, Finalize, Do, If'}
use Rattle.ceu_tree.specs.Leaf.{code_at}
use Rattle.ceu_tree.specs.Needs.{finalizers, nodes_finalizers}
use Rattle.laws_meaning_basics.specs.Shape.{among_arms, opens_part}
use Rattle.ceu_shape.specs.Plans.{Plan}
use Rattle.ceu_shape.specs.Shape.{pool_gates, pools_gates, pool_line, pool_lines, own_gates, move_lines, block_begin, abort_own, block_end}
use Rattle.ceu_single.specs.Single.{is_variable, is_variable_decl, stmt_single, block_single, nodes_single, arms_single, has_no_code, Single}
use denote.Hole.Carrier

pub last_holds : (x y : Bool) → (x && y) ≡ true → y ≡ true
last_holds x y h = (and_parts x y h).1

pub first_holds : (x y : Bool) → (x && y) ≡ true → x ≡ true
first_holds x y h = (and_parts x y h).0

-- ---- the whole program

codes_none : (cs : List KCode) → has_no_code cs ≡ true → cs ≡ []
codes_none [] h = refl
codes_none (c ∷ cs) h = absurd (false≢true h)

pub no_code : (K : Kernel) → Single K → K.codes ≡ []
no_code K s = codes_none K.codes (first_holds (has_no_code K.codes) (block_single K.body) s)

pub body_single : (K : Kernel) → Single K → block_single K.body ≡ true
body_single K s = last_holds (has_no_code K.codes) (block_single K.body) s

pub no_code_at : {A : Type 0} (K : Kernel) (c : ℕ) (k : KCode) → Single K → code_at c K.codes ≡ Some k → A
no_code_at K c k s e = absurd (let z : code_at c [] ≡ Some k = subst (λ cs. code_at c cs ≡ Some k) (no_code K s) e in cc)

-- ---- the statements of a block

abbrev pub AllSingle : List KNode → Type 0
AllSingle [] = Unit {0}
AllSingle (s ∷ ss) = (stmt_single s.stmt ≡ true) × AllSingle ss

row_single : {n : _} (rows : Row_of-KNode n) → nodes_single rows ≡ true → AllSingle (items-the_row-KNode n rows)
unfolding stmt_single
row_single end_of-KNode h = tt
row_single (more_of-KNode n p s rest) h = (first_holds (stmt_single s) (nodes_single rest) h, row_single rest (last_holds (stmt_single s) (nodes_single rest) h))

pub list_single : (b : KBlock) → block_single b ≡ true → AllSingle (out-KBlock b).list
unfolding stmt_single out-KBlock Carrier.out
list_single (KBlock' n ds x list) h = subst AllSingle (sym (items_shown-the_row-KNode-2 x list)) (row_single list (last_holds (list_all is_variable_decl ds) (nodes_single list) h))

pub among_single : (done : List KNode) (s : KNode) (rest : List KNode) → AllSingle (done ++ s ∷ rest) → stmt_single s.stmt ≡ true
among_single [] s rest h = h.0
among_single (x ∷ done) s rest h = among_single done s rest h.1

-- ---- the blocks of a statement

row_arms : {n : _} (rows : Row_of-KArm n) (b : KBlock) → arms_single rows ≡ true → among_arms (items-the_row-KArm n rows) b → block_single b ≡ true
unfolding stmt_single out-KArm Carrier.out
row_arms end_of-KArm b h a = absurd a
row_arms (more_of-KArm (KArm' c x) rest) b h (inl e) = subst (λ y. block_single y ≡ true) e (first_holds (block_single x) (arms_single rest) h)
row_arms (more_of-KArm (KArm' c x) rest) b h (inr a) = row_arms rest b (last_holds (block_single x) (arms_single rest) h) a

pub part_single : (s : KStmt) (b : KBlock) → stmt_single s ≡ true → opens_part (out-KStmt s) b → block_single b ≡ true
unfolding stmt_single out-KStmt Carrier.out
part_single (Do t c) b h e = subst (λ y. block_single y ≡ true) e h
part_single (If' x arms last) b h (inl a) = row_arms arms b (first_holds (arms_single arms) (block_single last) h) (subst (λ l. among_arms l b) (items_shown-the_row-KArm-0 x arms) a)
part_single (If' x arms last) b h (inr e) = subst (λ y. block_single y ≡ true) e (last_holds (arms_single arms) (block_single last) h)
part_single s b h e = absurd e

-- ---- neither finalizers nor pools

pub stmt_plain : (s : KStmt) → stmt_single s ≡ true → finalizers s ≡ 0
unfolding stmt_single
stmt_plain (Finalize b) h = absurd (false≢true h)
stmt_plain s h = refl

pub no_finalizers : {n : _} (rows : Row_of-KNode n) → nodes_single rows ≡ true → nodes_finalizers rows ≡ 0
unfolding stmt_single nodes_finalizers
no_finalizers end_of-KNode h = refl
no_finalizers (more_of-KNode n p s rest) h =
    let a = stmt_plain s (first_holds (stmt_single s) (nodes_single rest) h) in
    let b = no_finalizers rest (last_holds (stmt_single s) (nodes_single rest) h) in omega (arith, a, b)

module _ (P : Plan) (K : Kernel) where
  kind_plain : (k : KKind) → is_variable k ≡ true → pool_gates P K k ≡ 0
  kind_plain (kind.Var t) h = refl
  kind_plain k h = absurd (false≢true h)

  no_pools : (ds : List KDecl) → list_all is_variable_decl ds ≡ true → pools_gates P K ds ≡ 0
  no_pools [] h = refl
  no_pools (d ∷ ds) h =
      let a = kind_plain d.kind (first_holds (is_variable d.kind) (list_all is_variable_decl ds) h) in
      let b = no_pools ds (last_holds (is_variable d.kind) (list_all is_variable_decl ds) h) in omega (arith, a, b)

  kind_lines : (first slot : ℕ) (k : KKind) → is_variable k ≡ true → pool_line P K first slot k ≡ []
  kind_lines first slot (kind.Var t) h = refl
  kind_lines first slot k h = absurd (false≢true h)

  no_lines : (first : ℕ) (ds : List KDecl) → list_all is_variable_decl ds ≡ true → pool_lines P K first ds ≡ []
  no_lines first [] h = refl
  no_lines first (d ∷ ds) h =
      ap (λ l. l ++ pool_lines P K (first + pool_gates P K d.kind) ds) (kind_lines first d.slot d.kind (first_holds (is_variable d.kind) (list_all is_variable_decl ds) h))
      ∙ no_lines (first + pool_gates P K d.kind) ds (last_holds (is_variable d.kind) (list_all is_variable_decl ds) h)

  own_none : {m : _} (ds : List KDecl) (list : Row_of-KNode m) → (list_all is_variable_decl ds && nodes_single list) ≡ true → own_gates P K (nodes_finalizers list) ds ≡ 0
  own_none ds list h =
      let a = no_finalizers list (last_holds (list_all is_variable_decl ds) (nodes_single list) h) in
      let b = no_pools ds (first_holds (list_all is_variable_decl ds) (nodes_single list) h) in omega (arith, a, b)

  pub begin_empty : {m : _} (n : ℕ) (ds : List KDecl) (list : Row_of-KNode m) → (list_all is_variable_decl ds && nodes_single list) ≡ true → block_begin P K n ds list ≡ []
  begin_empty n ds list h =
      ap (λ g. move_lines P K n g list ++ pool_lines P K (P.first n + nodes_finalizers list) ds) (own_none ds list h)
      ∙ no_lines (P.first n + nodes_finalizers list) ds (first_holds (list_all is_variable_decl ds) (nodes_single list) h)

  pub end_empty : {m : _} (n : ℕ) (ds : List KDecl) (list : Row_of-KNode m) → (list_all is_variable_decl ds && nodes_single list) ≡ true → block_end P K n ds list ≡ []
  end_empty n ds list h = ap (abort_own P K n) (own_none ds list h)
