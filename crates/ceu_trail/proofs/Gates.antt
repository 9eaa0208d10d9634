-- The gates of the parts of a program of one trail.
use Rattle.std.proofs.Common.{◌≡◌, refl, sym, ap, ◌∙◌, subst, inl, inr, ◌≤◌, ℕ, ◌+◌, true, List, [], ◌∷◌, ◌++◌, arith}
use Rattle.std.proofs.lemmas.Bool.{false≢true}
use Rattle.std.specs.List.{list_all}
use Rattle.ceu_tree.specs.declared.kernel.Kernel.{Kernel}
use Rattle.ceu_tree.specs.declared.kernel.KDecl.{KDecl}
use Rattle.ceu_tree.specs.declared.kernel.KKind.{KKind}
use Rattle.ceu_tree.specs.declared.kernel.KKind.TheVariants as kind
use Rattle.ceu_tree.specs.declared.kernel.KLoop.{KLoop}
use Rattle.ceu_tree.specs.declared.kernel.KNode.{KNode}
use Rattle.ceu_tree.specs.declared.kernel.KArm.{KArm', out-KArm}
use Rattle.ceu_tree.specs.declared.kernel.KBlock.{KBlock, KBlock', out-KBlock, Row_of-KNode, end_of-KNode, more_of-KNode, items-the_row-KNode, items_shown-the_row-KNode-2}
use Rattle.ceu_tree.specs.declared.kernel.KStmt.{KStmt, out-KStmt, Row_of-KArm, end_of-KArm, more_of-KArm, items-the_row-KArm, items_shown-the_row-KArm-0, AwaitCode, Finalize, Do, If', Loop, Par'}
use Rattle.ceu_tree.specs.declared.kernel.KStmt.TheOpen.{KStmt-F}
use Rattle.ceu_tree.specs.Greatest.{greatest}
use Rattle.ceu_tree.specs.Needs.{finalizers, nodes_finalizers, pool_gates, pools_gates, stmt_gates, block_gates, arms_gates, node_gates}
use Rattle.ceu_tree.specs.Focus.{Frame}
use Rattle.ceu_tree.proofs.GateLaws.{gates_of_block}
use Rattle.ceu_gates.specs.declared.ranges.GateRange.{GateRange}
use Rattle.ceu_gates.specs.Ranges.{range, starts, stmt_ranges, block_ranges, nodes_ranges, arms_ranges, node_ranges}
use Rattle.laws_meaning_basics.specs.Shape.{Part, ABlock, AStatement, AnEnd, among_arms, opens_part, FrameFits, around_statement, around_end, around_instance, around_part, around_turn, around_call, around_branch}
use Rattle.ceu_shape.specs.Searches.{node_of_block}
use Rattle.ceu_single.specs.Single.{is_variable, is_variable_decl, stmt_single, block_single, nodes_single, Single}
use Rattle.ceu_trail.specs.Parts.{PartSingle}
use Rattle.ceu_trail.proofs.Cuts.{Cut, cut_all, cut_is, cut_left, cut_right}
use Rattle.ceu_trail.proofs.Singles.{last_holds, first_holds, no_code_at, no_finalizers}
use Rattle.ceu_trail.proofs.Codes.{no_par}
use denote.Hole.Carrier

module _ (G : List ℕ) where
  -- ---- the ranges of a part within those of the part around it

  abbrev pub part_ranges : Part → List GateRange
  part_ranges (ABlock turn sc b) = block_ranges G 0 b
  part_ranges (AStatement sc s) = node_ranges G 0 s
  part_ranges AnEnd = []

  abbrev pub each_range : List KNode → List GateRange
  each_range [] = []
  each_range (s ∷ ss) = node_ranges G 0 s ++ each_range ss

  starts_there : (f : ℕ) (s : KStmt) → stmt_single s ≡ true → starts f 0 s ≡ 0
  unfolding stmt_single
  starts_there f (Finalize b) h = absurd (false≢true h)
  starts_there f s h = refl

  row_ranges : {n : _} (f : ℕ) (rows : Row_of-KNode n) → nodes_single rows ≡ true → nodes_ranges G f 0 rows ≡ each_range (items-the_row-KNode n rows)
  unfolding stmt_single stmt_ranges
  row_ranges f end_of-KNode h = refl
  row_ranges f (more_of-KNode n p s rest) h =
      ap (λ k. range n k (stmt_gates G s) ∷ (stmt_ranges G k s ++ nodes_ranges G (f + finalizers s) 0 rest)) (starts_there f s (first_holds (stmt_single s) (nodes_single rest) h))
      ∙ ap (λ l. range n 0 (stmt_gates G s) ∷ (stmt_ranges G 0 s ++ l)) (row_ranges (f + finalizers s) rest (last_holds (stmt_single s) (nodes_single rest) h))

  kind_plain : (k : KKind) → is_variable k ≡ true → pool_gates G k ≡ 0
  kind_plain (kind.Var t) h = refl
  kind_plain k h = absurd (false≢true h)

  no_pools : (ds : List KDecl) → list_all is_variable_decl ds ≡ true → pools_gates G ds ≡ 0
  no_pools [] h = refl
  no_pools (d ∷ ds) h =
      let a = kind_plain d.kind (first_holds (is_variable d.kind) (list_all is_variable_decl ds) h) in
      let b = no_pools ds (last_holds (is_variable d.kind) (list_all is_variable_decl ds) h) in omega (arith, a, b)

  pub block_ranges_are : (b : KBlock) → block_single b ≡ true → block_ranges G 0 b ≡ range (node_of_block b) 0 (block_gates G b) ∷ each_range (out-KBlock b).list
  unfolding stmt_single stmt_ranges out-KBlock Carrier.out
  block_ranges_are (KBlock' n ds x list) h =
      let f = no_finalizers list (last_holds (list_all is_variable_decl ds) (nodes_single list) h) in
      let p = no_pools ds (first_holds (list_all is_variable_decl ds) (nodes_single list) h) in
      let none : 0 + (nodes_finalizers list + pools_gates G ds) ≡ 0 = omega (arith, f, p) in
      ap (λ k. range n 0 (block_gates G (KBlock' n ds x list)) ∷ nodes_ranges G 0 k list) none
      ∙ ap (λ l. range n 0 (block_gates G (KBlock' n ds x list)) ∷ l) (row_ranges 0 list (last_holds (list_all is_variable_decl ds) (nodes_single list) h) ∙ ap each_range (sym (items_shown-the_row-KNode-2 x list)))

  list_cut : (done : List KNode) (s : KNode) (rest : List KNode) → Cut (each_range (done ++ s ∷ rest)) (node_ranges G 0 s)
  list_cut [] s rest = cut_left (node_ranges G 0 s) (each_range rest) (node_ranges G 0 s) (cut_all (node_ranges G 0 s))
  list_cut (x ∷ done) s rest = cut_right (node_ranges G 0 x) (each_range (done ++ s ∷ rest)) (node_ranges G 0 s) (list_cut done s rest)

  block_cut : (b : KBlock) (done : List KNode) (s : KNode) (rest : List KNode) → block_single b ≡ true → (out-KBlock b).list ≡ done ++ s ∷ rest → Cut (block_ranges G 0 b) (node_ranges G 0 s)
  block_cut b done s rest h e =
      cut_is (block_ranges G 0 b) ((range (node_of_block b) 0 (block_gates G b) ∷ []) ++ each_range (done ++ s ∷ rest)) (node_ranges G 0 s)
      (block_ranges_are b h ∙ ap (λ l. range (node_of_block b) 0 (block_gates G b) ∷ each_range l) e)
      (cut_right (range (node_of_block b) 0 (block_gates G b) ∷ []) (each_range (done ++ s ∷ rest)) (node_ranges G 0 s) (list_cut done s rest))

  same_block : (a b : KBlock) → a ≡ b → Cut (block_ranges G 0 a) (block_ranges G 0 b)
  same_block a b e = subst (λ c. Cut (block_ranges G 0 a) (block_ranges G 0 c)) e (cut_all (block_ranges G 0 a))

  arms_cut : {n : _} (rows : Row_of-KArm n) (b : KBlock) → among_arms (items-the_row-KArm n rows) b → Cut (arms_ranges G 0 rows) (block_ranges G 0 b)
  unfolding stmt_ranges out-KArm Carrier.out
  arms_cut end_of-KArm b a = absurd a
  arms_cut (more_of-KArm (KArm' c x) rest) b (inl e) = cut_left (block_ranges G 0 x) (arms_ranges G 0 rest) (block_ranges G 0 b) (same_block x b e)
  arms_cut (more_of-KArm (KArm' c x) rest) b (inr a) = cut_right (block_ranges G 0 x) (arms_ranges G 0 rest) (block_ranges G 0 b) (arms_cut rest b a)

  opens_cut : (s : KStmt) (b : KBlock) → opens_part (out-KStmt s) b → Cut (stmt_ranges G 0 s) (block_ranges G 0 b)
  unfolding stmt_ranges out-KStmt Carrier.out
  opens_cut (Do t c) b e = same_block c b e
  opens_cut (If' x arms last) b (inl a) = cut_left (arms_ranges G 0 arms) (block_ranges G 0 last) (block_ranges G 0 b) (arms_cut arms b (subst (λ l. among_arms l b) (items_shown-the_row-KArm-0 x arms) a))
  opens_cut (If' x arms last) b (inr e) = cut_right (arms_ranges G 0 arms) (block_ranges G 0 last) (block_ranges G 0 b) (same_block last b e)
  opens_cut s b e = absurd e

  turns_cut : (s : KStmt) (k : KLoop) (b : KBlock) → out-KStmt s ≡ KStmt-F.Loop k b → Cut (stmt_ranges G 0 s) (block_ranges G 0 b)
  unfolding stmt_ranges out-KStmt Carrier.out
  turns_cut (Loop j c) k b e = same_block c b (ap (λ l. elim l as (λ _. KBlock) [ KStmt-F.Loop i d ↦ d | _ ↦ c ]) e)
  turns_cut s k b e = absurd (cc)

  inner_cut : (s : KNode) (b : KBlock) → Cut (stmt_ranges G 0 s.stmt) (block_ranges G 0 b) → Cut (node_ranges G 0 s) (block_ranges G 0 b)
  inner_cut s b c = cut_right (range s.node 0 (stmt_gates G s.stmt) ∷ []) (stmt_ranges G 0 s.stmt) (block_ranges G 0 b) c

  pub frame_ranges : (K : Kernel) (top : ℕ) (fr : Frame) (d e : Part) → Single K → FrameFits K top fr d e → PartSingle d → Cut (part_ranges d) (part_ranges e)
  frame_ranges K top fr d e single (around_statement {b = b} {rest = rest} {s = s} done is fin all) h = block_cut b done s rest h is
  frame_ranges K top fr d e single (around_end {b = b} fin all) h = record { before = []; after = block_ranges G 0 b; is = refl }
  frame_ranges K top fr d e single (around_instance {seat = seat} done k is fin fit before after trail code) h = no_code_at K seat.code k single code
  frame_ranges K top fr d e single (around_part {s = s} b o) h = inner_cut s b (opens_cut s.stmt b o)
  frame_ranges K top fr d e single (around_turn {s = s} k b is counts) h = inner_cut s b (turns_cut s.stmt k b is)
  frame_ranges K top fr d e single (around_call c es f t k is code) h = no_code_at K c k single code
  frame_ranges K top fr d e single (around_branch {s = s} k slot bs b cs is before after) h = no_par s.stmt k slot (bs ++ b ∷ cs) is h

  -- ---- their numbers

  abbrev pub needed : Part → ℕ
  needed (ABlock turn sc b) = block_gates G b
  needed (AStatement sc s) = stmt_gates G s.stmt
  needed AnEnd = 0

  among_gates : (done : List KNode) (s : KNode) (rest : List KNode) → stmt_gates G s.stmt ≤ greatest (node_gates G) (done ++ s ∷ rest)
  among_gates [] s rest = omega arith
  among_gates (x ∷ done) s rest = let h = among_gates done s rest in omega (arith, h)

  block_needs : (b : KBlock) (done : List KNode) (s : KNode) (rest : List KNode) → (out-KBlock b).list ≡ done ++ s ∷ rest → stmt_gates G s.stmt ≤ block_gates G b
  block_needs b done s rest e =
      let h : stmt_gates G s.stmt ≤ greatest (node_gates G) (out-KBlock b).list = subst (λ l. stmt_gates G s.stmt ≤ greatest (node_gates G) l) (sym e) (among_gates done s rest) in
      omega (arith, gates_of_block G b, h)

  pub block_some : (b : KBlock) → 1 ≤ block_gates G b
  block_some b = omega (arith, gates_of_block G b)

  arms_needs : {n : _} (rows : Row_of-KArm n) (b : KBlock) → among_arms (items-the_row-KArm n rows) b → block_gates G b ≤ arms_gates G rows
  unfolding stmt_gates out-KArm Carrier.out
  arms_needs end_of-KArm b a = absurd a
  arms_needs (more_of-KArm (KArm' c x) rest) b (inl e) = let h : block_gates G x ≡ block_gates G b = ap (block_gates G) e in omega (arith, h)
  arms_needs (more_of-KArm (KArm' c x) rest) b (inr a) = let h = arms_needs rest b a in omega (arith, h)

  opens_needs : (s : KStmt) (b : KBlock) → opens_part (out-KStmt s) b → block_gates G b ≤ stmt_gates G s
  unfolding stmt_gates out-KStmt Carrier.out
  opens_needs (Do t c) b e = let h : block_gates G c ≡ block_gates G b = ap (block_gates G) e in omega (arith, h)
  opens_needs (If' x arms last) b (inl a) = let h = arms_needs arms b (subst (λ l. among_arms l b) (items_shown-the_row-KArm-0 x arms) a) in omega (arith, h)
  opens_needs (If' x arms last) b (inr e) = let h : block_gates G last ≡ block_gates G b = ap (block_gates G) e in omega (arith, h)
  opens_needs s b e = absurd e

  turns_needs : (s : KStmt) (k : KLoop) (b : KBlock) → out-KStmt s ≡ KStmt-F.Loop k b → block_gates G b ≤ stmt_gates G s
  unfolding stmt_gates out-KStmt Carrier.out
  turns_needs (Loop j c) k b e = let h : block_gates G c ≡ block_gates G b = ap (λ l. block_gates G (elim l as (λ _. KBlock) [ KStmt-F.Loop i d ↦ d | _ ↦ c ])) e in omega (arith, h)
  turns_needs s k b e = absurd (cc)

  pub stmt_some : (s : KStmt) → stmt_single s ≡ true → 1 ≤ stmt_gates G s
  unfolding stmt_gates stmt_single
  stmt_some (AwaitCode c es f t) h = absurd (false≢true h)
  stmt_some (Do t b) h = block_some b
  stmt_some (If' x arms last) h = let m = block_some last in omega (arith, m)
  stmt_some (Loop k b) h = block_some b
  stmt_some (Par' k slot x bs) h = absurd (false≢true h)
  stmt_some s h = omega arith

  pub frame_needs : (K : Kernel) (top : ℕ) (fr : Frame) (d e : Part) → Single K → FrameFits K top fr d e → PartSingle d → needed e ≤ needed d
  frame_needs K top fr d e single (around_statement {b = b} {rest = rest} {s = s} done is fin all) h = block_needs b done s rest is
  frame_needs K top fr d e single (around_end {b = b} fin all) h = omega arith
  frame_needs K top fr d e single (around_instance {seat = seat} done k is fin fit before after trail code) h = no_code_at K seat.code k single code
  frame_needs K top fr d e single (around_part {s = s} b o) h = opens_needs s.stmt b o
  frame_needs K top fr d e single (around_turn {s = s} k b is counts) h = turns_needs s.stmt k b is
  frame_needs K top fr d e single (around_call c es f t k is code) h = no_code_at K c k single code
  frame_needs K top fr d e single (around_branch {s = s} k slot bs b cs is before after) h = no_par s.stmt k slot (bs ++ b ∷ cs) is h
