-- What a part names, its parts name; and what code names by `outer`, as the table of a kernel has it.
use Rattle.std.proofs.Common.{◌≡◌, refl, sym, ap, ◌∙◌, subst, ◌≤◌, ◌<◌, ℕ, zero, suc, ◌+◌, Bool, true, false, if◌then◌else◌, ◌||◌, inl, inr, List, [], ◌∷◌, ◌++◌, length, length-append, Option, Some, None, arith}
use Rattle.std.proofs.lemmas.Bool.{false≢true}
use Rattle.ceu_tree.specs.declared.kernel.Kernel.{Kernel}
use Rattle.ceu_tree.specs.declared.kernel.KCode.{KCode}
use Rattle.ceu_tree.specs.declared.kernel.KLoop.{KLoop}
use Rattle.ceu_tree.specs.declared.kernel.KLoop.TheVariants as turns
use Rattle.ceu_tree.specs.declared.kernel.Loc.{Loc}
use Rattle.ceu_tree.specs.declared.kernel.KExp.{KExp}
use Rattle.ceu_tree.specs.declared.kernel.KExpNode as exp
use Rattle.ceu_tree.specs.declared.kernel.KExpNode.{KExpNode, Row_of-KExp, end_of-KExp, more_of-KExp, One', Two', As'}
use Rattle.ceu_tree.specs.declared.kernel.KNode.{KNode}
use Rattle.ceu_tree.specs.declared.kernel.KArm.{KArm, KArm', out-KArm}
use Rattle.ceu_tree.specs.declared.kernel.KBlock.{KBlock, KBlock', out-KBlock, Row_of-KNode, end_of-KNode, more_of-KNode, items-the_row-KNode, items_shown-the_row-KNode-2}
use Rattle.ceu_tree.specs.declared.kernel.KStmt as kernel
use Rattle.ceu_tree.specs.declared.kernel.KStmt.{KStmt, out-KStmt, If', Par', Row_of-KArm, end_of-KArm, more_of-KArm, Row_of-KBlock, end_of-KBlock, more_of-KBlock, items-the_row-KArm, items-the_row-KBlock, items_shown-the_row-KArm-0, items_shown-the_row-KBlock-1}
use Rattle.ceu_tree.specs.declared.kernel.KStmt.TheOpen.{KStmt-F}
use Rattle.ceu_tree.specs.Leaf.{Layer, code_at}
use Rattle.ceu_tree.specs.Mentions.{named_by, loc_names, own_names, maybe_loc, maybe_own, node_names, operand_names, exp_names, maybe_exp, exps_names, turns_names, stmt_names, block_names, arm_names, list_names, arms_names, blocks_names, outer_names_from, count_of}
use Rattle.laws_meaning_basics.specs.Shape.{among_arms, opens_part}
use Rattle.laws_meaning_values.proofs.Names.{count_append}
use denote.Hole.Carrier

-- ---- parts

module _ (own : Bool) (N : List (List ℕ)) where
  abbrev pub list_all_names : List KNode → List ℕ
  list_all_names [] = []
  list_all_names (s ∷ ss) = stmt_names own N s.stmt ++ list_all_names ss

  abbrev pub blocks_all_names : List KBlock → List ℕ
  blocks_all_names [] = []
  blocks_all_names (b ∷ bs) = block_names own N b ++ blocks_all_names bs

  abbrev pub arms_all_names : List KArm → List ℕ
  arms_all_names [] = []
  arms_all_names (a ∷ arms) = exp_names own N (out-KArm a).cond ++ block_names own N (out-KArm a).body ++ arms_all_names arms

  -- of the statements that open others
  abbrev pub parts_names : Layer → List ℕ
  parts_names (KStmt-F.AwaitCode c es f t) = exps_names own N es ++ maybe_loc own N t ++ named_by c N
  parts_names (KStmt-F.Spawn c es p a) = exps_names own N es ++ maybe_own own N a ++ named_by c N
  parts_names (KStmt-F.Async b) = block_names own N b
  parts_names (KStmt-F.Do t b) = maybe_loc own N t ++ block_names own N b
  parts_names (KStmt-F.If arms last) = arms_all_names arms ++ block_names own N last
  parts_names (KStmt-F.Loop k b) = turns_names own N k ++ block_names own N b
  parts_names (KStmt-F.Par k slot bs) = blocks_all_names bs
  parts_names layer = []

  list_row : {n : _} (rows : Row_of-KNode n) → list_names own N rows ≡ list_all_names (items-the_row-KNode n rows)
  unfolding list_names
  list_row end_of-KNode = refl
  list_row (more_of-KNode n p s rest) = ap (λ x. stmt_names own N s ++ x) (list_row rest)

  blocks_row : {n : _} (rows : Row_of-KBlock n) → blocks_names own N rows ≡ blocks_all_names (items-the_row-KBlock n rows)
  unfolding blocks_names
  blocks_row end_of-KBlock = refl
  blocks_row (more_of-KBlock b rest) = ap (λ x. block_names own N b ++ x) (blocks_row rest)

  arm_is : (a : KArm) → arm_names own N a ≡ exp_names own N (out-KArm a).cond ++ block_names own N (out-KArm a).body
  unfolding arm_names out-KArm Carrier.out
  arm_is (KArm' c b) = refl

  arms_row : {n : _} (rows : Row_of-KArm n) → arms_names own N rows ≡ arms_all_names (items-the_row-KArm n rows)
  unfolding arms_names
  arms_row end_of-KArm = refl
  arms_row (more_of-KArm a rest) = ap (λ x. x ++ arms_names own N rest) (arm_is a) ∙ ap (λ x. exp_names own N (out-KArm a).cond ++ block_names own N (out-KArm a).body ++ x) (arms_row rest)

  block_is : (b : KBlock) → block_names own N b ≡ list_all_names (out-KBlock b).list
  unfolding block_names out-KBlock Carrier.out
  block_is (KBlock' n ds x list) = list_row list ∙ ap list_all_names (sym (items_shown-the_row-KNode-2 x list))

  module _ (x : ℕ) where
    stmt_least : (st : KStmt) → count_of x (parts_names (out-KStmt st)) ≤ count_of x (stmt_names own N st)
    unfolding stmt_names out-KStmt Carrier.out
    stmt_least (If' y arms last) = let e = ap (λ z. count_of x (z ++ block_names own N last)) (arms_row arms ∙ ap arms_all_names (sym (items_shown-the_row-KArm-0 y arms))) in omega (arith, e)
    stmt_least (Par' k slot y bs) = let e = ap (count_of x) (blocks_row bs ∙ ap blocks_all_names (sym (items_shown-the_row-KBlock-1 y bs))) in omega (arith, e)
    stmt_least (kernel.AwaitCode c es f t) = omega arith
    stmt_least (kernel.Spawn c es p a) = omega arith
    stmt_least (kernel.Async b) = omega arith
    stmt_least (kernel.Do t b) = omega arith
    stmt_least (kernel.Loop k b) = omega arith
    stmt_least st = omega arith

    pub part_least : (s : KNode) (layer : Layer) → out-KStmt s.stmt ≡ layer → count_of x (parts_names layer) ≤ count_of x (stmt_names own N s.stmt)
    part_least s layer e = subst (λ l. count_of x (parts_names l) ≤ count_of x (stmt_names own N s.stmt)) e (stmt_least s.stmt)

    listed : (done : List KNode) (s : KNode) (rest : List KNode) → count_of x (stmt_names own N s.stmt) ≤ count_of x (list_all_names (done ++ s ∷ rest))
    listed [] s rest = let a = count_append x (stmt_names own N s.stmt) (list_all_names rest) in omega (arith, a)
    listed (q ∷ done) s rest = let a = listed done s rest in let c = count_append x (stmt_names own N q.stmt) (list_all_names (done ++ s ∷ rest)) in omega (arith, a, c)

    pub in_block : (b : KBlock) (done : List KNode) (s : KNode) (rest : List KNode) → (out-KBlock b).list ≡ done ++ s ∷ rest → count_of x (stmt_names own N s.stmt) ≤ count_of x (block_names own N b)
    in_block b done s rest e = let a = listed done s rest in let c = ap (count_of x) (block_is b ∙ ap list_all_names e) in omega (arith, a, c)

    among : (arms : List KArm) (b : KBlock) → among_arms arms b → count_of x (block_names own N b) ≤ count_of x (arms_all_names arms)
    among [] b h = elim h [ ]
    among (a ∷ arms) b (inl e) =
        subst (λ c. count_of x (block_names own N c) ≤ count_of x (arms_all_names (a ∷ arms))) e
        (let p = count_append x (exp_names own N (out-KArm a).cond) (block_names own N (out-KArm a).body) in let q = count_append x (exp_names own N (out-KArm a).cond ++ block_names own N (out-KArm a).body) (arms_all_names arms) in omega (arith, p, q))
    among (a ∷ arms) b (inr h) =
        let i = among arms b h in let q = count_append x (exp_names own N (out-KArm a).cond ++ block_names own N (out-KArm a).body) (arms_all_names arms) in omega (arith, i, q)

    opens_least : (layer : Layer) (b : KBlock) → opens_part layer b → count_of x (block_names own N b) ≤ count_of x (parts_names layer)
    opens_least (KStmt-F.Do t c) b o = subst (λ d. count_of x (block_names own N d) ≤ count_of x (maybe_loc own N t ++ block_names own N c)) o (let p = count_append x (maybe_loc own N t) (block_names own N c) in omega (arith, p))
    opens_least (KStmt-F.If arms last) b (inl o) = let i = among arms b o in let p = count_append x (arms_all_names arms) (block_names own N last) in omega (arith, i, p)
    opens_least (KStmt-F.If arms last) b (inr o) =
        subst (λ d. count_of x (block_names own N d) ≤ count_of x (arms_all_names arms ++ block_names own N last)) o (let p = count_append x (arms_all_names arms) (block_names own N last) in omega (arith, p))
    opens_least layer b o = elim o [ ]

    pub in_opened : (s : KNode) (b : KBlock) → opens_part (out-KStmt s.stmt) b → count_of x (block_names own N b) ≤ count_of x (stmt_names own N s.stmt)
    in_opened s b o = let a = opens_least (out-KStmt s.stmt) b o in let c = part_least s (out-KStmt s.stmt) refl in omega (arith, a, c)

    pub in_loop : (s : KNode) (k : KLoop) (b : KBlock) → out-KStmt s.stmt ≡ KStmt-F.Loop k b → count_of x (block_names own N b) ≤ count_of x (stmt_names own N s.stmt)
    in_loop s k b e = let a = part_least s (KStmt-F.Loop k b) e in let c = count_append x (turns_names own N k) (block_names own N b) in omega (arith, a, c)

    one_branch : (bs : List KBlock) (b : KBlock) (cs : List KBlock) → count_of x (block_names own N b) ≤ count_of x (blocks_all_names (bs ++ b ∷ cs))
    one_branch [] b cs = let a = count_append x (block_names own N b) (blocks_all_names cs) in omega (arith, a)
    one_branch (q ∷ bs) b cs = let i = one_branch bs b cs in let a = count_append x (block_names own N q) (blocks_all_names (bs ++ b ∷ cs)) in omega (arith, i, a)

    pub in_branches : (s : KNode) (k slot : _) (bs : List KBlock) (b : KBlock) (cs : List KBlock) → out-KStmt s.stmt ≡ KStmt-F.Par k slot (bs ++ b ∷ cs) → count_of x (block_names own N b) ≤ count_of x (stmt_names own N s.stmt)
    in_branches s k slot bs b cs e = let a = part_least s (KStmt-F.Par k slot (bs ++ b ∷ cs)) e in let c = one_branch bs b cs in omega (arith, a, c)

    pub in_awaited : (s : KNode) (c : ℕ) (es f t : _) → out-KStmt s.stmt ≡ KStmt-F.AwaitCode c es f t → count_of x (named_by c N) ≤ count_of x (stmt_names own N s.stmt)
    in_awaited s c es f t e = let a = part_least s (KStmt-F.AwaitCode c es f t) e in let p = count_append x (exps_names own N es) (maybe_loc own N t) in let q = count_append x (exps_names own N es ++ maybe_loc own N t) (named_by c N) in omega (arith, a, p, q)

    pub in_spawned : (s : KNode) (c : ℕ) (es p a : _) → out-KStmt s.stmt ≡ KStmt-F.Spawn c es p a → count_of x (named_by c N) ≤ count_of x (stmt_names own N s.stmt)
    in_spawned s c es p a e = let z = part_least s (KStmt-F.Spawn c es p a) e in let u = count_append x (exps_names own N es) (maybe_own own N a) in let q = count_append x (exps_names own N es ++ maybe_own own N a) (named_by c N) in omega (arith, z, u, q)

-- ---- fewer names: those by `outer` alone, or without those of code

module _ (x : ℕ) (o p : Bool) (T U : List (List ℕ)) (le : o ≡ true → p ≡ true) (ts : (k : ℕ) → count_of x (named_by k T) ≤ count_of x (named_by k U)) where
  loc_less : (l : Loc) → count_of x (loc_names o T l) ≤ count_of x (loc_names p U l)
  loc_less l = go o p l.outer le
    where
      go : (a b d : Bool) → (a ≡ true → b ≡ true) → count_of x (if a || d then l.slot ∷ [] else []) ≤ count_of x (if b || d then l.slot ∷ [] else [])
      go true true d h = omega arith
      go true false d h = absurd (false≢true (h refl))
      go false true true h = omega arith
      go false false d h = omega arith
      go false true false h = omega arith

  own_less : (slot : ℕ) → count_of x (own_names o T slot) ≤ count_of x (own_names p U slot)
  own_less slot = go o p le
    where
      go : (a b : Bool) → (a ≡ true → b ≡ true) → count_of x (if a then slot ∷ [] else []) ≤ count_of x (if b then slot ∷ [] else [])
      go true true h = omega arith
      go true false h = absurd (false≢true (h refl))
      go false b h = omega arith

  pub maybe_loc_less : (t : Option Loc) → count_of x (maybe_loc o T t) ≤ count_of x (maybe_loc p U t)
  maybe_loc_less None = omega arith
  maybe_loc_less (Some l) = loc_less l

  maybe_own_less : (t : Option ℕ) → count_of x (maybe_own o T t) ≤ count_of x (maybe_own p U t)
  maybe_own_less None = omega arith
  maybe_own_less (Some y) = own_less y

  sum_less : (a b c d : List ℕ) → count_of x a ≤ count_of x c → count_of x b ≤ count_of x d → count_of x (a ++ b) ≤ count_of x (c ++ d)
  sum_less a b c d h k = let u = count_append x a b in let v = count_append x c d in omega (arith, u, v, h, k)

  mutual
    unfolding node_names operand_names

    node_less : (e : KExpNode) → count_of x (node_names o T e) ≤ count_of x (node_names p U e)
    node_less (exp.Const v) = omega arith
    node_less (exp.Read l) = loc_less l
    node_less (exp.Alive c) = own_less c
    node_less (One' op y a) = operand_less a
    node_less (Two' op y a z b) = sum_less (operand_names o T a) (operand_names o T b) (operand_names p U a) (operand_names p U b) (operand_less a) (operand_less b)
    node_less (As' y a) = operand_less a

    operand_less : {n : _} (r : Row_of-KExp n) → count_of x (operand_names o T r) ≤ count_of x (operand_names p U r)
    operand_less end_of-KExp = omega arith
    operand_less (more_of-KExp t q e rest) = node_less e

  pub exp_less : (e : KExp) → count_of x (exp_names o T e) ≤ count_of x (exp_names p U e)
  exp_less e = node_less e.node

  maybe_exp_less : (e : Option KExp) → count_of x (maybe_exp o T e) ≤ count_of x (maybe_exp p U e)
  maybe_exp_less None = omega arith
  maybe_exp_less (Some e) = exp_less e

  pub exps_less : (es : List KExp) → count_of x (exps_names o T es) ≤ count_of x (exps_names p U es)
  exps_less [] = omega arith
  exps_less (e ∷ es) = sum_less (exp_names o T e) (exps_names o T es) (exp_names p U e) (exps_names p U es) (exp_less e) (exps_less es)

  turns_less : (k : KLoop) → count_of x (turns_names o T k) ≤ count_of x (turns_names p U k)
  turns_less (turns.Range i next end open_a a b open_b) = sum_less (exp_names o T a) (exp_names o T b) (exp_names p U a) (exp_names p U b) (exp_less a) (exp_less b)
  turns_less turns.Free = omega arith
  turns_less (turns.Times slot n) = omega arith

  mutual
    unfolding stmt_names block_names arm_names list_names arms_names blocks_names

    pub stmt_less : (st : KStmt) → count_of x (stmt_names o T st) ≤ count_of x (stmt_names p U st)
    stmt_less (kernel.Assign l e) = sum_less (loc_names o T l) (exp_names o T e) (loc_names p U l) (exp_names p U e) (loc_less l) (exp_less e)
    stmt_less (kernel.Out k e) = maybe_exp_less e
    stmt_less (kernel.Emit k e) = maybe_exp_less e
    stmt_less (kernel.AwaitIn k t) = maybe_loc_less t
    stmt_less (kernel.AwaitTime e u t) = sum_less (exp_names o T e) (maybe_loc o T t) (exp_names p U e) (maybe_loc p U t) (exp_less e) (maybe_loc_less t)
    stmt_less (kernel.AwaitEvent e t) = maybe_loc_less t
    stmt_less (kernel.AwaitCode c es f t) =
        sum_less (exps_names o T es ++ maybe_loc o T t) (named_by c T) (exps_names p U es ++ maybe_loc p U t) (named_by c U) (sum_less (exps_names o T es) (maybe_loc o T t) (exps_names p U es) (maybe_loc p U t) (exps_less es) (maybe_loc_less t)) (ts c)
    stmt_less (kernel.Spawn c es q a) =
        sum_less (exps_names o T es ++ maybe_own o T a) (named_by c T) (exps_names p U es ++ maybe_own p U a) (named_by c U) (sum_less (exps_names o T es) (maybe_own o T a) (exps_names p U es) (maybe_own p U a) (exps_less es) (maybe_own_less a)) (ts c)
    stmt_less (kernel.Kill c) = own_less c
    stmt_less (kernel.Unset c) = own_less c
    stmt_less (kernel.Async b) = block_less b
    stmt_less (kernel.Finalize b) = block_less b
    stmt_less (kernel.Do t b) = sum_less (maybe_loc o T t) (block_names o T b) (maybe_loc p U t) (block_names p U b) (maybe_loc_less t) (block_less b)
    stmt_less (kernel.Escape n e) = maybe_exp_less e
    stmt_less (If' y arms last) = sum_less (arms_names o T arms) (block_names o T last) (arms_names p U arms) (block_names p U last) (arms_less arms) (block_less last)
    stmt_less (kernel.Loop k b) = sum_less (turns_names o T k) (block_names o T b) (turns_names p U k) (block_names p U b) (turns_less k) (block_less b)
    stmt_less (Par' k slot y bs) = blocks_less bs
    stmt_less kernel.Nothing = omega arith
    stmt_less kernel.Forever = omega arith
    stmt_less (kernel.Break n) = omega arith
    stmt_less (kernel.Continue n) = omega arith

    pub block_less : (b : KBlock) → count_of x (block_names o T b) ≤ count_of x (block_names p U b)
    block_less (KBlock' n ds y list) = list_less list

    arm_less : (a : KArm) → count_of x (arm_names o T a) ≤ count_of x (arm_names p U a)
    arm_less (KArm' c b) = sum_less (exp_names o T c) (block_names o T b) (exp_names p U c) (block_names p U b) (exp_less c) (block_less b)

    pub list_less : {n : _} (r : Row_of-KNode n) → count_of x (list_names o T r) ≤ count_of x (list_names p U r)
    list_less end_of-KNode = omega arith
    list_less (more_of-KNode n q s rest) = sum_less (stmt_names o T s) (list_names o T rest) (stmt_names p U s) (list_names p U rest) (stmt_less s) (list_less rest)

    arms_less : {n : _} (r : Row_of-KArm n) → count_of x (arms_names o T r) ≤ count_of x (arms_names p U r)
    arms_less end_of-KArm = omega arith
    arms_less (more_of-KArm a rest) = sum_less (arm_names o T a) (arms_names o T rest) (arm_names p U a) (arms_names p U rest) (arm_less a) (arms_less rest)

    blocks_less : {n : _} (r : Row_of-KBlock n) → count_of x (blocks_names o T r) ≤ count_of x (blocks_names p U r)
    blocks_less end_of-KBlock = omega arith
    blocks_less (more_of-KBlock b rest) = sum_less (block_names o T b) (blocks_names o T rest) (block_names p U b) (blocks_names p U rest) (block_less b) (blocks_less rest)

-- ---- the table of a kernel: each code's names are told by those of the codes above it

abbrev pub entries : ℕ → List (List ℕ) → List KCode → List (List ℕ)
entries zero T cs = T
entries (suc n) T [] = T
entries (suc n) T (c ∷ cs) = entries n (T ++ block_names false T c.body ∷ []) cs

named_first : (j : ℕ) (T U : List (List ℕ)) → j < length T → named_by j (T ++ U) ≡ named_by j T
named_first j [] U l = absurd (omega (arith, l))
named_first zero (t ∷ T) U l = refl
named_first (suc j) (t ∷ T) U l = named_first j T U (omega (arith, l))

named_last : (T : List (List ℕ)) (e : List ℕ) → named_by (length T) (T ++ e ∷ []) ≡ e
named_last [] e = refl
named_last (t ∷ T) e = named_last T e

later_same : (j : ℕ) (T : List (List ℕ)) (cs : List KCode) → j < length T → named_by j (outer_names_from T cs) ≡ named_by j T
later_same j T [] l = refl
later_same j T (c ∷ cs) l =
    let e = block_names false T c.body in
    later_same j (T ++ e ∷ []) cs (let a = length-append T (e ∷ []) in omega (arith, a, l)) ∙ named_first j T (e ∷ []) l

entry_named : (n : ℕ) (T : List (List ℕ)) (cs : List KCode) (k : KCode) → code_at n cs ≡ Some k → (j : ℕ) → j ≡ length T + n → named_by j (outer_names_from T cs) ≡ block_names false (entries n T cs) k.body
entry_named n T [] k h j q = absurd (cc)
entry_named zero T (c ∷ cs) k h j q =
    let e = block_names false T c.body in
    let same : c ≡ k = ap (λ o. elim o [ None ↦ c | Some y ↦ y ]) h in
    let at : j ≡ length T = omega (arith, q) in
    later_same j (T ++ e ∷ []) cs (let a = length-append T (e ∷ []) in omega (arith, a, at)) ∙ (ap (λ i. named_by i (T ++ e ∷ [])) at ∙ (named_last T e ∙ ap (λ y. block_names false T y.body) same))
entry_named (suc n) T (c ∷ cs) k h j q =
    let e = block_names false T c.body in
    entry_named n (T ++ e ∷ []) cs k h j (let a = length-append T (e ∷ []) in omega (arith, a, q))

entries_named : (n : ℕ) (T : List (List ℕ)) (cs : List KCode) (j : ℕ) → j < length T + n → named_by j (entries n T cs) ≡ named_by j (outer_names_from T cs)
entries_named zero T [] j l = refl
entries_named (suc n) T [] j l = refl
entries_named zero T (c ∷ cs) j l = sym (later_same j T (c ∷ cs) (omega (arith, l)))
entries_named (suc n) T (c ∷ cs) j l = let e = block_names false T c.body in entries_named n (T ++ e ∷ []) cs j (let a = length-append T (e ∷ []) in omega (arith, a, l))

module _ (K : Kernel) where
  -- the names by which the body of code, or of the program, is told
  abbrev pub table : Option ℕ → List (List ℕ)
  table None = outer_names_from [] K.codes
  table (Some c) = entries c [] K.codes

  pub code_names : (c : ℕ) (k : KCode) → code_at c K.codes ≡ Some k → named_by c (outer_names_from [] K.codes) ≡ block_names false (table (Some c)) k.body
  code_names c k h = entry_named c [] K.codes k h c (omega arith)

  pub table_named : (c j : ℕ) → j < c → named_by j (table (Some c)) ≡ named_by j (outer_names_from [] K.codes)
  table_named c j l = entries_named c [] K.codes j (omega (arith, l))
