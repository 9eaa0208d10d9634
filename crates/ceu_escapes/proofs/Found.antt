-- The lines of an escape find the target of the do that it leaves: the numbers of nodes count on through the kernel, so that no part beside the do has
-- one of its number.
use Rattle.std.proofs.Common.{◌≡◌, refl, sym, ap, ◌∙◌, subst, ◌<◌, ◌≤◌, inl, inr, ℕ, ◌+◌, Bool, true, false, ◌==◌, if◌then◌else◌, List, [], ◌∷◌, ◌++◌, length, length-append, Option, Some, None, arith, eqb-true}
use Rattle.std.proofs.lemmas.Bool.{and_parts, false≢true, eq-eqb, ne_eqb}
use Rattle.ceu_tree.specs.declared.kernel.Kernel.{Kernel}
use Rattle.ceu_tree.specs.declared.kernel.KCode.{KCode}
use Rattle.ceu_tree.specs.declared.kernel.KLoop.{KLoop}
use Rattle.ceu_tree.specs.declared.kernel.KNode.{KNode}
use Rattle.ceu_tree.specs.declared.kernel.KArm.{KArm, KArm', out-KArm}
use Rattle.ceu_tree.specs.declared.kernel.KBlock.{KBlock, KBlock', out-KBlock, Row_of-KNode, end_of-KNode, more_of-KNode, items-the_row-KNode, items_shown-the_row-KNode-2}
use Rattle.ceu_tree.specs.declared.kernel.KStmt.{KStmt, out-KStmt, Row_of-KArm, end_of-KArm, more_of-KArm, items-the_row-KArm, items_shown-the_row-KArm-0, Row_of-KBlock, end_of-KBlock, more_of-KBlock, Async, Finalize, Do, If', Loop, Par'}
use Rattle.ceu_tree.specs.declared.kernel.KStmt.TheOpen.{KStmt-F}
use Rattle.ceu_tree.specs.declared.kernel.Loc.{Loc}
use Rattle.ceu_tree.specs.Focus.{Frame}
use Rattle.ceu_tree.specs.Numbering.{counts_from, stmt_nodes, block_nodes, arm_nodes, list_nodes, arms_nodes, blocks_nodes}
use Rattle.ceu_tree.specs.Proper.{Scope, is_proper}
use Rattle.laws_meaning_basics.specs.Shape.{Part, ABlock, AStatement, AnEnd, among_arms, opens_part}
use Rattle.ceu_shape.specs.Searches.{or_else, target_if, stmt_target, block_target, arm_target, nodes_target, arms_target, blocks_target, codes_target, escape_target}
use Rattle.ceu_single.specs.Single.{has_no_code, block_single, Single}
use Rattle.laws_meaning_values.proofs.Counts.{counts_parts, nodes_all, block_nodes_is}
use Rattle.laws_meaning_values.proofs.Grounds.{program_ground}
use Rattle.ceu_steps.specs.Reached.{Reached, at_program, at_statement, at_end, in_part, in_turn}
use Rattle.ceu_escapes.specs.Laws.{TargetsAreFound}
use denote.Hole.Carrier

-- ---- a number that isn't in a list

abbrev Apart : (node : ℕ) → List ℕ → Type 0
Apart node [] = Unit {0}
Apart node (x ∷ xs) = ((x == node) ≡ false) × Apart node xs

apart_parts : (node : ℕ) (xs ys : List ℕ) → Apart node (xs ++ ys) → Apart node xs × Apart node ys
apart_parts node [] ys h = (tt, h)
apart_parts node (x ∷ xs) ys h = let r = apart_parts node xs ys h.1 in ((h.0, r.0), r.1)

-- one before a list that counts on, and one behind it
before : (node k : ℕ) (xs : List ℕ) → node < k → counts_from k xs ≡ true → Apart node xs
before node k [] lt h = tt
before node k (x ∷ xs) lt h =
    let a = and_parts (x == k) (counts_from (k + 1) xs) h in
    let e = eqb-true x k a.0 in
    (ne_eqb x node (λ q. absurd (omega (arith, q, e, lt))), before node (k + 1) xs (omega (arith, lt)) a.1)

after : (node k : ℕ) (xs : List ℕ) → k + length xs ≤ node → counts_from k xs ≡ true → Apart node xs
after node k [] le h = tt
after node k (x ∷ xs) le h =
    let a = and_parts (x == k) (counts_from (k + 1) xs) h in
    let e = eqb-true x k a.0 in
    (ne_eqb x node (λ q. absurd (omega (arith, q, e, le))), after node (k + 1) xs (omega (arith, le)) a.1)

-- ---- a search for it finds nothing

or_none : (a : Option Loc) → or_else a None ≡ a
or_none None = refl
or_none (Some l) = refl

neither : (a b : Option Loc) → a ≡ None → b ≡ None → or_else a b ≡ None
neither a b e f = ap (λ (o : Option Loc). or_else o b) e ∙ f

module _ (node : ℕ) where
  another : (n : ℕ) (t : Option Loc) → (n == node) ≡ false → target_if node n t ≡ None
  another n t e = ap (λ (b : Bool). if b then t else None) e

  mutual
    unfolding stmt_target stmt_nodes

    stmt_missing : (n : ℕ) (s : KStmt) → Apart node (n ∷ stmt_nodes s) → stmt_target node n s ≡ None
    stmt_missing n (Async b) h = block_missing b h.1
    stmt_missing n (Finalize b) h = block_missing b h.1
    stmt_missing n (Do t b) h = neither (target_if node n t) (block_target node b) (another n t h.0) (block_missing b h.1)
    stmt_missing n (If' _ arms last) h =
        let x = apart_parts node (arms_nodes arms) (block_nodes last) h.1 in
        neither (arms_target node arms) (block_target node last) (arms_missing arms x.0) (block_missing last x.1)
    stmt_missing n (Loop k b) h = block_missing b h.1
    stmt_missing n (Par' k slot _ bs) h = blocks_missing bs h.1
    stmt_missing n _ h = refl

    block_missing : (b : KBlock) → Apart node (block_nodes b) → block_target node b ≡ None
    block_missing (KBlock' n ds x list) h = list_missing list h.1

    arm_missing : (a : KArm) → Apart node (arm_nodes a) → arm_target node a ≡ None
    arm_missing (KArm' c b) h = block_missing b h

    list_missing : {n : _} (rows : Row_of-KNode n) → Apart node (list_nodes rows) → nodes_target node rows ≡ None
    list_missing end_of-KNode h = refl
    list_missing (more_of-KNode n p s rest) h =
        let x = apart_parts node (stmt_nodes s) (list_nodes rest) h.1 in
        neither (stmt_target node n s) (nodes_target node rest) (stmt_missing n s (h.0, x.0)) (list_missing rest x.1)

    arms_missing : {n : _} (rows : Row_of-KArm n) → Apart node (arms_nodes rows) → arms_target node rows ≡ None
    arms_missing end_of-KArm h = refl
    arms_missing (more_of-KArm a rest) h =
        let x = apart_parts node (arm_nodes a) (arms_nodes rest) h in
        neither (arm_target node a) (arms_target node rest) (arm_missing a x.0) (arms_missing rest x.1)

    blocks_missing : {n : _} (rows : Row_of-KBlock n) → Apart node (blocks_nodes rows) → blocks_target node rows ≡ None
    blocks_missing end_of-KBlock h = refl
    blocks_missing (more_of-KBlock b rest) h =
        let x = apart_parts node (block_nodes b) (blocks_nodes rest) h in
        neither (block_target node b) (blocks_target node rest) (block_missing b x.0) (blocks_missing rest x.1)

  -- the statements of a block
  abbrev each_target : List KNode → Option Loc
  each_target [] = None
  each_target (s ∷ ss) = or_else (stmt_target node s.node s.stmt) (each_target ss)

  row_each : {n : _} (rows : Row_of-KNode n) → nodes_target node rows ≡ each_target (items-the_row-KNode n rows)
  unfolding stmt_target
  row_each end_of-KNode = refl
  row_each (more_of-KNode n p s rest) = ap (λ (o : Option Loc). or_else (stmt_target node n s) o) (row_each rest)

  block_each : (b : KBlock) → block_target node b ≡ each_target (out-KBlock b).list
  unfolding stmt_target out-KBlock Carrier.out
  block_each (KBlock' n ds x list) = row_each list ∙ ap each_target (sym (items_shown-the_row-KNode-2 x list))

  each_missing : (list : List KNode) → Apart node (nodes_all list) → each_target list ≡ None
  each_missing [] h = refl
  each_missing (s ∷ ss) h =
      let x = apart_parts node (stmt_nodes s.stmt) (nodes_all ss) h.1 in
      neither (stmt_target node s.node s.stmt) (each_target ss) (stmt_missing s.node s.stmt (h.0, x.0)) (each_missing ss x.1)

  -- of a do of that number, which has no such node inside
  do_found : (s : KStmt) (l : Option Loc) (body : KBlock) → out-KStmt s ≡ KStmt-F.Do l body → Apart node (stmt_nodes s) → stmt_target node node s ≡ l
  unfolding stmt_target stmt_nodes out-KStmt Carrier.out
  do_found (Do t c) l body e a =
      ap (λ (b : Bool). or_else (if b then t else None) (block_target node c)) (eq-eqb node node refl)
      ∙ ap (λ (o : Option Loc). or_else t o) (block_missing c a)
      ∙ or_none t
      ∙ ap (λ y. elim y as (λ _. Option Loc) [ KStmt-F.Do u d ↦ u | _ ↦ t ]) e
  do_found s l body e a = absurd (cc)

-- ---- a part in which a search finds what a search of the whole does

module _ (whole : (node : ℕ) → Option Loc) where
  record Found (target : (node : ℕ) → Option Loc) (nodes : List ℕ) : Type 0 where
    first : ℕ
    numbered : counts_from first nodes ≡ true
    finds : (node : ℕ) → first ≤ node → node < first + length nodes → whole node ≡ target node

  found_left : (f g : (node : ℕ) → Option Loc) (xs ys : List ℕ) → ((node : ℕ) → Apart node ys → g node ≡ None) → Found (λ node. or_else (f node) (g node)) (xs ++ ys) → Found f xs
  found_left f g xs ys none h =
      let c = counts_parts h.first xs ys h.numbered in
      record {
        first = h.first;
        numbered = c.0;
        finds = λ node low high. h.finds node low (omega (arith, high, length-append xs ys)) ∙ ap (λ (o : Option Loc). or_else (f node) o) (none node (before node (h.first + length xs) ys high c.1)) ∙ or_none (f node);
      }

  found_right : (f g : (node : ℕ) → Option Loc) (xs ys : List ℕ) → ((node : ℕ) → Apart node xs → f node ≡ None) → Found (λ node. or_else (f node) (g node)) (xs ++ ys) → Found g ys
  found_right f g xs ys none h =
      let c = counts_parts h.first xs ys h.numbered in
      record {
        first = h.first + length xs;
        numbered = c.1;
        finds = λ node low high. h.finds node (omega (arith, low)) (omega (arith, high, length-append xs ys)) ∙ ap (λ (o : Option Loc). or_else o (g node)) (none node (after node h.first xs low c.0));
      }

  -- behind the number of the part itself
  found_inside : (f : (node : ℕ) → Option Loc) (n : ℕ) (xs : List ℕ) → Found f (n ∷ xs) → Found f xs
  found_inside f n xs h = found_right (λ node. None) f (n ∷ []) xs (λ node a. refl) h

  abbrev BlockFound : KBlock → Type 0
  BlockFound b = Found (λ node. block_target node b) (block_nodes b)

  abbrev NodeFound : KNode → Type 0
  NodeFound s = Found (λ node. stmt_target node s.node s.stmt) (s.node ∷ stmt_nodes s.stmt)

  list_found : (done : List KNode) (s : KNode) (rest : List KNode) → Found (λ node. each_target node (done ++ s ∷ rest)) (nodes_all (done ++ s ∷ rest)) → NodeFound s
  list_found [] s rest h = found_left (λ node. stmt_target node s.node s.stmt) (λ node. each_target node rest) (s.node ∷ stmt_nodes s.stmt) (nodes_all rest) (λ node a. each_missing node rest a) h
  list_found (q ∷ done) s rest h =
      list_found done s rest
      (found_right (λ node. stmt_target node q.node q.stmt) (λ node. each_target node (done ++ s ∷ rest)) (q.node ∷ stmt_nodes q.stmt) (nodes_all (done ++ s ∷ rest)) (λ node a. stmt_missing node q.node q.stmt a) h)

  among_found : (b : KBlock) (done rest : List KNode) (s : KNode) → (out-KBlock b).list ≡ done ++ s ∷ rest → BlockFound b → NodeFound s
  among_found b done rest s e h =
      let here : Found (λ node. each_target node (out-KBlock b).list) (block_nodes b) = record { first = h.first; numbered = h.numbered; finds = λ node low high. h.finds node low high ∙ block_each node b } in
      let list = found_inside (λ node. each_target node (out-KBlock b).list) (out-KBlock b).node (nodes_all (out-KBlock b).list) (subst (λ (xs : List ℕ). Found (λ node. each_target node (out-KBlock b).list) xs) (block_nodes_is b) here) in
      list_found done s rest (subst (λ (ss : List KNode). Found (λ node. each_target node ss) (nodes_all ss)) e list)

  arms_found : {n : _} (rows : Row_of-KArm n) (b : KBlock) → among_arms (items-the_row-KArm n rows) b → Found (λ node. arms_target node rows) (arms_nodes rows) → BlockFound b
  unfolding stmt_target stmt_nodes out-KArm Carrier.out
  arms_found end_of-KArm b a h = absurd a
  arms_found (more_of-KArm (KArm' c x) rest) b (inl e) h =
      subst BlockFound e (found_left (λ node. block_target node x) (λ node. arms_target node rest) (block_nodes x) (arms_nodes rest) (λ node q. arms_missing node rest q) h)
  arms_found (more_of-KArm (KArm' c x) rest) b (inr a) h =
      arms_found rest b a (found_right (λ node. block_target node x) (λ node. arms_target node rest) (block_nodes x) (arms_nodes rest) (λ node q. block_missing node x q) h)

  opens_found : (n : ℕ) (s : KStmt) (b : KBlock) → opens_part (out-KStmt s) b → Found (λ node. stmt_target node n s) (n ∷ stmt_nodes s) → BlockFound b
  unfolding stmt_target stmt_nodes out-KStmt Carrier.out
  opens_found n (Do t c) b e h = subst BlockFound e (found_right (λ node. target_if node n t) (λ node. block_target node c) (n ∷ []) (block_nodes c) (λ node a. another node n t a.0) h)
  opens_found n (If' x arms last) b (inl a) h =
      let inside = found_inside (λ node. or_else (arms_target node arms) (block_target node last)) n (arms_nodes arms ++ block_nodes last) h in
      arms_found arms b (subst (λ l. among_arms l b) (items_shown-the_row-KArm-0 x arms) a)
      (found_left (λ node. arms_target node arms) (λ node. block_target node last) (arms_nodes arms) (block_nodes last) (λ node q. block_missing node last q) inside)
  opens_found n (If' x arms last) b (inr e) h =
      let inside = found_inside (λ node. or_else (arms_target node arms) (block_target node last)) n (arms_nodes arms ++ block_nodes last) h in
      subst BlockFound e (found_right (λ node. arms_target node arms) (λ node. block_target node last) (arms_nodes arms) (block_nodes last) (λ node q. arms_missing node arms q) inside)
  opens_found n s b e h = absurd e

  turns_found : (n : ℕ) (s : KStmt) (k : KLoop) (b : KBlock) → out-KStmt s ≡ KStmt-F.Loop k b → Found (λ node. stmt_target node n s) (n ∷ stmt_nodes s) → BlockFound b
  unfolding stmt_target stmt_nodes out-KStmt Carrier.out
  turns_found n (Loop j c) k b e h =
      subst BlockFound (ap (λ y. elim y as (λ _. KBlock) [ KStmt-F.Loop i d ↦ d | _ ↦ c ]) e) (found_inside (λ node. block_target node c) n (block_nodes c) h)
  turns_found n s k b e h = absurd (cc)

-- ---- the parts that are reached

no_codes : (cs : List KCode) → has_no_code cs ≡ true → cs ≡ []
no_codes [] h = refl
no_codes (c ∷ cs) h = absurd (false≢true h)

module _ (K : Kernel) (proper : is_proper K ≡ true) (single : Single K) where
  none : K.codes ≡ []
  none = no_codes K.codes (and_parts (has_no_code K.codes) (block_single K.body) single).0

  whole_is : (node : ℕ) → escape_target K node ≡ block_target node K.body
  unfolding escape_target
  whole_is node = ap (λ (cs : List KCode). or_else (block_target node K.body) (codes_target node cs)) none ∙ or_none (block_target node K.body)

  numbers : counts_from 0 (block_nodes K.body) ≡ true
  numbers = (program_ground K proper).nodes_from

  abbrev FoundAt : Part → Type 0
  FoundAt (ABlock turn sc b) = BlockFound (escape_target K) b
  FoundAt (AStatement sc s) = NodeFound (escape_target K) s
  FoundAt AnEnd = Unit {0}

  found_of : {outer : List Frame} {d : Part} → Reached K outer d → FoundAt d
  found_of at_program = record { first = 0; numbered = numbers; finds = λ node low high. whole_is node }
  found_of (at_statement {b = b} {s = s} {rest = rest} done x e pl) = among_found (escape_target K) b done rest s e (found_of x)
  found_of (at_end x pl) = tt
  found_of (in_part {s = s} b x o) = opens_found (escape_target K) s.node s.stmt b o (found_of x)
  found_of (in_turn {s = s} k b x e n) = turns_found (escape_target K) s.node s.stmt k b e (found_of x)

  target_found : (frames : List Frame) (sc : Scope) (s : KNode) (l : Option Loc) (body : KBlock) → Reached K frames (AStatement sc s) → out-KStmt s.stmt ≡ KStmt-F.Do l body → escape_target K s.node ≡ l
  target_found frames sc s l body x e =
      let h = found_of x in
      let a = and_parts (s.node == h.first) (counts_from (h.first + 1) (stmt_nodes s.stmt)) h.numbered in
      let same = eqb-true s.node h.first a.0 in
      h.finds s.node (omega (arith, same)) (omega (arith, same)) ∙ do_found s.node s.stmt l body e (before s.node (h.first + 1) (stmt_nodes s.stmt) (omega (arith, same)) a.1)

  -- the body of the program is no do
  pub body_has_none : escape_target K (out-KBlock K.body).node ≡ None
  body_has_none =
      let all = subst (λ (xs : List ℕ). counts_from 0 xs ≡ true) (block_nodes_is K.body) numbers in
      let a = and_parts ((out-KBlock K.body).node == 0) (counts_from (0 + 1) (nodes_all (out-KBlock K.body).list)) all in
      let first = eqb-true (out-KBlock K.body).node 0 a.0 in
      whole_is (out-KBlock K.body).node ∙ block_each (out-KBlock K.body).node K.body ∙ each_missing (out-KBlock K.body).node (out-KBlock K.body).list (before (out-KBlock K.body).node (0 + 1) (nodes_all (out-KBlock K.body).list) (omega (arith, first)) a.1)

pub targets_found : TargetsAreFound
targets_found image P width K compiled frames sc s l body x e = target_found K compiled.proper compiled.single frames sc s l body x e
