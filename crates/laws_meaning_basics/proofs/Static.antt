-- What it says of one level of a kernel that it is proper.
use Rattle.std.proofs.Common.{◌≡◌, refl, sym, ap, ◌∙◌, subst, ℕ, zero, suc, ◌+◌, Bool, true, false, if◌then◌else◌, ◌==◌, ◌&&◌, ◌||◌, List, [], ◌∷◌, Option, Some, None, arith, eqb-true, eq-eqb}
use Rattle.std.proofs.lemmas.Bool.{and_parts, false≢true}
use Rattle.std.specs.List.{list_any}
use Rattle.ceu_base.specs.declared.kinds.Ty.TheVariants as ty
use Rattle.ceu_tree.specs.Numbering.{row_length}
use Rattle.ceu_tree.specs.Mentions.{outer_names_from}
use Rattle.ceu_tree.specs.declared.kernel.Kernel.{Kernel}
use Rattle.ceu_tree.specs.declared.kernel.KCode.{KCode}
use Rattle.ceu_tree.specs.declared.kernel.KExp.{KExp}
use Rattle.ceu_tree.specs.declared.kernel.KNode.{KNode}
use Rattle.ceu_tree.specs.declared.kernel.KArm.{KArm, KArm', out-KArm}
use Rattle.ceu_tree.specs.declared.kernel.KBlock.{KBlock, KBlock', out-KBlock, Row_of-KNode, end_of-KNode, more_of-KNode, items-the_row-KNode, items_shown-the_row-KNode-2}
use Rattle.ceu_tree.specs.declared.kernel.KStmt.{KStmt, out-KStmt, Row_of-KArm, end_of-KArm, more_of-KArm, items-the_row-KArm, items_shown-the_row-KArm-0, items_shown-the_row-KBlock-1, Row_of-KBlock, end_of-KBlock, more_of-KBlock, items-the_row-KBlock, Emit, AwaitIn, AwaitTime, AwaitEvent, Forever, AwaitCode, Spawn, Async, Do, Escape, Break, Continue, If', Loop, Par'}
use Rattle.ceu_tree.specs.declared.kernel.KStmt.TheOpen.{KStmt-F}
use Rattle.ceu_tree.specs.Leaf.{Layer, code_at}
use Rattle.ceu_tree.specs.Proper.{Scope, Aim, DoAim, BodyAim, LoopAim, with_decls, with_aim, with_turns, do_aim, in_async, body_scope, gives_if, gives_all, takes_if, time_ok, on_code, is_above, par_ok, alias_takes, find, is_trail, outside_finalizers, stmt_ok, block_ok, arm_ok, nodes_ok, arms_ok, blocks_ok, codes_ok, is_proper, escape_ok, is_loop_aim}
use Rattle.laws_meaning_basics.specs.Shape.{block_scope, part_scope, turn_scope, async_scope, code_scope, aim_node, aimed}
use denote.Hole.Carrier

last_holds : (x y : Bool) → (x && y) ≡ true → y ≡ true
last_holds x y h = (and_parts x y h).1

first_holds : (x y : Bool) → (x && y) ≡ true → x ≡ true
first_holds x y h = (and_parts x y h).0

or_true : (x : Bool) → (x || true) ≡ true
or_true true = refl
or_true false = refl

module _ (K : Kernel) (names : List (List ℕ)) where
  abbrev pub BlockOk : Scope → KBlock → Type 0
  BlockOk sc b = block_ok K names sc b ≡ true

  abbrev pub StmtOk : Scope → KNode → Type 0
  StmtOk sc s = stmt_ok K names sc s.node s.stmt ≡ true

  abbrev pub nodes_fine : Scope → List KNode → Type 0
  nodes_fine sc [] = Unit {0}
  nodes_fine sc (s ∷ ss) = StmtOk sc s × nodes_fine sc ss

  abbrev pub each_fine : Scope → List KBlock → Type 0
  each_fine sc [] = Unit {0}
  each_fine sc (b ∷ bs) = BlockOk sc b × each_fine sc bs

  abbrev pub arms_fine : Scope → List KArm → Type 0
  arms_fine sc [] = Unit {0}
  arms_fine sc (a ∷ arms) = BlockOk sc (out-KArm a).body × arms_fine sc arms

  -- what a statement's rules say of its parts and of the place where it stands
  abbrev pub layer_fine : Scope → ℕ → Layer → Type 0
  layer_fine sc n (KStmt-F.Emit e x) = is_trail sc.place ≡ true
  layer_fine sc n (KStmt-F.AwaitIn k t) = is_trail sc.place ≡ true
  layer_fine sc n (KStmt-F.AwaitTime e u t) = is_trail sc.place ≡ true
  layer_fine sc n (KStmt-F.AwaitEvent e t) = is_trail sc.place ≡ true
  layer_fine sc n KStmt-F.Forever = is_trail sc.place ≡ true
  layer_fine sc n (KStmt-F.AwaitCode c es f t) = (is_trail sc.place ≡ true) × (k : KCode) × (code_at c K.codes ≡ Some k)
  layer_fine sc n (KStmt-F.Spawn c es p a) = (is_trail sc.place ≡ true) × (k : KCode) × (code_at c K.codes ≡ Some k)
  layer_fine sc n (KStmt-F.Async b) = (is_trail sc.place ≡ true) × BlockOk (async_scope K sc) b
  layer_fine sc n (KStmt-F.Do t b) = BlockOk (part_scope K sc n (KStmt-F.Do t b)) b
  layer_fine sc n (KStmt-F.Escape m e) = aimed m sc.aims ≡ true
  layer_fine sc n (KStmt-F.Break m) = aimed m sc.aims ≡ true
  layer_fine sc n (KStmt-F.Continue m) = aimed m sc.aims ≡ true
  layer_fine sc n (KStmt-F.If arms last) = arms_fine sc arms × BlockOk sc last
  layer_fine sc n (KStmt-F.Loop k b) = BlockOk (turn_scope K sc n k) b
  layer_fine sc n (KStmt-F.Par k slot bs) = (is_trail sc.place ≡ true) × each_fine sc bs
  layer_fine sc n layer = Unit {0}

  nodes_row : {n : _} (sc : Scope) (rows : Row_of-KNode n) → nodes_ok K names sc rows ≡ true → nodes_fine sc (items-the_row-KNode n rows)
  unfolding nodes_ok
  nodes_row sc end_of-KNode h = tt
  nodes_row sc (more_of-KNode n p s rest) h = (last_holds _ (stmt_ok K names sc n s) (first_holds _ (nodes_ok K names sc rest) h), nodes_row sc rest (last_holds _ (nodes_ok K names sc rest) h))

  blocks_row : {n : _} (sc : Scope) (rows : Row_of-KBlock n) → blocks_ok K names sc rows ≡ true → each_fine sc (items-the_row-KBlock n rows)
  unfolding blocks_ok
  blocks_row sc end_of-KBlock h = tt
  blocks_row sc (more_of-KBlock b rest) h = (first_holds (block_ok K names sc b) (blocks_ok K names sc rest) h, blocks_row sc rest (last_holds (block_ok K names sc b) (blocks_ok K names sc rest) h))

  pub block_static : (sc : Scope) (b : KBlock) → BlockOk sc b → nodes_fine (block_scope sc b) (out-KBlock b).list
  unfolding block_ok out-KBlock Carrier.out
  block_static sc (KBlock' n ds x list) h =
      subst (nodes_fine (with_decls ds sc)) (sym (items_shown-the_row-KNode-2 x list)) (nodes_row (with_decls ds sc) list (last_holds _ (nodes_ok K names (with_decls ds sc) list) h))

  arm_static : (sc : Scope) (a : KArm) → arm_ok K names sc a ≡ true → BlockOk sc (out-KArm a).body
  unfolding arm_ok out-KArm Carrier.out
  arm_static sc (KArm' c b) h = last_holds _ (block_ok K names sc b) h

  arms_row : {n : _} (sc : Scope) (rows : Row_of-KArm n) → arms_ok K names sc rows ≡ true → arms_fine sc (items-the_row-KArm n rows)
  unfolding arms_ok
  arms_row sc end_of-KArm h = tt
  arms_row sc (more_of-KArm a rest) h = (arm_static sc a (first_holds (arm_ok K names sc a) (arms_ok K names sc rest) h), arms_row sc rest (last_holds (arm_ok K names sc a) (arms_ok K names sc rest) h))

  -- ---- an exit's aim is around it

  same_sides : (m n : ℕ) → (m == n) ≡ true → (n == m) ≡ true
  same_sides m n h = eq-eqb n m (sym (eqb-true m n h))

  or_aimed : (m : ℕ) (a : Aim) (aims : List Aim) → aimed m aims ≡ true → aimed m (a ∷ aims) ≡ true
  or_aimed m a aims h = ap (λ b. (m == aim_node a) || b) h ∙ or_true (m == aim_node a)

  is_aimed : (m : ℕ) (a : Aim) (aims : List Aim) → (m == aim_node a) ≡ true → aimed m (a ∷ aims) ≡ true
  is_aimed m a aims h = ap (λ b. b || aimed m aims) h

  aimed_if : (m n : ℕ) (a : Aim) (aims : List Aim) (x y : Bool) → aim_node a ≡ n → (y ≡ true → aimed m aims ≡ true) → (if n == m then x else y) ≡ true → aimed m (a ∷ aims) ≡ true
  aimed_if m n a aims x y e ih h = go (n == m) refl h
    where
      go : (b : Bool) → (n == m) ≡ b → (if b then x else y) ≡ true → aimed m (a ∷ aims) ≡ true
      go true q k = is_aimed m a aims (ap (λ j. m == j) e ∙ same_sides n m q)
      go false q k = or_aimed m a aims (ih k)

  escape_aimed : (sc : Scope) (m : ℕ) (e : Option KExp) (aims : List Aim) → escape_ok K sc m e aims ≡ true → aimed m aims ≡ true
  escape_aimed sc m e [] h = h
  escape_aimed sc m e (DoAim n None ∷ aims) h = aimed_if m n (DoAim n None) aims (gives_if K sc ty.None e) (escape_ok K sc m e aims) refl (escape_aimed sc m e aims) h
  escape_aimed sc m e (DoAim n (Some t) ∷ aims) h = aimed_if m n (DoAim n (Some t)) aims (gives_if K sc t e) (escape_ok K sc m e aims) refl (escape_aimed sc m e aims) h
  escape_aimed sc m e (BodyAim n t ∷ aims) h = aimed_if m n (BodyAim n t) aims (gives_if K sc t e) (escape_ok K sc m e aims) refl (escape_aimed sc m e aims) h
  escape_aimed sc m e (LoopAim n ∷ aims) h = or_aimed m (LoopAim n) aims (escape_aimed sc m e aims h)

  loop_aimed : (m : ℕ) (aims : List Aim) → list_any (is_loop_aim K m) aims ≡ true → aimed m aims ≡ true
  loop_aimed m [] h = h
  loop_aimed m (DoAim n t ∷ aims) h = or_aimed m (DoAim n t) aims (loop_aimed m aims h)
  loop_aimed m (BodyAim n t ∷ aims) h = or_aimed m (BodyAim n t) aims (loop_aimed m aims h)
  loop_aimed m (LoopAim n ∷ aims) h = go (m == n) refl (loop_aimed m aims) h
    where
      go : (b : Bool) → (m == n) ≡ b → (list_any (is_loop_aim K m) aims ≡ true → aimed m aims ≡ true) → (b || list_any (is_loop_aim K m) aims) ≡ true → aimed m (LoopAim n ∷ aims) ≡ true
      go true q ih k = is_aimed m (LoopAim n) aims q
      go false q ih k = or_aimed m (LoopAim n) aims (ih k)

  -- ---- code that is named is there

  code_there : (sc : Scope) (c : ℕ) (f : KCode → Bool) → on_code K sc c f ≡ true → (k : KCode) × (code_at c K.codes ≡ Some k)
  code_there sc c f h = go (code_at c K.codes) refl (last_holds (is_above K c sc.code) _ h)
    where
      go : (o : Option KCode) → code_at c K.codes ≡ o → (elim o [ None ↦ false | Some k ↦ f k ]) ≡ true → (k : KCode) × (code_at c K.codes ≡ Some k)
      go None e x = absurd (false≢true x)
      go (Some k) e x = (k, e)

  pub stmt_static : (sc : Scope) (n : ℕ) (st : KStmt) → stmt_ok K names sc n st ≡ true → layer_fine sc n (out-KStmt st)
  unfolding stmt_ok out-KStmt Carrier.out
  stmt_static sc n (Emit e x) h = first_holds (is_trail sc.place) _ h
  stmt_static sc n (AwaitIn k t) h = first_holds (is_trail sc.place) _ h
  stmt_static sc n (AwaitTime e u t) h = first_holds (is_trail sc.place) _ (first_holds (is_trail sc.place && time_ok K sc e u) _ h)
  stmt_static sc n (AwaitEvent e t) h = first_holds (is_trail sc.place) _ h
  stmt_static sc n Forever h = h
  stmt_static sc n (AwaitCode c es f t) h =
      let x = code_there sc c (λ k. gives_all K sc k.params es && takes_if K sc k.result t) (last_holds (is_trail sc.place) _ h) in
      (first_holds (is_trail sc.place) _ h, x.0, x.1)
  stmt_static sc n (Spawn c es p a) h =
      let y = first_holds (is_trail sc.place && on_code K sc c (λ k. gives_all K sc k.params es)) _ (first_holds _ (elim a [ None ↦ true | Some a ↦ alias_takes c p (find a sc.seen) ]) h) in
      let x = code_there sc c (λ k. gives_all K sc k.params es) (last_holds (is_trail sc.place) _ y) in
      (first_holds (is_trail sc.place) _ y, x.0, x.1)
  stmt_static sc n (Async b) h = (first_holds (is_trail sc.place) (block_ok K names (in_async K sc) b) h, last_holds (is_trail sc.place) (block_ok K names (in_async K sc) b) h)
  stmt_static sc n (Do t b) h = last_holds _ (block_ok K names (with_aim (do_aim K n t) sc) b) h
  stmt_static sc n (Escape m e) h = escape_aimed sc m e sc.aims (last_holds (outside_finalizers sc.place) _ h)
  stmt_static sc n (Break m) h = loop_aimed m sc.aims (last_holds (outside_finalizers sc.place) _ h)
  stmt_static sc n (Continue m) h = loop_aimed m sc.aims (last_holds (outside_finalizers sc.place) _ h)
  stmt_static sc n (If' x arms last) h =
      (subst (arms_fine sc) (sym (items_shown-the_row-KArm-0 x arms)) (arms_row sc arms (last_holds (outside_finalizers sc.place) _ (first_holds _ (block_ok K names sc last) h))), last_holds _ (block_ok K names sc last) h)
  stmt_static sc n (Loop k b) h = last_holds _ (block_ok K names (with_aim (LoopAim n) (with_turns K k sc)) b) h
  stmt_static sc n (Par' k slot x bs) h =
      (first_holds (is_trail sc.place) _ (first_holds (is_trail sc.place && par_ok K k slot (row_length bs)) _ h), subst (each_fine sc) (sym (items_shown-the_row-KBlock-1 x bs)) (blocks_row sc bs (last_holds _ (blocks_ok K names sc bs) h)))
  stmt_static sc n st h = tt

  -- ---- the bodies of the program and of code

  codes_static : (i c j : ℕ) (cs : List KCode) (k : KCode) → i + c ≡ j → codes_ok K names i cs ≡ true → code_at c cs ≡ Some k → BlockOk (code_scope K j k) k.body
  codes_static i c j [] k q h e = absurd (cc)
  codes_static i zero j (x ∷ cs) k q h e =
      let a = last_holds _ (block_ok K names (code_scope K i x) x.body) (first_holds _ (codes_ok K names (i + 1) cs) h) in
      let same : x ≡ k = ap (λ o. elim o [ None ↦ x | Some y ↦ y ]) e in
      let b : i ≡ j = omega (arith, q) in
      subst (λ y. BlockOk (code_scope K j y) y.body) same (subst (λ m. BlockOk (code_scope K m x) x.body) b a)
  codes_static i (suc c) j (x ∷ cs) k q h e = codes_static (i + 1) c j cs k (omega (arith, q)) (last_holds _ (codes_ok K names (i + 1) cs) h) e

abbrev pub names_of : Kernel → List (List ℕ)
names_of K = outer_names_from [] K.codes

pub code_static : (K : Kernel) (c : ℕ) (k : KCode) → is_proper K ≡ true → code_at c K.codes ≡ Some k → block_ok K (names_of K) (code_scope K c k) k.body ≡ true
unfolding is_proper
code_static K c k h e = codes_static K (outer_names_from [] K.codes) 0 c c K.codes k (omega arith) (last_holds _ (codes_ok K (outer_names_from [] K.codes) 0 K.codes) h) e

pub program_static : (K : Kernel) → is_proper K ≡ true → block_ok K (names_of K) (body_scope K [] None K.body ty.S32) K.body ≡ true
unfolding is_proper
program_static K h =
    last_holds _ (block_ok K (outer_names_from [] K.codes) (body_scope K [] None K.body ty.S32) K.body) (first_holds _ (codes_ok K (outer_names_from [] K.codes) 0 K.codes) h)
