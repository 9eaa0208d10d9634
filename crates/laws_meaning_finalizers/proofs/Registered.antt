-- Finalizers that are registered read no variable without a value, where their block may name what it names.
use Rattle.std.proofs.Common.{◌≡◌, refl, sym, ap, ◌∙◌, subst, ◌≤◌, ℕ, Bool, true, false, if◌then◌else◌, ◌==◌, ◌&&◌, ◌||◌, ◌⊎◌, inl, inr, List, [], ◌∷◌, ◌++◌, append_assoc, Option, Some, None, Ok, Err, arith, eq-eqb}
use Rattle.std.proofs.lemmas.Bool.{and_parts, and_from, or_cases, false≢true}
use Rattle.ceu_base.specs.declared.kinds.Ty.{Ty}
use Rattle.ceu_base.specs.declared.kinds.Pos.{Pos}
use Rattle.ceu_base.specs.declared.kinds.Fault.{Fault}
use Rattle.ceu_base.specs.declared.kinds.Mark.TheVariants.{Output, Ran}
use Rattle.ceu_tree.specs.declared.kernel.Kernel.{Kernel}
use Rattle.ceu_tree.specs.declared.kernel.KDecl.{KDecl}
use Rattle.ceu_tree.specs.declared.kernel.KKind.{KKind}
use Rattle.ceu_tree.specs.declared.kernel.KKind.TheVariants as kind
use Rattle.ceu_tree.specs.declared.kernel.Loc.{Loc}
use Rattle.ceu_tree.specs.declared.kernel.KExp.{KExp}
use Rattle.ceu_tree.specs.declared.kernel.KExpNode as exp
use Rattle.ceu_tree.specs.declared.kernel.KExpNode.{KExpNode, Row_of-KExp, end_of-KExp, more_of-KExp, One', Two', As'}
use Rattle.ceu_tree.specs.declared.kernel.KNode.{KNode}
use Rattle.ceu_tree.specs.declared.kernel.KBlock.{KBlock, out-KBlock}
use Rattle.ceu_tree.specs.declared.kernel.KStmt.{KStmt, Assign, Out, Finalize, out-KStmt}
use Rattle.ceu_tree.specs.Residual.{Body, Program}
use Rattle.ceu_tree.specs.World.{World, marked, assign}
use Rattle.ceu_tree.specs.Expressions.{Answer, value_of, value_if}
use Rattle.ceu_tree.specs.Typing.{node_typed, operand_typed, typed, holds_all}
use Rattle.ceu_tree.specs.Abort.{or_fault, simple, unless_fault, finalizer_list, runs_one}
use Rattle.ceu_tree.specs.Legal.{is_set, is_finalizer, finalizers_of, is_program_variable}
use Rattle.ceu_tree.specs.Mentions.{sets, loc_names, node_names, operand_names, exp_names, maybe_exp, stmt_names, block_names, count_of}
use Rattle.ceu_tree.specs.Proper.{Scope, find, declared_seen, slot_kind, variable_ty, has_ty, reads, asks, gives, gives_if, takes, on_ty, port_ty, outside_asyncs, is_in_code, in_finalizer, stmt_ok, is_proper}
use Rattle.laws_meaning_basics.specs.Shape.{ABlock, AStatement, block_scope}
use Rattle.laws_meaning_basics.proofs.Static.{BlockOk, StmtOk, names_of, nodes_fine}
use Rattle.laws_meaning_basics.proofs.UpFits.{list_sound}
use Rattle.laws_meaning_values.specs.Ground.{has}
use Rattle.laws_meaning_values.specs.Ready.{is_cell, declares, node_has, operand_has, exp_has, maybe_has, layer_has, stmt_named, Ready}
use Rattle.laws_meaning_values.proofs.Names.{count_append}
use Rattle.laws_meaning_values.proofs.Stores.{assign_keeps, finalized_keeps, or_left, or_right}
use Rattle.laws_meaning_values.proofs.Readies.{ready_list}
use Rattle.laws_meaning_values.proofs.Evaluated.{started_has}
use Rattle.laws_meaning_slots.proofs.Writes.{finalizer_fine}
use Rattle.laws_meaning_assigned.proofs.Namings.{in_block}
use Rattle.laws_meaning_finalizers.specs.Closing.{node_reads, operand_reads, exp_reads, maybe_reads, simple_reads, unless_failed, list_reads, one_reads, finalized_reads}
use denote.Hole.Carrier

-- ---- what is kept while finalizers run

module _ (b : Body) (x : ℕ) where
  simple_kept : (s : KStmt) (here : Body) (w : World) → has b x w ≡ true → has b x (simple s here w) ≡ true
  simple_kept (Assign l e) here w h = go (value_of e here w)
    where
      go : (a : Answer) → has b x (or_fault a w (λ v. assign here l v w)) ≡ true
      go (Ok v) = assign_keeps b x here l v w h
      go (Err z) = h
  simple_kept (Out k e) here w h = go (value_if e here w)
    where
      go : (a : Answer) → has b x (or_fault a w (λ v. marked (Output k v) w)) ≡ true
      go (Ok v) = h
      go (Err z) = h
  simple_kept _ here w h = h

  unless_kept : (f : World → World) (w : World) → has b x (f w) ≡ true → has b x w ≡ true → has b x (unless_fault f w) ≡ true
  unless_kept f w h k = go w.fault
    where
      go : (o : Option (Fault × Pos)) → has b x (elim o [ Some e ↦ w | None ↦ f w ]) ≡ true
      go None = h
      go (Some e) = k

abbrev Unless : Type 0 → Option (Fault × Pos) → Type 0
Unless T o = elim o [ Some e ↦ Unit {0} | None ↦ T ]

unless_reads : (w : World) (T : Type 0) → T → unless_failed w T
unless_reads w T h = go w.fault
  where
    go : (o : Option (Fault × Pos)) → Unless T o
    go None = h
    go (Some e) = tt

-- a variable of the program's block is one of the program's variables
outer_variable : (x : ℕ) (pools : List ℕ) (ds : List KDecl) (t : Ty) → has_ty (variable_ty (find x (declared_seen pools ds []))) t ≡ true → is_program_variable x ds ≡ true
outer_variable x pools [] t h = absurd (false≢true h)
outer_variable x pools (d ∷ ds) t h = go (d.slot == x) h (outer_variable x pools ds t)
  where
    variable : (k : KKind) → has_ty (variable_ty (Some (slot_kind pools k))) t ≡ true → (elim k [ kind.Var u ↦ true | _ ↦ false ]) ≡ true
    variable (kind.Var u) e = refl
    variable (kind.Alias c) e = absurd (false≢true e)
    variable (kind.Pool n c) e = absurd (false≢true e)

    more : (b : Bool) → is_program_variable x ds ≡ true → (b || is_program_variable x ds) ≡ true
    more b e = or_right b (is_program_variable x ds) e

    go : (b : Bool) → has_ty (variable_ty (if b then Some (slot_kind pools d.kind) else find x (declared_seen pools ds []))) t ≡ true
        → (has_ty (variable_ty (find x (declared_seen pools ds []))) t ≡ true → is_program_variable x ds ≡ true) → ((b && elim d.kind [ kind.Var u ↦ true | _ ↦ false ]) || is_program_variable x ds) ≡ true
    go true e ih = or_left (elim d.kind [ kind.Var u ↦ true | _ ↦ false ]) (is_program_variable x ds) (variable d.kind e)
    go false e ih = more false (ih e)

module _ (K : Kernel) (sc : Scope) (body : Body) (T : List (List ℕ)) where
  -- the program's variables that are named by `outer` in code have values
  abbrev pub OuterHas : World → (ℕ → ℕ) → Type 0
  OuterHas w m = (x : ℕ) → is_program_variable x (out-KBlock K.body).decls ≡ true → is_in_code sc.code ≡ true → 1 ≤ m x → has Program x w ≡ true

  abbrev Outers : World → List ℕ → Type 0
  Outers w ns = OuterHas w (λ x. count_of x ns)

  outer_left : (w : World) (ms ns : List ℕ) → Outers w (ms ++ ns) → Outers w ms
  outer_left w ms ns h = λ x v c l. h x v c (omega (arith, l, count_append x ms ns))

  outer_right : (w : World) (ms ns : List ℕ) → Outers w (ms ++ ns) → Outers w ns
  outer_right w ms ns h = λ x v c l. h x v c (omega (arith, l, count_append x ms ns))

  read_reads : (w : World) (l : Loc) → reads K sc l ≡ true → (l.outer || has body l.slot w) ≡ true → Outers w (loc_names false T l) → has (if l.outer then Program else body) l.slot w ≡ true
  read_reads w l h k n = go l.outer h k n
    where
      one : 1 ≤ count_of l.slot (l.slot ∷ [])
      one = subst (λ b. 1 ≤ (if b then 1 else 0)) (sym (eq-eqb l.slot l.slot refl)) (omega arith)

      outer : (c : Bool) → is_in_code sc.code ≡ c → has_ty (variable_ty (if c then find l.slot (declared_seen [] (out-KBlock K.body).decls []) else None)) l.ty ≡ true → Outers w (l.slot ∷ []) → has Program l.slot w ≡ true
      outer true e v m = m l.slot (outer_variable l.slot [] (out-KBlock K.body).decls l.ty v) e one
      outer false e v m = absurd (false≢true v)

      go : (t : Bool) → has_ty (variable_ty (if t then (if is_in_code sc.code then find l.slot (declared_seen [] (out-KBlock K.body).decls []) else None) else find l.slot sc.seen)) l.ty ≡ true
          → (t || has body l.slot w) ≡ true → Outers w (if false || t then l.slot ∷ [] else []) → has (if t then Program else body) l.slot w ≡ true
      go true v k m = outer (is_in_code sc.code) refl v m
      go false v k m = k

  mutual
    unfolding node_typed node_has node_names node_reads

    typed_reads : (w : World) (e : KExpNode) (t : Ty) → node_typed (reads K sc) (asks K sc) e t ≡ true → node_has body w e ≡ true → Outers w (node_names false T e) → node_reads body w e ≡ true
    typed_reads w (exp.Const v) t h k n = refl
    typed_reads w (exp.Read l) t h k n = read_reads w l (and_parts _ (reads K sc l) h).1 k n
    typed_reads w (exp.Alive c) t h k n = k
    typed_reads w (One' op x a) t h k n = operand_typed_reads w a (and_parts (operand_typed (reads K sc) (asks K sc) a) _ h).0 k n
    typed_reads w (Two' op x a y b) t h k n =
        let i = (and_parts (operand_typed (reads K sc) (asks K sc) a && operand_typed (reads K sc) (asks K sc) b) _ h).0 in
        let m = and_parts (operand_typed (reads K sc) (asks K sc) a) (operand_typed (reads K sc) (asks K sc) b) i in
        let p = and_parts (operand_has body w a) (operand_has body w b) k in
        and_from (operand_reads body w a) (operand_reads body w b) (operand_typed_reads w a m.0 p.0 (outer_left w (operand_names false T a) (operand_names false T b) n)) (operand_typed_reads w b m.1 p.1 (outer_right w (operand_names false T a) (operand_names false T b) n))
    typed_reads w (As' x a) t h k n =
        operand_typed_reads w a (and_parts (operand_typed (reads K sc) (asks K sc) a) _ (and_parts (operand_typed (reads K sc) (asks K sc) a && _) _ h).0).0 k n

    operand_typed_reads : {n : _} (w : World) (a : Row_of-KExp n) → operand_typed (reads K sc) (asks K sc) a ≡ true → operand_has body w a ≡ true → Outers w (operand_names false T a) → operand_reads body w a ≡ true
    operand_typed_reads w end_of-KExp h k n = refl
    operand_typed_reads w (more_of-KExp t p e rest) h k n = typed_reads w e t h k n

  gives_reads : (w : World) (t : Ty) (e : KExp) → gives K sc t e ≡ true → exp_has body w e ≡ true → Outers w (exp_names false T e) → exp_reads body w e
  gives_reads w t e h k n = typed_reads w e.node e.ty (and_parts (typed (reads K sc) (asks K sc) e) _ (and_parts (typed (reads K sc) (asks K sc) e && holds_all t e.ty) _ h).0).0 k n

  on_ty_reads : (w : World) (o : Option Ty) (e : Option KExp) → on_ty K o (λ t. gives_if K sc t e) ≡ true → maybe_has body w e ≡ true → Outers w (maybe_exp false T e) → maybe_reads body w e
  on_ty_reads w None e h k n = absurd (false≢true h)
  on_ty_reads w (Some t) None h k n = tt
  on_ty_reads w (Some t) (Some e) h k n = gives_reads w t e (and_parts _ (gives K sc t e) h).1 k n

  -- ---- a statement of a finalizer

  simple_fine : (w : World) (n : ℕ) (st : KStmt) → stmt_ok K (names_of K) sc n st ≡ true → layer_has body w (out-KStmt st) ≡ true → Outers w (stmt_names false T st) → simple_reads body w st
  unfolding stmt_ok stmt_names out-KStmt Carrier.out
  simple_fine w n (Assign l e) h k m = gives_reads w l.ty e (and_parts (takes K sc l.ty l) (gives K sc l.ty e) h).1 k (outer_right w (loc_names false T l) (exp_names false T e) m)
  simple_fine w n (Out i e) h k m = on_ty_reads w (port_ty K i K.outputs) e (and_parts (outside_asyncs sc.place) _ h).1 k m
  simple_fine w n st h k m = tt

  -- ---- its list, of whose statements none names a slot more often than so

  abbrev Named : Bool → List (List ℕ) → (ℕ → ℕ) → List KNode → Type 0
  Named own U m [] = Unit {0}
  Named own U m (s ∷ ss) = ((x : ℕ) → count_of x (stmt_names own U s.stmt) ≤ m x) × Named own U m ss

  list_fine : (ss : List KNode) (m p : ℕ → ℕ) (w : World) → nodes_fine K (names_of K) sc ss → Named true (names_of K) m ss → Named false T p ss → ((x : ℕ) → is_cell (find x sc.seen) ≡ true → (has body x w ≡ true) ⊎ (m x ≡ 0)) → OuterHas w p
      → list_reads ss body w
  list_fine [] m p w ok a b own out = tt
  list_fine (s ∷ ss) m p w ok a b own out = (
    unless_reads w (simple_reads body w s.stmt) (simple_fine w s.node s.stmt ok.0 (started_has K sc body w s.node s.stmt ok.0 (λ x c. fine x (own x c))) (λ x v c l. out x v c (let z = b.0 x in omega (arith, z, l)))),
    list_fine ss m p (unless_fault (simple s.stmt body) w) ok.1 a.1 b.1 (λ x c. kept x (own x c)) (λ x v c l. keep Program x (out x v c l)),
  )
    where
      keep : (c : Body) (x : ℕ) → has c x w ≡ true → has c x (unless_fault (simple s.stmt body) w) ≡ true
      keep c x h = unless_kept c x (simple s.stmt body) w (simple_kept c x s.stmt body w h) h

      kept : (x : ℕ) → (has body x w ≡ true) ⊎ (m x ≡ 0) → (has body x (unless_fault (simple s.stmt body) w) ≡ true) ⊎ (m x ≡ 0)
      kept x (inl h) = inl (keep body x h)
      kept x (inr h) = inr h

      fine : (x : ℕ) → (has body x w ≡ true) ⊎ (m x ≡ 0) → (has body x w ≡ true) ⊎ ((stmt_named K x s ≡ 0) ⊎ ((sets x s.stmt ≡ true) × (stmt_named K x s ≡ 1)))
      fine x (inl h) = inl h
      fine x (inr h) = inr (inl (let z = a.0 x in omega (arith, z, h)))

  block_named : (own : Bool) (U : List (List ℕ)) (b : KBlock) (done rest : List KNode) → (out-KBlock b).list ≡ done ++ rest → Named own U (λ x. count_of x (block_names own U b)) rest
  block_named own U b done [] e = tt
  block_named own U b done (s ∷ ss) e = (λ x. in_block own U x b done s ss e, block_named own U b (done ++ s ∷ []) ss (e ∙ sym (append_assoc done (s ∷ []) ss)))

-- ---- registered finalizers

module _ (K : Kernel) (proper : is_proper K ≡ true) (sc : Scope) (body : Body) (T : List (List ℕ)) where
  -- a statement of a block that may name what it names
  pub record Settled (w : World) (q : KNode) : Type 0 where
    pub ok : StmtOk K (names_of K) sc q
    pub ready : Ready K body w (AStatement sc q)
    pub outer : OuterHas K sc body T w (λ x. count_of x (stmt_names false T q.stmt))

  settled_kept : (w u : World) (q : KNode) → ((c : Body) (x : ℕ) → has c x w ≡ true → has c x u ≡ true) → Settled w q → Settled u q
  settled_kept w u q keep s = record { ok = s.ok; ready = λ x c. go x (s.ready x c); outer = λ x v c l. keep Program x (s.outer x v c l) }
    where
      go : (x : ℕ) → (has body x w ≡ true) ⊎ ((stmt_named K x q ≡ 0) ⊎ ((sets x q.stmt ≡ true) × (stmt_named K x q ≡ 1))) → (has body x u ≡ true) ⊎ ((stmt_named K x q ≡ 0) ⊎ ((sets x q.stmt ≡ true) × (stmt_named K x q ≡ 1)))
      go x (inl h) = inl (keep body x h)
      go x (inr h) = inr h

  one_fine : (q : KNode) (w : World) → Settled w q → one_reads q body w
  unfolding stmt_names
  one_fine q w s = go q.node q.stmt s.ok s.ready s.outer
    where
      go : (n : ℕ) (st : KStmt) → stmt_ok K (names_of K) sc n st ≡ true
          → ((x : ℕ) → is_cell (find x sc.seen) ≡ true → (has body x w ≡ true) ⊎ ((count_of x (stmt_names true (names_of K) st) ≡ 0) ⊎ ((sets x st ≡ true) × (count_of x (stmt_names true (names_of K) st) ≡ 1))))
          → OuterHas K sc body T w (λ x. count_of x (stmt_names false T st)) → list_reads (finalizer_list st) body (marked (Ran q.pos) w)
      go n (Finalize b) ok ready outer =
          list_fine K (in_finalizer K sc) body T (out-KBlock b).list (λ x. count_of x (block_names true (names_of K) b)) (λ x. count_of x (block_names false T b)) (marked (Ran q.pos) w) (finalizer_fine K (names_of K) sc n (Finalize b) ok)
          (block_named K (in_finalizer K sc) body T true (names_of K) b [] (out-KBlock b).list refl) (block_named K (in_finalizer K sc) body T false T b [] (out-KBlock b).list refl) (λ x c. own x (ready x c)) outer
        where
          own : (x : ℕ) → (has body x w ≡ true) ⊎ ((count_of x (block_names true (names_of K) b) ≡ 0) ⊎ ((false ≡ true) × (count_of x (block_names true (names_of K) b) ≡ 1))) → (has body x w ≡ true) ⊎ (count_of x (block_names true (names_of K) b) ≡ 0)
          own x (inl h) = inl h
          own x (inr (inl h)) = inr h
          own x (inr (inr h)) = absurd (false≢true h.0)
      go n st ok ready outer = tt

  abbrev Each : World → List KNode → Type 0
  Each w [] = Unit {0}
  Each w (s ∷ ss) = Settled w s × Each w ss

  each_kept : (w u : World) (ss : List KNode) → ((c : Body) (x : ℕ) → has c x w ≡ true → has c x u ≡ true) → Each w ss → Each u ss
  each_kept w u [] keep h = tt
  each_kept w u (s ∷ ss) keep h = (settled_kept w u s keep h.0, each_kept w u ss keep h.1)

  finalized_fine : (fin : List KNode) (w : World) → Each w fin → finalized_reads fin body w
  finalized_fine [] w h = tt
  finalized_fine (s ∷ ss) w h =
      (unless_reads w (one_reads s body w) (one_fine s w h.0), finalized_fine ss (unless_fault (runs_one s body) w) (each_kept w (unless_fault (runs_one s body) w) ss (λ c x k. finalized_keeps c x (s ∷ []) body w k) h.1))

  found_each : (w : World) (found done : List KNode) → Each w found → Each w done → Each w (finalizers_of found done)
  found_each w found [] h k = h
  found_each w found (s ∷ ss) h k = found_each w (if is_finalizer s.stmt then s ∷ found else found) ss (go (is_finalizer s.stmt)) k.1
    where
      go : (b : Bool) → Each w (if b then s ∷ found else found)
      go true = (k.0, h)
      go false = h

set_front : (x : ℕ) (front back : List KNode) → is_set front x ≡ true → is_set (front ++ back) x ≡ true
set_front x [] back h = absurd (false≢true h)
set_front x (q ∷ front) back h = go (or_cases (sets x q.stmt) (is_set front x) h) (set_front x front back)
  where
    go : (sets x q.stmt ≡ true) ⊎ (is_set front x ≡ true) → (is_set front x ≡ true → is_set (front ++ back) x ≡ true) → is_set (q ∷ (front ++ back)) x ≡ true
    go (inl e) ih = or_left (sets x q.stmt) (is_set (front ++ back) x) e
    go (inr e) ih = or_right (sets x q.stmt) (is_set (front ++ back) x) (ih e)

-- at each of those statements, those before it have set what they set
abbrev pub SetBefore : KBlock → Body → World → (done : List KNode) → Type 0
SetBefore b body w done = (front : List KNode) (q : KNode) (back : List KNode) → done ≡ front ++ q ∷ back → (x : ℕ) → declares x (out-KBlock b).decls ≡ true → is_set front x ≡ true → has body x w ≡ true

pub set_before : (b : KBlock) (body : Body) (w : World) (done : List KNode) → ((x : ℕ) → declares x (out-KBlock b).decls ≡ true → is_set done x ≡ true → has body x w ≡ true) → SetBefore b body w done
set_before b body w done need front q back e x d i = need x d (subst (λ l. is_set l x ≡ true) (sym e) (set_front x front (q ∷ back) i))

module _ (K : Kernel) (proper : is_proper K ≡ true) (turn : Bool) (sc : Scope) (b : KBlock) (body : Body) (T : List (List ℕ)) (w : World) (ok : BlockOk K (names_of K) sc b) (ready : Ready K body w (ABlock turn sc b)) where
  each_done : (done rest front back : List KNode) → (out-KBlock b).list ≡ done ++ rest → done ≡ front ++ back → SetBefore b body w done
      → OuterHas K sc body T w (λ x. count_of x (block_names false T b)) → Each K proper (block_scope sc b) body T w back
  each_done done rest front [] e f need out = tt
  each_done done rest front (q ∷ back) e f need out =
      let at : (out-KBlock b).list ≡ front ++ q ∷ (back ++ rest) = e ∙ (ap (λ l. l ++ rest) f ∙ append_assoc front (q ∷ back) rest) in (
        record {
          ok = list_sound K proper sc b front q (back ++ rest) ok at;
          ready = ready_list K body w turn sc b front q (back ++ rest) ok at (need front q back f) ready;
          outer = λ x v c l. out x v c (let z = in_block false T x b front q (back ++ rest) at in omega (arith, z, l));
        },
        each_done done rest (front ++ q ∷ []) back e (f ∙ sym (append_assoc front (q ∷ []) back)) need out,
      )

  -- those of the statements of a block that are done, each of which has set what it sets
  pub registered_reads : (done rest : List KNode) → (out-KBlock b).list ≡ done ++ rest → SetBefore b body w done
      → OuterHas K sc body T w (λ x. count_of x (block_names false T b)) → finalized_reads (finalizers_of [] done) body w
  registered_reads done rest e need out =
      finalized_fine K proper (block_scope sc b) body T (finalizers_of [] done) w (found_each K proper (block_scope sc b) body T w [] done tt (each_done done rest [] done e refl need out))
