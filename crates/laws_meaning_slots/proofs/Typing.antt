-- What an expression gives is a value of its type where each variable that holds a value holds one of its type; and an abortion keeps it so.
use Rattle.std.proofs.Common.{◌≡◌, refl, sym, ap, ◌∙◌, subst, ◌≤◌, ℕ, ℤ, pos, Bool, true, false, not, if◌then◌else◌, ◌==◌, ◌||◌, inl, inr, List, [], ◌∷◌, Option, Some, None, Ok, Err, arith, eqb-true}
use Rattle.std.proofs.lemmas.Bool.{and_parts, false≢true}
use Rattle.ceu_base.specs.declared.kinds.Pos.{Pos}
use Rattle.ceu_base.specs.declared.kinds.Fault.{Fault}
use Rattle.ceu_base.specs.declared.kinds.Mark.TheVariants.{Output, Ran}
use Rattle.ceu_base.specs.declared.kinds.Ty.{Ty}
use Rattle.ceu_base.specs.declared.kinds.Ty.TheVariants as ty
use Rattle.ceu_base.specs.Values.{IsValue}
use Rattle.ceu_tree.specs.declared.kernel.Kernel.{Kernel}
use Rattle.ceu_tree.specs.declared.kernel.KDecl.{KDecl}
use Rattle.ceu_tree.specs.declared.kernel.KKind.{KKind}
use Rattle.ceu_tree.specs.declared.kernel.KKind.TheVariants as kind
use Rattle.ceu_tree.specs.declared.kernel.KLoop.{KLoop}
use Rattle.ceu_tree.specs.declared.kernel.KLoop.TheVariants as turns
use Rattle.ceu_tree.specs.declared.kernel.Loc.{Loc}
use Rattle.ceu_tree.specs.declared.kernel.ParKind.{ParKind}
use Rattle.ceu_tree.specs.declared.kernel.KExp.{KExp}
use Rattle.ceu_tree.specs.declared.kernel.KExpNode.{KExpNode, Row_of-KExp, end_of-KExp, more_of-KExp, Const, Read, Alive, One', Two', As'}
use Rattle.ceu_tree.specs.declared.kernel.KNode.{KNode}
use Rattle.ceu_tree.specs.declared.kernel.KBlock.{KBlock, out-KBlock}
use Rattle.ceu_tree.specs.declared.kernel.KStmt as kernel
use Rattle.ceu_tree.specs.declared.kernel.KStmt.{KStmt, Assign, Out, out-KStmt}
use Rattle.ceu_tree.specs.declared.kernel.KStmt.TheOpen.{KStmt-F}
use Rattle.ceu_tree.specs.Residual.{Body, Awaited, Spawned, same_body, Residual, Branches, Instances}
use Rattle.ceu_tree.specs.World.{Cell, Holds, NotSet, Names, Held, World, marked, is_at, look, assign, place_of, forget, forget_declared, forget_body, dead}
use Rattle.ceu_tree.specs.Expressions.{Answer, number_in, value_of, value_if}
use Rattle.ceu_tree.specs.Typing.{same_ty, holds_all, node_typed, operand_typed, operand_open, operand_ty, fits1, fits2, is_open, typed, wanted}
use Rattle.ceu_tree.specs.Abort.{or_fault, simple, unless_fault, all_simple, finalizer_list, runs_one, finalized, forget_turns, forget_loop, aborted, branches_aborted, instances_aborted}
use Rattle.ceu_tree.specs.Proper.{SlotKind, IsVariable, IsLoopVariable, IsPool, IsAlias, Seen, Scope, find, pools_seen, slot_kind, declared_seen, variable_ty, has_ty, is_in_code, reads, asks, takes, gives, in_finalizer, stmt_ok, is_proper}
use Rattle.laws_meaning_basics.specs.Shape.{Part, block_scope, Fits, to_begin, to_turn, in_list, to_finish, at_input, at_time, at_event, at_forever, at_async, in_part, in_turn, in_call, in_par, EachFits, no_more, an_ended, a_branch, AllFit, none_lives, one_lives}
use Rattle.laws_meaning_basics.proofs.Static.{nodes_fine, each_fine, names_of, code_static}
use Rattle.laws_meaning_basics.proofs.UpFits.{Sound, layer_of, list_sound, part_sound}
use Rattle.laws_meaning_values.specs.Results.{NodeReads, OperandReads, IsResult}
use Rattle.laws_meaning_values.proofs.Operators.{same_is, held_value}
use Rattle.laws_meaning_values.proofs.Results.{results_are_values}
use Rattle.laws_meaning_slots.specs.Declared.{inner_pools, decl_rows, block_rows, rows, kind_at}
use Rattle.laws_meaning_slots.specs.Typed.{cell_typed, is_typed}
use Rattle.laws_meaning_slots.proofs.Slots.{once}
use Rattle.laws_meaning_slots.proofs.Values.{held, Lie, held_at, lie_filter, lie_put}
use Rattle.laws_meaning_slots.proofs.Aborts.{LieIn, registered_fine}
use Rattle.laws_meaning_slots.proofs.Writes.{finalizer_fine}
use Rattle.laws_meaning_slots.proofs.Rows.{Incl, incl_left, incl_right, blocks_all_rows, kind_of_row}
use Rattle.laws_meaning_slots.proofs.Known.{row, KnownSeen, Known, decls_known, block_known, list_known, parts_known, part_known, turn_known, async_known, code_known, program_known}

-- 0 is a value of every type
pub zero_value : (t : Ty) → IsValue t (pos 0)
zero_value ty.None = refl
zero_value ty.Bool = refl
zero_value ty.U8 = refl
zero_value ty.S8 = refl
zero_value ty.U16 = refl
zero_value ty.S16 = refl
zero_value ty.U32 = refl
zero_value ty.S32 = refl
zero_value ty.U64 = refl
zero_value ty.S64 = refl

some_is : {A : Type 0} (a b : A) → Some a ≡ Some b → a ≡ b
some_is a b e = ap (λ o. elim o [ None ↦ a | Some x ↦ x ]) e

module _ (K : Kernel) (proper : is_proper K ≡ true) where
  abbrev pub typed_count : Held → ℕ
  typed_count h = once (is_typed K h)

  abbrev pub AllTyped : World → Type 0
  AllTyped w = LieIn typed_count w

  -- the type that a slot's number tells
  abbrev pub ty_at : ℕ → Option Ty
  ty_at slot = variable_ty (kind_at slot (rows K))

  -- ---- a variable that is named

  ty_is : (o : Option Ty) (t : Ty) → has_ty o t ≡ true → o ≡ Some t
  ty_is None t h = absurd (false≢true h)
  ty_is (Some u) t h = ap Some (same_is u t h)

  seen_ty : (seen : List Seen) (slot : ℕ) (t : Ty) → KnownSeen K proper seen → variable_ty (find slot seen) ≡ Some t → ty_at slot ≡ Some t
  seen_ty seen slot t k e = go (find slot seen) refl e
    where
      go : (o : Option SlotKind) → find slot seen ≡ o → variable_ty o ≡ Some t → ty_at slot ≡ Some t
      go None q z = absurd (cc)
      go (Some x) q z = ap variable_ty (k slot x q) ∙ z

  kind_ty : (ps qs : List ℕ) (k : KKind) → variable_ty (Some (slot_kind ps k)) ≡ variable_ty (Some (slot_kind qs k))
  kind_ty ps qs (kind.Var t) = refl
  kind_ty ps qs (kind.Alias c) = refl
  kind_ty ps qs (kind.Pool n c) = refl

  declared_ty : (ps qs : List ℕ) (ds : List KDecl) (slot : ℕ) (t : Ty) → Incl (decl_rows qs ds) (rows K)
      → variable_ty (find slot (declared_seen ps ds [])) ≡ Some t → ty_at slot ≡ Some t
  declared_ty ps qs [] slot t i e = absurd (cc)
  declared_ty ps qs (d ∷ ds) slot t i e = go (d.slot == slot) refl e (declared_ty ps qs ds slot t (λ r m. i r (inr m)))
    where
      go : (b : Bool) → (d.slot == slot) ≡ b → variable_ty (if b then Some (slot_kind ps d.kind) else find slot (declared_seen ps ds [])) ≡ Some t
          → (variable_ty (find slot (declared_seen ps ds [])) ≡ Some t → ty_at slot ≡ Some t) → ty_at slot ≡ Some t
      go true q z ih =
          subst (λ j. ty_at j ≡ Some t) (eqb-true d.slot slot q) (ap variable_ty (kind_of_row K proper (row d.slot (slot_kind qs d.kind)) (i (row d.slot (slot_kind qs d.kind)) (inl refl))) ∙ kind_ty qs ps d.kind ∙ z)
      go false q z ih = ih z

  pub loc_ty : (sc : Scope) (l : Loc) → KnownSeen K proper sc.seen → reads K sc l ≡ true → ty_at l.slot ≡ Some l.ty
  loc_ty sc l k h = go l.outer h
    where
      code : (b : Bool) → has_ty (variable_ty (if b then find l.slot (declared_seen [] (out-KBlock K.body).decls []) else None)) l.ty ≡ true
          → ty_at l.slot ≡ Some l.ty
      code true e = declared_ty [] (inner_pools [] (out-KBlock K.body).decls) (out-KBlock K.body).decls l.slot l.ty (decls_known K proper [] K.body (program_known K proper).0) (ty_is _ l.ty e)
      code false e = absurd (false≢true e)

      go : (b : Bool)
          → has_ty (variable_ty (if b then (if is_in_code sc.code then find l.slot (declared_seen [] (out-KBlock K.body).decls []) else None) else find l.slot sc.seen)) l.ty ≡ true
          → ty_at l.slot ≡ Some l.ty
      go true e = code (is_in_code sc.code) e
      go false e = seen_ty sc.seen l.slot l.ty k (ty_is _ l.ty e)

  -- ---- values that are read, and that are put

  cell_value : (o : Option SlotKind) (t : Ty) (v : ℤ) → variable_ty o ≡ Some t → cell_typed o (Holds v) ≡ true → IsValue t v
  cell_value None t v e h = absurd (cc)
  cell_value (Some (IsVariable u)) t v e h = subst (λ x. IsValue x v) (some_is u t e) h
  cell_value (Some IsLoopVariable) t v e h = subst (λ x. IsValue x v) (some_is ty.S32 t e) h
  cell_value (Some (IsPool c)) t v e h = absurd (cc)
  cell_value (Some (IsAlias c ps)) t v e h = absurd (cc)

  value_cell : (o : Option SlotKind) (t : Ty) (v : ℤ) → variable_ty o ≡ Some t → IsValue t v → cell_typed o (Holds v) ≡ true
  value_cell None t v e h = absurd (cc)
  value_cell (Some (IsVariable u)) t v e h = subst (λ x. IsValue x v) (sym (some_is u t e)) h
  value_cell (Some IsLoopVariable) t v e h = subst (λ x. IsValue x v) (sym (some_is ty.S32 t e)) h
  value_cell (Some (IsPool c)) t v e h = absurd (cc)
  value_cell (Some (IsAlias c ps)) t v e h = absurd (cc)

  pub look_typed : (body : Body) (slot : ℕ) (c : Cell) (hs : List Held) → Lie typed_count hs → look body slot hs ≡ Some c → cell_typed (kind_at slot (rows K)) c ≡ true
  look_typed body slot c [] l e = absurd (cc)
  look_typed body slot c (h ∷ hs) l e = go (is_at body slot h) refl e (look_typed body slot c hs l.1)
    where
      passed : (b : Bool) → 1 ≤ once b → b ≡ true
      passed true n = refl
      passed false n = absurd (omega (arith, n))

      go : (b : Bool) → is_at body slot h ≡ b → (if b then Some h.cell else look body slot hs) ≡ Some c
          → (look body slot hs ≡ Some c → cell_typed (kind_at slot (rows K)) c ≡ true) → cell_typed (kind_at slot (rows K)) c ≡ true
      go true q z ih = subst (λ x. is_typed K x ≡ true) (sym (held_at body slot h.cell h q) ∙ ap (held body slot) (some_is h.cell c z)) (passed (is_typed K h) l.0)
      go false q z ih = ih z

  number_value : (slot : ℕ) (body : Body) (t : Ty) (w : World) → ty_at slot ≡ Some t → AllTyped w → IsValue t (number_in (look body slot w.values))
  number_value slot body t w e l = go (look body slot w.values) refl
    where
      go : (o : Option Cell) → look body slot w.values ≡ o → IsValue t (number_in o)
      go None q = zero_value t
      go (Some NotSet) q = zero_value t
      go (Some (Names k)) q = zero_value t
      go (Some (Holds v)) q = cell_value (kind_at slot (rows K)) t v e (look_typed body slot (Holds v) w.values l q)

  module _ (sc : Scope) (known : KnownSeen K proper sc.seen) (body : Body) (w : World) (l : AllTyped w) where
    mutual
      unfolding node_typed NodeReads

      pub node_reads : (e : KExpNode) (t : Ty) → node_typed (reads K sc) (asks K sc) e t ≡ true → NodeReads body w e
      node_reads (Const v) t h = tt
      node_reads (Read x) t h = number_value x.slot (place_of x body) x.ty w (loc_ty sc x known (and_parts (same_ty x.ty t) (reads K sc x) h).1) l
      node_reads (Alive c) t h = tt
      node_reads (One' op _ a) t h = operand_reads a (and_parts (operand_typed (reads K sc) (asks K sc) a) (fits1 op t (operand_ty a)) h).0
      node_reads (Two' op _ a _ b) t h =
          let p = and_parts (operand_typed (reads K sc) (asks K sc) a) (operand_typed (reads K sc) (asks K sc) b) (and_parts _ (fits2 op (operand_open a) (operand_open b) t (operand_ty a) (operand_ty b)) h).0 in (operand_reads a p.0, operand_reads b p.1)
      node_reads (As' _ a) t h =
          operand_reads a (and_parts (operand_typed (reads K sc) (asks K sc) a) (not (same_ty t ty.None)) (and_parts _ (not (operand_open a) || same_ty (operand_ty a) ty.S32) h).0).0

      operand_reads : {n : _} (a : Row_of-KExp n) → operand_typed (reads K sc) (asks K sc) a ≡ true → OperandReads body w a
      operand_reads end_of-KExp h = tt
      operand_reads (more_of-KExp t p e rest) h = node_reads e t h

    -- what an expression gives to a target of that type
    pub given_value : (t : Ty) (e : KExp) (v : ℤ) → gives K sc t e ≡ true → value_of e body w ≡ Ok v → IsValue t v
    given_value t e v h q =
        let a = (and_parts _ (not (is_open e) || same_ty e.ty (wanted (reads K sc) (asks K sc) t)) h).0 in
        let b = and_parts (typed (reads K sc) (asks K sc) e) (holds_all t e.ty) a in
        held_value t e.ty v b.1 (subst (IsResult e.ty) q (results_are_values (reads K sc) (asks K sc) body w e b.0 (node_reads e.node e.ty b.0)))

  pub assign_typed : (sc : Scope) (l : Loc) (v : ℤ) (body : Body) (w : World) → KnownSeen K proper sc.seen → reads K sc l ≡ true → IsValue l.ty v → AllTyped w
      → AllTyped (assign body l v w)
  assign_typed sc l v body w k r i x =
      lie_put typed_count (place_of l body) l.slot (Holds v) w.values (let a = ap once (value_cell (kind_at l.slot (rows K)) l.ty v (loc_ty sc l k r) i) in omega (arith, a)) x

  -- ---- what is forgotten

  pub forget_body_typed : (b : Body) (w : World) → AllTyped w → AllTyped (forget_body b w)
  forget_body_typed b w x = lie_filter typed_count typed_count (λ h. not (same_body b h.body)) (λ h e n. n) w.values x

  pub dead_typed : (n : ℕ) (w : World) → AllTyped w → AllTyped (dead n w)
  dead_typed n w x = lie_filter typed_count typed_count (λ h. not (same_body (Spawned n) h.body)) (λ h e n. n) w.values x

  forget_typed : (b : Body) (s : ℕ) (w : World) → AllTyped w → AllTyped (forget b s w)
  forget_typed b s w x = lie_filter typed_count typed_count (λ h. not (is_at b s h)) (λ h e n. n) w.values x

  pub forget_declared_typed : (b : Body) (ds : List KDecl) (w : World) → AllTyped w → AllTyped (forget_declared b ds w)
  forget_declared_typed b [] w x = x
  forget_declared_typed b (d ∷ ds) w x = forget_declared_typed b ds (forget b d.slot w) (forget_typed b d.slot w x)

  forget_turns_typed : (b : Body) (k : KLoop) (w : World) → AllTyped w → AllTyped (forget_turns b k w)
  forget_turns_typed b (turns.Range i next end open_a y z open_b) w x = forget_typed b i w x
  forget_turns_typed b turns.Free w x = x
  forget_turns_typed b (turns.Times slot n) w x = x

  pub forget_loop_typed : (b : Body) (s : KStmt) (w : World) → AllTyped w → AllTyped (forget_loop b s w)
  forget_loop_typed b (kernel.Loop k c) w x = forget_turns_typed b k w x
  forget_loop_typed b _ w x = x

  -- ---- finalizers

  module _ (body : Body) (sc : Scope) (known : KnownSeen K proper sc.seen) where
    simple_typed : (n : ℕ) (st : KStmt) (w : World) → stmt_ok K (names_of K) (in_finalizer K sc) n st ≡ true → AllTyped w → AllTyped (simple st body w)
    unfolding stmt_ok
    simple_typed n (Assign l e) w h x = go (value_of e body w) refl
      where
        parts : (takes K (in_finalizer K sc) l.ty l ≡ true) × (gives K (in_finalizer K sc) l.ty e ≡ true)
        parts = and_parts (takes K (in_finalizer K sc) l.ty l) (gives K (in_finalizer K sc) l.ty e) h

        reading : reads K (in_finalizer K sc) l ≡ true
        reading = (and_parts (reads K (in_finalizer K sc) l) _ (and_parts _ _ (and_parts _ _ parts.0).0).0).0

        go : (a : Answer) → value_of e body w ≡ a → AllTyped (or_fault a w (λ v. assign body l v w))
        go (Ok v) q = assign_typed (in_finalizer K sc) l v body w known reading (given_value (in_finalizer K sc) known body w x l.ty e v parts.1 q) x
        go (Err z) q = x
    simple_typed n (Out k e) w h x = go (value_if e body w)
      where
        go : (a : Answer) → AllTyped (or_fault a w (λ v. marked (Output k v) w))
        go (Ok v) = x
        go (Err z) = x
    simple_typed n st w h x = x

    unless_typed : (f : World → World) (w : World) → AllTyped (f w) → AllTyped w → AllTyped (unless_fault f w)
    unless_typed f w h k = go w.fault
      where
        go : (o : Option (Fault × Pos)) → AllTyped (elim o [ Some e ↦ w | None ↦ f w ])
        go None = h
        go (Some e) = k

    all_simple_typed : (ss : List KNode) (w : World) → nodes_fine K (names_of K) (in_finalizer K sc) ss → AllTyped w → AllTyped (all_simple ss body w)
    all_simple_typed [] w h x = x
    all_simple_typed (s ∷ ss) w h x = all_simple_typed ss (unless_fault (simple s.stmt body) w) h.1 (unless_typed (simple s.stmt body) w (simple_typed s.node s.stmt w h.0 x) x)

    pub finalized_typed : (fin : List KNode) (w : World) → nodes_fine K (names_of K) sc fin → AllTyped w → AllTyped (finalized fin body w)
    finalized_typed [] w h x = x
    finalized_typed (s ∷ ss) w h x =
        finalized_typed ss (unless_fault (runs_one s body) w) h.1
        (unless_typed (runs_one s body) w (all_simple_typed (finalizer_list s.stmt) (marked (Ran s.pos) w) (finalizer_fine K (names_of K) sc s.node s.stmt h.0) x) x)

  -- ---- an abortion

  mutual
    unfolding aborted

    pub aborted_typed : {t : ℕ} {d : Part} {r : Residual} → Fits K t d r → Sound K proper d → Known K proper d → (body : Body) (w : World) → AllTyped w
        → AllTyped (aborted r body w)
    aborted_typed (to_begin n) h i body w x = x
    aborted_typed (to_turn n p) h i body w x = x
    aborted_typed (in_list {turn = turn} {sc = sc} {b = b} {fin = fin} {rest = rest} {all = all} {r = r} {s = s} done e f fit more) h i body w x =
        let w1 = aborted r body w in
        let w2 = instances_aborted all w1 in
        let x1 = aborted_typed more (list_sound K proper sc b done s rest h e) (list_known K proper turn sc b done s rest e i) body w x in
        forget_declared_typed body (out-KBlock b).decls (finalized fin body w2)
        (finalized_typed body (block_scope sc b) (block_known K proper sc b i.0 i.1) fin w2 (registered_fine K proper 0 sc b fin done (s ∷ rest) h e f) (all_typed_kept fit w1 x1))
    aborted_typed (to_finish n p) h i body w x = x
    aborted_typed (at_input p e) h i body w x = x
    aborted_typed (at_time p u y e) h i body w x = x
    aborted_typed (at_event p e) h i body w x = x
    aborted_typed (at_forever e) h i body w x = x
    aborted_typed (at_async {sc = sc} {s = s} b e more) h i body w x = aborted_typed more (layer_of K proper sc s (KStmt-F.Async b) e h).1 (async_known K proper sc s b e i) body w x
    aborted_typed (in_part {sc = sc} {s = s} b p more) h i body w x =
        aborted_typed more (part_sound K proper sc s.node (out-KStmt s.stmt) b (layer_of K proper sc s (out-KStmt s.stmt) refl h) p) (part_known K proper sc s b p i) body w x
    aborted_typed (in_turn {sc = sc} {s = s} {r = r} k b e q more) h i body w x =
        forget_loop_typed body s.stmt (aborted r body w) (aborted_typed more (layer_of K proper sc s (KStmt-F.Loop k b) e h) (turn_known K proper sc s k b e i) body w x)
    aborted_typed (in_call {s = s} {r = r} c es f y k e q more) h i body w x =
        forget_body_typed (Awaited body s.node) (aborted r (Awaited body s.node) w) (aborted_typed more (code_static K c k proper q) (code_known K proper c k q) (Awaited body s.node) w x)
    aborted_typed (in_par {sc = sc} {s = s} k slot bs e q more) h i body w x =
        each_typed more (layer_of K proper sc s (KStmt-F.Par k slot bs) e h).1 (parts_known K proper (pools_seen sc.seen) s (KStmt-F.Par k slot bs) e i.0) i.1 body w x

    pub each_typed : {t : ℕ} {sc : Scope} {k : ParKind} {bs : List KBlock} {rs : Branches} → EachFits K t sc k bs rs → each_fine K (names_of K) sc bs
        → Incl (blocks_all_rows (pools_seen sc.seen) bs) (rows K) → KnownSeen K proper sc.seen
        → (body : Body) (w : World) → AllTyped w → AllTyped (branches_aborted rs body w)
    each_typed no_more h i j body w x = x
    each_typed {sc = sc} (an_ended {b = b} {bs = bs} m rest) h i j body w x = each_typed rest h.1 (incl_right (block_rows (pools_seen sc.seen) b) (blocks_all_rows (pools_seen sc.seen) bs) (rows K) i) j body w x
    each_typed {sc = sc} (a_branch {b = b} {bs = bs} {more = more} fit rest) h i j body w x =
        aborted_typed fit h.0 (incl_left (block_rows (pools_seen sc.seen) b) (blocks_all_rows (pools_seen sc.seen) bs) (rows K) i, j) body (branches_aborted more body w)
        (each_typed rest h.1 (incl_right (block_rows (pools_seen sc.seen) b) (blocks_all_rows (pools_seen sc.seen) bs) (rows K) i) j body w x)

    pub all_typed_kept : {t : ℕ} {sc : Scope} {all : Instances} → AllFit K t sc all → (w : World) → AllTyped w → AllTyped (instances_aborted all w)
    all_typed_kept none_lives w x = x
    all_typed_kept (one_lives {seat = seat} {r = r} {more = more} k p e fit rest) w x =
        let w1 = instances_aborted more w in
        dead_typed seat.number (aborted r (Spawned seat.number) w1) (aborted_typed fit (code_static K seat.code k proper e) (code_known K proper seat.code k e) (Spawned seat.number) w1 (all_typed_kept rest w x))
