-- Where no declaration of a proper kernel has a slot, no statement sets it but the head of a loop, and no finalizer.
use Rattle.std.proofs.Common.{◌≡◌, refl, sym, ap, ◌∙◌, subst, ℕ, Bool, true, false, not, if◌then◌else◌, ◌==◌, ◌&&◌, List, [], ◌∷◌, ◌++◌, Option, Some, None, arith, eq-eqb, eqb-true}
use Rattle.std.proofs.lemmas.Bool.{and_parts, false≢true}
use Rattle.ceu_base.specs.declared.kinds.Ty.{Ty}
use Rattle.ceu_base.specs.declared.kinds.Ty.TheVariants as ty
use Rattle.ceu_tree.specs.declared.kernel.Kernel.{Kernel}
use Rattle.ceu_tree.specs.declared.kernel.KCode.{KCode}
use Rattle.ceu_tree.specs.declared.kernel.KDecl.{KDecl}
use Rattle.ceu_tree.specs.declared.kernel.KLoop.{KLoop}
use Rattle.ceu_tree.specs.declared.kernel.KLoop.TheVariants as turns
use Rattle.ceu_tree.specs.declared.kernel.Loc.{Loc}
use Rattle.ceu_tree.specs.declared.kernel.KNode.{KNode}
use Rattle.ceu_tree.specs.declared.kernel.KBlock.{KBlock, out-KBlock}
use Rattle.ceu_tree.specs.declared.kernel.KStmt.{KStmt, out-KStmt, Assign, AwaitIn, AwaitTime, AwaitEvent, AwaitCode, Do, Spawn, Unset, Finalize}
use Rattle.ceu_tree.specs.declared.kernel.KStmt.TheOpen.{KStmt-F}
use Rattle.ceu_tree.specs.Residual.{Body}
use Rattle.ceu_tree.specs.Focus.{Frame, Focus}
use Rattle.ceu_tree.specs.Leaf.{Layer, target_of, code_at}
use Rattle.ceu_tree.specs.Abort.{finalizer_list}
use Rattle.ceu_tree.specs.Legal.{finalizers_of, is_finalizer}
use Rattle.ceu_tree.specs.Numbering.{decl_slots}
use Rattle.ceu_tree.specs.Typing.{same_ty, holds_all}
use Rattle.ceu_tree.specs.Proper.{Scope, Seen, SlotKind, IsVariable, IsLoopVariable, IsPool, IsAlias, find, declared_seen, slot_kind, pool_slots, pools_seen, variable_ty, has_ty, is_loop_variable, is_alias, alias_takes, is_pool_of, is_in_code, is_trail, outside_finalizers, looked_up, takes, takes_if, gives, gives_all, on_ty, on_code, is_above, time_ok, port_ty, event_at, event_seen, in_finalizer, with_aim, do_aim, stmt_ok, block_ok}
use Rattle.laws_meaning_basics.specs.Shape.{Part, ABlock, AStatement, AnEnd, block_scope, part_scope, turn_scope, code_scope, program_part, opens_part, FrameFits, around_statement, around_end, around_instance, around_part, around_turn, around_call, around_branch, Around, nothing_around, one_around}
use Rattle.laws_meaning_basics.proofs.Static.{names_of, block_static, nodes_fine, BlockOk, StmtOk}
use Rattle.laws_meaning_instances.proofs.Living.{often, once_true}
use Rattle.laws_meaning_counters.proofs.Cells.{target_apart, apart_from, simple_apart, all_apart, finalizers_apart}
use Rattle.laws_meaning_counters.proofs.Marks.{stmt_marks, block_marks, kernel_marks, nodes_marks, block_marks_is, nodes_none, list_none, layer_none, part_none, each_none, code_none}
use denote.Hole.Carrier

left_of : (p q : Bool) → (p && q) ≡ true → p ≡ true
left_of p q h = (and_parts p q h).0

right_of : (p q : Bool) → (p && q) ≡ true → q ≡ true
right_of p q h = (and_parts p q h).1

module _ (b : Body) (x : ℕ) where
  -- ---- what is seen

  -- a slot that is not seen, or as a loop's variable
  abbrev pub no_cell : Option SlotKind → Bool
  no_cell None = true
  no_cell (Some IsLoopVariable) = true
  no_cell k = false

  abbrev pub Free : Scope → Type 0
  Free sc = no_cell (find x sc.seen) ≡ true

  find_past : (pools : List ℕ) (ds : List KDecl) (seen : List Seen) → often x (decl_slots ds) ≡ 0 → find x (declared_seen pools ds seen) ≡ find x seen
  find_past pools [] seen h = refl
  find_past pools (d ∷ ds) seen h = go (d.slot == x) refl (find_past pools ds seen (omega (arith, h)))
    where
      go : (t : Bool) → (d.slot == x) ≡ t → find x (declared_seen pools ds seen) ≡ find x seen → (if t then Some (slot_kind pools d.kind) else find x (declared_seen pools ds seen)) ≡ find x seen
      go true e ih = absurd (let o = once_true x d.slot (eq-eqb x d.slot (sym (eqb-true d.slot x e))) in omega (arith, o, h))
      go false e ih = ih

  pub free_block : (sc : Scope) (c : KBlock) → block_marks true x c ≡ 0 → Free sc → Free (block_scope sc c)
  free_block sc c h f =
      ap no_cell (find_past (pool_slots (out-KBlock c).decls ++ pools_seen sc.seen) (out-KBlock c).decls sc.seen (let e = block_marks_is true x c in omega (arith, e, h))) ∙ f

  pub free_turn : (K : Kernel) (sc : Scope) (n : ℕ) (k : KLoop) → Free sc → Free (turn_scope K sc n k)
  free_turn K sc n turns.Free f = f
  free_turn K sc n (turns.Times slot m) f = f
  free_turn K sc n (turns.Range i next end open_a y z open_b) f = go (i == x)
    where
      go : (t : Bool) → no_cell (if t then Some IsLoopVariable else find x sc.seen) ≡ true
      go true = refl
      go false = f

  pub free_part : (K : Kernel) (sc : Scope) (n : ℕ) (layer : Layer) (c : KBlock) → opens_part layer c → Free sc → Free (part_scope K sc n layer)
  free_part K sc n (KStmt-F.Do t d) c o f = f
  free_part K sc n (KStmt-F.If arms last) c o f = f
  free_part K sc n layer c o f = elim o [ ]

  -- ---- targets

  takes_kind : (t u : Ty) (o : Option SlotKind) → (has_ty (variable_ty o) u && not (is_loop_variable o) && not (same_ty t ty.None) && holds_all u t) ≡ true → no_cell o ≡ true → ⊥
  takes_kind t u None h f = false≢true h
  takes_kind t u (Some IsLoopVariable) h f = false≢true (right_of (has_ty (Some ty.S32) u) false (left_of _ (not (same_ty t ty.None)) (left_of _ (holds_all u t) h)))
  takes_kind t u (Some (IsVariable v)) h f = false≢true f
  takes_kind t u (Some (IsPool c)) h f = false≢true f
  takes_kind t u (Some (IsAlias c ps)) h f = false≢true f

  alias_kind : (o : Option SlotKind) → is_alias o ≡ true → no_cell o ≡ true → ⊥
  alias_kind None h f = false≢true h
  alias_kind (Some IsLoopVariable) h f = false≢true h
  alias_kind (Some (IsVariable v)) h f = false≢true f
  alias_kind (Some (IsPool c)) h f = false≢true f
  alias_kind (Some (IsAlias c ps)) h f = false≢true f

  spawn_kind : (c pool : ℕ) (o : Option SlotKind) → alias_takes c pool o ≡ true → no_cell o ≡ true → ⊥
  spawn_kind c pool None h f = false≢true h
  spawn_kind c pool (Some IsLoopVariable) h f = false≢true h
  spawn_kind c pool (Some (IsVariable v)) h f = false≢true f
  spawn_kind c pool (Some (IsPool d)) h f = false≢true f
  spawn_kind c pool (Some (IsAlias d ps)) h f = false≢true f

  module _ (K : Kernel) (clean : kernel_marks true x K ≡ 0) where
    program_free : no_cell (find x (declared_seen [] (out-KBlock K.body).decls [])) ≡ true
    program_free = ap no_cell (find_past [] (out-KBlock K.body).decls [] (let e = block_marks_is true x K.body in omega (arith, e, clean)))

    looked_free : (sc : Scope) (l : Loc) → Free sc → l.slot ≡ x → no_cell (looked_up K sc l) ≡ true
    looked_free sc l f e = go l.outer (is_in_code sc.code)
      where
        go : (s t : Bool) → no_cell (if s then (if t then find l.slot (declared_seen [] (out-KBlock K.body).decls []) else None) else find l.slot sc.seen) ≡ true
        go true true = subst (λ y. no_cell (find y (declared_seen [] (out-KBlock K.body).decls [])) ≡ true) (sym e) program_free
        go true false = refl
        go false t = subst (λ y. no_cell (find y sc.seen) ≡ true) (sym e) f

    takes_apart : (sc : Scope) (t : Ty) (l : Loc) → takes K sc t l ≡ true → Free sc → l.slot ≡ x → ⊥
    takes_apart sc t l h f e = takes_kind t l.ty (looked_up K sc l) h (looked_free sc l f e)

    takes_if_apart : (sc : Scope) (u : Ty) (t : Option Loc) → takes_if K sc u t ≡ true → Free sc → target_apart b x t
    takes_if_apart sc u None h f = tt
    takes_if_apart sc u (Some l) h f = takes_apart sc u l h f

    on_ty_some : (o : Option Ty) (g : Ty → Bool) (P : Type 0) → on_ty K o g ≡ true → ((u : Ty) → g u ≡ true → P) → P
    on_ty_some None g P h k = absurd (false≢true h)
    on_ty_some (Some u) g P h k = k u h

    on_code_some : (o : Option KCode) (g : KCode → Bool) (P : Type 0) → (elim o [ None ↦ false | Some k ↦ g k ]) ≡ true → ((k : KCode) → g k ≡ true → P) → P
    on_code_some None g P h k = absurd (false≢true h)
    on_code_some (Some c) g P h k = k c h

    do_target : (sc : Scope) (t : Option Loc) → (elim t [ None ↦ true | Some l ↦ takes K sc l.ty l ]) ≡ true → Free sc → target_apart b x t
    do_target sc None h f = tt
    do_target sc (Some l) h f = takes_apart sc l.ty l h f

    alias_target : (sc : Scope) (c pool : ℕ) (a : Option ℕ) → (elim a [ None ↦ true | Some a ↦ alias_takes c pool (find a sc.seen) ]) ≡ true → Free sc → apart_from b x a
    alias_target sc c pool None h f = tt
    alias_target sc c pool (Some a) h f = λ e. spawn_kind c pool (find a sc.seen) h (subst (λ y. no_cell (find y sc.seen) ≡ true) (sym e) f)

    -- a statement that ends, or is left, sets another slot
    stmt_target : (sc : Scope) (n : ℕ) (st : KStmt) → stmt_ok K (names_of K) sc n st ≡ true → Free sc → target_apart b x (target_of (out-KStmt st))
    unfolding stmt_ok out-KStmt Carrier.out
    stmt_target sc n (AwaitIn k t) h f = on_ty_some (port_ty K k K.inputs) (λ u. takes_if K sc u t) (target_apart b x t) (right_of (is_trail sc.place) _ h) (λ u q. takes_if_apart sc u t q f)
    stmt_target sc n (AwaitTime e u t) h f = takes_if_apart sc ty.S32 t (right_of (is_trail sc.place && time_ok K sc e u) (takes_if K sc ty.S32 t) h) f
    stmt_target sc n (AwaitEvent e t) h f =
        on_ty_some (event_seen K sc (event_at K e K.events)) (λ u. takes_if K sc u t) (target_apart b x t) (right_of (is_trail sc.place) _ h) (λ u q. takes_if_apart sc u t q f)
    stmt_target sc n (AwaitCode c es frame t) h f =
        on_code_some (code_at c K.codes) (λ k. gives_all K sc k.params es && takes_if K sc k.result t) (target_apart b x t) (right_of (is_above K c sc.code) _ (right_of (is_trail sc.place) _ h))
        (λ k q. takes_if_apart sc k.result t (right_of (gives_all K sc k.params es) (takes_if K sc k.result t) q) f)
    stmt_target sc n (Do t c) h f = do_target sc t (right_of (outside_finalizers sc.place) _ (left_of _ (block_ok K (names_of K) (with_aim (do_aim K n t) sc) c) h)) f
    stmt_target sc n st h f = tt

    pub target_clear : (sc : Scope) (s : KNode) (layer : Layer) → out-KStmt s.stmt ≡ layer → StmtOk K (names_of K) sc s → Free sc → target_apart b x (target_of layer)
    target_clear sc s layer e h f = subst (λ l. target_apart b x (target_of l)) e (stmt_target sc s.node s.stmt h f)

    -- nor does one that starts
    abbrev pub starts_apart : Layer → Type 0
    starts_apart (KStmt-F.Assign l e) = l.slot ≡ x → ⊥
    starts_apart (KStmt-F.Unset c) = c ≡ x → ⊥
    starts_apart (KStmt-F.Spawn c es p a) = apart_from b x a
    starts_apart layer = Unit {0}

    stmt_starts : (sc : Scope) (n : ℕ) (st : KStmt) → stmt_ok K (names_of K) sc n st ≡ true → Free sc → starts_apart (out-KStmt st)
    unfolding stmt_ok out-KStmt Carrier.out
    stmt_starts sc n (Assign l e) h f = takes_apart sc l.ty l (left_of (takes K sc l.ty l) (gives K sc l.ty e) h) f
    stmt_starts sc n (Unset c) h f = λ e. alias_kind (find c sc.seen) (right_of (is_trail sc.place) _ h) (subst (λ y. no_cell (find y sc.seen) ≡ true) (sym e) f)
    stmt_starts sc n (Spawn c es p a) h f = alias_target sc c p a (right_of (is_trail sc.place && on_code K sc c (λ k. gives_all K sc k.params es) && is_pool_of c (find p sc.seen)) _ h) f
    stmt_starts sc n st h f = tt

    pub starts_clear : (sc : Scope) (s : KNode) (layer : Layer) → out-KStmt s.stmt ≡ layer → StmtOk K (names_of K) sc s → Free sc → starts_apart layer
    starts_clear sc s layer e h f = subst starts_apart e (stmt_starts sc s.node s.stmt h f)

    -- ---- finalizers

    stmt_simple : (sc : Scope) (n : ℕ) (st : KStmt) → stmt_ok K (names_of K) sc n st ≡ true → Free sc → simple_apart b x st
    unfolding stmt_ok
    stmt_simple sc n (Assign l e) h f = takes_apart sc l.ty l (left_of (takes K sc l.ty l) (gives K sc l.ty e) h) f
    stmt_simple sc n st h f = tt

    list_simple : (sc : Scope) (ss : List KNode) → nodes_fine K (names_of K) sc ss → Free sc → all_apart b x ss
    list_simple sc [] h f = tt
    list_simple sc (s ∷ ss) h f = (stmt_simple sc s.node s.stmt h.0 f, list_simple sc ss h.1 f)

    block_simple : (sc : Scope) (c : KBlock) → BlockOk K (names_of K) (in_finalizer K sc) c → block_marks true x c ≡ 0 → Free sc → all_apart b x (out-KBlock c).list
    block_simple sc c h m f = list_simple (block_scope (in_finalizer K sc) c) (out-KBlock c).list (block_static K (names_of K) (in_finalizer K sc) c h) (free_block (in_finalizer K sc) c m f)

    stmt_finalizer : (sc : Scope) (n : ℕ) (st : KStmt) → stmt_ok K (names_of K) sc n st ≡ true → stmt_marks true x st ≡ 0 → Free sc → all_apart b x (finalizer_list st)
    unfolding stmt_ok stmt_marks
    stmt_finalizer sc n (Finalize c) h m f = block_simple sc c (right_of (is_trail sc.place) (block_ok K (names_of K) (in_finalizer K sc) c) h) m f
    stmt_finalizer sc n st h m f = tt

    found_finalizers : (sc : Scope) (found ss : List KNode) → finalizers_apart b x found → nodes_fine K (names_of K) sc ss → nodes_marks true x ss ≡ 0 → Free sc → finalizers_apart b x (finalizers_of found ss)
    found_finalizers sc found [] k h m f = k
    found_finalizers sc found (s ∷ ss) k h m f = found_finalizers sc (if is_finalizer s.stmt then s ∷ found else found) ss (go (is_finalizer s.stmt)) h.1 (omega (arith, m)) f
      where
        go : (t : Bool) → finalizers_apart b x (if t then s ∷ found else found)
        go true = (stmt_finalizer sc s.node s.stmt h.0 (omega (arith, m)) f, k)
        go false = k

    first_fine : (sc : Scope) (done rest : List KNode) → nodes_fine K (names_of K) sc (done ++ rest) → nodes_fine K (names_of K) sc done
    first_fine sc [] rest h = tt
    first_fine sc (s ∷ done) rest h = (h.0, first_fine sc done rest h.1)

    first_marks : (done rest : List KNode) → nodes_marks true x (done ++ rest) ≡ 0 → nodes_marks true x done ≡ 0
    first_marks [] rest h = refl
    first_marks (s ∷ done) rest h = let a = first_marks done rest (omega (arith, h)) in omega (arith, a, h)

    -- ---- parts

    abbrev pub Clear : Part → Type 0
    Clear (ABlock turn sc c) = Free sc × (block_marks true x c ≡ 0)
    Clear (AStatement sc s) = Free sc × (stmt_marks true x s.stmt ≡ 0)
    Clear AnEnd = Unit {0}

    pub block_finalizers : (turn : Bool) (sc : Scope) (c : KBlock) (fin done rest : List KNode) → (out-KBlock c).list ≡ done ++ rest → fin ≡ finalizers_of [] done → BlockOk K (names_of K) sc c → Clear (ABlock turn sc c) → finalizers_apart b x fin
    block_finalizers turn sc c fin done rest e q h k =
        subst (finalizers_apart b x) (sym q)
        (found_finalizers (block_scope sc c) [] done tt (first_fine (block_scope sc c) done rest (subst (nodes_fine K (names_of K) (block_scope sc c)) e (block_static K (names_of K) sc c h)))
        (first_marks done rest (sym (ap (nodes_marks true x) e) ∙ nodes_none true x c k.1)) (free_block sc c k.1 k.0))

    pub block_decls : (c : KBlock) → block_marks true x c ≡ 0 → often x (decl_slots (out-KBlock c).decls) ≡ 0
    block_decls c h = let e = block_marks_is true x c in omega (arith, e, h)

    pub code_params : (c : ℕ) (k : KCode) → code_at c K.codes ≡ Some k → often x (decl_slots k.params) ≡ 0
    code_params c k e = (code_none true x c K.codes k e (omega (arith, clean))).0

    pub code_clear : (c : ℕ) (k : KCode) → code_at c K.codes ≡ Some k → Free (code_scope K c k) × (block_marks true x k.body ≡ 0)
    code_clear c k e = let a = code_none true x c K.codes k e (omega (arith, clean)) in (ap no_cell (find_past (pool_slots k.params ++ []) k.params [] a.0), a.1)

    pub program_clear : Clear (program_part K)
    program_clear = (refl, omega (arith, clean))

    pub list_clear : (sc : Scope) (c : KBlock) (done : List KNode) (s : KNode) (rest : List KNode) → (out-KBlock c).list ≡ done ++ s ∷ rest → Free sc → block_marks true x c ≡ 0 → Free (block_scope sc c) × (stmt_marks true x s.stmt ≡ 0)
    list_clear sc c done s rest e f m = (free_block sc c m f, list_none true x c done s rest e m)

    pub frame_clear : {t : ℕ} {fr : Frame} {d e : Part} → FrameFits K t fr d e → Clear d → Clear e
    frame_clear (around_statement {sc = sc} {b = c} {rest = rest} {s = s} done e f all) h = list_clear sc c done s rest e h.0 h.1
    frame_clear (around_end f all) h = tt
    frame_clear (around_instance {seat = seat} done k e f r before after p c) h = code_clear seat.code k c
    frame_clear (around_part {sc = sc} {s = s} c o) h = (free_part K sc s.node (out-KStmt s.stmt) c o h.0, part_none true x (out-KStmt s.stmt) c o (layer_none true x s (out-KStmt s.stmt) refl h.1))
    frame_clear (around_turn {sc = sc} {s = s} k c e q) h = (free_turn K sc s.node k h.0, omega (arith, layer_none true x s (KStmt-F.Loop k c) e h.1))
    frame_clear (around_call c es f t k e g) h = code_clear c k g
    frame_clear (around_branch {sc = sc} {s = s} k slot bs c cs e y z) h = (h.0, (each_none true x bs c cs (layer_none true x s (KStmt-F.Par k slot (bs ++ c ∷ cs)) e h.1)).1)

    pub around_clear : {A : Type 0} {t : ℕ} {f : Focus A} {d e : Part} → Around K t A f d e → Clear d → Clear e
    around_clear nothing_around h = h
    around_clear (one_around a more) h = around_clear more (frame_clear a h)
