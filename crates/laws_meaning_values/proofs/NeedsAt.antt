-- Programs without code: the slots that a part needs lie on its ground or are seen from its place.
use Rattle.std.proofs.Common.{◌≡◌, refl, sym, ap, ◌∙◌, subst, ◌<◌, ◌≤◌, ℕ, ◌+◌, Bool, true, false, not, if◌then◌else◌, ◌==◌, ◌&&◌, ◌⊎◌, inl, inr, List, [], ◌∷◌, ◌++◌, length, Option, Some, None, arith, eqb-true}
use Rattle.std.proofs.lemmas.Bool.{and_parts, or_cases, false≢true, cases_lt}
use Rattle.ceu_base.specs.declared.kinds.Ty.{Ty}
use Rattle.ceu_base.specs.declared.kinds.Ty.TheVariants as ty
use Rattle.ceu_tree.specs.declared.kernel.Kernel.{Kernel}
use Rattle.ceu_tree.specs.declared.kernel.KCode.{KCode}
use Rattle.ceu_tree.specs.declared.kernel.KLoop.{KLoop}
use Rattle.ceu_tree.specs.declared.kernel.KLoop.TheVariants as turns
use Rattle.ceu_tree.specs.declared.kernel.Loc.{Loc}
use Rattle.ceu_tree.specs.declared.kernel.ParKind.{ParKind}
use Rattle.ceu_tree.specs.declared.kernel.KNode.{KNode}
use Rattle.ceu_tree.specs.declared.kernel.KBlock.{KBlock, out-KBlock}
use Rattle.ceu_tree.specs.declared.kernel.KStmt as kernel
use Rattle.ceu_tree.specs.declared.kernel.KStmt.{KStmt, out-KStmt}
use Rattle.ceu_tree.specs.declared.kernel.KStmt.TheOpen.{KStmt-F}
use Rattle.ceu_tree.specs.Residual.{Residual, Branches}
use Rattle.ceu_tree.specs.Focus.{Frame, OfBlock}
use Rattle.ceu_tree.specs.Leaf.{Layer, code_at}
use Rattle.ceu_tree.specs.Legal.{before, is_set}
use Rattle.ceu_tree.specs.Mentions.{is_loc, await_target, body_target}
use Rattle.ceu_tree.specs.Numbering.{counts_from, decl_slots, loop_slots, stmt_slots, stmt_nodes, block_slots, block_nodes}
use Rattle.ceu_tree.specs.Proper.{Scope, SlotKind, IsVariable, IsLoopVariable, IsPool, IsAlias, find, pool_slots, pools_seen, is_in_code, is_trail, is_proper, stmt_ok, declared_seen, variable_ty, has_ty, reads, takes_if, on_ty, is_above, port_ty, event_seen, event_at, time_ok, gives_all}
use Rattle.laws_meaning_basics.specs.Shape.{Part, ABlock, AStatement, AnEnd, block_scope, part_scope, turn_scope, opens_part, Fits, to_begin, to_turn, in_list, to_finish, at_input, at_time, at_event, at_forever, at_async, in_part, in_turn, in_call, in_par, EachFits, no_more, an_ended, a_branch, FrameFits, around_statement, around_end, around_instance, around_part, around_turn, around_call, around_branch}
use Rattle.laws_meaning_basics.proofs.Static.{BlockOk, nodes_fine, each_fine, block_static, names_of}
use Rattle.laws_meaning_basics.proofs.UpFits.{Sound, layer_of, list_sound, part_sound}
use Rattle.laws_meaning_values.specs.Ground.{Ground, Numbered, On}
use Rattle.laws_meaning_values.specs.Ready.{is_cell, declares}
use Rattle.laws_meaning_values.specs.Needed.{some_done, block_needs, own_variable, turn_needs, needs, each_needs, frame_needs}
use Rattle.laws_meaning_values.proofs.Counts.{halves, Inner, inner_then, blocks_slots_all, blocks_nodes_all}
use Rattle.laws_meaning_values.proofs.Grounds.{InBlock, list_ground, inner_ground, hidden_counts, part_ground, branch_ground}
use Rattle.laws_meaning_values.proofs.Names.{head_target, body_target_is}
use Rattle.laws_meaning_values.proofs.Readies.{find_cell}
use Rattle.laws_meaning_values.proofs.Positions.{declared_within, Low, low_inner, low_list, low_part, low_turn, Beside}

abbrev pub LowAt : Part → Ground → Type 0
LowAt (ABlock turn sc b) g = Low sc g
LowAt (AStatement sc s) g = Low sc g
LowAt AnEnd g = Unit {0}

abbrev pub Placed : Scope → Ground → ℕ → Type 0
Placed sc g x = ((g.low ≤ x) × (x < g.high)) ⊎ (is_cell (find x sc.seen) ≡ true)

abbrev pub PlacedAt : Part → Ground → ℕ → Type 0
PlacedAt (ABlock turn sc b) g x = Placed sc g x
PlacedAt (AStatement sc s) g x = Placed sc g x
PlacedAt AnEnd g x = Unit {0}

module _ (K : Kernel) (proper : is_proper K ≡ true) (plain : K.codes ≡ []) where
  pub no_code : (c : ℕ) (k : KCode) → code_at c K.codes ≡ Some k → ⊥
  no_code c k e = let a : code_at c [] ≡ Some k = subst (λ l. code_at c l ≡ Some k) plain e in absurd (cc)

  -- ---- an await's target is seen from its place

  reads_cell : (sc : Scope) (l : Loc) → is_in_code sc.code ≡ false → reads K sc l ≡ true → is_cell (find l.slot sc.seen) ≡ true
  reads_cell sc l m h = go l.outer h
    where
      cell : (o : Option SlotKind) → has_ty (variable_ty o) l.ty ≡ true → is_cell o ≡ true
      cell None e = absurd (false≢true e)
      cell (Some (IsVariable u)) e = refl
      cell (Some IsLoopVariable) e = refl
      cell (Some (IsPool c)) e = absurd (false≢true e)
      cell (Some (IsAlias c pools)) e = absurd (false≢true e)

      outside : (b : Bool) → is_in_code sc.code ≡ b → b ≡ false → (o : Option SlotKind) → has_ty (variable_ty (if b then o else None)) l.ty ≡ true → is_cell (find l.slot sc.seen) ≡ true
      outside true e f o k = absurd (false≢true (sym f))
      outside false e f o k = absurd (false≢true k)

      go : (b : Bool) → has_ty (variable_ty (if b then (if is_in_code sc.code then find l.slot (declared_seen [] (out-KBlock K.body).decls []) else None) else find l.slot sc.seen)) l.ty ≡ true → is_cell (find l.slot sc.seen) ≡ true
      go true e = outside (is_in_code sc.code) refl m (find l.slot (declared_seen [] (out-KBlock K.body).decls [])) e
      go false e = cell (find l.slot sc.seen) e

  taken_cell : (sc : Scope) (u : Ty) (t : Option Loc) (x : ℕ) → is_in_code sc.code ≡ false → takes_if K sc u t ≡ true → is_loc x t ≡ true → is_cell (find x sc.seen) ≡ true
  taken_cell sc u None x m h e = absurd (false≢true e)
  taken_cell sc u (Some l) x m h e =
      let a = (and_parts (reads K sc l) _ (and_parts (reads K sc l && not _) _ (and_parts (reads K sc l && not _ && not _) _ h).0).0).0 in
      subst (λ y. is_cell (find y sc.seen) ≡ true) (eqb-true l.slot x e) (reads_cell sc l m a)

  on_ty_taken : (sc : Scope) (o : Option Ty) (t : Option Loc) (x : ℕ) → is_in_code sc.code ≡ false → on_ty K o (λ u. takes_if K sc u t) ≡ true → is_loc x t ≡ true → is_cell (find x sc.seen) ≡ true
  on_ty_taken sc None t x m h e = absurd (false≢true h)
  on_ty_taken sc (Some u) t x m h e = taken_cell sc u t x m h e

  target_cell : (sc : Scope) (n : ℕ) (st : KStmt) (x : ℕ) → is_in_code sc.code ≡ false → stmt_ok K (names_of K) sc n st ≡ true → is_loc x (await_target st) ≡ true → is_cell (find x sc.seen) ≡ true
  unfolding stmt_ok
  target_cell sc n (kernel.AwaitIn k t) x m h e = on_ty_taken sc (port_ty K k K.inputs) t x m (and_parts (is_trail sc.place) _ h).1 e
  target_cell sc n (kernel.AwaitTime y u t) x m h e = taken_cell sc ty.S32 t x m (and_parts (is_trail sc.place && time_ok K sc y u) (takes_if K sc ty.S32 t) h).1 e
  target_cell sc n (kernel.AwaitEvent k t) x m h e = on_ty_taken sc (event_seen K sc (event_at K k K.events)) t x m (and_parts (is_trail sc.place) _ h).1 e
  target_cell sc n (kernel.AwaitCode c es f t) x m h e = go (code_at c K.codes) refl (and_parts (is_above K c sc.code) _ (and_parts (is_trail sc.place) _ h).1).1
    where
      go : (o : Option KCode) → code_at c K.codes ≡ o → (elim o [ None ↦ false | Some k ↦ gives_all K sc k.params es && takes_if K sc k.result t ]) ≡ true → is_cell (find x sc.seen) ≡ true
      go None q z = absurd (false≢true z)
      go (Some k) q z = absurd (no_code c k q)
  target_cell sc n st x m h e = absurd (false≢true e)

  pub head_cell : (sc : Scope) (b : KBlock) (x : ℕ) → BlockOk K (names_of K) sc b → is_in_code sc.code ≡ false → is_loc x (body_target b) ≡ true → is_cell (find x (block_scope sc b).seen) ≡ true
  head_cell sc b x h m e = go (out-KBlock b).list (block_static K (names_of K) sc b h) (sym (ap (is_loc x) (body_target_is (names_of K) b)) ∙ e)
    where
      go : (list : List KNode) → nodes_fine K (names_of K) (block_scope sc b) list → is_loc x (head_target (names_of K) list) ≡ true → is_cell (find x (block_scope sc b).seen) ≡ true
      go [] k z = absurd (false≢true z)
      go (s ∷ ss) k z = target_cell (block_scope sc b) s.node s.stmt x m k.0 z

  -- ---- a block's needs

  pub seen_in_block : (sc : Scope) (b : KBlock) (x : ℕ) → is_cell (find x (block_scope sc b).seen) ≡ true → (declares x (out-KBlock b).decls ≡ true) ⊎ (is_cell (find x sc.seen) ≡ true)
  seen_in_block sc b x c = find_cell x (pool_slots (out-KBlock b).decls ++ pools_seen sc.seen) (out-KBlock b).decls sc.seen c

  from_block : (sc : Scope) (b : KBlock) (g : Ground) (x : ℕ) → counts_from g.low (decl_slots (out-KBlock b).decls) ≡ true → g.low + length (decl_slots (out-KBlock b).decls) ≤ g.high
      → (declares x (out-KBlock b).decls ≡ true) ⊎ (is_cell (find x sc.seen) ≡ true) → Placed sc g x
  from_block sc b g x c l (inl d) = let a = declared_within x (out-KBlock b).decls g.low c d in inl (a.0, omega (arith, a.1, l))
  from_block sc b g x c l (inr e) = inr e

  block_placed : (sc : Scope) (b : KBlock) (done : List KNode) (g : Ground) (x : ℕ) → BlockOk K (names_of K) sc b → Low sc g → counts_from g.low (decl_slots (out-KBlock b).decls) ≡ true → g.low + length (decl_slots (out-KBlock b).decls) ≤ g.high
      → block_needs b done x ≡ true → Placed sc g x
  block_placed sc b done g x ok low c l h = go (or_cases (declares x (out-KBlock b).decls && is_set done x) (is_loc x (body_target b) && some_done done) h)
    where
      go : ((declares x (out-KBlock b).decls && is_set done x) ≡ true) ⊎ ((is_loc x (body_target b) && some_done done) ≡ true) → Placed sc g x
      go (inl e) = from_block sc b g x c l (inl (and_parts (declares x (out-KBlock b).decls) (is_set done x) e).0)
      go (inr e) = from_block sc b g x c l (seen_in_block sc b x (head_cell sc b x ok low.main (and_parts (is_loc x (body_target b)) (some_done done) e).0))

  own_is : (s : KNode) (k : KLoop) (b : KBlock) (g : Ground) (x : ℕ) → out-KStmt s.stmt ≡ KStmt-F.Loop k b → Numbered (stmt_slots s.stmt) (s.node ∷ stmt_nodes s.stmt) g → own_variable x k ≡ true → x ≡ g.low
  own_is s (turns.Range i next end open_a a c open_b) b g x e on h =
      let z = hidden_counts s (KStmt-F.Loop (turns.Range i next end open_a a c open_b) b) g e on in
      sym (eqb-true i x h) ∙ eqb-true i g.low (and_parts (i == g.low) (counts_from (g.low + 1) (next ∷ end ∷ [])) z.0).0
  own_is s turns.Free b g x e on h = absurd (false≢true h)
  own_is s (turns.Times slot n) b g x e on h = absurd (false≢true h)

  own_room : (s : KNode) (k : KLoop) (b : KBlock) (g : Ground) (x : ℕ) → out-KStmt s.stmt ≡ KStmt-F.Loop k b → Numbered (stmt_slots s.stmt) (s.node ∷ stmt_nodes s.stmt) g → own_variable x k ≡ true → (g.low < g.high) × (g.low < g.low + length (loop_slots k))
  own_room s (turns.Range i next end open_a a c open_b) b g x e on h =
      let z = hidden_counts s (KStmt-F.Loop (turns.Range i next end open_a a c open_b) b) g e on in (omega (arith, z.1), omega arith)
  own_room s turns.Free b g x e on h = absurd (false≢true h)
  own_room s (turns.Times slot n) b g x e on h = absurd (false≢true h)

  turn_is : (s : KNode) (layer : Layer) (x : ℕ) → out-KStmt s.stmt ≡ layer → turn_needs (out-KStmt s.stmt) x ≡ true → turn_needs layer x ≡ true
  turn_is s layer x e h = subst (λ l. turn_needs l x ≡ true) e h

  widen : (sc : Scope) (h g : Ground) (x : ℕ) → Inner h g → Placed sc h x → Placed sc g x
  widen sc h g x i (inl p) = inl (omega (arith, p.0, i.low), omega (arith, p.1, i.high))
  widen sc h g x i (inr c) = inr c

  part_seen : (sc : Scope) (n : ℕ) (layer : Layer) (b : KBlock) (x : ℕ) → opens_part layer b → is_cell (find x (part_scope K sc n layer).seen) ≡ true → is_cell (find x sc.seen) ≡ true
  part_seen sc n (KStmt-F.Do None c) b x o e = e
  part_seen sc n (KStmt-F.Do (Some l) c) b x o e = e
  part_seen sc n (KStmt-F.If arms last) b x o e = e
  part_seen sc n layer b x o e = elim o [ ]

  turn_seen : (sc : Scope) (s : KNode) (k : KLoop) (x : ℕ) → is_cell (find x (turn_scope K sc s.node k).seen) ≡ true → (own_variable x k ≡ true) ⊎ (is_cell (find x sc.seen) ≡ true)
  turn_seen sc s turns.Free x e = inr e
  turn_seen sc s (turns.Times slot n) x e = inr e
  turn_seen sc s (turns.Range i next end open_a a c open_b) x e = go (i == x) refl e
    where
      go : (t : Bool) → (i == x) ≡ t → is_cell (if t then Some IsLoopVariable else find x sc.seen) ≡ true → ((i == x) ≡ true) ⊎ (is_cell (find x sc.seen) ≡ true)
      go true u v = inl u
      go false u v = inr v

  from_list : (sc : Scope) (b : KBlock) (h g : Ground) (x : ℕ) → counts_from g.low (decl_slots (out-KBlock b).decls) ≡ true → g.low + length (decl_slots (out-KBlock b).decls) ≤ g.high → Inner h g → Placed (block_scope sc b) h x → Placed sc g x
  from_list sc b h g x c l i (inl p) = inl (omega (arith, p.0, i.low), omega (arith, p.1, i.high))
  from_list sc b h g x c l i (inr e) = from_block sc b g x c l (seen_in_block sc b x e)

  from_part : (sc : Scope) (n : ℕ) (layer : Layer) (b : KBlock) (h g : Ground) (x : ℕ) → opens_part layer b → Inner h g → Placed (part_scope K sc n layer) h x → Placed sc g x
  from_part sc n layer b h g x o i (inl p) = inl (omega (arith, p.0, i.low), omega (arith, p.1, i.high))
  from_part sc n layer b h g x o i (inr e) = inr (part_seen sc n layer b x o e)

  own_placed : (sc : Scope) (s : KNode) (k : KLoop) (b : KBlock) (g : Ground) (x : ℕ) → out-KStmt s.stmt ≡ KStmt-F.Loop k b → Numbered (stmt_slots s.stmt) (s.node ∷ stmt_nodes s.stmt) g → own_variable x k ≡ true → Placed sc g x
  own_placed sc s k b g x e on h = let a = own_is s k b g x e on h in let r = own_room s k b g x e on h in inl (omega (arith, a), omega (arith, a, r.0))

  from_turn : (sc : Scope) (s : KNode) (k : KLoop) (b : KBlock) (h g : Ground) (x : ℕ) → out-KStmt s.stmt ≡ KStmt-F.Loop k b → Numbered (stmt_slots s.stmt) (s.node ∷ stmt_nodes s.stmt) g → Inner h g → Placed (turn_scope K sc s.node k) h x → Placed sc g x
  from_turn sc s k b h g x q on i (inl p) = inl (omega (arith, p.0, i.low), omega (arith, p.1, i.high))
  from_turn sc s k b h g x q on i (inr e) = go (turn_seen sc s k x e)
    where
      go : (own_variable x k ≡ true) ⊎ (is_cell (find x sc.seen) ≡ true) → Placed sc g x
      go (inl o) = own_placed sc s k b g x q on o
      go (inr c) = inr c

  list_case : (sc : Scope) (b : KBlock) (g h : Ground) (done : List KNode) (r : Residual) (x : ℕ) → BlockOk K (names_of K) sc b → Low sc g → counts_from g.low (decl_slots (out-KBlock b).decls) ≡ true
      → g.low + length (decl_slots (out-KBlock b).decls) ≤ g.high → Inner h g → (block_needs b done x ≡ true) ⊎ (needs r x ≡ true) → (needs r x ≡ true → Placed (block_scope sc b) h x) → Placed sc g x
  list_case sc b g h done r x ok low c l i (inl e) ih = block_placed sc b done g x ok low c l e
  list_case sc b g h done r x ok low c l i (inr e) ih = from_list sc b h g x c l i (ih e)

  turn_case : (sc : Scope) (s : KNode) (k : KLoop) (b : KBlock) (g h : Ground) (r : Residual) (x : ℕ) → out-KStmt s.stmt ≡ KStmt-F.Loop k b → Numbered (stmt_slots s.stmt) (s.node ∷ stmt_nodes s.stmt) g
      → Inner h g → (turn_needs (out-KStmt s.stmt) x ≡ true) ⊎ (needs r x ≡ true) → (needs r x ≡ true → Placed (turn_scope K sc s.node k) h x) → Placed sc g x
  turn_case sc s k b g h r x e on i (inl q) ih = own_placed sc s k b g x e on (turn_is s (KStmt-F.Loop k b) x e q)
  turn_case sc s k b g h r x e on i (inr q) ih = from_turn sc s k b h g x e on i (ih q)

  branch_case : (sc : Scope) (h j g : Ground) (r : Residual) (more : Branches) (x : ℕ) → Inner h g → Inner j g → (needs r x ≡ true) ⊎ (each_needs more x ≡ true) → (needs r x ≡ true → Placed sc h x)
      → (each_needs more x ≡ true → Placed sc j x) → Placed sc g x
  branch_case sc h j g r more x p q (inl e) a b = widen sc h g x p (a e)
  branch_case sc h j g r more x p q (inr e) a b = widen sc j g x q (b e)

  -- ---- what a part needs

  mutual
    unfolding needs

    pub needs_placed : {t : ℕ} {d : Part} {r : Residual} → Fits K t d r → (g : Ground) (x : ℕ) → On d g → LowAt d g → Sound K proper d → needs r x ≡ true → PlacedAt d g x
    needs_placed (to_begin l) g x on low ok h = absurd (false≢true h)
    needs_placed (to_turn l p) g x on low ok h = absurd (false≢true h)
    needs_placed (in_list {sc = sc} {b = b} {rest = rest} {r = r} {s = s} done e f all fit) g x on low ok h =
        let i = list_ground b done s rest g e on in
        let c = or_cases (block_needs b (before (out-KBlock b).list rest) x) (needs r x) h in
        list_case sc b g i.ground (before (out-KBlock b).list rest) r x ok low i.declared i.declared_to i.inner c (needs_placed fit i.ground x i.on (low_list sc b s g i low) (list_sound K proper sc b done s rest ok e))
    needs_placed (to_finish l p) g x on low ok h = absurd (false≢true h)
    needs_placed (at_input q e) g x on low ok h = absurd (false≢true h)
    needs_placed (at_time q u y e) g x on low ok h = absurd (false≢true h)
    needs_placed (at_event q e) g x on low ok h = absurd (false≢true h)
    needs_placed (at_forever e) g x on low ok h = absurd (false≢true h)
    needs_placed (at_async {sc = sc} {s = s} b e fit) g x on low ok h =
        let i = inner_ground s (KStmt-F.Async b) g e on in
        let l = low_inner sc g i.ground i.inner low in
        widen sc i.ground g x i.inner (needs_placed fit i.ground x i.on (record { seen = l.seen; main = l.main }) (layer_of K proper sc s (KStmt-F.Async b) e ok).1 h)
    needs_placed (in_part {sc = sc} {s = s} b o fit) g x on low ok h =
        let i = part_ground s b g o on in
        from_part sc s.node (out-KStmt s.stmt) b i.ground g x o i.inner
        (needs_placed fit i.ground x i.on (low_part K sc s.node (out-KStmt s.stmt) b g i.ground o i.inner low) (part_sound K proper sc s.node (out-KStmt s.stmt) b (layer_of K proper sc s (out-KStmt s.stmt) refl ok) o) h)
    needs_placed (in_turn {sc = sc} {s = s} {r = r} k b e c fit) g x on low ok h =
        let i = inner_ground s (KStmt-F.Loop k b) g e on in
        turn_case sc s k b g i.ground r x e on i.inner (or_cases (turn_needs (out-KStmt s.stmt) x) (needs r x) h)
        (needs_placed fit i.ground x i.on (low_turn K sc s k b g i e on low) (layer_of K proper sc s (KStmt-F.Loop k b) e ok))
    needs_placed (in_call c es f t k e q fit) g x on low ok h = absurd (no_code c k q)
    needs_placed (in_par {sc = sc} {s = s} k slot bs e q fit) g x on low ok h =
        let i = inner_ground s (KStmt-F.Par k slot bs) g e on in
        widen sc i.ground g x i.inner (each_placed fit i.ground x i.on (low_inner sc g i.ground i.inner low) (layer_of K proper sc s (KStmt-F.Par k slot bs) e ok).1 h)

    pub each_placed : {t : ℕ} {sc : Scope} {k : ParKind} {bs : List KBlock} {rs : Branches} → EachFits K t sc k bs rs → (g : Ground) (x : ℕ) → Numbered (blocks_slots_all bs) (blocks_nodes_all bs) g → Low sc g
        → each_fine K (names_of K) sc bs → each_needs rs x ≡ true → Placed sc g x
    each_placed no_more g x on low ok h = absurd (false≢true h)
    each_placed {sc = sc} (an_ended {b = b} {bs = bs} m rest) g x on low ok h =
        let i = halves (block_slots b) (blocks_slots_all bs) (block_nodes b) (blocks_nodes_all bs) g on in
        widen sc i.right g x i.inner_right (each_placed rest i.right x i.on_right (low_inner sc g i.right i.inner_right low) ok.1 h)
    each_placed {sc = sc} (a_branch {b = b} {bs = bs} {r = r} {more = more} fit rest) g x on low ok h =
        let i = halves (block_slots b) (blocks_slots_all bs) (block_nodes b) (blocks_nodes_all bs) g on in
        branch_case sc i.left i.right g r more x i.inner_left i.inner_right (or_cases (needs r x) (each_needs more x) h)
        (needs_placed fit i.left x i.on_left (low_inner sc g i.left i.inner_left low) ok.0) (each_placed rest i.right x i.on_right (low_inner sc g i.right i.inner_right low) ok.1)

  -- ---- a frame: what it needs lies beside the ground of the part inside

  pub record FrameGround (fr : Frame) (d e : Part) (g : Ground) : Type 0 where
    pub ground : Ground
    pub on : On e ground
    pub low : LowAt e ground
    pub inner : Inner ground g
    pub apart : (x : ℕ) (first : Bool) → frame_needs fr first x ≡ true → Beside ground x

  beside_low : (sc : Scope) (h : Ground) (x : ℕ) → Low sc h → is_cell (find x sc.seen) ≡ true → Beside h x
  beside_low sc h x l c = inl (l.seen x c)

  block_beside : (sc : Scope) (b : KBlock) (done : List KNode) (s : KNode) (g : Ground) (i : InBlock b s g) (x : ℕ) → BlockOk K (names_of K) sc b → Low sc g → block_needs b done x ≡ true → Beside i.ground x
  block_beside sc b done s g i x ok low h = go (or_cases (declares x (out-KBlock b).decls && is_set done x) (is_loc x (body_target b) && some_done done) h)
    where
      go : ((declares x (out-KBlock b).decls && is_set done x) ≡ true) ⊎ ((is_loc x (body_target b) && some_done done) ≡ true) → Beside i.ground x
      go (inl e) = let a = declared_within x (out-KBlock b).decls g.low i.declared (and_parts (declares x (out-KBlock b).decls) (is_set done x) e).0 in inl (omega (arith, a.1, i.behind))
      go (inr e) = beside_low (block_scope sc b) i.ground x (low_list sc b s g i low) (head_cell sc b x ok low.main (and_parts (is_loc x (body_target b)) (some_done done) e).0)

  before_beside : (sc : Scope) (b h : Ground) (x : ℕ) → b.high ≤ h.low → Low sc h → Placed sc b x → Beside h x
  before_beside sc b h x q l (inl p) = inl (omega (arith, p.1, q))
  before_beside sc b h x q l (inr c) = inl (l.seen x c)

  after_beside : (sc : Scope) (b h : Ground) (x : ℕ) → h.high ≤ b.low → Low sc h → Placed sc b x → Beside h x
  after_beside sc b h x q l (inl p) = inr (omega (arith, p.0, q))
  after_beside sc b h x q l (inr c) = inl (l.seen x c)

  beside_branch : (sc : Scope) (b h a : Ground) (front back : Branches) (x : ℕ) → b.high ≤ h.low → h.high ≤ a.low → Low sc h → (each_needs front x ≡ true) ⊎ (each_needs back x ≡ true)
      → (each_needs front x ≡ true → Placed sc b x) → (each_needs back x ≡ true → Placed sc a x) → Beside h x
  beside_branch sc b h a front back x p q l (inl e) m n = before_beside sc b h x p l (m e)
  beside_branch sc b h a front back x p q l (inr e) m n = after_beside sc a h x q l (n e)

  each_halves : (sc : Scope) (bs cs : List KBlock) → each_fine K (names_of K) sc (bs ++ cs) → each_fine K (names_of K) sc bs × each_fine K (names_of K) sc cs
  each_halves sc [] cs h = (tt, h)
  each_halves sc (b ∷ bs) cs h = let a = each_halves sc bs cs h.1 in ((h.0, a.0), a.1)

  frame_ground_end : (fr : Frame) (d : Part) (slots nodes : List ℕ) (g : Ground) → Numbered slots nodes g → FrameGround fr d AnEnd g
  frame_ground_end fr d slots nodes g on = record {
    ground = record { low = g.high; high = g.high; first = g.last; last = g.last };
    on = tt;
    low = tt;
    inner = record { low = omega (arith, on.slots_to); high = omega arith; first = omega (arith, on.nodes_to); last = omega arith };
    apart = λ x first h. cases_lt x g.high;
  }

  pub frame_ground : {t : ℕ} {fr : Frame} {d e : Part} → FrameFits K t fr d e → (g : Ground) → On d g → LowAt d g → Sound K proper d → FrameGround fr d e g
  frame_ground (around_statement {sc = sc} {b = b} {rest = rest} {s = s} done e f all) g on low ok =
      let i = list_ground b done s rest g e on in
      record { ground = i.ground; on = i.on; low = low_list sc b s g i low; inner = i.inner; apart = λ x first h. block_beside sc b (before (out-KBlock b).list rest) s g i x ok low h }
  frame_ground (around_end {turn = turn} {sc = sc} {b = b} {fin = fin} {all = all} f q) g on low ok = frame_ground_end (OfBlock b fin all []) (ABlock turn sc b) (block_slots b) (block_nodes b) g on
  frame_ground (around_instance {seat = seat} done k e f r before after p c) g on low ok = absurd (no_code seat.code k c)
  frame_ground (around_part {sc = sc} {s = s} b o) g on low ok =
      let i = part_ground s b g o on in
      record { ground = i.ground; on = i.on; low = low_part K sc s.node (out-KStmt s.stmt) b g i.ground o i.inner low; inner = i.inner; apart = λ x first h. absurd (false≢true h) }
  frame_ground (around_turn {sc = sc} {s = s} k b e c) g on low ok =
      let i = inner_ground s (KStmt-F.Loop k b) g e on in
      record {
        ground = i.ground;
        on = i.on;
        low = low_turn K sc s k b g i e on low;
        inner = i.inner;
        apart = λ x first h. (let a = and_parts (not first) (turn_needs (out-KStmt s.stmt) x) h in let q = turn_is s (KStmt-F.Loop k b) x e a.1 in
            let z = own_is s k b g x e on q in let y = own_room s k b g x e on q in inl (omega (arith, z, y.1, i.behind)));
      }
  frame_ground (around_call c es f t k e q) g on low ok = absurd (no_code c k q)
  frame_ground (around_branch {sc = sc} {s = s} {before = front} {after = back} k slot bs b cs e p q) g on low ok =
      let i = inner_ground s (KStmt-F.Par k slot (bs ++ b ∷ cs)) g e on in
      let j = branch_ground bs b cs i.ground i.on in
      let l = low_inner sc g i.ground i.inner low in
      let fine = each_halves sc bs (b ∷ cs) (layer_of K proper sc s (KStmt-F.Par k slot (bs ++ b ∷ cs)) e ok).1 in
      record {
        ground = j.ground;
        on = j.on;
        low = low_inner sc i.ground j.ground j.inner l;
        inner = inner_then j.ground i.ground g j.inner i.inner;
        apart = λ x first h. beside_branch sc j.before j.ground j.after front back x j.slots_before j.slots_after (low_inner sc i.ground j.ground j.inner l) (or_cases (each_needs front x) (each_needs back x) h)
            (each_placed p j.before x j.on_before (low_inner sc i.ground j.before j.inner_before l) fine.0) (each_placed q j.after x j.on_after (low_inner sc i.ground j.after j.inner_after l) fine.1.1);
      }
