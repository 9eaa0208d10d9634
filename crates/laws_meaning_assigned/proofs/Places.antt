-- Where a part of a proper kernel stands: on which ground, and that each slot that is seen from there has something around it that has hold of it.
use Rattle.std.proofs.Common.{◌≡◌, refl, sym, ap, ◌∙◌, subst, ◌≤◌, ◌<◌, ℕ, zero, suc, ◌+◌, Bool, true, false, not, if◌then◌else◌, ◌==◌, ◌&&◌, ◌⊎◌, inl, inr, List, [], ◌∷◌, ◌++◌, length, Option, Some, None, arith, eqb-true, eq-eqb}
use Rattle.std.proofs.lemmas.Bool.{and_parts, and_from, or_cases, false≢true}
use Rattle.ceu_base.specs.declared.kinds.Ty.{Ty}
use Rattle.ceu_base.specs.declared.kinds.Ty.TheVariants as ty
use Rattle.ceu_tree.specs.declared.kernel.Kernel.{Kernel}
use Rattle.ceu_tree.specs.declared.kernel.KCode.{KCode}
use Rattle.ceu_tree.specs.declared.kernel.KDecl.{KDecl}
use Rattle.ceu_tree.specs.declared.kernel.KLoop.{KLoop}
use Rattle.ceu_tree.specs.declared.kernel.KLoop.TheVariants as turns
use Rattle.ceu_tree.specs.declared.kernel.Loc.{Loc}
use Rattle.ceu_tree.specs.declared.kernel.KNode.{KNode}
use Rattle.ceu_tree.specs.declared.kernel.KBlock.{KBlock, out-KBlock}
use Rattle.ceu_tree.specs.declared.kernel.KStmt as kernel
use Rattle.ceu_tree.specs.declared.kernel.KStmt.{KStmt, out-KStmt}
use Rattle.ceu_tree.specs.declared.kernel.KStmt.TheOpen.{KStmt-F}
use Rattle.ceu_tree.specs.Residual.{Body, Program, Awaited, Spawned, same_body}
use Rattle.ceu_tree.specs.Focus.{Frame, Focus, Here, In, body_in, body_of}
use Rattle.ceu_tree.specs.Leaf.{Layer, code_at, target_of}
use Rattle.ceu_tree.specs.Legal.{called_code}
use Rattle.ceu_tree.specs.Mentions.{outer_names_from, is_loc, is_slot, body_target, is_set_decl}
use Rattle.ceu_tree.specs.Numbering.{counts_from, decl_slots, block_slots, block_nodes, stmt_slots, stmt_nodes, codes_slots, codes_nodes, is_numbered}
use Rattle.ceu_tree.specs.Proper.{Scope, SlotKind, IsVariable, IsLoopVariable, IsPool, IsAlias, find, declared_seen, pool_slots, pools_seen, variable_ty, has_ty, alias_takes, is_pool_of, is_in_code, is_trail, outside_finalizers, reads, takes, takes_if, gives, gives_all, on_ty, on_code, is_above, time_ok, port_ty, event_at, event_seen, with_aim, do_aim, stmt_ok, block_ok, body_scope, codes_ok, events_ok, ports_ok, is_proper}
use Rattle.laws_meaning_basics.specs.Shape.{Part, ABlock, AStatement, AnEnd, block_scope, part_scope, turn_scope, async_scope, code_scope, program_part, opens_part, FrameFits, around_statement, around_end, around_instance, around_part, around_turn, around_call, around_branch, Around, nothing_around, one_around}
use Rattle.laws_meaning_basics.proofs.Static.{BlockOk, StmtOk, names_of, nodes_fine, block_static}
use Rattle.laws_meaning_values.specs.Ground.{Ground, Numbered, On}
use Rattle.laws_meaning_values.specs.Ready.{is_cell, declares}
use Rattle.laws_meaning_values.proofs.Counts.{counts_parts, Inner, inner_then}
use Rattle.laws_meaning_values.proofs.Grounds.{InBlock, InStatement, list_ground, inner_ground, hidden_counts, part_ground, branch_ground, program_ground}
use Rattle.laws_meaning_values.proofs.FocusSpares.{decls_ground}
use Rattle.laws_meaning_values.proofs.Names.{head_target, body_target_is}
use Rattle.laws_meaning_values.proofs.Positions.{declared_within}
use Rattle.laws_meaning_values.proofs.Readies.{find_cell}
use Rattle.laws_meaning_values.proofs.UpValues.{awaits, awaits_is}
use Rattle.laws_meaning_instances.proofs.Living.{often, once_true}
use Rattle.laws_meaning_counters.proofs.Grips.{point, own}
use Rattle.laws_meaning_assigned.specs.Needed.{own_target, alias_of}
use Rattle.laws_meaning_assigned.proofs.Grips.{slots_grip, given_grip, frame_grip, focus_grip}
use denote.Hole.Carrier

pub left_of : (p q : Bool) → (p && q) ≡ true → p ≡ true
left_of p q h = (and_parts p q h).0

pub right_of : (p q : Bool) → (p && q) ≡ true → q ≡ true
right_of p q h = (and_parts p q h).1

-- ---- code, with the ground of its parameters

pub record CodeRoom (k : KCode) (low : ℕ) : Type 0 where
  pub ground : Ground
  pub on : Numbered (block_slots k.body) (block_nodes k.body) ground
  pub whole : Ground
  pub inner : Inner ground whole
  pub params : counts_from whole.low (decl_slots k.params) ≡ true
  pub behind : whole.low + length (decl_slots k.params) ≤ ground.low
  pub within : whole.low + length (decl_slots k.params) ≤ whole.high
  pub above : low ≤ whole.low

codes_room : (i : ℕ) (cs : List KCode) (c : KCode) → code_at i cs ≡ Some c → (low first : ℕ) → counts_from low (codes_slots cs) ≡ true → counts_from first (codes_nodes cs) ≡ true → CodeRoom c low
codes_room i [] c e low first h n = absurd (cc)
codes_room zero (x ∷ cs) c e low first h n =
    let same : x ≡ c = ap (λ o. elim o [ None ↦ x | Some y ↦ y ]) e in
    let a = counts_parts low (decl_slots x.params ++ block_slots x.body) (codes_slots cs) h in
    let b = counts_parts low (decl_slots x.params) (block_slots x.body) a.0 in
    let d = counts_parts first (block_nodes x.body) (codes_nodes cs) n in
    subst (λ y. CodeRoom y low) same (record {
      ground = record { low = low + length (decl_slots x.params); high = low + length (decl_slots x.params) + length (block_slots x.body); first = first; last = first + length (block_nodes x.body) };
      on = record { slots_from = b.1; slots_to = refl; nodes_from = d.0; nodes_to = refl };
      whole = record { low = low; high = low + length (decl_slots x.params) + length (block_slots x.body); first = first; last = first + length (block_nodes x.body) };
      inner = record { low = omega arith; high = omega arith; first = omega arith; last = omega arith };
      params = b.0;
      behind = omega arith;
      within = omega arith;
      above = omega arith;
    })
codes_room (suc i) (x ∷ cs) c e low first h n =
    let a = counts_parts low (decl_slots x.params ++ block_slots x.body) (codes_slots cs) h in
    let d = counts_parts first (block_nodes x.body) (codes_nodes cs) n in
    let r = codes_room i cs c e _ _ a.1 d.1 in
    record { ground = r.ground; on = r.on; whole = r.whole; inner = r.inner; params = r.params; behind = r.behind; within = r.within; above = omega (arith, r.above) }

numbered_parts : (K : Kernel) → is_proper K ≡ true → (counts_from 0 (block_slots K.body ++ codes_slots K.codes) ≡ true) × (counts_from 0 (block_nodes K.body ++ codes_nodes K.codes) ≡ true)
unfolding is_proper is_numbered
numbered_parts K h =
    let names = outer_names_from [] K.codes in
    let a = (and_parts _ (codes_ok K names 0 K.codes) h).0 in
    let b = (and_parts _ (block_ok K names (body_scope K names None K.body ty.S32) K.body) a).0 in
    let c = (and_parts _ (events_ok (length K.codes) K.events) b).0 in
    let d = (and_parts (is_numbered K) (ports_ok (K.inputs ++ K.outputs)) c).0 in
    let e = and_parts (counts_from 0 (block_nodes K.body ++ codes_nodes K.codes)) (counts_from 0 (block_slots K.body ++ codes_slots K.codes)) d in
    (e.1, e.0)

pub code_room : (K : Kernel) (c : ℕ) (k : KCode) → is_proper K ≡ true → code_at c K.codes ≡ Some k → CodeRoom k (length (block_slots K.body))
code_room K c k h e =
    let a = numbered_parts K h in
    let r = codes_room c K.codes k e _ _ (counts_parts 0 (block_slots K.body) (codes_slots K.codes) a.0).1 (counts_parts 0 (block_nodes K.body) (codes_nodes K.codes) a.1).1 in
    record { ground = r.ground; on = r.on; whole = r.whole; inner = r.inner; params = r.params; behind = r.behind; within = r.within; above = omega (arith, r.above) }

abbrev pub root_ground : Kernel → Ground
root_ground K = record { low = 0; high = length (block_slots K.body); first = 0; last = length (block_nodes K.body) }

-- ---- targets that a proper statement takes

abbrev pub loc_of : Layer → Option Loc
loc_of (KStmt-F.Assign l e) = Some l
loc_of layer = target_of layer

module _ (K : Kernel) (proper : is_proper K ≡ true) where
  pub record Taken (sc : Scope) (l : Loc) : Type 0 where
    pub ty : Ty
    pub takes_it : takes K sc ty l ≡ true

  abbrev pub TargetOk : Scope → Option Loc → Type 0
  TargetOk sc None = Unit {0}
  TargetOk sc (Some l) = Taken sc l

  if_taken : (sc : Scope) (u : Ty) (t : Option Loc) → takes_if K sc u t ≡ true → TargetOk sc t
  if_taken sc u None h = tt
  if_taken sc u (Some l) h = record { ty = u; takes_it = h }

  on_ty_taken : (sc : Scope) (o : Option Ty) (t : Option Loc) → on_ty K o (λ u. takes_if K sc u t) ≡ true → TargetOk sc t
  on_ty_taken sc None t h = absurd (false≢true h)
  on_ty_taken sc (Some u) t h = if_taken sc u t h

  code_taken : (sc : Scope) (t : Option Loc) (o : Option KCode) (g : KCode → Bool) → (elim o [ None ↦ false | Some k ↦ g k && takes_if K sc k.result t ]) ≡ true → TargetOk sc t
  code_taken sc t None g h = absurd (false≢true h)
  code_taken sc t (Some k) g h = if_taken sc k.result t (right_of (g k) (takes_if K sc k.result t) h)

  do_taken : (sc : Scope) (t : Option Loc) → (elim t [ None ↦ true | Some l ↦ takes K sc l.ty l ]) ≡ true → TargetOk sc t
  do_taken sc None h = tt
  do_taken sc (Some l) h = record { ty = l.ty; takes_it = h }

  pub stmt_taken : (sc : Scope) (n : ℕ) (st : KStmt) → stmt_ok K (names_of K) sc n st ≡ true → TargetOk sc (loc_of (out-KStmt st))
  unfolding stmt_ok out-KStmt Carrier.out
  stmt_taken sc n (kernel.Assign l e) h = record { ty = l.ty; takes_it = left_of (takes K sc l.ty l) (gives K sc l.ty e) h }
  stmt_taken sc n (kernel.AwaitIn k t) h = on_ty_taken sc (port_ty K k K.inputs) t (right_of (is_trail sc.place) _ h)
  stmt_taken sc n (kernel.AwaitTime e u t) h = if_taken sc ty.S32 t (right_of (is_trail sc.place && time_ok K sc e u) (takes_if K sc ty.S32 t) h)
  stmt_taken sc n (kernel.AwaitEvent e t) h = on_ty_taken sc (event_seen K sc (event_at K e K.events)) t (right_of (is_trail sc.place) _ h)
  stmt_taken sc n (kernel.AwaitCode c es frame t) h = code_taken sc t (code_at c K.codes) (λ k. gives_all K sc k.params es) (right_of (is_above K c sc.code) _ (right_of (is_trail sc.place) _ h))
  stmt_taken sc n (kernel.Do t c) h = do_taken sc t (right_of (outside_finalizers sc.place) _ (left_of _ (block_ok K (names_of K) (with_aim (do_aim K n t) sc) c) h))
  stmt_taken sc n st h = tt

  pub target_ok : (sc : Scope) (s : KNode) (layer : Layer) → out-KStmt s.stmt ≡ layer → StmtOk K (names_of K) sc s → TargetOk sc (loc_of layer)
  target_ok sc s layer e h = subst (λ l. TargetOk sc (loc_of l)) e (stmt_taken sc s.node s.stmt h)

  awaits_ok : (sc : Scope) (layer : Layer) → TargetOk sc (loc_of layer) → TargetOk sc (awaits layer)
  awaits_ok sc (KStmt-F.AwaitIn k t) h = h
  awaits_ok sc (KStmt-F.AwaitTime e u t) h = h
  awaits_ok sc (KStmt-F.AwaitEvent e t) h = h
  awaits_ok sc (KStmt-F.AwaitCode c es frame t) h = h
  awaits_ok sc layer h = tt

  is_variable : (o : Option SlotKind) (t : Ty) → has_ty (variable_ty o) t ≡ true → is_cell o ≡ true
  is_variable None t h = absurd (false≢true h)
  is_variable (Some (IsVariable u)) t h = refl
  is_variable (Some IsLoopVariable) t h = refl
  is_variable (Some (IsPool c)) t h = absurd (false≢true h)
  is_variable (Some (IsAlias c pools)) t h = absurd (false≢true h)

  taken_reads : (sc : Scope) (u : Ty) (l : Loc) → takes K sc u l ≡ true → reads K sc l ≡ true
  taken_reads sc u l h = left_of (reads K sc l) _ (left_of (reads K sc l && not _) _ (left_of (reads K sc l && not _ && not _) _ h))

  -- one of the own body is seen there
  own_seen : (sc : Scope) (l : Loc) → l.outer ≡ false → reads K sc l ≡ true → is_cell (find l.slot sc.seen) ≡ true
  own_seen sc l e h =
      is_variable (find l.slot sc.seen) l.ty (subst (λ t. has_ty (variable_ty (if t then (if is_in_code sc.code then find l.slot (declared_seen [] (out-KBlock K.body).decls []) else None) else find l.slot sc.seen)) l.ty ≡ true) e h)

  -- another is one of the program's block
  outer_low : (sc : Scope) (l : Loc) → l.outer ≡ true → reads K sc l ≡ true → (is_in_code sc.code ≡ true) × (l.slot < length (block_slots K.body))
  outer_low sc l e h = go (is_in_code sc.code) refl (subst (λ t. has_ty (variable_ty (if t then (if is_in_code sc.code then find l.slot (declared_seen [] (out-KBlock K.body).decls []) else None) else find l.slot sc.seen)) l.ty ≡ true) e h)
    where
      declared : (declares l.slot (out-KBlock K.body).decls ≡ true) ⊎ (is_cell (find l.slot []) ≡ true) → l.slot < length (block_slots K.body)
      declared (inl d) = let g = decls_ground K.body (root_ground K) (program_ground K proper) in let a = declared_within l.slot (out-KBlock K.body).decls 0 g.0 d in let m = g.1 in omega (arith, a.1, m)
      declared (inr f) = absurd (false≢true f)

      go : (t : Bool) → is_in_code sc.code ≡ t → has_ty (variable_ty (if t then find l.slot (declared_seen [] (out-KBlock K.body).decls []) else None)) l.ty ≡ true → (t ≡ true) × (l.slot < length (block_slots K.body))
      go true q k = (refl, declared (find_cell l.slot [] (out-KBlock K.body).decls [] (is_variable (find l.slot (declared_seen [] (out-KBlock K.body).decls [])) l.ty k)))
      go false q k = absurd (false≢true k)

  alias_seen : (c pool : ℕ) (o : Option SlotKind) → alias_takes c pool o ≡ true → is_cell o ≡ true
  alias_seen c pool (Some (IsAlias d pools)) h = refl
  alias_seen c pool None h = absurd (false≢true h)
  alias_seen c pool (Some (IsVariable u)) h = absurd (false≢true h)
  alias_seen c pool (Some IsLoopVariable) h = absurd (false≢true h)
  alias_seen c pool (Some (IsPool d)) h = absurd (false≢true h)

  stmt_alias : (x : ℕ) (sc : Scope) (n : ℕ) (st : KStmt) → stmt_ok K (names_of K) sc n st ≡ true → is_slot x (alias_of (out-KStmt st)) ≡ true → is_cell (find x sc.seen) ≡ true
  unfolding stmt_ok out-KStmt Carrier.out
  stmt_alias x sc n (kernel.Spawn c es p (Some a)) h e =
      subst (λ y. is_cell (find y sc.seen) ≡ true) (eqb-true a x e) (alias_seen c p (find a sc.seen) (right_of (is_trail sc.place && on_code K sc c (λ k. gives_all K sc k.params es) && is_pool_of c (find p sc.seen)) _ h))
  stmt_alias x sc n (kernel.Spawn c es p None) h e = absurd (false≢true e)
  stmt_alias x sc n st h e = absurd (false≢true e)

  pub alias_cell : (x : ℕ) (sc : Scope) (s : KNode) → StmtOk K (names_of K) sc s → is_slot x (alias_of (out-KStmt s.stmt)) ≡ true → is_cell (find x sc.seen) ≡ true
  alias_cell x sc s h e = stmt_alias x sc s.node s.stmt h e

  module _ (x : ℕ) where
    pub target_cell : (sc : Scope) (t : Option Loc) → TargetOk sc t → own_target x t ≡ true → is_cell (find x sc.seen) ≡ true
    target_cell sc None h e = absurd (false≢true e)
    target_cell sc (Some l) h e =
        let a = and_parts (not l.outer) (l.slot == x) e in
        subst (λ y. is_cell (find y sc.seen) ≡ true) (eqb-true l.slot x a.1) (own_seen sc l (plain l.outer a.0) (taken_reads sc h.ty l h.takes_it))
      where
        plain : (t : Bool) → not t ≡ true → t ≡ false
        plain false h = refl
        plain true h = absurd (false≢true h)

    pub head_cell : (sc : Scope) (c : KBlock) → BlockOk K (names_of K) sc c → own_target x (body_target c) ≡ true → is_cell (find x (block_scope sc c).seen) ≡ true
    head_cell sc c h e = go (out-KBlock c).list (block_static K (names_of K) sc c h) (sym (ap (own_target x) (body_target_is (names_of K) c)) ∙ e)
      where
        go : (list : List KNode) → nodes_fine K (names_of K) (block_scope sc c) list → own_target x (head_target (names_of K) list) ≡ true → is_cell (find x (block_scope sc c).seen) ≡ true
        go [] k z = absurd (false≢true z)
        go (s ∷ ss) k z = target_cell (block_scope sc c) (awaits (out-KStmt s.stmt)) (awaits_ok (block_scope sc c) (out-KStmt s.stmt) (target_ok (block_scope sc c) s (out-KStmt s.stmt) refl k.0)) (sym (ap (own_target x) (awaits_is s.stmt)) ∙ z)

  -- the target of an await at the head of a block
  pub head_ok : (sc : Scope) (c : KBlock) → BlockOk K (names_of K) sc c → TargetOk (block_scope sc c) (body_target c)
  head_ok sc c h = subst (TargetOk (block_scope sc c)) (sym (body_target_is (names_of K) c)) (go (out-KBlock c).list (block_static K (names_of K) sc c h))
    where
      go : (list : List KNode) → nodes_fine K (names_of K) (block_scope sc c) list → TargetOk (block_scope sc c) (head_target (names_of K) list)
      go [] k = tt
      go (s ∷ ss) k = subst (TargetOk (block_scope sc c)) (sym (awaits_is s.stmt)) (awaits_ok (block_scope sc c) (out-KStmt s.stmt) (target_ok (block_scope sc c) s (out-KStmt s.stmt) refl k.0))

  -- a target is one of the own body, where no slot of the program has its number
  pub own_if : (x : ℕ) (sc : Scope) (t : Option Loc) → TargetOk sc t → is_loc x t ≡ true → (is_in_code sc.code ≡ true → length (block_slots K.body) ≤ x) → own_target x t ≡ true
  own_if x sc None h e k = absurd (false≢true e)
  own_if x sc (Some l) h e k = go l.outer refl
    where
      go : (t : Bool) → l.outer ≡ t → (not t && (l.slot == x)) ≡ true
      go false q = e
      go true q =
          let a = outer_low sc l q (taken_reads sc h.ty l h.takes_it) in
          let d = k a.0 in
          let f = eqb-true l.slot x e in
          let s = a.1 in
          absurd (omega (arith, d, f, s))

-- ---- what is seen from a place

module _ (K : Kernel) (proper : is_proper K ≡ true) (b : Body) (x : ℕ) where
  abbrev pub floor : ℕ
  floor = length (block_slots K.body)

  -- Something around the place has hold of each of its own body's slots that is seen there. No slot of the program is seen in code.
  pub record Known (sc : Scope) (g : Ground) (here : Body) (o : ℕ) : Type 0 where
    pub room : point b x here ≤ o
    pub held : same_body here b ≡ true → is_cell (find x sc.seen) ≡ true → 3 ≤ o
    pub apart : is_in_code sc.code ≡ true → is_cell (find x sc.seen) ≡ true → floor ≤ x
    pub above : is_in_code sc.code ≡ true → floor ≤ g.low

  abbrev pub KnownAt : Part → Ground → Body → ℕ → Type 0
  KnownAt (ABlock turn sc c) g here o = Known sc g here o
  KnownAt (AStatement sc s) g here o = Known sc g here o
  KnownAt AnEnd g here o = Unit {0}

  pub point_is : (here : Body) → same_body here b ≡ true → point b x here ≡ 2
  point_is here e = ap (λ t. if t then 2 else 0) e

  pub often_declared : (ds : List KDecl) → declares x ds ≡ true → 1 ≤ often x (decl_slots ds)
  often_declared [] h = absurd (false≢true h)
  often_declared (d ∷ ds) h = go (or_cases ((d.slot == x) && is_set_decl d.kind) (declares x ds) h) (often_declared ds)
    where
      go : (((d.slot == x) && is_set_decl d.kind) ≡ true) ⊎ (declares x ds ≡ true) → (declares x ds ≡ true → 1 ≤ often x (decl_slots ds)) → 1 ≤ often x (decl_slots (d ∷ ds))
      go (inl e) ih = let o = once_true x d.slot (eq-eqb x d.slot (sym (eqb-true d.slot x (and_parts (d.slot == x) (is_set_decl d.kind) e).0))) in omega (arith, o)
      go (inr e) ih = let a = ih e in omega (arith, a)

  pub declared_held : (here : Body) (ds : List KDecl) (o : ℕ) → point b x here ≤ o → same_body here b ≡ true → declares x ds ≡ true → 3 ≤ o + slots_grip K.codes b x here ds
  declared_held here ds o r e d =
      let p = point_is here e in
      let q : slots_grip K.codes b x here ds ≡ often x (decl_slots ds) = ap (λ t. if t then often x (decl_slots ds) else 0) e in
      let a = often_declared ds d in
      omega (arith, r, p, q, a)

  pub known_more : (sc : Scope) (g : Ground) (here : Body) (o p : ℕ) → o ≤ p → Known sc g here o → Known sc g here p
  known_more sc g here o p l k = record { room = (let a = k.room in omega (arith, a, l)); held = λ e c. (let a = k.held e c in omega (arith, a, l)); apart = k.apart; above = k.above }

  pub known_inner : (sc : Scope) (h g : Ground) (here : Body) (o : ℕ) → Inner h g → Known sc g here o → Known sc h here o
  known_inner sc h g here o i k = record { room = k.room; held = k.held; apart = k.apart; above = λ e. (let a = k.above e in let l = i.low in omega (arith, a, l)) }

  pub known_list : (sc : Scope) (c : KBlock) (s : KNode) (g : Ground) (here : Body) (o p : ℕ) (i : InBlock c s g) → o + slots_grip K.codes b x here (out-KBlock c).decls ≤ p → Known sc g here o → Known (block_scope sc c) i.ground here p
  known_list sc c s g here o p i l k = record { room = (let a = k.room in omega (arith, a, l)); held = λ e z. held e (seen z); apart = λ e z. apart e (seen z); above = λ e. (let a = k.above e in let m = i.inner.low in omega (arith, a, m)) }
    where
      ds : List KDecl
      ds = (out-KBlock c).decls

      seen : is_cell (find x (block_scope sc c).seen) ≡ true → (declares x ds ≡ true) ⊎ (is_cell (find x sc.seen) ≡ true)
      seen z = find_cell x (pool_slots ds ++ pools_seen sc.seen) ds sc.seen z

      held : same_body here b ≡ true → (declares x ds ≡ true) ⊎ (is_cell (find x sc.seen) ≡ true) → 3 ≤ p
      held e (inl d) = let a = declared_held here ds o k.room e d in omega (arith, a, l)
      held e (inr z) = let a = k.held e z in omega (arith, a, l)

      apart : is_in_code sc.code ≡ true → (declares x ds ≡ true) ⊎ (is_cell (find x sc.seen) ≡ true) → floor ≤ x
      apart e (inl d) = let a = declared_within x ds g.low i.declared d in let f = k.above e in omega (arith, a.0, f)
      apart e (inr z) = k.apart e z

  pub known_part : (sc : Scope) (n : ℕ) (layer : Layer) (c : KBlock) (h g : Ground) (here : Body) (o : ℕ) → opens_part layer c → Inner h g → Known sc g here o → Known (part_scope K sc n layer) h here o
  known_part sc n (KStmt-F.Do t d) c h g here o q i k = record { room = k.room; held = k.held; apart = k.apart; above = (known_inner sc h g here o i k).above }
  known_part sc n (KStmt-F.If arms last) c h g here o q i k = record { room = k.room; held = k.held; apart = k.apart; above = (known_inner sc h g here o i k).above }
  known_part sc n layer c h g here o q i k = elim q [ ]

  pub known_turn : (sc : Scope) (s : KNode) (l : KLoop) (c : KBlock) (g : Ground) (here : Body) (o p : ℕ) (i : InStatement (KStmt-F.Loop l c) (block_slots c) (block_nodes c) g) → out-KStmt s.stmt ≡ KStmt-F.Loop l c
      → Numbered (stmt_slots s.stmt) (s.node ∷ stmt_nodes s.stmt) g → o + own b x here (out-KStmt s.stmt) ≤ p → Known sc g here o → Known (turn_scope K sc s.node l) i.ground here p
  known_turn sc s turns.Free c g here o p i e on m k =
      let j = known_inner sc i.ground g here o i.inner k in
      record { room = (let a = j.room in omega (arith, a, m)); held = λ q z. (let a = j.held q z in omega (arith, a, m)); apart = j.apart; above = j.above }
  known_turn sc s (turns.Times slot n) c g here o p i e on m k =
      let j = known_inner sc i.ground g here o i.inner k in
      record { room = (let a = j.room in omega (arith, a, m)); held = λ q z. (let a = j.held q z in omega (arith, a, m)); apart = j.apart; above = j.above }
  known_turn sc s (turns.Range j next end open_a y1 y2 open_b) c g here o p i e on m k =
      record { room = (let a = k.room in omega (arith, a, m)); held = λ q z. held q (j == x) refl z; apart = λ q z. apart q (j == x) refl z; above = (known_inner sc i.ground g here o i.inner k).above }
    where
      l : KLoop
      l = turns.Range j next end open_a y1 y2 open_b

      first : j ≡ g.low
      first = eqb-true j g.low (and_parts (j == g.low) (counts_from (g.low + 1) (next ∷ end ∷ [])) (hidden_counts s (KStmt-F.Loop l c) g e on).0).0

      held : same_body here b ≡ true → (t : Bool) → (j == x) ≡ t → is_cell (if t then Some IsLoopVariable else find x sc.seen) ≡ true → 3 ≤ p
      held q true u z =
          let a = point_is here q in
          let d : own b x here (KStmt-F.Loop l c) ≡ 1 = ap (λ t. if t then 1 else 0) (and_from (same_body here b) (j == x) q u) in
          let f = ap (own b x here) e in
          let r = k.room in
          omega (arith, a, d, f, r, m)
      held q false u z = let a = k.held q z in omega (arith, a, m)

      apart : is_in_code sc.code ≡ true → (t : Bool) → (j == x) ≡ t → is_cell (if t then Some IsLoopVariable else find x sc.seen) ≡ true → floor ≤ x
      apart q true u z = let a = first in let d = eqb-true j x u in let f = k.above q in omega (arith, a, d, f)
      apart q false u z = k.apart q z

  pub known_async : (sc : Scope) (h g : Ground) (here : Body) (o : ℕ) → Inner h g → Known sc g here o → Known (async_scope K sc) h here o
  known_async sc h g here o i k = record { room = k.room; held = k.held; apart = k.apart; above = (known_inner sc h g here o i k).above }

  pub known_code : (c : ℕ) (k : KCode) (r : CodeRoom k (length (block_slots K.body))) (here : Body) (o : ℕ) → point b x here + slots_grip K.codes b x here k.params ≤ o → Known (code_scope K c k) r.ground here o
  known_code c k r here o l = record { room = omega (arith, l); held = λ e z. held e (seen z); apart = λ e z. apart (seen z); above = λ e. (let a = r.above in let m = r.inner.low in omega (arith, a, m)) }
    where
      seen : is_cell (find x (code_scope K c k).seen) ≡ true → (declares x k.params ≡ true) ⊎ (is_cell (find x []) ≡ true)
      seen z = find_cell x (pool_slots k.params ++ []) k.params [] z

      held : same_body here b ≡ true → (declares x k.params ≡ true) ⊎ (is_cell (find x []) ≡ true) → 3 ≤ o
      held e (inl d) = let a = declared_held here k.params (point b x here) (omega arith) e d in omega (arith, a, l)
      held e (inr f) = absurd (false≢true f)

      apart : (declares x k.params ≡ true) ⊎ (is_cell (find x []) ≡ true) → floor ≤ x
      apart (inl d) = let a = declared_within x k.params r.whole.low r.params d in let f = r.above in omega (arith, a.0, f)
      apart (inr f) = absurd (false≢true f)

  pub known_program : (o : ℕ) → point b x Program ≤ o → KnownAt (program_part K) (root_ground K) Program o
  known_program o l = record { room = l; held = λ e z. absurd (false≢true z); apart = λ e z. absurd (false≢true z); above = λ e. absurd (false≢true e) }

  -- a target that is seen there is one of the own body
  pub target_own : (sc : Scope) (g : Ground) (here : Body) (o : ℕ) (t : Option Loc) → Known sc g here o → TargetOk K proper sc t → is_cell (find x sc.seen) ≡ true → is_loc x t ≡ true → own_target x t ≡ true
  target_own sc g here o t k h c e = own_if K proper x sc t h e (λ q. k.apart q c)

  pub given_is : (here : Body) (s : KNode) (c : ℕ) (es f t : _) (k : KCode) → out-KStmt s.stmt ≡ KStmt-F.AwaitCode c es f t → code_at c K.codes ≡ Some k → given_grip K.codes b x here (called_code K.codes (out-KStmt s.stmt)) ≡ slots_grip K.codes b x here k.params
  given_is here s c es f t k e q = ap (given_grip K.codes b x here) (ap (called_code K.codes) e ∙ q)

  pub record FrameKnown (fr : Frame) (e : Part) (here : Body) (o : ℕ) : Type 0 where
    pub ground : Ground
    pub on : On e ground
    pub known : KnownAt e ground (body_in fr here) (o + frame_grip K.codes b x here fr)

  pub frame_known : {t : ℕ} {fr : Frame} {d e : Part} → FrameFits K t fr d e → (here : Body) (g : Ground) (o : ℕ) → On d g → KnownAt d g here o → FrameKnown fr e here o
  frame_known (around_statement {sc = sc} {b = c} {rest = rest} {s = s} done e f all) here g o on k = let i = list_ground c done s rest g e on in record { ground = i.ground; on = i.on; known = known_list sc c s g here o _ i (omega arith) k }
  frame_known (around_end f all) here g o on k = record { ground = g; on = tt; known = tt }
  frame_known (around_instance {seat = seat} done k e f r front back p q) here g o on m =
      let i = code_room K seat.code k proper q in
      let z = ap (given_grip K.codes b x (Spawned seat.number)) q in
      record { ground = i.ground; on = i.on; known = known_code seat.code k i (Spawned seat.number) _ (omega (arith, z)) }
  frame_known (around_part {sc = sc} {s = s} c q) here g o on k =
      let i = part_ground s c g q on in
      record { ground = i.ground; on = i.on; known = known_more (part_scope K sc s.node (out-KStmt s.stmt)) i.ground here o _ (omega arith) (known_part sc s.node (out-KStmt s.stmt) c i.ground g here o q i.inner k) }
  frame_known (around_turn {sc = sc} {s = s} l c e q) here g o on k = let i = inner_ground s (KStmt-F.Loop l c) g e on in record { ground = i.ground; on = i.on; known = known_turn sc s l c g here o _ i e on (omega arith) k }
  frame_known (around_call {s = s} c es f t k e q) here g o on m =
      let i = code_room K c k proper q in
      let z = given_is (Awaited here s.node) s c es f t k e q in
      record { ground = i.ground; on = i.on; known = known_code c k i (Awaited here s.node) _ (omega (arith, z)) }
  frame_known (around_branch {sc = sc} {s = s} kind slot bs c cs e y z) here g o on k =
      let i = inner_ground s (KStmt-F.Par kind slot (bs ++ c ∷ cs)) g e on in
      let j = branch_ground bs c cs i.ground i.on in
      record { ground = j.ground; on = j.on; known = known_more sc j.ground here o _ (omega arith) (known_inner sc j.ground g here o (inner_then j.ground i.ground g j.inner i.inner) k) }

  pub record AroundKnown {A : Type 0} (f : Focus A) (e : Part) (here : Body) (o : ℕ) : Type 0 where
    pub ground : Ground
    pub on : On e ground
    pub known : KnownAt e ground (body_of f here) (o + focus_grip K.codes b x here f)

  known_as : (d : Part) (g : Ground) (here : Body) (o p : ℕ) → o ≤ p → KnownAt d g here o → KnownAt d g here p
  known_as (ABlock turn sc c) g here o p l k = known_more sc g here o p l k
  known_as (AStatement sc s) g here o p l k = known_more sc g here o p l k
  known_as AnEnd g here o p l k = tt

  pub around_known : {A : Type 0} {t : ℕ} (f : Focus A) (d e : Part) → Around K t A f d e → (here : Body) (g : Ground) (o : ℕ) → On d g → KnownAt d g here o → AroundKnown f e here o
  unfolding focus_grip
  around_known (Here a) d e nothing_around here g o on k = record { ground = g; on = on; known = known_as d g here o _ (omega arith) k }
  around_known (In fr f) d e (one_around {e = c} a more) here g o on k =
      let i = frame_known a here g o on k in
      let j = around_known f c e more (body_in fr here) i.ground (o + frame_grip K.codes b x here fr) i.on i.known in
      record { ground = j.ground; on = j.on; known = known_as e j.ground (body_of f (body_in fr here)) _ _ (omega arith) j.known }
