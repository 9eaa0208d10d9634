-- What waits and fits a proper kernel stands as a legal configuration has it.
use Rattle.std.proofs.Common.{◌≡◌, refl, sym, ap, ◌∙◌, subst, ℕ, suc, ◌^◌, ◌-◌, nat_le, Bool, true, false, not, if◌then◌else◌, ◌==◌, ◌&&◌, ◌||◌, inl, inr, List, [], ◌∷◌, ◌++◌, length, length-append, Option, Some, None, is_some, arith, eq-eqb}
use Rattle.std.specs.List.{list_any}
use Rattle.std.proofs.lemmas.Bool.{and_parts, and_from, false≢true, le-leb}
use Rattle.ceu_base.specs.declared.kinds.Ty.{Ty}
use Rattle.ceu_tree.specs.declared.kernel.Kernel.{Kernel}
use Rattle.ceu_tree.specs.declared.kernel.KDecl.{KDecl}
use Rattle.ceu_tree.specs.declared.kernel.KKind.{KKind}
use Rattle.ceu_tree.specs.declared.kernel.KKind.TheVariants as kind
use Rattle.ceu_tree.specs.declared.kernel.KLoop.{KLoop}
use Rattle.ceu_tree.specs.declared.kernel.KLoop.TheVariants as turns
use Rattle.ceu_tree.specs.declared.kernel.ParKind.{ParKind}
use Rattle.ceu_tree.specs.declared.kernel.ParKind.TheVariants as par
use Rattle.ceu_tree.specs.declared.kernel.KNode.{KNode}
use Rattle.ceu_tree.specs.declared.kernel.KArm.{KArm, out-KArm}
use Rattle.ceu_tree.specs.declared.kernel.KBlock.{KBlock, out-KBlock}
use Rattle.ceu_tree.specs.declared.kernel.KStmt.{out-KStmt}
use Rattle.ceu_tree.specs.declared.kernel.KStmt.TheOpen.{KStmt-F}
use Rattle.ceu_tree.specs.Residual.{Body, Awaited, Spawned, Counter, Residual, WaitInput, WaitTime, WaitEvent, WaitForever, InAsync, Open, Loop, Call, Par, Branches, Instances}
use Rattle.ceu_tree.specs.World.{Cell, World, look}
use Rattle.ceu_tree.specs.Leaf.{Layer, code_at}
use Rattle.ceu_tree.specs.Legal.{Seated, same_nodes, current, before, finalizers_of, is_set, called_code, is_pool, held_ok, decls_ok, params_ok, counter_ok, par_stands, may_be_over, block_stands, stmt_stands, branches_stand, instances_stand}
use Rattle.ceu_tree.specs.Mentions.{is_set_decl}
use Rattle.ceu_tree.specs.Proper.{Where, InTrail, Scope, is_trail, pool_slots, is_proper}
use Rattle.laws_meaning_basics.specs.Shape.{Part, ABlock, AStatement, AnEnd, part_scope, turn_scope, opens_part, among_arms, pauses, may_end, still_on, Fits, to_begin, to_turn, in_list, to_finish, at_input, at_time, at_event, at_forever, at_async, in_part, in_turn, in_call, in_par, EachFits, no_more, an_ended, a_branch, AllFit, none_lives, one_lives}
use Rattle.laws_meaning_basics.proofs.Static.{names_of, each_fine, layer_fine, code_static}
use Rattle.laws_meaning_basics.proofs.UpFits.{Sound, layer_of, list_sound, part_sound}
use Rattle.laws_meaning_values.proofs.Positions.{before_at}
use Rattle.laws_meaning_values.proofs.Stores.{or_left, or_right}
use Rattle.laws_meaning_counters.specs.Ranges.{in_range, each_in_range, all_in_range}
use Rattle.laws_meaning_instances.specs.Instances.{pools_stand, each_pools_stand, seats_stand}
use Rattle.laws_meaning_instances.proofs.Runs.{places_same}
use Rattle.laws_meaning_slots.proofs.Writes.{all_variables, parameters_are}
use Rattle.laws_meaning_counters.specs.Laws.{at_layer, each_loop, branches_each_loop, all_each_loop, counter_legal}
use Rattle.laws_meaning_assigned.specs.Slots.{declared_set, parameters_set, given_set, slots_set, branches_set, instances_set}
use Rattle.laws_meaning_types.specs.Cells.{cell_legal, decls_legal, given_legal, cells_legal, branches_legal, instances_legal}

-- ---- the statement at which a block stands

nodes_same : (xs : List KNode) → same_nodes xs xs ≡ true
nodes_same [] = refl
nodes_same (x ∷ xs) = and_from (x.node == x.node) (same_nodes xs xs) (eq-eqb x.node x.node refl) (nodes_same xs)

as_long : (xs ys : List KNode) → same_nodes xs ys ≡ true → length xs ≡ length ys
as_long [] [] h = refl
as_long [] (y ∷ ys) h = absurd (false≢true h)
as_long (x ∷ xs) [] h = absurd (false≢true h)
as_long (x ∷ xs) (y ∷ ys) h = ap suc (as_long xs ys (and_parts (x.node == y.node) (same_nodes xs ys) h).1)

current_is : (done : List KNode) (s : KNode) (rest : List KNode) → current (done ++ s ∷ rest) rest ≡ Some s
current_is [] s rest = ap (λ b. if b then Some s else current rest rest) (nodes_same rest)
current_is (q ∷ done) s rest = go (same_nodes (done ++ s ∷ rest) rest) refl (current_is done s rest)
  where
    go : (b : Bool) → same_nodes (done ++ s ∷ rest) rest ≡ b → current (done ++ s ∷ rest) rest ≡ Some s → (if b then Some q else current (done ++ s ∷ rest) rest) ≡ Some s
    go true e h = let l = as_long (done ++ s ∷ rest) rest e in absurd (omega (arith, l, length-append done (s ∷ rest)))
    go false e h = h

-- ---- where a part stands

abbrev place : Part → Where
place (ABlock turn sc b) = sc.place
place (AStatement sc s) = sc.place
place AnEnd = InTrail

-- in a trail nothing can run, and in an async what is at level 0
abbrev At : (async : Bool) → ℕ → Where → Type 0
At false t p = t ≡ 0
At true t p = (t ≡ 1) × (is_trail p ≡ false)

module _ (K : Kernel) where
  part_place : (sc : Scope) (n : ℕ) (layer : Layer) (b : KBlock) → opens_part layer b → sc.place ≡ (part_scope K sc n layer).place
  part_place sc n (KStmt-F.Do t c) b o = refl
  part_place sc n layer b o = refl

  turn_place : (sc : Scope) (n : ℕ) (k : KLoop) → sc.place ≡ (turn_scope K sc n k).place
  turn_place sc n turns.Free = refl
  turn_place sc n (turns.Times slot limit) = refl
  turn_place sc n (turns.Range i next end open_a a b open_b) = refl

  pauses_trail : (names : List (List ℕ)) (sc : Scope) (n : ℕ) (layer : Layer) → layer_fine K names sc n layer → pauses layer ≡ true → is_trail sc.place ≡ true
  pauses_trail names sc n (KStmt-F.Emit e x) h p = h
  pauses_trail names sc n (KStmt-F.AwaitIn k t) h p = h
  pauses_trail names sc n (KStmt-F.AwaitTime e u t) h p = h
  pauses_trail names sc n (KStmt-F.AwaitEvent e t) h p = h
  pauses_trail names sc n (KStmt-F.Spawn c es q a) h p = h.0
  pauses_trail names sc n (KStmt-F.Async b) h p = h.0
  pauses_trail names sc n layer h p = absurd (false≢true p)

module _ (K : Kernel) (proper : is_proper K ≡ true) (w : World) (found : List Seated) where
  -- ---- what declarations and parameters hold

  slot_stands : (body : Body) (ps : List ℕ) (k : KKind) (b : Bool) (o : Option Cell) → cell_legal K w found body ps k o ≡ true
      → (not (is_set_decl k) || (not b || is_some o)) ≡ true → (is_pool K w found k || held_ok K w found body ps b k o) ≡ true
  slot_stands body ps (kind.Pool n c) b o l h = refl
  slot_stands body ps (kind.Var t) true None l h = h
  slot_stands body ps (kind.Var t) false None l h = refl
  slot_stands body ps (kind.Var t) b (Some x) l h = l
  slot_stands body ps (kind.Alias c) true None l h = h
  slot_stands body ps (kind.Alias c) false None l h = refl
  slot_stands body ps (kind.Alias c) b (Some x) l h = l

  decls_stand : (body : Body) (ps : List ℕ) (done : List KNode) (ds : List KDecl) → decls_legal K w found body ps ds ≡ true → declared_set K.codes w body done ds ≡ true
      → decls_ok K w found body ps done ds ≡ true
  decls_stand body ps done [] l h = refl
  decls_stand body ps done (d ∷ ds) l h =
      let l1 = and_parts (cell_legal K w found body ps d.kind (look body d.slot w.values)) (decls_legal K w found body ps ds) l in
      let h1 = and_parts _ (declared_set K.codes w body done ds) h in
      and_from _ _ (slot_stands body ps d.kind (is_set done d.slot) (look body d.slot w.values) l1.0 h1.0) (decls_stand body ps done ds l1.1 h1.1)

  parameter_stands : (body : Body) (k : KKind) (t : Ty) (o : Option Cell) → k ≡ kind.Var t → cell_legal K w found body [] k o ≡ true
      → (not (is_set_decl k) || is_some o) ≡ true → held_ok K w found body [] true k o ≡ true
  parameter_stands body (kind.Var u) t None e l h = h
  parameter_stands body (kind.Alias c) t None e l h = h
  parameter_stands body (kind.Pool n c) t None e l h = absurd (false≢true (sym (ap (is_pool K w found) e)))
  parameter_stands body k t (Some x) e l h = l

  parameters_stand : (body : Body) (ds : List KDecl) → all_variables ds → decls_legal K w found body [] ds ≡ true → parameters_set K.codes w body ds ≡ true
      → params_ok K w found body ds ≡ true
  parameters_stand body [] v l h = refl
  parameters_stand body (d ∷ ds) v l h =
      let l1 = and_parts (cell_legal K w found body [] d.kind (look body d.slot w.values)) (decls_legal K w found body [] ds) l in
      let h1 = and_parts _ (parameters_set K.codes w body ds) h in
      and_from _ _ (parameter_stands body d.kind v.0.0 (look body d.slot w.values) v.0.1 l1.0 h1.0) (parameters_stand body ds v.1 l1.1 h1.1)

  -- ---- statements, in a trail and in an async

  self : (n : ℕ) → (n == n) ≡ true
  self n = eq-eqb n n refl

  par_on : (k : ParKind) (rs : Branches) → still_on k rs ≡ true → par_stands K w found k rs ≡ true
  par_on par.And rs h = h
  par_on par.Or rs h = refl
  par_on par.Never rs h = refl

  over_may : (k : ParKind) → may_end k ≡ true → may_be_over K w found k ≡ true
  over_may par.And h = refl
  over_may par.Or h = h
  over_may par.Never h = refl

  module _ (body : Body) (ps : List ℕ) (s : KNode) (r : Residual) where
    do_is : (async : Bool) (t : _) (b : KBlock) → stmt_stands K w found async body ps s (KStmt-F.Do t b) (Open s r) ≡ ((s.node == s.node) && block_stands K w found async body ps b r)
    unfolding stmt_stands
    do_is true t b = refl
    do_is false t b = refl

    if_is : (async : Bool) (arms : List KArm) (last : KBlock)
        → stmt_stands K w found async body ps s (KStmt-F.If arms last) (Open s r)
        ≡ ((s.node == s.node) && (block_stands K w found async body ps last r || list_any (λ a. block_stands K w found async body ps (out-KArm a).body r) arms))
    unfolding stmt_stands
    if_is true arms last = refl
    if_is false arms last = refl

    loop_is : (async : Bool) (k : KLoop) (b : KBlock) (c : Counter)
        → stmt_stands K w found async body ps s (KStmt-F.Loop k b) (Loop s c r) ≡ ((s.node == s.node) && counter_ok K w found body k c && block_stands K w found async body ps b r)
    unfolding stmt_stands
    loop_is true k b c = refl
    loop_is false k b c = refl

    arm_stands : (async : Bool) (arms : List KArm) (b : KBlock) → among_arms arms b → block_stands K w found async body ps b r ≡ true
        → list_any (λ a. block_stands K w found async body ps (out-KArm a).body r) arms ≡ true
    arm_stands async [] b m h = absurd m
    arm_stands async (a ∷ arms) b (inl e) h = or_left _ _ (subst (λ x. block_stands K w found async body ps x r ≡ true) (sym e) h)
    arm_stands async (a ∷ arms) b (inr m) h = or_right _ _ (arm_stands async arms b m h)

    part_stands : (async : Bool) (layer : Layer) (b : KBlock) → opens_part layer b → block_stands K w found async body ps b r ≡ true
        → stmt_stands K w found async body ps s layer (Open s r) ≡ true
    part_stands async (KStmt-F.Do t c) b o h = do_is async t c ∙ and_from _ _ (self s.node) (subst (λ x. block_stands K w found async body ps x r ≡ true) (sym o) h)
    part_stands async (KStmt-F.If arms last) b (inl m) h = if_is async arms last ∙ and_from _ _ (self s.node) (or_right _ _ (arm_stands async arms b m h))
    part_stands async (KStmt-F.If arms last) b (inr e) h =
        if_is async arms last ∙ and_from _ _ (self s.node) (or_left _ _ (subst (λ x. block_stands K w found async body ps x r ≡ true) (sym e) h))
    part_stands async layer b o h = absurd o

  -- in an async stands no statement of trails
  no_async : (sc : Scope) (t : ℕ) (G : Type 0) → At true t sc.place → is_trail sc.place ≡ true → G
  no_async sc t G a h = absurd (false≢true (sym a.1 ∙ h))

  -- ---- a part

  abbrev Stands : (async : Bool) → Body → List ℕ → Part → Residual → Type 0
  Stands async body ps (ABlock turn sc b) r = block_stands K w found async body ps b r ≡ true
  Stands async body ps (AStatement sc s) r = stmt_stands K w found async body ps s (out-KStmt s.stmt) r ≡ true
  Stands async body ps AnEnd r = Unit {0}

  abbrev AtLayer : (async : Bool) → Body → List ℕ → KNode → Residual → Layer → Type 0
  AtLayer async body ps s r layer = stmt_stands K w found async body ps s layer r ≡ true

  all_at : (async : Bool) (t : ℕ) (p : Where) → At async t p → is_trail p ≡ true → t ≡ 0
  all_at false t p a h = a
  all_at true t p a h = absurd (false≢true (sym a.1 ∙ h))

  mutual
    unfolding block_stands cells_legal slots_set each_loop pools_stand in_range

    pub tree_stands : {t : ℕ} {d : Part} {r : Residual} → Fits K t d r → Sound K proper d → (async : Bool) → At async t (place d) → (body : Body) (ps : List ℕ)
        → cells_legal K w found r body ps ≡ true → slots_set K.codes w r body ≡ true → each_loop (counter_legal K w found) body r → pools_stand r → in_range r
        → Stands async body ps d r
    tree_stands (to_begin l) h false a body ps c g j p q = absurd (omega (arith, l, a))
    tree_stands (to_begin {n = n} {b = b} l) h true a body ps c g j p q = and_from _ _ (eq-eqb n 0 (omega (arith, l, a.0))) (self (out-KBlock b).node)
    tree_stands (to_turn l z) h false a body ps c g j p q = absurd (omega (arith, l, a))
    tree_stands (to_turn {n = n} l z) h true a body ps c g j p q = eq-eqb n 0 (omega (arith, l, a.0))
    tree_stands (in_list {turn = turn} {sc = sc} {b = b} {fin = fin} {rest = rest} {all = all} {r = r} {s = s} done e z fit more) h async a body ps c g j p q =
        let ds = (out-KBlock b).decls in
        let list = (out-KBlock b).list in
        let inner = pool_slots ds ++ ps in
        let c1 = and_parts (decls_legal K w found body inner ds) (instances_legal K w found all && cells_legal K w found r body inner) c in
        let c2 = and_parts (instances_legal K w found all) (cells_legal K w found r body inner) c1.1 in
        let g1 = and_parts (declared_set K.codes w body (before list rest) ds) (instances_set K.codes w all && slots_set K.codes w r body) g in
        let g2 = and_parts (instances_set K.codes w all) (slots_set K.codes w r body) g1.1 in
        let at : current list rest ≡ Some s = ap (λ l. current l rest) e ∙ current_is done s rest in
        let fins : same_nodes fin (finalizers_of [] (before list rest)) ≡ true =
        subst (λ l. same_nodes fin (finalizers_of [] l) ≡ true) (sym (before_at b done s rest e)) (subst (λ l. same_nodes l (finalizers_of [] done) ≡ true) (sym z) (nodes_same (finalizers_of [] done))) in
        and_from _ _
        (and_from _ _
        (and_from _ _ (and_from _ _ (self (out-KBlock b).node) fins) (decls_stand body inner (before list rest) ds c1.0 g1.0))
        (all_stand fit (all_at async _ sc.place a) ds c2.0 g2.0 j.0 p.0 q.0))
        (subst (λ o. (elim o [ None ↦ false | Some x ↦ stmt_stands K w found async body inner x (out-KStmt x.stmt) r ]) ≡ true) (sym at)
        (tree_stands more (list_sound K proper sc b done s rest h e) async a body inner c2.1 g2.1 j.1 p.1 q.1))
    tree_stands (to_finish l z) h false a body ps c g j p q = absurd (omega (arith, l, a))
    tree_stands (to_finish {sc = sc} {s = s} l z) h true a body ps c g j p q =
        no_async sc _ _ a (pauses_trail K (names_of K) sc s.node (out-KStmt s.stmt) (layer_of K proper sc s (out-KStmt s.stmt) refl h) z)
    tree_stands (at_input {k = k} {sc = sc} {s = s} u e) h true a body ps c g j p q = no_async sc _ _ a (layer_of K proper sc s (KStmt-F.AwaitIn k u) e h)
    tree_stands (at_input {k = k} {s = s} u e) h false a body ps c g j p q = subst (AtLayer false body ps s (WaitInput k s)) (sym e) (and_from _ _ (self s.node) (self k))
    tree_stands (at_time {sc = sc} {s = s} y u z e) h true a body ps c g j p q = no_async sc _ _ a (layer_of K proper sc s (KStmt-F.AwaitTime y u z) e h)
    tree_stands (at_time {d = d} {s = s} y u z e) h false a body ps c g j p q =
        subst (AtLayer false body ps s (WaitTime d s)) (sym e) (and_from _ _ (self s.node) (and_from (nat_le 1 d) (nat_le d (2 ^ 63 - 1)) (le-leb 1 d q.0) (le-leb d (2 ^ 63 - 1) q.1)))
    tree_stands (at_event {k = k} {sc = sc} {s = s} u e) h true a body ps c g j p q = no_async sc _ _ a (layer_of K proper sc s (KStmt-F.AwaitEvent k u) e h)
    tree_stands (at_event {k = k} {s = s} u e) h false a body ps c g j p q = subst (AtLayer false body ps s (WaitEvent k s)) (sym e) (and_from _ _ (self s.node) (self k))
    tree_stands (at_forever {sc = sc} {s = s} e) h true a body ps c g j p q = no_async sc _ _ a (layer_of K proper sc s KStmt-F.Forever e h)
    tree_stands (at_forever {s = s} e) h false a body ps c g j p q = subst (AtLayer false body ps s (WaitForever s)) (sym e) (self s.node)
    tree_stands (at_async {sc = sc} {s = s} b e more) h true a body ps c g j p q = no_async sc _ _ a (layer_of K proper sc s (KStmt-F.Async b) e h).0
    tree_stands (at_async {sc = sc} {s = s} {served = served} {r = r} b e more) h false a body ps c g j p q =
        subst (AtLayer false body ps s (InAsync s served r)) (sym e)
        (and_from _ _ (self s.node) (tree_stands more (layer_of K proper sc s (KStmt-F.Async b) e h).1 true (refl, refl) body ps c g j p q))
    tree_stands (in_part {top = t} {sc = sc} {s = s} {r = r} b o more) h async a body ps c g j p q =
        part_stands body ps s r async (out-KStmt s.stmt) b o
        (tree_stands more (part_sound K proper sc s.node (out-KStmt s.stmt) b (layer_of K proper sc s (out-KStmt s.stmt) refl h) o) async
        (subst (At async t) (part_place K sc s.node (out-KStmt s.stmt) b o) a) body ps c g j p q)
    tree_stands (in_turn {top = t} {sc = sc} {s = s} {c = n} {r = r} k b e z more) h async a body ps c g j p q =
        subst (AtLayer async body ps s (Loop s n r)) (sym e)
        (loop_is body ps s r async k b n ∙ and_from _ _ (and_from _ _ (self s.node) (subst (λ l. at_layer (counter_legal K w found) body l n) e j.0))
        (tree_stands more (layer_of K proper sc s (KStmt-F.Loop k b) e h) async (subst (At async t) (turn_place K sc s.node k) a) body ps c g j.1 p q.1))
    tree_stands (in_call {sc = sc} {s = s} m es f y k e z more) h true a body ps c g j p q = no_async sc _ _ a (layer_of K proper sc s (KStmt-F.AwaitCode m es f y) e h).0
    tree_stands (in_call {sc = sc} {s = s} {r = r} m es f y k e z more) h false a body ps c g j p q =
        let here = Awaited body s.node in
        let c1 = and_parts (given_legal K w found here (called_code K.codes (out-KStmt s.stmt))) (cells_legal K w found r here []) c in
        let g1 = and_parts (given_set K.codes w here (called_code K.codes (out-KStmt s.stmt))) (slots_set K.codes w r here) g in
        let code : called_code K.codes (out-KStmt s.stmt) ≡ Some k = ap (called_code K.codes) e ∙ z in
        subst (AtLayer false body ps s (Call s r)) (sym e)
        (and_from _ _ (self s.node)
        (subst (λ o. (elim o [ None ↦ false | Some x ↦ params_ok K w found here x.params && block_stands K w found false here [] x.body r ]) ≡ true) (sym z)
        (and_from _ _
        (parameters_stand here k.params (parameters_are K m k proper z) (subst (λ o. given_legal K w found here o ≡ true) code c1.0) (subst (λ o. given_set K.codes w here o ≡ true) code g1.0))
        (tree_stands more (code_static K m k proper z) false a here [] c1.1 g1.1 j p q))))
    tree_stands (in_par {sc = sc} {s = s} k slot bs e z more) h true a body ps c g j p q = no_async sc _ _ a (layer_of K proper sc s (KStmt-F.Par k slot bs) e h).0
    tree_stands (in_par {sc = sc} {s = s} {rs = rs} k slot bs e z more) h false a body ps c g j p q =
        subst (AtLayer false body ps s (Par s rs)) (sym e)
        (and_from _ _ (and_from _ _ (self s.node) (par_on k rs z)) (each_stand more (layer_of K proper sc s (KStmt-F.Par k slot bs) e h).1 a body ps c g j p q))

    each_stand : {t : ℕ} {sc : Scope} {k : ParKind} {bs : List KBlock} {rs : Branches} → EachFits K t sc k bs rs → each_fine K (names_of K) sc bs → t ≡ 0 → (body : Body) (ps : List ℕ)
        → branches_legal K w found rs body ps ≡ true → branches_set K.codes w rs body ≡ true → branches_each_loop (counter_legal K w found) body rs → each_pools_stand rs → each_in_range rs
        → branches_stand K w found body ps k bs rs ≡ true
    each_stand no_more h a body ps c g j p q = refl
    each_stand {k = k} (an_ended m rest) h a body ps c g j p q = and_from _ _ (or_left _ _ (over_may k m)) (each_stand rest h.1 a body ps c g j.1 p.1 q.1)
    each_stand (a_branch {r = r} {more = more} fit rest) h a body ps c g j p q =
        let c1 = and_parts (cells_legal K w found r body ps) (branches_legal K w found more body ps) c in
        let g1 = and_parts (slots_set K.codes w r body) (branches_set K.codes w more body) g in
        and_from _ _ (or_right _ _ (tree_stands fit h.0 false a body ps c1.0 g1.0 j.0 p.0 q.0)) (each_stand rest h.1 a body ps c1.1 g1.1 j.1 p.1 q.1)

    all_stand : {t : ℕ} {sc : Scope} {all : Instances} → AllFit K t sc all → (is_trail sc.place ≡ true → t ≡ 0) → (ds : List KDecl)
        → instances_legal K w found all ≡ true → instances_set K.codes w all ≡ true → all_each_loop (counter_legal K w found) all → seats_stand ds all → all_in_range all
        → instances_stand K w found ds all ≡ true
    all_stand none_lives a ds c g j p q = refl
    all_stand (one_lives {seat = seat} {r = r} {more = more} k y z fit rest) a ds c g j p q =
        let here = Spawned seat.number in
        let c1 = and_parts (given_legal K w found here (code_at seat.code K.codes)) (cells_legal K w found r here [] && instances_legal K w found more) c in
        let c2 = and_parts (cells_legal K w found r here []) (instances_legal K w found more) c1.1 in
        let g1 = and_parts (given_set K.codes w here (code_at seat.code K.codes)) (slots_set K.codes w r here && instances_set K.codes w more) g in
        let g2 = and_parts (slots_set K.codes w r here) (instances_set K.codes w more) g1.1 in
        and_from _ _
        (and_from _ _
        (and_from _ _ ((places_same K w found).places ds seat ∙ p.0) ((places_same K w found).order seat more ∙ p.1))
        (subst (λ o. (elim o [ None ↦ false | Some x ↦ params_ok K w found here x.params && block_stands K w found false here [] x.body r ]) ≡ true) (sym z)
        (and_from _ _
        (parameters_stand here k.params (parameters_are K seat.code k proper z) (subst (λ o. given_legal K w found here o ≡ true) z c1.0) (subst (λ o. given_set K.codes w here o ≡ true) z g1.0))
        (tree_stands fit (code_static K seat.code k proper z) false (a y) here [] c2.0 g2.0 j.0 p.2 q.0))))
        (all_stand rest a ds c2.1 g2.1 j.1 p.3 q.1)
