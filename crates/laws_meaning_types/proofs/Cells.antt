-- Where values are of the types of their variables, open declarations hold cells of legal configurations.
use Rattle.std.proofs.Common.{◌≡◌, refl, sym, ap, ◌∙◌, subst, ℕ, true, false, ◌&&◌, inl, inr, List, [], ◌∷◌, Option, Some, None}
use Rattle.std.proofs.lemmas.Bool.{and_parts, and_from, false≢true}
use Rattle.ceu_tree.specs.declared.kernel.Kernel.{Kernel}
use Rattle.ceu_tree.specs.declared.kernel.KCode.{KCode}
use Rattle.ceu_tree.specs.declared.kernel.KDecl.{KDecl}
use Rattle.ceu_tree.specs.declared.kernel.KKind.{KKind}
use Rattle.ceu_tree.specs.declared.kernel.KKind.TheVariants as kind
use Rattle.ceu_tree.specs.declared.kernel.ParKind.{ParKind}
use Rattle.ceu_tree.specs.declared.kernel.KBlock.{KBlock, out-KBlock}
use Rattle.ceu_tree.specs.declared.kernel.KStmt.{out-KStmt}
use Rattle.ceu_tree.specs.declared.kernel.KStmt.TheOpen.{KStmt-F}
use Rattle.ceu_tree.specs.Residual.{Body, Awaited, Spawned, Residual, Branches, Instances}
use Rattle.ceu_tree.specs.World.{Cell, Holds, NotSet, Names, World, look}
use Rattle.ceu_tree.specs.Leaf.{code_at}
use Rattle.ceu_tree.specs.Legal.{Seated, called_code}
use Rattle.ceu_tree.specs.Proper.{Scope, pools_seen, slot_kind, is_proper}
use Rattle.laws_meaning_basics.specs.Shape.{Part, Fits, to_begin, to_turn, in_list, to_finish, at_input, at_time, at_event, at_forever, at_async, in_part, in_turn, in_call, in_par, EachFits, no_more, an_ended, a_branch, AllFit, none_lives, one_lives}
use Rattle.laws_meaning_slots.specs.Declared.{inner_pools, decl_rows, block_rows, rows, kind_at}
use Rattle.laws_meaning_slots.specs.Kinds.{cell_fits, slot_fits, fits_declared, fits_given, kinds_fit, kinds_fit_branches, kinds_fit_instances}
use Rattle.laws_meaning_slots.specs.Names.{cell_agrees, decl_agrees, declared_agree, names_agree, branches_agree, instances_agree}
use Rattle.laws_meaning_slots.specs.Typed.{cell_typed}
use Rattle.laws_meaning_slots.proofs.Writes.{all_variables, parameters_are}
use Rattle.laws_meaning_slots.proofs.Rows.{Incl, incl_left, incl_right, blocks_all_rows, kind_of_row}
use Rattle.laws_meaning_slots.proofs.Known.{row, KnownSeen, Known, decls_known, list_known, parts_known, part_known, turn_known, async_known, params_known, code_known}
use Rattle.laws_meaning_slots.proofs.Typing.{AllTyped, look_typed}
use Rattle.laws_meaning_types.specs.Cells.{cell_legal, decls_legal, given_legal, cells_legal, branches_legal, instances_legal}

module _ (K : Kernel) (proper : is_proper K ≡ true) (w : World) (found : List Seated) (typed : AllTyped K proper w) where
  slot_legal : (body : Body) (ps : List ℕ) (slot : ℕ) (k : KKind) → kind_at slot (rows K) ≡ Some (slot_kind ps k)
      → slot_fits K.codes w body slot k ≡ true
      → (qs : List ℕ) → decl_agrees K w found body qs slot k ≡ true → cell_legal K w found body qs k (look body slot w.values) ≡ true
  slot_legal body ps slot k e f qs a = go k (look body slot w.values) refl e f a
    where
      go : (k : KKind) (o : Option Cell) → look body slot w.values ≡ o → kind_at slot (rows K) ≡ Some (slot_kind ps k)
          → cell_fits K.codes w k o ≡ true
          → decl_agrees K w found body qs slot k ≡ true → cell_legal K w found body qs k o ≡ true
      go k None q e f a = refl
      go (kind.Var t) (Some (Holds v)) q e f a = sym (ap (λ o. cell_typed o (Holds v)) e) ∙ look_typed K proper body slot (Holds v) w.values typed q
      go (kind.Var t) (Some NotSet) q e f a = absurd (false≢true f)
      go (kind.Var t) (Some (Names n)) q e f a = absurd (false≢true f)
      go (kind.Alias c) (Some NotSet) q e f a = refl
      go (kind.Alias c) (Some (Names n)) q e f a = subst (λ o. cell_agrees K w found body c qs o ≡ true) q a
      go (kind.Alias c) (Some (Holds v)) q e f a = absurd (false≢true f)
      go (kind.Pool m c) (Some d) q e f a = absurd (false≢true (sym (none d) ∙ f))
        where
          none : (d : Cell) → cell_fits K.codes w (kind.Pool m c) (Some d) ≡ false
          none (Holds v) = refl
          none NotSet = refl
          none (Names n) = refl

  declared_legal : (body : Body) (ps qs : List ℕ) (ds : List KDecl) → Incl (decl_rows ps ds) (rows K) → fits_declared K.codes w body ds ≡ true
      → declared_agree K w found body qs ds ≡ true → decls_legal K w found body qs ds ≡ true
  declared_legal body ps qs [] i f a = refl
  declared_legal body ps qs (d ∷ ds) i f a =
      let f1 = and_parts (slot_fits K.codes w body d.slot d.kind) (fits_declared K.codes w body ds) f in
      let a1 = and_parts (decl_agrees K w found body qs d.slot d.kind) (declared_agree K w found body qs ds) a in
      and_from _ _ (slot_legal body ps d.slot d.kind (kind_of_row K proper (row d.slot (slot_kind ps d.kind)) (i (row d.slot (slot_kind ps d.kind)) (inl refl))) f1.0 qs a1.0)
      (declared_legal body ps qs ds (λ r m. i r (inr m)) f1.1 a1.1)

  -- parameters are variables
  variables_agree : (body : Body) (qs : List ℕ) (ds : List KDecl) → all_variables ds → declared_agree K w found body qs ds ≡ true
  variables_agree body qs [] h = refl
  variables_agree body qs (d ∷ ds) h = and_from _ _ (ap (decl_agrees K w found body qs d.slot) h.0.1) (variables_agree body qs ds h.1)

  code_legal : (body : Body) (c : ℕ) (o : Option KCode) → code_at c K.codes ≡ o → fits_given K.codes w body o ≡ true
      → given_legal K w found body o ≡ true
  code_legal body c None e f = refl
  code_legal body c (Some k) e f = declared_legal body (inner_pools [] k.params) [] k.params (params_known K proper c k e) f (variables_agree body [] k.params (parameters_are K c k proper e))

  mutual
    unfolding kinds_fit names_agree cells_legal

    pub tree_legal : {t : ℕ} {d : Part} {r : Residual} → Fits K t d r → Known K proper d → (body : Body) (ps : List ℕ)
        → kinds_fit K.codes w r body ≡ true
        → names_agree K w found r body ps ≡ true → cells_legal K w found r body ps ≡ true
    tree_legal (to_begin n) i body ps f a = refl
    tree_legal (to_turn n q) i body ps f a = refl
    tree_legal (in_list {turn = turn} {sc = sc} {b = b} {rest = rest} {all = all} {r = r} {s = s} done e z fit more) i body ps f a =
        let ds = (out-KBlock b).decls in
        let inner = inner_pools ps ds in
        let f1 = and_parts (fits_declared K.codes w body ds) (kinds_fit_instances K.codes w all && kinds_fit K.codes w r body) f in
        let f2 = and_parts (kinds_fit_instances K.codes w all) (kinds_fit K.codes w r body) f1.1 in
        let a1 = and_parts (declared_agree K w found body inner ds) (instances_agree K w found all && names_agree K w found r body inner) a in
        let a2 = and_parts (instances_agree K w found all) (names_agree K w found r body inner) a1.1 in
        and_from _ _ (declared_legal body (inner_pools (pools_seen sc.seen) ds) inner ds (decls_known K proper (pools_seen sc.seen) b i.0) f1.0 a1.0)
        (and_from _ _ (all_legal fit f2.0 a2.0) (tree_legal more (list_known K proper turn sc b done s rest e i) body inner f2.1 a2.1))
    tree_legal (to_finish n q) i body ps f a = refl
    tree_legal (at_input q e) i body ps f a = refl
    tree_legal (at_time q u y e) i body ps f a = refl
    tree_legal (at_event q e) i body ps f a = refl
    tree_legal (at_forever e) i body ps f a = refl
    tree_legal (at_async {sc = sc} {s = s} b e more) i body ps f a = tree_legal more (async_known K proper sc s b e i) body ps f a
    tree_legal (in_part {sc = sc} {s = s} b o more) i body ps f a = tree_legal more (part_known K proper sc s b o i) body ps f a
    tree_legal (in_turn {sc = sc} {s = s} {r = r} k b e q more) i body ps f a = tree_legal more (turn_known K proper sc s k b e i) body ps (and_parts _ (kinds_fit K.codes w r body) f).1 a
    tree_legal (in_call {s = s} {r = r} c es g y k e q more) i body ps f a =
        let inner = Awaited body s.node in
        let f1 = and_parts (fits_given K.codes w inner (called_code K.codes (out-KStmt s.stmt))) (kinds_fit K.codes w r inner) f in
        and_from _ _ (subst (λ l. fits_given K.codes w inner (called_code K.codes l) ≡ true → given_legal K w found inner (called_code K.codes l) ≡ true) (sym e) (code_legal inner c (code_at c K.codes) refl) f1.0)
        (tree_legal more (code_known K proper c k q) inner [] f1.1 a)
    tree_legal (in_par {sc = sc} {s = s} k slot bs e q more) i body ps f a = each_legal more (parts_known K proper (pools_seen sc.seen) s (KStmt-F.Par k slot bs) e i.0) i.1 body ps f a

    each_legal : {t : ℕ} {sc : Scope} {k : ParKind} {bs : List KBlock} {rs : Branches} → EachFits K t sc k bs rs
        → Incl (blocks_all_rows (pools_seen sc.seen) bs) (rows K) → KnownSeen K proper sc.seen → (body : Body) (ps : List ℕ)
        → kinds_fit_branches K.codes w rs body ≡ true
        → branches_agree K w found rs body ps ≡ true → branches_legal K w found rs body ps ≡ true
    each_legal no_more i j body ps f a = refl
    each_legal {sc = sc} (an_ended {b = b} {bs = bs} m rest) i j body ps f a = each_legal rest (incl_right (block_rows (pools_seen sc.seen) b) (blocks_all_rows (pools_seen sc.seen) bs) (rows K) i) j body ps f a
    each_legal {sc = sc} (a_branch {b = b} {bs = bs} {r = r} {more = more} fit rest) i j body ps f a =
        let f1 = and_parts (kinds_fit K.codes w r body) (kinds_fit_branches K.codes w more body) f in
        let a1 = and_parts (names_agree K w found r body ps) (branches_agree K w found more body ps) a in
        and_from _ _ (tree_legal fit (incl_left (block_rows (pools_seen sc.seen) b) (blocks_all_rows (pools_seen sc.seen) bs) (rows K) i, j) body ps f1.0 a1.0)
        (each_legal rest (incl_right (block_rows (pools_seen sc.seen) b) (blocks_all_rows (pools_seen sc.seen) bs) (rows K) i) j body ps f1.1 a1.1)

    all_legal : {t : ℕ} {sc : Scope} {all : Instances} → AllFit K t sc all → kinds_fit_instances K.codes w all ≡ true
        → instances_agree K w found all ≡ true
        → instances_legal K w found all ≡ true
    all_legal none_lives f a = refl
    all_legal (one_lives {seat = seat} {r = r} {more = more} k q e fit rest) f a =
        let inner = Spawned seat.number in
        let f1 = and_parts (fits_given K.codes w inner (code_at seat.code K.codes)) (kinds_fit K.codes w r inner && kinds_fit_instances K.codes w more) f in
        let f2 = and_parts (kinds_fit K.codes w r inner) (kinds_fit_instances K.codes w more) f1.1 in
        let a1 = and_parts (names_agree K w found r inner []) (instances_agree K w found more) a in
        and_from _ _ (code_legal inner seat.code (code_at seat.code K.codes) refl f1.0)
        (and_from _ _ (tree_legal fit (code_known K proper seat.code k e) inner [] f2.0 a1.0) (all_legal rest f2.1 a1.1))
