-- Where each value lies in an open slot of its kind, each open slot has only values of its kind.
use Rattle.std.proofs.Common.{◌≡◌, refl, sym, ap, ◌∙◌, subst, ◌≤◌, ℕ, ◌+◌, Bool, true, false, if◌then◌else◌, ◌==◌, ◌⊎◌, inl, inr, nat_lt, List, [], ◌∷◌, Option, Some, None, arith, eqb-true}
use Rattle.std.proofs.lemmas.Bool.{and_parts, and_from, ltb-true, ltb-false}
use Rattle.ceu_base.specs.declared.kinds.Ty.TheVariants as ty
use Rattle.ceu_tree.specs.declared.kernel.Kernel.{Kernel}
use Rattle.ceu_tree.specs.declared.kernel.KCode.{KCode}
use Rattle.ceu_tree.specs.declared.kernel.KDecl.{KDecl}
use Rattle.ceu_tree.specs.declared.kernel.KKind.{KKind}
use Rattle.ceu_tree.specs.declared.kernel.KKind.TheVariants as kind
use Rattle.ceu_tree.specs.declared.kernel.KLoop.{KLoop}
use Rattle.ceu_tree.specs.declared.kernel.KLoop.TheVariants as turns
use Rattle.ceu_tree.specs.declared.kernel.ParKind.{ParKind}
use Rattle.ceu_tree.specs.declared.kernel.KBlock.{KBlock, out-KBlock}
use Rattle.ceu_tree.specs.declared.kernel.KStmt.{out-KStmt}
use Rattle.ceu_tree.specs.declared.kernel.KStmt.TheOpen.{KStmt-F}
use Rattle.ceu_tree.specs.Residual.{Body, Awaited, Spawned, Residual, Branches, Instances}
use Rattle.ceu_tree.specs.World.{Cell, Holds, NotSet, Names, Held, World, is_at, look}
use Rattle.ceu_tree.specs.Leaf.{code_at}
use Rattle.ceu_tree.specs.Legal.{called_code}
use Rattle.ceu_tree.specs.Proper.{SlotKind, IsLoopVariable, Scope, pools_seen, slot_kind, is_proper}
use Rattle.laws_meaning_basics.specs.Shape.{Part, Fits, to_begin, to_turn, in_list, to_finish, at_input, at_time, at_event, at_forever, at_async, in_part, in_turn, in_call, in_par, EachFits, no_more, an_ended, a_branch, AllFit, none_lives, one_lives}
use Rattle.laws_meaning_slots.specs.Held.{is_of_kind, lies_at}
use Rattle.laws_meaning_slots.specs.Kinds.{cell_fits, slot_fits, fits_declared, fits_counted, fits_turning, fits_given, kinds_fit, kinds_fit_branches, kinds_fit_instances}
use Rattle.laws_meaning_slots.proofs.Slots.{once, at_room, decls_room, turns_room, layer_room, code_room, room, each_room, all_room}
use Rattle.laws_meaning_slots.proofs.Values.{held, Lie, held_at}
use Rattle.laws_meaning_slots.proofs.Covers.{slot_is, kind_same}
use Rattle.laws_meaning_slots.specs.Declared.{inner_pools, decl_rows, loop_rows, block_rows, rows}
use Rattle.laws_meaning_slots.proofs.Rows.{Among, Incl, incl_left, incl_right, blocks_all_rows, kind_of_row}
use Rattle.laws_meaning_slots.proofs.Known.{row, KnownSeen, Known, decls_known, list_known, parts_known, part_known, turn_known, async_known, params_known, code_known}

split : (a b : ℕ) → 1 ≤ a + b → (1 ≤ a) ⊎ (1 ≤ b)
split a b l = go (nat_lt 0 a) refl
  where
    go : (t : Bool) → nat_lt 0 a ≡ t → (1 ≤ a) ⊎ (1 ≤ b)
    go true e = inl (let z = ltb-true 0 a e in omega (arith, z))
    go false e = inr (let z = ltb-false 0 a e in omega (arith, z, l))

module _ (K : Kernel) (proper : is_proper K ≡ true) where
  -- ---- what lies in an open slot is of the kind that the slot's number tells

  pub record HasKind (g : ℕ) (h : Held) : Type 0 where
    pub kind : SlotKind
    pub there : Among (row h.slot kind) (rows K)
    pub is : slot_is K g kind h.cell ≡ true

  module _ (g : ℕ) (h : Held) where
    at_kind : (body : Body) (slot : ℕ) (k : KKind) (seen : SlotKind) → ((c : Cell) → is_of_kind g k c ≡ true → slot_is K g seen c ≡ true)
        → Among (row slot seen) (rows K) → 1 ≤ at_room K.codes g h body slot k → HasKind g h
    at_kind body slot k seen f m l = go (lies_at K.codes g h body slot k) refl l
      where
        go : (b : Bool) → lies_at K.codes g h body slot k ≡ b → 1 ≤ once b → HasKind g h
        go false e n = absurd (omega (arith, n))
        go true e n =
            let a = and_parts _ (is_of_kind g k h.cell) e in
            let q = eqb-true slot h.slot (and_parts (slot == h.slot) _ a.0).0 in
            record { kind = seen; there = subst (λ i. Among (row i seen) (rows K)) q m; is = f h.cell a.1 }

    decls_kind : (body : Body) (ps : List ℕ) (ds : List KDecl) → Incl (decl_rows ps ds) (rows K) → 1 ≤ decls_room K.codes g h body ds → HasKind g h
    decls_kind body ps [] i l = absurd (omega (arith, l))
    decls_kind body ps (d ∷ ds) i l = go (split (at_room K.codes g h body d.slot d.kind) (decls_room K.codes g h body ds) l) (decls_kind body ps ds (λ r m. i r (inr m)))
      where
        go : (1 ≤ at_room K.codes g h body d.slot d.kind) ⊎ (1 ≤ decls_room K.codes g h body ds) → (1 ≤ decls_room K.codes g h body ds → HasKind g h) → HasKind g h
        go (inl n) ih = at_kind body d.slot d.kind (slot_kind ps d.kind) (λ c e. kind_same K g ps d.kind c ∙ e) (i (row d.slot (slot_kind ps d.kind)) (inl refl)) n
        go (inr n) ih = ih n

    counted_is : (c : Cell) → is_of_kind g (kind.Var ty.S32) c ≡ true → slot_is K g IsLoopVariable c ≡ true
    counted_is (Holds v) e = e
    counted_is NotSet e = e
    counted_is (Names n) e = e

    turns_kind : (body : Body) (k : KLoop) → Incl (loop_rows k) (rows K) → 1 ≤ turns_room K.codes g h body k → HasKind g h
    turns_kind body (turns.Range j next end open_a a b open_b) i l = at_kind body j (kind.Var ty.S32) IsLoopVariable counted_is (i (row j IsLoopVariable) (inl refl)) l
    turns_kind body turns.Free i l = absurd (omega (arith, l))
    turns_kind body (turns.Times slot n) i l = absurd (omega (arith, l))

    code_kind : (body : Body) (c : ℕ) (o : Option KCode) → code_at c K.codes ≡ o → 1 ≤ code_room K.codes g h body o → HasKind g h
    code_kind body c None e l = absurd (omega (arith, l))
    code_kind body c (Some k) e l = decls_kind body (inner_pools [] k.params) k.params (params_known K proper c k e) l

    mutual
      unfolding room

      lies_kind : {t : ℕ} {d : Part} {r : Residual} → Fits K t d r → Known K proper d → (body : Body) → 1 ≤ room K.codes g h r body → HasKind g h
      lies_kind (to_begin n) i body l = absurd (omega (arith, l))
      lies_kind (to_turn n p) i body l = absurd (omega (arith, l))
      lies_kind (in_list {turn = turn} {sc = sc} {b = b} {rest = rest} {all = all} {r = r} {s = s} done e f fit more) i body l =
          elim (split (decls_room K.codes g h body (out-KBlock b).decls) (all_room K.codes g h all + room K.codes g h r body) l) [
            | inl n ↦ decls_kind body (inner_pools (pools_seen sc.seen) (out-KBlock b).decls) (out-KBlock b).decls (decls_known K proper (pools_seen sc.seen) b i.0) n
            | inr n ↦ elim (split (all_room K.codes g h all) (room K.codes g h r body) n) [ inl m ↦ all_kind fit m | inr m ↦ lies_kind more (list_known K proper turn sc b done s rest e i) body m ]
          ]
      lies_kind (to_finish n p) i body l = absurd (omega (arith, l))
      lies_kind (at_input p e) i body l = absurd (omega (arith, l))
      lies_kind (at_time p u y e) i body l = absurd (omega (arith, l))
      lies_kind (at_event p e) i body l = absurd (omega (arith, l))
      lies_kind (at_forever e) i body l = absurd (omega (arith, l))
      lies_kind (at_async {sc = sc} {s = s} b e more) i body l = lies_kind more (async_known K proper sc s b e i) body l
      lies_kind (in_part {sc = sc} {s = s} b p more) i body l = lies_kind more (part_known K proper sc s b p i) body l
      lies_kind (in_turn {sc = sc} {s = s} {r = r} k b e q more) i body l =
          let j = parts_known K proper (pools_seen sc.seen) s (KStmt-F.Loop k b) e i.0 in
          elim (split (layer_room K.codes g h body (out-KStmt s.stmt)) (room K.codes g h r body) l) [
            | inl n ↦ turns_kind body k (incl_left (loop_rows k) (block_rows (pools_seen sc.seen) b) (rows K) j) (subst (λ x. 1 ≤ layer_room K.codes g h body x) e n)
            | inr n ↦ lies_kind more (turn_known K proper sc s k b e i) body n
          ]
      lies_kind (in_call {s = s} {r = r} c es f t k e q more) i body l =
          elim (split (code_room K.codes g h (Awaited body s.node) (called_code K.codes (out-KStmt s.stmt))) (room K.codes g h r (Awaited body s.node)) l) [
            | inl n ↦ code_kind (Awaited body s.node) c (code_at c K.codes) refl (subst (λ x. 1 ≤ code_room K.codes g h (Awaited body s.node) (called_code K.codes x)) e n)
            | inr n ↦ lies_kind more (code_known K proper c k q) (Awaited body s.node) n
          ]
      lies_kind (in_par {sc = sc} {s = s} k slot bs e q more) i body l = each_kind more (parts_known K proper (pools_seen sc.seen) s (KStmt-F.Par k slot bs) e i.0) i.1 body l

      each_kind : {t : ℕ} {sc : Scope} {k : ParKind} {bs : List KBlock} {rs : Branches} → EachFits K t sc k bs rs
          → Incl (blocks_all_rows (pools_seen sc.seen) bs) (rows K) → KnownSeen K proper sc.seen → (body : Body) → 1 ≤ each_room K.codes g h rs body → HasKind g h
      each_kind no_more i j body l = absurd (omega (arith, l))
      each_kind {sc = sc} (an_ended {b = b} {bs = bs} m rest) i j body l = each_kind rest (incl_right (block_rows (pools_seen sc.seen) b) (blocks_all_rows (pools_seen sc.seen) bs) (rows K) i) j body (omega (arith, l))
      each_kind {sc = sc} (a_branch {b = b} {bs = bs} {r = r} {more = more} fit rest) i j body l =
          elim (split (room K.codes g h r body) (each_room K.codes g h more body) l) [
            | inl n ↦ lies_kind fit (incl_left (block_rows (pools_seen sc.seen) b) (blocks_all_rows (pools_seen sc.seen) bs) (rows K) i, j) body n
            | inr n ↦ each_kind rest (incl_right (block_rows (pools_seen sc.seen) b) (blocks_all_rows (pools_seen sc.seen) bs) (rows K) i) j body n
          ]

      all_kind : {t : ℕ} {sc : Scope} {all : Instances} → AllFit K t sc all → 1 ≤ all_room K.codes g h all → HasKind g h
      all_kind none_lives l = absurd (omega (arith, l))
      all_kind (one_lives {seat = seat} {r = r} {more = more} k p e fit rest) l =
          elim (split (code_room K.codes g h (Spawned seat.number) (code_at seat.code K.codes)) (room K.codes g h r (Spawned seat.number) + all_room K.codes g h more) l) [
            | inl n ↦ code_kind (Spawned seat.number) seat.code (code_at seat.code K.codes) refl n
            | inr n ↦ elim (split (room K.codes g h r (Spawned seat.number)) (all_room K.codes g h more) n) [ inl m ↦ lies_kind fit (code_known K proper seat.code k e) (Spawned seat.number) m | inr m ↦ all_kind rest m ]
          ]

  -- ---- so each open slot has only values of its kind

  abbrev pub EachKind : (g : ℕ) → List Held → Type 0
  EachKind g [] = Unit {0}
  EachKind g (h ∷ hs) = HasKind g h × EachKind g hs

  pub each_lies : {t : ℕ} {d : Part} {r : Residual} (g : ℕ) → Fits K t d r → Known K proper d → (body : Body) (hs : List Held)
      → Lie (λ h. room K.codes g h r body) hs → EachKind g hs
  each_lies g fit i body [] l = tt
  each_lies g fit i body (h ∷ hs) l = (lies_kind g h fit i body l.0, each_lies g fit i body hs l.1)

  pub look_kind : (g : ℕ) (body : Body) (slot : ℕ) (c : Cell) (hs : List Held) → EachKind g hs → look body slot hs ≡ Some c → HasKind g (held body slot c)
  look_kind g body slot c [] k e = absurd (cc)
  look_kind g body slot c (h ∷ hs) k e = go (is_at body slot h) refl e (look_kind g body slot c hs k.1)
    where
      go : (b : Bool) → is_at body slot h ≡ b → (if b then Some h.cell else look body slot hs) ≡ Some c
          → (look body slot hs ≡ Some c → HasKind g (held body slot c)) → HasKind g (held body slot c)
      go true q z ih = subst (HasKind g) (sym (held_at body slot h.cell h q) ∙ ap (held body slot) (ap (λ o. elim o [ None ↦ h.cell | Some x ↦ x ]) z)) k.0
      go false q z ih = ih z

  module _ (w : World) (e : EachKind w.given w.values) where
    pub one_kind : (slot : ℕ) (k j : SlotKind) → Among (row slot k) (rows K) → Among (row slot j) (rows K) → k ≡ j
    one_kind slot k j m n = ap (λ o. elim o [ None ↦ k | Some x ↦ x ]) (sym (kind_of_row K proper (row slot k) m) ∙ kind_of_row K proper (row slot j) n)

    slot_kinds : (body : Body) (slot : ℕ) (k : KKind) (seen : SlotKind) → ((c : Cell) → slot_is K w.given seen c ≡ true → is_of_kind w.given k c ≡ true)
        → Among (row slot seen) (rows K) → slot_fits K.codes w body slot k ≡ true
    slot_kinds body slot k seen f m = go (look body slot w.values) refl
      where
        go : (o : Option Cell) → look body slot w.values ≡ o → cell_fits K.codes w k o ≡ true
        go None q = refl
        go (Some c) q = let h = look_kind w.given body slot c w.values e q in f c (subst (λ j. slot_is K w.given j c ≡ true) (one_kind slot h.kind seen h.there m) h.is)

    decls_fit : (body : Body) (ps : List ℕ) (ds : List KDecl) → Incl (decl_rows ps ds) (rows K) → fits_declared K.codes w body ds ≡ true
    decls_fit body ps [] i = refl
    decls_fit body ps (d ∷ ds) i =
        and_from _ _ (slot_kinds body d.slot d.kind (slot_kind ps d.kind) (λ c q. sym (kind_same K w.given ps d.kind c) ∙ q) (i (row d.slot (slot_kind ps d.kind)) (inl refl))) (decls_fit body ps ds (λ r m. i r (inr m)))

    is_counted : (c : Cell) → slot_is K w.given IsLoopVariable c ≡ true → is_of_kind w.given (kind.Var ty.S32) c ≡ true
    is_counted (Holds v) q = q
    is_counted NotSet q = q
    is_counted (Names n) q = q

    turns_fit : (body : Body) (k : KLoop) → Incl (loop_rows k) (rows K) → fits_counted K.codes w body k ≡ true
    turns_fit body (turns.Range j next end open_a a b open_b) i = slot_kinds body j (kind.Var ty.S32) IsLoopVariable is_counted (i (row j IsLoopVariable) (inl refl))
    turns_fit body turns.Free i = refl
    turns_fit body (turns.Times slot n) i = refl

    code_fits : (body : Body) (c : ℕ) (o : Option KCode) → code_at c K.codes ≡ o → fits_given K.codes w body o ≡ true
    code_fits body c None q = refl
    code_fits body c (Some k) q = decls_fit body (inner_pools [] k.params) k.params (params_known K proper c k q)

    mutual
      unfolding kinds_fit

      pub tree_fits : {t : ℕ} {d : Part} {r : Residual} → Fits K t d r → Known K proper d → (body : Body) → kinds_fit K.codes w r body ≡ true
      tree_fits (to_begin n) i body = refl
      tree_fits (to_turn n p) i body = refl
      tree_fits (in_list {turn = turn} {sc = sc} {b = b} {rest = rest} {s = s} done q f fit more) i body =
          and_from _ _ (decls_fit body (inner_pools (pools_seen sc.seen) (out-KBlock b).decls) (out-KBlock b).decls (decls_known K proper (pools_seen sc.seen) b i.0)) (and_from _ _ (all_fit fit) (tree_fits more (list_known K proper turn sc b done s rest q i) body))
      tree_fits (to_finish n p) i body = refl
      tree_fits (at_input p q) i body = refl
      tree_fits (at_time p u y q) i body = refl
      tree_fits (at_event p q) i body = refl
      tree_fits (at_forever q) i body = refl
      tree_fits (at_async {sc = sc} {s = s} b q more) i body = tree_fits more (async_known K proper sc s b q i) body
      tree_fits (in_part {sc = sc} {s = s} b p more) i body = tree_fits more (part_known K proper sc s b p i) body
      tree_fits (in_turn {sc = sc} {s = s} k b q p more) i body =
          let j = parts_known K proper (pools_seen sc.seen) s (KStmt-F.Loop k b) q i.0 in
          and_from _ _ (subst (λ l. fits_turning K.codes w body l ≡ true) (sym q) (turns_fit body k (incl_left (loop_rows k) (block_rows (pools_seen sc.seen) b) (rows K) j))) (tree_fits more (turn_known K proper sc s k b q i) body)
      tree_fits (in_call {s = s} c es f t k q p more) i body =
          and_from _ _ (subst (λ l. fits_given K.codes w (Awaited body s.node) (called_code K.codes l) ≡ true) (sym q) (code_fits (Awaited body s.node) c (code_at c K.codes) refl)) (tree_fits more (code_known K proper c k p) (Awaited body s.node))
      tree_fits (in_par {sc = sc} {s = s} k slot bs q p more) i body = each_fit more (parts_known K proper (pools_seen sc.seen) s (KStmt-F.Par k slot bs) q i.0) i.1 body

      each_fit : {t : ℕ} {sc : Scope} {k : ParKind} {bs : List KBlock} {rs : Branches} → EachFits K t sc k bs rs
          → Incl (blocks_all_rows (pools_seen sc.seen) bs) (rows K) → KnownSeen K proper sc.seen → (body : Body) → kinds_fit_branches K.codes w rs body ≡ true
      each_fit no_more i j body = refl
      each_fit {sc = sc} (an_ended {b = b} {bs = bs} m rest) i j body = each_fit rest (incl_right (block_rows (pools_seen sc.seen) b) (blocks_all_rows (pools_seen sc.seen) bs) (rows K) i) j body
      each_fit {sc = sc} (a_branch {b = b} {bs = bs} fit rest) i j body =
          and_from _ _ (tree_fits fit (incl_left (block_rows (pools_seen sc.seen) b) (blocks_all_rows (pools_seen sc.seen) bs) (rows K) i, j) body) (each_fit rest (incl_right (block_rows (pools_seen sc.seen) b) (blocks_all_rows (pools_seen sc.seen) bs) (rows K) i) j body)

      all_fit : {t : ℕ} {sc : Scope} {all : Instances} → AllFit K t sc all → kinds_fit_instances K.codes w all ≡ true
      all_fit none_lives = refl
      all_fit (one_lives {seat = seat} k p q fit rest) =
          and_from _ _ (code_fits (Spawned seat.number) seat.code (code_at seat.code K.codes) refl) (and_from _ _ (tree_fits fit (code_known K proper seat.code k q) (Spawned seat.number)) (all_fit rest))
