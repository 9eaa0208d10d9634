-- Where the values of a tree name instances that suit them, its aliases do as legal configurations have it.
use Rattle.std.proofs.Common.{◌≡◌, refl, sym, ap, ◌∙◌, subst, ◌≤◌, ℕ, Bool, true, false, not, if◌then◌else◌, ◌==◌, ◌&&◌, ◌||◌, inl, inr, List, [], ◌∷◌, ◌++◌, Option, Some, None, arith, eqb-true, eq-eqb}
use Rattle.std.proofs.lemmas.Bool.{and_parts, and_from}
use Rattle.std.specs.List.{list_all}
use Rattle.ceu_tree.specs.declared.kernel.Kernel.{Kernel}
use Rattle.ceu_tree.specs.declared.kernel.KCode.{KCode}
use Rattle.ceu_tree.specs.declared.kernel.KDecl.{KDecl}
use Rattle.ceu_tree.specs.declared.kernel.KKind.{KKind}
use Rattle.ceu_tree.specs.declared.kernel.KKind.TheVariants as kind
use Rattle.ceu_tree.specs.declared.kernel.KLoop.{KLoop}
use Rattle.ceu_tree.specs.declared.kernel.KLoop.TheVariants as turns
use Rattle.ceu_tree.specs.declared.kernel.ParKind.{ParKind}
use Rattle.ceu_tree.specs.declared.kernel.KBlock.{KBlock, out-KBlock}
use Rattle.ceu_tree.specs.declared.kernel.KStmt.{out-KStmt}
use Rattle.ceu_tree.specs.declared.kernel.KStmt.TheOpen.{KStmt-F}
use Rattle.ceu_tree.specs.Residual.{Body, Awaited, Spawned, same_body, Residual, Branches, Instances}
use Rattle.ceu_tree.specs.World.{Cell, Holds, NotSet, Names, Held, World, is_at, look}
use Rattle.ceu_tree.specs.Leaf.{Layer, code_at}
use Rattle.ceu_tree.specs.Legal.{lies, Seated}
use Rattle.ceu_tree.specs.Proper.{IsAlias, Scope, pool_slots, pools_seen, slot_kind, is_member, alias_takes, is_proper}
use Rattle.laws_meaning_basics.specs.Shape.{Part, ABlock, AStatement, AnEnd, part_scope, turn_scope, code_scope, opens_part, Fits, to_begin, to_turn, in_list, to_finish, at_input, at_time, at_event, at_forever, at_async, in_part, in_turn, in_call, in_par, EachFits, no_more, an_ended, a_branch, AllFit, none_lives, one_lives}
use Rattle.laws_meaning_slots.specs.Names.{cell_agrees, decl_agrees, declared_agree, names_agree, branches_agree, instances_agree}
use Rattle.laws_meaning_slots.proofs.Slots.{once}
use Rattle.laws_meaning_slots.proofs.Values.{held, Lie, held_at}
use Rattle.laws_meaning_slots.proofs.Covers.{slot_is}
use Rattle.laws_meaning_slots.proofs.Writes.{all_variables, parameters_are}
use Rattle.laws_meaning_slots.specs.Declared.{inner_pools, decl_rows, block_rows, rows, kind_at}
use Rattle.laws_meaning_slots.proofs.Rows.{Among, Incl, incl_left, incl_right, blocks_all_rows, kind_of_row}
use Rattle.laws_meaning_slots.proofs.Known.{row, seen_pools, KnownSeen, Known, decls_known, list_known, parts_known, part_known, turn_known, async_known, code_known}
use Rattle.laws_meaning_slots.proofs.Fitting.{EachKind, look_kind, one_kind}
use Rattle.laws_meaning_slots.specs.Names.{low, suits, one, agrees}

all_more : (p q : Seated → Bool) → ((x : Seated) → p x ≡ true → q x ≡ true) → (xs : List Seated) → list_all p xs ≡ true → list_all q xs ≡ true
all_more p q f [] e = refl
all_more p q f (x ∷ xs) e = let a = and_parts (p x) (list_all p xs) e in and_from (q x) (list_all q xs) (f x a.0) (all_more p q f xs a.1)

no_pools : (ds : List KDecl) → all_variables ds → pool_slots ds ≡ []
no_pools [] h = refl
no_pools (d ∷ ds) h = ap (λ k. elim k [ kind.Pool n c ↦ d.slot ∷ pool_slots ds | _ ↦ pool_slots ds ]) h.0.1 ∙ no_pools ds h.1

module _ (K : Kernel) (proper : is_proper K ≡ true) (w : World) (found : List Seated) (kinds : EachKind K proper w.given w.values) (agreed : Lie (λ h. once (agrees K w.given found h)) w.values) where
  look_agrees : (body : Body) (slot : ℕ) (c : Cell) (hs : List Held) → Lie (λ h. once (agrees K w.given found h)) hs → look body slot hs ≡ Some c
      → agrees K w.given found (held body slot c) ≡ true
  look_agrees body slot c [] l e = absurd (cc)
  look_agrees body slot c (h ∷ hs) l e = go (is_at body slot h) refl e (look_agrees body slot c hs l.1)
    where
      passed : (b : Bool) → 1 ≤ once b → b ≡ true
      passed true n = refl
      passed false n = absurd (omega (arith, n))

      go : (b : Bool) → is_at body slot h ≡ b → (if b then Some h.cell else look body slot hs) ≡ Some c
          → (look body slot hs ≡ Some c → agrees K w.given found (held body slot c) ≡ true) → agrees K w.given found (held body slot c) ≡ true
      go true q z ih = subst (λ x. agrees K w.given found x ≡ true) (sym (held_at body slot h.cell h q) ∙ ap (held body slot) (ap (λ o. elim o [ None ↦ h.cell | Some x ↦ x ]) z)) (passed (agrees K w.given found h) l.0)
      go false q z ih = ih z

  one_suits : (body : Body) (slot code k : ℕ) (pools : List ℕ) (x : Seated) → kind_at slot (rows K) ≡ Some (IsAlias code pools)
      → one K (held body slot (Names k)) x ≡ true
      → (not (x.seat.number == k) || ((x.seat.code == code) && is_member x.seat.pool pools && same_body x.body body)) ≡ true
  one_suits body slot code k pools x e h = go (x.seat.number == k) h
    where
      go : (b : Bool) → (not b || suits K (held body slot (Names k)) x) ≡ true
          → (not b || ((x.seat.code == code) && is_member x.seat.pool pools && same_body x.body body)) ≡ true
      go false q = refl
      go true q =
          let a = and_parts (alias_takes x.seat.code x.seat.pool (kind_at slot (rows K))) (same_body x.body body) q in
          let t = and_parts (code == x.seat.code) (is_member x.seat.pool pools) (sym (ap (alias_takes x.seat.code x.seat.pool) e) ∙ a.0) in
          and_from _ (same_body x.body body) (and_from (x.seat.code == code) (is_member x.seat.pool pools) (eq-eqb x.seat.code code (sym (eqb-true code x.seat.code t.0))) t.1) a.1

  alias_fits : (body : Body) (slot code : ℕ) (pools : List ℕ) → Among (row slot (IsAlias code pools)) (rows K)
      → cell_agrees K w found body code pools (look body slot w.values) ≡ true
  alias_fits body slot code pools m = go (look body slot w.values) refl
    where
      there : kind_at slot (rows K) ≡ Some (IsAlias code pools)
      there = kind_of_row K proper (row slot (IsAlias code pools)) m

      go : (o : Option Cell) → look body slot w.values ≡ o → cell_agrees K w found body code pools o ≡ true
      go None q = refl
      go (Some (Holds v)) q = refl
      go (Some NotSet) q = refl
      go (Some (Names k)) q =
          let h = look_kind K proper w.given body slot (Names k) w.values kinds q in
          let is = subst (λ j. slot_is K w.given j (Names k) ≡ true) (one_kind K proper w kinds slot h.kind (IsAlias code pools) h.there m) h.is in
          let a = (and_parts (low w.given (Names k)) (list_all (one K (held body slot (Names k))) found) (look_agrees body slot (Names k) w.values agreed q)).1 in
          and_from (lies 1 w.given k) _ is (all_more (one K (held body slot (Names k))) _ (λ x z. one_suits body slot code k pools x there z) found a)

  decls_agree : (body : Body) (ps : List ℕ) (ds : List KDecl) → Incl (decl_rows ps ds) (rows K) → declared_agree K w found body ps ds ≡ true
  decls_agree body ps [] i = refl
  decls_agree body ps (d ∷ ds) i = and_from _ _ (go d.kind (i (row d.slot (slot_kind ps d.kind)) (inl refl))) (decls_agree body ps ds (λ r m. i r (inr m)))
    where
      go : (k : KKind) → Among (row d.slot (slot_kind ps k)) (rows K) → decl_agrees K w found body ps d.slot k ≡ true
      go (kind.Var t) m = refl
      go (kind.Alias c) m = alias_fits body d.slot c ps m
      go (kind.Pool n c) m = refl

  -- the pools that are seen from the place of a part
  abbrev PartPools : Part → List ℕ → Type 0
  PartPools (ABlock turn sc b) ps = pools_seen sc.seen ≡ ps
  PartPools (AStatement sc s) ps = pools_seen sc.seen ≡ ps
  PartPools AnEnd ps = Unit {0}

  part_pools : (sc : Scope) (n : ℕ) (layer : Layer) (b : KBlock) → opens_part layer b → pools_seen (part_scope K sc n layer).seen ≡ pools_seen sc.seen
  part_pools sc n (KStmt-F.Do t c) b o = refl
  part_pools sc n (KStmt-F.If arms last) b o = refl
  part_pools sc n layer b o = elim o [ ]

  turn_pools : (sc : Scope) (n : ℕ) (k : KLoop) → pools_seen (turn_scope K sc n k).seen ≡ pools_seen sc.seen
  turn_pools sc n turns.Free = refl
  turn_pools sc n (turns.Times slot m) = refl
  turn_pools sc n (turns.Range i next end open_a x y open_b) = refl

  code_pools_none : (c : ℕ) (k : KCode) → code_at c K.codes ≡ Some k → pools_seen (code_scope K c k).seen ≡ []
  code_pools_none c k e = seen_pools (inner_pools [] k.params) k.params [] ∙ ap (λ l. l ++ []) (no_pools k.params (parameters_are K c k proper e))

  mutual
    unfolding names_agree

    pub tree_names : {t : ℕ} {d : Part} {r : Residual} → Fits K t d r → Known K proper d → (body : Body) (ps : List ℕ) → PartPools d ps
        → names_agree K w found r body ps ≡ true
    tree_names (to_begin n) i body ps p = refl
    tree_names (to_turn n q) i body ps p = refl
    tree_names (in_list {turn = turn} {sc = sc} {b = b} {rest = rest} {r = r} {s = s} done e f fit more) i body ps p =
        let ds = (out-KBlock b).decls in
        let inner = inner_pools ps ds in
        let same = ap (λ l. inner_pools l ds) p in
        and_from _ _ (subst (λ l. declared_agree K w found body l ds ≡ true) same (decls_agree body (inner_pools (pools_seen sc.seen) ds) ds (decls_known K proper (pools_seen sc.seen) b i.0)))
        (and_from _ _ (all_names fit) (tree_names more (list_known K proper turn sc b done s rest e i) body inner (seen_pools (inner_pools (pools_seen sc.seen) ds) ds sc.seen ∙ same)))
    tree_names (to_finish n q) i body ps p = refl
    tree_names (at_input q e) i body ps p = refl
    tree_names (at_time q u y e) i body ps p = refl
    tree_names (at_event q e) i body ps p = refl
    tree_names (at_forever e) i body ps p = refl
    tree_names (at_async {sc = sc} {s = s} b e more) i body ps p = tree_names more (async_known K proper sc s b e i) body ps p
    tree_names (in_part {sc = sc} {s = s} b o more) i body ps p = tree_names more (part_known K proper sc s b o i) body ps (part_pools sc s.node (out-KStmt s.stmt) b o ∙ p)
    tree_names (in_turn {sc = sc} {s = s} k b e q more) i body ps p = tree_names more (turn_known K proper sc s k b e i) body ps (turn_pools sc s.node k ∙ p)
    tree_names (in_call {s = s} c es f y k e q more) i body ps p = tree_names more (code_known K proper c k q) (Awaited body s.node) [] (code_pools_none c k q)
    tree_names (in_par {sc = sc} {s = s} k slot bs e q more) i body ps p = each_names more (parts_known K proper (pools_seen sc.seen) s (KStmt-F.Par k slot bs) e i.0) i.1 body ps p

    each_names : {t : ℕ} {sc : Scope} {k : ParKind} {bs : List KBlock} {rs : Branches} → EachFits K t sc k bs rs
        → Incl (blocks_all_rows (pools_seen sc.seen) bs) (rows K) → KnownSeen K proper sc.seen → (body : Body) (ps : List ℕ) → pools_seen sc.seen ≡ ps
        → branches_agree K w found rs body ps ≡ true
    each_names no_more i j body ps p = refl
    each_names {sc = sc} (an_ended {b = b} {bs = bs} m rest) i j body ps p = each_names rest (incl_right (block_rows (pools_seen sc.seen) b) (blocks_all_rows (pools_seen sc.seen) bs) (rows K) i) j body ps p
    each_names {sc = sc} (a_branch {b = b} {bs = bs} fit rest) i j body ps p =
        and_from _ _ (tree_names fit (incl_left (block_rows (pools_seen sc.seen) b) (blocks_all_rows (pools_seen sc.seen) bs) (rows K) i, j) body ps p)
        (each_names rest (incl_right (block_rows (pools_seen sc.seen) b) (blocks_all_rows (pools_seen sc.seen) bs) (rows K) i) j body ps p)

    all_names : {t : ℕ} {sc : Scope} {all : Instances} → AllFit K t sc all → instances_agree K w found all ≡ true
    all_names none_lives = refl
    all_names (one_lives {seat = seat} k q e fit rest) = and_from _ _ (tree_names fit (code_known K proper seat.code k e) (Spawned seat.number) [] (code_pools_none seat.code k e)) (all_names rest)
