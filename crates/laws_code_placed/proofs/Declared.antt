-- Declarations in a proper kernel, in a plan that fits it: their slots are there, pools have few places, and the gates of a block have 16 bits.
use Rattle.std.proofs.Common.{◌≡◌, refl, sym, ap, subst, ℕ, ◌+◌, ◌*◌, ◌<◌, ◌≤◌, ◌^◌, max, true, not, ◌&&◌, List, [], ◌∷◌, length, Option, Some, arith}
use Rattle.std.specs.Prelude.{nat_lt, nat_le}
use Rattle.std.specs.List.{list_all}
use Rattle.std.proofs.Math.Nat.{mul-le-mul_left}
use Rattle.std.proofs.lemmas.Bool.{and_parts, false≢true}
use Rattle.ceu_base.specs.declared.kinds.Ty.TheVariants as ty
use Rattle.ceu_tree.specs.declared.kernel.Kernel.{Kernel}
use Rattle.ceu_tree.specs.declared.kernel.KCode.{KCode}
use Rattle.ceu_tree.specs.declared.kernel.KDecl.{KDecl}
use Rattle.ceu_tree.specs.declared.kernel.KKind.{KKind}
use Rattle.ceu_tree.specs.declared.kernel.KKind.TheVariants as kind
use Rattle.ceu_tree.specs.declared.kernel.KBlock.{Row_of-KNode}
use Rattle.ceu_tree.specs.Leaf.{code_at}
use Rattle.ceu_tree.specs.Needs.{entry, nodes_finalizers, nodes_gates, pool_gates, pools_gates}
use Rattle.ceu_tree.specs.Numbering.{decl_slots}
use Rattle.ceu_tree.specs.Proper.{Proper, Scope, Where, InTrail, InsideAsync, InFinalizer, is_trail, outside_finalizers, is_above, on_code, decl_ok}
use Rattle.ceu_tree.specs.Typing.{same_ty}
use Rattle.ceu_gates.specs.Ranges.{range}
use Rattle.ceu_slots.specs.Law.{declared_size, DeclsSized}
use Rattle.ceu_shape.specs.Plans.{Plan}
use Rattle.ceu_shape.specs.Searches.{node_of_block, node_of_body, body_node}
use Rattle.ceu_shape.specs.Shape as shape
use Rattle.laws_code_placed.specs.Fits.{PlanFits, node_count}
use Rattle.laws_code_placed.specs.There.{SlotThere, PoolThere, DeclsThere}
use Rattle.laws_code_placed.proofs.Slots.{slots_small}
use Rattle.laws_code_placed.proofs.GateTables.{Kept}
use Rattle.laws_code_placed.proofs.Scopes.{SlotsThere, code_there}

pub trail_outside : (w : Where) → is_trail w ≡ true → outside_finalizers w ≡ true
trail_outside InTrail h = refl
trail_outside InsideAsync h = absurd (false≢true h)
trail_outside InFinalizer h = absurd (false≢true h)

few_places : (n f a : ℕ) → a + n * (9 + f) ≤ 65535 → n ≤ 65535
few_places n f a h = let one : 1 ≤ 9 + f = omega arith in omega (arith, mul-le-mul_left n one, h)

module _ (P : Plan) (K : Kernel) (fits : PlanFits P K) (proper : Proper K) where
  -- the node of the body of each code is there
  abbrev pub BodiesThere : Type 0
  BodiesThere = (c : ℕ) (k : KCode) → code_at c K.codes ≡ Some k → node_of_block k.body < node_count K

  abbrev pub SizedIn : Scope → List KDecl → Type 0
  SizedIn sc ds = outside_finalizers sc.place ≡ true → DeclsSized P.offset fits.size P.frame ds

  pool_there : (sc : Scope) (slot : ℕ) (n c : ℕ) → BodiesThere → SlotThere P K slot → (is_trail sc.place && nat_lt n (2 ^ 32) && on_code K sc c (λ k. true)) ≡ true →
      (outside_finalizers sc.place ≡ true → fits.size slot ≡ declared_size P.offset fits.size P.frame (kind.Pool n c)) → PoolThere P K (kind.Pool n c)
  pool_there sc slot n c bodies there ok sized =
      let x = and_parts (is_trail sc.place && nat_lt n (2 ^ 32)) (on_code K sc c (λ k. true)) ok in
      let trail = (and_parts (is_trail sc.place) (nat_lt n (2 ^ 32)) x.0).0 in
      let code = code_there P K sc c (λ k. true) x.1 in
      let size : fits.size slot ≡ n * (9 + P.frame c) = sized (trail_outside sc.place trail) in
      let small = slots_small P K fits proper slot there in
      let node : body_node K c < node_count K = subst (λ (o : Option KCode). node_of_body o < node_count K) (sym code.is) (bodies c code.code code.is) in
      (few_places n (P.frame c) (P.offset slot) (omega (arith, small, size)), (code.within, node))

  pub decls_there : (sc : Scope) (ds : List KDecl) → BodiesThere → SlotsThere P K (decl_slots ds) → list_all (decl_ok K sc) ds ≡ true → SizedIn sc ds → DeclsThere P K ds
  decls_there sc [] bodies s ok sized = tt
  decls_there sc (d ∷ ds) bodies s ok sized =
      let x = and_parts (decl_ok K sc d) (list_all (decl_ok K sc) ds) ok in
      ((s.0, go d.kind (and_parts _ (nat_le 1 d.pos.line) (and_parts _ (nat_le 1 d.pos.col) x.0).0).0 (λ e. (sized e).0)), decls_there sc ds bodies s.1 x.1 (λ e. (sized e).1))
    where
      go : (k : KKind) → (elim k [
        | kind.Var t ↦ not (same_ty t ty.None) && outside_finalizers sc.place
        | kind.Alias c ↦ is_trail sc.place && on_code K sc c (λ k. true)
        | kind.Pool n c ↦ is_trail sc.place && nat_lt n (2 ^ 32) && on_code K sc c (λ k. true)
      ]) ≡ true → (outside_finalizers sc.place ≡ true → fits.size d.slot ≡ declared_size P.offset fits.size P.frame k) → PoolThere P K k
      go (kind.Var t) ok sized = tt
      go (kind.Alias c) ok sized = tt
      go (kind.Pool n c) ok sized = pool_there sc d.slot n c bodies s.0 ok sized

  -- ---- gates

  -- the table has the gates of the codes that may be used there
  abbrev pub Tables : List ℕ → Option ℕ → Type 0
  Tables table code = (c : ℕ) → is_above K c code ≡ true → c < length K.codes → entry c table ≡ P.count (body_node K c)

  pools_same : (table : List ℕ) (sc : Scope) (ds : List KDecl) → Tables table sc.code → list_all (decl_ok K sc) ds ≡ true → shape.pools_gates P K ds ≡ pools_gates table ds
  pools_same table sc [] t ok = refl
  pools_same table sc (d ∷ ds) t ok =
      let x = and_parts (decl_ok K sc d) (list_all (decl_ok K sc) ds) ok in
      let one = go d.kind (and_parts _ (nat_le 1 d.pos.line) (and_parts _ (nat_le 1 d.pos.col) x.0).0).0 in
      omega (arith, one, pools_same table sc ds t x.1)
    where
      go : (k : KKind) → (elim k [
        | kind.Var t ↦ not (same_ty t ty.None) && outside_finalizers sc.place
        | kind.Alias c ↦ is_trail sc.place && on_code K sc c (λ k. true)
        | kind.Pool n c ↦ is_trail sc.place && nat_lt n (2 ^ 32) && on_code K sc c (λ k. true)
      ]) ≡ true → shape.pool_gates P K k ≡ pool_gates table k
      go (kind.Var t) ok = refl
      go (kind.Alias c) ok = refl
      go (kind.Pool n c) ok =
          let code = code_there P K sc c (λ k. true) (and_parts (is_trail sc.place && nat_lt n (2 ^ 32)) (on_code K sc c (λ k. true)) ok).1 in
          ap (λ (m : ℕ). n * m) (sym (t c code.above code.within))

  pub own_gates_few : {m : _} (table : List ℕ) (sc : Scope) (g n : ℕ) (ds : List KDecl) (list : Row_of-KNode m) → Tables table sc.code → list_all (decl_ok K sc) ds ≡ true →
      Kept P K fits (range n g (max 1 (nodes_finalizers list + pools_gates table ds + nodes_gates table list))) → P.first n + shape.own_gates P K (nodes_finalizers list) ds ≤ 65535
  own_gates_few table sc g n ds list t ok kept = let first = kept.first in let ends = kept.ends in let same = pools_same table sc ds t ok in omega (arith, first, ends, same)
