-- The slots of the program's own body and of each code lie apart, and what a place says of code that is used there.
use Rattle.std.proofs.Common.{◌≡◌, refl, ap, subst, ◌<◌, ◌≤◌, ℕ, zero, suc, ◌+◌, ◌^◌, Bool, true, false, not, if◌then◌else◌, ◌==◌, ◌&&◌, ◌⊎◌, inl, inr, nat_lt, nat_le, List, [], ◌∷◌, ◌++◌, length, length-append, Option, Some, None, arith, eqb-true}
use Rattle.std.proofs.lemmas.Bool.{and_parts, or_cases, false≢true, ltb-true, lt-ltb}
use Rattle.std.specs.List.{list_all}
use Rattle.ceu_base.specs.declared.kinds.Ty.TheVariants as ty
use Rattle.ceu_tree.specs.declared.kernel.Kernel.{Kernel}
use Rattle.ceu_tree.specs.declared.kernel.KCode.{KCode}
use Rattle.ceu_tree.specs.declared.kernel.KDecl.{KDecl}
use Rattle.ceu_tree.specs.declared.kernel.KKind.{KKind}
use Rattle.ceu_tree.specs.declared.kernel.KKind.TheVariants as kind
use Rattle.ceu_tree.specs.declared.kernel.KNode.{KNode}
use Rattle.ceu_tree.specs.declared.kernel.KBlock.{KBlock, KBlock', out-KBlock}
use Rattle.ceu_tree.specs.declared.kernel.KStmt.{KStmt, out-KStmt, AwaitCode, Spawn}
use Rattle.ceu_tree.specs.declared.kernel.KStmt.TheOpen.{KStmt-F}
use Rattle.ceu_tree.specs.Residual.{Seat, Instances, no_instance, instance, Residual, Over}
use Rattle.ceu_tree.specs.Focus.{join_instances}
use Rattle.ceu_tree.specs.Numbering.{counts_from, block_nodes, decl_slots, block_slots, codes_nodes, codes_slots, is_numbered}
use Rattle.ceu_tree.specs.Mentions.{outer_names_from, all_set}
use Rattle.ceu_tree.specs.Leaf.{Layer, code_at}
use Rattle.ceu_tree.specs.Typing.{same_ty}
use Rattle.ceu_tree.specs.Proper.{Scope, IsPool, find, declared_seen, slot_kind, is_trail, outside_finalizers, is_above, on_code, is_pool_of, alias_takes, gives_all, takes_if, decl_ok, stmt_ok, block_ok, nodes_ok, with_decls, body_scope, is_parameter, codes_ok, events_ok, ports_ok, is_proper}
use Rattle.laws_meaning_values.specs.Ground.{Ground, Numbered}
use Rattle.laws_meaning_values.proofs.Counts.{counts_parts}
use denote.Hole.Carrier
use Rattle.laws_meaning_instances.specs.Instances.{has_place, seats_stand}

first_holds : (x y : Bool) → (x && y) ≡ true → x ≡ true
first_holds x y h = (and_parts x y h).0

last_holds : (x y : Bool) → (x && y) ≡ true → y ≡ true
last_holds x y h = (and_parts x y h).1

-- ---- where the slots of a code begin

abbrev pub codes_low : ℕ → ℕ → List KCode → ℕ
codes_low low zero cs = low
codes_low low (suc c) [] = low
codes_low low (suc c) (k ∷ ks) = codes_low (low + length (decl_slots k.params ++ block_slots k.body)) c ks

low_from : (low c : ℕ) (cs : List KCode) → low ≤ codes_low low c cs
low_from low zero cs = omega arith
low_from low (suc c) [] = omega arith
low_from low (suc c) (k ∷ ks) = let z = low_from (low + length (decl_slots k.params ++ block_slots k.body)) c ks in omega (arith, z)

low_order : (low c d : ℕ) (cs : List KCode) → c ≤ d → codes_low low c cs ≤ codes_low low d cs
low_order low zero d cs l = low_from low d cs
low_order low (suc c) zero cs l = absurd (omega (arith, l))
low_order low (suc c) (suc d) [] l = omega arith
low_order low (suc c) (suc d) (k ∷ ks) l = low_order (low + length (decl_slots k.params ++ block_slots k.body)) c d ks (omega (arith, l))

pub record Home (b : KBlock) (low high : ℕ) : Type 0 where
  pub ground : Ground
  pub on : Numbered (block_slots b) (block_nodes b) ground
  pub from : low ≤ ground.low
  pub to : ground.high ≤ high

codes_home : (i : ℕ) (cs : List KCode) (c : KCode) → code_at i cs ≡ Some c → (low first : ℕ) → counts_from low (codes_slots cs) ≡ true → counts_from first (codes_nodes cs) ≡ true → Home c.body (codes_low low i cs) (codes_low low (suc i) cs)
codes_home i [] c e low first h n = absurd (cc)
codes_home zero (x ∷ cs) c e low first h n =
    let same : x ≡ c = ap (λ o. elim o [ None ↦ x | Some y ↦ y ]) e in
    let a = counts_parts low (decl_slots x.params ++ block_slots x.body) (codes_slots cs) h in
    let b = counts_parts low (decl_slots x.params) (block_slots x.body) a.0 in
    let d = counts_parts first (block_nodes x.body) (codes_nodes cs) n in
    subst (λ y. Home y.body low (low + length (decl_slots x.params ++ block_slots x.body))) same (record {
      ground = record { low = low + length (decl_slots x.params); high = low + length (decl_slots x.params) + length (block_slots x.body); first = first; last = first + length (block_nodes x.body) };
      on = record { slots_from = b.1; slots_to = refl; nodes_from = d.0; nodes_to = refl };
      from = omega arith;
      to = omega (arith, length-append (decl_slots x.params) (block_slots x.body));
    })
codes_home (suc i) (x ∷ cs) c e low first h n =
    let a = counts_parts low (decl_slots x.params ++ block_slots x.body) (codes_slots cs) h in
    let d = counts_parts first (block_nodes x.body) (codes_nodes cs) n in
    codes_home i cs c e _ _ a.1 d.1

module _ (K : Kernel) where
  -- from where on, and up to where, the slots of a body lie
  abbrev pub home_low : Option ℕ → ℕ
  home_low None = 0
  home_low (Some c) = codes_low (length (block_slots K.body)) c K.codes

  abbrev pub home_high : Option ℕ → ℕ
  home_high None = length (block_slots K.body)
  home_high (Some c) = codes_low (length (block_slots K.body)) (suc c) K.codes

  -- a slot that no code has which may be used there
  abbrev pub Beyond : ℕ → Option ℕ → Type 0
  Beyond x oc = (c : ℕ) → is_above K c oc ≡ true → (x < home_low (Some c)) ⊎ (home_high (Some c) ≤ x)

  pub own_beyond : (x : ℕ) (oc : Option ℕ) → home_low oc ≤ x → x < home_high oc → Beyond x oc
  own_beyond x None l h c a = inl (let z = low_from (length (block_slots K.body)) c K.codes in omega (arith, z, h))
  own_beyond x (Some k) l h c a = inr (let z = low_order (length (block_slots K.body)) (suc c) k K.codes (let y = ltb-true c k a in omega (arith, y)) in omega (arith, z, l))

  above_then : (c d : ℕ) (oc : Option ℕ) → is_above K c oc ≡ true → is_above K d (Some c) ≡ true → is_above K d oc ≡ true
  above_then c d None a b = refl
  above_then c d (Some k) a b = lt-ltb d k (let y = ltb-true d c b in let z = ltb-true c k a in omega (arith, y, z))

  -- in code that is used there neither
  pub code_beyond : (x c : ℕ) (oc : Option ℕ) → is_above K c oc ≡ true → Beyond x oc → Beyond x (Some c)
  code_beyond x c oc a h d b = h d (above_then c d oc a b)

numbered_parts : (K : Kernel) → is_proper K ≡ true → (counts_from 0 (block_slots K.body ++ codes_slots K.codes) ≡ true) × (counts_from 0 (block_nodes K.body ++ codes_nodes K.codes) ≡ true)
unfolding is_proper is_numbered
numbered_parts K h =
    let names = outer_names_from [] K.codes in
    let a = (and_parts _ (codes_ok K names 0 K.codes) h).0 in
    let b = (and_parts _ (block_ok K names (body_scope K names None K.body ty.S32) K.body) a).0 in
    let c = (and_parts _ (events_ok (length K.codes) K.events) b).0 in
    let d = (and_parts (is_numbered K) (ports_ok (K.inputs ++ K.outputs)) c).0 in
    let e = and_parts (counts_from 0 (block_nodes K.body ++ codes_nodes K.codes)) (counts_from 0 (block_slots K.body ++ codes_slots K.codes)) d in
    (e.1, e.0)

pub code_home : (K : Kernel) (c : ℕ) (k : KCode) → is_proper K ≡ true → code_at c K.codes ≡ Some k → Home k.body (home_low K (Some c)) (home_high K (Some c))
code_home K c k h e =
    let a = numbered_parts K h in
    codes_home c K.codes k e (length (block_slots K.body)) _ (subst (λ j. counts_from j (codes_slots K.codes) ≡ true) (omega arith) (counts_parts 0 (block_slots K.body) (codes_slots K.codes) a.0).1) (counts_parts 0 (block_nodes K.body) (codes_nodes K.codes) a.1).1

-- ---- code that a place uses

module _ (K : Kernel) (names : List (List ℕ)) where
  -- awaited code lies above, and a spawn's pool is seen, and is of its code
  abbrev pub layer_says : Scope → Layer → Type 0
  layer_says sc (KStmt-F.AwaitCode c es f t) = is_above K c sc.code ≡ true
  layer_says sc (KStmt-F.Spawn c es p a) = (is_trail sc.place ≡ true) × (is_pool_of c (find p sc.seen) ≡ true)
  layer_says sc layer = Unit {0}

  stmt_says : (sc : Scope) (n : ℕ) (st : KStmt) → stmt_ok K names sc n st ≡ true → layer_says sc (out-KStmt st)
  unfolding stmt_ok out-KStmt Carrier.out
  stmt_says sc n (AwaitCode c es f t) h = first_holds (is_above K c sc.code) _ (last_holds (is_trail sc.place) (on_code K sc c (λ k. gives_all K sc k.params es && takes_if K sc k.result t)) h)
  stmt_says sc n (Spawn c es p a) h =
      let y = and_parts (is_trail sc.place && on_code K sc c (λ k. gives_all K sc k.params es)) (is_pool_of c (find p sc.seen)) (first_holds _ (elim a [ None ↦ true | Some a ↦ alias_takes c p (find a sc.seen) ]) h) in
      (first_holds (is_trail sc.place) _ y.0, y.1)
  stmt_says sc n st h = tt

  pub at_says : (sc : Scope) (s : KNode) (layer : Layer) → out-KStmt s.stmt ≡ layer → stmt_ok K names sc s.node s.stmt ≡ true → layer_says sc layer
  at_says sc s layer e h = subst (layer_says sc) e (stmt_says sc s.node s.stmt h)

  block_decls : (sc : Scope) (b : KBlock) → block_ok K names sc b ≡ true → list_all (decl_ok K sc) (out-KBlock b).decls ≡ true
  unfolding block_ok out-KBlock Carrier.out
  block_decls sc (KBlock' n ds x list) h = first_holds (list_all (decl_ok K sc) ds) (all_set names ds list) (first_holds _ (nodes_ok K names (with_decls ds sc) list) h)

  -- an instance is of code that lies above its block
  kind_above : (sc : Scope) (slot : ℕ) (k : KKind) (seat : Seat) → (elim k [
    | kind.Var t ↦ not (same_ty t ty.None) && outside_finalizers sc.place
    | kind.Alias c ↦ is_trail sc.place && on_code K sc c (λ k. true)
    | kind.Pool n c ↦ is_trail sc.place && nat_lt n (2 ^ 32) && on_code K sc c (λ k. true)
  ]) ≡ true → (elim k [ kind.Pool n c ↦ ((slot == seat.pool) && (c == seat.code) && nat_lt seat.place n) | _ ↦ false ]) ≡ true → is_above K seat.code sc.code ≡ true
  kind_above sc slot (kind.Var t) seat h p = absurd (false≢true p)
  kind_above sc slot (kind.Alias c) seat h p = absurd (false≢true p)
  kind_above sc slot (kind.Pool n c) seat h p =
      let a = first_holds (is_above K c sc.code) _ (last_holds (is_trail sc.place && nat_lt n (2 ^ 32)) (on_code K sc c (λ k. true)) h) in
      let e = eqb-true c seat.code (last_holds (slot == seat.pool) (c == seat.code) (first_holds _ (nat_lt seat.place n) p)) in
      subst (λ j. is_above K j sc.code ≡ true) e a

  placed_above : (sc : Scope) (ds : List KDecl) (seat : Seat) → list_all (decl_ok K sc) ds ≡ true → has_place ds seat ≡ true → is_above K seat.code sc.code ≡ true
  placed_above sc [] seat h p = absurd (false≢true p)
  placed_above sc (d ∷ ds) seat h p = go (or_cases _ (has_place ds seat) p) (placed_above sc ds seat (last_holds (decl_ok K sc d) (list_all (decl_ok K sc) ds) h))
    where
      own : decl_ok K sc d ≡ true
      own = first_holds (decl_ok K sc d) (list_all (decl_ok K sc) ds) h

      go : ((elim d.kind [ kind.Pool n c ↦ ((d.slot == seat.pool) && (c == seat.code) && nat_lt seat.place n) | _ ↦ false ]) ≡ true) ⊎ (has_place ds seat ≡ true) → (has_place ds seat ≡ true → is_above K seat.code sc.code ≡ true) → is_above K seat.code sc.code ≡ true
      go (inl q) ih = kind_above sc d.slot d.kind seat (first_holds _ (nat_le 1 d.pos.line) (first_holds _ (nat_le 1 d.pos.col) own)) q
      go (inr q) ih = ih q

  seat_placed : (ds : List KDecl) (front : Instances) (seat : Seat) (q : Residual) (back : Instances) → seats_stand ds (join_instances front (instance seat q back)) → has_place ds seat ≡ true
  unfolding seats_stand
  seat_placed ds no_instance seat q back h = h.0
  seat_placed ds (instance other p more) seat q back h = seat_placed ds more seat q back h.3

  pub instance_above : (sc : Scope) (b : KBlock) (front : Instances) (seat : Seat) (back : Instances) → block_ok K names sc b ≡ true → seats_stand (out-KBlock b).decls (join_instances front (instance seat Over back)) → is_above K seat.code sc.code ≡ true
  instance_above sc b front seat back h s = placed_above sc (out-KBlock b).decls seat (block_decls sc b h) (seat_placed (out-KBlock b).decls front seat Over back s)

-- a code's parameters are no pools
no_parameter : (K : Kernel) (names : List (List ℕ)) (x c : ℕ) (pools : List ℕ) (ds : List KDecl) → list_all (is_parameter K names) ds ≡ true → find x (declared_seen pools ds []) ≡ Some (IsPool c) → ⊥
no_parameter K names x c pools [] h e = absurd (cc)
no_parameter K names x c pools (d ∷ ds) h e = go (d.slot == x) e (no_parameter K names x c pools ds (last_holds (is_parameter K names d) (list_all (is_parameter K names) ds) h))
  where
    kind_is : (k : KKind) → (elim k [ kind.Var t ↦ not (same_ty t ty.None) | _ ↦ false ]) ≡ true → Some (slot_kind pools k) ≡ Some (IsPool c) → ⊥
    kind_is (kind.Var t) p q = absurd (cc)
    kind_is (kind.Alias a) p q = absurd (false≢true p)
    kind_is (kind.Pool n a) p q = absurd (false≢true p)

    go : (b : Bool) → (if b then Some (slot_kind pools d.kind) else find x (declared_seen pools ds [])) ≡ Some (IsPool c) → (find x (declared_seen pools ds []) ≡ Some (IsPool c) → ⊥) → ⊥
    go true q ih = kind_is d.kind (first_holds (is_parameter K names d) (list_all (is_parameter K names) ds) h) q
    go false q ih = ih q

codes_parameters : (K : Kernel) (names : List (List ℕ)) (i c : ℕ) (cs : List KCode) (k : KCode) → codes_ok K names i cs ≡ true → code_at c cs ≡ Some k → list_all (is_parameter K names) k.params ≡ true
codes_parameters K names i c [] k h e = absurd (cc)
codes_parameters K names i zero (x ∷ cs) k h e =
    let same : x ≡ k = ap (λ o. elim o [ None ↦ x | Some y ↦ y ]) e in
    subst (λ y. list_all (is_parameter K names) y.params ≡ true) same (first_holds (list_all (is_parameter K names) x.params) (nat_le (length x.params) 255) (first_holds _ (block_ok K names (with_decls x.params (body_scope K names (Some i) x.body x.result)) x.body) (first_holds _ (codes_ok K names (i + 1) cs) h)))
codes_parameters K names i (suc c) (x ∷ cs) k h e = codes_parameters K names (i + 1) c cs k (last_holds _ (codes_ok K names (i + 1) cs) h) e

pub parameters_apart : (K : Kernel) (x c d : ℕ) (pools : List ℕ) (k : KCode) → is_proper K ≡ true → code_at d K.codes ≡ Some k → find x (declared_seen pools k.params []) ≡ Some (IsPool c) → ⊥
unfolding is_proper
parameters_apart K x c d pools k h e q =
    let names = outer_names_from [] K.codes in
    no_parameter K names x c pools k.params (codes_parameters K names 0 d K.codes k (last_holds _ (codes_ok K names 0 K.codes) h) e) q
