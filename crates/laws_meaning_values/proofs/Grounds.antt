-- The ground of the parts of a part.
use Rattle.std.proofs.Common.{◌≡◌, refl, sym, ap, ◌∙◌, subst, ◌<◌, ◌≤◌, ℕ, zero, suc, ◌+◌, true, ◌==◌, inl, inr, List, [], ◌∷◌, ◌++◌, length, length-append, append_assoc, Some, None, arith, eqb-true}
use Rattle.std.proofs.lemmas.Bool.{and_parts}
use Rattle.ceu_tree.specs.declared.kernel.Kernel.{Kernel}
use Rattle.ceu_tree.specs.declared.kernel.KCode.{KCode}
use Rattle.ceu_tree.specs.declared.kernel.KNode.{KNode}
use Rattle.ceu_tree.specs.declared.kernel.KArm.{KArm, out-KArm}
use Rattle.ceu_tree.specs.declared.kernel.KBlock.{KBlock, out-KBlock}
use Rattle.ceu_tree.specs.declared.kernel.KStmt.{out-KStmt}
use Rattle.ceu_tree.specs.declared.kernel.KStmt.TheOpen.{KStmt-F}
use Rattle.ceu_tree.specs.Leaf.{Layer, code_at}
use Rattle.ceu_base.specs.declared.kinds.Ty.TheVariants as ty
use Rattle.ceu_tree.specs.Mentions.{outer_names_from}
use Rattle.ceu_tree.specs.Proper.{is_proper, codes_ok, block_ok, body_scope, events_ok, ports_ok}
use Rattle.ceu_tree.specs.Numbering.{counts_from, stmt_nodes, block_nodes, decl_slots, stmt_slots, block_slots, codes_nodes, codes_slots, is_numbered}
use Rattle.laws_meaning_basics.specs.Shape.{among_arms, opens_part}
use Rattle.laws_meaning_values.specs.Ground.{Ground, Numbered}
use Rattle.laws_meaning_values.proofs.Counts.{counts_parts, Halves, halves, Inner, inner_then, slots_all, nodes_all, blocks_slots_all, blocks_nodes_all, arms_slots_all, arms_nodes_all, block_slots_is, block_nodes_is, hidden_slots, inner_slots, inner_nodes, stmt_slots_is, stmt_nodes_is}

-- a part with a ground of its own
pub record Within (slots nodes : List ℕ) (g : Ground) : Type 0 where
  pub ground : Ground
  pub on : Numbered slots nodes ground
  pub inner : Inner ground g

abbrev as_slots : (xs ys us : List ℕ) (g : Ground) → xs ≡ ys → Numbered xs us g → Numbered ys us g
as_slots xs ys us g e h = subst (λ l. Numbered l us g) e h

abbrev as_nodes : (xs us vs : List ℕ) (g : Ground) → us ≡ vs → Numbered xs us g → Numbered xs vs g
as_nodes xs us vs g e h = subst (λ l. Numbered xs l g) e h

abbrev left_within : (xs ys us vs : List ℕ) (g : Ground) → Halves xs ys us vs g → Within xs us g
left_within xs ys us vs g h = record { ground = h.left; on = h.on_left; inner = h.inner_left }

abbrev right_within : (xs ys us vs : List ℕ) (g : Ground) → Halves xs ys us vs g → Within ys vs g
right_within xs ys us vs g h = record { ground = h.right; on = h.on_right; inner = h.inner_right }

-- a statement of a list, with those before it
pub record StatementGround (s : KNode) (done : List KNode) (g : Ground) : Type 0 where
  pub ground : Ground
  pub on : Numbered (stmt_slots s.stmt) (s.node ∷ stmt_nodes s.stmt) ground
  pub inner : Inner ground g

list_at : (done : List KNode) (s : KNode) (rest : List KNode) (g : Ground) → Numbered (slots_all (done ++ s ∷ rest)) (nodes_all (done ++ s ∷ rest)) g → StatementGround s done g
list_at [] s rest g h =
    let x = halves (stmt_slots s.stmt) (slots_all rest) (s.node ∷ stmt_nodes s.stmt) (nodes_all rest) g h in
    let y = left_within _ _ _ _ g x in
    record { ground = y.ground; on = y.on; inner = y.inner }
list_at (q ∷ done) s rest g h =
    let x = halves (stmt_slots q.stmt) (slots_all (done ++ s ∷ rest)) (q.node ∷ stmt_nodes q.stmt) (nodes_all (done ++ s ∷ rest)) g h in
    let y = right_within _ _ _ _ g x in
    let z = list_at done s rest y.ground y.on in
    record { ground = z.ground; on = z.on; inner = inner_then z.ground y.ground g z.inner y.inner }

-- a statement of a block, behind the slots that the block declares
pub record InBlock (b : KBlock) (s : KNode) (g : Ground) : Type 0 where
  pub ground : Ground
  pub on : Numbered (stmt_slots s.stmt) (s.node ∷ stmt_nodes s.stmt) ground
  pub inner : Inner ground g
  pub behind : g.low + length (decl_slots (out-KBlock b).decls) ≤ ground.low
  pub declared : counts_from g.low (decl_slots (out-KBlock b).decls) ≡ true
  pub declared_to : g.low + length (decl_slots (out-KBlock b).decls) ≤ g.high

pub list_ground : (b : KBlock) (done : List KNode) (s : KNode) (rest : List KNode) (g : Ground) → (out-KBlock b).list ≡ done ++ s ∷ rest → Numbered (block_slots b) (block_nodes b) g → InBlock b s g
list_ground b done s rest g e h =
    let ds = decl_slots (out-KBlock b).decls in
    let n = (out-KBlock b).node in
    let list = done ++ s ∷ rest in
    let a : Numbered (ds ++ slots_all list) ((n ∷ []) ++ nodes_all list) g =
    as_nodes (ds ++ slots_all list) (block_nodes b) ((n ∷ []) ++ nodes_all list) g (block_nodes_is b ∙ ap (λ l. n ∷ nodes_all l) e)
    (as_slots (block_slots b) (ds ++ slots_all list) (block_nodes b) g (block_slots_is b ∙ ap (λ l. ds ++ slots_all l) e) h) in
    let x = halves ds (slots_all list) (n ∷ []) (nodes_all list) g a in
    let y = right_within ds (slots_all list) (n ∷ []) (nodes_all list) g x in
    let z = list_at done s rest y.ground y.on in
    record {
      ground = z.ground;
      on = z.on;
      inner = inner_then z.ground y.ground g z.inner y.inner;
      behind = omega (arith, z.inner.low, x.middle, x.low, x.on_left.slots_to);
      declared = subst (λ j. counts_from j ds ≡ true) x.low x.on_left.slots_from;
      declared_to = omega (arith, x.low, x.middle, x.on_left.slots_to, x.high, x.on_right.slots_to);
    }

-- ---- the parts of a statement

pub record InStatement (layer : Layer) (slots nodes : List ℕ) (g : Ground) : Type 0 where
  pub ground : Ground
  pub on : Numbered slots nodes ground
  pub inner : Inner ground g
  pub behind : g.low + length (hidden_slots layer) ≤ ground.low
  pub node_before : g.first < ground.first

-- all of them together
pub inner_ground : (s : KNode) (layer : Layer) (g : Ground) → out-KStmt s.stmt ≡ layer → Numbered (stmt_slots s.stmt) (s.node ∷ stmt_nodes s.stmt) g → InStatement layer (inner_slots layer) (inner_nodes layer) g
inner_ground s layer g e h =
    let a : Numbered (hidden_slots layer ++ inner_slots layer) ((s.node ∷ []) ++ inner_nodes layer) g =
    as_nodes _ (s.node ∷ stmt_nodes s.stmt) ((s.node ∷ []) ++ inner_nodes layer) g (ap (◌∷◌ s.node) (stmt_nodes_is s.stmt ∙ ap inner_nodes e))
    (as_slots (stmt_slots s.stmt) (hidden_slots layer ++ inner_slots layer) _ g (stmt_slots_is s.stmt ∙ ap (λ l. hidden_slots l ++ inner_slots l) e) h) in
    let x = halves (hidden_slots layer) (inner_slots layer) (s.node ∷ []) (inner_nodes layer) g a in
    let y = right_within _ _ _ _ g x in
    record { ground = y.ground; on = y.on; inner = y.inner; behind = omega (arith, x.middle, x.low, x.on_left.slots_to); node_before = omega (arith, x.between, x.first, x.on_left.nodes_to) }

-- the statement's own number and its hidden slots
pub own_node : (s : KNode) (g : Ground) → Numbered (stmt_slots s.stmt) (s.node ∷ stmt_nodes s.stmt) g → (g.first ≤ s.node) × (s.node < g.last)
own_node s g h = let e = eqb-true s.node g.first (and_parts (s.node == g.first) (counts_from (g.first + 1) (stmt_nodes s.stmt)) h.nodes_from).0 in (omega (arith, e), omega (arith, e, h.nodes_to))

pub hidden_counts : (s : KNode) (layer : Layer) (g : Ground) → out-KStmt s.stmt ≡ layer → Numbered (stmt_slots s.stmt) (s.node ∷ stmt_nodes s.stmt) g
    → (counts_from g.low (hidden_slots layer) ≡ true) × (g.low + length (hidden_slots layer) ≤ g.high)
hidden_counts s layer g e h =
    let l : stmt_slots s.stmt ≡ hidden_slots layer ++ inner_slots layer = stmt_slots_is s.stmt ∙ ap (λ l. hidden_slots l ++ inner_slots l) e in
    let a = as_slots (stmt_slots s.stmt) (hidden_slots layer ++ inner_slots layer) _ g l h in
    ((counts_parts g.low (hidden_slots layer) (inner_slots layer) a.slots_from).0, omega (arith, a.slots_to, length-append (hidden_slots layer) (inner_slots layer)))

among_ground : (arms : List KArm) (b : KBlock) (g : Ground) → among_arms arms b → Numbered (arms_slots_all arms) (arms_nodes_all arms) g → Within (block_slots b) (block_nodes b) g
among_ground [] b g x h = elim x [ ]
among_ground (a ∷ arms) b g (inl e) h =
    subst (λ c. Within (block_slots c) (block_nodes c) g) e
    (left_within _ _ _ _ g (halves (block_slots (out-KArm a).body) (arms_slots_all arms) (block_nodes (out-KArm a).body) (arms_nodes_all arms) g h))
among_ground (a ∷ arms) b g (inr x) h =
    let y = right_within _ _ _ _ g (halves (block_slots (out-KArm a).body) (arms_slots_all arms) (block_nodes (out-KArm a).body) (arms_nodes_all arms) g h) in
    let z = among_ground arms b y.ground x y.on in
    record { ground = z.ground; on = z.on; inner = inner_then z.ground y.ground g z.inner y.inner }

part_in : (layer : Layer) (b : KBlock) (g : Ground) → opens_part layer b → Numbered (inner_slots layer) (inner_nodes layer) g → Within (block_slots b) (block_nodes b) g
part_in (KStmt-F.Do t c) b g x h = subst (λ d. Within (block_slots d) (block_nodes d) g) x (record { ground = g; on = h; inner = record { low = omega arith; high = omega arith; first = omega arith; last = omega arith } })
part_in (KStmt-F.If arms last) b g (inl x) h =
    let y = left_within _ _ _ _ g (halves (arms_slots_all arms) (block_slots last) (arms_nodes_all arms) (block_nodes last) g h) in
    let z = among_ground arms b y.ground x y.on in
    record { ground = z.ground; on = z.on; inner = inner_then z.ground y.ground g z.inner y.inner }
part_in (KStmt-F.If arms last) b g (inr e) h =
    subst (λ c. Within (block_slots c) (block_nodes c) g) e (right_within _ _ _ _ g (halves (arms_slots_all arms) (block_slots last) (arms_nodes_all arms) (block_nodes last) g h))
part_in layer b g x h = elim x [ ]

pub part_ground : (s : KNode) (b : KBlock) (g : Ground) → opens_part (out-KStmt s.stmt) b → Numbered (stmt_slots s.stmt) (s.node ∷ stmt_nodes s.stmt) g → Within (block_slots b) (block_nodes b) g
part_ground s b g x h =
    let y = inner_ground s (out-KStmt s.stmt) g refl h in
    let z = part_in (out-KStmt s.stmt) b y.ground x y.on in
    record { ground = z.ground; on = z.on; inner = inner_then z.ground y.ground g z.inner y.inner }

-- one of the branches of a par, between those before it and those behind it
pub record InBranches (bs : List KBlock) (b : KBlock) (cs : List KBlock) (g : Ground) : Type 0 where
  pub before : Ground
  pub ground : Ground
  pub after : Ground
  pub on_before : Numbered (blocks_slots_all bs) (blocks_nodes_all bs) before
  pub on : Numbered (block_slots b) (block_nodes b) ground
  pub on_after : Numbered (blocks_slots_all cs) (blocks_nodes_all cs) after
  pub inner_before : Inner before g
  pub inner : Inner ground g
  pub inner_after : Inner after g
  pub slots_before : before.high ≤ ground.low
  pub slots_after : ground.high ≤ after.low
  pub nodes_before : before.last ≤ ground.first
  pub nodes_after : ground.last ≤ after.first

blocks_append_slots : (bs cs : List KBlock) → blocks_slots_all (bs ++ cs) ≡ blocks_slots_all bs ++ blocks_slots_all cs
blocks_append_slots [] cs = refl
blocks_append_slots (b ∷ bs) cs = ap (λ x. block_slots b ++ x) (blocks_append_slots bs cs) ∙ sym (append_assoc (block_slots b) (blocks_slots_all bs) (blocks_slots_all cs))

blocks_append_nodes : (bs cs : List KBlock) → blocks_nodes_all (bs ++ cs) ≡ blocks_nodes_all bs ++ blocks_nodes_all cs
blocks_append_nodes [] cs = refl
blocks_append_nodes (b ∷ bs) cs = ap (λ x. block_nodes b ++ x) (blocks_append_nodes bs cs) ∙ sym (append_assoc (block_nodes b) (blocks_nodes_all bs) (blocks_nodes_all cs))

pub branch_ground : (bs : List KBlock) (b : KBlock) (cs : List KBlock) (g : Ground) → Numbered (blocks_slots_all (bs ++ b ∷ cs)) (blocks_nodes_all (bs ++ b ∷ cs)) g → InBranches bs b cs g
branch_ground bs b cs g h =
    let a = as_nodes _ (blocks_nodes_all (bs ++ b ∷ cs)) (blocks_nodes_all bs ++ blocks_nodes_all (b ∷ cs)) g (blocks_append_nodes bs (b ∷ cs))
    (as_slots (blocks_slots_all (bs ++ b ∷ cs)) (blocks_slots_all bs ++ blocks_slots_all (b ∷ cs)) _ g (blocks_append_slots bs (b ∷ cs)) h) in
    let x = halves (blocks_slots_all bs) (blocks_slots_all (b ∷ cs)) (blocks_nodes_all bs) (blocks_nodes_all (b ∷ cs)) g a in
    let p = left_within _ _ _ _ g x in
    let q = right_within _ _ _ _ g x in
    let y = halves (block_slots b) (blocks_slots_all cs) (block_nodes b) (blocks_nodes_all cs) q.ground q.on in
    let l = left_within _ _ _ _ q.ground y in
    let r = right_within _ _ _ _ q.ground y in
    record {
      before = p.ground;
      ground = l.ground;
      after = r.ground;
      on_before = p.on;
      on = l.on;
      on_after = r.on;
      inner_before = p.inner;
      inner = inner_then l.ground q.ground g l.inner q.inner;
      inner_after = inner_then r.ground q.ground g r.inner q.inner;
      slots_before = omega (arith, x.middle, y.low);
      slots_after = omega (arith, y.middle);
      nodes_before = omega (arith, x.between, y.first);
      nodes_after = omega (arith, y.between);
    }

-- ---- bodies

pub record CodeGround (b : KBlock) (low : ℕ) : Type 0 where
  pub ground : Ground
  pub on : Numbered (block_slots b) (block_nodes b) ground
  pub above : low ≤ ground.low

codes_ground : (i : ℕ) (cs : List KCode) (c : KCode) → code_at i cs ≡ Some c → (low first : ℕ) → counts_from low (codes_slots cs) ≡ true → counts_from first (codes_nodes cs) ≡ true → CodeGround c.body low
codes_ground i [] c e low first h n = absurd (cc)
codes_ground zero (x ∷ cs) c e low first h n =
    let same : x ≡ c = ap (λ o. elim o [ None ↦ x | Some y ↦ y ]) e in
    let a = counts_parts low (decl_slots x.params ++ block_slots x.body) (codes_slots cs) h in
    let b = counts_parts low (decl_slots x.params) (block_slots x.body) a.0 in
    let d = counts_parts first (block_nodes x.body) (codes_nodes cs) n in
    subst (λ y. CodeGround y.body low) same (record {
      ground = record { low = low + length (decl_slots x.params); high = low + length (decl_slots x.params) + length (block_slots x.body); first = first; last = first + length (block_nodes x.body) };
      on = record { slots_from = b.1; slots_to = refl; nodes_from = d.0; nodes_to = refl };
      above = omega arith;
    })
codes_ground (suc i) (x ∷ cs) c e low first h n =
    let a = counts_parts low (decl_slots x.params ++ block_slots x.body) (codes_slots cs) h in
    let d = counts_parts first (block_nodes x.body) (codes_nodes cs) n in
    let r = codes_ground i cs c e _ _ a.1 d.1 in
    record { ground = r.ground; on = r.on; above = omega (arith, r.above) }

numbered_parts : (K : Kernel) → is_proper K ≡ true → (counts_from 0 (block_slots K.body ++ codes_slots K.codes) ≡ true) × (counts_from 0 (block_nodes K.body ++ codes_nodes K.codes) ≡ true)
unfolding is_proper is_numbered
numbered_parts K h =
    let names = outer_names_from [] K.codes in
    let a = (and_parts _ (codes_ok K names 0 K.codes) h).0 in
    let b = (and_parts _ (block_ok K names (body_scope K names None K.body ty.S32) K.body) a).0 in
    let c = (and_parts _ (events_ok (length K.codes) K.events) b).0 in
    let d = (and_parts (is_numbered K) (ports_ok (K.inputs ++ K.outputs)) c).0 in
    let e = and_parts (counts_from 0 (block_nodes K.body ++ codes_nodes K.codes)) (counts_from 0 (block_slots K.body ++ codes_slots K.codes)) d in
    (e.1, e.0)

-- the program's own ground begins at 0, and that of each code lies behind it
pub program_ground : (K : Kernel) → is_proper K ≡ true → Numbered (block_slots K.body) (block_nodes K.body) (record { low = 0; high = length (block_slots K.body); first = 0; last = length (block_nodes K.body) })
program_ground K h =
    let a = numbered_parts K h in
    record { slots_from = (counts_parts 0 (block_slots K.body) (codes_slots K.codes) a.0).0; slots_to = omega arith; nodes_from = (counts_parts 0 (block_nodes K.body) (codes_nodes K.codes) a.1).0; nodes_to = omega arith }

pub code_ground : (K : Kernel) (c : ℕ) (k : KCode) → is_proper K ≡ true → code_at c K.codes ≡ Some k → CodeGround k.body (length (block_slots K.body))
code_ground K c k h e =
    let a = numbered_parts K h in
    let r = codes_ground c K.codes k e _ _ (counts_parts 0 (block_slots K.body) (codes_slots K.codes) a.0).1 (counts_parts 0 (block_nodes K.body) (codes_nodes K.codes) a.1).1 in
    record { ground = r.ground; on = r.on; above = omega (arith, r.above) }
