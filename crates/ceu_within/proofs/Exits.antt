-- An exit to which a trail comes inside a block leads to something around that block, but for the body of the program: what is around a part has
-- lower numbers.
use Rattle.std.proofs.Common.{◌≡◌, refl, sym, subst, ◌<◌, ◌≤◌, ℕ, suc, ◌+◌, Bool, true, false, ◌==◌, ◌⊎◌, inl, inr, List, [], ◌∷◌, ◌++◌, Some, None, arith, eqb-true, eq-eqb}
use Rattle.std.proofs.lemmas.Bool.{and_parts, or_cases, false≢true}
use Rattle.ceu_tree.specs.declared.kernel.Kernel.{Kernel}
use Rattle.ceu_tree.specs.declared.kernel.KLoop.{KLoop}
use Rattle.ceu_tree.specs.declared.kernel.KLoop.TheVariants as turns
use Rattle.ceu_tree.specs.declared.kernel.KNode.{KNode}
use Rattle.ceu_tree.specs.declared.kernel.KBlock.{KBlock, out-KBlock}
use Rattle.ceu_tree.specs.declared.kernel.KStmt.{out-KStmt}
use Rattle.ceu_tree.specs.declared.kernel.KStmt.TheOpen.{KStmt-F}
use Rattle.ceu_tree.specs.Focus.{Frame}
use Rattle.ceu_tree.specs.Leaf.{Layer}
use Rattle.ceu_tree.specs.Numbering.{counts_from, stmt_slots, stmt_nodes, block_slots, block_nodes}
use Rattle.ceu_tree.specs.Proper.{Scope, Aim}
use Rattle.ceu_tree.specs.World.{is_among}
use Rattle.laws_meaning_basics.specs.Shape.{Part, ABlock, AStatement, AnEnd, part_scope, turn_scope, opens_part, aim_node, aimed, FrameFits, around_statement, around_end, around_instance, around_part, around_turn, around_call, around_branch}
use Rattle.laws_meaning_values.specs.Ground.{Ground, Numbered, On}
use Rattle.laws_meaning_values.proofs.Stores.{or_left, or_right}
use Rattle.laws_meaning_values.proofs.Counts.{counted_within, nodes_all, block_nodes_is}
use Rattle.laws_meaning_values.proofs.Grounds.{part_ground, inner_ground}
use Rattle.ceu_endings.specs.OneTrail.{PlainFrame}

abbrev pub below : ℕ → List Aim → Type 0
below k [] = Unit {0}
below k (a ∷ aims) = (aim_node a < k) × below k aims

pub below_more : (j k : ℕ) (aims : List Aim) → j ≤ k → below j aims → below k aims
below_more j k [] l b = tt
below_more j k (a ∷ aims) l b = (let x = b.0 in omega arith, below_more j k aims l b.1)

-- an exit to one of them leads to a lower number
pub leads_below : (k : ℕ) (aims : List Aim) (node : ℕ) → below k aims → aimed node aims ≡ true → node < k
leads_below k [] node b h = absurd (false≢true h)
leads_below k (a ∷ aims) node b h = go (or_cases (node == aim_node a) (aimed node aims) h) (leads_below k aims node b.1)
  where
    go : ((node == aim_node a) ≡ true) ⊎ (aimed node aims ≡ true) → (aimed node aims ≡ true → node < k) → node < k
    go (inl e) ih = let x = b.0 in let y = eqb-true node (aim_node a) e in omega arith
    go (inr e) ih = ih e

-- what is around a part; the body of the program may be left by an exit to itself
abbrev pub around_number : (whole : Bool) → ℕ → ℕ
around_number true n = suc n
around_number false n = n

abbrev pub AimsLow : (whole : Bool) → Part → Type 0
AimsLow whole (ABlock turn sc b) = below (around_number whole (out-KBlock b).node) sc.aims
AimsLow whole (AStatement sc s) = below s.node sc.aims
AimsLow whole AnEnd = Unit {0}

-- ---- numbers of parts

among_behind : (x : ℕ) (xs ys : List ℕ) → is_among x ys ≡ true → is_among x (xs ++ ys) ≡ true
among_behind x [] ys h = h
among_behind x (y ∷ xs) ys h = or_right (x == y) (is_among x (xs ++ ys)) (among_behind x xs ys h)

node_among : (done : List KNode) (s : KNode) (rest : List KNode) → is_among s.node (nodes_all (done ++ s ∷ rest)) ≡ true
node_among [] s rest = or_left (s.node == s.node) (is_among s.node (stmt_nodes s.stmt ++ nodes_all rest)) (eq-eqb s.node s.node refl)
node_among (q ∷ done) s rest = or_right (s.node == q.node) (is_among s.node (stmt_nodes q.stmt ++ nodes_all (done ++ s ∷ rest))) (among_behind s.node (stmt_nodes q.stmt) (nodes_all (done ++ s ∷ rest)) (node_among done s rest))

block_first : (b : KBlock) (g : Ground) → Numbered (block_slots b) (block_nodes b) g → ((out-KBlock b).node ≡ g.first) × (counts_from (g.first + 1) (nodes_all (out-KBlock b).list) ≡ true)
block_first b g on =
    let a = and_parts ((out-KBlock b).node == g.first) (counts_from (g.first + 1) (nodes_all (out-KBlock b).list)) (subst (λ l. counts_from g.first l ≡ true) (block_nodes_is b) on.nodes_from) in
    (eqb-true (out-KBlock b).node g.first a.0, a.1)

-- a statement's number is above that of its block
pub above_block : (b : KBlock) (done : List KNode) (s : KNode) (rest : List KNode) (g : Ground) → (out-KBlock b).list ≡ done ++ s ∷ rest → Numbered (block_slots b) (block_nodes b) g → (out-KBlock b).node < s.node
above_block b done s rest g e on =
    let a = block_first b g on in
    let c = counted_within (g.first + 1) (nodes_all (done ++ s ∷ rest)) s.node (subst (λ l. counts_from (g.first + 1) (nodes_all l) ≡ true) e a.1) (node_among done s rest) in
    let x = a.0 in let y = c.0 in omega arith

own_first : (s : KNode) (g : Ground) → Numbered (stmt_slots s.stmt) (s.node ∷ stmt_nodes s.stmt) g → s.node ≡ g.first
own_first s g h = eqb-true s.node g.first (and_parts (s.node == g.first) (counts_from (g.first + 1) (stmt_nodes s.stmt)) h.nodes_from).0

module _ (K : Kernel) where
  part_aims : (sc : Scope) (s : KNode) (layer : Layer) (b : KBlock) (g : Ground) → out-KStmt s.stmt ≡ layer → opens_part layer b → Numbered (stmt_slots s.stmt) (s.node ∷ stmt_nodes s.stmt) g → below s.node sc.aims
      → below (out-KBlock b).node (part_scope K sc s.node layer).aims
  part_aims sc s (KStmt-F.Do None c) b g e o on h = strict
    where
      high : s.node < (out-KBlock b).node
      high =
          let i = inner_ground s (KStmt-F.Do None c) g e on in
          let x = own_first s g on in let y = (block_first c i.ground i.on).0 in let z = i.node_before in
          subst (λ d. s.node < (out-KBlock d).node) o (omega arith)

      strict : (s.node < (out-KBlock b).node) × below (out-KBlock b).node sc.aims
      strict = (high, below_more s.node (out-KBlock b).node sc.aims (let x = high in omega arith) h)
  part_aims sc s (KStmt-F.Do (Some l) c) b g e o on h = strict
    where
      high : s.node < (out-KBlock b).node
      high =
          let i = inner_ground s (KStmt-F.Do (Some l) c) g e on in
          let x = own_first s g on in let y = (block_first c i.ground i.on).0 in let z = i.node_before in
          subst (λ d. s.node < (out-KBlock d).node) o (omega arith)

      strict : (s.node < (out-KBlock b).node) × below (out-KBlock b).node sc.aims
      strict = (high, below_more s.node (out-KBlock b).node sc.aims (let x = high in omega arith) h)
  part_aims sc s (KStmt-F.If arms last) b g e o on h =
      let i = part_ground s b g (subst (λ l. opens_part l b) (sym e) o) on in
      let x = own_first s g on in let y = (block_first b i.ground i.on).0 in let z = i.inner.first in
      below_more s.node (out-KBlock b).node sc.aims (omega arith) h
  part_aims sc s layer b g e o on h = elim o [ ]

  turn_aims : (sc : Scope) (s : KNode) (k : KLoop) (b : KBlock) (g : Ground) → out-KStmt s.stmt ≡ KStmt-F.Loop k b → Numbered (stmt_slots s.stmt) (s.node ∷ stmt_nodes s.stmt) g → below s.node sc.aims → below (out-KBlock b).node (turn_scope K sc s.node k).aims
  turn_aims sc s k b g e on h = go k
    where
      high : s.node < (out-KBlock b).node
      high =
          let i = inner_ground s (KStmt-F.Loop k b) g e on in
          let x = own_first s g on in let y = (block_first b i.ground i.on).0 in let z = i.node_before in omega arith

      strict : (s.node < (out-KBlock b).node) × below (out-KBlock b).node sc.aims
      strict = (high, below_more s.node (out-KBlock b).node sc.aims (let x = high in omega arith) h)

      go : (j : KLoop) → below (out-KBlock b).node (turn_scope K sc s.node j).aims
      go turns.Free = strict
      go (turns.Times slot n) = strict
      go (turns.Range i next end open_a a c open_b) = strict

  pub frame_aims : {t : ℕ} {fr : Frame} {d e : Part} → FrameFits K t fr d e → PlainFrame fr → (whole : Bool) (g : Ground) → On d g → AimsLow whole d → AimsLow false e
  frame_aims (around_statement {sc = sc} {b = b} {rest = rest} {s = s} done e f all) p whole g on h =
      let x = above_block b done s rest g e on in below_more (around_number whole (out-KBlock b).node) s.node sc.aims (go whole x) h
    where
      go : (w : Bool) → (out-KBlock b).node < s.node → around_number w (out-KBlock b).node ≤ s.node
      go true x = omega arith
      go false x = omega arith
  frame_aims (around_end f all) p whole g on h = tt
  frame_aims (around_instance {seat = seat} done k e f r before after q c) p whole g on h = absurd p
  frame_aims (around_part {sc = sc} {s = s} b o) p whole g on h = part_aims sc s (out-KStmt s.stmt) b g refl o on h
  frame_aims (around_turn {sc = sc} {s = s} k b e c) p whole g on h = turn_aims sc s k b g e on h
  frame_aims (around_call c es f t k e q) p whole g on h = absurd p
  frame_aims (around_branch {sc = sc} {s = s} k slot bs b cs e x y) p whole g on h = absurd p
