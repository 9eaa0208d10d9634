-- No exit leads to the block of a part of a do or of an if: what is aimed at from there are statements and bodies around it, whose numbers are lower.
use Rattle.std.proofs.Common.{◌≡◌, refl, sym, subst, ◌<◌, ◌≤◌, ℕ, ◌+◌, Bool, true, false, ◌==◌, ◌||◌, List, [], ◌∷◌, ◌++◌, Some, None, arith, eqb-true, eq-eqb}
use Rattle.std.proofs.lemmas.Bool.{and_parts}
use Rattle.ceu_tree.specs.declared.kernel.Kernel.{Kernel}
use Rattle.ceu_tree.specs.declared.kernel.KLoop.{KLoop}
use Rattle.ceu_tree.specs.declared.kernel.KLoop.TheVariants as turns
use Rattle.ceu_tree.specs.declared.kernel.KNode.{KNode}
use Rattle.ceu_tree.specs.declared.kernel.KBlock.{KBlock, out-KBlock}
use Rattle.ceu_tree.specs.declared.kernel.KStmt.{out-KStmt}
use Rattle.ceu_tree.specs.declared.kernel.KStmt.TheOpen.{KStmt-F}
use Rattle.ceu_tree.specs.Residual.{Act}
use Rattle.ceu_tree.specs.Focus.{Frame, Focus}
use Rattle.ceu_tree.specs.World.{is_among}
use Rattle.ceu_tree.specs.Leaf.{Layer}
use Rattle.ceu_tree.specs.Numbering.{counts_from, stmt_nodes, stmt_slots, block_nodes, block_slots}
use Rattle.ceu_tree.specs.Proper.{Scope, Aim, is_proper}
use Rattle.laws_meaning_basics.specs.Shape.{Part, ABlock, AStatement, AnEnd, part_scope, turn_scope, program_part, opens_part, aim_node, aimed, FrameFits, around_statement, around_end, around_instance, around_part, around_turn, around_call, around_branch, Around, nothing_around, one_around}
use Rattle.laws_meaning_values.specs.Ground.{Ground, Numbered, On}
use Rattle.laws_meaning_values.proofs.Counts.{counted_within, nodes_all, block_nodes_is}
use Rattle.laws_meaning_values.proofs.Grounds.{list_ground, inner_ground, part_ground, branch_ground, code_ground, program_ground}
use Rattle.laws_meaning_values.proofs.Spares.{among_right}
use Rattle.laws_meaning_values.proofs.Stores.{or_left, or_right}

abbrev pub below : ℕ → List Aim → Type 0
below n [] = Unit {0}
below n (a ∷ as') = (aim_node a < n) × below n as'

below_more : (m n : ℕ) (aims : List Aim) → m ≤ n → below m aims → below n aims
below_more m n [] l h = tt
below_more m n (a ∷ as') l h = (let z = h.0 in omega (arith, z, l), below_more m n as' l h.1)

pub below_aimed : (n : ℕ) (aims : List Aim) → below n aims → aimed n aims ≡ false
below_aimed n [] h = refl
below_aimed n (a ∷ as') h = go (n == aim_node a) refl (below_aimed n as' h.1)
  where
    go : (b : Bool) → (n == aim_node a) ≡ b → aimed n as' ≡ false → (b || aimed n as') ≡ false
    go false e ih = ih
    go true e ih = absurd (let z = eqb-true n (aim_node a) e in let l = h.0 in omega (arith, z, l))

-- ---- numbers of nodes

node_among : (done : List KNode) (s : KNode) (rest : List KNode) → is_among s.node (nodes_all (done ++ s ∷ rest)) ≡ true
node_among [] s rest = or_left (s.node == s.node) _ (eq-eqb s.node s.node refl)
node_among (x ∷ done) s rest = or_right (s.node == x.node) _ (among_right s.node (stmt_nodes x.stmt) (nodes_all (done ++ s ∷ rest)) (node_among done s rest))

block_first : (b : KBlock) (g : Ground) → Numbered (block_slots b) (block_nodes b) g → ((out-KBlock b).node ≡ g.first) × (counts_from (g.first + 1) (nodes_all (out-KBlock b).list) ≡ true)
block_first b g on =
    let a = and_parts ((out-KBlock b).node == g.first) (counts_from (g.first + 1) (nodes_all (out-KBlock b).list)) (subst (λ l. counts_from g.first l ≡ true) (block_nodes_is b) on.nodes_from) in
    (eqb-true (out-KBlock b).node g.first a.0, a.1)

above_block : (b : KBlock) (done : List KNode) (s : KNode) (rest : List KNode) (g : Ground) → (out-KBlock b).list ≡ done ++ s ∷ rest → Numbered (block_slots b) (block_nodes b) g → (out-KBlock b).node + 1 ≤ s.node
above_block b done s rest g e on =
    let a = block_first b g on in
    let c = counted_within (g.first + 1) (nodes_all (done ++ s ∷ rest)) s.node (subst (λ l. counts_from (g.first + 1) (nodes_all l) ≡ true) e a.1) (node_among done s rest) in
    let x = a.0 in let y = c.0 in omega (arith, x, y)

own_first : (s : KNode) (g : Ground) → Numbered (stmt_slots s.stmt) (s.node ∷ stmt_nodes s.stmt) g → s.node ≡ g.first
own_first s g h = eqb-true s.node g.first (and_parts (s.node == g.first) (counts_from (g.first + 1) (stmt_nodes s.stmt)) h.nodes_from).0

-- ---- places

abbrev pub Low : Part → Type 0
Low (ABlock turn sc b) = below ((out-KBlock b).node + 1) sc.aims
Low (AStatement sc s) = below s.node sc.aims
Low AnEnd = Unit {0}

pub record Inside (e : Part) : Type 0 where
  pub ground : Ground
  pub on : On e ground
  pub low : Low e

module _ (K : Kernel) (proper : is_proper K ≡ true) where
  pub part_low : (sc : Scope) (s : KNode) (layer : Layer) (b : KBlock) (g : Ground) → out-KStmt s.stmt ≡ layer → opens_part layer b → Numbered (stmt_slots s.stmt) (s.node ∷ stmt_nodes s.stmt) g → below s.node sc.aims
      → below (out-KBlock b).node (part_scope K sc s.node layer).aims
  part_low sc s (KStmt-F.Do t c) b g e o on h = go t
    where
      high : s.node < (out-KBlock b).node
      high =
          let i = inner_ground s (KStmt-F.Do t c) g e on in
          let x = own_first s g on in let y = (block_first c i.ground i.on).0 in let z = i.node_before in
          subst (λ d. s.node < (out-KBlock d).node) o (omega (arith, x, y, z))

      outer : below (out-KBlock b).node sc.aims
      outer = below_more s.node (out-KBlock b).node sc.aims (let x = high in omega (arith, x)) h

      go : (t : _) → below (out-KBlock b).node (part_scope K sc s.node (KStmt-F.Do t c)).aims
      go None = (high, outer)
      go (Some l) = (high, outer)
  part_low sc s (KStmt-F.If arms last) b g e o on h =
      let i = part_ground s b g (subst (λ l. opens_part l b) (sym e) o) on in
      let x = own_first s g on in let y = (block_first b i.ground i.on).0 in let z = i.inner.first in
      below_more s.node (out-KBlock b).node sc.aims (omega (arith, x, y, z)) h
  part_low sc s layer b g e o on h = elim o [ ]

  turn_low : (sc : Scope) (s : KNode) (k : KLoop) (b : KBlock) (g : Ground) → out-KStmt s.stmt ≡ KStmt-F.Loop k b → Numbered (stmt_slots s.stmt) (s.node ∷ stmt_nodes s.stmt) g → below s.node sc.aims
      → below ((out-KBlock b).node + 1) (turn_scope K sc s.node k).aims
  turn_low sc s k b g e on h = go k
    where
      high : s.node < (out-KBlock b).node
      high =
          let i = inner_ground s (KStmt-F.Loop k b) g e on in
          let x = own_first s g on in let y = (block_first b i.ground i.on).0 in let z = i.node_before in omega (arith, x, y, z)

      strict : (s.node < (out-KBlock b).node + 1) × below ((out-KBlock b).node + 1) sc.aims
      strict = (let x = high in omega (arith, x), below_more s.node ((out-KBlock b).node + 1) sc.aims (let x = high in omega (arith, x)) h)

      go : (j : KLoop) → below ((out-KBlock b).node + 1) (turn_scope K sc s.node j).aims
      go turns.Free = strict
      go (turns.Times slot n) = strict
      go (turns.Range i next end open_a a c open_b) = strict

  pub frame_inside : {t : ℕ} {fr : Frame} {d e : Part} → FrameFits K t fr d e → (g : Ground) → On d g → Low d → Inside e
  frame_inside (around_statement {sc = sc} {b = b} {rest = rest} {s = s} done e f fit) g on h =
      let i = list_ground b done s rest g e on in
      record { ground = i.ground; on = i.on; low = below_more ((out-KBlock b).node + 1) s.node sc.aims (above_block b done s rest g e on) h }
  frame_inside (around_end f fit) g on h = record { ground = g; on = tt; low = tt }
  frame_inside (around_instance {seat = seat} done k e f r x y p q) g on h =
      let i = code_ground K seat.code k proper q in record { ground = i.ground; on = i.on; low = (omega arith, tt) }
  frame_inside (around_part {sc = sc} {s = s} b o) g on h =
      let i = part_ground s b g o on in
      record { ground = i.ground; on = i.on; low = below_more (out-KBlock b).node ((out-KBlock b).node + 1) (part_scope K sc s.node (out-KStmt s.stmt)).aims (omega arith) (part_low sc s (out-KStmt s.stmt) b g refl o on h) }
  frame_inside (around_turn {sc = sc} {s = s} k b e q) g on h =
      let i = inner_ground s (KStmt-F.Loop k b) g e on in record { ground = i.ground; on = i.on; low = turn_low sc s k b g e on h }
  frame_inside (around_call c es f t k e q) g on h = let i = code_ground K c k proper q in record { ground = i.ground; on = i.on; low = (omega arith, tt) }
  frame_inside (around_branch {sc = sc} {s = s} k slot bs b cs e x y) g on h =
      let i = inner_ground s (KStmt-F.Par k slot (bs ++ b ∷ cs)) g e on in
      let j = branch_ground bs b cs i.ground i.on in
      let p = own_first s g on in let q = (block_first b j.ground j.on).0 in let u = i.node_before in let v = j.inner.first in
      record { ground = j.ground; on = j.on; low = below_more s.node ((out-KBlock b).node + 1) sc.aims (omega (arith, p, q, u, v)) h }

  around_inside : {t : ℕ} {f : Focus Act} {d e : Part} → Around K t Act f d e → (g : Ground) → On d g → Low d → Inside e
  around_inside nothing_around g on h = record { ground = g; on = on; low = h }
  around_inside (one_around a more) g on h = let i = frame_inside a g on h in around_inside more i.ground i.on i.low

  pub apart : {t : ℕ} {f : Focus Act} (sc : Scope) (s : KNode) (b : KBlock) → Around K t Act f (program_part K) (AStatement sc s) → opens_part (out-KStmt s.stmt) b → aimed (out-KBlock b).node (part_scope K sc s.node (out-KStmt s.stmt)).aims ≡ false
  apart sc s b a o =
      let i = around_inside a _ (program_ground K proper) (omega arith, tt) in
      below_aimed (out-KBlock b).node (part_scope K sc s.node (out-KStmt s.stmt)).aims (part_low sc s (out-KStmt s.stmt) b i.ground refl o i.on i.low)
