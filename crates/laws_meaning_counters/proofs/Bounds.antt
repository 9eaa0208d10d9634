-- In a proper kernel a part has hold of a slot at most as its ground and its instances let it: of the whole, an open body is open once, and one loop of it
-- counts in the slot.
use Rattle.std.proofs.Common.{◌≡◌, ◌≤◌, ℕ, ◌+◌, ◌*◌, true, List, ◌∷◌, ◌++◌, arith}
use Rattle.ceu_tree.specs.declared.kernel.Kernel.{Kernel}
use Rattle.ceu_tree.specs.declared.kernel.ParKind.{ParKind}
use Rattle.ceu_tree.specs.declared.kernel.KBlock.{KBlock}
use Rattle.ceu_tree.specs.declared.kernel.KStmt.TheOpen.{KStmt-F}
use Rattle.ceu_tree.specs.Residual.{Body, Awaited, Spawned, Residual, Branches, Instances}
use Rattle.ceu_tree.specs.Focus.{Frame, Focus, Here, In, body_in, body_of}
use Rattle.ceu_tree.specs.Numbering.{block_slots, block_nodes}
use Rattle.ceu_tree.specs.Proper.{Scope, is_proper}
use Rattle.laws_meaning_basics.specs.Shape.{Part, Fits, to_begin, to_turn, in_list, to_finish, at_input, at_time, at_event, at_forever, at_async, in_part, in_turn, in_call, in_par, EachFits, no_more, an_ended, a_branch, AllFit, none_lives, one_lives, FrameFits, around_statement, around_end, around_instance, around_part, around_turn, around_call, around_branch, Around, nothing_around, one_around}
use Rattle.laws_meaning_values.specs.Ground.{Ground, Numbered, On}
use Rattle.laws_meaning_values.proofs.Counts.{halves, Inner, blocks_slots_all, blocks_nodes_all}
use Rattle.laws_meaning_values.proofs.Grounds.{list_ground, inner_ground, own_node, part_ground, branch_ground, code_ground}
use Rattle.laws_meaning_instances.proofs.Living.{lives, live_branches, live_instances}
use Rattle.laws_meaning_instances.proofs.Trees.{live_frame, live_focus}
use Rattle.laws_meaning_counters.proofs.Grips.{grip, grip_each, grip_all, frame_grip, focus_grip}
use Rattle.laws_meaning_counters.proofs.Bodies.{root, cap, cap_inner, cap_halves, cap_call, cap_instance, cap_turn}

module _ (K : Kernel) (proper : is_proper K ≡ true) (b : Body) (x : ℕ) where
  mutual
    unfolding grip lives

    pub grip_within : {t : ℕ} {d : Part} {q : Residual} → Fits K t d q → (here : Body) (g : Ground) → On d g → grip b x here q ≤ cap b x here g + 3 * lives (root b) q
    grip_within (to_begin l) here g on = omega arith
    grip_within (to_turn l p) here g on = omega arith
    grip_within (in_list {b = c} {rest = rest} {all = all} {r = q} {s = s} done e f fit more) here g on =
        let i = list_ground c done s rest g e on in
        let a = all_within fit in
        let k = grip_within more here i.ground i.on in
        let m = cap_inner b x here i.ground g i.inner in
        omega (arith, a, k, m)
    grip_within (to_finish l p) here g on = omega arith
    grip_within (at_input q e) here g on = omega arith
    grip_within (at_time q u y e) here g on = omega arith
    grip_within (at_event q e) here g on = omega arith
    grip_within (at_forever e) here g on = omega arith
    grip_within (at_async {s = s} c e more) here g on =
        let i = inner_ground s (KStmt-F.Async c) g e on in
        let k = grip_within more here i.ground i.on in
        let m = cap_inner b x here i.ground g i.inner in
        omega (arith, k, m)
    grip_within (in_part {s = s} c o more) here g on =
        let i = part_ground s c g o on in
        let k = grip_within more here i.ground i.on in
        let m = cap_inner b x here i.ground g i.inner in
        omega (arith, k, m)
    grip_within (in_turn {s = s} k c e q more) here g on =
        let i = inner_ground s (KStmt-F.Loop k c) g e on in
        let a = grip_within more here i.ground i.on in
        let m = cap_turn b x here s k c g e on i in
        omega (arith, a, m)
    grip_within (in_call {s = s} c es f y k e q more) here g on =
        let i = code_ground K c k proper q in
        let n = own_node s g on in
        let a = grip_within more (Awaited here s.node) i.ground i.on in
        let m = cap_call b x here g i.ground s.node n.0 n.1 in
        omega (arith, a, m)
    grip_within (in_par {s = s} k slot bs e q more) here g on =
        let i = inner_ground s (KStmt-F.Par k slot bs) g e on in
        let a = each_within more here i.ground i.on in
        let m = cap_inner b x here i.ground g i.inner in
        omega (arith, a, m)

    pub each_within : {t : ℕ} {sc : Scope} {k : ParKind} {bs : List KBlock} {rs : Branches} → EachFits K t sc k bs rs → (here : Body) (g : Ground) → Numbered (blocks_slots_all bs) (blocks_nodes_all bs) g
        → grip_each b x here rs ≤ cap b x here g + 3 * live_branches (root b) rs
    each_within no_more here g on = omega arith
    each_within (an_ended {b = c} {bs = bs} m rest) here g on =
        let i = halves (block_slots c) (blocks_slots_all bs) (block_nodes c) (blocks_nodes_all bs) g on in
        let a = each_within rest here i.right i.on_right in
        let m = cap_inner b x here i.right g i.inner_right in
        omega (arith, a, m)
    each_within (a_branch {b = c} {bs = bs} fit rest) here g on =
        let i = halves (block_slots c) (blocks_slots_all bs) (block_nodes c) (blocks_nodes_all bs) g on in
        let a = grip_within fit here i.left i.on_left in
        let d = each_within rest here i.right i.on_right in
        let p = i.middle in
        let q = i.between in
        let m = cap_halves b x here i.left i.right g (omega (arith, p)) (omega (arith, q)) i.inner_left i.inner_right in
        omega (arith, a, d, m)

    pub all_within : {t : ℕ} {sc : Scope} {all : Instances} → AllFit K t sc all → grip_all b x all ≤ 3 * live_instances (root b) all
    all_within none_lives = omega arith
    all_within (one_lives {seat = seat} k p e fit rest) =
        let i = code_ground K seat.code k proper e in
        let a = grip_within fit (Spawned seat.number) i.ground i.on in
        let d = all_within rest in
        let m = cap_instance b x i.ground seat.number in
        omega (arith, a, d, m)

  -- three grounds, one after the other
  sized : {xs us : List ℕ} {g : Ground} → Numbered xs us g → (g.low ≤ g.high) × (g.first ≤ g.last)
  sized h = let a = h.slots_to in let c = h.nodes_to in (omega (arith, a), omega (arith, c))

  three : (here : Body) (l m n g : Ground) → (l.low ≤ l.high) × (l.first ≤ l.last) → (m.low ≤ m.high) × (m.first ≤ m.last) → l.high ≤ m.low → m.high ≤ n.low → l.last ≤ m.first → m.last ≤ n.first → Inner l g → Inner m g → Inner n g
      → cap b x here l + cap b x here m + cap b x here n ≤ cap b x here g
  three here l m n g ls ms p q u v li mi ni =
      let j : Ground = record { low = l.low; high = m.high; first = l.first; last = m.last } in
      let a = ls.0 in
      let c = ls.1 in
      let d = ms.0 in
      let e = ms.1 in
      let f = cap_halves b x here l m j p u (record { low = omega arith; high = omega (arith, p, d); first = omega arith; last = omega (arith, u, e) }) (record { low = omega (arith, a, p); high = omega arith; first = omega (arith, c, u); last = omega arith }) in
      let h = cap_halves b x here j n g q v (record { low = li.low; high = mi.high; first = li.first; last = mi.last }) ni in
      omega (arith, f, h)

  -- ---- the parts around a leaf, with what can be in the leaf's place

  pub record FrameCap (fr : Frame) (e : Part) (here : Body) (g : Ground) : Type 0 where
    pub ground : Ground
    pub on : On e ground
    pub bound : frame_grip b x here fr + cap b x (body_in fr here) ground ≤ cap b x here g + 3 * live_frame (root b) fr

  pub frame_within : {t : ℕ} {fr : Frame} {d e : Part} → FrameFits K t fr d e → (here : Body) (g : Ground) → On d g → FrameCap fr e here g
  frame_within (around_statement {b = c} {rest = rest} {s = s} done e f all) here g on =
      let i = list_ground c done s rest g e on in
      record { ground = i.ground; on = i.on; bound = (let a = all_within all in let m = cap_inner b x here i.ground g i.inner in omega (arith, a, m)) }
  frame_within (around_end f all) here g on = record { ground = g; on = tt; bound = (let a = all_within all in omega (arith, a)) }
  frame_within (around_instance {b = c} {rest = rest} {seat = seat} {s = s} done k e f fit front back p q) here g on =
      let i = list_ground c done s rest g e on in
      let j = code_ground K seat.code k proper q in
      record {
        ground = j.ground;
        on = j.on;
        bound = (let u = all_within front in let v = all_within back in let w = grip_within fit here i.ground i.on in let m = cap_inner b x here i.ground g i.inner in let n = cap_instance b x j.ground seat.number in omega (arith, u, v, w, m, n));
      }
  frame_within (around_part {s = s} c o) here g on =
      let i = part_ground s c g o on in
      record { ground = i.ground; on = i.on; bound = (let m = cap_inner b x here i.ground g i.inner in omega (arith, m)) }
  frame_within (around_turn {s = s} k c e q) here g on =
      let i = inner_ground s (KStmt-F.Loop k c) g e on in
      record { ground = i.ground; on = i.on; bound = (let m = cap_turn b x here s k c g e on i in omega (arith, m)) }
  frame_within (around_call {s = s} c es f y k e q) here g on =
      let i = code_ground K c k proper q in
      let n = own_node s g on in
      record { ground = i.ground; on = i.on; bound = (let m = cap_call b x here g i.ground s.node n.0 n.1 in omega (arith, m)) }
  frame_within (around_branch {s = s} k slot bs c cs e y z) here g on =
      let i = inner_ground s (KStmt-F.Par k slot (bs ++ c ∷ cs)) g e on in
      let j = branch_ground bs c cs i.ground i.on in
      let u = each_within y here j.before j.on_before in
      let v = each_within z here j.after j.on_after in
      let m = three here j.before j.ground j.after i.ground (sized j.on_before) (sized j.on) j.slots_before j.slots_after j.nodes_before j.nodes_after j.inner_before j.inner j.inner_after in
      let n = cap_inner b x here i.ground g i.inner in
      record { ground = j.ground; on = j.on; bound = omega (arith, u, v, m, n) }

  pub record AroundCap {A : Type 0} (f : Focus A) (e : Part) (here : Body) (g : Ground) : Type 0 where
    pub ground : Ground
    pub on : On e ground
    pub bound : focus_grip b x here f + cap b x (body_of f here) ground ≤ cap b x here g + 3 * live_focus (root b) f

  pub around_within : {A : Type 0} {t : ℕ} (f : Focus A) (d e : Part) → Around K t A f d e → (here : Body) (g : Ground) → On d g → AroundCap f e here g
  unfolding focus_grip live_focus
  around_within (Here a) d e nothing_around here g on = record { ground = g; on = on; bound = omega arith }
  around_within (In fr f) d e (one_around {e = c} a more) here g on =
      let i = frame_within a here g on in
      let j = around_within f c e more (body_in fr here) i.ground i.on in
      let u = i.bound in
      let v = j.bound in
      record { ground = j.ground; on = j.on; bound = omega (arith, u, v) }
