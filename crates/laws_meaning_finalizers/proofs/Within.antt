-- A part that is aborted, with what is left inside: where that reads no variable without a value, neither does the whole.
use Rattle.std.proofs.Common.{◌≡◌, refl, sym, subst, ◌≤◌, ℕ, ◌+◌, Bool, true, false, List, [], ◌∷◌, ◌++◌, Option, Some, None, arith}
use Rattle.ceu_tree.specs.declared.kernel.Kernel.{Kernel}
use Rattle.ceu_tree.specs.declared.kernel.KCode.{KCode}
use Rattle.ceu_tree.specs.declared.kernel.KBlock.{KBlock, out-KBlock}
use Rattle.ceu_tree.specs.declared.kernel.KStmt.TheOpen.{KStmt-F}
use Rattle.ceu_tree.specs.Residual.{Body, Spawned, Seat, Residual, Branches, branch, Instances, instance}
use Rattle.ceu_tree.specs.Focus.{Frame, OfBlock, OfInstance, OfOpen, OfLoop, OfCall, OfPar, join, join_instances, fill, body_in}
use Rattle.ceu_tree.specs.World.{World, dead}
use Rattle.ceu_tree.specs.Abort.{aborted, branches_aborted, instances_aborted}
use Rattle.ceu_tree.specs.Leaf.{code_at}
use Rattle.ceu_tree.specs.Legal.{Seated, before, is_set}
use Rattle.ceu_tree.specs.Proper.{Scope, is_proper}
use Rattle.laws_meaning_basics.specs.Shape.{Part, AStatement, FrameFits, around_statement, around_end, around_instance, around_part, around_turn, around_call, around_branch}
use Rattle.laws_meaning_basics.proofs.Static.{names_of, each_fine}
use Rattle.laws_meaning_basics.proofs.UpFits.{Sound, layer_of, list_sound}
use Rattle.laws_meaning_values.specs.Ground.{has}
use Rattle.laws_meaning_values.specs.Ready.{declares}
use Rattle.laws_meaning_values.proofs.Positions.{before_at}
use Rattle.laws_meaning_slots.proofs.Seats.{frame_seats}
use Rattle.laws_meaning_slots.proofs.Aborts.{instances_joined}
use Rattle.laws_meaning_counters.proofs.Grips.{point}
use Rattle.laws_meaning_assigned.specs.Needed.{block_asks, asked, given_needed, needed_each, needed_all, frame_needed}
use Rattle.laws_meaning_assigned.proofs.Grips.{given_grip, grip, grip_each, grip_all, frame_grip}
use Rattle.laws_meaning_assigned.proofs.Places.{declared_held}
use Rattle.laws_meaning_assigned.proofs.Settled.{asked_zero, each_unneeded, all_unneeded}
use Rattle.laws_meaning_assigned.proofs.Aborts.{body_spared, aborted_spared, each_spared, all_spared}
use Rattle.laws_meaning_finalizers.specs.Closing.{aborted_reads, branches_read, instances_read}
use Rattle.laws_meaning_finalizers.proofs.Registered.{SetBefore, set_before}
use Rattle.laws_meaning_finalizers.proofs.Envs.{SeatSet, Env, low_kept, env_kept, env_list, env_end, each_named, envs_kept}
use Rattle.laws_meaning_finalizers.proofs.Frames.{joined_read, branches_join, end_front, list_end, inner_hold, Names, env_branch, envs_front, envs_back, back_of, frame_env}
use Rattle.laws_meaning_finalizers.proofs.Trees.{Most, Has, Spares, with_decls, block_fine, done_has, code_env, still_has, tree_fine, branches_fine, all_fine}

-- ---- a frame that is aborted, with what is left inside

module _ (K : Kernel) (proper : is_proper K ≡ true) (root : Residual) where
  abbrev P : Seated → Type 0
  P = SeatSet K proper root

  given_unneeded : (b : Body) (x : ℕ) (to : Body) (code : Option KCode) → point b x to + given_grip K.codes b x to code ≤ 2 → given_needed K.codes b x to code ≡ 0
  given_unneeded b x to None l = refl
  given_unneeded b x to (Some k) l = asked_zero K b x to (declares x k.params) (λ e d. (let a = declared_held K proper b x to k.params (point b x to) (omega arith) e d in absurd (omega (arith, a, l))))

  pub each_parts : (sc : Scope) (bs : List KBlock) (c : KBlock) (cs : List KBlock) → each_fine K (names_of K) sc (bs ++ c ∷ cs) → each_fine K (names_of K) sc bs × each_fine K (names_of K) sc cs
  each_parts sc [] c cs h = (tt, h.1)
  each_parts sc (b ∷ bs) c cs h = let a = each_parts sc bs c cs h.1 in ((h.0, a.0), a.1)

  -- at the end of a block each of its statements is done
  pub ended_has : (c : KBlock) (here : Body) (w : World) → Has K proper root (λ b x. asked K.codes b x here (block_asks c (before (out-KBlock c).list []) x)) w → SetBefore c here w (out-KBlock c).list
  ended_has c here w h front q back e x d i =
      done_has K proper root c (before (out-KBlock c).list []) [] (before (out-KBlock c).list []) here w refl h x d (subst (λ l. is_set (before l []) x ≡ true) (sym e) (end_front x front q back i))

  among_spared : (b : Body) (x : ℕ) (front : Instances) (seat : Seat) (q : Residual) (back : Instances) (w : World) → grip_all K.codes b x front ≡ 0
      → (has b x w ≡ true → has b x (dead seat.number (aborted q (Spawned seat.number) (instances_aborted back w))) ≡ true) → has b x w ≡ true → has b x (instances_aborted (join_instances front (instance seat q back)) w) ≡ true
  unfolding aborted
  among_spared b x front seat q back w l keep h =
      subst (λ u. has b x u ≡ true) (sym (instances_joined front (instance seat q back) w)) (all_spared K.codes b x front (dead seat.number (aborted q (Spawned seat.number) (instances_aborted back w))) l (keep h))

  among_read : (front : Instances) (seat : Seat) (q : Residual) (back : Instances) (w : World) → instances_read back w → aborted_reads q (Spawned seat.number) (instances_aborted back w)
      → instances_read front (dead seat.number (aborted q (Spawned seat.number) (instances_aborted back w))) → instances_read (join_instances front (instance seat q back)) w
  unfolding aborted aborted_reads
  among_read front seat q back w h k l = joined_read front (instance seat q back) w (h, k) l

  pub beside_read : (front : Branches) (q : Residual) (back : Branches) (body : Body) (w : World) → branches_read back body w → aborted_reads q body (branches_aborted back body w)
      → branches_read front body (aborted q body (branches_aborted back body w)) → branches_read (join front (branch q back)) body w
  unfolding aborted aborted_reads
  beside_read front q back body w h k l = branches_join front (branch q back) body w (h, k) l

  module _ {t : ℕ} (here : Body) (o : Body → ℕ → ℕ) (first : Bool) (q : Residual) (need m : Body → ℕ → ℕ) where
    pub frame_abort : {fr : Frame} {d c : Part} → FrameFits K t fr d c → Sound K proper d → Names K proper root fr d c → (w : World) → Env K proper root d here o w → Most K proper root o (λ b x. frame_grip K.codes b x here fr + m b x)
        → Has K proper root (λ b x. frame_needed K.codes b x first here fr) w → frame_seats P fr here → Has K proper root need w → ((b : Body) (x : ℕ) → inner_hold K proper root fr here o b x + m b x ≤ 2 → need b x ≡ 0)
        → ((u : World) → (first ≡ false → Env K proper root c (body_in fr here) (inner_hold K proper root fr here o) u) → Has K proper root need u → aborted_reads q (body_in fr here) u)
        → ((u : World) → Spares K proper root m u (aborted q (body_in fr here) u)) → aborted_reads (fill fr q) here w
    unfolding aborted_reads
    frame_abort {fr = OfBlock b fin all rest} (around_statement {turn = turn} {sc = sc} {s = s} done e f fit) ok n w v l h st hq un inside spares =
        let p = with_decls K proper root here b o in
        let w1 = aborted q here w in
        let env = frame_env K proper root (around_statement {turn = turn} {sc = sc} {s = s} done e f fit) ok false here o w v h refl in
        let others = all_fine K proper root fit p w1 here (low_kept K proper root p w w1 (λ c x k. spares w c x (let a = l c x in omega (arith, a, k))) env.low) (λ c x. (let a = l c x in omega (arith, a)))
        (still_has K proper root (λ c x. needed_all K.codes c x all) (λ c x. grip_all K.codes c x all) m w w1 (λ c x. all_unneeded K proper c x fit) (λ c x. (let a = l c x in omega (arith, a))) (spares w) (λ c x k. h c x (omega (arith, k)))) (λ z. st) in
        let z = block_fine K proper root turn sc b fin all done (s ∷ rest) q here o (λ c x. grip_all K.codes c x all) m w e f ok n.in_code v
        (set_before b here w done (done_has K proper root b done rest (before (out-KBlock b).list rest) here w (before_at b done s rest e) (λ c x k. h c x (omega (arith, k))))) (λ c x. (let a = l c x in omega (arith, a)))
        (inside w (λ y. env) hq) (spares w) (λ c x k y. all_spared K.codes c x all w1 k y) others in
        (z.0, z.1.0, z.1.1)
    frame_abort {fr = OfBlock b fin all rest} (around_end {turn = turn} {sc = sc} f fit) ok n w v l h st hq un inside spares =
        let p = with_decls K proper root here b o in
        let w1 = aborted q here w in
        let env = env_end K proper root turn sc b here o p w (λ c x. omega arith) v in
        let others = all_fine K proper root fit p w1 here (low_kept K proper root p w w1 (λ c x k. spares w c x (let a = l c x in omega (arith, a, k))) env.low) (λ c x. (let a = l c x in omega (arith, a)))
        (still_has K proper root (λ c x. needed_all K.codes c x all) (λ c x. grip_all K.codes c x all) m w w1 (λ c x. all_unneeded K proper c x fit) (λ c x. (let a = l c x in omega (arith, a))) (spares w) (λ c x k. h c x (omega (arith, k)))) (λ z. st) in
        let z = block_fine K proper root turn sc b fin all (out-KBlock b).list [] q here o (λ c x. grip_all K.codes c x all) m w (list_end (out-KBlock b).list) f ok n.in_code v
        (ended_has b here w (λ c x k. h c x (omega (arith, k)))) (λ c x. (let a = l c x in omega (arith, a))) (inside w (λ y. env) hq) (spares w) (λ c x k y. all_spared K.codes c x all w1 k y) others in
        (z.0, z.1.0, z.1.1)
    frame_abort {fr = OfInstance b fin front seat back r rest} (around_instance {turn = turn} {sc = sc} {s = s} done k e f fit fits_front fits_back p0 at) ok n w v l h st hq un inside spares =
        let p = with_decls K proper root here b o in
        let to = Spawned seat.number in
        let code = code_at seat.code K.codes in
        let w1 = aborted r here w in
        let w2 = instances_aborted back w1 in
        let w3 = dead seat.number (aborted q to w2) in
        let env = env_list K proper root turn sc b done s rest here o p w e ok (λ c x. omega arith) (done_has K proper root b done rest (before (out-KBlock b).list rest) here w (before_at b done s rest e) (λ c x k. h c x (omega (arith, k)))) v in
        let spares1 : Spares K proper root (λ c x. grip K.codes c x here r) w w1 = λ c x k y. aborted_spared K.codes c x r here w k y in
        let spares2 : Spares K proper root (λ c x. grip K.codes c x here r + grip_all K.codes c x back) w w2 = λ c x k y. all_spared K.codes c x back w1 (omega (arith, k)) (spares1 c x (omega (arith, k)) y) in
        let spares3 : Spares K proper root (λ c x. grip K.codes c x here r + grip_all K.codes c x back + (point c x to + m c x)) w w3 = λ c x k y. body_spared K.codes c x to (aborted q to w2) (omega (arith, k)) (spares w2 c x (omega (arith, k)) (spares2 c x (omega (arith, k)) y)) in
        let running = tree_fine K proper root fit (list_sound K proper sc b done s rest ok e) here p w (n.running done s e) env (λ c x. (let a = l c x in omega (arith, a))) (λ c x k. h c x (omega (arith, k))) (λ z. st.3) in
        let behind = all_fine K proper root fits_back p w1 here (low_kept K proper root p w w1 (λ c x k. spares1 c x (let a = l c x in omega (arith, a, k))) env.low) (λ c x. (let a = l c x in omega (arith, a)))
        (still_has K proper root (λ c x. needed_all K.codes c x back) (λ c x. grip_all K.codes c x back) (λ c x. grip K.codes c x here r) w w1 (λ c x. all_unneeded K proper c x fits_back) (λ c x. (let a = l c x in omega (arith, a))) spares1 (λ c x k. h c x (omega (arith, k)))) (λ z. st.2) in
        let given : Has K proper root (λ c x. given_needed K.codes c x to code) w2 = still_has K proper root (λ c x. given_needed K.codes c x to code) (λ c x. point c x to + given_grip K.codes c x to code) (λ c x. grip K.codes c x here r + grip_all K.codes c x back) w w2
        (λ c x. given_unneeded c x to code) (λ c x. (let a = l c x in omega (arith, a))) spares2 (λ c x k. h c x (omega (arith, k))) in
        let low2 = low_kept K proper root p w w2 (λ c x k. spares2 c x (let a = l c x in omega (arith, a, k))) env.low in
        let own = inside w2 (λ y. code_env K proper root seat.code k to code p w2 at at low2 given)
        (still_has K proper root need (λ c x. inner_hold K proper root (OfInstance b fin front seat back r rest) here o c x + m c x) (λ c x. grip K.codes c x here r + grip_all K.codes c x back) w w2 un (λ c x. (let a = l c x in omega (arith, a))) spares2 hq) in
        let ahead = all_fine K proper root fits_front p w3 here (low_kept K proper root p w w3 (λ c x k. spares3 c x (let a = l c x in omega (arith, a, k))) env.low) (λ c x. (let a = l c x in omega (arith, a)))
        (still_has K proper root (λ c x. needed_all K.codes c x front) (λ c x. grip_all K.codes c x front) (λ c x. grip K.codes c x here r + grip_all K.codes c x back + (point c x to + m c x)) w w3 (λ c x. all_unneeded K proper c x fits_front) (λ c x. (let a = l c x in omega (arith, a))) spares3 (λ c x k. h c x (omega (arith, k)))) (λ z. st.0) in
        let z = block_fine K proper root turn sc b fin (join_instances front (instance seat q back)) done (s ∷ rest) r here o (λ c x. grip_all K.codes c x back + (point c x to + m c x) + grip_all K.codes c x front) (λ c x. grip K.codes c x here r) w e f ok n.in_code v
        (set_before b here w done (done_has K proper root b done rest (before (out-KBlock b).list rest) here w (before_at b done s rest e) (λ c x k. h c x (omega (arith, k))))) (λ c x. (let a = l c x in omega (arith, a)))
        running spares1
        (λ c x k y. among_spared c x front seat q back w1 (omega (arith, k)) (λ g. body_spared K.codes c x to (aborted q to w2) (omega (arith, k)) (spares w2 c x (omega (arith, k)) (all_spared K.codes c x back w1 (omega (arith, k)) g))) y)
        (among_read front seat q back w1 behind own ahead) in
        (z.0, z.1.0, z.1.1)
    frame_abort {fr = OfOpen s} (around_part c z) ok n w v l h st hq un inside spares = inside w (λ y. frame_env K proper root {t = t} (around_part c z) ok false here o w v h refl) hq
    frame_abort {fr = OfLoop s j} (around_turn k c e z) ok n w v l h st hq un inside spares = inside w (λ y. frame_env K proper root {t = t} (around_turn k c e z) ok first here o w v h y) hq
    frame_abort {fr = OfCall s} (around_call c es g y k e z) ok n w v l h st hq un inside spares = inside w (λ u. frame_env K proper root {t = t} (around_call c es g y k e z) ok false here o w v h refl) hq
    frame_abort {fr = OfPar s front back} (around_branch {sc = sc} k slot bs c cs e y z) ok n w v l h st hq un inside spares =
        let fine = each_parts sc bs c cs (layer_of K proper sc s (KStmt-F.Par k slot (bs ++ c ∷ cs)) e ok).1 in
        let w1 = branches_aborted back here w in
        let w2 = aborted q here w1 in
        let spares1 : Spares K proper root (λ b x. grip_each K.codes b x here back) w w1 = λ b x i j. each_spared K.codes b x back here w i j in
        let spares2 : Spares K proper root (λ b x. grip_each K.codes b x here back + m b x) w w2 = λ b x i j. spares w1 b x (omega (arith, i)) (spares1 b x (omega (arith, i)) j) in
        let after = envs_back K proper root sc s k slot bs c cs here o w e v in
        let before = envs_front K proper root sc s k slot bs c cs here o w e v in
        let behind = branches_fine K proper root z fine.1 here o w (each_named K proper root sc s k slot (bs ++ c ∷ cs) e (bs ++ c ∷ []) cs [] (back_of K proper root bs c cs) n.running) after (λ b x. (let a = l b x in omega (arith, a))) (λ b x i. h b x (omega (arith, i))) (λ i. st.1) in
        let own = inside w1 (λ i. env_branch K proper root sc s k slot bs c cs here o w1 e (env_kept K proper root (AStatement sc s) here o w w1 (λ b x i j. spares1 b x (let a = l b x in omega (arith, a, i)) j) v))
        (still_has K proper root need (λ b x. o b x + m b x) (λ b x. grip_each K.codes b x here back) w w1 un (λ b x. (let a = l b x in omega (arith, a))) spares1 hq) in
        let ahead = branches_fine K proper root y fine.0 here o w2 (each_named K proper root sc s k slot (bs ++ c ∷ cs) e [] bs (c ∷ cs) refl n.running) (envs_kept K proper root sc bs here o w w2 (λ b x i j. spares2 b x (let a = l b x in omega (arith, a, i)) j) before) (λ b x. (let a = l b x in omega (arith, a)))
        (still_has K proper root (λ b x. needed_each K.codes b x here front) (λ b x. o b x + grip_each K.codes b x here front) (λ b x. grip_each K.codes b x here back + m b x) w w2 (λ b x. each_unneeded K proper b x y fine.0 here before.ground (o b x) before.on (before.known b x)) (λ b x. (let a = l b x in omega (arith, a))) spares2 (λ b x i. h b x (omega (arith, i)))) (λ i. st.0) in
        beside_read front q back here w behind own ahead
