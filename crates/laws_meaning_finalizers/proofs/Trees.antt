-- An abortion of a part that may name what it names, each slot of which that is needed has a value, reads no variable without a value.
use Rattle.std.proofs.Common.{◌≡◌, refl, sym, ap, ◌∙◌, subst, ◌≤◌, ◌<◌, ℕ, suc, ◌+◌, Bool, true, false, not, if◌then◌else◌, ◌==◌, ◌&&◌, ◌||◌, ◌⊎◌, inl, inr, List, [], ◌∷◌, ◌++◌, Option, Some, None, arith, eqb-true}
use Rattle.std.specs.List.{list_all}
use Rattle.std.proofs.lemmas.Bool.{and_parts, and_from, cases_lt, false≢true}
use Rattle.ceu_tree.specs.declared.kernel.Kernel.{Kernel}
use Rattle.ceu_tree.specs.declared.kernel.KCode.{KCode}
use Rattle.ceu_tree.specs.declared.kernel.KLoop.{KLoop}
use Rattle.ceu_tree.specs.declared.kernel.KLoop.TheVariants as turns
use Rattle.ceu_tree.specs.declared.kernel.ParKind.{ParKind}
use Rattle.ceu_tree.specs.declared.kernel.KNode.{KNode}
use Rattle.ceu_tree.specs.declared.kernel.KBlock.{KBlock, out-KBlock}
use Rattle.ceu_tree.specs.declared.kernel.KStmt as kernel
use Rattle.ceu_tree.specs.declared.kernel.KStmt.{KStmt, out-KStmt}
use Rattle.ceu_tree.specs.declared.kernel.KStmt.TheOpen.{KStmt-F}
use Rattle.ceu_tree.specs.Residual.{Body, Awaited, Spawned, Residual, Branches, Instances}
use Rattle.ceu_tree.specs.World.{World}
use Rattle.ceu_tree.specs.Abort.{aborted, branches_aborted, instances_aborted}
use Rattle.ceu_tree.specs.Leaf.{Layer, code_at}
use Rattle.ceu_tree.specs.Legal.{is_set, is_program_variable, program_done, called_code, before, finalizers_of}
use Rattle.ceu_tree.specs.Mentions.{body_target, named_by, outer_names_from, count_of}
use Rattle.ceu_tree.specs.Proper.{Scope, is_trail, is_pool_of, alias_takes, find, stmt_ok, is_proper}
use Rattle.laws_meaning_basics.specs.Shape.{Part, ABlock, part_scope, turn_scope, code_part, in_trail, Fits, to_begin, to_turn, in_list, to_finish, at_input, at_time, at_event, at_forever, at_async, in_part, in_turn, in_call, in_par, EachFits, no_more, an_ended, a_branch, AllFit, none_lives, one_lives}
use Rattle.laws_meaning_basics.proofs.Static.{BlockOk, names_of, each_fine, code_static}
use Rattle.laws_meaning_basics.proofs.UpFits.{Sound, layer_of, list_sound, part_sound}
use Rattle.laws_meaning_values.specs.Ground.{has}
use Rattle.laws_meaning_values.specs.Needed.{some_done, turn_needs}
use Rattle.laws_meaning_values.specs.Ready.{declares}
use Rattle.laws_meaning_values.proofs.Counts.{halves, blocks_slots_all, blocks_nodes_all}
use Rattle.laws_meaning_values.proofs.Grounds.{inner_ground}
use Rattle.laws_meaning_values.proofs.Positions.{before_at}
use Rattle.laws_meaning_values.proofs.Stores.{same_self, or_left}
use Rattle.ceu_tree.specs.Numbering.{block_slots, block_nodes}
use Rattle.laws_meaning_slots.proofs.Seats.{each_seat, branches_seats, all_seats}
use Rattle.laws_meaning_counters.proofs.Grips.{point, own}
use Rattle.laws_meaning_assigned.specs.Needed.{own_target, block_asks, asked, given_needed, needed, needed_each, needed_all}
use Rattle.laws_meaning_assigned.specs.Outer.{layer_code}
use Rattle.laws_meaning_assigned.proofs.Grips.{slots_grip, given_grip, grip, grip_each, grip_all}
use Rattle.laws_meaning_assigned.proofs.Namings.{table, code_names}
use Rattle.laws_meaning_assigned.proofs.Places.{left_of, declared_held, known_inner}
use Rattle.laws_meaning_assigned.proofs.Settled.{asked_yes, unneeded, all_unneeded}
use Rattle.laws_meaning_assigned.proofs.Aborts.{aborted_spared, each_spared, all_spared}
use Rattle.laws_meaning_finalizers.specs.Closing.{aborted_reads, branches_read, instances_read, finalized_reads, closed_reads}
use Rattle.laws_meaning_finalizers.proofs.Registered.{SetBefore, set_before, registered_reads}
use Rattle.laws_meaning_finalizers.proofs.Envs.{SeatSet, Named, NamedInCode, named_list, named_part, named_turn, named_async, named_call, held, Low, Env, Keeps, low_kept, low_more, env_kept, env_list, env_part, env_turn, env_async, env_code, EachNamed, Envs, each_ready, each_named, envs_kept}
use denote.Hole.Carrier

counted_holds : (f : ℕ → Bool) (x : ℕ) (ys : List ℕ) → list_all f ys ≡ true → 1 ≤ count_of x ys → f x ≡ true
counted_holds f x [] h l = absurd (omega (arith, l))
counted_holds f x (y ∷ ys) h l = go (y == x) refl l (counted_holds f x ys a.1)
  where
    a : (f y ≡ true) × (list_all f ys ≡ true)
    a = and_parts (f y) (list_all f ys) h

    go : (t : Bool) → (y == x) ≡ t → 1 ≤ (if t then suc (count_of x ys) else count_of x ys) → (1 ≤ count_of x ys → f x ≡ true) → f x ≡ true
    go true e k ih = subst (λ z. f z ≡ true) (eqb-true y x e) a.0
    go false e k ih = ih k

module _ (K : Kernel) (proper : is_proper K ≡ true) (root : Residual) where
  -- what a part has to have hold of at most, where something around it has so much
  abbrev pub Most : (Body → ℕ → ℕ) → (Body → ℕ → ℕ) → Type 0
  Most o p = (b : Body) (x : ℕ) → o b x + p b x ≤ 3

  abbrev pub Has : (Body → ℕ → ℕ) → World → Type 0
  Has n w = (b : Body) (x : ℕ) → 1 ≤ n b x → has b x w ≡ true

  -- what has nothing to do with so many holds, keeps its value
  abbrev pub Spares : (Body → ℕ → ℕ) → World → World → Type 0
  Spares p w u = (b : Body) (x : ℕ) → p b x ≡ 0 → has b x w ≡ true → has b x u ≡ true

  -- ---- the end of a block, of which those statements are done

  abbrev pub with_decls : Body → KBlock → (Body → ℕ → ℕ) → Body → ℕ → ℕ
  with_decls here c o b x = o b x + slots_grip K.codes b x here (out-KBlock c).decls

  pub closed_fine : (turn : Bool) (sc : Scope) (c : KBlock) (fin : List KNode) (all : Instances) (done rest : List KNode) (here : Body) (o p : Body → ℕ → ℕ) (w : World) → (out-KBlock c).list ≡ done ++ rest → fin ≡ finalizers_of [] done
      → BlockOk K (names_of K) sc c → NamedInCode K proper root (ABlock turn sc c) → Env K proper root (ABlock turn sc c) here o w → SetBefore c here w done
      → Most (with_decls here c o) p → Spares p w (instances_aborted all w) → instances_read all w → closed_reads fin all here w
  closed_fine turn sc c fin all done rest here o p w e f ok code v need most spares reads =
      (reads, subst (λ l. finalized_reads l here u) (sym f) (registered_reads K proper turn sc c here (table K sc.code) u ok after.ready done rest e (λ front q back g x d i. keep here x (declared_held K proper here x here (out-KBlock c).decls (o here x) ((v.known here x).room) (same_self here) d) (need front q back g x d i)) (λ x q z m. (after.low x q (code z x q m)).1)))
    where
      u : World
      u = instances_aborted all w

      keep : Keeps K proper root (with_decls here c o) w u
      keep b x l h = spares b x (let a = most b x in omega (arith, a, l)) h

      after : Env K proper root (ABlock turn sc c) here o u
      after = env_kept K proper root (ABlock turn sc c) here o w u keep v

  -- ---- a block that is aborted

  pub block_fine : (turn : Bool) (sc : Scope) (c : KBlock) (fin : List KNode) (all : Instances) (done rest : List KNode) (q : Residual) (here : Body) (o p m : Body → ℕ → ℕ) (w : World) → (out-KBlock c).list ≡ done ++ rest → fin ≡ finalizers_of [] done
      → BlockOk K (names_of K) sc c → NamedInCode K proper root (ABlock turn sc c) → Env K proper root (ABlock turn sc c) here o w → SetBefore c here w done
      → Most (with_decls here c o) (λ b x. m b x + p b x) → aborted_reads q here w → Spares m w (aborted q here w) → Spares p (aborted q here w) (instances_aborted all (aborted q here w)) → instances_read all (aborted q here w)
      → aborted_reads q here w × closed_reads fin all here (aborted q here w)
  block_fine turn sc c fin all done rest q here o p m w e f ok code v need most inside spares others reads = (
    inside,
    closed_fine turn sc c fin all done rest here o p u e f ok code (env_kept K proper root (ABlock turn sc c) here o w u keep v)
        (λ front q back g x d i. keep here x (declared_held K proper here x here (out-KBlock c).decls (o here x) ((v.known here x).room) (same_self here) d) (need front q back g x d i))
        (λ b x. (let a = most b x in omega (arith, a))) others reads,
  )
    where
      u : World
      u = aborted q here w

      keep : Keeps K proper root (with_decls here c o) w u
      keep b x l h = spares b x (let a = most b x in omega (arith, a, l)) h

  -- the statements that are done have set what they set
  pub done_has : (c : KBlock) (done rest : List KNode) (before : List KNode) (here : Body) (w : World) → before ≡ done → Has (λ b x. asked K.codes b x here (block_asks c before x)) w → (x : ℕ) → declares x (out-KBlock c).decls ≡ true → is_set done x ≡ true → has here x w ≡ true
  done_has c done rest before here w e h x d i =
      h here x
      (subst (λ l. 1 ≤ asked K.codes here x here (block_asks c l x)) (sym e)
      (let a = asked_yes K here x here (block_asks c done x) (same_self here) (or_left (declares x (out-KBlock c).decls && is_set done x) (own_target x (body_target c) && some_done done) (and_from (declares x (out-KBlock c).decls) (is_set done x) d i)) in a))

  -- ---- code that is awaited or spawned

  abbrev pub with_code : Body → Option KCode → (Body → ℕ → ℕ) → Body → ℕ → ℕ
  with_code to code o b x = o b x + (point b x to + given_grip K.codes b x to code)

  pub code_env : (c : ℕ) (k : KCode) (to : Body) (code : Option KCode) (o : Body → ℕ → ℕ) (w : World) → code_at c K.codes ≡ Some k → code ≡ Some k → Low K proper root o w → Has (λ b x. given_needed K.codes b x to code) w
      → Env K proper root (code_part K c k) to (with_code to code o) w
  code_env c k to code o w e q low h =
      env_code K proper root c k to (with_code to code o) w e (λ b x. (let z = ap (given_grip K.codes b x to) q in omega (arith, z)))
      (λ x d. h to x (let a = asked_yes K to x to (declares x k.params) (same_self to) d in let z = ap (given_needed K.codes to x to) q in omega (arith, a, z))) (low_more K proper root o (with_code to code o) w (λ x. omega arith) low)

  pub code_named : (c : ℕ) (k : KCode) → code_at c K.codes ≡ Some k → list_all (λ slot. not (is_program_variable slot (out-KBlock K.body).decls) || is_set (program_done K.body root) slot) (named_by c (outer_names_from [] K.codes)) ≡ true → Named K proper root (code_part K c k)
  code_named c k e h = λ x v m. chosen x (is_program_variable x (out-KBlock K.body).decls) v (counted_holds (λ slot. not (is_program_variable slot (out-KBlock K.body).decls) || is_set (program_done K.body root) slot) x (named_by c (outer_names_from [] K.codes)) h (let z = ap (count_of x) (code_names K c k e) in omega (arith, z, m)))
    where
      chosen : (x : ℕ) (t : Bool) → t ≡ true → (not t || is_set (program_done K.body root) x) ≡ true → is_set (program_done K.body root) x ≡ true
      chosen x true e q = q
      chosen x false e q = absurd (false≢true e)

  part_trail : (sc : Scope) (n : ℕ) (layer : Layer) → is_trail (part_scope K sc n layer).place ≡ true → is_trail sc.place ≡ true
  part_trail sc n (KStmt-F.Do t c) h = h
  part_trail sc n layer h = h

  turn_trail : (sc : Scope) (n : ℕ) (l : KLoop) → is_trail (turn_scope K sc n l).place ≡ true → is_trail sc.place ≡ true
  turn_trail sc n turns.Free h = h
  turn_trail sc n (turns.Times slot m) h = h
  turn_trail sc n (turns.Range i next end open_a y z open_b) h = h

  code_trail : (sc : Scope) (n : ℕ) (st : KStmt) (c : ℕ) → stmt_ok K (names_of K) sc n st ≡ true → layer_code (out-KStmt st) ≡ Some c → is_trail sc.place ≡ true
  unfolding stmt_ok out-KStmt Carrier.out
  code_trail sc n (kernel.AwaitCode d es f t) c h e = left_of (is_trail sc.place) _ h
  code_trail sc n (kernel.Spawn d es p a) c h e = left_of (is_trail sc.place) _ (left_of _ (is_pool_of d (find p sc.seen)) (left_of _ (elim a [ None ↦ true | Some y ↦ alias_takes d p (find y sc.seen) ]) h))
  code_trail sc n st c h e = absurd (cc)

  pub nil_end : (bs : List KBlock) → bs ≡ bs ++ []
  nil_end [] = refl
  nil_end (c ∷ cs) = ap (λ l. c ∷ l) (nil_end cs)

  -- those that are needed, where what needs them is held by nothing that is aborted before
  pub still_has : (need grips p : Body → ℕ → ℕ) (w u : World) → ((b : Body) (x : ℕ) → grips b x ≤ 2 → need b x ≡ 0) → ((b : Body) (x : ℕ) → grips b x + p b x ≤ 3) → Spares p w u → Has need w → Has need u
  still_has need grips p w u un most spares h b x l = go (cases_lt 2 (grips b x))
    where
      go : (2 < grips b x) ⊎ (grips b x ≤ 2) → has b x u ≡ true
      go (inl q) = spares b x (let a = most b x in omega (arith, a, q)) (h b x l)
      go (inr q) = absurd (let z = un b x q in omega (arith, z, l))

  mutual
    unfolding aborted_reads grip needed each_seat

    pub tree_fine : {t : ℕ} {d : Part} {r : Residual} → Fits K t d r → Sound K proper d → (here : Body) (o : Body → ℕ → ℕ) (w : World) → Named K proper root d → Env K proper root d here o w → Most o (λ b x. grip K.codes b x here r)
        → Has (λ b x. needed K.codes b x here r) w → (in_trail d → each_seat (SeatSet K proper root) r here) → aborted_reads r here w
    tree_fine (to_begin l) ok here o w n v m h st = tt
    tree_fine (to_turn l p) ok here o w n v m h st = tt
    tree_fine (in_list {turn = turn} {sc = sc} {b = c} {fin = fin} {rest = rest} {all = all} {r = r} {s = s} done e f fit more) ok here o w n v m h st =
        let p = with_decls here c o in
        let w1 = aborted r here w in
        let need = done_has c done rest (before (out-KBlock c).list rest) here w (before_at c done s rest e) (λ b x l. h b x (omega (arith, l))) in
        let env = env_list K proper root turn sc c done s rest here o p w e ok (λ b x. omega arith) need v in
        let spares : Spares (λ b x. grip K.codes b x here r) w w1 = λ b x l k. aborted_spared K.codes b x r here w l k in
        let inside = tree_fine more (list_sound K proper sc c done s rest ok e) here p w (named_list K proper root turn sc c done s rest e n) env (λ b x. (let a = m b x in omega (arith, a))) (λ b x l. h b x (omega (arith, l))) (λ z. (st z).1) in
        let others = all_fine fit p w1 here (low_kept K proper root p w w1 (λ b x l k. spares b x (let a = m b x in omega (arith, a, l)) k) env.low) (λ b x. (let a = m b x in omega (arith, a)))
        (still_has (λ b x. needed_all K.codes b x all) (λ b x. grip_all K.codes b x all) (λ b x. grip K.codes b x here r) w w1 (λ b x l. all_unneeded K proper b x fit l) (λ b x. (let a = m b x in omega (arith, a))) spares (λ b x l. h b x (omega (arith, l)))) (λ z. (st z).0) in
        let z = block_fine turn sc c fin all done (s ∷ rest) r here o (λ b x. grip_all K.codes b x all) (λ b x. grip K.codes b x here r) w e f ok (λ q. n) v (set_before c here w done need) (λ b x. (let a = m b x in omega (arith, a))) inside spares (λ b x l k. all_spared K.codes b x all w1 l k) others in
        (z.0, z.1.0, z.1.1)
    tree_fine (to_finish l p) ok here o w n v m h st = tt
    tree_fine (at_input p e) ok here o w n v m h st = tt
    tree_fine (at_time p u y e) ok here o w n v m h st = tt
    tree_fine (at_event p e) ok here o w n v m h st = tt
    tree_fine (at_forever e) ok here o w n v m h st = tt
    tree_fine (at_async {sc = sc} {s = s} c e more) ok here o w n v m h st =
        tree_fine more (layer_of K proper sc s (KStmt-F.Async c) e ok).1 here o w (named_async K proper root sc s c e n) (env_async K proper root sc s c here o w e v) m (λ b x l. h b x (omega (arith, l))) (λ z. absurd (false≢true z))
    tree_fine (in_part {sc = sc} {s = s} c q more) ok here o w n v m h st =
        tree_fine more (part_sound K proper sc s.node (out-KStmt s.stmt) c (layer_of K proper sc s (out-KStmt s.stmt) refl ok) q) here o w (named_part K proper root sc s c q n) (env_part K proper root sc s c here o w q v) m h (λ z. st (part_trail sc s.node (out-KStmt s.stmt) z))
    tree_fine (in_turn {sc = sc} {s = s} l c e q more) ok here o w n v m h st =
        tree_fine more (layer_of K proper sc s (KStmt-F.Loop l c) e ok) here (λ b x. o b x + own b x here (out-KStmt s.stmt)) w (named_turn K proper root sc s l c e n)
        (env_turn K proper root sc s l c here o (λ b x. o b x + own b x here (out-KStmt s.stmt)) w e (λ b x. omega arith) (λ x u. h here x (let a = asked_yes K here x here (turn_needs (out-KStmt s.stmt) x) (same_self here) (subst (λ y. turn_needs y x ≡ true) (sym e) u) in omega (arith, a))) v)
        (λ b x. (let a = m b x in omega (arith, a))) (λ b x l. h b x (omega (arith, l))) (λ z. st (turn_trail sc s.node l z))
    tree_fine (in_call {sc = sc} {s = s} c es f y k e q more) ok here o w n v m h st =
        let to = Awaited here s.node in
        let code = called_code K.codes (out-KStmt s.stmt) in
        tree_fine more (code_static K c k proper q) to (with_code to code o) w (named_call K proper root sc s c es f y k ok e q n) (code_env c k to code o w q (ap (called_code K.codes) e ∙ q) v.low (λ b x l. h b x (omega (arith, l))))
        (λ b x. (let a = m b x in omega (arith, a))) (λ b x l. h b x (omega (arith, l))) (λ z. st (code_trail sc s.node s.stmt c ok (ap layer_code e)))
    tree_fine (in_par {sc = sc} {s = s} k slot bs e q more) ok here o w n v m h st =
        let i = inner_ground s (KStmt-F.Par k slot bs) v.ground e v.on in
        branches_fine more (layer_of K proper sc s (KStmt-F.Par k slot bs) e ok).1 here o w (each_named K proper root sc s k slot bs e [] bs [] (nil_end bs) n)
        (record { ground = i.ground; on = i.on; known = λ b x. known_inner K proper b x sc i.ground v.ground here (o b x) i.inner (v.known b x); ready = each_ready K proper root sc s k slot bs e here w [] bs [] (nil_end bs) v.ready; low = v.low }) m h st

    pub branches_fine : {t : ℕ} {sc : Scope} {kind : ParKind} {bs : List KBlock} {rs : Branches} → EachFits K t sc kind bs rs → each_fine K (names_of K) sc bs → (here : Body) (o : Body → ℕ → ℕ) (w : World) → EachNamed K proper root sc bs → Envs K proper root sc bs here o w
        → Most o (λ b x. grip_each K.codes b x here rs) → Has (λ b x. needed_each K.codes b x here rs) w → (is_trail sc.place ≡ true → branches_seats (SeatSet K proper root) rs here) → branches_read rs here w
    branches_fine no_more ok here o w n v m h st = tt
    branches_fine (an_ended {sc = sc} {b = c} {bs = bs} p rest) ok here o w n v m h st =
        let i = halves (block_slots c) (blocks_slots_all bs) (block_nodes c) (blocks_nodes_all bs) v.ground v.on in (
          branches_fine rest ok.1 here o w n.1 (record { ground = i.right; on = i.on_right; known = λ b x. known_inner K proper b x sc i.right v.ground here (o b x) i.inner_right (v.known b x); ready = v.ready.1; low = v.low })
              (λ b x. (let a = m b x in omega (arith, a))) (λ b x l. h b x (omega (arith, l))) (λ z. (st z).1),
          tt,
        )
    branches_fine (a_branch {sc = sc} {b = c} {bs = bs} {r = r} {more = more} fit rest) ok here o w n v m h st =
        let i = halves (block_slots c) (blocks_slots_all bs) (block_nodes c) (blocks_nodes_all bs) v.ground v.on in
        let w1 = branches_aborted more here w in
        let spares : Spares (λ b x. grip_each K.codes b x here more) w w1 = λ b x l k. each_spared K.codes b x more here w l k in
        let u = envs_kept K proper root sc (c ∷ bs) here o w w1 (λ b x l k. spares b x (let a = m b x in omega (arith, a, l)) k) v in
        let kn = λ (b : Body) (x : ℕ). known_inner K proper b x sc i.left v.ground here (o b x) i.inner_left (v.known b x) in (
          branches_fine rest ok.1 here o w n.1 (record { ground = i.right; on = i.on_right; known = λ b x. known_inner K proper b x sc i.right v.ground here (o b x) i.inner_right (v.known b x); ready = v.ready.1; low = v.low })
              (λ b x. (let a = m b x in omega (arith, a))) (λ b x l. h b x (omega (arith, l))) (λ z. (st z).1),
          tree_fine fit ok.0 here o w1 n.0 (record { ground = i.left; on = i.on_left; known = kn; ready = u.ready.0; low = low_more K proper root o (held K proper root (ABlock false sc c) here o) w1 (λ x. omega arith) u.low })
              (λ b x. (let a = m b x in omega (arith, a)))
              (still_has (λ b x. needed K.codes b x here r) (λ b x. o b x + grip K.codes b x here r) (λ b x. grip_each K.codes b x here more) w w1 (λ b x l. unneeded K proper b x fit ok.0 here i.left (o b x) i.on_left (kn b x) l) (λ b x. (let a = m b x in omega (arith, a))) spares (λ b x l. h b x (omega (arith, l))))
              (λ z. (st z).0),
        )

    pub all_fine : {t : ℕ} {sc : Scope} {all : Instances} → AllFit K t sc all → (o : Body → ℕ → ℕ) (w : World) (here : Body) → Low K proper root o w → Most o (λ b x. grip_all K.codes b x all) → Has (λ b x. needed_all K.codes b x all) w
        → (is_trail sc.place ≡ true → all_seats (SeatSet K proper root) all here) → instances_read all w
    all_fine none_lives o w here low m h st = tt
    all_fine (one_lives {sc = sc} {seat = seat} {r = r} {more = more} k p e fit rest) o w here low m h st =
        let to = Spawned seat.number in
        let code = code_at seat.code K.codes in
        let w1 = instances_aborted more w in
        let spares : Spares (λ b x. grip_all K.codes b x more) w w1 = λ b x l j. all_spared K.codes b x more w l j in
        let h1 = still_has (λ b x. given_needed K.codes b x to code + needed K.codes b x to r) (λ b x. point b x to + given_grip K.codes b x to code + grip K.codes b x to r) (λ b x. grip_all K.codes b x more) w w1
        (λ b x l. (let a = all_unneeded K proper b x (one_lives {sc = sc} {seat = seat} k p e fit none_lives) (omega (arith, l)) in omega (arith, a))) (λ b x. (let a = m b x in omega (arith, a))) spares (λ b x l. h b x (omega (arith, l))) in (
          all_fine rest o w here low (λ b x. (let a = m b x in omega (arith, a))) (λ b x l. h b x (omega (arith, l))) (λ z. (st z).2),
          tree_fine fit (code_static K seat.code k proper e) to (with_code to code o) w1 (code_named seat.code k e (st p).0)
              (code_env seat.code k to code o w1 e e (low_kept K proper root o w w1 (λ b x l j. spares b x (let a = m b x in omega (arith, a, l)) j) low) (λ b x l. h1 b x (omega (arith, l))))
              (λ b x. (let a = m b x in omega (arith, a))) (λ b x l. h1 b x (omega (arith, l))) (λ z. (st p).1),
        )
