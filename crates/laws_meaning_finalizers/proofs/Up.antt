-- What the parts around a leaf close and abort reads no variable without a value.
use Rattle.std.proofs.Common.{◌≡◌, refl, sym, subst, ℕ, ◌+◌, Bool, true, false, ◌==◌, List, [], ◌∷◌, ◌++◌, arith}
use Rattle.ceu_tree.specs.declared.kernel.Kernel.{Kernel}
use Rattle.ceu_tree.specs.declared.kernel.ParKind.{ParKind}
use Rattle.ceu_tree.specs.declared.kernel.ParKind.TheVariants as par
use Rattle.ceu_tree.specs.declared.kernel.KNode.{KNode}
use Rattle.ceu_tree.specs.declared.kernel.KBlock.{KBlock, out-KBlock}
use Rattle.ceu_tree.specs.declared.kernel.KStmt.{out-KStmt}
use Rattle.ceu_tree.specs.declared.kernel.KStmt.TheOpen.{KStmt-F}
use Rattle.ceu_tree.specs.Residual.{Body, Act, Residual, Over, Branches, branch, Instances}
use Rattle.ceu_tree.specs.Focus.{Frame, OfBlock, OfOpen, OfLoop, OfPar, Focus, Here, In, join, fill, plug, body_in}
use Rattle.ceu_tree.specs.World.{World}
use Rattle.ceu_tree.specs.Abort.{aborted, branches_aborted}
use Rattle.ceu_tree.specs.Leaf.{Exit}
use Rattle.ceu_tree.specs.Around.{Outcome, AtBlockEnd, Ends, Leaves, kind_of, up}
use Rattle.ceu_tree.specs.Legal.{Seated, before}
use Rattle.ceu_tree.specs.Proper.{is_proper}
use Rattle.laws_meaning_basics.specs.Shape.{Part, FrameFits, around_statement, around_end, around_branch, Around, nothing_around, one_around}
use Rattle.laws_meaning_basics.proofs.UpFits.{Sound, frame_sound, layer_of}
use Rattle.laws_meaning_values.proofs.Positions.{before_at}
use Rattle.laws_meaning_slots.proofs.Seats.{frame_seats, focus_seats}
use Rattle.laws_meaning_counters.specs.Counters.{is_first, at_loop}
use Rattle.laws_meaning_assigned.specs.Needed.{needed_each, frame_needed, focus_needed}
use Rattle.laws_meaning_assigned.proofs.Grips.{grip_each, grip_all, frame_grip, focus_grip}
use Rattle.laws_meaning_assigned.proofs.Settled.{each_unneeded, frame_unneeded, focus_unneeded}
use Rattle.laws_meaning_assigned.proofs.Aborts.{each_spared, all_spared, focus_spared}
use Rattle.laws_meaning_finalizers.specs.Closing.{aborted_reads, closed_reads, left_reads, body_left_reads, rejoined_reads, through_reads, up_reads}
use Rattle.laws_meaning_finalizers.proofs.Registered.{set_before}
use Rattle.laws_meaning_finalizers.proofs.Envs.{SeatSet, Env, env_kept, each_named, envs_kept}
use Rattle.laws_meaning_finalizers.proofs.Trees.{Most, Has, Spares, with_decls, closed_fine, done_has, still_has, branches_fine, all_fine}
use Rattle.laws_meaning_finalizers.proofs.Frames.{list_end, inner_hold, hold_less, held_less, Names, frame_names, envs_front, envs_back, back_of, frame_env}
use Rattle.laws_meaning_finalizers.proofs.Within.{each_parts, ended_has, beside_read, frame_abort}
use Rattle.laws_meaning_finalizers.proofs.Fates.{Fate, up_fate, up_kept}

module _ (K : Kernel) (proper : is_proper K ≡ true) (root : Residual) where
  abbrev P : Seated → Type 0
  P = SeatSet K proper root

  -- what a frame with the focus inside needs
  abbrev pub Needs : Frame → Focus Act → Body → World → Type 0
  Needs fr f here w = Has K proper root (λ b x. frame_needed K.codes b x (at_loop is_first f) here fr) w × Has K proper root (λ b x. focus_needed K.codes b x is_first (body_in fr here) f) w

  abbrev pub Grips : Frame → Focus Act → Body → Body → ℕ → ℕ
  Grips fr f here b x = frame_grip K.codes b x here fr + focus_grip K.codes b x (body_in fr here) f

  pub needs_inner : (fr : Frame) (f : Focus Act) (here : Body) (w : World) → Has K proper root (λ b x. focus_needed K.codes b x is_first here (In fr f)) w → Needs fr f here w
  unfolding focus_needed
  needs_inner fr f here w h = (λ b x m. h b x (omega (arith, m)), λ b x m. h b x (omega (arith, m)))

  pub grips_inner : (fr gr : Frame) (f : Focus Act) (here : Body) (o : Body → ℕ → ℕ) → Most K proper root o (Grips fr (In gr f) here) → Most K proper root (inner_hold K proper root fr here o) (Grips gr f (body_in fr here))
  unfolding focus_grip
  grips_inner fr gr f here o m b x = let a = m b x in let l = hold_less K proper root fr here o b x in omega (arith, a, l)

  -- ---- an abortion of the whole focus

  pub focus_abort : {t : ℕ} (f : Focus Act) {fr : Frame} {d c e : Part} → FrameFits K t fr d c → Around K t Act f c e → Sound K proper d → (here : Body) (o : Body → ℕ → ℕ) → Names K proper root fr d c → (w : World) → Env K proper root d here o w
      → Most K proper root o (Grips fr f here) → Needs fr f here w → frame_seats P fr here → focus_seats P f (body_in fr here) → aborted_reads (fill fr (plug f Over)) here w
  unfolding focus_seats aborted aborted_reads focus_grip focus_needed
  focus_abort (Here y) {fr = fr} a nothing_around ok here o n w v m h st sf =
      frame_abort K proper root here o (is_first y) Over (λ b x. 0) (λ b x. 0) a ok n w v m h.0 st (λ b x l. absurd (omega (arith, l))) (λ b x l. refl) (λ u env k. tt) (λ u b x l k. k)
  focus_abort (In gr f) {fr = fr} {c = c} a (one_around {e = g} a2 more) ok here o n w v m h st sf =
      let env = frame_env K proper root a ok false here o w v h.0 refl in
      frame_abort K proper root here o false (plug (In gr f) Over) (λ b x. focus_needed K.codes b x is_first (body_in fr here) (In gr f)) (λ b x. focus_grip K.codes b x (body_in fr here) (In gr f)) a ok n w v m h.0 st h.1
      (λ b x l. focus_unneeded K proper b x is_first (In gr f) c _ (one_around a2 more) (frame_sound K proper a ok) (body_in fr here) env.ground (inner_hold K proper root fr here o b x) env.on (env.known b x) l)
      (λ u env2 k. focus_abort f a2 more (frame_sound K proper a ok) (body_in fr here) (inner_hold K proper root fr here o) (frame_names K proper root a2 (frame_sound K proper a ok) (body_in fr here) sf.0 n.inner) u (env2 refl) (grips_inner fr gr f here o m) (needs_inner gr f (body_in fr here) u k) sf.0 sf.1)
      (λ u b x l k. focus_spared K.codes b x (In gr f) (body_in fr here) u l k)

  -- ---- one frame

  module _ (t : ℕ) (here : Body) (o : Body → ℕ → ℕ) (f : Focus Act) where
    pub record Place (fr : Frame) (d c : Part) (w : World) : Type 0 where
      pub sound : Sound K proper d
      pub names : Names K proper root fr d c
      pub env : Env K proper root d here o w
      pub most : Most K proper root o (Grips fr f here)
      pub has : Has K proper root (λ b x. frame_needed K.codes b x (at_loop is_first f) here fr) w
      pub seats : frame_seats P fr here

    left_fine : (t : Bool) (w : World) → aborted_reads (plug f Over) here w → left_reads t f here w
    left_fine true w h = h
    left_fine false w h = tt

    -- of a block: its end, and an exit
    block_closes : {d c : Part} (b : KBlock) (fin : List KNode) (all : Instances) (rest : List KNode) (w : World) → FrameFits K t (OfBlock b fin all rest) d c → Place (OfBlock b fin all rest) d c w → closed_reads fin all here w
    block_closes b fin all rest w (around_statement {turn = turn} {sc = sc} {s = s} done e g fit) p =
        closed_fine K proper root turn sc b fin all done (s ∷ rest) here o (λ c x. grip_all K.codes c x all) w e g p.sound p.names.in_code p.env (set_before b here w done (done_has K proper root b done rest (before (out-KBlock b).list rest) here w (before_at b done s rest e) (λ c x k. p.has c x (omega (arith, k)))))
        (λ c x. (let a = p.most c x in omega (arith, a))) (λ c x k y. all_spared K.codes c x all w k y)
        (all_fine K proper root fit (with_decls K proper root here b o) w here p.env.low (λ c x. (let a = p.most c x in omega (arith, a))) (λ c x k. p.has c x (omega (arith, k))) (λ z. p.seats))
    block_closes b fin all rest w (around_end {turn = turn} {sc = sc} g fit) p =
        closed_fine K proper root turn sc b fin all (out-KBlock b).list [] here o (λ c x. grip_all K.codes c x all) w (list_end (out-KBlock b).list) g p.sound p.names.in_code p.env (ended_has K proper root b here w (λ c x k. p.has c x (omega (arith, k))))
        (λ c x. (let a = p.most c x in omega (arith, a))) (λ c x k y. all_spared K.codes c x all w k y)
        (all_fine K proper root fit (with_decls K proper root here b o) w here p.env.low (λ c x. (let a = p.most c x in omega (arith, a))) (λ c x k. p.has c x (omega (arith, k))) (λ z. p.seats))

    whole_block : (b : KBlock) (fin : List KNode) (all : Instances) (rest : List KNode) (w : World) → aborted_reads (fill (OfBlock b fin all rest) (plug f Over)) here w → aborted_reads (plug f Over) here w × closed_reads fin all here (aborted (plug f Over) here w)
    unfolding aborted_reads
    whole_block b fin all rest w h = (h.0, (h.1, h.2))

    body_left_fine : (t : Bool) (b : KBlock) (fin : List KNode) (all : Instances) (rest : List KNode) (w : World) → aborted_reads (fill (OfBlock b fin all rest) (plug f Over)) here w → body_left_reads t fin all f here w
    body_left_fine true b fin all rest w h = whole_block b fin all rest w h
    body_left_fine false b fin all rest w h = tt

    open_whole : (s : KNode) (w : World) → aborted_reads (fill (OfOpen s) (plug f Over)) here w → aborted_reads (plug f Over) here w
    unfolding aborted_reads
    open_whole s w h = h

    loop_whole : (s : KNode) (j : _) (w : World) → aborted_reads (fill (OfLoop s j) (plug f Over)) here w → aborted_reads (plug f Over) here w
    unfolding aborted_reads
    loop_whole s j w h = h

    -- a branch has ended, and with a par/or the others are aborted
    rejoined_fine : {d c : Part} (kind : ParKind) (s : KNode) (front back : Branches) (w : World) → FrameFits K t (OfPar s front back) d c → Place (OfPar s front back) d c w → rejoined_reads kind (join front (branch Over back)) here w
    unfolding aborted aborted_reads
    rejoined_fine par.Never s front back w a p = tt
    rejoined_fine par.And s front back w a p = tt
    rejoined_fine par.Or s front back w (around_branch {sc = sc} k slot bs c cs e y z) p =
        let fine = each_parts K proper root sc bs c cs (layer_of K proper sc s (KStmt-F.Par k slot (bs ++ c ∷ cs)) e p.sound).1 in
        let w1 = branches_aborted back here w in
        let spares1 : Spares K proper root (λ b x. grip_each K.codes b x here back) w w1 = λ b x i j. each_spared K.codes b x back here w i j in
        let after = envs_back K proper root sc s k slot bs c cs here o w e p.env in
        let before = envs_front K proper root sc s k slot bs c cs here o w e p.env in
        let behind = branches_fine K proper root z fine.1 here o w (each_named K proper root sc s k slot (bs ++ c ∷ cs) e (bs ++ c ∷ []) cs [] (back_of K proper root bs c cs) p.names.running) after (λ b x. (let a = p.most b x in omega (arith, a))) (λ b x i. p.has b x (omega (arith, i))) (λ i. p.seats.1) in
        let ahead = branches_fine K proper root y fine.0 here o w1 (each_named K proper root sc s k slot (bs ++ c ∷ cs) e [] bs (c ∷ cs) refl p.names.running) (envs_kept K proper root sc bs here o w w1 (λ b x i j. spares1 b x (let a = p.most b x in omega (arith, a, i)) j) before) (λ b x. (let a = p.most b x in omega (arith, a)))
        (still_has K proper root (λ b x. needed_each K.codes b x here front) (λ b x. o b x + grip_each K.codes b x here front) (λ b x. grip_each K.codes b x here back) w w1 (λ b x. each_unneeded K proper b x y fine.0 here before.ground (o b x) before.on (before.known b x)) (λ b x. (let a = p.most b x in omega (arith, a))) spares1 (λ b x i. p.has b x (omega (arith, i)))) (λ i. p.seats.0) in
        beside_read K proper root front Over back here w behind tt ahead

    -- with what the whole focus comes to, where an exit is handed on
    through_fine : {d c : Part} (fr : Frame) (y : Outcome) (w : World) → FrameFits K t fr d c → Place fr d c w → ((node : ℕ) (z : Exit) → y ≡ Leaves node z → aborted_reads (fill fr (plug f Over)) here w) → through_reads here fr f y w
    through_fine (OfBlock b fin all rest) AtBlockEnd w a p left = block_closes b fin all rest w a p
    through_fine (OfBlock b fin all rest) (Leaves node z) w a p left = body_left_fine (node == (out-KBlock b).node) b fin all rest w (left node z refl)
    through_fine (OfOpen s) (Leaves node z) w a p left = left_fine (node == s.node) w (open_whole s w (left node z refl))
    through_fine (OfLoop s j) (Leaves node z) w a p left = left_fine (node == s.node) w (loop_whole s j w (left node z refl))
    through_fine (OfPar s front back) (Ends v) w a p left = rejoined_fine (kind_of (out-KStmt s.stmt)) s front back w a p
    through_fine fr y w a p left = tt

  -- ---- all of them

  pub up_fine : {t : ℕ} (f : Focus Act) {fr : Frame} {d c e : Part} → FrameFits K t fr d c → Around K t Act f c e → Sound K proper d → (here : Body) (o : Body → ℕ → ℕ) → Names K proper root fr d c → (y : Outcome) (w : World) → ((a : Act) → Fate (Here a) w y w)
      → Env K proper root d here o w → Most K proper root o (Grips fr f here) → Needs fr f here w → frame_seats P fr here → focus_seats P f (body_in fr here) → up_reads here (In fr f) y w
  unfolding focus_seats up_reads up
  up_fine {t = t} (Here q) {fr = fr} a nothing_around ok here o n y w fate v m h st sf =
      (tt, through_fine t here o (Here q) fr y w a (record { sound = ok; names = n; env = v; most = m; has = h.0; seats = st }) (λ node z e. focus_abort (Here q) a nothing_around ok here o n w v m h st tt))
  up_fine {t = t} (In gr g) {fr = fr} {d = d} {c = c} a (one_around a2 more) ok here o n y w fate v m h st sf =
      let inner = frame_sound K proper a ok in
      let env = frame_env K proper root a ok false here o w v h.0 refl in
      let u = up (body_in fr here) (In gr g) y w in
      let spares : Spares K proper root (λ b x. focus_grip K.codes b x (body_in fr here) (In gr g)) w u.world = λ b x l k. up_kept K.codes b x (body_in fr here) (In gr g) y w l k in (
        up_fine g a2 more inner (body_in fr here) (inner_hold K proper root fr here o) (frame_names K proper root a2 inner (body_in fr here) sf.0 n.inner) y w fate env (grips_inner fr gr g here o m) (needs_inner gr g (body_in fr here) w h.1) sf.0 sf.1,
        through_fine t here o (In gr g) fr u.outcome u.world a
            (record {
              sound = ok;
              names = n;
              env = env_kept K proper root d here o w u.world (λ b x l k. spares b x (let i = m b x in let j = held_less K proper root a here o b x in omega (arith, i, j, l)) k) v;
              most = m;
              has = still_has K proper root (λ b x. frame_needed K.codes b x false here fr) (λ b x. o b x + frame_grip K.codes b x here fr) (λ b x. focus_grip K.codes b x (body_in fr here) (In gr g)) w u.world
                  (λ b x. frame_unneeded K proper b x a ok false here v.ground (o b x) v.on (v.known b x)) (λ b x. (let i = m b x in omega (arith, i))) spares h.0;
              seats = st;
            })
            (λ node z e. subst (λ u. aborted_reads (fill fr (plug (In gr g) Over)) here u) (sym (subst (λ y. Fate (In gr g) w y u.world) e (up_fate (body_in fr here) (In gr g) y w fate))) (focus_abort (In gr g) a (one_around a2 more) ok here o n w v m h st sf)),
      )
