-- What a slot holds stays where a part is aborted that has no hold of the slot.
use Rattle.std.proofs.Common.{◌≡◌, refl, sym, ap, ◌∙◌, ℕ, Bool, true, false, if◌then◌else◌, List, [], ◌∷◌, ◌++◌, append-nil, arith}
use Rattle.ceu_tree.specs.declared.kernel.Kernel.{Kernel}
use Rattle.ceu_tree.specs.declared.kernel.ParKind.{ParKind}
use Rattle.ceu_tree.specs.declared.kernel.KNode.{KNode}
use Rattle.ceu_tree.specs.declared.kernel.KBlock.{KBlock, out-KBlock}
use Rattle.ceu_tree.specs.declared.kernel.KStmt.{out-KStmt}
use Rattle.ceu_tree.specs.declared.kernel.KStmt.TheOpen.{KStmt-F}
use Rattle.ceu_tree.specs.Residual.{Body, Awaited, Spawned, same_body, Act, Residual, Over, Branches, branch, Instances, no_instance, instance}
use Rattle.ceu_tree.specs.Focus.{Frame, OfInstance, OfPar, Focus, Here, In, join_instances, fill, plug, body_in}
use Rattle.ceu_tree.specs.World.{World}
use Rattle.ceu_tree.specs.Abort.{finalized, aborted, branches_aborted, instances_aborted, closed}
use Rattle.ceu_tree.specs.Leaf.{Layer}
use Rattle.ceu_tree.specs.Proper.{Scope, is_proper}
use Rattle.ceu_tree.specs.Legal.{finalizers_of}
use Rattle.laws_meaning_basics.specs.Shape.{Part, ABlock, Fits, to_begin, to_turn, in_list, to_finish, at_input, at_time, at_event, at_forever, at_async, in_part, in_turn, in_call, in_par, EachFits, no_more, an_ended, a_branch, AllFit, none_lives, one_lives, FrameFits, around_statement, around_end, around_instance, around_part, around_turn, around_call, around_branch, Around, nothing_around, one_around}
use Rattle.laws_meaning_basics.proofs.Static.{BlockOk, names_of, code_static, each_fine}
use Rattle.laws_meaning_basics.proofs.UpFits.{Sound, layer_of, list_sound, part_sound, frame_sound}
use Rattle.laws_meaning_values.proofs.FocusSpares.{branches_joined}
use Rattle.laws_meaning_counters.proofs.Cells.{cell_in, is_own, finalizers_apart, forget_declared_apart, forget_body_apart, forget_loop_apart, finalized_kept}
use Rattle.laws_meaning_counters.proofs.Grips.{point, own, grip, grip_each, grip_all, frame_grip, focus_grip}
use Rattle.laws_meaning_counters.proofs.Marks.{kernel_marks, block_marks, blocks_marks_all, layer_none, part_none, each_none}
use Rattle.laws_meaning_counters.proofs.Clear.{Free, free_turn, free_part, Clear, block_finalizers, block_decls, code_clear, list_clear, frame_clear}

instances_joined : (xs ys : Instances) (w : World) → instances_aborted (join_instances xs ys) w ≡ instances_aborted xs (instances_aborted ys w)
unfolding instances_aborted
instances_joined no_instance ys w = refl
instances_joined (instance seat r more) ys w = ap (λ u. instances_aborted (instance seat r no_instance) u) (instances_joined more ys w)

module _ (b : Body) (x : ℕ) where
  pub not_own : (here : Body) (layer : Layer) → own b x here layer ≡ 0 → is_own b x here layer ≡ false
  not_own here layer h = go (is_own b x here layer) refl
    where
      go : (t : Bool) → is_own b x here layer ≡ t → t ≡ false
      go false e = refl
      go true e = absurd (let o : own b x here layer ≡ 1 = ap (λ t. if t then 1 else 0) e in omega (arith, o, h))

  pub not_body : (here : Body) → point b x here ≡ 0 → same_body here b ≡ true → ⊥
  not_body here h e = let o : point b x here ≡ 2 = ap (λ t. if t then 2 else 0) e in omega (arith, o, h)

module _ (K : Kernel) (proper : is_proper K ≡ true) (b : Body) (x : ℕ) (clean : kernel_marks true x K ≡ 0) where
  each_parts : (sc : Scope) (bs : List KBlock) (c : KBlock) (cs : List KBlock) → each_fine K (names_of K) sc (bs ++ c ∷ cs) → each_fine K (names_of K) sc bs × each_fine K (names_of K) sc cs
  each_parts sc [] c cs h = (tt, h.1)
  each_parts sc (q ∷ bs) c cs h = let a = each_parts sc bs c cs h.1 in ((h.0, a.0), a.1)

  mutual
    unfolding aborted grip

    pub aborted_kept : {t : ℕ} {d : Part} {r : Residual} → Fits K t d r → Sound K proper d → Clear b x K clean d → (here : Body) (w : World) → grip b x here r ≡ 0 → cell_in b x (aborted r here w) ≡ cell_in b x w
    aborted_kept (to_begin l) ok cl here w h = refl
    aborted_kept (to_turn l p) ok cl here w h = refl
    aborted_kept (in_list {turn = turn} {sc = sc} {b = c} {fin = fin} {rest = rest} {all = all} {r = q} {s = s} done e f fit more) ok cl here w h =
        let w1 = aborted q here w in
        let w2 = instances_aborted all w1 in
        forget_declared_apart b x here (out-KBlock c).decls (finalized fin here w2) (block_decls b x K clean c cl.1) ∙
        (finalized_kept b x fin here w2 (block_finalizers b x K clean turn sc c fin done (s ∷ rest) e f ok cl) ∙
        (all_kept fit w1 (omega (arith, h)) ∙ aborted_kept more (list_sound K proper sc c done s rest ok e) (list_clear b x K clean sc c done s rest e cl.0 cl.1) here w (omega (arith, h))))
    aborted_kept (to_finish l p) ok cl here w h = refl
    aborted_kept (at_input q e) ok cl here w h = refl
    aborted_kept (at_time q u y e) ok cl here w h = refl
    aborted_kept (at_event q e) ok cl here w h = refl
    aborted_kept (at_forever e) ok cl here w h = refl
    aborted_kept (at_async {sc = sc} {s = s} c e more) ok cl here w h = aborted_kept more (layer_of K proper sc s (KStmt-F.Async c) e ok).1 (cl.0, layer_none true x s (KStmt-F.Async c) e cl.1) here w h
    aborted_kept (in_part {sc = sc} {s = s} c o more) ok cl here w h =
        aborted_kept more (part_sound K proper sc s.node (out-KStmt s.stmt) c (layer_of K proper sc s (out-KStmt s.stmt) refl ok) o)
        (free_part b x K sc s.node (out-KStmt s.stmt) c o cl.0, part_none true x (out-KStmt s.stmt) c o (layer_none true x s (out-KStmt s.stmt) refl cl.1)) here w h
    aborted_kept (in_turn {sc = sc} {s = s} {r = q} k c e p more) ok cl here w h =
        forget_loop_apart b x here s (aborted q here w) (not_own b x here (out-KStmt s.stmt) (omega (arith, h))) ∙
        aborted_kept more (layer_of K proper sc s (KStmt-F.Loop k c) e ok) (free_turn b x K sc s.node k cl.0, (let m = layer_none true x s (KStmt-F.Loop k c) e cl.1 in omega (arith, m))) here w (omega (arith, h))
    aborted_kept (in_call {s = s} {r = q} c es f y k e g more) ok cl here w h =
        forget_body_apart b x (Awaited here s.node) (aborted q (Awaited here s.node) w) (not_body b x (Awaited here s.node) (omega (arith, h))) ∙
        aborted_kept more (code_static K c k proper g) (code_clear b x K clean c k g) (Awaited here s.node) w (omega (arith, h))
    aborted_kept (in_par {sc = sc} {s = s} k slot bs e q more) ok cl here w h =
        each_kept more (layer_of K proper sc s (KStmt-F.Par k slot bs) e ok).1 cl.0 (layer_none true x s (KStmt-F.Par k slot bs) e cl.1) here w h

    pub each_kept : {t : ℕ} {sc : Scope} {k : ParKind} {bs : List KBlock} {rs : Branches} → EachFits K t sc k bs rs → each_fine K (names_of K) sc bs → Free b x sc → blocks_marks_all true x bs ≡ 0 → (here : Body) (w : World)
        → grip_each b x here rs ≡ 0 → cell_in b x (branches_aborted rs here w) ≡ cell_in b x w
    each_kept no_more ok f m here w h = refl
    each_kept (an_ended p rest) ok f m here w h = each_kept rest ok.1 f (omega (arith, m)) here w (omega (arith, h))
    each_kept (a_branch {r = r} {more = more} fit rest) ok f m here w h =
        aborted_kept fit ok.0 (f, omega (arith, m)) here (branches_aborted more here w) (omega (arith, h)) ∙ each_kept rest ok.1 f (omega (arith, m)) here w (omega (arith, h))

    pub all_kept : {t : ℕ} {sc : Scope} {all : Instances} → AllFit K t sc all → (w : World) → grip_all b x all ≡ 0 → cell_in b x (instances_aborted all w) ≡ cell_in b x w
    all_kept none_lives w h = refl
    all_kept (one_lives {seat = seat} {r = r} {more = more} k p e fit rest) w h =
        forget_body_apart b x (Spawned seat.number) (aborted r (Spawned seat.number) (instances_aborted more w)) (not_body b x (Spawned seat.number) (omega (arith, h))) ∙
        (aborted_kept fit (code_static K seat.code k proper e) (code_clear b x K clean seat.code k e) (Spawned seat.number) (instances_aborted more w) (omega (arith, h)) ∙ all_kept rest w (omega (arith, h)))

  -- ---- the end of a block, and the parts around a leaf

  pub closed_kept : {t : ℕ} {sc : Scope} {all : Instances} (c : KBlock) (fin : List KNode) (here : Body) (w : World) → AllFit K t sc all → finalizers_apart b x fin → block_marks true x c ≡ 0 → grip_all b x all ≡ 0
      → cell_in b x (closed c fin all here w) ≡ cell_in b x w
  closed_kept {all = all} c fin here w fit k m h =
      forget_declared_apart b x here (out-KBlock c).decls (finalized fin here (instances_aborted all w)) (block_decls b x K clean c m) ∙ (finalized_kept b x fin here (instances_aborted all w) k ∙ all_kept fit w h)

  pub end_finalizers : (turn : Bool) (sc : Scope) (c : KBlock) (fin : List KNode) → fin ≡ finalizers_of [] (out-KBlock c).list → BlockOk K (names_of K) sc c → Clear b x K clean (ABlock turn sc c) → finalizers_apart b x fin
  end_finalizers turn sc c fin f ok cl = block_finalizers b x K clean turn sc c fin (out-KBlock c).list [] (sym (append-nil (out-KBlock c).list)) f ok cl

  pub frame_kept : {t : ℕ} {fr : Frame} {d e : Part} → FrameFits K t fr d e → Sound K proper d → Clear b x K clean d → (here : Body) (q : Residual) → ((w : World) → cell_in b x (aborted q (body_in fr here) w) ≡ cell_in b x w) → frame_grip b x here fr ≡ 0
      → (w : World) → cell_in b x (aborted (fill fr q) here w) ≡ cell_in b x w
  unfolding aborted
  frame_kept (around_statement {turn = turn} {sc = sc} {b = c} {fin = fin} {rest = rest} {s = s} done e f fit) ok cl here q ih h w =
      closed_kept c fin here (aborted q here w) fit (block_finalizers b x K clean turn sc c fin done (s ∷ rest) e f ok cl) cl.1 h ∙ ih w
  frame_kept (around_end {turn = turn} {sc = sc} {b = c} {fin = fin} f fit) ok cl here q ih h w = closed_kept c fin here (aborted q here w) fit (end_finalizers turn sc c fin f ok cl) cl.1 h ∙ ih w
  frame_kept {fr = OfInstance c fin front seat back r rest} (around_instance {turn = turn} {sc = sc} {s = s} done k e f fit x1 x2 p g) ok cl here q ih h w =
      let w1 = aborted r here w in
      let w2 = instances_aborted back w1 in
      let w3 = aborted q (Spawned seat.number) w2 in
      let w4 = instances_aborted (join_instances front (instance seat q back)) w1 in
      forget_declared_apart b x here (out-KBlock c).decls (finalized fin here w4) (block_decls b x K clean c cl.1) ∙
      (finalized_kept b x fin here w4 (block_finalizers b x K clean turn sc c fin done (s ∷ rest) e f ok cl) ∙
      (ap (cell_in b x) (instances_joined front (instance seat q back) w1) ∙
      (all_kept x1 (instances_aborted (instance seat q back) w1) (omega (arith, h)) ∙
      (forget_body_apart b x (Spawned seat.number) w3 (not_body b x (Spawned seat.number) (omega (arith, h))) ∙
      (ih w2 ∙ (all_kept x2 w1 (omega (arith, h)) ∙ aborted_kept fit (list_sound K proper sc c done s rest ok e) (list_clear b x K clean sc c done s rest e cl.0 cl.1) here w (omega (arith, h))))))))
  frame_kept (around_part c o) ok cl here q ih h w = ih w
  frame_kept (around_turn {s = s} k c e p) ok cl here q ih h w = forget_loop_apart b x here s (aborted q here w) (not_own b x here (out-KStmt s.stmt) h) ∙ ih w
  frame_kept (around_call {s = s} c es f y k e g) ok cl here q ih h w = forget_body_apart b x (Awaited here s.node) (aborted q (Awaited here s.node) w) (not_body b x (Awaited here s.node) h) ∙ ih w
  frame_kept {fr = OfPar s front back} (around_branch {sc = sc} k slot bs c cs e y z) ok cl here q ih h w =
      let fine = (layer_of K proper sc s (KStmt-F.Par k slot (bs ++ c ∷ cs)) e ok).1 in
      let parts = each_parts sc bs c cs fine in
      let none = each_none true x bs c cs (layer_none true x s (KStmt-F.Par k slot (bs ++ c ∷ cs)) e cl.1) in
      let u = branches_aborted back here w in
      ap (cell_in b x) (branches_joined front (branch q back) here w) ∙
      (each_kept y parts.0 cl.0 none.0 here (aborted q here u) (omega (arith, h)) ∙ (ih u ∙ each_kept z parts.1 cl.0 none.2 here w (omega (arith, h))))

  pub focus_kept : {t : ℕ} (f : Focus Act) (d e : Part) → Around K t Act f d e → Sound K proper d → Clear b x K clean d → (here : Body) → focus_grip b x here f ≡ 0 → (w : World) → cell_in b x (aborted (plug f Over) here w) ≡ cell_in b x w
  unfolding aborted focus_grip
  focus_kept (Here a) d e nothing_around ok cl here h w = refl
  focus_kept (In fr f) d e (one_around {e = c} a more) ok cl here h w =
      frame_kept a ok cl here (plug f Over) (focus_kept f c e more (frame_sound K proper a ok) (frame_clear b x K clean a cl) (body_in fr here) (omega (arith, h))) (omega (arith, h)) w
