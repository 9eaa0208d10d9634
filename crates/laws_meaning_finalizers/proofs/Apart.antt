-- Asyncs: no instance lives in one, and what is around the leaf of a focus; abortions of a whole with some part in the leaf's place.
use Rattle.std.proofs.Common.{◌≡◌, refl, ◌≤◌, ◌<◌, ℕ, ◌+◌, Bool, true, false, ◌⊎◌, inl, inr, ◌∷◌, ◌++◌, arith}
use Rattle.std.proofs.lemmas.Bool.{cases_lt}
use Rattle.ceu_tree.specs.declared.kernel.Kernel.{Kernel}
use Rattle.ceu_tree.specs.declared.kernel.KStmt.TheOpen.{KStmt-F}
use Rattle.ceu_tree.specs.Residual.{Body, Act, AtEnd, Residual, Over, Instances}
use Rattle.ceu_tree.specs.Focus.{Frame, Focus, Here, In, fill, plug, leaf, body_in, body_of}
use Rattle.ceu_tree.specs.World.{World}
use Rattle.ceu_tree.specs.Around.{Outcome}
use Rattle.ceu_tree.specs.Legal.{Seated}
use Rattle.ceu_tree.specs.Proper.{Scope, is_trail, is_proper}
use Rattle.laws_meaning_basics.specs.Shape.{Part, in_trail, AllFit, none_lives, one_lives, FrameFits, around_statement, around_end, around_instance, around_part, around_turn, around_call, around_branch, Around, nothing_around, one_around}
use Rattle.laws_meaning_basics.proofs.UpFits.{Sound, frame_sound, layer_of}
use Rattle.laws_meaning_basics.proofs.StepFits.{around_trail}
use Rattle.laws_meaning_slots.proofs.Seats.{all_seats, frame_seats, focus_seats}
use Rattle.laws_meaning_counters.specs.Counters.{is_first, at_loop}
use Rattle.laws_meaning_assigned.specs.Needed.{frame_needed, focus_needed}
use Rattle.laws_meaning_assigned.proofs.Grips.{grip, frame_grip, focus_grip, plug_grip}
use Rattle.laws_meaning_assigned.proofs.Settled.{focus_unneeded}
use Rattle.laws_meaning_assigned.proofs.Aborts.{aborted_spared}
use Rattle.laws_meaning_finalizers.specs.Closing.{aborted_reads, up_reads, killed_reads}
use Rattle.laws_meaning_finalizers.proofs.Envs.{SeatSet, Named, Env}
use Rattle.laws_meaning_finalizers.proofs.Trees.{Most, Has}
use Rattle.laws_meaning_finalizers.proofs.Frames.{inner_hold, hold_less, Names, frame_names, frame_env}
use Rattle.laws_meaning_finalizers.proofs.Within.{frame_abort}
use Rattle.laws_meaning_finalizers.proofs.Fates.{Fate}
use Rattle.laws_meaning_finalizers.proofs.Up.{focus_abort, up_fine, needs_inner}
use Rattle.laws_meaning_finalizers.proofs.Kills.{kill_fine}

module _ (K : Kernel) (proper : is_proper K ≡ true) (root : Residual) where
  abbrev P : Seated → Type 0
  P = SeatSet K proper root

  -- ---- outside trails no instance lives

  all_apart : {t : ℕ} {sc : Scope} {all : Instances} → AllFit K t sc all → (is_trail sc.place ≡ true → ⊥) → (here : Body) → all_seats P all here
  unfolding all_seats
  all_apart none_lives apart here = tt
  all_apart (one_lives k p e fit rest) apart here = absurd (apart p)

  frame_apart : {t : ℕ} {fr : Frame} {d c : Part} → FrameFits K t fr d c → Sound K proper d → (in_trail d → ⊥) → (here : Body) → frame_seats P fr here
  frame_apart (around_statement done e f all) ok apart here = all_apart all apart here
  frame_apart (around_end f all) ok apart here = all_apart all apart here
  frame_apart (around_instance done k e f r u v p q) ok apart here = absurd (apart p)
  frame_apart (around_part c q) ok apart here = tt
  frame_apart (around_turn l c e q) ok apart here = tt
  frame_apart (around_call c es f t k e q) ok apart here = tt
  frame_apart (around_branch {sc = sc} {s = s} k slot bs c cs e y z) ok apart here = absurd (apart (layer_of K proper sc s (KStmt-F.Par k slot (bs ++ c ∷ cs)) e ok).0)

  pub focus_apart : {t : ℕ} (f : Focus Act) {d e : Part} → Around K t Act f d e → Sound K proper d → (in_trail d → ⊥) → (here : Body) → focus_seats P f here
  unfolding focus_seats
  focus_apart (Here a) nothing_around ok apart here = tt
  focus_apart (In fr f) {d = d} (one_around {e = c} a more) ok apart here =
      (frame_apart a ok apart here, focus_apart f more (frame_sound K proper a ok) (λ z. apart (around_trail K proper {A = Act} {f = In fr (Here AtEnd)} (one_around a nothing_around) ok z)) (body_in fr here))

  -- ---- a part whose names are set

  module _ {t : ℕ} {d : Part} (ok : Sound K proper d) (named : Named K proper root d) (at : Body) (o : Body → ℕ → ℕ) (w : World) (v : Env K proper root d at o w) where
    pub part_abort : (f : Focus Act) {e : Part} → Around K t Act f d e → Most K proper root o (λ b x. focus_grip K.codes b x at f) → Has K proper root (λ b x. focus_needed K.codes b x is_first at f) w → focus_seats P f at → aborted_reads (plug f Over) at w
    unfolding aborted_reads focus_seats focus_grip
    part_abort (Here q) nothing_around m h st = tt
    part_abort (In fr g) (one_around b more) m h st = focus_abort K proper root g b more ok at o (frame_names K proper root b ok at st.0 named) w v m (needs_inner K proper root fr g at w h) st.0 st.1

    pub part_up : (f : Focus Act) {e : Part} → Around K t Act f d e → Most K proper root o (λ b x. focus_grip K.codes b x at f) → Has K proper root (λ b x. focus_needed K.codes b x is_first at f) w → focus_seats P f at → (y : Outcome) → ((a : Act) → Fate (Here a) w y w) → up_reads at f y w
    unfolding up_reads focus_seats focus_grip
    part_up (Here q) nothing_around m h st y fate = tt
    part_up (In fr g) (one_around b more) m h st y fate = up_fine K proper root g b more ok at o (frame_names K proper root b ok at st.0 named) y w fate v m (needs_inner K proper root fr g at w h) st.0 st.1

    pub part_kill : (f : Focus Act) {e : Part} → Around K t Act f d e → Most K proper root o (λ b x. focus_grip K.codes b x at f) → Has K proper root (λ b x. focus_needed K.codes b x is_first at f) w → focus_seats P f at → (k : ℕ) → killed_reads k f w
    unfolding killed_reads focus_seats focus_grip
    part_kill (Here q) nothing_around m h st k = tt
    part_kill (In fr g) (one_around b more) m h st k = kill_fine K proper root k g b more ok at o (frame_names K proper root b ok at st.0 named) w v m (needs_inner K proper root fr g at w h) st.0 st.1

  -- ---- around the leaf of a focus

  pub leaf_hold : {A : Type 0} → Focus A → Body → (Body → ℕ → ℕ) → Body → ℕ → ℕ
  leaf_hold (Here a) here o = o
  leaf_hold (In fr f) here o = leaf_hold f (body_in fr here) (inner_hold K proper root fr here o)

  pub leaf_less : {A : Type 0} (f : Focus A) (here : Body) (o : Body → ℕ → ℕ) (b : Body) (x : ℕ) → leaf_hold f here o b x ≤ o b x + focus_grip K.codes b x here f
  unfolding leaf_hold focus_grip
  leaf_less (Here a) here o b x = omega arith
  leaf_less (In fr f) here o b x = let i = leaf_less f (body_in fr here) (inner_hold K proper root fr here o) b x in let j = hold_less K proper root fr here o b x in omega (arith, i, j)

  module _ {A : Type 0} (first : A → Bool) where
    needs_of : (fr : Frame) (f : Focus A) (here : Body) (w : World) → Has K proper root (λ b x. focus_needed K.codes b x first here (In fr f)) w
        → Has K proper root (λ b x. frame_needed K.codes b x (at_loop first f) here fr) w × Has K proper root (λ b x. focus_needed K.codes b x first (body_in fr here) f) w
    unfolding focus_needed
    needs_of fr f here w h = (λ b x m. h b x (omega (arith, m)), λ b x m. h b x (omega (arith, m)))

    not_at : (f : Focus A) → first (leaf f) ≡ false → at_loop first f ≡ false
    not_at (Here a) e = e
    not_at (In fr f) e = refl

    pub record LeafPlace (e : Part) (here : Body) (o : Body → ℕ → ℕ) (w : World) : Type 0 where
      pub env : Env K proper root e here o w
      pub named : Named K proper root e

    pub leaf_place : {t : ℕ} (f : Focus A) {fr : Frame} {d c e : Part} → FrameFits K t fr d c → Around K t A f c e → Sound K proper d → (here : Body) (o : Body → ℕ → ℕ) → Names K proper root fr d c → (w : World) → Env K proper root d here o w → first (leaf f) ≡ false
        → Has K proper root (λ b x. frame_needed K.codes b x (at_loop first f) here fr) w → Has K proper root (λ b x. focus_needed K.codes b x first (body_in fr here) f) w → focus_seats P f (body_in fr here)
        → LeafPlace e (body_of f (body_in fr here)) (leaf_hold f (body_in fr here) (inner_hold K proper root fr here o)) w
    unfolding focus_seats leaf_hold
    leaf_place (Here q) {fr = fr} a nothing_around ok here o n w v l h k st = record { env = frame_env K proper root a ok (first q) here o w v h l; named = n.inner }
    leaf_place (In gr g) {fr = fr} a (one_around b more) ok here o n w v l h k st =
        let i = needs_of gr g (body_in fr here) w k in
        leaf_place g b more (frame_sound K proper a ok) (body_in fr here) (inner_hold K proper root fr here o) (frame_names K proper root b (frame_sound K proper a ok) (body_in fr here) st.0 n.inner) w (frame_env K proper root a ok false here o w v h refl) l i.0 i.1 st.1

    -- a whole that is aborted, with q in the leaf's place
    module _ (q : Residual) (need : Body → ℕ → ℕ) where
      pub leaf_abort : {t : ℕ} (f : Focus A) {fr : Frame} {d c e : Part} → FrameFits K t fr d c → Around K t A f c e → Sound K proper d → (here : Body) (o : Body → ℕ → ℕ) → Names K proper root fr d c → (w : World) → Env K proper root d here o w → first (leaf f) ≡ false
          → Most K proper root o (λ b x. frame_grip K.codes b x here fr + (focus_grip K.codes b x (body_in fr here) f + grip K.codes b x (body_of f (body_in fr here)) q)) → Has K proper root (λ b x. frame_needed K.codes b x (at_loop first f) here fr) w
          → Has K proper root (λ b x. focus_needed K.codes b x first (body_in fr here) f) w → frame_seats P fr here → focus_seats P f (body_in fr here) → Has K proper root need w
          → ((b : Body) (x : ℕ) → leaf_hold f (body_in fr here) (inner_hold K proper root fr here o) b x + grip K.codes b x (body_of f (body_in fr here)) q ≤ 2 → need b x ≡ 0)
          → ((u : World) → Env K proper root e (body_of f (body_in fr here)) (leaf_hold f (body_in fr here) (inner_hold K proper root fr here o)) u → Has K proper root need u → aborted_reads q (body_of f (body_in fr here)) u) → aborted_reads (fill fr (plug f q)) here w
      unfolding focus_seats leaf_hold focus_grip
      leaf_abort (Here y) {fr = fr} a nothing_around ok here o n w v l m h k st sf hq un inside =
          frame_abort K proper root here o (first y) q need (λ b x. grip K.codes b x (body_in fr here) q) a ok n w v (λ b x. (let i = m b x in omega (arith, i))) h st hq un (λ u env j. inside u (env l) j) (λ u b x i j. aborted_spared K.codes b x q (body_in fr here) u i j)
      leaf_abort (In gr g) {fr = fr} {c = c} a (one_around b0 more) ok here o n w v l m h k st sf hq un inside =
          let inner = frame_sound K proper a ok in
          let p = inner_hold K proper root fr here o in
          let to = body_in fr here in
          let env = frame_env K proper root a ok false here o w v h refl in
          let split = λ (b : Body) (x : ℕ). plug_grip K.codes b x to (In gr g) q in
          frame_abort K proper root here o false (plug (In gr g) q) (λ b x. focus_needed K.codes b x first to (In gr g) + need b x) (λ b x. grip K.codes b x to (plug (In gr g) q)) a ok n w v (λ b x. (let i = m b x in let j = split b x in omega (arith, i, j))) h st
          (λ b x i. both (focus_needed K.codes b x first to (In gr g)) (need b x) i (k b x) (hq b x))
          (λ b x i. (let j = split b x in let y = focus_unneeded K proper b x first (In gr g) c _ (one_around b0 more) inner to env.ground (p b x) env.on (env.known b x) (omega (arith, i, j)) in
          let z = un b x (let s = leaf_less (In gr g) to p b x in omega (arith, i, j, s)) in omega (arith, y, z)))
          (λ u env2 j. (let i = needs_of gr g to u (λ b x y. j b x (omega (arith, y))) in
          leaf_abort g b0 more inner to p (frame_names K proper root b0 inner to sf.0 n.inner) u (env2 refl) l (λ b x. (let y = m b x in let z = hold_less K proper root fr here o b x in omega (arith, y, z))) i.0 i.1 sf.0 sf.1 (λ b x y. j b x (omega (arith, y))) un inside))
          (λ u b x i j. aborted_spared K.codes b x (plug (In gr g) q) to u i j)
        where
          both : (i j : ℕ) {T : Type 0} → 1 ≤ i + j → (1 ≤ i → T) → (1 ≤ j → T) → T
          both i j s y z = go (cases_lt 0 i) y z
            where
              go : {T : Type 0} → (0 < i) ⊎ (i ≤ 0) → (1 ≤ i → T) → (1 ≤ j → T) → T
              go (inl r) y z = y (omega (arith, r))
              go (inr r) y z = z (omega (arith, r, s))
