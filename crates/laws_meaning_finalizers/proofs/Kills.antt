-- A kill reads no variable without a value, and leaves their values to the slots that something else has hold of.
use Rattle.std.proofs.Common.{◌≡◌, refl, subst, ◌≤◌, ◌<◌, ℕ, ◌+◌, Bool, true, false, ◌==◌, ◌⊎◌, inl, inr, arith, eqb-true}
use Rattle.std.proofs.lemmas.Bool.{cases_lt}
use Rattle.ceu_tree.specs.declared.kernel.Kernel.{Kernel}
use Rattle.ceu_tree.specs.Residual.{Body, Spawned, Act, AtEnd, Residual, Instances}
use Rattle.ceu_tree.specs.Focus.{Frame, OfBlock, OfInstance, OfOpen, OfLoop, OfCall, OfPar, Focus, Here, In, body_in}
use Rattle.ceu_tree.specs.World.{World}
use Rattle.ceu_tree.specs.Leaf.{code_at}
use Rattle.ceu_tree.specs.Legal.{Seated}
use Rattle.ceu_tree.specs.Step.{kill_frame}
use Rattle.ceu_tree.specs.Proper.{Scope, is_proper}
use Rattle.laws_meaning_basics.specs.Shape.{Part, AllFit, none_lives, one_lives, FrameFits, around_statement, around_end, around_instance, around_part, around_turn, around_call, around_branch, Around, nothing_around, one_around}
use Rattle.laws_meaning_basics.proofs.Static.{code_static}
use Rattle.laws_meaning_basics.proofs.UpFits.{Sound, frame_sound}
use Rattle.laws_meaning_values.specs.Ground.{has}
use Rattle.laws_meaning_slots.proofs.Seats.{all_seats, frame_seats, focus_seats}
use Rattle.laws_meaning_counters.specs.Counters.{is_first}
use Rattle.laws_meaning_assigned.specs.Needed.{needed, needed_all, frame_needed}
use Rattle.laws_meaning_assigned.proofs.Grips.{grip, grip_all, frame_grip, focus_grip, unseat_frame_less}
use Rattle.laws_meaning_assigned.proofs.Settled.{focus_unneeded}
use Rattle.laws_meaning_assigned.proofs.Aborts.{killed_spared}
use Rattle.laws_meaning_finalizers.specs.Closing.{aborted_reads, if_reads, all_killed_read, frame_killed_reads, killed_reads}
use Rattle.laws_meaning_finalizers.proofs.Envs.{SeatSet, Low, Env, env_kept}
use Rattle.laws_meaning_finalizers.proofs.Trees.{Most, Has, with_decls, with_code, code_env, code_named, tree_fine}
use Rattle.laws_meaning_finalizers.proofs.Frames.{inner_hold, held_less, Names, frame_names, frame_env}
use Rattle.laws_meaning_finalizers.proofs.Up.{Needs, Grips, needs_inner, grips_inner}

module _ (K : Kernel) (proper : is_proper K ≡ true) (root : Residual) where
  abbrev P : Seated → Type 0
  P = SeatSet K proper root

  all_kill_fine : (k : ℕ) {t : ℕ} {sc : Scope} {all : Instances} → AllFit K t sc all → (o : Body → ℕ → ℕ) (w : World) (here : Body) → Low K proper root o w → Most K proper root o (λ b x. grip_all K.codes b x all) → Has K proper root (λ b x. needed_all K.codes b x all) w
      → all_seats P all here → all_killed_read k all w
  unfolding grip needed all_seats
  all_kill_fine k none_lives o w here low m h st = tt
  all_kill_fine k (one_lives {seat = seat} {r = r} {more = more} c p e fit rest) o w here low m h st =
      go (seat.number == k) refl (all_kill_fine k rest o w here low (λ b x. (let a = m b x in omega (arith, a))) (λ b x l. h b x (omega (arith, l))) st.2)
    where
      to : Body
      to = Spawned seat.number

      own : aborted_reads r (Spawned seat.number) w
      own =
          tree_fine K proper root fit (code_static K seat.code c proper e) to (with_code K proper root to (code_at seat.code K.codes) o) w (code_named K proper root seat.code c e st.0) (code_env K proper root seat.code c to (code_at seat.code K.codes) o w e e low (λ b x l. h b x (omega (arith, l))))
          (λ b x. (let a = m b x in omega (arith, a))) (λ b x l. h b x (omega (arith, l))) (λ z. st.1)

      go : (t : Bool) → (seat.number == k) ≡ t → all_killed_read k more w → if_reads t (aborted_reads r (Spawned k) w) (all_killed_read k more w)
      go true q ih = subst (λ j. aborted_reads r (Spawned j) w) (eqb-true seat.number k q) own
      go false q ih = ih

  frame_kill_fine : (k : ℕ) {t : ℕ} {fr : Frame} {d c : Part} → FrameFits K t fr d c → (here : Body) (o : Body → ℕ → ℕ) (w : World) → Env K proper root d here o w → Most K proper root o (λ b x. frame_grip K.codes b x here fr) → (first : Bool) → Has K proper root (λ b x. frame_needed K.codes b x first here fr) w
      → frame_seats P fr here → frame_killed_reads k fr w
  frame_kill_fine k {fr = OfBlock b fin all rest} (around_statement done e f fit) here o w v m first h st = all_kill_fine k fit (with_decls K proper root here b o) w here v.low (λ b x. (let a = m b x in omega (arith, a))) (λ b x l. h b x (omega (arith, l))) st
  frame_kill_fine k {fr = OfBlock b fin all rest} (around_end f fit) here o w v m first h st = all_kill_fine k fit (with_decls K proper root here b o) w here v.low (λ b x. (let a = m b x in omega (arith, a))) (λ b x l. h b x (omega (arith, l))) st
  frame_kill_fine k (around_instance done c e f r y u p q) here o w v m first h st = tt
  frame_kill_fine k (around_part c q) here o w v m first h st = tt
  frame_kill_fine k (around_turn l c e q) here o w v m first h st = tt
  frame_kill_fine k (around_call c es f t j e q) here o w v m first h st = tt
  frame_kill_fine k (around_branch j slot bs c cs e y z) here o w v m first h st = tt

  -- a kill in one frame spares what is held inside, or by the part itself
  frame_kill_kept : (k : ℕ) (fr : Frame) (here : Body) (o : Body → ℕ → ℕ) (w : World) (b : Body) (x n : ℕ) → o b x + (frame_grip K.codes b x here fr + n) ≤ 3 → 3 ≤ inner_hold K proper root fr here o b x + n → has b x w ≡ true → has b x (kill_frame k fr w) ≡ true
  unfolding focus_grip
  frame_kill_kept k (OfBlock c fin all rest) here o w b x n m l h =
      killed_spared K.codes b x k here (In (OfBlock c fin all rest) (Here AtEnd)) w (let a = unseat_frame_less K.codes b x k here (OfBlock c fin all rest) in omega (arith, a, m, l)) h
  frame_kill_kept k (OfInstance c fin front seat back r rest) here o w b x n m l h = h
  frame_kill_kept k (OfOpen s) here o w b x n m l h = h
  frame_kill_kept k (OfLoop s j) here o w b x n m l h = h
  frame_kill_kept k (OfCall s) here o w b x n m l h = h
  frame_kill_kept k (OfPar s front back) here o w b x n m l h = h

  pub kill_fine : (k : ℕ) {t : ℕ} (f : Focus Act) {fr : Frame} {d c e : Part} → FrameFits K t fr d c → Around K t Act f c e → Sound K proper d → (here : Body) (o : Body → ℕ → ℕ) → Names K proper root fr d c → (w : World) → Env K proper root d here o w
      → Most K proper root o (Grips K proper root fr f here) → Needs K proper root fr f here w → frame_seats P fr here → focus_seats P f (body_in fr here) → killed_reads k (In fr f) w
  unfolding killed_reads focus_seats focus_grip
  kill_fine k (Here q) {fr = fr} a nothing_around ok here o n w v m h st sf = (frame_kill_fine k a here o w v (λ b x. (let i = m b x in omega (arith, i))) (is_first q) h.0 st, tt)
  kill_fine k (In gr g) {fr = fr} {c = c} a (one_around a2 more) ok here o n w v m h st sf =
      let inner = frame_sound K proper a ok in
      let p = inner_hold K proper root fr here o in
      let env = frame_env K proper root a ok false here o w v h.0 refl in
      let w1 = kill_frame k fr w in
      let kept = λ (b : Body) (x : ℕ) (l : 3 ≤ p b x + focus_grip K.codes b x (body_in fr here) (In gr g)). frame_kill_kept k fr here o w b x (focus_grip K.codes b x (body_in fr here) (In gr g)) (m b x) l in (
        frame_kill_fine k a here o w v (λ b x. (let i = m b x in omega (arith, i))) false h.0 st,
        kill_fine k g a2 more inner (body_in fr here) p (frame_names K proper root a2 inner (body_in fr here) sf.0 n.inner) w1
            (env_kept K proper root c (body_in fr here) p w w1 (λ b x l. kept b x (let i = held_less K proper root a2 (body_in fr here) p b x in omega (arith, i, l))) env) (grips_inner K proper root fr gr g here o m)
            (needs_inner K proper root gr g (body_in fr here) w1 (λ b x l. go (cases_lt 2 (p b x + focus_grip K.codes b x (body_in fr here) (In gr g))) (λ y. kept b x y (h.1 b x l))
            (λ y. absurd (let i = focus_unneeded K proper b x is_first (In gr g) c _ (one_around a2 more) inner (body_in fr here) env.ground (p b x) env.on (env.known b x) y in omega (arith, i, l))))) sf.0 sf.1,
      )
    where
      go : {n : ℕ} {A : Type 0} → (2 < n) ⊎ (n ≤ 2) → (3 ≤ n → A) → (n ≤ 2 → A) → A
      go (inl l) y z = y (omega (arith, l))
      go (inr l) y z = z l
