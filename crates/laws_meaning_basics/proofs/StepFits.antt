-- One step of a trail fits the place of the whole, with emissions, spawns and kills.
use Rattle.std.proofs.Common.{◌≡◌, refl, sym, subst, ◌<◌, ℕ, suc, ◌+◌, ℤ, pos, nat_lt, Bool, true, false, if◌then◌else◌, ◌==◌, List, ◌∷◌, Option, Some, None, arith}
use Rattle.ceu_base.specs.declared.kinds.Fault.TheVariants.{SpawnCount}
use Rattle.ceu_base.specs.declared.kinds.Mark.TheVariants as mark
use Rattle.ceu_tree.specs.declared.kernel.Kernel.{Kernel}
use Rattle.ceu_tree.specs.declared.kernel.KCode.{KCode}
use Rattle.ceu_tree.specs.declared.kernel.KNode.{KNode}
use Rattle.ceu_tree.specs.declared.kernel.KBlock.{out-KBlock}
use Rattle.ceu_tree.specs.declared.kernel.KStmt.{out-KStmt}
use Rattle.ceu_tree.specs.Residual.{Body, Spawned as InstanceBody, Act, Begin, Finish, Seat, Residual, Over, Run, Instances, instance}
use Rattle.ceu_tree.specs.Focus.{Frame, Focus, Here, In, plug, graft, leaf, body_of}
use Rattle.ceu_tree.specs.World.{World, NotSet, Names, marked, set_alias, set_parameters}
use Rattle.ceu_tree.specs.Wake.{by_event}
use Rattle.ceu_tree.specs.Leaf as does
use Rattle.ceu_tree.specs.Leaf.{Does, acted, code_at}
use Rattle.ceu_tree.specs.Around.{Outcome, Goes, Rests, Raises, Fails, Past, Registers, AtBlockEnd, AtLoopHead, Ends, Leaves, Moved, moved, up, taken, answered}
use Rattle.ceu_tree.specs.Step.{event_code, emitted, size_in, free_place, with_instance, seated_if, seat_frame, seated, spawned_at, spawned, unseated, unseat_frame, unseat, killed, does_in, stepped}
use Rattle.ceu_tree.specs.Proper.{Scope, is_trail, is_proper}
use Rattle.laws_meaning_basics.specs.Shape.{Part, ABlock, code_part, Fits, to_begin, to_finish, AllFit, none_lives, one_lives, FrameFits, around_statement, around_end, around_instance, around_part, around_turn, around_call, around_branch, Around, nothing_around, one_around, ActFits, TurnFits, in_trail, aimed, Comes}
use Rattle.laws_meaning_basics.proofs.Fits.{around_raised, plug_fits, graft_around}
use Rattle.laws_meaning_basics.proofs.Leaves.{woken_fits, by_event_fits}
use Rattle.laws_meaning_basics.proofs.UpFits.{no_finalizer, Sound, frame_sound, frame_trail, up_fits}
use Rattle.laws_meaning_basics.proofs.LeafFits.{pauses_no_finalizer, Pausing, DoesFit, acted_fits}

module _ (K : Kernel) (proper : is_proper K ≡ true) where
  pub around_sound : {A : Type 0} {t : ℕ} {f : Focus A} {d e : Part} → Around K t A f d e → Sound K proper d → Sound K proper e
  around_sound nothing_around h = h
  around_sound (one_around a more) h = around_sound more (frame_sound K proper a h)

  pub around_trail : {A : Type 0} {t : ℕ} {f : Focus A} {d e : Part} → Around K t A f d e → Sound K proper d → in_trail e → in_trail d
  around_trail nothing_around h p = p
  around_trail (one_around a more) h p = frame_trail K proper 0 a h (around_trail more (frame_sound K proper a h) p)

  -- ---- pools

  unseated_fits : {sc : Scope} {all : Instances} (t k : ℕ) → AllFit K t sc all → AllFit K t sc (unseated k all)
  unseated_fits t k none_lives = none_lives
  unseated_fits {sc = sc} t k (one_lives {seat = seat} {r = r} {more = more} c p e h rest) = go (seat.number == k) (unseated_fits t k rest)
    where
      go : (b : Bool) → AllFit K t sc (unseated k more) → AllFit K t sc (if b then more else instance seat r (unseated k more))
      go true x = rest
      go false x = one_lives c p e h x

  unseated_frame : {fr : Frame} {d e : Part} (t k : ℕ) → FrameFits K t fr d e → FrameFits K t (unseat_frame k fr) d e
  unseated_frame t k (around_statement done e f all) = around_statement done e f (unseated_fits t k all)
  unseated_frame t k (around_end f all) = around_end f (unseated_fits t k all)
  unseated_frame t k (around_instance done c e f h before after p q) = around_instance done c e f h before after p q
  unseated_frame t k (around_part b e) = around_part b e
  unseated_frame t k (around_turn c b e q) = around_turn c b e q
  unseated_frame t k (around_call c es f u a e q) = around_call c es f u a e q
  unseated_frame t k (around_branch c slot bs b cs e x y) = around_branch c slot bs b cs e x y

  pub unseated_around : (t k : ℕ) {f : Focus Act} {d e : Part} → Around K t Act f d e → Around K t Act (unseat k f) d e
  unseated_around t k nothing_around = nothing_around
  unseated_around t k (one_around a more) = one_around (unseated_frame t k a) (unseated_around t k more)

  module _ (t : ℕ) (seat : Seat) (r : Residual) (c : KCode) (there : code_at seat.code K.codes ≡ Some c) (new : Fits K t (code_part K seat.code c) r) where
    with_fits : {sc : Scope} {all : Instances} → is_trail sc.place ≡ true → AllFit K t sc all → AllFit K t sc (with_instance seat r all)
    with_fits p none_lives = one_lives c p there new none_lives
    with_fits {sc = sc} p (one_lives {seat = other} {r = q} {more = more} k o e h rest) = go (nat_lt seat.pool other.pool) (with_fits p rest)
      where
        go : (b : Bool) → AllFit K t sc (with_instance seat r more) → AllFit K t sc (if b then instance seat r (instance other q more) else instance other q (with_instance seat r more))
        go true x = one_lives c p there new (one_lives k o e h rest)
        go false x = one_lives k o e h x

    seated_all : {sc : Scope} {all : Instances} (o : Option ℕ) → is_trail sc.place ≡ true → AllFit K t sc all → AllFit K t sc (seated_if o seat r all)
    seated_all None p h = h
    seated_all (Some n) p h = with_fits p h

    seated_frame : {fr : Frame} {d e : Part} → FrameFits K t fr d e → in_trail d → FrameFits K t (seat_frame seat r fr) d e
    seated_frame (around_statement {b = b} done e f all) p = around_statement done e f (seated_all (size_in seat.pool (out-KBlock b).decls) p all)
    seated_frame (around_end {b = b} f all) p = around_end f (seated_all (size_in seat.pool (out-KBlock b).decls) p all)
    seated_frame (around_instance done k e f x before after q z) p = around_instance done k e f x before after q z
    seated_frame (around_part b e) p = around_part b e
    seated_frame (around_turn k b e q) p = around_turn k b e q
    seated_frame (around_call k es f u a e q) p = around_call k es f u a e q
    seated_frame (around_branch k slot bs b cs e x y) p = around_branch k slot bs b cs e x y

    seated_around : {f : Focus Act} {d e : Part} → Around K t Act f d e → Sound K proper d → in_trail e → Around K t Act (seated seat r f) d e
    seated_around nothing_around h p = nothing_around
    seated_around (one_around a more) h p =
        let inner = frame_sound K proper a h in
        one_around (seated_frame a (frame_trail K proper 0 a h (around_trail more inner p))) (seated_around more inner p)

  -- ---- a step

  graft_leaf : {A B : Type 0} (f : Focus A) (x : Focus B) → leaf (graft f x) ≡ leaf x
  graft_leaf (Here a) x = refl
  graft_leaf (In fr f) x = graft_leaf f x

  -- no exit leads out of the whole
  abbrev pub Closed : Part → Type 0
  Closed (ABlock false sc b) = (node : ℕ) → aimed node sc.aims ≡ true → (node == (out-KBlock b).node) ≡ false → ⊥
  Closed d = ⊥

  module _ (n : ℕ) where
    abbrev Fine : Part → Moved → Type 0
    Fine d m = Comes K n d m.outcome

    taken_fits : (d : Part) (f : Focus Act) (x : Outcome) → Closed d → Comes K n d x → Comes K n d (taken f x)
    taken_fits (ABlock false sc b) f (Goes g) c h = h
    taken_fits (ABlock false sc b) f (Rests r) c h = h
    taken_fits (ABlock false sc b) f (Raises r) c h = h
    taken_fits (ABlock false sc b) f (Fails e r) c h = h
    taken_fits (ABlock false sc b) f (Ends v) c h = h
    taken_fits (ABlock false sc b) f (Leaves node x) c h = absurd (c node h.0 h.1)
    taken_fits (ABlock false sc b) f x c h = elim h [ ]
    taken_fits d f x c h = elim c [ ]

    answered_fits : (root : Body) (f : Focus Act) (x : Outcome) (w : World) (d e : Part) → Closed d → Sound K proper d → Around K (suc n) Act f d e → Comes K n e x → Comes K n d (answered root f x w).outcome
    answered_fits root f x w d e c h a y = taken_fits d f (up root f x w).outcome c (up_fits K proper n root f x w d e h a y)

    paused : {d : Part} {s : KNode} (u : ℕ) → n < u → Pausing K proper n d s → Fits K u d (Run n (Finish s (pos 0)))
    paused {s = s} u l p = subst (λ d. Fits K u d (Run n (Finish s (pos 0)))) (sym p.is) (to_finish l p.pausing)

    pausing_past : {d : Part} {s : KNode} → Pausing K proper n d s → Comes K n d Past
    pausing_past {s = s} p = subst (λ d. Comes K n d Past) (sym p.is) (no_finalizer s (out-KStmt s.stmt) refl (pauses_no_finalizer (out-KStmt s.stmt) p.pausing))

    pausing_trail : {d : Part} {s : KNode} → Pausing K proper n d s → in_trail d
    pausing_trail p = subst in_trail (sym p.is) p.trail

    emitted_fits : (f : Focus Act) (s : KNode) (event : ℕ) (v : ℤ) (w : World) (d e : Part) → Sound K proper d → Around K (suc n) Act f d e → Pausing K proper n e s → Comes K n d (emitted K n f s event v w).outcome
    emitted_fits f s event v w d e h a p =
        (around_trail a h (pausing_trail p), woken_fits K (suc n) (suc (suc n)) (by_event (n + 1) event v) (by_event_fits K n event v) (event_code event K.events) (omega arith) a (paused (suc n) (omega arith) p))

    spawned_fits : (root body : Body) (f : Focus Act) (s : KNode) (c : KCode) (code pool : ℕ) (alias : Option ℕ) (vs : List ℤ) (w : World) (d e : Part)
        → Closed d → Sound K proper d → Around K (suc n) Act f d e → Pausing K proper n e s → Comes K n e Past → code_at code K.codes ≡ Some c → Comes K n d (spawned n root body f s c code pool alias vs w).outcome
    spawned_fits root body f s c code pool alias vs w d e cl h a p past q = go (free_place pool f)
      where
        go : (o : Option ℕ) → Fine d (elim o [
          | None ↦ answered root f Past (marked mark.Full (set_alias body alias NotSet w))
          | Some place ↦ spawned_at n body f s c code pool place alias vs w
        ])
        go None = answered_fits root f Past _ d e cl h a past
        go (Some place) = inner (w.given == 4294967295)
          where
            seat : Seat
            seat = record { pool = pool; place = place; code = code; number = w.given + 1 }

            u : World
            u = set_parameters (InstanceBody (w.given + 1)) c.params vs (set_alias body alias (Names (w.given + 1)) (record w { given = w.given + 1; living = (w.given + 1) ∷ w.living }))

            inner : (b : Bool) → Fine d (if b then moved (Fails (SpawnCount, s.pos) (plug f Over)) w else
                moved (Raises (plug (seated seat (Run (n + 1) (Begin c.body)) f) (Run n (Finish s (pos 0))))) (marked (mark.Push (n + 1)) (marked (mark.Spawned (w.given + 1)) u)))
            inner true = tt
            inner false =
                let b = around_raised K {t = suc n} {u = suc (suc n)} (omega arith) a in (
                  around_trail a h (pausing_trail p),
                  plug_fits K (seated_around (suc (suc n)) seat (Run (n + 1) (Begin c.body)) c q (to_begin (omega arith)) b h (pausing_trail p)) (paused (suc (suc n)) (omega arith) p),
                )

    does_fits : (root body : Body) (f : Focus Act) (x : Does) (w : World) (d e : Part) → Closed d → Sound K proper d → Around K (suc n) Act f d e → DoesFit K proper n e x → Comes K n d (does_in K n root body f x w).outcome
    does_fits root body f (does.Opens x) w d e c h a y = record { part = y.part; around = graft_around K a y.around; acts = subst (ActFits y.part) (sym (graft_leaf f x)) y.acts }
    does_fits root body f (does.Waits r) w d e c h a y = (around_trail a h y.0, plug_fits K a y.1)
    does_fits root body f does.Passes w d e c h a y = answered_fits root f Past w d e c h a y
    does_fits root body f (does.Leaves node x) w d e c h a y = answered_fits root f (Leaves node x) w d e c h a y
    does_fits root body f (does.Registers s) w d e c h a y = answered_fits root f (Registers s) w d e c h a y
    does_fits root body f does.Ends w d e c h a y = answered_fits root f AtBlockEnd w d e c h a y
    does_fits root body f does.Heads w d e c h a y = answered_fits root f AtLoopHead w d e c h a y
    does_fits root body f (does.Emits s event v) w d e c h a y = emitted_fits f s event v w d e h a y
    does_fits root body f (does.Spawns s k code pool alias vs) w d e c h a y = spawned_fits root body f s k code pool alias vs w d e c h a y.0 (pausing_past y.0) y.1
    does_fits root body f (does.Kills k) w d e c h a y = answered_fits root (unseat k f) Past (killed k f w) d e c h (unseated_around (suc n) k a) y
    does_fits root body f (does.Fails z) w d e c h a y = tt

    pub stepped_fits : (root : Body) (f : Focus Act) (w : World) (d : Part) → Closed d → Sound K proper d → TurnFits K (suc n) d f → Comes K n d (stepped K n root f w).outcome
    unfolding stepped
    stepped_fits root f w d c h x =
        let m = acted K n (body_of f root) (leaf f) w in
        does_fits root (body_of f root) f m.does m.world d x.part c h x.around (acted_fits K proper n (body_of f root) x.part (leaf f) w (around_sound x.around h) x.acts)
