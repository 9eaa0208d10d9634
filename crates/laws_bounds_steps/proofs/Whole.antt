-- A step of a turn pays in the whole tree: kills, spawns and emissions too.
use Rattle.std.proofs.Common.{◌≡◌, refl, sym, ap, ◌∙◌, subst, ℕ, suc, ◌+◌, ℤ, pos, Bool, true, false, if◌then◌else◌, ◌==◌, List, [], ◌∷◌, Option, Some, None, Result, Ok, Err, arith}
use Rattle.std.proofs.lemmas.Bool.{false≢true}
use Rattle.ceu_base.specs.declared.kinds.Pos.{Pos}
use Rattle.ceu_base.specs.declared.kinds.Fault.{Fault}
use Rattle.ceu_base.specs.declared.kinds.Fault.TheVariants.{SpawnCount}
use Rattle.ceu_base.specs.declared.kinds.Mark.TheVariants as mark
use Rattle.ceu_tree.specs.declared.kernel.Kernel.{Kernel}
use Rattle.ceu_tree.specs.declared.kernel.KCode.{KCode}
use Rattle.ceu_tree.specs.declared.kernel.KExp.{KExp}
use Rattle.ceu_tree.specs.declared.kernel.KNode.{KNode}
use Rattle.ceu_tree.specs.declared.kernel.KStmt.{out-KStmt}
use Rattle.ceu_tree.specs.declared.kernel.KStmt.TheOpen.{KStmt-F}
use Rattle.ceu_tree.specs.Residual.{Body, Program, Spawned as InstanceBody, Act, Begin, Start, Finish, Seat, Residual, Over, Run}
use Rattle.ceu_tree.specs.Focus.{Focus, plug, graft, leaf, body_of}
use Rattle.ceu_tree.specs.World.{World, Cell, NotSet, Names, marked, set_alias, set_parameters, look}
use Rattle.ceu_tree.specs.Expressions.{names_living, value_if, values_of}
use Rattle.ceu_tree.specs.Wake.{by_event, woken}
use Rattle.ceu_tree.specs.Leaf as does
use Rattle.ceu_tree.specs.Leaf.{Layer, Does, Done, done, or_fails, code_at, spawning, killing, started, acted}
use Rattle.ceu_tree.specs.Around.{Outcome, Goes, Rests, Raises, Fails, Past, Registers, AtBlockEnd, AtLoopHead, Leaves, Moved, moved, answered}
use Rattle.ceu_tree.specs.Paths.{ToEnd, is_end}
use Rattle.ceu_tree.specs.Costs.{Cost, cost, nothing, plus, cost_at, enter_block}
use Rattle.ceu_tree.specs.Step.{event_code, free_place, seated, spawned_at, spawned, unseat, killed, does_in, stepped}
use Rattle.ceu_tree.specs.Proper.{Scope, is_proper}
use Rattle.laws_meaning_basics.specs.Shape.{Part, AStatement, program_part, Around, ActFits, begins, heads, goes_again, starts, finishes, ends, TurnFits}
use Rattle.laws_meaning_basics.specs.Shape as shape
use Rattle.laws_meaning_basics.proofs.LeafFits.{pauses_no_finalizer, Pausing, DoesFit, acted_fits}
use Rattle.laws_meaning_basics.proofs.StepFits.{around_sound, unseated_around}
use Rattle.laws_meaning_basics.proofs.UpFits.{no_finalizer, Sound}
use Rattle.laws_meaning_basics.proofs.RunFits.{root_sound}
use Rattle.laws_meaning_instances.specs.Instances.{pools_stand}
use Rattle.laws_meaning_instances.proofs.Trees.{unplugged}
use Rattle.laws_meaning_instances.proofs.Spawns.{one_has}
use Rattle.laws_meaning_instances.proofs.Rooms.{acted_room}
use Rattle.laws_meaning_instances.proofs.Steps.{SpawnFine}
use Rattle.laws_meaning_instances.proofs.Reactions.{room_fine}
use Rattle.ceu_endings.specs.Counted.{focus_counted}
use Rattle.laws_bounds_steps.specs.Ways.{act_ways, ways}
use Rattle.laws_bounds_steps.specs.Due.{is_await, due}
use Rattle.laws_bounds_steps.specs.Pays.{Within, IsOf, Fewer, Pays, Leaving, Comes, focus_keeps}
use Rattle.laws_bounds_steps.specs.Kept.{starts_kept, act_kept, CodesPay}
use Rattle.laws_bounds_steps.specs.Heads.{EmissionsPay}
use Rattle.laws_bounds_steps.specs.Whole.{PaidBy, WakingCosts}
use Rattle.laws_bounds_steps.proofs.Cost.{chain}
use Rattle.laws_bounds_steps.proofs.Beyond.{leaf_unseated, unseat_counted, unseat_keeps, unseat_less, seated_more}
use Rattle.laws_bounds_steps.proofs.Opened.{quick_layer, quick_is, enter_layer, enter_is}
use Rattle.laws_bounds_steps.proofs.WayLists.{any_sub}
use Rattle.laws_bounds_steps.proofs.Through.{plug_pays, graft_pays}
use Rattle.laws_bounds_steps.proofs.Started.{StartsAt, DoesPay, CallPays, ActCalls, acted_pays}
use Rattle.laws_bounds_steps.proofs.Turns.{leaf_starts, calls_known, answered_pays}

-- ---- sums

-- an emission: q is what is woken, p what was there, and h what is reached
emitted_sum : (h c p q r : Cost) → Within (plus (cost 1 1) h) c → Within q (plus p h) → Within (plus c p) r → Within (plus (cost 1 1) q) r
emitted_sum h c p q r x y z =
    let x0 = x.turns in let x1 = x.opens in let y0 = y.turns in let y1 = y.opens in let z0 = z.turns in let z1 = z.opens in record { turns = omega (arith, x0, y0, z0); opens = omega (arith, x1, y1, z1) }

-- a spawn: b is what the instance's body enters
spawned_sum : (b c p q r : Cost) → c ≡ b → Within q (plus (plus (cost 1 0) b) p) → Within (plus (plus (cost 2 1) c) p) r → Within (plus (cost 1 1) q) r
spawned_sum b c p q r e y z = go (subst (λ a. Within (plus (plus (cost 2 1) a) p) r) e z)
  where
    go : Within (plus (plus (cost 2 1) b) p) r → Within (plus (cost 1 1) q) r
    go z = let y0 = y.turns in let y1 = y.opens in let z0 = z.turns in let z1 = z.opens in record { turns = omega (arith, y0, z0); opens = omega (arith, y1, z1) }

-- ---- the statement that a leaf starts

record At (d : Part) (s : KNode) : Type 0 where
  scope : Scope
  is : d ≡ AStatement scope s

at_start : {d : Part} {a : Act} (s : KNode) → ActFits d a → a ≡ Start s → At d s
at_start s (starts {sc = sc} {s = t}) e = let same : t ≡ s = (cc) in record { scope = sc; is = ap (AStatement sc) same }
at_start s begins e = absurd (cc)
at_start s heads e = absurd (cc)
at_start s goes_again e = absurd (cc)
at_start s (finishes p) e = absurd (cc)
at_start s ends e = absurd (cc)

module _ (P : List Bool) (E N : List Cost) (n : ℕ) where
  pub paid_more : (p r : Residual) (x : Outcome) → Within (due P E N p) (due P E N r) → PaidBy P E N n p x → PaidBy P E N n r x
  paid_more p r (Goes g) l h = chain _ _ _ h l
  paid_more p r (Rests q) l h = chain _ _ _ h l
  paid_more p r (Raises q) l h = chain _ _ _ h l
  paid_more p r x l h = tt

  no_more : (a b : Cost) → Within (plus nothing a) b → Within a b
  no_more a b h = let h0 = h.turns in let h1 = h.opens in record { turns = omega (arith, h0); opens = omega (arith, h1) }

  no_more_after : (a b : Cost) → Within a (plus nothing b) → Within a b
  no_more_after a b h = let h0 = h.turns in let h1 = h.opens in record { turns = omega (arith, h0); opens = omega (arith, h1) }

  pub paid_whole : (d : Part) (r : Residual) (x : Outcome) → Comes P E N n d r x → PaidBy P E N n r x
  paid_whole d r (Goes g) h = no_more _ _ h.costs
  paid_whole d r (Rests q) h = h.costs
  paid_whole d r (Raises q) h = h.costs
  paid_whole d r x h = tt

  -- a leaf that pauses at its statement pays what the statement's start costs
  paused_pays : (k : Cost) (sc : Scope) (s : KNode) (layer : Layer) (v : ℤ) → out-KStmt s.stmt ≡ layer → enter_layer P E N s.node layer ≡ k → quick_layer P s.node layer ≡ (ToEnd ∷ []) → is_await layer ≡ false
      → Pays P E N (AStatement sc s) k (Run n (Finish s v)) (Run n (Start s))
  unfolding due ways
  paused_pays k sc s layer v e c q a =
      let f : Fewer (ToEnd ∷ []) (act_ways P (Start s)) = λ w i. subst (λ p. IsOf p w) (sym (quick_is P s.node s.stmt ∙ ap (quick_layer P s.node) e ∙ q)) i in record {
        costs = subst (λ x. Within (plus k (plus (cost 1 0) nothing)) (plus (cost 1 0) x)) (sym (enter_is P E N s.node s.stmt ∙ ap (enter_layer P E N s.node) e ∙ c)) (turned k);
        fewer = f;
        ended = λ x. any_sub is_end (ToEnd ∷ []) _ f refl;
        head = λ p h. absurd (false≢true p);
        await = λ h. absurd (false≢true (sym (ap is_await e ∙ a) ∙ h));
      }
    where
      turned : (k : Cost) → Within (plus k (plus (cost 1 0) nothing)) (plus (cost 1 0) k)
      turned k = record { turns = omega arith; opens = omega arith }

  module _ (K : Kernel) (proper : is_proper K ≡ true) (f : Focus Act) (t : TurnFits K (suc n) (program_part K) f) where
    abbrev pub PaidMove : Moved → Type 0
    PaidMove m = PaidBy P E N n (plug f (Run n (leaf f))) m.outcome

    paused : (k : Cost) (s : KNode) (layer : Layer) (v : ℤ) → leaf f ≡ Start s → out-KStmt s.stmt ≡ layer → enter_layer P E N s.node layer ≡ k → quick_layer P s.node layer ≡ (ToEnd ∷ []) → is_await layer ≡ false
        → Within (plus k (due P E N (plug f (Run n (Finish s v))))) (due P E N (plug f (Run n (leaf f))))
    paused k s layer v i e c q a =
        let here = at_start s t.acts i in
        let around = subst (Around K (suc n) Act f (program_part K)) here.is t.around in
        subst (λ b. Within (plus k (due P E N (plug f (Run n (Finish s v))))) (due P E N (plug f (Run n b)))) (sym i)
        (plug_pays P E N n f k (Run n (Finish s v)) (Run n (Start s)) (program_part K) (AStatement here.scope s) around (paused_pays k here.scope s layer v e c q a)).costs

    -- ---- emissions

    pub emitted_paid : (s : KNode) (e : ℕ) (x : Option KExp) (v : ℤ) → leaf f ≡ Start s → out-KStmt s.stmt ≡ KStmt-F.Emit e x → pools_stand (plug f Over) → EmissionsPay P E N K → WakingCosts P E N K
        → Within (plus (cost 1 1) (due P E N (woken (event_code e K.events) (by_event (n + 1) e v) f (Run n (Finish s (pos 0)))))) (due P E N (plug f (Run n (leaf f))))
    emitted_paid s e x v i l pools emissions waking =
        emitted_sum _ (cost_at e E) _ _ _ (emissions.reach n f s e x t pools i l) (waking n f s e x v proper t i l) (paused (cost_at e E) s (KStmt-F.Emit e x) (pos 0) i l refl refl refl)

    -- ---- spawns

    pub seated_paid : (s : KNode) (c : ℕ) (es : List KExp) (p : ℕ) (a : Option ℕ) (k : KCode) (seat : Seat) → seat.pool ≡ p → seat.code ≡ c → leaf f ≡ Start s → out-KStmt s.stmt ≡ KStmt-F.Spawn c es p a
        → code_at c K.codes ≡ Some k → CodesPay P E N K → one_has p c f
        → Within (plus (cost 1 1) (due P E N (plug (seated seat (Run (n + 1) (Begin k.body)) f) (Run n (Finish s (pos 0)))))) (due P E N (plug f (Run n (leaf f))))
    unfolding due
    seated_paid s c es p a k seat x y i l there codes one =
        let h : one_has seat.pool seat.code f = subst (λ q. one_has q seat.code f) (sym x) (subst (λ q. one_has p q f) (sym y) one) in
        spawned_sum (enter_block P E N k.body) (cost_at c N) _ _ _ (codes.enters c k there) (seated_more P E N seat (Run (n + 1) (Begin k.body)) f (Run n (Finish s (pos 0))) h).whole
        (paused (plus (cost 2 1) (cost_at c N)) s (KStmt-F.Spawn c es p a) (pos 0) i l refl refl refl)

    pausing_past : {d : Part} {s : KNode} → Pausing K proper n d s → shape.Comes K n d Past
    pausing_past {s = s} p = subst (λ d. shape.Comes K n d Past) (sym p.is) (no_finalizer s (out-KStmt s.stmt) refl (pauses_no_finalizer (out-KStmt s.stmt) p.pausing))

    -- what is asked of the program where a leaf reaches beyond its own part
    abbrev pub Asks : Does → Type 0
    Asks (does.Emits s e v) = pools_stand (plug f Over) × EmissionsPay P E N K × WakingCosts P E N K
    Asks (does.Spawns s k c p a vs) = CodesPay P E N K × one_has p c f
    Asks x = Unit {0}

    -- given that a spawn seats once
    abbrev AsksOnce : Done → Type 0
    AsksOnce d = SpawnFine f d.does → Asks d.does

    module _ (counted : focus_counted f) (keeps : focus_keeps P f) where
      past_paid : (x : Outcome) (w : World) → shape.Comes K n t.part x → Comes P E N n t.part (Run n (leaf f)) x → PaidMove (answered Program f x w)
      past_paid x w c h = paid_whole (program_part K) _ (answered Program f x w).outcome (answered_pays P E N K proper n f t.part t.around counted keeps x w c h)

      pub spawned_paid : (body : Body) (s : KNode) (k : KCode) (c p : ℕ) (a : Option ℕ) (vs : List ℤ) (w : World) (es : List KExp) → StartsAt n (Run n (leaf f)) s (KStmt-F.Spawn c es p a) → Leaving P E N (Run n (leaf f)) ToEnd
          → shape.Comes K n t.part Past → code_at c K.codes ≡ Some k → CodesPay P E N K → one_has p c f → PaidMove (spawned n Program body f s k c p a vs w)
      spawned_paid body s k c p a vs w es at l past there codes one = go (free_place p f)
        where
          go : (o : Option ℕ) → PaidMove (elim o [
            | None ↦ answered Program f Past (marked mark.Full (set_alias body a NotSet w))
            | Some place ↦ spawned_at n body f s k c p place a vs w
          ])
          go None = past_paid Past _ past l
          go (Some place) = inner (w.given == 4294967295)
            where
              seat : Seat
              seat = record { pool = p; place = place; code = c; number = w.given + 1 }

              u : World
              u = set_parameters (InstanceBody (w.given + 1)) k.params vs (set_alias body a (Names (w.given + 1)) (record w { given = w.given + 1; living = (w.given + 1) ∷ w.living }))

              inner : (b : Bool) → PaidMove (if b then moved (Fails (SpawnCount, s.pos) (plug f Over)) w else
                  moved (Raises (plug (seated seat (Run (n + 1) (Begin k.body)) f) (Run n (Finish s (pos 0))))) (marked (mark.Push (n + 1)) (marked (mark.Spawned (w.given + 1)) u)))
              inner true = tt
              inner false = seated_paid s c es p a k seat refl refl (leaf_starts n (leaf f) s _ at) at.is there codes one

      -- ---- kills

      pub killed_paid : (k : ℕ) (w : World) → Leaving P E N (Run n (leaf f)) ToEnd → shape.Comes K n t.part Past → PaidMove (answered Program (unseat k f) Past w)
      killed_paid k w l past =
          let g = unseat k f in
          let same_leaf : leaf g ≡ leaf f = leaf_unseated k f in
          let h : Leaving P E N (Run n (leaf g)) ToEnd = subst (λ a. Leaving P E N (Run n a) ToEnd) (sym same_leaf) l in
          let less : Within (due P E N (plug g (Run n (leaf g)))) (due P E N (plug f (Run n (leaf f)))) = subst (λ a. Within (due P E N (plug g (Run n a))) (due P E N (plug f (Run n (leaf f))))) (sym same_leaf) (no_more_after _ _ (unseat_less P E N k f (Run n (leaf f))).whole) in
          paid_more _ _ (answered Program g Past w).outcome less
          (paid_whole (program_part K) _ (answered Program g Past w).outcome (answered_pays P E N K proper n g t.part (unseated_around K proper (suc n) k t.around) (unseat_counted k f counted) (unseat_keeps P k f keeps) Past w past h))

      -- ---- what a leaf does

      pub does_paid : (body : Body) (x : Does) (w : World) → DoesFit K proper n t.part x → DoesPay P E N n t.part (Run n (leaf f)) x → Asks x → PaidMove (does_in K n Program body f x w)
      does_paid body (does.Opens x) w c h a = paid_whole (program_part K) (plug f (Run n (leaf f))) (Goes (graft f x)) (graft_pays P E N n f x (Run n (leaf f)) (program_part K) t.part t.around h)
      does_paid body (does.Waits q) w c h a = paid_whole (program_part K) (plug f (Run n (leaf f))) (Rests (plug f q)) (plug_pays P E N n f (cost 1 0) q (Run n (leaf f)) (program_part K) t.part t.around h)
      does_paid body does.Passes w c h a = past_paid Past w c h
      does_paid body (does.Leaves node x) w c h a = past_paid (Leaves node x) w c h
      does_paid body (does.Registers s) w c h a = past_paid (Registers s) w c h
      does_paid body does.Ends w c h a = past_paid AtBlockEnd w c h
      does_paid body does.Heads w c h a = past_paid AtLoopHead w c h
      does_paid body (does.Emits s e v) w c h a = emitted_paid s e h.0 v (leaf_starts n (leaf f) s _ h.1) h.1.is a.0 a.1 a.2
      does_paid body (does.Spawns s k i p o vs) w c h a = spawned_paid body s k i p o vs w h.0 h.1 h.2 (pausing_past c.0) c.1 a.0 a.1
      does_paid body (does.Kills k) w c h a = killed_paid k (killed k f w) h.3 c
      does_paid body (does.Fails z) w c h a = tt

      step_paid : (w : World) → act_kept P (leaf f) → ActCalls P E N n K (leaf f) → Asks (acted K n (body_of f Program) (leaf f) w).does → PaidMove (stepped K n Program f w)
      unfolding stepped
      step_paid w h calls asks =
          let m = acted K n (body_of f Program) (leaf f) w in
          does_paid (body_of f Program) m.does m.world (acted_fits K proper n (body_of f Program) t.part (leaf f) w (around_sound K proper t.around (root_sound K proper)) t.acts) (acted_pays P E N n K t.part (leaf f) (body_of f Program) w t.acts h calls) asks

    -- ---- the laws

    sound : Sound K proper t.part
    sound = around_sound K proper t.around (root_sound K proper)

    seats_once : (w : World) → pools_stand (plug f Over) → SpawnFine f (acted K n (body_of f Program) (leaf f) w).does
    seats_once w pools = room_fine K proper (acted K n (body_of f Program) (leaf f) w).does t.around (unplugged f Over pools).0 (acted_room K proper n (body_of f Program) t.part (leaf f) w sound t.acts)

    -- what holds of a statement's start
    acted_at : (Q : Done → Type 0) (s : KNode) (layer : Layer) (w : World) → leaf f ≡ Start s → out-KStmt s.stmt ≡ layer → Q (started K n (body_of f Program) s layer w) → Q (acted K n (body_of f Program) (leaf f) w)
    acted_at Q s layer w i e h = subst (λ a. Q (acted K n (body_of f Program) a w)) (sym i) (subst (λ l. Q (started K n (body_of f Program) s l w)) (sym e) h)

    kept_at : (s : KNode) (layer : Layer) → leaf f ≡ Start s → out-KStmt s.stmt ≡ layer → starts_kept P s.node layer → act_kept P (leaf f)
    kept_at s layer i e h = subst (act_kept P) (sym i) (subst (starts_kept P s.node) (sym e) h)

    calls_at : (s : KNode) (layer : Layer) → leaf f ≡ Start s → out-KStmt s.stmt ≡ layer → CallPays P E N n K layer → ActCalls P E N n K (leaf f)
    calls_at s layer i e h = subst (ActCalls P E N n K) (sym i) (subst (CallPays P E N n K) (sym e) h)

    or_fails_at : {A : Type 0} (Q : Done → Type 0) (a : Result A (Fault × Pos)) (w : World) (go : A → Done) → ((e : Fault × Pos) → Q (done (does.Fails e) w)) → ((x : A) → Q (go x)) → Q (or_fails a w go)
    or_fails_at Q (Ok x) w go h k = k x
    or_fails_at Q (Err e) w go h k = h e

    pub kills_pay : (w : World) (s : KNode) (c : ℕ) → focus_counted f → focus_keeps P f → leaf f ≡ Start s → out-KStmt s.stmt ≡ KStmt-F.Kill c → PaidMove (stepped K n Program f w)
    kills_pay w s c counted keeps i e =
        step_paid counted keeps w (kept_at s (KStmt-F.Kill c) i e tt) (calls_at s (KStmt-F.Kill c) i e tt)
        (acted_at (λ d. Asks d.does) s (KStmt-F.Kill c) w i e (asked (look (body_of f Program) c w.values) w.living))
      where
        asked : (o : Option Cell) (living : List ℕ) → Asks (killing o living)
        asked (Some (Names m)) living = go (names_living (Some (Names m)) living)
          where
            go : (b : Bool) → Asks (if b then does.Kills m else does.Passes)
            go true = tt
            go false = tt
        asked o living = tt

    pub spawns_pay : (w : World) (s : KNode) (c : ℕ) (es : List KExp) (p : ℕ) (a : Option ℕ) → focus_counted f → focus_keeps P f → leaf f ≡ Start s → out-KStmt s.stmt ≡ KStmt-F.Spawn c es p a → pools_stand (plug f Over) → CodesPay P E N K
        → PaidMove (stepped K n Program f w)
    spawns_pay w s c es p a counted keeps i e pools codes =
        step_paid counted keeps w (kept_at s (KStmt-F.Spawn c es p a) i e tt) (calls_at s (KStmt-F.Spawn c es p a) i e tt)
        (acted_at AsksOnce s (KStmt-F.Spawn c es p a) w i e (or_fails_at AsksOnce (values_of es (body_of f Program) w) w _ (λ z one. tt) (λ vs. asked (code_at c K.codes) vs)) (seats_once w pools))
      where
        asked : (o : Option KCode) (vs : List ℤ) → AsksOnce (spawning s o c p a vs w)
        asked None vs one = tt
        asked (Some k) vs one = (codes, one)

    pub emits_pay : (w : World) (s : KNode) (e : ℕ) (x : Option KExp) → leaf f ≡ Start s → out-KStmt s.stmt ≡ KStmt-F.Emit e x → pools_stand (plug f Over) → EmissionsPay P E N K → WakingCosts P E N K → PaidMove (stepped K n Program f w)
    unfolding stepped
    emits_pay w s e x i l pools emissions waking =
        acted_at (λ d. PaidMove (does_in K n Program (body_of f Program) f d.does d.world)) s (KStmt-F.Emit e x) w i l
        (or_fails_at (λ d. PaidMove (does_in K n Program (body_of f Program) f d.does d.world)) (value_if x (body_of f Program) w) w _ (λ z. tt) (λ v. emitted_paid s e x v i l pools emissions waking))

    pub any_step_pays : (w : World) → focus_counted f → pools_stand (plug f Over) → focus_keeps P f → act_kept P (leaf f) → CodesPay P E N K → EmissionsPay P E N K → WakingCosts P E N K → PaidMove (stepped K n Program f w)
    any_step_pays w counted pools keeps h codes emissions waking =
        step_paid counted keeps w h (calls_known P E N K proper n codes t.acts sound) (asked (acted K n (body_of f Program) (leaf f) w).does (seats_once w pools))
      where
        asked : (x : Does) → SpawnFine f x → Asks x
        asked (does.Emits s e v) one = (pools, emissions, waking)
        asked (does.Spawns s k c p a vs) one = (codes, one)
        asked (does.Opens x) one = tt
        asked (does.Waits x) one = tt
        asked does.Passes one = tt
        asked (does.Leaves node x) one = tt
        asked (does.Registers s) one = tt
        asked does.Ends one = tt
        asked does.Heads one = tt
        asked (does.Kills k) one = tt
        asked (does.Fails e) one = tt
