-- The trail of an async runs no finalizer: none is registered around it, and no instance lives there. So its steps note no fault of one.
use Rattle.std.proofs.Common.{◌≡◌, refl, sym, ap, ◌∙◌, subst, ℕ, ◌+◌, ℤ, pos, ◌+ℤ◌, int_lt, Bool, true, false, if◌then◌else◌, ◌==◌, List, [], ◌∷◌, ◌++◌, Option, Some, None, Result, Ok, Err}
use Rattle.std.proofs.lemmas.Bool.{and_parts, false≢true}
use Rattle.ceu_base.specs.declared.kinds.Pos.{Pos}
use Rattle.ceu_base.specs.declared.kinds.Fault.{Fault}
use Rattle.ceu_base.specs.declared.kinds.Fault.TheVariants.{SpawnCount, LoopLimit}
use Rattle.ceu_base.specs.declared.kinds.Mark.TheVariants as mark
use Rattle.ceu_tree.specs.declared.kernel.Kernel.{Kernel}
use Rattle.ceu_tree.specs.declared.kernel.KCode.{KCode}
use Rattle.ceu_tree.specs.declared.kernel.KLoop.{KLoop}
use Rattle.ceu_tree.specs.declared.kernel.KLoop.TheVariants as turns
use Rattle.ceu_tree.specs.declared.kernel.Loc.{Loc}
use Rattle.ceu_tree.specs.declared.kernel.KNode.{KNode}
use Rattle.ceu_tree.specs.declared.kernel.KBlock.{KBlock, out-KBlock}
use Rattle.ceu_tree.specs.declared.kernel.KStmt.{KStmt, out-KStmt, Finalize}
use Rattle.ceu_tree.specs.declared.kernel.KStmt.TheOpen.{KStmt-F}
use Rattle.ceu_tree.specs.Residual.{Body, Awaited, Spawned as InstanceBody, Act, Begin, Start, Finish, Counter, Turns, Upward, Seat, Over, Run, Loop, Instances, no_instance}
use Rattle.ceu_tree.specs.Focus.{Frame, OfBlock, OfInstance, OfOpen, OfLoop, OfCall, OfPar, Focus, Here, In, plug, leaf, body_in, body_of}
use Rattle.ceu_tree.specs.World.{World, Holds, NotSet, Names, marked, set, assign_if, set_alias, set_parameters}
use Rattle.ceu_tree.specs.Expressions.{value_of, value_if, values_of}
use Rattle.ceu_tree.specs.Abort.{forget_loop, aborted, closed}
use Rattle.ceu_tree.specs.Leaf as does
use Rattle.ceu_tree.specs.Leaf.{Layer, Exit, Escape, Break, Continue, Does, Done, done, or_fails, chosen_part, loop_reached, called, spawning, target, code_at, started, acted}
use Rattle.ceu_tree.specs.Around.{Outcome, Goes, Rests, Raises, Fails, Past, Registers, AtBlockEnd, AtLoopHead, Ends, Leaves, Moved, moved, value_with, body_left, open_left, begins_turn, turn_of, next_turn, loop_exit, loop_left, through, up, answered}
use Rattle.ceu_tree.specs.Step.{free_place, seated, spawned_at, spawned, unseated, unseat, killed_in, killed, does_in, stepped}
use Rattle.ceu_tree.specs.Legal.{is_finalizer, finalizers_of}
use Rattle.ceu_tree.specs.Proper.{Scope, is_trail, stmt_ok, is_proper}
use Rattle.laws_meaning_basics.proofs.Balance.{forget_declared_quiet, forget_loop_quiet}
use Rattle.laws_meaning_basics.proofs.LeafBalance.{set_parameters_quiet, set_alias_quiet}
use Rattle.laws_meaning_basics.specs.Shape.{Part, block_scope, AllFit, none_lives, one_lives, FrameFits, around_statement, around_end, around_instance, around_part, around_turn, around_call, around_branch, Around, nothing_around, one_around, in_trail}
use Rattle.laws_meaning_basics.proofs.Static.{names_of, nodes_fine, block_static}
use Rattle.laws_meaning_basics.proofs.UpFits.{Sound, layer_of, frame_sound, frame_trail}

-- ---- parts around a leaf in which no finalizer is registered and no instance lives

abbrev Calm : Frame → Type 0
Calm (OfBlock b fin all rest) = (fin ≡ []) × (all ≡ no_instance)
Calm (OfOpen s) = Unit {0}
Calm (OfLoop s c) = Unit {0}
Calm fr = ⊥

abbrev pub CalmFocus : Focus Act → Type 0
CalmFocus (Here a) = Unit {0}
CalmFocus (In fr f) = Calm fr × CalmFocus f

closed_calm : (b : KBlock) (fin : List KNode) (all : Instances) (body : Body) (w : World) → fin ≡ [] → all ≡ no_instance → (closed b fin all body w).fault ≡ w.fault
unfolding aborted
closed_calm b fin all body w e f =
    subst (λ x. (closed b x all body w).fault ≡ w.fault) (sym e)
    (subst (λ x. (closed b [] x body w).fault ≡ w.fault) (sym f) (forget_declared_quiet body (out-KBlock b).decls w).fault)

plug_calm : (f : Focus Act) → CalmFocus f → (body : Body) (w : World) → (aborted (plug f Over) body w).fault ≡ w.fault
unfolding aborted
plug_calm (Here a) h body w = refl
plug_calm (In (OfBlock b fin all rest) f) h body w = closed_calm b fin all body (aborted (plug f Over) body w) h.0.0 h.0.1 ∙ plug_calm f h.1 body w
plug_calm (In (OfOpen s) f) h body w = plug_calm f h.1 body w
plug_calm (In (OfLoop s c) f) h body w = (forget_loop_quiet body s.stmt (aborted (plug f Over) body w)).fault ∙ plug_calm f h.1 body w
plug_calm (In (OfInstance b fin front seat back r rest) f) h body w = absurd h.0
plug_calm (In (OfCall s) f) h body w = absurd h.0
plug_calm (In (OfPar s front back) f) h body w = absurd h.0

assign_calm : (body : Body) (t : Option Loc) (v : ℤ) (w : World) → (assign_if body t v w).fault ≡ w.fault
assign_calm body None v w = refl
assign_calm body (Some l) v w = refl

turn_calm : (s : KNode) (k : KLoop) (b : KBlock) (c : Counter) (body : Body) (w : World) → (turn_of s k b c body w).world.fault ≡ w.fault
turn_calm s (turns.Times slot limit) b (Turns k) body w = go (k == limit)
  where
    go : (x : Bool) → (if x then moved (Fails (LoopLimit, s.pos) (Loop s (Turns k) Over)) w else begins_turn s (Turns (k + 1)) b w).world.fault ≡ w.fault
    go true = refl
    go false = refl
turn_calm s (turns.Range i next end open_a y z open_b) b (Upward n last) body w = go (int_lt last n)
  where
    go : (x : Bool) → (if x then moved Past (forget_loop body s.stmt w) else begins_turn s (Upward (n +ℤ pos 1) last) b (set body i (Holds n) w)).world.fault ≡ w.fault
    go true = (forget_loop_quiet body s.stmt w).fault
    go false = refl
turn_calm s k b c body w = refl

next_calm : (s : KNode) (layer : Layer) (c : Counter) (body : Body) (w : World) → (next_turn s layer c body w).world.fault ≡ w.fault
next_calm s (KStmt-F.Loop k b) c body w = turn_calm s k b c body w
next_calm s layer c body w = refl

exit_calm : (s : KNode) (c : Counter) (x : Exit) (body : Body) (w : World) → (loop_exit s c x body w).world.fault ≡ w.fault
exit_calm s c Continue body w = refl
exit_calm s c Break body w = (forget_loop_quiet body s.stmt w).fault
exit_calm s c (Escape v) body w = (forget_loop_quiet body s.stmt w).fault

through_calm : (body : Body) (fr : Frame) (f : Focus Act) (x : Outcome) (w : World) → Calm fr → CalmFocus f → (through body fr f x w).world.fault ≡ w.fault
through_calm body fr f (Goes g) w h k = refl
through_calm body fr f (Rests r) w h k = refl
through_calm body fr f (Raises r) w h k = refl
through_calm body fr f (Fails e r) w h k = refl
through_calm body (OfBlock b fin all rest) f AtBlockEnd w h k = closed_calm b fin all body w h.0 h.1
through_calm body (OfBlock b fin all rest) f (Leaves node x) w h k = go (node == (out-KBlock b).node)
  where
    go : (c : Bool) → (body_left c b fin all f body node x w).world.fault ≡ w.fault
    go true = closed_calm b fin all body (aborted (plug f Over) body w) h.0 h.1 ∙ plug_calm f k body w
    go false = refl
through_calm body (OfBlock b fin all rest) f x w h k = refl
through_calm body (OfOpen s) f (Ends v) w h k = assign_calm body (target s) v w
through_calm body (OfOpen s) f (Leaves node x) w h k = go (node == s.node)
  where
    go : (c : Bool) → (open_left c s f body node x w).world.fault ≡ w.fault
    go true = assign_calm body (target s) (value_with x) (aborted (plug f Over) body w) ∙ plug_calm f k body w
    go false = refl
through_calm body (OfOpen s) f x w h k = refl
through_calm body (OfLoop s c) f AtLoopHead w h k = next_calm s (out-KStmt s.stmt) c body w
through_calm body (OfLoop s c) f (Leaves node x) w h k = go (node == s.node)
  where
    go : (b : Bool) → (loop_left b s c f body node x w).world.fault ≡ w.fault
    go true = exit_calm s c x body (aborted (plug f Over) body w) ∙ plug_calm f k body w
    go false = refl
through_calm body (OfLoop s c) f x w h k = refl
through_calm body (OfInstance b fin front seat back r rest) f x w h k = absurd h
through_calm body (OfCall s) f x w h k = absurd h
through_calm body (OfPar s front back) f x w h k = absurd h

up_calm : (body : Body) (f : Focus Act) (x : Outcome) (w : World) → CalmFocus f → (up body f x w).world.fault ≡ w.fault
unfolding up
up_calm body (Here a) x w h = refl
up_calm body (In fr f) x w h =
    let m = up (body_in fr body) f x w in
    through_calm body fr f m.outcome m.world h.0 h.1 ∙ up_calm (body_in fr body) f x w h.1

unseat_calm : (k : ℕ) (f : Focus Act) → CalmFocus f → CalmFocus (unseat k f)
unseat_calm k (Here a) h = tt
unseat_calm k (In (OfBlock b fin all rest) f) h = ((h.0.0, ap (unseated k) h.0.1), unseat_calm k f h.1)
unseat_calm k (In (OfOpen s) f) h = (tt, unseat_calm k f h.1)
unseat_calm k (In (OfLoop s c) f) h = (tt, unseat_calm k f h.1)
unseat_calm k (In (OfInstance b fin front seat back r rest) f) h = absurd h.0
unseat_calm k (In (OfCall s) f) h = absurd h.0
unseat_calm k (In (OfPar s front back) f) h = absurd h.0

killed_calm : (k : ℕ) (f : Focus Act) (w : World) → CalmFocus f → (killed k f w).fault ≡ w.fault
killed_calm k (Here a) w h = refl
killed_calm k (In (OfBlock b fin all rest) f) w h = killed_calm k f (killed_in k all w) h.1 ∙ ap (λ x. (killed_in k x w).fault) h.0.1
killed_calm k (In (OfOpen s) f) w h = killed_calm k f w h.1
killed_calm k (In (OfLoop s c) f) w h = killed_calm k f w h.1
killed_calm k (In (OfInstance b fin front seat back r rest) f) w h = absurd h.0
killed_calm k (In (OfCall s) f) w h = absurd h.0
killed_calm k (In (OfPar s front back) f) w h = absurd h.0

-- ---- a step there

abbrev Same : World → Moved → Type 0
Same w m = m.world.fault ≡ w.fault

module _ (K : Kernel) (n : ℕ) (root body : Body) (f : Focus Act) (h : CalmFocus f) where
  spawned_calm : (s : KNode) (c : KCode) (code pool : ℕ) (alias : Option ℕ) (vs : List ℤ) (w : World) → (spawned n root body f s c code pool alias vs w).world.fault ≡ w.fault
  spawned_calm s c code pool alias vs w = go (free_place pool f)
    where
      number : ℕ
      number = w.given + 1

      u : World
      u = record w { given = number; living = number ∷ w.living }

      at : (place : ℕ) → (spawned_at n body f s c code pool place alias vs w).world.fault ≡ w.fault
      at place = inner (w.given == 4294967295)
        where
          seat : Seat
          seat = record { pool = pool; place = place; code = code; number = number }

          inner : (b : Bool) → (if b then moved (Fails (SpawnCount, s.pos) (plug f Over)) w else moved (Raises (plug (seated seat (Run (n + 1) (Begin c.body)) f) (Run n (Finish s (pos 0))))) (marked (mark.Push (n + 1)) (marked (mark.Spawned number) (set_parameters (InstanceBody number) c.params vs (set_alias body alias (Names number) u))))).world.fault ≡ w.fault
          inner true = refl
          inner false = (set_parameters_quiet (InstanceBody number) c.params vs (set_alias body alias (Names number) u)).fault ∙ (set_alias_quiet body alias (Names number) u).fault

      go : (o : Option ℕ) → Same w (elim o [
        | None ↦ answered root f Past (marked mark.Full (set_alias body alias NotSet w))
        | Some place ↦ spawned_at n body f s c code pool place alias vs w
      ])
      go None = up_calm root f Past (marked mark.Full (set_alias body alias NotSet w)) h ∙ (set_alias_quiet body alias NotSet w).fault
      go (Some place) = at place

  does_calm : (d : Does) (w : World) → (does_in K n root body f d w).world.fault ≡ w.fault
  does_calm (does.Opens x) w = refl
  does_calm (does.Waits r) w = refl
  does_calm does.Passes w = up_calm root f Past w h
  does_calm (does.Leaves node x) w = up_calm root f (Leaves node x) w h
  does_calm (does.Registers s) w = up_calm root f (Registers s) w h
  does_calm does.Ends w = up_calm root f AtBlockEnd w h
  does_calm does.Heads w = up_calm root f AtLoopHead w h
  does_calm (does.Emits s event v) w = refl
  does_calm (does.Spawns s c code pool alias vs) w = spawned_calm s c code pool alias vs w
  does_calm (does.Kills k) w = up_calm root (unseat k f) Past (killed k f w) (unseat_calm k f h) ∙ killed_calm k f w h
  does_calm (does.Fails e) w = refl

fails_calm : {A : Type 0} (a : Result A (Fault × Pos)) (w : World) (go : A → Done) → ((x : A) → (go x).world.fault ≡ w.fault) → (or_fails a w go).world.fault ≡ w.fault
fails_calm (Ok x) w go h = h x
fails_calm (Err e) w go h = refl

loop_calm : (s : KNode) (k : KLoop) (body : Body) (w : World) → (loop_reached s k body w).world.fault ≡ w.fault
loop_calm s turns.Free body w = refl
loop_calm s (turns.Times slot n) body w = refl
loop_calm s (turns.Range i next end open_a a b open_b) body w = fails_calm (value_of a body w) w _ (λ x. fails_calm (value_of b body w) w _ (λ y. refl))

called_calm : (s : KNode) (c : Option KCode) (vs : List ℤ) (body : Body) (w : World) → (called s c vs body w).world.fault ≡ w.fault
called_calm s None vs body w = refl
called_calm s (Some c) vs body w = (set_parameters_quiet (Awaited body s.node) c.params vs w).fault

spawning_calm : (s : KNode) (c : Option KCode) (code pool : ℕ) (alias : Option ℕ) (vs : List ℤ) (w : World) → (spawning s c code pool alias vs w).world.fault ≡ w.fault
spawning_calm s None code pool alias vs w = refl
spawning_calm s (Some c) code pool alias vs w = refl

started_calm : (K : Kernel) (n : ℕ) (body : Body) (s : KNode) (layer : Layer) (w : World) → (started K n body s layer w).world.fault ≡ w.fault
started_calm K n body s (KStmt-F.Assign l e) w = fails_calm (value_of e body w) w _ (λ v. refl)
started_calm K n body s (KStmt-F.Out k e) w = fails_calm (value_if e body w) w _ (λ v. refl)
started_calm K n body s (KStmt-F.Emit k e) w = fails_calm (value_if e body w) w _ (λ v. refl)
started_calm K n body s (KStmt-F.AwaitTime e u t) w = fails_calm (value_of e body w) w _ (λ v. refl)
started_calm K n body s (KStmt-F.AwaitCode c es frame t) w = fails_calm (values_of es body w) w _ (λ vs. called_calm s (code_at c K.codes) vs body w)
started_calm K n body s (KStmt-F.Spawn c es pool alias) w = fails_calm (values_of es body w) w _ (λ vs. spawning_calm s (code_at c K.codes) c pool alias vs w)
started_calm K n body s (KStmt-F.Escape node e) w = fails_calm (value_if e body w) w _ (λ v. refl)
started_calm K n body s (KStmt-F.If arms last) w = fails_calm (chosen_part arms last body w) w _ (λ b. refl)
started_calm K n body s (KStmt-F.Loop k b) w = loop_calm s k body w
started_calm K n body s layer w = refl

acted_calm : (K : Kernel) (n : ℕ) (body : Body) (a : Act) (w : World) → (acted K n body a w).world.fault ≡ w.fault
acted_calm K n body (Start s) w = started_calm K n body s (out-KStmt s.stmt) w
acted_calm K n body (Finish s v) w = assign_calm body (target s) v w
acted_calm K n body a w = refl

pub stepped_calm : (K : Kernel) (n : ℕ) (root : Body) (f : Focus Act) (w : World) → CalmFocus f → (stepped K n root f w).world.fault ≡ w.fault
unfolding stepped
stepped_calm K n root f w h =
    let d = acted K n (body_of f root) (leaf f) w in
    does_calm K n root (body_of f root) f h d.does d.world ∙ acted_calm K n (body_of f root) (leaf f) w

-- ---- what stands outside trails is such

apart : (t : Bool) → (t ≡ true → ⊥) → t ≡ false
apart false h = refl
apart true h = absurd (h refl)

module _ (K : Kernel) (proper : is_proper K ≡ true) where
  no_finalizer : (sc : Scope) (n : ℕ) (s : KStmt) → stmt_ok K (names_of K) sc n s ≡ true → is_trail sc.place ≡ false → is_finalizer s ≡ false
  unfolding stmt_ok
  no_finalizer sc n (Finalize b) h e = absurd (false≢true (sym e ∙ (and_parts (is_trail sc.place) _ h).0))
  no_finalizer sc n s h e = refl

  front_fine : (sc : Scope) (front back : List KNode) → nodes_fine K (names_of K) sc (front ++ back) → nodes_fine K (names_of K) sc front
  front_fine sc [] back h = tt
  front_fine sc (s ∷ front) back h = (h.0, front_fine sc front back h.1)

  none_found : (sc : Scope) (list found : List KNode) → nodes_fine K (names_of K) sc list → is_trail sc.place ≡ false → finalizers_of found list ≡ found
  none_found sc [] found h e = refl
  none_found sc (s ∷ list) found h e =
      ap (λ b. finalizers_of (if b then s ∷ found else found) list) (no_finalizer sc s.node s.stmt h.0 e) ∙ none_found sc list found h.1 e

  none_live : {t : ℕ} {sc : Scope} {all : Instances} → AllFit K t sc all → is_trail sc.place ≡ false → all ≡ no_instance
  none_live none_lives e = refl
  none_live (one_lives k p c fit rest) e = absurd (false≢true (sym e ∙ p))

  frame_calm : {t : ℕ} {fr : Frame} {d e : Part} → FrameFits K t fr d e → Sound K proper d → (in_trail d → ⊥) → Calm fr
  frame_calm (around_statement {sc = sc} {b = b} {rest = rest} {s = s} done e f all) h p =
      let z = apart (is_trail sc.place) p in
      let fine = front_fine (block_scope sc b) done (s ∷ rest) (subst (nodes_fine K (names_of K) (block_scope sc b)) e (block_static K (names_of K) sc b h)) in
      (f ∙ none_found (block_scope sc b) done [] fine z, none_live all z)
  frame_calm (around_end {sc = sc} {b = b} f all) h p =
      let z = apart (is_trail sc.place) p in
      (f ∙ none_found (block_scope sc b) (out-KBlock b).list [] (block_static K (names_of K) sc b h) z, none_live all z)
  frame_calm (around_instance done k e f r before after q c) h p = p q
  frame_calm (around_part b x) h p = tt
  frame_calm (around_turn k b e c) h p = tt
  frame_calm (around_call {sc = sc} {s = s} c es f t k e g) h p = p (layer_of K proper sc s (KStmt-F.AwaitCode c es f t) e h).0
  frame_calm (around_branch {sc = sc} {s = s} k slot bs b cs e x y) h p = p (layer_of K proper sc s (KStmt-F.Par k slot (bs ++ b ∷ cs)) e h).0

  pub around_calm : {t : ℕ} {f : Focus Act} {d e : Part} → Around K t Act f d e → Sound K proper d → (in_trail d → ⊥) → CalmFocus f
  around_calm nothing_around h p = tt
  around_calm (one_around a more) h p = (frame_calm a h p, around_calm more (frame_sound K proper a h) (λ q. p (frame_trail K proper 0 a h q)))
