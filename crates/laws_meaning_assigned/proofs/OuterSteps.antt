-- A step keeps the program's variables that the code of each instance names set.
use Rattle.std.proofs.Common.{◌≡◌, refl, sym, ◌∙◌, subst, ℕ, suc, ◌+◌, ℤ, pos, Bool, true, false, not, if◌then◌else◌, ◌==◌, ◌||◌, ◌⊎◌, inl, inr, List, [], ◌∷◌, ◌++◌, append_assoc, Option, Some, None, Result, Ok, Err}
use Rattle.std.specs.List.{list_all}
use Rattle.std.proofs.lemmas.Bool.{and_parts, and_from, or_cases, false≢true}
use Rattle.ceu_base.specs.declared.kinds.Mark.TheVariants as mark
use Rattle.ceu_base.specs.declared.kinds.Pos.{Pos}
use Rattle.ceu_base.specs.declared.kinds.Fault.{Fault}
use Rattle.ceu_base.specs.declared.kinds.Fault.TheVariants.{SpawnCount}
use Rattle.ceu_tree.specs.declared.kernel.Kernel.{Kernel}
use Rattle.ceu_tree.specs.declared.kernel.KCode.{KCode}
use Rattle.ceu_tree.specs.declared.kernel.KLoop.{KLoop}
use Rattle.ceu_tree.specs.declared.kernel.KLoop.TheVariants as turns
use Rattle.ceu_tree.specs.declared.kernel.KStmt.TheOpen.{KStmt-F}
use Rattle.ceu_tree.specs.declared.kernel.KNode.{KNode}
use Rattle.ceu_tree.specs.declared.kernel.KBlock.{KBlock, out-KBlock}
use Rattle.ceu_tree.specs.declared.kernel.KStmt.{out-KStmt}
use Rattle.ceu_tree.specs.Residual as tree
use Rattle.ceu_tree.specs.Residual.{Body, Program, Spawned as InstanceBody, Act, Begin, Start, Finish, AtEnd, AtHead, Again, Seat, Residual, Over, Run, WaitEvent}
use Rattle.ceu_tree.specs.Focus.{Frame, OfBlock, OfInstance, OfOpen, OfLoop, OfCall, OfPar, Focus, Here, In, fill, plug, graft, leaf, body_in, body_of, has_body}
use Rattle.ceu_tree.specs.World.{World, Cell, Names, NotSet, marked, set_alias, set_parameters, look}
use Rattle.ceu_tree.specs.Expressions.{names_living, value_of, value_if, values_of}
use Rattle.ceu_tree.specs.Wake.{each_leaf, each_in_body, woken, by_event}
use Rattle.ceu_tree.specs.Leaf as does
use Rattle.ceu_tree.specs.Leaf.{Does, acted, code_at}
use Rattle.ceu_tree.specs.Around.{Outcome, Goes, Rests, Raises, Fails, Past, Registers, AtBlockEnd, AtLoopHead, Ends, Leaves, Moved, moved, body_left, through, up, taken, answered}
use Rattle.ceu_tree.specs.Step.{event_code, free_place, seated, spawned_at, unseat, killed, does_in, stepped}
use Rattle.ceu_tree.specs.Legal.{Seated, before, is_set, is_program_variable, program_done, outer_set, seats}
use Rattle.ceu_tree.specs.Mentions.{sets, named_by, outer_names_from}
use Rattle.ceu_tree.specs.Proper.{is_proper}
use Rattle.laws_meaning_basics.specs.Shape.{Part, program_part, FrameFits, around_statement, around_end, around_instance, Around, nothing_around, one_around, TurnFits, Comes}
use Rattle.laws_meaning_basics.proofs.UpFits.{frame_sound, up_fits}
use Rattle.laws_meaning_basics.proofs.LeafFits.{DoesFit, acted_fits}
use Rattle.laws_meaning_basics.proofs.StepFits.{around_sound, unseated_around}
use Rattle.laws_meaning_basics.proofs.RunFits.{root_sound}
use Rattle.laws_meaning_values.proofs.Positions.{before_at}
use Rattle.laws_meaning_values.proofs.Stores.{or_left, or_right}
use Rattle.laws_meaning_counters.proofs.CountersSteps.{pausing_past}
use Rattle.laws_meaning_slots.proofs.Seats.{Calm, at_seat, each_seat, focus_seats, frame_takes, focus_takes, plug_seats, graft_seats, unplug_seats, woken_seats, seated_seats, unseat_seats}
use Rattle.laws_meaning_slots.proofs.SeatsUp.{OutcomeSeats, Fresh, answered_seats, acted_seats}
use Rattle.laws_meaning_slots.proofs.Agree.{listed, seated_list}
use Rattle.laws_meaning_assigned.specs.Outer.{code_set, layer_code, act_code, OuterSet}
use Rattle.laws_meaning_assigned.proofs.Outer.{turn_code_set}

all_weaken : {A : Type 0} (f g : A → Bool) (xs : List A) → ((y : A) → f y ≡ true → g y ≡ true) → list_all f xs ≡ true → list_all g xs ≡ true
all_weaken f g [] k h = refl
all_weaken f g (y ∷ ys) k h = let a = and_parts (f y) (list_all f ys) h in and_from (g y) (list_all g ys) (k y a.0) (all_weaken f g ys k a.1)

not_or : (p a c : Bool) → (a ≡ true → c ≡ true) → (not p || a) ≡ true → (not p || c) ≡ true
not_or true a c k h = k h
not_or false a c k h = refl

set_still : (x : ℕ) (done : List KNode) (s : KNode) → is_set done x ≡ true → is_set (done ++ s ∷ []) x ≡ true
set_still x [] s h = absurd (false≢true h)
set_still x (q ∷ done) s h = go (or_cases (sets x q.stmt) (is_set done x) h) (set_still x done s)
  where
    go : (sets x q.stmt ≡ true) ⊎ (is_set done x ≡ true) → (is_set done x ≡ true → is_set (done ++ s ∷ []) x ≡ true) → is_set (q ∷ (done ++ s ∷ [])) x ≡ true
    go (inl e) ih = or_left (sets x q.stmt) (is_set (done ++ s ∷ []) x) e
    go (inr e) ih = or_right (sets x q.stmt) (is_set (done ++ s ∷ []) x) (ih e)

module _ (K : Kernel) where
  -- what one tree has set, another has
  abbrev pub Grows : Residual → Residual → Type 0
  Grows r q = (x : ℕ) → is_set (program_done K.body r) x ≡ true → is_set (program_done K.body q) x ≡ true

  code_more : (r q : Residual) (c : ℕ) → Grows r q → code_set K (program_done K.body r) c ≡ true → code_set K (program_done K.body q) c ≡ true
  code_more r q c g h =
      all_weaken (λ slot. not (is_program_variable slot (out-KBlock K.body).decls) || is_set (program_done K.body r) slot) (λ slot. not (is_program_variable slot (out-KBlock K.body).decls) || is_set (program_done K.body q) slot)
      (named_by c (outer_names_from [] K.codes)) (λ x. not_or (is_program_variable x (out-KBlock K.body).decls) (is_set (program_done K.body r) x) (is_set (program_done K.body q) x) (g x)) h

  -- from one tree to another with the same instances, or fewer
  pub moves_to : (r q : Residual) → Grows r q → ((each_seat (λ s. outer_set K q s ≡ true) r Program → each_seat (λ s. outer_set K q s ≡ true) q Program)) → OuterSet K r → OuterSet K q
  moves_to r q g f h =
      seated_list (outer_set K q) q Program (f (listed (outer_set K q) r Program (all_weaken (outer_set K r) (outer_set K q) (seats r Program) (λ y. code_more r q y.seat.code g) h)))

  pub none_done : (q : Residual) → Grows Over q
  none_done q x h = absurd (false≢true h)

  pub same_top : {A : Type 0} {t : ℕ} (f : Focus A) (e : Part) (r q : Residual) → Around K t A f (program_part K) e → (x : ℕ) → is_set (program_done K.body (plug f Over)) x ≡ true → is_set (program_done K.body (plug f q)) x ≡ true
  same_top (Here a) e r q nothing_around x h = absurd (false≢true h)
  same_top (In fr f) e r q (one_around (around_statement done z i all) more) x h = h
  same_top (In fr f) e r q (one_around (around_end z all) more) x h = h
  same_top (In fr f) e r q (one_around (around_instance done k z i fit u v p g) more) x h = h

  pub leaves_top : (c : Residual → Residual) (r : Residual) → ((y : Residual) (x : ℕ) → is_set (program_done K.body y) x ≡ true → is_set (program_done K.body (c y)) x ≡ true) → Grows r (each_leaf c r)
  unfolding each_leaf
  leaves_top c (tree.Block b fin all r rest) k x h = h
  leaves_top c (tree.Open s r) k x h = h
  leaves_top c (tree.Loop s j r) k x h = h
  leaves_top c (tree.Call s r) k x h = h
  leaves_top c (tree.Par s bs) k x h = h
  leaves_top c Over k x h = h
  leaves_top c (Run n a) k x h = k (Run n a) x h
  leaves_top c (tree.WaitInput n s) k x h = k (tree.WaitInput n s) x h
  leaves_top c (tree.WaitTime d s) k x h = k (tree.WaitTime d s) x h
  leaves_top c (tree.WaitEvent d s) k x h = k (tree.WaitEvent d s) x h
  leaves_top c (tree.WaitForever s) k x h = k (tree.WaitForever s) x h
  leaves_top c (tree.InAsync s d r) k x h = k (tree.InAsync s d r) x h

-- ---- what is spawned is the code of the statement

abbrev SpawnCode : Option ℕ → Does → Type 0
SpawnCode o (does.Spawns s c code pool alias vs) = o ≡ Some code
SpawnCode o d = Unit {0}

module _ (body : Body) (w : World) where
  or_fails_code : {A : Type 0} (o : Option ℕ) (a : Result A (Fault × Pos)) (go : A → does.Done) → ((v : A) → SpawnCode o (go v).does) → SpawnCode o (does.or_fails a w go).does
  or_fails_code o (Ok v) go h = h v
  or_fails_code o (Err e) go h = tt

  branches_code : (o : Option ℕ) (n : ℕ) (s : KNode) (bs : List KBlock) → SpawnCode o (does.in_branches n s bs)
  branches_code o n s [] = tt
  branches_code o n s (b ∷ bs) = tt

  killing_code : (o : Option ℕ) (c : Option Cell) (living : List ℕ) → SpawnCode o (does.killing c living)
  killing_code o (Some (Names m)) living = go (names_living (Some (Names m)) living)
    where
      go : (b : Bool) → SpawnCode o (if b then does.Kills m else does.Passes)
      go true = tt
      go false = tt
  killing_code o c living = tt

  loop_code : (o : Option ℕ) (s : KNode) (k : KLoop) → SpawnCode o (does.loop_reached s k body w).does
  loop_code o s turns.Free = tt
  loop_code o s (turns.Times slot m) = tt
  loop_code o s (turns.Range i next end open_a x y open_b) = or_fails_code o (value_of x body w) _ (λ u. or_fails_code o (value_of y body w) _ (λ v. tt))

  called_code_is : (o : Option ℕ) (s : KNode) (k : Option KCode) (vs : List ℤ) → SpawnCode o (does.called s k vs body w).does
  called_code_is o s None vs = tt
  called_code_is o s (Some k) vs = tt

  spawning_code : (s : KNode) (c p : ℕ) (a : Option ℕ) (k : Option KCode) (vs : List ℤ) → SpawnCode (Some c) (does.spawning s k c p a vs w).does
  spawning_code s c p a None vs = tt
  spawning_code s c p a (Some k) vs = refl

  started_code : (K : Kernel) (n : ℕ) (s : KNode) (layer : does.Layer) → SpawnCode (layer_code layer) (does.started K n body s layer w).does
  started_code K n s (KStmt-F.Assign l x) = or_fails_code None (value_of x body w) _ (λ v. tt)
  started_code K n s (KStmt-F.Out i x) = or_fails_code None (value_if x body w) _ (λ v. tt)
  started_code K n s (KStmt-F.Emit i x) = or_fails_code None (value_if x body w) _ (λ v. tt)
  started_code K n s (KStmt-F.AwaitTime x u t) = or_fails_code None (value_of x body w) _ (λ v. tt)
  started_code K n s (KStmt-F.AwaitCode c es f t) = or_fails_code (Some c) (values_of es body w) _ (λ vs. called_code_is (Some c) s (code_at c K.codes) vs)
  started_code K n s (KStmt-F.Spawn c es p a) = or_fails_code (Some c) (values_of es body w) _ (λ vs. spawning_code s c p a (code_at c K.codes) vs)
  started_code K n s (KStmt-F.Kill c) = killing_code None (look body c w.values) w.living
  started_code K n s (KStmt-F.Escape m x) = or_fails_code None (value_if x body w) _ (λ v. tt)
  started_code K n s (KStmt-F.If arms last) = or_fails_code None (does.chosen_part arms last body w) _ (λ b. tt)
  started_code K n s (KStmt-F.Loop i b) = loop_code None s i
  started_code K n s (KStmt-F.Par i slot bs) = branches_code None n s bs
  started_code K n s layer = tt

  acted_code : (K : Kernel) (n : ℕ) (a : Act) → SpawnCode (act_code a) (acted K n body a w).does
  acted_code K n (Begin b) = tt
  acted_code K n AtHead = tt
  acted_code K n Again = tt
  acted_code K n (Start s) = started_code K n s (out-KStmt s.stmt)
  acted_code K n (Finish s v) = tt
  acted_code K n AtEnd = tt

module _ (K : Kernel) (proper : is_proper K ≡ true) (n : ℕ) where
  abbrev pub OutGrows : Focus Act → Outcome → Type 0
  OutGrows f (Goes g) = Grows K (plug f Over) (plug g Over)
  OutGrows f (Rests r) = Grows K (plug f Over) r
  OutGrows f (Raises r) = Grows K (plug f Over) r
  OutGrows f y = Unit {0}

  abbrev pub OutOuter : Outcome → Type 0
  OutOuter (Goes g) = OuterSet K (plug g Over)
  OutOuter (Rests r) = OuterSet K r
  OutOuter (Raises r) = OuterSet K r
  OutOuter y = Unit {0}

  abbrev MovedOuter : Moved → Type 0
  MovedOuter m = OutOuter m.outcome

  next_grows : (c : KBlock) (done : List KNode) (s : KNode) (rest : List KNode) → (out-KBlock c).list ≡ done ++ s ∷ rest → (x : ℕ) → is_set (before (out-KBlock c).list rest) x ≡ true → is_set (before (out-KBlock c).list (does.rest_of rest)) x ≡ true
  next_grows c done s [] e x h = h
  next_grows c done s (q ∷ qs) e x h =
      subst (λ l. is_set l x ≡ true) (sym (before_at c (done ++ s ∷ []) q qs (e ∙ sym (append_assoc done (s ∷ []) (q ∷ qs))))) (set_still x done s (subst (λ l. is_set l x ≡ true) (before_at c done s (q ∷ qs) e) h))

  left_grows : (t : Bool) (c : KBlock) (fin all f node z : _) (w : World) (whole : Focus Act) → OutGrows whole (taken whole (body_left t c fin all f Program node z w).outcome)
  left_grows true c fin all f node z w whole = tt
  left_grows false c fin all f node z w whole = λ x h. h

  through_grows : {t : ℕ} {c : Part} (fr : Frame) (f : Focus Act) (y : Outcome) (w : World) → FrameFits K t fr (program_part K) c → Comes K n c y → OutGrows (In fr f) (taken (In fr f) (through Program fr f y w).outcome)
  through_grows (OfBlock b fin all rest) f (Goes g) w (around_statement done e q i) k = λ x h. h
  through_grows (OfBlock b fin all rest) f (Rests r) w (around_statement done e q i) k = λ x h. h
  through_grows (OfBlock b fin all rest) f (Raises r) w (around_statement done e q i) k = λ x h. h
  through_grows (OfBlock b fin all rest) f (Fails z r) w (around_statement done e q i) k = tt
  through_grows (OfBlock b fin all rest) f Past w (around_statement {s = s} done e q i) k = λ x h. next_grows K.body done s rest e x h
  through_grows (OfBlock b fin all rest) f (Registers z) w (around_statement {s = s} done e q i) k = λ x h. next_grows K.body done s rest e x h
  through_grows (OfBlock b fin all rest) f (Leaves node z) w (around_statement done e q i) k = left_grows (node == (out-KBlock K.body).node) K.body fin all f node z w (In (OfBlock K.body fin all rest) f)
  through_grows (OfBlock b fin all rest) f (Goes g) w (around_end q i) k = λ x h. h
  through_grows (OfBlock b fin all rest) f (Rests r) w (around_end q i) k = λ x h. h
  through_grows (OfBlock b fin all rest) f (Raises r) w (around_end q i) k = λ x h. h
  through_grows (OfBlock b fin all rest) f (Fails z r) w (around_end q i) k = tt
  through_grows (OfBlock b fin all rest) f AtBlockEnd w (around_end q i) k = tt
  through_grows (OfInstance b fin front seat back r rest) f (Goes g) w (around_instance done c e q fit u v p z) k = λ x h. h
  through_grows (OfInstance b fin front seat back r rest) f (Rests m) w (around_instance done c e q fit u v p z) k = λ x h. h
  through_grows (OfInstance b fin front seat back r rest) f (Raises m) w (around_instance done c e q fit u v p z) k = λ x h. h
  through_grows (OfInstance b fin front seat back r rest) f (Fails y m) w (around_instance done c e q fit u v p z) k = tt
  through_grows (OfInstance b fin front seat back r rest) f (Ends m) w (around_instance done c e q fit u v p z) k = λ x h. h
  through_grows (OfInstance b fin front seat back r rest) f (Leaves node m) w (around_instance done c e q fit u v p z) k = λ x h. h
  through_grows fr f y w (around_statement done e q i) k = elim k [ ]
  through_grows fr f y w (around_end q i) k = elim k [ ]
  through_grows fr f y w (around_instance done c e q fit u v p z) k = elim k [ ]

  none_grows : (a : Act) (y : Outcome) → OutGrows (Here a) y
  none_grows a (Goes g) = none_done K (plug g Over)
  none_grows a (Rests r) = none_done K r
  none_grows a (Raises r) = none_done K r
  none_grows a (Fails z r) = tt
  none_grows a (Ends v) = tt
  none_grows a Past = tt
  none_grows a (Registers s) = tt
  none_grows a AtBlockEnd = tt
  none_grows a AtLoopHead = tt
  none_grows a (Leaves node z) = tt

  answered_grows : (f : Focus Act) (e : Part) (y : Outcome) (w : World) → Around K (suc n) Act f (program_part K) e → Comes K n e y → OutGrows f (answered Program f y w).outcome
  unfolding up
  answered_grows (Here a) e y w nothing_around k = none_grows a (taken (Here a) y)
  answered_grows (In fr f) e y w (one_around {e = c} a more) k =
      let m = up (body_in fr Program) f y w in
      through_grows fr f m.outcome m.world a (up_fits K proper n (body_in fr Program) f y w c e (frame_sound K proper a (root_sound K proper)) more k)

  woken_grows : (code : Option ℕ) (c : Residual → Residual) (f : Focus Act) (e : Part) (r : Residual) → Around K (suc n) Act f (program_part K) e → Grows K (plug f Over) (woken code c f r)
  unfolding each_leaf
  woken_grows code c (Here a) e r nothing_around = none_done K (woken code c (Here a) r)
  woken_grows None c (In fr f) e r (one_around (around_statement done z i all) more) = λ x h. h
  woken_grows None c (In fr f) e r (one_around (around_end z all) more) = λ x h. h
  woken_grows None c (In fr f) e r (one_around (around_instance done k z i fit u v p g) more) = λ x h. h
  woken_grows (Some d) c (In (OfBlock b fin all rest) f) e r (one_around (around_statement done z i q) more) = go (has_body (In (OfBlock K.body fin all rest) f))
    where
      go : (t : Bool) → Grows K (plug (In (OfBlock K.body fin all rest) f) Over) (if t then fill (OfBlock K.body fin all rest) (each_in_body c f r) else each_leaf c (plug (In (OfBlock K.body fin all rest) f) r))
      go true = λ x h. h
      go false = λ x h. h
  woken_grows (Some d) c (In (OfBlock b fin all rest) f) e r (one_around (around_end z q) more) = go (has_body (In (OfBlock K.body fin all []) f))
    where
      go : (t : Bool) → Grows K (plug (In (OfBlock K.body fin all []) f) Over) (if t then fill (OfBlock K.body fin all []) (each_in_body c f r) else each_leaf c (plug (In (OfBlock K.body fin all []) f) r))
      go true = λ x h. h
      go false = λ x h. h
  woken_grows (Some d) c (In (OfInstance b fin front seat back q rest) f) e r (one_around (around_instance done k z i fit u v p g) more) = λ x h. h
  woken_grows (Some d) c (In (OfOpen s) f) e r a = λ x h. absurd (false≢true h)
  woken_grows (Some d) c (In (OfLoop s j) f) e r a = λ x h. absurd (false≢true h)
  woken_grows (Some d) c (In (OfCall s) f) e r a = λ x h. absurd (false≢true h)
  woken_grows (Some d) c (In (OfPar s front back) f) e r a = λ x h. absurd (false≢true h)

  seated_grows : (seat : Seat) (m : Residual) (f : Focus Act) (e : Part) (r : Residual) → Around K (suc n) Act f (program_part K) e → Grows K (plug f Over) (plug (seated seat m f) r)
  seated_grows seat m (Here a) e r nothing_around = none_done K r
  seated_grows seat m (In fr f) e r (one_around (around_statement done z i all) more) = λ x h. h
  seated_grows seat m (In fr f) e r (one_around (around_end z all) more) = λ x h. h
  seated_grows seat m (In fr f) e r (one_around (around_instance done k z i fit u v p g) more) = λ x h. h

  unseat_grows : (j : ℕ) (f : Focus Act) (e : Part) → Around K (suc n) Act f (program_part K) e → Grows K (plug f Over) (plug (unseat j f) Over)
  unseat_grows j (Here a) e nothing_around = none_done K Over
  unseat_grows j (In fr f) e (one_around (around_statement done z i all) more) = λ x h. h
  unseat_grows j (In fr f) e (one_around (around_end z all) more) = λ x h. h
  unseat_grows j (In fr f) e (one_around (around_instance done k z i fit u v p g) more) = λ x h. h

  graft_grows : (f : Focus Act) (e : Part) (y : Focus Act) → Around K (suc n) Act f (program_part K) e → Grows K (plug f Over) (plug (graft f y) Over)
  graft_grows (Here a) e y nothing_around = none_done K (plug y Over)
  graft_grows (In fr f) e y (one_around (around_statement done z i all) more) = λ x h. h
  graft_grows (In fr f) e y (one_around (around_end z all) more) = λ x h. h
  graft_grows (In fr f) e y (one_around (around_instance done k z i fit u v p g) more) = λ x h. h

  then_grows : (f g : Focus Act) (y : Outcome) → Grows K (plug f Over) (plug g Over) → OutGrows g y → OutGrows f y
  then_grows f g (Goes z) a b = λ x h. b x (a x h)
  then_grows f g (Rests r) a b = λ x h. b x (a x h)
  then_grows f g (Raises r) a b = λ x h. b x (a x h)
  then_grows f g y a b = tt

  module _ (f : Focus Act) (t : TurnFits K (suc n) (program_part K) f) (h : OuterSet K (plug f Over)) where
    -- a step in which nothing is spawned
    plainly : (y : Outcome) → OutGrows f y → ((P : Seated → Type 0) → focus_seats P f Program → OutcomeSeats P y Program) → OutOuter y
    unfolding each_seat
    plainly (Goes g) grows s =
        let P : Seated → Type 0 = λ y. outer_set K (plug g Over) y ≡ true in moves_to K (plug f Over) (plug g Over) grows (λ u. plug_seats P g Over Program (s P (unplug_seats P f Over Program u).0) tt) h
    plainly (Rests r) grows s = let P : Seated → Type 0 = λ y. outer_set K r y ≡ true in moves_to K (plug f Over) r grows (λ u. s P (unplug_seats P f Over Program u).0) h
    plainly (Raises r) grows s = let P : Seated → Type 0 = λ y. outer_set K r y ≡ true in moves_to K (plug f Over) r grows (λ u. s P (unplug_seats P f Over Program u).0) h
    plainly (Fails z r) grows s = tt
    plainly (Ends v) grows s = tt
    plainly Past grows s = tt
    plainly (Registers q) grows s = tt
    plainly AtBlockEnd grows s = tt
    plainly AtLoopHead grows s = tt
    plainly (Leaves node z) grows s = tt

    answers : (y : Outcome) (w : World) → Comes K n t.part y → ((P : Seated → Type 0) (b : Body) → OutcomeSeats P y b) → OutOuter (answered Program f y w).outcome
    answers y w k fine = plainly (answered Program f y w).outcome (answered_grows f t.part y w t.around k) (λ P s. answered_seats P Program f y w s (fine P))

    event_calm : (P : Seated → Type 0) (level event : ℕ) (v : ℤ) → Calm P (by_event level event v)
    unfolding each_seat
    event_calm P level event v (WaitEvent e s) body u = go (e == event)
      where
        go : (b : Bool) → each_seat P (if b then Run level (Finish s v) else WaitEvent e s) body
        go true = tt
        go false = tt
    event_calm P level event v r body u = u

    takes_all : (P : Seated → Type 0) (seat : Seat) (r : Residual) (inside : each_seat P r (InstanceBody seat.number)) (g : Focus Act) (body : Body) → ((b : Body) → P (at_seat seat b)) → focus_takes P seat r inside g body
    unfolding focus_takes
    takes_all P seat r inside (Here a) body p = tt
    takes_all P seat r inside (In fr g) body p = (frame fr, takes_all P seat r inside g (body_in fr body) p)
      where
        frame : (fr : Frame) → frame_takes P seat r inside fr body
        frame (OfBlock b fin all rest) = λ n e. p body
        frame (OfInstance b fin front other back q rest) = tt
        frame (OfOpen s) = tt
        frame (OfLoop s c) = tt
        frame (OfCall s) = tt
        frame (OfPar s front back) = tt

    spawned_outer : (s : KNode) (c : KCode) (code pool place : ℕ) (alias : Option ℕ) (vs : List ℤ) (w : World) → act_code (leaf f) ≡ Some code → OutOuter (spawned_at n (body_of f Program) f s c code pool place alias vs w).outcome
    unfolding each_seat
    spawned_outer s c code pool place alias vs w e = go (w.given == 4294967295)
      where
        seat : Seat
        seat = record { pool = pool; place = place; code = code; number = w.given + 1 }

        grown : Residual
        grown = plug (seated seat (Run (n + 1) (Begin c.body)) f) (Run n (Finish s (pos 0)))

        grows : Grows K (plug f Over) grown
        grows = seated_grows seat (Run (n + 1) (Begin c.body)) f t.part (Run n (Finish s (pos 0))) t.around

        new : code_set K (program_done K.body grown) code ≡ true
        new = code_more K (plug f Over) grown code grows (turn_code_set K proper n f code t h e)

        stays : OuterSet K grown
        stays =
            moves_to K (plug f Over) grown grows
            (λ u. plug_seats (λ y. outer_set K grown y ≡ true) (seated seat (Run (n + 1) (Begin c.body)) f) (Run n (Finish s (pos 0))) Program
            (seated_seats (λ y. outer_set K grown y ≡ true) seat (Run (n + 1) (Begin c.body)) tt f Program (takes_all (λ y. outer_set K grown y ≡ true) seat (Run (n + 1) (Begin c.body)) tt f Program (λ b. new)) (unplug_seats (λ y. outer_set K grown y ≡ true) f Over Program u).0) tt) h

        go : (b : Bool) → OutOuter (if b then moved (Fails (SpawnCount, s.pos) (plug f Over)) w else moved (Raises grown) (marked (mark.Push (n + 1)) (marked (mark.Spawned (w.given + 1)) (set_parameters (InstanceBody (w.given + 1)) c.params vs (set_alias (body_of f Program) alias (Names (w.given + 1)) (record w { given = w.given + 1; living = (w.given + 1) ∷ w.living })))))).outcome
        go true = tt
        go false = stays

    does_outer : (y : Does) (w : World) → DoesFit K proper n t.part y → ((P : Seated → Type 0) → Fresh P y (body_of f Program)) → SpawnCode (act_code (leaf f)) y → OutOuter (does_in K n Program (body_of f Program) f y w).outcome
    unfolding each_seat
    does_outer (does.Opens y) w k fresh e = plainly (Goes (graft f y)) (graft_grows f t.part y t.around) (λ P s. graft_seats P f y Program s (fresh P))
    does_outer (does.Waits r) w k fresh e = plainly (Rests (plug f r)) (same_top K f t.part Over r t.around) (λ P s. plug_seats P f r Program s (fresh P))
    does_outer does.Passes w k fresh e = answers Past w k (λ P b. tt)
    does_outer (does.Leaves node z) w k fresh e = answers (Leaves node z) w k (λ P b. tt)
    does_outer (does.Registers s) w k fresh e = answers (Registers s) w k (λ P b. tt)
    does_outer does.Ends w k fresh e = answers AtBlockEnd w k (λ P b. tt)
    does_outer does.Heads w k fresh e = answers AtLoopHead w k (λ P b. tt)
    does_outer (does.Emits s event v) w k fresh e =
        plainly (Raises (woken (event_code event K.events) (by_event (n + 1) event v) f (Run n (Finish s (pos 0))))) (woken_grows (event_code event K.events) (by_event (n + 1) event v) f t.part (Run n (Finish s (pos 0))) t.around)
        (λ P z. woken_seats P (by_event (n + 1) event v) (event_calm P (n + 1) event v) (event_code event K.events) f (Run n (Finish s (pos 0))) Program z tt)
    does_outer (does.Spawns s c code pool alias vs) w k fresh e = go (free_place pool f)
      where
        go : (o : Option ℕ) → MovedOuter (elim o [
          | None ↦ answered Program f Past (marked mark.Full (set_alias (body_of f Program) alias NotSet w))
          | Some place ↦ spawned_at n (body_of f Program) f s c code pool place alias vs w
        ])
        go None = answers Past (marked mark.Full (set_alias (body_of f Program) alias NotSet w)) (pausing_past K proper n k.0) (λ P b. tt)
        go (Some place) = spawned_outer s c code pool place alias vs w e
    does_outer (does.Kills j) w k fresh e =
        plainly (answered Program (unseat j f) Past (killed j f w)).outcome (then_grows f (unseat j f) _ (unseat_grows j f t.part t.around) (answered_grows (unseat j f) t.part Past (killed j f w) (unseated_around K proper (suc n) j t.around) k))
        (λ P s. answered_seats P Program (unseat j f) Past (killed j f w) (unseat_seats P j f Program s) (λ b. tt))
    does_outer (does.Fails z) w k fresh e = tt

    pub stepped_outer : (w : World) → OutOuter (stepped K n Program f w).outcome
    unfolding stepped
    stepped_outer w =
        let d = acted K n (body_of f Program) (leaf f) w in
        does_outer d.does d.world (acted_fits K proper n (body_of f Program) t.part (leaf f) w (around_sound K proper t.around (root_sound K proper)) t.acts) (λ P. acted_seats P (body_of f Program) w K n (leaf f)) (acted_code (body_of f Program) w K n (leaf f))
