-- What a leaf does keeps values, and gives one to each slot that is needed then.
use Rattle.std.proofs.Common.{◌≡◌, refl, sym, ap, ◌∙◌, subst, ◌≤◌, ℕ, suc, ◌+◌, ℤ, pos, ◌*ℤ◌, ◌+ℤ◌, ◌-ℤ◌, Bool, true, false, not, if◌then◌else◌, ◌==◌, ◌&&◌, ◌⊎◌, inl, inr, List, [], ◌∷◌, length, Option, Some, None, Result, Ok, Err, arith, eqb-true}
use Rattle.std.proofs.lemmas.Bool.{and_parts, or_cases, false≢true}
use Rattle.ceu_base.specs.declared.kinds.Pos.{Pos}
use Rattle.ceu_base.specs.declared.kinds.Fault.{Fault}
use Rattle.ceu_base.specs.declared.kinds.Mark.TheVariants as mark
use Rattle.ceu_base.specs.Values.{of_test}
use Rattle.ceu_tree.specs.declared.kernel.Kernel.{Kernel}
use Rattle.ceu_tree.specs.declared.kernel.KCode.{KCode}
use Rattle.ceu_tree.specs.declared.kernel.KDecl.{KDecl}
use Rattle.ceu_tree.specs.declared.kernel.KExp.{KExp}
use Rattle.ceu_tree.specs.declared.kernel.KKind.TheVariants as kind
use Rattle.ceu_tree.specs.declared.kernel.KLoop.{KLoop}
use Rattle.ceu_tree.specs.declared.kernel.KLoop.TheVariants as turns
use Rattle.ceu_tree.specs.declared.kernel.Loc.{Loc}
use Rattle.ceu_tree.specs.declared.kernel.KNode.{KNode}
use Rattle.ceu_tree.specs.declared.kernel.KBlock.{KBlock, out-KBlock}
use Rattle.ceu_tree.specs.declared.kernel.KStmt as kernel
use Rattle.ceu_tree.specs.declared.kernel.KStmt.{KStmt, out-KStmt}
use Rattle.ceu_tree.specs.declared.kernel.KStmt.TheOpen.{KStmt-F}
use Rattle.ceu_tree.specs.Residual.{Body, Program, Awaited, same_body, Act, Begin, Start, Finish, AtEnd, AtHead, Again, Counter, Free, Turns, Upward, Run, WaitInput, WaitTime, WaitEvent, WaitForever, InAsync, no_instance}
use Rattle.ceu_tree.specs.Focus.{OfBlock, Here, In, leaf, body_of}
use Rattle.ceu_tree.specs.World.{World, Cell, Holds, NotSet, Names, marked, assign_if, set, set_alias, set_parameters, look}
use Rattle.ceu_tree.specs.Expressions.{and_then, names_living, value_of, value_if, values_of}
use Rattle.ceu_tree.specs.Leaf.{Layer, Exit, Escape, Break, Continue, Does, Opens, Waits, Passes, Registers, Ends, Heads, Emits, Spawns, Kills, Fails, Done, or_fails, microseconds, clamped, target, target_of, code_at, chosen_part, branches_from, in_branches, opened, looping, loop_reached, called, spawning, killing, started, next_of, rest_of, acted}
use Rattle.ceu_tree.specs.Leaf as does
use Rattle.ceu_tree.specs.Around.{Outcome, Past, Leaves}
use Rattle.ceu_tree.specs.Legal.{before, called_code}
use Rattle.ceu_tree.specs.Mentions.{is_loc, is_slot, is_set_decl, await_target, body_target, sets}
use Rattle.ceu_tree.specs.Proper.{Scope, find, is_trail, is_above, on_code, is_pool_of, alias_takes, takes_if, gives, gives_all, stmt_ok, is_proper}
use Rattle.laws_meaning_basics.specs.Shape.{Part, ABlock, AStatement, pauses, begins, heads, goes_again, starts, finishes, ends, ActFits}
use Rattle.laws_meaning_basics.proofs.Static.{StmtOk, names_of}
use Rattle.laws_meaning_basics.proofs.UpFits.{Sound, layer_of}
use Rattle.laws_meaning_values.specs.Ground.{has, Ground}
use Rattle.laws_meaning_values.specs.Ready.{is_cell, declares}
use Rattle.laws_meaning_values.proofs.Names.{layer_sets}
use Rattle.laws_meaning_values.proofs.Positions.{before_first}
use Rattle.laws_meaning_values.proofs.Stores.{same_is, set_keeps, set_has, assign_keeps, assign_if_keeps}
use Rattle.laws_meaning_values.proofs.UpValues.{awaits, no_await, layer_set}
use Rattle.laws_meaning_counters.specs.Counters.{is_first}
use Rattle.laws_meaning_assigned.specs.Needed.{own_target, block_asks, alias_of, asked, given_needed, past_needed, act_needed, needed, needed_each, focus_needed}
use Rattle.laws_meaning_assigned.proofs.Places.{left_of, right_of, loc_of, TargetOk, target_ok, Known, KnownAt, target_own}
use Rattle.laws_meaning_assigned.proofs.Settled.{asked_zero, asked_one, asked_yes}
use denote.Hole.Carrier

-- ---- stores

module _ (b : Body) (x : ℕ) where
  -- a slot of the own body that is set has a value
  pub set_now : (here : Body) (y : ℕ) (c : Cell) (w : World) → same_body here b ≡ true → (y == x) ≡ true → has b x (set here y c w) ≡ true
  set_now here y c w e h = same (same_is here b e)
    where
      same : here ≡ b → has b x (set here y c w) ≡ true
      same q = subst (λ d. has d x (set here y c w) ≡ true) q (subst (λ z. has here z (set here y c w) ≡ true) (eqb-true y x h) (set_has here y c w))

  pub assigned_now : (here : Body) (t : Option Loc) (v : ℤ) (w : World) → same_body here b ≡ true → own_target x t ≡ true → has b x (assign_if here t v w) ≡ true
  assigned_now here None v w e h = absurd (false≢true h)
  assigned_now here (Some l) v w e h = go l.outer (and_parts (not l.outer) (l.slot == x) h).0
    where
      go : (t : Bool) → not t ≡ true → has b x (set (if t then Program else here) l.slot (Holds v) w) ≡ true
      go false k = set_now here l.slot (Holds v) w e (and_parts (not l.outer) (l.slot == x) h).1
      go true k = absurd (false≢true k)

  pub alias_keeps : (here : Body) (a : Option ℕ) (c : Cell) (w : World) → has b x w ≡ true → has b x (set_alias here a c w) ≡ true
  alias_keeps here None c w h = h
  alias_keeps here (Some y) c w h = set_keeps b x here y c w h

  pub alias_now : (here : Body) (a : Option ℕ) (c : Cell) (w : World) → same_body here b ≡ true → is_slot x a ≡ true → has b x (set_alias here a c w) ≡ true
  alias_now here None c w e h = absurd (false≢true h)
  alias_now here (Some y) c w e h = set_now here y c w e h

  pub parameters_keep : (here : Body) (ds : List KDecl) (vs : List ℤ) (w : World) → has b x w ≡ true → has b x (set_parameters here ds vs w) ≡ true
  parameters_keep here [] vs w h = h
  parameters_keep here (d ∷ ds) [] w h = h
  parameters_keep here (d ∷ ds) (v ∷ vs) w h = parameters_keep here ds vs (set here d.slot (Holds v) w) (set_keeps b x here d.slot (Holds v) w h)

  pub parameters_now : (here : Body) (ds : List KDecl) (vs : List ℤ) (w : World) → length vs ≡ length ds → same_body here b ≡ true → declares x ds ≡ true → has b x (set_parameters here ds vs w) ≡ true
  parameters_now here [] vs w l e h = absurd (false≢true h)
  parameters_now here (d ∷ ds) [] w l e h = absurd (omega (arith, l))
  parameters_now here (d ∷ ds) (v ∷ vs) w l e h = go (or_cases ((d.slot == x) && is_set_decl d.kind) (declares x ds) h) (λ q. parameters_now here ds vs (set here d.slot (Holds v) w) (omega (arith, l)) e q)
    where
      u : World
      u = set here d.slot (Holds v) w

      go : (((d.slot == x) && is_set_decl d.kind) ≡ true) ⊎ (declares x ds ≡ true) → (declares x ds ≡ true → has b x (set_parameters here ds vs u) ≡ true) → has b x (set_parameters here ds vs u) ≡ true
      go (inl q) ih = parameters_keep here ds vs u (set_now here d.slot (Holds v) w e (and_parts (d.slot == x) (is_set_decl d.kind) q).0)
      go (inr q) ih = ih q

no_none : (o : Option KCode) (k : KCode) → o ≡ Some k → o ≡ None → ⊥
no_none o k e h = false≢true (ap (λ y. elim y [ None ↦ false | Some z ↦ true ]) (sym h ∙ e))

-- ---- arguments, as many as there are parameters

values_length : (es : List KExp) (body : Body) (w : World) (vs : List ℤ) → values_of es body w ≡ Ok vs → length vs ≡ length es
values_length [] body w vs h = ap (λ r. elim r [ Ok us ↦ length us | Err e ↦ 0 ]) (sym h)
values_length (e ∷ es) body w vs h = first (value_of e body w) h (λ us q. values_length es body w us q)
  where
    rest : (r : Result (List ℤ) (Fault × Pos)) → values_of es body w ≡ r → (v : ℤ) → and_then r (λ us. Ok (v ∷ us)) ≡ Ok vs → ((us : List ℤ) → values_of es body w ≡ Ok us → length us ≡ length es) → length vs ≡ suc (length es)
    rest (Ok us) q v k ih = let a : length (v ∷ us) ≡ length vs = ap (λ r. elim r [ Ok zs ↦ length zs | Err e ↦ length (v ∷ us) ]) k in let c = ih us q in omega (arith, a, c)
    rest (Err z) q v k ih = absurd (cc)

    first : (a : Result ℤ (Fault × Pos)) → and_then a (λ v. and_then (values_of es body w) (λ us. Ok (v ∷ us))) ≡ Ok vs → ((us : List ℤ) → values_of es body w ≡ Ok us → length us ≡ length es) → length vs ≡ suc (length es)
    first (Ok v) k ih = rest (values_of es body w) refl v k ih
    first (Err z) k ih = absurd (cc)

module _ (K : Kernel) (proper : is_proper K ≡ true) where
  gives_length : (sc : Scope) (ds : List KDecl) (es : List KExp) → gives_all K sc ds es ≡ true → length ds ≡ length es
  gives_length sc [] [] h = refl
  gives_length sc (d ∷ ds) (e ∷ es) h = ap suc (gives_length sc ds es (right_of (elim d.kind [ kind.Var t ↦ gives K sc t e | _ ↦ false ]) (gives_all K sc ds es) h))
  gives_length sc [] (e ∷ es) h = absurd (false≢true h)
  gives_length sc (d ∷ ds) [] h = absurd (false≢true h)

  code_given : (sc : Scope) (c : ℕ) (k : KCode) (f : KCode → Bool) → code_at c K.codes ≡ Some k → on_code K sc c f ≡ true → f k ≡ true
  code_given sc c k f e h = ap (λ o. elim o [ None ↦ false | Some k ↦ f k ]) (sym e) ∙ right_of (is_above K c sc.code) (elim (code_at c K.codes) [ None ↦ false | Some k ↦ f k ]) h

  abbrev given_to : Layer → ℕ → List KExp → Type 0
  given_to (KStmt-F.AwaitCode c es f t) d us = (c ≡ d) × (es ≡ us)
  given_to (KStmt-F.Spawn c es p a) d us = (c ≡ d) × (es ≡ us)
  given_to layer d us = ⊥

  stmt_gives : (sc : Scope) (n : ℕ) (st : KStmt) (d : ℕ) (us : List KExp) (k : KCode) → stmt_ok K (names_of K) sc n st ≡ true → given_to (out-KStmt st) d us → code_at d K.codes ≡ Some k → length us ≡ length k.params
  unfolding stmt_ok out-KStmt Carrier.out
  stmt_gives sc n (kernel.AwaitCode c es f t) d us k h g e =
      sym (gives_length sc k.params us (subst (λ l. gives_all K sc k.params l ≡ true) g.1 (left_of (gives_all K sc k.params es) (takes_if K sc k.result t) (code_given sc c k (λ k. gives_all K sc k.params es && takes_if K sc k.result t) (ap (λ j. code_at j K.codes) g.0 ∙ e) (right_of (is_trail sc.place) _ h)))))
  stmt_gives sc n (kernel.Spawn c es p a) d us k h g e =
      sym (gives_length sc k.params us (subst (λ l. gives_all K sc k.params l ≡ true) g.1 (code_given sc c k (λ k. gives_all K sc k.params es) (ap (λ j. code_at j K.codes) g.0 ∙ e)
      (right_of (is_trail sc.place) _ (left_of _ (is_pool_of c (find p sc.seen)) (left_of _ (elim a [ None ↦ true | Some y ↦ alias_takes c p (find y sc.seen) ]) h))))))
  stmt_gives sc n st d us k h g e = elim g [ ]

  pub gives_as_many : (sc : Scope) (s : KNode) (layer : Layer) (d : ℕ) (us : List KExp) (k : KCode) → out-KStmt s.stmt ≡ layer → StmtOk K (names_of K) sc s → given_to layer d us → code_at d K.codes ≡ Some k → length us ≡ length k.params
  gives_as_many sc s layer d us k q h g e = stmt_gives sc s.node s.stmt d us k h (subst (λ l. given_to l d us) (sym q) g) e

module _ (K : Kernel) (proper : is_proper K ≡ true) (b : Body) (x : ℕ) where
  -- what a statement that is gone past has set
  abbrev pub SetNow : Body → Scope → KNode → World → Type 0
  SetNow here sc s w = same_body here b ≡ true → is_cell (find x sc.seen) ≡ true → sets x s.stmt ≡ true → has b x w ≡ true

  abbrev pub OutcomeHas : Body → Outcome → Part → World → Type 0
  OutcomeHas here Past (AStatement sc s) w = SetNow here sc s w
  OutcomeHas here (Leaves node z) (AStatement sc s) w = is_loc x (await_target s.stmt) ≡ true → ⊥
  OutcomeHas here (Leaves node z) (ABlock turn sc c) w = same_body here b ≡ true → is_cell (find x sc.seen) ≡ true → is_loc x (body_target c) ≡ true → has b x w ≡ true
  OutcomeHas here y d w = Unit {0}

  abbrev pub DoesHas : Body → Part → Does → World → Type 0
  DoesHas here d (Opens y) w = 1 ≤ focus_needed K.codes b x is_first here y + act_needed K.codes b x (body_of y here) (leaf y) → has b x w ≡ true
  DoesHas here d (Waits r) w = needed K.codes b x here r ≡ 0
  DoesHas here d Passes w = OutcomeHas here Past d w
  DoesHas here d (does.Leaves node z) w = OutcomeHas here (Leaves node z) d w
  DoesHas here d (Emits s e v) w = past_needed K.codes b x here s ≡ 0
  DoesHas here d (Spawns s c code pool alias vs) w =
      (length vs ≡ length c.params) × (past_needed K.codes b x here s ≡ asked K.codes b x here (is_slot x alias)) × ((u : World) → (same_body here b ≡ true → is_slot x alias ≡ true → has b x u ≡ true) → OutcomeHas here Past d u)
  DoesHas here d (Kills k) w = (u : World) → OutcomeHas here Past d u
  DoesHas here d y w = Unit {0}

  -- the world after it, and what it comes to
  pub record ActFine (here : Body) (d : Part) (w : World) (m : Done) : Type 0 where
    pub done : DoesHas here d m.does m.world
    pub keeps : has b x w ≡ true → has b x m.world ≡ true

  acts : (here : Body) (d : Part) (w : World) (y : Does) → DoesHas here d y w → ActFine here d w (record { does = y; world = w })
  acts here d w y h = record { done = h; keeps = λ e. e }

  or_fails_fine : {A : Type 0} (here : Body) (d : Part) (a : Result A (Fault × Pos)) (w : World) (go : A → Done) → ((v : A) → a ≡ Ok v → ActFine here d w (go v)) → ActFine here d w (or_fails a w go)
  or_fails_fine here d (Ok v) w go h = h v refl
  or_fails_fine here d (Err z) w go h = record { done = tt; keeps = λ e. e }

  abbrev N : List (List ℕ)
  N = names_of K

  pub nothing_set : (here : Body) (sc : Scope) (s : KNode) (layer : Layer) (u : World) → out-KStmt s.stmt ≡ layer → layer_sets N x layer ≡ false → SetNow here sc s u
  nothing_set here sc s layer u e f = λ q c h. absurd (false≢true (sym f ∙ layer_set N s layer x e h))

  past_is : (here : Body) (s : KNode) (layer : Layer) → out-KStmt s.stmt ≡ layer → past_needed K.codes b x here s ≡ asked K.codes b x here (is_slot x (alias_of layer))
  past_is here s layer e = ap (λ l. asked K.codes b x here (is_slot x (alias_of l))) e

  no_alias : (here : Body) (s : KNode) (layer : Layer) → out-KStmt s.stmt ≡ layer → is_slot x (alias_of layer) ≡ false → past_needed K.codes b x here s ≡ 0
  no_alias here s layer e f = past_is here s layer e ∙ asked_zero K b x here (is_slot x (alias_of layer)) (λ q t. false≢true (sym f ∙ t))

  next_act : (here : Body) (list : List KNode) → act_needed K.codes b x here (next_of list) ≡ 0
  next_act here [] = refl
  next_act here (s ∷ ss) = refl

  pub next_unneeded : (here : Body) (list : List KNode) → act_needed K.codes b x here (next_of list) ≡ 0
  next_unneeded here list = next_act here list

  block_first : (here : Body) (c : KBlock) → asked K.codes b x here (block_asks c (before (out-KBlock c).list (rest_of (out-KBlock c).list)) x) ≡ 0
  block_first here c = ap (λ l. asked K.codes b x here (block_asks c l x)) (before_first (out-KBlock c).list) ∙ asked_zero K b x here (block_asks c [] x) (λ q t. go (or_cases (declares x (out-KBlock c).decls && false) (own_target x (body_target c) && false) t))
    where
      go : ((declares x (out-KBlock c).decls && false) ≡ true) ⊎ ((own_target x (body_target c) && false) ≡ true) → ⊥
      go (inl u) = false≢true (and_parts (declares x (out-KBlock c).decls) false u).1
      go (inr u) = false≢true (and_parts (own_target x (body_target c)) false u).1

  module _ (here : Body) (sc : Scope) (g : Ground) (o : ℕ) (kn : Known K proper b x sc g here o) where
    branches_zero : (n : ℕ) (bs : List KBlock) → needed_each K.codes b x here (branches_from n bs) ≡ 0
    unfolding needed
    branches_zero n [] = refl
    branches_zero n (c ∷ bs) = let h = branches_zero n bs in omega (arith, h)

    par_fine : (n : ℕ) (w : World) (s : KNode) (k : _) (slot : ℕ) (bs : List KBlock) → out-KStmt s.stmt ≡ KStmt-F.Par k slot bs → ActFine here (AStatement sc s) w (record { does = in_branches n s bs; world = w })
    unfolding focus_needed needed
    par_fine n w s k slot [] e = acts here (AStatement sc s) w Passes (nothing_set here sc s (KStmt-F.Par k slot []) w e refl)
    par_fine n w s k slot (c ∷ bs) e = acts here (AStatement sc s) w (in_branches n s (c ∷ bs)) (λ h. absurd (let z = branches_zero n bs in omega (arith, z, h)))

    open_fine : (w : World) (s : KNode) (c : KBlock) → ActFine here (AStatement sc s) w (record { does = opened s c; world = w })
    unfolding focus_needed
    open_fine w s c = acts here (AStatement sc s) w (opened s c) (λ h. absurd (omega (arith, h)))

    looping_fine : (w : World) (s : KNode) (j : Counter) → ActFine here (AStatement sc s) w (record { does = looping s j; world = w })
    unfolding focus_needed
    looping_fine w s j = acts here (AStatement sc s) w (looping s j) (λ h. absurd (omega (arith, h)))

    loop_fine : (w : World) (s : KNode) (l : KLoop) → ActFine here (AStatement sc s) w (loop_reached s l here w)
    loop_fine w s turns.Free = looping_fine w s Free
    loop_fine w s (turns.Times slot m) = looping_fine w s (Turns 0)
    loop_fine w s (turns.Range i next end open_a y z open_b) = or_fails_fine here (AStatement sc s) (value_of y here w) w _ (λ u p. or_fails_fine here (AStatement sc s) (value_of z here w) w _ (λ v q. looping_fine w s (Upward (u +ℤ of_test open_a) (v -ℤ of_test open_b))))

    called_fine : (w : World) (s : KNode) (c : ℕ) (es : List KExp) (f t : _) (vs : List ℤ) (o : Option KCode) → out-KStmt s.stmt ≡ KStmt-F.AwaitCode c es f t → StmtOk K (names_of K) sc s → values_of es here w ≡ Ok vs → code_at c K.codes ≡ o
        → (o ≡ None → ⊥) → ActFine here (AStatement sc s) w (called s o vs here w)
    unfolding focus_needed
    called_fine w s c es f t vs None e ok v q some = absurd (some refl)
    called_fine w s c es f t vs (Some k) e ok v q some = record { done = λ h. done (asked_one K b x to (declares x k.params) (given h)); keeps = λ h. parameters_keep b x to k.params vs w h }
      where
        to : Body
        to = Awaited here s.node

        same : given_needed K.codes b x to (called_code K.codes (out-KStmt s.stmt)) ≡ asked K.codes b x to (declares x k.params)
        same = ap (given_needed K.codes b x to) (ap (called_code K.codes) e ∙ q)

        given : 1 ≤ given_needed K.codes b x to (called_code K.codes (out-KStmt s.stmt)) + 0 + 0 → 1 ≤ asked K.codes b x to (declares x k.params)
        given h = let z = same in omega (arith, z, h)

        done : (same_body to b ≡ true) × (declares x k.params ≡ true) → has b x (set_parameters to k.params vs w) ≡ true
        done a =
            let m = values_length es here w vs v in
            let n = gives_as_many K proper sc s (KStmt-F.AwaitCode c es f t) c es k e ok (refl, refl) q in
            parameters_now b x to k.params vs w (omega (arith, m, n)) a.0 a.1

    spawning_fine : (w : World) (s : KNode) (c : ℕ) (es : List KExp) (pool : ℕ) (alias : Option ℕ) (vs : List ℤ) (o : Option KCode) → out-KStmt s.stmt ≡ KStmt-F.Spawn c es pool alias → StmtOk K (names_of K) sc s → values_of es here w ≡ Ok vs → code_at c K.codes ≡ o
        → (o ≡ None → ⊥) → ActFine here (AStatement sc s) w (spawning s o c pool alias vs w)
    spawning_fine w s c es pool alias vs None e ok v q some = absurd (some refl)
    spawning_fine w s c es pool alias vs (Some k) e ok v q some = acts here (AStatement sc s) w (Spawns s k c pool alias vs) (many, past_is here s (KStmt-F.Spawn c es pool alias) e, λ u h z y m. h z (layer_set N s (KStmt-F.Spawn c es pool alias) x e m))
      where
        many : length vs ≡ length k.params
        many =
            let m = values_length es here w vs v in
            let n = gives_as_many K proper sc s (KStmt-F.Spawn c es pool alias) c es k e ok (refl, refl) q in
            omega (arith, m, n)

    killing_fine : (w : World) (s : KNode) (o : Option Cell) → ((u : World) → SetNow here sc s u) → ActFine here (AStatement sc s) w (record { does = killing o w.living; world = w })
    killing_fine w s (Some (Names m)) h = go (names_living (Some (Names m)) w.living)
      where
        go : (t : Bool) → ActFine here (AStatement sc s) w (record { does = if t then Kills m else Passes; world = w })
        go true = acts here (AStatement sc s) w (Kills m) h
        go false = acts here (AStatement sc s) w Passes (h w)
    killing_fine w s o h = acts here (AStatement sc s) w Passes (h w)

    leaving : (w : World) (s : KNode) (layer : Layer) (node : ℕ) (z : Exit) → out-KStmt s.stmt ≡ layer → is_loc x (awaits layer) ≡ false → ActFine here (AStatement sc s) w (record { does = does.Leaves node z; world = w })
    leaving w s layer node z e f = acts here (AStatement sc s) w (does.Leaves node z) (λ h. no_await s layer x e f h)

    -- a target that is assigned now
    pub assigned_set : (s : KNode) (layer : Layer) (t : Option Loc) (v : ℤ) (w : World) → out-KStmt s.stmt ≡ layer → StmtOk K (names_of K) sc s → loc_of layer ≡ t → layer_sets N x layer ≡ is_loc x t → SetNow here sc s (assign_if here t v w)
    assigned_set s layer t v w e ok q z = λ y c h. assigned_now b x here t v w y
        (target_own K proper b x sc g here o t kn (subst (TargetOk K proper sc) q (target_ok K proper sc s layer e ok)) c (sym z ∙ layer_set N s layer x e h))

    started_fine : (n : ℕ) (w : World) (s : KNode) (layer : Layer) → out-KStmt s.stmt ≡ layer → StmtOk K (names_of K) sc s → ActFine here (AStatement sc s) w (started K n here s layer w)
    unfolding needed
    started_fine n w s KStmt-F.Nothing e ok = acts here (AStatement sc s) w Passes (nothing_set here sc s _ w e refl)
    started_fine n w s (KStmt-F.Assign l y) e ok = or_fails_fine here (AStatement sc s) (value_of y here w) w _ (λ v p. record { done = assigned_set s (KStmt-F.Assign l y) (Some l) v w e ok refl refl; keeps = λ h. assign_keeps b x here l v w h })
    started_fine n w s (KStmt-F.Out k y) e ok = or_fails_fine here (AStatement sc s) (value_if y here w) w _ (λ v p. record { done = nothing_set here sc s (KStmt-F.Out k y) (marked (mark.Output k v) w) e refl; keeps = λ h. h })
    started_fine n w s (KStmt-F.Emit k y) e ok = or_fails_fine here (AStatement sc s) (value_if y here w) w _ (λ v p. acts here (AStatement sc s) w (Emits s k v) (no_alias here s (KStmt-F.Emit k y) e refl))
    started_fine n w s (KStmt-F.AwaitIn k t) e ok = acts here (AStatement sc s) w (Waits (WaitInput k s)) (no_alias here s (KStmt-F.AwaitIn k t) e refl)
    started_fine n w s (KStmt-F.AwaitTime y u t) e ok =
        or_fails_fine here (AStatement sc s) (value_of y here w) w _ (λ v p. acts here (AStatement sc s) w (Waits (WaitTime (clamped (v *ℤ pos (microseconds u))) s)) (no_alias here s (KStmt-F.AwaitTime y u t) e refl))
    started_fine n w s (KStmt-F.AwaitEvent k t) e ok = acts here (AStatement sc s) w (Waits (WaitEvent k s)) (no_alias here s (KStmt-F.AwaitEvent k t) e refl)
    started_fine n w s KStmt-F.Forever e ok = acts here (AStatement sc s) w (Waits (WaitForever s)) refl
    started_fine n w s (KStmt-F.AwaitCode c es frame t) e ok =
        let f = layer_of K proper sc s (KStmt-F.AwaitCode c es frame t) e ok in
        or_fails_fine here (AStatement sc s) (values_of es here w) w _ (λ vs p. called_fine w s c es frame t vs (code_at c K.codes) e ok p refl (no_none (code_at c K.codes) f.1 f.2))
    started_fine n w s (KStmt-F.Spawn c es pool alias) e ok =
        let f = layer_of K proper sc s (KStmt-F.Spawn c es pool alias) e ok in
        or_fails_fine here (AStatement sc s) (values_of es here w) w _ (λ vs p. spawning_fine w s c es pool alias vs (code_at c K.codes) e ok p refl (no_none (code_at c K.codes) f.1 f.2))
    started_fine n w s (KStmt-F.Kill c) e ok = killing_fine w s (look here c w.values) (λ u. nothing_set here sc s (KStmt-F.Kill c) u e refl)
    started_fine n w s (KStmt-F.Unset c) e ok = record { done = λ q z h. set_now b x here c NotSet w q (layer_set N s (KStmt-F.Unset c) x e h); keeps = λ h. set_keeps b x here c NotSet w h }
    started_fine n w s (KStmt-F.Async c) e ok = acts here (AStatement sc s) w (Waits (InAsync s false (Run 0 (Begin c)))) (let z = no_alias here s (KStmt-F.Async c) e refl in omega (arith, z))
    started_fine n w s (KStmt-F.Finalize c) e ok = acts here (AStatement sc s) w (Registers s) tt
    started_fine n w s (KStmt-F.Do t c) e ok = open_fine w s c
    started_fine n w s (KStmt-F.Escape node y) e ok = or_fails_fine here (AStatement sc s) (value_if y here w) w _ (λ v p. leaving w s (KStmt-F.Escape node y) node (Escape v) e refl)
    started_fine n w s (KStmt-F.Break node) e ok = leaving w s (KStmt-F.Break node) node Break e refl
    started_fine n w s (KStmt-F.Continue node) e ok = leaving w s (KStmt-F.Continue node) node Continue e refl
    started_fine n w s (KStmt-F.If arms last) e ok = or_fails_fine here (AStatement sc s) (chosen_part arms last here w) w _ (λ c p. open_fine w s c)
    started_fine n w s (KStmt-F.Loop l c) e ok = loop_fine w s l
    started_fine n w s (KStmt-F.Par k slot bs) e ok = par_fine n w s k slot bs e

    finished_set : (s : KNode) (v : ℤ) (w : World) (layer : Layer) → out-KStmt s.stmt ≡ layer → pauses layer ≡ true → StmtOk K (names_of K) sc s → (1 ≤ past_needed K.codes b x here s → has b x w ≡ true) → SetNow here sc s (assign_if here (target_of layer) v w)
    finished_set s v w (KStmt-F.Emit k y) e p ok own = nothing_set here sc s (KStmt-F.Emit k y) w e refl
    finished_set s v w (KStmt-F.AwaitIn k t) e p ok own = assigned_set s (KStmt-F.AwaitIn k t) t v w e ok refl refl
    finished_set s v w (KStmt-F.AwaitTime y u t) e p ok own = assigned_set s (KStmt-F.AwaitTime y u t) t v w e ok refl refl
    finished_set s v w (KStmt-F.AwaitEvent k t) e p ok own = assigned_set s (KStmt-F.AwaitEvent k t) t v w e ok refl refl
    finished_set s v w (KStmt-F.Async c) e p ok own = nothing_set here sc s (KStmt-F.Async c) w e refl
    finished_set s v w (KStmt-F.Spawn c es q a) e p ok own = λ y z h.
        own (let m = past_is here s (KStmt-F.Spawn c es q a) e in let n = asked_yes K b x here (is_slot x a) y (layer_set N s (KStmt-F.Spawn c es q a) x e h) in omega (arith, m, n))
    finished_set s v w layer e p ok own = absurd (false≢true p)

  pub acted_fine : (n : ℕ) (here : Body) (d : Part) (g : Ground) (o : ℕ) (a : Act) (w : World) → KnownAt K proper b x d g here o → Sound K proper d → ActFits d a → (1 ≤ act_needed K.codes b x here a → has b x w ≡ true) → ActFine here d w (acted K n here a w)
  unfolding focus_needed needed
  acted_fine n here d g o (Begin c) w kn ok begins own =
      acts here d w (Opens (In (OfBlock c [] no_instance (rest_of (out-KBlock c).list)) (Here (next_of (out-KBlock c).list)))) (λ h. absurd (let u = block_first here c in let v = next_act here (out-KBlock c).list in omega (arith, u, v, h)))
  acted_fine n here d g o (Start s) w kn ok (starts {sc = sc}) own = started_fine here sc g o kn n w s (out-KStmt s.stmt) refl ok
  acted_fine n here d g o (Finish s v) w kn ok (finishes {sc = sc} p) own = record { done = finished_set here sc g o kn s v w (out-KStmt s.stmt) refl p ok own; keeps = λ h. assign_if_keeps b x here (target s) v w h }
  acted_fine n here d g o AtEnd w kn ok ends own = acts here d w Ends tt
  acted_fine n here d g o AtHead w kn ok heads own = acts here d w Heads tt
  acted_fine n here d g o Again w kn ok goes_again own = acts here d w Heads tt
