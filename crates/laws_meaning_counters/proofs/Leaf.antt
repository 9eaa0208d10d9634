-- What a leaf does leaves a slot as it was that no declaration has, and opens loops that stand at their head.
use Rattle.std.proofs.Common.{◌≡◌, refl, sym, ap, ◌∙◌, subst, ℕ, ℤ, pos, ◌+ℤ◌, ◌-ℤ◌, ◌*ℤ◌, int_le, Bool, true, false, if◌then◌else◌, ◌&&◌, List, [], ◌∷◌, Option, Some, None, Result, Ok, Err, arith}
use Rattle.std.proofs.lemmas.Int.{ints}
use Rattle.ceu_base.specs.declared.kinds.Pos.{Pos}
use Rattle.ceu_base.specs.declared.kinds.Ty.{Ty}
use Rattle.ceu_base.specs.declared.kinds.Fault.{Fault}
use Rattle.ceu_base.specs.declared.kinds.Mark.TheVariants as mark
use Rattle.ceu_base.specs.Values.{of_test}
use Rattle.ceu_tree.specs.declared.kernel.Kernel.{Kernel}
use Rattle.ceu_tree.specs.declared.kernel.KCode.{KCode}
use Rattle.ceu_tree.specs.declared.kernel.KExp.{KExp}
use Rattle.ceu_tree.specs.declared.kernel.KExpNode as exp
use Rattle.ceu_tree.specs.declared.kernel.KExpNode.{KExpNode}
use Rattle.ceu_tree.specs.declared.kernel.KLoop.{KLoop}
use Rattle.ceu_tree.specs.declared.kernel.KLoop.TheVariants as turns
use Rattle.ceu_tree.specs.declared.kernel.KNode.{KNode}
use Rattle.ceu_tree.specs.declared.kernel.KBlock.{KBlock, out-KBlock}
use Rattle.ceu_tree.specs.declared.kernel.KStmt.{out-KStmt}
use Rattle.ceu_tree.specs.declared.kernel.KStmt.TheOpen.{KStmt-F}
use Rattle.ceu_tree.specs.Residual.{Body, Awaited, same_body, Act, Begin, Start, Finish, AtEnd, AtHead, Again, Counter, Free, Turns, Upward, Run, WaitInput, WaitTime, WaitEvent, WaitForever, InAsync, no_instance}
use Rattle.ceu_tree.specs.Focus.{OfBlock, OfCall, Here, In}
use Rattle.ceu_tree.specs.World.{World, Cell, NotSet, Names, marked, assign, assign_if, set, set_parameters, look}
use Rattle.ceu_tree.specs.Expressions.{names_living, node_value, value_of, value_if, values_of}
use Rattle.ceu_tree.specs.Paths.{literal}
use Rattle.ceu_tree.specs.Leaf.{Layer, Escape, Break, Continue, Does, Opens, Waits, Passes, Leaves, Registers, Ends, Heads, Emits, Spawns, Kills, Fails, Done, or_fails, microseconds, clamped, target, code_at, chosen_part, branches_from, in_branches, opened, looping, loop_reached, called, spawning, killing, started, next_of, rest_of, acted}
use Rattle.ceu_tree.specs.Numbering.{decl_slots}
use Rattle.ceu_tree.specs.Proper.{is_proper}
use Rattle.laws_meaning_basics.specs.Shape.{Part, begins, heads, goes_again, starts, finishes, ends, ActFits}
use Rattle.laws_meaning_basics.proofs.UpFits.{Sound}
use Rattle.laws_meaning_instances.proofs.Living.{often}
use Rattle.laws_meaning_counters.specs.Counters.{counts_in, from_first, to_last, head_stands, loop_stands, loops_stand, each_loops_stand, all_loops_stand, is_first, focus_loops_stand}
use Rattle.laws_meaning_counters.proofs.Cells.{cell_in, apart_from, set_apart, assign_apart, assign_if_apart, set_parameters_apart}
use Rattle.laws_meaning_counters.proofs.Marks.{kernel_marks}
use Rattle.laws_meaning_counters.proofs.Clear.{Clear, target_clear, starts_apart, starts_clear, code_params}

-- ---- the ends of a range, where they are constant

node_literal : (y : KExpNode) (t : Ty) (p : Pos) (c : ℤ) (body : Body) (w : World) → literal y ≡ Some c → node_value y t p body w ≡ Ok c
unfolding node_value
node_literal (exp.Const v) t p c body w h = ap (λ o. elim o [ None ↦ Ok v | Some y ↦ Ok y ]) h
node_literal y t p c body w h = absurd (cc)

literal_value : (e : KExp) (c : ℤ) (body : Body) (w : World) → literal e.node ≡ Some c → value_of e body w ≡ Ok c
unfolding value_of
literal_value e c body w h = node_literal e.node e.ty e.pos c body w h

same_value : (e : KExp) (c v : ℤ) (body : Body) (w : World) → literal e.node ≡ Some c → value_of e body w ≡ Ok v → c ≡ v
same_value e c v body w h k = ap (λ o. elim o [ Ok y ↦ y | Err f ↦ c ]) (sym (literal_value e c body w h) ∙ k)

pub le_self : (v : ℤ) → int_le v v ≡ true
le_self v = go (int_le v v) refl
  where
    go : (t : Bool) → int_le v v ≡ t → int_le v v ≡ true
    go true e = e
    go false e = absurd (omega (arith, ints, e))

starts_from : (e : KExp) (open_a : Bool) (v : ℤ) (body : Body) (w : World) → value_of e body w ≡ Ok v → from_first (literal e.node) open_a (v +ℤ of_test open_a)
starts_from e open_a v body w h = go (literal e.node) refl
  where
    go : (o : Option ℤ) → literal e.node ≡ o → from_first o open_a (v +ℤ of_test open_a)
    go None q = tt
    go (Some c) q = subst (λ y. int_le (c +ℤ of_test open_a) (y +ℤ of_test open_a) ≡ true) (same_value e c v body w q h) (le_self (c +ℤ of_test open_a))

ends_to : (e : KExp) (open_b : Bool) (v : ℤ) (body : Body) (w : World) → value_of e body w ≡ Ok v → to_last (literal e.node) open_b (v -ℤ of_test open_b)
ends_to e open_b v body w h = go (literal e.node) refl
  where
    go : (o : Option ℤ) → literal e.node ≡ o → to_last o open_b (v -ℤ of_test open_b)
    go None q = tt
    go (Some c) q = ap (λ y. y -ℤ of_test open_b) (sym (same_value e c v body w q h))

module _ (K : Kernel) (proper : is_proper K ≡ true) (b : Body) (x : ℕ) (clean : kernel_marks true x K ≡ 0) (n : ℕ) where
  abbrev pub DoesStand : Option Cell → Body → Does → Type 0
  DoesStand cell here (Opens y) = focus_loops_stand b x cell is_first here y
  DoesStand cell here (Waits r) = loops_stand b x cell here r
  DoesStand cell here (Spawns s c code pool alias vs) = apart_from b x alias × (often x (decl_slots c.params) ≡ 0)
  DoesStand cell here y = Unit {0}

  pub record ActDone (here : Body) (w : World) (z : Done) : Type 0 where
    pub stands : DoesStand (cell_in b x z.world) here z.does
    pub same : cell_in b x z.world ≡ cell_in b x w

  acts : (here : Body) (w u : World) (y : Does) → DoesStand (cell_in b x u) here y → cell_in b x u ≡ cell_in b x w → ActDone here w (record { does = y; world = u })
  acts here w u y h e = record { stands = h; same = e }

  or_fails_done : {A : Type 0} (here : Body) (a : Result A (Fault × Pos)) (w : World) (go : A → Done) → ((v : A) → a ≡ Ok v → ActDone here w (go v)) → ActDone here w (or_fails a w go)
  or_fails_done here (Ok v) w go h = h v refl
  or_fails_done here (Err z) w go h = acts here w w (Fails z) tt refl

  branches_done : (here : Body) (cell : Option Cell) (bs : List KBlock) → each_loops_stand b x cell here (branches_from n bs)
  unfolding each_loops_stand
  branches_done here cell [] = tt
  branches_done here cell (c ∷ bs) = (tt, branches_done here cell bs)

  par_done : (here : Body) (w : World) (s : KNode) (bs : List KBlock) → ActDone here w (record { does = in_branches n s bs; world = w })
  unfolding focus_loops_stand each_loops_stand
  par_done here w s [] = acts here w w Passes tt refl
  par_done here w s (c ∷ bs) = acts here w w (in_branches n s (c ∷ bs)) ((tt, branches_done here (cell_in b x w) bs), tt) refl

  open_done : (here : Body) (w : World) (s : KNode) (c : KBlock) → ActDone here w (record { does = opened s c; world = w })
  unfolding focus_loops_stand
  open_done here w s c = acts here w w (opened s c) (tt, tt) refl

  looping_done : (here : Body) (w : World) (s : KNode) (l : KLoop) (c : KBlock) (j : Counter) → out-KStmt s.stmt ≡ KStmt-F.Loop l c → ((same_body here b && counts_in x l) ≡ true → head_stands l j) → ActDone here w (record { does = looping s j; world = w })
  unfolding focus_loops_stand
  looping_done here w s l c j e h = acts here w w (looping s j) (subst (λ y. loop_stands b x (cell_in b x w) true here y j) (sym e) h, tt) refl

  loop_done : (here : Body) (w : World) (s : KNode) (l : KLoop) (c : KBlock) → out-KStmt s.stmt ≡ KStmt-F.Loop l c → ActDone here w (loop_reached s l here w)
  loop_done here w s turns.Free c e = looping_done here w s turns.Free c Free e (λ u. tt)
  loop_done here w s (turns.Times slot m) c e = looping_done here w s (turns.Times slot m) c (Turns 0) e (λ u. omega arith)
  loop_done here w s (turns.Range i next end open_a y z open_b) c e =
      or_fails_done here (value_of y here w) w _
      (λ u p. or_fails_done here (value_of z here w) w _
      (λ v q. looping_done here w s (turns.Range i next end open_a y z open_b) c (Upward (u +ℤ of_test open_a) (v -ℤ of_test open_b)) e (λ t. (starts_from y open_a u here w p, ends_to z open_b v here w q))))

  called_done : (here : Body) (w : World) (s : KNode) (c : ℕ) (vs : List ℤ) (o : Option KCode) → code_at c K.codes ≡ o → ActDone here w (called s o vs here w)
  unfolding focus_loops_stand
  called_done here w s c vs None e = acts here w w Passes tt refl
  called_done here w s c vs (Some k) e =
      acts here w (set_parameters (Awaited here s.node) k.params vs w) (Opens (In (OfCall s) (Here (Begin k.body)))) (tt, tt) (set_parameters_apart b x (Awaited here s.node) k.params vs w (code_params b x K clean c k e))

  spawning_done : (here : Body) (w : World) (s : KNode) (c pool : ℕ) (alias : Option ℕ) (vs : List ℤ) (o : Option KCode) → code_at c K.codes ≡ o → apart_from b x alias → ActDone here w (spawning s o c pool alias vs w)
  spawning_done here w s c pool alias vs None e h = acts here w w Passes tt refl
  spawning_done here w s c pool alias vs (Some k) e h = acts here w w (Spawns s k c pool alias vs) (h, code_params b x K clean c k e) refl

  killing_done : (here : Body) (w : World) (o : Option Cell) → ActDone here w (record { does = killing o w.living; world = w })
  killing_done here w (Some (Names m)) = go (names_living (Some (Names m)) w.living)
    where
      go : (t : Bool) → ActDone here w (record { does = if t then Kills m else Passes; world = w })
      go true = acts here w w (Kills m) tt refl
      go false = acts here w w Passes tt refl
  killing_done here w o = acts here w w Passes tt refl

  started_done : (here : Body) (w : World) (s : KNode) (layer : Layer) → out-KStmt s.stmt ≡ layer → starts_apart b x K clean layer → ActDone here w (started K n here s layer w)
  unfolding loops_stand
  started_done here w s KStmt-F.Nothing e h = acts here w w Passes tt refl
  started_done here w s (KStmt-F.Assign l y) e h = or_fails_done here (value_of y here w) w _ (λ v p. acts here w (assign here l v w) Passes tt (assign_apart b x here l v w h))
  started_done here w s (KStmt-F.Out k y) e h = or_fails_done here (value_if y here w) w _ (λ v p. acts here w (marked (mark.Output k v) w) Passes tt refl)
  started_done here w s (KStmt-F.Emit k y) e h = or_fails_done here (value_if y here w) w _ (λ v p. acts here w w (Emits s k v) tt refl)
  started_done here w s (KStmt-F.AwaitIn k t) e h = acts here w w (Waits (WaitInput k s)) tt refl
  started_done here w s (KStmt-F.AwaitTime y u t) e h = or_fails_done here (value_of y here w) w _ (λ v p. acts here w w (Waits (WaitTime (clamped (v *ℤ pos (microseconds u))) s)) tt refl)
  started_done here w s (KStmt-F.AwaitEvent k t) e h = acts here w w (Waits (WaitEvent k s)) tt refl
  started_done here w s KStmt-F.Forever e h = acts here w w (Waits (WaitForever s)) tt refl
  started_done here w s (KStmt-F.AwaitCode c es frame t) e h = or_fails_done here (values_of es here w) w _ (λ vs p. called_done here w s c vs (code_at c K.codes) refl)
  started_done here w s (KStmt-F.Spawn c es pool alias) e h = or_fails_done here (values_of es here w) w _ (λ vs p. spawning_done here w s c pool alias vs (code_at c K.codes) refl h)
  started_done here w s (KStmt-F.Kill c) e h = killing_done here w (look here c w.values)
  started_done here w s (KStmt-F.Unset c) e h = acts here w (set here c NotSet w) Passes tt (set_apart b x here c NotSet w (λ u. h))
  started_done here w s (KStmt-F.Async c) e h = acts here w w (Waits (InAsync s false (Run 0 (Begin c)))) tt refl
  started_done here w s (KStmt-F.Finalize c) e h = acts here w w (Registers s) tt refl
  started_done here w s (KStmt-F.Do t c) e h = open_done here w s c
  started_done here w s (KStmt-F.Escape node y) e h = or_fails_done here (value_if y here w) w _ (λ v p. acts here w w (Leaves node (Escape v)) tt refl)
  started_done here w s (KStmt-F.Break node) e h = acts here w w (Leaves node Break) tt refl
  started_done here w s (KStmt-F.Continue node) e h = acts here w w (Leaves node Continue) tt refl
  started_done here w s (KStmt-F.If arms last) e h = or_fails_done here (chosen_part arms last here w) w _ (λ c p. open_done here w s c)
  started_done here w s (KStmt-F.Loop l c) e h = loop_done here w s l c e
  started_done here w s (KStmt-F.Par k slot bs) e h = par_done here w s bs

  pub acted_done : (here : Body) (d : Part) (a : Act) (w : World) → Sound K proper d → Clear b x K clean d → ActFits d a → ActDone here w (acted K n here a w)
  unfolding focus_loops_stand all_loops_stand
  acted_done here d (Begin c) w ok cl begins = acts here w w (Opens (In (OfBlock c [] no_instance (rest_of (out-KBlock c).list)) (Here (next_of (out-KBlock c).list)))) (tt, tt) refl
  acted_done here d (Start s) w ok cl (starts {sc = sc}) = started_done here w s (out-KStmt s.stmt) refl (starts_clear b x K clean sc s (out-KStmt s.stmt) refl ok cl.0)
  acted_done here d (Finish s v) w ok cl (finishes {sc = sc} p) = acts here w (assign_if here (target s) v w) Passes tt (assign_if_apart b x here (target s) v w (target_clear b x K clean sc s (out-KStmt s.stmt) refl ok cl.0))
  acted_done here d AtEnd w ok cl ends = acts here w w Ends tt refl
  acted_done here d AtHead w ok cl heads = acts here w w Heads tt refl
  acted_done here d Again w ok cl goes_again = acts here w w Heads tt refl
