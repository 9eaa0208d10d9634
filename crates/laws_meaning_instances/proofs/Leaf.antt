-- What a leaf does by itself leaves the instances as they are, and what it opens has none.
use Rattle.std.proofs.Common.{◌≡◌, refl, ℕ, ℤ, Bool, true, false, if◌then◌else◌, List, [], ◌∷◌, Option, Some, None, Result, Ok, Err, arith}
use Rattle.ceu_base.specs.declared.kinds.Pos.{Pos}
use Rattle.ceu_base.specs.declared.kinds.Fault.{Fault}
use Rattle.ceu_tree.specs.declared.kernel.Kernel.{Kernel}
use Rattle.ceu_tree.specs.declared.kernel.KCode.{KCode}
use Rattle.ceu_tree.specs.declared.kernel.KDecl.{KDecl}
use Rattle.ceu_tree.specs.declared.kernel.KLoop.{KLoop}
use Rattle.ceu_tree.specs.declared.kernel.KLoop.TheVariants as turns
use Rattle.ceu_tree.specs.declared.kernel.Loc.{Loc}
use Rattle.ceu_tree.specs.declared.kernel.KNode.{KNode}
use Rattle.ceu_tree.specs.declared.kernel.KBlock.{KBlock}
use Rattle.ceu_tree.specs.declared.kernel.KStmt.{out-KStmt}
use Rattle.ceu_tree.specs.declared.kernel.KStmt.TheOpen.{KStmt-F}
use Rattle.ceu_tree.specs.Residual.{Body, Awaited, Act, Begin, Start, Finish, AtEnd, AtHead, Again}
use Rattle.ceu_tree.specs.World.{World, Cell, Holds, NotSet, Names, set, assign_if, set_parameters, set_alias, look}
use Rattle.ceu_tree.specs.Expressions.{names_living, value_of, value_if, values_of}
use Rattle.ceu_tree.specs.Leaf.{Layer, Does, Opens, Waits, Passes, Ends, Heads, Spawns, Kills, Fails, Done, done, or_fails, branches_from, in_branches, chosen_part, loop_reached, called, spawning, killing, code_at, started, acted, target}
use Rattle.laws_meaning_instances.specs.Instances.{pools_stand, each_pools_stand}
use Rattle.laws_meaning_instances.proofs.Living.{lives, live_branches, Quiet, quiet}
use Rattle.laws_meaning_instances.proofs.Trees.{live_focus, focus_stands}

abbrev pub Fresh : Does → Type 0
Fresh (Opens x) = ((n : ℕ) → live_focus n x ≡ 0) × focus_stands x
Fresh (Waits r) = ((n : ℕ) → lives n r ≡ 0) × pools_stand r
Fresh _ = Unit {0}

pub record FreshDone (w : World) (d : Done) : Type 0 where
  pub fresh : Fresh d.does
  pub quiet : Quiet w d.world

quietly : (w u : World) (d : Does) → Quiet w u → Fresh d → FreshDone w (done d u)
quietly w u d q h = record { fresh = h; quiet = q }

pub set_parameters_quiet : (body : Body) (ds : List KDecl) (vs : List ℤ) (w : World) → Quiet w (set_parameters body ds vs w)
set_parameters_quiet body [] vs w = quiet w
set_parameters_quiet body (d ∷ ds) [] w = quiet w
set_parameters_quiet body (d ∷ ds) (v ∷ vs) w =
    let a = set_parameters_quiet body ds vs (set body d.slot (Holds v) w) in record { living = a.living; given = a.given }

pub set_alias_quiet : (body : Body) (alias : Option ℕ) (c : Cell) (w : World) → Quiet w (set_alias body alias c w)
set_alias_quiet body None c w = quiet w
set_alias_quiet body (Some slot) c w = record { living = refl; given = refl }

assign_if_quiet : (body : Body) (t : Option Loc) (v : ℤ) (w : World) → Quiet w (assign_if body t v w)
assign_if_quiet body None v w = quiet w
assign_if_quiet body (Some l) v w = record { living = refl; given = refl }

no_branch_lives : (k n : ℕ) (bs : List KBlock) → live_branches k (branches_from n bs) ≡ 0
unfolding lives
no_branch_lives k n [] = refl
no_branch_lives k n (b ∷ bs) = omega (arith, no_branch_lives k n bs)

fresh_branches : (n : ℕ) (bs : List KBlock) → each_pools_stand (branches_from n bs)
unfolding each_pools_stand
fresh_branches n [] = tt
fresh_branches n (b ∷ bs) = (tt, fresh_branches n bs)

module _ (w : World) where
  or_fails_fresh : {A : Type 0} (a : Result A (Fault × Pos)) (go : A → Done) → ((x : A) → FreshDone w (go x)) → FreshDone w (or_fails a w go)
  or_fails_fresh (Ok x) go h = h x
  or_fails_fresh (Err e) go h = quietly w w (Fails e) (quiet w) tt

  same_world : (d : Does) → Fresh d → FreshDone w (done d w)
  same_world d h = quietly w w d (quiet w) h

  par_fresh : (n : ℕ) (s : KNode) (bs : List KBlock) → Fresh (in_branches n s bs)
  unfolding lives live_focus focus_stands each_pools_stand
  par_fresh n s [] = tt
  par_fresh n s (b ∷ bs) = (λ k. omega (arith, no_branch_lives k n bs), ((tt, fresh_branches n bs), tt))

  loop_fresh : (s : KNode) (k : KLoop) (body : Body) → FreshDone w (loop_reached s k body w)
  unfolding live_focus focus_stands
  loop_fresh s turns.Free body = same_world _ (λ n. refl, (tt, tt))
  loop_fresh s (turns.Times slot n) body = same_world _ (λ n. refl, (tt, tt))
  loop_fresh s (turns.Range i next end open_a a b open_b) body = or_fails_fresh (value_of a body w) _ (λ x. or_fails_fresh (value_of b body w) _ (λ y. same_world _ (λ n. refl, (tt, tt))))

  called_fresh : (s : KNode) (c : Option KCode) (vs : List ℤ) (body : Body) → FreshDone w (called s c vs body w)
  unfolding live_focus focus_stands
  called_fresh s None vs body = same_world Passes tt
  called_fresh s (Some c) vs body = quietly w _ _ (set_parameters_quiet (Awaited body s.node) c.params vs w) (λ n. refl, (tt, tt))

  spawning_fresh : (s : KNode) (c : Option KCode) (code pool : ℕ) (alias : Option ℕ) (vs : List ℤ) → FreshDone w (spawning s c code pool alias vs w)
  spawning_fresh s None code pool alias vs = same_world Passes tt
  spawning_fresh s (Some c) code pool alias vs = same_world (Spawns s c code pool alias vs) tt

  killing_fresh : (c : Option Cell) (living : List ℕ) → Fresh (killing c living)
  killing_fresh (Some (Names n)) living = go (names_living (Some (Names n)) living)
    where
      go : (b : Bool) → Fresh (if b then Kills n else Passes)
      go true = tt
      go false = tt
  killing_fresh (Some (Holds v)) living = tt
  killing_fresh (Some NotSet) living = tt
  killing_fresh None living = tt

  started_fresh : (K : Kernel) (n : ℕ) (body : Body) (s : KNode) (layer : Layer) → FreshDone w (started K n body s layer w)
  unfolding lives pools_stand live_focus focus_stands
  started_fresh K n body s KStmt-F.Nothing = same_world Passes tt
  started_fresh K n body s (KStmt-F.Assign l e) = or_fails_fresh (value_of e body w) _ (λ v. quietly w _ Passes (record { living = refl; given = refl }) tt)
  started_fresh K n body s (KStmt-F.Out k e) = or_fails_fresh (value_if e body w) _ (λ v. quietly w _ Passes (record { living = refl; given = refl }) tt)
  started_fresh K n body s (KStmt-F.Emit k e) = or_fails_fresh (value_if e body w) _ (λ v. same_world _ tt)
  started_fresh K n body s (KStmt-F.AwaitIn k t) = same_world _ (λ n. refl, tt)
  started_fresh K n body s (KStmt-F.AwaitTime e u t) = or_fails_fresh (value_of e body w) _ (λ v. same_world _ (λ n. refl, tt))
  started_fresh K n body s (KStmt-F.AwaitEvent e t) = same_world _ (λ n. refl, tt)
  started_fresh K n body s KStmt-F.Forever = same_world _ (λ n. refl, tt)
  started_fresh K n body s (KStmt-F.AwaitCode c es frame t) = or_fails_fresh (values_of es body w) _ (λ vs. called_fresh s (code_at c K.codes) vs body)
  started_fresh K n body s (KStmt-F.Spawn c es pool alias) = or_fails_fresh (values_of es body w) _ (λ vs. spawning_fresh s (code_at c K.codes) c pool alias vs)
  started_fresh K n body s (KStmt-F.Kill c) = same_world _ (killing_fresh (look body c w.values) w.living)
  started_fresh K n body s (KStmt-F.Unset c) = quietly w _ Passes (record { living = refl; given = refl }) tt
  started_fresh K n body s (KStmt-F.Async b) = same_world _ (λ n. refl, tt)
  started_fresh K n body s (KStmt-F.Finalize b) = same_world _ tt
  started_fresh K n body s (KStmt-F.Do t b) = same_world _ (λ n. refl, (tt, tt))
  started_fresh K n body s (KStmt-F.Escape node e) = or_fails_fresh (value_if e body w) _ (λ v. same_world _ tt)
  started_fresh K n body s (KStmt-F.Break node) = same_world _ tt
  started_fresh K n body s (KStmt-F.Continue node) = same_world _ tt
  started_fresh K n body s (KStmt-F.If arms last) = or_fails_fresh (chosen_part arms last body w) _ (λ b. same_world _ (λ n. refl, (tt, tt)))
  started_fresh K n body s (KStmt-F.Loop kind b) = loop_fresh s kind body
  started_fresh K n body s (KStmt-F.Par kind slot bs) = same_world _ (par_fresh n s bs)

  pub acted_fresh : (K : Kernel) (n : ℕ) (body : Body) (a : Act) → FreshDone w (acted K n body a w)
  unfolding lives pools_stand live_focus focus_stands
  acted_fresh K n body (Begin b) = same_world _ (λ n. refl, (tt, tt))
  acted_fresh K n body (Start s) = started_fresh K n body s (out-KStmt s.stmt)
  acted_fresh K n body (Finish s v) = quietly w _ Passes (assign_if_quiet body (target s) v w) tt
  acted_fresh K n body AtEnd = same_world Ends tt
  acted_fresh K n body AtHead = same_world Heads tt
  acted_fresh K n body Again = same_world Heads tt
