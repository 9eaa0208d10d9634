-- A leaf that spawns is in a trail, and sees the pool of its spawn.
use Rattle.std.proofs.Common.{◌≡◌, refl, ap, ℕ, ℤ, Bool, true, false, if◌then◌else◌, List, [], ◌∷◌, Option, Some, None, Result, Ok, Err, eqb-true}
use Rattle.std.proofs.lemmas.Bool.{false≢true}
use Rattle.ceu_base.specs.declared.kinds.Pos.{Pos}
use Rattle.ceu_base.specs.declared.kinds.Fault.{Fault}
use Rattle.ceu_tree.specs.declared.kernel.Kernel.{Kernel}
use Rattle.ceu_tree.specs.declared.kernel.KCode.{KCode}
use Rattle.ceu_tree.specs.declared.kernel.KLoop.{KLoop}
use Rattle.ceu_tree.specs.declared.kernel.KLoop.TheVariants as turns
use Rattle.ceu_tree.specs.declared.kernel.KNode.{KNode}
use Rattle.ceu_tree.specs.declared.kernel.KBlock.{KBlock}
use Rattle.ceu_tree.specs.declared.kernel.KStmt.{out-KStmt}
use Rattle.ceu_tree.specs.declared.kernel.KStmt.TheOpen.{KStmt-F}
use Rattle.ceu_tree.specs.Residual.{Body, Act, Begin, Start, Finish, AtEnd, AtHead, Again}
use Rattle.ceu_tree.specs.World.{World, Cell, Names, look}
use Rattle.ceu_tree.specs.Expressions.{value_of, value_if, values_of, names_living}
use Rattle.ceu_tree.specs.Leaf.{Layer, Does, Passes, Spawns, Kills, Done, or_fails, code_at, chosen_part, in_branches, loop_reached, called, spawning, killing, started, acted}
use Rattle.ceu_tree.specs.Proper.{SlotKind, IsVariable, IsLoopVariable, IsPool, IsAlias, Scope, is_pool_of, is_trail, find, is_proper}
use Rattle.laws_meaning_basics.specs.Shape.{Part, AStatement, begins, heads, goes_again, starts, finishes, ends, ActFits, in_trail}
use Rattle.laws_meaning_basics.proofs.Static.{names_of}
use Rattle.laws_meaning_basics.proofs.UpFits.{Sound}
use Rattle.laws_meaning_instances.proofs.Homes.{layer_says, at_says}
use Rattle.laws_meaning_instances.proofs.Paths.{part_find}

pool_is : (c : ℕ) (o : Option SlotKind) → is_pool_of c o ≡ true → o ≡ Some (IsPool c)
pool_is c None h = absurd (false≢true h)
pool_is c (Some (IsVariable t)) h = absurd (false≢true h)
pool_is c (Some IsLoopVariable) h = absurd (false≢true h)
pool_is c (Some (IsAlias a ps)) h = absurd (false≢true h)
pool_is c (Some (IsPool a)) h = ap (λ j. Some (IsPool j)) (eqb-true a c h)

module _ (K : Kernel) (proper : is_proper K ≡ true) where
  abbrev pub Room : Part → Does → Type 0
  Room d (Spawns s c code pool alias vs) = in_trail d × (part_find K pool d ≡ Some (IsPool code))
  Room d x = Unit {0}

  or_fails_room : {A : Type 0} (d : Part) (a : Result A (Fault × Pos)) (w : World) (go : A → Done) → ((x : A) → Room d (go x).does) → Room d (or_fails a w go).does
  or_fails_room d (Ok x) w go h = h x
  or_fails_room d (Err e) w go h = tt

  branches_room : (d : Part) (n : ℕ) (s : KNode) (bs : List KBlock) → Room d (in_branches n s bs)
  branches_room d n s [] = tt
  branches_room d n s (b ∷ bs) = tt

  killing_room : (d : Part) (o : Option Cell) (living : List ℕ) → Room d (killing o living)
  killing_room d (Some (Names m)) living = go (names_living (Some (Names m)) living)
    where
      go : (b : Bool) → Room d (if b then Kills m else Passes)
      go true = tt
      go false = tt
  killing_room d o living = tt

  loop_room : (d : Part) (s : KNode) (k : KLoop) (body : Body) (w : World) → Room d (loop_reached s k body w).does
  loop_room d s turns.Free body w = tt
  loop_room d s (turns.Times slot m) body w = tt
  loop_room d s (turns.Range i next end open_a x y open_b) body w = or_fails_room d (value_of x body w) w _ (λ u. or_fails_room d (value_of y body w) w _ (λ v. tt))

  called_room : (d : Part) (s : KNode) (o : Option KCode) (vs : List ℤ) (body : Body) (w : World) → Room d (called s o vs body w).does
  called_room d s None vs body w = tt
  called_room d s (Some k) vs body w = tt

  spawning_room : (sc : Scope) (s : KNode) (c p : ℕ) (a : Option ℕ) (o : Option KCode) (vs : List ℤ) (w : World) → is_trail sc.place ≡ true → is_pool_of c (find p sc.seen) ≡ true → Room (AStatement sc s) (spawning s o c p a vs w).does
  spawning_room sc s c p a None vs w h k = tt
  spawning_room sc s c p a (Some x) vs w h k = (h, pool_is c (find p sc.seen) k)

  started_room : (n : ℕ) (sc : Scope) (s : KNode) (body : Body) (w : World) (layer : Layer) → layer_says K (names_of K) sc layer → Room (AStatement sc s) (started K n body s layer w).does
  started_room n sc s body w (KStmt-F.Assign l x) h = or_fails_room (AStatement sc s) (value_of x body w) w _ (λ v. tt)
  started_room n sc s body w (KStmt-F.Out k x) h = or_fails_room (AStatement sc s) (value_if x body w) w _ (λ v. tt)
  started_room n sc s body w (KStmt-F.Emit k x) h = or_fails_room (AStatement sc s) (value_if x body w) w _ (λ v. tt)
  started_room n sc s body w (KStmt-F.AwaitTime x u t) h = or_fails_room (AStatement sc s) (value_of x body w) w _ (λ v. tt)
  started_room n sc s body w (KStmt-F.AwaitCode c es f t) h = or_fails_room (AStatement sc s) (values_of es body w) w _ (λ vs. called_room (AStatement sc s) s (code_at c K.codes) vs body w)
  started_room n sc s body w (KStmt-F.Spawn c es p a) h = or_fails_room (AStatement sc s) (values_of es body w) w _ (λ vs. spawning_room sc s c p a (code_at c K.codes) vs w h.0 h.1)
  started_room n sc s body w (KStmt-F.Kill c) h = killing_room (AStatement sc s) (look body c w.values) w.living
  started_room n sc s body w (KStmt-F.Escape m x) h = or_fails_room (AStatement sc s) (value_if x body w) w _ (λ v. tt)
  started_room n sc s body w (KStmt-F.If arms last) h = or_fails_room (AStatement sc s) (chosen_part arms last body w) w _ (λ b. tt)
  started_room n sc s body w (KStmt-F.Loop k b) h = loop_room (AStatement sc s) s k body w
  started_room n sc s body w (KStmt-F.Par k slot bs) h = branches_room (AStatement sc s) n s bs
  started_room n sc s body w layer h = tt

  pub acted_room : (n : ℕ) (body : Body) (d : Part) (a : Act) (w : World) → Sound K proper d → ActFits d a → Room d (acted K n body a w).does
  acted_room n body d (Begin b) w h begins = tt
  acted_room n body d AtHead w h heads = tt
  acted_room n body d Again w h goes_again = tt
  acted_room n body d (Start s) w h (starts {sc = sc}) = started_room n sc s body w (out-KStmt s.stmt) (at_says K (names_of K) sc s (out-KStmt s.stmt) refl h)
  acted_room n body d (Finish s v) w h (finishes p) = tt
  acted_room n body d AtEnd w h ends = tt
