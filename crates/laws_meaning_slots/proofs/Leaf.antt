-- What a leaf does by itself keeps each value in an open slot. Parameters of code that is awaited lie in the part that it opens.
use Rattle.std.proofs.Common.{◌≡◌, refl, ap, ◌≤◌, ℕ, ◌+◌, ℤ, Bool, true, false, if◌then◌else◌, List, [], ◌∷◌, Option, Some, None, Result, Ok, Err, arith, eq-eqb}
use Rattle.ceu_base.specs.declared.kinds.Pos.{Pos}
use Rattle.ceu_base.specs.declared.kinds.Fault.{Fault}
use Rattle.ceu_tree.specs.declared.kernel.Kernel.{Kernel}
use Rattle.ceu_tree.specs.declared.kernel.KCode.{KCode}
use Rattle.ceu_tree.specs.declared.kernel.KDecl.{KDecl}
use Rattle.ceu_tree.specs.declared.kernel.KLoop.{KLoop}
use Rattle.ceu_tree.specs.declared.kernel.KLoop.TheVariants as turns
use Rattle.ceu_tree.specs.declared.kernel.KNode.{KNode}
use Rattle.ceu_tree.specs.declared.kernel.KBlock.{KBlock}
use Rattle.ceu_tree.specs.declared.kernel.KStmt.{out-KStmt}
use Rattle.ceu_tree.specs.declared.kernel.KStmt.TheOpen.{KStmt-F}
use Rattle.ceu_tree.specs.Residual.{Body, Awaited, Act, Begin, Start, Finish, AtEnd, AtHead, Again}
use Rattle.ceu_tree.specs.World.{World, Cell, Holds, NotSet, Names, Held, set, assign, assign_if, set_parameters, look}
use Rattle.ceu_tree.specs.Expressions.{names_living, value_of, value_if, values_of}
use Rattle.ceu_tree.specs.Leaf.{Layer, Does, Opens, Waits, Passes, Spawns, Kills, Fails, Done, done, or_fails, in_branches, chosen_part, loop_reached, called, spawning, killing, code_at, started, acted, target}
use Rattle.ceu_tree.specs.Legal.{called_code}
use Rattle.ceu_tree.specs.Proper.{IsAlias, Scope, is_proper}
use Rattle.laws_meaning_basics.specs.Shape.{Part, ActFits, begins, heads, goes_again, starts, finishes, ends}
use Rattle.laws_meaning_basics.proofs.Static.{names_of}
use Rattle.laws_meaning_basics.proofs.UpFits.{Sound}
use Rattle.laws_meaning_slots.specs.Held.{is_of_kind}
use Rattle.laws_meaning_slots.proofs.Slots.{decls_room, code_room, room, focus_room}
use Rattle.laws_meaning_slots.proofs.Values.{held, lie_more, lie_put}
use Rattle.laws_meaning_slots.proofs.Covers.{slot_is, Own, Outer, Covers, at_one, alias_own, spawn_own}
use Rattle.laws_meaning_slots.proofs.Writes.{all_variables, parameters_are, alias_set, writes, at_writes, target_written}
use Rattle.laws_meaning_slots.proofs.Aborts.{LieIn, assign_lies, assign_if_lies}

module _ (K : Kernel) (g : ℕ) where
  pub parameters_lie : (body : Body) (ds : List KDecl) (vs : List ℤ) (m : Held → ℕ) (w : World) → all_variables ds
      → ((h : Held) → decls_room K.codes g h body ds ≤ m h) → LieIn m w → LieIn m (set_parameters body ds vs w)
  parameters_lie body [] vs m w a n l = l
  parameters_lie body (d ∷ ds) [] m w a n l = l
  parameters_lie body (d ∷ ds) (v ∷ vs) m w a n l =
      parameters_lie body ds vs m (set body d.slot (Holds v) w) a.1 (λ h. (let k = n h in omega (arith, k))) (lie_put m body d.slot (Holds v) w.values there l)
    where
      there : 1 ≤ m (held body d.slot (Holds v))
      there =
          let one = at_one K g body d.slot d.slot d.kind (Holds v) (eq-eqb d.slot d.slot refl) (ap (λ k. is_of_kind g k (Holds v)) a.0.1) in
          let k = n (held body d.slot (Holds v)) in omega (arith, one, k)

  -- the alias of a spawn is open
  abbrev pub alias_counts : (Held → ℕ) → Body → Option ℕ → Type 0
  alias_counts c body None = Unit {0}
  alias_counts c body (Some a) = (cell : Cell) → ((k : ℕ) (ps : List ℕ) → slot_is K g (IsAlias k ps) cell ≡ true) → 1 ≤ c (held body a cell)

  abbrev pub Spawning : (Held → ℕ) → Body → Does → Type 0
  Spawning c body (Spawns s k code pool alias vs) = alias_counts c body alias × (code_at code K.codes ≡ Some k)
  Spawning c body d = Unit {0}

  -- the slots of what a leaf opens
  abbrev pub fresh : Held → Body → Does → ℕ
  fresh h body (Opens x) = focus_room K.codes g h x body
  fresh h body (Waits r) = room K.codes g h r body
  fresh h body d = 0

  pub record FreshDone (c : Held → ℕ) (body : Body) (d : Done) : Type 0 where
    pub lie : LieIn (λ h. fresh h body d.does + c h) d.world
    pub spawns : Spawning c body d.does

module _ (K : Kernel) (proper : is_proper K ≡ true) (g : ℕ) (body : Body) (c : Held → ℕ) (w : World) (x : LieIn c w) where
  same : (d : Does) → Spawning K g c body d → FreshDone K g c body (done d w)
  same d s = record { lie = lie_more c (λ h. fresh K g h body d + c h) (λ h n. omega (arith, n)) w.values x; spawns = s }

  passes : (u : World) → LieIn c u → FreshDone K g c body (done Passes u)
  passes u l = record { lie = lie_more c (λ h. 0 + c h) (λ h n. omega (arith, n)) u.values l; spawns = tt }

  or_fails_lie : {A : Type 0} (a : Result A (Fault × Pos)) (go : A → Done) → ((v : A) → FreshDone K g c body (go v)) → FreshDone K g c body (or_fails a w go)
  or_fails_lie (Ok v) go h = h v
  or_fails_lie (Err e) go h = same (Fails e) tt

  par_lie : (n : ℕ) (s : KNode) (bs : List KBlock) → FreshDone K g c body (done (in_branches n s bs) w)
  par_lie n s [] = same _ tt
  par_lie n s (b ∷ bs) = same _ tt

  loop_lie : (s : KNode) (k : KLoop) → FreshDone K g c body (loop_reached s k body w)
  loop_lie s turns.Free = same _ tt
  loop_lie s (turns.Times slot n) = same _ tt
  loop_lie s (turns.Range i next end open_a a b open_b) = or_fails_lie (value_of a body w) _ (λ v. or_fails_lie (value_of b body w) _ (λ u. same _ tt))

  called_lie : (s : KNode) (i : ℕ) (es f t : _) (o : Option KCode) (vs : List ℤ) → out-KStmt s.stmt ≡ KStmt-F.AwaitCode i es f t → code_at i K.codes ≡ o
      → FreshDone K g c body (called s o vs body w)
  unfolding focus_room
  called_lie s i es f t None vs e q = same _ tt
  called_lie s i es f t (Some k) vs e q = record {
    lie = parameters_lie K g (Awaited body s.node) k.params vs m w (parameters_are K i k proper q)
        (λ h. (let a = ap (λ l. code_room K.codes g h (Awaited body s.node) (called_code K.codes l)) e in let b = ap (code_room K.codes g h (Awaited body s.node)) q in omega (arith, a, b)))
        (lie_more c m (λ h n. omega (arith, n)) w.values x);
    spawns = tt;
  }
    where
      m : Held → ℕ
      m h = code_room K.codes g h (Awaited body s.node) (called_code K.codes (out-KStmt s.stmt)) + 0 + c h

  killing_lie : (o : Option Cell) (living : List ℕ) → FreshDone K g c body (done (killing o living) w)
  killing_lie (Some (Names n)) living = go (names_living (Some (Names n)) living)
    where
      go : (b : Bool) → FreshDone K g c body (done (if b then Kills n else Passes) w)
      go true = same (Kills n) tt
      go false = same Passes tt
  killing_lie (Some (Holds v)) living = same Passes tt
  killing_lie (Some NotSet) living = same Passes tt
  killing_lie None living = same Passes tt

  spawning_lie : (sc : Scope) (s : KNode) (code pool : ℕ) (alias : Option ℕ) (o : Option KCode) (vs : List ℤ) → Own K g c sc.seen body
      → alias_set K (names_of K) sc code pool alias → code_at code K.codes ≡ o → FreshDone K g c body (spawning s o code pool alias vs w)
  spawning_lie sc s code pool alias None vs o h e = same Passes tt
  spawning_lie sc s code pool alias (Some k) vs o h e = same (Spawns s k code pool alias vs) (counts alias h, e)
    where
      counts : (alias : Option ℕ) → alias_set K (names_of K) sc code pool alias → alias_counts K g c body alias
      counts None h = tt
      counts (Some a) h = λ cell f. spawn_own K g sc.seen a code pool body c cell o h f

  started_lie : (n : ℕ) (sc : Scope) (s : KNode) (layer : Layer) → Own K g c sc.seen body → Outer K g c → out-KStmt s.stmt ≡ layer → writes K (names_of K) sc layer
      → FreshDone K g c body (started K n body s layer w)
  started_lie n sc s (KStmt-F.Assign l e) o u q h = or_fails_lie (value_of e body w) _ (λ v. passes (assign body l v w) (assign_lies K proper g sc l v body c w o u h x))
  started_lie n sc s (KStmt-F.Out k e) o u q h = or_fails_lie (value_if e body w) _ (λ v. passes _ x)
  started_lie n sc s (KStmt-F.Emit k e) o u q h = or_fails_lie (value_if e body w) _ (λ v. same _ tt)
  started_lie n sc s (KStmt-F.AwaitTime e z t) o u q h = or_fails_lie (value_of e body w) _ (λ v. same _ tt)
  started_lie n sc s (KStmt-F.AwaitCode i es f t) o u q h = or_fails_lie (values_of es body w) _ (λ vs. called_lie s i es f t (code_at i K.codes) vs q refl)
  started_lie n sc s (KStmt-F.Spawn i es p a) o u q h = or_fails_lie (values_of es body w) _ (λ vs. spawning_lie sc s i p a (code_at i K.codes) vs o h refl)
  started_lie n sc s (KStmt-F.Kill a) o u q h = killing_lie (look body a w.values) w.living
  started_lie n sc s (KStmt-F.Unset a) o u q h = passes (set body a NotSet w) (lie_put c body a NotSet w.values (alias_own K g sc.seen a body c o h) x)
  started_lie n sc s (KStmt-F.Escape m e) o u q h = or_fails_lie (value_if e body w) _ (λ v. same _ tt)
  started_lie n sc s (KStmt-F.If arms last) o u q h = or_fails_lie (chosen_part arms last body w) _ (λ b. same _ tt)
  started_lie n sc s (KStmt-F.Loop k b) o u q h = loop_lie s k
  started_lie n sc s (KStmt-F.Par k slot bs) o u q h = par_lie n s bs
  started_lie n sc s layer o u q h = same _ tt

  pub acted_lie : (n : ℕ) (d : Part) (a : Act) → Sound K proper d → ActFits d a → Covers K g c d body → FreshDone K g c body (acted K n body a w)
  acted_lie n d (Begin b) h begins o = same _ tt
  acted_lie n d AtHead h heads o = same _ tt
  acted_lie n d Again h goes_again o = same _ tt
  acted_lie n d (Start s) h (starts {sc = sc}) o = started_lie n sc s (out-KStmt s.stmt) o.0 o.1 refl (at_writes K (names_of K) sc s (out-KStmt s.stmt) refl h)
  acted_lie n d (Finish s v) h (finishes {sc = sc} p) o =
      passes (assign_if body (target s) v w) (assign_if_lies K proper g sc (target s) v body c w o.0 o.1 (target_written K (names_of K) sc (out-KStmt s.stmt) (at_writes K (names_of K) sc s (out-KStmt s.stmt) refl h)) x)
  acted_lie n d AtEnd h ends o = same _ tt
