-- Reactions, commands and runs of a proper kernel keep which instances aliases name.
use Rattle.std.proofs.Common.{◌≡◌, refl, sym, ap, ◌∙◌, subst, ◌≤◌, ℕ, zero, suc, ℤ, Bool, true, false, if◌then◌else◌, List, [], ◌∷◌, Option, Some, None, Result, Ok, Err, arith}
use Rattle.std.proofs.lemmas.Bool.{and_parts, and_from, le-leb, leb-true, false≢true}
use Rattle.std.specs.List.{list_all}
use Rattle.ceu_base.specs.declared.kinds.Pos.{Pos}
use Rattle.ceu_base.specs.declared.kinds.Fault.{Fault}
use Rattle.ceu_tree.specs.declared.kernel.Kernel.{Kernel}
use Rattle.ceu_tree.specs.declared.kernel.KCode.{KCode}
use Rattle.ceu_tree.specs.declared.kernel.KLoop.{KLoop}
use Rattle.ceu_tree.specs.declared.kernel.KLoop.TheVariants as turns
use Rattle.ceu_tree.specs.declared.kernel.KNode.{KNode}
use Rattle.ceu_tree.specs.declared.kernel.KBlock.{KBlock}
use Rattle.ceu_tree.specs.declared.kernel.KStmt.{out-KStmt}
use Rattle.ceu_tree.specs.declared.kernel.KStmt.TheOpen.{KStmt-F}
use Rattle.ceu_tree.specs.Residual.{Body, Program, Act, Begin, Start, Finish, AtEnd, AtHead, Again, Residual, Over}
use Rattle.ceu_tree.specs.Focus.{Focus, plug, leaf, body_of, choose}
use Rattle.ceu_tree.specs.World.{World, Cell, Names, Held, look}
use Rattle.ceu_tree.specs.Expressions.{value_of, value_if, values_of, names_living}
use Rattle.ceu_tree.specs.Wake.{runs_at}
use Rattle.ceu_tree.specs.Leaf as does
use Rattle.ceu_tree.specs.Leaf.{Layer, Does, Done, or_fails, code_at, chosen_part, in_branches, loop_reached, called, spawning, killing, started, acted}
use Rattle.ceu_tree.specs.Around.{Outcome, Goes, Rests, Raises, Fails, Past, Registers, AtBlockEnd, AtLoopHead, Ends, Leaves}
use Rattle.ceu_tree.specs.Step.{stepped}
use Rattle.ceu_tree.specs.Legal.{Seated, seats}
use Rattle.ceu_tree.specs.Proper.{SlotKind, Scope, Seen, find, alias_takes, is_proper}
use Rattle.ceu_tree.specs.Run.{Config, Turning, Between, Waiting, Ended, Faulted, config_of, unless_failed, chosen_at, next, steps}
use Rattle.laws_meaning_basics.proofs.FocusBalance.{FoundIn, choose_found}
use Rattle.laws_meaning_basics.specs.Shape.{Part, program_part, ActFits, begins, heads, goes_again, starts, finishes, ends, Around, ConfigFits}
use Rattle.laws_meaning_basics.proofs.Static.{names_of}
use Rattle.laws_meaning_basics.proofs.UpFits.{Sound}
use Rattle.laws_meaning_basics.proofs.StepFits.{around_sound}
use Rattle.laws_meaning_basics.proofs.RunFits.{root_sound, next_fits}
use Rattle.laws_meaning_instances.proofs.Rooms.{Room, acted_room}
use Rattle.laws_meaning_instances.proofs.Steps.{SpawnFine}
use Rattle.laws_meaning_instances.proofs.Reactions.{ConfigCounts, room_fine, next_counts, instances_stand}
use Rattle.laws_meaning_slots.proofs.Slots.{once}
use Rattle.laws_meaning_slots.proofs.Aborts.{LieIn}
use Rattle.laws_meaning_slots.proofs.Writes.{alias_set, writes, at_writes}
use Rattle.laws_meaning_slots.specs.Declared.{rows, kind_at}
use Rattle.laws_meaning_slots.proofs.Known.{KnownSeen, Known, program_known, around_known}
use Rattle.laws_meaning_slots.proofs.Seats.{each_seat, plug_seats, unplug_seats}
use Rattle.laws_meaning_slots.proofs.Homed.{one_homed}
use Rattle.laws_meaning_slots.specs.Names.{low, one, agrees}
use Rattle.laws_meaning_slots.proofs.Agree.{listed, seated_list, numbers_low, tests_more}
use Rattle.laws_meaning_slots.proofs.NameSteps.{out_seats, alias_known, SpawnKnown, stepped_names}

module _ (K : Kernel) where
  abbrev pub TreeNames : Residual → World → Type 0
  TreeNames r w = LieIn (λ h. once (agrees K w.given (seats r Program) h)) w

  abbrev pub ConfigNames : Config → Type 0
  ConfigNames (Turning n f w) = TreeNames (plug f Over) w
  ConfigNames (Between n r w) = TreeNames r w
  ConfigNames (Waiting r w) = TreeNames r w
  ConfigNames (Ended v w) = Unit {0}
  ConfigNames (Faulted e w) = Unit {0}

  pub lower : (g j : ℕ) (c : Cell) → g ≤ j → low g c ≡ true → low j c ≡ true
  lower g j (Names k) l e = le-leb k j (let z = leb-true k g e in omega (arith, z, l))
  lower g j c l e = refl

  -- in a tree of no other seats
  pub same_names : (r q : Residual) (w : World) → ((P : Seated → Type 0) → each_seat P r Program → each_seat P q Program) → TreeNames r w → TreeNames q w
  same_names r q w f h = tests_more (agrees K w.given (seats r Program)) (agrees K w.given (seats q Program)) on w.values h
    where
      on : (k : Held) → agrees K w.given (seats r Program) k ≡ true → agrees K w.given (seats q Program) k ≡ true
      on k e =
          let a = and_parts (low w.given k.cell) (list_all (one K k) (seats r Program)) e in
          and_from (low w.given k.cell) (list_all (one K k) (seats q Program)) a.0 (seated_list (one K k) q Program (f (λ x. one K k x ≡ true) (listed (one K k) r Program a.1)))

  -- ---- a spawn's alias is one of the kernel's

  abbrev SpawnAlias : Does → Type 0
  SpawnAlias (does.Spawns s c code pool alias vs) = alias_known K code pool alias
  SpawnAlias d = Unit {0}

  module _ (proper : is_proper K ≡ true) where
    alias_seen : (seen : List Seen) (code pool a : ℕ) → KnownSeen K proper seen → alias_takes code pool (find a seen) ≡ true
        → alias_takes code pool (kind_at a (rows K)) ≡ true
    alias_seen seen code pool a k e = go (find a seen) refl e
      where
        go : (o : Option SlotKind) → find a seen ≡ o → alias_takes code pool o ≡ true → alias_takes code pool (kind_at a (rows K)) ≡ true
        go None q z = absurd (false≢true z)
        go (Some j) q z = ap (alias_takes code pool) (k a j q) ∙ z

    module _ (body : Body) (w : World) where
      or_fails_alias : {A : Type 0} (a : Result A (Fault × Pos)) (go : A → Done) → ((x : A) → SpawnAlias (go x).does) → SpawnAlias (or_fails a w go).does
      or_fails_alias (Ok x) go h = h x
      or_fails_alias (Err e) go h = tt

      branches_alias : (n : ℕ) (s : KNode) (bs : List KBlock) → SpawnAlias (in_branches n s bs)
      branches_alias n s [] = tt
      branches_alias n s (b ∷ bs) = tt

      killing_alias : (o : Option Cell) (living : List ℕ) → SpawnAlias (killing o living)
      killing_alias (Some (Names m)) living = go (names_living (Some (Names m)) living)
        where
          go : (b : Bool) → SpawnAlias (if b then does.Kills m else does.Passes)
          go true = tt
          go false = tt
      killing_alias o living = tt

      loop_alias : (s : KNode) (k : KLoop) → SpawnAlias (loop_reached s k body w).does
      loop_alias s turns.Free = tt
      loop_alias s (turns.Times slot m) = tt
      loop_alias s (turns.Range i next end open_a x y open_b) = or_fails_alias (value_of x body w) _ (λ u. or_fails_alias (value_of y body w) _ (λ v. tt))

      called_alias : (s : KNode) (o : Option KCode) (vs : List ℤ) → SpawnAlias (called s o vs body w).does
      called_alias s None vs = tt
      called_alias s (Some k) vs = tt

      spawning_alias : (sc : Scope) (s : KNode) (c p : ℕ) (a : Option ℕ) (o : Option KCode) (vs : List ℤ) → KnownSeen K proper sc.seen
          → alias_set K (names_of K) sc c p a → SpawnAlias (spawning s o c p a vs w).does
      spawning_alias sc s c p a None vs k h = tt
      spawning_alias sc s c p a (Some x) vs k h = known a h
        where
          known : (a : Option ℕ) → alias_set K (names_of K) sc c p a → alias_known K c p a
          known None h = tt
          known (Some a) h = alias_seen sc.seen c p a k h

      started_alias : (n : ℕ) (sc : Scope) (s : KNode) (layer : Layer) → KnownSeen K proper sc.seen → writes K (names_of K) sc layer
          → SpawnAlias (started K n body s layer w).does
      started_alias n sc s (KStmt-F.Assign l x) k h = or_fails_alias (value_of x body w) _ (λ v. tt)
      started_alias n sc s (KStmt-F.Out i x) k h = or_fails_alias (value_if x body w) _ (λ v. tt)
      started_alias n sc s (KStmt-F.Emit i x) k h = or_fails_alias (value_if x body w) _ (λ v. tt)
      started_alias n sc s (KStmt-F.AwaitTime x u t) k h = or_fails_alias (value_of x body w) _ (λ v. tt)
      started_alias n sc s (KStmt-F.AwaitCode c es f t) k h = or_fails_alias (values_of es body w) _ (λ vs. called_alias s (code_at c K.codes) vs)
      started_alias n sc s (KStmt-F.Spawn c es p a) k h = or_fails_alias (values_of es body w) _ (λ vs. spawning_alias sc s c p a (code_at c K.codes) vs k h)
      started_alias n sc s (KStmt-F.Kill c) k h = killing_alias (look body c w.values) w.living
      started_alias n sc s (KStmt-F.Escape m x) k h = or_fails_alias (value_if x body w) _ (λ v. tt)
      started_alias n sc s (KStmt-F.If arms last) k h = or_fails_alias (chosen_part arms last body w) _ (λ b. tt)
      started_alias n sc s (KStmt-F.Loop i b) k h = loop_alias s i
      started_alias n sc s (KStmt-F.Par i slot bs) k h = branches_alias n s bs
      started_alias n sc s layer k h = tt

      acted_alias : (n : ℕ) (d : Part) (a : Act) → Sound K proper d → ActFits d a → Known K proper d → SpawnAlias (acted K n body a w).does
      acted_alias n d (Begin b) h begins k = tt
      acted_alias n d AtHead h heads k = tt
      acted_alias n d Again h goes_again k = tt
      acted_alias n d (Start s) h (starts {sc = sc}) k = started_alias n sc s (out-KStmt s.stmt) k.1 (at_writes K (names_of K) sc s (out-KStmt s.stmt) refl h)
      acted_alias n d (Finish s v) h (finishes p) k = tt
      acted_alias n d AtEnd h ends k = tt

    spawn_known : {t : ℕ} {f : Focus Act} {e : Part} (x : Does) → Around K t Act f (program_part K) e → SpawnFine f x → Room K proper e x → SpawnAlias x
        → SpawnKnown K f Program x
    spawn_known (does.Spawns s c code pool alias vs) a fine room z = (one_homed K pool proper code a fine room.1 Program, z)
    spawn_known (does.Opens y) a fine room z = tt
    spawn_known (does.Waits r) a fine room z = tt
    spawn_known does.Passes a fine room z = tt
    spawn_known (does.Leaves node y) a fine room z = tt
    spawn_known (does.Registers s) a fine room z = tt
    spawn_known does.Ends a fine room z = tt
    spawn_known does.Heads a fine room z = tt
    spawn_known (does.Emits s event v) a fine room z = tt
    spawn_known (does.Kills k) a fine room z = tt
    spawn_known (does.Fails e) a fine room z = tt

    -- ---- a step of a reaction

    config_names : (n : ℕ) (x : Outcome) (w : World) → LieIn (λ h. once (agrees K w.given (out_seats x Program) h)) w → ConfigNames (config_of n x w)
    unfolding seats
    config_names n (Goes g) w h = h
    config_names n (Rests r) w h = h
    config_names n (Raises r) w h = h
    config_names n (Fails e r) w h = tt
    config_names n (Ends v) w h = tt
    config_names n Past w h = h
    config_names n (Registers s) w h = h
    config_names n AtBlockEnd w h = h
    config_names n AtLoopHead w h = h
    config_names n (Leaves node x) w h = h

    unless_names : (w : World) (c : Config) → ConfigNames c → ConfigNames (unless_failed w c)
    unless_names w c h = go w.fault
      where
        go : (o : Option (Fault × Pos)) → ConfigNames (elim o [ Some e ↦ Faulted e w | None ↦ c ])
        go None = h
        go (Some e) = tt

    chosen_names : (n : ℕ) (r : Residual) (w : World) (o : Option (Focus Act)) → FoundIn Act (runs_at n) r o → TreeNames r w → ConfigNames (chosen_at n o r w)
    unfolding each_seat
    chosen_names zero r w None x h = h
    chosen_names (suc n) r w None x h = h
    chosen_names n r w (Some f) x h = same_names r (plug f Over) w (λ P e. plug_seats P f Over Program (unplug_seats P f x.was Program (subst (λ q. each_seat P q Program) (sym x.plugs) e)).0 tt) h

    pub next_names : (c : Config) → ConfigFits K c → ConfigCounts c → ConfigNames c → ConfigNames (next K c)
    unfolding next
    next_names (Turning n f w) t z h =
        let m = stepped K n Program f w in
        let d = (acted K n (body_of f Program) (leaf f) w).does in
        let sound = around_sound K proper t.around (root_sound K proper) in
        let room = acted_room K proper n (body_of f Program) t.part (leaf f) w sound t.acts in
        let known = spawn_known d t.around (room_fine K proper d t.around z.1 room) room (acted_alias (body_of f Program) w n t.part (leaf f) sound t.acts (around_known K proper t.around (program_known K proper))) in
        let few = numbers_low w.given (seats (plug f Over) Program) (instances_stand K proper (Turning n f w) t z).numbers.given in
        unless_names m.world (config_of n m.outcome m.world) (config_names n m.outcome m.world (stepped_names K n Program f w known few h))
    next_names (Between n r w) t z h = chosen_names n r w (choose Act (runs_at n) r) (choose_found Act (runs_at n) r) h
    next_names (Waiting r w) t z h = h
    next_names (Ended v w) t z h = h
    next_names (Faulted e w) t z h = h

    pub steps_names : (k : ℕ) (c : Config) → ConfigFits K c → ConfigCounts c → ConfigNames c → ConfigNames (steps K k c)
    unfolding steps
    steps_names zero c t z h = h
    steps_names (suc k) (Turning n f w) t z h = steps_names k (next K (Turning n f w)) (next_fits K proper (Turning n f w) t) (next_counts K proper (Turning n f w) t z) (next_names (Turning n f w) t z h)
    steps_names (suc k) (Between n r w) t z h = steps_names k (next K (Between n r w)) (next_fits K proper (Between n r w) t) (next_counts K proper (Between n r w) t z) (next_names (Between n r w) t z h)
    steps_names (suc k) (Waiting r w) t z h = h
    steps_names (suc k) (Ended v w) t z h = h
    steps_names (suc k) (Faulted e w) t z h = h
