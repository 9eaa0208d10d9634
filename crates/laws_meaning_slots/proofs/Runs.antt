-- The laws on the values that are held.
use Rattle.std.proofs.Common.{◌≡◌, refl, sym, ap, ◌∙◌, subst, ℕ, Bool, true, false, ◌==◌, ◌&&◌, ◌||◌, ◌⊎◌, inl, inr, List, [], ◌∷◌, ◌++◌, append_assoc, Option, Some, None, arith}
use Rattle.std.proofs.lemmas.Bool.{and_parts, and_from, or_cases, lt-ltb}
use Rattle.std.specs.List.{list_all, list_any}
use Rattle.ceu_tree.specs.declared.command.Command.{Command}
use Rattle.ceu_tree.specs.declared.kernel.Kernel.{Kernel}
use Rattle.ceu_tree.specs.declared.kernel.KCode.{KCode}
use Rattle.ceu_tree.specs.declared.kernel.KDecl.{KDecl}
use Rattle.ceu_base.specs.declared.kinds.Ty.TheVariants as ty
use Rattle.ceu_tree.specs.declared.kernel.KKind.{KKind}
use Rattle.ceu_tree.specs.declared.kernel.KKind.TheVariants as kind
use Rattle.ceu_tree.specs.declared.kernel.KLoop.{KLoop}
use Rattle.ceu_tree.specs.declared.kernel.KLoop.TheVariants as turns
use Rattle.ceu_tree.specs.declared.kernel.KBlock.{out-KBlock}
use Rattle.ceu_tree.specs.declared.kernel.KStmt.{out-KStmt}
use Rattle.ceu_tree.specs.declared.kernel.KStmt.TheOpen.{KStmt-F}
use Rattle.ceu_tree.specs.Residual.{Body, Program, Awaited, Spawned, same_body, Act, Residual, Over, Run, WaitInput, WaitTime, WaitEvent, WaitForever, InAsync, Block, Open, Loop, Call, Par, Branches, no_branch, branch, Instances, no_instance, instance}
use Rattle.ceu_tree.specs.Focus.{Focus, plug}
use Rattle.ceu_tree.specs.World.{Held, World}
use Rattle.ceu_tree.specs.Leaf.{Layer, code_at}
use Rattle.ceu_tree.specs.Legal.{seats, called_code, OpenSlot, decls_open, turns_open, loop_open, code_open, open_slots, branches_open, instances_open, is_open_slot}
use Rattle.ceu_tree.specs.Proper.{is_proper}
use Rattle.ceu_tree.specs.Run.{Config, Turning, Between, Waiting, Ended, Faulted, next, steps, done, run}
use Rattle.laws_meaning_basics.specs.Shape.{ConfigFits}
use Rattle.laws_meaning_instances.specs.Instances.{InstancesStand}
use Rattle.laws_meaning_instances.proofs.Reactions.{instances_counted}
use Rattle.laws_meaning_slots.specs.Held.{is_of_kind, lies_at, lies_declared, lies_counted, lies_turning, lies_given, lies_in, lies_in_branches, lies_in_instances, all_lie, ValuesLie}
use Rattle.laws_meaning_basics.proofs.RunFits.{run_fits}
use Rattle.ceu_tree.specs.Abort.{aborted}
use Rattle.laws_meaning_basics.proofs.RunFits.{root_sound}
use Rattle.laws_meaning_slots.specs.Typed.{is_typed, all_typed}
use Rattle.laws_meaning_slots.proofs.Aborts.{LieIn}
use Rattle.laws_meaning_slots.proofs.Typing.{aborted_typed}
use Rattle.laws_meaning_slots.proofs.Starts.{turn_starts}
use Rattle.laws_meaning_slots.specs.Laws.{AbortTyped, StartTyped, RunNamesLegal, SlotKinds, RunSlotKinds, RunSlotsLegal}
use Rattle.laws_meaning_slots.proofs.Slots.{once, once_is, room, focus_room, plug_room, lies_room}
use Rattle.laws_meaning_slots.proofs.Values as values
use Rattle.laws_meaning_slots.proofs.Values.{Lie, lie_more, lie_all}
use Rattle.laws_meaning_slots.proofs.Reactions.{TreeLies, ConfigLies, next_lies, steps_lie}
use Rattle.laws_meaning_slots.proofs.Commands.{done_lies, run_lies}
use Rattle.laws_meaning_slots.proofs.Known.{program_known}
use Rattle.laws_meaning_slots.proofs.Fitting.{EachKind, each_lies, tree_fits}
use Rattle.laws_meaning_slots.specs.Names.{names_agree, agrees, all_agree, NamesHold}
use Rattle.laws_meaning_slots.proofs.NameRuns.{TreeNames, ConfigNames, next_names, steps_names}
use Rattle.laws_meaning_slots.proofs.NameCommands.{done_names, run_names}
use Rattle.laws_meaning_slots.proofs.NamesFit.{tree_names}

-- ---- what is counted, and what is said

module _ (K : Kernel) where
  tree_counted : (r : Residual) (w : World) → all_lie K r w → TreeLies K r w
  tree_counted r w e = lie_all (λ h. room K.codes w.given h r Program) (λ h. lies_in K.codes w.given h r Program) (λ h. lies_room K.codes w.given h r Program) w.values e

  tree_lies : (r : Residual) (w : World) → TreeLies K r w → all_lie K r w
  tree_lies r w l =
      values.all_lie (λ h. room K.codes w.given h r Program) (λ h. lies_in K.codes w.given h r Program) (λ h n. lies_room K.codes w.given h r Program ∙ lt-ltb 0 (room K.codes w.given h r Program) (omega (arith, n))) w.values l

  over_room : (f : Focus Act) (w : World) (h : Held) → room K.codes w.given h (plug f Over) Program ≡ focus_room K.codes w.given h f Program
  unfolding room
  over_room f w h = let a = plug_room K.codes w.given h f Over Program in omega (arith, a)

  config_counted : (c : Config) → ValuesLie K c → ConfigLies K c
  config_counted (Turning n f w) e = lie_more (λ h. room K.codes w.given h (plug f Over) Program) (λ h. focus_room K.codes w.given h f Program) (λ h n. (let a = over_room f w h in omega (arith, a, n))) w.values (tree_counted (plug f Over) w e)
  config_counted (Between n r w) e = tree_counted r w e
  config_counted (Waiting r w) e = tree_counted r w e
  config_counted (Ended v w) e = tt
  config_counted (Faulted z w) e = tt

  config_lies : (c : Config) → ConfigLies K c → ValuesLie K c
  config_lies (Turning n f w) l = tree_lies (plug f Over) w (lie_more (λ h. focus_room K.codes w.given h f Program) (λ h. room K.codes w.given h (plug f Over) Program) (λ h n. (let a = over_room f w h in omega (arith, a, n))) w.values l)
  config_lies (Between n r w) l = tree_lies r w l
  config_lies (Waiting r w) l = tree_lies r w l
  config_lies (Ended v w) l = tt
  config_lies (Faulted z w) l = tt

  module _ (proper : is_proper K ≡ true) where
    pub next_held : (c : Config) → ConfigFits K c → InstancesStand c → ValuesLie K c → ValuesLie K (next K c)
    next_held c t s h = config_lies (next K c) (next_lies K proper c t (instances_counted K proper c t s) (config_counted c h))

    pub steps_held : (n : ℕ) (c : Config) → ConfigFits K c → InstancesStand c → ValuesLie K c → ValuesLie K (steps K n c)
    steps_held n c t s h = config_lies (steps K n c) (steps_lie K proper n c t (instances_counted K proper c t s) (config_counted c h))

    pub done_held : (n : ℕ) (x : Command) (c : Config) → ConfigFits K c → InstancesStand c → ValuesLie K c → ValuesLie K (done K n x c)
    done_held n x c t s h = config_lies (done K n x c) (done_lies K proper n x c t (instances_counted K proper c t s) (config_counted c h))

    pub run_held : (n : ℕ) (xs : List Command) → ValuesLie K (run K n xs)
    run_held n xs = config_lies (run K n xs) (run_lies K proper n xs)

-- ---- which instances aliases name

module _ (K : Kernel) where
  tree_tested : (r : Residual) (w : World) → all_agree K r w → TreeNames K r w
  tree_tested r w e = lie_all (λ h. once (agrees K w.given (seats r Program) h)) (agrees K w.given (seats r Program)) (λ h. once_is (agrees K w.given (seats r Program) h)) w.values e

  tree_agrees : (r : Residual) (w : World) → TreeNames K r w → all_agree K r w
  tree_agrees r w l =
      values.all_lie (λ h. once (agrees K w.given (seats r Program) h)) (agrees K w.given (seats r Program)) (λ h n. once_is (agrees K w.given (seats r Program) h) ∙ lt-ltb 0 (once (agrees K w.given (seats r Program) h)) (omega (arith, n))) w.values l

  config_tested : (c : Config) → NamesHold K c → ConfigNames K c
  config_tested (Turning n f w) e = tree_tested (plug f Over) w e
  config_tested (Between n r w) e = tree_tested r w e
  config_tested (Waiting r w) e = tree_tested r w e
  config_tested (Ended v w) e = tt
  config_tested (Faulted z w) e = tt

  config_agrees : (c : Config) → ConfigNames K c → NamesHold K c
  config_agrees (Turning n f w) l = tree_agrees (plug f Over) w l
  config_agrees (Between n r w) l = tree_agrees r w l
  config_agrees (Waiting r w) l = tree_agrees r w l
  config_agrees (Ended v w) l = tt
  config_agrees (Faulted z w) l = tt

  module _ (proper : is_proper K ≡ true) where
    pub next_hold : (c : Config) → ConfigFits K c → InstancesStand c → NamesHold K c → NamesHold K (next K c)
    next_hold c t s h = config_agrees (next K c) (next_names K proper c t (instances_counted K proper c t s) (config_tested c h))

    pub steps_hold : (n : ℕ) (c : Config) → ConfigFits K c → InstancesStand c → NamesHold K c → NamesHold K (steps K n c)
    steps_hold n c t s h = config_agrees (steps K n c) (steps_names K proper n c t (instances_counted K proper c t s) (config_tested c h))

    pub done_hold : (n : ℕ) (x : Command) (c : Config) → ConfigFits K c → InstancesStand c → NamesHold K c → NamesHold K (done K n x c)
    done_hold n x c t s h = config_agrees (done K n x c) (done_names K proper n x c t (instances_counted K proper c t s) (config_tested c h))

    pub run_hold : (n : ℕ) (xs : List Command) → NamesHold K (run K n xs)
    run_hold n xs = config_agrees (run K n xs) (run_names K proper n xs)

-- ---- the kinds of open slots

each_kind : (K : Kernel) (proper : is_proper K ≡ true) (r : Residual) (w : World) → ConfigFits K (Waiting r w) → ValuesLie K (Waiting r w)
    → EachKind K proper w.given w.values
each_kind K p r w t v = each_lies K p w.given t (program_known K p) Program w.values (tree_counted K r w v)

pub kinds_are : SlotKinds
kinds_are K r w p t v = tree_fits K p w (each_kind K p r w t v) t (program_known K p) Program

pub run_kinds : RunSlotKinds
run_kinds K n xs r w p e = kinds_are K r w p (subst (ConfigFits K) e (run_fits K p n xs)) (subst (ValuesLie K) e (run_held K p n xs))

-- ---- types

all_tested : (K : Kernel) (w : World) → all_typed K w → LieIn (λ h. once (is_typed K h)) w
all_tested K w e = lie_all (λ h. once (is_typed K h)) (is_typed K) (λ h. once_is (is_typed K h)) w.values e

pub abort_types : AbortTyped
abort_types K top r w p t e =
    values.all_lie (λ h. once (is_typed K h)) (is_typed K) (λ h n. once_is (is_typed K h) ∙ lt-ltb 0 (once (is_typed K h)) (omega (arith, n))) (aborted r Program w).values
    (aborted_typed K p t (root_sound K p) (program_known K p) Program w (all_tested K w e))

pub start_types : StartTyped
start_types K n f w s p t q a = turn_starts K p n f w s t q (all_tested K w a)

-- ---- in the words of legality

any_left : {A : Type 0} (q : A → Bool) (xs ys : List A) → list_any q xs ≡ true → list_any q (xs ++ ys) ≡ true
any_left q [] ys e = absurd (cc)
any_left q (x ∷ xs) ys e = go (q x) e (any_left q xs ys)
  where
    go : (b : Bool) → (b || list_any q xs) ≡ true → (list_any q xs ≡ true → list_any q (xs ++ ys) ≡ true) → (b || list_any q (xs ++ ys)) ≡ true
    go true e ih = refl
    go false e ih = ih e

any_right : {A : Type 0} (q : A → Bool) (xs ys : List A) → list_any q ys ≡ true → list_any q (xs ++ ys) ≡ true
any_right q [] ys e = e
any_right q (x ∷ xs) ys e = go (q x) (any_right q xs ys e)
  where
    go : (b : Bool) → list_any q (xs ++ ys) ≡ true → (b || list_any q (xs ++ ys)) ≡ true
    go true e = refl
    go false e = e

module _ (codes : List KCode) (g : ℕ) (h : Held) where
  abbrev is_here : OpenSlot → Bool
  is_here x = (x.slot == h.slot) && same_body x.body h.body

  both : (xs ys : List OpenSlot) (a b : Bool) → (a ≡ true → is_open_slot xs h ≡ true) → (b ≡ true → is_open_slot ys h ≡ true) → (a || b) ≡ true
      → is_open_slot (xs ++ ys) h ≡ true
  both xs ys true b f g e = any_left is_here xs ys (f refl)
  both xs ys false b f g e = any_right is_here xs ys (g e)

  open_at : (body : Body) (slot : ℕ) (k : KKind) (xs : List OpenSlot) → lies_at codes g h body slot k ≡ true
      → is_open_slot (record { body = body; slot = slot } ∷ xs) h ≡ true
  open_at body slot k xs e = ap (λ b. b || is_open_slot xs h) (and_parts ((slot == h.slot) && same_body body h.body) (is_of_kind g k h.cell) e).0

  open_decls : (body : Body) (ds : List KDecl) → lies_declared codes g h body ds ≡ true → is_open_slot (decls_open body ds) h ≡ true
  open_decls body [] e = e
  open_decls body (d ∷ ds) e = go (or_cases (lies_at codes g h body d.slot d.kind) (lies_declared codes g h body ds) e) (open_decls body ds)
    where
      go : (lies_at codes g h body d.slot d.kind ≡ true) ⊎ (lies_declared codes g h body ds ≡ true)
          → (lies_declared codes g h body ds ≡ true → is_open_slot (decls_open body ds) h ≡ true)
          → is_open_slot (record { body = body; slot = d.slot } ∷ decls_open body ds) h ≡ true
      go (inl e) ih = open_at body d.slot d.kind (decls_open body ds) e
      go (inr e) ih = any_right is_here (record { body = body; slot = d.slot } ∷ []) (decls_open body ds) (ih e)

  open_turns : (body : Body) (k : KLoop) → lies_counted codes g h body k ≡ true → is_open_slot (turns_open body k) h ≡ true
  open_turns body (turns.Range i next end open_a a b open_b) e = open_at body i (kind.Var ty.S32) [] e
  open_turns body turns.Free e = e
  open_turns body (turns.Times slot n) e = e

  open_loop : (body : Body) (layer : Layer) → lies_turning codes g h body layer ≡ true → is_open_slot (loop_open body layer) h ≡ true
  open_loop body (KStmt-F.Loop k b) e = open_turns body k e
  open_loop body layer e = e

  open_code : (body : Body) (o : Option KCode) → lies_given codes g h body o ≡ true → is_open_slot (code_open body o) h ≡ true
  open_code body None e = e
  open_code body (Some c) e = open_decls body c.params e

  mutual
    unfolding lies_in open_slots

    pub open_in : (r : Residual) (body : Body) → lies_in codes g h r body ≡ true → is_open_slot (open_slots codes r body) h ≡ true
    open_in (Block b fin all r rest) body e =
        subst (λ xs. is_open_slot xs h ≡ true) (sym (append_assoc (decls_open body (out-KBlock b).decls) (instances_open codes all) (open_slots codes r body)))
        (both (decls_open body (out-KBlock b).decls) (instances_open codes all ++ open_slots codes r body) _ _ (open_decls body (out-KBlock b).decls)
        (both (instances_open codes all) (open_slots codes r body) _ _ (open_all all) (open_in r body)) e)
    open_in (Open s r) body e = open_in r body e
    open_in (Loop s c r) body e = both (loop_open body (out-KStmt s.stmt)) (open_slots codes r body) _ _ (open_loop body (out-KStmt s.stmt)) (open_in r body) e
    open_in (Call s r) body e =
        both (code_open (Awaited body s.node) (called_code codes (out-KStmt s.stmt))) (open_slots codes r (Awaited body s.node)) _ _ (open_code (Awaited body s.node) (called_code codes (out-KStmt s.stmt))) (open_in r (Awaited body s.node)) e
    open_in (Par s bs) body e = open_each bs body e
    open_in (InAsync s served r) body e = open_in r body e
    open_in Over body e = e
    open_in (Run k a) body e = e
    open_in (WaitInput k s) body e = e
    open_in (WaitTime d s) body e = e
    open_in (WaitEvent k s) body e = e
    open_in (WaitForever s) body e = e

    open_each : (bs : Branches) (body : Body) → lies_in_branches codes g h bs body ≡ true → is_open_slot (branches_open codes bs body) h ≡ true
    open_each no_branch body e = e
    open_each (branch r more) body e = both (open_slots codes r body) (branches_open codes more body) _ _ (open_in r body) (open_each more body) e

    open_all : (all : Instances) → lies_in_instances codes g h all ≡ true → is_open_slot (instances_open codes all) h ≡ true
    open_all no_instance e = e
    open_all (instance seat r more) e =
        let body = Spawned seat.number in
        subst (λ xs. is_open_slot xs h ≡ true) (sym (append_assoc (code_open body (code_at seat.code codes)) (open_slots codes r body) (instances_open codes more)))
        (both (code_open body (code_at seat.code codes)) (open_slots codes r body ++ instances_open codes more) _ _ (open_code body (code_at seat.code codes))
        (both (open_slots codes r body) (instances_open codes more) _ _ (open_in r body) (open_all more)) e)

all_open : (K : Kernel) (r : Residual) (g : ℕ) (hs : List Held) → list_all (λ h. lies_in K.codes g h r Program) hs ≡ true
    → list_all (is_open_slot (open_slots K.codes r Program)) hs ≡ true
all_open K r g [] e = refl
all_open K r g (h ∷ hs) e = let a = and_parts _ _ e in and_from _ _ (open_in K.codes g h r Program a.0) (all_open K r g hs a.1)

-- of any configuration that waits, with what holds of those of runs
pub slots_are_legal : (K : Kernel) (r : Residual) (w : World) → ValuesLie K (Waiting r w) → list_all (is_open_slot (open_slots K.codes r Program)) w.values ≡ true
slots_are_legal K r w h = all_open K r w.given w.values h

pub names_are_legal : (K : Kernel) (r : Residual) (w : World) → is_proper K ≡ true → ConfigFits K (Waiting r w) → ValuesLie K (Waiting r w) → NamesHold K (Waiting r w) → names_agree K w (seats r Program) r Program [] ≡ true
names_are_legal K r w p t h m = tree_names K p w (seats r Program) (each_kind K p r w t h) (tree_tested K r w m) t (program_known K p) Program [] refl

pub slots_legal : RunSlotsLegal
slots_legal K n xs r w p e = slots_are_legal K r w (subst (ValuesLie K) e (run_held K p n xs))

pub names_legal : RunNamesLegal
names_legal K n xs r w p e = names_are_legal K r w p (subst (ConfigFits K) e (run_fits K p n xs)) (subst (ValuesLie K) e (run_held K p n xs)) (subst (NamesHold K) e (run_hold K p n xs))
