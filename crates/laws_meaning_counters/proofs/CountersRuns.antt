-- The laws on the counters of open loops.
use Rattle.std.proofs.Common.{◌≡◌, refl, sym, subst, ℕ, ℤ, pos, ◌+ℤ◌, ◌-ℤ◌, int_le, nat_le, Bool, true, false, ◌&&◌, ◌||◌, ◌⊎◌, inl, inr, List, Option, Some, None, eq-eqb}
use Rattle.std.proofs.lemmas.Bool.{and_from, le-leb, false≢true}
use Rattle.ceu_base.specs.declared.kinds.Ty.TheVariants as ty
use Rattle.ceu_base.specs.Values.{is_value, least, same}
use Rattle.ceu_tree.specs.declared.command.Command.{Command}
use Rattle.ceu_tree.specs.declared.kernel.Kernel.{Kernel}
use Rattle.ceu_tree.specs.declared.kernel.KLoop.{KLoop}
use Rattle.ceu_tree.specs.declared.kernel.KLoop.TheVariants as turns
use Rattle.ceu_tree.specs.declared.kernel.ParKind.{ParKind}
use Rattle.ceu_tree.specs.declared.kernel.KNode.{KNode}
use Rattle.ceu_tree.specs.declared.kernel.KBlock.{KBlock}
use Rattle.ceu_tree.specs.declared.kernel.KStmt.{out-KStmt}
use Rattle.ceu_tree.specs.declared.kernel.KStmt.TheOpen.{KStmt-F}
use Rattle.ceu_tree.specs.Paths.{literal}
use Rattle.ceu_tree.specs.Residual.{Body, Program, Awaited, Spawned, same_body, Counter, Free, Turns, Upward, Residual, Branches, Instances}
use Rattle.ceu_tree.specs.World.{World, Cell, Holds, look}
use Rattle.ceu_tree.specs.Legal.{Seated, starts_at, ends_at, range_ok, first_ok, counter_ok}
use Rattle.ceu_tree.specs.Proper.{Scope, is_proper}
use Rattle.ceu_tree.specs.Run.{Config, Turning, Between, Waiting, Ended, Faulted, next, steps, done, run}
use Rattle.laws_meaning_basics.specs.Shape.{Part, counts, Fits, to_begin, to_turn, in_list, to_finish, at_input, at_time, at_event, at_forever, at_async, in_part, in_turn, in_call, in_par, EachFits, no_more, an_ended, a_branch, AllFit, none_lives, one_lives, ConfigFits}
use Rattle.laws_meaning_basics.proofs.RunFits.{next_fits, steps_fit, done_fits, run_fits}
use Rattle.laws_meaning_values.proofs.Stores.{same_self}
use Rattle.laws_meaning_instances.specs.Instances.{InstancesStand}
use Rattle.laws_meaning_instances.proofs.Reactions.{instances_counted}
use Rattle.laws_meaning_counters.specs.Counters.{counts_in, from_first, to_last, turn_stands, loop_stands, loops_stand, each_loops_stand, all_loops_stand, CountersStand}
use Rattle.laws_meaning_counters.specs.Laws.{BootCounters, at_layer, each_loop, branches_each_loop, all_each_loop, counter_typed, counter_legal, RunCountersLegal}
use Rattle.laws_meaning_counters.proofs.Marks.{kernel_marks, one_kind}
use Rattle.laws_meaning_counters.proofs.Leaf.{le_self}
use Rattle.laws_meaning_counters.proofs.Loopless.{ConfigStands, config_bare}
use Rattle.laws_meaning_counters.proofs.Reactions.{next_stands, steps_stand}
use Rattle.laws_meaning_counters.proofs.Commands.{done_stands, run_stands}

pub boot_stands : BootCounters
unfolding loops_stand
boot_stands K = λ body slot. tt

-- ---- each slot of each open body

every : (c : Config) → ((b : Body) (x : ℕ) → ConfigStands b x c) → CountersStand c
every (Turning n f w) h = λ b x. h b x
every (Between n r w) h = λ b x. h b x
every (Waiting r w) h = λ b x. h b x
every (Ended v w) h = tt
every (Faulted e w) h = tt

one : (c : Config) (b : Body) (x : ℕ) → CountersStand c → ConfigStands b x c
one (Turning n f w) b x h = h b x
one (Between n r w) b x h = h b x
one (Waiting r w) b x h = h b x
one (Ended v w) b x h = tt
one (Faulted e w) b x h = tt

module _ (K : Kernel) (proper : is_proper K ≡ true) where
  either : (c : Config) (b : Body) (x : ℕ) → ConfigFits K c → (kernel_marks true x K ≡ 0 → ConfigStands b x c) → ConfigStands b x c
  either c b x t h = go (one_kind x K proper)
    where
      go : (kernel_marks true x K ≡ 0) ⊎ (kernel_marks false x K ≡ 0) → ConfigStands b x c
      go (inl e) = h e
      go (inr e) = config_bare K b x e c t

  pub next_all : (c : Config) → ConfigFits K c → InstancesStand c → CountersStand c → CountersStand (next K c)
  next_all c t i h = every (next K c) (λ b x. either (next K c) b x (next_fits K proper c t) (λ e. next_stands K proper b x e c t (instances_counted K proper c t i) (one c b x h)))

  pub steps_all : (n : ℕ) (c : Config) → ConfigFits K c → InstancesStand c → CountersStand c → CountersStand (steps K n c)
  steps_all n c t i h = every (steps K n c) (λ b x. either (steps K n c) b x (steps_fit K proper n c t) (λ e. steps_stand K proper b x e n c t (instances_counted K proper c t i) (one c b x h)))

  pub done_all : (n : ℕ) (y : Command) (c : Config) → ConfigFits K c → InstancesStand c → CountersStand c → CountersStand (done K n y c)
  done_all n y c t i h = every (done K n y c) (λ b x. either (done K n y c) b x (done_fits K proper n y c t) (λ e. done_stands K proper b x e n y c t (instances_counted K proper c t i) (one c b x h)))

  pub run_all : (n : ℕ) (ys : List Command) → CountersStand (run K n ys)
  run_all n ys = every (run K n ys) (λ b x. either (run K n ys) b x (run_fits K proper n ys) (λ e. run_stands K proper b x e n ys))

-- ---- in the words of legality

same_int : (v : ℤ) → same v v ≡ true
same_int v = and_from (int_le v v) (int_le v v) (le_self v) (le_self v)

module _ (K : Kernel) (w : World) (found : List Seated) where
  starts_legal : (o : Option ℤ) (open_a : Bool) (v : ℤ) → from_first o open_a v → starts_at K w found o open_a v ≡ true
  starts_legal None open_a v h = refl
  starts_legal (Some a) open_a v h = h

  ends_legal : (o : Option ℤ) (open_b : Bool) (last : ℤ) → to_last o open_b last → (is_value ty.S32 last || same last (least ty.S32 -ℤ pos 1)) ≡ true → ends_at K w found o open_b last ≡ true
  ends_legal None open_b last h k = k
  ends_legal (Some c) open_b last h k = subst (λ y. same last y ≡ true) h (same_int last)

  legal_counter : (body : Body) (k : KLoop) (c : Counter) → counts k c ≡ true → ((slot : ℕ) → counts_in slot k ≡ true → turn_stands (look body slot w.values) k c) → counter_typed w body k c → counter_ok K w found body k c ≡ true
  legal_counter body turns.Free Free e h t = refl
  legal_counter body (turns.Times slot n) (Turns k) e h t = let a = h slot (eq-eqb slot slot refl) in and_from (nat_le 1 k) (nat_le k n) (le-leb 1 k a.0) (le-leb k n a.1)
  legal_counter body (turns.Range i next end open_a y z open_b) (Upward v last) e h t =
      let a = h i (eq-eqb i i refl) in
      let held = λ (P : Option Cell → Type 0) (p : P (Some (Holds a.value))). subst P (sym a.held) p in
      and_from (range_ok K w found (look body i w.values) v last && first_ok K w found (look body i w.values) (literal y.node) open_a) (ends_at K w found (literal z.node) open_b last)
      (and_from (range_ok K w found (look body i w.values) v last) (first_ok K w found (look body i w.values) (literal y.node) open_a)
      (held (λ o. range_ok K w found o v last ≡ true)
      (and_from (same v (a.value +ℤ pos 1) && int_le a.value last) (is_value ty.S32 a.value) (and_from (same v (a.value +ℤ pos 1)) (int_le a.value last) (subst (λ m. same v m ≡ true) a.next_is (same_int v)) a.not_beyond) (t.0 a.value a.held)))
      (held (λ o. first_ok K w found o (literal y.node) open_a ≡ true) (starts_legal (literal y.node) open_a a.value a.from)))
      (ends_legal (literal z.node) open_b last a.to t.1)
  legal_counter body turns.Free (Turns k) e h t = absurd (false≢true e)
  legal_counter body turns.Free (Upward v last) e h t = absurd (false≢true e)
  legal_counter body (turns.Times slot n) Free e h t = absurd (false≢true e)
  legal_counter body (turns.Times slot n) (Upward v last) e h t = absurd (false≢true e)
  legal_counter body (turns.Range i next end open_a y z open_b) Free e h t = absurd (false≢true e)
  legal_counter body (turns.Range i next end open_a y z open_b) (Turns k) e h t = absurd (false≢true e)

  abbrev Typed : Body → Residual → Type 0
  Typed = each_loop (counter_typed w)

  abbrev LegalLoops : Body → Residual → Type 0
  LegalLoops = each_loop (counter_legal K w found)

  loop_legal : (body : Body) (s : KNode) (k : KLoop) (c : KBlock) (j : Counter) → out-KStmt s.stmt ≡ KStmt-F.Loop k c → counts k j ≡ true → ((b : Body) (x : ℕ) → loop_stands b x (look b x w.values) false body (out-KStmt s.stmt) j)
      → at_layer (counter_typed w) body (out-KStmt s.stmt) j → at_layer (counter_legal K w found) body (out-KStmt s.stmt) j
  loop_legal body s k c j e q h t =
      subst (λ l. at_layer (counter_legal K w found) body l j) (sym e)
      (legal_counter body k j q (λ slot z. subst (λ l. loop_stands body slot (look body slot w.values) false body l j) e (h body slot) (and_from (same_body body body) (counts_in slot k) (same_self body) z)) (subst (λ l. at_layer (counter_typed w) body l j) e t))

  mutual
    unfolding loops_stand each_loop

    tree_legal : {t : ℕ} {d : Part} {r : Residual} → Fits K t d r → (body : Body) → ((b : Body) (x : ℕ) → loops_stand b x (look b x w.values) body r) → each_loop (counter_typed w) body r → each_loop (counter_legal K w found) body r
    tree_legal (to_begin l) body h t = tt
    tree_legal (to_turn l p) body h t = tt
    tree_legal (in_list done e f fit more) body h t = (all_legal fit (λ b x. (h b x).0) t.0, tree_legal more body (λ b x. (h b x).1) t.1)
    tree_legal (to_finish l p) body h t = tt
    tree_legal (at_input q e) body h t = tt
    tree_legal (at_time q u y e) body h t = tt
    tree_legal (at_event q e) body h t = tt
    tree_legal (at_forever e) body h t = tt
    tree_legal (at_async c e more) body h t = tree_legal more body h t
    tree_legal (in_part c o more) body h t = tree_legal more body h t
    tree_legal (in_turn {s = s} {c = j} k c e q more) body h t = (loop_legal body s k c j e q (λ b x. (h b x).0) t.0, tree_legal more body (λ b x. (h b x).1) t.1)
    tree_legal (in_call {s = s} c es f y k e q more) body h t = tree_legal more (Awaited body s.node) h t
    tree_legal (in_par k slot bs e q more) body h t = each_legal more body h t

    each_legal : {t : ℕ} {sc : Scope} {k : ParKind} {bs : List KBlock} {rs : Branches} → EachFits K t sc k bs rs → (body : Body) → ((b : Body) (x : ℕ) → each_loops_stand b x (look b x w.values) body rs)
        → branches_each_loop (counter_typed w) body rs → branches_each_loop (counter_legal K w found) body rs
    each_legal no_more body h t = tt
    each_legal (an_ended m rest) body h t = (tt, each_legal rest body (λ b x. (h b x).1) t.1)
    each_legal (a_branch fit rest) body h t = (tree_legal fit body (λ b x. (h b x).0) t.0, each_legal rest body (λ b x. (h b x).1) t.1)

    all_legal : {t : ℕ} {sc : Scope} {all : Instances} → AllFit K t sc all → ((b : Body) (x : ℕ) → all_loops_stand b x (look b x w.values) all) → all_each_loop (counter_typed w) all → all_each_loop (counter_legal K w found) all
    all_legal none_lives h t = tt
    all_legal (one_lives {seat = seat} k p e fit rest) h t = (tree_legal fit (Spawned seat.number) (λ b x. (h b x).0) t.0, all_legal rest (λ b x. (h b x).1) t.1)

-- of any configuration that waits, with what holds of those of runs
pub counters_are_legal : (K : Kernel) (r : Residual) (w : World) (found : List Seated) → ConfigFits K (Waiting r w) → CountersStand (Waiting r w) → each_loop (counter_typed w) Program r → each_loop (counter_legal K w found) Program r
counters_are_legal K r w found t h y = tree_legal K w found t Program h y

pub run_legal : RunCountersLegal
run_legal K n xs r w found p e y = counters_are_legal K r w found (subst (ConfigFits K) e (run_fits K p n xs)) (subst CountersStand e (run_all K p n xs)) y
