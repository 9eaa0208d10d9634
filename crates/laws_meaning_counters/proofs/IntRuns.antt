-- Steps and reactions keep ranges within an int, and where a run waits the values of their variables are ints.
use Rattle.std.proofs.Common.{◌≡◌, refl, sym, subst, ℕ, zero, suc, ℤ, pos, ◌+ℤ◌, ◌-ℤ◌, int_lt, int_le, Bool, true, false, ◌⊎◌, inl, inr, Option, Some, None, eq-eqb, arith}
use Rattle.std.proofs.lemmas.Bool.{and_parts, and_from, or_cases}
use Rattle.std.proofs.lemmas.Int.{ints}
use Rattle.ceu_base.specs.declared.kinds.Pos.{Pos}
use Rattle.ceu_base.specs.declared.kinds.Fault.{Fault}
use Rattle.ceu_base.specs.declared.kinds.Ty.TheVariants as ty
use Rattle.ceu_base.specs.Values.{is_value, least, above, same}
use Rattle.ceu_tree.specs.declared.kernel.Kernel.{Kernel}
use Rattle.ceu_tree.specs.declared.kernel.KLoop.{KLoop}
use Rattle.ceu_tree.specs.declared.kernel.KLoop.TheVariants as turns
use Rattle.ceu_tree.specs.declared.kernel.KStmt.{out-KStmt}
use Rattle.ceu_tree.specs.declared.kernel.KStmt.TheOpen.{KStmt-F}
use Rattle.ceu_tree.specs.Residual.{Body, Program, Awaited, Spawned, same_body, Act, Counter, Upward, Residual, Over, Run, WaitInput, WaitTime, WaitEvent, WaitForever, InAsync, Block, Open, Loop, Call, Par, Branches, no_branch, branch, Instances, no_instance, instance}
use Rattle.ceu_tree.specs.Focus.{Focus, choose}
use Rattle.ceu_tree.specs.World.{World, Cell, Holds, look}
use Rattle.ceu_tree.specs.Wake.{runs_at}
use Rattle.ceu_tree.specs.Leaf.{Layer}
use Rattle.ceu_tree.specs.Around.{Outcome, Goes, Rests, Raises, Fails, Ends}
use Rattle.ceu_tree.specs.Step.{stepped}
use Rattle.ceu_tree.specs.Proper.{is_proper}
use Rattle.ceu_tree.specs.Run.{Config, Turning, Between, Waiting, Ended, Faulted, config_of, unless_failed, level_closed, chosen_at, next, steps}
use Rattle.laws_meaning_basics.proofs.FocusBalance.{FoundIn, choose_found}
use Rattle.laws_meaning_basics.specs.Shape.{program_part, ConfigFits}
use Rattle.laws_meaning_basics.proofs.RunFits.{root_sound, root_closed, next_fits}
use Rattle.laws_meaning_values.proofs.Stores.{same_self}
use Rattle.laws_meaning_counters.specs.Counters.{counts_in, turn_stands, loop_stands, loops_stand, each_loops_stand, all_loops_stand}
use Rattle.laws_meaning_counters.specs.Ints.{RangeInt, turns_int, layer_int, tree_int, each_int, all_int, outcome_int, IntsStand, EndsInt}
use Rattle.laws_meaning_counters.specs.Laws.{at_layer, each_loop, branches_each_loop, all_each_loop, counter_typed, BootInts, WaitingTyped}
use Rattle.laws_meaning_counters.proofs.IntTrees.{le_is, unplugged}
use Rattle.laws_meaning_counters.proofs.IntSteps.{next_int, stepped_int}

pub boot_ints : BootInts
unfolding tree_int
boot_ints K = tt

config_int : (n : ℕ) (y : Outcome) (w : World) → outcome_int y → IntsStand (config_of n y w)
unfolding tree_int
config_int n (Goes g) w h = h
config_int n (Rests r) w h = h
config_int n (Raises r) w h = h
config_int n (Fails e r) w h = tt
config_int n (Ends v) w h = tt
config_int n y w h = tt

unless_int : (w : World) (c : Config) → IntsStand c → IntsStand (unless_failed w c)
unless_int w c h = go w.fault
  where
    go : (o : Option (Fault × Pos)) → IntsStand (elim o [ Some e ↦ Faulted e w | None ↦ c ])
    go None = h
    go (Some e) = tt

closed_int : (n : ℕ) (r : Residual) (w : World) → tree_int r → IntsStand (level_closed n r w)
closed_int zero r w h = h
closed_int (suc n) r w h = h

chosen_int : (n : ℕ) (r : Residual) (w : World) (o : Option (Focus Act)) → FoundIn Act (runs_at n) r o → tree_int r → IntsStand (chosen_at n o r w)
chosen_int n r w None y h = closed_int n r w h
chosen_int n r w (Some f) y h = (unplugged f y.was (subst tree_int (sym y.plugs) h)).0

module _ (K : Kernel) (proper : is_proper K ≡ true) where
  pub next_ints : (c : Config) → ConfigFits K c → EndsInt c → IntsStand c → IntsStand (next K c)
  unfolding next
  next_ints (Turning n f w) t e h =
      unless_int (stepped K n Program f w).world (config_of n (stepped K n Program f w).outcome (stepped K n Program f w).world)
      (config_int n (stepped K n Program f w).outcome (stepped K n Program f w).world (stepped_int K proper n Program f w (program_part K) (root_closed K proper) (root_sound K proper) t e h))
  next_ints (Between n r w) t e h = chosen_int n r w (choose Act (runs_at n) r) (choose_found Act (runs_at n) r) h
  next_ints (Waiting r w) t e h = h
  next_ints (Ended v w) t e h = h
  next_ints (Faulted z w) t e h = h

  pub steps_ints : (m : ℕ) (c : Config) → ConfigFits K c → ((j : ℕ) → EndsInt (steps K j c)) → IntsStand c → IntsStand (steps K m c)
  unfolding steps
  steps_ints zero c t e h = h
  steps_ints (suc m) (Turning n f w) t e h = steps_ints m (next K (Turning n f w)) (next_fits K proper (Turning n f w) t) (λ j. e (suc j)) (next_ints (Turning n f w) t (e zero) h)
  steps_ints (suc m) (Between n r w) t e h = steps_ints m (next K (Between n r w)) (next_fits K proper (Between n r w) t) (λ j. e (suc j)) (next_ints (Between n r w) t (e zero) h)
  steps_ints (suc m) (Waiting r w) t e h = h
  steps_ints (suc m) (Ended v w) t e h = h
  steps_ints (suc m) (Faulted z w) t e h = h

-- ---- the value of a range's variable

value_int : (u next last : ℤ) → next ≡ u +ℤ pos 1 → int_le u last ≡ true → RangeInt false next last → is_value ty.S32 u ≡ true
value_int u next last e l h = and_from (int_le (least ty.S32) u) (int_lt u (above ty.S32)) from (to (or_cases (is_value ty.S32 last) (same last (least ty.S32 -ℤ pos 1)) h.to))
  where
    from : int_le (least ty.S32) u ≡ true
    from = let a = h.from in le_is (least ty.S32) u (λ f. omega (arith, ints, a, e, f))

    below : int_lt last (above ty.S32) ≡ true → int_lt u (above ty.S32) ≡ true
    below q = go (int_lt u (above ty.S32)) refl
      where
        go : (t : Bool) → int_lt u (above ty.S32) ≡ t → int_lt u (above ty.S32) ≡ true
        go true f = f
        go false f = absurd (omega (arith, ints, q, l, f))

    to : (is_value ty.S32 last ≡ true) ⊎ (same last (least ty.S32 -ℤ pos 1) ≡ true) → int_lt u (above ty.S32) ≡ true
    to (inl q) = below (and_parts (int_le (least ty.S32) last) (int_lt last (above ty.S32)) q).1
    to (inr q) = let a = (and_parts (int_le last (least ty.S32 -ℤ pos 1)) (int_le (least ty.S32 -ℤ pos 1) last) q).0 in let b = from in absurd (omega (arith, ints, a, b, l))

-- the value of a turn that begins
pub begun_int : (first : Bool) (v last : ℤ) → RangeInt first v last → int_lt last v ≡ false → is_value ty.S32 v ≡ true
begun_int first v last h q = value_int v (v +ℤ pos 1) last refl (le_is v last (λ e. omega (arith, ints, e, q))) (next_int first v last h)

same_held : (u v : ℤ) (o : Option Cell) → o ≡ Some (Holds v) → o ≡ Some (Holds u) → v ≡ u
same_held u v o p q = cc

module _ (w : World) where
  loop_typed : (body : Body) (k : KLoop) (c : Counter) → ((slot : ℕ) → counts_in slot k ≡ true → turn_stands (look body slot w.values) k c) → turns_int false k c → counter_typed w body k c
  loop_typed body (turns.Range i next end open_a y z open_b) (Upward v last) h t =
      let a = h i (eq-eqb i i refl) in
      (λ u q. subst (λ m. is_value ty.S32 m ≡ true) (same_held u a.value (look body i w.values) a.held q) (value_int a.value v last a.next_is a.not_beyond t), t.to)
  loop_typed body k c h t = tt

  layer_typed : (body : Body) (layer : Layer) (c : Counter) → ((b : Body) (x : ℕ) → loop_stands b x (look b x w.values) false body layer c) → layer_int false layer c → at_layer (counter_typed w) body layer c
  layer_typed body (KStmt-F.Loop k d) c h t = loop_typed body k c (λ slot z. h body slot (and_from (same_body body body) (counts_in slot k) (same_self body) z)) t
  layer_typed body layer c h t = tt

  mutual
    unfolding loops_stand tree_int each_loop

    tree_typed : (body : Body) (r : Residual) → ((b : Body) (x : ℕ) → loops_stand b x (look b x w.values) body r) → tree_int r → each_loop (counter_typed w) body r
    tree_typed body (Block c fin all r rest) h t = (all_typed all (λ b x. (h b x).0) t.0, tree_typed body r (λ b x. (h b x).1) t.1)
    tree_typed body (Open s r) h t = tree_typed body r h t
    tree_typed body (Loop s c r) h t = (layer_typed body (out-KStmt s.stmt) c (λ b x. (h b x).0) t.0, tree_typed body r (λ b x. (h b x).1) t.1)
    tree_typed body (Call s r) h t = tree_typed (Awaited body s.node) r h t
    tree_typed body (Par s bs) h t = each_typed body bs h t
    tree_typed body (InAsync s served r) h t = tree_typed body r h t
    tree_typed body Over h t = tt
    tree_typed body (Run n a) h t = tt
    tree_typed body (WaitInput k s) h t = tt
    tree_typed body (WaitTime d s) h t = tt
    tree_typed body (WaitEvent e s) h t = tt
    tree_typed body (WaitForever s) h t = tt

    each_typed : (body : Body) (bs : Branches) → ((b : Body) (x : ℕ) → each_loops_stand b x (look b x w.values) body bs) → each_int bs → branches_each_loop (counter_typed w) body bs
    each_typed body no_branch h t = tt
    each_typed body (branch r more) h t = (tree_typed body r (λ b x. (h b x).0) t.0, each_typed body more (λ b x. (h b x).1) t.1)

    all_typed : (all : Instances) → ((b : Body) (x : ℕ) → all_loops_stand b x (look b x w.values) all) → all_int all → all_each_loop (counter_typed w) all
    all_typed no_instance h t = tt
    all_typed (instance seat r more) h t = (tree_typed (Spawned seat.number) r (λ b x. (h b x).0) t.0, all_typed more (λ b x. (h b x).1) t.1)

pub waiting_typed : WaitingTyped
waiting_typed r w h t = tree_typed w Program r h t
