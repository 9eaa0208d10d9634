-- The tables of a program that breaks no rule on loops pay for each step of it.
use Rattle.std.proofs.Common.{◌≡◌, refl, sym, ap, subst, ◌<◌, ℕ, zero, suc, ◌+◌, pos, Bool, true, List, [], ◌∷◌, length, Option, Some, None, arith}
use Rattle.std.proofs.lemmas.Bool.{and_parts, false≢true}
use Rattle.ceu_base.specs.declared.kinds.Ty.{Ty}
use Rattle.ceu_tree.specs.declared.kernel.Kernel.{Kernel}
use Rattle.ceu_tree.specs.declared.kernel.KCode.{KCode}
use Rattle.ceu_tree.specs.declared.kernel.KEvent.{KEvent}
use Rattle.ceu_tree.specs.declared.kernel.KNode.{KNode}
use Rattle.ceu_tree.specs.declared.kernel.KBlock.{out-KBlock}
use Rattle.ceu_tree.specs.declared.kernel.KStmt.{KStmt, out-KStmt, Emit}
use Rattle.ceu_tree.specs.declared.kernel.KStmt.TheOpen.{KStmt-F}
use Rattle.ceu_tree.specs.Residual.{Program, Act, Start, Finish, Over, Run}
use Rattle.ceu_tree.specs.Focus.{Focus, plug, leaf}
use Rattle.ceu_tree.specs.World.{World}
use Rattle.ceu_tree.specs.Leaf.{Layer, code_at}
use Rattle.ceu_tree.specs.Paths.{end_if, flag, quick_block, passes_from}
use Rattle.ceu_tree.specs.Costs.{cost, plus, cost_at}
use Rattle.ceu_tree.specs.Step.{event_code, stepped}
use Rattle.ceu_tree.specs.Proper.{Scope, is_trail, event_at, event_seen, on_ty, gives_if, stmt_ok, is_proper}
use Rattle.ceu_tree.specs.Run.{Turning}
use Rattle.laws_meaning_basics.specs.Shape.{Part, AStatement, program_part, pauses, Around, ActFits, starts, TurnFits}
use Rattle.laws_meaning_basics.proofs.Static.{names_of}
use Rattle.laws_meaning_basics.proofs.StepFits.{around_sound}
use Rattle.laws_meaning_basics.proofs.RunFits.{root_sound}
use Rattle.ceu_bound.specs.Filled.{emitting, entering, staying}
use Rattle.ceu_bound.specs.PhaseB.{KeepsLoopRules}
use Rattle.laws_meaning_instances.specs.Instances.{pools_stand}
use Rattle.laws_bounds_steps.specs.Ways.{out_of}
use Rattle.laws_bounds_steps.specs.Pays.{Within, Fewer}
use Rattle.laws_bounds_steps.specs.Kept.{RulesKept, CodesPay, CodesStay}
use Rattle.laws_bounds_steps.specs.Heads.{heads_reached, EmissionsPay}
use Rattle.laws_bounds_steps.specs.Whole.{WakingCosts}
use Rattle.laws_bounds_steps.proofs.Cost.{is, both, chain, same}
use Rattle.laws_bounds_steps.proofs.Places.{turn_keeps}
use Rattle.laws_bounds_steps.proofs.Runs.{Paid}
use Rattle.laws_bounds_steps.proofs.Whole.{any_step_pays}
use Rattle.laws_bounds_tables.proofs.Ways.{passes_agree}
use Rattle.laws_bounds_tables.proofs.Entered.{enters_agree}
use Rattle.laws_bounds_tables.proofs.Stood.{stays_agree}
use Rattle.laws_bounds_tables.proofs.Settled.{emissions_settle}
use Rattle.laws_bounds_reach.proofs.Reach.{reaches}
use Rattle.laws_bounds_tables.proofs.Bodies.{rules_kept, code_leaves}
use Rattle.laws_bounds_reach.proofs.Bodies.{woken_costs, emitted_fits}
use Rattle.laws_bounds_reactions.specs.Steady.{IsSteady}
use denote.Hole.Carrier

-- ---- an event that is emitted is one of the program's

event_there : (es : List KEvent) (K : Kernel) (e : ℕ) (x : KEvent) → event_at K e es ≡ Some x → e < length es
event_there [] K e x h = absurd (cc)
event_there (y ∷ es) K zero x h = omega arith
event_there (y ∷ es) K (suc e) x h = let i = event_there es K e x h in omega (arith, i)

module _ (K : Kernel) where
  seen_there : (sc : Scope) (e : ℕ) (o : Option KEvent) (f : Ty → Bool) → event_at K e K.events ≡ o → on_ty K (event_seen K sc o) f ≡ true → e < length K.events
  seen_there sc e None f z h = absurd (false≢true h)
  seen_there sc e (Some x) f z h = event_there K.events K e x z

  stmt_there : (sc : Scope) (n e : ℕ) (st : KStmt) (x : _) → out-KStmt st ≡ KStmt-F.Emit e x → stmt_ok K (names_of K) sc n st ≡ true → e < length K.events
  unfolding stmt_ok out-KStmt Carrier.out
  stmt_there sc n e (Emit k y) x q h =
      let z : k ≡ e = ap (λ (l : Layer). elim l as (λ _. ℕ) [ KStmt-F.Emit j u ↦ j | _ ↦ k ]) q in
      subst (λ j. j < length K.events) z (seen_there sc k (event_at K k K.events) (λ u. gives_if K sc u y) refl (and_parts (is_trail sc.place) _ h).1)
  stmt_there sc n e st x q h = absurd (cc)

-- ---- a program that breaks no rule on loops

module _ (K : Kernel) (proper : is_proper K ≡ true) (keeps : KeepsLoopRules K) where
  abbrev pub P : List Bool
  P = passes_from [] K.codes

  pub rules : RulesKept K
  rules = rules_kept K proper keeps

  pub codes_leave : (c : ℕ) (k : KCode) → code_at c K.codes ≡ Some k → Fewer (out_of (out-KBlock k.body).node (quick_block P k.body)) (end_if (flag c P))
  codes_leave c k e = subst (λ b. Fewer (out_of (out-KBlock k.body).node (quick_block P k.body)) (end_if b)) (sym (passes_agree K c k proper e)) (code_leaves P K c k proper e)

  pub codes_pay : CodesPay P (emitting K) (entering K) K
  codes_pay = record { enters = λ c k e. enters_agree K P (emitting K) c k proper e; leaves = codes_leave }

  pub codes_stay : CodesStay P (emitting K) (entering K) (staying K) K
  codes_stay = record { stays = λ c k e. stays_agree K P (emitting K) (entering K) c k proper e }

  started_at : {d : Part} {s : KNode} → ActFits d (Start s) → (sc : Scope) × (d ≡ AStatement sc s)
  started_at (starts {sc = sc}) = (sc, refl)

  pub emissions_pay : EmissionsPay P (emitting K) (entering K) K
  emissions_pay = record { reach = pay }
    where
      pay : (n : ℕ) (f : Focus Act) (s : KNode) (e : ℕ) (x : _) → TurnFits K (suc n) (program_part K) f → pools_stand (plug f Over) → leaf f ≡ Start s → out-KStmt s.stmt ≡ KStmt-F.Emit e x
          → Within (plus (cost 1 1) (heads_reached P (emitting K) (entering K) e (event_code e K.events) f (Run n (Finish s (pos 0))))) (cost_at e (emitting K))
      pay n f s e x t h l q =
          let place = started_at (subst (ActFits t.part) l t.acts) in
          let around : Around K (suc n) Act f (program_part K) (AStatement place.0 s) = subst (Around K (suc n) Act f (program_part K)) place.1 t.around in
          let there = stmt_there K place.0 s.node e s.stmt x q (around_sound K proper around (root_sound K proper)) in
          chain _ _ _ (both (cost 1 1) _ (cost 1 1) _ (same (cost 1 1)) (reaches P (emitting K) (entering K) K n f s e x proper t h l q)) (is _ _ (sym (emissions_settle K e keeps there)))

  pub waking_costs : WakingCosts P (emitting K) (entering K) K
  waking_costs n f s e x v y t l q =
      woken_costs P (emitting K) (entering K) (n + 1) e v {A = Act} K (suc n) f (Run n (Finish s (pos 0))) (program_part K) t.part (event_code e K.events) t.around
      (emitted_fits K n t.part (leaf f) s (pos 0) t.acts l (ap pauses q))

  -- ---- so each step of a steady configuration pays

  pub step_pays : (n : ℕ) (f : Focus Act) (w : World) → IsSteady K (Turning n f w) → Paid K n (plug f (Run n (leaf f))) (stepped K n Program f w).outcome
  step_pays n f w h =
      let k = turn_keeps K rules f h.fits in any_step_pays P (emitting K) (entering K) n K proper f h.fits w h.counted h.instances.pools k.0 k.1 codes_pay emissions_pay waking_costs
