-- A step of a turn in the whole program, the start of a program, and the turn that begins.
use Rattle.std.proofs.Common.{◌≡◌, refl, sym, ap, ◌∙◌, subst, ℕ, suc, Bool, true, false, List, Some, None, ◌==◌, if◌then◌else◌, eqb-true, arith}
use Rattle.ceu_tree.specs.declared.kernel.Kernel.{Kernel}
use Rattle.ceu_tree.specs.declared.kernel.KNode.{KNode}
use Rattle.ceu_tree.specs.declared.kernel.KStmt.{out-KStmt}
use Rattle.ceu_tree.specs.declared.kernel.KStmt.TheOpen.{KStmt-F}
use Rattle.ceu_tree.specs.Residual.{Body, Program, Act, Start, Residual, Run}
use Rattle.ceu_tree.specs.Focus.{Focus, plug, leaf, body_of, choose}
use Rattle.ceu_tree.specs.World.{World}
use Rattle.ceu_tree.specs.Wake.{runs_at}
use Rattle.ceu_tree.specs.Costs.{Cost, cost, most, bounds}
use Rattle.ceu_tree.specs.Proper.{Scope, is_proper}
use Rattle.ceu_tree.specs.Leaf as does
use Rattle.ceu_tree.specs.Leaf.{Layer, Does, acted}
use Rattle.ceu_tree.specs.Around.{Outcome, Goes, Rests, Raises, Fails, Past, Registers, AtBlockEnd, AtLoopHead, Ends, Leaves, up, taken, answered}
use Rattle.ceu_tree.specs.Step.{does_in, stepped}
use Rattle.ceu_tree.specs.Run.{booted}
use Rattle.laws_meaning_basics.specs.Shape.{Part, AStatement, program_part, Around, ActFits, begins, heads, goes_again, starts, finishes, ends, TurnFits}
use Rattle.laws_meaning_basics.specs.Shape as shape
use Rattle.laws_meaning_basics.proofs.FocusBalance.{Found, FoundIn, choose_found}
use Rattle.laws_meaning_basics.proofs.LeafFits.{DoesFit, acted_fits}
use Rattle.laws_meaning_basics.proofs.UpFits.{Sound, layer_of, up_fits}
use Rattle.laws_meaning_basics.proofs.StepFits.{around_sound}
use Rattle.laws_meaning_basics.proofs.RunFits.{root_sound, root_closed}
use Rattle.ceu_endings.specs.Counted.{focus_counted}
use Rattle.laws_bounds_steps.specs.Due.{to_pay, due}
use Rattle.laws_bounds_steps.specs.Pays.{Within, Comes, focus_keeps}
use Rattle.laws_bounds_steps.specs.Kept.{stays_inside, act_kept, acts_inside, CodesPay}
use Rattle.laws_bounds_steps.proofs.Through.{up_pays, plug_pays, graft_pays}
use Rattle.laws_bounds_steps.proofs.Started.{StartsAt, DoesPay, CallPays, ActCalls, acted_pays}

pub leaf_starts : (n : ℕ) (a : Act) (s : KNode) (layer : Layer) → StartsAt n (Run n a) s layer → a ≡ Start s
leaf_starts n a s layer h = let e = h.was in (cc)

reaches_out : (n : ℕ) (a : Act) (s : KNode) (layer : Layer) → acts_inside a → StartsAt n (Run n a) s layer → stays_inside layer
reaches_out n a s layer h i = subst stays_inside i.is (subst acts_inside (leaf_starts n a s layer i) h)

module _ (P : List Bool) (E N : List Cost) (K : Kernel) (proper : is_proper K ≡ true) (n : ℕ) where
  -- code that a statement awaits is one of the program's
  call_known : CodesPay P E N K → (sc : Scope) (s : KNode) (layer : Layer) → out-KStmt s.stmt ≡ layer → Sound K proper (AStatement sc s) → CallPays P E N n K layer
  call_known codes sc s (KStmt-F.AwaitCode c es f t) e h = let x = layer_of K proper sc s (KStmt-F.AwaitCode c es f t) e h in (x.1, x.2, codes)
  call_known codes sc s layer e h = tt

  pub calls_known : CodesPay P E N K → {d : Part} {a : Act} → ActFits d a → Sound K proper d → ActCalls P E N n K a
  calls_known codes (starts {sc = sc} {s = s}) h = call_known codes sc s (out-KStmt s.stmt) refl h
  calls_known codes begins h = tt
  calls_known codes heads h = tt
  calls_known codes goes_again h = tt
  calls_known codes (finishes p) h = tt
  calls_known codes ends h = tt

  -- no exit is left over
  taken_pays : (f : Focus Act) (r : Residual) (x : Outcome) → shape.Comes K n (program_part K) x → Comes P E N n (program_part K) r x → Comes P E N n (program_part K) r (taken f x)
  taken_pays f r (Goes g) c h = h
  taken_pays f r (Rests q) c h = h
  taken_pays f r (Raises q) c h = h
  taken_pays f r (Fails e q) c h = h
  taken_pays f r (Ends v) c h = h
  taken_pays f r (Leaves node x) c h = absurd (root_closed K proper node c.0 c.1)
  taken_pays f r x c h = elim c [ ]

  module _ (f : Focus Act) (part : Part) (a : Around K (suc n) Act f (program_part K) part) (counted : focus_counted f) (keeps : focus_keeps P f) where
    pub parts_pay : (x : Outcome) (w : World) → shape.Comes K n part x → Comes P E N n part (Run n (leaf f)) x → Comes P E N n (program_part K) (plug f (Run n (leaf f))) (up Program f x w).outcome
    parts_pay x w c h = up_pays P E N n K proper Program f x w (program_part K) part (root_sound K proper) a counted keeps c h

    pub answered_pays : (x : Outcome) (w : World) → shape.Comes K n part x → Comes P E N n part (Run n (leaf f)) x → Comes P E N n (program_part K) (plug f (Run n (leaf f))) (answered Program f x w).outcome
    answered_pays x w c h = taken_pays f (plug f (Run n (leaf f))) (up Program f x w).outcome (up_fits K proper n Program f x w (program_part K) part (root_sound K proper) a c) (parts_pay x w c h)

    does_pays : acts_inside (leaf f) → (body : Body) (x : Does) (w : World) → DoesFit K proper n part x → DoesPay P E N n part (Run n (leaf f)) x → Comes P E N n (program_part K) (plug f (Run n (leaf f))) (does_in K n Program body f x w).outcome
    does_pays inside body (does.Opens x) w c h = graft_pays P E N n f x (Run n (leaf f)) (program_part K) part a h
    does_pays inside body (does.Waits q) w c h = plug_pays P E N n f (cost 1 0) q (Run n (leaf f)) (program_part K) part a h
    does_pays inside body does.Passes w c h = answered_pays Past w c h
    does_pays inside body (does.Leaves node x) w c h = answered_pays (Leaves node x) w c h
    does_pays inside body (does.Registers s) w c h = answered_pays (Registers s) w c h
    does_pays inside body does.Ends w c h = answered_pays AtBlockEnd w c h
    does_pays inside body does.Heads w c h = answered_pays AtLoopHead w c h
    does_pays inside body (does.Emits s e v) w c h = absurd (reaches_out n (leaf f) s _ inside h.1)
    does_pays inside body (does.Spawns s k code pool alias vs) w c h = absurd (reaches_out n (leaf f) s _ inside h.1)
    does_pays inside body (does.Kills k) w c h = absurd (reaches_out n (leaf f) h.0 _ inside h.2)
    does_pays inside body (does.Fails z) w c h = tt

  pub step_pays : (f : Focus Act) (w : World) → TurnFits K (suc n) (program_part K) f → focus_counted f → focus_keeps P f → act_kept P (leaf f) → acts_inside (leaf f) → CodesPay P E N K
      → Comes P E N n (program_part K) (plug f (Run n (leaf f))) (stepped K n Program f w).outcome
  unfolding stepped
  step_pays f w t counted keeps h inside codes =
      let m = acted K n (body_of f Program) (leaf f) w in
      let sound = around_sound K proper t.around (root_sound K proper) in
      does_pays f t.part t.around counted keeps inside (body_of f Program) m.does m.world
      (acted_fits K proper n (body_of f Program) t.part (leaf f) w sound t.acts)
      (acted_pays P E N n K t.part (leaf f) (body_of f Program) w t.acts h (calls_known codes t.acts sound))

-- ---- the start

pub boot_within : (K : Kernel) → Within (to_pay K (booted K)) (bounds K)
unfolding due bounds
boot_within K = most_left _ _
  where
    most_left : (a b : Cost) → Within a (most a b)
    most_left a b = record { turns = omega arith; opens = omega arith }

-- ---- the turn that begins

runs_is : (n : ℕ) (r : Residual) (a : Act) → runs_at n r ≡ Some a → r ≡ Run n a
runs_is n (Run m b) a h = go (m == n) refl h
  where
    go : (c : Bool) → (m == n) ≡ c → (if c then Some b else None) ≡ Some a → Run m b ≡ Run n a
    go true e q = ap (λ k. Run k b) (eqb-true m n e) ∙ ap (λ o. Run n (elim o [ None ↦ b | Some x ↦ x ])) q
    go false e q = absurd (cc)
runs_is n r a h = absurd (cc)

pub resumption_counted : (n : ℕ) (r : Residual) (f : Focus Act) → choose Act (runs_at n) r ≡ Some f → plug f (Run n (leaf f)) ≡ r
resumption_counted n r f h = let x : Found Act (runs_at n) r f = subst (FoundIn Act (runs_at n) r) h (choose_found Act (runs_at n) r) in ap (plug f) (sym (runs_is n x.was (leaf f) x.picked)) ∙ x.plugs
