-- What a leaf does makes the parts around it close and abort: of a focus f of the open body `at`, where that reads no variable without a value, so does what
-- the leaf does. After a fault what is left is as it was.
use Rattle.std.proofs.Common.{◌≡◌, refl, sym, ap, subst, ℕ, ◌+◌, ℤ, pos, Bool, true, false, if◌then◌else◌, ◌==◌, List, ◌∷◌, Option, Some, None}
use Rattle.ceu_base.specs.declared.kinds.Pos.{Pos}
use Rattle.ceu_base.specs.declared.kinds.Fault.{Fault}
use Rattle.ceu_base.specs.declared.kinds.Fault.TheVariants.{SpawnCount}
use Rattle.ceu_base.specs.declared.kinds.Mark.TheVariants as mark
use Rattle.ceu_tree.specs.declared.kernel.Kernel.{Kernel}
use Rattle.ceu_tree.specs.declared.kernel.KCode.{KCode}
use Rattle.ceu_tree.specs.declared.kernel.KNode.{KNode}
use Rattle.ceu_tree.specs.Residual.{Body, Spawned as InstanceBody, Act, Begin, Finish, Residual, Over, Run}
use Rattle.ceu_tree.specs.Focus.{Focus, Here, plug, body_of}
use Rattle.ceu_tree.specs.World.{World, NotSet, Names, marked, set_alias, set_parameters}
use Rattle.ceu_tree.specs.Leaf as does
use Rattle.ceu_tree.specs.Leaf.{Does}
use Rattle.ceu_tree.specs.Around.{Outcome, Raises, Fails, Past, Registers, AtBlockEnd, AtLoopHead, Leaves, Moved, moved, answered}
use Rattle.ceu_tree.specs.Step.{free_place, seated, spawned_at, unseat, killed, does_in}
use Rattle.laws_meaning_finalizers.specs.Closing.{up_reads, killed_reads, spawned_reads, does_reads}
use Rattle.laws_meaning_finalizers.proofs.Fates.{Fate, answered_fate}

module _ (K : Kernel) (n : ℕ) (at : Body) (f : Focus Act) (Good : World → Type 0) (alias_good : (alias : Option ℕ) (w : World) → Good w → Good (marked mark.Full (set_alias (body_of f at) alias NotSet w)))
    (Left : Residual → World → Type 0) (up_of : (w : World) → Good w → (y : Outcome) → ((a : Act) → Fate (Here a) w y w) → up_reads at f y w) (abort_of : (w : World) → Good w → Left (plug f Over) w) (kill_of : (k : ℕ) (w : World) → Good w → killed_reads k f w)
    (up_killed : (k : ℕ) (w : World) → Good w → up_reads at (unseat k f) Past (killed k f w)) (abort_killed : (k : ℕ) (w : World) → Good w → Left (plug (unseat k f) Over) (killed k f w)) where
  abbrev body : Body
  body = body_of f at

  spawned_fine : (o : Option ℕ) (alias : Option ℕ) (w : World) → Good w → spawned_reads o at body f alias w
  spawned_fine None alias w own = up_of (marked mark.Full (set_alias body alias NotSet w)) (alias_good alias w own) Past (λ a. tt)
  spawned_fine (Some place) alias w own = tt

  pub does_fine : (y : Does) (w : World) → Good w → does_reads at body f y w
  does_fine does.Passes w own = up_of w own Past (λ a. tt)
  does_fine (does.Leaves node z) w own = up_of w own (Leaves node z) (λ a. refl)
  does_fine (does.Registers s) w own = up_of w own (Registers s) (λ a. tt)
  does_fine does.Ends w own = up_of w own AtBlockEnd (λ a. tt)
  does_fine does.Heads w own = up_of w own AtLoopHead (λ a. (refl, refl))
  does_fine (does.Spawns s c code pool alias vs) w own = spawned_fine (free_place pool f) alias w own
  does_fine (does.Kills k) w own = (kill_of k w own, up_killed k w own)
  does_fine (does.Opens x) w own = tt
  does_fine (does.Waits r) w own = tt
  does_fine (does.Emits s event v) w own = tt
  does_fine (does.Fails z) w own = tt

  -- ---- a fault

  abbrev Aborts : Moved → Type 0
  Aborts m = (z : Fault × Pos) (r : Residual) → m.outcome ≡ Fails z r → Left r m.world

  left_of_it : (z y : Fault × Pos) (q r : Residual) → ◌≡◌ {A = Outcome} (Fails y q) (Fails z r) → q ≡ r
  left_of_it z y q r e = ap (λ o. elim o [ Fails i l ↦ l | _ ↦ q ]) e

  answered_aborts : (g : Focus Act) (y : Outcome) (w : World) → ((a : Act) → Fate (Here a) w y w) → Left (plug g Over) w → Aborts (answered at g y w)
  answered_aborts g y w fate h z r e =
      let m = answered at g y w in
      let k : Fate g w (Fails z r) m.world = subst (λ o. Fate g w o m.world) e (answered_fate at g y w fate) in
      subst (λ q. Left q m.world) (sym k.1) (subst (λ u. Left (plug g Over) u) (sym k.0) h)

  fails_aborts : (y : Fault × Pos) (w : World) → Good w → Aborts (moved (Fails y (plug f Over)) w)
  fails_aborts y w own z r e = subst (λ q. Left q w) (left_of_it z y (plug f Over) r e) (abort_of w own)

  spawned_aborts : (s : KNode) (c : KCode) (code pool place : ℕ) (alias : Option ℕ) (vs : List ℤ) (w : World) → Good w → Aborts (spawned_at n body f s c code pool place alias vs w)
  spawned_aborts s c code pool place alias vs w own = go (w.given == 4294967295)
    where
      number : ℕ
      number = w.given + 1

      go : (b : Bool)
          → Aborts (if b then moved (Fails (SpawnCount, s.pos) (plug f Over)) w else moved (Raises (plug (seated (record { pool = pool; place = place; code = code; number = w.given + 1 }) (Run (n + 1) (Begin c.body)) f) (Run n (Finish s (pos 0))))) (marked (mark.Push (n + 1)) (marked (mark.Spawned (w.given + 1)) (set_parameters (InstanceBody (w.given + 1)) c.params vs (set_alias body alias (Names (w.given + 1)) (record w { given = w.given + 1; living = (w.given + 1) ∷ w.living }))))))
      go true = fails_aborts (SpawnCount, s.pos) w own
      go false = λ z r e. absurd (cc)

  pub does_aborts : (y : Does) (w : World) → Good w → Aborts (does_in K n at body f y w)
  does_aborts (does.Opens x) w own = λ z r e. absurd (cc)
  does_aborts (does.Waits q) w own = λ z r e. absurd (cc)
  does_aborts (does.Emits s event v) w own = λ z r e. absurd (cc)
  does_aborts does.Passes w own = answered_aborts f Past w (λ a. tt) (abort_of w own)
  does_aborts (does.Leaves node x) w own = answered_aborts f (Leaves node x) w (λ a. refl) (abort_of w own)
  does_aborts (does.Registers s) w own = answered_aborts f (Registers s) w (λ a. tt) (abort_of w own)
  does_aborts does.Ends w own = answered_aborts f AtBlockEnd w (λ a. tt) (abort_of w own)
  does_aborts does.Heads w own = answered_aborts f AtLoopHead w (λ a. (refl, refl)) (abort_of w own)
  does_aborts (does.Spawns s c code pool alias vs) w own = go (free_place pool f)
    where
      go : (o : Option ℕ) → Aborts (elim o [
        | None ↦ answered at f Past (marked mark.Full (set_alias body alias NotSet w))
        | Some place ↦ spawned_at n body f s c code pool place alias vs w
      ])
      go None = answered_aborts f Past (marked mark.Full (set_alias body alias NotSet w)) (λ a. tt) (abort_of (marked mark.Full (set_alias body alias NotSet w)) (alias_good alias w own))
      go (Some place) = spawned_aborts s c code pool place alias vs w own
  does_aborts (does.Kills k) w own = answered_aborts (unseat k f) Past (killed k f w) (λ a. tt) (abort_killed k w own)
  does_aborts (does.Fails y) w own = fails_aborts y w own
