-- A step of a turn adds no mark of a turn that begins, and one mark of a level where it opens one.
use Rattle.std.proofs.Common.{◌≡◌, refl, ◌∙◌, ℕ, ◌+◌, ℤ, pos, Bool, true, false, if◌then◌else◌, ◌==◌, List, [], ◌∷◌, Option, Some, None, arith}
use Rattle.ceu_base.specs.declared.kinds.Fault.TheVariants.{SpawnCount}
use Rattle.ceu_base.specs.declared.kinds.Mark.TheVariants as mark
use Rattle.ceu_tree.specs.declared.kernel.Kernel.{Kernel}
use Rattle.ceu_tree.specs.declared.kernel.KCode.{KCode}
use Rattle.ceu_tree.specs.declared.kernel.KNode.{KNode}
use Rattle.ceu_tree.specs.Residual.{Body, Spawned, Act, Begin, Finish, Seat, Residual, Over, Run, Instances, no_instance, instance}
use Rattle.ceu_tree.specs.Focus.{Frame, OfBlock, Focus, Here, In, plug, leaf, body_of}
use Rattle.ceu_tree.specs.World.{World, NotSet, Names, marked, set_alias, set_parameters, dead}
use Rattle.ceu_tree.specs.Abort.{aborted}
use Rattle.ceu_tree.specs.Leaf as does
use Rattle.ceu_tree.specs.Leaf.{Does, acted}
use Rattle.ceu_tree.specs.Around.{Outcome, Raises, Fails, Past, Registers, AtBlockEnd, AtLoopHead, Leaves, Moved, moved, answered}
use Rattle.ceu_tree.specs.Step.{free_place, seated, spawned_at, spawned, unseat, killed_in, kill_frame, killed, does_in, stepped}
use Rattle.laws_meaning_basics.proofs.Balance.{Quiet, quiet_then}
use Rattle.laws_meaning_basics.proofs.LeafBalance.{set_parameters_quiet, set_alias_quiet}
use Rattle.ceu_endings.specs.Laws.{resumes}
use Rattle.laws_bounds_turns.specs.Marked.{pushes}
use Rattle.laws_bounds_turns.proofs.Silent.{Silent, silent, onward, same_marks, mark_silent, resumes_append, pushes_append, aborted_silent}
use Rattle.laws_bounds_turns.proofs.Around.{raised, Kept, answered_kept}
use Rattle.laws_bounds_turns.proofs.Acted.{Calm, calm, quietly, acted_calm}

-- what a step has come to with the marks that its levels ask for, and with no new fault of a finalizer where it opens one
pub record Marked (w : World) (m : Moved) : Type 0 where
  pub turns : resumes m.world.marks ≡ resumes w.marks
  pub levels : pushes m.world.marks ≡ pushes w.marks + raised m.outcome
  pub fine : raised m.outcome ≡ 1 → m.world.fault ≡ w.fault

silently : (w : World) (m : Moved) → Kept w 0 m → Marked w m
silently w m h = record {
  turns = h.marks.turns;
  levels = (let e = h.marks.levels in let i = h.raises in omega (arith, e, i));
  fine = λ e. absurd (let i = h.raises in omega (arith, e, i));
}

calmly : (w u : World) (m : Moved) → Calm w u → Marked u m → Marked w m
calmly w u m c h = record { turns = h.turns ∙ c.marks.turns; levels = (let e = h.levels in let i = c.marks.levels in omega (arith, e, i)); fine = λ e. h.fine e ∙ c.fault }

stays : (w u : World) (m : Moved) → Silent w u → Kept u 0 m → Marked w m
stays w u m a h = silently w m (record { marks = onward w u m.world a h.marks; raises = h.raises })

-- a level that opens, with its mark
pushed : (n : ℕ) (w u : World) (r : Residual) → Calm w u → Marked w (moved (Raises r) (marked (mark.Push n) u))
pushed n w u r c = record {
  turns = (let i = resumes_append u.marks (mark.Push n ∷ []) in let e = c.marks.turns in omega (arith, i, e));
  levels = (let i = pushes_append u.marks (mark.Push n ∷ []) in let e = c.marks.levels in omega (arith, i, e));
  fine = λ e. c.fault;
}

-- ---- spawns and kills

spawned_marked : (n : ℕ) (body : Body) (f : Focus Act) (s : KNode) (c : KCode) (code pool place : ℕ) (alias : Option ℕ) (vs : List ℤ) (w : World) → Marked w (spawned_at n body f s c code pool place alias vs w)
spawned_marked n body f s c code pool place alias vs w = either (w.given == 4294967295)
  where
    number : ℕ
    number = w.given + 1

    u : World
    u = set_parameters (Spawned number) c.params vs (set_alias body alias (Names number) (record w { given = number; living = number ∷ w.living }))

    seat : Seat
    seat = record { pool = pool; place = place; code = code; number = number }

    q : Quiet w u
    q = quiet_then w _ u (quiet_then w _ _ (record { marks = refl; fault = refl }) (set_alias_quiet body alias (Names number) (record w { given = number; living = number ∷ w.living }))) (set_parameters_quiet (Spawned number) c.params vs _)

    noted : Calm w (marked (mark.Spawned number) u)
    noted = let c = quietly w u q in record { marks = onward w u _ c.marks (mark_silent (mark.Spawned number) u refl refl); fault = q.fault }

    either : (b : Bool) → Marked w (if b then moved (Fails (SpawnCount, s.pos) (plug f Over)) w else moved (Raises (plug (seated seat (Run (n + 1) (Begin c.body)) f) (Run n (Finish s (pos 0))))) (marked (mark.Push (n + 1)) (marked (mark.Spawned number) u)))
    either true = silently w _ (record { marks = silent w; raises = refl })
    either false = pushed (n + 1) w (marked (mark.Spawned number) u) _ noted

spawn_marked : (n : ℕ) (root body : Body) (f : Focus Act) (s : KNode) (c : KCode) (code pool : ℕ) (alias : Option ℕ) (vs : List ℤ) (w : World) → Marked w (spawned n root body f s c code pool alias vs w)
spawn_marked n root body f s c code pool alias vs w = go (free_place pool f)
  where
    u : World
    u = marked mark.Full (set_alias body alias NotSet w)

    go : (o : Option ℕ) → Marked w (elim o [
      | None ↦ answered root f Past (marked mark.Full (set_alias body alias NotSet w))
      | Some place ↦ spawned_at n body f s c code pool place alias vs w
    ])
    go None =
        let q = set_alias_quiet body alias NotSet w in
        stays w u _ (onward w _ u (same_marks w _ q.marks) (mark_silent mark.Full _ refl refl)) (answered_kept root f Past u)
    go (Some place) = spawned_marked n body f s c code pool place alias vs w

killed_in_silent : (k : ℕ) (all : Instances) (w : World) → Silent w (killed_in k all w)
killed_in_silent k no_instance w = silent w
killed_in_silent k (instance seat r more) w = either (seat.number == k) (killed_in_silent k more w)
  where
    either : (b : Bool) → Silent w (killed_in k more w) → Silent w (if b then dead k (aborted r (Spawned k) w) else killed_in k more w)
    either true h = let u = aborted r (Spawned k) w in onward w u _ (aborted_silent r (Spawned k) w) (same_marks u _ refl)
    either false h = h

kill_silent : (k : ℕ) (fr : Frame) (w : World) → Silent w (kill_frame k fr w)
kill_silent k (OfBlock b fin all rest) w = killed_in_silent k all w
kill_silent k fr w = silent w

killed_silent : (k : ℕ) (f : Focus Act) (w : World) → Silent w (killed k f w)
killed_silent k (Here a) w = silent w
killed_silent k (In fr f) w = let u = kill_frame k fr w in onward w u _ (kill_silent k fr w) (killed_silent k f u)

-- ---- a step

module _ (K : Kernel) (n : ℕ) (root : Body) (f : Focus Act) where
  answers : (x : Outcome) (w : World) → raised x ≡ 0 → Marked w (answered root f x w)
  answers x w e = let h = answered_kept root f x w in silently w _ (record { marks = h.marks; raises = h.raises ∙ e })

  does_marked : (body : Body) (x : Does) (w : World) → Marked w (does_in K n root body f x w)
  does_marked body (does.Opens x) w = silently w _ (record { marks = silent w; raises = refl })
  does_marked body (does.Waits r) w = silently w _ (record { marks = silent w; raises = refl })
  does_marked body does.Passes w = answers Past w refl
  does_marked body (does.Leaves node x) w = answers (Leaves node x) w refl
  does_marked body (does.Registers s) w = answers (Registers s) w refl
  does_marked body does.Ends w = answers AtBlockEnd w refl
  does_marked body does.Heads w = answers AtLoopHead w refl
  does_marked body (does.Emits s event v) w = pushed (n + 1) w w _ (calm w)
  does_marked body (does.Spawns s c code pool alias vs) w = spawn_marked n root body f s c code pool alias vs w
  does_marked body (does.Kills k) w = stays w (killed k f w) _ (killed_silent k f w) (answered_kept root (unseat k f) Past (killed k f w))
  does_marked body (does.Fails e) w = silently w _ (record { marks = silent w; raises = refl })

  pub step_marked : (w : World) → Marked w (stepped K n root f w)
  unfolding stepped
  step_marked w =
      let body = body_of f root in
      let d = acted K n body (leaf f) w in calmly w d.world _ (acted_calm K n body (leaf f) w) (does_marked body d.does d.world)
