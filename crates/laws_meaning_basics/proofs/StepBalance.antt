-- One step of a trail keeps the balance of registrations, runs and standing finalizers.
use Rattle.std.proofs.Common.{◌≡◌, refl, sym, ap, ◌∙◌, ℕ, ◌+◌, ℤ, pos, Bool, true, false, if◌then◌else◌, ◌==◌, nat_lt, List, ◌∷◌, Option, Some, None, arith}
use Rattle.ceu_base.specs.declared.kinds.Pos.{Pos}
use Rattle.ceu_base.specs.declared.kinds.Fault.TheVariants.{SpawnCount}
use Rattle.ceu_base.specs.declared.kinds.Mark.TheVariants as mark
use Rattle.ceu_tree.specs.declared.kernel.Kernel.{Kernel}
use Rattle.ceu_tree.specs.declared.kernel.KCode.{KCode}
use Rattle.ceu_tree.specs.declared.kernel.KNode.{KNode}
use Rattle.ceu_tree.specs.declared.kernel.KBlock.{out-KBlock}
use Rattle.ceu_tree.specs.Residual.{Body, Spawned as InstanceBody, Act, Begin, Finish, Seat, Residual, Over, Run, WaitInput, WaitTime, WaitEvent, WaitForever, InAsync, Block, Open, Loop, Call, Par, Branches, no_branch, branch, Instances, no_instance, instance}
use Rattle.ceu_tree.specs.Focus.{Frame, OfBlock, Focus, Here, In, fill, plug, leaf, body_of, has_body}
use Rattle.ceu_tree.specs.World.{World, NotSet, Names, marked, set_alias, set_parameters, dead}
use Rattle.ceu_tree.specs.Abort.{aborted}
use Rattle.ceu_tree.specs.Wake.{each_leaf, each_in_branches, each_in_instances, by_event, each_in_body, woken}
use Rattle.ceu_tree.specs.Leaf as does
use Rattle.ceu_tree.specs.Leaf.{Does, acted}
use Rattle.ceu_tree.specs.Around.{Outcome, Rests, Raises, Fails, Past, Registers, AtBlockEnd, AtLoopHead, Leaves, Moved, moved, answered}
use Rattle.ceu_tree.specs.Step.{event_code, size_in, free_place, with_instance, seated_if, seat_frame, seated, spawned_at, spawned, unseated, unseat_frame, unseat, killed_in, kill_frame, killed, does_in, stepped}
use Rattle.laws_meaning_basics.specs.Finalizers.{among, standing, standing_branches, standing_instances, standing_frame, standing_focus}
use Rattle.laws_meaning_basics.proofs.Balance.{Kept, kept_same, kept_mark, kept_then, kept_beside, kept_equal, Quiet, quiet, quiet_then, kept_quiet, aborted_kept}
use Rattle.laws_meaning_basics.proofs.FocusBalance.{fill_stands, plug_stands, graft_stands}
use Rattle.laws_meaning_basics.proofs.UpBalance.{left, left_whole, answered_balanced}
use Rattle.laws_meaning_basics.proofs.LeafBalance.{Fresh, set_parameters_quiet, set_alias_quiet, acted_fresh}

-- ---- a change of leaves that keeps what stands registered

module _ (p : Pos) (g : Residual → Residual) (keeps : (r : Residual) → standing p (g r) ≡ standing p r) where
  mutual
    unfolding standing each_leaf

    pub each_stands : (r : Residual) → standing p (each_leaf g r) ≡ standing p r
    each_stands (Block b fin all r rest) = let a = each_instances_stand all in let c = each_stands r in omega (arith, a, c)
    each_stands (Open s r) = each_stands r
    each_stands (Loop s c r) = each_stands r
    each_stands (Call s r) = each_stands r
    each_stands (Par s bs) = each_branches_stand bs
    each_stands Over = refl
    each_stands (Run n a) = keeps (Run n a)
    each_stands (WaitInput k s) = keeps (WaitInput k s)
    each_stands (WaitTime d s) = keeps (WaitTime d s)
    each_stands (WaitEvent e s) = keeps (WaitEvent e s)
    each_stands (WaitForever s) = keeps (WaitForever s)
    each_stands (InAsync s served r) = keeps (InAsync s served r)

    each_branches_stand : (bs : Branches) → standing_branches p (each_in_branches g bs) ≡ standing_branches p bs
    each_branches_stand no_branch = refl
    each_branches_stand (branch r more) = let a = each_stands r in let c = each_branches_stand more in omega (arith, a, c)

    each_instances_stand : (all : Instances) → standing_instances p (each_in_instances g all) ≡ standing_instances p all
    each_instances_stand no_instance = refl
    each_instances_stand (instance seat r more) = let a = each_stands r in let c = each_instances_stand more in omega (arith, a, c)

  each_in_body_stands : (f : Focus Act) (r : Residual) → standing p (each_in_body g f r) ≡ standing_focus p f + standing p r
  unfolding standing_focus
  each_in_body_stands (Here a) r = omega (arith, each_stands r)
  each_in_body_stands (In fr f) r = go (has_body (In fr f)) (each_in_body_stands f r)
    where
      go : (b : Bool) → standing p (each_in_body g f r) ≡ standing_focus p f + standing p r → standing p (if b then fill fr (each_in_body g f r) else each_leaf g (plug (In fr f) r)) ≡ standing_frame p fr + standing_focus p f + standing p r
      go true a = omega (arith, fill_stands p fr (each_in_body g f r), a)
      go false h = let a = plug_stands p (In fr f) r in omega (arith, each_stands (plug (In fr f) r), a)

  pub woken_stands : (scope : Option ℕ) (f : Focus Act) (r : Residual) → standing p (woken scope g f r) ≡ standing_focus p f + standing p r
  woken_stands None f r = each_stands (plug f r) ∙ plug_stands p f r
  woken_stands (Some c) f r = each_in_body_stands f r

if_stands : (p : Pos) (b : Bool) (x y : Residual) (n : ℕ) → standing p x ≡ n → standing p y ≡ n → standing p (if b then x else y) ≡ n
if_stands p true x y n h k = h
if_stands p false x y n h k = k

by_event_keeps : (p : Pos) (level event : ℕ) (v : ℤ) (r : Residual) → standing p (by_event level event v r) ≡ standing p r
unfolding standing
by_event_keeps p level event v (WaitEvent e s) = if_stands p (e == event) _ _ 0 refl refl
by_event_keeps p level event v r = refl

-- ---- pools

with_instance_stands : (p : Pos) (seat : Seat) (r : Residual) (all : Instances) → standing p r ≡ 0 → standing_instances p (with_instance seat r all) ≡ standing_instances p all
unfolding standing
with_instance_stands p seat r no_instance e = omega (arith, e)
with_instance_stands p seat r (instance other q more) e = go (nat_lt seat.pool other.pool) (with_instance_stands p seat r more e)
  where
    go : (b : Bool) → standing_instances p (with_instance seat r more) ≡ standing_instances p more → standing_instances p (if b then instance seat r (instance other q more) else instance other q (with_instance seat r more)) ≡ standing p q + standing_instances p more
    go true h = omega (arith, e)
    go false h = omega (arith, h)

seated_if_stands : (p : Pos) (o : Option ℕ) (seat : Seat) (r : Residual) (all : Instances) → standing p r ≡ 0 → standing_instances p (seated_if o seat r all) ≡ standing_instances p all
seated_if_stands p None seat r all e = refl
seated_if_stands p (Some n) seat r all e = with_instance_stands p seat r all e

seat_frame_stands : (p : Pos) (seat : Seat) (r : Residual) (fr : Frame) → standing p r ≡ 0 → standing_frame p (seat_frame seat r fr) ≡ standing_frame p fr
seat_frame_stands p seat r (OfBlock b fin all rest) e = ap (λ k. among p fin + k) (seated_if_stands p (size_in seat.pool (out-KBlock b).decls) seat r all e)
seat_frame_stands p seat r fr e = refl

seated_stands : (p : Pos) (seat : Seat) (r : Residual) (f : Focus Act) → standing p r ≡ 0 → standing_focus p (seated seat r f) ≡ standing_focus p f
unfolding standing_focus
seated_stands p seat r (Here a) e = refl
seated_stands p seat r (In fr f) e = let a = seat_frame_stands p seat r fr e in let b = seated_stands p seat r f e in omega (arith, a, b)

killed_in_kept : (p : Pos) (k : ℕ) (all : Instances) (w : World) (c : ℕ) → Kept p w (standing_instances p all + c) (killed_in k all w) (standing_instances p (unseated k all) + c)
unfolding standing
killed_in_kept p k no_instance w c = kept_same p w w _ refl refl
killed_in_kept p k (instance seat r more) w c = go (seat.number == k) (killed_in_kept p k more w c)
  where
    go : (b : Bool) → Kept p w (standing_instances p more + c) (killed_in k more w) (standing_instances p (unseated k more) + c)
        → Kept p w (standing p r + standing_instances p more + c) (if b then dead k (aborted r (InstanceBody k) w) else killed_in k more w) (standing_instances p (if b then more else instance seat r (unseated k more)) + c)
    go true ih = kept_quiet p w _ _ _ _ (kept_equal p _ _ (standing p r + (standing_instances p more + c)) (standing_instances p more + c) _ _ (omega arith) refl (aborted_kept r p (InstanceBody k) w _)) (record { marks = refl; fault = refl })
    go false ih = kept_equal p w _ (standing_instances p more + c + standing p r) (standing_instances p (unseated k more) + c + standing p r) _ _ (omega arith) (omega arith) (kept_beside p w _ _ _ (standing p r) ih)

kill_frame_kept : (p : Pos) (k : ℕ) (fr : Frame) (w : World) (c : ℕ) → Kept p w (standing_frame p fr + c) (kill_frame k fr w) (standing_frame p (unseat_frame k fr) + c)
kill_frame_kept p k (OfBlock b fin all rest) w c = kept_equal p w _ (standing_instances p all + (among p fin + c)) (standing_instances p (unseated k all) + (among p fin + c)) _ _ (omega arith) (omega arith) (killed_in_kept p k all w _)
kill_frame_kept p k fr w c = kept_same p w w _ refl refl

killed_kept : (p : Pos) (k : ℕ) (f : Focus Act) (w : World) (c : ℕ) → Kept p w (standing_focus p f + c) (killed k f w) (standing_focus p (unseat k f) + c)
unfolding standing_focus
killed_kept p k (Here a) w c = kept_same p w w _ refl refl
killed_kept p k (In fr f) w c =
    kept_then p w (kill_frame k fr w) _ _ (standing_frame p (unseat_frame k fr) + (standing_focus p f + c)) _
    (kept_equal p w _ (standing_frame p fr + (standing_focus p f + c)) _ _ _ (omega arith) refl (kill_frame_kept p k fr w _))
    (kept_equal p _ _ (standing_focus p f + (standing_frame p (unseat_frame k fr) + c)) (standing_focus p (unseat k f) + (standing_frame p (unseat_frame k fr) + c)) _ _ (omega arith) (omega arith) (killed_kept p k f _ _))

-- ---- the step

module _ (p : Pos) (K : Kernel) (n : ℕ) (root body : Body) (f : Focus Act) where
  -- from the focus f to what is left
  abbrev pub Result : World → Moved → Type 0
  Result w m = Kept p w (standing_focus p f) m.world (left_whole p m.outcome)

  plugged : (w u : World) (x : Residual → Outcome) (r : Residual) → ((q : Residual) → left_whole p (x q) ≡ standing p q) → standing p r ≡ 0 → Quiet w u → Result w (moved (x (plug f r)) u)
  plugged w u x r e h q = kept_quiet p w w u _ _ (kept_equal p w w _ _ _ _ refl (sym (e (plug f r) ∙ plug_stands p f r ∙ omega (arith, h))) (kept_same p w w (standing_focus p f) refl refl)) q

  answers : (w u : World) (x : Outcome) → Quiet w u → ((a : Act) → left p (Here a) x ≡ 0) → Result w (answered root f x u)
  answers w u x q h = kept_then p w u _ _ (standing_focus p f) _ (kept_same p w u _ q.marks q.fault) (answered_balanced p f x root u h)

  spawned_at_balanced : (s : KNode) (c : KCode) (code pool place : ℕ) (alias : Option ℕ) (vs : List ℤ) (w : World) → Result w (spawned_at n body f s c code pool place alias vs w)
  unfolding standing
  spawned_at_balanced s c code pool place alias vs w = go (w.given == 4294967295)
    where
      number : ℕ
      number = w.given + 1

      u : World
      u = set_parameters (InstanceBody number) c.params vs (set_alias body alias (Names number) (record w { given = number; living = number ∷ w.living }))

      seat : Seat
      seat = record { pool = pool; place = place; code = code; number = number }

      q : Quiet w u
      q = quiet_then w _ u (quiet_then w _ _ (record { marks = refl; fault = refl }) (set_alias_quiet body alias (Names number) (record w { given = number; living = number ∷ w.living }))) (set_parameters_quiet (InstanceBody number) c.params vs _)

      left_over : standing p (plug (seated seat (Run (n + 1) (Begin c.body)) f) (Run n (Finish s (pos 0)))) ≡ standing_focus p f
      left_over = let a = plug_stands p (seated seat (Run (n + 1) (Begin c.body)) f) (Run n (Finish s (pos 0))) in let b = seated_stands p seat (Run (n + 1) (Begin c.body)) f refl in omega (arith, a, b)

      go : (b : Bool) → Result w (if b then moved (Fails (SpawnCount, s.pos) (plug f Over)) w else moved (Raises (plug (seated seat (Run (n + 1) (Begin c.body)) f) (Run n (Finish s (pos 0))))) (marked (mark.Push (n + 1)) (marked (mark.Spawned number) u)))
      go true = plugged w w (Fails (SpawnCount, s.pos)) Over (λ r. refl) refl (quiet w)
      go false =
          kept_then p w (marked (mark.Spawned number) u) _ _ (standing_focus p f) _
          (kept_then p w u _ _ (standing_focus p f) _ (kept_same p w u _ q.marks q.fault) (kept_mark p (mark.Spawned number) u _ _ refl))
          (kept_mark p (mark.Push (n + 1)) _ _ _ (omega (arith, left_over)))

  spawned_balanced : (s : KNode) (c : KCode) (code pool : ℕ) (alias : Option ℕ) (vs : List ℤ) (w : World) → Result w (spawned n root body f s c code pool alias vs w)
  spawned_balanced s c code pool alias vs w = go (free_place pool f)
    where
      q : Quiet w (set_alias body alias NotSet w)
      q = set_alias_quiet body alias NotSet w

      go : (o : Option ℕ) → Result w (elim o [
        | None ↦ answered root f Past (marked mark.Full (set_alias body alias NotSet w))
        | Some place ↦ spawned_at n body f s c code pool place alias vs w
      ])
      go None =
          kept_then p w (marked mark.Full (set_alias body alias NotSet w)) _ _ (standing_focus p f) _
          (kept_then p w (set_alias body alias NotSet w) _ _ (standing_focus p f) _ (kept_same p w _ _ q.marks q.fault) (kept_mark p mark.Full _ _ _ refl))
          (answered_balanced p f Past root _ (λ a. refl))
      go (Some place) = spawned_at_balanced s c code pool place alias vs w

  pub does_balanced : (d : Does) (w : World) → Fresh p d → Result w (does_in K n root body f d w)
  unfolding standing standing_focus
  does_balanced (does.Opens x) w h = kept_equal p w w _ _ _ _ refl (omega (arith, graft_stands p f x, h)) (kept_same p w w (standing_focus p f) refl refl)
  does_balanced (does.Waits r) w h = plugged w w Rests r (λ q. refl) h (quiet w)
  does_balanced does.Passes w h = answers w w Past (quiet w) (λ a. refl)
  does_balanced (does.Leaves node x) w h = answers w w (Leaves node x) (quiet w) (λ a. refl)
  does_balanced (does.Registers s) w h = answers w w (Registers s) (quiet w) (λ a. refl)
  does_balanced does.Ends w h = answers w w AtBlockEnd (quiet w) (λ a. refl)
  does_balanced does.Heads w h = answers w w AtLoopHead (quiet w) (λ a. refl)
  does_balanced (does.Emits s event v) w h =
      kept_mark p (mark.Push (n + 1)) w _ _
      (let a = woken_stands p (by_event (n + 1) event v) (by_event_keeps p (n + 1) event v) (event_code event K.events) f (Run n (Finish s (pos 0))) in omega (arith, a))
  does_balanced (does.Spawns s c code pool alias vs) w h = spawned_balanced s c code pool alias vs w
  does_balanced (does.Kills k) w h =
      kept_then p w (killed k f w) _ _ (standing_focus p (unseat k f)) _
      (kept_equal p w _ (standing_focus p f + 0) (standing_focus p (unseat k f) + 0) _ _ (omega arith) (omega arith) (killed_kept p k f w 0))
      (answered_balanced p (unseat k f) Past root (killed k f w) (λ a. refl))
  does_balanced (does.Fails e) w h = plugged w w (Fails e) Over (λ q. refl) refl (quiet w)

pub stepped_balanced : (p : Pos) (K : Kernel) (n : ℕ) (root : Body) (f : Focus Act) (w : World) → Kept p w (standing_focus p f) (stepped K n root f w).world (left_whole p (stepped K n root f w).outcome)
unfolding stepped
stepped_balanced p K n root f w =
    let a = acted_fresh p w K n (body_of f root) (leaf f) in
    let d = acted K n (body_of f root) (leaf f) w in
    kept_then p w d.world _ _ (standing_focus p f) _ (a.kept (standing_focus p f)) (does_balanced p K n root (body_of f root) f d.does d.world a.fresh)
