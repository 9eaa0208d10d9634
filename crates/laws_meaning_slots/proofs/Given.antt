-- What a step does to how many numbers were given: it gives some or none. A value lies where it lay when more were given.
use Rattle.std.proofs.Common.{◌≡◌, refl, ap, ◌∙◌, ◌≤◌, ℕ, ◌+◌, ℤ, pos, Bool, true, false, if◌then◌else◌, ◌==◌, List, [], ◌∷◌, Option, Some, None, arith}
use Rattle.std.proofs.lemmas.Bool.{and_parts, and_from, leb-true, le-leb}
use Rattle.ceu_base.specs.declared.kinds.Fault.TheVariants.{SpawnCount}
use Rattle.ceu_base.specs.declared.kinds.Mark.TheVariants as mark
use Rattle.ceu_base.specs.declared.kinds.Ty.TheVariants as ty
use Rattle.ceu_tree.specs.declared.kernel.Kernel.{Kernel}
use Rattle.ceu_tree.specs.declared.kernel.KCode.{KCode}
use Rattle.ceu_tree.specs.declared.kernel.KDecl.{KDecl}
use Rattle.ceu_tree.specs.declared.kernel.KKind.{KKind}
use Rattle.ceu_tree.specs.declared.kernel.KKind.TheVariants as kind
use Rattle.ceu_tree.specs.declared.kernel.KLoop.{KLoop}
use Rattle.ceu_tree.specs.declared.kernel.KLoop.TheVariants as turns
use Rattle.ceu_tree.specs.declared.kernel.KNode.{KNode}
use Rattle.ceu_tree.specs.declared.kernel.KBlock.{out-KBlock}
use Rattle.ceu_tree.specs.declared.kernel.KStmt.{out-KStmt}
use Rattle.ceu_tree.specs.declared.kernel.KStmt.TheOpen.{KStmt-F}
use Rattle.ceu_tree.specs.Residual.{Body, Awaited, Spawned as InstanceBody, Act, Begin, Finish, Residual, Over, Run, WaitInput, WaitTime, WaitEvent, WaitForever, InAsync, Block, Open, Loop, Call, Par, Branches, no_branch, branch, Instances, no_instance, instance}
use Rattle.ceu_tree.specs.Focus.{Frame, OfBlock, Focus, Here, In, plug, leaf, body_of}
use Rattle.ceu_tree.specs.World.{Cell, Holds, NotSet, Names, Held, World, marked, set_alias, set_parameters, dead}
use Rattle.ceu_tree.specs.Abort.{aborted}
use Rattle.ceu_tree.specs.Leaf as does
use Rattle.ceu_tree.specs.Leaf.{Layer, Does, acted, code_at}
use Rattle.ceu_tree.specs.Legal.{called_code}
use Rattle.ceu_tree.specs.Around.{Outcome, Raises, Fails, Past, Registers, AtBlockEnd, AtLoopHead, Leaves, Moved, moved, answered}
use Rattle.ceu_tree.specs.Step.{free_place, seated, spawned_at, spawned, unseat, killed_in, kill_frame, killed, does_in, stepped}
use Rattle.laws_meaning_instances.proofs.Living.{quiet_then, aborted_kept}
use Rattle.laws_meaning_instances.proofs.Trees.{live_focus}
use Rattle.laws_meaning_instances.proofs.Up.{left, answered_balanced}
use Rattle.laws_meaning_instances.proofs.Leaf.{set_alias_quiet, set_parameters_quiet, acted_fresh}
use Rattle.laws_meaning_slots.specs.Held.{is_of_kind, lies_at}
use Rattle.laws_meaning_slots.proofs.Slots.{once, at_room, decls_room, turns_room, layer_room, code_room, room, each_room, all_room}

module _ (codes : List KCode) (g j : ℕ) (up : g ≤ j) (h : Held) where
  kind_more : (k : KKind) (c : Cell) → is_of_kind g k c ≡ true → is_of_kind j k c ≡ true
  kind_more (kind.Var t) (Holds v) e = e
  kind_more (kind.Var t) NotSet e = e
  kind_more (kind.Var t) (Names n) e = e
  kind_more (kind.Alias i) (Holds v) e = e
  kind_more (kind.Alias i) NotSet e = e
  kind_more (kind.Alias i) (Names n) e = let a = and_parts _ _ e in and_from _ _ a.0 (le-leb n j (let l = leb-true n g a.1 in omega (arith, l, up)))
  kind_more (kind.Pool m i) (Holds v) e = e
  kind_more (kind.Pool m i) NotSet e = e
  kind_more (kind.Pool m i) (Names n) e = e

  once_more : (x y : Bool) → (x ≡ true → y ≡ true) → once x ≤ once y
  once_more false y f = omega arith
  once_more true y f = let a = ap once (f refl) in omega (arith, a)

  at_more : (body : Body) (slot : ℕ) (k : KKind) → at_room codes g h body slot k ≤ at_room codes j h body slot k
  at_more body slot k = once_more (lies_at codes g h body slot k) (lies_at codes j h body slot k) (λ e. (let a = and_parts _ (is_of_kind g k h.cell) e in and_from _ (is_of_kind j k h.cell) a.0 (kind_more k h.cell a.1)))

  decls_more : (body : Body) (ds : List KDecl) → decls_room codes g h body ds ≤ decls_room codes j h body ds
  decls_more body [] = omega arith
  decls_more body (d ∷ ds) = let a = at_more body d.slot d.kind in let b = decls_more body ds in omega (arith, a, b)

  turns_more : (body : Body) (k : KLoop) → turns_room codes g h body k ≤ turns_room codes j h body k
  turns_more body (turns.Range i next end open_a a b open_b) = at_more body i (kind.Var ty.S32)
  turns_more body turns.Free = omega arith
  turns_more body (turns.Times slot n) = omega arith

  layer_more : (body : Body) (layer : Layer) → layer_room codes g h body layer ≤ layer_room codes j h body layer
  layer_more body (KStmt-F.Loop k b) = turns_more body k
  layer_more body layer = omega arith

  code_more : (body : Body) (o : Option KCode) → code_room codes g h body o ≤ code_room codes j h body o
  code_more body None = omega arith
  code_more body (Some c) = decls_more body c.params

  mutual
    unfolding room

    pub room_more : (r : Residual) (body : Body) → room codes g h r body ≤ room codes j h r body
    room_more (Block b fin all r rest) body = let a = decls_more body (out-KBlock b).decls in let d = all_more all in let e = room_more r body in omega (arith, a, d, e)
    room_more (Open s r) body = room_more r body
    room_more (Loop s c r) body = let a = layer_more body (out-KStmt s.stmt) in let d = room_more r body in omega (arith, a, d)
    room_more (Call s r) body = let a = code_more (Awaited body s.node) (called_code codes (out-KStmt s.stmt)) in let d = room_more r (Awaited body s.node) in omega (arith, a, d)
    room_more (Par s bs) body = each_more bs body
    room_more (InAsync s served r) body = room_more r body
    room_more Over body = omega arith
    room_more (Run k a) body = omega arith
    room_more (WaitInput k s) body = omega arith
    room_more (WaitTime d s) body = omega arith
    room_more (WaitEvent e s) body = omega arith
    room_more (WaitForever s) body = omega arith

    each_more : (bs : Branches) (body : Body) → each_room codes g h bs body ≤ each_room codes j h bs body
    each_more no_branch body = omega arith
    each_more (branch r more) body = let a = room_more r body in let d = each_more more body in omega (arith, a, d)

    all_more : (all : Instances) → all_room codes g h all ≤ all_room codes j h all
    all_more no_instance = omega arith
    all_more (instance seat r more) = let a = code_more (InstanceBody seat.number) (code_at seat.code codes) in let d = room_more r (InstanceBody seat.number) in let e = all_more more in omega (arith, a, d, e)

-- ---- how many were given

killed_in_given : (k : ℕ) (all : Instances) (w : World) → (killed_in k all w).given ≡ w.given
killed_in_given k no_instance w = refl
killed_in_given k (instance seat r more) w = go (seat.number == k) (killed_in_given k more w)
  where
    given : World → ℕ
    given u = u.given

    go : (b : Bool) → (killed_in k more w).given ≡ w.given → given (if b then dead k (aborted r (InstanceBody k) w) else killed_in k more w) ≡ w.given
    go true e = (aborted_kept r 0 (InstanceBody k) w 0).given
    go false e = e

killed_given : (k : ℕ) (f : Focus Act) (w : World) → (killed k f w).given ≡ w.given
killed_given k (Here a) w = refl
killed_given k (In fr f) w = killed_given k f (kill_frame k fr w) ∙ frame fr
  where
    frame : (fr : Frame) → (kill_frame k fr w).given ≡ w.given
    frame (OfBlock b fin all rest) = killed_in_given k all w
    frame fr = refl

abbrev given_of : Moved → ℕ
given_of m = m.world.given

module _ (K : Kernel) (n : ℕ) (root body : Body) (f : Focus Act) where
  answered_given : (x : Outcome) (f : Focus Act) (w : World) → ((a : Act) → left 0 (Here a) x ≡ 0) → w.given ≤ given_of (answered root f x w)
  answered_given x f w e = let a = (answered_balanced 0 f x root w e).given in omega (arith, a)

  spawned_given : (s : KNode) (c : KCode) (code pool : ℕ) (alias : Option ℕ) (vs : List ℤ) (w : World)
      → w.given ≤ given_of (spawned n root body f s c code pool alias vs w)
  spawned_given s c code pool alias vs w = go (free_place pool f)
    where
      number : ℕ
      number = w.given + 1

      v : World
      v = record w { given = number; living = number ∷ w.living }

      v1 : World
      v1 = set_alias body alias (Names number) v

      u : World
      u = set_parameters (InstanceBody number) c.params vs v1

      more : u.given ≡ number
      more = (quiet_then v v1 u (set_alias_quiet body alias (Names number) v) (set_parameters_quiet (InstanceBody number) c.params vs v1)).given

      at : (place : ℕ) (b : Bool) → w.given ≤ given_of (if b then moved (Fails (SpawnCount, s.pos) (plug f Over)) w else
          moved (Raises (plug (seated (record { pool = pool; place = place; code = code; number = number }) (Run (n + 1) (Begin c.body)) f) (Run n (Finish s (pos 0))))) (marked (mark.Push (n + 1)) (marked (mark.Spawned number) u)))
      at place true = omega arith
      at place false = let a = more in omega (arith, a)

      go : (o : Option ℕ) → w.given ≤ given_of (elim o [
        | None ↦ answered root f Past (marked mark.Full (set_alias body alias NotSet w))
        | Some place ↦ spawned_at n body f s c code pool place alias vs w
      ])
      go None = let q = (set_alias_quiet body alias NotSet w).given in let a = answered_given Past f (marked mark.Full (set_alias body alias NotSet w)) (λ a. refl) in omega (arith, q, a)
      go (Some place) = at place (w.given == 4294967295)

  pub does_given : (d : Does) (w : World) → w.given ≤ given_of (does_in K n root body f d w)
  unfolding live_focus
  does_given (does.Opens x) w = omega arith
  does_given (does.Waits r) w = omega arith
  does_given does.Passes w = answered_given Past f w (λ a. refl)
  does_given (does.Leaves node x) w = answered_given (Leaves node x) f w (λ a. refl)
  does_given (does.Registers s) w = answered_given (Registers s) f w (λ a. refl)
  does_given does.Ends w = answered_given AtBlockEnd f w (λ a. refl)
  does_given does.Heads w = answered_given AtLoopHead f w (λ a. refl)
  does_given (does.Emits s event v) w = omega arith
  does_given (does.Spawns s c code pool alias vs) w = spawned_given s c code pool alias vs w
  does_given (does.Kills k) w = let a = killed_given k f w in let b = answered_given Past (unseat k f) (killed k f w) (λ a. refl) in omega (arith, a, b)
  does_given (does.Fails e) w = omega arith

pub stepped_given : (K : Kernel) (n : ℕ) (root : Body) (f : Focus Act) (w : World) → w.given ≤ (stepped K n root f w).world.given
unfolding stepped
stepped_given K n root f w =
    let d = acted K n (body_of f root) (leaf f) w in
    let a = (acted_fresh w K n (body_of f root) (leaf f)).quiet.given in
    let b = does_given K n root (body_of f root) f d.does d.world in omega (arith, a, b)
