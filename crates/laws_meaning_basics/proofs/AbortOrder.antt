-- The finalizers of an aborted part run in order, up to the first fault.
use Rattle.std.proofs.Common.{◌≡◌, refl, sym, ap, ◌∙◌, subst, List, [], ◌∷◌, ◌++◌, append_assoc, append-nil, Option, Some, None, Ok, Err}
use Rattle.ceu_base.specs.declared.kinds.Pos.{Pos}
use Rattle.ceu_base.specs.declared.kinds.Fault.{Fault}
use Rattle.ceu_base.specs.declared.kinds.Mark.{Mark}
use Rattle.ceu_base.specs.declared.kinds.Mark.TheVariants.{Output, Resume, Push, Pop, Registered, Ran, Spawned, Full}
use Rattle.ceu_tree.specs.declared.kernel.KNode.{KNode}
use Rattle.ceu_tree.specs.declared.kernel.KBlock.{out-KBlock}
use Rattle.ceu_tree.specs.declared.kernel.KStmt.{KStmt, Assign, Out}
use Rattle.ceu_tree.specs.Residual.{Body, Awaited, Spawned as InstanceBody, Residual, Over, Run, WaitInput, WaitTime, WaitEvent, WaitForever, InAsync, Block, Open, Loop, Call, Par, Branches, no_branch, branch, Instances, no_instance, instance}
use Rattle.ceu_tree.specs.Expressions.{Answer, value_of, value_if}
use Rattle.ceu_tree.specs.World.{World, marked, assign}
use Rattle.ceu_tree.specs.Abort.{or_fault, simple, unless_fault, all_simple, finalizer_list, runs_one, finalized, aborted, branches_aborted, instances_aborted}
use Rattle.laws_meaning_basics.specs.AbortOrder.{runs, places, in_order, branches_in_order, instances_in_order, Begun}
use Rattle.laws_meaning_basics.proofs.Balance.{Quiet, forget_declared_quiet, forget_loop_quiet}

runs_append : (ms ns : List Mark) → runs (ms ++ ns) ≡ runs ms ++ runs ns
runs_append [] ns = refl
runs_append (Ran p ∷ ms) ns = ap (◌∷◌ p) (runs_append ms ns)
runs_append (Output k v ∷ ms) ns = runs_append ms ns
runs_append (Resume k ∷ ms) ns = runs_append ms ns
runs_append (Push k ∷ ms) ns = runs_append ms ns
runs_append (Pop k ∷ ms) ns = runs_append ms ns
runs_append (Registered k ∷ ms) ns = runs_append ms ns
runs_append (Spawned k ∷ ms) ns = runs_append ms ns
runs_append (Full ∷ ms) ns = runs_append ms ns

-- from one world to another, with these to run
pub record Ordered (w u : World) (order : List Pos) : Type 0 where
  pub whole : u.fault ≡ None → runs u.marks ≡ runs w.marks ++ order
  pub begun : Begun w u order
  pub fine : u.fault ≡ None → w.fault ≡ None
  pub stopped : (e : Fault × Pos) → w.fault ≡ Some e → runs u.marks ≡ runs w.marks

-- nothing runs
quiet_ordered : (w u : World) → runs u.marks ≡ runs w.marks → (u.fault ≡ None → w.fault ≡ None) → Ordered w u []
quiet_ordered w u e f = record {
  whole = λ h. e ∙ sym (append-nil (runs w.marks));
  begun = record { first = []; left = []; order_is = refl; runs_are = e ∙ sym (append-nil (runs w.marks)) };
  fine = f;
  stopped = λ x h. e;
}

pub ordered_then : (w u v : World) (l m : List Pos) → Ordered w u l → Ordered u v m → Ordered w v (l ++ m)
ordered_then w u v l m a b = record {
  whole = λ h. b.whole h ∙ ap (λ x. x ++ m) (a.whole (b.fine h)) ∙ append_assoc (runs w.marks) l m;
  begun = go u.fault refl;
  fine = λ h. a.fine (b.fine h);
  stopped = λ e h. stop e h u.fault refl;
}
  where
    go : (o : Option (Fault × Pos)) → u.fault ≡ o → Begun w v (l ++ m)
    go None e = record {
      first = l ++ b.begun.first;
      left = b.begun.left;
      order_is = ap (λ x. l ++ x) b.begun.order_is ∙ sym (append_assoc l b.begun.first b.begun.left);
      runs_are = b.begun.runs_are ∙ ap (λ x. x ++ b.begun.first) (a.whole e) ∙ append_assoc (runs w.marks) l b.begun.first;
    }
    go (Some x) e = record {
      first = a.begun.first;
      left = a.begun.left ++ m;
      order_is = ap (λ x. x ++ m) a.begun.order_is ∙ append_assoc a.begun.first a.begun.left m;
      runs_are = b.stopped x e ∙ a.begun.runs_are;
    }

    stop : (e : Fault × Pos) → w.fault ≡ Some e → (o : Option (Fault × Pos)) → u.fault ≡ o → runs v.marks ≡ runs w.marks
    stop e h None q = let x = a.fine q in absurd (cc)
    stop e h (Some x) q = b.stopped x q ∙ a.stopped e h

ordered_quiet : (w u v : World) (l : List Pos) → Ordered w u l → Quiet u v → Ordered w v l
ordered_quiet w u v l a q = record {
  whole = λ h. ap runs q.marks ∙ a.whole (sym q.fault ∙ h);
  begun = record { first = a.begun.first; left = a.begun.left; order_is = a.begun.order_is; runs_are = ap runs q.marks ∙ a.begun.runs_are };
  fine = λ h. a.fine (sym q.fault ∙ h);
  stopped = λ e h. ap runs q.marks ∙ a.stopped e h;
}

ordered_as : (w u : World) (l m : List Pos) → l ≡ m → Ordered w u l → Ordered w u m
ordered_as w u l m e a = subst (Ordered w u) e a

-- ---- one finalizer

simple_runs : (s : KStmt) (body : Body) (w : World) → runs (simple s body w).marks ≡ runs w.marks
simple_runs (Assign l e) body w = go (value_of e body w)
  where
    go : (a : Answer) → runs (or_fault a w (λ v. assign body l v w)).marks ≡ runs w.marks
    go (Ok v) = refl
    go (Err e) = refl
simple_runs (Out k e) body w = go (value_if e body w)
  where
    go : (a : Answer) → runs (or_fault a w (λ v. marked (Output k v) w)).marks ≡ runs w.marks
    go (Ok v) = runs_append w.marks (Output k v ∷ []) ∙ append-nil (runs w.marks)
    go (Err e) = refl
simple_runs _ body w = refl

simple_fine : (s : KStmt) (body : Body) (w : World) → (simple s body w).fault ≡ None → w.fault ≡ None
simple_fine (Assign l e) body w = go (value_of e body w)
  where
    go : (a : Answer) → (or_fault a w (λ v. assign body l v w)).fault ≡ None → w.fault ≡ None
    go (Ok v) h = h
    go (Err e) h = absurd (cc)
simple_fine (Out k e) body w = go (value_if e body w)
  where
    go : (a : Answer) → (or_fault a w (λ v. marked (Output k v) w)).fault ≡ None → w.fault ≡ None
    go (Ok v) h = h
    go (Err e) h = absurd (cc)
simple_fine _ body w = λ h. h

unless_ordered : (f : World → World) (w : World) (l : List Pos) → (w.fault ≡ None → Ordered w (f w) l) → Ordered w (unless_fault f w) l
unless_ordered f w l h = go w.fault refl
  where
    go : (o : Option (Fault × Pos)) → w.fault ≡ o → Ordered w (elim o [ Some e ↦ w | None ↦ f w ]) l
    go None e = h e
    go (Some x) e = record {
      whole = λ k. absurd (cc);
      begun = record { first = []; left = l; order_is = refl; runs_are = sym (append-nil (runs w.marks)) };
      fine = λ k. k;
      stopped = λ y k. refl;
    }

all_simple_ordered : (ss : List KNode) (body : Body) (w : World) → Ordered w (all_simple ss body w) []
all_simple_ordered [] body w = quiet_ordered w w refl (λ h. h)
all_simple_ordered (s ∷ ss) body w =
    ordered_then w (unless_fault (simple s.stmt body) w) _ [] []
    (unless_ordered (simple s.stmt body) w [] (λ h. quiet_ordered w (simple s.stmt body w) (simple_runs s.stmt body w) (simple_fine s.stmt body w)))
    (all_simple_ordered ss body (unless_fault (simple s.stmt body) w))

ran_ordered : (p : Pos) (w : World) → w.fault ≡ None → Ordered w (marked (Ran p) w) (p ∷ [])
ran_ordered p w e = record {
  whole = λ h. runs_append w.marks (Ran p ∷ []);
  begun = record { first = p ∷ []; left = []; order_is = refl; runs_are = runs_append w.marks (Ran p ∷ []) };
  fine = λ h. h;
  stopped = λ x h. absurd (cc);
}

finalized_ordered : (ss : List KNode) (body : Body) (w : World) → Ordered w (finalized ss body w) (places ss)
finalized_ordered [] body w = quiet_ordered w w refl (λ h. h)
finalized_ordered (s ∷ ss) body w =
    ordered_then w (unless_fault (runs_one s body) w) _ (s.pos ∷ []) (places ss)
    (unless_ordered (runs_one s body) w (s.pos ∷ [])
    (λ h. ordered_then w (marked (Ran s.pos) w) _ (s.pos ∷ []) [] (ran_ordered s.pos w h) (all_simple_ordered (finalizer_list s.stmt) body (marked (Ran s.pos) w))))
    (finalized_ordered ss body (unless_fault (runs_one s body) w))

-- ---- a part

mutual
  unfolding aborted in_order

  pub aborted_ordered : (r : Residual) (body : Body) (w : World) → Ordered w (aborted r body w) (in_order r)
  aborted_ordered (Block b fin all r rest) body w =
      ordered_quiet w _ _ (in_order (Block b fin all r rest)) (ordered_then w (instances_aborted all (aborted r body w)) _ (in_order r ++ instances_in_order all) (places fin)
      (ordered_then w (aborted r body w) _ (in_order r) (instances_in_order all) (aborted_ordered r body w) (instances_ordered all (aborted r body w)))
      (finalized_ordered fin body (instances_aborted all (aborted r body w)))) (forget_declared_quiet body (out-KBlock b).decls _)
  aborted_ordered (Open s r) body w = aborted_ordered r body w
  aborted_ordered (Loop s c r) body w = ordered_quiet w _ _ (in_order r) (aborted_ordered r body w) (forget_loop_quiet body s.stmt _)
  aborted_ordered (Call s r) body w = ordered_quiet w _ _ (in_order r) (aborted_ordered r (Awaited body s.node) w) (record { marks = refl; fault = refl })
  aborted_ordered (Par s bs) body w = branches_ordered bs body w
  aborted_ordered (InAsync s b r) body w = aborted_ordered r body w
  aborted_ordered Over body w = quiet_ordered w w refl (λ h. h)
  aborted_ordered (Run n a) body w = quiet_ordered w w refl (λ h. h)
  aborted_ordered (WaitInput k s) body w = quiet_ordered w w refl (λ h. h)
  aborted_ordered (WaitTime d s) body w = quiet_ordered w w refl (λ h. h)
  aborted_ordered (WaitEvent e s) body w = quiet_ordered w w refl (λ h. h)
  aborted_ordered (WaitForever s) body w = quiet_ordered w w refl (λ h. h)

  branches_ordered : (bs : Branches) (body : Body) (w : World) → Ordered w (branches_aborted bs body w) (branches_in_order bs)
  branches_ordered no_branch body w = quiet_ordered w w refl (λ h. h)
  branches_ordered (branch r more) body w =
      ordered_then w (branches_aborted more body w) _ (branches_in_order more) (in_order r) (branches_ordered more body w) (aborted_ordered r body (branches_aborted more body w))

  instances_ordered : (all : Instances) (w : World) → Ordered w (instances_aborted all w) (instances_in_order all)
  instances_ordered no_instance w = quiet_ordered w w refl (λ h. h)
  instances_ordered (instance seat r more) w =
      ordered_quiet w _ _ (instances_in_order more ++ in_order r)
      (ordered_then w (instances_aborted more w) _ (instances_in_order more) (in_order r) (instances_ordered more w) (aborted_ordered r (InstanceBody seat.number) (instances_aborted more w)))
      (record { marks = refl; fault = refl })
