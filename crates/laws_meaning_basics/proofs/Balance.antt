-- An abortion runs each registered finalizer exactly once, unless one faults.
use Rattle.std.proofs.Common.{◌≡◌, refl, sym, ap, ◌∙◌, ◌≤◌, ℕ, ◌+◌, ℤ, List, [], ◌∷◌, ◌++◌, Some, None, Ok, Err, arith}
use Rattle.ceu_base.specs.declared.kinds.Pos.{Pos}
use Rattle.ceu_base.specs.declared.kinds.Mark.{Mark}
use Rattle.ceu_base.specs.declared.kinds.Mark.TheVariants.{Output, Resume, Push, Pop, Registered, Ran, Spawned, Full}
use Rattle.ceu_tree.specs.declared.kernel.KDecl.{KDecl}
use Rattle.ceu_tree.specs.declared.kernel.KNode.{KNode}
use Rattle.ceu_tree.specs.declared.kernel.KBlock.{KBlock, out-KBlock}
use Rattle.ceu_tree.specs.declared.kernel.KLoop.{KLoop}
use Rattle.ceu_tree.specs.declared.kernel.KLoop.TheVariants as turns
use Rattle.ceu_tree.specs.declared.kernel.KStmt as kernel
use Rattle.ceu_tree.specs.declared.kernel.KStmt.{KStmt, Assign, Out}
use Rattle.ceu_tree.specs.Residual.{Body, Awaited, Spawned as InstanceBody, Residual, Over, Run, WaitInput, WaitTime, WaitEvent, WaitForever, InAsync, Block, Open, Loop, Call, Par, Branches, no_branch, branch, Instances, no_instance, instance}
use Rattle.ceu_tree.specs.Expressions.{Answer, value_of, value_if}
use Rattle.ceu_tree.specs.World.{World, marked, assign, forget, forget_declared}
use Rattle.ceu_tree.specs.Abort.{or_fault, simple, unless_fault, all_simple, finalizer_list, runs_one, finalized, forget_turns, forget_loop, aborted, branches_aborted, instances_aborted, closed}
use Rattle.laws_meaning_basics.specs.Finalizers.{once, ran, registered, among, standing, standing_branches, standing_instances}

pub ran_append : (p : Pos) (ms ns : List Mark) → ran p (ms ++ ns) ≡ ran p ms + ran p ns
ran_append p [] ns = omega arith
ran_append p (Ran q ∷ ms) ns = omega (arith, ran_append p ms ns)
ran_append p (Output k v ∷ ms) ns = ran_append p ms ns
ran_append p (Resume k ∷ ms) ns = ran_append p ms ns
ran_append p (Push k ∷ ms) ns = ran_append p ms ns
ran_append p (Pop k ∷ ms) ns = ran_append p ms ns
ran_append p (Registered k ∷ ms) ns = ran_append p ms ns
ran_append p (Spawned k ∷ ms) ns = ran_append p ms ns
ran_append p (Full ∷ ms) ns = ran_append p ms ns

pub registered_append : (p : Pos) (ms ns : List Mark) → registered p (ms ++ ns) ≡ registered p ms + registered p ns
registered_append p [] ns = omega arith
registered_append p (Registered q ∷ ms) ns = omega (arith, registered_append p ms ns)
registered_append p (Output k v ∷ ms) ns = registered_append p ms ns
registered_append p (Resume k ∷ ms) ns = registered_append p ms ns
registered_append p (Push k ∷ ms) ns = registered_append p ms ns
registered_append p (Pop k ∷ ms) ns = registered_append p ms ns
registered_append p (Ran k ∷ ms) ns = registered_append p ms ns
registered_append p (Spawned k ∷ ms) ns = registered_append p ms ns
registered_append p (Full ∷ ms) ns = registered_append p ms ns

-- from one world to another, with so many finalizers standing before and after
pub record Kept (p : Pos) (w : World) (m : ℕ) (u : World) (n : ℕ) : Type 0 where
  pub counts : u.fault ≡ None → registered p u.marks + ran p w.marks + m ≡ registered p w.marks + ran p u.marks + n
  pub fine : u.fault ≡ None → w.fault ≡ None
  pub at_most : registered p w.marks + ran p u.marks + n ≤ registered p u.marks + ran p w.marks + m

-- the marks and the fault are what counts
pub kept_same : (p : Pos) (w u : World) (n : ℕ) → u.marks ≡ w.marks → u.fault ≡ w.fault → Kept p w n u n
kept_same p w u n e f = record { counts = λ h. (let a = ap (registered p) e in let b = ap (ran p) e in omega (arith, a, b)); fine = λ h. sym f ∙ h; at_most = (let a = ap (registered p) e in let b = ap (ran p) e in omega (arith, a, b)) }

pub kept_mark : (p : Pos) (x : Mark) (w : World) (m n : ℕ) → registered p (x ∷ []) + m ≡ ran p (x ∷ []) + n → Kept p w m (marked x w) n
kept_mark p x w m n e = record {
  counts = λ h. omega (arith, e, registered_append p w.marks (x ∷ []), ran_append p w.marks (x ∷ []));
  fine = λ h. h;
  at_most = omega (arith, e, registered_append p w.marks (x ∷ []), ran_append p w.marks (x ∷ []));
}

pub kept_then : (p : Pos) (w u v : World) (k m n : ℕ) → Kept p w k u m → Kept p u m v n → Kept p w k v n
kept_then p w u v k m n a b = record {
  counts = λ h. (let e = b.counts h in let f = a.counts (b.fine h) in omega (arith, e, f));
  fine = λ h. a.fine (b.fine h);
  at_most = (let e = a.at_most in let f = b.at_most in omega (arith, e, f));
}

pub kept_beside : (p : Pos) (w u : World) (m n c : ℕ) → Kept p w m u n → Kept p w (m + c) u (n + c)
kept_beside p w u m n c a = record { counts = λ h. omega (arith, a.counts h); fine = a.fine; at_most = (let e = a.at_most in omega (arith, e)) }

pub kept_equal : (p : Pos) (w u : World) (m n k l : ℕ) → m ≡ k → n ≡ l → Kept p w m u n → Kept p w k u l
kept_equal p w u m n k l e f a = record { counts = λ h. omega (arith, e, f, a.counts h); fine = a.fine; at_most = (let g = a.at_most in omega (arith, e, f, g)) }

-- a change of values alone
pub record Quiet (w u : World) : Type 0 where
  pub marks : u.marks ≡ w.marks
  pub fault : u.fault ≡ w.fault

pub quiet : (w : World) → Quiet w w
quiet w = record { marks = refl; fault = refl }

pub quiet_then : (w u v : World) → Quiet w u → Quiet u v → Quiet w v
quiet_then w u v a b = record { marks = b.marks ∙ a.marks; fault = b.fault ∙ a.fault }

pub kept_quiet : (p : Pos) (w u v : World) (m n : ℕ) → Kept p w m u n → Quiet u v → Kept p w m v n
kept_quiet p w u v m n a q = kept_then p w u v m n n a (kept_same p u v n q.marks q.fault)

pub forget_declared_quiet : (body : Body) (ds : List KDecl) (w : World) → Quiet w (forget_declared body ds w)
forget_declared_quiet body [] w = quiet w
forget_declared_quiet body (d ∷ ds) w =
    let a = forget_declared_quiet body ds (forget body d.slot w) in record { marks = a.marks; fault = a.fault }

forget_turns_quiet : (body : Body) (k : KLoop) (w : World) → Quiet w (forget_turns body k w)
forget_turns_quiet body (turns.Range i next end open_a a b open_b) w = record { marks = refl; fault = refl }
forget_turns_quiet body turns.Free w = quiet w
forget_turns_quiet body (turns.Times slot n) w = quiet w

pub forget_loop_quiet : (body : Body) (s : KStmt) (w : World) → Quiet w (forget_loop body s w)
forget_loop_quiet body (kernel.Loop kind b) w = forget_turns_quiet body kind w
forget_loop_quiet body _ w = quiet w

-- ---- an abortion

or_fault_kept : (p : Pos) (a : Answer) (w : World) (go : ℤ → World) (n : ℕ) → ((v : ℤ) → Kept p w n (go v) n) → Kept p w n (or_fault a w go) n
or_fault_kept p (Ok v) w go n h = h v
or_fault_kept p (Err e) w go n h = record { counts = λ k. omega arith; fine = λ k. absurd (cc); at_most = omega arith }

simple_kept : (p : Pos) (s : KStmt) (body : Body) (w : World) (n : ℕ) → Kept p w n (simple s body w) n
simple_kept p (Assign l e) body w n = or_fault_kept p (value_of e body w) w (λ v. assign body l v w) n (λ v. kept_same p w (assign body l v w) n refl refl)
simple_kept p (Out k e) body w n = or_fault_kept p (value_if e body w) w (λ v. marked (Output k v) w) n (λ v. kept_mark p (Output k v) w n n refl)
simple_kept p _ body w n = kept_same p w w n refl refl

unless_kept : (p : Pos) (f : World → World) (w : World) (m n : ℕ) → n ≤ m → Kept p w m (f w) n → Kept p w m (unless_fault f w) n
unless_kept p f w m n l r = go w.fault refl
  where
    go : (o : _) → w.fault ≡ o → Kept p w m (elim o [ Some e ↦ w | None ↦ f w ]) n
    go None e = r
    go (Some x) e = record { counts = λ h. absurd (cc); fine = λ h. h; at_most = omega (arith, l) }

all_simple_kept : (p : Pos) (ss : List KNode) (body : Body) (w : World) (n : ℕ) → Kept p w n (all_simple ss body w) n
all_simple_kept p [] body w n = kept_same p w w n refl refl
all_simple_kept p (s ∷ ss) body w n =
    kept_then p w (unless_fault (simple s.stmt body) w) _ n n n (unless_kept p (simple s.stmt body) w n n (omega arith) (simple_kept p s.stmt body w n))
    (all_simple_kept p ss body (unless_fault (simple s.stmt body) w) n)

pub finalized_kept : (p : Pos) (ss : List KNode) (body : Body) (w : World) (c : ℕ) → Kept p w (among p ss + c) (finalized ss body w) c
finalized_kept p [] body w c = kept_equal p w w c c (0 + c) c (omega arith) refl (kept_same p w w c refl refl)
finalized_kept p (s ∷ ss) body w c =
    kept_then p w (unless_fault (runs_one s body) w) _ (once p s.pos + among p ss + c) (among p ss + c) c
    (unless_kept p (runs_one s body) w _ _ (omega arith)
    (kept_then p w (marked (Ran s.pos) w) _ _ (among p ss + c) _ (kept_mark p (Ran s.pos) w _ _ (omega arith)) (all_simple_kept p (finalizer_list s.stmt) body (marked (Ran s.pos) w) _)))
    (finalized_kept p ss body _ c)

none_kept : (p : Pos) (w : World) (c : ℕ) → Kept p w (0 + c) w c
none_kept p w c = kept_equal p w w c c (0 + c) c (omega arith) refl (kept_same p w w c refl refl)

mutual
  unfolding aborted standing

  pub aborted_kept : (r : Residual) (p : Pos) (body : Body) (w : World) (c : ℕ) → Kept p w (standing p r + c) (aborted r body w) c
  aborted_kept (Block b fin all r rest) p body w c =
      kept_quiet p w _ _ _ c (kept_equal p w _ (standing p r + (standing_instances p all + (among p fin + c))) c _ c (omega arith) refl
      (kept_then p w (instances_aborted all (aborted r body w)) _ _ (among p fin + c) c
      (kept_then p w (aborted r body w) _ _ (standing_instances p all + (among p fin + c)) _ (aborted_kept r p body w _) (instances_kept all p _ _))
      (finalized_kept p fin body _ c)))
      (forget_declared_quiet body (out-KBlock b).decls _)
  aborted_kept (Open s r) p body w c = aborted_kept r p body w c
  aborted_kept (Loop s n r) p body w c = kept_quiet p w _ _ _ c (aborted_kept r p body w c) (forget_loop_quiet body s.stmt _)
  aborted_kept (Call s r) p body w c = kept_quiet p w _ _ _ c (aborted_kept r p (Awaited body s.node) w c) (record { marks = refl; fault = refl })
  aborted_kept (Par s bs) p body w c = branches_kept bs p body w c
  aborted_kept (InAsync s b r) p body w c = aborted_kept r p body w c
  aborted_kept Over p body w c = none_kept p w c
  aborted_kept (Run n a) p body w c = none_kept p w c
  aborted_kept (WaitInput k s) p body w c = none_kept p w c
  aborted_kept (WaitTime d s) p body w c = none_kept p w c
  aborted_kept (WaitEvent e s) p body w c = none_kept p w c
  aborted_kept (WaitForever s) p body w c = none_kept p w c

  pub branches_kept : (bs : Branches) (p : Pos) (body : Body) (w : World) (c : ℕ) → Kept p w (standing_branches p bs + c) (branches_aborted bs body w) c
  branches_kept no_branch p body w c = none_kept p w c
  branches_kept (branch r more) p body w c =
      kept_equal p w _ (standing_branches p more + (standing p r + c)) c _ _ (omega arith) refl
      (kept_then p w (branches_aborted more body w) _ _ (standing p r + c) c (branches_kept more p body w (standing p r + c)) (aborted_kept r p body _ c))

  pub instances_kept : (all : Instances) (p : Pos) (w : World) (c : ℕ) → Kept p w (standing_instances p all + c) (instances_aborted all w) c
  instances_kept no_instance p w c = none_kept p w c
  instances_kept (instance seat r more) p w c =
      kept_equal p w _ (standing_instances p more + (standing p r + c)) c _ _ (omega arith) refl
      (kept_then p w (instances_aborted more w) _ _ (standing p r + c) c (instances_kept more p w (standing p r + c))
      (kept_quiet p _ _ _ _ c (aborted_kept r p (InstanceBody seat.number) _ c) (record { marks = refl; fault = refl })))

pub closed_kept : (p : Pos) (b : KBlock) (fin : List KNode) (all : Instances) (body : Body) (w : World) → Kept p w (among p fin + standing_instances p all) (closed b fin all body w) 0
closed_kept p b fin all body w =
    kept_quiet p w _ _ _ 0 (kept_equal p w _ (standing_instances p all + (among p fin + 0)) 0 _ 0 (omega arith) refl
    (kept_then p w (instances_aborted all w) _ _ (among p fin + 0) 0 (instances_kept all p w _) (finalized_kept p fin body _ 0)))
    (forget_declared_quiet body (out-KBlock b).decls _)
