-- How often a number is one of the instances of a part, and what an abortion leaves of the numbers that live.
use Rattle.std.proofs.Common.{◌≡◌, refl, ap, ◌∙◌, ◌≤◌, ℕ, ◌+◌, ℤ, Bool, true, false, if◌then◌else◌, ◌==◌, List, [], ◌∷◌, Option, Some, None, Ok, Err, arith, eqb-true}
use Rattle.ceu_base.specs.declared.kinds.Pos.{Pos}
use Rattle.ceu_base.specs.declared.kinds.Fault.{Fault}
use Rattle.ceu_base.specs.declared.kinds.Mark.TheVariants.{Output, Ran}
use Rattle.ceu_tree.specs.declared.kernel.KDecl.{KDecl}
use Rattle.ceu_tree.specs.declared.kernel.KNode.{KNode}
use Rattle.ceu_tree.specs.declared.kernel.KBlock.{KBlock, out-KBlock}
use Rattle.ceu_tree.specs.declared.kernel.KLoop.{KLoop}
use Rattle.ceu_tree.specs.declared.kernel.KLoop.TheVariants as turns
use Rattle.ceu_tree.specs.declared.kernel.KStmt as kernel
use Rattle.ceu_tree.specs.declared.kernel.KStmt.{KStmt, Assign, Out}
use Rattle.ceu_tree.specs.Residual.{Body, Awaited, Spawned, Residual, Over, Run, WaitInput, WaitTime, WaitEvent, WaitForever, InAsync, Block, Open, Loop, Call, Par, Branches, no_branch, branch, Instances, no_instance, instance}
use Rattle.ceu_tree.specs.Expressions.{Answer, value_of, value_if}
use Rattle.ceu_tree.specs.World.{World, marked, assign, forget, forget_declared, without, dead}
use Rattle.ceu_tree.specs.Abort.{or_fault, simple, unless_fault, all_simple, finalizer_list, runs_one, finalized, forget_turns, forget_loop, aborted, branches_aborted, instances_aborted, closed}

abbrev pub once : ℕ → ℕ → ℕ
once n m = if n == m then 1 else 0

abbrev pub often : ℕ → List ℕ → ℕ
often n [] = 0
often n (m ∷ ms) = once n m + often n ms

unfoldable mutual
  pub lives : ℕ → Residual → ℕ
  lives n (Block b fin all r rest) = live_instances n all + lives n r
  lives n (Open s r) = lives n r
  lives n (Loop s c r) = lives n r
  lives n (Call s r) = lives n r
  lives n (Par s bs) = live_branches n bs
  lives n (InAsync s served r) = lives n r
  lives n r = 0

  pub live_branches : ℕ → Branches → ℕ
  live_branches n no_branch = 0
  live_branches n (branch r more) = lives n r + live_branches n more

  pub live_instances : ℕ → Instances → ℕ
  live_instances n no_instance = 0
  live_instances n (instance seat r more) = once n seat.number + (lives n r + live_instances n more)

-- from one world to another, in which n is m and k times an instance of a part, and else as often as before
pub record Kept (n : ℕ) (w : World) (m : ℕ) (u : World) (k : ℕ) : Type 0 where
  pub counts : (c : ℕ) → often n w.living ≡ m + c → often n u.living ≡ k + c
  pub fewer : often n u.living ≤ often n w.living
  pub given : u.given ≡ w.given

-- neither those that live change nor how many were given
pub record Quiet (w u : World) : Type 0 where
  pub living : u.living ≡ w.living
  pub given : u.given ≡ w.given

pub quiet : (w : World) → Quiet w w
quiet w = record { living = refl; given = refl }

pub quiet_then : (w u v : World) → Quiet w u → Quiet u v → Quiet w v
quiet_then w u v a b = record { living = b.living ∙ a.living; given = b.given ∙ a.given }

pub kept_same : (n : ℕ) (w u : World) (m : ℕ) → Quiet w u → Kept n w m u m
kept_same n w u m q = let e = ap (often n) q.living in record { counts = λ c h. omega (arith, e, h); fewer = omega (arith, e); given = q.given }

pub kept_then : (n : ℕ) (w u v : World) (j m k : ℕ) → Kept n w j u m → Kept n u m v k → Kept n w j v k
kept_then n w u v j m k a b = record { counts = λ c h. b.counts c (a.counts c h); fewer = (let e = a.fewer in let f = b.fewer in omega (arith, e, f)); given = b.given ∙ a.given }

pub kept_beside : (n : ℕ) (w u : World) (m k c : ℕ) → Kept n w m u k → Kept n w (m + c) u (k + c)
kept_beside n w u m k c a = record { counts = λ d h. (let e = a.counts (c + d) (omega (arith, h)) in omega (arith, e)); fewer = a.fewer; given = a.given }

pub kept_equal : (n : ℕ) (w u : World) (m k j l : ℕ) → m ≡ j → k ≡ l → Kept n w m u k → Kept n w j u l
kept_equal n w u m k j l e f a = record { counts = λ d h. (let g = a.counts d (omega (arith, h, e)) in omega (arith, g, f)); fewer = a.fewer; given = a.given }

pub kept_quiet : (n : ℕ) (w u v : World) (m k : ℕ) → Kept n w m u k → Quiet u v → Kept n w m v k
kept_quiet n w u v m k a q = kept_then n w u v m k k a (kept_same n u v k q)

-- ---- an instance that ends

pub once_true : (n m : ℕ) → (n == m) ≡ true → once n m ≡ 1
once_true n m e = ap (λ b. if b then 1 else 0) e

pub once_false : (n m : ℕ) → (n == m) ≡ false → once n m ≡ 0
once_false n m e = ap (λ b. if b then 1 else 0) e

without_often : (n m : ℕ) (ms : List ℕ) (c : ℕ) → often n ms ≡ once n m + c → often n (without m ms) ≡ c
without_often n m [] c h = omega (arith, h)
without_often n m (x ∷ xs) c h = go (m == x) refl (without_often n m xs)
  where
    go : (b : Bool) → (m == x) ≡ b → ((d : ℕ) → often n xs ≡ once n m + d → often n (without m xs) ≡ d) → often n (if b then xs else x ∷ without m xs) ≡ c
    go true e ih = let f = ap (once n) (eqb-true m x e) in omega (arith, f, h)
    go false e ih = inner (n == m) refl
      where
        inner : (b : Bool) → (n == m) ≡ b → once n x + often n (without m xs) ≡ c
        inner true q = let a = once_false n x (ap (λ j. j == x) (eqb-true n m q) ∙ e) in let k = ih c (omega (arith, h, a)) in omega (arith, a, k)
        inner false q = let a = once_false n m q in let k = ih (often n xs) (omega (arith, a)) in omega (arith, a, k, h)

without_fewer : (n m : ℕ) (ms : List ℕ) → often n (without m ms) ≤ often n ms
without_fewer n m [] = omega arith
without_fewer n m (x ∷ xs) = go (m == x) (without_fewer n m xs)
  where
    go : (b : Bool) → often n (without m xs) ≤ often n xs → often n (if b then xs else x ∷ without m xs) ≤ once n x + often n xs
    go true h = omega arith
    go false h = omega (arith, h)

pub dead_kept : (n m : ℕ) (w : World) → Kept n w (once n m) (dead m w) 0
dead_kept n m w = record { counts = λ c h. (let e = without_often n m w.living c h in omega (arith, e)); fewer = without_fewer n m w.living; given = refl }

-- ---- what only values know of

pub forget_declared_quiet : (body : Body) (ds : List KDecl) (w : World) → Quiet w (forget_declared body ds w)
forget_declared_quiet body [] w = quiet w
forget_declared_quiet body (d ∷ ds) w = let a = forget_declared_quiet body ds (forget body d.slot w) in record { living = a.living; given = a.given }

forget_turns_quiet : (body : Body) (k : KLoop) (w : World) → Quiet w (forget_turns body k w)
forget_turns_quiet body (turns.Range i next end open_a a b open_b) w = record { living = refl; given = refl }
forget_turns_quiet body turns.Free w = quiet w
forget_turns_quiet body (turns.Times slot n) w = quiet w

pub forget_loop_quiet : (body : Body) (s : KStmt) (w : World) → Quiet w (forget_loop body s w)
forget_loop_quiet body (kernel.Loop kind b) w = forget_turns_quiet body kind w
forget_loop_quiet body _ w = quiet w

or_fault_quiet : (a : Answer) (w : World) (go : ℤ → World) → ((v : ℤ) → Quiet w (go v)) → Quiet w (or_fault a w go)
or_fault_quiet (Ok v) w go h = h v
or_fault_quiet (Err e) w go h = record { living = refl; given = refl }

simple_quiet : (s : KStmt) (body : Body) (w : World) → Quiet w (simple s body w)
simple_quiet (Assign l e) body w = or_fault_quiet (value_of e body w) w (λ v. assign body l v w) (λ v. record { living = refl; given = refl })
simple_quiet (Out k e) body w = or_fault_quiet (value_if e body w) w (λ v. marked (Output k v) w) (λ v. record { living = refl; given = refl })
simple_quiet _ body w = quiet w

unless_quiet : (f : World → World) (w : World) → Quiet w (f w) → Quiet w (unless_fault f w)
unless_quiet f w h = go w.fault
  where
    go : (o : Option (Fault × Pos)) → Quiet w (elim o [ Some e ↦ w | None ↦ f w ])
    go None = h
    go (Some e) = quiet w

all_simple_quiet : (ss : List KNode) (body : Body) (w : World) → Quiet w (all_simple ss body w)
all_simple_quiet [] body w = quiet w
all_simple_quiet (s ∷ ss) body w =
    quiet_then w (unless_fault (simple s.stmt body) w) _ (unless_quiet (simple s.stmt body) w (simple_quiet s.stmt body w)) (all_simple_quiet ss body (unless_fault (simple s.stmt body) w))

runs_quiet : (s : KNode) (body : Body) (w : World) → Quiet w (runs_one s body w)
runs_quiet s body w = let a = all_simple_quiet (finalizer_list s.stmt) body (marked (Ran s.pos) w) in record { living = a.living; given = a.given }

finalized_quiet : (ss : List KNode) (body : Body) (w : World) → Quiet w (finalized ss body w)
finalized_quiet [] body w = quiet w
finalized_quiet (s ∷ ss) body w =
    quiet_then w (unless_fault (runs_one s body) w) _ (unless_quiet (runs_one s body) w (runs_quiet s body w)) (finalized_quiet ss body (unless_fault (runs_one s body) w))

-- ---- an abortion

none_kept : (n : ℕ) (w : World) (c : ℕ) → Kept n w (0 + c) w c
none_kept n w c = kept_equal n w w c c (0 + c) c (omega arith) refl (kept_same n w w c (quiet w))

mutual
  unfolding aborted lives

  pub aborted_kept : (r : Residual) (n : ℕ) (body : Body) (w : World) (c : ℕ) → Kept n w (lives n r + c) (aborted r body w) c
  aborted_kept (Block b fin all r rest) n body w c =
      kept_quiet n w (instances_aborted all (aborted r body w)) _ _ c
      (kept_equal n w _ (lives n r + (live_instances n all + c)) c _ c (omega arith) refl
      (kept_then n w (aborted r body w) _ _ (live_instances n all + c) c (aborted_kept r n body w _) (instances_kept all n _ c)))
      (quiet_then _ (finalized fin body (instances_aborted all (aborted r body w))) _ (finalized_quiet fin body _) (forget_declared_quiet body (out-KBlock b).decls _))
  aborted_kept (Open s r) n body w c = aborted_kept r n body w c
  aborted_kept (Loop s k r) n body w c = kept_quiet n w _ _ _ c (aborted_kept r n body w c) (forget_loop_quiet body s.stmt _)
  aborted_kept (Call s r) n body w c = kept_quiet n w _ _ _ c (aborted_kept r n (Awaited body s.node) w c) (record { living = refl; given = refl })
  aborted_kept (Par s bs) n body w c = branches_kept bs n body w c
  aborted_kept (InAsync s b r) n body w c = aborted_kept r n body w c
  aborted_kept Over n body w c = none_kept n w c
  aborted_kept (Run k a) n body w c = none_kept n w c
  aborted_kept (WaitInput k s) n body w c = none_kept n w c
  aborted_kept (WaitTime d s) n body w c = none_kept n w c
  aborted_kept (WaitEvent e s) n body w c = none_kept n w c
  aborted_kept (WaitForever s) n body w c = none_kept n w c

  pub branches_kept : (bs : Branches) (n : ℕ) (body : Body) (w : World) (c : ℕ) → Kept n w (live_branches n bs + c) (branches_aborted bs body w) c
  branches_kept no_branch n body w c = none_kept n w c
  branches_kept (branch r more) n body w c =
      kept_equal n w _ (live_branches n more + (lives n r + c)) c _ _ (omega arith) refl
      (kept_then n w (branches_aborted more body w) _ _ (lives n r + c) c (branches_kept more n body w (lives n r + c)) (aborted_kept r n body _ c))

  pub instances_kept : (all : Instances) (n : ℕ) (w : World) (c : ℕ) → Kept n w (live_instances n all + c) (instances_aborted all w) c
  instances_kept no_instance n w c = none_kept n w c
  instances_kept (instance seat r more) n w c =
      kept_equal n w _ (live_instances n more + (lives n r + (once n seat.number + c))) c _ _ (omega arith) refl
      (kept_then n w (instances_aborted more w) _ _ (lives n r + (once n seat.number + c)) c (instances_kept more n w _)
      (kept_then n _ (aborted r (Spawned seat.number) (instances_aborted more w)) _ _ (once n seat.number + c) c (aborted_kept r n (Spawned seat.number) _ _)
      (kept_equal n _ _ (once n seat.number + c) (0 + c) _ _ refl (omega arith) (kept_beside n _ _ (once n seat.number) 0 c (dead_kept n seat.number _)))))

pub closed_kept : (n : ℕ) (b : KBlock) (fin : List KNode) (all : Instances) (body : Body) (w : World) → Kept n w (live_instances n all) (closed b fin all body w) 0
closed_kept n b fin all body w =
    kept_quiet n w (instances_aborted all w) _ _ 0 (kept_equal n w _ (live_instances n all + 0) 0 _ 0 (omega arith) refl (instances_kept all n w 0))
    (quiet_then _ (finalized fin body (instances_aborted all w)) _ (finalized_quiet fin body _) (forget_declared_quiet body (out-KBlock b).decls _))
