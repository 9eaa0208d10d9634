-- What is aborted adds no mark of a turn that begins or of a level that opens.
use Rattle.std.proofs.Common.{◌≡◌, refl, ap, ◌∙◌, ◌+◌, ℤ, List, [], ◌∷◌, ◌++◌, Option, Some, None, Ok, Err, arith}
use Rattle.ceu_base.specs.declared.kinds.Pos.{Pos}
use Rattle.ceu_base.specs.declared.kinds.Fault.{Fault}
use Rattle.ceu_base.specs.declared.kinds.Mark.{Mark}
use Rattle.ceu_base.specs.declared.kinds.Mark.TheVariants.{Output, Resume, Push, Ran}
use Rattle.ceu_tree.specs.declared.kernel.KNode.{KNode}
use Rattle.ceu_tree.specs.declared.kernel.KBlock.{KBlock, out-KBlock}
use Rattle.ceu_tree.specs.declared.kernel.KStmt as kernel
use Rattle.ceu_tree.specs.declared.kernel.KStmt.{KStmt}
use Rattle.ceu_tree.specs.Residual as residual
use Rattle.ceu_tree.specs.Residual.{Body, Residual, Over, Run, WaitInput, WaitTime, WaitEvent, WaitForever, InAsync, Block, Open, Loop, Call, Par, Branches, no_branch, branch, Instances, no_instance, instance}
use Rattle.ceu_tree.specs.World.{World, marked}
use Rattle.ceu_tree.specs.Expressions.{Answer, value_of, value_if}
use Rattle.ceu_tree.specs.Abort.{or_fault, simple, unless_fault, all_simple, finalizer_list, runs_one, finalized, aborted, branches_aborted, instances_aborted, closed}
use Rattle.ceu_endings.specs.Laws.{resumes}
use Rattle.ceu_endings.proofs.Marks.{forget_marks, loop_marks, aborted_same, closed_same}
use Rattle.laws_bounds_turns.specs.Marked.{pushes}

-- ---- the marks of lists

pub resumes_append : (ms ns : List Mark) → resumes (ms ++ ns) ≡ resumes ms + resumes ns
resumes_append [] ns = omega arith
resumes_append (Resume n ∷ ms) ns = let i = resumes_append ms ns in omega (arith, i)
resumes_append (m ∷ ms) ns = resumes_append ms ns

pub pushes_append : (ms ns : List Mark) → pushes (ms ++ ns) ≡ pushes ms + pushes ns
pushes_append [] ns = omega arith
pushes_append (Push n ∷ ms) ns = let i = pushes_append ms ns in omega (arith, i)
pushes_append (m ∷ ms) ns = pushes_append ms ns

-- ---- the same turns and levels

pub record Silent (w u : World) : Type 0 where
  pub turns : resumes u.marks ≡ resumes w.marks
  pub levels : pushes u.marks ≡ pushes w.marks

pub silent : (w : World) → Silent w w
silent w = record { turns = refl; levels = refl }

pub onward : (w u v : World) → Silent w u → Silent u v → Silent w v
onward w u v a b = record { turns = b.turns ∙ a.turns; levels = b.levels ∙ a.levels }

pub same_marks : (w u : World) → u.marks ≡ w.marks → Silent w u
same_marks w u e = record { turns = ap resumes e; levels = ap pushes e }

pub mark_silent : (m : Mark) (w : World) → resumes (m ∷ []) ≡ 0 → pushes (m ∷ []) ≡ 0 → Silent w (marked m w)
mark_silent m w h k = record { turns = (let i = resumes_append w.marks (m ∷ []) in omega (arith, i, h)); levels = (let i = pushes_append w.marks (m ∷ []) in omega (arith, i, k)) }

-- ---- finalizers and what is aborted

abbrev Levels : World → World → Type 0
Levels w u = pushes u.marks ≡ pushes w.marks

or_fault_levels : (a : Answer) (w : World) (go : ℤ → World) → ((v : ℤ) → Levels w (go v)) → Levels w (or_fault a w go)
or_fault_levels (Ok v) w go h = h v
or_fault_levels (Err e) w go h = refl

simple_levels : (st : KStmt) (body : Body) (w : World) → Levels w (simple st body w)
simple_levels (kernel.Assign l e) body w = or_fault_levels (value_of e body w) w _ (λ v. refl)
simple_levels (kernel.Out k e) body w = or_fault_levels (value_if e body w) w _ (λ v. (mark_silent (Output k v) w refl refl).levels)
simple_levels st body w = refl

unless_levels : (f : World → World) (w : World) → Levels w (f w) → Levels w (unless_fault f w)
unless_levels f w h = go w.fault
  where
    go : (o : Option (Fault × Pos)) → Levels w (elim o [ Some e ↦ w | None ↦ f w ])
    go None = h
    go (Some e) = refl

all_levels : (ss : List KNode) (body : Body) (w : World) → Levels w (all_simple ss body w)
all_levels [] body w = refl
all_levels (s ∷ ss) body w = all_levels ss body (unless_fault (simple s.stmt body) w) ∙ unless_levels (simple s.stmt body) w (simple_levels s.stmt body w)

runs_levels : (s : KNode) (body : Body) (w : World) → Levels w (runs_one s body w)
runs_levels s body w = all_levels (finalizer_list s.stmt) body (marked (Ran s.pos) w) ∙ (mark_silent (Ran s.pos) w refl refl).levels

finalized_levels : (fin : List KNode) (body : Body) (w : World) → Levels w (finalized fin body w)
finalized_levels [] body w = refl
finalized_levels (s ∷ ss) body w = finalized_levels ss body (unless_fault (runs_one s body) w) ∙ unless_levels (runs_one s body) w (runs_levels s body w)

mutual
  unfolding aborted

  aborted_levels : (r : Residual) (body : Body) (w : World) → Levels w (aborted r body w)
  aborted_levels (Block b fin all r rest) body w =
      let v = aborted r body w in
      let u = instances_aborted all v in
      ap pushes (forget_marks body (out-KBlock b).decls (finalized fin body u)) ∙ (finalized_levels fin body u ∙ (instances_levels all v ∙ aborted_levels r body w))
  aborted_levels (Open s r) body w = aborted_levels r body w
  aborted_levels (Loop s c r) body w = ap pushes (loop_marks body s.stmt (aborted r body w)) ∙ aborted_levels r body w
  aborted_levels (Call s r) body w = aborted_levels r (residual.Awaited body s.node) w
  aborted_levels (Par s bs) body w = branches_levels bs body w
  aborted_levels (InAsync s served r) body w = aborted_levels r body w
  aborted_levels Over body w = refl
  aborted_levels (Run n a) body w = refl
  aborted_levels (WaitInput k s) body w = refl
  aborted_levels (WaitTime d s) body w = refl
  aborted_levels (WaitEvent e s) body w = refl
  aborted_levels (WaitForever s) body w = refl

  branches_levels : (bs : Branches) (body : Body) (w : World) → Levels w (branches_aborted bs body w)
  branches_levels no_branch body w = refl
  branches_levels (branch r more) body w = aborted_levels r body (branches_aborted more body w) ∙ branches_levels more body w

  instances_levels : (all : Instances) (w : World) → Levels w (instances_aborted all w)
  instances_levels no_instance w = refl
  instances_levels (instance seat r more) w = aborted_levels r (residual.Spawned seat.number) (instances_aborted more w) ∙ instances_levels more w

pub aborted_silent : (r : Residual) (body : Body) (w : World) → Silent w (aborted r body w)
aborted_silent r body w = record { turns = (aborted_same r body w).turns_same; levels = aborted_levels r body w }

pub closed_silent : (b : KBlock) (fin : List KNode) (all : Instances) (body : Body) (w : World) → Silent w (closed b fin all body w)
closed_silent b fin all body w =
    let u = instances_aborted all w in
    record { turns = (closed_same b fin all body w).turns_same; levels = ap pushes (forget_marks body (out-KBlock b).decls (finalized fin body u)) ∙ (finalized_levels fin body u ∙ instances_levels all w) }
