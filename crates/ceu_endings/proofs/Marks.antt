-- Turns of one trail add no mark of a turn that begins or of a level that opens or closes.
use Rattle.std.proofs.Common.{◌≡◌, refl, ap, ◌∙◌, ◌+◌, ℤ, List, [], ◌∷◌, ◌++◌, Option, Some, None, Ok, Err}
use Rattle.ceu_base.specs.declared.kinds.Pos.{Pos}
use Rattle.ceu_base.specs.declared.kinds.Fault.{Fault}
use Rattle.ceu_base.specs.declared.kinds.Mark.{Mark}
use Rattle.ceu_base.specs.declared.kinds.Mark.TheVariants.{Output, Resume, Push, Pop, Registered, Ran, Spawned, Full}
use Rattle.ceu_tree.specs.declared.kernel.KLoop.{KLoop}
use Rattle.ceu_tree.specs.declared.kernel.KLoop.TheVariants as turns
use Rattle.ceu_tree.specs.declared.kernel.KDecl.{KDecl}
use Rattle.ceu_tree.specs.declared.kernel.Loc.{Loc}
use Rattle.ceu_tree.specs.declared.kernel.KNode.{KNode}
use Rattle.ceu_tree.specs.declared.kernel.KBlock.{KBlock, out-KBlock}
use Rattle.ceu_tree.specs.declared.kernel.KStmt as kernel
use Rattle.ceu_tree.specs.declared.kernel.KStmt.{KStmt}
use Rattle.ceu_tree.specs.Residual as residual
use Rattle.ceu_tree.specs.Residual.{Body, Residual, Over, Run, WaitInput, WaitTime, WaitEvent, WaitForever, InAsync, Block, Open, Loop, Call, Par, Branches, no_branch, branch, Instances, no_instance, instance}
use Rattle.ceu_tree.specs.World.{World, marked, assign_if, forget_declared, dead}
use Rattle.ceu_tree.specs.Expressions.{Answer, value_of, value_if}
use Rattle.ceu_tree.specs.Abort.{or_fault, simple, unless_fault, all_simple, finalizer_list, runs_one, finalized, forget_turns, forget_loop, aborted, branches_aborted, instances_aborted, closed}
use Rattle.ceu_endings.specs.Laws.{resumes, level_changes}

-- the same turns and levels
pub record Same (w u : World) : Type 0 where
  pub turns_same : resumes u.marks ≡ resumes w.marks
  pub levels_same : level_changes u.marks ≡ level_changes w.marks

pub unchanged : (w u : World) → u.marks ≡ w.marks → Same w u
unchanged w u e = record { turns_same = ap resumes e; levels_same = ap level_changes e }

pub same : (w : World) → Same w w
same w = record { turns_same = refl; levels_same = refl }

pub after : (v w u : World) → Same v w → Same w u → Same v u
after v w u a b = record { turns_same = b.turns_same ∙ a.turns_same; levels_same = b.levels_same ∙ a.levels_same }

abbrev Apart : Mark → Type 0
Apart (Resume n) = ⊥
Apart (Push n) = ⊥
Apart (Pop n) = ⊥
Apart m = Unit {0}

resumes_apart : (ms : List Mark) (m : Mark) → Apart m → resumes (ms ++ m ∷ []) ≡ resumes ms
resumes_apart [] (Output k v) h = refl
resumes_apart [] (Registered p) h = refl
resumes_apart [] (Ran p) h = refl
resumes_apart [] (Spawned n) h = refl
resumes_apart [] Full h = refl
resumes_apart [] (Resume n) h = absurd h
resumes_apart [] (Push n) h = absurd h
resumes_apart [] (Pop n) h = absurd h
resumes_apart (Resume n ∷ ms) m h = ap (λ i. 1 + i) (resumes_apart ms m h)
resumes_apart (x ∷ ms) m h = resumes_apart ms m h

levels_apart : (ms : List Mark) (m : Mark) → Apart m → level_changes (ms ++ m ∷ []) ≡ level_changes ms
levels_apart [] (Output k v) h = refl
levels_apart [] (Registered p) h = refl
levels_apart [] (Ran p) h = refl
levels_apart [] (Spawned n) h = refl
levels_apart [] Full h = refl
levels_apart [] (Resume n) h = absurd h
levels_apart [] (Push n) h = absurd h
levels_apart [] (Pop n) h = absurd h
levels_apart (Push n ∷ ms) m h = ap (λ i. 1 + i) (levels_apart ms m h)
levels_apart (Pop n ∷ ms) m h = ap (λ i. 1 + i) (levels_apart ms m h)
levels_apart (x ∷ ms) m h = levels_apart ms m h

pub mark_same : (m : Mark) (w : World) → Apart m → Same w (marked m w)
mark_same m w h = record { turns_same = resumes_apart w.marks m h; levels_same = levels_apart w.marks m h }

-- ---- finalizers and what is aborted

pub forget_marks : (body : Body) (ds : List KDecl) (w : World) → (forget_declared body ds w).marks ≡ w.marks
forget_marks body [] w = refl
forget_marks body (d ∷ ds) w = forget_marks body ds _

or_fault_same : (a : Answer) (w : World) (go : ℤ → World) → ((v : ℤ) → Same w (go v)) → Same w (or_fault a w go)
or_fault_same (Ok v) w go h = h v
or_fault_same (Err e) w go h = unchanged w _ refl

simple_same : (st : KStmt) (body : Body) (w : World) → Same w (simple st body w)
simple_same (kernel.Assign l e) body w = or_fault_same (value_of e body w) w _ (λ v. unchanged w _ refl)
simple_same (kernel.Out k e) body w = or_fault_same (value_if e body w) w _ (λ v. mark_same (Output k v) w tt)
simple_same st body w = same w

unless_same : (f : World → World) (w : World) → ((u : World) → Same u (f u)) → Same w (unless_fault f w)
unless_same f w h = go w.fault
  where
    go : (o : Option (Fault × Pos)) → Same w (elim o [ Some e ↦ w | None ↦ f w ])
    go None = h w
    go (Some e) = same w

all_same : (ss : List KNode) (body : Body) (w : World) → Same w (all_simple ss body w)
all_same [] body w = same w
all_same (s ∷ ss) body w =
    let u = unless_fault (simple s.stmt body) w in after w u (all_simple ss body u) (unless_same (simple s.stmt body) w (λ v. simple_same s.stmt body v)) (all_same ss body u)

runs_same : (s : KNode) (body : Body) (w : World) → Same w (runs_one s body w)
runs_same s body w = let u = marked (Ran s.pos) w in after w u (runs_one s body w) (mark_same (Ran s.pos) w tt) (all_same (finalizer_list s.stmt) body u)

finalized_same : (fin : List KNode) (body : Body) (w : World) → Same w (finalized fin body w)
finalized_same [] body w = same w
finalized_same (s ∷ ss) body w = let u = unless_fault (runs_one s body) w in after w u (finalized ss body u) (unless_same (runs_one s body) w (λ v. runs_same s body v)) (finalized_same ss body u)

turns_marks : (body : Body) (k : KLoop) (w : World) → (forget_turns body k w).marks ≡ w.marks
turns_marks body turns.Free w = refl
turns_marks body (turns.Times slot n) w = refl
turns_marks body (turns.Range i next end open_a a b open_b) w = refl

pub loop_marks : (body : Body) (st : KStmt) (w : World) → (forget_loop body st w).marks ≡ w.marks
loop_marks body (kernel.Loop k b) w = turns_marks body k w
loop_marks body st w = refl

forget_same : (body : Body) (ds : List KDecl) (w u : World) → Same w u → Same w (forget_declared body ds u)
forget_same body ds w u h = after w u (forget_declared body ds u) h (unchanged u _ (forget_marks body ds u))

mutual
  unfolding aborted

  pub aborted_same : (r : Residual) (body : Body) (w : World) → Same w (aborted r body w)
  aborted_same (Block b fin all r rest) body w =
      let v = aborted r body w in
      let u = instances_aborted all v in
      forget_same body (out-KBlock b).decls w (finalized fin body u) (after w u (finalized fin body u) (after w v u (aborted_same r body w) (instances_same all v)) (finalized_same fin body u))
  aborted_same (Open s r) body w = aborted_same r body w
  aborted_same (Loop s c r) body w = let v = aborted r body w in after w v (forget_loop body s.stmt v) (aborted_same r body w) (unchanged v _ (loop_marks body s.stmt v))
  aborted_same (Call s r) body w = let v = aborted r (residual.Awaited body s.node) w in after w v (aborted (Call s r) body w) (aborted_same r (residual.Awaited body s.node) w) (unchanged v _ refl)
  aborted_same (Par s bs) body w = branches_same bs body w
  aborted_same (InAsync s served r) body w = aborted_same r body w
  aborted_same Over body w = same w
  aborted_same (Run n a) body w = same w
  aborted_same (WaitInput k s) body w = same w
  aborted_same (WaitTime d s) body w = same w
  aborted_same (WaitEvent e s) body w = same w
  aborted_same (WaitForever s) body w = same w

  branches_same : (bs : Branches) (body : Body) (w : World) → Same w (branches_aborted bs body w)
  branches_same no_branch body w = same w
  branches_same (branch r more) body w = let v = branches_aborted more body w in after w v (aborted r body v) (branches_same more body w) (aborted_same r body v)

  pub instances_same : (all : Instances) (w : World) → Same w (instances_aborted all w)
  instances_same no_instance w = same w
  instances_same (instance seat r more) w =
      let v = instances_aborted more w in
      let u = aborted r (residual.Spawned seat.number) v in
      after w u (dead seat.number u) (after w v u (instances_same more w) (aborted_same r (residual.Spawned seat.number) v)) (unchanged u _ refl)

pub closed_same : (b : KBlock) (fin : List KNode) (all : Instances) (body : Body) (w : World) → Same w (closed b fin all body w)
closed_same b fin all body w = let u = instances_aborted all w in forget_same body (out-KBlock b).decls w (finalized fin body u) (after w u (finalized fin body u) (instances_same all w) (finalized_same fin body u))

pub assign_marks : (body : Body) (l : Option Loc) (v : ℤ) (w : World) → (assign_if body l v w).marks ≡ w.marks
assign_marks body None v w = refl
assign_marks body (Some l) v w = refl
