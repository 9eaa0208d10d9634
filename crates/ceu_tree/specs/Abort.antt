-- Aborting a part: reverse lexical order and inner before outer; in a block the running part, then the instances of its pools from the last to the
-- first, then the registered finalizers, the last registered first; each registered finalizer runs once. (Céu 0.30 manual, chapter on statements:
-- finalization; the whole order is this project's own.) What is aborted has no value any more.
use Rattle.std.specs.Prelude.{ℤ, List, [], ◌∷◌, Some, None, Ok, Err}
use Rattle.ceu_base.specs.declared.kinds.Mark.TheVariants.{Output, Ran}
use Rattle.ceu_tree.specs.declared.kernel.KLoop.{KLoop}
use Rattle.ceu_tree.specs.declared.kernel.KLoop.TheVariants as turns
use Rattle.ceu_tree.specs.declared.kernel.KNode.{KNode}
use Rattle.ceu_tree.specs.declared.kernel.KBlock.{KBlock, out-KBlock}
use Rattle.ceu_tree.specs.declared.kernel.KStmt as kernel
use Rattle.ceu_tree.specs.declared.kernel.KStmt.{KStmt, Assign, Out, Finalize}
use Rattle.ceu_tree.specs.Residual.{Body, Awaited, Spawned, Residual, Over, Run, WaitInput, WaitTime, WaitEvent, WaitForever, InAsync, Block, Open, Loop, Call, Par, Branches, no_branch, branch, Instances, no_instance, instance}
use Rattle.ceu_tree.specs.World.{World, marked, assign, forget, forget_declared, forget_body, dead}
use Rattle.ceu_tree.specs.Expressions.{Answer, value_of, value_if}

-- goes on with a value, or notes the fault of a finalizer
abbrev pub or_fault : Answer → World → (ℤ → World) → World
or_fault (Ok v) w go = go v
or_fault (Err e) w go = record w { fault = Some e }

-- a statement of a finalizer, which assigns, emits an output or does nothing
abbrev pub simple : KStmt → Body → World → World
simple (Assign l e) body w = or_fault (value_of e body w) w (λ v. assign body l v w)
simple (Out k e) body w = or_fault (value_if e body w) w (λ v. marked (Output k v) w)
simple _ body w = w

-- nothing more is done once a finalizer has failed
abbrev pub unless_fault : (World → World) → World → World
unless_fault f w = elim w.fault [ Some e ↦ w | None ↦ f w ]

abbrev pub all_simple : List KNode → Body → World → World
all_simple [] body w = w
all_simple (s ∷ ss) body w = all_simple ss body (unless_fault (simple s.stmt body) w)

abbrev pub finalizer_list : KStmt → List KNode
finalizer_list (Finalize b) = (out-KBlock b).list
finalizer_list _ = []

abbrev pub runs_one : KNode → Body → World → World
runs_one s body w = all_simple (finalizer_list s.stmt) body (marked (Ran s.pos) w)

-- registered finalizers, the last registered first
abbrev pub finalized : List KNode → Body → World → World
finalized [] body w = w
finalized (s ∷ ss) body w = finalized ss body (unless_fault (runs_one s body) w)

-- a loop's own variable
abbrev pub forget_turns : Body → KLoop → World → World
forget_turns body (turns.Range i next end open_a a b open_b) w = forget body i w
forget_turns body _ w = w

abbrev pub forget_loop : Body → KStmt → World → World
forget_loop body (kernel.Loop kind b) w = forget_turns body kind w
forget_loop body _ w = w

-- an awaited body that is left
abbrev pub returned : Body → KNode → World → World
returned body s w = forget_body (Awaited body s.node) w

unfoldable mutual
  pub aborted : Residual → Body → World → World
  aborted (Block b fin all r rest) body w = forget_declared body (out-KBlock b).decls (finalized fin body (instances_aborted all (aborted r body w)))
  aborted (Open s r) body w = aborted r body w
  aborted (Loop s c r) body w = forget_loop body s.stmt (aborted r body w)
  aborted (Call s r) body w = returned body s (aborted r (Awaited body s.node) w)
  aborted (Par s bs) body w = branches_aborted bs body w
  aborted (InAsync s served r) body w = aborted r body w
  aborted Over body w = w
  aborted (Run n a) body w = w
  aborted (WaitInput k s) body w = w
  aborted (WaitTime d s) body w = w
  aborted (WaitEvent e s) body w = w
  aborted (WaitForever s) body w = w

  -- from the last to the first
  pub branches_aborted : Branches → Body → World → World
  branches_aborted no_branch body w = w
  branches_aborted (branch r more) body w = aborted r body (branches_aborted more body w)

  -- from the last to the first; an aborted instance lives no longer
  pub instances_aborted : Instances → World → World
  instances_aborted no_instance w = w
  instances_aborted (instance seat r more) w = dead seat.number (aborted r (Spawned seat.number) (instances_aborted more w))

-- a block that ends, or that is left with its running part aborted already
abbrev pub closed : KBlock → List KNode → Instances → Body → World → World
closed b fin all body w = forget_declared body (out-KBlock b).decls (finalized fin body (instances_aborted all w))
