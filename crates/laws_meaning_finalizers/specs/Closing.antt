-- What the finalizers read that run where a block ends, where a part is aborted, in a step and after a fault: each variable that the expressions of their
-- statements name, of the own body or by `outer` one of the program's, has a value where the statement runs (this project's own).
use Rattle.std.specs.Prelude.{◌≡◌, ℕ, zero, suc, Bool, true, false, ◌==◌, ◌&&◌, List, [], ◌∷◌, Option, Some, None}
use Rattle.ceu_base.specs.declared.kinds.Mark.TheVariants as mark
use Rattle.ceu_tree.specs.declared.kernel.Kernel.{Kernel}
use Rattle.ceu_tree.specs.declared.kernel.ParKind.{ParKind}
use Rattle.ceu_tree.specs.declared.kernel.ParKind.TheVariants as par
use Rattle.ceu_tree.specs.declared.kernel.KExp.{KExp}
use Rattle.ceu_tree.specs.declared.kernel.KExpNode as exp
use Rattle.ceu_tree.specs.declared.kernel.KExpNode.{KExpNode, Row_of-KExp, end_of-KExp, more_of-KExp, One', Two', As'}
use Rattle.ceu_tree.specs.declared.kernel.KNode.{KNode}
use Rattle.ceu_tree.specs.declared.kernel.KBlock.{out-KBlock}
use Rattle.ceu_tree.specs.declared.kernel.KStmt.{KStmt, Assign, Out, out-KStmt}
use Rattle.ceu_tree.specs.Residual.{Body, Awaited, Spawned, Act, Residual, Over, Program, InAsync, Block, Open, Loop, Call, Par, Branches, no_branch, branch, Instances, no_instance, instance}
use Rattle.ceu_tree.specs.Focus.{Frame, OfBlock, OfOpen, OfLoop, OfPar, Focus, Here, In, join, plug, leaf, body_in, body_of, choose}
use Rattle.ceu_tree.specs.World.{World, NotSet, marked, place_of, set_alias}
use Rattle.ceu_tree.specs.Abort.{simple, unless_fault, finalizer_list, runs_one, aborted, branches_aborted, instances_aborted}
use Rattle.ceu_tree.specs.Wake.{each_leaf, runs_at, Unserved, unserved, new_round}
use Rattle.ceu_tree.specs.Leaf as does
use Rattle.ceu_tree.specs.Leaf.{Does, acted}
use Rattle.ceu_tree.specs.Around.{Outcome, Goes, Fails, Past, Registers, AtBlockEnd, AtLoopHead, Ends, Leaves, kind_of, up}
use Rattle.ceu_tree.specs.Step.{free_place, unseat, kill_frame, killed, stepped}
use Rattle.ceu_tree.specs.Run.{is_again}
use Rattle.laws_meaning_values.specs.Ground.{has}

-- ---- expressions

module _ (body : Body) (w : World) where
  unfoldable mutual
    pub node_reads : KExpNode → Bool
    node_reads (exp.Const v) = true
    node_reads (exp.Read l) = has (place_of l body) l.slot w
    node_reads (exp.Alive c) = has body c w
    node_reads (One' op _ a) = operand_reads a
    node_reads (Two' op _ a _ b) = operand_reads a && operand_reads b
    node_reads (As' _ a) = operand_reads a

    pub operand_reads : {n : _} → Row_of-KExp n → Bool
    operand_reads end_of-KExp = true
    operand_reads (more_of-KExp t p e rest) = node_reads e

  abbrev pub exp_reads : KExp → Type 0
  exp_reads e = node_reads e.node ≡ true

  abbrev pub maybe_reads : Option KExp → Type 0
  maybe_reads None = Unit {0}
  maybe_reads (Some e) = exp_reads e

  -- a statement of a finalizer
  abbrev pub simple_reads : KStmt → Type 0
  simple_reads (Assign l e) = exp_reads e
  simple_reads (Out k e) = maybe_reads e
  simple_reads s = Unit {0}

-- ---- finalizers: each statement in the world in which it runs, as long as none has failed

abbrev pub unless_failed : World → Type 0 → Type 0
unless_failed w reads = elim w.fault [ Some e ↦ Unit {0} | None ↦ reads ]

abbrev pub list_reads : List KNode → Body → World → Type 0
list_reads [] body w = Unit {0}
list_reads (s ∷ ss) body w = unless_failed w (simple_reads body w s.stmt) × list_reads ss body (unless_fault (simple s.stmt body) w)

abbrev pub one_reads : KNode → Body → World → Type 0
one_reads s body w = list_reads (finalizer_list s.stmt) body (marked (mark.Ran s.pos) w)

abbrev pub finalized_reads : List KNode → Body → World → Type 0
finalized_reads [] body w = Unit {0}
finalized_reads (s ∷ ss) body w = unless_failed w (one_reads s body w) × finalized_reads ss body (unless_fault (runs_one s body) w)

-- ---- abortions

unfoldable mutual
  pub aborted_reads : Residual → Body → World → Type 0
  aborted_reads (Block b fin all r rest) body w =
      aborted_reads r body w × instances_read all (aborted r body w) × finalized_reads fin body (instances_aborted all (aborted r body w))
  aborted_reads (Open s r) body w = aborted_reads r body w
  aborted_reads (Loop s c r) body w = aborted_reads r body w
  aborted_reads (Call s r) body w = aborted_reads r (Awaited body s.node) w
  aborted_reads (Par s bs) body w = branches_read bs body w
  aborted_reads (InAsync s served r) body w = aborted_reads r body w
  aborted_reads r body w = Unit {0}

  pub branches_read : Branches → Body → World → Type 0
  branches_read no_branch body w = Unit {0}
  branches_read (branch r more) body w = branches_read more body w × aborted_reads r body (branches_aborted more body w)

  pub instances_read : Instances → World → Type 0
  instances_read no_instance w = Unit {0}
  instances_read (instance seat r more) w = instances_read more w × aborted_reads r (Spawned seat.number) (instances_aborted more w)

abbrev pub closed_reads : List KNode → Instances → Body → World → Type 0
closed_reads fin all body w = instances_read all w × finalized_reads fin body (instances_aborted all w)

-- ---- a step: what the parts around the leaf close and abort, from the inside outward

abbrev pub left_reads : Bool → Focus Act → Body → World → Type 0
left_reads true f body w = aborted_reads (plug f Over) body w
left_reads false f body w = Unit {0}

abbrev pub body_left_reads : Bool → List KNode → Instances → Focus Act → Body → World → Type 0
body_left_reads true fin all f body w = aborted_reads (plug f Over) body w × closed_reads fin all body (aborted (plug f Over) body w)
body_left_reads false fin all f body w = Unit {0}

abbrev pub rejoined_reads : ParKind → Branches → Body → World → Type 0
rejoined_reads par.Or bs body w = branches_read bs body w
rejoined_reads kind bs body w = Unit {0}

abbrev pub through_reads : Body → Frame → Focus Act → Outcome → World → Type 0
through_reads body (OfBlock b fin all rest) f AtBlockEnd w = closed_reads fin all body w
through_reads body (OfBlock b fin all rest) f (Leaves node x) w = body_left_reads (node == (out-KBlock b).node) fin all f body w
through_reads body (OfOpen s) f (Leaves node x) w = left_reads (node == s.node) f body w
through_reads body (OfLoop s c) f (Leaves node x) w = left_reads (node == s.node) f body w
through_reads body (OfPar s before after) f (Ends v) w = rejoined_reads (kind_of (out-KStmt s.stmt)) (join before (branch Over after)) body w
through_reads body fr f x w = Unit {0}

unfoldable pub up_reads : Body → Focus Act → Outcome → World → Type 0
up_reads body (Here a) x w = Unit {0}
up_reads body (In fr f) x w =
    up_reads (body_in fr body) f x w × through_reads body fr f (up (body_in fr body) f x w).outcome (up (body_in fr body) f x w).world

-- an instance that is killed
abbrev pub if_reads : Bool → (reads other : Type 0) → Type 0
if_reads true reads other = reads
if_reads false reads other = other

abbrev pub all_killed_read : (number : ℕ) → Instances → World → Type 0
all_killed_read k no_instance w = Unit {0}
all_killed_read k (instance seat r more) w = if_reads (seat.number == k) (aborted_reads r (Spawned k) w) (all_killed_read k more w)

abbrev pub frame_killed_reads : (number : ℕ) → Frame → World → Type 0
frame_killed_reads k (OfBlock b fin all rest) w = all_killed_read k all w
frame_killed_reads k fr w = Unit {0}

unfoldable pub killed_reads : (number : ℕ) → Focus Act → World → Type 0
killed_reads k (Here a) w = Unit {0}
killed_reads k (In fr f) w = frame_killed_reads k fr w × killed_reads k f (kill_frame k fr w)

-- where no place is free, a spawn is gone past
abbrev pub spawned_reads : Option ℕ → (root body : Body) → Focus Act → (alias : Option ℕ) → World → Type 0
spawned_reads None root body f alias w = up_reads root f Past (marked mark.Full (set_alias body alias NotSet w))
spawned_reads (Some place) root body f alias w = Unit {0}

abbrev pub does_reads : (root body : Body) → Focus Act → Does → World → Type 0
does_reads root body f does.Passes w = up_reads root f Past w
does_reads root body f (does.Leaves node x) w = up_reads root f (Leaves node x) w
does_reads root body f (does.Registers s) w = up_reads root f (Registers s) w
does_reads root body f does.Ends w = up_reads root f AtBlockEnd w
does_reads root body f does.Heads w = up_reads root f AtLoopHead w
does_reads root body f (does.Spawns s c code pool alias vs) w = spawned_reads (free_place pool f) root body f alias w
does_reads root body f (does.Kills k) w = killed_reads k f w × up_reads root (unseat k f) Past (killed k f w)
does_reads root body f d w = Unit {0}

unfoldable pub step_reads : Kernel → (level : ℕ) → (root : Body) → Focus Act → World → Type 0
step_reads K n root f w = let body = body_of f root in let d = acted K n body (leaf f) w in does_reads root body f d.does d.world

-- ---- an idle turn: each step of the trail of the async that is served, and after a fault the abortion of all that is left; g is what is around the async

unfoldable pub serve_reads : Kernel → ℕ → Focus Unserved → Focus Act → World → Type 0
serve_reads K zero g f w = Unit {0}
serve_reads K (suc n) g f w =
    let m = stepped K 0 (body_of g Program) f w in
    step_reads K 0 (body_of g Program) f w ×
    elim m.outcome [
      | Goes h ↦ if_reads (is_again (leaf h)) (Unit {0}) (serve_reads K n g h m.world)
      | Fails e r ↦ aborted_reads (plug g (InAsync (leaf g).stmt true r)) Program m.world
      | _ ↦ Unit {0}
    ]

abbrev pub first_reads : Kernel → ℕ → Focus Unserved → Option (Focus Act) → World → Type 0
first_reads K n g None w = Unit {0}
first_reads K n g (Some f) w = serve_reads K n g f w

abbrev pub served_reads : Kernel → ℕ → Option (Focus Unserved) → World → Type 0
served_reads K n None w = Unit {0}
served_reads K n (Some g) w = first_reads K n g (choose Act (runs_at 0) (leaf g).inner) w

-- where all were served, a new round begins
abbrev pub idle_reads : Kernel → ℕ → Residual → World → Type 0
idle_reads K n r w = elim (choose Unserved unserved r) [ Some g ↦ served_reads K n (Some g) w | None ↦ served_reads K n (choose Unserved unserved (each_leaf new_round r)) w ]
