-- How often the finalizer at a position was registered, has run, and stands registered.
use Rattle.std.specs.Prelude.{◌≡◌, ◌≤◌, ℕ, ◌+◌, if◌then◌else◌, ◌==◌, ◌&&◌, List, [], ◌∷◌, None}
use Rattle.ceu_base.specs.declared.kinds.Pos.{Pos}
use Rattle.ceu_base.specs.declared.kinds.Mark.{Mark}
use Rattle.ceu_base.specs.declared.kinds.Mark.TheVariants.{Registered, Ran}
use Rattle.ceu_tree.specs.declared.command.Command.{Command}
use Rattle.ceu_tree.specs.declared.kernel.Kernel.{Kernel}
use Rattle.ceu_tree.specs.declared.kernel.KNode.{KNode}
use Rattle.ceu_tree.specs.Residual.{Residual, InAsync, Block, Open, Loop, Call, Par, Branches, no_branch, branch, Instances, no_instance, instance}
use Rattle.ceu_tree.specs.Focus.{Frame, OfBlock, OfInstance, OfPar, Focus, Here, In}
use Rattle.ceu_tree.specs.Run.{Config, Turning, Between, Waiting, Ended, Faulted, world_of, run}

-- ---- in a list of marks

abbrev pub once : Pos → Pos → ℕ
once p q = if (p.line == q.line) && (p.col == q.col) then 1 else 0

abbrev pub ran : Pos → List Mark → ℕ
ran p [] = 0
ran p (Ran q ∷ ms) = once p q + ran p ms
ran p (_ ∷ ms) = ran p ms

abbrev pub registered : Pos → List Mark → ℕ
registered p [] = 0
registered p (Registered q ∷ ms) = once p q + registered p ms
registered p (_ ∷ ms) = registered p ms

-- ---- in a tree

abbrev pub among : Pos → List KNode → ℕ
among p [] = 0
among p (s ∷ ss) = once p s.pos + among p ss

unfoldable mutual
  pub standing : Pos → Residual → ℕ
  standing p (Block b fin all r rest) = among p fin + standing_instances p all + standing p r
  standing p (Open s r) = standing p r
  standing p (Loop s c r) = standing p r
  standing p (Call s r) = standing p r
  standing p (Par s bs) = standing_branches p bs
  standing p (InAsync s served r) = standing p r
  standing p _ = 0

  pub standing_branches : Pos → Branches → ℕ
  standing_branches p no_branch = 0
  standing_branches p (branch r more) = standing p r + standing_branches p more

  pub standing_instances : Pos → Instances → ℕ
  standing_instances p no_instance = 0
  standing_instances p (instance seat r more) = standing p r + standing_instances p more

-- in the parts around a leaf
abbrev pub standing_frame : Pos → Frame → ℕ
standing_frame p (OfBlock b fin all rest) = among p fin + standing_instances p all
standing_frame p (OfInstance b fin before seat after r rest) = among p fin + (standing_instances p before + standing_instances p after) + standing p r
standing_frame p (OfPar s before after) = standing_branches p before + standing_branches p after
standing_frame p _ = 0

unfoldable pub standing_focus : {A : Type 0} → Pos → Focus A → ℕ
standing_focus p (Here a) = 0
standing_focus p (In fr f) = standing_frame p fr + standing_focus p f

abbrev pub standing_config : Pos → Config → ℕ
standing_config p (Turning n f w) = standing_focus p f
standing_config p (Between n r w) = standing p r
standing_config p (Waiting r w) = standing p r
standing_config p (Ended v w) = 0
standing_config p (Faulted e w) = 0

-- In every run in which no finalizer faulted, after any number of steps, each finalizer was registered as often as it has run and stands registered.
-- Where the program has ended or faulted none is left, so each registration has exactly one run.
abbrev pub FinalizersBalance : Type 0
FinalizersBalance = (K : Kernel) (n : ℕ) (xs : List Command) (p : Pos) → (world_of (run K n xs)).fault ≡ None →
    registered p (world_of (run K n xs)).marks ≡ ran p (world_of (run K n xs)).marks + standing_config p (run K n xs)

-- In every run, also where a finalizer faulted, no finalizer has run more often than it was registered and doesn't stand any more.
abbrev pub FinalizersAtMost : Type 0
FinalizersAtMost = (K : Kernel) (n : ℕ) (xs : List Command) (p : Pos) → ran p (world_of (run K n xs)).marks + standing_config p (run K n xs) ≤ registered p (world_of (run K n xs)).marks
