-- Waking: exactly the leaves that wait for what occurs become leaves that can run (Céu 0.30 manual, chapter on statements: await; TECS 2017, the
-- stack policy of internal events). A leaf that comes to wait later isn't woken by the same occurrence.
use Rattle.std.specs.Prelude.{ℕ, ◌-◌, min, ℤ, pos, Bool, true, false, if◌then◌else◌, ◌==◌, List, [], ◌∷◌, ◌++◌, Option, Some, None}
use Rattle.ceu_tree.specs.declared.kernel.KNode.{KNode}
use Rattle.ceu_tree.specs.Residual.{Act, Finish, Residual, Over, Run, WaitInput, WaitTime, WaitEvent, WaitForever, InAsync, Block, Open, Loop, Call, Par, Branches, no_branch, branch, Instances, no_instance, instance}
use Rattle.ceu_tree.specs.Focus.{Focus, Here, In, fill, plug, has_body}

-- every leaf changed by f, and all else as it was
unfoldable mutual
  pub each_leaf : (Residual → Residual) → Residual → Residual
  each_leaf f (Block b fin all r rest) = Block b fin (each_in_instances f all) (each_leaf f r) rest
  each_leaf f (Open s r) = Open s (each_leaf f r)
  each_leaf f (Loop s c r) = Loop s c (each_leaf f r)
  each_leaf f (Call s r) = Call s (each_leaf f r)
  each_leaf f (Par s bs) = Par s (each_in_branches f bs)
  each_leaf f Over = Over
  each_leaf f (Run n a) = f (Run n a)
  each_leaf f (WaitInput k s) = f (WaitInput k s)
  each_leaf f (WaitTime d s) = f (WaitTime d s)
  each_leaf f (WaitEvent e s) = f (WaitEvent e s)
  each_leaf f (WaitForever s) = f (WaitForever s)
  each_leaf f (InAsync s served r) = f (InAsync s served r)

  pub each_in_branches : (Residual → Residual) → Branches → Branches
  each_in_branches f no_branch = no_branch
  each_in_branches f (branch r more) = branch (each_leaf f r) (each_in_branches f more)

  pub each_in_instances : (Residual → Residual) → Instances → Instances
  each_in_instances f no_instance = no_instance
  each_in_instances f (instance seat r more) = instance seat (each_leaf f r) (each_in_instances f more)

-- the leaves, in lexical order
unfoldable mutual
  pub leaves : Residual → List Residual
  leaves (Block b fin all r rest) = leaves_of_instances all ++ leaves r
  leaves (Open s r) = leaves r
  leaves (Loop s c r) = leaves r
  leaves (Call s r) = leaves r
  leaves (Par s bs) = leaves_of_branches bs
  leaves Over = []
  leaves (Run n a) = Run n a ∷ []
  leaves (WaitInput k s) = WaitInput k s ∷ []
  leaves (WaitTime d s) = WaitTime d s ∷ []
  leaves (WaitEvent e s) = WaitEvent e s ∷ []
  leaves (WaitForever s) = WaitForever s ∷ []
  leaves (InAsync s served r) = InAsync s served r ∷ []

  pub leaves_of_branches : Branches → List Residual
  leaves_of_branches no_branch = []
  leaves_of_branches (branch r more) = leaves r ++ leaves_of_branches more

  pub leaves_of_instances : Instances → List Residual
  leaves_of_instances no_instance = []
  leaves_of_instances (instance seat r more) = leaves r ++ leaves_of_instances more

-- ---- what can run

abbrev pub runs_at : ℕ → Residual → Option Act
runs_at n (Run m a) = if m == n then Some a else None
runs_at n r = None

-- ---- what wakes

abbrev pub by_event : (level event : ℕ) → ℤ → Residual → Residual
by_event level event v (WaitEvent e s) = if e == event then Run level (Finish s v) else WaitEvent e s
by_event level event v r = r

abbrev pub by_input : (input : ℕ) → ℤ → Residual → Residual
by_input input v (WaitInput k s) = if k == input then Run 0 (Finish s v) else WaitInput k s
by_input input v r = r

-- every leaf of the leaf's own open body; r is what that leaf has become
abbrev pub each_in_body : {A : Type 0} → (Residual → Residual) → Focus A → Residual → Residual
each_in_body g (Here a) r = each_leaf g r
each_in_body g (In fr f) r = if has_body (In fr f) then fill fr (each_in_body g f r) else each_leaf g (plug (In fr f) r)

-- an event of a code wakes in the emitter's own open body alone
abbrev pub woken : {A : Type 0} → Option ℕ → (Residual → Residual) → Focus A → Residual → Residual
woken None g f r = each_leaf g (plug f r)
woken (Some code) g f r = each_in_body g f r

-- d microseconds later
abbrev pub later : ℕ → Residual → Residual
later d (WaitTime left s) = WaitTime (left - d) s
later d r = r

-- a timer that has run out, with the delay as its value
abbrev pub by_time : (delay : ℕ) → Residual → Residual
by_time delay (WaitTime left s) = if left == 0 then Run 0 (Finish s (pos (min delay 2147483647))) else WaitTime left s
by_time delay r = r

-- the least of the remaining times
abbrev pub least_time : List Residual → Option ℕ
least_time [] = None
least_time (WaitTime left s ∷ rs) = elim (least_time rs) [ None ↦ Some left | Some m ↦ Some (min left m) ]
least_time (r ∷ rs) = least_time rs

-- ---- asyncs and their rounds

abbrev pub is_async : Residual → Bool
is_async (InAsync s served r) = true
is_async r = false

pub record Unserved : Type 0 where
  pub stmt : KNode
  pub inner : Residual

abbrev pub unserved : Residual → Option Unserved
unserved (InAsync s false r) = Some (record { stmt = s; inner = r })
unserved r = None

abbrev pub new_round : Residual → Residual
new_round (InAsync s served r) = InAsync s false r
new_round r = r
