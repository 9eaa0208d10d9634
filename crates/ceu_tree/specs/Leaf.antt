-- What a leaf does when it is its turn: one action of its trail.
use Rattle.std.specs.Prelude.{ℕ, suc, zero, ◌-◌, ◌^◌, min, max, ℤ, pos, negsuc, ◌+ℤ◌, ◌-ℤ◌, ◌*ℤ◌, false, if◌then◌else◌, List, [], ◌∷◌, Option, Some, None, Result, Ok, Err}
use Rattle.ceu_base.specs.declared.kinds.Pos.{Pos}
use Rattle.ceu_base.specs.declared.kinds.Fault.{Fault}
use Rattle.ceu_base.specs.declared.kinds.Mark.TheVariants as mark
use Rattle.ceu_base.specs.Values.{of_test, same}
use Rattle.ceu_tree.specs.declared.kernel.KCode.{KCode}
use Rattle.ceu_tree.specs.declared.kernel.Kernel.{Kernel}
use Rattle.ceu_tree.specs.declared.kernel.KLoop.{KLoop}
use Rattle.ceu_tree.specs.declared.kernel.KLoop.TheVariants as turns
use Rattle.ceu_tree.specs.declared.kernel.Loc.{Loc}
use Rattle.ceu_tree.specs.declared.kernel.Unit.{Unit as TimeUnit}
use Rattle.ceu_tree.specs.declared.kernel.Unit.TheVariants.{H, Min, S, Ms, Us}
use Rattle.ceu_tree.specs.declared.kernel.KNode.{KNode}
use Rattle.ceu_tree.specs.declared.kernel.KArm.{KArm, out-KArm}
use Rattle.ceu_tree.specs.declared.kernel.KBlock.{KBlock, out-KBlock}
use Rattle.ceu_tree.specs.declared.kernel.KStmt.{KStmt, out-KStmt}
use Rattle.ceu_tree.specs.declared.kernel.KStmt.TheOpen.{KStmt-F}
use Rattle.ceu_tree.specs.Residual.{Body, Awaited, Act, Begin, Start, Finish, AtEnd, AtHead, Again, Counter, Free, Turns, Upward, Residual, Run, WaitInput, WaitTime, WaitEvent, WaitForever, InAsync, Branches, no_branch, branch, no_instance}
use Rattle.ceu_tree.specs.Focus.{OfBlock, OfOpen, OfLoop, OfCall, OfPar, Focus, Here, In}
use Rattle.ceu_tree.specs.World.{Cell, NotSet, Names, World, marked, set, assign, assign_if, set_parameters, look}
use Rattle.ceu_tree.specs.Expressions.{names_living, value_of, value_if, values_of}

-- a statement, one level of it open
abbrev pub Layer : Type 0
Layer = KStmt-F KStmt KArm KBlock KNode

pub data Exit : Type 0 where
  Escape : (value : ℤ) → Exit
  Break : Exit
  Continue : Exit

pub data Does : Type 0 where
  Opens : Focus Act → Does  -- a part, in which the trail goes on
  Waits : Residual → Does  -- becomes a leaf that waits
  Passes : Does  -- goes past its statement
  Leaves : (node : ℕ) → Exit → Does  -- leaves the statement or the body of that node
  Registers : KNode → Does  -- a finalizer, and goes past it
  Ends : Does  -- has come to the end of its block
  Heads : Does  -- has come to the head of its loop
  Emits : KNode → (event : ℕ) → (value : ℤ) → Does
  Spawns : KNode → KCode → (code pool : ℕ) → (alias : Option ℕ) → (arguments : List ℤ) → Does
  Kills : (number : ℕ) → Does  -- that instance, and goes past
  Fails : Fault × Pos → Does

pub record Done : Type 0 where
  pub does : Does
  pub world : World

abbrev pub done : Does → World → Done
done d w = record { does = d; world = w }

-- goes on with a value, or fails
abbrev pub or_fails : {A : Type 0} → Result A (Fault × Pos) → World → (A → Done) → Done
or_fails (Ok v) w go = go v
or_fails (Err e) w go = done (Fails e) w

-- ---- times (Céu 0.30 manual: wall-clock time)

abbrev pub microseconds : TimeUnit → ℕ
microseconds H = 3600000000
microseconds Min = 60000000
microseconds S = 1000000
microseconds Ms = 1000
microseconds Us = 1

-- an awaited time lies from 1 to 2^63 - 1 (this project's own)
abbrev pub clamped : ℤ → ℕ
clamped (pos n) = min (max n 1) (2 ^ 63 - 1)
clamped (negsuc n) = 1

-- ---- parts of statements

-- where the value of a statement that waited, or that was left by an escape, goes
abbrev pub target_of : Layer → Option Loc
target_of (KStmt-F.AwaitIn k t) = t
target_of (KStmt-F.AwaitTime e u t) = t
target_of (KStmt-F.AwaitEvent e t) = t
target_of (KStmt-F.AwaitCode c es f t) = t
target_of (KStmt-F.Do t b) = t
target_of _ = None

abbrev pub target : KNode → Option Loc
target s = target_of (out-KStmt s.stmt)

abbrev pub code_at : ℕ → List KCode → Option KCode
code_at k [] = None
code_at zero (c ∷ cs) = Some c
code_at (suc k) (c ∷ cs) = code_at k cs

-- the first part whose condition holds
abbrev pub chosen_part : List KArm → KBlock → Body → World → Result KBlock (Fault × Pos)
chosen_part [] last body w = Ok last
chosen_part (a ∷ arms) last body w =
    elim (value_of (out-KArm a).cond body w) [ Ok v ↦ if same v (pos 0) then chosen_part arms last body w else Ok (out-KArm a).body | Err e ↦ Err e ]

-- the branches of a par after the first, which can run at the level of the trail that reaches it
abbrev pub branches_from : (level : ℕ) → List KBlock → Branches
branches_from n [] = no_branch
branches_from n (b ∷ bs) = branch (Run n (Begin b)) (branches_from n bs)

-- the first branch goes on in the same turn
abbrev pub in_branches : (level : ℕ) → KNode → List KBlock → Does
in_branches n s [] = Passes
in_branches n s (b ∷ bs) = Opens (In (OfPar s no_branch (branches_from n bs)) (Here (Begin b)))

abbrev pub opened : KNode → KBlock → Does
opened s b = Opens (In (OfOpen s) (Here (Begin b)))

abbrev pub looping : KNode → Counter → Does
looping s c = Opens (In (OfLoop s c) (Here AtHead))

-- the ends of a range are evaluated once; a bracket that opens away from its number excludes it
abbrev pub loop_reached : KNode → KLoop → Body → World → Done
loop_reached s turns.Free body w = done (looping s Free) w
loop_reached s (turns.Times slot limit) body w = done (looping s (Turns 0)) w
loop_reached s (turns.Range i next end open_a a b open_b) body w =
    or_fails (value_of a body w) w (λ x. or_fails (value_of b body w) w (λ y. done (looping s (Upward (x +ℤ of_test open_a) (y -ℤ of_test open_b))) w))

-- code that is awaited runs in the same trail, with variables of its own
abbrev pub called : KNode → Option KCode → List ℤ → Body → World → Done
called s None vs body w = done Passes w
called s (Some c) vs body w = done (Opens (In (OfCall s) (Here (Begin c.body)))) (set_parameters (Awaited body s.node) c.params vs w)

abbrev pub spawning : KNode → Option KCode → (code pool : ℕ) → Option ℕ → List ℤ → World → Done
spawning s None code pool alias vs w = done Passes w
spawning s (Some c) code pool alias vs w = done (Spawns s c code pool alias vs) w

abbrev pub killing : Option Cell → List ℕ → Does
killing (Some (Names n)) living = if names_living (Some (Names n)) living then Kills n else Passes
killing _ living = Passes

-- ---- the start of a statement, by a trail of that level in that open body

abbrev pub started : Kernel → (level : ℕ) → Body → KNode → Layer → World → Done
started K n body s KStmt-F.Nothing w = done Passes w
started K n body s (KStmt-F.Assign l e) w = or_fails (value_of e body w) w (λ v. done Passes (assign body l v w))
started K n body s (KStmt-F.Out k e) w = or_fails (value_if e body w) w (λ v. done Passes (marked (mark.Output k v) w))
started K n body s (KStmt-F.Emit k e) w = or_fails (value_if e body w) w (λ v. done (Emits s k v) w)
started K n body s (KStmt-F.AwaitIn k t) w = done (Waits (WaitInput k s)) w
started K n body s (KStmt-F.AwaitTime e u t) w = or_fails (value_of e body w) w (λ v. done (Waits (WaitTime (clamped (v *ℤ pos (microseconds u))) s)) w)
started K n body s (KStmt-F.AwaitEvent e t) w = done (Waits (WaitEvent e s)) w
started K n body s KStmt-F.Forever w = done (Waits (WaitForever s)) w
started K n body s (KStmt-F.AwaitCode c es frame t) w = or_fails (values_of es body w) w (λ vs. called s (code_at c K.codes) vs body w)
started K n body s (KStmt-F.Spawn c es pool alias) w = or_fails (values_of es body w) w (λ vs. spawning s (code_at c K.codes) c pool alias vs w)
started K n body s (KStmt-F.Kill c) w = done (killing (look body c w.values) w.living) w
started K n body s (KStmt-F.Unset c) w = done Passes (set body c NotSet w)
started K n body s (KStmt-F.Async b) w = done (Waits (InAsync s false (Run 0 (Begin b)))) w
started K n body s (KStmt-F.Finalize b) w = done (Registers s) w
started K n body s (KStmt-F.Do t b) w = done (opened s b) w
started K n body s (KStmt-F.Escape node e) w = or_fails (value_if e body w) w (λ v. done (Leaves node (Escape v)) w)
started K n body s (KStmt-F.Break node) w = done (Leaves node Break) w
started K n body s (KStmt-F.Continue node) w = done (Leaves node Continue) w
started K n body s (KStmt-F.If arms last) w = or_fails (chosen_part arms last body w) w (λ b. done (opened s b) w)
started K n body s (KStmt-F.Loop kind b) w = loop_reached s kind body w
started K n body s (KStmt-F.Par kind slot bs) w = done (in_branches n s bs) w

-- the next of a block's statements, or the block's end
abbrev pub next_of : List KNode → Act
next_of [] = AtEnd
next_of (s ∷ ss) = Start s

abbrev pub rest_of : List KNode → List KNode
rest_of [] = []
rest_of (s ∷ ss) = ss

abbrev pub acted : Kernel → (level : ℕ) → Body → Act → World → Done
acted K n body (Begin b) w = let list = (out-KBlock b).list in done (Opens (In (OfBlock b [] no_instance (rest_of list)) (Here (next_of list)))) w
acted K n body (Start s) w = started K n body s (out-KStmt s.stmt) w
acted K n body (Finish s v) w = done Passes (assign_if body (target s) v w)
acted K n body AtEnd w = done Ends w
acted K n body AtHead w = done Heads w
acted K n body Again w = done Heads w
