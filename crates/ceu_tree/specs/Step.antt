-- One step of a turn, in the whole focus: the leaf acts, and the parts around it answer. Emissions, spawns and kills reach beyond the leaf's own part.
use Rattle.std.specs.Prelude.{ℕ, zero, suc, ◌+◌, ℤ, pos, nat_lt, if◌then◌else◌, ◌==◌, List, [], ◌∷◌, Option, Some, None}
use Rattle.ceu_base.specs.declared.kinds.Fault.TheVariants.{SpawnCount}
use Rattle.ceu_base.specs.declared.kinds.Mark.TheVariants as mark
use Rattle.ceu_tree.specs.declared.kernel.Kernel.{Kernel}
use Rattle.ceu_tree.specs.declared.kernel.KCode.{KCode}
use Rattle.ceu_tree.specs.declared.kernel.KEvent.{KEvent}
use Rattle.ceu_tree.specs.declared.kernel.KDecl.{KDecl}
use Rattle.ceu_tree.specs.declared.kernel.KKind.{KKind}
use Rattle.ceu_tree.specs.declared.kernel.KKind.TheVariants as kind
use Rattle.ceu_tree.specs.declared.kernel.KNode.{KNode}
use Rattle.ceu_tree.specs.declared.kernel.KBlock.{out-KBlock}
use Rattle.ceu_tree.specs.Residual.{Body, Spawned, Act, Begin, Finish, Seat, Residual, Over, Run, Instances, no_instance, instance}
use Rattle.ceu_tree.specs.Focus.{Frame, OfBlock, Focus, Here, In, plug, graft, leaf, body_of}
use Rattle.ceu_tree.specs.World.{NotSet, Names, World, marked, set_alias, set_parameters, is_among, dead}
use Rattle.ceu_tree.specs.Abort.{aborted}
use Rattle.ceu_tree.specs.Wake.{by_event, woken}
use Rattle.ceu_tree.specs.Leaf as does
use Rattle.ceu_tree.specs.Leaf.{Does, acted}
use Rattle.ceu_tree.specs.Around.{Rests, Raises, Goes, Fails, Past, Registers, AtBlockEnd, AtLoopHead, Leaves, Moved, moved, answered}

-- ---- events

abbrev pub event_code : ℕ → List KEvent → Option ℕ
event_code k [] = None
event_code zero (e ∷ es) = e.code
event_code (suc k) (e ∷ es) = event_code k es

-- the emitter is paused, and the trails that wait for the event can run at the next level
abbrev pub emitted : Kernel → (level : ℕ) → Focus Act → KNode → (event : ℕ) → ℤ → World → Moved
emitted K n f s event v w =
    moved (Raises (woken (event_code event K.events) (by_event (n + 1) event v) f (Run n (Finish s (pos 0))))) (marked (mark.Push (n + 1)) w)

-- ---- pools: an open block around the leaf has them

abbrev pub size_in_decl : (pool : ℕ) → ℕ → KKind → Option ℕ
size_in_decl pool slot (kind.Pool n code) = if slot == pool then Some n else None
size_in_decl pool slot _ = None

-- how many places the pool of that slot has, where it is one of the block's
abbrev pub size_in : (pool : ℕ) → List KDecl → Option ℕ
size_in pool [] = None
size_in pool (d ∷ ds) = elim (size_in_decl pool d.slot d.kind) [ Some n ↦ Some n | None ↦ size_in pool ds ]

abbrev pub taken_in : (pool : ℕ) → Instances → List ℕ
taken_in pool no_instance = []
taken_in pool (instance seat r more) = if seat.pool == pool then seat.place ∷ taken_in pool more else taken_in pool more

-- the lowest of n places, from k on, that is not taken
abbrev pub lowest_free : (n k : ℕ) → List ℕ → Option ℕ
lowest_free zero k taken = None
lowest_free (suc n) k taken = if is_among k taken then lowest_free n (k + 1) taken else Some k

abbrev pub place_in : (pool : ℕ) → Option ℕ → Instances → Option ℕ
place_in pool None all = None
place_in pool (Some n) all = lowest_free n 0 (taken_in pool all)

abbrev pub frame_place : (pool : ℕ) → Frame → Option ℕ
frame_place pool (OfBlock b fin all rest) = place_in pool (size_in pool (out-KBlock b).decls) all
frame_place pool _ = None

-- the lowest free place of the pool of that slot
abbrev pub free_place : (pool : ℕ) → Focus Act → Option ℕ
free_place pool (Here a) = None
free_place pool (In fr f) = elim (frame_place pool fr) [ Some place ↦ Some place | None ↦ free_place pool f ]

-- a new instance comes behind those of its pool and of the pools before
abbrev pub with_instance : Seat → Residual → Instances → Instances
with_instance seat r no_instance = instance seat r no_instance
with_instance seat r (instance other q more) =
    if nat_lt seat.pool other.pool then instance seat r (instance other q more) else instance other q (with_instance seat r more)

abbrev pub seated_if : Option ℕ → Seat → Residual → Instances → Instances
seated_if None seat r all = all
seated_if (Some n) seat r all = with_instance seat r all

abbrev pub seat_frame : Seat → Residual → Frame → Frame
seat_frame seat r (OfBlock b fin all rest) = OfBlock b fin (seated_if (size_in seat.pool (out-KBlock b).decls) seat r all) rest
seat_frame seat r fr = fr

abbrev pub seated : Seat → Residual → Focus Act → Focus Act
seated seat r (Here a) = Here a
seated seat r (In fr f) = In (seat_frame seat r fr) (seated seat r f)

-- the spawner is paused, and the instance is the only trail of the next level
abbrev pub spawned_at : (level : ℕ) → Body → Focus Act → KNode → KCode → (code pool place : ℕ) → (alias : Option ℕ) → List ℤ → World → Moved
spawned_at n body f s c code pool place alias vs w =
    if w.given == 4294967295 then moved (Fails (SpawnCount, s.pos) (plug f Over)) w else (
    let number = w.given + 1 in
    let seat : Seat = record { pool = pool; place = place; code = code; number = number } in
    let u = set_parameters (Spawned number) c.params vs (set_alias body alias (Names number) (record w { given = number; living = number ∷ w.living })) in
    moved (Raises (plug (seated seat (Run (n + 1) (Begin c.body)) f) (Run n (Finish s (pos 0))))) (marked (mark.Push (n + 1)) (marked (mark.Spawned number) u)))

-- where no place is free nothing more is done, and the alias is not set
abbrev pub spawned : (level : ℕ) → (root body : Body) → Focus Act → KNode → KCode → (code pool : ℕ) → (alias : Option ℕ) → List ℤ → World → Moved
spawned n root body f s c code pool alias vs w = elim (free_place pool f) [
  | None ↦ answered root f Past (marked mark.Full (set_alias body alias NotSet w))
  | Some place ↦ spawned_at n body f s c code pool place alias vs w
]

-- a killed instance is aborted and frees its place
abbrev pub unseated : (number : ℕ) → Instances → Instances
unseated k no_instance = no_instance
unseated k (instance seat r more) = if seat.number == k then more else instance seat r (unseated k more)

abbrev pub unseat_frame : (number : ℕ) → Frame → Frame
unseat_frame k (OfBlock b fin all rest) = OfBlock b fin (unseated k all) rest
unseat_frame k fr = fr

abbrev pub unseat : (number : ℕ) → Focus Act → Focus Act
unseat k (Here a) = Here a
unseat k (In fr f) = In (unseat_frame k fr) (unseat k f)

abbrev pub killed_in : (number : ℕ) → Instances → World → World
killed_in k no_instance w = w
killed_in k (instance seat r more) w = if seat.number == k then dead k (aborted r (Spawned k) w) else killed_in k more w

abbrev pub kill_frame : (number : ℕ) → Frame → World → World
kill_frame k (OfBlock b fin all rest) w = killed_in k all w
kill_frame k fr w = w

abbrev pub killed : (number : ℕ) → Focus Act → World → World
killed k (Here a) w = w
killed k (In fr f) w = killed k f (kill_frame k fr w)

-- ---- the step of a trail of that level in the focus f; `root` is the open body around the whole focus

abbrev pub does_in : Kernel → (level : ℕ) → (root body : Body) → Focus Act → Does → World → Moved
does_in K n root body f (does.Opens x) w = moved (Goes (graft f x)) w
does_in K n root body f (does.Waits r) w = moved (Rests (plug f r)) w
does_in K n root body f does.Passes w = answered root f Past w
does_in K n root body f (does.Leaves node x) w = answered root f (Leaves node x) w
does_in K n root body f (does.Registers s) w = answered root f (Registers s) w
does_in K n root body f does.Ends w = answered root f AtBlockEnd w
does_in K n root body f does.Heads w = answered root f AtLoopHead w
does_in K n root body f (does.Emits s event v) w = emitted K n f s event v w
does_in K n root body f (does.Spawns s c code pool alias vs) w = spawned n root body f s c code pool alias vs w
does_in K n root body f (does.Kills k) w = answered root (unseat k f) Past (killed k f w)
does_in K n root body f (does.Fails e) w = moved (Fails e (plug f Over)) w

unfoldable pub stepped : Kernel → (level : ℕ) → (root : Body) → Focus Act → World → Moved
stepped K n root f w = let body = body_of f root in let d = acted K n body (leaf f) w in does_in K n root body f d.does d.world
