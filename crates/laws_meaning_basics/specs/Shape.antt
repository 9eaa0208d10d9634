-- Configurations that fit their kernel, within a reaction and between two (this project's own): each open part is one of the kernel's, stands where the
-- kernel has it, and each leaf is one that may stand there. Values of variables are no part of this.
--
-- A part of a program is told with its place: a block with the scope around it, a statement with the scope of its block, or the end of a block.
use Rattle.std.specs.Prelude.{◌≡◌, ◌<◌, ℕ, suc, ℤ, ◌⊎◌, Bool, true, false, not, ◌==◌, ◌||◌, List, [], ◌∷◌, ◌++◌, Some, None}
use Rattle.ceu_base.specs.declared.kinds.Ty.TheVariants as ty
use Rattle.ceu_tree.specs.declared.kernel.Kernel.{Kernel}
use Rattle.ceu_tree.specs.declared.kernel.KCode.{KCode}
use Rattle.ceu_tree.specs.declared.kernel.KLoop.{KLoop}
use Rattle.ceu_tree.specs.declared.kernel.KLoop.TheVariants as turns
use Rattle.ceu_tree.specs.declared.kernel.ParKind.{ParKind}
use Rattle.ceu_tree.specs.declared.kernel.ParKind.TheVariants as par
use Rattle.ceu_tree.specs.declared.kernel.KNode.{KNode}
use Rattle.ceu_tree.specs.declared.kernel.KArm.{KArm, out-KArm}
use Rattle.ceu_tree.specs.declared.kernel.KBlock.{KBlock, out-KBlock}
use Rattle.ceu_tree.specs.declared.kernel.KStmt.{out-KStmt}
use Rattle.ceu_tree.specs.declared.kernel.KStmt.TheOpen.{KStmt-F}
use Rattle.ceu_tree.specs.Residual.{Act, Begin, Start, Finish, AtEnd, AtHead, Again, Counter, Free, Turns, Upward, Seat, Residual, Over, Run, WaitInput, WaitTime, WaitEvent, WaitForever, InAsync, Block, Open, Loop, Call, Par, Branches, no_branch, branch, Instances, no_instance, instance}
use Rattle.ceu_tree.specs.Focus.{Frame, OfBlock, OfInstance, OfOpen, OfLoop, OfCall, OfPar, Focus, Here, In, leaf}
use Rattle.ceu_tree.specs.Leaf.{Layer, code_at}
use Rattle.ceu_tree.specs.Around.{Outcome, Goes, Rests, Raises, Fails, Past, Registers, AtBlockEnd, AtLoopHead, Ends, Leaves, all_over}
use Rattle.ceu_tree.specs.Proper.{Scope, Aim, DoAim, BodyAim, LoopAim, with_decls, with_aim, with_turns, do_aim, in_async, body_scope, is_trail}
use Rattle.ceu_tree.specs.Legal.{finalizers_of, is_finalizer}
use Rattle.ceu_tree.specs.Run.{Config, Turning, Between, Waiting, Ended, Faulted}

-- ---- places

pub data Part : Type 0 where
  ABlock : (turn : Bool) → Scope → KBlock → Part  -- with `turn`, the body of a loop, which has turns
  AStatement : Scope → KNode → Part
  AnEnd : Part  -- of a block

-- inside a block, in the body of code, in a loop's turn, in a part of do and if
abbrev pub block_scope : Scope → KBlock → Scope
block_scope sc b = with_decls (out-KBlock b).decls sc

-- a part of a do, or of an if
abbrev pub part_scope : Kernel → Scope → (node : ℕ) → Layer → Scope
part_scope K sc node (KStmt-F.Do t b) = with_aim (do_aim K node t) sc
part_scope K sc node layer = sc

abbrev pub turn_scope : Kernel → Scope → (node : ℕ) → KLoop → Scope
turn_scope K sc node k = with_aim (LoopAim node) (with_turns K k sc)

abbrev pub async_scope : Kernel → Scope → Scope
async_scope K sc = in_async K sc

abbrev pub code_scope : Kernel → ℕ → KCode → Scope
code_scope K c k = with_decls k.params (body_scope K [] (Some c) k.body k.result)

-- the body of code, and the whole program
abbrev pub code_part : Kernel → ℕ → KCode → Part
code_part K c k = ABlock false (code_scope K c k) k.body

abbrev pub program_part : Kernel → Part
program_part K = ABlock false (body_scope K [] None K.body ty.S32) K.body

-- ---- parts of statements

abbrev pub among_arms : List KArm → KBlock → Type 0
among_arms [] b = ⊥
among_arms (a ∷ arms) b = ((out-KArm a).body ≡ b) ⊎ among_arms arms b

-- a block that a do or an if opens
abbrev pub opens_part : Layer → KBlock → Type 0
opens_part (KStmt-F.Do t b) c = b ≡ c
opens_part (KStmt-F.If arms last) c = among_arms arms c ⊎ (last ≡ c)
opens_part layer c = ⊥

-- statements at which a trail waits or pauses, and goes on by finishing them
abbrev pub pauses : Layer → Bool
pauses (KStmt-F.Emit e x) = true
pauses (KStmt-F.AwaitIn k t) = true
pauses (KStmt-F.AwaitTime e u t) = true
pauses (KStmt-F.AwaitEvent e t) = true
pauses (KStmt-F.Spawn c es p a) = true
pauses (KStmt-F.Async b) = true
pauses layer = false

abbrev pub counts : KLoop → Counter → Bool
counts turns.Free Free = true
counts (turns.Times slot n) (Turns k) = true
counts (turns.Range i next end open_a a b open_b) (Upward v last) = true
counts k c = false

-- a branch that ends is the end of a par/or
abbrev pub may_end : ParKind → Bool
may_end par.Or = false
may_end k = true

-- a par/and goes on until all its branches have ended
abbrev pub still_on : ParKind → Branches → Bool
still_on par.And bs = not (all_over bs)
still_on k bs = true

-- ---- what is left of a part. Each leaf that can run has a level below `top`.

mutual
  pub data Fits (K : Kernel) : (top : ℕ) → Part → Residual → Type 0 where
    -- a block that begins, a loop of an async after a completed turn, and an open block with the statement where it stands
    to_begin : {top n : ℕ} {turn : Bool} {sc : Scope} {b : KBlock} → n < top → Fits K top (ABlock turn sc b) (Run n (Begin b))
    to_turn : {top n : ℕ} {sc : Scope} {b : KBlock} → n < top → is_trail sc.place ≡ false → Fits K top (ABlock true sc b) (Run n Again)
    in_list : {top : ℕ} {turn : Bool} {sc : Scope} {b : KBlock} {fin rest : List KNode} {all : Instances} {r : Residual} {s : KNode} (done : List KNode)
        → (out-KBlock b).list ≡ done ++ s ∷ rest → fin ≡ finalizers_of [] done → AllFit K top sc all → Fits K top (AStatement (block_scope sc b) s) r
        → Fits K top (ABlock turn sc b) (Block b fin all r rest)
    -- a statement that has waited or paused, and one that waits
    to_finish : {top n : ℕ} {sc : Scope} {s : KNode} {v : ℤ} → n < top → pauses (out-KStmt s.stmt) ≡ true → Fits K top (AStatement sc s) (Run n (Finish s v))
    at_input : {top k : ℕ} {sc : Scope} {s : KNode} (t : _) → out-KStmt s.stmt ≡ KStmt-F.AwaitIn k t → Fits K top (AStatement sc s) (WaitInput k s)
    at_time : {top d : ℕ} {sc : Scope} {s : KNode} (e u t : _) → out-KStmt s.stmt ≡ KStmt-F.AwaitTime e u t → Fits K top (AStatement sc s) (WaitTime d s)
    at_event : {top k : ℕ} {sc : Scope} {s : KNode} (t : _) → out-KStmt s.stmt ≡ KStmt-F.AwaitEvent k t → Fits K top (AStatement sc s) (WaitEvent k s)
    at_forever : {top : ℕ} {sc : Scope} {s : KNode} → out-KStmt s.stmt ≡ KStmt-F.Forever → Fits K top (AStatement sc s) (WaitForever s)
    -- the trail of an async runs in no reaction, and at level 0
    at_async : {top : ℕ} {sc : Scope} {s : KNode} {served : Bool} {r : Residual} (b : KBlock) → out-KStmt s.stmt ≡ KStmt-F.Async b
        → Fits K 1 (ABlock false (async_scope K sc) b) r → Fits K top (AStatement sc s) (InAsync s served r)
    -- an open statement
    in_part : {top : ℕ} {sc : Scope} {s : KNode} {r : Residual} (b : KBlock) → opens_part (out-KStmt s.stmt) b
        → Fits K top (ABlock false (part_scope K sc s.node (out-KStmt s.stmt)) b) r → Fits K top (AStatement sc s) (Open s r)
    in_turn : {top : ℕ} {sc : Scope} {s : KNode} {c : Counter} {r : Residual} (k : KLoop) (b : KBlock) → out-KStmt s.stmt ≡ KStmt-F.Loop k b → counts k c ≡ true
        → Fits K top (ABlock true (turn_scope K sc s.node k) b) r → Fits K top (AStatement sc s) (Loop s c r)
    in_call : {top : ℕ} {sc : Scope} {s : KNode} {r : Residual} (c : ℕ) (es f t : _) (k : KCode) → out-KStmt s.stmt ≡ KStmt-F.AwaitCode c es f t → code_at c K.codes ≡ Some k
        → Fits K top (code_part K c k) r → Fits K top (AStatement sc s) (Call s r)
    in_par : {top : ℕ} {sc : Scope} {s : KNode} {rs : Branches} (k : ParKind) (slot : ℕ) (bs : List KBlock) → out-KStmt s.stmt ≡ KStmt-F.Par k slot bs
        → still_on k rs ≡ true → EachFits K top sc k bs rs → Fits K top (AStatement sc s) (Par s rs)

  -- the branches of a par
  pub data EachFits (K : Kernel) : (top : ℕ) → Scope → ParKind → List KBlock → Branches → Type 0 where
    no_more : {top : ℕ} {sc : Scope} {k : ParKind} → EachFits K top sc k [] no_branch
    an_ended : {top : ℕ} {sc : Scope} {k : ParKind} {b : KBlock} {bs : List KBlock} {more : Branches} → may_end k ≡ true → EachFits K top sc k bs more → EachFits K top sc k (b ∷ bs) (branch Over more)
    a_branch : {top : ℕ} {sc : Scope} {k : ParKind} {b : KBlock} {bs : List KBlock} {r : Residual} {more : Branches} → Fits K top (ABlock false sc b) r → EachFits K top sc k bs more → EachFits K top sc k (b ∷ bs) (branch r more)

  -- the instances of a block, which has none inside an async
  pub data AllFit (K : Kernel) : (top : ℕ) → Scope → Instances → Type 0 where
    none_lives : {top : ℕ} {sc : Scope} → AllFit K top sc no_instance
    one_lives : {top : ℕ} {sc : Scope} {seat : Seat} {r : Residual} {more : Instances} (k : KCode) → is_trail sc.place ≡ true → code_at seat.code K.codes ≡ Some k
        → Fits K top (code_part K seat.code k) r → AllFit K top sc more → AllFit K top sc (instance seat r more)

-- ---- a turn that is on: the frames around a leaf, each with the place of its part and that of the part inside

pub data FrameFits (K : Kernel) (top : ℕ) : Frame → Part → Part → Type 0 where
  around_statement : {turn : Bool} {sc : Scope} {b : KBlock} {fin rest : List KNode} {all : Instances} {s : KNode} (done : List KNode)
      → (out-KBlock b).list ≡ done ++ s ∷ rest → fin ≡ finalizers_of [] done → AllFit K top sc all
      → FrameFits K top (OfBlock b fin all rest) (ABlock turn sc b) (AStatement (block_scope sc b) s)
  around_end : {turn : Bool} {sc : Scope} {b : KBlock} {fin : List KNode} {all : Instances}
      → fin ≡ finalizers_of [] (out-KBlock b).list → AllFit K top sc all → FrameFits K top (OfBlock b fin all []) (ABlock turn sc b) AnEnd
  around_instance : {turn : Bool} {sc : Scope} {b : KBlock} {fin rest : List KNode} {before after : Instances} {seat : Seat} {r : Residual} {s : KNode} (done : List KNode) (k : KCode)
      → (out-KBlock b).list ≡ done ++ s ∷ rest → fin ≡ finalizers_of [] done → Fits K top (AStatement (block_scope sc b) s) r
      → AllFit K top sc before → AllFit K top sc after → is_trail sc.place ≡ true → code_at seat.code K.codes ≡ Some k
      → FrameFits K top (OfInstance b fin before seat after r rest) (ABlock turn sc b) (code_part K seat.code k)
  around_part : {sc : Scope} {s : KNode} (b : KBlock) → opens_part (out-KStmt s.stmt) b → FrameFits K top (OfOpen s) (AStatement sc s) (ABlock false (part_scope K sc s.node (out-KStmt s.stmt)) b)
  around_turn : {sc : Scope} {s : KNode} {c : Counter} (k : KLoop) (b : KBlock) → out-KStmt s.stmt ≡ KStmt-F.Loop k b → counts k c ≡ true
      → FrameFits K top (OfLoop s c) (AStatement sc s) (ABlock true (turn_scope K sc s.node k) b)
  around_call : {sc : Scope} {s : KNode} (c : ℕ) (es f t : _) (k : KCode) → out-KStmt s.stmt ≡ KStmt-F.AwaitCode c es f t → code_at c K.codes ≡ Some k
      → FrameFits K top (OfCall s) (AStatement sc s) (code_part K c k)
  around_branch : {sc : Scope} {s : KNode} {before after : Branches} (k : ParKind) (slot : ℕ) (bs : List KBlock) (b : KBlock) (cs : List KBlock) → out-KStmt s.stmt ≡ KStmt-F.Par k slot (bs ++ b ∷ cs)
      → EachFits K top sc k bs before → EachFits K top sc k cs after → FrameFits K top (OfPar s before after) (AStatement sc s) (ABlock false sc b)

-- from the place of the whole to that of the leaf
pub data Around (K : Kernel) (top : ℕ) (A : Type 0) : Focus A → Part → Part → Type 0 where
  nothing_around : {a : A} {d : Part} → Around K top A (Here a) d d
  one_around : {fr : Frame} {f : Focus A} {d e g : Part} → FrameFits K top fr d e → Around K top A f e g → Around K top A (In fr f) d g

-- what a trail whose turn is on may be at
pub data ActFits : Part → Act → Type 0 where
  begins : {turn : Bool} {sc : Scope} {b : KBlock} → ActFits (ABlock turn sc b) (Begin b)
  heads : {sc : Scope} {b : KBlock} → ActFits (ABlock true sc b) AtHead
  goes_again : {sc : Scope} {b : KBlock} → ActFits (ABlock true sc b) Again
  starts : {sc : Scope} {s : KNode} → ActFits (AStatement sc s) (Start s)
  finishes : {sc : Scope} {s : KNode} {v : ℤ} → pauses (out-KStmt s.stmt) ≡ true → ActFits (AStatement sc s) (Finish s v)
  ends : ActFits AnEnd AtEnd

pub record TurnFits (K : Kernel) (top : ℕ) (d : Part) (f : Focus Act) : Type 0 where
  pub part : Part
  pub around : Around K top Act f d part
  pub acts : ActFits part (leaf f)

-- ---- what a part at that place may come to in a turn of that level

-- whether a trail goes there, rather than an async or a finalizer
abbrev pub in_trail : Part → Type 0
in_trail (ABlock turn sc b) = is_trail sc.place ≡ true
in_trail (AStatement sc s) = is_trail sc.place ≡ true
in_trail AnEnd = ⊥

-- the block or statement that an exit leads to
abbrev pub aim_node : Aim → ℕ
aim_node (DoAim n t) = n
aim_node (BodyAim n t) = n
aim_node (LoopAim n) = n

abbrev pub aimed : ℕ → List Aim → Bool
aimed n [] = false
aimed n (a ∷ aims) = (n == aim_node a) || aimed n aims

-- A statement is gone past, a finalizer registers itself, the end of a block and a loop's head are reached, a block ends, and an exit leads to one of the
-- aims around it.
abbrev pub Comes : Kernel → (level : ℕ) → Part → Outcome → Type 0
Comes K n d (Goes g) = TurnFits K (suc n) d g
Comes K n d (Rests r) = in_trail d × Fits K (suc n) d r
Comes K n d (Raises r) = in_trail d × Fits K (suc (suc n)) d r
Comes K n d (Fails e r) = Unit {0}
Comes K n (AStatement sc s) Past = is_finalizer s.stmt ≡ false
Comes K n (AStatement sc s) (Registers q) = (s ≡ q) × (is_finalizer s.stmt ≡ true)
Comes K n (AStatement sc s) (Leaves node x) = aimed node sc.aims ≡ true
Comes K n AnEnd AtBlockEnd = Unit {0}
Comes K n (ABlock true sc b) AtLoopHead = Unit {0}
Comes K n (ABlock turn sc b) (Ends v) = Unit {0}
Comes K n (ABlock turn sc b) (Leaves node x) = (aimed node sc.aims ≡ true) × ((node == (out-KBlock b).node) ≡ false)
Comes K n d x = ⊥

-- ---- configurations

-- Where an ended program, or one with a fault, has nothing left.
abbrev pub ConfigFits : Kernel → Config → Type 0
ConfigFits K (Turning n f w) = TurnFits K (suc n) (program_part K) f
ConfigFits K (Between n r w) = Fits K (suc n) (program_part K) r
ConfigFits K (Waiting r w) = Fits K 0 (program_part K) r
ConfigFits K (Ended v w) = Unit {0}
ConfigFits K (Faulted e w) = Unit {0}
