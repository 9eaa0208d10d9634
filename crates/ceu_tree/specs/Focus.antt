-- A turn that is on: the leaf whose turn it is, under the list of the open parts around it, the outermost first. A part around it is a frame, which
-- holds the part's other branches, instances and statements. (This project's own form of the one leaf that is running.)
use Rattle.std.specs.Prelude.{List, Option, Some, None, Bool, true, false, ◌||◌}
use Rattle.ceu_tree.specs.declared.kernel.KNode.{KNode}
use Rattle.ceu_tree.specs.declared.kernel.KBlock.{KBlock}
use Rattle.ceu_tree.specs.Residual.{Body, Awaited, Spawned, Counter, Seat, Residual, Over, Run, WaitInput, WaitTime, WaitEvent, WaitForever, InAsync, Block, Open, Loop, Call, Par, Branches, no_branch, branch, Instances, no_instance, instance}

pub data Frame : Type 0 where
  OfBlock : KBlock → (registered : List KNode) → Instances → (rest : List KNode) → Frame
  -- an instance of one of the block's pools has the turn; the block's own running part waits
  OfInstance : KBlock → (registered : List KNode) → (before : Instances) → Seat → (after : Instances) → Residual → (rest : List KNode) → Frame
  OfOpen : KNode → Frame
  OfLoop : KNode → Counter → Frame
  OfCall : KNode → Frame
  OfPar : KNode → (before : Branches) → (after : Branches) → Frame

pub data Focus (A : Type 0) : Type 0 where
  Here : A → Focus A
  In : Frame → Focus A → Focus A

-- ---- the tree of a focus whose leaf has become something else

abbrev pub join : Branches → Branches → Branches
join no_branch bs = bs
join (branch r more) bs = branch r (join more bs)

abbrev pub join_instances : Instances → Instances → Instances
join_instances no_instance js = js
join_instances (instance seat r more) js = instance seat r (join_instances more js)

abbrev pub fill : Frame → Residual → Residual
fill (OfBlock b fin all rest) r = Block b fin all r rest
fill (OfInstance b fin before seat after running rest) r = Block b fin (join_instances before (instance seat r after)) running rest
fill (OfOpen s) r = Open s r
fill (OfLoop s c) r = Loop s c r
fill (OfCall s) r = Call s r
fill (OfPar s before after) r = Par s (join before (branch r after))

abbrev pub plug : {A : Type 0} → Focus A → Residual → Residual
plug (Here a) r = r
plug (In fr f) r = fill fr (plug f r)

abbrev pub graft : {A B : Type 0} → Focus A → Focus B → Focus B
graft (Here a) x = x
graft (In fr f) x = In fr (graft f x)

abbrev pub leaf : {A : Type 0} → Focus A → A
leaf (Here a) = a
leaf (In fr f) = leaf f

-- ---- the open body that a leaf is in

abbrev pub body_in : Frame → Body → Body
body_in (OfCall s) body = Awaited body s.node
body_in (OfInstance b fin before seat after r rest) body = Spawned seat.number
body_in _ body = body

abbrev pub body_of : {A : Type 0} → Focus A → Body → Body
body_of (Here a) body = body
body_of (In fr f) body = body_of f (body_in fr body)

-- whether a frame begins an open body, and whether one of a focus does
abbrev pub begins_body : Frame → Bool
begins_body (OfCall s) = true
begins_body (OfInstance b fin before seat after r rest) = true
begins_body _ = false

abbrev pub has_body : {A : Type 0} → Focus A → Bool
has_body (Here a) = false
has_body (In fr f) = begins_body fr || has_body f

-- ---- the first leaf in lexical order of which `pick` gives something

abbrev pub here : {A : Type 0} → Option A → Option (Focus A)
here None = None
here (Some a) = Some (Here a)

abbrev pub under : {A : Type 0} → Frame → Option (Focus A) → Option (Focus A)
under fr None = None
under fr (Some f) = Some (In fr f)

abbrev pub or_else : {A : Type 0} → Option A → Option A → Option A
or_else (Some a) other = Some a
or_else None other = other

-- one of several branches, and one of several instances
pub data ChosenBranch (A : Type 0) : Type 0 where
  no_chosen_branch : ChosenBranch A
  chosen_branch : (before : Branches) → Focus A → (after : Branches) → ChosenBranch A

pub data ChosenInstance (A : Type 0) : Type 0 where
  no_chosen_instance : ChosenInstance A
  chosen_instance : (before : Instances) → Seat → Focus A → (after : Instances) → ChosenInstance A

abbrev pub first_branch : {A : Type 0} → Residual → Branches → Option (Focus A) → ChosenBranch A → ChosenBranch A
first_branch r more (Some f) other = chosen_branch no_branch f more
first_branch r more None no_chosen_branch = no_chosen_branch
first_branch r more None (chosen_branch before f after) = chosen_branch (branch r before) f after

abbrev pub first_instance : {A : Type 0} → Seat → Residual → Instances → Option (Focus A) → ChosenInstance A → ChosenInstance A
first_instance seat r more (Some f) other = chosen_instance no_instance seat f more
first_instance seat r more None no_chosen_instance = no_chosen_instance
first_instance seat r more None (chosen_instance before s f after) = chosen_instance (instance seat r before) s f after

abbrev pub in_par : {A : Type 0} → KNode → ChosenBranch A → Option (Focus A)
in_par s no_chosen_branch = None
in_par s (chosen_branch before f after) = Some (In (OfPar s before after) f)

abbrev pub in_block : {A : Type 0} → KBlock → List KNode → Residual → List KNode → ChosenInstance A → Option (Focus A)
in_block b fin r rest no_chosen_instance = None
in_block b fin r rest (chosen_instance before seat f after) = Some (In (OfInstance b fin before seat after r rest) f)

module _ (A : Type 0) (pick : Residual → Option A) where
  unfoldable mutual
    pub choose : Residual → Option (Focus A)
    choose (Block b fin all r rest) = or_else (in_block b fin r rest (choose_instance all)) (under (OfBlock b fin all rest) (choose r))
    choose (Open s r) = under (OfOpen s) (choose r)
    choose (Loop s c r) = under (OfLoop s c) (choose r)
    choose (Call s r) = under (OfCall s) (choose r)
    choose (Par s bs) = in_par s (choose_branch bs)
    choose Over = None
    choose (Run n a) = here (pick (Run n a))
    choose (WaitInput k s) = here (pick (WaitInput k s))
    choose (WaitTime d s) = here (pick (WaitTime d s))
    choose (WaitEvent e s) = here (pick (WaitEvent e s))
    choose (WaitForever s) = here (pick (WaitForever s))
    choose (InAsync s served r) = here (pick (InAsync s served r))

    pub choose_branch : Branches → ChosenBranch A
    choose_branch no_branch = no_chosen_branch
    choose_branch (branch r more) = first_branch r more (choose r) (choose_branch more)

    pub choose_instance : Instances → ChosenInstance A
    choose_instance no_instance = no_chosen_instance
    choose_instance (instance seat r more) = first_instance seat r more (choose r) (choose_instance more)
