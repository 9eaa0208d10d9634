-- What stands registered in a focus, and in the tree that it is of.
use Rattle.std.proofs.Common.{◌≡◌, refl, ap, ◌+◌, List, Option, Some, None, arith}
use Rattle.ceu_base.specs.declared.kinds.Pos.{Pos}
use Rattle.ceu_tree.specs.declared.kernel.KNode.{KNode}
use Rattle.ceu_tree.specs.declared.kernel.KBlock.{KBlock}
use Rattle.ceu_tree.specs.Residual.{Seat, Residual, Over, Run, WaitInput, WaitTime, WaitEvent, WaitForever, InAsync, Block, Open, Loop, Call, Par, Branches, no_branch, branch, Instances, no_instance, instance}
use Rattle.ceu_tree.specs.Focus.{Frame, OfBlock, OfInstance, OfOpen, OfLoop, OfCall, OfPar, Focus, Here, In, join, join_instances, fill, plug, graft, leaf, here, under, or_else, ChosenBranch, no_chosen_branch, chosen_branch, ChosenInstance, no_chosen_instance, chosen_instance, first_branch, first_instance, in_par, in_block, choose, choose_branch, choose_instance}
use Rattle.laws_meaning_basics.specs.Finalizers.{standing, standing_branches, standing_instances, standing_frame, standing_focus}

pub join_stands : (p : Pos) (before bs : Branches) → standing_branches p (join before bs) ≡ standing_branches p before + standing_branches p bs
unfolding standing
join_stands p no_branch bs = omega arith
join_stands p (branch r more) bs = omega (arith, join_stands p more bs)

pub join_instances_stands : (p : Pos) (before all : Instances) → standing_instances p (join_instances before all) ≡ standing_instances p before + standing_instances p all
unfolding standing
join_instances_stands p no_instance all = omega arith
join_instances_stands p (instance seat r more) all = omega (arith, join_instances_stands p more all)

pub fill_stands : (p : Pos) (fr : Frame) (r : Residual) → standing p (fill fr r) ≡ standing_frame p fr + standing p r
unfolding standing
fill_stands p (OfBlock b fin all rest) r = refl
fill_stands p (OfInstance b fin before seat after running rest) r = omega (arith, join_instances_stands p before (instance seat r after))
fill_stands p (OfOpen s) r = omega arith
fill_stands p (OfLoop s c) r = omega arith
fill_stands p (OfCall s) r = omega arith
fill_stands p (OfPar s before after) r = omega (arith, join_stands p before (branch r after))

pub plug_stands : {A : Type 0} (p : Pos) (f : Focus A) (r : Residual) → standing p (plug f r) ≡ standing_focus p f + standing p r
unfolding standing_focus
plug_stands p (Here a) r = omega arith
plug_stands p (In fr f) r = omega (arith, fill_stands p fr (plug f r), plug_stands p f r)

pub graft_stands : {A B : Type 0} (p : Pos) (f : Focus A) (x : Focus B) → standing_focus p (graft f x) ≡ standing_focus p f + standing_focus p x
unfolding standing_focus
graft_stands p (Here a) x = omega arith
graft_stands p (In fr f) x = omega (arith, graft_stands p f x)

-- ---- the chosen leaf is a leaf of the tree, on which `pick` gave what was chosen

pub record Found (A : Type 0) (pick : Residual → Option A) (r : Residual) (f : Focus A) : Type 0 where
  pub was : Residual
  pub picked : pick was ≡ Some (leaf f)
  pub plugs : plug f was ≡ r

module _ (A : Type 0) (pick : Residual → Option A) where
  abbrev pub FoundIn : Residual → Option (Focus A) → Type 0
  FoundIn r None = Unit {0}
  FoundIn r (Some f) = Found A pick r f

  pub record FoundBranch (bs before : Branches) (f : Focus A) (after : Branches) : Type 0 where
    pub was : Residual
    pub picked : pick was ≡ Some (leaf f)
    pub plugs : join before (branch (plug f was) after) ≡ bs

  abbrev pub BranchFound : Branches → ChosenBranch A → Type 0
  BranchFound bs no_chosen_branch = Unit {0}
  BranchFound bs (chosen_branch before f after) = FoundBranch bs before f after

  pub record FoundInstance (all before : Instances) (seat : Seat) (f : Focus A) (after : Instances) : Type 0 where
    pub was : Residual
    pub picked : pick was ≡ Some (leaf f)
    pub plugs : join_instances before (instance seat (plug f was) after) ≡ all

  abbrev pub InstanceFound : Instances → ChosenInstance A → Type 0
  InstanceFound all no_chosen_instance = Unit {0}
  InstanceFound all (chosen_instance before seat f after) = FoundInstance all before seat f after

  here_found : (r : Residual) → FoundIn r (here (pick r))
  here_found r = go (pick r) refl
    where
      go : (o : Option A) → pick r ≡ o → FoundIn r (here o)
      go None e = tt
      go (Some a) e = record { was = r; picked = e; plugs = refl }

  or_else_found : (r : Residual) (o q : Option (Focus A)) → FoundIn r o → FoundIn r q → FoundIn r (or_else o q)
  or_else_found r None q h k = k
  or_else_found r (Some f) q h k = h

  under_found : (fr : Frame) (r : Residual) (o : Option (Focus A)) → FoundIn r o → FoundIn (fill fr r) (under fr o)
  under_found fr r None h = tt
  under_found fr r (Some f) h = record { was = h.was; picked = h.picked; plugs = ap (fill fr) h.plugs }

  in_par_found : (s : KNode) (bs : Branches) (c : ChosenBranch A) → BranchFound bs c → FoundIn (Par s bs) (in_par s c)
  in_par_found s bs no_chosen_branch h = tt
  in_par_found s bs (chosen_branch before f after) h = record { was = h.was; picked = h.picked; plugs = ap (Par s) h.plugs }

  in_block_found : (b : KBlock) (fin : List KNode) (all : Instances) (r : Residual) (rest : List KNode) (c : ChosenInstance A) → InstanceFound all c → FoundIn (Block b fin all r rest) (in_block b fin r rest c)
  in_block_found b fin all r rest no_chosen_instance h = tt
  in_block_found b fin all r rest (chosen_instance before seat f after) h = record { was = h.was; picked = h.picked; plugs = ap (λ x. Block b fin x r rest) h.plugs }

  first_branch_found : (r : Residual) (more : Branches) (o : Option (Focus A)) (c : ChosenBranch A) → FoundIn r o → BranchFound more c → BranchFound (branch r more) (first_branch r more o c)
  first_branch_found r more (Some f) c h k = record { was = h.was; picked = h.picked; plugs = ap (λ x. branch x more) h.plugs }
  first_branch_found r more None no_chosen_branch h k = tt
  first_branch_found r more None (chosen_branch before f after) h k = record { was = k.was; picked = k.picked; plugs = ap (branch r) k.plugs }

  first_instance_found : (seat : Seat) (r : Residual) (more : Instances) (o : Option (Focus A)) (c : ChosenInstance A) → FoundIn r o → InstanceFound more c
      → InstanceFound (instance seat r more) (first_instance seat r more o c)
  first_instance_found seat r more (Some f) c h k = record { was = h.was; picked = h.picked; plugs = ap (λ x. instance seat x more) h.plugs }
  first_instance_found seat r more None no_chosen_instance h k = tt
  first_instance_found seat r more None (chosen_instance before other f after) h k = record { was = k.was; picked = k.picked; plugs = ap (instance seat r) k.plugs }

  mutual
    unfolding choose

    pub choose_found : (r : Residual) → FoundIn r (choose A pick r)
    choose_found (Block b fin all r rest) =
        or_else_found (Block b fin all r rest) _ _ (in_block_found b fin all r rest _ (instance_found all)) (under_found (OfBlock b fin all rest) r _ (choose_found r))
    choose_found (Open s r) = under_found (OfOpen s) r _ (choose_found r)
    choose_found (Loop s c r) = under_found (OfLoop s c) r _ (choose_found r)
    choose_found (Call s r) = under_found (OfCall s) r _ (choose_found r)
    choose_found (Par s bs) = in_par_found s bs _ (branch_found bs)
    choose_found Over = tt
    choose_found (Run n a) = here_found (Run n a)
    choose_found (WaitInput k s) = here_found (WaitInput k s)
    choose_found (WaitTime d s) = here_found (WaitTime d s)
    choose_found (WaitEvent e s) = here_found (WaitEvent e s)
    choose_found (WaitForever s) = here_found (WaitForever s)
    choose_found (InAsync s served r) = here_found (InAsync s served r)

    pub branch_found : (bs : Branches) → BranchFound bs (choose_branch A pick bs)
    branch_found no_branch = tt
    branch_found (branch r more) = first_branch_found r more _ _ (choose_found r) (branch_found more)

    pub instance_found : (all : Instances) → InstanceFound all (choose_instance A pick all)
    instance_found no_instance = tt
    instance_found (instance seat r more) = first_instance_found seat r more _ _ (choose_found r) (instance_found more)
