-- Leaves in lexical order.
use Rattle.std.proofs.Common.{◌≡◌, refl, sym, ap, ◌∙◌, ℕ, ℤ, Bool, true, false, if◌then◌else◌, ◌==◌, List, [], ◌∷◌, ◌++◌, Option, Some, None, map}
use Rattle.ceu_tree.specs.declared.kernel.KNode.{KNode}
use Rattle.ceu_tree.specs.declared.kernel.KBlock.{KBlock}
use Rattle.ceu_tree.specs.Residual.{Act, Finish, Seat, Residual, Over, Run, WaitInput, WaitTime, WaitEvent, WaitForever, InAsync, Block, Open, Loop, Call, Par, Branches, no_branch, branch, Instances, no_instance, instance}
use Rattle.ceu_tree.specs.Focus.{Frame, OfBlock, OfOpen, OfLoop, OfCall, Focus, leaf, here, under, or_else, ChosenBranch, no_chosen_branch, chosen_branch, ChosenInstance, no_chosen_instance, chosen_instance, first_branch, first_instance, in_par, in_block, choose, choose_branch, choose_instance}
use Rattle.ceu_tree.specs.Wake.{each_leaf, each_in_branches, each_in_instances, leaves, leaves_of_branches, leaves_of_instances, runs_at, by_event, by_input, Unserved, unserved}
use Rattle.laws_meaning_basics.specs.Order.{first_of, leaf_of, FirstRuns, FirstServed, EventWakes, InputWakes}

-- ---- the first leaf

module _ (A : Type 0) (pick : Residual → Option A) where
  or_none : (o : Option A) → o ≡ or_else o None
  or_none None = refl
  or_none (Some a) = refl

  or_or : (a b c : Option A) → or_else a (or_else b c) ≡ or_else (or_else a b) c
  or_or None b c = refl
  or_or (Some x) b c = refl

  first_append : (xs ys : List Residual) → first_of pick (xs ++ ys) ≡ or_else (first_of pick xs) (first_of pick ys)
  first_append [] ys = refl
  first_append (x ∷ xs) ys = ap (or_else (pick x)) (first_append xs ys) ∙ or_or (pick x) (first_of pick xs) (first_of pick ys)

  leaf_or : (o q : Option (Focus A)) → leaf_of (or_else o q) ≡ or_else (leaf_of o) (leaf_of q)
  leaf_or None q = refl
  leaf_or (Some f) q = refl

  leaf_under : (fr : Frame) (o : Option (Focus A)) → leaf_of (under fr o) ≡ leaf_of o
  leaf_under fr None = refl
  leaf_under fr (Some f) = refl

  leaf_here : (o : Option A) → leaf_of (here o) ≡ or_else o None
  leaf_here None = refl
  leaf_here (Some a) = refl

  abbrev of_branch : ChosenBranch A → Option A
  of_branch no_chosen_branch = None
  of_branch (chosen_branch before f after) = Some (leaf f)

  abbrev of_instance : ChosenInstance A → Option A
  of_instance no_chosen_instance = None
  of_instance (chosen_instance before seat f after) = Some (leaf f)

  leaf_par : (s : KNode) (c : ChosenBranch A) → leaf_of (in_par s c) ≡ of_branch c
  leaf_par s no_chosen_branch = refl
  leaf_par s (chosen_branch before f after) = refl

  leaf_block : (b : KBlock) (fin : List KNode) (r : Residual) (rest : List KNode) (c : ChosenInstance A) → leaf_of (in_block b fin r rest c) ≡ of_instance c
  leaf_block b fin r rest no_chosen_instance = refl
  leaf_block b fin r rest (chosen_instance before seat f after) = refl

  branch_or : (r : Residual) (more : Branches) (o : Option (Focus A)) (c : ChosenBranch A) → of_branch (first_branch r more o c) ≡ or_else (leaf_of o) (of_branch c)
  branch_or r more None no_chosen_branch = refl
  branch_or r more None (chosen_branch before f after) = refl
  branch_or r more (Some f) c = refl

  instance_or : (seat : Seat) (r : Residual) (more : Instances) (o : Option (Focus A)) (c : ChosenInstance A) → of_instance (first_instance seat r more o c) ≡ or_else (leaf_of o) (of_instance c)
  instance_or seat r more None no_chosen_instance = refl
  instance_or seat r more None (chosen_instance before other f after) = refl
  instance_or seat r more (Some f) c = refl

  mutual
    unfolding choose leaves

    pub choose_first : (r : Residual) → leaf_of (choose A pick r) ≡ first_of pick (leaves r)
    choose_first (Block b fin all r rest) =
        leaf_or (in_block b fin r rest (choose_instance A pick all)) (under (OfBlock b fin all rest) (choose A pick r)) ∙
        ap (λ o. or_else o (leaf_of (under (OfBlock b fin all rest) (choose A pick r)))) (leaf_block b fin r rest (choose_instance A pick all) ∙ instances_first all) ∙
        ap (or_else (first_of pick (leaves_of_instances all))) (leaf_under (OfBlock b fin all rest) (choose A pick r) ∙ choose_first r) ∙
        sym (first_append (leaves_of_instances all) (leaves r))
    choose_first (Open s r) = leaf_under (OfOpen s) (choose A pick r) ∙ choose_first r
    choose_first (Loop s c r) = leaf_under (OfLoop s c) (choose A pick r) ∙ choose_first r
    choose_first (Call s r) = leaf_under (OfCall s) (choose A pick r) ∙ choose_first r
    choose_first (Par s bs) = leaf_par s (choose_branch A pick bs) ∙ branches_first bs
    choose_first Over = refl
    choose_first (Run n a) = leaf_here (pick (Run n a))
    choose_first (WaitInput k s) = leaf_here (pick (WaitInput k s))
    choose_first (WaitTime d s) = leaf_here (pick (WaitTime d s))
    choose_first (WaitEvent e s) = leaf_here (pick (WaitEvent e s))
    choose_first (WaitForever s) = leaf_here (pick (WaitForever s))
    choose_first (InAsync s served r) = leaf_here (pick (InAsync s served r))

    branches_first : (bs : Branches) → of_branch (choose_branch A pick bs) ≡ first_of pick (leaves_of_branches bs)
    branches_first no_branch = refl
    branches_first (branch r more) =
        branch_or r more (choose A pick r) (choose_branch A pick more) ∙ ap (λ o. or_else o (of_branch (choose_branch A pick more))) (choose_first r) ∙
        ap (or_else (first_of pick (leaves r))) (branches_first more) ∙ sym (first_append (leaves r) (leaves_of_branches more))

    instances_first : (all : Instances) → of_instance (choose_instance A pick all) ≡ first_of pick (leaves_of_instances all)
    instances_first no_instance = refl
    instances_first (instance seat r more) =
        instance_or seat r more (choose A pick r) (choose_instance A pick more) ∙ ap (λ o. or_else o (of_instance (choose_instance A pick more))) (choose_first r) ∙
        ap (or_else (first_of pick (leaves r))) (instances_first more) ∙ sym (first_append (leaves r) (leaves_of_instances more))

pub first_runs : FirstRuns
first_runs n r = choose_first Act (runs_at n) r

pub first_served : FirstServed
first_served r = choose_first Unserved unserved r

-- ---- what wakes

abbrev is_leaf : Residual → Bool
is_leaf (Run n a) = true
is_leaf (WaitInput k s) = true
is_leaf (WaitTime d s) = true
is_leaf (WaitEvent e s) = true
is_leaf (WaitForever s) = true
is_leaf (InAsync s served r) = true
is_leaf _ = false

map_append : (f : Residual → Residual) (xs ys : List Residual) → map f (xs ++ ys) ≡ map f xs ++ map f ys
map_append f [] ys = refl
map_append f (x ∷ xs) ys = ap (λ l. f x ∷ l) (map_append f xs ys)

module _ (f : Residual → Residual) (keeps : (r : Residual) → is_leaf r ≡ true → leaves (f r) ≡ f r ∷ []) where
  mutual
    unfolding each_leaf leaves

    each_leaves : (r : Residual) → leaves (each_leaf f r) ≡ map f (leaves r)
    each_leaves (Block b fin all r rest) =
        ap (λ l. l ++ leaves (each_leaf f r)) (each_instances_leaves all) ∙ ap (λ l. map f (leaves_of_instances all) ++ l) (each_leaves r) ∙ sym (map_append f (leaves_of_instances all) (leaves r))
    each_leaves (Open s r) = each_leaves r
    each_leaves (Loop s c r) = each_leaves r
    each_leaves (Call s r) = each_leaves r
    each_leaves (Par s bs) = each_branches_leaves bs
    each_leaves Over = refl
    each_leaves (Run n a) = keeps (Run n a) refl
    each_leaves (WaitInput k s) = keeps (WaitInput k s) refl
    each_leaves (WaitTime d s) = keeps (WaitTime d s) refl
    each_leaves (WaitEvent e s) = keeps (WaitEvent e s) refl
    each_leaves (WaitForever s) = keeps (WaitForever s) refl
    each_leaves (InAsync s served r) = keeps (InAsync s served r) refl

    each_branches_leaves : (bs : Branches) → leaves_of_branches (each_in_branches f bs) ≡ map f (leaves_of_branches bs)
    each_branches_leaves no_branch = refl
    each_branches_leaves (branch r more) =
        ap (λ l. l ++ leaves_of_branches (each_in_branches f more)) (each_leaves r) ∙ ap (λ l. map f (leaves r) ++ l) (each_branches_leaves more) ∙ sym (map_append f (leaves r) (leaves_of_branches more))

    each_instances_leaves : (all : Instances) → leaves_of_instances (each_in_instances f all) ≡ map f (leaves_of_instances all)
    each_instances_leaves no_instance = refl
    each_instances_leaves (instance seat r more) =
        ap (λ l. l ++ leaves_of_instances (each_in_instances f more)) (each_leaves r) ∙ ap (λ l. map f (leaves r) ++ l) (each_instances_leaves more) ∙ sym (map_append f (leaves r) (leaves_of_instances more))

either_leaf : (b : Bool) (level : ℕ) (a : Act) (r : Residual) → leaves r ≡ r ∷ [] → leaves (if b then Run level a else r) ≡ (if b then Run level a else r) ∷ []
unfolding leaves
either_leaf true level a r h = refl
either_leaf false level a r h = h

by_event_leaf : (level event : ℕ) (v : ℤ) (r : Residual) → is_leaf r ≡ true → leaves (by_event level event v r) ≡ by_event level event v r ∷ []
unfolding leaves
by_event_leaf level event v (WaitEvent e s) h = either_leaf (e == event) level (Finish s v) (WaitEvent e s) refl
by_event_leaf level event v (Run n a) h = refl
by_event_leaf level event v (WaitInput k s) h = refl
by_event_leaf level event v (WaitTime d s) h = refl
by_event_leaf level event v (WaitForever s) h = refl
by_event_leaf level event v (InAsync s served r) h = refl
by_event_leaf level event v Over h = absurd (cc)
by_event_leaf level event v (Block b fin all r rest) h = absurd (cc)
by_event_leaf level event v (Open s r) h = absurd (cc)
by_event_leaf level event v (Loop s c r) h = absurd (cc)
by_event_leaf level event v (Call s r) h = absurd (cc)
by_event_leaf level event v (Par s bs) h = absurd (cc)

by_input_leaf : (input : ℕ) (v : ℤ) (r : Residual) → is_leaf r ≡ true → leaves (by_input input v r) ≡ by_input input v r ∷ []
unfolding leaves
by_input_leaf input v (WaitInput k s) h = either_leaf (k == input) 0 (Finish s v) (WaitInput k s) refl
by_input_leaf input v (Run n a) h = refl
by_input_leaf input v (WaitEvent e s) h = refl
by_input_leaf input v (WaitTime d s) h = refl
by_input_leaf input v (WaitForever s) h = refl
by_input_leaf input v (InAsync s served r) h = refl
by_input_leaf input v Over h = absurd (cc)
by_input_leaf input v (Block b fin all r rest) h = absurd (cc)
by_input_leaf input v (Open s r) h = absurd (cc)
by_input_leaf input v (Loop s c r) h = absurd (cc)
by_input_leaf input v (Call s r) h = absurd (cc)
by_input_leaf input v (Par s bs) h = absurd (cc)

pub event_wakes : EventWakes
event_wakes level event v r = each_leaves (by_event level event v) (by_event_leaf level event v) r

pub input_wakes : InputWakes
input_wakes input v r = each_leaves (by_input input v) (by_input_leaf input v) r
