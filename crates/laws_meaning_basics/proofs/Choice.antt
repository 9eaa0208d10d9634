-- The leaf that is chosen of a tree that fits may stand where it is, and a tree of which none is chosen fits under the next lower level.
use Rattle.std.proofs.Common.{◌≡◌, refl, ap, ◌∙◌, ◌<◌, ℕ, suc, Bool, true, false, if◌then◌else◌, ◌==◌, List, [], ◌∷◌, ◌++◌, Option, Some, None, arith}
use Rattle.std.proofs.lemmas.Bool.{eqb-false}
use Rattle.ceu_tree.specs.declared.kernel.Kernel.{Kernel}
use Rattle.ceu_tree.specs.declared.kernel.KCode.{KCode}
use Rattle.ceu_tree.specs.declared.kernel.ParKind.{ParKind}
use Rattle.ceu_tree.specs.declared.kernel.KNode.{KNode}
use Rattle.ceu_tree.specs.declared.kernel.KBlock.{KBlock, out-KBlock}
use Rattle.ceu_tree.specs.declared.kernel.KStmt.{out-KStmt}
use Rattle.ceu_tree.specs.declared.kernel.KStmt.TheOpen.{KStmt-F}
use Rattle.ceu_tree.specs.Residual.{Act, Seat, Residual, Over, Block, Branches, branch, Instances}
use Rattle.ceu_tree.specs.Focus.{Frame, Focus, leaf, here, under, or_else, ChosenBranch, no_chosen_branch, chosen_branch, ChosenInstance, no_chosen_instance, chosen_instance, first_branch, first_instance, in_par as in_the_par, in_block, choose, choose_branch, choose_instance}
use Rattle.ceu_tree.specs.Wake.{runs_at}
use Rattle.ceu_tree.specs.Proper.{Scope, is_trail}
use Rattle.ceu_tree.specs.Leaf.{code_at}
use Rattle.ceu_tree.specs.Legal.{finalizers_of}
use Rattle.laws_meaning_basics.specs.Shape.{Part, ABlock, AStatement, block_scope, code_part, Fits, to_begin, to_turn, in_list, to_finish, at_input, at_time, at_event, at_forever, at_async, in_part, in_turn, in_call, in_par, EachFits, no_more, an_ended, a_branch, AllFit, none_lives, one_lives, FrameFits, around_statement, around_instance, around_part, around_turn, around_call, around_branch, Around, nothing_around, one_around}

module _ (K : Kernel) (t : ℕ) (A : Type 0) (pick : Residual → Option A) where
  -- the place of the chosen leaf, and the leaf that it was
  pub record ChosenFits (d : Part) (f : Focus A) : Type 0 where
    pub part : Part
    pub around : Around K t A f d part
    pub was : Residual
    pub picked : pick was ≡ Some (leaf f)
    pub fits : Fits K t part was

  abbrev pub ChoiceFits : Part → Option (Focus A) → Type 0
  ChoiceFits d None = Unit {0}
  ChoiceFits d (Some f) = ChosenFits d f

  record BranchFits (sc : Scope) (k : ParKind) (bs : List KBlock) (before : Branches) (f : Focus A) (after : Branches) : Type 0 where
    here : List KBlock
    at : KBlock
    there : List KBlock
    list : bs ≡ here ++ at ∷ there
    first : EachFits K t sc k here before
    chosen : ChosenFits (ABlock false sc at) f
    last : EachFits K t sc k there after

  abbrev BranchChoice : Scope → ParKind → List KBlock → ChosenBranch A → Type 0
  BranchChoice sc k bs no_chosen_branch = Unit {0}
  BranchChoice sc k bs (chosen_branch before f after) = BranchFits sc k bs before f after

  record InstanceFits (sc : Scope) (before : Instances) (seat : Seat) (f : Focus A) (after : Instances) : Type 0 where
    code : KCode
    trail : is_trail sc.place ≡ true
    there : code_at seat.code K.codes ≡ Some code
    first : AllFit K t sc before
    chosen : ChosenFits (code_part K seat.code code) f
    last : AllFit K t sc after

  abbrev InstanceChoice : Scope → ChosenInstance A → Type 0
  InstanceChoice sc no_chosen_instance = Unit {0}
  InstanceChoice sc (chosen_instance before seat f after) = InstanceFits sc before seat f after

  here_choice : (d : Part) (r : Residual) → Fits K t d r → ChoiceFits d (here (pick r))
  here_choice d r h = go (pick r) refl
    where
      go : (o : Option A) → pick r ≡ o → ChoiceFits d (here o)
      go None e = tt
      go (Some a) e = record { part = d; around = nothing_around; was = r; picked = e; fits = h }

  under_choice : (fr : Frame) (d c : Part) (o : Option (Focus A)) → FrameFits K t fr d c → ChoiceFits c o → ChoiceFits d (under fr o)
  under_choice fr d c None x h = tt
  under_choice fr d c (Some f) x h = record { part = h.part; around = one_around x h.around; was = h.was; picked = h.picked; fits = h.fits }

  or_choice : (d : Part) (o q : Option (Focus A)) → ChoiceFits d o → ChoiceFits d q → ChoiceFits d (or_else o q)
  or_choice d None q h k = k
  or_choice d (Some f) q h k = h

  par_choice : (sc : Scope) (s : KNode) (k : ParKind) (slot : ℕ) (bs : List KBlock) (c : ChosenBranch A) → out-KStmt s.stmt ≡ KStmt-F.Par k slot bs → BranchChoice sc k bs c → ChoiceFits (AStatement sc s) (in_the_par s c)
  par_choice sc s k slot bs no_chosen_branch e h = tt
  par_choice sc s k slot bs (chosen_branch before f after) e h = record {
    part = h.chosen.part;
    around = one_around (around_branch k slot h.here h.at h.there (e ∙ ap (KStmt-F.Par k slot) h.list) h.first h.last) h.chosen.around;
    was = h.chosen.was;
    picked = h.chosen.picked;
    fits = h.chosen.fits;
  }

  block_choice : (turn : Bool) (sc : Scope) (b : KBlock) (fin : List KNode) (r : Residual) (rest done : List KNode) (s : KNode) (c : ChosenInstance A)
      → (out-KBlock b).list ≡ done ++ s ∷ rest → fin ≡ finalizers_of [] done → Fits K t (AStatement (block_scope sc b) s) r → InstanceChoice sc c → ChoiceFits (ABlock turn sc b) (in_block b fin r rest c)
  block_choice turn sc b fin r rest done s no_chosen_instance e f h k = tt
  block_choice turn sc b fin r rest done s (chosen_instance before seat g after) e f h k = record {
    part = k.chosen.part;
    around = one_around (around_instance done k.code e f h k.first k.last k.trail k.there) k.chosen.around;
    was = k.chosen.was;
    picked = k.chosen.picked;
    fits = k.chosen.fits;
  }

  first_branch_choice : (sc : Scope) (k : ParKind) (b : KBlock) (bs : List KBlock) (r : Residual) (more : Branches) (o : Option (Focus A)) (c : ChosenBranch A)
      → ((cs : List KBlock) (rs : Branches) → EachFits K t sc k cs rs → EachFits K t sc k (b ∷ cs) (branch r rs)) → EachFits K t sc k bs more → ChoiceFits (ABlock false sc b) o → BranchChoice sc k bs c → BranchChoice sc k (b ∷ bs) (first_branch r more o c)
  first_branch_choice sc k b bs r more (Some f) c q m h x = record { here = []; at = b; there = bs; list = refl; first = no_more; chosen = h; last = m }
  first_branch_choice sc k b bs r more None no_chosen_branch q m h x = tt
  first_branch_choice sc k b bs r more None (chosen_branch before f after) q m h x =
      record { here = b ∷ x.here; at = x.at; there = x.there; list = ap (◌∷◌ b) x.list; first = q x.here before x.first; chosen = x.chosen; last = x.last }

  first_instance_choice : (sc : Scope) (seat : Seat) (r : Residual) (more : Instances) (o : Option (Focus A)) (c : ChosenInstance A) (k : KCode)
      → is_trail sc.place ≡ true → code_at seat.code K.codes ≡ Some k → Fits K t (code_part K seat.code k) r → AllFit K t sc more → ChoiceFits (code_part K seat.code k) o → InstanceChoice sc c → InstanceChoice sc (first_instance seat r more o c)
  first_instance_choice sc seat r more (Some f) c k p e h m x y = record { code = k; trail = p; there = e; first = none_lives; chosen = x; last = m }
  first_instance_choice sc seat r more None no_chosen_instance k p e h m x y = tt
  first_instance_choice sc seat r more None (chosen_instance before other f after) k p e h m x y =
      record { code = y.code; trail = y.trail; there = y.there; first = one_lives k p e h y.first; chosen = y.chosen; last = y.last }

  mutual
    unfolding choose

    pub choice_fits : {d : Part} {r : Residual} → Fits K t d r → ChoiceFits d (choose A pick r)
    choice_fits (to_begin l) = here_choice _ _ (to_begin l)
    choice_fits (to_turn l p) = here_choice _ _ (to_turn l p)
    choice_fits {d = ABlock turn sc b} {r = Block c fin all r rest} (in_list done e f x h) =
        or_choice _ _ _ (block_choice _ _ _ _ _ _ done _ _ e f h (instance_choice x)) (under_choice _ _ _ _ (around_statement done e f x) (choice_fits h))
    choice_fits (to_finish l p) = here_choice _ _ (to_finish l p)
    choice_fits (at_input x e) = here_choice _ _ (at_input x e)
    choice_fits (at_time x y z e) = here_choice _ _ (at_time x y z e)
    choice_fits (at_event x e) = here_choice _ _ (at_event x e)
    choice_fits (at_forever e) = here_choice _ _ (at_forever e)
    choice_fits (at_async b e h) = here_choice _ _ (at_async b e h)
    choice_fits (in_part b e h) = under_choice _ _ _ _ (around_part b e) (choice_fits h)
    choice_fits (in_turn k b e c h) = under_choice _ _ _ _ (around_turn k b e c) (choice_fits h)
    choice_fits (in_call c es f x k e a h) = under_choice _ _ _ _ (around_call c es f x k e a) (choice_fits h)
    choice_fits (in_par k slot bs e on h) = par_choice _ _ k slot bs _ e (branch_choice h)

    branch_choice : {sc : Scope} {k : ParKind} {bs : List KBlock} {rs : Branches} → EachFits K t sc k bs rs → BranchChoice sc k bs (choose_branch A pick rs)
    branch_choice no_more = tt
    branch_choice (an_ended m h) = first_branch_choice _ _ _ _ _ _ None _ (λ cs rs y. an_ended m y) h tt (branch_choice h)
    branch_choice (a_branch h more) = first_branch_choice _ _ _ _ _ _ _ _ (λ cs rs y. a_branch h y) more (choice_fits h) (branch_choice more)

    instance_choice : {sc : Scope} {all : Instances} → AllFit K t sc all → InstanceChoice sc (choose_instance A pick all)
    instance_choice none_lives = tt
    instance_choice (one_lives k p e h more) = first_instance_choice _ _ _ _ _ _ k p e h more (choice_fits h) (instance_choice more)

-- ---- where no leaf runs at the top level

none_of_or : {A : Type 0} (o q : Option A) → or_else o q ≡ None → (o ≡ None) × (q ≡ None)
none_of_or None q h = (refl, h)
none_of_or (Some a) q h = absurd (cc)

none_under : {A : Type 0} (fr : Frame) (o : Option (Focus A)) → under fr o ≡ None → o ≡ None
none_under fr None h = refl
none_under fr (Some f) h = absurd (cc)

module _ (A : Type 0) where
  none_in_par : (s : KNode) (c : ChosenBranch A) → in_the_par s c ≡ None → c ≡ no_chosen_branch
  none_in_par s no_chosen_branch h = refl
  none_in_par s (chosen_branch before f after) h = absurd (cc)

  none_in_block : (b : KBlock) (fin : List KNode) (r : Residual) (rest : List KNode) (c : ChosenInstance A) → in_block b fin r rest c ≡ None → c ≡ no_chosen_instance
  none_in_block b fin r rest no_chosen_instance h = refl
  none_in_block b fin r rest (chosen_instance before seat f after) h = absurd (cc)

  none_of_branches : (r : Residual) (more : Branches) (o : Option (Focus A)) (c : ChosenBranch A) → first_branch r more o c ≡ no_chosen_branch → (o ≡ None) × (c ≡ no_chosen_branch)
  none_of_branches r more None no_chosen_branch h = (refl, refl)
  none_of_branches r more None (chosen_branch before f after) h = absurd (cc)
  none_of_branches r more (Some f) c h = absurd (cc)

  none_of_instances : (seat : Seat) (r : Residual) (more : Instances) (o : Option (Focus A)) (c : ChosenInstance A) → first_instance seat r more o c ≡ no_chosen_instance → (o ≡ None) × (c ≡ no_chosen_instance)
  none_of_instances seat r more None no_chosen_instance h = (refl, refl)
  none_of_instances seat r more None (chosen_instance before other f after) h = absurd (cc)
  none_of_instances seat r more (Some f) c h = absurd (cc)

lower : (m n : ℕ) (a : Act) → m < suc n → here (if m == n then Some a else None) ≡ None → m < n
lower m n a l h = go (m == n) refl h
  where
    go : (b : Bool) → (m == n) ≡ b → here (if b then Some a else None) ≡ None → m < n
    go true e k = absurd (cc)
    go false e k = omega (arith, l, eqb-false m n e)

module _ (K : Kernel) (n : ℕ) where
  mutual
    unfolding choose

    pub lowered : {d : Part} {r : Residual} → Fits K (suc n) d r → choose Act (runs_at n) r ≡ None → Fits K n d r
    lowered (to_begin {n = m} l) q = to_begin (lower m n _ l q)
    lowered (to_turn {n = m} l p) q = to_turn (lower m n _ l q) p
    lowered (in_list done e f all h) q =
        let x = none_of_or _ _ q in in_list done e f (lowered_all all (none_in_block Act _ _ _ _ _ x.0)) (lowered h (none_under _ _ x.1))
    lowered (to_finish {n = m} l p) q = to_finish (lower m n _ l q) p
    lowered (at_input x e) q = at_input x e
    lowered (at_time x y z e) q = at_time x y z e
    lowered (at_event x e) q = at_event x e
    lowered (at_forever e) q = at_forever e
    lowered (at_async b e h) q = at_async b e h
    lowered (in_part b e h) q = in_part b e (lowered h (none_under _ _ q))
    lowered (in_turn k b e c h) q = in_turn k b e c (lowered h (none_under _ _ q))
    lowered (in_call c es f x k e a h) q = in_call c es f x k e a (lowered h (none_under _ _ q))
    lowered (in_par k slot bs e on h) q = in_par k slot bs e on (lowered_each h (none_in_par Act _ _ q))

    lowered_each : {sc : Scope} {k : ParKind} {bs : List KBlock} {rs : Branches} → EachFits K (suc n) sc k bs rs → choose_branch Act (runs_at n) rs ≡ no_chosen_branch → EachFits K n sc k bs rs
    lowered_each no_more q = no_more
    lowered_each (an_ended {more = more} m h) q = an_ended m (lowered_each h (none_of_branches Act Over more None _ q).1)
    lowered_each (a_branch h more) q = let x = none_of_branches Act _ _ _ _ q in a_branch (lowered h x.0) (lowered_each more x.1)

    lowered_all : {sc : Scope} {all : Instances} → AllFit K (suc n) sc all → choose_instance Act (runs_at n) all ≡ no_chosen_instance → AllFit K n sc all
    lowered_all none_lives q = none_lives
    lowered_all (one_lives k p e h more) q = let x = none_of_instances Act _ _ _ _ _ q in one_lives k p e (lowered h x.0) (lowered_all more x.1)
