-- The slots that a focus needs, and the tree that it is of.
use Rattle.std.proofs.Common.{◌≡◌, refl, ap, ◌∙◌, subst, ◌≤◌, ℕ, zero, suc, ◌+◌, ℤ, pos, nat_lt, min, Bool, true, false, if◌then◌else◌, ◌==◌, ◌⊎◌, inl, inr, List, Option, Some, None, arith}
use Rattle.ceu_tree.specs.declared.kernel.KCode.{KCode}
use Rattle.ceu_tree.specs.declared.kernel.KBlock.{KBlock, out-KBlock}
use Rattle.ceu_tree.specs.Residual.{Body, Awaited, Spawned, Act, Begin, Finish, Seat, Residual, Over, Run, WaitInput, WaitTime, WaitEvent, WaitForever, InAsync, Block, Open, Loop, Call, Par, Branches, no_branch, branch, Instances, no_instance, instance}
use Rattle.ceu_tree.specs.Focus.{Frame, OfBlock, OfInstance, OfOpen, OfLoop, OfCall, OfPar, Focus, Here, In, join, join_instances, fill, plug, graft, leaf, body_in, body_of, has_body}
use Rattle.ceu_tree.specs.Leaf.{code_at}
use Rattle.ceu_tree.specs.Step.{size_in, with_instance, seated_if, seat_frame, seated, unseated, unseat_frame, unseat}
use Rattle.ceu_tree.specs.Wake.{each_leaf, each_in_branches, each_in_instances, each_in_body, woken, by_event, by_input, later, by_time, Unserved, unserved, new_round}
use Rattle.laws_meaning_counters.specs.Counters.{is_first, at_loop}
use Rattle.laws_meaning_counters.proofs.Grips.{unseat_body}
use Rattle.laws_meaning_assigned.specs.Needed.{given_needed, past_needed, needed, needed_each, needed_all, frame_needed, focus_needed}

module _ (codes : List KCode) (b : Body) (x : ℕ) where
  joined : (here : Body) (front back : Branches) → needed_each codes b x here (join front back) ≡ needed_each codes b x here front + needed_each codes b x here back
  unfolding needed
  joined here no_branch back = omega arith
  joined here (branch r more) back = omega (arith, joined here more back)

  joined_all : (front back : Instances) → needed_all codes b x (join_instances front back) ≡ needed_all codes b x front + needed_all codes b x back
  unfolding needed
  joined_all no_instance back = omega arith
  joined_all (instance seat r more) back = omega (arith, joined_all more back)

  pub over_needed : (here : Body) (front back : Branches) → needed_each codes b x here (join front (branch Over back)) ≡ needed_each codes b x here front + needed_each codes b x here back
  unfolding needed
  over_needed here front back = omega (arith, joined here front (branch Over back))

  pub joined_instances : (front back : Instances) → needed_all codes b x (join_instances front back) ≡ needed_all codes b x front + needed_all codes b x back
  joined_instances front back = joined_all front back

  pub filled : (here : Body) (fr : Frame) (r : Residual) → needed codes b x here (fill fr r) ≡ frame_needed codes b x false here fr + needed codes b x (body_in fr here) r
  unfolding needed
  filled here (OfBlock c fin all rest) r = omega arith
  filled here (OfInstance c fin front seat back q rest) r = omega (arith, joined_all front (instance seat r back))
  filled here (OfOpen s) r = omega arith
  filled here (OfLoop s c) r = omega arith
  filled here (OfCall s) r = omega arith
  filled here (OfPar s front back) r = omega (arith, joined here front (branch r back))

  pub frame_later : (t : Bool) (here : Body) (fr : Frame) → frame_needed codes b x t here fr ≤ frame_needed codes b x false here fr
  frame_later t here (OfBlock c fin all rest) = omega arith
  frame_later t here (OfInstance c fin front seat back q rest) = omega arith
  frame_later t here (OfOpen s) = omega arith
  frame_later true here (OfLoop s c) = omega arith
  frame_later false here (OfLoop s c) = omega arith
  frame_later t here (OfCall s) = omega arith
  frame_later t here (OfPar s front back) = omega arith

  not_at : {A : Type 0} (first : A → Bool) (f : Focus A) → first (leaf f) ≡ false → at_loop first f ≡ false
  not_at first (Here a) e = e
  not_at first (In fr f) e = refl

  pub plugged : {A : Type 0} (first : A → Bool) (here : Body) (f : Focus A) (r : Residual) → first (leaf f) ≡ false → needed codes b x here (plug f r) ≡ focus_needed codes b x first here f + needed codes b x (body_of f here) r
  unfolding focus_needed
  plugged first here (Here a) r e = omega arith
  plugged first here (In fr f) r e =
      let z = ap (λ t. frame_needed codes b x t here fr) (not_at first f e) in
      omega (arith, filled here fr (plug f r), plugged first (body_in fr here) f r e, z)

  -- a tree needs what its focus needs
  pub unplugged : {A : Type 0} (first : A → Bool) (here : Body) (f : Focus A) (r : Residual) → focus_needed codes b x first here f + needed codes b x (body_of f here) r ≤ needed codes b x here (plug f r)
  unfolding focus_needed
  unplugged first here (Here a) r = omega arith
  unplugged first here (In fr f) r = omega (arith, filled here fr (plug f r), unplugged first (body_in fr here) f r, frame_later (at_loop first f) here fr)

  pub grafted : {A B : Type 0} (first : A → Bool) (other : B → Bool) (here : Body) (f : Focus A) (y : Focus B) → first (leaf f) ≡ false
      → focus_needed codes b x other here (graft f y) ≤ focus_needed codes b x first here f + focus_needed codes b x other (body_of f here) y
  unfolding focus_needed
  grafted first other here (Here a) y e = omega arith
  grafted first other here (In fr f) y e =
      let z = ap (λ t. frame_needed codes b x t here fr) (not_at first f e) in
      omega (arith, grafted first other (body_in fr here) f y e, frame_later (at_loop other (graft f y)) here fr, z)

  pub grafted_body : {A B : Type 0} (here : Body) (f : Focus A) (y : Focus B) → body_of (graft f y) here ≡ body_of y (body_of f here)
  grafted_body here (Here a) y = refl
  grafted_body here (In fr f) y = grafted_body (body_in fr here) f y

  pub grafted_leaf : {A B : Type 0} (f : Focus A) (y : Focus B) → leaf (graft f y) ≡ leaf y
  grafted_leaf (Here a) y = refl
  grafted_leaf (In fr f) y = grafted_leaf f y

  -- ---- leaves that become others

  module _ (g : Residual → Residual) (keeps : (here : Body) (r : Residual) → needed codes b x here (g r) ≡ needed codes b x here r) where
    mutual
      unfolding needed each_leaf

      pub leaves_kept : (here : Body) (r : Residual) → needed codes b x here (each_leaf g r) ≡ needed codes b x here r
      leaves_kept here (Block c fin all r rest) = omega (arith, all_kept all, leaves_kept here r)
      leaves_kept here (Open s r) = leaves_kept here r
      leaves_kept here (Loop s c r) = omega (arith, leaves_kept here r)
      leaves_kept here (Call s r) = omega (arith, leaves_kept (Awaited here s.node) r)
      leaves_kept here (Par s bs) = each_kept here bs
      leaves_kept here Over = refl
      leaves_kept here (Run n a) = keeps here (Run n a)
      leaves_kept here (WaitInput k s) = keeps here (WaitInput k s)
      leaves_kept here (WaitTime d s) = keeps here (WaitTime d s)
      leaves_kept here (WaitEvent e s) = keeps here (WaitEvent e s)
      leaves_kept here (WaitForever s) = keeps here (WaitForever s)
      leaves_kept here (InAsync s served r) = keeps here (InAsync s served r)

      each_kept : (here : Body) (bs : Branches) → needed_each codes b x here (each_in_branches g bs) ≡ needed_each codes b x here bs
      each_kept here no_branch = refl
      each_kept here (branch r more) = omega (arith, leaves_kept here r, each_kept here more)

      all_kept : (all : Instances) → needed_all codes b x (each_in_instances g all) ≡ needed_all codes b x all
      all_kept no_instance = refl
      all_kept (instance seat r more) = omega (arith, leaves_kept (Spawned seat.number) r, all_kept more)

    body_kept : {A : Type 0} (here : Body) (f : Focus A) (r : Residual) → needed codes b x here (each_in_body g f r) ≡ needed codes b x here (plug f r)
    body_kept here (Here a) r = leaves_kept here r
    body_kept here (In fr f) r = go (has_body (In fr f)) (body_kept (body_in fr here) f r)
      where
        go : (t : Bool) → needed codes b x (body_in fr here) (each_in_body g f r) ≡ needed codes b x (body_in fr here) (plug f r)
            → needed codes b x here (if t then fill fr (each_in_body g f r) else each_leaf g (plug (In fr f) r)) ≡ needed codes b x here (fill fr (plug f r))
        go true e = omega (arith, e, filled here fr (each_in_body g f r), filled here fr (plug f r))
        go false e = leaves_kept here (plug (In fr f) r)

    pub woken_kept : {A : Type 0} (code : Option ℕ) (here : Body) (f : Focus A) (r : Residual) → needed codes b x here (woken code g f r) ≡ needed codes b x here (plug f r)
    woken_kept None here f r = leaves_kept here (plug f r)
    woken_kept (Some c) here f r = body_kept here f r

  either : (t : Bool) (here : Body) (p q : Residual) (n : ℕ) → needed codes b x here p ≡ n → needed codes b x here q ≡ n → needed codes b x here (if t then p else q) ≡ n
  either true here p q n h k = h
  either false here p q n h k = k

  pub by_event_same : (level event : ℕ) (v : ℤ) (here : Body) (r : Residual) → needed codes b x here (by_event level event v r) ≡ needed codes b x here r
  unfolding needed
  by_event_same level event v here (WaitEvent e s) = either (e == event) here (Run level (Finish s v)) (WaitEvent e s) (past_needed codes b x here s) refl refl
  by_event_same level event v here r = refl

  pub by_input_same : (input : ℕ) (v : ℤ) (here : Body) (r : Residual) → needed codes b x here (by_input input v r) ≡ needed codes b x here r
  unfolding needed
  by_input_same input v here (WaitInput k s) = either (k == input) here (Run 0 (Finish s v)) (WaitInput k s) (past_needed codes b x here s) refl refl
  by_input_same input v here r = refl

  pub by_time_same : (delay : ℕ) (here : Body) (r : Residual) → needed codes b x here (by_time delay r) ≡ needed codes b x here r
  unfolding needed
  by_time_same delay here (WaitTime left s) = either (left == 0) here (Run 0 (Finish s (pos (min delay 2147483647)))) (WaitTime left s) (past_needed codes b x here s) refl refl
  by_time_same delay here r = refl

  pub later_same : (d : ℕ) (here : Body) (r : Residual) → needed codes b x here (later d r) ≡ needed codes b x here r
  unfolding needed
  later_same d here (WaitTime left s) = refl
  later_same d here r = refl

  pub round_same : (here : Body) (r : Residual) → needed codes b x here (new_round r) ≡ needed codes b x here r
  unfolding needed
  round_same here (InAsync s served r) = refl
  round_same here r = refl

  pub unserved_needed : (here : Body) (r : Residual) (y : Unserved) → unserved r ≡ Some y → needed codes b x here r ≡ past_needed codes b x here y.stmt + needed codes b x here y.inner
  unfolding needed
  unserved_needed here (InAsync s false r) y e = ap (λ o. elim o [ None ↦ past_needed codes b x here s + needed codes b x here r | Some z ↦ past_needed codes b x here z.stmt + needed codes b x here z.inner ]) e
  unserved_needed here r y e = absurd (cc)

  -- ---- a new instance, and one that is taken out

  with_needed : (seat : Seat) (level : ℕ) (c : KBlock) (all : Instances) → needed_all codes b x (with_instance seat (Run level (Begin c)) all) ≡ given_needed codes b x (Spawned seat.number) (code_at seat.code codes) + needed_all codes b x all
  unfolding needed
  with_needed seat level c no_instance = omega arith
  with_needed seat level c (instance other q more) = go (nat_lt seat.pool other.pool) (with_needed seat level c more)
    where
      go : (t : Bool) → needed_all codes b x (with_instance seat (Run level (Begin c)) more) ≡ given_needed codes b x (Spawned seat.number) (code_at seat.code codes) + needed_all codes b x more
          → needed_all codes b x (if t then instance seat (Run level (Begin c)) (instance other q more) else instance other q (with_instance seat (Run level (Begin c)) more))
          ≡ given_needed codes b x (Spawned seat.number) (code_at seat.code codes) + needed_all codes b x (instance other q more)
      go true ih = omega arith
      go false ih = omega (arith, ih)

  -- what is needed is needed without it, or is a parameter of it
  abbrev Or : Seat → ℕ → ℕ → Type 0
  Or seat new old = 1 ≤ new → (1 ≤ old) ⊎ (1 ≤ given_needed codes b x (Spawned seat.number) (code_at seat.code codes))

  split_sum : (new old given : ℕ) → new ≡ given + old → 1 ≤ new → (1 ≤ old) ⊎ (1 ≤ given)
  split_sum new zero given e h = inr (omega (arith, e, h))
  split_sum new (suc old) given e h = inl (omega arith)

  seat_if : (o : Option ℕ) (seat : Seat) (level : ℕ) (c : KBlock) (all : Instances) → Or seat (needed_all codes b x (seated_if o seat (Run level (Begin c)) all)) (needed_all codes b x all)
  seat_if None seat level c all h = inl h
  seat_if (Some m) seat level c all h = split_sum (needed_all codes b x (with_instance seat (Run level (Begin c)) all)) (needed_all codes b x all) (given_needed codes b x (Spawned seat.number) (code_at seat.code codes)) (with_needed seat level c all) h

  both : (seat : Seat) (m n p q : ℕ) → Or seat m n → Or seat p q → Or seat (m + p) (n + q)
  both seat m n p q u v h = go m refl
    where
      Goal : Type 0
      Goal = (1 ≤ n + q) ⊎ (1 ≤ given_needed codes b x (Spawned seat.number) (code_at seat.code codes))

      left : (1 ≤ n) ⊎ (1 ≤ given_needed codes b x (Spawned seat.number) (code_at seat.code codes)) → Goal
      left (inl e) = inl (omega (arith, e))
      left (inr e) = inr e

      right : (1 ≤ q) ⊎ (1 ≤ given_needed codes b x (Spawned seat.number) (code_at seat.code codes)) → Goal
      right (inl e) = inl (omega (arith, e))
      right (inr e) = inr e

      go : (k : ℕ) → m ≡ k → Goal
      go zero e = right (v (omega (arith, h, e)))
      go (suc k) e = left (u (omega (arith, e)))

  frame_seated : (t : Bool) (seat : Seat) (level : ℕ) (c : KBlock) (here : Body) (fr : Frame) → Or seat (frame_needed codes b x t here (seat_frame seat (Run level (Begin c)) fr)) (frame_needed codes b x t here fr)
  frame_seated t seat level c here (OfBlock m fin all rest) h = both seat _ _ _ _ (λ u. inl u) (seat_if (size_in seat.pool (out-KBlock m).decls) seat level c all) h
  frame_seated t seat level c here (OfInstance m fin front other back r rest) h = inl h
  frame_seated t seat level c here (OfOpen s) h = inl h
  frame_seated t seat level c here (OfLoop s j) h = inl h
  frame_seated t seat level c here (OfCall s) h = inl h
  frame_seated t seat level c here (OfPar s front back) h = inl h

  seat_body : (seat : Seat) (r : Residual) (here : Body) (fr : Frame) → body_in (seat_frame seat r fr) here ≡ body_in fr here
  seat_body seat r here (OfBlock m fin all rest) = refl
  seat_body seat r here (OfInstance m fin front other back q rest) = refl
  seat_body seat r here (OfOpen s) = refl
  seat_body seat r here (OfLoop s j) = refl
  seat_body seat r here (OfCall s) = refl
  seat_body seat r here (OfPar s front back) = refl

  seat_flag : (seat : Seat) (r : Residual) (f : Focus Act) → at_loop is_first (seated seat r f) ≡ at_loop is_first f
  seat_flag seat r (Here a) = refl
  seat_flag seat r (In fr f) = refl

  pub seat_leaf : (seat : Seat) (r : Residual) (f : Focus Act) → leaf (seated seat r f) ≡ leaf f
  seat_leaf seat r (Here a) = refl
  seat_leaf seat r (In fr f) = seat_leaf seat r f

  pub seat_body_of : (seat : Seat) (r : Residual) (here : Body) (f : Focus Act) → body_of (seated seat r f) here ≡ body_of f here
  seat_body_of seat r here (Here a) = refl
  seat_body_of seat r here (In fr f) = ap (body_of (seated seat r f)) (seat_body seat r here fr) ∙ seat_body_of seat r (body_in fr here) f

  pub seated_needed : (seat : Seat) (level : ℕ) (c : KBlock) (here : Body) (f : Focus Act) → 1 ≤ focus_needed codes b x is_first here (seated seat (Run level (Begin c)) f)
      → (1 ≤ focus_needed codes b x is_first here f) ⊎ (1 ≤ given_needed codes b x (Spawned seat.number) (code_at seat.code codes))
  unfolding focus_needed
  seated_needed seat level c here (Here a) h = inl h
  seated_needed seat level c here (In fr f) h =
      both seat _ _ _ _ (λ u. frame_seated (at_loop is_first f) seat level c here fr (subst (λ t. 1 ≤ frame_needed codes b x t here (seat_frame seat (Run level (Begin c)) fr)) (seat_flag seat (Run level (Begin c)) f) u))
      (λ u. seated_needed seat level c (body_in fr here) f (subst (λ d. 1 ≤ focus_needed codes b x is_first d (seated seat (Run level (Begin c)) f)) (seat_body seat (Run level (Begin c)) here fr) u)) h

  unseated_needed : (k : ℕ) (all : Instances) → needed_all codes b x (unseated k all) ≤ needed_all codes b x all
  unfolding needed
  unseated_needed k no_instance = omega arith
  unseated_needed k (instance seat r more) = go (seat.number == k) (unseated_needed k more)
    where
      go : (t : Bool) → needed_all codes b x (unseated k more) ≤ needed_all codes b x more → needed_all codes b x (if t then more else instance seat r (unseated k more)) ≤ needed_all codes b x (instance seat r more)
      go true h = omega arith
      go false h = omega (arith, h)

  unseat_frame_needed : (t : Bool) (k : ℕ) (here : Body) (fr : Frame) → frame_needed codes b x t here (unseat_frame k fr) ≤ frame_needed codes b x t here fr
  unseat_frame_needed t k here (OfBlock m fin all rest) = let h = unseated_needed k all in omega (arith, h)
  unseat_frame_needed t k here (OfInstance m fin front other back r rest) = omega arith
  unseat_frame_needed t k here (OfOpen s) = omega arith
  unseat_frame_needed t k here (OfLoop s j) = omega arith
  unseat_frame_needed t k here (OfCall s) = omega arith
  unseat_frame_needed t k here (OfPar s front back) = omega arith

  unseat_flag : (k : ℕ) (f : Focus Act) → at_loop is_first (unseat k f) ≡ at_loop is_first f
  unseat_flag k (Here a) = refl
  unseat_flag k (In fr f) = refl

  pub unseat_needed : (k : ℕ) (here : Body) (f : Focus Act) → focus_needed codes b x is_first here (unseat k f) ≤ focus_needed codes b x is_first here f
  unfolding focus_needed
  unseat_needed k here (Here a) = omega arith
  unseat_needed k here (In fr f) =
      let e = ap (λ d. focus_needed codes b x is_first d (unseat k f)) (unseat_body b x k here fr) in
      let t = ap (λ t. frame_needed codes b x t here (unseat_frame k fr)) (unseat_flag k f) in
      omega (arith, e, t, unseat_frame_needed (at_loop is_first f) k here fr, unseat_needed k (body_in fr here) f)

module _ (codes : List KCode) (b : Body) (x : ℕ) where
  pub unseat_body_of : (k : ℕ) (here : Body) (f : Focus Act) → body_of (unseat k f) here ≡ body_of f here
  unseat_body_of k here (Here a) = refl
  unseat_body_of k here (In fr f) = ap (body_of (unseat k f)) (unseat_body b x k here fr) ∙ unseat_body_of k (body_in fr here) f

pub unseat_leaf : (k : ℕ) (f : Focus Act) → leaf (unseat k f) ≡ leaf f
unseat_leaf k (Here a) = refl
unseat_leaf k (In fr f) = unseat_leaf k f
