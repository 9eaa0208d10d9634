-- An abortion of a part inside which a turn is on, without its leaf, reads no variable without a value.
use Rattle.std.proofs.Common.{◌≡◌, refl, sym, ap, ◌∙◌, subst, ◌≤◌, ℕ, ◌+◌, Bool, true, false, ◌⊎◌, inl, inr, List, [], ◌∷◌, ◌++◌, append_assoc, arith}
use Rattle.std.proofs.lemmas.Bool.{or_cases, false≢true}
use Rattle.ceu_tree.specs.declared.kernel.Kernel.{Kernel}
use Rattle.ceu_tree.specs.declared.kernel.ParKind.{ParKind}
use Rattle.ceu_tree.specs.declared.kernel.KNode.{KNode}
use Rattle.ceu_tree.specs.declared.kernel.KBlock.{KBlock, out-KBlock}
use Rattle.ceu_tree.specs.declared.kernel.KStmt.{out-KStmt}
use Rattle.ceu_tree.specs.declared.kernel.KStmt.TheOpen.{KStmt-F}
use Rattle.ceu_tree.specs.Residual.{Body, Awaited, Spawned, Residual, Branches, no_branch, branch, Instances, no_instance, instance}
use Rattle.ceu_tree.specs.Focus.{Frame, OfBlock, OfInstance, OfOpen, OfLoop, OfCall, OfPar, join, join_instances, body_in}
use Rattle.ceu_tree.specs.World.{World}
use Rattle.ceu_tree.specs.Abort.{branches_aborted, instances_aborted}
use Rattle.ceu_tree.specs.Leaf.{code_at}
use Rattle.ceu_tree.specs.Legal.{Seated, before, is_set, called_code}
use Rattle.ceu_tree.specs.Mentions.{sets}
use Rattle.ceu_tree.specs.Proper.{Scope, is_proper}
use Rattle.laws_meaning_basics.specs.Shape.{Part, ABlock, AStatement, AnEnd, block_scope, FrameFits, around_statement, around_end, around_instance, around_part, around_turn, around_call, around_branch}
use Rattle.laws_meaning_basics.proofs.UpFits.{Sound}
use Rattle.laws_meaning_values.specs.Needed.{turn_needs}
use Rattle.laws_meaning_values.proofs.Counts.{inner_then}
use Rattle.laws_meaning_values.proofs.Grounds.{inner_ground, branch_ground}
use Rattle.laws_meaning_values.proofs.Positions.{before_at}
use Rattle.laws_meaning_values.proofs.Readies.{ready_branch}
use Rattle.laws_meaning_values.proofs.Stores.{same_self, or_left, or_right}
use Rattle.laws_meaning_slots.proofs.Seats.{frame_seats}
use Rattle.laws_meaning_slots.proofs.Aborts.{instances_joined}
use Rattle.laws_meaning_values.proofs.FocusSpares.{branches_joined}
use Rattle.laws_meaning_counters.proofs.Grips.{own}
use Rattle.laws_meaning_assigned.specs.Needed.{turn_needed, frame_needed}
use Rattle.laws_meaning_assigned.proofs.Grips.{frame_grip}
use Rattle.laws_meaning_assigned.proofs.Places.{known_inner}
use Rattle.laws_meaning_assigned.proofs.Settled.{asked_yes}
use Rattle.laws_meaning_finalizers.specs.Closing.{aborted_reads, branches_read, instances_read}
use Rattle.laws_meaning_finalizers.proofs.Envs.{SeatSet, Named, NamedInCode, named_list, named_part, named_turn, named_branch, named_call, held, Env, low_more, env_list, env_end, env_part, env_turn, Envs, each_ready}
use Rattle.laws_meaning_finalizers.proofs.Trees.{Has, with_decls, done_has, with_code, code_env, code_named, nil_end}

pub joined_read : (front back : Instances) (w : World) → instances_read back w → instances_read front (instances_aborted back w) → instances_read (join_instances front back) w
unfolding instances_read
joined_read no_instance back w h k = h
joined_read (instance seat r more) back w h k = (joined_read more back w h k.0, subst (λ u. aborted_reads r (Spawned seat.number) u) (sym (instances_joined more back w)) k.1)

pub branches_join : (front back : Branches) (here : Body) (w : World) → branches_read back here w → branches_read front here (branches_aborted back here w) → branches_read (join front back) here w
unfolding branches_read
branches_join no_branch back here w h k = h
branches_join (branch r more) back here w h k = (branches_join more back here w h k.0, subst (λ u. aborted_reads r here u) (sym (branches_joined more back here w)) k.1)

-- before the last statement of a list stand those before each of its statements
pub end_front : (x : ℕ) (front : List KNode) (q : KNode) (back : List KNode) → is_set front x ≡ true → is_set (before (front ++ q ∷ back) []) x ≡ true
end_front x [] q back h = absurd (false≢true h)
end_front x (s ∷ front) q back h = subst (λ l. is_set l x ≡ true) (sym (longer front)) (go (or_cases (sets x s.stmt) (is_set front x) h) (end_front x front q back))
  where
    longer : (l : List KNode) → before (s ∷ (l ++ q ∷ back)) [] ≡ s ∷ before (l ++ q ∷ back) []
    longer [] = refl
    longer (r ∷ l) = refl

    go : (sets x s.stmt ≡ true) ⊎ (is_set front x ≡ true) → (is_set front x ≡ true → is_set (before (front ++ q ∷ back) []) x ≡ true) → is_set (s ∷ before (front ++ q ∷ back) []) x ≡ true
    go (inl e) ih = or_left (sets x s.stmt) (is_set (before (front ++ q ∷ back) []) x) e
    go (inr e) ih = or_right (sets x s.stmt) (is_set (before (front ++ q ∷ back) []) x) (ih e)

pub list_end : (l : List KNode) → l ≡ l ++ []
list_end [] = refl
list_end (s ∷ l) = ap (λ k. s ∷ k) (list_end l)

module _ (K : Kernel) (proper : is_proper K ≡ true) (root : Residual) where
  abbrev P : Seated → Type 0
  P = SeatSet K proper root

  -- what has hold of a slot around the part inside a frame
  abbrev pub inner_hold : Frame → Body → (Body → ℕ → ℕ) → Body → ℕ → ℕ
  inner_hold (OfBlock c fin all rest) here o b x = with_decls K proper root here c o b x
  inner_hold (OfInstance c fin front seat back r rest) here o b x = with_code K proper root (Spawned seat.number) (code_at seat.code K.codes) (with_decls K proper root here c o) b x
  inner_hold (OfOpen s) here o b x = o b x
  inner_hold (OfLoop s j) here o b x = o b x + own b x here (out-KStmt s.stmt)
  inner_hold (OfCall s) here o b x = with_code K proper root (Awaited here s.node) (called_code K.codes (out-KStmt s.stmt)) o b x
  inner_hold (OfPar s front back) here o b x = o b x

  pub hold_less : (fr : Frame) (here : Body) (o : Body → ℕ → ℕ) (b : Body) (x : ℕ) → inner_hold fr here o b x ≤ o b x + frame_grip K.codes b x here fr
  hold_less (OfBlock c fin all rest) here o b x = omega arith
  hold_less (OfInstance c fin front seat back r rest) here o b x = omega arith
  hold_less (OfOpen s) here o b x = omega arith
  hold_less (OfLoop s j) here o b x = omega arith
  hold_less (OfCall s) here o b x = omega arith
  hold_less (OfPar s front back) here o b x = omega arith

  pub held_less : {t : ℕ} {fr : Frame} {d c : Part} → FrameFits K t fr d c → (here : Body) (o : Body → ℕ → ℕ) (b : Body) (x : ℕ) → held K proper root d here o b x ≤ o b x + frame_grip K.codes b x here fr
  held_less (around_statement done e f all) here o b x = omega arith
  held_less (around_end f all) here o b x = omega arith
  held_less (around_instance done k e f r u v p q) here o b x = omega arith
  held_less (around_part c q) here o b x = omega arith
  held_less (around_turn l c e q) here o b x = omega arith
  held_less (around_call c es f t k e q) here o b x = omega arith
  held_less (around_branch k slot bs c cs e y z) here o b x = omega arith

  -- ---- names

  abbrev pub frame_rest : Frame → List KNode
  frame_rest (OfBlock c fin all rest) = rest
  frame_rest (OfInstance c fin front seat back r rest) = rest
  frame_rest fr = []

  abbrev pub StatementNamed : Part → List KNode → Type 0
  StatementNamed (ABlock turn sc c) rest = (done : List KNode) (s : KNode) → (out-KBlock c).list ≡ done ++ s ∷ rest → Named K proper root (AStatement (block_scope sc c) s)
  StatementNamed (AStatement sc s) rest = Named K proper root (AStatement sc s)
  StatementNamed AnEnd rest = Unit {0}

  -- of the part around and that inside
  pub record Names (fr : Frame) (d c : Part) : Type 0 where
    pub in_code : NamedInCode K proper root d
    pub running : StatementNamed d (frame_rest fr)
    pub inner : Named K proper root c

  pub frame_names : {t : ℕ} {fr : Frame} {d c : Part} → FrameFits K t fr d c → Sound K proper d → (here : Body) → frame_seats P fr here → Named K proper root d → Names fr d c
  frame_names (around_statement {turn = turn} {sc = sc} {b = c} {rest = rest} {s = s} done e f all) ok here st n =
      record { in_code = λ z. n; running = λ front q i. named_list K proper root turn sc c front q rest i n; inner = named_list K proper root turn sc c done s rest e n }
  frame_names (around_end {turn = turn} {sc = sc} {b = c} f all) ok here st n = record { in_code = λ z. n; running = λ front q i. named_list K proper root turn sc c front q [] i n; inner = λ x v m. absurd (omega (arith, m)) }
  frame_names (around_instance {turn = turn} {sc = sc} {b = c} {rest = rest} {seat = seat} done k e f r u v p q) ok here st n =
      record { in_code = λ z. n; running = λ front s i. named_list K proper root turn sc c front s rest i n; inner = code_named K proper root seat.code k q st.1 }
  frame_names (around_part {sc = sc} {s = s} c q) ok here st n = record { in_code = λ z. n; running = n; inner = named_part K proper root sc s c q n }
  frame_names (around_turn {sc = sc} {s = s} l c e q) ok here st n = record { in_code = λ z. n; running = n; inner = named_turn K proper root sc s l c e n }
  frame_names (around_call {sc = sc} {s = s} c es f t k e q) ok here st n = record { in_code = λ z. n; running = n; inner = named_call K proper root sc s c es f t k ok e q n }
  frame_names (around_branch {sc = sc} {s = s} k slot bs c cs e y z) ok here st n = record { in_code = λ z. n; running = n; inner = named_branch K proper root sc s k slot bs c cs e n }

  -- ---- the place inside

  pub env_branch : (sc : Scope) (s : KNode) (k : ParKind) (slot : ℕ) (bs : List KBlock) (c : KBlock) (cs : List KBlock) (here : Body) (o : Body → ℕ → ℕ) (w : World) → out-KStmt s.stmt ≡ KStmt-F.Par k slot (bs ++ c ∷ cs) → Env K proper root (AStatement sc s) here o w
      → Env K proper root (ABlock false sc c) here o w
  env_branch sc s k slot bs c cs here o w e v =
      let i = inner_ground s (KStmt-F.Par k slot (bs ++ c ∷ cs)) v.ground e v.on in
      let j = branch_ground bs c cs i.ground i.on in
      record {
        ground = j.ground;
        on = j.on;
        known = λ b x. known_inner K proper b x sc j.ground v.ground here (o b x) (inner_then j.ground i.ground v.ground j.inner i.inner) (v.known b x);
        ready = ready_branch K here w sc s k slot bs c cs e v.ready;
        low = low_more K proper root o (held K proper root (ABlock false sc c) here o) w (λ x. omega arith) v.low;
      }

  -- the branches on its left, and those on its right
  pub envs_front : (sc : Scope) (s : KNode) (k : ParKind) (slot : ℕ) (bs : List KBlock) (c : KBlock) (cs : List KBlock) (here : Body) (o : Body → ℕ → ℕ) (w : World) → out-KStmt s.stmt ≡ KStmt-F.Par k slot (bs ++ c ∷ cs) → Env K proper root (AStatement sc s) here o w
      → Envs K proper root sc bs here o w
  envs_front sc s k slot bs c cs here o w e v =
      let i = inner_ground s (KStmt-F.Par k slot (bs ++ c ∷ cs)) v.ground e v.on in
      let j = branch_ground bs c cs i.ground i.on in
      record {
        ground = j.before;
        on = j.on_before;
        known = λ b x. known_inner K proper b x sc j.before v.ground here (o b x) (inner_then j.before i.ground v.ground j.inner_before i.inner) (v.known b x);
        ready = each_ready K proper root sc s k slot (bs ++ c ∷ cs) e here w [] bs (c ∷ cs) refl v.ready;
        low = v.low;
      }

  pub back_of : (bs : List KBlock) (c : KBlock) (cs : List KBlock) → bs ++ c ∷ cs ≡ (bs ++ c ∷ []) ++ (cs ++ [])
  back_of bs c cs = ap (λ l. bs ++ c ∷ l) (nil_end K proper root cs) ∙ sym (append_assoc bs (c ∷ []) (cs ++ []))

  pub envs_back : (sc : Scope) (s : KNode) (k : ParKind) (slot : ℕ) (bs : List KBlock) (c : KBlock) (cs : List KBlock) (here : Body) (o : Body → ℕ → ℕ) (w : World) → out-KStmt s.stmt ≡ KStmt-F.Par k slot (bs ++ c ∷ cs) → Env K proper root (AStatement sc s) here o w
      → Envs K proper root sc cs here o w
  envs_back sc s k slot bs c cs here o w e v =
      let i = inner_ground s (KStmt-F.Par k slot (bs ++ c ∷ cs)) v.ground e v.on in
      let j = branch_ground bs c cs i.ground i.on in
      record {
        ground = j.after;
        on = j.on_after;
        known = λ b x. known_inner K proper b x sc j.after v.ground here (o b x) (inner_then j.after i.ground v.ground j.inner_after i.inner) (v.known b x);
        ready = each_ready K proper root sc s k slot (bs ++ c ∷ cs) e here w (bs ++ c ∷ []) cs [] (back_of bs c cs) v.ready;
        low = v.low;
      }

  pub frame_env : {t : ℕ} {fr : Frame} {d c : Part} → FrameFits K t fr d c → Sound K proper d → (first : Bool) (here : Body) (o : Body → ℕ → ℕ) (w : World) → Env K proper root d here o w → Has K proper root (λ b x. frame_needed K.codes b x first here fr) w → first ≡ false
      → Env K proper root c (body_in fr here) (inner_hold fr here o) w
  frame_env {fr = OfBlock b fin all rest} (around_statement {turn = turn} {sc = sc} {s = s} done e f i) ok first here o w v h z =
      env_list K proper root turn sc b done s rest here o (with_decls K proper root here b o) w e ok (λ b x. omega arith) (done_has K proper root b done rest (before (out-KBlock b).list rest) here w (before_at b done s rest e) (λ b x l. h b x (omega (arith, l)))) v
  frame_env {fr = OfBlock b fin all rest} (around_end {turn = turn} {sc = sc} f i) ok first here o w v h z = env_end K proper root turn sc b here o (with_decls K proper root here b o) w (λ b x. omega arith) v
  frame_env {fr = OfInstance b fin front seat back r rest} (around_instance done k e f fit y u p q) ok first here o w v h z =
      code_env K proper root seat.code k (Spawned seat.number) (code_at seat.code K.codes) (with_decls K proper root here b o) w q q v.low (λ b x l. h b x (omega (arith, l)))
  frame_env (around_part {sc = sc} {s = s} c q) ok first here o w v h z = env_part K proper root sc s c here o w q v
  frame_env (around_turn {sc = sc} {s = s} l c e q) ok first here o w v h z =
      env_turn K proper root sc s l c here o (λ b x. o b x + own b x here (out-KStmt s.stmt)) w e (λ b x. omega arith)
      (λ x u. h here x (subst (λ t. 1 ≤ turn_needed K.codes here x t here s) (sym z) (asked_yes K here x here (turn_needs (out-KStmt s.stmt) x) (same_self here) (subst (λ y. turn_needs y x ≡ true) (sym e) u)))) v
  frame_env (around_call {s = s} c es f t k e q) ok first here o w v h z = code_env K proper root c k (Awaited here s.node) (called_code K.codes (out-KStmt s.stmt)) o w q (ap (called_code K.codes) e ∙ q) v.low (λ b x l. h b x (omega (arith, l)))
  frame_env (around_branch {sc = sc} {s = s} k slot bs c cs e y u) ok first here o w v h z = env_branch sc s k slot bs c cs here o w e v
