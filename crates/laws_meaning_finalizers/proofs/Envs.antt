-- Places in a tree whose parts may name what they name: so much hold what is around has of each slot, and the program's variables that are set have values.
use Rattle.std.proofs.Common.{◌≡◌, refl, sym, ap, ◌∙◌, subst, ◌≤◌, ℕ, ◌+◌, Bool, true, false, ◌⊎◌, inl, inr, List, [], ◌∷◌, ◌++◌, append_assoc, Option, Some, None, arith}
use Rattle.std.proofs.lemmas.Bool.{ltb-true}
use Rattle.ceu_tree.specs.declared.kernel.Kernel.{Kernel}
use Rattle.ceu_tree.specs.declared.kernel.KCode.{KCode}
use Rattle.ceu_tree.specs.declared.kernel.KLoop.{KLoop}
use Rattle.ceu_tree.specs.declared.kernel.KLoop.TheVariants as turns
use Rattle.ceu_tree.specs.declared.kernel.ParKind.{ParKind}
use Rattle.ceu_tree.specs.declared.kernel.KNode.{KNode}
use Rattle.ceu_tree.specs.declared.kernel.KBlock.{KBlock, out-KBlock}
use Rattle.ceu_tree.specs.declared.kernel.KStmt as kernel
use Rattle.ceu_tree.specs.declared.kernel.KStmt.{KStmt, out-KStmt}
use Rattle.ceu_tree.specs.declared.kernel.KStmt.TheOpen.{KStmt-F}
use Rattle.ceu_tree.specs.Residual.{Body, Program, Residual}
use Rattle.ceu_tree.specs.World.{World}
use Rattle.ceu_tree.specs.Leaf.{Layer, code_at}
use Rattle.ceu_tree.specs.Legal.{Seated, is_set, is_program_variable, program_done, outer_set}
use Rattle.ceu_tree.specs.Mentions.{named_by, outer_names_from, stmt_names, block_names, count_of}
use Rattle.ceu_tree.specs.Proper.{Scope, is_trail, is_in_code, is_above, is_pool_of, alias_takes, find, stmt_ok, is_proper}
use Rattle.laws_meaning_basics.specs.Shape.{Part, ABlock, AStatement, AnEnd, block_scope, part_scope, turn_scope, async_scope, code_part, opens_part}
use Rattle.laws_meaning_basics.proofs.Static.{BlockOk, StmtOk, names_of}
use Rattle.laws_meaning_values.specs.Ground.{has, Ground, Numbered, On}
use Rattle.laws_meaning_values.specs.Needed.{own_variable}
use Rattle.laws_meaning_values.specs.Ready.{declares, Ready}
use Rattle.laws_meaning_values.proofs.Counts.{blocks_slots_all, blocks_nodes_all}
use Rattle.laws_meaning_values.proofs.Grounds.{list_ground, inner_ground, part_ground}
use Rattle.laws_meaning_values.proofs.Readies.{ready_list, ready_part, ready_async, ready_branch, ready_turn, ready_code}
use Rattle.laws_meaning_values.proofs.Stores.{same_self}
use Rattle.laws_meaning_counters.proofs.Grips.{point, own}
use Rattle.laws_meaning_assigned.specs.Outer.{layer_code}
use Rattle.laws_meaning_assigned.proofs.Grips.{slots_grip}
use Rattle.laws_meaning_assigned.proofs.Namings.{part_least, in_block, in_opened, in_loop, in_branches, in_awaited, table, code_names, table_named}
use Rattle.laws_meaning_assigned.proofs.Places.{left_of, right_of, code_room, Known, KnownAt, known_list, known_part, known_turn, known_async, known_code}
use denote.Hole.Carrier

pub first_as : {A B C : Type 0} → (A → B) → A ⊎ C → B ⊎ C
first_as f (inl a) = inl (f a)
first_as f (inr c) = inr c

module _ (K : Kernel) (proper : is_proper K ≡ true) (root : Residual) where
  abbrev pub Variable : ℕ → Type 0
  Variable x = is_program_variable x (out-KBlock K.body).decls ≡ true

  -- set by the statements before the one where the program's block stands in the whole tree
  abbrev pub IsSet : ℕ → Type 0
  IsSet x = is_set (program_done K.body root) x ≡ true

  abbrev pub SeatSet : Seated → Type 0
  SeatSet y = outer_set K root y ≡ true

  -- ---- each variable of the program that a part names by `outer` is set

  abbrev pub named : Part → ℕ → ℕ
  named (ABlock turn sc c) x = count_of x (block_names false (table K sc.code) c)
  named (AStatement sc s) x = count_of x (stmt_names false (table K sc.code) s.stmt)
  named AnEnd x = 0

  abbrev pub Named : Part → Type 0
  Named d = (x : ℕ) → Variable x → 1 ≤ named d x → IsSet x

  abbrev pub code_of : Part → Option ℕ
  code_of (ABlock turn sc c) = sc.code
  code_of (AStatement sc s) = sc.code
  code_of AnEnd = None

  -- where the part is one of code
  abbrev pub NamedInCode : Part → Type 0
  NamedInCode d = is_in_code (code_of d) ≡ true → Named d

  part_code : (sc : Scope) (n : ℕ) (layer : Layer) → (part_scope K sc n layer).code ≡ sc.code
  part_code sc n (KStmt-F.Do t c) = refl
  part_code sc n layer = refl

  turn_code : (sc : Scope) (n : ℕ) (l : KLoop) → (turn_scope K sc n l).code ≡ sc.code
  turn_code sc n turns.Free = refl
  turn_code sc n (turns.Times slot m) = refl
  turn_code sc n (turns.Range i next end open_a y z open_b) = refl

  block_named : (sc : Scope) (code : Option ℕ) (s : KNode) (c : KBlock) → code ≡ sc.code → ((x : ℕ) → count_of x (block_names false (table K sc.code) c) ≤ count_of x (stmt_names false (table K sc.code) s.stmt)) → Named (AStatement sc s)
      → (x : ℕ) → Variable x → 1 ≤ count_of x (block_names false (table K code) c) → IsSet x
  block_named sc code s c e l h x v m = h x v (let y = l x in let z = subst (λ o. 1 ≤ count_of x (block_names false (table K o) c)) e m in omega (arith, y, z))

  pub named_list : (turn : Bool) (sc : Scope) (c : KBlock) (done : List KNode) (s : KNode) (rest : List KNode) → (out-KBlock c).list ≡ done ++ s ∷ rest → Named (ABlock turn sc c) → Named (AStatement (block_scope sc c) s)
  named_list turn sc c done s rest e h = λ x v m. h x v (let a = in_block false (table K sc.code) x c done s rest e in omega (arith, a, m))

  pub named_part : (sc : Scope) (s : KNode) (c : KBlock) → opens_part (out-KStmt s.stmt) c → Named (AStatement sc s) → Named (ABlock false (part_scope K sc s.node (out-KStmt s.stmt)) c)
  named_part sc s c o = block_named sc (part_scope K sc s.node (out-KStmt s.stmt)).code s c (part_code sc s.node (out-KStmt s.stmt)) (λ x. in_opened false (table K sc.code) x s c o)

  pub named_turn : (sc : Scope) (s : KNode) (l : KLoop) (c : KBlock) → out-KStmt s.stmt ≡ KStmt-F.Loop l c → Named (AStatement sc s) → Named (ABlock true (turn_scope K sc s.node l) c)
  named_turn sc s l c e = block_named sc (turn_scope K sc s.node l).code s c (turn_code sc s.node l) (λ x. in_loop false (table K sc.code) x s l c e)

  pub named_async : (sc : Scope) (s : KNode) (c : KBlock) → out-KStmt s.stmt ≡ KStmt-F.Async c → Named (AStatement sc s) → Named (ABlock false (async_scope K sc) c)
  named_async sc s c e = block_named sc sc.code s c refl (λ x. part_least false (table K sc.code) x s (KStmt-F.Async c) e)

  pub named_branch : (sc : Scope) (s : KNode) (k : ParKind) (slot : ℕ) (bs : List KBlock) (c : KBlock) (cs : List KBlock) → out-KStmt s.stmt ≡ KStmt-F.Par k slot (bs ++ c ∷ cs) → Named (AStatement sc s) → Named (ABlock false sc c)
  named_branch sc s k slot bs c cs e = block_named sc sc.code s c refl (λ x. in_branches false (table K sc.code) x s k slot bs c cs e)

  stmt_above : (sc : Scope) (n : ℕ) (st : KStmt) (c : ℕ) → stmt_ok K (names_of K) sc n st ≡ true → layer_code (out-KStmt st) ≡ Some c → is_above K c sc.code ≡ true
  unfolding stmt_ok out-KStmt Carrier.out
  stmt_above sc n (kernel.AwaitCode d es f t) c h e = subst (λ j. is_above K j sc.code ≡ true) (ap (λ o. elim o [ None ↦ d | Some y ↦ y ]) e) (left_of (is_above K d sc.code) _ (right_of (is_trail sc.place) _ h))
  stmt_above sc n (kernel.Spawn d es p a) c h e =
      subst (λ j. is_above K j sc.code ≡ true) (ap (λ o. elim o [ None ↦ d | Some y ↦ y ]) e)
      (left_of (is_above K d sc.code) _ (right_of (is_trail sc.place) _ (left_of _ (is_pool_of d (find p sc.seen)) (left_of _ (elim a [ None ↦ true | Some y ↦ alias_takes d p (find y sc.seen) ]) h))))
  stmt_above sc n st c h e = absurd (cc)

  table_same : (code : Option ℕ) (c : ℕ) → is_above K c code ≡ true → named_by c (table K code) ≡ named_by c (outer_names_from [] K.codes)
  table_same None c h = refl
  table_same (Some d) c h = table_named K d c (ltb-true c d h)

  pub named_call : (sc : Scope) (s : KNode) (c : ℕ) (es f t : _) (k : KCode) → StmtOk K (names_of K) sc s → out-KStmt s.stmt ≡ KStmt-F.AwaitCode c es f t → code_at c K.codes ≡ Some k → Named (AStatement sc s) → Named (code_part K c k)
  named_call sc s c es f t k ok e q h = λ x v m.
      h x v
      (let a = in_awaited false (table K sc.code) x s c es f t e in let u = ap (count_of x) (table_same sc.code c (stmt_above sc s.node s.stmt c ok (ap layer_code e))) in let z = ap (count_of x) (code_names K c k q) in omega (arith, a, u, z, m))

  -- ---- places

  -- what has hold of a slot around a part, with what a block itself declares
  abbrev pub held : Part → Body → (Body → ℕ → ℕ) → Body → ℕ → ℕ
  held (ABlock turn sc c) here o b x = o b x + slots_grip K.codes b x here (out-KBlock c).decls
  held (AStatement sc s) here o b x = o b x
  held AnEnd here o b x = o b x

  abbrev pub Low : (Body → ℕ → ℕ) → World → Type 0
  Low o w = (x : ℕ) → Variable x → IsSet x → (3 ≤ o Program x) × (has Program x w ≡ true)

  pub record Env (d : Part) (here : Body) (o : Body → ℕ → ℕ) (w : World) : Type 0 where
    pub ground : Ground
    pub on : On d ground
    pub known : (b : Body) (x : ℕ) → KnownAt K proper b x d ground here (o b x)
    pub ready : Ready K here w d
    pub low : Low (held d here o) w

  -- from one world to another that keeps the values of what is held
  abbrev pub Keeps : (Body → ℕ → ℕ) → World → World → Type 0
  Keeps o w u = (b : Body) (x : ℕ) → 3 ≤ o b x → has b x w ≡ true → has b x u ≡ true

  pub low_kept : (o : Body → ℕ → ℕ) (w u : World) → Keeps o w u → Low o w → Low o u
  low_kept o w u keep h = λ x v z. (let a = h x v z in (a.0, keep Program x a.0 a.1))

  pub low_more : (o p : Body → ℕ → ℕ) (w : World) → ((x : ℕ) → o Program x ≤ p Program x) → Low o w → Low p w
  low_more o p w l h = λ x v z. (let a = h x v z in let m = l x in (omega (arith, a.0, m), a.1))

  ready_kept : (d : Part) (here : Body) (o : Body → ℕ → ℕ) (w u : World) (g : Ground) → ((b : Body) (x : ℕ) → KnownAt K proper b x d g here (o b x)) → Keeps o w u → Ready K here w d → Ready K here u d
  ready_kept (ABlock turn sc c) here o w u g k keep h = λ x cell. first_as (keep here x ((k here x).held (same_self here) cell)) (h x cell)
  ready_kept (AStatement sc s) here o w u g k keep h = λ x cell. first_as (keep here x ((k here x).held (same_self here) cell)) (h x cell)
  ready_kept AnEnd here o w u g k keep h = tt

  least : (d : Part) (here : Body) (o : Body → ℕ → ℕ) (b : Body) (x : ℕ) → o b x ≤ held d here o b x
  least (ABlock turn sc c) here o b x = omega arith
  least (AStatement sc s) here o b x = omega arith
  least AnEnd here o b x = omega arith

  pub env_kept : (d : Part) (here : Body) (o : Body → ℕ → ℕ) (w u : World) → Keeps (held d here o) w u → Env d here o w → Env d here o u
  env_kept d here o w u keep v = record {
    ground = v.ground;
    on = v.on;
    known = v.known;
    ready = ready_kept d here o w u v.ground v.known (λ b x l. keep b x (let a = least d here o b x in omega (arith, a, l))) v.ready;
    low = low_kept (held d here o) w u keep v.low;
  }

  pub env_list : (turn : Bool) (sc : Scope) (c : KBlock) (done : List KNode) (s : KNode) (rest : List KNode) (here : Body) (o p : Body → ℕ → ℕ) (w : World) → (out-KBlock c).list ≡ done ++ s ∷ rest → BlockOk K (names_of K) sc c
      → ((b : Body) (x : ℕ) → o b x + slots_grip K.codes b x here (out-KBlock c).decls ≤ p b x) → ((x : ℕ) → declares x (out-KBlock c).decls ≡ true → is_set done x ≡ true → has here x w ≡ true) → Env (ABlock turn sc c) here o w
      → Env (AStatement (block_scope sc c) s) here p w
  env_list turn sc c done s rest here o p w e ok l need v =
      let i = list_ground c done s rest v.ground e v.on in
      record {
        ground = i.ground;
        on = i.on;
        known = λ b x. known_list K proper b x sc c s v.ground here (o b x) (p b x) i (l b x) (v.known b x);
        ready = ready_list K here w turn sc c done s rest ok e need v.ready;
        low = low_more (held (ABlock turn sc c) here o) p w (λ x. l Program x) v.low;
      }

  pub env_end : (turn : Bool) (sc : Scope) (c : KBlock) (here : Body) (o p : Body → ℕ → ℕ) (w : World) → ((b : Body) (x : ℕ) → o b x + slots_grip K.codes b x here (out-KBlock c).decls ≤ p b x) → Env (ABlock turn sc c) here o w → Env AnEnd here p w
  env_end turn sc c here o p w l v = record { ground = v.ground; on = tt; known = λ b x. tt; ready = tt; low = low_more (held (ABlock turn sc c) here o) p w (λ x. l Program x) v.low }

  pub env_part : (sc : Scope) (s : KNode) (c : KBlock) (here : Body) (o : Body → ℕ → ℕ) (w : World) → opens_part (out-KStmt s.stmt) c → Env (AStatement sc s) here o w → Env (ABlock false (part_scope K sc s.node (out-KStmt s.stmt)) c) here o w
  env_part sc s c here o w q v =
      let i = part_ground s c v.ground q v.on in
      record {
        ground = i.ground;
        on = i.on;
        known = λ b x. known_part K proper b x sc s.node (out-KStmt s.stmt) c i.ground v.ground here (o b x) q i.inner (v.known b x);
        ready = ready_part K here w sc s c q v.ready;
        low = low_more o (held (ABlock false (part_scope K sc s.node (out-KStmt s.stmt)) c) here o) w (λ x. omega arith) v.low;
      }

  pub env_turn : (sc : Scope) (s : KNode) (l : KLoop) (c : KBlock) (here : Body) (o p : Body → ℕ → ℕ) (w : World) → out-KStmt s.stmt ≡ KStmt-F.Loop l c → ((b : Body) (x : ℕ) → o b x + own b x here (out-KStmt s.stmt) ≤ p b x)
      → ((x : ℕ) → own_variable x l ≡ true → has here x w ≡ true) → Env (AStatement sc s) here o w → Env (ABlock true (turn_scope K sc s.node l) c) here p w
  env_turn sc s l c here o p w e m need v =
      let i = inner_ground s (KStmt-F.Loop l c) v.ground e v.on in
      record {
        ground = i.ground;
        on = i.on;
        known = λ b x. known_turn K proper b x sc s l c v.ground here (o b x) (p b x) i e v.on (m b x) (v.known b x);
        ready = ready_turn K here w sc s l c e need v.ready;
        low = low_more o (held (ABlock true (turn_scope K sc s.node l) c) here p) w (λ x. (let a = m Program x in omega (arith, a))) v.low;
      }

  pub env_async : (sc : Scope) (s : KNode) (c : KBlock) (here : Body) (o : Body → ℕ → ℕ) (w : World) → out-KStmt s.stmt ≡ KStmt-F.Async c → Env (AStatement sc s) here o w → Env (ABlock false (async_scope K sc) c) here o w
  env_async sc s c here o w e v =
      let i = inner_ground s (KStmt-F.Async c) v.ground e v.on in
      record {
        ground = i.ground;
        on = i.on;
        known = λ b x. known_async K proper b x sc i.ground v.ground here (o b x) i.inner (v.known b x);
        ready = ready_async K here w sc s c e v.ready;
        low = low_more o (held (ABlock false (async_scope K sc) c) here o) w (λ x. omega arith) v.low;
      }

  -- code, with the parameters of its body
  pub env_code : (c : ℕ) (k : KCode) (here : Body) (p : Body → ℕ → ℕ) (w : World) → code_at c K.codes ≡ Some k → ((b : Body) (x : ℕ) → point b x here + slots_grip K.codes b x here k.params ≤ p b x)
      → ((x : ℕ) → declares x k.params ≡ true → has here x w ≡ true) → Low p w → Env (code_part K c k) here p w
  env_code c k here p w e l need low =
      let i = code_room K c k proper e in
      record {
        ground = i.ground;
        on = i.on;
        known = λ b x. known_code K proper b x c k i here (p b x) (l b x);
        ready = ready_code K here w c k need;
        low = low_more p (held (code_part K c k) here p) w (λ x. omega arith) low;
      }

  -- ---- the branches of a par

  abbrev pub EachReady : Scope → Body → World → List KBlock → Type 0
  EachReady sc here w [] = Unit {0}
  EachReady sc here w (c ∷ cs) = Ready K here w (ABlock false sc c) × EachReady sc here w cs

  abbrev pub EachNamed : Scope → List KBlock → Type 0
  EachNamed sc [] = Unit {0}
  EachNamed sc (c ∷ cs) = Named (ABlock false sc c) × EachNamed sc cs

  pub record Envs (sc : Scope) (bs : List KBlock) (here : Body) (o : Body → ℕ → ℕ) (w : World) : Type 0 where
    pub ground : Ground
    pub on : Numbered (blocks_slots_all bs) (blocks_nodes_all bs) ground
    pub known : (b : Body) (x : ℕ) → Known K proper b x sc ground here (o b x)
    pub ready : EachReady sc here w bs
    pub low : Low o w

  module _ (sc : Scope) (s : KNode) (k : ParKind) (slot : ℕ) (bs : List KBlock) (e : out-KStmt s.stmt ≡ KStmt-F.Par k slot bs) where
    pub each_ready : (here : Body) (w : World) (front part back : List KBlock) → bs ≡ front ++ (part ++ back) → Ready K here w (AStatement sc s) → EachReady sc here w part
    each_ready here w front [] back q h = tt
    each_ready here w front (c ∷ part) back q h =
        (ready_branch K here w sc s k slot front c (part ++ back) (e ∙ ap (λ l. KStmt-F.Par k slot l) q) h, each_ready here w (front ++ c ∷ []) part back (q ∙ sym (append_assoc front (c ∷ []) (part ++ back))) h)

    pub each_named : (front part back : List KBlock) → bs ≡ front ++ (part ++ back) → Named (AStatement sc s) → EachNamed sc part
    each_named front [] back q h = tt
    each_named front (c ∷ part) back q h = (named_branch sc s k slot front c (part ++ back) (e ∙ ap (λ l. KStmt-F.Par k slot l) q) h, each_named (front ++ c ∷ []) part back (q ∙ sym (append_assoc front (c ∷ []) (part ++ back))) h)

  each_ready_kept : (sc : Scope) (bs : List KBlock) (here : Body) (o : Body → ℕ → ℕ) (w u : World) (g : Ground) → ((b : Body) (x : ℕ) → Known K proper b x sc g here (o b x)) → Keeps o w u → EachReady sc here w bs → EachReady sc here u bs
  each_ready_kept sc [] here o w u g k keep h = tt
  each_ready_kept sc (c ∷ cs) here o w u g k keep h = (ready_kept (ABlock false sc c) here o w u g k keep h.0, each_ready_kept sc cs here o w u g k keep h.1)

  pub envs_kept : (sc : Scope) (bs : List KBlock) (here : Body) (o : Body → ℕ → ℕ) (w u : World) → Keeps o w u → Envs sc bs here o w → Envs sc bs here o u
  envs_kept sc bs here o w u keep v = record { ground = v.ground; on = v.on; known = v.known; ready = each_ready_kept sc bs here o w u v.ground v.known keep v.ready; low = low_kept o w u keep v.low }
