-- The configurations from which a run may start (this project's own): what waits there is a residual of the kernel, and the values are as a run leaves
-- them. A run that was stopped between two commands goes on from such a configuration.
use Rattle.std.specs.Prelude.{ℕ, ◌^◌, ◌-◌, nat_lt, nat_le, ℤ, pos, ◌+ℤ◌, ◌-ℤ◌, int_le, Bool, true, false, not, ◌&&◌, ◌||◌, if◌then◌else◌, ◌==◌, List, [], ◌∷◌, ◌++◌, Option, Some, None}
use Rattle.std.specs.List.{list_all, list_any}
use Rattle.ceu_base.specs.declared.kinds.Ty.TheVariants as ty
use Rattle.ceu_base.specs.Values.{is_value, least, same, of_test}
use Rattle.ceu_tree.specs.declared.kernel.Kernel.{Kernel}
use Rattle.ceu_tree.specs.declared.kernel.KCode.{KCode}
use Rattle.ceu_tree.specs.declared.kernel.KDecl.{KDecl}
use Rattle.ceu_tree.specs.declared.kernel.KKind.{KKind}
use Rattle.ceu_tree.specs.declared.kernel.KKind.TheVariants as kind
use Rattle.ceu_tree.specs.declared.kernel.KLoop.{KLoop}
use Rattle.ceu_tree.specs.declared.kernel.KLoop.TheVariants as turns
use Rattle.ceu_tree.specs.declared.kernel.ParKind.{ParKind}
use Rattle.ceu_tree.specs.declared.kernel.ParKind.TheVariants as par
use Rattle.ceu_tree.specs.declared.kernel.KNode.{KNode}
use Rattle.ceu_tree.specs.declared.kernel.KArm.{out-KArm}
use Rattle.ceu_tree.specs.declared.kernel.KBlock.{KBlock, out-KBlock}
use Rattle.ceu_tree.specs.declared.kernel.KStmt.{KStmt, Finalize, out-KStmt}
use Rattle.ceu_tree.specs.declared.kernel.KStmt.TheOpen.{KStmt-F}
use Rattle.ceu_tree.specs.Paths.{literal}
use Rattle.ceu_tree.specs.Residual.{Body, Program, Awaited, Spawned, same_body, Begin, Again, Counter, Free, Turns, Upward, Seat, Residual, Run, WaitInput, WaitTime, WaitEvent, WaitForever, InAsync, Block, Open, Loop, Call, Par, Branches, no_branch, branch, Instances, no_instance, instance}
use Rattle.ceu_tree.specs.World.{Cell, Holds, NotSet, Names, Held, World, look, is_among}
use Rattle.ceu_tree.specs.Leaf.{Layer, code_at}
use Rattle.ceu_tree.specs.Around.{is_over, all_over}
use Rattle.ceu_tree.specs.Mentions.{sets, named_by, outer_names_from}
use Rattle.ceu_tree.specs.Proper.{pool_slots, is_member}
use Rattle.ceu_tree.specs.Run.{Config, Waiting}

-- ---- where a block stands. Nodes are told by their numbers, which differ in a kernel.

abbrev pub same_nodes : List KNode → List KNode → Bool
same_nodes [] [] = true
same_nodes (a ∷ as') (b ∷ bs) = (a.node == b.node) && same_nodes as' bs
same_nodes _ _ = false

-- the statement of a list that has these behind it, and those before it
abbrev pub current : List KNode → (rest : List KNode) → Option KNode
current [] rest = None
current (s ∷ ss) rest = if same_nodes ss rest then Some s else current ss rest

abbrev pub before : List KNode → (rest : List KNode) → List KNode
before [] rest = []
before (s ∷ ss) rest = if same_nodes ss rest then [] else s ∷ before ss rest

abbrev pub is_finalizer : KStmt → Bool
is_finalizer (Finalize b) = true
is_finalizer _ = false

-- the finalizers among them, the last one first
abbrev pub finalizers_of : (found : List KNode) → List KNode → List KNode
finalizers_of found [] = found
finalizers_of found (s ∷ ss) = finalizers_of (if is_finalizer s.stmt then s ∷ found else found) ss

abbrev pub is_set : List KNode → ℕ → Bool
is_set done slot = list_any (λ s. sets slot s.stmt) done

-- ---- the instances of a tree, with the body whose pools they are in

pub record Seated : Type 0 where
  pub seat : Seat
  pub body : Body

unfoldable mutual
  pub seats : Residual → Body → List Seated
  seats (Block b fin all r rest) body = instance_seats all body ++ seats r body
  seats (Open s r) body = seats r body
  seats (Loop s c r) body = seats r body
  seats (Call s r) body = seats r (Awaited body s.node)
  seats (Par s bs) body = branch_seats bs body
  seats _ body = []

  pub branch_seats : Branches → Body → List Seated
  branch_seats no_branch body = []
  branch_seats (branch r more) body = seats r body ++ branch_seats more body

  pub instance_seats : Instances → Body → List Seated
  instance_seats no_instance body = []
  instance_seats (instance seat r more) body = record { seat = seat; body = body } ∷ (seats r (Spawned seat.number) ++ instance_seats more body)

abbrev pub numbers : List Seated → List ℕ
numbers [] = []
numbers (x ∷ xs) = x.seat.number ∷ numbers xs

abbrev pub all_differ : List ℕ → Bool
all_differ [] = true
all_differ (x ∷ xs) = not (is_among x xs) && all_differ xs

-- ---- the slots of the open parts

pub record OpenSlot : Type 0 where
  pub body : Body
  pub slot : ℕ

abbrev pub decls_open : Body → List KDecl → List OpenSlot
decls_open body [] = []
decls_open body (d ∷ ds) = record { body = body; slot = d.slot } ∷ decls_open body ds

abbrev pub turns_open : Body → KLoop → List OpenSlot
turns_open body (turns.Range i next end open_a a b open_b) = record { body = body; slot = i } ∷ []
turns_open body _ = []

abbrev pub loop_open : Body → Layer → List OpenSlot
loop_open body (KStmt-F.Loop k b) = turns_open body k
loop_open body _ = []

abbrev pub code_open : Body → Option KCode → List OpenSlot
code_open body None = []
code_open body (Some c) = decls_open body c.params

abbrev pub called_code : List KCode → Layer → Option KCode
called_code codes (KStmt-F.AwaitCode c es frame t) = code_at c codes
called_code codes _ = None

module _ (codes : List KCode) where
  unfoldable mutual
    pub open_slots : Residual → Body → List OpenSlot
    open_slots (Block b fin all r rest) body = decls_open body (out-KBlock b).decls ++ instances_open all ++ open_slots r body
    open_slots (Open s r) body = open_slots r body
    open_slots (Loop s c r) body = loop_open body (out-KStmt s.stmt) ++ open_slots r body
    open_slots (Call s r) body = code_open (Awaited body s.node) (called_code codes (out-KStmt s.stmt)) ++ open_slots r (Awaited body s.node)
    open_slots (Par s bs) body = branches_open bs body
    open_slots (InAsync s served r) body = open_slots r body
    open_slots _ body = []

    pub branches_open : Branches → Body → List OpenSlot
    branches_open no_branch body = []
    branches_open (branch r more) body = open_slots r body ++ branches_open more body

    pub instances_open : Instances → List OpenSlot
    instances_open no_instance = []
    instances_open (instance seat r more) = code_open (Spawned seat.number) (code_at seat.code codes) ++ open_slots r (Spawned seat.number) ++ instances_open more

abbrev pub is_open_slot : List OpenSlot → Held → Bool
is_open_slot xs h = list_any (λ x. (x.slot == h.slot) && same_body x.body h.body) xs

-- ---- values and counters

abbrev pub lies : ℕ → ℕ → ℕ → Bool
lies low high n = nat_le low n && nat_le n high

module _ (K : Kernel) (w : World) (found : List Seated) where
  -- an instance that lives is one of the alias's code, in a pool that the alias may have
  abbrev pub names_ok : Body → (code : ℕ) → (pools : List ℕ) → ℕ → Bool
  names_ok body code pools k =
      lies 1 w.given k && list_all (λ x. not (x.seat.number == k) || ((x.seat.code == code) && is_member x.seat.pool pools && same_body x.body body)) found

  abbrev pub cell_ok : Body → List ℕ → KKind → Cell → Bool
  cell_ok body pools (kind.Var t) (Holds v) = is_value t v
  cell_ok body pools (kind.Alias c) NotSet = true
  cell_ok body pools (kind.Alias c) (Names k) = names_ok body c pools k
  cell_ok body pools _ c = false

  abbrev pub held_ok : Body → List ℕ → (set : Bool) → KKind → Option Cell → Bool
  held_ok body pools set k None = not set
  held_ok body pools set k (Some c) = cell_ok body pools k c

  abbrev pub is_pool : KKind → Bool
  is_pool (kind.Pool n c) = true
  is_pool _ = false

  -- those that are set hold a value, and each value is one of its type
  abbrev pub decls_ok : Body → List ℕ → (done : List KNode) → List KDecl → Bool
  decls_ok body pools done [] = true
  decls_ok body pools done (d ∷ ds) = (is_pool d.kind || held_ok body pools (is_set done d.slot) d.kind (look body d.slot w.values)) && decls_ok body pools done ds

  abbrev pub params_ok : Body → List KDecl → Bool
  params_ok body [] = true
  params_ok body (d ∷ ds) = held_ok body [] true d.kind (look body d.slot w.values) && params_ok body ds

  -- from the first value on, where it is constant
  abbrev pub starts_at : Option ℤ → Bool → ℤ → Bool
  starts_at None open_a v = true
  starts_at (Some a) open_a v = int_le (a +ℤ of_test open_a) v

  abbrev pub ends_at : Option ℤ → Bool → ℤ → Bool
  ends_at None open_b last = is_value ty.S32 last || same last (least ty.S32 -ℤ pos 1)
  ends_at (Some b) open_b last = same last (b -ℤ of_test open_b)

  abbrev pub range_ok : Option Cell → ℤ → ℤ → Bool
  range_ok (Some (Holds v)) next last = same next (v +ℤ pos 1) && int_le v last && is_value ty.S32 v
  range_ok _ next last = false

  abbrev pub first_ok : Option Cell → Option ℤ → Bool → Bool
  first_ok (Some (Holds v)) a open_a = starts_at a open_a v
  first_ok _ a open_a = false

  abbrev pub counter_ok : Body → KLoop → Counter → Bool
  counter_ok body turns.Free Free = true
  counter_ok body (turns.Times slot n) (Turns k) = lies 1 n k
  counter_ok body (turns.Range i next end open_a a b open_b) (Upward n last) =
      range_ok (look body i w.values) n last && first_ok (look body i w.values) (literal a.node) open_a && ends_at (literal b.node) open_b last
  counter_ok body _ c = false

  -- ---- pools

  abbrev pub has_place : List KDecl → Seat → Bool
  has_place [] seat = false
  has_place (d ∷ ds) seat = elim d.kind [ kind.Pool n c ↦ ((d.slot == seat.pool) && (c == seat.code) && nat_lt seat.place n) | _ ↦ false ] || has_place ds seat

  -- in lexical order, each at a place of its own
  abbrev pub goes_before : Seat → Instances → Bool
  goes_before seat no_instance = true
  goes_before seat (instance other r more) =
      (nat_lt seat.pool other.pool || ((seat.pool == other.pool) && nat_lt seat.number other.number && not (seat.place == other.place))) && goes_before seat more

  abbrev pub par_stands : ParKind → Branches → Bool
  par_stands par.And bs = not (all_over bs)
  par_stands _ bs = true

  abbrev pub may_be_over : ParKind → Bool
  may_be_over par.Or = false
  may_be_over _ = true

  -- ---- a residual of a block and of a statement; `async` says that it is inside an async, whose trail stands at its start or after a turn of a loop

  unfoldable mutual
    pub block_stands : (async : Bool) → Body → List ℕ → KBlock → Residual → Bool
    block_stands async body pools b (Block c fin all r rest) =
        let o = out-KBlock b in
        let inner = pool_slots o.decls ++ pools in
        let done = before o.list rest in
        (o.node == (out-KBlock c).node) && same_nodes fin (finalizers_of [] done) && decls_ok body inner done o.decls && instances_stand o.decls all &&
        elim (current o.list rest) [ None ↦ false | Some s ↦ stmt_stands async body inner s (out-KStmt s.stmt) r ]
    block_stands true body pools b (Run n (Begin c)) = (n == 0) && ((out-KBlock b).node == (out-KBlock c).node)
    block_stands true body pools b (Run n Again) = n == 0
    block_stands async body pools b r = false

    pub stmt_stands : (async : Bool) → Body → List ℕ → KNode → Layer → Residual → Bool
    stmt_stands false body pools s (KStmt-F.AwaitIn k t) (WaitInput m q) = (s.node == q.node) && (k == m)
    stmt_stands false body pools s (KStmt-F.AwaitTime e u t) (WaitTime d q) = (s.node == q.node) && lies 1 (2 ^ 63 - 1) d
    stmt_stands false body pools s (KStmt-F.AwaitEvent k t) (WaitEvent m q) = (s.node == q.node) && (k == m)
    stmt_stands false body pools s KStmt-F.Forever (WaitForever q) = s.node == q.node
    stmt_stands false body pools s (KStmt-F.Async b) (InAsync q served r) = (s.node == q.node) && block_stands true body pools b r
    stmt_stands async body pools s (KStmt-F.Do t b) (Open q r) = (s.node == q.node) && block_stands async body pools b r
    stmt_stands async body pools s (KStmt-F.If arms last) (Open q r) = (s.node == q.node) && (block_stands async body pools last r || list_any (λ a. block_stands async body pools (out-KArm a).body r) arms)
    stmt_stands async body pools s (KStmt-F.Loop k b) (Loop q c r) = (s.node == q.node) && counter_ok body k c && block_stands async body pools b r
    stmt_stands false body pools s (KStmt-F.AwaitCode c es frame t) (Call q r) =
        (s.node == q.node) && elim (code_at c K.codes) [ None ↦ false | Some k ↦ params_ok (Awaited body s.node) k.params && block_stands false (Awaited body s.node) [] k.body r ]
    stmt_stands false body pools s (KStmt-F.Par k slot bs) (Par q rs) = (s.node == q.node) && par_stands k rs && branches_stand body pools k bs rs
    stmt_stands async body pools s layer r = false

    pub branches_stand : Body → List ℕ → ParKind → List KBlock → Branches → Bool
    branches_stand body pools k [] no_branch = true
    branches_stand body pools k (b ∷ bs) (branch r more) = ((is_over r && may_be_over k) || block_stands false body pools b r) && branches_stand body pools k bs more
    branches_stand body pools k bs rs = false

    pub instances_stand : List KDecl → Instances → Bool
    instances_stand ds no_instance = true
    instances_stand ds (instance seat r more) =
        has_place ds seat && goes_before seat more &&
        elim (code_at seat.code K.codes) [ None ↦ false | Some k ↦ params_ok (Spawned seat.number) k.params && block_stands false (Spawned seat.number) [] k.body r ] &&
        instances_stand ds more

-- ---- the whole

-- the statements of the program's own block before the one where it stands
abbrev pub program_done : KBlock → Residual → List KNode
program_done b (Block c fin all r rest) = before (out-KBlock b).list rest
program_done b r = []

abbrev pub is_program_variable : ℕ → List KDecl → Bool
is_program_variable slot [] = false
is_program_variable slot (d ∷ ds) = ((d.slot == slot) && elim d.kind [ kind.Var t ↦ true | _ ↦ false ]) || is_program_variable slot ds

-- where an instance lives, the program's variables that its code names are set
abbrev pub outer_set : Kernel → Residual → Seated → Bool
outer_set K r x = list_all (λ slot. not (is_program_variable slot (out-KBlock K.body).decls) || is_set (program_done K.body r) slot) (named_by x.seat.code (outer_names_from [] K.codes))

abbrev pub no_fault : {A : Type 0} → Option A → Bool
no_fault None = true
no_fault (Some e) = false

unfoldable pub stands : Kernel → Residual → World → Bool
stands K r w =
    let found = seats r Program in
    let ns = numbers found in
    block_stands K w found false Program [] K.body r && list_all (is_open_slot (open_slots K.codes r Program)) w.values &&
    all_differ ns && list_all (lies 1 w.given) ns && list_all (λ n. is_among n w.living) ns && list_all (λ n. is_among n ns) w.living && all_differ w.living &&
    nat_lt w.given (2 ^ 32) && list_all (outer_set K r) found && no_fault w.fault

abbrev pub is_legal : Kernel → Config → Bool
is_legal K (Waiting r w) = stands K r w
is_legal K _ = false
