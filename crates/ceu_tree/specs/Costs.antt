-- What a statement costs in one reaction: turns of trails, and levels that it opens (this project's own).
--
-- `enter` bounds the cost from a statement's start, `stay` the cost where it stood waiting when the reaction began. `passing` says which codes
-- may go on at once, `events` what an emission of each event costs, `entering` and `staying` what the codes above cost.
use Rattle.std.specs.Prelude.{ℕ, zero, suc, ◌+◌, ◌-◌, ◌*◌, max, Bool, true, false, not, ◌&&◌, ◌||◌, if◌then◌else◌, ◌==◌, List, [], ◌∷◌, ◌++◌, length, Option, Some, None}
use Rattle.std.specs.List.{list_any, list_all}
use Rattle.ceu_tree.specs.declared.kernel.Kernel.{Kernel}
use Rattle.ceu_tree.specs.declared.kernel.KCode.{KCode}
use Rattle.ceu_tree.specs.declared.kernel.KEvent.{KEvent}
use Rattle.ceu_tree.specs.declared.kernel.KDecl.{KDecl}
use Rattle.ceu_tree.specs.declared.kernel.KKind.TheVariants as kind
use Rattle.ceu_tree.specs.declared.kernel.KLoop.{KLoop}
use Rattle.ceu_tree.specs.declared.kernel.KBlock.{KBlock, KBlock', Row_of-KNode, end_of-KNode, more_of-KNode}
use Rattle.ceu_tree.specs.declared.kernel.KNode.{KNode}
use Rattle.ceu_tree.specs.declared.kernel.KArm.{KArm, KArm'}
use Rattle.ceu_tree.specs.declared.kernel.KStmt.{KStmt, Row_of-KArm, end_of-KArm, more_of-KArm, Row_of-KBlock, end_of-KBlock, more_of-KBlock, Emit, AwaitIn, AwaitTime, AwaitEvent, Forever, AwaitCode, Spawn, Async, Do, If', Loop, Par'}
use Rattle.ceu_tree.specs.Paths.{is_continue, has_end, constant_bound, quick, quick_node, quick_block, passes_from}

pub record Cost : Type 0 where
  pub turns : ℕ
  pub opens : ℕ

abbrev pub nothing : Cost
nothing = record { turns = 0; opens = 0 }

abbrev pub cost : ℕ → ℕ → Cost
cost t o = record { turns = t; opens = o }

abbrev pub plus : Cost → Cost → Cost
plus a b = cost (a.turns + b.turns) (a.opens + b.opens)

abbrev pub times : ℕ → Cost → Cost
times k a = cost (k * a.turns) (k * a.opens)

abbrev pub most : Cost → Cost → Cost
most a b = cost (max a.turns b.turns) (max a.opens b.opens)

abbrev pub sum_of : {X : Type 0} → (X → Cost) → List X → Cost
sum_of f [] = nothing
sum_of f (x ∷ xs) = plus (f x) (sum_of f xs)

abbrev pub most_of : {X : Type 0} → (X → Cost) → List X → Cost
most_of f [] = nothing
most_of f (x ∷ xs) = most (f x) (most_of f xs)

abbrev pub cost_at : ℕ → List Cost → Cost
cost_at k [] = nothing
cost_at zero (x ∷ xs) = x
cost_at (suc k) (x ∷ xs) = cost_at k xs

-- ---- loops that are paced by an event

abbrev pub no_bound : KLoop → Bool
no_bound k = elim (constant_bound k) [ None ↦ true | Some n ↦ false ]

-- no await, async, par, spawn, and no loop without a constant bound
unfoldable mutual
  pub is_calm : KStmt → Bool
  is_calm (AwaitIn k t) = false
  is_calm (AwaitTime e u t) = false
  is_calm (AwaitEvent e t) = false
  is_calm Forever = false
  is_calm (AwaitCode c es f t) = false
  is_calm (Async b) = false
  is_calm (Par' k slot _ bs) = false
  is_calm (Spawn c es p a) = false
  is_calm (Do t b) = calm_block b
  is_calm (If' _ arms last) = calm_arms arms && calm_block last
  is_calm (Loop k b) = not (no_bound k) && calm_block b
  is_calm _ = true

  pub calm_block : KBlock → Bool
  calm_block (KBlock' n ds _ list) = calm_nodes list

  pub calm_arm : KArm → Bool
  calm_arm (KArm' c b) = calm_block b

  pub calm_nodes : {n : _} → Row_of-KNode n → Bool
  calm_nodes end_of-KNode = true
  calm_nodes (more_of-KNode n p s rest) = is_calm s && calm_nodes rest

  pub calm_arms : {n : _} → Row_of-KArm n → Bool
  calm_arms end_of-KArm = true
  calm_arms (more_of-KArm a rest) = calm_arm a && calm_arms rest

abbrev pub calm_node : KNode → Bool
calm_node n = is_calm n.stmt

abbrev pub awaited_event : KStmt → Option ℕ
awaited_event (AwaitEvent e t) = Some e
awaited_event _ = None

abbrev pub paced_list : {n : _} → Row_of-KNode n → Option ℕ
paced_list end_of-KNode = None
paced_list (more_of-KNode n p s rest) = if calm_nodes rest then awaited_event s else None

abbrev pub paced_body : KBlock → Option ℕ
paced_body (KBlock' n ds _ list) = paced_list list

abbrev pub paced_nodes : List KNode → Option ℕ
paced_nodes [] = None
paced_nodes (s ∷ ss) = if list_all calm_node ss then awaited_event s.stmt else None

-- the event that paces a loop
abbrev pub paced : KLoop → KBlock → Option ℕ
paced k b = if no_bound k then paced_body b else None

-- ---- enter and stay

abbrev pub loop_times : List Bool → ℕ → KLoop → KBlock → ℕ
loop_times passing node k b = elim (constant_bound k) [ None ↦ 1 | Some n ↦ (if has_end (quick_block passing b) || list_any (is_continue node) (quick_block passing b) then n else 1) ]

-- a paced loop costs nothing by itself: its turns are paid for by the emissions that wake it
abbrev pub loop_enter : List Bool → ℕ → KLoop → KBlock → Cost → Cost
loop_enter passing node k b body = elim (paced k b) [ Some e ↦ nothing | None ↦ times (loop_times passing node k b) body ]

abbrev pub loop_stay : List Bool → ℕ → KLoop → KBlock → Cost → Cost → Cost
loop_stay passing node k b standing body = elim (paced k b) [ Some e ↦ nothing | None ↦ plus standing (times (loop_times passing node k b) body) ]

-- the first branch goes on in the turn that reaches the par
abbrev pub without_one : Cost → Cost
without_one a = cost (a.turns - 1) a.opens

module _ (passing : List Bool) (events : List Cost) (entering : List Cost) where
  unfoldable mutual
    pub enter : ℕ → KStmt → Cost
    enter node (AwaitEvent e t) = cost 1 0
    enter node (Emit e x) = cost_at e events
    enter node (Spawn c es p a) = plus (cost 2 1) (cost_at c entering)
    enter node (AwaitCode c es f t) = cost_at c entering
    enter node (Do t b) = enter_block b
    enter node (If' _ arms last) = most (enter_arms arms) (enter_block last)
    enter node (Par' k slot _ bs) = without_one (enter_blocks bs)
    enter node (Loop k b) = loop_enter passing node k b (enter_block b)
    enter node _ = nothing

    pub enter_block : KBlock → Cost
    enter_block (KBlock' n ds _ list) = enter_nodes list

    pub enter_arm : KArm → Cost
    enter_arm (KArm' c b) = enter_block b

    -- up to and including the first sure one
    pub enter_nodes : {n : _} → Row_of-KNode n → Cost
    enter_nodes end_of-KNode = nothing
    enter_nodes (more_of-KNode n p s rest) = if has_end (quick passing n s) then plus (enter n s) (enter_nodes rest) else enter n s

    pub enter_arms : {n : _} → Row_of-KArm n → Cost
    enter_arms end_of-KArm = nothing
    enter_arms (more_of-KArm a rest) = most (enter_arm a) (enter_arms rest)

    -- the sum, with one turn for each
    pub enter_blocks : {n : _} → Row_of-KBlock n → Cost
    enter_blocks end_of-KBlock = nothing
    enter_blocks (more_of-KBlock b rest) = plus (plus (cost 1 0) (enter_block b)) (enter_blocks rest)

  abbrev pub enter_node : KNode → Cost
  enter_node n = enter n.node n.stmt

  abbrev pub enter_list : List KNode → Cost
  enter_list [] = nothing
  enter_list (s ∷ ss) = if has_end (quick_node passing s) then plus (enter_node s) (enter_list ss) else enter_node s

  abbrev pub enter_branch : KBlock → Cost
  enter_branch b = plus (cost 1 0) (enter_block b)

-- whether a statement holds an await, an async or a pool
abbrev pub has_pool_decl : List KDecl → Bool
has_pool_decl [] = false
has_pool_decl (d ∷ ds) = elim d.kind [ kind.Var t ↦ has_pool_decl ds | kind.Alias c ↦ has_pool_decl ds | kind.Pool n c ↦ true ]

unfoldable mutual
  pub stands_waiting : KStmt → Bool
  stands_waiting (AwaitIn k t) = true
  stands_waiting (AwaitTime e u t) = true
  stands_waiting (AwaitEvent e t) = true
  stands_waiting Forever = true
  stands_waiting (AwaitCode c es f t) = true
  stands_waiting (Async b) = true
  stands_waiting (Par' k slot _ bs) = waiting_blocks bs
  stands_waiting (Do t b) = waiting_block b
  stands_waiting (If' _ arms last) = waiting_arms arms || waiting_block last
  stands_waiting (Loop k b) = waiting_block b
  stands_waiting _ = false

  pub waiting_block : KBlock → Bool
  waiting_block (KBlock' n ds _ list) = has_pool_decl ds || waiting_nodes list

  pub waiting_arm : KArm → Bool
  waiting_arm (KArm' c b) = waiting_block b

  pub waiting_nodes : {n : _} → Row_of-KNode n → Bool
  waiting_nodes end_of-KNode = false
  waiting_nodes (more_of-KNode n p s rest) = stands_waiting s || waiting_nodes rest

  pub waiting_arms : {n : _} → Row_of-KArm n → Bool
  waiting_arms end_of-KArm = false
  waiting_arms (more_of-KArm a rest) = waiting_arm a || waiting_arms rest

  pub waiting_blocks : {n : _} → Row_of-KBlock n → Bool
  waiting_blocks end_of-KBlock = false
  waiting_blocks (more_of-KBlock b rest) = waiting_block b || waiting_blocks rest

abbrev pub node_waits : KNode → Bool
node_waits n = stands_waiting n.stmt

module _ (passing : List Bool) (events : List Cost) (entering staying : List Cost) where
  abbrev pub pools_stay : List KDecl → Cost
  pools_stay [] = nothing
  pools_stay (d ∷ ds) = elim d.kind [ kind.Var t ↦ pools_stay ds | kind.Alias c ↦ pools_stay ds | kind.Pool n c ↦ plus (times n (cost_at c staying)) (pools_stay ds) ]

  unfoldable mutual
    pub stay : ℕ → KStmt → Cost
    stay node (AwaitIn k t) = cost 1 0
    stay node (AwaitTime e u t) = cost 1 0
    stay node (AwaitEvent e t) = cost 1 0
    stay node (Async b) = cost 1 0
    stay node (AwaitCode c es f t) = cost_at c staying
    stay node (Do t b) = stay_block b
    stay node (If' _ arms last) = most (stay_arms arms) (stay_block last)
    stay node (Par' k slot _ bs) = stay_blocks bs
    stay node (Loop k b) = loop_stay passing node k b (stay_block b) (enter_block passing events entering b)
    stay node _ = nothing

    pub stay_block : KBlock → Cost
    stay_block (KBlock' n ds _ list) = plus (pools_stay ds) (stay_nodes list)

    pub stay_arm : KArm → Cost
    stay_arm (KArm' c b) = stay_block b

    -- the greatest, each with what follows it
    pub stay_nodes : {n : _} → Row_of-KNode n → Cost
    stay_nodes end_of-KNode = nothing
    stay_nodes (more_of-KNode n p s rest) = if stands_waiting s then most (plus (stay n s) (enter_nodes passing events entering rest)) (stay_nodes rest) else stay_nodes rest

    pub stay_arms : {n : _} → Row_of-KArm n → Cost
    stay_arms end_of-KArm = nothing
    stay_arms (more_of-KArm a rest) = most (stay_arm a) (stay_arms rest)

    pub stay_blocks : {n : _} → Row_of-KBlock n → Cost
    stay_blocks end_of-KBlock = nothing
    stay_blocks (more_of-KBlock b rest) = plus (stay_block b) (stay_blocks rest)

  abbrev pub stay_node : KNode → Cost
  stay_node n = stay n.node n.stmt

  abbrev pub stay_list : List KNode → Cost
  stay_list [] = nothing
  stay_list (s ∷ ss) = if node_waits s then most (plus (stay_node s) (enter_list passing events entering ss)) (stay_list ss) else stay_list ss

-- ---- what an emission costs

-- the rest of a paced loop's body
abbrev pub rest_cost : {n : _} → List Bool → List Cost → List Cost → Row_of-KNode n → Cost
rest_cost passing events entering end_of-KNode = nothing
rest_cost passing events entering (more_of-KNode n p s rest) = enter_nodes passing events entering rest

abbrev pub body_cost : List Bool → List Cost → List Cost → KBlock → Cost
body_cost passing events entering (KBlock' n ds _ list) = rest_cost passing events entering list

abbrev pub is_event : ℕ → Option ℕ → Bool
is_event e None = false
is_event e (Some f) = e == f

-- one turn for each loop that the event paces in a body, and what it enters
module _ (passing : List Bool) (events : List Cost) (entering : List Cost) (e : ℕ) where
  abbrev pub loop_woken : KLoop → KBlock → Cost
  loop_woken k b = if is_event e (paced k b) then plus (cost 1 0) (body_cost passing events entering b) else nothing

  unfoldable mutual
    pub woken : KStmt → Cost
    woken (Do t b) = woken_block b
    woken (If' _ arms last) = plus (woken_arms arms) (woken_block last)
    woken (Par' k slot _ bs) = woken_blocks bs
    woken (Loop k b) = plus (loop_woken k b) (woken_block b)
    woken _ = nothing

    pub woken_block : KBlock → Cost
    woken_block (KBlock' n ds _ list) = woken_nodes list

    pub woken_arm : KArm → Cost
    woken_arm (KArm' c b) = woken_block b

    pub woken_nodes : {n : _} → Row_of-KNode n → Cost
    woken_nodes end_of-KNode = nothing
    woken_nodes (more_of-KNode n p s rest) = plus (woken s) (woken_nodes rest)

    pub woken_arms : {n : _} → Row_of-KArm n → Cost
    woken_arms end_of-KArm = nothing
    woken_arms (more_of-KArm a rest) = plus (woken_arm a) (woken_arms rest)

    pub woken_blocks : {n : _} → Row_of-KBlock n → Cost
    woken_blocks end_of-KBlock = nothing
    woken_blocks (more_of-KBlock b rest) = plus (woken_block b) (woken_blocks rest)

  abbrev pub woken_node : KNode → Cost
  woken_node n = woken n.stmt

-- how often a body uses a code
abbrev pub pool_uses : ℕ → List KDecl → ℕ
pool_uses k [] = 0
pool_uses k (d ∷ ds) = elim d.kind [ kind.Var t ↦ pool_uses k ds | kind.Alias c ↦ pool_uses k ds | kind.Pool n c ↦ (if c == k then n + pool_uses k ds else pool_uses k ds) ]

unfoldable mutual
  pub uses : ℕ → KStmt → ℕ
  uses k (AwaitCode c es f t) = if c == k then 1 else 0
  uses k (Do t b) = block_uses k b
  uses k (If' _ arms last) = arms_uses k arms + block_uses k last
  uses k (Par' kind slot _ bs) = blocks_uses k bs
  uses k (Loop kind b) = block_uses k b
  uses k _ = 0

  pub block_uses : ℕ → KBlock → ℕ
  block_uses k (KBlock' n ds _ list) = pool_uses k ds + nodes_uses k list

  pub arm_uses : ℕ → KArm → ℕ
  arm_uses k (KArm' c b) = block_uses k b

  pub nodes_uses : {n : _} → ℕ → Row_of-KNode n → ℕ
  nodes_uses k end_of-KNode = 0
  nodes_uses k (more_of-KNode n p s rest) = uses k s + nodes_uses k rest

  pub arms_uses : {n : _} → ℕ → Row_of-KArm n → ℕ
  arms_uses k end_of-KArm = 0
  arms_uses k (more_of-KArm a rest) = arm_uses k a + arms_uses k rest

  pub blocks_uses : {n : _} → ℕ → Row_of-KBlock n → ℕ
  blocks_uses k end_of-KBlock = 0
  blocks_uses k (more_of-KBlock b rest) = block_uses k b + blocks_uses k rest

abbrev pub node_uses : ℕ → KNode → ℕ
node_uses k n = uses k n.stmt

-- of these codes with their instances, how many hold the code k
abbrev pub held_by : ℕ → List KCode → List ℕ → ℕ
held_by k [] ns = 0
held_by k (c ∷ cs) [] = 0
held_by k (c ∷ cs) (n ∷ ns) = block_uses k c.body * n + held_by k cs ns

-- the instances of the codes from number k on
abbrev pub instances_from : KBlock → ℕ → List KCode → List ℕ
instances_from main k [] = []
instances_from main k (c ∷ cs) = let later = instances_from main (k + 1) cs in (block_uses k main + held_by k cs later) ∷ later

abbrev pub enters_from : List Bool → List Cost → List Cost → List KCode → List Cost
enters_from passing events entering [] = entering
enters_from passing events entering (c ∷ cs) = enters_from passing events (entering ++ enter_block passing events entering c.body ∷ []) cs

abbrev pub stays_from : List Bool → List Cost → List Cost → List Cost → List KCode → List Cost
stays_from passing events entering staying [] = staying
stays_from passing events entering staying (c ∷ cs) = stays_from passing events entering (staying ++ stay_block passing events entering staying c.body ∷ []) cs

abbrev pub is_owner : ℕ → Option ℕ → Bool
is_owner k None = false
is_owner k (Some c) = c == k

-- over the code bodies from number k on: an event of the body itself reaches one instance
abbrev pub woken_codes : List Bool → List Cost → List Cost → ℕ → Option ℕ → ℕ → List KCode → List ℕ → Cost
woken_codes passing events entering e own k [] ns = nothing
woken_codes passing events entering e own k (c ∷ cs) [] = nothing
woken_codes passing events entering e own k (c ∷ cs) (n ∷ ns) =
    plus (times (if is_owner k own then 1 else n) (woken_block passing events entering e c.body)) (woken_codes passing events entering e own (k + 1) cs ns)

-- what an emission of each of these events, numbered from e on, costs where the emissions inside it cost `events`
abbrev pub emissions_from : Kernel → List Bool → List Cost → List Cost → List ℕ → ℕ → List KEvent → List Cost
emissions_from K passing events entering instances e [] = []
emissions_from K passing events entering instances e (x ∷ xs) =
    plus (cost 1 1) (plus (woken_block passing events entering e K.body) (woken_codes passing events entering e x.code 0 K.codes instances)) ∷ emissions_from K passing events entering instances (e + 1) xs

-- Emissions reach one another along at most as many arrows as there are events.
unfoldable pub emissions : Kernel → ℕ → List Cost
emissions K zero = []
emissions K (suc n) =
    let passing = passes_from [] K.codes in
    let events = emissions K n in
    emissions_from K passing events (enters_from passing events [] K.codes) (instances_from K.body 0 K.codes) 0 K.events

unfoldable pub bounds : Kernel → Cost
bounds K =
    let passing = passes_from [] K.codes in
    let events = emissions K (length K.events) in
    let entering = enters_from passing events [] K.codes in
    let staying = stays_from passing events entering [] K.codes in
    most (plus (cost 1 0) (enter_block passing events entering K.body)) (stay_block passing events entering staying K.body)
