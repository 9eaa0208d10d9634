-- What a tree has to pay with which a reaction begins is at most what its parts cost where they stood waiting.
use Rattle.std.proofs.Common.{◌≡◌, refl, sym, ap, ◌∙◌, subst, ◌≤◌, ℕ, Bool, true, false, if◌then◌else◌, ◌||◌, ◌⊎◌, inl, inr, List, [], ◌∷◌, ◌++◌, Option, Some, None, arith}
use Rattle.std.proofs.lemmas.Bool.{false≢true}
use Rattle.std.specs.List.{list_all}
use Rattle.ceu_tree.specs.declared.kernel.Kernel.{Kernel}
use Rattle.ceu_tree.specs.declared.kernel.KDecl.{KDecl}
use Rattle.ceu_tree.specs.declared.kernel.KLoop.{KLoop}
use Rattle.ceu_tree.specs.declared.kernel.KLoop.TheVariants as turns
use Rattle.ceu_tree.specs.declared.kernel.ParKind.{ParKind}
use Rattle.ceu_tree.specs.declared.kernel.KNode.{KNode}
use Rattle.ceu_tree.specs.declared.kernel.KArm.{KArm}
use Rattle.ceu_tree.specs.declared.kernel.KBlock.{KBlock, out-KBlock}
use Rattle.ceu_tree.specs.declared.kernel.KStmt.{KStmt, out-KStmt, AwaitEvent}
use Rattle.ceu_tree.specs.declared.kernel.KStmt.TheOpen.{KStmt-F}
use Rattle.ceu_tree.proofs.CalmLaws.{paced_of_body}
use Rattle.ceu_tree.proofs.StayLaws.{stay_of_block, stay_of_arm}
use Rattle.ceu_tree.specs.Residual.{Counter, Turns, Upward, Residual, Block, Branches, Instances}
use Rattle.ceu_tree.specs.Leaf.{Layer}
use Rattle.ceu_tree.specs.Paths.{Way, constant_bound, has_end, quick_block}
use Rattle.ceu_tree.specs.Costs.{Cost, cost, nothing, plus, times, most, most_of, sum_of, cost_at, no_bound, calm_node, awaited_event, paced, paced_body, paced_nodes, loop_times, loop_stay, enter_block, enter_list, node_waits, pools_stay, stay_block, stay_arm, stay_node, stay_list}
use Rattle.ceu_tree.specs.Proper.{Scope}
use Rattle.laws_meaning_basics.specs.Shape.{Part, ABlock, AStatement, AnEnd, among_arms, opens_part, counts, Fits, to_begin, to_turn, in_list, to_finish, at_input, at_time, at_event, at_forever, at_async, in_part, in_turn, in_call, in_par, EachFits, no_more, an_ended, a_branch, AllFit, none_lives, one_lives}
use Rattle.laws_meaning_instances.specs.Instances.{pools_stand, each_pools_stand, seats_stand}
use Rattle.ceu_endings.specs.Counted.{turns_left, at_most, turns_counted, layer_counted, tree_counted, each_counted, all_counted}
use Rattle.laws_bounds_steps.specs.Ways.{goes_on, to_begin as turns_to_begin, ways}
use Rattle.laws_bounds_steps.specs.Due.{is_await, at_await, at_head, running, times_of_turns, head_times, head_due, due_in_loop, due, due_of_branches, due_of_instances, due_at_head}
use Rattle.laws_bounds_steps.specs.Pays.{Within, is_paced}
use Rattle.laws_bounds_steps.specs.Kept.{CodesStay}
use Rattle.laws_bounds_steps.proofs.Cost.{same, is, chain, both, least, more_times, fewer_turns}
use Rattle.laws_bounds_reach.specs.Copies.{weigh_instances}
use Rattle.laws_bounds_reach.proofs.Pools.{hold, pools_stay_is}
use Rattle.laws_bounds_reach.specs.Standing.{is_outside, begins_reaction, each_begins, all_begin, spawns_nothing, pools_bare, each_bare, all_bare}
use Rattle.laws_bounds_reach.proofs.StandingLayers.{stay_layer, stay_is}
use Rattle.laws_bounds_reach.proofs.Still.{calm_among, calm_stands_not, Still, stands_still}
use denote.Hole.Carrier

most_first : (a b c : Cost) → Within a b → Within a (most b c)
most_first a b c h = let h0 = h.turns in let h1 = h.opens in record { turns = omega (arith, h0); opens = omega (arith, h1) }

most_second : (a b c : Cost) → Within a c → Within a (most b c)
most_second a b c h = let h0 = h.turns in let h1 = h.opens in record { turns = omega (arith, h0); opens = omega (arith, h1) }

-- ---- the head of a loop that an event paces

pub event_awaited : (st : KStmt) (e : ℕ) → awaited_event st ≡ Some e → is_await (out-KStmt st) ≡ true
unfolding out-KStmt Carrier.out
event_awaited (AwaitEvent x t) e h = refl
event_awaited st e h = absurd (cc)

await_inside : (layer : Layer) → is_outside layer ≡ true → is_await layer ≡ true → ⊥
await_inside (KStmt-F.AwaitEvent x t) o h = false≢true o
await_inside layer o h = false≢true h

pub await_opens : (layer : Layer) (b : KBlock) → opens_part layer b → is_await layer ≡ true → ⊥
await_opens (KStmt-F.AwaitEvent x t) b o h = o
await_opens layer b o h = false≢true h

-- the statement that stands is the await, or calm
pub paced_at : (done : List KNode) (s : KNode) (rest : List KNode) (e : ℕ) → paced_nodes (done ++ s ∷ rest) ≡ Some e → (awaited_event s.stmt ≡ Some e) ⊎ (calm_node s ≡ true)
paced_at [] s rest e h = go (list_all calm_node rest) h
  where
    go : (c : Bool) → (if c then awaited_event s.stmt else None) ≡ Some e → (awaited_event s.stmt ≡ Some e) ⊎ (calm_node s ≡ true)
    go true q = inl q
    go false q = absurd (cc)
paced_at (x ∷ done) s rest e h = go (list_all calm_node (done ++ s ∷ rest)) refl h
  where
    go : (c : Bool) → list_all calm_node (done ++ s ∷ rest) ≡ c → (if c then awaited_event x.stmt else None) ≡ Some e → (awaited_event s.stmt ≡ Some e) ⊎ (calm_node s ≡ true)
    go true z q = inr (calm_among calm_node done s rest z)
    go false z q = absurd (cc)

paced_by : (k : KLoop) (b : KBlock) (e : ℕ) → paced k b ≡ Some e → paced_body b ≡ Some e
paced_by k b e h = go (no_bound k) h
  where
    go : (n : Bool) → (if n then paced_body b else None) ≡ Some e → paced_body b ≡ Some e
    go true q = q
    go false q = absurd (cc)

nothing_spawned : (b : KBlock) (e : ℕ) → paced_body b ≡ Some e → spawns_nothing b ≡ true
nothing_spawned b e h = behind _ (is_paced (paced_body b)) (ap is_paced h)
  where
    behind : (x y : Bool) → y ≡ true → (x || y) ≡ true
    behind true y q = refl
    behind false y q = q

-- a leaf that stands at that await waits
waits_there : {K : Kernel} {top : ℕ} {sc : Scope} {s : KNode} {r : Residual} → Fits K top (AStatement sc s) r → begins_reaction r → is_await (out-KStmt s.stmt) ≡ true → (at_await r ≡ true) × (running r ≡ nothing)
unfolding begins_reaction
waits_there {s = s} (to_finish l q) h a = absurd (await_inside (out-KStmt s.stmt) h a)
waits_there (at_event t q) h a = (refl, refl)
waits_there (at_input t q) h a = absurd (false≢true (sym (ap is_await q) ∙ a))
waits_there (at_time x u t q) h a = absurd (false≢true (sym (ap is_await q) ∙ a))
waits_there (at_forever q) h a = absurd (false≢true (sym (ap is_await q) ∙ a))
waits_there (at_async b q k) h a = absurd (false≢true (sym (ap is_await q) ∙ a))
waits_there {s = s} (in_part b o k) h a = absurd (await_opens (out-KStmt s.stmt) b o a)
waits_there (in_turn k b q c f) h a = absurd (false≢true (sym (ap is_await q) ∙ a))
waits_there (in_call c es f t k q g x) h a = absurd (false≢true (sym (ap is_await q) ∙ a))
waits_there (in_par k slot bs q on x) h a = absurd (false≢true (sym (ap is_await q) ∙ a))

-- ---- loops

-- a counter has no more turns left than the loop
left_within : (k : KLoop) (c : Counter) (m : ℕ) → constant_bound k ≡ Some m → counts k c ≡ true → turns_counted k c → turns_to_begin k c ≤ m
left_within turns.Free c m e q h = absurd (cc)
left_within (turns.Times slot n) (Turns j) m e q h = let z : n ≡ m = ap (λ o. elim o [ None ↦ n | Some y ↦ y ]) e in omega (arith, z)
left_within (turns.Range i next end open_a a b open_b) (Upward at last) m e q h = subst (λ o. at_most o (turns_left at last)) e h
left_within k c m e q h = absurd (false≢true q)

module _ (P : List Bool) (E N S : List Cost) where
  abbrev pub part_stay : Part → Cost
  part_stay (ABlock turn sc b) = stay_block P E N S b
  part_stay (AStatement sc s) = stay_node P E N S s
  part_stay AnEnd = nothing

  head_within : (node : ℕ) (k : KLoop) (b : KBlock) (c : Counter) → counts k c ≡ true → turns_counted k c → head_times P node k b c ≤ loop_times P node k b
  head_within node k b c q h = go (constant_bound k) refl
    where
      go : (o : Option ℕ) → constant_bound k ≡ o
          → elim o [ None ↦ 1 | Some m ↦ times_of_turns (goes_on node (quick_block P b)) (turns_to_begin k c) ] ≤ elim o [ None ↦ 1 | Some m ↦ (if goes_on node (quick_block P b) then m else 1) ]
      go None z = omega arith
      go (Some m) z = fewer_turns (goes_on node (quick_block P b)) (turns_to_begin k c) m (left_within k c m z q h)

  loop_costs : (node : ℕ) (k : KLoop) (b : KBlock) (c : Counter) (head : Bool) (waiting inside : Cost) (q : List Way) → counts k c ≡ true → turns_counted k c
      → Within inside (stay_block P E N S b) → ((e : ℕ) → paced k b ≡ Some e → Within (if head then waiting else inside) nothing)
      → Within (due_in_loop P E N node (KStmt-F.Loop k b) c head waiting inside q) (loop_stay P node k b (stay_block P E N S b) (enter_block P E N b))
  loop_costs node k b c head waiting inside q n h i w = go (paced k b) refl
    where
      more : (x : Bool) → Within (if x then head_due P E N node k b c else nothing) (times (loop_times P node k b) (enter_block P E N b))
      more true = more_times (head_times P node k b c) (loop_times P node k b) (enter_block P E N b) (head_within node k b c n h)
      more false = least _

      go : (o : Option ℕ) → paced k b ≡ o → Within (elim o [ Some e ↦ if head then waiting else inside | None ↦ plus inside (if goes_on node q then head_due P E N node k b c else nothing) ])
          (elim o [ Some e ↦ nothing | None ↦ plus (stay_block P E N S b) (times (loop_times P node k b) (enter_block P E N b)) ])
      go (Some e) z = w e z
      go None z = both _ _ _ _ i (more (goes_on node q))

  -- ---- lists of statements

  stay_skips : (done : List KNode) (ss : List KNode) (a : Cost) → Within a (stay_list P E N S ss) → Within a (stay_list P E N S (done ++ ss))
  stay_skips [] ss a h = h
  stay_skips (x ∷ done) ss a h = go (node_waits x) (stay_skips done ss a h)
    where
      go : (w : Bool) → Within a (stay_list P E N S (done ++ ss)) → Within a (if w then most (plus (stay_node P E N S x) (enter_list P E N (done ++ ss))) (stay_list P E N S (done ++ ss)) else stay_list P E N S (done ++ ss))
      go true i = most_second _ _ _ i
      go false i = i

  after_some : (x : Bool) (a : Cost) → Within (if x then a else nothing) a
  after_some true a = same a
  after_some false a = least a

  -- the statement that stands, and what follows it
  stay_front : (s : KNode) (rest : List KNode) (r : Residual) → (node_waits s ≡ false → Still P E N r) → Within (due P E N r) (stay_node P E N S s)
      → Within (plus (due P E N r) (if has_end (ways P r) then enter_list P E N rest else nothing)) (stay_list P E N S (s ∷ rest))
  stay_front s rest r still h = go (node_waits s) refl
    where
      go : (w : Bool) → node_waits s ≡ w → Within (plus (due P E N r) (if has_end (ways P r) then enter_list P E N rest else nothing))
          (if w then most (plus (stay_node P E N S s) (enter_list P E N rest)) (stay_list P E N S rest) else stay_list P E N S rest)
      go true q = most_first _ _ _ (both _ _ _ _ h (after_some (has_end (ways P r)) _))
      go false q = let z = still q in chain _ nothing _ (is _ _ (ap (λ x. plus x (if has_end (ways P r) then enter_list P E N rest else nothing)) z.pays ∙ ap (λ q. plus nothing (if has_end q then enter_list P E N rest else nothing)) z.goes)) (least _)

  block_costs : (b : KBlock) (fin : List KNode) (all : Instances) (r : Residual) (s : KNode) (done rest : List KNode) → (out-KBlock b).list ≡ done ++ s ∷ rest
      → Within (due_of_instances P E N all) (pools_stay P E N S (out-KBlock b).decls) → (node_waits s ≡ false → Still P E N r) → Within (due P E N r) (stay_node P E N S s)
      → Within (due P E N (Block b fin all r rest)) (stay_block P E N S b)
  unfolding due
  block_costs b fin all r s done rest e pools still h =
      subst (λ c. Within (due P E N (Block b fin all r rest)) c) (sym (stay_of_block P E N S b)) (both _ _ _ _ pools
      (subst (λ l. Within (plus (due P E N r) (if has_end (ways P r) then enter_list P E N rest else nothing)) (stay_list P E N S l)) (sym e) (stay_skips done (s ∷ rest) _ (stay_front s rest r still h))))

  -- ---- blocks that statements open

  arms_stay : (arms : List KArm) (b : KBlock) → among_arms arms b → Within (stay_block P E N S b) (most_of (stay_arm P E N S) arms)
  arms_stay [] b o = absurd o
  arms_stay (a ∷ arms) b (inl e) = most_first _ _ _ (is _ _ (ap (stay_block P E N S) (sym e) ∙ sym (stay_of_arm P E N S a)))
  arms_stay (a ∷ arms) b (inr o) = most_second _ _ _ (arms_stay arms b o)

  opens_stay : (node : ℕ) (layer : Layer) (b : KBlock) → opens_part layer b → Within (stay_block P E N S b) (stay_layer P E N S node layer)
  opens_stay node (KStmt-F.Do t c) b e = is _ _ (ap (stay_block P E N S) (sym e))
  opens_stay node (KStmt-F.If arms last) b (inl o) = most_first _ _ _ (arms_stay arms b o)
  opens_stay node (KStmt-F.If arms last) b (inr e) = most_second _ _ _ (is _ _ (ap (stay_block P E N S) (sym e)))
  opens_stay node layer b o = elim o [ ]

  outside_stay : (node : ℕ) (layer : Layer) → is_outside layer ≡ true → Within (cost 1 0) (stay_layer P E N S node layer)
  outside_stay node (KStmt-F.AwaitIn k t) h = same _
  outside_stay node (KStmt-F.AwaitTime e u t) h = same _
  outside_stay node (KStmt-F.Async b) h = same _
  outside_stay node layer h = absurd (false≢true h)

  as_layer : (s : KNode) (layer : Layer) (a : Cost) → out-KStmt s.stmt ≡ layer → Within a (stay_layer P E N S s.node layer) → Within a (stay_node P E N S s)
  as_layer s layer a e h = subst (Within a) (sym (stay_is P E N S s.node s.stmt ∙ ap (stay_layer P E N S s.node) e)) h

  module _ (K : Kernel) (codes : CodesStay P E N S K) where
    -- at the head of a loop that an event paces nothing is to pay
    head_pays : {top : ℕ} {sc : Scope} {b : KBlock} {r : Residual} (e : ℕ) → Fits K top (ABlock true sc b) r → begins_reaction r → pools_bare r → paced_body b ≡ Some e
        → Within (if at_head r then due_at_head P E N r else due P E N r) nothing
    unfolding begins_reaction pools_bare due
    head_pays e (to_begin l) h p q = absurd h
    head_pays e (to_turn l x) h p q = absurd h
    head_pays e (in_list {b = b} {fin = fin} {rest = rest} {all = all} {r = r} {s = s} done i f lives k) h p q = go (paced_at done s rest e (ap paced_nodes (sym i) ∙ sym (paced_of_body b) ∙ q))
      where
        go : (awaited_event s.stmt ≡ Some e) ⊎ (calm_node s ≡ true) → Within (if at_await r then plus (due_of_instances P E N all) (running r) else due P E N (Block b fin all r rest)) nothing
        go (inl x) =
            let z = waits_there k h.1 (event_awaited s.stmt e x) in
            subst (λ c. Within (if c then plus (due_of_instances P E N all) (running r) else due P E N (Block b fin all r rest)) nothing) (sym z.0)
            (is _ _ (ap (λ x. plus (due_of_instances P E N x) (running r)) (p.0 (nothing_spawned b e q)) ∙ ap (plus nothing) z.1))
        go (inr x) = absurd (calm_stands_not k h.1 x)

    mutual
      unfolding begins_reaction pools_bare pools_stand tree_counted due

      pub stays : {top : ℕ} {d : Part} {r : Residual} → Fits K top d r → begins_reaction r → tree_counted r → pools_stand r → pools_bare r → Within (due P E N r) (part_stay d)
      stays (to_begin l) h c p q = absurd h
      stays (to_turn l x) h c p q = absurd h
      stays (in_list {b = b} {fin = fin} {rest = rest} {all = all} {r = r} {s = s} done e f lives k) h c p q =
          block_costs b fin all r s done rest e
          (chain _ _ _ (all_stay (out-KBlock b).decls lives h.0 c.0 p.0 q.1) (chain _ _ _ (hold (λ k. cost_at k S) (out-KBlock b).decls all p.0) (is _ _ (sym (pools_stay_is P E N S (out-KBlock b).decls)))))
          (stands_still P E N K k h.1 p.1) (stays k h.1 c.1 p.1 q.2)
      stays (to_finish {s = s} l x) h c p q = as_layer s _ (cost 1 0) refl (outside_stay s.node (out-KStmt s.stmt) h)
      stays (at_input t e) h c p q = least _
      stays (at_time x u t e) h c p q = least _
      stays (at_event {s = s} t e) h c p q = as_layer s _ (cost 1 0) e (same _)
      stays (at_forever e) h c p q = least _
      stays (at_async b e k) h c p q = least _
      stays (in_part {s = s} {r = r} b o k) h c p q = chain _ _ _ (stays k h c p q) (as_layer s _ (stay_block P E N S b) refl (opens_stay s.node (out-KStmt s.stmt) b o))
      stays (in_turn {s = s} {c = j} {r = r} k b e n f) h c p q =
          as_layer s (KStmt-F.Loop k b) _ e (subst (λ y. Within (due_in_loop P E N s.node y j (at_head r) (due_at_head P E N r) (due P E N r) (ways P r)) (stay_layer P E N S s.node (KStmt-F.Loop k b))) (sym e)
          (loop_costs s.node k b j (at_head r) (due_at_head P E N r) (due P E N r) (ways P r) n (subst (λ y. layer_counted y j) e c.0) (stays f h c.1 p q) (λ x z. head_pays x f h q (paced_by k b x z))))
      stays (in_call {s = s} m es f t k e g x) h c p q = chain _ _ _ (stays x h c p q) (as_layer s (KStmt-F.AwaitCode m es f t) (stay_block P E N S k.body) e (is _ _ (sym (codes.stays m k g))))
      stays (in_par {s = s} k slot bs e on x) h c p q = as_layer s (KStmt-F.Par k slot bs) _ e (each_stay x h c p q)

      each_stay : {top : ℕ} {sc : Scope} {k : ParKind} {bs : List KBlock} {rs : Branches} → EachFits K top sc k bs rs → each_begins rs → each_counted rs → each_pools_stand rs → each_bare rs
          → Within (due_of_branches P E N rs) (sum_of (stay_block P E N S) bs)
      each_stay no_more h c p q = same _
      each_stay (an_ended m x) h c p q = both _ _ _ _ (least _) (each_stay x h.1 c.1 p.1 q.1)
      each_stay (a_branch y x) h c p q = both _ _ _ _ (stays y h.0 c.0 p.0 q.0) (each_stay x h.1 c.1 p.1 q.1)

      all_stay : {top : ℕ} {sc : Scope} {all : Instances} (ds : List KDecl) → AllFit K top sc all → all_begin all → all_counted all → seats_stand ds all → all_bare all
          → Within (due_of_instances P E N all) (weigh_instances (λ k. cost_at k S) all)
      all_stay ds none_lives h c p q = same _
      all_stay ds (one_lives {seat = seat} k t e x more) h c p q =
          both _ _ _ _ (chain _ _ _ (stays x h.0 c.0 p.2 q.0) (is _ _ (sym (codes.stays seat.code k e)))) (all_stay ds more h.1 c.1 p.3 q.1)
