-- Turns from the start of a statement, one level of it open: on which ways they leave it.
use Rattle.std.proofs.Common.{◌≡◌, refl, sym, ap, ◌∙◌, subst, ℕ, ℤ, pos, Bool, true, false, if◌then◌else◌, ◌&&◌, ◌||◌, not, List, [], ◌∷◌, ◌++◌, Option, Some, None, Result, Ok, Err, ◌⊎◌, inl, inr}
use Rattle.std.proofs.lemmas.Bool.{false≢true}
use Rattle.std.specs.List.{list_any, list_all}
use Rattle.ceu_base.specs.declared.kinds.Pos.{Pos}
use Rattle.ceu_base.specs.declared.kinds.Fault.{Fault}
use Rattle.ceu_base.specs.Values.{same as same_value}
use Rattle.ceu_tree.specs.declared.kernel.Kernel.{Kernel}
use Rattle.ceu_tree.specs.declared.kernel.KCode.{KCode}
use Rattle.ceu_tree.specs.declared.kernel.KLoop.{KLoop}
use Rattle.ceu_tree.specs.declared.kernel.KLoop.TheVariants as turns
use Rattle.ceu_tree.specs.declared.kernel.ParKind.{ParKind}
use Rattle.ceu_tree.specs.declared.kernel.ParKind.TheVariants as par
use Rattle.ceu_tree.specs.declared.kernel.KArm.{KArm, out-KArm}
use Rattle.ceu_tree.specs.declared.kernel.KNode.{KNode}
use Rattle.ceu_tree.specs.declared.kernel.KBlock.{KBlock, out-KBlock}
use Rattle.ceu_tree.specs.declared.kernel.KStmt.{KStmt, out-KStmt, AwaitEvent}
use Rattle.ceu_tree.specs.declared.kernel.KStmt.TheOpen.{KStmt-F}
use Rattle.ceu_tree.specs.Residual.{Body, Begin, Start, Over, branch, no_branch, no_instance}
use Rattle.ceu_tree.specs.Focus.{OfBlock, OfOpen, Here, In}
use Rattle.ceu_tree.specs.World.{World, look, Cell, Holds, NotSet, Names}
use Rattle.ceu_tree.specs.Expressions.{names_living, value_of, value_if, values_of}
use Rattle.ceu_tree.specs.Leaf.{Layer, Does, Kills, Passes, code_at, chosen_part, branches_from, opened, done, or_fails, called, spawning, killing, started, next_of, rest_of}
use Rattle.ceu_tree.specs.Around.{all_over, kind_of, up}
use Rattle.ceu_tree.specs.Paths.{Way, ToEnd, ToEscape, ToBreak, ToContinue, is_end, is_escape, is_break, is_continue, has_end, without_end, end_if, flag, constant_bound, do_ways, par_ways, gathered, all_blocks_end, quick_arm, quick_node, quick_block, passes_from}
use Rattle.ceu_tree.specs.Costs.{paced, paced_body, paced_nodes, awaited_event, calm_node}
use Rattle.ceu_tree.proofs.CalmLaws.{paced_of_body}
use Rattle.laws_bounds_steps.specs.Ways.{leads_to, outward, out_of, goes_on}
use Rattle.laws_bounds_steps.specs.Pays.{IsOf, Fewer, way_of, LoopKeeps}
use Rattle.laws_bounds_steps.specs.Starts.{BlockClear, PartKeeps, arms_keep, par_keeps}
use Rattle.laws_bounds_steps.specs.Kept.{starts_kept}
use Rattle.laws_bounds_steps.proofs.WayLists.{among_case, among_left, among_right, any_among, any_some, or_sub, filter_in, filter_out, end_here, ends, sub_end, par_exit}
use Rattle.laws_bounds_steps.proofs.LoopSteps.{clear_fewer}
use Rattle.laws_bounds_steps.proofs.Opened.{quick_layer, quick_is, quick_arm_is}
use Rattle.laws_bounds_turns.specs.TurnsLaws.{CodesLeave}
use Rattle.laws_bounds_turns.proofs.Halting.{Halts, Comes, does_local, halts_of, halts_more}
use Rattle.laws_bounds_turns.proofs.Parts.{allowed, allow, allow_as, allow_more, allowed_is, block_halts, part_halts, call_halts, par_halts}
use Rattle.laws_bounds_turns.proofs.Loops.{or_comes, loop_starts}
use denote.Hole.Carrier

-- ---- the ways of a do, of whose block no break and no continue leads to it

do_fewer : (node : ℕ) (q : List Way) → list_any (λ w. is_break node w || is_continue node w) q ≡ false → Fewer (out_of node q) (do_ways node q)
do_fewer node q c w h = go (among_case w (outward node q) _ h)
  where
    three : (x y z u : Bool) → not (x || (y || z || u)) ≡ true → not (x || y) ≡ true
    three true y z u h = h
    three false true z u h = absurd (false≢true h)
    three false false z u h = refl

    other : (v : Way) → IsOf q v → (is_break node v || is_continue node v) ≡ true → is_escape node v ≡ true
    other v i x = absurd (false≢true (sym c ∙ any_among (λ w. is_break node w || is_continue node w) v q x i))

    pick : (v : Way) → IsOf q v → (x y z : Bool) → is_escape node v ≡ x → (is_break node v || is_continue node v) ≡ (y || z) → (x || y || z) ≡ true → is_escape node v ≡ true
    pick v i true y z e f t = e
    pick v i false true z e f t = other v i f
    pick v i false false z e f t = other v i (f ∙ t)

    escapes : list_any (leads_to node) q ≡ true → list_any (is_escape node) q ≡ true
    escapes e =
        let i = any_some (leads_to node) q e in
        any_among (is_escape node) i.0 q (pick i.0 i.1 (is_escape node i.0) (is_break node i.0) (is_continue node i.0) refl refl i.2) i.1

    go : IsOf (outward node q) w ⊎ IsOf (end_if (has_end q || list_any (leads_to node) q)) w → IsOf (do_ways node q) w
    go (inl i) =
        let z = filter_out (λ w. not (is_end w || leads_to node w)) w q i in
        among_left w _ _ (filter_in (λ w. not (is_end w || is_escape node w)) w q (three (is_end w) (is_escape node w) (is_break node w) (is_continue node w) z.0) z.1)
    go (inr i) = among_right w _ _ (sub_end (has_end q || list_any (leads_to node) q) (has_end q || list_any (is_escape node) q) (or_sub (has_end q) _ (has_end q) _ (λ x. x) escapes) w i)

-- ---- the first branch of a par

par_ends : (P : List Bool) (n : ℕ) (k : ParKind) (b : KBlock) (bs : List KBlock) → (k ≡ par.Or) ⊎ ((k ≡ par.And) × (all_over (branch Over (branches_from n bs)) ≡ true))
    → IsOf (quick_block P b) ToEnd → IsOf (par_ways k (gathered (quick_block P) (b ∷ bs)) (all_blocks_end P (b ∷ bs))) ToEnd
par_ends P n par.Never b bs (inl e) i = absurd (cc)
par_ends P n par.Never b bs (inr e) i = let z = e.0 in absurd (cc)
par_ends P n par.Or b bs h i = among_left ToEnd (quick_block P b) _ i
par_ends P n par.And b bs (inl e) i = absurd (cc)
par_ends P n par.And b [] (inr e) i = among_right ToEnd (without_end (quick_block P b ++ [])) _ (end_here _ (ap (λ t. t && true) (ends (quick_block P b) i)))
par_ends P n par.And b (c ∷ cs) (inr e) i = absurd (false≢true e.1)

-- ---- an await of an event

awaits : (st : KStmt) (x : ℕ) → awaited_event st ≡ Some x → (t : _) × (out-KStmt st ≡ KStmt-F.AwaitEvent x t)
unfolding out-KStmt Carrier.out
awaits (AwaitEvent e t) x h = let z : e ≡ x = cc in (t, ap (λ k. KStmt-F.AwaitEvent k t) z)
awaits st x h = absurd (cc)

module _ (K : Kernel) (n : ℕ) (quiet : Bool) where
  abbrev pub BlockHalts : KBlock → Type 0
  BlockHalts b = Halts K n quiet (allowed quiet (out_of (out-KBlock b).node (quick_block (passes_from [] K.codes) b))) (Here (Begin b))

  abbrev pub EachBlock : List KBlock → Type 0
  EachBlock [] = Unit {0}
  EachBlock (b ∷ bs) = BlockHalts b × EachBlock bs

  abbrev pub EachArm : List KArm → Type 0
  EachArm [] = Unit {0}
  EachArm (a ∷ arms) = BlockHalts (out-KArm a).body × EachArm arms

  abbrev pub StmtHalts : KNode → Type 0
  StmtHalts s = Halts K n quiet (allowed quiet (quick_node (passes_from [] K.codes) s)) (Here (Start s))

  abbrev pub CodeHalts : ℕ → Type 0
  CodeHalts c = (k : KCode) → code_at c K.codes ≡ Some k → BlockHalts k.body

  -- what is asked of the parts of a statement
  abbrev pub Inside : Layer → Type 0
  Inside (KStmt-F.Do t b) = BlockHalts b
  Inside (KStmt-F.If arms last) = EachArm arms × BlockHalts last
  Inside (KStmt-F.Loop k b) = BlockHalts b
  Inside (KStmt-F.Par k slot bs) = EachBlock bs
  Inside (KStmt-F.AwaitCode c es f t) = CodeHalts c × (quiet ≡ false → (k : KCode) × (code_at c K.codes ≡ Some k))
  Inside layer = Unit {0}

  clear_halts : (b : KBlock) → (quiet ≡ false → BlockClear (passes_from [] K.codes) b) → BlockHalts b → Halts K n quiet (allowed quiet (quick_block (passes_from [] K.codes) b)) (Here (Begin b))
  clear_halts b c h = halts_more K n quiet _ _ (Here (Begin b))
      (allow_more quiet (out_of (out-KBlock b).node (quick_block (passes_from [] K.codes) b)) (quick_block (passes_from [] K.codes) b) (λ e. clear_fewer (out-KBlock b).node (quick_block (passes_from [] K.codes) b) (c e))) h

  -- ---- the body of a loop that an event paces ends the turn at its await

  await_halts : (s : KNode) (x : ℕ) → awaited_event s.stmt ≡ Some x → Halts K n quiet (allowed quiet []) (Here (Start s))
  await_halts s x h =
      let z = awaits s.stmt x h in
      halts_of K n quiet (allowed quiet []) (Here (Start s)) (λ a c w u. subst (λ l. Comes K n quiet (allowed quiet []) (does_local c (Here (Start s)) (started K n a s l w).does u).outcome) (sym z.1) tt)

  paced_list_halts : quiet ≡ false → (b : KBlock) (list : List KNode) (x : ℕ) → paced_nodes list ≡ Some x → Halts K n quiet (allowed quiet []) (In (OfBlock b [] no_instance (rest_of list)) (Here (next_of list)))
  paced_list_halts e b [] x h = absurd (cc)
  paced_list_halts e b (s ∷ ss) x h = go (list_all calm_node ss) h
    where
      go : (t : Bool) → (if t then awaited_event s.stmt else None) ≡ Some x → Halts K n quiet (allowed quiet []) (In (OfBlock b [] no_instance ss) (Here (Start s)))
      go false i = absurd (cc)
      go true i = block_halts K n quiet (passes_from [] K.codes) b ss (allowed quiet []) (allowed quiet [])
          (λ fin all m. absurd (allowed_is quiet [] ToEnd e m)) (λ m. absurd m) (λ node y z m. absurd (allowed_is quiet [] (way_of node y) e m)) (λ node y z m. m)
          (Here (Start s)) [] no_instance (await_halts s x i)

  paced_halts : quiet ≡ false → (b : KBlock) (x : ℕ) → paced_body b ≡ Some x → Halts K n quiet (allowed quiet []) (Here (Begin b))
  paced_halts e b x h = halts_of K n quiet (allowed quiet []) (Here (Begin b)) (λ a c w u z. paced_list_halts e b (out-KBlock b).list x (sym (paced_of_body b) ∙ h))

  module _ (s : KNode) where
    -- ---- the parts of an if

    abbrev Opens : List Way → KBlock → Type 0
    Opens r b = Halts K n quiet (allowed quiet r) (In (OfOpen s) (Here (Begin b)))

    abbrev EachOpens : List Way → List KArm → Type 0
    EachOpens r [] = Unit {0}
    EachOpens r (a ∷ arms) = Opens r (out-KArm a).body × EachOpens r arms

    part_opens : (r : List Way) (b : KBlock) → Fewer (quick_block (passes_from [] K.codes) b) r → (quiet ≡ false → PartKeeps (passes_from [] K.codes) s.node b) → BlockHalts b → Opens r b
    part_opens r b sub k h = part_halts K n quiet (passes_from [] K.codes) s (quick_block (passes_from [] K.codes) b) r (Here (Begin b))
        (λ e w i. sub w (clear_fewer s.node (quick_block (passes_from [] K.codes) b) (k e).1 w i)) (clear_halts b (λ e. (k e).0) h)

    arms_open : (r : List Way) (arms : List KArm) → Fewer (gathered (quick_arm (passes_from [] K.codes)) arms) r → (quiet ≡ false → arms_keep (passes_from [] K.codes) s.node arms) → EachArm arms → EachOpens r arms
    arms_open r [] sub k h = tt
    arms_open r (a ∷ arms) sub k h = (
      part_opens r (out-KArm a).body (λ w i. sub w (among_left w (quick_arm (passes_from [] K.codes) a) _ (subst (λ q. IsOf q w) (sym (quick_arm_is (passes_from [] K.codes) a)) i))) (λ e. (k e).0) h.0,
      arms_open r arms (λ w i. sub w (among_right w (quick_arm (passes_from [] K.codes) a) _ i)) (λ e. (k e).1) h.1,
    )

    module _ (r : List Way) (a c : Body) (w u : World) where
      abbrev Goal : Result KBlock (Fault × Pos) → Type 0
      Goal o = Comes K n quiet (allowed quiet r) (does_local c (Here (Start s)) (or_fails o w (λ b. done (opened s b) w)).does u).outcome

      if_comes : (arms : List KArm) (last : KBlock) → EachOpens r arms → Opens r last → Goal (chosen_part arms last a w)
      if_comes [] last h k = λ e. k
      if_comes (m ∷ arms) last h k = case (value_of (out-KArm m).cond a w) (if_comes arms last h.1 k)
        where
          pick : (t : Bool) → Goal (chosen_part arms last a w) → Goal (if t then chosen_part arms last a w else Ok (out-KArm m).body)
          pick true x = x
          pick false x = λ e. h.0

          case : (o : Result ℤ (Fault × Pos)) → Goal (chosen_part arms last a w) → Goal (elim o [ Ok v ↦ if same_value v (pos 0) then chosen_part arms last a w else Ok (out-KArm m).body | Err e ↦ Err e ])
          case (Ok v) x = pick (same_value v (pos 0)) x
          case (Err e) x = tt

    -- ---- loops

    -- what a statement's leaf comes to, by the statement's kind
    abbrev Begins : Layer → List Way → Type 0
    Begins layer r = (a c : Body) (w u : World) → Comes K n quiet (allowed quiet r) (does_local c (Here (Start s)) (started K n a s layer w).does u).outcome

    begins_halts : (layer : Layer) (r : List Way) → out-KStmt s.stmt ≡ layer → Begins layer r → Halts K n quiet (allowed quiet r) (Here (Start s))
    begins_halts layer r is h = halts_of K n quiet (allowed quiet r) (Here (Start s)) (λ a c w u. subst (λ l. Comes K n quiet (allowed quiet r) (does_local c (Here (Start s)) (started K n a s l w).does u).outcome) (sym is) (h a c w u))

    abbrev Ways : Layer → List Way
    Ways layer = quick_layer (passes_from [] K.codes) s.node layer

    -- by which ways a turn of the loop leaves its body: where an event paces the loop, by none
    pub record Turn (k : KLoop) (b : KBlock) : Type 0 where
      pub ways : List Way
      pub fewer : Fewer ways (quick_block (passes_from [] K.codes) b)
      pub halts : Halts K n quiet (allowed quiet ways) (Here (Begin b))
      pub stands : k ≡ turns.Free → quiet ≡ false → goes_on s.node ways ≡ false

    pub turn_of_loop : (k : KLoop) (b : KBlock) → (quiet ≡ false → LoopKeeps (passes_from [] K.codes) s.node k b) → BlockHalts b → Turn k b
    turn_of_loop k b keeps h = go quiet refl (paced_body b) refl
      where
        whole : (k ≡ turns.Free → quiet ≡ false → goes_on s.node (quick_block (passes_from [] K.codes) b) ≡ false) → Turn k b
        whole stands = record { ways = quick_block (passes_from [] K.codes) b; fewer = λ w i. i; halts = clear_halts b (λ e. (keeps e).clear) h; stands = stands }

        go : (t : Bool) → quiet ≡ t → (o : Option ℕ) → paced_body b ≡ o → Turn k b
        go true q o z = whole (λ f e. absurd (cc))
        go false q None z = whole (λ f e. (keeps e).stands (ap constant_bound f) (ap (λ j. paced j b) f ∙ z))
        go false q (Some x) z = record { ways = []; fewer = λ w i. absurd i; halts = paced_halts q b x z; stands = λ f e. refl }

    loop_begins : (k : KLoop) (b : KBlock) (is : out-KStmt s.stmt ≡ KStmt-F.Loop k b) → (quiet ≡ false → LoopKeeps (passes_from [] K.codes) s.node k b) → BlockHalts b → Begins (KStmt-F.Loop k b) (Ways (KStmt-F.Loop k b))
    loop_begins k b is keeps h = let t = turn_of_loop k b keeps h in loop_starts K n quiet s b (quick_block (passes_from [] K.codes) b) t.ways t.fewer t.halts (λ e. (keeps e).breaks) k is t.stands

    -- ---- pars

    par_begins : (k : ParKind) (slot : ℕ) (bs : List KBlock) → out-KStmt s.stmt ≡ KStmt-F.Par k slot bs → (quiet ≡ false → par_keeps (passes_from [] K.codes) bs) → EachBlock bs → Begins (KStmt-F.Par k slot bs) (Ways (KStmt-F.Par k slot bs))
    unfolding up
    par_begins k slot [] is keeps h a c w u = allow quiet (Ways (KStmt-F.Par k slot [])) ToEnd (λ e. absurd (keeps e))
    par_begins k slot (b ∷ bs) is keeps h a c w u = λ e. par_halts K n quiet (passes_from [] K.codes) s no_branch (branches_from n bs) (allowed quiet (quick_block (passes_from [] K.codes) b)) (allowed quiet (Ways (KStmt-F.Par k slot (b ∷ bs))))
        (λ z. allow_as quiet (quick_block (passes_from [] K.codes) b) (Ways (KStmt-F.Par k slot (b ∷ bs))) ToEnd ToEnd (λ q. par_ends (passes_from [] K.codes) n k b bs (kinds z)))
        (λ node x. allow_as quiet (quick_block (passes_from [] K.codes) b) (Ways (KStmt-F.Par k slot (b ∷ bs))) (way_of node x) (way_of node x)
        (λ q i. par_exit k node x (gathered (quick_block (passes_from [] K.codes)) (b ∷ bs)) (all_blocks_end (passes_from [] K.codes) (b ∷ bs)) (among_left (way_of node x) (quick_block (passes_from [] K.codes) b) _ i)))
        (Here (Begin b)) (clear_halts b (λ q. (keeps q).0) h.0)
      where
        kind : kind_of (out-KStmt s.stmt) ≡ k
        kind = ap kind_of is

        kinds : (kind_of (out-KStmt s.stmt) ≡ par.Or) ⊎ ((kind_of (out-KStmt s.stmt) ≡ par.And) × (all_over (branch Over (branches_from n bs)) ≡ true)) → (k ≡ par.Or) ⊎ ((k ≡ par.And) × (all_over (branch Over (branches_from n bs)) ≡ true))
        kinds (inl z) = inl (sym kind ∙ z)
        kinds (inr z) = inr (sym kind ∙ z.0, z.1)

    -- ---- code, spawns and kills

    call_begins : (c : ℕ) (vs : List ℤ) (o : Option KCode) → code_at c K.codes ≡ o → (quiet ≡ false → CodesLeave K) → CodeHalts c → (quiet ≡ false → (k : KCode) × (code_at c K.codes ≡ Some k))
        → (a e : Body) (w u : World) → Comes K n quiet (allowed quiet (end_if (flag c (passes_from [] K.codes)))) (does_local e (Here (Start s)) (called s o vs a w).does u).outcome
    unfolding up
    call_begins c vs None is leave h there a e w u = allow quiet (end_if (flag c (passes_from [] K.codes))) ToEnd (λ z. (let x = there z in let y = x.1 in absurd (cc)))
    call_begins c vs (Some k) is leave h there a e w u = λ z. call_halts K n quiet (passes_from [] K.codes) s (allowed quiet (end_if (flag c (passes_from [] K.codes)))) (Here (Begin k.body))
        (halts_more K n quiet _ _ (Here (Begin k.body)) (allow_more quiet (out_of (out-KBlock k.body).node (quick_block (passes_from [] K.codes) k.body)) (end_if (flag c (passes_from [] K.codes))) (λ q. leave q c k is)) (h k is))

    abbrev Goes : List Way → Does → Type 0
    Goes r d = (e : Body) (u : World) → Comes K n quiet (allowed quiet r) (does_local e (Here (Start s)) d u).outcome

    spawn_begins : (c : ℕ) (o : Option KCode) (pool : ℕ) (alias : Option ℕ) (vs : List ℤ) (w : World) → Goes (ToEnd ∷ []) (spawning s o c pool alias vs w).does
    unfolding up
    spawn_begins c None pool alias vs w e u = allow quiet (ToEnd ∷ []) ToEnd (λ z. inl refl)
    spawn_begins c (Some k) pool alias vs w e u = allow quiet (ToEnd ∷ []) ToEnd (λ z. inl refl)

    kill_begins : (o : Option Cell) (living : List ℕ) → Goes (ToEnd ∷ []) (killing o living)
    unfolding up
    kill_begins None living e u = allow quiet (ToEnd ∷ []) ToEnd (λ z. inl refl)
    kill_begins (Some (Holds v)) living e u = allow quiet (ToEnd ∷ []) ToEnd (λ z. inl refl)
    kill_begins (Some NotSet) living e u = allow quiet (ToEnd ∷ []) ToEnd (λ z. inl refl)
    kill_begins (Some (Names k)) living e u = go (names_living (Some (Names k)) living)
      where
        go : (t : Bool) → Comes K n quiet (allowed quiet (ToEnd ∷ [])) (does_local e (Here (Start s)) (if t then Kills k else Passes) u).outcome
        go true = allow quiet (ToEnd ∷ []) ToEnd (λ z. inl refl)
        go false = allow quiet (ToEnd ∷ []) ToEnd (λ z. inl refl)

    passes : (e : Body) (u : World) → Comes K n quiet (allowed quiet (ToEnd ∷ [])) (does_local e (Here (Start s)) Passes u).outcome
    unfolding up
    passes e u = allow quiet (ToEnd ∷ []) ToEnd (λ z. inl refl)

    -- ---- statement by statement

    layer_begins : (layer : Layer) → out-KStmt s.stmt ≡ layer → (quiet ≡ false → CodesLeave K) → (quiet ≡ false → starts_kept (passes_from [] K.codes) s.node layer) → Inside layer → Begins layer (Ways layer)
    unfolding up
    layer_begins KStmt-F.Nothing is leave keeps h a c w u = passes c u
    layer_begins (KStmt-F.Assign l x) is leave keeps h a c w u = or_comes K n quiet _ c (Here (Start s)) (value_of x a w) w u _ (λ v e. passes c u)
    layer_begins (KStmt-F.Out k x) is leave keeps h a c w u = or_comes K n quiet _ c (Here (Start s)) (value_if x a w) w u _ (λ v e. passes c u)
    layer_begins (KStmt-F.Emit k x) is leave keeps h a c w u = or_comes K n quiet _ c (Here (Start s)) (value_if x a w) w u _ (λ v e. tt)
    layer_begins (KStmt-F.AwaitIn k t) is leave keeps h a c w u = tt
    layer_begins (KStmt-F.AwaitTime x v t) is leave keeps h a c w u = or_comes K n quiet _ c (Here (Start s)) (value_of x a w) w u _ (λ y e. tt)
    layer_begins (KStmt-F.AwaitEvent k t) is leave keeps h a c w u = tt
    layer_begins KStmt-F.Forever is leave keeps h a c w u = tt
    layer_begins (KStmt-F.AwaitCode m es f t) is leave keeps h a c w u = or_comes K n quiet _ c (Here (Start s)) (values_of es a w) w u _ (λ vs e. call_begins m vs (code_at m K.codes) refl leave h.0 h.1 a c w u)
    layer_begins (KStmt-F.Spawn m es pool alias) is leave keeps h a c w u = or_comes K n quiet _ c (Here (Start s)) (values_of es a w) w u _ (λ vs e. spawn_begins m (code_at m K.codes) pool alias vs w c u)
    layer_begins (KStmt-F.Kill m) is leave keeps h a c w u = kill_begins (look a m w.values) w.living c u
    layer_begins (KStmt-F.Unset m) is leave keeps h a c w u = passes c u
    layer_begins (KStmt-F.Async b) is leave keeps h a c w u = tt
    layer_begins (KStmt-F.Finalize b) is leave keeps h a c w u = allow quiet (ToEnd ∷ []) ToEnd (λ z. inl refl)
    layer_begins (KStmt-F.Do t b) is leave keeps h a c w u = λ e. part_halts K n quiet (passes_from [] K.codes) s (quick_block (passes_from [] K.codes) b) (do_ways s.node (quick_block (passes_from [] K.codes) b)) (Here (Begin b))
        (λ z. do_fewer s.node (quick_block (passes_from [] K.codes) b) (keeps z).1) (clear_halts b (λ z. (keeps z).0) h)
    layer_begins (KStmt-F.Escape m x) is leave keeps h a c w u = or_comes K n quiet _ c (Here (Start s)) (value_if x a w) w u _ (λ v e. allow quiet (ToEscape m ∷ []) (ToEscape m) (λ z. inl refl))
    layer_begins (KStmt-F.Break m) is leave keeps h a c w u = allow quiet (ToBreak m ∷ []) (ToBreak m) (λ z. inl refl)
    layer_begins (KStmt-F.Continue m) is leave keeps h a c w u = allow quiet (ToContinue m ∷ []) (ToContinue m) (λ z. inl refl)
    layer_begins (KStmt-F.If arms last) is leave keeps h a c w u =
        let r = gathered (quick_arm (passes_from [] K.codes)) arms ++ quick_block (passes_from [] K.codes) last in
        if_comes r a c w u arms last (arms_open r arms (λ v i. among_left v (gathered (quick_arm (passes_from [] K.codes)) arms) _ i) (λ z. (keeps z).0) h.0)
        (part_opens r last (λ v i. among_right v (gathered (quick_arm (passes_from [] K.codes)) arms) _ i) (λ z. (keeps z).1) h.1)
    layer_begins (KStmt-F.Loop k b) is leave keeps h a c w u = loop_begins k b is keeps h a c w u
    layer_begins (KStmt-F.Par k slot bs) is leave keeps h a c w u = par_begins k slot bs is keeps h a c w u

    pub layer_halts : (quiet ≡ false → CodesLeave K) → (quiet ≡ false → starts_kept (passes_from [] K.codes) s.node (out-KStmt s.stmt)) → Inside (out-KStmt s.stmt) → Halts K n quiet (allowed quiet (quick_node (passes_from [] K.codes) s)) (Here (Start s))
    layer_halts leave keeps h = subst (λ q. Halts K n quiet (allowed quiet q) (Here (Start s))) (sym (quick_is (passes_from [] K.codes) s.node s.stmt))
        (begins_halts (out-KStmt s.stmt) (Ways (out-KStmt s.stmt)) refl (layer_begins (out-KStmt s.stmt) refl leave keeps h))
