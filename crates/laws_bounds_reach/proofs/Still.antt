-- Where no await stands, no trail stands at the beginning of a reaction: nothing calm has a leaf, and what has no await pays nothing and goes nowhere.
use Rattle.std.proofs.Common.{◌≡◌, refl, sym, ap, ◌∙◌, Bool, true, false, not, if◌then◌else◌, ◌||◌, ◌&&◌, ◌==◌, nat_lt, inl, inr, ℕ, List, [], ◌∷◌, ◌++◌, Option, Some, None}
use Rattle.std.proofs.lemmas.Bool.{and_parts, false≢true}
use Rattle.std.specs.List.{list_any, list_all}
use Rattle.ceu_tree.specs.declared.kernel.Kernel.{Kernel}
use Rattle.ceu_tree.specs.declared.kernel.KDecl.{KDecl}
use Rattle.ceu_tree.specs.declared.kernel.KKind.{KKind}
use Rattle.ceu_tree.specs.declared.kernel.KKind.TheVariants as kind
use Rattle.ceu_tree.specs.declared.kernel.KLoop.{KLoop}
use Rattle.ceu_tree.specs.declared.kernel.ParKind.{ParKind}
use Rattle.ceu_tree.specs.declared.kernel.ParKind.TheVariants as par
use Rattle.ceu_tree.specs.declared.kernel.KNode.{KNode}
use Rattle.ceu_tree.specs.declared.kernel.KArm.{KArm}
use Rattle.ceu_tree.specs.declared.kernel.KBlock.{KBlock, out-KBlock}
use Rattle.ceu_tree.specs.declared.kernel.KStmt.{KStmt, out-KStmt, AwaitEvent}
use Rattle.ceu_tree.specs.declared.kernel.KStmt.TheOpen.{KStmt-F}
use Rattle.ceu_tree.proofs.CalmLaws.{calm_of_block, calm_of_arm, paced_of_body}
use Rattle.ceu_tree.proofs.WaitLaws.{waits_of_block, waits_of_arm}
use Rattle.ceu_tree.specs.Residual.{Counter, Seat, Residual, Block, Loop, Branches, Instances, no_instance, instance}
use Rattle.ceu_tree.specs.Leaf.{Layer}
use Rattle.ceu_tree.specs.Around.{is_over, all_over, kind_of}
use Rattle.ceu_tree.specs.Paths.{has_end, end_if, par_ways, quick_list, seq_ways}
use Rattle.ceu_tree.specs.Costs.{Cost, nothing, plus, no_bound, calm_block, calm_arm, calm_node, awaited_event, paced, paced_body, paced_nodes, enter_list, has_pool_decl, waiting_block, waiting_arm, node_waits}
use Rattle.ceu_tree.specs.Proper.{Scope}
use Rattle.laws_meaning_basics.specs.Shape.{Part, ABlock, AStatement, AnEnd, among_arms, opens_part, still_on, Fits, to_begin, to_turn, in_list, to_finish, at_input, at_time, at_event, at_forever, at_async, in_part, in_turn, in_call, in_par, EachFits, no_more, an_ended, a_branch}
use Rattle.laws_meaning_basics.proofs.Fits.{not_over}
use Rattle.laws_meaning_instances.specs.Instances.{has_place, pools_stand, each_pools_stand, seats_stand}
use Rattle.laws_bounds_steps.specs.Ways.{out_of, goes_on, ways_of_loop, ways, ways_of_branches, each_may_end}
use Rattle.laws_bounds_steps.specs.Due.{at_head, head_due, due_in_loop, due, due_of_branches, due_of_instances, due_at_head}
use Rattle.laws_bounds_reach.specs.Standing.{is_outside, begins_reaction, each_begins}
use Rattle.laws_bounds_reach.proofs.StandingLayers.{waits_layer, waits_is, calm_layer, calm_is}
use denote.Hole.Carrier

-- ---- lists of statements

or_none : (a b : Bool) → (a || b) ≡ false → (a ≡ false) × (b ≡ false)
or_none true b h = absurd (false≢true (sym h))
or_none false b h = (refl, h)

pub waits_among : (p : KNode → Bool) (done : List KNode) (s : KNode) (rest : List KNode) → list_any p (done ++ s ∷ rest) ≡ false → p s ≡ false
waits_among p [] s rest h = (or_none (p s) (list_any p rest) h).0
waits_among p (x ∷ done) s rest h = waits_among p done s rest (or_none (p x) (list_any p (done ++ s ∷ rest)) h).1

pub calm_among : (p : KNode → Bool) (done : List KNode) (s : KNode) (rest : List KNode) → list_all p (done ++ s ∷ rest) ≡ true → p s ≡ true
calm_among p [] s rest h = (and_parts (p s) (list_all p rest) h).0
calm_among p (x ∷ done) s rest h = calm_among p done s rest (and_parts (p x) (list_all p (done ++ s ∷ rest)) h).1

-- ---- blocks that statements open

calm_arms_among : (arms : List KArm) (b : KBlock) → list_all calm_arm arms ≡ true → among_arms arms b → calm_block b ≡ true
calm_arms_among [] b h o = absurd o
calm_arms_among (a ∷ arms) b h (inl e) = ap calm_block (sym e) ∙ sym (calm_of_arm a) ∙ (and_parts (calm_arm a) (list_all calm_arm arms) h).0
calm_arms_among (a ∷ arms) b h (inr o) = calm_arms_among arms b (and_parts (calm_arm a) (list_all calm_arm arms) h).1 o

pub calm_opens : (layer : Layer) (b : KBlock) → opens_part layer b → calm_layer layer ≡ true → calm_block b ≡ true
calm_opens (KStmt-F.Do t c) b e h = ap calm_block (sym e) ∙ h
calm_opens (KStmt-F.If arms last) b (inl o) h = calm_arms_among arms b (and_parts (list_all calm_arm arms) (calm_block last) h).0 o
calm_opens (KStmt-F.If arms last) b (inr e) h = ap calm_block (sym e) ∙ (and_parts (list_all calm_arm arms) (calm_block last) h).1
calm_opens layer b o h = elim o [ ]

waits_arms_among : (arms : List KArm) (b : KBlock) → list_any waiting_arm arms ≡ false → among_arms arms b → waiting_block b ≡ false
waits_arms_among [] b h o = absurd o
waits_arms_among (a ∷ arms) b h (inl e) = ap waiting_block (sym e) ∙ sym (waits_of_arm a) ∙ (or_none (waiting_arm a) (list_any waiting_arm arms) h).0
waits_arms_among (a ∷ arms) b h (inr o) = waits_arms_among arms b (or_none (waiting_arm a) (list_any waiting_arm arms) h).1 o

waits_opens : (layer : Layer) (b : KBlock) → opens_part layer b → waits_layer layer ≡ false → waiting_block b ≡ false
waits_opens (KStmt-F.Do t c) b e h = ap waiting_block (sym e) ∙ h
waits_opens (KStmt-F.If arms last) b (inl o) h = waits_arms_among arms b (or_none (list_any waiting_arm arms) (waiting_block last) h).0 o
waits_opens (KStmt-F.If arms last) b (inr e) h = ap waiting_block (sym e) ∙ (or_none (list_any waiting_arm arms) (waiting_block last) h).1
waits_opens layer b o h = elim o [ ]

-- ---- nothing calm has a leaf

abbrev pub part_calm : Part → Bool
part_calm (ABlock turn sc b) = calm_block b
part_calm (AStatement sc s) = calm_node s
part_calm AnEnd = true

outside_not_calm : (layer : Layer) → is_outside layer ≡ true → calm_layer layer ≡ true → ⊥
outside_not_calm (KStmt-F.AwaitIn k t) h c = false≢true c
outside_not_calm (KStmt-F.AwaitTime e u t) h c = false≢true c
outside_not_calm (KStmt-F.Async b) h c = false≢true c
outside_not_calm layer h c = false≢true h

calm_stmt : (s : KNode) (layer : Layer) → out-KStmt s.stmt ≡ layer → calm_node s ≡ true → calm_layer layer ≡ true
calm_stmt s layer e h = ap calm_layer (sym e) ∙ sym (calm_is s.stmt) ∙ h

pub calm_stands_not : {K : Kernel} {top : ℕ} {d : Part} {r : Residual} → Fits K top d r → begins_reaction r → part_calm d ≡ true → ⊥
unfolding begins_reaction
calm_stands_not (to_begin l) h c = h
calm_stands_not (to_turn l p) h c = h
calm_stands_not (in_list {b = b} {rest = rest} {s = s} done e f all k) h c = calm_stands_not k h.1 (calm_among calm_node done s rest (ap (list_all calm_node) (sym e) ∙ sym (calm_of_block b) ∙ c))
calm_stands_not (to_finish {s = s} l p) h c = outside_not_calm (out-KStmt s.stmt) h (calm_stmt s _ refl c)
calm_stands_not (at_input {s = s} t e) h c = false≢true (calm_stmt s _ e c)
calm_stands_not (at_time {s = s} x u t e) h c = false≢true (calm_stmt s _ e c)
calm_stands_not (at_event {s = s} t e) h c = false≢true (calm_stmt s _ e c)
calm_stands_not (at_forever {s = s} e) h c = false≢true (calm_stmt s _ e c)
calm_stands_not (at_async {s = s} b e k) h c = false≢true (calm_stmt s _ e c)
calm_stands_not (in_part {s = s} b o k) h c = calm_stands_not k h (calm_opens (out-KStmt s.stmt) b o (calm_stmt s _ refl c))
calm_stands_not (in_turn {s = s} k b e q f) h c = calm_stands_not f h (and_parts (not (no_bound k)) (calm_block b) (calm_stmt s _ e c)).1
calm_stands_not (in_call {s = s} m es f t k e g x) h c = false≢true (calm_stmt s _ e c)
calm_stands_not (in_par {s = s} k slot bs e on x) h c = false≢true (calm_stmt s _ e c)

-- ---- a block without pools has no instance

no_place : (ds : List KDecl) (seat : Seat) → has_pool_decl ds ≡ false → has_place ds seat ≡ true → ⊥
no_place [] seat h p = false≢true p
no_place (d ∷ ds) seat h p = go d.kind (no_place ds seat) h p
  where
    go : (k : KKind) → (has_pool_decl ds ≡ false → has_place ds seat ≡ true → ⊥) → elim k [ kind.Var t ↦ has_pool_decl ds | kind.Alias c ↦ has_pool_decl ds | kind.Pool n c ↦ true ] ≡ false
        → (elim k [ kind.Pool n c ↦ ((d.slot == seat.pool) && (c == seat.code) && nat_lt seat.place n) | _ ↦ false ] || has_place ds seat) ≡ true → ⊥
    go (kind.Var t) ih e q = ih e q
    go (kind.Alias a) ih e q = ih e q
    go (kind.Pool n a) ih e q = false≢true (sym e)

no_seat : (ds : List KDecl) (all : Instances) → has_pool_decl ds ≡ false → seats_stand ds all → all ≡ no_instance
unfolding pools_stand
no_seat ds no_instance h k = refl
no_seat ds (instance seat r more) h k = absurd (no_place ds seat h k.0)

-- ---- an await that paces a loop

awaited_waits : (st : KStmt) (e : ℕ) → awaited_event st ≡ Some e → waits_layer (out-KStmt st) ≡ true
unfolding out-KStmt Carrier.out
awaited_waits (AwaitEvent x t) e h = refl
awaited_waits st e h = absurd (cc)

-- a loop that an event paces waits
pub paced_waits : (k : KLoop) (b : KBlock) (e : ℕ) → paced k b ≡ Some e → waiting_block b ≡ true
paced_waits k b e h = bound (no_bound k) h
  where
    nodes : (list : List KNode) → paced_nodes list ≡ Some e → list_any node_waits list ≡ true
    nodes [] q = absurd (cc)
    nodes (s ∷ ss) q = calm (list_all calm_node ss) q
      where
        calm : (c : Bool) → (if c then awaited_event s.stmt else None) ≡ Some e → list_any node_waits (s ∷ ss) ≡ true
        calm true z = ap (λ w. w || list_any node_waits ss) (waits_is s.stmt ∙ awaited_waits s.stmt e z)
        calm false z = absurd (cc)

    behind : (x y : Bool) → y ≡ true → (x || y) ≡ true
    behind true y q = refl
    behind false y q = q

    bound : (n : Bool) → (if n then paced_body b else None) ≡ Some e → waiting_block b ≡ true
    bound true q = waits_of_block b ∙ behind (has_pool_decl (out-KBlock b).decls) _ (nodes (out-KBlock b).list (sym (paced_of_body b) ∙ q))
    bound false q = absurd (cc)

-- ---- what has no await pays nothing and goes nowhere

abbrev pub part_waits : Part → Bool
part_waits (ABlock turn sc b) = waiting_block b
part_waits (AStatement sc s) = node_waits s
part_waits AnEnd = true

outside_waits : (layer : Layer) → is_outside layer ≡ true → waits_layer layer ≡ true
outside_waits (KStmt-F.AwaitIn k t) h = refl
outside_waits (KStmt-F.AwaitTime e u t) h = refl
outside_waits (KStmt-F.Async b) h = refl
outside_waits layer h = absurd (false≢true h)

waits_stmt : (s : KNode) (layer : Layer) → out-KStmt s.stmt ≡ layer → node_waits s ≡ false → waits_layer layer ≡ false
waits_stmt s layer e h = ap waits_layer (sym e) ∙ sym (waits_is s.stmt) ∙ h

module _ (P : List Bool) (E N : List Cost) where
  pub record Still (r : Residual) : Type 0 where
    pub pays : due P E N r ≡ nothing
    pub goes : ways P r ≡ []

  pub record EachStill (rs : Branches) : Type 0 where
    pub pays : due_of_branches P E N rs ≡ nothing
    pub goes : ways_of_branches P rs ≡ []
    pub ends : each_may_end P rs ≡ all_over rs

  block_still : (b : KBlock) (fin : List KNode) (all : Instances) (r : Residual) (rest : List KNode) → all ≡ no_instance → Still r → Still (Block b fin all r rest)
  unfolding due ways
  block_still b fin all r rest e h = record {
    pays = ap (λ x. plus (due_of_instances P E N x) (plus (due P E N r) (if has_end (ways P r) then enter_list P E N rest else nothing))) e
        ∙ ap (λ x. plus nothing (plus x (if has_end (ways P r) then enter_list P E N rest else nothing))) h.pays
        ∙ ap (λ q. plus nothing (plus nothing (if has_end q then enter_list P E N rest else nothing))) h.goes;
    goes = ap (λ q. out_of (out-KBlock b).node (seq_ways q (quick_list P rest))) h.goes;
  }

  loop_still : (s : KNode) (c : Counter) (r : Residual) (k : KLoop) (b : KBlock) → out-KStmt s.stmt ≡ KStmt-F.Loop k b → waiting_block b ≡ false → Still r → Still (Loop s c r)
  unfolding due ways
  loop_still s c r k b e w h = record {
    pays = ap (λ y. due_in_loop P E N s.node y c (at_head r) (due_at_head P E N r) (due P E N r) (ways P r)) e ∙ costs (paced k b) refl;
    goes = ap (λ y. ways_of_loop P s.node y c (ways P r)) e ∙ ap (ways_of_loop P s.node (KStmt-F.Loop k b) c) h.goes;
  }
    where
      costs : (o : Option ℕ) → paced k b ≡ o → elim o [
        | Some e ↦ if at_head r then due_at_head P E N r else due P E N r
        | None ↦ plus (due P E N r) (if goes_on s.node (ways P r) then head_due P E N s.node k b c else nothing)
      ] ≡ nothing
      costs (Some x) q = absurd (false≢true (sym w ∙ paced_waits k b x q))
      costs None q = ap (λ x. plus x (if goes_on s.node (ways P r) then head_due P E N s.node k b c else nothing)) h.pays
          ∙ ap (λ q. plus nothing (if goes_on s.node q then head_due P E N s.node k b c else nothing)) h.goes

  par_still : (k : ParKind) (rs : Branches) → still_on k rs ≡ true → EachStill rs → par_ways k (ways_of_branches P rs) (each_may_end P rs) ≡ []
  par_still par.Never rs on h = ap (λ q. par_ways par.Never q (each_may_end P rs)) h.goes
  par_still par.Or rs on h = h.goes
  par_still par.And rs on h = ap (λ q. par_ways par.And q (each_may_end P rs)) h.goes ∙ ap (λ b. end_if b) (h.ends ∙ off (all_over rs) on)
    where
      off : (b : Bool) → not b ≡ true → b ≡ false
      off true q = absurd (false≢true q)
      off false q = refl

  module _ (K : Kernel) where
    mutual
      unfolding begins_reaction pools_stand due ways

      pub stands_still : {top : ℕ} {d : Part} {r : Residual} → Fits K top d r → begins_reaction r → pools_stand r → part_waits d ≡ false → Still r
      stands_still (to_begin l) h p w = absurd h
      stands_still (to_turn l q) h p w = absurd h
      stands_still (in_list {b = b} {fin = fin} {rest = rest} {all = all} {r = r} {s = s} done e f lives k) h p w =
          let z = or_none (has_pool_decl (out-KBlock b).decls) (list_any node_waits (out-KBlock b).list) (sym (waits_of_block b) ∙ w) in
          block_still b fin all r rest (no_seat (out-KBlock b).decls all z.0 p.0) (stands_still k h.1 p.1 (waits_among node_waits done s rest (ap (list_any node_waits) (sym e) ∙ z.1)))
      stands_still (to_finish {s = s} l q) h p w = absurd (false≢true (sym (waits_stmt s _ refl w) ∙ outside_waits (out-KStmt s.stmt) h))
      stands_still (at_input {s = s} t e) h p w = absurd (false≢true (sym (waits_stmt s _ e w)))
      stands_still (at_time {s = s} x u t e) h p w = absurd (false≢true (sym (waits_stmt s _ e w)))
      stands_still (at_event {s = s} t e) h p w = absurd (false≢true (sym (waits_stmt s _ e w)))
      stands_still (at_forever {s = s} e) h p w = absurd (false≢true (sym (waits_stmt s _ e w)))
      stands_still (at_async {s = s} b e k) h p w = absurd (false≢true (sym (waits_stmt s _ e w)))
      stands_still (in_part {s = s} b o k) h p w =
          let z = stands_still k h p (waits_opens (out-KStmt s.stmt) b o (waits_stmt s _ refl w)) in record { pays = z.pays; goes = ap (out_of s.node) z.goes }
      stands_still (in_turn {s = s} {c = c} {r = r} k b e q f) h p w = loop_still s c r k b e (waits_stmt s _ e w) (stands_still f h p (waits_stmt s _ e w))
      stands_still (in_call {s = s} c es f t k e g x) h p w = absurd (false≢true (sym (waits_stmt s _ e w)))
      stands_still (in_par {s = s} {rs = rs} k slot bs e on x) h p w =
          let z = each_still x h p (waits_stmt s _ e w) in
          record { pays = z.pays; goes = ap (λ y. par_ways (kind_of y) (ways_of_branches P rs) (each_may_end P rs)) e ∙ par_still k rs on z }

      each_still : {top : ℕ} {sc : Scope} {k : ParKind} {bs : List KBlock} {rs : Branches} → EachFits K top sc k bs rs → each_begins rs → each_pools_stand rs → list_any waiting_block bs ≡ false → EachStill rs
      each_still no_more h p w = record { pays = refl; goes = refl; ends = refl }
      each_still (an_ended {b = b} {bs = bs} {more = more} m x) h p w =
          let z = each_still x h.1 p.1 (or_none (waiting_block b) (list_any waiting_block bs) w).1 in
          record { pays = ap (plus nothing) z.pays; goes = z.goes; ends = z.ends }
      each_still (a_branch {b = b} {bs = bs} {r = r} {more = more} y x) h p w =
          let v = or_none (waiting_block b) (list_any waiting_block bs) w in
          let z = each_still x h.1 p.1 v.1 in
          let u = stands_still y h.0 p.0 v.0 in record {
            pays = ap (λ a. plus a (due_of_branches P E N more)) u.pays ∙ ap (plus nothing) z.pays;
            goes = ap (λ q. q ++ ways_of_branches P more) u.goes ∙ z.goes;
            ends = ap (λ q. (is_over r || has_end q) && each_may_end P more) u.goes ∙ ap (λ o. (o || false) && each_may_end P more) (not_over K y) ∙ sym (ap (λ o. o && all_over more) (not_over K y));
          }
