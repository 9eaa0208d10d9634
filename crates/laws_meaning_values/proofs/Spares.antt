-- An abortion forgets no value outside the part that is aborted.
use Rattle.std.proofs.Common.{◌≡◌, refl, sym, ap, ◌∙◌, subst, ◌<◌, ◌≤◌, ℕ, ◌+◌, true, ◌==◌, ◌⊎◌, inl, inr, List, [], ◌∷◌, ◌++◌, length, arith, eqb-true, eq-eqb}
use Rattle.std.proofs.lemmas.Bool.{and_parts, or_cases, false≢true}
use Rattle.ceu_tree.specs.declared.kernel.Kernel.{Kernel}
use Rattle.ceu_tree.specs.declared.kernel.KDecl.{KDecl}
use Rattle.ceu_tree.specs.declared.kernel.KLoop.{KLoop}
use Rattle.ceu_tree.specs.declared.kernel.KLoop.TheVariants as turns
use Rattle.ceu_tree.specs.declared.kernel.ParKind.{ParKind}
use Rattle.ceu_tree.specs.declared.kernel.KNode.{KNode}
use Rattle.ceu_tree.specs.declared.kernel.KBlock.{KBlock, out-KBlock}
use Rattle.ceu_tree.specs.declared.kernel.KStmt.{out-KStmt}
use Rattle.ceu_tree.specs.declared.kernel.KStmt.TheOpen.{KStmt-F}
use Rattle.ceu_tree.specs.Residual.{Body, Awaited, Spawned, same_body, Residual, Branches, Instances}
use Rattle.ceu_tree.specs.World.{World, is_among}
use Rattle.ceu_tree.specs.Abort.{forget_loop, forget_turns, aborted, branches_aborted, instances_aborted}
use Rattle.ceu_tree.specs.Proper.{Scope, is_proper}
use Rattle.ceu_tree.specs.Numbering.{counts_from, decl_slots, block_slots, block_nodes, stmt_slots, stmt_nodes}
use Rattle.laws_meaning_basics.specs.Shape.{Part, Fits, to_begin, to_turn, in_list, to_finish, at_input, at_time, at_event, at_forever, at_async, in_part, in_turn, in_call, in_par, EachFits, no_more, an_ended, a_branch, AllFit, none_lives, one_lives}
use Rattle.laws_meaning_values.specs.Ground.{has, under, rooted, numbers_of, numbers_among, numbers_in, Ground, Numbered, On, Outside}
use Rattle.laws_meaning_values.proofs.Counts.{counted_within, halves, Inner, blocks_slots_all, blocks_nodes_all}
use Rattle.laws_meaning_values.proofs.Grounds.{list_ground, inner_ground, own_node, hidden_counts, part_ground, code_ground}
use Rattle.laws_meaning_values.proofs.Stores.{under_own, under_further, rooted_own, rooted_further, never_true, or_left, or_right, forget_spares, forget_body_spares, forget_declared_spares, finalized_keeps, forget_layer, forget_loop_is}

-- ---- what is outside a part is outside its parts

pub among_right : (m : ℕ) (xs ys : List ℕ) → is_among m ys ≡ true → is_among m (xs ++ ys) ≡ true
among_right m [] ys h = h
among_right m (x ∷ xs) ys h = or_right (m == x) (is_among m (xs ++ ys)) (among_right m xs ys h)

pub among_left : (m : ℕ) (xs ys : List ℕ) → is_among m xs ≡ true → is_among m (xs ++ ys) ≡ true
among_left m [] ys h = absurd (false≢true h)
among_left m (x ∷ xs) ys h = go (or_cases (m == x) (is_among m xs) h) (among_left m xs ys)
  where
    go : ((m == x) ≡ true) ⊎ (is_among m xs ≡ true) → (is_among m xs ≡ true → is_among m (xs ++ ys) ≡ true) → is_among m (x ∷ (xs ++ ys)) ≡ true
    go (inl e) ih = or_left (m == x) (is_among m (xs ++ ys)) e
    go (inr e) ih = or_right (m == x) (is_among m (xs ++ ys)) (ih e)

pub outside_inner : (here : Body) (g h : Ground) (ns ms : List ℕ) (b : Body) (x : ℕ) → Inner h g → ((m : ℕ) → is_among m ms ≡ true → is_among m ns ≡ true) → Outside here g ns b x → Outside here h ms b x
outside_inner here g h ns ms b x i k o = record {
  own = λ e. side (o.own e);
  calls = λ n p q. o.calls n (omega (arith, i.first, p)) (omega (arith, i.last, q));
  instances = λ m e. o.instances m (k m e);
}
  where
    side : (x < g.low) ⊎ (g.high ≤ x) → (x < h.low) ⊎ (h.high ≤ x)
    side (inl p) = inl (omega (arith, i.low, p))
    side (inr p) = inr (omega (arith, i.high, p))

pub outside_call : (here : Body) (g h : Ground) (ns : List ℕ) (n : ℕ) (b : Body) (x : ℕ) → g.first ≤ n → n < g.last → Outside here g ns b x → Outside (Awaited here n) h ns b x
outside_call here g h ns n b x p q o = record {
  own = λ e. absurd (not_here (under_own here b n e));
  calls = λ m u v. never_true (under (Awaited here n) m b) (λ e. not_here (under_further here b n m e));
  instances = o.instances;
}
  where
    not_here : under here n b ≡ true → ⊥
    not_here e = false≢true (sym (o.calls n p q) ∙ e)

pub outside_instance : (here : Body) (g h : Ground) (ns ms : List ℕ) (m : ℕ) (b : Body) (x : ℕ) → is_among m ns ≡ true → ((k : ℕ) → is_among k ms ≡ true → is_among k ns ≡ true) → Outside here g ns b x → Outside (Spawned m) h ms b x
outside_instance here g h ns ms m b x p k o = record {
  own = λ e. absurd (not_rooted (rooted_own b m e));
  calls = λ n u v. never_true (under (Spawned m) n b) (λ e. not_rooted (rooted_further b m n e));
  instances = λ j e. o.instances j (k j e);
}
  where
    not_rooted : rooted m b ≡ true → ⊥
    not_rooted e = false≢true (sym (o.instances m p) ∙ e)

-- what is declared on the ground of a part is not outside it
pub declared_apart : (here : Body) (g : Ground) (ns : List ℕ) (b : Body) (x : ℕ) (ds : List KDecl) → counts_from g.low (decl_slots ds) ≡ true → g.low + length (decl_slots ds) ≤ g.high → Outside here g ns b x
    → (y : ℕ) → is_among y (decl_slots ds) ≡ true → same_body here b ≡ true → y ≡ x → ⊥
declared_apart here g ns b x ds c l o y m e q = side (o.own e)
  where
    within : (g.low ≤ y) × (y < g.low + length (decl_slots ds))
    within = counted_within g.low (decl_slots ds) y c m

    side : (x < g.low) ⊎ (g.high ≤ x) → ⊥
    side (inl p) = let w = within in omega (arith, w.0, q, p)
    side (inr p) = let w = within in omega (arith, w.1, q, p, l)

-- a loop's own variable is not outside the loop
pub turns_spared : (here : Body) (g : Ground) (ns : List ℕ) (s : KNode) (k : KLoop) (c : KBlock) (b : Body) (x : ℕ) (w : World) → out-KStmt s.stmt ≡ KStmt-F.Loop k c → Numbered (stmt_slots s.stmt) (s.node ∷ stmt_nodes s.stmt) g
    → Outside here g ns b x → has b x w ≡ true → has b x (forget_loop here s.stmt w) ≡ true
turns_spared here g ns s k c b x w e on o h = subst (λ u. has b x u ≡ true) (sym (forget_loop_is here s.stmt w ∙ ap (λ l. forget_layer here l w) e)) (go k e)
  where
    go : (k : KLoop) → out-KStmt s.stmt ≡ KStmt-F.Loop k c → has b x (forget_turns here k w) ≡ true
    go turns.Free q = h
    go (turns.Times slot n) q = h
    go (turns.Range i next end open_a y z open_b) q = forget_spares b x here i w (λ u v. apart v (o.own u)) h
      where
        hidden : (counts_from g.low (i ∷ next ∷ end ∷ []) ≡ true) × (g.low + 3 ≤ g.high)
        hidden = hidden_counts s (KStmt-F.Loop (turns.Range i next end open_a y z open_b) c) g q on

        first : i ≡ g.low
        first = eqb-true i g.low (and_parts (i == g.low) (counts_from (g.low + 1) (next ∷ end ∷ [])) hidden.0).0

        apart : i ≡ x → (x < g.low) ⊎ (g.high ≤ x) → ⊥
        apart v (inl p) = let f = first in omega (arith, f, v, p)
        apart v (inr p) = let f = first in let k = hidden.1 in omega (arith, f, v, p, k)

module _ (K : Kernel) (proper : is_proper K ≡ true) (b : Body) (x : ℕ) where
  mutual
    unfolding aborted numbers_of

    pub aborted_spares : {t : ℕ} {d : Part} {r : Residual} → Fits K t d r → (here : Body) (g : Ground) (w : World) → On d g → Outside here g (numbers_of r) b x → has b x w ≡ true → has b x (aborted r here w) ≡ true
    aborted_spares (to_begin l) here g w on o h = h
    aborted_spares (to_turn l p) here g w on o h = h
    aborted_spares (in_list {b = c} {fin = fin} {rest = rest} {all = all} {r = r} {s = s} done e f fit more) here g w on o h =
        let i = list_ground c done s rest g e on in
        let ns = numbers_in all ++ numbers_of r in
        let w1 = aborted r here w in
        let h1 = aborted_spares more here i.ground w i.on (outside_inner here g i.ground ns (numbers_of r) b x i.inner (λ m q. among_right m (numbers_in all) (numbers_of r) q) o) h in
        let h2 = all_spares fit here g w1 (outside_inner here g g ns (numbers_in all) b x (record { low = omega arith; high = omega arith; first = omega arith; last = omega arith }) (λ m q. among_left m (numbers_in all) (numbers_of r) q) o) h1 in
        forget_declared_spares b x here (out-KBlock c).decls _ (declared_apart here g ns b x (out-KBlock c).decls i.declared i.declared_to o) (finalized_keeps b x fin here (instances_aborted all w1) h2)
    aborted_spares (to_finish l p) here g w on o h = h
    aborted_spares (at_input q e) here g w on o h = h
    aborted_spares (at_time q u y e) here g w on o h = h
    aborted_spares (at_event q e) here g w on o h = h
    aborted_spares (at_forever e) here g w on o h = h
    aborted_spares (at_async {s = s} c e more) here g w on o h = let i = inner_ground s (KStmt-F.Async c) g e on in aborted_spares more here i.ground w i.on (outside_inner here g i.ground _ _ b x i.inner (λ m q. q) o) h
    aborted_spares (in_part {s = s} c e more) here g w on o h = let i = part_ground s c g e on in aborted_spares more here i.ground w i.on (outside_inner here g i.ground _ _ b x i.inner (λ m q. q) o) h
    aborted_spares (in_turn {s = s} {r = r} k c e q more) here g w on o h =
        let i = inner_ground s (KStmt-F.Loop k c) g e on in
        turns_spared here g (numbers_of r) s k c b x _ e on o (aborted_spares more here i.ground w i.on (outside_inner here g i.ground _ _ b x i.inner (λ m q. q) o) h)
    aborted_spares (in_call {s = s} {r = r} c es f y k e q more) here g w on o h =
        let i = code_ground K c k proper q in
        let n = own_node s g on in
        forget_body_spares b x (Awaited here s.node) (aborted r (Awaited here s.node) w) (λ u. false≢true (sym (o.calls s.node n.0 n.1) ∙ under_own here b s.node u))
        (aborted_spares more (Awaited here s.node) i.ground w i.on (outside_call here g i.ground _ s.node b x n.0 n.1 o) h)
    aborted_spares (in_par {s = s} k slot bs e q more) here g w on o h = let i = inner_ground s (KStmt-F.Par k slot bs) g e on in each_spares more here i.ground w i.on (outside_inner here g i.ground _ _ b x i.inner (λ m q. q) o) h

    pub each_spares : {t : ℕ} {sc : Scope} {k : ParKind} {bs : List KBlock} {rs : Branches} → EachFits K t sc k bs rs → (here : Body) (g : Ground) (w : World) → Numbered (blocks_slots_all bs) (blocks_nodes_all bs) g
        → Outside here g (numbers_among rs) b x → has b x w ≡ true → has b x (branches_aborted rs here w) ≡ true
    each_spares no_more here g w on o h = h
    each_spares (an_ended {b = c} {bs = bs} {more = more} m rest) here g w on o h =
        let i = halves (block_slots c) (blocks_slots_all bs) (block_nodes c) (blocks_nodes_all bs) g on in
        each_spares rest here i.right w i.on_right (outside_inner here g i.right _ _ b x i.inner_right (λ m q. q) o) h
    each_spares (a_branch {b = c} {bs = bs} {r = r} {more = more} fit rest) here g w on o h =
        let i = halves (block_slots c) (blocks_slots_all bs) (block_nodes c) (blocks_nodes_all bs) g on in
        aborted_spares fit here i.left (branches_aborted more here w) i.on_left (outside_inner here g i.left _ _ b x i.inner_left (λ m q. among_left m (numbers_of r) (numbers_among more) q) o)
        (each_spares rest here i.right w i.on_right (outside_inner here g i.right _ _ b x i.inner_right (λ m q. among_right m (numbers_of r) (numbers_among more) q) o) h)

    pub all_spares : {t : ℕ} {sc : Scope} {all : Instances} → AllFit K t sc all → (here : Body) (g : Ground) (w : World) → Outside here g (numbers_in all) b x → has b x w ≡ true → has b x (instances_aborted all w) ≡ true
    all_spares none_lives here g w o h = h
    all_spares (one_lives {seat = seat} {r = r} {more = more} k p e fit rest) here g w o h =
        let i = code_ground K seat.code k proper e in
        let n = seat.number in
        let ns = n ∷ (numbers_of r ++ numbers_in more) in
        let own = or_left (n == n) (is_among n (numbers_of r ++ numbers_in more)) (eq-eqb n n refl) in
        let deep = λ (m : ℕ) (q : is_among m (numbers_of r) ≡ true). or_right (m == n) (is_among m (numbers_of r ++ numbers_in more)) (among_left m (numbers_of r) (numbers_in more) q) in
        let wide = λ (m : ℕ) (q : is_among m (numbers_in more) ≡ true). or_right (m == n) (is_among m (numbers_of r ++ numbers_in more)) (among_right m (numbers_of r) (numbers_in more) q) in
        let w1 = instances_aborted more w in
        let h1 = all_spares rest here g w (outside_inner here g g ns (numbers_in more) b x (record { low = omega arith; high = omega arith; first = omega arith; last = omega arith }) wide o) h in
        forget_body_spares b x (Spawned n) (aborted r (Spawned seat.number) (instances_aborted more w)) (λ u. false≢true (sym (o.instances n own) ∙ rooted_own b n u))
        (aborted_spares fit (Spawned n) i.ground w1 i.on (outside_instance here g i.ground ns (numbers_of r) n b x own deep o) h1)
