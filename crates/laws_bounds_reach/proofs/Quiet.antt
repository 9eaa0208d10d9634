-- From a block that spawns nothing no turn leads to a spawn, so a step spawns only where something may be.
use Rattle.std.proofs.Common.{◌≡◌, refl, sym, ap, ◌∙◌, ℕ, Bool, true, false, not, if◌then◌else◌, ◌||◌, ◌&&◌, ◌⊎◌, inl, inr, nat_lt, List, ◌∷◌, ◌++◌, Option, Some, None}
use Rattle.std.proofs.lemmas.Bool.{and_parts, false≢true}
use Rattle.std.specs.List.{list_all}
use Rattle.ceu_tree.specs.declared.kernel.Kernel.{Kernel}
use Rattle.ceu_tree.specs.declared.kernel.KNode.{KNode}
use Rattle.ceu_tree.specs.declared.kernel.KBlock.{KBlock, out-KBlock}
use Rattle.ceu_tree.specs.declared.kernel.KStmt.{out-KStmt}
use Rattle.ceu_tree.specs.declared.kernel.KStmt.TheOpen.{KStmt-F}
use Rattle.ceu_tree.proofs.CalmLaws.{calm_of_block, paced_of_body}
use Rattle.ceu_tree.specs.Residual.{Act, Start, Seat, Residual, Instances, no_instance, instance}
use Rattle.ceu_tree.specs.Focus.{Frame, Focus, leaf}
use Rattle.ceu_tree.specs.Leaf.{Layer}
use Rattle.ceu_tree.specs.Costs.{no_bound, calm_block, calm_node, awaited_event, paced_body, paced_nodes}
use Rattle.ceu_tree.specs.Step.{size_in, with_instance, seated_if, seat_frame, seated}
use Rattle.laws_meaning_basics.specs.Shape.{Part, ABlock, AStatement, AnEnd, opens_part, FrameFits, around_statement, around_end, around_instance, around_part, around_turn, around_call, around_branch, Around, nothing_around, one_around, ActFits, begins, heads, goes_again, starts, finishes, ends}
use Rattle.laws_bounds_steps.specs.Due.{is_await}
use Rattle.laws_bounds_steps.specs.Pays.{is_paced}
use Rattle.laws_bounds_reach.specs.Standing.{spawns_nothing, pools_bare, all_bare, frame_bare, focus_bare}
use Rattle.laws_bounds_reach.proofs.StandingLayers.{calm_layer, calm_is}
use Rattle.laws_bounds_reach.proofs.Still.{calm_among, calm_opens}
use Rattle.laws_bounds_reach.proofs.Stays.{event_awaited, await_opens, paced_at}

abbrev pub quiet : Part → Bool
quiet (ABlock turn sc b) = spawns_nothing b
quiet (AStatement sc s) = calm_node s || is_await (out-KStmt s.stmt)
quiet AnEnd = true

or_case : (a b : Bool) → (a || b) ≡ true → (a ≡ true) ⊎ (b ≡ true)
or_case true b h = inl refl
or_case false b h = inr h

or_first : (a b : Bool) → a ≡ true → (a || b) ≡ true
or_first true b h = refl
or_first false b h = absurd (false≢true h)

or_second : (a b : Bool) → b ≡ true → (a || b) ≡ true
or_second true b h = refl
or_second false b h = h

-- a statement of a block that spawns nothing
list_quiet : (b : KBlock) (done : List KNode) (s : KNode) (rest : List KNode) → (out-KBlock b).list ≡ done ++ s ∷ rest → spawns_nothing b ≡ true → (calm_node s || is_await (out-KStmt s.stmt)) ≡ true
list_quiet b done s rest e h = go (or_case (calm_block b) (is_paced (paced_body b)) h)
  where
    either : (x : ℕ) → paced_body b ≡ Some x → (calm_node s || is_await (out-KStmt s.stmt)) ≡ true
    either x q = pick (paced_at done s rest x (ap paced_nodes (sym e) ∙ sym (paced_of_body b) ∙ q))
      where
        pick : (awaited_event s.stmt ≡ Some x) ⊎ (calm_node s ≡ true) → (calm_node s || is_await (out-KStmt s.stmt)) ≡ true
        pick (inl y) = or_second (calm_node s) _ (event_awaited s.stmt x y)
        pick (inr y) = or_first (calm_node s) _ y

    some : (o : Option ℕ) → paced_body b ≡ o → is_paced o ≡ true → (calm_node s || is_await (out-KStmt s.stmt)) ≡ true
    some None q y = absurd (false≢true y)
    some (Some x) q y = either x q

    go : (calm_block b ≡ true) ⊎ (is_paced (paced_body b) ≡ true) → (calm_node s || is_await (out-KStmt s.stmt)) ≡ true
    go (inl y) = or_first (calm_node s) _ (calm_among calm_node done s rest (ap (list_all calm_node) (sym e) ∙ sym (calm_of_block b) ∙ y))
    go (inr y) = some (paced_body b) refl y

-- one level of it open
quiet_layer : (s : KNode) (layer : Layer) → out-KStmt s.stmt ≡ layer → (calm_node s || is_await (out-KStmt s.stmt)) ≡ true → (calm_layer layer ≡ true) ⊎ (is_await layer ≡ true)
quiet_layer s layer e h = go (or_case (calm_node s) _ h)
  where
    go : (calm_node s ≡ true) ⊎ (is_await (out-KStmt s.stmt) ≡ true) → (calm_layer layer ≡ true) ⊎ (is_await layer ≡ true)
    go (inl x) = inl (ap calm_layer (sym e) ∙ sym (calm_is s.stmt) ∙ x)
    go (inr x) = inr (ap is_await (sym e) ∙ x)

neither : {A : Type 0} → (false ≡ true) ⊎ (false ≡ true) → A
neither (inl x) = absurd (false≢true x)
neither (inr x) = absurd (false≢true x)

quiet_opens : (layer : Layer) (b : KBlock) → opens_part layer b → (calm_layer layer ≡ true) ⊎ (is_await layer ≡ true) → spawns_nothing b ≡ true
quiet_opens layer b o (inl x) = or_first (calm_block b) _ (calm_opens layer b o x)
quiet_opens layer b o (inr x) = absurd (await_opens layer b o x)

quiet_turn : (bound : Bool) (b : KBlock) → ((bound && calm_block b) ≡ true) ⊎ (false ≡ true) → spawns_nothing b ≡ true
quiet_turn bound b (inl x) = or_first (calm_block b) _ (and_parts bound (calm_block b) x).1
quiet_turn bound b (inr x) = absurd (false≢true x)

-- ---- a turn

abbrev pub layer_spawns : Layer → Bool
layer_spawns (KStmt-F.Spawn c es p a) = true
layer_spawns layer = false

abbrev pub act_spawns : Act → Bool
act_spawns (Start s) = layer_spawns (out-KStmt s.stmt)
act_spawns a = false

quiet_start : (layer : Layer) → (calm_layer layer ≡ true) ⊎ (is_await layer ≡ true) → layer_spawns layer ≡ false
quiet_start (KStmt-F.Spawn c es p a) h = neither h
quiet_start layer h = refl

quiet_act : {d : Part} {a : Act} → ActFits d a → quiet d ≡ true → act_spawns a ≡ false
quiet_act begins h = refl
quiet_act heads h = refl
quiet_act goes_again h = refl
quiet_act (starts {s = s}) h = quiet_start (out-KStmt s.stmt) (quiet_layer s _ refl h)
quiet_act (finishes p) h = refl
quiet_act ends h = refl

module _ (K : Kernel) (top : ℕ) where
  frame_quiet : {fr : Frame} {d e : Part} → FrameFits K top fr d e → frame_bare fr → quiet d ≡ true → quiet e ≡ true
  frame_quiet (around_statement {b = b} {rest = rest} {s = s} done e f all) h q = list_quiet b done s rest e q
  frame_quiet (around_end f all) h q = refl
  frame_quiet (around_instance done k e f r x y p c) h q = absurd (false≢true (sym h.0 ∙ q))
  frame_quiet (around_part {s = s} b o) h q = quiet_opens (out-KStmt s.stmt) b o (quiet_layer s _ refl q)
  frame_quiet (around_turn {s = s} k b e c) h q = quiet_turn (not (no_bound k)) b (quiet_layer s _ e q)
  frame_quiet (around_call {s = s} c es f t k e g) h q = neither (quiet_layer s _ e q)
  frame_quiet (around_branch {s = s} k slot bs b cs e x y) h q = neither (quiet_layer s _ e q)

  path_quiet : {f : Focus Act} {d e : Part} → Around K top Act f d e → focus_bare f → quiet d ≡ true → quiet e ≡ true
  unfolding focus_bare
  path_quiet nothing_around h q = q
  path_quiet (one_around x more) h q = path_quiet more h.1 (frame_quiet x h.0 q)

  -- ---- an instance takes its place

  with_bare : (seat : Seat) (r : Residual) (all : Instances) → pools_bare r → all_bare all → all_bare (with_instance seat r all)
  unfolding pools_bare
  with_bare seat r no_instance h k = (h, tt)
  with_bare seat r (instance other q more) h k = go (nat_lt seat.pool other.pool) (with_bare seat r more h k.1)
    where
      go : (b : Bool) → all_bare (with_instance seat r more) → all_bare (if b then instance seat r (instance other q more) else instance other q (with_instance seat r more))
      go true x = (h, k)
      go false x = (k.0, x)

  seated_if_bare : (o : Option ℕ) (seat : Seat) (r : Residual) (all : Instances) → pools_bare r → all_bare all → all_bare (seated_if o seat r all)
  seated_if_bare None seat r all h k = k
  seated_if_bare (Some n) seat r all h k = with_bare seat r all h k

  seat_bare : (seat : Seat) (r : Residual) → pools_bare r → {fr : Frame} {d e : Part} → FrameFits K top fr d e → frame_bare fr → (quiet d ≡ true → ⊥) → frame_bare (seat_frame seat r fr)
  seat_bare seat r x (around_statement {b = b} {all = all} done e f lives) h never = (λ q. absurd (never q), seated_if_bare (size_in seat.pool (out-KBlock b).decls) seat r all x h.1)
  seat_bare seat r x (around_end {b = b} {all = all} f lives) h never = (λ q. absurd (never q), seated_if_bare (size_in seat.pool (out-KBlock b).decls) seat r all x h.1)
  seat_bare seat r x (around_instance done k e f z y w p c) h never = h
  seat_bare seat r x (around_part b o) h never = h
  seat_bare seat r x (around_turn k b e c) h never = h
  seat_bare seat r x (around_call c es f t k e g) h never = h
  seat_bare seat r x (around_branch k slot bs b cs e z y) h never = h

  pub seated_bare : (seat : Seat) (r : Residual) → pools_bare r → {f : Focus Act} {d e : Part} → Around K top Act f d e → ActFits e (leaf f) → act_spawns (leaf f) ≡ true → focus_bare f → focus_bare (seated seat r f)
  unfolding focus_bare
  seated_bare seat r x nothing_around a s h = tt
  seated_bare seat r x (one_around y more) a s h =
      (seat_bare seat r x y h.0 (λ q. false≢true (sym (quiet_act a (path_quiet more h.1 (frame_quiet y h.0 q))) ∙ s)), seated_bare seat r x more a s h.1)
