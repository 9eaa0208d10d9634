-- The costs of lists with one more statement, cap.
use Rattle.std.proofs.Common.{◌≡◌, refl, sym, ap, ◌∙◌, ℕ, ◌+◌, ◌-◌, ◌*◌, ◌<◌, max, Bool, true, false, if◌then◌else◌, List, [], ◌∷◌, length, take, drop, get_or, arith}
use Rattle.std.specs.Prelude.{Option, Some, None}
use Rattle.std.proofs.lemmas.List.{drop_more}
use Rattle.ceu_tree.specs.declared.kernel.KNode.{KNode}
use Rattle.ceu_tree.specs.declared.kernel.KBlock.{KBlock}
use Rattle.ceu_tree.specs.Greatest.{total}
use Rattle.ceu_tree.specs.Paths.{has_end, quick_node}
use Rattle.ceu_tree.specs.Costs.{node_waits}
use Rattle.ceu_paths.specs.Cap.{cap}
use Rattle.ceu_paths.proofs.CapLaws.{cap_times, same_plus}
use Rattle.ceu_tree.proofs.TableLaws.{total_more}
use Rattle.ceu_tree.proofs.Depths.{greatest_more}
use Rattle.ceu_bound.specs.declared.tables.Tables.{Tables}
use Rattle.ceu_bound.specs.Measured.{unless_paced, enter_stmt, enter_block, enter_list, stay_stmt, stay_list, enter_branch, enter_branches}
use Rattle.ceu_bound.proofs.CostLaws.{enter_more, stay_more, entered, stayed, enter_none, stay_none}

pub enter_step : (T : Tables) (ss : List KNode) (i : ℕ) (d : KNode) → i < length ss →
    enter_list T (drop i ss) ≡ (if has_end (quick_node T.passing.items (get_or ss i d)) then enter_stmt T (get_or ss i d).node (get_or ss i d).stmt + enter_list T (drop (i + 1) ss) else enter_stmt T (get_or ss i d).node (get_or ss i d).stmt)
enter_step T ss i d h = ap (enter_list T) (drop_more ss i d h) ∙ enter_more T (get_or ss i d) (drop (i + 1) ss)

pub stay_step : (T : Tables) (ss : List KNode) (i : ℕ) (d : KNode) → i < length ss →
    stay_list T (drop i ss) ≡ (if node_waits (get_or ss i d) then max (stay_stmt T (get_or ss i d).node (get_or ss i d).stmt + enter_list T (drop (i + 1) ss)) (stay_list T (drop (i + 1) ss)) else stay_list T (drop (i + 1) ss))
stay_step T ss i d h = ap (stay_list T) (drop_more ss i d h) ∙ stay_more T (get_or ss i d) (drop (i + 1) ss)

-- cap parts give the cap of the whole
pub same_before : (e : Bool) (h a H A : ℕ) → h ≡ cap H → a ≡ cap A → cap (if e then h + a else h) ≡ cap (if e then H + A else H)
same_before true h a H A p q = grind (arith, p, q)
same_before false h a H A p q = grind (arith, p, q)

pub same_waiting : (w : Bool) (h a r H A R : ℕ) → h ≡ cap H → a ≡ cap A → r ≡ cap R → cap (if w then max (h + a) r else r) ≡ cap (if w then max (H + A) R else R)
same_waiting true h a r H A R p q s = grind (arith, p, q, s)
same_waiting false h a r H A R p q s = grind (arith, p, q, s)

cap_of_cap : (n : ℕ) → cap n ≡ cap (cap n)
cap_of_cap n = grind arith

-- a number of turns that is cap itself
pub cap_both : (n x : ℕ) → cap (cap n * cap x) ≡ cap (n * x)
cap_both n x = cap_times (cap n) x ∙ ap cap (omega arith) ∙ cap_times x n ∙ ap cap (omega arith)

pub looped_enter : (p : Option ℕ) (t n x X : ℕ) → t ≡ cap n → x ≡ cap X → cap (unless_paced p (t * x)) ≡ cap (unless_paced p (n * X))
looped_enter (Some e) t n x X a b = refl
looped_enter None t n x X a b = ap (λ k. cap (k * x)) a ∙ ap (λ k. cap (cap n * k)) b ∙ cap_both n X

pub looped_stay : (p : Option ℕ) (t n x X s S : ℕ) → t ≡ cap n → x ≡ cap X → s ≡ cap S → cap (unless_paced p (s + t * x)) ≡ cap (unless_paced p (S + n * X))
looped_stay (Some e) t n x X s S a b c = refl
looped_stay None t n x X s S a b c = same_plus s S (t * x) (n * X) (ap cap c ∙ sym (cap_of_cap S)) (looped_enter None t n x X a b)

pub nodes_enter : (T : Tables) (ss : List KNode) (i j : ℕ) (s : KNode) (e : Bool) (h a r : ℕ) → i < length ss → i + 1 ≡ j → s ≡ get_or ss i s → e ≡ has_end (quick_node T.passing.items s) →
    h ≡ cap (enter_stmt T s.node s.stmt) → a ≡ cap (enter_list T (drop j ss)) → r ≡ cap (if e then h + a else h) → r ≡ cap (enter_list T (drop i ss))
nodes_enter T ss i j s e h a r below next at ends p q made =
    made ∙
    ap (λ k. cap (if k then h + a else h)) ends ∙
    same_before (has_end (quick_node T.passing.items s)) h a (enter_stmt T s.node s.stmt) (enter_list T (drop j ss)) p q ∙
    ap (λ (n : KNode). cap (if has_end (quick_node T.passing.items n) then enter_stmt T n.node n.stmt + enter_list T (drop j ss) else enter_stmt T n.node n.stmt)) at ∙
    ap (λ k. cap (if has_end (quick_node T.passing.items (get_or ss i s)) then enter_stmt T (get_or ss i s).node (get_or ss i s).stmt + enter_list T (drop k ss) else enter_stmt T (get_or ss i s).node (get_or ss i s).stmt)) (sym next) ∙
    ap cap (sym (enter_step T ss i s below))

pub nodes_stay : (T : Tables) (ss : List KNode) (i j : ℕ) (s : KNode) (w : Bool) (h a y r : ℕ) → i < length ss → i + 1 ≡ j → s ≡ get_or ss i s → w ≡ node_waits s →
    h ≡ cap (stay_stmt T s.node s.stmt) → a ≡ cap (enter_list T (drop j ss)) → y ≡ cap (stay_list T (drop j ss)) → r ≡ cap (if w then max (h + a) y else y) → r ≡ cap (stay_list T (drop i ss))
nodes_stay T ss i j s w h a y r below next at waits p q z made =
    made ∙
    ap (λ k. cap (if k then max (h + a) y else y)) waits ∙
    same_waiting (node_waits s) h a y (stay_stmt T s.node s.stmt) (enter_list T (drop j ss)) (stay_list T (drop j ss)) p q z ∙
    ap (λ (n : KNode). cap (if node_waits n then max (stay_stmt T n.node n.stmt + enter_list T (drop j ss)) (stay_list T (drop j ss)) else stay_list T (drop j ss))) at ∙
    ap (λ k. cap (if node_waits (get_or ss i s) then max (stay_stmt T (get_or ss i s).node (get_or ss i s).stmt + enter_list T (drop k ss)) (stay_list T (drop k ss)) else stay_list T (drop k ss))) (sym next) ∙
    ap cap (sym (stay_step T ss i s below))

pub drop_whole : {X : Type 0} (xs : List X) → drop (length xs) xs ≡ []
drop_whole [] = refl
drop_whole (x ∷ xs) = drop_whole xs

take_whole : {X : Type 0} (xs : List X) → take (length xs) xs ≡ xs
take_whole [] = refl
take_whole (x ∷ xs) = ap (λ k. x ∷ k) (take_whole xs)

pub first_branch : (T : Tables) (bs : List KBlock) (d : KBlock) → 0 < length bs → enter_branches T bs ≡ enter_block T (get_or bs 0 d) + total (enter_branch T) (take (length bs - 1) (drop 1 bs))
first_branch T [] d h = absurd (omega arith)
first_branch T (b ∷ bs) d h =
    let less : length (b ∷ bs) - 1 ≡ length bs = omega arith in
    sym (ap (λ k. enter_block T b + total (enter_branch T) (take k bs)) less ∙ ap (λ k. enter_block T b + total (enter_branch T) k) (take_whole bs))

pub ruleset measures = (entered, stayed, enter_none, stay_none, total_more, greatest_more)
