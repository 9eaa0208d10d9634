-- One level of what a statement costs, in one part.
use Rattle.std.proofs.Common.{◌≡◌, refl, ap, ◌∙◌, ℕ, zero, suc, ◌+◌, ◌-◌, ◌*◌, max, Bool, true, false, if◌then◌else◌, List, [], ◌∷◌, arith}
use Rattle.std.specs.Prelude.{Option, Some, None}
use Rattle.ceu_tree.specs.declared.kernel.KExp.{KExp}
use Rattle.ceu_tree.specs.declared.kernel.KDecl.{KDecl}
use Rattle.ceu_tree.specs.declared.kernel.KKind.{KKind}
use Rattle.ceu_tree.specs.declared.kernel.KKind.TheVariants as kind
use Rattle.ceu_tree.specs.declared.kernel.KLoop.{KLoop}
use Rattle.ceu_tree.specs.declared.kernel.KArm.{KArm, out-KArm}
use Rattle.ceu_tree.specs.declared.kernel.KBlock.{KBlock, out-KBlock}
use Rattle.ceu_tree.specs.declared.kernel.KNode.{KNode}
use Rattle.ceu_tree.specs.declared.kernel.KStmt as k
use Rattle.ceu_tree.specs.Paths.{has_end, quick_node}
use Rattle.ceu_tree.specs.Costs as spec
use Rattle.ceu_tree.specs.Costs.{Cost, cost, nothing, plus, times, most, sum_of, most_of, cost_at, paced, loop_times, without_one, node_waits}
use Rattle.ceu_tree.specs.Greatest.{greatest, total}
use Rattle.ceu_tree.specs.Needs.{entry}
use Rattle.ceu_tree.proofs.EnterLaws as enters
use Rattle.ceu_tree.proofs.StayLaws as stays
use Rattle.ceu_bound.specs.declared.tables.Part.{Part}
use Rattle.ceu_bound.specs.declared.tables.Part.TheVariants as part
use Rattle.ceu_bound.specs.declared.tables.Tables.{Tables}
use Rattle.ceu_bound.specs.Parts.{pick, turn, spawning, both, costs}
use Rattle.ceu_bound.specs.Measured.{unless_paced, enter_stmt, enter_block, enter_arm, enter_list, stay_stmt, stay_block, stay_arm, stay_list, enter_branch, enter_branches, pool_stay, decl_stay}

pub pick_none : (w : Part) → pick w nothing ≡ 0
pick_none part.Turns = refl
pick_none part.Levels = refl

pub pick_turn : (w : Part) → pick w (cost 1 0) ≡ turn w
pick_turn part.Turns = refl
pick_turn part.Levels = refl

pub pick_both : (w : Part) (n : ℕ) → pick w (both n) ≡ n
pick_both part.Turns n = refl
pick_both part.Levels n = refl

pub pick_plus : (w : Part) (a b : Cost) → pick w (plus a b) ≡ pick w a + pick w b
pick_plus part.Turns a b = refl
pick_plus part.Levels a b = refl

pub pick_most : (w : Part) (a b : Cost) → pick w (most a b) ≡ max (pick w a) (pick w b)
pick_most part.Turns a b = refl
pick_most part.Levels a b = refl

pub pick_times : (w : Part) (n : ℕ) (a : Cost) → pick w (times n a) ≡ n * pick w a
pick_times part.Turns n a = refl
pick_times part.Levels n a = refl

pub pick_at : (w : Part) (n : ℕ) (E : List ℕ) → pick w (cost_at n (costs E)) ≡ entry n E
pick_at w n [] = pick_none w
pick_at w zero (x ∷ xs) = pick_both w x
pick_at w (suc n) (x ∷ xs) = pick_at w n xs

pick_spawn : (w : Part) (c : ℕ) (N : List ℕ) → pick w (plus (cost 2 1) (cost_at c (costs N))) ≡ spawning w + entry c N
pick_spawn part.Turns c N = ap (λ k. 2 + k) (pick_at part.Turns c N)
pick_spawn part.Levels c N = ap (λ k. 1 + k) (pick_at part.Levels c N)

pub pick_sum : {X : Type 0} (w : Part) (f : X → Cost) (xs : List X) → pick w (sum_of f xs) ≡ total (λ x. pick w (f x)) xs
pick_sum w f [] = pick_none w
pick_sum w f (x ∷ xs) = pick_plus w (f x) (sum_of f xs) ∙ ap (λ k. pick w (f x) + k) (pick_sum w f xs)

pub pick_greatest : {X : Type 0} (w : Part) (f : X → Cost) (xs : List X) → pick w (most_of f xs) ≡ greatest (λ x. pick w (f x)) xs
pick_greatest w f [] = pick_none w
pick_greatest w f (x ∷ xs) = pick_most w (f x) (most_of f xs) ∙ ap (λ k. max (pick w (f x)) k) (pick_greatest w f xs)

pick_unless : (w : Part) (p : Option ℕ) (a : Cost) → pick w (elim p as (λ _. Cost) [ Some e ↦ nothing | None ↦ a ]) ≡ unless_paced p (pick w a)
pick_unless w (Some e) a = pick_none w
pick_unless w None a = refl

pick_if : (w : Part) (b : Bool) (x y : Cost) → pick w (if b then x else y) ≡ (if b then pick w x else pick w y)
pick_if w true x y = refl
pick_if w false x y = refl

total_ext : {X : Type 0} (f g : X → ℕ) → ((x : X) → f x ≡ g x) → (xs : List X) → total f xs ≡ total g xs
total_ext f g e [] = refl
total_ext f g e (x ∷ xs) = ap (λ k. k + total f xs) (e x) ∙ ap (λ k. g x + k) (total_ext f g e xs)

pub enter_of_nothing : (T : Tables) (m : ℕ) → enter_stmt T m k.Nothing ≡ 0
unfolding enter_stmt
enter_of_nothing T m = ap (pick T.part) (enters.enter_of_nothing T.passing.items (costs T.events.items) (costs T.entering.items) m) ∙ pick_none T.part

pub stay_of_nothing : (T : Tables) (m : ℕ) → stay_stmt T m k.Nothing ≡ 0
unfolding stay_stmt
stay_of_nothing T m = ap (pick T.part) (stays.stay_of_nothing T.passing.items (costs T.events.items) (costs T.entering.items) (costs T.staying.items) m) ∙ pick_none T.part

pub enter_of_assign : (T : Tables) (m : ℕ) (l : _) (e : KExp) → enter_stmt T m (k.Assign l e) ≡ 0
unfolding enter_stmt
enter_of_assign T m l e = ap (pick T.part) (enters.enter_of_assign T.passing.items (costs T.events.items) (costs T.entering.items) m l e) ∙ pick_none T.part

pub stay_of_assign : (T : Tables) (m : ℕ) (l : _) (e : KExp) → stay_stmt T m (k.Assign l e) ≡ 0
unfolding stay_stmt
stay_of_assign T m l e = ap (pick T.part) (stays.stay_of_assign T.passing.items (costs T.events.items) (costs T.entering.items) (costs T.staying.items) m l e) ∙ pick_none T.part

pub enter_of_out : (T : Tables) (m : ℕ) (n : ℕ) (e : _) → enter_stmt T m (k.Out n e) ≡ 0
unfolding enter_stmt
enter_of_out T m n e = ap (pick T.part) (enters.enter_of_out T.passing.items (costs T.events.items) (costs T.entering.items) m n e) ∙ pick_none T.part

pub stay_of_out : (T : Tables) (m : ℕ) (n : ℕ) (e : _) → stay_stmt T m (k.Out n e) ≡ 0
unfolding stay_stmt
stay_of_out T m n e = ap (pick T.part) (stays.stay_of_out T.passing.items (costs T.events.items) (costs T.entering.items) (costs T.staying.items) m n e) ∙ pick_none T.part

pub enter_of_emit : (T : Tables) (m : ℕ) (n : ℕ) (e : _) → enter_stmt T m (k.Emit n e) ≡ entry n T.events.items
unfolding enter_stmt
enter_of_emit T m n e = ap (pick T.part) (enters.enter_of_emit T.passing.items (costs T.events.items) (costs T.entering.items) m n e) ∙ pick_at T.part n T.events.items

pub stay_of_emit : (T : Tables) (m : ℕ) (n : ℕ) (e : _) → stay_stmt T m (k.Emit n e) ≡ 0
unfolding stay_stmt
stay_of_emit T m n e = ap (pick T.part) (stays.stay_of_emit T.passing.items (costs T.events.items) (costs T.entering.items) (costs T.staying.items) m n e) ∙ pick_none T.part

pub enter_of_await_in : (T : Tables) (m : ℕ) (n : ℕ) (t : _) → enter_stmt T m (k.AwaitIn n t) ≡ 0
unfolding enter_stmt
enter_of_await_in T m n t = ap (pick T.part) (enters.enter_of_await_in T.passing.items (costs T.events.items) (costs T.entering.items) m n t) ∙ pick_none T.part

pub stay_of_await_in : (T : Tables) (m : ℕ) (n : ℕ) (t : _) → stay_stmt T m (k.AwaitIn n t) ≡ turn T.part
unfolding stay_stmt
stay_of_await_in T m n t = ap (pick T.part) (stays.stay_of_await_in T.passing.items (costs T.events.items) (costs T.entering.items) (costs T.staying.items) m n t) ∙ pick_turn T.part

pub enter_of_await_time : (T : Tables) (m : ℕ) (e : KExp) (u : _) (t : _) → enter_stmt T m (k.AwaitTime e u t) ≡ 0
unfolding enter_stmt
enter_of_await_time T m e u t = ap (pick T.part) (enters.enter_of_await_time T.passing.items (costs T.events.items) (costs T.entering.items) m e u t) ∙ pick_none T.part

pub stay_of_await_time : (T : Tables) (m : ℕ) (e : KExp) (u : _) (t : _) → stay_stmt T m (k.AwaitTime e u t) ≡ turn T.part
unfolding stay_stmt
stay_of_await_time T m e u t = ap (pick T.part) (stays.stay_of_await_time T.passing.items (costs T.events.items) (costs T.entering.items) (costs T.staying.items) m e u t) ∙ pick_turn T.part

pub enter_of_await_event : (T : Tables) (m : ℕ) (n : ℕ) (t : _) → enter_stmt T m (k.AwaitEvent n t) ≡ turn T.part
unfolding enter_stmt
enter_of_await_event T m n t = ap (pick T.part) (enters.enter_of_await_event T.passing.items (costs T.events.items) (costs T.entering.items) m n t) ∙ pick_turn T.part

pub stay_of_await_event : (T : Tables) (m : ℕ) (n : ℕ) (t : _) → stay_stmt T m (k.AwaitEvent n t) ≡ turn T.part
unfolding stay_stmt
stay_of_await_event T m n t = ap (pick T.part) (stays.stay_of_await_event T.passing.items (costs T.events.items) (costs T.entering.items) (costs T.staying.items) m n t) ∙ pick_turn T.part

pub enter_of_forever : (T : Tables) (m : ℕ) → enter_stmt T m k.Forever ≡ 0
unfolding enter_stmt
enter_of_forever T m = ap (pick T.part) (enters.enter_of_forever T.passing.items (costs T.events.items) (costs T.entering.items) m) ∙ pick_none T.part

pub stay_of_forever : (T : Tables) (m : ℕ) → stay_stmt T m k.Forever ≡ 0
unfolding stay_stmt
stay_of_forever T m = ap (pick T.part) (stays.stay_of_forever T.passing.items (costs T.events.items) (costs T.entering.items) (costs T.staying.items) m) ∙ pick_none T.part

pub enter_of_await_code : (T : Tables) (m : ℕ) (c : ℕ) (es : List KExp) (f : ℕ) (t : _) → enter_stmt T m (k.AwaitCode c es f t) ≡ entry c T.entering.items
unfolding enter_stmt
enter_of_await_code T m c es f t = ap (pick T.part) (enters.enter_of_await_code T.passing.items (costs T.events.items) (costs T.entering.items) m c es f t) ∙ pick_at T.part c T.entering.items

pub stay_of_await_code : (T : Tables) (m : ℕ) (c : ℕ) (es : List KExp) (f : ℕ) (t : _) → stay_stmt T m (k.AwaitCode c es f t) ≡ entry c T.staying.items
unfolding stay_stmt
stay_of_await_code T m c es f t = ap (pick T.part) (stays.stay_of_await_code T.passing.items (costs T.events.items) (costs T.entering.items) (costs T.staying.items) m c es f t) ∙ pick_at T.part c T.staying.items

pub enter_of_spawn : (T : Tables) (m : ℕ) (c : ℕ) (es : List KExp) (p : ℕ) (a : _) → enter_stmt T m (k.Spawn c es p a) ≡ spawning T.part + entry c T.entering.items
unfolding enter_stmt
enter_of_spawn T m c es p a = ap (pick T.part) (enters.enter_of_spawn T.passing.items (costs T.events.items) (costs T.entering.items) m c es p a) ∙ pick_spawn T.part c T.entering.items

pub stay_of_spawn : (T : Tables) (m : ℕ) (c : ℕ) (es : List KExp) (p : ℕ) (a : _) → stay_stmt T m (k.Spawn c es p a) ≡ 0
unfolding stay_stmt
stay_of_spawn T m c es p a = ap (pick T.part) (stays.stay_of_spawn T.passing.items (costs T.events.items) (costs T.entering.items) (costs T.staying.items) m c es p a) ∙ pick_none T.part

pub enter_of_kill : (T : Tables) (m : ℕ) (n : ℕ) → enter_stmt T m (k.Kill n) ≡ 0
unfolding enter_stmt
enter_of_kill T m n = ap (pick T.part) (enters.enter_of_kill T.passing.items (costs T.events.items) (costs T.entering.items) m n) ∙ pick_none T.part

pub stay_of_kill : (T : Tables) (m : ℕ) (n : ℕ) → stay_stmt T m (k.Kill n) ≡ 0
unfolding stay_stmt
stay_of_kill T m n = ap (pick T.part) (stays.stay_of_kill T.passing.items (costs T.events.items) (costs T.entering.items) (costs T.staying.items) m n) ∙ pick_none T.part

pub enter_of_unset : (T : Tables) (m : ℕ) (n : ℕ) → enter_stmt T m (k.Unset n) ≡ 0
unfolding enter_stmt
enter_of_unset T m n = ap (pick T.part) (enters.enter_of_unset T.passing.items (costs T.events.items) (costs T.entering.items) m n) ∙ pick_none T.part

pub stay_of_unset : (T : Tables) (m : ℕ) (n : ℕ) → stay_stmt T m (k.Unset n) ≡ 0
unfolding stay_stmt
stay_of_unset T m n = ap (pick T.part) (stays.stay_of_unset T.passing.items (costs T.events.items) (costs T.entering.items) (costs T.staying.items) m n) ∙ pick_none T.part

pub enter_of_async : (T : Tables) (m : ℕ) (b : KBlock) → enter_stmt T m (k.Async b) ≡ 0
unfolding enter_stmt
enter_of_async T m b = ap (pick T.part) (enters.enter_of_async T.passing.items (costs T.events.items) (costs T.entering.items) m b) ∙ pick_none T.part

pub stay_of_async : (T : Tables) (m : ℕ) (b : KBlock) → stay_stmt T m (k.Async b) ≡ turn T.part
unfolding stay_stmt
stay_of_async T m b = ap (pick T.part) (stays.stay_of_async T.passing.items (costs T.events.items) (costs T.entering.items) (costs T.staying.items) m b) ∙ pick_turn T.part

pub enter_of_finalize : (T : Tables) (m : ℕ) (b : KBlock) → enter_stmt T m (k.Finalize b) ≡ 0
unfolding enter_stmt
enter_of_finalize T m b = ap (pick T.part) (enters.enter_of_finalize T.passing.items (costs T.events.items) (costs T.entering.items) m b) ∙ pick_none T.part

pub stay_of_finalize : (T : Tables) (m : ℕ) (b : KBlock) → stay_stmt T m (k.Finalize b) ≡ 0
unfolding stay_stmt
stay_of_finalize T m b = ap (pick T.part) (stays.stay_of_finalize T.passing.items (costs T.events.items) (costs T.entering.items) (costs T.staying.items) m b) ∙ pick_none T.part

pub enter_of_escape : (T : Tables) (m : ℕ) (n : ℕ) (e : _) → enter_stmt T m (k.Escape n e) ≡ 0
unfolding enter_stmt
enter_of_escape T m n e = ap (pick T.part) (enters.enter_of_escape T.passing.items (costs T.events.items) (costs T.entering.items) m n e) ∙ pick_none T.part

pub stay_of_escape : (T : Tables) (m : ℕ) (n : ℕ) (e : _) → stay_stmt T m (k.Escape n e) ≡ 0
unfolding stay_stmt
stay_of_escape T m n e = ap (pick T.part) (stays.stay_of_escape T.passing.items (costs T.events.items) (costs T.entering.items) (costs T.staying.items) m n e) ∙ pick_none T.part

pub enter_of_break : (T : Tables) (m : ℕ) (n : ℕ) → enter_stmt T m (k.Break n) ≡ 0
unfolding enter_stmt
enter_of_break T m n = ap (pick T.part) (enters.enter_of_break T.passing.items (costs T.events.items) (costs T.entering.items) m n) ∙ pick_none T.part

pub stay_of_break : (T : Tables) (m : ℕ) (n : ℕ) → stay_stmt T m (k.Break n) ≡ 0
unfolding stay_stmt
stay_of_break T m n = ap (pick T.part) (stays.stay_of_break T.passing.items (costs T.events.items) (costs T.entering.items) (costs T.staying.items) m n) ∙ pick_none T.part

pub enter_of_continue : (T : Tables) (m : ℕ) (n : ℕ) → enter_stmt T m (k.Continue n) ≡ 0
unfolding enter_stmt
enter_of_continue T m n = ap (pick T.part) (enters.enter_of_continue T.passing.items (costs T.events.items) (costs T.entering.items) m n) ∙ pick_none T.part

pub stay_of_continue : (T : Tables) (m : ℕ) (n : ℕ) → stay_stmt T m (k.Continue n) ≡ 0
unfolding stay_stmt
stay_of_continue T m n = ap (pick T.part) (stays.stay_of_continue T.passing.items (costs T.events.items) (costs T.entering.items) (costs T.staying.items) m n) ∙ pick_none T.part

pub enter_of_do : (T : Tables) (m : ℕ) (t : _) (b : KBlock) → enter_stmt T m (k.Do t b) ≡ enter_block T b
unfolding enter_stmt enter_block
enter_of_do T m t b = ap (pick T.part) (enters.enter_of_do T.passing.items (costs T.events.items) (costs T.entering.items) m t b)

pub stay_of_do : (T : Tables) (m : ℕ) (t : _) (b : KBlock) → stay_stmt T m (k.Do t b) ≡ stay_block T b
unfolding stay_stmt stay_block
stay_of_do T m t b = ap (pick T.part) (stays.stay_of_do T.passing.items (costs T.events.items) (costs T.entering.items) (costs T.staying.items) m t b)

pub enter_of_arm : (T : Tables) (a : KArm) → enter_arm T a ≡ enter_block T (out-KArm a).body
unfolding enter_arm enter_block
enter_of_arm T a = ap (pick T.part) (enters.enter_of_arm T.passing.items (costs T.events.items) (costs T.entering.items) a)

pub stay_of_arm : (T : Tables) (a : KArm) → stay_arm T a ≡ stay_block T (out-KArm a).body
unfolding stay_arm stay_block
stay_of_arm T a = ap (pick T.part) (stays.stay_of_arm T.passing.items (costs T.events.items) (costs T.entering.items) (costs T.staying.items) a)

pub enter_of_if : (T : Tables) (m : ℕ) (arms : List KArm) (last : KBlock) → enter_stmt T m (k.If arms last) ≡ max (greatest (enter_arm T) arms) (enter_block T last)
unfolding enter_stmt enter_block enter_arm
enter_of_if T m arms last =
    ap (pick T.part) (enters.enter_of_if T.passing.items (costs T.events.items) (costs T.entering.items) m arms last) ∙
    pick_most T.part (most_of (spec.enter_arm T.passing.items (costs T.events.items) (costs T.entering.items)) arms) (spec.enter_block T.passing.items (costs T.events.items) (costs T.entering.items) last) ∙
    ap (λ k. max k (pick T.part (spec.enter_block T.passing.items (costs T.events.items) (costs T.entering.items) last))) (pick_greatest T.part (spec.enter_arm T.passing.items (costs T.events.items) (costs T.entering.items)) arms)

pub stay_of_if : (T : Tables) (m : ℕ) (arms : List KArm) (last : KBlock) → stay_stmt T m (k.If arms last) ≡ max (greatest (stay_arm T) arms) (stay_block T last)
unfolding stay_stmt stay_block stay_arm
stay_of_if T m arms last =
    ap (pick T.part) (stays.stay_of_if T.passing.items (costs T.events.items) (costs T.entering.items) (costs T.staying.items) m arms last) ∙
    pick_most T.part (most_of (spec.stay_arm T.passing.items (costs T.events.items) (costs T.entering.items) (costs T.staying.items)) arms) (spec.stay_block T.passing.items (costs T.events.items) (costs T.entering.items) (costs T.staying.items) last) ∙
    ap (λ k. max k (pick T.part (spec.stay_block T.passing.items (costs T.events.items) (costs T.entering.items) (costs T.staying.items) last))) (pick_greatest T.part (spec.stay_arm T.passing.items (costs T.events.items) (costs T.entering.items) (costs T.staying.items)) arms)

pub enter_of_loop : (T : Tables) (m : ℕ) (kind : KLoop) (b : KBlock) → enter_stmt T m (k.Loop kind b) ≡ unless_paced (paced kind b) (loop_times T.passing.items m kind b * enter_block T b)
unfolding enter_stmt enter_block
enter_of_loop T m kind b =
    ap (pick T.part) (enters.enter_of_loop T.passing.items (costs T.events.items) (costs T.entering.items) m kind b) ∙
    pick_unless T.part (paced kind b) (times (loop_times T.passing.items m kind b) (spec.enter_block T.passing.items (costs T.events.items) (costs T.entering.items) b)) ∙
    ap (unless_paced (paced kind b)) (pick_times T.part (loop_times T.passing.items m kind b) (spec.enter_block T.passing.items (costs T.events.items) (costs T.entering.items) b))

pub stay_of_loop : (T : Tables) (m : ℕ) (kind : KLoop) (b : KBlock) → stay_stmt T m (k.Loop kind b) ≡ unless_paced (paced kind b) (stay_block T b + loop_times T.passing.items m kind b * enter_block T b)
unfolding stay_stmt stay_block enter_block
stay_of_loop T m kind b =
    ap (pick T.part) (stays.stay_of_loop T.passing.items (costs T.events.items) (costs T.entering.items) (costs T.staying.items) m kind b) ∙
    pick_unless T.part (paced kind b) (plus (spec.stay_block T.passing.items (costs T.events.items) (costs T.entering.items) (costs T.staying.items) b) (times (loop_times T.passing.items m kind b) (spec.enter_block T.passing.items (costs T.events.items) (costs T.entering.items) b))) ∙
    ap (unless_paced (paced kind b)) (pick_plus T.part (spec.stay_block T.passing.items (costs T.events.items) (costs T.entering.items) (costs T.staying.items) b) (times (loop_times T.passing.items m kind b) (spec.enter_block T.passing.items (costs T.events.items) (costs T.entering.items) b)) ∙
    ap (λ k. pick T.part (spec.stay_block T.passing.items (costs T.events.items) (costs T.entering.items) (costs T.staying.items) b) + k) (pick_times T.part (loop_times T.passing.items m kind b) (spec.enter_block T.passing.items (costs T.events.items) (costs T.entering.items) b)))

branch_pick : (T : Tables) (b : KBlock) → pick T.part (spec.enter_branch T.passing.items (costs T.events.items) (costs T.entering.items) b) ≡ enter_branch T b
unfolding enter_block
branch_pick T b = pick_plus T.part (cost 1 0) (spec.enter_block T.passing.items (costs T.events.items) (costs T.entering.items) b) ∙ ap (λ k. k + pick T.part (spec.enter_block T.passing.items (costs T.events.items) (costs T.entering.items) b)) (pick_turn T.part)

-- one turn less
less_one : (w : Part) (a : Cost) → pick w (without_one a) ≡ pick w a - turn w
less_one part.Turns a = refl
less_one part.Levels a = omega arith

first_in_turn : (T : Tables) (bs : List KBlock) → total (enter_branch T) bs - turn T.part ≡ enter_branches T bs
first_in_turn T [] = omega arith
first_in_turn T (b ∷ bs) = omega arith

pub enter_of_par : (T : Tables) (m : ℕ) (kind : _) (slot : ℕ) (bs : List KBlock) → enter_stmt T m (k.Par kind slot bs) ≡ enter_branches T bs
unfolding enter_stmt
enter_of_par T m kind slot bs =
    ap (pick T.part) (enters.enter_of_par T.passing.items (costs T.events.items) (costs T.entering.items) m kind slot bs) ∙
    less_one T.part (sum_of (spec.enter_branch T.passing.items (costs T.events.items) (costs T.entering.items)) bs) ∙
    ap (λ k. k - turn T.part) (pick_sum T.part (spec.enter_branch T.passing.items (costs T.events.items) (costs T.entering.items)) bs ∙ total_ext (λ b. pick T.part (spec.enter_branch T.passing.items (costs T.events.items) (costs T.entering.items) b)) (enter_branch T) (branch_pick T) bs) ∙
    first_in_turn T bs

pub stay_of_par : (T : Tables) (m : ℕ) (kind : _) (slot : ℕ) (bs : List KBlock) → stay_stmt T m (k.Par kind slot bs) ≡ total (stay_block T) bs
unfolding stay_stmt stay_block
stay_of_par T m kind slot bs = ap (pick T.part) (stays.stay_of_par T.passing.items (costs T.events.items) (costs T.entering.items) (costs T.staying.items) m kind slot bs) ∙ pick_sum T.part (spec.stay_block T.passing.items (costs T.events.items) (costs T.entering.items) (costs T.staying.items)) bs

pub enter_of_block : (T : Tables) (b : KBlock) → enter_block T b ≡ enter_list T (out-KBlock b).list
unfolding enter_block enter_list
enter_of_block T b = ap (pick T.part) (enters.enter_of_block T.passing.items (costs T.events.items) (costs T.entering.items) b)

one_pool : (T : Tables) (kd : KKind) (rest : Cost) → pick T.part (elim kd as (λ _. Cost) [ kind.Var t ↦ rest | kind.Alias c ↦ rest | kind.Pool n c ↦ plus (times n (cost_at c (costs T.staying.items))) rest ]) ≡ pool_stay T kd + pick T.part rest
one_pool T (kind.Var t) rest = omega arith
one_pool T (kind.Alias c) rest = omega arith
one_pool T (kind.Pool n c) rest =
    pick_plus T.part (times n (cost_at c (costs T.staying.items))) rest ∙
    ap (λ k. k + pick T.part rest) (pick_times T.part n (cost_at c (costs T.staying.items)) ∙ ap (λ k. n * k) (pick_at T.part c T.staying.items))

pools_pick : (T : Tables) (ds : List KDecl) → pick T.part (spec.pools_stay T.passing.items (costs T.events.items) (costs T.entering.items) (costs T.staying.items) ds) ≡ total (decl_stay T) ds
pools_pick T [] = pick_none T.part
pools_pick T (d ∷ ds) = one_pool T d.kind (spec.pools_stay T.passing.items (costs T.events.items) (costs T.entering.items) (costs T.staying.items) ds) ∙ ap (λ k. decl_stay T d + k) (pools_pick T ds)

pub stay_of_block : (T : Tables) (b : KBlock) → stay_block T b ≡ total (decl_stay T) (out-KBlock b).decls + stay_list T (out-KBlock b).list
unfolding stay_block stay_list
stay_of_block T b =
    ap (pick T.part) (stays.stay_of_block T.passing.items (costs T.events.items) (costs T.entering.items) (costs T.staying.items) b) ∙
    pick_plus T.part (spec.pools_stay T.passing.items (costs T.events.items) (costs T.entering.items) (costs T.staying.items) (out-KBlock b).decls) (spec.stay_list T.passing.items (costs T.events.items) (costs T.entering.items) (costs T.staying.items) (out-KBlock b).list) ∙
    ap (λ k. k + pick T.part (spec.stay_list T.passing.items (costs T.events.items) (costs T.entering.items) (costs T.staying.items) (out-KBlock b).list)) (pools_pick T (out-KBlock b).decls)

-- lists, from the last statement back
pub enter_none : (T : Tables) → enter_list T [] ≡ 0
unfolding enter_list
enter_none T = pick_none T.part

pub stay_none : (T : Tables) → stay_list T [] ≡ 0
unfolding stay_list
stay_none T = pick_none T.part

pub enter_more : (T : Tables) (s : KNode) (ss : List KNode) → enter_list T (s ∷ ss) ≡ (if has_end (quick_node T.passing.items s) then enter_stmt T s.node s.stmt + enter_list T ss else enter_stmt T s.node s.stmt)
unfolding enter_list enter_stmt
enter_more T s ss =
    pick_if T.part (has_end (quick_node T.passing.items s)) (plus (spec.enter_node T.passing.items (costs T.events.items) (costs T.entering.items) s) (spec.enter_list T.passing.items (costs T.events.items) (costs T.entering.items) ss)) (spec.enter_node T.passing.items (costs T.events.items) (costs T.entering.items) s) ∙
    ap (λ k. if has_end (quick_node T.passing.items s) then k else pick T.part (spec.enter_node T.passing.items (costs T.events.items) (costs T.entering.items) s)) (pick_plus T.part (spec.enter_node T.passing.items (costs T.events.items) (costs T.entering.items) s) (spec.enter_list T.passing.items (costs T.events.items) (costs T.entering.items) ss))

pub stay_more : (T : Tables) (s : KNode) (ss : List KNode) → stay_list T (s ∷ ss) ≡ (if node_waits s then max (stay_stmt T s.node s.stmt + enter_list T ss) (stay_list T ss) else stay_list T ss)
unfolding stay_list stay_stmt enter_list
stay_more T s ss =
    pick_if T.part (node_waits s) (most (plus (spec.stay_node T.passing.items (costs T.events.items) (costs T.entering.items) (costs T.staying.items) s) (spec.enter_list T.passing.items (costs T.events.items) (costs T.entering.items) ss)) (spec.stay_list T.passing.items (costs T.events.items) (costs T.entering.items) (costs T.staying.items) ss)) (spec.stay_list T.passing.items (costs T.events.items) (costs T.entering.items) (costs T.staying.items) ss) ∙
    ap (λ k. if node_waits s then k else pick T.part (spec.stay_list T.passing.items (costs T.events.items) (costs T.entering.items) (costs T.staying.items) ss))
    (pick_most T.part (plus (spec.stay_node T.passing.items (costs T.events.items) (costs T.entering.items) (costs T.staying.items) s) (spec.enter_list T.passing.items (costs T.events.items) (costs T.entering.items) ss)) (spec.stay_list T.passing.items (costs T.events.items) (costs T.entering.items) (costs T.staying.items) ss) ∙
    ap (λ k. max k (pick T.part (spec.stay_list T.passing.items (costs T.events.items) (costs T.entering.items) (costs T.staying.items) ss))) (pick_plus T.part (spec.stay_node T.passing.items (costs T.events.items) (costs T.entering.items) (costs T.staying.items) s) (spec.enter_list T.passing.items (costs T.events.items) (costs T.entering.items) ss)))

pub ruleset entered = (enter_of_nothing, enter_of_assign, enter_of_out, enter_of_emit, enter_of_await_in, enter_of_await_time, enter_of_await_event, enter_of_forever, enter_of_await_code, enter_of_spawn, enter_of_kill, enter_of_unset, enter_of_async, enter_of_finalize, enter_of_escape, enter_of_break, enter_of_continue, enter_of_do, enter_of_arm, enter_of_if, enter_of_loop, enter_of_par, enter_of_block)

pub ruleset stayed = (stay_of_nothing, stay_of_assign, stay_of_out, stay_of_emit, stay_of_await_in, stay_of_await_time, stay_of_await_event, stay_of_forever, stay_of_await_code, stay_of_spawn, stay_of_kill, stay_of_unset, stay_of_async, stay_of_finalize, stay_of_escape, stay_of_break, stay_of_continue, stay_of_do, stay_of_arm, stay_of_if, stay_of_loop, stay_of_par, stay_of_block)
