-- In a proper kernel an event of a code is named in that code alone, so no loop of another body is paced by it.
use Rattle.std.proofs.Common.{◌≡◌, refl, sym, ap, ◌∙◌, subst, ℕ, zero, suc, Bool, true, false, if◌then◌else◌, ◌==◌, ◌&&◌, List, [], ◌∷◌, Option, Some, None, eqb-true}
use Rattle.std.proofs.lemmas.Bool.{and_parts, false≢true}
use Rattle.ceu_base.specs.declared.kinds.Ty.{Ty}
use Rattle.ceu_tree.specs.declared.kernel.Kernel.{Kernel}
use Rattle.ceu_tree.specs.declared.kernel.KCode.{KCode}
use Rattle.ceu_tree.specs.declared.kernel.KEvent.{KEvent}
use Rattle.ceu_tree.specs.declared.kernel.KLoop.{KLoop}
use Rattle.ceu_tree.specs.declared.kernel.KArm.{KArm, KArm'}
use Rattle.ceu_tree.specs.declared.kernel.KNode.{KNode}
use Rattle.ceu_tree.specs.declared.kernel.KBlock.{KBlock, KBlock', Row_of-KNode, end_of-KNode, more_of-KNode}
use Rattle.ceu_tree.specs.declared.kernel.KStmt.{KStmt, out-KStmt, Row_of-KArm, end_of-KArm, more_of-KArm, Row_of-KBlock, end_of-KBlock, more_of-KBlock, Emit, AwaitEvent, Do, If', Loop, Par'}
use Rattle.ceu_tree.specs.declared.kernel.KStmt.TheOpen.{KStmt-F}
use Rattle.ceu_tree.specs.Costs.{Cost, nothing, plus, is_event, no_bound, calm_nodes, awaited_event, paced_list, paced_body, paced, woken, woken_block, woken_arm, woken_nodes, woken_arms, woken_blocks, loop_woken, body_cost}
use Rattle.ceu_tree.specs.Leaf.{Layer, code_at}
use Rattle.ceu_tree.specs.Step.{event_code}
use Rattle.ceu_tree.specs.Proper.{Scope, LoopAim, with_decls, with_aim, with_turns, do_aim, is_trail, is_code, event_at, event_seen, on_ty, gives_if, takes_if, stmt_ok, block_ok, arm_ok, nodes_ok, arms_ok, blocks_ok, is_proper}
use Rattle.laws_meaning_basics.specs.Shape.{code_scope}
use Rattle.laws_meaning_basics.proofs.Static.{names_of, code_static}
use Rattle.laws_bounds_reach.proofs.Used.{turn_code}
use denote.Hole.Carrier

first_holds : (x y : Bool) → (x && y) ≡ true → x ≡ true
first_holds x y h = (and_parts x y h).0

last_holds : (x y : Bool) → (x && y) ≡ true → y ≡ true
last_holds x y h = (and_parts x y h).1

code_is : (c : ℕ) (o : Option ℕ) → is_code c o ≡ true → o ≡ Some c
code_is c None h = absurd (false≢true h)
code_is c (Some k) h = ap Some (eqb-true k c h)

module _ (K : Kernel) (names : List (List ℕ)) (e c : ℕ) (own : event_code e K.events ≡ Some c) where
  event_is : (k : ℕ) (xs : List KEvent) → event_code k xs ≡ Some c → (x : KEvent) × (event_at K k xs ≡ Some x) × (x.code ≡ Some c)
  event_is k [] h = absurd (cc)
  event_is zero (x ∷ xs) h = (x, refl, h)
  event_is (suc k) (x ∷ xs) h = event_is k xs h

  -- where it is named
  named_in : (sc : Scope) (f : Ty → Bool) → on_ty K (event_seen K sc (event_at K e K.events)) f ≡ true → sc.code ≡ Some c
  named_in sc f h =
      let z = event_is e K.events own in
      let a = subst (λ o. on_ty K (event_seen K sc o) f ≡ true) z.1 h in
      go z.0 z.0.code z.2 a
    where
      inner : (t : Ty) (b : Bool) → is_code c sc.code ≡ b → on_ty K (if b then Some t else None) f ≡ true → sc.code ≡ Some c
      inner t true q h = code_is c sc.code q
      inner t false q h = absurd (false≢true h)

      go : (x : KEvent) (o : Option ℕ) → o ≡ Some c → on_ty K (elim o as (λ _. Option Ty) [ None ↦ Some x.ty | Some d ↦ (if is_code d sc.code then Some x.ty else None) ]) f ≡ true → sc.code ≡ Some c
      go x o q h = inner x.ty (is_code c sc.code) refl (subst (λ o. on_ty K (elim o as (λ _. Option Ty) [ None ↦ Some x.ty | Some d ↦ (if is_code d sc.code then Some x.ty else None) ]) f ≡ true) q h)

  -- an emission of it
  emitted_in : (sc : Scope) (n : ℕ) (st : KStmt) (x : _) → out-KStmt st ≡ KStmt-F.Emit e x → stmt_ok K names sc n st ≡ true → sc.code ≡ Some c
  unfolding stmt_ok out-KStmt Carrier.out
  emitted_in sc n (Emit k y) x q h =
      let m : k ≡ e = ap (λ (l : Layer). elim l as (λ _. ℕ) [ KStmt-F.Emit j z ↦ j | _ ↦ k ]) q in
      named_in sc (λ t. gives_if K sc t y) (subst (λ j. on_ty K (event_seen K sc (event_at K j K.events)) (λ t. gives_if K sc t y) ≡ true) m (last_holds (is_trail sc.place) _ h))
  emitted_in sc n st x q h = absurd (cc)

  -- ---- loops of other bodies

  abbrev Elsewhere : Scope → Type 0
  Elsewhere sc = sc.code ≡ Some c → ⊥

  await_apart : (sc : Scope) (n : ℕ) (st : KStmt) → Elsewhere sc → stmt_ok K names sc n st ≡ true → is_event e (awaited_event st) ≡ false
  unfolding stmt_ok
  await_apart sc n (AwaitEvent k t) o h = go (e == k) refl
    where
      go : (b : Bool) → (e == k) ≡ b → b ≡ false
      go true q = absurd (o (named_in sc (λ u. takes_if K sc u t) (subst (λ j. on_ty K (event_seen K sc (event_at K j K.events)) (λ u. takes_if K sc u t) ≡ true) (sym (eqb-true e k q)) (last_holds (is_trail sc.place) _ h))))
      go false q = refl
  await_apart sc n st o h = refl

  list_apart : {n : _} (sc : Scope) (rows : Row_of-KNode n) → Elsewhere sc → nodes_ok K names sc rows ≡ true → is_event e (paced_list rows) ≡ false
  unfolding stmt_ok
  list_apart sc end_of-KNode o h = refl
  list_apart sc (more_of-KNode n p s rest) o h = go (calm_nodes rest) (await_apart sc n s o (last_holds _ (stmt_ok K names sc n s) (first_holds _ (nodes_ok K names sc rest) h)))
    where
      go : (b : Bool) → is_event e (awaited_event s) ≡ false → is_event e (if b then awaited_event s else None) ≡ false
      go true q = q
      go false q = refl

  body_apart : (sc : Scope) (b : KBlock) → Elsewhere sc → block_ok K names sc b ≡ true → is_event e (paced_body b) ≡ false
  unfolding stmt_ok
  body_apart sc (KBlock' n ds x list) o h = list_apart (with_decls ds sc) list o (last_holds _ (nodes_ok K names (with_decls ds sc) list) h)

  loop_apart : (sc : Scope) (k : KLoop) (b : KBlock) → Elsewhere sc → block_ok K names sc b ≡ true → is_event e (paced k b) ≡ false
  loop_apart sc k b o h = go (no_bound k) (body_apart sc b o h)
    where
      go : (t : Bool) → is_event e (paced_body b) ≡ false → is_event e (if t then paced_body b else None) ≡ false
      go true q = q
      go false q = refl

  module _ (P : List Bool) (E N : List Cost) where
    both_nothing : (a b : Cost) → a ≡ nothing → b ≡ nothing → plus a b ≡ nothing
    both_nothing a b x y = ap (λ a. plus a b) x ∙ ap (plus nothing) y

    mutual
      unfolding stmt_ok woken

      stmt_quiet : (sc : Scope) (n : ℕ) (st : KStmt) → Elsewhere sc → stmt_ok K names sc n st ≡ true → woken P E N e st ≡ nothing
      stmt_quiet sc n (Do t b) o h = block_quiet (with_aim (do_aim K n t) sc) b o (last_holds _ (block_ok K names (with_aim (do_aim K n t) sc) b) h)
      stmt_quiet sc n (If' x arms last) o h =
          both_nothing _ _ (arms_quiet sc arms o (last_holds _ (arms_ok K names sc arms) (first_holds _ (block_ok K names sc last) h))) (block_quiet sc last o (last_holds _ (block_ok K names sc last) h))
      stmt_quiet sc n (Loop k b) o h =
          let inner : Elsewhere (with_aim (LoopAim n) (with_turns K k sc)) = λ q. o (sym (turn_code K k sc) ∙ q) in
          let fine = last_holds _ (block_ok K names (with_aim (LoopAim n) (with_turns K k sc)) b) h in
          both_nothing (loop_woken P E N e k b) _ (ap (λ t. if t then plus (record { turns = 1; opens = 0 }) (body_cost P E N b) else nothing) (loop_apart (with_aim (LoopAim n) (with_turns K k sc)) k b inner fine)) (block_quiet (with_aim (LoopAim n) (with_turns K k sc)) b inner fine)
      stmt_quiet sc n (Par' k slot x bs) o h = blocks_quiet sc bs o (last_holds _ (blocks_ok K names sc bs) h)
      stmt_quiet sc n st o h = refl

      block_quiet : (sc : Scope) (b : KBlock) → Elsewhere sc → block_ok K names sc b ≡ true → woken_block P E N e b ≡ nothing
      block_quiet sc (KBlock' n ds x list) o h = nodes_quiet (with_decls ds sc) list o (last_holds _ (nodes_ok K names (with_decls ds sc) list) h)

      arm_quiet : (sc : Scope) (a : KArm) → Elsewhere sc → arm_ok K names sc a ≡ true → woken_arm P E N e a ≡ nothing
      arm_quiet sc (KArm' c b) o h = block_quiet sc b o (last_holds _ (block_ok K names sc b) h)

      nodes_quiet : {n : _} (sc : Scope) (rows : Row_of-KNode n) → Elsewhere sc → nodes_ok K names sc rows ≡ true → woken_nodes P E N e rows ≡ nothing
      nodes_quiet sc end_of-KNode o h = refl
      nodes_quiet sc (more_of-KNode n p s rest) o h =
          both_nothing _ _ (stmt_quiet sc n s o (last_holds _ (stmt_ok K names sc n s) (first_holds _ (nodes_ok K names sc rest) h))) (nodes_quiet sc rest o (last_holds _ (nodes_ok K names sc rest) h))

      arms_quiet : {n : _} (sc : Scope) (rows : Row_of-KArm n) → Elsewhere sc → arms_ok K names sc rows ≡ true → woken_arms P E N e rows ≡ nothing
      arms_quiet sc end_of-KArm o h = refl
      arms_quiet sc (more_of-KArm a rest) o h = both_nothing _ _ (arm_quiet sc a o (first_holds (arm_ok K names sc a) (arms_ok K names sc rest) h)) (arms_quiet sc rest o (last_holds (arm_ok K names sc a) (arms_ok K names sc rest) h))

      blocks_quiet : {n : _} (sc : Scope) (rows : Row_of-KBlock n) → Elsewhere sc → blocks_ok K names sc rows ≡ true → woken_blocks P E N e rows ≡ nothing
      blocks_quiet sc end_of-KBlock o h = refl
      blocks_quiet sc (more_of-KBlock b rest) o h = both_nothing _ _ (block_quiet sc b o (first_holds (block_ok K names sc b) (blocks_ok K names sc rest) h)) (blocks_quiet sc rest o (last_holds (block_ok K names sc b) (blocks_ok K names sc rest) h))

-- the body that an emission of a code's event stands in
pub emits_in : (K : Kernel) (e c : ℕ) (sc : Scope) (s : KNode) (x : _) → event_code e K.events ≡ Some c → out-KStmt s.stmt ≡ KStmt-F.Emit e x → stmt_ok K (names_of K) sc s.node s.stmt ≡ true → sc.code ≡ Some c
emits_in K e c sc s x own q h = emitted_in K (names_of K) e c own sc s.node s.stmt x q h

pub code_quiet : (K : Kernel) (P : List Bool) (E N : List Cost) (e c j : ℕ) (x : KCode) → is_proper K ≡ true → event_code e K.events ≡ Some c → code_at j K.codes ≡ Some x → (j ≡ c → ⊥) → woken_block P E N e x.body ≡ nothing
code_quiet K P E N e c j x p own at o = block_quiet K (names_of K) e c own P E N (code_scope K j x) x.body (λ q. o (let z : j ≡ c = cc in z)) (code_static K j x p at)
