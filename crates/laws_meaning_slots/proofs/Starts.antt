-- A statement that starts evaluates each of its expressions to a value of the type that its place wants.
use Rattle.std.proofs.Common.{◌≡◌, refl, sym, ap, subst, ℕ, suc, Bool, true, false, not, if◌then◌else◌, ◌&&◌, List, [], ◌∷◌, Option, Some, None, Ok, Err}
use Rattle.std.proofs.lemmas.Bool.{and_parts, false≢true}
use Rattle.ceu_base.specs.declared.kinds.Ty.{Ty}
use Rattle.ceu_base.specs.declared.kinds.Ty.TheVariants as ty
use Rattle.ceu_tree.specs.declared.kernel.Kernel.{Kernel}
use Rattle.ceu_tree.specs.declared.kernel.KCode.{KCode}
use Rattle.ceu_tree.specs.declared.kernel.KEvent.{KEvent}
use Rattle.ceu_tree.specs.declared.kernel.KDecl.{KDecl}
use Rattle.ceu_tree.specs.declared.kernel.KKind.{KKind}
use Rattle.ceu_tree.specs.declared.kernel.KKind.TheVariants as kind
use Rattle.ceu_tree.specs.declared.kernel.KLoop.{KLoop}
use Rattle.ceu_tree.specs.declared.kernel.KLoop.TheVariants as turns
use Rattle.ceu_tree.specs.declared.kernel.KExp.{KExp}
use Rattle.ceu_tree.specs.declared.kernel.KNode.{KNode}
use Rattle.ceu_tree.specs.declared.kernel.KArm.{KArm, KArm', out-KArm}
use Rattle.ceu_tree.specs.declared.kernel.KStmt.{KStmt, out-KStmt, Row_of-KArm, end_of-KArm, more_of-KArm, items-the_row-KArm, items_shown-the_row-KArm-0, Assign, Out, Emit, AwaitTime, AwaitCode, Spawn, If', Loop}
use Rattle.ceu_tree.specs.Residual.{Body, Program, Act, Start}
use Rattle.ceu_tree.specs.Focus.{Focus, leaf, body_of}
use Rattle.ceu_tree.specs.World.{World}
use Rattle.ceu_tree.specs.Expressions.{Answer, value_of}
use Rattle.ceu_tree.specs.Leaf.{code_at}
use Rattle.ceu_tree.specs.Typing.{same_ty, is_amount, typed}
use Rattle.ceu_tree.specs.Proper.{Scope, find, is_trail, outside_asyncs, outside_finalizers, reads, asks, takes, takes_if, gives, gives_if, gives_all, port_ty, event_at, event_seen, on_ty, on_code, is_code, is_pool_of, alias_takes, time_ok, loop_ok, with_aim, with_turns, LoopAim, stmt_ok, block_ok, arm_ok, arms_ok, is_proper}
use Rattle.laws_meaning_basics.specs.Shape.{Part, program_part, ActFits, starts, TurnFits}
use Rattle.laws_meaning_basics.proofs.Static.{names_of}
use Rattle.laws_meaning_basics.proofs.UpFits.{Sound}
use Rattle.laws_meaning_basics.proofs.StepFits.{around_sound}
use Rattle.laws_meaning_basics.proofs.RunFits.{root_sound}
use Rattle.laws_meaning_values.specs.Results.{IsResult}
use Rattle.laws_meaning_values.proofs.Results.{results_are_values}
use Rattle.laws_meaning_slots.specs.Typed.{gives_if_any, arguments_typed, conditions_typed, ends_typed, start_typed}
use Rattle.laws_meaning_slots.proofs.Known.{KnownSeen, Known, program_known, around_known}
use Rattle.laws_meaning_slots.proofs.Typing.{AllTyped, node_reads, given_value}
use denote.Hole.Carrier

some_same : {A : Type 0} (a b : A) → Some a ≡ Some b → a ≡ b
some_same a b e = ap (λ o. elim o [ None ↦ a | Some x ↦ x ]) e

module _ (K : Kernel) (proper : is_proper K ≡ true) (sc : Scope) (known : KnownSeen K proper sc.seen) (body : Body) (w : World) (l : AllTyped K proper w) where
  -- what it gives to a target of that type, where it gives a value
  given_result : (t : Ty) (e : KExp) → gives K sc t e ≡ true → IsResult t (value_of e body w)
  given_result t e h = go (value_of e body w) refl
    where
      go : (a : Answer) → value_of e body w ≡ a → IsResult t a
      go (Ok v) q = given_value K proper sc known body w l t e v h q
      go (Err z) q = tt

  if_result : (t : Ty) (o : Option KExp) → gives_if K sc t o ≡ true → gives_if_any K body w t o
  if_result t None h = tt
  if_result t (Some e) h = given_result t e (and_parts (not (same_ty t ty.None)) (gives K sc t e) h).1

  on_result : (o : Option Ty) (t : Ty) (e : Option KExp) → o ≡ Some t → on_ty K o (λ u. gives_if K sc u e) ≡ true → gives_if_any K body w t e
  on_result None t e q h = absurd (cc)
  on_result (Some u) t e q h = subst (λ x. gives_if_any K body w x e) (some_same u t q) (if_result u e h)

  event_is : (x : KEvent) (t : Ty) → event_seen K sc (Some x) ≡ Some t → x.ty ≡ t
  event_is x t h = go x.code h
    where
      inner : (b : Bool) → (if b then Some x.ty else None) ≡ Some t → x.ty ≡ t
      inner true q = some_same x.ty t q
      inner false q = absurd (cc)

      go : (o : Option ℕ) → (elim o [ None ↦ Some x.ty | Some c ↦ (if is_code c sc.code then Some x.ty else None) ]) ≡ Some t → x.ty ≡ t
      go None q = some_same x.ty t q
      go (Some c) q = inner (is_code c sc.code) q

  emit_result : (k : ℕ) (e : Option KExp) → on_ty K (event_seen K sc (event_at K k K.events)) (λ t. gives_if K sc t e) ≡ true → (x : KEvent)
      → event_at K k K.events ≡ Some x → gives_if_any K body w x.ty e
  emit_result k e h x q = go (event_seen K sc (Some x)) refl (subst (λ o. on_ty K (event_seen K sc o) (λ t. gives_if K sc t e) ≡ true) q h)
    where
      go : (o : Option Ty) → event_seen K sc (Some x) ≡ o → on_ty K o (λ t. gives_if K sc t e) ≡ true → gives_if_any K body w x.ty e
      go None z y = absurd (false≢true y)
      go (Some t) z y = subst (λ u. gives_if_any K body w u e) (sym (event_is x t z)) (if_result t e y)

  arguments : (ds : List KDecl) (es : List KExp) → gives_all K sc ds es ≡ true → arguments_typed K body w ds es
  arguments [] es h = tt
  arguments (d ∷ ds) [] h = tt
  arguments (d ∷ ds) (e ∷ es) h = (λ t q. given_result t e (go d.kind t q (and_parts _ (gives_all K sc ds es) h).0), arguments ds es (and_parts _ (gives_all K sc ds es) h).1)
    where
      go : (k : KKind) (t : Ty) → k ≡ kind.Var t → (elim k [ kind.Var u ↦ gives K sc u e | _ ↦ false ]) ≡ true → gives K sc t e ≡ true
      go k t q z = subst (λ j. (elim j [ kind.Var u ↦ gives K sc u e | _ ↦ false ]) ≡ true) q z

  code_arguments : (c : ℕ) (es : List KExp) (f : KCode → Bool) → ((k : KCode) → f k ≡ true → gives_all K sc k.params es ≡ true) → on_code K sc c f ≡ true
      → (k : KCode) → code_at c K.codes ≡ Some k → arguments_typed K body w k.params es
  code_arguments c es f g h k q = arguments k.params es (g k (subst (λ o. (elim o [ None ↦ false | Some j ↦ f j ]) ≡ true) q (and_parts _ _ h).1))

  arm_condition : (a : KArm) → arm_ok K (names_of K) sc a ≡ true → IsResult ty.Bool (value_of (out-KArm a).cond body w)
  unfolding arm_ok out-KArm Carrier.out
  arm_condition (KArm' c b) h = given_result ty.Bool c (and_parts (gives K sc ty.Bool c) (block_ok K (names_of K) sc b) h).0

  conditions : {n : _} (rows : Row_of-KArm n) → arms_ok K (names_of K) sc rows ≡ true → conditions_typed K body w (items-the_row-KArm n rows)
  unfolding arms_ok
  conditions end_of-KArm h = tt
  conditions (more_of-KArm a rest) h = let z = and_parts (arm_ok K (names_of K) sc a) (arms_ok K (names_of K) sc rest) h in (arm_condition a z.0, conditions rest z.1)

  stmt_starts : (n : ℕ) (st : KStmt) → stmt_ok K (names_of K) sc n st ≡ true → start_typed K body w (out-KStmt st)
  unfolding stmt_ok out-KStmt Carrier.out
  stmt_starts n (Assign x e) h = given_result x.ty e (and_parts (takes K sc x.ty x) (gives K sc x.ty e) h).1
  stmt_starts n (Out k e) h = λ t q. on_result (port_ty K k K.outputs) t e q (and_parts (outside_asyncs sc.place) _ h).1
  stmt_starts n (Emit k e) h = emit_result k e (and_parts (is_trail sc.place) _ h).1
  stmt_starts n (AwaitTime e u t) h =
      let a = (and_parts (is_trail sc.place) (time_ok K sc e u) (and_parts _ (takes_if K sc ty.S32 t) h).0).1 in
      let b = (and_parts (typed (reads K sc) (asks K sc) e) (is_amount e.ty) (and_parts _ _ a).0).0 in
      results_are_values (reads K sc) (asks K sc) body w e b (node_reads K proper sc known body w l e.node e.ty b)
  stmt_starts n (AwaitCode c es f t) h =
      code_arguments c es (λ k. gives_all K sc k.params es && takes_if K sc k.result t) (λ k z. (and_parts (gives_all K sc k.params es) (takes_if K sc k.result t) z).0) (and_parts (is_trail sc.place) _ h).1
  stmt_starts n (Spawn c es p a) h =
      code_arguments c es (λ k. gives_all K sc k.params es) (λ k z. z) (and_parts (is_trail sc.place) _ (and_parts _ (is_pool_of c (find p sc.seen)) (and_parts _ (elim a [ None ↦ true | Some x ↦ alias_takes c p (find x sc.seen) ]) h).0).0).1
  stmt_starts n (If' x arms last) h =
      subst (conditions_typed K body w) (sym (items_shown-the_row-KArm-0 x arms)) (conditions arms (and_parts (outside_finalizers sc.place) (arms_ok K (names_of K) sc arms) (and_parts _ (block_ok K (names_of K) sc last) h).0).1)
  stmt_starts n (Loop k b) h = loop k (and_parts (outside_finalizers sc.place) (loop_ok K sc k) (and_parts _ (block_ok K (names_of K) (with_aim (LoopAim n) (with_turns K k sc)) b) h).0).1
    where
      loop : (k : KLoop) → loop_ok K sc k ≡ true → ends_typed K body w k
      loop (turns.Range i next end open_a a b open_b) z = let y = and_parts (gives K sc ty.S32 a) (gives K sc ty.S32 b) z in (given_result ty.S32 a y.0, given_result ty.S32 b y.1)
      loop turns.Free z = tt
      loop (turns.Times slot m) z = tt
  stmt_starts n st h = tt

module _ (K : Kernel) (proper : is_proper K ≡ true) where
  pub at_start : (d : Part) (s : KNode) (body : Body) (w : World) → ActFits d (Start s) → Sound K proper d → Known K proper d → AllTyped K proper w
      → start_typed K body w (out-KStmt s.stmt)
  at_start d s body w (starts {sc = sc}) h i x = stmt_starts K proper sc i.1 body w x s.node s.stmt h

  pub turn_starts : (n : ℕ) (f : Focus Act) (w : World) (s : KNode) → TurnFits K (suc n) (program_part K) f → leaf f ≡ Start s → AllTyped K proper w
      → start_typed K (body_of f Program) w (out-KStmt s.stmt)
  turn_starts n f w s t q x =
      at_start t.part s (body_of f Program) w (subst (ActFits t.part) q t.acts) (around_sound K proper t.around (root_sound K proper)) (around_known K proper t.around (program_known K proper)) x
