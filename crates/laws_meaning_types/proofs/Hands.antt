-- What is handed to a statement is a value that its target takes: of an input, an event or awaited code, a delay, and what an exit gives.
use Rattle.std.proofs.Common.{◌≡◌, refl, sym, ◌∙◌, subst, ℕ, ℤ, pos, Bool, true, false, if◌then◌else◌, ◌==◌, ◌&&◌, not, ◌⊎◌, inl, inr, List, [], ◌∷◌, Option, Some, None, Ok, eqb-true, eq-eqb}
use Rattle.std.proofs.lemmas.Bool.{and_parts, false≢true}
use Rattle.ceu_base.specs.declared.kinds.Ty.{Ty}
use Rattle.ceu_base.specs.declared.kinds.Ty.TheVariants as ty
use Rattle.ceu_base.specs.Values.{is_value, IsValue}
use Rattle.ceu_tree.specs.declared.kernel.Kernel.{Kernel}
use Rattle.ceu_tree.specs.declared.kernel.KCode.{KCode}
use Rattle.ceu_tree.specs.declared.kernel.KEvent.{KEvent}
use Rattle.ceu_tree.specs.declared.kernel.KLoop.{KLoop}
use Rattle.ceu_tree.specs.declared.kernel.KLoop.TheVariants as turns
use Rattle.ceu_tree.specs.declared.kernel.Loc.{Loc}
use Rattle.ceu_tree.specs.declared.kernel.KExp.{KExp}
use Rattle.ceu_tree.specs.declared.kernel.KNode.{KNode}
use Rattle.ceu_tree.specs.declared.kernel.KBlock.{KBlock, out-KBlock}
use Rattle.ceu_tree.specs.declared.kernel.KStmt.{KStmt, AwaitIn, AwaitTime, AwaitEvent, AwaitCode, Escape, out-KStmt}
use Rattle.ceu_tree.specs.declared.kernel.KStmt.TheOpen.{KStmt-F}
use Rattle.ceu_tree.specs.Residual.{Body}
use Rattle.ceu_tree.specs.World.{World}
use Rattle.ceu_tree.specs.Expressions.{value_if}
use Rattle.ceu_tree.specs.Typing.{same_ty, holds_all}
use Rattle.ceu_tree.specs.Leaf.{Layer, target_of, code_at}
use Rattle.ceu_tree.specs.Proper.{Scope, Aim, DoAim, BodyAim, LoopAim, is_trail, outside_finalizers, is_code, takes_if, gives, gives_if, gives_all, port_ty, event_at, event_seen, on_ty, on_code, escape_ok, time_ok, stmt_ok, is_proper}
use Rattle.laws_meaning_basics.specs.Shape.{part_scope, turn_scope, code_scope, opens_part, aimed}
use Rattle.laws_meaning_basics.proofs.Static.{StmtOk, names_of}
use Rattle.laws_meaning_values.proofs.Operators.{held_value}
use Rattle.laws_meaning_slots.proofs.Known.{KnownSeen}
use Rattle.laws_meaning_slots.proofs.Typing.{AllTyped, zero_value, given_value}
use Rattle.laws_meaning_types.specs.Ready.{takes_value}
use Rattle.laws_meaning_types.proofs.Values.{ok_is, takes_zero}
use denote.Hole.Carrier

last_holds : (x y : Bool) → (x && y) ≡ true → y ≡ true
last_holds x y h = (and_parts x y h).1

abbrev pub takes_from : Option Loc → Ty → Type 0
takes_from o t = (v : ℤ) → IsValue t v → takes_value o v

module _ (K : Kernel) where
  -- what the statement's target takes
  abbrev pub hands : Layer → Type 0
  hands (KStmt-F.AwaitIn k t) = (u : Ty) × (port_ty K k K.inputs ≡ Some u) × takes_from t u
  hands (KStmt-F.AwaitTime e u t) = takes_from t ty.S32
  hands (KStmt-F.AwaitEvent e t) = (x : KEvent) × (event_at K e K.events ≡ Some x) × takes_from t x.ty
  hands (KStmt-F.AwaitCode c es f t) = (k : KCode) → code_at c K.codes ≡ Some k → takes_from t k.result
  hands layer = Unit {0}

  module _ (sc : Scope) where
    if_hands : (u : Ty) (t : Option Loc) → takes_if K sc u t ≡ true → takes_from t u
    if_hands u None h v x = tt
    if_hands u (Some l) h v x = held_value l.ty u v (last_holds _ (holds_all l.ty u) h) x

    port_hands : (o : Option Ty) (t : Option Loc) → on_ty K o (λ u. takes_if K sc u t) ≡ true → (u : Ty) × (o ≡ Some u) × takes_from t u
    port_hands None t h = absurd (false≢true h)
    port_hands (Some a) t h = (a, refl, if_hands a t h)

    event_hands : (x : KEvent) (t : Option Loc) → on_ty K (event_seen K sc (Some x)) (λ u. takes_if K sc u t) ≡ true → takes_from t x.ty
    event_hands x t h = go x.code h
      where
        inner : (b : Bool) → on_ty K (if b then Some x.ty else None) (λ u. takes_if K sc u t) ≡ true → takes_from t x.ty
        inner true q = if_hands x.ty t q
        inner false q = absurd (false≢true q)

        go : (o : Option ℕ)
            → on_ty K (elim o [ None ↦ Some x.ty | Some c ↦ (if is_code c sc.code then Some x.ty else None) ]) (λ u. takes_if K sc u t) ≡ true
            → takes_from t x.ty
        go None q = if_hands x.ty t q
        go (Some c) q = inner (is_code c sc.code) q

    on_event : (o : Option KEvent) (t : Option Loc) → on_ty K (event_seen K sc o) (λ u. takes_if K sc u t) ≡ true
        → (x : KEvent) × (o ≡ Some x) × takes_from t x.ty
    on_event None t h = absurd (false≢true h)
    on_event (Some x) t h = (x, refl, event_hands x t h)

    stmt_hands : (n : ℕ) (st : KStmt) → stmt_ok K (names_of K) sc n st ≡ true → hands (out-KStmt st)
    unfolding stmt_ok out-KStmt Carrier.out
    stmt_hands n (AwaitIn k t) h = port_hands (port_ty K k K.inputs) t (last_holds (is_trail sc.place) _ h)
    stmt_hands n (AwaitTime e u t) h = if_hands ty.S32 t (last_holds (is_trail sc.place && time_ok K sc e u) _ h)
    stmt_hands n (AwaitEvent e t) h = on_event (event_at K e K.events) t (last_holds (is_trail sc.place) _ h)
    stmt_hands n (AwaitCode c es f t) h = λ k q.
        if_hands k.result t (last_holds (gives_all K sc k.params es) (takes_if K sc k.result t)
        (subst (λ o. (elim o [ None ↦ false | Some j ↦ gives_all K sc j.params es && takes_if K sc j.result t ]) ≡ true) q
        (last_holds _ _ (last_holds (is_trail sc.place) (on_code K sc c (λ j. gives_all K sc j.params es && takes_if K sc j.result t)) h))))
    stmt_hands n st h = tt

  pub layer_hands : (sc : Scope) (s : KNode) (layer : Layer) → out-KStmt s.stmt ≡ layer → StmtOk K (names_of K) sc s → hands layer
  layer_hands sc s layer e h = subst hands e (stmt_hands sc s.node s.stmt h)

-- ---- exits

-- the innermost statement or body that an exit to that node leads to takes the value
abbrev pub aim_takes : ℕ → ℤ → List Aim → Bool
aim_takes n v [] = true
aim_takes n v (DoAim m None ∷ aims) = if m == n then true else aim_takes n v aims
aim_takes n v (DoAim m (Some t) ∷ aims) = if m == n then is_value t v else aim_takes n v aims
aim_takes n v (BodyAim m t ∷ aims) = if m == n then is_value t v else aim_takes n v aims
aim_takes n v (LoopAim m ∷ aims) = aim_takes n v aims

either : (b x y : Bool) → x ≡ true → y ≡ true → (if b then x else y) ≡ true
either true x y h k = h
either false x y h k = k

pub zero_aimed : (n : ℕ) (aims : List Aim) → aim_takes n (pos 0) aims ≡ true
zero_aimed n [] = refl
zero_aimed n (DoAim m None ∷ aims) = either (m == n) true (aim_takes n (pos 0) aims) refl (zero_aimed n aims)
zero_aimed n (DoAim m (Some t) ∷ aims) = either (m == n) (is_value t (pos 0)) (aim_takes n (pos 0) aims) (zero_value t) (zero_aimed n aims)
zero_aimed n (BodyAim m t ∷ aims) = either (m == n) (is_value t (pos 0)) (aim_takes n (pos 0) aims) (zero_value t) (zero_aimed n aims)
zero_aimed n (LoopAim m ∷ aims) = zero_aimed n aims

both_ways : (m n : ℕ) → (n == m) ≡ true → (m == n) ≡ true
both_ways m n h = eq-eqb m n (sym (eqb-true n m h))

not_either : (m n : ℕ) → (n == m) ≡ false → (m == n) ≡ false
not_either m n h = go (m == n) refl
  where
    go : (b : Bool) → (m == n) ≡ b → b ≡ false
    go false e = refl
    go true e = absurd (false≢true (sym h ∙ both_ways n m e))

module _ (K : Kernel) where
  -- at a do its target takes it
  pub part_takes : (sc : Scope) (m node : ℕ) (layer : Layer) (b : KBlock) (v : ℤ) → opens_part layer b → (node == m) ≡ true
      → aim_takes node v (part_scope K sc m layer).aims ≡ true → takes_value (target_of layer) v
  part_takes sc m node (KStmt-F.Do None c) b v o e h = tt
  part_takes sc m node (KStmt-F.Do (Some l) c) b v o e h = subst (λ t. (if t then is_value l.ty v else aim_takes node v sc.aims) ≡ true) (both_ways m node e) h
  part_takes sc m node (KStmt-F.If arms last) b v o e h = tt
  part_takes sc m node layer b v o e h = elim o [ ]

  -- else it leads further out
  pub part_outer : (sc : Scope) (m node : ℕ) (layer : Layer) (b : KBlock) (v : ℤ) → opens_part layer b → (node == m) ≡ false
      → aim_takes node v (part_scope K sc m layer).aims ≡ true → aim_takes node v sc.aims ≡ true
  part_outer sc m node (KStmt-F.Do None c) b v o e h = subst (λ t. (if t then true else aim_takes node v sc.aims) ≡ true) (not_either m node e) h
  part_outer sc m node (KStmt-F.Do (Some l) c) b v o e h = subst (λ t. (if t then is_value l.ty v else aim_takes node v sc.aims) ≡ true) (not_either m node e) h
  part_outer sc m node (KStmt-F.If arms last) b v o e h = h
  part_outer sc m node layer b v o e h = elim o [ ]

  pub turn_outer : (sc : Scope) (m node : ℕ) (k : KLoop) (v : ℤ) → aim_takes node v (turn_scope K sc m k).aims ≡ true
      → aim_takes node v sc.aims ≡ true
  turn_outer sc m node turns.Free v h = h
  turn_outer sc m node (turns.Times slot n) v h = h
  turn_outer sc m node (turns.Range i next end open_a a b open_b) v h = h

  -- a block ends with 0, or with what an exit to it gives
  abbrev pub EndTakes : Scope → KBlock → ℤ → Type 0
  EndTakes sc b v = (v ≡ pos 0) ⊎ ((aimed (out-KBlock b).node sc.aims ≡ true) × (aim_takes (out-KBlock b).node v sc.aims ≡ true))

  pub end_zero : (sc : Scope) (b : KBlock) (v : ℤ) (o : Option Loc) → aimed (out-KBlock b).node sc.aims ≡ false → EndTakes sc b v → takes_value o v
  end_zero sc b v o e (inl z) = subst (takes_value o) (sym z) (takes_zero o)
  end_zero sc b v o e (inr h) = absurd (false≢true (sym e ∙ h.0))

  pub end_result : (c : ℕ) (k : KCode) (v : ℤ) → EndTakes (code_scope K c k) k.body v → IsValue k.result v
  end_result c k v (inl z) = subst (IsValue k.result) (sym z) (zero_value k.result)
  end_result c k v (inr h) = subst (λ t. (if t then is_value k.result v else true) ≡ true) (eq-eqb (out-KBlock k.body).node (out-KBlock k.body).node refl) h.1

  module _ (proper : is_proper K ≡ true) (sc : Scope) (known : KnownSeen K proper sc.seen) (body : Body) (w : World) (x : AllTyped K proper w) where
    if_given : (e : Option KExp) (v : ℤ) → value_if e body w ≡ Ok v → (t : Ty) → gives_if K sc t e ≡ true → IsValue t v
    if_given None v q t h = subst (IsValue t) (ok_is (pos 0) v q) (zero_value t)
    if_given (Some e) v q t h = given_value K proper sc known body w x t e v (last_holds (not (same_ty t ty.None)) (gives K sc t e) h) q

    choose_given : (b : Bool) (p q r s : Bool) → (p ≡ true → r ≡ true) → (q ≡ true → s ≡ true) → (if b then p else q) ≡ true
        → (if b then r else s) ≡ true
    choose_given true p q r s f g h = f h
    choose_given false p q r s f g h = g h

    escape_takes : (m : ℕ) (e : Option KExp) (v : ℤ) → value_if e body w ≡ Ok v → (aims : List Aim) → escape_ok K sc m e aims ≡ true
        → aim_takes m v aims ≡ true
    escape_takes m e v q [] h = refl
    escape_takes m e v q (DoAim n None ∷ aims) h = choose_given (n == m) (gives_if K sc ty.None e) (escape_ok K sc m e aims) true (aim_takes m v aims) (λ z. refl) (escape_takes m e v q aims) h
    escape_takes m e v q (DoAim n (Some t) ∷ aims) h = choose_given (n == m) (gives_if K sc t e) (escape_ok K sc m e aims) (is_value t v) (aim_takes m v aims) (if_given e v q t) (escape_takes m e v q aims) h
    escape_takes m e v q (BodyAim n t ∷ aims) h = choose_given (n == m) (gives_if K sc t e) (escape_ok K sc m e aims) (is_value t v) (aim_takes m v aims) (if_given e v q t) (escape_takes m e v q aims) h
    escape_takes m e v q (LoopAim n ∷ aims) h = escape_takes m e v q aims h

    abbrev escapes : Layer → Type 0
    escapes (KStmt-F.Escape m e) = (v : ℤ) → value_if e body w ≡ Ok v → aim_takes m v sc.aims ≡ true
    escapes layer = Unit {0}

    stmt_escapes : (n : ℕ) (st : KStmt) → stmt_ok K (names_of K) sc n st ≡ true → escapes (out-KStmt st)
    unfolding stmt_ok out-KStmt Carrier.out
    stmt_escapes n (Escape m e) h = λ v q. escape_takes m e v q sc.aims (last_holds (outside_finalizers sc.place) _ h)
    stmt_escapes n st h = tt

    pub escape_fine : (s : KNode) (m : ℕ) (e : Option KExp) → out-KStmt s.stmt ≡ KStmt-F.Escape m e → StmtOk K (names_of K) sc s → (v : ℤ)
        → value_if e body w ≡ Ok v → aim_takes m v sc.aims ≡ true
    escape_fine s m e q h = subst escapes q (stmt_escapes s.node s.stmt h)
