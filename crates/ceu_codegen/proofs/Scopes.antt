-- What a scope of a proper kernel sees and leaves is there: slots and nodes below their counts.
use Rattle.std.proofs.Common.{◌≡◌, refl, ℕ, zero, suc, ◌<◌, Bool, true, false, not, ◌&&◌, ◌||◌, ◌==◌, if◌then◌else◌, List, [], ◌∷◌, length, Option, Some, None, arith}
use Rattle.std.specs.List.{list_any}
use Rattle.std.proofs.lemmas.Bool.{eqb-true, and_parts, false≢true}
use Rattle.ceu_base.specs.declared.kinds.Ty.{Ty}
use Rattle.ceu_base.specs.declared.kinds.Ty.TheVariants as ty
use Rattle.ceu_base.specs.declared.kinds.Port.{Port}
use Rattle.ceu_tree.specs.declared.kernel.Kernel.{Kernel}
use Rattle.ceu_tree.specs.declared.kernel.KCode.{KCode}
use Rattle.ceu_tree.specs.declared.kernel.KDecl.{KDecl}
use Rattle.ceu_tree.specs.declared.kernel.KKind.{KKind}
use Rattle.ceu_tree.specs.declared.kernel.KKind.TheVariants as kind
use Rattle.ceu_tree.specs.declared.kernel.KEvent.{KEvent}
use Rattle.ceu_tree.specs.declared.kernel.KExp.{KExp}
use Rattle.ceu_tree.specs.declared.kernel.KExpNode.{KExpNode, Row_of-KExp, end_of-KExp, more_of-KExp, Const, Read, Alive, One', Two', As'}
use Rattle.ceu_tree.specs.declared.kernel.Loc.{Loc}
use Rattle.ceu_tree.specs.declared.kernel.Unit.{Unit as TimeUnit}
use Rattle.ceu_tree.specs.declared.kernel.KBlock.{out-KBlock}
use Rattle.ceu_tree.specs.Numbering.{decl_slots}
use Rattle.ceu_tree.specs.Typing.{node_typed, operand_typed, typed, same_ty, holds_all}
use Rattle.ceu_tree.specs.Proper.{SlotKind, Seen, Aim, DoAim, BodyAim, LoopAim, Scope, find, declared_seen, do_aim, variable_ty, has_ty, is_in_code, is_alias, is_pool_of, alias_takes, outside_asyncs, is_loop_variable, looked_up, reads, asks, takes, takes_if, gives, gives_if, gives_all, port_ty, event_at, event_seen, on_ty, time_ok, escape_ok, is_loop_aim}
use Rattle.ceu_low_expr.specs.Conditions.{NodeNames, OperandNames, NamesBelow}
use Rattle.ceu_low_flow.specs.Conditions as flow
use Rattle.ceu_low_pool.specs.Conditions as on_code
use Rattle.ceu_low_par.specs.Conditions.{AreNodes}
use Rattle.ceu_codegen.specs.Conditions.{NamesIf, AllName}

-- ---- tests that choose

pub chosen : {A X : Type 0} (n m : ℕ) (x y z : X) → (n ≡ m → x ≡ z → A) → (y ≡ z → A) → (if n == m then x else y) ≡ z → A
chosen {A} {X} n m x y z f g h = go (n == m) refl h
  where
    go : (b : Bool) → (n == m) ≡ b → (if b then x else y) ≡ z → A
    go true e h = f (eqb-true n m e) h
    go false e h = g h

either_holds : {A : Type 0} (n m : ℕ) (y : Bool) → (n ≡ m → A) → (y ≡ true → A) → ((n == m) || y) ≡ true → A
either_holds {A} n m y f g h = go (n == m) refl h
  where
    go : (b : Bool) → (n == m) ≡ b → (b || y) ≡ true → A
    go true e h = f (eqb-true n m e)
    go false e h = g h

-- ---- slots

module _ (slots : ℕ) where
  abbrev pub SeenBelow : List Seen → Type 0
  SeenBelow [] = Unit {0}
  SeenBelow (x ∷ xs) = (x.slot < slots) × SeenBelow xs

  pub found_below : (slot : ℕ) (xs : List Seen) (k : SlotKind) → SeenBelow xs → find slot xs ≡ Some k → slot < slots
  found_below slot [] k low h = absurd cc
  found_below slot (x ∷ xs) k low h = chosen x.slot slot (Some x.kind) (find slot xs) (Some k) (λ e f. omega (arith, e, low.0)) (λ f. found_below slot xs k low.1 f) h

  pub declared_below : (pools : List ℕ) (ds : List KDecl) (xs : List Seen) → AreNodes slots (decl_slots ds) → SeenBelow xs → SeenBelow (declared_seen pools ds xs)
  declared_below pools [] xs low more = more
  declared_below pools (d ∷ ds) xs low more = (low.0, declared_below pools ds xs low.1 more)

  typed_kind : (o : Option SlotKind) (t : Ty) → has_ty (variable_ty o) t ≡ true → (k : SlotKind) × (o ≡ Some k)
  typed_kind None t h = absurd (false≢true h)
  typed_kind (Some k) t h = (k, refl)

  alias_kind : (o : Option SlotKind) → is_alias o ≡ true → (k : SlotKind) × (o ≡ Some k)
  alias_kind None h = absurd (false≢true h)
  alias_kind (Some k) h = (k, refl)

  pool_kind : (c : ℕ) (o : Option SlotKind) → is_pool_of c o ≡ true → (k : SlotKind) × (o ≡ Some k)
  pool_kind c None h = absurd (false≢true h)
  pool_kind c (Some k) h = (k, refl)

  takes_kind : (c pool : ℕ) (o : Option SlotKind) → alias_takes c pool o ≡ true → (k : SlotKind) × (o ≡ Some k)
  takes_kind c pool None h = absurd (false≢true h)
  takes_kind c pool (Some k) h = (k, refl)

  module _ (K : Kernel) (outer : SeenBelow (declared_seen [] (out-KBlock K.body).decls [])) where
    reads_below : (sc : Scope) (l : Loc) → SeenBelow sc.seen → reads K sc l ≡ true → l.slot < slots
    reads_below sc l low h = let k = typed_kind (looked_up K sc l) l.ty h in go l.outer (is_in_code sc.code) k.0 k.1
      where
        go : (b c : Bool) (k : SlotKind) → (if b then (if c then find l.slot (declared_seen [] (out-KBlock K.body).decls []) else None) else find l.slot sc.seen) ≡ Some k → l.slot < slots
        go true true k e = found_below l.slot (declared_seen [] (out-KBlock K.body).decls []) k outer e
        go true false k e = absurd cc
        go false c k e = found_below l.slot sc.seen k low e

    pub alias_below : (sc : Scope) (c : ℕ) → SeenBelow sc.seen → is_alias (find c sc.seen) ≡ true → c < slots
    alias_below sc c low h = let k = alias_kind (find c sc.seen) h in found_below c sc.seen k.0 low k.1

    asks_below : (sc : Scope) (c : ℕ) → SeenBelow sc.seen → asks K sc c ≡ true → c < slots
    asks_below sc c low h = alias_below sc c low (and_parts (outside_asyncs sc.place) (is_alias (find c sc.seen)) h).1

    pub pool_below : (sc : Scope) (c pool : ℕ) → SeenBelow sc.seen → is_pool_of c (find pool sc.seen) ≡ true → pool < slots
    pool_below sc c pool low h = let k = pool_kind c (find pool sc.seen) h in found_below pool sc.seen k.0 low k.1

    pub set_below : (sc : Scope) (c pool a : ℕ) → SeenBelow sc.seen → alias_takes c pool (find a sc.seen) ≡ true → a < slots
    set_below sc c pool a low h = let k = takes_kind c pool (find a sc.seen) h in found_below a sc.seen k.0 low k.1

    pub takes_below : (sc : Scope) (t : Ty) (l : Loc) → SeenBelow sc.seen → takes K sc t l ≡ true → l.slot < slots
    takes_below sc t l low h =
        let x = and_parts (reads K sc l && not (is_loop_variable (looked_up K sc l)) && not (same_ty t ty.None)) (holds_all l.ty t) h in
        let y = and_parts (reads K sc l && not (is_loop_variable (looked_up K sc l))) (not (same_ty t ty.None)) x.0 in
        reads_below sc l low (and_parts (reads K sc l) (not (is_loop_variable (looked_up K sc l))) y.0).0

    pub target_fits : (sc : Scope) (t : Ty) (o : Option Loc) → SeenBelow sc.seen → takes_if K sc t o ≡ true → flow.TargetFits slots o
    target_fits sc t None low h = tt
    target_fits sc t (Some l) low h = takes_below sc t l low h

    pub result_fits : (sc : Scope) (t : Ty) (o : Option Loc) → SeenBelow sc.seen → takes_if K sc t o ≡ true → on_code.TargetFits slots o
    result_fits sc t None low h = tt
    result_fits sc t (Some l) low h = takes_below sc t l low h

    -- ---- expressions

    module _ (sc : Scope) (low : SeenBelow sc.seen) where
      mutual
        unfolding node_typed NodeNames

        node_names : (e : KExpNode) (t : Ty) → node_typed (reads K sc) (asks K sc) e t ≡ true → NodeNames slots e
        node_names (Const v) t h = tt
        node_names (Read l) t h = reads_below sc l low (and_parts (same_ty l.ty t) (reads K sc l) h).1
        node_names (Alive c) t h = asks_below sc c low (and_parts _ (asks K sc c) h).1
        node_names (One' op _ a) t h = operand_names a (and_parts (operand_typed (reads K sc) (asks K sc) a) _ h).0
        node_names (Two' op _ a _ b) t h =
            let x = and_parts (operand_typed (reads K sc) (asks K sc) a) (operand_typed (reads K sc) (asks K sc) b)
            (and_parts (operand_typed (reads K sc) (asks K sc) a && operand_typed (reads K sc) (asks K sc) b) _ h).0 in
            (operand_names a x.0, operand_names b x.1)
        node_names (As' _ a) t h =
            operand_names a (and_parts (operand_typed (reads K sc) (asks K sc) a) (not (same_ty t ty.None)) (and_parts (operand_typed (reads K sc) (asks K sc) a && not (same_ty t ty.None)) _ h).0).0

        operand_names : {n : _} (r : Row_of-KExp n) → operand_typed (reads K sc) (asks K sc) r ≡ true → OperandNames slots r
        operand_names end_of-KExp h = tt
        operand_names (more_of-KExp t p e rest) h = node_names e t h

      pub typed_names : (e : KExp) → typed (reads K sc) (asks K sc) e ≡ true → NamesBelow slots e
      typed_names e h = node_names e.node e.ty h

      pub gives_names : (t : Ty) (e : KExp) → gives K sc t e ≡ true → NamesBelow slots e
      gives_names t e h =
          typed_names e (and_parts (typed (reads K sc) (asks K sc) e) (holds_all t e.ty) (and_parts (typed (reads K sc) (asks K sc) e && holds_all t e.ty) _ h).0).0

      pub gives_if_names : (t : Ty) (e : Option KExp) → gives_if K sc t e ≡ true → NamesIf slots e
      gives_if_names t None h = tt
      gives_if_names t (Some e) h = gives_names t e (and_parts (not (same_ty t ty.None)) (gives K sc t e) h).1

      pub gives_all_names : (ds : List KDecl) (es : List KExp) → gives_all K sc ds es ≡ true → AllName slots es
      gives_all_names [] [] h = tt
      gives_all_names [] (e ∷ es) h = absurd (false≢true h)
      gives_all_names (d ∷ ds) [] h = tt
      gives_all_names (d ∷ ds) (e ∷ es) h = let x = and_parts _ (gives_all K sc ds es) h in (go d.kind x.0, gives_all_names ds es x.1)
        where
          go : (k : KKind) → (elim k [ kind.Var t ↦ gives K sc t e | _ ↦ false ]) ≡ true → NamesBelow slots e
          go (kind.Var t) h = gives_names t e h
          go (kind.Alias c) h = absurd (false≢true h)
          go (kind.Pool n c) h = absurd (false≢true h)

      pub time_names : (e : KExp) (u : TimeUnit) → time_ok K sc e u ≡ true → NamesBelow slots e
      time_names e u h = typed_names e (and_parts (typed (reads K sc) (asks K sc) e) _ (and_parts (typed (reads K sc) (asks K sc) e && _) _ h).0).0

      -- where an escape leads, its value is given
      pub escape_names : (m : ℕ) (e : Option KExp) (aims : List Aim) → escape_ok K sc m e aims ≡ true → NamesIf slots e
      escape_names m e [] h = absurd (false≢true h)
      escape_names m e (DoAim n None ∷ aims) h = chosen n m (gives_if K sc ty.None e) (escape_ok K sc m e aims) true (λ q f. gives_if_names ty.None e f) (λ f. escape_names m e aims f) h
      escape_names m e (DoAim n (Some t) ∷ aims) h = chosen n m (gives_if K sc t e) (escape_ok K sc m e aims) true (λ q f. gives_if_names t e f) (λ f. escape_names m e aims f) h
      escape_names m e (BodyAim n t ∷ aims) h = chosen n m (gives_if K sc t e) (escape_ok K sc m e aims) true (λ q f. gives_if_names t e f) (λ f. escape_names m e aims f) h
      escape_names m e (LoopAim n ∷ aims) h = escape_names m e aims h

-- ---- ports, events and codes

module _ (K : Kernel) where
  pub some_ty : (o : Option Ty) (f : Ty → Bool) → on_ty K o f ≡ true → (t : Ty) × (f t ≡ true)
  some_ty None f h = absurd (false≢true h)
  some_ty (Some t) f h = (t, h)

  pub port_below : (k : ℕ) (ps : List Port) (f : Ty → Bool) → on_ty K (port_ty K k ps) f ≡ true → k < length ps
  port_below k [] f h = absurd (false≢true h)
  port_below zero (q ∷ qs) f h = omega arith
  port_below (suc k) (q ∷ qs) f h = omega (arith, port_below k qs f h)

  pub event_below : (sc : Scope) (k : ℕ) (es : List KEvent) (f : Ty → Bool) → on_ty K (event_seen K sc (event_at K k es)) f ≡ true → k < length es
  event_below sc k [] f h = absurd (false≢true h)
  event_below sc zero (q ∷ qs) f h = omega arith
  event_below sc (suc k) (q ∷ qs) f h = omega (arith, event_below sc k qs f h)

pub some_code : (o : Option KCode) (f : KCode → Bool) → (elim o [ None ↦ false | Some k ↦ f k ]) ≡ true → (k : KCode) × (f k ≡ true)
some_code None f h = absurd (false≢true h)
some_code (Some k) f h = (k, h)

-- ---- exits

module _ (nodes : ℕ) where
  abbrev AimBelow : Aim → Type 0
  AimBelow (DoAim m t) = m < nodes
  AimBelow (BodyAim m t) = m < nodes
  AimBelow (LoopAim m) = m < nodes

  abbrev pub AimsBelow : List Aim → Type 0
  AimsBelow [] = Unit {0}
  AimsBelow (a ∷ aims) = AimBelow a × AimsBelow aims

  pub do_below : (K : Kernel) (n : ℕ) (t : Option Loc) (aims : List Aim) → n < nodes → AimsBelow aims → AimsBelow (do_aim K n t ∷ aims)
  do_below K n None aims h more = (h, more)
  do_below K n (Some l) aims h more = (h, more)

  pub escape_below : (K : Kernel) (sc : Scope) (m : ℕ) (e : Option KExp) (aims : List Aim) → AimsBelow aims → escape_ok K sc m e aims ≡ true → m < nodes
  escape_below K sc m e [] low h = absurd (false≢true h)
  escape_below K sc m e (DoAim n None ∷ aims) low h = chosen n m (gives_if K sc ty.None e) (escape_ok K sc m e aims) true (λ q f. omega (arith, q, low.0)) (λ f. escape_below K sc m e aims low.1 f) h
  escape_below K sc m e (DoAim n (Some t) ∷ aims) low h = chosen n m (gives_if K sc t e) (escape_ok K sc m e aims) true (λ q f. omega (arith, q, low.0)) (λ f. escape_below K sc m e aims low.1 f) h
  escape_below K sc m e (BodyAim n t ∷ aims) low h = chosen n m (gives_if K sc t e) (escape_ok K sc m e aims) true (λ q f. omega (arith, q, low.0)) (λ f. escape_below K sc m e aims low.1 f) h
  escape_below K sc m e (LoopAim n ∷ aims) low h = escape_below K sc m e aims low.1 h

  pub loop_below : (K : Kernel) (m : ℕ) (aims : List Aim) → AimsBelow aims → list_any (is_loop_aim K m) aims ≡ true → m < nodes
  loop_below K m [] low h = absurd (false≢true h)
  loop_below K m (DoAim n t ∷ aims) low h = loop_below K m aims low.1 h
  loop_below K m (BodyAim n t ∷ aims) low h = loop_below K m aims low.1 h
  loop_below K m (LoopAim n ∷ aims) low h = either_holds m n (list_any (is_loop_aim K m) aims) (λ q. omega (arith, q, low.0)) (λ f. loop_below K m aims low.1 f) h
