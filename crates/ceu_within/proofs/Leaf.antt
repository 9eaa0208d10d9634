-- What a leaf does by itself keeps values within the variables around it: what is assigned is of its variable's type.
use Rattle.std.proofs.Common.{◌≡◌, refl, sym, ap, subst, ◌≤ℤ◌, ℕ, ℤ, pos, ◌+ℤ◌, ◌-ℤ◌, Bool, true, false, not, if◌then◌else◌, ◌==◌, ◌&&◌, List, [], ◌∷◌, Option, Some, None, Result, Ok, Err, Contains, arith}
use Rattle.std.specs.Prelude.{int_le}
use Rattle.std.proofs.lemmas.Int.{ints}
use Rattle.std.proofs.lemmas.Bool.{and_parts, false≢true}
use Rattle.ceu_base.specs.declared.kinds.Ty.{Ty}
use Rattle.ceu_base.specs.declared.kinds.Ty.TheVariants as ty
use Rattle.ceu_base.specs.declared.kinds.Pos.{Pos}
use Rattle.ceu_base.specs.declared.kinds.Fault.{Fault}
use Rattle.ceu_base.specs.declared.kinds.Mark.TheVariants as mark
use Rattle.ceu_base.specs.Values.{least, above, IsValue, of_test}
use Rattle.ceu_tree.specs.declared.kernel.Kernel.{Kernel}
use Rattle.ceu_tree.specs.declared.kernel.KLoop.{KLoop}
use Rattle.ceu_tree.specs.declared.kernel.KLoop.TheVariants as turns
use Rattle.ceu_tree.specs.declared.kernel.Loc.{Loc}
use Rattle.ceu_tree.specs.declared.kernel.KExp.{KExp}
use Rattle.ceu_tree.specs.declared.kernel.KExpNode as exp
use Rattle.ceu_tree.specs.declared.kernel.KExpNode.{KExpNode, Row_of-KExp, end_of-KExp, more_of-KExp, One', Two', As'}
use Rattle.ceu_tree.specs.declared.kernel.KNode.{KNode}
use Rattle.ceu_tree.specs.declared.kernel.KStmt as kernel
use Rattle.ceu_tree.specs.declared.kernel.KStmt.{KStmt, out-KStmt}
use Rattle.ceu_tree.specs.declared.kernel.KStmt.TheOpen.{KStmt-F}
use Rattle.ceu_tree.specs.Residual.{Program}
use Rattle.ceu_tree.specs.Focus.{leaf}
use Rattle.ceu_tree.specs.World.{Cell, Holds, NotSet, Names, World, look, marked, set, assign, assign_if, place_of}
use Rattle.ceu_tree.specs.Expressions.{Answer, number_in, value_of, value_if}
use Rattle.ceu_tree.specs.Leaf as does
use Rattle.ceu_tree.specs.Leaf.{Layer, Exit, Escape, Break, Continue, Does, Done, or_fails, target, target_of, chosen_part, loop_reached, started, next_of, acted}
use Rattle.ceu_tree.specs.Typing.{node_typed, operand_typed, typed, holds_all, same_ty}
use Rattle.ceu_tree.specs.Proper.{Scope, Aim, DoAim, BodyAim, LoopAim, reads, asks, takes, takes_if, gives, gives_if, on_ty, port_ty, escape_ok, loop_ok, time_ok, stmt_ok, is_trail, outside_finalizers}
use Rattle.laws_meaning_basics.specs.Shape.{pauses}
use Rattle.laws_meaning_basics.proofs.Static.{names_of}
use Rattle.laws_meaning_values.specs.Results.{NodeReads, OperandReads, Reads, IsResult}
use Rattle.laws_meaning_values.proofs.Results.{results_are_values}
use Rattle.laws_meaning_values.proofs.Operators.{held_value}
use Rattle.laws_meaning_values.proofs.Ranges.{Within, within}
use Rattle.ceu_endings.proofs.Shapes.{LayerSingle}
use Rattle.ceu_trail.specs.Within.{Variable, in_rest, IsHeld, ValuesWithin, CountsWithin, focus_within, brings, act_brings, rest_within}
use Rattle.ceu_within.proofs.Widths.{variable, same_values, set_within}
use Rattle.ceu_within.proofs.Scopes.{ScopeIn, read_in, TargetIn, target_in}
use Rattle.ceu_within.proofs.Around.{zero_value, choose_type, carried, exit_carries}
use Rattle.ceu_within.proofs.Once.{Once}
use denote.Hole.Carrier

-- ---- what the rules on types say of a statement

abbrev pub LayerTyped : Kernel → Scope → Layer → Type 0
LayerTyped K sc (KStmt-F.Assign l e) = (takes K sc l.ty l ≡ true) × (gives K sc l.ty e ≡ true)
LayerTyped K sc (KStmt-F.AwaitIn k t) = on_ty K (port_ty K k K.inputs) (λ u. takes_if K sc u t) ≡ true
LayerTyped K sc (KStmt-F.AwaitTime e u t) = takes_if K sc ty.S32 t ≡ true
LayerTyped K sc (KStmt-F.Escape m e) = escape_ok K sc m e sc.aims ≡ true
LayerTyped K sc (KStmt-F.Loop k b) = loop_ok K sc k ≡ true
LayerTyped K sc layer = Unit {0}

pub typed_static : (K : Kernel) (sc : Scope) (n : ℕ) (st : KStmt) → stmt_ok K (names_of K) sc n st ≡ true → LayerTyped K sc (out-KStmt st)
unfolding stmt_ok out-KStmt Carrier.out
typed_static K sc n (kernel.Assign l e) h = and_parts (takes K sc l.ty l) (gives K sc l.ty e) h
typed_static K sc n (kernel.AwaitIn k t) h = (and_parts (is_trail sc.place) _ h).1
typed_static K sc n (kernel.AwaitTime e u t) h = (and_parts (is_trail sc.place && time_ok K sc e u) _ h).1
typed_static K sc n (kernel.Escape m e) h = (and_parts (outside_finalizers sc.place) _ h).1
typed_static K sc n (kernel.Loop k b) h = (and_parts (outside_finalizers sc.place) (loop_ok K sc k) (and_parts (outside_finalizers sc.place && loop_ok K sc k) _ h).0).1
typed_static K sc n st h = tt

abbrev ok_or : ℤ → Answer → ℤ
ok_or d (Ok x) = x
ok_or d (Err e) = d

le_is : (a b : ℤ) → a ≤ℤ b → int_le a b ≡ true
le_is a b h = go (int_le a b) refl
  where
    go : (t : Bool) → int_le a b ≡ t → int_le a b ≡ true
    go true g = g
    go false g = absurd (omega (arith, ints, g, h))

counts : (n l : ℤ) → least ty.S32 ≤ℤ n → n ≤ℤ above ty.S32 → (least ty.S32 -ℤ pos 1) ≤ℤ l → (l +ℤ pos 1) ≤ℤ above ty.S32 → CountsWithin n l
counts n l a b c d = record { from = le_is (least ty.S32) n a; to = le_is n (above ty.S32) b; last_from = le_is (least ty.S32 -ℤ pos 1) l c; last_to = le_is (l +ℤ pos 1) (above ty.S32) d }

-- ---- what a leaf does, of a part with these aims, where these variables are around it

abbrev pub DoesWithin : Kernel → List Variable → List Aim → Does → World → Type 0
DoesWithin K vs aims (does.Opens x) u = ValuesWithin vs u × focus_within x × act_brings K (leaf x)
DoesWithin K vs aims (does.Waits r) u = ValuesWithin vs u × (in_rest r ≡ []) × rest_within K r
DoesWithin K vs aims does.Passes u = ValuesWithin vs u
DoesWithin K vs aims does.Ends u = ValuesWithin vs u
DoesWithin K vs aims does.Heads u = ValuesWithin vs u
DoesWithin K vs aims (does.Leaves node x) u = ValuesWithin vs u × exit_carries aims node x
DoesWithin K vs aims (does.Fails e) u = Unit {0}
DoesWithin K vs aims x u = ⊥

abbrev pub DoneWithin : Kernel → List Variable → List Aim → Done → Type 0
DoneWithin K vs aims d = DoesWithin K vs aims d.does d.world

-- ---- values of expressions

module _ (K : Kernel) (sc : Scope) (vs : List Variable) (scope : ScopeIn sc vs) (once : Once vs) (w : World) (held : ValuesWithin vs w) where
  -- a variable that is read holds a value of its type, or none
  number_value : (l : Loc) → reads K sc l ≡ true → IsValue l.ty (number_in (look (place_of l Program) l.slot w.values))
  number_value l h = subst (λ b. IsValue l.ty (number_in (look b l.slot w.values))) (sym (own l.outer)) (go (look Program l.slot w.values) refl)
    where
      own : (b : Bool) → (if b then Program else Program) ≡ Program
      own true = refl
      own false = refl

      here : Contains vs (variable l.slot l.ty)
      here = (read_in K sc l vs scope h).1

      of_cell : (c : Cell) → look Program l.slot w.values ≡ Some c → IsHeld l.ty c
      of_cell c e = let o = held.within Program l.slot c e in subst (λ t. IsHeld t c) (ap (λ x. x.ty) (once.one o.variable (variable l.slot l.ty) o.there here o.slot_is)) o.is_held

      go : (o : Option Cell) → look Program l.slot w.values ≡ o → IsValue l.ty (number_in o)
      go None e = zero_value l.ty
      go (Some (Holds v)) e = of_cell (Holds v) e
      go (Some NotSet) e = zero_value l.ty
      go (Some (Names n)) e = zero_value l.ty

  mutual
    unfolding node_typed operand_typed NodeReads OperandReads

    node_reads : (e : KExpNode) (t : Ty) → node_typed (reads K sc) (asks K sc) e t ≡ true → NodeReads Program w e
    node_reads (exp.Const v) t h = tt
    node_reads (exp.Read l) t h = number_value l (and_parts (same_ty l.ty t) (reads K sc l) h).1
    node_reads (exp.Alive c) t h = tt
    node_reads (One' op _ a) t h = operand_reads a (and_parts (operand_typed (reads K sc) (asks K sc) a) _ h).0
    node_reads (Two' op _ a _ b) t h =
        let x = and_parts (operand_typed (reads K sc) (asks K sc) a && operand_typed (reads K sc) (asks K sc) b) _ h in
        let y = and_parts (operand_typed (reads K sc) (asks K sc) a) (operand_typed (reads K sc) (asks K sc) b) x.0 in
        (operand_reads a y.0, operand_reads b y.1)
    node_reads (As' _ a) t h = operand_reads a (and_parts (operand_typed (reads K sc) (asks K sc) a) _ (and_parts (operand_typed (reads K sc) (asks K sc) a && not (same_ty t ty.None)) _ h).0).0

    operand_reads : {n : _} (rows : Row_of-KExp n) → operand_typed (reads K sc) (asks K sc) rows ≡ true → OperandReads Program w rows
    operand_reads end_of-KExp h = tt
    operand_reads (more_of-KExp t p e rest) h = node_reads e t h

  pub exp_reads : (e : KExp) → typed (reads K sc) (asks K sc) e ≡ true → Reads Program w e
  exp_reads e h = node_reads e.node e.ty h

  given_parts : (t : Ty) (e : KExp) → gives K sc t e ≡ true → (typed (reads K sc) (asks K sc) e ≡ true) × (holds_all t e.ty ≡ true)
  given_parts t e h =
      let a = and_parts (typed (reads K sc) (asks K sc) e && holds_all t e.ty) _ h in
      and_parts (typed (reads K sc) (asks K sc) e) (holds_all t e.ty) a.0

  pub given_value : (t : Ty) (e : KExp) → gives K sc t e ≡ true → (v : ℤ) → value_of e Program w ≡ Ok v → IsValue t v
  given_value t e h v q =
      let a = given_parts t e h in
      held_value t e.ty v a.1 (subst (IsResult e.ty) q (results_are_values (reads K sc) (asks K sc) Program w e a.0 (exp_reads e a.0)))

  -- ---- exits

  maybe_value : (t : Ty) (e : Option KExp) → gives_if K sc t e ≡ true → (v : ℤ) → value_if e Program w ≡ Ok v → IsValue t v
  maybe_value t None h v q = subst (IsValue t) (ap (ok_or (pos 0)) q) (zero_value t)
  maybe_value t (Some e) h v q = given_value t e (and_parts (not (same_ty t ty.None)) (gives K sc t e) h).1 v q

  escape_carries : (m : ℕ) (e : Option KExp) (aims : List Aim) → escape_ok K sc m e aims ≡ true → (v : ℤ) → value_if e Program w ≡ Ok v → carried aims m v
  escape_carries m e [] h v q = tt
  escape_carries m e (DoAim n None ∷ aims) h v q = go (n == m) h (escape_carries m e aims)
    where
      go : (b : Bool) → (if b then gives_if K sc ty.None e else escape_ok K sc m e aims) ≡ true → (escape_ok K sc m e aims ≡ true → (v : ℤ) → value_if e Program w ≡ Ok v → carried aims m v) → choose_type b (Unit {0}) (carried aims m v)
      go true k ih = tt
      go false k ih = ih k v q
  escape_carries m e (DoAim n (Some t) ∷ aims) h v q = go (n == m) h (escape_carries m e aims)
    where
      go : (b : Bool) → (if b then gives_if K sc t e else escape_ok K sc m e aims) ≡ true → (escape_ok K sc m e aims ≡ true → (v : ℤ) → value_if e Program w ≡ Ok v → carried aims m v) → choose_type b (IsValue t v) (carried aims m v)
      go true k ih = maybe_value t e k v q
      go false k ih = ih k v q
  escape_carries m e (BodyAim n t ∷ aims) h v q = go (n == m) h (escape_carries m e aims)
    where
      go : (b : Bool) → (if b then gives_if K sc t e else escape_ok K sc m e aims) ≡ true → (escape_ok K sc m e aims ≡ true → (v : ℤ) → value_if e Program w ≡ Ok v → carried aims m v) → choose_type b (Unit {0}) (carried aims m v)
      go true k ih = tt
      go false k ih = ih k v q
  escape_carries m e (LoopAim n ∷ aims) h v q = escape_carries m e aims h v q

  -- ---- what a leaf does

  or_within : {A : Type 0} (aims : List Aim) (a : Result A (Fault × Pos)) (go : A → Done) → ((v : A) → a ≡ Ok v → DoneWithin K vs aims (go v)) → DoneWithin K vs aims (or_fails a w go)
  or_within aims (Ok v) go h = h v refl
  or_within aims (Err e) go h = tt

  assigned_in : (l : Loc) (t : Ty) (v : ℤ) → TargetIn l t vs → IsValue t v → ValuesWithin vs (assign Program l v w)
  assigned_in l t v x i = subst (λ b. ValuesWithin vs (set b l.slot (Holds v) w)) (sym (own l.outer)) (set_within vs l.slot l.ty v w x.there (x.holds v i) held)
    where
      own : (b : Bool) → (if b then Program else Program) ≡ Program
      own true = refl
      own false = refl

  taken_in : (t : Ty) (o : Option Loc) (v : ℤ) → takes_if K sc t o ≡ true → IsValue t v → ValuesWithin vs (assign_if Program o v w)
  taken_in t None v h i = held
  taken_in t (Some l) v h i = assigned_in l t v (target_in K sc l t vs scope h) i

  input_in : (o : Option Ty) (t : Option Loc) (v : ℤ) → on_ty K o (λ u. takes_if K sc u t) ≡ true → ((u : Ty) → o ≡ Some u → IsValue u v) → ValuesWithin vs (assign_if Program t v w)
  input_in None t v h i = absurd (false≢true h)
  input_in (Some u) t v h i = taken_in u t v h (i u refl)

  within_s32 : (x y : ℤ) (p q : Bool) → IsValue ty.S32 x → IsValue ty.S32 y → CountsWithin (x +ℤ of_test p) (y -ℤ of_test q)
  within_s32 x y p q i j = go p q (within ty.S32 x i) (within ty.S32 y j)
    where
      go : (p q : Bool) → Within ty.S32 x → Within ty.S32 y → CountsWithin (x +ℤ of_test p) (y -ℤ of_test q)
      go true true a b = counts (x +ℤ pos 1) (y -ℤ pos 1) (omega (arith, ints, a.low)) (omega (arith, ints, a.high)) (omega (arith, ints, b.low)) (omega (arith, ints, b.high))
      go true false a b = counts (x +ℤ pos 1) (y -ℤ pos 0) (omega (arith, ints, a.low)) (omega (arith, ints, a.high)) (omega (arith, ints, b.low)) (omega (arith, ints, b.high))
      go false true a b = counts (x +ℤ pos 0) (y -ℤ pos 1) (omega (arith, ints, a.low)) (omega (arith, ints, a.high)) (omega (arith, ints, b.low)) (omega (arith, ints, b.high))
      go false false a b = counts (x +ℤ pos 0) (y -ℤ pos 0) (omega (arith, ints, a.low)) (omega (arith, ints, a.high)) (omega (arith, ints, b.low)) (omega (arith, ints, b.high))

  loop_begun : (s : KNode) (k : KLoop) → loop_ok K sc k ≡ true → DoneWithin K vs sc.aims (loop_reached s k Program w)
  unfolding focus_within
  loop_begun s turns.Free h = (held, (tt, tt), tt)
  loop_begun s (turns.Times slot n) h = (held, (tt, tt), tt)
  loop_begun s (turns.Range i next end open_a a b open_b) h =
      let p = and_parts (gives K sc ty.S32 a) (gives K sc ty.S32 b) h in
      or_within sc.aims (value_of a Program w) _ (λ x e. or_within sc.aims (value_of b Program w) _ (λ y f. (held, (within_s32 x y open_a open_b (given_value ty.S32 a p.0 x e) (given_value ty.S32 b p.1 y f), tt), tt)))

  pub started_within : (s : KNode) (layer : Layer) → LayerTyped K sc layer → LayerSingle layer → DoneWithin K vs sc.aims (started K 0 Program s layer w)
  unfolding focus_within in_rest rest_within
  started_within s KStmt-F.Nothing t h = held
  started_within s (KStmt-F.Assign l e) t h = or_within sc.aims (value_of e Program w) _ (λ v q. assigned_in l l.ty v (target_in K sc l l.ty vs scope t.0) (given_value l.ty e t.1 v q))
  started_within s (KStmt-F.Out k e) t h = or_within sc.aims (value_if e Program w) _ (λ v q. same_values vs w (marked (mark.Output k v) w) refl held)
  started_within s (KStmt-F.AwaitIn k t') t h = (held, refl, tt)
  started_within s (KStmt-F.AwaitTime e u t') t h = or_within sc.aims (value_of e Program w) _ (λ v q. (held, refl, tt))
  started_within s KStmt-F.Forever t h = (held, refl, tt)
  started_within s (KStmt-F.Escape m e) t h = or_within sc.aims (value_if e Program w) _ (λ v q. (held, escape_carries m e sc.aims t v q))
  started_within s (KStmt-F.Break m) t h = (held, tt)
  started_within s (KStmt-F.Continue m) t h = (held, tt)
  started_within s (KStmt-F.Do t' b) t h = (held, (tt, tt), tt)
  started_within s (KStmt-F.If arms last) t h = or_within sc.aims (chosen_part arms last Program w) _ (λ b q. (held, (tt, tt), tt))
  started_within s (KStmt-F.Loop k b) t h = loop_begun s k t
  started_within s layer t h = absurd h

  pub finished_within : (s : KNode) (v : ℤ) (layer : Layer) → LayerTyped K sc layer → LayerSingle layer → pauses layer ≡ true → brings K layer v → ValuesWithin vs (assign_if Program (target_of layer) v w)
  finished_within s v (KStmt-F.AwaitIn k t) y h p i = input_in (port_ty K k K.inputs) t v y i
  finished_within s v (KStmt-F.AwaitTime e u t) y h p i = taken_in ty.S32 t v y i
  finished_within s v (KStmt-F.Emit k e) y h p i = absurd h
  finished_within s v (KStmt-F.AwaitEvent k t) y h p i = absurd h
  finished_within s v (KStmt-F.Spawn c es q a) y h p i = absurd h
  finished_within s v (KStmt-F.Async b) y h p i = absurd h
  finished_within s v layer y h p i = absurd (false≢true p)
