-- What is seen from a part is among the variables of the parts around it.
use Rattle.std.proofs.Common.{◌≡◌, refl, sym, ap, ◌∙◌, subst, ℕ, ℤ, Bool, true, false, not, if◌then◌else◌, ◌==◌, ◌&&◌, inl, inr, List, [], ◌∷◌, ◌++◌, Option, Some, None, Contains, eqb-true}
use Rattle.std.proofs.lemmas.Bool.{and_parts, false≢true}
use Rattle.std.proofs.lemmas.List.Elements.{Contains-append_left, Contains-append_right, Contains-append_cases, Contains-push}
use Rattle.ceu_base.specs.declared.kinds.Ty.{Ty}
use Rattle.ceu_base.specs.declared.kinds.Ty.TheVariants as ty
use Rattle.ceu_base.specs.Values.{IsValue}
use Rattle.ceu_tree.specs.declared.kernel.Kernel.{Kernel}
use Rattle.ceu_tree.specs.declared.kernel.KDecl.{KDecl}
use Rattle.ceu_tree.specs.declared.kernel.KKind.{KKind}
use Rattle.ceu_tree.specs.declared.kernel.KKind.TheVariants as kind
use Rattle.ceu_tree.specs.declared.kernel.KLoop.{KLoop}
use Rattle.ceu_tree.specs.declared.kernel.KLoop.TheVariants as turns
use Rattle.ceu_tree.specs.declared.kernel.Loc.{Loc}
use Rattle.ceu_tree.specs.declared.kernel.KBlock.{KBlock, out-KBlock}
use Rattle.ceu_tree.specs.declared.kernel.KStmt.{out-KStmt}
use Rattle.ceu_tree.specs.declared.kernel.KStmt.TheOpen.{KStmt-F}
use Rattle.ceu_tree.specs.Leaf.{Layer}
use Rattle.ceu_tree.specs.Typing.{same_ty, holds_all}
use Rattle.ceu_tree.specs.Proper.{Scope, Seen, SlotKind, IsLoopVariable, find, pool_slots, pools_seen, slot_kind, declared_seen, variable_ty, has_ty, is_loop_variable, is_in_code, looked_up, reads, takes}
use Rattle.ceu_tree.specs.Focus.{Frame}
use Rattle.laws_meaning_basics.specs.Shape.{Part, ABlock, AStatement, AnEnd, part_scope, turn_scope, opens_part, FrameFits, around_statement, around_end, around_instance, around_part, around_turn, around_call, around_branch}
use Rattle.laws_meaning_values.proofs.Operators.{same_is, held_value}
use Rattle.ceu_endings.specs.OneTrail.{PlainFrame}
use Rattle.ceu_trail.specs.Within.{Variable, declared, all_declared, turned, looped, in_frame}
use Rattle.ceu_within.proofs.Widths.{variable}

abbrev pub SeenIn : List Seen → List Variable → Type 0
SeenIn seen vs = (slot : ℕ) (t : Ty) → variable_ty (find slot seen) ≡ Some t → Contains vs (variable slot t)

pub none_ty : (t : Ty) → None ≡ Some t → ⊥
none_ty t h = absurd (cc)

abbrev ty_or : Ty → Option Ty → Ty
ty_or t None = t
ty_or t (Some u) = u

same_some : (t u : Ty) → Some t ≡ Some u → t ≡ u
same_some t u h = ap (ty_or t) h

moved : (vs us ws : List Variable) (x : Variable) → Contains (vs ++ ws) x → Contains (vs ++ (us ++ ws)) x
moved vs us ws x k = elim (Contains-append_cases vs ws x k) [
  | inl l ↦ Contains-append_left vs (us ++ ws) x l
  | inr r ↦ Contains-append_right vs (us ++ ws) x (Contains-append_right us ws x r)
]

first_of : (vs us ws : List Variable) (x : Variable) → Contains us x → Contains (vs ++ (us ++ ws)) x
first_of vs us ws x k = Contains-append_right vs (us ++ ws) x (Contains-append_left us ws x k)

seen_declared : (pools : List ℕ) (ds : List KDecl) (seen : List Seen) (vs : List Variable) → SeenIn seen vs → SeenIn (declared_seen pools ds seen) (vs ++ all_declared ds)
seen_declared pools [] seen vs h slot t e = Contains-append_left vs [] (variable slot t) (h slot t e)
seen_declared pools (d ∷ ds) seen vs h slot t e = go (d.slot == slot) refl e (seen_declared pools ds seen vs h slot t)
  where
    kinds : (j : KKind) → d.slot ≡ slot → variable_ty (Some (slot_kind pools j)) ≡ Some t → Contains (declared d j) (variable slot t)
    kinds (kind.Var u) q k = subst (λ x. Contains (declared d (kind.Var u)) x) (ap (λ s. variable s u) q ∙ ap (variable slot) (same_some u t k)) (Contains-push [] (variable d.slot u))
    kinds (kind.Alias c) q k = absurd (none_ty t k)
    kinds (kind.Pool n c) q k = absurd (none_ty t k)

    go : (b : Bool) → (d.slot == slot) ≡ b → variable_ty (if b then Some (slot_kind pools d.kind) else find slot (declared_seen pools ds seen)) ≡ Some t
        → (variable_ty (find slot (declared_seen pools ds seen)) ≡ Some t → Contains (vs ++ all_declared ds) (variable slot t)) → Contains (vs ++ (declared d d.kind ++ all_declared ds)) (variable slot t)
    go true q k ih = first_of vs (declared d d.kind) (all_declared ds) (variable slot t) (kinds d.kind (eqb-true d.slot slot q) k)
    go false q k ih = moved vs (declared d d.kind) (all_declared ds) (variable slot t) (ih k)

seen_turned : (K : Kernel) (sc : Scope) (node : ℕ) (k : KLoop) (vs : List Variable) → SeenIn sc.seen vs → SeenIn (turn_scope K sc node k).seen (vs ++ turned k)
seen_turned K sc node turns.Free vs h slot t e = Contains-append_left vs [] (variable slot t) (h slot t e)
seen_turned K sc node (turns.Times s n) vs h slot t e = Contains-append_left vs [] (variable slot t) (h slot t e)
seen_turned K sc node (turns.Range i next end open_a a b open_b) vs h slot t e = go (i == slot) refl e
  where
    go : (z : Bool) → (i == slot) ≡ z → variable_ty (if z then Some IsLoopVariable else find slot sc.seen) ≡ Some t → Contains (vs ++ variable i ty.S32 ∷ []) (variable slot t)
    go true q k = subst (λ x. Contains (vs ++ variable i ty.S32 ∷ []) x) (ap (λ s. variable s ty.S32) (eqb-true i slot q) ∙ ap (variable slot) (same_some ty.S32 t k)) (Contains-push vs (variable i ty.S32))
    go false q k = Contains-append_left vs (variable i ty.S32 ∷ []) (variable slot t) (h slot t k)

part_seen : (K : Kernel) (sc : Scope) (n : ℕ) (layer : Layer) (b : KBlock) → opens_part layer b → (part_scope K sc n layer).seen ≡ sc.seen
part_seen K sc n (KStmt-F.Do None c) b o = refl
part_seen K sc n (KStmt-F.Do (Some l) c) b o = refl
part_seen K sc n (KStmt-F.If arms last) b o = refl
part_seen K sc n layer b o = elim o [ ]

part_code : (K : Kernel) (sc : Scope) (n : ℕ) (layer : Layer) (b : KBlock) → opens_part layer b → (part_scope K sc n layer).code ≡ sc.code
part_code K sc n (KStmt-F.Do None c) b o = refl
part_code K sc n (KStmt-F.Do (Some l) c) b o = refl
part_code K sc n (KStmt-F.If arms last) b o = refl
part_code K sc n layer b o = elim o [ ]

turn_code : (K : Kernel) (sc : Scope) (n : ℕ) (k : KLoop) → (turn_scope K sc n k).code ≡ sc.code
turn_code K sc n turns.Free = refl
turn_code K sc n (turns.Times s m) = refl
turn_code K sc n (turns.Range i next end open_a a b open_b) = refl

-- the place of a part is in the program's own body, and what is seen there is among these
pub record ScopeIn (sc : Scope) (vs : List Variable) : Type 0 where
  pub seen : SeenIn sc.seen vs
  pub main : is_in_code sc.code ≡ false

abbrev pub PartIn : Part → List Variable → Type 0
PartIn (ABlock turn sc b) vs = ScopeIn sc vs
PartIn (AStatement sc s) vs = ScopeIn sc vs
PartIn AnEnd vs = Unit {0}

pub frame_in : {t : ℕ} {fr : Frame} {d e : Part} (K : Kernel) → FrameFits K t fr d e → PlainFrame fr → (vs : List Variable) → PartIn d vs → PartIn e (vs ++ in_frame fr)
frame_in K (around_statement {sc = sc} {b = b} {rest = rest} {s = s} done e f all) p vs h = record { seen = seen_declared (pool_slots (out-KBlock b).decls ++ pools_seen sc.seen) (out-KBlock b).decls sc.seen vs h.seen; main = h.main }
frame_in K (around_end f all) p vs h = tt
frame_in K (around_instance {seat = seat} done k e f r before after q c) p vs h = absurd p
frame_in K (around_part {sc = sc} {s = s} b o) p vs h = record {
  seen = λ slot t e. Contains-append_left vs [] (variable slot t) (h.seen slot t (subst (λ l. variable_ty (find slot l) ≡ Some t) (part_seen K sc s.node (out-KStmt s.stmt) b o) e));
  main = ap is_in_code (part_code K sc s.node (out-KStmt s.stmt) b o) ∙ h.main;
}
frame_in K (around_turn {sc = sc} {s = s} k b e c) p vs h = record {
  seen = λ slot t z. subst (λ l. Contains (vs ++ looped l) (variable slot t)) (sym e) (seen_turned K sc s.node k vs h.seen slot t z);
  main = ap is_in_code (turn_code K sc s.node k) ∙ h.main;
}
frame_in K (around_call c es f t k e q) p vs h = absurd p
frame_in K (around_branch {sc = sc} {s = s} k slot bs b cs e x y) p vs h = absurd p

-- ---- targets

ty_is : (o : Option Ty) (t : Ty) → has_ty o t ≡ true → o ≡ Some t
ty_is None t h = absurd (false≢true h)
ty_is (Some u) t h = ap Some (same_is u t h)

-- a variable that is read, or assigned, is one of those around
pub read_in : (K : Kernel) (sc : Scope) (l : Loc) (vs : List Variable) → ScopeIn sc vs → reads K sc l ≡ true → (l.outer ≡ false) × Contains vs (variable l.slot l.ty)
read_in K sc l vs h e = go l.outer refl e
  where
    outside : (b : Bool) → is_in_code sc.code ≡ b → b ≡ false → (o : Option SlotKind) → has_ty (variable_ty (if b then o else None)) l.ty ≡ true → ⊥
    outside true q f o k = false≢true (sym f)
    outside false q f o k = false≢true k

    go : (b : Bool) → l.outer ≡ b → has_ty (variable_ty (if b then (if is_in_code sc.code then find l.slot (declared_seen [] (out-KBlock K.body).decls []) else None) else find l.slot sc.seen)) l.ty ≡ true
        → (l.outer ≡ false) × Contains vs (variable l.slot l.ty)
    go true q k = absurd (outside (is_in_code sc.code) refl h.main (find l.slot (declared_seen [] (out-KBlock K.body).decls [])) k)
    go false q k = (q, h.seen l.slot l.ty (ty_is (variable_ty (find l.slot sc.seen)) l.ty k))

pub record TargetIn (l : Loc) (t : Ty) (vs : List Variable) : Type 0 where
  pub own : l.outer ≡ false
  pub there : Contains vs (variable l.slot l.ty)
  pub holds : (v : ℤ) → IsValue t v → IsValue l.ty v

pub target_in : (K : Kernel) (sc : Scope) (l : Loc) (t : Ty) (vs : List Variable) → ScopeIn sc vs → takes K sc t l ≡ true → TargetIn l t vs
target_in K sc l t vs h e =
    let a = and_parts (reads K sc l && not (is_loop_variable (looked_up K sc l)) && not (same_ty t ty.None)) (holds_all l.ty t) e in
    let b = and_parts (reads K sc l && not (is_loop_variable (looked_up K sc l))) (not (same_ty t ty.None)) a.0 in
    let c = and_parts (reads K sc l) (not (is_loop_variable (looked_up K sc l))) b.0 in
    let r = read_in K sc l vs h c.0 in
    record { own = r.0; there = r.1; holds = λ v i. held_value l.ty t v a.1 i }
