-- What is written is of the type of its slot: aliases, parameters and the variables of loops.
use Rattle.std.proofs.Common.{◌≡◌, refl, ap, ◌∙◌, subst, ℕ, ℤ, pos, true, inl, inr, List, [], ◌∷◌, Option, Some, None, Result, Ok, Err, arith}
use Rattle.ceu_base.specs.declared.kinds.Pos.{Pos}
use Rattle.ceu_base.specs.declared.kinds.Fault.{Fault}
use Rattle.ceu_base.specs.declared.kinds.Ty.{Ty}
use Rattle.ceu_base.specs.Values.{IsValue}
use Rattle.ceu_tree.specs.declared.kernel.Kernel.{Kernel}
use Rattle.ceu_tree.specs.declared.kernel.KDecl.{KDecl}
use Rattle.ceu_tree.specs.declared.kernel.KKind.{KKind}
use Rattle.ceu_tree.specs.declared.kernel.KKind.TheVariants as kind
use Rattle.ceu_tree.specs.declared.kernel.KExp.{KExp}
use Rattle.ceu_tree.specs.declared.kernel.Loc.{Loc}
use Rattle.ceu_tree.specs.Residual.{Body}
use Rattle.ceu_tree.specs.World.{Cell, Holds, NotSet, Names, World, set, set_alias, set_parameters, assign_if}
use Rattle.ceu_tree.specs.Expressions.{Answer, and_then, value_of, values_of}
use Rattle.ceu_tree.specs.Proper.{SlotKind, IsVariable, IsLoopVariable, IsPool, IsAlias, Scope, slot_kind, is_proper}
use Rattle.laws_meaning_basics.proofs.Static.{names_of}
use Rattle.laws_meaning_values.specs.Results.{IsResult}
use Rattle.laws_meaning_slots.specs.Declared.{decl_rows, rows, kind_at}
use Rattle.laws_meaning_slots.specs.Typed.{cell_typed, arguments_typed}
use Rattle.laws_meaning_slots.proofs.Slots.{once}
use Rattle.laws_meaning_slots.proofs.Values.{lie_put}
use Rattle.laws_meaning_slots.proofs.Rows.{Incl, kind_of_row}
use Rattle.laws_meaning_slots.proofs.Known.{row, KnownSeen}
use Rattle.laws_meaning_slots.proofs.Writes.{target_takes}
use Rattle.laws_meaning_slots.proofs.Typing.{typed_count, AllTyped, zero_value, assign_typed}
use Rattle.laws_meaning_types.specs.Ready.{takes_value}

pub takes_zero : (o : Option Loc) → takes_value o (pos 0)
takes_zero None = tt
takes_zero (Some l) = zero_value l.ty

pub ok_is : (u v : ℤ) → (let a : Answer = Ok u in a ≡ Ok v) → u ≡ v
ok_is u v e = ap (λ a. elim a [ Ok z ↦ z | Err y ↦ u ]) e

-- an alias's cell says nothing of types
abbrev names_only : Cell → Type 0
names_only (Holds v) = ⊥
names_only c = Unit {0}

alias_typed : (o : Option SlotKind) (c : Cell) → names_only c → cell_typed o c ≡ true
alias_typed None c h = refl
alias_typed (Some (IsVariable t)) (Holds v) h = elim h [ ]
alias_typed (Some (IsVariable t)) NotSet h = refl
alias_typed (Some (IsVariable t)) (Names k) h = refl
alias_typed (Some IsLoopVariable) (Holds v) h = elim h [ ]
alias_typed (Some IsLoopVariable) NotSet h = refl
alias_typed (Some IsLoopVariable) (Names k) h = refl
alias_typed (Some (IsPool c)) d h = refl
alias_typed (Some (IsAlias c ps)) d h = refl

-- the values of parameters
abbrev pub Given : List KDecl → List ℤ → Type 0
Given (d ∷ ds) (v ∷ vs) = ((t : Ty) → d.kind ≡ kind.Var t → IsValue t v) × Given ds vs
Given ds vs = Unit {0}

kind_typed : (ps : List ℕ) (k : KKind) (v : ℤ) → ((t : Ty) → k ≡ kind.Var t → IsValue t v) → cell_typed (Some (slot_kind ps k)) (Holds v) ≡ true
kind_typed ps (kind.Var t) v h = h t refl
kind_typed ps (kind.Alias c) v h = refl
kind_typed ps (kind.Pool n c) v h = refl

module _ (K : Kernel) (proper : is_proper K ≡ true) where
  pub put_typed : (body : Body) (slot : ℕ) (c : Cell) (w : World) → cell_typed (kind_at slot (rows K)) c ≡ true → AllTyped K proper w
      → AllTyped K proper (set body slot c w)
  put_typed body slot c w e x = lie_put (typed_count K proper) body slot c w.values (let a = ap once e in omega (arith, a)) x

  pub unset_typed : (body : Body) (slot : ℕ) (w : World) → AllTyped K proper w → AllTyped K proper (set body slot NotSet w)
  unset_typed body slot w x = put_typed body slot NotSet w (alias_typed (kind_at slot (rows K)) NotSet tt) x

  pub aliases_typed : (body : Body) (o : Option ℕ) (c : Cell) (w : World) → names_only c → AllTyped K proper w
      → AllTyped K proper (set_alias body o c w)
  aliases_typed body None c w h x = x
  aliases_typed body (Some a) c w h x = put_typed body a c w (alias_typed (kind_at a (rows K)) c h) x

  pub params_typed : (ps : List ℕ) (body : Body) (ds : List KDecl) (vs : List ℤ) (w : World) → Incl (decl_rows ps ds) (rows K) → Given ds vs
      → AllTyped K proper w → AllTyped K proper (set_parameters body ds vs w)
  params_typed ps body [] vs w i h x = x
  params_typed ps body (d ∷ ds) [] w i h x = x
  params_typed ps body (d ∷ ds) (v ∷ vs) w i h x =
      let e = kind_of_row K proper (row d.slot (slot_kind ps d.kind)) (i (row d.slot (slot_kind ps d.kind)) (inl refl)) in
      params_typed ps body ds vs (set body d.slot (Holds v) w) (λ r m. i r (inr m)) h.1
      (put_typed body d.slot (Holds v) w (ap (λ o. cell_typed o (Holds v)) e ∙ kind_typed ps d.kind v h.0) x)

  pub targets_typed : (sc : Scope) (o : Option Loc) (v : ℤ) (body : Body) (w : World) → KnownSeen K proper sc.seen → target_takes K (names_of K) sc o
      → takes_value o v → AllTyped K proper w → AllTyped K proper (assign_if body o v w)
  targets_typed sc None v body w k r h x = x
  targets_typed sc (Some l) v body w k r h x = assign_typed K proper sc l v body w k r h x

  ok_same : (xs ys : List ℤ) → (let a : Result (List ℤ) (Fault × Pos) = Ok xs in a ≡ Ok ys) → xs ≡ ys
  ok_same xs ys e = ap (λ o. elim o [ Ok zs ↦ zs | Err z ↦ xs ]) e

  pub arguments_given : (body : Body) (w : World) (ds : List KDecl) (es : List KExp) (vs : List ℤ) → arguments_typed K body w ds es
      → values_of es body w ≡ Ok vs → Given ds vs
  arguments_given body w [] es vs h q = tt
  arguments_given body w (d ∷ ds) [] vs h q = subst (Given (d ∷ ds)) (ok_same [] vs q) tt
  arguments_given body w (d ∷ ds) (e ∷ es) vs h q = go (value_of e body w) refl (values_of es body w) (λ us z. arguments_given body w ds es us h.1 z) q
    where
      go : (a : Answer) → value_of e body w ≡ a → (b : Result (List ℤ) (Fault × Pos)) → ((us : List ℤ) → b ≡ Ok us → Given ds us)
          → and_then a (λ v. and_then b (λ us. Ok (v ∷ us))) ≡ Ok vs → Given (d ∷ ds) vs
      go (Ok v) p (Ok us) ih z = subst (Given (d ∷ ds)) (ok_same (v ∷ us) vs z) ((λ t k. subst (IsResult t) p (h.0 t k)), ih us refl)
      go (Ok v) p (Err y) ih z = absurd (cc)
      go (Err y) p b ih z = absurd (cc)
