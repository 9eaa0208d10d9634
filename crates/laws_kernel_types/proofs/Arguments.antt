-- The arguments of a call fit the parameters of its code.
use Rattle.std.proofs.Common.{◌≡◌, sym, ap, ◌∙◌, subst, ℕ, suc, ◌+◌, length, drop, arith, List, [], ◌∷◌, Some, Bool, true, false, inl, inr}
use Rattle.std.specs.Prelude.{if◌then◌else◌, slice_get, ◌==◌}
use Rattle.std.proofs.lemmas.Bool.Decides.{Decides-eqb}
use Rattle.std.proofs.lemmas.Option.{slice_get_past}
use Rattle.ceu_base.specs.declared.kinds.Ty.{Ty}
use Rattle.ceu_base.specs.declared.kinds.Rule.TheVariants.{T4}
use Rattle.ceu_tree.specs.declared.source.Decl.{Decl}
use Rattle.ceu_tree.specs.declared.source.Call.{Call}
use Rattle.ceu_tree.specs.declared.source.Exp.{Exp}
use Rattle.ceu_tree.specs.declared.kernel.KDecl.{KDecl}
use Rattle.ceu_tree.specs.declared.kernel.KExp.{KExp}
use Rattle.ceu_tree.specs.declared.kernel.KKind.TheVariants as kind
use Rattle.ceu_tree.specs.Proper.{Where}
use Rattle.ceu_scopes.specs.declared.known.Scopes.{Scopes}
use Rattle.ceu_types.specs.declared.typing.Types.{Types}
use Rattle.ceu_types.specs.declared.found.Found.{Found}
use Rattle.ceu_types.specs.Notes.{asks_own, passed}
use Rattle.ceu_types.specs.Uses.{type_of_decl, is_parameter, leading_parameters, behind, has_parameters, parameter_type}
use Rattle.ceu_types.specs.Expressions.{given}
use Rattle.ceu_types.specs.Statements.{arguments_found, call_found}
use Rattle.ceu_expand.specs.declared.draft.Draft.{Draft}
use Rattle.ceu_expand.specs.Lists.{gathered}
use Rattle.ceu_expand.specs.Uses.{used}
use Rattle.ceu_expand.specs.Expressions.{exp_passed, exp_written}
use Rattle.laws_kernel_shape.proofs.Fine.{fine_own, fine_passed}
use Rattle.laws_kernel_shape.proofs.Beside.{Alike}
use Rattle.laws_kernel_types.specs.Typed.{ExpGiven, ArgGiven, ArgsGiven}
use Rattle.laws_kernel_types.proofs.Noting.{step_then, own_step, used_step}
use Rattle.laws_kernel_types.proofs.Passing.{given_step, arguments_step}
use Rattle.laws_kernel_types.proofs.Expressing.{At}
use Rattle.laws_kernel_types.proofs.Giving.{given_ok}
use Rattle.laws_kernel_types.proofs.Meaning.{Matches}

same_get : (xs : List ℕ) (k u : ℕ) → Alike (length xs) k u → slice_get xs k ≡ slice_get xs u
same_get xs k u (inl e) = ap (slice_get xs) e
same_get xs k u (inr h) = slice_get_past xs k h.0 ∙ sym (slice_get_past xs u h.1)

leads : (b : Bool) (n : ℕ) → b ≡ true → (if b then 1 + n else 0) ≡ suc n
leads true n h = omega arith
leads false n h = absurd (cc)

shift_get : (xs : List Decl) (d : Decl) (ds : List Decl) (i : ℕ) → ((j : ℕ) → slice_get xs (i + j) ≡ slice_get (d ∷ ds) j) → (j : ℕ) → slice_get xs ((i + 1) + j) ≡ slice_get ds j
shift_get xs d ds i h j = let e : (i + 1) + j ≡ i + suc j = omega arith in ap (slice_get xs) e ∙ h (suc j)

module _ (s : Scopes) (t : Types) (place : Where) where
  first_given : (d : KDecl) (u : Ty) (e : KExp) → d.kind ≡ kind.Var u → ExpGiven u e → ArgGiven d.kind e
  first_given d u e same h = subst (λ k. ArgGiven k e) (sym same) h

  args_given : (code : ℕ) (xs : List Decl) → behind s.decls (slice_get s.uses code) ≡ xs → (es : List Exp) (i : ℕ) (ps : List KDecl) (ds : List Decl) → ((j : ℕ) → slice_get xs (i + j) ≡ slice_get ds j) →
      length es ≡ leading_parameters ds → Matches ps ds → (f : Found) (d : Draft) → At s t place f d (arguments_found s code i es f) → ArgsGiven ps (gathered (exp_written s t) exp_passed es d)
  unfolding gathered parameter_type
  args_given code xs same [] i [] ds here count m f d h = tt
  args_given code xs same [] i (p ∷ ps) [] here count m f d h = absurd m
  args_given code xs same [] i (p ∷ ps) (y ∷ ds) here count m f d h = let k = leads (is_parameter y.class) (leading_parameters ds) m.1 in absurd (omega (arith, count, k))
  args_given code xs same (e ∷ es) i [] ds here count m f d h = absurd (omega (arith, count, m))
  args_given code xs same (e ∷ es) i (p ∷ ps) [] here count m f d h = absurd m
  args_given code xs same (e ∷ es) i (p ∷ ps) (y ∷ ds) here count m f d h =
      let u = parameter_type s code i in
      let zero_is : i + 0 ≡ i = omega arith in
      let type_is : u ≡ y.ty = ap (λ l. type_of_decl (slice_get l i)) same ∙ ap type_of_decl (sym (ap (slice_get xs) zero_is) ∙ here 0) in
      let first = given_step s t e u f d in
      let g = given s e u f in
      let c = exp_passed e d in
      let rest = arguments_step s t code (i + 1) es g c in
      let one : At s t place f d g = record { fine = rest.under.back place h.fine; more = rest.grows h.more; level = h.level; count = h.count } in
      let two : At s t place g c (arguments_found s code (i + 1) es g) = record { fine = h.fine; more = h.more; level = first.under.level h.level; count = first.counts h.count } in
      let k = leads (is_parameter y.class) (leading_parameters ds) m.1 in (
        first_given p y.ty (exp_written s t e d) m.0 (subst (λ v. ExpGiven v (exp_written s t e d)) type_is (given_ok s t place e u f d one)),
        args_given code xs same es (i + 1) ps ds (shift_get xs y ds i here) (omega (arith, count, k)) m.2 g c two,
      )

  pub call_given : (c : Call) (f : Found) (d : Draft) → At s t place f d (call_found s c f) → (n : ℕ) → slice_get s.uses d.uses ≡ Some n → (ps : List KDecl) → Matches ps (drop (n + 1) s.decls) →
      ArgsGiven ps (gathered (exp_written s t) exp_passed c.args (used d))
  unfolding call_found has_parameters
  call_given c f d h n listed ps m =
      let test = has_parameters s f.names (length c.args) in
      let f1 = asks_own test T4 f in
      let f2 = passed s f1 in
      let d2 = used d in
      let first = step_then s t (own_step s t test T4 f d) (used_step s t f1 d) in
      let rest = arguments_step s t f.names 0 c.args f2 d2 in
      let fine2 = rest.under.back place h.fine in
      let asked = fine_own place test T4 f (fine_passed s place f1 fine2) in
      let same : behind s.decls (slice_get s.uses f.names) ≡ drop (n + 1) s.decls = ap (behind s.decls) (same_get s.uses f.names d.uses h.level ∙ listed) in
      let test_is : (length c.args == leading_parameters (drop (n + 1) s.decls)) ≡ true = ap (λ l. length c.args == leading_parameters l) (sym same) ∙ asked.0 in
      let at : At s t place f2 d2 (arguments_found s f.names 0 c.args f2) = record { fine = h.fine; more = h.more; level = first.under.level h.level; count = first.counts h.count } in
      args_given f.names (drop (n + 1) s.decls) same c.args 0 ps (drop (n + 1) s.decls) (λ j. ap (slice_get (drop (n + 1) s.decls)) (let e : 0 + j ≡ j = omega arith in e))
      ((Decides-eqb (length c.args) (leading_parameters (drop (n + 1) s.decls))).0 test_is) m f2 d2 at
