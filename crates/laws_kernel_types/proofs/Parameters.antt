-- The parameters of code: their types, and what they stand for in its body.
use Rattle.std.proofs.Common.{◌≡◌, refl, ap, ◌∙◌, subst, ℕ, ◌+◌, length, arith, List, [], ◌∷◌, ◌++◌, Option, None, Ok, true}
use Rattle.std.specs.Prelude.{⊤, IsTrue, not, nat_le, fold, if◌then◌else◌}
use Rattle.ceu_base.specs.declared.kinds.Ty.{Ty}
use Rattle.ceu_base.specs.declared.kinds.Ty.TheVariants as ty
use Rattle.ceu_base.specs.declared.kinds.Rule.TheVariants.{T1, T4}
use Rattle.ceu_tree.specs.declared.source.Class.TheVariants as class
use Rattle.ceu_tree.specs.declared.source.Decl.{Decl}
use Rattle.ceu_tree.specs.declared.source.Ident.{Ident}
use Rattle.ceu_tree.specs.declared.source.Param.{Param}
use Rattle.ceu_tree.specs.declared.kernel.Kernel.{Kernel}
use Rattle.ceu_tree.specs.declared.kernel.KDecl.{KDecl}
use Rattle.ceu_tree.specs.declared.kernel.KKind.TheVariants as kind
use Rattle.ceu_tree.specs.Typing.{same_ty}
use Rattle.ceu_tree.specs.Proper.{Where}
use Rattle.ceu_scopes.specs.declared.known.Scopes.{Scopes}
use Rattle.ceu_scopes.specs.declared.walk.Walk.{Walk}
use Rattle.ceu_scopes.specs.Shown.{rest_of}
use Rattle.ceu_scopes.specs.Walk as walk
use Rattle.ceu_scopes.specs.Walk.{Broken, ◌>>=◌, shown, fresh, block_of}
use Rattle.ceu_scopes.specs.Rules.{declared}
use Rattle.ceu_scopes.specs.Names.{param_declared}
use Rattle.ceu_types.specs.declared.typing.Types.{Types}
use Rattle.ceu_types.specs.declared.found.Found.{Found}
use Rattle.ceu_types.specs.Typing.{is_none_type}
use Rattle.ceu_types.specs.Notes.{asks}
use Rattle.ceu_types.specs.Uses.{is_parameter, leading_parameters}
use Rattle.ceu_types.specs.Statements.{acts, name_typed, param_found, params_found}
use Rattle.ceu_expand.specs.declared.draft.Draft.{Draft}
use Rattle.ceu_expand.specs.Draft as draft
use Rattle.ceu_expand.specs.Lists.{each}
use Rattle.ceu_expand.specs.Parts as parts
use Rattle.laws_kernel_shape.specs.Shaped.{AllOf}
use Rattle.laws_kernel_shape.proofs.Inside.{append_assoc, append_none}
use Rattle.laws_kernel_names.proofs.Stepping.{length_more}
use Rattle.laws_kernel_shape.proofs.Fine.{Fine, fine_asks}
use Rattle.laws_kernel_types.specs.Typed.{ParamTyped}
use Rattle.laws_kernel_types.proofs.Noting as noting
use Rattle.laws_kernel_types.proofs.Noting.{Prefix, prefix_less}
use Rattle.laws_kernel_types.proofs.Passing.{typed_name_step}
use Rattle.laws_kernel_types.proofs.Meaning.{Matches, HasType}
use Rattle.laws_kernel_types.proofs.Naming.{then_ok, ok_is, prefix_then, prefix_same, Plainly, Now, declared_ok, declared_now, shown_by, stands_there}
use Rattle.laws_kernel_types.proofs.Declaring.{declared_takes, means_there}
use Rattle.laws_kernel_types.proofs.Blocks.{name_has_type}

-- declarations of parameters in the kernel and in the text
abbrev pub Paired : List KDecl → List Decl → Type 0
Paired [] [] = ⊤
Paired (k ∷ ks) (d ∷ ds) = (k.kind ≡ kind.Var d.ty) × (is_parameter d.class ≡ true) × Paired ks ds
Paired _ _ = ⊥

plain_leads : (ds : List Decl) → Plainly ds → leading_parameters ds ≡ 0
plain_leads [] h = refl
plain_leads (d ∷ ds) h = ap (λ b. if b then 1 + leading_parameters ds else 0) h

pub pair_matches : (ks : List KDecl) (ds rest : List Decl) → Paired ks ds → Plainly rest → Matches ks (ds ++ rest)
pair_matches [] [] rest h plain = plain_leads rest plain
pair_matches (k ∷ ks) (d ∷ ds) rest h plain = (h.0, h.1, pair_matches ks ds rest h.2 plain)
pair_matches [] (d ∷ ds) rest h plain = absurd h
pair_matches (k ∷ ks) [] rest h plain = absurd h

abbrev pub AllTyped : List Param → Type 0
AllTyped ps = AllOf (λ (p : Param). IsTrue (not (same_ty p.ty ty.None))) ps

-- ---- the rules on types

named_fine : (place : Where) (u : Ty) (x : Ident) (f : Found) → Fine place (name_typed u x f) → Fine place f
unfolding name_typed
named_fine place u x f h = (fine_asks place (not (is_none_type u)) T1 x.pos f h).1

each_fine : (place : Where) (ps : List Param) (f : Found) → Fine place (fold param_found f ps) → AllTyped ps × Fine place f
each_fine place [] f h = (tt, h)
each_fine place (p ∷ ps) f h =
    let k = each_fine place ps (name_typed p.ty p.name f) h in
    ((name_has_type place p.ty p.name f k.1, k.0), named_fine place p.ty p.name f k.1)

pub params_fine : (place : Where) (x : Ident) (ps : List Param) (f : Found) → Fine place (params_found x ps f) → (nat_le (length ps) 255 ≡ true) × AllTyped ps
unfolding params_found
params_fine place x ps f h =
    let k = each_fine place ps (asks (nat_le (length ps) 255) T4 x.pos (acts f)) h in
    ((fine_asks place (nat_le (length ps) 255) T4 x.pos (acts f) k.1).0, k.0)

pub params_notes : (s : Scopes) (t : Types) (x : Ident) (ps : List Param) (f : Found) (d : Draft) → noting.Step s t f d (params_found x ps f) d
unfolding params_found
params_notes s t x ps f d =
    noting.step_then s t (noting.acts_step s t f d) (noting.step_then s t (noting.asks_step s t (nat_le (length ps) 255) T4 x.pos (acts f) d) (each_notes ps (asks (nat_le (length ps) 255) T4 x.pos (acts f))))
  where
    each_notes : (ps : List Param) (f : Found) → noting.Step s t f d (fold param_found f ps) d
    each_notes [] f = noting.none_step s t f d
    each_notes (p ∷ ps) f = noting.step_then s t (typed_name_step s t p.ty p.name f d) (each_notes ps (name_typed p.ty p.name f))

-- ---- what they stand for

module _ (s : Scopes) (numbers : List ℕ) (K : Kernel) (code : Option ℕ) where
  pub record Params (ps : List Param) (w v : Walk) (d e : Draft) : Type 0 where
    pub ds : List Decl
    pub is : v.decls ≡ w.decls ++ ds
    pub ks : List KDecl
    pub decls : e.parts.decls ≡ d.parts.decls ++ ks
    pub paired : Paired ks ds
    pub count : length ks ≡ length ps
    pub uses : v.uses ≡ w.uses
    pub given : Prefix d.numbers e.numbers
    pub rest : rest_of v.scopes ≡ rest_of w.scopes
    pub typed : AllTyped ps → AllOf ParamTyped ks
    pub now : AllTyped ps → Prefix v.decls s.decls → Prefix e.numbers numbers → Now s numbers K code w d → Now s numbers K code v e

  none_params : (w : Walk) (d : Draft) → Params [] w w d d
  none_params w d =
      record {
        ds = [];
        is = append_none w.decls;
        ks = [];
        decls = append_none d.parts.decls;
        paired = tt;
        count = refl;
        uses = refl;
        given = prefix_same d.numbers d.numbers refl;
        rest = refl;
        typed = λ all. tt;
        now = λ all ds ns now. now;
      }

  pub params_walked : (ps : List Param) (w v : Walk) (d : Draft) → walk.each param_declared ps w ≡ Ok v → Params ps w v d (each parts.param_declared ps d)
  unfolding walk.each each draft.declared
  params_walked [] w v d h = subst (λ v. Params [] w v d d) (ok_is w v (Ok w) refl h) (none_params w d)
  params_walked (p ∷ ps) w v d h =
      let k = then_ok (param_declared p w) (walk.each param_declared ps) v h in
      let i = then_ok (declared class.Param p.ty None p.name w) (shown p.name (fresh class.Param 0 w)) k.0 k.1 in
      let e1 = parts.param_declared p d in
      let e = each parts.param_declared ps e1 in
      let takes = declared_takes s numbers K code (kind.Var p.ty) p.name d in
      let show = shown_by s numbers K code p.name (fresh class.Param 0 w) i.0 k.0 e1 i.2 in
      let rest = params_walked ps k.0 v e1 k.2 in
      let y : Decl = record { class = class.Param; ty = p.ty; pos = p.name.pos; block = block_of w.scopes; name = p.name.name } in
      let kd : KDecl = record { slot = d.parts.slot; kind = kind.Var p.ty; name = p.name.name; pos = p.name.pos } in
      let one = declared_ok s numbers K code class.Param p.ty None p.name w i.0 i.1 in
      let one_decls : i.0.decls ≡ w.decls ++ y ∷ [] = ap (λ (w : Walk). w.decls) one in
      let all : v.decls ≡ i.0.decls ++ rest.ds = rest.is ∙ ap (λ xs. xs ++ rest.ds) show.decls in
      let count : length e1.numbers ≡ length d.numbers + 1 = ap length takes.takes ∙ length_more d.numbers d.parts.slot in
      let many = rest.count in
      record {
        ds = y ∷ rest.ds;
        is = all ∙ ap (λ xs. xs ++ rest.ds) one_decls ∙ append_assoc w.decls (y ∷ []) rest.ds;
        ks = kd ∷ rest.ks;
        decls = rest.decls ∙ append_assoc d.parts.decls (kd ∷ []) rest.ks;
        paired = (refl, refl, rest.paired);
        count = omega (arith, many);
        uses = rest.uses ∙ show.uses ∙ ap (λ (w : Walk). w.uses) one;
        given = prefix_less d.numbers (d.parts.slot ∷ []) e.numbers rest.given;
        rest = rest.rest ∙ show.rest ∙ ap (λ (w : Walk). rest_of w.scopes) one;
        typed = λ ts. (ts.0, rest.typed ts.1);
        now = λ ts ds ns now.
            let first : Prefix i.0.decls s.decls = prefix_then i.0.decls v.decls s.decls (rest.ds, all) ds in
            let given : Prefix e1.numbers numbers = prefix_then e1.numbers e.numbers numbers rest.given ns in
            let equal = now.decls in
            let there = stands_there s numbers K code class.Param p.ty None p.name d.parts.slot w i.0 d e1 i.1 takes.takes first given now HasType (λ z a b. ap (λ r. not (same_ty r ty.None)) b ∙ ts.0) in
            let inner = declared_now s numbers K code class.Param p.ty None p.name d.parts.slot w i.0 d e1 takes i.1 now in
            rest.now ts.1 ds ns (show.now (means_there s numbers K code class.Param 0 (length e1.numbers) w (omega (arith, count, equal)) there) inner);
      }
