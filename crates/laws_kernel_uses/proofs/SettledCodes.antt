-- Code begins with its parameters: they have slots of their own, behind those of the program and of the codes above.
use Rattle.std.proofs.Common.{◌≡◌, ◌≢◌, refl, sym, ap, ◌∙◌, subst, ℕ, ◌≤◌, ◌+◌, length, arith, List, [], ◌∷◌, ◌++◌, None, Some, Ok}
use Rattle.std.specs.Prelude.{slice_get}
use Rattle.ceu_base.specs.declared.kinds.Ty.{Ty}
use Rattle.ceu_tree.specs.declared.source.Class.{Class}
use Rattle.ceu_tree.specs.declared.source.Class.TheVariants as class
use Rattle.ceu_tree.specs.declared.source.Ident.{Ident}
use Rattle.ceu_tree.specs.declared.source.Param.{Param}
use Rattle.ceu_tree.specs.declared.kernel.KBlock.{KBlock}
use Rattle.ceu_tree.specs.declared.kernel.KKind.TheVariants as kind
use Rattle.ceu_scopes.specs.declared.known.Known.{Known}
use Rattle.ceu_scopes.specs.declared.known.Scopes.{Scopes}
use Rattle.ceu_scopes.specs.declared.scope.Border.TheVariants.{Body}
use Rattle.ceu_scopes.specs.declared.walk.Walk.{Walk}
use Rattle.ceu_scopes.specs.Walk.{Broken, ◌>>=◌, opened, shown, fresh}
use Rattle.ceu_scopes.specs.Walk as walk
use Rattle.ceu_scopes.specs.Rules.{inside_broken, declared}
use Rattle.ceu_scopes.specs.Names.{param_declared, params_opened}
use Rattle.ceu_expand.specs.declared.draft.Draft.{Draft}
use Rattle.ceu_expand.specs.declared.draft.Parts.{Parts}
use Rattle.ceu_expand.specs.Draft.{standing, entered, left, with_code}
use Rattle.ceu_expand.specs.Lists.{each}
use Rattle.ceu_expand.specs.Parts as parts
use Rattle.ceu_expand.specs.Expansion.{code_begun, code_ended}
use Rattle.laws_kernel_shape.proofs.Steps.{Always, always_ok, always_then}
use Rattle.laws_kernel_shape.proofs.Whole.{bare, params_are}
use Rattle.laws_kernel_names.proofs.Stepping.{scopes_map, Fits}
use Rattle.laws_kernel_uses.proofs.Absent.{named_front}
use Rattle.laws_kernel_uses.proofs.Knowing.{Means, MeansOf, Knows, Outside, Declares, declares, shown_shows, calm_knows, opened_step}
use Rattle.laws_kernel_uses.proofs.Parts.{declared_is, fresh_slot}

-- ---- the table so far

module _ (T U : List (List ℕ)) where
  front_of : (n : ℕ) (numbers : List ℕ) (k : Known) (c : Class) → MeansOf (T ++ U) n numbers k c → MeansOf T n numbers k c
  front_of n numbers k class.Var h = h
  front_of n numbers k class.Param h = h
  front_of n numbers k class.LoopVar h = h
  front_of n numbers k class.Alias h = h
  front_of n numbers k class.Code h = (h.0, h.1, named_front n T U h.0 h.2)
  front_of n numbers k class.Event h = tt
  front_of n numbers k class.Input h = tt
  front_of n numbers k class.Output h = tt
  front_of n numbers k class.Pool h = tt

  knows_front : (n : ℕ) (w : Walk) (d : Draft) → Knows (T ++ U) n w d → Knows T n w d
  knows_front n w d h = record { uses = h.uses; decls = h.decls; means = scopes_map (Means (T ++ U) n d.numbers) (Means T n d.numbers) (λ k m. front_of n d.numbers k k.class m) w.scopes h.means }

pub knows_of : (whole T U : List (List ℕ)) → whole ≡ T ++ U → (n : ℕ) (w : Walk) (d : Draft) → Knows whole n w d → Knows T n w d
knows_of whole T U e n w d h = knows_front T U n w d (subst (λ x. Knows x n w d) e h)

module _ (T : List (List ℕ)) (s : Scopes) where
  -- ---- parameters

  record Names (w : Walk) (d : Draft) (v : Walk) (e : Draft) : Type 0 where
    fits : Fits s v → Fits s w
    owns : d.parts.slot ≤ e.parts.slot
    means : (n : ℕ) (k : Known) → Means T n d.numbers k → Means T n e.numbers k
    knows : (n : ℕ) → Outside d.parts.slot e.parts.slot n → Knows T n w d → Knows T n v e

  names_then : {w v u : Walk} {d e c : Draft} → Names w d v e → Names v e u c → Names w d u c
  names_then {d = d} {e = e} {c = c} a b =
      let p : d.parts.slot ≤ e.parts.slot = a.owns in
      let q : e.parts.slot ≤ c.parts.slot = b.owns in
      record {
        fits = λ f. a.fits (b.fits f);
        owns = omega (arith, p, q);
        means = λ n k m. b.means n k (a.means n k m);
        knows = λ n o k. b.knows n (λ lo hi. o (omega (arith, p, lo)) hi) (a.knows n (λ lo hi. o lo (omega (arith, q, hi))) k);
      }

  param_names : (p : Param) (w : Walk) (d : Draft) → Always (λ v. Names w d v (parts.param_declared p d)) (param_declared p w)
  param_names p w d =
      let e = parts.param_declared p d in
      let is = declared_is T s (kind.Var p.ty) p.name d in
      let m = d.parts.slot in
      always_then (λ y. Declares T s m w d y e) (λ v. Names w d v e) (declared class.Param p.ty None p.name w) (shown p.name (fresh class.Param 0 w)) (declares T s class.Param p.ty None p.name m w d e is.uses is.numbers is.slot)
      (λ y dec v i.
      let sh = shown_shows T s p.name (fresh class.Param 0 w) y e v i in
      let own : e.parts.slot ≡ m + 1 = ap (λ (p : Parts). p.slot) is.parts in
      record {
        fits = λ g. dec.step.fits ((sh 0).fits g);
        owns = omega (arith, own);
        means = dec.step.means;
        knows = λ n o kn.
            let other : m ≢ n = λ eq. o (omega (arith, eq)) (omega (arith, eq, own)) in
            (sh n).knows (dec.step.knows n (λ lo hi. omega (arith, is.slot, lo, hi)) kn) (fresh_slot T s class.Param 0 w n e.numbers m refl (dec.number kn.decls) other);
      })

  params_names : (ps : List Param) (w : Walk) (d : Draft) → Always (λ v. Names w d v (each parts.param_declared ps d)) (walk.each param_declared ps w)
  unfolding each walk.each
  params_names [] w d = always_ok (λ v. Names w d v d) w (record { fits = λ f. f; owns = omega arith; means = λ n k m. m; knows = λ n o k. k })
  params_names (p ∷ ps) w d =
      let e = parts.param_declared p d in
      always_then (λ v. Names w d v e) (λ v. Names w d v (each parts.param_declared ps e)) (param_declared p w) (walk.each param_declared ps) (param_names p w d) (λ v one u k. names_then one (params_names ps v e u k))

  -- ---- code begins

  record Head (ps : List Param) (d : Draft) : Type 0 where
    uses : (entered (length ps) (standing (length d.codes) d)).uses ≡ d.uses
    numbers : (entered (length ps) (standing (length d.codes) d)).numbers ≡ (standing (length d.codes) d).numbers
    begins : code_begun ps d ≡ each parts.param_declared ps (entered (length ps) (standing (length d.codes) d))
    own : (entered (length ps) (standing (length d.codes) d)).parts.slot ≡ d.other_slot
    stood_uses : (standing (length d.codes) d).uses ≡ d.uses
    stood_numbers : (standing (length d.codes) d).numbers ≡ d.numbers ++ length d.codes ∷ []
    stood_slot : (standing (length d.codes) d).slot ≡ d.slot

  head : (ps : List Param) (d : Draft) → Head ps d
  unfolding code_begun entered standing
  head ps d = record { uses = refl; numbers = refl; begins = refl; own = refl; stood_uses = refl; stood_numbers = refl; stood_slot = refl }

  pub record Began (ps : List Param) (d : Draft) : Type 0 where
    pub slot : (code_begun ps d).slot ≡ d.other_slot + length ps
    pub own : (code_begun ps d).parts.slot ≡ d.other_slot + length ps
    pub codes : (code_begun ps d).codes ≡ d.codes
    pub other : (code_begun ps d).other_slot ≡ d.slot

  pub began : (ps : List Param) (d : Draft) → Began ps d
  unfolding code_begun entered standing bare
  began ps d =
      let params = params_are ps (entered (length ps) (standing (length d.codes) d)) in
      record { slot = ap (λ (e : Draft). e.slot) params.stays; own = params.slot_is; codes = ap (λ (e : Draft). e.codes) params.stays; other = ap (λ (e : Draft). e.other_slot) params.stays }

  -- its name, then its parameters in a block of their own
  pub record Enters (ps : List Param) (w : Walk) (d : Draft) (v : Walk) : Type 0 where
    pub fits : Fits s v → Fits s w
    pub number : length w.decls ≡ length d.numbers → slice_get (standing (length d.codes) d).numbers (length w.decls) ≡ Some (length d.codes)
    pub means : (n : ℕ) (k : Known) → Means T n (standing (length d.codes) d).numbers k → Means T n (code_begun ps d).numbers k
    pub knows : (n : ℕ) → Outside d.other_slot (code_begun ps d).parts.slot n → Knows T n w d → Knows T n v (code_begun ps d)

  pub enters : (x : Ident) (ps : List Param) (t : Ty) (w w1 w3 : Walk) (d : Draft) → declared class.Code t (inside_broken w.scopes) x w ≡ Ok w1 → params_opened x.name ps w1 ≡ Ok w3 → Enters ps w d w3
  enters x ps t w w1 w3 d e1 e3 =
      let c = length d.codes in
      let stood = standing c d in
      let first = entered (length ps) stood in
      let inside = code_begun ps d in
      let hd = head ps d in
      let dec = declares T s class.Code t (inside_broken w.scopes) x c w d stood hd.stood_uses hd.stood_numbers hd.stood_slot w1 e1 in
      let open' = opened_step T s (Body x.name) w1 first in
      let names : Names (opened (Body x.name) w1) first w3 inside = subst (λ e. Names (opened (Body x.name) w1) first w3 e) (sym hd.begins) (params_names ps (opened (Body x.name) w1) first w3 e3) in
      record {
        fits = λ f. dec.step.fits (open'.fits (names.fits f));
        number = dec.number;
        means = λ n k m. names.means n k (subst (λ ns. Means T n ns k) (sym hd.numbers) m);
        knows = λ n o kn.
            let k1 = dec.step.knows n (λ lo hi. omega (arith, hd.stood_slot, lo, hi)) kn in
            let k2 = calm_knows T s n w1 stood first (hd.uses ∙ sym hd.stood_uses) hd.numbers k1 in
            let k3 = open'.knows n (λ lo hi. omega (arith, lo, hi)) k2 in
            names.knows n (λ lo hi. o (omega (arith, hd.own, lo)) hi) k3;
      }

  -- what ends with the code
  pub record Ended (x : Ident) (result : Ty) (made : KBlock) (d after : Draft) : Type 0 where
    pub uses : (code_ended x result made d.parts after).uses ≡ after.uses
    pub numbers : (code_ended x result made d.parts after).numbers ≡ after.numbers
    pub slot : (code_ended x result made d.parts after).slot ≡ after.other_slot
    pub other : (code_ended x result made d.parts after).other_slot ≡ after.slot
    pub parts_are : (code_ended x result made d.parts after).parts ≡ d.parts
    pub codes : (code_ended x result made d.parts after).codes ≡ after.codes ++ record { name = x.name; params = after.parts.decls; result = result; body = made } ∷ []

  pub ended : (x : Ident) (result : Ty) (made : KBlock) (d after : Draft) → Ended x result made d after
  unfolding code_ended left with_code
  ended x result made d after = record { uses = refl; numbers = refl; slot = refl; other = refl; parts_are = refl; codes = refl }
