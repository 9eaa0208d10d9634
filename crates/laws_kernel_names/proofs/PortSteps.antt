-- Names that the outermost block shows stay shown, and a port's name is new there.
use Rattle.std.proofs.Common.{◌≡◌, refl, sym, ap, ◌∙◌, subst, ℕ, suc, ◌≤◌, length, arith, List, [], ◌∷◌, Option, Some, None, Bool, true, false}
use Rattle.std.specs.Prelude.{if◌then◌else◌, is_some, bytes_eq}
use Rattle.ceu_base.specs.declared.kinds.Ty.{Ty}
use Rattle.ceu_base.specs.declared.kinds.Rule.{Rule}
use Rattle.ceu_base.specs.declared.kinds.Rule.TheVariants.{N2}
use Rattle.ceu_base.specs.declared.kinds.Pos.{Pos}
use Rattle.ceu_tree.specs.declared.source.Class.{Class}
use Rattle.ceu_tree.specs.declared.source.Ident.{Ident}
use Rattle.ceu_scopes.specs.declared.known.Known.{Known}
use Rattle.ceu_scopes.specs.declared.scope.Border.{Border}
use Rattle.ceu_scopes.specs.declared.scope.Scope.{Scope}
use Rattle.ceu_scopes.specs.declared.walk.Walk.{Walk}
use Rattle.ceu_scopes.specs.Shown.{found, entered, rest_of}
use Rattle.ceu_scopes.specs.Walk.{opened, shown, with_name, fresh, outermost, names_of}
use Rattle.ceu_scopes.specs.Rules.{checked, is_taken, inside_broken, declared}
use Rattle.ceu_scopes.specs.Names.{port_declared}
use Rattle.laws_kernel_shape.proofs.Steps.{Always, always_ok, always_some, always_checked, always_then, Deep, with_name_length}
use Rattle.laws_kernel_names.proofs.NamesKept.{Keeps}
use Rattle.std.proofs.lemmas.Slice.Eq.{bytes_eq-Decides}

-- the block that is open longest shows the name
abbrev pub IsShown : List ℕ → Walk → Type 0
IsShown x w = is_some (found (outermost w.scopes) x) ≡ true

-- ---- names that stay shown

choose_some : (b : Bool) (u u' v v' : Option Known) → is_some u' ≡ true → (is_some v ≡ true → is_some v' ≡ true) → is_some (if b then u else v) ≡ true → is_some (if b then u' else v') ≡ true
choose_some true u u' v v' hu r h = hu
choose_some false u u' v v' hu r h = r h

entered_at : (a : Bool) (e : List ℕ × Known) (es es' : List (List ℕ × Known)) (k : Known) (y : List ℕ) → (is_some (found es y) ≡ true → is_some (found es' y) ≡ true) →
    is_some (found (e ∷ es) y) ≡ true → is_some (found (if a then (e.0, k) ∷ es else e ∷ es') y) ≡ true
entered_at true e es es' k y r h = choose_some (bytes_eq y e.0) (Some e.1) (Some k) (found es y) (found es y) refl (λ i. i) h
entered_at false e es es' k y r h = choose_some (bytes_eq y e.0) (Some e.1) (Some e.1) (found es y) (found es' y) refl r h

entered_found : (es : List (List ℕ × Known)) (x : List ℕ) (k : Known) (y : List ℕ) → is_some (found es y) ≡ true → is_some (found (entered es x k) y) ≡ true
entered_found [] x k y h = absurd (cc)
entered_found (e ∷ es) x k y h = entered_at (bytes_eq x e.0) e es (entered es x k) k y (entered_found es x k y) h

own_at : (a : Bool) (e : List ℕ × Known) (es es' : List (List ℕ × Known)) (x : List ℕ) (k : Known) → bytes_eq x e.0 ≡ a → is_some (found es' x) ≡ true → is_some (found (if a then (e.0, k) ∷ es else e ∷ es') x) ≡ true
own_at true e es es' x k same r = subst (λ b. is_some (if b then Some k else found es x) ≡ true) (sym same) refl
own_at false e es es' x k same r = subst (λ b. is_some (if b then Some e.1 else found es' x) ≡ true) (sym same) r

own_found : (es : List (List ℕ × Known)) (x : List ℕ) (k : Known) → is_some (found (entered es x k) x) ≡ true
own_found [] x k = own_first (bytes_eq x x) ((bytes_eq-Decides x x).1 refl)
  where
    own_first : (b : Bool) → b ≡ true → is_some (if b then Some k else None) ≡ true
    own_first true e = refl
    own_first false e = absurd (cc)
own_found (e ∷ es) x k = own_at (bytes_eq x e.0) e es (entered es x k) x k refl (own_found es x k)

named_shown : (x : List ℕ) (k : Known) (y : List ℕ) (s : List Scope) → is_some (found (outermost s) y) ≡ true → is_some (found (outermost (with_name x k s)) y) ≡ true
named_shown x k y [] h = h
named_shown x k y (s ∷ []) h = entered_found s.names x k y h
named_shown x k y (s ∷ t ∷ outside) h = h

opened_shown : (n : ℕ) (b : Border) (y : List ℕ) (m : ℕ) (s : List Scope) → length s ≡ n → 1 ≤ n → is_some (found (outermost s) y) ≡ true →
    is_some (found (outermost (record { block = m; border = b; names = [] } ∷ s)) y) ≡ true
opened_shown n b y m [] e one h = absurd (omega (arith, e, one))
opened_shown n b y m (s ∷ outside) e one h = h

closed_shown : (n : ℕ) (y : List ℕ) (s : List Scope) → length s ≡ suc n → 1 ≤ n → is_some (found (outermost s) y) ≡ true → is_some (found (outermost (rest_of s)) y) ≡ true
closed_shown n y [] e one h = absurd (omega (arith, e, one))
closed_shown n y (s ∷ []) e one h = absurd (omega (arith, e, one))
closed_shown n y (s ∷ t ∷ outside) e one h = h

abbrev pub StaysShown : List ℕ → ℕ → Walk → Type 0
StaysShown y n w = Deep n w × IsShown y w

rest_length : (n : ℕ) (s : List Scope) → length s ≡ suc n → length (rest_of s) ≡ n
rest_length n [] h = absurd (omega (arith, h))
rest_length n (x ∷ xs) h = omega (arith, h)

pub stays_shown : (y : List ℕ) → Keeps (StaysShown y)
unfolding opened
stays_shown y =
    record {
      by_noted = λ n w k h. h;
      by_declared = λ n w x h. h;
      by_shown = λ n w x k one h. (with_name_length x k w.scopes ∙ h.0, named_shown x k y w.scopes h.1);
      by_opened = λ n w b one h. (ap suc h.0, opened_shown n b y w.blocks w.scopes h.0 one h.1);
      by_closed = λ n w one h. (rest_length n w.scopes h.0, closed_shown n y w.scopes h.0 one h.1);
      by_labels = λ n w ls h. h;
    }

-- ---- a port is declared

shown_one : (s : List Scope) → length s ≡ 1 → outermost s ≡ names_of s
shown_one [] e = absurd (omega (arith, e))
shown_one (s ∷ []) e = refl
shown_one (s ∷ t ∷ outside) e = absurd (omega (arith, e))

own_shown : (x : List ℕ) (k : Known) (s : List Scope) → length s ≡ 1 → is_some (found (outermost (with_name x k s)) x) ≡ true
own_shown x k [] e = absurd (omega (arith, e))
own_shown x k (s ∷ []) e = own_found s.names x k
own_shown x k (s ∷ t ∷ outside) e = absurd (omega (arith, e))

-- the name is new, all that were shown stay, and it is shown
pub record Shows (x : List ℕ) (before after : Walk) : Type 0 where
  pub deep : Deep 1 after
  pub new : is_some (found (outermost before.scopes) x) ≡ false
  pub others : (y : List ℕ) → IsShown y before → IsShown y after
  pub own : IsShown x after

new_name : {A : Type 0} (b : Bool) (r : Option Rule) (place : Pos) (a : A) (P : A → Type 0) → (b ≡ false → P a) → Always P (checked (if b then Some N2 else r) place a)
new_name true r place a P h = always_some P N2 place a
new_name false r place a P h = always_checked P r place a (h refl)

abbrev Ready : List ℕ → Walk → Walk → Type 0
Ready x w v = (v.scopes ≡ w.scopes) × (is_taken w.scopes x ≡ false)

declared_ready : (c : Class) (t : Ty) (r : Option Rule) (x : Ident) (w : Walk) → Always (Ready x.name w) (declared c t r x w)
unfolding declared
declared_ready c t r x w = new_name (is_taken w.scopes x.name) r x.pos _ (Ready x.name w) (λ e. (refl, e))

pub port_shows : (c : Class) (t : Ty) (x : Ident) (w : Walk) → Deep 1 w → Always (Shows x.name w) (port_declared c t x w)
unfolding shown
port_shows c t x w h =
    always_then (Ready x.name w) (Shows x.name w) (declared c t (inside_broken w.scopes) x w) (shown x (fresh c 0 w)) (declared_ready c t (inside_broken w.scopes) x w)
    (λ v k'.
    let k : Known = fresh c 0 w in
    let deep : length v.scopes ≡ 1 = ap length k'.0 ∙ h in
    always_ok (Shows x.name w) (record v { scopes = with_name x.name k v.scopes }) (record {
      deep = with_name_length x.name k v.scopes ∙ deep;
      new = ap (λ ns. is_some (found ns x.name)) (shown_one w.scopes h) ∙ k'.1;
      others = λ y seen. named_shown x.name k y v.scopes (subst (λ s. is_some (found (outermost s) y) ≡ true) (sym k'.0) seen);
      own = own_shown x.name k v.scopes deep;
    }))
