-- Ways that lead to aims around a part lead to nothing that is numbered after these aims.
use Rattle.std.proofs.Common.{◌≡◌, refl, sym, ap, ◌∙◌, ◌<◌, ℕ, Bool, true, false, ◌||◌, inl, inr, List, [], ◌∷◌, Option, Some, None, arith}
use Rattle.std.proofs.lemmas.Bool.{ne_eqb, false≢true}
use Rattle.std.specs.List.{list_any}
use Rattle.ceu_tree.specs.declared.kernel.Kernel.{Kernel}
use Rattle.ceu_tree.specs.declared.kernel.Loc.{Loc}
use Rattle.ceu_tree.specs.Paths.{Way, ToEnd, ToEscape, ToBreak, ToContinue, is_escape, is_break, is_continue}
use Rattle.ceu_tree.specs.Proper.{Aim, DoAim, BodyAim, LoopAim, do_aim}
use Rattle.laws_meaning_basics.specs.Shape.{aim_node}
use Rattle.ceu_endings.proofs.Aims.{Below}
use Rattle.laws_bounds_steps.specs.Ways.{leads_to}
use Rattle.laws_bounds_steps.specs.Pays.{IsOf}
use Rattle.laws_bounds_steps.proofs.WayLists.{any_some}
use Rattle.laws_bounds_tables.specs.Exits.{aim_takes, IsAimed, Leads, AllLead}

-- ---- no way of a list passes a test that each of them fails

pub none_any : (p : Way → Bool) (q : List Way) → ((w : Way) → IsOf q w → p w ≡ false) → list_any p q ≡ false
none_any p q f = go (list_any p q) refl
  where
    go : (b : Bool) → list_any p q ≡ b → list_any p q ≡ false
    go false e = e
    go true e = let i = any_some p q e in absurd (false≢true (sym (f i.0 i.1) ∙ i.2))

-- ---- aims that are numbered before

other : (m k n : ℕ) → n < m → n ≡ k → m ≡ k → ⊥
other m k n l e f = omega (arith, l, e, f)

escape_past : (m k n : ℕ) → n < m → n ≡ k → leads_to m (ToEscape k) ≡ false
escape_past m k n l e = ap (λ b. b || false || false) (ne_eqb m k (other m k n l e))

break_past : (m k n : ℕ) → n < m → n ≡ k → leads_to m (ToBreak k) ≡ false
break_past m k n l e = ap (λ b. b || false) (ne_eqb m k (other m k n l e))

continue_past : (m k n : ℕ) → n < m → n ≡ k → leads_to m (ToContinue k) ≡ false
continue_past m k n l e = ne_eqb m k (other m k n l e)

taken_past : (m : ℕ) (a : Aim) (w : Way) → aim_node a < m → aim_takes a w → leads_to m w ≡ false
taken_past m (DoAim n t) ToEnd l h = absurd h
taken_past m (DoAim n t) (ToEscape k) l h = escape_past m k n l h
taken_past m (DoAim n t) (ToBreak k) l h = absurd h
taken_past m (DoAim n t) (ToContinue k) l h = absurd h
taken_past m (BodyAim n t) ToEnd l h = absurd h
taken_past m (BodyAim n t) (ToEscape k) l h = escape_past m k n l h
taken_past m (BodyAim n t) (ToBreak k) l h = absurd h
taken_past m (BodyAim n t) (ToContinue k) l h = absurd h
taken_past m (LoopAim n) ToEnd l h = absurd h
taken_past m (LoopAim n) (ToEscape k) l h = absurd h
taken_past m (LoopAim n) (ToBreak k) l h = break_past m k n l h
taken_past m (LoopAim n) (ToContinue k) l h = continue_past m k n l h

aimed_past : (m : ℕ) (aims : List Aim) (w : Way) → Below aims m → IsAimed aims w → leads_to m w ≡ false
aimed_past m [] w l h = absurd h
aimed_past m (a ∷ aims) w l (inl h) = taken_past m a w l.0 h
aimed_past m (a ∷ aims) w l (inr h) = aimed_past m aims w l.1 h

pub leads_past : (m : ℕ) (aims : List Aim) (w : Way) → Below aims m → Leads aims w → leads_to m w ≡ false
leads_past m aims w l (inl e) = ap (leads_to m) e
leads_past m aims w l (inr h) = aimed_past m aims w l h

-- so no way of a part leads to what is numbered after its aims
pub none_lead_to : (m : ℕ) (aims : List Aim) (q : List Way) → Below aims m → AllLead aims q → list_any (leads_to m) q ≡ false
none_lead_to m aims q l f = none_any (leads_to m) q (λ w i. leads_past m aims w l (f w i))

-- ---- escapes lead to no loop, breaks and continues to no do

first_false : (a b : Bool) → (a || b) ≡ false → a ≡ false
first_false false b e = refl
first_false true b e = e

pub none_escape : (n : ℕ) (aims : List Aim) (q : List Way) → Below aims n → AllLead (LoopAim n ∷ aims) q → list_any (is_escape n) q ≡ false
none_escape n aims q l f = none_any (is_escape n) q (λ w i. go w (f w i))
  where
    go : (w : Way) → Leads (LoopAim n ∷ aims) w → is_escape n w ≡ false
    go w (inl e) = ap (is_escape n) e
    go ToEnd (inr h) = refl
    go (ToEscape m) (inr (inl h)) = absurd h
    go (ToEscape m) (inr (inr h)) = first_false (is_escape n (ToEscape m)) false (first_false (is_escape n (ToEscape m) || false) false (aimed_past n aims (ToEscape m) l h))
    go (ToBreak m) (inr h) = refl
    go (ToContinue m) (inr h) = refl

module _ (K : Kernel) where
  pub none_turn : (n : ℕ) (t : Option Loc) (aims : List Aim) (q : List Way) → Below aims n → AllLead (do_aim K n t ∷ aims) q → list_any (λ w. is_break n w || is_continue n w) q ≡ false
  none_turn n t aims q l f = none_any (λ w. is_break n w || is_continue n w) q (λ w i. go t w (f w i))
    where
      go : (t : Option Loc) (w : Way) → Leads (do_aim K n t ∷ aims) w → (is_break n w || is_continue n w) ≡ false
      go t w (inl e) = ap (λ v. is_break n v || is_continue n v) e
      go t ToEnd (inr h) = refl
      go t (ToEscape m) (inr h) = refl
      go None (ToBreak m) (inr (inl h)) = absurd h
      go (Some y) (ToBreak m) (inr (inl h)) = absurd h
      go t (ToBreak m) (inr (inr h)) = aimed_past n aims (ToBreak m) l h
      go None (ToContinue m) (inr (inl h)) = absurd h
      go (Some y) (ToContinue m) (inr (inl h)) = absurd h
      go t (ToContinue m) (inr (inr h)) = aimed_past n aims (ToContinue m) l h
