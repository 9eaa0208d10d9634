-- What an exit leads to: one of the aims around it, whose nodes come before all of the part.
use Rattle.std.proofs.Common.{◌≡◌, refl, sym, ◌<◌, ◌≤◌, ℕ, ℤ, Bool, true, false, if◌then◌else◌, ◌==◌, ◌||◌, ◌⊎◌, inl, inr, List, [], ◌∷◌, Option, Some, None, arith, eqb-true}
use Rattle.std.proofs.lemmas.Bool.{false≢true}
use Rattle.std.specs.List.{list_any}
use Rattle.ceu_base.specs.declared.kinds.Ty.TheVariants as ty
use Rattle.ceu_tree.specs.declared.kernel.Kernel.{Kernel}
use Rattle.ceu_tree.specs.declared.kernel.KExp.{KExp}
use Rattle.ceu_tree.specs.declared.kernel.KLoop.{KLoop}
use Rattle.ceu_tree.specs.declared.kernel.KLoop.TheVariants as turns
use Rattle.ceu_tree.specs.declared.kernel.Loc.{Loc}
use Rattle.ceu_tree.specs.Leaf.{Exit, Escape, Break, Continue}
use Rattle.ceu_tree.specs.Proper.{Scope, Aim, DoAim, BodyAim, LoopAim, do_aim, gives_if, escape_ok, is_loop_aim, with_turns}
use Rattle.laws_meaning_basics.specs.Shape.{aim_node}

abbrev pub aims_at : Aim → ℕ → Exit → Type 0
aims_at (DoAim m t) n (Escape v) = m ≡ n
aims_at (BodyAim m t) n (Escape v) = m ≡ n
aims_at (LoopAim m) n Break = m ≡ n
aims_at (LoopAim m) n Continue = m ≡ n
aims_at a n x = ⊥

abbrev pub Leads : List Aim → ℕ → Exit → Type 0
Leads [] n x = ⊥
Leads (a ∷ aims) n x = aims_at a n x ⊎ Leads aims n x

abbrev pub Below : List Aim → ℕ → Type 0
Below [] k = Unit {0}
Below (a ∷ aims) k = (aim_node a < k) × Below aims k

pub below_more : (aims : List Aim) (j k : ℕ) → j ≤ k → Below aims j → Below aims k
below_more [] j k l h = tt
below_more (a ∷ aims) j k l h = (omega (arith, l, h.0), below_more aims j k l h.1)

pub aims_node : (a : Aim) (n : ℕ) (x : Exit) → aims_at a n x → aim_node a ≡ n
aims_node (DoAim m t) n (Escape v) h = h
aims_node (DoAim m t) n Break h = absurd h
aims_node (DoAim m t) n Continue h = absurd h
aims_node (BodyAim m t) n (Escape v) h = h
aims_node (BodyAim m t) n Break h = absurd h
aims_node (BodyAim m t) n Continue h = absurd h
aims_node (LoopAim m) n (Escape v) h = absurd h
aims_node (LoopAim m) n Break h = h
aims_node (LoopAim m) n Continue h = h

pub leads_below : (aims : List Aim) (k n : ℕ) (x : Exit) → Below aims k → Leads aims n x → n < k
leads_below [] k n x h l = absurd l
leads_below (a ∷ aims) k n x h (inl e) = let z = aims_node a n x e in omega (arith, z, h.0)
leads_below (a ∷ aims) k n x h (inr l) = leads_below aims k n x h.1 l

module _ (K : Kernel) where
  pub do_node : (n : ℕ) (t : Option Loc) → aim_node (do_aim K n t) ≡ n
  do_node n None = refl
  do_node n (Some l) = refl

  -- the turns of a loop add no aim but the loop's own
  pub turns_aims : (k : KLoop) (sc : Scope) → (with_turns K k sc).aims ≡ sc.aims
  turns_aims turns.Free sc = refl
  turns_aims (turns.Times slot limit) sc = refl
  turns_aims (turns.Range i next end open_a x y open_b) sc = refl

  -- only an escape leads to a do
  pub do_escapes : (n m : ℕ) (t : Option Loc) (x : Exit) → aims_at (do_aim K n t) m x → (v : ℤ) × (x ≡ Escape v)
  do_escapes n m None (Escape v) h = (v, refl)
  do_escapes n m None Break h = absurd h
  do_escapes n m None Continue h = absurd h
  do_escapes n m (Some l) (Escape v) h = (v, refl)
  do_escapes n m (Some l) Break h = absurd h
  do_escapes n m (Some l) Continue h = absurd h

  pub escape_leads : (sc : Scope) (m : ℕ) (e : Option KExp) (aims : List Aim) (v : ℤ) → escape_ok K sc m e aims ≡ true → Leads aims m (Escape v)
  escape_leads sc m e [] v h = absurd (false≢true h)
  escape_leads sc m e (DoAim n None ∷ aims) v h = go (n == m) refl (escape_leads sc m e aims v) h
    where
      go : (b : Bool) → (n == m) ≡ b → (escape_ok K sc m e aims ≡ true → Leads aims m (Escape v)) → (if b then gives_if K sc ty.None e else escape_ok K sc m e aims) ≡ true → (n ≡ m) ⊎ Leads aims m (Escape v)
      go true q ih k = inl (eqb-true n m q)
      go false q ih k = inr (ih k)
  escape_leads sc m e (DoAim n (Some t) ∷ aims) v h = go (n == m) refl (escape_leads sc m e aims v) h
    where
      go : (b : Bool) → (n == m) ≡ b → (escape_ok K sc m e aims ≡ true → Leads aims m (Escape v)) → (if b then gives_if K sc t e else escape_ok K sc m e aims) ≡ true → (n ≡ m) ⊎ Leads aims m (Escape v)
      go true q ih k = inl (eqb-true n m q)
      go false q ih k = inr (ih k)
  escape_leads sc m e (BodyAim n t ∷ aims) v h = go (n == m) refl (escape_leads sc m e aims v) h
    where
      go : (b : Bool) → (n == m) ≡ b → (escape_ok K sc m e aims ≡ true → Leads aims m (Escape v)) → (if b then gives_if K sc t e else escape_ok K sc m e aims) ≡ true → (n ≡ m) ⊎ Leads aims m (Escape v)
      go true q ih k = inl (eqb-true n m q)
      go false q ih k = inr (ih k)
  escape_leads sc m e (LoopAim n ∷ aims) v h = inr (escape_leads sc m e aims v h)

  pub loop_leads : (m : ℕ) (aims : List Aim) (x : Exit) → (x ≡ Break) ⊎ (x ≡ Continue) → list_any (is_loop_aim K m) aims ≡ true → Leads aims m x
  loop_leads m [] x q h = absurd (false≢true h)
  loop_leads m (DoAim n t ∷ aims) x q h = inr (loop_leads m aims x q h)
  loop_leads m (BodyAim n t ∷ aims) x q h = inr (loop_leads m aims x q h)
  loop_leads m (LoopAim n ∷ aims) x q h = go (m == n) refl q (loop_leads m aims x q) h
    where
      at : (x : Exit) → (x ≡ Break) ⊎ (x ≡ Continue) → n ≡ m → aims_at (LoopAim n) m x
      at (Escape v) (inl z) e = absurd (cc)
      at (Escape v) (inr z) e = absurd (cc)
      at Break z e = e
      at Continue z e = e

      go : (b : Bool) → (m == n) ≡ b → (x ≡ Break) ⊎ (x ≡ Continue) → (list_any (is_loop_aim K m) aims ≡ true → Leads aims m x) → (b || list_any (is_loop_aim K m) aims) ≡ true → Leads (LoopAim n ∷ aims) m x
      go true z p ih k = inl (at x p (sym (eqb-true m n z)))
      go false z p ih k = inr (ih k)
