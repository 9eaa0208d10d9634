-- Lists of values that lie somewhere: what a set adds to them, and what is left where a slot, the declarations of a block or a body are forgotten.
use Rattle.std.proofs.Common.{◌≡◌, refl, sym, ap, ◌∙◌, subst, ◌≤◌, ℕ, ◌+◌, Bool, true, false, not, cond, if◌then◌else◌, ◌==◌, ◌&&◌, nat_lt, List, [], ◌∷◌, Option, Some, None, arith, eqb-true}
use Rattle.std.proofs.lemmas.Bool.{and_parts, and_from, false≢true, ltb-true}
use Rattle.std.specs.List.{filter, list_all}
use Rattle.ceu_tree.specs.declared.kernel.KCode.{KCode}
use Rattle.ceu_tree.specs.declared.kernel.KDecl.{KDecl}
use Rattle.ceu_tree.specs.declared.kernel.KKind.{KKind}
use Rattle.ceu_tree.specs.declared.kernel.KLoop.{KLoop}
use Rattle.ceu_tree.specs.declared.kernel.KLoop.TheVariants as turns
use Rattle.ceu_tree.specs.declared.kernel.KKind.TheVariants as kind
use Rattle.ceu_base.specs.declared.kinds.Ty.TheVariants as ty
use Rattle.ceu_tree.specs.declared.kernel.KStmt.{KStmt, out-KStmt}
use Rattle.ceu_tree.specs.declared.kernel.KStmt.TheOpen.{KStmt-F}
use Rattle.ceu_tree.specs.Residual.{Body, same_body}
use Rattle.ceu_tree.specs.World.{Cell, Held, World, is_at, put, forget, forget_declared, forget_body}
use Rattle.ceu_tree.specs.Leaf.{Layer}
use Rattle.ceu_tree.specs.Abort.{forget_turns, forget_loop}
use Rattle.laws_meaning_values.proofs.Stores.{same_is, forget_layer, forget_loop_is}
use Rattle.laws_meaning_slots.specs.Held.{is_of_kind}
use Rattle.laws_meaning_slots.proofs.Slots.{once, at_room, decls_room, turns_room, layer_room, code_room}

abbrev pub held : Body → ℕ → Cell → Held
held body slot c = record { body = body; slot = slot; cell = c }

-- each of them lies somewhere, as m counts it
abbrev pub Lie : (Held → ℕ) → List Held → Type 0
Lie m [] = Unit {0}
Lie m (h ∷ hs) = (1 ≤ m h) × Lie m hs

pub lie_more : (m k : Held → ℕ) → ((h : Held) → 1 ≤ m h → 1 ≤ k h) → (hs : List Held) → Lie m hs → Lie k hs
lie_more m k f [] l = tt
lie_more m k f (h ∷ hs) l = (f h l.0, lie_more m k f hs l.1)

pub lie_filter : (m k : Held → ℕ) (q : Held → Bool) → ((h : Held) → q h ≡ true → 1 ≤ m h → 1 ≤ k h) → (hs : List Held) → Lie m hs → Lie k (filter q hs)
lie_filter m k q f [] l = tt
lie_filter m k q f (h ∷ hs) l = go (q h) refl (lie_filter m k q f hs l.1)
  where
    go : (b : Bool) → q h ≡ b → Lie k (filter q hs) → Lie k (cond b (h ∷ filter q hs) (filter q hs))
    go true e ih = (f h e l.0, ih)
    go false e ih = ih

-- ---- a set

pub held_at : (body : Body) (slot : ℕ) (c : Cell) (h : Held) → is_at body slot h ≡ true → held body slot c ≡ record h { cell = c }
held_at body slot c h e =
    let a = and_parts (slot == h.slot) (same_body body h.body) e in
    ap (λ n. held body n c) (eqb-true slot h.slot a.0) ∙ ap (λ b. held b h.slot c) (same_is body h.body a.1)

pub lie_put : (m : Held → ℕ) (body : Body) (slot : ℕ) (c : Cell) (hs : List Held) → 1 ≤ m (held body slot c) → Lie m hs → Lie m (put body slot c hs)
lie_put m body slot c [] n l = (n, tt)
lie_put m body slot c (h ∷ hs) n l = go (is_at body slot h) refl (lie_put m body slot c hs n l.1)
  where
    go : (b : Bool) → is_at body slot h ≡ b → Lie m (put body slot c hs) → Lie m (if b then record h { cell = c } ∷ hs else h ∷ put body slot c hs)
    go true e ih = (subst (λ x. 1 ≤ m x) (held_at body slot c h e) n, l.1)
    go false e ih = (l.0, ih)

-- ---- what is forgotten

module _ (codes : List KCode) (g : ℕ) where
  elsewhere : (h : Held) (body : Body) (slot : ℕ) (k : KKind) → not (is_at body slot h) ≡ true → at_room codes g h body slot k ≡ 0
  elsewhere h body slot k e = go (slot == h.slot) (same_body body h.body) e
    where
      go : (a b : Bool) → not (a && b) ≡ true → once (a && b && is_of_kind g k h.cell) ≡ 0
      go true true e = absurd (false≢true e)
      go true false e = refl
      go false b e = refl

  pub lie_forget : (body : Body) (slot : ℕ) (k : KKind) (c : Held → ℕ) (w : World) → Lie (λ h. at_room codes g h body slot k + c h) w.values
      → Lie c (forget body slot w).values
  lie_forget body slot k c w l = lie_filter (λ h. at_room codes g h body slot k + c h) c (λ h. not (is_at body slot h)) (λ h e n. (let a = elsewhere h body slot k e in omega (arith, a, n))) w.values l

  pub lie_forget_declared : (body : Body) (ds : List KDecl) (c : Held → ℕ) (w : World) → Lie (λ h. decls_room codes g h body ds + c h) w.values
      → Lie c (forget_declared body ds w).values
  lie_forget_declared body [] c w l = lie_more (λ h. 0 + c h) c (λ h n. omega (arith, n)) w.values l
  lie_forget_declared body (d ∷ ds) c w l =
      lie_forget_declared body ds c (forget body d.slot w)
      (lie_forget body d.slot d.kind (λ h. decls_room codes g h body ds + c h) w
      (lie_more (λ h. at_room codes g h body d.slot d.kind + decls_room codes g h body ds + c h) (λ h. at_room codes g h body d.slot d.kind + (decls_room codes g h body ds + c h)) (λ h n. omega (arith, n)) w.values l))

  lie_forget_turns : (body : Body) (k : KLoop) (c : Held → ℕ) (w : World) → Lie (λ h. turns_room codes g h body k + c h) w.values
      → Lie c (forget_turns body k w).values
  lie_forget_turns body (turns.Range i next end open_a a b open_b) c w l = lie_forget body i (kind.Var ty.S32) c w l
  lie_forget_turns body turns.Free c w l = lie_more (λ h. 0 + c h) c (λ h n. omega (arith, n)) w.values l
  lie_forget_turns body (turns.Times slot n) c w l = lie_more (λ h. 0 + c h) c (λ h n. omega (arith, n)) w.values l

  lie_forget_layer : (body : Body) (layer : Layer) (c : Held → ℕ) (w : World) → Lie (λ h. layer_room codes g h body layer + c h) w.values
      → Lie c (forget_layer body layer w).values
  lie_forget_layer body (KStmt-F.Loop k b) c w l = lie_forget_turns body k c w l
  lie_forget_layer body layer c w l = lie_more (λ h. 0 + c h) c (λ h n. omega (arith, n)) w.values l

  pub lie_forget_loop : (body : Body) (st : KStmt) (c : Held → ℕ) (w : World) → Lie (λ h. layer_room codes g h body (out-KStmt st) + c h) w.values
      → Lie c (forget_loop body st w).values
  lie_forget_loop body st c w l = subst (λ u. Lie c u.values) (sym (forget_loop_is body st w)) (lie_forget_layer body (out-KStmt st) c w l)

  another : (h : Held) (body : Body) (ds : List KDecl) → not (same_body body h.body) ≡ true → decls_room codes g h body ds ≡ 0
  another h body [] e = refl
  another h body (d ∷ ds) e = let a = at in let b = another h body ds e in omega (arith, a, b)
    where
      go : (a b : Bool) → not b ≡ true → once (a && b && is_of_kind g d.kind h.cell) ≡ 0
      go a true e = absurd (false≢true e)
      go true false e = refl
      go false false e = refl

      at : at_room codes g h body d.slot d.kind ≡ 0
      at = go (d.slot == h.slot) (same_body body h.body) e

  another_code : (h : Held) (body : Body) (o : Option KCode) → not (same_body body h.body) ≡ true → code_room codes g h body o ≡ 0
  another_code h body None e = refl
  another_code h body (Some k) e = another h body k.params e

  pub lie_forget_body : (body : Body) (o : Option KCode) (c : Held → ℕ) (w : World) → Lie (λ h. code_room codes g h body o + c h) w.values
      → Lie c (forget_body body w).values
  lie_forget_body body o c w l =
      lie_filter (λ h. code_room codes g h body o + c h) c (λ h. not (same_body body h.body)) (λ h e n. (let a = another_code h body o e in omega (arith, a, n))) w.values l

-- ---- a list whose values all lie, by a test

pub lie_all : (m : Held → ℕ) (q : Held → Bool) → ((h : Held) → q h ≡ nat_lt 0 (m h)) → (hs : List Held) → list_all q hs ≡ true → Lie m hs
lie_all m q f [] e = tt
lie_all m q f (h ∷ hs) e = let a = and_parts (q h) (list_all q hs) e in (let l = ltb-true 0 (m h) (sym (f h) ∙ a.0) in omega (arith, l), lie_all m q f hs a.1)

pub all_lie : (m : Held → ℕ) (q : Held → Bool) → ((h : Held) → 1 ≤ m h → q h ≡ true) → (hs : List Held) → Lie m hs → list_all q hs ≡ true
all_lie m q f [] l = refl
all_lie m q f (h ∷ hs) l = and_from (q h) (list_all q hs) (f h l.0) (all_lie m q f hs l.1)
