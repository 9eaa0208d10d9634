-- Where an escape arrives: at the do that it leaves, or at the body of the program; its value is one of the target's type.
use Rattle.std.proofs.Common.{◌≡◌, refl, sym, ap, ◌∙◌, subst, ◌<◌, ◌⊎◌, inl, inr, ℕ, ℤ, Bool, true, false, ◌==◌, List, [], ◌∷◌, ◌++◌, Option, Some, None, arith, eqb-true}
use Rattle.std.specs.Prelude.{if◌then◌else◌}
use Rattle.std.proofs.lemmas.Bool.{false≢true}
use Rattle.ceu_base.specs.declared.kinds.Ty.{Ty}
use Rattle.ceu_base.specs.declared.kinds.Ty.TheVariants as ty
use Rattle.ceu_code.specs.declared.image.Image.{Image}
use Rattle.ceu_tree.specs.declared.kernel.Kernel.{Kernel}
use Rattle.ceu_tree.specs.declared.kernel.KExp.{KExp}
use Rattle.ceu_tree.specs.declared.kernel.Loc.{Loc}
use Rattle.ceu_tree.specs.declared.kernel.KNode.{KNode}
use Rattle.ceu_tree.specs.declared.kernel.KBlock.{KBlock, out-KBlock}
use Rattle.ceu_tree.specs.declared.kernel.KStmt.{out-KStmt}
use Rattle.ceu_tree.specs.declared.kernel.KStmt.TheOpen.{KStmt-F}
use Rattle.ceu_tree.specs.Legal.{finalizers_of}
use Rattle.ceu_tree.specs.Proper.{Scope, Aim, BodyAim, do_aim, gives_if, escape_ok, is_proper}
use Rattle.ceu_tree.specs.Residual.{Act, no_instance}
use Rattle.ceu_tree.specs.Focus.{Frame, OfBlock, OfOpen, OfLoop, Focus, In}
use Rattle.ceu_tree.specs.Leaf.{Layer, Escape}
use Rattle.ceu_tree.specs.World.{World}
use Rattle.laws_meaning_basics.specs.Shape.{Part, AStatement, part_scope, opens_part}
use Rattle.ceu_endings.proofs.Aims.{Below, leads_below, escape_leads, turns_aims}
use Rattle.ceu_trail.specs.Parts.{PartSingle}
use Rattle.ceu_within.proofs.Exits.{below}
use Rattle.laws_machine_layout.specs.Tables.{Tables}
use Rattle.laws_machine_layout.specs.Views.{View}
use Rattle.ceu_steps.specs.Reached.{wrap, Reached, at_program, at_statement, in_part, in_turn}
use Rattle.ceu_steps.proofs.Frames.{AllCount}
use Rattle.ceu_steps.proofs.Turns.{Standing}
use Rattle.ceu_rounds.proofs.Exits.{InBlock, in_block, aims_low}
use Rattle.ceu_rounds.proofs.Rising.{Rising, rising_block, rising_open, rising_loop}

as_below : (aims : List Aim) (k : ℕ) → below k aims → Below aims k
as_below [] k h = tt
as_below (a ∷ aims) k h = (h.0, as_below aims k h.1)

apart : (m n : ℕ) → m < n → (m == n) ≡ false
apart m n lt = go (m == n) refl
  where
    go : (t : Bool) → (m == n) ≡ t → (m == n) ≡ false
    go true e = let z = eqb-true m n e in absurd (omega (arith, z, lt))
    go false e = e

-- the type of the value that an escape to a do has
abbrev pub do_type : Option Loc → Ty
do_type None = ty.None
do_type (Some l) = l.ty

module _ (K : Kernel) (proper : is_proper K ≡ true) (single_of : (outer : List Frame) (d : Part) → Reached K outer d → PartSingle d) (t : Tables) (image : Image) (v : View) (m : ℕ) (from : Scope) (e : Option KExp) (value : ℤ) (w : World) where
  abbrev Ok : List Aim → Type 0
  Ok aims = escape_ok K from m e aims ≡ true

  pub data EscapeArrives : List Frame → Focus Act → Type 0 where
    at_do : {outer : List Frame} {turn : Bool} {sc : Scope} {b : KBlock} {done rest : List KNode} {s : KNode} (l : Option Loc) (body : KBlock) (g : Focus Act) {frames : List Frame} {f : Focus Act}
        → Standing K outer turn sc b done rest s → out-KStmt s.stmt ≡ KStmt-F.Do l body → m ≡ s.node → gives_if K from (do_type l) e ≡ true → Rising m (Escape value) w g → AllCount t image v (OfBlock b [] no_instance rest ∷ outer)
        → wrap frames f ≡ wrap (OfOpen s ∷ OfBlock b [] no_instance rest ∷ outer) g → EscapeArrives frames f
    at_body : (done : List KNode) {rest : List KNode} (s : KNode) (g : Focus Act) {frames : List Frame} {f : Focus Act}
        → (out-KBlock K.body).list ≡ done ++ s ∷ rest → finalizers_of [] done ≡ [] → m ≡ (out-KBlock K.body).node → gives_if K from ty.S32 e ≡ true → Rising m (Escape value) w g
        → wrap frames f ≡ wrap (OfBlock K.body [] no_instance rest ∷ []) g → EscapeArrives frames f

  re : {fr gr : List Frame} {f g : Focus Act} → wrap fr f ≡ wrap gr g → EscapeArrives gr g → EscapeArrives fr f
  re q (at_do o body h a b d k i j l) = at_do o body h a b d k i j (q ∙ l)
  re q (at_body o s h a b d k i j) = at_body o s h a b d k i (q ∙ j)

  -- the aim of a do is meant, or one further out
  do_case : (n : ℕ) (l : Option Loc) (aims : List Aim) → Ok (do_aim K n l ∷ aims) → ((m ≡ n) × (gives_if K from (do_type l) e ≡ true)) ⊎ Ok aims
  do_case n None aims h = go (n == m) refl h
    where
      go : (b : Bool) → (n == m) ≡ b → (if b then gives_if K from ty.None e else escape_ok K from m e aims) ≡ true → ((m ≡ n) × (gives_if K from ty.None e ≡ true)) ⊎ Ok aims
      go true q k = inl (sym (eqb-true n m q), k)
      go false q k = inr k
  do_case n (Some l) aims h = go (n == m) refl h
    where
      go : (b : Bool) → (n == m) ≡ b → (if b then gives_if K from l.ty e else escape_ok K from m e aims) ≡ true → ((m ≡ n) × (gives_if K from l.ty e ≡ true)) ⊎ Ok aims
      go true q k = inl (sym (eqb-true n m q), k)
      go false q k = inr k

  body_case : (n : ℕ) → Ok (BodyAim n ty.S32 ∷ []) → (m ≡ n) × (gives_if K from ty.S32 e ≡ true)
  body_case n h = go (n == m) refl h
    where
      go : (b : Bool) → (n == m) ≡ b → (if b then gives_if K from ty.S32 e else false) ≡ true → (m ≡ n) × (gives_if K from ty.S32 e ≡ true)
      go true q k = (sym (eqb-true n m q), k)
      go false q k = absurd (false≢true k)

  -- a part of a do or of an if
  open_case : {A : Type 0} (sc : Scope) (n : ℕ) (layer : Layer) (b : KBlock) → opens_part layer b → Ok (part_scope K sc n layer).aims → (Ok sc.aims → A) → ((l : Option Loc) → layer ≡ KStmt-F.Do l b → (m ≡ n) × (gives_if K from (do_type l) e ≡ true) → A) → A
  open_case sc n (KStmt-F.Do l c) b o a out here = elim (do_case n l sc.aims a) [
    | inl z ↦ here l (ap (KStmt-F.Do l) o) z
    | inr z ↦ out z
  ]
  open_case sc n (KStmt-F.If arms last) b o a out here = out a
  open_case sc n layer b o a out here = elim o [ ]

  high : (k : ℕ) (aims : List Aim) → below k aims → Ok aims → (m == k) ≡ false
  high k aims h l = apart m k (leads_below aims k m (Escape value) (as_below aims k h) (escape_leads K from m e aims value l))

  do_arrives : {o2 : List Frame} {s2 : KNode} (b : KBlock) (rest : List KNode) (f : Focus Act) (l : Option Loc) → InBlock K o2 s2 → out-KStmt s2.stmt ≡ KStmt-F.Do l b → (m ≡ s2.node) × (gives_if K from (do_type l) e ≡ true) → Rising m (Escape value) w (In (OfBlock b [] no_instance rest) f) → AllCount t image v o2
      → EscapeArrives (OfBlock b [] no_instance rest ∷ OfOpen s2 ∷ o2) f
  do_arrives {s2 = s2} b rest f l z q a r n =
      at_do l b (In (OfBlock b [] no_instance rest) f) z.spot q a.0 a.1 r (subst (AllCount t image v) z.frames_are n)
      (ap (λ (o : List Frame). wrap o (In (OfOpen s2) (In (OfBlock b [] no_instance rest) f))) z.frames_are)

  pub rise : {frames : List Frame} {sc : Scope} {s : KNode} (f : Focus Act) → Reached K frames (AStatement sc s) → escape_ok K from m e sc.aims ≡ true → AllCount t image v frames → Rising m (Escape value) w f → EscapeArrives frames f
  rise f (at_statement {s = s} {rest = rest} done at_program q pl) l n r = let z = body_case (out-KBlock K.body).node l in at_body done s f q pl z.0 z.1 r refl
  rise f (at_statement {sc = sc} {b = b} {rest = rest} done (in_part {outer = o2} {sc = sc2} {s = s2} _ y o) q pl) l n r =
      let low = aims_low K proper single_of (in_part {outer = o2} {sc = sc2} {s = s2} b y o) in
      let r2 = rising_block m (Escape value) w b rest f (high (out-KBlock b).node sc.aims low l) r in
      open_case sc2 s2.node (out-KStmt s2.stmt) b o l
      (λ a. re refl (rise (In (OfOpen s2) (In (OfBlock b [] no_instance rest) f)) y a n.1.1 (rising_open m (Escape value) w s2 (In (OfBlock b [] no_instance rest) f) (high s2.node sc2.aims (aims_low K proper single_of y) a) r2)))
      (λ i z a. do_arrives b rest f i (in_block K y) z a r2 n.1.1)
  rise f (at_statement {sc = sc} {b = b} {rest = rest} done (in_turn {outer = o2} {sc = sc2} {s = s2} {c = c} k _ y i j) q pl) l n r =
      let low = aims_low K proper single_of (in_turn {outer = o2} {sc = sc2} {s = s2} {c = c} k b y i j) in
      let r2 = rising_block m (Escape value) w b rest f (high (out-KBlock b).node sc.aims low l) r in
      let a : Ok sc2.aims = subst (λ (x : List Aim). Ok x) (turns_aims K k sc2) l in
      re refl (rise (In (OfLoop s2 c) (In (OfBlock b [] no_instance rest) f)) y a n.1.1 (rising_loop m (Escape value) w s2 c (In (OfBlock b [] no_instance rest) f) (high s2.node sc2.aims (aims_low K proper single_of y) a) r2))
