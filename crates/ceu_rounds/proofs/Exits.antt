-- Where an exit arrives: at the loop or the do that it leaves, or at the body of the program, with all parts inside that hand it on.
use Rattle.std.proofs.Common.{◌≡◌, refl, sym, ap, ◌∙◌, subst, ◌<◌, ◌⊎◌, inl, inr, ℕ, Bool, true, false, ◌==◌, List, [], ◌∷◌, ◌++◌, Option, arith, eqb-true}
use Rattle.ceu_base.specs.declared.kinds.Ty.TheVariants as ty
use Rattle.ceu_code.specs.declared.image.Image.{Image}
use Rattle.ceu_tree.specs.declared.kernel.Kernel.{Kernel}
use Rattle.ceu_tree.specs.declared.kernel.KLoop.{KLoop}
use Rattle.ceu_tree.specs.declared.kernel.Loc.{Loc}
use Rattle.ceu_tree.specs.declared.kernel.KNode.{KNode}
use Rattle.ceu_tree.specs.declared.kernel.KBlock.{KBlock, out-KBlock}
use Rattle.ceu_tree.specs.declared.kernel.KStmt.{out-KStmt}
use Rattle.ceu_tree.specs.declared.kernel.KStmt.TheOpen.{KStmt-F}
use Rattle.ceu_tree.specs.Legal.{finalizers_of}
use Rattle.ceu_tree.specs.Proper.{Scope, Aim, BodyAim, LoopAim, do_aim, is_proper}
use Rattle.ceu_tree.specs.Residual.{Act, Counter, no_instance}
use Rattle.ceu_tree.specs.Focus.{Frame, OfBlock, OfOpen, OfLoop, Focus, In}
use Rattle.ceu_tree.specs.Leaf.{Layer, Exit}
use Rattle.ceu_tree.specs.World.{World}
use Rattle.laws_meaning_basics.specs.Shape.{Part, ABlock, AStatement, AnEnd, around_statement, around_part, around_turn, none_lives, part_scope, turn_scope, program_part, opens_part, counts}
use Rattle.ceu_endings.proofs.Aims.{aims_at, Leads, Below, aims_node, leads_below, do_node, turns_aims}
use Rattle.ceu_trail.specs.Parts.{PartSingle}
use Rattle.ceu_within.proofs.Exits.{below, AimsLow, frame_aims}
use Rattle.laws_machine_layout.specs.Tables.{Tables}
use Rattle.laws_machine_layout.specs.Views.{View}
use Rattle.ceu_steps.specs.Reached.{wrap, is_whole, Reached, at_program, at_statement, at_end, in_part, in_turn}
use Rattle.ceu_steps.proofs.Frames.{AllCount}
use Rattle.ceu_steps.proofs.Scenes.{scene_of}
use Rattle.ceu_steps.proofs.Turns.{Standing}
use Rattle.ceu_rounds.proofs.Rising.{Rising, rising_block, rising_open, rising_loop}

as_below : (aims : List Aim) (k : ℕ) → below k aims → Below aims k
as_below [] k h = tt
as_below (a ∷ aims) k h = (h.0, as_below aims k h.1)

abbrev pub aims_of : Part → List Aim
aims_of (ABlock turn sc b) = sc.aims
aims_of (AStatement sc s) = sc.aims
aims_of AnEnd = []

apart : (m n : ℕ) → m < n → (m == n) ≡ false
apart m n lt = go (m == n) refl
  where
    go : (t : Bool) → (m == n) ≡ t → (m == n) ≡ false
    go true e = let z = eqb-true m n e in absurd (omega (arith, z, lt))
    go false e = e

-- a statement that is reached stands in a block
pub record InBlock (K : Kernel) (frames : List Frame) (s : KNode) : Type 0 where
  pub outer : List Frame
  pub turn : Bool
  pub sc : Scope
  pub b : KBlock
  pub done : List KNode
  pub rest : List KNode
  pub spot : Standing K outer turn sc b done rest s
  pub frames_are : frames ≡ OfBlock b [] no_instance rest ∷ outer

pub in_block : (K : Kernel) {frames : List Frame} {sc : Scope} {s : KNode} → Reached K frames (AStatement sc s) → InBlock K frames s
in_block K (at_statement {outer = outer} {turn = turn} {sc = sc} {b = b} {rest = rest} done y e pl) =
    record { outer = outer; turn = turn; sc = sc; b = b; done = done; rest = rest; spot = record { block = y; is = e; plain = pl }; frames_are = refl }

module _ (K : Kernel) (proper : is_proper K ≡ true) (single_of : (outer : List Frame) (d : Part) → Reached K outer d → PartSingle d) where
  -- what is around a part has lower numbers
  pub aims_low : {frames : List Frame} {d : Part} → Reached K frames d → AimsLow (is_whole frames) d
  aims_low at_program = (omega arith, tt)
  aims_low (at_statement {outer = outer} {turn = turn} {sc = sc} {b = b} {s = s} {rest = rest} done x e pl) =
      let h = (scene_of K proper single_of x).0 in
      frame_aims K {t = 1} (around_statement {turn = turn} {sc = sc} {b = b} {rest = rest} {s = s} done e refl none_lives) (pl, refl) (is_whole outer) h.ground h.on (aims_low x)
  aims_low (at_end x pl) = tt
  aims_low (in_part {outer = outer} {sc = sc} {s = s} b x o) =
      let h = (scene_of K proper single_of x).0 in frame_aims K {t = 1} (around_part {sc = sc} {s = s} b o) tt (is_whole outer) h.ground h.on (aims_low x)
  aims_low (in_turn {outer = outer} {sc = sc} {s = s} {c = c} k b x e n) =
      let h = (scene_of K proper single_of x).0 in frame_aims K {t = 1} (around_turn {sc = sc} {s = s} {c = c} k b e n) tt (is_whole outer) h.ground h.on (aims_low x)

  module _ (t : Tables) (image : Image) (v : View) (m : ℕ) (x : Exit) (w : World) where
    pub data Arrives : List Frame → Focus Act → Type 0 where
      at_loop : {outer : List Frame} {turn : Bool} {sc : Scope} {b : KBlock} {done rest : List KNode} {s : KNode} (c : Counter) (k : KLoop) (body : KBlock) (g : Focus Act) {frames : List Frame} {f : Focus Act}
          → Standing K outer turn sc b done rest s → out-KStmt s.stmt ≡ KStmt-F.Loop k body → counts k c ≡ true → m ≡ s.node → aims_at (LoopAim s.node) m x → Rising m x w g → AllCount t image v (OfLoop s c ∷ OfBlock b [] no_instance rest ∷ outer)
          → wrap frames f ≡ wrap (OfLoop s c ∷ OfBlock b [] no_instance rest ∷ outer) g → Arrives frames f
      at_do : {outer : List Frame} {turn : Bool} {sc : Scope} {b : KBlock} {done rest : List KNode} {s : KNode} (l : Option Loc) (body : KBlock) (g : Focus Act) {frames : List Frame} {f : Focus Act}
          → Standing K outer turn sc b done rest s → out-KStmt s.stmt ≡ KStmt-F.Do l body → m ≡ s.node → aims_at (do_aim K s.node l) m x → Rising m x w g → AllCount t image v (OfBlock b [] no_instance rest ∷ outer)
          → wrap frames f ≡ wrap (OfOpen s ∷ OfBlock b [] no_instance rest ∷ outer) g → Arrives frames f
      at_body : (done : List KNode) {rest : List KNode} (s : KNode) (g : Focus Act) {frames : List Frame} {f : Focus Act}
          → (out-KBlock K.body).list ≡ done ++ s ∷ rest → finalizers_of [] done ≡ [] → m ≡ (out-KBlock K.body).node → aims_at (BodyAim (out-KBlock K.body).node ty.S32) m x → Rising m x w g
          → wrap frames f ≡ wrap (OfBlock K.body [] no_instance rest ∷ []) g → Arrives frames f

    re : {fr gr : List Frame} {f g : Focus Act} → wrap fr f ≡ wrap gr g → Arrives gr g → Arrives fr f
    re q (at_loop c k body h a b d e i j l n) = at_loop c k body h a b d e i j l (q ∙ n)
    re q (at_do o body h a b d e i j l) = at_do o body h a b d e i j (q ∙ l)
    re q (at_body o s h a b d e i j) = at_body o s h a b d e i (q ∙ j)

    -- a part of a do or of an if: the exit leads to the do, or further out
    open_case : {A : Type 0} (sc : Scope) (n : ℕ) (layer : Layer) (b : KBlock) → opens_part layer b → Leads (part_scope K sc n layer).aims m x → (Leads sc.aims m x → A) → ((l : Option Loc) → layer ≡ KStmt-F.Do l b → aims_at (do_aim K n l) m x → A) → A
    open_case sc n (KStmt-F.Do l c) b o (inl a) out here = here l (ap (KStmt-F.Do l) o) a
    open_case sc n (KStmt-F.Do l c) b o (inr a) out here = out a
    open_case sc n (KStmt-F.If arms last) b o a out here = out a
    open_case sc n layer b o a out here = elim o [ ]

    high : (s : KNode) (aims : List Aim) → below s.node aims → Leads aims m x → (m == s.node) ≡ false
    high s aims h l = apart m s.node (leads_below aims s.node m x (as_below aims s.node h) l)

    do_arrives : {o2 : List Frame} {s2 : KNode} (b : KBlock) (rest : List KNode) (f : Focus Act) (l : Option Loc) → InBlock K o2 s2 → out-KStmt s2.stmt ≡ KStmt-F.Do l b → aims_at (do_aim K s2.node l) m x → Rising m x w (In (OfBlock b [] no_instance rest) f) → AllCount t image v o2
        → Arrives (OfBlock b [] no_instance rest ∷ OfOpen s2 ∷ o2) f
    do_arrives {s2 = s2} b rest f l z e a r n =
        at_do l b (In (OfBlock b [] no_instance rest) f) z.spot e (sym (aims_node (do_aim K s2.node l) m x a) ∙ do_node K s2.node l) a r (subst (AllCount t image v) z.frames_are n)
        (ap (λ (o : List Frame). wrap o (In (OfOpen s2) (In (OfBlock b [] no_instance rest) f))) z.frames_are)

    loop_arrives : {o2 : List Frame} {s2 : KNode} (c : Counter) (k : KLoop) (b : KBlock) (rest : List KNode) (f : Focus Act) → InBlock K o2 s2 → out-KStmt s2.stmt ≡ KStmt-F.Loop k b → counts k c ≡ true → aims_at (LoopAim s2.node) m x → Rising m x w (In (OfBlock b [] no_instance rest) f) → AllCount t image v (OfLoop s2 c ∷ o2)
        → Arrives (OfBlock b [] no_instance rest ∷ OfLoop s2 c ∷ o2) f
    loop_arrives {s2 = s2} c k b rest f z e q a r n =
        at_loop c k b (In (OfBlock b [] no_instance rest) f) z.spot e q (sym (aims_node (LoopAim s2.node) m x a)) a r (subst (λ (o : List Frame). AllCount t image v (OfLoop s2 c ∷ o)) z.frames_are n)
        (ap (λ (o : List Frame). wrap o (In (OfLoop s2 c) (In (OfBlock b [] no_instance rest) f))) z.frames_are)

    body_arrives : (done rest : List KNode) (s : KNode) (f : Focus Act) → (out-KBlock K.body).list ≡ done ++ s ∷ rest → finalizers_of [] done ≡ [] → Leads (aims_of (program_part K)) m x → Rising m x w f → Arrives (OfBlock K.body [] no_instance rest ∷ []) f
    body_arrives done rest s f e pl (inl a) r = at_body done s f e pl (sym (aims_node (BodyAim (out-KBlock K.body).node ty.S32) m x a)) a r refl
    body_arrives done rest s f e pl (inr a) r = absurd a

    turn_leads : (k : KLoop) (sc : Scope) (n : ℕ) → Leads (turn_scope K sc n k).aims m x → aims_at (LoopAim n) m x ⊎ Leads sc.aims m x
    turn_leads k sc n (inl a) = inl a
    turn_leads k sc n (inr a) = inr (subst (λ (l : List Aim). Leads l m x) (turns_aims K k sc) a)

    pub climb : {frames : List Frame} {sc : Scope} {s : KNode} (f : Focus Act) → Reached K frames (AStatement sc s) → Leads sc.aims m x → AllCount t image v frames → Rising m x w f → Arrives frames f
    climb f (at_statement {s = s} {rest = rest} done at_program e pl) l n r = body_arrives done rest s f e pl l r
    climb f (at_statement {sc = sc} {b = b} {rest = rest} done (in_part {outer = o2} {sc = sc2} {s = s2} _ y o) e pl) l n r =
        let low = aims_low (in_part {outer = o2} {sc = sc2} {s = s2} b y o) in
        let q = apart m (out-KBlock b).node (leads_below sc.aims (out-KBlock b).node m x (as_below sc.aims (out-KBlock b).node low) l) in
        let r2 = rising_block m x w b rest f q r in
        open_case sc2 s2.node (out-KStmt s2.stmt) b o l
        (λ a. re refl (climb (In (OfOpen s2) (In (OfBlock b [] no_instance rest) f)) y a n.1.1 (rising_open m x w s2 (In (OfBlock b [] no_instance rest) f) (high s2 sc2.aims (aims_low y) a) r2)))
        (λ i z a. do_arrives b rest f i (in_block K y) z a r2 n.1.1)
    climb f (at_statement {sc = sc} {b = b} {rest = rest} done (in_turn {outer = o2} {sc = sc2} {s = s2} {c = c} k _ y i j) e pl) l n r =
        let low = aims_low (in_turn {outer = o2} {sc = sc2} {s = s2} {c = c} k b y i j) in
        let q = apart m (out-KBlock b).node (leads_below sc.aims (out-KBlock b).node m x (as_below sc.aims (out-KBlock b).node low) l) in
        let r2 = rising_block m x w b rest f q r in
        elim (turn_leads k sc2 s2.node l) [
          | inl a ↦ loop_arrives c k b rest f (in_block K y) i j a r2 n.1
          | inr a ↦ re refl (climb (In (OfLoop s2 c) (In (OfBlock b [] no_instance rest) f)) y a n.1.1 (rising_loop m x w s2 c (In (OfBlock b [] no_instance rest) f) (high s2 sc2.aims (aims_low y) a) r2))
        ]
