-- A focus inside frames: its leaf, what an outcome makes of it, its counters and its place in the code.
use Rattle.std.proofs.Common.{◌≡◌, refl, ap, ◌∙◌, ℕ, true, List, [], ◌∷◌}
use Rattle.ceu_base.specs.declared.kinds.Fault.{Fault}
use Rattle.ceu_base.specs.declared.kinds.Pos.{Pos}
use Rattle.ceu_code.specs.declared.image.Image.{Image}
use Rattle.ceu_tree.specs.declared.kernel.Kernel.{Kernel}
use Rattle.ceu_tree.specs.declared.kernel.KNode.{KNode}
use Rattle.ceu_tree.specs.declared.kernel.KBlock.{KBlock}
use Rattle.ceu_tree.specs.Residual.{Body, Program, Act, Residual, Over, no_instance}
use Rattle.ceu_tree.specs.Focus.{Frame, OfBlock, OfOpen, OfLoop, Focus, Here, In, fill, plug, graft, leaf, body_of, body_in}
use Rattle.ceu_tree.specs.World.{World}
use Rattle.ceu_tree.specs.Leaf as does
use Rattle.ceu_tree.specs.Leaf.{Done, acted, next_of, rest_of}
use Rattle.ceu_tree.specs.Around.{Outcome, Goes, Rests, Fails, Past, Moved, moved, through, up, taken}
use Rattle.ceu_tree.specs.Step.{does_in, stepped}
use Rattle.laws_meaning_basics.specs.Shape.{Part}
use Rattle.ceu_shape.specs.Plans.{Plan}
use Rattle.laws_machine_layout.specs.Tables.{Tables}
use Rattle.laws_machine_layout.specs.Views.{View}
use Rattle.ceu_trail.specs.Turning.{FrameCounts, Counted, ActAt, FocusAt}
use Rattle.ceu_steps.specs.Reached.{wrap, filled, is_whole, Reached, at_program, at_statement, at_end, in_part, in_turn}

-- ---- the leaf

pub leaf_wrap : {A : Type 0} (outer : List Frame) (f : Focus A) → leaf (wrap outer f) ≡ leaf f
leaf_wrap [] f = refl
leaf_wrap (fr ∷ outer) f = leaf_wrap outer (In fr f)

pub graft_wrap : {A B : Type 0} (outer : List Frame) (f : Focus A) (x : Focus B) → graft (wrap outer f) x ≡ wrap outer (graft f x)
graft_wrap [] f x = refl
graft_wrap (fr ∷ outer) f x = graft_wrap outer (In fr f) x

pub plug_wrap : {A : Type 0} (outer : List Frame) (f : Focus A) (q : Residual) → plug (wrap outer f) q ≡ filled outer (plug f q)
plug_wrap [] f q = refl
plug_wrap (fr ∷ outer) f q = plug_wrap outer (In fr f) q

pub body_wrap : {A : Type 0} {K : Kernel} {outer : List Frame} {d : Part} (f : Focus A) → Reached K outer d → body_of (wrap outer f) Program ≡ body_of f Program
body_wrap f at_program = refl
body_wrap f (at_statement {b = b} {rest = rest} done x e pl) = body_wrap (In (OfBlock b [] no_instance rest) f) x
body_wrap f (at_end {b = b} x pl) = body_wrap (In (OfBlock b [] no_instance []) f) x
body_wrap f (in_part {s = s} b x o) = body_wrap (In (OfOpen s) f) x
body_wrap f (in_turn {s = s} {c = c} k b x e n) = body_wrap (In (OfLoop s c) f) x

-- ---- outcomes

pub up_here : (a : Act) (x : Outcome) (w : World) → up Program (Here a) x w ≡ moved x w
unfolding up
up_here a x w = refl

pub up_in : (fr : Frame) (f : Focus Act) (x : Outcome) (w : World) (m : Moved) → ((y : Body) → body_in fr y ≡ y) → up Program f x w ≡ m → up Program (In fr f) x w ≡ through Program fr f m.outcome m.world
unfolding up
up_in fr f x w m same e = ap (λ (y : Body). let k = up y f x w in through Program fr f k.outcome k.world) (same Program) ∙ ap (λ (k : Moved). through Program fr f k.outcome k.world) e

pub up_goes : {K : Kernel} {outer : List Frame} {d : Part} (f g : Focus Act) (x : Outcome) (w v : World) → Reached K outer d → up Program f x w ≡ moved (Goes g) v → up Program (wrap outer f) x w ≡ moved (Goes (wrap outer g)) v
up_goes f g x w v at_program e = e
up_goes f g x w v (at_statement {b = b} {rest = rest} done y q pl) e =
    up_goes (In (OfBlock b [] no_instance rest) f) (In (OfBlock b [] no_instance rest) g) x w v y (up_in (OfBlock b [] no_instance rest) f x w (moved (Goes g) v) (λ z. refl) e)
up_goes f g x w v (at_end {b = b} y pl) e = up_goes (In (OfBlock b [] no_instance []) f) (In (OfBlock b [] no_instance []) g) x w v y (up_in (OfBlock b [] no_instance []) f x w (moved (Goes g) v) (λ z. refl) e)
up_goes f g x w v (in_part {s = s} b y o) e = up_goes (In (OfOpen s) f) (In (OfOpen s) g) x w v y (up_in (OfOpen s) f x w (moved (Goes g) v) (λ z. refl) e)
up_goes f g x w v (in_turn {s = s} {c = c} k b y q n) e = up_goes (In (OfLoop s c) f) (In (OfLoop s c) g) x w v y (up_in (OfLoop s c) f x w (moved (Goes g) v) (λ z. refl) e)

pub up_fails : {K : Kernel} {outer : List Frame} {d : Part} (f : Focus Act) (p : Fault × Pos) (q : Residual) (x : Outcome) (w v : World) → Reached K outer d → up Program f x w ≡ moved (Fails p q) v
    → up Program (wrap outer f) x w ≡ moved (Fails p (filled outer q)) v
up_fails f p q x w v at_program e = e
up_fails f p q x w v (at_statement {b = b} {rest = rest} done y h pl) e =
    up_fails (In (OfBlock b [] no_instance rest) f) p (fill (OfBlock b [] no_instance rest) q) x w v y (up_in (OfBlock b [] no_instance rest) f x w (moved (Fails p q) v) (λ z. refl) e)
up_fails f p q x w v (at_end {b = b} y pl) e = up_fails (In (OfBlock b [] no_instance []) f) p (fill (OfBlock b [] no_instance []) q) x w v y (up_in (OfBlock b [] no_instance []) f x w (moved (Fails p q) v) (λ z. refl) e)
up_fails f p q x w v (in_part {s = s} b y o) e = up_fails (In (OfOpen s) f) p (fill (OfOpen s) q) x w v y (up_in (OfOpen s) f x w (moved (Fails p q) v) (λ z. refl) e)
up_fails f p q x w v (in_turn {s = s} {c = c} k b y h n) e = up_fails (In (OfLoop s c) f) p (fill (OfLoop s c) q) x w v y (up_in (OfLoop s c) f x w (moved (Fails p q) v) (λ z. refl) e)

-- goes past a statement
pub past_goes : {K : Kernel} {outer : List Frame} {d : Part} (b : KBlock) (rest : List KNode) (f : Focus Act) (x : Outcome) (w v : World) → Reached K outer d → up Program f x w ≡ moved Past v
    → up Program (wrap outer (In (OfBlock b [] no_instance rest) f)) x w ≡ moved (Goes (wrap outer (In (OfBlock b [] no_instance (rest_of rest)) (Here (next_of rest))))) v
past_goes b rest f x w v y e =
    up_goes (In (OfBlock b [] no_instance rest) f) (In (OfBlock b [] no_instance (rest_of rest)) (Here (next_of rest))) x w v y (up_in (OfBlock b [] no_instance rest) f x w (moved Past v) (λ z. refl) e)

-- ---- a step

pub step_is : {K : Kernel} {outer : List Frame} {d : Part} (a : Act) (w : World) (y : Done) → Reached K outer d → acted K 0 Program a w ≡ y → stepped K 0 Program (wrap outer (Here a)) w ≡ does_in K 0 Program Program (wrap outer (Here a)) y.does y.world
unfolding stepped
step_is {K} {outer} a w y x e =
    ap (λ (b : Body). let k = acted K 0 b (leaf (wrap outer (Here a))) w in does_in K 0 Program b (wrap outer (Here a)) k.does k.world) (body_wrap (Here a) x)
    ∙ ap (λ (l : Act). let k = acted K 0 Program l w in does_in K 0 Program Program (wrap outer (Here a)) k.does k.world) (leaf_wrap outer (Here a))
    ∙ ap (λ (k : Done). does_in K 0 Program Program (wrap outer (Here a)) k.does k.world) e

pub opens_is : {K : Kernel} {outer : List Frame} {d : Part} (a : Act) (w v : World) (x : Focus Act) → Reached K outer d → acted K 0 Program a w ≡ does.done (does.Opens x) v → stepped K 0 Program (wrap outer (Here a)) w ≡ moved (Goes (wrap outer x)) v
opens_is {K} {outer} a w v x y e = step_is a w (does.done (does.Opens x) v) y e ∙ ap (λ (f : Focus Act). moved (Goes f) v) (graft_wrap outer (Here a) x)

pub waits_is : {K : Kernel} {outer : List Frame} {d : Part} (a : Act) (w v : World) (q : Residual) → Reached K outer d → acted K 0 Program a w ≡ does.done (does.Waits q) v → stepped K 0 Program (wrap outer (Here a)) w ≡ moved (Rests (filled outer q)) v
waits_is {K} {outer} a w v q y e = step_is a w (does.done (does.Waits q) v) y e ∙ ap (λ (f : Residual). moved (Rests f) v) (plug_wrap outer (Here a) q)

pub fails_is : {K : Kernel} {outer : List Frame} {d : Part} (a : Act) (w v : World) (p : Fault × Pos) → Reached K outer d → acted K 0 Program a w ≡ does.done (does.Fails p) v → stepped K 0 Program (wrap outer (Here a)) w ≡ moved (Fails p (filled outer Over)) v
fails_is {K} {outer} a w v p y e = step_is a w (does.done (does.Fails p) v) y e ∙ ap (λ (f : Residual). moved (Fails p f) v) (plug_wrap outer (Here a) Over)

pub passes_is : {K : Kernel} {outer : List Frame} {d e : Part} (b : KBlock) (rest : List KNode) (a : Act) (w v : World) → Reached K outer d → Reached K (OfBlock b [] no_instance rest ∷ outer) e → acted K 0 Program a w ≡ does.done does.Passes v
    → stepped K 0 Program (wrap outer (In (OfBlock b [] no_instance rest) (Here a))) w ≡ moved (Goes (wrap outer (In (OfBlock b [] no_instance (rest_of rest)) (Here (next_of rest))))) v
passes_is {K} {outer} b rest a w v x y e =
    step_is a w (does.done does.Passes v) y e
    ∙ ap (λ (m : Moved). moved (taken (wrap outer (In (OfBlock b [] no_instance rest) (Here a))) m.outcome) m.world) (past_goes b rest (Here a) Past v v x (up_here a Past v))

-- ---- counters

abbrev pub AllCount : Tables → Image → View → List Frame → Type 0
AllCount t image v [] = Unit {0}
AllCount t image v (fr ∷ outer) = FrameCounts t image v fr × AllCount t image v outer

pub counted_out : {A : Type 0} (t : Tables) (image : Image) (v : View) (outer : List Frame) (f : Focus A) → Counted t image v (wrap outer f) → AllCount t image v outer × Counted t image v f
unfolding Counted
counted_out t image v [] f c = (tt, c)
counted_out t image v (fr ∷ outer) f c = let h = counted_out t image v outer (In fr f) c in ((h.1.0, h.0), h.1.1)

pub counted_in : {A : Type 0} (t : Tables) (image : Image) (v : View) (outer : List Frame) (f : Focus A) → AllCount t image v outer → Counted t image v f → Counted t image v (wrap outer f)
unfolding Counted
counted_in t image v [] f h c = c
counted_in t image v (fr ∷ outer) f h c = counted_in t image v outer (In fr f) h.1 (h.0, c)

pub counted_here : {A : Type 0} (t : Tables) (image : Image) (v : View) (a : A) → Counted t image v (Here a)
unfolding Counted
counted_here t image v a = tt

pub counted_frame : {A : Type 0} (t : Tables) (image : Image) (v : View) (fr : Frame) (f : Focus A) → FrameCounts t image v fr → Counted t image v f → Counted t image v (In fr f)
unfolding Counted
counted_frame t image v fr f h c = (h, c)

-- ---- the place in the code

module _ (image : Image) (P : Plan) (width : ℕ → ℕ) (K : Kernel) where
  pub focus_in : (outer : List Frame) (fr : Frame) (g : Focus Act) (at : ℕ) (bytes : List ℕ) → FocusAt image P width K (is_whole outer) (In fr g) at bytes → FocusAt image P width K true (wrap outer (In fr g)) at bytes
  unfolding FocusAt
  focus_in [] fr g at bytes h = h
  focus_in (out ∷ outer) fr g at bytes h = focus_in outer out (In fr g) at bytes h

  pub focus_out : (outer : List Frame) (fr : Frame) (g : Focus Act) (at : ℕ) (bytes : List ℕ) → FocusAt image P width K true (wrap outer (In fr g)) at bytes → FocusAt image P width K (is_whole outer) (In fr g) at bytes
  unfolding FocusAt
  focus_out [] fr g at bytes h = h
  focus_out (out ∷ outer) fr g at bytes h = focus_out outer out (In fr g) at bytes h

  pub act_in : (outer : List Frame) (fr : Frame) (a : Act) (at : ℕ) (bytes : List ℕ) → ActAt image P width K (is_whole outer) fr a at bytes → FocusAt image P width K true (wrap outer (In fr (Here a))) at bytes
  unfolding FocusAt
  act_in outer fr a at bytes h = focus_in outer fr (Here a) at bytes h

  pub act_out : (outer : List Frame) (fr : Frame) (a : Act) (at : ℕ) (bytes : List ℕ) → FocusAt image P width K true (wrap outer (In fr (Here a))) at bytes → ActAt image P width K (is_whole outer) fr a at bytes
  unfolding FocusAt
  act_out outer fr a at bytes h = focus_out outer fr (Here a) at bytes h
