-- A turn of a program of one trail that fits: its leaf is reached inside plain frames.
use Rattle.std.proofs.Common.{◌≡◌, refl, sym, ap, ◌∙◌, List, [], ◌∷◌, ◌++◌, append_assoc}
use Rattle.std.proofs.lemmas.List.{append-nil}
use Rattle.ceu_tree.specs.declared.kernel.Kernel.{Kernel}
use Rattle.ceu_tree.specs.declared.kernel.KNode.{KNode}
use Rattle.ceu_tree.specs.Residual.{Act, Instances, no_instance}
use Rattle.ceu_tree.specs.Focus.{Frame, OfBlock, OfOpen, OfLoop, Focus, Here, In, leaf}
use Rattle.laws_meaning_basics.specs.Shape.{Part, around_statement, around_end, around_instance, around_part, around_turn, around_call, around_branch, Around, nothing_around, one_around}
use Rattle.ceu_endings.specs.OneTrail.{PlainFrame, PlainFocus}
use Rattle.ceu_trail.specs.Within.{in_frame, in_focus}
use Rattle.ceu_steps.specs.Reached.{wrap, Reached, at_statement, at_end, in_part, in_turn}
use Rattle.ceu_steps.specs.Live.{vars_in}

pub record Found (K : Kernel) (whole : Focus Act) (a : Act) (e : Part) : Type 0 where
  pub frames : List Frame
  pub is : whole ≡ wrap frames (Here a)
  pub reached : Reached K frames e

plain_out : (fr : Frame) (f : Focus Act) → PlainFocus (In fr f) → PlainFrame fr × PlainFocus f
unfolding PlainFocus
plain_out fr f p = p

pub found_in : {K : Kernel} (outer : List Frame) (f : Focus Act) (d e : Part) → Reached K outer d → Around K 1 Act f d e → PlainFocus f → Found K (wrap outer f) (leaf f) e
found_in outer (Here a) d e x nothing_around p = record { frames = outer; is = refl; reached = x }
found_in outer (In (OfBlock b fin all rest) f) d g x (one_around (around_statement done e q i) y) p =
    let s = plain_out (OfBlock b fin all rest) f p in
    let h = found_in (OfBlock b [] no_instance rest ∷ outer) f _ g (at_statement done x e (sym q ∙ s.0.0)) y s.1 in
    record {
      frames = h.frames;
      is = ap (λ (z : List KNode). wrap outer (In (OfBlock b z all rest) f)) s.0.0 ∙ ap (λ (z : Instances). wrap outer (In (OfBlock b [] z rest) f)) s.0.1 ∙ h.is;
      reached = h.reached;
    }
found_in outer (In (OfBlock b fin all _) f) d g x (one_around (around_end q i) y) p =
    let s = plain_out (OfBlock b fin all []) f p in
    let h = found_in (OfBlock b [] no_instance [] ∷ outer) f _ g (at_end x (sym q ∙ s.0.0)) y s.1 in
    record {
      frames = h.frames;
      is = ap (λ (z : List KNode). wrap outer (In (OfBlock b z all []) f)) s.0.0 ∙ ap (λ (z : Instances). wrap outer (In (OfBlock b [] z []) f)) s.0.1 ∙ h.is;
      reached = h.reached;
    }
found_in outer (In (OfOpen s) f) d g x (one_around (around_part b o) y) p = found_in (OfOpen s ∷ outer) f _ g (in_part b x o) y (plain_out (OfOpen s) f p).1
found_in outer (In (OfLoop s c) f) d g x (one_around (around_turn k b e n) y) p = found_in (OfLoop s c ∷ outer) f _ g (in_turn k b x e n) y (plain_out (OfLoop s c) f p).1
found_in outer (In fr f) d g x (one_around (around_instance done k e q r i j t c) y) p = absurd (plain_out fr f p).0
found_in outer (In fr f) d g x (one_around (around_call c es u t k e q) y) p = absurd (plain_out fr f p).0
found_in outer (In fr f) d g x (one_around (around_branch k slot bs b cs e i j) y) p = absurd (plain_out fr f p).0

-- the variables around the leaf
pub vars_wrap : (outer : List Frame) (f : Focus Act) → in_focus (wrap outer f) ≡ vars_in outer ++ in_focus f
vars_wrap [] f = refl
vars_wrap (fr ∷ outer) f = vars_wrap outer (In fr f) ∙ sym (append_assoc (vars_in outer) (in_frame fr) (in_focus f))

pub vars_here : (outer : List Frame) (a : Act) → in_focus (wrap outer (Here a)) ≡ vars_in outer
vars_here outer a = vars_wrap outer (Here a) ∙ append-nil (vars_in outer)
