-- A step of a turn keeps values within the open parts.
use Rattle.std.proofs.Common.{◌≡◌, refl, sym, ap, ◌∙◌, subst, Bool, true, List, [], ◌++◌, append_assoc, append-nil, arith}
use Rattle.std.proofs.lemmas.Bool.{false≢true}
use Rattle.ceu_base.specs.declared.kinds.Ty.TheVariants as ty
use Rattle.ceu_tree.specs.declared.kernel.Kernel.{Kernel}
use Rattle.ceu_tree.specs.declared.kernel.KBlock.{out-KBlock}
use Rattle.ceu_tree.specs.declared.kernel.KStmt.{out-KStmt}
use Rattle.ceu_tree.specs.declared.kernel.KStmt.TheOpen.{KStmt-F}
use Rattle.ceu_tree.specs.Residual.{Program, Act, Begin, Start, Finish, AtEnd, AtHead, Again, Residual}
use Rattle.ceu_tree.specs.Focus.{Frame, OfBlock, OfInstance, OfOpen, OfLoop, OfCall, OfPar, Focus, Here, In, plug, graft, leaf, body_of}
use Rattle.ceu_tree.specs.World.{World}
use Rattle.ceu_tree.specs.Leaf as does
use Rattle.ceu_tree.specs.Leaf.{Does, Exit, target, next_of, rest_of, acted}
use Rattle.ceu_tree.specs.Around.{Outcome, Goes, Rests, Raises, Fails, Past, Registers, AtBlockEnd, AtLoopHead, Ends, Leaves, taken, answered, up}
use Rattle.ceu_tree.specs.Step.{does_in, stepped}
use Rattle.ceu_tree.specs.Proper.{Scope, BodyAim, is_proper}
use Rattle.laws_meaning_basics.specs.Shape.{Part, ABlock, AStatement, AnEnd, FrameFits, around_statement, around_end, around_instance, around_part, around_turn, around_call, around_branch, Around, nothing_around, one_around, ActFits, begins, heads, goes_again, starts, finishes, ends, TurnFits, Comes, program_part}
use Rattle.laws_meaning_basics.proofs.UpFits.{Sound, up_fits, inside_body}
use Rattle.laws_meaning_basics.proofs.LeafFits.{DoesFit, acted_fits}
use Rattle.laws_meaning_basics.proofs.StepFits.{around_sound}
use Rattle.laws_meaning_basics.proofs.RunFits.{root_sound}
use Rattle.laws_meaning_values.specs.Ground.{Ground, On}
use Rattle.laws_meaning_values.proofs.Grounds.{list_ground, part_ground, inner_ground, program_ground}
use Rattle.ceu_endings.specs.OneTrail.{PlainFrame, PlainFocus}
use Rattle.ceu_endings.proofs.Shapes.{PartSingle, layer_single, plain_focus}
use Rattle.ceu_single.specs.Single.{block_single}
use Rattle.ceu_trail.specs.Within.{Variable, turned, looped, in_frame, in_focus, in_rest, ValuesWithin, focus_within, act_brings, rest_within, TurnWithin}
use Rattle.ceu_within.specs.Laws.{OutcomeWithin}
use Rattle.ceu_within.proofs.Widths.{none_there, wider}
use Rattle.ceu_within.proofs.Scopes.{none_ty, ScopeIn, PartIn, frame_in}
use Rattle.ceu_within.proofs.Around.{Inside, next_brings, aims_of}
use Rattle.ceu_within.proofs.Up.{up_within}
use Rattle.ceu_within.proofs.Once.{Once, Before, before_more, block_once, turn_once}
use Rattle.ceu_within.proofs.Leaf.{typed_static, DoesWithin, DoneWithin, started_within, finished_within}

-- ---- plain focuses

body_plain : (f : Focus Act) → PlainFocus f → body_of f Program ≡ Program
unfolding PlainFocus
body_plain (Here a) p = refl
body_plain (In (OfBlock b fin all rest) f) p = body_plain f p.1
body_plain (In (OfOpen s) f) p = body_plain f p.1
body_plain (In (OfLoop s c) f) p = body_plain f p.1
body_plain (In (OfInstance b fin front seat back q rest) f) p = absurd p.0
body_plain (In (OfCall s) f) p = absurd p.0
body_plain (In (OfPar s front back) f) p = absurd p.0

graft_variables : (f x : Focus Act) → in_focus (graft f x) ≡ in_focus f ++ in_focus x
graft_variables (Here a) x = refl
graft_variables (In fr f) x = ap (λ l. in_frame fr ++ l) (graft_variables f x) ∙ sym (append_assoc (in_frame fr) (in_focus f) (in_focus x))

graft_within : (f x : Focus Act) → focus_within f → focus_within x → focus_within (graft f x)
unfolding focus_within
graft_within (Here a) x h k = k
graft_within (In fr f) x h k = (h.0, graft_within f x h.1 k)

graft_leaf : (f x : Focus Act) → leaf (graft f x) ≡ leaf x
graft_leaf (Here a) x = refl
graft_leaf (In fr f) x = graft_leaf f x

plug_variables : (f : Focus Act) (r : Residual) → PlainFocus f → in_rest (plug f r) ≡ in_focus f ++ in_rest r
unfolding in_rest PlainFocus
plug_variables (Here a) r p = refl
plug_variables (In (OfBlock b fin all rest) f) r p = ap (λ l. in_frame (OfBlock b fin all rest) ++ l) (plug_variables f r p.1) ∙ sym (append_assoc (in_frame (OfBlock b fin all rest)) (in_focus f) (in_rest r))
plug_variables (In (OfOpen s) f) r p = plug_variables f r p.1
plug_variables (In (OfLoop s c) f) r p = ap (λ l. looped (out-KStmt s.stmt) ++ l) (plug_variables f r p.1) ∙ sym (append_assoc (looped (out-KStmt s.stmt)) (in_focus f) (in_rest r))
plug_variables (In (OfInstance b fin front seat back q rest) f) r p = absurd p.0
plug_variables (In (OfCall s) f) r p = absurd p.0
plug_variables (In (OfPar s front back) f) r p = absurd p.0

plug_within : (K : Kernel) (f : Focus Act) (r : Residual) → PlainFocus f → focus_within f → rest_within K r → rest_within K (plug f r)
unfolding rest_within PlainFocus focus_within
plug_within K (Here a) r p h k = k
plug_within K (In (OfBlock b fin all rest) f) r p h k = plug_within K f r p.1 h.1 k
plug_within K (In (OfOpen s) f) r p h k = plug_within K f r p.1 h.1 k
plug_within K (In (OfLoop s c) f) r p h k = (h.0, plug_within K f r p.1 h.1 k)
plug_within K (In (OfInstance b fin front seat back q rest) f) r p h k = absurd p.0
plug_within K (In (OfCall s) f) r p h k = absurd p.0
plug_within K (In (OfPar s front back) f) r p h k = absurd p.0

-- ---- the scope of the leaf's statement

pub record StatementIn (sc : Scope) (vs : List Variable) : Type 0 where
  pub scope : ScopeIn sc vs
  pub once : Once vs

abbrev pub LeafIn : Part → List Variable → Type 0
LeafIn (AStatement sc s) vs = StatementIn sc vs
LeafIn d vs = Unit {0}

module _ (K : Kernel) (proper : is_proper K ≡ true) (plain : K.codes ≡ []) where
  end_in : (f : Focus Act) (e : Part) (vs : List Variable) → Around K 1 Act f AnEnd e → LeafIn e vs
  end_in (Here a) e vs nothing_around = tt
  end_in (In fr f) e vs (one_around x more) = elim x [ ]

  -- the part inside a frame
  inner_in : (fr : Frame) (f : Focus Act) (d c e : Part) (g : Ground) (vs : List Variable) → FrameFits K 1 fr d c → Around K 1 Act f c e → PlainFrame fr → On d g → PartIn d vs → Once vs → Before vs g.low
      → ((h : Ground) (us : List Variable) → On c h → PartIn c us → Once us → Before us h.low → LeafIn e (us ++ in_focus f)) → LeafIn e ((vs ++ in_frame fr) ++ in_focus f)
  inner_in fr f d c e g vs (around_statement {turn = turn} {sc = sc} {b = b} {fin = fin} {rest = rest} {all = all} {s = s} done q z a) more p on h o l rec =
      let i = list_ground b done s rest g q on in
      let x = block_once vs b done s rest g q on o l in
      rec i.ground (vs ++ in_frame (OfBlock b fin all rest)) i.on (frame_in {t = 1} K (around_statement {turn = turn} {sc = sc} {b = b} {fin = fin} {rest = rest} {all = all} {s = s} done q z a) p vs h) x.0 x.1
  inner_in fr f d c e g vs (around_end {b = b} {fin = fin} {all = all} z a) more p on h o l rec = end_in f e ((vs ++ in_frame (OfBlock b fin all [])) ++ in_focus f) more
  inner_in fr f d c e g vs (around_instance {seat = seat} done k q z r before after y w) more p on h o l rec = absurd p
  inner_in fr f d c e g vs (around_part {sc = sc} {s = s} b y) more p on h o l rec =
      let i = part_ground s b g y on in
      rec i.ground (vs ++ []) i.on (frame_in {t = 1} K (around_part {sc = sc} {s = s} b y) p vs h) (subst Once (sym (append-nil vs)) o) (subst (λ us. Before us i.ground.low) (sym (append-nil vs)) (before_more vs g.low i.ground.low i.inner.low l))
  inner_in fr f d c e g vs (around_turn {sc = sc} {s = s} {c = k} j b q y) more p on h o l rec =
      let i = inner_ground s (KStmt-F.Loop j b) g q on in
      let x = turn_once vs s j b g q on o l in
      let same : vs ++ turned j ≡ vs ++ in_frame (OfLoop s k) = ap (λ us. vs ++ us) (sym (ap looped q)) in
      rec i.ground (vs ++ in_frame (OfLoop s k)) i.on (frame_in {t = 1} K (around_turn {sc = sc} {s = s} {c = k} j b q y) p vs h) (subst Once same x.0) (subst (λ us. Before us i.ground.low) same x.1)
  inner_in fr f d c e g vs (around_call w es u t j q y) more p on h o l rec = absurd p
  inner_in fr f d c e g vs (around_branch {s = s} j slot bs b cs q y z) more p on h o l rec = absurd p

  leaf_in : (f : Focus Act) (d e : Part) (g : Ground) (vs : List Variable) → On d g → Around K 1 Act f d e → PlainFocus f → PartIn d vs → Once vs → Before vs g.low → LeafIn e (vs ++ in_focus f)
  unfolding PlainFocus
  leaf_in (Here a) (AStatement sc s) e g vs on nothing_around p h o l = record { scope = subst (ScopeIn sc) (sym (append-nil vs)) h; once = subst Once (sym (append-nil vs)) o }
  leaf_in (Here a) (ABlock turn sc b) e g vs on nothing_around p h o l = tt
  leaf_in (Here a) AnEnd e g vs on nothing_around p h o l = tt
  leaf_in (In fr f) d e g vs on (one_around {e = c} a more) p h o l =
      subst (LeafIn e) (append_assoc vs (in_frame fr) (in_focus f)) (inner_in fr f d c e g vs a more p.0 on h o l (λ h us on' i o' l'. leaf_in f c e h us on' more p.1 i o' l'))

  -- ---- a leaf

  acted_within : (vs : List Variable) (e : Part) (a : Act) (w : World) → ActFits e a → PartSingle e → Sound K proper e → LeafIn e vs → act_brings K a → ValuesWithin vs w → DoneWithin K vs (aims_of e) (acted K 0 Program a w)
  unfolding focus_within
  acted_within vs d (Begin c) w begins h ok i n held = (held, (tt, tt), next_brings K (out-KBlock c).list)
  acted_within vs d AtHead w heads h ok i n held = held
  acted_within vs d Again w goes_again h ok i n held = held
  acted_within vs d (Start s) w (starts {sc = sc}) h ok i n held = started_within K sc vs i.scope i.once w held s (out-KStmt s.stmt) (typed_static K sc s.node s.stmt ok) (layer_single s.stmt h)
  acted_within vs d (Finish s v) w (finishes {sc = sc} p) h ok i n held = finished_within K sc vs i.scope i.once w held s v (out-KStmt s.stmt) (typed_static K sc s.node s.stmt ok) (layer_single s.stmt h) p n
  acted_within vs d AtEnd w ends h ok i n held = held

  -- ---- the whole

  answer : (f : Focus Act) (x : Outcome) (w : World) → Comes K 0 (program_part K) x → Inside K true (program_part K) [] f x w → OutcomeWithin K (taken f x) w
  answer f (Goes g) w k h = record { values = h.0; counters = h.1; brought = h.2 }
  answer f (Rests r) w k h = record { values = h.0; counters = h.1 }
  answer f (Raises r) w k h = tt
  answer f (Fails e r) w k h = tt
  answer f (Ends v) w k h = tt
  answer f (Leaves node x) w k h = absurd (inside_body K proper 0 node (out-KBlock K.body).node (BodyAim (out-KBlock K.body).node ty.S32) refl k.0 k.1)
  answer f Past w k h = absurd k
  answer f (Registers s) w k h = absurd k
  answer f AtBlockEnd w k h = absurd k
  answer f AtLoopHead w k h = absurd k

  module _ (f : Focus Act) (e : Part) (around : Around K 1 Act f (program_part K) e) (p : PlainFocus f) (counters : focus_within f) (ok : Sound K proper (program_part K)) where
    answered_within : (x : Outcome) (w : World) → Comes K 0 e x → ((whole : Bool) (us : List Variable) (h : Focus Act) → ValuesWithin us w → Inside K whole e us h x w) → ValuesWithin (in_focus f) w
        → OutcomeWithin K (answered Program f x w).outcome (answered Program f x w).world
    answered_within x w k give held =
        let g = program_ground K proper in
        let m = up Program f x w in
        answer f m.outcome m.world (up_fits K proper 0 Program f x w (program_part K) e ok around k)
        (up_within K proper plain true f x w (program_part K) e _ [] g (record { seen = λ x c. absurd (false≢true c); main = refl }) ok around p (record { seen = λ slot t q. absurd (none_ty t q); main = refl }) counters (omega arith, tt) k give held)

    does_within : (x : Does) (w : World) → DoesFit K proper 0 e x → DoesWithin K (in_focus f) (aims_of e) x w → OutcomeWithin K (does_in K 0 Program Program f x w).outcome (does_in K 0 Program Program f x w).world
    does_within (does.Opens x) w k h = record {
      values = subst (λ l. ValuesWithin l w) (sym (graft_variables f x)) (wider (in_focus f) (in_focus x) w h.0);
      counters = graft_within f x counters h.1;
      brought = subst (act_brings K) (sym (graft_leaf f x)) h.2;
    }
    does_within (does.Waits r) w k h = record {
      values = subst (λ l. ValuesWithin l w) (sym (plug_variables f r p)) (wider (in_focus f) (in_rest r) w h.0);
      counters = plug_within K f r p counters h.2;
    }
    does_within does.Passes w k h = answered_within Past w k (λ whole us q i. i) h
    does_within does.Ends w k h = answered_within AtBlockEnd w k (λ whole us q i. i) h
    does_within does.Heads w k h = answered_within AtLoopHead w k (λ whole us q i. i) h
    does_within (does.Leaves node x) w k h = answered_within (Leaves node x) w k (λ whole us q i. (wider us (in_focus q) w i, h.1)) h.0
    does_within (does.Fails z) w k h = tt
    does_within (does.Registers s) w k h = absurd h
    does_within (does.Emits s event v) w k h = absurd h
    does_within (does.Spawns s c code pool alias vs) w k h = absurd h
    does_within (does.Kills n) w k h = absurd h

  pub stepped_within : block_single K.body ≡ true → (f : Focus Act) (w : World) → TurnFits K 1 (program_part K) f → TurnWithin K f w → OutcomeWithin K (stepped K 0 Program f w).outcome (stepped K 0 Program f w).world
  unfolding stepped
  stepped_within single f w x h =
      let ok = root_sound K proper in
      let q = plain_focus K plain x.around single in
      let i = leaf_in f (program_part K) x.part _ [] (program_ground K proper) x.around q.0 (record { seen = λ slot t z. absurd (none_ty t z); main = refl }) (record { one = λ y z c d r. absurd (none_there y c) }) (record { lower = λ y c. absurd (none_there y c) }) in
      let sound = around_sound K proper x.around ok in
      let m = acted K 0 Program (leaf f) w in
      let k = acted_fits K proper 0 Program x.part (leaf f) w sound x.acts in
      let a = acted_within (in_focus f) x.part (leaf f) w x.acts q.1 sound i h.brought h.values in
      let done = does_within f x.part x.around q.0 h.counters ok m.does m.world k a in
      subst (λ b. let d = acted K 0 b (leaf f) w in OutcomeWithin K (does_in K 0 Program b f d.does d.world).outcome (does_in K 0 Program b f d.does d.world).world) (sym (body_plain f q.0)) done
