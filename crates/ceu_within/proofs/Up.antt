-- What a leaf comes to, handed from part to part outward, keeps values, counters and what exits carry within what is around.
use Rattle.std.proofs.Common.{◌≡◌, refl, sym, subst, pos, Bool, true, false, ◌==◌, List, [], ◌∷◌, ◌++◌, append-nil}
use Rattle.ceu_base.specs.declared.kinds.Mark.TheVariants as mark
use Rattle.ceu_tree.specs.declared.kernel.Kernel.{Kernel}
use Rattle.ceu_tree.specs.declared.kernel.KLoop.{KLoop}
use Rattle.ceu_tree.specs.declared.kernel.KNode.{KNode}
use Rattle.ceu_tree.specs.declared.kernel.KBlock.{KBlock, out-KBlock}
use Rattle.ceu_tree.specs.declared.kernel.KStmt.{out-KStmt}
use Rattle.ceu_tree.specs.declared.kernel.KStmt.TheOpen.{KStmt-F}
use Rattle.ceu_tree.specs.Residual.{Program, Act, Again, Counter, Residual, Instances, no_instance}
use Rattle.ceu_tree.specs.Focus.{Frame, OfBlock, OfInstance, OfOpen, OfLoop, OfCall, OfPar, Focus, Here, In, fill, leaf}
use Rattle.ceu_tree.specs.World.{World, marked}
use Rattle.ceu_tree.specs.Around.{Outcome, Goes, Rests, Raises, Fails, Past, Registers, AtBlockEnd, AtLoopHead, Ends, Leaves, through, up}
use Rattle.ceu_tree.specs.Proper.{Scope, is_proper}
use Rattle.laws_meaning_basics.specs.Shape.{Part, ABlock, AStatement, AnEnd, part_scope, turn_scope, opens_part, aimed, FrameFits, around_statement, around_end, around_instance, around_part, around_turn, around_call, around_branch, Around, nothing_around, one_around, Comes}
use Rattle.laws_meaning_basics.proofs.UpFits.{Sound, frame_sound, up_fits}
use Rattle.laws_meaning_values.specs.Ground.{Ground, On}
use Rattle.laws_meaning_values.proofs.NeedsAt.{LowAt, frame_ground}
use Rattle.laws_meaning_values.proofs.UpValues.{plain_body}
use Rattle.ceu_endings.specs.OneTrail.{PlainFrame, PlainFocus}
use Rattle.ceu_trail.specs.Within.{Variable, in_frame, in_focus, in_rest, ValuesWithin, frame_within, focus_within, act_brings, rest_within}
use Rattle.ceu_within.proofs.Widths.{ungroup, regroup, same_values, closed_within}
use Rattle.ceu_within.proofs.Exits.{AimsLow, frame_aims}
use Rattle.ceu_within.proofs.Scopes.{PartIn, frame_in}
use Rattle.ceu_within.proofs.Around.{Inside, ends_with, exit_carries, block_next, block_left}
use Rattle.ceu_within.proofs.Through.{open_ends, open_exit, loop_goes, loop_turns, loop_exits, turn_carries}

-- ---- a part that is filled

fill_in : (fr : Frame) (r : Residual) → PlainFrame fr → in_rest (fill fr r) ≡ in_frame fr ++ in_rest r
unfolding in_rest
fill_in (OfBlock b fin all rest) r p = refl
fill_in (OfOpen s) r p = refl
fill_in (OfLoop s c) r p = refl
fill_in (OfInstance b fin front seat back q rest) r p = absurd p
fill_in (OfCall s) r p = absurd p
fill_in (OfPar s front back) r p = absurd p

fill_within : (K : Kernel) (fr : Frame) (r : Residual) → PlainFrame fr → frame_within fr → rest_within K r → rest_within K (fill fr r)
unfolding rest_within
fill_within K (OfBlock b fin all rest) r p c h = h
fill_within K (OfOpen s) r p c h = h
fill_within K (OfLoop s k) r p c h = (c, h)
fill_within K (OfInstance b fin front seat back q rest) r p c h = absurd p
fill_within K (OfCall s) r p c h = absurd p
fill_within K (OfPar s front back) r p c h = absurd p

module _ (K : Kernel) (proper : is_proper K ≡ true) (plain : K.codes ≡ []) where
  -- what goes on or rests inside does so outside
  goes_outside : (whole : Bool) (d : Part) (vs : List Variable) (fr : Frame) (f g : Focus Act) (w : World) → frame_within fr → ValuesWithin ((vs ++ in_frame fr) ++ in_focus g) w × focus_within g × act_brings K (leaf g)
      → Inside K whole d vs (In fr f) (Goes (In fr g)) w
  unfolding focus_within
  goes_outside whole d vs fr f g w c h = (ungroup vs (in_frame fr) (in_focus g) w h.0, (c, h.1), h.2)

  rests_outside : (whole : Bool) (d : Part) (vs : List Variable) (fr : Frame) (f : Focus Act) (r : Residual) (w : World) → PlainFrame fr → frame_within fr → ValuesWithin ((vs ++ in_frame fr) ++ in_rest r) w × rest_within K r
      → Inside K whole d vs (In fr f) (Rests (fill fr r)) w
  rests_outside whole d vs fr f r w p c h =
      (subst (λ l. ValuesWithin (vs ++ l) w) (sym (fill_in fr r p)) (ungroup vs (in_frame fr) (in_rest r) w h.0), fill_within K fr r p c h.1)

  through_statement : (whole turn : Bool) (sc : Scope) (b : KBlock) (fin : List KNode) (all : Instances) (rest : List KNode) (f : Focus Act) (x : Outcome) (w : World) (vs : List Variable) (q : Scope) (s : KNode)
      → (fin ≡ []) × (all ≡ no_instance) → PlainFocus f → AimsLow whole (ABlock turn sc b) → q.aims ≡ sc.aims → Comes K 0 (AStatement q s) x → Inside K false (AStatement q s) (vs ++ in_frame (OfBlock b fin all rest)) f x w
      → Inside K whole (ABlock turn sc b) vs (In (OfBlock b fin all rest) f) (through Program (OfBlock b fin all rest) f x w).outcome (through Program (OfBlock b fin all rest) f x w).world
  through_statement whole turn sc b fin all rest f (Goes g) w vs q s p i low e k h = goes_outside whole (ABlock turn sc b) vs (OfBlock b fin all rest) f g w tt h
  through_statement whole turn sc b fin all rest f (Rests r) w vs q s p i low e k h = rests_outside whole (ABlock turn sc b) vs (OfBlock b fin all rest) f r w p tt h
  through_statement whole turn sc b fin all rest f (Raises r) w vs q s p i low e k h = tt
  through_statement whole turn sc b fin all rest f (Fails z r) w vs q s p i low e k h = tt
  through_statement whole turn sc b fin all rest f Past w vs q s p i low e k h = block_next K vs b fin all rest f p i w fin w h
  through_statement whole turn sc b fin all rest f (Registers z) w vs q s p i low e k h =
      block_next K vs b fin all rest f p i w (z ∷ fin) (marked (mark.Registered z.pos) w) (same_values (vs ++ in_frame (OfBlock b fin all rest)) w (marked (mark.Registered z.pos) w) refl h)
  through_statement whole turn sc b fin all rest f AtBlockEnd w vs q s p i low e k h = absurd k
  through_statement whole turn sc b fin all rest f AtLoopHead w vs q s p i low e k h = absurd k
  through_statement whole turn sc b fin all rest f (Ends v) w vs q s p i low e k h = absurd k
  through_statement whole turn sc b fin all rest f (Leaves node x) w vs q s p i low e k h =
      block_left K vs b fin all rest f p i w whole turn sc (node == (out-KBlock b).node) node x refl low (subst (λ l. aimed node l ≡ true) e k) (h.0, subst (λ l. exit_carries l node x) e h.1)

  through_end : (whole turn : Bool) (sc : Scope) (b : KBlock) (fin : List KNode) (all : Instances) (f : Focus Act) (x : Outcome) (w : World) (vs : List Variable)
      → (fin ≡ []) × (all ≡ no_instance) → PlainFocus f → Comes K 0 AnEnd x → Inside K false AnEnd (vs ++ in_frame (OfBlock b fin all [])) f x w
      → Inside K whole (ABlock turn sc b) vs (In (OfBlock b fin all []) f) (through Program (OfBlock b fin all []) f x w).outcome (through Program (OfBlock b fin all []) f x w).world
  through_end whole turn sc b fin all f (Goes g) w vs p i k h = goes_outside whole (ABlock turn sc b) vs (OfBlock b fin all []) f g w tt h
  through_end whole turn sc b fin all f (Rests r) w vs p i k h = rests_outside whole (ABlock turn sc b) vs (OfBlock b fin all []) f r w p tt h
  through_end whole turn sc b fin all f (Raises r) w vs p i k h = tt
  through_end whole turn sc b fin all f (Fails z r) w vs p i k h = tt
  through_end whole turn sc b fin all f AtBlockEnd w vs p i k h = (closed_within vs b fin all w p.0 p.1 h, go whole)
    where
      go : (z : Bool) → ends_with z (pos 0)
      go true = tt
      go false = refl
  through_end whole turn sc b fin all f Past w vs p i k h = absurd k
  through_end whole turn sc b fin all f (Registers z) w vs p i k h = absurd k
  through_end whole turn sc b fin all f AtLoopHead w vs p i k h = absurd k
  through_end whole turn sc b fin all f (Ends v) w vs p i k h = absurd k
  through_end whole turn sc b fin all f (Leaves node x) w vs p i k h = absurd k

  through_part : (whole : Bool) (sc q : Scope) (s : KNode) (b : KBlock) (f : Focus Act) (x : Outcome) (w : World) (vs : List Variable) → opens_part (out-KStmt s.stmt) b → PlainFocus f → PartIn (AStatement sc s) vs → Sound K proper (AStatement sc s)
      → q ≡ part_scope K sc s.node (out-KStmt s.stmt) → Comes K 0 (ABlock false q b) x → Inside K false (ABlock false q b) (vs ++ []) f x w
      → Inside K whole (AStatement sc s) vs (In (OfOpen s) f) (through Program (OfOpen s) f x w).outcome (through Program (OfOpen s) f x w).world
  through_part whole sc q s b f (Goes g) w vs o i z ok e k h = goes_outside whole (AStatement sc s) vs (OfOpen s) f g w tt h
  through_part whole sc q s b f (Rests r) w vs o i z ok e k h = rests_outside whole (AStatement sc s) vs (OfOpen s) f r w tt tt h
  through_part whole sc q s b f (Raises r) w vs o i z ok e k h = tt
  through_part whole sc q s b f (Fails u r) w vs o i z ok e k h = tt
  through_part whole sc q s b f (Ends v) w vs o i z ok e k h = open_ends K vs sc s z ok whole b o f i w v h
  through_part whole sc q s b f (Leaves node x) w vs o i z ok e k h = open_exit K vs sc s z ok whole b o f i w (node == s.node) node x refl (h.0, subst (λ l. exit_carries l.aims node x) e h.1)
  through_part whole sc q s b f Past w vs o i z ok e k h = absurd k
  through_part whole sc q s b f (Registers u) w vs o i z ok e k h = absurd k
  through_part whole sc q s b f AtBlockEnd w vs o i z ok e k h = absurd k
  through_part whole sc q s b f AtLoopHead w vs o i z ok e k h = absurd k

  through_turn : (whole : Bool) (sc q : Scope) (s : KNode) (c : Counter) (k : KLoop) (b : KBlock) (f : Focus Act) (x : Outcome) (w : World) (vs : List Variable) → out-KStmt s.stmt ≡ KStmt-F.Loop k b → PlainFocus f → PartIn (AStatement sc s) vs → Sound K proper (AStatement sc s)
      → frame_within (OfLoop s c) → q ≡ turn_scope K sc s.node k → Comes K 0 (ABlock true q b) x → Inside K false (ABlock true q b) (vs ++ in_frame (OfLoop s c)) f x w
      → Inside K whole (AStatement sc s) vs (In (OfLoop s c) f) (through Program (OfLoop s c) f x w).outcome (through Program (OfLoop s c) f x w).world
  through_turn whole sc q s c k b f (Goes g) w vs e i z ok n u m h = goes_outside whole (AStatement sc s) vs (OfLoop s c) f g w n h
  through_turn whole sc q s c k b f (Rests r) w vs e i z ok n u m h = rests_outside whole (AStatement sc s) vs (OfLoop s c) f r w tt n h
  through_turn whole sc q s c k b f (Raises r) w vs e i z ok n u m h = tt
  through_turn whole sc q s c k b f (Fails y r) w vs e i z ok n u m h = tt
  through_turn whole sc q s c k b f AtLoopHead w vs e i z ok n u m h = loop_turns K vs sc s z ok whole k b e c n (In (OfLoop s c) f) w h
  through_turn whole sc q s c k b f (Ends v) w vs e i z ok n u m h = loop_goes K vs sc s z ok whole k b e c n c Again (In (OfLoop s c) f) w n tt h.0
  through_turn whole sc q s c k b f (Leaves node x) w vs e i z ok n u m h =
      loop_exits K vs sc s z ok whole k b e c n (node == s.node) f w node x i (h.0, turn_carries K vs sc s z ok whole k b e c n k node x (subst (λ l. exit_carries l.aims node x) u h.1))
  through_turn whole sc q s c k b f Past w vs e i z ok n u m h = absurd m
  through_turn whole sc q s c k b f (Registers y) w vs e i z ok n u m h = absurd m
  through_turn whole sc q s c k b f AtBlockEnd w vs e i z ok n u m h = absurd m

  through_within : (whole : Bool) (fr : Frame) (f : Focus Act) (x : Outcome) (w : World) (d e : Part) (vs : List Variable) → FrameFits K 1 fr d e → PlainFrame fr → PlainFocus f → PartIn d vs → Sound K proper d → frame_within fr → AimsLow whole d
      → Comes K 0 e x → Inside K false e (vs ++ in_frame fr) f x w → Inside K whole d vs (In fr f) (through Program fr f x w).outcome (through Program fr f x w).world
  through_within whole fr f x w d e vs (around_statement {turn = turn} {sc = sc} {b = b} {fin = fin} {rest = rest} {all = all} {s = s} done q z a) p i o ok n low k h = through_statement whole turn sc b fin all rest f x w vs _ s p i low refl k h
  through_within whole fr f x w d e vs (around_end {turn = turn} {sc = sc} {b = b} {fin = fin} {all = all} z a) p i o ok n low k h = through_end whole turn sc b fin all f x w vs p i k h
  through_within whole fr f x w d e vs (around_instance {seat = seat} done k' q z r before after y c) p i o ok n low k h = absurd p
  through_within whole fr f x w d e vs (around_part {sc = sc} {s = s} b y) p i o ok n low k h = through_part whole sc _ s b f x w vs y i o ok refl k h
  through_within whole fr f x w d e vs (around_turn {sc = sc} {s = s} {c = c} j b q y) p i o ok n low k h = through_turn whole sc _ s c j b f x w vs q i o ok n refl k h
  through_within whole fr f x w d e vs (around_call c es g t j q y) p i o ok n low k h = absurd p
  through_within whole fr f x w d e vs (around_branch {s = s} j slot bs b cs q y z) p i o ok n low k h = absurd p

  pub up_within : (whole : Bool) (f : Focus Act) (x : Outcome) (w : World) (d e : Part) (g : Ground) (vs : List Variable) → On d g → LowAt d g → Sound K proper d → Around K 1 Act f d e → PlainFocus f → PartIn d vs → focus_within f → AimsLow whole d → Comes K 0 e x
      → ((whole : Bool) (us : List Variable) (h : Focus Act) → ValuesWithin us w → Inside K whole e us h x w) → ValuesWithin (vs ++ in_focus f) w → Inside K whole d vs f (up Program f x w).outcome (up Program f x w).world
  unfolding up PlainFocus focus_within
  up_within whole (Here a) x w d e g vs on lo ok nothing_around p o n low k give h = give whole vs (Here a) (subst (λ l. ValuesWithin l w) (append-nil vs) h)
  up_within whole (In fr f) x w d e g vs on lo ok (one_around {e = c} a more) p o n low k give h =
      let i = frame_ground K proper plain a g on lo ok in
      let sound = frame_sound K proper a ok in
      let inner = up_within false f x w c e i.ground (vs ++ in_frame fr) i.on i.low sound more p.1 (frame_in K a p.0 vs o) n.1 (frame_aims K a p.0 whole g on low) k give (regroup vs (in_frame fr) (in_focus f) w h) in
      let m = up Program f x w in
      let outer = through_within whole fr f m.outcome m.world d c vs a p.0 p.1 o ok n.0 low (up_fits K proper 0 Program f x w c e sound more k) inner in
      subst (λ b. Inside K whole d vs (In fr f) (through Program fr f (up b f x w).outcome (up b f x w).world).outcome (through Program fr f (up b f x w).outcome (up b f x w).world).world) (sym (plain_body K proper plain a)) outer
