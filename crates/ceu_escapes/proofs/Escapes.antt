-- An escape without a value: the trail aborts the gates of the do, all of which are free, and goes behind it.
use Rattle.std.proofs.Common.{◌≡◌, refl, sym, ap, ◌∙◌, subst, ◌≤◌, ℕ, ◌+◌, ℤ, pos, Bool, true, List, [], ◌∷◌, Option, Some, None, arith, eq-eqb}
use Rattle.std.specs.Prelude.{◌&&◌, not}
use Rattle.std.proofs.lemmas.Bool.{and_parts, false≢true}
use Rattle.std.proofs.lemmas.List.{append-nil}
use Rattle.ceu_base.specs.declared.kinds.Pos.{Pos}
use Rattle.ceu_base.specs.declared.kinds.Ty.TheVariants as ty
use Rattle.ceu_code.specs.declared.image.Image.{Image}
use Rattle.ceu_code.specs.declared.instr.Instr.TheVariants as instr
use Rattle.ceu_isa.specs.Fetching.{fetched}
use Rattle.ceu_isa.specs.Turns.{Machine, Trail}
use Rattle.ceu_tree.specs.declared.kernel.Kernel.{Kernel}
use Rattle.ceu_tree.specs.declared.kernel.KExp.{KExp}
use Rattle.ceu_tree.specs.declared.kernel.KNode.{KNode}
use Rattle.ceu_tree.specs.declared.kernel.KBlock.{KBlock}
use Rattle.ceu_tree.specs.declared.kernel.KStmt as kernel
use Rattle.ceu_tree.specs.declared.kernel.KStmt.{KStmt, out-KStmt}
use Rattle.ceu_tree.specs.declared.kernel.KStmt.TheOpen.{KStmt-F}
use Rattle.ceu_tree.specs.declared.kernel.Loc.{Loc}
use Rattle.ceu_tree.specs.Abort.{aborted}
use Rattle.ceu_tree.specs.Leaf as does
use Rattle.ceu_tree.specs.Leaf.{Layer, Exit, Escape, acted, target, target_of, next_of, rest_of}
use Rattle.ceu_tree.specs.Proper.{Scope, escape_ok, reads, is_loop_variable, looked_up, takes, stmt_ok, block_ok, outside_finalizers, with_aim, do_aim}
use Rattle.ceu_tree.specs.Typing.{same_ty, holds_all}
use Rattle.ceu_tree.specs.Residual.{Program, Act, Start, Over, no_instance}
use Rattle.ceu_tree.specs.Focus.{Frame, OfBlock, OfOpen, Focus, Here, In, plug}
use Rattle.ceu_tree.specs.Around.{Goes, Past, Leaves, Moved, moved, through, up, taken, open_left}
use Rattle.ceu_tree.specs.Step.{stepped}
use Rattle.ceu_tree.specs.World.{World, assign_if}
use Rattle.laws_meaning_basics.specs.Shape.{Part, block_scope}
use Rattle.laws_meaning_basics.proofs.Static.{names_of}
use Rattle.ceu_shape.specs.Plans.{Plan, own_label, end_label}
use Rattle.ceu_shape.specs.Shape.{parts_draft}
use Rattle.laws_machine_layout.specs.Views.{view}
use Rattle.ceu_trail.specs.Built.{at_label, StatementBuilt}
use Rattle.ceu_trail.specs.Compiled.{Compiled}
use Rattle.ceu_trail.specs.Coming.{Comes}
use Rattle.ceu_trail.specs.Parts.{GatesAt}
use Rattle.ceu_trail.specs.Tables.{tables}
use Rattle.ceu_trail.specs.Turning.{MemoryHolds}
use Rattle.ceu_steps.specs.Running.{Runs, trail_at}
use Rattle.ceu_steps.specs.Premises.{BuiltLaws}
use Rattle.ceu_steps.specs.Reached.{wrap, Reached}
use Rattle.ceu_steps.proofs.Ticks.{onward}
use Rattle.ceu_steps.proofs.Frames.{AllCount, past_goes, step_is}
use Rattle.ceu_steps.proofs.Lines.{goto_runs}
use Rattle.ceu_steps.proofs.Sweeps.{abort_goes_on}
use Rattle.ceu_steps.proofs.Expressions.{gates_free}
use Rattle.ceu_steps.proofs.Simple.{passed_on}
use Rattle.ceu_steps.proofs.Turns.{Standing, AtStart, single_of, reached, among, gates, fine}
use Rattle.ceu_steps.proofs.Worlds.{holds_fades}
use Rattle.ceu_rounds.proofs.Spots.{StepDone}
use Rattle.ceu_rounds.proofs.Rising.{Rising, rising_here}
use Rattle.ceu_escapes.specs.Laws.{bare}
use Rattle.ceu_escapes.proofs.Targets.{EscapeArrives, at_do, at_body, rise}
use denote.Hole.Carrier

-- ---- what the do makes of it

pub do_takes : (m : ℕ) (v : ℤ) (w : World) (s : KNode) (g : Focus Act) → m ≡ s.node → Rising m (Escape v) w g → up Program (In (OfOpen s) g) (Leaves m (Escape v)) w ≡ moved Past (assign_if Program (target s) v (aborted (plug g Over) Program w))
unfolding up
do_takes m v w s g e r = ap (λ (k : Moved). through Program (OfOpen s) g k.outcome k.world) r.rises ∙ ap (λ (t : Bool). open_left t s g Program m (Escape v) w) (eq-eqb m s.node e)

-- behind the do
pub escape_steps : {K : Kernel} {frames : List Frame} {d : Part} {outer : List Frame} {e : Part} (m : ℕ) (x : Exit) (w : World) (s0 : KNode) → Reached K frames d → acted K 0 Program (Start s0) w ≡ does.done (does.Leaves m x) w
    → (b : KBlock) (rest : List KNode) (s : KNode) (g : Focus Act) (v : World) → Reached K outer e → wrap frames (Here (Start s0)) ≡ wrap (OfOpen s ∷ OfBlock b [] no_instance rest ∷ outer) g
    → up Program (In (OfOpen s) g) (Leaves m x) w ≡ moved Past v → stepped K 0 Program (wrap frames (Here (Start s0))) w ≡ moved (Goes (wrap outer (In (OfBlock b [] no_instance (rest_of rest)) (Here (next_of rest))))) v
escape_steps {outer = outer} m x w s0 at_leaf leaves b rest s g v around same e =
    step_is (Start s0) w (does.done (does.Leaves m x) w) at_leaf leaves
    ∙ ap (λ (f : Focus Act). let k = up Program f (Leaves m x) w in moved (taken f k.outcome) k.world) same
    ∙ ap (λ (k : Moved). moved (taken (wrap (OfOpen s ∷ OfBlock b [] no_instance rest ∷ outer) g) k.outcome) k.world) (past_goes b rest (In (OfOpen s) g) (Leaves m x) w v around e)

pub target_is : (s : KNode) (l : Option Loc) (body : KBlock) → out-KStmt s.stmt ≡ KStmt-F.Do l body → target s ≡ l
target_is s l body e = ap target_of e

module _ (laws : BuiltLaws) (image : Image) (P : Plan) (width : ℕ → ℕ) (K : Kernel) (compiled : Compiled image P width K) where
  -- the abort finds no gate
  pub abort_by : (left at : ℕ) (w : World) (m : Machine) → GatesAt image P left → MemoryHolds image P width K w m.bytes → fetched image at ≡ Some (instr.AbortGates (P.first left) (P.count left))
      → Runs image 2 (Trail (trail_at image at 0) m) (Trail (trail_at image (at + 5) 0) m)
  abort_by left at w m g holds f =
      let first : P.first left ≡ 0 = g.first_is in
      let count : P.count left ≤ image.gates = g.within in
      abort_goes_on image (P.first left) (P.count left) (trail_at image at 0) m f refl (omega (arith, first, count)) (gates_free image P width K w m.bytes holds)

  -- those of a do
  pub do_gates : {o2 : List Frame} {t2 : Bool} {sc2 : Scope} {b2 : KBlock} {done2 rest2 : List KNode} {s : KNode} (left : ℕ) → Standing K o2 t2 sc2 b2 done2 rest2 s → left ≡ s.node → GatesAt image P left
  do_gates left spot e = subst (λ (k : ℕ). GatesAt image P k) (sym e) (gates laws image P width K compiled spot)

  bare_does : (n : ℕ) (p : Pos) (left : ℕ) (w : World) → acted K 0 Program (Start (bare n p left)) w ≡ does.done (does.Leaves left (Escape (pos 0))) w
  unfolding out-KStmt Carrier.out
  bare_does n p left w = refl

  pub escape_fine : (sc : Scope) (n left : ℕ) (e : Option KExp) → stmt_ok K (names_of K) sc n (kernel.Escape left e) ≡ true → escape_ok K sc left e sc.aims ≡ true
  unfolding stmt_ok
  escape_fine sc n left e h = (and_parts _ (escape_ok K sc left e sc.aims) h).1

  -- the lines
  record BareLines (n left : ℕ) : Type 0 where
    aborts : fetched image (at_label image P K (own_label n)) ≡ Some (instr.AbortGates (P.first left) (P.count left))
    goes : fetched image (at_label image P K (own_label n) + 5) ≡ Some (instr.Jump (at_label image P K (end_label left)))

  bare_lines : (n : ℕ) (p : Pos) (left : ℕ) → StatementBuilt image P K (bare n p left) → BareLines n left
  unfolding parts_draft
  bare_lines n p left built = record { aborts = built.lines.1.0; goes = built.lines.1.1.0 }

  -- a do's target has a type
  abbrev pub DoTyped : Scope → Layer → Type 0
  DoTyped sc (KStmt-F.Do (Some l) c) = takes K sc l.ty l ≡ true
  DoTyped sc layer = Unit {0}

  pub do_typed : (sc : Scope) (n : ℕ) (st : KStmt) → stmt_ok K (names_of K) sc n st ≡ true → DoTyped sc (out-KStmt st)
  unfolding stmt_ok out-KStmt Carrier.out
  do_typed sc n (kernel.Do (Some l) c) h = (and_parts (outside_finalizers sc.place) (takes K sc l.ty l) (and_parts (outside_finalizers sc.place && takes K sc l.ty l) (block_ok K (names_of K) (with_aim (do_aim K n (Some l)) sc) c) h).0).1
  do_typed sc n (kernel.Do None c) h = tt
  do_typed sc n st h = tt

  target_typed : (sc : Scope) (l : Loc) → takes K sc l.ty l ≡ true → same_ty l.ty ty.None ≡ true → ⊥
  target_typed sc l h q =
      let a = (and_parts (reads K sc l && not (is_loop_variable (looked_up K sc l)) && not (same_ty l.ty ty.None)) (holds_all l.ty l.ty) h).0 in
      let c = (and_parts (reads K sc l && not (is_loop_variable (looked_up K sc l))) (not (same_ty l.ty ty.None)) a).1 in
      false≢true (subst (λ (t : Bool). not t ≡ true) q c)

  module _ (outer : List Frame) (turn : Bool) (sc : Scope) (b : KBlock) (done rest : List KNode) (n : ℕ) (p : Pos) (left : ℕ) (w : World) (at : ℕ) (m : Machine) where
    abbrev frames : List Frame
    frames = OfBlock b [] no_instance rest ∷ outer

    abbrev this : KNode
    this = bare n p left

    by : {o2 : List Frame} {t2 : Bool} {sc2 : Scope} {b2 : KBlock} {done2 rest2 : List KNode} {s : KNode} (body : KBlock) (g : Focus Act) → AtStart image P width K outer turn sc b done rest this w at m → BareLines n left
        → Standing K o2 t2 sc2 b2 done2 rest2 s → out-KStmt s.stmt ≡ KStmt-F.Do None body → left ≡ s.node → Rising left (Escape (pos 0)) w g
        → AllCount (tables P width K) image (view image m.bytes) (OfBlock b2 [] no_instance rest2 ∷ o2) → wrap frames (Here (Start this)) ≡ wrap (OfOpen s ∷ OfBlock b2 [] no_instance rest2 ∷ o2) g
        → StepDone image P width K frames (Start this) w (at_label image P K (own_label n)) m
    by {o2 = o2} {b2 = b2} {done2 = done2} {rest2 = rest2} {s = s} body g h lines spot is e r counts same =
        let on = passed_on laws image P width K compiled o2 b2 done2 rest2 s w (aborted (plug g Over) Program w) m (at_label image P K (own_label n)) spot.block spot.is
        (record {
          after = m;
          count = 3;
          few = omega arith;
          runs = subst (λ (k : ℕ). Runs image 3 (Trail (trail_at image (at_label image P K (own_label n)) 0) m) (Trail (trail_at image (at_label image P K (end_label k)) 0) m)) e
              (onward (abort_by left (at_label image P K (own_label n)) w m (do_gates left spot e) h.stands.memory lines.aborts) (goto_runs (at_label image P K (end_label left)) lines.goes));
          marks = record { added = []; semantics = r.marks ∙ sym (append-nil w.marks); machine = sym (append-nil m.marks) };
          memory = holds_fades image P width K w (aborted (plug g Over) Program w) m.bytes r.fades h.stands.memory;
          counts = counts.1;
        }) in
        subst (λ (k : Moved). Comes image P width K w (trail_at image (at_label image P K (own_label n)) 0) m k.outcome k.world)
        (sym (escape_steps left (Escape (pos 0)) w this (reached laws image P width K compiled h.spot) (bare_does n p left w) b2 rest2 s g (aborted (plug g Over) Program w) spot.block same
        (do_takes left (pos 0) w s g e r ∙ ap (λ (t : Option Loc). moved Past (assign_if Program t (pos 0) (aborted (plug g Over) Program w))) (target_is s None body is)))) on

    pub bare_comes : AtStart image P width K outer turn sc b done rest this w at m → StepDone image P width K frames (Start this) w at m
    bare_comes h =
        let ok = escape_fine (block_scope sc b) n left None (fine laws image P width K compiled h.spot) in
        subst (λ (k : ℕ). StepDone image P width K frames (Start this) w k m) (sym h.stands.place)
        (arrived (rise K compiled.proper (single_of laws image P width K compiled) (tables P width K) image (view image m.bytes) left (block_scope sc b) None (pos 0) w (Here (Start this)) (reached laws image P width K compiled h.spot) ok h.stands.counts (rising_here left (Escape (pos 0)) w (Start this))))
      where
        lines : BareLines n left
        lines = bare_lines n p left (among laws image P width K compiled h.spot).built

        typed_do : {o2 : List Frame} {t2 : Bool} {sc2 : Scope} {b2 : KBlock} {done2 rest2 : List KNode} {s : KNode} (l : Loc) (body : KBlock) → Standing K o2 t2 sc2 b2 done2 rest2 s → out-KStmt s.stmt ≡ KStmt-F.Do (Some l) body → same_ty l.ty ty.None ≡ true → ⊥
        typed_do {sc2 = sc2} {b2 = b2} {s = s} l body spot is q =
            target_typed (block_scope sc2 b2) l (subst (λ (y : Layer). DoTyped (block_scope sc2 b2) y) is (do_typed (block_scope sc2 b2) s.node s.stmt (fine laws image P width K compiled spot))) q

        arrived : EscapeArrives K compiled.proper (single_of laws image P width K compiled) (tables P width K) image (view image m.bytes) left (block_scope sc b) None (pos 0) w frames (Here (Start this)) → StepDone image P width K frames (Start this) w (at_label image P K (own_label n)) m
        arrived (at_do None body g spot is e a r counts same) = by body g h lines spot is e r counts same
        arrived (at_do (Some l) body g spot is e a r counts same) = absurd (typed_do l body spot is a)
        arrived (at_body o s g is pl e a r same) = absurd (false≢true a)
