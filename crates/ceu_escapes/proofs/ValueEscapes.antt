-- An escape with a value: the value goes to the header, the gates of what is left are aborted, and where that is a do the value goes from there to its
-- target.
use Rattle.std.proofs.Common.{◌≡◌, refl, sym, ap, ◌∙◌, subst, ℕ, ◌+◌, ℤ, pos, Bool, true, List, [], ◌∷◌, ◌++◌, Option, Some, None, Ok, Err, arith}
use Rattle.std.proofs.lemmas.Bool.{false≢true}
use Rattle.std.proofs.lemmas.List.{append-nil}
use Rattle.ceu_base.specs.declared.kinds.Mark.{Mark}
use Rattle.ceu_base.specs.declared.kinds.Pos.{Pos}
use Rattle.ceu_base.specs.declared.kinds.Ty.TheVariants as ty
use Rattle.ceu_base.specs.Values.{IsValue}
use Rattle.ceu_code.specs.declared.image.Image.{Image}
use Rattle.ceu_code.specs.declared.instr.Instr.TheVariants as instr
use Rattle.ceu_isa.specs.Turns.{Machine, rewritten}
use Rattle.laws_machine_code.specs.Placed.{Placed}
use Rattle.ceu_tree.specs.declared.kernel.Kernel.{Kernel}
use Rattle.ceu_tree.specs.declared.kernel.KExp.{KExp}
use Rattle.ceu_tree.specs.declared.kernel.KNode.{KNode}
use Rattle.ceu_tree.specs.declared.kernel.KBlock.{KBlock}
use Rattle.ceu_tree.specs.declared.kernel.KStmt.{out-KStmt}
use Rattle.ceu_tree.specs.declared.kernel.KStmt.TheOpen.{KStmt-F}
use Rattle.ceu_tree.specs.declared.kernel.Loc.{Loc}
use Rattle.ceu_tree.specs.Abort.{aborted}
use Rattle.ceu_tree.specs.Expressions.{Answer, value_of}
use Rattle.ceu_tree.specs.Leaf.{Layer, Escape}
use Rattle.ceu_tree.specs.Proper.{Scope, reads, asks, gives_if}
use Rattle.ceu_tree.specs.Residual.{Program, Act, Start, Over, no_instance}
use Rattle.ceu_tree.specs.Focus.{Frame, OfBlock, OfOpen, Focus, Here, plug}
use Rattle.ceu_tree.specs.Around.{Past, Moved, moved}
use Rattle.ceu_tree.specs.Typing.{typed}
use Rattle.ceu_tree.specs.World.{World, assign, assign_if}
use Rattle.laws_meaning_basics.specs.Shape.{block_scope}
use Rattle.ceu_shape.specs.Plans.{Plan, own_label, end_label}
use Rattle.ceu_shape.specs.Flow.{keep}
use Rattle.ceu_shape.specs.Searches.{escape_target}
use Rattle.ceu_shape.specs.Words.{plain, goto, store}
use Rattle.laws_meaning_values.specs.Results.{IsResult}
use Rattle.laws_meaning_values.proofs.Results.{results_are_values}
use Rattle.laws_machine_layout.specs.Views.{view}
use Rattle.ceu_trail.specs.Built.{at_label}
use Rattle.ceu_trail.specs.Compiled.{Compiled}
use Rattle.ceu_trail.specs.Coming.{Comes}
use Rattle.ceu_trail.specs.Tables.{tables}
use Rattle.ceu_trail.specs.Turning.{MemoryHolds}
use Rattle.ceu_trail.specs.Within.{Variable, ValuesWithin, in_focus}
use Rattle.ceu_within.proofs.Leaf.{given_value, exp_reads}
use Rattle.ceu_within.proofs.Scopes.{target_in}
use Rattle.ceu_within.proofs.Widths.{aborted_within}
use Rattle.ceu_steps.specs.Running.{trail_at}
use Rattle.ceu_steps.specs.Ready.{longest, Brings, Evaluated}
use Rattle.ceu_steps.specs.Premises.{BuiltLaws}
use Rattle.ceu_steps.specs.Reached.{wrap}
use Rattle.ceu_steps.specs.Live.{vars_in}
use Rattle.ceu_steps.proofs.Expressions.{expression_runs}
use Rattle.ceu_steps.proofs.Finds.{vars_here, vars_wrap}
use Rattle.ceu_steps.proofs.Finishes.{value_taken, store_passed}
use Rattle.ceu_steps.proofs.Frames.{AllCount}
use Rattle.ceu_steps.proofs.Simple.{passed_on}
use Rattle.ceu_steps.proofs.Ticks.{onward}
use Rattle.ceu_steps.proofs.Turns.{Standing, AtStart, single_of, reached, among, some_gate, scene, fine, deep, cells, positions, is_ready, counts_stay, fault_comes}
use Rattle.ceu_steps.proofs.Unseen.{holds_unseen, unseen_numbers, unseen_then}
use Rattle.ceu_steps.proofs.Worlds.{holds_fades}
use Rattle.ceu_rounds.proofs.Spots.{StepDone}
use Rattle.ceu_rounds.proofs.Rising.{Rising, rising_here}
use Rattle.ceu_escapes.specs.Laws.{valued}
use Rattle.ceu_escapes.proofs.Escapes.{do_takes, escape_steps, target_is, abort_by, do_gates, escape_fine, DoTyped, do_typed}
use Rattle.ceu_escapes.proofs.Targets.{EscapeArrives, at_do, at_body, rise}
use Rattle.ceu_escapes.proofs.Found.{targets_found}
use Rattle.ceu_escapes.proofs.Values.{value_set, some_value, given_parts, value_does, value_has, value_deep, value_placed, ValueLines, value_lines}
use Rattle.ceu_escapes.proofs.BodyEscapes.{body_escape}

marks_on : {new old first : List Mark} (added : List Mark) → new ≡ old ++ added → old ≡ first → new ≡ first ++ added
marks_on added e f = e ∙ ap (λ (marks : List Mark). marks ++ added) f

module _ (laws : BuiltLaws) (image : Image) (P : Plan) (width : ℕ → ℕ) (K : Kernel) (compiled : Compiled image P width K) where
  module _ (outer : List Frame) (turn : Bool) (sc : Scope) (b : KBlock) (done rest : List KNode) (n : ℕ) (p : Pos) (left : ℕ) (e : KExp) (w : World) (at : ℕ) (m : Machine) where
    abbrev frames : List Frame
    frames = OfBlock b [] no_instance rest ∷ outer

    abbrev this : KNode
    this = valued n p left e

    -- the values that are held once the part is aborted
    held_then : (o2 : List Frame) (b2 : KBlock) (rest2 : List KNode) (s : KNode) (g : Focus Act) (v : ℤ) → ValuesWithin (vars_in frames) w → Rising left (Escape v) w g → wrap frames (Here (Start this)) ≡ wrap (OfOpen s ∷ OfBlock b2 [] no_instance rest2 ∷ o2) g
        → ValuesWithin (vars_in (OfBlock b2 [] no_instance rest2 ∷ o2)) (aborted (plug g Over) Program w)
    held_then o2 b2 rest2 s g v held r same =
        let vars : vars_in frames ≡ (vars_in (OfBlock b2 [] no_instance rest2 ∷ o2) ++ []) ++ in_focus g =
        sym (vars_here frames (Start this)) ∙ ap (λ (f : Focus Act). in_focus f) same ∙ vars_wrap (OfOpen s ∷ OfBlock b2 [] no_instance rest2 ∷ o2) g in
        subst (λ (l : List Variable). ValuesWithin l (aborted (plug g Over) Program w)) (append-nil (vars_in (OfBlock b2 [] no_instance rest2 ∷ o2)))
        (aborted_within g (vars_in (OfBlock b2 [] no_instance rest2 ∷ o2) ++ []) w r.plain (subst (λ (l : List Variable). ValuesWithin l w) vars held))

    by : {o2 : List Frame} {t2 : Bool} {sc2 : Scope} {b2 : KBlock} {done2 rest2 : List KNode} {s : KNode} (l : Loc) (body : KBlock) (g : Focus Act) (v : ℤ) → AtStart image P width K outer turn sc b done rest this w at m → ValueLines image P K n left e
        → value_of e Program w ≡ Ok v → Brings image m (at_label image P K (own_label n)) v
        → Standing K o2 t2 sc2 b2 done2 rest2 s → out-KStmt s.stmt ≡ KStmt-F.Do (Some l) body → left ≡ s.node → gives_if K (block_scope sc b) l.ty (Some e) ≡ true → Rising left (Escape v) w g
        → AllCount (tables P width K) image (view image m.bytes) (OfBlock b2 [] no_instance rest2 ∷ o2) → wrap frames (Here (Start this)) ≡ wrap (OfOpen s ∷ OfBlock b2 [] no_instance rest2 ∷ o2) g
        → StepDone image P width K frames (Start this) w (at_label image P K (own_label n)) m
    by {o2 = o2} {sc2 = sc2} {b2 = b2} {done2 = done2} {rest2 = rest2} {s = s} l body g v h lines q y spot is en gives_it r counts same =
        let sn = scene laws image P width K compiled h.spot in
        let gp = given_parts K (block_scope sc b) l.ty e gives_it in
        let lt = cells laws image P width K compiled h.spot in
        let is_value : IsValue e.ty v = subst (IsResult e.ty) q (results_are_values (reads K (block_scope sc b)) (asks K (block_scope sc b)) Program w e gp.is_typed (exp_reads K (block_scope sc b) (vars_in frames) sn.scope sn.once w h.held e gp.is_typed)) in
        let ok : IsValue l.ty v = given_value K (block_scope sc b) (vars_in frames) sn.scope sn.once w h.held l.ty e gp.gives_it v q in
        let k = value_set image P width K (at_label image P K (own_label n)) v w m h.stands.memory lt lines.sets y in
        let holds2 : MemoryHolds image P width K w k.after = holds_unseen image P width K w m.bytes k.after k.unseen h.stands.memory in
        let sweep = abort_by laws image P width K compiled left (at_label image P K (own_label n) + 3 + 1) w (rewritten k.after m) (do_gates laws image P width K compiled left spot en) holds2 lines.aborts in
        let aim : escape_target K left ≡ Some l = ap (λ (i : ℕ). escape_target K i) en ∙ targets_found image P width K compiled (OfBlock b2 [] no_instance rest2 ∷ o2) (block_scope sc2 b2) s (Some l) body (reached laws image P width K compiled spot) is in
        let code : Placed image (at_label image P K) (at_label image P K (own_label n) + 3 + 1 + 5) (plain (instr.Value e.ty) ∷ store P.offset l ∷ goto (end_label s.node) ∷ []) =
        subst (λ (i : ℕ). Placed image (at_label image P K) (at_label image P K (own_label n) + 3 + 1 + 5) (plain (instr.Value e.ty) ∷ store P.offset l ∷ goto (end_label i) ∷ [])) en
        (subst (λ (t : Option Loc). Placed image (at_label image P K) (at_label image P K (own_label n) + 3 + 1 + 5) (keep P.offset e.ty t ++ goto (end_label left) ∷ [])) aim lines.kept) in
        let x = value_taken image P width K (at_label image P K (own_label n) + 3 + 1 + 5) e.ty v w (rewritten k.after m) holds2 code.0 (some_value l.ty e.ty gp.some gp.wide) is_value k.holds lt in
        let tg = target_in K (block_scope sc2 b2) l l.ty (vars_in (OfBlock b2 [] no_instance rest2 ∷ o2)) (scene laws image P width K compiled spot).scope
        (subst (λ (z : Layer). DoTyped laws image P width K compiled (block_scope sc2 b2) z) is (do_typed laws image P width K compiled (block_scope sc2 b2) s.node s.stmt (fine laws image P width K compiled spot))) in
        let z = store_passed laws image P width K compiled spot l l.ty v (aborted (plug g Over) Program w) m (at_label image P K (own_label n)) (at_label image P K (own_label n) + 3 + 1 + 5 + 2) (longest + 1 + (2 + 1)) x.after tg ok
        (held_then o2 b2 rest2 s g v h.held r same)
        (holds_fades image P width K w (aborted (plug g Over) Program w) x.after r.fades (holds_unseen image P width K w k.after x.after x.unseen holds2))
        (counts_stay (tables P width K) image (view image m.bytes) (view image x.after) (OfBlock b2 [] no_instance rest2 ∷ o2) (unseen_numbers image m.bytes x.after (unseen_then image m.bytes k.after x.after k.unseen x.unseen)) counts)
        (omega arith) (onward k.runs (onward sweep x.runs)) x.holds code.1 in
        let on = passed_on laws image P width K compiled o2 b2 done2 rest2 s w (assign Program l v (aborted (plug g Over) Program w)) m (at_label image P K (own_label n)) spot.block spot.is
        (record {
          after = z.after;
          count = z.count;
          few = z.few;
          runs = z.runs;
          marks = record { added = z.marks.added; semantics = marks_on z.marks.added z.marks.semantics r.marks; machine = z.marks.machine };
          memory = z.memory;
          counts = z.counts;
        }) in
        subst (λ (i : Moved). Comes image P width K w (trail_at image (at_label image P K (own_label n)) 0) m i.outcome i.world)
        (sym (escape_steps left (Escape v) w this (reached laws image P width K compiled h.spot) (value_does K n p left e w (Ok v) q) b2 rest2 s g (assign Program l v (aborted (plug g Over) Program w)) spot.block same
        (do_takes left v w s g en r ∙ ap (λ (t : Option Loc). moved Past (assign_if Program t v (aborted (plug g Over) Program w))) (target_is s (Some l) body is)))) on

    evaluated : (h : AtStart image P width K outer turn sc b done rest this w at m) (x : ValueLines image P K n left e) → typed (reads K (block_scope sc b)) (asks K (block_scope sc b)) e ≡ true → Evaluated image m (at_label image P K (own_label n)) (value_of e Program w)
    evaluated h x may =
        expression_runs image P width K w m e x.fresh (x.fresh + 2) (at_label image P K (own_label n)) x.begins h.stands.memory (some_gate laws image P width K compiled h.spot)
        (is_ready laws image P width K compiled h.spot w m.bytes e h.held h.stands.memory may (value_has left e w h.has)
        (let a = deep laws image P width K compiled h.spot in let q = value_deep left e in omega arith) (value_placed image P K p left e (positions laws image P width K compiled h.spot)))
        x.goes x.back x.part

    pub value_comes : AtStart image P width K outer turn sc b done rest this w at m → StepDone image P width K frames (Start this) w at m
    value_comes h =
        subst (λ (k : ℕ). StepDone image P width K frames (Start this) w k m) (sym h.stands.place)
        (by_answer (value_of e Program w) refl (evaluated h lines (may (pos 0) (arrives (pos 0)))))
      where
        lines : ValueLines image P K n left e
        lines = value_lines image P K n p left e (among laws image P width K compiled h.spot).built

        arrives : (v : ℤ) → EscapeArrives K compiled.proper (single_of laws image P width K compiled) (tables P width K) image (view image m.bytes) left (block_scope sc b) (Some e) v w frames (Here (Start this))
        arrives v =
            rise K compiled.proper (single_of laws image P width K compiled) (tables P width K) image (view image m.bytes) left (block_scope sc b) (Some e) v w (Here (Start this)) (reached laws image P width K compiled h.spot)
            (escape_fine laws image P width K compiled (block_scope sc b) n left (Some e) (fine laws image P width K compiled h.spot)) h.stands.counts (rising_here left (Escape v) w (Start this))

        may : (v : ℤ) → EscapeArrives K compiled.proper (single_of laws image P width K compiled) (tables P width K) image (view image m.bytes) left (block_scope sc b) (Some e) v w frames (Here (Start this)) → typed (reads K (block_scope sc b)) (asks K (block_scope sc b)) e ≡ true
        may v (at_do None body g spot is en a r counts same) = absurd (false≢true a)
        may v (at_do (Some l) body g spot is en a r counts same) = (given_parts K (block_scope sc b) l.ty e a).is_typed
        may v (at_body o s g is pl en a r same) = (given_parts K (block_scope sc b) ty.S32 e a).is_typed

        arrived : (v : ℤ) → value_of e Program w ≡ Ok v → Brings image m (at_label image P K (own_label n)) v
            → EscapeArrives K compiled.proper (single_of laws image P width K compiled) (tables P width K) image (view image m.bytes) left (block_scope sc b) (Some e) v w frames (Here (Start this)) → StepDone image P width K frames (Start this) w (at_label image P K (own_label n)) m
        arrived v q y (at_do None body g spot is en a r counts same) = absurd (false≢true a)
        arrived v q y (at_do (Some l) body g spot is en a r counts same) = by l body g v h lines q y spot is en a r counts same
        arrived v q y (at_body o s g is pl en a r same) = body_escape laws image P width K compiled outer turn sc b done rest n p left e w at m g v h lines q y en a r same

        by_answer : (a : Answer) → value_of e Program w ≡ a → Evaluated image m (at_label image P K (own_label n)) a → StepDone image P width K frames (Start this) w (at_label image P K (own_label n)) m
        by_answer (Ok v) q y = arrived v q y (arrives v)
        by_answer (Err z) q y =
            fault_comes laws image P width K compiled (Start this) w m (at_label image P K (own_label n)) 65540 z (omega arith) (reached laws image P width K compiled h.spot) (value_does K n p left e w (Err z) q) y
