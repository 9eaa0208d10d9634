-- An escape that leaves the body of the program: its value stays in the header, and the program ends with it.
use Rattle.std.proofs.Common.{◌≡◌, refl, sym, ap, ◌∙◌, subst, inr, ℕ, ◌+◌, ◌%◌, ◌^◌, ℤ, Bool, true, List, [], ◌∷◌, ◌++◌, Option, Some, None, Ok, arith, eq-eqb}
use Rattle.std.proofs.lemmas.List.{append-nil}
use Rattle.ceu_base.specs.declared.kinds.Pos.{Pos}
use Rattle.ceu_base.specs.declared.kinds.Ty.TheVariants as ty
use Rattle.ceu_base.specs.Values.{IsValue}
use Rattle.ceu_code.specs.declared.image.Image.{Image}
use Rattle.ceu_code.specs.declared.instr.Instr.TheVariants as instr
use Rattle.ceu_code.specs.Instructions.{cell}
use Rattle.laws_machine_code.specs.Placed.{Placed}
use Rattle.laws_machine_code.proofs.Lines.{parts_are_placed}
use Rattle.ceu_isa.specs.declared.registers.Registers.{Registers}
use Rattle.ceu_isa.specs.Layout.{scratch_at, with_state, ended}
use Rattle.ceu_isa.specs.Fetching.{fetched}
use Rattle.ceu_isa.specs.Effects.{Finishes}
use Rattle.ceu_isa.specs.Rows.{effect}
use Rattle.ceu_isa.specs.Turns.{Machine, rewritten}
use Rattle.ceu_mem.specs.Bytes.{number_at}
use Rattle.ceu_mem.specs.Memory.{with_sign}
use Rattle.ceu_mem.proofs.Views.{number_outside}
use Rattle.ceu_tree.specs.declared.kernel.Kernel.{Kernel}
use Rattle.ceu_tree.specs.declared.kernel.KExp.{KExp}
use Rattle.ceu_tree.specs.declared.kernel.KNode.{KNode}
use Rattle.ceu_tree.specs.declared.kernel.KBlock.{KBlock, KBlock', out-KBlock}
use Rattle.ceu_tree.specs.declared.kernel.Loc.{Loc}
use Rattle.ceu_tree.specs.Abort.{aborted, closed}
use Rattle.ceu_tree.specs.Expressions.{value_of}
use Rattle.ceu_tree.specs.Leaf as does
use Rattle.ceu_tree.specs.Leaf.{Escape, acted}
use Rattle.ceu_tree.specs.Proper.{Scope, gives_if}
use Rattle.ceu_tree.specs.Residual.{Program, Act, Start, Over, no_instance}
use Rattle.ceu_tree.specs.Focus.{Frame, OfBlock, Focus, Here, In, plug}
use Rattle.ceu_tree.specs.Around.{Ends, Leaves, Moved, moved, through, up, taken, body_left}
use Rattle.ceu_tree.specs.Step.{stepped}
use Rattle.ceu_tree.specs.World.{World}
use Rattle.laws_meaning_basics.specs.Shape.{Part, block_scope}
use Rattle.ceu_shape.specs.Plans.{Plan, own_label, end_label}
use Rattle.ceu_shape.specs.Flow.{keep}
use Rattle.ceu_shape.specs.Searches.{node_of_block, escape_target}
use Rattle.ceu_shape.specs.Shape.{block_draft}
use Rattle.ceu_shape.specs.Words.{goto}
use Rattle.laws_meaning_values.proofs.Operators.{held_value}
use Rattle.laws_machine_layout.proofs.Gates.{cell_small}
use Rattle.ceu_trail.specs.Built.{at_label, number, behind}
use Rattle.ceu_trail.specs.Compiled.{Compiled}
use Rattle.ceu_trail.specs.Coming.{Comes}
use Rattle.ceu_trail.specs.Parts.{GatesAt}
use Rattle.ceu_within.proofs.Leaf.{given_value}
use Rattle.ceu_steps.specs.Running.{trail_at}
use Rattle.ceu_steps.specs.Ready.{longest, Brings}
use Rattle.ceu_steps.specs.Premises.{BuiltLaws}
use Rattle.ceu_steps.specs.Reached.{wrap, Reached, at_program}
use Rattle.ceu_steps.specs.Live.{vars_in}
use Rattle.ceu_steps.proofs.Comes.{reaches_by}
use Rattle.ceu_steps.proofs.Frames.{step_is}
use Rattle.ceu_steps.proofs.Lines.{goto_runs}
use Rattle.ceu_steps.proofs.Numbers.{value_back}
use Rattle.ceu_steps.proofs.Places.{gates_of, built_of}
use Rattle.ceu_steps.proofs.Ticks.{onward, did}
use Rattle.ceu_steps.proofs.Turns.{AtStart, reached, scene, cells}
use Rattle.ceu_steps.proofs.Unseen.{holds_unseen}
use Rattle.ceu_rounds.proofs.LoopEnds.{closed_marks}
use Rattle.ceu_rounds.proofs.Rising.{Rising}
use Rattle.ceu_rounds.proofs.Spots.{StepDone}
use Rattle.ceu_escapes.specs.Laws.{valued}
use Rattle.ceu_escapes.proofs.Escapes.{abort_by}
use Rattle.ceu_escapes.proofs.Found.{body_has_none}
use Rattle.ceu_escapes.proofs.Values.{value_set, given_parts, value_does, ValueLines}
use denote.Hole.Carrier

-- ---- what the body makes of it

body_takes : (m : ℕ) (v : ℤ) (w : World) (b : KBlock) (rest : List KNode) (g : Focus Act) → m ≡ (out-KBlock b).node → Rising m (Escape v) w g
    → up Program (In (OfBlock b [] no_instance rest) g) (Leaves m (Escape v)) w ≡ moved (Ends v) (closed b [] no_instance Program (aborted (plug g Over) Program w))
unfolding up
body_takes m v w b rest g e r =
    ap (λ (k : Moved). through Program (OfBlock b [] no_instance rest) g k.outcome k.world) r.rises ∙ ap (λ (t : Bool). body_left t b [] no_instance g Program m (Escape v) w) (eq-eqb m (out-KBlock b).node e)

body_steps : {K : Kernel} {frames : List Frame} {d : Part} (m : ℕ) (v : ℤ) (w : World) (s : KNode) → Reached K frames d → acted K 0 Program (Start s) w ≡ does.done (does.Leaves m (Escape v)) w
    → (b : KBlock) (rest : List KNode) (g : Focus Act) → m ≡ (out-KBlock b).node → Rising m (Escape v) w g → wrap frames (Here (Start s)) ≡ In (OfBlock b [] no_instance rest) g
    → stepped K 0 Program (wrap frames (Here (Start s))) w ≡ moved (Ends v) (closed b [] no_instance Program (aborted (plug g Over) Program w))
body_steps m v w s at_leaf leaves b rest g e r same =
    step_is (Start s) w (does.done (does.Leaves m (Escape v)) w) at_leaf leaves
    ∙ ap (λ (f : Focus Act). let k = up Program f (Leaves m (Escape v)) w in moved (taken f k.outcome) k.world) same
    ∙ ap (λ (k : Moved). moved (taken (In (OfBlock b [] no_instance rest) g) k.outcome) k.world) (body_takes m v w b rest g e r)

-- ---- the program's end

node_is : (b : KBlock) → (out-KBlock b).node ≡ node_of_block b
unfolding out-KBlock Carrier.out
node_is (KBlock' n ds x list) = refl

end_effect : (image : Image) (r : Registers) (bytes : List ℕ) → effect image instr.End r bytes ≡ Finishes (with_state ended bytes)
unfolding effect
end_effect image r bytes = refl

-- the header's value is read as it was
value_ended : (v : ℤ) (bytes : List ℕ) → IsValue ty.S32 v → number_at 8 bytes scratch_at ≡ cell v → with_sign ty.S64 (number_at 8 (with_state ended bytes) scratch_at) ≡ v
value_ended v bytes ok e =
    let small = cell_small v in
    let whole : cell v ≡ cell v % 256 ^ 8 = omega (arith, small) in
    ap (λ (k : ℕ). with_sign ty.S64 k) (number_outside 8 2 ended bytes 0 scratch_at (inr (omega arith)) ∙ e ∙ whole) ∙ value_back ty.S64 v (λ q. absurd (cc)) (held_value ty.S64 ty.S32 v refl ok)

module _ (laws : BuiltLaws) (image : Image) (P : Plan) (width : ℕ → ℕ) (K : Kernel) (compiled : Compiled image P width K) where
  ends_there : (left : ℕ) → left ≡ (out-KBlock K.body).node → fetched image (at_label image P K (end_label left)) ≡ Some instr.End
  ends_there left e =
      let built = (built_of laws image P width K compiled at_program).1 in
      let q = parts_are_placed image (at_label image P K) (at_label image P K (own_label (node_of_block K.body))) ((block_draft P K K.body built.fresh).lines (number image P K)) (behind P K true K.body) built.lines in
      subst (λ (k : ℕ). fetched image (at_label image P K (end_label k)) ≡ Some instr.End) (sym (e ∙ node_is K.body)) (subst (λ (k : ℕ). fetched image k ≡ Some instr.End) (sym q.1.1.1.0) q.1.1.1.1.0)

  body_gates : (left : ℕ) → left ≡ (out-KBlock K.body).node → GatesAt image P left
  body_gates left e = subst (λ (k : ℕ). GatesAt image P k) (sym (e ∙ node_is K.body)) (gates_of laws image P width K compiled at_program).2

  body_target : (left : ℕ) → left ≡ (out-KBlock K.body).node → escape_target K left ≡ None
  body_target left e = ap (λ (k : ℕ). escape_target K k) e ∙ body_has_none K compiled.proper compiled.single

  module _ (outer : List Frame) (turn : Bool) (sc : Scope) (b : KBlock) (done rest : List KNode) (n : ℕ) (p : Pos) (left : ℕ) (e : KExp) (w : World) (at : ℕ) (m : Machine) where
    pub body_escape : {behind_it : List KNode} (g : Focus Act) (v : ℤ) → AtStart image P width K outer turn sc b done rest (valued n p left e) w at m → ValueLines image P K n left e → value_of e Program w ≡ Ok v
        → Brings image m (at_label image P K (own_label n)) v → left ≡ (out-KBlock K.body).node → gives_if K (block_scope sc b) ty.S32 (Some e) ≡ true → Rising left (Escape v) w g
        → wrap (OfBlock b [] no_instance rest ∷ outer) (Here (Start (valued n p left e))) ≡ In (OfBlock K.body [] no_instance behind_it) g
        → StepDone image P width K (OfBlock b [] no_instance rest ∷ outer) (Start (valued n p left e)) w (at_label image P K (own_label n)) m
    body_escape {behind_it = behind_it} g v h lines q y en gives_it r same =
        let sn = scene laws image P width K compiled h.spot in
        let gp = given_parts K (block_scope sc b) ty.S32 e gives_it in
        let ok : IsValue ty.S32 v = given_value K (block_scope sc b) (vars_in (OfBlock b [] no_instance rest ∷ outer)) sn.scope sn.once w h.held ty.S32 e gp.gives_it v q in
        let k = value_set image P width K (at_label image P K (own_label n)) v w m h.stands.memory (cells laws image P width K compiled h.spot) lines.sets y in
        let holds = holds_unseen image P width K w m.bytes k.after k.unseen h.stands.memory in
        let sweep = abort_by laws image P width K compiled left (at_label image P K (own_label n) + 3 + 1) w (rewritten k.after m) (body_gates left en) holds lines.aborts in
        let code : Placed image (at_label image P K) (at_label image P K (own_label n) + 3 + 1 + 5) (goto (end_label left) ∷ []) =
        subst (λ (t : Option Loc). Placed image (at_label image P K) (at_label image P K (own_label n) + 3 + 1 + 5) (keep P.offset e.ty t ++ goto (end_label left) ∷ [])) (body_target left en) lines.kept in
        let jump = goto_runs {m = rewritten k.after m} (at_label image P K (end_label left)) code.0 in
        let ends = did {r = trail_at image (at_label image P K (end_label left)) 0} {m = rewritten k.after m} instr.End (Finishes (with_state ended k.after)) (ends_there left en) (end_effect image (trail_at image (at_label image P K (end_label left) + 1) 0) k.after) in
        subst (λ (z : Moved). Comes image P width K w (trail_at image (at_label image P K (own_label n)) 0) m z.outcome z.world)
        (sym (body_steps left v w (valued n p left e) (reached laws image P width K compiled h.spot) (value_does K n p left e w (Ok v) q) K.body behind_it g en r same))
        (record {
          after = rewritten (with_state ended k.after) m;
          reaches = reaches_by {n = longest + 1 + (2 + (1 + 1))} (omega arith) (onward k.runs (onward sweep (onward jump ends)));
          marks = record { added = []; semantics = closed_marks K.body (aborted (plug g Over) Program w) ∙ r.marks ∙ sym (append-nil w.marks); machine = sym (append-nil m.marks) };
          value_is = value_ended v k.after ok k.holds;
        })
