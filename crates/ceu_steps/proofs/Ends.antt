-- A do begins and ends, and the program ends.
use Rattle.std.proofs.Common.{◌≡◌, refl, sym, ap, ◌∙◌, subst, ◌<◌, ◌≤◌, inr, ℕ, ◌+◌, ℤ, pos, Bool, true, false, ◌&&◌, List, [], ◌∷◌, ◌++◌, length, Option, Some, None, arith}
use Rattle.std.proofs.lemmas.Bool.{and_parts, le-leb}
use Rattle.std.proofs.lemmas.List.{append-nil}
use Rattle.ceu_base.specs.declared.kinds.Mark.{Mark}
use Rattle.ceu_base.specs.declared.kinds.Pos.{Pos}
use Rattle.ceu_base.specs.declared.kinds.Ty.{Ty}
use Rattle.ceu_base.specs.declared.kinds.Ty.TheVariants as ty
use Rattle.ceu_code.specs.declared.image.Image.{Image}
use Rattle.ceu_code.specs.declared.instr.Instr.TheVariants as instr
use Rattle.ceu_code.specs.Instructions.{cell}
use Rattle.ceu_asm.specs.declared.line.Line.{Line}
use Rattle.ceu_mem.specs.Bytes.{number_at}
use Rattle.ceu_mem.specs.Memory.{with_sign}
use Rattle.ceu_mem.proofs.Views.{number_outside, number_written}
use Rattle.ceu_isa.specs.declared.registers.Registers.{Registers}
use Rattle.ceu_isa.specs.Layout.{cell_at, scratch_at, with_scratch, with_state, ended}
use Rattle.ceu_isa.specs.Fetching.{fetched}
use Rattle.ceu_isa.specs.Effects as isa
use Rattle.ceu_isa.specs.Effects.{Finishes, provided}
use Rattle.ceu_isa.specs.Rows.{effect}
use Rattle.ceu_isa.specs.Turns.{Machine, Trail, rewritten}
use Rattle.laws_machine_code.specs.Placed.{Placed}
use Rattle.laws_machine_code.specs.Does.{Does, stays, goes}
use Rattle.laws_machine_code.proofs.Steps.{pushes}
use Rattle.ceu_tree.specs.declared.kernel.Kernel.{Kernel}
use Rattle.ceu_tree.specs.declared.kernel.KNode.{KNode}
use Rattle.ceu_tree.specs.declared.kernel.KBlock.{KBlock, out-KBlock}
use Rattle.ceu_tree.specs.declared.kernel.KStmt.{out-KStmt, Do}
use Rattle.ceu_tree.specs.declared.kernel.Loc.{Loc}
use Rattle.ceu_tree.specs.Abort.{closed, instances_aborted}
use Rattle.ceu_tree.specs.Leaf as does
use Rattle.ceu_tree.specs.Leaf.{acted, target, next_of, rest_of}
use Rattle.ceu_tree.specs.Proper.{Scope, outside_finalizers, takes, stmt_ok, block_ok, with_aim, do_aim}
use Rattle.ceu_tree.specs.Residual.{Program, Act, Begin, Start, AtEnd, no_instance}
use Rattle.ceu_tree.specs.Focus.{Frame, OfBlock, OfOpen, Focus, Here, In}
use Rattle.ceu_tree.specs.Around.{Goes, Ends, AtBlockEnd, Moved, moved, taken}
use Rattle.ceu_tree.specs.Step.{stepped}
use Rattle.ceu_tree.specs.World.{World, assign, assign_if}
use Rattle.laws_meaning_basics.specs.Shape.{ABlock, AnEnd, block_scope}
use Rattle.laws_meaning_basics.proofs.Static.{names_of}
use Rattle.ceu_shape.specs.Plans.{Plan, own_label, end_label}
use Rattle.ceu_shape.specs.Words.{plain, goto, store}
use Rattle.ceu_shape.specs.Searches.{node_of_block}
use Rattle.ceu_shape.specs.Shape.{parts_draft}
use Rattle.laws_machine_layout.specs.Views.{view}
use Rattle.ceu_trail.specs.Built.{at_label, behind, ending, StatementBuilt, ListBuilt}
use Rattle.ceu_trail.specs.Compiled.{Compiled}
use Rattle.ceu_trail.specs.Coming.{Comes}
use Rattle.ceu_trail.specs.Tables.{tables}
use Rattle.ceu_trail.specs.Turning.{MemoryHolds}
use Rattle.ceu_trail.specs.Within.{ValuesWithin}
use Rattle.ceu_within.proofs.Around.{zero_value}
use Rattle.ceu_within.proofs.Scopes.{target_in}
use Rattle.ceu_within.proofs.Widths.{closed_within, nothing_more}
use Rattle.ceu_steps.specs.Running.{Runs, Unseen, trail_at}
use Rattle.ceu_steps.specs.Premises.{BuiltLaws}
use Rattle.ceu_steps.specs.Reached.{wrap, Reached}
use Rattle.ceu_steps.specs.Live.{vars_in}
use Rattle.ceu_steps.proofs.Comes.{StandsIn, comes_on, no_marks, reaches_by}
use Rattle.ceu_steps.proofs.Evaluates.{does_spare}
use Rattle.ceu_steps.proofs.Finishes.{store_passed}
use Rattle.ceu_steps.proofs.Frames.{opens_is, step_is, past_goes, up_in, up_here}
use Rattle.ceu_steps.proofs.Lines.{goto_runs, line_runs}
use Rattle.ceu_steps.proofs.Simple.{passed_on}
use Rattle.ceu_steps.proofs.Ticks.{onward, did}
use Rattle.ceu_steps.proofs.Turns.{Standing, AtStart, counts_stay, reached, among, scene, fine, cells}
use Rattle.ceu_steps.proofs.Unseen.{holds_unseen, unseen_numbers, kept_unseen}
use Rattle.ceu_steps.proofs.Worlds.{holds_fades, closed_fades, marks_declared}
use denote.Hole.Carrier

-- ---- a constant is pushed

pub record Put (image : Image) (at : ℕ) (v : ℤ) (m : Machine) : Type 0 where
  pub after : List ℕ
  pub runs : Runs image 1 (Trail (trail_at image at 0) m) (Trail (trail_at image (at + 10) 1) (rewritten after m))
  pub unseen : Unseen image m.bytes after
  pub holds : number_at 8 after (cell_at 0) ≡ cell v

pub constant_put : (image : Image) (P : Plan) (width : ℕ → ℕ) (K : Kernel) (at : ℕ) (t : Ty) (v : ℤ) (w : World) (m : Machine) → MemoryHolds image P width K w m.bytes → fetched image at ≡ Some (instr.Push t v) → 0 < image.depth → Put image at v m
unfolding effect
constant_put image P width K at t v w m holds f lt =
    let x = pushes image (trail_at image (at + 10) 0) m.bytes v holds.fits lt in
    let d : Does image (trail_at image at 0) m.bytes (trail_at image (at + 10) 1) x.after = goes (instr.Push t v) f refl x.is stays in
    record {
      after = x.after;
      runs = line_runs (instr.Push t v) (trail_at image (at + 10) 1) x.after f x.is;
      unseen = kept_unseen image 0 m.bytes x.after x.kept (does_spare image d holds.are_bytes).are_bytes;
      holds = x.holds;
    }

set_effect : (image : Image) (at : ℕ) (bytes : List ℕ) → 0 < image.depth → effect image instr.SetValue (trail_at image at 1) bytes ≡ isa.Goes (trail_at image at 0) (with_scratch (number_at 8 bytes (cell_at 0)) bytes) []
unfolding effect
set_effect image at bytes lt = ap (λ (b : Bool). provided b (isa.Goes (trail_at image at 0) (with_scratch (number_at 8 bytes (cell_at 0)) bytes) [])) (le-leb 1 image.depth (omega arith))

end_effect : (image : Image) (r : Registers) (bytes : List ℕ) → effect image instr.End r bytes ≡ Finishes (with_state ended bytes)
unfolding effect
end_effect image r bytes = refl

module _ (laws : BuiltLaws) (image : Image) (P : Plan) (width : ℕ → ℕ) (K : Kernel) (compiled : Compiled image P width K) where
  -- ---- a do begins

  do_does : (n : ℕ) (p : Pos) (t : Option Loc) (c : KBlock) (w : World) → let s : KNode = record { node = n; pos = p; stmt = Do t c } in acted K 0 Program (Start s) w ≡ does.done (does.Opens (In (OfOpen s) (Here (Begin c)))) w
  unfolding out-KStmt Carrier.out
  do_does n p t c w = refl

  do_lines : (n : ℕ) (p : Pos) (t : Option Loc) (c : KBlock) → StatementBuilt image P K (record { node = n; pos = p; stmt = Do t c })
      → (fetched image (at_label image P K (own_label n)) ≡ Some (instr.Jump (at_label image P K (own_label (node_of_block c))))) × (at_label image P K (end_label (node_of_block c)) ≡ at_label image P K (own_label n) + 3)
  unfolding parts_draft
  do_lines n p t c built = (built.lines.1.0, built.lines.1.1.0)

  pub do_comes : {outer : List Frame} {turn : Bool} {sc : Scope} {b : KBlock} {done rest : List KNode} (n : ℕ) (p : Pos) (t : Option Loc) (c : KBlock) (w : World) (at : ℕ) (m : Machine)
      → AtStart image P width K outer turn sc b done rest (record { node = n; pos = p; stmt = Do t c }) w at m
      → let v = stepped K 0 Program (wrap outer (In (OfBlock b [] no_instance rest) (Here (Start (record { node = n; pos = p; stmt = Do t c }))))) w in Comes image P width K w (trail_at image at 0) m v.outcome v.world
  do_comes {outer = outer} {b = b} {rest = rest} n p t c w at m h =
      let s : KNode = record { node = n; pos = p; stmt = Do t c } in
      let lines = do_lines n p t c (among laws image P width K compiled h.spot).built in
      subst (λ (v : Moved). Comes image P width K w (trail_at image at 0) m v.outcome v.world) (sym (opens_is (Start s) w w (In (OfOpen s) (Here (Begin c))) (reached laws image P width K compiled h.spot) (do_does n p t c w)))
      (comes_on image P width K (OfBlock b [] no_instance rest ∷ outer) (OfOpen s) (Begin c) w w m m at (at_label image P K (own_label (node_of_block c))) 1 (omega arith)
      (goto_runs (at_label image P K (own_label (node_of_block c))) (subst (λ (j : ℕ). fetched image j ≡ Some (instr.Jump (at_label image P K (own_label (node_of_block c))))) (sym h.stands.place) lines.0))
      (no_marks w m m.bytes) (record { memory = h.stands.memory; counts = (tt, h.stands.counts); place = refl }))

  -- ---- a block ends: the line behind its statements

  end_line : (whole : Bool) (b : KBlock) (at : ℕ) → ending P K b ≡ [] → ListBuilt image P K whole b [] at → Placed image (at_label image P K) at (behind P K whole b)
  end_line whole b at e built = subst (λ (l : List Line). Placed image (at_label image P K) at (l ++ behind P K whole b)) e built.lines

  -- of a statement that is open
  pub end_jumps : (b : KBlock) (at : ℕ) → ending P K b ≡ [] → ListBuilt image P K false b [] at → fetched image at ≡ Some (instr.Jump (at_label image P K (end_label (node_of_block b))))
  end_jumps b at e built = (end_line false b at e built).0

  -- what the reference semantics does there
  pub end_is : {turn : Bool} {sc : Scope} {outer : List Frame} (s : KNode) (b b0 : KBlock) (rest : List KNode) (w : World) → Reached K outer (ABlock turn sc b0) → Reached K (OfBlock b [] no_instance [] ∷ OfOpen s ∷ OfBlock b0 [] no_instance rest ∷ outer) AnEnd
      → stepped K 0 Program (wrap outer (In (OfBlock b0 [] no_instance rest) (In (OfOpen s) (In (OfBlock b [] no_instance []) (Here AtEnd))))) w
      ≡ moved (Goes (wrap outer (In (OfBlock b0 [] no_instance (rest_of rest)) (Here (next_of rest))))) (assign_if Program (target s) (pos 0) (closed b [] no_instance Program w))
  end_is {outer = outer} s b b0 rest w x y =
      let f : Focus Act = In (OfBlock b0 [] no_instance rest) (In (OfOpen s) (In (OfBlock b [] no_instance []) (Here AtEnd))) in
      let u = closed b [] no_instance Program w in
      let one = up_in (OfBlock b [] no_instance []) (Here AtEnd) AtBlockEnd w (moved AtBlockEnd w) (λ z. refl) (up_here AtEnd AtBlockEnd w) in
      let two = up_in (OfOpen s) (In (OfBlock b [] no_instance []) (Here AtEnd)) AtBlockEnd w (moved (Ends (pos 0)) (closed b [] no_instance Program w)) (λ z. refl) one in
      let three = past_goes b0 rest (In (OfOpen s) (In (OfBlock b [] no_instance []) (Here AtEnd))) AtBlockEnd w (assign_if Program (target s) (pos 0) (closed b [] no_instance Program w)) x two in
      step_is AtEnd w (does.done does.Ends w) y refl
      ∙ ap (λ (m : Moved). moved (taken (wrap outer (In (OfBlock b0 [] no_instance rest) (In (OfOpen s) (In (OfBlock b [] no_instance []) (Here AtEnd))))) m.outcome) m.world) three

  -- the world that a block leaves behind
  pub marks_closed : (b : KBlock) (w : World) → (closed b [] no_instance Program w).marks ≡ w.marks
  unfolding instances_aborted
  marks_closed b w = marks_declared Program (out-KBlock b).decls w

  pub held_closed : (s : KNode) (b : KBlock) (frames : List Frame) (w : World) → ValuesWithin (vars_in (OfBlock b [] no_instance [] ∷ OfOpen s ∷ frames)) w → ValuesWithin (vars_in frames) (closed b [] no_instance Program w)
  held_closed s b frames w h = nothing_more (vars_in frames) (closed b [] no_instance Program w) (closed_within (vars_in frames ++ []) b [] no_instance w refl refl h)

  -- ---- a do ends

  do_none : (n : ℕ) (p : Pos) (c : KBlock) → StatementBuilt image P K (record { node = n; pos = p; stmt = Do None c }) → fetched image (at_label image P K (own_label n) + 3) ≡ Some (instr.Jump (at_label image P K (end_label n)))
  unfolding parts_draft
  do_none n p c built = built.lines.1.1.1.0

  do_some : (n : ℕ) (p : Pos) (l : Loc) (c : KBlock) → StatementBuilt image P K (record { node = n; pos = p; stmt = Do (Some l) c })
      → Placed image (at_label image P K) (at_label image P K (own_label n) + 3) (plain (instr.Push l.ty (pos 0)) ∷ store P.offset l ∷ goto (end_label n) ∷ [])
  unfolding parts_draft
  do_some n p l c built = (built.lines.1.1.1.0, (built.lines.1.1.1.1.0, (built.lines.1.1.1.1.1.0, tt)))

  do_ok : (sc : Scope) (n : ℕ) (l : Loc) (c : KBlock) → stmt_ok K (names_of K) sc n (Do (Some l) c) ≡ true → takes K sc l.ty l ≡ true
  unfolding stmt_ok
  do_ok sc n l c h = (and_parts (outside_finalizers sc.place) (takes K sc l.ty l) (and_parts (outside_finalizers sc.place && takes K sc l.ty l) (block_ok K (names_of K) (with_aim (do_aim K n (Some l)) sc) c) h).0).1

  target_do : (n : ℕ) (p : Pos) (t : Option Loc) (c : KBlock) → target (record { node = n; pos = p; stmt = Do t c }) ≡ t
  unfolding out-KStmt Carrier.out
  target_do n p t c = refl

  pub do_ends : {outer : List Frame} {turn : Bool} {sc : Scope} {b0 : KBlock} {done rest : List KNode} (n : ℕ) (p : Pos) (t : Option Loc) (b : KBlock) (w : World) (at : ℕ) (m : Machine)
      → let s : KNode = record { node = n; pos = p; stmt = Do t b } in
      Standing K outer turn sc b0 done rest s → ending P K b ≡ [] → Reached K (OfBlock b [] no_instance [] ∷ OfOpen s ∷ OfBlock b0 [] no_instance rest ∷ outer) AnEnd
      → StandsIn image P width K (OfOpen s ∷ OfBlock b0 [] no_instance rest ∷ outer) (OfBlock b [] no_instance []) AtEnd w at m.bytes → ValuesWithin (vars_in (OfBlock b [] no_instance [] ∷ OfOpen s ∷ OfBlock b0 [] no_instance rest ∷ outer)) w
      → let v = stepped K 0 Program (wrap outer (In (OfBlock b0 [] no_instance rest) (In (OfOpen s) (In (OfBlock b [] no_instance []) (Here AtEnd))))) w in Comes image P width K w (trail_at image at 0) m v.outcome v.world
  do_ends {outer = outer} {sc = sc} {b0 = b0} {done = done} {rest = rest} n p None b w at m spot none x stands held =
      let s : KNode = record { node = n; pos = p; stmt = Do None b } in
      let u = closed b [] no_instance Program w in
      let built = (among laws image P width K compiled spot).built in
      let lines = do_lines n p None b built in
      let jump = goto_runs {m = m} (at_label image P K (own_label n) + 3) (subst (λ (j : ℕ). fetched image at ≡ Some (instr.Jump j)) lines.1 (end_jumps b at none stands.place)) in
      subst (λ (v : Moved). Comes image P width K w (trail_at image at 0) m v.outcome v.world)
      (sym (end_is s b b0 rest w spot.block x ∙ ap (λ (q : Option Loc). moved (Goes (wrap outer (In (OfBlock b0 [] no_instance (rest_of rest)) (Here (next_of rest))))) (assign_if Program q (pos 0) (closed b [] no_instance Program w))) (target_do n p None b)))
      (passed_on laws image P width K compiled outer b0 done rest s w (closed b [] no_instance Program w) m at spot.block spot.is
      (record {
        after = m;
        count = 2;
        few = omega arith;
        runs = onward jump (goto_runs (at_label image P K (end_label n)) (do_none n p b built));
        marks = record { added = []; semantics = marks_closed b w ∙ sym (append-nil w.marks); machine = sym (append-nil m.marks) };
        memory = holds_fades image P width K w (closed b [] no_instance Program w) m.bytes (closed_fades b Program w) stands.memory;
        counts = stands.counts.1.1.1;
      }))
  do_ends {outer = outer} {sc = sc} {b0 = b0} {done = done} {rest = rest} n p (Some l) b w at m spot none x stands held =
      let s : KNode = record { node = n; pos = p; stmt = Do (Some l) b } in
      let u = closed b [] no_instance Program w in
      let frames : List Frame = OfBlock b0 [] no_instance rest ∷ outer in
      let built = (among laws image P width K compiled spot).built in
      let lines = do_lines n p (Some l) b built in
      let jump = goto_runs {m = m} (at_label image P K (own_label n) + 3) (subst (λ (j : ℕ). fetched image at ≡ Some (instr.Jump j)) lines.1 (end_jumps b at none stands.place)) in
      let code = do_some n p l b built in
      let memory : MemoryHolds image P width K (closed b [] no_instance Program w) m.bytes = holds_fades image P width K w (closed b [] no_instance Program w) m.bytes (closed_fades b Program w) stands.memory in
      let put = constant_put image P width K (at_label image P K (own_label n) + 3) l.ty (pos 0) (closed b [] no_instance Program w) m memory code.0 (cells laws image P width K compiled spot) in
      let tg = target_in K (block_scope sc b0) l l.ty (vars_in (OfBlock b0 [] no_instance rest ∷ outer)) (scene laws image P width K compiled spot).scope (do_ok (block_scope sc b0) n l b (fine laws image P width K compiled spot)) in
      let y = store_passed laws image P width K compiled spot l l.ty (pos 0) (closed b [] no_instance Program w) m at (at_label image P K (own_label n) + 3 + 10) 2 put.after tg (zero_value l.ty)
      (held_closed s b (OfBlock b0 [] no_instance rest ∷ outer) w held) (holds_unseen image P width K (closed b [] no_instance Program w) m.bytes put.after put.unseen memory)
      (counts_stay (tables P width K) image (view image m.bytes) (view image put.after) (OfBlock b0 [] no_instance rest ∷ outer) (unseen_numbers image m.bytes put.after put.unseen) stands.counts.1.1) (omega arith) (onward jump put.runs) put.holds code.1 in
      subst (λ (v : Moved). Comes image P width K w (trail_at image at 0) m v.outcome v.world)
      (sym (end_is s b b0 rest w spot.block x ∙ ap (λ (q : Option Loc). moved (Goes (wrap outer (In (OfBlock b0 [] no_instance (rest_of rest)) (Here (next_of rest))))) (assign_if Program q (pos 0) (closed b [] no_instance Program w))) (target_do n p (Some l) b)))
      (passed_on laws image P width K compiled outer b0 done rest s w (assign Program l (pos 0) (closed b [] no_instance Program w)) m at spot.block spot.is
      (record {
        after = y.after;
        count = y.count;
        few = y.few;
        runs = y.runs;
        marks = record { added = y.marks.added; semantics = y.marks.semantics ∙ ap (λ (k : List Mark). k ++ y.marks.added) (marks_closed b w); machine = y.marks.machine };
        memory = y.memory;
        counts = y.counts;
      }))

  -- ---- the program ends

  program_is : (b : KBlock) (w : World) → Reached K (OfBlock b [] no_instance [] ∷ []) AnEnd → stepped K 0 Program (In (OfBlock b [] no_instance []) (Here AtEnd)) w ≡ moved (Ends (pos 0)) (closed b [] no_instance Program w)
  program_is b w x =
      step_is AtEnd w (does.done does.Ends w) x refl
      ∙ ap (λ (m : Moved). moved (taken (In (OfBlock b [] no_instance []) (Here AtEnd)) m.outcome) m.world) (up_in (OfBlock b [] no_instance []) (Here AtEnd) AtBlockEnd w (moved AtBlockEnd w) (λ z. refl) (up_here AtEnd AtBlockEnd w))

  zero_ended : (bytes : List ℕ) → 16 ≤ length bytes → number_at 8 bytes (cell_at 0) ≡ cell (pos 0) → (number_at 8 (with_state ended (with_scratch (number_at 8 bytes (cell_at 0)) bytes)) scratch_at) ≡ 0
  zero_ended bytes room e =
      number_outside 8 2 ended (with_scratch (number_at 8 bytes (cell_at 0)) bytes) 0 scratch_at (inr (omega arith))
      ∙ number_written 8 (number_at 8 bytes (cell_at 0)) bytes scratch_at (omega (arith, e)) (omega arith) ∙ e

  pub program_ends : (b : KBlock) (w : World) (at : ℕ) (m : Machine) → 0 < image.depth → ending P K b ≡ [] → Reached K (OfBlock b [] no_instance [] ∷ []) AnEnd → StandsIn image P width K [] (OfBlock b [] no_instance []) AtEnd w at m.bytes
      → let v = stepped K 0 Program (In (OfBlock b [] no_instance []) (Here AtEnd)) w in Comes image P width K w (trail_at image at 0) m v.outcome v.world
  program_ends b w at m lt none x stands =
      let lines = end_line true b at none stands.place in
      let put = constant_put image P width K at ty.S32 (pos 0) w m stands.memory lines.0 lt in
      let after : List ℕ = with_scratch (number_at 8 put.after (cell_at 0)) put.after in
      let set : Runs image 1 (Trail (trail_at image (at + 10) 1) (rewritten put.after m)) (Trail (trail_at image (at + 10 + 1) 0) (rewritten (with_scratch (number_at 8 put.after (cell_at 0)) put.after) m)) =
      line_runs instr.SetValue (trail_at image (at + 10 + 1) 0) (with_scratch (number_at 8 put.after (cell_at 0)) put.after) lines.1.0 (set_effect image (at + 10 + 1) put.after lt) in
      let over = did {r = trail_at image (at + 10 + 1) 0} {m = rewritten (with_scratch (number_at 8 put.after (cell_at 0)) put.after) m} instr.End (Finishes (with_state ended (with_scratch (number_at 8 put.after (cell_at 0)) put.after))) lines.1.1.1.0
      (end_effect image (trail_at image (at + 10 + 1 + 1) 0) (with_scratch (number_at 8 put.after (cell_at 0)) put.after)) in
      let room : 16 ≤ length put.after = omega (arith, put.unseen.size, stands.memory.fits.size) in
      subst (λ (v : Moved). Comes image P width K w (trail_at image at 0) m v.outcome v.world) (sym (program_is b w x))
      (record {
        after = rewritten (with_state ended (with_scratch (number_at 8 put.after (cell_at 0)) put.after)) m;
        reaches = reaches_by {n = 1 + (1 + 1)} (omega arith) (onward put.runs (onward set over));
        marks = record { added = []; semantics = marks_closed b w ∙ sym (append-nil w.marks); machine = sym (append-nil m.marks) };
        value_is = ap (λ (k : ℕ). with_sign ty.S64 k) (zero_ended put.after room put.holds);
      })
