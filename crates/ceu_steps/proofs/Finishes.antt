-- A statement that has waited goes on: the header's value goes to its target.
use Rattle.std.proofs.Common.{◌≡◌, ◌≢◌, refl, sym, ap, ◌∙◌, subst, ◌<◌, ◌≤◌, ℕ, ◌+◌, ℤ, Bool, true, ◌&&◌, List, [], ◌∷◌, Option, Some, None, arith}
use Rattle.std.specs.Prelude.{not}
use Rattle.std.proofs.lemmas.Bool.{and_parts, false≢true}
use Rattle.std.proofs.lemmas.List.{append-nil}
use Rattle.ceu_base.specs.declared.kinds.Pos.{Pos}
use Rattle.ceu_base.specs.declared.kinds.Ty.{Ty}
use Rattle.ceu_base.specs.declared.kinds.Ty.TheVariants as ty
use Rattle.ceu_base.specs.Values.{IsValue, is_value}
use Rattle.ceu_code.specs.declared.image.Image.{Image}
use Rattle.ceu_code.specs.declared.instr.Instr.TheVariants as instr
use Rattle.ceu_code.specs.Instructions.{cell}
use Rattle.ceu_asm.specs.declared.line.Line.{Line}
use Rattle.ceu_mem.specs.Bytes.{number_at}
use Rattle.ceu_mem.specs.Memory.{value_at, with_value}
use Rattle.ceu_isa.specs.Layout.{slots_at, cell_at, scratch_at}
use Rattle.ceu_isa.specs.Fetching.{fetched, cell_type}
use Rattle.ceu_isa.specs.Effects.{Goes, provided}
use Rattle.ceu_isa.specs.Cells.{pushed}
use Rattle.ceu_isa.specs.Rows.{effect}
use Rattle.ceu_isa.specs.Turns.{Machine, Trail, rewritten}
use Rattle.laws_machine_code.specs.Placed.{Placed}
use Rattle.laws_machine_code.specs.Does.{Does, stays, goes}
use Rattle.laws_machine_code.proofs.Steps.{pushes, cell_value}
use Rattle.ceu_tree.specs.declared.kernel.Kernel.{Kernel}
use Rattle.ceu_tree.specs.declared.kernel.KExp.{KExp}
use Rattle.ceu_tree.specs.declared.kernel.KNode.{KNode}
use Rattle.ceu_tree.specs.declared.kernel.KBlock.{KBlock}
use Rattle.ceu_tree.specs.declared.kernel.KStmt.{out-KStmt, AwaitIn, AwaitTime}
use Rattle.ceu_tree.specs.declared.kernel.KStmt.TheOpen.{KStmt-F}
use Rattle.ceu_tree.specs.declared.kernel.Loc.{Loc}
use Rattle.ceu_tree.specs.declared.kernel.Unit.{Unit as KernelUnit}
use Rattle.ceu_tree.specs.Leaf as does
use Rattle.ceu_tree.specs.Leaf.{acted, target}
use Rattle.ceu_tree.specs.Proper.{Scope, is_trail, reads, is_loop_variable, looked_up, takes, takes_if, time_ok, port_ty, on_ty, stmt_ok}
use Rattle.ceu_tree.specs.Residual.{Program, Finish, no_instance}
use Rattle.ceu_tree.specs.Focus.{Frame, OfBlock, Here, In}
use Rattle.ceu_tree.specs.Step.{stepped}
use Rattle.ceu_tree.specs.Typing.{same_ty, holds_all}
use Rattle.ceu_tree.specs.World.{World, assign, assign_if}
use Rattle.laws_meaning_basics.specs.Shape.{block_scope}
use Rattle.laws_meaning_basics.proofs.Static.{names_of}
use Rattle.ceu_shape.specs.Plans.{Plan, own_label, end_label}
use Rattle.ceu_shape.specs.Words.{plain, goto, store}
use Rattle.ceu_shape.specs.Searches.{input_ty, ty_or_none}
use Rattle.ceu_shape.specs.Shape.{parts_draft}
use Rattle.laws_machine_layout.specs.Views.{view}
use Rattle.ceu_trail.specs.Built.{at_label, StatementBuilt}
use Rattle.ceu_trail.specs.Compiled.{Compiled}
use Rattle.ceu_trail.specs.Coming.{Comes}
use Rattle.ceu_trail.specs.Tables.{tables}
use Rattle.ceu_trail.specs.Turning.{MemoryHolds, Brought}
use Rattle.ceu_trail.specs.Within.{ValuesWithin, act_brings}
use Rattle.ceu_within.proofs.Widths.{variable}
use Rattle.ceu_within.proofs.Scopes.{TargetIn, target_in}
use Rattle.ceu_steps.specs.Running.{Runs, Unseen, trail_at}
use Rattle.ceu_steps.specs.Premises.{BuiltLaws}
use Rattle.ceu_steps.specs.Reached.{wrap}
use Rattle.ceu_steps.specs.Live.{vars_in}
use Rattle.ceu_steps.proofs.Assigns.{store_is}
use Rattle.ceu_steps.proofs.Comes.{StandsIn, no_marks}
use Rattle.ceu_steps.proofs.Evaluates.{does_spare}
use Rattle.ceu_steps.proofs.Frames.{AllCount}
use Rattle.ceu_steps.proofs.Lines.{goto_runs, line_runs}
use Rattle.ceu_steps.proofs.Outs.{port_of}
use Rattle.ceu_steps.proofs.Simple.{Passed, pass_comes}
use Rattle.ceu_steps.proofs.Store.{store_runs, stored, room, hidden_is_in}
use Rattle.ceu_steps.proofs.Ticks.{onward}
use Rattle.ceu_steps.proofs.Turns.{Standing, sizes_of, counts_stay, among, scene, fine, live, cells, stops}
use Rattle.ceu_steps.proofs.Unseen.{holds_unseen, unseen_numbers, kept_unseen}
use denote.Hole.Carrier

-- ---- the header's value is pushed

pub record Taken (image : Image) (at : ℕ) (v : ℤ) (m : Machine) : Type 0 where
  pub after : List ℕ
  pub runs : Runs image 1 (Trail (trail_at image at 0) m) (Trail (trail_at image (at + 2) 1) (rewritten after m))
  pub unseen : Unseen image m.bytes after
  pub holds : number_at 8 after (cell_at 0) ≡ cell v

pub value_taken : (image : Image) (P : Plan) (width : ℕ → ℕ) (K : Kernel) (at : ℕ) (t : Ty) (v : ℤ) (w : World) (m : Machine) → MemoryHolds image P width K w m.bytes → fetched image at ≡ Some (instr.Value t) → t ≢ ty.None → IsValue t v
    → number_at 8 m.bytes scratch_at ≡ cell v → 0 < image.depth → Taken image at v m
unfolding effect
value_taken image P width K at t v w m holds f some ok e lt =
    let x = pushes image (trail_at image (at + 2) 0) m.bytes v holds.fits lt in
    let same : value_at (cell_type t) m.bytes scratch_at ≡ v = cell_value t v m.bytes scratch_at some ok e in
    let is : effect image (instr.Value t) (trail_at image (at + 2) 0) m.bytes ≡ Goes (trail_at image (at + 2) 1) x.after [] =
    ap (λ (y : ℤ). provided (is_value t y) (pushed image y (trail_at image (at + 2) 0) m.bytes)) same ∙ ap (λ (b : Bool). provided b (pushed image v (trail_at image (at + 2) 0) m.bytes)) ok ∙ x.is in
    let does : Does image (trail_at image at 0) m.bytes (trail_at image (at + 2) 1) x.after = goes (instr.Value t) f refl is stays in
    record {
      after = x.after;
      runs = line_runs (instr.Value t) (trail_at image (at + 2) 1) x.after f is;
      unseen = kept_unseen image 0 m.bytes x.after x.kept (does_spare image does holds.are_bytes).are_bytes;
      holds = x.holds;
    }

module _ (laws : BuiltLaws) (image : Image) (P : Plan) (width : ℕ → ℕ) (K : Kernel) (compiled : Compiled image P width K) where
  -- a value in the first cell is stored in a variable of the scope, and the trail goes to the end of the statement
  pub store_passed : {outer : List Frame} {turn : Bool} {sc : Scope} {b : KBlock} {done rest : List KNode} {s : KNode} (spot : Standing K outer turn sc b done rest s) (l : Loc) (t : Ty) (v : ℤ) (w : World) (m : Machine) (start at n : ℕ) (after : List ℕ)
      → TargetIn l t (vars_in (OfBlock b [] no_instance rest ∷ outer)) → IsValue t v → ValuesWithin (vars_in (OfBlock b [] no_instance rest ∷ outer)) w → MemoryHolds image P width K w after
      → AllCount (tables P width K) image (view image after) (OfBlock b [] no_instance rest ∷ outer) → n ≤ 100000 → Runs image n (Trail (trail_at image start 0) m) (Trail (trail_at image at 1) (rewritten after m)) → number_at 8 after (cell_at 0) ≡ cell v
      → Placed image (at_label image P K) at (store P.offset l ∷ goto (end_label s.node) ∷ []) → Passed laws image P width K compiled w (assign Program l v w) m s outer start
  store_passed {outer} {turn} {sc} {b} {done} {rest} {s} spot l t v w m start at n after tg ok held holds counts le runs top lines =
      let lv = live laws image P width K compiled spot in
      let sn = scene laws image P width K compiled spot in
      let sz = sizes_of image P width K compiled in
      let fits = room image P width K sz.slots_is (OfBlock b [] no_instance rest ∷ outer) lv l v w after tg.there held holds in
      let line : Placed image (at_label image P K) at (plain (instr.Store l.ty (P.offset l.slot)) ∷ goto (end_label s.node) ∷ []) =
      subst (λ (i : Line). Placed image (at_label image P K) at (i ∷ goto (end_label s.node) ∷ [])) (store_is P.offset l tg.own) lines in
      let kept = stored image P width K sz.slots_is (OfBlock b [] no_instance rest ∷ outer) lv l v w after tg.there held holds (OfBlock b [] no_instance rest ∷ outer) lv.sized
      (λ z c. (hidden_is_in (OfBlock b [] no_instance rest ∷ outer) z c, sn.hidden_apart z (variable l.slot l.ty) c tg.there)) counts in
      let run2 = store_runs {m = rewritten after m} l.ty (P.offset l.slot) v line.0 (sn.some_type (variable l.slot l.ty) tg.there) (tg.holds v ok) top (cells laws image P width K compiled spot) fits in
      record {
        after = rewritten (with_value l.ty v after (slots_at image + P.offset l.slot)) m;
        count = n + (1 + 1);
        few = omega (arith, le);
        runs = onward runs (onward run2 (goto_runs (at_label image P K (end_label s.node)) line.1.0));
        marks = record { added = []; semantics = sym (append-nil w.marks); machine = sym (append-nil m.marks) };
        memory = kept.memory;
        counts = kept.counts.1;
      }

  -- the header's value goes there
  pub keep_passed : {outer : List Frame} {turn : Bool} {sc : Scope} {b : KBlock} {done rest : List KNode} {s : KNode} (spot : Standing K outer turn sc b done rest s) (l : Loc) (t : Ty) (v : ℤ) (w : World) (m : Machine) (at : ℕ)
      → TargetIn l t (vars_in (OfBlock b [] no_instance rest ∷ outer)) → t ≢ ty.None → IsValue t v → ValuesWithin (vars_in (OfBlock b [] no_instance rest ∷ outer)) w → MemoryHolds image P width K w m.bytes
      → AllCount (tables P width K) image (view image m.bytes) (OfBlock b [] no_instance rest ∷ outer) → number_at 8 m.bytes scratch_at ≡ cell v
      → Placed image (at_label image P K) at (plain (instr.Value t) ∷ store P.offset l ∷ goto (end_label s.node) ∷ []) → Passed laws image P width K compiled w (assign Program l v w) m s outer at
  keep_passed {outer} {turn} {sc} {b} {done} {rest} {s} spot l t v w m at tg some ok held holds counts e lines =
      let x = value_taken image P width K at t v w m holds lines.0 some ok e (cells laws image P width K compiled spot) in
      store_passed spot l t v w m at (at + 2) 1 x.after tg ok held (holds_unseen image P width K w m.bytes x.after x.unseen holds)
      (counts_stay (tables P width K) image (view image m.bytes) (view image x.after) (OfBlock b [] no_instance rest ∷ outer) (unseen_numbers image m.bytes x.after x.unseen) counts) (omega arith) x.runs x.holds lines.1

  -- no value is kept
  pub goes_passed : {outer : List Frame} (s : KNode) (w : World) (m : Machine) (at : ℕ) → MemoryHolds image P width K w m.bytes → AllCount (tables P width K) image (view image m.bytes) outer → fetched image at ≡ Some (instr.Jump (at_label image P K (end_label s.node)))
      → Passed laws image P width K compiled w w m s outer at
  goes_passed s w m at holds counts f = record { after = m; count = 1; few = omega arith; runs = goto_runs (at_label image P K (end_label s.node)) f; marks = no_marks w m m.bytes; memory = holds; counts = counts }

  -- a statement of a block, which goes on
  pub record AtFinish (outer : List Frame) (turn : Bool) (sc : Scope) (b : KBlock) (done rest : List KNode) (s : KNode) (v : ℤ) (w : World) (at : ℕ) (m : Machine) : Type 0 where
    pub spot : Standing K outer turn sc b done rest s
    pub stands : StandsIn image P width K outer (OfBlock b [] no_instance rest) (Finish s v) w at m.bytes
    pub held : ValuesWithin (vars_in (OfBlock b [] no_instance rest ∷ outer)) w
    pub brought : act_brings K (Finish s v)

  takes_some : (sc : Scope) (t : Ty) (l : Loc) → takes K sc t l ≡ true → t ≢ ty.None
  takes_some sc t l h q =
      let a = (and_parts (reads K sc l && not (is_loop_variable (looked_up K sc l)) && not (same_ty t ty.None)) (holds_all l.ty t) h).0 in
      let c = (and_parts (reads K sc l && not (is_loop_variable (looked_up K sc l))) (not (same_ty t ty.None)) a).1 in
      false≢true (subst (λ (u : Ty). not (same_ty u ty.None) ≡ true) q c)

  -- ---- an input has come

  input_ok : (sc : Scope) (n k : ℕ) (t : Option Loc) → stmt_ok K (names_of K) sc n (AwaitIn k t) ≡ true → (u : Ty) × (port_ty K k K.inputs ≡ Some u) × (takes_if K sc u t ≡ true)
  unfolding stmt_ok
  input_ok sc n k t h = port_of K (port_ty K k K.inputs) (λ u. takes_if K sc u t) (and_parts (is_trail sc.place) (on_ty K (port_ty K k K.inputs) (λ u. takes_if K sc u t)) h).1

  is_input : (k : ℕ) (t : Option Loc) → out-KStmt (AwaitIn k t) ≡ KStmt-F.AwaitIn k t
  unfolding out-KStmt Carrier.out
  is_input k t = refl

  input_does : (n : ℕ) (p : Pos) (k : ℕ) (t : Option Loc) (v : ℤ) (w : World) → acted K 0 Program (Finish (record { node = n; pos = p; stmt = AwaitIn k t }) v) w ≡ does.done does.Passes (assign_if Program t v w)
  unfolding out-KStmt Carrier.out
  input_does n p k t v w = refl

  input_brings : (n : ℕ) (p : Pos) (k : ℕ) (t : Option Loc) (v : ℤ) (u : Ty) → port_ty K k K.inputs ≡ Some u → act_brings K (Finish (record { node = n; pos = p; stmt = AwaitIn k t }) v) → IsValue u v
  unfolding out-KStmt Carrier.out
  input_brings n p k t v u e h = h u e

  input_brought : (n : ℕ) (p : Pos) (k : ℕ) (l : Loc) (v : ℤ) (bytes : List ℕ) → Brought image P width K (target (record { node = n; pos = p; stmt = AwaitIn k (Some l) })) (cell v) bytes → number_at 8 bytes scratch_at ≡ cell v
  unfolding out-KStmt Carrier.out
  input_brought n p k l v bytes h = h

  input_none : (n : ℕ) (p : Pos) (k : ℕ) → StatementBuilt image P K (record { node = n; pos = p; stmt = AwaitIn k None }) → fetched image (at_label image P K (own_label n) + 3 + 3) ≡ Some (instr.Jump (at_label image P K (end_label n)))
  unfolding parts_draft
  input_none n p k built = built.lines.1.1.1.0

  input_some : (n : ℕ) (p : Pos) (k : ℕ) (l : Loc) → StatementBuilt image P K (record { node = n; pos = p; stmt = AwaitIn k (Some l) })
      → Placed image (at_label image P K) (at_label image P K (own_label n) + 3 + 3) (plain (instr.Value (input_ty K k)) ∷ store P.offset l ∷ goto (end_label n) ∷ [])
  unfolding parts_draft
  input_some n p k l built = (built.lines.1.1.1.0, (built.lines.1.1.1.1.0, (built.lines.1.1.1.1.1.0, tt)))

  pub input_comes : {outer : List Frame} {turn : Bool} {sc : Scope} {b : KBlock} {done rest : List KNode} (n : ℕ) (p : Pos) (k : ℕ) (t : Option Loc) (v : ℤ) (w : World) (at : ℕ) (m : Machine)
      → AtFinish outer turn sc b done rest (record { node = n; pos = p; stmt = AwaitIn k t }) v w at m
      → let y = stepped K 0 Program (wrap outer (In (OfBlock b [] no_instance rest) (Here (Finish (record { node = n; pos = p; stmt = AwaitIn k t }) v)))) w in Comes image P width K w (trail_at image at 0) m y.outcome y.world
  input_comes {outer = outer} {b = b} {done = done} {rest = rest} n p k None v w at m h =
      let stop = (stops laws image P width K compiled h.spot).at_input k None (is_input k None) in
      let there : at ≡ at_label image P K (own_label n) + 3 + 3 = omega (arith, h.stands.place.0, stop) in
      pass_comes laws image P width K compiled outer b done rest (record { node = n; pos = p; stmt = AwaitIn k None }) (Finish (record { node = n; pos = p; stmt = AwaitIn k None }) v) w w m at h.spot.block h.spot.is h.spot.plain (input_does n p k None v w)
      (goes_passed (record { node = n; pos = p; stmt = AwaitIn k None }) w m at h.stands.memory h.stands.counts.1
      (subst (λ (j : ℕ). fetched image j ≡ Some (instr.Jump (at_label image P K (end_label n)))) (sym there) (input_none n p k (among laws image P width K compiled h.spot).built)))
  input_comes {outer = outer} {sc = sc} {b = b} {done = done} {rest = rest} n p k (Some l) v w at m h =
      let stop = (stops laws image P width K compiled h.spot).at_input k (Some l) (is_input k (Some l)) in
      let there : at ≡ at_label image P K (own_label n) + 3 + 3 = omega (arith, h.stands.place.0, stop) in
      let ok = input_ok (block_scope sc b) n k (Some l) (fine laws image P width K compiled h.spot) in
      let tg = target_in K (block_scope sc b) l ok.0 (vars_in (OfBlock b [] no_instance rest ∷ outer)) (scene laws image P width K compiled h.spot).scope ok.2 in
      let lines = subst (λ (u : Ty). Placed image (at_label image P K) (at_label image P K (own_label n) + 3 + 3) (plain (instr.Value u) ∷ store P.offset l ∷ goto (end_label n) ∷ [])) (ap ty_or_none ok.1) (input_some n p k l (among laws image P width K compiled h.spot).built) in
      pass_comes laws image P width K compiled outer b done rest (record { node = n; pos = p; stmt = AwaitIn k (Some l) }) (Finish (record { node = n; pos = p; stmt = AwaitIn k (Some l) }) v) w (assign Program l v w) m at h.spot.block h.spot.is h.spot.plain
      (input_does n p k (Some l) v w)
      (keep_passed h.spot l ok.0 v w m at tg (takes_some (block_scope sc b) ok.0 l ok.2) (input_brings n p k (Some l) v ok.0 ok.1 h.brought) h.held h.stands.memory h.stands.counts (input_brought n p k l v m.bytes h.stands.place.1)
      (subst (λ (j : ℕ). Placed image (at_label image P K) j (plain (instr.Value ok.0) ∷ store P.offset l ∷ goto (end_label n) ∷ [])) (sym there) lines))

  -- ---- a time has passed

  time_ok_of : (sc : Scope) (n : ℕ) (e : KExp) (u : KernelUnit) (t : Option Loc) → stmt_ok K (names_of K) sc n (AwaitTime e u t) ≡ true → takes_if K sc ty.S32 t ≡ true
  unfolding stmt_ok
  time_ok_of sc n e u t h = (and_parts (is_trail sc.place && time_ok K sc e u) (takes_if K sc ty.S32 t) h).1

  is_time : (e : KExp) (u : KernelUnit) (t : Option Loc) → out-KStmt (AwaitTime e u t) ≡ KStmt-F.AwaitTime e u t
  unfolding out-KStmt Carrier.out
  is_time e u t = refl

  time_does : (n : ℕ) (p : Pos) (e : KExp) (u : KernelUnit) (t : Option Loc) (v : ℤ) (w : World) → acted K 0 Program (Finish (record { node = n; pos = p; stmt = AwaitTime e u t }) v) w ≡ does.done does.Passes (assign_if Program t v w)
  unfolding out-KStmt Carrier.out
  time_does n p e u t v w = refl

  time_brings : (n : ℕ) (p : Pos) (e : KExp) (u : KernelUnit) (t : Option Loc) (v : ℤ) → act_brings K (Finish (record { node = n; pos = p; stmt = AwaitTime e u t }) v) → IsValue ty.S32 v
  unfolding out-KStmt Carrier.out
  time_brings n p e u t v h = h

  time_brought : (n : ℕ) (p : Pos) (e : KExp) (u : KernelUnit) (l : Loc) (v : ℤ) (bytes : List ℕ) → Brought image P width K (target (record { node = n; pos = p; stmt = AwaitTime e u (Some l) })) (cell v) bytes → number_at 8 bytes scratch_at ≡ cell v
  unfolding out-KStmt Carrier.out
  time_brought n p e u l v bytes h = h

  time_none : (n : ℕ) (p : Pos) (e : KExp) (u : KernelUnit) → StatementBuilt image P K (record { node = n; pos = p; stmt = AwaitTime e u None }) → fetched image (at_label image P K (own_label n) + 3 + 3 + 2) ≡ Some (instr.Jump (at_label image P K (end_label n)))
  unfolding parts_draft
  time_none n p e u built = built.lines.1.1.1.1.1.0

  time_some : (n : ℕ) (p : Pos) (e : KExp) (u : KernelUnit) (l : Loc) → StatementBuilt image P K (record { node = n; pos = p; stmt = AwaitTime e u (Some l) })
      → Placed image (at_label image P K) (at_label image P K (own_label n) + 3 + 3 + 2) (plain (instr.Value ty.S32) ∷ store P.offset l ∷ goto (end_label n) ∷ [])
  unfolding parts_draft
  time_some n p e u l built = (built.lines.1.1.1.1.1.0, (built.lines.1.1.1.1.1.1.0, (built.lines.1.1.1.1.1.1.1.0, tt)))

  pub time_comes : {outer : List Frame} {turn : Bool} {sc : Scope} {b : KBlock} {done rest : List KNode} (n : ℕ) (p : Pos) (e : KExp) (u : KernelUnit) (t : Option Loc) (v : ℤ) (w : World) (at : ℕ) (m : Machine)
      → AtFinish outer turn sc b done rest (record { node = n; pos = p; stmt = AwaitTime e u t }) v w at m
      → let y = stepped K 0 Program (wrap outer (In (OfBlock b [] no_instance rest) (Here (Finish (record { node = n; pos = p; stmt = AwaitTime e u t }) v)))) w in Comes image P width K w (trail_at image at 0) m y.outcome y.world
  time_comes {outer = outer} {b = b} {done = done} {rest = rest} n p e u None v w at m h =
      let stop = (stops laws image P width K compiled h.spot).at_time e u None (is_time e u None) in
      let there : at ≡ at_label image P K (own_label n) + 3 + 3 + 2 = omega (arith, h.stands.place.0, stop) in
      pass_comes laws image P width K compiled outer b done rest (record { node = n; pos = p; stmt = AwaitTime e u None }) (Finish (record { node = n; pos = p; stmt = AwaitTime e u None }) v) w w m at h.spot.block h.spot.is h.spot.plain (time_does n p e u None v w)
      (goes_passed (record { node = n; pos = p; stmt = AwaitTime e u None }) w m at h.stands.memory h.stands.counts.1
      (subst (λ (j : ℕ). fetched image j ≡ Some (instr.Jump (at_label image P K (end_label n)))) (sym there) (time_none n p e u (among laws image P width K compiled h.spot).built)))
  time_comes {outer = outer} {sc = sc} {b = b} {done = done} {rest = rest} n p e u (Some l) v w at m h =
      let stop = (stops laws image P width K compiled h.spot).at_time e u (Some l) (is_time e u (Some l)) in
      let there : at ≡ at_label image P K (own_label n) + 3 + 3 + 2 = omega (arith, h.stands.place.0, stop) in
      let ok = time_ok_of (block_scope sc b) n e u (Some l) (fine laws image P width K compiled h.spot) in
      let tg = target_in K (block_scope sc b) l ty.S32 (vars_in (OfBlock b [] no_instance rest ∷ outer)) (scene laws image P width K compiled h.spot).scope ok in
      pass_comes laws image P width K compiled outer b done rest (record { node = n; pos = p; stmt = AwaitTime e u (Some l) }) (Finish (record { node = n; pos = p; stmt = AwaitTime e u (Some l) }) v) w (assign Program l v w) m at h.spot.block h.spot.is h.spot.plain
      (time_does n p e u (Some l) v w)
      (keep_passed h.spot l ty.S32 v w m at tg (takes_some (block_scope sc b) ty.S32 l ok) (time_brings n p e u (Some l) v h.brought) h.held h.stands.memory h.stands.counts (time_brought n p e u l v m.bytes h.stands.place.1)
      (subst (λ (j : ℕ). Placed image (at_label image P K) j (plain (instr.Value ty.S32) ∷ store P.offset l ∷ goto (end_label n) ∷ [])) (sym there) (time_some n p e u l (among laws image P width K compiled h.spot).built)))
