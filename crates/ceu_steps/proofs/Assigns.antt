-- An assignment: its expression, and then its variable.
use Rattle.std.proofs.Common.{◌≡◌, refl, sym, ap, subst, ℕ, ◌+◌, ℤ, Bool, true, false, ◌&&◌, List, [], ◌∷◌, ◌++◌, Some, Ok, Err, arith}
use Rattle.std.specs.Prelude.{if◌then◌else◌}
use Rattle.std.proofs.lemmas.Bool.{and_parts}
use Rattle.std.proofs.lemmas.List.{append-nil}
use Rattle.ceu_base.specs.declared.kinds.Pos.{Pos}
use Rattle.ceu_base.specs.Values.{IsValue}
use Rattle.ceu_code.specs.declared.image.Image.{Image}
use Rattle.ceu_code.specs.declared.instr.Instr.TheVariants as instr
use Rattle.ceu_code.specs.Instructions.{size}
use Rattle.ceu_asm.specs.declared.line.Line.{Line}
use Rattle.ceu_isa.specs.Layout.{slots_at}
use Rattle.ceu_isa.specs.Fetching.{fetched}
use Rattle.ceu_isa.specs.Turns.{Machine, rewritten}
use Rattle.laws_machine_code.specs.Placed.{Placed}
use Rattle.laws_machine_code.proofs.Lines.{parts_are_placed}
use Rattle.ceu_mem.specs.Memory.{with_value}
use Rattle.ceu_tree.specs.declared.kernel.Kernel.{Kernel}
use Rattle.ceu_tree.specs.declared.kernel.KExp.{KExp}
use Rattle.ceu_tree.specs.declared.kernel.KNode.{KNode}
use Rattle.ceu_tree.specs.declared.kernel.KBlock.{KBlock}
use Rattle.ceu_tree.specs.declared.kernel.KStmt.{out-KStmt, Assign}
use Rattle.ceu_tree.specs.declared.kernel.Loc.{Loc}
use Rattle.ceu_tree.specs.Depth.{stmt_depth, exp_depth}
use Rattle.ceu_tree.specs.Expressions.{Answer, value_of}
use Rattle.ceu_tree.specs.Leaf as does
use Rattle.ceu_tree.specs.Leaf.{acted, or_fails}
use Rattle.ceu_tree.specs.Proper.{Scope, reads, asks, takes, gives, stmt_ok}
use Rattle.ceu_tree.specs.Residual.{Program, Start, no_instance}
use Rattle.ceu_tree.specs.Focus.{Frame, OfBlock, Here, In}
use Rattle.ceu_tree.specs.Step.{stepped}
use Rattle.ceu_tree.specs.Typing.{typed, holds_all}
use Rattle.ceu_tree.specs.World.{World, assign}
use Rattle.laws_meaning_basics.specs.Shape.{block_scope}
use Rattle.laws_meaning_basics.proofs.Static.{names_of}
use Rattle.ceu_shape.specs.Plans.{Plan, own_label, end_label}
use Rattle.ceu_shape.specs.Words.{mark, plain, goto, store}
use Rattle.ceu_shape.specs.Shape.{parts_draft, exp_part}
use Rattle.laws_meaning_values.specs.Ready.{layer_has, exp_has}
use Rattle.laws_machine_layout.specs.Views.{view}
use Rattle.ceu_trail.specs.Built.{at_label, number, StatementBuilt}
use Rattle.ceu_trail.specs.Compiled.{Compiled}
use Rattle.ceu_trail.specs.Coming.{Comes}
use Rattle.ceu_trail.specs.Tables.{tables}
use Rattle.ceu_trail.specs.Turning.{MemoryHolds}
use Rattle.ceu_within.proofs.Widths.{variable}
use Rattle.ceu_within.proofs.Scopes.{target_in}
use Rattle.ceu_within.proofs.Leaf.{given_value}
use Rattle.ceu_steps.specs.Running.{trail_at}
use Rattle.ceu_steps.specs.Ready.{Brings, Evaluated}
use Rattle.laws_machine_code.specs.Seen.{NodePlaced}
use Rattle.ceu_steps.specs.Premises.{BuiltLaws, LayerPlaced}
use Rattle.ceu_steps.specs.Reached.{wrap}
use Rattle.ceu_steps.specs.Live.{vars_in}
use Rattle.ceu_steps.proofs.Ticks.{onward, wider}
use Rattle.ceu_steps.proofs.Lines.{goto_runs}
use Rattle.ceu_steps.proofs.Expressions.{expression_runs}
use Rattle.ceu_steps.proofs.Unseen.{holds_unseen, unseen_numbers}
use Rattle.ceu_steps.proofs.Store.{store_runs, stored, room, hidden_is_in}
use Rattle.ceu_steps.proofs.Simple.{Passed, pass_comes}
use Rattle.ceu_steps.proofs.Turns.{AtStart, sizes_of, counts_stay, fault_comes, reached, among, some_gate, scene, fine, live, deep, cells, positions, is_ready}
use denote.Hole.Carrier

-- the first of some lines
pub front : (image : Image) (labels : ℕ → ℕ) (at : ℕ) (a b : List Line) → Placed image labels at ((a ++ b) ++ []) → Placed image labels at a
front image labels at a b h = (parts_are_placed image labels at a b (parts_are_placed image labels at (a ++ b) [] h).0).0

-- a variable of the own body
pub store_is : (offset : ℕ → ℕ) (l : Loc) → l.outer ≡ false → store offset l ≡ plain (instr.Store l.ty (offset l.slot))
store_is offset l e = ap (λ (b : Bool). plain (if b then instr.StoreOuter l.ty (offset l.slot) else instr.Store l.ty (offset l.slot))) e

module _ (laws : BuiltLaws) (image : Image) (P : Plan) (width : ℕ → ℕ) (K : Kernel) (compiled : Compiled image P width K) where
  -- the lines of an assignment
  pub record AssignLines (n : ℕ) (l : Loc) (e : KExp) : Type 0 where
    pub fresh : ℕ
    pub goes : fetched image (at_label image P K (own_label n)) ≡ Some (instr.Jump (at_label image P K fresh))
    pub back : at_label image P K (fresh + 1) ≡ at_label image P K (own_label n) + 3
    pub stores : Placed image (at_label image P K) (at_label image P K (own_label n) + 3) (store P.offset l ∷ goto (end_label n) ∷ [])
    pub begins : ℕ
    pub part : Placed image (at_label image P K) begins ((exp_part P K fresh e (fresh + 2)).lines (number image P K))

  assign_lines : (n : ℕ) (p : Pos) (l : Loc) (e : KExp) → StatementBuilt image P K (record { node = n; pos = p; stmt = Assign l e }) → AssignLines n l e
  unfolding parts_draft
  assign_lines n p l e built = record {
    fresh = built.fresh;
    goes = built.lines.1.0;
    back = built.lines.1.1.0;
    stores = (built.lines.1.1.1.0, (built.lines.1.1.1.1.0, tt));
    begins = at_label image P K (own_label n) + 3 + size (if l.outer then instr.StoreOuter l.ty (P.offset l.slot) else instr.Store l.ty (P.offset l.slot)) + 3;
    part = front image (at_label image P K) (at_label image P K (own_label n) + 3 + size (if l.outer then instr.StoreOuter l.ty (P.offset l.slot) else instr.Store l.ty (P.offset l.slot)) + 3) ((exp_part P K built.fresh e (built.fresh + 2)).lines (number image P K)) (mark (end_label n) ∷ []) built.lines.1.1.1.1.1;
  }

  assign_does : (n : ℕ) (p : Pos) (l : Loc) (e : KExp) (w : World) (a : Answer) → value_of e Program w ≡ a → acted K 0 Program (Start (record { node = n; pos = p; stmt = Assign l e })) w ≡ or_fails a w (λ v. does.done does.Passes (assign Program l v w))
  unfolding out-KStmt Carrier.out
  assign_does n p l e w a q = ap (λ (x : Answer). or_fails x w (λ v. does.done does.Passes (assign Program l v w))) q

  assign_ok : (sc : Scope) (n : ℕ) (l : Loc) (e : KExp) → stmt_ok K (names_of K) sc n (Assign l e) ≡ true → (takes K sc l.ty l ≡ true) × (gives K sc l.ty e ≡ true)
  unfolding stmt_ok
  assign_ok sc n l e h = and_parts (takes K sc l.ty l) (gives K sc l.ty e) h

  assign_has : (n : ℕ) (p : Pos) (l : Loc) (e : KExp) (w : World) → layer_has Program w (out-KStmt (Assign l e)) ≡ true → exp_has Program w e ≡ true
  unfolding out-KStmt Carrier.out
  assign_has n p l e w h = h

  assign_deep : (l : Loc) (e : KExp) → stmt_depth (Assign l e) ≡ exp_depth e
  unfolding stmt_depth
  assign_deep l e = refl

  assign_placed : (p : Pos) (l : Loc) (e : KExp) → LayerPlaced image (number image P K) p (out-KStmt (Assign l e)) → NodePlaced image (number image P K) e.node e.pos
  unfolding out-KStmt Carrier.out
  assign_placed p l e h = h

  pub given_typed : (sc : Scope) (e : KExp) (l : Loc) → gives K sc l.ty e ≡ true → typed (reads K sc) (asks K sc) e ≡ true
  given_typed sc e l h = (and_parts (typed (reads K sc) (asks K sc) e) (holds_all l.ty e.ty) (and_parts (typed (reads K sc) (asks K sc) e && holds_all l.ty e.ty) _ h).0).0

  module _ {outer : List Frame} {turn : Bool} {sc : Scope} {b : KBlock} {done rest : List KNode} (n : ℕ) (p : Pos) (l : Loc) (e : KExp) (w : World) (at : ℕ) (m : Machine)
      (h : AtStart image P width K outer turn sc b done rest (record { node = n; pos = p; stmt = Assign l e }) w at m) where
    abbrev this : KNode
    this = record { node = n; pos = p; stmt = Assign l e }

    abbrev all : List Frame
    all = OfBlock b [] no_instance rest ∷ outer

    own : ℕ
    own = at_label image P K (own_label n)

    ok : (takes K (block_scope sc b) l.ty l ≡ true) × (gives K (block_scope sc b) l.ty e ≡ true)
    ok = assign_ok (block_scope sc b) n l e (fine laws image P width K compiled h.spot)

    evaluated : (x : AssignLines n l e) → Evaluated image m (at_label image P K (own_label n)) (value_of e Program w)
    evaluated x =
        expression_runs image P width K w m e x.fresh (x.fresh + 2) (at_label image P K (own_label n)) x.begins h.stands.memory (some_gate laws image P width K compiled h.spot)
        (is_ready laws image P width K compiled h.spot w m.bytes e h.held h.stands.memory (given_typed (block_scope sc b) e l ok.1) (assign_has n p l e w h.has)
        (let a = deep laws image P width K compiled h.spot in let q = assign_deep l e in omega arith) (assign_placed p l e (positions laws image P width K compiled h.spot)))
        x.goes x.back x.part

    stored_now : (x : AssignLines n l e) (v : ℤ) → IsValue l.ty v → Brings image m (at_label image P K (own_label n)) v → Passed laws image P width K compiled w (assign Program l v w) m this outer (at_label image P K (own_label n))
    stored_now x v is_value y =
        let t = target_in K (block_scope sc b) l l.ty (vars_in all) (scene laws image P width K compiled h.spot).scope ok.0 in
        let lv = live laws image P width K compiled h.spot in
        let sc' = scene laws image P width K compiled h.spot in
        let sz = sizes_of image P width K compiled in
        let memory : MemoryHolds image P width K w y.after = holds_unseen image P width K w m.bytes y.after y.unseen h.stands.memory in
        let fits = room image P width K sz.slots_is all lv l v w y.after t.there h.held memory in
        let line : Placed image (at_label image P K) (at_label image P K (own_label n) + 3) (plain (instr.Store l.ty (P.offset l.slot)) ∷ goto (end_label n) ∷ []) =
        subst (λ (i : Line). Placed image (at_label image P K) (at_label image P K (own_label n) + 3) (i ∷ goto (end_label n) ∷ [])) (store_is P.offset l t.own) x.stores in
        let after : List ℕ = with_value l.ty v y.after (slots_at image + P.offset l.slot) in
        let kept = stored image P width K sz.slots_is all lv l v w y.after t.there h.held memory all lv.sized
        (λ z c. (hidden_is_in all z c, sc'.hidden_apart z (variable l.slot l.ty) c t.there)) (counts_stay (tables P width K) image (view image m.bytes) (view image y.after) all (unseen_numbers image m.bytes y.after y.unseen) h.stands.counts) in
        let run2 = store_runs {m = rewritten y.after m} l.ty (P.offset l.slot) v line.0 (sc'.some_type (variable l.slot l.ty) t.there) is_value y.holds (cells laws image P width K compiled h.spot) fits in
        record {
          after = rewritten (with_value l.ty v y.after (slots_at image + P.offset l.slot)) m;
          count = 65542;
          few = omega arith;
          runs = wider (omega arith) (onward y.runs (onward run2 (goto_runs (at_label image P K (end_label n)) line.1.0)));
          marks = record { added = []; semantics = sym (append-nil w.marks); machine = sym (append-nil m.marks) };
          memory = kept.memory;
          counts = kept.counts.1;
        }

    pub assign_comes : let v = stepped K 0 Program (wrap outer (In (OfBlock b [] no_instance rest) (Here (Start this)))) w in Comes image P width K w (trail_at image at 0) m v.outcome v.world
    assign_comes =
        let x = assign_lines n p l e (among laws image P width K compiled h.spot).built in
        subst (λ (k : ℕ). let v = stepped K 0 Program (wrap outer (In (OfBlock b [] no_instance rest) (Here (Start this)))) w in Comes image P width K w (trail_at image k 0) m v.outcome v.world) (sym h.stands.place)
        (by_answer x (value_of e Program w) refl (evaluated x))
      where
        by_answer : (x : AssignLines n l e) (a : Answer) → value_of e Program w ≡ a → Evaluated image m (at_label image P K (own_label n)) a
            → let v = stepped K 0 Program (wrap outer (In (OfBlock b [] no_instance rest) (Here (Start this)))) w in Comes image P width K w (trail_at image (at_label image P K (own_label n)) 0) m v.outcome v.world
        by_answer x (Ok v) q y =
            let s = scene laws image P width K compiled h.spot in
            pass_comes laws image P width K compiled outer b done rest this (Start this) w (assign Program l v w) m (at_label image P K (own_label n)) h.spot.block h.spot.is h.spot.plain (assign_does n p l e w (Ok v) q)
            (stored_now x v (given_value K (block_scope sc b) (vars_in all) s.scope s.once w h.held l.ty e ok.1 v q) y)
        by_answer x (Err z) q y =
            fault_comes laws image P width K compiled (Start this) w m (at_label image P K (own_label n)) 65540 z (omega arith) (reached laws image P width K compiled h.spot) (assign_does n p l e w (Err z) q) y
