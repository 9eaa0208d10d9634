-- An output, of a value or of none.
use Rattle.std.proofs.Common.{◌≡◌, ◌≢◌, refl, sym, ap, ◌∙◌, subst, ◌<◌, ℕ, zero, suc, ◌+◌, ℤ, pos, Bool, true, ◌&&◌, List, [], ◌∷◌, Option, Some, None, Ok, Err, arith}
use Rattle.std.specs.Prelude.{slice_get, not}
use Rattle.std.proofs.lemmas.Bool.{and_parts, false≢true}
use Rattle.ceu_base.specs.declared.kinds.Mark.TheVariants.{Output}
use Rattle.ceu_base.specs.declared.kinds.Port.{Port}
use Rattle.ceu_base.specs.declared.kinds.Pos.{Pos}
use Rattle.ceu_base.specs.declared.kinds.Ty.{Ty}
use Rattle.ceu_base.specs.declared.kinds.Ty.TheVariants as ty
use Rattle.ceu_base.specs.Values.{IsValue, is_value}
use Rattle.ceu_code.specs.declared.image.Image.{Image}
use Rattle.ceu_code.specs.declared.instr.Instr.TheVariants as instr
use Rattle.ceu_code.specs.Instructions.{cell}
use Rattle.ceu_mem.specs.Bytes.{number_at}
use Rattle.ceu_isa.specs.declared.registers.Registers.{Registers}
use Rattle.ceu_isa.specs.Layout.{cell_at}
use Rattle.ceu_isa.specs.Fetching.{fetched}
use Rattle.ceu_isa.specs.Effects.{Goes, provided, for_some}
use Rattle.ceu_isa.specs.Cells.{Popped, popped, popped_unless_none}
use Rattle.ceu_isa.specs.Rows.{effect}
use Rattle.ceu_isa.specs.Turns.{Machine, Trail, rewritten, changed}
use Rattle.laws_machine_code.specs.Placed.{Placed}
use Rattle.laws_machine_code.proofs.Steps.{pops}
use Rattle.laws_machine_code.specs.Seen.{NodePlaced}
use Rattle.laws_meaning_values.proofs.Operators.{same_is}
use Rattle.ceu_tree.specs.declared.kernel.Kernel.{Kernel}
use Rattle.ceu_tree.specs.declared.kernel.KExp.{KExp}
use Rattle.ceu_tree.specs.declared.kernel.KNode.{KNode}
use Rattle.ceu_tree.specs.declared.kernel.KBlock.{KBlock}
use Rattle.ceu_tree.specs.declared.kernel.KStmt.{out-KStmt, Out}
use Rattle.ceu_tree.specs.Depth.{stmt_depth, exp_depth}
use Rattle.ceu_tree.specs.Expressions.{Answer, value_of}
use Rattle.ceu_tree.specs.Leaf as does
use Rattle.ceu_tree.specs.Leaf.{acted, or_fails}
use Rattle.ceu_tree.specs.Proper.{Scope, reads, asks, gives, gives_if, port_ty, on_ty, outside_asyncs, stmt_ok}
use Rattle.ceu_tree.specs.Residual.{Program, Start, no_instance}
use Rattle.ceu_tree.specs.Focus.{Frame, OfBlock, Here, In}
use Rattle.ceu_tree.specs.Step.{stepped}
use Rattle.ceu_tree.specs.Typing.{typed, holds_all, same_ty}
use Rattle.ceu_tree.specs.World.{World, marked}
use Rattle.laws_meaning_basics.specs.Shape.{block_scope}
use Rattle.laws_meaning_basics.proofs.Static.{names_of}
use Rattle.ceu_shape.specs.Plans.{Plan, own_label, end_label}
use Rattle.ceu_shape.specs.Words.{mark, plain, goto}
use Rattle.ceu_shape.specs.Searches.{output_ty, ty_or_none}
use Rattle.ceu_shape.specs.Shape.{parts_draft, exp_part}
use Rattle.laws_meaning_values.specs.Ready.{layer_has, exp_has}
use Rattle.laws_machine_layout.specs.Views.{view}
use Rattle.ceu_trail.specs.Built.{at_label, number, StatementBuilt}
use Rattle.ceu_trail.specs.Compiled.{Compiled}
use Rattle.ceu_trail.specs.Coming.{Comes}
use Rattle.ceu_trail.specs.Tables.{tables}
use Rattle.ceu_within.proofs.Leaf.{given_value}
use Rattle.ceu_steps.specs.Running.{Runs, trail_at}
use Rattle.ceu_steps.specs.Ready.{Evaluated}
use Rattle.ceu_steps.specs.Premises.{BuiltLaws, LayerPlaced}
use Rattle.ceu_steps.specs.Reached.{wrap}
use Rattle.ceu_steps.specs.Live.{vars_in}
use Rattle.ceu_steps.proofs.Ticks.{onward, wider, did}
use Rattle.ceu_steps.proofs.Lines.{goto_runs}
use Rattle.ceu_steps.proofs.Expressions.{expression_runs}
use Rattle.ceu_steps.proofs.Unseen.{holds_unseen, unseen_numbers}
use Rattle.ceu_steps.proofs.Worlds.{holds_fades, marked_fades}
use Rattle.ceu_steps.proofs.Simple.{pass_comes}
use Rattle.ceu_steps.proofs.Assigns.{front}
use Rattle.ceu_steps.proofs.Turns.{AtStart, sizes_of, counts_stay, fault_comes, reached, among, some_gate, scene, fine, deep, cells, positions, is_ready}
use denote.Hole.Carrier

-- ---- the port

pub record PortAt (ps : List Port) (k : ℕ) (t : Ty) : Type 0 where
  pub port : Port
  pub there : slice_get ps k ≡ Some port
  pub type_is : port.ty ≡ t

pub port_at : (K : Kernel) (k : ℕ) (ps : List Port) (t : Ty) → port_ty K k ps ≡ Some t → PortAt ps k t
port_at K k [] t e = absurd (cc)
port_at K zero (p ∷ ps) t e = record { port = p; there = refl; type_is = ap (λ (o : Option Ty). elim o [ None ↦ p.ty | Some u ↦ u ]) e }
port_at K (suc k) (p ∷ ps) t e = let x = port_at K k ps t e in record { port = x.port; there = x.there; type_is = x.type_is }

pub port_of : (K : Kernel) (o : Option Ty) (f : Ty → Bool) → on_ty K o f ≡ true → (t : Ty) × (o ≡ Some t) × (f t ≡ true)
port_of K None f e = absurd (false≢true e)
port_of K (Some t) f e = (t, refl, e)

some_popped : (image : Image) (t : Ty) (r : Registers) (bytes : List ℕ) → t ≢ ty.None → popped_unless_none image t r bytes ≡ popped image t r bytes
some_popped image ty.None r bytes h = absurd (h refl)
some_popped image t r bytes h = refl

-- ---- the instruction

output_effect : (image : Image) (k : ℕ) (t : Ty) (v : ℤ) (r q : Registers) (bytes : List ℕ) → PortAt image.outputs k t → popped_unless_none image t r bytes ≡ Some (record { value = v; registers = q }) → IsValue t v
    → effect image (instr.Output k t) r bytes ≡ Goes q bytes (Output k v ∷ [])
unfolding effect
output_effect image k t v r q bytes x pop ok =
    ap (λ (o : Option Port). for_some o (λ port. for_some (popped_unless_none image t r bytes) (λ a. provided (is_value port.ty a.value) (Goes a.registers bytes (Output k a.value ∷ []))))) x.there
    ∙ ap (λ (o : Option Popped). for_some o (λ a. provided (is_value x.port.ty a.value) (Goes a.registers bytes (Output k a.value ∷ [])))) pop
    ∙ ap (λ (u : Ty). provided (is_value u v) (Goes q bytes (Output k v ∷ []))) x.type_is
    ∙ ap (λ (b : Bool). provided b (Goes q bytes (Output k v ∷ []))) ok

pub none_runs : {image : Image} {at : ℕ} {m : Machine} (k : ℕ) → fetched image at ≡ Some (instr.Output k ty.None) → PortAt image.outputs k ty.None
    → Runs image 1 (Trail (trail_at image at 0) m) (Trail (trail_at image (at + 4) 0) (changed m.bytes (Output k (pos 0) ∷ []) m))
none_runs {image = image} {at = at} {m = m} k f x =
    did (instr.Output k ty.None) (Goes (trail_at image (at + 4) 0) m.bytes (Output k (pos 0) ∷ [])) f (output_effect image k ty.None (pos 0) (trail_at image (at + 4) 0) (trail_at image (at + 4) 0) m.bytes x refl refl)

pub value_runs : {image : Image} {at : ℕ} {m : Machine} (k : ℕ) (t : Ty) (v : ℤ) → fetched image at ≡ Some (instr.Output k t) → PortAt image.outputs k t → t ≢ ty.None → IsValue t v → number_at 8 m.bytes (cell_at 0) ≡ cell v → 0 < image.depth
    → Runs image 1 (Trail (trail_at image at 1) m) (Trail (trail_at image (at + 4) 0) (changed m.bytes (Output k v ∷ []) m))
value_runs {image = image} {at = at} {m = m} k t v f x some ok holds lt =
    did (instr.Output k t) (Goes (trail_at image (at + 4) 0) m.bytes (Output k v ∷ [])) f
    (output_effect image k t v (trail_at image (at + 4) 1) (trail_at image (at + 4) 0) m.bytes x (some_popped image t (trail_at image (at + 4) 1) m.bytes some ∙ pops image t v 0 (trail_at image (at + 4) 1) m.bytes some ok holds lt refl) ok)

module _ (laws : BuiltLaws) (image : Image) (P : Plan) (width : ℕ → ℕ) (K : Kernel) (compiled : Compiled image P width K) where
  out_ok : (sc : Scope) (n k : ℕ) (e : Option KExp) → stmt_ok K (names_of K) sc n (Out k e) ≡ true → (t : Ty) × (port_ty K k K.outputs ≡ Some t) × (gives_if K sc t e ≡ true)
  unfolding stmt_ok
  out_ok sc n k e h = port_of K (port_ty K k K.outputs) (λ t. gives_if K sc t e) (and_parts (outside_asyncs sc.place) (on_ty K (port_ty K k K.outputs) (λ t. gives_if K sc t e)) h).1

  the_port : (k : ℕ) (t : Ty) → port_ty K k K.outputs ≡ Some t → PortAt image.outputs k t
  the_port k t e = subst (λ (ps : List Port). PortAt ps k t) (sym (sizes_of image P width K compiled).outputs_is) (port_at K k K.outputs t e)

  -- ---- without a value

  out_none_does : (n : ℕ) (p : Pos) (k : ℕ) (w : World) → acted K 0 Program (Start (record { node = n; pos = p; stmt = Out k None })) w ≡ does.done does.Passes (marked (Output k (pos 0)) w)
  unfolding out-KStmt Carrier.out
  out_none_does n p k w = refl

  out_none_lines : (n : ℕ) (p : Pos) (k : ℕ) → StatementBuilt image P K (record { node = n; pos = p; stmt = Out k None })
      → Placed image (at_label image P K) (at_label image P K (own_label n)) (plain (instr.Output k (output_ty K k)) ∷ goto (end_label n) ∷ [])
  unfolding parts_draft
  out_none_lines n p k built = (built.lines.1.0, (built.lines.1.1.0, tt))

  pub out_none_comes : {outer : List Frame} {turn : Bool} {sc : Scope} {b : KBlock} {done rest : List KNode} (n : ℕ) (p : Pos) (k : ℕ) (w : World) (at : ℕ) (m : Machine)
      → AtStart image P width K outer turn sc b done rest (record { node = n; pos = p; stmt = Out k None }) w at m
      → let v = stepped K 0 Program (wrap outer (In (OfBlock b [] no_instance rest) (Here (Start (record { node = n; pos = p; stmt = Out k None }))))) w in Comes image P width K w (trail_at image at 0) m v.outcome v.world
  out_none_comes {outer = outer} {sc = sc} {b = b} {done = done} {rest = rest} n p k w at m h =
      let this : KNode = record { node = n; pos = p; stmt = Out k None } in
      let ok = out_ok (block_scope sc b) n k None (fine laws image P width K compiled h.spot) in
      let none : ok.0 ≡ ty.None = same_is ok.0 ty.None ok.2 in
      let is_none : output_ty K k ≡ ty.None = ap ty_or_none ok.1 ∙ none in
      let port = the_port k ty.None (ok.1 ∙ ap Some none) in
      let lines = out_none_lines n p k (among laws image P width K compiled h.spot).built in
      let line : fetched image (at_label image P K (own_label n)) ≡ Some (instr.Output k ty.None) = lines.0 ∙ ap (λ (t : Ty). Some (instr.Output k t)) is_none in
      let run = none_runs {m = m} k line port in
      pass_comes laws image P width K compiled outer b done rest (record { node = n; pos = p; stmt = Out k None }) (Start (record { node = n; pos = p; stmt = Out k None })) w (marked (Output k (pos 0)) w) m at h.spot.block h.spot.is h.spot.plain (out_none_does n p k w)
      (record {
        after = changed m.bytes (Output k (pos 0) ∷ []) m;
        count = 2;
        few = omega arith;
        runs = subst (λ (j : ℕ). Runs image 2 (Trail (trail_at image j 0) m) (Trail (trail_at image (at_label image P K (end_label n)) 0) (changed m.bytes (Output k (pos 0) ∷ []) m))) (sym h.stands.place)
            (onward run (goto_runs (at_label image P K (end_label n)) lines.1.0));
        marks = record { added = Output k (pos 0) ∷ []; semantics = refl; machine = refl };
        memory = holds_fades image P width K w (marked (Output k (pos 0)) w) m.bytes (marked_fades (Output k (pos 0)) w) h.stands.memory;
        counts = h.stands.counts.1;
      })

  -- ---- with a value

  out_does : (n : ℕ) (p : Pos) (k : ℕ) (e : KExp) (w : World) (a : Answer) → value_of e Program w ≡ a → acted K 0 Program (Start (record { node = n; pos = p; stmt = Out k (Some e) })) w ≡ or_fails a w (λ v. does.done does.Passes (marked (Output k v) w))
  unfolding out-KStmt Carrier.out
  out_does n p k e w a q = ap (λ (x : Answer). or_fails x w (λ v. does.done does.Passes (marked (Output k v) w))) q

  pub record OutLines (n k : ℕ) (e : KExp) : Type 0 where
    pub fresh : ℕ
    pub goes : fetched image (at_label image P K (own_label n)) ≡ Some (instr.Jump (at_label image P K fresh))
    pub back : at_label image P K (fresh + 1) ≡ at_label image P K (own_label n) + 3
    pub gives : Placed image (at_label image P K) (at_label image P K (own_label n) + 3) (plain (instr.Output k (output_ty K k)) ∷ goto (end_label n) ∷ [])
    pub part : Placed image (at_label image P K) (at_label image P K (own_label n) + 3 + 4 + 3) ((exp_part P K fresh e (fresh + 2)).lines (number image P K))

  out_lines : (n : ℕ) (p : Pos) (k : ℕ) (e : KExp) → StatementBuilt image P K (record { node = n; pos = p; stmt = Out k (Some e) }) → OutLines n k e
  unfolding parts_draft
  out_lines n p k e built = record {
    fresh = built.fresh;
    goes = built.lines.1.0;
    back = built.lines.1.1.0;
    gives = (built.lines.1.1.1.0, (built.lines.1.1.1.1.0, tt));
    part = front image (at_label image P K) (at_label image P K (own_label n) + 3 + 4 + 3) ((exp_part P K built.fresh e (built.fresh + 2)).lines (number image P K)) (mark (end_label n) ∷ []) built.lines.1.1.1.1.1;
  }

  out_has : (k : ℕ) (e : KExp) (w : World) → layer_has Program w (out-KStmt (Out k (Some e))) ≡ true → exp_has Program w e ≡ true
  unfolding out-KStmt Carrier.out
  out_has k e w h = h

  out_deep : (k : ℕ) (e : KExp) → stmt_depth (Out k (Some e)) ≡ exp_depth e
  unfolding stmt_depth
  out_deep k e = refl

  out_placed : (p : Pos) (k : ℕ) (e : KExp) → LayerPlaced image (number image P K) p (out-KStmt (Out k (Some e))) → NodePlaced image (number image P K) e.node e.pos
  unfolding out-KStmt Carrier.out
  out_placed p k e h = h

  module _ {outer : List Frame} {turn : Bool} {sc : Scope} {b : KBlock} {done rest : List KNode} (n : ℕ) (p : Pos) (k : ℕ) (e : KExp) (w : World) (at : ℕ) (m : Machine)
      (h : AtStart image P width K outer turn sc b done rest (record { node = n; pos = p; stmt = Out k (Some e) }) w at m) where
    abbrev this : KNode
    this = record { node = n; pos = p; stmt = Out k (Some e) }

    record Given : Type 0 where
      pub t : Ty
      pub there : port_ty K k K.outputs ≡ Some t
      pub some : t ≢ ty.None
      pub may : gives K (block_scope sc b) t e ≡ true

    given_to : Given
    given_to =
        let ok = out_ok (block_scope sc b) n k (Some e) (fine laws image P width K compiled h.spot) in
        let x = and_parts (not (same_ty ok.0 ty.None)) (gives K (block_scope sc b) ok.0 e) ok.2 in
        record { t = ok.0; there = ok.1; some = λ q. false≢true (subst (λ (u : Ty). not (same_ty u ty.None) ≡ true) q x.0); may = x.1 }

    evaluated : (x : OutLines n k e) (g : Given) → Evaluated image m (at_label image P K (own_label n)) (value_of e Program w)
    evaluated x g =
        let may = (and_parts (typed (reads K (block_scope sc b)) (asks K (block_scope sc b)) e) (holds_all g.t e.ty) (and_parts (typed (reads K (block_scope sc b)) (asks K (block_scope sc b)) e && holds_all g.t e.ty) _ g.may).0).0 in
        expression_runs image P width K w m e x.fresh (x.fresh + 2) (at_label image P K (own_label n)) (at_label image P K (own_label n) + 3 + 4 + 3) h.stands.memory (some_gate laws image P width K compiled h.spot)
        (is_ready laws image P width K compiled h.spot w m.bytes e h.held h.stands.memory may (out_has k e w h.has) (let a = deep laws image P width K compiled h.spot in let q = out_deep k e in omega arith)
        (out_placed p k e (positions laws image P width K compiled h.spot)))
        x.goes x.back x.part

    pub out_comes : let v = stepped K 0 Program (wrap outer (In (OfBlock b [] no_instance rest) (Here (Start this)))) w in Comes image P width K w (trail_at image at 0) m v.outcome v.world
    out_comes =
        let x = out_lines n p k e (among laws image P width K compiled h.spot).built in
        subst (λ (j : ℕ). let v = stepped K 0 Program (wrap outer (In (OfBlock b [] no_instance rest) (Here (Start this)))) w in Comes image P width K w (trail_at image j 0) m v.outcome v.world) (sym h.stands.place)
        (by_answer x given_to (value_of e Program w) refl (evaluated x given_to))
      where
        by_answer : (x : OutLines n k e) (g : Given) (a : Answer) → value_of e Program w ≡ a → Evaluated image m (at_label image P K (own_label n)) a
            → let v = stepped K 0 Program (wrap outer (In (OfBlock b [] no_instance rest) (Here (Start this)))) w in Comes image P width K w (trail_at image (at_label image P K (own_label n)) 0) m v.outcome v.world
        by_answer x g (Ok v) q y =
            let s = scene laws image P width K compiled h.spot in
            let ok = given_value K (block_scope sc b) (vars_in (OfBlock b [] no_instance rest ∷ outer)) s.scope s.once w h.held g.t e g.may v q in
            let memory = holds_unseen image P width K w m.bytes y.after y.unseen h.stands.memory in
            let line : fetched image (at_label image P K (own_label n) + 3) ≡ Some (instr.Output k g.t) = x.gives.0 ∙ ap (λ (t : Ty). Some (instr.Output k t)) (ap ty_or_none g.there) in
            let run = value_runs {m = rewritten y.after m} k g.t v line (the_port k g.t g.there) g.some ok y.holds (cells laws image P width K compiled h.spot) in
            pass_comes laws image P width K compiled outer b done rest this (Start this) w (marked (Output k v) w) m (at_label image P K (own_label n)) h.spot.block h.spot.is h.spot.plain (out_does n p k e w (Ok v) q)
            (record {
              after = changed y.after (Output k v ∷ []) m;
              count = 65542;
              few = omega arith;
              runs = wider (omega arith) (onward y.runs (onward run (goto_runs (at_label image P K (end_label n)) x.gives.1.0)));
              marks = record { added = Output k v ∷ []; semantics = refl; machine = refl };
              memory = holds_fades image P width K w (marked (Output k v) w) y.after (marked_fades (Output k v) w) memory;
              counts = (counts_stay (tables P width K) image (view image m.bytes) (view image y.after) (OfBlock b [] no_instance rest ∷ outer) (unseen_numbers image m.bytes y.after y.unseen) h.stands.counts).1;
            })
        by_answer x g (Err z) q y = fault_comes laws image P width K compiled (Start this) w m (at_label image P K (own_label n)) 65540 z (omega arith) (reached laws image P width K compiled h.spot) (out_does n p k e w (Err z) q) y
