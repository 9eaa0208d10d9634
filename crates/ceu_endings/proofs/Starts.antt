-- Turns from the start of a statement, one level of it open.
use Rattle.std.proofs.Common.{◌≡◌, refl, sym, ap, ◌∙◌, subst, ◌≤◌, ℕ, suc, ◌+◌, ◌*◌, ℤ, pos, ◌+ℤ◌, ◌-ℤ◌, Bool, true, false, if◌then◌else◌, List, [], ◌∷◌, inl, inr, Option, Some, None, Result, Ok, Err, arith}
use Rattle.ceu_base.specs.declared.kinds.Pos.{Pos}
use Rattle.ceu_base.specs.declared.kinds.Fault.{Fault}
use Rattle.ceu_base.specs.Values.{of_test, same}
use Rattle.ceu_tree.specs.declared.kernel.Kernel.{Kernel}
use Rattle.ceu_tree.specs.declared.kernel.KLoop.{KLoop}
use Rattle.ceu_tree.specs.declared.kernel.KLoop.TheVariants as turns
use Rattle.ceu_tree.specs.declared.kernel.Loc.{Loc}
use Rattle.ceu_tree.specs.declared.kernel.KNode.{KNode}
use Rattle.ceu_tree.specs.declared.kernel.KArm.{KArm, out-KArm}
use Rattle.ceu_tree.specs.declared.kernel.KBlock.{KBlock, out-KBlock}
use Rattle.ceu_tree.specs.declared.kernel.KStmt.{out-KStmt}
use Rattle.ceu_tree.specs.declared.kernel.KStmt.TheOpen.{KStmt-F}
use Rattle.ceu_tree.specs.Residual.{Body, Act, Begin, Start, AtHead, Counter, Free, Turns, Upward, Over, no_instance}
use Rattle.ceu_tree.specs.Focus.{OfOpen, OfLoop, Focus, Here, In, plug}
use Rattle.ceu_tree.specs.World.{World}
use Rattle.ceu_tree.specs.Expressions.{value_of}
use Rattle.ceu_tree.specs.Leaf.{Layer, Exit, Escape, Done, or_fails, chosen_part, opened, done, loop_reached, started}
use Rattle.ceu_tree.specs.Around.{Outcome, Fails}
use Rattle.ceu_tree.specs.Paths.{Way, ToEnd, constant_bound, is_range, loop_ways, do_ways, quick_block, quick_list}
use Rattle.ceu_tree.specs.Proper.{Aim, LoopAim, do_aim}
use Rattle.ceu_tree.proofs.PathLaws.{quick_of_block}
use Rattle.laws_meaning_basics.specs.Shape.{counts}
use Rattle.ceu_endings.specs.Counted.{turns_left}
use Rattle.ceu_endings.proofs.Turns.{exactly, turns_begin_with}
use Rattle.ceu_endings.proofs.Local.{Settles, does_local, local, Halts, halts_weaker, halts_first, halts_in}
use Rattle.ceu_endings.proofs.Among.{Among, loop_exit, loop_break, loop_empty, loop_round}
use Rattle.ceu_endings.proofs.Aims.{aims_at, Leads, Below, leads_below, aims_node}
use Rattle.ceu_endings.proofs.Fine.{bound_fine, turns_at_most, block_cost, block_cost_is, list_cost}
use Rattle.ceu_endings.proofs.Opened.{StmtEnds, BlockEnds, EachHalts, begun_halts, block_takes, do_answers, if_answers}
use Rattle.ceu_endings.proofs.Looped.{LoopTakes, head_halts, RangeReady, Ready, loop_settles}

module _ (K : Kernel) (level : ℕ) where
  -- from the start of a block
  abbrev pub BlockHalts : List Aim → KBlock → Type 0
  BlockHalts aims b = (body : Body) (w : World) → Halts K level (BlockEnds (quick_block [] b) aims) body (block_cost b) (Here (Begin b)) w

  pub block_halts : (aims : List Aim) (b : KBlock) → Below aims (out-KBlock b).node → EachHalts K level aims (out-KBlock b).list → BlockHalts aims b
  block_halts aims b below h body w =
      subst (λ n. Halts K level (BlockEnds (quick_block [] b) aims) body n (Here (Begin b)) w) (sym (block_cost_is b))
      (subst (λ q. Halts K level (BlockEnds q aims) body (suc (list_cost (out-KBlock b).list)) (Here (Begin b)) w) (sym (quick_of_block [] b))
      (begun_halts K level aims b body w (BlockEnds (quick_list [] (out-KBlock b).list) aims) h (block_takes K level aims b [] no_instance body below)))

  module _ (Q : Outcome → Type 0) (body : Body) where
    pub start_halts : (m : ℕ) (s : KNode) (layer : Layer) (w : World) → out-KStmt s.stmt ≡ layer
        → Settles (Halts K level Q body m) Q (let d = started K level body s layer w in does_local body (Here (Start s)) d.does d.world) → Halts K level Q body (suc m) (Here (Start s)) w
    unfolding local
    start_halts m s layer w e h =
        halts_first K level Q body m (suc m) (Here (Start s)) w (omega arith) (subst (λ l. Settles (Halts K level Q body m) Q (let d = started K level body s l w in does_local body (Here (Start s)) d.does d.world)) (sym e) h)

    pub or_settles : {A : Type 0} (m : ℕ) (f : Focus Act) (a : Result A (Fault × Pos)) (w : World) (go : A → Done) → ((e : Fault × Pos) → Q (Fails e (plug f Over)))
        → ((x : A) → a ≡ Ok x → Settles (Halts K level Q body m) Q (does_local body f (go x).does (go x).world))
        → Settles (Halts K level Q body m) Q (does_local body f (or_fails a w go).does (or_fails a w go).world)
    or_settles m f (Ok x) w go h k = k x refl
    or_settles m f (Err e) w go h k = h e

  -- ---- do and if

  pub do_settles : (s : KNode) (t : Option Loc) (b : KBlock) (aims : List Aim) (body : Body) (w : World) → Below aims s.node → BlockHalts (do_aim K s.node t ∷ aims) b
      → Halts K level (StmtEnds (do_ways s.node (quick_block [] b)) aims) body (block_cost b) (In (OfOpen s) (Here (Begin b))) w
  do_settles s t b aims body w below h =
      halts_weaker K level (StmtEnds (do_ways s.node (quick_block [] b)) aims) (StmtEnds (do_ways s.node (quick_block [] b)) aims) body (block_cost b + 0) (block_cost b) _ w (omega arith) (λ x p. p)
      (halts_in K level (BlockEnds (quick_block [] b) (do_aim K s.node t ∷ aims)) (StmtEnds (do_ways s.node (quick_block [] b)) aims) body (block_cost b) 0 (OfOpen s) (Here (Begin b)) w
      (do_answers K level s t (quick_block [] b) aims body below) (h body w))

  -- one of the parts of an if, whose ways are among q
  pub record ArmHalts (q : List Way) (cost : ℕ) (aims : List Aim) (b : KBlock) : Type 0 where
    pub halts : BlockHalts aims b
    pub within : (w : Way) → Among w (quick_block [] b) → Among w q
    pub costs : block_cost b ≤ cost

  abbrev pub EachArm : List Way → ℕ → List Aim → List KArm → Type 0
  EachArm q cost aims [] = Unit {0}
  EachArm q cost aims (a ∷ arms) = ArmHalts q cost aims (out-KArm a).body × EachArm q cost aims arms

  module _ (s : KNode) (q : List Way) (cost : ℕ) (aims : List Aim) (below : Below aims s.node) (body : Body) (w : World) where
    abbrev Goal : Done → Type 0
    Goal d = Settles (Halts K level (StmtEnds q aims) body cost) (StmtEnds q aims) (does_local body (Here (Start s)) d.does d.world)

    arm_settles : (b : KBlock) → ArmHalts q cost aims b → Goal (done (opened s b) w)
    arm_settles b h =
        halts_weaker K level (StmtEnds q aims) (StmtEnds q aims) body (block_cost b + 0) cost (In (OfOpen s) (Here (Begin b))) w (omega (arith, h.costs)) (λ x p. p)
        (halts_in K level (BlockEnds (quick_block [] b) aims) (StmtEnds q aims) body (block_cost b) 0 (OfOpen s) (Here (Begin b)) w (if_answers K level s (quick_block [] b) q aims body below h.within) (h.halts body w))

    pub if_settles : (arms : List KArm) (last : KBlock) → EachArm q cost aims arms → ArmHalts q cost aims last → Goal (or_fails (chosen_part arms last body w) w (λ b. done (opened s b) w))
    if_settles [] last h k = arm_settles last k
    if_settles (a ∷ arms) last h k = case (value_of (out-KArm a).cond body w) (if_settles arms last h.1 k)
      where
        pick : (b : Bool) → Goal (or_fails (chosen_part arms last body w) w (λ b. done (opened s b) w))
            → Goal (or_fails (if b then chosen_part arms last body w else Ok (out-KArm a).body) w (λ b. done (opened s b) w))
        pick true x = x
        pick false x = arm_settles (out-KArm a).body h.0

        case : (o : Result ℤ (Fault × Pos)) → Goal (or_fails (chosen_part arms last body w) w (λ b. done (opened s b) w))
            → Goal (or_fails (elim o [ Ok v ↦ if same v (pos 0) then chosen_part arms last body w else Ok (out-KArm a).body | Err e ↦ Err e ]) w (λ b. done (opened s b) w))
        case (Ok v) x = pick (same v (pos 0)) x
        case (Err e) x = tt

  -- ---- loops

  module _ (s : KNode) (k : KLoop) (b : KBlock) (is : out-KStmt s.stmt ≡ KStmt-F.Loop k b) (aims : List Aim) (below : Below aims s.node) (inside : BlockHalts (LoopAim s.node ∷ aims) b) (body : Body) where
    abbrev Ways : List Way
    Ways = loop_ways s.node k (quick_block [] b)

    loop_takes : LoopTakes K level s k b is (quick_block [] b) aims (block_cost b) inside (StmtEnds Ways aims) body
    loop_takes = record {
      rests = λ r. tt;
      fails = λ e r. tt;
      leaves = λ n x ne h l. (loop_exit s.node n k x (quick_block [] b) (λ e. ne (sym e)) h, outer n x ne l);
      breaks = λ n e h. loop_break s.node n k (quick_block [] b) (sym e) h;
      escapes = λ n v e l. escaped n v e l;
    }
      where
        at : (n : ℕ) (x : Exit) → aims_at (LoopAim s.node) n x → s.node ≡ n
        at n x a = aims_node (LoopAim s.node) n x a

        outer : (n : ℕ) (x : Exit) → (n ≡ s.node → ⊥) → Leads (LoopAim s.node ∷ aims) n x → Leads aims n x
        outer n x ne (inl a) = absurd (ne (sym (at n x a)))
        outer n x ne (inr l) = l

        escaped : (n : ℕ) (v : ℤ) → n ≡ s.node → Leads (LoopAim s.node ∷ aims) n (Escape v) → Among ToEnd Ways
        escaped n v e (inl a) = absurd a
        escaped n v e (inr l) = let a = leads_below aims s.node n (Escape v) below l in absurd (omega (arith, a, e))

    -- at its head for the first time
    first : (c : Counter) (w : World) → counts k c ≡ true → Ready (Among ToEnd Ways) k c → bound_fine (constant_bound k) s.node (quick_block [] b)
        → Halts K level (StmtEnds Ways aims) body (suc (turns_at_most (constant_bound k) * suc (block_cost b))) (In (OfLoop s c) (Here AtHead)) w
    first c w h r f =
        head_halts K level s k b is (quick_block [] b) aims (block_cost b) inside (StmtEnds Ways aims) body (turns_at_most (constant_bound k) * suc (block_cost b)) c w
        (loop_settles K level s b (quick_block [] b) aims (block_cost b) inside (StmtEnds Ways aims) body k c w is loop_takes h r f (λ n e z. loop_round s.node n k (quick_block [] b) e z))

  range_ready : (node : ℕ) (k : KLoop) (q : List Way) (o : Option ℕ) (at last : ℤ) → is_range k ≡ true → constant_bound k ≡ o → exactly o (turns_left at last) → RangeReady o (Among ToEnd (loop_ways node k q)) at last
  range_ready node k q None at last r e x = loop_empty node k q r (inl e)
  range_ready node k q (Some n) at last r e x = (omega (arith, x), λ z. loop_empty node k q r (inr (e ∙ ap Some (sym x ∙ z))))

  pub loop_starts : (s : KNode) (k : KLoop) (b : KBlock) (is : out-KStmt s.stmt ≡ KStmt-F.Loop k b) (aims : List Aim) → Below aims s.node → BlockHalts (LoopAim s.node ∷ aims) b
      → bound_fine (constant_bound k) s.node (quick_block [] b) → (body : Body) (w : World)
      → Settles (Halts K level (StmtEnds (loop_ways s.node k (quick_block [] b)) aims) body (suc (turns_at_most (constant_bound k) * suc (block_cost b)))) (StmtEnds (loop_ways s.node k (quick_block [] b)) aims)
      (let d = loop_reached s k body w in does_local body (Here (Start s)) d.does d.world)
  loop_starts s turns.Free b is aims below inside f body w = first s turns.Free b is aims below inside body Free w refl tt f
  loop_starts s (turns.Times slot limit) b is aims below inside f body w = first s (turns.Times slot limit) b is aims below inside body (Turns 0) w refl (omega arith) f
  loop_starts s (turns.Range i next end open_a x y open_b) b is aims below inside f body w =
      let k = turns.Range i next end open_a x y open_b in
      let P = StmtEnds (loop_ways s.node k (quick_block [] b)) aims in
      or_settles P body _ (Here (Start s)) (value_of x body w) w _ (λ e. tt) (λ u p. or_settles P body _ (Here (Start s)) (value_of y body w) w _ (λ e. tt) (λ v r. first s k b is aims below inside body (Upward (u +ℤ of_test open_a) (v -ℤ of_test open_b)) w refl
      (range_ready s.node k (quick_block [] b) (constant_bound k) (u +ℤ of_test open_a) (v -ℤ of_test open_b) refl refl (turns_begin_with x y open_a open_b u v body w p r)) f))
