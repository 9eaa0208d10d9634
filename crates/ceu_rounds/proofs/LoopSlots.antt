-- The hidden slots of a loop: they lie apart from all variables that are seen and from the slots of the loops around it.
use Rattle.std.proofs.Common.{◌≡◌, ◌≢◌, sym, subst, ◌≤◌, ℕ, zero, suc, ◌+◌, Bool, true, ◌==◌, List, [], ◌∷◌, Contains, arith, eqb-true}
use Rattle.std.proofs.lemmas.Bool.{and_parts}
use Rattle.std.proofs.lemmas.List.Elements.{Contains-append_left, Contains-append_right}
use Rattle.ceu_base.specs.declared.kinds.Pos.{Pos}
use Rattle.ceu_code.specs.declared.image.Image.{Image}
use Rattle.ceu_tree.specs.declared.kernel.Kernel.{Kernel}
use Rattle.ceu_tree.specs.declared.kernel.KLoop.{KLoop}
use Rattle.ceu_tree.specs.declared.kernel.KLoop.TheVariants as turns
use Rattle.ceu_tree.specs.declared.kernel.KNode.{KNode}
use Rattle.ceu_tree.specs.declared.kernel.KBlock.{KBlock}
use Rattle.ceu_tree.specs.declared.kernel.KStmt.{out-KStmt, Loop}
use Rattle.ceu_tree.specs.declared.kernel.KStmt.TheOpen.{KStmt-F}
use Rattle.ceu_tree.specs.Numbering.{counts_from, loop_slots}
use Rattle.ceu_tree.specs.Proper.{Scope}
use Rattle.ceu_tree.specs.Residual.{Counter, no_instance}
use Rattle.ceu_tree.specs.Focus.{Frame, OfBlock, OfLoop}
use Rattle.laws_meaning_basics.specs.Shape.{counts}
use Rattle.ceu_shape.specs.Plans.{Plan}
use Rattle.ceu_slots.specs.Law.{TurnsSized}
use Rattle.laws_meaning_values.proofs.Grounds.{hidden_counts}
use Rattle.ceu_trail.specs.Compiled.{Compiled}
use Rattle.ceu_trail.specs.Within.{Variable}
use Rattle.ceu_steps.specs.Premises.{BuiltLaws}
use Rattle.ceu_steps.specs.Live.{slots_in, vars_in, layer_slots, hidden_loop, hidden_layer, hidden_in, AllSized, Live}
use Rattle.ceu_steps.proofs.Live.{lifted_of}
use Rattle.ceu_steps.proofs.Scenes.{scene_of}
use Rattle.ceu_steps.proofs.Store.{hidden_is_in}
use Rattle.ceu_steps.proofs.Turns.{Standing, single_of, scene}
use Rattle.ceu_rounds.proofs.Spots.{inside, loop_layer}
use denote.Hole.Carrier

own_above : (k : KLoop) (low x : ℕ) → counts_from low (loop_slots k) ≡ true → Contains (hidden_loop k) x → low ≤ x
own_above turns.Free low x h c = absurd (omega (arith, c.1))
own_above (turns.Times slot n) low x h (zero, lt, e) = let a = eqb-true slot low (and_parts (slot == low) true h).0 in omega (arith, a, e)
own_above (turns.Times slot n) low x h (suc j, lt, e) = absurd (omega arith)
own_above (turns.Range i next end open_a a b open_b) low x h c = go c
  where
    second : next ≡ low + 1
    second = eqb-true next (low + 1) (and_parts (next == low + 1) (counts_from (low + 1 + 1) (end ∷ [])) (and_parts (i == low) (counts_from (low + 1) (next ∷ end ∷ [])) h).1).0

    third : end ≡ low + 1 + 1
    third = eqb-true end (low + 1 + 1) (and_parts (end == low + 1 + 1) true (and_parts (next == low + 1) (counts_from (low + 1 + 1) (end ∷ [])) (and_parts (i == low) (counts_from (low + 1) (next ∷ end ∷ [])) h).1).1).0

    go : Contains (next ∷ end ∷ []) x → low ≤ x
    go (zero, lt, e) = omega (arith, second, e)
    go (suc zero, lt, e) = omega (arith, third, e)
    go (suc (suc j), lt, e) = absurd (omega arith)

hidden_own_in : (k : KLoop) (x : ℕ) → Contains (hidden_loop k) x → Contains (loop_slots k) x
hidden_own_in turns.Free x c = c
hidden_own_in (turns.Times slot n) x c = c
hidden_own_in (turns.Range i next end open_a a b open_b) x c = Contains-append_right (i ∷ []) (next ∷ end ∷ []) x c

module _ (laws : BuiltLaws) (image : Image) (P : Plan) (width : ℕ → ℕ) (K : Kernel) (compiled : Compiled image P width K) (outer : List Frame) (turn : Bool) (sc : Scope) (b : KBlock) (done rest : List KNode) (n : ℕ) (p : Pos) (k : KLoop) (body : KBlock) (c : Counter)
    (spot : Standing K outer turn sc b done rest (record { node = n; pos = p; stmt = Loop k body })) (counter : counts k c ≡ true) where
  abbrev pub this : KNode
  this = record { node = n; pos = p; stmt = Loop k body }

  abbrev pub frames : List Frame
  frames = OfBlock b [] no_instance rest ∷ outer

  pub all_live : Live P.offset width P.frame P.total (OfLoop this c ∷ frames)
  all_live = (lifted_of P.offset width P.frame P.total K compiled.slots (inside laws image P width K compiled n p k body c spot counter)).live

  pub own_sized : TurnsSized P.offset width P.frame k
  unfolding out-KStmt Carrier.out
  own_sized = all_live.sized.0

  pub frames_sized : AllSized P.offset width P.frame P.total frames
  frames_sized = all_live.sized.1

  pub own_slot : (x : ℕ) → Contains (loop_slots k) x → Contains (slots_in (OfLoop this c ∷ frames)) x
  own_slot x d = Contains-append_left (layer_slots (out-KStmt this.stmt)) (slots_in frames) x (subst (λ l. Contains (layer_slots l) x) (sym (loop_layer k body)) d)

  pub mine : (x : ℕ) → Contains (hidden_loop k) x → Contains (slots_in (OfLoop this c ∷ frames)) x
  mine x d = own_slot x (hidden_own_in k x d)

  pub seen_apart : (x : ℕ) → Contains (hidden_loop k) x → (v : Variable) → Contains (vars_in (OfLoop this c ∷ frames)) v → x ≢ v.slot
  seen_apart x d v e =
      (scene_of K compiled.proper (single_of laws image P width K compiled) (inside laws image P width K compiled n p k body c spot counter)).0.hidden_apart x v
      (Contains-append_left (hidden_layer (out-KStmt this.stmt)) (hidden_in frames) x (subst (λ l. Contains (hidden_layer l) x) (sym (loop_layer k body)) d)) e

  pub outer_apart : (x : ℕ) → Contains (hidden_loop k) x → (y : ℕ) → Contains (hidden_in frames) y → Contains (slots_in (OfLoop this c ∷ frames)) y × (y ≢ x)
  outer_apart x d y e =
      let s = scene laws image P width K compiled spot in
      let low = own_above k s.ground.low x (hidden_counts this (KStmt-F.Loop k body) s.ground (loop_layer k body) s.on).0 d in
      let before = s.hidden_before y e in
      (Contains-append_right (layer_slots (out-KStmt this.stmt)) (slots_in frames) y (hidden_is_in frames y e), λ q. absurd (omega (arith, low, before, q)))
