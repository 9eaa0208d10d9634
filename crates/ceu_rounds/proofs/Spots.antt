-- A turn whose leaf is at the head of a loop.
use Rattle.std.proofs.Common.{◌≡◌, refl, sym, subst, ℕ, ◌+◌, ◌*◌, Bool, true, List, [], ◌∷◌, Some, arith}
use Rattle.ceu_base.specs.declared.kinds.Pos.{Pos}
use Rattle.ceu_code.specs.declared.image.Image.{Image}
use Rattle.ceu_code.specs.declared.instr.Instr.TheVariants as instr
use Rattle.ceu_isa.specs.Fetching.{fetched}
use Rattle.ceu_isa.specs.Turns.{Machine, Trail}
use Rattle.ceu_tree.specs.declared.kernel.Kernel.{Kernel}
use Rattle.ceu_tree.specs.declared.kernel.KLoop.{KLoop}
use Rattle.ceu_tree.specs.declared.kernel.KNode.{KNode}
use Rattle.ceu_tree.specs.declared.kernel.KBlock.{KBlock}
use Rattle.ceu_tree.specs.declared.kernel.KStmt.{out-KStmt, Loop}
use Rattle.ceu_tree.specs.declared.kernel.KStmt.TheOpen.{KStmt-F}
use Rattle.ceu_tree.specs.Leaf as does
use Rattle.ceu_tree.specs.Leaf.{acted}
use Rattle.ceu_tree.specs.Proper.{Scope}
use Rattle.ceu_tree.specs.Residual.{Program, Act, AtHead, Again, Counter, no_instance}
use Rattle.ceu_tree.specs.Focus.{Frame, OfBlock, OfLoop, Here}
use Rattle.ceu_tree.specs.Step.{stepped}
use Rattle.ceu_tree.specs.World.{World}
use Rattle.laws_meaning_basics.specs.Shape.{ABlock, block_scope, turn_scope, counts}
use Rattle.ceu_endings.specs.Counted.{turns_counted}
use Rattle.ceu_shape.specs.Plans.{Plan, end_label}
use Rattle.ceu_shape.specs.Searches.{node_of_block}
use Rattle.ceu_shape.specs.Shape.{expression_count}
use Rattle.ceu_trail.specs.Built.{at_label, StatementBuilt}
use Rattle.ceu_trail.specs.Compiled.{Compiled}
use Rattle.ceu_trail.specs.Coming.{Comes}
use Rattle.ceu_trail.specs.Turning.{ActAt}
use Rattle.ceu_trail.specs.Within.{ValuesWithin, counter_within}
use Rattle.ceu_steps.specs.Running.{Runs, trail_at}
use Rattle.ceu_steps.specs.Premises.{BuiltLaws}
use Rattle.ceu_steps.specs.Reached.{wrap, Reached, in_turn}
use Rattle.ceu_steps.specs.Live.{vars_in}
use Rattle.ceu_steps.proofs.Ticks.{stay, wider}
use Rattle.ceu_steps.proofs.Lines.{goto_runs}
use Rattle.ceu_steps.proofs.Comes.{StandsIn}
use Rattle.ceu_steps.proofs.Turns.{Standing, reached}
use denote.Hole.Carrier

abbrev pub IsTurn : Act → Type 0
IsTurn AtHead = Unit {0}
IsTurn Again = Unit {0}
IsTurn a = ⊥

pub turn_heads : (K : Kernel) (a : Act) (w : World) → IsTurn a → acted K 0 Program a w ≡ does.done does.Heads w
turn_heads K AtHead w i = refl
turn_heads K Again w i = refl
turn_heads K a w i = absurd i

-- one step of a turn is done by the machine
abbrev pub StepDone : Image → Plan → (ℕ → ℕ) → Kernel → List Frame → Act → World → ℕ → Machine → Type 0
StepDone image P width K frames a w at m = let v = stepped K 0 Program (wrap frames (Here a)) w in Comes image P width K w (trail_at image at 0) m v.outcome v.world

-- at the head of a loop whose statement stands in a block
pub record AtTurn (image : Image) (P : Plan) (width : ℕ → ℕ) (K : Kernel) (outer : List Frame) (turn : Bool) (sc : Scope) (b : KBlock) (done rest : List KNode) (n : ℕ) (p : Pos) (k : KLoop) (body : KBlock) (c : Counter) (a : Act) (w : World) (at : ℕ) (m : Machine) : Type 0 where
  pub spot : Standing K outer turn sc b done rest (record { node = n; pos = p; stmt = Loop k body })
  pub is_turn : IsTurn a
  pub stands : StandsIn image P width K (OfBlock b [] no_instance rest ∷ outer) (OfLoop (record { node = n; pos = p; stmt = Loop k body }) c) a w at m.bytes
  pub held : ValuesWithin (vars_in (OfLoop (record { node = n; pos = p; stmt = Loop k body }) c ∷ OfBlock b [] no_instance rest ∷ outer)) w
  pub counter : counts k c ≡ true
  pub within : counter_within c
  pub counted : turns_counted k c

pub loop_layer : (k : KLoop) (body : KBlock) → out-KStmt (Loop k body) ≡ KStmt-F.Loop k body
unfolding out-KStmt Carrier.out
loop_layer k body = refl

module _ (laws : BuiltLaws) (image : Image) (P : Plan) (width : ℕ → ℕ) (K : Kernel) (compiled : Compiled image P width K) where
  -- inside the loop
  pub inside : {outer : List Frame} {turn : Bool} {sc : Scope} {b : KBlock} {done rest : List KNode} (n : ℕ) (p : Pos) (k : KLoop) (body : KBlock) (c : Counter) → Standing K outer turn sc b done rest (record { node = n; pos = p; stmt = Loop k body }) → counts k c ≡ true
      → Reached K (OfLoop (record { node = n; pos = p; stmt = Loop k body }) c ∷ OfBlock b [] no_instance rest ∷ outer) (ABlock true (turn_scope K (block_scope sc b) n k) body)
  inside n p k body c h q = in_turn k body (reached laws image P width K compiled h) (loop_layer k body) q

  -- the trail goes to the head
  pub record ToHead (n : ℕ) (p : Pos) (k : KLoop) (body : KBlock) (at : ℕ) (m : Machine) : Type 0 where
    pub built : StatementBuilt image P K (record { node = n; pos = p; stmt = Loop k body })
    pub runs : Runs image 1 (Trail (trail_at image at 0) m) (Trail (trail_at image (at_label image P K (built.fresh + 2 * expression_count (Loop k body))) 0) m)

  pub to_head : (n : ℕ) (p : Pos) (k : KLoop) (body : KBlock) (c : Counter) (a : Act) (at : ℕ) (whole : Bool) (bytes : List ℕ) (m : Machine) → IsTurn a → StatementBuilt image P K (record { node = n; pos = p; stmt = Loop k body })
      → ((built : StatementBuilt image P K (record { node = n; pos = p; stmt = Loop k body })) → fetched image (at_label image P K (end_label (node_of_block body))) ≡ Some (instr.Jump (at_label image P K (built.fresh + 2 * expression_count (Loop k body)))))
      → ActAt image P width K whole (OfLoop (record { node = n; pos = p; stmt = Loop k body }) c) a at bytes → ToHead n p k body at m
  unfolding out-KStmt Carrier.out
  to_head n p k body c AtHead at whole bytes m i built back h =
      record { built = h.built; runs = subst (λ (x : ℕ). Runs image 1 (Trail (trail_at image x 0) m) (Trail (trail_at image (at_label image P K (h.built.fresh + 2 * expression_count (Loop k body))) 0) m)) (sym h.there) (wider (omega arith) stay) }
  to_head n p k body c Again at whole bytes m i built back h =
      record {
        built = built;
        runs = subst (λ (x : ℕ). Runs image 1 (Trail (trail_at image x 0) m) (Trail (trail_at image (at_label image P K (built.fresh + 2 * expression_count (Loop k body))) 0) m)) (sym h)
            (goto_runs (at_label image P K (built.fresh + 2 * expression_count (Loop k body))) (back built));
      }
  to_head n p k body c a at whole bytes m i built back h = absurd i
