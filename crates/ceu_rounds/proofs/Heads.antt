-- What the head of a loop makes of a whole turn: its next turn, what is behind it, or a fault.
use Rattle.std.proofs.Common.{◌≡◌, refl, ap, ◌∙◌, List, [], ◌∷◌}
use Rattle.ceu_base.specs.declared.kinds.Fault.{Fault}
use Rattle.ceu_base.specs.declared.kinds.Pos.{Pos}
use Rattle.ceu_tree.specs.declared.kernel.Kernel.{Kernel}
use Rattle.ceu_tree.specs.declared.kernel.KNode.{KNode}
use Rattle.ceu_tree.specs.declared.kernel.KBlock.{KBlock}
use Rattle.ceu_tree.specs.declared.kernel.KStmt.{out-KStmt}
use Rattle.ceu_tree.specs.Residual.{Program, Act, Counter, Residual, no_instance}
use Rattle.ceu_tree.specs.Focus.{Frame, OfBlock, OfLoop, Focus, Here, In}
use Rattle.ceu_tree.specs.World.{World}
use Rattle.ceu_tree.specs.Leaf as does
use Rattle.ceu_tree.specs.Leaf.{Done, acted, next_of, rest_of}
use Rattle.ceu_tree.specs.Around.{Goes, Fails, Past, AtLoopHead, Moved, moved, up, taken, next_turn}
use Rattle.ceu_tree.specs.Step.{stepped}
use Rattle.laws_meaning_basics.specs.Shape.{Part}
use Rattle.ceu_steps.specs.Reached.{wrap, filled, Reached}
use Rattle.ceu_steps.proofs.Frames.{up_goes, up_fails, past_goes, step_is}

head_is : (s : KNode) (c : Counter) (a : Act) (w : World) → up Program (In (OfLoop s c) (Here a)) AtLoopHead w ≡ next_turn s (out-KStmt s.stmt) c Program w
unfolding up
head_is s c a w = refl

module _ {K : Kernel} {outer : List Frame} {d e : Part} (s : KNode) (c : Counter) (a : Act) (w : World) (around : Reached K outer d) (inside : Reached K (OfLoop s c ∷ outer) e) (heads : acted K 0 Program a w ≡ does.done does.Heads w) where
  turned : (m : Moved) → next_turn s (out-KStmt s.stmt) c Program w ≡ m → up Program (In (OfLoop s c) (Here a)) AtLoopHead w ≡ m
  turned m q = head_is s c a w ∙ q

  -- the loop goes on
  pub turn_goes : (g : Focus Act) (v : World) → next_turn s (out-KStmt s.stmt) c Program w ≡ moved (Goes g) v → stepped K 0 Program (wrap (OfLoop s c ∷ outer) (Here a)) w ≡ moved (Goes (wrap outer g)) v
  turn_goes g v q =
      step_is a w (does.done does.Heads w) inside heads
      ∙ ap (λ (m : Moved). moved (taken (wrap outer (In (OfLoop s c) (Here a))) m.outcome) m.world) (up_goes (In (OfLoop s c) (Here a)) g AtLoopHead w v around (turned (moved (Goes g) v) q))

  pub turn_fails : (p : Fault × Pos) (r : Residual) (v : World) → next_turn s (out-KStmt s.stmt) c Program w ≡ moved (Fails p r) v → stepped K 0 Program (wrap (OfLoop s c ∷ outer) (Here a)) w ≡ moved (Fails p (filled outer r)) v
  turn_fails p r v q =
      step_is a w (does.done does.Heads w) inside heads
      ∙ ap (λ (m : Moved). moved (taken (wrap outer (In (OfLoop s c) (Here a))) m.outcome) m.world) (up_fails (In (OfLoop s c) (Here a)) p r AtLoopHead w v around (turned (moved (Fails p r) v) q))

-- the loop is over
pub turn_passes : {K : Kernel} {outer : List Frame} {d e : Part} (b : KBlock) (rest : List KNode) (s : KNode) (c : Counter) (a : Act) (w v : World) → Reached K outer d → Reached K (OfLoop s c ∷ OfBlock b [] no_instance rest ∷ outer) e
    → acted K 0 Program a w ≡ does.done does.Heads w → next_turn s (out-KStmt s.stmt) c Program w ≡ moved Past v
    → stepped K 0 Program (wrap (OfLoop s c ∷ OfBlock b [] no_instance rest ∷ outer) (Here a)) w ≡ moved (Goes (wrap outer (In (OfBlock b [] no_instance (rest_of rest)) (Here (next_of rest))))) v
turn_passes {K} {outer} b rest s c a w v around inside heads q =
    step_is a w (does.done does.Heads w) inside heads
    ∙ ap (λ (m : Moved). moved (taken (wrap (OfBlock b [] no_instance rest ∷ outer) (In (OfLoop s c) (Here a))) m.outcome) m.world)
    (past_goes b rest (In (OfLoop s c) (Here a)) AtLoopHead w v around (head_is s c a w ∙ q))
