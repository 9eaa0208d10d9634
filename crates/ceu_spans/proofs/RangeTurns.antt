-- What the head of a loop over a range makes of a whole turn: the loop is over, or its variable takes the next value and the body begins.
use Rattle.std.proofs.Common.{◌≡◌, ap, ℕ, ℤ, pos, Bool, true, false, List, [], ◌∷◌}
use Rattle.std.specs.Prelude.{◌+ℤ◌, int_lt, if◌then◌else◌}
use Rattle.ceu_base.specs.declared.kinds.Pos.{Pos}
use Rattle.ceu_tree.specs.declared.kernel.Kernel.{Kernel}
use Rattle.ceu_tree.specs.declared.kernel.KExp.{KExp}
use Rattle.ceu_tree.specs.declared.kernel.KLoop.TheVariants as turns
use Rattle.ceu_tree.specs.declared.kernel.KNode.{KNode}
use Rattle.ceu_tree.specs.declared.kernel.KBlock.{KBlock}
use Rattle.ceu_tree.specs.declared.kernel.KStmt.{out-KStmt, Loop}
use Rattle.ceu_tree.specs.Residual.{Program, Act, Begin, Upward, no_instance}
use Rattle.ceu_tree.specs.Focus.{Frame, OfBlock, OfLoop, Here, In}
use Rattle.ceu_tree.specs.World.{World, Holds, set}
use Rattle.ceu_tree.specs.Abort.{forget_loop}
use Rattle.ceu_tree.specs.Leaf as does
use Rattle.ceu_tree.specs.Leaf.{acted, next_of, rest_of}
use Rattle.ceu_tree.specs.Around.{moved, Goes, Past, next_turn}
use Rattle.ceu_tree.specs.Step.{stepped}
use Rattle.laws_meaning_basics.specs.Shape.{Part}
use Rattle.ceu_steps.specs.Reached.{wrap, Reached}
use Rattle.ceu_rounds.proofs.Heads.{turn_goes, turn_passes}
use denote.Hole.Carrier

module _ (n : ℕ) (p : Pos) (i at end : ℕ) (open_a : Bool) (x y : KExp) (open_b : Bool) (body : KBlock) (next last : ℤ) (w : World) where
  abbrev pub this : KNode
  this = record { node = n; pos = p; stmt = Loop (turns.Range i at end open_a x y open_b) body }

  next_is : (t : Bool) → int_lt last next ≡ t
      → next_turn this (out-KStmt this.stmt) (Upward next last) Program w ≡ (if t then moved Past (forget_loop Program this.stmt w) else moved (Goes (In (OfLoop this (Upward (next +ℤ pos 1) last)) (Here (Begin body)))) (set Program i (Holds next) w))
  unfolding out-KStmt Carrier.out
  next_is t e = ap (λ (t : Bool). if t then moved Past (forget_loop Program this.stmt w) else moved (Goes (In (OfLoop this (Upward (next +ℤ pos 1) last)) (Here (Begin body)))) (set Program i (Holds next) w)) e

  -- the loop is over, and its variable is gone
  pub range_passes : {K : Kernel} {outer : List Frame} {d e : Part} (b : KBlock) (rest : List KNode) (a : Act) → Reached K outer d → Reached K (OfLoop this (Upward next last) ∷ OfBlock b [] no_instance rest ∷ outer) e
      → acted K 0 Program a w ≡ does.done does.Heads w → int_lt last next ≡ true
      → stepped K 0 Program (wrap (OfLoop this (Upward next last) ∷ OfBlock b [] no_instance rest ∷ outer) (Here a)) w ≡ moved (Goes (wrap outer (In (OfBlock b [] no_instance (rest_of rest)) (Here (next_of rest))))) (forget_loop Program this.stmt w)
  range_passes b rest a around inside heads q = turn_passes b rest this (Upward next last) a w (forget_loop Program this.stmt w) around inside heads (next_is true q)

  -- the variable takes the next value, and the body begins
  pub range_turns : {K : Kernel} {outer : List Frame} {d e : Part} (a : Act) → Reached K outer d → Reached K (OfLoop this (Upward next last) ∷ outer) e
      → acted K 0 Program a w ≡ does.done does.Heads w → int_lt last next ≡ false
      → stepped K 0 Program (wrap (OfLoop this (Upward next last) ∷ outer) (Here a)) w ≡ moved (Goes (wrap outer (In (OfLoop this (Upward (next +ℤ pos 1) last)) (Here (Begin body))))) (set Program i (Holds next) w)
  range_turns a around inside heads q =
      turn_goes this (Upward next last) a w around inside heads (In (OfLoop this (Upward (next +ℤ pos 1) last)) (Here (Begin body))) (set Program i (Holds next) w) (next_is false q)
