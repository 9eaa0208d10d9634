use Rattle.std.proofs.Common.{◌∙◌, sym}
use Rattle.ceu_grammar.proofs.Levels.{popped_some, popped, popped_beside}
use Rattle.ceu_grammar.proofs.stack.Stack.pop.Goals as goal

pub overflow_sub-self : goal.overflow_sub-self
overflow_sub-self c = popped_some c.in_ok-frame.frame c.self.inside.items.items c.pop.new.self.items c.self.inside.levels c.self.invariant (sym c.is_level.ensures ∙ c.if-is_level.true) c.in_ok-frame.ensures.items

pub invariant_of-self-then-is_level : goal.invariant_of-self-then-is_level
invariant_of-self-then-is_level c = popped c.in_ok-frame.frame c.self.inside.items.items c.pop.new.self.items c.self.inside.levels c.self.invariant (sym c.is_level.ensures ∙ c.if-is_level.true) c.in_ok-frame.ensures.items

pub invariant_of-self-else-is_level : goal.invariant_of-self-else-is_level
invariant_of-self-else-is_level c = popped_beside c.in_ok-frame.frame c.self.inside.items.items c.pop.new.self.items c.self.inside.levels c.self.invariant (sym c.is_level.ensures ∙ c.if-is_level.false) c.in_ok-frame.ensures.items
