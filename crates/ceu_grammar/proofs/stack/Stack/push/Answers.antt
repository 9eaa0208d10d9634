use Rattle.std.proofs.Common.{◌∙◌, sym, arith}
use Rattle.ceu_grammar.proofs.Levels.{pushed, pushed_beside, level_count-within}
use Rattle.ceu_grammar.proofs.stack.Stack.push.Goals as goal

pub overflow_add-self : goal.overflow_add-self
overflow_add-self c = omega (arith, c.self.inside.items.small, c.self.inside.items.ok.0, c.self.inside.items.ok.1, level_count-within c.self.inside.items.items, c.self.invariant)

pub invariant_of-self-then-opens : goal.invariant_of-self-then-opens
invariant_of-self-then-opens c = pushed c.args.frame c.self.inside.items.items c.push.new.self.items c.self.inside.levels c.self.invariant (sym c.is_level-opens.ensures ∙ c.if-opens.true) c.in_ok-push.ensures.items

pub invariant_of-self-else-opens : goal.invariant_of-self-else-opens
invariant_of-self-else-opens c = pushed_beside c.args.frame c.self.inside.items.items c.push.new.self.items c.self.inside.levels c.self.invariant (sym c.is_level-opens.ensures ∙ c.if-opens.false) c.in_ok-push.ensures.items
