use Rattle.std.proofs.Common.{◌∙◌, ap}
use Rattle.ceu_syntax.specs.Levels.{level_count}
use Rattle.ceu_grammar.proofs.Levels.{level_count-limit}
use Rattle.ceu_grammar.proofs.stack.Stack.levels.Goals as goal

pub returns : goal.returns
returns c = c.self.invariant ∙ level_count-limit _ ∙ ap (λ K. level_count K) c.self.view_is
