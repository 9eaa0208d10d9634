use Rattle.std.proofs.Common.{sym, ap, ◌∙◌}
use Rattle.ceu_syntax.specs.Trees as tree
use Rattle.ceu_syntax.specs.Steps.{reduce}
use Rattle.ceu_grammar.proofs.Folding as folding
use Rattle.ceu_grammar.proofs.expressions.binary_folded.Goals as goal

pub returns-then-level-least : goal.returns-then-level-least
returns-then-level-least c K = folding.kept c.args.least c.args.e c.args.op c.args.pos c.args.a K c.level.result c.level.ensures c.if-level-least.true

pub returns-in-Ok-new : goal.returns-in-Ok-new
returns-in-Ok-new c K = folding.ended c.args.least c.args.e c.args.op c.args.pos c.args.a K c.level.result c.level.ensures c.if-level-least.false ∙ ap (λ u. reduce c.args.least (tree.two c.args.op c.args.pos u c.args.e) K) (sym c.in-Ok.ensures) ∙ ap (λ u. reduce c.args.least (tree.two c.args.op c.args.pos c.in-Ok.a u) K) (sym c.in-Ok-new.ensures)

pub returns-in-Err-new : goal.returns-in-Err-new
returns-in-Err-new c = folding.wanting _ _ _ _ c.memory.ensures

pub returns-in-Err : goal.returns-in-Err
returns-in-Err c = folding.wanting _ _ _ _ c.memory-in-Err.ensures
