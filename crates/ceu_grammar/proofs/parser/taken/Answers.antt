use Rattle.std.proofs.Common.{◌∙◌, sym, subst}
use Rattle.ceu_grammar.specs.Answers.{Takes}
use Rattle.ceu_grammar.proofs.Tallies.{tallied}
use Rattle.ceu_grammar.proofs.parser.taken.Goals as goal

pub counted-inside-requires : goal.counted-inside-requires
counted-inside-requires c = c.requires.few

pub judged-requires : goal.judged-requires
judged-requires c = c.where_open.ensures ∙ tallied c.args.terminal.kind c.args.terminal.pos c.args.stack.now c.moved.new.stack c.args.mode c.in-Ok.next c.args.operators.now c.counted-inside.result c.requires.counted c.counted-inside.ensures c.in-Ok.ensures

pub returns-in-Ok : goal.returns-in-Ok
returns-in-Ok c = subst (λ x. Takes c.judged.result c.moved.new.stack c.where_open.result c.args.finalize x) (sym c.in-Ok.ensures) c.judged.ensures

pub returns-in-Err-Wrong : goal.returns-in-Err-Wrong
returns-in-Err-Wrong c = rw c.in-Err-Wrong.field-0-is at c.in-Err-Wrong.ensures
