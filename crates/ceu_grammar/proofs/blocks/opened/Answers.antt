use Rattle.ceu_grammar.proofs.blocks.opened.Goals as goal

pub returns : goal.returns
returns c = rw c.new.ensures at c.pushed.ensures
