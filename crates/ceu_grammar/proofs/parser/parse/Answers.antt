use Rattle.std.proofs.Common.{refl}
use Rattle.ceu_syntax.specs.Terminals.{terminals}
use Rattle.ceu_syntax.proofs.Exact.{accepted_derives}
use Rattle.ceu_grammar.proofs.Letters.{spelled}
use Rattle.ceu_grammar.proofs.Answered.{refused_of}
use Rattle.ceu_grammar.proofs.parser.parse.Goals as goal

pub all_taken-answer-requires-clause-names : goal.all_taken-answer-requires-clause-names
all_taken-answer-requires-clause-names c = rw c.items.ensures (spelled c.args.text.now c.args.tokens.now c.requires.reads)

pub returns-in-Ok-clause-derives : goal.returns-in-Ok-clause-derives
returns-in-Ok-clause-derives c =
    let a = rw c.items.ensures at c.in-Ok.ensures in
    (c.in-Ok.list, accepted_derives (terminals c.args.text.now c.args.tokens.now) c.in-Ok.list a.0, refl)

pub returns-in-Ok-clause-within : goal.returns-in-Ok-clause-within
returns-in-Ok-clause-within c = let a = rw c.items.ensures at c.in-Ok.ensures in a.1

pub returns-in-Err-clause-refused : goal.returns-in-Err-clause-refused
returns-in-Err-clause-refused c = let a = rw c.items.ensures at c.in-Err.ensures in refused_of c.in-Err.e c.args.text.now c.args.tokens.now a
