use Rattle.std.proofs.Common.{List, Result, sym, subst}
use Rattle.std.specs.Prelude.{IfOk}
use Rattle.ceu_base.specs.declared.kinds.Port.{Port}
use Rattle.ceu_tree.specs.declared.command.Command.{Command}
use Rattle.ceu_script.specs.Commands.{IsCommand}
use Rattle.ceu_script.specs.declared.items.BadKind.{BadKind}
use Rattle.ceu_script.proofs.Allowed.{Allowed, words_allowed, if_ok_allowed}
use Rattle.ceu_script.proofs.shapes.command_of.Goals as goal

pub returns-clause-allowed : goal.returns-clause-allowed
returns-clause-allowed c =
    subst (λ (inputs : List Port). IfOk c.of_words.result (IsCommand inputs)) c.items.ensures
    (if_ok_allowed c.items.result.now c.of_words.result
    (subst (λ (answer : Result Command BadKind). Allowed c.items.result.now answer) (sym c.of_words.ensures) (words_allowed c.split_word.result.0.now c.split_word-2.result.0.now c.items.result.now)))
