use Rattle.std.proofs.Common.{◌∙◌, ap, sym}
use Rattle.ceu_syntax.specs.Levels.{is_at_statement}
use Rattle.ceu_grammar.proofs.Levels.{none_begun, top_begun}
use Rattle.ceu_grammar.proofs.stack.Stack.is_at_statement.Goals as goal

pub returns-in-Some : goal.returns-in-Some
returns-in-Some c = c.is_begun.ensures ∙ sym (top_begun c.self.inside.items.items c.deref.result.now c.in-Some.frame.now c.deref.ensures.value c.in-Some.ensures.value) ∙ ap (λ K. is_at_statement K) c.self.view_is

pub returns-in-None : goal.returns-in-None
returns-in-None c = sym (none_begun c.self.inside.items.items c.deref.result.now c.deref.ensures.value c.in-None.ensures.value) ∙ ap (λ K. is_at_statement K) c.self.view_is
