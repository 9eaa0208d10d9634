use Rattle.std.proofs.Common.{sym, ap, ◌∙◌, ◌∷◌}
use Rattle.ceu_syntax.specs.Steps as spec
use Rattle.ceu_grammar.proofs.Others as other
use Rattle.ceu_grammar.proofs.Moved.{moves_as}
use Rattle.ceu_grammar.proofs.ends.act_semicolon_under.Goals as goal

pub returns-in-Begun : goal.returns-in-Begun
returns-in-Begun c = rw c.in-Begun.is (rw c.statement_of.ensures at (c.begun_closed.ensures c.args.stack.now))

pub returns-in-Alias : goal.returns-in-Alias
returns-in-Alias c = rw c.in-Alias.is (c.alias_semicolon.ensures)

pub returns-in_default : goal.returns-in_default
returns-in_default c = moves_as _ _ _ _ (ap (λ s. spec.source_semicolon s (c.args.frame ∷ c.args.stack.now)) c.source_of.ensures ∙ sym (other.act_semicolon c.args.act c.args.frame c.args.stack.now c.in_default.not-Begun c.in_default.not-Alias)) c.source_semicolon.ensures
