-- What a refusal says of the grammar.
use Rattle.std.proofs.Common.{◌≡◌, ℕ, List, Result, Err, subst}
use Rattle.ceu_base.specs.declared.kinds.Pos.{Pos}
use Rattle.ceu_base.specs.declared.kinds.Rule.{Rule}
use Rattle.ceu_lex.specs.declared.token.Token.{Token}
use Rattle.ceu_tree.specs.declared.source.Tree.{Tree}
use Rattle.ceu_grammar.specs.declared.parser.ParseError.{ParseError}
use Rattle.ceu_grammar.specs.declared.parser.ParseError.TheVariants as error
use Rattle.ceu_grammar.specs.Answers.{Answers, PlaceOf}
use Rattle.ceu_syntax.specs.Limits.{FirstBroken}
use Rattle.ceu_syntax.specs.Terminals.{terminals}

same_error : (e : ParseError) (x : ParseError) → (let r : Result Tree ParseError = Err e in r ≡ Err x) → e ≡ x
same_error e x h = cc

pub refused_of : (e : ParseError) (text : List ℕ) (tokens : List Token) → Answers (Err e) text tokens
    → (rule : Rule) (pos : Pos) (k : ℕ) → (let r : Result Tree ParseError = Err e in r ≡ Err (error.Refused rule pos k)) → FirstBroken (terminals text tokens) rule k × PlaceOf text tokens k pos
refused_of e text tokens a rule pos k same = subst (λ x. Answers (Err x) text tokens) (same_error e (error.Refused rule pos k) same) a
