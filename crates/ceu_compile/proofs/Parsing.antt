-- Refusals by rules on tokens and on grammar.
use Rattle.std.proofs.Common.{◌≡◌, refl, inl, inr, ℕ, List, Result, Err}
use Rattle.ceu_base.specs.declared.kinds.Pos.{Pos}
use Rattle.ceu_base.specs.declared.kinds.Rule.{Rule}
use Rattle.ceu_lex.specs.Texts.{Reads}
use Rattle.ceu_lex.specs.Texts as lexing
use Rattle.ceu_lex.specs.declared.lexer.LexError.{LexError}
use Rattle.ceu_lex.specs.declared.lexer.LexError.TheVariants as lex_error
use Rattle.ceu_lex.specs.declared.token.Token.{Token}
use Rattle.ceu_grammar.specs.declared.parser.ParseError.{ParseError}
use Rattle.ceu_grammar.specs.declared.parser.ParseError.TheVariants as parse_error
use Rattle.ceu_compile.specs.Errors.{of_lex, of_parse}
use Rattle.ceu_compile.specs.Trees.{IsWrong, IsTreeRefusal}
use Rattle.ceu_compile.specs.declared.errors.CompileError.{CompileError}

lexed : (text : List ℕ) (e : LexError) → lexing.IsRefusal text e → IsTreeRefusal text (of_lex e)
lexed text (lex_error.Refused r place) refused = inl refused
lexed text lex_error.Memory refused = tt

pub lex_refused : (text : List ℕ) (e : LexError) (x : CompileError) → lexing.IsRefusal text e → x ≡ of_lex e → IsTreeRefusal text x
lex_refused text e x refused is = rw is (lexed text e refused)

derived_not : (text : List ℕ) (tokens : List Token) (e : ParseError) → Reads text tokens
    → ((r : Rule) (pos : Pos) (k : ℕ) → e ≡ parse_error.Refused r pos k → IsWrong text tokens r pos k) → IsTreeRefusal text (of_parse e)
derived_not text tokens (parse_error.Refused r place before) reads exact = inr (tokens, before, reads, exact r place before refl)
derived_not text tokens parse_error.Memory reads exact = tt

pub parse_refused : {T : Type 0} (text : List ℕ) (tokens : List Token) (e : ParseError) (x : CompileError) → Reads text tokens
    → ((r : Rule) (pos : Pos) (k : ℕ) → (let a : Result T ParseError = Err e in a ≡ Err (parse_error.Refused r pos k)) → IsWrong text tokens r pos k)
    → x ≡ of_parse e → IsTreeRefusal text x
parse_refused text tokens e x reads exact is = rw is (derived_not text tokens e reads (λ r pos k same. exact r pos k (rw same refl)))
