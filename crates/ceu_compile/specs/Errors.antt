-- The errors of the parts.
use Rattle.ceu_base.specs.declared.kinds.CheckError.{CheckError}
use Rattle.ceu_base.specs.declared.kinds.CheckError.TheVariants as checking
use Rattle.ceu_grammar.specs.declared.parser.ParseError.{ParseError}
use Rattle.ceu_grammar.specs.declared.parser.ParseError.TheVariants as parsing
use Rattle.ceu_lex.specs.declared.lexer.LexError.{LexError}
use Rattle.ceu_lex.specs.declared.lexer.LexError.TheVariants as lexing
use Rattle.ceu_compile.specs.declared.errors.CompileError.{CompileError}
use Rattle.ceu_compile.specs.declared.errors.CompileError.TheVariants.{Refused, Memory}

abbrev pub of_lex : LexError → CompileError
of_lex (lexing.Refused rule place) = Refused rule place
of_lex lexing.Memory = Memory

abbrev pub of_parse : ParseError → CompileError
of_parse (parsing.Refused rule place before) = Refused rule place
of_parse parsing.Memory = Memory

abbrev pub of_check : CheckError → CompileError
of_check (checking.Refused rule place) = Refused rule place
of_check checking.Memory = Memory
