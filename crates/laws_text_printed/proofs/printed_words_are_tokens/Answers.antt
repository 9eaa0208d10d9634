use Rattle.laws_text_printed.proofs.Names.{lexeme_name}
use Rattle.laws_text_printed.proofs.Numbers.{lexeme_decimal}
use Rattle.laws_text_printed.proofs.PrintedTimes.{lexeme_time}
use Rattle.laws_text_printed.proofs.printed_words_are_tokens.Goals as goal

pub returns : goal.returns
returns c = record { names = lexeme_name; numbers = lexeme_decimal; times = lexeme_time }
