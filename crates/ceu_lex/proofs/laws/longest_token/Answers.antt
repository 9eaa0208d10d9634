use Rattle.ceu_lex.proofs.Longest.{kept, longest, no_longer_symbol}
use Rattle.ceu_lex.proofs.laws.longest_token.Goals as goal

pub returns : goal.returns
returns c = record { begins = kept; longest = longest; symbols = no_longer_symbol }
