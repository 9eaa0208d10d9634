use Rattle.laws_text_printed.proofs.Again.{derived_back, only_back, printed_again}
use Rattle.laws_text_printed.proofs.printed_text_reads_back.Goals as goal

pub returns : goal.returns
returns c = record { back = derived_back; alone = only_back; steady = printed_again }
