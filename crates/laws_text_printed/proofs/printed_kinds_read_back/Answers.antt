use Rattle.laws_text_printed.proofs.Programs.{reads_back}
use Rattle.laws_text_printed.proofs.printed_kinds_read_back.Goals as goal

pub returns : goal.returns
returns c tokens nodes d h printed e = reads_back tokens nodes d h printed e
