use Rattle.laws_text_printed.proofs.Programs.{all_spelled}
use Rattle.laws_text_printed.proofs.printed_kinds_are_spelled.Goals as goal

pub returns : goal.returns
returns c tokens nodes d h = all_spelled tokens nodes d h
