use Rattle.ceu_code.proofs.number.+read_in_spans.Given as goal

abbrev pub decreases-read_in_spans : goal.decreases-read_in_spans
decreases-read_in_spans l = l.width
