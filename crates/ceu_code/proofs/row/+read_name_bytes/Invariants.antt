use Rattle.ceu_code.proofs.row.+read_name_bytes.Given as goal

abbrev pub decreases-read_name_bytes : goal.decreases-read_name_bytes
decreases-read_name_bytes l = l.count
