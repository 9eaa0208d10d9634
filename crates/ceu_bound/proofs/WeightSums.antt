-- Sums over a list with one more item.
use Rattle.ceu_tree.proofs.TableLaws.{total_more}

pub ruleset sums = (total_more)
