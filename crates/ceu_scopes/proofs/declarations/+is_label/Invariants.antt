use Rattle.std.proofs.Common.{length}
use Rattle.ceu_scopes.proofs.declarations.+is_label.Given as goal

abbrev pub decreases-is_label : goal.decreases-is_label
decreases-is_label l = length l.labels.now
