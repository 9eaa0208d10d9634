use Rattle.std.proofs.Common.{length}
use Rattle.ceu_scopes.proofs.scope.+seen.Given as goal

abbrev pub decreases-seen : goal.decreases-seen
decreases-seen l = length l.scopes.now
