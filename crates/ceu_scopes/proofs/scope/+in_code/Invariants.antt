use Rattle.std.proofs.Common.{length}
use Rattle.ceu_scopes.proofs.scope.+in_code.Given as goal

abbrev pub decreases-in_code : goal.decreases-in_code
decreases-in_code l = length l.scopes.now
