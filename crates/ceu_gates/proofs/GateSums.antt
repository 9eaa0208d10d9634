-- Gates of a list with one more item.
use Rattle.std.proofs.Common.{◌≡◌, ℕ, zero, suc, ◌+◌, ◌<◌, List, [], ◌∷◌, length, take, get_or, arith}
use Rattle.ceu_tree.specs.declared.kernel.KDecl.{KDecl}
use Rattle.ceu_tree.specs.Needs.{pools_gates, pool_gates}
use Rattle.ceu_tree.proofs.TableLaws.{total_more}
use Rattle.ceu_tree.proofs.Depths.{greatest_more}

pub pools_more : (gates : List ℕ) (ds : List KDecl) (i : ℕ) (d : KDecl) → i < length ds → pools_gates gates (take (suc i) ds) ≡ pools_gates gates (take i ds) + pool_gates gates (get_or ds i d).kind
pools_more gates [] i d h = absurd (omega arith)
pools_more gates (x ∷ xs) zero d h = omega arith
pools_more gates (x ∷ xs) (suc i) d h = let ih : pools_gates gates (take (suc i) xs) ≡ pools_gates gates (take i xs) + pool_gates gates (get_or xs i d).kind = pools_more gates xs i d (omega arith) in omega arith

pub ruleset sums = (total_more, greatest_more, pools_more)
