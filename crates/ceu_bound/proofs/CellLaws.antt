-- Depths of a list with one more code.
use Rattle.std.proofs.Common.{◌≡◌, ℕ, zero, suc, ◌<◌, max, List, [], ◌∷◌, length, take, get_or, arith}
use Rattle.ceu_tree.specs.declared.kernel.KCode.{KCode}
use Rattle.ceu_tree.specs.Depth.{codes_depth, block_depth}
use Rattle.ceu_tree.proofs.Depths.{greatest_more}

pub codes_more : (cs : List KCode) (i : ℕ) (d : KCode) → i < length cs → codes_depth (take (suc i) cs) ≡ max (codes_depth (take i cs)) (block_depth (get_or cs i d).body)
codes_more [] i d h = absurd (omega arith)
codes_more (c ∷ cs) zero d h = grind arith
codes_more (c ∷ cs) (suc i) d h = let ih : codes_depth (take (suc i) cs) ≡ max (codes_depth (take i cs)) (block_depth (get_or cs i d).body) = codes_more cs i d (omega arith) in grind (arith, ih)

pub ruleset cells = (greatest_more, codes_more)
