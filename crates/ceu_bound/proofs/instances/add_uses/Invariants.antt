use Rattle.std.proofs.Common.{◌≡◌, ℕ, ◌+◌, ◌*◌, ◌<◌, ◌≤◌, length, take, get_or}
use Rattle.ceu_tree.specs.Greatest.{total}
use Rattle.ceu_paths.specs.Cap.{cap}
use Rattle.ceu_bound.specs.Using.{times_used}
use Rattle.ceu_bound.proofs.instances.add_uses.Given as goal

abbrev pub invariant-loop-code_use : goal.invariant-loop-code_use
invariant-loop-code_use l = (length l.counts.items ≡ length l.initial.counts.items) ×
    ((j : ℕ) → l.below ≤ j → get_or l.counts.items j 0 ≡ get_or l.initial.counts.items j 0) ×
    ((j : ℕ) → j < l.below → j < length l.initial.counts.items → cap (get_or l.counts.items j 0) ≡ cap (get_or l.initial.counts.items j 0 + l.holders * total (times_used j) (take l.code_use-index l.uses)))
