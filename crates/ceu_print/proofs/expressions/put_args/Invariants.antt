use Rattle.std.proofs.Common.{◌≡◌, ◌++◌, length, map, codes}
use Rattle.std.specs.Prelude.{string_bytes}
use Rattle.ceu_print.specs.Lists.{each_after}
use Rattle.ceu_print.specs.Expressions.{exp_text}
use Rattle.ceu_print.proofs.expressions.put_args.Given as goal

abbrev pub invariant-loop-rest : goal.invariant-loop-rest
invariant-loop-rest l = string_bytes l.out ++ each_after (codes ", ") (map exp_text l.rest) ≡ string_bytes l.initial.out ++ each_after (codes ", ") (map exp_text l.initial.rest)

abbrev pub decreases-loop-rest : goal.decreases-loop-rest
decreases-loop-rest l = length l.rest
