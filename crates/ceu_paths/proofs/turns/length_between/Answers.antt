use Rattle.std.proofs.Common.{◌∙◌, ap, sym, arith}
use Rattle.std.proofs.lemmas.Int.{ints}
use Rattle.ceu_paths.specs.Cap.{cap}
use Rattle.ceu_paths.proofs.TurnLaws.{length_at}
use Rattle.ceu_paths.proofs.turns.length_between.Goals as goal

pub returns : goal.returns
returns c = c.shortened.ensures ∙ ap cap (sym (length_at c.args.a c.args.b c.args.open_a c.args.open_b _ (omega (arith, ints, c.in-Some.ensures))))
