use Rattle.std.proofs.Common.{◌<◌, length, add-one, arith}
use Rattle.std.proofs.lemmas.Grind.{common_steps}
use Rattle.ceu_types.proofs.Arguments.{passed_next}
use Rattle.ceu_types.proofs.parts.uses_passed.Goals as goal

pub loop-passed-preserved : goal.loop-passed-preserved
loop-passed-preserved c =
    let below : c.loop-passed.passed < length c.args.listed.now = omega arith in
    let more = passed_next c.args.scopes.now c.args.found.now c.args.listed.now c.loop-passed.passed below in
    record { within = omega arith; found = rw add-one (grind (arith, common_steps, more)) }
