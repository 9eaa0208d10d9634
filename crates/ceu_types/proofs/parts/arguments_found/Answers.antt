use Rattle.std.proofs.Common.{◌≡◌, ◌<◌, length, take, get_or, ap, sym, add-one, arith}
use Rattle.std.proofs.lemmas.Grind.{common_steps}
use Rattle.ceu_types.specs.Uses.{parameter_type}
use Rattle.ceu_types.specs.Expressions.{given}
use Rattle.ceu_types.specs.Statements.{arguments_found}
use Rattle.ceu_types.proofs.Arguments.{arguments_next}
use Rattle.ceu_types.proofs.parts.arguments_found.Goals as goal

pub loop-i-preserved : goal.loop-i-preserved
loop-i-preserved c =
    let below : c.loop-i.i < length c.args.args.now = omega arith in
    let more = arguments_next c.args.scopes.now c.args.code c.args.args.now c.args.found.now c.loop-i.i c.index-args-i.result below in
    let here : given c.args.scopes.now (get_or c.args.args.now c.loop-i.i c.index-args-i.result) (parameter_type c.args.scopes.now c.args.code c.loop-i.i) (arguments_found c.args.scopes.now c.args.code 0 (take c.loop-i.i c.args.args.now) c.args.found.now)
    ≡ given c.args.scopes.now c.index-args-i.result (parameter_type c.args.scopes.now c.args.code c.loop-i.i) (arguments_found c.args.scopes.now c.args.code 0 (take c.loop-i.i c.args.args.now) c.args.found.now)
    = ap (λ e. given c.args.scopes.now e (parameter_type c.args.scopes.now c.args.code c.loop-i.i) (arguments_found c.args.scopes.now c.args.code 0 (take c.loop-i.i c.args.args.now) c.args.found.now)) (sym c.index-args-i.is) in
    rw add-one (grind (arith, common_steps, more, here))
