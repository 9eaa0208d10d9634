use Rattle.std.proofs.Common.{◌≡◌, arith}
use Rattle.std.proofs.lemmas.Result.{IfErr-weaker}
use Rattle.ceu_code.proofs.Rows.{unique_half}
use Rattle.ceu_code.proofs.Listed.{pools_refused}
use Rattle.ceu_code.proofs.decoder.read_pools.Goals as goal

pub read_counted-requires-clause-unique : goal.read_counted-requires-clause-unique
read_counted-requires-clause-unique c = unique_half

pub returns-clause-refused : goal.returns-clause-refused
returns-clause-refused c =
    let two : c.args.version ≡ 2 = grind arith in
    IfErr-weaker c.read_counted.result _ _ (λ e r. pools_refused c.args.version c.args.bytes.now c.args.at e two r) c.read_counted.ensures.refused
