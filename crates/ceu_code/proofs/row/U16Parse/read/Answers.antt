use Rattle.std.proofs.Common.{◌<◌, ◌^◌, ℕ}
use Rattle.std.proofs.lemmas.Result.{IfErr-weaker}
use Rattle.ceu_code.specs.Spelling.{half}
use Rattle.ceu_code.specs.Reading.{IsBetween, Spelled}
use Rattle.ceu_code.proofs.Reading.{refused_as}
use Rattle.ceu_code.proofs.Rows.{half_to, half_from}
use Rattle.ceu_code.proofs.row.U16Parse.read.Goals as goal

pub returns-clause-refused : goal.returns-clause-refused
returns-clause-refused c =
    IfErr-weaker c.read_half.result _ _
    (λ e r. refused_as (IsBetween 2 0 65535) (Spelled (λ (n : ℕ). n < 2 ^ 16) half) (λ n. n) (λ n. n) c.args.bytes.now c.args.at e half_to half_from r)
    c.read_half.ensures.refused
