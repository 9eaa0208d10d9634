use Rattle.std.proofs.Common.{arith}
use Rattle.ceu_code.specs.Text.{prefix_names}
use Rattle.ceu_code.proofs.Shown.{name_past}
use Rattle.ceu_code.proofs.listing.prefix_name.Goals as goal

pub returns-in_default-clause-name : goal.returns-in_default-clause-name
returns-in_default-clause-name c = name_past prefix_names c.args.number (omega arith)
