use Rattle.laws_machine_code.proofs.Decoded.{fetches_spelled}
use Rattle.laws_machine_code.proofs.fetches_spelled.Goals as goal

pub returns : goal.returns
returns c = fetches_spelled
