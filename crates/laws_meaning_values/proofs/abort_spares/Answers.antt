use Rattle.laws_meaning_values.proofs.Spares.{aborted_spares}
use Rattle.laws_meaning_values.proofs.abort_spares.Goals as goal

pub returns : goal.returns
returns c = λ K top d r here g w body slot p h on o e. aborted_spares K p body slot h here g w on o e
