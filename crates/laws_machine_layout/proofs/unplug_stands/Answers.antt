use Rattle.laws_machine_layout.proofs.Unplug.{unplug_stands}
use Rattle.laws_machine_layout.proofs.unplug_stands.Goals as goal

pub returns : goal.returns
returns c = λ t home v f body low high q live x. unplug_stands t home v f body low high q live x
