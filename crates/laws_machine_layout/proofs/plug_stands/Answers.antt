use Rattle.laws_machine_layout.proofs.Plug.{plug_stands}
use Rattle.laws_machine_layout.proofs.plug_stands.Goals as goal

pub returns : goal.returns
returns c = λ t home v f body low high q d x y. plug_stands t home v f body low high d q x y
