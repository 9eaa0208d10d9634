use Rattle.ceu_follows.proofs.Together.{without_marks}
use Rattle.ceu_follows.proofs.marks_are_no_part.Goals as goal

pub returns : goal.returns
returns g = λ image P width K c bytes ms ns agrees. without_marks image P width K c bytes ms ns agrees
