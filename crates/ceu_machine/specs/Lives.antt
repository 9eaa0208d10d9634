-- Whether an instance lives, as the program's answer and as the definition's.
use Rattle.ceu_machine.specs.declared.pools.Life.{Life}
use Rattle.ceu_machine.specs.declared.pools.Life.TheVariants as answer
use Rattle.ceu_isa.specs.Pools as isa

abbrev pub life_of : Life → isa.Life
life_of answer.Over = isa.Over
life_of (answer.Lives place from count) = isa.Lives place from count

abbrev pub IsClear : isa.Life → Type 0
IsClear isa.Unclear = ⊥
IsClear _ = Unit {0}
