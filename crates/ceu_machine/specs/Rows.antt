-- Parts of rows that have a function of their own.
use Rattle.std.specs.Prelude.{ℕ, ℤ, List}
use Rattle.ceu_base.specs.declared.kinds.Ty.{Ty}
use Rattle.ceu_base.specs.declared.kinds.Op2.{Op2}
use Rattle.ceu_base.specs.declared.kinds.Pos.{Pos}
use Rattle.ceu_base.specs.Values.{takes2, applied2}
use Rattle.ceu_code.specs.declared.image.Image.{Image}
use Rattle.ceu_isa.specs.declared.registers.Registers.{Registers}
use Rattle.ceu_isa.specs.Effects.{Effect, provided, for_some}
use Rattle.ceu_isa.specs.Cells.{popped, answered}

-- an operator, once its right operand is popped
abbrev pub left_row : Image → Op2 → Ty → Pos → ℤ → Registers → List ℕ → Effect
left_row image o t p right r bytes =
    for_some (popped image t r bytes) (λ a. provided (takes2 o t) (answered image p (applied2 o t a.value right) a.registers bytes))
