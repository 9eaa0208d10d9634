-- The type of a port that a list has.
use Rattle.std.proofs.Common.{◌≡◌, ℕ, zero, suc, ◌<◌, List, [], ◌∷◌, length, get_or, refl, arith}
use Rattle.ceu_base.specs.declared.kinds.Port.{Port}
use Rattle.ceu_script.specs.Shapes.{type_at}

pub type_at-get_or : (inputs : List Port) (event : ℕ) (port : Port) → event < length inputs → (get_or inputs event port).ty ≡ type_at inputs event
type_at-get_or [] event port here = absurd (omega arith)
type_at-get_or (p ∷ inputs) zero port here = refl
type_at-get_or (p ∷ inputs) (suc event) port here = type_at-get_or inputs event port (omega arith)
