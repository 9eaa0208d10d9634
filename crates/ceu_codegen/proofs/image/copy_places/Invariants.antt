use Rattle.std.proofs.Common.{◌≡◌, ◌++◌, drop}
use Rattle.ceu_codegen.proofs.image.copy_places.Given as goal

abbrev pub invariant-loop-place : goal.invariant-loop-place
invariant-loop-place l = l.places ≡ l.copy ++ drop l.place-index l.places
