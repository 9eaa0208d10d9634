use Rattle.std.proofs.Common.{◌≡◌, ◌++◌, map, drop}
use Rattle.ceu_shape.specs.Shape.{param_ty}
use Rattle.ceu_codegen.proofs.image.param_tys.Given as goal

abbrev pub invariant-loop-param : goal.invariant-loop-param
invariant-loop-param l = map param_ty l.params ≡ l.tys ++ map param_ty (drop l.param-index l.params)
