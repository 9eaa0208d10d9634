use Rattle.std.proofs.Common.{◌≡◌, ◌+◌, drop, length}
use Rattle.ceu_shape.specs.Shape.{pools_gates}
use Rattle.ceu_codegen.specs.Conditions.{PoolsFit, planned}
use Rattle.ceu_codegen.proofs.own.pools_gates.Given as goal

abbrev pub invariant-loop-decl : goal.invariant-loop-decl
invariant-loop-decl g l =
    let p = g.P.Places.planned l.places in
    record {
      count : pools_gates (planned p l.gates) l.kernel l.decls ≡ l.count + pools_gates (planned p l.gates) l.kernel (drop l.decl-index l.decls);
      fits : PoolsFit p.slot_count (length l.gates.count) l.kernel (drop l.decl-index l.decls);
    }
