use Rattle.std.proofs.Common.{◌≡◌, ◌+◌, ◌++◌, ◌≤◌, drop, length}
use Rattle.ceu_shape.specs.Shape.{pools_gates, pool_lines}
use Rattle.ceu_codegen.specs.Conditions.{PoolsFit, planned}
use Rattle.ceu_codegen.proofs.own.add_pools.Given as goal

abbrev pub invariant-loop-decl : goal.invariant-loop-decl
invariant-loop-decl g l =
    let p = g.P.Places.planned l.places in
    let plan = planned p l.gates in
    record {
      lines : record l.initial.sheet { lines = l.initial.sheet.lines ++ pool_lines plan l.kernel l.first l.decls } ≡ record l.sheet { lines = l.sheet.lines ++ pool_lines plan l.kernel l.at (drop l.decl-index l.decls) };
      fits : PoolsFit p.slot_count (length l.gates.count) l.kernel (drop l.decl-index l.decls);
      few : l.at + pools_gates plan l.kernel (drop l.decl-index l.decls) ≤ 65535;
    }
