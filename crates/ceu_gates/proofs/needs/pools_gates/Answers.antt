use Rattle.std.proofs.Common.{◌≡◌, ◌<◌, length, get_or, ap, sym, add-one, arith}
use Rattle.std.proofs.lemmas.Grind.{common_steps}
use Rattle.ceu_tree.specs.Needs.{pool_gates}
use Rattle.ceu_tree.specs.declared.kernel.KDecl.{KDecl}
use Rattle.ceu_gates.proofs.GateSums.{pools_more}
use Rattle.ceu_gates.proofs.needs.pools_gates.Goals as goal

pub loop-decl-preserved : goal.loop-decl-preserved
loop-decl-preserved c =
    let below : c.loop-decl.decl-index < length c.args.decls.now = omega arith in
    let more = pools_more c.args.gates.now c.args.decls.now c.loop-decl.decl-index c.decl-item.result below in
    let here : pool_gates c.args.gates.now (get_or c.args.decls.now c.loop-decl.decl-index c.decl-item.result).kind ≡ pool_gates c.args.gates.now c.decl-item.result.kind = ap (λ (d : KDecl). pool_gates c.args.gates.now d.kind) (sym c.decl-item.is) in
    rw add-one (grind (arith, common_steps, more, here, c.loop-decl.invariant, c.pool_gates.ensures, c.saturating_add-count.ensures))
