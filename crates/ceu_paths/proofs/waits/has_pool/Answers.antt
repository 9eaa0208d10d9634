use Rattle.std.proofs.Common.{◌≡◌, ◌∙◌, ◌<◌, ◌||◌, false, length, get_or, ap, sym, add-one, arith}
use Rattle.ceu_tree.specs.declared.kernel.KDecl.{KDecl}
use Rattle.ceu_paths.specs.Pools.{is_pool}
use Rattle.ceu_paths.proofs.PoolLaws.{pool_more}
use Rattle.ceu_paths.proofs.waits.has_pool.Goals as goal

pub loop-decl-preserved : goal.loop-decl-preserved
loop-decl-preserved c =
    let below : c.loop-decl.decl-index < length c.args.decls.now = omega arith in
    let more = pool_more c.args.decls.now c.loop-decl.decl-index c.decl-item.result below in
    let here = ap (λ (d : KDecl). is_pool d.kind) (sym c.decl-item.is) in
    let none : is_pool (get_or c.args.decls.now c.loop-decl.decl-index c.decl-item.result).kind ≡ false = cc (here, c.is_pool.ensures) in
    rw add-one (more ∙ ap (λ k. k || is_pool (get_or c.args.decls.now c.loop-decl.decl-index c.decl-item.result).kind) c.loop-decl.invariant ∙ none)
