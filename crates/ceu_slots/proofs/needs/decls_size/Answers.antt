use Rattle.std.proofs.Common.{◌≡◌, ◌<◌, length, get_or, ap, sym, add-one, arith}
use Rattle.std.proofs.lemmas.Grind.{common_steps}
use Rattle.ceu_tree.specs.Needs.{decl_size}
use Rattle.ceu_tree.specs.declared.kernel.KDecl.{KDecl}
use Rattle.ceu_slots.proofs.NeedSums.{decls_more}
use Rattle.ceu_slots.proofs.needs.decls_size.Goals as goal

pub loop-decl-preserved : goal.loop-decl-preserved
loop-decl-preserved c =
    let below : c.loop-decl.decl-index < length c.args.decls.now = omega arith in
    let more = decls_more c.args.frames.now c.args.decls.now c.loop-decl.decl-index c.decl-item.result below in
    let here : decl_size c.args.frames.now (get_or c.args.decls.now c.loop-decl.decl-index c.decl-item.result).kind ≡ decl_size c.args.frames.now c.decl-item.result.kind = ap (λ (d : KDecl). decl_size c.args.frames.now d.kind) (sym c.decl-item.is) in
    rw add-one (grind (arith, common_steps, more, here, c.loop-decl.invariant, c.decl_size.ensures, c.saturating_add-size.ensures))
