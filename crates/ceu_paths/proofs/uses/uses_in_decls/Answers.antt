use Rattle.std.proofs.Common.{◌<◌, length, take, ap, sym, append_assoc, add-one, arith}
use Rattle.ceu_paths.specs.Uses.{decl_uses}
use Rattle.ceu_paths.specs.Joined.{joined}
use Rattle.ceu_paths.proofs.Lists.{joined_more}
use Rattle.ceu_paths.proofs.uses.uses_in_decls.Goals as goal

pub loop-decl-preserved : goal.loop-decl-preserved
loop-decl-preserved c =
    let below : c.loop-decl.decl-index < length c.args.decls.now = omega arith in
    let more = joined_more decl_uses c.args.decls.now c.loop-decl.decl-index c.decl-item.result below in
    let here = ap decl_uses (sym c.decl-item.is) in
    let assoc = append_assoc c.args.found.now.items (joined decl_uses (take c.loop-decl.decl-index c.args.decls.now)) (decl_uses c.decl-item.result) in
    rw add-one (cc (more, here, assoc, c.loop-decl.invariant, c.in_ok-uses_in_kind.ensures))
