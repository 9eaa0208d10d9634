use Rattle.std.proofs.Common.{◌≡◌, ◌+◌, ◌<◌, ◌≤◌, ◌∷◌, ◌++◌, [], length, drop, ap, arith}
use Rattle.ceu_tree.specs.Needs.{decl_size, decls_size}
use Rattle.ceu_slots.specs.Layout.{place, decl_places}
use Rattle.ceu_slots.proofs.Walks.{next_item, goes_on}
use Rattle.ceu_slots.proofs.layout.place_decls.Goals as goal

pub loop-decl-preserved : goal.loop-decl-preserved
loop-decl-preserved c =
    let frames = c.args.frames.now in
    let below : c.loop-decl.decl-index < length c.args.decls.now = omega arith in
    let next = next_item c.args.decls.now c.loop-decl.decl-index c.decl-item.result c.decl-item.is below in
    let rest = drop (c.loop-decl.decl-index + 1) c.args.decls.now in
    let size = decl_size frames c.decl-item.result.kind in
    let here : decls_size frames (drop c.loop-decl.decl-index c.args.decls.now) ≡ size + decls_size frames rest = ap (decls_size frames) next in
    let small : c.args.at + (c.loop-decl.size + (size + decls_size frames rest)) ≤ 65535 = omega (arith, here, c.loop-decl.invariant.size, c.requires) in
    let own : c.decl_size-own.result ≡ size = grind (arith, small, c.decl_size-own.ensures) in
    let start : c.saturating_add.result ≡ c.args.at + c.loop-decl.size = grind (arith, small, c.saturating_add.ensures) in
    let sum : c.saturating_add-size.result ≡ c.loop-decl.size + size = grind (arith, small, own, c.saturating_add-size.ensures) in
    let later : c.args.at + c.saturating_add-size.result ≡ c.args.at + c.loop-decl.size + size = omega (arith, sum) in
    let step = c.in_ok-push.ensures.items in
    record {
      size = omega (arith, here, sum, c.loop-decl.invariant.size);
      rows = rw later (goes_on (c.args.rows.now.items ++ decl_places frames c.args.at c.args.decls.now) c.loop-decl.rows.items c.push.new.self.items (place c.decl-item.result.slot (c.args.at + c.loop-decl.size) size ∷ [])
          (decl_places frames (c.args.at + c.loop-decl.size + size) rest) (decl_places frames (c.args.at + c.loop-decl.size) (drop c.loop-decl.decl-index c.args.decls.now)) (ap (decl_places frames (c.args.at + c.loop-decl.size)) next) c.loop-decl.invariant.rows
          (rw (start, own, c.from.ensures) at step));
    }
