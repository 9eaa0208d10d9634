use Rattle.std.proofs.Common.{◌≡◌, ◌-◌, ◌+◌, ℕ, Option, None, List, ◌∷◌, if◌then◌else◌, refl, sym, ap, subst, ◌∙◌, arith}
use Rattle.ceu_isa.specs.Layout.{gate_of, gates_from}
use Rattle.ceu_machine.specs.Ordering.{ahead, wants, choice_of}
use Rattle.ceu_machine.proofs.Scans.{scan, SoFar, scan_on, so_far_on, chained_on, range_none, range_next, range_member, picked, nothing_scanned}
use Rattle.ceu_machine.proofs.choosing.pick.Goals as goal

pub consider-best-requires-clause-chained : goal.consider-best-requires-clause-chained
consider-best-requires-clause-chained c = λ t.
    chained_on c.args.image.now c.args.mem.now.bytes c.args.last c.loop-i.best (c.args.from + c.loop-i.i) (gates_from c.args.image.now c.args.mem.now.bytes (wants c.args.wanted) c.args.from c.args.n) (omega arith)
    (range_member c.args.image.now c.args.mem.now.bytes (wants c.args.wanted) c.loop-i.i c.args.from c.args.n (omega arith) t) c.loop-i.invariant.1 c.requires.decided

pub loop-i-preserved : goal.loop-i-preserved
loop-i-preserved c =
    let image = c.args.image.now in
    let bytes = c.args.mem.now.bytes in
    let test = wants c.args.wanted in
    let bef = ahead c.args.image.now c.args.mem.now.bytes c.args.last in
    let g = c.args.from + c.loop-i.i in
    let all = gates_from c.args.image.now c.args.mem.now.bytes (wants c.args.wanted) c.args.from c.args.n in
    let rest = gates_from c.args.image.now c.args.mem.now.bytes (wants c.args.wanted) (c.args.from + (c.loop-i.i + 1)) (c.args.n - (c.loop-i.i + 1)) in
    let hit = wants c.args.wanted (gate_of c.args.image.now c.args.mem.now.bytes (c.args.from + c.loop-i.i)) in
    let next : gates_from c.args.image.now c.args.mem.now.bytes (wants c.args.wanted) (c.args.from + c.loop-i.i) (c.args.n - c.loop-i.i) ≡ (if hit then g ∷ rest else rest) = range_next c.args.image.now c.args.mem.now.bytes (wants c.args.wanted) (c.args.from + c.loop-i.i) (c.args.n - c.loop-i.i) (c.args.from + (c.loop-i.i + 1)) (c.args.n - (c.loop-i.i + 1)) (omega arith) (omega arith) hit refl in (
      ap (λ (b : Option ℕ). scan bef b rest) c.consider-best.ensures ∙ scan_on bef c.loop-i.best g rest hit ∙ ap (λ (l : List ℕ). scan bef c.loop-i.best l) (sym next) ∙ c.loop-i.invariant.0,
      subst (λ (b : Option ℕ). SoFar (c.args.from + (c.loop-i.i + 1)) all b) (sym c.consider-best.ensures)
          (so_far_on bef c.loop-i.best g (c.args.from + (c.loop-i.i + 1)) all hit (omega arith) (λ t. range_member c.args.image.now c.args.mem.now.bytes (wants c.args.wanted) c.loop-i.i c.args.from c.args.n (omega arith) t) c.loop-i.invariant.1),
    )

pub returns-clause-chosen : goal.returns-clause-chosen
returns-clause-chosen c =
    let bef = ahead c.args.image.now c.args.mem.now.bytes c.args.last in
    let test = wants c.args.wanted in
    let none = range_none c.args.image.now c.args.mem.now.bytes (wants c.args.wanted) (c.args.from + c.loop-i.i) (c.args.n - c.loop-i.i) (omega arith) in
    let same : c.loop-i.best ≡ scan bef None (gates_from c.args.image.now c.args.mem.now.bytes (wants c.args.wanted) c.args.from c.args.n) = sym (ap (λ (l : List ℕ). scan bef c.loop-i.best l) none ∙ nothing_scanned bef c.loop-i.best) ∙ c.loop-i.invariant.0 in
    picked c.args.image.now c.args.mem.now.bytes c.args.last (gates_from c.args.image.now c.args.mem.now.bytes (wants c.args.wanted) c.args.from c.args.n) c.requires.decided ∙ ap choice_of (sym same)
