use Rattle.std.proofs.Common.{◌≡◌, ◌<◌, ℕ, Option, sym, subst, ◌∙◌, arith}
use Rattle.ceu_isa.specs.Pools.{outer_frame}
use Rattle.ceu_machine.proofs.Chains.{Walks, Walked, met, first_step, second_step, first_walks, second_walks}
use Rattle.ceu_machine.proofs.order.earlier.Goals as goal

pub outwards-next-requires-clause-within : goal.outwards-next-requires-clause-within
outwards-next-requires-clause-within c = (first_step _ _ _ _ _ _ _ _ c.if-b-a.true c.loop-a.invariant).within

pub loop-a-smaller-then-b-a : goal.loop-a-smaller-then-b-a
loop-a-smaller-then-b-a c =
    let down = (first_step c.args.image.now c.args.mem.now.bytes c.args.f c.args.g c.loop-a.a c.loop-a.b c.loop-a.p c.loop-a.q c.if-b-a.true c.loop-a.invariant).lower in
    omega (arith, down, c.outwards-next.ensures.frame)

pub loop-a-preserved-then-b-a : goal.loop-a-preserved-then-b-a
loop-a-preserved-then-b-a c =
    subst (λ (n : ℕ). Walks c.args.image.now c.args.mem.now.bytes c.args.f c.args.g n c.loop-a.b c.outwards-next.result.last c.loop-a.q) (sym c.outwards-next.ensures.frame)
    (subst (λ (o : Option ℕ). Walks c.args.image.now c.args.mem.now.bytes c.args.f c.args.g (outer_frame c.args.mem.now.bytes c.loop-a.a) c.loop-a.b o c.loop-a.q) (sym c.outwards-next.ensures.last)
    (first_walks _ _ _ _ _ _ _ _ c.if-b-a.true c.loop-a.invariant))

pub outwards-next-requires-else-b-a-clause-within : goal.outwards-next-requires-else-b-a-clause-within
outwards-next-requires-else-b-a-clause-within c =
    let lt : c.loop-a.a < c.loop-a.b = omega arith in
    (second_step _ _ _ _ _ _ _ _ lt c.loop-a.invariant).within

pub loop-a-smaller : goal.loop-a-smaller
loop-a-smaller c =
    let lt : c.loop-a.a < c.loop-a.b = omega arith in
    let down = (second_step c.args.image.now c.args.mem.now.bytes c.args.f c.args.g c.loop-a.a c.loop-a.b c.loop-a.p c.loop-a.q lt c.loop-a.invariant).lower in
    omega (arith, down, c.outwards-next-else-b-a.ensures.frame)

pub loop-a-preserved : goal.loop-a-preserved
loop-a-preserved c =
    let lt : c.loop-a.a < c.loop-a.b = omega arith in
    subst (λ (n : ℕ). Walks c.args.image.now c.args.mem.now.bytes c.args.f c.args.g c.loop-a.a n c.loop-a.p c.outwards-next-else-b-a.result.last) (sym c.outwards-next-else-b-a.ensures.frame)
    (subst (λ (o : Option ℕ). Walks c.args.image.now c.args.mem.now.bytes c.args.f c.args.g c.loop-a.a (outer_frame c.args.mem.now.bytes c.loop-a.b) c.loop-a.p o) (sym c.outwards-next-else-b-a.ensures.last)
    (second_walks _ _ _ _ _ _ _ _ lt c.loop-a.invariant))

pub returns : goal.returns
returns c = λ xs ys e d.
    let same : c.loop-a.b ≡ c.loop-a.a = omega arith in
    let second : Walked c.args.image.now c.args.mem.now.bytes c.args.g c.loop-a.a c.loop-a.q = subst (λ (n : ℕ). Walked c.args.image.now c.args.mem.now.bytes c.args.g n c.loop-a.q) same c.loop-a.invariant.second in
    c.decide.ensures ∙ sym (met c.args.image.now c.args.mem.now.bytes c.args.f c.args.g c.loop-a.a c.loop-a.p c.loop-a.q c.args.lower c.loop-a.invariant.first second c.loop-a.invariant.apart xs ys e d)
