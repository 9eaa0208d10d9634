use Rattle.std.proofs.Common.{◌≡◌, ◌*◌, ℕ, ap, arith}
use Rattle.ceu_isa.specs.Pools.{place_size, spawn_at, free_place}
use Rattle.ceu_machine.proofs.Lists.{room}
use Rattle.ceu_machine.proofs.spawns.spawn_among.Goals as goal

pub free_place-found-requires-clause-within : goal.free_place-found-requires-clause-within
free_place-found-requires-clause-within c =
    let within = room c.args.image.now c.args.at (c.args.n * place_size c.args.row.now) (spawn_at c.args.image.now c.args.row.now (free_place c.args.n (place_size c.args.row.now) c.args.at c.args.mem.now.bytes) c.args.alias c.args.pos c.args.regs.now c.args.mem.now.bytes) c.requires.right in
    let same : c.args.n * c.place_size.result ≡ c.args.n * place_size c.args.row.now = ap (λ (s : ℕ). c.args.n * s) c.place_size.ensures.value in
    omega (arith, within, same)
