use Rattle.std.proofs.Common.{◌≡◌, ◌≤◌, ◌<◌, ◌+◌, length, ◌∙◌, subst, arith}
use Rattle.std.specs.Prelude.{IsSome}
use Rattle.std.proofs.lemmas.Bool.Decides.{nat_tests}
use Rattle.ceu_mem.specs.Memory.{size}
use Rattle.ceu_isa.specs.Layout.{end_of}
use Rattle.ceu_isa.specs.Pools.{filled, filled_by}
use Rattle.ceu_machine.proofs.Lists.{filled_none, filled_step, first_there, second_there, second_is, params_near, first_type, later_types}
use Rattle.ceu_machine.proofs.frames.+fill.Goals as goal

pub returns-then-is_empty-clause-filled : goal.returns-then-is_empty-clause-filled
returns-then-is_empty-clause-filled t c =
    let none : length c.args.params.now ≡ 0 = grind (arith, nat_tests) in
    filled_none c.args.image.now c.args.params.now c.args.at c.args.regs.now c.args.mem.now.bytes none

pub overflow_add-at : goal.overflow_add-at
overflow_add-at t c =
    let some : 0 < length c.args.params.now = grind (arith, nat_tests) in
    let near : c.args.at + size (first_type c.args.params.now) ≤ end_of c.args.image.now = params_near c.args.image.now c.args.params.now c.args.at c.args.regs.now c.args.mem.now.bytes some c.requires.there in
    omega (arith, near, c.requires.made.fits.memory, c.from.ensures, c.size.ensures.value)

pub fill-requires : goal.fill-requires
fill-requires t c =
    let some : 0 < length c.args.params.now = grind (arith, nat_tests) in
    let next : c.args.at + c.from.result ≡ c.args.at + size (first_type c.args.params.now) = omega (arith, c.from.ensures, c.size.ensures.value) in
    let step = filled_step c.args.image.now c.args.params.now c.args.at (c.args.at + c.from.result) c.args.regs.now c.args.mem.now.bytes some next in
    (grind (arith, nat_tests, some), (c.requires.made, first_there (filled_by c.args.image.now (first_type c.args.params.now) c.args.at) (filled c.args.image.now (later_types c.args.params.now) (c.args.at + c.from.result) c.args.regs.now c.args.mem.now.bytes) (subst IsSome step c.requires.there)))

pub fill_one-requires-clause-there : goal.fill_one-requires-clause-there
fill_one-requires-clause-there t c =
    let some : 0 < length c.args.params.now = grind (arith, nat_tests) in
    let next : c.args.at + c.from.result ≡ c.args.at + size (first_type c.args.params.now) = omega (arith, c.from.ensures, c.size.ensures.value) in
    let step = filled_step c.args.image.now c.args.params.now c.args.at (c.args.at + c.from.result) c.args.regs.now c.args.mem.now.bytes some next in
    second_there (filled_by c.args.image.now (first_type c.args.params.now) c.args.at) (filled c.args.image.now (later_types c.args.params.now) (c.args.at + c.from.result) c.args.regs.now c.args.mem.now.bytes) (record { registers = c.fill.new.regs; bytes = c.fill.new.mem.bytes }) c.fill.ensures.filled (subst IsSome step c.requires.there)

pub returns-clause-filled : goal.returns-clause-filled
returns-clause-filled t c =
    let some : 0 < length c.args.params.now = grind (arith, nat_tests) in
    let next : c.args.at + c.from.result ≡ c.args.at + size (first_type c.args.params.now) = omega (arith, c.from.ensures, c.size.ensures.value) in
    filled_step c.args.image.now c.args.params.now c.args.at (c.args.at + c.from.result) c.args.regs.now c.args.mem.now.bytes some next
    ∙ second_is (filled_by c.args.image.now (first_type c.args.params.now) c.args.at) (filled c.args.image.now (later_types c.args.params.now) (c.args.at + c.from.result) c.args.regs.now c.args.mem.now.bytes) (record { registers = c.fill.new.regs; bytes = c.fill.new.mem.bytes }) _ c.fill.ensures.filled c.fill_one.ensures.filled
