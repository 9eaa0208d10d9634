use Rattle.std.proofs.Common.{◌≡◌, Some, None}
use Rattle.ceu_compile.proofs.SizeCuts.{computed_limits, computed_memory}
use Rattle.ceu_compile.specs.Sizes.{too_large}
use Rattle.ceu_compile.proofs.sizes.size_of.Goals as goal

pub returns-in-Some : goal.returns-in-Some
returns-in-Some c =
    computed_limits c.args.kernel.now c.depth.result c.in_ok-gates.gates c.in_ok-slots.slots c.weight.result c.memory_of-memory.result
    c.depth.ensures c.in_ok-gates.ensures c.in_ok-slots.ensures c.weight.ensures c.memory_of-memory.ensures (Some c.in-Some.rule) c.in-Some.ensures

pub returns-in-None : goal.returns-in-None
returns-in-None c =
    let e : too_large c.args.kernel.now ≡ None =
    computed_limits c.args.kernel.now c.depth.result c.in_ok-gates.gates c.in_ok-slots.slots c.weight.result c.memory_of-memory.result
    c.depth.ensures c.in_ok-gates.ensures c.in_ok-slots.ensures c.weight.ensures c.memory_of-memory.ensures None c.in-None.ensures in (
      computed_memory c.args.kernel.now c.depth.result c.in_ok-gates.gates c.in_ok-slots.slots c.weight.result c.memory_of-memory.result
          c.depth.ensures c.in_ok-gates.ensures c.in_ok-slots.ensures c.weight.ensures c.memory_of-memory.ensures e,
      e,
    )
