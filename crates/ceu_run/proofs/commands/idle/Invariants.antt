use Rattle.std.proofs.Common.{◌≡◌, ◌-◌, List, [], ◌∷◌, ◌++◌}
use Rattle.ceu_base.specs.declared.kinds.Port.{Port}
use Rattle.ceu_tree.specs.declared.command.Command.{Command}
use Rattle.ceu_tree.specs.declared.command.Command.TheVariants.{Idle}
use Rattle.ceu_tree.specs.declared.kernel.Kernel.{Kernel}
use Rattle.ceu_tree.specs.Run.{Config, Waits, status_of, idle_turns}
use Rattle.ceu_run.specs.Reactions.{IsWaiting}
use Rattle.ceu_run.specs.Printing.{turns_text}
use Rattle.ceu_run.proofs.Going.{Going}
use Rattle.ceu_run.proofs.commands.idle.Given as goal

abbrev pub invariant-turns : goal.invariant-turns
invariant-turns g l = record {
  going : (K : Kernel) (c : Config) → g.R.Reactor.stands l.fn.reactor K c → status_of c ≡ Waits
      → Going (g.R.Reactor.stands l.reactor K) (λ n. idle_turns K n l.fn.turns c) (λ n d. idle_turns K n (l.fn.turns - l.turn) d)
      (λ n. turns_text l.fn.marks.all l.fn.marks.outputs.now K n l.fn.turns c) (λ n d. turns_text l.fn.marks.all l.fn.marks.outputs.now K n (l.fn.turns - l.turn) d) (g.O.Sink.held l.fn.marks.out.now) (g.O.Sink.held l.marks.out.now);
  did : (start : _) (xs : List Command) → g.R.Reactor.ran start xs l.fn.reactor → g.R.Reactor.ran start (xs ++ Idle l.turn ∷ []) l.reactor;
  same : (l.marks.outputs.now ≡ l.fn.marks.outputs.now) × (l.marks.all ≡ l.fn.marks.all) × (l.marks.out.ghost_name ≡ l.fn.marks.out.ghost_name);
  quiet : g.O.Sink.faults l.marks.out.now ≡ g.O.Sink.faults l.fn.marks.out.now;
  waits : (inputs : List Port) → IsWaiting (g.R.Reactor.stands l.fn.reactor) inputs → IsWaiting (g.R.Reactor.stands l.reactor) inputs;
}
