use Rattle.std.proofs.Common.{◌≡◌, ◌+◌, ◌-◌, List, length}
use Rattle.ceu_io.specs.Told.{WhereTold}
use Rattle.ceu_script.specs.Lines.{script}
use Rattle.ceu_script.specs.Places.{IsAt}
use Rattle.ceu_script.specs.Reader.{GoesOn, ahead, position, budget}
use Rattle.ceu_tree.specs.declared.command.Command.{Command}
use Rattle.ceu_tree.specs.declared.kernel.Kernel.{Kernel}
use Rattle.ceu_tree.specs.Run.{Config, Waits, status_of}
use Rattle.ceu_run.specs.Reactions.{IsWaiting}
use Rattle.ceu_run.specs.Playing.{script_of}
use Rattle.ceu_run.proofs.Doing.{Did}
use Rattle.ceu_run.proofs.Following.{Reached}
use Rattle.ceu_run.proofs.follow.follow.Given as goal

abbrev pub invariant-lines : goal.invariant-lines
invariant-lines g l = record {
  going : (K : Kernel) (c : Config) → g.R.Reactor.stands l.fn.reactor K c → status_of c ≡ Waits
      → WhereTold (g.I.Source.left l.fn.source) (g.I.Source.left l.source) (λ old now. Reached (g.R.Reactor.stands l.reactor K) K c l.fn.marks.all l.fn.marks.outputs.now (script l.fn.inputs (script_of old)) (script l.fn.inputs (ahead l.reader now)) l.reader.last.lines (g.O.Sink.held l.fn.marks.out.now) (g.O.Sink.held l.marks.out.now));
  did : (K : Kernel) (c : Config) (start : _) (xs : List Command) → g.R.Reactor.stands l.fn.reactor K c → status_of c ≡ Waits → g.R.Reactor.ran start xs l.fn.reactor
      → WhereTold (g.I.Source.left l.fn.source) (g.I.Source.left l.source) (λ old now. Did (λ ys. g.R.Reactor.ran start ys l.reactor) xs (script l.fn.inputs (script_of old)) (script l.fn.inputs (ahead l.reader now)));
  at : WhereTold (g.I.Source.left l.fn.source) (g.I.Source.left l.source) (λ old now. IsAt (script_of old).bytes l.reader (ahead l.reader now));
  moved : WhereTold (g.I.Source.left l.fn.source) (g.I.Source.left l.source) (λ old now. l.reader.taken + length now ≡ length old);
  goes_on : GoesOn l.reader;
  waits : IsWaiting (g.R.Reactor.stands l.reactor) l.fn.inputs;
  same : (l.marks.outputs.now ≡ l.fn.marks.outputs.now) × (l.marks.all ≡ l.fn.marks.all) × (l.marks.out.ghost_name ≡ l.fn.marks.out.ghost_name);
  source_quiet : g.I.Source.faults l.source ≡ g.I.Source.faults l.fn.source;
  sink_quiet : g.O.Sink.faults l.marks.out.now ≡ g.O.Sink.faults l.fn.marks.out.now;
}

abbrev pub decreases-lines : goal.decreases-lines
decreases-lines g l = budget - position l.reader
