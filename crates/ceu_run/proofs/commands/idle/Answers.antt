use Rattle.std.proofs.Common.{◌-◌, [], ◌∷◌, ◌++◌, refl, ◌∙◌, subst}
use Rattle.std.proofs.lemmas.Result.{err_from_is_err_and}
use Rattle.ceu_tree.specs.declared.command.Command.TheVariants.{Idle}
use Rattle.ceu_tree.specs.Run as run
use Rattle.ceu_tree.specs.Run.{Waiting, Waits, status_of, world_of}
use Rattle.ceu_run.specs.Printing.{Printed, new_text}
use Rattle.ceu_run.specs.declared.reactor.After.{After}
use Rattle.ceu_run.proofs.Doing.{has_done, one_turn, same_turns, last_turn}
use Rattle.ceu_run.proofs.Idling.{idle_starts, idle_goes_on, idle_ends, idle_fails, idle_rests, waits_again}
use Rattle.ceu_run.proofs.Settled.{not_waiting_settled}
use Rattle.ceu_run.proofs.commands.idle.Goals as goal

pub turns-init : goal.turns-init
turns-init g c = record {
  going = λ K b here waits. idle_starts (g.R.Reactor.stands c.args.reactor.now K) (g.R.Reactor.stands c.args.reactor.now K) K c.args.marks.now.all c.args.marks.now.outputs.now b c.args.turns 0 (g.O.Sink.held c.args.marks.now.out.now) (g.O.Sink.held c.args.marks.now.out.now) (g.O.Sink.held c.args.marks.now.out.now) here waits refl;
  did = λ start xs is. g.met.R.Reactor.no_turns start c.args.reactor.now xs is;
  same = (refl, refl, refl);
  quiet = refl;
  waits = λ inputs w. w;
}

pub returns-then-rests-clause-printed : goal.returns-then-rests-clause-printed
returns-then-rests-clause-printed g c = λ K b here waits.
    let so_far = c.turns.invariant.going K b here waits in
    idle_rests (g.R.Reactor.stands c.turns.reactor K) (g.R.Reactor.stands c.turns.reactor K) K c.args.marks.now.all c.args.marks.now.outputs.now b c.args.turns c.turns.turn (g.O.Sink.held c.args.marks.now.out.now) (g.O.Sink.held c.turns.marks.out.now) (g.O.Sink.held c.turns.marks.out.now)
    (c.args.turns - c.turns.turn) so_far (λ n. c.rests.ensures.turn c.if-rests.true K so_far.config n so_far.here)

pub returns-then-rests-clause-ran : goal.returns-then-rests-clause-ran
returns-then-rests-clause-ran g c = λ K b start xs here waits is.
    let so_far = c.turns.invariant.going K b here waits in
    same_turns (λ ys. g.R.Reactor.ran start ys c.turns.reactor) (g.met.R.Reactor.more_turns start c.turns.reactor) xs c.args.turns c.turns.turn c.turns-test.true
    (λ ys. c.rests.ensures.ran c.if-rests.true K so_far.config start ys so_far.here) (c.turns.invariant.did start xs is)

pub returns-in_err-after-clause-printed : goal.returns-in_err-after-clause-printed
returns-in_err-after-clause-printed g c =
    let p = err_from_is_err_and c.from_residual.result c.from_residual.ensures.1 in
    rw p.1 (λ K b here waits.
    let so_far = c.turns.invariant.going K b here waits in
    idle_fails (g.R.Reactor.stands c.turns.reactor K) (g.R.Reactor.stands c.idle_turn.new.reactor K) K c.args.marks.now.all c.args.marks.now.outputs.now b c.args.turns c.turns.turn (g.O.Sink.held c.args.marks.now.out.now) (g.O.Sink.held c.turns.marks.out.now) (g.O.Sink.held c.idle_turn.new.marks.out.now)
    so_far c.turns-test.true c.turns.marks.all c.turns.marks.outputs.now c.turns.invariant.same.1 c.turns.invariant.same.0 (c.in_err-after.ensures.printed K so_far.config so_far.here))

pub returns-in_default-clause-printed : goal.returns-in_default-clause-printed
returns-in_default-clause-printed g c = λ K b here waits.
    let so_far = c.turns.invariant.going K b here waits in
    let p = c.in_ok-after.ensures.printed K so_far.config so_far.here in
    idle_ends (g.R.Reactor.stands c.turns.reactor K) (g.R.Reactor.stands c.idle_turn.new.reactor K) K c.args.marks.now.all c.args.marks.now.outputs.now b c.args.turns c.turns.turn (g.O.Sink.held c.args.marks.now.out.now) (g.O.Sink.held c.turns.marks.out.now) (g.O.Sink.held c.idle_turn.new.marks.out.now)
    so_far c.turns-test.true c.turns.marks.all c.turns.marks.outputs.now c.turns.invariant.same.1 c.turns.invariant.same.0 c.in_ok-after.after p (not_waiting_settled p.config c.in_ok-after.after p.status c.in_default.not-Waiting)

pub returns-in_default-clause-ran : goal.returns-in_default-clause-ran
returns-in_default-clause-ran g c = λ K b start xs here waits is.
    let so_far = c.turns.invariant.going K b here waits in
    let p = c.in_ok-after.ensures.printed K so_far.config so_far.here in
    last_turn (λ ys. g.R.Reactor.ran start ys c.idle_turn.new.reactor) (g.met.R.Reactor.more_turns start c.idle_turn.new.reactor) xs c.args.turns c.turns.turn c.in_ok-after.after c.turns-test.true c.in_default.not-Waiting
    (has_done (g.R.Reactor.stands c.idle_turn.new.reactor K) (λ ys. g.R.Reactor.ran start ys c.idle_turn.new.reactor) (λ d. g.met.R.Reactor.over K d start c.idle_turn.new.reactor) ((xs ++ Idle c.turns.turn ∷ []) ++ Idle 1 ∷ [])
    p.config c.in_ok-after.after p.here p.status (c.in_ok-after.ensures.ran start (xs ++ Idle c.turns.turn ∷ []) (c.turns.invariant.did start xs is)))

pub turns-preserved : goal.turns-preserved
turns-preserved g c = record {
  going = λ K b here waits.
      let so_far = c.turns.invariant.going K b here waits in
      let p = subst (λ (a : After). Printed (g.R.Reactor.stands c.idle_turn.new.reactor K) (λ n. run.idle_turn K n so_far.config) (λ n. new_text c.turns.marks.all c.turns.marks.outputs.now (world_of so_far.config).marks (run.idle_turn K n so_far.config)) (g.O.Sink.held c.turns.marks.out.now) (g.O.Sink.held c.idle_turn.new.marks.out.now) a) c.in-Waiting.is (c.in_ok-after.ensures.printed K so_far.config so_far.here) in
      idle_goes_on (g.R.Reactor.stands c.turns.reactor K) (g.R.Reactor.stands c.idle_turn.new.reactor K) K c.args.marks.now.all c.args.marks.now.outputs.now b c.args.turns c.turns.turn (g.O.Sink.held c.args.marks.now.out.now) (g.O.Sink.held c.turns.marks.out.now) (g.O.Sink.held c.idle_turn.new.marks.out.now)
      so_far c.turns-test.true c.turns.marks.all c.turns.marks.outputs.now c.turns.invariant.same.1 c.turns.invariant.same.0 p;
  did = λ start xs is. one_turn (λ ys. g.R.Reactor.ran start ys c.idle_turn.new.reactor) (g.met.R.Reactor.more_turns start c.idle_turn.new.reactor) xs c.turns.turn
      (c.in_ok-after.ensures.ran start (xs ++ Idle c.turns.turn ∷ []) (c.turns.invariant.did start xs is));
  same = let k = c.idle_turn.ensures.kept in let s = c.turns.invariant.same in (k.0 ∙ s.0, k.1 ∙ s.1, k.2 ∙ s.2);
  quiet = c.in_ok-after.ensures.cause ∙ c.turns.invariant.quiet;
  waits = λ inputs w.
      let v = c.turns.invariant.waits inputs w in
      let p = subst (λ (a : After). Printed (g.R.Reactor.stands c.idle_turn.new.reactor v.kernel) (λ n. run.idle_turn v.kernel n (Waiting v.tree v.world)) (λ n. new_text c.turns.marks.all c.turns.marks.outputs.now v.world.marks (run.idle_turn v.kernel n (Waiting v.tree v.world))) (g.O.Sink.held c.turns.marks.out.now) (g.O.Sink.held c.idle_turn.new.marks.out.now) a) c.in-Waiting.is (c.in_ok-after.ensures.printed v.kernel (Waiting v.tree v.world) v.here) in
      waits_again (g.R.Reactor.stands c.turns.reactor) (g.R.Reactor.stands c.idle_turn.new.reactor) inputs v p.config p.here p.status;
}
