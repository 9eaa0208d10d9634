use Rattle.std.proofs.Common.{◌≡◌, ℤ, [], ◌∷◌, ◌++◌, IfOk, subst, sym, rules}
use Rattle.std.proofs.lemmas.Int.{to_z-of_z}
use mir.Val.{to_z, of_z, SFits}
use mir.Syntax.{w128}
use Rattle.ceu_tree.specs.declared.command.Command.{Command}
use Rattle.ceu_tree.specs.declared.command.Command.TheVariants.{Input, Advance}
use Rattle.ceu_tree.specs.Run as run
use Rattle.ceu_tree.specs.Run.{Waiting, world_of}
use Rattle.ceu_run.specs.Doing.{HasDone}
use Rattle.ceu_run.specs.Printing.{Prints, command_text, new_text}
use Rattle.ceu_run.proofs.Doing.{prints_done}
use Rattle.ceu_run.proofs.Idling.{still_waits}
use Rattle.ceu_run.proofs.Commanding.{input_prints, idle_prints}
use Rattle.ceu_run.proofs.commands.command.Goals as goal

pub returns-in-Input-clause-printed : goal.returns-in-Input-clause-printed
returns-in-Input-clause-printed g c = λ K b here waits.
    let fits : SFits w128 c.in-Input.value = search rules in
    let v = to_z w128 (of_z w128 c.in-Input.value) in
    let same : v ≡ c.in-Input.value = to_z-of_z w128 c.in-Input.value fits in
    subst (λ (x : Command). Prints (g.R.Reactor.stands c.input.new.reactor K) (λ n. run.done K n x b) (λ n. command_text c.args.marks.now.all c.args.marks.now.outputs.now K n x b) (g.O.Sink.held c.args.marks.now.out.now) (g.O.Sink.held c.input.new.marks.out.now) c.input.result) (sym c.in-Input.is)
    (subst (λ (u : ℤ). Prints (g.R.Reactor.stands c.input.new.reactor K) (λ n. run.done K n (Input c.in-Input.event u) b) (λ n. command_text c.args.marks.now.all c.args.marks.now.outputs.now K n (Input c.in-Input.event u) b) (g.O.Sink.held c.args.marks.now.out.now) (g.O.Sink.held c.input.new.marks.out.now) c.input.result) same
    (input_prints (g.R.Reactor.stands c.input.new.reactor K) K c.args.marks.now.all c.args.marks.now.outputs.now b c.in-Input.event v (g.O.Sink.held c.args.marks.now.out.now) (g.O.Sink.held c.input.new.marks.out.now) c.input.result (c.input.ensures.printed K b here)))

pub returns-in-Input-clause-ran : goal.returns-in-Input-clause-ran
returns-in-Input-clause-ran g c = λ K b start xs here waits is.
    let fits : SFits w128 c.in-Input.value = search rules in
    let v = to_z w128 (of_z w128 c.in-Input.value) in
    let same : v ≡ c.in-Input.value = to_z-of_z w128 c.in-Input.value fits in
    subst (λ (x : Command). IfOk c.input.result (HasDone (λ ys. g.R.Reactor.ran start ys c.input.new.reactor) (xs ++ x ∷ []))) (sym c.in-Input.is)
    (subst (λ (u : ℤ). IfOk c.input.result (HasDone (λ ys. g.R.Reactor.ran start ys c.input.new.reactor) (xs ++ Input c.in-Input.event u ∷ []))) same
    (prints_done (g.R.Reactor.stands c.input.new.reactor K) (λ ys. g.R.Reactor.ran start ys c.input.new.reactor) (λ d. g.met.R.Reactor.over K d start c.input.new.reactor) (λ n. run.input K n c.in-Input.event v b)
    (λ n. new_text c.args.marks.now.all c.args.marks.now.outputs.now (world_of b).marks (run.input K n c.in-Input.event v b)) (g.O.Sink.held c.args.marks.now.out.now) (g.O.Sink.held c.input.new.marks.out.now)
    (xs ++ Input c.in-Input.event v ∷ []) c.input.result (c.input.ensures.printed K b here) (c.input.ensures.ran start xs is)))

pub returns-in-Input-clause-waits : goal.returns-in-Input-clause-waits
returns-in-Input-clause-waits g c = still_waits (g.R.Reactor.stands c.args.reactor.now) (g.R.Reactor.stands c.input.new.reactor) (λ K n b. run.input K n c.in-Input.event (to_z w128 (of_z w128 c.in-Input.value)) b)
    (λ K n b. new_text c.args.marks.now.all c.args.marks.now.outputs.now (world_of b).marks (run.input K n c.in-Input.event (to_z w128 (of_z w128 c.in-Input.value)) b)) (g.O.Sink.held c.args.marks.now.out.now) (g.O.Sink.held c.input.new.marks.out.now) c.input.result c.input.ensures.printed

pub returns-in-Advance-clause-printed : goal.returns-in-Advance-clause-printed
returns-in-Advance-clause-printed g c = λ K b here waits.
    subst (λ (x : Command). Prints (g.R.Reactor.stands c.advance.new.reactor K) (λ n. run.done K n x b) (λ n. command_text c.args.marks.now.all c.args.marks.now.outputs.now K n x b) (g.O.Sink.held c.args.marks.now.out.now) (g.O.Sink.held c.advance.new.marks.out.now) c.advance.result) (sym c.in-Advance.is)
    (c.advance.ensures.printed K b here)

pub returns-in-Advance-clause-ran : goal.returns-in-Advance-clause-ran
returns-in-Advance-clause-ran g c = λ K b start xs here waits is.
    subst (λ (x : Command). IfOk c.advance.result (HasDone (λ ys. g.R.Reactor.ran start ys c.advance.new.reactor) (xs ++ x ∷ []))) (sym c.in-Advance.is)
    (prints_done (g.R.Reactor.stands c.advance.new.reactor K) (λ ys. g.R.Reactor.ran start ys c.advance.new.reactor) (λ d. g.met.R.Reactor.over K d start c.advance.new.reactor) (λ n. run.done K n (Advance c.in-Advance.us) b)
    (λ n. new_text c.args.marks.now.all c.args.marks.now.outputs.now (world_of b).marks (run.done K n (Advance c.in-Advance.us) b)) (g.O.Sink.held c.args.marks.now.out.now) (g.O.Sink.held c.advance.new.marks.out.now)
    (xs ++ Advance c.in-Advance.us ∷ []) c.advance.result (c.advance.ensures.printed K b here) (c.advance.ensures.ran start xs is))

pub returns-in-Advance-clause-waits : goal.returns-in-Advance-clause-waits
returns-in-Advance-clause-waits g c = still_waits (g.R.Reactor.stands c.args.reactor.now) (g.R.Reactor.stands c.advance.new.reactor) (λ K n b. run.done K n (Advance c.in-Advance.us) b)
    (λ K n b. new_text c.args.marks.now.all c.args.marks.now.outputs.now (world_of b).marks (run.done K n (Advance c.in-Advance.us) b)) (g.O.Sink.held c.args.marks.now.out.now) (g.O.Sink.held c.advance.new.marks.out.now) c.advance.result c.advance.ensures.printed

pub returns-in-Idle-clause-printed : goal.returns-in-Idle-clause-printed
returns-in-Idle-clause-printed g c = λ K b here waits.
    subst (λ (x : Command). Prints (g.R.Reactor.stands c.idle.new.reactor K) (λ n. run.done K n x b) (λ n. command_text c.args.marks.now.all c.args.marks.now.outputs.now K n x b) (g.O.Sink.held c.args.marks.now.out.now) (g.O.Sink.held c.idle.new.marks.out.now) c.idle.result) (sym c.in-Idle.is)
    (idle_prints (g.R.Reactor.stands c.idle.new.reactor K) K c.args.marks.now.all c.args.marks.now.outputs.now b c.in-Idle.turns (g.O.Sink.held c.args.marks.now.out.now) (g.O.Sink.held c.idle.new.marks.out.now) c.idle.result (c.idle.ensures.printed K b here waits))

pub returns-in-Idle-clause-ran : goal.returns-in-Idle-clause-ran
returns-in-Idle-clause-ran g c = λ K b start xs here waits is.
    subst (λ (x : Command). IfOk c.idle.result (HasDone (λ ys. g.R.Reactor.ran start ys c.idle.new.reactor) (xs ++ x ∷ []))) (sym c.in-Idle.is) (c.idle.ensures.ran K b start xs here waits is)
