-- What a command answers, where the machine's configuration after it agrees with that of the reference semantics.
use Rattle.std.proofs.Common.{◌≡◌, refl, sym, ap, ◌∙◌, subst, ℕ, List, [], ◌∷◌, ◌++◌, Result, Ok, Err, IfOk, OnOk, OnErr}
use Rattle.ceu_base.specs.declared.kinds.Fault.{Fault}
use Rattle.ceu_base.specs.declared.kinds.Mark.{Mark}
use Rattle.ceu_base.specs.declared.kinds.Pos.{Pos}
use Rattle.ceu_code.specs.declared.image.Image.{Image}
use Rattle.ceu_run.specs.Reactions.{status_after, Begins, Reaction}
use Rattle.ceu_follows.specs.Reactions.{Agrees, Follows}
use Rattle.ceu_io.specs.declared.outside.Failed.{Failed}
use Rattle.ceu_isa.specs.Commands.{marks_of}
use Rattle.ceu_isa.specs.Reactions as machine
use Rattle.ceu_machine.specs.Noting.{Noted, Stopped}
use Rattle.ceu_machine.specs.States.{plain}
use Rattle.ceu_react.specs.Coming.{Came}
use Rattle.ceu_react.specs.Sessions.{state_after}
use Rattle.ceu_react.specs.declared.after.After.{After}
use Rattle.ceu_react.specs.declared.after.After.TheVariants as came
use Rattle.ceu_shape.specs.Plans.{Plan}
use Rattle.ceu_tree.specs.declared.kernel.Kernel.{Kernel}
use Rattle.ceu_tree.specs.Run.{Config, Turning, Between, Waiting, Ended, Faulted, world_of, status_of, HasEnded, HasFaulted}
use Rattle.ceu_run.specs.Standing.{answer, answered, config_of}
use Rattle.ceu_run.proofs.CompiledNoting.{noted_so, cut, behind}

module _ (image : Image) (P : Plan) (width : ℕ → ℕ) (K : Kernel) where
  -- the session agrees too, and its answer is the status
  agreed : (c : Config) (d : machine.Config) (a : After) (bytes : List ℕ) → Agrees image P width K c d → Came d a bytes
      → Agrees image P width K c (config_of (state_after (Ok a)) bytes) × (status_of c ≡ status_after (answer a))
  agreed (Turning n f w) machine.Lost a bytes h is = absurd h
  agreed (Turning n f w) (machine.Waits m) a bytes h is = absurd h
  agreed (Turning n f w) (machine.HasEnded u m) a bytes h is = absurd h
  agreed (Turning n f w) (machine.HasFaulted fault p m) a bytes h is = absurd h
  agreed (Between n r w) machine.Lost a bytes h is = absurd h
  agreed (Between n r w) (machine.Waits m) a bytes h is = absurd h
  agreed (Between n r w) (machine.HasEnded u m) a bytes h is = absurd h
  agreed (Between n r w) (machine.HasFaulted f p m) a bytes h is = absurd h
  agreed (Waiting r w) machine.Lost a bytes h is = absurd h
  agreed (Waiting r w) (machine.Waits m) came.Waiting bytes h is = (subst (λ (bs : List ℕ). Agrees image P width K (Waiting r w) (machine.Waits (plain bs))) is (record { kept = h.kept; fits = h.fits; are_bytes = h.are_bytes; top_is = h.top_is; stands = h.stands }), refl)
  agreed (Waiting r w) (machine.Waits m) (came.Ended x) bytes h is = absurd is
  agreed (Waiting r w) (machine.Waits m) (came.Faulted g q) bytes h is = absurd is
  agreed (Waiting r w) (machine.HasEnded u m) a bytes h is = absurd h
  agreed (Waiting r w) (machine.HasFaulted f p m) a bytes h is = absurd h
  agreed (Ended v w) machine.Lost a bytes h is = absurd h
  agreed (Ended v w) (machine.Waits m) a bytes h is = absurd h
  agreed (Ended v w) (machine.HasEnded u m) came.Waiting bytes h is = absurd is
  agreed (Ended v w) (machine.HasEnded u m) (came.Ended x) bytes h is = (sym is.0 ∙ h, ap HasEnded (sym h ∙ is.0))
  agreed (Ended v w) (machine.HasEnded u m) (came.Faulted g q) bytes h is = absurd is
  agreed (Ended v w) (machine.HasFaulted f p m) a bytes h is = absurd h
  agreed (Faulted e w) machine.Lost a bytes h is = absurd h
  agreed (Faulted e w) (machine.Waits m) a bytes h is = absurd h
  agreed (Faulted e w) (machine.HasEnded u m) a bytes h is = absurd h
  agreed (Faulted e w) (machine.HasFaulted f p m) came.Waiting bytes h is = absurd is
  agreed (Faulted e w) (machine.HasFaulted f p m) (came.Ended x) bytes h is = absurd is
  agreed (Faulted e w) (machine.HasFaulted f p m) (came.Faulted g q) bytes h is = ((sym is.0 ∙ h.0, sym is.1 ∙ h.1), ap (λ (x : Fault). HasFaulted (x, e.1)) (sym h.0 ∙ is.0) ∙ ap (λ (x : Pos). HasFaulted (g, x)) (sym h.1 ∙ is.1))

  pub reaction : {W : Type 0} (notes stops : W → Mark → W → Type 0) (S : Config → Type 0) (later : ℕ → Config) (before : List Mark) (out now : W) (d : machine.Config) (bytes : List ℕ) (r : Result After Failed)
      → Follows image P width K before [] later d
      → IfOk r (λ a. Came d a bytes) → OnOk r (Noted notes (marks_of d) out now) → OnErr r (Stopped notes stops (marks_of d) out now)
      → ((c : Config) → Agrees image P width K c (config_of (state_after r) bytes) → S c)
      → Reaction notes stops S later before out now (answered r)
  reaction notes stops S later before out now d bytes (Ok a) f is noted stopped stands =
      let both = agreed f.config d a bytes f.agrees is in
      record {
        config = f.config;
        comes = record { bound = f.bound; comes = f.comes };
        here = stands f.config both.0;
        status = both.1;
        added = marks_of d;
        marks = f.marks.semantics ∙ ap (λ (l : List Mark). before ++ l) (sym f.marks.machine);
        noted = noted_so notes stops (marks_of d) out now noted;
      }
  reaction notes stops S later before out now d bytes (Err e) f is noted stopped stands =
      let c = cut notes stops (marks_of d) out now stopped in
      record {
        noted_marks = c.front;
        last = c.last;
        bound = f.bound;
        come = λ n h. subst (λ (x : Config). Begins (before ++ (c.front ++ c.last ∷ [])) (world_of x).marks) (sym (f.comes n h))
            (c.rest, behind before (c.front ++ c.last ∷ []) c.rest (marks_of d) (world_of f.config).marks (f.marks.semantics ∙ ap (λ (l : List Mark). before ++ l) (sym f.marks.machine)) c.parts);
        between = c.between;
        noted = c.noted;
        stopped = c.stopped;
      }
