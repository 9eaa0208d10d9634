-- A turn of the machine comes to what that of the reference semantics comes to: by its steps, each of which is as it should be.
use Rattle.std.proofs.Common.{◌≡◌, refl, sym, ap, ◌∙◌, subst, ℕ, zero, suc, ◌+◌, ◌*◌, ◌≤◌, true, false, List, ◌++◌, append_assoc, arith}
use Rattle.ceu_code.specs.declared.image.Image.{Image}
use Rattle.ceu_isa.specs.declared.registers.Registers.{Registers}
use Rattle.ceu_isa.specs.Turns as turns
use Rattle.ceu_isa.specs.Turns.{Machine, State, Trail, ticks, is_on, longest_turn}
use Rattle.ceu_tree.specs.declared.kernel.Kernel.{Kernel}
use Rattle.ceu_tree.specs.Residual.{Program, Act}
use Rattle.ceu_tree.specs.Focus.{Focus}
use Rattle.ceu_tree.specs.World.{World}
use Rattle.ceu_tree.specs.Around.{Outcome, Goes, Rests, Raises, Fails, Past, Registers as Registered, AtBlockEnd, AtLoopHead, Ends, Leaves}
use Rattle.ceu_tree.specs.Step.{stepped}
use Rattle.ceu_tree.specs.Run.{Config, Turning, Between, Ended, Faulted, config_of, faulted, next, steps}
use Rattle.ceu_tree.specs.Abort.{aborted}
use Rattle.ceu_shape.specs.Plans.{Plan}
use Rattle.ceu_endings.specs.Ends.{longest_run, EndsTurns, TurnOver}
use Rattle.ceu_endings.specs.Laws.{is_turning}
use Rattle.ceu_endings.proofs.Ending.{turn_ends}
use Rattle.ceu_trail.specs.Compiled.{Compiled}
use Rattle.ceu_trail.specs.Coming.{most_ticks, Reaches, SameMarks, Comes}
use Rattle.ceu_trail.specs.Laws.{StepsAreDone}
use Rattle.ceu_trail.specs.Turning.{TurnStands}
use Rattle.ceu_follows.specs.Kept.{Kept}
use Rattle.ceu_follows.specs.Turns.{SameEnd, TurnDone}
use Rattle.ceu_follows.proofs.Unharmed.{FailsClear, aborted_quietly}
use Rattle.ceu_follows.proofs.Stepping.{next_is, next_kept, step_of}
use Rattle.ceu_follows.proofs.Ticks.{ticks_then, ticks_stay, few_ticks}

marks_after : (old mid new : World) (m k n : Machine) → SameMarks old m mid k → SameMarks mid k new n → SameMarks old m new n
marks_after old mid new m k n a b = record {
  added = a.added ++ b.added;
  semantics = b.semantics ∙ ap (λ (l : List _). l ++ b.added) a.semantics ∙ append_assoc old.marks a.added b.added;
  machine = b.machine ∙ ap (λ (l : List _). l ++ b.added) a.machine ∙ append_assoc m.marks a.added b.added;
}

module _ (image : Image) (P : Plan) (width : ℕ → ℕ) (K : Kernel) where
  -- what is the same since later on is the same since before
  end_after : (w u : World) (m k : Machine) (c : Config) (s : State) → SameMarks w m u k → SameEnd image P width K u k c s → SameEnd image P width K w m c s
  end_after w u m k (Between n r new) (turns.Paused after) a h = (h.0, marks_after w u new m k after a h.1, h.2)
  end_after w u m k (Ended v new) (turns.Ended after) a h = (marks_after w u new m k after a h.0, h.1)
  end_after w u m k (Faulted e new) (turns.Faulted f p after) a h = (marks_after w u new m k after a h.0, h.1, h.2)
  end_after w u m k c s a h = absurd h

  end_off : (w : World) (m : Machine) (c : Config) (s : State) → SameEnd image P width K w m c s → is_on s ≡ false
  end_off w m (Between n r new) (turns.Paused after) h = refl
  end_off w m (Ended v new) (turns.Ended after) h = refl
  end_off w m (Faulted e new) (turns.Faulted f p after) h = refl
  end_off w m c s h = absurd h

  -- the turn from some state on, in few steps
  record Ran (w : World) (m : Machine) (c : Config) (s : State) (most : ℕ) : Type 0 where
    count : ℕ
    few : count ≤ most
    kept : Kept K (steps K count c)
    ticked : ℕ
    few_ticked : ticked ≤ count * most_ticks
    same : SameEnd image P width K w m (steps K count c) (ticks image ticked s)

  module _ (compiled : Compiled image P width K) (ends : EndsTurns K) (laws : StepsAreDone) where
    steps_on : (k : ℕ) (f : Focus Act) (w : World) (c : Config) → next K (Turning 0 f w) ≡ c → steps K (suc k) (Turning 0 f w) ≡ steps K k c
    unfolding steps
    steps_on k f w c e = ap (λ (d : Config). steps K k d) e

    none_yet : (c : Config) → steps K 0 c ≡ c
    unfolding steps
    none_yet c = refl

    module _ (f : Focus Act) (w : World) (r : Registers) (m : Machine) (most : ℕ) where
      -- the turn is over after this step
      over_now : (c : Config) (s : State) → next K (Turning 0 f w) ≡ c → Kept K c → Reaches image (Trail r m) s → SameEnd image P width K w m c s → Ran w m (Turning 0 f w) (Trail r m) (suc most)
      over_now c s e kept x same =
          let one : steps K 1 (Turning 0 f w) ≡ c = steps_on 0 f w c e ∙ none_yet c in
          record {
            count = 1;
            few = omega arith;
            kept = subst (Kept K) (sym one) kept;
            ticked = x.count;
            few_ticked = omega (arith, x.few);
            same = subst (λ (d : Config). SameEnd image P width K w m d (ticks image x.count (Trail r m))) (sym one) (subst (λ (t : State). SameEnd image P width K w m c t) (sym x.comes) same);
          }

      -- it goes on
      then_more : (g : Focus Act) (u : World) (q : Registers) (k : Machine) → next K (Turning 0 f w) ≡ Turning 0 g u → Reaches image (Trail r m) (Trail q k) → SameMarks w m u k
          → Ran u k (Turning 0 g u) (Trail q k) most → Ran w m (Turning 0 f w) (Trail r m) (suc most)
      then_more g u q k e x marks h =
          let on : steps K (suc h.count) (Turning 0 f w) ≡ steps K h.count (Turning 0 g u) = steps_on h.count f w (Turning 0 g u) e in
          let ticked : ticks image (x.count + h.ticked) (Trail r m) ≡ ticks image h.ticked (Trail q k) =
          ticks_then image x.count h.ticked (x.count + h.ticked) (Trail r m) refl ∙ ap (λ (s : State). ticks image h.ticked s) x.comes in
          let since : SameEnd image P width K w m (steps K h.count (Turning 0 g u)) (ticks image h.ticked (Trail q k)) =
          end_after w u m k (steps K h.count (Turning 0 g u)) (ticks image h.ticked (Trail q k)) marks h.same in
          record {
            count = suc h.count;
            few = omega (arith, h.few);
            kept = subst (Kept K) (sym on) h.kept;
            ticked = x.count + h.ticked;
            few_ticked = omega (arith, x.few, h.few_ticked);
            same = subst (λ (d : Config). SameEnd image P width K w m d (ticks image (x.count + h.ticked) (Trail r m))) (sym on)
                (subst (λ (t : State). SameEnd image P width K w m (steps K h.count (Turning 0 g u)) t) (sym ticked) since);
          }

      fault_marks : (new u : World) (k : Machine) → SameMarks w m new k → u.marks ≡ new.marks → SameMarks w m u k
      fault_marks new u k a e = record { added = a.added; semantics = e ∙ a.semantics; machine = a.machine }

      by_outcome : (x : Outcome) (u : World) → next K (Turning 0 f w) ≡ config_of 0 x u → Kept K (config_of 0 x u) → FailsClear x → Comes image P width K w r m x u
          → ((g : Focus Act) (q : Registers) (k : Machine) → next K (Turning 0 f w) ≡ Turning 0 g u → Kept K (Turning 0 g u) → TurnStands image P width K g u q k.bytes → Ran u k (Turning 0 g u) (Trail q k) most)
          → Ran w m (Turning 0 f w) (Trail r m) (suc most)
      by_outcome (Goes g) u e kept z h more = then_more g u h.registers h.after e h.reaches h.marks (more g h.registers h.after e kept h.stands)
      by_outcome (Rests q) u e kept z h more = over_now (Between 0 q u) (turns.Paused h.after) e kept h.reaches (refl, h.marks, record { fits = h.fits; are_bytes = h.are_bytes; stands = h.stands })
      by_outcome (Ends v) u e kept z h more = over_now (Ended v u) (turns.Ended h.after) e kept h.reaches (h.marks, h.value_is)
      by_outcome (Fails y q) u e kept z h more =
          over_now (faulted y q u) (turns.Faulted y.0 y.1 h.after) e kept h.reaches (fault_marks u (aborted q Program u) h.after h.marks (aborted_quietly q Program u z).marks, refl, refl)
      by_outcome (Raises q) u e kept z h more = absurd h
      by_outcome Past u e kept z h more = absurd h
      by_outcome (Registered s) u e kept z h more = absurd h
      by_outcome AtBlockEnd u e kept z h more = absurd h
      by_outcome AtLoopHead u e kept z h more = absurd h
      by_outcome (Leaves node y) u e kept z h more = absurd h

    runs : (k : ℕ) (f : Focus Act) (w : World) (r : Registers) (m : Machine) → Kept K (Turning 0 f w) → TurnStands image P width K f w r m.bytes
        → is_turning (steps K k (Turning 0 f w)) ≡ false → Ran w m (Turning 0 f w) (Trail r m) k
    runs zero f w r m kept stands over = absurd (let z : true ≡ false = sym (ap is_turning (none_yet (Turning 0 f w))) ∙ over in cc)
    runs (suc k) f w r m kept stands over =
        let x = (stepped K 0 Program f w).outcome in
        let u = (stepped K 0 Program f w).world in
        let e : next K (Turning 0 f w) ≡ config_of 0 x u = next_is K ends.proper ends.single f w kept.fits kept.unfaulted in
        by_outcome f w r m k x u e
        (subst (Kept K) e (next_kept K ends.proper ends.single (Turning 0 f w) kept refl))
        (step_of K ends.proper ends.single f w kept.fits).clear
        (laws image P width K f w r m compiled kept.fits kept.valued kept.counted kept.within stands)
        (λ g q n o kept_on stands_on. runs k g u q n kept_on stands_on (sym (ap is_turning (steps_on k f w (Turning 0 g u) o)) ∙ over))

    pub turn_done : (f : Focus Act) (w : World) (r : Registers) (m : Machine) → Kept K (Turning 0 f w) → TurnStands image P width K f w r m.bytes
        → TurnDone image P width K w m (Turning 0 f w) (Trail r m)
    turn_done f w r m kept stands =
        let o : TurnOver K longest_run (Turning 0 f w) = turn_ends K f w ends kept.fits kept.counted in
        let x : Ran w m (Turning 0 f w) (Trail r m) o.count = runs o.count f w r m kept stands o.over in
        let few : x.count ≤ longest_run = omega (arith, x.few, o.within) in
        let off : is_on (ticks image x.ticked (Trail r m)) ≡ false = end_off w m (steps K x.count (Turning 0 f w)) (ticks image x.ticked (Trail r m)) x.same in
        let stay : ticks image longest_turn (Trail r m) ≡ ticks image x.ticked (Trail r m) = ticks_stay image x.ticked longest_turn (Trail r m) (few_ticks x.count x.ticked few x.few_ticked) off in
        record {
          count = x.count;
          few = few;
          kept = x.kept;
          same = subst (λ (t : State). SameEnd image P width K w m (steps K x.count (Turning 0 f w)) t) (sym stay) x.same;
        }
