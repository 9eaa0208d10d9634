-- Boot, the lines of a script and the last line together.
use Rattle.std.proofs.Common.{◌≡◌, ◌⊎◌, inl, inr, ℕ, ◌+◌, ◌≤◌, ◌<◌, Bool, List, [], ◌++◌, length, take, Option, refl, sym, ap, ◌∙◌, subst, arith, append_assoc, length-append}
use Rattle.std.proofs.Math.Seq.{take-append-add}
use Rattle.ceu_base.specs.declared.kinds.Port.{Port}
use Rattle.ceu_io.specs.Bytes.{Appends, AppendsProperFront}
use Rattle.ceu_io.specs.Counts.{Rose}
use Rattle.ceu_io.proofs.Offers.{appends_nothing, appends_then}
use Rattle.ceu_script.specs.Lines.{Line}
use Rattle.ceu_tree.specs.declared.command.Command.{Command}
use Rattle.ceu_tree.specs.declared.kernel.Kernel.{Kernel}
use Rattle.ceu_tree.specs.Run.{Config, Waits, status_of, world_of, booted, steps, all_done, run}
use Rattle.ceu_run.specs.Reactions.{IsWaiting, status_after}
use Rattle.ceu_run.specs.Printing.{Printed, CutShort, marks_text, commands_of, bad_of, commands_text, last_line, status_line, bad_line, text_from, run_text}
use Rattle.ceu_run.specs.Playing.{ending, shown_text, TakesLittle, Whole, StopsReading, StopsWriting, Plays, PlayCause}
use Rattle.ceu_run.specs.Stops.{Over, Broken, Cut, Near, Stops, EndsWith, Finishes, after_answer}
use Rattle.ceu_run.specs.declared.answers.Played.{Played}
use Rattle.ceu_run.specs.declared.answers.Played.TheVariants as played
use Rattle.ceu_run.specs.declared.follow.Stop.{Stop}
use Rattle.ceu_run.specs.declared.follow.Stop.TheVariants.{End, Bad, Read, Write}
use Rattle.ceu_run.specs.declared.follow.Stop.TheVariants as stop
use Rattle.ceu_run.specs.declared.reactor.After.{After}
use Rattle.ceu_run.specs.declared.reactor.After.TheVariants as after
use Rattle.ceu_run.proofs.Fronts.{front_past, front_of_more}
use Rattle.ceu_run.proofs.Idling.{still_here}
use Rattle.ceu_run.proofs.Looping.{last_after, ending_after}
use Rattle.ceu_run.proofs.Settled.{all_stays, commands_print_nothing, not_waiting_settled}

run_is : (K : Kernel) (n : ℕ) (xs : List Command) → run K n xs ≡ all_done K n xs (steps K n (booted K))
unfolding run
run_is K n xs = refl

pub waits_after_boot : (S : Kernel → Config → Type 0) (K : Kernel) (inputs : List Port) (c : Config) → K.inputs ≡ inputs → S K c → status_of c ≡ Waits → IsWaiting S inputs
waits_after_boot S K inputs c inputs_are here waits = let h = still_here (S K) c waits here in record { kernel = K; tree = h.0; world = h.1; here = h.2; inputs_are = inputs_are }

-- a run that is over as it boots
pub over_at_once : (K : Kernel) (c : Config) (all : Bool) (outputs : List Port) (lines : List (Line Command)) (bytes : List ℕ) (y : Option (List ℕ)) (a : After) → status_of c ≡ status_after a → (a ≡ after.Waiting → ⊥)
    → Over (status_line (status_after a)) (after_answer a) K c all outputs lines (Near bytes (length bytes)) y y
over_at_once K c all outputs lines bytes y a is other =
    let settled = not_waiting_settled c a is other in
    record {
      bound = 0;
      shown = [];
      texts = λ n h. (λ i. commands_print_nothing all outputs K n (commands_of lines) c settled i ++ last_line (bad_of 1 lines) (status_of (all_stays K n (commands_of lines) c settled i)))
          ∙ ap (last_line (bad_of 1 lines)) is ∙ last_after a other (bad_of 1 lines);
      written = appends_nothing y;
      ends = λ n h. ap (λ (d : Config). ending (bad_of 1 lines) (status_of d)) (all_stays K n (commands_of lines) c settled) ∙ ap (ending (bad_of 1 lines)) is ∙ ending_after a other (bad_of 1 lines);
      before = [];
      behind = lines;
      parts = refl;
      place = omega arith;
      before_waits = λ n h. inl refl;
      before_shown = λ n h. omega arith;
    }

module _ (S : Config → Type 0) (K : Kernel) (lines : List (Line Command)) (bytes : List ℕ) (left : ℕ) (all : Bool) (outputs : List Port) (x y : Option (List ℕ)) (a : After)
    (b : Printed S (λ n. steps K n (booted K)) (λ n. marks_text all outputs (world_of (steps K n (booted K))).marks) x y a) where
  shown_is : (xs : List Command) (n : ℕ) → b.bound ≤ n → shown_text all outputs K n xs ≡ b.shown ++ commands_text all outputs K n xs b.config
  shown_is xs n h = λ i. b.texts n h i ++ commands_text all outputs K n xs (b.comes n h i)

  run_at : (xs : List Command) (n : ℕ) → b.bound ≤ n → run K n xs ≡ all_done K n xs b.config
  run_at xs n h = run_is K n xs ∙ ap (all_done K n xs) (b.comes n h)

  text_is : (n : ℕ) → b.bound ≤ n → run_text all outputs K n lines ≡ b.shown ++ text_from all outputs K n lines b.config
  text_is n h = λ i. b.texts n h i ++ text_from all outputs K n lines (b.comes n h i)

  too : (before : List (Line Command)) (n : ℕ) → b.bound ≤ n → (before ≡ []) ⊎ (status_of (all_done K n (commands_of before) b.config) ≡ Waits) → (before ≡ []) ⊎ (status_of (run K n (commands_of before)) ≡ Waits)
  too before n h (inl e) = inl e
  too before n h (inr w) = inr (ap status_of (run_at (commands_of before) n h) ∙ w)

  module _ (line : List ℕ) (answer : Played) (z : Option (List ℕ)) (o : Over line answer K b.config all outputs lines (Near bytes left) y z) where
    little : TakesLittle K lines bytes left
    little = record { before = o.before; behind = o.behind; lines_are = o.parts; bound = b.bound + o.bound; waits = λ n h. too o.before n (omega arith) (o.before_waits n (omega arith)); taken = o.place }

    whole : (w : Option (List ℕ)) → Appends line z w → Whole answer K lines all outputs x w
    whole w is = record {
      bound = b.bound + o.bound;
      text = b.shown ++ (o.shown ++ line);
      texts = λ n h. text_is n (omega arith) ∙ ap (λ (l : List ℕ). b.shown ++ l) (o.texts n (omega arith));
      written = appends_then b.shown (o.shown ++ line) x y w b.written (appends_then o.shown line y z w o.written is);
      ends = λ n h. ap (λ (d : Config). ending (bad_of 1 lines) (status_of d)) (run_at (commands_of lines) n (omega arith)) ∙ o.ends n (omega arith);
    }

    cut_line : (w : Option (List ℕ)) → AppendsProperFront line z w → StopsWriting K lines bytes left all outputs x w
    cut_line w is =
        let f = front_past (b.shown ++ o.shown) line x z w (appends_then b.shown o.shown x y z b.written o.written) is in
        record {
          before = o.before;
          behind = o.behind;
          lines_are = o.parts;
          taken = o.place;
          bound = b.bound + o.bound;
          front = λ n h.
              let e : run_text all outputs K n lines ≡ (b.shown ++ o.shown) ++ line = text_is n (omega arith) ∙ ap (λ (l : List ℕ). b.shown ++ l) (o.texts n (omega arith)) ∙ sym (append_assoc b.shown o.shown line) in (
                f.0,
                subst (λ (l : List ℕ). f.0 < length l) (sym e) f.1,
                subst (λ (l : List ℕ). Appends (take f.0 l) x w) (sym e) f.2,
                inr (subst (λ (l : List ℕ). length l ≤ f.0) (sym (shown_is (commands_of o.before) n (omega arith)))
                    (omega (arith, length-append b.shown (commands_text all outputs K n (commands_of o.before) b.config), length-append b.shown o.shown, o.before_shown n (omega arith), f.3))),
              );
        }

    pub ends_plays : (result : Played) (w : Option (List ℕ)) (q q' : ℕ) → (Whole answer K lines all outputs x w × TakesLittle K lines bytes left → Plays answer K lines bytes left all outputs x w)
        → EndsWith result answer line z w q q' → Plays result K lines bytes left all outputs x w
    ends_plays result w q q' as_played (inl e) = subst (λ (p : Played). Plays p K lines bytes left all outputs x w) (sym e.0) (as_played (whole w e.1, little))
    ends_plays result w q q' as_played (inr e) = subst (λ (p : Played). Plays p K lines bytes left all outputs x w) (sym e.0) (cut_line w e.1)

  after_plays : (a' : After) (w : Option (List ℕ)) → Whole (after_answer a') K lines all outputs x w × TakesLittle K lines bytes left → Plays (after_answer a') K lines bytes left all outputs x w
  after_plays after.Waiting w is = is
  after_plays (after.Ended v) w is = is
  after_plays (after.Faulted fault place) w is = is

  broken_plays : (z : Option (List ℕ)) → Broken K b.config all outputs lines (Near bytes left) y z → StopsWriting K lines bytes left all outputs x z
  broken_plays z o = record {
    before = o.before;
    behind = o.behind;
    lines_are = o.parts;
    taken = o.place;
    bound = b.bound + o.bound;
    front = λ n h.
        let f = o.front n (omega arith) in
        let t = text_from all outputs K n lines b.config in
        let e = text_is n (omega arith) in (
          length b.shown + f.0,
          subst (λ (l : List ℕ). length b.shown + f.0 < length l) (sym e) (omega (arith, length-append b.shown t, f.1)),
          subst (λ (l : List ℕ). Appends (take (length b.shown + f.0) l) x z) (sym e) (subst (λ (l : List ℕ). Appends l x z) (sym (take-append-add b.shown t f.0)) (appends_then b.shown (take f.0 t) x y z b.written f.2)),
          inr (subst (λ (l : List ℕ). length l ≤ length b.shown + f.0) (sym (shown_is (commands_of o.before) n (omega arith)))
              (omega (arith, length-append b.shown (commands_text all outputs K n (commands_of o.before) b.config), f.3))),
        );
  }

  cut_plays : (z : Option (List ℕ)) → Cut K b.config all outputs lines (Near bytes left) y z → StopsReading K lines bytes left all outputs x z × TakesLittle K lines bytes left
  cut_plays z o = (
    record {
      before = o.read;
      behind = o.rest;
      lines_are = o.lines_are;
      good = o.good;
      taken = o.end;
      bound = b.bound + o.bound;
      waits = λ n h. ap status_of (run_at (commands_of o.read) n (omega arith)) ∙ o.waits n (omega arith);
      text = b.shown ++ o.shown;
      texts = λ n h. shown_is (commands_of o.read) n (omega arith) ∙ ap (λ (l : List ℕ). b.shown ++ l) (o.texts n (omega arith));
      written = appends_then b.shown o.shown x y z b.written o.written;
    },
    record { before = o.before; behind = o.behind; lines_are = o.parts; bound = b.bound + o.bound; waits = λ n h. too o.before n (omega arith) (o.before_waits n (omega arith)); taken = o.place },
  )

  pub stop_plays : (s : Stop) (result : Played) (z w : Option (List ℕ)) (q q' : ℕ) → Stops s K b.config all outputs lines (Near bytes left) y z → Finishes s result z w q q' → Plays result K lines bytes left all outputs x w
  stop_plays Read result z w q q' stops f = subst (λ (p : Played). Plays p K lines bytes left all outputs x w) (sym f.0)
      (subst (λ (t : Option (List ℕ)). StopsReading K lines bytes left all outputs x t × TakesLittle K lines bytes left) (sym f.1) (cut_plays z stops))
  stop_plays Write result z w q q' stops f = subst (λ (p : Played). Plays p K lines bytes left all outputs x w) (sym f.0)
      (subst (λ (t : Option (List ℕ)). StopsWriting K lines bytes left all outputs x t) (sym f.1) (broken_plays z stops))
  stop_plays End result z w q q' stops f = ends_plays (status_line Waits) played.Done z stops result w q q' (λ is. is) f
  stop_plays (Bad number kind) result z w q q' stops f = ends_plays (bad_line number kind) played.Script z stops result w q q' (λ is. is) f
  stop_plays (stop.Over a') result z w q q' stops f = ends_plays (status_line (status_after a')) (after_answer a') z stops result w q q' (after_plays a' w) f

-- the sink failed as the program booted
pub boot_breaks : (K : Kernel) (lines : List (Line Command)) (bytes : List ℕ) (all : Bool) (outputs : List Port) (x y : Option (List ℕ)) → CutShort (λ n. marks_text all outputs (world_of (steps K n (booted K))).marks) x y
    → StopsWriting K lines bytes (length bytes) all outputs x y
boot_breaks K lines bytes all outputs x y cut = record {
  before = [];
  behind = lines;
  lines_are = refl;
  taken = omega arith;
  bound = cut.bound;
  front = λ n h. let f = front_of_more (marks_text all outputs (world_of (steps K n (booted K))).marks) (text_from all outputs K n lines (steps K n (booted K))) x y (cut.front n h) in (f.0, f.1, f.2, inl refl);
}

over_cause : (a : After) (i o o' : ℕ) → o' ≡ o → PlayCause (after_answer a) i i o o'
over_cause after.Waiting i o o' same = (refl, same)
over_cause (after.Ended v) i o o' same = (refl, same)
over_cause (after.Faulted fault place) i o o' same = (refl, same)

rise_from : (o m o' : ℕ) → m ≡ o → (m ≤ o') × Rose m o' → (o ≤ o') × Rose o o'
rise_from o m o' same rose = subst (λ k. (k ≤ o') × Rose k o') same rose

pub over_causes : (a : After) (result : Played) (line : List ℕ) (z w : Option (List ℕ)) (i o m o' : ℕ) → m ≡ o → EndsWith result (after_answer a) line z w m o' → PlayCause result i i o o'
over_causes a result line z w i o m o' same (inl e) = subst (λ (p : Played). PlayCause p i i o o') (sym e.0) (over_cause a i o o' (e.2 ∙ same))
over_causes a result line z w i o m o' same (inr e) = subst (λ (p : Played). PlayCause p i i o o') (sym e.0) (refl, rise_from o m o' same e.2)

-- the same sink of lines
pub as_booted : (s : Stop) (K : Kernel) (c : Config) (all all' : Bool) (outputs outputs' : List Port) (lines : List (Line Command)) (near : ℕ → Type 0) (y z : Option (List ℕ)) → all' ≡ all → outputs' ≡ outputs
    → Stops s K c all' outputs' lines near y z → Stops s K c all outputs lines near y z
as_booted s K c all all' outputs outputs' lines near y z all_same outputs_same is =
    subst (λ (t : Bool). Stops s K c t outputs lines near y z) all_same (subst (λ (o : List Port). Stops s K c all' o lines near y z) outputs_same is)
