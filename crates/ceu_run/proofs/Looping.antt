-- One more line of a script, where the source's bytes are told.
use Rattle.std.proofs.Common.{◌≡◌, ℕ, ◌+◌, ◌-◌, ◌≤◌, Bool, List, [], length, Option, Some, None, Result, Ok, refl, sym, ap, subst, arith}
use Rattle.ceu_base.specs.declared.kinds.Port.{Port}
use Rattle.ceu_io.specs.Told.{WhereTold}
use Rattle.ceu_io.specs.declared.outside.Failed.{Failed}
use Rattle.ceu_io.proofs.Telling.{where_told_map, where_told_same, where_told_then}
use Rattle.ceu_script.specs.Content.{content_of}
use Rattle.ceu_script.specs.Lines.{Line, script, Comes, Spoils, Ends}
use Rattle.ceu_script.specs.Places.{IsAt, Skips, line_start}
use Rattle.ceu_script.specs.Reader.{Reader, Script, GoesOn, ahead}
use Rattle.ceu_script.specs.declared.items.BadKind.{BadKind}
use Rattle.ceu_tree.specs.declared.command.Command.{Command}
use Rattle.ceu_tree.specs.declared.kernel.Kernel.{Kernel}
use Rattle.ceu_tree.specs.Run.{Config, Waits, status_of, done}
use Rattle.ceu_run.specs.Reactions.{status_after, IsWaiting, StillWaits}
use Rattle.ceu_run.specs.Printing.{Prints, Printed, CutShort, command_text, last_line, status_line, bad_line}
use Rattle.ceu_run.specs.Playing.{script_of, ending}
use Rattle.ceu_run.specs.Stops.{Over, Broken, Cut, Near, after_answer}
use Rattle.ceu_run.specs.declared.answers.Played.{Played}
use Rattle.ceu_run.specs.declared.answers.Played.TheVariants.{Done, Script as BadScript}
use Rattle.ceu_run.specs.declared.reactor.After.{After}
use Rattle.ceu_run.specs.declared.reactor.After.TheVariants as after
use Rattle.ceu_run.proofs.Doing.{Did, did_none}
use Rattle.ceu_run.proofs.Following.{Reached, reached_none, reached_more, reached_end, reached_break, reached_last, reached_bad, reached_cut}
use Rattle.ceu_run.proofs.Settled.{not_waiting_settled}

pub where_told_both : {A : Type 0} (x y : Option A) (P Q R : A → A → Type 0) → ((a b : A) → P a b → Q a b → R a b) → WhereTold x y P → WhereTold x y Q → WhereTold x y R
where_told_both None y P Q R f p q = q
where_told_both (Some a) None P Q R f p q = q
where_told_both (Some a) (Some b) P Q R f p q = f a b p q

-- ---- the new reader

abbrev IsNew : Reader → Type 0
IsNew r = r ≡ record { pending = []; taken = 0; last = record { start = 0; lines = 0; text = content_of [] } }

new_ahead : (r : Reader) → IsNew r → (left : List ℕ) → ahead r left ≡ script_of left
unfolding ahead
new_ahead r new left = ap (λ (q : Reader). ahead q left) new

pub new_at : (r : Reader) → IsNew r → (x : Option (List ℕ)) → WhereTold x x (λ old now. IsAt (script_of old).bytes r (ahead r now))
new_at r new x = where_told_same x (λ old now. IsAt (script_of old).bytes r (ahead r now)) (λ old.
    subst (λ (s : Script). IsAt (script_of old).bytes r s) (sym (new_ahead r new old)) (subst (λ (q : Reader). IsAt (script_of old).bytes q (script_of old)) (sym new)
    (record { rest_is = refl; placed = omega arith; began = omega arith })))

pub new_goes_on : (r : Reader) → IsNew r → GoesOn r
new_goes_on r new = subst GoesOn (sym new) (record { counted = omega arith; here = omega arith; within = omega arith })

pub new_moved : (r : Reader) → IsNew r → (x : Option (List ℕ)) → WhereTold x x (λ old now. r.taken + length now ≡ length old)
new_moved r new x = where_told_same x (λ old now. r.taken + length now ≡ length old) (λ old. let t : r.taken ≡ 0 = ap (λ (q : Reader). q.taken) new in omega arith)

pub new_reached : (S : Config → Type 0) (K : Kernel) (c : Config) (all : Bool) (outputs inputs : List Port) (r : Reader) → IsNew r → (x h : Option (List ℕ)) → S c → status_of c ≡ Waits
    → WhereTold x x (λ old now. Reached S K c all outputs (script inputs (script_of old)) (script inputs (ahead r now)) r.last.lines h h)
new_reached S K c all outputs inputs r new x h here waits = where_told_same x (λ old now. Reached S K c all outputs (script inputs (script_of old)) (script inputs (ahead r now)) r.last.lines h h) (λ old.
    subst (λ (s : Script). Reached S K c all outputs (script inputs (script_of old)) (script inputs s) r.last.lines h h) (sym (new_ahead r new old))
    (subst (λ (q : Reader). Reached S K c all outputs (script inputs (script_of old)) (script inputs (script_of old)) q.last.lines h h) (sym new) (reached_none S K c all outputs (script inputs (script_of old)) h here waits)))

pub new_did : (ran : List Command → Type 0) (xs : List Command) (inputs : List Port) (r : Reader) → IsNew r → (x : Option (List ℕ)) → ran xs → WhereTold x x (λ old now. Did ran xs (script inputs (script_of old)) (script inputs (ahead r now)))
new_did ran xs inputs r new x did = where_told_same x (λ old now. Did ran xs (script inputs (script_of old)) (script inputs (ahead r now))) (λ old.
    subst (λ (s : Script). Did ran xs (script inputs (script_of old)) (script inputs s)) (sym (new_ahead r new old)) (did_none ran xs (script inputs (script_of old)) did))

-- ---- a call of the reader

pub moved_on : (r s : Reader) (x y z : Option (List ℕ)) → WhereTold x y (λ old now. r.taken + length now ≡ length old) → WhereTold y z (λ old new. s.taken + length new ≡ r.taken + length old) → WhereTold x z (λ old now. s.taken + length now ≡ length old)
moved_on r s x y z first then = where_told_then x y z (λ old now. r.taken + length now ≡ length old) (λ old new. s.taken + length new ≡ r.taken + length old) (λ old now. s.taken + length now ≡ length old) (λ a b d p q. omega arith) first then

pub at_on : (r s : Reader) (x y z : Option (List ℕ)) → WhereTold x y (λ old now. IsAt (script_of old).bytes r (ahead r now)) → WhereTold y z (λ old new. (bytes : List ℕ) → IsAt bytes r (ahead r old) → IsAt bytes s (ahead s new))
    → WhereTold x z (λ old now. IsAt (script_of old).bytes s (ahead s now))
at_on r s x y z first then = where_told_then x y z (λ old now. IsAt (script_of old).bytes r (ahead r now)) (λ old new. (bytes : List ℕ) → IsAt bytes r (ahead r old) → IsAt bytes s (ahead s new)) (λ old now. IsAt (script_of old).bytes s (ahead s now))
    (λ a b d p q. q (script_of a).bytes p) first then

near_is : (taken start left whole place : ℕ) → taken ≤ start + 4096 → start ≡ place → taken + left ≡ whole → whole ≤ left + (place + 4096)
near_is taken start left whole place little began moved = omega arith

pub near_told : (r s : Reader) (x y z : Option (List ℕ)) → WhereTold x y (λ old now. IsAt (script_of old).bytes r (ahead r now)) → WhereTold x y (λ old now. r.taken + length now ≡ length old)
    → WhereTold y z (λ old new. (bytes : List ℕ) → IsAt bytes r (ahead r old) → s.last.start ≡ line_start (s.last.lines - 1) bytes) → WhereTold y z (λ old new. s.taken + length new ≡ r.taken + length old) → s.taken ≤ s.last.start + 4096
    → WhereTold x z (λ old new. Near old (length new) (s.last.lines - 1))
near_told r s x y z at moved places moves little =
    let began = where_told_then x y z (λ old now. IsAt (script_of old).bytes r (ahead r now)) (λ old new. (bytes : List ℕ) → IsAt bytes r (ahead r old) → s.last.start ≡ line_start (s.last.lines - 1) bytes)
    (λ old new. s.last.start ≡ line_start (s.last.lines - 1) (script_of old).bytes) (λ a b d p q. q (script_of a).bytes p) at places in
    where_told_both x z (λ old new. s.last.start ≡ line_start (s.last.lines - 1) (script_of old).bytes) (λ old new. s.taken + length new ≡ length old) (λ old new. Near old (length new) (s.last.lines - 1))
    (λ old new start whole. near_is s.taken s.last.start (length new) (length old) (line_start (s.last.lines - 1) (script_of old).bytes) little start whole) began (moved_on r s x y z moved moves)

pub began_too : (r s : Reader) (y z : Option (List ℕ)) → WhereTold y z (λ old new. (bytes : List ℕ) → IsAt bytes r (ahead r old) → IsAt bytes s (ahead s new))
    → WhereTold y z (λ old new. (bytes : List ℕ) → IsAt bytes r (ahead r old) → s.last.start ≡ line_start (s.last.lines - 1) bytes)
began_too r s y z told = where_told_map y z (λ old new. (bytes : List ℕ) → IsAt bytes r (ahead r old) → IsAt bytes s (ahead s new)) (λ old new. (bytes : List ℕ) → IsAt bytes r (ahead r old) → s.last.start ≡ line_start (s.last.lines - 1) bytes)
    (λ a b f bytes at. (f bytes at).began) told

-- ---- what a place says

over_near : (line : List ℕ) (answer : Played) (K : Kernel) (c : Config) (all : Bool) (outputs : List Port) (lines : List (Line Command)) (near : ℕ → Type 0) (n : ℕ) (h h' : Option (List ℕ)) → near n
    → Over line answer K c all outputs lines (λ k. k ≡ n) h h' → Over line answer K c all outputs lines near h h'
over_near line answer K c all outputs lines near n h h' is o = record {
  bound = o.bound;
  shown = o.shown;
  texts = o.texts;
  written = o.written;
  ends = o.ends;
  before = o.before;
  behind = o.behind;
  parts = o.parts;
  place = subst near (sym o.place) is;
  before_waits = o.before_waits;
  before_shown = o.before_shown;
}

broken_near : (K : Kernel) (c : Config) (all : Bool) (outputs : List Port) (lines : List (Line Command)) (near : ℕ → Type 0) (n : ℕ) (h h' : Option (List ℕ)) → near n
    → Broken K c all outputs lines (λ k. k ≡ n) h h' → Broken K c all outputs lines near h h'
broken_near K c all outputs lines near n h h' is o = record { bound = o.bound; before = o.before; behind = o.behind; parts = o.parts; place = subst near (sym o.place) is; front = o.front }

cut_near : (K : Kernel) (c : Config) (all : Bool) (outputs : List Port) (lines : List (Line Command)) (near : ℕ → Type 0) (n : ℕ) (h h' : Option (List ℕ)) → near n
    → Cut K c all outputs lines (λ k. k ≡ n) h h' → Cut K c all outputs lines near h h'
cut_near K c all outputs lines near n h h' is o = record {
  read = o.read;
  rest = o.rest;
  lines_are = o.lines_are;
  good = o.good;
  bound = o.bound;
  waits = o.waits;
  shown = o.shown;
  texts = o.texts;
  written = o.written;
  end = subst near (sym o.end) is;
  before = o.before;
  behind = o.behind;
  parts = o.parts;
  place = subst near (sym o.place) is;
  before_waits = o.before_waits;
}

pub last_after : (a : After) → (a ≡ after.Waiting → ⊥) → (b : Option (ℕ × BadKind)) → last_line b (status_after a) ≡ last_line None (status_after a)
last_after after.Waiting other b = absurd (other refl)
last_after (after.Ended v) other None = refl
last_after (after.Ended v) other (Some b) = refl
last_after (after.Faulted fault place) other None = refl
last_after (after.Faulted fault place) other (Some b) = refl

pub ending_after : (a : After) → (a ≡ after.Waiting → ⊥) → (b : Option (ℕ × BadKind)) → ending b (status_after a) ≡ Some (after_answer a)
ending_after after.Waiting other b = absurd (other refl)
ending_after (after.Ended v) other None = refl
ending_after (after.Ended v) other (Some b) = refl
ending_after (after.Faulted fault place) other None = refl
ending_after (after.Faulted fault place) other (Some b) = refl

-- the same sink of lines
pub as_first : (S : Config → Type 0) (K : Kernel) (all all' : Bool) (outputs outputs' : List Port) (x : Command) (d : Config) (h h' : Option (List ℕ)) (r : Result After Failed) → all' ≡ all → outputs' ≡ outputs
    → Prints S (λ n. done K n x d) (λ n. command_text all' outputs' K n x d) h h' r → Prints S (λ n. done K n x d) (λ n. command_text all outputs K n x d) h h' r
as_first S K all all' outputs outputs' x d h h' r all_same outputs_same is =
    subst (λ (t : Bool). Prints S (λ n. done K n x d) (λ n. command_text t outputs K n x d) h h' r) all_same
    (subst (λ (o : List Port). Prints S (λ n. done K n x d) (λ n. command_text all' o K n x d) h h' r) outputs_same is)

-- ---- the ends

module _ (S : Config → Type 0) (K : Kernel) (c : Config) (all : Bool) (outputs inputs : List Port) (r s : Reader) (x y z h h' : Option (List ℕ))
    (going : WhereTold x y (λ old now. Reached S K c all outputs (script inputs (script_of old)) (script inputs (ahead r now)) r.last.lines h h')) where
  abbrev IsGoing : List ℕ → List ℕ → Type 0
  IsGoing old now = Reached S K c all outputs (script inputs (script_of old)) (script inputs (ahead r now)) r.last.lines h h'

  module _ (near : WhereTold x z (λ old new. Near old (length new) (s.last.lines - 1))) where
    pub stops_end : WhereTold y z (λ old new. Ends r.last.lines s.last.lines (script inputs (ahead r old))) → WhereTold x z (λ old new. Over (status_line Waits) Done K c all outputs (script inputs (script_of old)) (Near old (length new)) h h')
    stops_end told = where_told_both x z (λ old new. Over (status_line Waits) Done K c all outputs (script inputs (script_of old)) (λ k. k ≡ s.last.lines - 1) h h') (λ old new. Near old (length new) (s.last.lines - 1))
        (λ old new. Over (status_line Waits) Done K c all outputs (script inputs (script_of old)) (Near old (length new)) h h')
        (λ old new o n. over_near (status_line Waits) Done K c all outputs (script inputs (script_of old)) (Near old (length new)) (s.last.lines - 1) h h' n o)
        (where_told_then x y z IsGoing (λ old new. Ends r.last.lines s.last.lines (script inputs (ahead r old))) (λ old new. Over (status_line Waits) Done K c all outputs (script inputs (script_of old)) (λ k. k ≡ s.last.lines - 1) h h')
        (λ a b d so_far e. reached_last S K c all outputs (script inputs (script_of a)) (script inputs (ahead r b)) r.last.lines h h' so_far s.last.lines e) going told) near

    pub stops_bad : (number : ℕ) (kind : BadKind) → number ≡ s.last.lines → WhereTold y z (λ old new. Spoils kind r.last.lines number (script inputs (ahead r old)))
        → WhereTold x z (λ old new. Over (bad_line number kind) BadScript K c all outputs (script inputs (script_of old)) (Near old (length new)) h h')
    stops_bad number kind same told = where_told_both x z (λ old new. Over (bad_line number kind) BadScript K c all outputs (script inputs (script_of old)) (λ k. k ≡ number - 1) h h') (λ old new. Near old (length new) (s.last.lines - 1))
        (λ old new. Over (bad_line number kind) BadScript K c all outputs (script inputs (script_of old)) (Near old (length new)) h h')
        (λ old new o n. over_near (bad_line number kind) BadScript K c all outputs (script inputs (script_of old)) (Near old (length new)) (number - 1) h h' (subst (λ k. Near old (length new) (k - 1)) (sym same) n) o)
        (where_told_then x y z IsGoing (λ old new. Spoils kind r.last.lines number (script inputs (ahead r old))) (λ old new. Over (bad_line number kind) BadScript K c all outputs (script inputs (script_of old)) (λ k. k ≡ number - 1) h h')
        (λ a b d so_far e. reached_bad S K c all outputs (script inputs (script_of a)) (script inputs (ahead r b)) r.last.lines h h' so_far number kind e) going told) near

    pub stops_reading : WhereTold y z (λ old new. Skips r.last.lines s.last.lines (script inputs (ahead r old))) → WhereTold x z (λ old new. Cut K c all outputs (script inputs (script_of old)) (Near old (length new)) h h')
    stops_reading told = where_told_both x z (λ old new. Cut K c all outputs (script inputs (script_of old)) (λ k. k ≡ s.last.lines - 1) h h') (λ old new. Near old (length new) (s.last.lines - 1))
        (λ old new. Cut K c all outputs (script inputs (script_of old)) (Near old (length new)) h h')
        (λ old new o n. cut_near K c all outputs (script inputs (script_of old)) (Near old (length new)) (s.last.lines - 1) h h' n o)
        (where_told_then x y z IsGoing (λ old new. Skips r.last.lines s.last.lines (script inputs (ahead r old))) (λ old new. Cut K c all outputs (script inputs (script_of old)) (λ k. k ≡ s.last.lines - 1) h h')
        (λ a b d so_far e. reached_cut S K c all outputs (script inputs (script_of a)) (script inputs (ahead r b)) r.last.lines h h' so_far s.last.lines e) going told) near

    -- ---- a command
    module _ (command : Command) (h'' : Option (List ℕ)) (comes : WhereTold y z (λ old new. Comes command r.last.lines s.last.lines (script inputs (ahead r old)) (script inputs (ahead s new)))) where
      abbrev HasCome : List ℕ → List ℕ → Type 0
      HasCome old new = Comes command r.last.lines s.last.lines (script inputs (ahead r old)) (script inputs (ahead s new))

      pub goes_on : (S' : Config → Type 0) → ((d : Config) → S d → status_of d ≡ Waits → Printed S' (λ n. done K n command d) (λ n. command_text all outputs K n command d) h' h'' after.Waiting)
          → WhereTold x z (λ old now. Reached S' K c all outputs (script inputs (script_of old)) (script inputs (ahead s now)) s.last.lines h h'')
      goes_on S' prints = where_told_then x y z IsGoing HasCome (λ old now. Reached S' K c all outputs (script inputs (script_of old)) (script inputs (ahead s now)) s.last.lines h h'')
          (λ a b d so_far e. reached_more S K c all outputs (script inputs (script_of a)) (script inputs (ahead r b)) r.last.lines h h' so_far command e.skips s.last.lines (script inputs (ahead s d)) e.counted e.lines_are S' h'' (prints so_far.config so_far.here so_far.waits)) going comes

      pub stops_over : (a : After) (S' : Config → Type 0) → (a ≡ after.Waiting → ⊥) → ((d : Config) → S d → status_of d ≡ Waits → Printed S' (λ n. done K n command d) (λ n. command_text all outputs K n command d) h' h'' a)
          → WhereTold x z (λ old new. Over (status_line (status_after a)) (after_answer a) K c all outputs (script inputs (script_of old)) (Near old (length new)) h h'')
      stops_over a S' other prints = where_told_both x z (λ old new. Over (status_line (status_after a)) (after_answer a) K c all outputs (script inputs (script_of old)) (λ k. k ≡ s.last.lines - 1) h h'') (λ old new. Near old (length new) (s.last.lines - 1))
          (λ old new. Over (status_line (status_after a)) (after_answer a) K c all outputs (script inputs (script_of old)) (Near old (length new)) h h'')
          (λ old new o n. over_near (status_line (status_after a)) (after_answer a) K c all outputs (script inputs (script_of old)) (Near old (length new)) (s.last.lines - 1) h h'' n o)
          (where_told_then x y z IsGoing HasCome (λ old new. Over (status_line (status_after a)) (after_answer a) K c all outputs (script inputs (script_of old)) (λ k. k ≡ s.last.lines - 1) h h'')
          (λ o b d so_far e. let p = prints so_far.config so_far.here so_far.waits in
          reached_end S K c all outputs (script inputs (script_of o)) (script inputs (ahead r b)) r.last.lines h h' so_far command e.skips s.last.lines (script inputs (ahead s d)) e.counted e.lines_are
          a (after_answer a) S' h'' p (not_waiting_settled p.config a p.status other) (last_after a other) (ending_after a other)) going comes) near

      pub stops_writing : ((d : Config) → S d → status_of d ≡ Waits → CutShort (λ n. command_text all outputs K n command d) h' h'') → WhereTold x z (λ old new. Broken K c all outputs (script inputs (script_of old)) (Near old (length new)) h h'')
      stops_writing prints = where_told_both x z (λ old new. Broken K c all outputs (script inputs (script_of old)) (λ k. k ≡ s.last.lines - 1) h h'') (λ old new. Near old (length new) (s.last.lines - 1))
          (λ old new. Broken K c all outputs (script inputs (script_of old)) (Near old (length new)) h h'')
          (λ old new o n. broken_near K c all outputs (script inputs (script_of old)) (Near old (length new)) (s.last.lines - 1) h h'' n o)
          (where_told_then x y z IsGoing HasCome (λ old new. Broken K c all outputs (script inputs (script_of old)) (λ k. k ≡ s.last.lines - 1) h h'')
          (λ o b d so_far e. reached_break S K c all outputs (script inputs (script_of o)) (script inputs (ahead r b)) r.last.lines h h' so_far command e.skips s.last.lines (script inputs (ahead s d)) e.counted e.lines_are h'' (prints so_far.config so_far.here so_far.waits)) going comes) near

pub still_waiting : (old new : Kernel → Config → Type 0) (a : After) (inputs : List Port) → a ≡ after.Waiting → StillWaits old new (Ok a) → IsWaiting old inputs → IsWaiting new inputs
still_waiting old new a inputs is still w = subst (λ (q : After). StillWaits old new (Ok q)) is still inputs w
