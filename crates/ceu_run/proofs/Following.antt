-- A run on a script, as far as it was read.
use Rattle.std.proofs.Common.{◌≡◌, ℕ, zero, suc, ◌+◌, ◌-◌, ◌≤◌, ◌<◌, Bool, List, [], ◌∷◌, ◌++◌, length, take, Option, Some, None, refl, inr, sym, ap, ◌∙◌, subst, arith, append_assoc, length-append, replicate}
use Rattle.std.proofs.lemmas.List.{append-nil}
use Rattle.ceu_base.specs.declared.kinds.Port.{Port}
use Rattle.ceu_io.specs.Bytes.{Appends, AppendsProperFront}
use Rattle.ceu_io.proofs.Offers.{appends_nothing, appends_then}
use Rattle.ceu_script.specs.Lines.{Line, skipped, content, bad, Spoils, Ends}
use Rattle.ceu_script.specs.Places.{Skips}
use Rattle.ceu_script.specs.declared.items.BadKind.{BadKind}
use Rattle.ceu_tree.specs.declared.command.Command.{Command}
use Rattle.ceu_tree.specs.declared.kernel.Kernel.{Kernel}
use Rattle.ceu_tree.specs.Run.{Config, Status, Waits, status_of, done, all_done}
use Rattle.ceu_run.specs.Reactions.{status_after}
use Rattle.ceu_run.specs.Printing.{Printed, CutShort, commands_of, bad_of, IsGood, command_text, commands_text, last_line, text_from}
use Rattle.ceu_run.specs.Playing.{ending}
use Rattle.ceu_run.specs.Stops.{Over, Broken, Cut}
use Rattle.ceu_run.specs.declared.answers.Played.{Played}
use Rattle.ceu_run.specs.declared.answers.Played.TheVariants.{Done, Script as BadScript}
use Rattle.ceu_run.specs.declared.reactor.After.{After}
use Rattle.ceu_run.specs.declared.reactor.After.TheVariants as after
use Rattle.ceu_run.proofs.Fronts.{front_past, front_of_more}
use Rattle.ceu_run.proofs.Scripting.{commands-append, only_skips, skips_good, good-append, length-skips, bad-append, all_done-append, one_done, none_done, commands_text-append}
use Rattle.ceu_run.proofs.Settled.{Settled, all_stays, commands_print_nothing}

-- the program waits after the lines `read`, and `rest` is left; it waited before the last of them too
pub record Reached (S : Config → Type 0) (K : Kernel) (c : Config) (all : Bool) (outputs : List Port) (lines rest : List (Line Command)) (number : ℕ) (held now : Option (List ℕ)) : Type 0 where
  pub read : List (Line Command)
  pub lines_are : lines ≡ read ++ rest
  pub counted : length read ≡ number
  pub good : IsGood read
  pub config : Config
  pub bound : ℕ
  pub comes : (n : ℕ) → bound ≤ n → all_done K n (commands_of read) c ≡ config
  pub here : S config
  pub waits : status_of config ≡ Waits
  pub shown : List ℕ
  pub texts : (n : ℕ) → bound ≤ n → commands_text all outputs K n (commands_of read) c ≡ shown
  pub written : Appends shown held now
  pub before : List (Line Command)
  pub behind : List (Line Command)
  pub parts : lines ≡ before ++ behind
  pub size : length before ≡ number - 1
  pub before_waits : (n : ℕ) → bound ≤ n → status_of (all_done K n (commands_of before) c) ≡ Waits
  pub before_shown : (n : ℕ) → bound ≤ n → length (commands_text all outputs K n (commands_of before) c) ≤ length shown

pub reached_none : (S : Config → Type 0) (K : Kernel) (c : Config) (all : Bool) (outputs : List Port) (lines : List (Line Command)) (held : Option (List ℕ)) → S c → status_of c ≡ Waits → Reached S K c all outputs lines lines 0 held held
reached_none S K c all outputs lines held here waits = record {
  read = [];
  lines_are = refl;
  counted = refl;
  good = tt;
  config = c;
  bound = 0;
  comes = λ n h. none_done K n c;
  here = here;
  waits = waits;
  shown = [];
  texts = λ n h. refl;
  written = appends_nothing held;
  before = [];
  behind = lines;
  parts = refl;
  size = refl;
  before_waits = λ n h. ap status_of (none_done K n c) ∙ waits;
  before_shown = λ n h. omega arith;
}

-- ---- the lines of the next call
module _ (S : Config → Type 0) (K : Kernel) (c : Config) (all : Bool) (outputs : List Port) (lines rest : List (Line Command)) (number : ℕ) (x y : Option (List ℕ)) (so_far : Reached S K c all outputs lines rest number x y) where
  -- so many lines were skipped
  skipped_read : ℕ → List (Line Command)
  skipped_read k = so_far.read ++ replicate k skipped

  skipped_commands : (k : ℕ) → commands_of (skipped_read k) ≡ commands_of so_far.read
  unfolding skipped_read
  skipped_commands k = commands-append so_far.read (replicate k skipped) ∙ ap (λ (l : List Command). commands_of so_far.read ++ l) (only_skips k) ∙ append-nil (commands_of so_far.read)

  skipped_length : (k : ℕ) → length (skipped_read k) ≡ number + k
  unfolding skipped_read
  skipped_length k = omega (arith, length-append so_far.read (replicate k skipped), length-skips k, so_far.counted)

  skipped_is_good : (k : ℕ) → IsGood (skipped_read k)
  unfolding skipped_read
  skipped_is_good k = good-append so_far.read (replicate k skipped) so_far.good (skips_good k)

  skipped_parts : (k : ℕ) (more : List (Line Command)) → rest ≡ replicate k skipped ++ more → lines ≡ skipped_read k ++ more
  unfolding skipped_read
  skipped_parts k more is = so_far.lines_are ∙ ap (λ (l : List (Line Command)). so_far.read ++ l) is ∙ sym (append_assoc so_far.read (replicate k skipped) more)

  skipped_waits : (k n : ℕ) → so_far.bound ≤ n → status_of (all_done K n (commands_of (skipped_read k)) c) ≡ Waits
  skipped_waits k n h = ap (λ (l : List Command). status_of (all_done K n l c)) (skipped_commands k) ∙ ap status_of (so_far.comes n h) ∙ so_far.waits

  skipped_texts : (k n : ℕ) → so_far.bound ≤ n → commands_text all outputs K n (commands_of (skipped_read k)) c ≡ so_far.shown
  skipped_texts k n h = ap (λ (l : List Command). commands_text all outputs K n l c) (skipped_commands k) ∙ so_far.texts n h

  -- ---- a command
  module _ (command : Command) (k after_number : ℕ) (more : List (Line Command)) (counted : after_number ≡ number + k + 1) (rest_is : rest ≡ replicate k skipped ++ content command ∷ more) where
    one_read : List (Line Command)
    one_read = skipped_read k ++ content command ∷ []

    one_commands : commands_of one_read ≡ commands_of so_far.read ++ command ∷ []
    unfolding one_read
    one_commands = commands-append (skipped_read k) (content command ∷ []) ∙ ap (λ (l : List Command). l ++ command ∷ []) (skipped_commands k)

    one_parts : lines ≡ one_read ++ more
    unfolding one_read
    one_parts = skipped_parts k (content command ∷ more) rest_is ∙ sym (append_assoc (skipped_read k) (content command ∷ []) more)

    one_length : length one_read ≡ after_number
    unfolding one_read
    one_length = omega (arith, length-append (skipped_read k) (content command ∷ []), skipped_length k, counted)

    one_good : IsGood one_read
    unfolding one_read
    one_good = good-append (skipped_read k) (content command ∷ []) (skipped_is_good k) tt

    one_config : (n : ℕ) → so_far.bound ≤ n → all_done K n (commands_of one_read) c ≡ done K n command so_far.config
    one_config n h = ap (λ (l : List Command). all_done K n l c) one_commands ∙ all_done-append K n (commands_of so_far.read) (command ∷ []) c ∙ one_done K n command (all_done K n (commands_of so_far.read) c) ∙ ap (done K n command) (so_far.comes n h)

    one_text : (n : ℕ) → so_far.bound ≤ n → commands_text all outputs K n (commands_of one_read) c ≡ so_far.shown ++ command_text all outputs K n command so_far.config
    one_text n h = ap (λ (l : List Command). commands_text all outputs K n l c) one_commands ∙ commands_text-append all outputs K n (commands_of so_far.read) (command ∷ []) c
        ∙ (λ i. so_far.texts n h i ++ commands_text all outputs K n (command ∷ []) (so_far.comes n h i)) ∙ ap (λ (l : List ℕ). so_far.shown ++ l) (append-nil (command_text all outputs K n command so_far.config))

    before_length : length (skipped_read k) ≡ after_number - 1
    before_length = omega (arith, skipped_length k, counted)

    less_shown : (xs ys : List ℕ) → length xs ≤ length (xs ++ ys)
    less_shown xs ys = omega (arith, length-append xs ys)

    -- it waits again
    pub reached_more : (S' : Config → Type 0) (z : Option (List ℕ)) → Printed S' (λ n. done K n command so_far.config) (λ n. command_text all outputs K n command so_far.config) y z after.Waiting
        → Reached S' K c all outputs lines more after_number x z
    reached_more S' z p = record {
      read = one_read;
      lines_are = one_parts;
      counted = one_length;
      good = one_good;
      config = p.config;
      bound = so_far.bound + p.bound;
      comes = λ n h. one_config n (omega arith) ∙ p.comes n (omega arith);
      here = p.here;
      waits = p.status;
      shown = so_far.shown ++ p.shown;
      texts = λ n h. one_text n (omega arith) ∙ ap (λ (l : List ℕ). so_far.shown ++ l) (p.texts n (omega arith));
      written = appends_then so_far.shown p.shown x y z so_far.written p.written;
      before = skipped_read k;
      behind = content command ∷ more;
      parts = skipped_parts k (content command ∷ more) rest_is;
      size = before_length;
      before_waits = λ n h. skipped_waits k n (omega arith);
      before_shown = λ n h. subst (λ (l : List ℕ). length l ≤ length (so_far.shown ++ p.shown)) (sym (skipped_texts k n (omega arith))) (less_shown so_far.shown p.shown);
    }

    -- what is printed of the lines behind
    tail_text : ℕ → List ℕ
    tail_text n = commands_text all outputs K n (commands_of more) (all_done K n (commands_of one_read) c) ++ last_line (bad_of 1 lines) (status_of (all_done K n (commands_of lines) c))

    whole_text : (n : ℕ) → so_far.bound ≤ n → text_from all outputs K n lines c ≡ so_far.shown ++ (command_text all outputs K n command so_far.config ++ tail_text n)
    unfolding tail_text
    whole_text n h =
        let t = command_text all outputs K n command so_far.config in
        let l = last_line (bad_of 1 lines) (status_of (all_done K n (commands_of lines) c)) in
        let m = commands_text all outputs K n (commands_of more) (all_done K n (commands_of one_read) c) in
        let first : commands_text all outputs K n (commands_of lines) c ≡ (so_far.shown ++ t) ++ m =
        ap (λ (q : List (Line Command)). commands_text all outputs K n (commands_of q) c) one_parts ∙ ap (λ (q : List Command). commands_text all outputs K n q c) (commands-append one_read more)
        ∙ commands_text-append all outputs K n (commands_of one_read) (commands_of more) c ∙ ap (λ (q : List ℕ). q ++ m) (one_text n h) in
        ap (λ (q : List ℕ). q ++ l) first ∙ append_assoc (so_far.shown ++ t) m l ∙ append_assoc so_far.shown t (m ++ l)

    -- it waits no longer
    pub reached_end : (a : After) (answer : Played) (S' : Config → Type 0) (z : Option (List ℕ)) (p : Printed S' (λ n. done K n command so_far.config) (λ n. command_text all outputs K n command so_far.config) y z a) → Settled p.config
        → ((b : Option (ℕ × BadKind)) → last_line b (status_after a) ≡ last_line None (status_after a)) → ((b : Option (ℕ × BadKind)) → ending b (status_after a) ≡ Some answer)
        → Over (last_line None (status_after a)) answer K c all outputs lines (λ k. k ≡ after_number - 1) x z
    unfolding tail_text
    reached_end a answer S' z p settled lines_as ends_as =
        let stays : (n : ℕ) → so_far.bound + p.bound ≤ n → all_done K n (commands_of lines) c ≡ p.config =
        λ n h. ap (λ (q : List (Line Command)). all_done K n (commands_of q) c) one_parts ∙ ap (λ (q : List Command). all_done K n q c) (commands-append one_read more) ∙ all_done-append K n (commands_of one_read) (commands_of more) c
        ∙ ap (λ (d : Config). all_done K n (commands_of more) d) (one_config n (omega arith) ∙ p.comes n (omega arith)) ∙ all_stays K n (commands_of more) p.config settled in
        record {
          bound = so_far.bound + p.bound;
          shown = so_far.shown ++ p.shown;
          texts = λ n h. whole_text n (omega arith) ∙ sym (append_assoc so_far.shown (command_text all outputs K n command so_far.config) (tail_text n))
              ∙ (λ i. (so_far.shown ++ p.texts n (omega arith) i) ++ (commands_text all outputs K n (commands_of more) ((one_config n (omega arith) ∙ p.comes n (omega arith)) i) ++ last_line (bad_of 1 lines) (status_of (stays n h i))))
              ∙ (λ i. (so_far.shown ++ p.shown) ++ (commands_print_nothing all outputs K n (commands_of more) p.config settled i ++ last_line (bad_of 1 lines) (p.status i)))
              ∙ ap (λ (l : List ℕ). (so_far.shown ++ p.shown) ++ l) (lines_as (bad_of 1 lines));
          written = appends_then so_far.shown p.shown x y z so_far.written p.written;
          ends = λ n h. ap (λ (d : Config). ending (bad_of 1 lines) (status_of d)) (stays n h) ∙ ap (ending (bad_of 1 lines)) p.status ∙ ends_as (bad_of 1 lines);
          before = skipped_read k;
          behind = content command ∷ more;
          parts = skipped_parts k (content command ∷ more) rest_is;
          place = before_length;
          before_waits = λ n h. inr (skipped_waits k n (omega arith));
          before_shown = λ n h. subst (λ (l : List ℕ). length l ≤ length (so_far.shown ++ p.shown)) (sym (skipped_texts k n (omega arith))) (less_shown so_far.shown p.shown);
        }

    -- the sink failed
    front_of : (z : Option (List ℕ)) (n : ℕ) → so_far.bound ≤ n → AppendsProperFront (command_text all outputs K n command so_far.config) y z
        → (m : ℕ) × (m < length (text_from all outputs K n lines c)) × Appends (take m (text_from all outputs K n lines c)) x z × (length so_far.shown ≤ m)
    front_of z n h f =
        let g = front_of_more (command_text all outputs K n command so_far.config) (tail_text n) y z f in
        let t = front_past so_far.shown (command_text all outputs K n command so_far.config ++ tail_text n) x y z so_far.written g in
        let e = whole_text n h in
        (t.0, subst (λ (l : List ℕ). t.0 < length l) (sym e) t.1, subst (λ (l : List ℕ). Appends (take t.0 l) x z) (sym e) t.2, t.3)

    pub reached_break : (z : Option (List ℕ)) → CutShort (λ n. command_text all outputs K n command so_far.config) y z → Broken K c all outputs lines (λ k. k ≡ after_number - 1) x z
    reached_break z cut = record {
      bound = so_far.bound + cut.bound;
      before = skipped_read k;
      behind = content command ∷ more;
      parts = skipped_parts k (content command ∷ more) rest_is;
      place = before_length;
      front = λ n h. let f = front_of z n (omega arith) (cut.front n (omega arith)) in
          (f.0, f.1, f.2, subst (λ (l : List ℕ). length l ≤ f.0) (sym (skipped_texts k n (omega arith))) f.3);
    }

  -- ---- an end without a command

  -- one line less, where there is one
  last_skipped : (k : ℕ) → List (Line Command)
  last_skipped zero = so_far.before
  last_skipped (suc k) = skipped_read k

  more_skipped : (k : ℕ) (more : List (Line Command)) → replicate (suc k) skipped ++ more ≡ replicate k skipped ++ skipped ∷ more
  more_skipped zero more = refl
  more_skipped (suc k) more = ap (λ (l : List (Line Command)). skipped ∷ l) (more_skipped k more)

  last_parts : (k : ℕ) (more : List (Line Command)) → rest ≡ replicate k skipped ++ more → (behind : List (Line Command)) × (lines ≡ last_skipped k ++ behind)
  unfolding last_skipped
  last_parts zero more is = (so_far.behind, so_far.parts)
  last_parts (suc k) more is = (skipped ∷ more, skipped_parts k (skipped ∷ more) (is ∙ more_skipped k more))

  last_size : (k : ℕ) → length (last_skipped k) ≡ number + k - 1
  unfolding last_skipped
  last_size zero = omega (arith, so_far.size)
  last_size (suc k) = omega (arith, skipped_length k)

  last_waits : (k n : ℕ) → so_far.bound ≤ n → status_of (all_done K n (commands_of (last_skipped k)) c) ≡ Waits
  unfolding last_skipped
  last_waits zero n h = so_far.before_waits n h
  last_waits (suc k) n h = skipped_waits k n h

  last_shown : (k n : ℕ) → so_far.bound ≤ n → length (commands_text all outputs K n (commands_of (last_skipped k)) c) ≤ length so_far.shown
  unfolding last_skipped
  last_shown zero n h = so_far.before_shown n h
  last_shown (suc k) n h = subst (λ (l : List ℕ). length l ≤ length so_far.shown) (sym (skipped_texts k n h)) (omega arith)

  skipped_all : (k : ℕ) (more : List (Line Command)) → rest ≡ replicate k skipped ++ more → commands_of more ≡ [] → commands_of lines ≡ commands_of so_far.read
  skipped_all k more is none = ap commands_of (skipped_parts k more is) ∙ commands-append (skipped_read k) more ∙ (λ i. skipped_commands k i ++ none i) ∙ append-nil (commands_of so_far.read)

  -- the text and the end, where no command is left
  quiet_text : (more : List (Line Command)) (b : Option (ℕ × BadKind)) → commands_of lines ≡ commands_of so_far.read → bad_of 1 lines ≡ b → (n : ℕ) → so_far.bound ≤ n → text_from all outputs K n lines c ≡ so_far.shown ++ last_line b Waits
  quiet_text more b commands spoilt n h =
      (λ i. commands_text all outputs K n (commands i) c ++ last_line (spoilt i) (status_of (all_done K n (commands i) c)))
      ∙ (λ i. so_far.texts n h i ++ last_line b (status_of (so_far.comes n h i))) ∙ ap (λ (s : Status). so_far.shown ++ last_line b s) so_far.waits

  quiet_ends : (b : Option (ℕ × BadKind)) (answer : Played) → commands_of lines ≡ commands_of so_far.read → bad_of 1 lines ≡ b → ending b Waits ≡ Some answer → (n : ℕ) → so_far.bound ≤ n → ending (bad_of 1 lines) (status_of (all_done K n (commands_of lines) c)) ≡ Some answer
  quiet_ends b answer commands spoilt is n h = (λ i. ending (spoilt i) (status_of (all_done K n (commands i) c))) ∙ ap (λ (d : Config). ending b (status_of d)) (so_far.comes n h) ∙ ap (ending b) so_far.waits ∙ is

  no_more : (xs : List (Line Command)) → xs ≡ xs ++ []
  no_more xs = sym (append-nil xs)

  -- the script's end
  pub reached_last : (after_number : ℕ) → Ends number after_number rest → Over (last_line None Waits) Done K c all outputs lines (λ k. k ≡ after_number - 1) x y
  reached_last after_number e =
      let is = e.lines_are ∙ no_more (replicate e.skips skipped) in
      let commands = skipped_all e.skips [] is refl in
      let good : bad_of 1 lines ≡ None = ap (bad_of 1) (skipped_parts e.skips [] is) ∙ bad-append 1 (skipped_read e.skips) [] (skipped_is_good e.skips) in
      let parts = last_parts e.skips [] is in
      record {
        bound = so_far.bound;
        shown = so_far.shown;
        texts = quiet_text [] None commands good;
        written = so_far.written;
        ends = quiet_ends None Done commands good refl;
        before = last_skipped e.skips;
        behind = parts.0;
        parts = parts.1;
        place = last_size e.skips ∙ ap (λ k. k - 1) (sym e.counted);
        before_waits = λ n h. inr (last_waits e.skips n h);
        before_shown = last_shown e.skips;
      }

  -- a bad line
  pub reached_bad : (after_number : ℕ) (kind : BadKind) → Spoils kind number after_number rest → Over (last_line (Some (after_number, kind)) Waits) BadScript K c all outputs lines (λ k. k ≡ after_number - 1) x y
  reached_bad after_number kind e =
      let commands = skipped_all e.skips (bad kind ∷ []) e.lines_are refl in
      let place : 1 + length (skipped_read e.skips) ≡ after_number = omega (arith, skipped_length e.skips, e.counted) in
      let is : bad_of 1 lines ≡ Some (after_number, kind) =
      ap (bad_of 1) (skipped_parts e.skips (bad kind ∷ []) e.lines_are) ∙ bad-append 1 (skipped_read e.skips) (bad kind ∷ []) (skipped_is_good e.skips) ∙ ap (λ k. bad_of k (bad kind ∷ [])) place in
      record {
        bound = so_far.bound;
        shown = so_far.shown;
        texts = quiet_text [] (Some (after_number, kind)) commands is;
        written = so_far.written;
        ends = quiet_ends (Some (after_number, kind)) BadScript commands is refl;
        before = skipped_read e.skips;
        behind = bad kind ∷ [];
        parts = skipped_parts e.skips (bad kind ∷ []) e.lines_are;
        place = omega (arith, skipped_length e.skips, e.counted);
        before_waits = λ n h. inr (skipped_waits e.skips n h);
        before_shown = λ n h. subst (λ (l : List ℕ). length l ≤ length so_far.shown) (sym (skipped_texts e.skips n h)) (omega arith);
      }

  -- the source failed
  pub reached_cut : (after_number : ℕ) → Skips number after_number rest → Cut K c all outputs lines (λ k. k ≡ after_number - 1) x y
  reached_cut after_number e =
      let parts = last_parts e.skips e.rest e.lines_are in
      record {
        read = skipped_read e.skips;
        rest = e.rest;
        lines_are = skipped_parts e.skips e.rest e.lines_are;
        good = skipped_is_good e.skips;
        bound = so_far.bound;
        waits = skipped_waits e.skips;
        shown = so_far.shown;
        texts = skipped_texts e.skips;
        written = so_far.written;
        end = omega (arith, skipped_length e.skips, e.counted);
        before = last_skipped e.skips;
        behind = parts.0;
        parts = parts.1;
        place = last_size e.skips ∙ ap (λ k. k - 1) (sym e.counted);
        before_waits = λ n h. inr (last_waits e.skips n h);
      }
