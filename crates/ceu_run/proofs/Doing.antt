-- What a reactor has done, command by command.
use Rattle.std.proofs.Common.{◌≡◌, inl, inr, ℕ, zero, suc, ◌+◌, ◌-◌, ◌<◌, List, [], ◌∷◌, ◌++◌, Option, Result, Ok, Err, IfOk, OnOk, refl, sym, ap, ◌∙◌, subst, arith, add-zero, append_assoc}
use Rattle.std.proofs.lemmas.List.{append-nil}
use Rattle.ceu_io.specs.declared.outside.Failed.{Failed}
use Rattle.ceu_script.specs.Lines.{Line, content, bad, Comes, Spoils, Ends}
use Rattle.ceu_script.specs.declared.items.BadKind.{BadKind}
use Rattle.ceu_tree.specs.declared.command.Command.{Command}
use Rattle.ceu_tree.specs.declared.command.Command.TheVariants.{Idle}
use Rattle.ceu_tree.specs.Run.{Config, Status, Waits, HasEnded, HasFaulted, status_of}
use Rattle.ceu_run.specs.Doing.{HasDone, WhereStopped, WherePlayed}
use Rattle.ceu_run.specs.Printing.{Prints, commands_of}
use Rattle.ceu_run.specs.Reactions.{status_after}
use Rattle.ceu_run.specs.Stops.{EndsWith, Finishes, after_answer}
use Rattle.ceu_run.specs.declared.answers.Played.{Played}
use Rattle.ceu_run.specs.declared.answers.Played.TheVariants as played
use Rattle.ceu_run.specs.declared.follow.Stop.{Stop}
use Rattle.ceu_run.specs.declared.follow.Stop.TheVariants as stop
use Rattle.ceu_run.specs.declared.reactor.After.{After}
use Rattle.ceu_run.specs.declared.reactor.After.TheVariants as after
use Rattle.ceu_run.proofs.Scripting.{skips_command_nothing, only_skips}

ended_waits : (s : Status) (v : _) → s ≡ HasEnded v → s ≡ Waits → ⊥
ended_waits s v is waits = absurd (cc)

faulted_waits : (s : Status) (e : _) → s ≡ HasFaulted e → s ≡ Waits → ⊥
faulted_waits s e is waits = absurd (cc)

-- `ran` says which commands a reactor did, and `over` that one whose program waits no longer did any more
module _ (S : Config → Type 0) (ran : List Command → Type 0) (over : (c : Config) (xs ys : List Command) → S c → (status_of c ≡ Waits → ⊥) → ran xs → ran (xs ++ ys)) where
  pub has_done : (xs : List Command) (c : Config) (a : After) → S c → status_of c ≡ status_after a → ran xs → HasDone ran xs a
  has_done xs c after.Waiting here is did = did
  has_done xs c (after.Ended v) here is did = λ more. over c xs more here (ended_waits (status_of c) v is) did
  has_done xs c (after.Faulted fault place) here is did = λ more. over c xs more here (faulted_waits (status_of c) (fault, place) is) did

  pub prints_done : (later : ℕ → Config) (text : ℕ → List ℕ) (x y : Option (List ℕ)) (xs : List Command) (r : Result After Failed) → Prints S later text x y r → OnOk r (ran xs) → IfOk r (HasDone ran xs)
  prints_done later text x y xs (Ok a) p did = has_done xs p.config a p.here p.status did
  prints_done later text x y xs (Err e) p did = tt

-- ---- idle turns

one_after : (turn more : ℕ) → turn + 1 + more ≡ turn + suc more
one_after turn more = omega arith

rest_of : (turns turn : ℕ) → turn < turns → turn + (turns - turn) ≡ turns
rest_of turns turn less = omega arith

module _ (ran : List Command → Type 0) (more_turns : (xs ys : List Command) (m n : ℕ) → ran (xs ++ Idle m ∷ Idle n ∷ ys) → ran (xs ++ Idle (m + n) ∷ ys)) (xs : List Command) where
  -- one turn more
  pub one_turn : (turn : ℕ) → ran ((xs ++ Idle turn ∷ []) ++ Idle 1 ∷ []) → ran (xs ++ Idle (turn + 1) ∷ [])
  one_turn turn did = more_turns xs [] turn 1 (subst ran (append_assoc xs (Idle turn ∷ []) (Idle 1 ∷ [])) did)

  -- turns more that change nothing
  turns_on : ((ys : List Command) → ran ys → ran (ys ++ Idle 1 ∷ [])) → (turn more : ℕ) → ran (xs ++ Idle turn ∷ []) → ran (xs ++ Idle (turn + more) ∷ [])
  turns_on same turn zero did = subst (λ k. ran (xs ++ Idle k ∷ [])) (sym (add-zero turn)) did
  turns_on same turn (suc more) did = subst (λ k. ran (xs ++ Idle k ∷ [])) (one_after turn more) (turns_on same (turn + 1) more (one_turn turn (same (xs ++ Idle turn ∷ []) did)))

  pub same_turns : (turns turn : ℕ) → turn < turns → ((ys : List Command) → ran ys → ran (ys ++ Idle 1 ∷ [])) → ran (xs ++ Idle turn ∷ []) → ran (xs ++ Idle turns ∷ [])
  same_turns turns turn less same did = subst (λ k. ran (xs ++ Idle k ∷ [])) (rest_of turns turn less) (turns_on same turn (turns - turn) did)

  -- no turn is left out after an end
  turns_left : (turns turn : ℕ) → turn < turns → turn + 1 + (turns - (turn + 1)) ≡ turns
  turns_left turns turn less = omega arith

  all_turns : (turns turn : ℕ) → turn < turns → ((more : List Command) → ran (((xs ++ Idle turn ∷ []) ++ Idle 1 ∷ []) ++ more)) → (more : List Command) → ran ((xs ++ Idle turns ∷ []) ++ more)
  all_turns turns turn less did more =
      let left = turns - (turn + 1) in
      let one : ran (xs ++ Idle turn ∷ Idle 1 ∷ Idle left ∷ more) =
      subst ran (append_assoc (xs ++ Idle turn ∷ []) (Idle 1 ∷ []) (Idle left ∷ more) ∙ append_assoc xs (Idle turn ∷ []) (Idle 1 ∷ Idle left ∷ more)) (did (Idle left ∷ more)) in
      let two : ran (xs ++ Idle (turn + 1) ∷ Idle left ∷ more) = more_turns xs (Idle left ∷ more) turn 1 one in
      let three : ran (xs ++ Idle turns ∷ more) = subst (λ k. ran (xs ++ Idle k ∷ more)) (turns_left turns turn less) (more_turns xs more (turn + 1) left two) in
      subst ran (sym (append_assoc xs (Idle turns ∷ []) more)) three

  pub last_turn : (turns turn : ℕ) (a : After) → turn < turns → (a ≡ after.Waiting → ⊥) → HasDone ran ((xs ++ Idle turn ∷ []) ++ Idle 1 ∷ []) a → HasDone ran (xs ++ Idle turns ∷ []) a
  last_turn turns turn after.Waiting less other did = absurd (other refl)
  last_turn turns turn (after.Ended v) less other did = all_turns turns turn less did
  last_turn turns turn (after.Faulted fault place) less other did = all_turns turns turn less did

-- ---- lines of a script

-- the reactor did the commands before `rest`
pub record Did (ran : List Command → Type 0) (xs : List Command) (lines rest : List (Line Command)) : Type 0 where
  pub ones : List Command
  pub commands_are : commands_of lines ≡ ones ++ commands_of rest
  pub ran_so : ran (xs ++ ones)

pub did_none : (ran : List Command → Type 0) (xs : List Command) (lines : List (Line Command)) → ran xs → Did ran xs lines lines
did_none ran xs lines did = record { ones = []; commands_are = refl; ran_so = subst ran (sym (append-nil xs)) did }

module _ (ran : List Command → Type 0) (xs : List Command) (lines rest : List (Line Command)) (so_far : Did ran xs lines rest) where
  none_left : commands_of rest ≡ [] → ran (xs ++ commands_of lines)
  none_left none = subst (λ l. ran (xs ++ l)) (sym (so_far.commands_are ∙ ap (λ (l : List Command). so_far.ones ++ l) none ∙ append-nil so_far.ones)) so_far.ran_so

  pub did_all : (number after_number : ℕ) → Ends number after_number rest → ran (xs ++ commands_of lines)
  did_all number after_number e = none_left (ap commands_of e.lines_are ∙ only_skips e.skips)

  pub did_good : (number after_number : ℕ) (kind : BadKind) → Spoils kind number after_number rest → ran (xs ++ commands_of lines)
  did_good number after_number kind e = none_left (ap commands_of e.lines_are ∙ skips_command_nothing e.skips (bad kind ∷ []))

  -- ---- a command
  module _ (x : Command) (number after_number : ℕ) (more : List (Line Command)) (e : Comes x number after_number rest more) (ran' : List Command → Type 0) where
    next : commands_of lines ≡ so_far.ones ++ x ∷ commands_of more
    next = so_far.commands_are ∙ ap (λ (l : List Command). so_far.ones ++ l) (ap commands_of e.lines_are ∙ skips_command_nothing e.skips (content x ∷ more))

    pub did_more : ran' ((xs ++ so_far.ones) ++ x ∷ []) → Did ran' xs lines more
    did_more did = record {
      ones = so_far.ones ++ x ∷ [];
      commands_are = next ∙ sym (append_assoc so_far.ones (x ∷ []) (commands_of more));
      ran_so = subst ran' (append_assoc xs so_far.ones (x ∷ [])) did;
    }

    did_over_all : ((ys : List Command) → ran' (((xs ++ so_far.ones) ++ x ∷ []) ++ ys)) → ran' (xs ++ commands_of lines)
    did_over_all did = subst ran' (append_assoc (xs ++ so_far.ones) (x ∷ []) (commands_of more) ∙ append_assoc xs so_far.ones (x ∷ commands_of more) ∙ ap (λ (l : List Command). xs ++ l) (sym next)) (did (commands_of more))

    pub did_over : (a : After) → (a ≡ after.Waiting → ⊥) → HasDone ran' ((xs ++ so_far.ones) ++ x ∷ []) a → ran' (xs ++ commands_of lines)
    did_over after.Waiting other did = absurd (other refl)
    did_over (after.Ended v) other did = did_over_all did
    did_over (after.Faulted fault place) other did = did_over_all did

pub done_over : (ran : List Command → Type 0) (xs : List Command) (a : After) → (a ≡ after.Waiting → ⊥) → HasDone ran [] a → ran xs
done_over ran xs after.Waiting other did = absurd (other refl)
done_over ran xs (after.Ended v) other did = did xs
done_over ran xs (after.Faulted fault place) other did = did xs

pub done_waits : (ran : List Command → Type 0) (xs : List Command) (a : After) → a ≡ after.Waiting → HasDone ran xs a → ran xs
done_waits ran xs a is did = subst (HasDone ran xs) is did

-- ---- the last line

ends_played : (result answer : Played) (line : List ℕ) (held now : Option (List ℕ)) (o o' : ℕ) (P : Type 0) → EndsWith result answer line held now o o' → WherePlayed answer P → WherePlayed result P
ends_played result answer line held now o o' P (inl e) is = subst (λ (p : Played). WherePlayed p P) (sym e.0) is
ends_played result answer line held now o o' P (inr e) is = subst (λ (p : Played). WherePlayed p P) (sym e.0) tt

answer_played : (a : After) (P : Type 0) → P → WherePlayed (after_answer a) P
answer_played after.Waiting P is = is
answer_played (after.Ended v) P is = is
answer_played (after.Faulted fault place) P is = is

pub stop_played : (s : Stop) (result : Played) (held now : Option (List ℕ)) (o o' : ℕ) (P : Type 0) → Finishes s result held now o o' → WhereStopped s P → WherePlayed result P
stop_played stop.Read result held now o o' P f is = subst (λ (p : Played). WherePlayed p P) (sym f.0) tt
stop_played stop.Write result held now o o' P f is = subst (λ (p : Played). WherePlayed p P) (sym f.0) tt
stop_played stop.End result held now o o' P f is = ends_played result played.Done _ held now o o' P f is
stop_played (stop.Bad number kind) result held now o o' P f is = ends_played result played.Script _ held now o o' P f is
stop_played (stop.Over a) result held now o o' P f is = ends_played result (after_answer a) _ held now o o' P f (answer_played a P is)
