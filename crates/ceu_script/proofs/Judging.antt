-- The commands of the lines.
use Rattle.std.proofs.Common.{◌≡◌, ℕ, zero, suc, List, [], ◌∷◌, ◌++◌, Result, Ok, Err, refl, ap, ◌∙◌, replicate, map}
use Rattle.ceu_base.specs.declared.kinds.Port.{Port}
use Rattle.ceu_tree.specs.declared.command.Command.{Command}
use Rattle.ceu_script.specs.Lines.{Line, skipped, content, bad, until_bad, judged, of_command, script_lines, script, Comes, Spoils, Ends}
use Rattle.ceu_script.specs.Places.{Skips}
use Rattle.ceu_script.specs.Reader.{Script}
use Rattle.ceu_script.specs.Shapes.{command_of}
use Rattle.ceu_script.specs.declared.items.BadKind.{BadKind}

judge_skips : (inputs : List Port) (k : ℕ) (lines : List (Line (List ℕ))) → until_bad (map (judged inputs) (replicate k skipped ++ lines)) ≡ replicate k skipped ++ until_bad (map (judged inputs) lines)
judge_skips inputs zero lines = refl
judge_skips inputs (suc k) lines = ap (λ (l : List (Line Command)). skipped ∷ l) (judge_skips inputs k lines)

module _ (inputs : List Port) (s t : Script) (before after : ℕ) where
  pub command_comes : (text : List ℕ) (command : Command) → command_of text inputs ≡ Ok command → Comes text before after (script_lines s) (script_lines t) → Comes command before after (script inputs s) (script inputs t)
  unfolding script
  command_comes text command is line = record {
    skips = line.skips;
    counted = line.counted;
    lines_are = ap (λ (l : List (Line (List ℕ))). until_bad (map (judged inputs) l)) line.lines_are ∙ judge_skips inputs line.skips (content text ∷ script_lines t)
        ∙ ap (λ (q : Result Command BadKind). replicate line.skips skipped ++ until_bad (of_command q ∷ map (judged inputs) (script_lines t))) is;
  }

  pub line_spoils : (text : List ℕ) (kind : BadKind) → command_of text inputs ≡ Err kind → Comes text before after (script_lines s) (script_lines t) → Spoils kind before after (script inputs s)
  unfolding script
  line_spoils text kind is line = record {
    skips = line.skips;
    counted = line.counted;
    lines_are = ap (λ (l : List (Line (List ℕ))). until_bad (map (judged inputs) l)) line.lines_are ∙ judge_skips inputs line.skips (content text ∷ script_lines t)
        ∙ ap (λ (q : Result Command BadKind). replicate line.skips skipped ++ until_bad (of_command q ∷ map (judged inputs) (script_lines t))) is;
  }

  pub bad_spoils : (kind : BadKind) → Spoils kind before after (script_lines s) → Spoils kind before after (script inputs s)
  unfolding script
  bad_spoils kind line = record {
    skips = line.skips;
    counted = line.counted;
    lines_are = ap (λ (l : List (Line (List ℕ))). until_bad (map (judged inputs) l)) line.lines_are ∙ judge_skips inputs line.skips (bad kind ∷ []);
  }

  judge_all : (k : ℕ) → until_bad (map (judged inputs) (replicate k skipped)) ≡ replicate k skipped
  judge_all zero = refl
  judge_all (suc k) = ap (λ (l : List (Line Command)). skipped ∷ l) (judge_all k)

  pub script_ends : Ends before after (script_lines s) → Ends before after (script inputs s)
  unfolding script
  script_ends line = record {
    skips = line.skips;
    counted = line.counted;
    lines_are = ap (λ (l : List (Line (List ℕ))). until_bad (map (judged inputs) l)) line.lines_are ∙ judge_all line.skips;
  }

pub script_skips : (inputs : List Port) (s : Script) (before after : ℕ) → Skips before after (script_lines s) → Skips before after (script inputs s)
unfolding script
script_skips inputs s before after line = record {
  skips = line.skips;
  rest = until_bad (map (judged inputs) line.rest);
  counted = line.counted;
  lines_are = ap (λ (l : List (Line (List ℕ))). until_bad (map (judged inputs) l)) line.lines_are ∙ judge_skips inputs line.skips line.rest;
}
