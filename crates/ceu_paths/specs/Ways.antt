-- The exits as the code holds them, and which of them go out of a statement.
use Rattle.std.specs.Prelude.{Bool, not, ◌||◌, List, map}
use Rattle.ceu_tree.specs.Paths.{Way, ToEnd, ToEscape, ToBreak, ToContinue, is_end, is_escape, is_break, is_continue}
use Rattle.ceu_paths.specs.declared.ways.Exit.{Exit}
use Rattle.ceu_paths.specs.declared.ways.Exit.TheVariants as exit
use Rattle.ceu_paths.specs.declared.ways.Inside.{Inside}
use Rattle.ceu_paths.specs.declared.ways.Inside.TheVariants as inside

abbrev pub way : Exit → Way
way exit.End = ToEnd
way (exit.Escape n) = ToEscape n
way (exit.Break n) = ToBreak n
way (exit.Continue n) = ToContinue n

abbrev pub ways : List Exit → List Way
ways = map way

-- whether an exit is this one
abbrev pub is_way : Way → Way → Bool
is_way ToEnd w = is_end w
is_way (ToEscape n) w = is_escape n w
is_way (ToBreak n) w = is_break n w
is_way (ToContinue n) w = is_continue n w

-- whether an exit out of the parts of a statement leads out of the statement
abbrev pub goes_out : Inside → Way → Bool
goes_out inside.APar w = not (is_end w)
goes_out (inside.ADo n) w = not (is_end w || is_escape n w)
goes_out (inside.ALoop n) w = not (is_end w || is_break n w || is_continue n w)
