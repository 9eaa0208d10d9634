-- The commands that a program with some inputs takes.
use Rattle.std.specs.Prelude.{◌<◌, ◌≤◌, List, length, IsTrue}
use Rattle.ceu_base.specs.Values.{is_value}
use Rattle.ceu_base.specs.declared.kinds.Port.{Port}
use Rattle.ceu_tree.specs.declared.command.Command.{Command}
use Rattle.ceu_tree.specs.declared.command.Command.TheVariants.{Input, Advance, Idle}
use Rattle.ceu_script.specs.Shapes.{type_at}
use Rattle.ceu_script.specs.declared.items.Item.{Item}
use Rattle.ceu_script.specs.declared.items.Item.TheVariants as item

-- an input of the program with a value of its type, a time of at most 2^63 - 1 microseconds, or some idle turns
abbrev pub IsCommand : List Port → Command → Type 0
IsCommand inputs (Input event v) = (event < length inputs) × IsTrue (is_value (type_at inputs event) v)
IsCommand inputs (Advance us) = us < 9223372036854775808
IsCommand inputs (Idle turns) = 1 ≤ turns

abbrev pub IfCommand : List Port → Item → Type 0
IfCommand inputs (item.Command command) = IsCommand inputs command
IfCommand inputs item.End = Unit {0}
IfCommand inputs (item.Bad n kind) = Unit {0}
