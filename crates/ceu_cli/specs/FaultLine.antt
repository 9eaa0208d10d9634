-- The line on standard error, without its newline.
use Rattle.std.specs.Prelude.{ℕ, List, [], codes}
use Rattle.ceu_top.specs.declared.status.Status.{Status}
use Rattle.ceu_top.specs.declared.status.Status.TheVariants.{Done, Refused, Words, Script, Fault, Read, Write, Memory, Absent, TooLong}

abbrev pub fault_line : Status → List ℕ
fault_line Words = codes "ceu: Words"
fault_line Read = codes "ceu: Read"
fault_line Write = codes "ceu: Write"
fault_line Memory = codes "ceu: Memory"
fault_line Absent = codes "ceu: Absent"
fault_line TooLong = codes "ceu: TooLong"
fault_line Done = []
fault_line Refused = []
fault_line Script = []
fault_line Fault = []
