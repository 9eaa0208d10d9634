-- Which instructions have operands in range, so that their bytes are whole instructions of the table.
use Rattle.std.specs.Prelude.{◌≢◌, ℕ, ◌^◌, ◌<◌, ◌≤◌, List}
use Rattle.std.specs.List.{AllByRecursion}
use Rattle.ceu_base.specs.Values.{IsValue}
use Rattle.ceu_base.specs.declared.kinds.Ty.TheVariants as ty
use Rattle.ceu_code.specs.declared.instr.Instr.{Instr}
use Rattle.ceu_code.specs.declared.instr.Instr.TheVariants as instr
use Rattle.ceu_code.specs.Table.{IsInstruction, IsCode}
use Rattle.ceu_code.specs.Instructions.{spelled, binary_byte}
use Rattle.ceu_asm.specs.declared.line.Line.{Line}
use Rattle.ceu_asm.specs.Lines.{instructions, assembled}

abbrev Half : ℕ → Type 0
Half n = n < 2 ^ 16

-- types other than none, but for outputs and emissions; `and` and `or` are no operators; a pushed value is one of its type
abbrev pub IsInRange : Instr → Type 0
IsInRange (instr.Push t v) = (t ≢ ty.None) × IsValue t v
IsInRange (instr.Load t a) = (t ≢ ty.None) × Half a
IsInRange (instr.LoadOuter t a) = (t ≢ ty.None) × Half a
IsInRange (instr.Store t a) = (t ≢ ty.None) × Half a
IsInRange (instr.StoreOuter t a) = (t ≢ ty.None) × Half a
IsInRange (instr.Prefix o t p) = (t ≢ ty.None) × Half p
IsInRange (instr.Binary o t p) = (binary_byte o ≤ 15) × (t ≢ ty.None) × Half p
IsInRange (instr.Convert t u) = (t ≢ ty.None) × (u ≢ ty.None)
IsInRange (instr.Jump c) = Half c
IsInRange (instr.JumpIfFalse c) = Half c
IsInRange (instr.Value t) = t ≢ ty.None
IsInRange (instr.Output k t) = Half k
IsInRange (instr.WaitInput k) = Half k
IsInRange (instr.WaitEvent k) = Half k
IsInRange (instr.Emit k t) = Half k
IsInRange (instr.Fork g c) = Half g × Half c
IsInRange (instr.Move g) = Half g
IsInRange (instr.AbortGates g n) = Half g × Half n
IsInRange (instr.Register g c p) = Half g × Half c × Half p
IsInRange (instr.Call k a g) = Half k × Half a × Half g
IsInRange (instr.MakePool a n k g) = Half a × Half n × Half k × Half g
IsInRange (instr.Spawn k a n b p) = Half k × Half a × Half n × Half b × Half p
IsInRange (instr.Kill a) = Half a
IsInRange (instr.Alive a) = Half a
IsInRange (instr.RangeBound a d) = Half a × (d ≤ 2)
IsInRange (instr.RangeNext a i c) = Half a × Half i × Half c
IsInRange (instr.Limit a n p) = Half a × (n < 2 ^ 32) × Half p
IsInRange other = Unit {0}

-- an instruction in range is spelled as one of the table
abbrev pub AreOfTheTable : Type 0
AreOfTheTable = (i : Instr) → IsInRange i → IsInstruction (spelled i)

-- lines whose instructions are in range become whole instructions
abbrev pub BecomeWholeCode : Type 0
BecomeWholeCode = (lines : List Line) → AllByRecursion IsInRange (instructions lines) → IsCode (assembled lines)
