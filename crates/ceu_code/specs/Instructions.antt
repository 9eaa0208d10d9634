-- Each instruction as bytes, and which operands it may have.
use Rattle.std.specs.Prelude.{ℕ, ◌^◌, ℤ, pos, List, [], ◌∷◌, ◌++◌, unsigned_abs}
use Rattle.std.specs.Int.{int_rem_euclid}
use Rattle.ceu_base.specs.declared.kinds.Op1.{Op1}
use Rattle.ceu_base.specs.declared.kinds.Op1.TheVariants.{Not, Neg, Compl}
use Rattle.ceu_base.specs.declared.kinds.Op2.{Op2}
use Rattle.ceu_base.specs.declared.kinds.Op2.TheVariants.{Or, And, Eq, Ne, Lt, Gt, Le, Ge, BitOr, BitXor, BitAnd, Shl, Shr, Add, Sub, Mul, Div, Rem}
use Rattle.ceu_code.specs.declared.instr.TimeUnit.{TimeUnit}
use Rattle.ceu_code.specs.declared.instr.TimeUnit.TheVariants.{H, Min, S, Ms, Us}
use Rattle.ceu_code.specs.declared.instr.Instr.{Instr}
use Rattle.ceu_code.specs.declared.instr.Instr.TheVariants as instr
use Rattle.ceu_code.specs.Table.{low_first, type_byte}
use Rattle.ceu_code.specs.Spelling.{half, word}

abbrev pub prefix_byte : Op1 → ℕ
prefix_byte Not = 0
prefix_byte Neg = 1
prefix_byte Compl = 2

-- `and` and `or` are jumps, and have no number
abbrev pub binary_byte : Op2 → ℕ
binary_byte Eq = 0
binary_byte Ne = 1
binary_byte Lt = 2
binary_byte Gt = 3
binary_byte Le = 4
binary_byte Ge = 5
binary_byte BitOr = 6
binary_byte BitXor = 7
binary_byte BitAnd = 8
binary_byte Shl = 9
binary_byte Shr = 10
binary_byte Add = 11
binary_byte Sub = 12
binary_byte Mul = 13
binary_byte Div = 14
binary_byte Rem = 15
binary_byte Or = 16
binary_byte And = 17

abbrev pub unit_byte : TimeUnit → ℕ
unit_byte H = 0
unit_byte Min = 1
unit_byte S = 2
unit_byte Ms = 3
unit_byte Us = 4

-- a value modulo 2^64
abbrev pub cell : ℤ → ℕ
cell v = unsigned_abs (int_rem_euclid v (pos (2 ^ 64)))

-- the bytes of an instruction: its opcode and its operands
abbrev pub spelled : Instr → List ℕ
spelled (instr.Push t v) = 1 ∷ type_byte t ∷ low_first 8 (cell v)
spelled (instr.Load t a) = 2 ∷ type_byte t ∷ half a
spelled (instr.LoadOuter t a) = 3 ∷ type_byte t ∷ half a
spelled (instr.Store t a) = 4 ∷ type_byte t ∷ half a
spelled (instr.StoreOuter t a) = 5 ∷ type_byte t ∷ half a
spelled (instr.Prefix o t p) = 6 ∷ prefix_byte o ∷ type_byte t ∷ half p
spelled (instr.Binary o t p) = 7 ∷ binary_byte o ∷ type_byte t ∷ half p
spelled (instr.Convert t u) = 8 ∷ type_byte t ∷ type_byte u ∷ []
spelled (instr.Jump c) = 9 ∷ half c
spelled (instr.JumpIfFalse c) = 10 ∷ half c
spelled (instr.Value t) = 11 ∷ type_byte t ∷ []
spelled instr.SetValue = 12 ∷ []
spelled (instr.Output k t) = (13 ∷ half k) ++ (type_byte t ∷ [])
spelled instr.End = 14 ∷ []
spelled (instr.WaitInput k) = 16 ∷ half k
spelled (instr.WaitTime u) = 17 ∷ unit_byte u ∷ []
spelled (instr.WaitEvent k) = 18 ∷ half k
spelled instr.WaitForever = 19 ∷ []
spelled instr.StartAsync = 20 ∷ []
spelled instr.YieldAsync = 21 ∷ []
spelled instr.EndAsync = 22 ∷ []
spelled (instr.Emit k t) = (23 ∷ half k) ++ (type_byte t ∷ [])
spelled (instr.Fork g c) = (24 ∷ half g) ++ half c
spelled (instr.Move g) = 25 ∷ half g
spelled instr.Halt = 26 ∷ []
spelled (instr.AbortGates g n) = (27 ∷ half g) ++ half n
spelled (instr.Register g c p) = ((28 ∷ half g) ++ half c) ++ half p
spelled instr.EndFinalizer = 29 ∷ []
spelled (instr.Call k a g) = ((30 ∷ half k) ++ half a) ++ half g
spelled instr.Return = 31 ∷ []
spelled (instr.MakePool a n k g) = (((32 ∷ half a) ++ half n) ++ half k) ++ half g
spelled (instr.Spawn k a n b p) = ((((33 ∷ half k) ++ half a) ++ half n) ++ half b) ++ half p
spelled (instr.Kill a) = 34 ∷ half a
spelled (instr.Alive a) = 35 ∷ half a
spelled (instr.RangeBound a d) = (36 ∷ half a) ++ (d ∷ [])
spelled (instr.RangeNext a i c) = ((37 ∷ half a) ++ half i) ++ half c
spelled (instr.Limit a n p) = ((38 ∷ half a) ++ word n) ++ half p

-- how many bytes an instruction has
abbrev pub size : Instr → ℕ
size (instr.Push t v) = 10
size (instr.Load t a) = 4
size (instr.LoadOuter t a) = 4
size (instr.Store t a) = 4
size (instr.StoreOuter t a) = 4
size (instr.Prefix o t p) = 5
size (instr.Binary o t p) = 5
size (instr.Convert t u) = 3
size (instr.Jump c) = 3
size (instr.JumpIfFalse c) = 3
size (instr.Value t) = 2
size (instr.Output k t) = 4
size (instr.WaitInput k) = 3
size (instr.WaitTime u) = 2
size (instr.WaitEvent k) = 3
size (instr.Emit k t) = 4
size (instr.Fork g c) = 5
size (instr.Move g) = 3
size (instr.AbortGates g n) = 5
size (instr.Register g c p) = 7
size (instr.Call k a g) = 7
size (instr.MakePool a n k g) = 9
size (instr.Spawn k a n b p) = 11
size (instr.Kill a) = 3
size (instr.Alive a) = 3
size (instr.RangeBound a d) = 4
size (instr.RangeNext a i c) = 7
size (instr.Limit a n p) = 9
size _ = 1

-- the instruction with another code operand, where it has one
abbrev pub with_target : Instr → ℕ → Instr
with_target (instr.Jump c) target = instr.Jump target
with_target (instr.JumpIfFalse c) target = instr.JumpIfFalse target
with_target (instr.Fork g c) target = instr.Fork g target
with_target (instr.Register g c p) target = instr.Register g target p
with_target (instr.RangeNext a i c) target = instr.RangeNext a i target
with_target other target = other
