-- The machine's memory: a header, evaluation cells, gates and frames in one array of bytes.
use Rattle.std.specs.Prelude.{ℕ, ◌+◌, ◌-◌, ◌*◌, ◌^◌, ◌<◌, ℤ, pos, ◌-ℤ◌, nat_lt, if◌then◌else◌, List, unsigned_abs}
use Rattle.std.specs.Int.{int_rem_euclid}
use Rattle.ceu_base.specs.Values.{width, is_signed}
use Rattle.ceu_base.specs.declared.kinds.Ty.{Ty}
use Rattle.ceu_base.specs.declared.kinds.Ty.TheVariants as ty
use Rattle.ceu_mem.specs.declared.gate.Gate.{Gate}
use Rattle.ceu_mem.specs.Bytes.{number_at, with_number}

-- the bytes, and where the gates begin
pub record Space : Type 0 where
  pub bytes : List ℕ
  pub gates_at : ℕ

-- how many bytes a value has
abbrev pub size : Ty → ℕ
size ty.None = 0
size ty.Bool = 1
size ty.U8 = 1
size ty.S8 = 1
size ty.U16 = 2
size ty.S16 = 2
size ty.U32 = 4
size ty.S32 = 4
size ty.U64 = 8
size ty.S64 = 8

-- the number with these bits, in two's complement where the type is signed
abbrev pub with_sign : Ty → ℕ → ℤ
with_sign t n = if is_signed t then (if nat_lt n (2 ^ (width t - 1)) then pos n else pos n -ℤ pos (2 ^ width t)) else pos n

-- the number that the bytes at a place hold in a type: for bool the byte itself, for none 0
abbrev pub value_at : Ty → List ℕ → ℕ → ℤ
value_at t bytes at = with_sign t (number_at (size t) bytes at)

-- the bytes with a value of a type at a place, modulo 2 to the type's width
abbrev pub with_value : Ty → ℤ → List ℕ → ℕ → List ℕ
with_value t v bytes at = with_number (size t) (unsigned_abs (int_rem_euclid v (pos (2 ^ 64)))) bytes at

-- the gate i, where the gates begin at b
abbrev pub gate_at : ℕ → List ℕ → ℕ → Gate
gate_at b bytes i =
    let at = b + 19 * i in
    record {
      kind = number_at 1 bytes at;
      level = number_at 2 bytes (at + 1);
      code = number_at 2 bytes (at + 3);
      frame = number_at 2 bytes (at + 5);
      base = number_at 2 bytes (at + 7);
      key = number_at 2 bytes (at + 9);
      value = number_at 8 bytes (at + 11);
    }

abbrev pub with_gate_fields : Gate → List ℕ → ℕ → List ℕ
with_gate_fields gate bytes at =
    with_number 8 gate.value (with_number 2 gate.key (with_number 2 gate.base (with_number 2 gate.frame (with_number 2 gate.code
    (with_number 2 gate.level (with_number 1 gate.kind bytes at) (at + 1)) (at + 3)) (at + 5)) (at + 7)) (at + 9)) (at + 11)

abbrev pub with_gate : ℕ → Gate → List ℕ → ℕ → List ℕ
with_gate b gate bytes i = with_gate_fields gate bytes (b + 19 * i)

-- what a gate's fields may be
pub record IsGate (gate : Gate) : Type 0 where
  pub kind : gate.kind < 2 ^ 8
  pub level : gate.level < 2 ^ 16
  pub code : gate.code < 2 ^ 16
  pub frame : gate.frame < 2 ^ 16
  pub base : gate.base < 2 ^ 16
  pub key : gate.key < 2 ^ 16
  pub value : gate.value < 2 ^ 64
